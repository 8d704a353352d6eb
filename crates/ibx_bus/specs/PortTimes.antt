-- The times of a port over every list of calls. Our own rule.
use Rattle.std.specs.Prelude.{◌≡◌, ℕ, suc, ◌+◌, ◌%◌, Bool, true, false, not, ◌&&◌, ◌||◌, nat_lt, List, [], ◌∷◌, ◌++◌}
use Rattle.std.specs.Prelude.{length}
use Rattle.ibx_isa.specs.declared.bus.Req.{Req}
use Rattle.ibx_isa.specs.declared.bus.Rsp.{Rsp}
use Rattle.ibx_plan.specs.declared.site.Wait.{Wait}
use Rattle.ibx_bus.specs.Memory.{MemoryState, error_of, answered_word}
use Rattle.ibx_bus.specs.Port.{PortState, answers, grants, new_port, port_next, wait_at}

-- one call: the wires of the cycle and the memory, in which the other port may have stored since the last call
pub record Call : Type 0 where
  pub request : Req
  pub memory : MemoryState

-- what is seen in one call: whether there is a request, a grant and an answer
pub record Seen : Type 0 where
  pub request : Bool
  pub grant : Bool
  pub answer : Bool

-- what is seen in these calls, one a cycle
unfoldable pub trace : List Call → PortState → List Seen
trace [] p = []
trace (c ∷ cs) p =
    record { request = c.request.valid; grant = grants c.request.valid p; answer = answers p }
    ∷ trace cs (port_next p c.memory c.request)

-- The cycles of the issues, grants and answers, from cycle c on. A request is an issue where none was held.
abbrev pub in_front_if : {A : Type 0} → Bool → A → List A → List A
in_front_if true c cs = c ∷ cs
in_front_if false c cs = cs

-- the cycles of the issues: a request that is held ungranted from the cycle before is no new one
unfoldable pub issues : ℕ → Bool → List Seen → List ℕ
issues c held [] = []
issues c held (w ∷ ws) = in_front_if (w.request && not held) c (issues (c + 1) (w.request && not w.grant) ws)

-- the cycles of the grants, the first call being that of cycle c
unfoldable pub granted_in : ℕ → List Seen → List ℕ
granted_in c [] = []
granted_in c (w ∷ ws) = in_front_if w.grant c (granted_in (c + 1) ws)

-- the cycles of the answers, counted in the same way
unfoldable pub answered_in : ℕ → List Seen → List ℕ
answered_in c [] = []
answered_in c (w ∷ ws) = in_front_if w.answer c (answered_in (c + 1) ws)

-- A request is held until it is granted, and none is made between a grant and the cycle of its answer.
unfoldable pub IsPolite : Bool → Bool → List Seen → Type 0
IsPolite held pending [] = Unit {0}
IsPolite held pending (w ∷ ws) =
    (held ≡ true → w.request ≡ true) × ((pending && not w.answer) ≡ true → w.request ≡ false)
    × IsPolite (w.request && not w.grant) (w.grant || (pending && not w.answer)) ws

-- the waits of transaction n: entry n modulo the length of the list
unfoldable pub waits_of : List Wait → ℕ → Wait
waits_of waits n = wait_at waits (n % length waits)

-- transaction n, issued at t, is granted at t + g
unfoldable pub grant_time : List Wait → ℕ → ℕ → ℕ
grant_time waits n t = t + (waits_of waits n).grant

-- and answered at t + g + 1 + w
unfoldable pub answer_time : List Wait → ℕ → ℕ → ℕ
answer_time waits n t = grant_time waits n t + 1 + (waits_of waits n).answer

-- the grants and answers of transactions that are issued at these times, the first of them number n
unfoldable pub grant_times : List Wait → ℕ → List ℕ → List ℕ
grant_times waits n [] = []
grant_times waits n (t ∷ ts) = grant_time waits n t ∷ grant_times waits (suc n) ts

-- each is answered at least one cycle after its grant
unfoldable pub answer_times : List Wait → ℕ → List ℕ → List ℕ
answer_times waits n [] = []
answer_times waits n (t ∷ ts) = answer_time waits n t ∷ answer_times waits (suc n) ts

-- those before the end of the trace
unfoldable pub below : ℕ → List ℕ → List ℕ
below limit [] = []
below limit (t ∷ ts) = in_front_if (nat_lt t limit) t (below limit ts)

-- what a new port shows in these calls
abbrev pub trace_of : List Wait → List Call → List Seen
trace_of waits calls = trace calls (new_port waits)

-- the grants are those of the transactions that were issued, and there are no others
abbrev pub GrantsInTime : List Wait → List Call → Type 0
GrantsInTime waits calls =
    IsPolite false false (trace_of waits calls) →
    granted_in 0 (trace_of waits calls)
    ≡ below (length calls) (grant_times waits 0 (issues 0 false (trace_of waits calls)))

-- so are the answers
abbrev pub AnswersInTime : List Wait → List Call → Type 0
AnswersInTime waits calls =
    IsPolite false false (trace_of waits calls) →
    answered_in 0 (trace_of waits calls)
    ≡ below (length calls) (answer_times waits 0 (issues 0 false (trace_of waits calls)))

-- ---- what the answers carry

-- the answers of the transactions that are granted in these calls, each by the memory and the wires of its grant
unfoldable pub granted_answers : List Call → PortState → List Rsp
granted_answers [] p = []
granted_answers (c ∷ cs) p =
    in_front_if (grants c.request.valid p)
    (record { valid = true; err = error_of c.memory c.request; word = answered_word c.memory c.request })
    (granted_answers cs (port_next p c.memory c.request))

-- the answers that are seen in these calls
unfoldable pub answers_shown : List Call → PortState → List Rsp
answers_shown [] p = []
answers_shown (c ∷ cs) p =
    in_front_if (answers p) (record { valid = true; err = p.err; word = p.word })
    (answers_shown cs (port_next p c.memory c.request))

-- the port after these calls
unfoldable pub port_after : List Call → PortState → PortState
port_after [] p = p
port_after (c ∷ cs) p = port_after cs (port_next p c.memory c.request)

-- the answer of the transaction that is granted and not answered yet, if there is one
abbrev pub unanswered : PortState → List Rsp
unanswered p = in_front_if p.busy (record { valid = true; err = p.err; word = p.word }) []

-- whatever the requests, each grant has one answer, in order, but for the last while it is open
abbrev pub AnswersInOrder : List Wait → List Call → Type 0
AnswersInOrder waits calls =
    granted_answers calls (new_port waits)
    ≡ answers_shown calls (new_port waits) ++ unanswered (port_after calls (new_port waits))
