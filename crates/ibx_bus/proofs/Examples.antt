-- The worked times, computed by the checker: the list (2, 1), (0, 0), and loads that are issued at cycles 0, 4 and 5.
use Rattle.std.proofs.Common.{◌≡◌, false, List, [], ◌∷◌, refl}
use Rattle.ibx_isa.specs.declared.bus.Req.{Req}
use Rattle.ibx_plan.specs.declared.site.Wait.{Wait}
use Rattle.ibx_bus.specs.Port.{port_moves}
use Rattle.ibx_bus.specs.PortTimes.{Call, IsPolite, answered_in, granted_in, issues, trace, trace_of, grant_times}
use Rattle.ibx_bus.specs.PortTimes.{answer_times, grant_time, answer_time, waits_of}
use Rattle.ibx_isa.specs.Wires.{fetch_wires, no_request}

-- the list of waits: the first transaction waits for its grant and for its answer, the second for neither
abbrev waits : List Wait
waits = record { grant = 2; answer = 1 } ∷ record { grant = 0; answer = 0 } ∷ []

-- a call with this request, where memory is empty
abbrev call : Req → Call
call r = record { request = r; memory = record { base = 0; words = [] } }

-- a call that requests the word at 0
abbrev asks : Call
asks = call (fetch_wires 0)

-- a call without a request
abbrev rests : Call
rests = call no_request

-- the ten calls, in cycles 0 to 9
abbrev calls : List Call
calls = asks ∷ asks ∷ asks ∷ rests ∷ asks ∷ asks ∷ asks ∷ asks ∷ rests ∷ rests ∷ []

-- these calls are polite: a request stays until its grant, and the next one waits for the answer
polite : IsPolite false false (trace_of waits calls)
unfolding IsPolite trace port_moves
polite = (
  λ e. cc,
  λ e. cc,
  (
    λ e. cc,
    λ e. cc,
    (
      λ e. cc,
      λ e. cc,
      (
        λ e. cc,
        λ e. cc,
        (
          λ e. cc,
          λ e. cc,
          (λ e. cc, λ e. cc, (λ e. cc, λ e. cc, (λ e. cc, λ e. cc, (λ e. cc, λ e. cc, (λ e. cc, λ e. cc, tt))))),
        ),
      ),
    ),
  ),
)

-- the three loads are issued at cycles 0, 4 and 5
issued : issues 0 false (trace_of waits calls) ≡ 0 ∷ 4 ∷ 5 ∷ []
unfolding issues trace port_moves
issued = refl

-- they are granted at 2, 4 and 7, the third by the first entry again
grant_cycles : granted_in 0 (trace_of waits calls) ≡ 2 ∷ 4 ∷ 7 ∷ []
unfolding granted_in trace port_moves
grant_cycles = refl

-- they are answered at 4, 5 and 9
answer_cycles : answered_in 0 (trace_of waits calls) ≡ 4 ∷ 5 ∷ 9 ∷ []
unfolding answered_in trace port_moves
answer_cycles = refl

-- the rule gives the same cycles from the three issues alone
times : (grant_times waits 0 (0 ∷ 4 ∷ 5 ∷ []) ≡ 2 ∷ 4 ∷ 7 ∷ []) × (answer_times waits 0 (0 ∷ 4 ∷ 5 ∷ []) ≡ 4 ∷ 5 ∷ 9 ∷
    [])
unfolding grant_times answer_times grant_time answer_time waits_of
times = (refl, refl)
