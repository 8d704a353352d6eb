-- One port of the bus, a cycle at a time. Our own rule.
use Rattle.std.specs.Prelude.{◌≡◌, ℕ, ◌+◌, ◌-◌, ◌<◌, ◌≤◌, ◌^◌, ◌==◌, Bool, true, false, not, ◌&&◌, nat_lt}
use Rattle.std.specs.Prelude.{if◌then◌else◌, List, length, get_or, bit_xor}
use Rattle.ibx_isa.specs.declared.bus.Req.{Req}
use Rattle.ibx_isa.specs.declared.bus.Rsp.{Rsp}
use Rattle.ibx_plan.specs.declared.site.Wait.{Wait}
use Rattle.ibx_secded.specs.Code.{encode_of}
use Rattle.ibx_bus.specs.Memory.{MemoryState, error_of, answered_word}

-- The list of waits and the place in it of the next transaction; the waited cycles of the request; whether a
-- transaction is granted and not answered before this cycle, and how many cycles after this one it answers; whether
-- the last transaction's answer is an error, and its word.
pub record PortState : Type 0 where
  pub waits : List Wait
  pub place : ℕ
  pub waited : ℕ
  pub busy : Bool
  pub left : ℕ
  pub err : Bool
  pub word : ℕ

-- the waits at a place of the list; an empty list stands for one entry without waits
abbrev pub wait_at : List Wait → ℕ → Wait
wait_at waits place = get_or waits place (record { grant = 0; answer = 0 })

-- the list is gone through again and again
abbrev pub next_place : List Wait → ℕ → ℕ
next_place waits place = if nat_lt (place + 1) (length waits) then place + 1 else 0

-- a port that has had no request
abbrev pub new_port : List Wait → PortState
new_port waits =
    record { waits = waits; place = 0; waited = 0; busy = false; left = 0; err = false; word = encode_of 32 7 0 }

-- whether a transaction answers in this cycle
abbrev pub answers : PortState → Bool
answers p = p.busy && p.left == 0

-- the wires of the answer
unfoldable pub answer_wires : PortState → Rsp
answer_wires p =
    if answers p then record { valid = true; err = p.err; word = p.word }
    else record { valid = false; err = false; word = 0 }

-- whether a transaction is granted and unanswered after this cycle's answer
abbrev pub is_blocked : PortState → Bool
is_blocked p = p.busy && not (p.left == 0)

-- whether the request has waited as long as it has to
abbrev pub is_wait_over : PortState → Bool
is_wait_over p = p.waited == (wait_at p.waits p.place).grant

-- whether a request is granted in this cycle
abbrev pub grants : Bool → PortState → Bool
grants request p = not (is_blocked p) && (request && is_wait_over p)

-- What a cycle leaves, by whether the port is blocked, whether there is a request and whether its wait is over, with
-- the error and the word of the answer if it is granted.
unfoldable pub port_moves : Bool → Bool → Bool → PortState → Bool → ℕ → PortState
port_moves true _ _ p err word = record p { left = p.left - 1 }
port_moves false false _ p err word = record p { waited = 0; busy = false }
port_moves false true false p err word = record p { waited = p.waited + 1; busy = false }
port_moves false true true p err word =
    record p {
      place = next_place p.waits p.place;
      waited = 0;
      busy = true;
      left = (wait_at p.waits p.place).answer;
      err = err;
      word = word;
    }

-- the port after a cycle with these wires; a grant keeps what memory answers in this cycle
abbrev pub port_next : PortState → MemoryState → Req → PortState
port_next p m r = port_moves (is_blocked p) r.valid (is_wait_over p) p (error_of m r) (answered_word m r)

-- a port whose counts are those of its list: none is waited for while a transaction is open
pub record IsPort (p : PortState) : Type 0 where
  pub place : p.place ≤ length p.waits - 1
  pub waited : p.waited ≤ (wait_at p.waits p.place).grant
  pub rests : p.busy ≡ true → p.waited ≡ 0
  pub word : p.word < 2 ^ 39

-- one bit of the kept answer word is changed
abbrev pub port_flip : PortState → ℕ → PortState
port_flip p bit = record p { word = bit_xor p.word (2 ^ bit) }
