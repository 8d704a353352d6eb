-- Memory over time: the portions of the stores so far, each with the cycle of its grant. Our own rule.
use Rattle.std.specs.Prelude.{ℕ, ◌+◌, ◌%◌, ◌^◌, Bool, true, false, nat_lt, if◌then◌else◌, List, [], ◌∷◌, Option, Some}
use Rattle.std.specs.Prelude.{None}
use Rattle.ibx_secded.specs.Code.{encode_of}
use Rattle.ibx_isa.specs.declared.event.Access.{Access}
use Rattle.ibx_isa.specs.declared.insn.Insn.{Insn}
use Rattle.ibx_isa.specs.declared.insn.Insn.TheVariants.{Load, Store}
use Rattle.ibx_isa.specs.Portions.{size_of}
use Rattle.ibx_isa.specs.Wires.{request_of}
use Rattle.ibx_plan.specs.declared.site.Wait.{Wait}
use Rattle.ibx_arch.specs.Memory.{Memory, with_bytes}
use Rattle.ibx_arch.specs.State.{State, reg}
use Rattle.ibx_time.specs.Items.{Portions, NoPortion, One, OneBad, Two, TwoBad}
use Rattle.ibx_time.specs.Requests.{Transaction, transaction}
use Rattle.ibx_time.specs.Times.{portion_number, portion_issue, portion_grant}
use Rattle.ibx_arch.specs.Writes.{PortionWrite, portion_write}

-- bytes number `from` up to `to` of a value, written by an access at addr in the cycle of a grant
pub record Write : Type 0 where
  pub time : ℕ
  pub addr : ℕ
  pub from : ℕ
  pub to : ℕ
  pub value : ℕ

-- memory before the write of cycle t; the last write stands first
unfoldable pub memory_at : Memory → List Write → ℕ → Memory
memory_at memory [] t = memory
memory_at memory (w ∷ ws) t =
    if nat_lt w.time t then with_bytes (memory_at memory ws t) w.addr w.from w.to w.value else memory_at memory ws t

-- the access of a load or store in this state
abbrev pub access_of : State → Option Insn → Option Access
access_of s (Some (Load op rd rs1 imm)) =
    Some (record { addr = (reg s rs1 + imm) % 2 ^ 32; size = size_of op; store = false; value = 0 })
access_of s (Some (Store size rs1 rs2 imm)) =
    Some (record { addr = (reg s rs1 + imm) % 2 ^ 32; size = size; store = true; value = reg s rs2 % 256 ^ size })
access_of s insn = None

-- a write of the architecture in the cycle of its grant
abbrev pub granted_at : ℕ → PortionWrite → Write
granted_at time w = record { time = time; addr = w.addr; from = w.from; to = w.to; value = w.value }

-- a portion of a store that enters at e, with n transactions of the port before it
abbrev pub write_of : List Wait → ℕ → ℕ → Access → Bool → Write
write_of waits n e a second = granted_at (portion_grant waits n e second) (portion_write a.addr a.size a.value second)

-- the writes of its portions, those that no memory answers among them, since only RAM takes bytes
unfoldable pub written_by : Portions → Bool → Write → Write → List Write → List Write
written_by portions false first second ws = ws
written_by NoPortion true first second ws = ws
written_by One true first second ws = first ∷ ws
written_by OneBad true first second ws = first ∷ ws
written_by Two true first second ws = second ∷ first ∷ ws
written_by TwoBad true first second ws = second ∷ first ∷ ws

-- the writes with those of an item's access, if it has one
abbrev pub writes_with : List Wait → ℕ → ℕ → Portions → Option Access → List Write → List Write
writes_with waits n e portions None ws = ws
writes_with waits n e portions (Some a) ws =
    written_by portions a.store (write_of waits n e a false) (write_of waits n e a true) ws

-- the transactions of its portions
abbrev pub portion_sent : List Wait → ℕ → ℕ → Access → Bool → Transaction
portion_sent waits n e a second =
    transaction waits (portion_number n second) (portion_issue waits n e second) (request_of (encode_of 32 7) a second)

-- the last transaction first, as many as there are portions
unfoldable pub sent_by : Portions → Transaction → Transaction → List Transaction → List Transaction
sent_by NoPortion first second sent = sent
sent_by One first second sent = first ∷ sent
sent_by OneBad first second sent = first ∷ sent
sent_by Two first second sent = second ∷ first ∷ sent
sent_by TwoBad first second sent = second ∷ first ∷ sent

-- the transactions with those of an item's access, if it has one
abbrev pub sent_with : List Wait → ℕ → ℕ → Portions → Option Access → List Transaction → List Transaction
sent_with waits n e portions None sent = sent
sent_with waits n e portions (Some a) sent =
    sent_by portions (portion_sent waits n e a false) (portion_sent waits n e a true) sent
