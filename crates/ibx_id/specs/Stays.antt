-- A stay in the stage: from the cycle in which an item enters to the one in which it is done. Our own rule.
use Rattle.std.specs.Prelude.{◌≡◌, ℕ, zero, suc, ◌+◌, ◌<◌, ◌≤◌, min, Bool, true, false, ◌||◌, Option, Some, None}
use Rattle.ibx_isa.specs.declared.insn.Insn.{Insn}
use Rattle.ibx_isa.specs.declared.insn.Insn.TheVariants.{Lui, Auipc, Jal, Jalr, Branch, Load, Store, AluImm, Alu}
use Rattle.ibx_isa.specs.declared.insn.Insn.TheVariants.{MulDiv, Csr, Fence, FenceI, Ecall, Ebreak, Mret, Wfi}
use Rattle.ibx_isa.specs.Alu.{branch_of}
use Rattle.ibx_id.specs.declared.stage.IdState.{IdState}
use Rattle.ibx_id.specs.declared.stage.IdIn.{IdIn}
use Rattle.ibx_id.specs.declared.stage.Turn.{Turn}
use Rattle.ibx_id.specs.declared.stage.Turn.TheVariants.{Hold, Retire, Trap, Irq, Dummy}
use Rattle.ibx_id.specs.Turns.{turn_of}

-- the inputs that may differ from cycle to cycle, by the cycle, counted from the one in which the item enters
pub record Wires : Type 0 where
  pub wake : ℕ → Bool
  pub answered : ℕ → Bool
  pub failed : ℕ → ℕ

-- all inputs of cycle n: the others are the same in each
abbrev pub input_in : IdIn → Wires → ℕ → IdIn
input_in i wires n = record i { wake = wires.wake n; ls_done = wires.answered n; ls_fault = wires.failed n }

-- what a turn leaves of a state
abbrev pub left_by : IdState → Turn → IdState
left_by st (Hold next) = next
left_by st turn = st

-- the state in cycle n of a stay
unfoldable pub stay : IdState → IdIn → Wires → ℕ → IdState
stay st i wires zero = st
stay st i wires (suc n) = left_by (stay st i wires n) (turn_of (stay st i wires n) (input_in i wires n))

-- what the stage does in that cycle
abbrev pub turn_in : IdState → IdIn → Wires → ℕ → Turn
turn_in st i wires n = turn_of (stay st i wires n) (input_in i wires n)

-- an item in the cycle in which it enters
pub record IsEntering (st : IdState) : Type 0 where
  pub valid : st.valid ≡ true
  pub phase : st.phase ≡ 0
  pub count : st.count ≡ 0

-- the item n cycles after st entered, in this phase; its count stands at 63
abbrev pub after : IdState → ℕ → ℕ → IdState
after st phase n = record st { phase = phase; count = min n 63 }

-- it was held in each cycle before n, and found no trap
abbrev pub IsThere : IdState → IdIn → Wires → ℕ → Type 0
IsThere st i wires n = (k : ℕ) → k < n → turn_in st i wires k ≡ Hold (after st 1 (k + 1))

-- it is done n cycles after it entered
pub record IsDone (st : IdState) (i : IdIn) (wires : Wires) (n : ℕ) (outcome : Turn) : Type 0 where
  pub there : IsThere st i wires n
  pub done : turn_in st i wires n ≡ outcome

-- a trap is found in cycle n, where the item goes to this phase, and done one cycle later
pub record IsTrapped (st : IdState) (i : IdIn) (wires : Wires) (n phase portion : ℕ) : Type 0 where
  pub found : turn_in st i wires n ≡ Hold (after st phase (n + 1))
  pub done : turn_in st i wires (n + 1) ≡ Trap portion

-- What the table of costs gives an instruction: the cycles beyond the first with whether it redirects, the answer of
-- the access's last part, or the first cycle that wakes. What always traps isn't in it.
pub data Cost : Type 0 where
  Takes : (cycles : ℕ) → (redirects : Bool) → Cost
  ToAnswer : Cost
  ToWake : Cost
  Unlisted : Cost

-- a branch redirects where it takes its one cycle
abbrev pub branch_cost : Bool → Cost
branch_cost true = Takes 1 true
branch_cost false = Takes 0 false

-- the table of costs
unfoldable pub cost_of : Option Insn → IdIn → Cost
cost_of (Some (Lui rd imm)) i = Takes 0 false
cost_of (Some (Auipc rd imm)) i = Takes 0 false
cost_of (Some (Jal rd imm)) i = Takes 0 true
cost_of (Some (Jalr rd rs1 imm)) i = Takes 0 true
cost_of (Some (Branch op rs1 rs2 imm)) i = branch_cost (i.fixed || branch_of op i.a i.b)
cost_of (Some (Load op rd rs1 imm)) i = ToAnswer
cost_of (Some (Store size rs1 rs2 imm)) i = ToAnswer
cost_of (Some (AluImm op rd rs1 imm)) i = Takes 0 false
cost_of (Some (Alu op rd rs1 rs2)) i = Takes 0 false
cost_of (Some (MulDiv op rd rs1 rs2)) i = Takes i.cost false
cost_of (Some (Csr op rd src imm addr)) i = Takes 0 false
cost_of (Some Fence) i = Takes 0 false
cost_of (Some FenceI) i = Takes 0 true
cost_of (Some Ecall) i = Unlisted
cost_of (Some Ebreak) i = Unlisted
cost_of (Some Mret) i = Takes 1 true
cost_of (Some Wfi) i = ToWake
cost_of None i = Unlisted

-- a cost is handed in for a multiplication or a division alone
abbrev pub IsCosted : Option Insn → ℕ → Type 0
IsCosted (Some (MulDiv op rd rs1 rs2)) cost = Unit {0}
IsCosted insn cost = cost ≡ 0

-- no portion failed in a cycle before n
abbrev pub IsSound : Wires → ℕ → Type 0
IsSound wires n = (k : ℕ) → k < n → wires.failed k ≡ 0

-- a wire was low in each cycle before n
abbrev pub IsLow : (ℕ → Bool) → ℕ → Type 0
IsLow test n = (k : ℕ) → k < n → test k ≡ false

-- An instruction without a trap of its own retires as the table says: after the cycles that it gives, or in the first
-- cycle in which its answer or its wake is there, and it waits until then.
pub record KeepsRow (st : IdState) (i : IdIn) (wires : Wires) : Type 0 where
  pub takes : (cycles : ℕ) (redirects : Bool) → cost_of i.insn i ≡ Takes cycles redirects → cycles < 64
      → IsSound wires (cycles + 1) → IsDone st i wires cycles (Retire redirects)
  pub awaits : (n : ℕ) → cost_of i.insn i ≡ ToAnswer → IsSound wires n → IsLow wires.answered n → IsThere st i wires n
  pub answered : (n : ℕ) → cost_of i.insn i ≡ ToAnswer → IsSound wires (n + 1) → IsLow wires.answered n
      → wires.answered n ≡ true → IsDone st i wires n (Retire false)
  pub sleeps : (n : ℕ) → cost_of i.insn i ≡ ToWake → IsSound wires n → IsLow wires.wake n → IsThere st i wires n
  pub woken : (n : ℕ) → cost_of i.insn i ≡ ToWake → IsSound wires (n + 1) → IsLow wires.wake n → wires.wake n ≡ true
      → IsDone st i wires n (Retire false)

-- A real item. A cause that the item brings is found as it enters, and a failed portion in any cycle in which it is
-- still there.
pub record KeepsReal (st : IdState) (i : IdIn) (wires : Wires) : Type 0 where
  pub row : i.trap ≡ None → IsCosted i.insn i.cost → KeepsRow st i wires
  pub trapped : (cause : ℕ) → i.trap ≡ Some cause → wires.failed 0 ≡ 0 → IsTrapped st i wires 0 4 0
  pub first : (n : ℕ) → IsThere st i wires n → wires.failed n ≡ 1 → IsTrapped st i wires n 2 1
  pub second : (n : ℕ) → IsThere st i wires n → wires.failed n ≡ 2 → IsTrapped st i wires n 3 2

-- An item that enters is done when the table of costs says. Costs are below 64, since the stage counts no further than
-- 63.
pub record KeepsCosts (st : IdState) (i : IdIn) (wires : Wires) : Type 0 where
  pub real : st.kind ≡ 0 → KeepsReal st i wires
  pub dummy : st.kind ≡ 1 → i.cost < 64 → IsDone st i wires i.cost Dummy
  pub irq : 2 ≤ st.kind → IsDone st i wires 0 Irq
