-- Why an event leaks: the first reason that holds, in a fixed order, and what is marked. Our own rule.
use Rattle.std.specs.Prelude.{◌≡◌, ℕ, ◌+◌, ◌%◌, ◌^◌, Bool, true, false, ◌&&◌, ◌==◌, if◌then◌else◌, List, [], ◌∷◌}
use Rattle.std.specs.Prelude.{Option, Some, None, take, is_some}
use Rattle.std.specs.List.{slice_get}
use Rattle.ibx_elf.specs.declared.ram.Ram.{Ram}
use Rattle.ibx_isa.specs.declared.insn.Insn.{Insn}
use Rattle.ibx_isa.specs.declared.insn.Insn.TheVariants as row
use Rattle.ibx_isa.specs.declared.insn.MulKind.{MulKind}
use Rattle.ibx_isa.specs.declared.event.Access.{Access}
use Rattle.ibx_isa.specs.declared.event.Event.{Event}
use Rattle.ibx_isa.specs.declared.event.Event.TheVariants.{Retire, Trap, Irq}
use Rattle.ibx_isa.specs.Lengths.{is_long}
use Rattle.ibx_isa.specs.Causes.{fetch_fault}
use Rattle.ibx_csr.specs.Table.{csr_of}
use Rattle.ibx_decoder.specs.Instructions.{instruction_of}
use Rattle.ibx_secret.specs.declared.leak.Leak.{Leak}
use Rattle.ibx_secret.specs.declared.leak.Reason.{Reason}
use Rattle.ibx_secret.specs.declared.leak.Reason.TheVariants.{Fetch, Branch, Jump, Load, Store, Cost, Csr, Return, Halt}
use Rattle.ibx_secret.specs.declared.leak.What.{What}
use Rattle.ibx_secret.specs.declared.leak.What.TheVariants.{Half, Reg, Mepc}
use Rattle.ibx_secret.specs.Marks.{Marks, marks_after, word_of}
use Rattle.ibx_secret.specs.Leaks.{hangs, is_blind, is_guarded_in, is_marked_half, leaks, names_halt}
use Rattle.ibx_secret.specs.Runs.{has_leak, marks_end}

-- a leak where something is marked
abbrev pub leak_if : Bool → Reason → What → Option Leak
leak_if true reason what = Some (record { reason = reason; what = what })
leak_if false reason what = None

-- the first of two leaks that is there
abbrev pub first_of : Option Leak → Option Leak → Option Leak
first_of (Some leak) other = Some leak
first_of None other = other

-- a register is marked
abbrev pub leak_reg : Marks → Reason → ℕ → Option Leak
leak_reg m reason n = leak_if (m.reg n) reason (Reg n)

-- a byte of the halfword at an address was ever marked
abbrev pub leak_half : Marks → ℕ → Option Leak
leak_half m addr = leak_if (is_marked_half m addr) Fetch (Half addr)

-- the second halfword of an instruction counts where it has one
abbrev pub leak_second : Marks → Bool → ℕ → Option Leak
leak_second m true addr = leak_half m addr
leak_second m false addr = None

-- the halfwords of an instruction with a word that was fetched at a program counter, the first before the second
abbrev pub leak_word : Marks → ℕ → ℕ → Option Leak
leak_word m pc word = first_of (leak_half m pc) (leak_second m (is_long word) ((pc + 2) % 2 ^ 32))

-- what was fetched: an unsound first parcel isn't looked at, and an interrupt may have come before a second word
abbrev pub leak_fetched : Marks → Event → Option Leak
leak_fetched m (Retire cycle pc word rd value mem ctl ops) = leak_word m pc word
leak_fetched m (Trap cycle pc word cause tval addr) =
    if cause == fetch_fault && tval == pc then None else leak_word m pc word
leak_fetched m (Irq cycle pc cause) = leak_half m pc

-- the operands of an instruction that retires, with its access
abbrev pub leak_retired : MulKind → Marks → Option Insn → Option Access → Option (ℕ × ℕ) → Option Leak
leak_retired mul m (Some (row.Branch op rs1 rs2 imm)) mem ops = first_of (leak_reg m Branch rs1) (leak_reg m Branch rs2)
leak_retired mul m (Some (row.Load op rd rs1 imm)) mem ops = leak_reg m Load rs1
leak_retired mul m (Some (row.Store size rs1 rs2 imm)) mem ops =
    first_of (leak_reg m Store rs1) (leak_if (names_halt mem && m.reg rs2) Halt (Reg rs2))
leak_retired mul m (Some (row.MulDiv op rd rs1 rs2)) mem ops =
    leak_if (m.reg rs2 && hangs op (is_blind ops) mul) Cost (Reg rs2)
leak_retired mul m (Some (row.Jalr rd rs1 imm)) mem ops = leak_reg m Jump rs1
leak_retired mul m (Some (row.Csr op rd src false addr)) mem ops =
    leak_if (m.reg src && is_guarded_in (csr_of addr)) Csr (Reg src)
leak_retired mul m (Some row.Mret) mem ops = leak_if m.mepc Return Mepc
leak_retired mul m insn mem ops = None

-- the address of a load or store that traps
abbrev pub leak_trapped : Marks → Option Insn → Option Leak
leak_trapped m (Some (row.Load op rd rs1 imm)) = leak_reg m Load rs1
leak_trapped m (Some (row.Store size rs1 rs2 imm)) = leak_reg m Store rs1
leak_trapped m insn = None

-- the operands of an event, by the instruction of its word
abbrev pub leak_by : MulKind → Marks → Option Insn → Event → Option Leak
leak_by mul m insn (Retire cycle pc word rd value mem ctl ops) = leak_retired mul m insn mem ops
leak_by mul m insn (Trap cycle pc word cause tval addr) = leak_trapped m insn
leak_by mul m insn (Irq cycle pc cause) = None

-- the leak of an event, if there is one: what was fetched before its operands
unfoldable pub leak_of : MulKind → Marks → Event → Option Leak
leak_of mul m e = first_of (leak_fetched m e) (leak_by mul m (instruction_of (word_of e)) e)

-- the leak of an event with this index, or that of the events after it
abbrev pub leak_here : ℕ → Option Leak → Option (ℕ × Leak) → Option (ℕ × Leak)
leak_here at (Some leak) rest = Some (at, leak)
leak_here at None rest = rest

-- the first of events that leaks, by its index, with the marks before the events, the first of which has an index
unfoldable pub first_leak : ℕ → Ram → MulKind → Marks → List Event → Option (ℕ × Leak)
first_leak at ram mul m [] = None
first_leak at ram mul m (e ∷ es) = leak_here at (leak_of mul m e) (first_leak (at + 1) ram mul (marks_after ram m e) es)

-- ---- what an answer means

-- an event leaks exactly where it has a reason
abbrev pub TellsLeaks : Type 0
TellsLeaks = (mul : MulKind) (m : Marks) (e : Event) → leaks mul m e ≡ is_some (leak_of mul m e)

-- the leak of the event that there may be
abbrev pub leak_in : MulKind → Marks → Option Event → Option Leak
leak_in mul m None = None
leak_in mul m (Some e) = leak_of mul m e

-- none of the events leaks; or none before an index does, and the one at it has this leak
abbrev pub IsFirstLeak : Ram → MulKind → Marks → List Event → Option (ℕ × Leak) → Type 0
IsFirstLeak ram mul m es None = has_leak ram mul m es ≡ false
IsFirstLeak ram mul m es (Some (at, leak)) =
    (has_leak ram mul m (take at es) ≡ false)
    × (leak_in mul (marks_end ram m (take at es)) (slice_get es at) ≡ Some leak)

-- so each answer is the first leak
abbrev pub FindsLeak : Type 0
FindsLeak = (ram : Ram) (mul : MulKind) (m : Marks) (es : List Event)
    → IsFirstLeak ram mul m es (first_leak 0 ram mul m es)
