-- What of an event may depend on secret bytes, besides the values that it computes, loads and stores. Our own rule.
use Rattle.std.specs.Prelude.{ℕ, ◌+◌, ◌%◌, ◌^◌, Bool, true, false, not, ◌&&◌, ◌||◌, ◌==◌, Option, Some, None}
use Rattle.ibx_bits.specs.Platform.{halt_register}
use Rattle.ibx_isa.specs.declared.insn.Insn.{Insn}
use Rattle.ibx_isa.specs.declared.insn.Insn.TheVariants.{Jalr, Branch, Load, Store, MulDiv, Csr, Mret}
use Rattle.ibx_isa.specs.declared.insn.MdOp.{MdOp}
use Rattle.ibx_isa.specs.declared.insn.MulKind.{MulKind}
use Rattle.ibx_isa.specs.declared.event.Access.{Access}
use Rattle.ibx_isa.specs.declared.event.Event.{Event}
use Rattle.ibx_isa.specs.declared.event.Event.TheVariants.{Retire, Trap, Irq}
use Rattle.ibx_isa.specs.Cost.{md_cost_of}
use Rattle.ibx_isa.specs.Lengths.{is_long}
use Rattle.ibx_isa.specs.Causes.{fetch_fault}
use Rattle.ibx_csr.specs.declared.name.Csr.{Csr as Register}
use Rattle.ibx_csr.specs.declared.name.Csr.TheVariants.{Mstatus, Mie, Mtvec, Mcountinhibit, Pmpcfg, Pmpaddr, Cpuctrl}
use Rattle.ibx_csr.specs.declared.name.Csr.TheVariants.{Secureseed, Mseccfg}
use Rattle.ibx_csr.specs.Table.{csr_of}
use Rattle.ibx_decoder.specs.Instructions.{instruction_of}
use Rattle.ibx_secret.specs.Marks.{Marks, is_any, word_of}

-- The CSRs to which nothing marked may be written: they decide the path, protection, time, and what is counted.
abbrev pub is_guarded : Register → Bool
is_guarded Mstatus = true
is_guarded Mie = true
is_guarded Mtvec = true
is_guarded Mcountinhibit = true
is_guarded (Pmpcfg k) = true
is_guarded (Pmpaddr k) = true
is_guarded Cpuctrl = true
is_guarded Secureseed = true
is_guarded Mseccfg = true
is_guarded c = false

-- the same where there may be no register
abbrev pub is_guarded_in : Option Register → Bool
is_guarded_in None = false
is_guarded_in (Some c) = is_guarded c

-- the cost of an operation hangs on its second operand: it isn't the same for 0 and 1
abbrev pub hangs : MdOp → Bool → MulKind → Bool
hangs op fixed mul = not (md_cost_of op 0 fixed mul == md_cost_of op 1 fixed mul)

-- a word store to the host's register ends the run, or doesn't, by its value
abbrev pub names_halt : Option Access → Bool
names_halt None = false
names_halt (Some a) = a.size == 4 && a.addr == halt_register

-- fixed timing was on
abbrev pub is_blind : Option (ℕ × ℕ) → Bool
is_blind None = true
is_blind (Some ops) = false

-- an instruction that retires, with its access and operands
abbrev pub leaks_retired : MulKind → Marks → Option Insn → Option Access → Option (ℕ × ℕ) → Bool
leaks_retired mul m (Some (Branch op rs1 rs2 imm)) mem ops = m.reg rs1 || m.reg rs2
leaks_retired mul m (Some (Load op rd rs1 imm)) mem ops = m.reg rs1
leaks_retired mul m (Some (Store size rs1 rs2 imm)) mem ops = m.reg rs1 || (names_halt mem && m.reg rs2)
leaks_retired mul m (Some (MulDiv op rd rs1 rs2)) mem ops = m.reg rs2 && hangs op (is_blind ops) mul
leaks_retired mul m (Some (Jalr rd rs1 imm)) mem ops = m.reg rs1
leaks_retired mul m (Some (Csr op rd src false addr)) mem ops = m.reg src && is_guarded_in (csr_of addr)
leaks_retired mul m (Some Mret) mem ops = m.mepc
leaks_retired mul m insn mem ops = false

-- an instruction that traps
abbrev pub leaks_trapped : Marks → Option Insn → Bool
leaks_trapped m (Some (Load op rd rs1 imm)) = m.reg rs1
leaks_trapped m (Some (Store size rs1 rs2 imm)) = m.reg rs1
leaks_trapped m insn = false

-- an event, by the instruction of its word, leaks by its operands
abbrev pub leaks_by : MulKind → Marks → Option Insn → Event → Bool
leaks_by mul m insn (Retire cycle pc word rd value mem ctl ops) = leaks_retired mul m insn mem ops
leaks_by mul m insn (Trap cycle pc word cause tval addr) = leaks_trapped m insn
leaks_by mul m insn (Irq cycle pc cause) = false

-- a byte of the halfword at an address was ever marked
abbrev pub is_marked_half : Marks → ℕ → Bool
is_marked_half m addr = is_any m.ever addr 2

-- the halfwords of an instruction with a word that was fetched at a program counter
abbrev pub is_marked_word : Marks → ℕ → ℕ → Bool
is_marked_word m pc word = is_marked_half m pc || (is_long word && is_marked_half m ((pc + 2) % 2 ^ 32))

-- An event leaks by what was fetched: an unsound first parcel isn't looked at, and with an unsound second one the first
-- was; an interrupt may have come only since the instruction waited for a second word.
abbrev pub leaks_fetched : Marks → Event → Bool
leaks_fetched m (Retire cycle pc word rd value mem ctl ops) = is_marked_word m pc word
leaks_fetched m (Trap cycle pc word cause tval addr) =
    not (cause == fetch_fault && tval == pc) && is_marked_word m pc word
leaks_fetched m (Irq cycle pc cause) = is_marked_half m pc

-- an event leaks
unfoldable pub leaks : MulKind → Marks → Event → Bool
leaks mul m e = leaks_fetched m e || leaks_by mul m (instruction_of (word_of e)) e
