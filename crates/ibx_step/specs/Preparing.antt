-- What was fetched is decoded before it is known whether a step is taken.
use Rattle.std.specs.Prelude.{ℕ, ◌≤◌, Bool, false, Option, Some, None}
use Rattle.ibx_isa.specs.declared.insn.Insn.{Insn}
use Rattle.ibx_isa.specs.Causes.{fetch_fault}
use Rattle.ibx_isa.specs.Lengths.{IsWordOrHalf}
use Rattle.ibx_isa.specs.WellFormed.{IsWellFormed}
use Rattle.ibx_csr.specs.Values.{CsrValues}
use Rattle.ibx_decoder.specs.Instructions.{instruction_of}
use Rattle.ibx_arch.specs.declared.fetched.Fetched.{Fetched}
use Rattle.ibx_arch.specs.declared.fetched.Fetched.TheVariants.{Unsound, Instruction}
use Rattle.ibx_arch.specs.State.{State}
use Rattle.ibx_arch.specs.Effects.{execute, trap, illegal}
use Rattle.ibx_arch.specs.Step.{Stepped, finished, operands, is_wait}
use Rattle.ibx_step.specs.declared.fetch.Prepared.{Prepared}
use Rattle.ibx_step.specs.declared.fetch.Prepared.TheVariants.{Unsound as Refused, Illegal, Legal}

-- a word with its length in bytes, decoded
abbrev pub decoded_word : ℕ → ℕ → Option Insn → Prepared
decoded_word word length None = Illegal word
decoded_word word length (Some insn) = Legal insn word length

-- what was fetched, decoded
unfoldable pub prepared_from : Fetched → Prepared
prepared_from (Unsound addr) = Refused addr
prepared_from (Instruction word length) = decoded_word word length (instruction_of word)

-- the step with what was fetched and decoded
unfoldable pub carried_out : State → ℕ → ℕ → Prepared → Stepped
carried_out s cycle lines (Refused addr) = finished s.pc s.regs cycle 0 None (trap s fetch_fault addr 0)
carried_out s cycle lines (Illegal word) = finished s.pc s.regs cycle word None (illegal s word)
carried_out s cycle lines (Legal insn word length) =
    finished s.pc s.regs cycle word (operands s insn) (execute s insn word length lines)

-- a WFI that isn't illegal, and so waits for an interrupt
abbrev pub is_wait_of : CsrValues → Prepared → Bool
is_wait_of csrs (Refused addr) = false
is_wait_of csrs (Illegal word) = false
is_wait_of csrs (Legal insn word length) = is_wait csrs (Some insn)

-- a decoded instruction has 2 or 4 bytes, and operands that it can have
abbrev pub IsSound : Prepared → Type 0
IsSound (Refused addr) = Unit {0}
IsSound (Illegal word) = IsWordOrHalf word
IsSound (Legal insn word length) = (length ≤ 4) × IsWordOrHalf word × IsWellFormed insn
