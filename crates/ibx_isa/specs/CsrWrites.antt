-- What a CSR instruction writes (Unprivileged ISA, 9.1).
use Rattle.std.specs.Prelude.{ℕ, ◌-◌, ◌^◌, Bool, true, not, ◌==◌, bit_and, bit_or}
use Rattle.ibx_isa.specs.declared.insn.CsrOp.{CsrOp}
use Rattle.ibx_isa.specs.declared.insn.CsrOp.TheVariants.{Write, Set, Clear}

-- CSRRS and CSRRC with a source field of 0 don't write
abbrev pub writes : CsrOp → ℕ → Bool
writes Write src = true
writes Set src = not (src == 0)
writes Clear src = not (src == 0)

-- what is handed to the write
abbrev pub written : CsrOp → ℕ → ℕ → ℕ
written Write old source = source
written Set old source = bit_or old source
written Clear old source = bit_and old (2 ^ 32 - 1 - source)
