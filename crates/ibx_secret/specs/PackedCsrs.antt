-- The marks of the CSRs as the code keeps them. Our own rule.
use Rattle.std.specs.Prelude.{false}
use Rattle.ibx_secret.specs.declared.kept.CsrMarks.{CsrMarks}
use Rattle.ibx_secret.specs.Marks.{Marks}

-- those among all marks
abbrev pub csr_marks : Marks → CsrMarks
csr_marks m = record {
  mscratch = m.mscratch;
  mepc = m.mepc;
  mcause = m.mcause;
  mtval = m.mtval;
  mcycle = m.mcycle;
  minstret = m.minstret;
}

-- none is marked, as at reset
abbrev pub no_marks : CsrMarks
no_marks =
    record { mscratch = false; mepc = false; mcause = false; mtval = false; mcycle = false; minstret = false }
