-- CSRs that agree off their marks: a read, a cycle, a write, a trap, a return.
use Rattle.std.proofs.Common.{◌≡◌, ℕ, ◌/◌, ◌%◌, ◌^◌, ◌∙◌, Bool, true, false, List, Option, refl}
use Rattle.std.proofs.Common.{◌==◌, ap, slice_index, slice_set, if◌then◌else◌}
use Rattle.ibx_csr.specs.declared.name.Csr.{Csr}
use Rattle.ibx_csr.specs.declared.name.Csr.TheVariants.{Mstatus, Mie, Mtvec, Mcountinhibit, Mscratch, Mepc, Mcause}
use Rattle.ibx_csr.specs.declared.name.Csr.TheVariants.{Mtval, Pmpcfg, Pmpaddr, Cpuctrl, Mseccfg, Mcycle, Mcycleh, Minstret}
use Rattle.ibx_csr.specs.declared.name.Csr.TheVariants.{Minstreth}
use Rattle.ibx_csr.specs.Bits.{legal_of}
use Rattle.ibx_csr.specs.Kept.{is_addr_held, kept_mepc, stored_mstatus, stored_cfg, stored_sec, with_low, with_high}
use Rattle.ibx_csr.specs.Values.{CsrValues, value_of, counted, mcycle_stands, minstret_stands, csr_tick, put_value}
use Rattle.ibx_csr.specs.Values.{trap_regs, with_trap_regs, cfg_bytes, counters_after}
use Rattle.ibx_trap.specs.Traps.{enter_of, leave_of}
use Rattle.ibx_arch.specs.State.{State}
use Rattle.ibx_secret.specs.Marks.{Marks, csr_mark, mark_csr, marks_entered, mark_reg}
use Rattle.ibx_secret.specs.Leaks.{is_guarded}
use Rattle.ibx_secret.specs.Twins.{Shared, Private, AreAlike}
use Rattle.ibx_secret.proofs.Places.{left_of, right_of}

-- ---- a state of its two parts

-- the CSRs, and the state
abbrev pub csrs_of : Shared → Private → CsrValues
csrs_of k x = record {
  machine = k.machine;
  mstatus = k.mstatus;
  mie = k.mie;
  mtvec = k.mtvec;
  mscratch = x.mscratch;
  mepc = x.mepc;
  mcause = x.mcause;
  mtval = x.mtval;
  cpuctrl = k.cpuctrl;
  mcountinhibit = k.mcountinhibit;
  mcycle = x.mcycle;
  minstret = x.minstret;
  pmpcfg = k.pmpcfg;
  pmpaddr = k.pmpaddr;
  mseccfg = k.mseccfg;
}

abbrev pub state_of : Shared → Private → State
state_of k x = record {
  pc = k.pc;
  regs = x.regs;
  memory = record { ram = k.ram; byte = x.byte };
  csrs = csrs_of k x;
  stands = k.stands;
}

-- the CSRs that are never marked
pub record Guarded : Type 0 where
  pub machine : Bool
  pub mstatus : ℕ
  pub mie : ℕ
  pub mtvec : ℕ
  pub cpuctrl : ℕ
  pub mcountinhibit : ℕ
  pub pmpcfg : List ℕ
  pub pmpaddr : List ℕ
  pub mseccfg : ℕ

abbrev pub guarded_of : CsrValues → Guarded
guarded_of v = record {
  machine = v.machine;
  mstatus = v.mstatus;
  mie = v.mie;
  mtvec = v.mtvec;
  cpuctrl = v.cpuctrl;
  mcountinhibit = v.mcountinhibit;
  pmpcfg = v.pmpcfg;
  pmpaddr = v.pmpaddr;
  mseccfg = v.mseccfg;
}

-- two sets of CSRs agree off the marks
pub record CsrsAgree (m : Marks) (u v : CsrValues) : Type 0 where
  pub guarded : guarded_of u ≡ guarded_of v
  pub mscratch : m.mscratch ≡ false → u.mscratch ≡ v.mscratch
  pub mepc : m.mepc ≡ false → u.mepc ≡ v.mepc
  pub mcause : m.mcause ≡ false → u.mcause ≡ v.mcause
  pub mtval : m.mtval ≡ false → u.mtval ≡ v.mtval
  pub mcycle : m.mcycle ≡ false → u.mcycle ≡ v.mcycle
  pub minstret : m.minstret ≡ false → u.minstret ≡ v.minstret

-- those of alike parts do
pub parts_agree : (m : Marks) (k : Shared) (x y : Private) → AreAlike m x y → CsrsAgree m (csrs_of k x) (csrs_of k y)
parts_agree m k x y s = record {
  guarded = refl;
  mscratch = s.mscratch;
  mepc = s.mepc;
  mcause = s.mcause;
  mtval = s.mtval;
  mcycle = s.mcycle;
  minstret = s.minstret;
}

-- those of alike parts do, whatever the guarded ones are, where these are the same
pub sides_agree : (m : Marks) (k l : Shared) (x y : Private) → AreAlike m x y
    → guarded_of (csrs_of k x) ≡ guarded_of (csrs_of l y) → CsrsAgree m (csrs_of k x) (csrs_of l y)
sides_agree m k l x y s g = record {
  guarded = g;
  mscratch = s.mscratch;
  mepc = s.mepc;
  mcause = s.mcause;
  mtval = s.mtval;
  mcycle = s.mcycle;
  minstret = s.minstret;
}

-- the mark of a register is none of theirs
pub agree_reg : (m : Marks) (u v : CsrValues) (rd : ℕ) (mark : Bool) → CsrsAgree m u v
    → CsrsAgree (mark_reg m rd mark) u v
agree_reg m u v rd mark s = by (rd == 0)
  where
    by : (zeroth : Bool)
        → CsrsAgree (if zeroth then m else record m { reg = λ n. if n == rd then mark else m.reg n }) u v
    by true = s
    by false = record {
      guarded = s.guarded;
      mscratch = s.mscratch;
      mepc = s.mepc;
      mcause = s.mcause;
      mtval = s.mtval;
      mcycle = s.mcycle;
      minstret = s.minstret;
    }

-- ---- a read

-- a CSR that isn't marked reads the same
pub value_alike : (m : Marks) (k : Shared) (x y : Private) (c : Csr) (lines : ℕ) → AreAlike m x y
    → csr_mark m c ≡ false → value_of (csrs_of k x) c lines ≡ value_of (csrs_of k y) c lines
unfolding value_of
value_alike m k x y Mscratch lines s e = s.mscratch e
value_alike m k x y Mepc lines s e = s.mepc e
value_alike m k x y Mcause lines s e = s.mcause e
value_alike m k x y Mtval lines s e = s.mtval e
value_alike m k x y Mcycle lines s e = ap (λ n. n % 2 ^ 32) (s.mcycle e)
value_alike m k x y Mcycleh lines s e = ap (λ n. n / 2 ^ 32) (s.mcycle e)
value_alike m k x y Minstret lines s e = ap (λ n. n % 2 ^ 32) (s.minstret e)
value_alike m k x y Minstreth lines s e = ap (λ n. n / 2 ^ 32) (s.minstret e)
value_alike m k x y _ lines s e = refl

-- ---- a cycle

-- the private part after a cycle
abbrev pub ticked : Shared → Bool → Option ℕ → Private → Private
ticked k retired wrote x = record x {
  mcycle = counted x.mcycle (mcycle_stands k.mcountinhibit wrote);
  minstret = counted x.minstret (minstret_stands k.mcountinhibit retired wrote);
}

pub tick_is : (k : Shared) (retired : Bool) (wrote : Option ℕ) (x : Private)
    → csr_tick (csrs_of k x) retired wrote ≡ csrs_of k (ticked k retired wrote x)
unfolding csr_tick
tick_is k retired wrote x = refl

pub ticked_alike : (m : Marks) (k : Shared) (retired : Bool) (wrote : Option ℕ) (x y : Private) → AreAlike m x y
    → AreAlike m (ticked k retired wrote x) (ticked k retired wrote y)
ticked_alike m k retired wrote x y s = record {
  regs = s.regs;
  byte = s.byte;
  mscratch = s.mscratch;
  mepc = s.mepc;
  mcause = s.mcause;
  mtval = s.mtval;
  mcycle = λ e. ap (λ n. counted n (mcycle_stands k.mcountinhibit wrote)) (s.mcycle e);
  minstret = λ e. ap (λ n. counted n (minstret_stands k.mcountinhibit retired wrote)) (s.minstret e);
}

-- the CSRs after a cycle agree
pub tick_agrees : (m : Marks) (k : Shared) (retired : Bool) (wrote : Option ℕ) (x y : Private) → AreAlike m x y
    → CsrsAgree m (csr_tick (csrs_of k x) retired wrote) (csr_tick (csrs_of k y) retired wrote)
unfolding csr_tick
tick_agrees m k retired wrote x y s =
    parts_agree m k (ticked k retired wrote x) (ticked k retired wrote y) (ticked_alike m k retired wrote x y s)

-- ---- a write

-- what is left of the guarded ones is told by what is written, and what is left of the others takes the mark
pub put_agrees : (m : Marks) (k : Shared) (x y : Private) (c : Csr) (v w : ℕ) (mark : Bool) → AreAlike m x y
    → (mark ≡ false → v ≡ w) → (is_guarded c ≡ true → mark ≡ false)
    → CsrsAgree (mark_csr m c mark) (put_value (csrs_of k x) c v) (put_value (csrs_of k y) c w)
unfolding put_value
put_agrees m k x y Mstatus v w mark s e g =
    sides_agree m (record k { mstatus = stored_mstatus v }) (record k { mstatus = stored_mstatus w }) x y s
    (ap (λ n. guarded_of (csrs_of (record k { mstatus = stored_mstatus n }) x)) (e (g refl)))
put_agrees m k x y Mie v w mark s e g =
    sides_agree m (record k { mie = legal_of Mie v }) (record k { mie = legal_of Mie w }) x y s
    (ap (λ n. guarded_of (csrs_of (record k { mie = legal_of Mie n }) x)) (e (g refl)))
put_agrees m k x y Mtvec v w mark s e g =
    sides_agree m (record k { mtvec = legal_of Mtvec v }) (record k { mtvec = legal_of Mtvec w }) x y s
    (ap (λ n. guarded_of (csrs_of (record k { mtvec = legal_of Mtvec n }) x)) (e (g refl)))
put_agrees m k x y Mcountinhibit v w mark s e g =
    sides_agree m (record k { mcountinhibit = legal_of Mcountinhibit v })
    (record k { mcountinhibit = legal_of Mcountinhibit w }) x y s
    (ap (λ n. guarded_of (csrs_of (record k { mcountinhibit = legal_of Mcountinhibit n }) x)) (e (g refl)))
put_agrees m k x y Cpuctrl v w mark s e g =
    sides_agree m (record k { cpuctrl = legal_of Cpuctrl v }) (record k { cpuctrl = legal_of Cpuctrl w }) x y s
    (ap (λ n. guarded_of (csrs_of (record k { cpuctrl = legal_of Cpuctrl n }) x)) (e (g refl)))
put_agrees m k x y (Pmpcfg i) v w mark s e g =
    sides_agree m (record k { pmpcfg = slice_set k.pmpcfg i (stored_cfg k.mseccfg (slice_index k.pmpcfg i) v) })
    (record k { pmpcfg = slice_set k.pmpcfg i (stored_cfg k.mseccfg (slice_index k.pmpcfg i) w) }) x y s
    (ap (λ n. guarded_of (csrs_of (record k {
      pmpcfg = slice_set k.pmpcfg i (stored_cfg k.mseccfg
          (slice_index k.pmpcfg i) n);
    }) x)) (e (g refl)))
put_agrees m k x y (Pmpaddr i) v w mark s e g = by (is_addr_held k.mseccfg (cfg_bytes (csrs_of k x)) i)
  where
    by : (locked : Bool)
        → CsrsAgree m
        (if locked then csrs_of k x else record (csrs_of k x) { pmpaddr = slice_set k.pmpaddr i v })
        (if locked then csrs_of k y else record (csrs_of k y) { pmpaddr = slice_set k.pmpaddr i w })
    by true = parts_agree m k x y s
    by false =
        sides_agree m (record k { pmpaddr = slice_set k.pmpaddr i v }) (record k { pmpaddr = slice_set k.pmpaddr i w })
        x y s (ap (λ n. guarded_of (csrs_of (record k { pmpaddr = slice_set k.pmpaddr i n }) x)) (e (g refl)))
put_agrees m k x y Mseccfg v w mark s e g =
    sides_agree m (record k { mseccfg = stored_sec k.mseccfg (cfg_bytes (csrs_of k x)) v })
    (record k { mseccfg = stored_sec k.mseccfg (cfg_bytes (csrs_of k x)) w }) x y s
    (ap (λ n. guarded_of (csrs_of (record k { mseccfg = stored_sec k.mseccfg (cfg_bytes (csrs_of k x)) n }) x))
    (e (g refl)))
put_agrees m k x y Mscratch v w mark s e g = record {
  guarded = refl;
  mscratch = λ h. ap (legal_of Mscratch) (e h);
  mepc = s.mepc;
  mcause = s.mcause;
  mtval = s.mtval;
  mcycle = s.mcycle;
  minstret = s.minstret;
}
put_agrees m k x y Mepc v w mark s e g = record {
  guarded = refl;
  mscratch = s.mscratch;
  mepc = λ h. ap (legal_of Mepc) (e h);
  mcause = s.mcause;
  mtval = s.mtval;
  mcycle = s.mcycle;
  minstret = s.minstret;
}
put_agrees m k x y Mcause v w mark s e g = record {
  guarded = refl;
  mscratch = s.mscratch;
  mepc = s.mepc;
  mcause = λ h. ap (legal_of Mcause) (e h);
  mtval = s.mtval;
  mcycle = s.mcycle;
  minstret = s.minstret;
}
put_agrees m k x y Mtval v w mark s e g = record {
  guarded = refl;
  mscratch = s.mscratch;
  mepc = s.mepc;
  mcause = s.mcause;
  mtval = λ h. ap (legal_of Mtval) (e h);
  mcycle = s.mcycle;
  minstret = s.minstret;
}
put_agrees m k x y Mcycle v w mark s e g = record {
  guarded = refl;
  mscratch = s.mscratch;
  mepc = s.mepc;
  mcause = s.mcause;
  mtval = s.mtval;
  mcycle = λ h. ap (λ n. with_low n v) (s.mcycle (left_of m.mcycle mark h)) ∙ ap (with_low y.mcycle) (e
      (right_of m.mcycle mark h));
  minstret = s.minstret;
}
put_agrees m k x y Mcycleh v w mark s e g = record {
  guarded = refl;
  mscratch = s.mscratch;
  mepc = s.mepc;
  mcause = s.mcause;
  mtval = s.mtval;
  mcycle = λ h. ap (λ n. with_high n v) (s.mcycle (left_of m.mcycle mark h)) ∙ ap (with_high y.mcycle) (e
      (right_of m.mcycle mark h));
  minstret = s.minstret;
}
put_agrees m k x y Minstret v w mark s e g = record {
  guarded = refl;
  mscratch = s.mscratch;
  mepc = s.mepc;
  mcause = s.mcause;
  mtval = s.mtval;
  mcycle = s.mcycle;
  minstret = λ h. ap (λ n. with_low n v) (s.minstret (left_of m.minstret mark h)) ∙ ap (with_low y.minstret) (e
      (right_of m.minstret mark h));
}
put_agrees m k x y Minstreth v w mark s e g = record {
  guarded = refl;
  mscratch = s.mscratch;
  mepc = s.mepc;
  mcause = s.mcause;
  mtval = s.mtval;
  mcycle = s.mcycle;
  minstret = λ h. ap (λ n. with_high n v) (s.minstret (left_of m.minstret mark h)) ∙ ap (with_high y.minstret) (e
      (right_of m.minstret mark h));
}
put_agrees m k x y _ v w mark s e g = parts_agree m k x y s

-- ---- a trap, and MRET

-- what a trap writes is the same
pub enter_agrees : (m : Marks) (k : Shared) (x y : Private) (pc cause : ℕ) (irq : Bool) (tval : ℕ) → AreAlike m x y
    → CsrsAgree (marks_entered m)
    (with_trap_regs (csrs_of k x) (enter_of (trap_regs (csrs_of k x)) pc cause irq tval))
    (with_trap_regs (csrs_of k y) (enter_of (trap_regs (csrs_of k y)) pc cause irq tval))
unfolding with_trap_regs enter_of
enter_agrees m k x y pc cause irq tval s = record {
  guarded = refl;
  mscratch = s.mscratch;
  mepc = λ e. refl;
  mcause = λ e. refl;
  mtval = λ e. refl;
  mcycle = s.mcycle;
  minstret = s.minstret;
}

-- a return keeps what it doesn't read
pub leave_agrees : (m : Marks) (k : Shared) (x y : Private) → AreAlike m x y
    → CsrsAgree m (with_trap_regs (csrs_of k x) (leave_of (trap_regs (csrs_of k x))))
    (with_trap_regs (csrs_of k y) (leave_of (trap_regs (csrs_of k y))))
unfolding with_trap_regs leave_of
leave_agrees m k x y s = record {
  guarded = refl;
  mscratch = s.mscratch;
  mepc = λ e. ap kept_mepc (s.mepc e);
  mcause = λ e. ap (legal_of Mcause) (s.mcause e);
  mtval = s.mtval;
  mcycle = s.mcycle;
  minstret = s.minstret;
}

-- ---- the counters moved to a cycle

abbrev pub moved : Shared → ℕ → Private → Private
moved k n x = record x { mcycle = (counters_after (csrs_of k x) n).mcycle }

pub moved_alike : (m : Marks) (k : Shared) (n : ℕ) (x y : Private) → AreAlike m x y
    → AreAlike m (moved k n x) (moved k n y)
unfolding counters_after
moved_alike m k n x y s = record {
  regs = s.regs;
  byte = s.byte;
  mscratch = s.mscratch;
  mepc = s.mepc;
  mcause = s.mcause;
  mtval = s.mtval;
  mcycle = λ e. ap (λ c. (counters_after (record (csrs_of k x) { mcycle = c }) n).mcycle) (s.mcycle e);
  minstret = s.minstret;
}
