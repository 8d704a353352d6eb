-- What a CSR instruction does in two states that agree off the marks.
use Rattle.std.proofs.Common.{◌≡◌, ℕ, ◌&&◌, ◌||◌, not, Bool, true, false, Option, Some, None, refl, sym, ap, subst}
use Rattle.std.proofs.Common.{◌∙◌, if◌then◌else◌, List}
use Rattle.ibx_time.specs.Controls.{ctl_of}
use Rattle.ibx_isa.specs.declared.insn.Insn.TheVariants.{Csr}
use Rattle.ibx_isa.specs.declared.insn.CsrOp.{CsrOp}
use Rattle.ibx_isa.specs.declared.insn.CsrOp.TheVariants.{Write, Set, Clear}
use Rattle.ibx_elf.specs.declared.ram.Ram.{Ram}
use Rattle.ibx_isa.specs.declared.insn.MulKind.{MulKind}
use Rattle.ibx_isa.specs.declared.event.Event.{Event}
use Rattle.ibx_isa.specs.declared.event.Event.TheVariants.{Retire, Trap, Irq}
use Rattle.ibx_isa.specs.Views.{view_of}
use Rattle.ibx_isa.specs.CsrWrites.{writes, written}
use Rattle.ibx_isa.specs.Causes.{illegal_instruction}
use Rattle.ibx_csr.specs.declared.name.Csr.{Csr as Register}
use Rattle.ibx_csr.specs.declared.name.Csr.TheVariants.{Mstatus, Misa, Mie, Mtvec, Mcountinhibit, Mscratch, Mepc}
use Rattle.ibx_csr.specs.declared.name.Csr.TheVariants.{Mcause, Mtval, Mip, Pmpcfg, Pmpaddr, Cpuctrl, Secureseed, Mseccfg}
use Rattle.ibx_csr.specs.declared.name.Csr.TheVariants.{Mcycle, Mcycleh, Minstret, Minstreth, Marchid, Zero}
use Rattle.ibx_csr.specs.Bits.{is_control, is_control_in}
use Rattle.ibx_csr.specs.Table.{csr_of, readable, writable, is_read_only}
use Rattle.ibx_csr.specs.Values.{value_of, value_at, csr_read, csr_can_write, csr_write, csr_tick, put_at, is_there}
use Rattle.ibx_arch.specs.declared.done.Done.TheVariants.{Retires}
use Rattle.ibx_arch.specs.State.{State}
use Rattle.ibx_arch.specs.Effects.{Executed, plain, illegal, csr_with, csr_access}
use Rattle.ibx_arch.specs.Step.{Stepped, finished}
use Rattle.ibx_time.specs.Settings.{Settings}
use Rattle.ibx_time.specs.Items.{retired_item}
use Rattle.ibx_secret.specs.Marks.{Marks, mark_reg, mark_csr, csr_mark, written_mark, marks_csr, marks_entered}
use Rattle.ibx_secret.specs.Marks.{source_mark}
use Rattle.ibx_secret.specs.Marks.{marks_by}
use Rattle.ibx_secret.specs.Leaks.{is_guarded, is_guarded_in, leaks_by}
use Rattle.ibx_secret.specs.Twins.{Shared, Private, AreAlike, AreRegs}
use Rattle.ibx_secret.proofs.Places.{left_of, right_of, AreBytes}
use Rattle.ibx_secret.proofs.Csrs.{csrs_of, state_of, value_alike, put_agrees, ticked, ticked_alike}
use Rattle.ibx_secret.proofs.Rows.{RowAlike, plain_alike, trap_row, retire_alike}

-- ---- the table

-- a guarded CSR is never marked
guarded_unmarked : (m : Marks) (c : Register) → is_guarded c ≡ true → csr_mark m c ≡ false
guarded_unmarked m Mscratch e = absurd (cc)
guarded_unmarked m Mepc e = absurd (cc)
guarded_unmarked m Mcause e = absurd (cc)
guarded_unmarked m Mtval e = absurd (cc)
guarded_unmarked m Mcycle e = absurd (cc)
guarded_unmarked m Mcycleh e = absurd (cc)
guarded_unmarked m Minstret e = absurd (cc)
guarded_unmarked m Minstreth e = absurd (cc)
guarded_unmarked m c e = refl

-- one whose written value shows in an event is guarded
control_guarded : (c : Register) → is_control c ≡ true → is_guarded c ≡ true
control_guarded Mstatus e = refl
control_guarded Mie e = refl
control_guarded (Pmpcfg k) e = refl
control_guarded (Pmpaddr k) e = refl
control_guarded Cpuctrl e = refl
control_guarded Secureseed e = refl
control_guarded Mseccfg e = refl
control_guarded Mtvec e = refl
control_guarded Mcountinhibit e = refl
control_guarded Misa e = absurd (cc)
control_guarded Mscratch e = absurd (cc)
control_guarded Mepc e = absurd (cc)
control_guarded Mcause e = absurd (cc)
control_guarded Mtval e = absurd (cc)
control_guarded Mip e = absurd (cc)
control_guarded Mcycle e = absurd (cc)
control_guarded Mcycleh e = absurd (cc)
control_guarded Minstret e = absurd (cc)
control_guarded Minstreth e = absurd (cc)
control_guarded Marchid e = absurd (cc)
control_guarded Zero e = absurd (cc)

-- what is written isn't marked where neither of its parts is
unmarked : (op : CsrOp) (old source : Bool) → old ≡ false → source ≡ false → written_mark op old source ≡ false
unmarked Write old source e h = h
unmarked Set old source e h = ap (λ b. b || source) e ∙ h
unmarked Clear old source e h = ap (λ b. b || source) e ∙ h

-- and is then the same
written_alike : (op : CsrOp) (old source : Bool) (a b v w : ℕ) → (old ≡ false → a ≡ b) → (source ≡ false → v ≡ w)
    → written_mark op old source ≡ false → written op a v ≡ written op b w
written_alike Write old source a b v w e h u = h u
written_alike Set old source a b v w e h u =
    ap (λ n. written Set n v) (e (left_of old source u)) ∙ ap (written Set b) (h (right_of old source u))
written_alike Clear old source a b v w e h u =
    ap (λ n. written Clear n v) (e (left_of old source u)) ∙ ap (written Clear b) (h (right_of old source u))

-- a value that shows is the same
shown_alike : (t : Bool) (v w : ℕ) → (t ≡ true → v ≡ w) → (if t then Some v else None) ≡ (if t then Some w else None)
shown_alike true v w e = ap (λ n. Some n) (e refl)
shown_alike false v w e = refl

-- from a source that doesn't leak, a guarded CSR is written alike
guarded_source : (source : Bool) (c : Register) → (source && is_guarded c) ≡ false → is_guarded c ≡ true
    → source ≡ false
guarded_source true c e g = sym g ∙ e
guarded_source false c e g = refl

-- the mark of a CSR is none of the registers' and the bytes'
regs_csr : (m : Marks) (c : Register) (mark : Bool) (xs ys : List ℕ) → AreRegs m.reg xs ys
    → AreRegs (mark_csr m c mark).reg xs ys
regs_csr m Mscratch mark xs ys r = r
regs_csr m Mepc mark xs ys r = r
regs_csr m Mcause mark xs ys r = r
regs_csr m Mtval mark xs ys r = r
regs_csr m Mcycle mark xs ys r = r
regs_csr m Mcycleh mark xs ys r = r
regs_csr m Minstret mark xs ys r = r
regs_csr m Minstreth mark xs ys r = r
regs_csr m c mark xs ys r = r

bytes_csr : (m : Marks) (c : Register) (mark : Bool) (f g : ℕ → ℕ) → AreBytes m.byte f g
    → AreBytes (mark_csr m c mark).byte f g
bytes_csr m Mscratch mark f g r = r
bytes_csr m Mepc mark f g r = r
bytes_csr m Mcause mark f g r = r
bytes_csr m Mtval mark f g r = r
bytes_csr m Mcycle mark f g r = r
bytes_csr m Mcycleh mark f g r = r
bytes_csr m Minstret mark f g r = r
bytes_csr m Minstreth mark f g r = r
bytes_csr m c mark f g r = r

-- ---- an access by what there is at its address

-- what it does, by whether it writes, what it reads, and the register that it may write
abbrev csr_body : State → CsrOp → Bool → ℕ → ℕ → ℕ → ℕ → ℕ → Option Register → Option ℕ → Option Register → Executed
csr_body s op wr rd source addr word next at None can = illegal s word
csr_body s op wr rd source addr word next at (Some old) can =
    if not wr then plain s rd old next else
    if not (is_there can) then illegal s word else
    record {
      done = Retires (record {
        rd = rd;
        value = old;
        mem = None;
        ctl = if is_control_in at then Some (written op old source) else None;
        next_pc = next;
      });
      memory = s.memory;
      csrs = put_at (csr_tick s.csrs true (Some addr)) (written op old source) can;
    }

body_is : (s : State) (op : CsrOp) (rd src source addr word next : ℕ) (o : Option ℕ)
    → csr_with s op rd src source addr word next o
    ≡ csr_body s op (writes op src) rd source addr word next (csr_of addr) o (writable s.csrs.machine addr)
unfolding csr_can_write csr_write csr_tick
body_is s op rd src source addr word next None = refl
body_is s op rd src source addr word next (Some old) = refl

access_is : (s : State) (op : CsrOp) (rd src source addr word next lines : ℕ)
    → csr_access s op rd src source addr word next lines
    ≡ csr_body s op (writes op src) rd source addr word next (csr_of addr)
    (value_at s.csrs lines (readable s.csrs.machine addr)) (writable s.csrs.machine addr)
unfolding csr_access csr_read
access_is s op rd src source addr word next lines =
    body_is s op rd src source addr word next (value_at s.csrs lines (readable s.csrs.machine addr))

-- the marks after it, by the same
abbrev csr_took : Marks → CsrOp → Bool → ℕ → Bool → Option Register → Marks
csr_took m op wr rd source None = m
csr_took m op wr rd source (Some c) =
    mark_reg (if wr then mark_csr m c (written_mark op (csr_mark m c) source) else m) rd (csr_mark m c)

abbrev csr_marks : Marks → CsrOp → Bool → ℕ → Bool → Option Register → Event → Marks
csr_marks m op wr rd source at (Retire cycle pc word d value None ctl ops) = csr_took m op wr rd source at
csr_marks m op wr rd source at (Retire cycle pc word d value (Some a) ctl ops) = m
csr_marks m op wr rd source at (Trap cycle pc word cause tval addr) = marks_entered m
csr_marks m op wr rd source at (Irq cycle pc cause) = marks_entered m

took_is : (m : Marks) (op : CsrOp) (rd src : ℕ) (source : Bool) (at : Option Register)
    → csr_took m op (writes op src) rd source at ≡ marks_csr m op rd src source at
took_is m op rd src source None = refl
took_is m op rd src source (Some c) = refl

marks_is : (ram : Ram) (m : Marks) (op : CsrOp) (rd src addr : ℕ) (imm : Bool) (e : Event)
    → csr_marks m op (writes op src) rd (source_mark m src imm) (csr_of addr) e
    ≡ marks_by ram m (Some (Csr op rd src imm addr)) e
marks_is ram m op rd src addr imm (Retire cycle pc word d value None ctl ops) =
    took_is m op rd src (source_mark m src imm) (csr_of addr)
marks_is ram m op rd src addr imm (Retire cycle pc word d value (Some a) ctl ops) = refl
marks_is ram m op rd src addr imm (Trap cycle pc word cause tval at) = refl
marks_is ram m op rd src addr imm (Irq cycle pc cause) = refl

-- its leak, by the same
abbrev csr_leaks : Bool → Option Register → Event → Bool
csr_leaks source at (Retire cycle pc word d value mem ctl ops) = source && is_guarded_in at
csr_leaks source at (Trap cycle pc word cause tval addr) = false
csr_leaks source at (Irq cycle pc cause) = false

leaks_is : (mul : MulKind) (m : Marks) (op : CsrOp) (rd src addr : ℕ) (imm : Bool) (e : Event)
    → csr_leaks (source_mark m src imm) (csr_of addr) e ≡ leaks_by mul m (Some (Csr op rd src imm addr)) e
leaks_is mul m op rd src addr true (Retire cycle pc word d value mem ctl ops) = refl
leaks_is mul m op rd src addr false (Retire cycle pc word d value mem ctl ops) = refl
leaks_is mul m op rd src addr imm (Trap cycle pc word cause tval at) = refl
leaks_is mul m op rd src addr imm (Irq cycle pc cause) = refl

module _ (k : Settings) (q : Shared) (x y : Private) (cycle : ℕ) where
  -- the step of an access
  abbrev csr_step : Private → CsrOp → Bool → ℕ → ℕ → ℕ → ℕ → ℕ → ℕ → Option (ℕ × ℕ) → Bool → Bool → Option Register
      → Stepped
  csr_step z op wr rd source addr word next lines ops machine ro at =
      finished q.pc z.regs cycle word ops
      (csr_body (state_of q z) op wr rd source addr word next at
      (value_at (csrs_of q z) lines (if machine then at else None))
      (if ro then None else if machine then at else None))

  csr_by : (m : Marks) (op : CsrOp) (src : ℕ) (imm wr : Bool) (rd v w addr word next lines : ℕ)
      (ops ops2 : Option (ℕ × ℕ)) (machine ro : Bool) (at : Option Register) (source : Bool) → AreAlike m x y
      → (source ≡ false → v ≡ w)
      → csr_leaks source at (csr_step x op wr rd v addr word next lines ops machine ro at).event ≡ false
      → RowAlike k (ctl_of (csrs_of q x)) (Some (Csr op rd src imm addr))
      (csr_marks m op wr rd source at (csr_step x op wr rd v addr word next lines ops machine ro at).event)
      (csr_step x op wr rd v addr word next lines ops machine ro at)
      (csr_step y op wr rd w addr word next lines ops2 machine ro at)
  unfolding finished view_of retired_item csr_tick
  csr_by m op src imm wr rd v w addr word next lines ops ops2 false ro at source s val e =
      trap_row k q x y cycle (Some (Csr op rd src imm addr)) m word ops ops2 illegal_instruction word 0 s
  csr_by m op src imm wr rd v w addr word next lines ops ops2 true ro None source s val e =
      trap_row k q x y cycle (Some (Csr op rd src imm addr)) m word ops ops2 illegal_instruction word 0 s
  csr_by m op src imm false rd v w addr word next lines ops ops2 true ro (Some c) source s val e =
      plain_alike k q x y cycle (Some (Csr op rd src imm addr)) m word ops ops2 rd (value_of (csrs_of q x) c lines)
      (value_of (csrs_of q y) c lines) next next (csr_mark m c) s (value_alike m q x y c lines s) refl refl
  csr_by m op src imm true rd v w addr word next lines ops ops2 true true (Some c) source s val e =
      trap_row k q x y cycle (Some (Csr op rd src imm addr)) m word ops ops2 illegal_instruction word 0 s
  csr_by m op src imm true rd v w addr word next lines ops ops2 true false (Some c) source s val e =
      let a : ℕ = value_of (csrs_of q x) c lines in
      let b : ℕ = value_of (csrs_of q y) c lines in
      let mark : Bool = written_mark op (csr_mark m c) source in
      let same : mark ≡ false → written op a v ≡ written op b w =
      written_alike op (csr_mark m c) source a b v w (value_alike m q x y c lines s) val in
      let kept : is_guarded c ≡ true → mark ≡ false =
      λ g. unmarked op (csr_mark m c) source (guarded_unmarked m c g) (guarded_source source c e g) in
      retire_alike k q x y cycle (Some (Csr op rd src imm addr)) (mark_csr m c mark) word ops ops2 rd a b None None
      (if is_control c then Some (written op a v) else None) (if is_control c then Some (written op b w) else None)
      next next _ _ _ _ (csr_mark m c) (value_alike m q x y c lines s) refl refl
      (shown_alike (is_control c) (written op a v) (written op b w) (λ t. same (kept (control_guarded c t)))) refl refl
      (regs_csr m c mark x.regs y.regs s.regs) refl (bytes_csr m c mark x.byte y.byte s.byte)
      (put_agrees m q (ticked q true (Some addr) x) (ticked q true (Some addr) y) c (written op a v) (written op b w)
      mark (ticked_alike m q true (Some addr) x y s) same kept)

  -- the row, with what its address has
  pub csr_row : (m : Marks) (op : CsrOp) (src : ℕ) (imm : Bool) (rd v w addr word next lines : ℕ)
      (ops ops2 : Option (ℕ × ℕ)) → AreAlike m x y → (source_mark m src imm ≡ false → v ≡ w)
      → leaks_by k.mul m (Some (Csr op rd src imm addr)) (finished q.pc x.regs cycle word ops
      (csr_access (state_of q x) op rd src v addr word next lines)).event ≡ false
      → RowAlike k (ctl_of (csrs_of q x)) (Some (Csr op rd src imm addr))
      (marks_by q.ram m (Some (Csr op rd src imm addr)) (finished q.pc x.regs cycle word ops
      (csr_access (state_of q x) op rd src v addr word next lines)).event)
      (finished q.pc x.regs cycle word ops (csr_access (state_of q x) op rd src v addr word next lines))
      (finished q.pc y.regs cycle word ops2 (csr_access (state_of q y) op rd src w addr word next lines))
  csr_row m op src imm rd v w addr word next lines ops ops2 s val =
      subst (λ b. Row (csr_access (state_of q x) op rd src v addr word next lines) b)
      (sym (access_is (state_of q y) op rd src w addr word next lines))
      (subst (λ a. Row a (body y w)) (sym (access_is (state_of q x) op rd src v addr word next lines))
      (λ e. subst (λ n. RowAlike k (ctl_of (csrs_of q x)) (Some (Csr op rd src imm addr)) n (done x ops (body x v))
      (done y ops2 (body y w))) (marks_is q.ram m op rd src addr imm (done x ops (body x v)).event)
      (csr_by m op src imm (writes op src) rd v w addr word next lines ops ops2 q.machine (is_read_only addr)
      (csr_of addr) (source_mark m src imm) s val
      (leaks_is k.mul m op rd src addr imm (done x ops (body x v)).event ∙ e))))
    where
      done : Private → Option (ℕ × ℕ) → Executed → Stepped
      done z o e = finished q.pc z.regs cycle word o e

      body : Private → ℕ → Executed
      body z n =
          csr_body (state_of q z) op (writes op src) rd n addr word next (csr_of addr)
          (value_at (csrs_of q z) lines (readable q.machine addr)) (writable q.machine addr)

      Row : Executed → Executed → Type 0
      Row a b =
          leaks_by k.mul m (Some (Csr op rd src imm addr)) (done x ops a).event ≡ false
          → RowAlike k (ctl_of (csrs_of q x)) (Some (Csr op rd src imm addr))
          (marks_by q.ram m (Some (Csr op rd src imm addr)) (done x ops a).event) (done x ops a) (done y ops2 b)
