-- Two states that agree off the marks step to states that do.
use Rattle.std.proofs.Common.{◌≡◌, ℕ, ◌+◌, ◌-◌, ◌*◌, ◌/◌, ◌%◌, ◌^◌, ◌∙◌, ◌||◌, true, false, Option, Some}
use Rattle.std.proofs.Common.{None, refl, sym, ap, subst, if◌then◌else◌}
use Rattle.ibx_isa.specs.declared.insn.Insn.{Insn}
use Rattle.ibx_isa.specs.declared.insn.Insn.TheVariants.{Lui, Auipc, Jal, Jalr, Branch, Load, Store, AluImm, Alu}
use Rattle.ibx_isa.specs.declared.insn.Insn.TheVariants.{MulDiv, Csr, Fence, FenceI, Ecall, Ebreak, Mret, Wfi}
use Rattle.ibx_isa.specs.declared.event.Event.{Event}
use Rattle.ibx_isa.specs.declared.insn.LoadOp.{LoadOp}
use Rattle.ibx_isa.specs.declared.event.Event.TheVariants.{Retire, Trap, Irq}
use Rattle.ibx_isa.specs.Views.{view_of}
use Rattle.ibx_isa.specs.declared.event.View.{View}
use Rattle.ibx_isa.specs.Alu.{alu_of}
use Rattle.ibx_isa.specs.Portions.{size_of}
use Rattle.ibx_isa.specs.Causes.{illegal_instruction, breakpoint, user_call, machine_call, fetch_fault}
use Rattle.ibx_csr.specs.Modes.{may_wait}
use Rattle.ibx_csr.specs.Values.{csr_tick, counters_after}
use Rattle.ibx_trap.specs.Traps.{enter_target}
use Rattle.ibx_pmp.specs.declared.protection.AccessKind.TheVariants.{Read, Write}
use Rattle.ibx_arch.specs.declared.done.Done.{Done}
use Rattle.ibx_arch.specs.declared.done.Done.TheVariants.{Retires, Traps}
use Rattle.ibx_arch.specs.declared.fetched.Fetched.{Fetched}
use Rattle.ibx_arch.specs.declared.fetched.Fetched.TheVariants.{Unsound, Instruction}
use Rattle.ibx_arch.specs.Access.{refused_at, error_at}
use Rattle.ibx_arch.specs.State.{reg, at_cycle}
use Rattle.ibx_arch.specs.Fetch.{fetch}
use Rattle.ibx_arch.specs.Effects.{Executed, execute, following, load, store, illegal, return_from_trap}
use Rattle.ibx_arch.specs.Step.{Choice, Interrupt, Parcels, Stepped, stepped_by, finished, operands, decoded}
use Rattle.ibx_arch.specs.Step.{after_fetch}
use Rattle.ibx_arch.specs.Step.{instruction, interrupted, step_with}
use Rattle.ibx_decoder.specs.Instructions.{instruction_of}
use Rattle.ibx_time.specs.Settings.{Settings}
use Rattle.ibx_time.specs.Controls.{Ctl, ctl_of}
use Rattle.ibx_time.specs.Items.{retired_item}
use Rattle.ibx_secret.specs.Marks.{Marks, marks_by, marks_after, marks_entered, marks_failed, word_of}
use Rattle.ibx_secret.specs.Leaks.{leaks, leaks_by, leaks_fetched}
use Rattle.ibx_secret.specs.Twins.{Shared, Private, AreAlike, AreTwins, shared_of, private_of, bare}
use Rattle.ibx_secret.specs.Laws.{StepsAlike, FetchAlike}
use Rattle.ibx_secret.proofs.Places.{left_of, right_of}
use Rattle.ibx_secret.proofs.Csrs.{csrs_of, state_of, moved, moved_alike, ticked, ticked_alike, enter_agrees}
use Rattle.ibx_secret.proofs.Rows.{RowAlike, item_by, item_is, plain_alike, trap_row, branch_row, divide_row}
use Rattle.ibx_secret.proofs.Rows.{return_row}
use Rattle.ibx_secret.proofs.Rows.{wait_row, load_leaks, load_row, store_leaks, store_row, same_reg, both, agree_made}
use Rattle.ibx_secret.proofs.CsrRows.{csr_row}

module _ (k : Settings) (q : Shared) (x y : Private) (cycle : ℕ) where
  -- ---- rows

  -- the step of an instruction, by what it does
  abbrev did : Private → Insn → ℕ → Executed → Stepped
  did z insn word e = finished q.pc z.regs cycle word (operands (state_of q z) insn) e

  -- two ways to end are alike, where the first doesn't leak
  abbrev Row : Marks → Insn → ℕ → Executed → Executed → Type 0
  Row m insn word a b =
      leaks_by k.mul m (Some insn) (did x insn word a).event ≡ false
      → RowAlike k (ctl_of (csrs_of q x)) (Some insn) (marks_by q.ram m (Some insn) (did x insn word a).event)
      (did x insn word a) (did y insn word b)

  load_alike : (m : Marks) (op : LoadOp) (rd rs1 imm word length : ℕ) → AreAlike m x y
      → Row m (Load op rd rs1 imm) word
      (load (state_of q x) op rd ((reg (state_of q x) rs1 + imm) % 2 ^ 32) (following (state_of q x) length))
      (load (state_of q y) op rd ((reg (state_of q y) rs1 + imm) % 2 ^ 32) (following (state_of q y) length))
  unfolding load refused_at
  load_alike m op rd rs1 imm word length s e =
      let insn : Insn = Load op rd rs1 imm in
      let addr : ℕ = (reg (state_of q x) rs1 + imm) % 2 ^ 32 in
      let next : ℕ = following (state_of q x) length in
      let refused : Option ℕ = refused_at (csrs_of q x) addr (size_of op) Read in
      let error : Option ℕ = error_at q.ram addr (size_of op) in
      let ops : Option (ℕ × ℕ) = operands (state_of q x) insn in
      let ops2 : Option (ℕ × ℕ) = operands (state_of q y) insn in
      let same : addr ≡ (reg (state_of q y) rs1 + imm) % 2 ^ 32 =
      ap (λ n. (n + imm) % 2 ^ 32)
      (same_reg k q x y cycle m rs1 s (load_leaks k q x y cycle m op rd rs1 imm addr next word ops refused error e)) in
      subst (λ a. RowAlike k (ctl_of (csrs_of q x)) (Some insn)
      (marks_by q.ram m (Some insn) (did x insn word (load (state_of q x) op rd addr next)).event)
      (did x insn word (load (state_of q x) op rd addr next)) (did y insn word (load (state_of q y) op rd a next))) same
      (load_row k q x y cycle m op rd rs1 imm addr next word ops ops2 refused error s)

  store_alike : (m : Marks) (size rs1 rs2 imm word length : ℕ) → AreAlike m x y
      → Row m (Store size rs1 rs2 imm) word
      (store (state_of q x) size ((reg (state_of q x) rs1 + imm) % 2 ^ 32) (reg (state_of q x) rs2)
      (following (state_of q x) length))
      (store (state_of q y) size ((reg (state_of q y) rs1 + imm) % 2 ^ 32) (reg (state_of q y) rs2)
      (following (state_of q y) length))
  unfolding store refused_at
  store_alike m size rs1 rs2 imm word length s e =
      let insn : Insn = Store size rs1 rs2 imm in
      let addr : ℕ = (reg (state_of q x) rs1 + imm) % 2 ^ 32 in
      let next : ℕ = following (state_of q x) length in
      let v : ℕ = reg (state_of q x) rs2 in
      let w : ℕ = reg (state_of q y) rs2 in
      let refused : Option ℕ = refused_at (csrs_of q x) addr size Write in
      let error : Option ℕ = error_at q.ram addr size in
      let ops : Option (ℕ × ℕ) = operands (state_of q x) insn in
      let ops2 : Option (ℕ × ℕ) = operands (state_of q y) insn in
      let same : addr ≡ (reg (state_of q y) rs1 + imm) % 2 ^ 32 =
      ap (λ n. (n + imm) % 2 ^ 32)
      (same_reg k q x y cycle m rs1 s
      (store_leaks k q x y cycle m size rs1 rs2 imm addr v next word ops refused error e)) in
      subst (λ a. RowAlike k (ctl_of (csrs_of q x)) (Some insn)
      (marks_by q.ram m (Some insn) (did x insn word (store (state_of q x) size addr v next)).event)
      (did x insn word (store (state_of q x) size addr v next)) (did y insn word (store (state_of q y) size a w next)))
      same
      (store_row k q x y cycle m size rs1 rs2 imm addr v w next word ops ops2 refused error s
      (same_reg k q x y cycle m rs2 s) e)

  -- each instruction
  row_alike : (m : Marks) (insn : Insn) (word length lines : ℕ) → AreAlike m x y
      → Row m insn word (execute (state_of q x) insn word length lines)
      (execute (state_of q y) insn word length lines)
  unfolding execute finished view_of retired_item return_from_trap
  row_alike m (Lui rd imm) word length lines s e =
      plain_alike k q x y cycle (Some (Lui rd imm)) m word _ _ rd imm imm _ _ false s (λ h. refl) refl refl
  row_alike m (Auipc rd imm) word length lines s e =
      plain_alike k q x y cycle (Some (Auipc rd imm)) m word _ _ rd _ _ _ _ false s (λ h. refl) refl refl
  row_alike m (Jal rd imm) word length lines s e =
      plain_alike k q x y cycle (Some (Jal rd imm)) m word _ _ rd _ _ _ _ false s (λ h. refl) refl refl
  row_alike m (Jalr rd rs1 imm) word length lines s e =
      plain_alike k q x y cycle (Some (Jalr rd rs1 imm)) m word _ _ rd _ _ _ _ false s (λ h. refl)
      (ap (λ n. (n + imm) % 2 ^ 32 / 2 * 2) (same_reg k q x y cycle m rs1 s e)) refl
  row_alike m (Branch op rs1 rs2 imm) word length lines s e =
      branch_row k q x y cycle m op rs1 rs2 imm word length lines s e
  row_alike m (Load op rd rs1 imm) word length lines s e = load_alike m op rd rs1 imm word length s e
  row_alike m (Store size rs1 rs2 imm) word length lines s e = store_alike m size rs1 rs2 imm word length s e
  row_alike m (AluImm op rd rs1 imm) word length lines s e =
      plain_alike k q x y cycle (Some (AluImm op rd rs1 imm)) m word _ _ rd _ _ _ _ (m.reg rs1) s
      (λ h. ap (λ n. alu_of op n imm) (same_reg k q x y cycle m rs1 s h)) refl refl
  row_alike m (Alu op rd rs1 rs2) word length lines s e =
      plain_alike k q x y cycle (Some (Alu op rd rs1 rs2)) m word _ _ rd _ _ _ _ (m.reg rs1 || m.reg rs2) s
      (λ h. both k q x y cycle (alu_of op) (reg (state_of q x) rs1) (reg (state_of q x) rs2) (reg (state_of q y) rs1)
      (reg (state_of q y) rs2) (same_reg k q x y cycle m rs1 s (left_of (m.reg rs1) (m.reg rs2) h))
      (same_reg k q x y cycle m rs2 s (right_of (m.reg rs1) (m.reg rs2) h))) refl refl
  row_alike m (MulDiv op rd rs1 rs2) word length lines s e =
      divide_row k q x y cycle m op rd rs1 rs2 word length lines s e
  row_alike m (Csr op rd src true addr) word length lines s e =
      csr_row k q x y cycle m op src true rd src src addr word _ lines _ _ s (λ h. refl) e
  row_alike m (Csr op rd src false addr) word length lines s e =
      csr_row k q x y cycle m op src false rd _ _ addr word _ lines _ _ s (same_reg k q x y cycle m src s) e
  row_alike m Fence word length lines s e =
      plain_alike k q x y cycle (Some Fence) m word _ _ 0 0 0 _ _ false s (λ h. refl) refl refl
  row_alike m FenceI word length lines s e =
      plain_alike k q x y cycle (Some FenceI) m word _ _ 0 0 0 _ _ false s (λ h. refl) refl refl
  row_alike m Ecall word length lines s e =
      trap_row k q x y cycle (Some Ecall) m word None None (if q.machine then machine_call else user_call) 0 0 s
  row_alike m Ebreak word length lines s e = trap_row k q x y cycle (Some Ebreak) m word None None breakpoint 0 0 s
  row_alike m Mret word length lines s e = return_row k q x y cycle m word _ _ q.machine s e
  row_alike m Wfi word length lines s e = wait_row k q x y cycle m word length _ _ (may_wait (csrs_of q x)) s

  -- a word, whether it fits a row or not
  decoded_alike : (m : Marks) (word length lines : ℕ) (o : Option Insn) → AreAlike m x y
      → leaks_by k.mul m o (decoded (state_of q x) cycle word length lines o).event ≡ false
      → RowAlike k (ctl_of (csrs_of q x)) o
      (marks_by q.ram m o (decoded (state_of q x) cycle word length lines o).event)
      (decoded (state_of q x) cycle word length lines o) (decoded (state_of q y) cycle word length lines o)
  unfolding finished
  decoded_alike m word length lines None s e =
      trap_row k q x y cycle None m word None None illegal_instruction word 0 s
  decoded_alike m word length lines (Some insn) s e = row_alike m insn word length lines s e

  -- ---- what was fetched

  ended_word : (z : Private) (word : ℕ) (ops : Option (ℕ × ℕ)) (e : Executed) (d : Done)
      → word_of (stepped_by q.pc z.regs cycle word ops e d).event ≡ word
  ended_word z word ops e (Retires r) = refl
  ended_word z word ops e (Traps cause tval addr) = refl

  finished_word : (z : Private) (word : ℕ) (ops : Option (ℕ × ℕ)) (e : Executed)
      → word_of (finished q.pc z.regs cycle word ops e).event ≡ word
  unfolding finished
  finished_word z word ops e = ended_word z word ops e e.done

  pub decoded_word : (z : Private) (word length lines : ℕ) (o : Option Insn)
      → word_of (decoded (state_of q z) cycle word length lines o).event ≡ word
  decoded_word z word length lines None = finished_word z word None (illegal (state_of q z) word)
  decoded_word z word length lines (Some insn) =
      finished_word z word (operands (state_of q z) insn) (execute (state_of q z) insn word length lines)

  -- twins by the instruction of the event's word
  abbrev Twin : Marks → Stepped → Stepped → Type 0
  Twin m a b =
      leaks k.mul m a.event ≡ false
      → RowAlike k (ctl_of (csrs_of q x)) (instruction_of (word_of a.event)) (marks_after q.ram m a.event) a b

  -- a trap that is no access fault of a store marks no bytes
  failed_none : (m : Marks) (o : Option Insn) (addr : ℕ) → marks_failed q.ram m o fetch_fault addr ≡ m
  failed_none m (Some (Store size rs1 rs2 imm)) addr = refl
  failed_none m (Some (Lui rd imm)) addr = refl
  failed_none m (Some (Auipc rd imm)) addr = refl
  failed_none m (Some (Jal rd imm)) addr = refl
  failed_none m (Some (Jalr rd rs1 imm)) addr = refl
  failed_none m (Some (Branch op rs1 rs2 imm)) addr = refl
  failed_none m (Some (Load op rd rs1 imm)) addr = refl
  failed_none m (Some (AluImm op rd rs1 imm)) addr = refl
  failed_none m (Some (Alu op rd rs1 rs2)) addr = refl
  failed_none m (Some (MulDiv op rd rs1 rs2)) addr = refl
  failed_none m (Some (Csr op rd src imm a)) addr = refl
  failed_none m (Some Fence) addr = refl
  failed_none m (Some FenceI) addr = refl
  failed_none m (Some Ecall) addr = refl
  failed_none m (Some Ebreak) addr = refl
  failed_none m (Some Mret) addr = refl
  failed_none m (Some Wfi) addr = refl
  failed_none m None addr = refl

  fetched_alike : (m : Marks) (lines : ℕ) (f : Fetched) → AreAlike m x y
      → Twin m (after_fetch (state_of q x) cycle lines f) (after_fetch (state_of q y) cycle lines f)
  unfolding leaks marks_after finished
  fetched_alike m lines (Unsound addr) s e =
      subst (λ n. RowAlike k (ctl_of (csrs_of q x)) (instruction_of 0) (marks_entered n)
      (after_fetch (state_of q x) cycle lines (Unsound addr)) (after_fetch (state_of q y) cycle lines (Unsound addr)))
      (sym (failed_none m (instruction_of 0) 0))
      (trap_row k q x y cycle (instruction_of 0) m 0 None None fetch_fault addr 0 s)
  fetched_alike m lines (Instruction word length) s e =
      let a : Stepped = decoded (state_of q x) cycle word length lines (instruction_of word) in
      let b : Stepped = decoded (state_of q y) cycle word length lines (instruction_of word) in
      let at : word_of a.event ≡ word = decoded_word x word length lines (instruction_of word) in
      subst (λ w. RowAlike k (ctl_of (csrs_of q x)) (instruction_of w) (marks_by q.ram m
      (instruction_of w) a.event) a b)
      (sym at)
      (decoded_alike m word length lines (instruction_of word) s
      (subst (λ w. leaks_by k.mul m (instruction_of w) a.event ≡ false) at
      (right_of (leaks_fetched m a.event) (leaks_by k.mul m (instruction_of (word_of a.event)) a.event) e)))

-- ---- a step

-- the word of a view is that of its event
pub view_word : (e : Event) → (view_of e).word ≡ word_of e
unfolding view_of
view_word (Retire cycle pc word rd value mem ctl ops) = refl
view_word (Trap cycle pc word cause tval addr) = refl
view_word (Irq cycle pc cause) = refl

-- equal views but for the operands have equal words
bare_word : (v w : View) → bare v ≡ bare w → v.word ≡ w.word
bare_word v w e = ap (λ u. u.word) e

-- twins by the instruction of their word have one item
row_twins : (k : Settings) (c : Ctl) (m : Marks) (a b : Stepped)
    → RowAlike k c (instruction_of (word_of a.event)) m a b → AreTwins k c m a b
row_twins k c m a b r = record {
  event = record {
    seen = r.seen;
    item =
        item_is k c (view_of a.event)
        ∙ ap (λ n. item_by k c (view_of a.event) (instruction_of n)) (view_word a.event)
        ∙ r.item
        ∙ ap (λ n. item_by k c (view_of b.event) (instruction_of n))
        (sym (view_word a.event) ∙ bare_word (view_of a.event) (view_of b.event) r.seen)
        ∙ sym (item_is k c (view_of b.event));
    halts = r.halts;
  };
  next = r.next;
}

module _ (k : Settings) (q : Shared) (x y : Private) (m : Marks) (s : AreAlike m x y) (cycle : ℕ) where
  -- an interrupt
  taken_alike : (number : ℕ)
      → AreTwins k (ctl_of (csrs_of q x)) (marks_after q.ram m (interrupted (state_of q x) number cycle).event)
      (interrupted (state_of q x) number cycle) (interrupted (state_of q y) number cycle)
  unfolding interrupted csr_tick enter_target marks_after
  taken_alike number = record {
    event = record { seen = refl; item = refl; halts = refl };
    next =
        agree_made (marks_entered m) _ _ (cycle + 1) x.regs y.regs _ _ _ _ refl s.regs refl s.byte
        (enter_agrees m q (ticked q false None x) (ticked q false None y) q.pc number true 0
        (ticked_alike m q false None x y s));
  }

  -- an instruction
  instruction_alike : (lines : ℕ) (f f2 : Fetched) → f ≡ f2
      → leaks k.mul m (after_fetch (state_of q x) cycle lines f).event ≡ false
      → AreTwins k (ctl_of (csrs_of q x)) (marks_after q.ram m (after_fetch (state_of q x) cycle lines f).event)
      (after_fetch (state_of q x) cycle lines f) (after_fetch (state_of q y) cycle lines f2)
  instruction_alike lines f f2 p e =
      subst (λ g. AreTwins k (ctl_of (csrs_of q x))
      (marks_after q.ram m (after_fetch (state_of q x) cycle lines f).event) (after_fetch (state_of q x) cycle lines f)
      (after_fetch (state_of q y) cycle lines g)) p
      (row_twins k (ctl_of (csrs_of q x)) (marks_after q.ram m (after_fetch (state_of q x) cycle lines f).event)
      (after_fetch (state_of q x) cycle lines f) (after_fetch (state_of q y) cycle lines f)
      (fetched_alike k q x y cycle m lines f s e))

module _ (k : Settings) (lines : ℕ → ℕ) (m : Marks) (q : Shared) (x y : Private) (cycle : ℕ) where
  -- the parts at the cycle
  abbrev here : Shared
  here = record q { stands = cycle }

  abbrev late : Private → Private
  late z = moved q (cycle - q.stands) z

  parts_alike : (choice choice2 : Choice) → AreAlike m x y → FetchAlike (state_of q x) choice choice2
      → leaks k.mul m (step_with lines (state_of q x) choice cycle).event ≡ false
      → AreTwins k (ctl_of (csrs_of q x)) (marks_after q.ram m (step_with lines (state_of q x) choice cycle).event)
      (step_with lines (state_of q x) choice cycle) (step_with lines (state_of q y) choice2 cycle)
  unfolding step_with instruction fetch counters_after
  parts_alike (Interrupt number) (Interrupt number2) s p e =
      subst (λ n. AreTwins k (ctl_of (csrs_of q x))
      (marks_after q.ram m (interrupted (at_cycle (state_of q x) cycle) number cycle).event)
      (interrupted (at_cycle (state_of q x) cycle) number cycle)
      (interrupted (at_cycle (state_of q y) cycle) n cycle)) p
      (taken_alike k here (late x) (late y) m (moved_alike m q (cycle - q.stands) x y s) cycle number)
  parts_alike (Interrupt number) (Parcels first second) s p e = elim p [ ]
  parts_alike (Parcels first second) (Interrupt number) s p e = elim p [ ]
  parts_alike (Parcels first second) (Parcels first2 second2) s p e =
      instruction_alike k here (late x) (late y) m (moved_alike m q (cycle - q.stands) x y s) cycle (lines cycle)
      (fetch (state_of q x) first second) (fetch (state_of q x) first2 second2) p e

pub steps_alike : StepsAlike
steps_alike k lines m a b choice choice2 cycle r p e =
    subst (λ q. AreTwins k (ctl_of a.csrs) (marks_after a.memory.ram m (step_with lines a choice cycle).event)
    (step_with lines a choice cycle) (step_with lines (state_of q (private_of b)) choice2 cycle)) r.shared
    (parts_alike k lines m (shared_of a) (private_of a) (private_of b) cycle choice choice2 r.alike p e)
