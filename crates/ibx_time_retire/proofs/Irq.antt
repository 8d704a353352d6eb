-- An interrupt that is taken is the step's.
use Rattle.std.proofs.Common.{◌≡◌, ℕ, ◌%◌, ◌<◌, Bool, true, false, not, List, [], ◌∷◌, Option, Some, None}
use Rattle.std.proofs.Common.{refl, sym, ap, subst, ◌∙◌, arith}
use Rattle.std.specs.Prelude.{◌&&◌, if◌then◌else◌, bit_and, find, nat_lt}
use Rattle.std.proofs.lemmas.Bool.{ltb-true}
use Rattle.ibx_isa.specs.declared.trap.TrapRegs.{TrapRegs}
use Rattle.ibx_isa.specs.declared.event.View.{View}
use Rattle.ibx_isa.specs.Views.{view_of}
use Rattle.ibx_isa.specs.declared.event.Event.TheVariants.{Irq as IrqEvent}
use Rattle.ibx_csr.specs.Fields.{Complemented, tick_of, values, with_regs}
use Rattle.ibx_csr.specs.Values.{csr_tick, trap_regs, with_trap_regs}
use Rattle.ibx_csr.specs.declared.csrs.Csrs.{Csrs}
use Rattle.ibx_trap.specs.Interrupts.{order, pending_of}
use Rattle.ibx_trap.specs.Bits.{bit_of, has_some}
use Rattle.ibx_trap.specs.Traps.{enter_of, enter_target}
use Rattle.ibx_arch.specs.State.{State, at_cycle}
use Rattle.ibx_arch.specs.Step.{Interrupt, interrupted, pending_in, step_with}
use Rattle.ibx_time.specs.Settings.{Settings, Setup, lines_in, settings_of}
use Rattle.ibx_time.specs.Controls.{Ctl, values_of}
use Rattle.ibx_time.specs.Dummies.{dummies_after}
use Rattle.ibx_dummy.specs.declared.unit.Dummy.{Dummy}
use Rattle.ibx_time.specs.Items.{Item, item_of, plain}
use Rattle.ibx_time.specs.Times.{AnInterrupt, kind_at, kind_by, target_if}
use Rattle.ibx_time.specs.History.{Story, choice_at, choice_by, done_at, item_at, item_by, kind_of, taken}
use Rattle.ibx_time.specs.History.{view_with}
use Rattle.ibx_time_invariant.proofs.Links.{AreGranted}
use Rattle.ibx_time_invariant.proofs.Rests.{tick_is}
use Rattle.ibx_time_invariant.proofs.Ties.{IsBefore, IsPlaced, IsState, Tied}
use Rattle.ibx_time_invariant.proofs.ArchSide.{Left}
use Rattle.ibx_time_retire.proofs.Frame.{Does, leaves, steps}
use Rattle.ibx_time.proofs.States.{step_good}
use Rattle.ibx_isa.specs.ControlBits.{mie_bit}
use Rattle.ibx_id.specs.declared.stage.Turn.TheVariants.{Irq}
use Rattle.ibx_id.specs.declared.stage.Turn.{Turn}
use Rattle.ibx_core.specs.declared.state.State.{State as Core}
use Rattle.ibx_core.specs.declared.sight.Sight.{Sight}
use Rattle.ibx_core.specs.Effects.{effect_by, interrupts, rests}
use Rattle.ibx_core.specs.Inputs.{Inputs}

-- ---- the number of a pending interrupt

-- lines are numbered below 32
abbrev are_numbers : List ℕ → Bool
are_numbers [] = true
are_numbers (x ∷ xs) = nat_lt x 32 && are_numbers xs

-- what is found among them is too
found_low : (test : ℕ → Bool) (xs : List ℕ) (n : ℕ) → are_numbers xs ≡ true → find test xs ≡ Some n → n < 32
found_low test [] n k e = absurd cc
found_low test (x ∷ xs) n k e = by (nat_lt x 32) (test x) refl k (found_low test xs n) e
  where
    by : (a b : Bool) → nat_lt x 32 ≡ a → (a && are_numbers xs) ≡ true
        → (are_numbers xs ≡ true → find test xs ≡ Some n → n < 32) → (if b then Some x else find test xs) ≡ Some n
        → n < 32
    by true true l k f e = subst (λ m. m < 32) (let q : x ≡ n = cc in q) (ltb-true x 32 l)
    by true false l k f e = f k e
    by false b l k f e = absurd (let no_ : false ≡ true = k in cc)

-- so a pending interrupt has one
pending_by : (b : Bool) (test : ℕ → Bool) (n : ℕ) → (if b then None else find test order) ≡ Some n → n < 32
pending_by true test n e = absurd cc
pending_by false test n e = found_low test order n refl e

-- so the interrupt that is pending is below 32, whatever mstatus, mie and the lines are
pending_low : (machine : Bool) (mstatus mie lines n : ℕ) → pending_of machine mstatus mie lines ≡ Some n → n < 32
unfolding pending_of
pending_low machine mstatus mie lines n e =
    pending_by (machine && not (has_some mstatus mie_bit)) (λ m. bit_of (bit_and mie lines) m) n e

-- and with it an interrupt that is admitted
kind_number : (o : Option ℕ) (due : Bool) (n : ℕ) → kind_by o due ≡ AnInterrupt n → o ≡ Some n
kind_number None true n e = absurd cc
kind_number None false n e = absurd cc
kind_number (Some m) due n e = cc

-- so an interrupt that is admitted is one of the 32 lines
pub number_low : (s : Setup) (t : ℕ) (h : Story) (n : ℕ) → kind_of s t h ≡ AnInterrupt n → n < 32
unfolding kind_at
number_low s t h n e =
    pending_low h.times.ctl.machine h.times.ctl.mstatus h.times.ctl.mie (lines_in (settings_of s) t) n
    (kind_number (pending_in (values_of h.times.ctl) (lines_in (settings_of s) t)) _ n e)

-- ---- the registers

-- what a trap leaves of the fields is what it leaves of the registers, with their complements
pub regs_are : (c : Csrs) (r : TrapRegs) → values (with_regs c r) ≡ with_trap_regs (values c) r
unfolding values with_regs with_trap_regs
regs_are c r = refl

-- a trap writes its registers together with their complements
pub regs_complement : (c : Csrs) (r : TrapRegs) → Complemented c → Complemented (with_regs c r)
unfolding with_regs
regs_complement c r k = record {
  trap = (refl, (refl, (refl, k.trap.1.1.1)));
  cfg = k.cfg;
  low = k.low;
  high = k.high;
}

-- the counters have no complement, so all complements stay right as they move
pub ticked_complement : (c : Csrs) (retired : Bool) (wrote : Option ℕ) → Complemented c
    → Complemented (tick_of c retired wrote)
unfolding tick_of
ticked_complement c retired wrote k = record { trap = k.trap; cfg = k.cfg; low = k.low; high = k.high }

-- ---- the step

-- its view is an interrupt's
view_kind : (k : Settings) (x : State) (n c : ℕ)
    → ((view_of (step_with (lines_in k) x (Interrupt n) c).event).kind) ≡ 2
unfolding step_with interrupted view_of
view_kind k x n c = refl

-- it leaves the dummies, enters the trap, and redirects
dummies_stay : (d : Dummy) (v : View) → v.kind ≡ 2 → d ≡ dummies_after d v
dummies_stay d v e = rw e refl

-- an interrupt's item takes no parcel and no cycle more, and redirects
item_is : (k : Settings) (c : Ctl) (v : View) → v.kind ≡ 2 → item_of k c v ≡ record (plain 0) { redirects = true }
unfolding item_of
item_is k c v e = rw e refl

-- so the effect is the step's
pub interrupts_does : (k : Settings) (x : State) (n c : ℕ) (core : Core) (d : Dummy) (i : Item) (v : View)
    → values core.csrs ≡ (at_cycle x c).csrs → core.id.pc ≡ x.pc → Complemented core.csrs → core.dummies ≡ d
    → v.kind ≡ 2 → i ≡ record (plain 0) { redirects = true }
    → Does c x.regs d i v (interrupts core n) (step_with (lines_in k) x (Interrupt n) c)
unfolding step_with interrupted interrupts rests
interrupts_does k x n c core d i v ev ep ec ed kind ei =
    let target : enter_target (trap_regs (values core.csrs)) n true
    ≡ enter_target (trap_regs (at_cycle x c).csrs) n true = ap (λ w. enter_target (trap_regs w) n true) ev in
    record {
      happens = ap (λ pc. Some (IrqEvent c pc n)) ep;
      csrs = regs_are (tick_of core.csrs false None) (enter_of (trap_regs (values core.csrs)) core.id.pc n true 0)
          ∙ ap (λ w. with_trap_regs w (enter_of (trap_regs (values core.csrs)) core.id.pc n true 0))
          (tick_is core.csrs)
          ∙ ap (λ w. with_trap_regs (csr_tick w false None) (enter_of (trap_regs w) core.id.pc n true 0)) ev
          ∙ ap (λ pc. with_trap_regs (csr_tick (at_cycle x c).csrs false None)
          (enter_of (trap_regs (at_cycle x c).csrs) pc n true 0)) ep;
      complemented = regs_complement (tick_of core.csrs false None) _ (ticked_complement core.csrs false None ec);
      next_pc = target;
      left = refl;
      stands = refl;
      redirect = ap Some target ∙ sym (ap
          (λ (j : Item). target_if j.redirects (enter_target (trap_regs (at_cycle x c).csrs) n true)) ei);
      fence = sym (ap (λ (j : Item). j.fences) ei);
      dummies = ed ∙ dummies_stay d v kind;
    }

-- ---- the end of an interrupt

-- the choice and the item of an interrupt
choice_is : (s : Setup) (t : ℕ) (h : Story) (n : ℕ) → kind_of s t h ≡ AnInterrupt n
    → choice_at s t h ≡ Some (Interrupt n)
choice_is s t h n k = ap (choice_by s h) k

-- so is the item that is admitted with an interrupt
item_of_interrupt : (s : Setup) (t : ℕ) (h : Story) (n : ℕ) → kind_of s t h ≡ AnInterrupt n
    → item_at s t h ≡ record (plain 0) { redirects = true }
unfolding item_at
item_of_interrupt s t h n k =
    ap (λ o. item_by s h (choice_by s h o)) k
    ∙ item_is (settings_of s) h.times.ctl (view_with s h (Interrupt n))
    (view_kind (settings_of s) h.state n h.state.stands)

-- its number is the word of the stage, so its effect is this
number_is : (a n : ℕ) → a ≡ n → n < 32 → a % 32 ≡ n
number_is a n e l = omega (arith, e, l)

-- the turn Irq enters the interrupt that the low five bits of the stage's word tell
interrupts_after : (x : Core) (g : Sight) (i : Inputs) (turn : Turn) (n : ℕ) → turn ≡ Irq → x.id.word % 32 ≡ n
    → effect_by turn x g i.lines ≡ interrupts x n
unfolding effect_by
interrupts_after x g i turn n e k = ap (λ u. effect_by u x g i.lines) e ∙ ap (interrupts x) k

-- so an interrupt leaves what the history does
pub interrupt_ends : (s : Setup) (limit t : ℕ) (h : Story) (c n : ℕ) (regs : List ℕ) (core : Core) (g : Sight)
    (i : Inputs) → IsPlaced s → Tied s h c core.next_pc core.csrs regs → IsState s c h
    → core.dummies ≡ (taken s t h).times.dummies → kind_of s t h ≡ AnInterrupt n → done_at s limit t h ≡ c
    → core.id.pc ≡ h.state.pc → core.id.word ≡ n → IsBefore (taken s t h).writes c → AreGranted (taken s t h).sent c
    → g.turn ≡ Irq → Left s limit t h c (effect_by g.turn core g i.lines) regs
interrupt_ends s limit t h c n regs core g i ok ti st dm k d epc ew before granted turn =
    subst (λ e. Left s limit t h c e regs)
    (sym (interrupts_after core g i g.turn n turn (number_is core.id.word n ew (number_low s t h n k))))
    (leaves s limit t h c core.next_pc core.csrs regs (interrupts core n) (Some (Interrupt n)) ok ti st
    (choice_is s t h n k) d before granted
    (steps s h (taken s t h) (item_at s t h) c regs (Interrupt n) (interrupts core n) ti.regs_are
    (step_good s.image.ram (settings_of s) h.state (Interrupt n) c st.good tt (ok.lines c))
    (interrupts_does (settings_of s) h.state n c core (taken s t h).times.dummies (item_at s t h)
    (view_with s h (Interrupt n)) ti.values_are epc ti.complemented dm
    (view_kind (settings_of s) h.state n h.state.stands) (item_of_interrupt s t h n k))))
