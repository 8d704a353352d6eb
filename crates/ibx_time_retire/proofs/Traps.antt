-- A trap that is taken is the step's.
use Rattle.std.proofs.Common.{◌≡◌, ℕ, true, false, Option, Some, None, refl, sym, ap, ◌∙◌}
use Rattle.std.specs.Prelude.{◌==◌, if◌then◌else◌}
use Rattle.ibx_isa.specs.declared.event.View.{View}
use Rattle.ibx_isa.specs.declared.event.Event.TheVariants.{Trap as TrapEvent}
use Rattle.ibx_csr.specs.Fields.{Complemented, tick_of, values}
use Rattle.ibx_csr.specs.Values.{CsrValues, csr_tick, trap_regs, with_trap_regs}
use Rattle.ibx_trap.specs.Traps.{enter_of, enter_target}
use Rattle.ibx_arch.specs.declared.done.Done.TheVariants.{Traps}
use Rattle.ibx_arch.specs.Memory.{Memory}
use Rattle.ibx_arch.specs.State.{State, at_cycle}
use Rattle.ibx_arch.specs.Step.{Stepped, stepped_by}
use Rattle.ibx_time.specs.Dummies.{dummies_after}
use Rattle.ibx_dummy.specs.declared.unit.Dummy.{Dummy}
use Rattle.ibx_time.specs.Items.{Item}
use Rattle.ibx_time.specs.Times.{target_if}
use Rattle.ibx_time_invariant.proofs.Rests.{tick_is}
use Rattle.ibx_time_retire.proofs.Frame.{Does}
use Rattle.ibx_time_retire.proofs.Irq.{regs_are, regs_complement, ticked_complement}
use Rattle.ibx_core.specs.declared.state.State.{State as Core}
use Rattle.ibx_core.specs.Effects.{fails, rests}
use Rattle.ibx_core.specs.Sights.{stage_word}

-- the step of a trap, in a state at a cycle, with the memory that it leaves
abbrev pub trapped : State → ℕ → ℕ → Option (ℕ × ℕ) → Memory → ℕ → ℕ → ℕ → Stepped
trapped x c word ops memory cause tval addr =
    stepped_by x.pc x.regs c word ops
    (record { done = Traps cause tval addr; memory = memory; csrs = csr_tick (at_cycle x c).csrs false None })
    (Traps cause tval addr)

-- what is asked of the item
pub record IsTrap (i : Item) (v : View) : Type 0 where
  pub redirects : i.redirects ≡ true
  pub fences : i.fences ≡ false
  pub kind : v.kind ≡ 1

-- a trap leaves the dummies, and enters
dummies_stay : (d : Dummy) (v : View) → v.kind ≡ 1 → d ≡ dummies_after d v
dummies_stay d v e = rw e refl

-- equal parts make equal events
event_is : (pc pc2 word word2 cause tval addr c : ℕ) → pc ≡ pc2 → word ≡ word2
    → Some (TrapEvent c pc word cause tval addr) ≡ Some (TrapEvent c pc2 word2 cause tval addr)
event_is pc pc2 word word2 cause tval addr c e k =
    ap (λ a. Some (TrapEvent c a word cause tval addr)) e ∙ ap (λ a. Some (TrapEvent c pc2 a cause tval addr)) k

-- moving the counters changes neither the handler nor what the entry leaves
ticked_target : (w : CsrValues) (cause : ℕ)
    → enter_target (trap_regs w) cause false ≡ enter_target (trap_regs (csr_tick w false None)) cause false
unfolding csr_tick
ticked_target w cause = refl

-- the entry takes the same of the trap's registers before and after the counters move
ticked_entry : (w : CsrValues) (pc cause tval : ℕ)
    → with_trap_regs (csr_tick w false None) (enter_of (trap_regs w) pc cause false tval)
    ≡ with_trap_regs (csr_tick w false None) (enter_of (trap_regs (csr_tick w false None)) pc cause false tval)
unfolding csr_tick
ticked_entry w pc cause tval = refl

-- so the effect of a trap is its step's
pub fails_does : (x : State) (c cause tval addr word : ℕ) (ops : Option (ℕ × ℕ)) (memory : Memory) (core : Core)
    (d : Dummy) (i : Item) (v : View)
    → values core.csrs ≡ (at_cycle x c).csrs → core.id.pc ≡ x.pc → Complemented core.csrs → core.dummies ≡ d
    → (if cause == 1 then 0 else stage_word core.id) ≡ word → IsTrap i v
    → Does c x.regs d i v (fails core cause tval addr) (trapped x c word ops memory cause tval addr)
unfolding fails rests
fails_does x c cause tval addr word ops memory core d i v ev ep ec ed ew it =
    let now : CsrValues = (at_cycle x c).csrs in
    let target : enter_target (trap_regs (values core.csrs)) cause false
    ≡ enter_target (trap_regs (csr_tick now false None)) cause false =
    ap (λ w. enter_target (trap_regs w) cause false) ev ∙ ticked_target now cause in
    record {
      happens = event_is core.id.pc x.pc _ word cause tval addr c ep ew;
      csrs =
          regs_are (tick_of core.csrs false None) (enter_of (trap_regs (values core.csrs)) core.id.pc cause false tval)
          ∙ ap (λ w. with_trap_regs w (enter_of (trap_regs (values core.csrs)) core.id.pc cause false tval))
          (tick_is core.csrs)
          ∙ ap (λ w. with_trap_regs (csr_tick w false None) (enter_of (trap_regs w) core.id.pc cause false tval)) ev
          ∙ ap (λ pc. with_trap_regs (csr_tick now false None) (enter_of (trap_regs now) pc cause false tval)) ep
          ∙ ticked_entry now x.pc cause tval;
      complemented = regs_complement (tick_of core.csrs false None) _ (ticked_complement core.csrs false None ec);
      next_pc = target;
      left = refl;
      stands = refl;
      redirect = ap Some target ∙ sym (ap
          (λ b. target_if b (enter_target (trap_regs (csr_tick now false None)) cause false)) it.redirects);
      fence = sym it.fences;
      dummies = ed ∙ dummies_stay d v it.kind;
    }
