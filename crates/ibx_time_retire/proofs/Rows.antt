-- An instruction that retires is the step's.
use Rattle.std.proofs.Common.{◌≡◌, ℕ, Bool, true, false, List, Option, Some}
use Rattle.std.proofs.Common.{None, refl, ap}
use Rattle.std.specs.Prelude.{◌==◌, if◌then◌else◌, slice_set}
use Rattle.ibx_isa.specs.declared.event.Access.{Access}
use Rattle.ibx_isa.specs.declared.event.View.{View}
use Rattle.ibx_isa.specs.declared.event.Event.{Event}
use Rattle.ibx_isa.specs.declared.event.Event.TheVariants.{Retire as RetireEvent}
use Rattle.ibx_csr.specs.Fields.{Complemented, values}
use Rattle.ibx_csr.specs.Values.{CsrValues}
use Rattle.ibx_csr.specs.declared.csrs.Csrs.{Csrs}
use Rattle.ibx_arch.specs.declared.done.Done.TheVariants.{Retires}
use Rattle.ibx_arch.specs.Memory.{Memory}
use Rattle.ibx_arch.specs.State.{State, at_cycle}
use Rattle.ibx_arch.specs.Step.{Stepped, stepped_by}
use Rattle.ibx_time.specs.Dummies.{dummies_after}
use Rattle.ibx_dummy.specs.declared.unit.Dummy.{Dummy}
use Rattle.ibx_time.specs.Items.{Item}
use Rattle.ibx_time.specs.Times.{target_if}
use Rattle.ibx_time_retire.proofs.Frame.{Does, with_write}
use Rattle.ibx_core.specs.declared.state.State.{State as Core}
use Rattle.ibx_core.specs.declared.sight.Sight.{Sight}
use Rattle.ibx_core.specs.Sights.{is_fixed, stage_word}
use Rattle.ibx_core.specs.Effects.{retires, Effect}

-- the operands that the stage sees, unless timing is fixed
abbrev pub ops_in : Core → Sight → Option (ℕ × ℕ)
ops_in x g = if is_fixed x.csrs then None else Some (g.a, g.b)

-- what an instruction leaves that retires, by all that it comes to
abbrev pub retires_to : Core → Sight → Bool → ℕ → ℕ → Option ℕ → ℕ → Csrs → Dummy → Bool → Effect
retires_to x g r rd value ctl next csrs dummies fence =
    retires x g r (record {
      rd = rd;
      value = value;
      ctl = ctl;
      next_pc = next;
      csrs = csrs;
      dummies = dummies;
      fence = fence;
    })

-- and by what most rows come to: the dummies stay, and it is no FENCE.I
abbrev pub retires_as : Core → Sight → Bool → ℕ → ℕ → Option ℕ → ℕ → Csrs → Effect
retires_as x g r rd value ctl next csrs = retires_to x g r rd value ctl next csrs x.dummies false

-- the step of an instruction that retires, in a state at a cycle
abbrev pub retired : State → ℕ → ℕ → Option (ℕ × ℕ) → Memory → CsrValues → ℕ → ℕ → Option Access → Option ℕ → ℕ
    → Stepped
retired x c word ops memory csrs rd value mem ctl next =
    stepped_by x.pc x.regs c word ops
    (record {
      done = Retires (record { rd = rd; value = value; mem = mem; ctl = ctl; next_pc = next });
      memory = memory;
      csrs = csrs;
    })
    (Retires (record { rd = rd; value = value; mem = mem; ctl = ctl; next_pc = next }))

-- the stage holds the state's instruction, and sees its access and its operands
pub record Stands (x : State) (c word : ℕ) (mem : Option Access) (ops : Option (ℕ × ℕ)) (d : Dummy) (core : Core)
    (g : Sight) : Type 0 where
  pub csrs : values core.csrs ≡ (at_cycle x c).csrs
  pub complemented : Complemented core.csrs
  pub pc : core.id.pc ≡ x.pc
  pub fetched : stage_word core.id ≡ word
  pub access : g.access ≡ mem
  pub same_ops : ops_in core g ≡ ops
  pub dummies : core.dummies ≡ d

-- a write to x0 is none
writes_is : (regs : List ℕ) (rd value : ℕ) (b : Bool)
    → with_write (if b then None else Some (rd, value)) regs ≡ (if b then regs else slice_set regs rd value)
writes_is regs rd value true = refl
writes_is regs rd value false = refl

-- a retirement's event, by its parts in their order
made : ℕ → ℕ → ℕ → ℕ → ℕ → Option ℕ → Option Access → Option (ℕ × ℕ) → Option Event
made c rd value pc w ctl mem o = Some (RetireEvent c pc w rd (if rd == 0 then 0 else value) mem ctl o)

-- equal parts make equal events
made_is : (c rd value : ℕ) (ctl : Option ℕ) (a b u v : ℕ) (m n : Option Access) (o p : Option (ℕ × ℕ)) → a ≡ b → u ≡ v
    → m ≡ n → o ≡ p → made c rd value a u ctl m o ≡ made c rd value b v ctl n p
made_is c rd value ctl a b u v m n o p e f h i = cc

-- the effect of a retirement is its step's
pub any_does : (x : State) (c word rd value next : ℕ) (mem : Option Access) (ctlw : Option ℕ) (ops : Option (ℕ × ℕ))
    (memory : Memory) (csrs : CsrValues) (left : Csrs) (dd : Dummy) (ff : Bool)
    (core : Core) (g : Sight) (d : Dummy) (i : Item) (v : View) (r : Bool)
    → Stands x c word mem ops d core g → values left ≡ csrs → Complemented left
    → r ≡ i.redirects → ff ≡ i.fences → dd ≡ dummies_after d v
    → Does c x.regs d i v (retires_to core g r rd value ctlw next left dd ff)
    (retired x c word ops memory csrs rd value mem ctlw next)
unfolding made retires
any_does x c word rd value next mem ctlw ops memory csrs left dd ff core g d i v r t es ec er ef ed =
    record {
      happens = made_is c rd value ctlw core.id.pc x.pc (stage_word core.id) word g.access mem (ops_in core g) ops t.pc
          t.fetched t.access t.same_ops;
      csrs = es;
      complemented = ec;
      next_pc = refl;
      left = writes_is x.regs rd value (rd == 0);
      stands = refl;
      redirect = ap (λ b. target_if b next) er;
      fence = ef;
      dummies = ed;
    }
