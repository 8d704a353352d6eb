-- No effect writes register 0.
use Rattle.std.proofs.Common.{◌≡◌, ℕ, Bool, true, false, ◌==◌, Option, Some, None, refl}
use Rattle.std.specs.Prelude.{if◌then◌else◌}
use Rattle.ibx_isa.specs.declared.event.Access.{Access}
use Rattle.ibx_id.specs.declared.stage.Turn.{Turn}
use Rattle.ibx_id.specs.declared.stage.Turn.TheVariants.{Idle, Hold, Retire, Trap, Irq, Dummy}
use Rattle.ibx_core.specs.Effects.{Effect}
use Rattle.ibx_core.specs.Effects.{Outcome}
use Rattle.ibx_core.specs.declared.sight.Sight.{Sight}
use Rattle.ibx_core.specs.declared.state.State.{State}
use Rattle.ibx_core.specs.Core.{cycle_of, cycle_seen, cycle_with}
use Rattle.ibx_core.specs.Effects.{access_or, cause_fails, cause_or, effect_by, fails, interrupts, outcome_by}
use Rattle.ibx_core.specs.Effects.{portion_fails, rests, retires}
use Rattle.ibx_core.specs.Sights.{sight_of}
use Rattle.ibx_core.specs.Inputs.{Inputs}

-- a register that is written isn't register 0
abbrev pub SparesZero : Option (ℕ × ℕ) → Type 0
SparesZero None = Unit {0}
SparesZero (Some w) = (w.0 == 0) ≡ false

-- by whether the row's register is 0
written_by : (b : Bool) (rd value : ℕ) → (rd == 0) ≡ b → SparesZero (if b then None else Some (rd, value))
written_by true rd value e = tt
written_by false rd value e = e

-- an instruction that retires
retired_spares : (x : State) (g : Sight) (redirect : Bool) (o : Outcome) → SparesZero (retires x g redirect o).write
unfolding retires
retired_spares x g redirect o = written_by (o.rd == 0) o.rd o.value refl

-- of three
chosen : (b c : Bool) (p q r : Effect) → SparesZero p.write → SparesZero q.write → SparesZero r.write
    → SparesZero (if b then p else if c then q else r).write
chosen true c p q r u v w = u
chosen false true p q r u v w = v
chosen false false p q r u v w = w

-- by the turn
effect_spares : (turn : Turn) (x : State) (g : Sight) (lines : ℕ) → SparesZero (effect_by turn x g lines).write
unfolding effect_by rests interrupts portion_fails cause_fails fails
effect_spares Idle x g lines = tt
effect_spares (Hold st) x g lines = tt
effect_spares Dummy x g lines = tt
effect_spares Irq x g lines = tt
effect_spares (Trap portion) x g lines =
    let w : Access = access_or g.access in
    chosen (portion == 1) (portion == 2) (portion_fails x w false) (portion_fails x w true)
    (cause_fails x (cause_or g.cause)) tt tt tt
effect_spares (Retire redirect) x g lines = retired_spares x g redirect (outcome_by g.row x g lines)

-- in a cycle
pub cycle_spares : (x : State) (i : Inputs) → SparesZero (cycle_of x i).effect.write
unfolding cycle_of cycle_seen cycle_with
cycle_spares x i = effect_spares (sight_of x i).turn x (sight_of x i) i.lines
