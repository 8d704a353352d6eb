-- What a flip comes to: the first difference on the bus, and the first alert. Our own rule.
use Rattle.std.specs.Prelude.{ℕ, Bool, ◌&&◌, ◌==◌, if◌then◌else◌, Option, Some, None}
use Rattle.std.specs.Option.{option_map}
use mathlib.Core.Bool.{beq}
use Rattle.ibx_isa.specs.declared.bus.Alerts.{Alerts}
use Rattle.ibx_plan.specs.declared.site.Flip.{Flip}
use Rattle.ibx_core.specs.declared.state.State.{State}
use Rattle.ibx_system.specs.Core.{core_parts}
use Rattle.ibx_system.specs.System.{Whole}
use Rattle.ibx_flips.specs.Flips.{Bounded, first_alert, first_diff}
use Rattle.ibx_system.specs.Runs.{before_step}
use Rattle.ibx_soc.specs.declared.cycle.BusOut.{BusOut}
use Rattle.ibx_soc.specs.Cycles.{cycle_of}
use Rattle.ibx_compare.specs.declared.flipped.Verdict.{Verdict}

-- the alerts of the run with the flip, n cycles from the start
abbrev pub alerts_in : Whole State → Flip → ℕ → Alerts
alerts_in w f n = (cycle_of (before_step core_parts w (Some f) n)).alerts

-- a cycle with its alerts
abbrev pub with_alerts : Whole State → Flip → Option ℕ → Option (ℕ × Alerts)
with_alerts w f cycle = option_map (λ n. (n, alerts_in w f n)) cycle

-- The first cycle, below so many, in which the bus differs between the run without the flip and the run with it; and
-- the first, in the delay plus one cycles more, in which the run with it has an alert, with the set of its alerts.
unfoldable pub verdict : Whole State → Flip → ℕ → Verdict
verdict w f cycles = record {
  first_diff = first_diff core_parts w f cycles;
  first_alert = with_alerts w f (first_alert core_parts w f cycles);
}

-- whether the wires of both buses are equal
abbrev pub agree_wires : BusOut → BusOut → Bool
agree_wires a b =
    beq a.fetch.valid b.fetch.valid && ((a.fetch.addr == b.fetch.addr) && (beq a.load_store.valid b.load_store.valid
    && (beq a.load_store.write b.load_store.write && ((a.load_store.be == b.load_store.be)
    && ((a.load_store.addr == b.load_store.addr) && (a.load_store.word == b.load_store.word))))))

-- what a search has found after one more number is tested
abbrev pub then_test : {A : Type 0} → Option A → Bool → A → Option A
then_test None test n = if test then Some n else None
then_test (Some m) test n = Some m

-- there is no difference without an alert, which comes at most so many cycles later
abbrev pub IsNoticed : ℕ → Verdict → Type 0
IsNoticed most v = Bounded most v.first_diff (option_map (λ a. a.0) v.first_alert)
