-- What an injection prints (the format is our own).
use Rattle.std.specs.Prelude.{ℕ, Bool, ◌==◌, bit_and, List, [], ◌∷◌, ◌++◌, map, filter, codes, Option, Some, None}
use Rattle.std.specs.List.{join_with_byte}
use Rattle.std.specs.Fmt.{decimal}
use Rattle.ibx_isa.specs.declared.bus.Alerts.{Alerts}
use Rattle.ibx_elf.specs.Image.{Placed}
use Rattle.ibx_plan.specs.Plan.{PlanValue}
use Rattle.ibx_command.specs.declared.options.Options.{Options}
use Rattle.ibx_plan.specs.declared.site.Flip.{Flip}
use Rattle.ibx_core.specs.declared.state.State.{State}
use Rattle.ibx_system.specs.System.{Whole}
use Rattle.ibx_soc.specs.First.{first}
use Rattle.ibx_compare.specs.declared.flipped.Verdict.{Verdict}
use Rattle.ibx_compare.specs.Verdicts.{verdict}

-- each alert by its bit in a set, with its name, in the order in which they are printed
abbrev pub alert_names : List (ℕ × List ℕ)
alert_names = (1, codes "minor") ∷ (2, codes "internal") ∷ (4, codes "bus") ∷ []

-- whether a set has the alert of this bit
abbrev pub has_alert : Alerts → ℕ → Bool
has_alert alerts bit = bit_and alerts.0 bit == bit

-- the names of the alerts of a set, with '+' between them
unfoldable pub kinds_text : Alerts → List ℕ
kinds_text alerts = join_with_byte 43 (map (λ row. row.1) (filter (λ row. has_alert alerts row.0) alert_names))

-- the line of the first cycle in which the bus differs
unfoldable pub diff_line : Option ℕ → List ℕ
diff_line None = codes "diff none\n"
diff_line (Some cycle) = codes "diff " ++ decimal cycle ++ codes "\n"

-- the line of the first cycle with an alert, and the alerts of that cycle
unfoldable pub alert_line : Option (ℕ × Alerts) → List ℕ
alert_line None = codes "alert none\n"
alert_line (Some first) = codes "alert " ++ decimal first.0 ++ codes " " ++ kinds_text first.1 ++ codes "\n"

-- both lines
abbrev pub verdict_text : Verdict → List ℕ
verdict_text v = diff_line v.first_diff ++ alert_line v.first_alert

-- the system of a run: the RAM of the image, and the multiplier and the delay of the options
abbrev pub system_of : Placed → Options → PlanValue → Whole State
system_of image options plan =
    first image (record { ram = image.ram; mul = options.mul; delay = options.delay }) plan

-- what a flip comes to in so many cycles of a system; without one, nothing differs
unfoldable pub verdict_by : Whole State → ℕ → Option Flip → Verdict
verdict_by system cycles None = record { first_diff = None; first_alert = None }
verdict_by system cycles (Some flip) = verdict system flip cycles

-- what the flip of a plan comes to in a run of an image
abbrev pub verdict_of : Placed → Options → PlanValue → Verdict
verdict_of image options plan = verdict_by (system_of image options plan) options.cycles plan.flip
