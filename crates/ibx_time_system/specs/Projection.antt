-- The setup of a run of the two cores, and their first state. Our own rule.
use Rattle.std.specs.Prelude.{◌≡◌, ℕ, ◌^◌, ◌<◌, All, List}
use Rattle.ibx_isa.specs.declared.insn.MulKind.{MulKind}
use Rattle.ibx_elf.specs.declared.ram.Ram.{Ram}
use Rattle.ibx_elf.specs.Image.{image_of}
use Rattle.ibx_plan.specs.declared.entry.Change.{Change}
use Rattle.ibx_plan.specs.Plan.{PlanValue}
use Rattle.ibx_core.specs.declared.state.State.{State}
use Rattle.ibx_core.specs.Fields.{reset_of}
use Rattle.ibx_time.specs.Settings.{Setup}
use Rattle.ibx_lockstep.specs.declared.delay.Delay.{Delay}
use Rattle.ibx_system.specs.Core.{core_parts}
use Rattle.ibx_system.specs.Runs.{IsFirst}
use Rattle.ibx_system.specs.System.{Place, Settings, Whole}
use Rattle.ibx_soc.specs.declared.config.Config.{Config}
use Rattle.ibx_soc.specs.First.{first, first_place, image_words, mul_number}

-- the setup of a file's image in this RAM
abbrev pub of_file : List ℕ → Ram → MulKind → PlanValue → Setup
of_file file ram mul plan = record { image = image_of file ram; mul = mul; plan = plan }

-- the masks of the interrupt lines are words
abbrev pub AreWords : List Change → Type 0
AreWords changes = All (λ c. c.mask < 2 ^ 32) changes

-- the configuration of a setup with a delay
abbrev pub config_of : Setup → Delay → Config
config_of s delay = record { ram = s.image.ram; mul = s.mul; delay = delay }

-- the multiplier and the interrupt lines of a setup
abbrev pub settings_in : Setup → Settings
settings_in s = record { mul = mul_number s.mul; changes = s.plan.changes }

-- the words round the cores at reset, for the setup's image and waits
abbrev pub place_of : Setup → Place
place_of s =
    first_place (image_words s.image) s.image.ram.base (settings_in s) s.plan.iwaits s.plan.dwaits

-- a first state of the two cores, whatever the delay: main at reset, and round it the setup's memory, waits, lines and
-- multiplier
pub record IsStart (s : Setup) (w : Whole State) : Type 0 where
  pub first : IsFirst core_parts w
  pub main : w.main ≡ reset_of s.image.entry
  pub place : w.place ≡ place_of s

-- the system as it is opened with a delay
abbrev pub opened : Setup → Delay → Whole State
opened s delay = first s.image (config_of s delay) s.plan
