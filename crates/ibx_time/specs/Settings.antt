-- What a run begins with, and what of it time depends on.
use Rattle.std.specs.Prelude.{ℕ}
use Rattle.ibx_elf.specs.declared.ram.Ram.{Ram}
use Rattle.ibx_elf.specs.Image.{Placed}
use Rattle.ibx_isa.specs.declared.insn.MulKind.{MulKind}
use Rattle.ibx_plan.specs.Plan.{PlanValue, lines_at}

-- the configuration and the plan
pub record Settings : Type 0 where
  pub ram : Ram
  pub mul : MulKind
  pub plan : PlanValue

-- a run: an image, whose RAM is the configuration's, and the rest of the settings
pub record Setup : Type 0 where
  pub image : Placed
  pub mul : MulKind
  pub plan : PlanValue

-- what of a run time depends on: all but the image
abbrev pub settings_of : Setup → Settings
settings_of s = record { ram = s.image.ram; mul = s.mul; plan = s.plan }

-- the interrupt lines of a cycle
abbrev pub lines_in : Settings → ℕ → ℕ
lines_in k cycle = lines_at k.plan.changes cycle
