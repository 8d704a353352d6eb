-- The system at reset: the first state of every run. Our own rule.
use Rattle.std.specs.Prelude.{◌≡◌, ℕ, zero, suc, ◌+◌, ◌*◌, ◌/◌, ◌%◌, ◌<◌, ◌≤◌, false, List, [], ◌∷◌, map, length}
use Rattle.std.specs.Prelude.{replicate, None}
use Rattle.ibx_secded.specs.Code.{payload_of}
use Rattle.ibx_isa.specs.declared.insn.MulKind.{MulKind}
use Rattle.ibx_isa.specs.declared.insn.MulKind.TheVariants as kind
use Rattle.ibx_elf.specs.Image.{Placed, image_word}
use Rattle.ibx_plan.specs.Plan.{PlanValue}
use Rattle.ibx_plan.specs.declared.site.Wait.{Wait}
use Rattle.ibx_ram.specs.Ram.{empty_of}
use Rattle.ibx_bus.specs.Memory.{coded_memory}
use Rattle.ibx_bus.specs.Port.{new_port}
use Rattle.ibx_core.specs.declared.state.State.{State}
use Rattle.ibx_core.specs.Fields.{reset_of}
use Rattle.ibx_core.specs.Wires.{quiet_in, quiet_out}
use Rattle.ibx_lockstep.specs.Delays.{cycles_of}
use Rattle.ibx_system.specs.System.{Place, Settings, Whole}
use Rattle.ibx_soc.specs.declared.config.Config.{Config}

-- the number of a multiplier on its wire
abbrev pub mul_number : MulKind → ℕ
mul_number kind.Single = 0
mul_number kind.Fast = 1
mul_number kind.Slow = 2

-- what no step changes: the multiplier of a configuration, and the changes of the interrupt lines of a plan
abbrev pub settings_of : Config → PlanValue → Settings
settings_of config plan = record { mul = mul_number config.mul; changes = plan.changes }

-- so many words of an image, from a byte address on
unfoldable pub words_from : Placed → ℕ → ℕ → List ℕ
words_from image addr zero = []
words_from image addr (suc n) = image_word image addr ∷ words_from image (addr + 4) n

-- all words of RAM
abbrev pub image_words : Placed → List ℕ
image_words image = words_from image image.ram.base (image.ram.size / 4)

-- the words round the cores at reset, with the codewords of these words in the memory and with these waits: every
-- other word is the codeword of 0
abbrev pub first_place : List ℕ → ℕ → Settings → List Wait → List Wait → Place
first_place words base settings iwaits dwaits = record {
  settings = settings;
  registers = empty_of 32 7 32;
  tags = empty_of 22 6 512;
  lines = empty_of 32 7 1024;
  memory = coded_memory words base;
  iport = new_port iwaits;
  dport = new_port dwaits;
  pending = None;
  cycle = 0;
}

-- the system at reset with an entry and a delay: the cores' fields have their reset values, no delayed wire is driven,
-- and nothing was found
abbrev pub first_with : ℕ → ℕ → Place → Whole State
first_with entry delay place = record {
  main = reset_of entry;
  shadow = reset_of entry;
  delayed = replicate delay (quiet_in, quiet_out);
  delay = delay;
  age = 0;
  told = false;
  place = place;
}

-- the first state of a run of an image, with a configuration and a plan
unfoldable pub first : Placed → Config → PlanValue → Whole State
first image config plan =
    first_with image.entry (cycles_of config.delay)
    (first_place (image_words image) image.ram.base (settings_of config plan) plan.iwaits plan.dwaits)

-- the words that a system's memory holds, without their check bits
abbrev pub words_in : Whole State → List ℕ
words_in w = map (λ word. payload_of 32 word) w.place.memory.words

-- A system is as it was opened: in the first state for the words that its memory holds, its delay, which is 1 to 4, and
-- the entry that is main's next address, which is even and lies in RAM.
pub record IsAsNew (w : Whole State) : Type 0 where
  pub state : w ≡ first_with w.main.next_pc w.delay
      (first_place (words_in w) w.place.memory.base w.place.settings w.place.iport.waits w.place.dport.waits)
  pub some : 1 ≤ w.delay
  pub four : w.delay ≤ 4
  pub even : w.main.next_pc % 2 ≡ 0
  pub from_base : w.place.memory.base ≤ w.main.next_pc
  pub before_end : w.main.next_pc < w.place.memory.base + 4 * length w.place.memory.words
