-- The first state of the system, and its runs with one flip or none.
use Rattle.std.specs.Prelude.{◌≡◌, ℕ, zero, suc, ◌+◌, ◌-◌, ◌<◌, ◌≤◌, ◌^◌, Bool, true, false, not, ◌&&◌, ◌||◌, nat_le}
use Rattle.std.specs.Prelude.{◌==◌, if◌then◌else◌, List, [], ◌∷◌, All, length, slice_index, slice_set, Option, Some}
use Rattle.std.specs.Prelude.{None, bit_xor}
use Rattle.ibx_isa.specs.declared.bus.Req.{Req}
use Rattle.ibx_plan.specs.declared.site.Site.{Site}
use Rattle.ibx_plan.specs.declared.site.Site.TheVariants as site
use Rattle.ibx_plan.specs.declared.site.Flip.{Flip}
use Rattle.ibx_bus.specs.Memory.{MemoryState, memory_flip, is_store, memory_has, index_of}
use Rattle.ibx_bus.specs.Port.{answers, port_flip}
use Rattle.ibx_core.specs.Wires.{InWires as In, OutWires as Out}
use Rattle.ibx_icache.specs.WordPort.{is_bad_tag, is_bad_word}
use Rattle.ibx_system.specs.Core.{Parts, takes0, takes1}
use Rattle.ibx_system.specs.System.{Place, Whole, tag_index, line_index, set_of, half_of, look, writes_register}
use Rattle.ibx_system.specs.System.{writes_way, igrant_of, dgrant_of, fetch_of, load_store_of, next, output_of}
use Rattle.ibx_system.specs.Flips.{flip}

-- 32 registers, 256 sets of two ways with two data words each, all words codewords, and no pending flip
pub record Codewords (e : Place) : Type 0 where
  pub count : (length e.registers ≡ 32) × (length e.tags ≡ 512) × (length e.lines ≡ 1024)
  pub registers : All (λ w. is_bad_word w ≡ false) e.registers
  pub tags : All (λ w. is_bad_tag w ≡ false) e.tags
  pub lines : All (λ w. is_bad_word w ≡ false) e.lines
  pub memory : All (λ w. is_bad_word w ≡ false) e.memory.words
  pub ianswer : is_bad_word e.iport.word ≡ false
  pub danswer : is_bad_word e.dport.word ≡ false
  pub pending : e.pending ≡ None

module _ {S : Type 0} (p : Parts S) where
  -- equal cores, a delay of one cycle or more in which no pair waits, nothing found, and codewords everywhere
  pub record IsFirst (w : Whole S) : Type 0 where
    pub cores : w.main ≡ w.shadow
    pub some : 1 ≤ w.delay
    pub full : length w.delayed ≡ w.delay
    pub age : w.age ≡ 0
    pub untold : w.told ≡ false
    pub cycle : w.place.cycle ≡ 0
    pub words : Codewords w.place

  -- the flip is made just before the step of its cycle
  abbrev pub made : Option (Flip) → Whole S → Whole S
  made None w = w
  made (Some f) w = if w.place.cycle == f.cycle then flip p f.site w else w

  -- the system after so many steps
  unfoldable pub run : Whole S → Option (Flip) → ℕ → Whole S
  run w f zero = w
  run w f (suc n) = run (next p (made f w)) f n

  -- the state of which the step after n steps is made
  abbrev pub before_step : Whole S → Option (Flip) → ℕ → Whole S
  before_step w f n = made f (run w f n)
