-- The words of an image, as they are filled in, and the first state.
use Rattle.std.proofs.Common.{◌≡◌, ℕ, zero, suc, ◌+◌, ◌*◌, ◌/◌, ◌%◌, ◌^◌, ◌<◌, List, [], ◌∷◌, length, get_or, refl}
use Rattle.std.proofs.Common.{sym}
use Rattle.std.proofs.Common.{ap, ◌∙◌, subst, arith}
use Rattle.std.specs.Prelude.{All, false, map, replicate}
use Rattle.std.proofs.lemmas.List.{ext_get_or}
use Rattle.ibx_elf.specs.Image.{HoldsWords, Placed, image_word}
use Rattle.ibx_elf.specs.Ram.{IsInRam}
use Rattle.ibx_secded.specs.Code.{encode_of, payload_of}
use Rattle.ibx_secded.proofs.Laws.{payload_of-encode}
use Rattle.ibx_plan.specs.Plan.{PlanValue}
use Rattle.ibx_bus.specs.Memory.{coded_memory}
use Rattle.ibx_core.specs.declared.state.State.{State}
use Rattle.ibx_core.specs.Fields.{reset_of}
use Rattle.ibx_core.specs.Wires.{InWires as In, OutWires as Out, quiet_in, quiet_out}
use Rattle.ibx_lockstep.specs.Delays.{cycles_of}
use Rattle.ibx_lockstep.specs.Paired.{Paired}
use Rattle.ibx_lockstep.proofs.Pairs.{four_cycles, some_cycles}
use Rattle.ibx_system.specs.System.{Place}
use Rattle.ibx_soc.specs.declared.config.Config.{Config}
use Rattle.ibx_soc.specs.First.{IsAsNew, first, first_place, first_with, image_words, settings_of, words_from}
use Rattle.ibx_soc.specs.Seen.{whole_in}

-- as many words as are asked for
length-words : (image : Placed) (addr n : ℕ) → length (words_from image addr n) ≡ n
unfolding words_from
length-words image addr zero = refl
length-words image addr (suc n) = ap suc (length-words image (addr + 4) n)

-- each is the image's word at its address
word-at : (image : Placed) (addr n i : ℕ) → i < n → get_or (words_from image addr n) i 0 ≡ image_word image
    (addr + 4 * i)
unfolding words_from
word-at image addr zero i lt = absurd (omega arith)
word-at image addr (suc n) zero lt = ap (image_word image) (omega arith)
word-at image addr (suc n) (suc i) lt = word-at image (addr + 4) n i (omega arith)
    ∙ ap (image_word image) (omega arith)

-- words that hold the image are its words
pub filled_is : (image : Placed) (words : List ℕ) → length words ≡ image.ram.size / 4 → HoldsWords image words → words
    ≡ image_words image
filled_is image words count holds =
    ext_get_or 0 words (image_words image) (count ∙ sym (length-words image image.ram.base (image.ram.size / 4)))
    (λ i lt. holds i lt ∙ sym (word-at image image.ram.base (image.ram.size / 4) i (subst (λ n. i < n) count lt)))

-- ---- the first state

-- words without their check bits
decoded : (words : List ℕ) → All (λ word. word < 2 ^ 32) words → map (λ word. payload_of 32 word)
    (map (λ v. encode_of 32 7 v) words) ≡ words
decoded [] small = refl
decoded (x ∷ xs) small = λ t. payload_of-encode 32 7 x (small 0 0 (omega arith)) t ∷ decoded xs
    (λ k d lt. small (suc k) d (omega arith)) t

-- the system that is opened is the first state
pub opened_is : (p : Paired State In Out) (core : State) (i : In) (o : Out) (place : Place) (image : Placed)
    (config : Config) (plan : PlanValue)
    → p ≡ record {
      delay = cycles_of config.delay;
      main = core;
      shadow = core;
      delayed = replicate (cycles_of config.delay) (i, o);
      age = 0;
      told = false;
    }
    → core ≡ reset_of image.entry → i ≡ quiet_in → o ≡ quiet_out
    → place ≡ first_place (image_words image) image.ram.base (settings_of config plan) plan.iwaits plan.dwaits
    → whole_in p place ≡ first image config plan
unfolding first
opened_is p core i o place image config plan h e a b at =
    let cores : p ≡ record {
      delay = cycles_of config.delay;
      main = reset_of image.entry;
      shadow = reset_of image.entry;
      delayed = replicate (cycles_of config.delay) (quiet_in, quiet_out);
      age = 0;
      told = false;
    } =
    h ∙ (λ t. record {
      delay = cycles_of config.delay;
      main = e t;
      shadow = e t;
      delayed = replicate (cycles_of config.delay) (a t, b t);
      age = 0;
      told = false;
    }) in
    λ t. whole_in (cores t) (at t)

-- and a first state is as it was opened
pub first_is_new : (image : Placed) (config : Config) (plan : PlanValue) → All (λ word. word < 2 ^ 32)
    (image_words image)
    → image.entry % 2 ≡ 0 → IsInRam image.ram image.entry → 4 * length (coded_memory (image_words image)
    image.ram.base).words ≡ image.ram.size
    → IsAsNew (first image config plan)
unfolding first reset_of
first_is_new image config plan small even inside size = record {
  state = ap (λ (words : List ℕ). first_with image.entry (cycles_of config.delay) (first_place words image.ram.base
      (settings_of config plan) plan.iwaits plan.dwaits)) (sym (decoded (image_words image) small));
  some = some_cycles config.delay;
  four = four_cycles config.delay;
  even = even;
  from_base = inside.from_base;
  before_end = omega (arith, inside.before_end, size);
}
