-- The system as it is opened is a first state of its setup.
use Rattle.std.proofs.Common.{◌≡◌, ℕ, zero, suc, ◌+◌, ◌/◌, ◌^◌, ◌<◌, List, ◌∷◌, map, refl, ap, ap₂, ◌∙◌, arith}
use Rattle.std.specs.Prelude.{All, replicate}
use Rattle.std.proofs.lemmas.List.{length-replicate}
use Rattle.std.proofs.lemmas.List.Elements.{All-cons, All-nil}
use Rattle.ibx_secded.specs.Code.{checks, column, columns, encode_of, numbers_of_weight, weight}
use Rattle.ibx_elf.specs.Image.{Placed, image_byte, image_word}
use Rattle.ibx_core.specs.Fields.{reset_of}
use Rattle.ibx_core.specs.Wires.{quiet_in, quiet_out}
use Rattle.ibx_time.specs.Settings.{Setup}
use Rattle.ibx_time_machine.specs.System.{first_system, image_words}
use Rattle.ibx_time.specs.Runs.{IsPlaced}
use Rattle.ibx_lockstep.specs.Delays.{cycles_of}
use Rattle.ibx_lockstep.specs.declared.delay.Delay.{Delay}
use Rattle.ibx_lockstep.proofs.Pairs.{some_cycles}
use Rattle.ibx_system.specs.Core.{core_parts}
use Rattle.ibx_system.proofs.First.{codewords_at_reset, first_at_reset}
use Rattle.ibx_soc.specs.First.{first, words_from}
use Rattle.ibx_time_system.specs.Projection.{IsStart, opened, settings_in, place_of}
use Rattle.ibx_time_system.proofs.Systems.{machine_system, system_in}
use Rattle.ibx_system.specs.System.{Whole}
use Rattle.ibx_time_fetch.proofs.AnswersCache.{empty_tag}
use Rattle.ibx_core.specs.declared.state.State.{State}

-- the codeword of 0
empty_word : encode_of 32 7 0 ≡ 0x2a00000000
unfolding encode_of checks column columns numbers_of_weight weight
empty_word = refl

-- the words of an image have 32 bits
words_low : (image : Placed) → ((a : ℕ) → image_byte image a < 256) → (addr n : ℕ)
    → All (λ v. v < 2 ^ 32) (words_from image addr n)
unfolding words_from
words_low image bytes addr zero = All-nil (λ v. v < 2 ^ 32)
words_low image bytes addr (suc n) =
    All-cons (λ v. v < 2 ^ 32) (image_word image addr) (words_from image (addr + 4) n)
    (omega (arith, bytes addr, bytes (addr + 1), bytes (addr + 2), bytes (addr + 3)))
    (words_low image bytes (addr + 4) n)

-- and the memory has their codewords
words_are : (image : Placed) (addr n : ℕ) → map (encode_of 32 7) (words_from image addr n) ≡ image_words image addr n
unfolding words_from image_words
words_are image addr zero = refl
words_are image addr (suc n) =
    ap (λ (l : List ℕ). encode_of 32 7 (image_word image addr) ∷ l) (words_are image (addr + 4) n)

-- main with the words round it is the machine at reset
first_is : (s : Setup) → system_in (reset_of s.image.entry) (place_of s) ≡ first_system s
unfolding first_system reset_of
first_is s =
    let words = words_are s.image s.image.ram.base (s.image.ram.size / 4) in
    λ t. record (system_in (reset_of s.image.entry) (place_of s)) {
      regs = replicate 32 (empty_word t);
      tags = replicate 512 (empty_tag t);
      lines = replicate 1024 (empty_word t);
      mem = record { base = s.image.ram.base; words = words t };
    }

-- so in a first state
pub start_is : (s : Setup) (w : Whole State) → IsStart s w → machine_system w ≡ first_system s
start_is s w i = ap₂ system_in i.main i.place ∙ first_is s

-- the system as it is opened
pub starts : (s : Setup) (delay : Delay) → IsPlaced s → IsStart s (opened s delay)
unfolding first
starts s delay ok =
    let base : ℕ = s.image.ram.base in
    let words : List ℕ = words_from s.image base (s.image.ram.size / 4) in
    let low : All (λ v. v < 2 ^ 32) words = words_low s.image ok.bytes base (s.image.ram.size / 4) in
    record {
      first =
          first_at_reset core_parts (reset_of s.image.entry) (replicate (cycles_of delay) (quiet_in, quiet_out))
          (cycles_of delay) (opened s delay).place (some_cycles delay)
          (length-replicate (cycles_of delay) (quiet_in, quiet_out)) refl
          (codewords_at_reset (settings_in s) words base s.plan.iwaits s.plan.dwaits low);
      main = refl;
      place = refl;
    }
