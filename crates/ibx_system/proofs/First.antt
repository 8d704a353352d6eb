-- The system at reset: every word that isn't RAM's is the codeword of 0.
use Rattle.std.proofs.Common.{◌≡◌, ℕ, ◌^◌, ◌<◌, ◌≤◌, false, List, length, map, None, refl, arith}
use Rattle.std.specs.Prelude.{All, replicate}
use Rattle.std.proofs.lemmas.List.{length-replicate}
use Rattle.std.proofs.lemmas.List.Elements.{All-map, All-replicate, All-weaker}
use Rattle.ibx_plan.specs.declared.site.Wait.{Wait}
use Rattle.ibx_secded.specs.Code.{encode_of}
use Rattle.ibx_bus.specs.Memory.{coded_memory}
use Rattle.ibx_bus.specs.Port.{new_port}
use Rattle.ibx_icache.specs.WordPort.{is_bad_tag, is_bad_word}
use Rattle.ibx_core.specs.Wires.{InWires as In, OutWires as Out}
use Rattle.ibx_core.proofs.Codewords.{encoded_tag, encoded_word}
use Rattle.ibx_system.specs.Core.{Parts}
use Rattle.ibx_system.specs.System.{Place, Settings, Whole}
use Rattle.ibx_system.specs.Runs.{Codewords, IsFirst}

-- the words round the cores: each word of RAM has its codeword, and the ports have had no request
abbrev pub place_at_reset : Settings → List ℕ → ℕ → List Wait → List Wait → Place
place_at_reset settings words base iwaits dwaits = record {
  settings = settings;
  registers = replicate 32 (encode_of 32 7 0);
  tags = replicate 512 (encode_of 22 6 0);
  lines = replicate 1024 (encode_of 32 7 0);
  memory = coded_memory words base;
  iport = new_port iwaits;
  dport = new_port dwaits;
  pending = None;
  cycle = 0;
}

-- the codewords of the words of an image
coded : (words : List ℕ) → All (λ v. v < 2 ^ 32) words
    → All (λ w. is_bad_word w ≡ false) (map (λ v. encode_of 32 7 v) words)
coded words all =
    All-map (λ w. is_bad_word w ≡ false) (λ v. encode_of 32 7 v) words
    (All-weaker (λ v. v < 2 ^ 32) (λ v. is_bad_word (encode_of 32 7 v) ≡ false) encoded_word words all)

-- every word of such a place is a codeword
pub codewords_at_reset : (settings : Settings) (words : List ℕ) (base : ℕ) (iwaits dwaits : List Wait)
    → All (λ v. v < 2 ^ 32) words
    → Codewords (place_at_reset settings words base iwaits dwaits)
codewords_at_reset settings words base iwaits dwaits all =
    let zero_word = encoded_word 0 (omega arith) in
    record {
      count = (
        length-replicate 32 (encode_of 32 7 0),
        length-replicate 512 (encode_of 22 6 0),
        length-replicate 1024 (encode_of 32 7 0),
      );
      registers = All-replicate (λ w. is_bad_word w ≡ false) 32 (encode_of 32 7 0) zero_word;
      tags = All-replicate (λ w. is_bad_tag w ≡ false) 512 (encode_of 22 6 0) (encoded_tag 0 (omega arith));
      lines = All-replicate (λ w. is_bad_word w ≡ false) 1024 (encode_of 32 7 0) zero_word;
      memory = coded words all;
      ianswer = zero_word;
      danswer = zero_word;
      pending = refl;
    }

-- a system of equal cores where no pair waits yet and nothing was found
abbrev pub system_at_reset : {S : Type 0} → S → List (In × Out) → ℕ → Place → Whole S
system_at_reset core delayed delay place =
    record { main = core; shadow = core; delayed = delayed; delay = delay; age = 0; told = false; place = place }

-- it is a first state, whatever the delayed wires are
pub first_at_reset : {S : Type 0} (p : Parts S) (core : S) (delayed : List (In × Out)) (delay : ℕ) (place : Place)
    → 1 ≤ delay → length delayed ≡ delay → place.cycle ≡ 0 → Codewords place
    → IsFirst p (system_at_reset core delayed delay place)
first_at_reset p core delayed delay place some full cycle words = record {
  cores = refl;
  some = some;
  full = full;
  age = refl;
  untold = refl;
  cycle = cycle;
  words = words;
}
