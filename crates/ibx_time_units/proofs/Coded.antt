-- A memory of codewords that holds what writes left.
use Rattle.std.proofs.Common.{◌≡◌, ℕ, zero, suc, ◌+◌, ◌*◌, ◌/◌, ◌<◌, List, [], ◌∷◌, length, slice_index, refl, ap, ◌∙◌}
use Rattle.std.proofs.Common.{arith}
use Rattle.ibx_arch.specs.Memory.{Memory, image_memory, read_bytes}
use Rattle.ibx_bus.specs.Memory.{MemoryState}
use Rattle.ibx_time_invariant.proofs.Ties.{IsPlaced}
use Rattle.ibx_secded.specs.Code.{encode_of}
use Rattle.ibx_time.specs.Memories.{memory_at}
use Rattle.ibx_time.specs.Settings.{Setup}
use Rattle.ibx_time_units.specs.Courses.{Course, HoldsWrites}

-- the words from an address on
pub coded_words : Memory → ℕ → ℕ → List ℕ
coded_words m a zero = []
coded_words m a (suc n) = encode_of 32 7 (read_bytes m a 4) ∷ coded_words m (a + 4) n

-- as many words as there are, each the codeword of its bytes
words_count : (m : Memory) (a n : ℕ) → length (coded_words m a n) ≡ n
unfolding coded_words
words_count m a zero = refl
words_count m a (suc n) = omega (arith, words_count m (a + 4) n)

-- word i is the codeword of the four bytes at its address
words_are : (m : Memory) (a n i : ℕ) → i < n
    → slice_index (coded_words m a n) i ≡ encode_of 32 7 (read_bytes m (a + 4 * i) 4)
unfolding coded_words
words_are m a zero i h = absurd (omega arith)
words_are m a (suc n) zero h = ap (λ x. encode_of 32 7 (read_bytes m x 4)) (omega arith)
words_are m a (suc n) (suc i) h =
    words_are m (a + 4) n i (omega arith) ∙ ap (λ x. encode_of 32 7 (read_bytes m x 4)) (omega arith)

-- memory in a cycle, with the writes before it
abbrev bytes_at : Setup → Course → ℕ → Memory
bytes_at s r c = memory_at (image_memory s.image) r.writes c

-- the same as words with their check bits
abbrev pub coded_at : Setup → Course → ℕ → MemoryState
coded_at s r c = record {
  base = s.image.ram.base;
  words = coded_words (bytes_at s r c) s.image.ram.base (s.image.ram.size / 4);
}

-- it holds what they left
pub holds_coded : (s : Setup) (r : Course) → IsPlaced s → HoldsWrites s r (coded_at s r)
holds_coded s r ok c =
    let count : length (coded_words (bytes_at s r c) s.image.ram.base (s.image.ram.size / 4)) ≡ s.image.ram.size / 4 =
    words_count (bytes_at s r c) s.image.ram.base (s.image.ram.size / 4) in
    record {
      base = refl;
      size = omega (arith, count, ok.setup.ram.size_in_steps);
      words = λ i h.
          words_are (bytes_at s r c) s.image.ram.base (s.image.ram.size / 4) i (omega (arith, count, h));
    }
