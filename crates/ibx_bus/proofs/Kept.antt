-- What is written keeps the words of a memory within their bits.
use Rattle.std.proofs.Common.{◌≡◌, ℕ, ◌+◌, ◌*◌, ◌%◌, ◌^◌, ◌<◌, ◌≤◌, List, length, get_or, map, sym, ◌∙◌, arith, inl}
use Rattle.std.proofs.Common.{inr, length-set}
use Rattle.std.specs.Prelude.{All, slice_set}
use Rattle.std.proofs.lemmas.Bool.{cases_eq, cases_lt}
use Rattle.std.proofs.lemmas.Grind.{get_or_default_zero}
use Rattle.std.proofs.lemmas.List.{ext_get_or, get_or-map, get_or_past, length-map}
use Rattle.std.proofs.lemmas.List.Elements.{All-get_or, All-map, All-set}
use Rattle.ibx_secded.specs.Code.{IsCode, encode_of, payload_of}
use Rattle.ibx_secded.proofs.Laws.{encode_of-lt, rewrite_of-lt}
use Rattle.ibx_bus.specs.Memory.{IsMemory, MissesHostPage, merged, stored_word}
use Rattle.ibx_bus.proofs.Steps.{merged-lt, stored-bytes, stored-whole}

-- the code of the bus
code : IsCode 32 7
code =
    record { least = omega arith; most = omega arith; some = omega arith; columns = omega arith; word = omega arith }

-- a word that is read fits its bits, also outside the memory
pub word-fits : (words : List ℕ) (i : ℕ) → All (λ w. w < 2 ^ 39) words → get_or words i 0 < 2 ^ 39
word-fits words i all =
    elim (cases_lt i (length words)) [
      | inl inside ↦ All-get_or (λ w. w < 2 ^ 39) words i 0 inside all
      | inr past ↦ rw (get_or_past words i 0 past) (omega arith)
    ]

-- so does what a store leaves
pub stored-fits : (enables old new : ℕ) → old < 2 ^ 39 → new < 2 ^ 39 → stored_word enables old new < 2 ^ 39
stored-fits enables old new a b =
    elim (cases_eq enables 15) [
      | inl all ↦ rw (stored-whole enables old new all) b
      | inr fewer ↦ rw (stored-bytes enables old new fewer)
          (rewrite_of-lt 32 7 old (merged enables (payload_of 32 old) (payload_of 32 new)) code a
          (merged-lt enables (payload_of 32 old) (payload_of 32 new)))
    ]

-- a memory with one word replaced
pub replaced : (base : ℕ) (words next : List ℕ) (i w : ℕ) → next ≡ slice_set words i w → w < 2 ^ 39 → IsMemory
    (record { base = base; words = words }) → IsMemory (record { base = base; words = next })
replaced base words next i w e fits m =
    rw e
    (record {
      aligned = m.aligned;
      ends = rw (length-set words i w) m.ends;
      apart = rw (length-set words i w) m.apart;
      fits = All-set (λ x. x < 2 ^ 39) words i w fits m.fits;
    })

-- ---- a new memory

-- the words of an image, once each is put
pub filled : (image words : List ℕ) (i : ℕ) → length words ≡ length image → length image ≤ i →
    ((k : ℕ) → k < i → get_or words k 0 ≡ encode_of 32 7 (get_or image k 0))
    → words ≡ map (λ v. encode_of 32 7 v) image
filled image words i count all at =
    ext_get_or 0 words (map (λ v. encode_of 32 7 v) image) (rw length-map count)
    (λ k lt. at k (omega arith) ∙ sym (get_or-map (λ v. encode_of 32 7 v) image k 0 0 (omega arith)))

-- codewords of an image of words make a memory
pub coded : (image words : List ℕ) (base : ℕ) → words ≡ map (λ v. encode_of 32 7 v) image →
    ((k : ℕ) → get_or image k 0 < 2 ^ 32) → base % 4 ≡ 0 → base + 4 * length image ≤ 2 ^ 32 → MissesHostPage base
    (length image) → IsMemory (record { base = base; words = words })
coded image words base e small aligned ends apart =
    let small-at : All (λ v. v < 2 ^ 32) image = λ k d lt. rw (get_or_default_zero image k d lt) (small k) in
    rw e
    (record {
      aligned = aligned;
      ends = rw length-map ends;
      apart = rw length-map apart;
      fits = All-map (λ x. x < 2 ^ 39) (λ v. encode_of 32 7 v) image (λ k d lt. encode_of-lt 32 7 (get_or image k d)
          code (small-at k d lt));
    })
