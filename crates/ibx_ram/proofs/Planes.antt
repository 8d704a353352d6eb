-- Words in two planes.
use Rattle.std.proofs.Common.{◌≡◌, ℕ, zero, suc, ◌+◌, ◌*◌, ◌/◌, ◌^◌, ◌<◌, ◌≤◌, List, [], ◌∷◌, length, get_or, arith}
use Rattle.std.proofs.Common.{refl, sym, ◌∙◌, ap, add_comm}
use Rattle.std.specs.Prelude.{slice_set, replicate}
use Rattle.std.specs.Int.Bits.{bit_xor, xor_assoc}
use Rattle.std.proofs.lemmas.Nat.{shr_split, shr_below}
use Rattle.std.proofs.Math.Pow.{pow_mono}
use Rattle.std.proofs.lemmas.Grind.{get_or_default_zero}
use Rattle.std.proofs.lemmas.List.{length-replicate}
use Rattle.std.proofs.lemmas.List.Elements.{All-get_or, All-replicate}
use Rattle.ibx_secded.specs.Code.{IsCode, checks, constant, encode_of, payload_of, rewrite_of}
use Rattle.ibx_secded.proofs.Words.{xor_cancel, xor_swap}
use Rattle.ibx_secded.proofs.Laws.{syndrome_of-cat}
use Rattle.ibx_secded.proofs.Fours.{checks-xor}
use Rattle.ibx_ram.specs.Ram.{IsCodedRam, empty_of, words_of}

-- ---- the words of two planes

-- there is a word for each payload
pub length-words_of : (k : ℕ) (ps ss : List ℕ) → length ss ≡ length ps → length (words_of k ps ss) ≡ length ps
unfolding words_of
length-words_of k [] ss e = refl
length-words_of k (p ∷ ps) [] e = absurd (omega arith)
length-words_of k (p ∷ ps) (s ∷ ss) e = let rest : length (words_of k ps ss) ≡ length ps = length-words_of k ps ss
    (omega arith) in omega arith

-- a word is its payload below its check bits
pub words_of-at : (k : ℕ) (ps ss : List ℕ) (i : ℕ) → length ss ≡ length ps → i < length ps → get_or (words_of k ps ss)
    i 0 ≡ get_or ss i 0 * 2 ^ k + get_or ps i 0
unfolding words_of
words_of-at k [] ss i e lt = absurd (omega arith)
words_of-at k (p ∷ ps) [] i e lt = absurd (omega arith)
words_of-at k (p ∷ ps) (s ∷ ss) zero e lt = refl
words_of-at k (p ∷ ps) (s ∷ ss) (suc i) e lt = words_of-at k ps ss i (omega arith) (omega arith)

-- what is written into both planes is written into the words
pub words_of-set : (k : ℕ) (ps ss : List ℕ) (i p s : ℕ) → length ss ≡ length ps → words_of k (slice_set ps i p)
    (slice_set ss i s) ≡ slice_set (words_of k ps ss) i (s * 2 ^ k + p)
unfolding words_of
words_of-set k [] ss i p s e = refl
words_of-set k (a ∷ ps) [] i p s e = absurd (omega arith)
words_of-set k (a ∷ ps) (b ∷ ss) zero p s e = refl
words_of-set k (a ∷ ps) (b ∷ ss) (suc i) p s e = ap (λ ws. (b * 2 ^ k + a) ∷ ws)
    (words_of-set k ps ss i p s (omega arith))

-- equal payloads with equal check bits are equal words
pub words_of-replicate : (k n p s : ℕ) → words_of k (replicate n p) (replicate n s) ≡ replicate n (s * 2 ^ k + p)
unfolding words_of
words_of-replicate k zero p s = refl
words_of-replicate k (suc n) p s = ap (λ ws. (s * 2 ^ k + p) ∷ ws) (words_of-replicate k n p s)

-- ---- the planes of a code

-- the planes of a new memory are those of its code
pub planes-replicate : (k h n p s : ℕ) → IsCode k h → k ≤ 32 → p < 2 ^ k → s < 2 ^ h → IsCodedRam k h (replicate n p)
    (replicate n s)
planes-replicate k h n p s code le lp ls =
    record {
      code = code;
      payload = le;
      count = length-replicate n s ∙ sym (length-replicate n p);
      payloads_fit = All-replicate (λ x. x < 2 ^ k) n p lp;
      checks_fit = All-replicate (λ x. x < 2 ^ h) n s ls;
    }

-- the words of a new memory
pub words_of-new : (k h n x z : ℕ) → x ≡ z / 2 ^ k → z ≡ encode_of k h 0 → payload_of k z ≡ 0 → words_of k
    (replicate n 0) (replicate n x) ≡ empty_of k h n
words_of-new k h n x z stored word low =
    let parts : z / 2 ^ k * 2 ^ k + 0 ≡ z = rw low at (shr_split z k) in
    words_of-replicate k n 0 x ∙ ap (λ (y : ℕ). replicate n y) (ap (λ (y : ℕ). y * 2 ^ k + 0) stored ∙ parts ∙ word)

-- ---- a payload under the columns of what changes

-- the check bits change by the columns of the payload bits that change
pub rewrite-by_columns : (k h s p v : ℕ) → p < 2 ^ k → rewrite_of k h (s * 2 ^ k + p) v ≡ bit_xor s
    (checks h k (bit_xor p v)) * 2 ^ k + v
unfolding rewrite_of
rewrite-by_columns k h s p v lt =
    ap (λ (x : ℕ). x * 2 ^ k + v) (
    rw (
      syndrome_of-cat k h s p lt,
      xor_swap (bit_xor s (constant h)) (checks h k p) (constant h),
      xor_cancel s
          (constant h),
      checks-xor h k p v,
    )
    (xor_assoc s (checks h k p) (checks h k v))
    )

-- ---- what is read from the planes of a memory

module _ (k h : ℕ) (ps ss ws : List ℕ) (ram : IsCodedRam k h ps ss) (view : words_of k ps ss ≡ ws) (i : ℕ)
    (inside : i < length ws) where
  -- a word is inside both planes
  in_payloads : i < length ps
  in_payloads = omega (arith, length-words_of k ps ss ram.count, ap (λ (xs : List ℕ). length xs) view)

  in_checks : i < length ss
  in_checks = omega (arith, in_payloads, ram.count)

  -- a payload that is read fits its bits
  pub payload-fits : (p d : ℕ) → p ≡ get_or ps i d → p < 2 ^ k
  payload-fits p d e = rw e (All-get_or (λ x. x < 2 ^ k) ps i d in_payloads ram.payloads_fit)

  -- so do check bits that are read
  pub check-fits : (s d : ℕ) → s ≡ get_or ss i d → s < 2 ^ h
  check-fits s d e = rw e (All-get_or (λ x. x < 2 ^ h) ss i d in_checks ram.checks_fit)

  -- what is read from the planes is the word
  word-is : (p s d e : ℕ) → p ≡ get_or ps i d → s ≡ get_or ss i e → get_or ws i 0 ≡ s * 2 ^ k + p
  word-is p s d e a b =
      ap (λ (xs : List ℕ). get_or xs i 0) (sym view) ∙ words_of-at k ps ss i ram.count in_payloads
      ∙ rw (a ∙ get_or_default_zero ps i d in_payloads, b ∙ get_or_default_zero ss i e in_checks) refl

  -- what a rewriting leaves
  pub rewrite-is : (p s d e v c : ℕ) → p ≡ get_or ps i d → s ≡ get_or ss i e → c ≡ checks h k (bit_xor p v) → slice_set
      ws i (bit_xor s c * 2 ^ k + v) ≡ slice_set ws i (rewrite_of k h (get_or ws i 0) v)
  rewrite-is p s d e v c a b columns =
      ap (λ (x : ℕ). slice_set ws i x)
      (rw columns (sym (rewrite-by_columns k h s p v (payload-fits p d a))) ∙ ap (λ (x : ℕ). rewrite_of k h x v)
      (sym (word-is p s d e a b)))

-- ---- the sizes of the parts

-- a payload fits 32 bits
pub narrow-payload : (k x : ℕ) → k ≤ 32 → x < 2 ^ k → x < 4294967296
narrow-payload k x le lt = omega (arith, pow_mono le)

-- check bits fit a byte
pub narrow-check : (k h x : ℕ) → IsCode k h → x < 2 ^ h → x < 256
narrow-check k h x code lt = omega (arith, pow_mono code.most)

-- the check bits of a word fit their bits
pub checks_below : (k h w : ℕ) → w < 2 ^ (k + h) → w / 2 ^ k < 2 ^ h
checks_below k h w lt = shr_below w h k (rw add_comm lt)

pub ruleset narrow = (narrow-payload, narrow-check, checks_below)

pub ruleset reads = (words_of-at, length-words_of)
