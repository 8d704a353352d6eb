-- The tests of a lookup decide the facts about its ways.
use Rattle.std.proofs.Common.{◌≡◌, ◌≢◌, ℕ, ◌+◌, ◌/◌, ◌^◌, Bool, true, false, not, ◌&&◌, ◌||◌, ◌==◌, ◌⊎◌, refl, inl}
use Rattle.std.proofs.Common.{inr, arith, if◌then◌else◌}
use Rattle.std.proofs.lemmas.Bool.Decides.{Decides-and, Decides-eqb, Decides-like, Decides-not, Decides-or}
use Rattle.std.proofs.lemmas.Bool.Decides.{not_from_Decides}
use Rattle.std.specs.Bool.{Decides}
use Rattle.ibx_secded.specs.Code.{payload_of, syndrome_of}
use Rattle.ibx_icache.specs.declared.lookup.Look.{Look}
use Rattle.ibx_icache.specs.WordPort.{found_word, has_bad, is_bad0, is_bad1, is_bad_tag, is_bad_word, is_empty, is_hit}
use Rattle.ibx_icache.specs.WordPort.{matches, victim_of}
use Rattle.ibx_icache.specs.Rules.{IsBad, IsEmpty, IsFound, IsHit, IsVictim, Matches, by_tag, by_word, fills, mends}
use Rattle.ibx_icache.specs.Rules.{tag_in, turns, word_in_way}

-- a tag, and a data word, with a flipped bit
abbrev IsFlippedTag : ℕ → Type 0
IsFlippedTag tag = syndrome_of 22 6 tag ≢ 0

-- a data word with a flipped bit
abbrev IsFlipped : ℕ → Type 0
IsFlipped word = syndrome_of 32 7 word ≢ 0

-- the test of a syndrome tells a flipped word
flipped_tag : (tag : ℕ) → Decides (is_bad_tag tag) (IsFlippedTag tag)
flipped_tag tag = Decides-not (syndrome_of 22 6 tag == 0) (Decides-eqb (syndrome_of 22 6 tag) 0)

-- a data word is told in the same way, by its seven check bits
pub flipped_word : (word : ℕ) → Decides (is_bad_word word) (syndrome_of 32 7 word ≢ 0)
flipped_word word = Decides-not (syndrome_of 32 7 word == 0) (Decides-eqb (syndrome_of 32 7 word) 0)

-- a test that doesn't hold tells whatever is asked
no_truth : (P : Type 0) → false ≡ true → P
no_truth P e = absurd cc

module _ (l : Look) (addr : ℕ) where
  abbrev First : Type 0
  First = Matches l addr false

  -- way 0 and way 1 match, and are found as the lowest
  first : Decides (matches l.tag0 addr) (Matches l addr false)
  first = Decides-eqb (payload_of 22 l.tag0) (2 ^ 21 + addr / 2 ^ 11)

  -- way 1 is told by the same comparison, of its own tag
  second : Decides (matches l.tag1 addr) (Matches l addr true)
  second = Decides-eqb (payload_of 22 l.tag1) (2 ^ 21 + addr / 2 ^ 11)

  -- way 0 is found wherever it matches, since no way is lower
  found0 : Decides (matches l.tag0 addr) (IsFound l addr false)
  found0 = Decides-like (matches l.tag0 addr) (λ m. record { matches = m; lowest = no_truth (¬ Matches l addr false) })
      (λ f. f.matches) first

  -- way 1 is found where it matches and way 0 doesn't
  found1 : Decides (not (matches l.tag0 addr) && matches l.tag1 addr) (IsFound l addr true)
  found1 =
      Decides-like {P = (¬ Matches l addr false) × Matches l addr true}
      (not (matches l.tag0 addr) && matches l.tag1 addr) (λ b. record { matches = b.1; lowest = λ _. b.0 })
      (λ f. (f.lowest refl, f.matches))
      (Decides-and (not (matches l.tag0 addr)) (matches l.tag1 addr) (Decides-not (matches l.tag0 addr) first) second)

  -- a way is bad by its tag, or by its word where it is found
  bad_from : (way : Bool) → (IsFlippedTag (tag_in l way) ⊎ (IsFound l addr way × IsFlipped (word_in_way l way)))
      → IsBad l addr way
  bad_from way (inl t) = by_tag t
  bad_from way (inr (f, t)) = by_word f t

  -- a way is bad for no other reason than its tag, or its word where it is found
  from_bad : (way : Bool) → IsBad l addr way
      → (IsFlippedTag (tag_in l way) ⊎ (IsFound l addr way × IsFlipped (word_in_way l way)))
  from_bad way (by_tag t) = inl t
  from_bad way (by_word f t) = inr (f, t)

  -- the test of each way, and of either
  bad0 : Decides (is_bad0 l addr) (IsBad l addr false)
  bad0 =
      Decides-like (is_bad0 l addr) (bad_from false) (from_bad false)
      (Decides-or (is_bad_tag l.tag0) (matches l.tag0 addr && is_bad_word l.data0) (flipped_tag l.tag0)
      (Decides-and (matches l.tag0 addr) (is_bad_word l.data0) found0 (flipped_word l.data0)))

  -- the test of way 1 looks at its word only where way 0 doesn't match
  bad1 : Decides (is_bad1 l addr) (IsBad l addr true)
  bad1 =
      Decides-like (is_bad1 l addr) (bad_from true) (from_bad true)
      (Decides-or (is_bad_tag l.tag1) (not (matches l.tag0 addr) && matches l.tag1 addr && is_bad_word l.data1)
      (flipped_tag l.tag1)
      (Decides-and (not (matches l.tag0 addr) && matches l.tag1 addr) (is_bad_word l.data1) found1
      (flipped_word l.data1)))

  -- where way 0 or way 1 is bad, there is a way that is bad
  some_bad : IsBad l addr false ⊎ IsBad l addr true → (way : Bool) × IsBad l addr way
  some_bad (inl b) = (false, b)
  some_bad (inr b) = (true, b)

  -- a way that is bad is way 0 or way 1, since there are no others
  which_bad : ((way : Bool) × IsBad l addr way) → IsBad l addr false ⊎ IsBad l addr true
  which_bad (false, b) = inl b
  which_bad (true, b) = inr b

  -- a way is bad
  pub bad : Decides (has_bad l addr) ((way : Bool) × IsBad l addr way)
  bad = Decides-like (has_bad l addr) some_bad which_bad (Decides-or (is_bad0 l addr) (is_bad1 l addr) bad0 bad1)

  -- where no way is bad, one that matches is a hit
  matched : Matches l addr false ⊎ Matches l addr true → ¬ ((way : Bool) × IsBad l addr way) → (b : Bool)
      → Decides b (Matches l addr false) → (way : Bool) × IsHit l addr way
  matched m none true d = (
    false,
    record {
      found =
          record { matches = d.0 refl; lowest = no_truth (¬ Matches l addr false) };
      sound = λ other b. none (other, b);
    },
  )
  matched (inl m) none false d = no_truth ((way : Bool) × IsHit l addr way) (d.1 m)
  matched (inr m) none false d = (
    true,
    record {
      found = record { matches = m; lowest = λ _. not_from_Decides false d refl };
      sound = λ other b. none (other, b);
    },
  )

  -- so a way that matches, with no way bad, makes a hit
  hit_from : ((Matches l addr false ⊎ Matches l addr true) × ¬ ((way : Bool) × IsBad l addr way))
      → (way : Bool) × IsHit l addr way
  hit_from (m, none) = matched m none (matches l.tag0 addr) first

  -- of a hit one of the two ways matches, and neither of them is bad
  from_hit : ((way : Bool) × IsHit l addr way)
      → (Matches l addr false ⊎ Matches l addr true) × ¬ ((way : Bool) × IsBad l addr way)
  from_hit (false, h) = (inl h.found.matches, λ b. h.sound b.0 b.1)
  from_hit (true, h) = (inr h.found.matches, λ b. h.sound b.0 b.1)

  -- the test of a hit decides that one of the ways is one
  pub hit : Decides (is_hit l addr) ((way : Bool) × IsHit l addr way)
  unfolding is_hit
  hit =
      Decides-like ((matches l.tag0 addr || matches l.tag1 addr) && not (has_bad l addr)) hit_from from_hit
      (Decides-and (matches l.tag0 addr || matches l.tag1 addr) (not (has_bad l addr))
      (Decides-or (matches l.tag0 addr) (matches l.tag1 addr) first second) (Decides-not (has_bad l addr) bad))

  -- the word that is found is that of the lowest way that matches
  word_by : (b : Bool) → Decides b (Matches l addr false) → (way : Bool) → IsFound l addr way
      → payload_of 32 (if b then l.data0 else l.data1) ≡ payload_of 32 (word_in_way l way)
  word_by true d false f = refl
  word_by true d true f = absurd (f.lowest refl (d.0 refl))
  word_by false d false f = let no_ : false ≡ true = d.1 f.matches in cc
  word_by false d true f = refl

  -- its word
  pub word_is : (way : Bool) → IsFound l addr way → found_word l addr ≡ payload_of 32 (word_in_way l way)
  unfolding found_word
  word_is = word_by (matches l.tag0 addr) first

  -- the test of an empty way
  empty : (way : Bool) → Decides (is_empty (tag_in l way)) (IsEmpty l way)
  empty way = Decides-like (is_empty (tag_in l way)) (λ e. omega (arith, e)) (λ h. omega (arith, h))
      (Decides-eqb (payload_of 22 (tag_in l way) / 2 ^ 21) 0)

  -- what holds of neither way holds of none
  neither : (P : Bool → Type 0) → ¬ P false → ¬ P true → (way : Bool) → ¬ P way
  neither P a b false = a
  neither P a b true = b

  -- so the victim is the one that the rule asks for
  victim_by : (alt b0 b1 e0 e1 : Bool) → Decides b0 (IsBad l addr false) → Decides b1 (IsBad l addr true)
      → Decides e0 (IsEmpty l false) → Decides e1 (IsEmpty l true)
      → IsVictim l addr alt (if b0 then false else if b1 then true else if e0 then false else if e1 then true else alt)
  victim_by alt true b1 e0 e1 p q r s = mends (p.0 refl) (no_truth (¬ IsBad l addr false))
  victim_by alt false true e0 e1 p q r s = mends (q.0 refl) (λ _. not_from_Decides false p refl)
  victim_by alt false false true e1 p q r s =
      fills (neither (λ way. IsBad l addr way) (not_from_Decides false p refl) (not_from_Decides false q refl))
      (r.0 refl) (no_truth (¬ IsEmpty l false))
  victim_by alt false false false true p q r s =
      fills (neither (λ way. IsBad l addr way) (not_from_Decides false p refl) (not_from_Decides false q refl))
      (s.0 refl) (λ _. not_from_Decides false r refl)
  victim_by alt false false false false p q r s =
      turns (neither (λ way. IsBad l addr way) (not_from_Decides false p refl) (not_from_Decides false q refl))
      (neither (λ way. IsEmpty l way) (not_from_Decides false r refl) (not_from_Decides false s refl)) refl

  -- the way that a miss fills
  pub victim : (alt : Bool) → IsVictim l addr alt (victim_of l addr alt)
  unfolding victim_of
  victim alt = victim_by alt (is_bad0 l addr) (is_bad1 l addr) (is_empty l.tag0) (is_empty l.tag1) bad0 bad1
      (empty false) (empty true)
