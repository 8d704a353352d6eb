-- What the cache's words say of a line, and a line more in them.
use Rattle.std.proofs.Common.{◌≡◌, ◌≢◌, ℕ, ◌+◌, ◌*◌, ◌/◌, ◌%◌, ◌^◌, ◌<◌, Bool, true, false, not, ◌&&◌, ◌||◌, ◌==◌}
use Rattle.std.proofs.Common.{List, refl, sym, ap, ap₂, ◌∙◌, inl, inr, arith, slice_index, if◌then◌else◌, Option, Some}
use Rattle.std.proofs.Common.{None}
use Rattle.std.proofs.lemmas.Bool.{cases_eq, eq-eqb, ne_eqb, eqb-true, eqb-false}
use Rattle.std.proofs.lemmas.List.Elements.{All-get_or}
use Rattle.ibx_secded.specs.Code.{checks, column, columns, encode_of, numbers_of_weight, payload_of, syndrome_of}
use Rattle.ibx_secded.specs.Code.{weight}
use Rattle.ibx_secded.proofs.Laws.{payload_of-encode, syndrome_of-encode}
use Rattle.ibx_time_invariant.proofs.Caches.{CacheAt, IsCode, tag_of}
use Rattle.ibx_time_machine.specs.Words.{look_at}
use Rattle.ibx_time_invariant.proofs.Fetches.{is_unmapped, word_in}
use Rattle.ibx_time_invariant.proofs.Quiets.{word_low}
use Rattle.ibx_time_invariant.proofs.Ties.{IsPlaced}
use Rattle.ibx_time_machine.specs.Words.{set_slot}
use Rattle.ibx_icache.specs.declared.lookup.Look.{Look}
use Rattle.ibx_icache.specs.WordPort.{found_word, is_bad0, is_bad1, is_empty, is_hit, matches, victim_of}
use Rattle.ibx_time.specs.Memories.{Write}
use Rattle.ibx_time.specs.Requests.{Fill, fill_grant, found_slot, holds_line, in_way, is_present, last_fill, line_of}
use Rattle.ibx_time.specs.Requests.{none_between, slot_of, stands, victim_by}
use Rattle.ibx_time.specs.Settings.{Setup}
use Rattle.ibx_time_fetch.proofs.PortsLogs.{IsStored, old_fill}

-- ---- codewords

-- a codeword has no flipped bit, and the empty tag is one
code_quiet : (width check word : ℕ) → IsCode width check word → syndrome_of width check word ≡ 0
code_quiet width check word k = ap (syndrome_of width check) k.is_code ∙ syndrome_of-encode width check k.payload k.low

-- the codeword of the empty tag, as the walk writes it
pub empty_tag : encode_of 22 6 0 ≡ 0xa800000
unfolding encode_of checks column columns numbers_of_weight weight
empty_tag = refl

-- ---- a tag against the stored lines

-- lines of one slot are of one set
slot_set : (l m : ℕ) (v b : Bool) → slot_of l v ≡ slot_of m b → l % 256 ≡ m % 256
slot_set l m true true e = omega (arith, e)
slot_set l m true false e = omega (arith, e)
slot_set l m false true e = omega (arith, e)
slot_set l m false false e = omega (arith, e)

-- a condition with one that is known
and_no : (a : Bool) → (a && false) ≡ false
and_no true = refl
and_no false = refl

-- tags of one set are equal just where their lines are
line_match : (l a : ℕ) → a < 2 ^ 32 → l < 2 ^ 29 → l % 256 ≡ a / 8 % 256
    → (2 ^ 21 + l / 256 == 2 ^ 21 + a / 2 ^ 11) ≡ ((l == a / 8) && true)
line_match l a low small e =
    elim (cases_eq l (a / 8)) [
      | inl same ↦ eq-eqb (2 ^ 21 + l / 256) (2 ^ 21 + a / 2 ^ 11) (omega (arith, same))
          ∙ sym (ap (λ b. b && true) (eq-eqb l (a / 8) same))
      | inr ne ↦ ne_eqb (2 ^ 21 + l / 256) (2 ^ 21 + a / 2 ^ 11) (λ z. ne (omega (arith, z, e)))
          ∙ sym (ap (λ b. b && true) (ne_eqb l (a / 8) ne))
    ]

-- an empty tag matches no address
none_match : (a : ℕ) → matches (encode_of 22 6 0) a ≡ false
none_match a = ap (λ v. v == 2 ^ 21 + a / 2 ^ 11) (payload_of-encode 22 6 0 (omega arith))
    ∙ ne_eqb 0 (2 ^ 21 + a / 2 ^ 11) (λ z. absurd (omega (arith, z)))

-- so a tag matches just where the last fill of its slot holds the address's line
match_by : (s : Setup) (fs : List ℕ) (t a e n : ℕ) (b : Bool) (o : Option Fill) → a < 2 ^ 32
    → n ≡ slot_of (line_of a) b → ((x : Fill) → o ≡ Some x → IsStored s e n x)
    → matches (encode_of 22 6 (tag_of fs (t + 1) o)) a ≡ holds_line fs t (line_of a) o
match_by s fs t a e n b None low at k = none_match a
match_by s fs t a e n b (Some x) low at k = by (none_between fs x.time (t + 1))
  where
    by : (u : Bool) → matches (encode_of 22 6 (if u then 2 ^ 21 + x.line / 256 else 0)) a
        ≡ ((x.line == line_of a) && u)
    by true =
        let i : IsStored s e n x = k x refl in
        ap (λ v. v == 2 ^ 21 + a / 2 ^ 11) (payload_of-encode 22 6 (2 ^ 21 + x.line / 256) (omega (arith, i.line)))
        ∙ line_match x.line a low i.line (slot_set x.line (line_of a) x.way b (i.slot_is ∙ at))
    by false = none_match a ∙ sym (and_no (x.line == line_of a))

-- the codeword of 0 is an empty tag
none_empty : is_empty (encode_of 22 6 0) ≡ true
none_empty = ap (λ v. v / 2 ^ 21 == 0) (payload_of-encode 22 6 0 (omega arith))

-- so a tag is empty just where no line stands in its slot
empty_by : (s : Setup) (fs : List ℕ) (t e n : ℕ) (o : Option Fill) → ((x : Fill) → o ≡ Some x → IsStored s e n x)
    → is_empty (encode_of 22 6 (tag_of fs (t + 1) o)) ≡ not (stands fs t o)
empty_by s fs t e n None k = none_empty
empty_by s fs t e n (Some x) k = by (none_between fs x.time (t + 1))
  where
    by : (u : Bool) → is_empty (encode_of 22 6 (if u then 2 ^ 21 + x.line / 256 else 0)) ≡ not u
    by true =
        let i : IsStored s e n x = k x refl in
        ap (λ v. v / 2 ^ 21 == 0) (payload_of-encode 22 6 (2 ^ 21 + x.line / 256) (omega (arith, i.line)))
        ∙ ne_eqb ((2 ^ 21 + x.line / 256) / 2 ^ 21) 0 (λ z. absurd (omega (arith, z)))
    by false = none_empty

-- ---- one way of a set

-- the tag and the data word of a way are codewords, and say what the stored lines do
pub record WayIs (s : Setup) (log : List Write) (fs : List ℕ) (fills : List Fill) (t a : ℕ) (b : Bool)
    (tag code_word : ℕ) : Type 0 where
  pub code : syndrome_of 22 6 tag ≡ 0
  pub data_code : syndrome_of 32 7 code_word ≡ 0
  pub match : matches tag a ≡ in_way fs fills (line_of a) t b
  pub empty : is_empty tag ≡ not (stands fs t (last_fill fills (slot_of (line_of a) b)))
  pub word : in_way fs fills (line_of a) t b ≡ true
      → payload_of 32 code_word ≡ word_in s log (fill_grant (last_fill fills (slot_of (line_of a) b)) a) a
  pub mapped : in_way fs fills (line_of a) t b ≡ true → is_unmapped s a ≡ false

-- there are 512 slots
pub slot_low : (line : ℕ) (b : Bool) → slot_of line b < 512
slot_low line true = omega arith
slot_low line false = omega arith

-- the first of two tests that hold together
and_first : (a b : Bool) → (a && b) ≡ true → a ≡ true
and_first true b h = refl
and_first false b h = h

-- a line that is found in a place is that line
line_there : (fs : List ℕ) (t line : ℕ) (x : Fill) → holds_line fs t line (Some x) ≡ true → x.line ≡ line
line_there fs t line x h = eqb-true x.line line (and_first (x.line == line) (none_between fs x.time (t + 1)) h)

-- a stored line is memory's, so its word at the address is
mapped_by : (s : Setup) (a line : ℕ) (u : Bool) → a % 4 ≡ 0 → line ≡ a / 8 → is_unmapped s (8 * line) ≡ false
    → is_unmapped s (8 * line + 4) ≡ false → (a / 4 % 2 == 1) ≡ u → is_unmapped s a ≡ false
mapped_by s a line true at e m0 m1 k =
    let up : a / 4 % 2 ≡ 1 = eqb-true (a / 4 % 2) 1 k in ap (is_unmapped s) (omega (arith, e, up, at)) ∙ m1
mapped_by s a line false at e m0 m1 k =
    let up : a / 4 % 2 ≢ 1 = eqb-false (a / 4 % 2) 1 k in ap (is_unmapped s) (omega (arith, e, up, at)) ∙ m0

-- the cache's word at the address is the one that memory had in that word's own grant
data_by : (s : Setup) (log : List Write) (lines : List ℕ) (a n : ℕ) (x : Fill) (u : Bool) → IsPlaced s → a % 4 ≡ 0
    → x.line ≡ a / 8 → slice_index lines (2 * n) ≡ encode_of 32 7 (word_in s log x.grant0 (8 * x.line))
    → slice_index lines (2 * n + 1) ≡ encode_of 32 7 (word_in s log x.grant1 (8 * x.line + 4)) → (a / 4 % 2 == 1) ≡ u
    → payload_of 32 (slice_index lines (n * 2 + a / 4 % 2)) ≡ word_in s log (if u then x.grant1 else x.grant0) a
data_by s log lines a n x true ok at e w0 w1 k =
    let up : a / 4 % 2 ≡ 1 = eqb-true (a / 4 % 2) 1 k in
    ap (λ i. payload_of 32 (slice_index lines i)) (omega (arith, up)) ∙ ap (payload_of 32) w1
    ∙ payload_of-encode 32 7 (word_in s log x.grant1 (8 * x.line + 4)) (word_low s ok log x.grant1 (8 * x.line + 4))
    ∙ ap (word_in s log x.grant1) (omega (arith, e, up, at))
data_by s log lines a n x false ok at e w0 w1 k =
    let up : a / 4 % 2 ≢ 1 = eqb-false (a / 4 % 2) 1 k in
    ap (λ i. payload_of 32 (slice_index lines i)) (omega (arith, up)) ∙ ap (payload_of 32) w0
    ∙ payload_of-encode 32 7 (word_in s log x.grant0 (8 * x.line)) (word_low s ok log x.grant0 (8 * x.line))
    ∙ ap (word_in s log x.grant0) (omega (arith, e, up, at))

module _ (s : Setup) (log : List Write) (fs : List ℕ) (fills : List Fill) (t c e walk : ℕ) (alt : Bool)
    (tags lines : List ℕ) (a : ℕ)
    (ok : IsPlaced s) (h : CacheAt s log fs fills c e walk alt tags lines) (now : t + 1 ≡ c) (ended : walk ≡ 256)
    (aligned : a % 4 ≡ 0) (low : a < 2 ^ 32) where
  -- the fill that stands in a place is a stored line, with its word and its memory
  found_there : (n : ℕ) (x : Fill) → last_fill fills n ≡ Some x → IsStored s e n x
  found_there n x k = old_fill s fills e n x h.old h.mapped k

  -- the word of a line that is found is memory's, in the grant that its fill notes for it
  word_there : (b : Bool) (o : Option Fill) → last_fill fills (slot_of (line_of a) b) ≡ o
      → holds_line fs t (line_of a) o ≡ true
      → payload_of 32 (slice_index lines (slot_of (line_of a) b * 2 + a / 4 % 2)) ≡ word_in s log (fill_grant o a) a
  unfolding fill_grant
  word_there b None k there = let no_ : false ≡ true = there in cc
  word_there b (Some x) k there =
      data_by s log lines a (slot_of (line_of a) b) x (a / 4 % 2 == 1) ok aligned (line_there fs t (line_of a) x there)
      (h.word0 (slot_of (line_of a) b) x (slot_low (line_of a) b) k)
      (h.word1 (slot_of (line_of a) b) x (slot_low (line_of a) b) k) refl

  -- memory answers for the address of a line that is found
  mapped_there : (b : Bool) (o : Option Fill) → last_fill fills (slot_of (line_of a) b) ≡ o
      → holds_line fs t (line_of a) o ≡ true → is_unmapped s a ≡ false
  mapped_there b None k there = let no_ : false ≡ true = there in cc
  mapped_there b (Some x) k there =
      let i : IsStored s e (slot_of (line_of a) b) x = found_there (slot_of (line_of a) b) x k in
      mapped_by s a x.line (a / 4 % 2 == 1) aligned (line_there fs t (line_of a) x there) i.mapped0 i.mapped1 refl

  -- so each way is as the stored lines say
  way_is : (b : Bool) (n : ℕ) → n ≡ slot_of (line_of a) b
      → WayIs s log fs fills t a b (slice_index tags n) (slice_index lines (n * 2 + a / 4 % 2))
  way_is b n at =
      let below : n < 512 = omega (arith, at, slot_low (line_of a) b) in
      let tag : slice_index tags n ≡ encode_of 22 6 (tag_of fs (t + 1) (last_fill fills n)) =
      h.tag n below (omega (arith, ended, below))
      ∙ ap (λ d. encode_of 22 6 (tag_of fs d (last_fill fills n))) (sym now) in
      record {
        code = code_quiet 22 6 (slice_index tags n)
            (All-get_or (λ w. IsCode 22 6 w) tags n 0 (omega (arith, below, h.tag_count)) h.tag_codes);
        data_code = code_quiet 32 7 (slice_index lines (n * 2 + a / 4 % 2))
            (All-get_or (λ w. IsCode 32 7 w) lines (n * 2 + a / 4 % 2) 0 (omega (arith, below, h.line_count))
            h.line_codes);
        match = ap (λ v. matches v a) tag
            ∙ match_by s fs t a e n b (last_fill fills n) low at (λ x k. found_there n x k)
            ∙ ap (λ m. holds_line fs t (line_of a) (last_fill fills m)) at;
        empty = ap is_empty tag ∙ empty_by s fs t e n (last_fill fills n) (λ x k. found_there n x k)
            ∙ ap (λ m. not (stands fs t (last_fill fills m))) at;
        word = λ there. ap (λ m. payload_of 32 (slice_index lines (m * 2 + a / 4 % 2))) at
            ∙ word_there b (last_fill fills (slot_of (line_of a) b)) refl there;
        mapped = λ there. mapped_there b (last_fill fills (slot_of (line_of a) b)) refl there;
      }

-- ---- both ways

-- what a lookup sees of both ways: a hit, the victim, and the word
pub record Seen (s : Setup) (log : List Write) (fs : List ℕ) (fills : List Fill) (t a : ℕ) (alt : Bool)
    (l : Look) : Type 0 where
  pub hit : is_hit l a ≡ is_present fs fills (line_of a) t
  pub way : victim_of l a alt ≡ victim_by (not (stands fs t (last_fill fills (slot_of (line_of a) false))))
      (not (stands fs t (last_fill fills (slot_of (line_of a) true)))) alt
  pub word : is_present fs fills (line_of a) t ≡ true
      → found_word l a ≡ word_in s log (fill_grant (last_fill fills (found_slot fs fills (line_of a) t)) a) a
  pub mapped : is_present fs fills (line_of a) t ≡ true → is_unmapped s a ≡ false

-- a way of codewords isn't bad
good0 : (l : Look) (a : ℕ) → syndrome_of 22 6 l.tag0 ≡ 0 → syndrome_of 32 7 l.data0 ≡ 0 → is_bad0 l a ≡ false
good0 l a x y = ap₂ (λ m n. not (m == 0) || (matches l.tag0 a && not (n == 0))) x y ∙ and_no (matches l.tag0 a)

-- the second way isn't bad either, where its tag and its word are codewords
good1 : (l : Look) (a : ℕ) → syndrome_of 22 6 l.tag1 ≡ 0 → syndrome_of 32 7 l.data1 ≡ 0 → is_bad1 l a ≡ false
good1 l a x y = ap₂ (λ m n. not (m == 0) || (not (matches l.tag0 a) && matches l.tag1 a && not (n == 0))) x y
    ∙ by (not (matches l.tag0 a)) (matches l.tag1 a)
  where
    by : (u v : Bool) → (u && v && false) ≡ false
    by true true = refl
    by true false = refl
    by false v = refl

-- conditions with one that is known
and_yes : (b : Bool) → (b && true) ≡ b
and_yes true = refl
and_yes false = refl

-- of two tests one holds, and it isn't the first
or_last : (u v : Bool) → (u || v) ≡ true → u ≡ false → v ≡ true
or_last true v h e = let no_ : true ≡ false = e in cc
or_last false v h e = h

module _ (s : Setup) (log : List Write) (fs : List ℕ) (fills : List Fill) (t a : ℕ) (alt : Bool) (l : Look)
    (w0 : WayIs s log fs fills t a false l.tag0 l.data0) (w1 : WayIs s log fs fills t a true l.tag1 l.data1) where
  -- and so are both: the hit and the victim
  both_hit : is_hit l a ≡ is_present fs fills (line_of a) t
  unfolding is_hit is_present
  both_hit =
      ap₂ (λ m n. (matches l.tag0 a || matches l.tag1 a) && not (m || n)) (good0 l a w0.code w0.data_code)
      (good1 l a w1.code w1.data_code)
      ∙ and_yes (matches l.tag0 a || matches l.tag1 a) ∙ ap₂ (λ m n. m || n) w0.match w1.match

  -- the victim of a lookup is the one that the stored lines say
  both_way : victim_of l a alt ≡ victim_by (not (stands fs t (last_fill fills (slot_of (line_of a) false))))
      (not (stands fs t (last_fill fills (slot_of (line_of a) true)))) alt
  unfolding victim_of
  both_way =
      ap₂ (λ m n. if m then false else if n then true else if is_empty l.tag0 then false else if is_empty l.tag1
      then true else alt) (good0 l a w0.code w0.data_code) (good1 l a w1.code w1.data_code)
      ∙ ap₂ (λ m n. if m then false else if n then true else alt) w0.empty w1.empty
      ∙ by (not (stands fs t (last_fill fills (slot_of (line_of a) false))))
      (not (stands fs t (last_fill fills (slot_of (line_of a) true))))
    where
      by : (m n : Bool) → (if m then false else if n then true else alt) ≡ victim_by m n alt
      by true n = refl
      by false true = refl
      by false false = refl

  -- the word of the way that is found, and that memory answers for it
  word_by : (u : Bool) → in_way fs fills (line_of a) t false ≡ u
      → (in_way fs fills (line_of a) t false || in_way fs fills (line_of a) t true) ≡ true
      → payload_of 32 (if u then l.data0 else l.data1)
      ≡ word_in s log (fill_grant (last_fill fills (if u then slot_of (line_of a) false else slot_of (line_of a) true))
      a) a
  word_by true e there = w0.word e
  word_by false e there =
      w1.word (or_last (in_way fs fills (line_of a) t false) (in_way fs fills (line_of a) t true) there e)

  -- so a hit finds the word that memory had in the grant of its fill
  both_word : is_present fs fills (line_of a) t ≡ true
      → found_word l a ≡ word_in s log (fill_grant (last_fill fills (found_slot fs fills (line_of a) t)) a) a
  unfolding is_present found_word found_slot
  both_word there = ap (λ m. payload_of 32 (if m then l.data0 else l.data1)) w0.match
      ∙ word_by (in_way fs fills (line_of a) t false) refl there

  -- memory answers for the address, in whichever way its line is
  map_by : (u : Bool) → in_way fs fills (line_of a) t false ≡ u
      → (in_way fs fills (line_of a) t false || in_way fs fills (line_of a) t true) ≡ true → is_unmapped s a ≡ false
  map_by true e there = w0.mapped e
  map_by false e there =
      w1.mapped (or_last (in_way fs fills (line_of a) t false) (in_way fs fills (line_of a) t true) there e)

  -- so memory answers for the address of each hit
  both_mapped : is_present fs fills (line_of a) t ≡ true → is_unmapped s a ≡ false
  unfolding is_present
  both_mapped there = map_by (in_way fs fills (line_of a) t false) refl there

-- so a lookup sees just what the stored lines say
pub seen : (s : Setup) (log : List Write) (fs : List ℕ) (fills : List Fill) (t c e walk : ℕ) (alt : Bool)
    (tags lines : List ℕ) (a : ℕ)
    → IsPlaced s → CacheAt s log fs fills c e walk alt tags lines → t + 1 ≡ c → walk ≡ 256 → a % 4 ≡ 0 → a < 2 ^ 32
    → Seen s log fs fills t a alt (look_at tags lines a)
seen s log fs fills t c e walk alt tags lines a ok h now ended aligned low =
    let l : Look = look_at tags lines a in
    let w0 : WayIs s log fs fills t a false l.tag0 l.data0 =
    way_is s log fs fills t c e walk alt tags lines a ok h now ended aligned low false (set_slot a) (omega arith) in
    let w1 : WayIs s log fs fills t a true l.tag1 l.data1 =
    way_is s log fs fills t c e walk alt tags lines a ok h now ended aligned low true (set_slot a + 1) (omega arith) in
    record {
      hit = both_hit s log fs fills t a alt l w0 w1;
      way = both_way s log fs fills t a alt l w0 w1;
      word = both_word s log fs fills t a alt l w0 w1;
      mapped = both_mapped s log fs fills t a alt l w0 w1;
    }
