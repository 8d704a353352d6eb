-- What a cycle writes of the cache: the two tags that the walk clears, or a line; and where the walk stands then.
use Rattle.std.proofs.Common.{◌≡◌, ◌≢◌, ℕ, ◌+◌, ◌*◌, ◌/◌, ◌^◌, ◌<◌, ◌≤◌, Bool, true, false, not, ◌&&◌, ◌||◌, List, []}
use Rattle.std.proofs.Common.{◌∷◌, length, set, get_or-set_same, get_or-set_other, refl, sym, ap, ◌∙◌, inl, inr, arith}
use Rattle.std.proofs.Common.{slice_index, nat_lt, nat_le, if◌then◌else◌, Some}
use Rattle.std.proofs.lemmas.Bool.{cases_eq, eq-eqb, ne_eqb, lt-ltb, lt-leb, ltb-true, ltb-false}
use Rattle.std.proofs.lemmas.List.{length-set}
use Rattle.std.proofs.lemmas.List.Elements.{All-set}
use Rattle.ibx_secded.specs.Code.{encode_of}
use Rattle.ibx_time_invariant.proofs.Caches.{CacheAt, Cleared, IsCode, IsLog, WalkMid, restarts, tag_of, walks}
use Rattle.ibx_time_invariant.proofs.Fetches.{is_unmapped, word_in}
use Rattle.ibx_time_invariant.proofs.Quiets.{word_low}
use Rattle.ibx_time_invariant.proofs.Ties.{IsPlaced}
use Rattle.ibx_time_machine.specs.Words.{put_lines, put_tags}
use Rattle.ibx_icache.specs.declared.writes.Filling.TheVariants.{Clears, Nothing, Stores}
use Rattle.ibx_icache.specs.WordPort.{slot_of as place_of}
use Rattle.ibx_icache.specs.declared.writes.Filling.{Filling}
use Rattle.ibx_time.specs.Memories.{Write}
use Rattle.ibx_time.specs.Requests.{Fill, is_walked, last_fill, line_of, none_between, slot_of}
use Rattle.ibx_time.specs.Settings.{Setup}
use Rattle.ibx_time_fetch.proofs.PortsLogs.{between_none, some_fill, walked_till}
use Rattle.ibx_time.proofs.Walks.{log_more}
use Rattle.ibx_time_invariant.proofs.Marks.{broken}
use Rattle.ibx_time_fetch.proofs.AnswersCache.{empty_tag}

-- ---- the walk clears two tags

-- the empty tag is a codeword
empty_code : IsCode 22 6 0xa800000
empty_code = record { payload = 0; low = omega arith; is_code = sym empty_tag }

-- the tags with those of a set cleared
abbrev cleared_tags : ℕ → List ℕ → List ℕ
cleared_tags walk tags = set (set tags (2 * walk) 0xa800000) (2 * walk + 1) 0xa800000

-- the walk leaves the cache as the stored lines say
pub clears : (s : Setup) (log : List Write) (fs : List ℕ) (fills : List Fill) (c e walk : ℕ) (alt : Bool)
    (tags lines : List ℕ) → CacheAt s log fs fills c e walk alt tags lines
    → CacheAt s log fs fills c e walk alt (cleared_tags walk tags) lines
clears s log fs fills c e walk alt tags lines h =
    record {
      tag_count = length-set (set tags (2 * walk) 0xa800000) (2 * walk + 1) 0xa800000
          ∙ length-set tags (2 * walk) 0xa800000 ∙ h.tag_count;
      line_count = h.line_count;
      tag_codes = All-set (λ w. IsCode 22 6 w) (set tags (2 * walk) 0xa800000) (2 * walk + 1) 0xa800000 empty_code
          (All-set (λ w. IsCode 22 6 w) tags (2 * walk) 0xa800000 empty_code h.tag_codes);
      line_codes = h.line_codes;
      tag = λ n low below.
          get_or-set_other (set tags (2 * walk) 0xa800000) (2 * walk + 1) n 0xa800000 0
          (λ z. absurd (omega (arith, z, below)))
          ∙ get_or-set_other tags (2 * walk) n 0xa800000 0 (λ z. absurd (omega (arith, z, below))) ∙ h.tag n low below;
      word0 = h.word0;
      word1 = h.word1;
      quiet = h.quiet;
      old = h.old;
      mapped = h.mapped;
      alt_is = h.alt_is;
    }

-- then its set is cleared
cleared : (walk : ℕ) (tags : List ℕ) → length tags ≡ 512 → Cleared walk (cleared_tags walk tags)
cleared walk tags k =
    record {
      lower = λ less.
          get_or-set_other (set tags (2 * walk) 0xa800000) (2 * walk + 1) (2 * walk) 0xa800000 0
          (λ z. absurd (omega (arith, z)))
          ∙ get_or-set_same tags (2 * walk) 0xa800000 0 (omega (arith, less, k)) ∙ sym empty_tag;
      upper = λ less. get_or-set_same (set tags (2 * walk) 0xa800000) (2 * walk + 1) 0xa800000 0
          (omega (arith, less, k, length-set tags (2 * walk) 0xa800000)) ∙ sym empty_tag;
    }

-- ---- by whether the walk goes on, and a line is stored

-- what is written: by the walk, by a line, or nothing
abbrev pub filling_if : Bool → Bool → ℕ → ℕ → ℕ → ℕ → ℕ → Filling
filling_if walks_ stores_ walk slot tag word0 word1 =
    if walks_ then Clears walk else if stores_ then Stores slot tag word0 word1 else Nothing

-- without a line the cache is as before, and the walk's set is cleared
pub kept : (s : Setup) (log : List Write) (fs : List ℕ) (fills : List Fill) (c e walk : ℕ) (alt : Bool)
    (tags lines : List ℕ) (slot tag word0 word1 : ℕ) (b : Bool) → CacheAt s log fs fills c e walk alt tags lines
    → CacheAt s log fs fills c e walk alt (put_tags (filling_if b false walk slot tag word0 word1) tags)
    (put_lines (filling_if b false walk slot tag word0 word1) lines)
kept s log fs fills c e walk alt tags lines slot tag word0 word1 true h =
    clears s log fs fills c e walk alt tags lines h
kept s log fs fills c e walk alt tags lines slot tag word0 word1 false h = h

-- so a walk that goes on has its set's tags cleared after each cycle
pub cleared_by : (walk slot tag word0 word1 : ℕ) (tags : List ℕ) (b u : Bool) → nat_lt walk 256 ≡ b → length tags ≡ 512
    → Cleared walk (put_tags (filling_if b u walk slot tag word0 word1) tags)
cleared_by walk slot tag word0 word1 tags true u e k = cleared walk tags k
cleared_by walk slot tag word0 word1 tags false u e k =
    let more : 256 ≤ walk = ltb-false walk 256 e in
    record { lower = λ less. absurd (omega (arith, more, less)); upper = λ less. absurd (omega (arith, more, less)) }

-- ---- a line is stored in cycle c

-- the slot of a line in a way is the place where the port writes it
slot_is : (a : ℕ) (way : Bool) → slot_of (line_of a) way ≡ place_of a way
slot_is a true = omega arith
slot_is a false = omega arith

-- each place is one of the 512 tags
place_low : (a : ℕ) (way : Bool) → place_of a way < 512
place_low a true = omega arith
place_low a false = omega arith

module _ (s : Setup) (log : List Write) (fs : List ℕ) (fills : List Fill) (c walk g0 g1 a : ℕ) (way alt : Bool)
    (tags lines : List ℕ)
    (ok : IsPlaced s) (h : CacheAt s log fs fills c (c + 1) walk alt tags lines) (ended : walk ≡ 256) (b0 : g0 < c)
    (b1 : g1 < c) (low : a < 2 ^ 32)
    (m0 : is_unmapped s (8 * line_of a) ≡ false) (m1 : is_unmapped s (8 * line_of a + 4) ≡ false) where
  -- the new line as a fill, its slot, its tag and its two words, and the cache's words with it
  abbrev new : Fill
  new = record { line = line_of a; way = way; time = c; grant0 = g0; grant1 = g1 }

  abbrev slot : ℕ
  slot = place_of a way

  abbrev tag_word : ℕ
  tag_word = encode_of 22 6 (2 ^ 21 + a / 2 ^ 11)

  abbrev data0 : ℕ
  data0 = encode_of 32 7 (word_in s log g0 (8 * line_of a))

  abbrev data1 : ℕ
  data1 = encode_of 32 7 (word_in s log g1 (8 * line_of a + 4))

  abbrev tags2 : List ℕ
  tags2 = set tags slot tag_word

  abbrev lines2 : List ℕ
  lines2 = set (set lines (2 * slot) data0) (2 * slot + 1) data1

  -- the new fill is the last of its slot, and other slots keep theirs
  last_here : (n : ℕ) → n ≡ slot → last_fill (new ∷ fills) n ≡ Some new
  unfolding last_fill
  last_here n at = rw (eq-eqb (slot_of (line_of a) way) n (slot_is a way ∙ sym at)) refl

  -- every other slot keeps its last fill
  last_other : (n : ℕ) → n ≢ slot → last_fill (new ∷ fills) n ≡ last_fill fills n
  unfolding last_fill
  last_other n ne = rw (ne_eqb (slot_of (line_of a) way) n (λ z. ne (sym z ∙ slot_is a way))) refl

  -- its tag is that of the address, and every tag is that of its slot's last fill
  new_tag : tag_of fs c (Some new) ≡ 2 ^ 21 + a / 2 ^ 11
  new_tag = ap (λ b. if b then 2 ^ 21 + line_of a / 256 else 0) (between_none fs c) ∙ omega arith

  -- so each tag is that of its slot's last fill, the new line's with them
  tags_are : (n : ℕ) → n < 512 → slice_index tags2 n ≡ encode_of 22 6 (tag_of fs c (last_fill (new ∷ fills) n))
  tags_are n below =
      elim (cases_eq n slot) [
        | inl at ↦
            ap (λ i. slice_index tags2 i) at
            ∙ get_or-set_same tags slot tag_word 0 (omega (arith, place_low a way, h.tag_count))
            ∙ ap (encode_of 22 6) (sym (ap (tag_of fs c) (last_here n at) ∙ new_tag))
        | inr ne ↦
            get_or-set_other tags slot n tag_word 0 ne ∙ h.tag n below (omega (arith, below, ended))
            ∙ ap (λ o. encode_of 22 6 (tag_of fs c o)) (sym (last_other n ne))
      ]

  -- both words of every line are those of its fill
  first_are : (n : ℕ) (x : Fill) → n < 512 → last_fill (new ∷ fills) n ≡ Some x
      → slice_index lines2 (2 * n) ≡ encode_of 32 7 (word_in s log x.grant0 (8 * x.line))
  first_are n x below e =
      elim (cases_eq n slot) [
        | inl at ↦
            get_or-set_other (set lines (2 * slot) data0) (2 * slot + 1) (2 * n) data1 0
            (λ z. absurd (omega (arith, z)))
            ∙ ap (λ i. slice_index (set lines (2 * slot) data0) (2 * i)) at
            ∙ get_or-set_same lines (2 * slot) data0 0 (omega (arith, place_low a way, h.line_count))
            ∙ ap (λ (v : Fill). encode_of 32 7 (word_in s log v.grant0 (8 * v.line)))
            (some_fill new x (sym (last_here n at) ∙ e))
        | inr ne ↦
            get_or-set_other (set lines (2 * slot) data0) (2 * slot + 1) (2 * n) data1 0
            (λ z. absurd (omega (arith, z)))
            ∙ get_or-set_other lines (2 * slot) (2 * n) data0 0 (λ z. ne (omega (arith, z)))
            ∙ h.word0 n x below (sym (last_other n ne) ∙ e)
      ]

  -- the second word of every line is that of its fill
  second_are : (n : ℕ) (x : Fill) → n < 512 → last_fill (new ∷ fills) n ≡ Some x
      → slice_index lines2 (2 * n + 1) ≡ encode_of 32 7 (word_in s log x.grant1 (8 * x.line + 4))
  second_are n x below e =
      elim (cases_eq n slot) [
        | inl at ↦
            ap (λ i. slice_index lines2 (2 * i + 1)) at
            ∙ get_or-set_same (set lines (2 * slot) data0) (2 * slot + 1) data1 0
            (omega (arith, place_low a way, h.line_count, length-set lines (2 * slot) data0))
            ∙ ap (λ (v : Fill). encode_of 32 7 (word_in s log v.grant1 (8 * v.line + 4)))
            (some_fill new x (sym (last_here n at) ∙ e))
        | inr ne ↦
            get_or-set_other (set lines (2 * slot) data0) (2 * slot + 1) (2 * n + 1) data1 0
            (λ z. ne (omega (arith, z)))
            ∙ get_or-set_other lines (2 * slot) (2 * n + 1) data0 0 (λ z. absurd (omega (arith, z)))
            ∙ h.word1 n x below (sym (last_other n ne) ∙ e)
      ]

  -- so the cache has the new line
  pub stores : CacheAt s log fs (new ∷ fills) c (c + 1) walk (not way) tags2 lines2
  stores =
      record {
        tag_count = length-set tags slot tag_word ∙ h.tag_count;
        line_count = length-set (set lines (2 * slot) data0) (2 * slot + 1) data1 ∙ length-set lines (2 * slot) data0
            ∙ h.line_count;
        tag_codes = All-set (λ w. IsCode 22 6 w) tags slot tag_word
            (record { payload = 2 ^ 21 + a / 2 ^ 11; low = omega (arith, low); is_code = refl }) h.tag_codes;
        line_codes =
            All-set (λ w. IsCode 32 7 w) (set lines (2 * slot) data0) (2 * slot + 1) data1
            (record {
              payload = word_in s log g1 (8 * line_of a + 4);
              low = word_low s ok log g1 (8 * line_of a + 4);
              is_code = refl;
            })
            (All-set (λ w. IsCode 32 7 w) lines (2 * slot) data0
            (record {
              payload = word_in s log g0 (8 * line_of a);
              low = word_low s ok log g0 (8 * line_of a);
              is_code = refl;
            }) h.line_codes);
        tag = λ n below _. tags_are n below;
        word0 = first_are;
        word1 = second_are;
        quiet = λ less n. absurd (omega (arith, less, ended));
        old = (omega arith, b0, b1, omega (arith, low), h.old);
        mapped = (m0, m1, h.mapped);
        alt_is = refl;
      }

-- ---- where the walk stands

-- without a FENCE.I since, the last one was before the request
head_before : (fs : List ℕ) (t c : ℕ) → IsLog fs c → none_between fs t (c + 1) ≡ true → IsLog fs (t + 1)
unfolding none_between
head_before [] t c l e = tt
head_before (f ∷ fs) t c l e =
    let high : nat_le (c + 1) f ≡ false = lt-leb (c + 1) f (omega (arith, l.0)) in
    let less : f < t = ltb-true f t (first_ (nat_lt f t) (none_between fs t (c + 1)) (rw high at e)) in
    (omega (arith, less), l.1)
  where
    first_ : (a b : Bool) → ((a || false) && b) ≡ true → a ≡ true
    first_ true b h = refl
    first_ false b h = h

-- a FENCE.I isn't seen before its cycle
walked_unseen : (fs : List ℕ) (c t : ℕ) → t < c → is_walked (c ∷ fs) t ≡ is_walked fs t
unfolding is_walked
walked_unseen fs c t h = rw (lt-ltb t c h) refl

-- for a request that was cached at t: in the cycle after it, and as long as no FENCE.I came
pub looks_ended : (fs : List ℕ) (t c walk : ℕ) (fence : Bool) → WalkMid fs c fence walk → is_walked fs t ≡ true
    → t + 1 ≡ c → walk ≡ 256
looks_ended fs t c walk fence (walks f a) h now =
    omega (arith, a.walk_is, walked_till fs t (log_more fs c (t + 1) (omega (arith, now)) a.log) h)
looks_ended fs t c walk fence (restarts old at f a) h now =
    omega (
      arith,
      a.walk_is,
      walked_till old t (log_more old c (t + 1) (omega (arith, now)) a.log)
          (sym (walked_unseen old c t (omega (arith, now))) ∙ ap (λ v. is_walked v t) (sym at) ∙ h),
    )

-- so the walk has ended where a line is stored
pub stores_ended : (fs : List ℕ) (t c walk : ℕ) (fence : Bool) → t < c → WalkMid fs c fence walk
    → is_walked fs t ≡ true → none_between fs t (c + 1) ≡ true → walk ≡ 256
stores_ended fs t c walk fence less (walks f a) h none_ =
    omega (arith, less, a.walk_is, walked_till fs t (head_before fs t c a.log none_) h)
stores_ended fs t c walk fence less (restarts old at f a) h none_ =
    let broken : none_between fs t (c + 1) ≡ false =
    ap (λ v. none_between v t (c + 1)) at ∙ broken old t c (omega (arith, less)) in
    let no_ : true ≡ false = sym none_ ∙ broken in
    cc
