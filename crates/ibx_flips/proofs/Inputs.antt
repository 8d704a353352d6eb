-- Two inputs that differ in some bad words: the core hears the same, or it hears a bad word.
use Rattle.std.proofs.Common.{◌≡◌, ℕ, Bool, true, false, not, inl, inr, refl, ap, ◌∙◌}
use Rattle.std.specs.Prelude.{◌&&◌, ◌||◌, if◌then◌else◌}
use Rattle.std.proofs.lemmas.Bool.{cases_Bool, and_parts, and_from, or_parts, or_cases, or_left, or_right}
use Rattle.ibx_core.specs.Wires.{InWires as In}
use Rattle.ibx_icache.specs.WordPort.{is_bad_tag, is_bad_word}
use Rattle.ibx_system.specs.Core.{Parts, heard, hears_bad, takes0, takes1}
use Rattle.ibx_flips.specs.Flips.{InMarks, uses_marked}
use Rattle.ibx_flips.proofs.Apart.{WordApart}

module _ (a b c d e f g h : Bool) where
  -- one of eight tests holds
  data OneOf : Type 0 where
    -- it is the first of the eight
    first : a ≡ true → OneOf
    -- it is the second
    second : b ≡ true → OneOf
    -- it is the third
    third : c ≡ true → OneOf
    -- it is the fourth
    fourth : d ≡ true → OneOf
    -- it is the fifth
    fifth : e ≡ true → OneOf
    -- it is the sixth
    sixth : f ≡ true → OneOf
    -- it is the seventh
    seventh : g ≡ true → OneOf
    -- it is the eighth, the last of the disjunction
    eighth : h ≡ true → OneOf

  -- then their disjunction does
  any_of_eight : OneOf → (a || (b || (c || (d || (e || (f || (g || h))))))) ≡ true
  any_of_eight (first x) = or_left a (b || (c || (d || (e || (f || (g || h)))))) x
  any_of_eight (second x) =
      or_right a (b || (c || (d || (e || (f || (g || h)))))) (or_left b (c || (d || (e || (f || (g || h))))) x)
  any_of_eight (third x) =
      or_right a (b || (c || (d || (e || (f || (g || h))))))
      (or_right b (c || (d || (e || (f || (g || h))))) (or_left c (d || (e || (f || (g || h)))) x))
  any_of_eight (fourth x) =
      or_right a (b || (c || (d || (e || (f || (g || h))))))
      (or_right b (c || (d || (e || (f || (g || h)))))
      (or_right c (d || (e || (f || (g || h)))) (or_left d (e || (f || (g || h))) x)))
  any_of_eight (fifth x) =
      or_right a (b || (c || (d || (e || (f || (g || h))))))
      (or_right b (c || (d || (e || (f || (g || h)))))
      (or_right c (d || (e || (f || (g || h))))
      (or_right d (e || (f || (g || h))) (or_left e (f || (g || h)) x))))
  any_of_eight (sixth x) =
      or_right a (b || (c || (d || (e || (f || (g || h))))))
      (or_right b (c || (d || (e || (f || (g || h)))))
      (or_right c (d || (e || (f || (g || h))))
      (or_right d (e || (f || (g || h))) (or_right e (f || (g || h)) (or_left f (g || h) x)))))
  any_of_eight (seventh x) =
      or_right a (b || (c || (d || (e || (f || (g || h))))))
      (or_right b (c || (d || (e || (f || (g || h)))))
      (or_right c (d || (e || (f || (g || h))))
      (or_right d (e || (f || (g || h)))
      (or_right e (f || (g || h)) (or_right f (g || h) (or_left g h x))))))
  any_of_eight (eighth x) =
      or_right a (b || (c || (d || (e || (f || (g || h))))))
      (or_right b (c || (d || (e || (f || (g || h)))))
      (or_right c (d || (e || (f || (g || h))))
      (or_right d (e || (f || (g || h)))
      (or_right e (f || (g || h)) (or_right f (g || h) (or_right g h x))))))

module _ {S : Type 0} (p : Parts S) where
  -- two inputs with the same flags and grants, whose marked words are bad ones in the second
  pub record InApart (x : InMarks) (i j : In) : Type 0 where
    -- both fetches have an answer in this cycle, or neither has
    pub irsp_valid : j.irsp_valid ≡ i.irsp_valid
    -- a fetch fails in both or in neither
    pub irsp_err : j.irsp_err ≡ i.irsp_err
    -- the fetched words are the same, or a bad one in the second where they are marked
    pub irsp_word : WordApart is_bad_word x.irsp i.irsp_word j.irsp_word
    -- a marked fetched word comes with a valid answer, so that the core uses it
    pub irsp_live : x.irsp ≡ true → j.irsp_valid ≡ true
    -- both data ports answer in this cycle, or neither does
    pub drsp_valid : j.drsp_valid ≡ i.drsp_valid
    -- a load or a store fails in both or in neither
    pub drsp_err : j.drsp_err ≡ i.drsp_err
    -- the loaded words are the same, or a bad one in the second where they are marked
    pub drsp_word : WordApart is_bad_word x.drsp i.drsp_word j.drsp_word
    -- a marked loaded word comes with a valid answer too
    pub drsp_live : x.drsp ≡ true → j.drsp_valid ≡ true
    -- the fetch is granted in both or in neither
    pub igrant : j.igrant ≡ i.igrant
    -- so is the request of the data port
    pub dgrant : j.dgrant ≡ i.dgrant
    -- the word of the first register that is read, the same or a marked bad one
    pub rega : WordApart is_bad_word x.rega i.rega j.rega
    -- that of the second register
    pub regb : WordApart is_bad_word x.regb i.regb j.regb
    -- the tag word of way 0, where a bad one is bad by the code of tags
    pub tag0 : WordApart is_bad_tag x.tag0 i.tag0 j.tag0
    -- the tag word of way 1
    pub tag1 : WordApart is_bad_tag x.tag1 i.tag1 j.tag1
    -- the data word of way 0, the same or a marked bad one
    pub data0 : WordApart is_bad_word x.data0 i.data0 j.data0
    -- the data word of way 1
    pub data1 : WordApart is_bad_word x.data1 i.data1 j.data1
    -- no flip reaches the interrupt lines
    pub lines : j.lines ≡ i.lines
    -- nor the multiplier's kind
    pub mul : j.mul ≡ i.mul

  -- an unmarked word is the same, and a marked one is bad
  same_word : (bad : ℕ → Bool) (x : Bool) (a c : ℕ) → WordApart bad x a c → x ≡ false → c ≡ a
  same_word bad false a c w e = w
  same_word bad true a c w e = cc

  -- a marked word
  marked_word : (bad : ℕ → Bool) (x : Bool) (a c : ℕ) → WordApart bad x a c → x ≡ true → bad c ≡ true
  marked_word bad true a c w e = w
  marked_word bad false a c w e = cc

  -- a word that is used where b holds
  same_if : (bad : ℕ → Bool) (b x : Bool) (a c : ℕ) → WordApart bad x a c → (b && x) ≡ false
      → (if b then c else 0) ≡ (if b then a else 0)
  same_if bad false x a c w e = refl
  same_if bad true x a c w e = same_word bad x a c w e

  -- a test of an unmarked word, where it is used
  same_test : (bad : ℕ → Bool) (b x : Bool) (test : ℕ → Bool) (a c : ℕ) → WordApart bad x a c → (b && x) ≡ false
      → (b && test c) ≡ (b && test a)
  same_test bad false x test a c w e = refl
  same_test bad true x test a c w e = ap test (same_word bad x a c w e)

  -- the same tests
  same_tests : (bad : ℕ → Bool) (b x y : Bool) (test : ℕ → Bool) (a c d f : ℕ) → WordApart bad x a c
      → (b && x) ≡ false → WordApart bad y d f → (b && y) ≡ false
      → (b && (not (test c) && test f)) ≡ (b && (not (test a) && test d))
  same_tests bad false x y test a c d f w e v g = refl
  same_tests bad true x y test a c d f w e v g =
      λ t. not (test (same_word bad x a c w e t)) && test (same_word bad y d f v g t)

  -- a marked word that is used is a used bad word
  used_if : (bad : ℕ → Bool) (b x : Bool) (a c : ℕ) → WordApart bad x a c → (b && x) ≡ true → (b && bad c) ≡ true
  used_if bad b x a c w e = let both = and_parts b x e in and_from b (bad c) both.0 (marked_word bad x a c w both.1)

  -- which of the used words aren't the changed one
  record Unmarked (x : InMarks) (s : S) (i : In) : Type 0 where
    -- the fetched word isn't the changed one, or doesn't come in this cycle
    irsp : x.irsp ≡ false
    -- nor is the loaded word, where one comes
    drsp : x.drsp ≡ false
    -- the first register's word is used in every cycle, and is unmarked
    rega : x.rega ≡ false
    -- so is the second register's
    regb : x.regb ≡ false
    -- the tag word of way 0 is unmarked where a line is looked up
    tag0 : (p.looks s && x.tag0) ≡ false
    -- so is that of way 1
    tag1 : (p.looks s && x.tag1) ≡ false
    -- the data word of way 0 is unmarked where its tag matches
    data0 : (takes0 p s i.tag0 && x.data0) ≡ false
    -- that of way 1 is unmarked where its tag matches and that of way 0 doesn't
    data1 : (takes1 p s i.tag0 i.tag1 && x.data1) ≡ false

  -- no used word is marked, word by word
  unmarked : (x : InMarks) (s : S) (i : In) → uses_marked p x s i ≡ false → Unmarked x s i
  unfolding uses_marked
  unmarked x s i e =
      let a = or_parts x.irsp _ e in
      let b = or_parts x.drsp _ a.1 in
      let c = or_parts x.rega _ b.1 in
      let d = or_parts x.regb _ c.1 in
      let f = or_parts (p.looks s && x.tag0) _ d.1 in
      let g = or_parts (p.looks s && x.tag1) _ f.1 in
      let h = or_parts (takes0 p s i.tag0 && x.data0) _ g.1 in
      record { irsp = a.0; drsp = b.0; rega = c.0; regb = d.0; tag0 = f.0; tag1 = g.0; data0 = h.0; data1 = h.1 }

  -- where no used word is marked, the core hears the same
  pub heard_same : (x : InMarks) (s : S) (i j : In) → InApart x i j → uses_marked p x s i ≡ false
      → heard p s j ≡ heard p s i
  unfolding heard
  heard_same x s i j d e =
      let u = unmarked x s i e in
      let irsp = same_word is_bad_word x.irsp i.irsp_word j.irsp_word d.irsp_word u.irsp in
      let drsp = same_word is_bad_word x.drsp i.drsp_word j.drsp_word d.drsp_word u.drsp in
      let rega = same_word is_bad_word x.rega i.rega j.rega d.rega u.rega in
      let regb = same_word is_bad_word x.regb i.regb j.regb d.regb u.regb in
      let tag0 = same_if is_bad_tag (p.looks s) x.tag0 i.tag0 j.tag0 d.tag0 u.tag0 in
      let tag1 = same_if is_bad_tag (p.looks s) x.tag1 i.tag1 j.tag1 d.tag1 u.tag1 in
      let take0 = same_test is_bad_tag (p.looks s) x.tag0 (p.matches s) i.tag0 j.tag0 d.tag0 u.tag0 in
      let take1 = same_tests is_bad_tag (p.looks s) x.tag0 x.tag1
      (p.matches s) i.tag0 j.tag0 i.tag1 j.tag1 d.tag0 u.tag0 d.tag1 u.tag1 in
      let data0 = ap (λ (b : Bool). if b then j.data0 else 0) take0
      ∙ same_if is_bad_word (takes0 p s i.tag0) x.data0 i.data0 j.data0 d.data0 u.data0 in
      let data1 = ap (λ (b : Bool). if b then j.data1 else 0) take1
      ∙ same_if is_bad_word (takes1 p s i.tag0 i.tag1) x.data1 i.data1 j.data1 d.data1 u.data1 in
      λ t. record {
        irsp_valid = d.irsp_valid t;
        irsp_err = d.irsp_err t;
        irsp_word = if d.irsp_valid t then irsp t else 0;
        drsp_valid = d.drsp_valid t;
        drsp_err = d.drsp_err t;
        drsp_word = if d.drsp_valid t then drsp t else 0;
        igrant = d.igrant t;
        dgrant = d.dgrant t;
        rega = rega t;
        regb = regb t;
        tag0 = tag0 t;
        tag1 = tag1 t;
        data0 = data0 t;
        data1 = data1 t;
        lines = d.lines t;
        mul = d.mul t;
      }

  -- ---- a used word that is the changed one is heard

  -- one of the used words is bad
  data Hears (s : S) (j : In) : Type 0 where
    -- a fetch is answered, with a bad word
    irsp : (j.irsp_valid && is_bad_word j.irsp_word) ≡ true → Hears s j
    -- the data port answers with a bad word
    drsp : (j.drsp_valid && is_bad_word j.drsp_word) ≡ true → Hears s j
    -- the first register's word is bad, which is used in every cycle
    rega : is_bad_word j.rega ≡ true → Hears s j
    -- the second register's word is bad
    regb : is_bad_word j.regb ≡ true → Hears s j
    -- a line is looked up, and the tag word of way 0 is bad
    tag0 : (p.looks s && is_bad_tag j.tag0) ≡ true → Hears s j
    -- the same of way 1
    tag1 : (p.looks s && is_bad_tag j.tag1) ≡ true → Hears s j
    -- way 0 matches, and its data word is bad
    data0 : (takes0 p s j.tag0 && is_bad_word j.data0) ≡ true → Hears s j
    -- way 1 alone matches, and its data word is bad
    data1 : (takes1 p s j.tag0 j.tag1 && is_bad_word j.data1) ≡ true → Hears s j

  -- then the core hears a bad word
  hears : (s : S) (j : In) → Hears s j → hears_bad p s j ≡ true
  unfolding hears_bad
  hears s j x = any_of_eight (j.irsp_valid && is_bad_word j.irsp_word) (j.drsp_valid && is_bad_word j.drsp_word)
      (is_bad_word j.rega) (is_bad_word j.regb) (p.looks s && is_bad_tag j.tag0) (p.looks s && is_bad_tag j.tag1)
      (takes0 p s j.tag0 && is_bad_word j.data0) (takes1 p s j.tag0 j.tag1 && is_bad_word j.data1) (elim x [
        | irsp e ↦ first e
        | drsp e ↦ second e
        | rega e ↦ third e
        | regb e ↦ fourth e
        | tag0 e ↦ fifth e
        | tag1 e ↦ sixth e
        | data0 e ↦ seventh e
        | data1 e ↦ eighth e
      ])

  -- a data word is used: the tags are the same, since a changed one would be heard
  used_lane : (x : InMarks) (s : S) (i j : In) → InApart x i j
      → ((takes0 p s i.tag0 && x.data0) || (takes1 p s i.tag0 i.tag1 && x.data1)) ≡ true → Hears s j
  used_lane x s i j d e =
      elim (cases_Bool (p.looks s && x.tag0)) [
        | inl t0 ↦ tag0 (used_if is_bad_tag (p.looks s) x.tag0 i.tag0 j.tag0 d.tag0 t0)
        | inr n0 ↦ elim (cases_Bool (p.looks s && x.tag1)) [
          | inl t1 ↦ tag1 (used_if is_bad_tag (p.looks s) x.tag1 i.tag1 j.tag1 d.tag1 t1)
          | inr n1 ↦ elim (or_cases (takes0 p s i.tag0 && x.data0) (takes1 p s i.tag0 i.tag1 && x.data1) e) [
            | inl a ↦
                let take = same_test is_bad_tag (p.looks s) x.tag0 (p.matches s) i.tag0 j.tag0 d.tag0 n0 in
                data0 (ap (λ (b : Bool). b && is_bad_word j.data0) take
                ∙ used_if is_bad_word (takes0 p s i.tag0) x.data0 i.data0 j.data0 d.data0 a)
            | inr a ↦
                let take = same_tests is_bad_tag (p.looks s) x.tag0 x.tag1
                (p.matches s) i.tag0 j.tag0 i.tag1 j.tag1 d.tag0 n0 d.tag1 n1 in
                data1 (ap (λ (b : Bool). b && is_bad_word j.data1) take
                ∙ used_if is_bad_word (takes1 p s i.tag0 i.tag1) x.data1 i.data1 j.data1 d.data1 a)
          ]
        ]
      ]

  -- a used word that is marked is heard, by the first of them
  used_hears : (x : InMarks) (s : S) (i j : In) → InApart x i j → uses_marked p x s i ≡ true → Hears s j
  unfolding uses_marked
  used_hears x s i j d e =
      elim (or_cases x.irsp _ e) [
        | inl a ↦ irsp (and_from j.irsp_valid (is_bad_word j.irsp_word) (d.irsp_live a)
            (marked_word is_bad_word x.irsp i.irsp_word j.irsp_word d.irsp_word a))
        | inr e1 ↦ elim (or_cases x.drsp _ e1) [
          | inl a ↦ drsp (and_from j.drsp_valid (is_bad_word j.drsp_word) (d.drsp_live a)
              (marked_word is_bad_word x.drsp i.drsp_word j.drsp_word d.drsp_word a))
          | inr e2 ↦ elim (or_cases x.rega _ e2) [
            | inl a ↦ rega (marked_word is_bad_word x.rega i.rega j.rega d.rega a)
            | inr e3 ↦ elim (or_cases x.regb _ e3) [
              | inl a ↦ regb (marked_word is_bad_word x.regb i.regb j.regb d.regb a)
              | inr e4 ↦ elim (or_cases (p.looks s && x.tag0) _ e4) [
                | inl a ↦ tag0 (used_if is_bad_tag (p.looks s) x.tag0 i.tag0 j.tag0 d.tag0 a)
                | inr e5 ↦ elim (or_cases (p.looks s && x.tag1) _ e5) [
                  | inl a ↦ tag1 (used_if is_bad_tag (p.looks s) x.tag1 i.tag1 j.tag1 d.tag1 a)
                  | inr e6 ↦ used_lane x s i j d e6
                ]
              ]
            ]
          ]
        ]
      ]

  -- where a used word is marked, the core hears a bad word
  pub used_bad : (x : InMarks) (s : S) (i j : In) → InApart x i j → uses_marked p x s i ≡ true → hears_bad p s j ≡ true
  used_bad x s i j d e = hears s j (used_hears x s i j d e)
