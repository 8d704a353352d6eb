-- An entry covers a word whole or not at all.
use Rattle.std.proofs.Common.{◌≡◌, ℕ, ◌+◌, ◌-◌, ◌*◌, ◌/◌, ◌%◌, ◌^◌, ◌<◌, ◌≤◌, Bool, true, false, cond, eqb, ltb, leb}
use Rattle.std.proofs.Common.{List, [], ◌∷◌, length, get_or, drop, refl, sym, ap, ◌∙◌, arith, inl, inr, add-one}
use Rattle.std.proofs.Common.{drop-cons}
use Rattle.std.specs.Prelude.{◌&&◌, Some, find}
use Rattle.std.specs.Int.{w32, trailing_ones}
use Rattle.std.proofs.lemmas.List.{drop_all}
use Rattle.std.proofs.lemmas.Nat.{pow_pos, pow-add, div-add-mod', mod_below, div-mul-add}
use Rattle.std.proofs.lemmas.Bool.{cases_eq, lt-ltb, le-ltb, le-leb, ltb-true, leb-true, eqb-true, eq-eqb, ne_eqb}
use Rattle.std.proofs.lemmas.Bool.{and_from, and_parts, cases_Bool}
use Rattle.ibx_pmp.specs.declared.protection.AccessKind.{AccessKind}
use Rattle.ibx_pmp.specs.Ranges.{Bytes, Entry, covers, entries_after, meets, has_all, allows, by_entry, has_word}
use Rattle.ibx_pmp.specs.Ranges.{without_entry}

-- two tests that imply each other have one value
same_test : (a b : Bool) → (a ≡ true → b ≡ true) → (b ≡ true → a ≡ true) → a ≡ b
same_test true true to from = refl
same_test true false to from = sym (to refl)
same_test false true to from = from refl
same_test false false to from = refl

-- whole words, from first up to last
module _ (first last x n : ℕ) (some : 1 ≤ n) (one : x % 4 + n ≤ 4) where
  abbrev block : Bytes
  block = record { start = first * 4; end = last * 4 }

  -- bytes within one word meet such a block where it has that word, and then it has them all
  block-meets : meets block x n ≡ (leb first (x / 4) && ltb (x / 4) last)
  block-meets =
      same_test (meets block x n) (leb first (x / 4) && ltb (x / 4) last)
      (λ e. let lt = ltb-true _ _ e in
      and_from _ _ (le-leb first (x / 4) (omega (arith, lt))) (lt-ltb (x / 4) last (omega (arith, lt))))
      (λ e. let p = and_parts (leb first (x / 4)) (ltb (x / 4) last) e in
      lt-ltb _ _ (omega (arith, leb-true first (x / 4) p.0, ltb-true (x / 4) last p.1)))

  -- a block that has the word has all of these bytes, since they lie within the one word
  block-contains : (leb first (x / 4) && ltb (x / 4) last) ≡ true → has_all block x n ≡ true
  block-contains e =
      let p = and_parts (leb first (x / 4)) (ltb (x / 4) last) e in
      let a = leb-true first (x / 4) p.0 in
      let b = ltb-true (x / 4) last p.1 in
      and_from _ _ (le-leb (first * 4) x (omega (arith, a))) (le-leb (x + n) (last * 4) (omega (arith, b)))

-- the word w is in the block of 2 ^ s words that a is in
in_block : (w a s : ℕ) → (leb (a / 2 ^ s * 2 ^ s) w && ltb w (a / 2 ^ s * 2 ^ s + 2 ^ s)) ≡ eqb (w / 2 ^ s) (a / 2 ^ s)
in_block w a s =
    let parts = div-add-mod' w (2 ^ s) in
    let below = mod_below w (2 ^ s) (pow_pos s) in
    same_test (leb (a / 2 ^ s * 2 ^ s) w && ltb w (a / 2 ^ s * 2 ^ s + 2 ^ s)) (eqb (w / 2 ^ s) (a / 2 ^ s))
    (λ e. let p = and_parts (leb (a / 2 ^ s * 2 ^ s) w) (ltb w (a / 2 ^ s * 2 ^ s + 2 ^ s)) e in
    let low = leb-true (a / 2 ^ s * 2 ^ s) w p.0 in
    let high = ltb-true w (a / 2 ^ s * 2 ^ s + 2 ^ s) p.1 in
    let whole : a / 2 ^ s * 2 ^ s + (w - a / 2 ^ s * 2 ^ s) ≡ w = omega (arith, low) in
    eq-eqb (w / 2 ^ s) (a / 2 ^ s) (sym (ap (λ (v : ℕ). v / 2 ^ s) whole)
    ∙ div-mul-add (a / 2 ^ s) (2 ^ s) (w - a / 2 ^ s * 2 ^ s) (omega (arith, low, high))))
    (λ e. let same = eqb-true (w / 2 ^ s) (a / 2 ^ s) e in
    let first : a / 2 ^ s * 2 ^ s ≡ w / 2 ^ s * 2 ^ s = ap (λ (v : ℕ). v * 2 ^ s) (sym same) in
    and_from _ _ (le-leb (a / 2 ^ s * 2 ^ s) w (omega (arith, first, parts)))
    (lt-ltb w (a / 2 ^ s * 2 ^ s + 2 ^ s) (omega (arith, first, parts, below))))

-- an entry's bytes are whole words, and which
record Whole (cfg below a : ℕ) : Type 0 where
  first : ℕ
  last : ℕ
  bytes : covers cfg below a ≡ record { start = first * 4; end = last * 4 }
  word : (w : ℕ) → has_word cfg below a w ≡ (leb first w && ltb w last)

-- the three ways to match: an entry that is off, one word, and a block of words by its end
nothing : (w : ℕ) → false ≡ (leb 0 w && ltb w 0)
nothing w = sym (rw (le-ltb w 0 (omega arith)) (elim (cases_Bool (leb 0 w)) [ inl e ↦ rw e refl | inr e ↦ rw e refl ]))

-- an entry of four bytes has the one word whose number is its address
one_word : (w a : ℕ) → eqb w a ≡ (leb a w && ltb w (a + 1))
one_word w a =
    same_test (eqb w a) (leb a w && ltb w (a + 1))
    (λ e. let same = eqb-true w a e in
    and_from _ _ (le-leb a w (omega (arith, same))) (lt-ltb w (a + 1) (omega (arith, same))))
    (λ e. let p = and_parts (leb a w) (ltb w (a + 1)) e in
    eq-eqb w a (omega (arith, leb-true a w p.0, ltb-true w (a + 1) p.1)))

-- a block of 2 ^ (k + 3) bytes ends where its 2 ^ (k + 1) words end
block_end : (f k : ℕ) → f * 4 + 2 ^ (k + 3) ≡ (f + 2 ^ (k + 1)) * 4
block_end f k =
    let power : 2 ^ (k + 3) ≡ 2 ^ (k + 1) * 4 = ap (λ (x : ℕ). 2 ^ x) (omega arith) ∙ pow-add 2 (k + 1) 2 in
    omega (arith, power)

-- an entry of each way covers whole words
whole : (cfg below a : ℕ) → Whole cfg below a
unfolding has_word
whole cfg below a =
    elim (cases_eq (cfg / 8 % 4) 0) [
      | inl off ↦ record { first = 0; last = 0; bytes = rw off refl; word = λ w. rw off (nothing w) }
      | inr on ↦ elim (cases_eq (cfg / 8 % 4) 1) [
        | inl top ↦ record { first = below; last = a; bytes = rw top refl; word = λ w. rw top refl }
        | inr other ↦ elim (cases_eq (cfg / 8 % 4) 2) [
          | inl four ↦ record {
            first = a;
            last = a + 1;
            bytes = rw four (ap (λ (e : ℕ). record { start = a * 4; end = e }) (omega arith));
            word = λ w. rw four (one_word w a);
          }
          | inr power ↦
              let s : ℕ = trailing_ones w32 a + 1 in
              record {
                first = a / 2 ^ s * 2 ^ s;
                last = a / 2 ^ s * 2 ^ s + 2 ^ s;
                bytes = rw (ne_eqb (cfg / 8 % 4) 0 on, ne_eqb (cfg / 8 % 4) 1 other, ne_eqb (cfg / 8 % 4) 2 power)
                    (ap (λ (e : ℕ). record {
                      start = a / 2 ^ (trailing_ones w32 a + 1) * 2 ^ (trailing_ones w32 a + 1) * 4;
                      end = e;
                    }) (block_end (a / 2 ^ (trailing_ones w32 a + 1) * 2 ^ (trailing_ones w32 a + 1))
                    (trailing_ones w32 a)));
                word = λ w. rw (ne_eqb (cfg / 8 % 4) 0 on, ne_eqb (cfg / 8 % 4) 1 other, ne_eqb (cfg / 8 % 4) 2 power)
                    (sym (in_block w a (trailing_ones w32 a + 1)));
              }
        ]
      ]
    ]

-- bytes within one word meet an entry where it has that word, and then all of them are covered
pub covers-meets : (cfg below a x n : ℕ) → 1 ≤ n → x % 4 + n ≤ 4
    → meets (covers cfg below a) x n ≡ has_word cfg below a (x / 4)
covers-meets cfg below a x n some one =
    let e = whole cfg below a in
    ap (λ (b : Bytes). meets b x n) e.bytes ∙ block-meets e.first e.last x n some one ∙ sym (e.word (x / 4))

-- an entry that has the word has each byte within it, so that no access is covered in part
pub covers-contains : (cfg below a x n : ℕ) → 1 ≤ n → x % 4 + n ≤ 4 → has_word cfg below a (x / 4) ≡ true
    → has_all (covers cfg below a) x n ≡ true
covers-contains cfg below a x n some one h =
    let e = whole cfg below a in
    ap (λ (b : Bytes). has_all b x n) e.bytes ∙ block-contains e.first e.last x n some one (sym (e.word (x / 4)) ∙ h)

-- what the entries say after one with the address `lower`
unfoldable pub decided : ℕ → ℕ → List ℕ → List ℕ → ℕ → ℕ → AccessKind → Bool → Bool
decided sec lower cs as' x n kind machine =
    by_entry sec (find (λ e. meets e.bytes x n) (entries_after lower cs as')) x n kind machine

-- the entries from the i-th on
pub decided-from : (sec lower i : ℕ) (cs as' : List ℕ) (x n : ℕ) (kind : AccessKind) (machine : Bool) → 1 ≤ n
    → x % 4 + n ≤ 4 → i < length cs → i < length as' → decided sec lower (drop i cs) (drop i as') x n kind machine
    ≡ cond (has_word (get_or cs i 0) lower (get_or as' i 0) (x / 4)) (allows sec (get_or cs i 0) kind machine)
    (decided sec (get_or as' i 0) (drop (i + 1) cs) (drop (i + 1) as') x n kind machine)
unfolding decided
decided-from sec lower i cs as' x n kind machine some one lc la =
    let c = get_or cs i 0 in
    let a = get_or as' i 0 in
    let rest = find (λ (e : Entry). meets e.bytes x n) (entries_after a (drop (i + 1) cs) (drop (i + 1) as')) in
    let step : decided sec lower (drop i cs) (drop i as') x n kind machine
    ≡ by_entry sec (cond (meets (covers c lower a) x n) (Some (record { cfg = c; bytes = covers c lower a })) rest) x n
    kind machine =
    rw (drop-cons cs i 0 lc, drop-cons as' i 0 la, add-one i) refl in
    step ∙ rw (covers-meets c lower a x n some one)
    (elim (cases_Bool (has_word c lower a (x / 4))) [
      | inl h ↦ rw (h, covers-contains c lower a x n some one h) refl
      | inr h ↦ rw h refl
    ])

-- after the last entry the rule without one decides
pub decided-none : (sec lower i : ℕ) (cs as' : List ℕ) (x n : ℕ) (kind : AccessKind) (machine : Bool) → length cs ≤ i
    → decided sec lower (drop i cs) (drop i as') x n kind machine ≡ without_entry sec kind machine
unfolding decided
decided-none sec lower i cs as' x n kind machine le =
    let gone : drop i cs ≡ [] = drop_all i cs le in
    rw gone refl

-- no bytes meet no entry
pub decided-nothing : (sec lower : ℕ) (cs as' : List ℕ) (x : ℕ) (kind : AccessKind) (machine : Bool)
    → decided sec lower cs as' x 0 kind machine ≡ without_entry sec kind machine
unfolding decided
decided-nothing sec lower [] as' x kind machine = refl
decided-nothing sec lower (c ∷ cs) [] x kind machine = refl
decided-nothing sec lower (c ∷ cs) (a ∷ rest) x kind machine =
    let none : meets (covers c lower a) x 0 ≡ false = le-ltb _ _ (omega arith) in
    rw none (decided-nothing sec a cs rest x kind machine)
