-- One bit changed: of a field, of a delayed wire, and of the age of the delayed pairs.
use Rattle.std.proofs.Common.{◌≡◌, ◌≢◌, ℕ, zero, suc, ◌-◌, ◌*◌, ◌%◌, ◌^◌, ◌<◌, ◌≤◌, true, List, []}
use Rattle.std.proofs.Common.{◌∷◌, ◌++◌, length, refl, sym, ap, ◌∙◌, subst, arith}
use Rattle.std.specs.Prelude.{bit_xor, nat_le, slice_index, slice_set}
use Rattle.std.specs.List.{list_all}
use Rattle.std.proofs.lemmas.Bool.{and_parts, leb-true}
use Rattle.std.proofs.lemmas.Nat.{one_shl, pow_below, xor_lt}
use Rattle.std.proofs.lemmas.List.{get_or-append_right, get_or_append_left, set-append_left, set-append_right}
use Rattle.ibx_plan.specs.Names.{fields as field_table, width_in, wires}
use Rattle.ibx_core.specs.declared.state.State.{State}
use Rattle.ibx_core.specs.Fields.{fields, widths}
use Rattle.ibx_core.proofs.Widths.{width_is as field_width}
use Rattle.ibx_core.specs.Flipped.{core_of, field_flip, in_numbers, in_of, number_flip, out_numbers, out_of}
use Rattle.ibx_core.specs.Flipped.{wire_flip}
use Rattle.ibx_core.specs.Wires.{InWires as In, OutWires as Out}
use Rattle.ibx_core.proofs.EqualFields.{core_of-fields, is_set-bit}
use Rattle.ibx_soc.specs.Widths.{wire_width, wire_widths}

-- ---- bits

-- the code's shift is the power of two
pub changed_bit : (w k : ℕ) → k < 64 → bit_xor w (1 * 2 ^ k % 2 ^ 64) ≡ bit_xor w (2 ^ k)
changed_bit w k lt = rw (one_shl k 64 lt) refl

-- a bit that is inside changes nothing of the width
pub changed_fits : (w k width : ℕ) → k < width → w < 2 ^ width → bit_xor w (2 ^ k) < 2 ^ width
changed_fits w k width lt h = xor_lt width w (2 ^ k) h (pow_below k width lt)

-- the same in a byte, for the age
pub age_changed : (w k : ℕ) → k < 8 → bit_xor w (1 * 2 ^ k % 256) ≡ bit_xor w (2 ^ k)
age_changed w k lt = rw (one_shl k 8 lt) refl

-- the age stays below 8
pub age_fits : (w k : ℕ) → k < 3 → w < 8 → bit_xor w (2 ^ k) < 8
age_fits w k lt h = changed_fits w k 3 lt h

-- each number of a list that is tested is at most 64, and past the end there is 0
small_at : (xs : List ℕ) → list_all (λ n. nat_le n 64) xs ≡ true → (k : ℕ) → slice_index xs k ≤ 64
small_at [] h k = omega arith
small_at (x ∷ xs) h zero = leb-true x 64 (and_parts _ _ h).0
small_at (x ∷ xs) h (suc k) = small_at xs (and_parts _ _ h).1 k

-- ---- fields

-- a field has at most 64 bits
pub field_small : (field : ℕ) → width_in field_table field ≤ 64
field_small field = subst (λ n. n ≤ 64) (sym (field_width field)) (small_at widths refl field)

-- a field that is set to its value with one bit changed
pub field_flip_is : (s t : State) (field k value : ℕ) → value ≡ bit_xor (slice_index (fields s) field) (2 ^ k) → fields
    t ≡ slice_set (fields s) field value → t ≡ field_flip field k s
unfolding field_flip
field_flip_is s t field k value e h = sym (core_of-fields t) ∙ ap core_of (h ∙ ap (slice_set (fields s) field) e)

-- ---- wires

-- the widths are those of the plan's table
pub width_is : (wire : ℕ) → width_in wires wire ≡ wire_width wire
unfolding wires
width_is wire = refl

-- a wire has at most 64 bits
pub wire_small : (wire : ℕ) → wire_width wire ≤ 64
wire_small wire = small_at wire_widths refl wire

-- a bit of a wire is one of 64
pub bit_small : (wire k : ℕ) → k < width_in wires wire → k < 64
bit_small wire k lt = let small = wire_small wire in let here : k < wire_width wire = subst (λ n. k < n)
    (width_is wire) lt in omega arith

-- a bit of the age is one of three
pub age_bit : (wire k : ℕ) → k < width_in wires wire → wire ≡ 36 → k < 3
age_bit wire k lt e = subst (λ n. k < n) (ap wire_width e) (subst (λ n. k < n) (width_is wire) lt)

-- a bit of a list of widths is of a number in the list
bit_inside : (xs : List ℕ) (n k : ℕ) → k < slice_index xs n → n < length xs
bit_inside [] n k lt = absurd (omega (arith, lt))
bit_inside (x ∷ xs) zero k lt = omega arith
bit_inside (x ∷ xs) (suc n) k lt = omega (arith, bit_inside xs n k lt)

-- a bit of a delayed wire that is neither the age nor what was found is of one of the 36 wires
pub wire_inside : (wire k : ℕ) → k < width_in wires wire → wire ≢ 36 → wire ≢ 37 → wire < 36
wire_inside wire k lt age told = omega (arith, bit_inside wire_widths wire k (subst (λ n. k < n) (width_is wire) lt))

-- a bit of a field is of one of the 89 fields
pub field_inside : (field k : ℕ) → k < width_in field_table field → field < 89
field_inside field k lt = bit_inside widths field k (subst (λ n. k < n) (field_width field) lt)

-- the wires give the pair back
in_of-numbers : (i : In) (o : Out) → in_of (in_numbers i ++ out_numbers o) ≡ i
unfolding in_of in_numbers out_numbers
in_of-numbers i o = simp is_set-bit

-- the same of the output, but for its event
out_of-numbers : (i : In) (o old : Out) → old.event ≡ o.event → out_of (in_numbers i ++ out_numbers o) old ≡ o
unfolding out_of in_numbers out_numbers
out_of-numbers i o old e = simp (is_set-bit, e)

-- how many numbers the input has
input-length : (i : In) → length (in_numbers i) ≡ 16
unfolding in_numbers
input-length i = refl

-- the number of a wire of the input is below its count
input-count : (i : In) (wire : ℕ) → wire < 16 → wire < length (in_numbers i)
input-count i wire lt = subst (λ n. wire < n) (sym (input-length i)) lt

-- pairs with equal parts are equal
pair_is : {A B : Type 0} {a b : A} {c d : B} → a ≡ b → c ≡ d → ◌≡◌ {A = A × B} (a, c) (b, d)
pair_is e h = λ t. (e t, h t)

-- a wire of the input with one bit changed
pub input_flip : (i j : In) (o : Out) (wire k value : ℕ) → wire < 16 → value ≡ bit_xor
    (slice_index (in_numbers i) wire) (2 ^ k)
    → in_numbers j ≡ slice_set (in_numbers i) wire value → ◌≡◌ {A = In × Out} (j, o) (wire_flip wire k (i, o))
unfolding wire_flip
input_flip i j o wire k value lt e h =
    let here : slice_index (in_numbers i ++ out_numbers o) wire ≡ slice_index (in_numbers i) wire = get_or_append_left
    (in_numbers i) (out_numbers o) 0 wire (input-count i wire lt) in
    let flipped : bit_xor (slice_index (in_numbers i ++ out_numbers o) wire) (2 ^ k) ≡ value = ap
    (λ (n : ℕ). bit_xor n (2 ^ k)) here ∙ sym e in
    let all : number_flip wire k (in_numbers i ++ out_numbers o) ≡ in_numbers j ++ out_numbers o =
    ap (slice_set (in_numbers i ++ out_numbers o) wire) flipped
    ∙ set-append_left (in_numbers i) (out_numbers o) wire value (input-count i wire lt)
    ∙ ap (λ (xs : List ℕ). xs ++ out_numbers o) (sym h) in
    sym (ap (λ (xs : List ℕ). (in_of xs, out_of xs o)) all ∙ pair_is (in_of-numbers j o) (out_of-numbers j o o refl))

-- a wire of the output with one bit changed
pub output_flip : (i : In) (o p : Out) (wire k value : ℕ) → 16 ≤ wire → value ≡ bit_xor
    (slice_index (out_numbers o) (wire - 16)) (2 ^ k)
    → out_numbers p ≡ slice_set (out_numbers o) (wire - 16) value → p.event ≡ o.event → ◌≡◌ {A = In × Out} (i, p)
    (wire_flip wire k (i, o))
unfolding wire_flip
output_flip i o p wire k value le e h same =
    let here : slice_index (in_numbers i ++ out_numbers o) wire ≡ slice_index (out_numbers o) (wire - 16) =
    get_or-append_right (in_numbers i) (out_numbers o) 16 wire 0 (input-length i) le in
    let flipped : bit_xor (slice_index (in_numbers i ++ out_numbers o) wire) (2 ^ k) ≡ value = ap
    (λ (n : ℕ). bit_xor n (2 ^ k)) here ∙ sym e in
    let all : number_flip wire k (in_numbers i ++ out_numbers o) ≡ in_numbers i ++ out_numbers p =
    ap (slice_set (in_numbers i ++ out_numbers o) wire) flipped
    ∙ set-append_right (in_numbers i) (out_numbers o) 16 wire value (input-length i) le
    ∙ ap (λ (xs : List ℕ). in_numbers i ++ xs) (sym h) in
    sym (ap (λ (xs : List ℕ). (in_of xs, out_of xs o)) all ∙ pair_is (in_of-numbers i p)
    (out_of-numbers i p o (sym same)))
