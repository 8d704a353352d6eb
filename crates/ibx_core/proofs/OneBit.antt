-- A flip changes one bit of one field or of one wire, and leaves all else.
use Rattle.std.proofs.Common.{◌≡◌, ℕ, zero, suc, ◌<◌, ◌^◌, Bool, true, false, List, [], ◌∷◌, length, get_or-set_other}
use Rattle.std.proofs.Common.{get_or-set_same, map, refl, sym, ap, ◌∙◌, subst, inl, inr, arith, length-set}
use Rattle.std.specs.Prelude.{slice_index, bit_xor}
use Rattle.std.proofs.lemmas.Bool.{cases_eq}
use Rattle.std.proofs.lemmas.Nat.{xor_lt}
use Rattle.ibx_plan.specs.Names.{width_in, wires}
use Rattle.ibx_core.specs.declared.state.State.{State}
use Rattle.ibx_core.specs.Fields.{bit, fields, width_of, widths}
use Rattle.ibx_core.specs.Flipped.{core_of, field_flip, in_numbers, in_of, is_set, number_flip, out_numbers, out_of}
use Rattle.ibx_core.specs.Flipped.{wire_flip, wire_numbers}
use Rattle.ibx_core.specs.Wires.{InWires, OutWires}
use Rattle.ibx_core.proofs.Bits.{bit_of_test}

-- ---- a list by its numbers

-- so many numbers of a function
listed : ℕ → (ℕ → ℕ) → List ℕ
listed zero f = []
listed (suc n) f = f 0 ∷ listed n (λ k. f (suc k))

-- a list is its numbers
is_listed : (xs : List ℕ) → xs ≡ listed (length xs) (λ k. slice_index xs k)
unfolding listed
is_listed [] = refl
is_listed (x ∷ xs) = ap (λ (ys : List ℕ). x ∷ ys) (is_listed xs)

-- the same by its length
at_length : (n : ℕ) (xs : List ℕ) → length xs ≡ n → xs ≡ listed n (λ k. slice_index xs k)
at_length n xs e = is_listed xs ∙ ap (λ m. listed m (λ k. slice_index xs k)) e

-- a number below 2 is a bit
as_bit : (v : ℕ) → v < 2 → bit (is_set v) ≡ v
as_bit v lt = bit_of_test v lt

-- a bit is below 2
bit-lt : (b : Bool) → bit b < 2
bit-lt true = omega arith
bit-lt false = omega arith

-- a flip within the widths keeps a number of one bit one
flip_kept : (widths xs : List ℕ) (n k : ℕ) → n < length xs → k < slice_index widths n
    → (j : ℕ) → slice_index widths j ≡ 1 → slice_index xs j < 2 → slice_index (number_flip n k xs) j < 2
flip_kept widths xs n k inside fits j one low =
    elim (cases_eq n j) [
      | inl same ↦
          let width : slice_index widths n ≡ 1 = ap (λ m. slice_index widths m) same ∙ one in
          let first : k ≡ 0 = omega arith in
          let old : slice_index xs n < 2 ^ 1 = subst (λ m. slice_index xs m < 2 ^ 1) (sym same) low in
          let turned : 2 ^ k < 2 ^ 1 = subst (λ m. 2 ^ m < 2 ^ 1) (sym first) (omega arith) in
          let new : bit_xor (slice_index xs n) (2 ^ k) < 2 = xor_lt 1 (slice_index xs n) (2 ^ k) old turned in
          let here : slice_index (number_flip n k xs) n ≡ bit_xor (slice_index xs n) (2 ^ k) =
          get_or-set_same xs n (bit_xor (slice_index xs n) (2 ^ k)) 0 inside in
          subst (λ m. slice_index (number_flip n k xs) m < 2) same (subst (λ v. v < 2) (sym here) new)
      | inr other ↦ subst (λ v. v < 2)
          (sym (get_or-set_other xs n j (bit_xor (slice_index xs n) (2 ^ k)) 0 (λ e. other (sym e)))) low
    ]

-- ---- the fields

-- numbers whose one-bit fields are bits are those of the core that they give
fields_core_of : (xs : List ℕ) → length xs ≡ 89
    → slice_index xs 0 < 2 → slice_index xs 1 < 2 → slice_index xs 2 < 2 → slice_index xs 13 < 2
    → slice_index xs 14 < 2 → slice_index xs 16 < 2 → slice_index xs 17 < 2 → slice_index xs 32 < 2
    → fields (core_of xs) ≡ xs
unfolding fields core_of listed
fields_core_of xs len a b c d e f g h =
    rw (as_bit _ a, as_bit _ b, as_bit _ c, as_bit _ d, as_bit _ e, as_bit _ f, as_bit _ g, as_bit _ h)
    (sym (at_length 89 xs len))

-- there are 89 fields
count_fields : (s : State) → length (fields s) ≡ 89
unfolding fields
count_fields s = refl

-- the fields of one bit
record HasBits (xs : List ℕ) : Type 0 where
  busy : slice_index xs 0 < 2
  fresh : slice_index xs 1 < 2
  drops : slice_index xs 2 < 2
  way : slice_index xs 13 < 2
  alt : slice_index xs 14 < 2
  nostore : slice_index xs 16 < 2
  valid : slice_index xs 17 < 2
  priv_ : slice_index xs 32 < 2

-- they are bits
field_bits : (s : State) → HasBits (fields s)
unfolding fields
field_bits s = record {
  busy = bit-lt s.fetch.f_busy;
  fresh = bit-lt s.fetch.f_fresh;
  drops = bit-lt s.fetch.f_drop;
  way = bit-lt s.words.c_way;
  alt = bit-lt s.words.c_alt;
  nostore = bit-lt s.words.c_nostore;
  valid = bit-lt s.id.valid;
  priv_ = bit-lt s.csrs.priv_;
}

-- a flip of a bit of a field
pub flipped_fields : (s : State) (field k : ℕ) → field < 89 → k < width_of field
    → fields (field_flip field k s) ≡ number_flip field k (fields s)
unfolding field_flip
flipped_fields s field k inside fits =
    let xs = fields s in
    let b = field_bits s in
    let within : field < length xs = subst (λ n. field < n) (sym (count_fields s)) inside in
    let kept = flip_kept widths xs field k within fits in
    fields_core_of (number_flip field k xs) (length-set xs field (bit_xor (slice_index xs field) (2 ^ k))
    ∙ count_fields s)
    (kept 0 refl b.busy) (kept 1 refl b.fresh) (kept 2 refl b.drops) (kept 13 refl b.way) (kept 14 refl b.alt)
    (kept 16 refl b.nostore) (kept 17 refl b.valid) (kept 32 refl b.priv_)

-- ---- the wires of a delayed pair

-- numbers whose wires of one bit are bits are those of the pair that they give
wires_of : (xs : List ℕ) (o : OutWires) → length xs ≡ 36
    → slice_index xs 0 < 2 → slice_index xs 1 < 2 → slice_index xs 3 < 2 → slice_index xs 4 < 2 → slice_index xs 6 < 2
    → slice_index xs 7 < 2
    → slice_index xs 16 < 2 → slice_index xs 18 < 2 → slice_index xs 19 < 2 → slice_index xs 25 < 2
    → wire_numbers (in_of xs, out_of xs o) ≡ xs
unfolding in_numbers out_numbers in_of out_of listed
wires_of xs o len a b c d e f g h i j =
    rw (
      as_bit _ a,
      as_bit _ b,
      as_bit _ c,
      as_bit _ d,
      as_bit _ e,
      as_bit _ f,
      as_bit _ g,
      as_bit _ h,
      as_bit _ i,
      as_bit _ j,
    ) (sym (at_length 36 xs len))

-- there are 36 wires
count_wires : (p : InWires × OutWires) → length (wire_numbers p) ≡ 36
unfolding in_numbers out_numbers
count_wires p = refl

-- the wires of one bit
record HasWires (xs : List ℕ) : Type 0 where
  irsp_valid : slice_index xs 0 < 2
  irsp_err : slice_index xs 1 < 2
  drsp_valid : slice_index xs 3 < 2
  drsp_err : slice_index xs 4 < 2
  igrant : slice_index xs 6 < 2
  dgrant : slice_index xs 7 < 2
  ireq : slice_index xs 16 < 2
  dreq : slice_index xs 18 < 2
  dwe : slice_index xs 19 < 2
  rw_ : slice_index xs 25 < 2

-- they are bits
wire_bits : (p : InWires × OutWires) → HasWires (wire_numbers p)
unfolding in_numbers out_numbers
wire_bits p = record {
  irsp_valid = bit-lt p.0.irsp_valid;
  irsp_err = bit-lt p.0.irsp_err;
  drsp_valid = bit-lt p.0.drsp_valid;
  drsp_err = bit-lt p.0.drsp_err;
  igrant = bit-lt p.0.igrant;
  dgrant = bit-lt p.0.dgrant;
  ireq = bit-lt p.1.ireq;
  dreq = bit-lt p.1.dreq;
  dwe = bit-lt p.1.dwe;
  rw_ = bit-lt p.1.rw;
}

-- a flip of a bit of a wire
pub flipped_wires : (p : InWires × OutWires) (wire k : ℕ) → wire < 36 → k < width_in wires wire
    → wire_numbers (wire_flip wire k p) ≡ number_flip wire k (wire_numbers p)
unfolding wire_flip wires
flipped_wires p wire k inside fits =
    let xs = wire_numbers p in
    let b = wire_bits p in
    let within : wire < length xs = subst (λ n. wire < n) (sym (count_wires p)) inside in
    let kept = flip_kept (map (λ row. row.1) wires) xs wire k within fits in
    wires_of (number_flip wire k xs) p.1 (length-set xs wire (bit_xor (slice_index xs wire) (2 ^ k)) ∙ count_wires p)
    (kept 0 refl b.irsp_valid) (kept 1 refl b.irsp_err) (kept 3 refl b.drsp_valid) (kept 4 refl b.drsp_err)
    (kept 6 refl b.igrant) (kept 7 refl b.dgrant)
    (kept 16 refl b.ireq) (kept 18 refl b.dreq) (kept 19 refl b.dwe) (kept 25 refl b.rw_)
