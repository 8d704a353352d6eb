-- A decimal number is read as what was written.
use Rattle.std.proofs.Common.{◌≡◌, ℕ, ◌+◌, ◌*◌, ◌/◌, ◌%◌, ◌^◌, ◌<◌, ◌≤◌, Bool, true, false, eqb, nat_eq, nat_lt}
use Rattle.std.proofs.Common.{nat_le}
use Rattle.std.proofs.Common.{◌&&◌, List, [], ◌∷◌, ◌++◌, length, codes, Option, Some, None, refl, ◌∙◌, ap, arith, lit<}
use Rattle.std.proofs.Common.{length-append, add-one}
use Rattle.std.specs.Char.{digit_value, is_digit}
use Rattle.std.specs.Fmt.{decimal}
use Rattle.std.specs.List.{list_all, starts_with}
use Rattle.std.specs.Option.{option_map}
use Rattle.std.proofs.Math.Nat.{mod-lt, pow-suc, pow-zero}
use Rattle.std.proofs.lemmas.Bool.{and_parts, eqb-true}
use Rattle.std.proofs.lemmas.Fmt.{decimal_by_steps, decimal_nonempty, length-decimal-le}
use Rattle.std.proofs.lemmas.List.Folds.{list_all-append}
use Rattle.ibx_text.specs.Number.{value_in, number_of}
use Rattle.ibx_asm.specs.declared.operand.Signed.{Signed}
use Rattle.ibx_asm.specs.Dis.{signed_text}
use Rattle.ibx_asm.specs.Operands.{signed_of}
use Rattle.ibx_asm.proofs.DataLines.{below, at_below}
use Rattle.ibx_asm.proofs.Shown.{is_fine}

-- a decimal digit: from `0` to `9`, a fine byte, and read as what it stands for
digit_test : ℕ → Bool
digit_test d = is_fine (48 + d) &&
    (is_digit (48 + d) 10 && (eqb (digit_value (48 + d)) d && (nat_le 48 (48 + d) && nat_lt (48 + d) 58)))

-- a byte from `0` to `9`
abbrev pub is_decimal : ℕ → Bool
is_decimal byte = nat_le 48 byte && nat_lt byte 58

-- what holds of the digit of a number below 10
digit_reads : (d : ℕ) → d < 10 → (is_fine (48 + d) ≡ true) × (is_digit (48 + d) 10 ≡ true) × (digit_value (48 + d) ≡ d)
    × (is_decimal (48 + d) ≡ true)
unfolding digit_test below
digit_reads d h =
    let all : digit_test d ≡ true = at_below digit_test 10 d refl h in
    let p = and_parts (is_fine (48 + d)) (is_digit (48 + d) 10 && (eqb (digit_value (48 + d)) d && is_decimal
    (48 + d))) all in
    let q = and_parts (is_digit (48 + d) 10) (eqb (digit_value (48 + d)) d && is_decimal (48 + d)) p.1 in
    let r = and_parts (eqb (digit_value (48 + d)) d) (is_decimal (48 + d)) q.1 in
    (p.0, q.0, eqb-true (digit_value (48 + d)) d r.0, r.1)

-- the value of digits, and of one more digit after them
snoc_value : (b n x d : ℕ) (o : Option ℕ) → option_map (λ r. x * b ^ (n + 1) + r) (option_map (λ v. v * b + d) o) ≡
    option_map (λ v. v * b + d) (option_map (λ r. x * b ^ n + r) o)
snoc_value b n x d None = refl
snoc_value b n x d (Some v) = ap Some (rw (add-one n, pow-suc b n) (omega arith))

-- the value of decimal digits and of one more
one_more : (ds : List ℕ) (g : ℕ) → list_all (λ x. is_digit x 10) ds ≡ true → is_digit g 10 ≡ true → value_in 10
    (ds ++ g ∷ []) ≡ option_map (λ v. v * 10 + digit_value g) (value_in 10 ds)
unfolding value_in
one_more [] g h k = rw (k, pow-zero) (ap Some (omega arith))
one_more (x ∷ ds) g h k =
    let p = and_parts (is_digit x 10) (list_all (λ x. is_digit x 10) ds) h in
    rw (p.0, length-append ds (g ∷ []), one_more ds g p.1 k) (snoc_value 10 (length ds) (digit_value x) (digit_value g)
    (value_in 10 ds))

-- what holds of a decimal number
pub record Reads (n : ℕ) (ds : List ℕ) : Type 0 where
  pub value : value_in 10 ds ≡ Some n
  pub fine : list_all is_fine ds ≡ true
  pub digits : list_all (λ x. is_digit x 10) ds ≡ true
  pub decimal : list_all is_decimal ds ≡ true

-- a number below 10 is one digit
first_digit : (n : ℕ) → n < 10 → Reads n ((48 + n) ∷ [])
unfolding value_in
first_digit n h =
    let d = digit_reads n h in
    record {
      value = rw (d.1, d.2, pow-zero) (ap Some (omega arith));
      fine = rw d.0 refl;
      digits = rw d.1 refl;
      decimal = rw d.3 refl;
    }

-- another is its tenth and one more digit
next_digit : (n : ℕ) (ds : List ℕ) → 10 ≤ n → Reads (n / 10) ds → Reads n (ds ++ ((48 + n % 10) ∷ []))
next_digit n ds h r =
    let d = digit_reads (n % 10) (mod-lt n (lit< tt)) in
    record {
      value = one_more ds (48 + n % 10) r.digits d.1 ∙ rw (r.value, d.2) (ap Some (omega arith));
      fine = list_all-append is_fine ds ((48 + n % 10) ∷ []) ∙ rw (r.fine, d.0) refl;
      digits = list_all-append (λ x. is_digit x 10) ds ((48 + n % 10) ∷ []) ∙ rw (r.digits, d.1) refl;
      decimal = list_all-append is_decimal ds ((48 + n % 10) ∷ []) ∙ rw (r.decimal, d.3) refl;
    }

-- a decimal number is read as what was written
pub decimal_reads : (n : ℕ) → n < 2 ^ 64 → Reads n (decimal n)
decimal_reads n h = decimal_by_steps Reads first_digit next_digit n h

-- no test passes beside one that fails
nothing : (b : Bool) → (b && false) ≡ false
nothing true = refl
nothing false = refl

-- no decimal number begins as a hexadecimal one
not_hexadecimal : (ds : List ℕ) → list_all is_decimal ds ≡ true → starts_with nat_eq ds (codes "0x") ≡ false
not_hexadecimal [] h = refl
not_hexadecimal (x ∷ []) h = grind arith
not_hexadecimal (x ∷ y ∷ ds) h =
    let p = and_parts (is_decimal x) (is_decimal y && list_all is_decimal ds) h in
    let q = and_parts (is_decimal y) (list_all is_decimal ds) p.1 in
    let other : nat_eq 120 y ≡ false = grind (arith, q.0) in
    rw other (nothing (nat_eq 48 x))

-- nor as a negative one
not_negative : (ds : List ℕ) → list_all is_decimal ds ≡ true → starts_with nat_eq ds (codes "-") ≡ false
not_negative [] h = refl
not_negative (x ∷ ds) h =
    let p = and_parts (is_decimal x) (list_all is_decimal ds) h in
    let other : nat_eq 45 x ≡ false = grind (arith, p.0) in
    rw other refl

-- a number of at most 10 digits
pub number_reads : (n : ℕ) → n < 10 ^ 10 → number_of (decimal n) ≡ Some n
unfolding number_of
number_reads n h =
    let word : n < 2 ^ 64 = omega (arith, h) in
    let r = decimal_reads n word in
    let some : nat_lt 0 (length (decimal n)) ≡ true = grind (arith, decimal_nonempty n word) in
    let few : nat_le (length (decimal n)) 10 ≡ true = grind (arith, length-decimal-le 10 n (lit< tt) h word) in
    rw (not_hexadecimal (decimal n) r.decimal, some, few) r.value

-- a number with this sign
with_sign : (b : Bool) (n : ℕ) → n < 10 ^ 10 → signed_of (signed_text (record { minus = b; size = n })) ≡ Some
    (record { minus = b; size = n })
unfolding signed_of signed_text
with_sign true n h = rw (number_reads n h) refl
with_sign false n h = rw (not_negative (decimal n) (decimal_reads n (omega (arith, h))).decimal, number_reads n h) refl

-- a number with its sign
pub signed_reads : (v : Signed) → v.size < 10 ^ 10 → signed_of (signed_text v) ≡ Some v
signed_reads v h = with_sign v.minus v.size h
