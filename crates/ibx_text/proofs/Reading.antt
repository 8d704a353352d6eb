-- Digits read one after the other stand for what positional notation says.
use Rattle.std.proofs.Common.{◌≡◌, ℕ, ◌+◌, ◌*◌, ◌^◌, ◌<◌, ◌≤◌, suc, Bool, true, false, List, [], ◌∷◌, length, get_or}
use Rattle.std.proofs.Common.{drop, Option, Some, None, refl, ap, arith, drop-cons, add-one, lit<, cond}
use Rattle.std.proofs.Math.Nat.{pow-zero, pow-suc, pow-le-pow_right, mul-le-mul}
use Rattle.std.specs.Char.{digit_value, is_digit}
use Rattle.std.specs.Option.{option_map}
use Rattle.ibx_text.specs.Number.{value_in}

-- digits of this value were read, and these are to come
abbrev pub read_on : ℕ → ℕ → List ℕ → Option ℕ
read_on base value more = option_map (λ rest. value * base ^ length more + rest) (value_in base more)

-- with no value before them, digits stand for themselves
nothing_before : (base n : ℕ) (rest : Option ℕ) → option_map (λ r. 0 * base ^ n + r) rest ≡ rest
nothing_before base n None = refl
nothing_before base n (Some r) = ap Some (omega arith)

-- positional notation: a digit of weight n is the lowest digit of a value that is read on with n digits to come
moved : (base value digit n : ℕ) (rest : Option ℕ)
    → option_map (λ r. value * base ^ suc n + r) (option_map (λ r. digit * base ^ n + r) rest)
    ≡ option_map (λ r. (value * base + digit) * base ^ n + r) rest
moved base value digit n None = refl
moved base value digit n (Some r) = ap Some (rw pow-suc (omega arith))

-- a digit that is read on goes into the value
step : (base value digit : ℕ) (more : List ℕ) → is_digit digit base ≡ true
    → read_on base value (digit ∷ more) ≡ read_on base (value * base + digit_value digit) more
unfolding value_in
step base value digit more h = rw h (moved base value (digit_value digit) (length more) (value_in base more))

-- what the reading of one digit gave: the digit's value, or that it is no digit
is_one : (b : Bool) (v d : ℕ) → Some d ≡ cond b (Some v) None → (b ≡ true) × (v ≡ d)
is_one true v d h = (refl, cc)
is_one false v d h = cc

-- a reading that gave nothing met a byte that is no digit of the base
is_none_of : (b : Bool) (v : ℕ) → None ≡ cond b (Some v) None → b ≡ false
is_none_of true v h = cc
is_none_of false v h = refl

-- the value of a byte that is a digit of the base
abbrev pub digit_of : ℕ → ℕ → Option ℕ
digit_of base byte = cond (is_digit byte base) (Some (digit_value byte)) None

-- a digit's value is below the base
pub digit_small : (base byte d : ℕ) → Some d ≡ digit_of base byte → d < base
digit_small base byte d h = let is = is_one (is_digit byte base) (digit_value byte) d h in grind (arith, is.0, is.1)

-- one step of the reading at index i: the digit goes into the value, and a byte that is no digit ends it
pub next_digit : (base value i d : ℕ) (digits : List ℕ) → i < length digits
    → Some d ≡ digit_of base (get_or digits i 0)
    → read_on base value (drop i digits) ≡ read_on base (value * base + d) (drop (i + 1) digits)
next_digit base value i d digits below h =
    let is = is_one (is_digit (get_or digits i 0) base) (digit_value (get_or digits i 0)) d h in
    rw (add-one, drop-cons digits i 0, ← is.1) (step base value (get_or digits i 0) (drop (suc i) digits) is.0)

-- one byte that is no digit takes the value from all of them, however many were read before it
pub no_digit : (base value i : ℕ) (digits : List ℕ) → i < length digits → None ≡ digit_of base (get_or digits i 0)
    → read_on base value (drop i digits) ≡ None
unfolding value_in
no_digit base value i digits below h =
    let is = is_none_of (is_digit (get_or digits i 0) base) (digit_value (get_or digits i 0)) h in
    rw (drop-cons digits i 0, is)

-- before the first step, and after the last
pub none_read : (base : ℕ) (digits : List ℕ) → read_on base 0 digits ≡ value_in base digits
none_read base digits = nothing_before base (length digits) (value_in base digits)

-- with no digit to come, the value that was read is the result
pub all_read : (base value : ℕ) → read_on base value [] ≡ Some value
unfolding value_in
all_read base value = ap Some (rw pow-zero (omega arith))

-- a value of i digits stays below 16 ^ i, so that ten digits fit 40 bits
pub stays_small : (value base digit i : ℕ) → value < 16 ^ i → base ≤ 16 → digit < base
    → value * base + digit < 16 ^ (i + 1)
stays_small value base digit i small low d =
    rw add-one (let product : (value + 1) * base ≤ 16 ^ i * 16 = mul-le-mul (omega arith) low in
    omega (arith, pow-suc 16 i))

-- ten digits of any base up to 16 make a value of at most 40 bits
pub small_fits : (value i : ℕ) → i ≤ 10 → value < 16 ^ i → value < 2 ^ 40
small_fits value i few small = omega (arith, pow-le-pow_right {n = 16} (lit< tt) {i = i} {j = 10} few)
