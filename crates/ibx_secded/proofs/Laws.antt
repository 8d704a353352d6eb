-- The laws of a code.
use Rattle.std.proofs.Common.{◌≡◌, ℕ, zero, suc, ◌+◌, ◌-◌, ◌*◌, ◌/◌, ◌%◌, ◌^◌, ◌<◌, ◌≤◌, List, [], ◌∷◌, length, get_or}
use Rattle.std.proofs.Common.{Bool, true, not, cond, eqb, ltb, arith, refl, sym, ◌∙◌, ap, add-one, inl, inr, ◌≢◌}
use Rattle.std.proofs.Common.{add_comm}
use Rattle.std.specs.Prelude.{◌&&◌, nat_lt}
use Rattle.std.specs.Int.{bit_at}
use Rattle.std.specs.Int.Bits.{bit_xor, xor_assoc, xor_self, xor_zero_r, xor_zero_l, xor_shr, xor_mod}
use Rattle.std.proofs.lemmas.Nat.{pow_pos, xor_lt, pow_below, shr_high, mod_low, shr_split, mod_below, pow-add}
use Rattle.std.proofs.lemmas.Nat.{shl-shr}
use Rattle.std.proofs.lemmas.Nat.{shr_below}
use Rattle.std.proofs.Math.Nat.{mul-mod_left, mod-eq_of_lt, div-eq_of_lt}
use Rattle.std.proofs.lemmas.Nat.Bits.{bit_at-lt, bit_at_xor, bit_at-pow_same, bit_at-pow_other}
use Rattle.std.proofs.lemmas.Bool.{ltb-true, lt-ltb, le-ltb, eqb-false, not-true, and_parts, cases_eq, cases_lt}
use Rattle.std.proofs.lemmas.Bool.{cases_order}
use Rattle.ibx_secded.specs.Code.{columns, column, checks, constant, payload_of, syndrome_of, encode_of, rewrite_of}
use Rattle.ibx_secded.specs.Code.{IsCode, IsCodeword}
use Rattle.ibx_secded.proofs.Columns.{columns_4, columns_5, columns_6, columns_7, columns_8, by_height, length-columns}
use Rattle.ibx_secded.proofs.Words.{xor_cancel, xor_swap, xor_zero, xor_same, cat_lt}

-- ---- the columns fit

-- each number of a list is below n
unfoldable all_below : ℕ → List ℕ → Bool
all_below n [] = true
all_below n (x ∷ xs) = nat_lt x n && all_below n xs

-- each entry of a list of numbers below n is below n, and so is the 0 past its end
all_below_at : (n : ℕ) (xs : List ℕ) → all_below n xs ≡ true → 0 < n → (i : ℕ) → get_or xs i 0 < n
unfolding all_below
all_below_at n [] e h i = h
all_below_at n (x ∷ xs) e h zero = ltb-true x n (and_parts (nat_lt x n) (all_below n xs) e).0
all_below_at n (x ∷ xs) e h (suc i) = all_below_at n xs (and_parts (nat_lt x n) (all_below n xs) e).1 h i

-- at each height the columns have no more bits than the height
columns_fit : (h : ℕ) → 4 ≤ h → h ≤ 8 → all_below (2 ^ h) (columns h) ≡ true
unfolding all_below
columns_fit =
    by_height (λ h. all_below (2 ^ h) (columns h) ≡ true)
    (ap (all_below 16) columns_4) (ap (all_below 32) columns_5) (ap (all_below 64) columns_6)
    (ap (all_below 128) columns_7) (ap (all_below 256) columns_8)

-- a column has no more bits than there are check bits
pub column-lt : (h : ℕ) → 4 ≤ h → h ≤ 8 → (i : ℕ) → column h i < 2 ^ h
unfolding column
column-lt h l m i = all_below_at (2 ^ h) (columns h) (columns_fit h l m) (pow_pos h) i

-- a number that a bit selects, or else 0, stays below the number's bound
bit_times : (b c m : ℕ) → b < 2 → c < m → b * c < m
bit_times zero c m hb hc = omega arith
bit_times (suc zero) c m hb hc = omega arith
bit_times (suc (suc b)) c m hb hc = absurd (omega arith)

-- a plain check has no more bits than the columns
pub checks-lt : (h : ℕ) → 4 ≤ h → h ≤ 8 → (n v : ℕ) → checks h n v < 2 ^ h
unfolding checks
checks-lt h l m zero v = pow_pos h
checks-lt h l m (suc i) v =
    xor_lt h (checks h i v) (bit_at v i * column h i) (checks-lt h l m i v) (bit_times (bit_at v i) (column h i)
    (2 ^ h) (bit_at-lt v i) (column-lt h l m i))

-- the constant has no more bits than there are check bits
pub constant-lt : (h : ℕ) → constant h < 2 ^ h
constant-lt h = mod_below 170 (2 ^ h) (pow_pos h)

-- the plain check of no bits is 0, as the loop begins
pub checks-none : (h v : ℕ) → checks h 0 v ≡ 0
unfolding checks
checks-none h v = refl

-- one bit more joins its column to the check by XOR, where it is set
pub checks-more : (h i v : ℕ) → checks h (i + 1) v ≡ bit_xor (checks h i v) (bit_at v i * column h i)
unfolding checks
checks-more h i v = rw add-one refl

-- ---- words of a payload and stored check bits

module _ (k h : ℕ) where
  -- the syndrome of a payload below stored check bits, from these two parts
  pub syndrome_of-cat : (s v : ℕ) → v < 2 ^ k → syndrome_of k h (s * 2 ^ k + v) ≡ bit_xor (bit_xor s (constant h))
      (checks h k v)
  unfolding syndrome_of
  syndrome_of-cat s v hv = rw (shr_high s k v hv, mod_low s k v hv) refl

  -- an encoded payload has no wrong check bit
  pub syndrome_of-encode : (v : ℕ) → v < 2 ^ k → syndrome_of k h (encode_of k h v) ≡ 0
  unfolding encode_of
  syndrome_of-encode v hv =
      syndrome_of-cat (bit_xor (checks h k v) (constant h)) v hv
      ∙ ap (λ (x : ℕ). bit_xor x (checks h k v)) (xor_cancel (checks h k v) (constant h)) ∙ xor_self (checks h k v)

  -- a codeword gives back the payload that was encoded
  pub payload_of-encode : (v : ℕ) → v < 2 ^ k → payload_of k (encode_of k h v) ≡ v
  unfolding encode_of
  payload_of-encode v hv = mod_low (bit_xor (checks h k v) (constant h)) k v hv

  -- a word without a fault is the word of its payload
  pub encode_of-payload : (w : ℕ) → syndrome_of k h w ≡ 0 → w ≡ encode_of k h (payload_of k w)
  unfolding syndrome_of encode_of
  encode_of-payload w e =
      let sides : bit_xor (w / 2 ^ k) (constant h) ≡ checks h k (w % 2 ^ k) = xor_zero
      (bit_xor (w / 2 ^ k) (constant h)) (checks h k (w % 2 ^ k)) e in
      let stored : w / 2 ^ k ≡ bit_xor (checks h k (w % 2 ^ k)) (constant h) = sym
      (xor_cancel (w / 2 ^ k) (constant h)) ∙ ap (λ (x : ℕ). bit_xor x (constant h)) sides in
      sym (shr_split w k) ∙ ap (λ (x : ℕ). x * 2 ^ k + w % 2 ^ k) stored

  -- a codeword, in the words of the check matrix
  pub codeword : (w : ℕ) → syndrome_of k h w ≡ 0 → IsCodeword k h w
  unfolding syndrome_of
  codeword w e = xor_zero (bit_xor (w / 2 ^ k) (constant h)) (checks h k (w % 2 ^ k)) e

  -- a codeword has the syndrome 0
  pub syndrome_of-codeword : (w : ℕ) → IsCodeword k h w → syndrome_of k h w ≡ 0
  unfolding syndrome_of
  syndrome_of-codeword w e = rw e (xor_self (checks h k (w % 2 ^ k)))

  -- the word whose check bits are those of its payload with the bits of x wrong
  pub syndrome_of-rewrite : (x v : ℕ) → v < 2 ^ k → syndrome_of k h (bit_xor (bit_xor x (constant h)) (checks h k v) *
      2 ^ k + v) ≡ x
  syndrome_of-rewrite x v hv =
      syndrome_of-cat (bit_xor (bit_xor x (constant h)) (checks h k v)) v hv
      ∙ ap (λ (y : ℕ). bit_xor y (checks h k v)) (xor_swap (bit_xor x (constant h)) (checks h k v) (constant h) ∙ ap
      (λ (y : ℕ). bit_xor y (checks h k v)) (xor_cancel x (constant h)))
      ∙ xor_cancel x (checks h k v)

-- ---- one bit flipped

-- toggling a bit joins its column by XOR once more, which puts it in or takes it out
toggled : (b c : ℕ) → b < 2 → (b + 1) % 2 * c ≡ bit_xor (b * c) c
toggled zero c h = let e : 0 * c ≡ 0 = omega arith in rw e (omega (arith, xor_zero_l c))
toggled (suc zero) c h =
    let one : 1 * c ≡ c = omega arith in
    let none : (1 + 1) % 2 * c ≡ 0 = omega arith in
    none ∙ sym (xor_self c) ∙ ap (λ (x : ℕ). bit_xor x c) (sym one)
toggled (suc (suc b)) c h = absurd (omega arith)

-- a flip above the bits that are checked leaves the check
checks-flip_above : (h n v b : ℕ) → n ≤ b → checks h n (bit_xor v (2 ^ b)) ≡ checks h n v
unfolding checks
checks-flip_above h zero v b le = refl
checks-flip_above h (suc i) v b le =
    let same : bit_at (bit_xor v (2 ^ b)) i ≡ bit_at v i = bit_at_xor v (2 ^ b) i ∙ omega
    (arith, bit_at-pow_other b i (omega arith), bit_at-lt v i) in
    rw (checks-flip_above h i v b (omega arith), same) refl

-- a flip of a checked bit changes the check by that bit's column
pub checks-flip : (h n v b : ℕ) → b < n → checks h n (bit_xor v (2 ^ b)) ≡ bit_xor (checks h n v) (column h b)
unfolding checks
checks-flip h zero v b lt = absurd (omega arith)
checks-flip h (suc i) v b lt =
    elim (cases_eq i b) [
      | inl e ↦
          let here : bit_at (bit_xor v (2 ^ b)) i ≡ (bit_at v i + 1) % 2 = bit_at_xor v (2 ^ b) i ∙ rw e
          (ap (λ (x : ℕ). (bit_at v b + x) % 2) (bit_at-pow_same b)) in
          rw (checks-flip_above h i v b (omega arith), here, toggled (bit_at v i) (column h i) (bit_at-lt v i))
          (sym (xor_assoc (checks h i v) (bit_at v i * column h i) (column h i)) ∙ ap
          (λ (x : ℕ). bit_xor (bit_xor (checks h i v) (bit_at v i * column h i)) (column h x)) e)
      | inr ne ↦
          let same : bit_at (bit_xor v (2 ^ b)) i ≡ bit_at v i = bit_at_xor v (2 ^ b) i ∙ omega
          (arith, bit_at-pow_other b i ne, bit_at-lt v i) in
          rw (checks-flip h i v b (omega (arith, ne)), same) (xor_swap (checks h i v) (column h b)
          (bit_at v i * column h i))
    ]

-- ---- the columns are apart, and none is a power of two

-- a number isn't in a list
unfoldable is_new : ℕ → List ℕ → Bool
is_new n [] = true
is_new n (x ∷ xs) = not (eqb n x) && is_new n xs

-- no number is twice in a list
unfoldable distinct : List ℕ → Bool
unfolding is_new
distinct [] = true
distinct (x ∷ xs) = is_new x xs && distinct xs

-- no power of two below 2^k is in a list
unfoldable no_power : ℕ → List ℕ → Bool
unfolding is_new
no_power zero xs = true
no_power (suc k) xs = is_new (2 ^ k) xs && no_power k xs

-- a number that is new to a list is none of its entries
is_new_at : (n : ℕ) (xs : List ℕ) → is_new n xs ≡ true → (i : ℕ) → i < length xs → n ≢ get_or xs i 0
unfolding is_new
is_new_at n [] e i lt = absurd (omega arith)
is_new_at n (x ∷ xs) e zero lt = eqb-false n x (not-true (eqb n x) (and_parts (not (eqb n x)) (is_new n xs) e).0)
is_new_at n (x ∷ xs) e (suc i) lt = is_new_at n xs (and_parts (not (eqb n x)) (is_new n xs) e).1 i (omega arith)

-- an earlier and a later entry of a distinct list differ
distinct_at : (xs : List ℕ) → distinct xs ≡ true → (i j : ℕ) → i < j → j < length xs → get_or xs i 0 ≢ get_or xs j 0
unfolding distinct
distinct_at [] e i j lt below = absurd (omega arith)
distinct_at (x ∷ xs) e i zero lt below = absurd (omega arith)
distinct_at (x ∷ xs) e zero (suc j) lt below = is_new_at x xs (and_parts (is_new x xs) (distinct xs) e).0 j
    (omega arith)
distinct_at (x ∷ xs) e (suc i) (suc j) lt below = distinct_at xs (and_parts (is_new x xs) (distinct xs) e).1 i j
    (omega arith) (omega arith)

-- a list that passes this test has none of the first n powers of two as an entry
no_power_at : (n : ℕ) (xs : List ℕ) → no_power n xs ≡ true → (k : ℕ) → k < n → (i : ℕ) → i < length xs → 2 ^ k ≢ get_or
    xs i 0
unfolding no_power
no_power_at zero xs e k lt i below = absurd (omega arith)
no_power_at (suc n) xs e k lt i below =
    elim (cases_eq k n) [
      | inl same ↦ rw same (is_new_at (2 ^ n) xs (and_parts (is_new (2 ^ n) xs) (no_power n xs) e).0 i below)
      | inr other ↦ no_power_at n xs (and_parts (is_new (2 ^ n) xs) (no_power n xs) e).1 k (omega (arith, other)) i
          below
    ]

-- apart, none 0 and none a power of two
sound : ℕ → List ℕ → Bool
sound h xs = distinct xs && (is_new 0 xs && no_power h xs)

-- at each height the columns pass these tests, by their computed lists
columns_sound : (h : ℕ) → 4 ≤ h → h ≤ 8 → sound h (columns h) ≡ true
unfolding sound distinct is_new no_power
columns_sound =
    by_height (λ h. sound h (columns h) ≡ true)
    (ap (sound 4) columns_4) (ap (sound 5) columns_5) (ap (sound 6) columns_6) (ap (sound 7) columns_7)
    (ap (sound 8) columns_8)

module _ (h : ℕ) (l : 4 ≤ h) (m : h ≤ 8) where
  -- the tests in two: the columns are distinct, and what is tested of each one alone
  parts : (distinct (columns h) ≡ true) × ((is_new 0 (columns h) && no_power h (columns h)) ≡ true)
  unfolding sound
  parts = and_parts (distinct (columns h)) (is_new 0 (columns h) && no_power h (columns h)) (columns_sound h l m)

  -- the two tests of each column alone: none is 0, and none is a power of two
  others : (is_new 0 (columns h) ≡ true) × (no_power h (columns h) ≡ true)
  others = and_parts (is_new 0 (columns h)) (no_power h (columns h)) parts.1

  -- no column is 0, so that one flipped payload bit is told
  pub column-nonzero : (i : ℕ) → i < 2 ^ (h - 1) - h → column h i ≢ 0
  unfolding column
  column-nonzero i lt e = is_new_at 0 (columns h) others.0 i (omega (arith, length-columns h l m)) (sym e)

  -- no column is a single check bit: a payload bit and a check bit never look alike
  pub column-power : (k i : ℕ) → k < h → i < 2 ^ (h - 1) - h → 2 ^ k ≢ column h i
  unfolding column
  column-power k i below lt = no_power_at h (columns h) others.1 k below i (omega (arith, length-columns h l m))

  -- a column differs from each later one
  column-apart_below : (i j : ℕ) → i < j → j < 2 ^ (h - 1) - h → column h i ≢ column h j
  unfolding column
  column-apart_below i j lt below = distinct_at (columns h) parts.0 i j lt (omega (arith, length-columns h l m))

  -- two payload bits have two columns
  pub column-apart : (i j : ℕ) → i ≢ j → i < 2 ^ (h - 1) - h → j < 2 ^ (h - 1) - h → column h i ≢ column h j
  column-apart i j ne bi bj e =
      elim (cases_order i j) [
        | inl same ↦ ne same
        | inr (inl lt) ↦ column-apart_below i j lt bj e
        | inr (inr gt) ↦ column-apart_below j i gt bi (sym e)
      ]

-- a power of two differs from each higher one
pow-apart_below : (i j : ℕ) → i < j → 2 ^ i ≢ 2 ^ j
pow-apart_below i j lt e = absurd (omega (arith, pow_below i j lt))

-- two check bits are two powers of two
pow-apart : (i j : ℕ) → i ≢ j → 2 ^ i ≢ 2 ^ j
pow-apart i j ne e =
    elim (cases_order i j) [
      | inl same ↦ ne same
      | inr (inl lt) ↦ pow-apart_below i j lt e
      | inr (inr gt) ↦ pow-apart_below j i gt (sym e)
    ]

-- ---- what a flip does to the syndrome

-- what flipping bit b does to the syndrome: a payload bit's column, or the check bit itself
effect : ℕ → ℕ → ℕ → ℕ
effect k h b = cond (ltb b k) (column h b) (2 ^ (b - k))

-- a payload bit acts by its column
effect-low : (k h b : ℕ) → b < k → effect k h b ≡ column h b
unfolding effect
effect-low k h b lt = rw (lt-ltb b k lt) refl

-- a check bit acts on itself alone
effect-high : (k h b : ℕ) → k ≤ b → effect k h b ≡ 2 ^ (b - k)
unfolding effect
effect-high k h b le = rw (le-ltb b k le) refl

-- a flip of any bit changes the syndrome by that bit's effect
syndrome_of-flip : (k h w b : ℕ) → syndrome_of k h (bit_xor w (2 ^ b)) ≡ bit_xor (syndrome_of k h w) (effect k h b)
unfolding syndrome_of
syndrome_of-flip k h w b =
    elim (cases_lt b k) [
      | inl lt ↦
          let small : 2 ^ b < 2 ^ k = pow_below b k lt in
          let above : bit_xor w (2 ^ b) / 2 ^ k ≡ w / 2 ^ k = xor_shr w (2 ^ b) k ∙ rw (div-eq_of_lt small)
          (xor_zero_r (w / 2 ^ k)) in
          let low : bit_xor w (2 ^ b) % 2 ^ k ≡ bit_xor (w % 2 ^ k) (2 ^ b) = xor_mod w (2 ^ b) k ∙ ap
          (λ (x : ℕ). bit_xor (w % 2 ^ k) x) (mod-eq_of_lt small) in
          rw (above, low, checks-flip h k (w % 2 ^ k) b lt, effect-low k h b lt)
          (sym (xor_assoc (bit_xor (w / 2 ^ k) (constant h)) (checks h k (w % 2 ^ k)) (column h b)))
      | inr le ↦
          let whole : 2 ^ b ≡ 2 ^ (b - k) * 2 ^ k = ap (λ (x : ℕ). 2 ^ x) (omega arith) ∙ pow-add 2 (b - k) k in
          let above : bit_xor w (2 ^ b) / 2 ^ k ≡ bit_xor (w / 2 ^ k) (2 ^ (b - k)) =
          xor_shr w (2 ^ b) k ∙ ap (λ (x : ℕ). bit_xor (w / 2 ^ k) x) (ap (λ (x : ℕ). x / 2 ^ k) whole ∙ shl-shr
          (2 ^ (b - k)) k) in
          let low : bit_xor w (2 ^ b) % 2 ^ k ≡ w % 2 ^ k =
          xor_mod w (2 ^ b) k ∙ ap (λ (x : ℕ). bit_xor (w % 2 ^ k) x) (ap (λ (x : ℕ). x % 2 ^ k) whole ∙ mul-mod_left
          (2 ^ (b - k)) (2 ^ k)) ∙ xor_zero_r (w % 2 ^ k) in
          rw (above, low, effect-high k h b le)
          (ap (λ (x : ℕ). bit_xor x (checks h k (w % 2 ^ k))) (xor_swap (w / 2 ^ k) (2 ^ (b - k)) (constant h))
          ∙ xor_swap (bit_xor (w / 2 ^ k) (constant h)) (2 ^ (b - k)) (checks h k (w % 2 ^ k)))
    ]

-- a flipped payload bit changes the syndrome by its column
pub payload_flip : (k h w b : ℕ) → b < k → syndrome_of k h (bit_xor w (2 ^ b)) ≡ bit_xor (syndrome_of k h w)
    (column h b)
payload_flip k h w b lt =
    syndrome_of-flip k h w b ∙ ap (λ (x : ℕ). bit_xor (syndrome_of k h w) x) (effect-low k h b lt)

-- a flipped check bit changes that bit of the syndrome and no other
pub check_flip : (k h w b : ℕ) → syndrome_of k h (bit_xor w (2 ^ (k + b))) ≡ bit_xor (syndrome_of k h w) (2 ^ b)
check_flip k h w b =
    let place : k + b - k ≡ b = omega arith in
    syndrome_of-flip k h w (k + b)
    ∙ ap (λ (x : ℕ). bit_xor (syndrome_of k h w) x) (effect-high k h (k + b) (omega arith) ∙ ap (λ (x : ℕ). 2 ^ x)
    place)

module _ (k h : ℕ) (code : IsCode k h) where
  -- each bit of a word has an effect when it is flipped
  effect-nonzero : (b : ℕ) → b < k + h → effect k h b ≢ 0
  effect-nonzero b lt e =
      elim (cases_lt b k) [
        | inl low ↦ column-nonzero h code.least code.most b (omega (arith, code.columns))
            (sym (effect-low k h b low) ∙ e)
        | inr high ↦ absurd (omega (arith, pow_pos (b - k), sym (effect-high k h b high) ∙ e))
      ]

  -- no two bits of a word have the same effect
  effect-apart : (a b : ℕ) → a < k + h → b < k + h → a ≢ b → effect k h a ≢ effect k h b
  effect-apart a b la lb ne e =
      elim (cases_lt a k) [
        | inl a-low ↦ elim (cases_lt b k) [
          | inl b-low ↦ column-apart h code.least code.most a b ne (omega (arith, code.columns))
              (omega (arith, code.columns)) (sym (effect-low k h a a-low) ∙ e ∙ effect-low k h b b-low)
          | inr b-high ↦ column-power h code.least code.most (b - k) a (omega arith) (omega (arith, code.columns))
              (sym (effect-high k h b b-high) ∙ sym e ∙ effect-low k h a a-low)
        ]
        | inr a-high ↦ elim (cases_lt b k) [
          | inl b-low ↦ column-power h code.least code.most (a - k) b (omega arith) (omega (arith, code.columns))
              (sym (effect-high k h a a-high) ∙ e ∙ effect-low k h b b-low)
          | inr b-high ↦ pow-apart (a - k) (b - k) (λ same. ne (omega (arith, same))) (sym (effect-high k h a a-high) ∙
              e ∙ effect-high k h b b-high)
        ]
      ]

  -- one flipped bit is told
  pub one_flip : (w b : ℕ) → b < k + h → syndrome_of k h (bit_xor w (2 ^ b)) ≢ syndrome_of k h w
  one_flip w b lt e = effect-nonzero b lt (xor_same (syndrome_of k h w) (effect k h b) (sym (syndrome_of-flip k h w b)
      ∙ e))

  -- two flipped bits are told
  pub two_flips : (w a b : ℕ) → a < k + h → b < k + h → a ≢ b → syndrome_of k h (bit_xor (bit_xor w (2 ^ a)) (2 ^ b)) ≢
      syndrome_of k h w
  two_flips w a b la lb ne e =
      let both : bit_xor (syndrome_of k h w) (bit_xor (effect k h a) (effect k h b)) ≡ syndrome_of k h w =
      sym (xor_assoc (syndrome_of k h w) (effect k h a) (effect k h b)) ∙ ap (λ (x : ℕ). bit_xor x (effect k h b))
      (sym (syndrome_of-flip k h w a)) ∙ sym (syndrome_of-flip k h (bit_xor w (2 ^ a)) b) ∙ e in
      effect-apart a b la lb ne (xor_zero (effect k h a) (effect k h b)
      (xor_same (syndrome_of k h w) (bit_xor (effect k h a) (effect k h b)) both))

-- ---- what the code computes

-- check and constant joined by XOR, above the payload, make its codeword
pub encoded : (k h v check const w : ℕ) → check ≡ checks h k v → const ≡ constant h → w ≡ bit_xor check const * 2 ^ k +
    v → w ≡ encode_of k h v
unfolding encode_of
encoded k h v check const w a b e = e ∙ rw (a, b) refl

-- stored check bits, constant and the payload's check joined by XOR are the syndrome
pub told : (k h w check const p : ℕ) → p ≡ payload_of k w → check ≡ checks h k p → const ≡ constant h → bit_xor
    (bit_xor (w / 2 ^ k) const) check ≡ syndrome_of k h w
unfolding syndrome_of
told k h w check const p a b e = rw (b, e, a) refl

-- the payload of a word is what stands below its stored check bits
pub payload_of-cat : (k s v : ℕ) → v < 2 ^ k → payload_of k (s * 2 ^ k + v) ≡ v
payload_of-cat k s v hv = mod_low s k v hv

-- the old syndrome joined into the new check bits, above the new payload, makes the rewritten word
pub rewritten : (k h old x v check const w : ℕ) → x ≡ syndrome_of k h old → check ≡ checks h k v → const ≡ constant h →
    w ≡ bit_xor (bit_xor x const) check * 2 ^ k + v → w ≡ rewrite_of k h old v
unfolding rewrite_of
rewritten k h old x v check const w d a b e = e ∙ rw (d, a, b) refl

-- a rewritten word has the old syndrome, so that what was wrong stays told
pub syndrome_of-rewrite_of : (k h old v : ℕ) → v < 2 ^ k → syndrome_of k h (rewrite_of k h old v) ≡ syndrome_of k h old
unfolding rewrite_of
syndrome_of-rewrite_of k h old v hv = syndrome_of-rewrite k h (syndrome_of k h old) v hv

-- a rewritten word has the new payload
pub payload_of-rewrite_of : (k h old v : ℕ) → v < 2 ^ k → payload_of k (rewrite_of k h old v) ≡ v
unfolding rewrite_of
payload_of-rewrite_of k h old v hv = payload_of-cat k (bit_xor (bit_xor (syndrome_of k h old) (constant h))
    (checks h k v)) v hv

-- ---- the sizes of what the code computes

-- a syndrome has no more bits than there are check bits
pub syndrome_of-lt : (k h w : ℕ) → IsCode k h → w < 2 ^ (k + h) → syndrome_of k h w < 2 ^ h
unfolding syndrome_of
syndrome_of-lt k h w code fits =
    let above : w / 2 ^ k < 2 ^ h = shr_below w h k (rw add_comm fits) in
    xor_lt h (bit_xor (w / 2 ^ k) (constant h)) (checks h k (w % 2 ^ k)) (xor_lt h (w / 2 ^ k) (constant h) above
    (constant-lt h)) (checks-lt h code.least code.most k (w % 2 ^ k))

-- a codeword has its payload bits and its check bits, and none above them
pub encode_of-lt : (k h v : ℕ) → IsCode k h → v < 2 ^ k → encode_of k h v < 2 ^ (k + h)
unfolding encode_of
encode_of-lt k h v code fits =
    cat_lt (bit_xor (checks h k v) (constant h)) v k h (xor_lt h (checks h k v) (constant h)
    (checks-lt h code.least code.most k v) (constant-lt h)) fits

-- a rewritten word has no more bits than a codeword
pub rewrite_of-lt : (k h old v : ℕ) → IsCode k h → old < 2 ^ (k + h) → v < 2 ^ k → rewrite_of k h old v < 2 ^ (k + h)
unfolding rewrite_of
rewrite_of-lt k h old v code old_fits fits =
    cat_lt (bit_xor (bit_xor (syndrome_of k h old) (constant h)) (checks h k v)) v k h
    (xor_lt h (bit_xor (syndrome_of k h old) (constant h)) (checks h k v) (xor_lt h (syndrome_of k h old) (constant h)
    (syndrome_of-lt k h old code old_fits) (constant-lt h)) (checks-lt h code.least code.most k v))
    fits
