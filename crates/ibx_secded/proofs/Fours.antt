-- The plain check by tables, four bits of the payload at a time.
use Rattle.std.proofs.Common.{◌≡◌, ℕ, zero, suc, ◌+◌, ◌*◌, ◌/◌, ◌%◌, ◌^◌, ◌<◌, List, get_or, [], map, arith, refl, sym}
use Rattle.std.proofs.Common.{◌∙◌, ap}
use Rattle.std.specs.Int.{bit_at}
use Rattle.std.specs.List.{range_with_len}
use Rattle.std.proofs.lemmas.List.FromFn.{get_or-map-range_with_len}
use Rattle.std.specs.Int.Bits.{bit_xor, xor_self, xor_zero_r, xor_zero_l, xor_assoc}
use Rattle.std.proofs.lemmas.Nat.{xor_block, mod_below, mod_low, shr_split, pow_pos, pow-add}
use Rattle.std.proofs.lemmas.Nat.Bits.{bit_at-lt, bit_at_xor}
use Rattle.ibx_secded.specs.Code.{checks, column, columns, entry_of}
use Rattle.ibx_secded.proofs.Laws.{checks-lt}
use Rattle.ibx_secded.proofs.Words.{xor_swap, cat_lt}

-- ---- the plain check is linear

-- one column, of the XOR of two bits
column_xor : (a b c : ℕ) → a < 2 → b < 2 → (a + b) % 2 * c ≡ bit_xor (a * c) (b * c)
column_xor zero zero c la lb = let none : 0 * c ≡ 0 = omega arith in rw none (sym (xor_self 0))
column_xor zero (suc zero) c la lb = let none : 0 * c ≡ 0 = omega arith in rw none (sym (xor_zero_l (1 * c)))
column_xor (suc zero) zero c la lb = let none : 0 * c ≡ 0 = omega arith in rw none (sym (xor_zero_r (1 * c)))
column_xor (suc zero) (suc zero) c la lb =
    let none : (1 + 1) % 2 * c ≡ 0 = omega arith in none ∙ sym (xor_self (1 * c))
column_xor zero (suc (suc b)) c la lb = absurd (omega arith)
column_xor (suc zero) (suc (suc b)) c la lb = absurd (omega arith)
column_xor (suc (suc a)) b c la lb = absurd (omega arith)

-- the XOR of two pairs, regrouped
xor_pairs : (a b c d : ℕ) → bit_xor (bit_xor a b) (bit_xor c d) ≡ bit_xor (bit_xor a c) (bit_xor b d)
xor_pairs a b c d = sym (xor_assoc (bit_xor a b) c d) ∙ ap (λ (x : ℕ). bit_xor x d) (xor_swap a b c) ∙ xor_assoc
    (bit_xor a c) b d

-- the plain check of an XOR is the XOR of the plain checks
pub checks-xor : (h n v w : ℕ) → checks h n (bit_xor v w) ≡ bit_xor (checks h n v) (checks h n w)
unfolding checks
checks-xor h zero v w = sym (xor_self 0)
checks-xor h (suc i) v w =
    rw (
      checks-xor h i v w,
      bit_at_xor v w i,
      column_xor (bit_at v i) (bit_at w i) (column h i) (bit_at-lt v i)
          (bit_at-lt w i),
    )
    (xor_pairs (checks h i v) (checks h i w) (bit_at v i * column h i) (bit_at w i * column h i))

-- ---- a payload is its fours

-- the lowest four bits of a number above a place join the rest below it
regrouped : (a b m r : ℕ) → (a * 16 + b) * m + r ≡ a * (m * 16) + (b * m + r)
regrouped a b m r = omega arith

-- the low bits of a number are its lowest bits and the four above them
low_fours : (v k : ℕ) → v % 2 ^ (k + 4) ≡ v / 2 ^ k % 16 * 2 ^ k + v % 2 ^ k
low_fours v k =
    let four : v / 2 ^ k % 16 < 2 ^ 4 = mod_below (v / 2 ^ k) 16 (omega arith) in
    let fits : v / 2 ^ k % 16 * 2 ^ k + v % 2 ^ k < 2 ^ (k + 4) = cat_lt (v / 2 ^ k % 16) (v % 2 ^ k) k 4 four
    (mod_below v (2 ^ k) (pow_pos k)) in
    let split : v / 2 ^ k ≡ v / 2 ^ k / 16 * 16 + v / 2 ^ k % 16 = omega arith in
    let parts : v ≡ v / 2 ^ k / 16 * 2 ^ (k + 4) + (v / 2 ^ k % 16 * 2 ^ k + v % 2 ^ k) =
    sym (shr_split v k) ∙ ap (λ (x : ℕ). x * 2 ^ k + v % 2 ^ k) split ∙ regrouped (v / 2 ^ k / 16) (v / 2 ^ k % 16)
    (2 ^ k) (v % 2 ^ k)
    ∙ ap (λ (x : ℕ). v / 2 ^ k / 16 * x + (v / 2 ^ k % 16 * 2 ^ k + v % 2 ^ k)) (sym (pow-add 2 k 4)) in
    ap (λ (x : ℕ). x % 2 ^ (k + 4)) parts ∙ mod_low (v / 2 ^ k / 16) (k + 4) (v / 2 ^ k % 16 * 2 ^ k + v % 2 ^ k) fits

-- four bits above others are joined to them by XOR
xor_above : (f r k : ℕ) → r < 2 ^ k → bit_xor r (f * 2 ^ k) ≡ f * 2 ^ k + r
xor_above f r k lt =
    let pair : bit_xor (0 * 2 ^ k + r) (f * 2 ^ k + 0) ≡ bit_xor 0 f * 2 ^ k + bit_xor r 0 = xor_block k 0 f r 0 lt
    (pow_pos k) in
    let left : 0 * 2 ^ k + r ≡ r = omega arith in
    let right : f * 2 ^ k + 0 ≡ f * 2 ^ k = omega arith in
    rw (left, right, xor_zero_l f, xor_zero_r r) at pair

-- one more table
pub fours-step : (h n v place check entry : ℕ) → check ≡ checks h n (v % 2 ^ (4 * place)) → entry ≡ entry_of n h place
    (v / 2 ^ (4 * place) % 16) → bit_xor check entry ≡ checks h n (v % 2 ^ (4 * (place + 1)))
fours-step h n v place check entry a b =
    let next : 4 * (place + 1) ≡ 4 * place + 4 = omega arith in
    let whole : v % 2 ^ (4 * (place + 1)) ≡ bit_xor (v % 2 ^ (4 * place))
    (v / 2 ^ (4 * place) % 16 * 2 ^ (4 * place)) =
    ap (λ (x : ℕ). v % 2 ^ x) next ∙ low_fours v (4 * place) ∙ sym (xor_above (v / 2 ^ (4 * place) % 16)
    (v % 2 ^ (4 * place)) (4 * place) (mod_below v (2 ^ (4 * place)) (pow_pos (4 * place)))) in
    rw (a, b, whole) (sym (checks-xor h n (v % 2 ^ (4 * place)) (v / 2 ^ (4 * place) % 16 * 2 ^ (4 * place))))

-- no table yet
pub fours-none : (h n v : ℕ) → 0 ≡ checks h n (v % 1)
fours-none h n v =
    let none : v % 1 ≡ 0 = omega arith in
    rw none (sym (checks-xor h n 0 0 ∙ xor_self (checks h n 0)))

pub ruleset fours = (fours-none, fours-step, checks-lt)

-- ---- the entries, computed

-- the plain check by a list of columns
unfoldable pub by_list : List ℕ → ℕ → ℕ → ℕ
by_list cs zero v = 0
by_list cs (suc i) v = bit_xor (by_list cs i v) (bit_at v i * get_or cs i 0)

-- the plain check is the one by the list of the height's columns
by_list-is : (h n v : ℕ) → checks h n v ≡ by_list (columns h) n v
unfolding checks column by_list
by_list-is h zero v = refl
by_list-is h (suc i) v = rw (by_list-is h i v) refl

-- the tables by a list of columns
abbrev pub tables : List ℕ → ℕ → ℕ → List (List ℕ)
tables cs n places = map (λ place. map (λ four. by_list cs n (four * 2 ^ (4 * place))) (range_with_len 0 16))
    (range_with_len 0 places)

-- an entry of tables that are computed
pub entry-at : (h n places : ℕ) (cs : List ℕ) (ts : List (List ℕ)) → columns h ≡ cs → ts ≡ tables cs n places →
    (place four : ℕ) → place < places → four < 16 → get_or (get_or ts place []) four 0 ≡ entry_of n h place four
entry-at h n places cs ts is computed place four lp lf =
    rw (
      computed,
      get_or-map-range_with_len (λ place. map (λ four. by_list cs n (four * 2 ^ (4 * place))) (range_with_len 0 16)) 0
          places place place [] lp (omega arith),
      get_or-map-range_with_len (λ four. by_list cs n (four * 2 ^ (4 * place))) 0 16 four four 0 lf (omega arith),
      ← is,
    )
    (sym (by_list-is h n (four * 2 ^ (4 * place))))
