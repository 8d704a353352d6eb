-- Bits of a word under masks, and the parts of a field's number.
use Rattle.std.proofs.Common.{◌≡◌, ℕ, ◌+◌, ◌-◌, ◌*◌, ◌/◌, ◌%◌, ◌^◌, ◌<◌, ◌≤◌, Bool, true, false, eqb, min, max, nat_le}
use Rattle.std.proofs.Common.{◌&&◌, ◌||◌, List, [], ◌∷◌, map, refl, sym, ◌∙◌, ap, inl, inr, arith, lit<}
use Rattle.std.specs.Prelude.{bit_and, bit_or}
use Rattle.std.specs.List.{list_all}
use Rattle.std.specs.Int.Bits.{or_zero_l, or_zero_r, and_zero_r}
use Rattle.std.proofs.Math.Nat.{mod-eq_of_lt, mod-lt, mul-mod_left, mul-div_left, mul-add-div_right, div-eq_of_lt}
use Rattle.std.proofs.Math.Nat.{pow-le-pow_right, mul-le-mul}
use Rattle.std.proofs.Math.Pow.{mod-mod-pow}
use Rattle.std.proofs.lemmas.Bool.{and_parts, or_cases, eqb-true}
use Rattle.std.proofs.lemmas.Nat.{pow-add, pow_pos, mod-pow-add, or_shr, or_mod, or_lt}
use Rattle.std.proofs.lemmas.Nat.Bits.{and_high, bit_at_and, bit_at_or, same_from_bits}
use Rattle.ibx_bits.specs.Bytes.{bits_at}
use Rattle.ibx_asm.specs.Dis.{taken_part}
use Rattle.ibx_asm.specs.Fields.{placed_part, united}

-- a mask of so many bits from bit `low` on
abbrev pub ones_at : ℕ → ℕ → ℕ
ones_at low count = 2 ^ (count + low) - 2 ^ low

-- the lesser of a number and the greater of two
least_of_most : (x y z : ℕ) → max (min x y) (min x z) ≡ min x (max y z)
least_of_most x y z = omega arith

-- bits under two masks are those under the masks united
pub and_spread : (w a b : ℕ) → bit_or (bit_and w a) (bit_and w b) ≡ bit_and w (bit_or a b)
and_spread w a b =
    same_from_bits (bit_or (bit_and w a) (bit_and w b)) (bit_and w (bit_or a b)) (λ i.
    rw (bit_at_or (bit_and w a) (bit_and w b) i, bit_at_and w a i, bit_at_and w b i)
    (rw (bit_at_and w (bit_or a b) i, bit_at_or a b i) (least_of_most _ _ _)))

-- numbers united, the first before the others
united_first : (x : ℕ) (xs : List ℕ) → united (x ∷ xs) ≡ bit_or x (united xs)
unfolding united
united_first x [] = sym (or_zero_r x)
united_first x (y ∷ more) = refl

-- no numbers
united_none : united [] ≡ 0
unfolding united
united_none = refl

-- the bits of two numbers united
bits_of_both : (x y low count : ℕ) → bits_at (bit_or x y) low count ≡ bit_or (bits_at x low count)
    (bits_at y low count)
bits_of_both x y low count = rw (or_shr x y low) (or_mod (x / 2 ^ low) (y / 2 ^ low) count)

-- a part is read at its own place
own_part : (y a c : ℕ) → y < 2 ^ c → bits_at (y * 2 ^ a) a c ≡ y
own_part y a c h =
    rw (mul-div_left y (pow_pos a)) (mod-eq_of_lt h)

-- a part ends below a higher power
part_less : (y a c k : ℕ) → y < 2 ^ c → a + c ≤ k → y * 2 ^ a < 2 ^ k
part_less y a c k less h =
    let whole : 2 ^ c * 2 ^ a ≤ 2 ^ k = rw (← pow-add 2 c a) (pow-le-pow_right {n = 2} (lit< tt) (omega (arith, h))) in
    let product : (y + 1) * 2 ^ a ≤ 2 ^ c * 2 ^ a = mul-le-mul (omega (arith, less)) (omega arith) in
    omega (arith, product, whole, pow_pos a)

-- nothing of it is read above it
above_part : (y a c low count : ℕ) → y < 2 ^ c → a + c ≤ low → bits_at (y * 2 ^ a) low count ≡ 0
above_part y a c low count less h = rw (div-eq_of_lt (part_less y a c low less h)) (omega arith)

-- nor below it
below_part : (y a low count : ℕ) → low + count ≤ a → bits_at (y * 2 ^ a) low count ≡ 0
below_part y a low count h =
    let e : ℕ = a - (low + count) in
    let split : a ≡ e + count + low = omega (arith, h) in
    let turn : y * (2 ^ e * 2 ^ count * 2 ^ low) ≡ y * 2 ^ e * 2 ^ count * 2 ^ low = grind arith in
    ap (λ (n : ℕ). bits_at (y * 2 ^ n) low count) split
    ∙ rw (pow-add 2 (e + count) low, pow-add 2 e count, turn, mul-div_left (y * 2 ^ e * 2 ^ count) (pow_pos low))
    (mul-mod_left (y * 2 ^ e) (2 ^ count))

-- a part of so many bits
part_small : (w : ℕ) (p : ℕ × ℕ × ℕ) → bits_at w p.2 p.1 < 2 ^ p.1
part_small w p = mod-lt (w / 2 ^ p.2) (pow_pos p.1)

-- parts that share no bit of the number
abbrev pub apart : ℕ × ℕ × ℕ → ℕ × ℕ × ℕ → Bool
apart q p = nat_le (p.0 + p.1) q.0 || nat_le (q.0 + q.1) p.0

-- the same part
abbrev pub same : ℕ × ℕ × ℕ → ℕ × ℕ × ℕ → Bool
same q p = eqb p.0 q.0 && (eqb p.1 q.1 && eqb p.2 q.2)

-- a part stands among these once, and shares no bit with the others
abbrev pub once : ℕ × ℕ × ℕ → List (ℕ × ℕ × ℕ) → Bool
once q [] = false
once q (p ∷ ps) = (same q p && list_all (apart q) ps) || (apart q p && once q ps)

-- what is read of parts united: what is read of the first, and of the others
united_parts : (w : ℕ) (q p : ℕ × ℕ × ℕ) (ps : List (ℕ × ℕ × ℕ))
    → bits_at (united (map (taken_part w) (p ∷ ps))) q.0 q.1
    ≡ bit_or (bits_at (taken_part w p) q.0 q.1) (bits_at (united (map (taken_part w) ps)) q.0 q.1)
united_parts w q p ps =
    rw (united_first (taken_part w p) (map (taken_part w) ps))
    (bits_of_both (taken_part w p) (united (map (taken_part w) ps)) q.0 q.1)

-- nothing is read of a part that is apart
read_apart : (w : ℕ) (q p : ℕ × ℕ × ℕ) → apart q p ≡ true → bits_at (taken_part w p) q.0 q.1 ≡ 0
read_apart w q p h = elim (or_cases (nat_le (p.0 + p.1) q.0) (nat_le (q.0 + q.1) p.0) h) [
  | inl k ↦ above_part (bits_at w p.2 p.1) p.0 p.1 q.0 q.1 (part_small w p) (grind (arith, k))
  | inr k ↦ below_part (bits_at w p.2 p.1) p.0 q.0 q.1 (grind (arith, k))
]

-- nor of many
read_all_apart : (w : ℕ) (q : ℕ × ℕ × ℕ) (ps : List (ℕ × ℕ × ℕ)) → list_all (apart q) ps ≡ true
    → bits_at (united (map (taken_part w) ps)) q.0 q.1 ≡ 0
read_all_apart w q [] h = rw united_none (omega arith)
read_all_apart w q (p ∷ ps) h =
    let k = and_parts (apart q p) (list_all (apart q) ps) h in
    united_parts w q p ps ∙ rw (read_apart w q p k.0, read_all_apart w q ps k.1) refl

-- a part is read where it stands
read_same : (w : ℕ) (q p : ℕ × ℕ × ℕ) → same q p ≡ true → bits_at (taken_part w p) q.0 q.1 ≡ bits_at w q.2 q.1
read_same w q p h =
    let k = and_parts (eqb p.0 q.0) (eqb p.1 q.1 && eqb p.2 q.2) h in
    let l = and_parts (eqb p.1 q.1) (eqb p.2 q.2) k.1 in
    rw (eqb-true p.0 q.0 k.0, eqb-true p.1 q.1 l.0, eqb-true p.2 q.2 l.1) (own_part (bits_at w q.2 q.1) q.0 q.1
    (part_small w q))

-- among others too
read_once : (w : ℕ) (q : ℕ × ℕ × ℕ) (ps : List (ℕ × ℕ × ℕ)) → once q ps ≡ true
    → bits_at (united (map (taken_part w) ps)) q.0 q.1 ≡ bits_at w q.2 q.1
read_once w q [] h = cc
read_once w q (p ∷ ps) h =
    united_parts w q p ps ∙ elim (or_cases (same q p && list_all (apart q) ps) (apart q p && once q ps) h) [
      | inl k ↦
          let l = and_parts (same q p) (list_all (apart q) ps) k in
          rw (read_same w q p l.0, read_all_apart w q ps l.1) (or_zero_r (bits_at w q.2 q.1))
      | inr k ↦
          let l = and_parts (apart q p) (once q ps) k in
          rw (read_apart w q p l.0, read_once w q ps l.1) (or_zero_l (bits_at w q.2 q.1))
    ]

-- all parts end below a power
pub united_less : (w k : ℕ) (ps : List (ℕ × ℕ × ℕ)) → list_all (λ p. nat_le (p.0 + p.1) k) ps ≡ true
    → united (map (taken_part w) ps) < 2 ^ k
united_less w k [] h = rw united_none (pow_pos k)
united_less w k (p ∷ ps) h =
    let l = and_parts (nat_le (p.0 + p.1) k) (list_all (λ p. nat_le (p.0 + p.1) k) ps) h in
    rw (united_first (taken_part w p) (map (taken_part w) ps))
    (or_lt k (taken_part w p) (united (map (taken_part w) ps))
    (part_less (bits_at w p.2 p.1) p.0 p.1 k (part_small w p) (grind (arith, l.0))) (united_less w k ps l.1))

-- a part is a multiple of each lower power
part_multiple : (y a s : ℕ) → s ≤ a → y * 2 ^ a % 2 ^ s ≡ 0
part_multiple y a s h =
    let e : ℕ = a - s in
    let split : a ≡ e + s = omega (arith, h) in
    let turn : y * (2 ^ e * 2 ^ s) ≡ y * 2 ^ e * 2 ^ s = omega arith in
    ap (λ (n : ℕ). y * 2 ^ n % 2 ^ s) split ∙ rw (pow-add 2 e s, turn) (mul-mod_left (y * 2 ^ e) (2 ^ s))

-- and so are all
pub united_multiple : (w s : ℕ) (ps : List (ℕ × ℕ × ℕ)) → list_all (λ p. nat_le s p.0) ps ≡ true
    → united (map (taken_part w) ps) % 2 ^ s ≡ 0
united_multiple w s [] h = rw united_none (omega arith)
united_multiple w s (p ∷ ps) h =
    let l = and_parts (nat_le s p.0) (list_all (λ p. nat_le s p.0) ps) h in
    let rest : ℕ = united (map (taken_part w) ps) in
    rw (united_first (taken_part w p) (map (taken_part w) ps), or_mod (taken_part w p) rest s)
    (rw (part_multiple (bits_at w p.2 p.1) p.0 s (grind (arith, l.0)), united_multiple w s ps l.1) refl)

-- the quotient of a multiple and a rest
high_part : (x r m : ℕ) → r < m → (x * m + r) / m ≡ x
high_part x r m h = rw (mul-add-div_right {m = m} (omega (arith, h)) x r, div-eq_of_lt h) (omega arith)

-- the same, with the bits above the part counted
lower_split : (n a c e k : ℕ) → k ≡ e + c + a → bits_at n a c ≡ bits_at (n % 2 ^ k) a c
lower_split n a c e k h =
    let inner : n % 2 ^ (e + c + a) ≡ (n / 2 ^ a % 2 ^ (e + c)) * 2 ^ a + n % 2 ^ a = mod-pow-add n (e + c) a in
    let back = high_part (n / 2 ^ a % 2 ^ (e + c)) (n % 2 ^ a) (2 ^ a) (mod-lt n (pow_pos a)) in
    rw (h, inner, back) (sym (mod-mod-pow (n / 2 ^ a) e c))

-- a part of a number's lowest bits
lower_part : (n a c k : ℕ) → a + c ≤ k → bits_at n a c ≡ bits_at (n % 2 ^ k) a c
lower_part n a c k h = lower_split n a c (k - (a + c)) k (omega (arith, h))

-- where numbers agree in their lowest bits, they agree in a part of them
same_part : (v n a c k : ℕ) → a + c ≤ k → v % 2 ^ k ≡ n % 2 ^ k → bits_at v a c ≡ bits_at n a c
same_part v n a c k h e = lower_part v a c k h ∙ ap (λ (m : ℕ). bits_at m a c) e ∙ sym (lower_part n a c k h)

-- numbers that agree give the same parts, at the same places
pub placed_back : (w v k : ℕ) (ps qs : List (ℕ × ℕ × ℕ)) → v % 2 ^ k ≡ united (map (taken_part w) ps) % 2 ^ k
    → list_all (λ q. once q ps) qs ≡ true → list_all (λ q. nat_le (q.0 + q.1) k) qs ≡ true
    → united (map (placed_part v) qs) ≡ bit_and w (united (map (λ q. ones_at q.2 q.1) qs))
placed_back w v k ps [] e h l = rw united_none (sym (and_zero_r w))
placed_back w v k ps (q ∷ qs) e h l =
    let hs = and_parts (once q ps) (list_all (λ q. once q ps) qs) h in
    let ls = and_parts (nat_le (q.0 + q.1) k) (list_all (λ q. nat_le (q.0 + q.1) k) qs) l in
    let agree = same_part v (united (map (taken_part w) ps)) q.0 q.1 k (grind (arith, ls.0)) e in
    let part : bits_at v q.0 q.1 ≡ bits_at w q.2 q.1 = agree ∙ read_once w q ps hs.0 in
    let rest : ℕ = united (map (λ q. ones_at q.2 q.1) qs) in
    united_first (placed_part v q) (map (placed_part v) qs)
    ∙ rw (part, placed_back w v k ps qs e hs.1 ls.1, ← and_high w q.1 q.2) (and_spread w (ones_at q.2 q.1) rest)
    ∙ sym (ap (bit_and w) (united_first (ones_at q.2 q.1) (map (λ q. ones_at q.2 q.1) qs)))
