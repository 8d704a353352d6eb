-- What instructions compute are words.
use Rattle.std.proofs.Common.{ℕ, ◌+◌, ◌-◌, ◌*◌, ◌/◌, ◌%◌, ◌^◌, ◌<◌, ◌≤◌, ◌==◌, Bool, true, false, subst, arith, eqb}
use Rattle.std.proofs.Common.{cond, not, ◌&&◌, if◌then◌else◌, nat_lt, ℤ, pos, negsuc, ◌*ℤ◌}
use Rattle.std.specs.Prelude.{int_lt, int_div, int_rem, unsigned_abs}
use Rattle.std.specs.Int.{cast_unsigned, from_bool, int_div_euclid, w32, w64}
use Rattle.std.proofs.lemmas.Nat.{and_le_r, mod_below, or_of_32, xor_of_32}
use Rattle.std.proofs.Math.Nat.{div-le_self, mod-le, mul-le-mul}
use Rattle.ibx_isa.specs.declared.insn.AluOp.{AluOp}
use Rattle.ibx_isa.specs.declared.insn.AluOp.TheVariants.{Add, Sub, Sll, Slt, Sltu, Xor, Srl, Sra, Or, And}
use Rattle.ibx_isa.specs.declared.insn.MdOp.{MdOp}
use Rattle.ibx_isa.specs.declared.insn.MdOp.TheVariants.{Mul, Mulh, Mulhsu, Mulhu, Div, Divu, Rem, Remu}
use Rattle.ibx_isa.specs.declared.insn.LoadOp.{LoadOp}
use Rattle.ibx_isa.specs.declared.insn.LoadOp.TheVariants.{Lb, Lh, Lw, Lbu, Lhu}
use Rattle.ibx_isa.specs.Alu.{alu_of, shift_amount}
use Rattle.ibx_isa.specs.Multiply.{md_value, signed}
use Rattle.ibx_bits.specs.Bytes.{bytes_number, sign_extended}
use Rattle.ibx_isa.specs.Portions.{loaded, size_of}
use Rattle.ibx_muldiv.specs.Operands.{sign, magnitude, differ}
use Rattle.ibx_muldiv.specs.Steps.{negated}
use Rattle.ibx_muldiv.proofs.Division.{part_of}
use Rattle.ibx_muldiv.proofs.Values.{magnitude-le, signed_product, mixed_product, signed_quotient, signed_remainder}

-- ---- computed values

-- a number that is negative, or below a bound
abbrev Below : ℕ → ℤ → Type 0
Below bound (pos n) = n < bound
Below bound (negsuc n) = Unit {0}

-- a number cut to a word, shifted, or negated is a word
cast_low : (z : ℤ) → Below (2 ^ 32) z → cast_unsigned w32 z < 2 ^ 32
cast_low (pos n) h = h
cast_low (negsuc n) h = omega arith

-- a signed number that is shifted right is negative, or still below the bound of a word
shifted_below : (z : ℤ) (d : ℕ) → unsigned_abs z < 2 ^ 32 → Below (2 ^ 32) (int_div_euclid z (pos d))
shifted_below (pos n) d h = omega (arith, h, div-le_self n d)
shifted_below (negsuc n) d h = tt

-- a word is one with its sign turned too
negated_low : (s : Bool) (n : ℕ) → n < 2 ^ 32 → negated 32 s n < 2 ^ 32
negated_low true n h = mod_below (2 ^ 32 - n) (2 ^ 32) (omega arith)
negated_low false n h = h

-- a double word is one with its sign turned too
negated_double : (s : Bool) (n : ℕ) → n < 2 ^ 64 → negated 64 s n < 2 ^ 64
negated_double true n h = mod_below (2 ^ 64 - n) (2 ^ 64) (omega arith)
negated_double false n h = h

-- the words of a double word, and products that fit one
high_low : (n : ℕ) → n < 2 ^ 64 → n / 2 ^ 32 < 2 ^ 32
high_low n h = omega (arith, h)

-- the product of two words fits a double word
small_product : (a b : ℕ) → a ≤ 2 ^ 32 - 1 → b ≤ 2 ^ 32 - 1 → a * b < 2 ^ 64
small_product a b ha hb = omega (arith, mul-le-mul ha hb)

-- the magnitude of a word, taken as signed, is a word
magnitude_low : (a : ℕ) → a < 2 ^ 32 → magnitude a ≤ 2 ^ 32 - 1
magnitude_low a h = omega (arith, magnitude-le a h)

-- the product of two signed words is a double word
product_double : (a b : ℕ) → a < 2 ^ 32 → b < 2 ^ 32 → cast_unsigned w64 (signed a *ℤ signed b) < 2 ^ 64
product_double a b ha hb =
    let small : magnitude a * magnitude b < 2 ^ 64 =
    small_product (magnitude a) (magnitude b) (magnitude_low a ha) (magnitude_low b hb) in
    subst (λ n. n < 2 ^ 64) (signed_product (signed a) (signed b) small)
    (negated_double (differ (sign a) (sign b)) (magnitude a * magnitude b) small)

-- so is that of a signed and an unsigned word
mixed_double : (a b : ℕ) → a < 2 ^ 32 → b < 2 ^ 32 → cast_unsigned w64 (signed a *ℤ pos b) < 2 ^ 64
mixed_double a b ha hb =
    let small : magnitude a * b < 2 ^ 64 = small_product (magnitude a) b (magnitude_low a ha) (omega arith) in
    subst (λ n. n < 2 ^ 64) (mixed_product (signed a) b small) (negated_double (sign a) (magnitude a * b) small)

-- quotients and remainders are words
portion_low : (r : Bool) (m n : ℕ) → m < 2 ^ 32 → part_of r m n < 2 ^ 32
portion_low true m n h =
    elim (eqb n 0) as (λ e. cond e m (m % n) < 2 ^ 32) [ true ↦ h | false ↦ omega (arith, h, mod-le m n) ]
portion_low false m n h = elim (eqb n 0) as (λ e. cond e (2 ^ 32 - 1) (m / n) < 2 ^ 32)
    [ true ↦ omega arith | false ↦ omega (arith, h, div-le_self m n) ]

-- a signed quotient is a word, by 0 the one with all bits set
quotient_low : (a b : ℕ) → a < 2 ^ 32 → b < 2 ^ 32
    → cond (eqb b 0) (2 ^ 32 - 1) (cast_unsigned w32 (int_div (signed a) (signed b))) < 2 ^ 32
quotient_low a b ha hb =
    subst (λ n. n < 2 ^ 32) (signed_quotient a b ha hb)
    (negated_low (differ (sign a) (sign b) && not (eqb b 0)) (part_of false (magnitude a) (magnitude b))
    (portion_low false (magnitude a) (magnitude b) (omega (arith, magnitude-le a ha))))

-- a signed remainder is a word, by 0 the dividend
remainder_low : (a b : ℕ) → a < 2 ^ 32 → b < 2 ^ 32
    → cond (eqb b 0) a (cast_unsigned w32 (int_rem (signed a) (signed b))) < 2 ^ 32
remainder_low a b ha hb =
    subst (λ n. n < 2 ^ 32) (signed_remainder a b ha hb)
    (negated_low (sign a) (part_of true (magnitude a) (magnitude b))
    (portion_low true (magnitude a) (magnitude b) (omega (arith, magnitude-le a ha))))

-- the result of a comparison is a word
bool_low : (b : Bool) → from_bool b < 2 ^ 32
bool_low true = omega arith
bool_low false = omega arith

-- each operation of the ALU makes a word of two words
pub alu_low : (op : AluOp) (a b : ℕ) → a < 2 ^ 32 → b < 2 ^ 32 → alu_of op a b < 2 ^ 32
unfolding alu_of
alu_low Add a b ha hb = mod_below (a + b) (2 ^ 32) (omega arith)
alu_low Sub a b ha hb = mod_below (a + (2 ^ 32 - b)) (2 ^ 32) (omega arith)
alu_low Sll a b ha hb = mod_below (a * 2 ^ shift_amount b) (2 ^ 32) (omega arith)
alu_low Slt a b ha hb = bool_low (int_lt (signed a) (signed b))
alu_low Sltu a b ha hb = bool_low (nat_lt a b)
alu_low Xor a b ha hb = xor_of_32 a b ha hb
alu_low Srl a b ha hb = omega (arith, ha, div-le_self a (2 ^ shift_amount b))
alu_low Sra a b ha hb = cast_low (int_div_euclid (signed a) (pos (2 ^ shift_amount b)))
    (shifted_below (signed a) (2 ^ shift_amount b) (omega (arith, magnitude_low a ha)))
alu_low Or a b ha hb = or_of_32 a b ha hb
alu_low And a b ha hb = omega (arith, hb, and_le_r a b)

-- of two words either is one
either_low : (b : Bool) (x y : ℕ) → x < 2 ^ 32 → y < 2 ^ 32 → (if b then x else y) < 2 ^ 32
either_low true x y hx hy = hx
either_low false x y hx hy = hy

-- the high half of an unsigned product is a word
product_low : (a b : ℕ) → a < 2 ^ 32 → b < 2 ^ 32 → a * b / 2 ^ 32 < 2 ^ 32
product_low a b ha hb = high_low (a * b) (small_product a b (omega arith) (omega arith))

-- each multiplication and division makes a word of two words
pub md_low : (op : MdOp) (a b : ℕ) → a < 2 ^ 32 → b < 2 ^ 32 → md_value op a b < 2 ^ 32
unfolding md_value
md_low Mul a b ha hb = mod_below (a * b) (2 ^ 32) (omega arith)
md_low Mulh a b ha hb = high_low (cast_unsigned w64 (signed a *ℤ signed b)) (product_double a b ha hb)
md_low Mulhsu a b ha hb = high_low (cast_unsigned w64 (signed a *ℤ pos b)) (mixed_double a b ha hb)
md_low Mulhu a b ha hb = product_low a b ha hb
md_low Div a b ha hb = quotient_low a b ha hb
md_low Divu a b ha hb = either_low (b == 0) (2 ^ 32 - 1) (a / b) (omega arith) (omega (arith, ha, div-le_self a b))
md_low Rem a b ha hb = remainder_low a b ha hb
md_low Remu a b ha hb = either_low (b == 0) a (a % b) ha (omega (arith, ha, mod-le a b))

-- ---- loaded values

-- four, two and one byte make 32, 16 and 8 bits, and so do their signs
pub four_bytes : (f : ℕ → ℕ) → ((k : ℕ) → f k < 256) → bytes_number f 4 < 2 ^ 32
unfolding bytes_number
four_bytes f h = omega (arith, h 0, h 1, h 2, h 3)

-- two bytes make 16 bits
pub two_bytes : (f : ℕ → ℕ) → ((k : ℕ) → f k < 256) → bytes_number f 2 < 2 ^ 16
unfolding bytes_number
two_bytes f h = omega (arith, h 0, h 1)

-- one byte makes 8 bits
one_byte : (f : ℕ → ℕ) → ((k : ℕ) → f k < 256) → bytes_number f 1 < 2 ^ 8
unfolding bytes_number
one_byte f h = omega (arith, h 0)

-- a byte that is extended by its sign is a word
extended_8 : (n : ℕ) → n < 2 ^ 8 → sign_extended 8 n < 2 ^ 32
extended_8 n h = either_low (nat_lt n (2 ^ (8 - 1))) n (n + (2 ^ 32 - 2 ^ 8)) (omega arith) (omega arith)

-- a halfword that is extended by its sign is a word
extended_16 : (n : ℕ) → n < 2 ^ 16 → sign_extended 16 n < 2 ^ 32
extended_16 n h = either_low (nat_lt n (2 ^ (16 - 1))) n (n + (2 ^ 32 - 2 ^ 16)) (omega arith) (omega arith)

-- so a load gives a word
pub loaded_low : (op : LoadOp) (f : ℕ → ℕ) → ((k : ℕ) → f k < 256) → loaded op (bytes_number f (size_of op)) < 2 ^ 32
unfolding loaded
loaded_low Lb f h = extended_8 (bytes_number f 1) (one_byte f h)
loaded_low Lh f h = extended_16 (bytes_number f 2) (two_bytes f h)
loaded_low Lw f h = four_bytes f h
loaded_low Lbu f h = omega (arith, one_byte f h)
loaded_low Lhu f h = omega (arith, two_bytes f h)
