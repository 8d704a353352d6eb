-- A bit that is set or cleared is the mark of its register, and leaves the others.
use Rattle.std.proofs.Common.{◌≡◌, ◌≢◌, ℕ, ◌<◌, ◌*◌, ◌%◌, ◌^◌, Bool, true, false, ◌==◌, refl, ap, ◌∙◌, if◌then◌else◌}
use Rattle.std.specs.Prelude.{bit_and, bit_or}
use Rattle.std.specs.Int.{bit_at, bit_not, w32}
use Rattle.std.proofs.lemmas.Bool.{eqb-true, eqb-false}
use Rattle.std.proofs.lemmas.Nat.Bits.{bit_at_set_same, bit_at_set_other, bit_at_clear_same, bit_at_clear_other}
use Rattle.ibx_secret.specs.Marks.{Marks, mark_reg}

-- a number that isn't 0
pub not_zero : (n : ℕ) → (n ≡ 0 → ⊥) → (n == 0) ≡ false
not_zero n h = by_test (n == 0) refl
  where
    by_test : (b : Bool) → (n == 0) ≡ b → b ≡ false
    by_test true e = absurd (h (eqb-true n 0 e))
    by_test false e = refl

-- by whether a register is the one that takes the mark
by_same : (m : Marks) (old new n k : ℕ) (mark : Bool) (b : Bool) → (k == n) ≡ b → (bit_at new n == 1) ≡ mark
    → (k ≢ n → bit_at new k ≡ bit_at old k) → (bit_at old k == 1) ≡ m.reg k
    → (bit_at new k == 1) ≡ (if b then mark else m.reg k)
by_same m old new n k mark true same at others is =
    ap (λ (i : ℕ). bit_at new i == 1) (eqb-true k n same) ∙ at
by_same m old new n k mark false same at others is =
    ap (λ (x : ℕ). x == 1) (others (eqb-false k n same)) ∙ is

-- another register takes it
takes : (m : Marks) (old new n k : ℕ) (mark : Bool) → (n == 0) ≡ false → (bit_at new n == 1) ≡ mark
    → (k ≢ n → bit_at new k ≡ bit_at old k) → (bit_at old k == 1) ≡ m.reg k
    → (bit_at new k == 1) ≡ (mark_reg m n mark).reg k
takes m old new n k mark some at others is = rw some (by_same m old new n k mark (k == n) refl at others is)

-- a bit that is set
pub set_takes : (m : Marks) (old n k : ℕ) → n < 32 → (n == 0) ≡ false → (bit_at old k == 1) ≡ m.reg k
    → (bit_at (bit_or old (1 * 2 ^ n % 4294967296)) k == 1) ≡ (mark_reg m n true).reg k
set_takes m old n k low some is =
    takes m old (bit_or old (1 * 2 ^ n % 4294967296)) n k true some
    (ap (λ (x : ℕ). x == 1) (bit_at_set_same w32 old n low)) (λ other. bit_at_set_other w32 old n low k other) is

-- a bit that is cleared
pub clear_takes : (m : Marks) (old n k : ℕ) → n < 32 → k < 32 → (n == 0) ≡ false → (bit_at old k == 1) ≡ m.reg k
    → (bit_at (bit_and old (bit_not w32 (1 * 2 ^ n % 4294967296))) k == 1) ≡ (mark_reg m n false).reg k
clear_takes m old n k low within some is =
    takes m old (bit_and old (bit_not w32 (1 * 2 ^ n % 4294967296))) n k false some
    (ap (λ (x : ℕ). x == 1) (bit_at_clear_same w32 old n low))
    (λ other. bit_at_clear_other w32 old n low k within other) is
