-- The masks of the code have the rights of the table.
use Rattle.std.proofs.Common.{◌≡◌, ℕ, zero, suc, ◌-◌, ◌<◌, Bool, true, false, ◌&&◌, List, [], ◌∷◌, get_or, inl, inr}
use Rattle.std.proofs.Common.{arith, eq-zero-or-pos, refl, subst, sym, ◌∙◌}
use Rattle.std.specs.Prelude.{◌==◌, not, if◌then◌else◌}
use Rattle.std.proofs.lemmas.Bool.{and_parts}
use Rattle.ibx_pmp.specs.declared.protection.AccessKind.{AccessKind}
use Rattle.ibx_pmp.specs.declared.protection.AccessKind.TheVariants.{Read, Write, Execute}
use Rattle.ibx_pmp.specs.declared.protection.TheConstants.{MACHINE, USER}
use Rattle.ibx_pmp.specs.Ranges.{may, no_rights, permits, rights}

-- two tests have one value
abbrev same : Bool → Bool → Bool
same true b = b
same false b = not b

-- and then they are equal
same_is : (a b : Bool) → same a b ≡ true → a ≡ b
same_is true b e = sym e
same_is false true e = absurd (cc)
same_is false false e = refl

-- the mask of a row has the rights of the row, of this kind and mode
abbrev masked : AccessKind → Bool → ℕ → Bool
masked kind machine row =
    same (permits (get_or (if machine then MACHINE else USER) row 0) kind) (may kind machine (get_or rights row no_rights))

-- a test of every number below n
abbrev all_below : (ℕ → Bool) → ℕ → Bool
all_below test zero = true
all_below test (suc n) = test n && all_below test n

-- what such a test says of one of them
below : (test : ℕ → Bool) (n k : ℕ) → all_below test n ≡ true → k < n → test k ≡ true
below test zero k e h = absurd (omega arith)
below test (suc n) k e h =
    let p = and_parts (test n) (all_below test n) e in
    elim (eq-zero-or-pos (n - k)) [
      | inl z ↦ let same : n ≡ k = omega arith in subst (λ (m : ℕ). test m ≡ true) same p.0
      | inr g ↦ below test n k p.1 (omega arith)
    ]

-- so the masks have the rights of each row
pub masks_may : (kind : AccessKind) (machine : Bool) (row : ℕ) → row < 16
    → permits (get_or (if machine then MACHINE else USER) row 0) kind ≡ may kind machine (get_or rights row no_rights)
masks_may Read true row h = same_is _ _ (below (masked Read true) 16 row refl h)
masks_may Read false row h = same_is _ _ (below (masked Read false) 16 row refl h)
masks_may Write true row h = same_is _ _ (below (masked Write true) 16 row refl h)
masks_may Write false row h = same_is _ _ (below (masked Write false) 16 row refl h)
masks_may Execute true row h = same_is _ _ (below (masked Execute true) 16 row refl h)
masks_may Execute false row h = same_is _ _ (below (masked Execute false) 16 row refl h)
