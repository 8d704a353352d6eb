-- A site of a plan that fits is a place of the system.
use Rattle.std.proofs.Common.{◌≡◌, ℕ, zero, suc, ◌≤◌, ◌<◌, true, List, [], ◌∷◌, length, arith}
use Rattle.std.specs.Prelude.{◌||◌, ◌==◌, if◌then◌else◌}
use Rattle.std.specs.List.{list_all}
use Rattle.std.proofs.lemmas.Bool.{and_parts, leb-true, ltb-true}
use Rattle.ibx_plan.specs.Names.{outputs, width_in}
use Rattle.ibx_plan.specs.Sites.{Ranged, ranged, ranges, is_within, site_fits}
use Rattle.ibx_plan.specs.declared.site.Site.{Site}
use Rattle.ibx_plan.specs.declared.site.Site.TheVariants as site
use Rattle.ibx_system.specs.System.{Place}
use Rattle.ibx_system.specs.Flips.{Fits}
use Rattle.ibx_system.specs.Runs.{Codewords}

-- the first of some ranges, and the others, where each number is in its range
pub in_ranges : (r : Ranged) (more : List Ranged) → list_all is_within (r ∷ more) ≡ true
    → (r.first ≤ r.number) × (r.number < r.end) × (list_all is_within more ≡ true)
in_ranges r more h =
    let a = and_parts _ _ h in
    let b = and_parts _ _ a.0 in
    (leb-true r.first r.number b.0, ltb-true r.number r.end b.1, a.1)

-- there are six output words, the tag words third and fourth
pub output_fits : (wire bit : ℕ) → bit < width_in outputs wire
    → (wire < 6) × (bit < (if (wire == 2) || (wire == 3) then 28 else 39))
unfolding outputs
output_fits zero bit lt = (omega arith, lt)
output_fits (suc zero) bit lt = (omega arith, lt)
output_fits (suc (suc zero)) bit lt = (omega arith, lt)
output_fits (suc (suc (suc zero))) bit lt = (omega arith, lt)
output_fits (suc (suc (suc (suc zero)))) bit lt = (omega arith, lt)
output_fits (suc (suc (suc (suc (suc zero))))) bit lt = (omega arith, lt)
output_fits (suc (suc (suc (suc (suc (suc n)))))) bit lt = absurd (omega (arith, lt))

-- a site that fits is a place of a system whose words have their counts
pub fits_of : (x : Site) (delay : ℕ) (e : Place) → Codewords e → site_fits (length e.memory.words) delay x ≡ true
    → Fits x e
unfolding site_fits ranges
fits_of (site.Main field bit) delay e c h = tt
fits_of (site.Shadow field bit) delay e c h = tt
fits_of (site.Delay slot wire bit) delay e c h = tt
fits_of (site.Reg n bit) delay e c h =
    let a = in_ranges (ranged n 1 32) (ranged bit 0 39 ∷ []) h in
    let b = in_ranges (ranged bit 0 39) [] a.2 in
    (omega (arith, a.0), omega (arith, a.1, c.count.0), b.1)
fits_of (site.Tag set way bit) delay e c h =
    let a = in_ranges (ranged set 0 256) (ranged way 0 2 ∷ ranged bit 0 28 ∷ []) h in
    let b = in_ranges (ranged way 0 2) (ranged bit 0 28 ∷ []) a.2 in
    let d = in_ranges (ranged bit 0 28) [] b.2 in
    (omega (arith, a.1, b.1, c.count.1), d.1)
fits_of (site.Line set way half bit) delay e c h =
    let a = in_ranges (ranged set 0 256) (ranged way 0 2 ∷ ranged half 0 2 ∷ ranged bit 0 39 ∷ []) h in
    let b = in_ranges (ranged way 0 2) (ranged half 0 2 ∷ ranged bit 0 39 ∷ []) a.2 in
    let d = in_ranges (ranged half 0 2) (ranged bit 0 39 ∷ []) b.2 in
    let f = in_ranges (ranged bit 0 39) [] d.2 in
    (omega (arith, a.1, b.1, d.1, c.count.2), f.1)
fits_of (site.Output wire bit) delay e c h =
    let a = in_ranges (ranged bit 0 (width_in outputs wire)) [] h in
    output_fits wire bit a.1
fits_of (site.Answer port bit) delay e c h =
    let a = in_ranges (ranged port 0 2) (ranged bit 0 39 ∷ []) h in
    (a.1, (in_ranges (ranged bit 0 39) [] a.2).1)
fits_of (site.Mem word bit) delay e c h =
    let a = in_ranges (ranged word 0 (length e.memory.words)) (ranged bit 0 39 ∷ []) h in
    (a.1, (in_ranges (ranged bit 0 39) [] a.2).1)
