-- What a site that fits says of its numbers.
use Rattle.std.proofs.Common.{◌≡◌, ℕ, ◌<◌, true, []}
use Rattle.ibx_plan.specs.Names.{fields, outputs, width_in}
use Rattle.ibx_plan.specs.Sites.{ranged, ranges, site_fits}
use Rattle.ibx_plan.specs.declared.site.Site.TheVariants as site
use Rattle.ibx_system.proofs.Sites.{in_ranges, output_fits}
use Rattle.ibx_soc.specs.Seen.{PendingFits}
use Rattle.std.specs.Prelude.{Some}

-- the bit of a field of main
pub main_bit : (n delay field bit : ℕ) → site_fits n delay (site.Main field bit) ≡ true → bit < width_in fields field
unfolding site_fits ranges
main_bit n delay field bit h = (in_ranges (ranged bit 0 (width_in fields field)) [] h).1

-- the same of the shadow
pub shadow_bit : (n delay field bit : ℕ)
    → site_fits n delay (site.Shadow field bit) ≡ true → bit < width_in fields field
unfolding site_fits ranges
shadow_bit n delay field bit h = (in_ranges (ranged bit 0 (width_in fields field)) [] h).1

-- the word and the bit of an output word
pub pending_fits : (n delay wire bit : ℕ)
    → site_fits n delay (site.Output wire bit) ≡ true → PendingFits (Some (wire, bit))
unfolding site_fits ranges
pending_fits n delay wire bit h = output_fits wire bit (in_ranges (ranged bit 0 (width_in outputs wire)) [] h).1
