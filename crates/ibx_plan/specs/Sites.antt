-- Which bits of the machine there are: our own rule. A stored word has 39 bits, a tag word 28.
use Rattle.std.specs.Prelude.{ℕ, Bool, ◌&&◌, nat_lt, nat_le, List, [], ◌∷◌, Option, Some, None, if◌then◌else◌}
use Rattle.std.specs.List.{list_all}
use Rattle.ibx_plan.specs.declared.site.Site.{Site}
use Rattle.ibx_plan.specs.declared.site.Site.TheVariants as site
use Rattle.ibx_plan.specs.Names.{fields, wires, outputs, width_in}

-- a number, the first of its range, and the end of its range, which is the first number past it
pub record Ranged : Type 0 where
  pub number : ℕ
  pub first : ℕ
  pub end : ℕ

-- a number with the range that it is to be in, from its first number up to the one past its last
abbrev pub ranged : ℕ → ℕ → ℕ → Ranged
ranged number first end = record { number = number; first = first; end = end }

-- how many slots a delayed wire has, by the delay: the age of the delayed pairs and the kept finding have slot 0 alone
abbrev pub slots : ℕ → ℕ → ℕ
slots delay wire = if nat_le 36 wire then 1 else delay

-- the ranges of each site's numbers, in the order of its line
unfoldable pub ranges : ℕ → ℕ → Site → List Ranged
ranges ram_words delay (site.Main field bit) = ranged bit 0 (width_in fields field) ∷ []
ranges ram_words delay (site.Shadow field bit) = ranged bit 0 (width_in fields field) ∷ []
ranges ram_words delay (site.Delay slot wire bit) =
    ranged slot 0 (slots delay wire) ∷ ranged bit 0 (width_in wires wire) ∷ []
ranges ram_words delay (site.Reg n bit) = ranged n 1 32 ∷ ranged bit 0 39 ∷ []
ranges ram_words delay (site.Tag set way bit) = ranged set 0 256 ∷ ranged way 0 2 ∷ ranged bit 0 28 ∷ []
ranges ram_words delay (site.Line set way half bit) =
    ranged set 0 256 ∷ ranged way 0 2 ∷ ranged half 0 2 ∷ ranged bit 0 39 ∷ []
ranges ram_words delay (site.Output wire bit) = ranged bit 0 (width_in outputs wire) ∷ []
ranges ram_words delay (site.Answer port bit) = ranged port 0 2 ∷ ranged bit 0 39 ∷ []
ranges ram_words delay (site.Mem word bit) = ranged word 0 ram_words ∷ ranged bit 0 39 ∷ []

-- whether a number is in its range
abbrev pub is_within : Ranged → Bool
is_within r = nat_le r.first r.number && nat_lt r.number r.end

-- whether there is such a bit in a machine with so many words of RAM and this delay
unfoldable pub site_fits : ℕ → ℕ → Site → Bool
site_fits ram_words delay place = list_all is_within (ranges ram_words delay place)

-- the site, where there is such a bit
abbrev pub fitting : ℕ → ℕ → Site → Option Site
fitting ram_words delay place = if site_fits ram_words delay place then Some place else None
