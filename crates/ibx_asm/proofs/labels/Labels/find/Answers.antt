use Rattle.std.proofs.Common.{◌≡◌, ◌∙◌, ℕ, Bool, List, Option, Some, None, Bor, ap, arith, map}
use Rattle.std.specs.BTreeMap.{BTreeMap}
use Rattle.std.specs.Option.{option_map, option_copied, option_and_then}
use Rattle.std.specs.Slice.{IsItemAt}
use Rattle.std.proofs.lemmas.Option.{slice_get_past, slice_get-get_or}
use Rattle.std.specs.List.{slice_get}
use Rattle.std.specs.Str.{bytes_eq}
use Rattle.ibx_asm.specs.declared.labels.Label.{Label}
use Rattle.ibx_asm.specs.Held.{meant, place_in, IsIndexOf}
use Rattle.ibx_asm.specs.Operands.{definition_of}
use Rattle.ibx_asm.proofs.Finding.{at_first, find_mapped}
use Rattle.ibx_asm.proofs.labels.Labels.find.Goals as goal

-- a copy of an element is the element
copied_at : (o : Option (Bor Label)) (labels : List Label) (i : ℕ) → IsItemAt labels i o → option_copied o ≡ slice_get
    labels i
copied_at None labels i h = grind (arith, h, slice_get_past labels i)
copied_at (Some x) labels i h = grind (arith, h, slice_get-get_or labels i x.now)

-- the label at the place that an index gives is the first definition
by_place : (index : BTreeMap (Bor (List ℕ)) ℕ) (labels : List Label) (name : List ℕ) (place : Option ℕ) → IsIndexOf
    index labels → place ≡ place_in index name → option_map meant (option_and_then (slice_get labels) place) ≡
    definition_of (map meant labels) name
by_place index labels name place indexed found =
    let test : Label → Bool = λ label. bytes_eq label.name.now name in
    ap (option_map meant) (at_first test labels place (found ∙ indexed name)) ∙ find_mapped meant
    (λ label. bytes_eq label.name name) labels

pub returns-in_err-place : goal.returns-in_err-place
returns-in_err-place c = rw c.from_residual.ensures (by_place c.self.inside.first c.self.inside.labels.items
    c.args.name.now None c.self.invariant c.in_err-place.ensures.value ∙ ap
    (λ all. definition_of all c.args.name.now) c.self.view_is)

pub returns : goal.returns
returns c =
    let labels = c.self.inside.labels.items in
    let place = c.in_ok-place.place.now in
    let got = copied_at c.get-2.result c.deref.result.now place c.get-2.ensures.lookup ∙ ap
    (λ all. slice_get all place) c.deref.ensures.value in
    ap (option_map meant) (c.copied.ensures ∙ got) ∙ by_place c.self.inside.first labels c.args.name.now (Some place)
    c.self.invariant c.in_ok-place.ensures.value ∙ ap (λ all. definition_of all c.args.name.now) c.self.view_is
