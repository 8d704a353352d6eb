use Rattle.std.proofs.Common.{◌+◌, ◌<◌, Bor, take, get_or, length, ◌≡◌, ◌∙◌, ℕ, true, false, List, Option, Some, None, is_some, sym, ap, arith, inl, inr, if◌then◌else◌}
use Rattle.std.proofs.lemmas.Bool.{cases_Bool}
use Rattle.std.proofs.lemmas.Map.Text.{btree_map_updates_str}
use Rattle.std.proofs.lemmas.Slice.Eq.{bytes_eq-Decides}
use Rattle.std.specs.BTreeMap.{BTreeMap}
use Rattle.std.specs.Map.{update}
use Rattle.std.specs.Option.{option_or}
use Rattle.std.specs.Str.{bytes_eq}
use Rattle.ibx_asm.specs.declared.labels.Label.{Label}
use Rattle.ibx_asm.specs.Held.{place_in, IsIndexOf}
use Rattle.ibx_asm.proofs.Finding.{one_more}
use Rattle.ibx_asm.proofs.labels.index_of.Goals as goal
use Rattle.ibx_asm.proofs.labels.index_of.Goals.{then-not-contains_key+in_ok-insert, else-not-contains_key}

-- a place for a key that an index lacks
fresh : (get : List ℕ → Option ℕ) (key name : List ℕ) (i : ℕ) → is_some (get key) ≡ false → update bytes_eq get key
    (Some i) name ≡ option_or (get name) (if bytes_eq key name then Some i else None)
fresh get key name i none = elim (cases_Bool (bytes_eq key name)) [
  | inl same ↦
      let one : get key ≡ get name = ap get ((bytes_eq-Decides key name).0 same) in
      grind (arith, one, none, same)
  | inr other ↦ grind (arith, other)
]

-- a key that an index has keeps its place
kept : (get : List ℕ → Option ℕ) (key name : List ℕ) (i : ℕ) → is_some (get key) ≡ true → get name ≡ option_or (get name)
    (if bytes_eq key name then Some i else None)
kept get key name i some = elim (cases_Bool (bytes_eq key name)) [
  | inl same ↦
      let one : get key ≡ get name = ap get ((bytes_eq-Decides key name).0 same) in
      grind (arith, one, some, same)
  | inr other ↦ grind (arith, other)
]

-- an index of one more label, whose name it lacked
added : (old new : BTreeMap (Bor (List ℕ)) ℕ) (labels : List Label) (i : ℕ) (d : Label) → IsIndexOf old (take i labels)
    → i < length labels → is_some (place_in old (get_or labels i d).name.now) ≡ false
    → ((name : List ℕ) → place_in new name ≡ update bytes_eq (place_in old) (get_or labels i d).name.now (Some i) name)
    → IsIndexOf new (take (i + 1) labels)
added old new labels i d indexed below none with_key = λ name. with_key name
    ∙ fresh (place_in old) (get_or labels i d).name.now name i none
    ∙ ap (λ o. option_or o (if bytes_eq (get_or labels i d).name.now name then Some i else None)) (indexed name)
    ∙ sym (one_more (λ label. bytes_eq label.name.now name) labels i d below)

-- the same index, where it had the name
same : (old : BTreeMap (Bor (List ℕ)) ℕ) (labels : List Label) (i : ℕ) (d : Label) → IsIndexOf old (take i labels) → i <
    length labels → is_some (place_in old (get_or labels i d).name.now) ≡ true → IsIndexOf old (take (i + 1) labels)
same old labels i d indexed below some = λ name. kept (place_in old) (get_or labels i d).name.now name i some
    ∙ ap (λ o. option_or o (if bytes_eq (get_or labels i d).name.now name then Some i else None)) (indexed name)
    ∙ sym (one_more (λ label. bytes_eq label.name.now name) labels i d below)

pub loop-place-preserved : goal.loop-place-preserved
loop-place-preserved c = elim c.if-not-contains_key.branch [
  | then-not-contains_key+in_ok-insert w ↦ rw w.first-is (added c.loop-place.first w.insert.new.self
      c.args.labels.now c.loop-place.place _ c.loop-place.invariant c.loop-place-test.true
      (sym c.contains_key.ensures ∙ w.if-not-contains_key.true)
      (btree_map_updates_str _ c.loop-place.first w.insert.new.self _ w.in_ok-insert.ensures.updates))
  | else-not-contains_key w ↦ rw w.first-is (same c.loop-place.first c.args.labels.now c.loop-place.place _
      c.loop-place.invariant c.loop-place-test.true (sym c.contains_key.ensures ∙ w.if-not-contains_key.false))
]
