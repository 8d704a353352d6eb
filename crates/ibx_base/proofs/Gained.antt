-- Bytes taken in parts.
use Rattle.std.proofs.Common.{◌≡◌, ℕ, ◌+◌, List, ◌++◌, Option, Some, None, refl, sym, ap, ◌∙◌, append_assoc, take}
use Rattle.std.proofs.Common.{drop, length, ◌-◌, arith}
use Rattle.std.proofs.lemmas.List.{length-drop, take_all}
use Rattle.std.proofs.Math.Seq.{take-add}
use Rattle.ibx_base.specs.Sinks.{with_more}

-- first the front of a piece, and then the front of what is left of it
pub with_more-take : (taken : Option (List ℕ)) (piece : List ℕ) (done count : ℕ)
    → with_more (with_more taken (take done piece)) (take count (take (length piece - done) (drop done piece)))
    ≡ with_more taken (take (done + count) piece)
with_more-take None piece done count = refl
with_more-take (Some bytes) piece done count =
    let whole : take (length piece - done) (drop done piece) ≡ drop done piece =
    take_all (length piece - done) (drop done piece) (omega (arith, length-drop done piece)) in
    rw whole (ap Some (append_assoc bytes (take done piece) (take count (drop done piece))
    ∙ ap (λ (front : List ℕ). bytes ++ front) (sym (take-add done count piece))))
