-- A text written in parts.
use Rattle.std.proofs.Common.{◌≡◌, ℕ, ◌+◌, List, [], ◌++◌, Option, Some, None, length, take, refl, sym, ap, ◌∙◌, arith}
use Rattle.std.proofs.Common.{append_assoc}
use Rattle.std.proofs.Math.Seq.{take-append-add}
use Rattle.std.proofs.lemmas.List.{take-append-le, length-append, append-nil}
use Rattle.std.specs.Prelude.{Result, Ok, Err, OnErr}
use Rattle.ibx_base.specs.Sinks.{with_more, TookPrefix}

-- a part was taken, and with the rest it is the whole text
pub record SoFar (before now : Option (List ℕ)) (rest whole : List ℕ) : Type 0 where
  pub gained : List ℕ
  pub taken : now ≡ with_more before gained
  pub text : gained ++ rest ≡ whole

-- to take nothing more leaves what was taken
pub none_more : (taken : Option (List ℕ)) → taken ≡ with_more taken []
none_more None = refl
none_more (Some bytes) = ap Some (sym (append-nil bytes))

-- two pieces taken one after the other are one piece
more_twice : (taken : Option (List ℕ)) (first second : List ℕ) → with_more (with_more taken first) second ≡ with_more
    taken (first ++ second)
more_twice None first second = refl
more_twice (Some bytes) first second = ap Some (append_assoc bytes first second)

-- what holds, holds where a result is an error
pub on_err : {T E P : Type 0} (r : Result T E) → P → OnErr r P
on_err (Ok x) p = tt
on_err (Err e) p = p

-- what follows from an error's fact
pub map_err : {T E P Q : Type 0} (r : Result T E) → (P → Q) → OnErr r P → OnErr r Q
map_err (Ok x) f p = tt
map_err (Err e) f p = f p

-- nothing was written yet
pub begun : (before : Option (List ℕ)) (whole : List ℕ) → SoFar before before whole whole
begun before whole = record { gained = []; taken = none_more before; text = refl }

-- a piece more
pub more : {before now after : Option (List ℕ)} {whole : List ℕ} (piece rest : List ℕ) → SoFar before now
    (piece ++ rest) whole → after ≡ with_more now piece → SoFar before after rest whole
more {before} {now} {after} {whole} piece rest so_far wrote = record {
  gained = so_far.gained ++ piece;
  taken = wrote ∙ ap (λ (t : Option (List ℕ)). with_more t piece) so_far.taken ∙ more_twice before so_far.gained piece;
  text = append_assoc so_far.gained piece rest ∙ so_far.text;
}

-- nothing is left to write
pub done : {before now : Option (List ℕ)} {whole : List ℕ} → SoFar before now [] whole → now ≡ with_more before whole
done {before} {now} {whole} so_far = so_far.taken ∙ ap (with_more before) (sym (append-nil so_far.gained)
    ∙ so_far.text)

-- a piece that was cut short
pub cut : {before now after : Option (List ℕ)} {whole : List ℕ} (piece rest : List ℕ) → SoFar before now
    (piece ++ rest) whole → TookPrefix now piece after → TookPrefix before whole after
cut {before} {now} {after} {whole} piece rest so_far (n, (within, took)) =
    let gained : List ℕ = so_far.gained in
    let front : gained ++ take n piece ≡ take (length gained + n) whole =
    ap (λ (l : List ℕ). gained ++ l) (sym (take-append-le n piece rest within))
    ∙ sym (take-append-add gained (piece ++ rest) n) ∙ ap (take (length gained + n)) so_far.text
    in (
      length gained + n,
      (
        omega (arith, within, ap length so_far.text, length-append gained (piece ++ rest), length-append piece rest),
        took ∙ ap (λ (t : Option (List ℕ)). with_more t (take n piece)) so_far.taken ∙ more_twice before gained
            (take n piece)
            ∙ ap (with_more before) front,
      ),
    )

-- the last piece, cut short
pub cut_last : {before now after : Option (List ℕ)} {piece whole : List ℕ} → SoFar before now piece whole → TookPrefix
    now piece after → TookPrefix before whole after
cut_last {before} {now} {after} {piece} {whole} so_far took =
    cut piece [] (record {
      gained = so_far.gained;
      taken = so_far.taken;
      text = ap (λ (l : List ℕ). so_far.gained ++ l)
          (append-nil piece) ∙ so_far.text;
    }) took

-- two pieces, of which the second is cut short
pub cut_back : (before one after : Option (List ℕ)) (a b : List ℕ) → one ≡ with_more before a → TookPrefix one b after
    → TookPrefix before (a ++ b) after
cut_back before one after a b first took = cut_last (more a b (begun before (a ++ b)) first) took
