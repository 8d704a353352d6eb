-- A word has a mnemonic exactly where the decoder knows it.
use Rattle.std.proofs.Common.{◌≡◌, ℕ, Bool, ◌||◌, List, [], ◌∷◌, map, is_some, refl, ap, ◌∙◌, inl, inr}
use Rattle.std.specs.List.{find, list_any, zip}
use Rattle.std.specs.Option.{option_map}
use Rattle.std.proofs.lemmas.Bool.{cases_Bool}
use Rattle.std.proofs.lemmas.List.Folds.{list_any-append}
use Rattle.ibx_decoder.specs.Compressed as compressed
use Rattle.ibx_decoder.specs.Compressed.{expand_of}
use Rattle.ibx_decoder.specs.Rows as long
use Rattle.ibx_decoder.specs.Rows.{decode_of}
use Rattle.ibx_decoder.specs.Table.{Row, fits, first_fit}
use Rattle.ibx_asm.specs.declared.rows.Encoding.{Encoding}
use Rattle.ibx_asm.specs.Dis.{pattern_of, patterns, suits, mnemonic_of}
use Rattle.ibx_asm.specs.Mnemonics.{instructions}

-- something is found where some element passes
found_any : {X Y : Type 0} (h : X → Y) (p : X → Bool) (xs : List X) → is_some (option_map h (find p xs))
    ≡ list_any p xs
found_any h p [] = refl
found_any h p (x ∷ xs) = elim (cases_Bool (p x)) [
  | inl f ↦ rw f refl
  | inr f ↦ rw f (found_any h p xs)
]

-- a test of what elements stand for
any_mapped : {X Y : Type 0} (h : X → Y) (p : Y → Bool) (xs : List X) → list_any (λ x. p (h x)) xs ≡ list_any p
    (map h xs)
any_mapped h p [] = refl
any_mapped h p (x ∷ xs) = ap (λ (rest : Bool). p (h x) || rest) (any_mapped h p xs)

-- a row fits where some row's pattern does
fit_any : {A : Type 0} (w : ℕ) (rs : List (Row A)) → list_any (suits w) (map pattern_of rs) ≡ is_some (first_fit w rs)
fit_any w [] = refl
fit_any w (r ∷ rs) = elim (cases_Bool (fits w r)) [
  | inl f ↦ rw f refl
  | inr f ↦ rw f (fit_any w rs)
]

-- the law: the rows of the mnemonics are those of the decoder
pub has_mnemonic : (w : ℕ) → is_some (mnemonic_of w) ≡ (is_some (decode_of w) || is_some (expand_of w))
unfolding mnemonic_of decode_of expand_of
has_mnemonic w =
    found_any {Y = List ℕ × Encoding} (λ r. r.1) (λ r. suits w r.0) (zip patterns instructions)
    ∙ any_mapped (λ r. r.0) (suits w) (zip patterns instructions)
    ∙ list_any-append (suits w) (map pattern_of long.rows) (map pattern_of compressed.rows)
    ∙ ap (λ (rest : Bool). list_any (suits w) (map pattern_of long.rows) || rest) (fit_any w compressed.rows)
    ∙ ap (λ (first : Bool). first || is_some (first_fit w compressed.rows)) (fit_any w long.rows)
