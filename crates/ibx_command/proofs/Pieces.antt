-- The first piece of words, and what is looked for in it.
use Rattle.std.proofs.Common.{◌≡◌, ℕ, true, false, List, [], ◌∷◌, map, ◌||◌, length, refl, ap, sym, ◌∙◌, arith}
use Rattle.std.specs.List.{list_any}
use Rattle.std.specs.Str.{bytes_eq}
use Rattle.ibx_command.specs.Parts.{FilePiece, SettingPiece, BarePiece, is_dashed, pieces_behind, pieces_of}

-- no words stand for no pieces
none_first : pieces_of [] ≡ []
unfolding pieces_behind
none_first = refl

-- a first word that doesn't begin with '-' is a file, and the words behind it are read by themselves
file_first : (word : List ℕ) (more : List (List ℕ)) → is_dashed word ≡ false → pieces_of (word ∷ more) ≡ FilePiece word
    ∷ pieces_of more
unfolding pieces_behind
file_first word more h = rw h

-- a first word that begins with '-' takes the next one as its value, however that one begins
setting_first : (word value : List ℕ) (more : List (List ℕ)) → is_dashed word ≡ true → pieces_of (word ∷ value ∷ more)
    ≡ SettingPiece word value ∷ pieces_of more
unfolding pieces_behind
setting_first word value more h = rw h

-- a word that begins with '-' and that no other follows is an option without a value
bare_first : (word : List ℕ) → is_dashed word ≡ true → pieces_of (word ∷ []) ≡ BarePiece ∷ []
unfolding pieces_behind
bare_first word h = rw h

-- the same for words that are texts by f
pub nothing_read : {X : Type 0} (f : X → List ℕ) (words : List X) → length words ≡ 0 → pieces_of (map f words) ≡ []
nothing_read f [] e = none_first
nothing_read f (word ∷ more) e = absurd (omega arith)

-- a first text that doesn't begin with '-' is read as a file, in front of the pieces of the others
pub file_read : {X : Type 0} (f : X → List ℕ) (words : List X) (word : X) (more : List X) → words ≡ word ∷ more →
    is_dashed (f word) ≡ false → pieces_of (map f words) ≡ FilePiece (f word) ∷ pieces_of (map f more)
file_read f words word more e h = ap (λ ws. pieces_of (map f ws)) e ∙ file_first (f word) (map f more) h

-- a first text that begins with '-' is read as an option whose value is the second text
pub setting_read : {X : Type 0} (f : X → List ℕ) (words : List X) (word : X) (more : List X) (value : X)
    (later : List X) → words ≡ word ∷ more → more ≡ value ∷ later → is_dashed (f word) ≡ true → pieces_of (map f words)
    ≡ SettingPiece (f word) (f value) ∷ pieces_of (map f later)
setting_read f words word more value later e d h = ap (λ ws. pieces_of (map f ws)) (e ∙ ap (λ ws. word ∷ ws) d) ∙
    setting_first (f word) (f value) (map f later) h

-- a text that begins with '-' and that no other follows is read as an option without a value
pub bare_read : {X : Type 0} (f : X → List ℕ) (words : List X) (word : X) (more : List X) → words ≡ word ∷ more →
    length more ≡ 0 → is_dashed (f word) ≡ true → pieces_of (map f words) ≡ BarePiece ∷ pieces_of (map f more)
bare_read f words word [] e d h = ap (λ ws. pieces_of (map f ws)) e ∙ bare_first (f word) h ∙ ap (λ ps. BarePiece ∷ ps)
    (sym none_first)
bare_read f words word (value ∷ later) e d h = absurd (omega arith)

-- whether a name is among texts
pub listed_text : {X : Type 0} (f : X → List ℕ) (name : List ℕ) (xs : List X) → list_any (λ known. bytes_eq known name)
    (map f xs) ≡ list_any (λ x. bytes_eq (f x) name) xs
listed_text f name [] = refl
listed_text f name (x ∷ xs) = ap (λ b. bytes_eq (f x) name || b) (listed_text f name xs)
