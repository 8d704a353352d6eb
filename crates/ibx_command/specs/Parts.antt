-- The words after a command, as files and options (the grammar is our own rule).
use Rattle.std.specs.Prelude.{ℕ, Bool, false, not, ◌&&◌, nat_lt, nat_eq, List, [], ◌∷◌, length, codes, Option, Some}
use Rattle.std.specs.Prelude.{None, if◌then◌else◌}
use Rattle.std.specs.List.{starts_with, list_all, list_any, filter_map}
use Rattle.std.specs.Str.{bytes_eq}

-- what words stand for: a file, an option by its name with its value, or an option that no word follows
pub data Piece : Type 0 where
  FilePiece : List ℕ → Piece
  SettingPiece : List ℕ → List ℕ → Piece
  BarePiece : Piece

-- whether a word begins with '-'
abbrev pub is_dashed : List ℕ → Bool
is_dashed word = starts_with nat_eq word (codes "-")

-- what words stand for, behind an option's name whose value is to come or behind none: a word that begins with
-- '-' is an option's name, the word behind it is its value, and each other word is a file
unfoldable pub pieces_behind : Option (List ℕ) → List (List ℕ) → List Piece
pieces_behind None [] = []
pieces_behind (Some name) [] = BarePiece ∷ []
pieces_behind None (word ∷ more) =
    if is_dashed word then pieces_behind (Some word) more else FilePiece word ∷ pieces_behind None more
pieces_behind (Some name) (word ∷ more) = SettingPiece name word ∷ pieces_behind None more

-- what the words after a command stand for
abbrev pub pieces_of : List (List ℕ) → List Piece
pieces_of = pieces_behind None

-- whether a piece fits a command with these options: a file has a name, and a value doesn't begin with '-'
unfoldable pub piece_fits : List (List ℕ) → Piece → Bool
piece_fits names (FilePiece word) = nat_lt 0 (length word)
piece_fits names (SettingPiece name value) = list_any (λ known. bytes_eq known name) names && not (is_dashed value)
piece_fits names BarePiece = false

-- whether all of them fit
abbrev pub all_fit : List (List ℕ) → List Piece → Bool
all_fit names = list_all (piece_fits names)

-- the file that a piece is
abbrev pub file_of : Piece → Option (List ℕ)
file_of (FilePiece word) = Some word
file_of (SettingPiece name value) = None
file_of BarePiece = None

-- the value that a piece gives to the option of this name
abbrev pub value_of : List ℕ → Piece → Option (List ℕ)
value_of wanted (FilePiece word) = None
value_of wanted (SettingPiece name value) = if bytes_eq name wanted then Some value else None
value_of wanted BarePiece = None

-- all files, in order
abbrev pub files_of : List Piece → List (List ℕ)
files_of = filter_map file_of

-- all values of the option of this name, in order
abbrev pub values_of : List ℕ → List Piece → List (List ℕ)
values_of name = filter_map (value_of name)

-- the one word of a list, none where it has none or several
abbrev pub only : List (List ℕ) → Option (List ℕ)
only [] = None
only (word ∷ []) = Some word
only (word ∷ another ∷ more) = None

-- the two words of a list, none where it has fewer or more
unfoldable pub both : List (List ℕ) → Option (List ℕ × List ℕ)
both [] = None
both (first ∷ []) = None
both (first ∷ second ∷ []) = Some (first, second)
both (first ∷ second ∷ third ∷ more) = None
