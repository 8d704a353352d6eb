-- What the reader's own types stand for.
use Rattle.std.specs.Prelude.{◌≡◌, ℕ, ◌≤◌, List, [], ◌∷◌, length, Option}
use Rattle.std.specs.List.{filter_map}
use Rattle.ibx_command.specs.declared.parts.Part.{Part}
use Rattle.ibx_command.specs.declared.parts.Part.TheVariants.{File, Setting, Bare}
use Rattle.ibx_command.specs.declared.parts.Wanted.{Wanted}
use Rattle.ibx_command.specs.declared.parts.Wanted.TheVariants.{AnyFile, ValueOf}
use Rattle.ibx_command.specs.declared.parts.Found.{Found}
use Rattle.ibx_command.specs.declared.parts.Found.TheVariants.{Nothing, One, Several}
use Rattle.ibx_command.specs.declared.numbers.NumberOption.{NumberOption}
use Rattle.ibx_command.specs.Numbers.{NumberRule}
use Rattle.ibx_command.specs.Parts.{Piece, FilePiece, SettingPiece, BarePiece, file_of, value_of}

-- what a part stands for
abbrev pub piece_of : Part → Piece
piece_of (File word) = FilePiece word.now
piece_of (Setting name value) = SettingPiece name.now value.now
piece_of Bare = BarePiece

-- the text that a piece gives to what is looked for
abbrev pub text_for : Wanted → Piece → Option (List ℕ)
text_for AnyFile = file_of
text_for (ValueOf name) = value_of name.now

-- all texts that pieces give to what is looked for
abbrev pub texts_for : Wanted → List Piece → List (List ℕ)
texts_for wanted = filter_map (text_for wanted)

-- what was found is what these texts are
abbrev pub IsFoundIn : Found → List (List ℕ) → Type 0
IsFoundIn Nothing texts = texts ≡ []
IsFoundIn (One text) texts = texts ≡ text.now ∷ []
IsFoundIn Several texts = 2 ≤ length texts

-- what an option of the table says
abbrev pub rule_of : NumberOption → NumberRule
rule_of option = record { name = option.name.now; default = option.default; least = option.least; most = option.most }
