-- What one line of a plan says: our own format.
use Rattle.std.specs.Prelude.{ℕ, Bool, ◌==◌, ◌&&◌, ◌||◌, nat_eq, nat_lt, nat_le, List, [], ◌∷◌, length, codes, Option}
use Rattle.std.specs.Prelude.{Some, None, is_some, unwrap_or, Result, Ok, Err, bit_and, if◌then◌else◌}
use Rattle.std.specs.List.{find, list_all, starts_with}
use Rattle.std.specs.Option.{option_map, option_and_then}
use Rattle.std.specs.Str.{bytes_eq}
use Rattle.ibx_bits.specs.Platform.{interrupt_lines}
use Rattle.ibx_plan.specs.declared.bounds.Bounds.{Bounds}
use Rattle.ibx_plan.specs.declared.bounds.LineKind.{LineKind}
use Rattle.ibx_plan.specs.declared.bounds.LineKind.TheVariants as fault
use Rattle.ibx_plan.specs.declared.entry.Entry.{Entry}
use Rattle.ibx_plan.specs.declared.entry.Entry.TheVariants as entry
use Rattle.ibx_plan.specs.declared.row.Kind.{Kind}
use Rattle.ibx_plan.specs.declared.row.Kind.TheVariants as kind
use Rattle.ibx_plan.specs.declared.row.Row.{Row}
use Rattle.ibx_plan.specs.declared.row.Row.TheVariants as row
use Rattle.ibx_plan.specs.declared.row.Target.{Target}
use Rattle.ibx_plan.specs.declared.row.Target.TheVariants as target
use Rattle.ibx_plan.specs.declared.site.Site.{Site}
use Rattle.ibx_plan.specs.declared.site.Site.TheVariants as site
use Rattle.ibx_plan.specs.Names.{fields, wires, outputs, number_named}
use Rattle.ibx_plan.specs.Sites.{site_fits}
use Rattle.ibx_text.specs.Number.{number_of}
use Rattle.ibx_plan.specs.Text.{word}

-- a line that says nothing: it has no word, or its first word begins with '#'
abbrev pub is_skipped : List (List ℕ) → Bool
is_skipped ws = (length ws == 0) || starts_with nat_eq (word ws 0) (codes "#")

-- the first word of a line of three words
unfoldable pub short_rows : List (List ℕ × Row)
short_rows = (codes "iwait", row.Iwait) ∷ (codes "dwait", row.Dwait) ∷ (codes "irq", row.Irq) ∷ []

-- the third word of a flip's line, what it names, and how many words the line has
unfoldable pub flip_rows : List (List ℕ × Kind × ℕ)
flip_rows =
    (codes "main", kind.Main, 5) ∷ (codes "shadow", kind.Shadow, 5) ∷ (codes "delay", kind.Delay, 6) ∷
    (codes "reg", kind.Reg, 5) ∷ (codes "tag", kind.Tag, 6) ∷ (codes "data", kind.Line, 7) ∷
    (codes "out", kind.Output, 5) ∷ (codes "answer", kind.Answer, 5) ∷ (codes "mem", kind.Mem, 5) ∷ []

-- the site that a flip's line names, but for the numbers in it
unfoldable pub named : Kind → List (List ℕ) → Option Target
named kind.Main ws = option_map target.Main (number_named fields (word ws 3))
named kind.Shadow ws = option_map target.Shadow (number_named fields (word ws 3))
named kind.Delay ws = option_map target.Delay (number_named wires (word ws 4))
named kind.Reg ws = Some target.Reg
named kind.Tag ws = Some target.Tag
named kind.Line ws = Some target.Line
named kind.Output ws = option_map target.Output (number_named outputs (word ws 3))
named kind.Answer ws = Some target.Answer
named kind.Mem ws = Some target.Mem

-- the row of a flip by the name of what it flips: its kind, and how many words its line has
abbrev pub flip_row : List ℕ → Option (Kind × ℕ)
flip_row name = option_map (λ r. (r.1, r.2)) (find (λ r. bytes_eq name r.0) flip_rows)

-- the site that a flip's line names, where it has as many words as that kind wants
unfoldable pub target_of : List (List ℕ) → Option Target
target_of ws = option_and_then (λ r. if length ws == r.1 then named r.0 ws else None) (flip_row (word ws 2))

-- what the words and names of a line say, none where they fit no row
unfoldable pub row_of : List (List ℕ) → Option Row
row_of ws = if bytes_eq (word ws 0) (codes "flip")
    then option_map row.Flip (target_of ws)
    else (if length ws == 3 then option_map (λ r. r.1) (find (λ r. bytes_eq (word ws 0) r.0) short_rows) else None)

-- at which indices a line has numbers
unfoldable pub site_places : Target → List ℕ
site_places (target.Main field) = 4 ∷ []
site_places (target.Shadow field) = 4 ∷ []
site_places (target.Delay wire) = 3 ∷ 5 ∷ []
site_places target.Reg = 3 ∷ 4 ∷ []
site_places target.Tag = 3 ∷ 4 ∷ 5 ∷ []
site_places target.Line = 3 ∷ 4 ∷ 5 ∷ 6 ∷ []
site_places (target.Output wire) = 4 ∷ []
site_places target.Answer = 3 ∷ 4 ∷ []
site_places target.Mem = 3 ∷ 4 ∷ []

-- of a wait and a change the two words behind the first, and of a flip its cycle and the numbers of its site
unfoldable pub number_places : Row → List ℕ
number_places row.Iwait = 1 ∷ 2 ∷ []
number_places row.Dwait = 1 ∷ 2 ∷ []
number_places row.Irq = 1 ∷ 2 ∷ []
number_places (row.Flip place) = 1 ∷ site_places place

-- whether each word at these indices is a number
abbrev pub are_numbers : List (List ℕ) → List ℕ → Bool
are_numbers ws indices = list_all (λ index. is_some (number_of (word ws index))) indices

-- the number at an index
abbrev pub number_at : List (List ℕ) → ℕ → ℕ
number_at ws index = unwrap_or (number_of (word ws index)) 0

-- the site of a line with these numbers
unfoldable pub site_of : Target → (ℕ → ℕ) → Site
site_of (target.Main field) at = site.Main field (at 4)
site_of (target.Shadow field) at = site.Shadow field (at 4)
site_of (target.Delay wire) at = site.Delay (at 3) wire (at 5)
site_of target.Reg at = site.Reg (at 3) (at 4)
site_of target.Tag at = site.Tag (at 3) (at 4) (at 5)
site_of target.Line at = site.Line (at 3) (at 4) (at 5) (at 6)
site_of (target.Output wire) at = site.Output wire (at 4)
site_of target.Answer at = site.Answer (at 3) (at 4)
site_of target.Mem at = site.Mem (at 3) (at 4)

-- the entry of a line with these numbers
unfoldable pub entry_of : Row → (ℕ → ℕ) → Entry
entry_of row.Iwait at = entry.Iwait (record { grant = at 1; answer = at 2 })
entry_of row.Dwait at = entry.Dwait (record { grant = at 1; answer = at 2 })
entry_of row.Irq at = entry.Irq (record { cycle = at 1; mask = at 2 })
entry_of (row.Flip place) at = entry.Flip (record { cycle = at 1; site = site_of place at })

-- whether each number of an entry is in its range
unfoldable pub entry_fits : Bounds → Entry → Bool
entry_fits bounds (entry.Iwait wait) = nat_le wait.grant 255 && nat_le wait.answer 255
entry_fits bounds (entry.Dwait wait) = nat_le wait.grant 255 && nat_le wait.answer 255
entry_fits bounds (entry.Irq change) =
    nat_le change.cycle 1000000000 && (bit_and change.mask interrupt_lines == change.mask)
entry_fits bounds (entry.Flip flip) =
    nat_lt flip.cycle bounds.cycles && site_fits bounds.ram_words bounds.delay flip.site

-- an entry all of whose numbers are in range, or that fault
abbrev pub in_range : Bounds → Entry → Result Entry LineKind
in_range bounds e = if entry_fits bounds e then Ok e else Err fault.Range

-- the entry of a row: an unknown row, a word that is no number, and a number out of range are its faults in that order
unfoldable pub row_entry : Bounds → List (List ℕ) → Option Row → Result Entry LineKind
row_entry bounds ws None = Err fault.Word
row_entry bounds ws (Some r) =
    if are_numbers ws (number_places r) then in_range bounds (entry_of r (number_at ws)) else Err fault.Number

-- the entry of a line with these words, or the first fault that it has: a word, a number, a range
abbrev pub line_entry : Bounds → List (List ℕ) → Result Entry LineKind
line_entry bounds ws = row_entry bounds ws (row_of ws)
