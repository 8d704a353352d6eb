-- Each mask of a plan that a text writes fits a word of 32 bits.
use Rattle.std.proofs.Common.{◌≡◌, ℕ, ◌==◌, ◌<◌, ◌^◌, Bool, true, false, cond, List, [], ◌∷◌, Option, Some, None}
use Rattle.std.proofs.Common.{IfSome, Result, Ok, Err, refl, arith}
use Rattle.std.specs.Prelude.{bit_and}
use Rattle.std.specs.Int.Bits.{and_le_r}
use Rattle.std.specs.List.{All, filter_map, cons_option}
use Rattle.std.specs.Result.{result_ok}
use Rattle.std.specs.Str.Lines.{lines}
use Rattle.std.proofs.lemmas.Bool.{eqb-true}
use Rattle.std.proofs.lemmas.List.Elements.{All-nil, All-cons, All-same}
use Rattle.ibx_bits.specs.Platform.{interrupt_lines}
use Rattle.ibx_plan.specs.declared.bounds.Bounds.{Bounds}
use Rattle.ibx_plan.specs.declared.bounds.LineKind.{LineKind}
use Rattle.ibx_plan.specs.declared.bounds.LineKind.TheVariants as kind
use Rattle.ibx_plan.specs.declared.entry.Change.{Change}
use Rattle.ibx_plan.specs.declared.entry.Entry.{Entry}
use Rattle.ibx_plan.specs.declared.entry.Entry.TheVariants as entry
use Rattle.ibx_plan.specs.declared.row.Row.{Row}
use Rattle.ibx_plan.specs.Line.{is_skipped, line_entry, row_entry, row_of, entry_fits, in_range, are_numbers}
use Rattle.ibx_plan.specs.Line.{number_places, entry_of, number_at}
use Rattle.ibx_plan.specs.Plan.{PlanValue, empty_plan, plan_of, said, entries_of, change_of}
use Rattle.ibx_plan.specs.Text.{words}
use Rattle.ibx_plan.proofs.Entries.{plan_holds}
use Rattle.ibx_plan.proofs.Flips.{both}

-- the mask of a change fits a word
abbrev pub IsWord : Change → Type 0
IsWord change = change.mask < 2 ^ 32

-- the mask of an entry fits a word, if the entry is a change
abbrev pub HasWord : Entry → Type 0
HasWord e = IfSome (change_of e) IsWord

-- the same of what was read, if that is an entry
abbrev pub GivesWord : Result Entry LineKind → Type 0
GivesWord r = IfSome (result_ok r) HasWord

-- a mask of the interrupt lines alone fits a word
mask_fits : (mask : ℕ) → (bit_and mask interrupt_lines == mask) ≡ true → mask < 2 ^ 32
mask_fits mask h =
    let same = eqb-true (bit_and mask interrupt_lines) mask h in omega (arith, same, and_le_r mask interrupt_lines)

-- so does the mask of an entry whose numbers are in their ranges
entry_word : (bounds : Bounds) (e : Entry) → entry_fits bounds e ≡ true → HasWord e
unfolding entry_fits
entry_word bounds (entry.Iwait wait) h = tt
entry_word bounds (entry.Dwait wait) h = tt
entry_word bounds (entry.Irq change) h = mask_fits change.mask (both _ _ h).1
entry_word bounds (entry.Flip flip) h = tt

-- the test of the ranges lets no other entry through
range_word : (bounds : Bounds) (e : Entry) (b : Bool) → entry_fits bounds e ≡ b
    → GivesWord (cond b (Ok e) (Err kind.Range))
range_word bounds e true h = entry_word bounds e h
range_word bounds e false h = tt

-- nor does it behind the test of the numbers
number_word : (bounds : Bounds) (e : Entry) (b : Bool) → GivesWord (cond b (in_range bounds e) (Err kind.Number))
number_word bounds e true = range_word bounds e (entry_fits bounds e) refl
number_word bounds e false = tt

-- so it is for the entry of a row
row_word : (bounds : Bounds) (ws : List (List ℕ)) (r : Option Row) → GivesWord (row_entry bounds ws r)
unfolding row_entry
row_word bounds ws None = tt
row_word bounds ws (Some r) = number_word bounds (entry_of r (number_at ws)) (are_numbers ws (number_places r))

-- a line that says nothing has no entry
skip_word : (b : Bool) (r : Result Entry LineKind) → GivesWord r → IfSome (cond b None (result_ok r)) HasWord
skip_word true r h = tt
skip_word false r h = h

-- so it is for what a line says
said_word : (bounds : Bounds) (text : List ℕ) → IfSome (said bounds text) HasWord
said_word bounds text =
    skip_word (is_skipped (words text)) (line_entry bounds (words text))
    (row_word bounds (words text) (row_of (words text)))

-- a change that there may be, in front of others
change_words : (o : Option Change) (changes : List Change) → IfSome o IsWord → All IsWord changes
    → All IsWord (cons_option o changes)
change_words None changes h all = all
change_words (Some change) changes h all = All-cons IsWord change changes h all

-- the same of an entry
entry_words : (o : Option Entry) (es : List Entry) → IfSome o HasWord → All IsWord (filter_map change_of es)
    → All IsWord (filter_map change_of (cons_option o es))
entry_words None es h all = all
entry_words (Some e) es h all = change_words (change_of e) (filter_map change_of es) h all

-- so it is for the changes that all lines say
lines_words : (bounds : Bounds) (text : List (List ℕ))
    → All IsWord (filter_map change_of (filter_map (said bounds) text))
lines_words bounds [] = All-nil IsWord
lines_words bounds (line ∷ more) =
    entry_words (said bounds line) (filter_map (said bounds) more) (said_word bounds line) (lines_words bounds more)

-- each mask of a plan that a text writes fits a word
pub plan_words : (bounds : Bounds) (text : List ℕ) (plan : PlanValue) → plan_of bounds text ≡ Ok plan
    → All (λ c. c.mask < 2 ^ 32) plan.changes
plan_words bounds text plan h =
    All-same IsWord plan.changes (filter_map change_of (entries_of bounds text))
    (plan_holds (Ok plan) bounds text h).changes (lines_words bounds (lines text))

-- the empty plan has no mask
pub empty_plan_words : All (λ c. c.mask < 2 ^ 32) empty_plan.changes
empty_plan_words = All-nil IsWord
