-- What a plan holds, and what a text says of it: our own format.
use Rattle.std.specs.Prelude.{◌≡◌, ℕ, ◌+◌, ◌-◌, ◌<◌, Bool, true, ◌&&◌, IsTrue, nat_lt, nat_le, List, [], ◌∷◌, ◌++◌}
use Rattle.std.specs.Prelude.{length, reverse, Option, Some, None, is_none, Result, Ok, Err, slice_get, if◌then◌else◌}
use Rattle.std.specs.List.{find, filter_map}
use Rattle.std.specs.Option.{option_map_or, option_to_list}
use Rattle.std.specs.Result.{result_ok}
use Rattle.std.specs.Str.Lines.{lines}
use Rattle.ibx_plan.specs.declared.bounds.Bounds.{Bounds}
use Rattle.ibx_plan.specs.declared.bounds.LineKind.{LineKind}
use Rattle.ibx_plan.specs.declared.bounds.LineKind.TheVariants as kind
use Rattle.ibx_plan.specs.declared.bounds.PlanFault.{PlanFault}
use Rattle.ibx_plan.specs.declared.bounds.PlanFault.TheVariants as fault
use Rattle.ibx_plan.specs.declared.entry.Change.{Change}
use Rattle.ibx_plan.specs.declared.entry.Entry.{Entry}
use Rattle.ibx_plan.specs.declared.entry.Entry.TheVariants as entry
use Rattle.ibx_plan.specs.declared.site.Flip.{Flip}
use Rattle.ibx_plan.specs.declared.site.Wait.{Wait}
use Rattle.ibx_plan.specs.Line.{is_skipped, line_entry}
use Rattle.ibx_plan.specs.Sites.{site_fits}
use Rattle.ibx_plan.specs.Text.{words}

-- a plan: the waits of each port, the changes of the interrupt lines, and the one flip
pub record PlanValue : Type 0 where
  pub iwaits : List Wait
  pub dwaits : List Wait
  pub changes : List Change
  pub flip : Option Flip

-- no waits, no changes and no flip
abbrev pub empty_plan : PlanValue
empty_plan = record { iwaits = []; dwaits = []; changes = []; flip = None }

-- the last change at or before a cycle
abbrev pub change_at : List Change → ℕ → Option Change
change_at changes cycle = find (λ change. nat_le change.cycle cycle) (reverse changes)

-- the interrupt lines in a cycle, 0 before the first change
abbrev pub lines_at : List Change → ℕ → ℕ
lines_at changes cycle = option_map_or (λ change. change.mask) (change_at changes cycle) 0

-- goes on with a value, or ends with the first fault
abbrev pub and_then : {A B : Type 0} → Result A PlanFault → (A → Result B PlanFault) → Result B PlanFault
and_then (Ok x) f = f x
and_then (Err e) f = Err e

-- a list with one more entry, of which there are at most 65,536
abbrev pub appended : {T : Type 0} → List T → T → ℕ → Result (List T) PlanFault
appended entries e line = if nat_lt (length entries) 65536 then Ok (entries ++ e ∷ []) else Err (fault.TooMany line)

-- whether a change comes after the last one so far
abbrev pub follows : List Change → Change → Bool
follows changes change =
    option_map_or (λ last. nat_lt last.cycle change.cycle) (slice_get changes (length changes - 1)) true

-- the plan with the entry of the line of this number
unfoldable pub plan_with_entry : Bounds → ℕ → PlanValue → Entry → Result PlanValue PlanFault
plan_with_entry bounds line plan (entry.Iwait wait) =
    and_then (appended plan.iwaits wait line) (λ more. Ok (record plan { iwaits = more }))
plan_with_entry bounds line plan (entry.Dwait wait) =
    and_then (appended plan.dwaits wait line) (λ more. Ok (record plan { dwaits = more }))
plan_with_entry bounds line plan (entry.Irq change) = if follows plan.changes change
    then and_then (appended plan.changes change line) (λ more. Ok (record plan { changes = more }))
    else Err (fault.Line line kind.Order)
plan_with_entry bounds line plan (entry.Flip flip) = if nat_lt 0 bounds.flips && is_none plan.flip
    then Ok (record plan { flip = Some flip })
    else Err (fault.Line line kind.Flip)

-- the plan with what a line says, where that is an entry, or the line's fault
abbrev pub with_said : Bounds → ℕ → PlanValue → Result Entry LineKind → Result PlanValue PlanFault
with_said bounds line plan (Ok e) = plan_with_entry bounds line plan e
with_said bounds line plan (Err k) = Err (fault.Line line k)

-- the plan with the line of this number
unfoldable pub with_line : Bounds → ℕ → PlanValue → List ℕ → Result PlanValue PlanFault
with_line bounds line plan text =
    if is_skipped (words text) then Ok plan else with_said bounds line plan (line_entry bounds (words text))

-- the plan with the lines from this number on: the first that is refused decides
unfoldable pub with_lines : Bounds → ℕ → PlanValue → List (List ℕ) → Result PlanValue PlanFault
with_lines bounds line plan [] = Ok plan
with_lines bounds line plan (text ∷ more) =
    and_then (with_line bounds line plan text) (λ next. with_lines bounds (line + 1) next more)

-- a plan is to have the flip that the run takes
abbrev pub with_flip : Bounds → PlanValue → Result PlanValue PlanFault
with_flip bounds plan = if nat_lt 0 bounds.flips && is_none plan.flip then Err fault.NoFlip else Ok plan

-- the plan that a text writes, or why it is refused; lines are counted from 1
unfoldable pub plan_of : Bounds → List ℕ → Result PlanValue PlanFault
plan_of bounds text = and_then (with_lines bounds 1 empty_plan (lines text)) (with_flip bounds)

-- the entry of a line, none of a line that says nothing
abbrev pub said : Bounds → List ℕ → Option Entry
said bounds text = if is_skipped (words text) then None else result_ok (line_entry bounds (words text))

-- the entries of a text's lines
abbrev pub entries_of : Bounds → List ℕ → List Entry
entries_of bounds text = filter_map (said bounds) (lines text)

-- what an entry says of one list alone: a wait of the instruction port, of the data port, a change of the interrupt
-- lines, and the flip
abbrev pub iwait_of : Entry → Option Wait
iwait_of (entry.Iwait wait) = Some wait
iwait_of _ = None

-- a dwait line: of one transaction of the data port, the cycles to its grant, and from there to its answer
abbrev pub dwait_of : Entry → Option Wait
dwait_of (entry.Dwait wait) = Some wait
dwait_of _ = None

-- an irq line: from its cycle on the interrupt lines are its mask
abbrev pub change_of : Entry → Option Change
change_of (entry.Irq change) = Some change
change_of _ = None

-- a flip line: the cycle, and the site of the bit that flips
abbrev pub planned_flip : Entry → Option Flip
planned_flip (entry.Flip flip) = Some flip
planned_flip _ = None

-- a plan holds these entries, each kind in its order, and no others
pub record Holds (plan : PlanValue) (entries : List Entry) : Type 0 where
  pub iwaits : plan.iwaits ≡ filter_map iwait_of entries
  pub dwaits : plan.dwaits ≡ filter_map dwait_of entries
  pub changes : plan.changes ≡ filter_map change_of entries
  pub flips : option_to_list plan.flip ≡ filter_map planned_flip entries

-- the flip is made in a cycle of the run, at a bit that there is
pub record FlipFits (bounds : Bounds) (flip : Flip) : Type 0 where
  pub cycle : flip.cycle < bounds.cycles
  pub site : IsTrue (site_fits bounds.ram_words bounds.delay flip.site)

-- a fault is the one that is wanted; want of memory may come at any time
abbrev pub Fails : {A : Type 0} → PlanFault → Result A PlanFault → Type 0
Fails fault.Memory wanted = Unit {0}
Fails fault.NoFlip wanted = wanted ≡ Err fault.NoFlip
Fails (fault.TooMany line) wanted = wanted ≡ Err (fault.TooMany line)
Fails (fault.Line line k) wanted = wanted ≡ Err (fault.Line line k)

-- an answer is the one that is wanted, unless memory ran out
abbrev pub ReadsPlan : {A : Type 0} → Result A PlanFault → Result A PlanFault → Type 0
ReadsPlan (Ok x) wanted = wanted ≡ Ok x
ReadsPlan (Err e) wanted = Fails e wanted

-- the same of a call that leaves a value behind
abbrev pub Leaves : {A : Type 0} → Result (Unit {0}) PlanFault → A → Result A PlanFault → Type 0
Leaves (Ok _) left wanted = wanted ≡ Ok left
Leaves (Err e) left wanted = Fails e wanted
