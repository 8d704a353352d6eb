-- How two runs compare by the views of their events, and what is printed of it (the format and the seal are our own
-- rules).
use Rattle.std.specs.Prelude.{◌≡◌, ℕ, ◌+◌, ◌%◌, ◌^◌, Bool, true, false, List, ◌++◌, codes, map, take, Option, Some}
use Rattle.std.specs.Prelude.{None, if◌then◌else◌}
use Rattle.std.specs.Fmt.{decimal}
use Rattle.ibx_isa.specs.declared.event.View.{View}
use Rattle.ibx_isa.specs.Views.{view_of}
use Rattle.ibx_trace.specs.ViewLines.{view_line_of}
use Rattle.ibx_core.specs.declared.state.State.{State}
use Rattle.ibx_system.specs.Core.{core_parts}
use Rattle.ibx_system.specs.Runs.{run}
use Rattle.ibx_system.specs.System.{Whole}
use Rattle.ibx_time.specs.Cycles.{cycle_of}
use Rattle.ibx_time.specs.Settings.{Setup, settings_of}
use Rattle.ibx_compare.specs.declared.comparison.Twin.{Twin}
use Rattle.ibx_compare.specs.declared.comparison.Twin.TheVariants.{Same, Differ}
use Rattle.ibx_compare.specs.Twins.{first_difference, index_of, told_cycles}
use Rattle.ibx_top.specs.Seals.{seal_of}
use Rattle.ibx_top.specs.TimedStories.{TimedStory, timed_story}

-- ---- the answer

-- the views of a story's events
abbrev pub views_in : TimedStory → List View
views_in story = map view_of story.events

-- the cycles in which they are done
abbrev pub cycles_in : TimedStory → List ℕ
cycles_in story = map cycle_of story.events

-- how the stories of two runs compare: how many views they have, where they are the same, and else the first index at
-- which the views differ or one story has ended, with both views
abbrev pub compared : ℕ → Setup → Setup → Twin
compared budget s t = first_difference 0 (views_in (timed_story s budget)) (views_in (timed_story t budget))

-- whether there is a difference
abbrev pub differs : Twin → Bool
differs (Same n) = false
differs (Differ at x y) = true

-- the status
abbrev pub twin_code : Bool → ℕ
twin_code differ = if differ then 9 else 0

-- ---- the text

-- the line of a number of events
unfoldable pub same_line : ℕ → List ℕ
same_line n = codes "same " ++ decimal n ++ codes "\n"

-- the line of an index
unfoldable pub differ_line : ℕ → List ℕ
differ_line at = codes "differ " ++ decimal at ++ codes "\n"

-- the line of one side: its view there, or that its story has ended
unfoldable pub side_line : List ℕ → Option View → List ℕ
side_line name None = name ++ codes "end\n"
side_line name (Some v) = name ++ view_line_of v

-- the three lines of a difference
abbrev pub difference_text : ℕ → Option View → Option View → List ℕ
difference_text at x y = differ_line at ++ side_line (codes "a ") x ++ side_line (codes "b ") y

-- what is printed of a comparison
unfoldable pub twin_text : Twin → List ℕ
twin_text (Same n) = same_line n
twin_text (Differ at x y) = difference_text at x y

-- ---- the seal

-- the sum over main's fields of a system that was told up to its event of an index, or to its end where it has none
abbrev pub told_sum : ℕ → ℕ → Whole State → ℕ
told_sum cycles index w = seal_of (run core_parts w None (told_cycles cycles index w)).main

-- the sums of both, modulo 2^64
unfoldable pub twin_seal : ℕ → Twin → Whole State → Whole State → ℕ
twin_seal cycles twin a b = (told_sum cycles (index_of twin) a + told_sum cycles (index_of twin) b) % 2 ^ 64

-- ---- the cycles

-- the cycles are the same as far as an answer says that the views are: all, or those before the difference
abbrev pub AgreeAsFar : Twin → List ℕ → List ℕ → Type 0
AgreeAsFar (Same n) xs ys = xs ≡ ys
AgreeAsFar (Differ at x y) xs ys = take at xs ≡ take at ys

-- so it is of every two runs with equal configuration and plan, whatever the images are
abbrev pub TwinsAgreeInTime : Type 0
TwinsAgreeInTime =
    (s t : Setup) (budget : ℕ) → settings_of s ≡ settings_of t
    → AgreeAsFar (compared budget s t) (cycles_in (timed_story s budget)) (cycles_in (timed_story t budget))
