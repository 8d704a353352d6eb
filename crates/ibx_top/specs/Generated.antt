-- What is printed of the run of a program that a number gives. The format is our own rule.
use Rattle.std.specs.Prelude.{ℕ, ◌%◌, ◌^◌, ◌==◌, if◌then◌else◌, List, ◌++◌, codes}
use Rattle.std.specs.Fmt.{decimal}
use Rattle.std.specs.List.{sum_by}
use Rattle.ibx_isa.specs.declared.event.Event.{Event}
use Rattle.ibx_isa.specs.declared.event.Event.TheVariants.{Retire}
use Rattle.ibx_text.specs.Digits.{hex_digits}
use Rattle.ibx_top.specs.TimedStories.{TimedStory}
use Rattle.ibx_top.specs.Texts.{last_line}

-- the value that an event wrote to a register, and 0 where it wrote none
abbrev pub written : Event → ℕ
written (Retire cycle pc word rd value mem ctl ops) = if rd == 0 then 0 else value
written _ = 0

-- the sum of the values that events wrote to registers, modulo 2^32
unfoldable pub written_sum : List Event → ℕ
written_sum events = sum_by written events % 2 ^ 32

-- the line of the number with the count of the program's words, and the line of the sum
unfoldable pub sum_lines : ℕ → ℕ → List ℕ
sum_lines seed total = codes "gen " ++ decimal seed ++ codes " 4105\nsum " ++ hex_digits 8 total ++ codes "\n"

-- both lines, then the last line of the story
unfoldable pub sum_text : ℕ → ℕ → TimedStory → List ℕ
sum_text seed budget story = sum_lines seed (written_sum story.events) ++ last_line budget story
