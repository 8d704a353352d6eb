-- What a run prints (the format is our own).
use Rattle.std.specs.Prelude.{ℕ, List, ◌++◌, length, flat_map, if◌then◌else◌}
use Rattle.ibx_trace.specs.Lines.{line_of, end_line_of}
use Rattle.ibx_story.specs.Stories.{cycles_passed}
use Rattle.ibx_top.specs.TimedStories.{TimedStory}

-- the last line: the cycle after the halting store's and else the budget, and the number of events
unfoldable pub last_line : ℕ → TimedStory → List ℕ
last_line budget story =
    end_line_of story.halted (if story.halted then cycles_passed 0 story.events else budget) (length story.events)

-- one line for each event, then the last line
unfoldable pub story_text : ℕ → TimedStory → List ℕ
story_text budget story = flat_map line_of story.events ++ last_line budget story
