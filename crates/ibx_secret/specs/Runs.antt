-- Two whole runs on images that agree off the secret bytes.
use Rattle.std.specs.Prelude.{◌≡◌, ℕ, ◌≤◌, Bool, false, ◌||◌, List, [], ◌∷◌, take, length, true, nat_lt, Option, Some}
use Rattle.std.specs.Prelude.{None, if◌then◌else◌}
use Rattle.ibx_elf.specs.declared.ram.Ram.{Ram}
use Rattle.ibx_elf.specs.Image.{Placed, image_byte}
use Rattle.ibx_isa.specs.declared.insn.MulKind.{MulKind}
use Rattle.ibx_isa.specs.declared.event.Event.{Event}
use Rattle.ibx_isa.specs.Views.{view_of}
use Rattle.ibx_time.specs.Settings.{Settings, Setup, settings_of}
use Rattle.ibx_time.specs.Controls.{Ctl, ctl_reset, ctl_after}
use Rattle.ibx_time.specs.History.{history, story, halts, Story, admission, event_at, told_below}
use Rattle.ibx_time.specs.Cycles.{cycle_of}
use Rattle.ibx_secret.specs.Marks.{Marks, marks_of, marks_after, is_within}
use Rattle.ibx_secret.specs.Leaks.{leaks, is_marked_half}
use Rattle.ibx_secret.specs.Twins.{SameTime}

-- one of these events leaks, with the marks before the first of them
unfoldable pub has_leak : Ram → MulKind → Marks → List Event → Bool
has_leak ram mul m [] = false
has_leak ram mul m (e ∷ es) = leaks mul m e || has_leak ram mul (marks_after ram m e) es

-- the events of two runs have the same times and cycles, one by one, with the registers before the first of them
abbrev pub AreTimedAlike : Settings → Ctl → List Event → List Event → Type 0
AreTimedAlike k c [] [] = Unit {0}
AreTimedAlike k c (e ∷ es) (f ∷ fs) =
    SameTime k c e f × ((cycle_of e ≡ cycle_of f) × AreTimedAlike k (ctl_after c (view_of e)) es fs)
AreTimedAlike k c es fs = ⊥

-- two images agree off so many bytes from a first on
pub record AgreeImages (first size : ℕ) (a b : Placed) : Type 0 where
  pub entry : a.entry ≡ b.entry
  pub byte : (x : ℕ) → is_within first size x ≡ false → image_byte a x ≡ image_byte b x

-- Whatever the secret bytes are: of two runs with equal settings on images that agree off these bytes, the first j
-- events have the same times and cycles, where none of the first run's leaks.
abbrev pub IsEven : Type 0
IsEven =
    (a b : Setup) → settings_of a ≡ settings_of b → (first size : ℕ) → AgreeImages first size a.image b.image
    → (n j : ℕ) → j ≤ length (history a n)
    → has_leak a.image.ram a.mul (marks_of first size) (take j (history a n)) ≡ false
    → AreTimedAlike (settings_of a) ctl_reset (take j (history a n)) (take j (history b n))

-- so it is of the first j events of the stories, which end with the first halting store
abbrev pub IsEvenStory : Type 0
IsEvenStory =
    (a b : Setup) → settings_of a ≡ settings_of b → (first size : ℕ) → AgreeImages first size a.image b.image
    → (n j : ℕ) → j ≤ length (story a n)
    → has_leak a.image.ram a.mul (marks_of first size) (take j (story a n)) ≡ false
    → AreTimedAlike (settings_of a) ctl_reset (take j (story a n)) (take j (story b n))

-- one of these events halts
unfoldable pub has_halt : List Event → Bool
has_halt [] = false
has_halt (e ∷ es) = halts e || has_halt es

-- where the first run's story halts and nothing of it leaks, the second run's story has as many events, all with the
-- same times and cycles
abbrev pub IsEvenToHalt : Type 0
IsEvenToHalt =
    (a b : Setup) → settings_of a ≡ settings_of b → (first size : ℕ) → AgreeImages first size a.image b.image
    → (n : ℕ) → has_halt (story a n) ≡ true
    → has_leak a.image.ram a.mul (marks_of first size) (story a n) ≡ false
    → AreTimedAlike (settings_of a) ctl_reset (story a n) (story b n)

-- the marks after events
unfoldable pub marks_end : Ram → Marks → List Event → Marks
marks_end ram m [] = m
marks_end ram m (e ∷ es) = marks_end ram (marks_after ram m e) es

-- the event that an item would have leaks; a dummy has none
abbrev pub leaks_in : MulKind → Marks → Option Event → Bool
leaks_in mul m None = false
leaks_in mul m (Some e) = leaks mul m e

-- What follows a story below a cycle leaks: the first parcel at its program counter was ever marked, which decides how
-- many words are waited for, or an item was admitted and isn't done, and its event would leak.
unfoldable pub open_leaks : Setup → ℕ → Marks → Story → Bool
open_leaks s limit m h =
    is_marked_half m h.state.pc
    || (if nat_lt (admission s limit h) limit then leaks_in s.mul m (event_at s limit
    (admission s limit h) h) else false)

-- where nothing of a history leaks, nor what follows it below the cycle that ends it, the second run's history and
-- story
-- have as many events, all with the same times and cycles
abbrev pub IsEvenToBudget : Type 0
IsEvenToBudget =
    (a b : Setup) → settings_of a ≡ settings_of b → (first size : ℕ) → AgreeImages first size a.image b.image
    → (n : ℕ) → has_leak a.image.ram a.mul (marks_of first size) (history a n) ≡ false
    → open_leaks a n (marks_end a.image.ram (marks_of first size) (history a n)) (told_below a n).story ≡ false
    → AreTimedAlike (settings_of a) ctl_reset (history a n) (history b n)
    × AreTimedAlike (settings_of a) ctl_reset (story a n) (story b n)
