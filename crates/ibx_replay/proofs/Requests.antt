-- A request keeps what the numbers stand for.
use Rattle.std.proofs.Common.{◌≡◌, ℕ, ◌+◌, Bool, true, false, not, ◌&&◌, ◌||◌}
use Rattle.std.proofs.Common.{◌==◌, List, Option, Some, None, refl, sym, ap, ap₂, ◌∙◌}
use Rattle.std.proofs.Common.{nat_le, if◌then◌else◌}
use Rattle.std.proofs.lemmas.Bool.{eqb-true, and_parts}
use Rattle.ibx_time.specs.Requests.{Fill, slot_of, last_fill, found_slot, victim, victim_by}
use Rattle.ibx_time.specs.Requests.{is_present, in_way, holds_line, other_way}
use Rattle.ibx_replay.specs.Fetches.{Line, line_here, first_line, found, is_standing}
use Rattle.ibx_replay.specs.Fetches.{way_for}
use Rattle.ibx_replay.proofs.Slots.{IsLog, starts, here, here_is, filled, present_is, victim_is}
use Rattle.ibx_replay.proofs.Fetched.{fill_in_line, fill_in, IsRead, AreRead}

-- ---- what the code finds is what the equations find

-- a line is found in these places just where the fill is present, and it is that fill
abbrev pub Finds : Bool → Option Fill → Option Line → Type 0
Finds present fill None = present ≡ false
Finds present fill (Some x) = (present ≡ true) × (fill ≡ Some (fill_in_line x))

-- what is found doesn't change by equal tests and fills
finds_by : (p q : Bool) (f g : Option Fill) (o : Option Line) → p ≡ q → f ≡ g → Finds q g o → Finds p f o
finds_by p q f g None e d h = e ∙ h
finds_by p q f g (Some x) e d h = (e ∙ h.0, d ∙ h.1)

-- one place, by its test
one_here : (b : Bool) (x : Line) (f : Option Fill) → f ≡ Some (fill_in_line x) → Finds b f (if b then Some x else None)
one_here true x f e = (refl, e)
one_here false x f e = refl

-- the second place, where the first doesn't hold the line
second_here : (starts line : ℕ) (u : Option Line) (g : Option Fill) → g ≡ fill_in u
    → Finds (here starts line (fill_in u)) g (line_here starts line u)
second_here starts line None g e = refl
second_here starts line (Some x) g e = one_here (x.line == line && nat_le starts x.time) x g e

-- two places
two_by : (b c : Bool) (x : Line) (u : Option Line) (f g : Option Fill) → f ≡ Some (fill_in_line x) → Finds c g u
    → Finds (b || c) (if b then f else g) (first_line (if b then Some x else None) u)
two_by true c x u f g e h = (refl, e)
two_by false c x u f g e h = h

-- the first of two places that holds the line is the one that is found
two_here : (starts line : ℕ) (o u : Option Line) (f g : Option Fill) → f ≡ fill_in o → g ≡ fill_in u
    → Finds (here starts line (fill_in o) || here starts line (fill_in u)) (if here starts line
    (fill_in o) then f else g)
    (first_line (line_here starts line o) (line_here starts line u))
two_here starts line None u f g e d = second_here starts line u g d
two_here starts line (Some x) u f g e d =
    two_by (x.line == line && nat_le starts x.time) (here starts line (fill_in u)) x (line_here starts line u) f g e
    (second_here starts line u g d)

-- the fill of one of two places
fill_if : (b : Bool) (fills : List Fill) (m n : ℕ) → last_fill fills (if b then m else n)
    ≡ (if b then last_fill fills m else last_fill fills n)
fill_if true fills m n = refl
fill_if false fills m n = refl

-- the fill at the place that is found, by the test of the lower way
slot_is : (fs : List ℕ) (fills : List Fill) (t line : ℕ) (o : Option Fill) → IsLog fs (t + 1)
    → last_fill fills (slot_of line false) ≡ o
    → last_fill fills (found_slot fs fills line t) ≡ (if here (starts fs) line o then last_fill fills
    (slot_of line false)
    else last_fill fills (slot_of line true))
unfolding found_slot
slot_is fs fills t line o l e =
    fill_if (in_way fs fills line t false) fills (slot_of line false) (slot_of line true)
    ∙ ap (λ b. if b then last_fill fills (slot_of line false) else last_fill fills (slot_of line true))
    (ap (holds_line fs t line) e ∙ here_is fs t line o l)

-- the line that is found among the places is the fill that the equations find
pub found_is : (fs : List ℕ) (fills : List Fill) (t line : ℕ) (lines : ℕ → Option Line) → IsLog fs (t + 1)
    → ((n : ℕ) → last_fill fills n ≡ fill_in (lines n))
    → Finds (is_present fs fills line t) (last_fill fills (found_slot fs fills line t)) (found (starts fs) line lines)
found_is fs fills t line lines l places =
    let o = lines (slot_of line false) in
    let u = lines (slot_of line true) in
    let d = places (slot_of line false) in
    let e = places (slot_of line true) in
    finds_by (is_present fs fills line t) (here (starts fs) line (fill_in o) || here (starts fs) line (fill_in u))
    (last_fill fills (found_slot fs fills line t))
    (if here (starts fs) line (fill_in o) then last_fill fills (slot_of line false) else last_fill fills
    (slot_of line true))
    (found (starts fs) line lines) (present_is fs fills t line (fill_in o) (fill_in u) l d e)
    (slot_is fs fills t line (fill_in o) l d)
    (two_here (starts fs) line o u (last_fill fills (slot_of line false)) (last_fill fills (slot_of line true)) d e)

-- it is this line, and was read
abbrev pub IsFound : (ℕ → ℕ → ℕ) → ℕ → ℕ → Option Line → Type 0
IsFound reads v line None = Unit {0}
IsFound reads v line (Some x) = (x.line ≡ line) × IsRead reads v x

-- a line that is found in a place was read
one_found : (reads : ℕ → ℕ → ℕ) (v line starts : ℕ) (o : Option Line) → AreRead reads v o
    → IsFound reads v line (line_here starts line o)
one_found reads v line starts None h = tt
one_found reads v line starts (Some x) h = by (x.line == line && nat_le starts x.time) refl
  where
    by : (b : Bool) → (x.line == line && nat_le starts x.time) ≡ b → IsFound reads v line (if b then Some x else None)
    by true e = (eqb-true x.line line (and_parts (x.line == line) (nat_le starts x.time) e).0, h)
    by false e = tt

-- so was the first of two
first_found : (reads : ℕ → ℕ → ℕ) (v line : ℕ) (o u : Option Line) → IsFound reads v line o → IsFound reads v line u
    → IsFound reads v line (first_line o u)
first_found reads v line None u h i = i
first_found reads v line (Some x) u h i = h

-- so was the line that is found among the places
pub found_read : (reads : ℕ → ℕ → ℕ) (v line starts : ℕ) (lines : ℕ → Option Line) → ((n : ℕ)
    → AreRead reads v (lines n))
    → IsFound reads v line (found starts line lines)
found_read reads v line starts lines h =
    first_found reads v line (line_here starts line (lines (slot_of line false)))
    (line_here starts line (lines (slot_of line true)))
    (one_found reads v line starts (lines (slot_of line false)) (h (slot_of line false)))
    (one_found reads v line starts (lines (slot_of line true)) (h (slot_of line true)))

-- the way that the fill takes
standing_is : (starts : ℕ) (o : Option Line) → filled starts (fill_in o) ≡ is_standing starts o
standing_is starts None = refl
standing_is starts (Some x) = refl

-- the way for a new line is that of the equations
pub way_is : (fs : List ℕ) (fills : List Fill) (t line : ℕ) (lines : ℕ → Option Line) (other : Bool) → IsLog fs (t + 1)
    → ((n : ℕ) → last_fill fills n ≡ fill_in (lines n)) → other ≡ other_way fills
    → victim fs fills line t ≡ way_for (starts fs) line lines other
way_is fs fills t line lines other l places e =
    let o = lines (slot_of line false) in
    let u = lines (slot_of line true) in
    victim_is fs fills t line (fill_in o) (fill_in u) l (places (slot_of line false)) (places (slot_of line true))
    ∙ ap₂ (λ a b. victim_by (not a) (not b) (other_way fills)) (standing_is (starts fs) o) (standing_is (starts fs) u)
    ∙ ap (victim_by (not (is_standing (starts fs) o)) (not (is_standing (starts fs) u))) (sym e)
