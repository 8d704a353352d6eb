-- What a state does, and back.
use Rattle.std.proofs.Common.{◌≡◌, ℕ, Bool, true, false, ◌==◌, refl, ap, ◌<◌, lit<, if◌then◌else◌}
use Rattle.std.proofs.lemmas.Bool.{eqb-true}
use Rattle.ibx_icache.specs.declared.doing.Doing.{Doing}
use Rattle.ibx_icache.specs.declared.doing.Doing.TheVariants.{Rests, Looks, AsksFirst, AwaitsFirst, AsksSecond}
use Rattle.ibx_icache.specs.declared.doing.Doing.TheVariants.{AwaitsSecond, Answers, AsksBare, AwaitsBare}
use Rattle.ibx_icache.specs.Doing.{doing_of, granted_by, is_look, is_rest, state_of}

-- the state of what is done
pub doing-state : (g : Doing) → doing_of (state_of g) ≡ g
unfolding doing_of
doing-state Rests = refl
doing-state Looks = refl
doing-state AsksFirst = refl
doing-state AwaitsFirst = refl
doing-state AsksSecond = refl
doing-state AwaitsSecond = refl
doing-state Answers = refl
doing-state AsksBare = refl
doing-state AwaitsBare = refl

-- there are nine states
pub state_low : (g : Doing) → state_of g < 9
state_low Rests = lit< tt
state_low Looks = lit< tt
state_low AsksFirst = lit< tt
state_low AwaitsFirst = lit< tt
state_low AsksSecond = lit< tt
state_low AwaitsSecond = lit< tt
state_low Answers = lit< tt
state_low AsksBare = lit< tt
state_low AwaitsBare = lit< tt

-- what states 1, 6 and 5 do
pub looks_at : (state : ℕ) → state ≡ 1 → doing_of state ≡ Looks
unfolding doing_of
looks_at state e = ap doing_of e

-- state 6 answers after a miss
pub answers_at : (state : ℕ) → state ≡ 6 → doing_of state ≡ Answers
unfolding doing_of
answers_at state e = ap doing_of e

-- state 5 awaits the second word of a line
pub awaits_at : (state : ℕ) → state ≡ 5 → doing_of state ≡ AwaitsSecond
unfolding doing_of
awaits_at state e = ap doing_of e

-- what is done by the tests for the states, one after another
abbrev chosen : Bool → Bool → Bool → Bool → Bool → Bool → Bool → Bool → Doing
chosen a b c d e f g h =
    if a then Looks else
    if b then AsksFirst else
    if c then AwaitsFirst else
    if d then AsksSecond else
    if e then AwaitsSecond else
    if f then Answers else
    if g then AsksBare else
    if h then AwaitsBare else
    Rests

-- only the first test leads to a lookup
look_by : (a b c d e f g h : Bool) → is_look (chosen a b c d e f g h) ≡ a
look_by true b c d e f g h = refl
look_by false true c d e f g h = refl
look_by false false true d e f g h = refl
look_by false false false true e f g h = refl
look_by false false false false true f g h = refl
look_by false false false false false true g h = refl
look_by false false false false false false true h = refl
look_by false false false false false false false true = refl
look_by false false false false false false false false = refl

-- a lookup is state 1
pub is_look-doing : (state : ℕ) → is_look (doing_of state) ≡ (state == 1)
unfolding doing_of
is_look-doing s = look_by (s == 1) (s == 2) (s == 3) (s == 4) (s == 5) (s == 6) (s == 7) (s == 8)

-- only the test for 5 leads to the second word's wait
second_by : (a b c d e f g h : Bool) → chosen a b c d e f g h ≡ AwaitsSecond → e ≡ true
second_by true b c d e f g h k = absurd cc
second_by false true c d e f g h k = absurd cc
second_by false false true d e f g h k = absurd cc
second_by false false false true e f g h k = absurd cc
second_by false false false false true f g h k = refl
second_by false false false false false true g h k = absurd cc
second_by false false false false false false true h k = absurd cc
second_by false false false false false false false true k = absurd cc
second_by false false false false false false false false k = absurd cc

-- the second word is awaited in state 5
pub awaits_second : (state : ℕ) → doing_of state ≡ AwaitsSecond → state ≡ 5
unfolding doing_of
awaits_second s k = eqb-true s 5 (second_by (s == 1) (s == 2) (s == 3) (s == 4) (s == 5) (s == 6) (s == 7) (s == 8) k)

-- a grant begins no lookup
pub granted_look : (b : Bool) (g : Doing) → state_of (granted_by b g) ≡ 1 → g ≡ Looks
unfolding granted_by
granted_look b Looks e = refl
granted_look true Rests e = absurd cc
granted_look true AsksFirst e = absurd cc
granted_look true AwaitsFirst e = absurd cc
granted_look true AsksSecond e = absurd cc
granted_look true AwaitsSecond e = absurd cc
granted_look true Answers e = absurd cc
granted_look true AsksBare e = absurd cc
granted_look true AwaitsBare e = absurd cc
granted_look false Rests e = absurd cc
granted_look false AsksFirst e = absurd cc
granted_look false AwaitsFirst e = absurd cc
granted_look false AsksSecond e = absurd cc
granted_look false AwaitsSecond e = absurd cc
granted_look false Answers e = absurd cc
granted_look false AsksBare e = absurd cc
granted_look false AwaitsBare e = absurd cc

-- a grant takes no request away
pub granted_rest : (b : Bool) (g : Doing) → is_rest (granted_by b g) ≡ is_rest g
unfolding granted_by
granted_rest true Rests = refl
granted_rest true Looks = refl
granted_rest true AsksFirst = refl
granted_rest true AwaitsFirst = refl
granted_rest true AsksSecond = refl
granted_rest true AwaitsSecond = refl
granted_rest true Answers = refl
granted_rest true AsksBare = refl
granted_rest true AwaitsBare = refl
granted_rest false Rests = refl
granted_rest false Looks = refl
granted_rest false AsksFirst = refl
granted_rest false AwaitsFirst = refl
granted_rest false AsksSecond = refl
granted_rest false AwaitsSecond = refl
granted_rest false Answers = refl
granted_rest false AsksBare = refl
granted_rest false AwaitsBare = refl
