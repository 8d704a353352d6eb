-- An access goes in order: what the unit's state is at each time of it.
use Rattle.std.proofs.Common.{◌≡◌, ℕ, zero, suc, ◌+◌, ◌-◌, ◌<◌, ◌≤◌, Bool, true, false, refl, sym, ap, ◌∙◌, subst}
use Rattle.std.proofs.Common.{arith, add-one, add-zero}
use Rattle.ibx_isa.specs.declared.event.Access.{Access}
use Rattle.ibx_isa.specs.declared.bus.Rsp.{Rsp}
use Rattle.ibx_lsu.specs.declared.unit.Lsu.{Lsu}
use Rattle.ibx_lsu.specs.declared.unit.Stage.{Stage}
use Rattle.ibx_lsu.specs.declared.unit.Stage.TheVariants.{AskFirst, AwaitFirst, AskSecond, AwaitSecond}
use Rattle.ibx_lsu.specs.declared.unit.Reply.{Reply}
use Rattle.ibx_lsu.specs.declared.unit.Reply.TheVariants.{Silent, Good, Bad}
use Rattle.ibx_lsu.specs.Turns.{crosses, idle_of, next_of, next_at, turn_at, reply_of, turn_of, stage_of, asked_first}
use Rattle.ibx_lsu.specs.Turns.{asked_second, after_first, after_second, first_answer, second_answer}
use Rattle.ibx_lsu.specs.Order.{Bus, fields_at, turn_in, word_at, IsUngranted, IsUnanswered, HasMore, AwaitsFirst}
use Rattle.ibx_lsu.specs.Order.{AwaitsSecond, KeepsOrder}

-- a state by its stage and its kept word
record Is (stage : Stage) (first : ℕ) (u : Lsu) : Type 0 where
  about : stage_of u.ls_state ≡ stage
  kept : u.ls_first ≡ first

-- a state of a stage turns and goes on as its stage does
turn_is : (s : Stage) (f : ℕ) (u : Lsu) (want : Access) (rsp : Rsp) → Is s f u
    → turn_of u want rsp ≡ turn_at s f want rsp
unfolding turn_of
turn_is s f u want rsp is = rw (is.about, is.kept) refl

-- the fields after a cycle are those that its stage gives for the answer and the grant
next_is : (s : Stage) (f : ℕ) (u : Lsu) (want : Access) (rsp : Rsp) (g : Bool) → Is s f u
    → next_of u want rsp g ≡ next_at s f want rsp g
unfolding next_of
next_is s f u want rsp g is = rw (is.about, is.kept) refl

module _ (u : Lsu) (want : Access) (bus : Bus) where
  -- a cycle by its stage: the fields after it, and what the unit drives
  step : (s : Stage) (f c : ℕ) → Is s f (fields_at u want bus c)
      → fields_at u want bus (c + 1) ≡ next_at s f want (bus.rsp c) (bus.granted c)
  unfolding fields_at
  step s f c is = rw (add-one c) (next_is s f (fields_at u want bus c) want (bus.rsp c) (bus.granted c) is)

  -- what the unit drives in a cycle is told by its stage, the kept word and the bus's answer
  turn : (s : Stage) (f c : ℕ) → Is s f (fields_at u want bus c) → turn_in u want bus c ≡ turn_at s f want (bus.rsp c)
  turn s f c is = turn_is s f (fields_at u want bus c) want (bus.rsp c) is

  -- a portion is asked for until it is granted
  asking_first : (issue grant d : ℕ) → issue + d ≤ grant → ((c : ℕ) → issue ≤ c → c < grant → bus.granted c ≡ false)
      → Is AskFirst 0 (fields_at u want bus issue) → Is AskFirst 0 (fields_at u want bus (issue + d))
  asking_first issue grant zero le held is = rw (add-zero issue) is
  asking_first issue grant (suc d) le held is =
      let before = asking_first issue grant d (omega arith) held is in
      let no : bus.granted (issue + d) ≡ false = held (issue + d) (omega arith) (omega arith) in
      let later : issue + d + 1 ≡ issue + suc d = omega arith in
      let next : fields_at u want bus (issue + d + 1) ≡ asked_first false =
      step AskFirst 0 (issue + d) before ∙ ap asked_first no in
      subst (λ (n : ℕ). Is AskFirst 0 (fields_at u want bus n)) later
      (subst (λ (v : Lsu). Is AskFirst 0 v) (sym next) (record { about = refl; kept = refl }))

  -- a second portion is asked for until it is granted, with the word of the first one kept
  asking_second : (f issue grant d : ℕ) → issue + d ≤ grant → ((c : ℕ) → issue ≤ c → c < grant → bus.granted c ≡ false)
      → Is AskSecond f (fields_at u want bus issue) → Is AskSecond f (fields_at u want bus (issue + d))
  asking_second f issue grant zero le held is = rw (add-zero issue) is
  asking_second f issue grant (suc d) le held is =
      let before = asking_second f issue grant d (omega arith) held is in
      let no : bus.granted (issue + d) ≡ false = held (issue + d) (omega arith) (omega arith) in
      let later : issue + d + 1 ≡ issue + suc d = omega arith in
      let next : fields_at u want bus (issue + d + 1) ≡ asked_second false f =
      step AskSecond f (issue + d) before ∙ ap (λ (b : Bool). asked_second b f) no in
      subst (λ (n : ℕ). Is AskSecond f (fields_at u want bus n)) later
      (subst (λ (v : Lsu). Is AskSecond f v) (sym next) (record { about = refl; kept = refl }))

  -- while no answer comes the first portion is awaited
  awaiting_first : (from answer d : ℕ) → from + d ≤ answer
      → ((c : ℕ) → from ≤ c → c < answer → reply_of (bus.rsp c) ≡ Silent)
      → Is AwaitFirst 0 (fields_at u want bus from) → Is AwaitFirst 0 (fields_at u want bus (from + d))
  awaiting_first from answer zero le silent is = rw (add-zero from) is
  awaiting_first from answer (suc d) le silent is =
      let before = awaiting_first from answer d (omega arith) silent is in
      let no : reply_of (bus.rsp (from + d)) ≡ Silent = silent (from + d) (omega arith) (omega arith) in
      let later : from + d + 1 ≡ from + suc d = omega arith in
      let next : fields_at u want bus (from + d + 1) ≡ record { ls_state = 2; ls_first = 0 } =
      step AwaitFirst 0 (from + d) before
      ∙ ap (λ (r : Reply). after_first r (crosses want) (word_at bus (from + d))) no in
      subst (λ (n : ℕ). Is AwaitFirst 0 (fields_at u want bus n)) later
      (subst (λ (v : Lsu). Is AwaitFirst 0 v) (sym next) (record { about = refl; kept = refl }))

  -- while no answer comes the second portion is awaited, and the first one's word stays kept
  awaiting_second : (f from answer d : ℕ) → from + d ≤ answer
      → ((c : ℕ) → from ≤ c → c < answer → reply_of (bus.rsp c) ≡ Silent)
      → Is AwaitSecond f (fields_at u want bus from) → Is AwaitSecond f (fields_at u want bus (from + d))
  awaiting_second f from answer zero le silent is = rw (add-zero from) is
  awaiting_second f from answer (suc d) le silent is =
      let before = awaiting_second f from answer d (omega arith) silent is in
      let no : reply_of (bus.rsp (from + d)) ≡ Silent = silent (from + d) (omega arith) (omega arith) in
      let later : from + d + 1 ≡ from + suc d = omega arith in
      let next : fields_at u want bus (from + d + 1) ≡ record { ls_state = 5; ls_first = f } =
      step AwaitSecond f (from + d) before ∙ ap (λ (r : Reply). after_second r f) no in
      subst (λ (n : ℕ). Is AwaitSecond f (fields_at u want bus n)) later
      (subst (λ (v : Lsu). Is AwaitSecond f v) (sym next) (record { about = refl; kept = refl }))

  -- the first portion is asked for in each cycle from its first one until its grant
  ask_first : (issue c : ℕ) → IsUngranted bus issue c → Is AskFirst 0 (fields_at u want bus issue)
      → Is AskFirst 0 (fields_at u want bus c)
  ask_first issue c un is =
      let from : issue ≤ c = un.issued in
      let same : issue + (c - issue) ≡ c = omega arith in
      subst (λ (n : ℕ). Is AskFirst 0 (fields_at u want bus n)) same
      (asking_first issue c (c - issue) (omega arith) un.held is)

  -- from the cycle after its grant on the first portion is awaited, until its answer is there
  await_first : (issue grant c : ℕ) → IsUnanswered bus issue grant c → Is AskFirst 0 (fields_at u want bus issue)
      → Is AwaitFirst 0 (fields_at u want bus c)
  await_first issue grant c un is =
      let later : grant < c = un.later in
      let same : grant + 1 + (c - (grant + 1)) ≡ c = omega arith in
      let next : fields_at u want bus (grant + 1) ≡ asked_first true =
      step AskFirst 0 grant (ask_first issue grant un.asked is) ∙ ap asked_first un.granted in
      let begins : Is AwaitFirst 0 (fields_at u want bus (grant + 1)) =
      subst (λ (v : Lsu). Is AwaitFirst 0 v) (sym next) (record { about = refl; kept = refl }) in
      subst (λ (n : ℕ). Is AwaitFirst 0 (fields_at u want bus n)) same
      (awaiting_first (grant + 1) c (c - (grant + 1)) (omega arith) (λ k lo hi. un.silent k (omega arith) hi) begins)

  -- the second portion is asked for in each cycle from its first one until its grant
  ask_second : (f issue c : ℕ) → IsUngranted bus issue c → Is AskSecond f (fields_at u want bus issue)
      → Is AskSecond f (fields_at u want bus c)
  ask_second f issue c un is =
      let from : issue ≤ c = un.issued in
      let same : issue + (c - issue) ≡ c = omega arith in
      subst (λ (n : ℕ). Is AskSecond f (fields_at u want bus n)) same
      (asking_second f issue c (c - issue) (omega arith) un.held is)

  -- from the cycle after its grant on the second portion is awaited, until its answer is there
  await_second : (f issue grant c : ℕ) → IsUnanswered bus issue grant c → Is AskSecond f (fields_at u want bus issue)
      → Is AwaitSecond f (fields_at u want bus c)
  await_second f issue grant c un is =
      let later : grant < c = un.later in
      let same : grant + 1 + (c - (grant + 1)) ≡ c = omega arith in
      let next : fields_at u want bus (grant + 1) ≡ asked_second true f =
      step AskSecond f grant (ask_second f issue grant un.asked is) ∙ ap (λ (b : Bool). asked_second b f) un.granted in
      let begins : Is AwaitSecond f (fields_at u want bus (grant + 1)) =
      subst (λ (v : Lsu). Is AwaitSecond f v) (sym next) (record { about = refl; kept = refl }) in
      subst (λ (n : ℕ). Is AwaitSecond f (fields_at u want bus n)) same
      (awaiting_second f (grant + 1) c (c - (grant + 1)) (omega arith) (λ k lo hi. un.silent k (omega arith) hi)
      begins)

  -- the last cycle of the first portion, by its answer
  answer_first : (c : ℕ) (r : Reply) (two : Bool) → Is AwaitFirst 0 (fields_at u want bus c) → reply_of (bus.rsp c) ≡ r
      → crosses want ≡ two
      → (turn_in u want bus c ≡ first_answer r two want.store (word_at bus c))
      × (fields_at u want bus (c + 1) ≡ after_first r two (word_at bus c))
  answer_first c r two is e f =
      let at_turn : turn_in u want bus c
      ≡ first_answer (reply_of (bus.rsp c)) (crosses want) want.store (word_at bus c) = turn AwaitFirst 0 c is in
      let at_next : fields_at u want bus (c + 1) ≡ after_first (reply_of (bus.rsp c)) (crosses want) (word_at bus c) =
      step AwaitFirst 0 c is in (
        at_turn ∙ ap (λ (x : Reply). first_answer x (crosses want) want.store (word_at bus c)) e
            ∙ ap (λ (b : Bool). first_answer r b want.store (word_at bus c)) f,
        at_next ∙ ap (λ (x : Reply). after_first x (crosses want) (word_at bus c)) e
            ∙ ap (λ (b : Bool). after_first r b (word_at bus c)) f,
      )

  -- the second answer ends the access
  answer_second : (c f : ℕ) (r : Reply) → Is AwaitSecond f (fields_at u want bus c) → reply_of (bus.rsp c) ≡ r
      → (turn_in u want bus c ≡ second_answer r want.store f (word_at bus c))
      × (fields_at u want bus (c + 1) ≡ after_second r f)
  answer_second c f r is e =
      let at_turn : turn_in u want bus c ≡ second_answer (reply_of (bus.rsp c)) want.store f (word_at bus c) =
      turn AwaitSecond f c is in
      let at_next : fields_at u want bus (c + 1) ≡ after_second (reply_of (bus.rsp c)) f = step AwaitSecond f c is in (
        at_turn ∙ ap (λ (x : Reply). second_answer x want.store f (word_at bus c)) e,
        at_next ∙ ap (λ (x : Reply). after_second x f) e,
      )

module _ (want : Access) (bus : Bus) where
  -- an access begins with its first portion asked for
  begins : Is AskFirst 0 (fields_at idle_of want bus 0)
  unfolding fields_at
  begins = record { about = refl; kept = refl }

  -- so each cycle of the two waits is as the order says
  first_cycle : (grant c : ℕ) → IsUnanswered bus 0 grant c → AwaitsFirst idle_of want bus c
  first_cycle grant c un =
      let at : Is AwaitFirst 0 (fields_at idle_of want bus c) = await_first idle_of want bus 0 grant c un begins in
      record {
        silent = λ e. (answer_first idle_of want bus c Silent (crosses want) at e refl).0;
        bad = λ e. let both = answer_first idle_of want bus c Bad (crosses want) at e refl in
            record { comes = both.0; idle = both.1 };
        whole = λ e f. let both = answer_first idle_of want bus c Good false at e f in
            record { comes = both.0; idle = both.1 };
        more = λ e f. (answer_first idle_of want bus c Good true at e f).0;
      }

  -- a good first answer of an access that crosses keeps its word, and the second portion is asked for next
  due : (grant past : ℕ) → HasMore want bus grant past
      → Is AskSecond (word_at bus past) (fields_at idle_of want bus (past + 1))
  due grant past m =
      let ended : Is AwaitFirst 0 (fields_at idle_of want bus past) =
      await_first idle_of want bus 0 grant past m.first begins in
      let next : fields_at idle_of want bus (past + 1) ≡ record { ls_state = 3; ls_first = word_at bus past } =
      (answer_first idle_of want bus past Good true ended m.good m.crosses).1 in
      subst (λ (v : Lsu). Is AskSecond (word_at bus past) v) (sym next) (record { about = refl; kept = refl })

  -- a cycle of the second wait goes on, faults with portion 2 or ends well, as its answer says
  second_cycle : (grant past other c : ℕ) → HasMore want bus grant past → IsUnanswered bus (past + 1) other c
      → AwaitsSecond idle_of want bus past c
  second_cycle grant past other c m un =
      let at : Is AwaitSecond (word_at bus past) (fields_at idle_of want bus c) =
      await_second idle_of want bus (word_at bus past) (past + 1) other c un (due grant past m) in
      record {
        silent = λ e. (answer_second idle_of want bus c (word_at bus past) Silent at e).0;
        bad = λ e. let both = answer_second idle_of want bus c (word_at bus past) Bad at e in
            record { comes = both.0; idle = both.1 };
        whole = λ e. let both = answer_second idle_of want bus c (word_at bus past) Good at e in
            record { comes = both.0; idle = both.1 };
      }

-- each access that starts in the idle unit keeps the order, whatever the bus does
pub in_order : (want : Access) (bus : Bus) → KeepsOrder idle_of want bus
in_order want bus = record {
  asks_first = λ c un. turn idle_of want bus AskFirst 0 c (ask_first idle_of want bus 0 c un (begins want bus));
  awaits_first = first_cycle want bus;
  asks_second = λ grant past c m un. turn idle_of want bus AskSecond (word_at bus past) c
      (ask_second idle_of want bus (word_at bus past) (past + 1) c un (due want bus grant past m));
  awaits_second = second_cycle want bus;
}
