-- A stay goes as the table of costs says: what the state of the stage is in each cycle of it.
use Rattle.std.proofs.Common.{◌≡◌, ℕ, zero, suc, ◌+◌, ◌<◌, ◌≤◌, min, Bool, true, false, if◌then◌else◌, nat_lt, nat_le}
use Rattle.std.proofs.Common.{◌==◌, ◌||◌, Option, Some, None, refl, sym, ap, ◌∙◌, subst, arith, add-one}
use Rattle.std.proofs.lemmas.Bool.Decides.{nat_tests}
use Rattle.ibx_isa.specs.declared.insn.Insn.{Insn}
use Rattle.ibx_isa.specs.declared.insn.Insn.TheVariants.{Lui, Auipc, Jal, Jalr, Branch, Load, Store, AluImm, Alu}
use Rattle.ibx_isa.specs.declared.insn.Insn.TheVariants.{MulDiv, Csr, Fence, FenceI, Ecall, Ebreak, Mret, Wfi}
use Rattle.ibx_isa.specs.Alu.{branch_of}
use Rattle.ibx_id.specs.declared.stage.IdState.{IdState}
use Rattle.ibx_id.specs.declared.stage.IdIn.{IdIn}
use Rattle.ibx_id.specs.declared.stage.Turn.{Turn}
use Rattle.ibx_id.specs.declared.stage.Turn.TheVariants.{Hold, Retire, Trap, Irq, Dummy}
use Rattle.ibx_id.specs.Turns.{held, ends_at, branches, worked, is_some_cause, real_turn, turn_of}
use Rattle.ibx_id.specs.Stays.{Wires, input_in, left_by, stay, turn_in, IsEntering, after, IsThere, IsDone, IsTrapped}
use Rattle.ibx_id.specs.Stays.{Cost, Takes, ToAnswer, ToWake, Unlisted, branch_cost, cost_of, IsCosted, IsSound}
use Rattle.ibx_id.specs.Stays.{KeepsRow, KeepsReal, KeepsCosts}

-- the count stands at 63
count_later : (n : ℕ) → (if nat_lt (min n 63) 63 then min n 63 + 1 else 63) ≡ min (suc n) 63
count_later n = grind (arith, nat_tests)

-- the count tells whether the cost is reached, before it and at it
not_yet : (cost n : ℕ) → cost < 64 → n < cost → nat_le cost (min n 63) ≡ false
not_yet cost n h lo = grind (arith, nat_tests)

-- a count that stops at 63 still reaches every cost below 64
just_now : (cost : ℕ) → cost < 64 → nat_le cost (min cost 63) ≡ true
just_now cost h = grind (arith, nat_tests)

-- the state in cycle n of a stay that goes on
abbrev phase_in : ℕ → ℕ
phase_in zero = 0
phase_in (suc n) = 1

-- the item's state after n cycles of its stay
abbrev at : IdState → ℕ → IdState
at st n = after st (phase_in n) n

-- a state that is held once more is the one of the next cycle
later : (st : IdState) (phase n : ℕ) → held phase (at st n) ≡ after st phase (suc n)
later st phase n = ap (λ (c : ℕ). record st { phase = phase; count = c }) (count_later n)

-- each cycle before n holds the item
abbrev Holds : IdState → IdIn → Wires → ℕ → Type 0
Holds st i wires n = (k : ℕ) → k < n → turn_of (at st k) (input_in i wires k) ≡ Hold (at st (suc k))

module _ (st : IdState) (i : IdIn) (wires : Wires) (enters : st ≡ at st 0) where
  -- a stay that holds so far has reached cycle n, with its state and turn
  reaches : (n : ℕ) → Holds st i wires n → stay st i wires n ≡ at st n
  unfolding stay
  reaches zero h = enters
  reaches (suc n) h =
      let before : stay st i wires n ≡ at st n = reaches n (λ k lo. h k (omega arith)) in
      let step : turn_of (at st n) (input_in i wires n) ≡ Hold (at st (suc n)) = h n (omega arith) in
      ap (λ (s : IdState). left_by s (turn_of s (input_in i wires n))) before
      ∙ ap (λ (t : Turn). left_by (at st n) t) step

  -- so what the stage does in cycle n is the turn of that state
  turns : (n : ℕ) → Holds st i wires n → turn_in st i wires n ≡ turn_of (at st n) (input_in i wires n)
  turns n h = ap (λ (s : IdState). turn_of s (input_in i wires n)) (reaches n h)

  -- an item that is held in each of these states is still there in cycle n
  there : (n : ℕ) → Holds st i wires n → IsThere st i wires n
  there n h k lo = rw (add-one k) (turns k (λ j low. h j (omega arith)) ∙ h k lo)

  -- the way back: an item that is there was held
  holds : (n : ℕ) → IsThere st i wires n → Holds st i wires n
  holds zero h k lo = absurd (omega arith)
  holds (suc n) h k lo =
      let before : Holds st i wires k = λ j low. holds n (λ m mlo. h m (omega arith)) j (omega arith) in
      let there : turn_in st i wires k ≡ Hold (after st 1 (k + 1)) = h k lo in
      let next : turn_in st i wires k ≡ Hold (at st (suc k)) = rw (add-one k) at there in
      sym (turns k before) ∙ next

  -- so it is done there with its turn's outcome
  done : (n : ℕ) (outcome : Turn) → Holds st i wires n → turn_of (at st n) (input_in i wires n) ≡ outcome
      → IsDone st i wires n outcome
  done n outcome h e = record { there = there n h; done = turns n h ∙ e }

  -- the cycle after the one in which a trap is found
  found : (n phase portion : ℕ) → Holds st i wires n
      → turn_of (at st n) (input_in i wires n) ≡ Hold (after st phase (suc n))
      → turn_of (after st phase (suc n)) (input_in i wires (suc n)) ≡ Trap portion
      → IsTrapped st i wires n phase portion
  unfolding stay
  found n phase portion h e f =
      let turn : turn_in st i wires n ≡ Hold (after st phase (suc n)) = turns n h ∙ e in
      let state : stay st i wires (suc n) ≡ after st phase (suc n) =
      ap (λ (s : IdState). left_by s (turn_of s (input_in i wires n))) (reaches n h)
      ∙ ap (λ (t : Turn). left_by (at st n) t) e in
      record {
        found = rw (add-one n) turn;
        done = rw (add-one n) (ap (λ (s : IdState). turn_of s (input_in i wires (suc n))) state ∙ f);
      }

-- an item by its fields
abbrev item : ℕ → ℕ → ℕ → ℕ → IdState
item kind pc word fault =
    record { valid = true; kind = kind; pc = pc; word = word; fault = fault; phase = 0; count = 0 }

-- a real item's turn before a trap is found, by what fails in this cycle, the cause that it brings, and its row
abbrev real_by : ℕ → Option ℕ → Turn → IdState → Turn
real_by failed cause rest st =
    if failed == 1 then Hold (held 2 st) else
    if failed == 2 then Hold (held 3 st) else
    if is_some_cause cause then Hold (held 4 st) else
    rest

-- an instruction's turn by its cost
abbrev worked_by : Cost → IdState → IdIn → Turn
worked_by (Takes cycles redirects) st i = ends_at cycles redirects st
worked_by ToAnswer st i = if i.ls_done then Retire false else Hold (held 1 st)
worked_by ToWake st i = if i.wake then Retire false else Hold (held 1 st)
worked_by Unlisted st i = ends_at 0 false st

-- an item that costs nothing more ends at once
free : (st : IdState) (cost : ℕ) → cost ≡ 0 → ends_at cost false st ≡ ends_at 0 false st
free st cost e = ap (λ (c : ℕ). ends_at c false st) e

-- an end is one at no cost
at_once : (redirect : Bool) (st : IdState) → Retire redirect ≡ ends_at 0 redirect st
at_once redirect st =
    let all : nat_le 0 st.count ≡ true = grind (arith, nat_tests) in
    ap (λ (b : Bool). if b then Retire redirect else Hold (held 1 st)) (sym all)

-- a branch and each other instruction turns as its cost says
branched : (took : Bool) (st : IdState) (i : IdIn) → branches took st ≡ worked_by (branch_cost took) st i
branched true st i = refl
branched false st i = refl

-- no instruction turns otherwise than by its row of the table, where MulDiv alone is handed a cost
work_is : (insn : Option Insn) (st : IdState) (i : IdIn) → IsCosted insn i.cost
    → worked insn st i ≡ worked_by (cost_of insn i) st i
unfolding worked cost_of
work_is (Some (Lui rd imm)) st i h = free st i.cost h
work_is (Some (Auipc rd imm)) st i h = free st i.cost h
work_is (Some (Jal rd imm)) st i h = at_once true st
work_is (Some (Jalr rd rs1 imm)) st i h = at_once true st
work_is (Some (Branch op rs1 rs2 imm)) st i h = branched (i.fixed || branch_of op i.a i.b) st i
work_is (Some (Load op rd rs1 imm)) st i h = refl
work_is (Some (Store size rs1 rs2 imm)) st i h = refl
work_is (Some (AluImm op rd rs1 imm)) st i h = free st i.cost h
work_is (Some (Alu op rd rs1 rs2)) st i h = free st i.cost h
work_is (Some (MulDiv op rd rs1 rs2)) st i h = refl
work_is (Some (Csr op rd src imm addr)) st i h = free st i.cost h
work_is (Some Fence) st i h = free st i.cost h
work_is (Some FenceI) st i h = at_once true st
work_is (Some Ecall) st i h = free st i.cost h
work_is (Some Ebreak) st i h = free st i.cost h
work_is (Some Mret) st i h = refl
work_is (Some Wfi) st i h = refl
work_is None st i h = free st i.cost h

-- an item is held before its cost and ends at it
ends_later : (st : IdState) (cost n : ℕ) (redirect : Bool) → cost < 64 → n < cost
    → ends_at cost redirect (at st n) ≡ Hold (at st (suc n))
ends_later st cost n redirect h lo =
    ap (λ (b : Bool). if b then Retire redirect else Hold (held 1 (at st n))) (not_yet cost n h lo)
    ∙ ap Hold (later st 1 n)

-- in the cycle that its cost names the item retires, and redirects where it is to
ends_now : (st : IdState) (cost : ℕ) (redirect : Bool) → cost < 64
    → ends_at cost redirect (at st cost) ≡ Retire redirect
ends_now st cost redirect h =
    ap (λ (b : Bool). if b then Retire redirect else Hold (held 1 (at st cost))) (just_now cost h)

-- the cost doesn't look at the wires
same_cost : (insn : Option Insn) (i : IdIn) (wires : Wires) (k : ℕ)
    → cost_of insn (input_in i wires k) ≡ cost_of insn i
unfolding cost_of
same_cost (Some (Lui rd imm)) i wires k = refl
same_cost (Some (Auipc rd imm)) i wires k = refl
same_cost (Some (Jal rd imm)) i wires k = refl
same_cost (Some (Jalr rd rs1 imm)) i wires k = refl
same_cost (Some (Branch op rs1 rs2 imm)) i wires k = refl
same_cost (Some (Load op rd rs1 imm)) i wires k = refl
same_cost (Some (Store size rs1 rs2 imm)) i wires k = refl
same_cost (Some (AluImm op rd rs1 imm)) i wires k = refl
same_cost (Some (Alu op rd rs1 rs2)) i wires k = refl
same_cost (Some (MulDiv op rd rs1 rs2)) i wires k = refl
same_cost (Some (Csr op rd src imm addr)) i wires k = refl
same_cost (Some Fence) i wires k = refl
same_cost (Some FenceI) i wires k = refl
same_cost (Some Ecall) i wires k = refl
same_cost (Some Ebreak) i wires k = refl
same_cost (Some Mret) i wires k = refl
same_cost (Some Wfi) i wires k = refl
same_cost None i wires k = refl

module _ (pc word fault : ℕ) (i : IdIn) (wires : Wires) where
  abbrev enters : IdState
  enters = item 0 pc word fault

  -- a real item's turn in cycle k of its stay
  real_is : (k : ℕ) → turn_of (at enters k) (input_in i wires k)
      ≡ real_by (wires.failed k) i.trap (worked i.insn (at enters k) (input_in i wires k)) (at enters k)
  unfolding turn_of real_turn
  real_is zero = refl
  real_is (suc k) = refl

  -- what fails in the cycle decides first
  fails : (k failed : ℕ) → wires.failed k ≡ failed
      → turn_of (at enters k) (input_in i wires k)
      ≡ real_by failed i.trap (worked i.insn (at enters k) (input_in i wires k)) (at enters k)
  fails k failed e =
      real_is k ∙ ap (λ (f : ℕ). real_by f i.trap (worked i.insn (at enters k) (input_in i wires k)) (at enters k)) e

  -- a trap is found, and done in the next cycle
  fails_in : (n portion : ℕ) → IsThere enters i wires n → wires.failed n ≡ portion
      → real_by portion i.trap (worked i.insn (at enters n) (input_in i wires n)) (at enters n)
      ≡ Hold (held (portion + 1) (at enters n))
      → turn_of (after enters (portion + 1) (suc n)) (input_in i wires (suc n)) ≡ Trap portion
      → IsTrapped enters i wires n (portion + 1) portion
  fails_in n portion h e f d =
      found enters i wires refl n (portion + 1) portion (holds enters i wires refl n h)
      (fails n portion e ∙ f ∙ ap Hold (later enters (portion + 1) n)) d

  -- a failed first or second portion, and a cause, trap the item
  first : (n : ℕ) → IsThere enters i wires n → wires.failed n ≡ 1 → IsTrapped enters i wires n 2 1
  unfolding turn_of real_turn
  first n h e = fails_in n 1 h e refl refl

  -- a failed second portion takes the item to phase 3, from which it traps in the next cycle
  second : (n : ℕ) → IsThere enters i wires n → wires.failed n ≡ 2 → IsTrapped enters i wires n 3 2
  unfolding turn_of real_turn
  second n h e = fails_in n 2 h e refl refl

  -- a cause that the item brings is found as it enters, and it traps a cycle later without a failed portion
  trapped : (cause : ℕ) → i.trap ≡ Some cause → wires.failed 0 ≡ 0 → IsTrapped enters i wires 0 4 0
  unfolding turn_of real_turn
  trapped cause e sound =
      let brings : turn_of (at enters 0) (input_in i wires 0) ≡ Hold (held 4 (at enters 0)) =
      fails 0 0 sound ∙ ap (λ (t : Option ℕ). real_by 0 t (worked i.insn (at enters 0) (input_in i wires 0))
      (at enters 0)) e in
      found enters i wires refl 0 4 0 (λ k lo. absurd (omega arith)) (brings ∙ ap Hold (later enters 4 0)) refl

  module _ (untrapped : i.trap ≡ None) (costed : IsCosted i.insn i.cost) where
    -- without a failed portion and a cause, the cost alone tells what the item does in a cycle
    plain : (cost : Cost) (k : ℕ) → cost_of i.insn i ≡ cost → wires.failed k ≡ 0
        → turn_of (at enters k) (input_in i wires k) ≡ worked_by cost (at enters k) (input_in i wires k)
    plain cost k e sound =
        fails k 0 sound
        ∙ ap (λ (t : Option ℕ). real_by 0 t (worked i.insn (at enters k) (input_in i wires k)) (at enters k)) untrapped
        ∙ work_is i.insn (at enters k) (input_in i wires k) costed
        ∙ ap (λ (c : Cost). worked_by c (at enters k) (input_in i wires k)) (same_cost i.insn i wires k ∙ e)

    -- an item that takes so many cycles is held in each of them, and retires in the one after
    takes : (cycles : ℕ) (redirects : Bool) → cost_of i.insn i ≡ Takes cycles redirects → cycles < 64
        → IsSound wires (cycles + 1) → IsDone enters i wires cycles (Retire redirects)
    takes cycles redirects e few sound =
        done enters i wires refl cycles (Retire redirects)
        (λ k lo. plain (Takes cycles redirects) k e (sound k (omega arith))
        ∙ ends_later enters cycles k redirects few lo)
        (plain (Takes cycles redirects) cycles e (sound cycles (omega arith)) ∙ ends_now enters cycles redirects few)

    -- a cycle without the answer leaves the access in the stage
    unanswered : (k : ℕ) → cost_of i.insn i ≡ ToAnswer → wires.failed k ≡ 0 → wires.answered k ≡ false
        → turn_of (at enters k) (input_in i wires k) ≡ Hold (at enters (suc k))
    unanswered k e sound low =
        plain ToAnswer k e sound ∙ ap (λ (b : Bool). if b then Retire false else Hold (held 1 (at enters k))) low
        ∙ ap Hold (later enters 1 k)

    -- a cycle without the wake leaves the item asleep in the stage
    asleep : (k : ℕ) → cost_of i.insn i ≡ ToWake → wires.failed k ≡ 0 → wires.wake k ≡ false
        → turn_of (at enters k) (input_in i wires k) ≡ Hold (at enters (suc k))
    asleep k e sound low =
        plain ToWake k e sound ∙ ap (λ (b : Bool). if b then Retire false else Hold (held 1 (at enters k))) low
        ∙ ap Hold (later enters 1 k)

    -- so each kind of cost is kept: the cycles, the wait for an answer, and the wait for a wake
    row : KeepsRow enters i wires
    row = record {
      takes = takes;
      awaits = λ n e sound low. there enters i wires refl n (λ k lo. unanswered k e (sound k lo) (low k lo));
      answered = λ n e sound low high. done enters i wires refl n (Retire false)
          (λ k lo. unanswered k e (sound k (omega arith)) (low k lo))
          (plain ToAnswer n e (sound n (omega arith))
          ∙ ap (λ (b : Bool). if b then Retire false else Hold (held 1 (at enters n))) high);
      sleeps = λ n e sound low. there enters i wires refl n (λ k lo. asleep k e (sound k lo) (low k lo));
      woken = λ n e sound low high. done enters i wires refl n (Retire false)
          (λ k lo. asleep k e (sound k (omega arith)) (low k lo))
          (plain ToWake n e (sound n (omega arith))
          ∙ ap (λ (b : Bool). if b then Retire false else Hold (held 1 (at enters n))) high);
    }

  -- so a real item keeps its costs
  real : KeepsReal enters i wires
  real = record { row = row; trapped = trapped; first = first; second = second }

-- in its stay an item is in phase 0 or 1, so a test that asks besides for a later phase asks for no more
still_by : (k : ℕ) (b : Bool) → (b || nat_le 2 (phase_in k)) ≡ b
still_by k true = refl
still_by zero false = refl
still_by (suc n) false = refl

-- a dummy
module _ (pc word fault : ℕ) (i : IdIn) (wires : Wires) (few : i.cost < 64) where
  -- a dummy as it enters, and its turn by whether its cost is reached
  abbrev dummy_enters : IdState
  dummy_enters = item 1 pc word fault

  abbrev dummy_by : Bool → IdState → Turn
  dummy_by ended st = if ended then Dummy else Hold (held 1 st)

  -- a dummy's turn in cycle k of its stay, and its end at its cost
  dummy_is : (k : ℕ) → turn_of (at dummy_enters k) (input_in i wires k)
      ≡ dummy_by (nat_le i.cost (min k 63)) (at dummy_enters k)
  unfolding turn_of
  dummy_is k = ap (λ (b : Bool). dummy_by b (at dummy_enters k)) (still_by k (nat_le i.cost (min k 63)))

  -- so a dummy is held in each cycle before its cost, and done in that one
  dummy : IsDone dummy_enters i wires i.cost Dummy
  dummy =
      done dummy_enters i wires refl i.cost Dummy
      (λ k lo. dummy_is k ∙ ap (λ (b : Bool). dummy_by b (at dummy_enters k)) (not_yet i.cost k few lo)
      ∙ ap Hold (later dummy_enters 1 k))
      (dummy_is i.cost ∙ ap (λ (b : Bool). dummy_by b (at dummy_enters i.cost)) (just_now i.cost few))

-- an interrupt
interrupt : (kind pc word fault : ℕ) (i : IdIn) (wires : Wires) → 2 ≤ kind
    → IsDone (item kind pc word fault) i wires 0 Irq
unfolding turn_of
interrupt kind pc word fault i wires high =
    let late : nat_le 2 kind ≡ true = grind (arith, nat_tests) in
    done (item kind pc word fault) i wires refl 0 Irq (λ k lo. absurd (omega arith))
    (ap (λ (b : Bool). if b then Irq else (if kind == 1
    then (if nat_le i.cost 0 || nat_le 2 0 then Dummy else Hold (held 1 (item kind pc word fault)))
    else real_turn (item kind pc word fault) (input_in i wires 0))) late)

-- every item
by_kind : (kind pc word fault : ℕ) (i : IdIn) (wires : Wires) → KeepsCosts (item kind pc word fault) i wires
by_kind kind pc word fault i wires = record {
  real = λ e. subst (λ (k : ℕ). KeepsReal (item k pc word fault) i wires) (sym e) (real pc word fault i wires);
  dummy = λ e few. subst (λ (k : ℕ). IsDone (item k pc word fault) i wires i.cost Dummy) (sym e)
      (dummy pc word fault i wires few);
  irq = λ high. interrupt kind pc word fault i wires high;
}

-- a state that enters is given by four of its fields
is_item : (st : IdState) → IsEntering st → item st.kind st.pc st.word st.fault ≡ st
is_item st e =
    sym (
    ap (λ (v : Bool). record st { valid = v; phase = st.phase; count = st.count }) e.valid
    ∙ ap (λ (p : ℕ). record st { valid = true; phase = p; count = st.count }) e.phase
    ∙ ap (λ (n : ℕ). record st { valid = true; phase = 0; count = n }) e.count
    )

-- every item that enters stays for as long as the table of costs says
pub keeps_costs : (st : IdState) (i : IdIn) (wires : Wires) → IsEntering st → KeepsCosts st i wires
keeps_costs st i wires e =
    subst (λ (s : IdState). KeepsCosts s i wires) (is_item st e) (by_kind st.kind st.pc st.word st.fault i wires)
