-- The history is a course.
use Rattle.std.proofs.Common.{◌≡◌, ℕ, zero, suc, ◌+◌, ◌-◌, ◌%◌, ◌^◌, ◌<◌, ◌≤◌, Bool, true, false, not, ◌&&◌, ◌==◌}
use Rattle.std.proofs.Common.{◌||◌, ◌++◌, ◌∷◌, [], length, nat_le, if◌then◌else◌, Some, None, Option, refl, sym}
use Rattle.std.proofs.Common.{ap, ap₂, ◌∙◌, inl, inr, arith}
use Rattle.std.proofs.Common.{subst}
use Rattle.std.proofs.lemmas.Bool.{cases_lt, cases_eq, eq-eqb, lt-leb, ne_eqb}
use Rattle.ibx_arch.specs.Step.{Choice, interrupted, step_with}
use Rattle.ibx_isa.specs.Views.{view_of}
use Rattle.ibx_isa.specs.declared.event.View.{View}
use Rattle.ibx_time_invariant.proofs.Invariant.{Inv}
use Rattle.ibx_time_invariant.proofs.Join.{ended, next_cycle, no_more, not_before, silent}
use Rattle.ibx_time_invariant.proofs.Join.{step}
use Rattle.ibx_time_invariant.proofs.Opens.{opens}
use Rattle.ibx_time_invariant.proofs.Phases.{Phases}
use Rattle.ibx_time_invariant.proofs.Pieces.{has_request}
use Rattle.ibx_time_invariant.proofs.Results.{phases}
use Rattle.ibx_time_invariant.proofs.Stages.{StageAt}
use Rattle.ibx_time_invariant.proofs.Ties.{IsPlaced}
use Rattle.ibx_time_machine.specs.System.{System, first_system, system_next}
use Rattle.ibx_time_system.proofs.Theorem.{remaining}
use Rattle.ibx_time.proofs.Positions.{row_parcels}
use Rattle.ibx_time.proofs.Times.{requested_is}
use Rattle.ibx_time.specs.Controls.{Ctl, ctl_after}
use Rattle.ibx_time.specs.History.{Story, Told, admission, choice_at, choice_by, continued, done_at, ended_by, item_at}
use Rattle.ibx_time.specs.History.{item_by, kind_of, open_item, opening, taken, told, told_below, view_with, with_item}
use Rattle.ibx_time.specs.History.{words_there, brought_parcels}
use Rattle.ibx_decoder.specs.Instructions.{instruction_of}
use Rattle.ibx_isa.specs.Lengths.{is_long}
use Rattle.ibx_time.specs.Items.{Item, dummy_item, item_of, parcels_of, plain, portions_for, retired_item}
use Rattle.ibx_time.specs.Items.{trap_parcels}
use Rattle.ibx_time.specs.Search.{first_from}
use Rattle.ibx_time.specs.Settings.{Settings, Setup, lines_in, settings_of}
use Rattle.ibx_time.specs.Streams.{Stream, answer, redirected_to, requested}
use Rattle.ibx_time.specs.Times.{ADummy, AnInstruction, AnInterrupt, Kind, Times, admitted, after_event, entered}
use Rattle.ibx_time.specs.Times.{has_answered, half_after, is_ready, kind_at, marked, target_if}
use Rattle.ibx_time_units.specs.Courses.{IsMove, IsTarget, Left, Move, in_cycle, is_fence, taken_by, times_at}
use Rattle.ibx_time_invariant.proofs.Runs.{first_cycle, none_late, open_is, phase_early, told_next}
use Rattle.ibx_time_invariant.proofs.Dones.{fences_real, next_done}
use Rattle.ibx_time.proofs.Timed.{first_found}
use Rattle.ibx_time.proofs.Seen.{admission_after}
use Rattle.ibx_time.proofs.Timed.{done_after, first_after}
use Rattle.ibx_time_units.specs.Histories.{IsLed, SameWords}
use Rattle.ibx_time.specs.Runs.{story_at}

-- ---- moves

-- a cycle that brings nothing
abbrev nothing_comes : Move
nothing_comes = record { left = None; redirect = None; taken = 0 }

-- it may always be
rests_move : (s : Setup) (y : Times) (c : ℕ) → IsMove s y c nothing_comes
rests_move s y c = record {
  target = λ t e. let no_ : None ≡ Some t = e in cc;
  begun = λ e. let no_ : false ≡ true = e in cc;
  few = omega arith;
  there = λ h. absurd (omega arith);
}

-- the moves with one more, in cycle c
abbrev with_move : (ℕ → Move) → ℕ → Move → ℕ → Move
with_move moves c m d = if d == c then m else moves d

-- in cycle c it brings the added move
at_move : (moves : ℕ → Move) (c : ℕ) (m : Move) → with_move moves c m c ≡ m
at_move moves c m = ap (λ b. if b then m else moves c) (eq-eqb c c refl)

-- in an earlier cycle it brings what it brought
before_move : (moves : ℕ → Move) (c : ℕ) (m : Move) (d : ℕ) → d < c → with_move moves c m d ≡ moves d
before_move moves c m d less = ap (λ b. if b then m else moves d) (ne_eqb d c (λ e. absurd (omega (arith, e, less))))

-- the times before a cycle are of the moves before it
same_times : (s : Setup) (a b : ℕ → Move) (n : ℕ) → ((d : ℕ) → d < n → a d ≡ b d) → times_at s a n ≡ times_at s b n
unfolding times_at
same_times s a b zero e = refl
same_times s a b (suc n) e =
    ap₂ (λ m y. taken_by m.taken n (in_cycle (settings_of s) m n y)) (e n (omega arith))
    (same_times s a b n (λ d less. e d (omega (arith, less))))

-- so many moves lead to a story's words
record Leads (s : Setup) (n : ℕ) (z : Times) : Type 0 where
  moves : ℕ → Move
  fits : (c : ℕ) → IsMove s (times_at s moves c) c (moves c)
  rests_ : (c : ℕ) → n ≤ c → moves c ≡ nothing_comes
  same : SameWords (times_at s moves n) z

-- one move more: it fits, as those before it and none after it
fits_on : (s : Setup) (n : ℕ) (y : Times) (m : Move) (l : Leads s n y) → IsMove s (times_at s l.moves n) n m → (c : ℕ)
    → IsMove s (times_at s (with_move l.moves n m) c) c (with_move l.moves n m c)
fits_on s n y m l one_ c =
    let moves : ℕ → Move = with_move l.moves n m in
    elim (cases_lt c n) [
      | inl less ↦
          subst (λ w. IsMove s (times_at s moves c) c w) (sym (before_move l.moves n m c less))
          (subst (λ u. IsMove s u c (l.moves c))
          (sym (same_times s moves l.moves c (λ d k. before_move l.moves n m d (omega (arith, k, less))))) (l.fits c))
      | inr late ↦ elim (cases_eq c n) [
        | inl e ↦
            subst (λ d. IsMove s (times_at s moves d) d (moves d)) (sym e)
            (subst (λ w. IsMove s (times_at s moves n) n w) (sym (at_move l.moves n m))
            (subst (λ u. IsMove s u n m)
            (sym (same_times s moves l.moves n (λ d k. before_move l.moves n m d k))) one_))
        | inr ne ↦
            subst (λ w. IsMove s (times_at s moves c) c w)
            (sym (ap (λ b. if b then m else l.moves c) (ne_eqb c n ne) ∙ l.rests_ c late))
            (rests_move s (times_at s moves c) c)
      ]
    ]

-- a move that fits the words reached leads on to those of the next cycle
leads_on : (s : Setup) (n : ℕ) (y z : Times) (m : Move) (l : Leads s n y) → IsMove s (times_at s l.moves n) n m
    → SameWords (taken_by m.taken n (in_cycle (settings_of s) m n (times_at s l.moves n))) z
    → Leads s (suc n) z
unfolding times_at
leads_on s n y z m l one_ same_ =
    let moves : ℕ → Move = with_move l.moves n m in
    record {
      moves = moves;
      fits = fits_on s n y m l one_;
      rests_ = λ c late. ap (λ b. if b then m else l.moves c) (ne_eqb c n (λ e. absurd (omega (arith, late, e))))
          ∙ l.rests_ c (omega (arith, late));
      same = subst (λ w. SameWords (taken_by w.taken n (in_cycle (settings_of s) w n (times_at s moves n))) z)
          (sym (at_move l.moves n m))
          (subst (λ u. SameWords (taken_by m.taken n (in_cycle (settings_of s) m n u)) z)
          (sym (same_times s moves l.moves n (λ d k. before_move l.moves n m d k))) same_);
    }

-- ---- times with the same words

-- times that both have the words of a third have the same words
same_trans : (x y z : Times) → SameWords x y → SameWords y z → SameWords x z
same_trans x y z a b =
    record { stream = a.stream ∙ b.stream; half = a.half ∙ b.half; ctl = a.ctl ∙ b.ctl }

-- an event and a redirect leave them the same
same_in : (k : Settings) (m : Move) (c : ℕ) (x y : Times) → SameWords x y → SameWords (in_cycle k m c x)
    (in_cycle k m c y)
same_in k m c x y e = by m.left
  where
    by : (l : Option Left)
        → SameWords (in_cycle k (record m { left = l }) c x) (in_cycle k (record m { left = l }) c y)
    by None = record {
      stream = ap (λ u. redirected_to k u c m.redirect) e.stream;
      half = ap (half_after m.redirect) e.half;
      ctl = e.ctl;
    }
    by (Some l) = record {
      stream = ap (λ u. redirected_to k (marked l.fences l.ctl c u) c m.redirect) e.stream;
      half = ap (half_after m.redirect) e.half;
      ctl = refl;
    }

-- so do the parcels that are taken
same_taken : (n c : ℕ) (x y : Times) → SameWords x y → SameWords (taken_by n c x) (taken_by n c y)
same_taken n c x y e = record {
  stream = ap₂ (λ (u : Stream) h. record u { enters = entered h n (c + 1) u.enters }) e.stream e.half;
  half = ap (λ h. (h + n) % 2) e.half;
  ctl = e.ctl;
}

-- so many parcels have answered to both, or to neither
same_answered : (k : Settings) (x y : Times) (n c : ℕ) → SameWords x y → has_answered k x n c ≡ has_answered k y n c
unfolding has_answered
same_answered k x y n c e = ap₂ (λ (u : Stream) h. nat_le (answer k u (length u.enters)) c
    && (not (h == 1 && n == 2) || nat_le (answer k u (length u.enters + 1)) c)) e.stream e.half

-- so a move that fits one fits the other
same_move : (s : Setup) (x y : Times) (c : ℕ) (m : Move) → SameWords x y → IsMove s y c m → IsMove s x c m
same_move s x y c m e u = record {
  target = u.target;
  begun = λ f. subst (λ v. 0 < requested (settings_of s) v c) (sym e.stream) (u.begun f);
  few = u.few;
  there =
      λ h. same_answered (settings_of s) (in_cycle (settings_of s) m c x) (in_cycle (settings_of s) m c y) m.taken c
      (same_in (settings_of s) m c x y e) ∙ u.there h;
}

-- nothing is taken
same_none : (c : ℕ) (x : Times) → x.half < 2 → SameWords (taken_by 0 c x) x
same_none c x low = record {
  stream = ap (λ es. record x.stream { enters = es })
      (ap (λ b. if b then x.stream.enters ++ (c + 1) ∷ [] else x.stream.enters)
      (lt-leb 2 (x.half + 0) (omega (arith, low))));
  half = omega (arith, low);
  ctl = refl;
}

-- and a step from times with the same words
steps_on : (s : Setup) (n : ℕ) (y z : Times) (m : Move) → Leads s n y → IsMove s y n m
    → SameWords (taken_by m.taken n (in_cycle (settings_of s) m n y)) z → Leads s (suc n) z
steps_on s n y z m l fits same =
    leads_on s n y z m l (same_move s (times_at s l.moves n) y n m l.same fits)
    (same_trans (taken_by m.taken n (in_cycle (settings_of s) m n (times_at s l.moves n)))
    (taken_by m.taken n (in_cycle (settings_of s) m n y)) z
    (same_taken m.taken n (in_cycle (settings_of s) m n (times_at s l.moves n)) (in_cycle (settings_of s) m n y)
    (same_in (settings_of s) m n (times_at s l.moves n) y l.same)) same)

-- ---- an item that is admitted

-- at most two parcels are needed
item_few : (k : Settings) (c : Ctl) (v : View) → (item_of k c v).parcels ≤ 2
unfolding item_of
item_few k c v = by (v.kind == 2) (v.kind == 1)
  where
    long_few : (b : Bool) → (if b then 2 else 1) ≤ 2
    long_few true = omega arith
    long_few false = omega arith

    trap_few : (a b : Bool) → (if a then (if b then 1 else 2) else parcels_of v.word) ≤ 2
    trap_few true true = omega arith
    trap_few true false = omega arith
    trap_few false b = long_few (is_long v.word)

    by : (a b : Bool) → (if a then record (plain 0) { redirects = true } else if b
        then record (plain (trap_parcels v))
        { portions = portions_for k c (instruction_of v.word) v.addr; cost = 1; redirects = true }
        else retired_item k c v (instruction_of v.word) (plain (parcels_of v.word))).parcels ≤ 2
    by true b = omega arith
    by false true = trap_few (v.cause == 1) (v.tval == v.pc)
    by false false = subst (λ n. n ≤ 2) (sym (row_parcels k c v (instruction_of v.word) (parcels_of v.word)))
        (long_few (is_long v.word))

-- an item takes at most two, which have answered where it is ready
record IsFit (s : Setup) (h : Story) (c n : ℕ) : Type 0 where
  few : n ≤ 2
  there : 0 < n → has_answered (settings_of s) h.times n c ≡ true

-- the parcels of a ready item fit; an interrupt and a dummy take none
fit_by : (s : Setup) (h : Story) (c : ℕ) (kind : Kind) → is_ready kind (words_there s h c) ≡ true
    → IsFit s h c (item_by s h (choice_by s h kind)).parcels
unfolding item_of dummy_item step_with interrupted view_of words_there
fit_by s h c (AnInterrupt number) e = record { few = omega arith; there = λ some. absurd (omega arith) }
fit_by s h c ADummy e = record { few = omega arith; there = λ some. absurd (omega arith) }
fit_by s h c AnInstruction e = record {
  few = item_few (settings_of s) h.times.ctl (view_with s h (brought_parcels s h));
  there = λ some. e;
}

-- so an admitted item's parcels are there
admits_fit : (s : Setup) (limit c : ℕ) (h : Story) → admission s limit h ≡ c → c < limit
    → IsFit s h c (item_at s c h).parcels
unfolding admission item_at
admits_fit s limit c h e less =
    let test : ℕ → Bool = λ t. is_ready (kind_at (settings_of s) h.times t) (words_there s h t) in
    let late : h.done ≤ first_from (limit - h.done) test h.done = first_after (limit - h.done) test h.done in
    fit_by s h c (kind_of s c h)
    (subst (λ d. test d ≡ true) e (first_found (limit - h.done) test h.done (omega (arith, e, less, late))))

-- the words with it are the story's
same_admitted : (s : Setup) (c : ℕ) (h : Story)
    → SameWords (taken_by (item_at s c h).parcels c h.times) (taken s c h).times
unfolding taken admitted
same_admitted s c h = record { stream = refl; half = refl; ctl = refl }

-- ---- an item that is done

-- what its event leaves, and where it redirects to, with so many parcels taken after it; a dummy leaves all
abbrev ended_move : Setup → Story → Story → Option Choice → Item → ℕ → ℕ → Move
ended_move s h y None i d n = record { left = None; redirect = None; taken = n }
ended_move s h y (Some choice) i d n = record {
  left = Some (record { fences = i.fences; ctl = ctl_after y.times.ctl (view_with s h choice) });
  redirect = target_if i.redirects (step_with (lines_in (settings_of s)) h.state choice d).next.pc;
  taken = n;
}

-- the words after it are the next story's
ended_same : (s : Setup) (h y : Story) (o : Option Choice) (i : Item) (d n : ℕ)
    → SameWords (in_cycle (settings_of s) (ended_move s h y o i d n) d y.times) (ended_by s h o i d y).times
unfolding after_event
ended_same s h y None i d n = record { stream = refl; half = refl; ctl = refl }
ended_same s h y (Some choice) i d n = record { stream = refl; half = refl; ctl = refl }

-- a redirect to an even program counter of 32 bits goes to a halfword of the address space
target_by : (b : Bool) (pc target : ℕ) → target_if b pc ≡ Some target → pc % 2 ≡ 0 → pc < 2 ^ 32 → IsTarget target
target_by true pc target e even low = by pc target even low (some_is pc target e)
  where
    some_is : (a b : ℕ) → Some a ≡ Some b → a ≡ b
    some_is a b e = cc

    by : (a b : ℕ) → a % 2 ≡ 0 → a < 2 ^ 32 → a ≡ b → IsTarget b
    by a b even low e =
        record { even = ap (λ n. n % 2) (sym e) ∙ even; low = subst (λ n. n < 2 ^ 32) e low }
target_by false pc target e even low = let no_ : None ≡ Some target = e in cc

-- so does that of a done item, where the next story's program counter is such a one
ended_target : (s : Setup) (h y : Story) (o : Option Choice) (i : Item) (d n target : ℕ)
    → (ended_move s h y o i d n).redirect ≡ Some target → (ended_by s h o i d y).state.pc % 2 ≡ 0
    → (ended_by s h o i d y).state.pc < 2 ^ 32 → IsTarget target
ended_target s h y None i d n target e even low = let no_ : None ≡ Some target = e in cc
ended_target s h y (Some choice) i d n target e even low =
    target_by i.redirects (step_with (lines_in (settings_of s)) h.state choice d).next.pc target e even low

-- a move has a FENCE.I only where the done item fences
ended_fence : (s : Setup) (h y : Story) (o : Option Choice) (i : Item) (d n : ℕ)
    → is_fence (ended_move s h y o i d n).left ≡ true → i.fences ≡ true
ended_fence s h y None i d n e = let no_ : false ≡ true = e in cc
ended_fence s h y (Some choice) i d n e = e

-- the move takes so many parcels, whether the item has an event or is a dummy
ended_taken : (s : Setup) (h y : Story) (o : Option Choice) (i : Item) (d n : ℕ)
    → (ended_move s h y o i d n).taken ≡ n
ended_taken s h y None i d n = refl
ended_taken s h y (Some choice) i d n = refl

-- ---- the item in the stage is the one that is open in the history

-- ---- from cycle to cycle

-- nothing is taken, or an item's parcels are
record Taken (s : Setup) (limit c : ℕ) (h : Story) (o : Option ℕ) : Type 0 where
  taken_ : ℕ
  fit : IsFit s h c taken_
  same : SameWords (taken_by taken_ c h.times) (with_item s h o).times

-- where no item is admitted nothing is taken, and the words stay
none_taken : (s : Setup) (limit c : ℕ) (h : Story) → h.times.half < 2 → Taken s limit c h None
none_taken s limit c h low = record {
  taken_ = 0;
  fit = record { few = omega arith; there = λ some. absurd (omega arith) };
  same = same_none c h.times low;
}

-- the item that is admitted in this cycle takes its parcels now
one_taken : (s : Setup) (limit c t : ℕ) (h : Story) → t ≡ c → admission s limit h ≡ t → c < limit
    → Taken s limit c h (Some t)
one_taken s limit c t h at adm less =
    subst (λ d. Taken s limit c h (Some d)) (sym at) (record {
      taken_ = (item_at s c h).parcels;
      fit = admits_fit s limit c h (adm ∙ at) less;
      same = same_admitted s c h;
    })

-- what the next cycle's stage says of it, where this one's is empty or comes to be
now_taken : (s : Setup) (limit c : ℕ) (h : Story) (o : Option ℕ) (q : ℕ) (st : System) → Inv s limit h o q st
    → st.cycle ≡ c + 1 → c < limit → c ≤ admission s limit h → Taken s limit c h o
now_taken s limit c h None q st i at less late = none_taken s limit c h i.words.fetch.half_low
now_taken s limit c h (Some t) q st i at less late =
    one_taken s limit c t h
    (omega (arith, i.stage.admitted_at, late, at, phase_early s t h limit st.cycle st.main.id.phase i.stage.phase))
    i.stage.admitted_at less

-- a cycle in which nothing is done
silent_on : (s : Setup) (limit : ℕ) (h : Story) (o u : Option ℕ) (q v : ℕ) (st x : System) → Inv s limit h o q st
    → Inv s limit h u v x → x.cycle ≡ st.cycle + 1 → st.cycle < limit → Leads s st.cycle (with_item s h o).times
    → Leads s (suc st.cycle) (with_item s h u).times
silent_on s limit h None u q v st x i j at less l =
    let n : Taken s limit st.cycle h u = now_taken s limit st.cycle h u v x j at less
    (none_late s limit st.cycle h st.main.id st.main.md st.main.ls st.dport i.stage) in
    steps_on s st.cycle h.times (with_item s h u).times (record { left = None; redirect = None; taken = n.taken_ }) l
    (record {
      target = λ t e. let no_ : None ≡ Some t = e in cc;
      begun = λ e. let no_ : false ≡ true = e in cc;
      few = n.fit.few;
      there = n.fit.there;
    }) n.same
silent_on s limit h (Some t) None q v st x i j at less l =
    absurd (omega (
      arith,
      i.stage.admitted_at,
      phase_early s t h limit st.cycle st.main.id.phase i.stage.phase,
      none_late s limit x.cycle h x.main.id x.main.md x.main.ls x.dport j.stage,
      at,
    ))
silent_on s limit h (Some t) (Some a) q v st x i j at less l =
    subst (λ b. Leads s (suc st.cycle) (with_item s h (Some b)).times) (sym i.stage.admitted_at ∙ j.stage.admitted_at)
    (steps_on s st.cycle (with_item s h (Some t)).times (with_item s h (Some t)).times nothing_comes l
    (rests_move s (with_item s h (Some t)).times st.cycle)
    (same_none st.cycle (with_item s h (Some t)).times i.words.fetch.half_low))

-- a cycle in which the item in the stage is done
done_on : (s : Setup) (limit t : ℕ) (h : Story) (u : Option ℕ) (q v : ℕ) (st x : System) → Inv s limit h (Some t) q st
    → done_at s limit t h ≡ st.cycle → Inv s limit (continued s limit t h) u v x → x.cycle ≡ st.cycle + 1
    → st.cycle < limit → Leads s st.cycle (taken s t h).times
    → Leads s (suc st.cycle) (with_item s (continued s limit t h) u).times
unfolding continued
done_on s limit t h u q v st x i done j at less l =
    let k : Settings = settings_of s in
    let d : ℕ = done_at s limit t h in
    let y : Story = taken s t h in
    let z : Story = continued s limit t h in
    let o : Option Choice = choice_at s t h in
    let a : Item = item_at s t h in
    let n : Taken s limit d z u = now_taken s limit d z u v x j (omega (arith, at, done)) (omega (arith, less, done))
    (omega (arith, next_done s limit t h, admission_after s limit z)) in
    let m : Move = ended_move s h y o a d n.taken_ in
    let count : m.taken ≡ n.taken_ = ended_taken s h y o a d n.taken_ in
    let same : SameWords (in_cycle k m d y.times) z.times = ended_same s h y o a d n.taken_ in
    subst (λ c. Leads s (suc c) (with_item s z u).times) done
    (steps_on s d y.times (with_item s z u).times m (subst (λ c. Leads s c y.times) (sym done) l)
    (record {
      target = λ target e. ended_target s h y o a d n.taken_ target e j.state.good.pc_even j.state.good.pc_low;
      begun = λ e. subst (λ c. 0 < requested k y.times.stream c) (sym done)
          (subst (λ b. 0 < b) (sym (requested_is k y.times.stream st.cycle q i.words.requested))
          (has_request k y.times.stream t st.cycle q i.words.requested
          (i.begun (fences_real s t h (ended_fence s h y o a d n.taken_ e)))
          (phase_early s t h limit st.cycle st.main.id.phase i.stage.phase)));
      few = subst (λ b. b ≤ 2) (sym count) n.fit.few;
      there = subst (λ b. 0 < b → has_answered k (in_cycle k m d y.times) b d ≡ true) (sym count)
          (λ some. same_answered k (in_cycle k m d y.times) z.times n.taken_ d same ∙ n.fit.there some);
    })
    (subst (λ b. SameWords (taken_by b d (in_cycle k m d y.times)) (with_item s z u).times) (sym count)
    (same_trans (taken_by n.taken_ d (in_cycle k m d y.times)) (taken_by n.taken_ d z.times) (with_item s z u).times
    (same_taken n.taken_ d (in_cycle k m d y.times) z.times same) n.same)))

-- a cycle in which the history ends an item leads on, since the stage held just that item
ended_on : (s : Setup) (limit t : ℕ) (h : Story) (o u : Option ℕ) (q v : ℕ) (st x : System) → Inv s limit h o q st
    → admission s limit h ≡ t → done_at s limit t h ≡ st.cycle → Inv s limit (continued s limit t h) u v x
    → x.cycle ≡ st.cycle + 1 → st.cycle < limit → Leads s st.cycle (with_item s h o).times
    → Leads s (suc st.cycle) (with_item s (continued s limit t h) u).times
ended_on s limit t h None u q v st x i adm done j at less l =
    absurd (omega (
      arith,
      adm,
      done,
      done_after (settings_of s) limit t (item_at s t h) h.times,
      none_late s limit st.cycle h st.main.id st.main.md st.main.ls st.dport i.stage,
    ))
ended_on s limit t h (Some b) u q v st x i adm done j at less l =
    let same : b ≡ t = sym i.stage.admitted_at ∙ adm in
    done_on s limit t h u q v st x (subst (λ a. Inv s limit h (Some a) q st) same i) done j at less
    (subst (λ a. Leads s st.cycle (taken s a h).times) same l)

-- ---- a whole run

-- moves lead to the words of a story with its open item
abbrev LeadsTo : Setup → ℕ → Story → Type 0
LeadsTo s limit h = Leads s limit (with_item s h (open_item s limit h)).times

-- from any state with the invariant on
leads : (s : Setup) → Phases s → IsPlaced s → (limit n fuel : ℕ) (h : Story) (o : Option ℕ) (q : ℕ) (st : System)
    → Inv s limit h o q st → st.cycle + n ≡ limit → n ≤ fuel → Leads s st.cycle (with_item s h o).times
    → LeadsTo s limit (told s limit fuel h).story
leads s ph ok limit zero fuel h o q st i at enough l =
    let now : st.cycle ≡ limit = omega (arith, at) in
    let stage : StageAt s limit h o limit st.main.id st.main.md st.main.ls st.dport =
    subst (λ c. StageAt s limit h o c st.main.id st.main.md st.main.ls st.dport) now i.stage in
    subst (LeadsTo s limit) (sym (ap (λ (r : Told). r.story) (no_more s limit fuel h
    (omega (arith, now, not_before s limit h o st.cycle st.main.id st.main.md st.main.ls st.dport i.stage)))))
    (subst (λ u. Leads s limit (with_item s h u).times)
    (sym (open_is s limit h o st.main.id st.main.md st.main.ls st.dport stage))
    (subst (λ c. Leads s c (with_item s h o).times) now l))
leads s ph ok limit (suc n) zero h o q st i at enough l = absurd (omega arith)
leads s ph ok limit (suc n) (suc fuel) h o q st i at enough l =
    let less : st.cycle < limit = omega (arith, at) in
    let later : suc st.cycle ≡ (system_next s st).cycle = omega (arith, next_cycle s st) in
    elim (step s ph ok limit h o q st less i) [
      | silent none f ↦
          leads s ph ok limit n (suc fuel) h f.phase f.count (system_next s st) f.inv
          (omega (arith, next_cycle s st, at))
          (omega arith)
          (subst (λ c. Leads s c (with_item s h f.phase).times) later
          (silent_on s limit h o f.phase q f.count st (system_next s st) i f.inv (next_cycle s st) less l))
      | ended t adm done happens f ↦
          subst (LeadsTo s limit) (sym (told_next s limit fuel t h adm (omega (arith, done, less))))
          (leads s ph ok limit n fuel (continued s limit t h) f.phase f.count (system_next s st) f.inv
          (omega (arith, next_cycle s st, at)) (omega arith)
          (subst (λ c. Leads s c (with_item s (continued s limit t h) f.phase).times) later
          (ended_on s limit t h o f.phase q f.count st (system_next s st) i adm done f.inv (next_cycle s st) less l)))
    ]

-- none lead to the words at reset
leads_first : (s : Setup) → Leads s 0 (opening s).times
unfolding times_at
leads_first s = record {
  moves = λ c. nothing_comes;
  fits = λ c. rests_move s (times_at s (λ d. nothing_comes) c) c;
  rests_ = λ c late. refl;
  same = record { stream = refl; half = refl; ctl = refl };
}

-- so there is such a course before every cycle
pub is_led : (s : Setup) (n : ℕ) → IsPlaced s → IsLed s n
is_led s n ok =
    let l : LeadsTo s n (told_below s n).story =
    leads s (phases s (remaining s)) ok n n n (opening s) None 0 (first_system s) (opens s ok n)
    (omega (arith, first_cycle s)) (omega arith)
    (subst (λ c. Leads s c (opening s).times) (sym (first_cycle s)) (leads_first s)) in
    record {
      course = record { moves = l.moves; writes = (story_at s n).writes };
      is_course = l.fits;
      writes = refl;
      times = l.same;
    }
