-- Equal time views make events alike, and equal views make equal time views.
use Rattle.std.proofs.Common.{◌≡◌, ℕ, zero, suc, Bool, true, false, ◌==◌, List, [], ◌∷◌, map, Option, Some}
use Rattle.std.proofs.Common.{refl, sym, ap, ◌∙◌}
use Rattle.std.specs.Prelude.{take}
use Rattle.ibx_isa.specs.declared.insn.Insn.{Insn}
use Rattle.ibx_isa.specs.declared.insn.Insn.TheVariants.{Csr, Mret}
use Rattle.ibx_isa.specs.declared.event.Event.{Event}
use Rattle.ibx_isa.specs.declared.event.Event.TheVariants.{Retire, Trap, Irq}
use Rattle.ibx_isa.specs.declared.event.View.{View}
use Rattle.ibx_isa.specs.Views.{view_of}
use Rattle.ibx_decoder.specs.Instructions.{instruction_of}
use Rattle.ibx_dummy.specs.declared.unit.Dummy.{Dummy}
use Rattle.ibx_time.specs.Settings.{Settings}
use Rattle.ibx_time.specs.Controls.{Ctl, ctl_after, ctl_retired}
use Rattle.ibx_time.specs.Dummies.{dummies_after, seed_by}
use Rattle.ibx_time.specs.Items.{item_of}
use Rattle.ibx_views.specs.declared.time_view.Change.{Change}
use Rattle.ibx_views.specs.declared.time_view.Change.TheVariants.{Unchanged, Trapped, Interrupted, Returned, Wrote}
use Rattle.ibx_views.specs.declared.time_view.TimeView.{TimeView}
use Rattle.ibx_views.specs.TimeViews.{change_retired}
use Rattle.ibx_views.specs.TimeViews.{change_of, ctl_changed, dummies_changed, time_view, time_views}
use Rattle.ibx_views.specs.Laws.{EqualViewsEqualTimeViews}
use Rattle.ibx_views.proofs.Alike.{IsSame, Alike}
use Rattle.ibx_views.proofs.Shown.{same_items}

-- ---- the change says what the folds read of a view

-- the change of an interrupt
abbrev is_interrupt : Change → Bool
is_interrupt Unchanged = false
is_interrupt Trapped = false
is_interrupt Interrupted = true
is_interrupt Returned = false
is_interrupt (Wrote addr value) = false

-- by the row of an instruction that retired
retired_kind : (o : Option Insn) (written : Option ℕ) → is_interrupt (change_retired o written) ≡ false
retired_kind (Some Mret) written = refl
retired_kind (Some (Csr op rd src imm addr)) (Some value) = refl
retired_kind o written = refl

-- the registers after it
retired_ctl : (c : Ctl) (o : Option Insn) (written : Option ℕ)
    → ctl_retired c o written ≡ ctl_changed c (change_retired o written)
retired_ctl c (Some Mret) written = refl
retired_ctl c (Some (Csr op rd src imm addr)) (Some value) = refl
retired_ctl c o written = refl

-- the unit of dummies after it
retired_dummies : (d : Dummy) (o : Option Insn) (written : Option ℕ)
    → seed_by d o written ≡ dummies_changed d (change_retired o written)
retired_dummies d (Some Mret) written = refl
retired_dummies d (Some (Csr op rd src imm addr)) (Some value) = refl
retired_dummies d o written = refl

-- so for the view of every event
change_kind : (e : Event) → ((view_of e).kind == 2) ≡ is_interrupt (change_of (view_of e))
unfolding view_of change_of
change_kind (Retire cycle pc word rd value mem ctl ops) = sym (retired_kind (instruction_of word) ctl)
change_kind (Trap cycle pc word cause tval addr) = refl
change_kind (Irq cycle pc cause) = refl

-- the registers after an event are those that its change leaves
pub change_ctl : (c : Ctl) (e : Event) → ctl_after c (view_of e) ≡ ctl_changed c (change_of (view_of e))
unfolding view_of change_of ctl_after
change_ctl c (Retire cycle pc word rd value mem ctl ops) = retired_ctl c (instruction_of word) ctl
change_ctl c (Trap cycle pc word cause tval addr) = refl
change_ctl c (Irq cycle pc cause) = refl

-- and so for the unit of dummies
change_dummies : (d : Dummy) (e : Event) → dummies_after d (view_of e) ≡ dummies_changed d (change_of (view_of e))
unfolding view_of change_of
change_dummies d (Retire cycle pc word rd value mem ctl ops) = retired_dummies d (instruction_of word) ctl
change_dummies d (Trap cycle pc word cause tval addr) = refl
change_dummies d (Irq cycle pc cause) = refl

-- events with one time view are read alike
pub same_events : (k : Settings) (c : Ctl) (e f : Event) → time_view k c (view_of e) ≡ time_view k c (view_of f)
    → IsSame k c (view_of e) (view_of f)
same_events k c e f same =
    let changes : change_of (view_of e) ≡ change_of (view_of f) = ap (λ (v : TimeView). v.change) same in
    record {
      pc = ap (λ (v : TimeView). v.pc) same;
      kind = change_kind e ∙ ap is_interrupt changes ∙ sym (change_kind f);
      item = same_items (item_of k c (view_of e)) (item_of k c (view_of f)) (ap (λ (v : TimeView). v.item) same);
      ctl = change_ctl c e ∙ ap (ctl_changed c) changes ∙ sym (change_ctl c f);
      dummies = λ d. change_dummies d e ∙ ap (dummies_changed d) changes ∙ sym (change_dummies d f);
    }

-- ---- lists

-- the time views of a list begin with that of its head
abbrev seen : Settings → Ctl → List Event → List TimeView
seen k c events = time_views k c (map view_of events)

-- events whose first j time views agree are read alike
pub alike_events : (k : Settings) (c : Ctl) (j : ℕ) (xs ys : List Event)
    → take j (time_views k c (map view_of xs)) ≡ take j (time_views k c (map view_of ys))
    → Alike k c j (map view_of xs) (map view_of ys)
unfolding time_views
alike_events k c zero xs ys e = tt
alike_events k c (suc j) [] [] e = tt
alike_events k c (suc j) [] (y ∷ ys) e = cc
alike_events k c (suc j) (x ∷ xs) [] e = cc
alike_events k c (suc j) (x ∷ xs) (y ∷ ys) e =
    let same : IsSame k c (view_of x) (view_of y) = same_events k c x y cc in
    let rest : take j (seen k (ctl_after c (view_of x)) xs) ≡ take j (seen k (ctl_after c (view_of y)) ys) = cc in (
      same,
      alike_events k (ctl_after c (view_of x)) j xs ys
          (rest ∙ ap (λ z. take j (seen k z ys)) (sym same.ctl)),
    )

-- equal views have equal time views
views_seen : (k : Settings) (c : Ctl) (j : ℕ) (va vb : List View) → take j va ≡ take j vb
    → take j (time_views k c va) ≡ take j (time_views k c vb)
unfolding time_views
views_seen k c zero va vb e = refl
views_seen k c (suc j) [] [] e = refl
views_seen k c (suc j) [] (w ∷ vb) e = absurd (cc)
views_seen k c (suc j) (v ∷ va) [] e = absurd (cc)
views_seen k c (suc j) (v ∷ va) (w ∷ vb) e =
    let same : v ≡ w = cc in
    let rest : take j va ≡ take j vb = cc in
    ap (λ z. time_view k c v ∷ z) (views_seen k (ctl_after c v) j va vb rest)
    ∙ ap (λ z. time_view k c z ∷ take j (time_views k (ctl_after c z) vb)) same

-- so it is for events
pub equal_time_views : EqualViewsEqualTimeViews
equal_time_views k j xs ys e = views_seen k _ j (map view_of xs) (map view_of ys) e
