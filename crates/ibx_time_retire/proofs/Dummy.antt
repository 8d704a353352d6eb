-- A dummy leaves the architecture as it is.
use Rattle.std.proofs.Common.{◌≡◌, ℕ, ◌+◌, false, List, None, refl, sym, ap, subst}
use Rattle.ibx_csr.specs.Fields.{tick_of}
use Rattle.ibx_time.specs.Settings.{Setup}
use Rattle.ibx_time.specs.Items.{Item, dummy_item}
use Rattle.ibx_time.specs.Times.{target_if}
use Rattle.ibx_time.specs.History.{Story, choice_at, done_at, ended_by, item_at, item_by, taken}
use Rattle.ibx_id.specs.declared.stage.Turn.TheVariants.{Dummy}
use Rattle.ibx_id.specs.declared.stage.Turn.{Turn}
use Rattle.ibx_time_invariant.proofs.Links.{AreGranted}
use Rattle.ibx_time_invariant.proofs.Ties.{IsBefore, IsPlaced, IsState, Tied}
use Rattle.ibx_time_invariant.proofs.ArchSide.{Left, StillTied}
use Rattle.ibx_time_invariant.proofs.Rests.{arch_rests}
use Rattle.ibx_time_retire.proofs.Frame.{Leaves, leaves}
use Rattle.ibx_core.specs.declared.state.State.{State as Core}
use Rattle.ibx_core.specs.declared.sight.Sight.{Sight}
use Rattle.ibx_core.specs.Effects.{effect_by, rests}
use Rattle.ibx_core.specs.Inputs.{Inputs}

-- what a dummy is
record IsDummy (i : Item) : Type 0 where
  redirects : i.redirects ≡ false
  fences : i.fences ≡ false

-- the item without a choice is one
dummy_is : (s : Setup) (h : Story) → IsDummy (item_by s h None)
unfolding dummy_item
dummy_is s h = record { redirects = refl; fences = refl }

-- so an item that was admitted without a choice doesn't redirect or fence
item_is_dummy : (s : Setup) (t : ℕ) (h : Story) → choice_at s t h ≡ None → IsDummy (item_at s t h)
unfolding item_at
item_is_dummy s t h k = subst (λ o. IsDummy (item_by s h o)) (sym k) (dummy_is s h)

-- a story with the item in the stage keeps the state of before
stays : (s : Setup) (t : ℕ) (h : Story) (c : ℕ) (regs : List ℕ) (core : Core)
    → Tied s h c core.next_pc core.csrs regs → IsState s c h → core.dummies ≡ (taken s t h).times.dummies
    → choice_at s t h ≡ None
    → Leaves (item_at s t h) c (rests core) regs (ended_by s h None (item_at s t h) c (taken s t h)) None
unfolding rests taken
stays s t h c regs core ti st dm k =
    let still : StillTied s h (c + 1) core.next_pc (tick_of core.csrs false None) regs =
    arch_rests s h c core.next_pc core.csrs regs ti st in
    let d : IsDummy (item_at s t h) = item_is_dummy s t h k in
    record {
      happens = refl;
      csrs = still.tied.values_are;
      complemented = still.tied.complemented;
      next_pc = still.tied.next_pc_is;
      left = still.tied.regs_are;
      stands = still.state.stands;
      dummies = dm;
      redirect = ap (λ b. target_if b h.state.pc) (sym d.redirects);
      fence = sym d.fences;
    }

-- its effect is a rest
rests_after : (x : Core) (g : Sight) (i : Inputs) (turn : Turn) → turn ≡ Dummy → effect_by turn x g i.lines ≡ rests x
unfolding effect_by
rests_after x g i turn e = ap (λ u. effect_by u x g i.lines) e

-- so a dummy leaves what the history does
pub dummy_ends : (s : Setup) (limit t : ℕ) (h : Story) (c : ℕ) (regs : List ℕ) (core : Core) (g : Sight) (i : Inputs)
    → IsPlaced s → Tied s h c core.next_pc core.csrs regs → IsState s c h
    → core.dummies ≡ (taken s t h).times.dummies → choice_at s t h ≡ None → done_at s limit t h ≡ c
    → IsBefore (taken s t h).writes c → AreGranted (taken s t h).sent c → g.turn ≡ Dummy
    → Left s limit t h c (effect_by g.turn core g i.lines) regs
dummy_ends s limit t h c regs core g i ok ti st dm k d before granted turn =
    subst (λ e. Left s limit t h c e regs) (sym (rests_after core g i g.turn turn))
    (leaves s limit t h c core.next_pc core.csrs regs (rests core) None ok ti st k d before granted
    (stays s t h c regs core ti st dm k))
