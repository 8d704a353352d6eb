-- What an effect and a step have to have in common, and that this is all that the end of an item needs.
use Rattle.std.proofs.Common.{◌≡◌, ℕ, ◌+◌, ◌-◌, ◌%◌, ◌^◌, ◌<◌, ◌≤◌, Bool, true, false, List}
use Rattle.std.proofs.Common.{map, Option, Some, None, refl, sym, ap, subst, ◌∙◌, arith}
use Rattle.std.specs.Prelude.{◌==◌, if◌then◌else◌, slice_set, bit_and}
use Rattle.std.proofs.lemmas.List.{map-set}
use Rattle.std.proofs.Math.Nat.{mod-eq_of_lt}
use Rattle.ibx_secded.specs.Code.{encode_of}
use Rattle.ibx_isa.specs.declared.event.Event.{Event}
use Rattle.ibx_isa.specs.declared.event.View.{View}
use Rattle.ibx_csr.specs.Fields.{Complemented, values}
use Rattle.ibx_csr.specs.Values.{CsrValues, counters_after}
use Rattle.ibx_csr.specs.declared.csrs.Csrs.{Csrs}
use Rattle.ibx_arch.specs.Memory.{image_memory}
use Rattle.ibx_arch.specs.State.{State, at_cycle}
use Rattle.ibx_arch.specs.Step.{Choice, Stepped, step_with}
use Rattle.ibx_time.specs.Settings.{Settings, Setup, settings_of, lines_in}
use Rattle.ibx_time.specs.Dummies.{dummies_after}
use Rattle.ibx_dummy.specs.declared.unit.Dummy.{Dummy}
use Rattle.ibx_time.specs.Items.{Item}
use Rattle.ibx_time.specs.Times.{Times, after_event, target_if}
use Rattle.ibx_time.specs.History.{Story, choice_at, continued, done_at, ended_by, event_at, event_by, item_at, taken}
use Rattle.ibx_time.specs.History.{view_with}
use Rattle.ibx_time.proofs.States.{IsGood}
use Rattle.ibx_time_machine.specs.System.{happens_at}
use Rattle.ibx_time_machine.specs.Words.{put_reg}
use Rattle.ibx_time_invariant.proofs.Links.{AreGranted}
use Rattle.ibx_time_invariant.proofs.Ties.{IsBefore, IsPlaced, IsState, Tied}
use Rattle.ibx_time_invariant.proofs.ArchSide.{Left}
use Rattle.ibx_time_invariant.proofs.Rests.{later_before, later_granted}
use Rattle.ibx_time.proofs.Follows.{continued_ctl}
use Rattle.ibx_time.proofs.Seen.{continued_half}
use Rattle.ibx_time.proofs.Places.{continued_place}
use Rattle.ibx_time.proofs.Stories.{continued_good}
use Rattle.ibx_time.proofs.Settled.{IsWritten, all_at, continued_written}
use Rattle.ibx_time_invariant.proofs.Dones.{next_done, next_sent, next_writes}
use Rattle.ibx_time_invariant.proofs.Opens.{sane}
use Rattle.ibx_core.specs.Effects.{Effect}

-- ---- an effect is a step

-- the registers with a write, if there is one
abbrev pub with_write : Option (ℕ × ℕ) → List ℕ → List ℕ
with_write None regs = regs
with_write (Some (n, value)) regs = slice_set regs n value

-- of an item, with the registers and dummies before
pub record Does (c : ℕ) (regs : List ℕ) (d : Dummy) (i : Item) (v : View) (e : Effect) (p : Stepped) : Type 0 where
  pub happens : happens_at c e.happens ≡ Some p.event
  pub csrs : values e.csrs ≡ p.next.csrs
  pub complemented : Complemented e.csrs
  pub next_pc : e.next_pc ≡ p.next.pc
  pub left : with_write e.write regs ≡ p.next.regs
  pub stands : p.next.stands ≡ c + 1
  pub redirect : e.redirect ≡ target_if i.redirects p.next.pc
  pub fence : e.fence ≡ i.fences
  pub dummies : e.dummies ≡ dummies_after d v

-- ---- the registers' words

-- as codewords they take the write's codeword
pub put_written : (o : Option (ℕ × ℕ)) (regs xs : List ℕ) → regs ≡ map (encode_of 32 7) xs
    → put_reg o regs ≡ map (encode_of 32 7) (with_write o xs)
put_written None regs xs e = e
put_written (Some (n, value)) regs xs e =
    ap (λ rs. slice_set rs n (encode_of 32 7 value)) e ∙ sym (map-set (encode_of 32 7) xs n value)

-- ---- the counters

-- no cycle leaves the counters, so a state stands as it is in its own cycle
same_count : (v : CsrValues) (b : Bool) → v.mcycle < 2 ^ 64
    → (if b then (v.mcycle + 0) % 2 ^ 64 else v.mcycle) ≡ v.mcycle
same_count v true l = ap (λ n. n % 2 ^ 64) (let e : v.mcycle + 0 ≡ v.mcycle = omega arith in e) ∙ mod-eq_of_lt l
same_count v false l = refl

-- moving the counters by no cycle changes no register
pub no_cycles : (v : CsrValues) → v.mcycle < 2 ^ 64 → counters_after v 0 ≡ v
unfolding counters_after
no_cycles v l = ap (λ (n : ℕ). record v { mcycle = n }) (same_count v (bit_and v.mcountinhibit 1 == 0) l)

-- a state that stands at c + 1 has no cycle to catch up there
no_gap : (a c : ℕ) → a ≡ c + 1 → c + 1 - a ≡ 0
no_gap a c e = omega (arith, e)

-- so at c + 1 such a state has the registers that it stands with
pub stands_now : (x : State) (c : ℕ) → x.stands ≡ c + 1 → x.csrs.mcycle < 2 ^ 64 → x.csrs ≡ (at_cycle x (c + 1)).csrs
stands_now x c e l = sym (ap (counters_after x.csrs) (no_gap x.stands c e) ∙ no_cycles x.csrs l)

-- ---- the end of an item

-- what is left of an item, with the story after it and its event
pub record Leaves (i : Item) (c : ℕ) (e : Effect) (regs : List ℕ) (z : Story) (o : Option Event) : Type 0 where
  pub happens : happens_at c e.happens ≡ o
  pub csrs : values e.csrs ≡ (at_cycle z.state (c + 1)).csrs
  pub complemented : Complemented e.csrs
  pub next_pc : e.next_pc ≡ z.state.pc
  pub left : put_reg e.write regs ≡ map (encode_of 32 7) z.state.regs
  pub stands : z.state.stands ≤ c + 1
  pub dummies : e.dummies ≡ z.times.dummies
  pub redirect : e.redirect ≡ target_if i.redirects z.state.pc
  pub fence : e.fence ≡ i.fences

-- the rest of the story after it is as every item leaves it
left_now : (s : Setup) (limit t : ℕ) (h : Story) (c next_pc : ℕ) (csrs : Csrs) (regs : List ℕ) (e : Effect) → IsPlaced s
    → Tied s h c next_pc csrs regs → IsState s c h → done_at s limit t h ≡ c → IsBefore (taken s t h).writes c
    → AreGranted (taken s t h).sent c
    → Leaves (item_at s t h) c e regs (continued s limit t h) (event_at s limit t h) → Left s limit t h c e regs
left_now s limit t h c next_pc csrs regs e ok ti i d before granted l =
    let z : Story = continued s limit t h in
    let log : IsBefore z.writes c = subst (λ ws. IsBefore ws c) (sym (next_writes s limit t h)) before in
    let sent : AreGranted z.sent c = subst (λ ts. AreGranted ts c) (sym (next_sent s limit t h)) granted in
    let old : IsWritten s h = i.settled.memory ∙ all_at (image_memory s.image) h.writes c i.settled.before in
    record {
      happens = l.happens;
      tied = record {
        values_are = l.csrs;
        complemented = l.complemented;
        next_pc_is = l.next_pc;
        regs_are = l.left;
        ctl = continued_ctl s limit t h ti.ctl;
        half_low = continued_half s limit t h;
        pc = continued_place s limit t h (sane s ok) ti.ctl ti.half_low i.good ti.pc;
      };
      state = record {
        good = continued_good s limit t h (sane s ok) i.good;
        stands = l.stands;
        done = omega (arith, next_done s limit t h, d);
        settled = record {
          before = later_before z.writes c log;
          granted = later_granted z.sent c sent;
          memory = continued_written s limit t h ti.ctl i.good.ram_is old
              ∙ sym (all_at (image_memory s.image) z.writes (c + 1) (later_before z.writes c log));
        };
      };
      dummies = l.dummies;
      redirect = l.redirect;
      fence = l.fence;
    }

-- the next story and the event by the item's choice
continued_is : (s : Setup) (limit t : ℕ) (h : Story) (c : ℕ) (o : Option Choice) → choice_at s t h ≡ o
    → done_at s limit t h ≡ c → continued s limit t h ≡ ended_by s h o (item_at s t h) c (taken s t h)
unfolding continued
continued_is s limit t h c o e d =
    ap (λ x. ended_by s h x (item_at s t h) (done_at s limit t h) (taken s t h)) e
    ∙ ap (λ x. ended_by s h o (item_at s t h) x (taken s t h)) d

-- the event of an item, by its choice and its done cycle
event_is : (s : Setup) (limit t : ℕ) (h : Story) (c : ℕ) (o : Option Choice) → choice_at s t h ≡ o
    → done_at s limit t h ≡ c → event_at s limit t h ≡ event_by s h o c
unfolding event_at
event_is s limit t h c o e d = ap (λ x. event_by s h x (done_at s limit t h)) e ∙ ap (λ x. event_by s h o x) d

-- by the item's choice
pub leaves : (s : Setup) (limit t : ℕ) (h : Story) (c next_pc : ℕ) (csrs : Csrs) (regs : List ℕ) (e : Effect)
    (o : Option Choice) → IsPlaced s → Tied s h c next_pc csrs regs → IsState s c h → choice_at s t h ≡ o
    → done_at s limit t h ≡ c → IsBefore (taken s t h).writes c → AreGranted (taken s t h).sent c
    → Leaves (item_at s t h) c e regs (ended_by s h o (item_at s t h) c (taken s t h)) (event_by s h o c)
    → Left s limit t h c e regs
leaves s limit t h c next_pc csrs regs e o ok ti i k d before granted l =
    left_now s limit t h c next_pc csrs regs e ok ti i d before granted
    (subst (λ z. Leaves (item_at s t h) c e regs z (event_at s limit t h)) (sym (continued_is s limit t h c o k d))
    (subst (λ x. Leaves (item_at s t h) c e regs (ended_by s h o (item_at s t h) c (taken s t h)) x)
    (sym (event_is s limit t h c o k d)) l))

-- the step of the history with a choice
abbrev pub step_of : Setup → Story → Choice → ℕ → Stepped
step_of s h choice c = step_with (lines_in (settings_of s)) h.state choice c

-- an event changes the dummies by its view alone
after_dummies : (k : Settings) (d : ℕ) (v : View) (i : Item) (pc : ℕ) (x : Times)
    → (after_event k d v i pc x).dummies ≡ dummies_after x.dummies v
unfolding after_event
after_dummies k d v i pc x = refl

-- an item with an event leaves its step
pub steps : (s : Setup) (h y : Story) (i : Item) (c : ℕ) (regs : List ℕ) (choice : Choice) (e : Effect)
    → regs ≡ map (encode_of 32 7) h.state.regs → IsGood s.image.ram (step_of s h choice c).next
    → Does c h.state.regs y.times.dummies i (view_with s h choice) e (step_of s h choice c)
    → Leaves i c e regs (ended_by s h (Some choice) i c y) (event_by s h (Some choice) c)
steps s h y i c regs choice e r g d =
    let p : Stepped = step_of s h choice c in
    record {
      happens = d.happens;
      csrs = d.csrs ∙ stands_now p.next c d.stands g.csrs.mcycle;
      complemented = d.complemented;
      next_pc = d.next_pc;
      left = put_written e.write regs h.state.regs r ∙ ap (map (encode_of 32 7)) d.left;
      stands = omega (arith, d.stands);
      dummies = d.dummies ∙ sym (after_dummies (settings_of s) c (view_with s h choice) i p.next.pc y.times);
      redirect = d.redirect;
      fence = d.fence;
    }
