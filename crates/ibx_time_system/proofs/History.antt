-- The laws of the two cores: without a flip their steps are the history.
use Rattle.std.proofs.Common.{◌≡◌, ℕ, zero, suc, Bool, true, false, not, ◌||◌, ◌==◌, refl, sym, ap, ap₂, subst, ◌∙◌}
use Rattle.std.proofs.lemmas.Bool.{eqb-true}
use Rattle.ibx_isa.specs.declared.bus.Alerts.{Alerts}
use Rattle.ibx_isa.specs.declared.bus.Req.{Req}
use Rattle.ibx_core.specs.declared.state.State.{State}
use Rattle.ibx_core.specs.Core.{is_minor}
use Rattle.ibx_time.specs.BusLines.{BusLine}
use Rattle.ibx_time.specs.Settings.{Setup}
use Rattle.ibx_core.specs.Inputs.{Inputs}
use Rattle.ibx_time_machine.specs.Core.{core_out as machine_out}
use Rattle.ibx_time_machine.specs.System.{Shown, System, happens_at, run as machine_run, shown_by, shown_of, system_next}
use Rattle.ibx_time.specs.Runs.{with_event}
use Rattle.ibx_time_machine.specs.Whole.{system_at, wires_in}
use Rattle.ibx_time_machine.specs.Shown.{shown_in}
use Rattle.ibx_time_invariant.proofs.Results.{Laws}
use Rattle.ibx_time.specs.Runs.{IsPlaced}
use Rattle.ibx_time_system.proofs.Theorem.{system_laws}
use Rattle.ibx_system.specs.Core.{core_parts}
use Rattle.ibx_system.specs.System.{Whole, look, next, output, output_of}
use Rattle.ibx_time_system.specs.Cycles.{SameOut}
use Rattle.ibx_soc.specs.Cycles.{alerts_with, cycle_of, soc_next}
use Rattle.ibx_time_system.specs.Laws.{IsHistory, after, events_of, line_of}
use Rattle.ibx_time_system.specs.Projection.{IsStart}
use Rattle.ibx_time_system.proofs.Inputs.{input_is}
use Rattle.ibx_time_system.proofs.Minors.{minor_quiet}
use Rattle.ibx_time_system.proofs.Outputs.{out_is}
use Rattle.ibx_time_system.proofs.Runs.{Along, addressed, along, along_next, along_start, step_along}
use Rattle.ibx_time_system.proofs.Steps.{puts}
use Rattle.ibx_time_system.proofs.Systems.{machine_system}
use Rattle.ibx_time.specs.Runs.{HoldsRam, HoldsRegisters}
use Rattle.ibx_time_system.proofs.Reset.{start_is}

-- ---- what a step shows

-- the machine shows what its core puts out
shows : (s : Setup) (c : ℕ) (w : Whole State) → Along s c w
    → shown_of s (machine_system w) ≡ shown_by (puts w) w.place.cycle
unfolding shown_of
shows s c w a =
    ap (λ (i : Inputs). shown_by (machine_out w.main i) w.place.cycle)
    (input_is s w a.settings a.words.pending)

-- and that is what the wires say
out_along : (s : Setup) → IsPlaced s → (c : ℕ) (w : Whole State) → Along s c w
    → SameOut (puts w) (output core_parts w.place w.main) (is_minor w.main (look core_parts w.place w.main))
unfolding core_parts
out_along s ok c w a = out_is w.main (look core_parts w.place w.main) (addressed s ok c w a)

-- ---- the events

-- those of the machine's run
events_are : (s : Setup) → IsPlaced s → (n c : ℕ) (w : Whole State) → Along s c w
    → events_of n w ≡ machine_run s n (machine_system w)
unfolding events_of machine_run cycle_of
events_are s ok zero c w a = refl
events_are s ok (suc n) c w a =
    let o = out_along s ok c w a in
    let now : (cycle_of w).event ≡ (shown_of s (machine_system w)).happens =
    ap (happens_at w.place.cycle) (sym o.happens) ∙ ap (λ (x : Shown). x.happens) (sym (shows s c w a)) in
    let b : Along s (suc c) (next core_parts w) = along_next s ok c w a in
    let later : events_of n (soc_next w) ≡ machine_run s n (system_next s (machine_system w)) =
    events_are s ok n (suc c) (next core_parts w) b ∙ ap (machine_run s n) (sym (step_along s ok c w a)) in
    ap₂ with_event now later

-- ---- the wires

-- both requests
abbrev made : Req → Req → BusLine
made f l = record { fetch = f; load_store = l }

-- those of the machine in its cycle
line_is : (s : Setup) → IsPlaced s → (c : ℕ) (w : Whole State) → Along s c w → line_of (cycle_of w).bus ≡ wires_in s c
unfolding cycle_of
line_is s ok c w a =
    let o = out_along s ok c w a in
    ap₂ made (sym o.fetch) (sym o.load_store)
    ∙ ap (λ (x : Shown). made x.fetch x.load_store) (sym (shows s c w a))
    ∙ ap (λ (y : System). made (shown_of s y).fetch (shown_of s y).load_store) a.system

-- ---- no alert

-- a test whose opposite is false
unnot : (b : Bool) → not b ≡ false → b ≡ true
unnot true e = refl
unnot false e = absurd cc

-- no alert of main, and no difference that is told
no_alerts : (n : ℕ) (minor alerts told : Bool) → not (n == 0) ≡ (minor || alerts) → minor ≡ false → alerts ≡ false
    → told ≡ false
    → alerts_with told n ≡ record { 0 = 0 }
no_alerts n minor alerts told e f g h =
    let none : n ≡ 0 = eqb-true n 0 (unnot (n == 0) (e ∙ ap₂ (λ (a b : Bool). a || b) f g)) in
    rw h (ap with_number none)
  where
    with_number : ℕ → Alerts
    with_number m = record { 0 = m }

-- in a cycle
quiet_along : (s : Setup) → IsPlaced s → (c : ℕ) (w : Whole State) → Along s c w
    → (shown_of s (system_at s c)).alerts ≡ false
    → (cycle_of w).alerts ≡ record { 0 = 0 }
unfolding cycle_of
quiet_along s ok c w a quiet =
    let main_quiet : (puts w).alerts ≡ false =
    ap (λ (x : Shown). x.alerts) (sym (shows s c w a)) ∙ ap (λ (y : System). (shown_of s y).alerts) a.system ∙ quiet in
    no_alerts (output_of core_parts w).alerts (is_minor w.main (look core_parts w.place w.main)) (puts w).alerts
    w.told
    (out_along s ok c w a).alerts (minor_quiet w.place w.main a.words) main_quiet
    a.follows.untold

-- ---- all laws

-- without a flip the steps of the system are the history
pub two_core_laws : (s : Setup) → IsPlaced s → (w : Whole State) → IsStart s w → IsHistory s w
two_core_laws s ok w i =
    let l : Laws s = system_laws s ok in
    record {
      events = λ n. events_are s ok n 0 w (along_start s w i) ∙ ap (machine_run s n) (start_is s w i) ∙ l.events n;
      wires = λ c. line_is s ok c (after w c) (along s ok w i c) ∙ l.wires c;
      quiet = λ c. quiet_along s ok c (after w c) (along s ok w i c) (l.quiet c);
      fields = λ c. ap (λ (y : System). shown_in y.main) (along s ok w i c).system ∙ l.fields c;
      registers = λ c. subst (λ (y : System). HoldsRegisters s c y.regs) (sym (along s ok w i c).system) (l.words c).0;
      memory = λ c. subst (λ (y : System). HoldsRam s c y.mem.words) (sym (along s ok w i c).system) (l.words c).1;
    }
