-- A run of the two cores without a flip is the machine's run.
use Rattle.std.proofs.Common.{◌≡◌, ℕ, zero, suc, map, None, refl, sym, ap, subst, ◌∙◌}
use Rattle.ibx_secded.specs.Code.{encode_of}
use Rattle.ibx_core.specs.declared.state.State.{State}
use Rattle.ibx_time.specs.History.{Story, told_below}
use Rattle.ibx_time.specs.Settings.{Setup}
use Rattle.ibx_core.specs.Inputs.{Inputs}
use Rattle.ibx_time_machine.specs.Core.{core_out as machine_out}
use Rattle.ibx_time_machine.specs.System.{System, first_system, system_by, system_next}
use Rattle.ibx_time_machine.specs.Words.{put_reg}
use Rattle.ibx_time_machine.specs.Whole.{steps, system_at}
use Rattle.ibx_time_invariant.proofs.Phases.{Phases}
use Rattle.ibx_time_invariant.proofs.Results.{phases}
use Rattle.ibx_time_invariant.proofs.Runs.{Before, before}
use Rattle.ibx_time.specs.Runs.{IsPlaced}
use Rattle.ibx_time_system.proofs.Theorem.{remaining}
use Rattle.ibx_system.specs.Core.{core_parts}
use Rattle.ibx_system.specs.Runs.{Codewords, run}
use Rattle.ibx_system.specs.System.{Whole, next, settle, Place}
use Rattle.ibx_system.proofs.Codewords.{ready_next}
use Rattle.ibx_system.proofs.Follows.{Follows, follows_first, follows_next}
use Rattle.ibx_system.proofs.RealCore.{core_laws}
use Rattle.ibx_system.proofs.Runs.{run_more}
use Rattle.ibx_plan.specs.declared.site.Site.TheVariants as site
use Rattle.ibx_time_system.specs.Cycles.{IsAddressed, put_low}
use Rattle.ibx_time_system.specs.Laws.{after}
use Rattle.ibx_time_system.specs.Projection.{IsStart, settings_in}
use Rattle.ibx_time_system.proofs.Inputs.{input_is}
use Rattle.ibx_time_system.proofs.Kept.{link_addressed, low_write}
use Rattle.ibx_time_system.proofs.Steps.{puts, step_is}
use Rattle.ibx_time_system.proofs.Systems.{machine_system}
use Rattle.ibx_time_system.proofs.Reset.{start_is}

-- ---- the machine's run

-- the statements on its phases
pub has_phases : (s : Setup) → Phases s
has_phases s = phases s (remaining s)

-- its last step
steps_last : (s : Setup) (c : ℕ) (x : System) → steps s (suc c) x ≡ system_next s (steps s c x)
unfolding steps
steps_last s zero x = refl
steps_last s (suc c) x = steps_last s c (system_next s x)

-- ---- the two cores before the step of cycle c

-- the system is the machine's before cycle c, the shadow follows main, and all words are codewords
pub record Along (s : Setup) (c : ℕ) (w : Whole State) : Type 0 where
  pub system : machine_system w ≡ system_at s c
  pub settings : w.place.settings ≡ settings_in s
  pub follows : Follows core_parts core_laws w.delay w
  pub words : Codewords w.place

-- the address of a line that is stored
pub addressed : (s : Setup) → IsPlaced s → (c : ℕ) (w : Whole State) → Along s c w → IsAddressed w.main.words
addressed s ok c w a =
    let b : Before s c (told_below s c).story (system_at s c) = before s (has_phases s) ok c in
    subst (λ (x : System). IsAddressed x.main.words) (sym a.system) (link_addressed s _ _ _ _ _ _ _ _ _ _
    b.inv.words.link)

-- the registers after the machine's step
regs_next : (s : Setup) (w : Whole State) → w.place.settings ≡ settings_in s → w.place.pending ≡ None
    → (system_next s (machine_system w)).regs ≡ put_reg (puts w).write w.place.registers
unfolding system_next system_by
regs_next s w e n =
    ap (λ (i : Inputs). put_reg (machine_out w.main i).write w.place.registers) (input_is s w e n)

-- a value that is written has 32 bits
low_value : (s : Setup) → IsPlaced s → (c : ℕ) (w : Whole State) → Along s c w
    → put_reg (puts w).write w.place.registers ≡ put_low (puts w).write w.place.registers
low_value s ok c w a =
    let h : Story = (told_below s (suc c)).story in
    let b : Before s (suc c) h (system_at s (suc c)) = before s (has_phases s) ok (suc c) in
    let regs : put_reg (puts w).write w.place.registers ≡ map (encode_of 32 7) h.state.regs =
    sym (regs_next s w a.settings a.words.pending)
    ∙ ap (λ (x : System). (system_next s x).regs) a.system
    ∙ ap (λ (x : System). x.regs) (sym (steps_last s c (first_system s)))
    ∙ b.inv.tied.regs_are in
    low_write (puts w).write w.place.registers h.state.regs regs b.inv.state.good.regs_low

-- ---- a step

-- the settings stay
same_settings : (w : Whole State) → (next core_parts w).place.settings ≡ w.place.settings
unfolding next settle
same_settings w = refl

-- and so do codewords
codewords_next : (w : Whole State) → Codewords w.place → Codewords (next core_parts w).place
codewords_next w c = (ready_next core_parts core_laws (site.Main 0 0) w (record { words = c; inside = tt })).words

-- the shadow follows main after a step too
follows_on : (w : Whole State) → Follows core_parts core_laws w.delay w
    → Follows core_parts core_laws (next core_parts w).delay (next core_parts w)
unfolding next
follows_on w f = follows_next core_parts core_laws w.delay w f

-- the step itself
pub step_along : (s : Setup) → IsPlaced s → (c : ℕ) (w : Whole State) → Along s c w
    → system_next s (machine_system w) ≡ machine_system (next core_parts w)
step_along s ok c w a = step_is s w a.settings a.words.pending (addressed s ok c w a) (low_value s ok c w a)

-- from cycle to cycle
pub along_next : (s : Setup) → IsPlaced s → (c : ℕ) (w : Whole State) → Along s c w
    → Along s (suc c) (next core_parts w)
along_next s ok c w a = record {
  system = sym (step_along s ok c w a) ∙ ap (system_next s) a.system ∙ sym (steps_last s c (first_system s));
  settings = same_settings w ∙ a.settings;
  follows = follows_on w a.follows;
  words = codewords_next w a.words;
}

-- ---- the run

-- from the first state
pub along_start : (s : Setup) (w : Whole State) → IsStart s w → Along s 0 w
unfolding steps
along_start s w i =
    record {
      system = start_is s w i;
      settings = ap (λ (e : Place). e.settings) i.place;
      follows = follows_first core_parts core_laws w i.first;
      words = i.first.words;
    }

-- at every cycle
pub along : (s : Setup) → IsPlaced s → (w : Whole State) → IsStart s w → (c : ℕ) → Along s c (after w c)
unfolding run
along s ok w i zero = along_start s w i
along s ok w i (suc c) =
    subst (Along s (suc c)) (sym (run_more core_parts None c w)) (along_next s ok c (after w c) (along s ok w i c))
