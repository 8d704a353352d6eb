-- The rows that only compute and jump.
use Rattle.std.proofs.Common.{◌≡◌, ℕ, ◌+◌, ◌%◌, ◌^◌, true, false, Some, None, ap, ◌∙◌}
use Rattle.ibx_isa.specs.declared.insn.Insn.{Insn}
use Rattle.ibx_isa.specs.declared.event.View.{View}
use Rattle.ibx_isa.specs.Views.{view_of}
use Rattle.ibx_csr.specs.Values.{csr_tick}
use Rattle.ibx_arch.specs.Effects.{execute}
use Rattle.ibx_arch.specs.Step.{Stepped, finished, operands}
use Rattle.ibx_time.specs.Settings.{Settings, settings_of}
use Rattle.ibx_time.specs.Controls.{Ctl}
use Rattle.ibx_time.specs.Dummies.{seed_by}
use Rattle.ibx_dummy.specs.declared.unit.Dummy.{Dummy}
use Rattle.ibx_time.specs.Items.{Item, parcels_of, plain, retired_item}
use Rattle.ibx_time_retire.proofs.Insn.{Case, Ended, Holds, Known, Meets, effect_now, next_is, now}
use Rattle.ibx_time_retire.proofs.Insn.{retire_step, row_ends, row_item}
use Rattle.ibx_core.specs.Sights.{access_by}
use Rattle.ibx_core.specs.Effects.{following as next_of, retires, ticked, outcome_by}
use Rattle.std.proofs.Common.{refl}
use Rattle.ibx_time_retire.proofs.Rows.{retires_as}

-- the step of an instruction in the state of the cycle
abbrev pub insn_step : Case → ℕ → ℕ → ℕ → Insn → Stepped
insn_step m word len lines insn =
    finished (now m).pc (now m).regs m.c word (operands (now m) insn) (execute (now m) insn word len lines)

-- a row without an access, whose item is no FENCE.I
pub record IsPlainRow (insn : Insn) : Type 0 where
  pub none : (a b : ℕ) → access_by (Some insn) a b ≡ None
  pub seed : (d : Dummy) → seed_by d (Some insn) None ≡ d
  pub fences : (k : Settings) (c : Ctl) (v : View) (n : ℕ) → (retired_item k c v (Some insn) (plain n)).fences ≡ false

-- the step of such a row that retires with a value
abbrev pub plain_step : Case → ℕ → Insn → ℕ → ℕ → ℕ → Stepped
plain_step m word insn rd value next =
    retire_step m word insn m.h.state.memory (csr_tick (now m).csrs true None) rd value None None next

-- by its value and its next program counter
pub plain_ends : (m : Case) (word len rd value next : ℕ) (insn : Insn) → IsPlainRow insn
    → Known m → Meets m (plain_step m word insn rd value next)
    → Holds m word len insn (view_of (plain_step m word insn rd value next).event)
    → retires m.core m.g m.i.redirects (outcome_by (Some insn) m.core m.g m.inn.lines)
    ≡ retires_as m.core m.g m.i.redirects rd value None next (ticked m.core)
    → Ended m (effect_now m) (plain_step m word insn rd value next)
unfolding view_of
plain_ends m word len rd value next insn r k t hd e =
    let v : View = view_of (plain_step m word insn rd value next).event in
    let item : m.i ≡ retired_item (settings_of m.s) m.h.times.ctl v (Some insn) (plain (parcels_of word)) =
    t.item ∙ row_item (settings_of m.s) m.h.times.ctl v word insn refl refl hd.insn_is in
    row_ends m word len rd value next insn None m.h.state.memory k t hd (hd.access ∙ r.none m.g.a m.g.b) e (r.seed m.d)
    (ap (λ (j : Item). j.fences) item ∙ r.fences (settings_of m.s) m.h.times.ctl v (parcels_of word))

-- a row whose next program counter follows
pub follow_ends : (m : Case) (word len rd value seen : ℕ) (insn : Insn) → IsPlainRow insn
    → Known m → Meets m (plain_step m word insn rd value ((m.h.state.pc + len) % 2 ^ 32))
    → Holds m word len insn (view_of (plain_step m word insn rd value ((m.h.state.pc + len) % 2 ^ 32)).event)
    → retires m.core m.g m.i.redirects (outcome_by (Some insn) m.core m.g m.inn.lines)
    ≡ retires_as m.core m.g m.i.redirects rd seen None (next_of m.core.id) (ticked m.core)
    → seen ≡ value
    → Ended m (effect_now m) (plain_step m word insn rd value ((m.h.state.pc + len) % 2 ^ 32))
follow_ends m word len rd value seen insn r k t hd e ev =
    plain_ends m word len rd value ((m.h.state.pc + len) % 2 ^ 32) insn r k t hd
    (e ∙ ap (λ x. retires_as m.core m.g m.i.redirects rd x None (next_of m.core.id) (ticked m.core)) ev
    ∙ ap (λ x. retires_as m.core m.g m.i.redirects rd value None x (ticked m.core))
    (next_is m word len k hd.word_is hd.len_is))
