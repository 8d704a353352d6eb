-- A store in its last cycle, done or failed at one of its portions.
use Rattle.std.proofs.Common.{◌≡◌, ℕ, ◌+◌, ◌%◌, ◌^◌, true, false, ◌&&◌, ◌==◌}
use Rattle.std.proofs.Common.{refl, ap, ap₂, ◌∙◌, Option, Some, None}
use Rattle.ibx_isa.specs.declared.insn.Insn.{Insn}
use Rattle.ibx_isa.specs.declared.insn.Insn.TheVariants.{Store}
use Rattle.ibx_isa.specs.declared.event.Access.{Access}
use Rattle.ibx_isa.specs.declared.event.View.{View}
use Rattle.ibx_isa.specs.Views.{view_of}
use Rattle.ibx_csr.specs.Values.{CsrValues, csr_tick}
use Rattle.ibx_isa.specs.Portions.{portion_addr}
use Rattle.ibx_pmp.specs.declared.protection.AccessKind.TheVariants.{Write as Writes}
use Rattle.ibx_arch.specs.Memory.{Memory}
use Rattle.ibx_arch.specs.State.{State, reg}
use Rattle.ibx_arch.specs.Access.{error_at, has_second, is_refused, refused_at, stored}
use Rattle.ibx_arch.specs.Effects.{execute, following, store, store_with}
use Rattle.ibx_arch.specs.Step.{Stepped, finished, operands}
use Rattle.ibx_time.specs.Settings.{settings_of}
use Rattle.ibx_time.specs.Items.{Item, parcels_of, plain}
use Rattle.ibx_time.specs.Items.{retired_item}
use Rattle.ibx_time_invariant.proofs.Stages.{view_phase}
use Rattle.ibx_time_retire.proofs.Insn.{Case, Ended, Holds, Known, Meets, effect_now, next_is, no_trap_phase}
use Rattle.ibx_time_retire.proofs.Insn.{now, retire_step, row_ends, row_item}
use Rattle.ibx_time_retire.proofs.Loads.{FailsAt, at_by, error_place, not_four, portion_ends}
use Rattle.ibx_time_retire.proofs.Simple.{RowEnds}
use Rattle.ibx_time_retire.proofs.Traps.{trapped}
use Rattle.ibx_core.specs.Effects.{ticked, outcome_by, plain_outcome}
use Rattle.ibx_time_retire.proofs.Rows.{retires_as}
use Rattle.ibx_core.specs.Sights.{access_by}

-- protection refuses a store at one of its portions
pub denied_place : (x : State) (addr size at : ℕ) → refused_at x.csrs addr size Writes ≡ Some at → FailsAt addr at
unfolding refused_at
denied_place x addr size at e = record {
  place =
      at_by (is_refused x.csrs addr size Writes false)
      (has_second addr size && is_refused x.csrs addr size Writes true)
      addr (portion_addr addr true) at e;
}

-- ---- the row

-- the address of a store, and its access
abbrev pub store_addr : Case → ℕ → ℕ → ℕ
store_addr m rs1 imm = (reg m.h.state rs1 + imm) % 2 ^ 32

-- the access of a store
abbrev pub store_access : Case → ℕ → ℕ → ℕ → ℕ → Access
store_access m size rs1 rs2 imm =
    record { addr = store_addr m rs1 imm; size = size; store = true; value = reg m.h.state rs2 % 256 ^ size }

-- the stage sees this access
store_seen : (m : Case) (word len size rs1 rs2 imm : ℕ) (v : View) → Holds m word len (Store size rs1 rs2 imm) v
    → (view_phase (Some v) == 4) ≡ false → m.g.access ≡ Some (store_access m size rs1 rs2 imm)
unfolding access_by
store_seen m word len size rs1 rs2 imm v hd n =
    let o = hd.operands_are n in
    hd.access ∙ ap₂ (λ a b. Some (record {
      addr = (a + imm) % 2 ^ 32;
      size = size;
      store = true;
      value = b % 256 ^ size;
    })) o.0 o.1

-- the step of a store, by what refuses it and what isn't answered
abbrev store_step : Case → ℕ → ℕ → ℕ → ℕ → ℕ → ℕ → Option ℕ → Option ℕ → Stepped
store_step m word len size rs1 rs2 imm o1 o2 =
    finished (now m).pc (now m).regs m.c word (operands (now m) (Store size rs1 rs2 imm))
    (store_with (now m) size (store_addr m rs1 imm) (reg m.h.state rs2) (following (now m) len) o1 o2)

-- it ends as this step
store_by : (m : Case) (word len size rs1 rs2 imm : ℕ) (o1 o2 : Option ℕ)
    → refused_at (now m).csrs (store_addr m rs1 imm) size Writes ≡ o1
    → error_at m.h.state.memory.ram (store_addr m rs1 imm) size ≡ o2 → Known m
    → Meets m (store_step m word len size rs1 rs2 imm o1 o2)
    → Holds m word len (Store size rs1 rs2 imm) (view_of (store_step m word len size rs1 rs2 imm o1 o2).event)
    → Ended m (effect_now m) (store_step m word len size rs1 rs2 imm o1 o2)
unfolding finished view_of outcome_by plain_outcome retired_item
store_by m word len size rs1 rs2 imm (Some at) o2 e1 e2 k t hd =
    let addr : ℕ = store_addr m rs1 imm in
    let ops : Option (ℕ × ℕ) = operands (now m) (Store size rs1 rs2 imm) in
    let v : View = view_of (trapped m.h.state m.c word ops m.h.state.memory 7 at addr).event in
    portion_ends m word 7 at ops m.h.state.memory (store_access m size rs1 rs2 imm) k t
    (store_seen m word len size rs1 rs2 imm v hd (not_four (at == addr) (view_phase (Some v)) refl)) refl
    (denied_place (now m) addr size at e1) hd.fetched refl
store_by m word len size rs1 rs2 imm None (Some at) e1 e2 k t hd =
    let addr : ℕ = store_addr m rs1 imm in
    let ops : Option (ℕ × ℕ) = operands (now m) (Store size rs1 rs2 imm) in
    let memory : Memory = stored m.h.state.memory addr size (reg m.h.state rs2 % 256 ^ size) in
    let v : View = view_of (trapped m.h.state m.c word ops memory 7 at addr).event in
    portion_ends m word 7 at ops memory (store_access m size rs1 rs2 imm) k t
    (store_seen m word len size rs1 rs2 imm v hd (not_four (at == addr) (view_phase (Some v)) refl)) refl
    (error_place m.h.state.memory addr size at e2) hd.fetched refl
store_by m word len size rs1 rs2 imm None None e1 e2 k t hd =
    let insn : Insn = Store size rs1 rs2 imm in
    let addr : ℕ = store_addr m rs1 imm in
    let w : Access = store_access m size rs1 rs2 imm in
    let next : ℕ = (m.h.state.pc + len) % 2 ^ 32 in
    let csrs : CsrValues = csr_tick (now m).csrs true None in
    let memory : Memory = stored m.h.state.memory addr size (reg m.h.state rs2 % 256 ^ size) in
    let v : View = view_of (retire_step m word insn memory csrs 0 0 (Some w) None next).event in
    let item : m.i ≡ retired_item (settings_of m.s) m.h.times.ctl v (Some insn) (plain (parcels_of word)) =
    t.item ∙ row_item (settings_of m.s) m.h.times.ctl v word insn refl refl hd.insn_is in
    row_ends m word len 0 0 next insn (Some w) memory k t hd
    (store_seen m word len size rs1 rs2 imm v hd (no_trap_phase v refl))
    (ap (λ x. retires_as m.core m.g m.i.redirects 0 0 None x (ticked m.core))
    (next_is m word len k hd.word_is hd.len_is))
    refl (ap (λ (j : Item). j.fences) item)

-- so every store ends as its step
pub store_ends : (m : Case) (word len lines size rs1 rs2 imm : ℕ)
    → RowEnds m word len lines (Store size rs1 rs2 imm)
unfolding execute store
store_ends m word len lines size rs1 rs2 imm k t hd =
    store_by m word len size rs1 rs2 imm (refused_at (now m).csrs (store_addr m rs1 imm) size Writes)
    (error_at m.h.state.memory.ram (store_addr m rs1 imm) size) refl refl k t hd
