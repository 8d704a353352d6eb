-- An instruction in its last cycle: what is known of it, and what is shown of how it ends.
use Rattle.std.proofs.Common.{◌≡◌, ℕ, ◌+◌, ◌%◌, ◌^◌, Bool, true, false, Option, Some, None, refl}
use Rattle.std.proofs.Common.{sym, ap, subst, ◌∙◌}
use Rattle.std.specs.Prelude.{◌||◌, ◌==◌, if◌then◌else◌}
use Rattle.ibx_isa.specs.declared.insn.Insn.{Insn}
use Rattle.ibx_isa.specs.declared.event.Access.{Access}
use Rattle.ibx_isa.specs.declared.event.View.{View}
use Rattle.ibx_isa.specs.Views.{view_of}
use Rattle.ibx_csr.specs.Fields.{Complemented, tick_of, values}
use Rattle.ibx_csr.specs.Values.{CsrValues, csr_tick}
use Rattle.ibx_decoder.specs.Instructions.{instruction_of}
use Rattle.ibx_isa.specs.Lengths.{is_long}
use Rattle.ibx_arch.specs.Memory.{Memory}
use Rattle.ibx_arch.specs.State.{State, at_cycle, reg}
use Rattle.ibx_arch.specs.Step.{Stepped, operands}
use Rattle.ibx_isa.specs.Sources.{source1, source2}
use Rattle.ibx_time.specs.Settings.{Settings, Setup, lines_in, settings_of}
use Rattle.ibx_time.specs.Controls.{Ctl}
use Rattle.ibx_time.specs.Dummies.{dummies_after, seed_by}
use Rattle.ibx_dummy.specs.declared.unit.Dummy.{Dummy}
use Rattle.ibx_time.specs.Items.{Item, item_of, parcels_of, plain, retired_item}
use Rattle.ibx_time.specs.History.{Story}
use Rattle.ibx_csr.specs.declared.csrs.Csrs.{Csrs}
use Rattle.ibx_time_invariant.proofs.Stages.{view_phase}
use Rattle.ibx_time_invariant.proofs.StageSide.{ending_by}
use Rattle.ibx_time_decode.proofs.SeesRows.{trap_view_phase, trapped_is}
use Rattle.ibx_time_retire.proofs.Frame.{Does}
use Rattle.ibx_time_retire.proofs.Rows.{any_does, retired, retires_as, retires_to}
use Rattle.ibx_time_retire.proofs.Irq.{ticked_complement}
use Rattle.ibx_time_retire.proofs.Stage.{length_by, ops_are}
use Rattle.ibx_time_retire.proofs.Traps.{IsTrap, fails_does, trapped}
use Rattle.ibx_time.proofs.States.{IsGood}
use Rattle.ibx_id.specs.declared.stage.Turn.TheVariants.{Retire, Trap}
use Rattle.ibx_core.specs.declared.state.State.{State as Core}
use Rattle.ibx_core.specs.Effects.{Effect, cause_fails, cause_or, effect_by, fails, following, retires, ticked}
use Rattle.ibx_core.specs.declared.sight.Sight.{Sight}
use Rattle.ibx_core.specs.Sights.{access_by, cause_of, stage_word}
use Rattle.ibx_core.specs.Effects.{outcome_by}
use Rattle.ibx_core.specs.Inputs.{Inputs}

-- the item, the core and what its stage sees in the cycle; the dummies are those with the item
pub record Case : Type 0 where
  pub s : Setup
  pub h : Story
  pub c : ℕ
  pub d : Dummy
  pub i : Item
  pub core : Core
  pub g : Sight
  pub inn : Inputs

-- the state in the cycle
abbrev pub now : Case → State
now m = at_cycle m.h.state m.c

-- what holds of every instruction
pub record Known (m : Case) : Type 0 where
  pub good : IsGood m.s.image.ram m.h.state
  pub csrs : values m.core.csrs ≡ (at_cycle m.h.state m.c).csrs
  pub complemented : Complemented m.core.csrs
  pub pc : m.core.id.pc ≡ m.h.state.pc
  pub dummies : m.core.dummies ≡ m.d
  pub lines : m.inn.lines ≡ lines_in (settings_of m.s) m.c

-- the turn and the item are those of a step
pub record Meets (m : Case) (p : Stepped) : Type 0 where
  pub turn : m.g.turn ≡ ending_by (view_phase (Some (view_of p.event))) m.i.redirects
  pub item : m.i ≡ item_of (settings_of m.s) m.h.times.ctl (view_of p.event)

-- what is shown
abbrev pub Ended : Case → Effect → Stepped → Type 0
Ended m e p = Does m.c m.h.state.regs m.d m.i (view_of p.event) e p

-- the effect of the cycle
abbrev pub effect_now : Case → Effect
effect_now m = effect_by m.g.turn m.core m.g m.inn.lines

-- ---- a trap by its cause

-- so it redirects, and it is no fence
pub is_trap : (k : Settings) (c : Ctl) (v : View) (i : Item) → v.kind ≡ 1 → i ≡ item_of k c v → IsTrap i v
is_trap k c v i e q =
    let item = q ∙ trapped_is k c v e in
    record { redirects = ap (λ (j : Item). j.redirects) item; fences = ap (λ (j : Item). j.fences) item; kind = e }

-- such a trap has the effect of its cause
cause_effect : (m : Case) (cause : ℕ) → m.g.turn ≡ Trap 0 → m.g.cause ≡ Some cause
    → effect_now m ≡ cause_fails m.core cause
unfolding effect_by
cause_effect m cause e k = ap (λ u. effect_by u m.core m.g m.inn.lines) e ∙ ap (λ x. cause_fails m.core (cause_or x)) k

-- the value of mtval by the cause, and the step of such a trap
abbrev pub tval_of : Core → ℕ → ℕ
tval_of x cause = if cause == 1 then (if x.id.fault == 2 then (x.id.pc + 2) % 2 ^ 32 else x.id.pc) else if cause == 2
    then stage_word x.id else 0

-- the step of a trap whose event has no address
abbrev pub trap_step : Case → ℕ → Option (ℕ × ℕ) → ℕ → ℕ → Stepped
trap_step m word ops cause tval = trapped m.h.state m.c word ops m.h.state.memory cause tval 0

-- its event has no address, and is a trap's
trap_addr : (m : Case) (word cause tval : ℕ) (ops : Option (ℕ × ℕ)) → (cause == 5 || cause == 7) ≡ false
    → (view_of (trap_step m word ops cause tval).event).addr ≡ None
unfolding view_of
trap_addr m word cause tval ops e = ap (λ b. if b then Some 0 else None) e

-- its view is of kind 1 whatever the cause
trap_kind : (m : Case) (word cause tval : ℕ) (ops : Option (ℕ × ℕ))
    → (view_of (trap_step m word ops cause tval).event).kind ≡ 1
unfolding view_of
trap_kind m word cause tval ops = refl

-- so it ends as its step
pub cause_ends : (m : Case) (word cause tval : ℕ) (ops : Option (ℕ × ℕ)) → Known m
    → Meets m (trap_step m word ops cause tval) → (cause == 5 || cause == 7) ≡ false → m.g.cause ≡ Some cause
    → tval_of m.core cause ≡ tval → (if cause == 1 then 0 else stage_word m.core.id) ≡ word
    → Ended m (effect_now m) (trap_step m word ops cause tval)
unfolding cause_fails fails
cause_ends m word cause tval ops k t e ec et ew =
    let p : Stepped = trap_step m word ops cause tval in
    let v : View = view_of p.event in
    let kind : v.kind ≡ 1 = trap_kind m word cause tval ops in
    let addr : v.addr ≡ None = trap_addr m word cause tval ops e in
    let turn : m.g.turn ≡ Trap 0 = t.turn ∙ ap (λ n. ending_by n m.i.redirects) (trap_view_phase v kind addr) in
    subst (λ x. Ended m x p) (sym (cause_effect m cause turn ec ∙ ap (λ n. fails m.core cause n 0) et))
    (fails_does m.h.state m.c cause tval 0 word ops m.h.state.memory m.core m.d m.i v k.csrs k.pc k.complemented
    k.dummies ew (is_trap (settings_of m.s) m.h.times.ctl v m.i kind t.item))

-- ---- a row

-- the stage holds this instruction; its operands are the state's but for the phase in which it traps by its cause
pub record Holds (m : Case) (word len : ℕ) (insn : Insn) (v : View) : Type 0 where
  pub insn_is : instruction_of word ≡ Some insn
  pub fetched : stage_word m.core.id ≡ word
  pub word_is : m.core.id.word ≡ word
  pub len_is : len ≡ length_by (is_long word)
  pub row : m.g.row ≡ Some insn
  pub operands_are : (view_phase (Some v) == 4) ≡ false
      → (m.g.a ≡ reg m.h.state (source1 insn)) × (m.g.b ≡ reg m.h.state (source2 insn))
  pub access : m.g.access ≡ access_by (Some insn) m.g.a m.g.b
  pub cause : m.g.cause ≡ cause_of m.core.csrs 0 (Some insn)

-- the address that follows
pub next_is : (m : Case) (word len : ℕ) → Known m → m.core.id.word ≡ word → len ≡ length_by (is_long word)
    → following m.core.id ≡ (m.h.state.pc + len) % 2 ^ 32
next_is m word len k ew el =
    ap (λ w. (m.core.id.pc + length_by (is_long w)) % 2 ^ 32) ew ∙ ap (λ n. (m.core.id.pc + n) % 2 ^ 32) (sym el)
    ∙ ap (λ n. (n + len) % 2 ^ 32) k.pc

-- an instruction that retires, its access and its write

-- the item of an instruction that retires, its effect and its turn
pub row_item : (k : Settings) (c : Ctl) (v : View) (word : ℕ) (insn : Insn) → v.kind ≡ 0 → v.word ≡ word
    → instruction_of word ≡ Some insn → item_of k c v ≡ retired_item k c v (Some insn) (plain (parcels_of word))
unfolding item_of
row_item k c v word insn e w q = rw (e, w, q) refl

-- in its last cycle the effect is what its row leaves
pub retire_effect : (m : Case) (insn : Insn) → m.g.turn ≡ Retire m.i.redirects → m.g.row ≡ Some insn
    → effect_now m ≡ retires m.core m.g m.i.redirects (outcome_by (Some insn) m.core m.g m.inn.lines)
unfolding effect_by
retire_effect m insn e k =
    ap (λ u. effect_by u m.core m.g m.inn.lines) e
    ∙ ap (λ o. retires m.core m.g m.i.redirects (outcome_by o m.core m.g m.inn.lines)) k

-- a view of kind 0 makes the last turn a retirement, one that redirects or not
pub turn_retires : (v : View) (r : Bool) → v.kind ≡ 0 → ending_by (view_phase (Some v)) r ≡ Retire r
turn_retires v r e = rw e refl

-- it is in no trap's phase, and leaves the registers and dummies of its row
pub no_trap_phase : (v : View) → v.kind ≡ 0 → (view_phase (Some v) == 4) ≡ false
no_trap_phase v e = rw e refl

-- only its row and the value for a CSR may seed the dummies
pub seeds : (d : Dummy) (v : View) (word : ℕ) (insn : Insn) → v.kind ≡ 0 → v.word ≡ word
    → instruction_of word ≡ Some insn → dummies_after d v ≡ seed_by d (Some insn) v.ctl
seeds d v word insn e w q = rw (e, w, q) refl

-- the step of an instruction that retires
abbrev pub retire_step : Case → ℕ → Insn → Memory → CsrValues → ℕ → ℕ → Option Access → Option ℕ → ℕ → Stepped
retire_step m word insn memory csrs rd value mem ctl next =
    retired m.h.state m.c word (operands (now m) insn) memory csrs rd value mem ctl next

-- the core's fields count a retirement as the registers of the step do
pub tick_of_core : (m : Case) → Known m → values (ticked m.core) ≡ csr_tick (now m).csrs true None
unfolding values tick_of csr_tick
tick_of_core m k = ap (λ w. csr_tick w true None) k.csrs

-- with all that a row may leave
pub any_ends : (m : Case) (word len rd value next : ℕ) (insn : Insn) (mem : Option Access) (ctlw : Option ℕ)
    (memory : Memory) (csrs : CsrValues) (left : Csrs) (dd : Dummy) (ff r : Bool)
    → Known m → Meets m (retire_step m word insn memory csrs rd value mem ctlw next)
    → Holds m word len insn (view_of (retire_step m word insn memory csrs rd value mem ctlw next).event)
    → m.g.access ≡ mem → values left ≡ csrs → Complemented left
    → retires m.core m.g m.i.redirects (outcome_by (Some insn) m.core m.g m.inn.lines)
    ≡ retires_to m.core m.g r rd value ctlw next left dd ff
    → r ≡ m.i.redirects → ff ≡ m.i.fences → dd ≡ seed_by m.d (Some insn) ctlw
    → Ended m (effect_now m) (retire_step m word insn memory csrs rd value mem ctlw next)
unfolding view_of
any_ends m word len rd value next insn mem ctlw memory csrs left dd ff r k t hd ea es ec ee er ef ed =
    let p : Stepped = retire_step m word insn memory csrs rd value mem ctlw next in
    let v : View = view_of p.event in
    let kind : v.kind ≡ 0 = refl in
    let vword : v.word ≡ word = refl in
    let vctl : v.ctl ≡ ctlw = refl in
    let ops = hd.operands_are (no_trap_phase v kind) in
    subst (λ x. Ended m x p) (sym (retire_effect m insn (t.turn ∙ turn_retires v m.i.redirects kind) hd.row ∙ ee))
    (any_does m.h.state m.c word rd value next mem ctlw (operands (now m) insn) memory csrs left dd ff m.core m.g m.d
    m.i v r
    (record {
      csrs = k.csrs;
      complemented = k.complemented;
      pc = k.pc;
      fetched = hd.fetched;
      access = ea;
      same_ops = ops_are m.h.state m.c m.core m.g insn k.csrs ops.0 ops.1;
      dummies = k.dummies;
    })
    es ec er ef
    (ed ∙ sym (ap (seed_by m.d (Some insn)) vctl) ∙ sym (seeds m.d v word insn kind vword hd.insn_is)))

-- with an access or none, and without a write of a control register
pub row_ends : (m : Case) (word len rd value next : ℕ) (insn : Insn) (mem : Option Access) (memory : Memory)
    → Known m → Meets m (retire_step m word insn memory (csr_tick (now m).csrs true None) rd value mem None next)
    → Holds m word len insn (view_of (retire_step m word insn memory (csr_tick (now m).csrs true None) rd value mem
    None next).event)
    → m.g.access ≡ mem
    → retires m.core m.g m.i.redirects (outcome_by (Some insn) m.core m.g m.inn.lines)
    ≡ retires_as m.core m.g m.i.redirects rd value None next (ticked m.core)
    → seed_by m.d (Some insn) None ≡ m.d → m.i.fences ≡ false
    → Ended m (effect_now m) (retire_step m word insn memory (csr_tick (now m).csrs true None) rd value mem None next)
row_ends m word len rd value next insn mem memory k t hd ea ee seed fences =
    any_ends m word len rd value next insn mem None memory (csr_tick (now m).csrs true None) (ticked m.core)
    m.core.dummies false m.i.redirects k t hd ea (tick_of_core m k)
    (ticked_complement m.core.csrs true None k.complemented) ee refl (sym fences) (k.dummies ∙ sym seed)
