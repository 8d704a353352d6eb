-- The rows of CSR instructions, of MRET and of FENCE.I.
use Rattle.std.proofs.Common.{◌≡◌, ℕ, ◌+◌, ◌%◌, ◌^◌, Bool, true, false, not, Option, Some, None, refl}
use Rattle.std.proofs.Common.{sym, ap, ap₂, ◌∙◌}
use Rattle.std.specs.Prelude.{◌&&◌, ◌||◌, ◌==◌, if◌then◌else◌}
use Rattle.std.proofs.lemmas.Bool.{eqb-true}
use Rattle.ibx_isa.specs.declared.insn.Insn.{Insn}
use Rattle.ibx_isa.specs.declared.insn.Insn.TheVariants.{Csr, FenceI, Mret}
use Rattle.ibx_isa.specs.declared.insn.CsrOp.{CsrOp}
use Rattle.ibx_isa.specs.Views.{view_of}
use Rattle.ibx_csr.specs.declared.name.Csr.{Csr as Name}
use Rattle.ibx_csr.specs.declared.csrs.Csrs.{Csrs}
use Rattle.ibx_csr.specs.Table.{readable}
use Rattle.ibx_csr.specs.Fields.{tick_of, values, with_regs, write_of}
use Rattle.ibx_csr.specs.Values.{CsrValues, csr_can_write, csr_read, csr_tick, csr_write, trap_regs}
use Rattle.ibx_csr.specs.Values.{value_at, with_trap_regs}
use Rattle.ibx_csr.proofs.Laws.{write-values}
use Rattle.ibx_csr.proofs.Sound.{write-sound}
use Rattle.ibx_trap.specs.Traps.{leave_of}
use Rattle.ibx_isa.specs.CsrWrites.{writes, written}
use Rattle.ibx_arch.specs.Effects.{Executed, csr_access, csr_with, execute, illegal, plain as plain_exec}
use Rattle.ibx_arch.specs.Effects.{return_from_trap}
use Rattle.ibx_decoder.specs.Instructions.{instruction_of}
use Rattle.ibx_arch.specs.State.{reg}
use Rattle.ibx_arch.specs.Step.{Stepped, finished, operands}
use Rattle.ibx_isa.specs.Sources.{source1}
use Rattle.ibx_time.specs.Settings.{lines_in, settings_of}
use Rattle.ibx_time.specs.Dummies.{seed_by}
use Rattle.ibx_dummy.specs.Dummies.{seeded}
use Rattle.ibx_dummy.specs.declared.unit.Dummy.{Dummy}
use Rattle.ibx_time.specs.Items.{Item, parcels_of, plain, retired_item}
use Rattle.ibx_time_decode.proofs.Fetches.{handed, returned}
use Rattle.ibx_time_retire.proofs.Irq.{regs_are, regs_complement, ticked_complement}
use Rattle.ibx_time_retire.proofs.Insn.{Case, Ended, Holds, Known, Meets, any_ends, effect_now, next_is}
use Rattle.ibx_time_retire.proofs.Insn.{no_trap_phase, now, retire_step, row_item}
use Rattle.ibx_time_retire.proofs.Insn.{tick_of_core}
use Rattle.ibx_time_retire.proofs.Simple.{RowEnds, illegal_ends}
use Rattle.ibx_csr.specs.Bits.{is_control_at}
use Rattle.ibx_core.specs.Sights.{cause_of, lacks_value, access_by, row_cause, csr_cause}
use Rattle.ibx_core.specs.Effects.{csr_value, retires, ticked, outcome_by, plain_outcome, csr_outcome, csr_written}
use Rattle.ibx_csr.specs.Table.{csr_of}
use Rattle.ibx_time_retire.proofs.Rows.{retires_as, retires_to}

-- ---- FENCE.I

-- the step of FENCE.I
abbrev fence_step : Case → ℕ → ℕ → Stepped
fence_step m word len = retire_step m word FenceI m.h.state.memory (csr_tick (now m).csrs true None) 0 0 None None
    ((m.h.state.pc + len) % 2 ^ 32)

-- the item of a row that retires
abbrev row_of_item : Case → ℕ → Insn → Stepped → Item
row_of_item m word insn p =
    retired_item (settings_of m.s) m.h.times.ctl (view_of p.event) (Some insn) (plain (parcels_of word))

-- the registers in the cycle, with the counters moved
abbrev now_values : Case → CsrValues
now_values m = csr_tick (now m).csrs true None

-- FENCE.I ends as its step
pub fencei_ends : (m : Case) (word len lines : ℕ) → RowEnds m word len lines FenceI
unfolding execute finished outcome_by plain_outcome retired_item access_by view_of
fencei_ends m word len lines k t hd =
    let next : ℕ = (m.h.state.pc + len) % 2 ^ 32 in
    let item : m.i ≡ row_of_item m word FenceI (fence_step m word len) =
    t.item ∙ row_item (settings_of m.s) m.h.times.ctl (view_of (fence_step m word len).event) word FenceI refl refl
    hd.insn_is in
    any_ends m word len 0 0 next FenceI None None m.h.state.memory (now_values m) (ticked m.core) m.core.dummies true
    m.i.redirects
    k t hd hd.access (tick_of_core m k) (ticked_complement m.core.csrs true None k.complemented)
    (ap (λ x. retires_to m.core m.g m.i.redirects 0 0 None x (ticked m.core) m.core.dummies true)
    (next_is m word len k hd.word_is hd.len_is))
    refl (sym (ap (λ (j : Item). j.fences) item)) k.dummies

-- ---- MRET

-- two cases that can't both be
apart : {P : Type 0} → true ≡ false → P
apart e = absurd (no e)
  where
    no : true ≡ false → ⊥
    no q = cc

-- the registers after MRET, as values and as fields
abbrev left_values : Case → CsrValues
left_values m = with_trap_regs (csr_tick (now m).csrs true None) (leave_of (trap_regs (now m).csrs))

-- the same as fields of the core
abbrev left_fields : Case → Csrs
left_fields m = with_regs (ticked m.core) (leave_of (trap_regs (values m.core.csrs)))

-- these are the same
left_is : (m : Case) → Known m → values (left_fields m) ≡ left_values m
left_is m k =
    regs_are (ticked m.core) (leave_of (trap_regs (values m.core.csrs)))
    ∙ ap (λ w. with_trap_regs w (leave_of (trap_regs (values m.core.csrs)))) (tick_of_core m k)
    ∙ ap (λ w. with_trap_regs (csr_tick (now m).csrs true None) (leave_of (trap_regs w))) k.csrs

-- mepc is that of the fields
mepc_is : (m : Case) → Known m → m.core.csrs.mepc ≡ (now m).csrs.mepc
unfolding values
mepc_is m k = ap (λ (w : CsrValues). w.mepc) k.csrs

-- the step of MRET, by whether it is allowed
abbrev back_step : Case → ℕ → Bool → Stepped
back_step m word b = finished (now m).pc (now m).regs m.c word (operands (now m) Mret)
    (if not b then illegal (now m) word else returned (now m))

-- in U mode it is illegal, and else it returns
back_cause : (m : Case) → Known m → (now m).csrs.machine ≡ false → cause_of m.core.csrs 0 (Some Mret) ≡ Some 2
unfolding cause_of values row_cause
back_cause m k e = ap (λ (w : CsrValues). cause_by w.machine) k.csrs ∙ ap cause_by e
  where
    cause_by : Bool → Option ℕ
    cause_by b = if b then None else Some 2

-- MRET ends as its step, by its mode: a trap in U mode, else a return to mepc
back_by : (m : Case) (word len : ℕ) (b : Bool) → (now m).csrs.machine ≡ b → Known m → Meets m (back_step m word b)
    → Holds m word len Mret (view_of (back_step m word b).event) → Ended m (effect_now m) (back_step m word b)
unfolding finished outcome_by plain_outcome retired_item access_by view_of
back_by m word len false e k t hd =
    illegal_ends m word (operands (now m) Mret) k t (hd.cause ∙ back_cause m k e) hd.fetched
back_by m word len true e k t hd =
    let next : ℕ = (now m).csrs.mepc in
    let p : Stepped = retire_step m word Mret m.h.state.memory (left_values m) 0 0 None None next in
    let item : m.i ≡ row_of_item m word Mret p =
    t.item ∙ row_item (settings_of m.s) m.h.times.ctl (view_of p.event) word Mret refl refl hd.insn_is in
    any_ends m word len 0 0 next Mret None None m.h.state.memory (left_values m) (left_fields m) m.core.dummies false
    m.i.redirects
    k t hd hd.access (left_is m k) (regs_complement (ticked m.core) (leave_of (trap_regs (values m.core.csrs)))
    (ticked_complement m.core.csrs true None k.complemented))
    (ap (λ x. retires_as m.core m.g m.i.redirects 0 0 None x (left_fields m)) (mepc_is m k))
    refl (sym (ap (λ (j : Item). j.fences) item)) k.dummies

-- so MRET ends as its step
pub mret_ends : (m : Case) (word len lines : ℕ) → RowEnds m word len lines Mret
unfolding execute return_from_trap
mret_ends m word len lines k t hd = back_by m word len (now m).csrs.machine refl k t hd

-- ---- CSR instructions

-- a register is there or not whatever the lines
lacks_by : (v : CsrValues) (la lb : ℕ) (o : Option Name)
    → lacks_value (value_at v la o) ≡ lacks_value (value_at v lb o)
lacks_by v la lb None = refl
lacks_by v la lb (Some c) = refl

-- so whether there is a register to read doesn't depend on the interrupt lines
lacks_same : (v : CsrValues) (addr la lb : ℕ) → lacks_value (csr_read v addr la) ≡ lacks_value (csr_read v addr lb)
unfolding csr_read
lacks_same v addr la lb = lacks_by v la lb (readable v.machine addr)

-- secureseed controls the core
seed_controls : is_control_at 0x7c1 ≡ true
unfolding csr_of
seed_controls = refl

-- a write of secureseed alone changes the dummies, and one of a control register the registers that time depends on
seed_is : (d : Dummy) (op : CsrOp) (rd src value addr : ℕ) (imm control : Bool) → is_control_at addr ≡ control
    → (if addr == 0x7c1 then seeded value d else d)
    ≡ seed_by d (Some (Csr op rd src imm addr)) (if control then Some value else None)
seed_is d op rd src value addr imm true e = refl
seed_is d op rd src value addr imm false e = no_seed (addr == 0x7c1) refl
  where
    no_seed : (b : Bool) → (addr == 0x7c1) ≡ b → (if b then seeded value d else d) ≡ d
    no_seed false q = refl
    no_seed true q = apart (sym (ap is_control_at (eqb-true addr 0x7c1 q) ∙ seed_controls) ∙ e)

-- the step of a CSR instruction
abbrev csr_step : Case → ℕ → Insn → Executed → Stepped
csr_step m word insn x = finished (now m).pc (now m).regs m.c word (operands (now m) insn) x

-- what is read of the fields is what the step reads
read_is : (m : Case) (addr : ℕ) → Known m
    → csr_read (values m.core.csrs) addr m.inn.lines ≡ csr_read (now m).csrs addr (lines_in (settings_of m.s) m.c)
read_is m addr k = ap (λ w. csr_read w addr m.inn.lines) k.csrs ∙ ap (csr_read (now m).csrs addr) k.lines

-- an unknown CSR is illegal
cause_lacks : (m : Case) (op : CsrOp) (rd src addr : ℕ) (imm : Bool) → Known m
    → csr_read (now m).csrs addr (lines_in (settings_of m.s) m.c) ≡ None
    → cause_of m.core.csrs 0 (Some (Csr op rd src imm addr)) ≡ Some 2
unfolding cause_of row_cause csr_cause
cause_lacks m op rd src addr imm k e =
    ap (λ b. if b || (writes op src && not (csr_can_write (values m.core.csrs) addr)) then Some 2 else None)
    (ap (λ w. lacks_value (csr_read w addr 0)) k.csrs ∙ lacks_same (now m).csrs addr 0 (lines_in (settings_of m.s) m.c)
    ∙ ap lacks_value e)

-- cause 2, where a test holds
abbrev two_if : Bool → Option ℕ
two_if b = if b then Some 2 else None

-- and so is a write that isn't allowed
cause_denied : (m : Case) (op : CsrOp) (rd src addr : ℕ) (imm : Bool) → Known m → writes op src ≡ true
    → csr_can_write (now m).csrs addr ≡ false → cause_of m.core.csrs 0 (Some (Csr op rd src imm addr)) ≡ Some 2
unfolding cause_of row_cause csr_cause
cause_denied m op rd src addr imm k w e =
    ap₂ (λ x y. two_if (lacks_value (csr_read (values m.core.csrs) addr 0) || (x && not y))) w
    (ap (λ v. csr_can_write v addr) k.csrs ∙ e)
    ∙ denied (lacks_value (csr_read (values m.core.csrs) addr 0))
  where
    denied : (b : Bool) → two_if (b || true) ≡ Some 2
    denied true = refl
    denied false = refl

-- by whether it writes, and whether it may
abbrev csr_result : Case → CsrOp → ℕ → ℕ → ℕ → ℕ → ℕ → ℕ → Bool → Bool → Executed
csr_result m op rd source addr word next old w can =
    if not w then plain_exec (now m) rd old next else if not can then illegal (now m) word
    else handed (now m) op rd source addr next old

-- the item of such an instruction
csr_item : (m : Case) (word : ℕ) (op : CsrOp) (rd src addr : ℕ) (imm : Bool) (p : Stepped) → Meets m p
    → (view_of p.event).kind ≡ 0 → (view_of p.event).word ≡ word → instruction_of word ≡ Some (Csr op rd src imm addr)
    → m.i ≡ plain (parcels_of word)
unfolding retired_item
csr_item m word op rd src addr imm p t e w q =
    t.item ∙ row_item (settings_of m.s) m.h.times.ctl (view_of p.event) word (Csr op rd src imm addr) e w q

-- the value that was read
value_is : (m : Case) (addr old : ℕ) → Known m → csr_read (now m).csrs addr (lines_in (settings_of m.s) m.c) ≡ Some old
    → csr_value (csr_read (values m.core.csrs) addr m.inn.lines) ≡ old
value_is m addr old k e = ap csr_value (read_is m addr k ∙ e)

-- the effect by whether it writes
csr_effect : (m : Case) (op : CsrOp) (rd src addr source old next : ℕ) (imm w r : Bool) → writes op src ≡ w
    → csr_value (csr_read (values m.core.csrs) addr m.inn.lines) ≡ old → (if imm then src else m.g.a) ≡ source
    → retires m.core m.g r (outcome_by (Some (Csr op rd src imm addr)) m.core m.g m.inn.lines)
    ≡ retires m.core m.g r (csr_written m.core w rd old (written op old source) addr)
unfolding outcome_by csr_outcome
csr_effect m op rd src addr source old next imm w r ew eo es =
    ap (λ x. retires m.core m.g r (csr_written m.core x rd (csr_value (csr_read (values m.core.csrs) addr m.inn.lines))
    (written op (csr_value (csr_read (values m.core.csrs) addr m.inn.lines)) (if imm then src else m.g.a)) addr)) ew
    ∙ ap (λ x. retires m.core m.g r (csr_written m.core w rd x (written op x (if imm then src else m.g.a)) addr)) eo
    ∙ ap (λ x. retires m.core m.g r (csr_written m.core w rd old (written op old x) addr)) es

-- the registers after a write, as values and as fields
abbrev written_values : Case → ℕ → ℕ → CsrValues
written_values m addr value = csr_write (csr_tick (now m).csrs true (Some addr)) addr value

-- the same as fields of the core
abbrev written_fields : Case → ℕ → ℕ → Csrs
written_fields m addr value = write_of (tick_of m.core.csrs true (Some addr)) addr value

-- the counters of both move alike
ticked_as : (c : Csrs) (wrote : Option ℕ) → values (tick_of c true wrote) ≡ csr_tick (values c) true wrote
unfolding values tick_of csr_tick
ticked_as c wrote = refl

-- so both are the same
fields_are : (m : Case) (addr value : ℕ) → Known m → values (written_fields m addr value) ≡ written_values m addr value
fields_are m addr value k =
    write-values (tick_of m.core.csrs true (Some addr)) addr value
    ∙ ap (λ x. csr_write x addr value)
    (ticked_as m.core.csrs (Some addr) ∙ ap (λ x. csr_tick x true (Some addr)) k.csrs)

-- a CSR that is there, and one that may not be, end as the step
csr_some : (m : Case) (word len : ℕ) (op : CsrOp) (rd src addr source old : ℕ) (imm w can : Bool)
    → writes op src ≡ w → csr_can_write (now m).csrs addr ≡ can
    → csr_read (now m).csrs addr (lines_in (settings_of m.s) m.c) ≡ Some old
    → (m.g.a ≡ reg m.h.state (source1 (Csr op rd src imm addr)) → (if imm then src else m.g.a) ≡ source) → Known m
    → Meets m (csr_step m word (Csr op rd src imm addr)
    (csr_result m op rd source addr word ((m.h.state.pc + len) % 2 ^ 32) old w can))
    → Holds m word len (Csr op rd src imm addr)
    (view_of (csr_step m word (Csr op rd src imm addr)
    (csr_result m op rd source addr word ((m.h.state.pc + len) % 2 ^ 32) old w can)).event)
    → Ended m (effect_now m) (csr_step m word (Csr op rd src imm addr)
    (csr_result m op rd source addr word ((m.h.state.pc + len) % 2 ^ 32) old w can))
unfolding finished csr_written plain_outcome access_by view_of
csr_some m word len op rd src addr source old imm false can ew ec eo es k t hd =
    let insn : Insn = Csr op rd src imm addr in
    let next : ℕ = (m.h.state.pc + len) % 2 ^ 32 in
    let csrs : CsrValues = now_values m in
    let p : Stepped = retire_step m word insn m.h.state.memory csrs rd old None None next in
    let item : m.i ≡ plain (parcels_of word) =
    csr_item m word op rd src addr imm p t refl refl hd.insn_is in
    let ops = hd.operands_are (no_trap_phase (view_of p.event) refl) in
    any_ends m word len rd old next insn None None m.h.state.memory csrs (ticked m.core) m.core.dummies false
    m.i.redirects
    k t hd hd.access (tick_of_core m k) (ticked_complement m.core.csrs true None k.complemented)
    (csr_effect m op rd src addr source old next imm false m.i.redirects ew (value_is m addr old k eo) (es ops.0)
    ∙ ap (λ x. retires_as m.core m.g m.i.redirects rd old None x (ticked m.core))
    (next_is m word len k hd.word_is hd.len_is))
    refl (sym (ap (λ (j : Item). j.fences) item)) k.dummies
csr_some m word len op rd src addr source old imm true false ew ec eo es k t hd =
    illegal_ends m word (operands (now m) (Csr op rd src imm addr)) k t
    (hd.cause ∙ cause_denied m op rd src addr imm k ew ec) hd.fetched
csr_some m word len op rd src addr source old imm true true ew ec eo es k t hd =
    let insn : Insn = Csr op rd src imm addr in
    let next : ℕ = (m.h.state.pc + len) % 2 ^ 32 in
    let value : ℕ = written op old source in
    let ctlw : Option ℕ = if is_control_at addr then Some value else None in
    let csrs : CsrValues = written_values m addr value in
    let p : Stepped = retire_step m word insn m.h.state.memory csrs rd old None ctlw next in
    let item : m.i ≡ plain (parcels_of word) =
    csr_item m word op rd src addr imm p t refl refl hd.insn_is in
    let ops = hd.operands_are (no_trap_phase (view_of p.event) refl) in
    let dd : Dummy = if addr == 0x7c1 then seeded value m.core.dummies else m.core.dummies in
    any_ends m word len rd old next insn None ctlw m.h.state.memory csrs (written_fields m addr value) dd false
    m.i.redirects
    k t hd hd.access (fields_are m addr value k)
    (write-sound (tick_of m.core.csrs true (Some addr)) addr value
    (ticked_complement m.core.csrs true (Some addr) k.complemented))
    (csr_effect m op rd src addr source old next imm true m.i.redirects ew (value_is m addr old k eo) (es ops.0)
    ∙ ap (λ x. retires_to m.core m.g m.i.redirects rd old ctlw x (written_fields m addr value) dd false)
    (next_is m word len k hd.word_is hd.len_is))
    refl (sym (ap (λ (j : Item). j.fences) item))
    (ap (λ x. if addr == 0x7c1 then seeded value x else x) k.dummies
    ∙ seed_is m.d op rd src value addr imm (is_control_at addr) refl)

-- a CSR instruction ends as its step, by what is read: without a register it is illegal
csr_by : (m : Case) (word len : ℕ) (op : CsrOp) (rd src addr source : ℕ) (imm : Bool) (o : Option ℕ)
    → csr_read (now m).csrs addr (lines_in (settings_of m.s) m.c) ≡ o
    → (m.g.a ≡ reg m.h.state (source1 (Csr op rd src imm addr)) → (if imm then src else m.g.a) ≡ source)
    → Known m → Meets m (csr_step m word (Csr op rd src imm addr)
    (csr_with (now m) op rd src source addr word ((m.h.state.pc + len) % 2 ^ 32) o))
    → Holds m word len (Csr op rd src imm addr)
    (view_of (csr_step m word (Csr op rd src imm addr)
    (csr_with (now m) op rd src source addr word ((m.h.state.pc + len) % 2 ^ 32) o)).event)
    → Ended m (effect_now m) (csr_step m word (Csr op rd src imm addr)
    (csr_with (now m) op rd src source addr word ((m.h.state.pc + len) % 2 ^ 32) o))
csr_by m word len op rd src addr source imm None eo es k t hd =
    illegal_ends m word (operands (now m) (Csr op rd src imm addr)) k t
    (hd.cause ∙ cause_lacks m op rd src addr imm k eo) hd.fetched
csr_by m word len op rd src addr source imm (Some old) eo es k t hd =
    csr_some m word len op rd src addr source old imm (writes op src) (csr_can_write (now m).csrs addr) refl refl eo es
    k t hd

-- so every CSR instruction ends as its step
pub csr_ends : (m : Case) (word len rd src addr : ℕ) (op : CsrOp) (imm : Bool)
    → RowEnds m word len (lines_in (settings_of m.s) m.c) (Csr op rd src imm addr)
unfolding execute csr_access
csr_ends m word len rd src addr op true k t hd =
    csr_by m word len op rd src addr src true (csr_read (now m).csrs addr (lines_in (settings_of m.s) m.c)) refl
    (λ _. refl) k t hd
csr_ends m word len rd src addr op false k t hd =
    csr_by m word len op rd src addr (reg m.h.state src) false
    (csr_read (now m).csrs addr (lines_in (settings_of m.s) m.c)) refl (λ e. e) k t hd
