-- A load in its last cycle: its value from the words of its portions, or the portion that failed; and the portions of
-- a store that fail.
use Rattle.std.proofs.Common.{◌≡◌, ℕ, ◌+◌, ◌-◌, ◌*◌, ◌/◌, ◌%◌, ◌^◌, ◌<◌, ◌≤◌, ◌⊎◌, inl, inr, Bool, true, false, not}
use Rattle.std.proofs.Common.{◌&&◌, ◌==◌, if◌then◌else◌, refl, sym, ap, ap₂, ◌∙◌, subst, arith, Option, Some, None}
use Rattle.std.proofs.lemmas.Bool.{cases_lt, eqb-true, eq-eqb, lt-ltb, le-ltb}
use Rattle.ibx_isa.specs.declared.insn.Insn.{Insn}
use Rattle.ibx_isa.specs.declared.insn.Insn.TheVariants.{Load}
use Rattle.ibx_isa.specs.declared.insn.LoadOp.{LoadOp}
use Rattle.ibx_isa.specs.declared.insn.LoadOp.TheVariants.{Lb, Lh, Lw, Lbu, Lhu}
use Rattle.ibx_isa.specs.declared.event.Access.{Access}
use Rattle.ibx_isa.specs.declared.event.View.{View}
use Rattle.ibx_isa.specs.Views.{view_of}
use Rattle.ibx_csr.specs.Values.{CsrValues, csr_tick}
use Rattle.ibx_isa.specs.Portions.{gather_of, loaded, pair_byte, portion_addr, size_of}
use Rattle.ibx_bits.specs.Bytes.{word_byte}
use Rattle.ibx_bits.proofs.Bytes.{same_bytes}
use Rattle.ibx_pmp.specs.declared.protection.AccessKind.TheVariants.{Read}
use Rattle.ibx_arch.specs.Memory.{Memory, is_mapped, read_byte, read_bytes}
use Rattle.ibx_arch.specs.State.{State, reg}
use Rattle.ibx_arch.specs.Access.{error_at, has_second, is_refused, refused_at}
use Rattle.ibx_arch.specs.Effects.{execute, following, load, load_with}
use Rattle.ibx_arch.specs.Step.{Stepped, finished}
use Rattle.ibx_time.specs.Settings.{settings_of}
use Rattle.ibx_time.specs.Items.{Item, parcels_of, plain, retired_item}
use Rattle.ibx_time.proofs.States.{read_low_byte}
use Rattle.ibx_time_invariant.proofs.Stages.{view_phase}
use Rattle.ibx_time_invariant.proofs.StageSide.{ending_by}
use Rattle.ibx_time_retire.proofs.Insn.{Case, Ended, Holds, Known, Meets, effect_now, is_trap, next_is}
use Rattle.ibx_time_retire.proofs.Insn.{no_trap_phase, now, retire_step, row_ends, row_item}
use Rattle.ibx_time_retire.proofs.Plain.{insn_step}
use Rattle.ibx_time_retire.proofs.Simple.{RowEnds}
use Rattle.ibx_time_retire.proofs.Traps.{fails_does, trapped}
use Rattle.ibx_memory.proofs.Lanes.{word_byte-bytes_number}
use Rattle.ibx_core.specs.Effects.{access_or, effect_by, fails, portion_fails, ticked, following as next_of}
use Rattle.ibx_core.specs.Sights.{stage_word, access_by}
use Rattle.ibx_core.specs.Effects.{outcome_by, plain_outcome}
use Rattle.ibx_time_retire.proofs.Rows.{retires_as}

-- ---- the value of a load, from the words of its portions

-- a load has four bytes at most
size_few : (op : LoadOp) → size_of op ≤ 4
size_few Lb = omega arith
size_few Lh = omega arith
size_few Lw = omega arith
size_few Lbu = omega arith
size_few Lhu = omega arith

-- byte k of a word is the one at its address
word_in : (memory : Memory) (a k : ℕ) → ((x : ℕ) → memory.byte x < 256) → k < 4
    → word_byte (read_bytes memory a 4) k ≡ read_byte memory ((a + k) % 2 ^ 32)
word_in memory a k h l =
    word_byte-bytes_number (λ j. read_byte memory ((a + j) % 2 ^ 32))
    (λ j. read_low_byte memory ((a + j) % 2 ^ 32) h) k l

-- a byte past the first word is in the second portion
crosses : (addr size k : ℕ) → k < size → 4 ≤ addr % 4 + k → has_second addr size ≡ true
crosses addr size k l m = ap (λ b. (if b then 2 else 1) == 2) (lt-ltb 4 (addr % 4 + size) (omega (arith, l, m)))

-- so a load's value is that of its bytes in memory
pub gathers : (memory : Memory) (op : LoadOp) (addr first second : ℕ) → ((x : ℕ) → memory.byte x < 256) → addr < 2 ^ 32
    → first ≡ read_bytes memory (portion_addr addr false / 4 * 4) 4
    → second ≡ (if has_second addr (size_of op) then read_bytes memory (portion_addr addr true / 4 * 4) 4 else 0)
    → gather_of op addr first second ≡ loaded op (read_bytes memory addr (size_of op))
unfolding gather_of
gathers memory op addr first second h low e f =
    ap (loaded op) (same_bytes (λ k. pair_byte first second (addr % 4 + k))
    (λ k. read_byte memory ((addr + k) % 2 ^ 32)) (size_of op) (λ k lt. byte k lt (cases_lt (addr % 4 + k) 4)))
  where
    byte : (k : ℕ) → k < size_of op → (addr % 4 + k < 4) ⊎ (4 ≤ addr % 4 + k)
        → pair_byte first second (addr % 4 + k) ≡ read_byte memory ((addr + k) % 2 ^ 32)
    byte k lt (inl inside) =
        rw (lt-ltb (addr % 4 + k) 4 inside)
        (ap (λ w. word_byte w (addr % 4 + k)) e ∙ word_in memory (addr / 4 * 4) (addr % 4 + k) h inside
        ∙ ap (read_byte memory) (omega (arith, low)))
    byte k lt (inr past) =
        let few : k < 4 = omega (arith, lt, size_few op) in
        let there : second ≡ read_bytes memory (portion_addr addr true / 4 * 4) 4 =
        f ∙ ap (λ b. if b then read_bytes memory (portion_addr addr true / 4 * 4) 4 else 0)
        (crosses addr (size_of op) k lt past) in
        rw (le-ltb (addr % 4 + k) 4 past)
        (ap (λ w. word_byte w (addr % 4 + k - 4)) there
        ∙ word_in memory (portion_addr addr true / 4 * 4) (addr % 4 + k - 4) h (omega (arith, few))
        ∙ ap (read_byte memory) (omega (arith, low, past)))

-- ---- a portion that fails

-- the address is that of the first portion, or of the second
pub record FailsAt (addr at : ℕ) : Type 0 where
  pub place : (at ≡ addr) ⊎ (at ≡ portion_addr addr true)

-- one of two tests tells which
pub at_by : (a b : Bool) (p q at : ℕ) → (if a then Some p else if b then Some q else None) ≡ Some at
    → (at ≡ p) ⊎ (at ≡ q)
at_by true b p q at e = inl (same p at e)
  where
    same : (x y : ℕ) → Some x ≡ Some y → y ≡ x
    same x y e = cc
at_by false true p q at e = inr (same q at e)
  where
    same : (x y : ℕ) → Some x ≡ Some y → y ≡ x
    same x y e = cc
at_by false false p q at e = absurd (none at e)
  where
    none : (y : ℕ) → None ≡ Some y → ⊥
    none y e = cc

-- protection and memory refuse at such an address
pub refused_place : (x : State) (addr size at : ℕ) → refused_at x.csrs addr size Read ≡ Some at → FailsAt addr at
unfolding refused_at
refused_place x addr size at e = record {
  place =
      at_by (is_refused x.csrs addr size Read false) (has_second addr size && is_refused x.csrs addr size Read true)
      addr
      (portion_addr addr true) at e;
}

-- memory fails an access at its own address or at that of its second portion
pub error_place : (memory : Memory) (addr size at : ℕ) → error_at memory.ram addr size ≡ Some at → FailsAt addr at
unfolding error_at
error_place memory addr size at e =
    record {
      place = at_by (not (is_mapped memory.ram (portion_addr addr false)))
          (has_second addr size && not (is_mapped memory.ram (portion_addr addr true))) addr (portion_addr addr true)
          at e;
    }

-- so a portion that fails ends as its step
portion_ended : (m : Case) (word cause tval : ℕ) (ops : Option (ℕ × ℕ)) (memory : Memory) (w : Access) (second : Bool)
    → Known m → Meets m (trapped m.h.state m.c word ops memory cause tval w.addr)
    → effect_now m ≡ portion_fails m.core w second → (if w.store then 7 else 5) ≡ cause
    → portion_addr w.addr second ≡ tval → (if cause == 1 then 0 else stage_word m.core.id) ≡ word
    → Ended m (effect_now m) (trapped m.h.state m.c word ops memory cause tval w.addr)
unfolding view_of portion_fails fails
portion_ended m word cause tval ops memory w second k t e ec et ew =
    let p : Stepped = trapped m.h.state m.c word ops memory cause tval w.addr in
    let v : View = view_of p.event in
    subst (λ x. Ended m x p) (sym (e ∙ ap₂ (λ a b. fails m.core a b w.addr) ec et))
    (fails_does m.h.state m.c cause tval w.addr word ops memory m.core m.d m.i v k.csrs k.pc k.complemented k.dummies
    ew (is_trap (settings_of m.s) m.h.times.ctl v m.i refl t.item))

-- by the address that the trap has
pub portion_ends : (m : Case) (word cause tval : ℕ) (ops : Option (ℕ × ℕ)) (memory : Memory) (w : Access) → Known m
    → Meets m (trapped m.h.state m.c word ops memory cause tval w.addr) → m.g.access ≡ Some w
    → (if w.store then 7 else 5) ≡ cause → FailsAt w.addr tval
    → (if cause == 1 then 0 else stage_word m.core.id) ≡ word
    → view_phase (Some (view_of (trapped m.h.state m.c word ops memory cause tval w.addr).event))
    ≡ (if tval == w.addr then 2 else 3)
    → Ended m (effect_now m) (trapped m.h.state m.c word ops memory cause tval w.addr)
unfolding effect_by
portion_ends m word cause tval ops memory w k t ea ec f ew phase = by (tval == w.addr) refl
  where
    effect : (n : ℕ) → view_phase (Some (view_of (trapped m.h.state m.c word ops memory cause tval w.addr).event)) ≡ n
        → effect_now m ≡ effect_by (ending_by n m.i.redirects) m.core m.g m.inn.lines
    effect n e = ap (λ u. effect_by u m.core m.g m.inn.lines) (t.turn ∙ ap (λ x. ending_by x m.i.redirects) e)

    other : (b : Bool) → (tval == w.addr) ≡ b → b ≡ false → (tval ≡ w.addr) ⊎ (tval ≡ portion_addr w.addr true)
        → portion_addr w.addr true ≡ tval
    other b e n (inl same) =
        let yes_ : (tval == w.addr) ≡ true = eq-eqb tval w.addr same in let no_ : true ≡ false = sym yes_ ∙ e ∙ n in cc
    other b e n (inr at) = sym at

    by : (b : Bool) → (tval == w.addr) ≡ b
        → Ended m (effect_now m) (trapped m.h.state m.c word ops memory cause tval w.addr)
    by true e =
        portion_ended m word cause tval ops memory w false k t
        (effect 2 (phase ∙ ap (λ b. if b then 2 else 3) e) ∙ ap (λ o. portion_fails m.core (access_or o) false) ea) ec
        (sym (eqb-true tval w.addr e)) ew
    by false e =
        portion_ended m word cause tval ops memory w true k t
        (effect 3 (phase ∙ ap (λ b. if b then 2 else 3) e) ∙ ap (λ o. portion_fails m.core (access_or o) true) ea) ec
        (other (tval == w.addr) refl e f.place) ew

-- ---- a load

-- the address of a load, and its access
abbrev pub load_addr : Case → ℕ → ℕ → ℕ
load_addr m rs1 imm = (reg m.h.state rs1 + imm) % 2 ^ 32

-- the access of a load
abbrev pub load_access : Case → LoadOp → ℕ → ℕ → Access
load_access m op rs1 imm = record { addr = load_addr m rs1 imm; size = size_of op; store = false; value = 0 }

-- the phase of a portion isn't 4
pub not_four : (b : Bool) (n : ℕ) → n ≡ (if b then 2 else 3) → (n == 4) ≡ false
not_four true n e = ap (λ x. x == 4) e
not_four false n e = ap (λ x. x == 4) e

-- the stage sees this access
load_seen : (m : Case) (word len rd rs1 imm : ℕ) (op : LoadOp) (v : View) → Holds m word len (Load op rd rs1 imm) v
    → (view_phase (Some v) == 4) ≡ false → m.g.access ≡ Some (load_access m op rs1 imm)
unfolding access_by
load_seen m word len rd rs1 imm op v hd n =
    hd.access ∙ ap (λ a. Some (record { addr = (a + imm) % 2 ^ 32; size = size_of op; store = false; value = 0 }))
    (hd.operands_are n).0

-- what the unit has of its words, where it doesn't trap
abbrev pub Gathers : Case → LoadOp → ℕ → Type 0
Gathers m op addr =
    gather_of op addr m.g.ls.first m.g.ls.second ≡ loaded op (read_bytes m.h.state.memory addr (size_of op))

-- a load ends as its step, by what refuses it and what isn't answered
load_by : (m : Case) (word len rd rs1 imm : ℕ) (op : LoadOp) (o1 o2 : Option ℕ)
    → ((at : ℕ) → o1 ≡ Some at → FailsAt (load_addr m rs1 imm) at)
    → ((at : ℕ) → o2 ≡ Some at → FailsAt (load_addr m rs1 imm) at)
    → (view_phase (Some (view_of (finished (now m).pc (now m).regs m.c word
    (Rattle.ibx_arch.specs.Step.operands (now m) (Load op rd rs1 imm))
    (load_with (now m) op rd (load_addr m rs1 imm) (following (now m) len) o1 o2)).event)) ≡ 0
    → Gathers m op (load_addr m rs1 imm)) → Known m
    → Meets m (finished (now m).pc (now m).regs m.c word
    (Rattle.ibx_arch.specs.Step.operands (now m) (Load op rd rs1 imm))
    (load_with (now m) op rd (load_addr m rs1 imm) (following (now m) len) o1 o2))
    → Holds m word len (Load op rd rs1 imm)
    (view_of (finished (now m).pc (now m).regs m.c word
    (Rattle.ibx_arch.specs.Step.operands (now m) (Load op rd rs1 imm))
    (load_with (now m) op rd (load_addr m rs1 imm) (following (now m) len) o1 o2)).event)
    → Ended m (effect_now m) (finished (now m).pc (now m).regs m.c word
    (Rattle.ibx_arch.specs.Step.operands (now m) (Load op rd rs1 imm))
    (load_with (now m) op rd (load_addr m rs1 imm) (following (now m) len) o1 o2))
unfolding finished view_of outcome_by plain_outcome retired_item
load_by m word len rd rs1 imm op (Some at) o2 f1 f2 gath k t hd =
    let v : View = view_of (trapped m.h.state m.c word
    (Rattle.ibx_arch.specs.Step.operands (now m) (Load op rd rs1 imm)) m.h.state.memory 5 at
    (load_addr m rs1 imm)).event in
    portion_ends m word 5 at (Rattle.ibx_arch.specs.Step.operands (now m) (Load op rd rs1 imm)) m.h.state.memory
    (load_access m op rs1 imm) k t
    (load_seen m word len rd rs1 imm op v hd (not_four (at == load_addr m rs1 imm) (view_phase (Some v)) refl)) refl
    (f1 at refl) hd.fetched refl
load_by m word len rd rs1 imm op None (Some at) f1 f2 gath k t hd =
    let v : View = view_of (trapped m.h.state m.c word
    (Rattle.ibx_arch.specs.Step.operands (now m) (Load op rd rs1 imm)) m.h.state.memory 5 at
    (load_addr m rs1 imm)).event in
    portion_ends m word 5 at (Rattle.ibx_arch.specs.Step.operands (now m) (Load op rd rs1 imm)) m.h.state.memory
    (load_access m op rs1 imm) k t
    (load_seen m word len rd rs1 imm op v hd (not_four (at == load_addr m rs1 imm) (view_phase (Some v)) refl)) refl
    (f2 at refl) hd.fetched refl
load_by m word len rd rs1 imm op None None f1 f2 gath k t hd =
    let insn : Insn = Load op rd rs1 imm in
    let addr : ℕ = load_addr m rs1 imm in
    let w : Access = load_access m op rs1 imm in
    let value : ℕ = loaded op (read_bytes m.h.state.memory addr (size_of op)) in
    let next : ℕ = (m.h.state.pc + len) % 2 ^ 32 in
    let csrs : CsrValues = csr_tick (now m).csrs true None in
    let v : View = view_of (retire_step m word insn m.h.state.memory csrs rd value (Some w) None next).event in
    let sees : m.g.access ≡ Some w = load_seen m word len rd rs1 imm op v hd (no_trap_phase v refl) in
    let item : m.i ≡ retired_item (settings_of m.s) m.h.times.ctl v (Some insn) (plain (parcels_of word)) =
    t.item ∙ row_item (settings_of m.s) m.h.times.ctl v word insn refl refl hd.insn_is in
    row_ends m word len rd value next insn (Some w) m.h.state.memory k t hd sees
    (ap (λ o. retires_as m.core m.g m.i.redirects rd (gather_of op (access_or o).addr m.g.ls.first m.g.ls.second) None
    (next_of m.core.id) (ticked m.core)) sees
    ∙ ap (λ x. retires_as m.core m.g m.i.redirects rd x None (next_of m.core.id) (ticked m.core)) (gath refl)
    ∙ ap (λ x. retires_as m.core m.g m.i.redirects rd value None x (ticked m.core))
    (next_is m word len k hd.word_is hd.len_is))
    refl (ap (λ (j : Item). j.fences) item)

-- so every load does
pub load_ends : (m : Case) (word len lines rd rs1 imm : ℕ) (op : LoadOp)
    → (view_phase (Some (view_of (insn_step m word len lines (Load op rd rs1 imm)).event)) ≡ 0
    → Gathers m op (load_addr m rs1 imm)) → RowEnds m word len lines (Load op rd rs1 imm)
unfolding execute load
load_ends m word len lines rd rs1 imm op gath k t hd =
    load_by m word len rd rs1 imm op (refused_at (now m).csrs (load_addr m rs1 imm) (size_of op) Read)
    (error_at m.h.state.memory.ram (load_addr m rs1 imm) (size_of op))
    (λ at e. refused_place (now m) (load_addr m rs1 imm) (size_of op) at e)
    (λ at e. error_place m.h.state.memory (load_addr m rs1 imm) (size_of op) at e) gath k t hd
