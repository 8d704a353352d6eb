-- What the stage holds of an instruction: its word, its row, its operands and its access are the state's.
use Rattle.std.proofs.Common.{◌≡◌, ℕ, ◌+◌, ◌%◌, ◌^◌, ◌<◌, Bool, true, false, not}
use Rattle.std.proofs.Common.{Option, Some, None, refl, sym, ap, ap₂, ◌∙◌}
use Rattle.std.specs.Prelude.{◌==◌, if◌then◌else◌, bit_and}
use Rattle.std.proofs.lemmas.Bool.{eq-eqb}
use Rattle.ibx_isa.specs.declared.insn.Insn.{Insn}
use Rattle.ibx_csr.specs.Fields.{values}
use Rattle.ibx_csr.specs.Values.{CsrValues, counters_after}
use Rattle.ibx_arch.specs.declared.fetched.Fetched.{Fetched}
use Rattle.ibx_arch.specs.declared.fetched.Fetched.TheVariants.{Unsound, Instruction}
use Rattle.ibx_isa.specs.Lengths.{is_long}
use Rattle.ibx_arch.specs.State.{State, at_cycle, reg}
use Rattle.ibx_arch.specs.Step.{operands}
use Rattle.ibx_isa.specs.Sources.{source1, source2}
use Rattle.ibx_id.specs.declared.stage.IdState.{IdState}
use Rattle.ibx_time_invariant.proofs.Stages.{fault_of}
use Rattle.ibx_time_decode.proofs.Fetches.{fetch_by, long_word, next_apart}
use Rattle.ibx_time_decode.proofs.SeesStage.{Fields, IsHeld, held_good, in_stage}
use Rattle.ibx_time_retire.proofs.Rows.{ops_in}
use Rattle.ibx_core.specs.declared.state.State.{State as Core}
use Rattle.ibx_core.specs.declared.sight.Sight.{Sight}
use Rattle.ibx_core.specs.Sights.{stage_word}

-- ---- what is fetched

-- the address that a fault says
abbrev pub faulted : ℕ → ℕ → ℕ
faulted fault pc = if fault == 2 then (pc + 2) % 2 ^ 32 else pc

-- the bytes of an instruction, by whether it is long
abbrev pub length_by : Bool → ℕ
length_by long = if long then 4 else 2

-- a fault is at the program counter or after it, a word has its length, and the stage holds either
abbrev pub IsFetch : ℕ → Fetched → Type 0
IsFetch pc (Unsound addr) = (faulted (fault_of pc (Unsound addr)) pc ≡ addr) × IsHeld pc (Unsound addr)
IsFetch pc (Instruction word len) = (len ≡ length_by (is_long word)) × IsHeld pc (Instruction word len)

-- a fault of the first parcel gives back the program counter
first_address : (pc : ℕ) → faulted (fault_of pc (Unsound pc)) pc ≡ pc
first_address pc = ap (λ b. faulted (if b then 1 else 2) pc) (eq-eqb pc pc refl)

-- a fault of the second parcel gives back the address two bytes on
second_address : (pc : ℕ) → pc < 2 ^ 32 → faulted (fault_of pc (Unsound ((pc + 2) % 2 ^ 32))) pc ≡ (pc + 2) % 2 ^ 32
second_address pc l = ap (λ b. faulted (if b then 1 else 2) pc) (next_apart pc l)

-- so two parcels fetch so
pub fetch_good : (a long b : Bool) (pc p1 p2 : ℕ) → pc < 2 ^ 32 → p1 < 2 ^ 16 → is_long p1 ≡ long
    → IsFetch pc (fetch_by a long b pc p1 p2)
fetch_good false long b pc p1 p2 l k e = (first_address pc, held_good false long b pc p1 p2 k e)
fetch_good true false b pc p1 p2 l k e = (sym (ap length_by e), held_good true false b pc p1 p2 k e)
fetch_good true true false pc p1 p2 l k e = (second_address pc l, held_good true true false pc p1 p2 k e)
fetch_good true true true pc p1 p2 l k e =
    (sym (ap length_by (long_word p1 p2 ∙ e)), held_good true true true pc p1 p2 k e)

-- the stage's word is the one that was fetched
pub stage_word_is : (pc word len : ℕ) (id : IdState) → IsFetch pc (Instruction word len)
    → Fields (Instruction word len) pc id → stage_word id ≡ word
stage_word_is pc word len id g f = ap in_stage f.word ∙ g.1

-- ---- the operands

-- operands, where a test holds
abbrev with_ops : Bool → ℕ → ℕ → Option (ℕ × ℕ)
with_ops b p q = if b then None else Some (p, q)

-- the operands of the event are those that the stage sees
pub ops_are : (x : State) (c : ℕ) (core : Core) (g : Sight) (insn : Insn) → values core.csrs ≡ (at_cycle x c).csrs
    → g.a ≡ reg x (source1 insn) → g.b ≡ reg x (source2 insn) → ops_in core g ≡ operands (at_cycle x c) insn
unfolding operands values counters_after
ops_are x c core g insn ev ea eb =
    ap (λ (w : CsrValues). with_ops (not (bit_and w.cpuctrl 2 == 0)) g.a g.b) ev
    ∙ ap₂ (λ p q. with_ops (not (bit_and x.csrs.cpuctrl 2 == 0)) p q) ea eb
    ∙ back (bit_and x.csrs.cpuctrl 2 == 0)
  where
    back : (b : Bool) → with_ops (not b) (reg x (source1 insn)) (reg x (source2 insn))
        ≡ (if b then Some (reg x (source1 insn), reg x (source2 insn)) else None)
    back true = refl
    back false = refl
