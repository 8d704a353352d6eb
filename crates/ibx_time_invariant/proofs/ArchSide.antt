-- The architecture in a cycle: what the stage sees, and what its effects leave. Each statement is over the fields that
-- hold the state.
use Rattle.std.proofs.Common.{◌≡◌, ℕ, ◌+◌, ◌%◌, ◌^◌, Bool, false, not, ◌||◌, List, if◌then◌else◌, ◌==◌}
use Rattle.std.proofs.Common.{slice_index, bit_and, None, Option}
use Rattle.ibx_csr.specs.Fields.{tick_of, glitch_of}
use Rattle.ibx_time.proofs.Answered.{parcels_by}
use Rattle.ibx_time.specs.Times.{target_if}
use Rattle.ibx_time_invariant.proofs.Stages.{AreAccesses, ItemAt, PhaseAt}
use Rattle.ibx_time_invariant.proofs.Ties.{IsPlaced, IsState, Tied}
use Rattle.ibx_time_invariant.proofs.StageSide.{Ends, Eyes, Sees}
use Rattle.ibx_time.specs.Settings.{Setup, lines_in, settings_of}
use Rattle.ibx_time.specs.Items.{item_of}
use Rattle.ibx_time.specs.History.{Story, continued, event_at, item_at, taken, view_with}
use Rattle.ibx_id.specs.declared.stage.IdState.{IdState}
use Rattle.ibx_time_machine.specs.System.{System, happens_at, in_of}
use Rattle.ibx_time_machine.specs.Words.{put_reg}
use Rattle.ibx_arch.specs.Step.{Parcels}
use Rattle.ibx_arch.specs.Fetch.{fetch, is_sound}
use Rattle.ibx_isa.specs.Lengths.{is_long}
use Rattle.ibx_secded.specs.Code.{payload_of, syndrome_of}
use Rattle.ibx_isa.specs.declared.insn.Insn.{Insn}
use Rattle.ibx_isa.specs.declared.insn.MulKind.{MulKind}
use Rattle.ibx_csr.specs.declared.csrs.Csrs.{Csrs}
use Rattle.ibx_arch.specs.declared.fetched.Fetched.{Fetched}
use Rattle.ibx_arch.specs.declared.fetched.Fetched.TheVariants.{Unsound, Instruction}
use Rattle.ibx_core.specs.Sights.{is_fixed, access_by, cause_of, cost_by, is_real, ra_of, rb_of, refused_by, row_of}
use Rattle.ibx_core.specs.Effects.{Effect, effect_by}
use Rattle.ibx_core.specs.Sights.{sight_of}

-- ---- what the stage sees is the item

-- what the stage sees, by the row, its operands, whether it is real and whether timing is fixed
abbrev pub eyes_at : Option Insn → ℕ → ℕ → Bool → Bool → IdState → Csrs → ℕ → MulKind → Eyes
eyes_at row a b real fixed id csrs lines mul =
    record {
      row = row;
      a = a;
      b = b;
      fixed = fixed;
      cost = cost_by row b fixed mul;
      wake = not (bit_and lines csrs.mie == 0);
      trap = if real then cause_of csrs id.fault row else None;
      access = if real then access_by row a b else None;
      refused = refused_by csrs (if real then access_by row a b else None);
    }

-- by the codewords of the two registers
abbrev pub eyes_of : IdState → Csrs → ℕ → ℕ → ℕ → MulKind → Eyes
eyes_of id csrs rega regb lines mul =
    eyes_at (row_of id) (payload_of 32 rega) (payload_of 32 regb) (is_real id) (id.kind == 1 || is_fixed csrs) id csrs
    lines mul

-- the same in cycle c, with the two registers read
abbrev pub eyes_in : Setup → ℕ → IdState → Csrs → List ℕ → Eyes
eyes_in s c id csrs regs =
    eyes_of id csrs (slice_index regs (ra_of id)) (slice_index regs (rb_of id)) (lines_in (settings_of s) c) s.mul

-- the stage sees the item of the history
abbrev pub ArchSees : Setup → Type 0
ArchSees s =
    (limit t : ℕ) (h : Story) (c next_pc : ℕ) (id : IdState) (csrs : Csrs) (regs : List ℕ)
    → IsPlaced s
    → Tied s h c next_pc csrs regs
    → IsState s c h
    → ItemAt s t h id
    → PhaseAt s limit t h c id.phase
    → Sees s t h c id (eyes_in s c id csrs regs)

-- ---- a cycle without an event

-- the fields still hold the state, and the story is still valid
pub record StillTied (s : Setup) (h : Story) (c next_pc : ℕ) (csrs : Csrs) (regs : List ℕ) : Type 0 where
  pub tied : Tied s h c next_pc csrs regs
  pub state : IsState s c h

-- a cycle in which only the counters move leaves it so
abbrev pub ArchRests : Setup → Type 0
ArchRests s =
    (h : Story) (c next_pc : ℕ) (csrs : Csrs) (regs : List ℕ)
    → Tied s h c next_pc csrs regs
    → IsState s c h
    → StillTied s h (c + 1) next_pc (tick_of csrs false None) regs

-- ---- the effects in the item's last cycle are the step's, or none for a dummy

-- the effects are those of the item: its event, the state after it, the dummies, the redirect and the FENCE.I
pub record Left (s : Setup) (limit t : ℕ) (h : Story) (c : ℕ) (e : Effect) (regs : List ℕ) : Type 0 where
  pub happens : happens_at c e.happens ≡ event_at s limit t h
  pub tied : Tied s (continued s limit t h) (c + 1) e.next_pc e.csrs (put_reg e.write regs)
  pub state : IsState s (c + 1) (continued s limit t h)
  pub dummies : e.dummies ≡ (continued s limit t h).times.dummies
  pub redirect : e.redirect ≡ target_if (item_at s t h).redirects (continued s limit t h).state.pc
  pub fence : e.fence ≡ (item_at s t h).fences

-- the effects of an item's last cycle are those of its step
abbrev pub ArchEnds : Setup → Type 0
ArchEnds s =
    (limit t : ℕ) (h : Story) (st : System)
    → IsPlaced s
    → Tied s h st.cycle st.main.next_pc st.main.csrs st.regs
    → IsState s st.cycle h
    → st.main.dummies ≡ (taken s t h).times.dummies
    → ItemAt s t h st.main.id
    → PhaseAt s limit t h st.cycle st.main.id.phase
    → Ends s limit t h st.cycle st.main.id st.main.md st.main.ls st.dport
    (eyes_in s st.cycle st.main.id st.main.csrs st.regs)
    → Left s limit t h st.cycle (effect_by (sight_of st.main (in_of s st)).turn st.main (sight_of st.main (in_of s st))
    (in_of s st).lines) st.regs

-- ---- the parcels of an instruction, as the admission counts them

-- the word that was fetched, 0 for an unsound parcel
abbrev pub fetched_word : Fetched → ℕ
fetched_word (Unsound addr) = 0
fetched_word (Instruction word size) = word

-- the item of an instruction that was fetched so, and the word that its view has
pub record IsFetched (s : Setup) (h : Story) (first second : ℕ) : Type 0 where
  pub parcels : (item_of (settings_of s) h.times.ctl (view_with s h (Parcels first second))).parcels
      ≡ parcels_by (is_sound h.state.csrs h.state.memory.ram h.state.pc) (is_long first)
      (is_sound h.state.csrs h.state.memory.ram ((h.state.pc + 2) % 2 ^ 32))
  pub word : (view_with s h (Parcels first second)).word ≡ fetched_word (fetch h.state first second)

-- any two parcels are counted so
abbrev pub ArchFetches : Setup → Type 0
ArchFetches s =
    (c : ℕ) (h : Story) (first second : ℕ) → IsState s c h → IsFetched s h first second

-- the rows of loads and stores have sizes up to 4
abbrev pub ArchAccesses : Setup → Type 0
ArchAccesses s = AreAccesses s

-- ---- no alert

-- the two registers that the stage reads are codewords
abbrev pub ArchQuiet : Setup → Type 0
ArchQuiet s =
    (h : Story) (c next_pc : ℕ) (id : IdState) (csrs : Csrs) (regs : List ℕ)
    → Tied s h c next_pc csrs regs
    → IsState s c h
    → (syndrome_of 32 7 (slice_index regs (ra_of id)) ≡ 0) × (syndrome_of 32 7 (slice_index regs (rb_of id)) ≡ 0)
    × (glitch_of csrs ≡ false)
