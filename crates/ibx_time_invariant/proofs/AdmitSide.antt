-- The admission of a cycle: from an empty stage, what the cycle left of the registers, and the two parcels at the head
-- of the buffer.
use Rattle.std.proofs.Common.{◌≡◌, ℕ, ◌+◌, ◌<◌, ◌≤◌, true, List}
use Rattle.ibx_muldiv.specs.Unit.{idle_of as md_idle}
use Rattle.ibx_time_invariant.proofs.Fetches.{HeadIs}
use Rattle.ibx_time_invariant.proofs.Stages.{Empty, EmptyEnd, Full}
use Rattle.ibx_time_invariant.proofs.Ties.{Grows, IsPlaced, IsState, Tied}
use Rattle.ibx_time_invariant.proofs.ArchSide.{ArchFetches}
use Rattle.ibx_bus.specs.Port.{PortState}
use Rattle.ibx_time.specs.Settings.{Setup, lines_in, settings_of}
use Rattle.ibx_time.specs.Controls.{ctl_of}
use Rattle.ibx_time.specs.Dummies.{is_due_in}
use Rattle.ibx_dummy.specs.declared.unit.Dummy.{Dummy}
use Rattle.ibx_time.specs.Times.{AnInstruction, has_answered, next_pc}
use Rattle.ibx_time.specs.History.{Story, item_at, kind_of, taken}
use Rattle.ibx_time.specs.BusLines.{wires_at}
use Rattle.ibx_csr.specs.Fields.{values}
use Rattle.ibx_trap.specs.Interrupts.{pending_of}
use Rattle.ibx_csr.specs.declared.csrs.Csrs.{Csrs}
use Rattle.ibx_lsu.specs.declared.unit.Lsu.{Lsu}
use Rattle.ibx_prefetch.specs.declared.buffer.Head.{Head}
use Rattle.ibx_core.specs.Entries.{entry_by, Entry}

-- what is admitted after the effects of a cycle, with its interrupt lines
abbrev pub entry_in_cycle : ℕ → Head → Csrs → Dummy → ℕ → Entry
entry_in_cycle lines head csrs dummies next_pc =
    entry_by (pending_of csrs.priv_ csrs.mstatus csrs.mie lines) (is_due_in (ctl_of (values csrs)) dummies) head csrs
    dummies next_pc

-- an item is admitted in cycle c, with so many parcels that have answered, and its writes are to come
pub record Admitted (s : Setup) (limit : ℕ) (h : Story) (c : ℕ) (e : Entry) (ls : Lsu) (p : PortState) : Type 0 where
  pub stage : Full s limit c h (c + 1) e.id md_idle ls p
  pub taken_is : e.taken ≡ (item_at s c h).parcels
  pub few : (item_at s c h).parcels ≤ 2
  pub there : 0 < (item_at s c h).parcels → has_answered (settings_of s) h.times (item_at s c h).parcels c ≡ true
  pub real : kind_of s c h ≡ AnInstruction → 0 < (item_at s c h).parcels
  pub writes : Grows h.writes (taken s c h).writes (c + 1)
  pub wires : wires_at (taken s c h).sent c ≡ wires_at h.sent c
  pub dummies : e.dummies ≡ (taken s c h).times.dummies

-- nothing is admitted in cycle c, or an item is
pub data Entered (s : Setup) (limit : ℕ) (h : Story) (c : ℕ) (e : Entry) (ls : Lsu) (p : PortState) : Type 0 where
  nothing : e.taken ≡ 0 → e.dummies ≡ h.times.dummies → Empty s limit h (c + 1) e.id md_idle ls p
      → Entered s limit h c e ls p
  item : Admitted s limit h c e ls p → Entered s limit h c e ls p

-- a cycle that leaves the stage empty admits just what the history says
abbrev pub Admits : Setup → Type 0
Admits s =
    (limit : ℕ) (h : Story) (c next_pc : ℕ) (csrs : Csrs) (regs : List ℕ) (dummies : Dummy) (head : Head) (ls : Lsu)
    (p : PortState)
    → IsPlaced s
    → ArchFetches s
    → c < limit
    → Tied s h (c + 1) next_pc csrs regs
    → IsState s (c + 1) h
    → dummies ≡ h.times.dummies
    → HeadIs s h.writes h.times.stream h.times.half c head
    → EmptyEnd s limit h c ls p
    → Entered s limit h c (entry_in_cycle (lines_in (settings_of s) c) head csrs dummies next_pc) ls p
