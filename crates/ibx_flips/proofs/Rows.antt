-- Runs of the system worked out: when events come, and what comes of a flip.
use Rattle.std.proofs.Common.{◌≡◌, ℕ, zero, suc, ◌+◌, false, List, [], ◌∷◌, ◌++◌, Option, Some, None, refl}
use Rattle.std.specs.Prelude.{replicate}
use Rattle.ibx_bits.specs.Bytes as Bytes
use Rattle.ibx_isa.specs.Alu as Alu
use Rattle.ibx_isa.specs.Cost as Cost
use Rattle.ibx_isa.specs.Portions as Portions
use Rattle.ibx_isa.specs.Wires as Requests
use Rattle.ibx_isa.specs.declared.event.Event.{Event}
use Rattle.ibx_isa.specs.declared.event.Event.TheVariants.{Retire, Trap, Irq}
use Rattle.ibx_decoder.specs.Compressed as Compressed
use Rattle.ibx_decoder.specs.Instructions as Instructions
use Rattle.ibx_decoder.specs.Rows as Table
use Rattle.ibx_secded.specs.Code as Code
use Rattle.ibx_lsu.specs.Turns as Accesses
use Rattle.ibx_muldiv.specs.Operands as Operands
use Rattle.ibx_muldiv.specs.Steps as Steps
use Rattle.ibx_muldiv.specs.Unit as MulDiv
use Rattle.ibx_pmp.specs.Ranges as Ranges
use Rattle.ibx_prefetch.specs.Buffer as Buffer
use Rattle.ibx_icache.specs.Doing as Doing
use Rattle.ibx_icache.specs.WordPort as WordPort
use Rattle.ibx_dummy.specs.Dummies as Dummies
use Rattle.ibx_trap.specs.Interrupts as Interrupts
use Rattle.ibx_trap.specs.Traps as Traps
use Rattle.ibx_csr.specs.Fields as CsrFields
use Rattle.ibx_csr.specs.Table as CsrTable
use Rattle.ibx_csr.specs.Values as CsrValues
use Rattle.ibx_id.specs.Turns as Turns
use Rattle.ibx_plan.specs.declared.entry.Change.{Change}
use Rattle.ibx_plan.specs.declared.site.Flip.{Flip}
use Rattle.ibx_plan.specs.declared.site.Site.{Site}
use Rattle.ibx_plan.specs.declared.site.Site.TheVariants as site
use Rattle.ibx_plan.specs.declared.site.Wait.{Wait}
use Rattle.ibx_bus.specs.Memory as Memory
use Rattle.ibx_bus.specs.Port as Port
use Rattle.ibx_core.specs.Core as Core
use Rattle.ibx_core.specs.Effects as Effects
use Rattle.ibx_core.specs.Entries as Entries
use Rattle.ibx_core.specs.Fields as Fields
use Rattle.ibx_core.specs.Flipped as Flipped
use Rattle.ibx_core.specs.Sights as Sights
use Rattle.ibx_core.specs.Wires as Wires
use Rattle.ibx_core.specs.declared.state.State.{State}
use Rattle.ibx_system.specs.Core.{core_parts}
use Rattle.ibx_system.specs.System as System
use Rattle.ibx_system.specs.System.{Whole}
use Rattle.ibx_flips.specs.Flips as Flips
use Rattle.ibx_system.specs.Flips as FlipMade
use Rattle.ibx_system.specs.Runs as Runs
use Rattle.ibx_flips.specs.Flips.{first_alert, first_diff, first_use}
use Rattle.ibx_system.proofs.First.{place_at_reset}

-- ---- what is opened to work a cycle out: the words, the instructions, the units, the core, and the system

-- numbers of bytes and bits, and the codes
unfoldable words : ℕ
unfolding Bytes.bytes_number Bytes.bits_number Code.syndrome_of Code.encode_of Code.rewrite_of Code.checks Code.column
    Code.columns Code.numbers_of_weight Code.weight
words = 0

-- what an instruction is and does
unfoldable instructions : ℕ
unfolding Alu.alu_of Alu.branch_of Cost.md_cost_of Portions.loaded Portions.lanes_of Portions.gather_of
    Requests.request_of Compressed.expand_of Instructions.instruction_of Table.decode_of
instructions = 0

-- the unit of multiplication and division
unfoldable arithmetic : ℕ
unfolding Operands.operands_of Steps.multiplied Steps.divided Steps.division_step Steps.step_of Steps.begun_product
    Steps.begun_division MulDiv.seen MulDiv.packed MulDiv.idle_of MulDiv.start_of MulDiv.tick_of MulDiv.result_of
arithmetic = 0

-- the buffer of fetched words
unfoldable fetches : ℕ
unfolding Buffer.fetch_reset Buffer.turned Buffer.pushed Buffer.received Buffer.head_of Buffer.request_of
    Buffer.requested Buffer.popped Buffer.prefetch_next
fetches = 0

-- the word port and its cache
unfoldable cache : ℕ
unfolding Doing.doing_of Doing.answers_by Doing.wires_by Doing.granted_by WordPort.reset_of WordPort.is_hit
    WordPort.found_word WordPort.victim_of WordPort.entry_by WordPort.answer_of WordPort.gone_by WordPort.begun_by
    WordPort.wires_of WordPort.word_port_next WordPort.filling_of WordPort.alerts_of WordPort.out_of
cache = 0

-- the CSRs, traps, interrupts and protection
unfoldable csrs : ℕ
unfolding Interrupts.pending_of Traps.enter_of Traps.enter_target Traps.leave_of CsrFields.values CsrFields.reset_of
    CsrFields.put_of CsrFields.write_of CsrFields.tick_of CsrFields.with_regs CsrFields.glitch_of CsrTable.csr_of
    CsrValues.value_of CsrValues.csr_read CsrValues.csr_can_write Ranges.allowed
csrs = 0

-- what the stage sees, and accesses
unfoldable stage : ℕ
unfolding Turns.worked Turns.real_turn Turns.turn_of Accesses.turn_of Accesses.next_of Dummies.dummy_word
    Sights.row_of Sights.ra_of Sights.rb_of Sights.access_by Sights.is_denied Sights.refused_by Sights.turn_by
    Sights.csr_cause Sights.row_cause Sights.cause_of Sights.md_by Sights.cost_by Sights.sight_with Sights.sight_of
stage = 0

-- what a cycle comes to, and what enters
unfoldable effects : ℕ
unfolding Effects.plain_outcome Effects.csr_written Effects.csr_outcome Effects.outcome_by Effects.retires
    Effects.rests Effects.fails Effects.portion_fails Effects.cause_fails Effects.interrupts Effects.effect_by
    Entries.fetched_by Entries.may_execute Entries.fetched_of Entries.entry_by Entries.admits_at
effects = 0

-- the fields and a cycle of the core
unfoldable core : ℕ
unfolding core_parts Fields.reset_of Fields.fields Flipped.core_of Flipped.field_flip Core.reads_of Core.heard
    Core.port_of Core.head_at Core.cycle_with Core.cycle_seen Core.cycle_of Core.md_next Core.ls_by Core.next_by
    Core.leaves Core.core_next Core.alerts_of Core.write_word Core.tag_word Core.out_with Core.out_by Core.gives
    Core.core_out
core = 0

-- a step of the system
unfoldable system : ℕ
unfolding words instructions arithmetic fetches cache csrs stage effects core Wires.agree Memory.merged
    Memory.stored_word Memory.memory_next Port.port_moves System.shown System.changed System.settle System.next
system = 0

-- flips, runs and searches
unfoldable flips : ℕ
unfolding system FlipMade.place_flip FlipMade.flip Flips.first_from Runs.run Flips.in_marks Flips.uses_marked
    Flips.place_marks Flips.marks_from
flips = 0

-- ---- systems at reset

-- the first state with this delay, this entry, these words in RAM from 0x00100000 on, these waits, and these changes
-- of the interrupt lines
loaded_with : ℕ → ℕ → List ℕ → List Wait → List Wait → List Change → Whole State
unfolding system
loaded_with delay entry ram iwaits dwaits changes = record {
  main = Fields.reset_of entry;
  shadow = Fields.reset_of entry;
  delayed = replicate delay (Wires.quiet_in, Wires.quiet_out);
  delay = delay;
  age = 0;
  told = false;
  place = place_at_reset (record { mul = 0; changes = changes }) ram 0x100000 iwaits dwaits;
}

-- the same with a delay of two cycles
loaded : ℕ → List ℕ → List Wait → List Wait → List Change → Whole State
unfolding loaded_with
loaded entry ram iwaits dwaits changes = loaded_with 2 entry ram iwaits dwaits changes

-- a program at 0x00100080, its entry, with this delay, without waits and interrupts
program_with : ℕ → List ℕ → Whole State
unfolding loaded_with
program_with delay code = loaded_with delay 0x100080 (replicate 32 0 ++ code ++ replicate 32 0) [] [] []

-- the same with a delay of two cycles
program : List ℕ → Whole State
unfolding loaded
program code = loaded 0x100080 (replicate 32 0 ++ code ++ replicate 32 0) [] [] []

-- LUI x6, 0x20; ADDI x7, x0, 1; SW x7, 8(x6), which halts
halting : List ℕ
halting = 0x00020337 ∷ 0x00100393 ∷ 0x00732423 ∷ []

-- ---- events: the cycle and the program counter of each

-- an event before the later ones
event_by : Option Event → ℕ → List (ℕ × ℕ) → List (ℕ × ℕ)
event_by None cycle more = more
event_by (Some (Retire c pc word rd value mem ctl ops)) cycle more = (cycle, pc) ∷ more
event_by (Some (Trap c pc word cause tval addr)) cycle more = (cycle, pc) ∷ more
event_by (Some (Irq c pc cause)) cycle more = (cycle, pc) ∷ more

-- those of so many cycles, from this one on
events_from : ℕ → ℕ → Whole State → List (ℕ × ℕ)
unfolding event_by
events_from cycle zero w = []
events_from cycle (suc n) w =
    event_by (System.output_of core_parts w).event cycle (events_from (cycle + 1) n (System.next core_parts w))

-- those of a run
events : ℕ → Whole State → List (ℕ × ℕ)
unfolding events_from
events cycles w = events_from 0 cycles w

-- the program alone
three_rows : events 6 (program halting) ≡ (2, 0x100080) ∷ (3, 0x100084) ∷ (5, 0x100088) ∷ []
unfolding system program halting events
three_rows = refl

-- each fetch waits a cycle for its grant
waiting_fetch : events 9
    (loaded 0x100080 (replicate 32 0 ++ halting ++ replicate 32 0)
    (record { grant = 1; answer = 0 } ∷ []) [] []) ≡ (3, 0x100080) ∷ (5, 0x100084) ∷ (8, 0x100088) ∷ []
unfolding system loaded halting events
waiting_fetch = refl

-- JAL over a word
jump : events 8 (program (0x008000ef ∷ 0 ∷ halting))
    ≡ (2, 0x100080) ∷ (4, 0x100088) ∷ (5, 0x10008c) ∷ (7, 0x100090) ∷ []
unfolding system program halting events
jump = refl

-- BEQ x0, x0 over a word; BNE x0, x0; the same with fixed timing
taken : events 9 (program (0x00000463 ∷ 0 ∷ halting))
    ≡ (3, 0x100080) ∷ (5, 0x100088) ∷ (6, 0x10008c) ∷ (8, 0x100090) ∷ []
unfolding system program halting events
taken = refl

-- BNE x0, x0
untaken : events 7 (program (0x00001463 ∷ halting)) ≡ (2, 0x100080) ∷ (3, 0x100084) ∷ (4, 0x100088)
    ∷ (6, 0x10008c) ∷ []
unfolding system program halting events
untaken = refl

-- the same with fixed timing
fixed_timing : events 10 (program (0x7c016073 ∷ 0x00001463 ∷ halting))
    ≡ (2, 0x100080) ∷ (4, 0x100084) ∷ (6, 0x100088) ∷ (7, 0x10008c) ∷ (9, 0x100090) ∷ []
unfolding system program halting events
fixed_timing = refl

-- DIV of 100 by 7
division : events 46 (program (0x06400293 ∷ 0x00700413 ∷ 0x0282c4b3 ∷ halting))
    ≡ (2, 0x100080) ∷ (3, 0x100084) ∷ (41, 0x100088) ∷ (42, 0x10008c) ∷ (43, 0x100090) ∷ (45, 0x100094) ∷ []
unfolding system program halting events
division = refl

-- LW across words, by a list of waits that is gone through again
wrapping_waits : events 17
    (loaded 0x100080 (replicate 32 0 ++ (0x001002b7 ∷ 0x0832a403 ∷ halting) ++ replicate 32 0) []
    (record { grant = 2; answer = 1 } ∷ record { grant = 0; answer = 0 } ∷ []) [])
    ≡ (2, 0x100080) ∷ (9, 0x100084) ∷ (10, 0x100088) ∷ (11, 0x10008c) ∷ (16, 0x100090) ∷ []
unfolding system loaded halting events
wrapping_waits = refl

-- protection refuses the second parcel of the last row
refused_parcel : events 10
    (program (0x000402b7 ∷ 0x02628293 ∷ 0x3b029073 ∷ 0x09000413 ∷ 0x3a041073 ∷ 0x00130001 ∷ 0 ∷ []))
    ≡ (2, 0x100080) ∷ (3, 0x100084) ∷ (4, 0x100088) ∷ (5, 0x10008c) ∷ (6, 0x100090) ∷ (7, 0x100094) ∷
    (9, 0x100096) ∷ []
unfolding system program events
refused_parcel = refl

-- MRET to U mode without a region
user_fetch : events 10 (program (0x001002b7 ∷ 0x09028293 ∷ 0x34129073 ∷ 0x30200073 ∷ 0x00000013 ∷ []))
    ≡ (2, 0x100080) ∷ (3, 0x100084) ∷ (4, 0x100088) ∷ (6, 0x10008c) ∷ (9, 0x100090) ∷ []
unfolding system program events
user_fetch = refl

-- the software interrupt from cycle 3 on, and the trap of its handler's word
interrupt : events 8
    (loaded 0x100080 (replicate 32 0 ++ (0x30446073 ∷ 0x30046073 ∷ 0x30047073 ∷ halting) ++ replicate 32 0) [] []
    (record { cycle = 3; mask = 8 } ∷ [])) ≡ (2, 0x100080) ∷ (3, 0x100084) ∷ (4, 0x100088) ∷ (7, 0x10000c) ∷ []
unfolding system loaded halting events
interrupt = refl

-- a dummy in the stage in cycle 4
dummy : events 8 (program (0x7c026073 ∷ halting)) ≡ (2, 0x100080) ∷ (3, 0x100084) ∷ (5, 0x100088) ∷ (7, 0x10008c) ∷ []
unfolding system program halting events
dummy = refl

-- ECALL, and the handler
handler : events 9 (loaded 0x100080 (halting ++ replicate 29 0 ++ (0x00000073 ∷ []) ++ replicate 32 0) [] [] [])
    ≡ (3, 0x100080) ∷ (5, 0x100000) ∷ (6, 0x100004) ∷ (8, 0x100008) ∷ []
unfolding system loaded halting events
handler = refl

-- ---- flips: the first difference of the bus, and the first alert

-- a flip in this cycle
flip_at : ℕ → Site → Flip
flip_at cycle place = record { cycle = cycle; site = place }

-- both answers for so many cycles
outcome : Whole State → Flip → ℕ → Option ℕ × Option ℕ
outcome w f cycles = (first_diff core_parts w f cycles, first_alert core_parts w f cycles)

-- bit 15 of id_word: the store takes its address from x7 in place of x6. The alert comes three cycles later, so the
-- bound is met
main_field : outcome (program halting) (flip_at 4 (site.Main 20 15)) 5 ≡ (Some 4, Some 7)
unfolding flips program halting flip_at outcome
main_field = refl

-- the same with a delay of one cycle, and of four: the bound is met too
main_field_1 : outcome (program_with 1 halting) (flip_at 4 (site.Main 20 15)) 5 ≡ (Some 4, Some 6)
unfolding flips program_with halting flip_at outcome
main_field_1 = refl

-- with the longest delay
main_field_4 : outcome (program_with 4 halting) (flip_at 4 (site.Main 20 15)) 5 ≡ (Some 4, Some 9)
unfolding flips program_with halting flip_at outcome
main_field_4 = refl

-- the same bit of the shadow
shadow_field : outcome (program halting) (flip_at 4 (site.Shadow 20 15)) 10 ≡ (None, Some 5)
unfolding flips program halting flip_at outcome
shadow_field = refl

-- the kept finding: an alert at once
told_bit : outcome (program halting) (flip_at 3 (site.Delay 0 37 0)) 10 ≡ (None, Some 3)
unfolding flips program halting flip_at outcome
told_bit = refl

-- a register that isn't read, a check bit and a payload bit of registers that are
unread_register : outcome (program halting) (flip_at 3 (site.Reg 31 0)) 10 ≡ (None, None)
unfolding flips program halting flip_at outcome
unread_register = refl

-- a check bit of the store's address
address_register : outcome (program halting) (flip_at 4 (site.Reg 6 32)) 6 ≡ (None, Some 4)
unfolding flips program halting flip_at outcome
address_register = refl

-- a payload bit of its value
value_register : outcome (program halting) (flip_at 4 (site.Reg 7 0)) 6 ≡ (Some 4, Some 4)
unfolding flips program halting flip_at outcome
value_register = refl

-- SB x0 to byte 0 of a word whose byte 3 has a flipped bit, and then LW of the word
byte_store : List ℕ
unfolding halting
byte_store = 0x001002b7 ∷ 0x0a028023 ∷ 0x0a02a403 ∷ halting

-- the byte store keeps what was wrong, and the load tells it
merged_store : outcome (program byte_store) (flip_at 1 (site.Mem 40 24)) 20 ≡ (Some 7, Some 6)
unfolding flips program byte_store halting flip_at outcome
merged_store = refl

-- the word is used as the load's transaction answers
merged_use : first_use core_parts (program byte_store) (flip_at 1 (site.Mem 40 24)) 20 ≡ Some 6
unfolding flips program byte_store halting flip_at
merged_use = refl

-- a kept answer of the data port
kept_answer : first_alert core_parts (program byte_store) (flip_at 6 (site.Answer 1 0)) 20 ≡ Some 6
unfolding flips program byte_store halting flip_at
kept_answer = refl
