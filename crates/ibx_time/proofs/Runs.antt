-- Forms for runs that are computed: small programs, and the events and requests that are expected of them.
use Rattle.std.specs.Prelude.{◌≡◌, ℕ, zero, suc, ◌+◌, ◌/◌, ◌%◌, true, false, List, [], ◌∷◌, length, map, if◌then◌else◌}
use Rattle.std.specs.Prelude.{Option, Some, None}
use Rattle.ibx_bits.specs.Bytes.{bytes_number, bits_number}
use Rattle.ibx_isa.specs.declared.bus.Req.{Req}
use Rattle.ibx_isa.specs.declared.insn.MulKind.{MulKind}
use Rattle.ibx_isa.specs.declared.insn.MulKind.TheVariants.{Fast}
use Rattle.ibx_isa.specs.declared.event.Access.{Access}
use Rattle.ibx_isa.specs.declared.event.Event.{Event}
use Rattle.ibx_isa.specs.declared.event.Event.TheVariants.{Retire, Trap, Irq}
use Rattle.ibx_isa.specs.Alu.{alu_of, branch_of}
use Rattle.ibx_isa.specs.Cost.{md_cost_of}
use Rattle.ibx_isa.specs.Multiply.{md_value}
use Rattle.ibx_isa.specs.Views.{view_of}
use Rattle.ibx_isa.specs.Portions.{loaded, lanes_of, gather_of}
use Rattle.ibx_isa.specs.Wires.{request_of}
use Rattle.ibx_elf.specs.Image.{Placed, LoadedBytes, image_byte}
use Rattle.ibx_decoder.specs.Instructions.{instruction_of}
use Rattle.ibx_decoder.specs.Compressed.{expand_of}
use Rattle.ibx_decoder.specs.Rows.{decode_of}
use Rattle.ibx_plan.specs.Plan.{PlanValue}
use Rattle.ibx_plan.specs.declared.entry.Change.{Change}
use Rattle.ibx_plan.specs.declared.site.Wait.{Wait}
use Rattle.ibx_secded.specs.Code.{weight, numbers_of_weight, columns, column, checks, encode_of}
use Rattle.ibx_dummy.specs.Dummies.{dummy_word}
use Rattle.ibx_pmp.specs.Ranges.{allowed}
use Rattle.ibx_trap.specs.Interrupts.{pending_of}
use Rattle.ibx_trap.specs.Traps.{enter_of, enter_target, leave_of}
use Rattle.ibx_csr.specs.Table.{csr_of}
use Rattle.ibx_csr.specs.Values.{csr_reset, value_of, csr_read, put_value, csr_can_write, csr_write, csr_tick}
use Rattle.ibx_csr.specs.Values.{counters_after, with_trap_regs}
use Rattle.ibx_bus.specs.PortTimes.{waits_of, grant_time, answer_time}
use Rattle.ibx_arch.specs.Access.{refused_at, error_at, stored}
use Rattle.ibx_arch.specs.Effects.{load, store, csr_access, return_from_trap, execute}
use Rattle.ibx_arch.specs.Fetch.{fetch}
use Rattle.ibx_arch.specs.Memory.{with_bytes, image_memory}
use Rattle.ibx_arch.specs.Step.{operands, finished, instruction, interrupted, reset_state, step_with}
use Rattle.ibx_time.specs.Settings.{Setup}
use Rattle.ibx_time.specs.History.{story, brought_parcels, words_there, admission, item_at, access_at, taken}
use Rattle.ibx_time.specs.History.{continued, event_at, told, up_to_halt}
use Rattle.ibx_time.specs.BusLines.{BusLine, bus_line, wires_at}
use Rattle.ibx_time.specs.Chains.{story_after}
use Rattle.ibx_time.specs.Controls.{ctl_after}
use Rattle.ibx_time.specs.Dummies.{dummy_cost}
use Rattle.ibx_time.specs.Items.{retired_item, item_of, dummy_item}
use Rattle.ibx_time.specs.Memories.{memory_at, written_by, sent_by}
use Rattle.ibx_time.specs.Requests.{enabled_at, is_walked, is_cached, none_between, last_fill, is_present, found_slot}
use Rattle.ibx_time.specs.Requests.{victim, fill_grant, request_by}
use Rattle.ibx_time.specs.Search.{first_from}
use Rattle.ibx_time.specs.Shown.{shown_of}
use Rattle.ibx_time.specs.Streams.{gate, past, issue, words, last_of, redirected}
use Rattle.ibx_time.specs.Times.{made_by, done_by, done_of, kind_at, has_answered, admitted, after_event, first_times}

-- ---- what is opened to work a run out

-- the steps of the architecture, and codewords
unfoldable pub steps : ℕ
unfolding step_with refused_at error_at stored load store csr_access return_from_trap execute fetch instruction_of
    with_bytes image_memory operands finished instruction interrupted reset_state alu_of branch_of md_cost_of md_value
    view_of csr_of csr_reset value_of csr_read put_value csr_can_write csr_write csr_tick counters_after
    with_trap_regs pending_of enter_of enter_target leave_of allowed bytes_number bits_number loaded lanes_of
    gather_of request_of expand_of decode_of image_byte lib.Count.count_trailing_zeros lib.Count.count_leading_zeros
    weight numbers_of_weight columns column checks encode_of
steps = 0

-- the time equations
unfoldable pub equations : ℕ
unfolding wires_at bus_line story_after ctl_after dummy_word dummy_cost brought_parcels words_there admission item_at
    access_at taken continued event_at told up_to_halt retired_item item_of dummy_item memory_at written_by sent_by
    enabled_at is_walked is_cached none_between last_fill is_present found_slot victim fill_grant request_by
    first_from shown_of gate past issue words last_of redirected made_by done_by done_of kind_at has_answered admitted
    after_event first_times waits_of grant_time answer_time
equations = 0

-- ---- what is run

-- words as their bytes, the lowest first
abbrev pub bytes_of : List ℕ → List ℕ
bytes_of [] = []
bytes_of (w ∷ ws) = w % 256 ∷ w / 256 % 256 ∷ w / 65536 % 256 ∷ w / 16777216 % 256 ∷ bytes_of ws

-- words from an address on
abbrev pub at : ℕ → List ℕ → LoadedBytes
at addr ws = record { addr = addr; bytes = bytes_of ws }

-- the image of segments, whose entry is 0x00100080
abbrev pub placed : List LoadedBytes → Placed
placed segments = record { ram = record { base = 0x100000; size = 0x100000 }; entry = 0x100080; segments = segments }

-- the image of these words from the entry on
abbrev pub program : List ℕ → Placed
program ws = placed (at 0x100080 ws ∷ [])

-- the waits of fetches, those of loads and stores, and the changes of the interrupt lines
abbrev pub plan : List Wait → List Wait → List Change → PlanValue
plan iwaits dwaits changes = record { iwaits = iwaits; dwaits = dwaits; changes = changes; flip = None }

-- no waits, no changes and no flip
abbrev pub no_plan : PlanValue
no_plan = plan [] [] []

-- the waits of a transaction before its grant and before its answer
abbrev pub wait : ℕ → ℕ → Wait
wait grant answer = record { grant = grant; answer = answer }

-- the interrupt lines from a cycle on
abbrev pub lines : ℕ → ℕ → Change
lines cycle mask = record { cycle = cycle; mask = mask }

-- the words of a program's end: LUI x6, ADDI x7 and the word store that halts
abbrev pub halting : List ℕ
halting = 0x00020337 ∷ 0x00100393 ∷ 0x00732423 ∷ []

-- ---- the events

-- What a printed line of an event says: the cycle, the program counter, then the word and the register or the bytes
-- that changed, the trap's cause and value, or the interrupt's cause.
pub data Line : Type 0 where
  Retired : (cycle pc word : ℕ) → Line
  Wrote : (cycle pc word rd value : ℕ) → Line
  Stored : (cycle pc word addr value size : ℕ) → Line
  Trapped : (cycle pc cause tval : ℕ) → Line
  Interrupted : (cycle pc cause : ℕ) → Line

-- the line of an instruction that retires, by its parts in their order
abbrev pub retired : ℕ → ℕ → ℕ → ℕ → ℕ → Option Access → Line
retired cycle pc word (suc n) value mem = Wrote cycle pc word (suc n) value
retired cycle pc word zero value None = Retired cycle pc word
retired cycle pc word zero value (Some a) =
    if a.store then Stored cycle pc word a.addr a.value a.size else Retired cycle pc word

-- the line of an event
abbrev pub line_of : Event → Line
line_of (Retire cycle pc word rd value mem ctl ops) = retired cycle pc word rd value mem
line_of (Trap cycle pc word cause tval addr) = Trapped cycle pc cause tval
line_of (Irq cycle pc cause) = Interrupted cycle pc cause

-- the lines of the end from a program counter on, in these cycles
abbrev pub halted : ℕ → ℕ → ℕ → ℕ → List Line
halted pc first second third =
    Wrote first pc 0x00020337 6 0x00020000 ∷ Wrote second (pc + 4) 0x00100393 7 0x00000001
    ∷ Stored third (pc + 8) 0x00732423 0x00020008 0x00000001 4 ∷ []

-- a run, and the lines of its story below a cycle
pub record Example : Type 0 where
  pub setup : Setup
  pub limit : ℕ
  pub lines : List Line

-- a run with the fast multiplier
abbrev pub run : Placed → PlanValue → ℕ → List Line → Example
run image plan limit lines =
    record { setup = record { image = image; mul = Fast; plan = plan }; limit = limit; lines = lines }

-- the same with another one
abbrev pub with_multiplier : MulKind → Example → Example
with_multiplier mul x = record x { setup = record x.setup { mul = mul } }

-- each of these runs has its lines below its cycle
unfoldable pub Agree : List Example → Type 0
unfolding steps equations
Agree rows = map (λ x. map line_of (story x.setup x.limit)) rows ≡ map (λ x. x.lines) rows

-- ---- the wires

-- the wires of a port without a request
abbrev pub rests : Req
rests = record { valid = false; write = false; be = 0; addr = 0; word = 0 }

-- no request on either port
abbrev pub idle : BusLine
idle = record { fetch = rests; load_store = rests }

-- a fetch of the word at this address, and no request on the other port
abbrev pub fetches : ℕ → BusLine
fetches addr = record idle { fetch = record { valid = true; write = false; be = 15; addr = addr; word = 0 } }

-- with a load of the enabled bytes of a word on the other port
abbrev pub loads : ℕ → ℕ → BusLine → BusLine
loads addr enables x =
    record x { load_store = record { valid = true; write = false; be = enables; addr = addr; word = 0 } }

-- with a store of the enabled bytes of a word, as its codeword
abbrev pub stores : ℕ → ℕ → ℕ → BusLine → BusLine
stores addr enables word x =
    record x { load_store = record { valid = true; write = true; be = enables; addr = addr; word = word } }

-- the wires of both ports in so many cycles from one on
abbrev pub wires_from : Setup → ℕ → ℕ → List BusLine
wires_from s cycle zero = []
wires_from s cycle (suc n) = bus_line s cycle ∷ wires_from s (cycle + 1) n

-- a run, and the wires of its cycles from one on
pub record BusExample : Type 0 where
  pub setup : Setup
  pub from : ℕ
  pub lines : List BusLine

-- a run with the fast multiplier
abbrev pub wires : Placed → PlanValue → ℕ → List BusLine → BusExample
wires image plan from lines =
    record { setup = record { image = image; mul = Fast; plan = plan }; from = from; lines = lines }

-- each of these runs has its wires
unfoldable pub HaveWires : List BusExample → Type 0
unfolding steps equations
HaveWires rows = map (λ x. wires_from x.setup x.from (length x.lines)) rows ≡ map (λ x. x.lines) rows
