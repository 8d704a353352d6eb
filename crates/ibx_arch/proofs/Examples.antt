-- Steps, computed: an interrupt, a gap of the counters, and the writes of stores.
use Rattle.std.specs.Prelude.{◌≡◌, ℕ, ◌==◌, Bool, true, [], ◌∷◌, if◌then◌else◌, replicate, refl, Option, Some, None}
use Rattle.ibx_isa.specs.declared.event.Event.{Event}
use Rattle.ibx_isa.specs.declared.event.Event.TheVariants.{Irq, Retire, Trap}
use Rattle.ibx_decoder.specs.Compressed.{expand_of}
use Rattle.ibx_decoder.specs.Rows.{decode_of}
use Rattle.ibx_pmp.specs.Ranges.{allowed}
use Rattle.ibx_trap.specs.Interrupts.{pending_of}
use Rattle.ibx_trap.specs.Traps.{enter_of, enter_target}
use Rattle.ibx_csr.specs.Table.{csr_of}
use Rattle.ibx_csr.specs.Values.{CsrValues, counters_after, csr_can_write, csr_read, csr_reset, csr_tick, value_of}
use Rattle.ibx_csr.specs.Values.{with_trap_regs}
use Rattle.ibx_arch.specs.Access.{error_at, refused_at}
use Rattle.ibx_arch.specs.Effects.{csr_access, execute, store}
use Rattle.ibx_arch.specs.Fetch.{fetch}
use Rattle.ibx_decoder.specs.Instructions.{instruction_of}
use Rattle.ibx_arch.specs.State.{State}
use Rattle.ibx_arch.specs.Step.{Interrupt, Parcels, Stepped, arch_step, finished, instruction, interrupted, operands}
use Rattle.ibx_arch.specs.Step.{step_with, takes_choice}
use Rattle.ibx_arch.specs.Writes.{step_writes, store_writes}

-- RAM from 0x00100000 on, of 1 MiB, and the counters at cycle 3. Interrupts are enabled, the timer's (number 7) among
-- them.
-- The handlers begin at 0x00100000.
abbrev values : CsrValues
values = record (csr_reset 0x100080) { mstatus = 0x8; mie = 0x80; mcycle = 3; minstret = 1 }

-- the state in which the examples begin
abbrev start : State
start = record {
  pc = 0x100084;
  regs = replicate 32 0;
  memory = record { ram = record { base = 0x100000; size = 0x100000 }; byte = λ a. 0 };
  csrs = values;
  stands = 3;
}

-- the timer's line is high in cycle 3 alone
abbrev timer : ℕ → ℕ
timer cycle = if cycle == 3 then 0x80 else 0

-- what is looked at after a step
record Seen : Type 0 where
  event : Event
  pc : ℕ
  machine : Bool
  mstatus : ℕ
  mepc : ℕ
  mcause : ℕ
  mtval : ℕ
  mcycle : ℕ
  minstret : ℕ
  stands : ℕ

-- the event and the registers of a step, where there is one
abbrev seen : Option Stepped → Option Seen
seen None = None
seen (Some s) = Some (record {
  event = s.event;
  pc = s.next.pc;
  machine = s.next.csrs.machine;
  mstatus = s.next.csrs.mstatus;
  mepc = s.next.csrs.mepc;
  mcause = s.next.csrs.mcause;
  mtval = s.next.csrs.mtval;
  mcycle = s.next.csrs.mcycle;
  minstret = s.next.csrs.minstret;
  stands = s.next.stands;
})

-- The interrupt is taken at cycle 4 by the line of cycle 3: it goes to the base of mtvec plus four times its number;
-- mepc is the address of the instruction that didn't run, mcause has bit 31 and the number, mtval is 0, MPIE takes
-- MIE, and MPP the mode.
taken : seen (arch_step timer start (Interrupt 7) 4)
    ≡ Some (record {
      event = Irq 4 0x100084 7;
      pc = 0x10001c;
      machine = true;
      mstatus = 0x1880;
      mepc = 0x100084;
      mcause = 0x80000007;
      mtval = 0;
      mcycle = 5;
      minstret = 1;
      stands = 5;
    })
unfolding arch_step takes_choice step_with interrupted pending_of enter_of enter_target csr_reset csr_tick
    counters_after with_trap_regs
taken = refl

-- not by the line of its own cycle, nor by a line that has gone, nor with another number
early : seen (arch_step timer start (Interrupt 7) 3) ≡ None
unfolding arch_step takes_choice pending_of csr_reset
early = refl

-- at cycle 5 it is too late: the line was high in cycle 3, and not in cycle 4
late : seen (arch_step timer start (Interrupt 7) 5) ≡ None
unfolding arch_step takes_choice pending_of csr_reset
late = refl

-- the timer's line makes interrupt 7 pending, and not interrupt 11
other : seen (arch_step timer start (Interrupt 11) 4) ≡ None
unfolding arch_step takes_choice pending_of csr_reset
other = refl

-- A gap of the counters: the state stands at cycle 3 and steps at 7. `csrrs x5, mcycle, x0` reads 7, and mcycle is 8
-- after it.
gap : seen (arch_step timer start (Parcels 0x22f3 0xb000) 7)
    ≡ Some (record {
      event = Retire 7 0x100084 0xb00022f3 5 7 None None (Some (0, 0));
      pc = 0x100088;
      machine = true;
      mstatus = 0x8;
      mepc = 0;
      mcause = 0;
      mtval = 0;
      mcycle = 8;
      minstret = 2;
      stands = 8;
    })
unfolding arch_step takes_choice step_with instruction fetch instruction_of decode_of expand_of allowed operands
    finished execute csr_access csr_read csr_of value_of csr_can_write csr_reset csr_tick counters_after
    lib.Count.count_trailing_zeros
gap = refl

-- A store of a word whose first two bytes are the last of RAM: both its portions are written, and the second meets an
-- error.
abbrev storing : ℕ → State
storing addr = record start { regs = 0 ∷ 0 ∷ 0 ∷ 0 ∷ 0 ∷ 0 ∷ addr ∷ 0x12345678 ∷ replicate 24 0 }

-- its writes are the two bytes at the end of RAM and the two past it, in this order
crossing : step_writes (storing 0x1ffffe) (Parcels 0x2023 0x73)
    ≡ record { addr = 0x1ffffe; from = 0; to = 2; value = 0x12345678 }
    ∷ record { addr = 0x1ffffe; from = 2; to = 4; value = 0x12345678 } ∷ []
unfolding step_writes store_writes fetch instruction_of decode_of expand_of allowed refused_at csr_reset
    lib.Count.count_trailing_zeros
crossing = refl

-- the event of a step, where there is one
abbrev event_of : Option Stepped → Option Event
event_of None = None
event_of (Some s) = Some s.event

-- its event is a store fault with the second portion's address in tval, and that of the access
crossing_fault : event_of (arch_step timer (storing 0x1ffffe) (Parcels 0x2023 0x73) 4)
    ≡ Some (Trap 4 0x100084 0x00732023 7 0x200000 0x1ffffe)
unfolding arch_step takes_choice step_with instruction fetch instruction_of decode_of expand_of allowed operands
    finished execute store refused_at error_at csr_reset csr_tick counters_after lib.Count.count_trailing_zeros
crossing_fault = refl

-- a store where no memory answers writes its first portion alone; a halfword's value is cut to its bytes
outside : step_writes (storing 0x1ffffe00) (Parcels 0x1023 0x73)
    ≡ record { addr = 0x1ffffe00; from = 0; to = 2; value = 0x5678 } ∷ []
unfolding step_writes store_writes fetch instruction_of decode_of expand_of allowed refused_at csr_reset
    lib.Count.count_trailing_zeros
outside = refl
