-- The system of two cores as the machine's: main with the words round it, without the shadow and the delayed pairs.
use Rattle.ibx_core.specs.declared.state.State.{State}
use Rattle.ibx_time_machine.specs.System.{System}
use Rattle.ibx_system.specs.System.{Place, Whole}

-- a core with the words round it
abbrev pub system_in : State → Place → System
system_in x e = record {
  main = x;
  regs = e.registers;
  tags = e.tags;
  lines = e.lines;
  mem = e.memory;
  iport = e.iport;
  dport = e.dport;
  cycle = e.cycle;
}

-- main with them
abbrev pub machine_system : Whole State → System
machine_system w = system_in w.main w.place
