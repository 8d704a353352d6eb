-- A step of the system of two cores is a step of the machine's system.
use Rattle.std.proofs.Common.{◌≡◌, ℕ, ◌+◌, Bool, true, false, List, None, refl, sym, ap, ap₂, ◌∙◌}
use Rattle.ibx_isa.specs.declared.bus.Req.{Req}
use Rattle.ibx_bus.specs.Memory.{MemoryState, memory_after, memory_next}
use Rattle.ibx_bus.specs.Port.{grants, port_next}
use Rattle.ibx_core.specs.declared.state.State.{State}
use Rattle.ibx_core.specs.Core.{Cycle, core_next, cycle_of, cycle_seen, cycle_with, is_minor, leaves, next_by}
use Rattle.ibx_core.specs.Inputs.{Inputs, inputs_of}
use Rattle.ibx_core.specs.Sights.{sight_of, sight_with}
use Rattle.ibx_core.specs.Wires.{InWires, OutWires}
use Rattle.ibx_time.specs.Settings.{Setup}
use Rattle.ibx_time_machine.specs.Core.{Out, core_out as machine_out}
use Rattle.ibx_time_machine.specs.System.{System, next_from, system_by, system_next}
use Rattle.ibx_time_machine.specs.Words.{put_reg}
use Rattle.ibx_system.specs.Core.{core_parts}
use Rattle.ibx_system.specs.System.{Whole, dgrant_of, fetch_of, igrant_of, lines_after, load_store_of, look, next}
use Rattle.ibx_system.specs.System.{output, registers_after, settle, tags_after}
use Rattle.ibx_time_system.specs.Cycles.{IsAddressed, SameOut, put_low}
use Rattle.ibx_time_system.specs.Projection.{settings_in}
use Rattle.ibx_time_system.proofs.Heard.{next_ungated}
use Rattle.ibx_time_system.proofs.Inputs.{input_is}
use Rattle.ibx_time_system.proofs.Outputs.{out_is}
use Rattle.ibx_time_system.proofs.Systems.{machine_system}

-- the grants end the cycle alone
granted_cycle : (x : State) (i : InWires) (igrant dgrant : Bool)
    → cycle_of x (inputs_of i) ≡ cycle_of x (inputs_of (record i { igrant = igrant; dgrant = dgrant }))
unfolding cycle_of cycle_seen cycle_with sight_of sight_with
granted_cycle x i igrant dgrant = refl

-- so the fields after it are those with the grants
granted_next : (x : State) (i : InWires) (igrant dgrant : Bool)
    → next_by (cycle_of x (inputs_of i)) x (record (inputs_of i) { igrant = igrant; dgrant = dgrant })
    ≡ core_next x (record i { igrant = igrant; dgrant = dgrant })
unfolding next_by leaves core_next
granted_next x i igrant dgrant =
    let j : InWires = record i { igrant = igrant; dgrant = dgrant } in
    ap (λ (c : Cycle). next_by c x (inputs_of j)) (granted_cycle x i igrant dgrant) ∙ sym (next_ungated x j)

-- a fetch doesn't store
unstored : (b : Bool) (m : MemoryState) (o : OutWires) → memory_after b m (fetch_of o) ≡ m
unfolding memory_next
unstored true m o = refl
unstored false m o = refl

module _ (w : Whole State) where
  -- main's wires out, and in
  abbrev wires : OutWires
  wires = output core_parts w.place w.main

  abbrev sees : InWires
  sees = look core_parts w.place w.main

  -- what the machine's core puts out
  abbrev pub puts : Out
  puts = machine_out w.main (inputs_of sees)

  -- the machine's core after the cycle, by the requests
  abbrev main_by : Req → Req → State
  main_by f l =
      next_by (cycle_of w.main (inputs_of sees)) w.main
      (record (inputs_of sees) { igrant = grants f.valid w.place.iport; dgrant = grants l.valid w.place.dport })

  -- the memory after a fetch
  abbrev fetched : Req → MemoryState
  fetched f = memory_after (grants f.valid w.place.iport) w.place.memory f

  -- the system after a step, by the requests and the words that are written
  abbrev made : State → Req → Req → List ℕ → List ℕ → List ℕ → MemoryState → System
  made main f l regs tags lines mem = record {
    main = main;
    regs = regs;
    tags = tags;
    lines = lines;
    mem = memory_after (grants l.valid w.place.dport) mem l;
    iport = port_next w.place.iport w.place.memory f;
    dport = port_next w.place.dport w.place.memory l;
    cycle = w.place.cycle + 1;
  }

  -- by what is put out, where the value that is written has 32 bits
  step_by : SameOut puts wires (is_minor w.main sees)
      → put_reg puts.write w.place.registers ≡ put_low puts.write w.place.registers
      → next_from (cycle_of w.main (inputs_of sees)) (inputs_of sees) (machine_system w)
      ≡ machine_system (next core_parts w)
  unfolding system_by next settle core_parts
  step_by o low =
      let fetch = o.fetch in
      let load = o.load_store in
      let regs = low ∙ o.registers w.place.registers in
      let tags = o.cache.tags w.place.tags in
      let lines = o.cache.lines w.place.lines in
      let main = granted_next w.main sees (igrant_of w.place wires) (dgrant_of w.place wires) in
      (λ t. made (main_by (fetch t) (load t)) (fetch t) (load t) (regs t) (tags t) (lines t) (fetched (fetch t)))
      ∙ ap₂ (λ (c : State) (m : MemoryState). made c (fetch_of wires) (load_store_of wires)
      (registers_after w.place.registers wires)
      (tags_after w.place.tags wires) (lines_after w.place.lines wires) m)
      main (unstored (igrant_of w.place wires) w.place.memory wires)

-- with the setup's settings and no flip
pub step_is : (s : Setup) (w : Whole State) → w.place.settings ≡ settings_in s → w.place.pending ≡ None
    → IsAddressed w.main.words
    → put_reg (puts w).write w.place.registers ≡ put_low (puts w).write w.place.registers
    → system_next s (machine_system w) ≡ machine_system (next core_parts w)
unfolding system_next core_parts
step_is s w e none addressed low =
    ap (λ (i : Inputs). next_from (cycle_of w.main i) i (machine_system w)) (input_is s w e none)
    ∙ step_by w (out_is w.main (look core_parts w.place w.main) addressed) low
