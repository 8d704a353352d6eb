-- The memory after a step is the memory before with the step's writes made in order.
use Rattle.std.proofs.Common.{◌≡◌, ℕ, ◌+◌, ◌%◌, ◌^◌, ◌∙◌, ◌&&◌, Bool, true, false, not, List, [], ◌∷◌, Option, Some}
use Rattle.std.proofs.Common.{None, refl, ap, if◌then◌else◌}
use Rattle.ibx_isa.specs.declared.insn.Insn.{Insn}
use Rattle.ibx_isa.specs.declared.insn.Insn.TheVariants.{Lui, Auipc, Jal, Jalr, Branch, Load, Store, AluImm, Alu}
use Rattle.ibx_isa.specs.declared.insn.Insn.TheVariants.{MulDiv, Csr, Fence, FenceI, Ecall, Ebreak, Mret, Wfi}
use Rattle.ibx_isa.specs.declared.insn.LoadOp.{LoadOp}
use Rattle.ibx_isa.specs.declared.insn.CsrOp.{CsrOp}
use Rattle.ibx_isa.specs.Portions.{portion_addr, portion_size, size_of}
use Rattle.ibx_pmp.specs.declared.protection.AccessKind.TheVariants.{Read, Write}
use Rattle.ibx_trap.specs.Traps.{leave_of}
use Rattle.ibx_csr.specs.Values.{csr_can_write, csr_read, csr_tick, csr_write, counters_after, trap_regs}
use Rattle.ibx_csr.specs.Values.{with_trap_regs}
use Rattle.ibx_arch.specs.declared.done.Done.{Done}
use Rattle.ibx_arch.specs.declared.done.Done.TheVariants.{Retires, Traps}
use Rattle.ibx_arch.specs.declared.fetched.Fetched.{Fetched}
use Rattle.ibx_arch.specs.declared.fetched.Fetched.TheVariants.{Unsound, Instruction}
use Rattle.ibx_arch.specs.Access.{error_at, has_second, refused_at, stored}
use Rattle.ibx_csr.specs.Bits.{is_control_at}
use Rattle.ibx_isa.specs.CsrWrites.{writes, written}
use Rattle.ibx_arch.specs.Effects.{Executed, csr_access, csr_with, execute, following, illegal, load, load_with, plain}
use Rattle.ibx_arch.specs.Effects.{return_from_trap, store, store_with, trap}
use Rattle.ibx_csr.specs.Modes.{may_wait}
use Rattle.ibx_arch.specs.Fetch.{fetch}
use Rattle.ibx_decoder.specs.Instructions.{instruction_of}
use Rattle.ibx_arch.specs.Laws.{WritesMemory}
use Rattle.ibx_arch.specs.Memory.{Memory, is_mapped, with_bytes}
use Rattle.ibx_arch.specs.State.{State, at_cycle, reg}
use Rattle.ibx_arch.specs.Step.{Interrupt, Parcels, after_fetch, decoded, stepped_by, finished, instruction}
use Rattle.ibx_arch.specs.Step.{interrupted, operands, step_with}
use Rattle.ibx_arch.specs.Writes.{after_writes, fetched_writes, granted_writes, insn_writes, step_writes, store_writes}
use Rattle.ibx_arch.specs.Writes.{unless_refused}

-- ---- a store

-- the portions of a store by what refuses or answers them, written one after another
stored_is : (memory : Memory) (addr size value : ℕ)
    → stored memory addr size value ≡ after_writes memory (granted_writes memory.ram addr size value)
unfolding stored after_writes
stored_is memory addr size value = by (has_second addr size && is_mapped memory.ram (portion_addr addr false))
  where
    by : (b : Bool)
        → (if b then with_bytes (with_bytes memory addr 0 (portion_size addr size false) value) addr
        (portion_size addr size false) size value else with_bytes memory addr 0 (portion_size addr size false) value)
        ≡ after_writes memory (
        if b
        then record { addr = addr; from = 0; to = portion_size addr size false; value = value }
        ∷ record { addr = addr; from = portion_size addr size false; to = size; value = value } ∷ []
        else record { addr = addr; from = 0; to = portion_size addr size false; value = value } ∷ [])
    by true = refl
    by false = refl

-- no writes leave memory as it is
none_written : (memory : Memory) → memory ≡ after_writes memory []
unfolding after_writes
none_written memory = refl

-- a store leaves memory with its writes made, by what refuses it and what doesn't answer
store_by : (s : State) (size addr value next : ℕ) (refused error : Option ℕ)
    → (store_with s size addr value next refused error).memory
    ≡ after_writes s.memory (unless_refused refused (granted_writes s.memory.ram addr size (value % 256 ^ size)))
store_by s size addr value next (Some at) error = none_written s.memory
store_by s size addr value next None (Some at) = stored_is s.memory addr size (value % 256 ^ size)
store_by s size addr value next None None = stored_is s.memory addr size (value % 256 ^ size)

-- so it does by the protection and the memory of the state
store_is : (s : State) (size addr value next : ℕ)
    → (store s size addr value next).memory ≡ after_writes s.memory (store_writes s size addr value)
unfolding store store_writes
store_is s size addr value next =
    store_by s size addr value next (refused_at s.csrs addr size Write) (error_at s.memory.ram addr size)

-- ---- the others leave memory

-- a load leaves memory, whether it retires or traps
load_by : (s : State) (op : LoadOp) (rd addr next : ℕ) (refused error : Option ℕ)
    → (load_with s op rd addr next refused error).memory ≡ s.memory
load_by s op rd addr next (Some at) error = refl
load_by s op rd addr next None (Some at) = refl
load_by s op rd addr next None None = refl

-- an access of a known CSR leaves memory: a read alone, an illegal write, and a write
csr_by : (s : State) (op : CsrOp) (rd addr source word next old : ℕ) (w1 w2 : Bool) (ctl : Option ℕ)
    → (
    if not w1 then plain s rd old next else
    if not w2 then illegal s word else
    record {
      done = Retires (record { rd = rd; value = old; mem = None; ctl = ctl; next_pc = next });
      memory = s.memory;
      csrs = csr_write (csr_tick s.csrs true (Some addr)) addr (written op old source);
    }).memory
    ≡ s.memory
csr_by s op rd addr source word next old false w2 ctl = refl
csr_by s op rd addr source word next old true false ctl = refl
csr_by s op rd addr source word next old true true ctl = refl

-- an access leaves memory whether its CSR is known or not
csr_found : (s : State) (op : CsrOp) (rd src source addr word next : ℕ) (o : Option ℕ)
    → (csr_with s op rd src source addr word next o).memory ≡ s.memory
csr_found s op rd src source addr word next None = refl
csr_found s op rd src source addr word next (Some old) =
    csr_by s op rd addr source word next old (writes op src) (csr_can_write s.csrs addr)
    (if is_control_at addr then Some (written op old source) else None)

-- an access leaves memory, whatever its CSR reads
csr_leaves : (s : State) (op : CsrOp) (rd src source addr word next lines : ℕ)
    → (csr_access s op rd src source addr word next lines).memory ≡ s.memory
unfolding csr_access
csr_leaves s op rd src source addr word next lines =
    csr_found s op rd src source addr word next (csr_read s.csrs addr lines)

-- MRET leaves memory, in either mode
return_by : (s : State) (word : ℕ) (machine : Bool)
    → (
    if not machine then illegal s word else
    record {
      done = Retires (record { rd = 0; value = 0; mem = None; ctl = None; next_pc = s.csrs.mepc });
      memory = s.memory;
      csrs = with_trap_regs (csr_tick s.csrs true None) (leave_of (trap_regs s.csrs));
    }).memory
    ≡ s.memory
return_by s word true = refl
return_by s word false = refl

-- a WFI leaves memory, whether it may wait or is illegal
wait_by : (s : State) (word next : ℕ) (may : Bool)
    → (if may then plain s 0 0 next else illegal s word).memory ≡ s.memory
wait_by s word next true = refl
wait_by s word next false = refl

-- so each instruction leaves memory with its writes made
row_writes : (s : State) (insn : Insn) (word length lines : ℕ)
    → (execute s insn word length lines).memory ≡ after_writes s.memory (insn_writes s (Some insn))
unfolding execute load return_from_trap
row_writes s (Lui rd imm) word length lines = none_written s.memory
row_writes s (Auipc rd imm) word length lines = none_written s.memory
row_writes s (Jal rd imm) word length lines = none_written s.memory
row_writes s (Jalr rd rs1 imm) word length lines = none_written s.memory
row_writes s (Branch op rs1 rs2 imm) word length lines = none_written s.memory
row_writes s (Load op rd rs1 imm) word length lines =
    let addr : ℕ = (reg s rs1 + imm) % 2 ^ 32 in
    load_by s op rd addr (following s length) (refused_at s.csrs addr (size_of op) Read)
    (error_at s.memory.ram addr (size_of op)) ∙ none_written s.memory
row_writes s (Store size rs1 rs2 imm) word length lines =
    store_is s size ((reg s rs1 + imm) % 2 ^ 32) (reg s rs2) (following s length)
row_writes s (AluImm op rd rs1 imm) word length lines = none_written s.memory
row_writes s (Alu op rd rs1 rs2) word length lines = none_written s.memory
row_writes s (MulDiv op rd rs1 rs2) word length lines = none_written s.memory
row_writes s (Csr op rd src true addr) word length lines =
    csr_leaves s op rd src src addr word (following s length) lines ∙ none_written s.memory
row_writes s (Csr op rd src false addr) word length lines =
    csr_leaves s op rd src (reg s src) addr word (following s length) lines ∙ none_written s.memory
row_writes s Fence word length lines = none_written s.memory
row_writes s FenceI word length lines = none_written s.memory
row_writes s Ecall word length lines = none_written s.memory
row_writes s Ebreak word length lines = none_written s.memory
row_writes s Mret word length lines = return_by s word s.csrs.machine ∙ none_written s.memory
row_writes s Wfi word length lines = wait_by s word (following s length) (may_wait s.csrs) ∙ none_written s.memory

-- ---- the step

-- so it is for the state after the instruction, from how it ended up to what was fetched
ended_memory : (pc : ℕ) (regs : List ℕ) (cycle word : ℕ) (ops : Option (ℕ × ℕ)) (after : Executed) (done : Done)
    → (stepped_by pc regs cycle word ops after done).next.memory ≡ after.memory
ended_memory pc regs cycle word ops after (Retires r) = refl
ended_memory pc regs cycle word ops after (Traps cause tval addr) = refl

-- the state after a step has the memory that the instruction left
finished_memory : (pc : ℕ) (regs : List ℕ) (cycle word : ℕ) (ops : Option (ℕ × ℕ)) (x : Executed)
    → (finished pc regs cycle word ops x).next.memory ≡ x.memory
unfolding finished
finished_memory pc regs cycle word ops x = ended_memory pc regs cycle word ops x x.done

-- a decoded word leaves memory with its writes made, and one that fits no row makes none
decoded_writes : (s : State) (cycle word length lines : ℕ) (o : Option Insn)
    → (decoded s cycle word length lines o).next.memory ≡ after_writes s.memory (insn_writes s o)
decoded_writes s cycle word length lines None =
    finished_memory s.pc s.regs cycle word None (illegal s word) ∙ none_written s.memory
decoded_writes s cycle word length lines (Some insn) =
    finished_memory s.pc s.regs cycle word (operands s insn) (execute s insn word length lines)
    ∙ row_writes s insn word length lines

-- what was fetched leaves memory with its writes made, and an unsound parcel makes none
fetch_writes : (s : State) (cycle lines : ℕ) (f : Fetched)
    → (after_fetch s cycle lines f).next.memory ≡ after_writes s.memory (fetched_writes s f)
fetch_writes s cycle lines (Unsound addr) =
    finished_memory s.pc s.regs cycle 0 None (trap s 1 addr 0) ∙ none_written s.memory
fetch_writes s cycle lines (Instruction word length) = decoded_writes s cycle word length lines (instruction_of word)

-- the counters change no write
moved_store : (s : State) (cycle size addr value : ℕ)
    → store_writes (at_cycle s cycle) size addr value ≡ store_writes s size addr value
unfolding store_writes refused_at counters_after
moved_store s cycle size addr value = refl

-- so an instruction has the same writes at each cycle
moved_insn : (s : State) (cycle : ℕ) (o : Option Insn) → insn_writes (at_cycle s cycle) o ≡ insn_writes s o
moved_insn s cycle None = refl
moved_insn s cycle (Some (Lui rd imm)) = refl
moved_insn s cycle (Some (Auipc rd imm)) = refl
moved_insn s cycle (Some (Jal rd imm)) = refl
moved_insn s cycle (Some (Jalr rd rs1 imm)) = refl
moved_insn s cycle (Some (Branch op rs1 rs2 imm)) = refl
moved_insn s cycle (Some (Load op rd rs1 imm)) = refl
moved_insn s cycle (Some (Store size rs1 rs2 imm)) = moved_store s cycle size ((reg s rs1 + imm) % 2 ^ 32) (reg s rs2)
moved_insn s cycle (Some (AluImm op rd rs1 imm)) = refl
moved_insn s cycle (Some (Alu op rd rs1 rs2)) = refl
moved_insn s cycle (Some (MulDiv op rd rs1 rs2)) = refl
moved_insn s cycle (Some (Csr op rd src imm addr)) = refl
moved_insn s cycle (Some Fence) = refl
moved_insn s cycle (Some FenceI) = refl
moved_insn s cycle (Some Ecall) = refl
moved_insn s cycle (Some Ebreak) = refl
moved_insn s cycle (Some Mret) = refl
moved_insn s cycle (Some Wfi) = refl

-- and so has what was fetched
moved_fetched : (s : State) (cycle : ℕ) (f : Fetched) → fetched_writes (at_cycle s cycle) f ≡ fetched_writes s f
moved_fetched s cycle (Unsound addr) = refl
moved_fetched s cycle (Instruction word length) = moved_insn s cycle (instruction_of word)

-- the counters' move changes nothing that is fetched
moved_fetch : (s : State) (cycle first second : ℕ) → fetch (at_cycle s cycle) first second ≡ fetch s first second
unfolding fetch counters_after
moved_fetch s cycle first second = refl

-- so every step with a choice leaves memory with its writes made
pub writes_memory : WritesMemory
unfolding step_with step_writes instruction interrupted
writes_memory lines s (Interrupt number) cycle = none_written s.memory
writes_memory lines s (Parcels first second) cycle =
    fetch_writes (at_cycle s cycle) cycle (lines cycle) (fetch (at_cycle s cycle) first second)
    ∙ ap (after_writes s.memory) (moved_fetched s cycle (fetch (at_cycle s cycle) first second)
    ∙ ap (fetched_writes s) (moved_fetch s cycle first second))
