-- The view of a step's event doesn't depend on the cycle.
use Rattle.std.proofs.Common.{◌≡◌, ℕ, ◌+◌, ◌%◌, ◌^◌, not, Bool, true, false, List, Option, Some, None, refl, sym, ap}
use Rattle.std.proofs.Common.{◌∙◌, if◌then◌else◌}
use Rattle.ibx_isa.specs.declared.insn.Insn.{Insn}
use Rattle.ibx_isa.specs.declared.insn.Insn.TheVariants.{Lui, Auipc, Jal, Jalr, Branch, Load, Store, AluImm, Alu}
use Rattle.ibx_isa.specs.declared.insn.Insn.TheVariants.{MulDiv, Csr, Fence, FenceI, Ecall, Ebreak, Mret, Wfi}
use Rattle.ibx_isa.specs.declared.insn.LoadOp.{LoadOp}
use Rattle.ibx_isa.specs.declared.insn.CsrOp.{CsrOp}
use Rattle.ibx_isa.specs.declared.event.View.{View}
use Rattle.ibx_isa.specs.Views.{view_of, access_addr, fault_addr}
use Rattle.ibx_csr.specs.declared.name.Csr.{Csr as Register}
use Rattle.ibx_csr.specs.declared.name.Csr.TheVariants.{Mip, Mcycle, Mcycleh}
use Rattle.ibx_csr.specs.Table.{readable}
use Rattle.ibx_csr.specs.Values.{CsrValues, value_of, value_at, csr_read, csr_can_write, counters_after}
use Rattle.ibx_isa.specs.Portions.{size_of}
use Rattle.ibx_pmp.specs.declared.protection.AccessKind.{AccessKind}
use Rattle.ibx_pmp.specs.declared.protection.AccessKind.TheVariants.{Read, Write}
use Rattle.ibx_arch.specs.declared.done.Done.{Done}
use Rattle.ibx_arch.specs.declared.done.Done.TheVariants.{Retires, Traps}
use Rattle.ibx_arch.specs.declared.fetched.Fetched.{Fetched}
use Rattle.ibx_arch.specs.declared.fetched.Fetched.TheVariants.{Unsound, Instruction}
use Rattle.ibx_arch.specs.Access.{refused_at, error_at}
use Rattle.ibx_isa.specs.CsrWrites.{writes, written}
use Rattle.ibx_arch.specs.Effects.{Executed, execute, illegal, plain, following, load, load_with, store, store_with}
use Rattle.ibx_arch.specs.Effects.{csr_with, csr_access, return_from_trap}
use Rattle.ibx_arch.specs.Fetch.{fetch}
use Rattle.ibx_decoder.specs.Instructions.{instruction_of}
use Rattle.ibx_arch.specs.State.{State, reg, at_cycle}
use Rattle.ibx_arch.specs.Step.{Choice, Interrupt, Parcels, after_fetch, decoded, stepped_by, finished, instruction}
use Rattle.ibx_arch.specs.Step.{interrupted, operands, step_with}
use Rattle.ibx_time.specs.Settings.{Settings, lines_in}
use Rattle.ibx_time.proofs.Registers.{is_steady, readable_steady}
use Rattle.ibx_csr.specs.Modes.{may_wait}
use Rattle.ibx_csr.specs.Bits.{is_control_at}

-- a state whose cycle count is another
abbrev with_count : State → ℕ → ℕ → State
with_count s m c = record s { csrs = record s.csrs { mcycle = m }; stands = c }

-- the view of an instruction by how it ended
abbrev view_by : ℕ → ℕ → Option (ℕ × ℕ) → Done → View
view_by pc word ops (Retires r) =
    record { kind = 0; pc = pc; word = word; addr = access_addr r.mem; ctl = r.ctl; ops = ops; cause = 0; tval = 0 }
view_by pc word ops (Traps cause tval addr) =
    record {
      kind = 1;
      pc = pc;
      word = word;
      addr = fault_addr cause addr;
      ctl = None;
      ops = None;
      cause = cause;
      tval = tval;
    }

-- what is seen of it is that view
ended_view : (pc : ℕ) (regs : List ℕ) (c word : ℕ) (ops : Option (ℕ × ℕ)) (after : Executed) (d : Done)
    → view_of (stepped_by pc regs c word ops after d).event ≡ view_by pc word ops d
unfolding view_of
ended_view pc regs c word ops after (Retires r) = refl
ended_view pc regs c word ops after (Traps cause tval addr) = refl

-- a register that doesn't count by itself reads the same
steady_value : (v : CsrValues) (m n lines lines2 : ℕ) (c : Register) → is_steady (Some c) ≡ true
    → value_of (record v { mcycle = m }) c lines ≡ value_of (record v { mcycle = n }) c lines2
unfolding value_of
steady_value v m n l l2 Mip e = absurd (cc)
steady_value v m n l l2 Mcycle e = absurd (cc)
steady_value v m n l l2 Mcycleh e = absurd (cc)
steady_value v m n l l2 _ e = refl

-- ---- the rows, in one state with two cycle counts

module _ (s : State) (m n c d pc : ℕ) (ops : Option (ℕ × ℕ)) where
  abbrev Same : ℕ → Executed → Executed → Type 0
  Same word x y = view_by pc word ops x.done ≡ view_by pc word ops y.done

  -- one for loads and one for stores, by what fails
  load_same : (op : LoadOp) (rd addr next word : ℕ) (refused error : Option ℕ)
      → Same word (load_with (with_count s m c) op rd addr next refused error)
      (load_with (with_count s n d) op rd addr next refused error)
  load_same op rd addr next word (Some at) error = refl
  load_same op rd addr next word None (Some at) = refl
  load_same op rd addr next word None None = refl

  -- a store with the same refusal and the same error has one view at both counts
  store_same : (size addr value next word : ℕ) (refused error : Option ℕ)
      → Same word (store_with (with_count s m c) size addr value next refused error)
      (store_with (with_count s n d) size addr value next refused error)
  store_same size addr value next word (Some at) error = refl
  store_same size addr value next word None (Some at) = refl
  store_same size addr value next word None None = refl

  -- protection refuses the same accesses whatever the cycle count
  refused_same : (addr size : ℕ) (kind : AccessKind)
      → refused_at (with_count s m c).csrs addr size kind ≡ refused_at (with_count s n d).csrs addr size kind
  unfolding refused_at
  refused_same addr size kind = refl

  -- so a load has one view: what fails is the same at both counts
  load_row : (op : LoadOp) (rd addr next word : ℕ)
      → Same word (load (with_count s m c) op rd addr next) (load (with_count s n d) op rd addr next)
  unfolding load
  load_row op rd addr next word =
      load_same op rd addr next word (refused_at (with_count s m c).csrs addr (size_of op) Read)
      (error_at s.memory.ram addr (size_of op))
      ∙ ap (λ o. view_by pc word ops (load_with (with_count s n d) op rd addr next o
      (error_at s.memory.ram addr (size_of op))).done) (refused_same addr (size_of op) Read)

  -- a store has one view too, of its address and not of the value
  store_row : (size addr value next word : ℕ)
      → Same word (store (with_count s m c) size addr value next) (store (with_count s n d) size addr value next)
  unfolding store
  store_row size addr value next word =
      store_same size addr value next word (refused_at (with_count s m c).csrs addr size Write)
      (error_at s.memory.ram addr size)
      ∙ ap (λ o. view_by pc word ops (store_with (with_count s n d) size addr value next o
      (error_at s.memory.ram addr size)).done) (refused_same addr size Write)

  -- a read value is in the view where it is written to a control register
  csr_by : (op : CsrOp) (rd source word next v w : ℕ) (x y : CsrValues) (w1 w2 control : Bool)
      → (control ≡ true → v ≡ w)
      → Same word
      (if not w1 then plain (with_count s m c) rd v next else
      if not w2 then illegal (with_count s m c) word else
      record {
        done = Retires (record {
          rd = rd;
          value = v;
          mem = None;
          ctl = if control then Some (written op v source) else None;
          next_pc = next;
        });
        memory = s.memory;
        csrs = x;
      })
      (if not w1 then plain (with_count s n d) rd w next else
      if not w2 then illegal (with_count s n d) word else
      record {
        done = Retires (record {
          rd = rd;
          value = w;
          mem = None;
          ctl = if control then Some (written op w source) else None;
          next_pc = next;
        });
        memory = s.memory;
        csrs = y;
      })
  csr_by op rd source word next v w x y false w2 control e = refl
  csr_by op rd source word next v w x y true false control e = refl
  csr_by op rd source word next v w x y true true false e = refl
  csr_by op rd source word next v w x y true true true e =
      ap (λ z. view_by pc word ops (Retires
      (record { rd = rd; value = z; mem = None; ctl = Some (written op z source); next_pc = next }))) (e refl)

  -- so the CSR instructions have one view
  csr_found : (op : CsrOp) (rd src source addr word next l1 l2 : ℕ) (o : Option Register)
      → (is_control_at addr ≡ true → is_steady o ≡ true)
      → Same word (csr_with (with_count s m c) op rd src source addr word next (value_at (with_count s m c).csrs l1 o))
      (csr_with (with_count s n d) op rd src source addr word next (value_at (with_count s n d).csrs l2 o))
  unfolding csr_can_write
  csr_found op rd src source addr word next l1 l2 None e = refl
  csr_found op rd src source addr word next l1 l2 (Some r) e =
      csr_by op rd source word next (value_of (with_count s m c).csrs r l1) (value_of (with_count s n d).csrs r l2) _ _
      (writes op src) _ (is_control_at addr) (λ z. steady_value s.csrs m n l1 l2 r (e z))

  -- an access to a CSR has one view, since a control register reads the same at both counts
  csr_row : (op : CsrOp) (rd src source addr word next l1 l2 : ℕ)
      → Same word (csr_access (with_count s m c) op rd src source addr word next l1)
      (csr_access (with_count s n d) op rd src source addr word next l2)
  unfolding csr_access csr_read
  csr_row op rd src source addr word next l1 l2 =
      csr_found op rd src source addr word next l1 l2 (readable s.csrs.machine addr)
      (readable_steady s.csrs.machine addr)

  -- and so do MRET and WFI
  return_by : (word : ℕ) (machine : Bool) (x y : Executed) → Same word x y
      → Same word (if not machine then illegal (with_count s m c) word else x)
      (if not machine then illegal (with_count s n d) word else y)
  return_by word true x y e = e
  return_by word false x y e = refl

  -- MRET has one view in either mode
  return_row : (word : ℕ) → Same word (return_from_trap (with_count s m c) word)
      (return_from_trap (with_count s n d) word)
  unfolding return_from_trap
  return_row word = return_by word s.csrs.machine _ _ refl

  -- WFI has one view, whether it may wait or is illegal
  wait_by : (word next : ℕ) (may : Bool)
      → Same word (if may then plain (with_count s m c) 0 0 next else illegal (with_count s m c) word)
      (if may then plain (with_count s n d) 0 0 next else illegal (with_count s n d) word)
  wait_by word next true = refl
  wait_by word next false = refl

  -- so it is for every instruction, from its row up to its parcels
  row : (insn : Insn) (word length l1 l2 : ℕ)
      → Same word (execute (with_count s m c) insn word length l1) (execute (with_count s n d) insn word length l2)
  unfolding execute
  row (Lui rd imm) word length l1 l2 = refl
  row (Auipc rd imm) word length l1 l2 = refl
  row (Jal rd imm) word length l1 l2 = refl
  row (Jalr rd rs1 imm) word length l1 l2 = refl
  row (Branch op rs1 rs2 imm) word length l1 l2 = refl
  row (Load op rd rs1 imm) word length l1 l2 = load_row op rd ((reg s rs1 + imm) % 2 ^ 32) (following s length) word
  row (Store size rs1 rs2 imm) word length l1 l2 =
      store_row size ((reg s rs1 + imm) % 2 ^ 32) (reg s rs2) (following s length) word
  row (AluImm op rd rs1 imm) word length l1 l2 = refl
  row (Alu op rd rs1 rs2) word length l1 l2 = refl
  row (MulDiv op rd rs1 rs2) word length l1 l2 = refl
  row (Csr op rd src true addr) word length l1 l2 = csr_row op rd src src addr word (following s length) l1 l2
  row (Csr op rd src false addr) word length l1 l2 = csr_row op rd src (reg s src) addr word (following s length) l1 l2
  row Fence word length l1 l2 = refl
  row FenceI word length l1 l2 = refl
  row Ecall word length l1 l2 = refl
  row Ebreak word length l1 l2 = refl
  row Mret word length l1 l2 = return_row word
  row Wfi word length l1 l2 = wait_by word (following s length) (may_wait s.csrs)

-- ---- the step

module _ (s : State) (m n c d : ℕ) where
  -- a decoded word has one view at both counts, and so has a word that fits no row
  decoded_same : (word length l1 l2 : ℕ) (o : Option Insn)
      → view_of (decoded (with_count s m c) c word length l1 o).event
      ≡ view_of (decoded (with_count s n d) d word length l2 o).event
  unfolding finished operands
  decoded_same word length l1 l2 None =
      ended_view s.pc s.regs c word None (illegal (with_count s m c) word) (illegal (with_count s m c) word).done
      ∙ sym (ended_view s.pc s.regs d word None (illegal (with_count s n d) word)
      (illegal (with_count s n d) word).done)
  decoded_same word length l1 l2 (Some insn) =
      ended_view s.pc s.regs c word (operands s insn) (execute (with_count s m c) insn word length l1)
      (execute (with_count s m c) insn word length l1).done
      ∙ row s m n c d s.pc (operands s insn) insn word length l1 l2
      ∙ sym (ended_view s.pc s.regs d word (operands s insn) (execute (with_count s n d) insn word length l2)
      (execute (with_count s n d) insn word length l2).done)

  -- so it is for what was fetched, for the fetch itself and for parcels
  fetched_same : (l1 l2 : ℕ) (f : Fetched)
      → view_of (after_fetch (with_count s m c) c l1 f).event ≡ view_of (after_fetch (with_count s n d) d l2 f).event
  unfolding finished view_of
  fetched_same l1 l2 (Unsound addr) = refl
  fetched_same l1 l2 (Instruction word length) = decoded_same word length l1 l2 (instruction_of word)

  -- what two parcels fetch doesn't depend on the cycle count
  fetch_same : (first second : ℕ) → fetch (with_count s m c) first second ≡ fetch (with_count s n d) first second
  unfolding fetch
  fetch_same first second = refl

  instruction_same : (first second l1 l2 : ℕ)
      → view_of (instruction (with_count s m c) first second c l1).event
      ≡ view_of (instruction (with_count s n d) first second d l2).event
  unfolding instruction
  instruction_same first second l1 l2 =
      fetched_same l1 l2 (fetch (with_count s m c) first second)
      ∙ ap (λ f. view_of (after_fetch (with_count s n d) d l2 f).event) (fetch_same first second)

-- the cycle count that a state comes to
abbrev count_at : State → ℕ → ℕ
count_at s c = (at_cycle s c).csrs.mcycle

-- a state at a cycle is the same with its count moved
moved : (s : State) (c : ℕ) → at_cycle s c ≡ with_count s (count_at s c) c
unfolding counters_after
moved s c = refl

-- instructions and interrupts have the same view at any two cycles, and so has each step
parcels_same : (k : Settings) (s : State) (first second c d : ℕ)
    → view_of (step_with (lines_in k) s (Parcels first second) c).event
    ≡ view_of (step_with (lines_in k) s (Parcels first second) d).event
unfolding step_with
parcels_same k s first second c d =
    ap (λ x. view_of (instruction x first second c (lines_in k c)).event) (moved s c)
    ∙ instruction_same s (count_at s c) (count_at s d) c d first second (lines_in k c) (lines_in k d)
    ∙ ap (λ x. view_of (instruction x first second d (lines_in k d)).event) (sym (moved s d))

-- an interrupt has one view at any two cycles
interrupt_same : (k : Settings) (s : State) (number c d : ℕ)
    → view_of (step_with (lines_in k) s (Interrupt number) c).event
    ≡ view_of (step_with (lines_in k) s (Interrupt number) d).event
unfolding step_with interrupted view_of
interrupt_same k s number c d = refl

-- the view of a step doesn't depend on the cycle in which it is done
pub step_view : (k : Settings) (s : State) (choice : Choice) (c d : ℕ)
    → view_of (step_with (lines_in k) s choice c).event ≡ view_of (step_with (lines_in k) s choice d).event
step_view k s (Interrupt number) c d = interrupt_same k s number c d
step_view k s (Parcels first second) c d = parcels_same k s first second c d
