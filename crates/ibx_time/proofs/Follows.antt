-- The control registers of the times are those of the architecture's state, event by event.
use Rattle.std.proofs.Common.{◌≡◌, ℕ, ◌+◌, ◌-◌, ◌%◌, ◌^◌, not, Bool, true, false, List, Option}
use Rattle.std.proofs.Common.{Some, None, refl, sym, ap, ◌∙◌, if◌then◌else◌}
use Rattle.ibx_isa.specs.declared.insn.Insn.{Insn}
use Rattle.ibx_isa.specs.declared.insn.Insn.TheVariants.{Lui, Auipc, Jal, Jalr, Branch, Load, Store, AluImm, Alu}
use Rattle.ibx_isa.specs.declared.insn.Insn.TheVariants.{MulDiv, Csr, Fence, FenceI, Ecall, Ebreak, Mret, Wfi}
use Rattle.ibx_isa.specs.declared.insn.LoadOp.{LoadOp}
use Rattle.ibx_isa.specs.declared.insn.CsrOp.{CsrOp}
use Rattle.ibx_isa.specs.Views.{view_of}
use Rattle.ibx_csr.specs.Values.{CsrValues, csr_read, csr_can_write, csr_write, csr_tick, counters_after, trap_regs}
use Rattle.ibx_csr.specs.Values.{with_trap_regs}
use Rattle.ibx_isa.specs.Portions.{size_of}
use Rattle.ibx_trap.specs.Traps.{enter_of, leave_of}
use Rattle.ibx_pmp.specs.declared.protection.AccessKind.TheVariants.{Read, Write}
use Rattle.ibx_arch.specs.declared.done.Done.{Done}
use Rattle.ibx_arch.specs.declared.done.Done.TheVariants.{Retires, Traps}
use Rattle.ibx_arch.specs.declared.fetched.Fetched.{Fetched}
use Rattle.ibx_arch.specs.declared.fetched.Fetched.TheVariants.{Unsound, Instruction}
use Rattle.ibx_arch.specs.Access.{refused_at, error_at}
use Rattle.ibx_isa.specs.CsrWrites.{writes, written}
use Rattle.ibx_arch.specs.Effects.{Executed, execute, trap, illegal, plain, following, load, load_with, store}
use Rattle.ibx_arch.specs.Effects.{store_with, csr_with, csr_access, return_from_trap}
use Rattle.ibx_arch.specs.Fetch.{fetch}
use Rattle.ibx_decoder.specs.Instructions.{instruction_of}
use Rattle.ibx_arch.specs.State.{State, reg, at_cycle}
use Rattle.ibx_arch.specs.Step.{Choice, Interrupt, Parcels, after_fetch, decoded, stepped_by, finished, instruction}
use Rattle.ibx_arch.specs.Step.{interrupted, operands, step_with}
use Rattle.ibx_time.specs.Settings.{Settings, Setup, settings_of, lines_in}
use Rattle.ibx_time.specs.Controls.{Ctl, ctl_of, ctl_after, ctl_entered, ctl_left, ctl_retired, ctl_written}
use Rattle.ibx_time.specs.Items.{Item}
use Rattle.ibx_time.specs.Times.{admitted, after_event}
use Rattle.ibx_time.specs.History.{Story, view_with, taken, continued, choice_at, item_at, done_at, ended_by}
use Rattle.ibx_time.proofs.Controls.{ctl_of-counters, ctl_of-tick, ctl_of-enter, ctl_of-write, ctl_of-other}
use Rattle.ibx_time.proofs.SameViews.{step_view}
use Rattle.ibx_time.proofs.Seen.{taken_state}
use Rattle.ibx_csr.specs.Modes.{may_wait}
use Rattle.ibx_csr.specs.Bits.{is_control_at}

-- the registers after an instruction, by how it ended
abbrev csrs_by : ℕ → CsrValues → Done → CsrValues
csrs_by pc v (Retires r) = v
csrs_by pc v (Traps cause tval addr) = with_trap_regs v (enter_of (trap_regs v) pc cause false tval)

-- the control registers after it, by how it ended, and those of the view
abbrev left_by : Ctl → Option Insn → Done → Ctl
left_by c o (Retires r) = ctl_retired c o r.ctl
left_by c o (Traps cause tval addr) = ctl_entered c false

-- the state after an instruction has the registers by how it ended, and its view tells the control registers
ended_csrs : (pc : ℕ) (regs : List ℕ) (c word : ℕ) (ops : Option (ℕ × ℕ)) (after : Executed) (d : Done)
    → (stepped_by pc regs c word ops after d).next.csrs ≡ csrs_by pc after.csrs d
ended_csrs pc regs c word ops after (Retires r) = refl
ended_csrs pc regs c word ops after (Traps cause tval addr) = refl

-- the view says what is left of the control registers, by a retirement or by a trap
ended_ctl : (k : Ctl) (pc : ℕ) (regs : List ℕ) (c word : ℕ) (ops : Option (ℕ × ℕ)) (after : Executed) (d : Done)
    → ctl_after k (view_of (stepped_by pc regs c word ops after d).event) ≡ left_by k (instruction_of word) d
unfolding view_of ctl_after
ended_ctl k pc regs c word ops after (Retires r) = refl
ended_ctl k pc regs c word ops after (Traps cause tval addr) = refl

-- ---- the rows

module _ (s : State) (pc : ℕ) where
  abbrev Follows : Option Insn → Executed → Type 0
  Follows o x = ctl_of (csrs_by pc x.csrs x.done) ≡ left_by (ctl_of s.csrs) o x.done

  -- a trap, and counters that move, leave the registers that the view says
  trap_follows : (o : Option Insn) (cause tval addr : ℕ) → Follows o (trap s cause tval addr)
  trap_follows o cause tval addr =
      ctl_of-enter (csr_tick s.csrs false None) pc cause false tval
      ∙ ap (λ c. ctl_entered c false) (ctl_of-tick s.csrs false None)

  -- the counters of an instruction that retires leave the control registers
  ticked : ctl_of (csr_tick s.csrs true None) ≡ ctl_of s.csrs
  ticked = ctl_of-tick s.csrs true None

  -- one for loads and one for stores, by what fails and for all of them
  load_follows : (op : LoadOp) (rd rs1 imm addr next : ℕ) (refused error : Option ℕ)
      → Follows (Some (Load op rd rs1 imm)) (load_with s op rd addr next refused error)
  load_follows op rd rs1 imm addr next (Some at) error = trap_follows (Some (Load op rd rs1 imm)) 5 at addr
  load_follows op rd rs1 imm addr next None (Some at) = trap_follows (Some (Load op rd rs1 imm)) 5 at addr
  load_follows op rd rs1 imm addr next None None = ticked

  -- a load leaves the control registers, or what a trap leaves where it fails
  load_row : (op : LoadOp) (rd rs1 imm addr next : ℕ) → Follows (Some (Load op rd rs1 imm)) (load s op rd addr next)
  unfolding load
  load_row op rd rs1 imm addr next =
      load_follows op rd rs1 imm addr next (refused_at s.csrs addr (size_of op) Read)
      (error_at s.memory.ram addr (size_of op))

  -- a store that is refused or not answered traps, and one that is done leaves them
  store_follows : (size rs1 rs2 imm addr value next : ℕ) (refused error : Option ℕ)
      → Follows (Some (Store size rs1 rs2 imm)) (store_with s size addr value next refused error)
  store_follows size rs1 rs2 imm addr value next (Some at) error =
      trap_follows (Some (Store size rs1 rs2 imm)) 7 at addr
  store_follows size rs1 rs2 imm addr value next None (Some at) =
      trap_follows (Some (Store size rs1 rs2 imm)) 7 at addr
  store_follows size rs1 rs2 imm addr value next None None = ticked

  -- so it is for a store, by what protection refuses and which memory answers
  store_row : (size rs1 rs2 imm addr value next : ℕ)
      → Follows (Some (Store size rs1 rs2 imm)) (store s size addr value next)
  unfolding store
  store_row size rs1 rs2 imm addr value next =
      store_follows size rs1 rs2 imm addr value next (refused_at s.csrs addr size Write)
      (error_at s.memory.ram addr size)

  -- what is written to a control register is told by the view, and another write changes none of them
  written_by_csr : (op : CsrOp) (rd src addr : ℕ) (imm : Bool) (value : ℕ) (control : Bool)
      → is_control_at addr ≡ control
      → ctl_of (csr_write (csr_tick s.csrs true (Some addr)) addr value)
      ≡ ctl_retired (ctl_of s.csrs) (Some (Csr op rd src imm addr)) (if control then Some value else None)
  written_by_csr op rd src addr imm value true e =
      ctl_of-write (csr_tick s.csrs true (Some addr)) addr value
      ∙ ap (λ c. ctl_written c addr value) (ctl_of-tick s.csrs true (Some addr))
  written_by_csr op rd src addr imm value false e =
      ctl_of-other (csr_tick s.csrs true (Some addr)) addr value e ∙ ctl_of-tick s.csrs true (Some addr)

  -- an access that only reads, one that may not write and so is illegal, and one that writes
  csr_by : (op : CsrOp) (rd src source addr word next old : ℕ) (imm w1 w2 : Bool)
      → Follows (Some (Csr op rd src imm addr))
      (if not w1 then plain s rd old next else
      if not w2 then illegal s word else
      record {
        done = Retires (record {
          rd = rd;
          value = old;
          mem = None;
          ctl = if is_control_at addr then Some (written op old source) else None;
          next_pc = next;
        });
        memory = s.memory;
        csrs = csr_write (csr_tick s.csrs true (Some addr)) addr (written op old source);
      })
  csr_by op rd src source addr word next old imm false w2 = ticked
  csr_by op rd src source addr word next old imm true false = trap_follows (Some (Csr op rd src imm addr)) 2 word 0
  csr_by op rd src source addr word next old imm true true =
      written_by_csr op rd src addr imm (written op old source) (is_control_at addr) refl

  -- an access whose address names no register that can be read is illegal, and so a trap
  csr_found : (op : CsrOp) (rd src source addr word next : ℕ) (imm : Bool) (o : Option ℕ)
      → Follows (Some (Csr op rd src imm addr)) (csr_with s op rd src source addr word next o)
  csr_found op rd src source addr word next imm None = trap_follows (Some (Csr op rd src imm addr)) 2 word 0
  csr_found op rd src source addr word next imm (Some old) =
      csr_by op rd src source addr word next old imm (writes op src) (csr_can_write s.csrs addr)

  -- so an access to a CSR leaves what its view says
  csr_row : (op : CsrOp) (rd src source addr word next lines : ℕ) (imm : Bool)
      → Follows (Some (Csr op rd src imm addr)) (csr_access s op rd src source addr word next lines)
  unfolding csr_access
  csr_row op rd src source addr word next lines imm =
      csr_found op rd src source addr word next imm (csr_read s.csrs addr lines)

  -- what MRET leaves of the control registers doesn't depend on the other registers
  left_mret : ctl_of (with_trap_regs (csr_tick s.csrs true None) (leave_of (trap_regs s.csrs)))
      ≡ ctl_left (ctl_of s.csrs)
  unfolding with_trap_regs leave_of csr_tick
  left_mret = refl

  -- MRET leaves what it leaves of them alone, and WFI leaves them
  mret_by : (word : ℕ) (machine : Bool)
      → Follows (Some Mret)
      (if not machine then illegal s word else
      record {
        done = Retires (record { rd = 0; value = 0; mem = None; ctl = None; next_pc = s.csrs.mepc });
        memory = s.memory;
        csrs = with_trap_regs (csr_tick s.csrs true None) (leave_of (trap_regs s.csrs));
      })
  mret_by word false = trap_follows (Some Mret) 2 word 0
  mret_by word true = left_mret

  -- in machine mode MRET leaves what it says, and in user mode it is a trap
  mret_row : (word : ℕ) → Follows (Some Mret) (return_from_trap s word)
  unfolding return_from_trap
  mret_row word = mret_by word s.csrs.machine

  -- WFI leaves the control registers where it may wait, and else it is a trap
  wait_by : (word next : ℕ) (may : Bool) → Follows (Some Wfi) (if may then plain s 0 0 next else illegal s word)
  wait_by word next true = ticked
  wait_by word next false = trap_follows (Some Wfi) 2 word 0

  -- so it is for every instruction
  row : (insn : Insn) (word length lines : ℕ) → Follows (Some insn) (execute s insn word length lines)
  unfolding execute
  row (Lui rd imm) word length lines = ticked
  row (Auipc rd imm) word length lines = ticked
  row (Jal rd imm) word length lines = ticked
  row (Jalr rd rs1 imm) word length lines = ticked
  row (Branch op rs1 rs2 imm) word length lines = ticked
  row (Load op rd rs1 imm) word length lines = load_row op rd rs1 imm ((reg s rs1 + imm) % 2 ^ 32) (following s length)
  row (Store size rs1 rs2 imm) word length lines =
      store_row size rs1 rs2 imm ((reg s rs1 + imm) % 2 ^ 32) (reg s rs2) (following s length)
  row (AluImm op rd rs1 imm) word length lines = ticked
  row (Alu op rd rs1 rs2) word length lines = ticked
  row (MulDiv op rd rs1 rs2) word length lines = ticked
  row (Csr op rd src true addr) word length lines = csr_row op rd src src addr word (following s length) lines true
  row (Csr op rd src false addr) word length lines =
      csr_row op rd src (reg s src) addr word (following s length) lines false
  row Fence word length lines = ticked
  row FenceI word length lines = ticked
  row Ecall word length lines = trap_follows (Some Ecall) (if s.csrs.machine then 11 else 8) 0 0
  row Ebreak word length lines = trap_follows (Some Ebreak) 3 0 0
  row Mret word length lines = mret_row word
  row Wfi word length lines = wait_by word (following s length) (may_wait s.csrs)

-- ---- the step

-- an instruction that follows, whose word is this one's
finished_ctl : (s : State) (c word : ℕ) (ops : Option (ℕ × ℕ)) (x : Executed) (o : Option Insn)
    → instruction_of word ≡ o → Follows s s.pc o x
    → ctl_of (finished s.pc s.regs c word ops x).next.csrs
    ≡ ctl_after (ctl_of s.csrs) (view_of (finished s.pc s.regs c word ops x).event)
unfolding finished
finished_ctl s c word ops x o e f =
    ap ctl_of (ended_csrs s.pc s.regs c word ops x x.done) ∙ f ∙ sym (ap (λ i. left_by (ctl_of s.csrs) i x.done) e)
    ∙ sym (ended_ctl (ctl_of s.csrs) s.pc s.regs c word ops x x.done)

-- the same from the decoded word, from what was fetched, from parcels, and of an interrupt
decoded_ctl : (s : State) (c word length lines : ℕ) (o : Option Insn) → instruction_of word ≡ o
    → ctl_of (decoded s c word length lines o).next.csrs
    ≡ ctl_after (ctl_of s.csrs) (view_of (decoded s c word length lines o).event)
decoded_ctl s c word length lines None e =
    finished_ctl s c word None (illegal s word) None e (trap_follows s s.pc None 2 word 0)
decoded_ctl s c word length lines (Some insn) e =
    finished_ctl s c word (operands s insn) (execute s insn word length lines) (Some insn) e
    (row s s.pc insn word length lines)

-- an unsound parcel is a trap, and a word that was fetched is decoded
fetched_ctl : (s : State) (c lines : ℕ) (f : Fetched)
    → ctl_of (after_fetch s c lines f).next.csrs ≡ ctl_after (ctl_of s.csrs) (view_of (after_fetch s c lines f).event)
fetched_ctl s c lines (Unsound addr) =
    finished_ctl s c 0 None (trap s 1 addr 0) (instruction_of 0) refl (trap_follows s s.pc (instruction_of 0) 1 addr 0)
fetched_ctl s c lines (Instruction word length) = decoded_ctl s c word length lines (instruction_of word) refl

-- a step by parcels leaves what its view says, since counters that move change none of it
parcels_ctl : (k : Settings) (s : State) (first second d : ℕ)
    → ctl_of (step_with (lines_in k) s (Parcels first second) d).next.csrs
    ≡ ctl_after (ctl_of s.csrs) (view_of (step_with (lines_in k) s (Parcels first second) d).event)
unfolding step_with instruction
parcels_ctl k s first second d =
    fetched_ctl (at_cycle s d) d (lines_in k d) (fetch (at_cycle s d) first second)
    ∙ ap (λ c. ctl_after c (view_of (after_fetch (at_cycle s d) d (lines_in k d)
    (fetch (at_cycle s d) first second)).event)) (ctl_of-counters s.csrs (d - s.stands))

-- an interrupt leaves what entering its handler leaves, as the kind in its view says
interrupt_ctl : (k : Settings) (s : State) (number d : ℕ)
    → ctl_of (step_with (lines_in k) s (Interrupt number) d).next.csrs
    ≡ ctl_after (ctl_of s.csrs) (view_of (step_with (lines_in k) s (Interrupt number) d).event)
unfolding step_with interrupted view_of ctl_after with_trap_regs enter_of csr_tick counters_after
interrupt_ctl k s number d = refl

-- what a step leaves of the control registers, by them and its view alone
pub step_ctl : (k : Settings) (s : State) (choice : Choice) (d : ℕ)
    → ctl_of (step_with (lines_in k) s choice d).next.csrs
    ≡ ctl_after (ctl_of s.csrs) (view_of (step_with (lines_in k) s choice d).event)
step_ctl k s (Interrupt number) d = interrupt_ctl k s number d
step_ctl k s (Parcels first second) d = parcels_ctl k s first second d

-- ---- the story

-- the times' registers are those of the state
abbrev pub HasCtl : Story → Type 0
HasCtl h = h.times.ctl ≡ ctl_of h.state.csrs

-- so it stays after each item, from the opening on
ended_follows : (s : Setup) (h y : Story) (o : Option Choice) (i : Item) (d : ℕ) → y.times.ctl ≡ h.times.ctl
    → y.state ≡ h.state → HasCtl h → HasCtl (ended_by s h o i d y)
unfolding after_event
ended_follows s h y (Some choice) i d times state e =
    ap (λ c. ctl_after c (view_with s h choice)) (times ∙ e)
    ∙ ap (ctl_after (ctl_of h.state.csrs)) (sym (step_view (settings_of s) h.state choice d h.state.stands))
    ∙ sym (step_ctl (settings_of s) h.state choice d)
ended_follows s h y None i d times state e = times ∙ e ∙ ap (λ (x : State). ctl_of x.csrs) (sym state)

-- an admission leaves the control registers of the times
taken_ctl : (s : Setup) (t : ℕ) (h : Story) → (taken s t h).times.ctl ≡ h.times.ctl
unfolding taken admitted
taken_ctl s t h = refl

-- after one item more the times' registers are still the state's
pub continued_ctl : (s : Setup) (limit t : ℕ) (h : Story) → HasCtl h → HasCtl (continued s limit t h)
unfolding continued
continued_ctl s limit t h e = ended_follows s h (taken s t h) (choice_at s t h) (item_at s t h) (done_at s limit t h)
    (taken_ctl s t h) (taken_state s t h) e
