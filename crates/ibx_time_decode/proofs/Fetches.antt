-- The parcels and the word of an instruction, as its view tells them.
use Rattle.std.proofs.Common.{◌≡◌, ℕ, ◌+◌, ◌*◌, ◌%◌, ◌^◌, ◌<◌, Bool, true, false, not, ◌==◌, if◌then◌else◌, List}
use Rattle.std.proofs.Common.{Option, Some, None, ◌≢◌, refl, ap, ◌∙◌, arith}
use Rattle.ibx_isa.specs.declared.insn.Insn.{Insn}
use Rattle.ibx_isa.specs.declared.insn.Insn.TheVariants.{Lui, Auipc, Jal, Jalr, Branch, Load, Store, AluImm, Alu}
use Rattle.ibx_isa.specs.declared.insn.Insn.TheVariants.{MulDiv, Csr, Fence, FenceI, Ecall, Ebreak, Mret, Wfi}
use Rattle.ibx_isa.specs.declared.insn.LoadOp.{LoadOp}
use Rattle.ibx_isa.specs.declared.insn.CsrOp.{CsrOp}
use Rattle.ibx_isa.specs.declared.event.View.{View}
use Rattle.ibx_isa.specs.Views.{view_of}
use Rattle.ibx_arch.specs.declared.done.Done.{Done}
use Rattle.ibx_arch.specs.declared.done.Done.TheVariants.{Retires, Traps}
use Rattle.ibx_arch.specs.declared.fetched.Fetched.{Fetched}
use Rattle.ibx_arch.specs.declared.fetched.Fetched.TheVariants.{Unsound, Instruction}
use Rattle.ibx_arch.specs.Access.{error_at, refused_at}
use Rattle.ibx_pmp.specs.declared.protection.AccessKind.TheVariants.{Read, Write}
use Rattle.ibx_csr.specs.Values.{counters_after, csr_can_write, csr_read, csr_tick, csr_write, trap_regs}
use Rattle.ibx_csr.specs.Values.{with_trap_regs}
use Rattle.ibx_trap.specs.Traps.{leave_of}
use Rattle.ibx_isa.specs.CsrWrites.{writes, written}
use Rattle.std.proofs.lemmas.Bool.{eq-eqb, ne_eqb}
use Rattle.ibx_arch.specs.Effects.{Executed, plain as ends, csr_access, csr_with, execute, following, illegal, load}
use Rattle.ibx_arch.specs.Effects.{load_with, return_from_trap, store, store_with}
use Rattle.ibx_arch.specs.Fetch.{fetch, is_sound}
use Rattle.ibx_isa.specs.Lengths.{is_long}
use Rattle.ibx_decoder.specs.Instructions.{instruction_of}
use Rattle.ibx_arch.specs.State.{State, at_cycle, reg}
use Rattle.ibx_arch.specs.Step.{Stepped, after_fetch, decoded, stepped_by, finished, instruction, operands, step_with}
use Rattle.ibx_isa.specs.Portions.{size_of}
use Rattle.ibx_time.specs.Settings.{Settings, Setup, lines_in, settings_of}
use Rattle.ibx_time.specs.Controls.{Ctl, is_fixed}
use Rattle.ibx_time.specs.Items.{Item, branching, is_turned, item_of, parcels_of, plain, retired_item}
use Rattle.ibx_time_invariant.proofs.ArchSide.{ArchFetches, fetched_word}
use Rattle.ibx_time.proofs.Answered.{parcels_by}
use Rattle.ibx_csr.specs.Modes.{may_wait}
use Rattle.ibx_csr.specs.Bits.{is_control_at}

-- ---- a trap that an instruction takes is no fault of its fetch

-- a trap has another cause than a fetch's
abbrev pub NoFault : Done → Type 0
NoFault (Retires r) = Unit {0}
NoFault (Traps cause tval addr) = (cause == 1) ≡ false

-- one for loads and one for stores
no_fault_load : (s : State) (op : LoadOp) (rd addr next : ℕ) (a b : Option ℕ)
    → NoFault (load_with s op rd addr next a b).done
no_fault_load s op rd addr next (Some at) b = refl
no_fault_load s op rd addr next None (Some at) = refl
no_fault_load s op rd addr next None None = tt

-- a store that is refused or unanswered traps with a store's cause
no_fault_store : (s : State) (size addr value next : ℕ) (a b : Option ℕ)
    → NoFault (store_with s size addr value next a b).done
no_fault_store s size addr value next (Some at) b = refl
no_fault_store s size addr value next None (Some at) = refl
no_fault_store s size addr value next None None = tt

-- a test chooses between two of them
no_fault_if : (b : Bool) (x y : Executed) → NoFault x.done → NoFault y.done → NoFault (if b then x else y).done
no_fault_if true x y p q = p
no_fault_if false x y p q = q

-- a CSR instruction that writes, and MRET that returns
abbrev pub handed : State → CsrOp → ℕ → ℕ → ℕ → ℕ → ℕ → Executed
handed s op rd source addr next old = record {
  done = Retires (record {
    rd = rd;
    value = old;
    mem = None;
    ctl = if is_control_at addr then Some (written op old source) else None;
    next_pc = next;
  });
  memory = s.memory;
  csrs = csr_write (csr_tick s.csrs true (Some addr)) addr (written op old source);
}

-- MRET, which goes on at mepc
abbrev pub returned : State → Executed
returned s = record {
  done = Retires (record { rd = 0; value = 0; mem = None; ctl = None; next_pc = s.csrs.mepc });
  memory = s.memory;
  csrs = with_trap_regs (csr_tick s.csrs true None) (leave_of (trap_regs s.csrs));
}

-- one for CSR instructions and one for MRET
no_fault_csr : (s : State) (op : CsrOp) (rd src source addr word next : ℕ) (o : Option ℕ)
    → NoFault (csr_with s op rd src source addr word next o).done
no_fault_csr s op rd src source addr word next None = refl
no_fault_csr s op rd src source addr word next (Some old) =
    no_fault_if (not (writes op src)) (ends s rd old next)
    (if not (csr_can_write s.csrs addr) then illegal s word else handed s op rd source addr next old) tt
    (no_fault_if (not (csr_can_write s.csrs addr)) (illegal s word) (handed s op rd source addr next old) refl tt)

-- MRET returns or is illegal, and neither is a fault of its fetch
no_fault_return : (s : State) (word : ℕ) → NoFault (return_from_trap s word).done
unfolding return_from_trap
no_fault_return s word = no_fault_if (not s.csrs.machine) (illegal s word) (returned s) refl tt

-- a call has another cause
cause_if : (b : Bool) → ((if b then 11 else 8) == 1) ≡ false
cause_if true = refl
cause_if false = refl

-- so no instruction ends in a fault of its fetch
pub no_fault : (s : State) (insn : Insn) (word length lines : ℕ) → NoFault (execute s insn word length lines).done
unfolding execute load store csr_access
no_fault s (Lui rd imm) word length lines = tt
no_fault s (Auipc rd imm) word length lines = tt
no_fault s (Jal rd imm) word length lines = tt
no_fault s (Jalr rd rs1 imm) word length lines = tt
no_fault s (Branch op rs1 rs2 imm) word length lines = tt
no_fault s (Load op rd rs1 imm) word length lines =
    let addr = (reg s rs1 + imm) % 2 ^ 32 in
    no_fault_load s op rd addr (following s length) (refused_at s.csrs addr (size_of op) Read)
    (error_at s.memory.ram addr (size_of op))
no_fault s (Store size rs1 rs2 imm) word length lines =
    let addr = (reg s rs1 + imm) % 2 ^ 32 in
    no_fault_store s size addr (reg s rs2) (following s length) (refused_at s.csrs addr size Write)
    (error_at s.memory.ram addr size)
no_fault s (AluImm op rd rs1 imm) word length lines = tt
no_fault s (Alu op rd rs1 rs2) word length lines = tt
no_fault s (MulDiv op rd rs1 rs2) word length lines = tt
no_fault s (Csr op rd src true addr) word length lines =
    no_fault_csr s op rd src src addr word (following s length) (csr_read s.csrs addr lines)
no_fault s (Csr op rd src false addr) word length lines =
    no_fault_csr s op rd src (reg s src) addr word (following s length) (csr_read s.csrs addr lines)
no_fault s Fence word length lines = tt
no_fault s FenceI word length lines = tt
no_fault s Ecall word length lines = cause_if s.csrs.machine
no_fault s Ebreak word length lines = refl
no_fault s Mret word length lines = no_fault_return s word
no_fault s Wfi word length lines =
    no_fault_if (may_wait s.csrs) (ends s 0 0 (following s length)) (illegal s word) tt refl

-- ---- the parcels of an item, by its view

-- what an instruction does changes none of its parcels
retired_parcels : (k : Settings) (c : Ctl) (v : View) (o : Option Insn) (i : Item)
    → (retired_item k c v o i).parcels ≡ i.parcels
unfolding retired_item
retired_parcels k c v None i = refl
retired_parcels k c v (Some (Lui rd imm)) i = refl
retired_parcels k c v (Some (Auipc rd imm)) i = refl
retired_parcels k c v (Some (Jal rd imm)) i = refl
retired_parcels k c v (Some (Jalr rd rs1 imm)) i = refl
retired_parcels k c v (Some (Branch op rs1 rs2 imm)) i = by_turn (is_turned (is_fixed c) op v.ops)
  where
    by_turn : (b : Bool) → (branching b i).parcels ≡ i.parcels
    by_turn true = refl
    by_turn false = refl
retired_parcels k c v (Some (Load op rd rs1 imm)) i = refl
retired_parcels k c v (Some (Store size rs1 rs2 imm)) i = refl
retired_parcels k c v (Some (AluImm op rd rs1 imm)) i = refl
retired_parcels k c v (Some (Alu op rd rs1 rs2)) i = refl
retired_parcels k c v (Some (MulDiv op rd rs1 rs2)) i = refl
retired_parcels k c v (Some (Csr op rd src imm addr)) i = refl
retired_parcels k c v (Some Fence) i = refl
retired_parcels k c v (Some FenceI) i = refl
retired_parcels k c v (Some Ecall) i = refl
retired_parcels k c v (Some Ebreak) i = refl
retired_parcels k c v (Some Mret) i = refl
retired_parcels k c v (Some Wfi) i = refl

-- the item of an event: its parcels, and the word in its view
abbrev parcels_for : Settings → Ctl → Stepped → ℕ
parcels_for k c st = (item_of k c (view_of st.event)).parcels

-- the word that the view has
abbrev pub word_for : Stepped → ℕ
word_for st = (view_of st.event).word

-- an event has the parcels and the word of its instruction, by how it ended
ended_parcels : (k : Settings) (c : Ctl) (pc : ℕ) (regs : List ℕ) (cycle word : ℕ) (ops : Option (ℕ × ℕ))
    (after : Executed) (d : Done)
    → NoFault d → parcels_for k c (stepped_by pc regs cycle word ops after d) ≡ parcels_of word
unfolding item_of view_of
ended_parcels k c pc regs cycle word ops after (Retires r) n =
    retired_parcels k c (view_of (stepped_by pc regs cycle word ops after (Retires r)).event) (instruction_of word)
    (plain (parcels_of word))
ended_parcels k c pc regs cycle word ops after (Traps cause tval addr) n = by_cause (cause == 1) n
  where
    by_cause : (b : Bool) → b ≡ false
        → (if b then (if tval == pc then 1 else 2) else parcels_of word) ≡ parcels_of word
    by_cause false e = refl
    by_cause true e = let no_ : true ≡ false = e in cc

-- an event's view has the word that was executed, after a retirement and after a trap
ended_word : (pc : ℕ) (regs : List ℕ) (cycle word : ℕ) (ops : Option (ℕ × ℕ)) (after : Executed) (d : Done)
    → word_for (stepped_by pc regs cycle word ops after d) ≡ word
unfolding view_of
ended_word pc regs cycle word ops after (Retires r) = refl
ended_word pc regs cycle word ops after (Traps cause tval addr) = refl

-- the same from the decoded word
decoded_parcels : (k : Settings) (c : Ctl) (s : State) (cycle word length lines : ℕ) (o : Option Insn)
    → parcels_for k c (decoded s cycle word length lines o) ≡ parcels_of word
unfolding finished
decoded_parcels k c s cycle word length lines None =
    ended_parcels k c s.pc s.regs cycle word None (illegal s word) (illegal s word).done refl
decoded_parcels k c s cycle word length lines (Some insn) =
    ended_parcels k c s.pc s.regs cycle word (operands s insn) (execute s insn word length lines)
    (execute s insn word length lines).done (no_fault s insn word length lines)

-- the view has the word that was decoded, even if it is no instruction
pub decoded_word : (s : State) (cycle word length lines : ℕ) (o : Option Insn)
    → word_for (decoded s cycle word length lines o) ≡ word
unfolding finished
decoded_word s cycle word length lines None =
    ended_word s.pc s.regs cycle word None (illegal s word) (illegal s word).done
decoded_word s cycle word length lines (Some insn) =
    ended_word s.pc s.regs cycle word (operands s insn) (execute s insn word length lines)
    (execute s insn word length lines).done

-- ---- by what is fetched

-- the parcels of what was fetched: of an unsound one the number of the parcel
abbrev fetched_parcels : ℕ → Fetched → ℕ
fetched_parcels pc (Unsound addr) = if addr == pc then 1 else 2
fetched_parcels pc (Instruction word size) = parcels_of word

-- the item has these, and its view the word
after_parcels : (k : Settings) (c : Ctl) (s : State) (cycle lines : ℕ) (f : Fetched)
    → parcels_for k c (after_fetch s cycle lines f) ≡ fetched_parcels s.pc f
unfolding finished item_of view_of
after_parcels k c s cycle lines (Unsound addr) = refl
after_parcels k c s cycle lines (Instruction word size) =
    decoded_parcels k c s cycle word size lines (instruction_of word)

-- the view has the word that was fetched, and 0 after a fetch that failed
pub after_word : (s : State) (cycle lines : ℕ) (f : Fetched) → word_for (after_fetch s cycle lines f) ≡ fetched_word f
unfolding finished view_of
after_word s cycle lines (Unsound addr) = refl
after_word s cycle lines (Instruction word size) = decoded_word s cycle word size lines (instruction_of word)

-- what is fetched doesn't depend on the counters
pub same_fetch : (s : State) (c first second : ℕ) → fetch (at_cycle s c) first second ≡ fetch s first second
unfolding fetch counters_after
same_fetch s c first second = refl

-- ---- by whether the parcels are sound

-- a word is long just where its first parcel is
pub long_word : (first second : ℕ) → is_long (first + 2 ^ 16 * second) ≡ is_long first
long_word first second = ap (λ n. n == 3) (let e : (first + 2 ^ 16 * second) % 4 ≡ first % 4 = omega arith in e)

-- what is fetched, by the tests of the two parcels
abbrev pub fetch_by : Bool → Bool → Bool → ℕ → ℕ → ℕ → Fetched
fetch_by a long b pc first second =
    if not a then Unsound pc else
    if not long then Instruction first 2 else
    if not b then Unsound ((pc + 2) % 2 ^ 32) else
    Instruction (first + 2 ^ 16 * second) 4

-- it is this
pub fetch_is : (s : State) (first second : ℕ)
    → fetch s first second ≡ fetch_by (is_sound s.csrs s.memory.ram s.pc) (is_long first)
    (is_sound s.csrs s.memory.ram ((s.pc + 2) % 2 ^ 32)) s.pc first second
unfolding fetch
fetch_is s first second = refl

-- the second parcel has another address
pub next_apart : (pc : ℕ) → pc < 2 ^ 32 → ((pc + 2) % 2 ^ 32 == pc) ≡ false
next_apart pc low = let ne : (pc + 2) % 2 ^ 32 ≢ pc = (λ e. omega (arith, e, low)) in ne_eqb ((pc + 2) % 2 ^ 32) pc ne

-- so the parcels are those that the admission counts
parcels_are : (a long b : Bool) (pc first second : ℕ) → pc < 2 ^ 32 → is_long first ≡ long
    → fetched_parcels pc (fetch_by a long b pc first second) ≡ parcels_by a long b
parcels_are false long b pc first second low e = rw (eq-eqb pc pc refl) refl
parcels_are true false b pc first second low e = ap (λ x. if x then 2 else 1) e
parcels_are true true false pc first second low e = ap (λ x. if x then 1 else 2) (next_apart pc low)
parcels_are true true true pc first second low e = ap (λ x. if x then 2 else 1) (long_word first second ∙ e)

-- and so are those of every instruction
pub arch_fetches : (s : Setup) → ArchFetches s
unfolding step_with instruction
arch_fetches s c h first second i =
    let here = at_cycle h.state h.state.stands in
    let lines = lines_in (settings_of s) h.state.stands in
    record {
      parcels =
          after_parcels (settings_of s) h.times.ctl here h.state.stands lines (fetch here first second)
          ∙ ap (fetched_parcels h.state.pc)
          (same_fetch h.state h.state.stands first second ∙ fetch_is h.state first second)
          ∙ parcels_are (is_sound h.state.csrs h.state.memory.ram h.state.pc) (is_long first)
          (is_sound h.state.csrs h.state.memory.ram ((h.state.pc + 2) % 2 ^ 32)) h.state.pc first second
          i.good.pc_low refl;
      word = after_word here h.state.stands lines (fetch here first second)
          ∙ ap fetched_word (same_fetch h.state h.state.stands first second);
    }
