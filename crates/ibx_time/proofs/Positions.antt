-- The address of the next instruction by the times is the program counter.
use Rattle.std.proofs.Common.{◌≡◌, ℕ, ◌+◌, ◌*◌, ◌%◌, ◌^◌, ◌==◌, not, Bool, true, false, length, Option, Some, None}
use Rattle.std.proofs.Common.{refl, sym, ap, ◌∙◌, subst, arith, if◌then◌else◌, bit_and}
use Rattle.ibx_isa.specs.declared.insn.Insn.{Insn}
use Rattle.ibx_isa.specs.declared.insn.Insn.TheVariants.{Lui, Auipc, Jal, Jalr, Branch, Load, Store, AluImm, Alu}
use Rattle.ibx_isa.specs.declared.insn.Insn.TheVariants.{MulDiv, Csr, Fence, FenceI, Ecall, Ebreak, Mret, Wfi}
use Rattle.ibx_isa.specs.declared.insn.BranchOp.{BranchOp}
use Rattle.ibx_isa.specs.declared.insn.LoadOp.{LoadOp}
use Rattle.ibx_isa.specs.declared.insn.CsrOp.{CsrOp}
use Rattle.ibx_isa.specs.declared.event.View.{View}
use Rattle.ibx_isa.specs.Alu.{branch_of}
use Rattle.ibx_isa.specs.Views.{view_of}
use Rattle.ibx_csr.specs.Values.{csr_read, csr_can_write, csr_write, csr_tick, counters_after}
use Rattle.ibx_isa.specs.Portions.{size_of}
use Rattle.ibx_pmp.specs.declared.protection.AccessKind.TheVariants.{Read, Write}
use Rattle.ibx_arch.specs.declared.done.Done.{Done}
use Rattle.ibx_arch.specs.declared.done.Done.TheVariants.{Retires, Traps}
use Rattle.ibx_arch.specs.declared.fetched.Fetched.{Fetched}
use Rattle.ibx_arch.specs.declared.fetched.Fetched.TheVariants.{Unsound, Instruction}
use Rattle.ibx_arch.specs.Access.{error_at, refused_at}
use Rattle.ibx_isa.specs.CsrWrites.{writes, written}
use Rattle.ibx_arch.specs.Effects.{Executed, execute, trap, illegal, plain, following, load, load_with, store}
use Rattle.ibx_arch.specs.Effects.{store_with, csr_with, csr_access, return_from_trap}
use Rattle.ibx_arch.specs.Fetch.{fetch, is_sound}
use Rattle.ibx_isa.specs.Lengths.{is_long}
use Rattle.ibx_decoder.specs.Instructions.{instruction_of}
use Rattle.ibx_arch.specs.State.{State, reg, at_cycle}
use Rattle.ibx_arch.specs.Step.{Choice, Interrupt, Parcels, Stepped, after_fetch, decoded, stepped_by, finished}
use Rattle.ibx_arch.specs.Step.{instruction, interrupted, operands, step_with}
use Rattle.ibx_time.specs.Settings.{Settings, lines_in}
use Rattle.ibx_time.specs.Controls.{Ctl, ctl_of, is_fixed}
use Rattle.ibx_time.specs.Items.{item_of, plain as plain_item, branching, is_turned, parcels_of, retired_item}
use Rattle.ibx_csr.specs.Modes.{may_wait}
use Rattle.ibx_csr.specs.Bits.{is_control_at}

-- ---- an instruction that doesn't redirect goes on with the next one

-- unless the item redirects, an instruction that retires leaves the address after it
abbrev NextIs : State → ℕ → Bool → Done → Type 0
NextIs s length turns (Retires r) = turns ≡ false → r.next_pc ≡ following s length
NextIs s length turns (Traps cause tval addr) = Unit {0}

-- one for each kind of instruction: loads, stores, accesses of CSRs, MRET and WFI
load_by : (s : State) (op : LoadOp) (rd addr length : ℕ) (refused error : Option ℕ) (turns : Bool)
    → NextIs s length turns (load_with s op rd addr (following s length) refused error).done
load_by s op rd addr length (Some at) error turns = tt
load_by s op rd addr length None (Some at) turns = tt
load_by s op rd addr length None None turns = λ e. refl

-- a load that retires goes on with the instruction after it
load_next : (s : State) (op : LoadOp) (rd addr length : ℕ) (turns : Bool)
    → NextIs s length turns (load s op rd addr (following s length)).done
unfolding load
load_next s op rd addr length turns =
    load_by s op rd addr length (refused_at s.csrs addr (size_of op) Read) (error_at s.memory.ram addr (size_of op))
    turns

-- a store goes on or traps, by what is refused and what isn't answered
store_by : (s : State) (size addr value length : ℕ) (refused error : Option ℕ) (turns : Bool)
    → NextIs s length turns (store_with s size addr value (following s length) refused error).done
store_by s size addr value length (Some at) error turns = tt
store_by s size addr value length None (Some at) turns = tt
store_by s size addr value length None None turns = λ e. refl

-- a store that retires goes on with the instruction after it
store_next : (s : State) (size addr value length : ℕ) (turns : Bool)
    → NextIs s length turns (store s size addr value (following s length)).done
unfolding store
store_next s size addr value length turns =
    store_by s size addr value length (refused_at s.csrs addr size Write) (error_at s.memory.ram addr size) turns

-- an access goes on whether it writes or only reads, and traps where it may not write
csr_by : (s : State) (op : CsrOp) (rd addr source word length old : ℕ) (w1 w2 : Bool) (ctl : Option ℕ) (turns : Bool)
    → NextIs s length turns (
    if not w1 then plain s rd old (following s length) else
    if not w2 then illegal s word else
    record {
      done = Retires (record { rd = rd; value = old; mem = None; ctl = ctl; next_pc = following s length });
      memory = s.memory;
      csrs = csr_write (csr_tick s.csrs true (Some addr)) addr (written op old source);
    }).done
csr_by s op rd addr source word length old false w2 ctl turns = λ e. refl
csr_by s op rd addr source word length old true false ctl turns = tt
csr_by s op rd addr source word length old true true ctl turns = λ e. refl

-- an access goes on where its address names a register that can be read, and else traps
csr_found : (s : State) (op : CsrOp) (rd src source addr word length : ℕ) (o : Option ℕ) (turns : Bool)
    → NextIs s length turns (csr_with s op rd src source addr word (following s length) o).done
csr_found s op rd src source addr word length None turns = tt
csr_found s op rd src source addr word length (Some old) turns =
    csr_by s op rd addr source word length old (writes op src) (csr_can_write s.csrs addr)
    (if is_control_at addr then Some (written op old source) else None) turns

-- an access to a CSR that retires goes on with the instruction after it
csr_next : (s : State) (op : CsrOp) (rd src source addr word length lines : ℕ) (turns : Bool)
    → NextIs s length turns (csr_access s op rd src source addr word (following s length) lines).done
unfolding csr_access
csr_next s op rd src source addr word length lines turns =
    csr_found s op rd src source addr word length (csr_read s.csrs addr lines) turns

-- in user mode MRET is a trap, of which no next address is asked
return_by : (s : State) (word length : ℕ) (machine : Bool) (x : Executed) → NextIs s length true x.done
    → NextIs s length true (if not machine then illegal s word else x).done
return_by s word length true x h = h
return_by s word length false x h = tt

-- MRET redirects, so it needn't go on with the instruction after it
return_next : (s : State) (word length : ℕ) → NextIs s length true (return_from_trap s word).done
unfolding return_from_trap
return_next s word length = return_by s word length s.csrs.machine _ (λ e. let no_ : true ≡ false = e in absurd (cc))

-- WFI goes on with the instruction after it, or traps where it may not wait
wait_next : (s : State) (word length : ℕ) (may turns : Bool)
    → NextIs s length turns (if may then plain s 0 0 (following s length) else illegal s word).done
wait_next s word length true turns = λ e. refl
wait_next s word length false turns = tt

-- a branch that isn't taken, where timing isn't fixed; else it redirects
branch_by : (s : State) (op : BranchOp) (a b target length n : ℕ) (zero_is : Bool)
    → NextIs s length (branching (is_turned (not zero_is) op (if zero_is then Some (a, b) else None))
    (plain_item n)).redirects (plain s 0 0 (if branch_of op a b then target else following s length)).done
branch_by s op a b target length n false = λ e. let no_ : true ≡ false = e in absurd (cc)
branch_by s op a b target length n true = taken_by (branch_of op a b)
  where
    taken_by : (t : Bool) → (branching t (plain_item n)).redirects ≡ false
        → (if t then target else following s length) ≡ following s length
    taken_by true e = let no_ : true ≡ false = e in absurd (cc)
    taken_by false e = refl

-- so it is for every instruction
row_next : (k : Settings) (s : State) (v : View) (insn : Insn) (word length lines n : ℕ) → v.ops ≡ operands s insn
    → NextIs s length (retired_item k (ctl_of s.csrs) v (Some insn) (plain_item n)).redirects
    (execute s insn word length lines).done
unfolding execute retired_item operands
row_next k s v (Lui rd imm) word length lines n o = λ e. refl
row_next k s v (Auipc rd imm) word length lines n o = λ e. refl
row_next k s v (Jal rd imm) word length lines n o = λ e. let no_ : true ≡ false = e in absurd (cc)
row_next k s v (Jalr rd rs1 imm) word length lines n o = λ e. let no_ : true ≡ false = e in absurd (cc)
row_next k s v (Branch op rs1 rs2 imm) word length lines n o =
    subst (λ ops. NextIs s length (branching (is_turned (is_fixed (ctl_of s.csrs)) op ops) (plain_item n)).redirects
    (plain s 0 0 (if branch_of op (reg s rs1) (reg s rs2) then (s.pc + imm) % 2 ^ 32 else following s length)).done)
    (sym o)
    (branch_by s op (reg s rs1) (reg s rs2) ((s.pc + imm) % 2 ^ 32) length n (bit_and s.csrs.cpuctrl 2 == 0))
row_next k s v (Load op rd rs1 imm) word length lines n o = load_next s op rd ((reg s rs1 + imm) % 2 ^ 32) length false
row_next k s v (Store size rs1 rs2 imm) word length lines n o =
    store_next s size ((reg s rs1 + imm) % 2 ^ 32) (reg s rs2) length false
row_next k s v (AluImm op rd rs1 imm) word length lines n o = λ e. refl
row_next k s v (Alu op rd rs1 rs2) word length lines n o = λ e. refl
row_next k s v (MulDiv op rd rs1 rs2) word length lines n o = λ e. refl
row_next k s v (Csr op rd src true addr) word length lines n o = csr_next s op rd src src addr word length lines false
row_next k s v (Csr op rd src false addr) word length lines n o =
    csr_next s op rd src (reg s src) addr word length lines false
row_next k s v Fence word length lines n o = λ e. refl
row_next k s v FenceI word length lines n o = λ e. let no_ : true ≡ false = e in absurd (cc)
row_next k s v Ecall word length lines n o = tt
row_next k s v Ebreak word length lines n o = tt
row_next k s v Mret word length lines n o = return_next s word length
row_next k s v Wfi word length lines n o = wait_next s word length (may_wait s.csrs) false

-- what an instruction does changes none of its item's parcels
branch_parcels : (b : Bool) (n : ℕ) → (branching b (plain_item n)).parcels ≡ n
branch_parcels true n = refl
branch_parcels false n = refl

-- the parcels of an item that retires are those of its word, whatever the instruction does
pub row_parcels : (k : Settings) (c : Ctl) (v : View) (o : Option Insn) (n : ℕ)
    → (retired_item k c v o (plain_item n)).parcels ≡ n
unfolding retired_item
row_parcels k c v None n = refl
row_parcels k c v (Some (Lui rd imm)) n = refl
row_parcels k c v (Some (Auipc rd imm)) n = refl
row_parcels k c v (Some (Jal rd imm)) n = refl
row_parcels k c v (Some (Jalr rd rs1 imm)) n = refl
row_parcels k c v (Some (Branch op rs1 rs2 imm)) n = branch_parcels (is_turned (is_fixed c) op v.ops) n
row_parcels k c v (Some (Load op rd rs1 imm)) n = refl
row_parcels k c v (Some (Store size rs1 rs2 imm)) n = refl
row_parcels k c v (Some (AluImm op rd rs1 imm)) n = refl
row_parcels k c v (Some (Alu op rd rs1 rs2)) n = refl
row_parcels k c v (Some (MulDiv op rd rs1 rs2)) n = refl
row_parcels k c v (Some (Csr op rd src imm addr)) n = refl
row_parcels k c v (Some Fence) n = refl
row_parcels k c v (Some FenceI) n = refl
row_parcels k c v (Some Ecall) n = refl
row_parcels k c v (Some Ebreak) n = refl
row_parcels k c v (Some Mret) n = refl
row_parcels k c v (Some Wfi) n = refl

-- ---- the step

-- where the item of a step doesn't redirect, the program counter moves by its parcels
abbrev GoesOn : Settings → Ctl → State → Stepped → Type 0
GoesOn k c s x = (item_of k c (view_of x.event)).redirects ≡ false
    → x.next.pc ≡ (s.pc + 2 * (item_of k c (view_of x.event)).parcels) % 2 ^ 32

-- an instruction that retires, and a trap, which redirects
retired_goes : (k : Settings) (s : State) (v : View) (o : Option Insn) (word length next : ℕ)
    → 2 * parcels_of word ≡ length → ((retired_item k (ctl_of s.csrs) v o (plain_item (parcels_of word))).redirects
    ≡ false → next ≡ following s length)
    → (retired_item k (ctl_of s.csrs) v o (plain_item (parcels_of word))).redirects ≡ false
    → next ≡ (s.pc + 2 * (retired_item k (ctl_of s.csrs) v o (plain_item (parcels_of word))).parcels) % 2 ^ 32
retired_goes k s v o word length next size h e =
    h e ∙ ap (λ n. (s.pc + n) % 2 ^ 32)
    (sym size ∙ ap (λ n. 2 * n) (sym (row_parcels k (ctl_of s.csrs) v o (parcels_of word))))

-- an instruction that retires moves by its parcels unless it redirects, and a trap always redirects
ended_goes : (k : Settings) (s : State) (c word length : ℕ) (ops : Option (ℕ × ℕ)) (after : Executed) (d : Done)
    → 2 * parcels_of word ≡ length → ((v : View) → v.ops ≡ ops
    → NextIs s length (retired_item k (ctl_of s.csrs) v (instruction_of word) (plain_item (parcels_of word))).redirects
    d)
    → GoesOn k (ctl_of s.csrs) s (stepped_by s.pc s.regs c word ops after d)
unfolding view_of item_of
ended_goes k s c word length ops after (Retires r) size h =
    retired_goes k s (view_of (stepped_by s.pc s.regs c word ops after (Retires r)).event) (instruction_of word) word
    length r.next_pc size (h (view_of (stepped_by s.pc s.regs c word ops after (Retires r)).event) refl)
ended_goes k s c word length ops after (Traps cause tval addr) size h = λ e. let no_ : true ≡ false = e in absurd (cc)

-- a trap's item redirects, whatever its cause
trap_goes : (k : Settings) (s : State) (c word : ℕ) (ops : Option (ℕ × ℕ)) (after : Executed) (cause tval addr : ℕ)
    → GoesOn k (ctl_of s.csrs) s (stepped_by s.pc s.regs c word ops after (Traps cause tval addr))
unfolding view_of item_of
trap_goes k s c word ops after cause tval addr = λ e. let no_ : true ≡ false = e in absurd (cc)

-- the same from the decoded word
decoded_goes : (k : Settings) (s : State) (c word length lines : ℕ) (o : Option Insn) → instruction_of word ≡ o
    → 2 * parcels_of word ≡ length → GoesOn k (ctl_of s.csrs) s (decoded s c word length lines o)
unfolding finished
decoded_goes k s c word length lines None i size = trap_goes k s c word None (illegal s word) 2 word 0
decoded_goes k s c word length lines (Some insn) i size =
    ended_goes k s c word length (operands s insn) (execute s insn word length lines)
    (execute s insn word length lines).done size
    (λ v o. subst (λ u. NextIs s length (retired_item k (ctl_of s.csrs) v u (plain_item (parcels_of word))).redirects
    (execute s insn word length lines).done) (sym i) (row_next k s v insn word length lines (parcels_of word) o))

-- an instruction that was fetched has as many bytes as its parcels
abbrev HasLength : Fetched → Type 0
HasLength (Unsound addr) = Unit {0}
HasLength (Instruction word length) = 2 * parcels_of word ≡ length

-- the same from what was fetched
fetched_goes : (k : Settings) (s : State) (c lines : ℕ) (f : Fetched) → HasLength f
    → GoesOn k (ctl_of s.csrs) s (after_fetch s c lines f)
unfolding finished
fetched_goes k s c lines (Unsound addr) h = trap_goes k s c 0 None (trap s 1 addr 0) 1 addr 0
fetched_goes k s c lines (Instruction word length) h =
    decoded_goes k s c word length lines (instruction_of word) refl h

-- the length of an instruction by its parcels
short_length : (word : ℕ) → is_long word ≡ false → 2 * parcels_of word ≡ 2
short_length word e = ap (λ b. 2 * (if b then 2 else 1)) e

-- a long word has two parcels, which are four bytes
long_length : (word : ℕ) → is_long word ≡ true → 2 * parcels_of word ≡ 4
long_length word e = ap (λ b. 2 * (if b then 2 else 1)) e

-- a word is long where its first parcel is, since the two lowest bits say so
long_whole : (first second : ℕ) → is_long first ≡ true → is_long (first + 2 ^ 16 * second) ≡ true
long_whole first second e = ap (λ n. n == 3) (omega arith) ∙ e

-- so what is fetched has the length of its parcels
fetch_by : (s : State) (first second : ℕ) (a b c : Bool) → is_long first ≡ b
    → HasLength (
    if not a then Unsound s.pc else
    if not b then Instruction first 2 else
    if not c then Unsound ((s.pc + 2) % 2 ^ 32) else
    Instruction (first + 2 ^ 16 * second) 4)
fetch_by s first second false b c e = tt
fetch_by s first second true false c e = short_length first e
fetch_by s first second true true false e = tt
fetch_by s first second true true true e = long_length (first + 2 ^ 16 * second) (long_whole first second e)

-- what two parcels fetch has two bytes for each parcel that it takes
fetch_length : (s : State) (first second : ℕ) → HasLength (fetch s first second)
unfolding fetch
fetch_length s first second = fetch_by s first second (is_sound s.csrs s.memory.ram s.pc) (is_long first)
    (is_sound s.csrs s.memory.ram ((s.pc + 2) % 2 ^ 32)) refl

-- the same from parcels, and for an interrupt, which redirects
instruction_goes : (k : Settings) (s : State) (first second c lines : ℕ)
    → GoesOn k (ctl_of s.csrs) s (instruction s first second c lines)
unfolding instruction
instruction_goes k s first second c lines =
    fetched_goes k s c lines (fetch s first second) (fetch_length s first second)

-- an interrupt's item redirects, so its address needn't move by parcels
interrupted_goes : (k : Settings) (c : Ctl) (s : State) (number d : ℕ) → GoesOn k c s (interrupted s number d)
unfolding interrupted view_of item_of
interrupted_goes k c s number d = λ e. let no_ : true ≡ false = e in absurd (cc)

-- so it is for each step, also before its counters are moved
step_by : (k : Settings) (s : State) (choice : Choice) (d : ℕ)
    → GoesOn k (ctl_of (at_cycle s d).csrs) (at_cycle s d) (step_with (lines_in k) s choice d)
unfolding step_with
step_by k s (Interrupt number) d = interrupted_goes k (ctl_of (at_cycle s d).csrs) (at_cycle s d) number d
step_by k s (Parcels first second) d = instruction_goes k (at_cycle s d) first second d (lines_in k d)

-- counters that move to a cycle change no control register
moved_ctl : (s : State) (d : ℕ) → ctl_of (at_cycle s d).csrs ≡ ctl_of s.csrs
unfolding counters_after
moved_ctl s d = refl

-- a step whose item doesn't redirect moves the program counter by the item's parcels
pub step_goes : (k : Settings) (s : State) (choice : Choice) (d : ℕ)
    → GoesOn k (ctl_of s.csrs) s (step_with (lines_in k) s choice d)
step_goes k s choice d =
    subst (λ c. GoesOn k c s (step_with (lines_in k) s choice d)) (moved_ctl s d) (step_by k s choice d)
