-- Every step keeps the program counter even, and the address to which MRET returns.
use Rattle.std.proofs.Common.{◌≡◌, ℕ, ◌+◌, ◌-◌, ◌*◌, ◌/◌, ◌%◌, ◌^◌, ◌<◌, ◌∙◌, Bool, true, false, not, Option, Some}
use Rattle.std.proofs.Common.{None, refl, arith, if◌then◌else◌, slice_set}
use Rattle.std.specs.Prelude.{IfSome, bit_and, List}
use Rattle.std.specs.Option.{option_and_then}
use Rattle.std.proofs.lemmas.Nat.{and_le_r, and_mod}
use Rattle.ibx_isa.specs.declared.insn.Insn.{Insn}
use Rattle.ibx_isa.specs.declared.insn.Insn.TheVariants.{Lui, Auipc, Jal, Jalr, Branch, Load, Store, AluImm, Alu}
use Rattle.ibx_isa.specs.declared.insn.Insn.TheVariants.{MulDiv, Csr, Fence, FenceI, Ecall, Ebreak, Mret, Wfi}
use Rattle.ibx_isa.specs.declared.insn.LoadOp.{LoadOp}
use Rattle.ibx_isa.specs.declared.insn.CsrOp.{CsrOp}
use Rattle.ibx_isa.specs.declared.trap.TrapRegs.{TrapRegs}
use Rattle.ibx_isa.specs.Alu.{alu_of, branch_of}
use Rattle.ibx_isa.specs.Multiply.{md_value}
use Rattle.ibx_isa.specs.WellFormed.{IsWellFormed}
use Rattle.ibx_decoder.specs.Rows.{IsInstruction, decode_of}
use Rattle.ibx_decoder.specs.Compressed.{expand_of}
use Rattle.ibx_decoder.proofs.Sound.{decode_of-sound}
use Rattle.ibx_decoder.proofs.Expansions.{expand_of-fits}
use Rattle.ibx_isa.specs.Portions.{size_of}
use Rattle.ibx_pmp.specs.declared.protection.AccessKind.TheVariants.{Read, Write}
use Rattle.ibx_trap.specs.Traps.{enter_of, enter_target, leave_of}
use Rattle.ibx_csr.specs.declared.name.Csr.{Csr as Name}
use Rattle.ibx_csr.specs.declared.name.Csr.TheVariants.{Mstatus, Misa, Mie, Mtvec, Mcountinhibit, Mscratch, Mepc}
use Rattle.ibx_csr.specs.declared.name.Csr.TheVariants.{Mcause, Mtval, Mip, Pmpcfg, Pmpaddr, Cpuctrl, Secureseed}
use Rattle.ibx_csr.specs.declared.name.Csr.TheVariants.{Mcycle, Mcycleh, Minstret, Minstreth, Marchid, Mseccfg, Zero}
use Rattle.ibx_csr.specs.Kept.{is_addr_held}
use Rattle.ibx_csr.specs.Table.{writable}
use Rattle.ibx_csr.proofs.Legal.{kept_mepc-even}
use Rattle.ibx_csr.specs.Values.{CsrValues, cfg_bytes, csr_can_write, csr_read, csr_reset, csr_tick, csr_write}
use Rattle.ibx_csr.specs.Values.{counters_after, put_at, put_value, trap_regs, with_trap_regs}
use Rattle.ibx_arch.specs.declared.done.Done.{Done}
use Rattle.ibx_arch.specs.declared.done.Done.TheVariants.{Retires, Traps}
use Rattle.ibx_arch.specs.declared.fetched.Fetched.{Fetched}
use Rattle.ibx_arch.specs.declared.fetched.Fetched.TheVariants.{Unsound, Instruction}
use Rattle.ibx_arch.specs.Access.{error_at, refused_at}
use Rattle.ibx_csr.specs.Bits.{is_control_at}
use Rattle.ibx_isa.specs.CsrWrites.{writes, written}
use Rattle.ibx_arch.specs.Effects.{Executed, csr_access, csr_with, execute, following, illegal, load, load_with, plain}
use Rattle.ibx_arch.specs.Effects.{return_from_trap, store, store_with, trap}
use Rattle.ibx_csr.specs.Modes.{may_wait}
use Rattle.ibx_arch.specs.Fetch.{fetch, is_sound}
use Rattle.ibx_isa.specs.Lengths.{is_long}
use Rattle.ibx_decoder.specs.Instructions.{instruction_of}
use Rattle.ibx_arch.specs.Laws.{BeginsAligned, IsAligned, StaysAligned}
use Rattle.ibx_arch.specs.State.{State, at_cycle, reg}
use Rattle.ibx_arch.specs.Step.{Interrupt, Parcels, after_fetch, decoded, stepped_by, finished, instruction}
use Rattle.ibx_arch.specs.Step.{interrupted, operands, reset_state, step_with}

-- ---- the instruction of a word

-- a word that is decoded, from a halfword or as it is, is an instruction with fields in their ranges
sound_expanded : (o : Option ℕ) → IfSome o IsInstruction → IfSome (option_and_then decode_of o) IsWellFormed
sound_expanded None h = tt
sound_expanded (Some w) h = decode_of-sound w h.0

-- a long word is decoded as it is, a short one once it is expanded: either way its fields are in their ranges
sound_by : (long : Bool) (word : ℕ) → word < 2 ^ 32
    → IfSome (if long then decode_of word else option_and_then decode_of (expand_of word)) IsWellFormed
sound_by true word h = decode_of-sound word h
sound_by false word h = sound_expanded (expand_of word) (expand_of-fits word)

-- the instruction of a word, if it has one, has fields in their ranges
pub instruction_of-sound : (word : ℕ) → word < 2 ^ 32 → IfSome (instruction_of word) IsWellFormed
unfolding instruction_of
instruction_of-sound word h = sound_by (is_long word) word h

-- ---- even addresses

-- sums of even numbers in 32 bits, halves doubled, and the base of mtvec
sum_even : (a b : ℕ) → a % 2 ≡ 0 → b % 2 ≡ 0 → (a + b) % 2 ^ 32 % 2 ≡ 0
sum_even a b p q = omega arith

-- a number whose bit 0 is cleared is even, as the target of JALR is
half_even : (n : ℕ) → n / 2 * 2 % 2 ≡ 0
half_even n = omega arith

-- the base in mtvec is even, as its low byte is masked
base_even : (mtvec : ℕ) → bit_and mtvec (2 ^ 32 - 1 - 0xff) % 2 ≡ 0
base_even mtvec = and_mod mtvec (2 ^ 32 - 1 - 0xff) 1 ∙ omega (arith, and_le_r (mtvec % 2 ^ 1) 0)

-- handlers begin at even addresses
target_even : (r : TrapRegs) (cause : ℕ) (irq : Bool) → enter_target r cause irq % 2 ≡ 0
unfolding enter_target
target_even r cause true = sum_even (bit_and r.mtvec (2 ^ 32 - 1 - 0xff)) (4 * cause) (base_even r.mtvec) (omega arith)
target_even r cause false = base_even r.mtvec

-- ---- mepc

-- mepc is even: a write to any register, a cycle of the counters and a trap keep it so
abbrev IsEven : CsrValues → Type 0
IsEven v = v.mepc % 2 ≡ 0

-- of two values of the CSRs with mepc even, either has it even
if_even : (b : Bool) (v w : CsrValues) → IsEven v → IsEven w → IsEven (if b then v else w)
if_even true v w p q = p
if_even false v w p q = q

-- a value put into any CSR leaves mepc even, as mepc itself keeps no bit 0
put_even : (v : CsrValues) (c : Name) (w : ℕ) → IsEven v → IsEven (put_value v c w)
unfolding put_value
put_even v Mstatus w h = h
put_even v Misa w h = h
put_even v Mie w h = h
put_even v Mtvec w h = h
put_even v Mcountinhibit w h = h
put_even v Mscratch w h = h
put_even v Mepc w h = kept_mepc-even w
put_even v Mcause w h = h
put_even v Mtval w h = h
put_even v Mip w h = h
put_even v (Pmpcfg k) w h = h
put_even v (Pmpaddr k) w h =
    if_even (is_addr_held v.mseccfg (cfg_bytes v) k) v (record v { pmpaddr = slice_set v.pmpaddr k w }) h h
put_even v Cpuctrl w h = h
put_even v Secureseed w h = h
put_even v Mcycle w h = h
put_even v Mcycleh w h = h
put_even v Minstret w h = h
put_even v Minstreth w h = h
put_even v Marchid w h = h
put_even v Mseccfg w h = h
put_even v Zero w h = h

-- so it does where no CSR takes the value
put_at_even : (v : CsrValues) (o : Option Name) (w : ℕ) → IsEven v → IsEven (put_at v w o)
put_at_even v None w h = h
put_at_even v (Some c) w h = put_even v c w h

-- a write to any address of a CSR leaves mepc even
write_even : (v : CsrValues) (a w : ℕ) → IsEven v → IsEven (csr_write v a w)
unfolding csr_write
write_even v a w h = put_at_even v (writable v.machine a) w h

-- a cycle of the counters leaves mepc as it is
tick_even : (v : CsrValues) (retired : Bool) (wrote : Option ℕ) → IsEven v → IsEven (csr_tick v retired wrote)
unfolding csr_tick
tick_even v retired wrote h = h

-- a trap's entry or return leaves mepc even, whatever address it puts there
trapped_even : (v : CsrValues) (r : TrapRegs) → IsEven (with_trap_regs v r)
unfolding with_trap_regs
trapped_even v r = kept_mepc-even r.mepc

-- ---- how an instruction ends

-- an instruction ends at an even address
abbrev EndsEven : Done → Type 0
EndsEven (Retires r) = r.next_pc % 2 ≡ 0
EndsEven (Traps cause tval addr) = Unit {0}

-- and leaves mepc even
record Ends (x : Executed) : Type 0 where
  done : EndsEven x.done
  mepc : IsEven x.csrs

-- each kind of instruction ends so: plain ones and traps, loads, stores, accesses of CSRs, MRET and WFI
plain_ends : (s : State) (rd value next : ℕ) → IsAligned s → next % 2 ≡ 0 → Ends (plain s rd value next)
plain_ends s rd value next a n = record { done = n; mepc = tick_even s.csrs true None a.mepc }

-- a trap ends so: it names no next address, and leaves mepc
trap_ends : (s : State) (cause tval addr : ℕ) → IsAligned s → Ends (trap s cause tval addr)
trap_ends s cause tval addr a = record { done = tt; mepc = tick_even s.csrs false None a.mepc }

-- a load ends so: refused, unanswered or retired
load_ends : (s : State) (op : LoadOp) (rd addr next : ℕ) (refused error : Option ℕ) → IsAligned s → next % 2 ≡ 0
    → Ends (load_with s op rd addr next refused error)
load_ends s op rd addr next (Some at) error a n = trap_ends s 5 at addr a
load_ends s op rd addr next None (Some at) a n = trap_ends s 5 at addr a
load_ends s op rd addr next None None a n = record { done = n; mepc = tick_even s.csrs true None a.mepc }

-- a store ends so: refused, unanswered or retired with its bytes written
store_ends : (s : State) (size addr value next : ℕ) (refused error : Option ℕ) → IsAligned s → next % 2 ≡ 0
    → Ends (store_with s size addr value next refused error)
store_ends s size addr value next (Some at) error a n = trap_ends s 7 at addr a
store_ends s size addr value next None (Some at) a n = record { done = tt; mepc = tick_even s.csrs false None a.mepc }
store_ends s size addr value next None None a n = record { done = n; mepc = tick_even s.csrs true None a.mepc }

-- an access of a known CSR ends so: a read alone, an illegal write, and a write
csr_by : (s : State) (op : CsrOp) (rd addr source word next old : ℕ) (w1 w2 : Bool) (ctl : Option ℕ) → IsAligned s
    → next % 2 ≡ 0 → Ends (
    if not w1 then plain s rd old next else
    if not w2 then illegal s word else
    record {
      done = Retires (record { rd = rd; value = old; mem = None; ctl = ctl; next_pc = next });
      memory = s.memory;
      csrs = csr_write (csr_tick s.csrs true (Some addr)) addr (written op old source);
    })
csr_by s op rd addr source word next old false w2 ctl a n = plain_ends s rd old next a n
csr_by s op rd addr source word next old true false ctl a n = trap_ends s 2 word 0 a
csr_by s op rd addr source word next old true true ctl a n = record {
  done = n;
  mepc = write_even (csr_tick s.csrs true (Some addr)) addr (written op old source)
      (tick_even s.csrs true (Some addr) a.mepc);
}

-- an access ends so whether its CSR is known or not
csr_found : (s : State) (op : CsrOp) (rd src source addr word next : ℕ) (o : Option ℕ) → IsAligned s → next % 2 ≡ 0
    → Ends (csr_with s op rd src source addr word next o)
csr_found s op rd src source addr word next None a n = trap_ends s 2 word 0 a
csr_found s op rd src source addr word next (Some old) a n =
    csr_by s op rd addr source word next old (writes op src) (csr_can_write s.csrs addr)
    (if is_control_at addr then Some (written op old source) else None) a n

-- an access ends so, whatever its CSR reads
csr_ends : (s : State) (op : CsrOp) (rd src source addr word next lines : ℕ) → IsAligned s → next % 2 ≡ 0
    → Ends (csr_access s op rd src source addr word next lines)
unfolding csr_access
csr_ends s op rd src source addr word next lines a n =
    csr_found s op rd src source addr word next (csr_read s.csrs addr lines) a n

-- MRET retires to mepc, which is even, and is illegal in U mode
return_by : (s : State) (word : ℕ) (machine : Bool) → IsAligned s
    → Ends (
    if not machine then illegal s word else
    record {
      done = Retires (record { rd = 0; value = 0; mem = None; ctl = None; next_pc = s.csrs.mepc });
      memory = s.memory;
      csrs = with_trap_regs (csr_tick s.csrs true None) (leave_of (trap_regs s.csrs));
    })
return_by s word true a =
    record { done = a.mepc; mepc = trapped_even (csr_tick s.csrs true None) (leave_of (trap_regs s.csrs)) }
return_by s word false a = trap_ends s 2 word 0 a

-- MRET ends so in the mode of the state
return_ends : (s : State) (word : ℕ) → IsAligned s → Ends (return_from_trap s word)
unfolding return_from_trap
return_ends s word a = return_by s word s.csrs.machine a

-- a WFI retires to the following address, or is illegal
wait_ends : (s : State) (word next : ℕ) (may : Bool) → IsAligned s → next % 2 ≡ 0
    → Ends (if may then plain s 0 0 next else illegal s word)
wait_ends s word next true a n = plain_ends s 0 0 next a n
wait_ends s word next false a n = trap_ends s 2 word 0 a

-- so it is whether a branch is taken or not
if_taken : (b : Bool) (target next : ℕ) → target % 2 ≡ 0 → next % 2 ≡ 0 → (if b then target else next) % 2 ≡ 0
if_taken true target next t n = t
if_taken false target next t n = n

-- the next instruction's address is even: it follows, or the offset of a jump or a branch is even, or bit 0 of its
-- target is cleared
row_ends : (s : State) (insn : Insn) (word length lines : ℕ) → IsAligned s → IsWellFormed insn
    → following s length % 2 ≡ 0 → Ends (execute s insn word length lines)
unfolding execute load store
row_ends s (Lui rd imm) word length lines a f n = plain_ends s rd imm (following s length) a n
row_ends s (Auipc rd imm) word length lines a f n = plain_ends s rd ((s.pc + imm) % 2 ^ 32) (following s length) a n
row_ends s (Jal rd imm) word length lines a f n =
    plain_ends s rd (following s length) ((s.pc + imm) % 2 ^ 32) a (sum_even s.pc imm a.pc f.2)
row_ends s (Jalr rd rs1 imm) word length lines a f n =
    plain_ends s rd (following s length) ((reg s rs1 + imm) % 2 ^ 32 / 2 * 2) a
    (half_even ((reg s rs1 + imm) % 2 ^ 32))
row_ends s (Branch op rs1 rs2 imm) word length lines a f n =
    plain_ends s 0 0 (if branch_of op (reg s rs1) (reg s rs2) then (s.pc + imm) % 2 ^ 32 else following s length) a
    (if_taken (branch_of op (reg s rs1) (reg s rs2)) ((s.pc + imm) % 2 ^ 32) (following s length)
    (sum_even s.pc imm a.pc f.3) n)
row_ends s (Load op rd rs1 imm) word length lines a f n =
    let addr : ℕ = (reg s rs1 + imm) % 2 ^ 32 in
    load_ends s op rd addr (following s length) (refused_at s.csrs addr (size_of op) Read)
    (error_at s.memory.ram addr (size_of op)) a n
row_ends s (Store size rs1 rs2 imm) word length lines a f n =
    let addr : ℕ = (reg s rs1 + imm) % 2 ^ 32 in
    store_ends s size addr (reg s rs2) (following s length) (refused_at s.csrs addr size Write)
    (error_at s.memory.ram addr size) a n
row_ends s (AluImm op rd rs1 imm) word length lines a f n =
    plain_ends s rd (alu_of op (reg s rs1) imm) (following s length) a n
row_ends s (Alu op rd rs1 rs2) word length lines a f n =
    plain_ends s rd (alu_of op (reg s rs1) (reg s rs2)) (following s length) a n
row_ends s (MulDiv op rd rs1 rs2) word length lines a f n =
    plain_ends s rd (md_value op (reg s rs1) (reg s rs2)) (following s length) a n
row_ends s (Csr op rd src true addr) word length lines a f n =
    csr_ends s op rd src src addr word (following s length) lines a n
row_ends s (Csr op rd src false addr) word length lines a f n =
    csr_ends s op rd src (reg s src) addr word (following s length) lines a n
row_ends s Fence word length lines a f n = plain_ends s 0 0 (following s length) a n
row_ends s FenceI word length lines a f n = plain_ends s 0 0 (following s length) a n
row_ends s Ecall word length lines a f n = trap_ends s (if s.csrs.machine then 11 else 8) 0 0 a
row_ends s Ebreak word length lines a f n = trap_ends s 3 0 0 a
row_ends s Mret word length lines a f n = return_ends s word a
row_ends s Wfi word length lines a f n = wait_ends s word (following s length) (may_wait s.csrs) a n

-- ---- the state after it

-- so the state after an instruction is aligned, from how it ended up to what was fetched
ended_aligned : (pc : ℕ) (regs : List ℕ) (cycle word : ℕ) (ops : Option (ℕ × ℕ)) (after : Executed) (done : Done)
    → EndsEven done → IsEven after.csrs → IsAligned (stepped_by pc regs cycle word ops after done).next
ended_aligned pc regs cycle word ops after (Retires r) d m = record { pc = d; mepc = m }
ended_aligned pc regs cycle word ops after (Traps cause tval addr) d m = record {
  pc = target_even (trap_regs after.csrs) cause false;
  mepc = trapped_even after.csrs (enter_of (trap_regs after.csrs) pc cause false tval);
}

-- what an instruction did leads to an aligned state, where it ended so
finished_aligned : (pc : ℕ) (regs : List ℕ) (cycle word : ℕ) (ops : Option (ℕ × ℕ)) (x : Executed) → Ends x
    → IsAligned (finished pc regs cycle word ops x).next
unfolding finished
finished_aligned pc regs cycle word ops x e = ended_aligned pc regs cycle word ops x x.done e.done e.mepc

-- a decoded word leads to an aligned state, and so does one that fits no row
decoded_aligned : (s : State) (cycle word length lines : ℕ) (o : Option Insn) → IsAligned s → IfSome o IsWellFormed
    → length % 2 ≡ 0 → IsAligned (decoded s cycle word length lines o).next
decoded_aligned s cycle word length lines None a f e =
    finished_aligned s.pc s.regs cycle word None (illegal s word) (trap_ends s 2 word 0 a)
decoded_aligned s cycle word length lines (Some insn) a f e =
    finished_aligned s.pc s.regs cycle word (operands s insn) (execute s insn word length lines)
    (row_ends s insn word length lines a f (sum_even s.pc length a.pc e))

-- what was fetched is an instruction of an even length, with a word of 32 bits
abbrev IsEvenFetch : Fetched → Type 0
IsEvenFetch (Unsound addr) = Unit {0}
IsEvenFetch (Instruction word length) = (word < 2 ^ 32) × (length % 2 ≡ 0)

-- the state after what was fetched is aligned
fetched_aligned : (s : State) (cycle lines : ℕ) (f : Fetched) → IsAligned s → IsEvenFetch f
    → IsAligned (after_fetch s cycle lines f).next
fetched_aligned s cycle lines (Unsound addr) a f =
    finished_aligned s.pc s.regs cycle 0 None (trap s 1 addr 0) (trap_ends s 1 addr 0 a)
fetched_aligned s cycle lines (Instruction word length) a f =
    decoded_aligned s cycle word length lines (instruction_of word) a (instruction_of-sound word f.0) f.1

-- two parcels of 16 bits fetch so
fetch_by : (pc next first second : ℕ) (sound long sound2 : Bool) → first < 2 ^ 16 → second < 2 ^ 16
    → IsEvenFetch (
    if not sound then Unsound pc else
    if not long then Instruction first 2 else
    if not sound2 then Unsound next else
    Instruction (first + 2 ^ 16 * second) 4)
fetch_by pc next first second false long sound2 h k = tt
fetch_by pc next first second true false sound2 h k = (omega arith, refl)
fetch_by pc next first second true true false h k = tt
fetch_by pc next first second true true true h k = (omega arith, refl)

-- so each step keeps the state aligned: an instruction, an interrupt, and the counters' move to a later cycle
pub instruction_aligned : (s : State) (first second cycle lines : ℕ) → first < 2 ^ 16 → second < 2 ^ 16 → IsAligned s
    → IsAligned (instruction s first second cycle lines).next
unfolding instruction fetch
instruction_aligned s first second cycle lines h k a =
    fetched_aligned s cycle lines (fetch s first second) a
    (fetch_by s.pc ((s.pc + 2) % 2 ^ 32) first second (is_sound s.csrs s.memory.ram s.pc) (is_long first)
    (is_sound s.csrs s.memory.ram ((s.pc + 2) % 2 ^ 32)) h k)

-- an interrupt leads to an aligned state from any state
interrupted_aligned : (s : State) (number cycle : ℕ) → IsAligned (interrupted s number cycle).next
unfolding interrupted
interrupted_aligned s number cycle = record {
  pc = target_even (trap_regs s.csrs) number true;
  mepc = trapped_even (csr_tick s.csrs false None) (enter_of (trap_regs s.csrs) s.pc number true 0);
}

-- the counters' move to a cycle leaves the program counter and mepc even
pub moved_aligned : (s : State) (cycle : ℕ) → IsAligned s → IsAligned (at_cycle s cycle)
unfolding counters_after
moved_aligned s cycle a = record { pc = a.pc; mepc = a.mepc }

-- from an aligned state every step leads to one, and reset is one where the entry is even
pub stays_aligned : StaysAligned
unfolding step_with
stays_aligned lines s (Interrupt number) cycle p a = interrupted_aligned (at_cycle s cycle) number cycle
stays_aligned lines s (Parcels first second) cycle p a =
    instruction_aligned (at_cycle s cycle) first second cycle (lines cycle) p.0 p.1 (moved_aligned s cycle a)

-- reset is aligned where the image's entry is even, as mepc begins as 0
pub begins_aligned : BeginsAligned
unfolding reset_state csr_reset
begins_aligned image e = record { pc = e; mepc = refl }
