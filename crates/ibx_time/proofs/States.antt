-- A step of the architecture keeps what a valid state is.
use Rattle.std.proofs.Common.{◌≡◌, ℕ, ◌+◌, ◌-◌, ◌*◌, ◌/◌, ◌%◌, ◌^◌, ◌<◌, ◌&&◌, ◌==◌, not, Bool, true, false, List}
use Rattle.std.proofs.Common.{length, All, Option, Some, None, refl, sym, ◌∙◌, arith, if◌then◌else◌, slice_index}
use Rattle.std.proofs.Common.{slice_set, bit_and, nat_le, nat_lt}
use Rattle.std.specs.Prelude.{IfSome}
use Rattle.std.proofs.lemmas.Nat.{and_le_r, and_mod, mod_below}
use Rattle.std.proofs.lemmas.Bool.{eqb-false}
use Rattle.std.proofs.lemmas.List.{length-set, get_or-set_other}
use Rattle.ibx_elf.specs.declared.ram.Ram.{Ram}
use Rattle.ibx_elf.specs.Ram.{ram_has}
use Rattle.ibx_isa.specs.declared.insn.Insn.{Insn}
use Rattle.ibx_isa.specs.declared.insn.Insn.TheVariants.{Lui, Auipc, Jal, Jalr, Branch, Load, Store, AluImm, Alu}
use Rattle.ibx_isa.specs.declared.insn.Insn.TheVariants.{MulDiv, Csr, Fence, FenceI, Ecall, Ebreak, Mret, Wfi}
use Rattle.ibx_isa.specs.declared.insn.LoadOp.{LoadOp}
use Rattle.ibx_isa.specs.declared.insn.CsrOp.{CsrOp}
use Rattle.ibx_isa.specs.declared.trap.TrapRegs.{TrapRegs}
use Rattle.ibx_isa.specs.Alu.{alu_of, branch_of}
use Rattle.ibx_isa.specs.Multiply.{md_value}
use Rattle.ibx_csr.specs.Values.{csr_read, csr_can_write, csr_write, csr_tick, trap_regs, with_trap_regs, CsrValues}
use Rattle.ibx_isa.specs.Portions.{portion_addr, portion_size, size_of}
use Rattle.ibx_bits.specs.Bytes.{word_byte}
use Rattle.ibx_pmp.specs.declared.protection.AccessKind.{AccessKind}
use Rattle.ibx_pmp.specs.declared.protection.AccessKind.TheVariants.{Read, Write}
use Rattle.ibx_trap.specs.Traps.{enter_target, leave_of}
use Rattle.ibx_arch.specs.declared.done.Done.{Done}
use Rattle.ibx_arch.specs.declared.done.Done.TheVariants.{Retires, Traps}
use Rattle.ibx_arch.specs.declared.fetched.Fetched.{Fetched}
use Rattle.ibx_arch.specs.declared.fetched.Fetched.TheVariants.{Unsound, Instruction}
use Rattle.ibx_arch.specs.Access.{error_at, has_second, is_refused, refused_at, stored}
use Rattle.ibx_isa.specs.CsrWrites.{writes, written}
use Rattle.ibx_arch.specs.Effects.{Executed, execute, trap, illegal, plain, following, load, load_with, store}
use Rattle.ibx_arch.specs.Effects.{store_with, csr_with, csr_access, return_from_trap}
use Rattle.ibx_arch.specs.Fetch.{fetch, is_sound}
use Rattle.ibx_isa.specs.Lengths.{is_long}
use Rattle.ibx_decoder.specs.Instructions.{instruction_of}
use Rattle.ibx_arch.specs.Memory.{Memory, is_mapped, offset_from, read_byte, with_bytes}
use Rattle.ibx_arch.specs.State.{State, reg, at_cycle}
use Rattle.ibx_arch.specs.Step.{Choice, Interrupt, Parcels, after_fetch, decoded, stepped_by, finished, instruction}
use Rattle.ibx_arch.specs.Step.{interrupted, operands, step_with}
use Rattle.ibx_time.specs.Settings.{Settings, lines_in}
use Rattle.ibx_csr.specs.Widths.{IsWord, IsValues}
use Rattle.ibx_csr.proofs.Widths.{index_low, set_low, read_low, written_low, write_keeps, tick_keeps, counters_keep}
use Rattle.ibx_time.proofs.Values.{enter_keeps, leave_keeps}
use Rattle.ibx_time.proofs.Words.{alu_low, md_low, loaded_low}
use Rattle.ibx_csr.specs.Modes.{may_wait}
use Rattle.ibx_csr.specs.Bits.{is_control_at}
use Rattle.ibx_isa.specs.WellFormed.{IsWellFormed}
use Rattle.ibx_arch.proofs.Aligned.{instruction_of-sound}
use Rattle.ibx_arch.specs.Laws.{AreParcels}

-- what holds of the states of a story, whatever the cycle
pub record IsGood (ram : Ram) (x : State) : Type 0 where
  pub pc_even : x.pc % 2 ≡ 0
  pub pc_low : x.pc < 2 ^ 32
  pub csrs : IsValues x.csrs
  pub regs_count : length x.regs ≡ 32
  pub regs_low : All (λ v. v < 2 ^ 32) x.regs
  pub zero_is : slice_index x.regs 0 ≡ 0
  pub ram_is : x.memory.ram ≡ ram
  pub bytes : (a : ℕ) → x.memory.byte a < 256

-- ---- how an instruction ends

-- it has this RAM, and bytes
pub record IsGoodMemory (ram : Ram) (m : Memory) : Type 0 where
  pub ram_is : m.ram ≡ ram
  pub bytes : (a : ℕ) → m.byte a < 256

-- what retires leaves an even address and a word, and what traps has a word as its value
abbrev pub GoodDone : Done → Type 0
GoodDone (Retires r) = (r.next_pc % 2 ≡ 0) × ((r.next_pc < 2 ^ 32) × (r.value < 2 ^ 32))
GoodDone (Traps cause tval addr) = tval < 2 ^ 32

-- an instruction ends so, with good memory and registers in their widths
pub record IsGoodEnd (ram : Ram) (x : Executed) : Type 0 where
  pub done : GoodDone x.done
  pub memory : IsGoodMemory ram x.memory
  pub csrs : IsValues x.csrs

-- a good state has good memory
memory_of : (ram : Ram) (s : State) → IsGood ram s → IsGoodMemory ram s.memory
memory_of ram s g = record { ram_is = g.ram_is; bytes = g.bytes }

-- an instruction that retires or traps so
plain_end : (ram : Ram) (s : State) (rd value next : ℕ) → IsGood ram s → value < 2 ^ 32 → next % 2 ≡ 0 → next < 2 ^ 32
    → IsGoodEnd ram (plain s rd value next)
plain_end ram s rd value next g v e l =
    record { done = (e, (l, v)); memory = memory_of ram s g; csrs = tick_keeps s.csrs true None g.csrs }

-- a trap ends well where its value is a word
trap_end : (ram : Ram) (s : State) (cause tval addr : ℕ) → IsGood ram s → tval < 2 ^ 32
    → IsGoodEnd ram (trap s cause tval addr)
trap_end ram s cause tval addr g l =
    record { done = l; memory = memory_of ram s g; csrs = tick_keeps s.csrs false None g.csrs }

-- registers are words
pub reg_low : (ram : Ram) (s : State) (n : ℕ) → IsGood ram s → reg s n < 2 ^ 32
reg_low ram s n g = low_by (n == 0)
  where
    low_by : (b : Bool) → (if b then 0 else slice_index s.regs n) < 2 ^ 32
    low_by true = omega arith
    low_by false = index_low s.regs n g.regs_low

-- sums are words, and even where their parts are
sum_low : (n : ℕ) → n % 2 ^ 32 < 2 ^ 32
sum_low n = mod_below n (2 ^ 32) (omega arith)

-- the sum of two even numbers is even, cut to a word too
sum_even : (a b : ℕ) → a % 2 ≡ 0 → b % 2 ≡ 0 → (a + b) % 2 ^ 32 % 2 ≡ 0
sum_even a b ha hb = omega arith

-- a jump target whose lowest bit is cleared is even
half_even : (n : ℕ) → n / 2 * 2 % 2 ≡ 0
half_even n = omega arith

-- ---- memory

-- a byte stays a byte whichever of two it is
byte_if : (b : Bool) (x y : ℕ) → x < 256 → y < 256 → (if b then x else y) < 256
byte_if true x y hx hy = hx
byte_if false x y hx hy = hy

-- bytes that are put leave bytes: of a portion, and of a store
pub bytes_keep : (ram : Ram) (m : Memory) (addr from to value : ℕ) → IsGoodMemory ram m
    → IsGoodMemory ram (with_bytes m addr from to value)
unfolding with_bytes
bytes_keep ram m addr from to value g = record {
  ram_is = g.ram_is;
  bytes = λ a.
      byte_if (ram_has m.ram a && (nat_le from (offset_from addr a) && nat_lt (offset_from addr a) to))
      (word_byte value (offset_from addr a)) (m.byte a)
      (mod_below (value / 256 ^ offset_from addr a) 256 (omega arith)) (g.bytes a);
}

-- of two good memories either is good
stored_by : (ram : Ram) (x y : Memory) (b : Bool) → IsGoodMemory ram x → IsGoodMemory ram y
    → IsGoodMemory ram (if b then x else y)
stored_by ram x y true hx hy = hx
stored_by ram x y false hx hy = hy

-- a store leaves good memory, with its first portion alone or with both
pub stored_keeps : (ram : Ram) (m : Memory) (addr size value : ℕ) → IsGoodMemory ram m
    → IsGoodMemory ram (stored m addr size value)
unfolding stored
stored_keeps ram m addr size value g =
    let one : IsGoodMemory ram (with_bytes m addr 0 (portion_size addr size false) value) =
    bytes_keep ram m addr 0 (portion_size addr size false) value g in
    stored_by ram (with_bytes (with_bytes m addr 0 (portion_size addr size false) value) addr
    (portion_size addr size false) size value) (with_bytes m addr 0 (portion_size addr size false) value)
    (has_second addr size && is_mapped m.ram (portion_addr addr false))
    (bytes_keep ram (with_bytes m addr 0 (portion_size addr size false) value) addr (portion_size addr size false) size
    value one) one

-- what is read of memory are bytes
pub read_low_byte : (m : Memory) (a : ℕ) → ((u : ℕ) → m.byte u < 256) → read_byte m a < 256
read_low_byte m a h = byte_if (ram_has m.ram a) (m.byte a) 0 (h a) (omega arith)

-- ---- loads and stores

-- the addresses of portions are words, and so are those that are refused or not answered
portion_low : (addr : ℕ) (second : Bool) → addr < 2 ^ 32 → portion_addr addr second < 2 ^ 32
portion_low addr false h = h
portion_low addr true h = sum_low ((addr / 4 + 1) * 4)

-- the address of the portion that fails, if one does, is a word
some_if : (b c : Bool) (x y : ℕ) → x < 2 ^ 32 → y < 2 ^ 32
    → IfSome (if b then Some x else if c then Some y else None) IsWord
some_if true c x y hx hy = hx
some_if false true x y hx hy = hy
some_if false false x y hx hy = tt

-- the address that protection refuses is a word
refused_low : (csrs : CsrValues) (addr size : ℕ) (kind : AccessKind) → addr < 2 ^ 32
    → IfSome (refused_at csrs addr size kind) IsWord
unfolding refused_at
refused_low csrs addr size kind h =
    some_if (is_refused csrs addr size kind false) (has_second addr size && is_refused csrs addr size kind true)
    (portion_addr addr false) (portion_addr addr true) (portion_low addr false h) (portion_low addr true h)

-- the address that no memory answers is a word
error_low : (ram : Ram) (addr size : ℕ) → addr < 2 ^ 32 → IfSome (error_at ram addr size) IsWord
unfolding error_at
error_low ram addr size h =
    some_if (not (is_mapped ram (portion_addr addr false)))
    (has_second addr size && not (is_mapped ram (portion_addr addr true))) (portion_addr addr false)
    (portion_addr addr true) (portion_low addr false h) (portion_low addr true h)

-- loads and stores end well, by what is refused or not answered, and in every state
load_by : (ram : Ram) (s : State) (op : LoadOp) (rd addr next : ℕ) (refused error : Option ℕ) → IsGood ram s
    → IfSome refused IsWord → IfSome error IsWord → next % 2 ≡ 0 → next < 2 ^ 32
    → IsGoodEnd ram (load_with s op rd addr next refused error)
load_by ram s op rd addr next (Some at) error g r f e l = trap_end ram s 5 at addr g r
load_by ram s op rd addr next None (Some at) g r f e l = trap_end ram s 5 at addr g f
load_by ram s op rd addr next None None g r f e l = record {
  done = (
    e,
    (
      l,
      loaded_low op (λ k. read_byte s.memory ((addr + k) % 2 ^ 32))
          (λ k. read_low_byte s.memory ((addr + k) % 2 ^ 32) g.bytes),
    ),
  );
  memory = memory_of ram s g;
  csrs = tick_keeps s.csrs true None g.csrs;
}

-- so a load of a valid state ends well
load_end : (ram : Ram) (s : State) (op : LoadOp) (rd addr next : ℕ) → IsGood ram s → addr < 2 ^ 32 → next % 2 ≡ 0
    → next < 2 ^ 32 → IsGoodEnd ram (load s op rd addr next)
unfolding load
load_end ram s op rd addr next g h e l =
    load_by ram s op rd addr next (refused_at s.csrs addr (size_of op) Read) (error_at s.memory.ram addr (size_of op))
    g (refused_low s.csrs addr (size_of op) Read h) (error_low s.memory.ram addr (size_of op) h) e l

-- a store ends well whether it is refused, not answered or done
store_by : (ram : Ram) (s : State) (size addr value next : ℕ) (refused error : Option ℕ) → IsGood ram s
    → IfSome refused IsWord → IfSome error IsWord → next % 2 ≡ 0 → next < 2 ^ 32
    → IsGoodEnd ram (store_with s size addr value next refused error)
store_by ram s size addr value next (Some at) error g r f e l = trap_end ram s 7 at addr g r
store_by ram s size addr value next None (Some at) g r f e l = record {
  done = f;
  memory = stored_keeps ram s.memory addr size (value % 256 ^ size) (memory_of ram s g);
  csrs = tick_keeps s.csrs false None g.csrs;
}
store_by ram s size addr value next None None g r f e l = record {
  done = (e, (l, omega arith));
  memory = stored_keeps ram s.memory addr size (value % 256 ^ size) (memory_of ram s g);
  csrs = tick_keeps s.csrs true None g.csrs;
}

-- so a store of a valid state ends well
store_end : (ram : Ram) (s : State) (size addr value next : ℕ) → IsGood ram s → addr < 2 ^ 32 → next % 2 ≡ 0
    → next < 2 ^ 32 → IsGoodEnd ram (store s size addr value next)
unfolding store
store_end ram s size addr value next g h e l =
    store_by ram s size addr value next (refused_at s.csrs addr size Write) (error_at s.memory.ram addr size) g
    (refused_low s.csrs addr size Write h) (error_low s.memory.ram addr size h) e l

-- ---- CSRs, MRET and WFI

-- accesses of CSRs end well, by what was read, and so do MRET, WFI and branches
csr_by : (ram : Ram) (s : State) (op : CsrOp) (rd addr source word next old : ℕ) (w1 w2 : Bool) (ctl : Option ℕ)
    → IsGood ram s → old < 2 ^ 32 → source < 2 ^ 32 → word < 2 ^ 32 → next % 2 ≡ 0 → next < 2 ^ 32 → IsGoodEnd ram (
    if not w1 then plain s rd old next else
    if not w2 then illegal s word else
    record {
      done = Retires (record { rd = rd; value = old; mem = None; ctl = ctl; next_pc = next });
      memory = s.memory;
      csrs = csr_write (csr_tick s.csrs true (Some addr)) addr (written op old source);
    })
csr_by ram s op rd addr source word next old false w2 ctl g o so w e l = plain_end ram s rd old next g o e l
csr_by ram s op rd addr source word next old true false ctl g o so w e l = trap_end ram s 2 word 0 g w
csr_by ram s op rd addr source word next old true true ctl g o so w e l = record {
  done = (e, (l, o));
  memory = memory_of ram s g;
  csrs = write_keeps (csr_tick s.csrs true (Some addr)) addr (written op old source) (written_low op old source o so)
      (tick_keeps s.csrs true (Some addr) g.csrs);
}

-- an access ends well with what was read, and is illegal where nothing can be read
csr_found : (ram : Ram) (s : State) (op : CsrOp) (rd src source addr word next : ℕ) (o : Option ℕ) → IsGood ram s
    → IfSome o IsWord → source < 2 ^ 32 → word < 2 ^ 32 → next % 2 ≡ 0 → next < 2 ^ 32
    → IsGoodEnd ram (csr_with s op rd src source addr word next o)
csr_found ram s op rd src source addr word next None g o so w e l = trap_end ram s 2 word 0 g w
csr_found ram s op rd src source addr word next (Some old) g o so w e l =
    csr_by ram s op rd addr source word next old (writes op src) (csr_can_write s.csrs addr)
    (if is_control_at addr then Some (written op old source) else None) g o so w e l

-- an access to a CSR ends well where the interrupt lines, which mip shows, are a word
csr_end : (ram : Ram) (s : State) (op : CsrOp) (rd src source addr word next lines : ℕ) → IsGood ram s → lines < 2 ^ 32
    → source < 2 ^ 32 → word < 2 ^ 32 → next % 2 ≡ 0 → next < 2 ^ 32
    → IsGoodEnd ram (csr_access s op rd src source addr word next lines)
unfolding csr_access
csr_end ram s op rd src source addr word next lines g h so w e l =
    csr_found ram s op rd src source addr word next (csr_read s.csrs addr lines) g
    (read_low s.csrs addr lines g.csrs h) so w e l

-- MRET goes to mepc, which is an even word, and in user mode it traps
return_by : (ram : Ram) (s : State) (word : ℕ) (machine : Bool) → IsGood ram s → word < 2 ^ 32
    → IsGoodEnd ram (
    if not machine then illegal s word else
    record {
      done = Retires (record { rd = 0; value = 0; mem = None; ctl = None; next_pc = s.csrs.mepc });
      memory = s.memory;
      csrs = with_trap_regs (csr_tick s.csrs true None) (leave_of (trap_regs s.csrs));
    })
return_by ram s word true g w = record {
  done = (g.csrs.mepc_even, (g.csrs.mepc, omega arith));
  memory = memory_of ram s g;
  csrs = leave_keeps (csr_tick s.csrs true None) s.csrs g.csrs.mtval (tick_keeps s.csrs true None g.csrs);
}
return_by ram s word false g w = trap_end ram s 2 word 0 g w

-- so MRET ends well in either mode
return_end : (ram : Ram) (s : State) (word : ℕ) → IsGood ram s → word < 2 ^ 32
    → IsGoodEnd ram (return_from_trap s word)
unfolding return_from_trap
return_end ram s word g w = return_by ram s word s.csrs.machine g w

-- WFI ends well, whether it may wait or is illegal
wait_by : (ram : Ram) (s : State) (word next : ℕ) (may : Bool) → IsGood ram s → word < 2 ^ 32 → next % 2 ≡ 0
    → next < 2 ^ 32 → IsGoodEnd ram (if may then plain s 0 0 next else illegal s word)
wait_by ram s word next true g w e l = plain_end ram s 0 0 next g (omega arith) e l
wait_by ram s word next false g w e l = trap_end ram s 2 word 0 g w

-- a branch ends well, taken or not, where both addresses are even words
branch_end : (ram : Ram) (s : State) (target next : ℕ) (b : Bool) → IsGood ram s → target % 2 ≡ 0 → target < 2 ^ 32
    → next % 2 ≡ 0 → next < 2 ^ 32 → IsGoodEnd ram (plain s 0 0 (if b then target else next))
branch_end ram s target next true g te tl e l = plain_end ram s 0 0 target g (omega arith) te tl
branch_end ram s target next false g te tl e l = plain_end ram s 0 0 next g (omega arith) e l

-- ---- the rows

-- each instruction of a valid state ends well
row_end : (ram : Ram) (s : State) (insn : Insn) (word length lines : ℕ) → IsGood ram s → IsWellFormed insn
    → word < 2 ^ 32 → length % 2 ≡ 0 → lines < 2 ^ 32 → IsGoodEnd ram (execute s insn word length lines)
unfolding execute
row_end ram s (Lui rd imm) word length lines g f w e h =
    plain_end ram s rd imm (following s length) g f.1 (sum_even s.pc length g.pc_even e) (sum_low (s.pc + length))
row_end ram s (Auipc rd imm) word length lines g f w e h =
    plain_end ram s rd ((s.pc + imm) % 2 ^ 32) (following s length) g (sum_low (s.pc + imm))
    (sum_even s.pc length g.pc_even e) (sum_low (s.pc + length))
row_end ram s (Jal rd imm) word length lines g f w e h =
    plain_end ram s rd (following s length) ((s.pc + imm) % 2 ^ 32) g (sum_low (s.pc + length))
    (sum_even s.pc imm g.pc_even f.2) (sum_low (s.pc + imm))
row_end ram s (Jalr rd rs1 imm) word length lines g f w e h =
    plain_end ram s rd (following s length) ((reg s rs1 + imm) % 2 ^ 32 / 2 * 2) g (sum_low (s.pc + length))
    (half_even ((reg s rs1 + imm) % 2 ^ 32)) (omega (arith, sum_low (reg s rs1 + imm)))
row_end ram s (Branch op rs1 rs2 imm) word length lines g f w e h =
    branch_end ram s ((s.pc + imm) % 2 ^ 32) (following s length) (branch_of op (reg s rs1) (reg s rs2)) g
    (sum_even s.pc imm g.pc_even f.3) (sum_low (s.pc + imm)) (sum_even s.pc length g.pc_even e)
    (sum_low (s.pc + length))
row_end ram s (Load op rd rs1 imm) word length lines g f w e h =
    load_end ram s op rd ((reg s rs1 + imm) % 2 ^ 32) (following s length) g (sum_low (reg s rs1 + imm))
    (sum_even s.pc length g.pc_even e) (sum_low (s.pc + length))
row_end ram s (Store size rs1 rs2 imm) word length lines g f w e h =
    store_end ram s size ((reg s rs1 + imm) % 2 ^ 32) (reg s rs2) (following s length) g (sum_low (reg s rs1 + imm))
    (sum_even s.pc length g.pc_even e) (sum_low (s.pc + length))
row_end ram s (AluImm op rd rs1 imm) word length lines g f w e h =
    plain_end ram s rd (alu_of op (reg s rs1) imm) (following s length) g
    (alu_low op (reg s rs1) imm (reg_low ram s rs1 g) f.2) (sum_even s.pc length g.pc_even e) (sum_low (s.pc + length))
row_end ram s (Alu op rd rs1 rs2) word length lines g f w e h =
    plain_end ram s rd (alu_of op (reg s rs1) (reg s rs2)) (following s length) g
    (alu_low op (reg s rs1) (reg s rs2) (reg_low ram s rs1 g) (reg_low ram s rs2 g)) (sum_even s.pc length g.pc_even e)
    (sum_low (s.pc + length))
row_end ram s (MulDiv op rd rs1 rs2) word length lines g f w e h =
    plain_end ram s rd (md_value op (reg s rs1) (reg s rs2)) (following s length) g
    (md_low op (reg s rs1) (reg s rs2) (reg_low ram s rs1 g) (reg_low ram s rs2 g)) (sum_even s.pc length g.pc_even e)
    (sum_low (s.pc + length))
row_end ram s (Csr op rd src true addr) word length lines g f w e h =
    csr_end ram s op rd src src addr word (following s length) lines g h (omega (arith, f.1)) w
    (sum_even s.pc length g.pc_even e) (sum_low (s.pc + length))
row_end ram s (Csr op rd src false addr) word length lines g f w e h =
    csr_end ram s op rd src (reg s src) addr word (following s length) lines g h (reg_low ram s src g) w
    (sum_even s.pc length g.pc_even e) (sum_low (s.pc + length))
row_end ram s Fence word length lines g f w e h =
    plain_end ram s 0 0 (following s length) g (omega arith) (sum_even s.pc length g.pc_even e)
    (sum_low (s.pc + length))
row_end ram s FenceI word length lines g f w e h =
    plain_end ram s 0 0 (following s length) g (omega arith) (sum_even s.pc length g.pc_even e)
    (sum_low (s.pc + length))
row_end ram s Ecall word length lines g f w e h = trap_end ram s (if s.csrs.machine then 11 else 8) 0 0 g (omega arith)
row_end ram s Ebreak word length lines g f w e h = trap_end ram s 3 0 0 g (omega arith)
row_end ram s Mret word length lines g f w e h = return_end ram s word g w
row_end ram s Wfi word length lines g f w e h =
    wait_by ram s word (following s length) (may_wait s.csrs) g w (sum_even s.pc length g.pc_even e)
    (sum_low (s.pc + length))

-- ---- the state after it

-- handlers begin at even words
base_low : (mtvec : ℕ) → bit_and mtvec (2 ^ 32 - 1 - 0xff) < 2 ^ 32
base_low mtvec = omega (arith, and_le_r mtvec (2 ^ 32 - 1 - 0xff))

-- the base of the handlers is even, since its lowest byte is cleared
base_even : (mtvec : ℕ) → bit_and mtvec (2 ^ 32 - 1 - 0xff) % 2 ≡ 0
base_even mtvec = and_mod mtvec (2 ^ 32 - 1 - 0xff) 1 ∙ omega (arith, and_le_r (mtvec % 2 ^ 1) 0)

-- a write of a register leaves x0 at 0, as many registers, and words
zero_stays : (regs : List ℕ) (n value : ℕ) (b : Bool) → (n == 0) ≡ b → slice_index regs 0 ≡ 0
    → slice_index (if b then regs else slice_set regs n value) 0 ≡ 0
zero_stays regs n value true e z = z
zero_stays regs n value false e z = get_or-set_other regs n 0 value 0 (λ same. eqb-false n 0 e (sym same)) ∙ z

-- a write of a register leaves as many of them
count_stays : (regs : List ℕ) (n value : ℕ) (b : Bool)
    → length (if b then regs else slice_set regs n value) ≡ length regs
count_stays regs n value true = refl
count_stays regs n value false = length-set regs n value

-- a write of a word leaves registers that are words
low_stays : (regs : List ℕ) (n value : ℕ) (b : Bool) → value < 2 ^ 32 → All (λ v. v < 2 ^ 32) regs
    → All (λ v. v < 2 ^ 32) (if b then regs else slice_set regs n value)
low_stays regs n value true h z = z
low_stays regs n value false h z = set_low regs n value h z

-- so handlers do with vectored interrupts too
target_even : (r : TrapRegs) (cause : ℕ) (irq : Bool) → enter_target r cause irq % 2 ≡ 0
unfolding enter_target
target_even r cause true = sum_even (bit_and r.mtvec (2 ^ 32 - 1 - 0xff)) (4 * cause) (base_even r.mtvec) (omega arith)
target_even r cause false = base_even r.mtvec

-- the address of a handler is a word, with vectored interrupts too
target_low : (r : TrapRegs) (cause : ℕ) (irq : Bool) → enter_target r cause irq < 2 ^ 32
unfolding enter_target
target_low r cause true = sum_low (bit_and r.mtvec (2 ^ 32 - 1 - 0xff) + 4 * cause)
target_low r cause false = base_low r.mtvec

-- so the state after an instruction is valid, from how it ended up to the decoded word
ended_good : (ram : Ram) (s : State) (c word : ℕ) (ops : Option (ℕ × ℕ)) (after : Executed) (d : Done) → IsGood ram s
    → GoodDone d → IsGoodMemory ram after.memory → IsValues after.csrs
    → IsGood ram (stepped_by s.pc s.regs c word ops after d).next
ended_good ram s c word ops after (Retires r) g d m v = record {
  pc_even = d.0;
  pc_low = d.1.0;
  csrs = v;
  regs_count = count_stays s.regs r.rd r.value (r.rd == 0) ∙ g.regs_count;
  regs_low = low_stays s.regs r.rd r.value (r.rd == 0) d.1.1 g.regs_low;
  zero_is = zero_stays s.regs r.rd r.value (r.rd == 0) refl g.zero_is;
  ram_is = m.ram_is;
  bytes = m.bytes;
}
ended_good ram s c word ops after (Traps cause tval addr) g d m v = record {
  pc_even = target_even (trap_regs after.csrs) cause false;
  pc_low = target_low (trap_regs after.csrs) cause false;
  csrs = enter_keeps after.csrs after.csrs s.pc cause tval false d v;
  regs_count = g.regs_count;
  regs_low = g.regs_low;
  zero_is = g.zero_is;
  ram_is = m.ram_is;
  bytes = m.bytes;
}

-- the state after an instruction that ends well is valid
finished_good : (ram : Ram) (s : State) (c word : ℕ) (ops : Option (ℕ × ℕ)) (x : Executed) → IsGood ram s
    → IsGoodEnd ram x → IsGood ram (finished s.pc s.regs c word ops x).next
unfolding finished
finished_good ram s c word ops x g e = ended_good ram s c word ops x x.done g e.done e.memory e.csrs

-- so it is after a decoded word, and after one that fits no row and is illegal
decoded_good : (ram : Ram) (s : State) (c word length lines : ℕ) (o : Option Insn) → IsGood ram s
    → IfSome o IsWellFormed → word < 2 ^ 32 → length % 2 ≡ 0 → lines < 2 ^ 32
    → IsGood ram (decoded s c word length lines o).next
decoded_good ram s c word length lines None g f w e h =
    finished_good ram s c word None (illegal s word) g (trap_end ram s 2 word 0 g w)
decoded_good ram s c word length lines (Some insn) g f w e h =
    finished_good ram s c word (operands s insn) (execute s insn word length lines) g
    (row_end ram s insn word length lines g f w e h)

-- what was fetched is a word with an even length, or an address of 32 bits
abbrev pub GoodFetched : Fetched → Type 0
GoodFetched (Unsound addr) = addr < 2 ^ 32
GoodFetched (Instruction word length) = (word < 2 ^ 32) × (length % 2 ≡ 0)

-- so is the state after what was fetched
fetched_good : (ram : Ram) (s : State) (c lines : ℕ) (f : Fetched) → IsGood ram s → GoodFetched f → lines < 2 ^ 32
    → IsGood ram (after_fetch s c lines f).next
fetched_good ram s c lines (Unsound addr) g f h =
    finished_good ram s c 0 None (trap s 1 addr 0) g (trap_end ram s 1 addr 0 g f)
fetched_good ram s c lines (Instruction word length) g f h =
    decoded_good ram s c word length lines (instruction_of word) g (instruction_of-sound word f.0) f.0 f.1 h

-- two parcels of 16 bits fetch so
fetch_by : (ram : Ram) (s : State) (first second : ℕ) (a b c : Bool) → IsGood ram s → first < 2 ^ 16 → second < 2 ^ 16
    → GoodFetched (
    if not a then Unsound s.pc else
    if not b then Instruction first 2 else
    if not c then Unsound ((s.pc + 2) % 2 ^ 32) else
    Instruction (first + 2 ^ 16 * second) 4)
fetch_by ram s first second false b c g h1 h2 = g.pc_low
fetch_by ram s first second true false c g h1 h2 = (omega arith, refl)
fetch_by ram s first second true true false g h1 h2 = sum_low (s.pc + 2)
fetch_by ram s first second true true true g h1 h2 = (omega arith, refl)

-- two parcels of a valid state fetch a word of even length, or the address of an unsound parcel
pub fetch_good : (ram : Ram) (s : State) (first second : ℕ) → IsGood ram s → first < 2 ^ 16 → second < 2 ^ 16
    → GoodFetched (fetch s first second)
unfolding fetch
fetch_good ram s first second g h1 h2 =
    fetch_by ram s first second (is_sound s.csrs s.memory.ram s.pc) (is_long first)
    (is_sound s.csrs s.memory.ram ((s.pc + 2) % 2 ^ 32)) g h1 h2

-- so is the state after parcels, after an interrupt, and at a later cycle
instruction_good : (ram : Ram) (s : State) (first second c lines : ℕ) → IsGood ram s → first < 2 ^ 16 → second < 2 ^ 16
    → lines < 2 ^ 32 → IsGood ram (instruction s first second c lines).next
unfolding instruction
instruction_good ram s first second c lines g h1 h2 h =
    fetched_good ram s c lines (fetch s first second) g (fetch_good ram s first second g h1 h2) h

-- an interrupt leaves a valid state at an even handler
interrupted_good : (ram : Ram) (s : State) (number c : ℕ) → IsGood ram s → IsGood ram (interrupted s number c).next
unfolding interrupted
interrupted_good ram s number c g = record {
  pc_even = target_even (trap_regs s.csrs) number true;
  pc_low = target_low (trap_regs s.csrs) number true;
  csrs = enter_keeps (csr_tick s.csrs false None) s.csrs s.pc number 0 true (omega arith)
      (tick_keeps s.csrs false None g.csrs);
  regs_count = g.regs_count;
  regs_low = g.regs_low;
  zero_is = g.zero_is;
  ram_is = g.ram_is;
  bytes = g.bytes;
}

-- a valid state is valid with its counters moved to a cycle
pub moved_good : (ram : Ram) (s : State) (c : ℕ) → IsGood ram s → IsGood ram (at_cycle s c)
moved_good ram s c g = record {
  pc_even = g.pc_even;
  pc_low = g.pc_low;
  csrs = counters_keep s.csrs (c - s.stands) g.csrs;
  regs_count = g.regs_count;
  regs_low = g.regs_low;
  zero_is = g.zero_is;
  ram_is = g.ram_is;
  bytes = g.bytes;
}

-- a step keeps what a valid state is, where the interrupt lines of its cycle are a word
pub step_good : (ram : Ram) (k : Settings) (s : State) (choice : Choice) (c : ℕ) → IsGood ram s → AreParcels choice
    → lines_in k c < 2 ^ 32 → IsGood ram (step_with (lines_in k) s choice c).next
unfolding step_with
step_good ram k s (Interrupt number) c g p h = interrupted_good ram (at_cycle s c) number c (moved_good ram s c g)
step_good ram k s (Parcels first second) c g p h =
    instruction_good ram (at_cycle s c) first second c (lines_in k c) (moved_good ram s c g) p.0 p.1 h
