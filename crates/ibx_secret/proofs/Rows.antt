-- What each instruction does in two states that agree off the marks.
use Rattle.std.proofs.Common.{◌≡◌, ℕ, ◌+◌, ◌%◌, ◌^◌, ◌∙◌, ◌&&◌, ◌||◌, ◌==◌, not, Bool, true, false, List, Option}
use Rattle.std.proofs.Common.{Some, None, refl, ap, if◌then◌else◌}
use Rattle.std.specs.Prelude.{bit_and}
use Rattle.ibx_elf.specs.declared.ram.Ram.{Ram}
use Rattle.ibx_isa.specs.declared.insn.Insn.{Insn}
use Rattle.ibx_isa.specs.declared.insn.Insn.TheVariants.{Branch, Load, Store}
use Rattle.ibx_isa.specs.declared.insn.Insn.TheVariants.{MulDiv, Mret, Wfi}
use Rattle.ibx_isa.specs.declared.insn.LoadOp.{LoadOp}
use Rattle.ibx_isa.specs.declared.insn.MdOp.{MdOp}
use Rattle.ibx_isa.specs.declared.insn.MdOp.TheVariants.{Mul, Mulh, Mulhsu, Mulhu, Div, Divu, Rem, Remu}
use Rattle.ibx_isa.specs.declared.insn.MulKind.{MulKind}
use Rattle.ibx_isa.specs.declared.insn.MulKind.TheVariants.{Single, Fast, Slow}
use Rattle.ibx_isa.specs.declared.event.Access.{Access}
use Rattle.ibx_isa.specs.declared.event.View.{View}
use Rattle.ibx_isa.specs.Views.{view_of, access_addr}
use Rattle.ibx_isa.specs.Alu.{branch_of}
use Rattle.ibx_isa.specs.Multiply.{md_value}
use Rattle.ibx_isa.specs.Cost.{md_cost_of}
use Rattle.ibx_isa.specs.ControlBits.{data_ind_timing}
use Rattle.ibx_csr.specs.Values.{CsrValues, csr_tick, trap_regs, with_trap_regs}
use Rattle.ibx_trap.specs.Traps.{enter_target, leave_of}
use Rattle.ibx_arch.specs.declared.done.Done.TheVariants.{Retires, Traps}
use Rattle.ibx_arch.specs.Memory.{Memory}
use Rattle.ibx_arch.specs.State.{reg}
use Rattle.ibx_arch.specs.Effects.{Executed, plain, trap, illegal, following, execute, load_with, store_with}
use Rattle.ibx_arch.specs.Memory.{is_mapped, with_bytes}
use Rattle.ibx_arch.specs.Access.{has_second, stored}
use Rattle.ibx_isa.specs.Portions.{size_of, loaded, portion_addr, portion_size}
use Rattle.ibx_isa.specs.Causes.{illegal_instruction, load_fault, store_fault}
use Rattle.ibx_isa.specs.declared.insn.BranchOp.{BranchOp}
use Rattle.ibx_bits.specs.Platform.{halt_register}
use Rattle.ibx_arch.specs.Step.{Stepped, stepped_by, finished, operands}
use Rattle.ibx_time.specs.Settings.{Settings}
use Rattle.ibx_time.specs.Controls.{Ctl, ctl_of, is_fixed}
use Rattle.ibx_time.specs.Items.{Item, item_of, retired_item, trap_parcels, parcels_of, portions_for, operand2}
use Rattle.ibx_time.specs.Items.{branching}
use Rattle.ibx_time.specs.Items.{is_turned, plain as plain_item}
use Rattle.ibx_time.specs.History.{halts}
use Rattle.ibx_decoder.specs.Instructions.{instruction_of}
use Rattle.ibx_secret.specs.Marks.{Marks, mark_reg, marks_entered, marks_by, is_any, tried_marks}
use Rattle.ibx_secret.specs.Leaks.{hangs, is_blind, leaks_by}
use Rattle.ibx_secret.specs.Twins.{Shared, Private, AreRegs, AreAlike, AgreeOff, bare}
use Rattle.ibx_secret.proofs.Places.{AreBytes, memory_of, written_alike, reg_alike, read_alike, left_of, right_of}
use Rattle.ibx_secret.proofs.Places.{stored_alike, tried_alike, untried_alike}
use Rattle.ibx_secret.proofs.Csrs.{csrs_of, state_of, Guarded, guarded_of, CsrsAgree, agree_reg, tick_agrees}
use Rattle.ibx_secret.proofs.Csrs.{ticked, ticked_alike, enter_agrees, leave_agrees}

-- ---- what is said of an instruction

-- the item of a view by its instruction
abbrev pub item_by : Settings → Ctl → View → Option Insn → Item
item_by k c v o =
    if v.kind == 2 then record (plain_item 0) { redirects = true } else
    if v.kind == 1 then record (plain_item (trap_parcels v))
    { portions = portions_for k c o v.addr; cost = 1; redirects = true } else
    retired_item k c v o (plain_item (parcels_of v.word))

pub item_is : (k : Settings) (c : Ctl) (v : View) → item_of k c v ≡ item_by k c v (instruction_of v.word)
unfolding item_of
item_is k c v = refl

-- two steps with this instruction are twins
pub record RowAlike (k : Settings) (c : Ctl) (o : Option Insn) (m : Marks) (x y : Stepped) : Type 0 where
  pub seen : bare (view_of x.event) ≡ bare (view_of y.event)
  pub item : item_by k c (view_of x.event) o ≡ item_by k c (view_of y.event) o
  pub halts : halts x.event ≡ halts y.event
  pub next : AgreeOff m x.next y.next

-- ---- states that agree

-- the shared part of a state
abbrev shared_by : ℕ → ℕ → Ram → Guarded → Shared
shared_by pc stands ram g = record {
  pc = pc;
  stands = stands;
  ram = ram;
  machine = g.machine;
  mstatus = g.mstatus;
  mie = g.mie;
  mtvec = g.mtvec;
  cpuctrl = g.cpuctrl;
  mcountinhibit = g.mcountinhibit;
  pmpcfg = g.pmpcfg;
  pmpaddr = g.pmpaddr;
  mseccfg = g.mseccfg;
}

pub agree_made : (m : Marks) (pc pc2 stands : ℕ) (xs ys : List ℕ) (f g : Memory) (u v : CsrValues) → pc ≡ pc2
    → AreRegs m.reg xs ys → f.ram ≡ g.ram → AreBytes m.byte f.byte g.byte → CsrsAgree m u v
    → AgreeOff m (record { pc = pc; regs = xs; memory = f; csrs = u; stands = stands })
    (record { pc = pc2; regs = ys; memory = g; csrs = v; stands = stands })
agree_made m pc pc2 stands xs ys f g u v p r a b c = record {
  shared =
      ap (λ n. shared_by n stands f.ram (guarded_of u)) p ∙ ap (λ n. shared_by pc2 stands n (guarded_of u)) a
      ∙ ap (shared_by pc2 stands g.ram) c.guarded;
  alike = record {
    regs = r;
    byte = b;
    mscratch = c.mscratch;
    mepc = c.mepc;
    mcause = c.mcause;
    mtval = c.mtval;
    mcycle = c.mcycle;
    minstret = c.minstret;
  };
}

-- the mark of a register is none of the bytes'
bytes_reg : (m : Marks) (f g : ℕ → ℕ) (rd : ℕ) (mark : Bool) → AreBytes m.byte f g
    → AreBytes (mark_reg m rd mark).byte f g
bytes_reg m f g rd mark r = by (rd == 0)
  where
    by : (zeroth : Bool)
        → AreBytes (if zeroth then m else record m { reg = λ n. if n == rd then mark else m.reg n }).byte f g
    by true = r
    by false = r

-- other marks of bytes change nothing for the CSRs
pub agree_bytes : (m : Marks) (b e : ℕ → Bool) (u v : CsrValues) → CsrsAgree m u v
    → CsrsAgree (record m { byte = b; ever = e }) u v
agree_bytes m b e u v c = record {
  guarded = c.guarded;
  mscratch = c.mscratch;
  mepc = c.mepc;
  mcause = c.mcause;
  mtval = c.mtval;
  mcycle = c.mcycle;
  minstret = c.minstret;
}

-- a cost that doesn't hang on its operand is the same for all
cost_even : (op : MdOp) (mul : MulKind) (v w : ℕ) → hangs op false mul ≡ false
    → md_cost_of op v false mul ≡ md_cost_of op w false mul
unfolding md_cost_of lib.Count.count_leading_zeros
cost_even Mul Single v w e = refl
cost_even Mul Fast v w e = refl
cost_even Mul Slow v w e = absurd (cc)
cost_even Mulh mul v w e = refl
cost_even Mulhsu mul v w e = refl
cost_even Mulhu mul v w e = refl
cost_even Div mul v w e = absurd (cc)
cost_even Divu mul v w e = absurd (cc)
cost_even Rem mul v w e = absurd (cc)
cost_even Remu mul v w e = absurd (cc)

-- so it is where the operand isn't marked, or the cost doesn't hang on it
cost_alike : (op : MdOp) (mul : MulKind) (v w : ℕ) (mark : Bool) → (mark && hangs op false mul) ≡ false
    → (mark ≡ false → v ≡ w) → md_cost_of op v false mul ≡ md_cost_of op w false mul
cost_alike op mul v w true e val = cost_even op mul v w e
cost_alike op mul v w false e val = ap (λ n. md_cost_of op n false mul) (val refl)

-- two stores end the run alike
halt_alike : (word there mark : Bool) (v w : ℕ) → ((word && there) && mark) ≡ false → (mark ≡ false → v ≡ w)
    → (word && (there && v % 2 == 1)) ≡ (word && (there && w % 2 == 1))
halt_alike true true true v w e val = absurd (cc)
halt_alike true true false v w e val = ap (λ n. n % 2 == 1) (val refl)
halt_alike true false mark v w e val = refl
halt_alike false there mark v w e val = refl

-- a store leaves the range of RAM
stored_ram : (ram : Ram) (f g : ℕ → ℕ) (addr size v w : ℕ)
    → (stored (memory_of ram f) addr size v).ram ≡ (stored (memory_of ram g) addr size w).ram
unfolding stored with_bytes
stored_ram ram f g addr size v w = by (has_second addr size && is_mapped ram (portion_addr addr false))
  where
    by : (two : Bool)
        → (if two then with_bytes (with_bytes (memory_of ram f) addr 0 (portion_size addr size false) v) addr
        (portion_size addr size false) size v
        else with_bytes (memory_of ram f) addr 0 (portion_size addr size false) v).ram
        ≡ (if two then with_bytes (with_bytes (memory_of ram g) addr 0 (portion_size addr size false) w) addr
        (portion_size addr size false) size w
        else with_bytes (memory_of ram g) addr 0 (portion_size addr size false) w).ram
    by true = refl
    by false = refl

module _ (k : Settings) (q : Shared) (x y : Private) (cycle : ℕ) where
  -- the registers that time depends on are the same
  abbrev ctl_here : Ctl
  ctl_here = ctl_of (csrs_of q x)

  -- ---- the two ways to end

  -- it retires
  abbrev pub retired_by : Private → ℕ → Option (ℕ × ℕ) → ℕ → ℕ → Option Access → Option ℕ → ℕ → Memory → CsrValues
      → Stepped
  retired_by z word ops rd value mem ctl next f u =
      stepped_by q.pc z.regs cycle word ops (record { done = Traps 0 0 0; memory = f; csrs = u })
      (Retires (record { rd = rd; value = value; mem = mem; ctl = ctl; next_pc = next }))

  pub retire_alike : (o : Option Insn) (n : Marks) (word : ℕ) (ops ops2 : Option (ℕ × ℕ)) (rd v w : ℕ)
      (mem mem2 : Option Access) (ctl ctl2 : Option ℕ) (next next2 : ℕ) (f g : Memory) (u t : CsrValues)
      (mark : Bool) → (mark ≡ false → v ≡ w) → next ≡ next2 → access_addr mem ≡ access_addr mem2 → ctl ≡ ctl2
      → halts (retired_by x word ops rd v mem ctl next f u).event
      ≡ halts (retired_by y word ops2 rd w mem2 ctl2 next2 g t).event
      → item_by k ctl_here (view_of (retired_by x word ops rd v mem ctl next f u).event) o
      ≡ item_by k ctl_here (view_of (retired_by y word ops2 rd w mem2 ctl2 next2 g t).event) o
      → AreRegs n.reg x.regs y.regs → f.ram ≡ g.ram → AreBytes n.byte f.byte g.byte → CsrsAgree n u t
      → RowAlike k ctl_here o (mark_reg n rd mark) (retired_by x word ops rd v mem ctl next f u)
      (retired_by y word ops2 rd w mem2 ctl2 next2 g t)
  unfolding view_of
  retire_alike o n word ops ops2 rd v w mem mem2 ctl ctl2 next next2 f g u t mark val nx ac ct ha it re ra by_ cs =
      record {
        seen =
            ap (λ a. record {
              kind = 0;
              pc = q.pc;
              word = word;
              addr = a;
              ctl = ctl;
              ops = None;
              cause = 0;
              tval = 0;
            }) ac
            ∙ ap (λ a. record {
              kind = 0;
              pc = q.pc;
              word = word;
              addr = access_addr mem2;
              ctl = a;
              ops = None;
              cause = 0;
              tval = 0;
            }) ct;
        item = it;
        halts = ha;
        next =
            agree_made (mark_reg n rd mark) next next2 (cycle + 1) _ _ f g u t nx
            (written_alike n x.regs y.regs rd v w mark re val) ra (bytes_reg n f.byte g.byte rd mark by_)
            (agree_reg n u t rd mark cs);
      }

  -- it traps
  abbrev pub trapped_by : Private → ℕ → Option (ℕ × ℕ) → ℕ → ℕ → ℕ → Memory → Stepped
  trapped_by z word ops cause tval addr f =
      stepped_by q.pc z.regs cycle word ops
      (record { done = Traps 0 0 0; memory = f; csrs = csr_tick (csrs_of q z) false None }) (Traps cause tval addr)

  pub trap_alike : (o : Option Insn) (m : Marks) (b e : ℕ → Bool) (word : ℕ) (ops ops2 : Option (ℕ × ℕ))
      (cause tval addr : ℕ) (f g : Memory) → AreAlike m x y → f.ram ≡ g.ram → AreBytes b f.byte g.byte
      → RowAlike k ctl_here o (marks_entered (record m { byte = b; ever = e }))
      (trapped_by x word ops cause tval addr f) (trapped_by y word ops2 cause tval addr g)
  unfolding view_of enter_target csr_tick
  trap_alike o m b e word ops ops2 cause tval addr f g s ra by_ = record {
    seen = refl;
    item = refl;
    halts = refl;
    next =
        agree_made (marks_entered (record m { byte = b; ever = e })) _ _ (cycle + 1) x.regs y.regs f g _ _ refl s.regs
        ra by_
        (agree_bytes (marks_entered m) b e _ _
        (enter_agrees m q (ticked q false None x) (ticked q false None y) q.pc cause false tval
        (ticked_alike m q false None x y s)));
  }

  -- what MRET and WFI do, by what the mode allows
  abbrev returned : Private → ℕ → Bool → Executed
  returned z word machine =
      if not machine then illegal (state_of q z) word else
      record {
        done = Retires (record { rd = 0; value = 0; mem = None; ctl = None; next_pc = z.mepc });
        memory = (state_of q z).memory;
        csrs = with_trap_regs (csr_tick (csrs_of q z) true None) (leave_of (trap_regs (csrs_of q z)));
      }

  abbrev waited : Private → ℕ → ℕ → Bool → Executed
  waited z word length may =
      if may then plain (state_of q z) 0 0 (following (state_of q z) length) else illegal (state_of q z) word

  -- ---- plain rows

  -- it retires with a value alone
  pub plain_alike : (o : Option Insn) (m : Marks) (word : ℕ) (ops ops2 : Option (ℕ × ℕ)) (rd v w next next2 : ℕ)
      (mark : Bool) → AreAlike m x y → (mark ≡ false → v ≡ w) → next ≡ next2
      → item_by k ctl_here (view_of (finished q.pc x.regs cycle word ops (plain (state_of q x) rd v next)).event) o
      ≡ item_by k ctl_here (view_of (finished q.pc y.regs cycle word ops2 (plain (state_of q y) rd w next2)).event) o
      → RowAlike k ctl_here o (mark_reg m rd mark)
      (finished q.pc x.regs cycle word ops (plain (state_of q x) rd v next))
      (finished q.pc y.regs cycle word ops2 (plain (state_of q y) rd w next2))
  unfolding finished
  plain_alike o m word ops ops2 rd v w next next2 mark s val nx it =
      retire_alike o m word ops ops2 rd v w None None None None next next2 _ _ _ _ mark val nx refl refl refl it
      s.regs refl s.byte (tick_agrees m q true None x y s)

  -- an instruction traps, and leaves memory
  pub trap_row : (o : Option Insn) (m : Marks) (word : ℕ) (ops ops2 : Option (ℕ × ℕ)) (cause tval addr : ℕ)
      → AreAlike m x y
      → RowAlike k ctl_here o (marks_entered m)
      (finished q.pc x.regs cycle word ops (trap (state_of q x) cause tval addr))
      (finished q.pc y.regs cycle word ops2 (trap (state_of q y) cause tval addr))
  unfolding finished
  trap_row o m word ops ops2 cause tval addr s =
      trap_alike o m m.byte m.ever word ops ops2 cause tval addr _ _ s refl s.byte

  -- ---- branches

  -- two values by one test of two operands
  pub both : (f : ℕ → ℕ → ℕ) (a b c d : ℕ) → a ≡ c → b ≡ d → f a b ≡ f c d
  both f a b c d e h = ap (λ n. f n b) e ∙ ap (f c) h

  -- a register that isn't marked
  pub same_reg : (m : Marks) (n : ℕ) → AreAlike m x y → m.reg n ≡ false → reg (state_of q x) n ≡ reg (state_of q y) n
  same_reg m n s e = reg_alike m.reg x.regs y.regs n s.regs e

  -- operands that aren't marked are the same
  same_operands : (m : Marks) (op : BranchOp) (rs1 rs2 imm : ℕ) → AreAlike m x y → m.reg rs1 ≡ false
      → m.reg rs2 ≡ false
      → operands (state_of q x) (Branch op rs1 rs2 imm) ≡ operands (state_of q y) (Branch op rs1 rs2 imm)
  unfolding operands
  same_operands m op rs1 rs2 imm s e h = by (bit_and q.cpuctrl data_ind_timing == 0)
    where
      pair : Private → ℕ × ℕ
      pair z = (reg (state_of q z) rs1, reg (state_of q z) rs2)

      by : (t : Bool) → (if t then Some (pair x) else None) ≡ (if t then Some (pair y) else None)
      by true =
          ap (λ n. Some (n, reg (state_of q x) rs2)) (same_reg m rs1 s e)
          ∙ ap (λ n. Some (reg (state_of q y) rs1, n)) (same_reg m rs2 s h)
      by false = refl

  pub branch_row : (m : Marks) (op : BranchOp) (rs1 rs2 imm word length lines : ℕ) → AreAlike m x y
      → (m.reg rs1 || m.reg rs2) ≡ false
      → RowAlike k ctl_here (Some (Branch op rs1 rs2 imm)) m
      (finished q.pc x.regs cycle word (operands (state_of q x) (Branch op rs1 rs2 imm))
      (execute (state_of q x) (Branch op rs1 rs2 imm) word length lines))
      (finished q.pc y.regs cycle word (operands (state_of q y) (Branch op rs1 rs2 imm))
      (execute (state_of q y) (Branch op rs1 rs2 imm) word length lines))
  unfolding execute finished view_of retired_item
  branch_row m op rs1 rs2 imm word length lines s e =
      let left : m.reg rs1 ≡ false = left_of (m.reg rs1) (m.reg rs2) e in
      let right : m.reg rs2 ≡ false = right_of (m.reg rs1) (m.reg rs2) e in
      plain_alike (Some (Branch op rs1 rs2 imm)) m word (operands (state_of q x) (Branch op rs1 rs2 imm))
      (operands (state_of q y) (Branch op rs1 rs2 imm)) 0 0 0 _ _ false s (λ h. refl)
      (both (λ a b. if branch_of op a b then (q.pc + imm) % 2 ^ 32 else following (state_of q x) length)
      (reg (state_of q x) rs1) (reg (state_of q x) rs2) (reg (state_of q y) rs1) (reg (state_of q y) rs2)
      (same_reg m rs1 s left) (same_reg m rs2 s right))
      (ap (λ o. branching (is_turned (is_fixed ctl_here) op o) (plain_item (parcels_of word)))
      (same_operands m op rs1 rs2 imm s left right))

  -- ---- multiplications and divisions

  pub divide_row : (m : Marks) (op : MdOp) (rd rs1 rs2 word length lines : ℕ) → AreAlike m x y
      → (m.reg rs2 && hangs op (is_blind (operands (state_of q x) (MulDiv op rd rs1 rs2))) k.mul) ≡ false
      → RowAlike k ctl_here (Some (MulDiv op rd rs1 rs2)) (mark_reg m rd (m.reg rs1 || m.reg rs2))
      (finished q.pc x.regs cycle word (operands (state_of q x) (MulDiv op rd rs1 rs2))
      (execute (state_of q x) (MulDiv op rd rs1 rs2) word length lines))
      (finished q.pc y.regs cycle word (operands (state_of q y) (MulDiv op rd rs1 rs2))
      (execute (state_of q y) (MulDiv op rd rs1 rs2) word length lines))
  unfolding execute finished view_of retired_item operands
  divide_row m op rd rs1 rs2 word length lines s e =
      plain_alike (Some (MulDiv op rd rs1 rs2)) m word (operands (state_of q x) (MulDiv op rd rs1 rs2))
      (operands (state_of q y) (MulDiv op rd rs1 rs2)) rd _ _ _ _ (m.reg rs1 || m.reg rs2) s
      (λ h. both (md_value op) (reg (state_of q x) rs1) (reg (state_of q x) rs2) (reg (state_of q y) rs1)
      (reg (state_of q y) rs2) (same_reg m rs1 s (left_of (m.reg rs1) (m.reg rs2) h))
      (same_reg m rs2 s (right_of (m.reg rs1) (m.reg rs2) h))) refl
      (ap (λ n. record (plain_item (parcels_of word)) { cost = n }) (by (bit_and q.cpuctrl data_ind_timing == 0) e))
    where
      pair : Private → ℕ × ℕ
      pair z = (reg (state_of q z) rs1, reg (state_of q z) rs2)

      by : (t : Bool)
          → (m.reg rs2 && hangs op (is_blind (if t then Some (pair x) else None)) k.mul) ≡ false
          → md_cost_of op (operand2 (if t then Some (pair x) else None)) (not t) k.mul
          ≡ md_cost_of op (operand2 (if t then Some (pair y) else None)) (not t) k.mul
      by true h =
          cost_alike op k.mul (reg (state_of q x) rs2) (reg (state_of q y) rs2) (m.reg rs2) h (same_reg m rs2 s)
      by false h = refl

  -- ---- MRET and WFI

  pub return_row : (m : Marks) (word : ℕ) (ops ops2 : Option (ℕ × ℕ)) (machine : Bool) → AreAlike m x y
      → leaks_by k.mul m (Some Mret) (finished q.pc x.regs cycle word ops (returned x word machine)).event ≡ false
      → RowAlike k ctl_here (Some Mret)
      (marks_by q.ram m (Some Mret) (finished q.pc x.regs cycle word ops (returned x word machine)).event)
      (finished q.pc x.regs cycle word ops (returned x word machine))
      (finished q.pc y.regs cycle word ops2 (returned y word machine))
  unfolding finished view_of retired_item csr_tick
  return_row m word ops ops2 false s e = trap_row (Some Mret) m word ops ops2 illegal_instruction word 0 s
  return_row m word ops ops2 true s e =
      retire_alike (Some Mret) m word ops ops2 0 0 0 None None None None x.mepc y.mepc _ _ _ _ false (λ h. refl)
      (s.mepc e) refl refl refl refl s.regs refl s.byte
      (leave_agrees m q (ticked q true None x) (ticked q true None y) (ticked_alike m q true None x y s))

  pub wait_row : (m : Marks) (word length : ℕ) (ops ops2 : Option (ℕ × ℕ)) (may : Bool) → AreAlike m x y
      → RowAlike k ctl_here (Some Wfi)
      (marks_by q.ram m (Some Wfi) (finished q.pc x.regs cycle word ops (waited x word length may)).event)
      (finished q.pc x.regs cycle word ops (waited x word length may))
      (finished q.pc y.regs cycle word ops2 (waited y word length may))
  unfolding finished view_of retired_item
  wait_row m word length ops ops2 false s = trap_row (Some Wfi) m word ops ops2 illegal_instruction word 0 s
  wait_row m word length ops ops2 true s =
      plain_alike (Some Wfi) m word ops ops2 0 0 0 _ _ false s (λ h. refl) refl refl

  -- ---- loads

  pub load_leaks : (m : Marks) (op : LoadOp) (rd rs1 imm addr next word : ℕ) (ops : Option (ℕ × ℕ))
      (refused error : Option ℕ)
      → leaks_by k.mul m (Some (Load op rd rs1 imm)) (finished q.pc x.regs cycle word ops
      (load_with (state_of q x) op rd addr next refused error)).event ≡ false → m.reg rs1 ≡ false
  unfolding finished
  load_leaks m op rd rs1 imm addr next word ops (Some at) error e = e
  load_leaks m op rd rs1 imm addr next word ops None (Some at) e = e
  load_leaks m op rd rs1 imm addr next word ops None None e = e

  pub load_row : (m : Marks) (op : LoadOp) (rd rs1 imm addr next word : ℕ) (ops ops2 : Option (ℕ × ℕ))
      (refused error : Option ℕ) → AreAlike m x y
      → RowAlike k ctl_here (Some (Load op rd rs1 imm))
      (marks_by q.ram m (Some (Load op rd rs1 imm)) (finished q.pc x.regs cycle word ops
      (load_with (state_of q x) op rd addr next refused error)).event)
      (finished q.pc x.regs cycle word ops (load_with (state_of q x) op rd addr next refused error))
      (finished q.pc y.regs cycle word ops2 (load_with (state_of q y) op rd addr next refused error))
  unfolding finished view_of retired_item
  load_row m op rd rs1 imm addr next word ops ops2 (Some at) error s =
      trap_row (Some (Load op rd rs1 imm)) m word ops ops2 load_fault at addr s
  load_row m op rd rs1 imm addr next word ops ops2 None (Some at) s =
      trap_row (Some (Load op rd rs1 imm)) m word ops ops2 load_fault at addr s
  load_row m op rd rs1 imm addr next word ops ops2 None None s =
      retire_alike (Some (Load op rd rs1 imm)) m word ops ops2 rd _ _
      (Some (record { addr = addr; size = size_of op; store = false; value = 0 }))
      (Some (record { addr = addr; size = size_of op; store = false; value = 0 })) None None next next _ _ _ _
      (is_any m.byte addr (size_of op))
      (λ h. ap (loaded op) (read_alike q.ram m.byte x.byte y.byte addr (size_of op) s.byte h)) refl refl refl refl refl
      s.regs refl s.byte (tick_agrees m q true None x y s)

  -- ---- stores

  pub store_leaks : (m : Marks) (size rs1 rs2 imm addr value next word : ℕ) (ops : Option (ℕ × ℕ))
      (refused error : Option ℕ)
      → leaks_by k.mul m (Some (Store size rs1 rs2 imm)) (finished q.pc x.regs cycle word ops
      (store_with (state_of q x) size addr value next refused error)).event ≡ false → m.reg rs1 ≡ false
  unfolding finished
  store_leaks m size rs1 rs2 imm addr value next word ops (Some at) error e = e
  store_leaks m size rs1 rs2 imm addr value next word ops None (Some at) e = e
  store_leaks m size rs1 rs2 imm addr value next word ops None None e =
      left_of (m.reg rs1) ((size == 4 && addr == halt_register) && m.reg rs2) e

  pub store_row : (m : Marks) (size rs1 rs2 imm addr v w next word : ℕ) (ops ops2 : Option (ℕ × ℕ))
      (refused error : Option ℕ) → AreAlike m x y → (m.reg rs2 ≡ false → v ≡ w)
      → leaks_by k.mul m (Some (Store size rs1 rs2 imm)) (finished q.pc x.regs cycle word ops
      (store_with (state_of q x) size addr v next refused error)).event ≡ false
      → RowAlike k ctl_here (Some (Store size rs1 rs2 imm))
      (marks_by q.ram m (Some (Store size rs1 rs2 imm)) (finished q.pc x.regs cycle word ops
      (store_with (state_of q x) size addr v next refused error)).event)
      (finished q.pc x.regs cycle word ops (store_with (state_of q x) size addr v next refused error))
      (finished q.pc y.regs cycle word ops2 (store_with (state_of q y) size addr w next refused error))
  unfolding finished view_of retired_item
  store_row m size rs1 rs2 imm addr v w next word ops ops2 (Some at) error s val e =
      trap_alike (Some (Store size rs1 rs2 imm)) m (tried_marks q.ram m.byte addr size (m.reg rs2)) _ word ops ops2
      store_fault at addr _ _ s refl (untried_alike q.ram m.byte x.byte y.byte addr size (m.reg rs2) s.byte)
  store_row m size rs1 rs2 imm addr v w next word ops ops2 None (Some at) s val e =
      trap_alike (Some (Store size rs1 rs2 imm)) m (tried_marks q.ram m.byte addr size (m.reg rs2)) _ word ops ops2
      store_fault at addr _ _ s (stored_ram q.ram x.byte y.byte addr size (v % 256 ^ size) (w % 256 ^ size))
      (tried_alike q.ram m.byte x.byte y.byte addr size (v % 256 ^ size) (w % 256 ^ size) (m.reg rs2) s.byte
      (λ h. ap (λ n. n % 256 ^ size) (val h)))
  store_row m size rs1 rs2 imm addr v w next word ops ops2 None None s val e =
      retire_alike (Some (Store size rs1 rs2 imm)) _ word ops ops2 0 0 0
      (Some (record { addr = addr; size = size; store = true; value = v % 256 ^ size }))
      (Some (record { addr = addr; size = size; store = true; value = w % 256 ^ size })) None None next next _ _ _ _
      false (λ h. refl) refl refl refl
      (halt_alike (size == 4) (addr == halt_register) (m.reg rs2) (v % 256 ^ size) (w % 256 ^ size)
      (right_of (m.reg rs1) ((size == 4 && addr == halt_register) && m.reg rs2) e)
      (λ h. ap (λ n. n % 256 ^ size) (val h))) refl s.regs
      (stored_ram q.ram x.byte y.byte addr size (v % 256 ^ size) (w % 256 ^ size))
      (stored_alike q.ram m.byte x.byte y.byte addr size (v % 256 ^ size) (w % 256 ^ size) (m.reg rs2) s.byte
      (λ h. ap (λ n. n % 256 ^ size) (val h)))
      (agree_bytes m _ _ _ _ (tick_agrees m q true None x y s))
