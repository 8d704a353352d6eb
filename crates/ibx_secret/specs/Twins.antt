-- Two runs on images that agree off the secret bytes: how their states and events agree.
use Rattle.std.specs.Prelude.{◌≡◌, ℕ, Bool, false, List, None, length, slice_index}
use Rattle.ibx_elf.specs.declared.ram.Ram.{Ram}
use Rattle.ibx_isa.specs.declared.event.Event.{Event}
use Rattle.ibx_isa.specs.declared.event.View.{View}
use Rattle.ibx_isa.specs.Views.{view_of}
use Rattle.ibx_arch.specs.State.{State}
use Rattle.ibx_arch.specs.Step.{Stepped}
use Rattle.ibx_time.specs.Settings.{Settings}
use Rattle.ibx_time.specs.Controls.{Ctl}
use Rattle.ibx_time.specs.Items.{item_of}
use Rattle.ibx_time.specs.History.{halts}
use Rattle.ibx_secret.specs.Marks.{Marks}

-- what is never marked
pub record Shared : Type 0 where
  pub pc : ℕ
  pub stands : ℕ
  pub ram : Ram
  pub machine : Bool
  pub mstatus : ℕ
  pub mie : ℕ
  pub mtvec : ℕ
  pub cpuctrl : ℕ
  pub mcountinhibit : ℕ
  pub pmpcfg : List ℕ
  pub pmpaddr : List ℕ
  pub mseccfg : ℕ

-- what may be
pub record Private : Type 0 where
  pub regs : List ℕ
  pub byte : ℕ → ℕ
  pub mscratch : ℕ
  pub mepc : ℕ
  pub mcause : ℕ
  pub mtval : ℕ
  pub mcycle : ℕ
  pub minstret : ℕ

-- the two parts of a state
abbrev pub shared_of : State → Shared
shared_of s = record {
  pc = s.pc;
  stands = s.stands;
  ram = s.memory.ram;
  machine = s.csrs.machine;
  mstatus = s.csrs.mstatus;
  mie = s.csrs.mie;
  mtvec = s.csrs.mtvec;
  cpuctrl = s.csrs.cpuctrl;
  mcountinhibit = s.csrs.mcountinhibit;
  pmpcfg = s.csrs.pmpcfg;
  pmpaddr = s.csrs.pmpaddr;
  mseccfg = s.csrs.mseccfg;
}

abbrev pub private_of : State → Private
private_of s = record {
  regs = s.regs;
  byte = s.memory.byte;
  mscratch = s.csrs.mscratch;
  mepc = s.csrs.mepc;
  mcause = s.csrs.mcause;
  mtval = s.csrs.mtval;
  mcycle = s.csrs.mcycle;
  minstret = s.csrs.minstret;
}

-- the registers have equal values where they aren't marked
pub record AreRegs (marks : ℕ → Bool) (xs ys : List ℕ) : Type 0 where
  pub count : length xs ≡ length ys
  pub each : (n : ℕ) → marks n ≡ false → slice_index xs n ≡ slice_index ys n

-- all that may be marked is equal where it isn't
pub record AreAlike (m : Marks) (x y : Private) : Type 0 where
  pub regs : AreRegs m.reg x.regs y.regs
  pub byte : (a : ℕ) → m.byte a ≡ false → x.byte a ≡ y.byte a
  pub mscratch : m.mscratch ≡ false → x.mscratch ≡ y.mscratch
  pub mepc : m.mepc ≡ false → x.mepc ≡ y.mepc
  pub mcause : m.mcause ≡ false → x.mcause ≡ y.mcause
  pub mtval : m.mtval ≡ false → x.mtval ≡ y.mtval
  pub mcycle : m.mcycle ≡ false → x.mcycle ≡ y.mcycle
  pub minstret : m.minstret ≡ false → x.minstret ≡ y.minstret

-- two states of the architecture agree off the marks
pub record AgreeOff (m : Marks) (a b : State) : Type 0 where
  pub shared : shared_of a ≡ shared_of b
  pub alike : AreAlike m (private_of a) (private_of b)

-- a view without its operands
abbrev pub bare : View → View
bare v = record v { ops = None }

-- Two events have the same time: their views are the same but for the operands, these give them the same item, and both
-- or neither ends the run.
pub record SameTime (k : Settings) (c : Ctl) (e f : Event) : Type 0 where
  pub seen : bare (view_of e) ≡ bare (view_of f)
  pub item : item_of k c (view_of e) ≡ item_of k c (view_of f)
  pub halts : halts e ≡ halts f

-- two steps give events of the same time, and lead to states that agree off the marks after them
pub record AreTwins (k : Settings) (c : Ctl) (m : Marks) (x y : Stepped) : Type 0 where
  pub event : SameTime k c x.event y.event
  pub next : AgreeOff m x.next y.next
