-- The wires into the core, put together: an answer of each port, the cache's words, and the multiplier by its name. Our
-- own rule.
use Rattle.std.specs.Prelude.{ℕ, Bool, ◌==◌, if◌then◌else◌}
use Rattle.ibx_isa.specs.declared.bus.Rsp.{Rsp}
use Rattle.ibx_isa.specs.declared.insn.MulKind.{MulKind}
use Rattle.ibx_isa.specs.declared.insn.MulKind.TheVariants.{Single, Fast, Slow}
use Rattle.ibx_icache.specs.declared.lookup.Look.{Look}
use Rattle.ibx_core.specs.Wires.{InWires}

-- a cycle's inputs: answers and grants of both ports, register and cache words, interrupt lines, and the multiplier
pub record Inputs : Type 0 where
  pub irsp : Rsp
  pub drsp : Rsp
  pub igrant : Bool
  pub dgrant : Bool
  pub rega : ℕ
  pub regb : ℕ
  pub look : Look
  pub lines : ℕ
  pub mul : MulKind

-- the answer of the instruction port
abbrev pub irsp_of : InWires → Rsp
irsp_of i = record { valid = i.irsp_valid; err = i.irsp_err; word = i.irsp_word }

-- that of the data port
abbrev pub drsp_of : InWires → Rsp
drsp_of i = record { valid = i.drsp_valid; err = i.drsp_err; word = i.drsp_word }

-- the cache's words
abbrev pub look_in : InWires → Look
look_in i = record { tag0 = i.tag0; tag1 = i.tag1; data0 = i.data0; data1 = i.data1 }

-- the multiplier: 0 Single, 1 Fast, 2 Slow; 3 acts as 2
abbrev pub mul_of : ℕ → MulKind
mul_of mul = if mul == 0 then Single else if mul == 1 then Fast else Slow

-- all of them
abbrev pub inputs_of : InWires → Inputs
inputs_of i = record {
  irsp = irsp_of i;
  drsp = drsp_of i;
  igrant = i.igrant;
  dgrant = i.dgrant;
  rega = i.rega;
  regb = i.regb;
  look = look_in i;
  lines = i.lines;
  mul = mul_of i.mul;
}
