-- What it means that the wires out of the core in code are what the machine of the time equations puts out.
use Rattle.std.specs.Prelude.{◌≡◌, ℕ, ◌%◌, ◌^◌, ◌<◌, Bool, ◌||◌, List, slice_set, Option, Some, None}
use Rattle.ibx_secded.specs.Code.{encode_of}
use Rattle.ibx_icache.specs.declared.doing.Doing.TheVariants.{AwaitsSecond}
use Rattle.ibx_icache.specs.declared.port.WordPort.{WordPort}
use Rattle.ibx_icache.specs.declared.writes.Filling.{Filling}
use Rattle.ibx_icache.specs.Doing.{doing_of}
use Rattle.ibx_core.specs.declared.state.State.{State}
use Rattle.ibx_core.specs.Core.{core_next, core_out, is_minor, leaves}
use Rattle.ibx_core.specs.Inputs.{inputs_of}
use Rattle.ibx_core.specs.Wires.{InWires, OutWires}
use Rattle.ibx_time_machine.specs.Core.{Out, core_out as machine_out}
use Rattle.ibx_time_machine.specs.Words.{put_lines, put_tags}
use Rattle.ibx_system.specs.Core.{is_alert}
use Rattle.ibx_system.specs.System.{fetch_of, lines_after, load_store_of, registers_after, tags_after}

-- the address of a line that is stored has 32 bits, as every address in code has
abbrev pub IsAddressed : WordPort → Type 0
IsAddressed w = doing_of w.c_state ≡ AwaitsSecond → w.c_addr < 2 ^ 32

-- the register file after the write of the low 32 bits of a value; the machine writes the value as it is
abbrev pub put_low : Option (ℕ × ℕ) → List ℕ → List ℕ
put_low None regs = regs
put_low (Some w) regs = slice_set regs w.0 (encode_of 32 7 (w.1 % 2 ^ 32))

-- the wires that write the cache put the words of a filling
pub record Fills (f : Filling) (w : OutWires) : Type 0 where
  pub tags : (tags : List ℕ) → put_tags f tags ≡ tags_after tags w
  pub lines : (lines : List ℕ) → put_lines f lines ≡ lines_after lines w

-- what the machine puts out, and the wires of the core; the machine has no alert of a word of the cache
pub record SameOut (o : Out) (w : OutWires) (minor : Bool) : Type 0 where
  pub fetch : o.fetch ≡ fetch_of w
  pub load_store : o.load_store ≡ load_store_of w
  pub happens : o.happens ≡ w.event
  pub registers : (regs : List ℕ) → put_low o.write regs ≡ registers_after regs w
  pub cache : Fills o.filling w
  pub alerts : is_alert w ≡ (minor || o.alerts)

-- the gate of unused words changes nothing of the fields after a cycle, nor of what is put out in it
pub record SameCycle (x : State) (i : InWires) : Type 0 where
  pub fields : leaves x i ≡ core_next x i
  pub out : IsAddressed x.words → SameOut (machine_out x (inputs_of i)) (core_out x i) (is_minor x i)
