-- What the core puts out in a cycle, over the fields and the inputs of the core in code: the core's own output without
-- its gate of unused words, in whole requests and writes, as the time equations speak of them. Our own rule.
use Rattle.std.specs.Prelude.{ℕ, Bool, not, ◌||◌, ◌==◌, Option}
use Rattle.ibx_isa.specs.declared.bus.Req.{Req}
use Rattle.ibx_isa.specs.declared.event.Event.{Event}
use Rattle.ibx_secded.specs.Code.{syndrome_of}
use Rattle.ibx_csr.specs.Fields.{glitch_of}
use Rattle.ibx_icache.specs.declared.writes.Filling.{Filling}
use Rattle.ibx_icache.specs.WordPort.{WordIn, wires_of, filling_of}
use Rattle.ibx_core.specs.declared.state.State.{State}
use Rattle.ibx_core.specs.Core.{Cycle, cycle_of, is_flipped, port_of}
use Rattle.ibx_core.specs.Inputs.{Inputs}

-- the wires, the event without its cycle, and whether there is an alert
pub record Out : Type 0 where
  pub fetch : Req
  pub load_store : Req
  pub write : Option (ℕ × ℕ)
  pub filling : Filling
  pub happens : Option Event
  pub alerts : Bool

-- an alert is a flipped bit in an answer or a register word that is read, or a CSR whose complement doesn't match
unfoldable pub core_out_by : Cycle → State → Inputs → Out
core_out_by c x i =
    let port : WordIn = port_of x i c.request c.effect.fence in
    record {
      fetch = wires_of x.words port;
      load_store = c.sight.ls.req;
      write = c.effect.write;
      filling = filling_of x.words port;
      happens = c.effect.happens;
      alerts = is_flipped i.irsp || is_flipped i.drsp || not (syndrome_of 32 7 i.rega == 0)
          || not (syndrome_of 32 7 i.regb == 0) || glitch_of x.csrs;
    }

-- what the core drives and shows in a cycle
abbrev pub core_out : State → Inputs → Out
core_out x i = core_out_by (cycle_of x i) x i
