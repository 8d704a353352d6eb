-- The wires out say what the machine puts out: both requests, the words that are written, and the event.
use Rattle.std.proofs.Common.{◌≡◌, ℕ, ◌+◌, ◌*◌, Bool, true, false, not, ◌||◌, ◌==◌, List, Option, Some, None, refl}
use Rattle.std.proofs.Common.{sym}
use Rattle.std.proofs.Common.{ap, ◌∙◌, subst}
use Rattle.std.specs.Prelude.{if◌then◌else◌, ◌&&◌}
use Rattle.ibx_isa.specs.declared.bus.Alerts.{Alerts}
use Rattle.ibx_isa.specs.declared.bus.Req.{Req}
use Rattle.ibx_icache.specs.declared.doing.Doing.{Doing}
use Rattle.ibx_icache.specs.declared.doing.Doing.TheVariants.{Rests, Looks, AsksFirst, AwaitsFirst, AsksSecond}
use Rattle.ibx_icache.specs.declared.doing.Doing.TheVariants.{AwaitsSecond, Answers, AsksBare, AwaitsBare}
use Rattle.ibx_icache.specs.declared.port.WordPort.{WordPort}
use Rattle.ibx_icache.specs.declared.writes.Filling.{Filling}
use Rattle.ibx_icache.specs.declared.writes.Filling.TheVariants.{Nothing, Clears, Stores}
use Rattle.ibx_icache.specs.Doing.{doing_of, wires_by}
use Rattle.ibx_icache.specs.WordPort.{WordIn, after_request, alerts_of as port_alerts, filling_of, is_bad_word}
use Rattle.ibx_icache.specs.WordPort.{out_by as port_out, out_of, wires_of}
use Rattle.ibx_csr.specs.Fields.{glitch_of}
use Rattle.ibx_core.specs.Core.{Cycle}
use Rattle.ibx_core.specs.declared.state.State.{State}
use Rattle.ibx_core.specs.Core.{alerts_of, core_out, cycle_of, gives, is_flipped, is_minor, is_write, out_by, out_with}
use Rattle.ibx_core.specs.Core.{port_of, reads_of, write_register, write_word}
use Rattle.ibx_core.specs.Fields.{bit}
use Rattle.ibx_core.specs.Inputs.{drsp_of, inputs_of, irsp_of}
use Rattle.ibx_core.specs.Wires.{InWires, OutWires}
use Rattle.ibx_time_machine.specs.Core.{core_out as machine_out, core_out_by}
use Rattle.ibx_system.specs.System.{put_if}
use Rattle.ibx_time_system.specs.Cycles.{IsAddressed, SameCycle, SameOut, put_low}
use Rattle.ibx_time_system.proofs.Fillings.{filling_fills}
use Rattle.ibx_time_system.proofs.Heard.{next_ungated, out_ungated}
use Rattle.ibx_time_system.proofs.Writes.{SparesZero, cycle_spares}

-- ---- the fetch

-- a fetch has no write, all bytes, and no word
abbrev as_fetch : Req → Req
as_fetch r = record { valid = r.valid; write = false; be = if r.valid then 15 else 0; addr = r.addr; word = 0 }

-- so is what the word port drives, by what it does
fetch_by : (d : Doing) (addr : ℕ) → wires_by d addr ≡ as_fetch (wires_by d addr)
unfolding wires_by
fetch_by Rests addr = refl
fetch_by Looks addr = refl
fetch_by AsksFirst addr = refl
fetch_by AwaitsFirst addr = refl
fetch_by AsksSecond addr = refl
fetch_by AwaitsSecond addr = refl
fetch_by Answers addr = refl
fetch_by AsksBare addr = refl
fetch_by AwaitsBare addr = refl

-- in every state
fetch_is : (w : WordPort) (i : WordIn) → wires_of w i ≡ as_fetch (wires_of w i)
unfolding wires_of
fetch_is w i = fetch_by (doing_of (after_request w i).c_state) (after_request w i).c_addr

-- the requests aren't changed by what is written
bus_is : (f : Filling) (bus : Req) (a : Alerts) → (port_out f bus a).bus ≡ bus
bus_is Nothing bus a = refl
bus_is (Clears set) bus a = refl
bus_is (Stores slot tag word0 word1) bus a = refl

-- ---- the register

-- register 0 isn't written
register_is : (write : Option (ℕ × ℕ)) (regs : List ℕ) → SparesZero write
    → put_low write regs ≡ put_if (is_write write && not (write_register write == 0)) regs (write_register write)
    (write_word write)
unfolding write_word
register_is None regs spares = refl
register_is (Some w) regs spares = rw spares refl

-- ---- the alerts

-- a set of alerts with one of them isn't empty
some_alert : (minor internal bus : Bool)
    → not (bit minor + 2 * bit internal + 4 * bit bus == 0) ≡ (minor || (bus || internal))
some_alert true true true = refl
some_alert true true false = refl
some_alert true false true = refl
some_alert true false false = refl
some_alert false true true = refl
some_alert false true false = refl
some_alert false false true = refl
some_alert false false false = refl

-- in the machine's order
joined : (bus a b c : Bool) → (bus || (a || b || c)) ≡ (bus || a || b || c)
joined true a b c = refl
joined false a b c = refl

-- an alert by its causes
alert_is : (x : State) (i : InWires)
    → not (alerts_of x i == 0)
    ≡ (is_minor x i || (is_flipped (irsp_of i) || is_flipped (drsp_of i) || is_bad_word i.rega || is_bad_word i.regb
    || glitch_of x.csrs))
unfolding alerts_of
alert_is x i =
    some_alert (is_minor x i) (is_bad_word i.rega || is_bad_word i.regb || glitch_of x.csrs)
    (is_flipped (irsp_of i) || is_flipped (drsp_of i))
    ∙ ap (λ (b : Bool). is_minor x i || b) (joined (is_flipped (irsp_of i) || is_flipped (drsp_of i))
    (is_bad_word i.rega) (is_bad_word i.regb) (glitch_of x.csrs))

-- ---- all of them

-- for a cycle
out_by_is : (c : Cycle) (x : State) (i : InWires) → SparesZero c.effect.write → IsAddressed x.words
    → SameOut (core_out_by c x (inputs_of i)) (out_by c x i) (is_minor x i)
unfolding core_out_by out_by out_of out_with
out_by_is c x i spares low =
    let p : WordIn = port_of x (inputs_of i) c.request c.effect.fence in
    let bus = bus_is (filling_of x.words p) (wires_of x.words p) (port_alerts x.words p) in
    record {
      fetch = fetch_is x.words p ∙ ap as_fetch (sym bus);
      load_store = refl;
      happens = refl;
      registers = λ regs. register_is c.effect.write regs spares;
      cache = filling_fills (wires_of x.words p) (port_alerts x.words p) (alerts_of x i) (reads_of x) c x.words p low;
      alerts = alert_is x i;
    }

-- in a cycle
pub out_is : (x : State) (i : InWires) → IsAddressed x.words
    → SameOut (machine_out x (inputs_of i)) (core_out x i) (is_minor x i)
unfolding gives
out_is x i low =
    subst (λ (w : OutWires). SameOut (machine_out x (inputs_of i)) w (is_minor x i))
    (sym (out_ungated x i))
    (out_by_is (cycle_of x (inputs_of i)) x i (cycle_spares x (inputs_of i)) low)

-- the fields and the wires
pub cycle_same : (x : State) (i : InWires) → SameCycle x i
cycle_same x i = record { fields = sym (next_ungated x i); out = out_is x i }
