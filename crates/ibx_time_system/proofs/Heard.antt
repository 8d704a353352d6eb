-- The gate at the head of a cycle changes nothing: the core without it puts out and leaves the same.
use Rattle.std.proofs.Common.{◌≡◌, ℕ, Bool, true, false, not, ◌==◌, Option, Some, None, refl, ap, ap₂, ◌∙◌}
use Rattle.std.specs.Prelude.{if◌then◌else◌, bit_and}
use Rattle.ibx_isa.specs.declared.bus.Alerts.{Alerts}
use Rattle.ibx_isa.specs.declared.bus.Req.{Req}
use Rattle.ibx_isa.specs.declared.bus.Rsp.{Rsp}
use Rattle.ibx_isa.specs.declared.event.Access.{Access}
use Rattle.ibx_isa.specs.declared.insn.Insn.{Insn}
use Rattle.ibx_prefetch.specs.declared.buffer.WordAns.{WordAns}
use Rattle.ibx_prefetch.specs.Buffer.{prefetch_next}
use Rattle.ibx_icache.specs.declared.writes.Filling.{Filling}
use Rattle.ibx_icache.specs.declared.writes.Filling.TheVariants.{Nothing, Clears, Stores}
use Rattle.ibx_icache.specs.WordPort.{WordIn, alerts_of as port_alerts, filling_of, out_by as port_out, out_of}
use Rattle.ibx_icache.specs.WordPort.{wires_of}
use Rattle.ibx_id.specs.Turns.{turn_of}
use Rattle.ibx_lsu.specs.declared.unit.Lsu.{Lsu}
use Rattle.ibx_lsu.specs.declared.unit.LsTurn.{LsTurn}
use Rattle.ibx_core.specs.Core.{Cycle}
use Rattle.ibx_core.specs.declared.reads.Reads.{Reads}
use Rattle.ibx_core.specs.declared.sight.Sight.{Sight}
use Rattle.ibx_core.specs.declared.state.State.{State}
use Rattle.ibx_core.specs.Core.{alerts_of, core_next, core_out, cycle_of, cycle_seen, cycle_with, gives, heard, leaves}
use Rattle.ibx_core.specs.Core.{ls_by, md_next, next_by, out_by, out_with, port_of, reads_of, tag_word}
use Rattle.ibx_core.specs.Effects.{effect_by}
use Rattle.ibx_core.specs.Sights.{access_if, cause_if, cost_by, fixed_in, is_active, is_real, md_by}
use Rattle.ibx_core.specs.Inputs.{drsp_of, inputs_of, irsp_of, look_in, mul_of}
use Rattle.ibx_core.specs.Sights.{refused_by, row_of, sight_of, sight_with, turn_by}
use Rattle.ibx_core.specs.Wires.{InWires}
use Rattle.ibx_core.proofs.Laws.{alerts_are}
use Rattle.ibx_secded.specs.Code.{payload_of}
use Rattle.ibx_time_system.proofs.Unused.{answer_is, filling_is, gated_rsp, load_is, loaded_is, next_is, wires_are}

-- ---- what the stage sees

-- what an active access does
turned : (active : Bool) (access : Option Access) (u : Lsu) (r : Rsp)
    → turn_by active access u (gated_rsp r) ≡ turn_by active access u r
unfolding turn_by
turned true (Some a) u r = load_is u a r
turned true None u r = refl
turned false (Some a) u r = refl
turned false None u r = refl

-- with the row, the operands, the access and the cause
seen : (row : Option Insn) (a b : ℕ) (access : Option Access) (cause : Option ℕ) (x : State) (i : InWires)
    → sight_with row a b access cause x (inputs_of (heard x i))
    ≡ sight_with row a b access cause x (inputs_of i)
unfolding sight_with heard
seen row a b access cause x i =
    ap (λ (ls : LsTurn). with_turn ls) (turned (is_active x access) access x.ls (drsp_of i))
  where
    with_turn : LsTurn → Sight
    with_turn ls = record {
      row = row;
      a = a;
      b = b;
      md = md_by (x.id.phase == 0) row x.md a b (fixed_in x) (mul_of i.mul);
      access = access;
      active = is_active x access;
      ls = ls;
      cause = cause;
      turn = turn_of x.id (record {
        insn = row;
        a = a;
        b = b;
        fixed = fixed_in x;
        cost = cost_by row b (fixed_in x) (mul_of i.mul);
        wake = not (bit_and i.lines x.csrs.mie == 0);
        trap = cause;
        ls_done = ls.done;
        ls_fault = if refused_by x.csrs access == 0 then ls.fault else refused_by x.csrs access;
      });
    }

-- in a cycle
sight_heard : (x : State) (i : InWires) → sight_of x (inputs_of (heard x i)) ≡ sight_of x (inputs_of i)
unfolding sight_of heard
sight_heard x i =
    let a = payload_of 32 i.rega in
    let b = payload_of 32 i.regb in
    let row = row_of x.id in
    seen row a b (access_if (is_real x.id) row a b) (cause_if (is_real x.id) x row) x i

-- ---- the cycle

-- the phases of a cycle
cycle_heard : (x : State) (i : InWires) → cycle_of x (inputs_of (heard x i)) ≡ cycle_of x (inputs_of i)
unfolding cycle_of cycle_seen cycle_with heard
cycle_heard x i =
    ap₂ (λ (g : Sight) (ans : WordAns). cycle_with g (effect_by g.turn x g i.lines) ans x (inputs_of i)) (sight_heard x i)
    (answer_is x.words (irsp_of i) (look_in i))

-- ---- the fields after it

-- an access that moves
ls_heard : (active : Bool) (access : Option Access) (u : Lsu) (r : Rsp) (granted : Bool)
    → ls_by active access u (gated_rsp r) granted ≡ ls_by active access u r granted
unfolding ls_by
ls_heard true (Some a) u r granted = loaded_is u a r granted
ls_heard true None u r granted = refl
ls_heard false (Some a) u r granted = refl
ls_heard false None u r granted = refl

-- by the cycle
left_by : (c : Cycle) (x : State) (i : InWires) → next_by c x (inputs_of (heard x i)) ≡ next_by c x (inputs_of i)
unfolding next_by port_of heard
left_by c x i =
    let words = next_is x.words (port_of x (inputs_of i) c.request c.effect.fence) i.igrant in
    let ls = ls_heard c.sight.active c.sight.access x.ls (drsp_of i) i.dgrant in
    λ t. record {
      fetch = prefetch_next c.ans c.effect.redirect c.entry.taken x.fetch;
      words = words t;
      id = c.entry.id;
      md = md_next c.sight.turn c.sight.md;
      ls = ls t;
      dummies = c.entry.dummies;
      next_pc = c.effect.next_pc;
      csrs = c.effect.csrs;
    }

-- the fields after a cycle are those without the gate
pub next_ungated : (x : State) (i : InWires) → core_next x i ≡ leaves x i
unfolding core_next leaves
next_ungated x i = ap (λ (c : Cycle). next_by c x (inputs_of (heard x i))) (cycle_heard x i) ∙ left_by (cycle_of x (inputs_of i)) x i

-- ---- the wires out

-- the port's own alerts are no wires
wired : (f : Filling) (bus : Req) (a b : Alerts) (alerts : ℕ) (r : Reads) (c : Cycle)
    → out_with (port_out f bus a) alerts r c ≡ out_with (port_out f bus b) alerts r c
unfolding out_with tag_word
wired Nothing bus a b alerts r c = refl
wired (Clears set) bus a b alerts r c = refl
wired (Stores slot tag word0 word1) bus a b alerts r c = refl

-- the alerts are those without the gate
same_alerts : (x : State) (i : InWires) → alerts_of x (heard x i) ≡ alerts_of x i
unfolding core_out gives out_by out_with
same_alerts x i = alerts_are x i

-- by the cycle
out_by_heard : (c : Cycle) (x : State) (i : InWires) → out_by c x (heard x i) ≡ out_by c x i
unfolding out_by out_of port_of heard
out_by_heard c x i =
    let w : WordIn = port_of x (inputs_of i) c.request c.effect.fence in
    let h : WordIn = port_of x (inputs_of (heard x i)) c.request c.effect.fence in
    wired (filling_of x.words h) (wires_of x.words h) (port_alerts x.words h) (port_alerts x.words w)
    (alerts_of x (heard x i)) (reads_of x) c
    ∙ ap₂ (λ (f : Filling) (bus : Req). out_with (port_out f bus (port_alerts x.words w)) (alerts_of x (heard x i))
    (reads_of x) c) (filling_is x.words w) (wires_are x.words w)
    ∙ ap (λ (n : ℕ). out_with (port_out (filling_of x.words w) (wires_of x.words w) (port_alerts x.words w)) n
    (reads_of x) c) (same_alerts x i)

-- the wires out are those without the gate
pub out_ungated : (x : State) (i : InWires) → core_out x i ≡ gives x i
unfolding core_out gives
out_ungated x i = ap (λ (c : Cycle). out_by c x (heard x i)) (cycle_heard x i) ∙ out_by_heard (cycle_of x (inputs_of i)) x i
