-- A cycle in place: each part of it looks only at what counts there.
use Rattle.std.proofs.Common.{◌≡◌, ◌<◌, ℕ, Bool, true, false, not, ◌&&◌, ◌||◌, refl, ap, ◌∙◌, arith}
use Rattle.ibx_isa.specs.declared.bus.Alerts.{Alerts}
use Rattle.ibx_isa.specs.declared.bus.Req.{Req}
use Rattle.ibx_icache.specs.declared.doing.Doing.{Doing}
use Rattle.ibx_icache.specs.declared.doing.Doing.TheVariants.{Rests, Looks, AsksFirst, AwaitsFirst, AsksSecond}
use Rattle.ibx_icache.specs.declared.doing.Doing.TheVariants.{AwaitsSecond, Answers, AsksBare, AwaitsBare}
use Rattle.ibx_icache.specs.declared.port.WordPort.{WordPort}
use Rattle.ibx_icache.specs.Doing.{answers_by, doing_of, granted_by, is_look, state_of, stores_by, wires_by}
use Rattle.ibx_icache.specs.declared.writes.Filling.{Filling}
use Rattle.ibx_icache.specs.WordPort.{IsFields, WordIn, after_request, alerts_by, alerts_of, filling_of, has_bad}
use Rattle.ibx_icache.specs.WordPort.{is_bad_word, out_by, out_of, walked, wires_of, word_port_next}
use Rattle.ibx_icache.proofs.States.{doing-state, state_low}

-- an answer needs a hit only of a lookup
pub answers_looked : (g : Doing) (came hit : Bool) → answers_by g came (is_look g && hit) ≡ answers_by g came hit
unfolding answers_by
answers_looked Rests came hit = refl
answers_looked Looks came hit = refl
answers_looked AsksFirst came hit = refl
answers_looked AwaitsFirst came hit = refl
answers_looked AsksSecond came hit = refl
answers_looked AwaitsSecond came hit = refl
answers_looked Answers came hit = refl
answers_looked AsksBare came hit = refl
answers_looked AwaitsBare came hit = refl

-- without an answer no line is stored
unstored : (g : Doing) (good other ended : Bool) → stores_by g false good ended ≡ stores_by g false other ended
unstored Rests good other ended = refl
unstored Looks good other ended = refl
unstored AsksFirst good other ended = refl
unstored AwaitsFirst good other ended = refl
unstored AsksSecond good other ended = refl
unstored AwaitsSecond good other ended = refl
unstored Answers good other ended = refl
unstored AsksBare good other ended = refl
unstored AwaitsBare good other ended = refl

-- so a flipped bit counts only where a word answers
pub stores_came : (g : Doing) (came err bad low kept ended : Bool)
    → stores_by g came (not (err || (came && bad)) && low && kept) ended
    ≡ stores_by g came (not (err || bad) && low && kept) ended
stores_came g true err bad low kept ended = refl
stores_came g false err bad low kept ended = unstored g _ _ ended

-- what a grant makes of a state stays the same where nothing was granted before it
regranted : (g : Doing)
    → state_of (granted_by true (doing_of (state_of (granted_by false g)))) ≡ state_of (granted_by true g)
unfolding granted_by
regranted g = ap (λ (x : Doing). state_of (granted_by true x)) (doing-state g)

-- a cycle in which nothing is granted and then a grant are the cycle with the grant
pub granted_next : (p w : WordPort) (i : WordIn) → p ≡ word_port_next w i false
    → record p { c_state = state_of (granted_by true (doing_of p.c_state)) } ≡ word_port_next w i true
unfolding word_port_next
granted_next p w i e =
    ap (λ (q : WordPort). record q { c_state = state_of (granted_by true (doing_of q.c_state)) }) e
    ∙ ap (λ (s : ℕ). record (word_port_next w i false) { c_state = s })
    (regranted (doing_of (after_request w i).c_state))

-- a grant keeps the widths
pub granted_fields : (p : WordPort) (g : Doing) → IsFields p → IsFields (record p { c_state = state_of g })
granted_fields p g k =
    let low : state_of g < 9 = state_low g in
    record { state = omega (arith, low); word0 = k.word0; word1 = k.word1; walk = k.walk }

-- the wires of a cycle are those of the fields that it leaves where nothing is granted
pub turned_wires : (w : WordPort) (i : WordIn)
    → wires_by (doing_of (word_port_next w i false).c_state) (word_port_next w i false).c_addr ≡ wires_of w i
unfolding word_port_next wires_of granted_by
turned_wires w i =
    ap (λ (g : Doing). wires_by g (after_request w i).c_addr) (doing-state (doing_of (after_request w i).c_state))

-- the fields of a cycle in which nothing is granted, from those after its request
pub turned_next : (w : WordPort) (i : WordIn) (v : WordPort) (state walk : ℕ) → v ≡ after_request w i
    → state ≡ state_of (doing_of v.c_state) → walk ≡ walked i.fence w.c_walk
    → record v { c_state = state; c_walk = walk } ≡ word_port_next w i false
unfolding word_port_next granted_by
turned_next w i v state walk is states walks =
    ap (λ (s : ℕ). record v { c_state = s; c_walk = walk }) states
    ∙ ap (λ (n : ℕ). record v { c_state = state_of (doing_of v.c_state); c_walk = n }) walks
    ∙ ap (λ (p : WordPort). record p { c_state = state_of (doing_of p.c_state); c_walk = walked i.fence w.c_walk }) is

-- the alerts, of what came and of whether a word answers that has a flipped bit
pub alerts_met : (w : WordPort) (i : WordIn) (bad flipped : Bool)
    → bad ≡ (is_look (doing_of w.c_state) && has_bad i.look w.c_addr)
    → flipped ≡ (i.rsp.valid && is_bad_word i.rsp.word) → alerts_by bad flipped ≡ alerts_of w i
unfolding alerts_of
alerts_met w i bad flipped minor bus =
    ap (λ (b : Bool). alerts_by b flipped) minor
    ∙ ap (λ (b : Bool). alerts_by (is_look (doing_of w.c_state) && has_bad i.look w.c_addr) b) bus

-- what is driven, from its parts
pub turned_out : (w : WordPort) (i : WordIn) (filling : Filling) (bus : Req) (alerts : Alerts)
    → filling ≡ filling_of w i → bus ≡ wires_of w i → alerts ≡ alerts_of w i → out_by filling bus alerts ≡ out_of w i
unfolding out_of
turned_out w i filling bus alerts fills drives tells =
    ap (λ (f : Filling). out_by f bus alerts) fills ∙ ap (λ (b : Req). out_by (filling_of w i) b alerts) drives
    ∙ ap (λ (a : Alerts). out_by (filling_of w i) (wires_of w i) a) tells

-- a grant after a turn, and the widths that it keeps
pub ruleset grant_rules = (granted_next, granted_fields)
