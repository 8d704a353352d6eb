-- The wires of the fetch port in a cycle are those of the transaction that is issued and not granted before it.
use Rattle.std.proofs.Common.{◌≡◌, ℕ, suc, ◌+◌, ◌*◌, ◌/◌, ◌%◌, ◌≤◌, Bool, true, false, List, ◌∷◌, sym, refl, ap, ◌∙◌}
use Rattle.std.proofs.Common.{ap₂, arith}
use Rattle.ibx_time_invariant.proofs.FetchSide.{wires_in, FetchWires}
use Rattle.ibx_time_invariant.proofs.Links.{AreGranted, IsSent, Mid, Wired, bare_asks, bare_waits, first_asks, first_waits}
use Rattle.ibx_time_invariant.proofs.Links.{free, last, line_base, looks, pending, second_asks, second_waits}
use Rattle.ibx_time_invariant.proofs.Turns.{granted_later, past_sent}
use Rattle.ibx_time_invariant.proofs.DataWires.{ask_early, ask_late, none_wired, over, to_come, wired}
use Rattle.ibx_bus.specs.Port.{PortState}
use Rattle.ibx_bus.specs.PortTimes.{answer_time, grant_time}
use Rattle.ibx_isa.specs.Wires.{fetch_wires, no_request}
use Rattle.ibx_time.specs.Settings.{Settings, Setup, settings_of}
use Rattle.ibx_time.specs.Requests.{Past, Switch, Transaction, after_request, first_answer, found_slot, is_cached}
use Rattle.ibx_time.specs.Requests.{is_kept, is_present, line_of, made, request_by, transaction, victim}
use Rattle.ibx_time.specs.Streams.{Stream, last_of, past}
use Rattle.ibx_time.specs.Memories.{Write}
use Rattle.ibx_time.specs.BusLines.{wires_at}
use Rattle.ibx_icache.specs.declared.doing.Doing.TheVariants.{Answers, AsksBare, AsksFirst, AsksSecond, AwaitsBare}
use Rattle.ibx_icache.specs.declared.doing.Doing.TheVariants.{AwaitsFirst, AwaitsSecond, Looks, Rests}
use Rattle.ibx_icache.specs.Doing.{doing_of, wires_by}
use Rattle.ibx_icache.specs.declared.port.WordPort.{WordPort}
use Rattle.ibx_icache.specs.declared.doing.Doing.{Doing}
use Rattle.ibx_plan.specs.declared.site.Wait.{Wait}

-- ---- what a request leaves, by its case

-- an uncached request sends one transaction, and a miss the two of its line
bare_sent : (k : Settings) (ss : List Switch) (fs : List ℕ) (y : Past) (t a : ℕ) → is_cached ss fs t ≡ false
    → (after_request k ss fs y t a).sent ≡ transaction k.plan.iwaits (made y) t (fetch_wires a) ∷ y.sent
unfolding request_by
bare_sent k ss fs y t a e =
    ap (λ b. (request_by b (is_present fs y.fills (line_of a) t) (is_kept k fs y t a)
    (found_slot fs y.fills (line_of a) t) (victim fs y.fills (line_of a) t) k y t a).sent) e

-- a miss sends two transactions, the second issued at the answer of the first
miss_sent : (k : Settings) (ss : List Switch) (fs : List ℕ) (y : Past) (t a : ℕ) → is_cached ss fs t ≡ true
    → is_present fs y.fills (line_of a) t ≡ false
    → (after_request k ss fs y t a).sent
    ≡ transaction k.plan.iwaits (suc (made y)) (first_answer k y t) (fetch_wires (line_base a + 4))
    ∷ transaction k.plan.iwaits (made y) (t + 1) (fetch_wires (line_base a)) ∷ y.sent
unfolding request_by
miss_sent k ss fs y t a e f =
    ap₂ (λ b n. (request_by b n (is_kept k fs y t a) (found_slot fs y.fills (line_of a) t)
    (victim fs y.fills (line_of a) t) k y t a).sent) e f

-- a request in its first cycle drives nothing, whether its line is there or not
looks_sent : (k : Settings) (ss : List Switch) (fs : List ℕ) (y : Past) (t a c : ℕ) → is_cached ss fs t ≡ true
    → (b : Bool) → is_present fs y.fills (line_of a) t ≡ b → t ≡ c
    → wires_at (after_request k ss fs y t a).sent c ≡ wires_at y.sent c
unfolding request_by answer_time grant_time
looks_sent k ss fs y t a c e true f now =
    ap₂ (λ b n. wires_at (request_by b n (is_kept k fs y t a) (found_slot fs y.fills (line_of a) t)
    (victim fs y.fills (line_of a) t) k y t a).sent c) e f
looks_sent k ss fs y t a c e false f now =
    let x0 : Transaction = transaction k.plan.iwaits (made y) (t + 1) (fetch_wires (line_base a)) in
    let x1 : Transaction =
    transaction k.plan.iwaits (suc (made y)) (first_answer k y t) (fetch_wires (line_base a + 4)) in
    ap (λ ts. wires_at ts c) (miss_sent k ss fs y t a e f) ∙ to_come x1 (x0 ∷ y.sent) c (omega (arith, now))
    ∙ to_come x0 y.sent c (omega (arith, now))

-- the port's wires by what it does: those that rest and those that ask
wires_of_doing : (w : WordPort) (g : Doing) → doing_of w.c_state ≡ g → wires_in w ≡ wires_by g w.c_addr
wires_of_doing w g e = ap (λ d. wires_by d w.c_addr) e

-- a port drives no request while it rests, looks up, waits or answers
rest_wires : (addr : ℕ) → (wires_by Rests addr ≡ no_request) × (wires_by Looks addr ≡ no_request)
    × (wires_by AwaitsFirst addr ≡ no_request) × (wires_by AwaitsSecond addr ≡ no_request)
    × (wires_by Answers addr ≡ no_request) × (wires_by AwaitsBare addr ≡ no_request)
unfolding wires_by
rest_wires addr = (refl, refl, refl, refl, refl, refl)

-- a port that asks drives the address of its word, or that of a word of its line
ask_wires : (addr : ℕ) → (wires_by AsksBare addr ≡ fetch_wires (addr / 4 * 4))
    × (wires_by AsksFirst addr ≡ fetch_wires (addr / 8 * 8))
    × (wires_by AsksSecond addr ≡ fetch_wires (addr / 8 * 8 + 4))
unfolding wires_by
ask_wires addr = (refl, refl, refl)

-- the wires of a request that was asked at t after y
wired_wires : (s : Setup) (log : List Write) (ss : List Switch) (fs : List ℕ) (y : Past) (t a c : ℕ) (w : WordPort)
    (p : PortState) (tags lines : List ℕ) → AreGranted y.sent c → w.c_addr ≡ a → a % 4 ≡ 0
    → Wired s log ss fs y t a c w p tags lines
    → wires_in w ≡ wires_at (after_request (settings_of s) ss fs y t a).sent c
unfolding answer_time grant_time
wired_wires s log ss fs y t a c w p tags lines g addr even (bare_asks b d ask k) =
    let x : Transaction = transaction s.plan.iwaits (made y) t (fetch_wires a) in
    wires_of_doing w AsksBare d ∙ (ask_wires w.c_addr).0
    ∙ ap fetch_wires (ap (λ n. n / 4 * 4) addr ∙ omega (arith, even))
    ∙ sym (ap (λ ts. wires_at ts c) (bare_sent (settings_of s) ss fs y t a b)
    ∙ wired x y.sent c (ask_early s.plan.iwaits (made y) t c p ask) (ask_late s.plan.iwaits (made y) t c p ask))
wired_wires s log ss fs y t a c w p tags lines g addr even (bare_waits b d o ne k) =
    let x : Transaction = transaction s.plan.iwaits (made y) t (fetch_wires a) in
    wires_of_doing w AwaitsBare d ∙ (rest_wires w.c_addr).5 ∙ none_wired y.sent c g
    ∙ sym (ap (λ ts. wires_at ts c) (bare_sent (settings_of s) ss fs y t a b) ∙ over x y.sent c o.past)
wired_wires s log ss fs y t a c w p tags lines g addr even (looks b n d now f k) =
    wires_of_doing w Looks d ∙ (rest_wires w.c_addr).1 ∙ none_wired y.sent c g
    ∙ sym (looks_sent (settings_of s) ss fs y t a c b (is_present fs y.fills (line_of a) t) refl now)
wired_wires s log ss fs y t a c w p tags lines g addr even (first_asks b m d ask k) =
    let ws : List Wait = s.plan.iwaits in
    let x0 : Transaction = transaction ws (made y) (t + 1) (fetch_wires (line_base a)) in
    let x1 : Transaction =
    transaction ws (suc (made y)) (first_answer (settings_of s) y t) (fetch_wires (line_base a + 4)) in
    let late : c ≤ x0.grant = ask_late ws (made y) (t + 1) c p ask in
    wires_of_doing w AsksFirst d ∙ (ask_wires w.c_addr).1 ∙ ap fetch_wires (ap (λ n. n / 8 * 8) addr ∙ omega arith)
    ∙ sym (ap (λ ts. wires_at ts c) (miss_sent (settings_of s) ss fs y t a b m.absent)
    ∙ to_come x1 (x0 ∷ y.sent) c (omega (arith, late))
    ∙ wired x0 y.sent c (ask_early ws (made y) (t + 1) c p ask) late)
wired_wires s log ss fs y t a c w p tags lines g addr even (first_waits b m d o ne k) =
    let ws : List Wait = s.plan.iwaits in
    let x0 : Transaction = transaction ws (made y) (t + 1) (fetch_wires (line_base a)) in
    let x1 : Transaction =
    transaction ws (suc (made y)) (first_answer (settings_of s) y t) (fetch_wires (line_base a + 4)) in
    wires_of_doing w AwaitsFirst d ∙ (rest_wires w.c_addr).2 ∙ none_wired y.sent c g
    ∙ sym (ap (λ ts. wires_at ts c) (miss_sent (settings_of s) ss fs y t a b m.absent)
    ∙ to_come x1 (x0 ∷ y.sent) c (omega (arith, o.left, ne)) ∙ over x0 y.sent c o.past)
wired_wires s log ss fs y t a c w p tags lines g addr even (second_asks b m d e ask k) =
    let ws : List Wait = s.plan.iwaits in
    let x0 : Transaction = transaction ws (made y) (t + 1) (fetch_wires (line_base a)) in
    let x1 : Transaction =
    transaction ws (suc (made y)) (first_answer (settings_of s) y t) (fetch_wires (line_base a + 4)) in
    wires_of_doing w AsksSecond d ∙ (ask_wires w.c_addr).2
    ∙ ap fetch_wires (ap (λ n. n / 8 * 8 + 4) addr ∙ omega arith)
    ∙ sym (ap (λ ts. wires_at ts c) (miss_sent (settings_of s) ss fs y t a b m.absent)
    ∙ wired x1 (x0 ∷ y.sent) c (ask_early ws (suc (made y)) (first_answer (settings_of s) y t) c p ask)
    (ask_late ws (suc (made y)) (first_answer (settings_of s) y t) c p ask))
wired_wires s log ss fs y t a c w p tags lines g addr even (second_waits b m d e o ne k) =
    let ws : List Wait = s.plan.iwaits in
    let x0 : Transaction = transaction ws (made y) (t + 1) (fetch_wires (line_base a)) in
    let x1 : Transaction =
    transaction ws (suc (made y)) (first_answer (settings_of s) y t) (fetch_wires (line_base a + 4)) in
    wires_of_doing w AwaitsSecond d ∙ (rest_wires w.c_addr).3 ∙ none_wired y.sent c g
    ∙ sym (ap (λ ts. wires_at ts c) (miss_sent (settings_of s) ss fs y t a b m.absent) ∙ over x1 (x0 ∷ y.sent) c o.past
    ∙ over x0 y.sent c (omega (arith, o.past)))
wired_wires s log ss fs y t a c w p tags lines g addr even (last b m d e u now f k) =
    let ws : List Wait = s.plan.iwaits in
    let x0 : Transaction = transaction ws (made y) (t + 1) (fetch_wires (line_base a)) in
    let x1 : Transaction =
    transaction ws (suc (made y)) (first_answer (settings_of s) y t) (fetch_wires (line_base a + 4)) in
    wires_of_doing w Answers d ∙ (rest_wires w.c_addr).4 ∙ none_wired y.sent c g
    ∙ sym (ap (λ ts. wires_at ts c) (miss_sent (settings_of s) ss fs y t a b m)
    ∙ over x1 (x0 ∷ y.sent) c (omega (arith, now)) ∙ over x0 y.sent c (omega (arith, now)))

-- so the port's wires are those of its transactions, in every cycle
mid_wired : (s : Setup) (log : List Write) (x : Stream) (q c : ℕ) (busy : Bool) (w : WordPort) (p : PortState)
    (tags lines : List ℕ) → IsSent x.before
    → Mid s log x q c busy w p tags lines → wires_in w ≡ wires_at (past (settings_of s) x q).sent c
mid_wired s log x q c busy w p tags lines sent (free b d i k z) =
    wires_of_doing w Rests d ∙ (rest_wires w.c_addr).0
    ∙ none_wired (past (settings_of s) x q).sent c
    (granted_later (past (settings_of s) x q).sent (past (settings_of s) x q).answer c z
    (past_sent (settings_of s) x q sent))
mid_wired s log x q c busy w p tags lines sent (pending y t a work) =
    wired_wires s log x.switches x.fences y t (last_of x q) c w p tags lines
    (granted_later y.sent y.answer c (omega (arith, a.order, a.early)) a.sent) a.addr a.aligned work
    ∙ sym (ap (λ (z : Past). wires_at z.sent c) a.left)

-- so the wires of the fetch port are those of the history's transactions
pub fetch_wired : (s : Setup) → FetchWires s
fetch_wired s log x half q c walk fence enable next f w p tags lines u =
    mid_wired s log x q c f.f_busy w p tags lines u.sent u.mid
