-- What a cycle drives: the request, the words that are written, and the alerts.
use Rattle.std.proofs.Common.{◌≡◌, ◌≢◌, ℕ, ◌+◌, ◌*◌, ◌/◌, ◌%◌, ◌^◌, ◌<◌, ◌≤◌, Bool, true, false, not, ◌&&◌, ◌||◌, ◌==◌}
use Rattle.std.proofs.Common.{◌⊎◌, inl, inr, nat_lt, nat_le, refl, sym, ap, ◌∙◌, subst, arith, if◌then◌else◌}
use Rattle.std.proofs.lemmas.Bool.{cases_lt, eqb-true, eq-eqb, lt-ltb, lt-leb, le-ltb, le-leb}
use Rattle.std.proofs.lemmas.Bool.Decides.{Decides-and, Decides-eqb}
use Rattle.std.specs.Bool.{Decides}
use Rattle.ibx_isa.specs.declared.bus.Alerts.{Alerts}
use Rattle.ibx_isa.specs.declared.bus.Req.{Req}
use Rattle.ibx_secded.specs.Code.{encode_of, payload_of, syndrome_of}
use Rattle.ibx_icache.specs.declared.doing.Doing.{Doing}
use Rattle.ibx_icache.specs.declared.doing.Doing.TheVariants.{Rests, Looks, AsksFirst, AwaitsFirst, AsksSecond}
use Rattle.ibx_icache.specs.declared.doing.Doing.TheVariants.{AwaitsSecond, Answers, AsksBare, AwaitsBare}
use Rattle.ibx_icache.specs.declared.port.WordPort.{WordPort}
use Rattle.ibx_icache.specs.declared.wires.CacheOut.{CacheOut}
use Rattle.ibx_icache.specs.declared.writes.Filling.{Filling}
use Rattle.ibx_icache.specs.declared.writes.Filling.TheVariants.{Nothing, Clears, Stores}
use Rattle.ibx_icache.specs.Doing.{doing_of, is_look, stores_by, wires_by}
use Rattle.ibx_icache.specs.WordPort.{WordIn, alerts_by, alerts_of, filling_of, has_bad, is_bad_word, is_wrong, out_by}
use Rattle.ibx_icache.specs.WordPort.{out_of, slot_of, stores_of, wires_of}
use Rattle.ibx_icache.specs.Rules.{Empties, IsBad, IsFetch, IsStored, StoresLine, fetch_at, no_fetch}
use Rattle.ibx_icache.proofs.Lookups.{bad, flipped_word}
use Rattle.ibx_icache.proofs.States.{awaits_at, awaits_second, is_look-doing}

-- ---- the request

-- each wire of the bus is a fetch of a word or none
fetches_by : (g : Doing) (addr : ℕ) → IsFetch (wires_by g addr)
unfolding wires_by
fetches_by AsksFirst addr = fetch_at (addr / 8 * 8) (omega arith) refl
fetches_by AsksSecond addr = fetch_at (addr / 8 * 8 + 4) (omega arith) refl
fetches_by AsksBare addr = fetch_at (addr / 4 * 4) (omega arith) refl
fetches_by Rests addr = no_fetch refl
fetches_by Looks addr = no_fetch refl
fetches_by AwaitsFirst addr = no_fetch refl
fetches_by AwaitsSecond addr = no_fetch refl
fetches_by Answers addr = no_fetch refl
fetches_by AwaitsBare addr = no_fetch refl

-- what is written changes neither the bus nor the alerts
bus_by : (f : Filling) (bus : Req) (alerts : Alerts) → (out_by f bus alerts).bus ≡ bus
bus_by Nothing bus alerts = refl
bus_by (Clears set) bus alerts = refl
bus_by (Stores slot tag word0 word1) bus alerts = refl

-- the alerts are the same whether a set is emptied, a line stored, or neither
alerts_kept : (f : Filling) (bus : Req) (alerts : Alerts) → (out_by f bus alerts).alerts ≡ alerts
alerts_kept Nothing bus alerts = refl
alerts_kept (Clears set) bus alerts = refl
alerts_kept (Stores slot tag word0 word1) bus alerts = refl

-- so the port drives a fetch of a word or none, at an aligned address
pub fetches : (w : WordPort) (i : WordIn) → IsFetch (out_of w i).bus
unfolding out_of wires_of
fetches w i = subst IsFetch (sym (bus_by (filling_of w i) (wires_of w i) (alerts_of w i))) (fetches_by _ _)

-- a fetch is at a word's address, and no request is at address 0
pub aligned_by : (r : Req) → IsFetch r → r.addr % 4 ≡ 0
aligned_by r (no_fetch e) = ap (λ (q : Req). q.addr % 4) e
aligned_by r (fetch_at addr k e) = ap (λ (q : Req). q.addr % 4) e ∙ k

-- ---- the words that are written

-- a word's test and its syndrome
whole_word : (word : ℕ) → is_bad_word word ≡ false → syndrome_of 32 7 word ≡ 0
whole_word word e = eqb-true (syndrome_of 32 7 word) 0 (not_false (syndrome_of 32 7 word == 0) e)
  where
    not_false : (b : Bool) → not b ≡ false → b ≡ true
    not_false true e = refl
    not_false false e = absurd cc

-- a word whose check bits agree isn't taken for a flipped one
bad_word_not : (word : ℕ) → syndrome_of 32 7 word ≡ 0 → is_bad_word word ≡ false
bad_word_not word e = ap not (eq-eqb (syndrome_of 32 7 word) 0 e)

-- a test that compares two numbers tells their order
leb-true : (a b : ℕ) → nat_le a b ≡ true → a ≤ b
leb-true a b e = by (cases_lt b a)
  where
    by : (b < a) ⊎ (a ≤ b) → a ≤ b
    by (inl lt) = let no_ : false ≡ true = sym (lt-leb a b lt) ∙ e in absurd cc
    by (inr le) = le

-- where two tests hold together, each of them does
and_parts : (a b : Bool) → (a && b) ≡ true → (a ≡ true) × (b ≡ true)
and_parts true b e = (refl, e)
and_parts false b e = absurd cc

-- where each of two tests holds, they hold together
and_true : (a b : Bool) → a ≡ true → b ≡ true → (a && b) ≡ true
and_true true b e f = f
and_true false b e f = e

-- a test fails where its opposite holds
not_true : (b : Bool) → not b ≡ true → b ≡ false
not_true false e = refl
not_true true e = absurd cc

-- where not one of two tests holds, each of them fails
or_false : (a b : Bool) → (a || b) ≡ false → (a ≡ false) × (b ≡ false)
or_false true b e = absurd cc
or_false false b e = (refl, e)

-- where each of two tests fails, not one of them holds
or_none : (a b : Bool) → a ≡ false → b ≡ false → (a || b) ≡ false
or_none true b e f = e
or_none false b e f = f

-- the test of a line's storing has its four parts
stored_by : (g : Doing) (came good ended : Bool) → stores_by g came good ended ≡ true
    → (g ≡ AwaitsSecond) × (came ≡ true) × (good ≡ true) × (ended ≡ true)
stored_by AwaitsSecond true good ended e =
    let both : (good ≡ true) × (ended ≡ true) = and_parts good ended e in (refl, refl, both.0, both.1)
stored_by AwaitsSecond false good ended e = absurd cc
stored_by Rests came good ended e = absurd cc
stored_by Looks came good ended e = absurd cc
stored_by AsksFirst came good ended e = absurd cc
stored_by AwaitsFirst came good ended e = absurd cc
stored_by AsksSecond came good ended e = absurd cc
stored_by Answers came good ended e = absurd cc
stored_by AsksBare came good ended e = absurd cc
stored_by AwaitsBare came good ended e = absurd cc

-- and it asks for no more than these four
stores_if : (g : Doing) (came good ended : Bool) → g ≡ AwaitsSecond → came ≡ true → good ≡ true → ended ≡ true
    → stores_by g came good ended ≡ true
stores_if g came good ended a b c d = cc

-- neither word of the line is an error, and no FENCE.I was noted
abbrev is_good : WordPort → WordIn → Bool
is_good w i = not (is_wrong i.rsp) && w.c_word0 / 2 ^ 32 == 0 && not (w.c_nostore || i.fence)

-- a line is stored where the walk has ended and this test holds
stored_where : (w : WordPort) (i : WordIn) → stores_of w i ≡ true → IsStored w i
stored_where w i e =
    let parts : (doing_of w.c_state ≡ AwaitsSecond) × (i.rsp.valid ≡ true) × (is_good w i ≡ true)
    × (nat_le 256 w.c_walk ≡ true) =
    stored_by (doing_of w.c_state) i.rsp.valid (is_good w i) (nat_le 256 w.c_walk) e in
    let good : ((not (is_wrong i.rsp) && w.c_word0 / 2 ^ 32 == 0) ≡ true) × (not (w.c_nostore || i.fence) ≡ true) =
    and_parts (not (is_wrong i.rsp) && w.c_word0 / 2 ^ 32 == 0) (not (w.c_nostore || i.fence)) parts.2 in
    let words : (not (is_wrong i.rsp) ≡ true) × ((w.c_word0 / 2 ^ 32 == 0) ≡ true) =
    and_parts (not (is_wrong i.rsp)) (w.c_word0 / 2 ^ 32 == 0) good.0 in
    let right : (i.rsp.err ≡ false) × (is_bad_word i.rsp.word ≡ false) =
    or_false i.rsp.err (is_bad_word i.rsp.word) (not_true (is_wrong i.rsp) words.0) in
    let free : (w.c_nostore ≡ false) × (i.fence ≡ false) =
    or_false w.c_nostore i.fence (not_true (w.c_nostore || i.fence) good.1) in
    let none_over : w.c_word0 / 2 ^ 32 ≡ 0 = eqb-true (w.c_word0 / 2 ^ 32) 0 words.1 in
    record {
      awaits = awaits_second w.c_state parts.0;
      comes = parts.1;
      good = right.0;
      whole = whole_word i.rsp.word right.1;
      first = omega (arith, none_over);
      before = free.0;
      unfenced = free.1;
      emptied = leb-true 256 w.c_walk parts.3;
    }

-- and nowhere else
stored_if : (w : WordPort) (i : WordIn) → IsStored w i → stores_of w i ≡ true
stored_if w i s =
    let none_over : w.c_word0 / 2 ^ 32 ≡ 0 = omega (arith, s.first) in
    stores_if (doing_of w.c_state) i.rsp.valid (is_good w i) (nat_le 256 w.c_walk) (awaits_at w.c_state s.awaits)
    s.comes
    (and_true (not (is_wrong i.rsp) && w.c_word0 / 2 ^ 32 == 0) (not (w.c_nostore || i.fence))
    (and_true (not (is_wrong i.rsp)) (w.c_word0 / 2 ^ 32 == 0)
    (ap not (or_none i.rsp.err (is_bad_word i.rsp.word) s.good (bad_word_not i.rsp.word s.whole)))
    (eq-eqb (w.c_word0 / 2 ^ 32) 0 none_over))
    (ap not (or_none w.c_nostore i.fence s.before s.unfenced)))
    (le-leb 256 w.c_walk s.emptied)

-- so the test decides whether a line is stored
pub stored_told : (w : WordPort) (i : WordIn) → Decides (stores_of w i) (IsStored w i)
stored_told w i = (stored_where w i, stored_if w i)

-- the words that are written, by whether the walk goes on and whether a line is stored
abbrev filling_by : Bool → Bool → ℕ → ℕ → ℕ → ℕ → ℕ → Filling
filling_by walks stores set slot tag word0 word1 =
    if walks then Clears set else if stores then Stores slot tag word0 word1 else Nothing

-- the same of a cycle's own words
abbrev filled : WordPort → WordIn → Bool → Bool → Filling
filled w i walks stores =
    filling_by walks stores w.c_walk (slot_of w.c_addr w.c_way) (encode_of 22 6 (2 ^ 21 + w.c_addr / 2 ^ 11))
    (encode_of 32 7 (w.c_word0 % 2 ^ 32)) (encode_of 32 7 (payload_of 32 i.rsp.word))

-- what a cycle drives, by those two tests
abbrev drives : WordPort → WordIn → Bool → Bool → CacheOut
drives w i walks stores = out_by (filled w i walks stores) (wires_of w i) (alerts_of w i)

-- this is what it drives
drives_is : (w : WordPort) (i : WordIn) → out_of w i ≡ drives w i (nat_lt w.c_walk 256) (stores_of w i)
unfolding out_of filling_of
drives_is w i = refl

-- a way is written only with a line
stores_then : (w : WordPort) (i : WordIn) (walks stores : Bool) → (drives w i walks stores).ways ≢ 0 → stores ≡ true
stores_then w i true stores n = absurd (n refl)
stores_then w i false true n = refl
stores_then w i false false n = absurd (n refl)

-- a line is stored only where it may be
pub stored : (w : WordPort) (i : WordIn) → (out_of w i).ways ≢ 0 → IsStored w i
stored w i n = stored_where w i (stores_then w i (nat_lt w.c_walk 256) (stores_of w i)
    (λ e. n (ap (λ (o : CacheOut). o.ways) (drives_is w i) ∙ e)))

-- the set of a slot is the address's
slot_set : (addr : ℕ) (way : Bool) → slot_of addr way / 2 % 256 ≡ addr / 8 % 256
slot_set addr true = omega arith
slot_set addr false = omega arith

-- the ways that are written, by the slot and by the way
abbrev ways_at : ℕ → ℕ
ways_at rest = if rest == 0 then 1 else 2

-- the same by the way: 1 for the first, 2 for the second
abbrev ways_in : Bool → ℕ
ways_in way = if way then 2 else 1

-- they are the same
slot_way : (addr : ℕ) (way : Bool) → ways_at (slot_of addr way % 2) ≡ ways_in way
slot_way addr true = let odd : slot_of addr true % 2 ≡ 1 = omega arith in ap ways_at odd
slot_way addr false = let even : slot_of addr false % 2 ≡ 0 = omega arith in ap ways_at even

-- a stored line has the tag of the address and both words
line_by : (w : WordPort) (i : WordIn) → w.c_word0 < 2 ^ 32 → StoresLine w i (drives w i false true)
line_by w i low =
    let same : w.c_word0 % 2 ^ 32 ≡ w.c_word0 = omega (arith, low) in
    record {
      way0 = λ e. slot_way w.c_addr w.c_way ∙ ap ways_in e;
      way1 = λ e. slot_way w.c_addr w.c_way ∙ ap ways_in e;
      set = slot_set w.c_addr w.c_way;
      tag = refl;
      word0 = ap (λ (n : ℕ). encode_of 32 7 n) same;
      word1 = refl;
    }

-- and it is stored where it may be
pub stores : (w : WordPort) (i : WordIn) → IsStored w i → StoresLine w i (out_of w i)
stores w i s =
    let is : out_of w i ≡ drives w i false true =
    drives_is w i ∙ ap (λ (b : Bool). drives w i b (stores_of w i)) (le-ltb w.c_walk 256 s.emptied)
    ∙ ap (λ (b : Bool). drives w i false b) (stored_if w i s) in
    subst (λ (o : CacheOut). StoresLine w i o) (sym is) (line_by w i s.first)

-- the walk empties its set
pub empties : (w : WordPort) (i : WordIn) → w.c_walk < 256 → Empties w.c_walk (out_of w i)
empties w i low =
    let is : out_of w i ≡ drives w i true (stores_of w i) =
    drives_is w i ∙ ap (λ (b : Bool). drives w i b (stores_of w i)) (lt-ltb w.c_walk 256 low) in
    subst (λ (o : CacheOut). Empties w.c_walk o) (sym is) (record { clears = refl; set = refl; ways = refl })

-- without the walk no set is emptied
not_clear : (w : WordPort) (i : WordIn) (b : Bool) → (drives w i false b).clear ≡ false
not_clear w i true = refl
not_clear w i false = refl

-- and nothing else empties one
pub keeps : (w : WordPort) (i : WordIn) → 256 ≤ w.c_walk → (out_of w i).clear ≡ false
keeps w i high =
    ap (λ (o : CacheOut). o.clear) (drives_is w i
    ∙ ap (λ (b : Bool). drives w i b (stores_of w i)) (le-ltb w.c_walk 256 high)) ∙ not_clear w i (stores_of w i)

-- ---- the alerts

-- each alert by its bit
minor_by : (a b : Bool) → ((alerts_by a b).0 % 2 == 1) ≡ a
minor_by true true = refl
minor_by true false = refl
minor_by false true = refl
minor_by false false = refl

-- BUS is bit 2, the highest, with MINOR or without
bus_alert_by : (a b : Bool) → ((alerts_by a b).0 / 4 == 1) ≡ b
bus_alert_by true true = refl
bus_alert_by true false = refl
bus_alert_by false true = refl
bus_alert_by false false = refl

-- no cause sets bit 1, which is INTERNAL
internal_by : (a b : Bool) → (alerts_by a b).0 / 2 % 2 ≡ 0
internal_by true true = refl
internal_by true false = refl
internal_by false true = refl
internal_by false false = refl

-- the two causes of alerts: a bad way that is looked up, and a flipped word of the bus
abbrev is_minor : WordPort → WordIn → Bool
is_minor w i = is_look (doing_of w.c_state) && has_bad i.look w.c_addr

-- the second cause: a flipped word in an answer of the bus
abbrev is_bus : WordIn → Bool
is_bus i = i.rsp.valid && is_bad_word i.rsp.word

-- the alerts are those of the two causes
alerts_are : (w : WordPort) (i : WordIn) → (out_of w i).alerts ≡ alerts_by (is_minor w i) (is_bus i)
unfolding out_of alerts_of
alerts_are w i = alerts_kept (filling_of w i) (wires_of w i) (alerts_of w i)

-- a test decides that it holds
decides_true : (b : Bool) → Decides b (b ≡ true)
decides_true b = (λ e. e, λ e. e)

-- MINOR exactly where a way that is looked up is bad
pub minor : (w : WordPort) (i : WordIn)
    → Decides ((out_of w i).alerts.0 % 2 == 1) ((w.c_state ≡ 1) × ((way : Bool) × IsBad i.look w.c_addr way))
minor w i =
    let same : ((out_of w i).alerts.0 % 2 == 1) ≡ is_minor w i =
    ap (λ (a : Alerts). a.0 % 2 == 1) (alerts_are w i) ∙ minor_by (is_minor w i) (is_bus i) in
    let look : Decides (is_look (doing_of w.c_state)) (w.c_state ≡ 1) =
    subst (λ (b : Bool). Decides b (w.c_state ≡ 1)) (sym (is_look-doing w.c_state)) (Decides-eqb w.c_state 1) in
    subst (λ (b : Bool). Decides b ((w.c_state ≡ 1) × ((way : Bool) × IsBad i.look w.c_addr way))) (sym same)
    (Decides-and (is_look (doing_of w.c_state)) (has_bad i.look w.c_addr) look (bad i.look w.c_addr))

-- BUS exactly where a word that the bus answers has a flipped bit
pub bus : (w : WordPort) (i : WordIn)
    → Decides ((out_of w i).alerts.0 / 4 == 1) ((i.rsp.valid ≡ true) × (syndrome_of 32 7 i.rsp.word ≢ 0))
bus w i =
    let same : ((out_of w i).alerts.0 / 4 == 1) ≡ is_bus i =
    ap (λ (a : Alerts). a.0 / 4 == 1) (alerts_are w i) ∙ bus_alert_by (is_minor w i) (is_bus i) in
    subst (λ (b : Bool). Decides b ((i.rsp.valid ≡ true) × (syndrome_of 32 7 i.rsp.word ≢ 0))) (sym same)
    (Decides-and i.rsp.valid (is_bad_word i.rsp.word) (decides_true i.rsp.valid) (flipped_word i.rsp.word))

-- INTERNAL is never among them
pub no_internal : (w : WordPort) (i : WordIn) → (out_of w i).alerts.0 / 2 % 2 ≡ 0
no_internal w i = ap (λ (a : Alerts). a.0 / 2 % 2) (alerts_are w i) ∙ internal_by (is_minor w i) (is_bus i)
