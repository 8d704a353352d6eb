-- Unused words have no effect, also without a gate: the word port and the load-store unit look at a word only where it
-- is used.
use Rattle.std.proofs.Common.{◌≡◌, ℕ, Bool, true, false, not, ◌==◌, ◌&&◌, ◌||◌, refl, ap, ap₂, subst, sym, ◌∙◌}
use Rattle.std.specs.Prelude.{if◌then◌else◌, ◌+◌, ◌%◌, ◌/◌, ◌^◌, nat_le, nat_lt}
use Rattle.ibx_isa.specs.declared.bus.Rsp.{Rsp}
use Rattle.ibx_isa.specs.declared.event.Access.{Access}
use Rattle.ibx_secded.specs.Code.{encode_of, payload_of}
use Rattle.ibx_prefetch.specs.declared.buffer.WordAns.{WordAns}
use Rattle.ibx_icache.specs.declared.doing.Doing.{Doing}
use Rattle.ibx_icache.specs.declared.doing.Doing.TheVariants.{Rests, Looks, AsksFirst, AwaitsFirst, AsksSecond}
use Rattle.ibx_icache.specs.declared.doing.Doing.TheVariants.{AwaitsSecond, Answers, AsksBare, AwaitsBare}
use Rattle.ibx_icache.specs.declared.lookup.Look.{Look}
use Rattle.ibx_icache.specs.declared.port.WordPort.{WordPort}
use Rattle.ibx_icache.specs.declared.writes.Filling.{Filling}
use Rattle.ibx_icache.specs.declared.writes.Filling.TheVariants.{Nothing, Clears, Stores}
use Rattle.ibx_icache.specs.Doing.{answers_by, doing_of, granted_by, is_look, is_rest, state_of, stores_by, wires_by}
use Rattle.ibx_icache.specs.WordPort.{WordIn, after_answer, answer_of, begun_by, entry_by, filling_of, found_word}
use Rattle.ibx_icache.specs.WordPort.{gone_by, has_bad, is_bad0, is_bad1, is_bad_tag, is_bad_word, is_cached, is_hit}
use Rattle.ibx_icache.specs.WordPort.{is_wrong, marked, matches, rsp_entry, slot_of, victim_of, walked, wires_of}
use Rattle.ibx_icache.specs.WordPort.{word_port_next}
use Rattle.ibx_icache.proofs.States.{is_look-doing}
use Rattle.ibx_lsu.specs.declared.unit.Lsu.{Lsu}
use Rattle.ibx_lsu.specs.Turns.{next_of, turn_of}

-- ---- the gates: of an answer, and of the cache's words by whether they are looked up

-- an answer's word counts only where it is valid
abbrev pub gated_rsp : Rsp → Rsp
gated_rsp r = record r { word = if r.valid then r.word else 0 }

-- tags count only in a lookup, and a data word only where its way is the lowest that matches
abbrev pub gated_look : Bool → ℕ → Look → Look
gated_look looks addr k = record {
  tag0 = if looks then k.tag0 else 0;
  tag1 = if looks then k.tag1 else 0;
  data0 = if looks && matches k.tag0 addr then k.data0 else 0;
  data1 = if looks && (not (matches k.tag0 addr) && matches k.tag1 addr) then k.data1 else 0;
}

-- of all that the word port is handed
abbrev pub gated_at : Bool → ℕ → WordIn → WordIn
gated_at looks addr i = record i { rsp = gated_rsp i.rsp; look = gated_look looks addr i.look }

-- ---- a lookup

-- the tests of a way that look at a data word
bad0_by : (b m : Bool) (bad : ℕ → Bool) (d : ℕ) → (b || (m && bad (if m then d else 0))) ≡ (b || (m && bad d))
bad0_by b true bad d = refl
bad0_by b false bad d = refl

-- the same of way 1, whose data word counts only where way 0 doesn't match
bad1_by : (b m n : Bool) (bad : ℕ → Bool) (d : ℕ)
    → (b || (not m && n && bad (if (not m && n) then d else 0))) ≡ (b || (not m && n && bad d))
bad1_by b true n bad d = refl
bad1_by b false true bad d = refl
bad1_by b false false bad d = refl

-- the ways that are bad
bad0_is : (addr : ℕ) (k : Look) → is_bad0 (gated_look true addr k) addr ≡ is_bad0 k addr
bad0_is addr k = bad0_by (is_bad_tag k.tag0) (matches k.tag0 addr) is_bad_word k.data0

-- to show 0 for its unused data word leaves whether way 1 is bad
bad1_is : (addr : ℕ) (k : Look) → is_bad1 (gated_look true addr k) addr ≡ is_bad1 k addr
bad1_is addr k = bad1_by (is_bad_tag k.tag1) (matches k.tag0 addr) (matches k.tag1 addr) is_bad_word k.data1

-- a hit
hit_is : (addr : ℕ) (k : Look) → is_hit (gated_look true addr k) addr ≡ is_hit k addr
unfolding is_hit
hit_is addr k =
    ap₂ (λ (a b : Bool). (matches k.tag0 addr || matches k.tag1 addr) && not (a || b)) (bad0_is addr k)
    (bad1_is addr k)

-- the way that a miss fills
victim_is : (addr : ℕ) (k : Look) (alt : Bool) → victim_of (gated_look true addr k) addr alt ≡ victim_of k addr alt
unfolding victim_of
victim_is addr k alt = ap₂ (λ (a b : Bool). victim_by a b) (bad0_is addr k) (bad1_is addr k)
  where
    victim_by : Bool → Bool → Bool
    victim_by a b =
        if a then false else
        if b then true else
        if payload_of 22 k.tag0 / 2 ^ 21 == 0 then false else
        if payload_of 22 k.tag1 / 2 ^ 21 == 0 then true else
        alt

-- ---- the answer

-- by whether the port answers, and the word
abbrev given_by : Bool → ℕ → WordAns
given_by b entry =
    if b
    then record { valid = true; err = not (entry / 2 ^ 32 == 0); word = entry % 2 ^ 32 }
    else record { valid = false; err = false; word = 0 }

-- of a lookup: without a match there is no hit
found_by : (m n good : Bool) (d e : ℕ)
    → given_by ((m || n) && good) (payload_of 32 (if m then (if m then d else 0) else (if (not m && n) then e else 0)))
    ≡ given_by ((m || n) && good) (payload_of 32 (if m then d else e))
found_by true n good d e = refl
found_by false true good d e = refl
found_by false false good d e = refl

-- of the bus
bare_by : (valid err : Bool) (word : ℕ)
    → given_by valid (rsp_entry (record { valid = valid; err = err; word = if valid then word else 0 }))
    ≡ given_by valid (rsp_entry (record { valid = valid; err = err; word = word }))
bare_by true err word = refl
bare_by false err word = refl

-- by what the port does
abbrev given : Doing → WordPort → Rsp → Look → WordAns
given d w r k = given_by (answers_by d r.valid (is_hit k w.c_addr)) (entry_by d w r k)

-- with its gate
answer_at : (d : Doing) (w : WordPort) (r : Rsp) (k : Look)
    → given d w (gated_rsp r) (gated_look (is_look d) w.c_addr k) ≡ given d w r k
unfolding answers_by entry_by found_word is_hit
answer_at Looks w r k =
    ap (λ (hit : Bool). given_by hit (found_word (gated_look true w.c_addr k) w.c_addr)) (hit_is w.c_addr k)
    ∙ found_by (matches k.tag0 w.c_addr) (matches k.tag1 w.c_addr) (not (has_bad k w.c_addr)) k.data0 k.data1
answer_at Answers w r k = refl
answer_at AwaitsBare w r k = bare_by r.valid r.err r.word
answer_at Rests w r k = refl
answer_at AsksFirst w r k = refl
answer_at AwaitsFirst w r k = refl
answer_at AsksSecond w r k = refl
answer_at AwaitsSecond w r k = refl
answer_at AsksBare w r k = refl

-- the answer is by what the port does
given_is : (w : WordPort) (r : Rsp) (k : Look) → answer_of w r k ≡ given (doing_of w.c_state) w r k
unfolding answer_of
given_is w r k = refl

-- the word that answers doesn't depend on unused words
pub answer_is : (w : WordPort) (r : Rsp) (k : Look)
    → answer_of w (gated_rsp r) (gated_look (w.c_state == 1) w.c_addr k) ≡ answer_of w r k
answer_is w r k =
    given_is w (gated_rsp r) (gated_look (w.c_state == 1) w.c_addr k)
    ∙ subst (λ (looks : Bool). given (doing_of w.c_state) w (gated_rsp r) (gated_look looks w.c_addr k)
    ≡ given (doing_of w.c_state) w r k)
    (is_look-doing w.c_state) (answer_at (doing_of w.c_state) w r k)
    ∙ sym (given_is w r k)

-- ---- the fields

-- a lookup that ends
looks_by : (hit came came1 stores stores1 way way1 : Bool) (entry entry1 : ℕ) (w : WordPort) → way ≡ way1
    → gone_by Looks came hit stores way entry w ≡ gone_by Looks came1 hit stores1 way1 entry1 w
unfolding gone_by
looks_by true came came1 stores stores1 way way1 entry entry1 w e = refl
looks_by false came came1 stores stores1 way way1 entry entry1 w e =
    ap (λ (b : Bool). record w { c_state = 2; c_way = b }) e

-- what comes, by what the port does
abbrev stores_at : Doing → WordPort → WordIn → Bool
stores_at d w i =
    stores_by d i.rsp.valid (not (is_wrong i.rsp) && w.c_word0 / 2 ^ 32 == 0 && not (w.c_nostore || i.fence))
    (nat_le 256 w.c_walk)

-- the port after it
abbrev gone : Doing → WordPort → WordIn → WordPort
gone d w i =
    gone_by d i.rsp.valid (is_hit i.look w.c_addr) (stores_at d w i) (victim_of i.look w.c_addr w.c_alt)
    (rsp_entry i.rsp) w

-- what it is handed, with this answer
abbrev answered : Bool → Bool → ℕ → WordIn → WordIn
answered valid err word i = record i { rsp = record { valid = valid; err = err; word = word } }

-- for an answer in its three wires
gone_at : (d : Doing) (valid err : Bool) (word : ℕ) (w : WordPort) (i : WordIn)
    → gone d w (gated_at (is_look d) w.c_addr (answered valid err word i)) ≡ gone d w (answered valid err word i)
unfolding gone_by
gone_at Looks valid err word w i =
    let g : WordIn = gated_at true w.c_addr (answered valid err word i) in
    let j : WordIn = answered valid err word i in
    let way : Bool = victim_of g.look w.c_addr w.c_alt in
    ap (λ (hit : Bool). gone_by Looks valid hit (stores_at Looks w g) way (rsp_entry g.rsp) w) (hit_is w.c_addr i.look)
    ∙ looks_by (is_hit i.look w.c_addr) valid valid (stores_at Looks w g) (stores_at Looks w j) way
    (victim_of i.look w.c_addr w.c_alt)
    (rsp_entry g.rsp) (rsp_entry j.rsp) w (victim_is w.c_addr i.look w.c_alt)
gone_at AwaitsFirst true err word w i = refl
gone_at AwaitsFirst false err word w i = refl
gone_at AwaitsSecond true err word w i = refl
gone_at AwaitsSecond false err word w i = refl
gone_at AwaitsBare true err word w i = refl
gone_at AwaitsBare false err word w i = refl
gone_at Rests valid err word w i = refl
gone_at AsksFirst valid err word w i = refl
gone_at AsksSecond valid err word w i = refl
gone_at Answers valid err word w i = refl
gone_at AsksBare valid err word w i = refl

-- the port after what comes
after_is : (w : WordPort) (i : WordIn) → after_answer w (gated_at (w.c_state == 1) w.c_addr i) ≡ after_answer w i
after_is w i =
    let d : Doing = doing_of w.c_state in
    ap (λ (v : WordPort). marked i.fence v)
    (subst (λ (looks : Bool). gone d w (gated_at looks w.c_addr i) ≡ gone d w i) (is_look-doing w.c_state)
    (gone_at d i.rsp.valid i.rsp.err i.rsp.word w i))

-- the port after a request too
abbrev begun : WordPort → WordIn → WordPort → WordPort
begun w i v = begun_by (is_rest (doing_of v.c_state)) (is_cached w i) i.request v

-- the fields after a cycle
pub next_is : (w : WordPort) (i : WordIn) (granted : Bool)
    → word_port_next w (gated_at (w.c_state == 1) w.c_addr i) granted ≡ word_port_next w i granted
unfolding word_port_next
next_is w i granted = ap (λ (v : WordPort). left_by v) (after_is w i)
  where
    left_by : WordPort → WordPort
    left_by v =
        let u : WordPort = begun w i v in
        record u { c_state = state_of (granted_by granted (doing_of u.c_state)); c_walk = walked i.fence w.c_walk }

-- the wires on the bus
pub wires_are : (w : WordPort) (i : WordIn) → wires_of w (gated_at (w.c_state == 1) w.c_addr i) ≡ wires_of w i
unfolding wires_of
wires_are w i = ap (λ (v : WordPort). wires_by (doing_of (begun w i v).c_state) (begun w i v).c_addr) (after_is w i)

-- ---- the words of the cache that are written

-- by what the port does
abbrev filling : Doing → WordPort → WordIn → Filling
filling d w i =
    if nat_lt w.c_walk 256 then Clears w.c_walk else
    if stores_at d w i
    then Stores (slot_of w.c_addr w.c_way) (encode_of 22 6 (2 ^ 21 + w.c_addr / 2 ^ 11))
    (encode_of 32 7 (w.c_word0 % 2 ^ 32)) (encode_of 32 7 (payload_of 32 i.rsp.word))
    else Nothing

-- a line is stored with an answer that is valid
filling_at : (d : Doing) (valid err : Bool) (word : ℕ) (w : WordPort) (i : WordIn) (looks : Bool)
    → filling d w (gated_at looks w.c_addr (answered valid err word i)) ≡ filling d w (answered valid err word i)
filling_at AwaitsSecond true err word w i looks = refl
filling_at AwaitsSecond false err word w i looks = refl
filling_at Rests valid err word w i looks = refl
filling_at Looks valid err word w i looks = refl
filling_at AsksFirst valid err word w i looks = refl
filling_at AwaitsFirst valid err word w i looks = refl
filling_at AsksSecond valid err word w i looks = refl
filling_at Answers valid err word w i looks = refl
filling_at AsksBare valid err word w i looks = refl
filling_at AwaitsBare valid err word w i looks = refl

-- what is written
pub filling_is : (w : WordPort) (i : WordIn) → filling_of w (gated_at (w.c_state == 1) w.c_addr i) ≡ filling_of w i
unfolding filling_of
filling_is w i = filling_at (doing_of w.c_state) i.rsp.valid i.rsp.err i.rsp.word w i (w.c_state == 1)

-- ---- the load-store unit: it looks at an answer's word in the states 2 and 5 alone, and there only where it is valid

-- the unit and the answer by their fields
abbrev unit : ℕ → ℕ → Lsu
unit state first = record { ls_state = state; ls_first = first }

-- an answer by its fields
abbrev rsp : Bool → Bool → ℕ → Rsp
rsp valid err word = record { valid = valid; err = err; word = word }

-- what it does in a cycle, by its state
load_by : (n first : ℕ) (b c d e valid err : Bool) (word : ℕ) (a : Access)
    → (n == 2) ≡ b → (n == 3) ≡ c → (n == 4) ≡ d → (n == 5) ≡ e
    → turn_of (unit n first) a (gated_rsp (rsp valid err word)) ≡ turn_of (unit n first) a (rsp valid err word)
unfolding turn_of
load_by n first b c d e true err word a i j k l = refl
load_by n first true c d e false err word a i j k l = rw i refl
load_by n first false true d e false err word a i j k l = rw (i, j) refl
load_by n first false false true e false err word a i j k l = rw (i, j, k) refl
load_by n first false false false true false err word a i j k l = rw (i, j, k, l) refl
load_by n first false false false false false err word a i j k l = rw (i, j, k, l) refl

-- in a cycle
pub load_is : (u : Lsu) (a : Access) (r : Rsp) → turn_of u a (gated_rsp r) ≡ turn_of u a r
load_is u a r =
    load_by u.ls_state u.ls_first (u.ls_state == 2) (u.ls_state == 3) (u.ls_state == 4) (u.ls_state == 5) r.valid r.err
    r.word a refl refl refl refl

-- its fields after a cycle, by its state
loaded_by : (n first : ℕ) (b c d e valid err : Bool) (word : ℕ) (a : Access) (granted : Bool)
    → (n == 2) ≡ b → (n == 3) ≡ c → (n == 4) ≡ d → (n == 5) ≡ e
    → next_of (unit n first) a (gated_rsp (rsp valid err word)) granted
    ≡ next_of (unit n first) a (rsp valid err word) granted
unfolding next_of
loaded_by n first b c d e true err word a granted i j k l = refl
loaded_by n first true c d e false err word a granted i j k l = rw i refl
loaded_by n first false true d e false err word a granted i j k l = rw (i, j) refl
loaded_by n first false false true e false err word a granted i j k l = rw (i, j, k) refl
loaded_by n first false false false true false err word a granted i j k l = rw (i, j, k, l) refl
loaded_by n first false false false false false err word a granted i j k l = rw (i, j, k, l) refl

-- after it
pub loaded_is : (u : Lsu) (a : Access) (r : Rsp) (granted : Bool)
    → next_of u a (gated_rsp r) granted ≡ next_of u a r granted
loaded_is u a r granted =
    loaded_by u.ls_state u.ls_first (u.ls_state == 2) (u.ls_state == 3) (u.ls_state == 4) (u.ls_state == 5) r.valid
    r.err r.word a granted refl refl refl refl
