-- A cycle's next fields, and runs of cycles.
use Rattle.std.proofs.Common.{◌≡◌, ◌≢◌, ℕ, zero, suc, ◌+◌, ◌-◌, ◌/◌, ◌%◌, ◌^◌, ◌<◌, ◌≤◌, Bool, true, false, not, ◌&&◌}
use Rattle.std.proofs.Common.{◌||◌, ◌==◌, ◌⊎◌, inl, inr, nat_le, Option, Some, None, refl, sym, ap, ◌∙◌, subst, arith}
use Rattle.std.proofs.Common.{lit<, if◌then◌else◌}
use Rattle.std.proofs.lemmas.Bool.{cases_lt, lt-ltb, le-ltb}
use Rattle.std.specs.Bool.{Decides}
use Rattle.ibx_isa.specs.declared.bus.Rsp.{Rsp}
use Rattle.ibx_secded.specs.Code.{payload_of}
use Rattle.ibx_prefetch.specs.declared.buffer.WordAns.{WordAns}
use Rattle.ibx_icache.specs.declared.doing.Doing.{Doing}
use Rattle.ibx_icache.specs.declared.doing.Doing.TheVariants.{Rests, Looks, AsksFirst, AwaitsFirst, AsksSecond}
use Rattle.ibx_icache.specs.declared.doing.Doing.TheVariants.{AwaitsSecond, Answers, AsksBare, AwaitsBare}
use Rattle.ibx_icache.specs.declared.lookup.Look.{Look}
use Rattle.ibx_icache.specs.declared.port.WordPort.{WordPort}
use Rattle.ibx_icache.specs.Doing.{answers_by, doing_of, granted_by, is_rest, state_of, stores_by}
use Rattle.ibx_prefetch.specs.Buffer.{entry_of}
use Rattle.ibx_icache.specs.WordPort.{IsFields, WordIn, after_answer, after_request, answer_of, begun_by, entry_by}
use Rattle.ibx_icache.specs.WordPort.{gone_by, is_cached, is_hit, is_wrong, rsp_entry, stores_of, victim_of, walked}
use Rattle.ibx_icache.specs.WordPort.{word_port_next}
use Rattle.ibx_icache.specs.Rules.{Emptying, KeepsFences, IsMiss, IsOutstanding, IsStored, IsVictim, Run, WalksOn}
use Rattle.ibx_icache.specs.Rules.{fields_at}
use Rattle.ibx_icache.proofs.Lookups.{hit as hit_told, victim}
use Rattle.ibx_icache.proofs.Written.{stored_told}
use Rattle.ibx_icache.proofs.States.{doing-state, granted_look, granted_rest, looks_at, state_low}

-- ---- widths

-- a word with its error in bit 32 has 33 bits
entry_low : (err : Bool) (word : ℕ) → word < 2 ^ 32 → entry_of err word < 2 ^ 33
entry_low true word low = omega (arith, low)
entry_low false word low = omega (arith, low)

-- what the bus answers is kept in 33 bits, also where its word is wrong
came_low : (rsp : Rsp) → rsp_entry rsp < 2 ^ 33
came_low rsp = entry_low (is_wrong rsp) (payload_of 32 rsp.word) (omega arith)

-- the words that are kept have 33 bits, and they do after an answer, a request and a step of the walk
record Low (w : WordPort) : Type 0 where
  word0 : w.c_word0 < 2 ^ 33
  word1 : w.c_word1 < 2 ^ 33

-- whatever comes, a word that is kept is the old one or the one that came
gone_low : (g : Doing) (came hit stores way : Bool) (entry : ℕ) (w : WordPort) → entry < 2 ^ 33 → Low w
    → Low (gone_by g came hit stores way entry w)
unfolding gone_by
gone_low Rests came hit stores way entry w e k = record { word0 = k.word0; word1 = k.word1 }
gone_low Looks came true stores way entry w e k = record { word0 = k.word0; word1 = k.word1 }
gone_low Looks came false stores way entry w e k = record { word0 = k.word0; word1 = k.word1 }
gone_low AsksFirst came hit stores way entry w e k = k
gone_low AwaitsFirst true hit stores way entry w e k = record { word0 = e; word1 = k.word1 }
gone_low AwaitsFirst false hit stores way entry w e k = k
gone_low AsksSecond came hit stores way entry w e k = k
gone_low AwaitsSecond true hit stores way entry w e k = record { word0 = k.word0; word1 = e }
gone_low AwaitsSecond false hit stores way entry w e k = k
gone_low Answers came hit stores way entry w e k = record { word0 = k.word0; word1 = k.word1 }
gone_low AsksBare came hit stores way entry w e k = k
gone_low AwaitsBare true hit stores way entry w e k = record { word0 = k.word0; word1 = k.word1 }
gone_low AwaitsBare false hit stores way entry w e k = k

-- a request that is taken up leaves the words of the line before it
begun_low : (rests cached : Bool) (request : Option ℕ) (w : WordPort) → Low w → Low (begun_by rests cached request w)
unfolding begun_by
begun_low true cached None w k = k
begun_low false cached None w k = k
begun_low false cached (Some addr) w k = k
begun_low true true (Some addr) w k = record { word0 = k.word0; word1 = k.word1 }
begun_low true false (Some addr) w k = record { word0 = k.word0; word1 = k.word1 }

-- the walk stops at 256, which has nine bits
walk_low : (fence : Bool) (walk : ℕ) → walk < 2 ^ 9 → walked fence walk < 2 ^ 9
walk_low true walk low = lit< tt
walk_low false walk low = by (cases_lt walk 256)
  where
    by : (walk < 256) ⊎ (256 ≤ walk) → walked false walk < 2 ^ 9
    by (inl lt) = rw (lt-ltb walk 256 lt) (omega arith)
    by (inr le) = rw (le-ltb walk 256 le) low

-- the fields stay within their widths
pub next_fields : (w : WordPort) (i : WordIn) (granted : Bool) → IsFields w → IsFields (word_port_next w i granted)
unfolding word_port_next
next_fields w i granted k =
    let gone : Low (after_answer w i) =
    after (gone_low (doing_of w.c_state) i.rsp.valid (is_hit i.look w.c_addr) (stores_of w i)
    (victim_of i.look w.c_addr w.c_alt) (rsp_entry i.rsp) w (came_low i.rsp)
    (record { word0 = k.word0; word1 = k.word1 })) in
    let begun : Low (after_request w i) =
    begun_low (is_rest (doing_of (after_answer w i).c_state)) (is_cached w i) i.request (after_answer w i) gone in
    let low : state_of (granted_by granted (doing_of (after_request w i).c_state)) < 9 = state_low _ in
    record {
      state = omega (arith, low);
      word0 = begun.word0;
      word1 = begun.word1;
      walk = walk_low i.fence w.c_walk k.walk;
    }
  where
    after : Low (gone_by (doing_of w.c_state) i.rsp.valid (is_hit i.look w.c_addr) (stores_of w i)
        (victim_of i.look w.c_addr w.c_alt) (rsp_entry i.rsp) w) → Low (after_answer w i)
    after k = record { word0 = k.word0; word1 = k.word1 }

-- ---- the walk

-- each cycle takes the walk one set further, so that from the first it empties set n in cycle n
pub walks_on : (w : WordPort) (i : WordIn) (granted : Bool)
    → WalksOn i.fence w.c_walk (word_port_next w i granted).c_walk
unfolding word_port_next
walks_on w i granted = record {
  restarts = λ e. ap (λ (b : Bool). walked b w.c_walk) e;
  goes = λ e low. ap (λ (b : Bool). walked b w.c_walk) e
      ∙ ap (λ (b : Bool). if b then w.c_walk + 1 else w.c_walk) (lt-ltb w.c_walk 256 low);
  rests = λ e high. ap (λ (b : Bool). walked b w.c_walk) e
      ∙ ap (λ (b : Bool). if b then w.c_walk + 1 else w.c_walk) (le-ltb w.c_walk 256 high);
}

-- from its beginning on the walk is at set n in cycle n, as long as no FENCE.I comes
pub emptying : (w : WordPort) → w.c_walk ≡ 0 → Emptying w
unfolding fields_at
emptying w z run zero le h = z
emptying w z run (suc n) le h =
    let past : (fields_at w run n).c_walk ≡ n =
    emptying w z run n (omega (arith, le)) (λ k lt. h k (omega (arith, lt))) in
    let small : (fields_at w run n).c_walk < 256 = omega (arith, le, past) in
    (walks_on (fields_at w run n) (run.comes n) (run.granted n)).goes (h n (omega arith)) small ∙ omega (arith, past)

-- ---- the way that a miss fills

-- a request leaves the way that a miss fills, and a miss sets it
begun_way : (rests cached : Bool) (request : Option ℕ) (w : WordPort)
    → (begun_by rests cached request w).c_way ≡ w.c_way
unfolding begun_by
begun_way true cached None w = refl
begun_way false cached None w = refl
begun_way false cached (Some addr) w = refl
begun_way true true (Some addr) w = refl
begun_way true false (Some addr) w = refl

-- a lookup that misses takes over the way that is handed to it
missed_way : (g : Doing) (came hit stores way : Bool) (entry : ℕ) (w : WordPort) → g ≡ Looks → hit ≡ false
    → (gone_by g came hit stores way entry w).c_way ≡ way
unfolding gone_by
missed_way Looks came false stores way entry w e f = refl
missed_way Looks came true stores way entry w e f = absurd cc
missed_way Rests came hit stores way entry w e f = absurd cc
missed_way AsksFirst came hit stores way entry w e f = absurd cc
missed_way AwaitsFirst came hit stores way entry w e f = absurd cc
missed_way AsksSecond came hit stores way entry w e f = absurd cc
missed_way AwaitsSecond came hit stores way entry w e f = absurd cc
missed_way Answers came hit stores way entry w e f = absurd cc
missed_way AsksBare came hit stores way entry w e f = absurd cc
missed_way AwaitsBare came hit stores way entry w e f = absurd cc

-- a test that decides a hit fails at a miss
no_hit : (l : Look) (addr : ℕ) → IsMiss l addr → (b : Bool) → is_hit l addr ≡ b → b ≡ false
no_hit l addr m true e = let h = (hit_told l addr).0 e in absurd (m h.0 h.1)
no_hit l addr m false e = refl

-- after a miss the way to fill is the victim
pub fills_victim : (w : WordPort) (i : WordIn) (granted : Bool) → w.c_state ≡ 1 → IsMiss i.look w.c_addr
    → IsVictim i.look w.c_addr w.c_alt (word_port_next w i granted).c_way
unfolding word_port_next
fills_victim w i granted e m =
    let way : (word_port_next w i granted).c_way ≡ victim_of i.look w.c_addr w.c_alt =
    begun_way (is_rest (doing_of (after_answer w i).c_state)) (is_cached w i) i.request (after_answer w i)
    ∙ missed_way (doing_of w.c_state) i.rsp.valid (is_hit i.look w.c_addr) (stores_of w i)
    (victim_of i.look w.c_addr w.c_alt) (rsp_entry i.rsp) w (looks_at w.c_state e)
    (no_hit i.look w.c_addr m (is_hit i.look w.c_addr) refl) in
    subst (λ (b : Bool). IsVictim i.look w.c_addr w.c_alt b) (sym way) (victim i.look w.c_addr w.c_alt)

-- ---- the way other than that of the last stored line

-- a request leaves it
begun_alt : (rests cached : Bool) (request : Option ℕ) (w : WordPort)
    → (begun_by rests cached request w).c_alt ≡ w.c_alt
unfolding begun_by
begun_alt true cached None w = refl
begun_alt false cached None w = refl
begun_alt false cached (Some addr) w = refl
begun_alt true true (Some addr) w = refl
begun_alt true false (Some addr) w = refl

-- the way other than the one that is stored, where a line is; else the one that was
abbrev other_by : Bool → WordPort → Bool
other_by stores w = if stores then not w.c_way else w.c_alt

-- an answer, and a whole cycle, take it over
gone_alt : (g : Doing) (came hit good ended way : Bool) (entry : ℕ) (w : WordPort)
    → (gone_by g came hit (stores_by g came good ended) way entry w).c_alt ≡ other_by (stores_by g came good ended) w
unfolding gone_by
gone_alt Rests came hit good ended way entry w = refl
gone_alt Looks came true good ended way entry w = refl
gone_alt Looks came false good ended way entry w = refl
gone_alt AsksFirst came hit good ended way entry w = refl
gone_alt AwaitsFirst true hit good ended way entry w = refl
gone_alt AwaitsFirst false hit good ended way entry w = refl
gone_alt AsksSecond came hit good ended way entry w = refl
gone_alt AwaitsSecond true hit good ended way entry w = refl
gone_alt AwaitsSecond false hit good ended way entry w = refl
gone_alt Answers came hit good ended way entry w = refl
gone_alt AsksBare came hit good ended way entry w = refl
gone_alt AwaitsBare true hit good ended way entry w = refl
gone_alt AwaitsBare false hit good ended way entry w = refl

-- the grant and the walk leave it too, so that storing a line alone changes it
next_alt : (w : WordPort) (i : WordIn) (granted : Bool)
    → (word_port_next w i granted).c_alt ≡ other_by (stores_of w i) w
unfolding word_port_next
next_alt w i granted =
    begun_alt (is_rest (doing_of (after_answer w i).c_state)) (is_cached w i) i.request (after_answer w i)
    ∙ gone_alt (doing_of w.c_state) i.rsp.valid (is_hit i.look w.c_addr)
    (not (is_wrong i.rsp) && w.c_word0 / 2 ^ 32 == 0 && not (w.c_nostore || i.fence)) (nat_le 256 w.c_walk)
    (victim_of i.look w.c_addr w.c_alt) (rsp_entry i.rsp) w

-- so it turns with each line that is stored, and at no other time
pub turns_other : (w : WordPort) (i : WordIn) (granted : Bool) → IsStored w i
    → (word_port_next w i granted).c_alt ≡ not w.c_way
turns_other w i granted s = next_alt w i granted ∙ ap (λ (b : Bool). other_by b w) ((stored_told w i).1 s)

-- a test that decides a fact fails where the fact is refuted
unstored : (b : Bool) (P : Type 0) → Decides b P → ¬ P → b ≡ false
unstored true P d n = absurd (n (d.0 refl))
unstored false P d n = refl

-- a cycle that stores no line leaves the next turn to the same way
pub keeps_other : (w : WordPort) (i : WordIn) (granted : Bool) → ¬ IsStored w i
    → (word_port_next w i granted).c_alt ≡ w.c_alt
keeps_other w i granted n = next_alt w i granted
    ∙ ap (λ (b : Bool). other_by b w) (unstored (stores_of w i) (IsStored w i) (stored_told w i) n)

-- ---- FENCE.I

-- a request is looked up in the next cycle only where it was cached, and so only without a FENCE.I in this one
gone_looks : (g : Doing) (came hit stores way : Bool) (entry : ℕ) (w : WordPort) → doing_of w.c_state ≡ g
    → doing_of (gone_by g came hit stores way entry w).c_state ≢ Looks
unfolding gone_by doing_of
gone_looks Rests came hit stores way entry w e f = absurd cc
gone_looks Looks came true stores way entry w e f = absurd cc
gone_looks Looks came false stores way entry w e f = absurd cc
gone_looks AsksFirst came hit stores way entry w e f = absurd (let no_ : AsksFirst ≡ Looks = sym e ∙ f in cc)
gone_looks AwaitsFirst true hit stores way entry w e f = absurd cc
gone_looks AwaitsFirst false hit stores way entry w e f = absurd (let no_ : AwaitsFirst ≡ Looks = sym e ∙ f in cc)
gone_looks AsksSecond came hit stores way entry w e f = absurd (let no_ : AsksSecond ≡ Looks = sym e ∙ f in cc)
gone_looks AwaitsSecond true hit stores way entry w e f = absurd cc
gone_looks AwaitsSecond false hit stores way entry w e f = absurd (let no_ : AwaitsSecond ≡ Looks = sym e ∙ f in cc)
gone_looks Answers came hit stores way entry w e f = absurd cc
gone_looks AsksBare came hit stores way entry w e f = absurd (let no_ : AsksBare ≡ Looks = sym e ∙ f in cc)
gone_looks AwaitsBare true hit stores way entry w e f = absurd cc
gone_looks AwaitsBare false hit stores way entry w e f = absurd (let no_ : AwaitsBare ≡ Looks = sym e ∙ f in cc)

-- a request that was begun: its look-up has just started, with no FENCE.I noted
record Begins (cached : Bool) (w : WordPort) : Type 0 where
  is : cached ≡ true
  free : w.c_nostore ≡ false

-- only a cached request that is taken up is looked up next
begun_looks : (rests cached : Bool) (request : Option ℕ) (w : WordPort) → doing_of w.c_state ≢ Looks
    → doing_of (begun_by rests cached request w).c_state ≡ Looks → Begins cached (begun_by rests cached request w)
unfolding begun_by doing_of
begun_looks true cached None w n e = absurd (n e)
begun_looks false cached None w n e = absurd (n e)
begun_looks false cached (Some addr) w n e = absurd (n e)
begun_looks true true (Some addr) w n e = record { is = refl; free = refl }
begun_looks true false (Some addr) w n e = absurd cc

-- a request that is cached comes without a FENCE.I
unfenced : (enable ended fence : Bool) → (enable && ended && not fence) ≡ true → fence ≡ false
unfenced enable ended false e = refl
unfenced true true true e = absurd cc
unfenced true false true e = absurd cc
unfenced false true true e = absurd cc
unfenced false false true e = absurd cc

-- a look-up's first cycle: none was noted, nor came with it
record Starts (fence : Bool) (w : WordPort) : Type 0 where
  unfenced : fence ≡ false
  free : w.c_nostore ≡ false

-- each look-up starts so
starts : (w : WordPort) (i : WordIn) (granted : Bool) → (word_port_next w i granted).c_state ≡ 1
    → Starts i.fence (word_port_next w i granted)
unfolding word_port_next
starts w i granted e =
    let b : Begins (is_cached w i) (after_request w i) =
    begun_looks (is_rest (doing_of (after_answer w i).c_state)) (is_cached w i) i.request (after_answer w i)
    (gone_looks (doing_of w.c_state) i.rsp.valid (is_hit i.look w.c_addr) (stores_of w i)
    (victim_of i.look w.c_addr w.c_alt) (rsp_entry i.rsp) w refl)
    (granted_look granted (doing_of (after_request w i).c_state) e) in
    record { unfenced = unfenced i.enable (nat_le 256 w.c_walk) i.fence b.is; free = b.free }

-- while a request is outstanding, a FENCE.I is kept
record Goes (fence : Bool) (v w : WordPort) : Type 0 where
  busy : is_rest (doing_of v.c_state) ≡ false
  kept : v.c_nostore ≡ (w.c_nostore || fence)

-- what comes leaves a request that it doesn't answer outstanding, with the same note
gone_goes : (g : Doing) (came hit stores way : Bool) (entry : ℕ) (w : WordPort) → doing_of w.c_state ≡ g
    → is_rest g ≡ false → answers_by g came hit ≡ false
    → (is_rest (doing_of (gone_by g came hit stores way entry w).c_state) ≡ false)
    × ((gone_by g came hit stores way entry w).c_nostore ≡ w.c_nostore)
unfolding gone_by doing_of answers_by
gone_goes Rests came hit stores way entry w e r a = absurd cc
gone_goes Looks came true stores way entry w e r a = absurd cc
gone_goes Looks came false stores way entry w e r a = (refl, refl)
gone_goes AsksFirst came hit stores way entry w e r a = (ap is_rest e, refl)
gone_goes AwaitsFirst true hit stores way entry w e r a = (refl, refl)
gone_goes AwaitsFirst false hit stores way entry w e r a = (ap is_rest e, refl)
gone_goes AsksSecond came hit stores way entry w e r a = (ap is_rest e, refl)
gone_goes AwaitsSecond true hit stores way entry w e r a = (refl, refl)
gone_goes AwaitsSecond false hit stores way entry w e r a = (ap is_rest e, refl)
gone_goes Answers came hit stores way entry w e r a = absurd cc
gone_goes AsksBare came hit stores way entry w e r a = (ap is_rest e, refl)
gone_goes AwaitsBare true hit stores way entry w e r a = absurd cc
gone_goes AwaitsBare false hit stores way entry w e r a = (ap is_rest e, refl)

-- no other is taken up
begun_busy : (rests cached : Bool) (request : Option ℕ) (w : WordPort) → rests ≡ false
    → begun_by rests cached request w ≡ w
unfolding begun_by
begun_busy true cached request w e = absurd cc
begun_busy false cached None w e = refl
begun_busy false cached (Some addr) w e = refl

-- an answer by whether there is one, its error and its word
abbrev given_if : Bool → Bool → ℕ → WordAns
given_if answers err word = if answers then record { valid = true; err = err; word = word }
    else record { valid = false; err = false; word = 0 }

-- a cycle without an answer
given_by : (b err : Bool) (word : ℕ) → (given_if b err word).valid ≡ false → b ≡ false
given_by true err word e = absurd cc
given_by false err word e = refl

-- where the answer isn't valid, neither the bus nor the lookup had one to give
silent_by : (w : WordPort) (rsp : Rsp) (l : Look) → (answer_of w rsp l).valid ≡ false
    → answers_by (doing_of w.c_state) rsp.valid (is_hit l w.c_addr) ≡ false
unfolding answer_of
silent_by w rsp l e =
    given_by (answers_by (doing_of w.c_state) rsp.valid (is_hit l w.c_addr))
    (not (entry_by (doing_of w.c_state) w rsp l / 2 ^ 32 == 0)) (entry_by (doing_of w.c_state) w rsp l % 2 ^ 32) e

-- a FENCE.I is noted beside those noted before
marked_kept : (rests old was fence : Bool) → rests ≡ false → old ≡ was → (not rests && (old || fence)) ≡ (was || fence)
marked_kept true old was fence e f = absurd cc
marked_kept false old was fence e f = ap (λ (b : Bool). b || fence) f

-- a cycle without an answer leaves the request outstanding, and notes a FENCE.I
goes : (w : WordPort) (i : WordIn) (granted : Bool) → is_rest (doing_of w.c_state) ≡ false
    → (answer_of w i.rsp i.look).valid ≡ false → Goes i.fence (word_port_next w i granted) w
unfolding word_port_next
goes w i granted r a =
    let gone : WordPort = gone_by (doing_of w.c_state) i.rsp.valid (is_hit i.look w.c_addr) (stores_of w i)
    (victim_of i.look w.c_addr w.c_alt) (rsp_entry i.rsp) w in
    let both : (is_rest (doing_of gone.c_state) ≡ false) × (gone.c_nostore ≡ w.c_nostore) =
    gone_goes (doing_of w.c_state) i.rsp.valid (is_hit i.look w.c_addr) (stores_of w i)
    (victim_of i.look w.c_addr w.c_alt) (rsp_entry i.rsp) w refl r (silent_by w i.rsp i.look a) in
    let same : after_request w i ≡ after_answer w i =
    begun_busy (is_rest (doing_of gone.c_state)) (is_cached w i) i.request (after_answer w i) both.0 in
    record {
      busy = ap is_rest (doing-state (granted_by granted (doing_of (after_request w i).c_state)))
          ∙ granted_rest granted (doing_of (after_request w i).c_state)
          ∙ ap (λ (v : WordPort). is_rest (doing_of v.c_state)) same ∙ both.0;
      kept = ap (λ (v : WordPort). v.c_nostore) same
          ∙ marked_kept (is_rest (doing_of gone.c_state)) gone.c_nostore w.c_nostore i.fence both.0 both.1;
    }

-- neither of two holds
either_false : (a b : Bool) → (a || b) ≡ false → (a ≡ false) × (b ≡ false)
either_false true b e = absurd cc
either_false false b e = (refl, e)

module _ (w : WordPort) (run : Run) (t c : ℕ) where
  -- no FENCE.I comes in a cycle
  abbrev Unfenced : ℕ → Type 0
  Unfenced k = (run.comes k).fence ≡ false

  -- the request is outstanding in cycle m, and where no FENCE.I is noted none came since cycle t
  record Held (m : ℕ) : Type 0 where
    -- the request was taken up, and has no answer yet
    busy : is_rest (doing_of (fields_at w run m).c_state) ≡ false
    -- a note that is still clear vouches for each cycle from t on
    kept : (fields_at w run m).c_nostore ≡ false → (k : ℕ) → t ≤ k → k < m → Unfenced k

  -- a request is outstanding with the FENCE.I since noted: in its first cycle, in each further one, and so at its end
  opens : IsOutstanding w run t c → Held (suc t)
  unfolding fields_at
  opens o = record {
    busy = ap is_rest (looks_at (fields_at w run (suc t)).c_state o.cached);
    kept = λ _ k from to. let same : t ≡ k = omega arith in
        subst Unfenced same (starts (fields_at w run t) (run.comes t) (run.granted t) o.cached).unfenced;
  }

  -- a further cycle without the answer keeps it so, since a FENCE.I in it would be noted
  goes_on : (m : ℕ) → IsOutstanding w run t c → t < m → m < c → Held m → Held (suc m)
  unfolding fields_at
  goes_on m o from to h =
      let g : Goes (run.comes m).fence (fields_at w run (suc m)) (fields_at w run m) =
      goes (fields_at w run m) (run.comes m) (run.granted m) h.busy (o.silent m from to) in
      record {
        busy = g.busy;
        kept = λ e. all
            (either_false (fields_at w run m).c_nostore (run.comes m).fence (sym g.kept ∙ e));
      }
    where
      all : ((fields_at w run m).c_nostore ≡ false) × Unfenced m → (k : ℕ) → t ≤ k → k < suc m → Unfenced k
      all (e, here) k lo hi = by (cases_lt k m)
        where
          by : (k < m) ⊎ (m ≤ k) → Unfenced k
          by (inl lt) = h.kept e k lo lt
          by (inr le) = let same : m ≡ k = omega arith in subst Unfenced same here

  -- so it is in each cycle from the one after the request up to the one of the answer
  holds : (d m : ℕ) → IsOutstanding w run t c → m ≡ suc t + d → m ≤ c → Held m
  holds zero m o e le = let same : suc t ≡ m = omega arith in subst Held same (opens o)
  holds (suc d) zero o e le = absurd (omega (arith, e))
  holds (suc d) (suc m) o e le =
      goes_on m o (omega (arith, e)) (omega (arith, le)) (holds d m o (omega (arith, e)) (omega (arith, le)))

-- a request that was taken up with no FENCE.I noted tells at its end whether one came
pub keeps_fences : (w : WordPort) → KeepsFences w
keeps_fences w run t c o s k lo hi = by (cases_lt k c)
  where
    held : Held w run t c c
    held = let later : t < c = o.later in holds w run t c (c - suc t) c o (omega arith) (omega arith)

    by : (k < c) ⊎ (c ≤ k) → (run.comes k).fence ≡ false
    by (inl lt) = held.kept s.before k lo lt
    by (inr le) = let same : c ≡ k = omega arith in subst (λ (n : ℕ). (run.comes n).fence ≡ false) same s.unfenced
