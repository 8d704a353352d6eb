-- The word port's answer: the word of the outstanding request comes, or the request goes on.
use Rattle.std.proofs.Common.{◌≡◌, ◌≢◌, ℕ, suc, ◌+◌, ◌*◌, ◌/◌, ◌%◌, ◌^◌, ◌<◌, Bool, true, false, not, ◌&&◌, ◌||◌, ◌==◌}
use Rattle.std.proofs.Common.{List, ◌∷◌, refl, sym, ap, ap₂, ◌∙◌, inl, inr, arith, subst, nat_lt, nat_le}
use Rattle.std.proofs.Common.{if◌then◌else◌}
use Rattle.std.proofs.lemmas.Bool.{cases_eq, eq-eqb, ne_eqb, eqb-true, eqb-false, le-leb, le-ltb}
use Rattle.ibx_isa.specs.declared.bus.Rsp.{Rsp}
use Rattle.ibx_plan.specs.declared.site.Wait.{Wait}
use Rattle.ibx_secded.specs.Code.{encode_of, payload_of, syndrome_of}
use Rattle.ibx_secded.proofs.Laws.{payload_of-encode, syndrome_of-encode}
use Rattle.ibx_bus.specs.Port.{PortState, answer_wires, answers}
use Rattle.ibx_bus.specs.PortTimes.{answer_time, grant_time}
use Rattle.ibx_isa.specs.Wires.{fetch_wires}
use Rattle.ibx_bus.proofs.Ports.{Free, Granted, Idle, granted_answers, granted_free, granted_silent, idle_free}
use Rattle.ibx_bus.proofs.Ports.{idle_silent, waiting_silent}
use Rattle.ibx_time.specs.Memories.{Write}
use Rattle.ibx_time.specs.Requests.{Fill, Past, Switch, after_request, fill_grant, fill_of, first_answer, first_grant}
use Rattle.ibx_time.specs.Requests.{found_slot, half_grant, is_cached, is_kept, is_present, last_fill, line_of, made}
use Rattle.ibx_time.specs.Requests.{none_between, request_by, second_answer, second_grant, slot_of, stands, stored_if}
use Rattle.ibx_time.specs.Requests.{transaction, victim, victim_by}
use Rattle.ibx_time.specs.Settings.{Settings, Setup, settings_of}
use Rattle.ibx_prefetch.specs.declared.buffer.WordAns.{WordAns}
use Rattle.ibx_prefetch.specs.Buffer.{entry_of}
use Rattle.ibx_time_machine.specs.Words.{put_lines, put_tags}
use Rattle.ibx_icache.specs.declared.doing.Doing.TheVariants.{Answers, AsksBare, AsksFirst, AsksSecond, AwaitsBare}
use Rattle.ibx_icache.specs.declared.doing.Doing.TheVariants.{AwaitsFirst, AwaitsSecond, Looks, Rests}
use Rattle.ibx_icache.specs.WordPort.{entry_by, found_word, gone_by, half_of, is_hit, is_wrong, looked, marked}
use Rattle.ibx_icache.specs.WordPort.{rsp_entry, slot_of as place_of, victim_of}
use Rattle.ibx_icache.specs.Doing.{answers_by, doing_of, is_rest, stores_by}
use Rattle.ibx_icache.specs.declared.port.WordPort.{WordPort}
use Rattle.ibx_icache.specs.declared.lookup.Look.{Look}
use Rattle.ibx_icache.specs.declared.writes.Filling.{Filling}
use Rattle.ibx_icache.specs.declared.doing.Doing.{Doing}
use Rattle.ibx_time_invariant.proofs.Caches.{CacheAt}
use Rattle.ibx_time_machine.specs.Words.{look_at}
use Rattle.ibx_time_invariant.proofs.Fetches.{entry_in, is_unmapped, word_in}
use Rattle.ibx_time_invariant.proofs.Links.{Cached, Wired, Work, bare_asks, bare_waits, due, entry0, filled, first_asks}
use Rattle.ibx_time_invariant.proofs.Links.{first_waits, held, last, line_base, looks, second_asks, second_waits}
use Rattle.ibx_time_invariant.proofs.Quiets.{word_low}
use Rattle.ibx_time_invariant.proofs.Ties.{IsPlaced}
use Rattle.ibx_time_fetch.proofs.AnswersCache.{Seen, seen}
use Rattle.ibx_time_fetch.proofs.AnswersStores.{filling_if, kept, stores}
use Rattle.ibx_time_fetch.proofs.ShowsHalves.{err_is}
use Rattle.ibx_arch.specs.Memory.{is_mapped}

-- ---- a word with its error

-- a word and its error are read back from the two of them
entry_low : (u : Bool) (v : ℕ) → v < 2 ^ 32 → entry_of u v % 2 ^ 32 ≡ v
entry_low true v low = omega (arith, low)
entry_low false v low = omega (arith, low)

-- an entry that is taken apart as error and word comes back from these
entry_back : (e v : ℕ) (u : Bool) → v < 2 ^ 32 → e ≡ entry_of u v
    → entry_of (not (e / 2 ^ 32 == 0)) (e % 2 ^ 32) ≡ entry_of u v
entry_back e v u low at =
    ap (λ n. entry_of (not (n / 2 ^ 32 == 0)) (n % 2 ^ 32)) at ∙ ap₂ entry_of (err_is u v low) (entry_low u v low)

-- a test and its opposite
not_twice : (b u : Bool) → not b ≡ u → b ≡ not u
not_twice true true e = let no_ : false ≡ true = e in cc
not_twice true false e = refl
not_twice false true e = refl
not_twice false false e = let no_ : true ≡ false = e in cc

-- ---- the port's answer

-- an answer, or none
abbrev rsp_if : Bool → Bool → ℕ → Rsp
rsp_if b err word =
    if b then record { valid = true; err = err; word = word } else record { valid = false; err = false; word = 0 }

-- the port's answer is this one, by whether it answers
wires_if : (p : PortState) → answer_wires p ≡ rsp_if (answers p) p.err p.word
unfolding answer_wires
wires_if p = refl

-- the port's answer is this one, where it is known whether it answers
wires_by : (p : PortState) (b : Bool) → answers p ≡ b → answer_wires p ≡ rsp_if b p.err p.word
wires_by p b e = wires_if p ∙ ap (λ v. rsp_if v p.err p.word) e

-- a port that doesn't answer shows no valid answer
silent : (p : PortState) → answers p ≡ false → (answer_wires p).valid ≡ false
silent p e = ap (λ (r : Rsp). r.valid) (wires_by p false e)

-- an answer that comes: its error and its word
record Came (err : Bool) (v : ℕ) (r : Rsp) : Type 0 where
  valid : r.valid ≡ true
  wrong : is_wrong r ≡ err
  word : payload_of 32 r.word ≡ v

-- a condition with one that is known
or_none : (b : Bool) → (b || false) ≡ b
or_none true = refl
or_none false = refl

-- a codeword comes as its word
came_by : (err : Bool) (v word : ℕ) (e : Bool) → v < 2 ^ 32 → e ≡ err → word ≡ encode_of 32 7 v
    → Came err v (record { valid = true; err = e; word = word })
came_by err v word e low same at = record {
  valid = refl;
  wrong = ap₂ (λ a n. a || not (n == 0)) same (ap (syndrome_of 32 7) at ∙ syndrome_of-encode 32 7 v low) ∙ or_none err;
  word = ap (payload_of 32) at ∙ payload_of-encode 32 7 v low;
}

-- so a transaction that ends in this cycle brings its word
granted_came : (ws : List Wait) (m x : ℕ) (err : Bool) (v c : ℕ) (p : PortState) → v < 2 ^ 32
    → Granted ws m x err (encode_of 32 7 v) c p → p.left ≡ 0 → Came err v (answer_wires p)
granted_came ws m x err v c p low g now =
    subst (λ r. Came err v r) (sym (wires_by p true (granted_answers ws m x err (encode_of 32 7 v) c p g now)))
    (came_by err v p.word p.err low g.err_is g.word_is)

-- and its error with it
came_entry : (err : Bool) (v : ℕ) (r : Rsp) → Came err v r → rsp_entry r ≡ entry_of err v
came_entry err v r k = ap₂ entry_of k.wrong k.word

-- ---- what the requests leave

-- what an uncached request leaves, a hit and a miss
bare_past : (k : Settings) (ss : List Switch) (fs : List ℕ) (y : Past) (t a : ℕ) → is_cached ss fs t ≡ false
    → after_request k ss fs y t a ≡ record {
      answer = answer_time k.plan.iwaits (made y) t;
      sent = transaction k.plan.iwaits (made y) t (fetch_wires a) ∷ y.sent;
      fills = y.fills;
      grant = grant_time k.plan.iwaits (made y) t;
    }
unfolding request_by
bare_past k ss fs y t a e = rw e refl

-- a hit answers in the next cycle, and leaves the transactions and the fills as they were
hit_past : (k : Settings) (ss : List Switch) (fs : List ℕ) (y : Past) (t a : ℕ) → is_cached ss fs t ≡ true
    → is_present fs y.fills (line_of a) t ≡ true
    → after_request k ss fs y t a ≡ record {
      answer = t + 1;
      sent = y.sent;
      fills = y.fills;
      grant = fill_grant (last_fill y.fills (found_slot fs y.fills (line_of a) t)) a;
    }
unfolding request_by
hit_past k ss fs y t a e h = rw (e, h) refl

-- a miss leaves two transactions more, and its line where it is kept, and answers after both
miss_past : (k : Settings) (ss : List Switch) (fs : List ℕ) (y : Past) (t a : ℕ) → is_cached ss fs t ≡ true
    → is_present fs y.fills (line_of a) t ≡ false → after_request k ss fs y t a ≡ record {
      answer = second_answer k y t + 1;
      sent = transaction k.plan.iwaits (suc (made y)) (first_answer k y t) (fetch_wires (8 * line_of a + 4))
          ∷ transaction k.plan.iwaits (made y) (t + 1) (fetch_wires (8 * line_of a)) ∷ y.sent;
      fills = filled k fs y t a;
      grant = half_grant a (first_grant k y t) (second_grant k y t);
    }
unfolding request_by
miss_past k ss fs y t a e h = rw (e, h) refl

-- ---- the answer

-- the word of the request comes in this cycle, and the port is free; or it goes on
pub data Answered (s : Setup) (log : List Write) (ss : List Switch) (fs : List ℕ) (y : Past) (t a c : ℕ) (w : WordPort)
    (p : PortState) (tags lines : List ℕ) (ans : WordAns) : Type 0 where
  comes : ans.valid ≡ true → entry_of ans.err ans.word
      ≡ entry_in s log (after_request (settings_of s) ss fs y t a).grant a
      → (after_request (settings_of s) ss fs y t a).answer ≡ c
      → doing_of w.c_state ≡ Rests → Free s.plan.iwaits (made (after_request (settings_of s) ss fs y t a)) p
      → Cached s log fs (after_request (settings_of s) ss fs y t a).fills c (c + 1) w tags lines
      → Answered s log ss fs y t a c w p tags lines ans
  goes : ans.valid ≡ false → w.c_addr ≡ a → Wired s log ss fs y t a c w p tags lines
      → Answered s log ss fs y t a c w p tags lines ans

-- by what the request leaves
leaving : (s : Setup) (log : List Write) (ss : List Switch) (fs : List ℕ) (y : Past) (t a c : ℕ) (w : WordPort)
    (p : PortState) (tags lines : List ℕ) (ans : WordAns) (z : Past) → after_request (settings_of s) ss fs y t a ≡ z
    → ans.valid ≡ true → entry_of ans.err ans.word ≡ entry_in s log z.grant a → z.answer ≡ c
    → doing_of w.c_state ≡ Rests → Free s.plan.iwaits (made z) p → Cached s log fs z.fills c (c + 1) w tags lines
    → Answered s log ss fs y t a c w p tags lines ans
leaving s log ss fs y t a c w p tags lines ans z e v is at g f h =
    comes v (subst (λ (x : Past). entry_of ans.err ans.word ≡ entry_in s log x.grant a) (sym e) is)
    (ap (λ (x : Past). x.answer) e ∙ at) g
    (subst (λ (x : Past). Free s.plan.iwaits (made x) p) (sym e) f)
    (subst (λ (x : Past). Cached s log fs x.fills c (c + 1) w tags lines) (sym e) h)

-- only the first test leads to a lookup, at the request's address
looks_by : (a b c d e f g h : Bool)
    → (if a then Looks else if b then AsksFirst else if c then AwaitsFirst else if d then AsksSecond else if e
    then AwaitsSecond else if f then Answers else if g then AsksBare else if h then AwaitsBare else Rests) ≡ Looks
    → a ≡ true
looks_by true b c d e f g h k = refl
looks_by false true c d e f g h k = absurd cc
looks_by false false true d e f g h k = absurd cc
looks_by false false false true e f g h k = absurd cc
looks_by false false false false true f g h k = absurd cc
looks_by false false false false false true g h k = absurd cc
looks_by false false false false false false true h k = absurd cc
looks_by false false false false false false false true k = absurd cc
looks_by false false false false false false false false k = absurd cc

-- a port that looks up reads the cache at the address of its request
looked_is : (w : WordPort) → doing_of w.c_state ≡ Looks → looked w ≡ w.c_addr
unfolding doing_of
looked_is w e = ap (λ b. if b then w.c_addr else 0)
    (looks_by (w.c_state == 1) (w.c_state == 2) (w.c_state == 3) (w.c_state == 4) (w.c_state == 5) (w.c_state == 6)
    (w.c_state == 7) (w.c_state == 8) e)

-- the word of a line at an address is that of its half
half_is : (s : Setup) (log : List Write) (a e0 e1 g0 g1 : ℕ) → a % 4 ≡ 0 → e0 ≡ entry_in s log g0 (line_base a)
    → e1 ≡ entry_in s log g1 (line_base a + 4) → half_of a e0 e1 ≡ entry_in s log (half_grant a g0 g1) a
half_is s log a e0 e1 g0 g1 at k0 k1 = by (a / 4 % 2 == 0) refl
  where
    by : (b : Bool) → (a / 4 % 2 == 0) ≡ b → (if b then e0 else e1) ≡ entry_in s log (half_grant a g0 g1) a
    by true k =
        let even : a / 4 % 2 ≡ 0 = eqb-true (a / 4 % 2) 0 k in
        k0 ∙ ap (entry_in s log g0) (omega (arith, at, even))
        ∙ sym (ap (λ u. entry_in s log (if u then g1 else g0) a)
        (ne_eqb (a / 4 % 2) 1 (λ z. absurd (omega (arith, z, even)))))
    by false k =
        let odd : a / 4 % 2 ≢ 0 = eqb-false (a / 4 % 2) 0 k in
        k1 ∙ ap (entry_in s log g1) (omega (arith, at, odd))
        ∙ sym (ap (λ u. entry_in s log (if u then g1 else g0) a) (eq-eqb (a / 4 % 2) 1 (omega (arith, odd))))

-- whether the line is stored
kept_is : (m0 m1 b en : Bool) → (b ≡ true → en ≡ true)
    → ((not (not m1) && not (not m0) && not (not b)) && en) ≡ (b && (m0 && m1))
kept_is true true true en h = h refl
kept_is true false true en h = refl
kept_is false true true en h = refl
kept_is false false true en h = refl
kept_is true true false en h = refl
kept_is true false false en h = refl
kept_is false true false en h = refl
kept_is false false false en h = refl

-- three tests that hold together
all_three : (b m0 m1 : Bool) → (b && (m0 && m1)) ≡ true → (b ≡ true) × (m0 ≡ true) × (m1 ≡ true)
all_three true true true e = (refl, refl, refl)
all_three true true false e = let no_ : false ≡ true = e in cc
all_three true false m1 e = let no_ : false ≡ true = e in cc
all_three false m0 m1 e = let no_ : false ≡ true = e in cc

-- where the walk stands for a cached request
pub record Ended (ss : List Switch) (fs : List ℕ) (t c walk : ℕ) : Type 0 where
  pub looks : is_cached ss fs t ≡ true → t + 1 ≡ c → walk ≡ 256
  pub stores : is_cached ss fs t ≡ true → none_between fs t (c + 1) ≡ true → walk ≡ 256

module _ (s : Setup) (log : List Write) (ss : List Switch) (fs : List ℕ) (y : Past) (t a c : ℕ) (fence : Bool)
    (w : WordPort) (p : PortState) (tags lines : List ℕ)
    (ok : IsPlaced s) (at : w.c_addr ≡ a) (aligned : a % 4 ≡ 0) (low : a < 2 ^ 32) (ended : Ended ss fs t c w.c_walk)
  where
    abbrev rsp : Rsp
    rsp = answer_wires p

    -- what the cache reads, and whether the line of the request may be stored
    abbrev look : Look
    look = look_at tags lines (looked w)

    abbrev good : Bool
    good = not (is_wrong rsp) && w.c_word0 / 2 ^ 32 == 0 && not (w.c_nostore || fence)

    -- whether it is, and what is written then
    abbrev is_stored : Doing → Bool → Bool
    is_stored g came = stores_by g came good (nat_le 256 w.c_walk)

    abbrev filling : Bool → Filling
    filling u = filling_if (nat_lt w.c_walk 256) u w.c_walk (place_of w.c_addr w.c_way)
        (encode_of 22 6 (2 ^ 21 + w.c_addr / 2 ^ 11)) (encode_of 32 7 (w.c_word0 % 2 ^ 32))
        (encode_of 32 7 (payload_of 32 rsp.word))

    -- the port and its answer, by what it does, whether the bus answers, and whether it is a hit
    abbrev gone : Doing → Bool → Bool → WordPort
    gone g came hit =
        marked fence (gone_by g came hit (is_stored g came) (victim_of look w.c_addr w.c_alt) (rsp_entry rsp) w)

    abbrev ans : Doing → Bool → Bool → WordAns
    ans g came hit =
        if answers_by g came hit
        then record {
          valid = true;
          err = not (entry_by g w rsp look / 2 ^ 32 == 0);
          word = entry_by g w rsp look % 2 ^ 32;
        }
        else record { valid = false; err = false; word = 0 }

    -- the request with these is answered or goes on
    abbrev By : Doing → Bool → Bool → Type 0
    By g came hit = Answered s log ss fs y t a c (gone g came hit) p (put_tags (filling (is_stored g came)) tags)
        (put_lines (filling (is_stored g came)) lines) (ans g came hit)

    -- the answer by what the port does and whether the bus answers
    answered_by : (g : Doing) (came : Bool) → doing_of w.c_state ≡ g → rsp.valid ≡ came
        → By g came (is_hit look w.c_addr) → By (doing_of w.c_state) rsp.valid (is_hit look w.c_addr)
    answered_by g came e m r =
        subst (λ d. By d rsp.valid (is_hit look w.c_addr)) (sym e)
        (subst (λ v. By g v (is_hit look w.c_addr)) (sym m) r)

    -- what stays where nothing comes: the cache, and the mark of no FENCE.I
    keep : (fills : List Fill) → Cached s log fs fills c (c + 1) w tags lines
        → CacheAt s log fs fills c (c + 1) w.c_walk w.c_alt (put_tags (filling false) tags)
        (put_lines (filling false) lines)
    keep fills k =
        kept s log fs fills c (c + 1) w.c_walk w.c_alt tags lines (place_of w.c_addr w.c_way)
        (encode_of 22 6 (2 ^ 21 + w.c_addr / 2 ^ 11)) (encode_of 32 7 (w.c_word0 % 2 ^ 32))
        (encode_of 32 7 (payload_of 32 rsp.word))
        (nat_lt w.c_walk 256) k

    -- at work, a request's mark is the port's own, or that of a FENCE.I in this cycle
    unmarked : (g : Doing) (n : Bool) → doing_of w.c_state ≡ g → is_rest g ≡ false → (marked fence w).c_nostore ≡ n
        → (w.c_nostore || fence) ≡ n
    unmarked g n e r h = ap (λ b. not b && (w.c_nostore || fence)) (sym r)
        ∙ ap (λ d. not (is_rest d) && (w.c_nostore || fence)) (sym e) ∙ h

    -- ---- the lookup

    -- what is read of the cache is for the request's address
    look_is : doing_of w.c_state ≡ Looks → look ≡ look_at tags lines a
    look_is e = ap (λ n. look_at tags lines n) (looked_is w e ∙ at)

    -- a lookup answers at a hit, and else the miss begins
    looks_answer : is_cached ss fs t ≡ true → (w.c_nostore || fence) ≡ not (none_between fs t (c + 1))
        → look ≡ look_at tags lines a → t + 1 ≡ c → Idle s.plan.iwaits (made y) p
        → Cached s log fs y.fills c (c + 1) w tags lines
        → (hit : Bool) → is_hit look w.c_addr ≡ hit → By Looks false hit
    unfolding gone_by answers_by entry_by doing_of victim
    looks_answer b n e now i k true h =
        let v : Seen s log fs y.fills t a w.c_alt (look_at tags lines a) =
        seen s log fs y.fills t c (c + 1) w.c_walk w.c_alt tags lines a ok k now (ended.looks b now) aligned low in
        let there : is_present fs y.fills (line_of a) t ≡ true = sym v.hit ∙ sym (ap₂ is_hit e at) ∙ h in
        let g : ℕ = fill_grant (last_fill y.fills (found_slot fs y.fills (line_of a) t)) a in
        let word : found_word look w.c_addr ≡ entry_of false (word_in s log g a) =
        ap₂ found_word e at ∙ v.word there ∙ omega arith in
        leaving s log ss fs y t a c (gone Looks false true) p (put_tags (filling false) tags)
        (put_lines (filling false) lines) (ans Looks false true)
        (record { answer = t + 1; sent = y.sent; fills = y.fills; grant = g })
        (hit_past (settings_of s) ss fs y t a b there) refl
        (entry_back (found_word look w.c_addr) (word_in s log g a) false (word_low s ok log g a) word
        ∙ ap (λ u. entry_of u (word_in s log g a)) (sym (v.mapped there))) now refl
        (idle_free s.plan.iwaits (made y) p i) (keep y.fills k)
    looks_answer b n e now i k false h =
        let v : Seen s log fs y.fills t a w.c_alt (look_at tags lines a) =
        seen s log fs y.fills t c (c + 1) w.c_walk w.c_alt tags lines a ok k now (ended.looks b now) aligned low in
        goes refl at (first_asks b (record {
          absent = sym v.hit ∙ sym (ap₂ is_hit e at) ∙ h;
          way = ap₂ (λ l z. victim_of l z w.c_alt) e at ∙ v.way
              ∙ ap (λ z. victim_by (not (stands fs t (last_fill y.fills (slot_of (line_of a) false))))
              (not (stands fs t (last_fill y.fills (slot_of (line_of a) true)))) z) k.alt_is;
          nostore = n;
        }) refl (due now (idle_free s.plan.iwaits (made y) p i)) (keep y.fills k))

    -- ---- the second word comes, and the line is stored or not

    abbrev maps0 : Bool
    maps0 = is_mapped s.image.ram (8 * line_of a)

    abbrev maps1 : Bool
    maps1 = is_mapped s.image.ram (8 * line_of a + 4)

    -- a line is stored just where both words came without error and no FENCE.I since
    stored_is : w.c_word0 ≡ entry0 s log y t a → is_wrong rsp ≡ is_unmapped s (line_base a + 4)
        → (w.c_nostore || fence) ≡ not (none_between fs t (c + 1)) → second_answer (settings_of s) y t ≡ c
        → is_cached ss fs t ≡ true
        → is_stored AwaitsSecond true ≡ is_kept (settings_of s) fs y t a
    stored_is e0 wrong n now b =
        let g0 : ℕ = first_grant (settings_of s) y t in
        let v0 : ℕ = word_in s log g0 (line_base a) in
        let right : (w.c_word0 / 2 ^ 32 == 0) ≡ not (not maps0) =
        not_twice (w.c_word0 / 2 ^ 32 == 0) (not maps0)
        (ap (λ m. not (m / 2 ^ 32 == 0)) e0
        ∙ err_is (is_unmapped s (line_base a)) v0 (word_low s ok log g0 (line_base a))) in
        ap (λ u. (not u && w.c_word0 / 2 ^ 32 == 0 && not (w.c_nostore || fence)) && nat_le 256 w.c_walk) wrong
        ∙ ap₂ (λ u v. (not (not maps1) && u && not v) && nat_le 256 w.c_walk) right n
        ∙ kept_is maps0 maps1 (none_between fs t (c + 1)) (nat_le 256 w.c_walk)
        (λ h. le-leb 256 w.c_walk (omega (arith, ended.stores b h)))
        ∙ ap (λ d. none_between fs t (d + 1) && (maps0 && maps1)) (sym now)

    abbrev StoreBy : ℕ → Bool → ℕ → ℕ → ℕ → Bool → Type 0
    StoreBy z b d0 d1 time way =
        CacheAt s log fs (record {
          line = line_of a;
          way = way;
          time = time;
          grant0 = first_grant (settings_of s) y t;
          grant1 = second_grant (settings_of s) y t;
        } ∷ y.fills) c (c + 1) w.c_walk (not w.c_way)
        (put_tags (filling_if b true w.c_walk (place_of z w.c_way) (encode_of 22 6 (2 ^ 21 + z / 2 ^ 11))
        (encode_of 32 7 d0) (encode_of 32 7 d1)) tags)
        (put_lines (filling_if b true w.c_walk (place_of z w.c_way) (encode_of 22 6 (2 ^ 21 + z / 2 ^ 11))
        (encode_of 32 7 d0) (encode_of 32 7 d1)) lines)

    -- the opposite of a test that holds fails
    not_false : (b : Bool) → b ≡ true → not b ≡ false
    not_false b e = ap not e

    -- then the cache has it, and the second answer completes the request
    line_stored : w.c_way ≡ victim fs y.fills (line_of a) t → w.c_word0 ≡ entry0 s log y t a
        → payload_of 32 rsp.word ≡ word_in s log (second_grant (settings_of s) y t) (line_base a + 4)
        → second_answer (settings_of s) y t ≡ c → is_cached ss fs t ≡ true
        → Cached s log fs y.fills c (c + 1) w tags lines → is_kept (settings_of s) fs y t a ≡ true
        → StoreBy w.c_addr (nat_lt w.c_walk 256) (w.c_word0 % 2 ^ 32) (payload_of 32 rsp.word)
        (second_answer (settings_of s) y t) (victim fs y.fills (line_of a) t)
    unfolding answer_time grant_time
    line_stored way e0 word now b k yes_ =
        let all : (none_between fs t (second_answer (settings_of s) y t + 1) ≡ true) × (maps0 ≡ true)
        × (maps1 ≡ true) =
        all_three (none_between fs t (second_answer (settings_of s) y t + 1)) maps0 maps1 yes_ in
        let walk : w.c_walk ≡ 256 = ended.stores b (ap (λ d. none_between fs t (d + 1)) (sym now) ∙ all.0) in
        let g0 : ℕ = first_grant (settings_of s) y t in
        let g1 : ℕ = second_grant (settings_of s) y t in
        let d0 : ℕ = word_in s log g0 (line_base a) in
        let d1 : ℕ = word_in s log g1 (line_base a + 4) in
        let word0 : w.c_word0 % 2 ^ 32 ≡ d0 =
        ap (λ n. n % 2 ^ 32) e0 ∙ entry_low (is_unmapped s (line_base a)) d0 (word_low s ok log g0 (line_base a)) in
        subst (λ z. StoreBy z (nat_lt w.c_walk 256) (w.c_word0 % 2 ^ 32) (payload_of 32 rsp.word)
        (second_answer (settings_of s) y t) (victim fs y.fills (line_of a) t)) (sym at)
        (subst (λ v. StoreBy a v (w.c_word0 % 2 ^ 32) (payload_of 32 rsp.word) (second_answer (settings_of s) y t)
        (victim fs y.fills (line_of a) t)) (sym (le-ltb w.c_walk 256 (omega (arith, walk))))
        (subst (λ v. StoreBy a false v (payload_of 32 rsp.word) (second_answer (settings_of s) y t)
        (victim fs y.fills (line_of a) t)) (sym word0)
        (subst (λ v. StoreBy a false d0 v (second_answer (settings_of s) y t) (victim fs y.fills (line_of a) t))
        (sym word)
        (subst (λ v. StoreBy a false d0 d1 v (victim fs y.fills (line_of a) t)) (sym now)
        (subst (λ v. StoreBy a false d0 d1 c v) way
        (stores s log fs y.fills c w.c_walk g0 g1 a w.c_way w.c_alt tags lines ok k walk (omega (arith, now))
        (omega (arith, now)) low (not_false maps0 all.1) (not_false maps1 all.2)))))))

    abbrev CompletesBy : Bool → Bool → Type 0
    CompletesBy u v =
        CacheAt s log fs (stored_if v (fill_of (settings_of s) y t a (victim fs y.fills (line_of a) t)) y.fills) c
        (c + 1) w.c_walk (if u then not w.c_way else w.c_alt) (put_tags (filling u) tags) (put_lines (filling u) lines)

    -- the second answer stores the line where the history keeps it, and else leaves the cache
    completes : w.c_way ≡ victim fs y.fills (line_of a) t → w.c_word0 ≡ entry0 s log y t a
        → payload_of 32 rsp.word ≡ word_in s log (second_grant (settings_of s) y t) (line_base a + 4)
        → second_answer (settings_of s) y t ≡ c → is_cached ss fs t ≡ true
        → Cached s log fs y.fills c (c + 1) w tags lines → (v : Bool) → is_kept (settings_of s) fs y t a ≡ v
        → CompletesBy v v
    completes way e0 word now b k true yes_ = line_stored way e0 word now b k yes_
    completes way e0 word now b k false no_ = keep y.fills k

    -- ---- the answer

    -- the grant of an uncached request
    bare_grant : ℕ
    bare_grant = grant_time s.plan.iwaits (made y) t

    -- so each state of a request is answered or goes on
    pub answered : Work s log ss fs y t a c (c + 1) (marked fence w) p tags lines
        → By (doing_of w.c_state) rsp.valid (is_hit look w.c_addr)
    unfolding gone_by answers_by entry_by doing_of answer_time
    answered (bare_asks b d i k) =
        answered_by AsksBare false d (silent p (waiting_silent s.plan.iwaits (made y) t c p i))
        (goes refl at (bare_asks b d (held i) (keep y.fills k)))
    answered (bare_waits b d i k) =
        let g : ℕ = grant_time s.plan.iwaits (made y) t in
        let v : ℕ = word_in s log g a in
        elim (cases_eq p.left 0) [
          | inl now ↦
              let m : Came (is_unmapped s a) v rsp =
              granted_came s.plan.iwaits (made y) t (is_unmapped s a) v c p (word_low s ok log g a) i now in
              answered_by AwaitsBare true d m.valid
              (leaving s log ss fs y t a c (gone AwaitsBare true (is_hit look w.c_addr)) p
              (put_tags (filling false) tags) (put_lines (filling false) lines)
              (ans AwaitsBare true (is_hit look w.c_addr))
              (record {
                answer = answer_time s.plan.iwaits (made y) t;
                sent = transaction s.plan.iwaits (made y) t (fetch_wires a) ∷ y.sent;
                fills = y.fills;
                grant = g;
              })
              (bare_past (settings_of s) ss fs y t a b) refl
              (entry_back (rsp_entry rsp) v (is_unmapped s a) (word_low s ok log g a)
              (came_entry (is_unmapped s a) v rsp m)) (omega (arith, i.left, now)) refl
              (granted_free s.plan.iwaits (made y) t (is_unmapped s a) (encode_of 32 7 v) c p i now) (keep y.fills k))
          | inr ne ↦
              answered_by AwaitsBare false d (silent p
              (granted_silent s.plan.iwaits (made y) t (is_unmapped s a) (encode_of 32 7 v) c p i ne))
              (goes refl at (bare_waits b d i ne (keep y.fills k)))
        ]
    answered (looks b n d now i k) =
        answered_by Looks false d (silent p (idle_silent s.plan.iwaits (made y) p i))
        (looks_answer b (unmarked Looks (not (none_between fs t (c + 1))) d refl n) (look_is d) now i k
        (is_hit look w.c_addr) refl)
    answered (first_asks b m d i k) =
        answered_by AsksFirst false d (silent p (waiting_silent s.plan.iwaits (made y) (t + 1) c p i))
        (goes refl at (first_asks b m d (held i) (keep y.fills k)))
    answered (first_waits b m d i k) =
        let g : ℕ = first_grant (settings_of s) y t in
        let v : ℕ = word_in s log g (line_base a) in
        elim (cases_eq p.left 0) [
          | inl now ↦
              let u : Came (is_unmapped s (line_base a)) v rsp =
              granted_came s.plan.iwaits (made y) (t + 1) (is_unmapped s (line_base a)) v c p
              (word_low s ok log g (line_base a)) i now in
              answered_by AwaitsFirst true d u.valid
              (goes refl at (second_asks b (record {
                absent = m.absent;
                way = m.way;
                nostore = unmarked AwaitsFirst (not (none_between fs t (c + 1))) d refl m.nostore;
              }) refl
              (came_entry (is_unmapped s (line_base a)) v rsp u)
              (due (omega (arith, i.left, now))
              (granted_free s.plan.iwaits (made y) (t + 1) (is_unmapped s (line_base a)) (encode_of 32 7 v) c p i now))
              (keep y.fills k)))
          | inr ne ↦
              answered_by AwaitsFirst false d
              (silent p (granted_silent s.plan.iwaits (made y) (t + 1) (is_unmapped s (line_base a)) (encode_of 32 7 v)
              c
              p i ne)) (goes refl at (first_waits b m d i ne (keep y.fills k)))
        ]
    answered (second_asks b m d e i k) =
        answered_by AsksSecond false d (silent p
        (waiting_silent s.plan.iwaits (suc (made y)) (first_answer (settings_of s) y t) c p i))
        (goes refl at (second_asks b m d e (held i) (keep y.fills k)))
    answered (second_waits b m d e i k) =
        let g : ℕ = second_grant (settings_of s) y t in
        let v : ℕ = word_in s log g (line_base a + 4) in
        let err : Bool = is_unmapped s (line_base a + 4) in
        elim (cases_eq p.left 0) [
          | inl now ↦
              let u : Came err v rsp =
              granted_came s.plan.iwaits (suc (made y)) (first_answer (settings_of s) y t) err v
              c p (word_low s ok log g (line_base a + 4)) i now in
              let end : second_answer (settings_of s) y t ≡ c = omega (arith, i.left, now) in
              answered_by AwaitsSecond true d u.valid
              (goes refl at (last b m.absent refl e (came_entry err v rsp u) end
              (granted_free s.plan.iwaits (suc (made y)) (first_answer (settings_of s) y t) err (encode_of 32 7 v) c p
              i
              now)
              (subst (λ z. CompletesBy z (is_kept (settings_of s) fs y t a))
              (sym (stored_is e u.wrong (unmarked AwaitsSecond (not (none_between fs t (c + 1))) d refl m.nostore) end
              b))
              (completes m.way e u.word end b k (is_kept (settings_of s) fs y t a) refl))))
          | inr ne ↦
              answered_by AwaitsSecond false d
              (silent p (granted_silent s.plan.iwaits (suc (made y)) (first_answer (settings_of s) y t) err
              (encode_of 32 7 v) c p i ne)) (goes refl at (second_waits b m d e i ne (keep y.fills k)))
        ]
    answered (last b m d e0 e1 now i k) =
        let g0 : ℕ = first_grant (settings_of s) y t in
        let g1 : ℕ = second_grant (settings_of s) y t in
        let g : ℕ = half_grant a g0 g1 in
        answered_by Answers false d (silent p (idle_silent s.plan.iwaits (suc (suc (made y))) p i))
        (leaving s log ss fs y t a c (gone Answers false (is_hit look w.c_addr)) p (put_tags (filling false) tags)
        (put_lines (filling false) lines) (ans Answers false (is_hit look w.c_addr))
        (record {
          answer = second_answer (settings_of s) y t + 1;
          sent = transaction s.plan.iwaits (suc (made y)) (first_answer (settings_of s) y t)
              (fetch_wires (8 * line_of a + 4))
              ∷ transaction s.plan.iwaits (made y) (t + 1) (fetch_wires (8 * line_of a))
              ∷ y.sent;
          fills = filled (settings_of s) fs y t a;
          grant = g;
        })
        (miss_past (settings_of s) ss fs y t a b m) refl
        (entry_back (half_of w.c_addr w.c_word0 w.c_word1) (word_in s log g a) (is_unmapped s a)
        (word_low s ok log g a)
        (ap (λ z. half_of z w.c_word0 w.c_word1) at ∙ half_is s log a w.c_word0 w.c_word1 g0 g1 aligned e0 e1)) now
        refl
        (idle_free s.plan.iwaits (suc (suc (made y))) p i) (keep (filled (settings_of s) fs y t a) k))
