-- The answer of a cycle: the buffer, the word port and the cache after it.
use Rattle.std.proofs.Common.{◌≡◌, ℕ, zero, suc, ◌+◌, ◌/◌, ◌%◌, ◌^◌, ◌<◌, ◌≤◌, ◌⊎◌, Bool, true, false, not, ◌&&◌, ◌||◌}
use Rattle.std.proofs.Common.{◌==◌, List, length, refl, sym, ap, ◌∙◌, inl, inr, arith, subst, add-zero, nat_lt, nat_le}
use Rattle.std.proofs.Common.{if◌then◌else◌, Option}
use Rattle.std.proofs.lemmas.Bool.{cases_eq}
use Rattle.ibx_secded.specs.Code.{encode_of, payload_of}
use Rattle.ibx_bus.specs.Port.{PortState, answer_wires}
use Rattle.ibx_bus.proofs.Ports.{Free, idle_free}
use Rattle.ibx_time.specs.Memories.{Write}
use Rattle.ibx_time.specs.Requests.{Past, Switch, enabled_at, is_cached, is_walked, made}
use Rattle.ibx_time.specs.Settings.{Setup, settings_of}
use Rattle.ibx_time.specs.Streams.{Stream, last_of, past}
use Rattle.ibx_time.proofs.Times.{IsRequested}
use Rattle.ibx_prefetch.specs.declared.buffer.Prefetch.{Prefetch}
use Rattle.ibx_prefetch.specs.Buffer.{entry_of, pushed, received}
use Rattle.ibx_prefetch.specs.declared.buffer.WordAns.{WordAns}
use Rattle.ibx_prefetch.proofs.Drops.{received-none}
use Rattle.ibx_time_machine.specs.Words.{put_lines, put_tags}
use Rattle.ibx_icache.specs.WordPort.{after_answer as port_answered, answer_of, entry_by, filling_of, gone_by, is_hit}
use Rattle.ibx_icache.specs.WordPort.{is_wrong, looked, marked, rsp_entry, slot_of as place_of, stores_of, victim_of}
use Rattle.ibx_icache.specs.Doing.{answers_by, doing_of, stores_by}
use Rattle.ibx_icache.specs.declared.port.WordPort.{WordPort}
use Rattle.ibx_icache.specs.declared.doing.Doing.{Doing}
use Rattle.ibx_icache.specs.declared.doing.Doing.TheVariants.{Answers, AsksBare, AsksFirst, AsksSecond, AwaitsBare}
use Rattle.ibx_icache.specs.declared.doing.Doing.TheVariants.{AwaitsFirst, AwaitsSecond, Looks, Rests}
use Rattle.ibx_time_invariant.proofs.Caches.{Cleared}
use Rattle.ibx_time_invariant.proofs.FetchSide.{FetchAnswers, ans_of, receives, seen_by}
use Rattle.ibx_time_machine.specs.Words.{look_at}
use Rattle.ibx_time_invariant.proofs.Fetches.{Count, FetchAt, coming, dropped, entry_in, rest, word_entry}
use Rattle.ibx_time_invariant.proofs.Links.{Asked, Cached, Link, Mid, Work, bare_asks, bare_waits, first_asks, first_waits}
use Rattle.ibx_time_invariant.proofs.Links.{free, idle, last, looks, pending, second_asks, second_waits}
use Rattle.ibx_time_invariant.proofs.Ties.{IsPlaced}
use Rattle.ibx_time_invariant.proofs.Words.{WordsMid}
use Rattle.ibx_time_fetch.proofs.AnswersLines.{Answered, answered, comes, goes}
use Rattle.ibx_time_fetch.proofs.AnswersStores.{cleared_by, filling_if, kept, looks_ended, stores_ended}

-- ---- the buffer takes the word

-- a word that comes joins those that are held
pushes : (s : Setup) (log : List Write) (x : Stream) (half q entry : ℕ) (f : Prefetch) (n : ℕ) → f.buf_count ≡ n
    → n < 3 → n + length x.enters + 1 ≡ q → f.f_drop ≡ false → FetchAt s log x half q f
    → entry ≡ word_entry s log x (length x.enters + n)
    → FetchAt s log x half q (pushed n entry (record f { f_busy = false }))
unfolding pushed
pushes s log x half q entry f zero k less n d i e =
    record {
      head = i.head;
      half_low = i.half_low;
      addr = i.addr;
      fresh = i.fresh;
      count = rest refl d (omega (arith, n));
      holds = record {
        word0 = λ _. e ∙ ap (word_entry s log x) (add-zero (length x.enters));
        word1 = λ h. absurd (omega (arith, h));
        word2 = λ h. absurd (omega (arith, h));
        none0 = λ h. absurd (omega (arith, h));
        none1 = λ _. i.holds.none1 (omega (arith, k));
        none2 = λ _. i.holds.none2 (omega (arith, k));
      };
    }
pushes s log x half q entry f (suc zero) k less n d i e =
    record {
      head = i.head;
      half_low = i.half_low;
      addr = i.addr;
      fresh = i.fresh;
      count = rest refl d (omega (arith, n));
      holds = record {
        word0 = λ _. i.holds.word0 (omega (arith, k));
        word1 = λ _. e;
        word2 = λ h. absurd (omega (arith, h));
        none0 = λ h. absurd (omega (arith, h));
        none1 = λ h. absurd (omega (arith, h));
        none2 = λ _. i.holds.none2 (omega (arith, k));
      };
    }
pushes s log x half q entry f (suc (suc zero)) k less n d i e =
    record {
      head = i.head;
      half_low = i.half_low;
      addr = i.addr;
      fresh = i.fresh;
      count = rest refl d (omega (arith, n));
      holds = record {
        word0 = λ _. i.holds.word0 (omega (arith, k));
        word1 = λ _. i.holds.word1 (omega (arith, k));
        word2 = λ _. e;
        none0 = λ h. absurd (omega (arith, h));
        none1 = λ h. absurd (omega (arith, h));
        none2 = λ h. absurd (omega (arith, h));
      };
    }
pushes s log x half q entry f (suc (suc (suc n))) k less m d i e = absurd (omega (arith, less))

-- it is the last word of the stream, as memory held it in its grant
last_word : (s : Setup) (log : List Write) (x : Stream) (q j : ℕ) → q ≡ suc j
    → entry_in s log (past (settings_of s) x q).grant (last_of x q) ≡ word_entry s log x j
unfolding last_of
last_word s log x q j e = ap (λ n. entry_in s log (past (settings_of s) x n).grant (last_of x n)) e

-- the buffer with that word, or as before where the word is dropped
word_comes : (s : Setup) (log : List Write) (x : Stream) (half q c entry : ℕ) (f : Prefetch) (drop : Bool)
    → IsRequested (settings_of s) x c q → f.f_busy ≡ true → f.f_drop ≡ drop → FetchAt s log x half q f
    → Count q (length x.enters) f.f_busy f.f_drop f.buf_count
    → entry ≡ entry_in s log (past (settings_of s) x q).grant (last_of x q)
    → FetchAt s log x half q (received true drop entry f)
unfolding received
word_comes s log x half q c entry f drop r busy k i (rest b d n) e = let no_ : true ≡ false = sym busy ∙ b in cc
word_comes s log x half q c entry f true r busy k i (coming b d n) e = let no_ : true ≡ false = sym k ∙ d in cc
word_comes s log x half q c entry f false r busy k i (coming b d n) e =
    pushes s log x half q entry f f.buf_count refl (omega (arith, r.within, n)) n d i
    (e ∙ last_word s log x q (length x.enters + f.buf_count) (omega (arith, n)))
word_comes s log x half q c entry f true r busy k i (dropped b d z nothing none) e =
    record {
      head = i.head;
      half_low = i.half_low;
      addr = i.addr;
      fresh = i.fresh;
      count = rest refl refl (omega (arith, z, nothing, none));
      holds = record {
        word0 = i.holds.word0;
        word1 = i.holds.word1;
        word2 = i.holds.word2;
        none0 = i.holds.none0;
        none1 = i.holds.none1;
        none2 = i.holds.none2;
      };
    }
word_comes s log x half q c entry f false r busy k i (dropped b d z nothing none) e =
    let no_ : false ≡ true = sym k ∙ d in cc

-- a mark is of a request that is outstanding
marks_busy : (q m count : ℕ) (busy drop : Bool) → Count q m busy drop count → drop ≡ true → busy ≡ true
marks_busy q m count busy drop (rest b d n) e = let no_ : false ≡ true = sym d ∙ e in cc
marks_busy q m count busy drop (coming b d n) e = b
marks_busy q m count busy drop (dropped b d z nothing none) e = b

-- so a cycle without an answer leaves the buffer
none_comes : (s : Setup) (log : List Write) (x : Stream) (half q entry : ℕ) (f : Prefetch) → FetchAt s log x half q f
    → FetchAt s log x half q (received false f.f_drop entry f)
none_comes s log x half q entry f i =
    subst (λ (g : Prefetch). FetchAt s log x half q g)
    (sym (received-none f.f_drop entry f (marks_busy q (length x.enters) f.buf_count f.f_busy f.f_drop i.count))) i

-- a word that is pushed leaves none outstanding, where none was
push_busy : (n entry : ℕ) (f : Prefetch) → f.f_busy ≡ false → (pushed n entry f).f_busy ≡ false
unfolding pushed
push_busy zero entry f b = b
push_busy (suc zero) entry f b = b
push_busy (suc (suc zero)) entry f b = b
push_busy (suc (suc (suc n))) entry f b = b

-- so no word is outstanding after one that comes, be it kept or dropped
no_more_busy : (drop : Bool) (entry : ℕ) (f : Prefetch) → (received true drop entry f).f_busy ≡ false
unfolding received
no_more_busy true entry f = refl
no_more_busy false entry f = push_busy f.buf_count entry (record f { f_busy = false }) refl

-- ---- by what the outstanding request comes to

-- the buffer and the link after the answer
record Received (s : Setup) (log : List Write) (x : Stream) (half q c : ℕ) (f : Prefetch) (w : WordPort)
    (p : PortState) (tags lines : List ℕ) : Type 0 where
  fetch : FetchAt s log x half q f
  mid : Mid s log x q c f.f_busy w p tags lines

-- they are so, whether the request has answered or goes on
received_by : (s : Setup) (log : List Write) (x : Stream) (half q c : ℕ) (f : Prefetch) (v w : WordPort)
    (p : PortState) (tags lines : List ℕ) (ans : WordAns) (y : Past) (t : ℕ) → IsRequested (settings_of s) x c q
    → FetchAt s log x half q f → Asked s x q c f.f_busy v y t
    → Answered s log x.switches x.fences y t (last_of x q) c w p tags lines ans
    → Received s log x half q c (receives ans f) w p tags lines
unfolding received
received_by s log x half q c f v w p tags lines ans y t r i a (comes yes_ is now g u k) =
    let e : ℕ = entry_of ans.err ans.word in
    subst (λ b. Received s log x half q c (received b f.f_drop e f) w p tags lines) (sym yes_) (record {
      fetch = word_comes s log x half q c e f f.f_drop r a.is_busy refl i i.count
          (is ∙ ap (λ (z : Past). entry_in s log z.grant (last_of x q)) (sym a.left));
      mid = free (no_more_busy f.f_drop e f) g (subst (λ (z : Past). Free s.plan.iwaits (made z) p) (sym a.left) u)
          (subst (λ (z : Past). Cached s log x.fences z.fills c (c + 1) w tags lines) (sym a.left) k)
          (omega (arith, ap (λ (z : Past). z.answer) a.left, now));
    })
received_by s log x half q c f v w p tags lines ans y t r i a (goes no_ at u) =
    subst (λ b. Received s log x half q c (received b f.f_drop (entry_of ans.err ans.word) f) w p tags lines) (sym no_)
    (record {
      fetch = none_comes s log x half q (entry_of ans.err ans.word) f i;
      mid = pending y t (record {
        origin = a.origin;
        left = a.left;
        order = a.order;
        sent = a.sent;
        early = omega (arith, a.early);
        is_busy = a.is_busy;
        addr = at;
        aligned = a.aligned;
        low = a.low;
      }) u;
    })

-- the second of two tests that hold together
and_second : (a b : Bool) → (a && b) ≡ true → b ≡ true
and_second true b h = h
and_second false b h = let no_ : false ≡ true = h in cc

-- a cached request has its walk behind it
pub walked_of : (ss : List Switch) (fs : List ℕ) (t : ℕ) → is_cached ss fs t ≡ true → is_walked fs t ≡ true
unfolding is_cached
walked_of ss fs t h = and_second (enabled_at ss t) (is_walked fs t) h

-- the buffer, the port and the cache after the answer, by what the port does
abbrev NoWord : Doing → Setup → List Write → Stream → ℕ → ℕ → ℕ → Bool → Prefetch → WordPort → PortState → List ℕ
    → List ℕ → Type 0
NoWord g s log x half q c fence f w p tags lines =
    let hit : Bool = is_hit (look_at tags lines (looked w)) w.c_addr in
    let st : Bool = stores_by g (answer_wires p).valid
    (not (is_wrong (answer_wires p)) && w.c_word0 / 2 ^ 32 == 0 && not (w.c_nostore || fence)) (nat_le 256 w.c_walk) in
    let fill = filling_if (nat_lt w.c_walk 256) st w.c_walk (place_of w.c_addr w.c_way)
    (encode_of 22 6 (2 ^ 21 + w.c_addr / 2 ^ 11)) (encode_of 32 7 (w.c_word0 % 2 ^ 32))
    (encode_of 32 7 (payload_of 32 (answer_wires p).word)) in
    Received s log x half q c
    (receives (if answers_by g (answer_wires p).valid hit
    then record {
      valid = true;
      err =
          not (entry_by g w (answer_wires p) (look_at tags lines (looked w)) / 2 ^ 32 == 0);
      word =
          entry_by g w (answer_wires p) (look_at tags lines (looked w)) % 2 ^ 32;
    }
    else record { valid = false; err = false; word = 0 }) f)
    (marked fence (gone_by g (answer_wires p).valid hit st (victim_of (look_at tags lines (looked w)) w.c_addr w.c_alt)
    (rsp_entry (answer_wires p)) w)) p (put_tags fill tags) (put_lines fill lines)

-- so they are after each state of the link
link_received : (s : Setup) (log : List Write) (x : Stream) (half q c : ℕ) (fence enable next : Bool)
    (request : Option ℕ) (f : Prefetch) (w : WordPort) (p : PortState) (tags lines : List ℕ) → IsPlaced s
    → WordsMid s log x half q c fence enable next f w p tags lines
    → Link s log x q c (c + 1) f.f_busy (marked fence w) p tags lines
    → Received s log x half q c (receives (ans_of w p tags lines) f)
    (port_answered w (seen_by request enable fence w p tags lines)) p
    (put_tags (filling_of w (seen_by request enable fence w p tags lines)) tags)
    (put_lines (filling_of w (seen_by request enable fence w p tags lines)) lines)
unfolding answer_of filling_of gone_by answers_by received doing_of
link_received s log x half q c fence enable next request f w p tags lines ok v (idle b g i k late) =
    subst (λ d. NoWord d s log x half q c fence f w p tags lines) (sym g) (record {
      fetch = none_comes s log x half q (entry_of false 0) f v.fetch;
      mid = free b refl (idle_free s.plan.iwaits (made (past (settings_of s) x q)) p i)
          (kept s log x.fences (past (settings_of s) x q).fills c (c + 1) w.c_walk w.c_alt tags lines
          (place_of w.c_addr w.c_way) (encode_of 22 6 (2 ^ 21 + w.c_addr / 2 ^ 11))
          (encode_of 32 7 (w.c_word0 % 2 ^ 32)) (encode_of 32 7 (payload_of 32 (answer_wires p).word))
          (nat_lt w.c_walk 256) k)
          (in_time (cases_eq c 0));
    })
  where
    in_time : (c ≡ 0) ⊎ (c ≡ 0 → ⊥) → (past (settings_of s) x q).answer ≤ c
    in_time (inl e) = omega (arith, v.begin e, e)
    in_time (inr ne) = omega (arith, late (omega (arith, ne)))
link_received s log x half q c fence enable next request f w p tags lines ok v (pending y t a work) =
    received_by s log x half q c f (marked fence w) (port_answered w (seen_by request enable fence w p tags lines)) p
    (put_tags (filling_of w (seen_by request enable fence w p tags lines)) tags)
    (put_lines (filling_of w (seen_by request enable fence w p tags lines)) lines) (ans_of w p tags lines) y t
    v.requested v.fetch a
    (answered s log x.switches x.fences y t (last_of x q) c fence w p tags lines ok a.addr a.aligned a.low
    (record {
      looks = λ h now. looks_ended x.fences t c w.c_walk fence v.walk (walked_of x.switches x.fences t h) now;
      stores = λ h n. stores_ended x.fences t c w.c_walk fence a.early v.walk (walked_of x.switches x.fences t h) n;
    }) work)

-- ---- what stays

-- the answer leaves the walk, and the cache has 512 tags
goes_walk : (g : Doing) (came hit st way : Bool) (entry : ℕ) (w : WordPort)
    → (gone_by g came hit st way entry w).c_walk ≡ w.c_walk
unfolding gone_by
goes_walk Rests came hit st way entry w = refl
goes_walk Looks came true st way entry w = refl
goes_walk Looks came false st way entry w = refl
goes_walk AsksFirst came hit st way entry w = refl
goes_walk AwaitsFirst true hit st way entry w = refl
goes_walk AwaitsFirst false hit st way entry w = refl
goes_walk AsksSecond came hit st way entry w = refl
goes_walk AwaitsSecond true hit st way entry w = refl
goes_walk AwaitsSecond false hit st way entry w = refl
goes_walk Answers came hit st way entry w = refl
goes_walk AsksBare came hit st way entry w = refl
goes_walk AwaitsBare true hit st way entry w = refl
goes_walk AwaitsBare false hit st way entry w = refl

-- the cache has 512 tags in each state of a request
work_tags : (s : Setup) (log : List Write) (ss : List Switch) (fs : List ℕ) (y : Past) (t a c e : ℕ) (w : WordPort)
    (p : PortState) (tags lines : List ℕ) → Work s log ss fs y t a c e w p tags lines → length tags ≡ 512
work_tags s log ss fs y t a c e w p tags lines (bare_asks b d i k) = k.tag_count
work_tags s log ss fs y t a c e w p tags lines (bare_waits b d i k) = k.tag_count
work_tags s log ss fs y t a c e w p tags lines (looks b n d now i k) = k.tag_count
work_tags s log ss fs y t a c e w p tags lines (first_asks b m d i k) = k.tag_count
work_tags s log ss fs y t a c e w p tags lines (first_waits b m d i k) = k.tag_count
work_tags s log ss fs y t a c e w p tags lines (second_asks b m d e0 i k) = k.tag_count
work_tags s log ss fs y t a c e w p tags lines (second_waits b m d e0 i k) = k.tag_count
work_tags s log ss fs y t a c e w p tags lines (last b m d e0 e1 now i k) = k.tag_count

-- the cache has 512 tags, with a word outstanding or none
link_tags : (s : Setup) (log : List Write) (x : Stream) (q c e : ℕ) (busy : Bool) (w : WordPort) (p : PortState)
    (tags lines : List ℕ) → Link s log x q c e busy w p tags lines → length tags ≡ 512
link_tags s log x q c e busy w p tags lines (idle b g i k late) = k.tag_count
link_tags s log x q c e busy w p tags lines (pending y t a work) =
    work_tags s log x.switches x.fences y t (last_of x q) c e w p tags lines work

-- a walk that goes on clears its set's two tags
clears_tags : (request : Option ℕ) (enable fence : Bool) (w : WordPort) (p : PortState) (tags lines : List ℕ)
    → length tags ≡ 512 → Cleared w.c_walk (put_tags (filling_of w (seen_by request enable fence w p tags lines)) tags)
unfolding filling_of
clears_tags request enable fence w p tags lines k =
    cleared_by w.c_walk (place_of w.c_addr w.c_way) (encode_of 22 6 (2 ^ 21 + w.c_addr / 2 ^ 11))
    (encode_of 32 7 (w.c_word0 % 2 ^ 32)) (encode_of 32 7 (payload_of 32 (answer_wires p).word)) tags
    (nat_lt w.c_walk 256) (stores_of w (seen_by request enable fence w p tags lines)) refl k

-- so the answer of every cycle leaves the words as after it
pub fetch_answers : (s : Setup) → FetchAnswers s
fetch_answers s log x half q c fence enable next request f w p tags lines ok v =
    let r : Received s log x half q c (receives (ans_of w p tags lines) f)
    (port_answered w (seen_by request enable fence w p tags lines)) p
    (put_tags (filling_of w (seen_by request enable fence w p tags lines)) tags)
    (put_lines (filling_of w (seen_by request enable fence w p tags lines)) lines) =
    link_received s log x half q c fence enable next request f w p tags lines ok v v.link in
    record {
      fetch = r.fetch;
      mid = r.mid;
      requested = v.requested;
      gates = v.gates;
      kept = goes_walk (doing_of w.c_state) (answer_wires p).valid (is_hit (look_at tags lines (looked w)) w.c_addr)
          (stores_of w (seen_by request enable fence w p tags lines))
          (victim_of (look_at tags lines (looked w)) w.c_addr w.c_alt) (rsp_entry (answer_wires p)) w;
      walk_is = v.walk;
      cleared = clears_tags request enable fence w p tags lines
          (link_tags s log x q c (c + 1) f.f_busy (marked fence w) p tags lines v.link);
      enabled = v.enabled;
      sound = v.sound;
      sent = v.sent;
    }
