-- The word port answers the word that is due, or none.
use Rattle.std.proofs.Common.{◌≡◌, ℕ, zero, suc, ◌+◌, ◌/◌, ◌%◌, ◌^◌, ◌<◌, ◌≤◌, Bool, true, false, not, ◌&&◌, ◌==◌}
use Rattle.std.proofs.Common.{List, None, refl, sym, ap, ap₂, ◌∙◌, arith}
use Rattle.std.proofs.lemmas.Bool.{eq-eqb, lt-ltb, ne_eqb}
use Rattle.std.proofs.lemmas.Nat.{mod_below}
use Rattle.ibx_bus.specs.Port.{PortState}
use Rattle.ibx_time_fetch.proofs.AnswersLines.{Answered, answered, comes, goes}
use Rattle.ibx_time_fetch.proofs.AnswersStores.{looks_ended, stores_ended}
use Rattle.ibx_icache.specs.Doing.{answers_by, doing_of}
use Rattle.ibx_icache.specs.WordPort.{after_answer as port_answered, answer_of, entry_by, filling_of, gone_by, is_hit}
use Rattle.ibx_icache.specs.WordPort.{marked}
use Rattle.ibx_icache.specs.declared.lookup.Look.{Look}
use Rattle.ibx_icache.specs.declared.port.WordPort.{WordPort}
use Rattle.ibx_isa.specs.declared.bus.Rsp.{Rsp}
use Rattle.ibx_time_invariant.proofs.FetchSide.{ans_of, seen_by}
use Rattle.ibx_time_invariant.proofs.Links.{Asked, Link, idle, pending}
use Rattle.ibx_time_invariant.proofs.Quiets.{word_low}
use Rattle.ibx_time_invariant.proofs.Ties.{IsPlaced}
use Rattle.ibx_time_invariant.proofs.Words.{WordsMid}
use Rattle.ibx_time_machine.specs.Words.{put_lines, put_tags}
use Rattle.ibx_prefetch.specs.Buffer.{entry_of}
use Rattle.ibx_prefetch.specs.declared.buffer.Prefetch.{Prefetch}
use Rattle.ibx_prefetch.specs.declared.buffer.WordAns.{WordAns}
use Rattle.ibx_time.specs.Memories.{Write}
use Rattle.ibx_time.specs.Requests.{Past}
use Rattle.ibx_time.specs.Settings.{Settings, Setup, settings_of}
use Rattle.ibx_time.specs.Streams.{Stream, last_of, past}
use Rattle.ibx_time_invariant.proofs.Receives.{rest_silent}
use Rattle.ibx_time_fetch.proofs.Answers.{walked_of}
use Rattle.ibx_time_units.specs.Words.{answer_by, answer_if, is_answered, is_unmapped, word_at}

-- ---- an answer by its parts

-- one that isn't valid is none
none_by : (b err : Bool) (word : ℕ) → (answer_if b err word).valid ≡ false → answer_if b err word ≡ answer_if false
    false 0
none_by true err word e = let no_ : true ≡ false = e in cc
none_by false err word e = refl

-- one that is has a word of 32 bits
low_by : (b err : Bool) (word : ℕ) → word < 2 ^ 32 → (answer_if b err word).word < 2 ^ 32
low_by true err word low = low
low_by false err word low = omega arith

-- the port's answer is such a one
silent_none : (w : WordPort) (rsp : Rsp) (l : Look) → (answer_of w rsp l).valid ≡ false
    → answer_of w rsp l ≡ answer_if false false 0
unfolding answer_of
silent_none w rsp l e =
    none_by (answers_by (doing_of w.c_state) rsp.valid (is_hit l w.c_addr))
    (not (entry_by (doing_of w.c_state) w rsp l / 2 ^ 32 == 0)) (entry_by (doing_of w.c_state) w rsp l % 2 ^ 32) e

-- the port's answer has a word of 32 bits, whether it is valid or not
word_width : (w : WordPort) (rsp : Rsp) (l : Look) → (answer_of w rsp l).word < 2 ^ 32
unfolding answer_of
word_width w rsp l =
    low_by (answers_by (doing_of w.c_state) rsp.valid (is_hit l w.c_addr))
    (not (entry_by (doing_of w.c_state) w rsp l / 2 ^ 32 == 0)) (entry_by (doing_of w.c_state) w rsp l % 2 ^ 32)
    (mod_below (entry_by (doing_of w.c_state) w rsp l) (2 ^ 32) (omega arith))

-- a word and its error are those of the entry that they make
same_entry : (a b : Bool) (m n : ℕ) → m < 2 ^ 32 → n < 2 ^ 32 → entry_of a m ≡ entry_of b n → (a ≡ b) × (m ≡ n)
same_entry true true m n low small e = (refl, omega (arith, e))
same_entry true false m n low small e = absurd (omega (arith, e))
same_entry false true m n low small e = absurd (omega (arith, e))
same_entry false false m n low small e = (refl, omega (arith, e))

-- a valid answer with this error and this word is this one
made_is : (a : WordAns) (err : Bool) (word : ℕ) → a.valid ≡ true → a.err ≡ err → a.word ≡ word
    → a ≡ answer_if true err word
made_is a err word v e m = by a.valid true a.err err a.word word v e m
  where
    made : Bool → Bool → ℕ → WordAns
    made b u n = record { valid = b; err = u; word = n }

    by : (b c u v : Bool) (m n : ℕ) → b ≡ c → u ≡ v → m ≡ n → made b u m ≡ made c v n
    by b c u v m n e f g = cc

-- so a valid answer whose error and word make this entry is this one
comes_as : (a : WordAns) (err : Bool) (word : ℕ) → a.valid ≡ true → a.word < 2 ^ 32 → word < 2 ^ 32
    → entry_of a.err a.word ≡ entry_of err word → a ≡ answer_if true err word
comes_as a err word v low small e =
    let same = same_entry a.err err a.word word low small e in made_is a err word v same.0 same.1

-- ---- whether one is due

-- none is where the last request answers in another cycle
none_due : (k : Settings) (x : Stream) (q c : ℕ) → (0 < c → (past k x q).answer ≡ c → ⊥) → is_answered k x q c ≡ false
none_due k x q zero other = refl
none_due k x q (suc c) other =
    ap₂ (λ a b. a && b) (lt-ltb 0 (suc c) (omega arith)) (ne_eqb (past k x q).answer (suc c) (other (omega arith)))

-- and one is where it answers in this one
one_due : (k : Settings) (x : Stream) (q c : ℕ) → 0 < c → (past k x q).answer ≡ c → is_answered k x q c ≡ true
one_due k x q c some now = ap₂ (λ a b. a && b) (lt-ltb 0 c some) (eq-eqb (past k x q).answer c now)

-- what is due, by whether it is
due_by : (s : Setup) (log : List Write) (x : Stream) (q c : ℕ) (b : Bool) → is_answered (settings_of s) x q c ≡ b
    → answer_if b (is_unmapped s (last_of x q)) (word_at s log (past (settings_of s) x q).grant (last_of x q))
    ≡ answer_by s log x q c
due_by s log x q c b e =
    sym (ap (λ v. answer_if v (is_unmapped s (last_of x q))
    (word_at s log (past (settings_of s) x q).grant (last_of x q))) e)

-- ---- by the outstanding request

-- the answer by whether the request answers or goes on
by_answered : (s : Setup) (log : List Write) (x : Stream) (q c t : ℕ) (y : Past) (v w : WordPort) (p : PortState)
    (tags lines : List ℕ) (busy : Bool) (rsp : Rsp) (l : Look) → IsPlaced s
    → Asked s x q c busy v y t
    → ((answer_of v rsp l).valid ≡ false → c + 1 ≤ (past (settings_of s) x q).answer)
    → Answered s log x.switches x.fences y t (last_of x q) c w p tags lines (answer_of v rsp l)
    → answer_of v rsp l ≡ answer_by s log x q c
by_answered s log x q c t y v w p tags lines busy rsp l ok a late (comes yes_ is now g u k) =
    let z : Past = past (settings_of s) x q in
    comes_as (answer_of v rsp l) (is_unmapped s (last_of x q)) (word_at s log z.grant (last_of x q)) yes_
    (word_width v rsp l) (word_low s ok log z.grant (last_of x q))
    (is ∙ ap (λ (o : Past). entry_of (is_unmapped s (last_of x q)) (word_at s log o.grant (last_of x q))) (sym a.left))
    ∙ due_by s log x q c true
    (one_due (settings_of s) x q c (omega (arith, a.early)) (ap (λ (o : Past). o.answer) a.left ∙ now))
by_answered s log x q c t y v w p tags lines busy rsp l ok a late (goes no_ at u) =
    silent_none v rsp l no_
    ∙ none_is s log x q c (none_due (settings_of s) x q c (λ some now. absurd (omega (arith, late no_, now))))
  where
    none_is : (s : Setup) (log : List Write) (x : Stream) (q c : ℕ) → is_answered (settings_of s) x q c ≡ false
        → answer_if false false 0 ≡ answer_by s log x q c
    none_is s log x q c e = due_by s log x q c false e

-- so the port answers just what is due
pub answer_is : (s : Setup) (log : List Write) (x : Stream) (half q c : ℕ) (fence enable next : Bool) (f : Prefetch)
    (w : WordPort) (p : PortState) (tags lines : List ℕ) → IsPlaced s
    → WordsMid s log x half q c fence enable next f w p tags lines
    → Link s log x q c (c + 1) f.f_busy (marked fence w) p tags lines
    → ((ans_of w p tags lines).valid ≡ false → f.f_busy ≡ true → c + 1 ≤ (past (settings_of s) x q).answer)
    → ans_of w p tags lines ≡ answer_by s log x q c
unfolding answer_of filling_of gone_by answers_by doing_of
answer_is s log x half q c fence enable next f w p tags lines ok v (idle b g i k done) late =
    silent_none w _ _ (rest_silent w _ _ g)
    ∙ due_by s log x q c false
    (none_due (settings_of s) x q c (λ some now. absurd (omega (arith, done some, now))))
answer_is s log x half q c fence enable next f w p tags lines ok v (pending y t a work) late =
    by_answered s log x q c t y w (port_answered w (seen_by None enable fence w p tags lines)) p
    (put_tags (filling_of w (seen_by None enable fence w p tags lines)) tags)
    (put_lines (filling_of w (seen_by None enable fence w p tags lines)) lines) f.f_busy _ _ ok
    (record {
      origin = a.origin;
      left = a.left;
      order = a.order;
      sent = a.sent;
      early = a.early;
      is_busy = a.is_busy;
      addr = a.addr;
      aligned = a.aligned;
      low = a.low;
    }) (λ e. late e a.is_busy)
    (answered s log x.switches x.fences y t (last_of x q) c fence w p tags lines ok a.addr a.aligned a.low
    (record {
      looks = λ h now. looks_ended x.fences t c w.c_walk fence v.walk (walked_of x.switches x.fences t h) now;
      stores = λ h n. stores_ended x.fences t c w.c_walk fence a.early v.walk (walked_of x.switches x.fences t h) n;
    }) work)
