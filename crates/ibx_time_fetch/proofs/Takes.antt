-- The parcels that an item takes, and with them the oldest word of the buffer or not.
use Rattle.std.proofs.Common.{◌≡◌, ℕ, zero, suc, ◌+◌, ◌-◌, ◌*◌, ◌/◌, ◌%◌, ◌^◌, ◌<◌, ◌≤◌, Bool, true, false, ◌&&◌, List}
use Rattle.std.proofs.Common.{[], ◌∷◌, ◌++◌, length, refl, sym, ap, ◌∙◌, inl, inr, subst, arith, add-zero, nat_le}
use Rattle.std.proofs.Common.{if◌then◌else◌}
use Rattle.std.proofs.lemmas.Bool.{cases_lt, leb-true, leb-false}
use Rattle.ibx_time_invariant.proofs.Fetches.{Count, Holds, coming, dropped, entry_in, rest, word_entry}
use Rattle.ibx_time_invariant.proofs.FetchSide.{FetchTakes}
use Rattle.ibx_time_invariant.proofs.Links.{Cached, Link, Origin, Work, idle, pending}
use Rattle.ibx_time_invariant.proofs.Words.{WordsAt}
use Rattle.ibx_bus.specs.Port.{PortState}
use Rattle.ibx_bus.proofs.Ports.{Idle}
use Rattle.ibx_prefetch.specs.declared.buffer.Prefetch.{Prefetch}
use Rattle.ibx_prefetch.specs.Buffer.{popped}
use Rattle.ibx_icache.specs.declared.port.WordPort.{WordPort}
use Rattle.ibx_time.specs.Memories.{Write}
use Rattle.ibx_time.specs.Requests.{Past, after_request, made}
use Rattle.ibx_time.specs.Settings.{Settings, Setup, settings_of}
use Rattle.ibx_time.specs.Streams.{Stream, answer, issue, past, word_addr}
use Rattle.ibx_time.specs.Times.{Times, has_answered}
use Rattle.ibx_time.proofs.Times.{after_issue, answer_mono, gates_more, issue_more, last_more, more_length, past_more}
use Rattle.ibx_time.proofs.Times.{requested_more, with_enter}
use Rattle.ibx_time_fetch.proofs.ShowsWords.{not_there}
use Rattle.ibx_time_fetch.proofs.TakesLogs.{words_logs}
use Rattle.ibx_time.proofs.Logs.{grows_same}

-- ---- an enter more in the stream

-- it changes neither where the last request came from nor a word that was read
origin_more : (k : Settings) (x : Stream) (e q : ℕ) (y : Past) (t : ℕ) → q ≤ length x.enters + 3 → Origin k x q y t
    → Origin k (with_enter x e) q y t
origin_more k x e zero y t h o = tt
origin_more k x e (suc j) y t h o =
    (o.0 ∙ sym (past_more k x e j (omega arith)), o.1 ∙ sym (issue_more k x e j (omega arith)))

-- the last word request stands in the stream with the enter as in the one without
link_more : (s : Setup) (log : List Write) (x : Stream) (e q d : ℕ) (busy : Bool) (w : WordPort) (p : PortState)
    (tags lines : List ℕ) → q ≤ length x.enters + 3
    → Link s log x q d d busy w p tags lines → Link s log (with_enter x e) q d d busy w p tags lines
link_more s log x e q d busy w p tags lines h (idle b g i k late) =
    let same : past (settings_of s) x q ≡ past (settings_of s) (with_enter x e) q =
    sym (past_more (settings_of s) x e q h) in
    idle b g (subst (λ (y : Past). Idle s.plan.iwaits (made y) p) same i)
    (subst (λ (y : Past). Cached s log x.fences y.fills d d w tags lines) same k)
    (λ z. subst (λ (y : Past). y.answer < d) same (late z))
link_more s log x e q d busy w p tags lines h (pending y t a work) =
    pending y t (record {
      origin = origin_more (settings_of s) x e q y t h a.origin;
      left = past_more (settings_of s) x e q h ∙ a.left
          ∙ ap (λ n. after_request (settings_of s) x.switches x.fences y t n) (sym (last_more x e q));
      order = a.order;
      sent = a.sent;
      early = a.early;
      is_busy = a.is_busy;
      addr = a.addr ∙ sym (last_more x e q);
      aligned = ap (λ n. n % 4) (last_more x e q) ∙ a.aligned;
      low = subst (λ n. n < 2 ^ 32) (sym (last_more x e q)) a.low;
    }) (subst (λ n. Work s log x.switches x.fences y t n d d w p tags lines) (sym (last_more x e q)) work)

-- a word that was read is the same in the stream with the enter
entry_more : (s : Setup) (log : List Write) (x : Stream) (e j : ℕ) → suc j ≤ length x.enters + 3
    → word_entry s log x j ≡ word_entry s log (with_enter x e) j
entry_more s log x e j h =
    ap (λ (y : Past). entry_in s log y.grant (word_addr x j)) (sym (past_more (settings_of s) x e (suc j) h))

-- ---- a word less in the buffer

-- one word less is held, and one more is taken
count_less : (q m : ℕ) (busy drop : Bool) (count : ℕ) → 0 < count → Count q m busy drop count
    → Count q (m + 1) busy drop (count - 1)
count_less q m busy drop count some (rest b d n) = rest b d (omega arith)
count_less q m busy drop count some (coming b d n) = coming b d (omega arith)
count_less q m busy drop count some (dropped b d z nothing none) = absurd (omega arith)

-- the buffer holds three words at most
count_most : (q m : ℕ) (busy drop : Bool) (count : ℕ) → q ≤ m + 3 → Count q m busy drop count → count ≤ 3
count_most q m busy drop count h (rest b d n) = omega arith
count_most q m busy drop count h (coming b d n) = omega arith
count_most q m busy drop count h (dropped b d z nothing none) = omega arith

-- the buffer at a program counter, with its oldest word or without
abbrev moved_to : Bool → ℕ → Prefetch → Prefetch
moved_to b pc f = record (popped b f) { head_pc = pc }

-- the words behind it are still those of the stream
holds_less : (s : Setup) (log : List Write) (x : Stream) (e pc : ℕ) (f : Prefetch) → f.buf_count ≤ 3
    → Holds s log x (length x.enters) f → Holds s log (with_enter x e) (length x.enters + 1) (moved_to true pc f)
unfolding popped
holds_less s log x e pc f most h =
    let m : ℕ = length x.enters in
    record {
      word0 = λ l. h.word1 (omega arith) ∙ entry_more s log x e (m + 1) (omega arith);
      word1 = λ l. h.word2 (omega arith) ∙ entry_more s log x e (m + 2) (omega arith)
          ∙ ap (word_entry s log (with_enter x e)) (omega arith);
      word2 = λ l. absurd (omega (arith, most, l));
      none0 = λ l. h.none1 (omega arith);
      none1 = λ l. h.none2 (omega arith);
      none2 = λ l. refl;
    }

-- ---- the next address

-- the program counter moves by its parcels, within the word or into the next
pc_still : (base m half n pc : ℕ) → pc ≡ (4 * (base + m) + 2 * half) % 2 ^ 32 → half + n < 2
    → (pc + 2 * n) % 2 ^ 32 ≡ (4 * (base + m) + 2 * ((half + n) % 2)) % 2 ^ 32
pc_still base m half n pc e h = omega arith

-- where the parcels end a word the program counter moves into the next one
pc_next : (base m half n pc : ℕ) → pc ≡ (4 * (base + m) + 2 * half) % 2 ^ 32 → half < 2 → n ≤ 2 → 2 ≤ half + n
    → (pc + 2 * n) % 2 ^ 32 ≡ (4 * (base + (m + 1)) + 2 * ((half + n) % 2)) % 2 ^ 32
pc_next base m half n pc e low few h = omega arith

-- the half by the program counter
half_is : (pc n half : ℕ) → pc ≡ (4 * n + 2 * half) % 2 ^ 32 → half < 2 → pc / 2 % 2 ≡ half
half_is pc n half e h = omega arith

-- ---- by whether the parcels end a word

-- the stream with an enter, or without
abbrev enters_by : Bool → ℕ → Stream → Stream
enters_by b e x = record x { enters = if b then x.enters ++ e ∷ [] else x.enters }

-- the words after the parcels were taken
abbrev WordsBy : Setup → List Write → Stream → ℕ → ℕ → ℕ → ℕ → Bool → Prefetch → WordPort → PortState → List ℕ → List ℕ
    → Bool → Bool → Type 0
WordsBy s log x half n q d enable f w p tags lines b u =
    WordsAt s log (enters_by b d x) ((half + n) % 2) q d enable (moved_to u ((f.head_pc + 2 * n) % 2 ^ 32) f) w p tags
    lines

-- they are so, by whether the parcels end a word
words_by : (s : Setup) (log : List Write) (x : Stream) (half n q c : ℕ) (enable : Bool) (f : Prefetch) (w : WordPort)
    (p : PortState) (tags lines : List ℕ) → WordsAt s log x half q (c + 1) enable f w p tags lines → n ≤ 2
    → (b : Bool) → nat_le 2 (half + n) ≡ b → (b ≡ true → 0 < f.buf_count)
    → WordsBy s log x half n q (c + 1) enable f w p tags lines b b
unfolding popped
words_by s log x half n q c enable f w p tags lines v few false e some =
    record {
      fetch = record {
        head =
            pc_still x.base (length x.enters) half n f.head_pc v.fetch.head (omega (arith, leb-false 2 (half + n) e));
        half_low = omega arith;
        addr = v.fetch.addr;
        fresh = v.fetch.fresh;
        count = v.fetch.count;
        holds = record {
          word0 = v.fetch.holds.word0;
          word1 = v.fetch.holds.word1;
          word2 = v.fetch.holds.word2;
          none0 = v.fetch.holds.none0;
          none1 = v.fetch.holds.none1;
          none2 = v.fetch.holds.none2;
        };
      };
      link = v.link;
      requested = v.requested;
      gates = v.gates;
      begin = v.begin;
      walk = v.walk;
      enabled = v.enabled;
      sound = v.sound;
      sent = v.sent;
    }
words_by s log x half n q c enable f w p tags lines v few true e some =
    let more : length (with_enter x (c + 1)).enters ≡ length x.enters + 1 = more_length x (c + 1) in
    let most : f.buf_count ≤ 3 =
    count_most q (length x.enters) f.f_busy f.f_drop f.buf_count v.requested.within v.fetch.count in
    record {
      fetch = record {
        head = pc_next x.base (length x.enters) half n f.head_pc v.fetch.head v.fetch.half_low few
            (leb-true 2 (half + n) e) ∙ ap (λ k. (4 * (x.base + k) + 2 * ((half + n) % 2)) % 2 ^ 32) (sym more);
        half_low = omega arith;
        addr = v.fetch.addr ∙ sym (last_more x (c + 1) q);
        fresh = v.fetch.fresh;
        count = subst (λ k. Count q k f.f_busy f.f_drop (f.buf_count - 1)) (sym more)
            (count_less q (length x.enters) f.f_busy f.f_drop f.buf_count (some refl) v.fetch.count);
        holds = subst (λ k. Holds s log (with_enter x (c + 1)) k (moved_to true ((f.head_pc + 2 * n) % 2 ^ 32) f))
            (sym more) (holds_less s log x (c + 1) ((f.head_pc + 2 * n) % 2 ^ 32) f most v.fetch.holds);
      };
      link = link_more s log x (c + 1) q (c + 1) f.f_busy w p tags lines v.requested.within v.link;
      requested = requested_more (settings_of s) x (c + 1) q v.requested;
      gates = gates_more x (c + 1) v.gates;
      begin = λ z. absurd (omega (arith, z));
      walk = v.walk;
      enabled = v.enabled;
      sound = v.sound;
      sent = v.sent;
    }

-- ---- the words have answered

-- the first of two tests that hold together
and_left : (a b : Bool) → (a && b) ≡ true → a ≡ true
and_left true b h = refl
and_left false b h = h

-- where the parcels have answered, so has the word that holds the first of them
first_there : (k : Settings) (y : Times) (n c : ℕ) → has_answered k y n c ≡ true
    → answer k y.stream (length y.stream.enters) ≤ c
unfolding has_answered
first_there k y n c h = leb-true (answer k y.stream (length y.stream.enters)) c (and_left _ _ h)

-- so the buffer holds a word, the oldest not yet taken
holds_some : (s : Setup) (log : List Write) (x : Stream) (half q c : ℕ) (enable : Bool) (f : Prefetch) (w : WordPort)
    (p : PortState) (tags lines : List ℕ) → WordsAt s log x half q (c + 1) enable f w p tags lines
    → answer (settings_of s) x (length x.enters) ≤ c → 0 < f.buf_count
holds_some s log x half q c enable f w p tags lines v h =
    elim (cases_lt 0 f.buf_count) [
      | inl some ↦ some
      | inr none ↦ absurd (omega (
        arith,
        h,
        not_there s log x half q (c + 1) 0 enable f w p tags lines v v.fetch.count none (omega arith),
        ap (answer (settings_of s) x) (add-zero (length x.enters)),
      ))
    ]

-- the first word was requested before
begun_by : (k : Settings) (x : Stream) (d c : ℕ) (b : Bool) → answer k x (length x.enters) ≤ c
    → issue k (enters_by b d x) 0 < c + 1
begun_by k x d c false h = omega (arith, after_issue k x 0, answer_mono k x 0 (length x.enters) (omega arith))
begun_by k x d c true h = omega (
  arith,
  issue_more k x d 0 (omega arith),
  after_issue k x 0,
  answer_mono k x 0 (length x.enters) (omega arith),
)

-- so an item takes its parcels from the words
pub fetch_takes : (s : Setup) → FetchTakes s
fetch_takes s log new y n q c enable f w p tags lines v g few there =
    let x : Stream = y.stream in
    let half : ℕ = y.half in
    let v2 : WordsAt s new x half q (c + 1) enable f w p tags lines =
    words_logs s log new x half q (c + 1) enable f w p tags lines v (grows_same s log new (c + 1) g) in
    let at : f.head_pc / 2 % 2 ≡ half =
    half_is f.head_pc (x.base + length x.enters) half v.fetch.head v.fetch.half_low in
    record {
      words = subst (λ h. WordsBy s new x half n q (c + 1) enable f w p tags lines (nat_le 2 (half + n))
          (nat_le 2 (h + n))) (sym at)
          (words_by s new x half n q c enable f w p tags lines v2 few (nat_le 2 (half + n)) refl
          (λ e. holds_some s log x half q c enable f w p tags lines v
          (first_there (settings_of s) y n c (there (omega (arith, leb-true 2 (half + n) e, v.fetch.half_low))))));
      begun = λ some. begun_by (settings_of s) x (c + 1) c (nat_le 2 (half + n))
          (first_there (settings_of s) y n c (there some));
    }
