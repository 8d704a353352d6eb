-- The buffer has just the words that have answered.
use Rattle.std.proofs.Common.{◌≡◌, ℕ, suc, ◌+◌, ◌-◌, ◌<◌, ◌≤◌, ◌⊎◌, Bool, true, false, List, length, refl, sym, ap}
use Rattle.std.proofs.Common.{◌∙◌, inl, inr, arith}
use Rattle.std.proofs.lemmas.Bool.{cases_eq}
use Rattle.ibx_time_invariant.proofs.Fetches.{Count, coming, dropped, rest}
use Rattle.ibx_time_invariant.proofs.Links.{Link, Work, bare_asks, bare_waits, first_asks, first_waits, idle, last, looks}
use Rattle.ibx_time_invariant.proofs.Links.{pending, second_asks, second_waits}
use Rattle.ibx_time_invariant.proofs.Words.{WordsAt}
use Rattle.ibx_bus.specs.Port.{PortState}
use Rattle.ibx_bus.specs.PortTimes.{answer_time, grant_time}
use Rattle.ibx_time.specs.Settings.{Settings, Setup, settings_of}
use Rattle.ibx_time.specs.Memories.{Write}
use Rattle.ibx_time.specs.Requests.{Past, Switch, after_request, is_cached, is_present, line_of, request_by}
use Rattle.ibx_time.specs.Streams.{Stream, answer, issue, last_of, past}
use Rattle.ibx_time.proofs.Times.{after_issue, answer_mono, next_issue}
use Rattle.ibx_prefetch.specs.declared.buffer.Prefetch.{Prefetch}
use Rattle.ibx_time_invariant.proofs.Issues.{bare_answer, miss_answer}
use Rattle.ibx_icache.specs.declared.port.WordPort.{WordPort}

-- ---- an outstanding request hasn't answered

-- a hit answers in the cycle after its request
hit_answer : (k : Settings) (ss : List Switch) (fs : List ℕ) (y : Past) (t a : ℕ) → is_cached ss fs t ≡ true
    → is_present fs y.fills (line_of a) t ≡ true → (after_request k ss fs y t a).answer ≡ t + 1
unfolding request_by
hit_answer k ss fs y t a e h = rw (e, h) refl

-- a cached request answers after its own cycle
cached_later : (k : Settings) (ss : List Switch) (fs : List ℕ) (y : Past) (t a : ℕ) → is_cached ss fs t ≡ true
    → (b : Bool) → is_present fs y.fills (line_of a) t ≡ b → t + 1 ≤ (after_request k ss fs y t a).answer
unfolding answer_time grant_time
cached_later k ss fs y t a e true h = omega (arith, hit_answer k ss fs y t a e h)
cached_later k ss fs y t a e false h = omega (arith, miss_answer k ss fs y t a e h)

-- so a request that is outstanding answers in this cycle or later, in each of its states
pub work_late : (s : Setup) (log : List Write) (ss : List Switch) (fs : List ℕ) (y : Past) (t a c e : ℕ) (w : WordPort)
    (p : PortState) (tags lines : List ℕ) → Work s log ss fs y t a c e w p tags lines
    → c ≤ (after_request (settings_of s) ss fs y t a).answer
unfolding answer_time grant_time
work_late s log ss fs y t a c e w p tags lines (bare_asks b g i h) =
    omega (arith, bare_answer (settings_of s) ss fs y t a b, i.late)
work_late s log ss fs y t a c e w p tags lines (bare_waits b g i h) =
    omega (arith, bare_answer (settings_of s) ss fs y t a b, i.left)
work_late s log ss fs y t a c e w p tags lines (looks b n g now i h) =
    omega (arith, cached_later (settings_of s) ss fs y t a b (is_present fs y.fills (line_of a) t) refl)
work_late s log ss fs y t a c e w p tags lines (first_asks b m g i h) =
    omega (arith, miss_answer (settings_of s) ss fs y t a b m.absent, i.late)
work_late s log ss fs y t a c e w p tags lines (first_waits b m g i h) =
    omega (arith, miss_answer (settings_of s) ss fs y t a b m.absent, i.left)
work_late s log ss fs y t a c e w p tags lines (second_asks b m g e0 i h) =
    omega (arith, miss_answer (settings_of s) ss fs y t a b m.absent, i.late)
work_late s log ss fs y t a c e w p tags lines (second_waits b m g e0 i h) =
    omega (arith, miss_answer (settings_of s) ss fs y t a b m.absent, i.left)
work_late s log ss fs y t a c e w p tags lines (last b m g e0 e1 now i h) =
    omega (arith, miss_answer (settings_of s) ss fs y t a b m)

-- so a word that is outstanding answers in this cycle or later
pub link_late : (s : Setup) (log : List Write) (x : Stream) (q c e : ℕ) (busy : Bool) (w : WordPort) (p : PortState)
    (tags lines : List ℕ) → busy ≡ true → Link s log x q c e busy w p tags lines
    → c ≤ (past (settings_of s) x q).answer
link_late s log x q c e busy w p tags lines z (idle b g i h done) = let no_ : true ≡ false = sym z ∙ b in cc
link_late s log x q c e busy w p tags lines z (pending y t a work) =
    omega (
      arith,
      ap (λ v. v.answer) a.left,
      work_late s log x.switches x.fences y t (last_of x q) c e w p tags lines work,
    )

-- and one that isn't has answered
pub link_done : (s : Setup) (log : List Write) (x : Stream) (q c e : ℕ) (busy : Bool) (w : WordPort) (p : PortState)
    (tags lines : List ℕ) → busy ≡ false → 0 < c → Link s log x q c e busy w p tags lines
    → (past (settings_of s) x q).answer < c
link_done s log x q c e busy w p tags lines z some (idle b g i h done) = done some
link_done s log x q c e busy w p tags lines z some (pending y t a work) =
    let no_ : true ≡ false = sym a.is_busy ∙ z in cc

-- ---- the words in the buffer and after them

-- the last word's answer is that of the past
past_at : (k : Settings) (x : Stream) (q j : ℕ) → q ≡ suc j → (past k x q).answer ≡ answer k x j
past_at k x q j e = ap (λ v. (past k x v).answer) e

-- without an outstanding request all words have answered
rest_there : (s : Setup) (log : List Write) (x : Stream) (half q c : ℕ) (enable : Bool) (f : Prefetch) (w : WordPort)
    (p : PortState) (tags lines : List ℕ) → WordsAt s log x half q c enable f w p tags lines → f.f_busy ≡ false → 0 < q
    → (past (settings_of s) x q).answer < c
rest_there s log x half q c enable f w p tags lines v b some = by (cases_eq c 0)
  where
    by : (c ≡ 0) ⊎ (c ≡ 0 → ⊥) → (past (settings_of s) x q).answer < c
    by (inl e) = absurd (omega (arith, v.requested.before (q - 1) (omega arith)))
    by (inr ne) = link_done s log x q c c f.f_busy w p tags lines b (omega arith) v.link

-- words in the buffer have answered, and words after them haven't
pub there : (s : Setup) (log : List Write) (x : Stream) (half q c i : ℕ) (enable : Bool) (f : Prefetch) (w : WordPort)
    (p : PortState) (tags lines : List ℕ) → WordsAt s log x half q c enable f w p tags lines
    → Count q (length x.enters) f.f_busy f.f_drop f.buf_count → i < f.buf_count
    → answer (settings_of s) x (length x.enters + i) < c
there s log x half q c i enable f w p tags lines v (rest b d n) h =
    omega (
      arith,
      rest_there s log x half q c enable f w p tags lines v b (omega arith),
      past_at (settings_of s) x q (q - 1) (omega arith),
      answer_mono (settings_of s) x (length x.enters + i) (q - 1) (omega arith),
    )
there s log x half q c i enable f w p tags lines v (coming b d n) h =
    let at : q - 1 ≡ suc (q - 2) = omega arith in
    omega (
      arith,
      v.requested.before (q - 1) (omega arith),
      ap (issue (settings_of s) x) at,
      next_issue (settings_of s) x (q - 2),
      answer_mono (settings_of s) x (length x.enters + i) (q - 2) (omega arith),
    )
there s log x half q c i enable f w p tags lines v (dropped b d z nothing none) h = absurd (omega arith)

-- a word behind those in the buffer hasn't answered before this cycle
pub not_there : (s : Setup) (log : List Write) (x : Stream) (half q c i : ℕ) (enable : Bool) (f : Prefetch)
    (w : WordPort) (p : PortState) (tags lines : List ℕ) → WordsAt s log x half q c enable f w p tags lines
    → Count q (length x.enters) f.f_busy f.f_drop f.buf_count → f.buf_count ≤ i → i < 3
    → c ≤ answer (settings_of s) x (length x.enters + i)
not_there s log x half q c i enable f w p tags lines v (rest b d n) h small =
    omega (
      arith,
      v.requested.after (omega arith),
      after_issue (settings_of s) x q,
      answer_mono (settings_of s) x q (length x.enters + i) (omega arith),
    )
not_there s log x half q c i enable f w p tags lines v (coming b d n) h small =
    let wait : c ≤ (past (settings_of s) x q).answer = link_late s log x q c c f.f_busy w p tags lines b v.link in
    omega (
      arith,
      wait,
      past_at (settings_of s) x q (q - 1) (omega arith),
      answer_mono (settings_of s) x (q - 1) (length x.enters + i) (omega arith),
    )
not_there s log x half q c i enable f w p tags lines v (dropped b d z nothing none) h small =
    omega (
      arith,
      v.requested.after (omega arith),
      after_issue (settings_of s) x q,
      answer_mono (settings_of s) x q (length x.enters + i) (omega arith),
    )
