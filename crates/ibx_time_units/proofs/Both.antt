-- Both units keep the times, each by itself.
use Rattle.std.proofs.Common.{◌≡◌, ℕ, zero, suc, ◌+◌, ◌%◌, ◌^◌, ◌<◌, Bool, List, [], ◌∷◌, ◌++◌}
use Rattle.std.proofs.Common.{length}
use Rattle.std.proofs.Common.{Option, refl, sym, ap, ◌∙◌, arith, subst}
use Rattle.ibx_bus.specs.Port.{PortState}
use Rattle.ibx_bus.specs.Memory.{MemoryState}
use Rattle.ibx_time_fetch.proofs.TakesLogs.{words_logs}
use Rattle.ibx_time.proofs.Logs.{grows_same}
use Rattle.ibx_icache.specs.WordPort.{wires_of, word_port_next}
use Rattle.ibx_icache.specs.declared.port.WordPort.{WordPort}
use Rattle.ibx_time_invariant.proofs.FetchSide.{ans_of, receives, wires_in}
use Rattle.ibx_time_invariant.proofs.Fetches.{HeadIs, Shows}
use Rattle.ibx_time_invariant.proofs.Opens.{opens}
use Rattle.ibx_time_invariant.proofs.Receives.{received_as}
use Rattle.ibx_time_invariant.proofs.Ties.{AreLate, IsPlaced}
use Rattle.ibx_time_invariant.proofs.Words.{WordsAt}
use Rattle.ibx_time_machine.specs.System.{first_system}
use Rattle.ibx_csr.specs.Fields.{reset_of as csrs_reset}
use Rattle.ibx_csr.specs.Values.{csr_reset}
use Rattle.ibx_prefetch.specs.Buffer.{fetch_after_answer, head_of, prefetch_next, request_of, requested, turned}
use Rattle.ibx_prefetch.specs.declared.buffer.Parcel.{Parcel}
use Rattle.ibx_prefetch.specs.declared.buffer.Prefetch.{Prefetch}
use Rattle.ibx_prefetch.specs.declared.buffer.WordAns.{WordAns}
use Rattle.ibx_time.proofs.Times.{requested_is}
use Rattle.ibx_time.specs.BusLines.{wires_at}
use Rattle.ibx_time.specs.Controls.{enables_cache}
use Rattle.ibx_time.specs.Memories.{Write}
use Rattle.ibx_time.specs.Settings.{Setup, settings_of}
use Rattle.ibx_time.specs.Streams.{Stream, past, requested as asked_by}
use Rattle.ibx_time.specs.Times.{Times, first_times, next_pc}
use Rattle.ibx_time_units.specs.Buffer.{BufferKeepsTimes, IsBuffer, IsOffered, RequestsInTime, buffer_at, filled_at}
use Rattle.ibx_time_units.specs.Courses.{Course, HoldsWrites, IsCourse, IsMove, is_fence, stream_in, times_at, times_in}
use Rattle.ibx_time_units.specs.Port.{AnswersInTime, IsCache, PortKeepsTimes, Side, side_at, stored}
use Rattle.ibx_time_units.specs.Words.{answer_by, answer_in, request_by, request_in}
use Rattle.ibx_time_units.proofs.Coded.{coded_at, holds_coded}
use Rattle.ibx_time_units.proofs.Fields.{buffer_is}
use Rattle.ibx_time_units.proofs.Steps.{Cycled, Leaves, Middle, cycled, issued_with, middle, taken_words}
use Rattle.ibx_time_units.proofs.Stored.{cache_is}

-- ---- both units before a cycle

-- they hold the words of these times, of which so many are requested
record Both (s : Setup) (r : Course) (c : ℕ) (y : Times) (f : Prefetch) (v : Side) : Type 0 where
  count : ℕ
  words : WordsAt s r.writes y.stream y.half count c (enables_cache y.ctl) f v.words v.port v.tags v.lines

-- the same of the units as they are before cycle c
abbrev BothAt : Setup → Course → (ℕ → MemoryState) → ℕ → Type 0
BothAt s r memory c = Both s r c (times_at s r.moves c) (buffer_at s r c) (side_at s r memory c)

-- no write is before reset
all_late : (log : List Write) → AreLate log 0
all_late [] = tt
all_late (w ∷ log) = (omega arith, all_late log)

-- writes with none after them are the same writes
append_none : (log : List Write) → log ≡ log ++ []
append_none [] = refl
append_none (w ∷ log) = ap (λ ws. w ∷ ws) (append_none log)

-- so they are at reset
first_both : (s : Setup) (r : Course) (memory : ℕ → MemoryState) → IsPlaced s → BothAt s r memory 0
unfolding times_at buffer_at side_at first_system csrs_reset first_times csr_reset
first_both s r memory ok = record {
  count = 0;
  words = words_logs s [] r.writes (times_at s r.moves 0).stream (times_at s r.moves 0).half 0 0
      (enables_cache (times_at s r.moves 0).ctl) (buffer_at s r 0) (side_at s r memory 0).words
      (side_at s r memory 0).port
      (side_at s r memory 0).tags (side_at s r memory 0).lines (opens s ok 0).words
      (grows_same s [] r.writes 0
      (record { front = r.writes; joined = append_none r.writes; late = all_late r.writes }));
}

-- ---- a cycle

-- what is due by the count of words is what is due
due_answer : (s : Setup) (log : List Write) (x : Stream) (q c : ℕ) → asked_by (settings_of s) x c ≡ q
    → answer_in s log x c ≡ answer_by s log x q c
due_answer s log x q c e = ap (λ n. answer_by s log x n c) e

-- the request of a cycle by that count is what is requested in it
due_request : (s : Setup) (x : Stream) (q c : ℕ) → asked_by (settings_of s) x c ≡ q
    → request_in (settings_of s) x c ≡ request_by (settings_of s) x q c
due_request s x q c e = ap (λ n. request_by (settings_of s) x n c) e

-- a parcel that is shown is offered
offered : (s : Setup) (log : List Write) (x : Stream) (j addr c : ℕ) (p : Parcel) → Shows s log x j addr c p
    → IsOffered s log x j addr c p
offered s log x j addr c p u = record { ready = u.ready; err = u.err; half = u.half }

-- what a cycle comes to, and both units after it
record Stepped (s : Setup) (r : Course) (memory : ℕ → MemoryState) (c : ℕ) : Type 0 where
  keeps : RequestsInTime s r c
  answers : AnswersInTime s r memory c
  next : BothAt s r memory (suc c)

-- what is requested and offered, by the buffer after the answer
kept_by : (s : Setup) (r : Course) (c q : ℕ) (g : Prefetch) (w : WordPort) (p : PortState) (tags lines : List ℕ)
    → filled_at s r c ≡ g → asked_by (settings_of s) (stream_in s r.moves c) c ≡ q
    → request_of g ≡ request_by (settings_of s) (stream_in s r.moves c) q c
    → HeadIs s r.writes (stream_in s r.moves c) (times_in s r.moves c).half c (head_of g)
    → IsBuffer s r.writes (times_at s r.moves c) (asked_by (settings_of s) (times_at s r.moves c).stream c) c
    (buffer_at s r c)
    → RequestsInTime s r c
kept_by s r c q g w p tags lines same count request head fields =
    let x : Stream = stream_in s r.moves c in
    let shown : HeadIs s r.writes x (times_in s r.moves c).half c (head_of (filled_at s r c)) =
    subst (λ (f : Prefetch). HeadIs s r.writes x (times_in s r.moves c).half c (head_of f)) (sym same) head in
    record {
      requests = ap request_of same ∙ request ∙ sym (due_request s x q c count);
      first = offered s r.writes x (length x.enters) (next_pc (times_in s r.moves c)) c
          (head_of (filled_at s r c)).first shown.first;
      second = offered s r.writes x (length x.enters + (times_in s r.moves c).half)
          ((next_pc (times_in s r.moves c) + 2) % 2 ^ 32) c (head_of (filled_at s r c)).second shown.second;
      fields = fields;
    }

-- the buffer and the side of the next cycle
next_both : (s : Setup) (r : Course) (memory : ℕ → MemoryState) (c i : ℕ) (g : Prefetch) → filled_at s r c ≡ g
    → IsMove s (times_at s r.moves c) c (r.moves c)
    → Leaves s r.writes (stream_in s r.moves c) (times_in s r.moves c).half i c (is_fence (r.moves c).left)
    (enables_cache (times_at s r.moves c).ctl) (enables_cache (times_in s r.moves c).ctl) (side_at s r memory c).words
    (side_at s r memory c).port (side_at s r memory c).tags (side_at s r memory c).lines (memory c) g
    (request_in (settings_of s) (stream_in s r.moves c) c)
    → BothAt s r memory (suc c)
unfolding times_at buffer_at side_at prefetch_next word_port_next wires_of
next_both s r memory c i g same move left = record {
  count = i;
  words = subst (λ d. WordsAt s r.writes (times_at s r.moves (suc c)).stream (times_at s r.moves (suc c)).half i d
      (enables_cache (times_at s r.moves (suc c)).ctl) (buffer_at s r (suc c)) (side_at s r memory (suc c)).words
      (side_at s r memory (suc c)).port (side_at s r memory (suc c)).tags (side_at s r memory (suc c)).lines)
      (next_is c)
      (taken_words s r.writes (times_in s r.moves c) (r.moves c).taken i c (enables_cache (times_in s r.moves c).ctl)
      (requested (request_of (filled_at s r c)) (filled_at s r c)) (side_at s r memory (suc c)).words
      (side_at s r memory (suc c)).port (side_at s r memory (suc c)).tags (side_at s r memory (suc c)).lines
      (subst (λ (f : Prefetch). Leaves s r.writes (stream_in s r.moves c) (times_in s r.moves c).half i c
      (is_fence (r.moves c).left) (enables_cache (times_at s r.moves c).ctl) (enables_cache (times_in s r.moves c).ctl)
      (side_at s r memory c).words (side_at s r memory c).port (side_at s r memory c).tags (side_at s r memory c).lines
      (memory c) f
      (request_in (settings_of s) (stream_in s r.moves c) c)) (sym same) left)
      move.few move.there);
}
  where
    next_is : (c : ℕ) → c + 1 ≡ suc c
    next_is c = omega arith

-- what a cycle comes to, by what is due in it
stepped : (s : Setup) (r : Course) (memory : ℕ → MemoryState) (c q : ℕ) → IsPlaced s → IsCourse s r
    → HoldsWrites s r memory
    → (b : BothAt s r memory c)
    → Middle s r.writes (times_at s r.moves c) (times_in s r.moves c) c (is_fence (r.moves c).left)
    (r.moves c).redirect (buffer_at s r c) (side_at s r memory c).words (side_at s r memory c).port
    (side_at s r memory c).tags
    (side_at s r memory c).lines
    → Stepped s r memory c
unfolding wires_of
stepped s r memory c q ok course holds b u =
    let k = settings_of s in
    let x : Stream = stream_in s r.moves c in
    let y : Times = times_at s r.moves c in
    let z : Times = times_in s r.moves c in
    let v : Side = side_at s r memory c in
    let f0 : Prefetch = turned (r.moves c).redirect (buffer_at s r c) in
    let fence : Bool = is_fence (r.moves c).left in
    let g : Prefetch = receives (ans_of v.words v.port v.tags v.lines) f0 in
    let count : asked_by k x c ≡ u.count = requested_is k x c u.count u.mid.requested in
    let before_ : asked_by k y.stream c ≡ b.count = requested_is k y.stream c b.count b.words.requested in
    let d : Cycled s r.writes x z.half u.count c fence (enables_cache y.ctl) (enables_cache z.ctl) f0 v.words v.port
    v.tags v.lines (memory c) =
    cycled s r.writes x z.half u.count c fence (enables_cache y.ctl) (enables_cache z.ctl) f0 v.words v.port v.tags
    v.lines (memory c) ok (holds c) u.mid in
    let ans : answer_in s r.writes x c ≡ ans_of v.words v.port v.tags v.lines =
    due_answer s r.writes x u.count c count ∙ sym d.answer in
    let same : filled_at s r c ≡ g =
    ap (λ (a : WordAns). fetch_after_answer a (r.moves c).redirect (buffer_at s r c)) ans
    ∙ received_as s r.writes x z.half u.count c fence (enables_cache y.ctl) (enables_cache z.ctl) (r.moves c).redirect
    (buffer_at s r c) v.words v.port v.tags v.lines u.mid in
    let request : request_in k x c ≡ request_by k x u.count c = due_request s x u.count c count in
    let after_ : asked_by k x (c + 1) ≡ d.count = requested_is k x (c + 1) d.count d.asked in
    record {
      keeps = kept_by s r c u.count g v.words v.port v.tags v.lines same count d.request d.head
          (subst (λ n. IsBuffer s r.writes y n c (buffer_at s r c)) (sym before_)
          (buffer_is s r.writes y b.count c (enables_cache y.ctl) (buffer_at s r c) v.words v.port v.tags v.lines
          b.words));
      answers = record {
        answers = sym ans;
        wires = wired s r memory c fence (request_in k x c) (request_by k x u.count c) request d.count after_ d.wires;
        cache = subst (λ n. IsCache s r.writes y.stream.fences (stored (past k y.stream n).fills c) c v.words v.tags
            v.lines) (sym before_)
            (cache_is s r.writes y.stream y.half b.count c (enables_cache y.ctl) (buffer_at s r c) v.words v.port
            v.tags v.lines b.words);
      };
      next = next_both s r memory c d.count g same (course c)
          (subst (Leaves s r.writes x z.half d.count c fence (enables_cache y.ctl) (enables_cache z.ctl) v.words v.port
          v.tags v.lines (memory c) g) (sym request) d.words);
    }
  where
    -- the wires by what is requested
    wired : (s : Setup) (r : Course) (memory : ℕ → MemoryState) (c : ℕ) (fence : Bool) (o u : Option ℕ) → o ≡ u →
        (i : ℕ)
        → asked_by (settings_of s) (stream_in s r.moves c) (c + 1) ≡ i
        → wires_in (issued_with (enables_cache (times_at s r.moves c).ctl) fence u (side_at s r memory c).words
        (side_at s r memory c).port (side_at s r memory c).tags (side_at s r memory c).lines)
        ≡ wires_at (past (settings_of s) (stream_in s r.moves c) i).sent c
        → wires_in (issued_with (enables_cache (times_at s r.moves c).ctl) fence o (side_at s r memory c).words
        (side_at s r memory c).port (side_at s r memory c).tags (side_at s r memory c).lines)
        ≡ wires_at (past (settings_of s) (stream_in s r.moves c)
        (asked_by (settings_of s) (stream_in s r.moves c) (c + 1))).sent c
    wired s r memory c fence o u e i n w =
        ap (λ v. wires_in (issued_with (enables_cache (times_at s r.moves c).ctl) fence v (side_at s r memory c).words
        (side_at s r memory c).port (side_at s r memory c).tags (side_at s r memory c).lines)) e ∙ w
        ∙ ap (λ v. wires_at (past (settings_of s) (stream_in s r.moves c) v).sent c) (sym n)

-- so each cycle goes, and both units are in it as they should be
step : (s : Setup) (r : Course) (memory : ℕ → MemoryState) (c : ℕ) → IsPlaced s → IsCourse s r
    → HoldsWrites s r memory → BothAt s r memory c → Stepped s r memory c
step s r memory c ok course holds b =
    let y : Times = times_at s r.moves c in
    let v : Side = side_at s r memory c in
    let before_ : asked_by (settings_of s) y.stream c ≡ b.count =
    requested_is (settings_of s) y.stream c b.count b.words.requested in
    stepped s r memory c b.count ok course holds b
    (middle s r.writes y b.count c (r.moves c).left (r.moves c).redirect (buffer_at s r c) v.words v.port
    v.tags v.lines
    b.words (λ e. subst (λ n. 0 < n) before_ ((course c).begun e)) (course c).target)

-- so both units hold the words of the course before every cycle
both_at : (s : Setup) (r : Course) (memory : ℕ → MemoryState) (c : ℕ) → IsPlaced s → IsCourse s r
    → HoldsWrites s r memory → BothAt s r memory c
both_at s r memory zero ok course holds = first_both s r memory ok
both_at s r memory (suc c) ok course holds =
    (step s r memory c ok course holds (both_at s r memory c ok course holds)).next

-- ---- the laws

-- the word port, with memory as it is in each cycle
pub answers_in_time : (s : Setup) → IsPlaced s → PortKeepsTimes s
answers_in_time s ok r memory c course holds =
    (step s r memory c ok course holds (both_at s r memory c ok course holds)).answers

-- the buffer, which sees no memory
pub keeps_times : (s : Setup) → IsPlaced s → BufferKeepsTimes s
keeps_times s ok r c course =
    let memory : ℕ → MemoryState = coded_at s r in
    let holds : HoldsWrites s r memory = holds_coded s r ok in
    (step s r memory c ok course holds (both_at s r memory c ok course holds)).keeps
