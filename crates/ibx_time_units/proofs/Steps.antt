-- A cycle of both units, each with what the time equations say of the other.
use Rattle.std.proofs.Common.{◌≡◌, ℕ, ◌+◌, ◌<◌, ◌≤◌, Bool, true, false, List, []}
use Rattle.std.proofs.Common.{length, Some, None, Option, refl, sym, ◌∙◌, subst}
use Rattle.ibx_bus.specs.Memory.{MemoryState}
use Rattle.ibx_bus.specs.Port.{PortState, grants, port_next}
use Rattle.ibx_time_fetch.proofs.Answers.{fetch_answers}
use Rattle.ibx_time_fetch.proofs.Ports.{fetch_ports}
use Rattle.ibx_time_fetch.proofs.Shows.{fetch_shows}
use Rattle.ibx_time_fetch.proofs.ShowsWords.{link_late}
use Rattle.ibx_time_fetch.proofs.Takes.{fetch_takes}
use Rattle.ibx_icache.specs.WordPort.{after_answer as port_answered, filling_of}
use Rattle.ibx_icache.specs.declared.port.WordPort.{WordPort}
use Rattle.ibx_time_invariant.proofs.FetchSide.{ans_of, granted_port, issued, receives, seen_by, wires_in}
use Rattle.ibx_time_invariant.proofs.FetchWiring.{fetch_wired}
use Rattle.ibx_time_invariant.proofs.Fetches.{FetchAt, HeadIs}
use Rattle.ibx_time_invariant.proofs.Issues.{fetch_issues}
use Rattle.ibx_time_invariant.proofs.Marks.{fetch_marks}
use Rattle.ibx_time_invariant.proofs.Pieces.{head_same}
use Rattle.ibx_time_invariant.proofs.Ties.{IsPlaced}
use Rattle.ibx_time_invariant.proofs.Turns.{fetch_rests, fetch_turns}
use Rattle.ibx_time_invariant.proofs.Words.{AfterAnswer, AfterIssue, WordsAt, WordsMid}
use Rattle.ibx_time_machine.specs.Words.{put_lines, put_tags}
use Rattle.ibx_memory.specs.Coded.{HoldsMemory}
use Rattle.ibx_arch.specs.Memory.{image_memory}
use Rattle.ibx_prefetch.specs.Buffer.{entry_of, head_of, received, request_of, requested, took, turned}
use Rattle.ibx_prefetch.specs.declared.buffer.Prefetch.{Prefetch}
use Rattle.ibx_time.proofs.Times.{IsRequested}
use Rattle.ibx_time.specs.BusLines.{wires_at}
use Rattle.ibx_time.specs.Controls.{enables_cache}
use Rattle.ibx_time.specs.Memories.{Write, memory_at}
use Rattle.ibx_time.specs.Settings.{Setup, settings_of}
use Rattle.ibx_time.specs.Streams.{Stream, past, redirected_to}
use Rattle.ibx_time.specs.Times.{Times, half_after, has_answered}
use Rattle.ibx_time_units.specs.Courses.{IsTarget, Left, is_fence, left_by, taken_by, turned_by}
use Rattle.ibx_time_units.specs.Words.{answer_by, request_by}
use Rattle.ibx_time_units.proofs.Answers.{answer_is}
use Rattle.ibx_time_invariant.proofs.Issues.{request_busy}
use Rattle.ibx_time_units.proofs.Requests.{counted, request_is}

-- ---- the event and the redirect

-- in a cycle after its event
left_mid : (s : Setup) (log : List Write) (y : Times) (q c : ℕ) (o : Option Left) (f : Prefetch) (w : WordPort)
    (p : PortState) (tags lines : List ℕ)
    → WordsAt s log y.stream y.half q c (enables_cache y.ctl) f w p tags lines → (is_fence o ≡ true → 0 < q)
    → WordsMid s log (left_by o c y).stream y.half q c (is_fence o) (enables_cache y.ctl)
    (enables_cache (left_by o c y).ctl) f w p tags lines
left_mid s log y q c None f w p tags lines v begun =
    fetch_rests s log y.stream y.half q c (enables_cache y.ctl) f w p tags lines v
left_mid s log y q c (Some e) f w p tags lines v begun =
    fetch_marks s log y.stream y.half q c (enables_cache y.ctl) e.fences e.ctl f w p tags lines v begun

-- and after its redirect, with no word of the new stream requested
turned_mid : (s : Setup) (log : List Write) (x : Stream) (half q c : ℕ) (fence enable next : Bool) (o : Option ℕ)
    (f : Prefetch) (w : WordPort) (p : PortState) (tags lines : List ℕ)
    → WordsMid s log x half q c fence enable next f w p tags lines → ((t : ℕ) → o ≡ Some t → IsTarget t)
    → (n : ℕ) × WordsMid s log (redirected_to (settings_of s) x c o) (half_after o half) n c fence enable next
    (turned o f) w p tags lines
unfolding turned
turned_mid s log x half q c fence enable next None f w p tags lines v target = (q, v)
turned_mid s log x half q c fence enable next (Some t) f w p tags lines v target =
    (0, fetch_turns s log x half q c t fence enable next f w p tags lines v (target t refl).even (target t refl).low)

-- ---- the rest of a cycle

-- the word port after a request and its grant, the port of the bus, and the words of the cache
abbrev pub issued_with : Bool → Bool → Option ℕ → WordPort → PortState → List ℕ → List ℕ → WordPort
issued_with enable fence o w p tags lines =
    issued enable fence w.c_walk o (port_answered w (seen_by o enable fence w p tags lines))

-- the word port after the grant
abbrev pub words_with : Bool → Bool → Option ℕ → WordPort → PortState → List ℕ → List ℕ → WordPort
words_with enable fence o w p tags lines =
    granted_port (grants (wires_in (issued_with enable fence o w p tags lines)).valid p) fence w.c_walk
    (issued_with enable fence o w p tags lines)

-- what a cycle leaves, with this buffer after the answer and this request, before parcels are taken
abbrev pub Leaves : Setup → List Write → Stream → ℕ → ℕ → ℕ → Bool → Bool → Bool → WordPort → PortState → List ℕ
    → List ℕ → MemoryState → Prefetch → Option ℕ → Type 0
Leaves s log x half i c fence enable next w p tags lines m g o =
    WordsAt s log x half i (c + 1) next (requested (request_of g) g) (words_with enable fence o w p tags lines)
    (port_next p m (wires_in (issued_with enable fence o w p tags lines)))
    (put_tags (filling_of w (seen_by o enable fence w p tags lines)) tags)
    (put_lines (filling_of w (seen_by o enable fence w p tags lines)) lines)

-- what is due in it, and what it leaves
pub record Cycled (s : Setup) (log : List Write) (x : Stream) (half q c : ℕ) (fence enable next : Bool) (f : Prefetch)
    (w : WordPort) (p : PortState) (tags lines : List ℕ) (m : MemoryState) : Type 0 where
  pub count : ℕ
  pub asked : IsRequested (settings_of s) x (c + 1) count
  pub request : request_of (receives (ans_of w p tags lines) f) ≡ request_by (settings_of s) x q c
  pub answer : ans_of w p tags lines ≡ answer_by s log x q c
  pub head : HeadIs s log x half c (head_of (receives (ans_of w p tags lines) f))
  pub wires : wires_in (issued_with enable fence (request_by (settings_of s) x q c) w p tags lines)
      ≡ wires_at (past (settings_of s) x count).sent c
  pub words : Leaves s log x half count c fence enable next w p tags lines m (receives (ans_of w p tags lines) f)
      (request_by (settings_of s) x q c)

-- a word stays outstanding where none comes, and where one is requested
silent_busy : (b drop : Bool) (entry : ℕ) (f : Prefetch) → b ≡ false → (received b drop entry f).f_busy ≡ f.f_busy
unfolding received
silent_busy true drop entry f e = let no_ : true ≡ false = e in cc
silent_busy false drop entry f e = refl

-- a buffer that waits for a word still waits, whether it requests one or not
requested_busy : (o : Option ℕ) (f : Prefetch) → f.f_busy ≡ true → (requested o f).f_busy ≡ true
unfolding requested
requested_busy None f e = e
requested_busy (Some addr) f e = refl

-- nothing requested leaves the count
same_count : (s : Setup) (log : List Write) (x : Stream) (half q i : ℕ) (f : Prefetch) (o : Option ℕ) → o ≡ None
    → FetchAt s log x half q f → FetchAt s log x half i (requested o f) → i ≡ q
unfolding requested
same_count s log x half q i f None e u v =
    sym (counted i (length x.enters) f.buf_count f.f_busy f.f_drop v.count)
    ∙ counted q (length x.enters) f.buf_count f.f_busy f.f_drop u.count
same_count s log x half q i f (Some addr) e u v = let no_ : Some addr ≡ None = e in cc

-- so an outstanding word that doesn't come in this cycle answers later
late_by : (s : Setup) (log : List Write) (x : Stream) (half q i c : ℕ) (enable : Bool) (f g : Prefetch) (w : WordPort)
    (p : PortState) (tags lines : List ℕ) → f.f_busy ≡ true → FetchAt s log x half q f
    → WordsAt s log x half i (c + 1) enable (requested (request_of f) f) w p tags lines
    → c + 1 ≤ (past (settings_of s) x q).answer
late_by s log x half q i c enable f g w p tags lines busy u v =
    subst (λ n. c + 1 ≤ (past (settings_of s) x n).answer)
    (same_count s log x half q i f (request_of f) (request_busy f busy) u v.fetch)
    (link_late s log x i (c + 1) (c + 1) (requested (request_of f) f).f_busy w p tags lines
    (requested_busy (request_of f) f busy) v.link)

-- the phases one after another
pub cycled : (s : Setup) (log : List Write) (x : Stream) (half q c : ℕ) (fence enable next : Bool) (f : Prefetch)
    (w : WordPort) (p : PortState) (tags lines : List ℕ) (m : MemoryState) → IsPlaced s
    → HoldsMemory s.image.ram m (memory_at (image_memory s.image) log c)
    → WordsMid s log x half q c fence enable next f w p tags lines
    → Cycled s log x half q c fence enable next f w p tags lines m
cycled s log x half q c fence enable next f w p tags lines m ok ram mid =
    let g : Prefetch = receives (ans_of w p tags lines) f in
    let o : Option ℕ = request_of g in
    let t1 : List ℕ = put_tags (filling_of w (seen_by o enable fence w p tags lines)) tags in
    let l1 : List ℕ = put_lines (filling_of w (seen_by o enable fence w p tags lines)) lines in
    let w1 : WordPort = port_answered w (seen_by o enable fence w p tags lines) in
    let w2 : WordPort = issued_with enable fence o w p tags lines in
    let a1 : AfterAnswer s log x half q c w.c_walk fence enable next g w1 p t1 l1 =
    fetch_answers s log x half q c fence enable next o f w p tags lines ok mid in
    let a2 : (i : ℕ) × AfterIssue s log x half i c w.c_walk fence enable next (requested o g) w2 p t1 l1 =
    fetch_issues s log x half q c w.c_walk fence enable next g w1 p t1 l1 a1 in
    let a3 : Leaves s log x half a2.0 c fence enable next w p tags lines m g o =
    fetch_ports s log x half a2.0 c w.c_walk fence enable next (requested o g) w2 p t1 l1 m ok ram a2.1 in
    let due : o ≡ request_by (settings_of s) x q c =
    request_is s log x half q a2.0 c w.c_walk fence enable next g w1 w2 p t1 l1 a1 a2.1 in
    record {
      count = a2.0;
      asked = a2.1.requested;
      request = due;
      answer = answer_is s log x half q c fence enable next f w p tags lines ok mid mid.link
          (λ silent busy. late_by s log x half q a2.0 c next g g (words_with enable fence o w p tags lines)
          (port_next p m (wires_in w2)) t1 l1
          (silent_busy (ans_of w p tags lines).valid f.f_drop
          (entry_of (ans_of w p tags lines).err (ans_of w p tags lines).word) f silent ∙ busy) a1.fetch a3);
      head = subst (HeadIs s log x half c) (head_same o g)
          (fetch_shows s log x half a2.0 c next (requested o g) (words_with enable fence o w p tags lines)
          (port_next p m (wires_in w2)) t1 l1 ok a3);
      wires = subst (λ r. wires_in (issued_with enable fence r w p tags lines)
          ≡ wires_at (past (settings_of s) x a2.0).sent c) due
          (fetch_wired s log x half a2.0 c w.c_walk fence enable next (requested o g) w2 p t1 l1 a2.1);
      words = subst (Leaves s log x half a2.0 c fence enable next w p tags lines m g) due a3;
    }

-- ---- from one cycle to the next

-- a cycle after its event and its redirect
pub record Middle (s : Setup) (log : List Write) (y z : Times) (c : ℕ) (fence : Bool) (o : Option ℕ) (f : Prefetch)
    (w : WordPort) (p : PortState) (tags lines : List ℕ) : Type 0 where
  pub count : ℕ
  pub mid : WordsMid s log z.stream z.half count c fence (enables_cache y.ctl) (enables_cache z.ctl) (turned o f) w p
      tags lines

-- from the words before a cycle to those after its event and its redirect
pub middle : (s : Setup) (log : List Write) (y : Times) (q c : ℕ) (l : Option Left) (o : Option ℕ) (f : Prefetch)
    (w : WordPort) (p : PortState) (tags lines : List ℕ)
    → WordsAt s log y.stream y.half q c (enables_cache y.ctl) f w p tags lines → (is_fence l ≡ true → 0 < q)
    → ((t : ℕ) → o ≡ Some t → IsTarget t)
    → Middle s log y (turned_by (settings_of s) o c (left_by l c y)) c (is_fence l) o f w p tags lines
middle s log y q c l o f w p tags lines v begun target =
    let r = turned_mid s log (left_by l c y).stream (left_by l c y).half q c (is_fence l) (enables_cache y.ctl)
    (enables_cache (left_by l c y).ctl) o f w p tags lines (halved l (left_mid s log y q c l f w p tags lines v begun))
    target in
    record { count = r.0; mid = r.1 }
  where
    halved : (l : Option Left) → WordsMid s log (left_by l c y).stream y.half q c (is_fence l) (enables_cache y.ctl)
        (enables_cache (left_by l c y).ctl) f w p tags lines
        → WordsMid s log (left_by l c y).stream (left_by l c y).half q c (is_fence l) (enables_cache y.ctl)
        (enables_cache (left_by l c y).ctl) f w p tags lines
    halved None m = m
    halved (Some e) m = m

-- the parcels that are taken, with the buffer after them
pub taken_words : (s : Setup) (log : List Write) (y : Times) (n q c : ℕ) (enable : Bool) (f : Prefetch) (w : WordPort)
    (p : PortState) (tags lines : List ℕ) → WordsAt s log y.stream y.half q (c + 1) enable f w p tags lines → n ≤ 2
    → (0 < n → has_answered (settings_of s) y n c ≡ true)
    → WordsAt s log (taken_by n c y).stream (taken_by n c y).half q (c + 1) enable (took n f) w p tags lines
taken_words s log y n q c enable f w p tags lines v few there =
    (fetch_takes s log log y n q c enable f w p tags lines v (record { front = []; joined = refl; late = tt }) few
    there).words
