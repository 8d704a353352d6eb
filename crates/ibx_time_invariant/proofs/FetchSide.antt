-- The phases of a cycle on the fetch side. Each statement is over the fields of the buffer, the word port, its port of
-- the bus and the cache, and over what the other side decides: a FENCE.I, a redirect, the bit that enables the cache,
-- and parcels taken.
use Rattle.std.proofs.Common.{◌≡◌, ℕ, ◌+◌, ◌/◌, ◌%◌, ◌^◌, ◌<◌, ◌≤◌, Bool, true, false, not, ◌&&◌, List, nat_le}
use Rattle.std.proofs.Common.{Some, Option}
use Rattle.ibx_time.specs.Times.{marked as marked_by, Times, entered, has_answered}
use Rattle.ibx_icache.specs.WordPort.{after_answer as port_answered, WordIn, answer_of, begun_by, filling_of, looked}
use Rattle.ibx_icache.specs.WordPort.{walked}
use Rattle.ibx_icache.specs.Doing.{doing_of, granted_by, is_rest, state_of, wires_by}
use Rattle.ibx_icache.specs.declared.port.WordPort.{WordPort}
use Rattle.ibx_prefetch.specs.Buffer.{request_of, requested, entry_of, head_of, received, took, turned}
use Rattle.ibx_prefetch.specs.declared.buffer.WordAns.{WordAns}
use Rattle.ibx_prefetch.specs.declared.buffer.Prefetch.{Prefetch}
use Rattle.ibx_time_invariant.proofs.Fetches.{HeadIs}
use Rattle.ibx_time_invariant.proofs.Words.{AfterAnswer, AfterIssue, WordsAt, WordsMid}
use Rattle.ibx_time_invariant.proofs.Ties.{Grows, IsPlaced}
use Rattle.ibx_bus.specs.Memory.{MemoryState}
use Rattle.ibx_bus.specs.Port.{PortState, answer_wires, grants, port_next}
use Rattle.ibx_time.specs.Settings.{Setup, settings_of}
use Rattle.ibx_time.specs.Controls.{Ctl, enables_cache}
use Rattle.ibx_time.specs.Streams.{Stream, issue, past, redirected}
use Rattle.ibx_time.specs.Memories.{Write, memory_at}
use Rattle.ibx_time.specs.BusLines.{wires_at}
use Rattle.ibx_time_machine.specs.Words.{put_lines, put_tags}
use Rattle.ibx_arch.specs.Memory.{image_memory}
use Rattle.ibx_isa.specs.declared.bus.Req.{Req}
use Rattle.ibx_memory.specs.Coded.{HoldsMemory}
use Rattle.ibx_time_machine.specs.Words.{look_at}
use Rattle.ibx_core.specs.Core.{is_flipped}

-- ---- what the word port sees

-- what the word port is handed in a cycle
abbrev pub seen_by : Option ℕ → Bool → Bool → WordPort → PortState → List ℕ → List ℕ → WordIn
seen_by request enable fence w p tags lines =
    record {
      request = request;
      enable = enable;
      fence = fence;
      rsp = answer_wires p;
      look = look_at tags lines (looked w);
    }

-- the answer that it gives
abbrev pub ans_of : WordPort → PortState → List ℕ → List ℕ → WordAns
ans_of w p tags lines = answer_of w (answer_wires p) (look_at tags lines (looked w))

-- the buffer with that answer
abbrev pub receives : WordAns → Prefetch → Prefetch
receives ans f = received ans.valid f.f_drop (entry_of ans.err ans.word) f

-- the word port after the issue, its wires, and it after the grant
abbrev pub issued : Bool → Bool → ℕ → Option ℕ → WordPort → WordPort
issued enable fence walk request w =
    begun_by (is_rest (doing_of w.c_state)) (enable && nat_le 256 walk && not fence) request w

-- the wires by what the port does
abbrev pub wires_in : WordPort → Req
wires_in w = wires_by (doing_of w.c_state) w.c_addr

-- the port after its grant, and the walk after this cycle
abbrev pub granted_port : Bool → Bool → ℕ → WordPort → WordPort
granted_port granted fence walk w =
    record w { c_state = state_of (granted_by granted (doing_of w.c_state)); c_walk = walked fence walk }

-- ---- the done

-- a cycle without an event
abbrev pub FetchRests : Setup → Type 0
FetchRests s =
    (log : List Write) (x : Stream) (half q c : ℕ) (enable : Bool) (f : Prefetch) (w : WordPort) (p : PortState)
    (tags lines : List ℕ)
    → WordsAt s log x half q c enable f w p tags lines
    → WordsMid s log x half q c false enable enable f w p tags lines

-- An event, whose FENCE.I and switch are marked in the stream. A FENCE.I comes where a word of the stream is
-- requested.
abbrev pub FetchMarks : Setup → Type 0
FetchMarks s =
    (log : List Write) (x : Stream) (half q c : ℕ) (enable fences : Bool) (ctl : Ctl) (f : Prefetch) (w : WordPort)
    (p : PortState) (tags lines : List ℕ)
    → WordsAt s log x half q c enable f w p tags lines
    → (fences ≡ true → 0 < q)
    → WordsMid s log (marked_by fences ctl c x) half q c fences enable (enables_cache ctl) f w p tags lines

-- a redirect, to an even address
abbrev pub FetchTurns : Setup → Type 0
FetchTurns s =
    (log : List Write) (x : Stream) (half q c target : ℕ) (fence enable next : Bool) (f : Prefetch) (w : WordPort)
    (p : PortState) (tags lines : List ℕ)
    → WordsMid s log x half q c fence enable next f w p tags lines
    → target % 2 ≡ 0 → target < 2 ^ 32
    → WordsMid s log (redirected (settings_of s) x c target) (target / 2 % 2) 0 c fence enable next
    (turned (Some target) f) w p tags lines

-- ---- the answer, the issue, the ports

-- the answer of a cycle leaves the words as after it
abbrev pub FetchAnswers : Setup → Type 0
FetchAnswers s =
    (log : List Write) (x : Stream) (half q c : ℕ) (fence enable next : Bool) (request : Option ℕ) (f : Prefetch)
    (w : WordPort) (p : PortState) (tags lines : List ℕ)
    → IsPlaced s
    → WordsMid s log x half q c fence enable next f w p tags lines
    → AfterAnswer s log x half q c w.c_walk fence enable next (receives (ans_of w p tags lines) f)
    (port_answered w (seen_by request enable fence w p tags lines)) p
    (put_tags (filling_of w (seen_by request enable fence w p tags lines)) tags)
    (put_lines (filling_of w (seen_by request enable fence w p tags lines)) lines)

-- and so does the request
abbrev pub FetchIssues : Setup → Type 0
FetchIssues s =
    (log : List Write) (x : Stream) (half q c walk : ℕ) (fence enable next : Bool) (f : Prefetch) (w : WordPort)
    (p : PortState) (tags lines : List ℕ)
    → AfterAnswer s log x half q c walk fence enable next f w p tags lines
    → (i : ℕ) × AfterIssue s log x half i c walk fence enable next (requested (request_of f) f)
    (issued enable fence walk (request_of f) w) p tags lines

-- the grant reads memory as it was before the cycle
abbrev pub FetchPorts : Setup → Type 0
FetchPorts s =
    (log : List Write) (x : Stream) (half q c walk : ℕ) (fence enable next : Bool) (f : Prefetch) (w : WordPort)
    (p : PortState) (tags lines : List ℕ) (m : MemoryState)
    → IsPlaced s
    → HoldsMemory s.image.ram m (memory_at (image_memory s.image) log c)
    → AfterIssue s log x half q c walk fence enable next f w p tags lines
    → WordsAt s log x half q (c + 1) next f (granted_port (grants (wires_in w).valid p) fence walk w)
    (port_next p m (wires_in w)) tags lines

-- the wires of the cycle
abbrev pub FetchWires : Setup → Type 0
FetchWires s =
    (log : List Write) (x : Stream) (half q c walk : ℕ) (fence enable next : Bool) (f : Prefetch) (w : WordPort)
    (p : PortState) (tags lines : List ℕ)
    → AfterIssue s log x half q c walk fence enable next f w p tags lines
    → wires_in w ≡ wires_at (past (settings_of s) x q).sent c

-- ---- the admission of cycle c

-- the two parcels that it sees
abbrev pub FetchShows : Setup → Type 0
FetchShows s =
    (log : List Write) (x : Stream) (half q c : ℕ) (enable : Bool) (f : Prefetch) (w : WordPort) (p : PortState)
    (tags lines : List ℕ)
    → IsPlaced s
    → WordsAt s log x half q (c + 1) enable f w p tags lines
    → HeadIs s log x half c (head_of f)

-- It takes so many parcels, which have answered, and writes to come change nothing.
pub record Takes (s : Setup) (new : List Write) (x : Stream) (half n q c : ℕ) (enable : Bool) (f : Prefetch)
    (w : WordPort) (p : PortState) (tags lines : List ℕ) : Type 0 where
  pub words : WordsAt s new (record x { enters = entered half n (c + 1) x.enters }) ((half + n) % 2) q (c + 1) enable
      (took n f) w p tags lines
  pub begun : 0 < n → issue (settings_of s) (record x { enters = entered half n (c + 1) x.enters }) 0 < c + 1

-- an item takes parcels that have answered, and leaves the words of the story with it
abbrev pub FetchTakes : Setup → Type 0
FetchTakes s =
    (log new : List Write) (y : Times) (n q c : ℕ) (enable : Bool) (f : Prefetch) (w : WordPort) (p : PortState)
    (tags lines : List ℕ)
    → WordsAt s log y.stream y.half q (c + 1) enable f w p tags lines
    → Grows log new (c + 1)
    → n ≤ 2
    → (0 < n → has_answered (settings_of s) y n c ≡ true)
    → Takes s new y.stream y.half n q c enable f w p tags lines

-- ---- no alert

-- what the port answers has no flipped bit
abbrev pub FetchQuiet : Setup → Type 0
FetchQuiet s =
    (log : List Write) (x : Stream) (half q c : ℕ) (enable : Bool) (f : Prefetch) (w : WordPort) (p : PortState)
    (tags lines : List ℕ)
    → IsPlaced s
    → WordsAt s log x half q c enable f w p tags lines
    → is_flipped (answer_wires p) ≡ false
