-- Writes to come change nothing of the words that were read.
use Rattle.std.proofs.Common.{◌≡◌, ℕ, suc, ◌+◌, ◌*◌, ◌<◌, ◌≤◌, Bool, List, [], ◌∷◌, length, refl}
use Rattle.std.proofs.Common.{sym, ap, ◌∙◌, arith, add-zero}
use Rattle.ibx_time_invariant.proofs.Caches.{CacheAt}
use Rattle.ibx_time_invariant.proofs.Fetches.{entry_in, is_unmapped, word_entry, word_in}
use Rattle.ibx_time_invariant.proofs.Links.{Link, Work, bare_asks, bare_waits, filled, first_asks, first_waits, idle, last}
use Rattle.ibx_time_invariant.proofs.Links.{line_base, looks, pending, second_asks, second_waits}
use Rattle.ibx_time.proofs.Logs.{IsSame}
use Rattle.ibx_time_invariant.proofs.Words.{WordsAt}
use Rattle.ibx_bus.specs.Port.{PortState}
use Rattle.ibx_bus.specs.PortTimes.{answer_time, grant_time}
use Rattle.ibx_bus.proofs.Ports.{Granted}
use Rattle.ibx_plan.specs.declared.site.Wait.{Wait}
use Rattle.ibx_secded.specs.Code.{encode_of}
use Rattle.ibx_prefetch.specs.declared.buffer.Prefetch.{Prefetch}
use Rattle.ibx_prefetch.specs.Buffer.{entry_of}
use Rattle.ibx_icache.specs.declared.port.WordPort.{WordPort}
use Rattle.ibx_time.specs.Memories.{Write}
use Rattle.ibx_time.specs.Requests.{Fill, Past, Switch, first_answer, first_grant, made, second_grant}
use Rattle.ibx_time.specs.Settings.{Setup, settings_of}
use Rattle.ibx_time.specs.Streams.{Stream, answer, last_of, past, word_addr}
use Rattle.ibx_time.proofs.Times.{grant_before}
use Rattle.ibx_time_fetch.proofs.PortsLogs.{IsStored, old_fill}
use Rattle.ibx_time_fetch.proofs.ShowsWords.{there}

-- the same of a word with its error
entry_same : (s : Setup) (log new : List Write) (d g a : ℕ) → IsSame s log new d → g ≤ d
    → entry_in s log g a ≡ entry_in s new g a
entry_same s log new d g a same h = ap (entry_of (is_unmapped s a)) (same g a h)

-- ---- the cache

-- so the cache holds the same words
cache_logs : (s : Setup) (log new : List Write) (fs : List ℕ) (fills : List Fill) (c d walk : ℕ) (alt : Bool)
    (tags lines : List ℕ) → IsSame s log new d → CacheAt s log fs fills c d walk alt tags lines
    → CacheAt s new fs fills c d walk alt tags lines
cache_logs s log new fs fills c d walk alt tags lines same h =
    record {
      tag_count = h.tag_count;
      line_count = h.line_count;
      tag_codes = h.tag_codes;
      line_codes = h.line_codes;
      tag = h.tag;
      word0 = λ n x low e. let g : IsStored s d n x = old_fill s fills d n x h.old h.mapped e in
          h.word0 n x low e ∙ ap (encode_of 32 7) (same x.grant0 (8 * x.line) (omega (arith, g.grant0, g.time)));
      word1 = λ n x low e. let g : IsStored s d n x = old_fill s fills d n x h.old h.mapped e in
          h.word1 n x low e ∙ ap (encode_of 32 7) (same x.grant1 (8 * x.line + 4) (omega (arith, g.grant1, g.time)));
      quiet = h.quiet;
      old = h.old;
      mapped = h.mapped;
      alt_is = h.alt_is;
    }

-- ---- the request

-- a transaction is granted at its issue or later
later_grant : (ws : List Wait) (n x : ℕ) → x ≤ grant_time ws n x
unfolding grant_time
later_grant ws n x = omega arith

-- so what it reads is the same, in each state of the request
reads_logs : (s : Setup) (log new : List Write) (ws : List Wait) (m x g a d : ℕ) (err : Bool) (p : PortState)
    → IsSame s log new d → g ≡ grant_time ws m x → Granted ws m x err (encode_of 32 7 (word_in s log g a)) d p
    → Granted ws m x err (encode_of 32 7 (word_in s new g a)) d p
reads_logs s log new ws m x g a d err p same at r =
    record {
      list = r.list;
      busy = r.busy;
      waited = r.waited;
      place = r.place;
      left = r.left;
      past = r.past;
      err_is = r.err_is;
      word_is = r.word_is ∙ ap (encode_of 32 7) (same g a (omega (arith, r.past)));
    }

-- so an outstanding request is at work in the log with the later writes too
work_logs : (s : Setup) (log new : List Write) (ss : List Switch) (fs : List ℕ) (y : Past) (t a d : ℕ) (w : WordPort)
    (p : PortState) (tags lines : List ℕ) → IsSame s log new d → Work s log ss fs y t a d d w p tags lines
    → Work s new ss fs y t a d d w p tags lines
unfolding answer_time
work_logs s log new ss fs y t a d w p tags lines same (bare_asks b g i h) =
    bare_asks b g i (cache_logs s log new fs y.fills d d w.c_walk w.c_alt tags lines same h)
work_logs s log new ss fs y t a d w p tags lines same (bare_waits b g i h) =
    bare_waits b g (reads_logs s log new s.plan.iwaits (made y) t (grant_time s.plan.iwaits (made y) t) a d
    (is_unmapped s a) p same refl i) (cache_logs s log new fs y.fills d d w.c_walk w.c_alt tags lines same h)
work_logs s log new ss fs y t a d w p tags lines same (looks b n g now i h) =
    looks b n g now i (cache_logs s log new fs y.fills d d w.c_walk w.c_alt tags lines same h)
work_logs s log new ss fs y t a d w p tags lines same (first_asks b m g i h) =
    first_asks b m g i (cache_logs s log new fs y.fills d d w.c_walk w.c_alt tags lines same h)
work_logs s log new ss fs y t a d w p tags lines same (first_waits b m g i h) =
    first_waits b m g (reads_logs s log new s.plan.iwaits (made y) (t + 1) (first_grant (settings_of s) y t)
    (line_base a) d (is_unmapped s (line_base a)) p same refl i)
    (cache_logs s log new fs y.fills d d w.c_walk w.c_alt tags lines same h)
work_logs s log new ss fs y t a d w p tags lines same (second_asks b m g e i h) =
    second_asks b m g (e ∙ entry_same s log new d (first_grant (settings_of s) y t) (line_base a) same
    (omega (arith, i.waited))) i (cache_logs s log new fs y.fills d d w.c_walk w.c_alt tags lines same h)
work_logs s log new ss fs y t a d w p tags lines same (second_waits b m g e i h) =
    let late : first_answer (settings_of s) y t ≤ second_grant (settings_of s) y t =
    later_grant s.plan.iwaits (suc (made y)) (first_answer (settings_of s) y t) in
    second_waits b m g (e ∙ entry_same s log new d (first_grant (settings_of s) y t) (line_base a) same
    (omega (arith, i.past, late)))
    (reads_logs s log new s.plan.iwaits (suc (made y)) (first_answer (settings_of s) y t)
    (second_grant (settings_of s) y t) (line_base a + 4) d (is_unmapped s (line_base a + 4)) p same refl i)
    (cache_logs s log new fs y.fills d d w.c_walk w.c_alt tags lines same h)
work_logs s log new ss fs y t a d w p tags lines same (last b m g e0 e1 now i h) =
    let late : first_answer (settings_of s) y t ≤ second_grant (settings_of s) y t =
    later_grant s.plan.iwaits (suc (made y)) (first_answer (settings_of s) y t) in
    last b m g (e0 ∙ entry_same s log new d (first_grant (settings_of s) y t) (line_base a) same (omega (arith, late)))
    (e1 ∙ entry_same s log new d (second_grant (settings_of s) y t) (line_base a + 4) same (omega arith)) now i
    (cache_logs s log new fs (filled (settings_of s) fs y t a) d d w.c_walk w.c_alt tags lines same h)

-- so the last word request stands as before, outstanding or not, whatever is written later
link_logs : (s : Setup) (log new : List Write) (x : Stream) (q d : ℕ) (busy : Bool) (w : WordPort) (p : PortState)
    (tags lines : List ℕ) → IsSame s log new d → Link s log x q d d busy w p tags lines
    → Link s new x q d d busy w p tags lines
link_logs s log new x q d busy w p tags lines same (idle b g i h late) =
    idle b g i (cache_logs s log new x.fences (past (settings_of s) x q).fills d d w.c_walk w.c_alt tags lines same h)
    late
link_logs s log new x q d busy w p tags lines same (pending y t a work) =
    pending y t (record {
      origin = a.origin;
      left = a.left;
      order = a.order;
      sent = a.sent;
      early = a.early;
      is_busy = a.is_busy;
      addr = a.addr;
      aligned = a.aligned;
      low = a.low;
    })
    (work_logs s log new x.switches x.fences y t (last_of x q) d w p tags lines same work)

-- ---- the buffer

-- and so is each word in the buffer
still_entry : (s : Setup) (log new : List Write) (x : Stream) (half q d i : ℕ) (enable : Bool) (f : Prefetch)
    (w : WordPort) (p : PortState) (tags lines : List ℕ) → WordsAt s log x half q d enable f w p tags lines
    → IsSame s log new d → i < f.buf_count
    → word_entry s log x (length x.enters + i) ≡ word_entry s new x (length x.enters + i)
still_entry s log new x half q d i enable f w p tags lines v same less =
    let j : ℕ = length x.enters + i in
    let before : answer (settings_of s) x j < d =
    there s log x half q d i enable f w p tags lines v v.fetch.count less in
    entry_same s log new d (past (settings_of s) x (suc j)).grant (word_addr x j) same
    (omega (arith, before, grant_before (settings_of s) x j v.sound))

-- so the words are those of the log with the later writes
pub words_logs : (s : Setup) (log new : List Write) (x : Stream) (half q d : ℕ) (enable : Bool) (f : Prefetch)
    (w : WordPort) (p : PortState) (tags lines : List ℕ) → WordsAt s log x half q d enable f w p tags lines
    → IsSame s log new d → WordsAt s new x half q d enable f w p tags lines
words_logs s log new x half q d enable f w p tags lines v same =
    let m : ℕ = length x.enters in
    record {
      fetch = record {
        head = v.fetch.head;
        half_low = v.fetch.half_low;
        addr = v.fetch.addr;
        fresh = v.fetch.fresh;
        count = v.fetch.count;
        holds = record {
          word0 = λ h. v.fetch.holds.word0 h ∙ ap (word_entry s log x) (sym (add-zero m))
              ∙ still_entry s log new x half q d 0 enable f w p tags lines v same h
              ∙ ap (word_entry s new x) (add-zero m);
          word1 = λ h. v.fetch.holds.word1 h ∙ still_entry s log new x half q d 1 enable f w p tags lines v same h;
          word2 = λ h. v.fetch.holds.word2 h ∙ still_entry s log new x half q d 2 enable f w p tags lines v same h;
          none0 = v.fetch.holds.none0;
          none1 = v.fetch.holds.none1;
          none2 = v.fetch.holds.none2;
        };
      };
      link = link_logs s log new x q d f.f_busy w p tags lines same v.link;
      requested = v.requested;
      gates = v.gates;
      begin = v.begin;
      walk = v.walk;
      enabled = v.enabled;
      sound = v.sound;
      sent = v.sent;
    }
