-- The ports' part of a cycle: the grant, which reads memory, and the walk.
use Rattle.std.proofs.Common.{◌≡◌, ℕ, suc, ◌+◌, ◌-◌, ◌*◌, ◌/◌, ◌%◌, ◌^◌, ◌<◌, ◌≤◌, ◌⊎◌, min, Bool, true, false, List}
use Rattle.std.proofs.Common.{◌∷◌, refl, sym, ap, ◌∙◌, inl, inr, arith, subst, nat_lt, slice_index, if◌then◌else◌}
use Rattle.std.proofs.lemmas.Bool.{cases_lt, cases_eq, ltb-true, ltb-false}
use Rattle.ibx_secded.specs.Code.{encode_of}
use Rattle.ibx_arch.specs.Memory.{Memory, image_memory}
use Rattle.ibx_bus.specs.Memory.{MemoryState, error_of, answered_word}
use Rattle.ibx_bus.specs.Port.{PortState, grants, port_next}
use Rattle.ibx_bus.specs.PortTimes.{grant_time}
use Rattle.ibx_isa.specs.Wires.{fetch_wires, no_request}
use Rattle.ibx_bus.proofs.Ports.{Granted, Grants, free_rests, granted_goes, moved, no_grant}
use Rattle.ibx_time.specs.Settings.{Setup, settings_of}
use Rattle.ibx_time.specs.Requests.{Fill, Past, Switch, first_answer, first_grant, last_fill, made, second_grant}
use Rattle.ibx_time.specs.Streams.{Stream, last_of, past}
use Rattle.ibx_time.specs.Memories.{Write, memory_at}
use Rattle.ibx_time.proofs.Times.{IsPast}
use Rattle.ibx_icache.specs.declared.doing.Doing.TheVariants.{Answers, AsksBare, AsksFirst, AsksSecond, AwaitsBare}
use Rattle.ibx_icache.specs.declared.doing.Doing.TheVariants.{AwaitsFirst, AwaitsSecond, Looks, Rests}
use Rattle.ibx_icache.specs.WordPort.{walked}
use Rattle.ibx_icache.specs.Doing.{doing_of, granted_by, state_of, wires_by}
use Rattle.ibx_icache.specs.declared.port.WordPort.{WordPort}
use Rattle.ibx_icache.specs.declared.doing.Doing.{Doing}
use Rattle.ibx_time_invariant.proofs.Fetches.{is_unmapped, word_in}
use Rattle.ibx_time_invariant.proofs.Caches.{CacheAt, Cleared, IsLog, WalkAt, WalkMid, restarts, starts, tag_of, walks}
use Rattle.ibx_time_invariant.proofs.Links.{Cached, Link, Mid, Missed, Reads, Wired, Work, bare_asks, bare_waits}
use Rattle.ibx_time_invariant.proofs.Links.{filled, first_asks, first_waits, free, idle, last, line_base, looks}
use Rattle.ibx_time_invariant.proofs.Links.{pending, second_asks, second_waits}
use Rattle.ibx_time_invariant.proofs.Ties.{IsPlaced}
use Rattle.ibx_time_invariant.proofs.FetchSide.{FetchPorts, wires_in}
use Rattle.ibx_time_fetch.proofs.PortsLogs.{tag_broken, tag_more}
use Rattle.ibx_time.proofs.Walks.{log_more, starts_before}
use Rattle.ibx_memory.specs.Coded.{HoldsMemory}
use Rattle.ibx_time_invariant.proofs.Quiets.{image_ram}
use Rattle.ibx_time_invariant.proofs.DataWires.{ask}
use Rattle.ibx_icache.proofs.States.{doing-state}
use Rattle.ibx_memory.proofs.Coded.{error_is, word_is}

-- ---- the range of RAM

-- ---- what a grant reads

-- the word that is read in the grant cycle
reads : (s : Setup) (log : List Write) (c n x g a : ℕ) (m : MemoryState) (p : PortState) → IsPlaced s
    → HoldsMemory s.image.ram m (memory_at (image_memory s.image) log c) → a % 4 ≡ 0 → a < 2 ^ 32
    → grant_time s.plan.iwaits n x ≡ g
    → Grants s.plan.iwaits n x (error_of m (fetch_wires a)) (answered_word m (fetch_wires a)) c p
    → Reads s log n x g a (c + 1) (moved true p (error_of m (fetch_wires a)) (answered_word m (fetch_wires a)))
reads s log c n x g a m p ok h at low now v =
    let memory : Memory = memory_at (image_memory s.image) log c in
    let time : c ≡ g = sym v.now ∙ now in
    let word : answered_word m (fetch_wires a) ≡ encode_of 32 7 (word_in s log g a) =
    word_is s.image.ram m memory h (fetch_wires a) ok.setup.ram (image_ram s log c) refl at low
    ∙ ap (λ t. encode_of 32 7 (word_in s log t a)) time in
    subst (λ b. Granted s.plan.iwaits n x b (encode_of 32 7 (word_in s log g a)) (c + 1)
    (moved true p (error_of m (fetch_wires a)) (answered_word m (fetch_wires a))))
    (error_is s.image.ram m memory h (fetch_wires a))
    (subst (λ z. Granted s.plan.iwaits n x (error_of m (fetch_wires a)) z (c + 1)
    (moved true p (error_of m (fetch_wires a)) (answered_word m (fetch_wires a)))) word v.then)

-- ---- the walk's cycle

-- the cache after the cycle
abbrev StepBy : Setup → List Write → List ℕ → List Fill → ℕ → ℕ → Bool → Bool → List ℕ → List ℕ → Type 0
StepBy s log fs fills c walk fence alt tags lines =
    CacheAt s log fs fills (c + 1) (c + 1) (walked fence walk) alt tags lines

-- the tag of a set that the walk has cleared, this cycle's with them
cleared_tag : (walk n : ℕ) (tags : List ℕ) → Cleared walk tags → walk < 256 → n ≡ 2 * walk ⊎ n ≡ 2 * walk + 1
    → slice_index tags n ≡ encode_of 22 6 0
cleared_tag walk n tags k less (inl e) = ap (slice_index tags) e ∙ k.lower less
cleared_tag walk n tags k less (inr e) = ap (slice_index tags) e ∙ k.upper less

-- a tag of this cycle's set, and the sides of it
side_of : (walk n : ℕ) → 2 * walk ≤ n → n < 2 * (walk + 1) → n ≡ 2 * walk ⊎ n ≡ 2 * walk + 1
side_of walk n low high = elim (cases_eq n (2 * walk)) [ inl e ↦ inl e | inr ne ↦ inr (omega arith) ]

-- a cycle more of the walk, with no FENCE.I, with one, and either way
walks_on : (s : Setup) (log : List Write) (fs : List ℕ) (fills : List Fill) (c walk : ℕ) (alt : Bool)
    (tags lines : List ℕ)
    → IsLog fs c → walk ≤ 256 → Cleared walk tags → CacheAt s log fs fills c (c + 1) walk alt tags lines → (b : Bool)
    → nat_lt walk 256 ≡ b → CacheAt s log fs fills (c + 1) (c + 1) (if b then walk + 1 else walk) alt tags lines
walks_on s log fs fills c walk alt tags lines l most k h true e =
    let less : walk < 256 = ltb-true walk 256 e in
    record {
      tag_count = h.tag_count;
      line_count = h.line_count;
      tag_codes = h.tag_codes;
      line_codes = h.line_codes;
      tag = λ n low below. by n low below (cases_lt n (2 * walk));
      word0 = h.word0;
      word1 = h.word1;
      quiet = λ _ n. sym (tag_more fs c (last_fill fills n) l) ∙ h.quiet less n;
      old = h.old;
      mapped = h.mapped;
      alt_is = h.alt_is;
    }
  where
    by : (n : ℕ) → n < 512 → n < 2 * (walk + 1) → (n < 2 * walk) ⊎ (2 * walk ≤ n)
        → slice_index tags n ≡ encode_of 22 6 (tag_of fs (c + 1) (last_fill fills n))
    by n low below (inl before) = h.tag n low before ∙ ap (encode_of 22 6) (tag_more fs c (last_fill fills n) l)
    by n low below (inr from) =
        let less : walk < 256 = omega arith in
        cleared_tag walk n tags k less (side_of walk n from below)
        ∙ ap (encode_of 22 6) (sym (sym (tag_more fs c (last_fill fills n) l) ∙ h.quiet less n))
walks_on s log fs fills c walk alt tags lines l most k h false e =
    record {
      tag_count = h.tag_count;
      line_count = h.line_count;
      tag_codes = h.tag_codes;
      line_codes = h.line_codes;
      tag = λ n low below. h.tag n low below ∙ ap (encode_of 22 6) (tag_more fs c (last_fill fills n) l);
      word0 = h.word0;
      word1 = h.word1;
      quiet = λ less n. absurd (omega (arith, ltb-false walk 256 e));
      old = h.old;
      mapped = h.mapped;
      alt_is = h.alt_is;
    }

-- after a FENCE.I in this cycle no line stands, and the walk begins at the first set
walks_fenced : (s : Setup) (log : List Write) (old : List ℕ) (fills : List Fill) (c walk : ℕ) (alt : Bool)
    (tags lines : List ℕ)
    → CacheAt s log (c ∷ old) fills c (c + 1) walk alt tags lines
    → CacheAt s log (c ∷ old) fills (c + 1) (c + 1) 0 alt tags lines
walks_fenced s log old fills c walk alt tags lines h =
    record {
      tag_count = h.tag_count;
      line_count = h.line_count;
      tag_codes = h.tag_codes;
      line_codes = h.line_codes;
      tag = λ n low below. absurd (omega arith);
      word0 = h.word0;
      word1 = h.word1;
      quiet = λ _ n. tag_broken s old fills c n h.old h.mapped (last_fill fills n) refl;
      old = h.old;
      mapped = h.mapped;
      alt_is = h.alt_is;
    }

-- so the cache goes on to the next cycle, with a FENCE.I in this one or without
cache_walks : (s : Setup) (log : List Write) (fs : List ℕ) (fills : List Fill) (c walk : ℕ) (fence alt : Bool)
    (tags lines : List ℕ)
    → WalkMid fs c fence walk → Cleared walk tags → CacheAt s log fs fills c (c + 1) walk alt tags lines
    → StepBy s log fs fills c walk fence alt tags lines
cache_walks s log fs fills c walk fence alt tags lines (walks f a) k h =
    subst (λ b. StepBy s log fs fills c walk b alt tags lines) (sym f)
    (walks_on s log fs fills c walk alt tags lines a.log (omega (arith, a.walk_is)) k h (nat_lt walk 256) refl)
cache_walks s log fs fills c walk fence alt tags lines (restarts old at f a) k h =
    subst (λ b. StepBy s log fs fills c walk b alt tags lines) (sym f)
    (subst (λ z. CacheAt s log z fills (c + 1) (c + 1) 0 alt tags lines) (sym at)
    (walks_fenced s log old fills c walk alt tags lines
    (subst (λ z. CacheAt s log z fills c (c + 1) walk alt tags lines) at h)))

-- the walk is where the last FENCE.I puts it, in the next cycle too
walk_by : (fs : List ℕ) (c walk : ℕ) → IsLog fs c → walk ≡ min (c - starts fs) 256 → (b : Bool) → nat_lt walk 256 ≡ b
    → WalkAt fs (c + 1) (if b then walk + 1 else walk)
walk_by fs c walk l e true k =
    let low = starts_before fs c l in
    let less = ltb-true walk 256 k in record { log = log_more fs c (c + 1) (omega arith) l; walk_is = omega arith }
walk_by fs c walk l e false k =
    let low = starts_before fs c l in
    let more = ltb-false walk 256 k in record { log = log_more fs c (c + 1) (omega arith) l; walk_is = omega arith }

-- the walk of the next cycle goes on, or begins anew after a FENCE.I in this one
walk_next : (fs : List ℕ) (c walk : ℕ) (fence : Bool) → WalkMid fs c fence walk → WalkAt fs (c + 1) (walked fence walk)
walk_next fs c walk fence (walks f a) =
    subst (λ b. WalkAt fs (c + 1) (walked b walk)) (sym f) (walk_by fs c walk a.log a.walk_is (nat_lt walk 256) refl)
walk_next fs c walk fence (restarts old at f a) =
    subst (λ b. WalkAt fs (c + 1) (walked b walk)) (sym f)
    (subst (λ z. WalkAt z (c + 1) 0) (sym at)
    (record { log = (omega arith, log_more old c (c + 1) (omega arith) a.log); walk_is = omega arith }))

-- ---- the word port and its port of the bus

-- the word port after the grant and the walk
abbrev put : Doing → ℕ → WordPort → WordPort
put g v w = record w { c_state = state_of g; c_walk = v }

-- the request in the next cycle
abbrev Stepped : Setup → List Write → List Switch → List ℕ → Past → ℕ → ℕ → ℕ → WordPort → PortState → MemoryState
    → List ℕ → List ℕ → ℕ → Doing → Bool → Type 0
Stepped s log ss fs y t a c w p m tags lines v g granted =
    Work s log ss fs y t a (c + 1) (c + 1) (put (granted_by granted g) v w) (port_next p m (wires_by g w.c_addr)) tags
    lines

-- it is, where it was granted or waits
stepped : (s : Setup) (log : List Write) (ss : List Switch) (fs : List ℕ) (y : Past) (t a c : ℕ) (w : WordPort)
    (p : PortState) (m : MemoryState) (tags lines : List ℕ) (v : ℕ) (g : Doing) (granted : Bool)
    → doing_of w.c_state ≡ g → grants (wires_by g w.c_addr).valid p ≡ granted
    → Stepped s log ss fs y t a c w p m tags lines v g granted
    → Stepped s log ss fs y t a c w p m tags lines v (doing_of w.c_state) (grants (wires_in w).valid p)
stepped s log ss fs y t a c w p m tags lines v g granted e k r =
    subst (λ d. Stepped s log ss fs y t a c w p m tags lines v d (grants (wires_by d w.c_addr).valid p)) (sym e)
    (subst (λ b. Stepped s log ss fs y t a c w p m tags lines v g b) (sym k) r)

-- a miss keeps its way
missed_put : (s : Setup) (fs : List ℕ) (y : Past) (t a e v : ℕ) (g : Doing) (w : WordPort) → Missed fs y t a e w
    → Missed fs y t a e (put g v w)
missed_put s fs y t a e v g w m = record { absent = m.absent; way = m.way; nostore = m.nostore }

-- so each state of a request goes on to the next cycle
work_steps : (s : Setup) (log : List Write) (ss : List Switch) (fs : List ℕ) (y : Past) (t a c : ℕ) (w : WordPort)
    (p : PortState) (m : MemoryState) (tags lines : List ℕ) (v : ℕ)
    → IsPlaced s → HoldsMemory s.image.ram m (memory_at (image_memory s.image) log c) → w.c_addr ≡ a
    → (a % 4 ≡ 0) × (a < 2 ^ 32) → ((fills : List Fill) → Cached s log fs fills c (c + 1) w tags lines
    → CacheAt s log fs fills (c + 1) (c + 1) v w.c_alt tags lines) → Wired s log ss fs y t a c w p tags lines
    → Stepped s log ss fs y t a c w p m tags lines v (doing_of w.c_state) (grants (wires_in w).valid p)
unfolding wires_by granted_by
work_steps s log ss fs y t a c w p m tags lines v ok h at o f (bare_asks b g i k) =
    let here : w.c_addr / 4 * 4 ≡ a = same w.c_addr a at o.0 in
    elim (ask s.plan.iwaits (made y) t c (error_of m (fetch_wires (w.c_addr / 4 * 4)))
    (answered_word m (fetch_wires (w.c_addr / 4 * 4))) p i) [
      | inl u ↦
          stepped s log ss fs y t a c w p m tags lines v AsksBare true g u.grant
          (bare_waits b (doing-state AwaitsBare)
          (subst (λ z. Reads s log (made y) t (grant_time s.plan.iwaits (made y) t) z (c + 1)
          (moved true p (error_of m (fetch_wires (w.c_addr / 4 * 4)))
          (answered_word m (fetch_wires (w.c_addr / 4 * 4))))) here
          (reads s log c (made y) t (grant_time s.plan.iwaits (made y) t) (w.c_addr / 4 * 4) m p ok h (omega arith)
          (omega (arith, o.1)) refl u))
          (f y.fills k))
      | inr u ↦ stepped s log ss fs y t a c w p m tags lines v AsksBare false g u.grant
          (bare_asks b (doing-state AsksBare) u.then (f y.fills k))
    ]
  where
    same : (addr a : ℕ) → addr ≡ a → a % 4 ≡ 0 → addr / 4 * 4 ≡ a
    same addr a e h = omega arith
work_steps s log ss fs y t a c w p m tags lines v ok h at o f (bare_waits b g i ne k) =
    stepped s log ss fs y t a c w p m tags lines v AwaitsBare false g (no_grant p)
    (bare_waits b (doing-state AwaitsBare)
    (granted_goes s.plan.iwaits (made y) t (is_unmapped s a)
    (encode_of 32 7 (word_in s log (grant_time s.plan.iwaits (made y) t) a)) c (error_of m no_request)
    (answered_word m no_request) p i ne) (f y.fills k))
work_steps s log ss fs y t a c w p m tags lines v ok h at o f (looks b n g now i k) =
    stepped s log ss fs y t a c w p m tags lines v Looks false g (no_grant p)
    (looks b n (doing-state Looks) (omega arith)
    (free_rests s.plan.iwaits (made y) (error_of m no_request) (answered_word m no_request) p i) (f y.fills k))
work_steps s log ss fs y t a c w p m tags lines v ok h at o f (first_asks b n g i k) =
    let here : w.c_addr / 8 * 8 ≡ line_base a = same w.c_addr a at in
    elim (ask s.plan.iwaits (made y) (t + 1) c (error_of m (fetch_wires (w.c_addr / 8 * 8)))
    (answered_word m (fetch_wires (w.c_addr / 8 * 8))) p i) [
      | inl u ↦
          stepped s log ss fs y t a c w p m tags lines v AsksFirst true g u.grant
          (first_waits b (missed_put s fs y t a (c + 1) v AwaitsFirst w n) (doing-state AwaitsFirst)
          (subst (λ z. Reads s log (made y) (t + 1) (first_grant (settings_of s) y t) z (c + 1)
          (moved true p (error_of m (fetch_wires (w.c_addr / 8 * 8)))
          (answered_word m (fetch_wires (w.c_addr / 8 * 8))))) here
          (reads s log c (made y) (t + 1) (first_grant (settings_of s) y t) (w.c_addr / 8 * 8) m p ok h (omega arith)
          (omega (arith, o.1)) refl u))
          (f y.fills k))
      | inr u ↦ stepped s log ss fs y t a c w p m tags lines v AsksFirst false g u.grant
          (first_asks b (missed_put s fs y t a (c + 1) v AsksFirst w n) (doing-state AsksFirst) u.then (f y.fills k))
    ]
  where
    same : (addr a : ℕ) → addr ≡ a → addr / 8 * 8 ≡ 8 * (a / 8)
    same addr a e = omega arith
work_steps s log ss fs y t a c w p m tags lines v ok h at o f (first_waits b n g i ne k) =
    stepped s log ss fs y t a c w p m tags lines v AwaitsFirst false g (no_grant p)
    (first_waits b (missed_put s fs y t a (c + 1) v AwaitsFirst w n) (doing-state AwaitsFirst)
    (granted_goes s.plan.iwaits (made y) (t + 1) (is_unmapped s (line_base a))
    (encode_of 32 7 (word_in s log (first_grant (settings_of s) y t) (line_base a))) c (error_of m no_request)
    (answered_word m no_request) p i ne) (f y.fills k))
work_steps s log ss fs y t a c w p m tags lines v ok h at o f (second_asks b n g e i k) =
    let here : w.c_addr / 8 * 8 + 4 ≡ line_base a + 4 = same w.c_addr a at in
    elim (ask s.plan.iwaits (suc (made y)) (first_answer (settings_of s) y t) c
    (error_of m (fetch_wires (w.c_addr / 8 * 8 + 4))) (answered_word m (fetch_wires (w.c_addr / 8 * 8 + 4))) p i) [
      | inl u ↦
          stepped s log ss fs y t a c w p m tags lines v AsksSecond true g u.grant
          (second_waits b (missed_put s fs y t a (c + 1) v AwaitsSecond w n) (doing-state AwaitsSecond) e
          (subst (λ z. Reads s log (suc (made y)) (first_answer (settings_of s) y t) (second_grant (settings_of s) y t)
          z (c + 1) (moved true p (error_of m (fetch_wires (w.c_addr / 8 * 8 + 4)))
          (answered_word m (fetch_wires (w.c_addr / 8 * 8 + 4))))) here
          (reads s log c (suc (made y)) (first_answer (settings_of s) y t) (second_grant (settings_of s) y t)
          (w.c_addr / 8 * 8 + 4) m p ok h (omega arith) (omega (arith, o.1)) refl u))
          (f y.fills k))
      | inr u ↦ stepped s log ss fs y t a c w p m tags lines v AsksSecond false g u.grant
          (second_asks b (missed_put s fs y t a (c + 1) v AsksSecond w n) (doing-state AsksSecond) e u.then
          (f y.fills k))
    ]
  where
    same : (addr a : ℕ) → addr ≡ a → addr / 8 * 8 + 4 ≡ 8 * (a / 8) + 4
    same addr a e = omega arith
work_steps s log ss fs y t a c w p m tags lines v ok h at o f (second_waits b n g e i ne k) =
    stepped s log ss fs y t a c w p m tags lines v AwaitsSecond false g (no_grant p)
    (second_waits b (missed_put s fs y t a (c + 1) v AwaitsSecond w n) (doing-state AwaitsSecond) e
    (granted_goes s.plan.iwaits (suc (made y)) (first_answer (settings_of s) y t) (is_unmapped s (line_base a + 4))
    (encode_of 32 7 (word_in s log (second_grant (settings_of s) y t) (line_base a + 4))) c (error_of m no_request)
    (answered_word m no_request) p i ne) (f y.fills k))
work_steps s log ss fs y t a c w p m tags lines v ok h at o f (last b n g e0 e1 now i k) =
    stepped s log ss fs y t a c w p m tags lines v Answers false g (no_grant p)
    (last b n (doing-state Answers) e0 e1 (omega arith)
    (free_rests s.plan.iwaits (suc (suc (made y))) (error_of m no_request) (answered_word m no_request) p i)
    (f (filled (settings_of s) fs y t a) k))

-- ---- the fetch side

-- the link in the next cycle
abbrev LinkBy : Setup → List Write → Stream → ℕ → ℕ → Bool → WordPort → PortState → MemoryState → List ℕ → List ℕ → ℕ
    → Doing → Bool → Type 0
LinkBy s log x q c busy w p m tags lines v g granted =
    Link s log x q (c + 1) (c + 1) busy (put (granted_by granted g) v w) (port_next p m (wires_by g w.c_addr)) tags
    lines

-- so it goes on, whether a request is outstanding or not
link_steps : (s : Setup) (log : List Write) (x : Stream) (q c : ℕ) (busy : Bool) (w : WordPort) (p : PortState)
    (m : MemoryState) (tags lines : List ℕ) (v : ℕ)
    → IsPlaced s → HoldsMemory s.image.ram m (memory_at (image_memory s.image) log c)
    → ((fills : List Fill) → Cached s log x.fences fills c (c + 1) w tags lines
    → CacheAt s log x.fences fills (c + 1) (c + 1) v w.c_alt tags lines) → Mid s log x q c busy w p tags lines
    → LinkBy s log x q c busy w p m tags lines v (doing_of w.c_state) (grants (wires_in w).valid p)
unfolding wires_by granted_by
link_steps s log x q c busy w p m tags lines v ok h f (free b g i k done) =
    subst (λ d. LinkBy s log x q c busy w p m tags lines v d (grants (wires_by d w.c_addr).valid p)) (sym g)
    (subst (λ n. LinkBy s log x q c busy w p m tags lines v Rests n) (sym (no_grant p))
    (idle b (doing-state Rests) (free_rests s.plan.iwaits (made (past (settings_of s) x q)) (error_of m no_request)
    (answered_word m no_request) p i) (f (past (settings_of s) x q).fills k) (λ _. omega arith)))
link_steps s log x q c busy w p m tags lines v ok h f (pending y t a u) =
    pending y t (record {
      origin = a.origin;
      left = a.left;
      order = a.order;
      sent = a.sent;
      early = a.early;
      is_busy = a.is_busy;
      addr = a.addr;
      aligned = a.aligned;
      low = a.low;
    })
    (work_steps s log x.switches x.fences y t (last_of x q) c w p m tags lines v ok h a.addr (a.aligned, a.low) f u)

-- what held back the words is past
past_later : (x : Stream) (c : ℕ) → IsPast x c → IsPast x (c + 1)
past_later x c old q h = omega (arith, old q h)

-- so the words before the next cycle are those that the ports leave
pub fetch_ports : (s : Setup) → FetchPorts s
fetch_ports s log x half q c walk fence enable next f w p tags lines m ok h v =
    record {
      fetch = v.fetch;
      link = link_steps s log x q c f.f_busy w p m tags lines (walked fence walk) ok h
          (λ fills k. cache_walks s log x.fences fills c walk fence w.c_alt tags lines v.walk_is v.cleared
          (subst (λ z. CacheAt s log x.fences fills c (c + 1) z w.c_alt tags lines) v.kept k)) v.mid;
      requested = v.requested;
      gates = past_later x c v.gates;
      begin = λ e. absurd (omega arith);
      walk = walk_next x.fences c walk fence v.walk_is;
      enabled = record { enabled = v.enabled.follows; recent = v.enabled.recent };
      sound = v.sound;
      sent = v.sent;
    }
