-- The search for an admission, in a story: each turn of it, where it ends, and what stands after the item.
use Rattle.std.proofs.Common.{max, inl, inr, subst}
use Rattle.std.proofs.Common.{◌≡◌, ℕ, zero, suc, ◌+◌, ◌-◌, ◌%◌, ◌^◌, ◌<◌, ◌≤◌, min, Bool, true, false, not, ◌&&◌}
use Rattle.std.proofs.Common.{◌||◌, ◌==◌, length}
use Rattle.std.proofs.Common.{refl, sym, ap, ◌∙◌, arith, nat_lt, nat_le, if◌then◌else◌}
use Rattle.std.proofs.lemmas.Bool.{cases_lt, true≢false, and_parts, ltb-true}
use Rattle.ibx_arch.specs.Memory.{Memory, image_memory, read_bytes}
use Rattle.ibx_arch.specs.Step.{Parcels, step_with}
use Rattle.ibx_time.specs.Search.{first_from}
use Rattle.ibx_time.specs.Settings.{Settings, Setup, settings_of, lines_in}
use Rattle.ibx_time.specs.Controls.{enables_cache}
use Rattle.ibx_time.specs.Items.{item_of}
use Rattle.ibx_time.specs.Memories.{memory_at}
use Rattle.ibx_time.specs.Times.{Kind, AnInterrupt, ADummy, AnInstruction, kind_at, is_ready, has_answered}
use Rattle.ibx_time.specs.History.{Story, admission, kind_of, words_there, brought, brought_parcels, view_with}
use Rattle.ibx_time.proofs.Settled.{IsBefore, all_at, later_before}
use Rattle.ibx_time.proofs.Stories.{IsSane, at_good, image_good}
use Rattle.ibx_time.proofs.Seen.{admission_after}
use Rattle.ibx_time.proofs.Timed.{first_after}
use Rattle.ibx_time.proofs.Told.{IsStory}
use Rattle.ibx_replay.specs.Fetches.{Fetch, request_below, are_there, is_answered, missing, news_of, first_parcel}
use Rattle.ibx_replay.specs.Fetches.{second_parcel}
use Rattle.ibx_replay.proofs.Fetched.{Holds}
use Rattle.ibx_replay.proofs.Keeps.{flush_keeps, settled_later, request_none}
use Rattle.ibx_replay.proofs.Stores.{reads_of}
use Rattle.ibx_replay.proofs.Admits.{ready_at, search_step, search_goes, search_ends, there_is, answered_words}
use Rattle.ibx_replay.proofs.Parcels.{first_is, second_is, step_same, needs_second, parcels_if, crosses_is}
use Rattle.ibx_replay.proofs.Parcels.{crosses_same}
use Rattle.ibx_replay.proofs.Items.{FetchOf}

-- ---- the requests up to t

-- memory holds what it held in each cycle after all writes
now_held : (s : Setup) (h : Story) (c : ℕ) → IsStory s h → IsBefore h.writes c
    → Holds (λ g b. read_bytes h.state.memory b 4) (reads_of (image_memory s.image) h.writes) c
now_held s h c z w g b late low even =
    let m : Memory = image_memory s.image in
    ap (λ v. read_bytes v b 4) (z.memory h.done (omega arith) ∙ all_at m h.writes h.done z.before
    ∙ sym (all_at m h.writes g (later_before h.writes c g late w)))

-- ---- the test

-- the parcels of the next instruction, and whether it crosses a word
abbrev pub parcels_in : Setup → Story → ℕ
parcels_in s h = (item_of (settings_of s) h.times.ctl (view_with s h (brought_parcels s h))).parcels

-- the next instruction of a story crosses a word
abbrev pub crosses_in : Setup → Story → Bool
crosses_in s h = h.times.half == 1 && parcels_in s h == 2

-- something can be admitted at t
abbrev pub ready_in : Setup → Story → ℕ → Bool
ready_in s h = ready_at (settings_of s) h.times (parcels_in s h)

-- the admission is a search from the last done cycle on
pub search_opens : (s : Setup) (limit : ℕ) (h : Story)
    → admission s limit h ≡ first_from (limit - h.done) (ready_in s h) h.done
unfolding admission words_there
search_opens s limit h = refl

-- ---- the search

-- The search has come to t: nothing is admitted from the last done cycle on and before t, nor before c - 1. The
-- requests issued before c are made, which is after all writes. A search for an earlier limit may have come further,
-- so c may be beyond t.
pub record IsSearching (s : Setup) (h : Story) (t c : ℕ) (f : Fetch) : Type 0 where
  pub at : FetchOf s h c f
  pub written : IsBefore h.writes c
  pub later : h.done ≤ t
  pub fails : (u : ℕ) → h.done ≤ u → u < t → ready_in s h u ≡ false
  pub ahead : (u : ℕ) → h.done ≤ u → u + 1 < c → ready_in s h u ≡ false

-- the requests issued up to t are made first of all
pub search_flushes : (s : Setup) (h : Story) (t c : ℕ) (f : Fetch) → IsStory s h → IsSearching s h t c f
    → IsSearching s h t (max c (t + 1)) (request_below (settings_of s) (enables_cache h.times.ctl)
    (λ g b. read_bytes h.state.memory b 4) (t + 1) 3 f)
search_flushes s h t c f z i =
    let k : Settings = settings_of s in
    let m : Memory = image_memory s.image in
    let on = enables_cache h.times.ctl in
    let held : ℕ → ℕ → ℕ = λ g b. read_bytes h.state.memory b 4 in
    record {
      at = elim (cases_lt c (t + 1)) [
        | inl low ↦
            let r = flush_keeps 3 k (reads_of m h.writes) held h.times.stream i.at.q c
            (t + 1) on f i.at.fetch i.at.settled
            (now_held s h c z i.written) (omega (arith, low)) (omega arith) in
            let e : t + 1 ≡ max c (t + 1) = omega (arith, low) in
            subst (λ b. FetchOf s h b (request_below k on held (t + 1) 3 f)) e (record {
              q = r.count;
              fetch = r.fetch;
              settled = settled_later h.times.stream c (t + 1) on (omega (arith, low)) i.at.settled;
            })
        | inr high ↦
            let e : c ≡ max c (t + 1) = omega (arith, high) in
            subst (λ b. FetchOf s h b (request_below k on held (t + 1) 3 f)) e
            (subst (FetchOf s h c) (sym (request_none 3 k (reads_of m h.writes) held h.times.stream i.at.q c
            (t + 1) on f
            i.at.fetch high)) i.at)
      ];
      written = later_before h.writes c (max c (t + 1)) (omega arith) i.written;
      later = i.later;
      fails = i.fails;
      ahead = λ u low soon. elim (cases_lt u t) [
        | inl past ↦ i.fails u low past
        | inr now ↦ i.ahead u low (omega (arith, now, soon))
      ];
    }

-- it goes on where an instruction waits, up to the next change of the lines or the missing word's news
pub search_waits : (s : Setup) (t c change : ℕ) (h : Story) (f : Fetch) → IsSearching s h t c f → t < c → t < change
    → ((u : ℕ) → t ≤ u → u < change → lines_in (settings_of s) u ≡ lines_in (settings_of s) t)
    → kind_of s t h ≡ AnInstruction → are_there f (crosses_in s h) t ≡ false
    → let next = min (news_of f (missing f t)) change in (t < next) × IsSearching s h next c f
search_waits s t c change h f i past soon same kind none =
    let next = min (news_of f (missing f t)) change in
    let r = search_step (settings_of s) (reads_of (image_memory s.image) h.writes) h.times i.at.q c t change
    (parcels_in s h) f i.at.fetch past soon same kind none in (
      r.0,
      record {
        at = i.at;
        written = i.written;
        later = omega (arith, i.later, r.0);
        fails = λ u low high. elim (cases_lt u t) [
          | inl old ↦ i.fails u low old
          | inr new ↦ r.1 u new high
        ];
        ahead = i.ahead;
      },
    )

-- it ends where an interrupt or a dummy is next, or an instruction's words are there
ready_if : (kind : Kind) (there : Bool) → (kind ≡ AnInstruction → there ≡ true) → is_ready kind there ≡ true
ready_if (AnInterrupt number) there h = refl
ready_if ADummy there h = refl
ready_if AnInstruction there h = h refl

-- the search from its begin is that from t on
from_now : (s : Setup) (limit t c : ℕ) (h : Story) (f : Fetch) → IsSearching s h t c f → t ≤ limit
    → admission s limit h ≡ first_from (limit - t) (ready_in s h) t
from_now s limit t c h f i low =
    search_opens s limit h ∙ search_goes limit h.done t (ready_in s h) i.later low i.fails

-- then t is the admission, and no request beyond it is made
pub search_admits : (s : Setup) (limit t c : ℕ) (h : Story) (f : Fetch) → IsSearching s h t c f → t < c → t < limit
    → (kind_of s t h ≡ AnInstruction → are_there f (crosses_in s h) t ≡ true)
    → (admission s limit h ≡ t) × (c ≡ t + 1)
search_admits s limit t c h f i past below there =
    let k : Settings = settings_of s in
    let ready : ready_in s h t ≡ true =
    ready_if (kind_at k h.times t) (has_answered k h.times (parcels_in s h) t)
    (λ e. answered_words k h.times (parcels_in s h) t
    ∙ sym (there_is k (reads_of (image_memory s.image) h.writes) h.times.stream i.at.q c t
    (crosses_in s h) f i.at.fetch
    past)
    ∙ there e) in (
      from_now s limit t c h f i (omega (arith, below)) ∙ search_ends limit t (ready_in s h) below ready,
      elim (cases_lt (t + 1) c) [
        | inl beyond ↦ let no_ : true ≡ false = sym ready ∙ i.ahead t i.later beyond in absurd (true≢false no_)
        | inr now ↦ omega (arith, now, past)
      ],
    )

-- and where it comes to the limit, nothing is admitted before it
late_by : (s : Setup) (limit : ℕ) (h : Story) → limit ≤ h.done → limit ≤ admission s limit h
late_by s limit h over = omega (arith, over, admission_after s limit h)

-- a search that has come to the limit admits nothing before it
pub search_stops : (s : Setup) (limit t c : ℕ) (h : Story) (f : Fetch) → IsSearching s h t c f → limit ≤ t
    → limit ≤ admission s limit h
search_stops s limit t c h f i over = elim (cases_lt limit h.done) [
  | inl early ↦ late_by s limit h (omega (arith, early))
  | inr later ↦
      omega (
        arith,
        search_opens s limit h,
        search_goes limit h.done limit (ready_in s h) later (omega arith)
            (λ u low high. i.fails u low (omega (arith, high, over))),
        first_after (limit - limit) (ready_in s h) limit,
      )
]

-- ---- the parcels

-- all bytes of memory over time are bytes
abbrev pub AreBytes : Setup → Story → Type 0
AreBytes s h = (g b : ℕ) → (memory_at (image_memory s.image) h.writes g).byte b < 256

-- a word that has answered is held
pub answered_held : (f : Fetch) (i t : ℕ) → is_answered f i t ≡ true → i < f.count
answered_held f i t e = ltb-true i f.count (and_parts (nat_lt i f.count) (nat_le (f.words i).answer t) e).0

-- the code's first parcel is the one that was brought
pub first_brought : (s : Setup) (t : ℕ) (h : Story) (f : Fetch) → FetchOf s h (t + 1) f → IsStory s h → AreBytes s h
    → is_answered f 0 t ≡ true
    → first_parcel f h.times.half ≡ brought s h (length h.times.stream.enters) h.state.pc
first_brought s t h f a z low e =
    first_is (settings_of s) (image_memory s.image) h.writes h.times.stream a.q
    (t + 1) h.times.half h.state.pc f a.fetch low
    (answered_held f 0 t e) z.half_low z.place

-- so the code finds as the equations do whether the instruction crosses a word, where that makes a difference
pub crosses_found : (s : Setup) (t : ℕ) (h : Story) (f : Fetch) → FetchOf s h (t + 1) f → IsStory s h → AreBytes s h
    → parcels_in s h ≡ parcels_if (needs_second h.state (brought s h (length h.times.stream.enters) h.state.pc))
    → are_there f (h.times.half == 1 && needs_second h.state (first_parcel f h.times.half)) t
    ≡ are_there f (crosses_in s h) t
crosses_found s t h f a z low e =
    crosses_same f t (h.times.half == 1 && needs_second h.state (first_parcel f h.times.half)) (crosses_in s h)
    (λ u. ap (λ p. h.times.half == 1 && needs_second h.state p) (first_brought s t h f a z low u)
    ∙ sym (crosses_is h.times.half (parcels_in s h)
    (needs_second h.state (brought s h (length h.times.stream.enters) h.state.pc)) e))

-- The step of the code's parcels is that of the brought ones. A second that isn't needed may be any.
pub step_brought : (s : Setup) (t d other : ℕ) (h : Story) (f : Fetch) → FetchOf s h (t + 1) f → IsStory s h
    → AreBytes s h
    → are_there f (h.times.half == 1 && needs_second h.state (first_parcel f h.times.half)) t ≡ true
    → step_with (lines_in (settings_of s)) h.state (Parcels (first_parcel f h.times.half)
    (if needs_second h.state (first_parcel f h.times.half) then second_parcel f h.times.half else other)) d
    ≡ step_with (lines_in (settings_of s)) h.state (brought_parcels s h) d
unfolding brought_parcels
step_brought s t d other h f a z low e =
    let lines = lines_in (settings_of s) in
    let len = length h.times.stream.enters in
    let p1 = first_parcel f h.times.half in
    let b1 = brought s h len h.state.pc in
    let b2 = brought s h (len + h.times.half) ((h.state.pc + 2) % 2 ^ 32) in
    let parts = and_parts (is_answered f 0 t) (not
    (h.times.half == 1 && needs_second h.state p1) || is_answered f 1 t) e in
    let first : p1 ≡ b1 = first_brought s t h f a z low parts.0 in
    by (needs_second h.state p1) refl parts.1 (answered_held f 0 t parts.0)
    ∙ ap (λ p. step_with lines h.state (Parcels p b2) d) first
  where
    there : (half : ℕ) → half < 2 → (not (half == 1 && true) || is_answered f 1 t) ≡ true → 0 < f.count
        → half < f.count
    there zero l u c = c
    there (suc zero) l u c = answered_held f 1 t u
    there (suc (suc half)) l u c = absurd (omega (arith, l))

    by : (n : Bool) → needs_second h.state (first_parcel f h.times.half) ≡ n
        → (not (h.times.half == 1 && n) || is_answered f 1 t) ≡ true → 0 < f.count
        → step_with (lines_in (settings_of s)) h.state (Parcels (first_parcel f h.times.half)
        (if n then second_parcel f h.times.half else other)) d
        ≡ step_with (lines_in (settings_of s)) h.state (Parcels (first_parcel f h.times.half)
        (brought s h (length h.times.stream.enters + h.times.half) ((h.state.pc + 2) % 2 ^ 32))) d
    by true n u c =
        ap (λ p. step_with (lines_in (settings_of s)) h.state (Parcels (first_parcel f h.times.half) p) d)
        (second_is (settings_of s) (image_memory s.image) h.writes h.times.stream a.q (t + 1) h.times.half h.state.pc f
        a.fetch low (there h.times.half z.half_low u c) z.half_low z.place)
    by false n u c = step_same (lines_in (settings_of s)) h.state (first_parcel f h.times.half) other
        (brought s h (length h.times.stream.enters + h.times.half) ((h.state.pc + 2) % 2 ^ 32)) d n

-- the bytes of a sane run's memory are such
pub are_bytes : (s : Setup) (h : Story) → IsSane s → AreBytes s h
are_bytes s h ok g b = (at_good s.image.ram (image_memory s.image) h.writes g (image_good s ok)).bytes b
