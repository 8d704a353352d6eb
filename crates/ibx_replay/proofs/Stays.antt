-- What stands between items stays, over an event's item and over a dummy.
use Rattle.std.proofs.Common.{◌≡◌, ℕ, ◌+◌, ◌^◌, ◌<◌, ◌≤◌, Bool, true, false, [], Option, Some, None, refl, sym, ap}
use Rattle.std.proofs.Common.{◌∙◌}
use Rattle.std.proofs.Common.{subst, arith}
use Rattle.ibx_arch.specs.Memory.{Memory, image_memory}
use Rattle.ibx_arch.specs.Step.{Choice}
use Rattle.ibx_csr.specs.Values.{csr_reset}
use Rattle.ibx_time.specs.Settings.{Setup, settings_of}
use Rattle.ibx_time.specs.Memories.{writes_with}
use Rattle.ibx_time.specs.Times.{first_times}
use Rattle.ibx_time.specs.History.{Story, opening, taken, continued, ended_by, choice_at, item_at, access_at, done_at}
use Rattle.ibx_time.proofs.Seen.{continued_half}
use Rattle.ibx_time.proofs.Timed.{done_after}
use Rattle.ibx_time.proofs.Stories.{IsSane, continued_good}
use Rattle.ibx_time.proofs.Places.{continued_place}
use Rattle.ibx_time.proofs.Settled.{IsBefore, IsWritten, all_at, later_before, continued_written, continued_before}
use Rattle.ibx_time.proofs.Follows.{continued_ctl}
use Rattle.ibx_time.proofs.Told.{IsStory}
use Rattle.ibx_replay.specs.Fetches.{Fetch, end_of, reset_fetch}
use Rattle.ibx_replay.proofs.Opens.{opens}
use Rattle.ibx_replay.proofs.Stores.{reads_of}
use Rattle.ibx_replay.proofs.Searching.{IsSearching, ready_in}
use Rattle.ibx_replay.proofs.Items.{FetchOf, IsAdmitted, item_keeps, dummy_keeps, dummy_is, no_portion, finished_at}

-- ---- the story

-- its memory is the image's with all writes
written_by_now : (s : Setup) (h : Story) → IsStory s h → IsWritten s h
written_by_now s h z = z.memory h.done (omega arith) ∙ all_at (image_memory s.image) h.writes h.done z.before

-- So what holds of a story holds of it with one item more.
pub story_stays : (s : Setup) (limit t : ℕ) (h : Story) → IsSane s → IsStory s h → h.done ≤ t
    → IsStory s (continued s limit t h)
story_stays s limit t h ok z low =
    let m : Memory = image_memory s.image in
    let next : Story = continued s limit t h in
    let before : IsBefore next.writes next.done = continued_before s limit t h low z.before in
    record {
      ctl = continued_ctl s limit t h z.ctl;
      place = continued_place s limit t h ok z.ctl z.half_low z.good z.place;
      half_low = continued_half s limit t h;
      good = continued_good s limit t h ok z.good;
      before = before;
      memory = λ c late.
          continued_written s limit t h z.ctl z.good.ram_is (written_by_now s h z)
          ∙ sym (all_at m next.writes c (later_before next.writes next.done c late before));
    }

-- ---- the fetch side

-- Between items the requests issued before c are made, which is after all writes. Nothing is admitted before c - 1: c
-- is
-- at most one cycle after the last item's done, or a search for an earlier limit has come to c without an admission.
pub record IsKept (s : Setup) (h : Story) (c : ℕ) (f : Fetch) : Type 0 where
  pub at : FetchOf s h c f
  pub ahead : (u : ℕ) → h.done ≤ u → u + 1 < c → ready_in s h u ≡ false
  pub written : IsBefore h.writes c

-- at reset
pub kept_opens : (s : Setup) → s.image.entry < 2 ^ 32 → IsKept s (opening s) 0 (reset_fetch s.image.entry)
unfolding first_times csr_reset
kept_opens s low = record {
  at = opens (settings_of s) (reads_of (image_memory s.image) []) s.image.entry low;
  ahead = λ u low soon. absurd (omega (arith, soon));
  written = tt;
}

-- an item is done in its done cycle
done_by_choice : (s : Setup) (limit t : ℕ) (h : Story) (o : Option Choice)
    → (ended_by s h o (item_at s t h) (done_at s limit t h) (taken s t h)).done ≡ done_at s limit t h
done_by_choice s limit t h None = refl
done_by_choice s limit t h (Some choice) = refl

-- the next story is done when its item is
pub done_is : (s : Setup) (limit t : ℕ) (h : Story) → (continued s limit t h).done ≡ done_at s limit t h
unfolding continued
done_is s limit t h = done_by_choice s limit t h (choice_at s t h)

-- the bound of an item's requests is its done cycle or the next one
end_near : (redirects : Bool) (d : ℕ) → (end_of redirects d ≤ d + 1) × (d ≤ end_of redirects d)
end_near true d = (omega arith, omega arith)
end_near false d = (omega arith, omega arith)

-- after an event's item
pub item_stays : (s : Setup) (limit t : ℕ) (h : Story) (choice : Choice) (f : Fetch) → IsSane s → IsStory s h
    → IsAdmitted s t h f → choice_at s t h ≡ Some choice
    → IsKept s (continued s limit t h) (end_of (item_at s t h).redirects (done_at s limit t h))
    (finished_at s limit t h (continued s limit t h).state.pc f)
item_stays s limit t h choice f ok z a e =
    let next : Story = continued s limit t h in
    let d = done_at s limit t h in
    let is : next.done ≡ d = done_is s limit t h in
    let ends = end_near (item_at s t h).redirects d in
    record {
      at = item_keeps s limit t h choice f a e (story_stays s limit t h ok z a.later).good.pc_low;
      ahead = λ u low soon. absurd (omega (arith, is, ends.0, low, soon));
      written = later_before next.writes next.done (end_of (item_at s t h).redirects d) (omega (arith, is, ends.1))
          (continued_before s limit t h a.later a.before);
    }

-- a dummy writes nothing
dummy_writes : (s : Setup) (t : ℕ) (h : Story) → choice_at s t h ≡ None → (taken s t h).writes ≡ h.writes
unfolding taken
dummy_writes s t h e =
    ap (λ p. writes_with s.plan.dwaits h.times.made (t + 1) p (access_at s t h) h.writes) (dummy_is s t h e).1
    ∙ no_portion s.plan.dwaits h.times.made (t + 1) (access_at s t h) h.writes

-- what an item leaves of time doesn't change the writes
ended_writes : (s : Setup) (limit t : ℕ) (h : Story) (o : Option Choice)
    → (ended_by s h o (item_at s t h) (done_at s limit t h) (taken s t h)).writes ≡ (taken s t h).writes
ended_writes s limit t h None = refl
ended_writes s limit t h (Some choice) = refl

-- so the writes of the next story are those of its step
continued_writes : (s : Setup) (limit t : ℕ) (h : Story) → (continued s limit t h).writes ≡ (taken s t h).writes
unfolding continued
continued_writes s limit t h = ended_writes s limit t h (choice_at s t h)

-- so after one all stays at t + 1, up to which the search has come
pub dummy_stays : (s : Setup) (limit t : ℕ) (h : Story) (f : Fetch) → IsStory s h → FetchOf s h (t + 1) f
    → IsBefore h.writes (t + 1) → choice_at s t h ≡ None → IsKept s (continued s limit t h) (t + 1) f
dummy_stays s limit t h f z a w e = record {
  at = dummy_keeps s limit t (t + 1) h f a z.half_low e;
  ahead = λ u low soon.
      absurd (omega (
        arith,
        done_is s limit t h,
        done_after (settings_of s) limit t
            (item_at s t h) h.times,
        low,
        soon,
      ));
  written = subst (λ ws. IsBefore ws (t + 1)) (sym (continued_writes s limit t h ∙ dummy_writes s t h e)) w;
}

-- ---- the search

-- it begins where all stands between items,
pub search_begins : (s : Setup) (h : Story) (c : ℕ) (f : Fetch) → IsKept s h c f → IsSearching s h h.done c f
search_begins s h c f k = record {
  at = k.at;
  written = k.written;
  later = omega arith;
  fails = λ u low high. absurd (omega (arith, low, high));
  ahead = k.ahead;
}

-- and all stands so wherever it is left, also where the item that it finds isn't done below the limit
pub search_leaves : (s : Setup) (h : Story) (t c : ℕ) (f : Fetch) → IsSearching s h t c f → IsKept s h c f
search_leaves s h t c f i = record { at = i.at; ahead = i.ahead; written = i.written }
