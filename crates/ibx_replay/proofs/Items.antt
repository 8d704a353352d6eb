-- The fetch side over one item of a story: an event's item, and a dummy.
use Rattle.std.proofs.Common.{◌≡◌, ℕ, ◌+◌, ◌^◌, ◌<◌, ◌≤◌, Bool, true, false, List, [], ◌∷◌, ◌++◌, Option, Some, None}
use Rattle.std.proofs.Common.{refl, sym, ap, ◌∙◌, subst, arith, nat_le, if◌then◌else◌}
use Rattle.std.proofs.lemmas.Bool.{lt-leb}
use Rattle.ibx_isa.specs.declared.event.Access.{Access}
use Rattle.ibx_plan.specs.declared.site.Wait.{Wait}
use Rattle.ibx_arch.specs.Memory.{Memory, image_memory, read_bytes}
use Rattle.ibx_arch.specs.Step.{Choice, step_with}
use Rattle.ibx_time.specs.Settings.{Settings, Setup, settings_of, lines_in}
use Rattle.ibx_time.specs.Controls.{enables_cache, ctl_after}
use Rattle.ibx_time.specs.Items.{Portions, NoPortion, One, OneBad, Two, TwoBad, Item, dummy_item}
use Rattle.ibx_time.specs.Memories.{Write, write_of, writes_with, written_by}
use Rattle.ibx_time.specs.Streams.{Stream}
use Rattle.ibx_time.specs.Times.{admitted, after_event}
use Rattle.ibx_time.specs.History.{Story, taken, continued, ended_by, choice_at, item_at, item_by, access_at, done_at}
use Rattle.ibx_time.specs.History.{view_with}
use Rattle.ibx_time.proofs.Settled.{IsBefore, all_at, later_before}
use Rattle.ibx_time.proofs.Written.{all_written}
use Rattle.ibx_time.proofs.Seen.{choice_turns, item_at_is}
use Rattle.ibx_time.proofs.Timed.{done_after}
use Rattle.ibx_replay.specs.Fetches.{Fetch, Written, held_in, first_of, second_of, finish, end_of}
use Rattle.ibx_replay.proofs.Fetched.{Holds}
use Rattle.ibx_replay.proofs.Keeps.{holds_later}
use Rattle.ibx_replay.proofs.Enters.{AreOld}
use Rattle.ibx_replay.proofs.Stores.{reads_of, kept_word, held_is, old_is}
use Rattle.ibx_replay.proofs.TurnBits.{turn_keeps_bit}
use Rattle.ibx_replay.proofs.Finishes.{IsAt, finishes}

-- ---- the writes of an item that may have no access

-- the words that the code keeps of its store
abbrev pub first_for : Portions → Option Access → Memory → List Write → List Wait → ℕ → ℕ → Option Written
first_for portions None m ws waits n e = None
first_for portions (Some a) m ws waits n e = first_of portions a.store (kept_word m ws waits n e a false)

-- the second portion's word of an access, with the cycle of its grant and the word before it
abbrev pub second_for : Portions → Option Access → Memory → List Write → List Wait → ℕ → ℕ → Option Written
second_for portions None m ws waits n e = None
second_for portions (Some a) m ws waits n e = second_of portions a.store (kept_word m ws waits n e a true)

-- what the code reads, where memory after the item is `now`
abbrev pub held_for : Portions → Option Access → Memory → List Write → List Wait → ℕ → ℕ → Memory → ℕ → ℕ → ℕ
held_for portions o m ws waits n e now =
    held_in (first_for portions o m ws waits n e) (second_for portions o m ws waits n e) (λ b. read_bytes now b 4)

-- the store writes at all
abbrev pub writes_some : Portions → Bool → Bool
writes_some portions false = false
writes_some NoPortion true = false
writes_some One true = true
writes_some OneBad true = true
writes_some Two true = true
writes_some TwoBad true = true

-- an access that is a store with a portion on the bus
abbrev pub stores_for : Portions → Option Access → Bool
stores_for portions None = false
stores_for portions (Some a) = writes_some portions a.store

-- an access at an address, of up to four bytes
abbrev pub IsSmall : Option Access → Type 0
IsSmall None = Unit {0}
IsSmall (Some a) = (a.addr < 2 ^ 32) × (a.size ≤ 4)

-- an item's writes change nothing that was read up to its enter
pub old_for : (portions : Portions) (o : Option Access) (m : Memory) (ws : List Write) (waits : List Wait) (n e : ℕ)
    → AreOld (reads_of m ws) (reads_of m (writes_with waits n e portions o ws)) e
old_for portions None m ws waits n e = λ g a h. refl
old_for portions (Some a) m ws waits n e = old_is portions a.store m waits n e a ws

-- with the two kept words, memory is known in every cycle from the last item's done on
pub held_for_is : (portions : Portions) (o : Option Access) (m : Memory) (ws : List Write) (waits : List Wait)
    (n e since : ℕ)
    → IsSmall o → IsBefore ws since → Holds (held_for portions o m ws waits n e
    (all_written m (writes_with waits n e portions o ws))) (reads_of m (writes_with waits n e portions o ws)) since
unfolding held_in
held_for_is portions None m ws waits n e since small z =
    λ g b late low even. ap (λ v. read_bytes v b 4) (sym (all_at m ws g (later_before ws since g late z)))
held_for_is portions (Some a) m ws waits n e since small z = held_is portions m waits n e a ws since small.0 small.1 z

-- without a portion of a store nothing is written
no_writes : (portions : Portions) (store : Bool) (first second : Write) (ws : List Write)
    → writes_some portions store ≡ false
    → ws ≡ written_by portions store first second ws
unfolding written_by
no_writes NoPortion false first second ws e = refl
no_writes One false first second ws e = refl
no_writes OneBad false first second ws e = refl
no_writes Two false first second ws e = refl
no_writes TwoBad false first second ws e = refl
no_writes NoPortion true first second ws e = refl
no_writes One true first second ws e = let no_ : true ≡ false = e in cc
no_writes OneBad true first second ws e = let no_ : true ≡ false = e in cc
no_writes Two true first second ws e = let no_ : true ≡ false = e in cc
no_writes TwoBad true first second ws e = let no_ : true ≡ false = e in cc

-- so memory is the same in every cycle
same_for : (portions : Portions) (o : Option Access) (m : Memory) (ws : List Write) (waits : List Wait) (n e : ℕ)
    → stores_for portions o ≡ false → reads_of m ws ≡ reads_of m (writes_with waits n e portions o ws)
same_for portions None m ws waits n e h = refl
same_for portions (Some a) m ws waits n e h =
    ap (reads_of m) (no_writes portions a.store (write_of waits n e a false) (write_of waits n e a true) ws h)

-- ---- the fetch side of a story

-- what stands of the fetch side after a story, with all requests made that are issued before c
abbrev pub FetchOf : Setup → Story → ℕ → Fetch → Type 0
FetchOf s h c f =
    IsAt (settings_of s) (reads_of (image_memory s.image) h.writes) h.times.stream c (enables_cache h.times.ctl) f

-- an item that is admitted at t takes a last half as it enters
abbrev pub takes_at : Setup → ℕ → Story → Bool
takes_at s t h = nat_le 2 (h.times.half + (item_at s t h).parcels)

-- what the code reads once the item is done
abbrev pub held_at : Setup → ℕ → Story → ℕ → ℕ → ℕ
held_at s t h = held_for (item_at s t h).portions (access_at s t h)
    (image_memory s.image) h.writes s.plan.dwaits h.times.made (t + 1)
    (all_written (image_memory s.image) (taken s t h).writes)

-- the fetch side after an event's item that is admitted at t
abbrev pub finished_at : Setup → ℕ → ℕ → Story → ℕ → Fetch → Fetch
finished_at s limit t h pc f =
    finish (settings_of s) (enables_cache h.times.ctl) (held_at s t h) h.done (t + 1) (done_at s limit t h)
    (takes_at s t h)
    (stores_for (item_at s t h).portions (access_at s t h)) (item_at s t h).fences (item_at s t h).redirects pc f

-- with the requests before its enter made, and its words there
pub record IsAdmitted (s : Setup) (t : ℕ) (h : Story) (f : Fetch) : Type 0 where
  pub at : FetchOf s h (t + 1) f
  pub later : h.done ≤ t
  pub before : IsBefore h.writes h.done
  pub access : IsSmall (access_at s t h)
  pub there : takes_at s t h ≡ true → 0 < f.count
  pub some : (item_at s t h).fences ≡ true → 0 < f.count

-- So it stands for the story after the item.
ended_keeps : (s : Setup) (limit t : ℕ) (h : Story) (choice : Choice) (f : Fetch) → IsAdmitted s t h f
    → item_at s t h ≡ item_by s h (Some choice)
    → let pc = (step_with (lines_in (settings_of s)) h.state choice (done_at s limit t h)).next.pc in pc < 2 ^ 32
    → FetchOf s (ended_by s h (Some choice) (item_at s t h) (done_at s limit t h) (taken s t h))
    (end_of (item_at s t h).redirects (done_at s limit t h)) (finished_at s limit t h pc f)
unfolding taken admitted after_event
ended_keeps s limit t h choice f a is small =
    let k : Settings = settings_of s in
    let m : Memory = image_memory s.image in
    let i : Item = item_at s t h in
    let d = done_at s limit t h in
    let pc = (step_with (lines_in k) h.state choice d).next.pc in
    let ws = writes_with s.plan.dwaits h.times.made (t + 1) i.portions (access_at s t h) h.writes in
    let c = ctl_after h.times.ctl (view_with s h choice) in
    let low : h.done < t + 1 = omega (arith, a.later) in
    finishes k (reads_of m h.writes) (reads_of m ws) (held_at s t h) h.times.stream a.at.q h.done (t + 1) d
    (takes_at s t h)
    (stores_for i.portions (access_at s t h)) i.fences i.redirects pc
    (enables_cache h.times.ctl) c f a.at.fetch a.at.settled
    (record {
      there = a.there;
      old = old_for i.portions (access_at s t h) m h.writes s.plan.dwaits h.times.made (t + 1);
      holds = holds_later (held_at s t h) (reads_of m ws) h.done (h.done + 1) (omega arith)
          (held_for_is i.portions (access_at s t h) m h.writes s.plan.dwaits h.times.made
          (t + 1) h.done a.access a.before);
      same = same_for i.portions (access_at s t h) m h.writes s.plan.dwaits h.times.made (t + 1);
      before = low;
      ends = omega (arith, done_after k limit t i h.times);
      turns = subst (λ j. j.fences ≡ true → j.redirects ≡ true) (sym is) (choice_turns s h (Some choice));
      some = a.some;
      leaves = subst (λ j. j.redirects ≡ true → enables_cache c ≡ enables_cache h.times.ctl) (sym is)
          (turn_keeps_bit k h.times.ctl (view_with s h choice));
      small = small;
    })

-- the same of the story that goes on
pub item_keeps : (s : Setup) (limit t : ℕ) (h : Story) (choice : Choice) (f : Fetch) → IsAdmitted s t h f
    → choice_at s t h ≡ Some choice → (continued s limit t h).state.pc < 2 ^ 32
    → FetchOf s (continued s limit t h) (end_of (item_at s t h).redirects (done_at s limit t h))
    (finished_at s limit t h (continued s limit t h).state.pc f)
unfolding continued
item_keeps s limit t h choice f a e small =
    let P : Option Choice → Type 0 = λ o.
    (ended_by s h o (item_at s t h) (done_at s limit t h) (taken s t h)).state.pc < 2 ^ 32
    → FetchOf s (ended_by s h o (item_at s t h) (done_at s limit t h) (taken s t h))
    (end_of (item_at s t h).redirects (done_at s limit t h))
    (finished_at s limit t h (ended_by s h o (item_at s t h) (done_at s limit t h) (taken s t h)).state.pc f) in
    subst P (sym e) (ended_keeps s limit t h choice f a (item_at_is s t h ∙ ap (item_by s h) e)) small

-- ---- a dummy

-- it takes no parcel, and makes no store
pub dummy_is : (s : Setup) (t : ℕ) (h : Story) → choice_at s t h ≡ None
    → ((item_at s t h).parcels ≡ 0) × ((item_at s t h).portions ≡ NoPortion)
unfolding dummy_item
dummy_is s t h e =
    let i : item_at s t h ≡ item_by s h None = item_at_is s t h ∙ ap (item_by s h) e in
    (ap (λ i. i.parcels) i, ap (λ i. i.portions) i)

-- an item without portions writes nothing
pub no_portion : (waits : List Wait) (n e : ℕ) (o : Option Access) (ws : List Write)
    → writes_with waits n e NoPortion o ws ≡ ws
unfolding written_by
no_portion waits n e None ws = refl
no_portion waits n e (Some a) ws = by a.store
  where
    by : (b : Bool) → written_by NoPortion b (write_of waits n e a false) (write_of waits n e a true) ws ≡ ws
    by true = refl
    by false = refl

-- a dummy takes no half of a word
dummy_enters : (half parcels e : ℕ) (enters : List ℕ) → half < 2 → parcels ≡ 0
    → (if nat_le 2 (half + parcels) then enters ++ e ∷ [] else enters) ≡ enters
dummy_enters half parcels e enters low h = rw (lt-leb 2 (half + parcels) (omega (arith, low, h))) refl

-- so it changes nothing of the fetch side
dummy_ends : (s : Setup) (limit t c : ℕ) (h : Story) (f : Fetch) → FetchOf s h c f → h.times.half < 2
    → choice_at s t h ≡ None → FetchOf s (ended_by s h None (item_at s t h) (done_at s limit t h) (taken s t h)) c f
unfolding taken admitted
dummy_ends s limit t c h f a low e =
    let i : Item = item_at s t h in
    let d = dummy_is s t h e in
    let m : Memory = image_memory s.image in
    let log : writes_with s.plan.dwaits h.times.made (t + 1) i.portions (access_at s t h) h.writes ≡ h.writes =
    ap (λ p. writes_with s.plan.dwaits h.times.made (t + 1) p (access_at s t h) h.writes) d.1
    ∙ no_portion s.plan.dwaits h.times.made (t + 1) (access_at s t h) h.writes in
    let x : Stream = h.times.stream in
    let enters = dummy_enters h.times.half i.parcels (t + 1) x.enters low d.0 in
    let with : List ℕ → Stream = λ es. record x { enters = es } in
    subst (λ ws. IsAt (settings_of s) (reads_of m ws)
    (with (if nat_le 2 (h.times.half + i.parcels) then x.enters ++ (t + 1) ∷ [] else x.enters)) c
    (enables_cache h.times.ctl) f) (sym log)
    (subst (λ es. IsAt (settings_of s) (reads_of m h.writes) (with es) c (enables_cache h.times.ctl) f) (sym enters) a)

-- a dummy leaves the fetch side as it is
pub dummy_keeps : (s : Setup) (limit t c : ℕ) (h : Story) (f : Fetch) → FetchOf s h c f → h.times.half < 2
    → choice_at s t h ≡ None → FetchOf s (continued s limit t h) c f
unfolding continued
dummy_keeps s limit t c h f a low e =
    let P : Option Choice → Type 0 = λ o.
    FetchOf s (ended_by s h o (item_at s t h) (done_at s limit t h) (taken s t h)) c f in
    subst P (sym e) (dummy_ends s limit t c h f a low e)
