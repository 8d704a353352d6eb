-- Two runs go on alike as long as nothing leaks.
use Rattle.std.proofs.lemmas.Bool.{le-ltb, ltb-false}
use Rattle.ibx_time.proofs.Timed.{done_after}
use Rattle.ibx_secret.proofs.Places.{left_of, right_of}
use Rattle.ibx_secret.specs.Runs.{has_leak, AreTimedAlike, leaks_in, open_leaks, marks_end}
use Rattle.ibx_time.proofs.Views.{event_cycle}
use Rattle.std.proofs.Common.{◌≡◌, ℕ, zero, suc, ◌+◌, ◌-◌, ◌%◌, ◌^◌, ◌∙◌, Bool, true, false, List, ◌≤◌, take, arith}
use Rattle.std.proofs.Common.{nat_lt, ◌∷◌, []}
use Rattle.std.proofs.Common.{length, Option, Some, None, refl, sym, ap, subst}
use Rattle.std.proofs.Common.{if◌then◌else◌}
use Rattle.ibx_elf.specs.Image.{LoadedBytes}
use Rattle.ibx_isa.specs.declared.event.View.{View}
use Rattle.ibx_isa.specs.Views.{view_of}
use Rattle.ibx_csr.specs.Values.{counters_after}
use Rattle.ibx_arch.specs.Memory.{image_memory, Memory}
use Rattle.ibx_arch.specs.State.{at_cycle, State}
use Rattle.ibx_arch.specs.Fetch.{fetch}
use Rattle.ibx_arch.specs.Step.{Choice, Stepped, step_with, instruction, Interrupt, Parcels, interrupted}
use Rattle.ibx_time.specs.Search.{first_from}
use Rattle.ibx_time.specs.Settings.{Settings, Setup, lines_in, settings_of}
use Rattle.ibx_arch.specs.Step.{pending_in}
use Rattle.ibx_time.specs.Controls.{ctl_of, ctl_after, values_of, Ctl}
use Rattle.ibx_time.specs.Dummies.{is_due_in}
use Rattle.ibx_time.specs.Items.{Item, item_of, Portions, dummy_item}
use Rattle.ibx_time.specs.Times.{Times, Kind, ADummy, kind_at, kind_by, is_ready, has_answered, AnInterrupt}
use Rattle.ibx_time.specs.Times.{AnInstruction}
use Rattle.ibx_time.specs.Times.{admitted, after_event, done_of}
use Rattle.ibx_time.specs.Memories.{Write, writes_with, access_of, sent_with}
use Rattle.ibx_time.specs.Requests.{Transaction}
use Rattle.ibx_time.specs.Streams.{past}
use Rattle.ibx_time.specs.History.{Story, admission, view_with, brought, Told, told, continued, event_at, kind_of}
use Rattle.ibx_time.specs.History.{choice_by, item_by, access_by, ended_by, event_by, taken, item_at, access_at}
use Rattle.ibx_time.specs.History.{with_event}
use Rattle.ibx_time.specs.History.{brought_parcels, words_there}
use Rattle.ibx_time.proofs.SameViews.{step_view}
use Rattle.ibx_secret.specs.Marks.{Marks, marks_after, word_of}
use Rattle.ibx_secret.specs.Leaks.{leaks, is_marked_half, leaks_fetched}
use Rattle.ibx_secret.specs.Twins.{Shared, Private, AreAlike, AgreeOff, AreTwins, SameTime, bare, shared_of, private_of}
use Rattle.ibx_secret.specs.Laws.{FetchAlike}
use Rattle.ibx_secret.proofs.Csrs.{csrs_of, state_of, moved, moved_alike}
use Rattle.ibx_secret.proofs.Words.{fetched_count, count_of, count_same, fetch_same}
use Rattle.ibx_secret.proofs.Logs.{LogsAlike, brought_alike}
use Rattle.ibx_isa.specs.declared.insn.Insn.TheVariants.{Lui, Auipc, Jal, Jalr, Branch, Load, Store, AluImm, Alu}
use Rattle.ibx_isa.specs.declared.insn.Insn.TheVariants.{MulDiv, Csr, Fence, FenceI, Ecall, Ebreak, Mret, Wfi}
use Rattle.ibx_plan.specs.declared.site.Wait.{Wait}
use Rattle.ibx_arch.specs.Memory.{with_bytes}
use Rattle.ibx_arch.specs.Writes.{PortionWrite, after_writes, step_writes}
use Rattle.ibx_isa.specs.declared.event.Event.{Event}
use Rattle.ibx_isa.specs.declared.insn.Insn.{Insn}
use Rattle.ibx_decoder.specs.Instructions.{instruction_of}
use Rattle.ibx_secret.proofs.Writes.{fetched_logs, zero_none}
use Rattle.ibx_arch.proofs.Written.{writes_memory}
use Rattle.ibx_time.proofs.Follows.{step_ctl}
use Rattle.ibx_secret.proofs.Rows.{item_by as item_by_insn, item_is}
use Rattle.ibx_secret.proofs.Alike.{steps_alike, view_word}

-- the first cycle by two tests that say the same
first_alike : (n : ℕ) (p q : ℕ → Bool) (c : ℕ) → ((u : ℕ) → p u ≡ q u) → first_from n p c ≡ first_from n q c
unfolding first_from
first_alike zero p q c e = refl
first_alike (suc n) p q c e =
    ap (λ b. if b then c else first_from n p (c + 1)) (e c)
    ∙ ap (λ r. if q c then c else r) (first_alike n p q (c + 1) e)

-- a due dummy waits for nothing
ready_due : (o : Option ℕ) (w : Bool) → is_ready (kind_by o true) w ≡ true
ready_due None w = refl
ready_due (Some number) w = refl

due_ready : (k : Settings) (x : Times) (u : ℕ) (w : Bool) → is_due_in x.ctl x.dummies ≡ true
    → is_ready (kind_at k x u) w ≡ true
unfolding kind_at
due_ready k x u w e =
    subst (λ d. is_ready (kind_by (pending_in (values_of x.ctl) (lines_in k u)) d) w ≡ true) (sym e)
    (ready_due (pending_in (values_of x.ctl) (lines_in k u)) w)

dummy_due : (o : Option ℕ) (due : Bool) → kind_by o due ≡ ADummy → due ≡ true
dummy_due (Some number) due e = absurd (cc)
dummy_due None true e = refl
dummy_due None false e = absurd (cc)

is_due : (k : Settings) (x : Times) (t : ℕ) → kind_at k x t ≡ ADummy → is_due_in x.ctl x.dummies ≡ true
unfolding kind_at
is_due k x t e = dummy_due (pending_in (values_of x.ctl) (lines_in k t)) (is_due_in x.ctl x.dummies) e

-- a view without its operands leaves the same times
times_bare : (k : Settings) (d : ℕ) (v : View) (i : Item) (pc : ℕ) (x : Times)
    → after_event k d v i pc x ≡ after_event k d (bare v) i pc x
unfolding after_event ctl_after
times_bare k d v i pc x = refl

-- ---- what a step writes

access_late : (q : Shared) (x : Private) (cycle n : ℕ) (o : Option Insn)
    → access_of (state_of (record q { stands = cycle }) (moved q n x)) o ≡ access_of (state_of q x) o
access_late q x cycle n None = refl
access_late q x cycle n (Some (Lui rd imm)) = refl
access_late q x cycle n (Some (Auipc rd imm)) = refl
access_late q x cycle n (Some (Jal rd imm)) = refl
access_late q x cycle n (Some (Jalr rd rs1 imm)) = refl
access_late q x cycle n (Some (Branch op rs1 rs2 imm)) = refl
access_late q x cycle n (Some (Load op rd rs1 imm)) = refl
access_late q x cycle n (Some (Store size rs1 rs2 imm)) = refl
access_late q x cycle n (Some (AluImm op rd rs1 imm)) = refl
access_late q x cycle n (Some (Alu op rd rs1 rs2)) = refl
access_late q x cycle n (Some (MulDiv op rd rs1 rs2)) = refl
access_late q x cycle n (Some (Csr op rd src imm addr)) = refl
access_late q x cycle n (Some Fence) = refl
access_late q x cycle n (Some FenceI) = refl
access_late q x cycle n (Some Ecall) = refl
access_late q x cycle n (Some Ebreak) = refl
access_late q x cycle n (Some Mret) = refl
access_late q x cycle n (Some Wfi) = refl

-- the logs after a step
step_logs : (k : Settings) (lines : ℕ → ℕ) (m : Marks) (q : Shared) (x y : Private) (cycle : ℕ) (choice : Choice)
    → AreAlike m x y → q.ram ≡ k.ram → leaks k.mul m (step_with lines (state_of q x) choice cycle).event ≡ false
    → (c : Ctl) (p r : Memory) (ws us : List Write) (waits : List Wait) (n e : ℕ) → p.ram ≡ q.ram → r.ram ≡ q.ram
    → LogsAlike m.ever p r ws us
    → LogsAlike (marks_after q.ram m (step_with lines (state_of q x) choice cycle).event).ever p r
    (writes_with waits n e (item_of k c (view_of (step_with lines (state_of q x) choice cycle).event)).portions
    (access_of (state_of q x) (instruction_of (word_of (step_with lines (state_of q x) choice cycle).event))) ws)
    (writes_with waits n e (item_of k c (view_of (step_with lines (state_of q x) choice cycle).event)).portions
    (access_of (state_of q y) (instruction_of (word_of (step_with lines (state_of q x) choice cycle).event))) us)
unfolding step_with instruction interrupted counters_after marks_after
step_logs k lines m q x y cycle (Interrupt number) s er leak c p r ws us waits n e pr rr l =
    let o : Option Insn = instruction_of 0 in
    let portions : Portions =
    (item_of k c (view_of (step_with lines (state_of q x) (Interrupt number) cycle).event)).portions in
    subst (λ a. LogsAlike m.ever p r (writes_with waits n e portions (access_of (state_of q x) a) ws)
    (writes_with waits n e portions (access_of (state_of q y) a) us)) (sym zero_none) l
step_logs k lines m q x y cycle (Parcels first second) s er leak c p r ws us waits n e pr rr l =
    let here : Shared = record q { stands = cycle } in
    let xl : Private = moved q (cycle - q.stands) x in
    let yl : Private = moved q (cycle - q.stands) y in
    let event : Event = (step_with lines (state_of q x) (Parcels first second) cycle).event in
    let o : Option Insn = instruction_of (word_of event) in
    let is : (item_of k c (view_of event)).portions ≡ (item_by_insn k c (view_of event) o).portions =
    ap (λ i. i.portions) (item_is k c (view_of event) ∙ ap (λ w. item_by_insn k c (view_of event) (instruction_of w))
    (view_word event)) in
    subst (λ g. LogsAlike (marks_after q.ram m event).ever p r (writes_with waits n e g (access_of (state_of q x) o) ws)
    (writes_with waits n e g (access_of (state_of q y) o) us)) (sym is)
    (subst (λ a. LogsAlike (marks_after q.ram m event).ever p r
    (writes_with waits n e (item_by_insn k c (view_of event) o).portions a ws)
    (writes_with waits n e (item_by_insn k c (view_of event) o).portions (access_of (state_of q y) o) us))
    (access_late q x cycle (cycle - q.stands) o)
    (subst (λ a. LogsAlike (marks_after q.ram m event).ever p r
    (writes_with waits n e (item_by_insn k c (view_of event) o).portions (access_of (state_of here xl) o) ws)
    (writes_with waits n e (item_by_insn k c (view_of event) o).portions a us))
    (access_late q y cycle (cycle - q.stands) o)
    (fetched_logs k here xl yl cycle m (lines cycle) (fetch (at_cycle (state_of q x) cycle) first second)
    (moved_alike m q (cycle - q.stands) x y s) er leak c p r ws us waits n e pr rr l)))

-- a step leaves the range of RAM
writes_ram : (memory : Memory) (ws : List PortionWrite) → (after_writes memory ws).ram ≡ memory.ram
unfolding after_writes with_bytes
writes_ram memory [] = refl
writes_ram memory (w ∷ ws) = writes_ram (with_bytes memory w.addr w.from w.to w.value) ws

step_ram : (lines : ℕ → ℕ) (s : State) (choice : Choice) (cycle : ℕ)
    → (step_with lines s choice cycle).next.memory.ram ≡ s.memory.ram
step_ram lines s choice cycle =
    ap (λ n. n.ram) (writes_memory lines s choice cycle) ∙ writes_ram s.memory (step_writes s choice)

-- ---- what is told, by the kind of the next item

-- the story with an item of a kind, and after it
abbrev taken_by : Setup → ℕ → Story → Kind → Story
taken_by s t h kind = record h {
  times = admitted kind t (item_by s h (choice_by s h kind)) h.times;
  writes =
      writes_with s.plan.dwaits h.times.made (t + 1) (item_by s h (choice_by s h kind)).portions
      (access_by s h (choice_by s h kind)) h.writes;
  sent =
      sent_with s.plan.dwaits h.times.made (t + 1) (item_by s h (choice_by s h kind)).portions
      (access_by s h (choice_by s h kind)) h.sent;
}

abbrev done_in : Setup → ℕ → ℕ → Story → Kind → ℕ
done_in s limit t h kind = done_of (settings_of s) limit t (item_by s h (choice_by s h kind)) h.times

abbrev next_in : Setup → ℕ → ℕ → Story → Kind → ℕ → Story
next_in s limit t h kind d =
    ended_by s h (choice_by s h kind) (item_by s h (choice_by s h kind)) d (taken_by s t h kind)

-- the events from it on, where it is done in a cycle
abbrev events_in : Setup → ℕ → ℕ → Story → ℕ → Kind → ℕ → List Event
events_in s limit n h t kind d =
    if nat_lt d limit
    then with_event (event_by s h (choice_by s h kind) d) (told s limit n (next_in s limit t h kind d)).events
    else []

told_is : (s : Setup) (limit n : ℕ) (h : Story)
    → (told s limit (suc n) h).events
    ≡ events_in s limit n h (admission s limit h) (kind_of s (admission s limit h) h)
    (done_in s limit (admission s limit h) h (kind_of s (admission s limit h) h))
unfolding told item_at access_at continued taken event_at
told_is s limit n h = by (nat_lt (done_in s limit t h kind) limit)
  where
    t : ℕ
    t = admission s limit h

    kind : Kind
    kind = kind_of s t h

    more : Told
    more = told s limit n (next_in s limit t h kind (done_in s limit t h kind))

    whole : Told
    whole = record {
      events = with_event (event_by s h (choice_by s h kind) (done_in s limit t h kind)) more.events;
      story = more.story;
    }

    nothing : Told
    nothing = record { events = []; story = h }

    by : (b : Bool)
        → (if◌then◌else◌ {A = Told} b whole nothing).events ≡ (if b then whole.events else [])
    by true = refl
    by false = refl

-- the same with the story that is left
told_pair : (s : Setup) (limit n : ℕ) (h : Story)
    → told s limit (suc n) h
    ≡ record {
      events = events_in s limit n h (admission s limit h) (kind_of s (admission s limit h) h)
          (done_in s limit (admission s limit h) h (kind_of s (admission s limit h) h));
      story = if nat_lt (done_in s limit (admission s limit h) h (kind_of s (admission s limit h) h)) limit
          then (told s limit n (next_in s limit (admission s limit h) h (kind_of s (admission s limit h) h)
          (done_in s limit (admission s limit h) h (kind_of s (admission s limit h) h)))).story else h;
    }
unfolding told item_at access_at continued taken event_at
told_pair s limit n h = by (nat_lt (done_in s limit t h kind) limit)
  where
    t : ℕ
    t = admission s limit h

    kind : Kind
    kind = kind_of s t h

    more : Told
    more = told s limit n (next_in s limit t h kind (done_in s limit t h kind))

    whole : Told
    whole = record {
      events = with_event (event_by s h (choice_by s h kind) (done_in s limit t h kind)) more.events;
      story = more.story;
    }

    nothing : Told
    nothing = record { events = []; story = h }

    by : (b : Bool)
        → if◌then◌else◌ {A = Told} b whole nothing
        ≡ record { events = if b then whole.events else []; story = if b then more.story else h }
    by true = refl
    by false = refl

module _ (k : Settings) (entry : ℕ) (left right : List LoadedBytes) where
  -- the two setups
  abbrev pub setup : List LoadedBytes → Setup
  setup segments = record {
    image = record { ram = k.ram; entry = entry; segments = segments };
    mul = k.mul;
    plan = k.plan;
  }

  images_ram : (segments : List LoadedBytes) → (image_memory (setup segments).image).ram ≡ k.ram
  unfolding image_memory
  images_ram segments = refl

  -- two stories that may be told apart by the secret bytes alone
  pub record AreTwinStories (m : Marks) (g h : Story) : Type 0 where
    pub times : g.times ≡ h.times
    pub done : g.done ≡ h.done
    pub state : AgreeOff m g.state h.state
    pub ram : g.state.memory.ram ≡ k.ram
    pub ctl : g.times.ctl ≡ ctl_of g.state.csrs
    pub logs : LogsAlike m.ever (image_memory (setup left).image) (image_memory (setup right).image) g.writes h.writes

  -- so many items are told alike from such stories on
  abbrev ToldAlike : ℕ → Type 0
  ToldAlike n =
      (m : Marks) (g h : Story) → AreTwinStories m g h → (limit j : ℕ) → j ≤ length (told (setup left) limit n g).events
      → has_leak k.ram k.mul m (take j (told (setup left) limit n g).events) ≡ false
      → AreTimedAlike k g.times.ctl (take j (told (setup left) limit n g).events)
      (take j (told (setup right) limit n h).events)

  -- so are all of them, where what follows doesn't leak either
  abbrev WholeAlike : ℕ → Type 0
  WholeAlike n =
      (m : Marks) (g h : Story) → AreTwinStories m g h → (limit : ℕ)
      → has_leak k.ram k.mul m (told (setup left) limit n g).events ≡ false
      → open_leaks (setup left) limit (marks_end k.ram m (told (setup left) limit n g).events)
      (told (setup left) limit n g).story ≡ false
      → AreTimedAlike k g.times.ctl (told (setup left) limit n g).events (told (setup right) limit n h).events

  module _ (m : Marks) (z : Times) (q : Shared) (x y : Private) (wa wb : List Write) (ca cb : List Transaction) (d : ℕ)
      (s : AreAlike m x y) (er : q.ram ≡ k.ram) (hc : z.ctl ≡ ctl_of (csrs_of q x))
      (logs : LogsAlike m.ever (image_memory (setup left).image) (image_memory (setup right).image) wa wb) where
    abbrev ga : Story
    ga = record { times = z; state = state_of q x; writes = wa; sent = ca; done = d }

    abbrev gb : Story
    gb = record { times = z; state = state_of q y; writes = wb; sent = cb; done = d }

    -- ---- the words

    word_alike : (j addr : ℕ) → is_marked_half m addr ≡ false → brought (setup left) ga j addr ≡ brought
        (setup right) gb j addr
    unfolding image_memory
    word_alike j addr e =
        brought_alike k.ram m.ever (image_memory (setup left).image) (image_memory (setup right).image) wa wb
        (past k z.stream (suc j)).grant addr 2 refl refl logs e

    abbrev first_at : Setup → Story → ℕ
    first_at r g = brought r g (length z.stream.enters) q.pc

    abbrev second_at : Setup → Story → ℕ
    second_at r g = brought r g (length z.stream.enters + z.half) ((q.pc + 2) % 2 ^ 32)

    abbrev a1 : ℕ
    a1 = first_at (setup left) ga

    abbrev a2 : ℕ
    a2 = second_at (setup left) ga

    abbrev b1 : ℕ
    b1 = first_at (setup right) gb

    abbrev b2 : ℕ
    b2 = second_at (setup right) gb

    -- how many parcels the next instruction takes
    abbrev count_in : Setup → Story → ℕ
    count_in r g = (item_of k z.ctl (view_with r g (brought_parcels r g))).parcels

    count_a : count_in (setup left) ga ≡ count_of q.pc (fetch (state_of q x) a1 a2)
    unfolding step_with instruction brought_parcels fetch counters_after
    count_a = fetched_count k z.ctl (at_cycle (state_of q x) q.stands) q.stands (lines_in k q.stands)
        (fetch (state_of q x) a1 a2)

    count_b : count_in (setup right) gb ≡ count_of q.pc (fetch (state_of q x) b1 b2)
    unfolding step_with instruction brought_parcels fetch counters_after
    count_b = fetched_count k z.ctl (at_cycle (state_of q y) q.stands) q.stands (lines_in k q.stands)
        (fetch (state_of q x) b1 b2)

    counts_first : is_marked_half m q.pc ≡ false → count_in (setup left) ga ≡ count_in (setup right) gb
    counts_first e =
        count_a ∙ count_same (state_of q x) a1 a2 b2
        ∙ ap (λ n. count_of q.pc (fetch (state_of q x) n b2)) (word_alike (length z.stream.enters) q.pc e) ∙ sym count_b

    counts_fetch : fetch (state_of q x) a1 a2 ≡ fetch (state_of q x) b1 b2
        → count_in (setup left) ga ≡ count_in (setup right) gb
    counts_fetch e = count_a ∙ ap (count_of q.pc) e ∙ sym count_b

    -- ---- the admission

    pub admit_count : (limit : ℕ) → count_in (setup left) ga ≡ count_in (setup right) gb
        → admission (setup left) limit ga ≡ admission (setup right) limit gb
    unfolding admission words_there
    admit_count limit e =
        first_alike (limit - d) _ _ d
        (λ u. ap (λ n. is_ready (kind_at k z u) (has_answered k z n u)) e)

    pub admit_due : (limit : ℕ) → is_due_in z.ctl z.dummies ≡ true
        → admission (setup left) limit ga ≡ admission (setup right) limit gb
    unfolding admission
    admit_due limit e =
        first_alike (limit - d) _ _ d
        (λ u. due_ready k z u (words_there (setup left) ga u) e
        ∙ sym (due_ready k z u (words_there (setup right) gb u) e))

    -- ---- a step

    abbrev cycle_after : Setup → Story → ℕ → ℕ → Choice → ℕ
    cycle_after r g limit t choice = done_of k limit t (item_of k z.ctl (view_with r g choice)) z

    module _ (limit t : ℕ) (ka kb : Choice) (fa : FetchAlike (state_of q x) ka kb) where
      abbrev at : ℕ
      at = cycle_after (setup left) ga limit t ka

      abbrev sa : Stepped
      sa = step_with (lines_in k) (state_of q x) ka at

      abbrev sb : Stepped
      sb = step_with (lines_in k) (state_of q y) kb at

      module _ (leak : leaks k.mul m sa.event ≡ false) where
        twins : AreTwins k (ctl_of (csrs_of q x)) (marks_after q.ram m sa.event) sa sb
        twins = steps_alike k (lines_in k) m (state_of q x) (state_of q y) ka kb at
            (record { shared = refl; alike = s }) fa leak

        view_a : view_with (setup left) ga ka ≡ view_of sa.event
        view_a = step_view k (state_of q x) ka q.stands at

        view_b : view_with (setup right) gb kb ≡ view_of sb.event
        view_b = step_view k (state_of q y) kb q.stands at

        item_alike : item_of k z.ctl (view_with (setup left) ga ka) ≡ item_of k z.ctl (view_with (setup right) gb kb)
        item_alike =
            ap (item_of k z.ctl) view_a
            ∙ subst (λ c. item_of k c (view_of sa.event) ≡ item_of k c (view_of sb.event)) (sym hc) twins.event.item
            ∙ ap (item_of k z.ctl) (sym view_b)

        bare_alike : bare (view_with (setup left) ga ka) ≡ bare (view_with (setup right) gb kb)
        bare_alike = ap bare view_a ∙ twins.event.seen ∙ ap bare (sym view_b)

        done_alike : cycle_after (setup left) ga limit t ka ≡ cycle_after (setup right) gb limit t kb
        done_alike = ap (λ i. done_of k limit t i z) item_alike

        pc_alike : sa.next.pc ≡ sb.next.pc
        pc_alike = ap (λ r. r.pc) twins.next.shared

        times_alike : (kind : Kind)
            → after_event k at (view_with (setup left) ga ka) (item_of k z.ctl (view_with (setup left) ga ka))
            sa.next.pc (admitted kind t (item_of k z.ctl (view_with (setup left) ga ka)) z)
            ≡ after_event k at (view_with (setup right) gb kb) (item_of k z.ctl (view_with (setup right) gb kb))
            sb.next.pc (admitted kind t (item_of k z.ctl (view_with (setup right) gb kb)) z)
        times_alike kind =
            let va : View = view_with (setup left) ga ka in
            let vb : View = view_with (setup right) gb kb in
            let ia : Item = item_of k z.ctl va in
            let ib : Item = item_of k z.ctl vb in
            times_bare k at va ia sa.next.pc (admitted kind t ia z)
            ∙ ap (λ v. after_event k at v ia sa.next.pc (admitted kind t ia z)) bare_alike
            ∙ ap (λ i. after_event k at (bare vb) i sa.next.pc (admitted kind t i z)) item_alike
            ∙ ap (λ n. after_event k at (bare vb) ib n (admitted kind t ib z)) pc_alike
            ∙ sym (times_bare k at vb ib sb.next.pc (admitted kind t ib z))

        -- the same event, at the same cycle
        event_alike : SameTime k z.ctl sa.event sb.event
        event_alike = subst (λ c. SameTime k c sa.event sb.event) (sym hc) twins.event

        logs_alike : LogsAlike (marks_after q.ram m sa.event).ever (image_memory (setup left).image)
            (image_memory (setup right).image)
            (writes_with k.plan.dwaits z.made (t + 1) (item_of k z.ctl (view_with (setup left) ga ka)).portions
            (access_by (setup left) ga (Some ka)) wa)
            (writes_with k.plan.dwaits z.made (t + 1) (item_of k z.ctl (view_with (setup right) gb kb)).portions
            (access_by (setup right) gb (Some kb)) wb)
        logs_alike =
            let p : Memory = image_memory (setup left).image in
            let r : Memory = image_memory (setup right).image in
            let ever : ℕ → Bool = (marks_after q.ram m sa.event).ever in
            let va : View = view_with (setup left) ga ka in
            let vb : View = view_with (setup right) gb kb in
            let first : LogsAlike ever p r
            (writes_with k.plan.dwaits z.made (t + 1) (item_of k z.ctl (view_of sa.event)).portions
            (access_of (state_of q x) (instruction_of (word_of sa.event))) wa)
            (writes_with k.plan.dwaits z.made (t + 1) (item_of k z.ctl (view_of sa.event)).portions
            (access_of (state_of q y) (instruction_of (word_of sa.event))) wb) =
            step_logs k (lines_in k) m q x y at ka s er leak z.ctl p r wa wb k.plan.dwaits z.made (t + 1)
            (images_ram left ∙ sym er) (images_ram right ∙ sym er) logs in
            let word_a : word_of sa.event ≡ va.word = sym (view_word sa.event) ∙ ap (λ v. v.word) (sym view_a) in
            let word_b : word_of sa.event ≡ vb.word = word_a ∙ ap (λ v. v.word) bare_alike in
            subst (λ i. LogsAlike ever p r (writes_with k.plan.dwaits z.made (t + 1) (item_of k z.ctl va).portions
            (access_of (state_of q x) (instruction_of va.word)) wa)
            (writes_with k.plan.dwaits z.made (t + 1) i.portions
            (access_of (state_of q y) (instruction_of vb.word)) wb)) item_alike
            (subst (λ w. LogsAlike ever p r (writes_with k.plan.dwaits z.made (t + 1) (item_of k z.ctl va).portions
            (access_of (state_of q x) (instruction_of va.word)) wa)
            (writes_with k.plan.dwaits z.made (t + 1) (item_of k z.ctl va).portions
            (access_of (state_of q y) (instruction_of w)) wb)) word_b
            (subst (λ w. LogsAlike ever p r (writes_with k.plan.dwaits z.made (t + 1) (item_of k z.ctl va).portions
            (access_of (state_of q x) (instruction_of w)) wa)
            (writes_with k.plan.dwaits z.made (t + 1) (item_of k z.ctl va).portions
            (access_of (state_of q y) (instruction_of (word_of sa.event))) wb)) word_a
            (subst (λ v. LogsAlike ever p r (writes_with k.plan.dwaits z.made (t + 1) (item_of k z.ctl v).portions
            (access_of (state_of q x) (instruction_of (word_of sa.event))) wa)
            (writes_with k.plan.dwaits z.made (t + 1) (item_of k z.ctl v).portions
            (access_of (state_of q y) (instruction_of (word_of sa.event))) wb)) (sym view_a) first)))

        -- the stories after it
        abbrev after_a : Kind → Story
        after_a kind =
            let i : Item = item_of k z.ctl (view_with (setup left) ga ka) in
            ended_by (setup left) ga (Some ka) i at (record ga {
              times = admitted kind t i z;
              writes = writes_with k.plan.dwaits z.made (t + 1) i.portions (access_by (setup left) ga (Some ka)) wa;
              sent = sent_with k.plan.dwaits z.made (t + 1) i.portions (access_by (setup left) ga (Some ka)) ca;
            })

        abbrev after_b : Kind → Story
        after_b kind =
            let i : Item = item_of k z.ctl (view_with (setup right) gb kb) in
            ended_by (setup right) gb (Some kb) i at (record gb {
              times = admitted kind t i z;
              writes = writes_with k.plan.dwaits z.made (t + 1) i.portions (access_by (setup right) gb (Some kb)) wb;
              sent = sent_with k.plan.dwaits z.made (t + 1) i.portions (access_by (setup right) gb (Some kb)) cb;
            })

        -- the registers after it are those of the state
        ctl_next : (kind : Kind) → (after_a kind).times.ctl ≡ ctl_of sa.next.csrs
        unfolding after_event admitted
        ctl_next kind =
            ap (λ c. ctl_after c (view_with (setup left) ga ka)) hc
            ∙ ap (ctl_after (ctl_of (csrs_of q x))) view_a
            ∙ sym (step_ctl k (state_of q x) ka at)

        after_alike : (kind : Kind) → AreTwinStories (marks_after k.ram m sa.event) (after_a kind) (after_b kind)
        after_alike kind =
            subst (λ r. AreTwinStories (marks_after r m sa.event) (after_a kind) (after_b kind)) er
            (record {
              times = times_alike kind;
              done = refl;
              state = twins.next;
              ram = step_ram (lines_in k) (state_of q x) ka at ∙ er;
              ctl = ctl_next kind;
              logs = logs_alike;
            })

        -- the registers after it are those of its view
        ctl_view : (kind : Kind) → (after_a kind).times.ctl ≡ ctl_after z.ctl (view_of sa.event)
        unfolding after_event admitted
        ctl_view kind = ap (ctl_after z.ctl) view_a

        -- the events from it on
        abbrev rest_a : ℕ → Kind → List Event
        rest_a n kind = (told (setup left) limit n (after_a kind)).events

        abbrev rest_b : ℕ → Kind → List Event
        rest_b n kind = (told (setup right) limit n (after_b kind)).events

        events_alike : (n : ℕ) (kind : Kind) (j : ℕ) → ToldAlike n → j ≤ length (rest_a n kind)
            → has_leak k.ram k.mul (marks_after k.ram m sa.event) (take j (rest_a n kind)) ≡ false
            → AreTimedAlike k z.ctl (sa.event ∷ take j (rest_a n kind)) (sb.event ∷ take j (rest_b n kind))
        events_alike n kind j ih h e = (
          event_alike,
          (
            event_cycle (setup left) ga ka at ∙ sym (event_cycle (setup right) gb kb at),
            subst (λ c. AreTimedAlike k c (take j (rest_a n kind)) (take j (rest_b n kind))) (ctl_view kind)
                (ih (marks_after k.ram m sa.event) (after_a kind) (after_b kind) (after_alike kind) limit j h e),
          ),
        )

        whole_events : (n : ℕ) (kind : Kind) → WholeAlike n
            → has_leak k.ram k.mul (marks_after k.ram m sa.event) (rest_a n kind) ≡ false
            → open_leaks (setup left) limit (marks_end k.ram (marks_after k.ram m sa.event) (rest_a n kind))
            (told (setup left) limit n (after_a kind)).story ≡ false
            → AreTimedAlike k z.ctl (sa.event ∷ rest_a n kind) (sb.event ∷ rest_b n kind)
        whole_events n kind ih e ends = (
          event_alike,
          (
            event_cycle (setup left) ga ka at ∙ sym (event_cycle (setup right) gb kb at),
            subst (λ c. AreTimedAlike k c (rest_a n kind) (rest_b n kind)) (ctl_view kind)
                (ih (marks_after k.ram m sa.event) (after_a kind) (after_b kind) (after_alike kind) limit e ends),
          ),
        )

    -- ---- the next item, by its kind

    -- what the second run tells
    told_b : (limit n t : ℕ) (kind : Kind) → admission (setup left) limit ga ≡ admission (setup right) limit gb
        → admission (setup left) limit ga ≡ t → kind_at k z t ≡ kind
        → (told (setup right) limit (suc n) gb).events
        ≡ events_in (setup right) limit n gb t kind (done_in (setup right) limit t gb kind)
    told_b limit n t kind same at is =
        told_is (setup right) limit n gb
        ∙ ap (λ u. events_in (setup right) limit n gb u (kind_at k z u)
        (done_in (setup right) limit u gb (kind_at k z u))) (sym same ∙ at)
        ∙ ap (λ i. events_in (setup right) limit n gb t i (done_in (setup right) limit t gb i)) is

    dummy_twins : (limit t c : ℕ)
        → AreTwinStories m (next_in (setup left) limit t ga ADummy c) (next_in (setup right) limit t gb ADummy c)
    unfolding admitted
    dummy_twins limit t c = record {
      times = refl;
      done = refl;
      state = record { shared = refl; alike = s };
      ram = er;
      ctl = hc;
      logs = logs;
    }

    by_dummy : (n limit t j : ℕ) → ToldAlike n
        → suc j ≤ length (events_in (setup left) limit n ga t ADummy (done_in (setup left) limit t ga ADummy))
        → has_leak k.ram k.mul m (take (suc j) (events_in (setup left) limit n ga t ADummy
        (done_in (setup left) limit t ga ADummy))) ≡ false
        → AreTimedAlike k z.ctl
        (take (suc j) (events_in (setup left) limit n ga t ADummy (done_in (setup left) limit t ga ADummy)))
        (take (suc j) (events_in (setup right) limit n gb t ADummy (done_in (setup right) limit t gb ADummy)))
    unfolding admitted
    by_dummy n limit t j ih = by (nat_lt c limit)
      where
        c : ℕ
        c = done_of k limit t (dummy_item k z.dummies) z

        ea : List Event
        ea = (told (setup left) limit n (next_in (setup left) limit t ga ADummy c)).events

        eb : List Event
        eb = (told (setup right) limit n (next_in (setup right) limit t gb ADummy c)).events

        by : (b : Bool) → suc j ≤ length (if b then ea else [])
            → has_leak k.ram k.mul m (take (suc j) (if b then ea else [])) ≡ false
            → AreTimedAlike k z.ctl (take (suc j) (if b then ea else [])) (take (suc j) (if b then eb else []))
        by true h e =
            ih m (next_in (setup left) limit t ga ADummy c) (next_in (setup right) limit t gb ADummy c)
            (dummy_twins limit t c) limit (suc j) h e
        by false h e = absurd (omega (arith, h))

    -- what the second run tells from an event on that is done in a cycle
    abbrev told_of : ℕ → ℕ → ℕ → Kind → Choice → ℕ → List Event
    told_of limit t n kind kb c =
        let i : Item = item_of k z.ctl (view_with (setup right) gb kb) in
        if nat_lt c limit
        then (step_with (lines_in k) (state_of q y) kb c).event
        ∷ (told (setup right) limit n (ended_by (setup right) gb (Some kb) i c (record gb {
          times = admitted kind t i z;
          writes = writes_with k.plan.dwaits z.made (t + 1) i.portions (access_by (setup right) gb (Some kb)) wb;
          sent = sent_with k.plan.dwaits z.made (t + 1) i.portions (access_by (setup right) gb (Some kb)) cb;
        }))).events
        else []

    -- an event, by its choices
    by_event : (n limit t j : ℕ) (kind : Kind) (ka kb : Choice) (fa : FetchAlike (state_of q x) ka kb)
        → (leak : leaks k.mul m (sa limit t ka kb fa).event ≡ false) → ToldAlike n → (b : Bool)
        → nat_lt (at limit t ka kb fa) limit ≡ b
        → suc j ≤ length (if b then (sa limit t ka kb fa).event ∷ rest_a limit t ka kb fa leak n kind else [])
        → has_leak k.ram k.mul m
        (take (suc j) (if b then (sa limit t ka kb fa).event ∷ rest_a limit t ka kb fa leak n kind else [])) ≡ false
        → AreTimedAlike k z.ctl
        (take (suc j) (if b then (sa limit t ka kb fa).event ∷ rest_a limit t ka kb fa leak n kind else []))
        (take (suc j) (told_of limit t n kind kb (cycle_after (setup right) gb limit t kb)))
    unfolding has_leak
    by_event n limit t j kind ka kb fa leak ih false lt h e = absurd (omega (arith, h))
    by_event n limit t j kind ka kb fa leak ih true lt h e =
        let c : ℕ = at limit t ka kb fa in
        let here : told_of limit t n kind kb c
        ≡ (sb limit t ka kb fa).event ∷ rest_b limit t ka kb fa leak n kind =
        ap (λ b. if b then (sb limit t ka kb fa).event ∷ rest_b limit t ka kb fa leak n kind else []) lt in
        subst (λ l. AreTimedAlike k z.ctl
        ((sa limit t ka kb fa).event ∷ take j (rest_a limit t ka kb fa leak n kind)) (take (suc j) l))
        (sym here ∙ ap (told_of limit t n kind kb) (done_alike limit t ka kb fa leak))
        (events_alike limit t ka kb fa leak n kind j ih (omega (arith, h))
        (right_of (leaks k.mul m (sa limit t ka kb fa).event) _ e))

    -- the first event that is told doesn't leak
    first_leak : (b : Bool) (e : Event) (es : List Event) (j : ℕ) → suc j ≤ length (if b then e ∷ es else [])
        → has_leak k.ram k.mul m (take (suc j) (if b then e ∷ es else [])) ≡ false → leaks k.mul m e ≡ false
    unfolding has_leak
    first_leak true e es j h l = left_of (leaks k.mul m e) _ l
    first_leak false e es j h l = absurd (omega (arith, h))

    -- an interrupt is admitted in the same cycle, where the first parcel that it comes before isn't marked
    half_of : (number c : ℕ) → leaks k.mul m (step_with (lines_in k) (state_of q x) (Interrupt number) c).event ≡ false
        → is_marked_half m q.pc ≡ false
    unfolding leaks step_with interrupted counters_after
    half_of number c e = left_of (is_marked_half m q.pc) _ e

    -- an instruction whose event doesn't leak is fetched alike
    fetch_of : (c : ℕ) → leaks k.mul m (step_with (lines_in k) (state_of q x) (Parcels a1 a2) c).event ≡ false
        → fetch (state_of q x) a1 a2 ≡ fetch (state_of q x) b1 b2
    unfolding leaks step_with instruction fetch counters_after
    fetch_of c e =
        fetch_same m (state_of q x) (at_cycle (state_of q x) c) c (lines_in k c) refl a1 a2 b1 b2
        (word_alike (length z.stream.enters) q.pc)
        (word_alike (length z.stream.enters + z.half) ((q.pc + 2) % 2 ^ 32))
        (left_of (leaks_fetched m (step_with (lines_in k) (state_of q x) (Parcels a1 a2) c).event) _ e)

    at_kind : (n limit t : ℕ) (kind : Kind) (j : ℕ) → ToldAlike n → kind_at k z t ≡ kind
        → admission (setup left) limit ga ≡ t
        → suc j ≤ length (events_in (setup left) limit n ga t kind (done_in (setup left) limit t ga kind))
        → has_leak k.ram k.mul m (take (suc j) (events_in (setup left) limit n ga t kind
        (done_in (setup left) limit t ga kind))) ≡ false
        → AreTimedAlike k z.ctl
        (take (suc j) (events_in (setup left) limit n ga t kind (done_in (setup left) limit t ga kind)))
        (take (suc j) (told (setup right) limit (suc n) gb).events)
    unfolding brought_parcels
    at_kind n limit t ADummy j ih is adm h e =
        subst (λ l. AreTimedAlike k z.ctl
        (take (suc j) (events_in (setup left) limit n ga t ADummy (done_in (setup left) limit t ga ADummy)))
        (take (suc j) l))
        (sym (told_b limit n t ADummy (admit_due limit (is_due k z t is)) adm is)) (by_dummy n limit t j ih h e)
    at_kind n limit t (AnInterrupt number) j ih is adm h e =
        let choice : Choice = Interrupt number in
        let c : ℕ = cycle_after (setup left) ga limit t choice in
        let leak : leaks k.mul m (step_with (lines_in k) (state_of q x) choice c).event ≡ false =
        first_leak (nat_lt c limit) _ _ j h e in
        let admits : admission (setup left) limit ga ≡ admission (setup right) limit gb =
        admit_count limit (counts_first (half_of number c leak)) in
        subst (λ l. AreTimedAlike k z.ctl (take (suc j) (events_in (setup left) limit n ga t (AnInterrupt number)
        (done_in (setup left) limit t ga (AnInterrupt number)))) (take (suc j) l))
        (sym (told_b limit n t (AnInterrupt number) admits adm is))
        (by_event n limit t j (AnInterrupt number) choice choice refl leak ih (nat_lt c limit) refl h e)
    at_kind n limit t AnInstruction j ih is adm h e =
        let c : ℕ = cycle_after (setup left) ga limit t (Parcels a1 a2) in
        let leak : leaks k.mul m (step_with (lines_in k) (state_of q x) (Parcels a1 a2) c).event ≡ false =
        first_leak (nat_lt c limit) _ _ j h e in
        let fa : fetch (state_of q x) a1 a2 ≡ fetch (state_of q x) b1 b2 = fetch_of c leak in
        let admits : admission (setup left) limit ga ≡ admission (setup right) limit gb =
        admit_count limit (counts_fetch fa) in
        subst (λ l. AreTimedAlike k z.ctl (take (suc j) (events_in (setup left) limit n ga t AnInstruction
        (done_in (setup left) limit t ga AnInstruction))) (take (suc j) l))
        (sym (told_b limit n t AnInstruction admits adm is))
        (by_event n limit t j AnInstruction (Parcels a1 a2) (Parcels b1 b2) fa leak ih (nat_lt c limit) refl h e)

    -- one item more
    parts_told : (n limit j : ℕ) → ToldAlike n → j ≤ length (told (setup left) limit (suc n) ga).events
        → has_leak k.ram k.mul m (take j (told (setup left) limit (suc n) ga).events) ≡ false
        → AreTimedAlike k z.ctl (take j (told (setup left) limit (suc n) ga).events)
        (take j (told (setup right) limit (suc n) gb).events)
    parts_told n limit zero ih h e = tt
    parts_told n limit (suc j) ih h e =
        let t : ℕ = admission (setup left) limit ga in
        let kind : Kind = kind_at k z t in
        let told_a : (told (setup left) limit (suc n) ga).events
        ≡ events_in (setup left) limit n ga t kind (done_in (setup left) limit t ga kind) =
        told_is (setup left) limit n ga in
        subst (λ l. AreTimedAlike k z.ctl (take (suc j) l) (take (suc j) (told (setup right) limit (suc n) gb).events))
        (sym told_a)
        (at_kind n limit t kind j ih refl refl (subst (λ l. suc j ≤ length l) told_a h)
        (subst (λ l. has_leak k.ram k.mul m (take (suc j) l) ≡ false) told_a e))

    -- ---- the end

    -- of an item that isn't done in either run, no event is told
    not_done : (limit n t : ℕ) (kind : Kind) (c : ℕ) → nat_lt c limit ≡ false
        → events_in (setup right) limit n gb t kind c ≡ []
    not_done limit n t kind c e =
        ap (λ b. if b then with_event (event_by (setup right) gb (choice_by (setup right) gb kind) c)
        (told (setup right) limit n (next_in (setup right) limit t gb kind c)).events else []) e

    -- where the first run's next item isn't done, nor is the second's
    end_kind : (limit t : ℕ) (kind : Kind) → is_marked_half m q.pc ≡ false
        → leaks_in k.mul m (event_by (setup left) ga (choice_by (setup left) ga kind)
        (done_in (setup left) limit t ga kind)) ≡ false
        → done_in (setup left) limit t ga kind ≡ done_in (setup right) limit t gb kind
    unfolding brought_parcels
    end_kind limit t ADummy half leak = refl
    end_kind limit t (AnInterrupt number) half leak =
        done_alike limit t (Interrupt number) (Interrupt number) refl leak
    end_kind limit t AnInstruction half leak =
        done_alike limit t (Parcels a1 a2) (Parcels b1 b2)
        (fetch_of (cycle_after (setup left) ga limit t (Parcels a1 a2)) leak) leak

    end_by : (limit t : ℕ) (kind : Kind) (low : Bool) → nat_lt t limit ≡ low → is_marked_half m q.pc ≡ false
        → (if low then leaks_in k.mul m (event_by (setup left) ga (choice_by (setup left) ga kind)
        (done_in (setup left) limit t ga kind)) else false) ≡ false
        → nat_lt (done_in (setup left) limit t ga kind) limit ≡ false
        → nat_lt (done_in (setup right) limit t gb kind) limit ≡ false
    end_by limit t kind true is half leak over =
        subst (λ c. nat_lt c limit ≡ false) (end_kind limit t kind half leak) over
    end_by limit t kind false is half leak over =
        le-ltb (done_in (setup right) limit t gb kind) limit
        (omega (
          arith,
          done_after k limit t (item_by (setup right) gb (choice_by (setup right) gb kind)) z,
          ltb-false t limit is,
        ))

    parts_end : (limit n : ℕ) → open_leaks (setup left) limit m ga ≡ false
        → nat_lt (done_in (setup left) limit (admission (setup left) limit ga) ga
        (kind_at k z (admission (setup left) limit ga))) limit ≡ false
        → (told (setup right) limit (suc n) gb).events ≡ []
    unfolding open_leaks event_at item_at
    parts_end limit n ends over =
        let t : ℕ = admission (setup left) limit ga in
        let kind : Kind = kind_at k z t in
        let half : is_marked_half m q.pc ≡ false = left_of (is_marked_half m q.pc) _ ends in
        told_b limit n t kind (admit_count limit (counts_first half)) refl refl
        ∙ not_done limit n t kind (done_in (setup right) limit t gb kind)
        (end_by limit t kind (nat_lt t limit) refl half (right_of (is_marked_half m q.pc) _ ends) over)

    -- all of what is told, by the kind of the next item, which is done
    event_whole : (n limit t : ℕ) (kind : Kind) (ka kb : Choice) (fa : FetchAlike (state_of q x) ka kb)
        → (leak : leaks k.mul m (sa limit t ka kb fa).event ≡ false) → WholeAlike n
        → nat_lt (at limit t ka kb fa) limit ≡ true
        → has_leak k.ram k.mul m ((sa limit t ka kb fa).event ∷ rest_a limit t ka kb fa leak n kind) ≡ false
        → open_leaks (setup left) limit
        (marks_end k.ram m ((sa limit t ka kb fa).event ∷ rest_a limit t ka kb fa leak n kind))
        (told (setup left) limit n (after_a limit t ka kb fa leak kind)).story ≡ false
        → AreTimedAlike k z.ctl ((sa limit t ka kb fa).event ∷ rest_a limit t ka kb fa leak n kind)
        (told_of limit t n kind kb (cycle_after (setup right) gb limit t kb))
    unfolding has_leak marks_end
    event_whole n limit t kind ka kb fa leak ih lt e ends =
        let c : ℕ = at limit t ka kb fa in
        let here : told_of limit t n kind kb c
        ≡ (sb limit t ka kb fa).event ∷ rest_b limit t ka kb fa leak n kind =
        ap (λ b. if b then (sb limit t ka kb fa).event ∷ rest_b limit t ka kb fa leak n kind else []) lt in
        subst (λ l. AreTimedAlike k z.ctl
        ((sa limit t ka kb fa).event ∷ rest_a limit t ka kb fa leak n kind) l)
        (sym here ∙ ap (told_of limit t n kind kb) (done_alike limit t ka kb fa leak))
        (whole_events limit t ka kb fa leak n kind ih
        (right_of (leaks k.mul m (sa limit t ka kb fa).event) _ e) ends)

    head_leak : (e : Event) (es : List Event) → has_leak k.ram k.mul m (e ∷ es) ≡ false → leaks k.mul m e ≡ false
    unfolding has_leak
    head_leak e es h = left_of (leaks k.mul m e) _ h

    kind_whole : (n limit t : ℕ) (kind : Kind) → WholeAlike n → kind_at k z t ≡ kind
        → admission (setup left) limit ga ≡ t → nat_lt (done_in (setup left) limit t ga kind) limit ≡ true
        → has_leak k.ram k.mul m (with_event (event_by (setup left) ga (choice_by (setup left) ga kind)
        (done_in (setup left) limit t ga kind)) (told (setup left) limit n (next_in (setup left) limit t ga kind
        (done_in (setup left) limit t ga kind))).events) ≡ false
        → open_leaks (setup left) limit (marks_end k.ram m (with_event (event_by (setup left) ga
        (choice_by (setup left) ga kind) (done_in (setup left) limit t ga kind)) (told (setup left) limit n
        (next_in (setup left) limit t ga kind (done_in (setup left) limit t ga kind))).events))
        (told (setup left) limit n (next_in (setup left) limit t ga kind (done_in (setup left) limit t ga kind))).story
        ≡ false
        → AreTimedAlike k z.ctl (with_event (event_by (setup left) ga (choice_by (setup left) ga kind)
        (done_in (setup left) limit t ga kind)) (told (setup left) limit n (next_in (setup left) limit t ga kind
        (done_in (setup left) limit t ga kind))).events) (told (setup right) limit (suc n) gb).events
    unfolding brought_parcels admitted
    kind_whole n limit t ADummy ih is adm lt e ends =
        let c : ℕ = done_of k limit t (dummy_item k z.dummies) z in
        subst (λ l. AreTimedAlike k z.ctl
        (told (setup left) limit n (next_in (setup left) limit t ga ADummy c)).events l)
        (sym (told_b limit n t ADummy (admit_due limit (is_due k z t is)) adm is
        ∙ ap (λ b. if b then (told (setup right) limit n (next_in
        (setup right) limit t gb ADummy c)).events else []) lt))
        (ih m (next_in (setup left) limit t ga ADummy c) (next_in (setup right) limit t gb ADummy c)
        (dummy_twins limit t c) limit e ends)
    kind_whole n limit t (AnInterrupt number) ih is adm lt e ends =
        let choice : Choice = Interrupt number in
        let c : ℕ = cycle_after (setup left) ga limit t choice in
        let leak : leaks k.mul m (step_with (lines_in k) (state_of q x) choice c).event ≡ false = head_leak _ _ e in
        let admits : admission (setup left) limit ga ≡ admission (setup right) limit gb =
        admit_count limit (counts_first (half_of number c leak)) in
        subst (λ l. AreTimedAlike k z.ctl ((sa limit t choice choice refl).event
        ∷ rest_a limit t choice choice refl leak n (AnInterrupt number)) l)
        (sym (told_b limit n t (AnInterrupt number) admits adm is))
        (event_whole n limit t (AnInterrupt number) choice choice refl leak ih lt e ends)
    kind_whole n limit t AnInstruction ih is adm lt e ends =
        let c : ℕ = cycle_after (setup left) ga limit t (Parcels a1 a2) in
        let leak : leaks k.mul m (step_with (lines_in k) (state_of q x) (Parcels a1 a2) c).event ≡ false =
        head_leak _ _ e in
        let fa : fetch (state_of q x) a1 a2 ≡ fetch (state_of q x) b1 b2 = fetch_of c leak in
        let admits : admission (setup left) limit ga ≡ admission (setup right) limit gb =
        admit_count limit (counts_fetch fa) in
        subst (λ l. AreTimedAlike k z.ctl ((sa limit t (Parcels a1 a2) (Parcels b1 b2) fa).event
        ∷ rest_a limit t (Parcels a1 a2) (Parcels b1 b2) fa leak n AnInstruction) l)
        (sym (told_b limit n t AnInstruction admits adm is))
        (event_whole n limit t AnInstruction (Parcels a1 a2) (Parcels b1 b2) fa leak ih lt e ends)

    parts_whole : (n limit : ℕ) → WholeAlike n
        → has_leak k.ram k.mul m (told (setup left) limit (suc n) ga).events ≡ false
        → open_leaks (setup left) limit (marks_end k.ram m (told (setup left) limit (suc n) ga).events)
        (told (setup left) limit (suc n) ga).story ≡ false
        → AreTimedAlike k z.ctl (told (setup left) limit (suc n) ga).events
        (told (setup right) limit (suc n) gb).events
    unfolding marks_end
    parts_whole n limit ih =
        subst (λ l. has_leak k.ram k.mul m l.events ≡ false
        → open_leaks (setup left) limit (marks_end k.ram m l.events) l.story ≡ false
        → AreTimedAlike k z.ctl l.events (told (setup right) limit (suc n) gb).events)
        (sym (told_pair (setup left) limit n ga)) (by (nat_lt c limit) refl)
      where
        t : ℕ
        t = admission (setup left) limit ga

        kind : Kind
        kind = kind_at k z t

        c : ℕ
        c = done_in (setup left) limit t ga kind

        more : Told
        more = told (setup left) limit n (next_in (setup left) limit t ga kind c)

        events : List Event
        events = with_event (event_by (setup left) ga (choice_by (setup left) ga kind) c) more.events

        by : (b : Bool) → nat_lt c limit ≡ b → has_leak k.ram k.mul m (if b then events else []) ≡ false
            → open_leaks (setup left) limit (marks_end k.ram m (if b then events else []))
            (if b then more.story else ga) ≡ false
            → AreTimedAlike k z.ctl (if b then events else []) (told (setup right) limit (suc n) gb).events
        by true is e ends = kind_whole n limit t kind ih refl refl is e ends
        by false is e ends =
            subst (λ l. AreTimedAlike k z.ctl [] l) (sym (parts_end limit n ends is)) tt

  -- ---- all of it

  -- of no items nothing is told
  none_told : (j : ℕ) (g h : Story) (limit : ℕ) (c : Ctl)
      → AreTimedAlike k c (take j (told (setup left) limit zero g).events) (take j (told
      (setup right) limit zero h).events)
  unfolding told
  none_told zero g h limit c = tt
  none_told (suc j) g h limit c = tt

  -- stories whose parts are the same
  swap_times : (g h : Story) (z : Times) (d : ℕ) (q : Shared) → Story
  swap_times g h z d q =
      record { times = z; state = state_of q (private_of h.state); writes = h.writes; sent = h.sent; done = d }

  pub told_alike : (n : ℕ) → ToldAlike n
  told_alike zero m g h tw limit j le e = none_told j g h limit g.times.ctl
  told_alike (suc n) m g h tw limit j le e =
      subst (λ z. AreTimedAlike k g.times.ctl (take j (told (setup left) limit (suc n) g).events)
      (take j (told (setup right) limit (suc n)
      (record { times = z; state = h.state; writes = h.writes; sent = h.sent; done = h.done })).events)) tw.times
      (subst (λ d. AreTimedAlike k g.times.ctl (take j (told (setup left) limit (suc n) g).events)
      (take j (told (setup right) limit (suc n)
      (record { times = g.times; state = h.state; writes = h.writes; sent = h.sent; done = d })).events)) tw.done
      (subst (λ q. AreTimedAlike k g.times.ctl (take j (told (setup left) limit (suc n) g).events)
      (take j (told (setup right) limit (suc n) (record {
        times = g.times;
        state = state_of q (private_of h.state);
        writes = h.writes;
        sent = h.sent;
        done = g.done;
      })).events)) tw.state.shared
      (parts_told m g.times (shared_of g.state) (private_of g.state)
      (private_of h.state) g.writes h.writes g.sent h.sent
      g.done tw.state.alike tw.ram tw.ctl tw.logs n limit j (told_alike n) le e)))

  none_whole : (g h : Story) (limit : ℕ) (c : Ctl)
      → AreTimedAlike k c (told (setup left) limit zero g).events (told (setup right) limit zero h).events
  unfolding told
  none_whole g h limit c = tt

  pub whole_told : (n : ℕ) → WholeAlike n
  whole_told zero m g h tw limit e ends = none_whole g h limit g.times.ctl
  whole_told (suc n) m g h tw limit e ends =
      subst (λ z. AreTimedAlike k g.times.ctl (told (setup left) limit (suc n) g).events
      (told (setup right) limit (suc n)
      (record { times = z; state = h.state; writes = h.writes; sent = h.sent; done = h.done })).events) tw.times
      (subst (λ d. AreTimedAlike k g.times.ctl (told (setup left) limit (suc n) g).events
      (told (setup right) limit (suc n)
      (record { times = g.times; state = h.state; writes = h.writes; sent = h.sent; done = d })).events) tw.done
      (subst (λ q. AreTimedAlike k g.times.ctl (told (setup left) limit (suc n) g).events
      (told (setup right) limit (suc n) (record {
        times = g.times;
        state = state_of q (private_of h.state);
        writes = h.writes;
        sent = h.sent;
        done = g.done;
      })).events) tw.state.shared
      (parts_whole m g.times (shared_of g.state) (private_of g.state) (private_of h.state) g.writes h.writes g.sent
      h.sent g.done tw.state.alike tw.ram tw.ctl tw.logs n limit (whole_told n) e ends)))
