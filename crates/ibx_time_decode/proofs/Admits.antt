-- The admission of a cycle.
use Rattle.std.proofs.Common.{◌≡◌, ℕ, ◌+◌, ◌-◌, ◌*◌, ◌/◌, ◌%◌, ◌^◌, ◌<◌, ◌≤◌, min, Bool, true, false, not}
use Rattle.std.proofs.Common.{List, length, Option, Some, None, refl, sym, ap, subst, ◌∙◌, arith}
use Rattle.std.specs.Prelude.{◌==◌, ◌&&◌, if◌then◌else◌, nat_le}
use Rattle.ibx_muldiv.specs.Unit.{idle_of as md_idle}
use Rattle.ibx_lsu.specs.declared.unit.Lsu.{Lsu}
use Rattle.ibx_bus.specs.Port.{PortState}
use Rattle.ibx_csr.specs.Fields.{values}
use Rattle.ibx_csr.specs.Values.{CsrValues, cfg_bytes, sec_of, counters_after}
use Rattle.ibx_csr.specs.declared.csrs.Csrs.{Csrs}
use Rattle.ibx_pmp.specs.Ranges.{allowed}
use Rattle.ibx_pmp.specs.declared.protection.AccessKind.TheVariants.{Execute}
use Rattle.ibx_trap.specs.Interrupts.{pending_of}
use Rattle.ibx_isa.specs.declared.event.View.{View}
use Rattle.ibx_arch.specs.Fetch.{fetch, is_sound}
use Rattle.ibx_isa.specs.Lengths.{is_long}
use Rattle.ibx_arch.specs.Memory.{is_mapped}
use Rattle.ibx_arch.specs.Step.{Interrupt, Parcels, pending_in}
use Rattle.ibx_time.specs.Search.{first_from}
use Rattle.ibx_time.specs.Settings.{Settings, Setup, lines_in, settings_of}
use Rattle.ibx_time.specs.Controls.{Ctl, ctl_of, values_of}
use Rattle.ibx_time.specs.Dummies.{counted_in, is_due_in}
use Rattle.ibx_dummy.specs.Dummies.{dummy_word, inserted}
use Rattle.ibx_dummy.specs.declared.unit.Dummy.{Dummy}
use Rattle.ibx_time.specs.Items.{Item, dummy_item, item_of}
use Rattle.ibx_time.specs.Streams.{answer}
use Rattle.ibx_time.specs.Times.{ADummy, AnInstruction, AnInterrupt, Kind, admitted, dummies_with, has_answered}
use Rattle.ibx_time.specs.Times.{is_ready, kind_at, kind_by}
use Rattle.ibx_time.specs.History.{Story, brought, brought_parcels, choice_by, item_at, item_by, kind_of, taken}
use Rattle.ibx_time.specs.History.{view_with, words_there}
use Rattle.ibx_time.specs.Shown.{staged_by}
use Rattle.ibx_time.proofs.Controls.{ctl_of-counters}
use Rattle.ibx_time.proofs.Views.{view_interrupt}
use Rattle.ibx_time_invariant.proofs.Fetches.{Shows, is_unmapped}
use Rattle.ibx_time_invariant.proofs.Stages.{Empty, EmptyEnd, ItemAt, fault_by, fault_of, fetched, fresh, starts}
use Rattle.ibx_time_invariant.proofs.Ties.{IsState, Tied}
use Rattle.ibx_time_invariant.proofs.ArchSide.{ArchFetches, IsFetched, fetched_word}
use Rattle.ibx_time_invariant.proofs.AdmitSide.{Admits, Admitted, Entered, entry_in_cycle, item, nothing}
use Rattle.ibx_time_decode.proofs.Fetches.{fetch_by, fetch_is}
use Rattle.ibx_time_decode.proofs.AdmitsHead.{Comes, comes, fetched_comes, nothing_comes}
use Rattle.ibx_time.proofs.Answered.{answered_is, comes_by, parcels_by}
use Rattle.ibx_time.proofs.Logs.{grows}
use Rattle.ibx_time_decode.proofs.AdmitsParts.{same_wires, starts_portion}
use Rattle.ibx_prefetch.specs.declared.buffer.Head.{Head}
use Rattle.ibx_id.specs.declared.stage.IdState.{IdState}
use Rattle.ibx_id.specs.Turns.{empty_stage}
use Rattle.ibx_time_invariant.proofs.Ends.{first_later, first_now}
use Rattle.ibx_core.specs.Entries.{Entry, enters, entry_by, fetched_of, may_execute}

-- ---- the search

-- what is next is ready
abbrev may_enter : Setup → Story → ℕ → Bool
may_enter s h t = is_ready (kind_at (settings_of s) h.times t) (words_there s h t)

-- ---- an item that fits the entry

-- the entry is the item that is admitted in this cycle
record Fits (s : Setup) (h : Story) (c : ℕ) (e : Entry) : Type 0 where
  ready : may_enter s h c ≡ true
  item : ItemAt s c h e.id
  phase : e.id.phase ≡ 0
  count : e.id.count ≡ 0
  taken_is : e.taken ≡ (item_at s c h).parcels
  few : (item_at s c h).parcels ≤ 2
  there : 0 < (item_at s c h).parcels → has_answered (settings_of s) h.times (item_at s c h).parcels c ≡ true
  real : kind_of s c h ≡ AnInstruction → 0 < (item_at s c h).parcels
  dummies : e.dummies ≡ dummies_with (kind_of s c h) h.times.ctl h.times.dummies

-- the dummies with an item, and its count as it enters
dummies_are : (s : Setup) (c : ℕ) (h : Story)
    → (taken s c h).times.dummies ≡ dummies_with (kind_of s c h) h.times.ctl h.times.dummies
unfolding taken admitted
dummies_are s c h = refl

-- in its first cycle in the stage an item has counted no cycle yet
count_is : (c : ℕ) → min 63 (c + 1 - (c + 1)) ≡ 0
count_is c = ap (λ n. min 63 n) (let e : c + 1 - (c + 1) ≡ 0 = omega arith in e)

-- such an entry is the admission of this cycle
admits_item : (s : Setup) (limit : ℕ) (h : Story) (c : ℕ) (e : Entry) (ls : Lsu) (p : PortState) → c < limit
    → EmptyEnd s limit h c ls p → Fits s h c e → Admitted s limit h c e ls p
admits_item s limit h c e ls p less u f = record {
  stage = record {
    admitted_at = u.search ∙ first_now (limit - c) (may_enter s h) c (omega arith) f.ready;
    item = f.item;
    phase = fresh f.phase refl;
    count = f.count ∙ sym (count_is c);
    running = λ _. refl;
    work = starts refl refl;
    part = starts_portion s c h ls p u.ls_is u.idle;
  };
  taken_is = f.taken_is;
  few = f.few;
  there = f.there;
  real = f.real;
  writes = grows s c h;
  wires = same_wires s c h;
  dummies = f.dummies ∙ sym (dummies_are s c h);
}

-- no item fits
stays_empty : (s : Setup) (limit : ℕ) (h : Story) (c : ℕ) (id : IdState) (ls : Lsu) (p : PortState) → c < limit
    → EmptyEnd s limit h c ls p → id ≡ empty_stage → may_enter s h c ≡ false → Empty s limit h (c + 1) id md_idle ls p
stays_empty s limit h c id ls p less u i e = record {
  id_is = i;
  md_is = refl;
  ls_is = u.ls_is;
  idle = u.idle;
  search = u.search ∙ first_later (limit - c) (may_enter s h) c (omega arith) e
      ∙ ap (λ k. first_from k (may_enter s h) (c + 1)) (omega arith);
}

-- ---- an interrupt, and a dummy

-- where a test holds, the first of two items is taken, and no parcel if that has none
no_parcels_by : (b : Bool) (x y : Item) → b ≡ true → x.parcels ≡ 0 → (if b then x else y).parcels ≡ 0
no_parcels_by true x y e k = k
no_parcels_by false x y e k = let no_ : false ≡ true = e in cc

-- an interrupt takes no parcel from the head
interrupt_parcels : (k : Settings) (c : Ctl) (v : View) → (v.kind == 2) ≡ true → (item_of k c v).parcels ≡ 0
unfolding item_of
interrupt_parcels k c v e = no_parcels_by (v.kind == 2) _ _ e refl

-- a dummy takes no parcel either, since its word comes from the LFSR
dummy_parcels : (k : Settings) (d : Dummy) → (dummy_item k d).parcels ≡ 0
unfolding dummy_item
dummy_parcels k d = refl

-- the item by what is admitted
pub item_is : (s : Setup) (c : ℕ) (h : Story) (kind : Kind) → kind_of s c h ≡ kind
    → item_at s c h ≡ item_by s h (choice_by s h kind)
unfolding item_at
item_is s c h kind e = ap (λ k. item_by s h (choice_by s h k)) e

-- an item that isn't an instruction takes no parcel
special_fits : (s : Setup) (c : ℕ) (h : Story) (kind : Kind) (e : Entry) → kind_of s c h ≡ kind
    → (kind ≡ AnInstruction → ⊥) → ((words : Bool) → is_ready kind words ≡ true)
    → (item_by s h (choice_by s h kind)).parcels ≡ 0 → e.taken ≡ 0
    → e.id ≡ enters (staged_by s h kind).kind (staged_by s h kind).pc (staged_by s h kind).word (fault_by s h kind)
    → e.dummies ≡ dummies_with kind h.times.ctl h.times.dummies → Fits s h c e
special_fits s c h kind e k apart ready none t i d =
    let parcels : (item_at s c h).parcels ≡ 0 = ap (λ x. x.parcels) (item_is s c h kind k) ∙ none in
    record {
      ready = ap (λ x. is_ready x (words_there s h c)) k ∙ ready (words_there s h c);
      item = record {
        valid = ap (λ x. x.valid) i;
        kind = ap (λ x. x.kind) i ∙ sym (ap (λ x. (staged_by s h x).kind) k);
        pc = ap (λ x. x.pc) i ∙ sym (ap (λ x. (staged_by s h x).pc) k);
        word = ap (λ x. x.word) i ∙ sym (ap (λ x. (staged_by s h x).word) k);
        fault = ap (λ x. x.fault) i ∙ sym (ap (fault_by s h) k);
      };
      phase = ap (λ x. x.phase) i;
      count = ap (λ x. x.count) i;
      taken_is = t ∙ sym parcels;
      few = omega (arith, parcels);
      there = λ some. absurd (omega (arith, parcels, some));
      real = λ x. absurd (apart (sym k ∙ x));
      dummies = d ∙ sym (ap (λ x. dummies_with x h.times.ctl h.times.dummies) k);
    }

-- neither is an instruction
interrupt_apart : (number : ℕ) → AnInterrupt number ≡ AnInstruction → ⊥
interrupt_apart number e = cc

-- a dummy isn't an instruction either
dummy_apart : ADummy ≡ AnInstruction → ⊥
dummy_apart e = cc

-- so each of them fits its entry
interrupt_fits : (s : Setup) (c : ℕ) (h : Story) (number : ℕ) → kind_of s c h ≡ AnInterrupt number
    → Fits s h c (record { id = enters 2 h.state.pc number 0; taken = 0; dummies = h.times.dummies })
interrupt_fits s c h number k =
    special_fits s c h (AnInterrupt number)
    (record { id = enters 2 h.state.pc number 0; taken = 0; dummies = h.times.dummies }) k (interrupt_apart number)
    (λ _. refl)
    (interrupt_parcels (settings_of s) h.times.ctl (view_with s h (Interrupt number)) (view_interrupt s h number)) refl
    refl refl

-- a dummy that is due fits an entry with the word that the LFSR chooses, and is inserted
dummy_fits : (s : Setup) (c : ℕ) (h : Story) → kind_of s c h ≡ ADummy
    → Fits s h c (record {
      id = enters 1 h.state.pc (dummy_word h.times.dummies.lfsr) 0;
      taken = 0;
      dummies = inserted h.times.dummies;
    })
dummy_fits s c h k =
    special_fits s c h ADummy (record {
      id = enters 1 h.state.pc (dummy_word h.times.dummies.lfsr) 0;
      taken = 0;
      dummies = inserted h.times.dummies;
    }) k dummy_apart (λ _. refl)
    (dummy_parcels (settings_of s) h.times.dummies) refl refl refl

-- ---- an instruction

-- the halfwords that are brought
abbrev pub first_of_pair : Setup → Story → ℕ
first_of_pair s h = brought s h (length h.times.stream.enters) h.state.pc

-- the second halfword
abbrev pub second_of_pair : Setup → Story → ℕ
second_of_pair s h = brought s h (length h.times.stream.enters + h.times.half) ((h.state.pc + 2) % 2 ^ 32)

-- whether they may be executed and memory answers, and whether both are needed
abbrev sound1 : Story → Bool
sound1 h = is_sound h.state.csrs h.state.memory.ram h.state.pc

-- the same of the second one
abbrev sound2 : Story → Bool
sound2 h = is_sound h.state.csrs h.state.memory.ram ((h.state.pc + 2) % 2 ^ 32)

-- the instruction has both
abbrev is_pair : Setup → Story → Bool
is_pair s h = is_long (first_of_pair s h)

-- what the next instruction is, by its parcels
record Pair (s : Setup) (h : Story) : Type 0 where
  parcels : (item_of (settings_of s) h.times.ctl (view_with s h (brought_parcels s h))).parcels
      ≡ parcels_by (sound1 h) (is_pair s h) (sound2 h)
  word : (view_with s h (brought_parcels s h)).word
      ≡ fetched_word (fetch_by (sound1 h) (is_pair s h) (sound2 h) h.state.pc (first_of_pair s h) (second_of_pair s h))
  what : fetched s h ≡ fetch_by (sound1 h) (is_pair s h) (sound2 h) h.state.pc (first_of_pair s h) (second_of_pair s h)

-- the two parcels make what is brought and what is fetched
pub brought_is : (s : Setup) (h : Story) → brought_parcels s h ≡ Parcels (first_of_pair s h) (second_of_pair s h)
unfolding brought_parcels
brought_is s h = refl

-- what is fetched next is what the state makes of this pair
pub fetched_is : (s : Setup) (h : Story) → fetched s h ≡ fetch h.state (first_of_pair s h) (second_of_pair s h)
unfolding fetched
fetched_is s h = refl

-- and they say how many the instruction takes
pair_is : (s : Setup) (h : Story) → IsFetched s h (first_of_pair s h) (second_of_pair s h) → Pair s h
pair_is s h f = record {
  parcels = ap (λ x. (item_of (settings_of s) h.times.ctl (view_with s h x)).parcels) (brought_is s h) ∙ f.parcels;
  word = ap (λ x. (view_with s h x).word) (brought_is s h) ∙ f.word
      ∙ ap fetched_word (fetch_is h.state (first_of_pair s h) (second_of_pair s h));
  what = fetched_is s h ∙ fetch_is h.state (first_of_pair s h) (second_of_pair s h);
}

-- the words have answered
abbrev ready1 : Setup → Story → ℕ → Bool
ready1 s h c = nat_le (answer (settings_of s) h.times.stream (length h.times.stream.enters)) c

-- the second one has, and both where both are needed
abbrev ready2 : Setup → Story → ℕ → Bool
ready2 s h c = nat_le (answer (settings_of s) h.times.stream (length h.times.stream.enters + h.times.half)) c

-- each halfword that is needed has been answered
abbrev both_there : Setup → Story → ℕ → Bool
both_there s h c = comes_by (ready1 s h c) (ready2 s h c) (sound1 h) (is_pair s h)

-- the instruction is ready just then
words_are : (s : Setup) (h : Story) (c : ℕ) → h.times.half < 2 → Pair s h → words_there s h c ≡ both_there s h c
unfolding words_there
words_are s h c low p =
    answered_is (settings_of s) h.times
    (item_of (settings_of s) h.times.ctl (view_with s h (brought_parcels s h))).parcels c (sound1 h) (is_pair s h)
    (sound2 h) low p.parcels

-- it takes two parcels at most
pub parcels_low : (a long b : Bool) → parcels_by a long b ≤ 2
parcels_low false long b = omega arith
parcels_low true false b = omega arith
parcels_low true true b = omega arith

-- and one at least, even if its first parcel is unsound
parcels_some : (a long b : Bool) → 0 < parcels_by a long b
parcels_some false long b = omega arith
parcels_some true false b = omega arith
parcels_some true true b = omega arith

-- the entry is what comes of the two parcels
abbrev ComesTo : Setup → Story → ℕ → Dummy → Entry → Type 0
ComesTo s h c counted e = Comes (both_there s h c) (sound1 h) (is_pair s h) (sound2 h) h.state.pc (first_of_pair s h)
    (second_of_pair s h) h.times.dummies counted e

-- an instruction that has come fits its entry, and is admitted
instruction_fits : (s : Setup) (c : ℕ) (h : Story) (counted : Dummy) (e : Entry) → kind_of s c h ≡ AnInstruction
    → h.times.half < 2 → Pair s h → counted ≡ counted_in h.times.ctl h.times.dummies → both_there s h c ≡ true
    → e.id ≡ enters 0 h.state.pc (fetched_word
    (fetch_by (sound1 h) (is_pair s h) (sound2 h) h.state.pc (first_of_pair s h) (second_of_pair s h)))
    (fault_of h.state.pc (fetch_by (sound1 h) (is_pair s h) (sound2 h) h.state.pc (first_of_pair s h)
    (second_of_pair s h)))
    → e.taken ≡ parcels_by (sound1 h) (is_pair s h) (sound2 h) → e.dummies ≡ counted → Fits s h c e
instruction_fits s c h counted e k low p same there i t d =
    let parcels : (item_at s c h).parcels ≡ parcels_by (sound1 h) (is_pair s h) (sound2 h) =
    ap (λ x. x.parcels) (item_is s c h AnInstruction k) ∙ p.parcels in
    record {
      ready = ap (λ x. is_ready x (words_there s h c)) k ∙ words_are s h c low p ∙ there;
      item = record {
        valid = ap (λ x. x.valid) i;
        kind = ap (λ x. x.kind) i ∙ sym (ap (λ x. (staged_by s h x).kind) k);
        pc = ap (λ x. x.pc) i ∙ sym (ap (λ x. (staged_by s h x).pc) k);
        word = ap (λ x. x.word) i ∙ sym p.word ∙ sym (ap (λ x. (staged_by s h x).word) k);
        fault = ap (λ x. x.fault) i ∙ sym (ap (fault_of h.state.pc) p.what) ∙ sym (ap (fault_by s h) k);
      };
      phase = ap (λ x. x.phase) i;
      count = ap (λ x. x.count) i;
      taken_is = t ∙ sym parcels;
      few = subst (λ n. n ≤ 2) (sym parcels) (parcels_low (sound1 h) (is_pair s h) (sound2 h));
      there = λ _. answered_is (settings_of s) h.times (item_at s c h).parcels c (sound1 h) (is_pair s h) (sound2 h)
          low parcels ∙ there;
      real = λ _. subst (λ n. 0 < n) (sym parcels) (parcels_some (sound1 h) (is_pair s h) (sound2 h));
      dummies = d ∙ same ∙ sym (ap (λ x. dummies_with x h.times.ctl h.times.dummies) k);
    }

-- by what comes of its parcels, the instruction is admitted or the stage stays empty
instruction_enters : (s : Setup) (limit : ℕ) (h : Story) (c : ℕ) (counted : Dummy) (e : Entry) (ls : Lsu)
    (p : PortState) → c < limit → EmptyEnd s limit h c ls p
    → kind_of s c h ≡ AnInstruction → h.times.half < 2 → Pair s h → counted ≡ counted_in h.times.ctl h.times.dummies
    → ComesTo s h c counted e → Entered s limit h c e ls p
instruction_enters s limit h c counted e ls p less u k low pair same (nothing_comes there i t d) =
    nothing t d (stays_empty s limit h c e.id ls p less u i
    (ap (λ x. is_ready x (words_there s h c)) k ∙ words_are s h c low pair ∙ there))
instruction_enters s limit h c counted e ls p less u k low pair same (comes there i t d) =
    item (admits_item s limit h c e ls p less u (instruction_fits s c h counted e k low pair same there i t d))

-- ---- the parcels at the head

-- a test that is negated twice is the test
double_not : (a : Bool) → not (not a) ≡ a
double_not true = refl
double_not false = refl

-- memory answers by the setup and by the state alike
mapped_is : (s : Setup) (c : ℕ) (h : Story) (addr : ℕ) → IsState s c h
    → not (is_unmapped s addr) ≡ is_mapped h.state.memory.ram addr
mapped_is s c h addr i = double_not (is_mapped s.image.ram addr) ∙ ap (λ r. is_mapped r addr) (sym i.good.ram_is)

-- protection lets an address be executed
abbrev allows : CsrValues → ℕ → Bool
allows v addr = allowed (sec_of v) (cfg_bytes v) v.pmpaddr addr 2 Execute v.machine

-- it does so by the fields, by the registers and whatever the counters
allows_fields : (csrs : Csrs) (addr : ℕ) → addr % 2 ≡ 0 → may_execute csrs addr ≡ allows (values csrs) addr
unfolding values may_execute allowed
allows_fields csrs addr e = ap (allows (values csrs)) (halved addr e)
  where
    halved : (n : ℕ) → n % 2 ≡ 0 → n / 2 * 2 ≡ n
    halved n e = omega (arith, e)

-- cycles that are counted change no permission
allows_later : (v : CsrValues) (n addr : ℕ) → allows (counters_after v n) addr ≡ allows v addr
unfolding counters_after
allows_later v n addr = refl

-- the core's fields let an even address be executed just where the state does
may_is : (s : Setup) (h : Story) (c next_pc : ℕ) (csrs : Csrs) (regs : List ℕ) (addr : ℕ)
    → Tied s h c next_pc csrs regs → addr % 2 ≡ 0 → may_execute csrs addr ≡ allows h.state.csrs addr
may_is s h c next_pc csrs regs addr t even =
    allows_fields csrs addr even ∙ ap (λ v. allows v addr) t.values_are
    ∙ allows_later h.state.csrs (c - h.state.stands) addr

-- so a parcel's soundness is the state's
sound_is : (s : Setup) (h : Story) (c next_pc : ℕ) (csrs : Csrs) (regs : List ℕ) (addr : ℕ) (err : Bool)
    → Tied s h c next_pc csrs regs → IsState s c h → addr % 2 ≡ 0 → err ≡ is_unmapped s addr
    → (not err && may_execute csrs addr) ≡ is_sound h.state.csrs h.state.memory.ram addr
sound_is s h c next_pc csrs regs addr err t i even e =
    ap (λ x. x && may_execute csrs addr) (ap not e ∙ mapped_is s c h addr i)
    ∙ ap (λ x. is_mapped h.state.memory.ram addr && x) (may_is s h c next_pc csrs regs addr t even)

-- so what comes of the head is what comes of the pair
pair_comes : (s : Setup) (h : Story) (c next_pc : ℕ) (csrs : Csrs) (regs : List ℕ) (head : Head)
    → Tied s h (c + 1) next_pc csrs regs → IsState s (c + 1) h
    → Shows s h.writes h.times.stream (length h.times.stream.enters) h.state.pc c head.first
    → Shows s h.writes h.times.stream (length h.times.stream.enters + h.times.half) ((h.state.pc + 2) % 2 ^ 32) c
    head.second
    → ComesTo s h c (counted_in (ctl_of (values csrs)) h.times.dummies)
    (fetched_of head csrs h.times.dummies h.state.pc)
unfolding fetched_of may_execute values
pair_comes s h c next_pc csrs regs head t i f g =
    let counted : Dummy = counted_in (ctl_of (values csrs)) h.times.dummies in
    subst (λ r. Comes (comes_by r (ready2 s h c) (sound1 h) (is_pair s h)) (sound1 h) (is_pair s h) (sound2 h)
    h.state.pc (first_of_pair s h) (second_of_pair s h) h.times.dummies counted
    (fetched_of head csrs h.times.dummies h.state.pc)) f.ready
    (subst (λ r. Comes (comes_by head.first.ready r (sound1 h) (is_pair s h)) (sound1 h) (is_pair s h) (sound2 h)
    h.state.pc (first_of_pair s h) (second_of_pair s h) h.times.dummies counted
    (fetched_of head csrs h.times.dummies h.state.pc)) g.ready
    (fetched_comes head.first.ready (not head.first.err && may_execute csrs h.state.pc) (sound1 h) head.second.ready
    (not head.second.err && may_execute csrs ((h.state.pc + 2) % 2 ^ 32)) (sound2 h)
    h.state.pc head.first.half (first_of_pair s h) head.second.half (second_of_pair s h) h.times.dummies counted
    i.good.pc_low
    (λ r. sound_is s h (c + 1) next_pc csrs regs h.state.pc head.first.err t i i.good.pc_even (f.err r)) f.half
    (λ r. sound_is s h (c + 1) next_pc csrs regs ((h.state.pc + 2) % 2 ^ 32) head.second.err t i
    (omega (arith, i.good.pc_even)) (g.err r)) g.half))

-- ---- the admission

-- the fields have the registers that time depends on
ctl_is : (s : Setup) (h : Story) (c next_pc : ℕ) (csrs : Csrs) (regs : List ℕ) → Tied s h c next_pc csrs regs
    → ctl_of (values csrs) ≡ h.times.ctl
ctl_is s h c next_pc csrs regs t =
    ap ctl_of t.values_are ∙ ctl_of-counters h.state.csrs (c - h.state.stands) ∙ sym t.ctl

-- so the pending interrupt is the one of the times, and with it what is admitted
pending_is : (csrs : Csrs) (lines : ℕ)
    → pending_of csrs.priv_ csrs.mstatus csrs.mie lines ≡ pending_in (values_of (ctl_of (values csrs))) lines
unfolding values
pending_is csrs lines = refl

-- what is admitted, by a pending interrupt and whether a dummy is due
kind_is : (s : Setup) (c : ℕ) (h : Story) (o : Option ℕ) (due : Bool)
    → pending_in (values_of h.times.ctl) (lines_in (settings_of s) c) ≡ o → is_due_in h.times.ctl h.times.dummies ≡ due
    → kind_of s c h ≡ kind_by o due
unfolding kind_at
kind_is s c h o due e k = ap (λ x. kind_by x (is_due_in h.times.ctl h.times.dummies)) e ∙ ap (kind_by o) k

-- the entry by what is pending and due is the admission
entered_by : (s : Setup) (limit : ℕ) (h : Story) (c next_pc : ℕ) (csrs : Csrs) (regs : List ℕ) (head : Head) (ls : Lsu)
    (p : PortState) (o : Option ℕ) (due : Bool) → ArchFetches s → c < limit
    → Tied s h (c + 1) next_pc csrs regs → IsState s (c + 1) h
    → Shows s h.writes h.times.stream (length h.times.stream.enters) h.state.pc c head.first
    → Shows s h.writes h.times.stream (length h.times.stream.enters + h.times.half) ((h.state.pc + 2) % 2 ^ 32) c
    head.second
    → EmptyEnd s limit h c ls p → kind_of s c h ≡ kind_by o due
    → Entered s limit h c (entry_by o due head csrs h.times.dummies h.state.pc) ls p
unfolding entry_by
entered_by s limit h c next_pc csrs regs head ls p (Some number) due fetches less t i f g u k =
    item (admits_item s limit h c (record { id = enters 2 h.state.pc number 0; taken = 0; dummies = h.times.dummies })
    ls p less u (interrupt_fits s c h number k))
entered_by s limit h c next_pc csrs regs head ls p None true fetches less t i f g u k =
    item (admits_item s limit h c (record {
      id = enters 1 h.state.pc (dummy_word h.times.dummies.lfsr) 0;
      taken = 0;
      dummies = inserted h.times.dummies;
    }) ls p less u (dummy_fits s c h k))
entered_by s limit h c next_pc csrs regs head ls p None false fetches less t i f g u k =
    instruction_enters s limit h c (counted_in (ctl_of (values csrs)) h.times.dummies)
    (fetched_of head csrs h.times.dummies h.state.pc) ls p less u k t.half_low
    (pair_is s h (fetches (c + 1) h (first_of_pair s h) (second_of_pair s h) i))
    (ap (λ x. counted_in x h.times.dummies) (ctl_is s h (c + 1) next_pc csrs regs t))
    (pair_comes s h c next_pc csrs regs head t i f g)

-- and that is the entry of the cycle
entry_is : (s : Setup) (h : Story) (c next_pc lines : ℕ) (csrs : Csrs) (regs : List ℕ) (dummies : Dummy) (head : Head)
    → Tied s h c next_pc csrs regs → dummies ≡ h.times.dummies
    → entry_in_cycle lines head csrs dummies next_pc
    ≡ entry_by (pending_in (values_of h.times.ctl) lines) (is_due_in h.times.ctl h.times.dummies) head csrs
    h.times.dummies h.state.pc
entry_is s h c next_pc lines csrs regs dummies head t d =
    ap (λ x. entry_in_cycle lines head csrs x next_pc) d
    ∙ ap (λ x. entry_in_cycle lines head csrs h.times.dummies x) t.next_pc_is
    ∙ ap (λ x. entry_by x (is_due_in (ctl_of (values csrs)) h.times.dummies) head csrs h.times.dummies h.state.pc)
    (pending_is csrs lines)
    ∙ ap (λ x. entry_by (pending_in (values_of x) lines) (is_due_in x h.times.dummies) head csrs h.times.dummies
    h.state.pc) (ctl_is s h c next_pc csrs regs t)

-- so every cycle with an empty stage admits what the history says
pub admits : (s : Setup) → Admits s
admits s limit h c next_pc csrs regs dummies head ls p placed fetches less t i d hd u =
    let lines : ℕ = lines_in (settings_of s) c in
    let first : Shows s h.writes h.times.stream (length h.times.stream.enters) h.state.pc c head.first =
    subst (λ a. Shows s h.writes h.times.stream (length h.times.stream.enters) a c head.first) t.pc hd.first in
    let second : Shows s h.writes h.times.stream (length h.times.stream.enters + h.times.half)
    ((h.state.pc + 2) % 2 ^ 32) c head.second =
    subst (λ a. Shows s h.writes h.times.stream (length h.times.stream.enters + h.times.half) ((a + 2) % 2 ^ 32) c
    head.second) t.pc hd.second in
    subst (λ e. Entered s limit h c e ls p) (sym (entry_is s h (c + 1) next_pc lines csrs regs dummies head t d))
    (entered_by s limit h c next_pc csrs regs head ls p (pending_in (values_of h.times.ctl) lines)
    (is_due_in h.times.ctl h.times.dummies) fetches less t i first second u
    (kind_is s c h (pending_in (values_of h.times.ctl) lines) (is_due_in h.times.ctl h.times.dummies) refl refl))
