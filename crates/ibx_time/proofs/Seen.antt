-- Each parcel brought is a value that memory held at some time since the last FENCE.I.
use Rattle.std.proofs.Common.{◌≡◌, ℕ, zero, suc, ◌+◌, ◌*◌, ◌-◌, ◌%◌, ◌^◌, ◌<◌, ◌≤◌, ◌&&◌, ◌||◌, ◌==◌, not, Bool, true}
use Rattle.std.proofs.Common.{false, List, [], ◌∷◌, length, Option, Some, None, refl, sym, ap, ◌∙◌, subst, arith}
use Rattle.std.proofs.Common.{nat_lt, nat_le, if◌then◌else◌, All, inl, inr}
use Rattle.std.proofs.lemmas.Bool.{ltb-true, leb-true, eq-eqb, cases_eq}
use Rattle.std.proofs.lemmas.List.Elements.{All-nil, All-cons}
use Rattle.ibx_isa.specs.declared.insn.Insn.{Insn}
use Rattle.ibx_isa.specs.declared.insn.Insn.TheVariants.{Lui, Auipc, Jal, Jalr, Branch, Load, Store, AluImm, Alu}
use Rattle.ibx_isa.specs.declared.insn.Insn.TheVariants.{MulDiv, Csr, Fence, FenceI, Ecall, Ebreak, Mret, Wfi}
use Rattle.ibx_isa.specs.declared.event.View.{View}
use Rattle.ibx_bus.specs.PortTimes.{grant_time, answer_time}
use Rattle.ibx_decoder.specs.Instructions.{instruction_of}
use Rattle.ibx_arch.specs.Step.{Choice, Interrupt, step_with}
use Rattle.ibx_time.specs.Settings.{Settings, Setup, settings_of, lines_in}
use Rattle.ibx_time.specs.Controls.{Ctl, is_fixed, ctl_after}
use Rattle.ibx_time.specs.Items.{Item, item_of, dummy_item, plain}
use Rattle.ibx_time.specs.Items.{branching, is_turned, parcels_of, portions_for, trap_parcels, retired_item}
use Rattle.ibx_time.specs.Requests.{Past, Fill, made, line_of, slot_of, last_fill, fill_grant, half_grant, is_upper}
use Rattle.ibx_time.specs.Requests.{found_slot, victim, is_kept, first_grant, second_grant, second_answer, request_by}
use Rattle.ibx_time.specs.Requests.{is_present, is_cached, none_between, holds_line, in_way, fill_of}
use Rattle.ibx_time.specs.Streams.{Stream, gate, past, answer, issue, requested, redirected, redirected_to, word_addr}
use Rattle.ibx_time.specs.Times.{half_after, Times, Kind, AnInterrupt, ADummy, AnInstruction, kind_at, is_ready}
use Rattle.ibx_time.specs.Times.{has_answered, admitted, after_event, marked}
use Rattle.ibx_time.specs.Times.{target_if, first_times}
use Rattle.ibx_time.specs.History.{Story, opening, view_with, brought_parcels, words_there, admission, kind_of}
use Rattle.ibx_time.specs.History.{choice_by, choice_at, item_by, item_at, done_at, taken, ended_by, continued}
use Rattle.ibx_time.specs.Chains.{SeenAt, AreSeen, story_after, HasSeen}
use Rattle.ibx_time.proofs.Times.{IsSound, past_suc, past_sound, grant_before, issue_is, issue_mono, after_issue}
use Rattle.ibx_time.proofs.Timed.{done_after, first_after, first_found}
use Rattle.ibx_time.proofs.Views.{view_interrupt}
use Rattle.ibx_arch.specs.Memory.{is_mapped}

-- ---- what is known of the fills: whatever FENCE.I is before one is not after the grants of its words

-- no FENCE.I is after a cycle
abbrev pub IsFresh : List ℕ → ℕ → Type 0
IsFresh [] g = Unit {0}
IsFresh (f ∷ fences) g = (f ≤ g) × IsFresh fences g

-- a FENCE.I before the fill is not after the grants of its words
abbrev pub IsClear : List ℕ → Fill → Type 0
IsClear [] x = Unit {0}
IsClear (f ∷ fences) x = (f < x.time → (f ≤ x.grant0) × (f ≤ x.grant1)) × IsClear fences x

-- each fill is clear
abbrev pub AreClear : List ℕ → List Fill → Type 0
AreClear fences [] = Unit {0}
AreClear fences (x ∷ fills) = IsClear fences x × AreClear fences fills

-- each fill is stored before the answer of the last request
abbrev pub AreStored : List Fill → ℕ → Type 0
AreStored [] v = Unit {0}
AreStored (x ∷ fills) v = (x.time < v) × AreStored fills v

-- both stay so at a later cycle
pub fresh_later : (fences : List ℕ) (a b : ℕ) → a ≤ b → IsFresh fences a → IsFresh fences b
fresh_later [] a b h z = tt
fresh_later (f ∷ fences) a b h z = (omega (arith, z.0), fresh_later fences a b h z.1)

-- the same, said of each FENCE.I of the list
pub fresh_all : (fences : List ℕ) (g : ℕ) → IsFresh fences g → All (λ f. f ≤ g) fences
fresh_all [] g z = All-nil (λ f. f ≤ g)
fresh_all (f ∷ fences) g z = All-cons (λ u. u ≤ g) f fences z.0 (fresh_all fences g z.1)

-- fills that were stored before a cycle were stored before a later one
pub stored_later : (fills : List Fill) (v w : ℕ) → v ≤ w → AreStored fills v → AreStored fills w
stored_later [] v w h z = tt
stored_later (x ∷ fills) v w h z = (omega (arith, z.0), stored_later fills v w h z.1)

-- both parts of a test
and_first : (a b : Bool) → a && b ≡ true → a ≡ true
and_first true b e = refl
and_first false b e = e

-- where both parts hold, the second does
and_second : (a b : Bool) → a && b ≡ true → b ≡ true
and_second true b e = e
and_second false b e = let no_ : true ≡ false = sym e in cc

-- ---- a hit

-- a FENCE.I that is not after t, and none from the fill's time to t: the fill's grants are after it
fence_clear : (f a t g0 g1 : ℕ) (b c : Bool) → nat_lt f a ≡ b → nat_le (t + 1) f ≡ c → b || c ≡ true → f ≤ t
    → (f < a → (f ≤ g0) × (f ≤ g1)) → (f ≤ g0) × (f ≤ g1)
fence_clear f a t g0 g1 true c p q e low clear = clear (ltb-true f a p)
fence_clear f a t g0 g1 false true p q e low clear = absurd (omega (arith, leb-true (t + 1) f q))
fence_clear f a t g0 g1 false false p q e low clear = let no_ : true ≡ false = sym e in cc

-- either grant is after it, so the one of the word at an address is
half_from : (f a g0 g1 : ℕ) → f ≤ g0 → f ≤ g1 → f ≤ half_grant a g0 g1
half_from f a g0 g1 h0 h1 = elim (is_upper a) as (λ b. f ≤ (if b then g1 else g0)) [ true ↦ h1 | false ↦ h0 ]

-- so a word that is found in a fill was read after the last FENCE.I: in this fill, and in the last fill of a place
fill_fresh : (fences : List ℕ) (x : Fill) (t a : ℕ) → none_between fences x.time (t + 1) ≡ true → IsFresh fences t
    → IsClear fences x → IsFresh fences (half_grant a x.grant0 x.grant1)
unfolding none_between
fill_fresh [] x t a e low clear = tt
fill_fresh (f ∷ fences) x t a e low clear =
    let here = fence_clear f x.time t x.grant0 x.grant1 (nat_lt f x.time) (nat_le (t + 1) f) refl refl
    (and_first (nat_lt f x.time || nat_le (t + 1) f) (none_between fences x.time (t + 1)) e) low.0 clear.0 in (
      half_from f a x.grant0 x.grant1 here.0 here.1,
      fill_fresh fences x t a (and_second (nat_lt f x.time || nat_le (t + 1) f) (none_between fences x.time (t + 1)) e)
          low.1 clear.1,
    )

-- where a fill holds the line, no FENCE.I is after the grant of the word that is found in it
found_fresh : (fences : List ℕ) (t line a : ℕ) (x : Fill) → holds_line fences t line (Some x) ≡ true → IsFresh fences t
    → IsClear fences x → IsFresh fences (fill_grant (Some x) a)
unfolding fill_grant
found_fresh fences t line a x e low clear =
    fill_fresh fences x t a (and_second (x.line == line) (none_between fences x.time (t + 1)) e) low clear

-- the last fill of a place is this one, or the last of the older ones
hit_by : (fences : List ℕ) (t line a : ℕ) (x : Fill) (o : Option Fill) (b : Bool)
    → holds_line fences t line (if b then Some x else o) ≡ true
    → (holds_line fences t line o ≡ true → IsFresh fences (fill_grant o a)) → IsFresh fences t → IsClear fences x
    → IsFresh fences (fill_grant (if b then Some x else o) a)
hit_by fences t line a x o true e more low clear = found_fresh fences t line a x e low clear
hit_by fences t line a x o false e more low clear = more e

-- so no FENCE.I is after the grant of a word that hits, whichever place holds its line
hit_fresh : (fences : List ℕ) (fills : List Fill) (slot t line a : ℕ)
    → holds_line fences t line (last_fill fills slot) ≡ true → IsFresh fences t → AreClear fences fills
    → IsFresh fences (fill_grant (last_fill fills slot) a)
unfolding last_fill
hit_fresh fences [] slot t line a e low clear = let no_ : true ≡ false = sym e in cc
hit_fresh fences (x ∷ fills) slot t line a e low clear =
    hit_by fences t line a x (last_fill fills slot) (slot_of x.line x.way == slot) e
    (λ p. hit_fresh fences fills slot t line a p low clear.1) low clear.0

-- a present line is in one of the two ways, and in its slot
way_by : (fences : List ℕ) (fills : List Fill) (line t : ℕ) (b c : Bool) → in_way fences fills line t false ≡ b
    → in_way fences fills line t true ≡ c → b || c ≡ true → in_way fences fills line t (not b) ≡ true
way_by fences fills line t true c p q e = p
way_by fences fills line t false c p q e = q ∙ e

-- the slot of a present line is that of the way which holds it
slot_by : (line : ℕ) (b : Bool) → (if b then slot_of line false else slot_of line true) ≡ slot_of line (not b)
slot_by line true = refl
slot_by line false = refl

-- a present line is found in its place
found_holds : (fences : List ℕ) (fills : List Fill) (line t : ℕ) → is_present fences fills line t ≡ true
    → holds_line fences t line (last_fill fills (found_slot fences fills line t)) ≡ true
unfolding is_present found_slot
found_holds fences fills line t e =
    ap (λ n. holds_line fences t line (last_fill fills n)) (slot_by line (in_way fences fills line t false))
    ∙ way_by fences fills line t (in_way fences fills line t false) (in_way fences fills line t true) refl refl e

-- ---- a request

-- a FENCE.I outside of a time is before its grants, or at its end or later
fences_apart : (f t u g0 g1 : ℕ) (b c : Bool) → nat_lt f t ≡ b → nat_le (u + 1) f ≡ c → b || c ≡ true → t ≤ g0 → t ≤ g1
    → f < u → (f ≤ g0) × (f ≤ g1)
fences_apart f t u g0 g1 true c p q e h0 h1 low = (omega (arith, ltb-true f t p), omega (arith, ltb-true f t p))
fences_apart f t u g0 g1 false true p q e h0 h1 low = absurd (omega (arith, leb-true (u + 1) f q))
fences_apart f t u g0 g1 false false p q e h0 h1 low = let no_ : true ≡ false = sym e in cc

-- a fill with no FENCE.I from its request to its second answer
none_clear : (fences : List ℕ) (t : ℕ) (x : Fill) → none_between fences t (x.time + 1) ≡ true → t ≤ x.grant0
    → t ≤ x.grant1 → IsClear fences x
unfolding none_between
none_clear [] t x e h0 h1 = tt
none_clear (f ∷ fences) t x e h0 h1 = (
  fences_apart f t x.time x.grant0 x.grant1 (nat_lt f t) (nat_le (x.time + 1) f) refl refl
      (and_first (nat_lt f t || nat_le (x.time + 1) f) (none_between fences t (x.time + 1)) e) h0 h1,
  none_clear fences t x (and_second (nat_lt f t || nat_le (x.time + 1) f) (none_between fences t (x.time + 1)) e) h0
      h1,
)

-- so a line that is stored is clear
kept_clear : (k : Settings) (fences : List ℕ) (y : Past) (t a : ℕ) (way : Bool) → is_kept k fences y t a ≡ true
    → IsClear fences (fill_of k y t a way)
unfolding answer_time grant_time
kept_clear k fences y t a way e =
    none_clear fences t (fill_of k y t a way)
    (and_first (none_between fences t (second_answer k y t + 1))
    (is_mapped k.ram (8 * line_of a) && is_mapped k.ram (8 * line_of a + 4)) e)
    (omega arith) (omega arith)

-- the fills are clear and were stored before the last answer
pub record IsClean (fences : List ℕ) (y : Past) : Type 0 where
  pub clear : AreClear fences y.fills
  pub stored : AreStored y.fills y.answer

-- a request leaves them so
request_clean : (k : Settings) (fences : List ℕ) (y : Past) (t a : ℕ) (b p n : Bool) (slot : ℕ) (way : Bool)
    → y.answer ≤ t → (n ≡ true → IsClear fences (fill_of k y t a way)) → IsClean fences y
    → IsClean fences (request_by b p n slot way k y t a)
unfolding request_by answer_time grant_time
request_clean k fences y t a false p n slot way low kept z =
    record {
      clear = z.clear;
      stored =
          stored_later y.fills y.answer (answer_time k.plan.iwaits (made y) t) (omega arith) z.stored;
    }
request_clean k fences y t a true true n slot way low kept z =
    record { clear = z.clear; stored = stored_later y.fills y.answer (t + 1) (omega arith) z.stored }
request_clean k fences y t a true false true slot way low kept z = record {
  clear = (kept refl, z.clear);
  stored = (omega arith, stored_later y.fills y.answer (second_answer k y t + 1) (omega arith) z.stored);
}
request_clean k fences y t a true false false slot way low kept z =
    record { clear = z.clear; stored = stored_later y.fills y.answer (second_answer k y t + 1) (omega arith) z.stored }

-- its word is read after the last FENCE.I, whether by a hit or by a transaction
request_fresh : (k : Settings) (fences : List ℕ) (y : Past) (t a : ℕ) (b p n : Bool) (slot : ℕ) (way : Bool)
    → IsFresh fences t → (p ≡ true → IsFresh fences (fill_grant (last_fill y.fills slot) a))
    → IsFresh fences (request_by b p n slot way k y t a).grant
unfolding request_by answer_time grant_time
request_fresh k fences y t a false p n slot way low found =
    fresh_later fences t (grant_time k.plan.iwaits (made y) t) (omega arith) low
request_fresh k fences y t a true true n slot way low found = found refl
request_fresh k fences y t a true false n slot way low found =
    fresh_later fences t (half_grant a (first_grant k y t) (second_grant k y t))
    (half_from t a (first_grant k y t) (second_grant k y t) (omega arith) (omega arith)) low

-- ---- a stream

-- so it is after each word of a stream
clean_by : (k : Settings) (x : Stream) (j : ℕ) → IsClean x.fences (past k x j) → IsClean x.fences (past k x (suc j))
clean_by k x j z =
    let t : ℕ = issue k x j in
    let y : Past = past k x j in
    let a : ℕ = word_addr x j in
    let P : Past → Type 0 = λ v. IsClean x.fences v in
    let w : Bool = victim x.fences y.fills (line_of a) t in
    subst P (sym (past_suc k x j))
    (request_clean k x.fences y t a (is_cached x.switches x.fences t) (is_present x.fences y.fills (line_of a) t)
    (is_kept k x.fences y t a) (found_slot x.fences y.fills (line_of a) t) w (omega (arith, issue_is k x j))
    (λ e. kept_clear k x.fences y t a w e) z)

-- after any number of words the fills are clean, where those before the stream were
pub past_clean : (k : Settings) (x : Stream) (j : ℕ) → IsClean x.fences x.before → IsClean x.fences (past k x j)
unfolding past
past_clean k x zero z = z
past_clean k x (suc j) z = clean_by k x j (past_clean k x j z)

-- a word that is requested after the last FENCE.I is read after it
pub past_fresh : (k : Settings) (x : Stream) (j : ℕ) → IsClean x.fences x.before → IsFresh x.fences (issue k x j)
    → IsFresh x.fences (past k x (suc j)).grant
past_fresh k x j z low =
    let t : ℕ = issue k x j in
    let y : Past = past k x j in
    let a : ℕ = word_addr x j in
    let n : ℕ = found_slot x.fences y.fills (line_of a) t in
    let P : Past → Type 0 = λ v. IsFresh x.fences v.grant in
    subst P (sym (past_suc k x j))
    (request_fresh k x.fences y t a (is_cached x.switches x.fences t) (is_present x.fences y.fills (line_of a) t)
    (is_kept k x.fences y t a) n (victim x.fences y.fills (line_of a) t) low
    (λ e. hit_fresh x.fences y.fills n t (line_of a) a (found_holds x.fences y.fills (line_of a) t e) low
    (past_clean k x j z).clear))

-- the first word is requested at the redirect, or at the answer before it
pub first_issue : (k : Settings) (x : Stream) → (x.start ≤ issue k x 0) × (x.before.answer ≤ issue k x 0)
unfolding issue gate past
first_issue k x = (omega arith, omega arith)

-- no FENCE.I is after its start, the fills before it are clean, and their words were granted before they answered
pub record IsFreshStream (x : Stream) : Type 0 where
  pub fresh : IsFresh x.fences x.start
  pub clean : IsClean x.fences x.before
  pub sound : IsSound x.before

-- so each word of it is read after the last FENCE.I
pub brought_fresh : (k : Settings) (x : Stream) (j : ℕ) → IsFreshStream x → IsFresh x.fences (past k x (suc j)).grant
brought_fresh k x j z =
    past_fresh k x j z.clean (fresh_later x.fences x.start (issue k x j)
    (omega (arith, (first_issue k x).0, issue_mono k x 0 j (omega arith))) z.fresh)

-- a FENCE.I that is not before the fills
pub fenced_clear : (fences : List ℕ) (fills : List Fill) (d v : ℕ) → v ≤ d → AreStored fills v → AreClear fences fills
    → AreClear (d ∷ fences) fills
fenced_clear fences [] d v late s z = tt
fenced_clear fences (x ∷ fills) d v late s z =
    (((λ h. absurd (omega (arith, h, s.0))), z.0), fenced_clear fences fills d v late s.1 z.1)

-- the stream after an event
abbrev after_marks : Settings → Bool → Bool → Ctl → ℕ → ℕ → Stream → Stream
after_marks k f r c d target x = redirected_to k (marked f c d x) d (target_if r target)

-- a fresh stream that starts at d or before
pub record IsFreshAt (x : Stream) (d : ℕ) : Type 0 where
  pub stream : IsFreshStream x
  pub start : x.start ≤ d

-- after an event the stream is fresh again: a FENCE.I redirects
marks_fresh : (k : Settings) (f r : Bool) (c : Ctl) (d target : ℕ) (x : Stream) → (f ≡ true → r ≡ true)
    → (f ≡ true → x.before.answer ≤ d) → IsFreshAt x d → IsFreshAt (after_marks k f r c d target x) d
unfolding redirected
marks_fresh k false false c d target x turns late z =
    record {
      stream = record { fresh = z.stream.fresh; clean = z.stream.clean; sound = z.stream.sound };
      start = z.start;
    }
marks_fresh k false true c d target x turns late z = record {
  stream = record {
    fresh = fresh_later x.fences x.start d z.start z.stream.fresh;
    clean = past_clean k (marked false c d x) (requested k (marked false c d x) d) z.stream.clean;
    sound = past_sound k (marked false c d x) (requested k (marked false c d x) d) z.stream.sound;
  };
  start = omega arith;
}
marks_fresh k true true c d target x turns late z = record {
  stream = record {
    fresh = (omega arith, fresh_later x.fences x.start d z.start z.stream.fresh);
    clean = past_clean k (marked true c d x) (requested k (marked true c d x) d)
        (record {
          clear = fenced_clear x.fences x.before.fills d x.before.answer (late refl) z.stream.clean.stored
              z.stream.clean.clear;
          stored = z.stream.clean.stored;
        });
    sound = past_sound k (marked true c d x) (requested k (marked true c d x) d) z.stream.sound;
  };
  start = omega arith;
}
marks_fresh k true false c d target x turns late z = let no_ : true ≡ false = sym (turns refl) in cc

-- ---- an item that is a FENCE.I

-- it redirects, and neither an interrupt nor a dummy is one
retired_turns : (k : Settings) (c : Ctl) (v : View) (o : Option Insn) (n : ℕ)
    → (retired_item k c v o (plain n)).fences ≡ true → (retired_item k c v o (plain n)).redirects ≡ true
unfolding retired_item
retired_turns k c v None n e = let no_ : true ≡ false = sym e in cc
retired_turns k c v (Some (Lui rd imm)) n e = let no_ : true ≡ false = sym e in cc
retired_turns k c v (Some (Auipc rd imm)) n e = let no_ : true ≡ false = sym e in cc
retired_turns k c v (Some (Jal rd imm)) n e = refl
retired_turns k c v (Some (Jalr rd rs1 imm)) n e = refl
retired_turns k c v (Some (Branch op rs1 rs2 imm)) n e = branch_turns (is_turned (is_fixed c) op v.ops) n e
  where
    branch_turns : (b : Bool) (n : ℕ) → (branching b (plain n)).fences ≡ true
        → (branching b (plain n)).redirects ≡ true
    branch_turns true n e = refl
    branch_turns false n e = e
retired_turns k c v (Some (Load op rd rs1 imm)) n e = let no_ : true ≡ false = sym e in cc
retired_turns k c v (Some (Store size rs1 rs2 imm)) n e = let no_ : true ≡ false = sym e in cc
retired_turns k c v (Some (AluImm op rd rs1 imm)) n e = let no_ : true ≡ false = sym e in cc
retired_turns k c v (Some (Alu op rd rs1 rs2)) n e = let no_ : true ≡ false = sym e in cc
retired_turns k c v (Some (MulDiv op rd rs1 rs2)) n e = let no_ : true ≡ false = sym e in cc
retired_turns k c v (Some (Csr op rd src imm addr)) n e = let no_ : true ≡ false = sym e in cc
retired_turns k c v (Some Fence) n e = let no_ : true ≡ false = sym e in cc
retired_turns k c v (Some FenceI) n e = refl
retired_turns k c v (Some Ecall) n e = let no_ : true ≡ false = sym e in cc
retired_turns k c v (Some Ebreak) n e = let no_ : true ≡ false = sym e in cc
retired_turns k c v (Some Mret) n e = refl
retired_turns k c v (Some Wfi) n e = let no_ : true ≡ false = sym e in cc

-- an event's item that is a FENCE.I redirects, whatever its view
pub item_turns : (k : Settings) (c : Ctl) (v : View) → (item_of k c v).fences ≡ true → (item_of k c v).redirects ≡ true
unfolding item_of
item_turns k c v = kind_turns (v.kind == 2) (v.kind == 1)
  where
    kind_turns : (irq trap : Bool)
        → (if irq then record (plain 0) { redirects = true } else
        if trap then record (plain (trap_parcels v))
        { portions = portions_for k c (instruction_of v.word) v.addr; cost = 1; redirects = true } else
        retired_item k c v (instruction_of v.word) (plain (parcels_of v.word))).fences ≡ true
        → (if irq then record (plain 0) { redirects = true } else
        if trap then record (plain (trap_parcels v))
        { portions = portions_for k c (instruction_of v.word) v.addr; cost = 1; redirects = true } else
        retired_item k c v (instruction_of v.word) (plain (parcels_of v.word))).redirects ≡ true
    kind_turns true trap e = refl
    kind_turns false true e = refl
    kind_turns false false e = retired_turns k c v (instruction_of v.word) (parcels_of v.word) e

-- an interrupt is no FENCE.I
irq_item : (k : Settings) (c : Ctl) (v : View) → (v.kind == 2) ≡ true → (item_of k c v).fences ≡ false
unfolding item_of
irq_item k c v e = rw e refl

-- a dummy is no FENCE.I
dummy_fences : (s : Setup) (h : Story) → (item_by s h None).fences ≡ false
unfolding dummy_item
dummy_fences s h = refl

-- whatever is admitted redirects where it is a FENCE.I
pub choice_turns : (s : Setup) (h : Story) (o : Option Choice) → (item_by s h o).fences ≡ true
    → (item_by s h o).redirects ≡ true
choice_turns s h (Some choice) e = item_turns (settings_of s) h.times.ctl (view_with s h choice) e
choice_turns s h None e = let no_ : true ≡ false = sym e ∙ dummy_fences s h in cc

-- ---- the times of an item

-- an item is admitted in the done cycle of the one before it, or later
pub admission_after : (s : Setup) (limit : ℕ) (h : Story) → h.done ≤ admission s limit h
unfolding admission
admission_after s limit h =
    first_after (limit - h.done) (λ t. is_ready (kind_at (settings_of s) h.times t) (words_there s h t)) h.done

-- what is admitted before limit is ready
pub admission_ready : (s : Setup) (limit : ℕ) (h : Story) → admission s limit h < limit
    → is_ready (kind_of s (admission s limit h) h) (words_there s h (admission s limit h)) ≡ true
unfolding admission
admission_ready s limit h low =
    first_found (limit - h.done) (λ t. is_ready (kind_at (settings_of s) h.times t) (words_there s h t)) h.done
    (omega (
      arith,
      low,
      first_after (limit - h.done)
          (λ t. is_ready (kind_at (settings_of s) h.times t) (words_there s h t)) h.done,
    ))

-- an instruction's first word has answered by its admission, and with it all that was requested before
answered_by : (k : Settings) (x : Times) (parcels t : ℕ) → has_answered k x parcels t ≡ true
    → answer k x.stream (length x.stream.enters) ≤ t
unfolding has_answered
answered_by k x parcels t e =
    leb-true (answer k x.stream (length x.stream.enters)) t
    (and_first (nat_le (answer k x.stream (length x.stream.enters)) t)
    (not (x.half == 1 && parcels == 2) || nat_le (answer k x.stream (length x.stream.enters + 1)) t) e)

-- where the words of the next instruction are there, its first word has answered
there_by : (s : Setup) (h : Story) (t : ℕ) → words_there s h t ≡ true
    → answer (settings_of s) h.times.stream (length h.times.stream.enters) ≤ t
unfolding words_there
there_by s h t e = answered_by (settings_of s) h.times
    (item_of (settings_of s) h.times.ctl (view_with s h (brought_parcels s h))).parcels t e

-- no word of a stream answers before what was requested before that stream
first_answered : (k : Settings) (x : Stream) (j t : ℕ) → answer k x j ≤ t → x.before.answer ≤ t
first_answered k x j t h = omega (arith, h, (first_issue k x).1, issue_mono k x 0 j (omega arith), after_issue k x j)

-- a FENCE.I is admitted after all that was requested before its stream
fence_late : (s : Setup) (h : Story) (t : ℕ) (kind : Kind) → is_ready kind (words_there s h t) ≡ true
    → (item_by s h (choice_by s h kind)).fences ≡ true → h.times.stream.before.answer ≤ t
fence_late s h t (AnInterrupt number) ready e =
    let no_ : true ≡ false =
    sym e ∙ irq_item (settings_of s) h.times.ctl (view_with s h (Interrupt number)) (view_interrupt s h number) in cc
fence_late s h t ADummy ready e = let no_ : true ≡ false = sym e ∙ dummy_fences s h in cc
fence_late s h t AnInstruction ready e =
    first_answered (settings_of s) h.times.stream (length h.times.stream.enters) t (there_by s h t ready)

-- ---- the story

-- its stream is fresh at the last done cycle
pub record IsFreshStory (h : Story) : Type 0 where
  pub at : IsFreshAt h.times.stream h.done

-- an event that is a FENCE.I comes after all answers before its stream, so the story stays fresh
event_fresh : (k : Settings) (d : ℕ) (v : View) (i : Item) (pc : ℕ) (x : Times)
    → (i.fences ≡ true → i.redirects ≡ true) → (i.fences ≡ true → x.stream.before.answer ≤ d) → IsFreshAt x.stream d
    → IsFreshAt (after_event k d v i pc x).stream d
unfolding after_event
event_fresh k d v i pc x turns late z =
    marks_fresh k i.fences i.redirects (ctl_after x.ctl v) d pc x.stream turns late z

-- an item that is done leaves a fresh story: a dummy leaves the stream, an event may redirect it
ended_fresh : (s : Setup) (h : Story) (o : Option Choice) (i : Item) (d : ℕ) (y : Story)
    → (i.fences ≡ true → i.redirects ≡ true) → (i.fences ≡ true → y.times.stream.before.answer ≤ d)
    → IsFreshAt y.times.stream d → IsFreshStory (ended_by s h o i d y)
ended_fresh s h (Some choice) i d y turns late z = record {
  at = event_fresh (settings_of s) d (view_with s h choice) i
      (step_with (lines_in (settings_of s)) h.state choice d).next.pc y.times turns late z;
}
ended_fresh s h None i d y turns late z = record { at = z }

-- an admission leaves the state, and a fresh stream fresh
pub taken_state : (s : Setup) (t : ℕ) (h : Story) → (taken s t h).state ≡ h.state
unfolding taken
taken_state s t h = refl

-- an admission leaves a fresh stream fresh, at any later cycle too
taken_fresh : (s : Setup) (t d : ℕ) (h : Story) → IsFreshAt h.times.stream h.done → h.done ≤ d
    → IsFreshAt (taken s t h).times.stream d
unfolding taken admitted
taken_fresh s t d h z late = record {
  stream =
      record { fresh = z.stream.fresh; clean = z.stream.clean; sound = z.stream.sound };
  start =
      omega (arith, z.start, late);
}

-- an admission leaves what the requests before the stream left
taken_before : (s : Setup) (t : ℕ) (h : Story) → (taken s t h).times.stream.before ≡ h.times.stream.before
unfolding taken admitted
taken_before s t h = refl

-- the item that is admitted at t is the one of its choice
pub item_at_is : (s : Setup) (t : ℕ) (h : Story) → item_at s t h ≡ item_by s h (choice_at s t h)
unfolding item_at
item_at_is s t h = refl

-- so it is after each item, from the opening on
continued_fresh : (s : Setup) (limit : ℕ) (h : Story) → admission s limit h < limit → IsFreshStory h
    → IsFreshStory (continued s limit (admission s limit h) h)
unfolding continued
continued_fresh s limit h low z =
    let t : ℕ = admission s limit h in
    let d : ℕ = done_at s limit t h in
    let after : t < d = done_after (settings_of s) limit t (item_at s t h) h.times in
    ended_fresh s h (choice_at s t h) (item_at s t h) d (taken s t h)
    (subst (λ i. i.fences ≡ true → i.redirects ≡ true) (sym (item_at_is s t h)) (choice_turns s h (choice_at s t h)))
    (λ e. omega (
      arith,
      after,
      fence_late s h t (kind_of s t h) (admission_ready s limit h low)
          (ap (λ i. i.fences) (sym (item_at_is s t h)) ∙ e),
      ap (λ y. y.answer) (taken_before s t h),
    ))
    (taken_fresh s t d h z.at (omega (arith, after, admission_after s limit h)))

-- the story's done cycle is that of the item that ended last
continued_done : (s : Setup) (limit t : ℕ) (h : Story) → (continued s limit t h).done ≡ done_at s limit t h
unfolding continued
continued_done s limit t h = done_is (choice_at s t h)
  where
    done_is : (o : Option Choice) → (ended_by s h o (item_at s t h) (done_at s limit t h) (taken s t h)).done
        ≡ done_at s limit t h
    done_is (Some choice) = refl
    done_is None = refl

-- at reset there is neither a FENCE.I nor a fill, so the story is fresh
opening_fresh : (s : Setup) → IsFreshStory (opening s)
unfolding first_times
opening_fresh s = record {
  at = record {
    stream =
        record { fresh = tt; clean = record { clear = tt; stored = tt }; sound = tt };
    start = omega arith;
  };
}

-- after any number of items that are done before limit the story is fresh
story_fresh : (s : Setup) (limit n : ℕ) → (story_after s limit n).done < limit → IsFreshStory (story_after s limit n)
unfolding story_after
story_fresh s limit zero low = opening_fresh s
story_fresh s limit (suc n) low =
    let h : Story = story_after s limit n in
    let t : ℕ = admission s limit h in
    let below : t < limit =
    omega (arith, low, continued_done s limit t h, done_after (settings_of s) limit t (item_at s t h) h.times) in
    continued_fresh s limit h below (story_fresh s limit n (omega (arith, below, admission_after s limit h)))

-- so each parcel that is brought was in memory at its grant, with no FENCE.I since
seen_at : (s : Setup) (t : ℕ) (h : Story) (j addr : ℕ) → IsFreshStory h → answer (settings_of s) h.times.stream j ≤ t
    → SeenAt s t h j addr
seen_at s t h j addr z low = record {
  cycle = (past (settings_of s) h.times.stream (suc j)).grant;
  since = fresh_all h.times.stream.fences (past (settings_of s) h.times.stream (suc j)).grant
      (brought_fresh (settings_of s) h.times.stream j z.at.stream);
  until = omega (arith, low, grant_before (settings_of s) h.times.stream j z.at.stream.sound);
  held = refl;
}

-- ---- both words of an instruction that takes two parcels have answered

-- where a second word is needed it has answered too
half_two : (a b c : Bool) → a ≡ true → b ≡ true → not (a && b) || c ≡ true → c ≡ true
half_two true true c p q e = e
half_two true false c p q e = let no_ : true ≡ false = sym q in cc
half_two false b c p q e = let no_ : true ≡ false = sym p in cc

-- the word of the second parcel has answered, be it the first parcel's word or the next one
second_by : (k : Settings) (x : Times) (parcels t : ℕ) → has_answered k x parcels t ≡ true → parcels ≡ 2 → x.half < 2
    → answer k x.stream (length x.stream.enters + x.half) ≤ t
unfolding has_answered
second_by k x parcels t e two low =
    elim (cases_eq x.half 1) [
      | inl one ↦
          let there : answer k x.stream (length x.stream.enters + 1) ≤ t =
          leb-true (answer k x.stream (length x.stream.enters + 1)) t
          (half_two (x.half == 1) (parcels == 2) (nat_le (answer k x.stream (length x.stream.enters + 1)) t)
          (eq-eqb x.half 1 one) (eq-eqb parcels 2 two)
          (and_second (nat_le (answer k x.stream (length x.stream.enters)) t)
          (not (x.half == 1 && parcels == 2) || nat_le (answer k x.stream (length x.stream.enters + 1)) t) e)) in
          omega (arith, there, ap (λ n. answer k x.stream (length x.stream.enters + n)) one)
      | inr other ↦
          let zero_is : x.half ≡ 0 = omega arith in
          let same : length x.stream.enters + x.half ≡ length x.stream.enters = omega arith in
          omega (arith, answered_by k x parcels t e, ap (answer k x.stream) same)
    ]

-- so where the words of an instruction of two parcels are there, the second parcel's has answered
there_second : (s : Setup) (h : Story) (t : ℕ) → words_there s h t ≡ true
    → (item_by s h (Some (brought_parcels s h))).parcels ≡ 2 → h.times.half < 2
    → answer (settings_of s) h.times.stream (length h.times.stream.enters + h.times.half) ≤ t
unfolding words_there
there_second s h t e two low = second_by (settings_of s) h.times
    (item_of (settings_of s) h.times.ctl (view_with s h (brought_parcels s h))).parcels t e two low

-- ---- the half of a word is 0 or 1

-- it stays so after an event and an admission, from the opening on
half_after_by : (r : Bool) (target half : ℕ) → half < 2 → half_after (target_if r target) half < 2
half_after_by true target half h = omega arith
half_after_by false target half h = h

-- an event that redirects sets the half by its target, and any other leaves it
event_half : (k : Settings) (d : ℕ) (v : View) (i : Item) (pc : ℕ) (x : Times) → x.half < 2
    → (after_event k d v i pc x).half < 2
unfolding after_event
event_half k d v i pc x h = half_after_by i.redirects pc x.half h

-- a dummy leaves the half, and an event leaves 0 or 1
ended_half : (s : Setup) (h : Story) (o : Option Choice) (i : Item) (d : ℕ) (y : Story) → y.times.half < 2
    → (ended_by s h o i d y).times.half < 2
ended_half s h (Some choice) i d y low =
    event_half (settings_of s) d (view_with s h choice) i
    (step_with (lines_in (settings_of s)) h.state choice d).next.pc y.times low
ended_half s h None i d y low = low

-- an admission moves the half by the item's parcels, modulo 2
taken_half : (s : Setup) (t : ℕ) (h : Story) → (taken s t h).times.half < 2
unfolding taken admitted
taken_half s t h = omega arith

-- so it is 0 or 1 after each item
pub continued_half : (s : Setup) (limit t : ℕ) (h : Story) → (continued s limit t h).times.half < 2
unfolding continued
continued_half s limit t h =
    ended_half s h (choice_at s t h) (item_at s t h) (done_at s limit t h) (taken s t h) (taken_half s t h)

-- at reset it is the half of its word that the entry is in
opening_half : (s : Setup) → (opening s).times.half < 2
unfolding first_times
opening_half s = omega arith

-- after any number of items the half is 0 or 1
pub story_half : (s : Setup) (limit n : ℕ) → (story_after s limit n).times.half < 2
unfolding story_after
story_half s limit zero = opening_half s
story_half s limit (suc n) = continued_half s limit (admission s limit (story_after s limit n)) (story_after s limit n)

-- ---- the parcels

-- an instruction is admitted with its words there
ready_there : (kind : Kind) (words : Bool) → kind ≡ AnInstruction → is_ready kind words ≡ true → words ≡ true
ready_there kind words e ready = ap (λ u. is_ready u words) (sym e) ∙ ready

-- where a real instruction is admitted, the item is that of the parcels brought
instruction_item : (s : Setup) (t : ℕ) (h : Story) → kind_of s t h ≡ AnInstruction
    → item_at s t h ≡ item_by s h (Some (brought_parcels s h))
instruction_item s t h e = item_at_is s t h ∙ ap (λ kind. item_by s h (choice_by s h kind)) e

-- so its parcels are seen
are_seen : (s : Setup) (t : ℕ) (h : Story) → kind_of s t h ≡ AnInstruction → words_there s h t ≡ true
    → h.times.half < 2 → IsFreshStory h → AreSeen s t h
are_seen s t h kind there half z = record {
  first = seen_at s t h (length h.times.stream.enters) h.state.pc z (there_by s h t there);
  second = λ two.
      seen_at s t h (length h.times.stream.enters + h.times.half) ((h.state.pc + 2) % 2 ^ 32) z
      (there_second s h t there (ap (λ i. i.parcels) (sym (instruction_item s t h kind)) ∙ two) half);
}

-- each parcel brought is a value that memory held since the last FENCE.I and before the admission
pub has_seen : (s : Setup) → HasSeen s
has_seen s limit n low kind =
    let h : Story = story_after s limit n in
    let t : ℕ = admission s limit h in
    are_seen s t h kind (ready_there (kind_of s t h) (words_there s h t) kind (admission_ready s limit h low))
    (story_half s limit n)
    (story_fresh s limit n (omega (arith, low, admission_after s limit h)))
