-- What the equations of the history say: requests and answers come in order, an enter more changes no
-- issue that is known, and the search for the number of requests.
use Rattle.std.proofs.Common.{◌≡◌, ℕ, zero, suc, ◌+◌, ◌<◌, ◌≤◌, max, Bool, true, false, List, ◌==◌, if◌then◌else◌}
use Rattle.std.proofs.Common.{Some, [], ◌∷◌, ◌++◌, length, get_or, refl, sym, subst, ap, ap₂, ◌∙◌, inl, inr, le_of_eq}
use Rattle.std.proofs.Common.{arith, length-append}
use Rattle.std.proofs.Math.ListN.{get_or-append}
use Rattle.std.proofs.Math.Seq.{get_or-append_seam}
use Rattle.std.proofs.lemmas.Bool.{cases_lt, cases_eq, lt-ltb, le-ltb}
use Rattle.ibx_bus.specs.PortTimes.{grant_time, answer_time}
use Rattle.ibx_time.specs.Settings.{Settings}
use Rattle.ibx_time.specs.Requests.{Past, Fill, line_of, slot_of, last_fill, fill_grant, half_grant, is_upper, made}
use Rattle.ibx_time.specs.Requests.{found_slot, victim, is_kept, first_grant, second_grant, second_answer, request_by}
use Rattle.ibx_time.specs.Requests.{after_request, is_present, is_cached}
use Rattle.ibx_time.specs.Streams.{Stream, gate, past, answer, issue, words, requested, last_of, word_addr}

-- a request is answered after it
request_later : (s : Settings) (y : Past) (t a : ℕ) (b k n : Bool) (hs : ℕ) (v : Bool)
    → t < (request_by b k n hs v s y t a).answer
unfolding request_by answer_time grant_time
request_later s y t a false k n hs v = omega arith
request_later s y t a true true n hs v = omega arith
request_later s y t a true false n hs v = omega arith

-- the definitions, unfolded once: when word j is requested, and what the first words leave
pub issue_is : (s : Settings) (x : Stream) (j : ℕ) → issue s x j ≡ max (past s x j).answer (gate x j)
unfolding issue
issue_is s x j = refl

-- a word more leaves what its request leaves, made in its issue cycle after the words before it
pub past_suc : (s : Settings) (x : Stream) (j : ℕ)
    → past s x (suc j) ≡ after_request s x.switches x.fences (past s x j) (issue s x j) (word_addr x j)
unfolding past issue
past_suc s x j = refl

-- a word is requested before its answer, and the next one not before that, so both rise along the stream
pub after_issue : (s : Settings) (x : Stream) (j : ℕ) → issue s x j < answer s x j
after_issue s x j =
    omega (
      arith,
      ap (λ y. y.answer) (past_suc s x j),
      request_later s (past s x j) (issue s x j) (word_addr x j) (is_cached x.switches x.fences (issue s x j))
          (is_present x.fences (past s x j).fills (line_of (word_addr x j)) (issue s x j))
          (is_kept s x.fences (past s x j) (issue s x j) (word_addr x j))
          (found_slot x.fences (past s x j).fills (line_of (word_addr x j)) (issue s x j))
          (victim x.fences (past s x j).fills (line_of (word_addr x j)) (issue s x j)),
    )

-- no word is requested before the one in front of it has answered
pub next_issue : (s : Settings) (x : Stream) (j : ℕ) → answer s x j ≤ issue s x (suc j)
next_issue s x j = omega (arith, issue_is s x (suc j))

-- words answer in the order of the stream
pub answer_mono : (s : Settings) (x : Stream) (i j : ℕ) → i ≤ j → answer s x i ≤ answer s x j
answer_mono s x i zero h = le_of_eq (ap (answer s x) (omega arith))
answer_mono s x i (suc j) h =
    elim (cases_eq i (suc j)) [
      | inl e ↦ le_of_eq (ap (answer s x) e)
      | inr ne ↦ omega (arith, answer_mono s x i j (omega arith), after_issue s x (suc j), next_issue s x j)
    ]

-- words are requested in the order of the stream
pub issue_mono : (s : Settings) (x : Stream) (i j : ℕ) → i ≤ j → issue s x i ≤ issue s x j
issue_mono s x i zero h = le_of_eq (ap (issue s x) (omega arith))
issue_mono s x i (suc j) h =
    elim (cases_eq i (suc j)) [
      | inl e ↦ le_of_eq (ap (issue s x) e)
      | inr ne ↦ omega (arith, issue_mono s x i j (omega arith), after_issue s x j, next_issue s x j)
    ]

-- ---- one enter more

-- the stream with one enter more
abbrev pub with_enter : Stream → ℕ → Stream
with_enter x e = record x { enters = x.enters ++ e ∷ [] }

-- it holds back just the word three behind it
pub gate_more : (x : Stream) (e j : ℕ) → j < length x.enters + 3 → gate (with_enter x e) j ≡ gate x j
unfolding gate
gate_more x e zero h = refl
gate_more x e (suc zero) h = refl
gate_more x e (suc (suc zero)) h = refl
gate_more x e (suc (suc (suc i))) h = get_or-append x.enters (e ∷ []) 0 i (omega arith)

-- the new enter holds back the word three behind the one whose last half it takes
pub gate_end : (x : Stream) (e j : ℕ) → j ≡ length x.enters + 3 → gate (with_enter x e) j ≡ e
unfolding gate
gate_end x e zero h = absurd (omega arith)
gate_end x e (suc zero) h = absurd (omega arith)
gate_end x e (suc (suc zero)) h = absurd (omega arith)
gate_end x e (suc (suc (suc i))) h =
    let at : i ≡ length x.enters = omega arith in
    ap (λ k. get_or (x.enters ++ e ∷ []) k 0) at ∙ get_or-append_seam x.enters e [] 0

-- so words before that one are the same, and when they are requested
pub past_more : (s : Settings) (x : Stream) (e j : ℕ) → j ≤ length x.enters + 3
    → past s (with_enter x e) j ≡ past s x j
unfolding past
past_more s x e zero h = refl
past_more s x e (suc j) h =
    ap₂ (λ y g. after_request s x.switches x.fences y (max y.answer g) (word_addr x j))
    (past_more s x e j (omega arith)) (gate_more x e j h)

-- words before that one are requested in the same cycles
pub issue_more : (s : Settings) (x : Stream) (e j : ℕ) → j < length x.enters + 3
    → issue s (with_enter x e) j ≡ issue s x j
unfolding issue
issue_more s x e j h = ap₂ (λ y g. max y.answer g) (past_more s x e j (omega arith)) (gate_more x e j h)

-- the address of the last request is the same
pub last_more : (x : Stream) (e q : ℕ) → last_of (with_enter x e) q ≡ last_of x q
unfolding last_of
last_more x e zero = refl
last_more x e (suc j) = refl

-- ---- how many are requested

-- just the first q words of the stream are requested before cycle t
pub record IsRequested (s : Settings) (x : Stream) (t q : ℕ) : Type 0 where
  pub within : q ≤ length x.enters + 3
  pub before : (j : ℕ) → j < q → issue s x j < t
  pub after : q < length x.enters + 3 → t ≤ issue s x q

-- the search for their number ends at q
words_at : (s : Settings) (x : Stream) (t q : ℕ) → IsRequested s x t q → (b : ℕ) → q ≤ b → b ≤ length x.enters + 3
    → words s x t b ≡ q
unfolding words
words_at s x t q r zero low high = omega arith
words_at s x t q r (suc b) low high =
    elim (cases_eq q (suc b)) [
      | inl e ↦ rw (lt-ltb (issue s x b) t (r.before b (omega arith))) (sym e)
      | inr ne ↦
          rw (le-ltb (issue s x b) t (omega (arith, r.after (omega arith), issue_mono s x q b (omega arith))))
          (words_at s x t q r b (omega arith) (omega arith))
    ]

-- so q words are requested before t
pub requested_is : (s : Settings) (x : Stream) (t q : ℕ) → IsRequested s x t q → requested s x t ≡ q
requested_is s x t q r = words_at s x t q r (length x.enters + 3) r.within (omega arith)

-- what held back the words so far is past
abbrev pub IsPast : Stream → ℕ → Type 0
IsPast x c = (q : ℕ) → q < length x.enters + 3 → gate x q ≤ c

-- one enter more is one more in the list
pub more_length : (x : Stream) (e : ℕ) → length (with_enter x e).enters ≡ length x.enters + 1
more_length x e = length-append x.enters (e ∷ [])

-- an enter in cycle c leaves no word held back beyond c
pub gates_more : (x : Stream) (c : ℕ) → IsPast x c → IsPast (with_enter x c) c
gates_more x c old q h =
    elim (cases_lt q (length x.enters + 3)) [
      | inl below ↦ omega (arith, gate_more x c q below, old q below)
      | inr end ↦
          let at : q ≡ length x.enters + 3 = omega (arith, more_length x c) in
          omega (arith, gate_end x c q at)
    ]

-- an enter more, at t, leaves what is requested before t
pub requested_more : (s : Settings) (x : Stream) (t q : ℕ) → IsRequested s x t q → IsRequested s (with_enter x t) t q
requested_more s x t q r =
    record {
      within = omega (arith, r.within, more_length x t);
      before = λ j h. omega (arith, r.before j h, issue_more s x t j (omega (arith, r.within)));
      after = λ h.
          elim (cases_lt q (length x.enters + 3)) [
            | inl below ↦ omega (arith, r.after below, issue_more s x t q below)
            | inr end ↦
                let at : q ≡ length x.enters + 3 = omega (arith, r.within) in
                omega (arith, issue_is s (with_enter x t) q, gate_end x t q at)
          ];
    }

-- ---- every grant is before the answer that it brings

-- the words of these fills were granted before a cycle
abbrev pub Sound : List Fill → ℕ → Type 0
Sound [] v = Unit {0}
Sound (k ∷ fills) v = (k.grant0 < v) × ((k.grant1 < v) × Sound fills v)

-- and so before a later one
sound_later : (fills : List Fill) (v w : ℕ) → v ≤ w → Sound fills v → Sound fills w
sound_later [] v w h z = tt
sound_later (k ∷ fills) v w h z = (omega (arith, z.0), (omega (arith, z.1.0), sound_later fills v w h z.1.1))

-- either grant is before it, so the one of a word is, and of a word that is found
pub half_before : (a g0 g1 v : ℕ) → g0 < v → g1 < v → half_grant a g0 g1 < v
half_before a g0 g1 v h0 h1 = elim (is_upper a) as (λ b. (if b then g1 else g0) < v) [ true ↦ h1 | false ↦ h0 ]

-- where all fills were granted before a cycle, so was the word that is found at a place
hit_before : (fills : List Fill) (set a v : ℕ) → 0 < v → Sound fills v → fill_grant (last_fill fills set) a < v
unfolding last_fill fill_grant
hit_before [] set a v h z = h
hit_before (k ∷ fills) set a v h z =
    elim (slot_of k.line k.way == set) as (λ b. fill_grant (if b then Some k else last_fill fills set) a < v) [
      | true ↦ half_before a k.grant0 k.grant1 v z.0 z.1.0
      | false ↦ hit_before fills set a v h z.1.1
    ]

-- a request leaves this so
request_sound : (s : Settings) (y : Past) (t a : ℕ) (b k n : Bool) (hs : ℕ) (v : Bool) → y.answer ≤ t
    → Sound y.fills y.answer → ((request_by b k n hs v s y t a).grant < (request_by b k n hs v s y t a).answer)
    × Sound (request_by b k n hs v s y t a).fills (request_by b k n hs v s y t a).answer
unfolding request_by answer_time grant_time
request_sound s y t a false k n hs v h z =
    (omega arith, sound_later y.fills y.answer (answer_time s.plan.iwaits (made y) t) (omega arith) z)
request_sound s y t a true true n hs v h z = (
  hit_before y.fills hs a (t + 1) (omega arith) (sound_later y.fills y.answer (t + 1) (omega arith) z),
  sound_later y.fills y.answer (t + 1) (omega arith) z,
)
request_sound s y t a true false true hs v h z = (
  half_before a (first_grant s y t) (second_grant s y t) (second_answer s y t + 1) (omega arith) (omega arith),
  (omega arith, (omega arith, sound_later y.fills y.answer (second_answer s y t + 1) (omega arith) z)),
)
request_sound s y t a true false false hs v h z = (
  half_before a (first_grant s y t) (second_grant s y t) (second_answer s y t + 1) (omega arith) (omega arith),
  sound_later y.fills y.answer (second_answer s y t + 1) (omega arith) z,
)

-- the fills were granted before the last answer
abbrev pub IsSound : Past → Type 0
IsSound y = Sound y.fills y.answer

-- so it is after each word of a stream
sound_by : (s : Settings) (x : Stream) (j : ℕ) → IsSound (past s x j)
    → ((past s x (suc j)).grant < (past s x (suc j)).answer) × IsSound (past s x (suc j))
sound_by s x j z =
    let t : ℕ = issue s x j in
    let y : Past = past s x j in
    let P : Past → Type 0 = λ v. (v.grant < v.answer) × IsSound v in
    subst P (sym (past_suc s x j))
    (request_sound s y t (word_addr x j) (is_cached x.switches x.fences t)
    (is_present x.fences y.fills (line_of (word_addr x j)) t) (is_kept s x.fences y t (word_addr x j))
    (found_slot x.fences y.fills (line_of (word_addr x j)) t) (victim x.fences y.fills (line_of (word_addr x j)) t)
    (omega (arith, issue_is s x j)) z)

-- along a stream all fills were granted before the last answer
pub past_sound : (s : Settings) (x : Stream) (j : ℕ) → IsSound x.before → IsSound (past s x j)
unfolding past
past_sound s x zero z = z
past_sound s x (suc j) z = (sound_by s x j (past_sound s x j z)).1

-- so each word is granted before it answers
pub grant_before : (s : Settings) (x : Stream) (j : ℕ) → IsSound x.before → (past s x (suc j)).grant < answer s x j
grant_before s x j z = (sound_by s x j (past_sound s x j z)).0
