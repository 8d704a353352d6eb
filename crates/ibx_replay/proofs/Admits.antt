-- The search for an admission: what the code asks of the words is what the equations ask, and which cycles it skips.
use Rattle.std.proofs.Common.{◌≡◌, ℕ, suc, ◌+◌, ◌-◌, ◌<◌, ◌≤◌, ◌⊎◌, inl, inr, min, Bool, true, false, not, ◌&&◌, ◌||◌}
use Rattle.std.proofs.Common.{◌==◌, length, refl, sym, ap, ap₂, ◌∙◌, subst, arith, nat_lt, nat_le, if◌then◌else◌}
use Rattle.std.proofs.lemmas.Bool.{lt-leb, lt-ltb, le-ltb, cases_lt, leb-false}
use Rattle.ibx_arch.specs.Step.{pending_in}
use Rattle.ibx_time.specs.Controls.{values_of}
use Rattle.ibx_time.specs.Dummies.{is_due_in}
use Rattle.ibx_time.specs.Search.{first_from}
use Rattle.ibx_time.specs.Settings.{Settings, lines_in}
use Rattle.ibx_time.specs.Streams.{Stream, answer}
use Rattle.ibx_time.specs.Times.{Times, AnInstruction, kind_at, kind_by, is_ready, has_answered}
use Rattle.ibx_time.proofs.Times.{after_issue, issue_mono}
use Rattle.ibx_replay.specs.Fetches.{Fetch, is_answered, are_there, missing_by, missing, news_of, issue_of}
use Rattle.ibx_replay.proofs.Fetched.{FetchAt}
use Rattle.ibx_replay.proofs.Keeps.{issue_now}
use Rattle.ibx_replay.proofs.Searches.{first_skips}

-- ---- the words

-- a word that isn't requested answers after it is issued
not_yet : (k : Settings) (reads : ℕ → ℕ → ℕ) (x : Stream) (q c i : ℕ) (f : Fetch) → FetchAt k reads x q c f
    → f.count ≤ i
    → i < 3 → issue_of f < answer k x (length x.enters + i)
not_yet k reads x q c i f h none low =
    omega (
      arith,
      issue_now k reads x q c f h (omega (arith, none, low, h.held)),
      after_issue k x (length x.enters + i),
      issue_mono k x q (length x.enters + i) (omega (arith, none, h.held)),
    )

-- the requests before t + 1 are made, or more, so word i has answered by t just where the code finds that
pub answered_by : (k : Settings) (reads : ℕ → ℕ → ℕ) (x : Stream) (q c t i : ℕ) (f : Fetch)
    → FetchAt k reads x q c f → t < c → i < 3 → is_answered f i t ≡ nat_le (answer k x (length x.enters + i)) t
answered_by k reads x q c t i f h past low = elim (cases_lt i f.count) [
  | inl held ↦ rw (lt-ltb i f.count held) (ap (λ v. nat_le v t) (h.words i held).answer)
  | inr none ↦
      let more : q < length x.enters + 3 = omega (arith, none, low, h.held) in
      rw (le-ltb i f.count none)
      (sym (lt-leb (answer k x (length x.enters + i)) t
      (omega (
        arith,
        past,
        not_yet k reads x q c i f h none low,
        issue_now k reads x q c f h more,
        h.requested.after more,
      ))))
]

-- it doesn't answer before its news
pub news_before : (k : Settings) (reads : ℕ → ℕ → ℕ) (x : Stream) (q c i u : ℕ) (f : Fetch) → FetchAt k reads x q c f
    → i < 3 → u < news_of f i → nat_le (answer k x (length x.enters + i)) u ≡ false
news_before k reads x q c i u f h low = by (cases_lt i f.count)
  where
    by : (i < f.count) ⊎ (f.count ≤ i) → u < (if nat_lt i f.count then (f.words i).answer else issue_of f)
        → nat_le (answer k x (length x.enters + i)) u ≡ false
    by (inl held) = rw (lt-ltb i f.count held)
        (λ soon. lt-leb (answer k x (length x.enters + i)) u (omega (arith, soon, (h.words i held).answer)))
    by (inr none) = rw (le-ltb i f.count none)
        (λ soon. lt-leb (answer k x (length x.enters + i)) u (omega
        (arith, soon, not_yet k reads x q c i f h none low)))

-- and its news come later, where it hasn't answered
pub news_later : (k : Settings) (reads : ℕ → ℕ → ℕ) (x : Stream) (q c t i : ℕ) (f : Fetch)
    → FetchAt k reads x q c f → t < c → i < 3 → is_answered f i t ≡ false → t < news_of f i
news_later k reads x q c t i f h past low = by (cases_lt i f.count)
  where
    by : (i < f.count) ⊎ (f.count ≤ i) → (nat_lt i f.count && nat_le (f.words i).answer t) ≡ false
        → t < (if nat_lt i f.count then (f.words i).answer else issue_of f)
    by (inl held) = rw (lt-ltb i f.count held) (λ e. omega (arith, leb-false (f.words i).answer t e))
    by (inr none) = rw (le-ltb i f.count none)
        (λ e.
        let more : q < length x.enters + 3 = omega (arith, none, low, h.held) in
        omega (arith, past, issue_now k reads x q c f h more, h.requested.after more))

-- ---- the words of an instruction

-- they have answered by u: two where it crosses a word
abbrev pub have_answered : Settings → Stream → Bool → ℕ → Bool
have_answered k x crosses u =
    nat_le (answer k x (length x.enters)) u && (not crosses || nat_le (answer k x (length x.enters + 1)) u)

-- of an instruction with so many parcels, this is what the equations ask
pub answered_words : (k : Settings) (x : Times) (parcels u : ℕ) → has_answered k x parcels u
    ≡ have_answered k x.stream (x.half == 1 && parcels == 2) u
unfolding has_answered
answered_words k x parcels u = refl

-- the code finds the same
pub there_is : (k : Settings) (reads : ℕ → ℕ → ℕ) (x : Stream) (q c t : ℕ) (crosses : Bool) (f : Fetch)
    → FetchAt k reads x q c f → t < c → are_there f crosses t ≡ have_answered k x crosses t
there_is k reads x q c t crosses f h past =
    let e : length x.enters + 0 ≡ length x.enters = omega arith in
    ap₂ (λ a b. a && (not crosses || b))
    (answered_by k reads x q c t 0 f h past (omega arith) ∙ ap (λ j. nat_le (answer k x j) t) e)
    (answered_by k reads x q c t 1 f h past (omega arith))

-- without the first word, or without a second that is needed, they haven't
lacks : (k : Settings) (x : Stream) (u i : ℕ) (crosses : Bool) → (i ≡ 0) ⊎ ((i ≡ 1) × (crosses ≡ true))
    → nat_le (answer k x (length x.enters + i)) u ≡ false → have_answered k x crosses u ≡ false
lacks k x u i crosses (inl e) h =
    let at : length x.enters + i ≡ length x.enters = omega (arith, e) in
    let no : nat_le (answer k x (length x.enters)) u ≡ false = sym (ap (λ j. nat_le (answer k x j) u) at) ∙ h in
    rw no refl
lacks k x u i crosses (inr e) h =
    let no : nat_le (answer k x (length x.enters + 1)) u ≡ false =
    sym (ap (λ j. nat_le (answer k x (length x.enters + j)) u) e.0) ∙ h in
    rw (no, e.1) (none (nat_le (answer k x (length x.enters)) u))
  where
    none : (b : Bool) → (b && false) ≡ false
    none true = refl
    none false = refl

-- the word that is missing
lacks_by : (a b crosses : Bool) → (a && (not crosses || b)) ≡ false
    → ((a ≡ false) × (missing_by a ≡ 0)) ⊎ ((b ≡ false) × ((missing_by a ≡ 1) × (crosses ≡ true)))
lacks_by false b crosses e = inl (refl, refl)
lacks_by true false true e = inr (refl, (refl, refl))
lacks_by true true crosses e = let no_ : true ≡ false = sym (yes crosses) ∙ e in cc
  where
    yes : (c : Bool) → (not c || true) ≡ true
    yes true = refl
    yes false = refl
lacks_by true false false e = let no_ : true ≡ false = e in cc

-- So where the words haven't answered by t, they don't up to the news of the missing one, which come after t.
pub record IsWaiting (k : Settings) (x : Stream) (t news : ℕ) (crosses : Bool) : Type 0 where
  pub later : t < news
  pub none : (u : ℕ) → u < news → have_answered k x crosses u ≡ false

-- where a word isn't there, nothing can be admitted up to that word's news
pub waits : (k : Settings) (reads : ℕ → ℕ → ℕ) (x : Stream) (q c t : ℕ) (crosses : Bool) (f : Fetch)
    → FetchAt k reads x q c f → t < c → are_there f crosses t ≡ false
    → IsWaiting k x t (news_of f (missing f t)) crosses
waits k reads x q c t crosses f h past e =
    by (lacks_by (is_answered f 0 t) (is_answered f 1 t) crosses e)
  where
    at : (i : ℕ) → i < 3 → (i ≡ 0) ⊎ ((i ≡ 1) × (crosses ≡ true)) → is_answered f i t ≡ false
        → IsWaiting k x t (news_of f i) crosses
    at i low which e = record {
      later = news_later k reads x q c t i f h past low e;
      none = λ u soon. lacks k x u i crosses which (news_before k reads x q c i u f h low soon);
    }

    by : ((is_answered f 0 t ≡ false) × (missing f t ≡ 0))
        ⊎ ((is_answered f 1 t ≡ false) × ((missing f t ≡ 1) × (crosses ≡ true)))
        → IsWaiting k x t (news_of f (missing f t)) crosses
    by (inl p) = subst (λ i. IsWaiting k x t (news_of f i) crosses) (sym p.1) (at 0 (omega arith) (inl refl) p.0)
    by (inr p) = subst (λ i. IsWaiting k x t (news_of f i) crosses) (sym p.1.0)
        (at 1 (omega arith) (inr (refl, p.1.1)) p.0)

-- ---- the search

-- what is admitted doesn't change while the lines don't
pub kind_same : (k : Settings) (x : Times) (t u : ℕ) → lines_in k u ≡ lines_in k t → kind_at k x u ≡ kind_at k x t
unfolding kind_at
kind_same k x t u e = ap (λ n. kind_by (pending_in (values_of x.ctl) n) (is_due_in x.ctl x.dummies)) e

-- the test of the search, where the item has so many parcels
abbrev pub ready_at : Settings → Times → ℕ → ℕ → Bool
ready_at k x parcels u = is_ready (kind_at k x u) (has_answered k x parcels u)

-- an instruction whose words haven't answered isn't ready
not_ready : (k : Settings) (x : Times) (parcels u : ℕ) → kind_at k x u ≡ AnInstruction
    → have_answered k x.stream (x.half == 1 && parcels == 2) u ≡ false → ready_at k x parcels u ≡ false
not_ready k x parcels u e h =
    ap (λ v. is_ready v (has_answered k x parcels u)) e ∙ answered_words k x parcels u ∙ h

-- a search goes on at a later cycle, where the test fails up to it
pub search_goes : (limit t u : ℕ) (test : ℕ → Bool) → t ≤ u → u ≤ limit → ((v : ℕ) → t ≤ v → v < u → test v ≡ false)
    → first_from (limit - t) test t ≡ first_from (limit - u) test u
search_goes limit t u test low high fails =
    let left : limit - t - (u - t) ≡ limit - u = omega (arith, low, high) in
    let at : t + (u - t) ≡ u = omega (arith, low) in
    first_skips (u - t) (limit - t) test t (omega (arith, low, high))
    (λ v a b. fails v a (omega (arith, b, low)))
    ∙ ap₂ (λ n c. first_from n test c) left at

-- and it ends where the test holds
pub search_ends : (limit t : ℕ) (test : ℕ → Bool) → t < limit → test t ≡ true → first_from (limit - t) test t ≡ t
unfolding first_from
search_ends limit t test low holds =
    let n : limit - t ≡ suc (limit - t - 1) = omega (arith, low) in
    ap (λ m. first_from m test t) n ∙ at (limit - t - 1) t test holds
  where
    at : (n t : ℕ) (test : ℕ → Bool) → test t ≡ true → first_from (suc n) test t ≡ t
    at n t test h = first t (test t) (first_from n test (t + 1)) h
      where
        first : (t : ℕ) (b : Bool) (y : ℕ) → b ≡ true → (if b then t else y) ≡ t
        first t true y e = refl
        first t false y e = let no_ : true ≡ false = sym e in cc

-- One turn of the search: where an instruction waits at t, it waits up to the sooner of the missing word's news and
-- the next change of the lines, which come after t.
pub search_step : (k : Settings) (reads : ℕ → ℕ → ℕ) (x : Times) (q c t change parcels : ℕ) (f : Fetch)
    → FetchAt k reads x.stream q c f → t < c → t < change
    → ((u : ℕ) → t ≤ u → u < change → lines_in k u ≡ lines_in k t) → kind_at k x t ≡ AnInstruction
    → are_there f (x.half == 1 && parcels == 2) t ≡ false
    → let next = min (news_of f (missing f t)) change in
    (t < next) × ((u : ℕ) → t ≤ u → u < next → ready_at k x parcels u ≡ false)
search_step k reads x q c t change parcels f h past soon same kind none =
    let w = waits k reads x.stream q c t (x.half == 1 && parcels == 2) f h past none in (
      omega (arith, w.later, soon),
      λ u low high. not_ready k x parcels u (kind_same k x t u (same u low (omega (arith, high))) ∙ kind)
          (w.none u (omega (arith, high))),
    )
