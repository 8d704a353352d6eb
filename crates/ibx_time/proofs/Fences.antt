-- A fence at c changes nothing of the requests before it, but whether the line in flight is stored.
use Rattle.std.proofs.Common.{◌*◌, ◌≡◌, ℕ, zero, suc, ◌+◌, ◌<◌, ◌≤◌, max, Bool, true, false, not, ◌&&◌, ◌||◌, List}
use Rattle.std.proofs.Common.{◌∷◌, refl, sym, ap, ap₂, ◌∙◌, arith, nat_lt, Option, Some, None, if◌then◌else◌}
use Rattle.std.proofs.lemmas.Bool.{lt-ltb, le-ltb, le-leb}
use Rattle.ibx_arch.specs.Memory.{is_mapped}
use Rattle.ibx_time.specs.Settings.{Settings}
use Rattle.ibx_time.specs.Requests.{Past, Fill, Switch, line_of, slot_of, last_fill, found_slot, victim, is_kept}
use Rattle.ibx_time.specs.Requests.{second_answer, request_by, after_request, is_present, is_cached, enabled_at}
use Rattle.ibx_time.specs.Requests.{is_walked, none_between, stands, holds_line, other_way, victim_by}
use Rattle.ibx_time.specs.Streams.{Stream, gate, past, issue, word_addr}
use Rattle.ibx_time.proofs.Times.{IsRequested, issue_is, past_suc}

-- the stream with one FENCE.I more
abbrev pub fenced : Stream → ℕ → Stream
fenced x c = record x { fences = c ∷ x.fences }

-- a condition with one that is known
or_yes : (a b : Bool) → (a || true) && b ≡ b
or_yes true b = refl
or_yes false b = refl

-- a fence at c isn't seen before c
pub walked_unseen : (s : Settings) (fs : List ℕ) (c t : ℕ) → t < c → is_walked (c ∷ fs) t ≡ is_walked fs t
unfolding is_walked
walked_unseen s fs c t h = rw (lt-ltb t c h)

-- nor does it change what is cached, present, found or overwritten before c
pub cached_unseen : (s : Settings) (ss : List Switch) (fs : List ℕ) (c t : ℕ) → t < c
    → is_cached ss (c ∷ fs) t ≡ is_cached ss fs t
unfolding is_cached
cached_unseen s ss fs c t h = ap (λ v. enabled_at ss t && v) (walked_unseen s fs c t h)

-- a fence at c is in no span of cycles that are all before c
pub between_unseen : (fs : List ℕ) (c a b : ℕ) → b ≤ c → none_between (c ∷ fs) a b ≡ none_between fs a b
unfolding none_between
between_unseen fs c a b h = rw (le-leb b c h) (or_yes (nat_lt c a) (none_between fs a b))

-- before c a fill holds a line just where it does without the fence
line_unseen : (fs : List ℕ) (c t line : ℕ) (k : Option Fill) → t < c
    → holds_line (c ∷ fs) t line k ≡ holds_line fs t line k
line_unseen fs c t line None h = refl
line_unseen fs c t line (Some k) h = rw (between_unseen fs c k.time (t + 1) (omega arith))

-- so a line is present before c just where it is without the fence
pub present_unseen : (s : Settings) (fs : List ℕ) (fills : List Fill) (c t line : ℕ) → t < c
    → is_present (c ∷ fs) fills line t ≡ is_present fs fills line t
unfolding is_present
present_unseen s fs fills c t line h =
    ap₂ (λ a b. a || b) (line_unseen fs c t line (last_fill fills (slot_of line false)) h)
    (line_unseen fs c t line (last_fill fills (slot_of line true)) h)

-- a present line is found in the same place before c
pub slot_unseen : (s : Settings) (fs : List ℕ) (fills : List Fill) (c t line : ℕ) → t < c
    → found_slot (c ∷ fs) fills line t ≡ found_slot fs fills line t
unfolding found_slot
slot_unseen s fs fills c t line h =
    ap (λ b. if b then slot_of line false else slot_of line true)
    (line_unseen fs c t line (last_fill fills (slot_of line false)) h)

-- a place is empty before c just where it is without the fence
free_unseen : (fs : List ℕ) (c t : ℕ) (k : Option Fill) → t < c → not (stands (c ∷ fs) t k) ≡ not (stands fs t k)
free_unseen fs c t None h = refl
free_unseen fs c t (Some k) h = ap (λ b. not b) (between_unseen fs c k.time (t + 1) (omega arith))

-- so a fill before c takes the same way with the fence and without it
pub victim_unseen : (s : Settings) (fs : List ℕ) (fills : List Fill) (c t line : ℕ) → t < c
    → victim (c ∷ fs) fills line t ≡ victim fs fills line t
unfolding victim
victim_unseen s fs fills c t line h =
    ap₂ (λ a b. victim_by a b (other_way fills)) (free_unseen fs c t (last_fill fills (slot_of line false)) h)
    (free_unseen fs c t (last_fill fills (slot_of line true)) h)

-- what a request leaves depends on these four tests
pub by_four : (b k u l : Bool) (n : Bool) (x z : ℕ) (v w : Bool) (s : Settings) (y : Past) (t a : ℕ) → b ≡ u → k ≡ l
    → x ≡ z → v ≡ w → request_by b k n x v s y t a ≡ request_by u l n z w s y t a
by_four b k u l n x z v w s y t a p q r e = cc

-- the answer doesn't say whether the line is stored
same_answer : (b k n m : Bool) (hs : ℕ) (v : Bool) (s : Settings) (y : Past) (t a : ℕ)
    → (request_by b k n hs v s y t a).answer ≡ (request_by b k m hs v s y t a).answer
unfolding request_by
same_answer false k n m hs v s y t a = refl
same_answer true true n m hs v s y t a = refl
same_answer true false n m hs v s y t a = refl

-- so the answer of a request before c is the same
pub answer_unseen : (s : Settings) (ss : List Switch) (fs : List ℕ) (y : Past) (c t a : ℕ) → t < c
    → (after_request s ss (c ∷ fs) y t a).answer ≡ (after_request s ss fs y t a).answer
answer_unseen s ss fs y c t a h =
    ap (λ z. z.answer) (by_four (is_cached ss (c ∷ fs) t) (is_present (c ∷ fs) y.fills (line_of a) t)
    (is_cached ss fs t) (is_present fs y.fills (line_of a) t) (is_kept s (c ∷ fs) y t a)
    (found_slot (c ∷ fs) y.fills (line_of a) t) (found_slot fs y.fills (line_of a) t)
    (victim (c ∷ fs) y.fills (line_of a) t) (victim fs y.fills (line_of a) t) s y t a (cached_unseen s ss fs c t h)
    (present_unseen s fs y.fills c t (line_of a) h) (slot_unseen s fs y.fills c t (line_of a) h)
    (victim_unseen s fs y.fills c t (line_of a) h))
    ∙ same_answer (is_cached ss fs t) (is_present fs y.fills (line_of a) t) (is_kept s (c ∷ fs) y t a)
    (is_kept s fs y t a) (found_slot fs y.fills (line_of a) t) (victim fs y.fills (line_of a) t) s y t a

-- a request that has answered by c has stored its line before it, if at all
same_stored : (b k n m : Bool) (hs : ℕ) (v : Bool) (s : Settings) (y : Past) (t a c : ℕ)
    → (request_by b k m hs v s y t a).answer ≤ c → (second_answer s y t < c → n ≡ m)
    → request_by b k n hs v s y t a ≡ request_by b k m hs v s y t a
unfolding request_by
same_stored false k n m hs v s y t a c h e = refl
same_stored true true n m hs v s y t a c h e = refl
same_stored true false n m hs v s y t a c h e = ap (λ z. request_by true false z hs v s y t a) (e (omega arith))

-- a request that has answered by c is the same with the fence
pub request_unseen : (s : Settings) (ss : List Switch) (fs : List ℕ) (y : Past) (c t a : ℕ) → t < c
    → (after_request s ss fs y t a).answer ≤ c → after_request s ss (c ∷ fs) y t a ≡ after_request s ss fs y t a
request_unseen s ss fs y c t a h done =
    by_four (is_cached ss (c ∷ fs) t) (is_present (c ∷ fs) y.fills (line_of a) t) (is_cached ss fs t)
    (is_present fs y.fills (line_of a) t) (is_kept s (c ∷ fs) y t a) (found_slot (c ∷ fs) y.fills (line_of a) t)
    (found_slot fs y.fills (line_of a) t) (victim (c ∷ fs) y.fills (line_of a) t) (victim fs y.fills (line_of a) t) s y
    t a (cached_unseen s ss fs c t h) (present_unseen s fs y.fills c t (line_of a) h)
    (slot_unseen s fs y.fills c t (line_of a) h) (victim_unseen s fs y.fills c t (line_of a) h)
    ∙ same_stored (is_cached ss fs t) (is_present fs y.fills (line_of a) t) (is_kept s (c ∷ fs) y t a)
    (is_kept s fs y t a) (found_slot fs y.fills (line_of a) t) (victim fs y.fills (line_of a) t) s y t a c done
    (λ v. ap (λ b. b && (is_mapped s.ram (8 * line_of a) && is_mapped s.ram (8 * line_of a + 4)))
    (between_unseen fs c t (second_answer s y t + 1) (omega arith)))

-- the words that have answered by c
pub past_unseen : (s : Settings) (x : Stream) (c q : ℕ) → IsRequested s x c q → (j : ℕ) → j ≤ q
    → (past s x j).answer ≤ c → past s (fenced x c) j ≡ past s x j
unfolding past gate
past_unseen s x c q r zero low done = refl
past_unseen s x c q r (suc j) low done =
    let t : ℕ = issue s x j in
    let before : issue s x j < c = r.before j (omega arith) in
    let same = past_unseen s x c q r j (omega arith) (omega (arith, issue_is s x j)) in
    ap (λ y. after_request s x.switches (c ∷ x.fences) y (max y.answer (gate x j)) (word_addr x j)) same
    ∙ request_unseen s x.switches x.fences (past s x j) c (max (past s x j).answer (gate x j)) (word_addr x j)
    (omega (arith, issue_is s x j)) done

-- they are requested in the same cycles
pub issue_unseen : (s : Settings) (x : Stream) (c q : ℕ) → IsRequested s x c q → (j : ℕ) → j < q
    → issue s (fenced x c) j ≡ issue s x j
unfolding issue gate
issue_unseen s x c q r j h =
    let before : issue s x j < c = r.before j h in
    ap (λ y. max y.answer (gate x j)) (past_unseen s x c q r j (omega arith) (omega (arith, issue_is s x j)))

-- the last request, which may be in flight
pub last_unseen : (s : Settings) (x : Stream) (c q j : ℕ) → IsRequested s x c q → q ≡ suc j
    → past s (fenced x c) (suc j) ≡ after_request s x.switches (c ∷ x.fences) (past s x j) (issue s x j)
    (word_addr x j)
unfolding past issue gate
last_unseen s x c q j r e =
    let before : issue s x j < c = r.before j (omega arith) in
    ap (λ y. after_request s x.switches (c ∷ x.fences) y (max y.answer (gate x j)) (word_addr x j))
    (past_unseen s x c q r j (omega arith) (omega (arith, issue_is s x j)))

-- and the last one answers in the same cycle
pub past_answer : (s : Settings) (x : Stream) (c q : ℕ) → IsRequested s x c q → (j : ℕ) → j ≡ q
    → (past s (fenced x c) j).answer ≡ (past s x j).answer
unfolding past
past_answer s x c q r zero e = refl
past_answer s x c q r (suc j) e =
    ap (λ y. y.answer) (last_unseen s x c q j r (sym e))
    ∙ answer_unseen s x.switches x.fences (past s x j) c (issue s x j) (word_addr x j) (r.before j (omega arith))
    ∙ ap (λ y. y.answer) (sym (past_suc s x j))

-- the same words are requested before c
pub requested_unseen : (s : Settings) (x : Stream) (c q : ℕ) → IsRequested s x c q → IsRequested s (fenced x c) c q
unfolding gate
requested_unseen s x c q r =
    record {
      within = r.within;
      before = λ j h. omega (arith, r.before j h, issue_unseen s x c q r j h);
      after = λ h. omega (
        arith,
        r.after h,
        issue_is s (fenced x c) q,
        issue_is s x q,
        gate_same x c q,
        past_answer s x c q r q refl,
      );
    }
  where
    gate_same : (x : Stream) (c q : ℕ) → gate (fenced x c) q ≡ gate x q
    gate_same x c q = refl

-- ---- a write of icache_enable that isn't before c changes nothing of the requests before c

-- the stream with a write of icache_enable
abbrev pub switched_by : Stream → Switch → Stream
switched_by x v = record x { switches = v ∷ x.switches }

-- before its cycle the cache is on or off as without it
pub enabled_unseen : (ss : List Switch) (v : Switch) (t : ℕ) → t ≤ v.time → enabled_at (v ∷ ss) t ≡ enabled_at ss t
unfolding enabled_at
enabled_unseen ss v t h = rw (le-ltb v.time t h)

-- so up to that cycle a request is cached just where it is without the write
pub cached_switched : (s : Settings) (ss : List Switch) (fs : List ℕ) (v : Switch) (t : ℕ) → t ≤ v.time
    → is_cached (v ∷ ss) fs t ≡ is_cached ss fs t
unfolding is_cached
cached_switched s ss fs v t h = ap (λ b. b && is_walked fs t) (enabled_unseen ss v t h)

-- a request up to the write's cycle leaves the same with the write and without it
pub request_switched : (s : Settings) (ss : List Switch) (fs : List ℕ) (y : Past) (v : Switch) (t a : ℕ) → t ≤ v.time
    → after_request s (v ∷ ss) fs y t a ≡ after_request s ss fs y t a
request_switched s ss fs y v t a h =
    ap (λ b. request_by b (is_present fs y.fills (line_of a) t) (is_kept s fs y t a)
    (found_slot fs y.fills (line_of a) t) (victim fs y.fills (line_of a) t) s y t a) (cached_switched s ss fs v t h)

-- the words that are requested before c leave the same where the write isn't before c
pub past_switched : (s : Settings) (x : Stream) (c q : ℕ) (v : Switch) → IsRequested s x c q → c ≤ v.time → (j : ℕ)
    → j ≤ q → past s (switched_by x v) j ≡ past s x j
unfolding past gate
past_switched s x c q v r late zero low = refl
past_switched s x c q v r late (suc j) low =
    let before : issue s x j < c = r.before j (omega arith) in
    ap (λ y. after_request s (v ∷ x.switches) x.fences y (max y.answer (gate x j)) (word_addr x j))
    (past_switched s x c q v r late j (omega arith))
    ∙ request_switched s x.switches x.fences (past s x j) v (max (past s x j).answer (gate x j)) (word_addr x j)
    (omega (arith, issue_is s x j))

-- they and the word after them are requested in the same cycles as without the write
pub issue_switched : (s : Settings) (x : Stream) (c q : ℕ) (v : Switch) → IsRequested s x c q → c ≤ v.time → (j : ℕ)
    → j ≤ q → issue s (switched_by x v) j ≡ issue s x j
unfolding issue gate
issue_switched s x c q v r late j low = ap (λ y. max y.answer (gate x j)) (past_switched s x c q v r late j low)

-- so as many words are requested before c as without the write
pub requested_switched : (s : Settings) (x : Stream) (c q : ℕ) (v : Switch) → IsRequested s x c q → c ≤ v.time
    → IsRequested s (switched_by x v) c q
requested_switched s x c q v r late =
    record {
      within = r.within;
      before = λ j h. omega (arith, r.before j h, issue_switched s x c q v r late j (omega arith));
      after = λ h. omega (arith, r.after h, issue_switched s x c q v r late q (omega arith));
    }
