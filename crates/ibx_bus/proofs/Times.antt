-- The port over a whole list of calls.
use Rattle.std.proofs.Common.{◌≡◌, ℕ, suc, ◌+◌, ◌<◌, ◌≤◌, ◌⊎◌, ◌≢◌, Bool, true, false, not, List, [], ◌∷◌, length}
use Rattle.std.proofs.Common.{refl}
use Rattle.std.proofs.Common.{sym, ap, ◌∙◌, inl, inr, arith, subst}
use Rattle.std.specs.Prelude.{◌&&◌, ◌||◌}
use Rattle.std.proofs.Math.Nat.{zero-mod}
use Rattle.std.proofs.lemmas.Bool.{lt-ltb, le-ltb, cases_eq}
use Rattle.ibx_plan.specs.declared.site.Wait.{Wait}
use Rattle.ibx_bus.specs.Memory.{error_of, answered_word}
use Rattle.ibx_bus.specs.Port.{PortState, answers, grants, new_port}
use Rattle.ibx_bus.specs.PortTimes.{Call, Seen, trace, issues, granted_in, answered_in, IsPolite, answer_time}
use Rattle.ibx_bus.specs.PortTimes.{grant_time, grant_times, answer_times, below, in_front_if, trace_of, GrantsInTime}
use Rattle.ibx_bus.specs.PortTimes.{AnswersInTime}
use Rattle.ibx_bus.proofs.Ports.{Idle, Waiting, Granted, Free, Grants, Waits, moved, place_of, idle_free, idle_silent}
use Rattle.ibx_bus.proofs.Ports.{waiting_silent, granted_free, granted_answers, granted_silent, free_rests}
use Rattle.ibx_bus.proofs.Ports.{free_starts}
use Rattle.ibx_bus.proofs.Ports.{waiting_goes, granted_goes, no_grant}

-- a time before the end of the trace counts
keeps : (limit t : ℕ) (ts : List ℕ) → t < limit → below limit (t ∷ ts) ≡ t ∷ below limit ts
unfolding below
keeps limit t ts h = rw (lt-ltb t limit h)

-- a time at or after the end of the trace doesn't count
cuts : (limit t : ℕ) (ts : List ℕ) → limit ≤ t → below limit (t ∷ ts) ≡ below limit ts
unfolding below
cuts limit t ts h = rw (le-ltb t limit h)

-- what isn't granted before the end isn't answered before it
answers_later : (ws : List Wait) (m x limit : ℕ) → limit ≤ grant_time ws m x → limit ≤ answer_time ws m x
unfolding answer_time
answers_later ws m x limit h = omega arith

-- the phases: the next is number n; number m was issued at x and waits; number m is granted
data Phase (ws : List Wait) (c : ℕ) (p : PortState) : Type 0 where
  resting : (n : ℕ) → Idle ws n p → Phase ws c p
  held : (m x : ℕ) → Waiting ws m x c p → Phase ws c p
  pending : (m x : ℕ) (err : Bool) (word : ℕ) → Granted ws m x err word c p → Phase ws c p

-- whether a request waits for its grant in this phase
is_held : {ws : List Wait} {c : ℕ} {p : PortState} → Phase ws c p → Bool
is_held (resting n i) = false
is_held (held m x w) = true
is_held (pending m x err word g) = false

-- whether a granted transaction is still to answer in this phase
is_pending : {ws : List Wait} {c : ℕ} {p : PortState} → Phase ws c p → Bool
is_pending (resting n i) = false
is_pending (held m x w) = false
is_pending (pending m x err word g) = true

-- what the grants and answers of the calls from c on are to be
all_grants : {ws : List Wait} {c : ℕ} {p : PortState} → Phase ws c p → List ℕ → List ℕ
all_grants {ws} (resting n i) ts = grant_times ws n ts
all_grants {ws} (held m x w) ts = grant_time ws m x ∷ grant_times ws (suc m) ts
all_grants {ws} (pending m x err word g) ts = grant_times ws (suc m) ts

-- the times of the answers from c on: that of the open transaction, and those of later issues
all_answers : {ws : List Wait} {c : ℕ} {p : PortState} → Phase ws c p → List ℕ → List ℕ
all_answers {ws} (resting n i) ts = answer_times ws n ts
all_answers {ws} (held m x w) ts = answer_time ws m x ∷ answer_times ws (suc m) ts
all_answers {ws} (pending m x err word g) ts = answer_time ws m x ∷ answer_times ws (suc m) ts

-- the grants and answers that are seen from c on are those that are due below the limit
record Meets (ws : List Wait) (limit c : ℕ) (p : PortState) (o : Phase ws c p) (seen : List Seen) : Type 0 where
  grants : granted_in c seen ≡ below limit (all_grants o (issues c (is_held o) seen))
  answers : answered_in c seen ≡ below limit (all_answers o (issues c (is_held o) seen))

-- with no call left nothing is seen, and at rest nothing is due
ends_resting : (ws : List Wait) (limit c : ℕ) (p : PortState) (n : ℕ) (i : Idle ws n p) → Meets ws limit c p
    (resting n i) []
unfolding issues granted_in answered_in grant_times answer_times all_grants all_answers is_held below
ends_resting ws limit c p n i = record { grants = refl; answers = refl }

-- a request that is held at the end has its grant and its answer due after it
ends_held : (ws : List Wait) (limit c : ℕ) (p : PortState) (m x : ℕ) (w : Waiting ws m x c p) → c ≡ limit → Meets ws
    limit c p (held m x w) []
unfolding issues granted_in answered_in grant_times answer_times all_grants all_answers is_held below
ends_held ws limit c p m x w e =
    let late : limit ≤ grant_time ws m x = omega (arith, w.late) in
    record {
      grants = sym (cuts limit (grant_time ws m x) [] late);
      answers = sym (cuts limit (answer_time ws m x) []
          (answers_later ws m x limit late));
    }

-- a transaction that is granted and open at the end has its answer due after it
ends_pending : (ws : List Wait) (limit c : ℕ) (p : PortState) (m x : ℕ) (err : Bool) (word : ℕ)
    (g : Granted ws m x err word c p) → c ≡ limit → Meets ws limit c p (pending m x err word g) []
unfolding issues granted_in answered_in grant_times answer_times all_grants all_answers is_held below
ends_pending ws limit c p m x err word g e =
    record { grants = refl; answers = sym (cuts limit (answer_time ws m x) [] (omega (arith, g.left))) }

-- the rest of the trace, after a call in cycle c
abbrev Rest : List Wait → ℕ → List Call → ℕ → Type 0
Rest ws limit cs c = (p : PortState) (o : Phase ws c p) → IsPolite (is_held o) (is_pending o) (trace cs p) → Meets ws
    limit c p o (trace cs p)

-- a call at a port with no open transaction, the next being number n
record FreeMeets (ws : List Wait) (limit n c : ℕ) (request grant : Bool) (seen : List Seen) : Type 0 where
  grants : in_front_if grant c (granted_in (c + 1) seen) ≡ below limit
      (grant_times ws n (in_front_if (request && true) c (issues (c + 1) (request && not grant) seen)))
  answers : answered_in (c + 1) seen ≡ below limit
      (answer_times ws n (in_front_if (request && true) c (issues (c + 1) (request && not grant) seen)))

-- where the calls stay polite, this one and those after it meet the times
abbrev IfPolite : List Wait → ℕ → ℕ → ℕ → List Call → PortState → Bool → Bool → Type 0
IfPolite ws limit n c cs next request grant =
    IsPolite (request && not grant) (grant || false) (trace cs next) → FreeMeets ws limit n c request grant
    (trace cs next)

module _ (ws : List Wait) (limit : ℕ) (cs : List Call) (err : Bool) (word : ℕ) where
  -- a request at a free port is granted when it is due, or is held for the calls that follow
  started : (n c : ℕ) (p : PortState) → c < limit → Rest ws limit cs (c + 1) → Grants ws n c err word c p ⊎ Waits ws n
      c err word c p → IfPolite ws limit n c cs (moved true p err word) true (grants true p)
  unfolding grant_times answer_times all_grants all_answers is_held is_pending
  started n c p less more (inl g) =
      let next : PortState = moved true p err word in
      let P : Bool → Type 0 = λ v. IfPolite ws limit n c cs next true v in
      subst P (sym g.grant) (λ polite.
      let m = more next (pending n c err word g.then) polite in
      let at : grant_time ws n c < limit = omega (arith, g.now) in
      record {
        grants = ap (λ ts. c ∷ ts) m.grants ∙ ap
            (λ v. v ∷ below limit (grant_times ws (suc n) (issues (c + 1) false (trace cs next)))) (sym g.now)
            ∙ sym (keeps limit (grant_time ws n c) (grant_times ws (suc n) (issues (c + 1) false (trace cs next))) at);
        answers = m.answers;
      })
  started n c p less more (inr w) =
      let next : PortState = moved true p err word in
      let P : Bool → Type 0 = λ v. IfPolite ws limit n c cs next true v in
      subst P (sym w.grant) (λ polite.
      let m = more next (held n c w.then) polite in
      record { grants = m.grants; answers = m.answers })

  -- a call at a free port, with a request or without, keeps the times if the later calls do
  free_meets : (n c : ℕ) (p : PortState) → Free ws n p → c < limit → Rest ws limit cs (c + 1) → (r : Bool) → IfPolite
      ws limit n c cs (moved r p err word) r (grants r p)
  unfolding all_grants all_answers is_held is_pending
  free_meets n c p f less more true = started n c p less more (free_starts ws n err word c p f)
  free_meets n c p f less more false =
      let next : PortState = moved false p err word in
      let P : Bool → Type 0 = λ v. IfPolite ws limit n c cs next false v in
      subst P (sym (no_grant p)) (λ polite.
      let m = more next (resting n (free_rests ws n err word p f)) polite in
      record { grants = m.grants; answers = m.answers })

  -- a call, by what is seen in it
  abbrev At : (c : ℕ) (p : PortState) → Phase ws c p → Bool → Bool → Bool → Type 0
  At c p o r grant answer =
      IsPolite (is_held o) (is_pending o) (record { request = r; grant = grant; answer = answer } ∷ trace cs
      (moved r p err word)) →
      Meets ws limit c p o (record { request = r; grant = grant; answer = answer } ∷ trace cs (moved r p err word))

  -- a call at a port at rest shows no answer, and keeps the times as at any free port
  rests : (n c : ℕ) (p : PortState) (i : Idle ws n p) (r grant : Bool) → IfPolite ws limit n c cs (moved r p err word)
      r grant → At c p (resting n i) r grant false
  unfolding issues granted_in answered_in IsPolite all_grants all_answers is_held is_pending
  rests n c p i r grant free polite = let k = free polite.2 in record { grants = k.grants; answers = k.answers }

  -- a request that is still held is granted when it is due, or is held on
  goes_held : (m x c : ℕ) (p : PortState) (w : Waiting ws m x c p) → c < limit → Rest ws limit cs (c + 1) → Grants ws m
      x err word c p ⊎ Waits ws m x err word c p → At c p (held m x w) true (grants true p) false
  unfolding issues granted_in answered_in IsPolite all_grants all_answers is_held is_pending
  goes_held m x c p w less more (inl g) =
      let next : PortState = moved true p err word in
      let P : Bool → Type 0 = λ v. At c p (held m x w) true v false in
      subst P (sym g.grant) (λ polite.
      let k = more next (pending m x err word g.then) polite.2 in
      let at : grant_time ws m x < limit = omega (arith, g.now) in
      record {
        grants = ap (λ ts. c ∷ ts) k.grants ∙ ap
            (λ v. v ∷ below limit (grant_times ws (suc m) (issues (c + 1) false (trace cs next)))) (sym g.now)
            ∙ sym (keeps limit (grant_time ws m x) (grant_times ws (suc m) (issues (c + 1) false (trace cs next))) at);
        answers = k.answers;
      })
  goes_held m x c p w less more (inr v) =
      let next : PortState = moved true p err word in
      let P : Bool → Type 0 = λ v. At c p (held m x w) true v false in
      subst P (sym v.grant) (λ polite.
      let k = more next (held m x v.then) polite.2 in
      record { grants = k.grants; answers = k.answers })

  -- a call while a request is held
  held_meets : (m x c : ℕ) (p : PortState) (w : Waiting ws m x c p) → c < limit → Rest ws limit cs (c + 1) → (r : Bool)
      → At c p (held m x w) r (grants r p) false
  unfolding IsPolite is_held
  held_meets m x c p w less more true = goes_held m x c p w less more (waiting_goes ws m x err word c p w)
  held_meets m x c p w less more false = λ polite. let e = polite.0 refl in cc

  -- a call at a granted transaction that doesn't answer yet
  still_pending : (m x c : ℕ) (kept_err : Bool) (kept_word : ℕ) (p : PortState) (g : Granted ws m x kept_err kept_word
      c p) → p.left ≢ 0 → Rest ws limit cs (c + 1) → (r : Bool) → At c p (pending m x kept_err kept_word g) r
      (grants r p) false
  unfolding issues granted_in answered_in IsPolite all_grants all_answers is_held is_pending
  still_pending m x c kept_err kept_word p g ne more true = λ polite. let e = polite.1 refl in cc
  still_pending m x c kept_err kept_word p g ne more false =
      let next : PortState = moved false p err word in
      let P : Bool → Type 0 = λ v. At c p (pending m x kept_err kept_word g) false v false in
      subst P (sym (no_grant p)) (λ polite.
      let k = more next (pending m x kept_err kept_word (granted_goes ws m x kept_err kept_word c err word p g ne))
      polite.2 in
      record { grants = k.grants; answers = k.answers })

  -- a call in which it answers
  closes : (m x c : ℕ) (kept_err : Bool) (kept_word : ℕ) (p : PortState) (g : Granted ws m x kept_err kept_word c p) →
      p.left ≡ 0 → c < limit → (r grant : Bool) → IfPolite ws limit (suc m) c cs (moved r p err word) r grant → At c p
      (pending m x kept_err kept_word g) r grant true
  unfolding issues granted_in answered_in IsPolite all_grants all_answers is_held is_pending
  closes m x c kept_err kept_word p g e less r grant free polite =
      let k = free polite.2 in
      let now : c ≡ answer_time ws m x = omega (arith, g.left) in
      let seen = trace cs (moved r p err word) in
      let ts : List ℕ = answer_times ws (suc m) (in_front_if (r && true) c (issues (c + 1) (r && not grant) seen)) in
      record {
        grants = k.grants;
        answers = ap (λ v. c ∷ v) k.answers ∙ ap (λ v. v ∷ below limit ts) now ∙ sym (keeps limit (answer_time ws m x)
            ts (omega arith));
      }

  -- a call at a granted transaction keeps the times: it answers, or it stays open
  pending_meets : (m x c : ℕ) (kept_err : Bool) (kept_word : ℕ) (p : PortState) (g : Granted ws m x kept_err kept_word
      c p) → c < limit → Rest ws limit cs (c + 1) → (r : Bool) → At c p (pending m x kept_err kept_word g) r
      (grants r p) (answers p)
  pending_meets m x c kept_err kept_word p g less more r =
      elim (cases_eq p.left 0) [
        | inl now ↦
            subst (λ v. At c p (pending m x kept_err kept_word g) r (grants r p) v)
            (sym (granted_answers ws m x kept_err kept_word c p g now))
            (closes m x c kept_err kept_word p g now less r (grants r p)
            (free_meets (suc m) c p (granted_free ws m x kept_err kept_word c p g now) less more r))
        | inr ne ↦
            subst (λ v. At c p (pending m x kept_err kept_word g) r (grants r p) v)
            (sym (granted_silent ws m x kept_err kept_word c p g ne))
            (still_pending m x c kept_err kept_word p g ne more r)
      ]

  -- a call in any phase keeps the times if the later calls do
  any_meets : (c : ℕ) (p : PortState) (o : Phase ws c p) → c < limit → Rest ws limit cs (c + 1) → (r : Bool) → At c p o
      r (grants r p) (answers p)
  any_meets c p (resting n i) less more r =
      subst (λ v. At c p (resting n i) r (grants r p) v) (sym (idle_silent ws n p i))
      (rests n c p i r (grants r p) (free_meets n c p (idle_free ws n p i) less more r))
  any_meets c p (held m x w) less more r =
      subst (λ v. At c p (held m x w) r (grants r p) v) (sym (waiting_silent ws m x c p w))
      (held_meets m x c p w less more r)
  any_meets c p (pending m x kept_err kept_word g) less more r = pending_meets m x c kept_err kept_word p g less more r

-- in each phase nothing more is due when no call is left
ends : (ws : List Wait) (limit c : ℕ) (p : PortState) (o : Phase ws c p) → c ≡ limit → Meets ws limit c p o []
ends ws limit c p (resting n i) e = ends_resting ws limit c p n i
ends ws limit c p (held m x w) e = ends_held ws limit c p m x w e
ends ws limit c p (pending m x err word g) e = ends_pending ws limit c p m x err word g e

-- polite calls keep the times from any phase on, call by call
meets : (ws : List Wait) (limit : ℕ) (cs : List Call) (c : ℕ) (p : PortState) (o : Phase ws c p) → c + length cs ≡
    limit → IsPolite (is_held o) (is_pending o) (trace cs p) → Meets ws limit c p o (trace cs p)
unfolding trace
meets ws limit [] c p o e polite = ends ws limit c p o (omega arith)
meets ws limit (call ∷ cs) c p o e polite =
    let more : Rest ws limit cs (c + 1) = λ p o polite. meets ws limit cs (c + 1) p o (omega arith) polite in
    any_meets ws limit cs (error_of call.memory call.request) (answered_word call.memory call.request) c p o
    (omega arith) more call.request.valid polite

-- transaction 0 stands at the first place of the list
place_start : (ws : List Wait) → 0 ≡ place_of ws 0
unfolding place_of
place_start [] = refl
place_start (w ∷ ws) = sym (zero-mod (length (w ∷ ws)))

-- a new port is at rest, and the next transaction is number 0
start : (ws : List Wait) → Phase ws 0 (new_port ws)
start ws = resting 0 (record { list = refl; busy = refl; waited = refl; place = place_start ws })

-- polite calls at a new port keep the times from transaction 0 on
whole : (ws : List Wait) (calls : List Call) → IsPolite false false (trace_of ws calls) → Meets ws (length calls) 0
    (new_port ws) (start ws) (trace_of ws calls)
unfolding is_held is_pending start
whole ws calls polite = meets ws (length calls) calls 0 (new_port ws) (start ws) (omega arith) polite

-- polite calls have each grant at its time, and no other grant
pub grants_in_time : (ws : List Wait) (calls : List Call) → GrantsInTime ws calls
unfolding is_held all_grants start
grants_in_time ws calls polite = (whole ws calls polite).grants

-- polite calls have each answer at its time, and no other answer
pub answers_in_time : (ws : List Wait) (calls : List Call) → AnswersInTime ws calls
unfolding is_held all_answers start
answers_in_time ws calls polite = (whole ws calls polite).answers
