-- A place in the list of waits stands for the number of transactions made.
use Rattle.std.proofs.Common.{◌≡◌, ℕ, suc, ◌+◌, ◌%◌, ◌<◌, ◌≤◌, List, [], ◌∷◌, length}
use Rattle.std.proofs.Common.{refl, sym, ap, ◌∙◌, arith}
use Rattle.std.proofs.lemmas.Bool.{ne_eqb}
use Rattle.std.proofs.Math.Nat.{mod-add-mod}
use Rattle.ibx_plan.specs.declared.site.Wait.{Wait}
use Rattle.ibx_bus.specs.Port.{wait_at}
use Rattle.ibx_bus.specs.PortTimes.{waits_of, grant_time, answer_time}
use Rattle.ibx_replay.specs.Fetches.{port_after}

-- the waits of all transactions to come are those of n, whatever the list
pub record IsPlace (waits : List Wait) (at n : ℕ) : Type 0 where
  pub same : (i : ℕ) → waits_of waits (at + i) ≡ waits_of waits (n + i)

-- the number modulo the length is such a place
pub place_modulo : (waits : List Wait) (n : ℕ) → IsPlace waits (n % length waits) n
unfolding waits_of
place_modulo waits n = record { same = λ i. ap (wait_at waits) (mod-add-mod n (length waits) i) }

-- the waits of the next transaction, and of the one after it
pub place_now : (waits : List Wait) (at n : ℕ) → IsPlace waits at n → waits_of waits at ≡ waits_of waits n
place_now waits at n h =
    let e : at + 0 ≡ at = omega arith in
    let f : n + 0 ≡ n = omega arith in
    sym (ap (waits_of waits) e) ∙ h.same 0 ∙ ap (waits_of waits) f

-- the place gives the waits of the transaction after the next one too
pub place_then : (waits : List Wait) (at n : ℕ) → IsPlace waits at n
    → waits_of waits (suc at) ≡ waits_of waits (suc n)
place_then waits at n h =
    let e : at + 1 ≡ suc at = omega arith in
    let f : n + 1 ≡ suc n = omega arith in
    sym (ap (waits_of waits) e) ∙ h.same 1 ∙ ap (waits_of waits) f

-- so many transactions more move both
pub place_after : (waits : List Wait) (at n count m : ℕ) → n + count ≡ m → IsPlace waits at n
    → IsPlace waits (port_after waits at count) m
unfolding waits_of
place_after waits at n count m e h = record { same = λ i. by waits at n count m e h i }
  where
    moved : (waits : List Wait) (at n count m i : ℕ) → n + count ≡ m → IsPlace waits at n
        → waits_of waits (at + count + i) ≡ waits_of waits (m + i)
    moved waits at n count m i e h =
        let a : at + count + i ≡ at + (count + i) = omega arith in
        let b : n + (count + i) ≡ m + i = omega (arith, e) in
        ap (waits_of waits) a ∙ h.same (count + i) ∙ ap (waits_of waits) b

    none : (a b : ℕ) → waits_of [] a ≡ waits_of [] b
    none a b = refl

    by : (waits : List Wait) (at n count m : ℕ) → n + count ≡ m → IsPlace waits at n → (i : ℕ)
        → waits_of waits (port_after waits at count + i) ≡ waits_of waits (m + i)
    by [] at n count m e h i = none (at + i) (m + i)
    by (w ∷ ws) at n count m e h i =
        rw (ne_eqb (length (w ∷ ws)) 0 (omega arith))
        (ap (wait_at (w ∷ ws)) (mod-add-mod (at + count) (length (w ∷ ws)) i) ∙ moved (w ∷ ws) at n count m i e h)

-- the same waits give the same grant and the same answer
pub same_grant : (waits : List Wait) (a b t u : ℕ) → waits_of waits a ≡ waits_of waits b → t ≡ u
    → grant_time waits a t ≡ grant_time waits b u
unfolding grant_time
same_grant waits a b t u e f = omega (arith, f, ap (λ w. w.grant) e)

-- transactions with the same waits and issue have the same answer
pub same_answer : (waits : List Wait) (a b t u : ℕ) → waits_of waits a ≡ waits_of waits b → t ≡ u
    → answer_time waits a t ≡ answer_time waits b u
unfolding answer_time grant_time
same_answer waits a b t u e f = omega (arith, f, ap (λ w. w.grant) e, ap (λ w. w.answer) e)

-- a grant is at the issue or later, and before the answer
pub grant_late : (waits : List Wait) (n t : ℕ) → t ≤ grant_time waits n t
unfolding grant_time
grant_late waits n t = omega arith

-- a transaction's grant is before its answer
pub grant_early : (waits : List Wait) (n t : ℕ) → grant_time waits n t < answer_time waits n t
unfolding answer_time
grant_early waits n t = omega arith
