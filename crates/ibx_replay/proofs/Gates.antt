-- One cycle stands for the list of enters: what holds back the next word.
use Rattle.std.proofs.Common.{◌≡◌, ℕ, zero, suc, ◌+◌, ◌<◌, ◌≤◌, inl, inr, max, refl, ap, ◌∙◌, arith, length, ◌∷◌}
use Rattle.std.proofs.lemmas.Bool.{cases_lt}
use Rattle.ibx_time.specs.Settings.{Settings}
use Rattle.ibx_time.specs.Streams.{Stream, issue, past, gate, word_addr}
use Rattle.ibx_time.specs.Requests.{Switch, after_request}
use Rattle.ibx_time.proofs.Times.{IsRequested, IsPast, issue_is, after_issue, past_more, with_enter, gate_more}
use Rattle.ibx_time.proofs.Times.{gate_end, more_length}
use Rattle.ibx_time.proofs.Times.{issue_more}
use Rattle.ibx_time.proofs.Fences.{switched_by, request_switched}

-- Word q is issued at the later of the last answer and one cycle g, and no word that may be requested is held back
-- beyond g.
pub record IsGated (k : Settings) (x : Stream) (q g : ℕ) : Type 0 where
  pub next : q < length x.enters + 3 → issue k x q ≡ max (past k x q).answer g
  pub past : IsPast x g

-- so it is after a request
pub gated_next : (k : Settings) (x : Stream) (q g : ℕ) → q < length x.enters + 3 → IsGated k x q g
    → IsGated k x (suc q) g
gated_next k x q g h i =
    record {
      next = λ more. omega (
        arith,
        issue_is k x (suc q),
        i.past (suc q) more,
        i.next h,
        after_issue k x q,
      );
      past = i.past;
    }

-- and where an item takes a last half as it enters at e, up to which the requests are made
pub gated_enter : (k : Settings) (x : Stream) (q g e : ℕ) → g ≤ e → IsRequested k x e q → IsGated k x q g
    → IsGated k (with_enter x e) q e
gated_enter k x q g e low r i =
    record {
      next = λ more. elim (cases_lt q (length x.enters + 3)) [
        | inl below ↦ omega (
          arith,
          issue_more k x e q below,
          i.next below,
          r.after below,
          ap (λ y. y.answer) (past_more k x e q (omega arith)),
        )
        | inr end ↦
            omega (
              arith,
              issue_is k (with_enter x e) q,
              gate_end x e q (omega (arith, r.within)),
            )
      ];
      past = λ j more. elim (cases_lt j (length x.enters + 3)) [
        | inl below ↦ omega (arith, gate_more x e j below, i.past j below)
        | inr end ↦ omega (arith, gate_end x e j (omega (arith, more, more_length x e)))
      ];
    }

-- ---- a switch in the cycle before c changes nothing of the requests before c

-- a switch of icache_enable changes nothing that was requested up to its cycle
pub past_marked : (k : Settings) (x : Stream) (c q : ℕ) (v : Switch) → IsRequested k x c q → c ≤ v.time + 1 → (j : ℕ)
    → j ≤ q → past k (switched_by x v) j ≡ past k x j
unfolding past gate
past_marked k x c q v r late zero low = refl
past_marked k x c q v r late (suc j) low =
    let before : issue k x j < c = r.before j (omega arith) in
    ap (λ y. after_request k (v ∷ x.switches) x.fences y (max y.answer (gate x j)) (word_addr x j))
    (past_marked k x c q v r late j (omega arith))
    ∙ request_switched k x.switches x.fences (past k x j) v (max (past k x j).answer (gate x j)) (word_addr x j)
    (omega (arith, issue_is k x j))

-- so as many are requested before c as without it
pub requested_marked : (k : Settings) (x : Stream) (c q : ℕ) (v : Switch) → IsRequested k x c q → c ≤ v.time + 1
    → IsRequested k (switched_by x v) c q
unfolding issue gate
requested_marked k x c q v r late =
    record {
      within = r.within;
      before = λ j h. omega (arith, r.before j h, same j (omega arith));
      after = λ h. omega (arith, r.after h, same q (omega arith));
    }
  where
    same : (j : ℕ) → j ≤ q → issue k (switched_by x v) j ≡ issue k x j
    same j h = ap (λ y. max y.answer (gate x j)) (past_marked k x c q v r late j h)
