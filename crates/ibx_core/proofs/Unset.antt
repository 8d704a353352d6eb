-- Protection where no entry is in use.
use Rattle.std.proofs.Common.{◌≡◌, ℕ, zero, suc, Bool, true, false, List, [], ◌∷◌, refl, arith}
use Rattle.std.specs.Prelude.{find, replicate, ◌&&◌}
use Rattle.std.proofs.lemmas.Bool.{and_parts, eqb-true, le-ltb}
use Rattle.ibx_csr.specs.declared.csrs.Csrs.{Csrs}
use Rattle.ibx_csr.specs.Fields.{addrs, values}
use Rattle.ibx_csr.specs.Values.{cfg_bytes, sec_of}
use Rattle.ibx_pmp.specs.declared.protection.AccessKind.{AccessKind}
use Rattle.ibx_pmp.specs.Ranges.{allowed, by_entry, covers, entries_after, meets}
use Rattle.ibx_core.specs.Entries.{is_unset}

-- a second test that always holds changes nothing
and_true : (a : Bool) → (a && true) ≡ a
and_true true = refl
and_true false = refl

-- entries whose bytes are 0 decide nothing
unset : (k lower : ℕ) (as' : List ℕ) (x n : ℕ) (kind : AccessKind) (machine : Bool)
    → by_entry 0 (find (λ e. meets e.bytes x n) (entries_after lower (replicate k 0) as')) x n kind machine ≡ machine
unset zero lower as' x n kind machine = and_true machine
unset (suc k) lower [] x n kind machine = and_true machine
unset (suc k) lower (a ∷ rest) x n kind machine =
    let none : meets (covers 0 lower a) x n ≡ false = le-ltb _ _ (omega arith) in
    rw none (unset k a rest x n kind machine)

-- where none is in use M may do all and U nothing
pub unset_allows : (c : Csrs) (x n : ℕ) (kind : AccessKind) (machine : Bool) → is_unset c ≡ true
    → allowed (sec_of (values c)) (cfg_bytes (values c)) (values c).pmpaddr x n kind machine ≡ machine
unfolding allowed values
unset_allows c x n kind machine h =
    let p = and_parts _ _ h in
    let q = and_parts _ _ p.1 in
    let r = and_parts _ _ q.1 in
    let t = and_parts _ _ r.1 in
    rw (
      eqb-true c.pmpcfg0 0 p.0,
      eqb-true c.pmpcfg1 0 q.0,
      eqb-true c.pmpcfg2 0 r.0,
      eqb-true c.pmpcfg3 0 t.0,
      eqb-true c.mseccfg 0 t.1,
    )
    (unset 16 0 (addrs c) x n kind machine)
