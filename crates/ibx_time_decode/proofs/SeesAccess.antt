-- What the stage sees of a load or a store: its portions, who refuses them, and whether memory answers.
use Rattle.std.proofs.Common.{◌≡◌, ℕ, ◌^◌, ◌<◌, Bool, true, false, not, ◌&&◌, ◌||◌, ◌==◌, if◌then◌else◌, Option, Some}
use Rattle.std.proofs.Common.{None, refl, sym, ap, ◌∙◌, arith}
use Rattle.std.proofs.lemmas.Bool.{ne_eqb}
use Rattle.ibx_isa.specs.declared.event.Access.{Access}
use Rattle.ibx_csr.specs.declared.csrs.Csrs.{Csrs}
use Rattle.ibx_csr.specs.Fields.{values}
use Rattle.ibx_csr.specs.Values.{CsrValues, cfg_bytes, sec_of, counters_after}
use Rattle.ibx_isa.specs.Portions.{portion_addr, portion_size}
use Rattle.ibx_pmp.specs.declared.protection.AccessKind.{AccessKind}
use Rattle.ibx_pmp.specs.declared.protection.AccessKind.TheVariants.{Read, Write}
use Rattle.ibx_pmp.specs.Ranges.{allowed}
use Rattle.ibx_arch.specs.Access.{has_second, is_refused}
use Rattle.ibx_time.specs.Settings.{Setup}
use Rattle.ibx_time.specs.Items.{Portions, portions_by}
use Rattle.ibx_time.specs.Times.{AnInstruction}
use Rattle.ibx_time.specs.History.{Story, access_at, item_at, kind_of}
use Rattle.ibx_time_invariant.proofs.Fetches.{is_unmapped}
use Rattle.ibx_time_invariant.proofs.Stages.{trap_phase}
use Rattle.ibx_time_invariant.proofs.StageSide.{Eyes, Way, accesses, is_access, portions_phase, refused}
use Rattle.ibx_time_decode.proofs.SeesRows.{state_there}
use Rattle.ibx_csr.specs.Modes.{access_machine}
use Rattle.ibx_core.specs.Sights.{is_denied}

-- ---- by tests: protection refuses the first portion, there is a second, it is refused, and no memory answers the
-- first and the second

-- the first of two addresses that there is
abbrev pub first_some : Option ℕ → Option ℕ → Option ℕ
first_some (Some at) o = Some at
first_some None o = o

-- the address of the portion that fails, by the tests
abbrev pub denied_at : Bool → Bool → Bool → ℕ → ℕ → Option ℕ
denied_at r1 hs r2 p1 p2 = if r1 then Some p1 else if hs && r2 then Some p2 else None

-- what an item with this access comes to, by the address of the portion that fails
abbrev pub Comes : Setup → ℕ → Story → ℕ → Option ℕ → Type 0
Comes s t h addr None = (trap_phase s t h ≡ 0) × ((item_at s t h).redirects ≡ false)
Comes s t h addr (Some at) = (trap_phase s t h ≡ (if at == addr then 2 else 3)) × ((item_at s t h).cost ≡ 1)

-- the item is an access with these tests, by the eyes and by its portions
pub record Tests (s : Setup) (t : ℕ) (h : Story) (v : Eyes) (w : Access) (r1 hs r2 u1 u2 : Bool) : Type 0 where
  pub kind : kind_of s t h ≡ AnInstruction
  pub seen : v.access ≡ Some w
  pub access : access_at s t h ≡ Some w
  pub refusal : v.refused ≡ (if r1 then 1 else if hs && r2 then 2 else 0)
  pub no_trap : v.trap ≡ None
  pub row : is_access v.row ≡ true
  pub portions : (item_at s t h).portions ≡ portions_by (r1 || (hs && r2)) u1 hs u2
  pub wakes : (item_at s t h).sleeps ≡ false
  pub apart : (portion_addr w.addr true == w.addr) ≡ false
  pub same : (w.addr == w.addr) ≡ true
  pub second : has_second w.addr w.size ≡ hs
  pub bad : is_unmapped s (portion_addr w.addr false) ≡ u1
  pub bad2 : is_unmapped s (portion_addr w.addr true) ≡ u2
  pub comes : Comes s t h w.addr (first_some (denied_at r1 hs r2 w.addr (portion_addr w.addr true))
      (denied_at u1 hs u2 w.addr (portion_addr w.addr true)))

-- the phase of a trap of the first portion or the second
abbrev phase_if : Bool → ℕ
phase_if b = if b then 2 else 3

-- it is 2 for the first and 3 for the second
phase_same : (b : Bool) → b ≡ true → phase_if b ≡ 2
phase_same b e = rw e refl

-- a second portion, at another address than the access, traps in phase 3
phase_other : (b : Bool) → b ≡ false → phase_if b ≡ 3
phase_other b e = rw e refl

-- protection refuses the first portion, or the second alone
refuses_first : (s : Setup) (t : ℕ) (h : Story) (c : ℕ) (v : Eyes) (w : Access) (hs r2 u1 u2 : Bool)
    → Tests s t h v w true hs r2 u1 u2 → Way s t h c v
refuses_first s t h c v w hs r2 u1 u2 x =
    refused w false x.kind x.seen x.refusal x.no_trap x.portions x.comes.1 x.wakes
    (x.comes.0 ∙ phase_same (w.addr == w.addr) x.same)

-- a second portion that alone is refused ends the access, before the first is issued
refuses_second : (s : Setup) (t : ℕ) (h : Story) (c : ℕ) (v : Eyes) (w : Access) (u1 u2 : Bool)
    → Tests s t h v w false true true u1 u2 → Way s t h c v
refuses_second s t h c v w u1 u2 x =
    refused w true x.kind x.seen x.refusal x.no_trap x.portions x.comes.1 x.wakes
    (x.comes.0 ∙ phase_other (portion_addr w.addr true == w.addr) x.apart)

-- the portions by these tests
portions_of_tests : (s : Setup) (w : Access) (hs u1 u2 : Bool) → has_second w.addr w.size ≡ hs
    → is_unmapped s (portion_addr w.addr false) ≡ u1 → is_unmapped s (portion_addr w.addr true) ≡ u2
    → portions_by false u1 hs u2 ≡ portions_by false (is_unmapped s (portion_addr w.addr false))
    (has_second w.addr w.size) (is_unmapped s (portion_addr w.addr true))
portions_of_tests s w hs u1 u2 e b d =
    ap (λ u. portions_by false u hs u2) (sym b)
    ∙ ap (λ n. portions_by false (is_unmapped s (portion_addr w.addr false)) n u2) (sym e)
    ∙ ap (λ u. portions_by false (is_unmapped s (portion_addr w.addr false)) (has_second w.addr w.size) u) (sym d)

-- protection allows it: by the portions that memory answers
allows_by : (s : Setup) (t : ℕ) (h : Story) (c : ℕ) (v : Eyes) (w : Access) (r2 hs u1 u2 : Bool)
    → Tests s t h v w false hs r2 u1 u2 → (hs && r2) ≡ false
    → trap_phase s t h ≡ portions_phase (portions_by false u1 hs u2)
    → (trap_phase s t h ≡ 0 → (item_at s t h).redirects ≡ false) → Way s t h c v
allows_by s t h c v w r2 hs u1 u2 x e phase red =
    let portions : (item_at s t h).portions ≡ portions_by false u1 hs u2 =
    x.portions ∙ ap (λ r. portions_by r u1 hs u2) e in
    accesses w x.kind x.seen x.access (x.refusal ∙ ap (λ r. if r then 2 else 0) e) x.no_trap x.row
    (portions ∙ portions_of_tests s w hs u1 u2 x.second x.bad x.bad2)
    (phase ∙ ap (λ (p : Portions). portions_phase p) (sym portions)) red

-- a phase of a trap isn't 0
not_zero : (n m : ℕ) {A : Type 0} → n ≡ m → 0 < m → n ≡ 0 → A
not_zero n m e less z = absurd (omega arith)

-- so the access has its way, whatever the tests
pub access_by_tests : (s : Setup) (t : ℕ) (h : Story) (c : ℕ) (v : Eyes) (w : Access) (r1 hs r2 u1 u2 : Bool)
    → Tests s t h v w r1 hs r2 u1 u2 → Way s t h c v
access_by_tests s t h c v w true hs r2 u1 u2 x = refuses_first s t h c v w hs r2 u1 u2 x
access_by_tests s t h c v w false true true u1 u2 x = refuses_second s t h c v w u1 u2 x
access_by_tests s t h c v w false true false true u2 x =
    let p : trap_phase s t h ≡ 2 = x.comes.0 ∙ phase_same (w.addr == w.addr) x.same in
    allows_by s t h c v w false true true u2 x refl p (not_zero (trap_phase s t h) 2 p (omega arith))
access_by_tests s t h c v w false true false false true x =
    let p : trap_phase s t h ≡ 3 = x.comes.0 ∙ phase_other (portion_addr w.addr true == w.addr) x.apart in
    allows_by s t h c v w false true false true x refl p (not_zero (trap_phase s t h) 3 p (omega arith))
access_by_tests s t h c v w false true false false false x =
    allows_by s t h c v w false true false false x refl x.comes.0 (λ z. x.comes.1)
access_by_tests s t h c v w false false r2 true u2 x =
    let p : trap_phase s t h ≡ 2 = x.comes.0 ∙ phase_same (w.addr == w.addr) x.same in
    allows_by s t h c v w r2 false true u2 x refl p (not_zero (trap_phase s t h) 2 p (omega arith))
access_by_tests s t h c v w false false r2 false u2 x =
    allows_by s t h c v w r2 false false u2 x refl x.comes.0 (λ z. x.comes.1)

-- ---- the tests are those of the architecture, of the fields and of time

-- the fields refuse what the state does
pub denied_is : (s : Setup) (h : Story) (csrs : Csrs) (n : ℕ) (w : Access) (kind : AccessKind) (second : Bool)
    → values csrs ≡ counters_after h.state.csrs n → (if w.store then Write else Read) ≡ kind
    → is_denied csrs w second ≡ is_refused (state_there h).csrs w.addr w.size kind second
unfolding counters_after is_denied allowed
denied_is s h csrs n w kind second e k =
    ap (λ (v : CsrValues). not (allowed (sec_of v) (cfg_bytes v) v.pmpaddr (portion_addr w.addr second)
    (portion_size w.addr w.size second) (if w.store then Write else Read) (access_machine v))) e
    ∙ ap (λ k. is_refused (state_there h).csrs w.addr w.size k second) k

-- the second portion is in another word
pub second_apart : (addr : ℕ) → addr < 2 ^ 32 → (portion_addr addr true == addr) ≡ false
second_apart addr low = ne_eqb (portion_addr addr true) addr (λ e. omega arith)
