-- What the stage sees of a load and of a store, by what the architecture executes.
use Rattle.std.proofs.Common.{◌≡◌, ◌≢◌, ℕ, ◌+◌, ◌%◌, ◌^◌, ◌<◌, Bool, true, false, ◌&&◌, ◌||◌, ◌==◌, if◌then◌else◌}
use Rattle.std.proofs.Common.{Option, Some, None, refl, ap, ap₂, ◌∙◌, subst, arith, not}
use Rattle.std.proofs.lemmas.Bool.{eq-eqb}
use Rattle.ibx_isa.specs.declared.insn.Insn.{Insn}
use Rattle.ibx_isa.specs.declared.insn.Insn.TheVariants.{Load, Store}
use Rattle.ibx_isa.specs.declared.insn.LoadOp.{LoadOp}
use Rattle.ibx_isa.specs.declared.event.Access.{Access}
use Rattle.ibx_isa.specs.declared.event.View.{View}
use Rattle.ibx_isa.specs.Views.{view_of}
use Rattle.ibx_csr.specs.declared.csrs.Csrs.{Csrs}
use Rattle.ibx_csr.specs.Fields.{values}
use Rattle.ibx_csr.specs.Values.{counters_after}
use Rattle.ibx_isa.specs.Portions.{portion_addr, size_of}
use Rattle.ibx_pmp.specs.declared.protection.AccessKind.{AccessKind}
use Rattle.ibx_pmp.specs.declared.protection.AccessKind.TheVariants.{Read, Write}
use Rattle.ibx_arch.specs.Memory.{Memory, is_mapped}
use Rattle.ibx_arch.specs.State.{State, reg}
use Rattle.ibx_arch.specs.Access.{error_at, has_second, is_refused, refused_at}
use Rattle.ibx_arch.specs.Effects.{Executed, execute, following, load, load_with, store, store_with}
use Rattle.ibx_arch.specs.Step.{finished}
use Rattle.ibx_time.specs.Settings.{Setup, lines_in, settings_of}
use Rattle.ibx_time.specs.Controls.{ctl_of}
use Rattle.ibx_time.specs.Items.{Item, portions_at, portions_by, portions_for, retired_item}
use Rattle.ibx_time.specs.History.{Story, access_at, item_at}
use Rattle.ibx_id.specs.declared.stage.IdState.{IdState}
use Rattle.ibx_time_invariant.proofs.Fetches.{is_unmapped}
use Rattle.ibx_time_invariant.proofs.Stages.{trap_phase}
use Rattle.ibx_time_invariant.proofs.StageSide.{Eyes, Way}
use Rattle.ibx_time_invariant.proofs.ArchSide.{eyes_at}
use Rattle.ibx_time_decode.proofs.SeesRows.{IsRow, retired_is, retired_phase, state_there, trapped_is, view_done}
use Rattle.ibx_time_decode.proofs.SeesAccess.{Comes, access_by_tests, denied_at, denied_is, first_some, second_apart}
use Rattle.ibx_core.specs.Sights.{access_by, cause_of, refused_by, row_cause}

-- ---- the item, by the portion that fails

-- the item comes to the end of its access or to the portion that fails, with the portions of its address
record Made (s : Setup) (t : ℕ) (h : Story) (addr size : ℕ) (kind : AccessKind) (o : Option ℕ) : Type 0 where
  comes : Comes s t h addr o
  portions : (item_at s t h).portions ≡ portions_at (settings_of s) h.times.ctl addr size kind
  wakes : (item_at s t h).sleeps ≡ false

-- one for loads and one for stores
load_made : (s : Setup) (t : ℕ) (h : Story) (op : LoadOp) (rd rs1 imm word addr next : ℕ) (ops : Option (ℕ × ℕ))
    (o1 o2 : Option ℕ)
    → IsRow s t h (Load op rd rs1 imm) word ops (load_with (state_there h) op rd addr next o1 o2)
    → Made s t h addr (size_of op) Read (first_some o1 o2)
unfolding view_of finished retired_item
load_made s t h op rd rs1 imm word addr next ops (Some at) o2 r =
    let v : View = view_done h word ops (load_with (state_there h) op rd addr next (Some at) o2) in
    let i = r.item ∙ trapped_is (settings_of s) h.times.ctl v refl in
    record {
      comes = (r.phase, ap (λ (x : Item). x.cost) i);
      portions =
          ap (λ (x : Item). x.portions) i ∙ ap (λ o. portions_for (settings_of s) h.times.ctl o (Some addr)) r.decoded;
      wakes = ap (λ (x : Item). x.sleeps) i;
    }
load_made s t h op rd rs1 imm word addr next ops None (Some at) r =
    let v : View = view_done h word ops (load_with (state_there h) op rd addr next None (Some at)) in
    let i = r.item ∙ trapped_is (settings_of s) h.times.ctl v refl in
    record {
      comes = (r.phase, ap (λ (x : Item). x.cost) i);
      portions =
          ap (λ (x : Item). x.portions) i ∙ ap (λ o. portions_for (settings_of s) h.times.ctl o (Some addr)) r.decoded;
      wakes = ap (λ (x : Item). x.sleeps) i;
    }
load_made s t h op rd rs1 imm word addr next ops None None r =
    let v : View = view_done h word ops (load_with (state_there h) op rd addr next None None) in
    let i = r.item ∙ retired_is (settings_of s) h.times.ctl v (Load op rd rs1 imm) refl r.decoded in
    record {
      comes = (r.phase ∙ retired_phase v refl, ap (λ (x : Item). x.redirects) i);
      portions = ap (λ (x : Item). x.portions) i;
      wakes = ap (λ (x : Item). x.sleeps) i;
    }

-- a store's item ends at the portion that fails, or after all, with the portions of its address
store_made : (s : Setup) (t : ℕ) (h : Story) (size rs1 rs2 imm word addr value next : ℕ) (ops : Option (ℕ × ℕ))
    (o1 o2 : Option ℕ)
    → IsRow s t h (Store size rs1 rs2 imm) word ops (store_with (state_there h) size addr value next o1 o2)
    → Made s t h addr size Write (first_some o1 o2)
unfolding view_of finished retired_item
store_made s t h size rs1 rs2 imm word addr value next ops (Some at) o2 r =
    let v : View = view_done h word ops (store_with (state_there h) size addr value next (Some at) o2) in
    let i = r.item ∙ trapped_is (settings_of s) h.times.ctl v refl in
    record {
      comes = (r.phase, ap (λ (x : Item). x.cost) i);
      portions =
          ap (λ (x : Item). x.portions) i ∙ ap (λ o. portions_for (settings_of s) h.times.ctl o (Some addr)) r.decoded;
      wakes = ap (λ (x : Item). x.sleeps) i;
    }
store_made s t h size rs1 rs2 imm word addr value next ops None (Some at) r =
    let v : View = view_done h word ops (store_with (state_there h) size addr value next None (Some at)) in
    let i = r.item ∙ trapped_is (settings_of s) h.times.ctl v refl in
    record {
      comes = (r.phase, ap (λ (x : Item). x.cost) i);
      portions =
          ap (λ (x : Item). x.portions) i ∙ ap (λ o. portions_for (settings_of s) h.times.ctl o (Some addr)) r.decoded;
      wakes = ap (λ (x : Item). x.sleeps) i;
    }
store_made s t h size rs1 rs2 imm word addr value next ops None None r =
    let v : View = view_done h word ops (store_with (state_there h) size addr value next None None) in
    let i = r.item ∙ retired_is (settings_of s) h.times.ctl v (Store size rs1 rs2 imm) refl r.decoded in
    record {
      comes = (r.phase ∙ retired_phase v refl, ap (λ (x : Item). x.redirects) i);
      portions = ap (λ (x : Item). x.portions) i;
      wakes = ap (λ (x : Item). x.sleeps) i;
    }

-- its trap is in phase 2 or 3
phase_few : (n : ℕ) (b : Bool) → n ≡ (if b then 2 else 3) → n ≢ 4
phase_few n true e z = absurd (omega (arith, e, z))
phase_few n false e z = absurd (omega (arith, e, z))

-- an access never traps in phase 4: it has no trap, or a portion's
comes_few : (s : Setup) (t : ℕ) (h : Story) (addr : ℕ) (o : Option ℕ) → Comes s t h addr o → trap_phase s t h ≢ 4
comes_few s t h addr None x z = absurd (omega (arith, x.0, z))
comes_few s t h addr (Some at) x z = phase_few (trap_phase s t h) (at == addr) x.0 z

-- what protection refuses, and what memory doesn't answer, by the tests
refused_is : (x : State) (addr size : ℕ) (kind : AccessKind)
    → refused_at x.csrs addr size kind
    ≡ denied_at (is_refused x.csrs addr size kind false) (has_second addr size) (is_refused x.csrs addr size kind true)
    addr (portion_addr addr true)
unfolding refused_at
refused_is x addr size kind = refl

-- the address that isn't answered is that of the first portion that the setup leaves unmapped
error_is : (s : Setup) (m : Memory) (addr size : ℕ) → m.ram ≡ s.image.ram
    → error_at m.ram addr size ≡ denied_at (is_unmapped s (portion_addr addr false)) (has_second addr size)
    (is_unmapped s (portion_addr addr true)) addr (portion_addr addr true)
unfolding error_at
error_is s m addr size e = ap (λ r. denied_at (not (is_mapped r (portion_addr addr false))) (has_second addr size)
    (not (is_mapped r (portion_addr addr true))) addr (portion_addr addr true)) e

-- ---- the tests

module _ (s : Setup) (t : ℕ) (h : Story) (c word length a b n : ℕ) (fixed : Bool) (id : IdState) (csrs : Csrs)
    (lines : ℕ) (sound : id.fault ≡ 0)
    (tied : values csrs ≡ counters_after h.state.csrs n) (ctl : h.times.ctl ≡ ctl_of h.state.csrs)
    (ram : h.state.memory.ram ≡ s.image.ram) where
  -- what the stage sees of an instruction, and what it does in the state
  abbrev seen : Insn → Eyes
  seen insn = eyes_at (Some insn) a b true fixed id csrs lines s.mul

  abbrev done_there : Insn → Executed
  done_there insn = execute (state_there h) insn word length (lines_in (settings_of s) h.state.stands)

  -- what the stage sees refused is what the architecture refuses, and the portions are the item's
  denied_seen : (w : Access) (kind : AccessKind) → (if w.store then Write else Read) ≡ kind
      → refused_by csrs (Some w) ≡ (if is_refused (state_there h).csrs w.addr w.size kind false then 1
      else if has_second w.addr w.size && is_refused (state_there h).csrs w.addr w.size kind true then 2 else 0)
  unfolding refused_by
  denied_seen w kind k =
      ap₂ (λ u v. if u then 1 else if has_second w.addr w.size && v then 2 else 0)
      (denied_is s h csrs n w kind false tied k) (denied_is s h csrs n w kind true tied k)

  -- the portions at an address are told by the tests of the state, since times have its registers
  portions_are : (addr size : ℕ) (kind : AccessKind)
      → portions_at (settings_of s) h.times.ctl addr size kind
      ≡ portions_by (is_refused (state_there h).csrs addr size kind false
      || (has_second addr size && is_refused (state_there h).csrs addr size kind true))
      (is_unmapped s (portion_addr addr false)) (has_second addr size) (is_unmapped s (portion_addr addr true))
  unfolding counters_after
  portions_are addr size kind = ap (λ c. portions_at (settings_of s) c addr size kind) ctl

  -- so the access has its way, for a load and for a store
  way_by : (insn : Insn) (w : Access) (kind : AccessKind) (ops : Option (ℕ × ℕ)) (e : Executed)
      → IsRow s t h insn word ops e → access_by (Some insn) a b ≡ Some w → access_at s t h ≡ Some w
      → (if w.store then Write else Read) ≡ kind
      → cause_of csrs 0 (Some insn) ≡ None → Rattle.ibx_time_invariant.proofs.StageSide.is_access (Some insn) ≡ true
      → w.addr < 2 ^ 32
      → Made s t h w.addr w.size kind (first_some
      (denied_at (is_refused (state_there h).csrs w.addr w.size kind false) (has_second w.addr w.size)
      (is_refused (state_there h).csrs w.addr w.size kind true) w.addr (portion_addr w.addr true))
      (denied_at (is_unmapped s (portion_addr w.addr false)) (has_second w.addr w.size)
      (is_unmapped s (portion_addr w.addr true)) w.addr (portion_addr w.addr true)))
      → Way s t h c (seen insn)
  way_by insn w kind ops e r sees there k none_ row low m =
      access_by_tests s t h c (seen insn) w (is_refused (state_there h).csrs w.addr w.size kind false)
      (has_second w.addr w.size) (is_refused (state_there h).csrs w.addr w.size kind true)
      (is_unmapped s (portion_addr w.addr false)) (is_unmapped s (portion_addr w.addr true)) (record {
        kind = r.kind;
        seen = sees;
        access = there;
        refusal = ap (refused_by csrs) sees ∙ denied_seen w kind k;
        no_trap = ap (λ f. cause_of csrs f (Some insn)) sound ∙ none_;
        row = row;
        portions = m.portions ∙ portions_are w.addr w.size kind;
        wakes = m.wakes;
        apart = second_apart w.addr low;
        same = eq-eqb w.addr w.addr refl;
        second = refl;
        bad = refl;
        bad2 = refl;
        comes = m.comes;
      })

  -- a load needs only its base register, to see the address of its access
  pub load_way : (op : LoadOp) (rd rs1 imm : ℕ) (ops : Option (ℕ × ℕ)) → (trap_phase s t h ≢ 4 → a ≡ reg h.state rs1)
      → IsRow s t h (Load op rd rs1 imm) word ops (done_there (Load op rd rs1 imm))
      → Way s t h c (seen (Load op rd rs1 imm))
  unfolding execute load cause_of access_by row_cause
  load_way op rd rs1 imm ops operand r =
      let x : State = state_there h in
      let addr : ℕ = (reg h.state rs1 + imm) % 2 ^ 32 in
      let size : ℕ = size_of op in
      let next : ℕ = following x length in
      let o1 : Option ℕ = denied_at (is_refused x.csrs addr size Read false) (has_second addr size)
      (is_refused x.csrs addr size Read true) addr (portion_addr addr true) in
      let o2 : Option ℕ = denied_at (is_unmapped s (portion_addr addr false)) (has_second addr size)
      (is_unmapped s (portion_addr addr true)) addr (portion_addr addr true) in
      let done_ : load_with x op rd addr next (refused_at x.csrs addr size Read)
      (error_at h.state.memory.ram addr size) ≡ load_with x op rd addr next o1 o2 =
      ap₂ (load_with x op rd addr next) (refused_is x addr size Read) (error_is s h.state.memory addr size ram) in
      let m : Made s t h addr size Read (first_some o1 o2) =
      load_made s t h op rd rs1 imm word addr next ops o1 o2
      (subst (λ e. IsRow s t h (Load op rd rs1 imm) word ops e) done_ r) in
      way_by (Load op rd rs1 imm) (record { addr = addr; size = size; store = false; value = 0 }) Read ops
      (done_there (Load op rd rs1 imm)) r
      (ap (λ v. Some (record { addr = (v + imm) % 2 ^ 32; size = size; store = false; value = 0 }))
      (operand (comes_few s t h addr (first_some o1 o2) m.comes)))
      r.access refl refl refl (omega arith) m

  -- a store needs its second register too, for the value of its access
  pub store_way : (size rs1 rs2 imm : ℕ) (ops : Option (ℕ × ℕ))
      → (trap_phase s t h ≢ 4 → (a ≡ reg h.state rs1) × (b ≡ reg h.state rs2))
      → IsRow s t h (Store size rs1 rs2 imm) word ops (done_there (Store size rs1 rs2 imm))
      → Way s t h c (seen (Store size rs1 rs2 imm))
  unfolding execute store cause_of access_by row_cause
  store_way size rs1 rs2 imm ops operands_ r =
      let x : State = state_there h in
      let addr : ℕ = (reg h.state rs1 + imm) % 2 ^ 32 in
      let value : ℕ = reg h.state rs2 in
      let next : ℕ = following x length in
      let o1 : Option ℕ = denied_at (is_refused x.csrs addr size Write false) (has_second addr size)
      (is_refused x.csrs addr size Write true) addr (portion_addr addr true) in
      let o2 : Option ℕ = denied_at (is_unmapped s (portion_addr addr false)) (has_second addr size)
      (is_unmapped s (portion_addr addr true)) addr (portion_addr addr true) in
      let done_ : store_with x size addr value next (refused_at x.csrs addr size Write)
      (error_at h.state.memory.ram addr size) ≡ store_with x size addr value next o1 o2 =
      ap₂ (store_with x size addr value next) (refused_is x addr size Write)
      (error_is s h.state.memory addr size ram) in
      let m : Made s t h addr size Write (first_some o1 o2) =
      store_made s t h size rs1 rs2 imm word addr value next ops o1 o2
      (subst (λ e. IsRow s t h (Store size rs1 rs2 imm) word ops e) done_ r) in
      let o = operands_ (comes_few s t h addr (first_some o1 o2) m.comes) in
      way_by (Store size rs1 rs2 imm) (record { addr = addr; size = size; store = true; value = value % 256 ^ size })
      Write ops (done_there (Store size rs1 rs2 imm)) r
      (ap₂ (λ u v. Some (record { addr = (u + imm) % 2 ^ 32; size = size; store = true; value = v % 256 ^ size })) o.0
      o.1)
      r.access refl refl refl (omega arith) m
