-- A core that reads 0 for each unused word is one on which unused words have no effect.
use Rattle.std.proofs.Common.{◌≡◌, ℕ, Bool, true, false, not, refl, ap, ◌∙◌}
use Rattle.std.specs.Prelude.{◌&&◌, ◌||◌, if◌then◌else◌}
use Rattle.ibx_core.specs.Wires.{InWires as In}
use Rattle.ibx_icache.specs.WordPort.{is_bad_tag, is_bad_word}
use Rattle.ibx_system.specs.Core.{Parts, heard, hears_bad, takes0, takes1, gated}

-- a gate after a gate
twice : (b : Bool) (a : ℕ) → (if b then (if b then a else 0) else 0) ≡ (if b then a else 0)
twice true a = refl
twice false a = refl

-- a test of a gated word, where the gate is open
seen : (b : Bool) (test : ℕ → Bool) (a : ℕ) → (b && test (if b then a else 0)) ≡ (b && test a)
seen true test a = refl
seen false test a = refl

-- the same of two tests
both_seen : (b : Bool) (test : ℕ → Bool) (a c : ℕ)
    → (b && (not (test (if b then a else 0)) && test (if b then c else 0))) ≡ (b && (not (test a) && test c))
both_seen true test a c = refl
both_seen false test a c = refl

module _ {S : Type 0} (p : Parts S) where
  -- the gate does no more the second time
  pub heard_twice : (s : S) (i : In) → heard p s (heard p s i) ≡ heard p s i
  unfolding heard
  heard_twice s i =
      let take0 = seen (p.looks s) (p.matches s) i.tag0 in
      let take1 = both_seen (p.looks s) (p.matches s) i.tag0 i.tag1 in
      let data0 = ap (λ (b : Bool). if b then (if takes0 p s i.tag0 then i.data0 else 0) else 0) take0
      ∙ twice (takes0 p s i.tag0) i.data0 in
      let data1 = ap (λ (b : Bool). if b then (if takes1 p s i.tag0 i.tag1 then i.data1 else 0) else 0) take1
      ∙ twice (takes1 p s i.tag0 i.tag1) i.data1 in
      λ t. record i {
        irsp_word = twice i.irsp_valid i.irsp_word t;
        drsp_word = twice i.drsp_valid i.drsp_word t;
        tag0 = twice (p.looks s) i.tag0 t;
        tag1 = twice (p.looks s) i.tag1 t;
        data0 = data0 t;
        data1 = data1 t;
      }

  -- a test behind a gate, by an equal gate
  taken : (b : Bool) (test : ℕ → Bool) (c : Bool) (a : ℕ) → c ≡ b → (c && test (if b then a else 0)) ≡ (b && test a)
  taken b test c a e = ap (λ (x : Bool). x && test (if b then a else 0)) e ∙ seen b test a

  -- what is heard as bad is heard through the gate
  pub hears_gated : (s : S) (i : In) → hears_bad p s (heard p s i) ≡ hears_bad p s i
  unfolding heard hears_bad
  hears_gated s i =
      let irsp = seen i.irsp_valid is_bad_word i.irsp_word in
      let drsp = seen i.drsp_valid is_bad_word i.drsp_word in
      let tag0 = seen (p.looks s) is_bad_tag i.tag0 in
      let tag1 = seen (p.looks s) is_bad_tag i.tag1 in
      let data0 = taken (takes0 p s i.tag0) is_bad_word _ i.data0 (seen (p.looks s) (p.matches s) i.tag0) in
      let data1 = taken (takes1 p s i.tag0 i.tag1) is_bad_word _ i.data1
      (both_seen (p.looks s) (p.matches s) i.tag0 i.tag1) in
      λ t. irsp t || (drsp t ||
      (is_bad_word i.rega || (is_bad_word i.regb || (tag0 t || (tag1 t || (data0 t || data1 t))))))

  -- the unused words change neither the output nor what is left
  pub gate_unheard : (s : S) (i : In) → (gated p).gives s (heard (gated p) s i) ≡ (gated p).gives s i
  unfolding heard
  gate_unheard s i = ap (p.gives s) (heard_twice s i)

  -- and what is left
  pub gate_unkept : (s : S) (i : In) → (gated p).leaves s (heard (gated p) s i) ≡ (gated p).leaves s i
  unfolding heard
  gate_unkept s i = ap (p.leaves s) (heard_twice s i)
