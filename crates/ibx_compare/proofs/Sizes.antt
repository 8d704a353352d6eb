-- A run leaves the count of RAM's words, and the delay.
use Rattle.std.proofs.Common.{◌≡◌, ℕ, zero, suc, ◌^◌, Bool, true, false, Option, Some, None, length, refl, ◌∙◌}
use Rattle.std.proofs.Common.{length-set}
use Rattle.std.specs.Prelude.{◌==◌, if◌then◌else◌, bit_xor, slice_index}
use Rattle.ibx_bus.proofs.Steps.{same_length}
use Rattle.ibx_plan.specs.declared.site.Flip.{Flip}
use Rattle.ibx_plan.specs.declared.site.Site.{Site}
use Rattle.ibx_plan.specs.declared.site.Site.TheVariants as site
use Rattle.ibx_system.specs.Core.{Parts}
use Rattle.ibx_system.specs.System.{Place, Whole, dgrant_of, load_store_of, next, output_of, settle}
use Rattle.ibx_system.specs.Flips.{delay_flip, flip, place_flip}
use Rattle.ibx_system.specs.Runs.{made, run}

-- the count of RAM's words
abbrev pub size_of : {S : Type 0} → Whole S → ℕ
size_of w = length w.place.memory.words

-- of two ways to change a port neither changes the count
answer_size : (b : Bool) (e f g : Place) → length f.memory.words ≡ length e.memory.words → length g.memory.words ≡
    length e.memory.words
    → length (if b then f else g).memory.words ≡ length e.memory.words
answer_size true e f g x y = x
answer_size false e f g x y = y

module _ {S : Type 0} (p : Parts S) where
  -- a step leaves it
  size_next : (w : Whole S) → size_of (next p w) ≡ size_of w
  unfolding next settle
  size_next w = same_length (dgrant_of w.place (output_of p w)) w.place.memory (load_store_of (output_of p w))

  -- so does a flip of a delayed wire, of the age or of what was found
  delay_size : (age told : Bool) (slot wire bit : ℕ) (w : Whole S)
      → size_of (delay_flip p age told slot wire bit w) ≡ size_of w
  delay_size true told slot wire bit w = refl
  delay_size false true slot wire bit w = refl
  delay_size false false slot wire bit w = refl

  -- so does every flip
  size_flip : (x : Site) (w : Whole S) → size_of (flip p x w) ≡ size_of w
  unfolding flip place_flip
  size_flip (site.Main field bit) w = refl
  size_flip (site.Shadow field bit) w = refl
  size_flip (site.Delay slot wire bit) w = delay_size (wire == 36) (wire == 37) slot wire bit w
  size_flip (site.Reg n bit) w = refl
  size_flip (site.Tag set way bit) w = refl
  size_flip (site.Line set way half bit) w = refl
  size_flip (site.Output wire bit) w = refl
  size_flip (site.Answer port bit) w = answer_size (port == 0) w.place _ _ refl refl
  size_flip (site.Mem word bit) w = length-set w.place.memory.words word
      (bit_xor (slice_index w.place.memory.words word) (2 ^ bit))

  -- also where it is made by a test
  made_by : (b : Bool) (x : Site) (w : Whole S) → size_of (if b then flip p x w else w) ≡ size_of w
  made_by true x w = size_flip x w
  made_by false x w = refl

  -- so does a flip that is made in its cycle
  size_made : (f : Option Flip) (w : Whole S) → size_of (made p f w) ≡ size_of w
  size_made None w = refl
  size_made (Some f) w = made_by (w.place.cycle == f.cycle) f.site w

  -- a run leaves it
  pub size_run : (f : Option Flip) (n : ℕ) (w : Whole S) → size_of (run p w f n) ≡ size_of w
  unfolding run
  size_run f zero w = refl
  size_run f (suc n) w = size_run f n (next p (made p f w)) ∙ size_next (made p f w) ∙ size_made f w

  -- ---- the delay

  -- a step leaves it
  delay_next : (w : Whole S) → (next p w).delay ≡ w.delay
  unfolding next
  delay_next w = refl

  -- so does a flip of a delayed wire, of the age or of what was found
  delay_side : (age told : Bool) (slot wire bit : ℕ) (w : Whole S)
      → (delay_flip p age told slot wire bit w).delay ≡ w.delay
  delay_side true told slot wire bit w = refl
  delay_side false true slot wire bit w = refl
  delay_side false false slot wire bit w = refl

  -- so does every flip
  delay_kept : (x : Site) (w : Whole S) → (flip p x w).delay ≡ w.delay
  unfolding flip
  delay_kept (site.Main field bit) w = refl
  delay_kept (site.Shadow field bit) w = refl
  delay_kept (site.Delay slot wire bit) w = delay_side (wire == 36) (wire == 37) slot wire bit w
  delay_kept (site.Reg n bit) w = refl
  delay_kept (site.Tag set way bit) w = refl
  delay_kept (site.Line set way half bit) w = refl
  delay_kept (site.Output wire bit) w = refl
  delay_kept (site.Answer port bit) w = refl
  delay_kept (site.Mem word bit) w = refl

  -- also where it is made by a test
  delay_by : (b : Bool) (x : Site) (w : Whole S) → (if b then flip p x w else w).delay ≡ w.delay
  delay_by true x w = delay_kept x w
  delay_by false x w = refl

  -- so does a flip that is made in its cycle
  delay_made : (f : Option Flip) (w : Whole S) → (made p f w).delay ≡ w.delay
  delay_made None w = refl
  delay_made (Some f) w = delay_by (w.place.cycle == f.cycle) f.site w

  -- a run leaves it
  pub delay_run : (f : Option Flip) (n : ℕ) (w : Whole S) → (run p w f n).delay ≡ w.delay
  unfolding run
  delay_run f zero w = refl
  delay_run f (suc n) w = delay_run f n (next p (made p f w)) ∙ delay_next (made p f w) ∙ delay_made f w
