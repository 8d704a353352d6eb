-- A flip is noticed: the verdict has no difference without an alert within the delay plus one cycles.
use Rattle.std.proofs.Common.{◌≡◌, ℕ, ◌+◌, ◌^◌, ◌<◌, List, Option, Some, None, true, length, refl, sym, subst, arith}
use Rattle.std.specs.Prelude.{All, map, replicate}
use Rattle.std.specs.Option.{option_map}
use Rattle.std.proofs.lemmas.List.{length-replicate}
use Rattle.std.proofs.lemmas.List.Elements.{All-map}
use Rattle.std.proofs.lemmas.Nat.{mod_below}
use Rattle.ibx_secded.specs.Code.{payload_of}
use Rattle.ibx_plan.specs.Sites.{site_fits}
use Rattle.ibx_plan.specs.declared.site.Flip.{Flip}
use Rattle.ibx_core.specs.declared.state.State.{State}
use Rattle.ibx_core.specs.Fields.{reset_of}
use Rattle.ibx_core.specs.Wires.{quiet_in, quiet_out}
use Rattle.ibx_system.specs.Core.{core_parts}
use Rattle.ibx_system.specs.System.{Whole}
use Rattle.ibx_flips.specs.Flips.{Bounded, first_alert, first_diff}
use Rattle.ibx_system.specs.Runs.{IsFirst}
use Rattle.ibx_system.proofs.First.{codewords_at_reset, first_at_reset}
use Rattle.ibx_system.proofs.RealCore.{core_laws}
use Rattle.ibx_system.proofs.Sites.{fits_of}
use Rattle.ibx_flips.proofs.Whole.{noticed}
use Rattle.ibx_soc.specs.First.{IsAsNew, first_place, words_in}
use Rattle.ibx_compare.specs.Verdicts.{IsNoticed, verdict, with_alerts}

-- payloads are of 32 bits
payloads : (words : List ℕ) → All (λ v. v < 2 ^ 32) (map (λ word. payload_of 32 word) words)
payloads words = All-map (λ v. v < 2 ^ 32) (λ word. payload_of 32 word) words (λ k d lt. mod_below _ (2 ^ 32)
    (omega arith))

-- a system that is as it was opened is in a first state
new_is_first : (w : Whole State) → IsAsNew w → IsFirst core_parts w
new_is_first w new =
    let place =
    first_place (words_in w) w.place.memory.base w.place.settings w.place.iport.waits w.place.dport.waits in
    subst (λ (v : Whole State). IsFirst core_parts v) (sym new.state)
    (first_at_reset core_parts (reset_of w.main.next_pc) (replicate w.delay (quiet_in, quiet_out)) w.delay place
    new.some (length-replicate w.delay (quiet_in, quiet_out)) refl
    (codewords_at_reset w.place.settings (words_in w) w.place.memory.base w.place.iport.waits w.place.dport.waits
    (payloads w.place.memory.words)))

-- the cycle of an alert with its set
cycle_of-with : (w : Whole State) (f : Flip) (m : Option ℕ) → option_map (λ a. a.0) (with_alerts w f m) ≡ m
cycle_of-with w f None = refl
cycle_of-with w f (Some n) = refl

-- the verdict of a flip on a system as it was opened
pub is_noticed : (w : Whole State) (f : Flip) (cycles : ℕ) → IsAsNew w
    → site_fits (length w.place.memory.words) w.delay f.site ≡ true → IsNoticed (w.delay + 1) (verdict w f cycles)
unfolding verdict
is_noticed w f cycles new fits =
    let start = new_is_first w new in
    subst (λ m. Bounded (w.delay + 1) (first_diff core_parts w f cycles) m)
    (sym (cycle_of-with w f (first_alert core_parts w f cycles)))
    (noticed core_parts core_laws w f cycles start (fits_of f.site w.delay w.place start.words fits))
