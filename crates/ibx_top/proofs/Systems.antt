-- The system of a run at reset, and the verdict on it.
use Rattle.std.proofs.Common.{◌≡◌, ℕ, zero, suc, ◌+◌, ◌/◌, ◌<◌, Bool, true, false, [], ◌∷◌, Option, Some, None, IfSome, length, refl, ap}
use Rattle.std.proofs.Common.{ap₂, ◌∙◌, subst, sym}
use Rattle.ibx_elf.specs.declared.ram.Ram.{Ram}
use Rattle.ibx_plan.specs.Sites.{site_fits}
use Rattle.std.proofs.lemmas.List.{length-map}
use Rattle.ibx_elf.specs.Image.{Placed}
use Rattle.ibx_secded.specs.Code.{encode_of}
use Rattle.ibx_plan.specs.declared.site.Flip.{Flip}
use Rattle.ibx_plan.specs.Plan.{FlipFits, PlanValue}
use Rattle.ibx_core.specs.declared.state.State.{State}
use Rattle.ibx_lockstep.specs.Delays.{cycles_of}
use Rattle.ibx_system.specs.System.{Whole}
use Rattle.ibx_command.specs.declared.options.Options.{Options}
use Rattle.ibx_compare.specs.declared.flipped.Verdict.{Verdict}
use Rattle.ibx_soc.specs.declared.config.Config.{Config}
use Rattle.ibx_soc.specs.First.{words_from, image_words, first}
use Rattle.ibx_top.specs.Answers.{IsOneOf, alert_code, bounds_of}
use Rattle.ibx_top.specs.Verdicts.{system_of, verdict_by, verdict_of}

-- as many words are read of the image as are asked for
words_length : (image : Placed) (addr n : ℕ) → length (words_from image addr n) ≡ n
unfolding words_from
words_length image addr zero = refl
words_length image addr (suc n) = ap suc (words_length image (addr + 4) n)

-- the memory has the words of the image's RAM
pub memory_size : (image : Placed) (config : Config) (plan : PlanValue) → length
    (first image config plan).place.memory.words ≡ image.ram.size / 4
unfolding first
memory_size image config plan = length-map (image_words image) (λ (v : ℕ). encode_of 32 7 v) ∙ words_length image
    image.ram.base (image.ram.size / 4)

-- the delay is that of the configuration
pub first_delay : (image : Placed) (config : Config) (plan : PlanValue)
    → (first image config plan).delay ≡ cycles_of config.delay
unfolding first
first_delay image config plan = refl

-- the verdict on a system that is as it was opened, with the plan's flip, is that on the image and the plan
pub verdict_is : (options : Options) (plan : PlanValue) (image : Placed) (clean : Whole State) (flip : Option Flip)
    (v : Verdict) → clean ≡ system_of image options plan → flip ≡ plan.flip → v ≡ verdict_by clean options.cycles flip
    → v ≡ verdict_of image options plan
verdict_is options plan image clean flip v opened same is =
    is ∙ ap (λ (w : Whole State). verdict_by w options.cycles flip) opened
    ∙ ap (λ (f : Option Flip). verdict_by (system_of image options plan) options.cycles f) same

-- a plan's flip is made below the budget
pub flip_below : (options : Options) (flip other : Option Flip) → flip ≡ other
    → IfSome other (FlipFits (bounds_of 1 options)) → IfSome flip (λ f. f.cycle < options.cycles)
flip_below options flip other e fits =
    subst (λ (o : Option Flip). IfSome o (λ f. f.cycle < options.cycles)) (sym e) (by_plan other fits)
  where
    by_plan : (o : Option Flip) → IfSome o (FlipFits (bounds_of 1 options)) → IfSome o (λ f. f.cycle < options.cycles)
    by_plan None h = tt
    by_plan (Some f) h = h.cycle

-- and at a bit that the system has
pub flip_fits : (options : Options) (image : Placed) (plan : PlanValue) (clean : Whole State)
    (flip other : Option Flip) → flip ≡ other → clean ≡ system_of image options plan → image.ram ≡ options.ram
    → IfSome other (FlipFits (bounds_of 1 options))
    → IfSome flip (λ f. site_fits (length clean.place.memory.words) clean.delay f.site ≡ true)
flip_fits options image plan clean flip other e opened ram fits =
    subst (λ (o : Option Flip). IfSome o (λ f. site_fits (length clean.place.memory.words) clean.delay f.site ≡ true))
    (sym e) (by_plan other fits)
  where
    config : Config
    config = record { ram = image.ram; mul = options.mul; delay = options.delay }

    count : length clean.place.memory.words ≡ options.ram.size / 4
    count =
        ap (λ (w : Whole State). length w.place.memory.words) opened ∙ memory_size image config plan
        ∙ ap (λ (r : Ram). r.size / 4) ram

    delay : clean.delay ≡ cycles_of options.delay
    delay = ap (λ (w : Whole State). w.delay) opened ∙ first_delay image config plan

    by_plan : (o : Option Flip) → IfSome o (FlipFits (bounds_of 1 options))
        → IfSome o (λ f. site_fits (length clean.place.memory.words) clean.delay f.site ≡ true)
    by_plan None h = tt
    by_plan (Some f) h = ap₂ (λ (n d : ℕ). site_fits n d f.site) count delay ∙ h.site

-- an injection is no refusal
pub injects : (alert : Bool) → IsOneOf (0 ∷ 1 ∷ 8 ∷ 9 ∷ []) (alert_code alert)
injects true = refl
injects false = refl
