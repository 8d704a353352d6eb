-- The steps of commands that read plans and files.
use Rattle.std.proofs.Common.{◌≡◌, ℕ, ◌≤◌, List, [], ◌∷◌, ◌++◌, Option, None, length, sym, subst, refl}
use Rattle.ibx_base.specs.Files.{Contents, Begun, IsContent}
use Rattle.ibx_elf.specs.declared.ram.Ram.{Ram}
use Rattle.ibx_elf.specs.Faults.{first_fault}
use Rattle.ibx_elf.specs.Image.{Placed, image_of}
use Rattle.ibx_plan.specs.declared.bounds.Bounds.{Bounds}
use Rattle.ibx_plan.specs.Plan.{PlanValue}
use Rattle.ibx_top.specs.declared.outcome.Outcome.{Outcome}
use Rattle.ibx_top.specs.declared.outcome.Refusal.TheVariants as why
use Rattle.ibx_top.specs.Answers.{Answer, IsBytesAnswer, IsFileAnswer, IsPlanAnswer, IsPlanIn, file_limit, named}
use Rattle.ibx_top.specs.Answers.{refused}
use Rattle.ibx_top.specs.Outcomes.{IsTooLong, Leaves, Passes, Refuses, Stops}
use Rattle.ibx_top.proofs.Answers.{by_plan, bytes_refused, good_bytes, long_bytes, plan_refused}
use Rattle.ibx_top.proofs.Outcomes.{Goes, begins, narrows, only_refuses, reads, refuses, stops}

-- the refusal of a file of too many bytes is an answer to it
too_long : (told : Option Contents) (name : List ℕ) (ram : Ram) (Ran : Placed → Answer → Type 0) (answer : Answer)
    → IsTooLong told name file_limit why.FileTooLong answer → IsFileAnswer told name ram Ran answer
too_long told name ram Ran answer (is, (bytes, (content, more))) = (
  bytes,
  (
    content,
    subst (λ (a : Answer). IsBytesAnswer name ram Ran bytes a) (sym is)
        (long_bytes name ram Ran bytes more),
  ),
)

module _ {F : Type 0} {contents : F → Option Contents} {faults misses : F → ℕ} {names : List (List ℕ)}
    {Answers : Answer → Type 0} {start now : F} where
  -- a file's bytes are read
  pub reads_file : {later : F} (name : List ℕ) (rest : List (List ℕ)) (ram : Ram) (Ran : Placed → Answer → Type 0)
      (bytes : List ℕ) → Goes contents faults misses names (name ∷ rest) Answers
      (IsFileAnswer (contents start) name ram Ran) start now
      → Passes contents faults misses (name ∷ []) now later → IsContent (contents now) name bytes
      → Goes contents faults misses names rest Answers (IsBytesAnswer name ram Ran bytes) start later
  reads_file name rest ram Ran bytes goes passes content =
      reads (name ∷ []) rest (IsBytesAnswer name ram Ran bytes) goes passes
      (λ answer is. (bytes, (subst (λ (told : Option Contents). IsContent told name bytes) goes.kept content, is)))

  -- its image is loaded
  pub loads : {rest : List (List ℕ)} (name : List ℕ) (ram : Ram) (Ran : Placed → Answer → Type 0)
      (bytes slice : List ℕ) (image : Placed)
      → Goes contents faults misses names rest Answers (IsBytesAnswer name ram Ran bytes) start now
      → slice ≡ bytes → length bytes ≤ file_limit → first_fault slice ram ≡ None → image ≡ image_of slice ram
      → Goes contents faults misses names rest Answers (Ran image) start now
  loads name ram Ran bytes slice image goes same fits sound placed =
      narrows (Ran image) goes
      (λ answer is. good_bytes name ram Ran bytes answer fits
      (subst (λ (b : List ℕ). first_fault b ram ≡ None) same sound)
      (subst (λ (b : List ℕ). Ran (image_of b ram) answer) same
      (subst (λ (i : Placed). Ran i answer) placed is)))

  module _ (begun : F → Option Begun) {K : Type 0} (taken : K → Option (List ℕ)) (failed : K → ℕ) where
    -- its bytes can't be read
    pub stops_file : {later : F} (name : List ℕ) (rest : List (List ℕ)) (ram : Ram)
        (Ran : Placed → Answer → Type 0) (end : Outcome) (out : K)
        → Goes contents faults misses names (name ∷ rest) Answers (IsFileAnswer (contents start) name ram Ran) start now
        → Passes contents faults misses (name ∷ []) now later
        → Stops begun faults (name ∷ []) (IsTooLong (contents now) name file_limit why.FileTooLong) end now later
        → Leaves contents begun faults misses taken failed names Answers end start later out out
    stops_file name rest ram Ran end out goes passes stop =
        stops begun taken failed (name ∷ []) rest (IsTooLong (contents now) name file_limit why.FileTooLong) end out
        goes passes (λ answer is. too_long (contents start) name ram Ran answer
        (subst (λ (told : Option Contents). IsTooLong told name file_limit why.FileTooLong answer) goes.kept is)) stop

    -- it is refused
    pub refuses_file : {rest : List (List ℕ)} (name : List ℕ) (ram : Ram) (Ran : Placed → Answer → Type 0)
        (bytes slice : List ℕ) (end : Outcome) (out : K)
        → Goes contents faults misses names rest Answers (IsBytesAnswer name ram Ran bytes) start now
        → slice ≡ bytes → Refuses (IsBytesAnswer name ram (λ _ _. ⊥) slice) end
        → Leaves contents begun faults misses taken failed names Answers end start now out out
    refuses_file name ram Ran bytes slice end out goes same is =
        refuses begun taken failed end out
        (narrows (IsBytesAnswer name ram (λ _ _. ⊥) slice) goes
        (λ answer h. subst (λ (b : List ℕ). IsBytesAnswer name ram Ran b answer) same
        (bytes_refused name ram Ran slice answer h))) (only_refuses (IsBytesAnswer name ram (λ _ _. ⊥) slice) end is)

-- a command with a plan, if one is named, which comes before its files
module _ {F : Type 0} (contents : F → Option Contents) (faults misses : F → ℕ) (plan : Option (List ℕ))
    (files : List (List ℕ)) (bounds : Bounds) (Followed : PlanValue → Answer → Type 0) (start : F) {later : F} where
  -- the plan is followed
  pub follows : (planned : PlanValue) → Passes contents faults misses (named plan) start later
      → IsPlanIn (contents start) plan bounds planned
      → Goes contents faults misses (named plan ++ files) files (IsPlanAnswer (contents start) plan bounds Followed)
      (Followed planned) start later
  follows planned passes is =
      reads (named plan) files (Followed planned)
      (begins contents faults misses (named plan ++ files) (IsPlanAnswer (contents start) plan bounds Followed) start)
      passes (λ answer ran. by_plan (contents start) plan bounds Followed planned answer is ran)

  -- the plan isn't read, or is refused
  pub stops_plan : (begun : F → Option Begun) {K : Type 0} (taken : K → Option (List ℕ)) (failed : K → ℕ)
      (end : Outcome) (out : K) → Passes contents faults misses (named plan) start later
      → Stops begun faults (named plan) (IsPlanAnswer (contents start) plan bounds (λ _ _. ⊥)) end start later
      → Leaves contents begun faults misses taken failed (named plan ++ files)
      (IsPlanAnswer (contents start) plan bounds Followed) end start later out out
  stops_plan begun taken failed end out passes stop =
      stops begun taken failed (named plan) files (IsPlanAnswer (contents start) plan bounds (λ _ _. ⊥)) end out
      (begins contents faults misses (named plan ++ files) (IsPlanAnswer (contents start) plan bounds Followed) start)
      passes (λ answer is. plan_refused (contents start) plan bounds Followed answer is) stop
