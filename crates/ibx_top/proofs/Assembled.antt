-- What is answered to a text, case by case.
use Rattle.std.proofs.Common.{◌≡◌, ℕ, ◌<◌, ◌≤◌, Bool, true, false, List, [], ◌∷◌, Result, Ok, Err, length, refl, ap}
use Rattle.std.proofs.Common.{◌∙◌}
use Rattle.std.proofs.Common.{arith}
use Rattle.std.specs.Prelude.{nat_lt}
use Rattle.std.proofs.lemmas.Bool.Decides.{nat_tests}
use Rattle.ibx_asm.specs.declared.fault.AsmFault.{AsmFault}
use Rattle.ibx_asm.specs.declared.fault.AsmFault.TheVariants.{Memory, Line}
use Rattle.ibx_asm.specs.Denote.{denoted, Assembles}
use Rattle.ibx_wrap.specs.Wrapped.{wrapped}
use Rattle.ibx_top.specs.declared.outcome.Refusal.TheVariants as why
use Rattle.ibx_top.specs.Answers.{refused, written_answer, plan_limit, asm_answer_by, asm_answer, IsOneOf}

-- more bytes than the limit are told to be too long
is_long : (text : List ℕ) → plan_limit < length text → nat_lt plan_limit (length text) ≡ true
is_long text h = grind (arith, nat_tests)

-- as many as the limit or fewer are not
is_short : (text : List ℕ) → length text ≤ plan_limit → nat_lt plan_limit (length text) ≡ false
is_short text h = grind (arith, nat_tests)

-- a text of too many bytes
pub long_text : (name text : List ℕ) → plan_limit < length text → asm_answer name text ≡ refused name
    why.TextTooLong
unfolding asm_answer_by
long_text name text h = ap (λ (b : Bool). asm_answer_by name b (denoted text)) (is_long text h)

-- a text with a refused line
pub bad_text : (name text : List ℕ) (fault : AsmFault) → length text ≤ plan_limit → denoted text ≡ Err fault
    → asm_answer name text ≡ refused name (why.Text fault)
unfolding asm_answer_by
bad_text name text fault h e =
    ap (λ (b : Bool). asm_answer_by name b (denoted text)) (is_short text h)
    ∙ ap (asm_answer_by name false) e

-- a text that stands for code
pub good_text : (name text code : List ℕ) → length text ≤ plan_limit → denoted text ≡ Ok code
    → asm_answer name text ≡ written_answer (wrapped code)
unfolding asm_answer_by
good_text name text code h e =
    ap (λ (b : Bool). asm_answer_by name b (denoted text)) (is_short text h)
    ∙ ap (asm_answer_by name false) e

-- a fault of a text that isn't want of memory is that of its lines
pub text_fault_is : (fault : AsmFault) (wanted : Result (List ℕ) AsmFault) → (fault ≡ Memory → ⊥)
    → Assembles (Err fault) wanted → wanted ≡ Err fault
text_fault_is Memory wanted other h = absurd (other refl)
text_fault_is (Line number kind) wanted other h = h

-- the statuses of an answer to a text
codes_by : (name : List ℕ) (long : Bool) (code : Result (List ℕ) AsmFault)
    → IsOneOf (0 ∷ 3 ∷ 4 ∷ 7 ∷ 12 ∷ []) (asm_answer_by name long code).code
unfolding asm_answer_by
codes_by name true code = refl
codes_by name false (Err fault) = refl
codes_by name false (Ok code) = refl

-- so `asm` answers each text with one of these
pub asm_codes : (name text : List ℕ) → IsOneOf (0 ∷ 3 ∷ 4 ∷ 7 ∷ 12 ∷ []) (asm_answer name text).code
asm_codes name text = codes_by name (nat_lt plan_limit (length text)) (denoted text)
