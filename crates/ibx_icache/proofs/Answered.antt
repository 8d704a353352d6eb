-- The answer to a lookup, and after a miss.
use Rattle.std.proofs.Common.{◌≡◌, ◌≢◌, ℕ, zero, suc, ◌/◌, ◌%◌, ◌^◌, ◌<◌, ◌≤◌, Bool, true, false, not, ◌==◌, refl, sym}
use Rattle.std.proofs.Common.{ap, ◌∙◌, subst, arith, if◌then◌else◌}
use Rattle.std.proofs.lemmas.Bool.Decides.{Decides-eqb, Decides-like, Decides-not}
use Rattle.std.specs.Bool.{Decides}
use Rattle.ibx_isa.specs.declared.bus.Rsp.{Rsp}
use Rattle.ibx_secded.specs.Code.{payload_of}
use Rattle.ibx_prefetch.specs.declared.buffer.WordAns.{WordAns}
use Rattle.ibx_icache.specs.declared.doing.Doing.{Doing}
use Rattle.ibx_icache.specs.declared.doing.Doing.TheVariants.{Answers, Looks}
use Rattle.ibx_icache.specs.declared.lookup.Look.{Look}
use Rattle.ibx_icache.specs.declared.port.WordPort.{WordPort}
use Rattle.ibx_icache.specs.Doing.{answers_by, doing_of}
use Rattle.ibx_icache.specs.WordPort.{answer_of, entry_by, found_word, is_hit}
use Rattle.ibx_icache.specs.Rules.{IsGiven, IsHit, half_at, hit_answer, word_in_way}
use Rattle.ibx_icache.proofs.Lookups.{hit, word_is}
use Rattle.ibx_icache.proofs.States.{answers_at, looks_at}

-- an answer, where there is one, of a word with its error in bit 32
abbrev given : Bool → ℕ → WordAns
given answers entry =
    if answers then record { valid = true; err = not (entry / 2 ^ 32 == 0); word = entry % 2 ^ 32 }
    else record { valid = false; err = false; word = 0 }

-- the answer by what the port does, and where it looks up
answer_at : (w : WordPort) (rsp : Rsp) (l : Look) (g : Doing) → doing_of w.c_state ≡ g
    → answer_of w rsp l ≡ given (answers_by g rsp.valid (is_hit l w.c_addr)) (entry_by g w rsp l)
unfolding answer_of
answer_at w rsp l g e = ap (λ (x : Doing). given (answers_by x rsp.valid (is_hit l w.c_addr)) (entry_by x w rsp l)) e

-- in state 1 the port answers at a hit, with the word that the lookup finds
in_look : (w : WordPort) (rsp : Rsp) (l : Look) → w.c_state ≡ 1
    → answer_of w rsp l ≡ given (is_hit l w.c_addr) (found_word l w.c_addr)
unfolding answers_by entry_by
in_look w rsp l e = answer_at w rsp l Looks (looks_at w.c_state e)

-- an answer is given where it is due
valid_given : (b : Bool) (entry : ℕ) → (given b entry).valid ≡ b
valid_given true entry = refl
valid_given false entry = refl

-- a lookup answers exactly at a hit
pub hit_answers : (w : WordPort) (rsp : Rsp) (l : Look) → w.c_state ≡ 1
    → Decides (answer_of w rsp l).valid ((way : Bool) × IsHit l w.c_addr way)
hit_answers w rsp l e =
    let same : (answer_of w rsp l).valid ≡ is_hit l w.c_addr =
    ap (λ (a : WordAns). a.valid) (in_look w rsp l e) ∙ valid_given (is_hit l w.c_addr) (found_word l w.c_addr) in
    subst (λ (b : Bool). Decides b ((way : Bool) × IsHit l w.c_addr way)) (sym same) (hit l w.c_addr)

-- a word without an error answers as a hit's does
whole : (word : ℕ) → word < 2 ^ 32 → given true word ≡ hit_answer word
whole word low =
    let none : word / 2 ^ 32 ≡ 0 = omega (arith, low) in
    let same : word % 2 ^ 32 ≡ word = omega (arith, low) in
    ap (λ (n : ℕ). record { valid = true; err = not (n == 0); word = word % 2 ^ 32 }) none
    ∙ ap (λ (n : ℕ). hit_answer n) same

-- with the word of the lowest way that matches
pub hit_word : (w : WordPort) (rsp : Rsp) (l : Look) → w.c_state ≡ 1 → (way : Bool) → IsHit l w.c_addr way
    → answer_of w rsp l ≡ hit_answer (payload_of 32 (word_in_way l way))
hit_word w rsp l e way h =
    in_look w rsp l e ∙ ap (λ (b : Bool). given b (found_word l w.c_addr)) ((hit l w.c_addr).1 (way, h))
    ∙ ap (λ (n : ℕ). given true n) (word_is l w.c_addr way h.found)
    ∙ whole (payload_of 32 (word_in_way l way)) (omega arith)

-- bit 32 is the error, and the word of a line is picked by the address
error_is : (entry : ℕ) → Decides (not (entry / 2 ^ 32 == 0)) (2 ^ 32 ≤ entry)
error_is entry =
    Decides-like {P = entry / 2 ^ 32 ≢ 0} (not (entry / 2 ^ 32 == 0)) (λ n. big n) (λ le e. small le e)
    (Decides-not (entry / 2 ^ 32 == 0) (Decides-eqb (entry / 2 ^ 32) 0))
  where
    big : (entry / 2 ^ 32 ≢ 0) → 2 ^ 32 ≤ entry
    big n = omega (arith, n)

    small : 2 ^ 32 ≤ entry → entry / 2 ^ 32 ≢ 0
    small le e = absurd (omega (arith, le, e))

-- the test for word 0 picks the word that the rule counts by its number
half_by : (w : WordPort) (n : ℕ) → n < 2 → (if n == 0 then w.c_word0 else w.c_word1) ≡ half_at w n
half_by w zero h = refl
half_by w (suc zero) h = refl
half_by w (suc (suc n)) h = absurd (omega (arith, h))

-- the answer after a miss
pub last_answer : (w : WordPort) (rsp : Rsp) (l : Look) → w.c_state ≡ 6
    → IsGiven (answer_of w rsp l) (half_at w (w.c_addr / 4 % 2))
unfolding answers_by entry_by
last_answer w rsp l e =
    let is : answer_of w rsp l ≡ given true (half_at w (w.c_addr / 4 % 2)) =
    answer_at w rsp l Answers (answers_at w.c_state e)
    ∙ ap (λ (n : ℕ). given true n) (half_by w (w.c_addr / 4 % 2) (omega arith)) in
    subst (λ (a : WordAns). IsGiven a (half_at w (w.c_addr / 4 % 2))) (sym is)
    (record { valid = refl; error = error_is (half_at w (w.c_addr / 4 % 2)); word = refl })
