-- Where a word answers only while one is outstanding, the answer that is dropped is the one that a redirect marked.
use Rattle.std.proofs.Common.{◌≡◌, ℕ, Bool, true, false, ◌&&◌, ◌||◌, Option, Some, None, refl, ap}
use Rattle.ibx_prefetch.specs.declared.buffer.Prefetch.{Prefetch}
use Rattle.ibx_prefetch.specs.declared.buffer.WordAns.{WordAns}
use Rattle.ibx_prefetch.specs.Buffer.{entry_of, turned, received, fetch_after_answer}

-- a condition with one that is known
or_false : (b : Bool) → (b || false) ≡ b
or_false true = refl
or_false false = refl

-- a mark of a request that is outstanding is kept
mark_kept : (drops busy : Bool) → (drops ≡ true → busy ≡ true) → (drops && busy) ≡ drops
mark_kept true busy outstanding = outstanding refl
mark_kept false busy outstanding = refl

-- so a cycle without an answer leaves the buffer
pub received-none : (drops : Bool) (entry : ℕ) (f : Prefetch) → (f.f_drop ≡ true → f.f_busy ≡ true)
    → received false drops entry f ≡ f
unfolding received
received-none drops entry f outstanding =
    ap (λ mark. record f { f_drop = mark }) (mark_kept f.f_drop f.f_busy outstanding)

-- at a redirect an answer is dropped exactly where one is outstanding
at_turn : (valid drops busy : Bool) (entry : ℕ) (g : Prefetch) → (valid ≡ true → busy ≡ true)
    → received valid (drops || true) entry g ≡ received valid busy entry g
unfolding received
at_turn false drops busy entry g outstanding = refl
at_turn true true true entry g outstanding = refl
at_turn true false true entry g outstanding = refl
at_turn true drops false entry g outstanding = let no_ = outstanding refl in cc

-- so what is dropped may be read from the field that a redirect sets
pub fetch_after_answer-outstanding : (ans : WordAns) (redirect : Option ℕ) (f : Prefetch)
    → (ans.valid ≡ true → f.f_busy ≡ true)
    → fetch_after_answer ans redirect f
    ≡ received ans.valid (turned redirect f).f_drop (entry_of ans.err ans.word) (turned redirect f)
unfolding turned
fetch_after_answer-outstanding ans None f outstanding =
    ap (λ drops. received ans.valid drops (entry_of ans.err ans.word) f) (or_false f.f_drop)
fetch_after_answer-outstanding ans (Some target) f outstanding =
    at_turn ans.valid f.f_drop f.f_busy (entry_of ans.err ans.word) (turned (Some target) f) outstanding
