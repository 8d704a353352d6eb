use Rattle.std.proofs.Common.{◌∷◌, ◌-◌, ◌∙◌, ℕ, List, length, take, drop, sym, ap}
use Rattle.std.proofs.lemmas.List.{take_rest}
use Rattle.ibx_asm.specs.Text.{tokens}
use Rattle.ibx_asm.proofs.Tokens.{only_blanks, first_begins, from_first}
use Rattle.ibx_asm.proofs.text.first_token.Goals as goal

pub returns-in_err-start : goal.returns-in_err-start
returns-in_err-start c = rw c.from_residual.ensures (only_blanks c.args.text.now (sym c.first_not_blank.ensures.place ∙
    c.in_err-start.was))

pub token_length-end-requires-clause-begins : goal.token_length-end-requires-clause-begins
token_length-end-requires-clause-begins c = rw (take_rest c.args.text.now c.in_ok-start.start)
    (first_begins c.args.text.now c.in_ok-start.start (sym c.first_not_blank.ensures.place ∙ c.in_ok-start.was))

pub returns : goal.returns
returns c =
    let text : List ℕ = c.args.text.now in
    let rest : List ℕ = take (length text - c.in_ok-start.start) (drop c.in_ok-start.start text) in
    let end : ℕ = c.token_length-end.result in
    from_first text c.in_ok-start.start (sym c.first_not_blank.ensures.place ∙ c.in_ok-start.was) ∙ ap tokens
    (sym (take_rest text c.in_ok-start.start))
    ∙ c.token_length-end.ensures.value ∙ ap (λ (more : List ℕ). take end rest ∷ tokens more) (sym (take_rest rest end))
