use Rattle.std.proofs.Common.{sym, ◌∙◌, nat_eq}
use Rattle.ibx_asm.proofs.Tokens.{before_found, before_none}
use Rattle.ibx_asm.proofs.text.without_comment.Goals as goal

pub returns-in-Some : goal.returns-in-Some
returns-in-Some c = before_found (λ byte. nat_eq byte 35) c.args.line.now c.in-Some.end (sym c.hash_at.ensures.place ∙
    c.in-Some.is)

pub returns-in-None : goal.returns-in-None
returns-in-None c = before_none (λ byte. nat_eq byte 35) c.args.line.now (sym c.hash_at.ensures.place ∙ c.in-None.is)
