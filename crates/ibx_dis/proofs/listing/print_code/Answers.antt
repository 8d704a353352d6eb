use Rattle.std.proofs.Common.{◌≡◌, ℕ, ◌<◌, List, ◌++◌, ◌∙◌, codes, drop, length, sym, subst, arith}
use Rattle.ibx_dis.specs.Listing.{first_size, first_text, lines_of}
use Rattle.ibx_base.specs.Sinks.{with_more, TookPrefix}
use Rattle.ibx_dis.proofs.Gains.{SoFar, more, cut, done, on_err}
use Rattle.ibx_dis.proofs.Steps.{first_line, no_code}
use Rattle.ibx_dis.proofs.listing.print_code.Goals as goal

pub returns-in_err-print_line-clause-prefix : goal.returns-in_err-print_line-clause-prefix
returns-in_err-print_line-clause-prefix g c =
    let code : List ℕ = c.loop-rest.rest.now in
    let some : 0 < length code = grind arith in
    let said : c.as_str.result.now ≡ first_text code =
    c.as_str.ensures.value ∙ c.first_instruction-text.ensures.text in
    let so_far = subst (λ left. SoFar (g.K.Sink.taken c.args.out.now) (g.K.Sink.taken c.loop-rest.out) left
    (lines_of c.args.code.now)) (first_line code some) c.loop-rest.invariant.so_far in
    on_err c.from_residual.result (cut (first_text code ++ codes "\n") (lines_of (drop (first_size code) code)) so_far
    (subst (λ text. TookPrefix (g.K.Sink.taken c.loop-rest.out) (text ++ codes "\n")
    (g.K.Sink.taken c.print_line.new.out))
    said c.in_err-print_line.ensures.prefix))

pub loop-rest-preserved : goal.loop-rest-preserved
loop-rest-preserved g c =
    let code : List ℕ = c.loop-rest.rest.now in
    let some : 0 < length code = grind arith in
    let said : c.as_str.result.now ≡ first_text code =
    c.as_str.ensures.value ∙ c.first_instruction-text.ensures.text in
    let so_far = subst (λ left. SoFar (g.K.Sink.taken c.args.out.now) (g.K.Sink.taken c.loop-rest.out) left
    (lines_of c.args.code.now)) (first_line code some) c.loop-rest.invariant.so_far in
    record {
      so_far = subst (λ left. SoFar (g.K.Sink.taken c.args.out.now) (g.K.Sink.taken c.print_line.new.out)
          (lines_of left)
          (lines_of c.args.code.now)) (sym c.first_instruction-text.ensures.rest)
          (more (first_text code ++ codes "\n") (lines_of (drop (first_size code) code)) so_far
          (subst (λ text. g.K.Sink.taken c.print_line.new.out ≡ with_more (g.K.Sink.taken c.loop-rest.out)
          (text ++ codes "\n"))
          said c.in_ok-print_line.ensures.whole));
      faults = omega (arith, c.loop-rest.invariant.faults, c.in_ok-print_line.ensures.cause.never_falls);
    }

pub returns-clause-whole : goal.returns-clause-whole
returns-clause-whole g c =
    let empty : length c.loop-rest.rest.now ≡ 0 = grind arith in
    done (subst (λ left. SoFar (g.K.Sink.taken c.args.out.now) (g.K.Sink.taken c.loop-rest.out) left
    (lines_of c.args.code.now)) (no_code c.loop-rest.rest.now empty) c.loop-rest.invariant.so_far)
