use Rattle.std.proofs.Common.{◌≡◌, ap, ◌∙◌}
use Rattle.ibx_icache.specs.Doing.{doing_of, is_rest, state_of}
use Rattle.ibx_icache.specs.WordPort.{after_answer, after_request, begun_by, marked, word_in}
use Rattle.ibx_icache.proofs.Turned.{turned_next}
use Rattle.ibx_icache.proofs.port.WordPort.proceed.Goals as goal

pub returns : goal.returns
returns c =
    let i = word_in c.args.i.now in
    let answered : c.mark.new.self ≡ after_answer c.args.self.now i =
    c.mark.ensures ∙ ap (marked i.fence) c.go.ensures in
    let begun : c.begin.new.self ≡ after_request c.args.self.now i = c.begin.ensures
    ∙ ap (λ v. begun_by (is_rest (doing_of v.c_state)) c.is_cached-cached.result i.request v) answered
    ∙ ap (λ b. begun_by (is_rest (doing_of (after_answer c.args.self.now i).c_state)) b i.request
    (after_answer c.args.self.now i)) c.is_cached-cached.ensures in
    turned_next c.args.self.now i c.begin.new.self c.state-self.result c.walked-c_walk.result begun
    (c.state-self.ensures ∙ ap state_of c.of.ensures) c.walked-c_walk.ensures
