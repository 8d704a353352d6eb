use Rattle.std.proofs.Common.{◌/◌, ◌%◌, Bool, ap, sym, ◌∙◌, subst}
use Rattle.std.specs.Bool.{Decides}
use Rattle.ibx_prefetch.specs.declared.buffer.WordAns.{WordAns}
use Rattle.ibx_icache.specs.declared.port.Met.{Met}
use Rattle.ibx_icache.specs.WordPort.{look_of}
use Rattle.ibx_icache.specs.Rules.{IsGiven, IsHit, half_at}
use Rattle.ibx_icache.proofs.Answered.{hit_answers, hit_word, last_answer}
use Rattle.ibx_icache.proofs.port.WordPort.answer.Goals as goal

pub returns-clause-hit : goal.returns-clause-hit
returns-clause-hit c = λ e.
    subst (λ (a : WordAns). Decides a.valid
    ((way : Bool) × IsHit (look_of c.args.i.now.tags c.args.i.now.lanes) c.args.self.now.c_addr way))
    (sym (ap (λ (m : Met). m.ans) c.meet.ensures))
    (hit_answers c.args.self.now c.args.i.now.rsp (look_of c.args.i.now.tags c.args.i.now.lanes) e)

pub returns-clause-word : goal.returns-clause-word
returns-clause-word c = λ e way h.
    ap (λ (m : Met). m.ans) c.meet.ensures
    ∙ hit_word c.args.self.now c.args.i.now.rsp (look_of c.args.i.now.tags c.args.i.now.lanes) e way h

pub returns-clause-last : goal.returns-clause-last
returns-clause-last c = λ e.
    subst (λ (a : WordAns). IsGiven a (half_at c.args.self.now (c.args.self.now.c_addr / 4 % 2)))
    (sym (ap (λ (m : Met). m.ans) c.meet.ensures))
    (last_answer c.args.self.now c.args.i.now.rsp (look_of c.args.i.now.tags c.args.i.now.lanes) e)
