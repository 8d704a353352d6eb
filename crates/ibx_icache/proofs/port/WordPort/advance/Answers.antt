use Rattle.std.proofs.Common.{ap, sym, ◌∙◌, subst}
use Rattle.ibx_icache.specs.declared.port.WordPort.{WordPort}
use Rattle.ibx_icache.specs.WordPort.{IsFields, look_of, word_in}
use Rattle.ibx_icache.specs.Rules.{IsVictim, WalksOn}
use Rattle.ibx_icache.proofs.Runs.{emptying, fills_victim, keeps_other, next_fields, turns_other, walks_on}
use Rattle.ibx_icache.proofs.port.WordPort.advance.Goals as goal

pub returns-clause-widths : goal.returns-clause-widths
returns-clause-widths c = λ k. subst IsFields (sym c.step.ensures)
    (next_fields c.args.self.now (word_in c.args.i.now) c.args.i.now.granted k)

pub returns-clause-victim : goal.returns-clause-victim
returns-clause-victim c = λ e m.
    subst (λ (w : WordPort). IsVictim (look_of c.args.i.now.tags c.args.i.now.lanes) c.args.self.now.c_addr
    c.args.self.now.c_alt w.c_way) (sym c.step.ensures)
    (fills_victim c.args.self.now (word_in c.args.i.now) c.args.i.now.granted e m)

pub returns-clause-turned : goal.returns-clause-turned
returns-clause-turned c = λ s. ap (λ (w : WordPort). w.c_alt) c.step.ensures
    ∙ turns_other c.args.self.now (word_in c.args.i.now) c.args.i.now.granted s

pub returns-clause-kept : goal.returns-clause-kept
returns-clause-kept c = λ n. ap (λ (w : WordPort). w.c_alt) c.step.ensures
    ∙ keeps_other c.args.self.now (word_in c.args.i.now) c.args.i.now.granted n

pub returns-clause-walk : goal.returns-clause-walk
returns-clause-walk c =
    subst (λ (w : WordPort). WalksOn c.args.i.now.fence c.args.self.now.c_walk w.c_walk) (sym c.step.ensures)
    (walks_on c.args.self.now (word_in c.args.i.now) c.args.i.now.granted)

pub returns-clause-anew : goal.returns-clause-anew
returns-clause-anew c = λ e.
    emptying c.step.new.self (ap (λ (w : WordPort). w.c_walk) c.step.ensures
    ∙ (walks_on c.args.self.now (word_in c.args.i.now) c.args.i.now.granted).restarts e)
