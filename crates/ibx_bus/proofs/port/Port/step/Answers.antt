use Rattle.std.proofs.Common.{length, sym, ap, ◌∙◌}
use Rattle.std.specs.Prelude.{slice_index}
use Rattle.ibx_bus.specs.Memory.{MemoryState}
use Rattle.ibx_bus.specs.Port.{PortState}
use Rattle.ibx_bus.proofs.Steps.{kept_word, new_error, new_word, others, same_base, same_length, stores, unchanged}
use Rattle.ibx_bus.proofs.port.Port.step.Goals as goal

pub returns-clause-error : goal.returns-clause-error
returns-clause-error c = λ e.
    ap (λ (p : PortState). p.err) c.end_cycle.ensures.next ∙ new_error c.args.self.now c.args.mem.now c.args.req.now
    (sym c.end_cycle.ensures.granted ∙ e)

pub returns-clause-word : goal.returns-clause-word
returns-clause-word c = λ e.
    ap (λ (p : PortState). p.word) c.end_cycle.ensures.next ∙ new_word c.args.self.now c.args.mem.now c.args.req.now
    (sym c.end_cycle.ensures.granted ∙ e)

pub returns-clause-kept : goal.returns-clause-kept
returns-clause-kept c = λ e.
    ap (λ (p : PortState). p.word) c.end_cycle.ensures.next ∙ kept_word c.args.self.now c.args.mem.now c.args.req.now
    (sym c.end_cycle.ensures.granted ∙ e)

pub returns-clause-unchanged : goal.returns-clause-unchanged
returns-clause-unchanged c = λ e. c.end_cycle.ensures.memory ∙ unchanged c.end_cycle.result c.args.mem.now
    c.args.req.now e

pub returns-clause-stores : goal.returns-clause-stores
returns-clause-stores c = λ e.
    rw c.end_cycle.ensures.memory (stores c.end_cycle.result c.args.mem.now c.args.req.now e)

pub returns-clause-others : goal.returns-clause-others
returns-clause-others c = λ i ne.
    ap (λ (m : MemoryState). slice_index m.words i) c.end_cycle.ensures.memory ∙ others c.end_cycle.result
    c.args.mem.now c.args.req.now i ne

pub returns-clause-base : goal.returns-clause-base
returns-clause-base c =
    ap (λ (m : MemoryState). m.base) c.end_cycle.ensures.memory ∙ same_base c.end_cycle.result c.args.mem.now
    c.args.req.now

pub returns-clause-length : goal.returns-clause-length
returns-clause-length c =
    ap (λ (m : MemoryState). length m.words) c.end_cycle.ensures.memory ∙ same_length c.end_cycle.result c.args.mem.now
    c.args.req.now
