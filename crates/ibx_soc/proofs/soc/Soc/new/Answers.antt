use Rattle.std.proofs.Common.{ℕ, ◌*◌, ◌%◌, length, ap, subst, sym, ◌∙◌}
use Rattle.ibx_core.specs.declared.state.State.{State}
use Rattle.ibx_core.specs.Fields.{reset_of}
use Rattle.ibx_elf.specs.Ram.{IsInRam}
use Rattle.ibx_system.specs.System.{Place, Whole}
use Rattle.ibx_lockstep.specs.Seen.{seen}
use Rattle.ibx_soc.specs.First.{IsAsNew}
use Rattle.ibx_soc.specs.Seen.{place_of}
use Rattle.ibx_soc.proofs.Images.{first_is_new, opened_is}
use Rattle.ibx_soc.proofs.soc.Soc.new.Goals as goal

pub returns-clause-as_new : goal.returns-clause-as_new
returns-clause-as_new c =
    let image = c.args.image.now in
    let opened = opened_is (seen c.new-2.result) c.reset-core.result c.quiet.result c.quiet-2.result
    (place_of c.in_ok-memories.memories) image c.args.config.now c.args.plan.now
    c.new-2.ensures.made (c.reset-core.ensures ∙ ap reset_of c.entry.ensures.entry) c.quiet.ensures c.quiet-2.ensures
    c.in_ok-memories.ensures.place in
    subst (λ (w : Whole State). IsAsNew w) (sym opened) (first_is_new image c.args.config.now c.args.plan.now
    c.in_ok-memories.ensures.small
    (ap (λ (n : ℕ). n % 2) (sym c.entry.ensures.entry) ∙ c.entry.ensures.even)
    (subst (λ (n : ℕ). IsInRam image.ram n) c.entry.ensures.entry c.entry.ensures.in_ram)
    (ap (λ (p : Place). 4 * length p.memory.words) (sym c.in_ok-memories.ensures.place) ∙
    c.in_ok-memories.ensures.size))
