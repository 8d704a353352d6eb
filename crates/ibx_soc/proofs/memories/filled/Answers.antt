use Rattle.std.proofs.Common.{ℕ, ◌<◌, ◌^◌, List, ap, subst, ◌∙◌}
use Rattle.std.specs.Prelude.{All}
use Rattle.ibx_elf.specs.declared.ram.Ram.{Ram}
use Rattle.ibx_bus.specs.Memory.{coded_memory}
use Rattle.ibx_soc.specs.First.{image_words}
use Rattle.ibx_soc.proofs.Images.{filled_is}
use Rattle.ibx_soc.proofs.memories.filled.Goals as goal

pub returns-clause-value : goal.returns-clause-value
returns-clause-value c =
    let image = c.args.image.now in
    let same = filled_is image c.in_ok-words.words.items c.in_ok-words.ensures.count c.in_ok-words.ensures.holds in
    c.in_ok-memory.ensures ∙ ap (λ (ws : List ℕ). coded_memory ws c.ram.result.base) (c.deref-2.ensures.value ∙ same)
    ∙ ap (λ (ram : Ram). coded_memory (image_words image) ram.base) c.ram.ensures.handed_in

pub returns-clause-small : goal.returns-clause-small
returns-clause-small c =
    let image = c.args.image.now in
    let same = filled_is image c.in_ok-words.words.items c.in_ok-words.ensures.count c.in_ok-words.ensures.holds in
    subst (λ (ws : List ℕ). All (λ word. word < 2 ^ 32) ws) (c.deref.ensures.value ∙ same) c.are_words.ensures
