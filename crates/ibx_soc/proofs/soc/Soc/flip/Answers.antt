use Rattle.std.proofs.Common.{ap, sym, ◌∙◌, length}
use Rattle.ibx_plan.specs.declared.site.Site.{Site}
use Rattle.ibx_plan.specs.Sites.{site_fits}
use Rattle.ibx_soc.proofs.Bits.{field_inside}
use Rattle.ibx_soc.proofs.Sites.{main_bit, shadow_bit}
use Rattle.ibx_soc.proofs.soc.Soc.flip.Goals as goal

pub flip_field-requires-clause-field : goal.flip_field-requires-clause-field
flip_field-requires-clause-field c =
    let n = length c.self.inside.memories.memory.words in
    let d = c.behind-delay.result in
    field_inside c.in-Main.field c.in-Main.bit
    (main_bit n d c.in-Main.field c.in-Main.bit (ap (λ (x : Site). site_fits n d x) (sym c.in-Main.is) ∙ sym
    c.has.ensures ∙ c.if-not-has.false))

pub flip_field-requires-in-Shadow-clause-field : goal.flip_field-requires-in-Shadow-clause-field
flip_field-requires-in-Shadow-clause-field c =
    let n = length c.self.inside.memories.memory.words in
    let d = c.behind-delay.result in
    field_inside c.in-Shadow.field c.in-Shadow.bit
    (shadow_bit n d c.in-Shadow.field c.in-Shadow.bit (ap (λ (x : Site). site_fits n d x) (sym c.in-Shadow.is) ∙ sym
    c.has.ensures ∙ c.if-not-has.false))
