use Rattle.std.proofs.Common.{ap, sym, ◌∙◌, length}
use Rattle.ibx_plan.specs.declared.site.Site.{Site}
use Rattle.ibx_plan.specs.Sites.{site_fits}
use Rattle.ibx_soc.proofs.Sites.{pending_fits}
use Rattle.ibx_soc.proofs.memories.Memories.flip.Goals as goal

pub returns-in-Output-clause-sizes : goal.returns-in-Output-clause-sizes
returns-in-Output-clause-sizes c =
    let n = length c.args.self.now.memory.words in
    let d = c.requires.fits.0 in
    record {
      tags = c.requires.sizes.tags;
      lines = c.requires.sizes.lines;
      words = c.requires.sizes.words;
      pending = pending_fits n d c.in-Output.wire c.in-Output.bit
          (ap (λ (x : Site). site_fits n d x) (sym c.in-Output.is) ∙ c.requires.fits.1);
      mul = c.requires.sizes.mul;
    }
