use Rattle.std.proofs.Common.{ℕ, List, ◌+◌, ◌*◌, ◌^◌, ◌∙◌, ap}
use Rattle.std.specs.Prelude.{slice_set}
use Rattle.ibx_ram.proofs.Planes.{words_of-set}
use Rattle.ibx_ram.proofs.coded.CodedRam.set.Goals as goal

pub returns : goal.returns
returns g c =
    words_of-set g.row.K c.self.inside.payloads.items c.self.inside.checks.items c.args.i c.args.payload c.args.check
    c.self.invariant.count
    ∙ ap (λ (ws : List ℕ). slice_set ws c.args.i (c.args.check * 2 ^ g.row.K + c.args.payload)) c.self.view_is
