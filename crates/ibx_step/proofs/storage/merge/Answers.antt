use Rattle.std.proofs.Common.{refl}
use Rattle.ibx_memory.specs.Words.{merged_byte}
use Rattle.ibx_memory.proofs.Lanes.{four_bytes}
use Rattle.ibx_step.proofs.storage.merge.Goals as goal

pub returns : goal.returns
returns c =
    four_bytes (merged_byte c.args.word c.args.enables c.args.bits) c.merged_lane-a.result c.merged_lane-b.result
    c.merged_lane-c.result c.merged_lane-d.result _
    c.merged_lane-a.ensures.value c.merged_lane-b.ensures.value c.merged_lane-c.ensures.value
    c.merged_lane-d.ensures.value
    c.merged_lane-a.ensures.small c.merged_lane-b.ensures.small c.merged_lane-c.ensures.small
    c.merged_lane-d.ensures.small refl
