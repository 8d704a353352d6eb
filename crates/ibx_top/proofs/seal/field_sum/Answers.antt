use Rattle.std.proofs.Common.{◌≡◌, ℕ, ◌+◌, ◌%◌, ap, ap₂, sym, ◌∙◌, arith}
use Rattle.ibx_top.proofs.Seals.{sum_to, no_fields, field_more, all_fields}
use Rattle.ibx_top.proofs.seal.field_sum.Goals as goal

pub loop-field-init : goal.loop-field-init
loop-field-init c = record { so_far = no_fields c.args.core.now }

pub loop-field-preserved : goal.loop-field-preserved
loop-field-preserved c = record {
  so_far =
      ap₂ (λ (a b : ℕ). (a + b) % 18446744073709551616) c.loop-field.invariant.so_far c.get-sum.ensures.value
      ∙ field_more c.args.core.now c.loop-field.field c.loop-field-test.true;
}

pub returns : goal.returns
returns c =
    let all : c.loop-field.field ≡ 89 = omega (arith, c.loop-field-test.false, c.loop-field.auto.field-end) in
    c.loop-field.invariant.so_far ∙ ap (sum_to c.args.core.now) all ∙ all_fields c.args.core.now
