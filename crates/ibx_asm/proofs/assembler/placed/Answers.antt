use Rattle.std.proofs.Common.{◌≡◌, ◌+◌, ◌++◌, List, ◌∙◌, length, map, sym, ap, arith}
use Rattle.std.specs.Str.Lines.{lines}
use Rattle.std.proofs.lemmas.List.{map-append}
use Rattle.ibx_asm.specs.Denote.{Placed, placed, size_of}
use Rattle.ibx_asm.specs.Held.{stands}
use Rattle.ibx_asm.specs.Text.{tokens}
use Rattle.ibx_asm.proofs.Denoting.{none_placed, one_placed}
use Rattle.ibx_asm.proofs.assembler.placed.Goals as goal

pub loop-rest-preserved : goal.loop-rest-preserved
loop-rest-preserved c =
    let size : c.from-address.result ≡ size_of (tokens c.without_comment-line.result.now) = c.from-address.ensures ∙
    c.size_of.ensures.value in
    record {
      few = omega (arith, c.loop-rest.invariant.few, c.first_line.ensures.shorter);
      low = omega (arith, c.loop-rest.invariant.low, c.from-address.ensures, c.size_of.ensures.short);
      all = omega (arith, c.loop-rest.invariant.all, c.in_ok-push.ensures.len);
      so_far = c.loop-rest.invariant.so_far
          ∙ one_placed (c.loop-rest.number + 1) c.loop-rest.address c.from-address.result c.loop-rest.rest.now
          c.first_line.result.0.now c.first_line.result.1.now c.without_comment-line.result.now
          (map stands c.loop-rest.all.items) c.first_line.ensures.value c.without_comment-line.ensures size
          ∙ ap (λ (all : List Placed). all ++ placed (c.loop-rest.number + 1 + 1)
          (c.loop-rest.address + c.from-address.result) (lines c.first_line.result.1.now))
          (sym (ap (map stands) c.in_ok-push.ensures.items ∙ map-append stands c.loop-rest.all.items _));
    }

pub returns-clause-value : goal.returns-clause-value
returns-clause-value c =
    let empty : length c.loop-rest.rest.now ≡ 0 = grind arith in
    sym (c.loop-rest.invariant.so_far ∙ none_placed (c.loop-rest.number + 1) c.loop-rest.address c.loop-rest.rest.now
    (map stands c.loop-rest.all.items) empty)
