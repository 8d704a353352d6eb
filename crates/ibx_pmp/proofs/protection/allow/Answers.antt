use Rattle.std.proofs.Common.{◌≤◌, sym, ◌∙◌, arith, refl, rules}
use Rattle.ibx_pmp.specs.Ranges.{allowed}
use Rattle.ibx_pmp.proofs.Words.{decided, decided-from, decided-none, decided-nothing}
use Rattle.ibx_pmp.proofs.protection.allow.Goals as goal

pub returns-then-size-eq0 : goal.returns-then-size-eq0
unfolding allowed decided
returns-then-size-eq0 c = c.without_entry.ensures ∙ sym (rw c.if-size-eq0.true
    (decided-nothing c.args.r.now.sec 0 c.args.r.now.cfg c.args.r.now.addr c.args.addr c.args.kind c.args.machine))

pub loop-i-init : goal.loop-i-init
unfolding allowed decided
loop-i-init c = (search rules, refl)

pub returns-then-covers_word : goal.returns-then-covers_word
returns-then-covers_word c =
    let some : 1 ≤ c.args.size = omega arith in
    let from = decided-from c.args.r.now.sec c.loop-i.lower c.loop-i.i c.args.r.now.cfg c.args.r.now.addr c.args.addr c.args.size
    c.args.kind c.args.machine some c.requires (omega (arith, c.type_inv.r)) (omega (arith, c.type_inv.r)) in
    c.allows.ensures ∙ sym (c.loop-i.invariant.1 ∙ from
    ∙ rw (sym (sym c.if-covers_word.true ∙ c.covers_word.ensures)) refl)

pub loop-i-preserved : goal.loop-i-preserved
loop-i-preserved c =
    let some : 1 ≤ c.args.size = omega arith in
    let from = decided-from c.args.r.now.sec c.loop-i.lower c.loop-i.i c.args.r.now.cfg c.args.r.now.addr c.args.addr c.args.size
    c.args.kind c.args.machine some c.requires (omega (arith, c.type_inv.r)) (omega (arith, c.type_inv.r)) in (
      c.loop-i.invariant.0,
      c.loop-i.invariant.1 ∙ from
          ∙ rw (sym (sym c.if-covers_word.false ∙ c.covers_word.ensures)) refl,
    )

pub returns : goal.returns
returns c = c.without_entry-2.ensures ∙ sym (c.loop-i.invariant.1
    ∙ decided-none c.args.r.now.sec c.loop-i.lower c.loop-i.i c.args.r.now.cfg c.args.r.now.addr c.args.addr c.args.size c.args.kind
    c.args.machine (omega (arith, c.loop-i.invariant.0)))
