use Rattle.std.proofs.Common.{◌+◌, Some, None, subst, sym, arith}
use Rattle.ibx_compare.specs.declared.flipped.Verdict.{Verdict}
use Rattle.ibx_compare.specs.Verdicts.{IsNoticed}
use Rattle.ibx_compare.proofs.Noticed.{is_noticed}
use Rattle.ibx_compare.proofs.Turns.{cycle_is, run_ends, run_on, run_start, still_fits}
use Rattle.ibx_compare.proofs.flipped.inject.Goals as goal

pub loop-at-init : goal.loop-at-init
loop-at-init c = run_start c.args.clean.now c.args.faulty.now c.args.flip.now c.args.cycles c.requires.alike

pub step-shown-requires : goal.step-shown-requires
step-shown-requires c =
    let cycle = cycle_is c.args.clean.now c.loop-at.clean None c.loop-at.at c.requires.as_new c.loop-at.invariant.clean
    in
    omega (arith, cycle)

pub turn-flipped-requires-clause-cycle : goal.turn-flipped-requires-clause-cycle
turn-flipped-requires-clause-cycle c =
    let cycle = cycle_is c.args.clean.now c.loop-at.faulty (Some c.args.flip.now) c.loop-at.at c.requires.as_new
    c.loop-at.invariant.faulty in
    omega (arith, cycle)

pub turn-flipped-requires-clause-fits : goal.turn-flipped-requires-clause-fits
turn-flipped-requires-clause-fits c =
    still_fits c.args.clean.now c.loop-at.faulty (Some c.args.flip.now) c.loop-at.at c.args.flip.now.site
    c.loop-at.invariant.faulty c.requires.fits

pub loop-at-preserved : goal.loop-at-preserved
loop-at-preserved c =
    run_on c.args.clean.now c.args.flip.now c.args.cycles c.loop-at.at c.loop-at.clean c.loop-at.faulty
    c.step-shown.new.self c.turn-flipped.new.soc
    c.loop-at.verdict c.note.new.self c.step-shown.result c.turn-flipped.result c.loop-at.invariant
    c.step-shown.ensures.shown c.step-shown.ensures.next c.turn-flipped.ensures.shown c.turn-flipped.ensures.next
    c.note.ensures.diff c.note.ensures.alert

pub returns-clause-verdict : goal.returns-clause-verdict
returns-clause-verdict c =
    run_ends c.args.clean.now c.args.flip.now c.args.cycles c.loop-at.at c.loop-at.clean c.loop-at.faulty
    c.loop-at.verdict (omega arith) c.loop-at.invariant

pub returns-clause-noticed : goal.returns-clause-noticed
returns-clause-noticed c =
    let verdict_is = run_ends c.args.clean.now c.args.flip.now c.args.cycles c.loop-at.at c.loop-at.clean
    c.loop-at.faulty c.loop-at.verdict (omega arith) c.loop-at.invariant in
    subst (λ (v : Verdict). IsNoticed (c.args.clean.now.delay + 1) v) (sym verdict_is)
    (is_noticed c.args.clean.now c.args.flip.now c.args.cycles c.requires.as_new c.requires.fits)
