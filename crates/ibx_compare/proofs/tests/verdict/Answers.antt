use Rattle.std.proofs.Common.{◌≡◌, ℕ, ◌*◌, true, length, subst, arith, rules, tests}
use Rattle.ibx_plan.specs.Sites.{site_fits}
use Rattle.ibx_compare.proofs.tests.verdict.Goals as goal

pub inject-requires-clause-fits : goal.inject-requires-clause-fits
inject-requires-clause-fits g c =
    let size : 4 * length c.expect-clean.result.place.memory.words ≡ 4096 = search (rules, tests) in
    let count : 1024 ≡ length c.expect-clean.result.place.memory.words = omega (arith, size) in
    let delay = c.expect-clean.result.delay in
    let fits : site_fits 1024 delay c.args.flip.now.site ≡ true = search (rules, tests) in
    subst (λ (n : ℕ). site_fits n delay c.args.flip.now.site ≡ true) count fits
