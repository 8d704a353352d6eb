use Rattle.std.proofs.lemmas.Nat.{pow_pos}
use Rattle.ibx_ram.proofs.Planes.{planes-replicate, words_of-new}
use Rattle.ibx_ram.proofs.coded.CodedRam.new.Goals as goal

pub invariant_of-result : goal.invariant_of-result
invariant_of-result g c =
    rw (
      c.in_ok-payloads.ensures.items_if_clones_equal (λ y e. e),
      c.in_ok-checks.ensures.items_if_clones_equal
          (λ y e. e),
    )
    (planes-replicate g.row.K g.row.R c.args.words 0 c.check.result c.requires.code c.requires.payload
    (pow_pos g.row.K) c.check.ensures.fits)

pub returns : goal.returns
returns g c =
    rw (
      c.in_ok-payloads.ensures.items_if_clones_equal (λ y e. e),
      c.in_ok-checks.ensures.items_if_clones_equal
          (λ y e. e),
    )
    (words_of-new g.row.K g.row.R c.args.words c.check.result c.encode-zero.result c.check.ensures.value
    c.encode-zero.ensures.value c.encode-zero.ensures.payload)
