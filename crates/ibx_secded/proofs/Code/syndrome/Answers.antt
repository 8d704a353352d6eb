use Rattle.std.proofs.Common.{◌<◌, ◌^◌, ◌/◌, add_comm, ◌∙◌, ap}
use Rattle.std.specs.Int.Bits.{xor_lt}
use Rattle.std.proofs.lemmas.Nat.{shr_below}
use Rattle.ibx_secded.specs.Code.{syndrome_of, payload_of}
use Rattle.ibx_secded.proofs.Laws.{told, encode_of-payload, syndrome_of-encode, codeword, syndrome_of-codeword}
use Rattle.ibx_secded.proofs.Laws.{payload_flip, check_flip, one_flip, two_flips}
use Rattle.ibx_secded.proofs.Code.syndrome.Goals as goal

value-is : goal.returns-clause-value
value-is g c = told g.row.K g.row.R c.args.word c.check.result c.constant.result c.payload.result
    c.payload.ensures.value c.check.ensures.value c.constant.ensures.value

pub returns-clause-value : goal.returns-clause-value
returns-clause-value g c = value-is g c

pub returns-clause-fits : goal.returns-clause-fits
returns-clause-fits g c =
    let above : c.args.word / 2 ^ g.row.K < 2 ^ g.row.R = shr_below c.args.word g.row.R g.row.K
    (rw add_comm c.requires.fits) in
    xor_lt g.row.R _ c.check.result (xor_lt g.row.R (c.args.word / 2 ^ g.row.K) c.constant.result above
    c.constant.ensures.fits) c.check.ensures.fits

pub returns-clause-encoded : goal.returns-clause-encoded
returns-clause-encoded g c =
    rw (value-is g c) (
      λ e. encode_of-payload g.row.K g.row.R c.args.word e,
      λ e. ap (syndrome_of g.row.K g.row.R) e ∙ syndrome_of-encode g.row.K g.row.R (payload_of g.row.K c.args.word)
          (rw (← c.payload.ensures.value) c.payload.ensures.fits),
    )

pub returns-clause-one_flip : goal.returns-clause-one_flip
returns-clause-one_flip g c = λ b lt e. one_flip g.row.K g.row.R c.requires.code c.args.word b lt (e ∙ value-is g c)

pub returns-clause-two_flips : goal.returns-clause-two_flips
returns-clause-two_flips g c = λ a b la lb ne e. two_flips g.row.K g.row.R c.requires.code c.args.word a b la lb ne
    (e ∙ value-is g c)

pub returns-clause-codeword : goal.returns-clause-codeword
returns-clause-codeword g c = rw (value-is g c) (
  codeword g.row.K g.row.R c.args.word,
  syndrome_of-codeword g.row.K
      g.row.R c.args.word,
)

pub returns-clause-payload_flip : goal.returns-clause-payload_flip
returns-clause-payload_flip g c = λ b lt. rw (value-is g c) (payload_flip g.row.K g.row.R c.args.word b lt)

pub returns-clause-check_flip : goal.returns-clause-check_flip
returns-clause-check_flip g c = λ b lt. rw (value-is g c) (check_flip g.row.K g.row.R c.args.word b)
