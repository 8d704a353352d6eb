use Rattle.ibx_text.proofs.Written.{eight}
use Rattle.ibx_text.proofs.digits.put_word.Goals as goal

pub returns : goal.returns
returns c =
    rw (
      c.put_pair-4.ensures,
      c.hex_pair-4.ensures,
      c.put_pair-3.ensures,
      c.hex_pair-3.ensures,
      c.put_pair-2.ensures,
      c.hex_pair-2.ensures,
      c.put_pair.ensures,
      c.hex_pair.ensures,
    )
    (eight c.args.word _)
