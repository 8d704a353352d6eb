use Rattle.std.proofs.Common.{length, arith}
use Rattle.ibx_elf.specs.Image.{image_of}
use Rattle.ibx_elf.proofs.Laws.{readable}
use Rattle.ibx_elf.proofs.Puts.{filled-start, holds_bytes, holds_words}
use Rattle.ibx_elf.proofs.filling.fill_words.Goals as goal

pub header_count-i-end-requires : goal.header_count-i-end-requires
header_count-i-end-requires c = (readable c.args.file.now c.args.ram c.requires.well_formed).headers.long

pub loop-i-init : goal.loop-i-init
loop-i-init c =
    filled-start c.args.file.now c.args.ram.base c.fill.new.self (length c.args.words.now)
    (c.fill.ensures.after (λ y e. e))

pub returns-clause-words : goal.returns-clause-words
returns-clause-words c =
    holds_words (image_of c.args.file.now c.args.ram) c.loop-i.words c.loop-i.invariant.small
    (holds_bytes c.args.file.now c.args.ram c.loop-i.words c.requires.well_formed c.loop-i.i (omega arith)
    c.loop-i.invariant)

pub returns-clause-bytes : goal.returns-clause-bytes
returns-clause-bytes c =
    holds_bytes c.args.file.now c.args.ram c.loop-i.words c.requires.well_formed c.loop-i.i (omega arith)
    c.loop-i.invariant
