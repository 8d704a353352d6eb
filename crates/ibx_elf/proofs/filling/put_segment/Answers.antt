use Rattle.std.proofs.Common.{◌≡◌, ◌∙◌, sym, true, arith}
use Rattle.ibx_elf.specs.Fields.{has_file_bytes}
use Rattle.ibx_elf.proofs.Laws.{readable}
use Rattle.ibx_elf.proofs.Puts.{filled-next, filled-skip, lies_in, put_part, segment_bytes}
use Rattle.ibx_elf.proofs.filling.put_segment.Goals as goal

pub read-header-requires-clause-long : goal.read-header-requires-clause-long
read-header-requires-clause-long c = (readable c.args.file.now c.args.ram c.requires.well_formed).headers.long

pub read-header-requires-clause-within : goal.read-header-requires-clause-within
read-header-requires-clause-within c =
    let headers = (readable c.args.file.now c.args.ram c.requires.well_formed).headers in
    omega (arith, headers.within)

pub slice_bounds-bytes-end : goal.slice_bounds-bytes-end
slice_bounds-bytes-end c =
    let some : has_file_bytes c.read-header.result ≡ true = sym c.has_file_bytes.ensures ∙ c.if-has_file_bytes.true in
    let lies = lies_in c.args.file.now c.args.ram c.args.i c.read-header.result c.requires.well_formed c.requires.index
    c.read-header.ensures some in
    omega (arith, lies.file_end)

pub overflow_sub-header : goal.overflow_sub-header
overflow_sub-header c =
    let some : has_file_bytes c.read-header.result ≡ true = sym c.has_file_bytes.ensures ∙ c.if-has_file_bytes.true in
    (lies_in c.args.file.now c.args.ram c.args.i c.read-header.result c.requires.well_formed c.requires.index
    c.read-header.ensures some).from_base

pub put_bytes-requires : goal.put_bytes-requires
put_bytes-requires c =
    let some : has_file_bytes c.read-header.result ≡ true = sym c.has_file_bytes.ensures ∙ c.if-has_file_bytes.true in
    let lies = lies_in c.args.file.now c.args.ram c.args.i c.read-header.result c.requires.well_formed c.requires.index
    c.read-header.ensures some in
    omega (arith, segment_bytes c.args.file.now c.args.ram c.read-header.result lies)

pub returns-then-has_file_bytes : goal.returns-then-has_file_bytes
returns-then-has_file_bytes c =
    let header = c.read-header.result in
    let some : has_file_bytes c.read-header.result ≡ true = sym c.has_file_bytes.ensures ∙ c.if-has_file_bytes.true in
    let lies = lies_in c.args.file.now c.args.ram c.args.i header c.requires.well_formed c.requires.index
    c.read-header.ensures some in
    filled-next c.args.file.now c.args.ram c.args.words.now c.put_bytes.new.words c.args.i header
    c.requires.well_formed c.requires.index
    c.read-header.ensures some (omega arith)
    (put_part c.args.words.now _ header.p_offset header.p_filesz c.args.file.now c.put_bytes.new.words
    (segment_bytes c.args.file.now c.args.ram header lies) c.put_bytes.ensures.bytes)
    c.put_bytes.ensures.small

pub returns-else-has_file_bytes : goal.returns-else-has_file_bytes
returns-else-has_file_bytes c =
    filled-skip c.args.file.now c.args.ram.base c.args.words.now c.args.i c.read-header.result c.read-header.ensures
    (sym c.has_file_bytes.ensures ∙ c.if-has_file_bytes.false)
