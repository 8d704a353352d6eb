use Rattle.std.proofs.Common.{◌≡◌, ◌+◌, arith, sym, ap, ◌∙◌}
use Rattle.ibx_elf.specs.Image.{image_byte, image_of, placed_byte}
use Rattle.ibx_bits.proofs.Bytes.{four_bytes}
use Rattle.ibx_elf.proofs.Laws.{byte_of-image_of, readable}
use Rattle.ibx_elf.proofs.image.Image.word.Goals as goal

pub byte_at-requires : goal.byte_at-requires
byte_at-requires c = readable c.self.inside.file.now c.self.inside.ram c.self.invariant.1

pub byte_at-requires-2 : goal.byte_at-requires-2
byte_at-requires-2 c = readable c.self.inside.file.now c.self.inside.ram c.self.invariant.1

pub byte_at-requires-3 : goal.byte_at-requires-3
byte_at-requires-3 c = readable c.self.inside.file.now c.self.inside.ram c.self.invariant.1

pub byte_at-requires-4 : goal.byte_at-requires-4
byte_at-requires-4 c = readable c.self.inside.file.now c.self.inside.ram c.self.invariant.1

pub returns-clause-value : goal.returns-clause-value
returns-clause-value c =
    let file = c.self.inside.file.now in
    let ram = c.self.inside.ram in
    let read = readable file ram c.self.invariant.1 in
    let at_0 = byte_of-image_of file ram c.args.addr read in
    let at_1 = byte_of-image_of file ram (c.args.addr + 1) read in
    let at_2 = byte_of-image_of file ram (c.args.addr + 2) read in
    let at_3 = byte_of-image_of file ram (c.args.addr + 3) read in
    rw (← c.self.view_is, at_0, at_1, at_2, at_3) (omega arith)

pub returns-clause-bytes : goal.returns-clause-bytes
returns-clause-bytes c =
    let file = c.self.inside.file.now in
    let ram = c.self.inside.ram in
    let read = readable file ram c.self.invariant.1 in
    let at_0 = byte_of-image_of file ram (c.args.addr + 0) read in
    let at_1 = byte_of-image_of file ram (c.args.addr + 1) read in
    let at_2 = byte_of-image_of file ram (c.args.addr + 2) read in
    let at_3 = byte_of-image_of file ram (c.args.addr + 3) read in
    let start : placed_byte file (c.args.addr + 0) ≡ placed_byte file c.args.addr =
    ap (placed_byte file) (omega arith) in
    rw (← c.self.view_is)
    (four_bytes (λ k. image_byte (image_of file ram) (c.args.addr + k)) c.byte_at.result c.byte_at-2.result
    c.byte_at-3.result c.byte_at-4.result c.from_le_bytes.result
    (c.byte_at.ensures ∙ sym start ∙ sym at_0) (c.byte_at-2.ensures ∙ sym at_1) (c.byte_at-3.ensures ∙ sym at_2)
    (c.byte_at-4.ensures ∙ sym at_3)
    c.byte_at.type_inv c.byte_at-2.type_inv c.byte_at-3.type_inv c.byte_at-4.type_inv c.from_le_bytes.ensures)
