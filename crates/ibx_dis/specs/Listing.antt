-- The text of a file's code: our own format.
use Rattle.std.specs.Prelude.{ℕ, zero, suc, ◌-◌, not, ◌&&◌, nat_lt, nat_le, List, [], ◌∷◌, ◌++◌, length, flat_map}
use Rattle.std.specs.Prelude.{codes, slice_index, if◌then◌else◌}
use Rattle.std.specs.Int.{from_le_bytes, w16, w32}
use Rattle.ibx_isa.specs.Lengths.{is_long}
use Rattle.ibx_elf.specs.Image.{LoadedBytes, Placed}
use Rattle.ibx_text.specs.Digits.{hex_digits}
use Rattle.ibx_asm.specs.Dis.{dis_of}

-- the first halfword and the first word of some code, the lowest byte first
abbrev pub first_half : List ℕ → ℕ
first_half code = from_le_bytes w16 code

-- the first four bytes as a word, which a 32-bit instruction takes
abbrev pub first_word : List ℕ → ℕ
first_word code = from_le_bytes w32 code

-- how many bytes the first instruction has: 4 where its halfword asks for a word that is there, else 2 where they are
-- there
unfoldable pub first_size : List ℕ → ℕ
first_size code = if nat_lt (length code) 2
    then 1
    else if is_long (first_half code) && nat_le 4 (length code) then 4 else 2

-- its text: a halfword that asks for a word which isn't there, and a last byte, are data
unfoldable pub first_text : List ℕ → List ℕ
first_text code = if nat_lt (length code) 2
    then codes ".byte 0x" ++ hex_digits 2 (slice_index code 0)
    else if not (is_long (first_half code)) then dis_of (first_half code)
    else if nat_lt (length code) 4 then codes ".half 0x" ++ hex_digits 4 (first_half code) else dis_of (first_word code)

-- the lines of some code after so many of its bytes: each instruction begins where the one before it ends
unfoldable pub lines_after : ℕ → List ℕ → List ℕ
lines_after skipped [] = []
lines_after (suc skipped) (byte ∷ code) = lines_after skipped code
lines_after zero (byte ∷ code) =
    first_text (byte ∷ code) ++ codes "\n" ++ lines_after (first_size (byte ∷ code) - 1) code

-- a line for each instruction of some code
abbrev pub lines_of : List ℕ → List ℕ
lines_of code = lines_after 0 code

-- the line of a segment's address, and the lines of its code
abbrev pub segment_text : LoadedBytes → List ℕ
segment_text segment = codes "# 0x" ++ hex_digits 8 segment.addr ++ codes "\n" ++ lines_of segment.bytes

-- the text of an image: its segments in their order
unfoldable pub listing_of : Placed → List ℕ
listing_of image = flat_map segment_text image.segments
