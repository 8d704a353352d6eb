-- How an access of 1, 2 or 4 bytes meets the words of memory (Unprivileged ISA, 1.4 and 2.6): bytes are little-endian,
-- a word has four byte lanes, and an access that crosses a word has a second portion in the next one.
use Rattle.std.specs.Prelude.{ℕ, ◌+◌, ◌-◌, ◌*◌, ◌/◌, ◌%◌, ◌^◌, min, Bool, true, false, ◌&&◌, nat_lt, nat_le}
use Rattle.std.specs.Prelude.{if◌then◌else◌}
use Rattle.ibx_bits.specs.Bytes.{word_byte, bytes_number, bits_number, sign_extended}
use Rattle.ibx_isa.specs.declared.insn.LoadOp.{LoadOp}
use Rattle.ibx_isa.specs.declared.insn.LoadOp.TheVariants.{Lb, Lh, Lw, Lbu, Lhu}

-- the bytes that a load reads
abbrev pub size_of : LoadOp → ℕ
size_of Lb = 1
size_of Lh = 2
size_of Lw = 4
size_of Lbu = 1
size_of Lhu = 2

-- the register value of a load, from the number of its bytes
unfoldable pub loaded : LoadOp → ℕ → ℕ
loaded Lb n = sign_extended 8 n
loaded Lh n = sign_extended 16 n
loaded Lw n = n
loaded Lbu n = n
loaded Lhu n = n

-- an access has two portions exactly where it crosses a word
abbrev pub parts_of : ℕ → ℕ → ℕ
parts_of addr size = if nat_lt 4 (addr % 4 + size) then 2 else 1

-- the bytes of a portion: those in the first word, and the rest
abbrev pub portion_size : ℕ → ℕ → Bool → ℕ
portion_size addr size false = min size (4 - addr % 4)
portion_size addr size true = size - (4 - addr % 4)

-- the address of a portion; that of the second is the next word's
abbrev pub portion_addr : ℕ → Bool → ℕ
portion_addr addr false = addr
portion_addr addr true = (addr / 4 + 1) * 4 % 2 ^ 32

-- the place of a portion's lane in the pair of words
abbrev pub place_of : Bool → ℕ → ℕ
place_of false lane = lane
place_of true lane = lane + 4

-- whether a lane of a portion holds a byte of the access
abbrev pub is_held : ℕ → ℕ → Bool → ℕ → Bool
is_held addr size second lane =
    nat_le (addr % 4) (place_of second lane) && nat_lt (place_of second lane) (addr % 4 + size)

-- the byte in a lane of a portion; a lane that holds none is 0
abbrev pub lane_byte : ℕ → ℕ → ℕ → Bool → ℕ → ℕ
lane_byte addr size value second lane =
    if is_held addr size second lane then word_byte value (place_of second lane - addr % 4) else 0

-- the byte enables of a portion, and its lanes as a word
unfoldable pub lanes_of : ℕ → ℕ → ℕ → Bool → ℕ × ℕ
lanes_of addr size value second =
    (bits_number (is_held addr size second) 4, bytes_number (lane_byte addr size value second) 4)

-- byte k of two words that follow each other
abbrev pub pair_byte : ℕ → ℕ → ℕ → ℕ
pair_byte first second k = if nat_lt k 4 then word_byte first k else word_byte second (k - 4)

-- the register value of a load, from the words of its portions
unfoldable pub gather_of : LoadOp → ℕ → ℕ → ℕ → ℕ
gather_of op addr first second = loaded op (bytes_number (λ k. pair_byte first second (addr % 4 + k)) (size_of op))
