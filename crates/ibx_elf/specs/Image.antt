-- The memory that a well-formed file describes.
use Rattle.std.specs.Prelude.{◌≡◌, ℕ, zero, suc, ◌+◌, ◌*◌, ◌-◌, ◌/◌, ◌%◌, ◌^◌, ◌<◌, Bool, true, false, ◌&&◌, nat_lt}
use Rattle.std.specs.Prelude.{nat_le, List, [], ◌∷◌, ◌++◌, length, take, drop, map, slice_index, if◌then◌else◌, Option}
use Rattle.std.specs.Prelude.{None, unwrap_or}
use Rattle.ibx_elf.specs.declared.fields.ProgramHeader.{ProgramHeader}
use Rattle.ibx_elf.specs.declared.ram.Ram.{Ram}
use Rattle.ibx_elf.specs.Faults.{segment_fault}
use Rattle.ibx_elf.specs.Fields.{HasHeaders, e_entry, e_phnum, program_header, is_load}
use Rattle.ibx_elf.specs.Search.{first_below, first_of, only_if}

-- bytes that are loaded at an address and the ones after it
pub record LoadedBytes : Type 0 where
  pub addr : ℕ
  pub bytes : List ℕ

-- an image: where RAM lies, the address of the first instruction, and what is loaded
pub record Placed : Type 0 where
  pub ram : Ram
  pub entry : ℕ
  pub segments : List LoadedBytes

-- the byte that a segment has for an address
abbrev pub loaded_byte : ℕ → LoadedBytes → Option ℕ
loaded_byte addr segment =
    only_if (nat_le segment.addr addr && nat_lt addr (segment.addr + length segment.bytes))
    (slice_index segment.bytes (addr - segment.addr))

-- the byte at an address: that of a segment which has one for it, and 0 where none has
unfoldable pub image_byte : Placed → ℕ → ℕ
image_byte image addr = unwrap_or (first_of (map (loaded_byte addr) image.segments)) 0

-- the four bytes from an address on as a number, the lowest byte first
abbrev pub image_word : Placed → ℕ → ℕ
image_word image addr =
    image_byte image addr + 256 * image_byte image (addr + 1) + 256 ^ 2 * image_byte image (addr + 2)
    + 256 ^ 3 * image_byte image (addr + 3)

-- the words of RAM, the lowest first: word i has the four bytes from base + 4 i on
abbrev pub HoldsWords : Placed → List ℕ → Type 0
HoldsWords image words = (i : ℕ) → i < length words → slice_index words i ≡ image_word image (image.ram.base + 4 * i)

-- the same byte by byte: byte k of word i is that at base + 4 i + k
abbrev pub HoldsBytes : Placed → List ℕ → Type 0
HoldsBytes image words =
    (i : ℕ) → i < length words → (k : ℕ) → k < 4
    → slice_index words i / 256 ^ k % 256 ≡ image_byte image (image.ram.base + 4 * i + k)

-- what a header loads: its p_filesz file bytes from p_offset on, at p_paddr (gABI, "Program Header")
abbrev pub segment_of : List ℕ → ProgramHeader → List LoadedBytes
segment_of file header =
    if is_load header
    then record { addr = header.p_paddr; bytes = take header.p_filesz (drop header.p_offset file) } ∷ []
    else []

-- what the headers below n load, in their order
unfoldable pub segments_below : List ℕ → ℕ → List LoadedBytes
segments_below file zero = []
segments_below file (suc n) = segments_below file n ++ segment_of file (program_header file n)

-- the image of a file
abbrev pub image_of : List ℕ → Ram → Placed
image_of file ram = record { ram = ram; entry = e_entry file; segments = segments_below file (e_phnum file) }

-- a segment with a file byte for an address (gABI, "Program Header": p_offset, p_paddr, p_filesz)
abbrev pub places : ProgramHeader → ℕ → Bool
places header addr =
    is_load header && nat_le header.p_paddr addr && nat_lt addr (header.p_paddr + header.p_filesz)

-- the file byte that header i places at an address
unfoldable pub placed_by : List ℕ → ℕ → ℕ → Option ℕ
placed_by file addr i =
    let header = program_header file i in
    only_if (places header addr) (slice_index file (header.p_offset + (addr - header.p_paddr)))

-- the file byte that the headers place at an address, and 0 where none does
unfoldable pub placed_byte : List ℕ → ℕ → ℕ
placed_byte file addr = unwrap_or (first_below (placed_by file addr) (e_phnum file)) 0

-- file byte p_offset + k stands at p_paddr + k, for each segment and each k below its p_filesz
abbrev pub HoldsSegments : List ℕ → Placed → Type 0
HoldsSegments file image =
    (i k : ℕ) → i < e_phnum file → is_load (program_header file i) ≡ true → k < (program_header file i).p_filesz
    → image_byte image ((program_header file i).p_paddr + k) ≡ slice_index file ((program_header file i).p_offset + k)

-- where no segment places a file byte there is 0
abbrev pub IsZeroElsewhere : List ℕ → Placed → Type 0
IsZeroElsewhere file image =
    (addr : ℕ) → ((i : ℕ) → i < e_phnum file → places (program_header file i) addr ≡ false) → image_byte image addr ≡ 0

-- the headers lie within the file, and the file bytes of each segment too
pub record IsReadable (file : List ℕ) : Type 0 where
  pub headers : HasHeaders file
  pub segments : first_below (segment_fault file) (e_phnum file) ≡ None
