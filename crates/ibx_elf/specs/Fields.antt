-- Where the fields of an ELF32 file stand (System V gABI, "ELF Header" and "Program Header").
use Rattle.std.specs.Prelude.{ℕ, zero, suc, ◌+◌, ◌*◌, ◌<◌, ◌≤◌, Bool, ◌&&◌, ◌==◌, nat_lt, List, length, slice_index}
use Rattle.ibx_elf.specs.declared.fields.ProgramHeader.{ProgramHeader}

-- the number in so many bytes of a file from an offset on, the lowest byte first (gABI, "Data Encoding",
-- ELFDATA2LSB)
unfoldable pub field : List ℕ → ℕ → ℕ → ℕ
field file offset zero = 0
field file offset (suc count) = slice_index file offset + 256 * field file (suc offset) count

-- Elf32_Ehdr, the fields that are looked at
abbrev pub ei_class : List ℕ → ℕ
ei_class file = slice_index file 4

-- the order of bytes in the file, 1 (ELFDATA2LSB) for the lowest first
abbrev pub ei_data : List ℕ → ℕ
ei_data file = slice_index file 5

-- the version of the format as the identification gives it, 1 (EV_CURRENT)
abbrev pub ei_version : List ℕ → ℕ
ei_version file = slice_index file 6

-- the kind of object file, 2 (ET_EXEC) for an executable one
abbrev pub e_type : List ℕ → ℕ
e_type file = field file 16 2

-- the architecture that the file is for, 243 (EM_RISCV) for RISC-V
abbrev pub e_machine : List ℕ → ℕ
e_machine file = field file 18 2

-- the version of the format a second time, as a word
abbrev pub e_version : List ℕ → ℕ
e_version file = field file 20 4

-- the address at which the program begins
abbrev pub e_entry : List ℕ → ℕ
e_entry file = field file 24 4

-- the offset in the file of the first program header
abbrev pub e_phoff : List ℕ → ℕ
e_phoff file = field file 28 4

-- the bytes of one program header, 32 in an ELF32 file
abbrev pub e_phentsize : List ℕ → ℕ
e_phentsize file = field file 42 2

-- the number of program headers, or 0xffff (PN_XNUM) where the number stands elsewhere
abbrev pub e_phnum : List ℕ → ℕ
e_phnum file = field file 44 2

-- Elf32_Phdr of 32 bytes, the fields that are looked at, of the header that begins at an offset; between
-- them stand p_vaddr (at 8), p_flags (at 24) and p_align (at 28)
abbrev pub header_at : List ℕ → ℕ → ProgramHeader
header_at file offset = record {
  p_type = field file offset 4;
  p_offset = field file (offset + 4) 4;
  p_paddr = field file (offset + 12) 4;
  p_filesz = field file (offset + 16) 4;
  p_memsz = field file (offset + 20) 4;
}

-- program header i, counted from 0
unfoldable pub program_header : List ℕ → ℕ → ProgramHeader
program_header file i = header_at file (e_phoff file + 32 * i)

-- PT_LOAD, a loadable segment; headers of another type are skipped
abbrev pub is_load : ProgramHeader → Bool
is_load header = header.p_type == 1

-- a loadable segment with file bytes
abbrev pub has_file_bytes : ProgramHeader → Bool
has_file_bytes header = is_load header && nat_lt 0 header.p_filesz

-- the file header and all program headers lie within the file
pub record HasHeaders (file : List ℕ) : Type 0 where
  pub long : 52 ≤ length file
  pub within : 0 < e_phnum file → e_phoff file + 32 * e_phnum file ≤ length file
