-- An executable file around code: its one segment is the code, and the run begins at the code's first byte (System V
-- gABI, "ELF Header" and "Program Header"). Which values the fields have is our own rule.
use Rattle.std.specs.Prelude.{ℕ, ◌+◌, ◌≤◌, ◌<◌, List, [], ◌∷◌, ◌++◌, length}
use Rattle.std.specs.Int.{to_le_bytes, w16, w32}
use Rattle.ibx_elf.specs.declared.ram.Ram.{Ram}
use Rattle.ibx_elf.specs.Faults.{IsWellFormed}
use Rattle.ibx_elf.specs.Image.{Placed}

-- the byte address of the code's first byte
abbrev pub code_address : ℕ
code_address = 0x00100080

-- the bytes of a field of 16 and of 32 bits, the lowest first
abbrev pub half : ℕ → List ℕ
half n = to_le_bytes w16 n

-- a field of 32 bits, such as an address, an offset or a size (Elf32_Addr, Elf32_Off, Elf32_Word)
abbrev pub word : ℕ → List ℕ
word n = to_le_bytes w32 n

-- the magic bytes, then 32-bit objects, the lowest byte first and version 1, and no more
abbrev pub e_ident : List ℕ
e_ident = 0x7f ∷ 69 ∷ 76 ∷ 70 ∷ 1 ∷ 1 ∷ 1 ∷ 0 ∷ 0 ∷ 0 ∷ 0 ∷ 0 ∷ 0 ∷ 0 ∷ 0 ∷ 0 ∷ []

-- Elf32_Ehdr, of 52 bytes: an executable for RISC-V with one program header right after it, and no sections
abbrev pub file_header : List ℕ
file_header =
    e_ident
    ++ half 2  -- e_type
    ++ half 243  -- e_machine
    ++ word 1  -- e_version
    ++ word code_address  -- e_entry
    ++ word 52  -- e_phoff
    ++ word 0  -- e_shoff
    ++ word 0  -- e_flags
    ++ half 52  -- e_ehsize
    ++ half 32  -- e_phentsize
    ++ half 1  -- e_phnum
    ++ half 0  -- e_shentsize
    ++ half 0  -- e_shnum
    ++ half 0  -- e_shstrndx

-- Elf32_Phdr, of 32 bytes, by the count of the code's bytes: a loadable segment of what follows, that may be read,
-- written and executed
abbrev pub program_header : ℕ → List ℕ
program_header count =
    word 1  -- p_type
    ++ word 84  -- p_offset
    ++ word code_address  -- p_vaddr
    ++ word code_address  -- p_paddr
    ++ word count  -- p_filesz
    ++ word count  -- p_memsz
    ++ word 7  -- p_flags
    ++ word 4  -- p_align

-- the file around code
unfoldable pub wrapped : List ℕ → List ℕ
wrapped code = file_header ++ program_header (length code) ++ code

-- memory that so many bytes of code fit into where they are loaded
pub record TakesCode (ram : Ram) (count : ℕ) : Type 0 where
  pub from_base : ram.base ≤ code_address
  pub entry : code_address < ram.base + ram.size
  pub before_end : code_address + count ≤ ram.base + ram.size

-- a file without a fault for every memory that takes so many bytes of code
abbrev pub IsFirmware : List ℕ → ℕ → Type 0
IsFirmware file count = (ram : Ram) → TakesCode ram count → IsWellFormed file ram

-- the image of code: the code at its address, where the run begins, and nothing else
abbrev pub image_of_code : List ℕ → Ram → Placed
image_of_code code ram =
    record { ram = ram; entry = code_address; segments = record { addr = code_address; bytes = code } ∷ [] }
