-- When a file is refused, and why.
use Rattle.std.specs.Prelude.{◌≡◌, ℕ, ◌+◌, ◌*◌, ◌%◌, Bool, true, not, ◌&&◌, ◌||◌, ◌==◌, nat_eq, nat_le, nat_lt, ◌<◌}
use Rattle.std.specs.Prelude.{if◌then◌else◌, List, [], ◌∷◌, length, max, min, Option, None, Some, Result, MatchResult}
use Rattle.std.specs.List.{starts_with}
use Rattle.ibx_elf.specs.declared.fault.ElfFault.{ElfFault}
use Rattle.ibx_elf.specs.declared.fault.ElfFault.TheVariants.{Short, Magic, Class, Order, Version, Kind, Machine}
use Rattle.ibx_elf.specs.declared.fault.ElfFault.TheVariants.{Headers, TooMany, Segment, OutsideRam, Overlap, Entry}
use Rattle.ibx_elf.specs.declared.fields.ProgramHeader.{ProgramHeader}
use Rattle.ibx_elf.specs.declared.ram.Ram.{Ram}
use Rattle.ibx_elf.specs.Fields.{ei_class, ei_data, ei_version, e_type, e_machine, e_version, e_entry, e_phoff}
use Rattle.ibx_elf.specs.Fields.{e_phentsize, e_phnum, program_header, has_file_bytes, is_load}
use Rattle.ibx_elf.specs.Ram.{ram_has, ram_has_all}
use Rattle.ibx_elf.specs.Search.{first_below, first_of, only_if}

-- Each test names the fields of the gABI; which values are asked for is our own rule.

-- fewer bytes than a file header
abbrev pub is_short : List ℕ → Bool
is_short file = nat_lt (length file) 52

-- the first four bytes aren't 7f 'E' 'L' 'F'
abbrev pub lacks_magic : List ℕ → Bool
lacks_magic file = not (starts_with nat_eq file (0x7f ∷ 69 ∷ 76 ∷ 70 ∷ []))

-- not a file of 32-bit objects
abbrev pub has_other_class : List ℕ → Bool
has_other_class file = not (ei_class file == 1)

-- not the lowest byte first
abbrev pub has_other_order : List ℕ → Bool
has_other_order file = not (ei_data file == 1)

-- not the one version, in either of its places
abbrev pub has_other_version : List ℕ → Bool
has_other_version file = not (ei_version file == 1 && e_version file == 1)

-- not an executable file
abbrev pub has_other_kind : List ℕ → Bool
has_other_kind file = not (e_type file == 2)

-- not for RISC-V
abbrev pub has_other_machine : List ℕ → Bool
has_other_machine file = not (e_machine file == 243)

-- there are headers, and they have another size or don't end within the file
abbrev pub lacks_headers : List ℕ → Bool
lacks_headers file =
    not (e_phnum file == 0 || e_phnum file == 0xffff)
    && (not (e_phentsize file == 32) || nat_lt (length file) (e_phoff file + 32 * e_phnum file))

-- the number of headers stands elsewhere
abbrev pub has_too_many : List ℕ → Bool
has_too_many file = e_phnum file == 0xffff

-- a segment with more file bytes than bytes of memory, or with file bytes past the file's end
abbrev pub overruns : ℕ → ProgramHeader → Bool
overruns file_bytes header =
    is_load header
    && (nat_lt header.p_memsz header.p_filesz
    || nat_lt 0 header.p_filesz && nat_lt file_bytes (header.p_offset + header.p_filesz))

-- a segment with bytes of memory that aren't all in RAM
abbrev pub leaves : Ram → ProgramHeader → Bool
leaves ram header =
    is_load header && nat_lt 0 header.p_memsz && not (ram_has_all ram header.p_paddr header.p_memsz)

-- two segments whose file bytes share an address: the later start lies before the earlier end
abbrev pub shares_address : ProgramHeader → ProgramHeader → Bool
shares_address a b =
    is_load a && is_load b
    && nat_lt (max a.p_paddr b.p_paddr) (min (a.p_paddr + a.p_filesz) (b.p_paddr + b.p_filesz))

-- one segment's file bytes all lie before another's, where both have some
abbrev pub precedes : ProgramHeader → ProgramHeader → Bool
precedes a b = not (has_file_bytes a && has_file_bytes b) || nat_le (a.p_paddr + a.p_filesz) b.p_paddr

-- the file bytes of each segment lie after those of the segments before it
abbrev pub AreAscending : List ℕ → Type 0
AreAscending file =
    (i j : ℕ) → i < j → j < e_phnum file → precedes (program_header file i) (program_header file j) ≡ true

-- where the file bytes of a header and of those before it end, if the ones before it end at `end`; none where its
-- own begin before that
abbrev pub end_after : ProgramHeader → ℕ → Option ℕ
end_after header end =
    if has_file_bytes header then only_if (nat_le end header.p_paddr) (header.p_paddr + header.p_filesz) else Some end

-- odd, or not in RAM
abbrev pub is_bad_entry : Ram → ℕ → Bool
is_bad_entry ram entry = entry % 2 == 1 || not (ram_has ram entry)

-- the fault of one header, or of a pair of headers
unfoldable pub segment_fault : List ℕ → ℕ → Option ElfFault
segment_fault file i = only_if (overruns (length file) (program_header file i)) (Segment i)

-- a segment with memory outside of RAM, and a pair of segments that share an address: the header of the lower number
-- is named first
unfoldable pub outside_fault : List ℕ → Ram → ℕ → Option ElfFault
outside_fault file ram i = only_if (leaves ram (program_header file i)) (OutsideRam i)

-- file bytes of two segments at one address; a pair has its fault only with the lower number first
unfoldable pub overlap_fault : List ℕ → ℕ → ℕ → Option ElfFault
overlap_fault file i j =
    only_if (nat_lt i j && shares_address (program_header file i) (program_header file j)) (Overlap i j)

-- the first fault of header i with a later one
unfoldable pub first_overlap : List ℕ → ℕ → Option ElfFault
first_overlap file i = first_below (overlap_fault file i) (e_phnum file)

-- the faults of the file header, in their order
abbrev pub file_header_faults : List ℕ → List (Option ElfFault)
file_header_faults file =
    only_if (is_short file) Short
    ∷ only_if (lacks_magic file) Magic
    ∷ only_if (has_other_class file) Class
    ∷ only_if (has_other_order file) Order
    ∷ only_if (has_other_version file) Version
    ∷ only_if (has_other_kind file) Kind
    ∷ only_if (has_other_machine file) Machine
    ∷ only_if (lacks_headers file) Headers
    ∷ only_if (has_too_many file) TooMany
    ∷ []

-- the first of them
unfoldable pub file_header_fault : List ℕ → Option ElfFault
file_header_fault file = first_of (file_header_faults file)

-- the fault of the entry
unfoldable pub entry_fault : List ℕ → Ram → Option ElfFault
entry_fault file ram = only_if (is_bad_entry ram (e_entry file)) Entry

-- the first fault of a file for this RAM: in the order of the faults, then the least header, then the least
-- other header
unfoldable pub first_fault : List ℕ → Ram → Option ElfFault
first_fault file ram = first_of (
    file_header_fault file
    ∷ first_below (segment_fault file) (e_phnum file)
    ∷ first_below (outside_fault file ram) (e_phnum file)
    ∷ first_below (first_overlap file) (e_phnum file)
    ∷ entry_fault file ram
    ∷ [])

-- a file without a fault for this RAM
abbrev pub IsWellFormed : List ℕ → Ram → Type 0
IsWellFormed file ram = first_fault file ram ≡ None

-- a result that is an error exactly where there is a fault, and then this fault
abbrev pub Reports : {T : Type 0} → Result T ElfFault → Option ElfFault → Type 0
Reports result first = MatchResult result (λ _. first ≡ None) (λ fault. first ≡ Some fault)
