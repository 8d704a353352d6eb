-- A file without a fault, and a plan of masks that are words, are a setup of a run.
use Rattle.std.proofs.Common.{ℕ, zero, suc, ◌-◌, ◌^◌, ◌<◌, Bool, true, false, List, [], ◌∷◌, ◌++◌, length}
use Rattle.std.proofs.Common.{Option, Some, None, cond, map, reverse, take, drop, inl, inr, sym, subst, arith}
use Rattle.std.specs.Prelude.{All, nat_le, slice_index, unwrap_or, if◌then◌else◌}
use Rattle.std.specs.List.{find}
use Rattle.std.specs.Option.{option_map_or, option_or}
use Rattle.std.proofs.lemmas.Bool.{cases_lt}
use Rattle.std.proofs.lemmas.List.{get_or-reverse, get_or_past, length-reverse}
use Rattle.std.proofs.lemmas.List.Elements.{All-drop, All-from_get_or, All-get_or, All-head, All-tail, All-take}
use Rattle.ibx_isa.specs.declared.insn.MulKind.{MulKind}
use Rattle.ibx_elf.specs.declared.ram.Ram.{Ram}
use Rattle.ibx_elf.specs.Faults.{IsWellFormed}
use Rattle.ibx_elf.specs.Fields.{e_entry, e_phnum, is_load, program_header}
use Rattle.ibx_elf.specs.Image.{LoadedBytes, image_byte, image_of, loaded_byte, segment_of, segments_below}
use Rattle.ibx_elf.specs.Ram.{IsRamRange}
use Rattle.ibx_elf.specs.Search.{first_of, only_if}
use Rattle.ibx_elf.proofs.Laws.{entry-even, entry_in_ram, good_entry}
use Rattle.ibx_plan.specs.declared.entry.Change.{Change}
use Rattle.ibx_plan.specs.Plan.{PlanValue, lines_at}
use Rattle.ibx_time.specs.Runs.{IsPlaced}
use Rattle.ibx_time_system.specs.Projection.{AreWords, of_file}

-- ---- the bytes of an image

-- what is found is a byte
abbrev IsByte : Option ℕ → Type 0
IsByte None = Unit {0}
IsByte (Some b) = b < 256

-- the bytes of each segment are bytes
abbrev AreBytes : List LoadedBytes → Type 0
AreBytes [] = Unit {0}
AreBytes (x ∷ xs) = All (λ b. b < 256) x.bytes × AreBytes xs

-- what is read of a list of bytes is a byte: past the end 0 is read
index_low : (bytes : List ℕ) (i : ℕ) → All (λ b. b < 256) bytes → slice_index bytes i < 256
index_low bytes i all =
    elim (cases_lt i (length bytes)) [
      | inl inside ↦ All-get_or (λ b. b < 256) bytes i 0 inside all
      | inr past ↦ subst (λ (b : ℕ). b < 256) (sym (get_or_past bytes i 0 past)) (omega arith)
    ]

-- a byte of one segment
only_low : (test : Bool) (b : ℕ) → b < 256 → IsByte (only_if test b)
only_low true b low = low
only_low false b low = tt

-- the first of two
either_low : (x y : Option ℕ) → IsByte x → IsByte y → IsByte (option_or x y)
either_low None y a b = b
either_low (Some x) y a b = a

-- of all segments
first_low : (addr : ℕ) (segments : List LoadedBytes) → AreBytes segments
    → IsByte (first_of (map (loaded_byte addr) segments))
first_low addr [] all = tt
first_low addr (x ∷ xs) all =
    either_low (loaded_byte addr x) (first_of (map (loaded_byte addr) xs))
    (only_low _ (slice_index x.bytes (addr - x.addr)) (index_low x.bytes (addr - x.addr) all.0))
    (first_low addr xs all.1)

-- 0 where none has a byte
or_zero_low : (x : Option ℕ) → IsByte x → unwrap_or x 0 < 256
or_zero_low None low = omega arith
or_zero_low (Some b) low = low

-- of both lists
joined_low : (xs ys : List LoadedBytes) → AreBytes xs → AreBytes ys → AreBytes (xs ++ ys)
joined_low [] ys a b = b
joined_low (x ∷ xs) ys a b = (a.0, joined_low xs ys a.1 b)

-- what a header loads
loads_low : (file : List ℕ) (addr size offset : ℕ) (load : Bool) → All (λ b. b < 256) file
    → AreBytes (if load then record { addr = addr; bytes = take size (drop offset file) } ∷ [] else [])
loads_low file addr size offset true all =
    (All-take (λ b. b < 256) size (drop offset file) (All-drop (λ b. b < 256) offset file all), tt)
loads_low file addr size offset false all = tt

-- what the headers load
segments_low : (file : List ℕ) (n : ℕ) → All (λ b. b < 256) file → AreBytes (segments_below file n)
unfolding segments_below
segments_low file zero all = tt
segments_low file (suc n) all =
    let h = program_header file n in
    joined_low (segments_below file n) (segment_of file h) (segments_low file n all)
    (loads_low file h.p_paddr h.p_filesz h.p_offset (is_load h) all)

-- so a byte of the image is one
bytes_low : (file : List ℕ) (ram : Ram) (addr : ℕ) → All (λ b. b < 256) file
    → image_byte (image_of file ram) addr < 256
unfolding image_byte
bytes_low file ram addr all =
    or_zero_low (first_of (map (loaded_byte addr) (segments_below file (e_phnum file))))
    (first_low addr (segments_below file (e_phnum file)) (segments_low file (e_phnum file) all))

-- ---- the interrupt lines

-- the mask is a word
abbrev IsWord : Change → Type 0
IsWord c = c.mask < 2 ^ 32

-- from the last one on
reversed_low : (changes : List Change) → All IsWord changes → All IsWord (reverse changes)
reversed_low changes all =
    let none : Change = record { cycle = 0; mask = 0 } in
    All-from_get_or IsWord (reverse changes) none (λ i inside.
    let low : i < length changes = omega (arith, length-reverse changes) in
    subst IsWord (sym (get_or-reverse changes i none low)) (All-get_or IsWord changes (length changes - 1 - i) none
    (omega arith) all))

-- the mask that is found
found_low : (cycle : ℕ) (changes : List Change) → All IsWord changes
    → option_map_or (λ c. c.mask) (find (λ c. nat_le c.cycle cycle) changes) 0 < 2 ^ 32
found_low cycle [] all = omega arith
found_low cycle (c ∷ cs) all =
    by (nat_le c.cycle cycle) (All-head IsWord c cs all) (found_low cycle cs (All-tail IsWord c cs all))
  where
    by : (b : Bool) → IsWord c → option_map_or (λ c. c.mask) (find (λ c. nat_le c.cycle cycle) cs) 0 < 2 ^ 32
        → option_map_or (λ c. c.mask) (cond b (Some c) (find (λ c. nat_le c.cycle cycle) cs)) 0 < 2 ^ 32
    by true here later = here
    by false here later = later

-- so the lines in a cycle are a word
lines_low : (changes : List Change) (cycle : ℕ) → All IsWord changes → lines_at changes cycle < 2 ^ 32
lines_low changes cycle all = found_low cycle (reverse changes) (reversed_low changes all)

-- ---- both

-- a well-formed file in a range of RAM, with masks that are words, is a setup of a run
pub placed : (file : List ℕ) (ram : Ram) (mul : MulKind) (plan : PlanValue) → IsRamRange ram → IsWellFormed file ram
    → All (λ b. b < 256) file → AreWords plan.changes → IsPlaced (of_file file ram mul plan)
placed file ram mul plan range formed bytes masks =
    let entry = good_entry file ram formed in
    record {
      setup =
          record {
            ram = range;
            entry = entry_in_ram ram (e_entry file) entry;
            even = entry-even ram (e_entry file)
                entry;
          };
      lines = λ c. lines_low plan.changes c masks;
      bytes = λ addr. bytes_low file ram addr bytes;
    }
