-- The words round the core: where those of the cache stand and are read, and what the writes of a cycle leave. Our own
-- rule.
use Rattle.std.specs.Prelude.{ℕ, ◌+◌, ◌*◌, ◌/◌, ◌%◌, List, slice_index, slice_set, Option, Some, None}
use Rattle.ibx_secded.specs.Code.{encode_of}
use Rattle.ibx_icache.specs.declared.lookup.Look.{Look}
use Rattle.ibx_icache.specs.declared.writes.Filling.{Filling}
use Rattle.ibx_icache.specs.declared.writes.Filling.TheVariants.{Nothing, Clears, Stores}

-- the first slot of a set, and the data word of a slot at an address
abbrev pub set_slot : ℕ → ℕ
set_slot addr = addr / 8 % 256 * 2

-- a slot has two data words, and bit 2 of the address selects one
abbrev pub line_place : ℕ → ℕ → ℕ
line_place slot addr = slot * 2 + addr / 4 % 2

-- the tags and data words that are read of the cache for an address
abbrev pub look_at : List ℕ → List ℕ → ℕ → Look
look_at tags lines addr = record {
  tag0 = slice_index tags (set_slot addr);
  tag1 = slice_index tags (set_slot addr + 1);
  data0 = slice_index lines (line_place (set_slot addr) addr);
  data1 = slice_index lines (line_place (set_slot addr + 1) addr);
}

-- a register write is stored as a codeword
abbrev pub put_reg : Option (ℕ × ℕ) → List ℕ → List ℕ
put_reg None regs = regs
put_reg (Some (n, value)) regs = slice_set regs n (encode_of 32 7 value)

-- the tags after the cache's write: clearing a set makes both its tags invalid
abbrev pub put_tags : Filling → List ℕ → List ℕ
put_tags Nothing tags = tags
put_tags (Clears set) tags = slice_set (slice_set tags (2 * set) 0xa800000) (2 * set + 1) 0xa800000
put_tags (Stores slot tag word0 word1) tags = slice_set tags slot tag

-- the data words after it: storing a line writes both words of its slot
abbrev pub put_lines : Filling → List ℕ → List ℕ
put_lines (Stores slot tag word0 word1) lines = slice_set (slice_set lines (2 * slot) word0) (2 * slot + 1) word1
put_lines _ lines = lines
