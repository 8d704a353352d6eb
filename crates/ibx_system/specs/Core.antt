-- What the system asks of a core, the core that it is built for, and the laws of one cycle of a core.
use Rattle.std.specs.Prelude.{◌≡◌, ◌⊎◌, ℕ, ◌<◌, Bool, true, false, not, ◌&&◌, ◌||◌, ◌==◌, if◌then◌else◌}
use Rattle.ibx_core.specs.Wires.{InWires as In, OutWires as Out}
use Rattle.ibx_core.specs.declared.reads.Reads.{Reads}
use Rattle.ibx_core.specs.declared.state.State.{State}
use Rattle.ibx_core.specs.Core.{core_next, core_out, looks as core_looks, reads_in, reads_of as core_reads}
use Rattle.ibx_core.specs.Flipped.{field_flip, wire_flip}
use Rattle.ibx_icache.specs.WordPort.{is_bad_tag, is_bad_word, matches as tag_matches}

-- What a core reads, whether it looks a line up, whether a tag word is that line's, what it puts out and what a cycle
-- leaves of it; a flip of a field, and of a wire of a delayed pair.
pub record Parts (S : Type 0) : Type 0 where
  pub reads : S → Reads
  pub looks : S → Bool
  pub matches : S → ℕ → Bool
  pub gives : S → In → Out
  pub leaves : S → In → S
  pub flip_field : ℕ → ℕ → S → S
  pub flip_pair : ℕ → ℕ → In × Out → In × Out

-- the real core
unfoldable pub core_parts : Parts State
core_parts = record {
  reads = core_reads;
  looks = λ s. core_looks s.words;
  matches = λ s tag. tag_matches tag s.words.c_addr;
  gives = core_out;
  leaves = core_next;
  flip_field = field_flip;
  flip_pair = wire_flip;
}

-- whether an output has an alert
abbrev pub is_alert : Out → Bool
is_alert o = not (o.alerts == 0)

module _ {S : Type 0} (p : Parts S) where
  -- whether the data word of way 0, and of way 1, is that of the lowest matching way of a lookup
  abbrev pub takes0 : S → ℕ → Bool
  takes0 s tag0 = p.looks s && p.matches s tag0

  -- the same of way 1
  abbrev pub takes1 : S → ℕ → ℕ → Bool
  takes1 s tag0 tag1 = p.looks s && (not (p.matches s tag0) && p.matches s tag1)

  -- the input with 0 in place of each unused word
  unfoldable pub heard : S → In → In
  heard s i = record i {
    irsp_word = if i.irsp_valid then i.irsp_word else 0;
    drsp_word = if i.drsp_valid then i.drsp_word else 0;
    tag0 = if p.looks s then i.tag0 else 0;
    tag1 = if p.looks s then i.tag1 else 0;
    data0 = if takes0 s i.tag0 then i.data0 else 0;
    data1 = if takes1 s i.tag0 i.tag1 then i.data1 else 0;
  }

  -- whether a used word has a non-zero syndrome
  unfoldable pub hears_bad : S → In → Bool
  hears_bad s i =
      (i.irsp_valid && is_bad_word i.irsp_word) || (
      (i.drsp_valid && is_bad_word i.drsp_word) || (
      is_bad_word i.rega || (is_bad_word i.regb || (
      (p.looks s && is_bad_tag i.tag0) || ((p.looks s && is_bad_tag i.tag1) || (
      (takes0 s i.tag0 && is_bad_word i.data0) || (takes1 s i.tag0 i.tag1 && is_bad_word i.data1)))))))

  -- the core that reads 0 for each unused word
  abbrev pub gated : Parts S
  gated = record p { gives = λ s i. p.gives s (heard s i); leaves = λ s i. p.leaves s (heard s i) }

  -- one cycle of a core, for every value of its fields and every input
  pub record CoreLaws : Type 0 where
    -- the output doesn't depend on the grants
    pub ungranted : (s : S) (i : In) (igrant dgrant : Bool)
        → p.gives s (record i { igrant = igrant; dgrant = dgrant }) ≡ p.gives s i
    -- what is read depends on the fields alone, and is put out
    pub reading : (s : S) (i : In) → reads_in (p.gives s i) ≡ p.reads s
    -- a register that is read is one of the 32
    pub inside : (s : S) → ((p.reads s).ra < 32) × ((p.reads s).rb < 32)
    -- an unused word has no effect
    pub unheard : (s : S) (i : In) → p.gives s (heard s i) ≡ p.gives s i
    pub unkept : (s : S) (i : In) → p.leaves s (heard s i) ≡ p.leaves s i
    -- a used word with a non-zero syndrome is told at once
    pub told : (s : S) (i : In) → hears_bad s i ≡ true → is_alert (p.gives s i) ≡ true
    -- what is written is a codeword
    pub store_good : (s : S) (i : In) → (p.gives s i).dwe ≡ true → is_bad_word (p.gives s i).dword ≡ false
    pub register_good : (s : S) (i : In) → (p.gives s i).rw ≡ true → is_bad_word (p.gives s i).rwword ≡ false
    pub tag_good : (s : S) (i : In) → is_bad_tag (p.gives s i).tword ≡ false ⊎ (p.gives s i).tways ≡ 0
    pub line_good : (s : S) (i : In)
        → ((is_bad_word (p.gives s i).dw0 ≡ false) × (is_bad_word (p.gives s i).dw1 ≡ false)) ⊎ (p.gives s i).dways ≡ 0
