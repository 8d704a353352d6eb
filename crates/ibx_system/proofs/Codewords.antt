-- Without a flip every word is a codeword.
use Rattle.std.proofs.Common.{◌≡◌, ℕ, zero, suc, ◌+◌, ◌*◌, ◌≤◌, ◌<◌, Bool, true, false, not, List, length, inl, inr}
use Rattle.std.proofs.Common.{refl, subst, sym, ◌∙◌, arith, length-set}
use Rattle.std.specs.Prelude.{◌&&◌, nat_le, nat_lt, ◌==◌, All, slice_index, if◌then◌else◌}
use Rattle.std.proofs.lemmas.Bool.{and_parts, leb-true, ltb-true}
use Rattle.std.proofs.lemmas.List.Elements.{All-get_or, All-set}
use Rattle.ibx_bus.specs.Memory.{MemoryState, memory_has, index_of, is_store, error_of, answered_word, stored_word}
use Rattle.ibx_bus.specs.Port.{PortState, is_blocked, is_wait_over, port_moves, port_next}
use Rattle.ibx_isa.specs.declared.bus.Req.{Req}
use Rattle.ibx_secded.specs.Code.{encode_of}
use Rattle.ibx_core.specs.Wires.{InWires as In, OutWires as Out}
use Rattle.ibx_icache.specs.WordPort.{is_bad_tag, is_bad_word}
use Rattle.ibx_system.specs.Core.{Parts, CoreLaws}
use Rattle.ibx_system.specs.System.{Whole, Place, next, settle, look, output, put_if, store_if, tags_after, way_after}
use Rattle.ibx_system.specs.System.{writes_register, writes_way, tag_index, line_index, fetch_of, load_store_of}
use Rattle.ibx_system.specs.System.{dgrant_of}
use Rattle.ibx_plan.specs.declared.site.Site.{Site}
use Rattle.ibx_plan.specs.declared.site.Site.TheVariants as site
use Rattle.ibx_bus.proofs.Steps.{same_length}
use Rattle.ibx_system.proofs.Bus.{merged_word, by_words, merge_keeps, zero_good}
use Rattle.ibx_system.specs.Flips.{Fits}
use Rattle.ibx_system.specs.Runs.{Codewords}

-- every word is good
abbrev pub Good : (ℕ → Bool) → List ℕ → Type 0
Good bad = All (λ w. bad w ≡ false)

module _ (bad : ℕ → Bool) where
  -- a good word is put
  pub put_good : (written : Bool) (words : List ℕ) (i word : ℕ) → (written ≡ true → bad word ≡ false) → Good bad words
      → Good bad (put_if written words i word)
  put_good true words i word good all = All-set (λ w. bad w ≡ false) words i word (good refl) all
  put_good false words i word good all = all

  -- a word that is read within the list is good, where all are
  pub inside_good : (words : List ℕ) (i : ℕ) → i < length words → Good bad words → bad (slice_index words i) ≡ false
  inside_good words i inside all = All-get_or (λ w. bad w ≡ false) words i 0 inside all

-- a put word leaves the count
pub length_put : (written : Bool) (words : List ℕ) (i word : ℕ) → length (put_if written words i word) ≡ length words
length_put true words i word = length-set words i word
length_put false words i word = refl

module _ {S : Type 0} (p : Parts S) (laws : CoreLaws p) where
  -- no way is written where no bit is set
  no_ways : (ways way : ℕ) → ways ≡ 0 → way < 2 → writes_way ways way ≡ false
  no_ways ways zero e lt = rw e refl
  no_ways ways (suc zero) e lt = rw e refl
  no_ways ways (suc (suc n)) e lt = absurd (omega arith)

  -- a tag word that is written is good, and so are the data words of a written way
  tag_word : (s : S) (i : In) (way : ℕ) → way < 2 → writes_way (p.gives s i).tways way ≡ true
      → is_bad_tag (p.gives s i).tword ≡ false
  tag_word s i way lt w =
      elim (laws.tag_good s i) [
        | inl good ↦ good
        | inr none ↦ let silent = no_ways (p.gives s i).tways way none lt in
            cc
      ]

  -- the data words that are written are good
  line_words : (s : S) (i : In) (way : ℕ) → way < 2 → writes_way (p.gives s i).dways way ≡ true
      → (is_bad_word (p.gives s i).dw0 ≡ false) × (is_bad_word (p.gives s i).dw1 ≡ false)
  line_words s i way lt w =
      elim (laws.line_good s i) [
        | inl good ↦ good
        | inr none ↦ let silent = no_ways (p.gives s i).dways way none lt in
            cc
      ]

  -- the tags after a cycle, and the data words of one way
  tags_good : (s : S) (i : In) (words : List ℕ) → Good is_bad_tag words
      → Good is_bad_tag (tags_after words (p.gives s i))
  tags_good s i words all =
      let o = p.gives s i in
      put_good is_bad_tag (writes_way o.tways 1) (put_if (writes_way o.tways 0) words (tag_index o.tset 0) o.tword)
      (tag_index o.tset 1) o.tword (tag_word s i 1 (omega arith))
      (put_good is_bad_tag (writes_way o.tways 0) words (tag_index o.tset 0) o.tword
      (tag_word s i 0 (omega arith)) all)

  -- the data words of one way
  way_good : (s : S) (i : In) (way : ℕ) → way < 2 → (words : List ℕ) → Good is_bad_word words
      → Good is_bad_word (way_after words (p.gives s i) way)
  way_good s i way lt words all =
      let o = p.gives s i in
      put_good is_bad_word (writes_way o.dways way)
      (put_if (writes_way o.dways way) words (line_index o.tset way 0) o.dw0) (line_index o.tset way 1) o.dw1
      (λ w. (line_words s i way lt w).1)
      (put_good is_bad_word (writes_way o.dways way) words (line_index o.tset way 0) o.dw0
      (λ w. (line_words s i way lt w).0) all)

  -- ---- the memory and the ports

  -- an address of the memory is that of a word
  index_inside : (m : MemoryState) (address : ℕ) → memory_has m address ≡ true → index_of m address < length m.words
  index_inside m address e =
      let both = and_parts (nat_le m.base address) (nat_lt address (m.base + 4 * length m.words)) e in
      let low : m.base ≤ address = leb-true m.base address both.0 in
      let high : address < m.base + 4 * length m.words = ltb-true address (m.base + 4 * length m.words) both.1 in
      omega arith

  -- a stored word is good, whole or merged
  stored_good : (whole : Bool) (enables old new : ℕ) → is_bad_word old ≡ false → is_bad_word new ≡ false
      → is_bad_word (if whole then new else merged_word enables old new) ≡ false
  stored_good true enables old new a b = b
  stored_good false enables old new a b = merge_keeps enables old new ∙ a

  -- the memory after a store
  store_good : (stores : Bool) (words : List ℕ) (i enables new : ℕ)
      → (stores ≡ true → (i < length words) × (is_bad_word new ≡ false)) → Good is_bad_word words
      → Good is_bad_word (store_if stores words i enables new)
  unfolding stored_word
  store_good false words i enables new h all = all
  store_good true words i enables new h all =
      let x = h refl in
      All-set (λ w. is_bad_word w ≡ false) words i (stored_word enables (slice_index words i) new)
      (stored_good (enables == 15) enables (slice_index words i) new (inside_good is_bad_word words i x.0 all) x.1) all

  -- the word of an answer, by whether it is read
  word_by : (m : MemoryState) (r : Req) (reads : Bool) → (memory_has m r.addr && not r.write) ≡ reads
      → Good is_bad_word m.words
      → is_bad_word (if reads then slice_index m.words (index_of m r.addr) else (encode_of 32 7 0)) ≡ false
  word_by m r true e all =
      inside_good is_bad_word m.words (index_of m r.addr) (index_inside m r.addr (and_parts _ _ e).0) all
  word_by m r false e all = zero_good

  -- the kept word of a port after a cycle, by its cases
  port_by : (blocked request over : Bool) (q : PortState) (err : Bool) (word : ℕ) → is_bad_word q.word ≡ false
      → is_bad_word word ≡ false → is_bad_word (port_moves blocked request over q err word).word ≡ false
  unfolding port_moves
  port_by true request over q err word old new = old
  port_by false false over q err word old new = old
  port_by false true false q err word old new = old
  port_by false true true q err word old new = new

  -- the kept word of a port after a cycle
  port_good : (q : PortState) (m : MemoryState) (r : Req) → Good is_bad_word m.words → is_bad_word q.word ≡ false
      → is_bad_word (port_next q m r).word ≡ false
  port_good q m r all old =
      port_by (is_blocked q) r.valid (is_wait_over q) q (error_of m r) (answered_word m r) old
      (word_by m r (memory_has m r.addr && not r.write) refl all)

  -- ---- the places stay

  -- a cycle leaves the counts of words
  length_way : (words : List ℕ) (o : Out) (way : ℕ) → length (way_after words o way) ≡ length words
  length_way words o way =
      length_put (writes_way o.dways way) (put_if (writes_way o.dways way) words (line_index o.tset way 0) o.dw0)
      (line_index o.tset way 1) o.dw1
      ∙ length_put (writes_way o.dways way) words (line_index o.tset way 0) o.dw0

  -- so do the tags
  length_tags : (words : List ℕ) (o : Out) → length (tags_after words o) ≡ length words
  length_tags words o =
      length_put (writes_way o.tways 1) (put_if (writes_way o.tways 0) words (tag_index o.tset 0) o.tword)
      (tag_index o.tset 1) o.tword
      ∙ length_put (writes_way o.tways 0) words (tag_index o.tset 0) o.tword

  -- and the words of the memory
  length_store : (stores : Bool) (words : List ℕ) (i enables new : ℕ)
      → length (store_if stores words i enables new) ≡ length words
  length_store true words i enables new = length-set words i (stored_word enables (slice_index words i) new)
  length_store false words i enables new = refl

  -- a cycle leaves codewords alone
  settle_good : (e : Place) (s : S) (i : In) → Codewords e → Codewords (settle p e (p.gives s i))
  unfolding settle
  settle_good e s i c =
      let o = p.gives s i in record {
        count = (
          length_put (writes_register o) e.registers o.rwn o.rwword ∙ c.count.0,
          length_tags e.tags o ∙ c.count.1,
          length_way (way_after e.lines o 0) o 1 ∙ length_way e.lines o 0 ∙ c.count.2,
        );
        registers = put_good is_bad_word (writes_register o) e.registers o.rwn o.rwword
            (λ w. laws.register_good s i (and_parts o.rw _ w).0) c.registers;
        tags = tags_good s i e.tags c.tags;
        lines = way_good s i 1 (omega arith) (way_after e.lines o 0) (way_good s i 0 (omega arith) e.lines c.lines);
        memory = subst (λ (x : MemoryState). Good is_bad_word x.words)
            (sym (by_words (dgrant_of e o) e.memory (load_store_of o)))
            (store_good (dgrant_of e o && is_store e.memory (load_store_of o)) e.memory.words
            (index_of e.memory o.daddr) o.dbe o.dword
            (λ w. let both = and_parts o.dwe (memory_has e.memory o.daddr) (and_parts (dgrant_of e o) _ w).1 in
            (index_inside e.memory o.daddr both.1, laws.store_good s i both.0)) c.memory);
        ianswer = port_good e.iport e.memory (fetch_of o) c.memory c.ianswer;
        danswer = port_good e.dport e.memory (load_store_of o) c.memory c.danswer;
        pending = refl;
      }

  -- a place that there is stays one
  fits_settled : (x : Site) (e : Place) (o : Out) → Fits x e → Fits x (settle p e o)
  unfolding settle
  fits_settled (site.Main field bit) e o f = tt
  fits_settled (site.Shadow field bit) e o f = tt
  fits_settled (site.Delay slot wire bit) e o f = tt
  fits_settled (site.Reg n bit) e o f =
      (f.0, subst (λ k. n < k) (sym (length_put (writes_register o) e.registers o.rwn o.rwword)) f.1, f.2)
  fits_settled (site.Tag set way bit) e o f =
      (subst (λ k. tag_index set way < k) (sym (length_tags e.tags o)) f.0, f.1)
  fits_settled (site.Line set way half bit) e o f = (
    subst (λ k. line_index set way half < k)
        (sym (length_way (way_after e.lines o 0) o 1 ∙ length_way e.lines o 0)) f.0,
    f.1,
  )
  fits_settled (site.Output wire bit) e o f = f
  fits_settled (site.Answer port bit) e o f = f
  fits_settled (site.Mem word bit) e o f =
      (subst (λ k. word < k) (sym (same_length (dgrant_of e o) e.memory (load_store_of o))) f.0, f.1)

  -- what a clean run keeps for the flip of a word
  pub record Ready (x : Site) (w : Whole S) : Type 0 where
    -- every word round the cores is a codeword, and no flip is pending
    pub words : Codewords w.place
    -- the word of the flip is there, and so is its bit
    pub inside : Fits x w.place

  -- a step keeps both
  pub ready_next : (x : Site) (w : Whole S) → Ready x w → Ready x (next p w)
  unfolding next
  ready_next x w r = record {
    words = settle_good w.place w.main (look p w.place w.main) r.words;
    inside = fits_settled x w.place (output p w.place w.main) r.inside;
  }
