-- The words round two equal mains: what they show, and what a cycle leaves of them.
use Rattle.std.proofs.Common.{◌≡◌, ℕ, ◌+◌, ◌-◌, ◌*◌, ◌/◌, Bool, true, false, not, List, Option, None, refl, ap, subst}
use Rattle.std.proofs.Common.{sym, ◌∙◌}
use Rattle.std.specs.Prelude.{◌&&◌, ◌||◌, ◌==◌, nat_le, nat_lt, slice_index, slice_set, if◌then◌else◌}
use Rattle.std.proofs.lemmas.Bool.{and_parts}
use Rattle.ibx_bus.specs.Memory.{MemoryState, memory_has, index_of, word_at, is_store, error_of, answered_word}
use Rattle.ibx_bus.specs.Memory.{memory_after, stored_word}
use Rattle.ibx_bits.specs.Platform.{host_page_has}
use Rattle.ibx_bus.specs.Port.{PortState, answers, is_blocked, is_wait_over, grants, port_moves, port_next}
use Rattle.ibx_isa.specs.declared.bus.Req.{Req}
use Rattle.ibx_secded.specs.Code.{encode_of}
use Rattle.ibx_core.specs.Wires.{OutWires as Out}
use Rattle.ibx_icache.specs.WordPort.{is_bad_tag, is_bad_word}
use Rattle.ibx_plan.specs.Plan.{lines_at}
use Rattle.ibx_system.specs.Core.{Parts}
use Rattle.ibx_system.specs.System.{store_if, Place, put_if, tags_after, lines_after, way_after, writes_register}
use Rattle.ibx_system.specs.System.{writes_way, tag_index, line_index, set_of, half_of, shown, changed, look, settle}
use Rattle.ibx_system.specs.System.{fetch_of, load_store_of, igrant_of, dgrant_of}
use Rattle.ibx_flips.specs.Flips.{Spot, Marks, in_marks, place_marks, copy_after, reads_word}
use Rattle.ibx_bus.proofs.Steps.{same_base}
use Rattle.ibx_system.proofs.Bus.{merged_word, by_words, merge_keeps}
use Rattle.ibx_flips.proofs.Apart.{ListApart, WordApart, length_apart, put_apart, read_apart, store_apart}
use Rattle.ibx_flips.proofs.Inputs.{InApart}

module _ {S : Type 0} (p : Parts S) where
  -- the same port, but for the kept word
  pub record PortApart (copy : Bool) (a b : PortState) : Type 0 where
    -- the kept word of the second port
    pub word : ℕ
    -- it is that of the first port, or a bad one where it is a copy of the changed word
    pub apart : WordApart is_bad_word copy a.word word
    -- all else of the port is the same
    pub is : b ≡ record a { word = word }

  -- the changed word of each memory, and its copies in the ports
  pub record Near (k : Spot) (m : Marks) (e f : Place) : Type 0 where
    -- the multiplier's kind and the changes of the interrupt lines are the same
    pub settings : f.settings ≡ e.settings
    -- the registers are the same, or the marked one holds a bad word
    pub registers : ListApart is_bad_word k.register m.register e.registers f.registers
    -- the tag words are the same, or the marked one is bad by the code of tags
    pub tags : ListApart is_bad_tag k.tag m.tag e.tags f.tags
    -- the cache's data words are the same, or the marked one is bad
    pub lines : ListApart is_bad_word k.line m.line e.lines f.lines
    -- both memories begin at the same address
    pub base : f.memory.base ≡ e.memory.base
    -- their words are the same, or the marked one is bad
    pub words : ListApart is_bad_word k.word m.stored e.memory.words f.memory.words
    -- the instruction ports differ in a copy of the changed word at most
    pub iport : PortApart m.icopy e.iport f.iport
    -- so do the data ports
    pub dport : PortApart m.dcopy e.dport f.dport
    -- no output word is marked
    pub not_shown : m.shown ≡ false
    -- no flip of an output word is pending in the first
    pub quiet : e.pending ≡ None
    -- nor is one in the second
    pub still : f.pending ≡ None
    -- both are in the same cycle
    pub cycle : f.cycle ≡ e.cycle

  -- ---- what is shown

  -- the word of an answer, by the mark of the kept word and whether it is shown
  answer_by : (copy valid : Bool) (a w : ℕ) → WordApart is_bad_word copy a w
      → WordApart is_bad_word (copy && valid) (if valid then a else 0) (if valid then w else 0)
  answer_by false false a w d = refl
  answer_by false true a w d = d
  answer_by true false a w d = refl
  answer_by true true a w d = d

  -- the words of two ports' answers
  answer_apart : (copy : Bool) (a b : PortState) → PortApart copy a b
      → WordApart is_bad_word (copy && answers a) (if answers a then a.word else 0) (if answers b then b.word else 0)
  answer_apart copy a b d =
      subst (λ (x : PortState).
      WordApart is_bad_word (copy && answers a) (if answers a then a.word else 0)
      (if answers x then x.word else 0)) (sym d.is) (answer_by copy (answers a) a.word d.word d.apart)

  -- where no output word is flipped
  unshown : (bad : ℕ → Bool) (x shown y : Bool) (a b : ℕ) → shown ≡ false → WordApart bad x a b
      → WordApart bad (x || (shown && y)) a b
  unshown bad x true y a b e w = cc
  unshown bad true false y a b e w = w
  unshown bad false false y a b e w = w

  -- what the words show to both cores differs in the marked words alone
  shown_apart : (k : Spot) (m : Marks) (s : S) (e f : Place) → Near k m e f
      → InApart p (in_marks p k m e s) (shown e (p.reads s)) (shown f (p.reads s))
  unfolding in_marks shown
  shown_apart k m s e f n =
      let r = p.reads s in
      let set = set_of r.line in
      let half = half_of r.line in record {
        irsp_valid = ap answers n.iport.is;
        irsp_err = ap (λ (q : PortState). answers q && q.err) n.iport.is;
        irsp_word = answer_apart m.icopy e.iport f.iport n.iport;
        irsp_live = λ h. ap answers n.iport.is ∙ (and_parts m.icopy (answers e.iport) h).1;
        drsp_valid = ap answers n.dport.is;
        drsp_err = ap (λ (q : PortState). answers q && q.err) n.dport.is;
        drsp_word = answer_apart m.dcopy e.dport f.dport n.dport;
        drsp_live = λ h. ap answers n.dport.is ∙ (and_parts m.dcopy (answers e.dport) h).1;
        igrant = refl;
        dgrant = refl;
        rega = unshown is_bad_word (m.register && (r.ra == k.register)) m.shown (k.wire == 0) _ _ n.not_shown
            (read_apart is_bad_word m.register k.register r.ra e.registers f.registers n.registers);
        regb = unshown is_bad_word (m.register && (r.rb == k.register)) m.shown (k.wire == 1) _ _ n.not_shown
            (read_apart is_bad_word m.register k.register r.rb e.registers f.registers n.registers);
        tag0 = unshown is_bad_tag (m.tag && (tag_index set 0 == k.tag)) m.shown (k.wire == 2) _ _ n.not_shown
            (read_apart is_bad_tag m.tag k.tag (tag_index set 0) e.tags f.tags n.tags);
        tag1 = unshown is_bad_tag (m.tag && (tag_index set 1 == k.tag)) m.shown (k.wire == 3) _ _ n.not_shown
            (read_apart is_bad_tag m.tag k.tag (tag_index set 1) e.tags f.tags n.tags);
        data0 = unshown is_bad_word (m.line && (line_index set 0 half == k.line)) m.shown
            (k.wire == 4) _ _ n.not_shown
            (read_apart is_bad_word m.line k.line (line_index set 0 half) e.lines f.lines n.lines);
        data1 = unshown is_bad_word (m.line && (line_index set 1 half == k.line)) m.shown
            (k.wire == 5) _ _ n.not_shown
            (read_apart is_bad_word m.line k.line (line_index set 1 half) e.lines f.lines n.lines);
        lines = λ t. lines_at (n.settings t).changes (n.cycle t);
        mul = λ t. (n.settings t).mul;
      }

  -- so does what the cores are shown, where no flip is pending
  pub look_apart : (k : Spot) (m : Marks) (s : S) (e f : Place) → Near k m e f
      → InApart p (in_marks p k m e s) (look p e s) (look p f s)
  unfolding changed
  look_apart k m s e f n =
      subst (λ (x : Option (ℕ × ℕ)). InApart p (in_marks p k m e s) (look p e s) (changed x (shown f (p.reads s))))
      (sym n.still)
      (subst (λ (x : Option (ℕ × ℕ)).
      InApart p (in_marks p k m e s) (changed x (shown e (p.reads s))) (shown f (p.reads s))) (sym n.quiet)
      (shown_apart k m s e f n))

  -- ---- the memory and the ports

  -- both memories have the same addresses, at the same words
  ram_same : (k : Spot) (m : Marks) (e f : Place) → Near k m e f → (address : ℕ)
      → memory_has f.memory address ≡ memory_has e.memory address
  ram_same k m e f n address =
      let long = length_apart is_bad_word k.word m.stored e.memory.words f.memory.words n.words in
      λ t. nat_le (n.base t) address && nat_lt address (n.base t + 4 * long t)

  -- and the number of a word
  index_same : (k : Spot) (m : Marks) (e f : Place) → Near k m e f → (address : ℕ)
      → index_of f.memory address ≡ index_of e.memory address
  index_same k m e f n address = ap (λ base. (address - base) / 4) n.base

  -- the word of an answer, by whether it is read and the changed one
  fetched_by : (marked reads hit : Bool) (a b : ℕ) → WordApart is_bad_word (marked && hit) a b
      → WordApart is_bad_word (marked && (reads && hit)) (if reads then a else (encode_of 32 7 0))
      (if reads then b else (encode_of 32 7 0))
  fetched_by true true hit a b d = d
  fetched_by true false hit a b d = refl
  fetched_by false true hit a b d = d
  fetched_by false false hit a b d = refl

  -- the answer of one request to both
  word_apart : (k : Spot) (m : Marks) (e f : Place) (r : Req) → Near k m e f
      → WordApart is_bad_word (m.stored && reads_word e.memory r k.word) (answered_word e.memory r)
      (answered_word f.memory r)
  word_apart k m e f r n =
      let ram = ram_same k m e f n r.addr in
      let at = index_same k m e f n r.addr in
      let read : WordApart is_bad_word (m.stored && (index_of e.memory r.addr == k.word)) (word_at e.memory r.addr)
      (word_at f.memory r.addr) =
      subst (λ i. WordApart is_bad_word (m.stored && (index_of e.memory r.addr == k.word)) (word_at e.memory r.addr)
      (slice_index f.memory.words i)) (sym at)
      (read_apart is_bad_word m.stored k.word (index_of e.memory r.addr) e.memory.words f.memory.words n.words) in
      subst (λ (b : Bool).
      WordApart is_bad_word (m.stored && reads_word e.memory r k.word) (answered_word e.memory r)
      (if b && not r.write then word_at f.memory r.addr else (encode_of 32 7 0))) (sym ram)
      (fetched_by m.stored (memory_has e.memory r.addr && not r.write) (index_of e.memory r.addr == k.word)
      (word_at e.memory r.addr) (word_at f.memory r.addr) read)

  -- the ports after a cycle, by the cases of a cycle
  moved_by : (blocked request over copy taken : Bool) (q : PortState) (w : ℕ) (err : Bool) (a b : ℕ)
      → WordApart is_bad_word copy q.word w → WordApart is_bad_word taken a b
      → PortApart (if not blocked && (request && over) then taken else copy) (port_moves blocked request over q err a)
      (port_moves blocked request over (record q { word = w }) err b)
  unfolding port_moves
  moved_by true request over copy taken q w err a b c d = record { word = w; apart = c; is = refl }
  moved_by false false over copy taken q w err a b c d = record { word = w; apart = c; is = refl }
  moved_by false true false copy taken q w err a b c d = record { word = w; apart = c; is = refl }
  moved_by false true true copy taken q w err a b c d = record { word = b; apart = d; is = refl }

  -- the ports after a cycle of one request
  port_apart : (k : Spot) (m : Marks) (e f : Place) (r : Req) (copy : Bool) (a b : PortState) → Near k m e f
      → PortApart copy a b
      → PortApart (copy_after (grants r.valid a) copy m.stored e.memory r k.word) (port_next a e.memory r)
      (port_next b f.memory r)
  port_apart k m e f r copy a b n d =
      let ram = ram_same k m e f n r.addr in
      let err : error_of f.memory r ≡ error_of e.memory r = ap (λ (x : Bool). not (x || host_page_has r.addr)) ram in
      subst (λ (x : PortState).
      PortApart (copy_after (grants r.valid a) copy m.stored e.memory r k.word) (port_next a e.memory r)
      (port_next x f.memory r)) (sym d.is)
      (subst (λ (x : Bool).
      PortApart (copy_after (grants r.valid a) copy m.stored e.memory r k.word) (port_next a e.memory r)
      (port_moves (is_blocked a) r.valid (is_wait_over a) (record a { word = d.word }) x
      (answered_word f.memory r))) (sym err)
      (moved_by (is_blocked a) r.valid (is_wait_over a) copy (m.stored && reads_word e.memory r k.word) a d.word
      (error_of e.memory r) (answered_word e.memory r) (answered_word f.memory r) d.apart (word_apart k m e f r n)))

  -- the memory's words after a cycle
  abbrev words_of : Bool → MemoryState → Req → List ℕ
  words_of granted m r = store_if (granted && is_store m r) m.words (index_of m r.addr) r.be r.word

  -- both memories' words after one request
  words_apart : (k : Spot) (m : Marks) (e f : Place) (r : Req) (granted : Bool) → Near k m e f
      → ListApart is_bad_word k.word
      (m.stored && not ((granted && is_store e.memory r) && ((index_of e.memory r.addr == k.word) && (r.be == 15))))
      (words_of granted e.memory r) (words_of granted f.memory r)
  unfolding stored_word
  words_apart k m e f r granted n =
      let ram = ram_same k m e f n r.addr in
      let at = index_same k m e f n r.addr in
      let mark = m.stored && not
      ((granted && is_store e.memory r) && ((index_of e.memory r.addr == k.word) && (r.be == 15))) in
      subst (λ (b : Bool). ListApart is_bad_word k.word mark (words_of granted e.memory r)
      (if granted && (r.write && b) then slice_set f.memory.words (index_of f.memory r.addr)
      (stored_word r.be (slice_index f.memory.words (index_of f.memory r.addr)) r.word) else f.memory.words))
      (sym ram)
      (subst (λ i. ListApart is_bad_word k.word mark (words_of granted e.memory r)
      (if granted && is_store e.memory r then slice_set f.memory.words i
      (stored_word r.be (slice_index f.memory.words i) r.word) else f.memory.words)) (sym at)
      (store_apart is_bad_word merged_word merge_keeps (granted && is_store e.memory r) m.stored k.word
      (index_of e.memory r.addr) r.be r.word e.memory.words f.memory.words n.words))

  -- the same of the memories
  memory_apart : (k : Spot) (m : Marks) (e f : Place) (r : Req) (a b : Bool) → Near k m e f → b ≡ a
      → ListApart is_bad_word k.word
      (m.stored && not ((a && is_store e.memory r) && ((index_of e.memory r.addr == k.word) && (r.be == 15))))
      (memory_after a e.memory r).words (memory_after b f.memory r).words
  memory_apart k m e f r a b n same =
      let mark = m.stored && not
      ((a && is_store e.memory r) && ((index_of e.memory r.addr == k.word) && (r.be == 15))) in
      subst (λ (x : MemoryState). ListApart is_bad_word k.word mark x.words (memory_after b f.memory r).words)
      (sym (by_words a e.memory r))
      (subst (λ (x : MemoryState). ListApart is_bad_word k.word mark (words_of a e.memory r) x.words)
      (sym (by_words b f.memory r))
      (subst (λ (g : Bool). ListApart is_bad_word k.word mark (words_of a e.memory r) (words_of g f.memory r))
      (sym same) (words_apart k m e f r a n)))

  -- ---- a cycle

  -- either port grants alike
  igrant_same : (k : Spot) (m : Marks) (e f : Place) (o : Out) → Near k m e f → igrant_of f o ≡ igrant_of e o
  igrant_same k m e f o n = ap (λ (q : PortState). grants o.ireq q) n.iport.is

  -- and the data port
  dgrant_same : (k : Spot) (m : Marks) (e f : Place) (o : Out) → Near k m e f → dgrant_of f o ≡ dgrant_of e o
  dgrant_same k m e f o n = ap (λ (q : PortState). grants o.dreq q) n.dport.is

  -- the grants of one output are the same
  pub grants_same : (k : Spot) (m : Marks) (e f : Place) (o : Out) → Near k m e f
      → (igrant_of f o ≡ igrant_of e o) × (dgrant_of f o ≡ dgrant_of e o)
  grants_same k m e f o n = (igrant_same k m e f o n, dgrant_same k m e f o n)

  -- the tags after a cycle
  tags_apart : (k : Spot) (m : Bool) (o : Out) (xs ys : List ℕ) → ListApart is_bad_tag k.tag m xs ys
      → ListApart is_bad_tag k.tag
      ((m && not (writes_way o.tways 0 && (tag_index o.tset 0 == k.tag))) && not
      (writes_way o.tways 1 && (tag_index o.tset 1 == k.tag))) (tags_after xs o) (tags_after ys o)
  tags_apart k m o xs ys d =
      put_apart is_bad_tag (writes_way o.tways 1)
      (m && not (writes_way o.tways 0 && (tag_index o.tset 0 == k.tag))) k.tag (tag_index o.tset 1) o.tword
      (put_if (writes_way o.tways 0) xs (tag_index o.tset 0) o.tword)
      (put_if (writes_way o.tways 0) ys (tag_index o.tset 0) o.tword)
      (put_apart is_bad_tag (writes_way o.tways 0) m k.tag (tag_index o.tset 0) o.tword xs ys d)

  -- the mark of a data word after a way is written
  abbrev way_mark : Spot → Bool → Out → ℕ → Bool
  way_mark k m o way =
      (m && not (writes_way o.dways way && (line_index o.tset way 0 == k.line))) && not
      (writes_way o.dways way && (line_index o.tset way 1 == k.line))

  -- the data words after a way is written, and after both are
  way_apart : (k : Spot) (m : Bool) (o : Out) (way : ℕ) (xs ys : List ℕ) → ListApart is_bad_word k.line m xs ys
      → ListApart is_bad_word k.line (way_mark k m o way) (way_after xs o way) (way_after ys o way)
  way_apart k m o way xs ys d =
      put_apart is_bad_word (writes_way o.dways way)
      (m && not (writes_way o.dways way && (line_index o.tset way 0 == k.line))) k.line
      (line_index o.tset way 1) o.dw1
      (put_if (writes_way o.dways way) xs (line_index o.tset way 0) o.dw0)
      (put_if (writes_way o.dways way) ys (line_index o.tset way 0) o.dw0)
      (put_apart is_bad_word (writes_way o.dways way) m k.line (line_index o.tset way 0) o.dw0 xs ys d)

  -- the data words
  lines_apart : (k : Spot) (m : Bool) (o : Out) (xs ys : List ℕ) → ListApart is_bad_word k.line m xs ys
      → ListApart is_bad_word k.line (way_mark k (way_mark k m o 0) o 1) (lines_after xs o) (lines_after ys o)
  lines_apart k m o xs ys d =
      way_apart k (way_mark k m o 0) o 1 (way_after xs o 0) (way_after ys o 0) (way_apart k m o 0 xs ys d)

  -- the words after a cycle of one output
  pub settle_near : (k : Spot) (m : Marks) (e f : Place) (o : Out) → Near k m e f
      → Near k (place_marks p k m e o) (settle p e o) (settle p f o)
  unfolding settle place_marks
  settle_near k m e f o n = record {
    settings = n.settings;
    registers = put_apart is_bad_word
        (writes_register o) m.register k.register o.rwn o.rwword e.registers f.registers n.registers;
    tags = tags_apart k m.tag o e.tags f.tags n.tags;
    lines = lines_apart k m.line o e.lines f.lines n.lines;
    base = same_base (dgrant_of f o) f.memory (load_store_of o) ∙ n.base
        ∙ sym (same_base (dgrant_of e o) e.memory (load_store_of o));
    words = memory_apart k m e f (load_store_of o) (dgrant_of e o) (dgrant_of f o) n (dgrant_same k m e f o n);
    iport = port_apart k m e f (fetch_of o) m.icopy e.iport f.iport n n.iport;
    dport = port_apart k m e f (load_store_of o) m.dcopy e.dport f.dport n n.dport;
    not_shown = refl;
    quiet = refl;
    still = refl;
    cycle = ap (λ c. c + 1) n.cycle;
  }
