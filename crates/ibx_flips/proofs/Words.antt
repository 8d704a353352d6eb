-- One changed word: the runs agree until it is used, and its use is told in its cycle.
use Rattle.std.proofs.Common.{◌≡◌, ℕ, zero, suc, ◌^◌, ◌<◌, Bool, true, false, not, List, length, Option, Some, None}
use Rattle.std.proofs.Common.{refl, ap, subst, sym, ◌∙◌, arith}
use Rattle.std.specs.Prelude.{◌||◌, ◌==◌, slice_index, if◌then◌else◌, bit_xor}
use Rattle.std.proofs.lemmas.Bool.{eqb-true, or_left}
use Rattle.ibx_bus.specs.Port.{PortState}
use Rattle.ibx_core.specs.Wires.{InWires as In, OutWires as Out}
use Rattle.ibx_icache.specs.WordPort.{is_bad_tag, is_bad_word}
use Rattle.ibx_system.specs.Core.{Parts, CoreLaws, heard, is_alert}
use Rattle.ibx_system.proofs.Bus.{flip_told, tag_flip_told}
use Rattle.ibx_system.specs.System.{Whole, Place, next, settle, output_of, same_bus, alarm, shown, changed}
use Rattle.ibx_system.specs.System.{flip_wire, look, output, input, igrant_of, dgrant_of, tag_index, line_index}
use Rattle.ibx_system.specs.System.{set_of, half_of}
use Rattle.ibx_plan.specs.declared.site.Site.{Site}
use Rattle.ibx_plan.specs.declared.site.Site.TheVariants as site
use Rattle.ibx_bus.specs.Port.{port_flip}
use Rattle.ibx_system.specs.Flips.{flip, place_flip}
use Rattle.ibx_flips.specs.Flips.{Spot, Marks, spot_of, marks_of, no_marks, in_marks}
use Rattle.ibx_system.specs.Runs.{Codewords}
use Rattle.ibx_system.specs.Flips.{with_flip}
use Rattle.ibx_flips.specs.Flips.{used, place_marks, marks_next, marks_from, uses_from}
use Rattle.ibx_system.specs.Runs.{run}
use Rattle.ibx_system.proofs.Compare.{same_bus-refl}
use Rattle.ibx_flips.proofs.Apart.{ListApart, WordApart}
use Rattle.ibx_flips.proofs.Inputs.{InApart, heard_same, used_bad}
use Rattle.ibx_flips.proofs.Places.{Near, PortApart, look_apart, settle_near, grants_same}
use Rattle.ibx_system.proofs.Codewords.{Ready, inside_good}

module _ {S : Type 0} (p : Parts S) (laws : CoreLaws p) where
  -- ---- an output word

  -- the marks of a flip that is pending
  abbrev pub shown_only : Marks
  shown_only = record no_marks { shown = true }

  -- only the word handed to the core in this cycle is another one
  pub record Shown (k : Spot) (e f : Place) : Type 0 where
    -- the bit that is changed when the word is handed over
    pub bit : ℕ
    -- the word is one of the six that the memories hand to the core
    pub wire : k.wire < 6
    -- it has such a bit: a tag word has 28, each other word 39
    pub fits : bit < (if (k.wire == 2) || (k.wire == 3) then 28 else 39)
    -- all words of the first are codewords, so that the changed one is bad
    pub words : Codewords e
    -- the second is the first with that flip pending
    pub is : f ≡ record e { pending = Some (k.wire, bit) }

  -- a word that is changed where b holds
  flipped_by : (bad : ℕ → Bool) (b : Bool) (a x : ℕ) → (b ≡ true → bad x ≡ true)
      → WordApart bad b a (if b then x else a)
  flipped_by bad true a x h = h refl
  flipped_by bad false a x h = refl

  -- a bit of a word that isn't a tag, and one of a tag
  word_bit : (wire n bit : ℕ) → (wire == n) ≡ true → ((n == 2) || (n == 3)) ≡ false
      → bit < (if (wire == 2) || (wire == 3) then 28 else 39) → bit < 39
  word_bit wire n bit e plain lt =
      let at : bit < (if (n == 2) || (n == 3) then 28 else 39) =
      subst (λ w. bit < (if (w == 2) || (w == 3) then 28 else 39)) (eqb-true wire n e) lt in
      subst (λ (b : Bool). bit < (if b then 28 else 39)) plain at

  -- the bit of a flipped tag word
  tag_bit : (wire n bit : ℕ) → (wire == n) ≡ true → ((n == 2) || (n == 3)) ≡ true
      → bit < (if (wire == 2) || (wire == 3) then 28 else 39) → bit < 28
  tag_bit wire n bit e tag lt =
      let at : bit < (if (n == 2) || (n == 3) then 28 else 39) =
      subst (λ w. bit < (if (w == 2) || (w == 3) then 28 else 39)) (eqb-true wire n e) lt in
      subst (λ (b : Bool). bit < (if b then 28 else 39)) tag at

  -- the words of a line are there
  set-lt : (line way : ℕ) → way < 2 → tag_index (set_of line) way < 512
  set-lt line way lt = omega arith

  -- the place of a data word
  line-lt : (line way : ℕ) → way < 2 → line_index (set_of line) way (half_of line) < 1024
  line-lt line way lt = omega arith

  -- the pending flip changes the one shown word
  flip_apart : (k : Spot) (s : S) (e : Place) (bit : ℕ) → k.wire < 6
      → bit < (if (k.wire == 2) || (k.wire == 3) then 28 else 39) → Codewords e
      → InApart p (in_marks p k shown_only e s) (shown e (p.reads s)) (flip_wire k.wire bit (shown e (p.reads s)))
  unfolding in_marks shown
  flip_apart k s e bit wire fits c =
      let r = p.reads s in
      let ra : is_bad_word (slice_index e.registers r.ra) ≡ false =
      inside_good is_bad_word e.registers r.ra (omega (arith, (laws.inside s).0, c.count.0)) c.registers in
      let rb : is_bad_word (slice_index e.registers r.rb) ≡ false =
      inside_good is_bad_word e.registers r.rb (omega (arith, (laws.inside s).1, c.count.0)) c.registers in
      let t0 : is_bad_tag (slice_index e.tags (tag_index (set_of r.line) 0)) ≡ false =
      inside_good is_bad_tag e.tags (tag_index (set_of r.line) 0)
      (omega (arith, set-lt r.line 0 (omega arith), c.count.1)) c.tags in
      let t1 : is_bad_tag (slice_index e.tags (tag_index (set_of r.line) 1)) ≡ false =
      inside_good is_bad_tag e.tags (tag_index (set_of r.line) 1)
      (omega (arith, set-lt r.line 1 (omega arith), c.count.1)) c.tags in
      let d0 : is_bad_word (slice_index e.lines (line_index (set_of r.line) 0 (half_of r.line))) ≡ false =
      inside_good is_bad_word e.lines (line_index (set_of r.line) 0 (half_of r.line))
      (omega (arith, line-lt r.line 0 (omega arith), c.count.2)) c.lines in
      let d1 : is_bad_word (slice_index e.lines (line_index (set_of r.line) 1 (half_of r.line))) ≡ false =
      inside_good is_bad_word e.lines (line_index (set_of r.line) 1 (half_of r.line))
      (omega (arith, line-lt r.line 1 (omega arith), c.count.2)) c.lines in record {
        irsp_valid = refl;
        irsp_err = refl;
        irsp_word = refl;
        irsp_live = λ h. cc;
        drsp_valid = refl;
        drsp_err = refl;
        drsp_word = refl;
        drsp_live = λ h. cc;
        igrant = refl;
        dgrant = refl;
        rega = flipped_by is_bad_word (k.wire == 0) _ _
            (λ h. flip_told (slice_index e.registers r.ra) bit (word_bit k.wire 0 bit h refl fits) ra);
        regb = flipped_by is_bad_word (k.wire == 1) _ _
            (λ h. flip_told (slice_index e.registers r.rb) bit (word_bit k.wire 1 bit h refl fits) rb);
        tag0 = flipped_by is_bad_tag (k.wire == 2) _ _
            (λ h. tag_flip_told (slice_index e.tags (tag_index (set_of r.line) 0)) bit
            (tag_bit k.wire 2 bit h refl fits) t0);
        tag1 = flipped_by is_bad_tag (k.wire == 3) _ _
            (λ h. tag_flip_told (slice_index e.tags (tag_index (set_of r.line) 1)) bit
            (tag_bit k.wire 3 bit h refl fits) t1);
        data0 = flipped_by is_bad_word (k.wire == 4) _ _
            (λ h. flip_told (slice_index e.lines (line_index (set_of r.line) 0 (half_of r.line))) bit
            (word_bit k.wire 4 bit h refl fits) d0);
        data1 = flipped_by is_bad_word (k.wire == 5) _ _
            (λ h. flip_told (slice_index e.lines (line_index (set_of r.line) 1 (half_of r.line))) bit
            (word_bit k.wire 5 bit h refl fits) d1);
        lines = refl;
        mul = refl;
      }

  -- ---- the relation of the words

  -- one word is changed in the memories, the ports or what is shown next
  pub data Related (k : Spot) (m : Marks) (e f : Place) : Type 0 where
    -- no flip is pending: the changed word and its copies are in the memories and the ports
    near : Near p k m e f → Related k m e f
    -- the flip is pending: the changed word is shown in this cycle alone
    flipped : m ≡ shown_only → Shown k e f → Related k m e f

  -- the cores are shown inputs that differ in the marked words alone
  look_related : (k : Spot) (m : Marks) (s : S) (e f : Place) → Related k m e f
      → InApart p (in_marks p k m e s) (look p e s) (look p f s)
  unfolding changed shown
  look_related k m s e f (near n) = look_apart p k m s e f n
  look_related k m s e f (flipped is x) =
      subst (λ (y : Marks). InApart p (in_marks p k y e s) (look p e s) (look p f s)) (sym is)
      (subst (λ (y : Place). InApart p (in_marks p k shown_only e s) (look p e s) (look p y s)) (sym x.is)
      (subst (λ (q : Option (ℕ × ℕ)).
      InApart p (in_marks p k shown_only e s) (changed q (shown e (p.reads s)))
      (flip_wire k.wire x.bit (shown e (p.reads s)))) (sym x.words.pending)
      (flip_apart k s e x.bit x.wire x.fits x.words)))

  -- the grants of one output are the same
  grants_related : (k : Spot) (m : Marks) (e f : Place) (o : Out) → Related k m e f
      → (igrant_of f o ≡ igrant_of e o) × (dgrant_of f o ≡ dgrant_of e o)
  grants_related k m e f o (near n) = grants_same p k m e f o n
  grants_related k m e f o (flipped is x) =
      (ap (λ (y : Place). igrant_of y o) x.is, ap (λ (y : Place). dgrant_of y o) x.is)

  -- a port beside itself
  same_port : (copy : Bool) (q : PortState) → copy ≡ false → PortApart p copy q q
  same_port true q e = cc
  same_port false q e = record { word = q.word; apart = refl; is = refl }

  -- no copy of a word that is nowhere
  neither : (b : Bool) → (if b then false else false) ≡ false
  neither true = refl
  neither false = refl

  -- after its cycle a pending flip is gone
  shown_after : (k : Spot) (e : Place) (o : Out)
      → Near p k (place_marks p k shown_only e o) (settle p e o) (settle p e o)
  unfolding settle place_marks
  shown_after k e o = record {
    settings = refl;
    registers = refl;
    tags = refl;
    lines = refl;
    base = refl;
    words = refl;
    iport = same_port _ _ (neither (igrant_of e o));
    dport = same_port _ _ (neither (dgrant_of e o));
    not_shown = refl;
    quiet = refl;
    still = refl;
    cycle = refl;
  }

  -- the relation after a cycle of one output
  related_after : (k : Spot) (m : Marks) (e f : Place) (o : Out) → Related k m e f
      → Related k (place_marks p k m e o) (settle p e o) (settle p f o)
  unfolding settle
  related_after k m e f o (near n) = near (settle_near p k m e f o n)
  related_after k m e f o (flipped is x) =
      near (subst (λ (y : Marks). Near p k (place_marks p k y e o) (settle p e o) (settle p f o)) (sym is)
      (subst (λ (y : Place). Near p k (place_marks p k shown_only e o) (settle p e o) (settle p y o)) (sym x.is)
      (shown_after k e o)))

  -- ---- a cycle

  -- a core that hears the same puts out the same, and becomes the same
  out_same : (s : S) (i j : In) → heard p s j ≡ heard p s i → p.gives s j ≡ p.gives s i
  out_same s i j h = sym (laws.unheard s j) ∙ ap (p.gives s) h ∙ laws.unheard s i

  -- what is left is the same
  left_same : (s : S) (i j : In) → heard p s j ≡ heard p s i → p.leaves s j ≡ p.leaves s i
  left_same s i j h = sym (laws.unkept s j) ∙ ap (p.leaves s) h ∙ laws.unkept s i

  -- it hears the same with the same grants
  with_same : (s : S) (i j : In) (a b c d : Bool) → heard p s j ≡ heard p s i → c ≡ a → d ≡ b
      → heard p s (record j { igrant = c; dgrant = d }) ≡ heard p s (record i { igrant = a; dgrant = b })
  unfolding heard
  with_same s i j a b c d h x y = λ t. record (h t) { igrant = x t; dgrant = y t }

  -- the same main, and one changed word
  pub record Words (k : Spot) (m : Marks) (w v : Whole S) : Type 0 where
    -- the mains are equal, since none has used the changed word
    pub main : w.main ≡ v.main
    -- the words round them differ in the changed one and its copies alone
    pub related : Related k m w.place v.place

  -- the bus is the same, and the relation holds after the cycle
  pub record Unused (k : Spot) (m : Marks) (w v : Whole S) : Type 0 where
    -- a word that isn't used isn't seen on the bus
    pub bus : same_bus (output_of p w) (output_of p v) ≡ true
    -- after the cycle the same holds, with the marks that it leaves
    pub after : Words k (marks_next p k m w) (next p w) (next p v)

  -- with one main
  unused_at : (k : Spot) (m : Marks) (w v : Whole S) → Words k m w v → used p k m w ≡ false → (f : Place)
      → Related k m w.place f
      → (output p f w.main ≡ output p w.place w.main) ×
      (p.leaves w.main (input p f w.main) ≡ p.leaves w.main (input p w.place w.main))
  unused_at k m w v r u f x =
      let s = w.main in
      let e = w.place in
      let alike = heard_same p (in_marks p k m e s) s (look p e s) (look p f s) (look_related k m s e f x) u in
      let out = out_same s (look p e s) (look p f s) alike in
      let granted = grants_related k m e f (output p e s) x in (
        out,
        left_same s (input p e s) (input p f s)
            (with_same s (look p e s) (look p f s) (igrant_of e (output p e s)) (dgrant_of e (output p e s))
            (igrant_of f (output p f s)) (dgrant_of f (output p f s)) alike
            (ap (λ (o : Out). igrant_of f o) out ∙ granted.0) (ap (λ (o : Out). dgrant_of f o) out ∙ granted.1)),
      )

  -- a cycle in which the changed word isn't used
  pub goes : (k : Spot) (m : Marks) (w v : Whole S) → Words k m w v → used p k m w ≡ false → Unused k m w v
  unfolding next
  goes k m w v r u =
      let x = unused_at k m w v r u v.place r.related in
      let out : output p v.place v.main ≡ output p w.place w.main = ap (λ (s : S). output p v.place s) (sym r.main)
      ∙ x.0 in record {
        bus = subst (λ (o : Out). same_bus (output p w.place w.main) o ≡ true) (sym out)
            (same_bus-refl (output p w.place w.main));
        after = record {
          main = sym x.1 ∙ ap (λ (s : S). p.leaves s (input p v.place s)) r.main;
          related = subst (λ (o : Out).
              Related k (place_marks p k m w.place (output p w.place w.main))
              (settle p w.place (output p w.place w.main)) (settle p v.place o)) (sym out)
              (related_after k m w.place v.place (output p w.place w.main) r.related);
        };
      }

  -- a cycle in which it is used: an alert
  pub told : (k : Spot) (m : Marks) (w v : Whole S) → Words k m w v → used p k m w ≡ true → alarm p v ≡ true
  told k m w v r u =
      let s = w.main in
      let heard_bad = used_bad p (in_marks p k m w.place s) s (look p w.place s) (look p v.place s)
      (look_related k m s w.place v.place r.related) u in
      let alert : is_alert (output p v.place s) ≡ true = laws.told s (look p v.place s) heard_bad in
      or_left (is_alert (output_of p v)) v.told
      (subst (λ (y : S). is_alert (output p v.place y) ≡ true) r.main alert)

  -- ---- many cycles without a use

  -- the relation holds as long as the word isn't used
  pub follow : (n : ℕ) (k : Spot) (m : Marks) (w v : Whole S) → Words k m w v
      → ((b : ℕ) → b < n → uses_from p k m w b ≡ false)
      → Words k (marks_from p k m w n) (run p w None n) (run p v None n)
  unfolding run marks_from
  follow zero k m w v r h = r
  follow (suc n) k m w v r h =
      follow n k (marks_next p k m w) (next p w) (next p v) (goes k m w v r (h 0 (omega arith))).after
      (λ b lt. h (suc b) (omega arith))

  -- ---- at the flip

  -- the flip of a site leaves such a system
  abbrev pub Starts : Site → Whole S → Type 0
  Starts x w = Words (spot_of x) (marks_of x) w (flip p x w)

  -- a port without a changed word
  same_all : (q : PortState) → PortApart p false q q
  same_all q = record { word = q.word; apart = refl; is = refl }

  -- a flip of one word of a list
  flipped_word : (bad : ℕ → Bool) (k bit : ℕ) (words : List ℕ) → k < length words
      → bad (bit_xor (slice_index words k) (2 ^ bit)) ≡ true → ListApart bad k true words (with_flip words k bit)
  flipped_word bad k bit words inside told = (bit_xor (slice_index words k) (2 ^ bit), inside, told, refl)

  -- a register, a tag word, a data word, a word of the memory
  pub reg_start : (n bit : ℕ) (w : Whole S) → Ready p laws (site.Reg n bit) w → Starts (site.Reg n bit) w
  unfolding flip place_flip
  reg_start n bit w r = record {
    main = refl;
    related = near (record {
      settings = refl;
      registers = flipped_word is_bad_word n bit w.place.registers r.inside.1
          (flip_told (slice_index w.place.registers n) bit r.inside.2
          (inside_good is_bad_word w.place.registers n r.inside.1 r.words.registers));
      tags = refl;
      lines = refl;
      base = refl;
      words = refl;
      iport = same_all w.place.iport;
      dport = same_all w.place.dport;
      not_shown = refl;
      quiet = r.words.pending;
      still = r.words.pending;
      cycle = refl;
    });
  }

  -- a tag word
  pub tag_start : (set way bit : ℕ) (w : Whole S) → Ready p laws (site.Tag set way bit) w
      → Starts (site.Tag set way bit) w
  unfolding flip place_flip
  tag_start set way bit w r = record {
    main = refl;
    related = near (record {
      settings = refl;
      registers = refl;
      tags = flipped_word is_bad_tag (tag_index set way) bit w.place.tags r.inside.0
          (tag_flip_told (slice_index w.place.tags (tag_index set way)) bit r.inside.1
          (inside_good is_bad_tag w.place.tags (tag_index set way) r.inside.0 r.words.tags));
      lines = refl;
      base = refl;
      words = refl;
      iport = same_all w.place.iport;
      dport = same_all w.place.dport;
      not_shown = refl;
      quiet = r.words.pending;
      still = r.words.pending;
      cycle = refl;
    });
  }

  -- a data word
  pub line_start : (set way half bit : ℕ) (w : Whole S) → Ready p laws (site.Line set way half bit) w
      → Starts (site.Line set way half bit) w
  unfolding flip place_flip
  line_start set way half bit w r = record {
    main = refl;
    related = near (record {
      settings = refl;
      registers = refl;
      tags = refl;
      lines = flipped_word is_bad_word (line_index set way half) bit w.place.lines r.inside.0
          (flip_told (slice_index w.place.lines (line_index set way half)) bit r.inside.1
          (inside_good is_bad_word w.place.lines (line_index set way half) r.inside.0 r.words.lines));
      base = refl;
      words = refl;
      iport = same_all w.place.iport;
      dport = same_all w.place.dport;
      not_shown = refl;
      quiet = r.words.pending;
      still = r.words.pending;
      cycle = refl;
    });
  }

  -- a word of the memory
  pub mem_start : (word bit : ℕ) (w : Whole S) → Ready p laws (site.Mem word bit) w → Starts (site.Mem word bit) w
  unfolding flip place_flip
  mem_start word bit w r = record {
    main = refl;
    related = near (record {
      settings = refl;
      registers = refl;
      tags = refl;
      lines = refl;
      base = refl;
      words = flipped_word is_bad_word word bit w.place.memory.words r.inside.0
          (flip_told (slice_index w.place.memory.words word) bit r.inside.1
          (inside_good is_bad_word w.place.memory.words word r.inside.0 r.words.memory));
      iport = same_all w.place.iport;
      dport = same_all w.place.dport;
      not_shown = refl;
      quiet = r.words.pending;
      still = r.words.pending;
      cycle = refl;
    });
  }

  -- an output word
  pub output_start : (wire bit : ℕ) (w : Whole S) → Ready p laws (site.Output wire bit) w
      → Starts (site.Output wire bit) w
  unfolding flip place_flip
  output_start wire bit w r =
      record {
        main = refl;
        related =
            flipped refl (record { bit = bit; wire = r.inside.0; fits = r.inside.1; words = r.words; is = refl });
      }

  -- port 0 or the other
  answer_at : (k : Spot) (b : Bool) (bit : ℕ) (w : Whole S) → bit < 39 → Codewords w.place
      → Near p k (record no_marks { icopy = b; dcopy = not b }) w.place
      (if b then record w.place { iport = port_flip w.place.iport bit } else record w.place {
        dport =
            port_flip w.place.dport bit;
      })
  answer_at k true bit w lt c = record {
    settings = refl;
    registers = refl;
    tags = refl;
    lines = refl;
    base = refl;
    words = refl;
    iport = record {
      word = bit_xor w.place.iport.word (2 ^ bit);
      apart =
          flip_told w.place.iport.word bit lt c.ianswer;
      is = refl;
    };
    dport = same_all w.place.dport;
    not_shown = refl;
    quiet = c.pending;
    still = c.pending;
    cycle = refl;
  }
  answer_at k false bit w lt c = record {
    settings = refl;
    registers = refl;
    tags = refl;
    lines = refl;
    base = refl;
    words = refl;
    iport = same_all w.place.iport;
    dport = record {
      word = bit_xor w.place.dport.word (2 ^ bit);
      apart =
          flip_told w.place.dport.word bit lt c.danswer;
      is = refl;
    };
    not_shown = refl;
    quiet = c.pending;
    still = c.pending;
    cycle = refl;
  }

  -- the kept word of a port
  pub answer_start : (port bit : ℕ) (w : Whole S) → Ready p laws (site.Answer port bit) w
      → Starts (site.Answer port bit) w
  unfolding flip place_flip
  answer_start port bit w r = record { main = refl; related = near (answer_at _ (port == 0) bit w r.inside.1 r.words) }
