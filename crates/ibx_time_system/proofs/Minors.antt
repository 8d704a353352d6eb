-- Where all words are codewords, a lookup has no alert.
use Rattle.std.proofs.Common.{◌≡◌, ℕ, Bool, true, false, not, ◌&&◌, ◌||◌, length, refl, sym, subst, arith}
use Rattle.ibx_icache.specs.WordPort.{is_bad_tag, is_bad_word, looked, matches}
use Rattle.ibx_core.specs.declared.state.State.{State}
use Rattle.ibx_core.specs.Core.{is_minor, looks, reads_of}
use Rattle.ibx_core.specs.Wires.{InWires}
use Rattle.ibx_system.specs.Core.{core_parts}
use Rattle.ibx_system.specs.Runs.{Codewords}
use Rattle.ibx_system.specs.System.{Place, changed, half_of, line_index, look, set_of, shown, tag_index}
use Rattle.ibx_system.proofs.Codewords.{inside_good}

-- by the words that are looked up
quiet_by : (l a b c d m n : Bool) → a ≡ false → b ≡ false → c ≡ false → d ≡ false
    → (l && ((a || (m && c)) || (b || (not m && n && d)))) ≡ false
quiet_by false a b c d m n e f g h = refl
quiet_by true a b c d true n e f g h = rw (e, f, g) refl
quiet_by true a b c d false true e f g h = rw (e, f, h) refl
quiet_by true a b c d false false e f g h = rw (e, f) refl

-- the words that are shown
shown_quiet : (e : Place) (x : State) → Codewords e → is_minor x (shown e (reads_of x)) ≡ false
unfolding shown reads_of
shown_quiet e x c =
    let addr : ℕ = looked x.words in
    let tags : length e.tags ≡ 512 = c.count.1 in
    let lines : length e.lines ≡ 1024 = c.count.2 in
    let i : InWires = shown e (reads_of x) in
    quiet_by (looks x.words) (is_bad_tag i.tag0) (is_bad_tag i.tag1) (is_bad_word i.data0) (is_bad_word i.data1)
    (matches i.tag0 x.words.c_addr) (matches i.tag1 x.words.c_addr)
    (inside_good is_bad_tag e.tags (tag_index (set_of addr) 0) (omega arith) c.tags)
    (inside_good is_bad_tag e.tags (tag_index (set_of addr) 1) (omega arith) c.tags)
    (inside_good is_bad_word e.lines (line_index (set_of addr) 0 (half_of addr)) (omega arith) c.lines)
    (inside_good is_bad_word e.lines (line_index (set_of addr) 1 (half_of addr)) (omega arith) c.lines)

-- in a cycle of main
pub minor_quiet : (e : Place) (x : State) → Codewords e → is_minor x (look core_parts e x) ≡ false
unfolding core_parts changed
minor_quiet e x c =
    subst (λ p. is_minor x (changed p (shown e (reads_of x))) ≡ false) (sym c.pending) (shown_quiet e x c)
