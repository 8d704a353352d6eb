use Rattle.std.proofs.Common.{◌≡◌, ◌+◌, ◌&&◌, ◌∙◌, ℕ, Bool, true, false, List, ◌∷◌, drop, get_or, refl, sym, ap}
use Rattle.std.specs.Prelude.{bit_or}
use Rattle.std.specs.List.{fold, zip}
use Rattle.ibx_asm.specs.declared.slot.Slot.{Slot}
use Rattle.ibx_asm.specs.declared.slot.Slot.TheVariants as slot
use Rattle.ibx_asm.specs.Denote.{in_range, known, with_operand}
use Rattle.ibx_asm.specs.Operands.{holds}
use Rattle.ibx_asm.specs.Text.{tokens}
use Rattle.ibx_asm.proofs.Operands.{one_pair, value_in_range, value_known, value_word, missing_in_range, missing_known}
use Rattle.ibx_asm.proofs.Operands.{missing_word, end_in_range, end_known, end_word}
use Rattle.ibx_asm.proofs.line.operands.Goals as goal
use Rattle.ibx_asm.proofs.line.operands.Goals.{in-Some-value, then-in_range, else-in_range, in-None}

-- what `holds` and the test before it come to
both : (a b c d : Bool) → a ≡ true → d ≡ b → b ≡ c → d ≡ (a && c)
both a b c d e f g = rw e (f ∙ g)

-- the same where the test before it fails
neither : (a c d : Bool) → a ≡ false → d ≡ a → d ≡ (a && c)
neither a c d e f = rw e (f ∙ e)

pub loop-slot-preserved : goal.loop-slot-preserved
loop-slot-preserved c =
    let labels = c.args.labels.now in
    let address = c.args.address in
    let i : ℕ = c.loop-slot.slot-index in
    let s : Slot = get_or c.args.slots.now i slot.Comma in
    let token : List ℕ = c.in-Some.token.now in
    let more : List (Slot × List ℕ) = zip (drop (i + 1) c.args.slots.now) (tokens c.in-Some.after.now) in
    let pair : zip (drop i c.args.slots.now) (tokens c.loop-slot.rest.now) ≡ (s, token) ∷ more = one_pair
    c.args.slots.now i slot.Comma c.loop-slot.rest.now c.in-Some.after.now token c.loop-slot-test.true
    c.in-Some.ensures in
    let range = c.loop-slot.invariant.in_range ∙ ap (λ p. c.loop-slot.in_range && in_range labels address p) pair in
    let know = c.loop-slot.invariant.known ∙ ap (λ p. c.loop-slot.known && known labels address p) pair in
    let word = c.loop-slot.invariant.word ∙ ap (λ p. fold (with_operand labels address) c.loop-slot.word p) pair in
    elim c.match-value.branch [
      | in-Some-value w ↦
          let v = w.in-Some-value.value in
          let h = sym c.value.ensures ∙ w.in-Some-value.is in
          let held : w.if-in_range.in_range ≡ (c.loop-slot.in_range && holds s v) = elim w.if-in_range.branch [
            | then-in_range x ↦ both c.loop-slot.in_range x.holds-in_range.result (holds s v) w.if-in_range.in_range
                x.if-in_range.true x.in_range-is x.holds-in_range.ensures
            | else-in_range x ↦ neither c.loop-slot.in_range (holds s v) w.if-in_range.in_range x.if-in_range.false
                x.in_range-is
          ] in
          rw (w.rest-is) (record {
            in_range = range ∙ value_in_range labels address c.loop-slot.in_range s token v more h ∙ ap
                (λ b. b && in_range labels address more) (sym (w.in_range-is ∙ held));
            known = know ∙ value_known labels address c.loop-slot.known s token v more h ∙ ap
                (λ b. b && known labels address more) (sym w.known-is);
            word = word ∙ value_word labels address c.loop-slot.word s token v more h ∙ ap
                (λ n. fold (with_operand labels address) n more)
                (sym (w.word-is ∙ ap (bit_or c.loop-slot.word) w.bits-word.ensures));
          })
      | in-None w ↦
          let h = sym c.value.ensures ∙ w.in-None.is in
          rw (w.rest-is) (record {
            in_range = range ∙ missing_in_range labels address c.loop-slot.in_range s token more h ∙ ap
                (λ b. b && in_range labels address more) (sym w.in_range-is);
            known = know ∙ missing_known labels address c.loop-slot.known s token more h ∙ rw w.known-is refl;
            word = word ∙ missing_word labels address c.loop-slot.word s token more h ∙ ap
                (λ n. fold (with_operand labels address) n more) (sym w.word-is);
          })
    ]

pub returns-in_default-clause-in_range : goal.returns-in_default-clause-in_range
returns-in_default-clause-in_range c = sym (c.loop-slot.invariant.in_range ∙ end_in_range c.args.labels.now
    c.args.address c.loop-slot.in_range _ (tokens c.loop-slot.rest.now) c.in_default.ensures)

pub returns-in_default-clause-known : goal.returns-in_default-clause-known
returns-in_default-clause-known c = sym (c.loop-slot.invariant.known ∙ end_known c.args.labels.now c.args.address
    c.loop-slot.known _ (tokens c.loop-slot.rest.now) c.in_default.ensures)

pub returns-in_default-clause-word : goal.returns-in_default-clause-word
returns-in_default-clause-word c = sym (c.loop-slot.invariant.word ∙ end_word c.args.labels.now c.args.address
    c.loop-slot.word _ (tokens c.loop-slot.rest.now) c.in_default.ensures)
