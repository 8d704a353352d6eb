-- The core keeps the laws of one cycle.
use Rattle.std.proofs.Common.{◌≡◌, ℕ, ◌+◌, ◌*◌, Bool, true, false, not, refl, ap, ◌∙◌}
use Rattle.std.specs.Prelude.{◌&&◌, ◌||◌, ◌==◌}
use Rattle.ibx_icache.specs.WordPort.{is_bad_tag, is_bad_word, matches}
use Rattle.ibx_core.specs.declared.state.State.{State}
use Rattle.ibx_core.specs.Core.{alerts_of, core_next, core_out, gives, heard as heard_of, is_bus, is_internal}
use Rattle.ibx_core.specs.Core.{is_minor, leaves, looks, reads_of}
use Rattle.ibx_core.specs.Fields.{bit}
use Rattle.ibx_core.specs.Flipped.{field_flip, wire_flip}
use Rattle.ibx_core.specs.Wires.{InWires as In}
use Rattle.ibx_core.proofs.Codewords.{line_written, register_word, stored_word, tag_written}
use Rattle.ibx_core.proofs.Laws.{alerts_are, reading, ungranted}
use Rattle.ibx_core.proofs.Registers.{first_register, second_register}
use Rattle.ibx_system.specs.Core.{CoreLaws, Parts, core_parts, heard, hears_bad, is_alert}
use Rattle.ibx_system.proofs.Gate.{gate_unheard, gate_unkept}

-- ---- unused words

-- the core without its gate
open_parts : Parts State
open_parts = record {
  reads = reads_of;
  looks = λ x. looks x.words;
  matches = λ x tag. matches tag x.words.c_addr;
  gives = gives;
  leaves = leaves;
  flip_field = field_flip;
  flip_pair = wire_flip;
}

-- the core reads 0 for each unused word
unheard : (x : State) (i : In) → core_out x (heard core_parts x i) ≡ core_out x i
unfolding core_parts open_parts core_out heard_of heard
unheard x i = gate_unheard open_parts x i

-- so it leaves the same
unkept : (x : State) (i : In) → core_next x (heard core_parts x i) ≡ core_next x i
unfolding core_parts open_parts core_next heard_of heard
unkept x i = gate_unkept open_parts x i

-- ---- the alerts

-- a set of alerts with one of them isn't empty
some_alert : (minor internal bus : Bool) → (minor || (internal || bus)) ≡ true
    → not (bit minor + 2 * bit internal + 4 * bit bus == 0) ≡ true
some_alert true true true e = refl
some_alert true true false e = refl
some_alert true false true e = refl
some_alert true false false e = refl
some_alert false true true e = refl
some_alert false true false e = refl
some_alert false false true e = refl
some_alert false false false e = cc

-- the causes of MINOR, way by way
minor_by : (l t0 t1 m0 m1 d0 d1 : Bool)
    → ((l && t0) || ((l && t1) || (((l && m0) && d0) || ((l && (not m0 && m1)) && d1)))) ≡ true
    → (l && ((t0 || (m0 && d0)) || (t1 || (not m0 && m1 && d1)))) ≡ true
minor_by false t0 t1 m0 m1 d0 d1 e = e
minor_by true true t1 m0 m1 d0 d1 e = refl
minor_by true false t1 true m1 true d1 e = refl
minor_by true false true true m1 false d1 e = refl
minor_by true false false true m1 false d1 e = e
minor_by true false true false m1 d0 d1 e = refl
minor_by true false false false true d0 d1 e = e
minor_by true false false false false d0 d1 e = e

-- a bad word that is used has its alert: BUS for an answer, INTERNAL for a register, MINOR for the cache
cause_of : (fetch load a b glitch minor caches : Bool) → (caches ≡ true → minor ≡ true)
    → (fetch || (load || (a || (b || caches)))) ≡ true → (minor || ((a || b || glitch) || (fetch || load))) ≡ true
cause_of fetch load a b glitch true caches h e = refl
cause_of fetch load true b glitch false caches h e = refl
cause_of fetch load false true glitch false caches h e = refl
cause_of fetch load false false true false caches h e = refl
cause_of true load false false false false caches h e = refl
cause_of false true false false false false caches h e = refl
cause_of false false false false false false caches h e = h e

-- a used word that is bad has its cause
has_cause : (x : State) (i : In) → hears_bad core_parts x i ≡ true
    → (is_minor x i || (is_internal x i || is_bus i)) ≡ true
unfolding core_parts hears_bad
has_cause x i e =
    let m0 = matches i.tag0 x.words.c_addr in
    let m1 = matches i.tag1 x.words.c_addr in
    cause_of (i.irsp_valid && is_bad_word i.irsp_word) (i.drsp_valid && is_bad_word i.drsp_word) (is_bad_word i.rega)
    (is_bad_word i.regb) _ (is_minor x i) _
    (minor_by (looks x.words) (is_bad_tag i.tag0) (is_bad_tag i.tag1) m0 m1 (is_bad_word i.data0)
    (is_bad_word i.data1)) e

-- so there is an alert
told : (x : State) (i : In) → hears_bad core_parts x i ≡ true → is_alert (core_out x i) ≡ true
unfolding alerts_of
told x i e = ap (λ (n : ℕ). not (n == 0)) (alerts_are x i)
    ∙ some_alert (is_minor x i) (is_internal x i) (is_bus i) (has_cause x i e)

-- ---- all laws

-- each law, by its lemma
pub core_laws : CoreLaws core_parts
unfolding core_parts reads_of
core_laws = record {
  ungranted = ungranted;
  reading = reading;
  inside = λ x. (first_register x.id, second_register x.id);
  unheard = unheard;
  unkept = unkept;
  told = told;
  store_good = stored_word;
  register_good = register_word;
  tag_good = tag_written;
  line_good = line_written;
}
