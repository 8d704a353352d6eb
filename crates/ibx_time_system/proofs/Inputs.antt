-- Main is shown what the machine is shown.
use Rattle.std.proofs.Common.{◌≡◌, ℕ, ◌+◌, Bool, true, false, ◌&&◌, refl, sym, ap, subst, ◌∙◌, arith}
use Rattle.std.specs.Prelude.{if◌then◌else◌, List, None, slice_index}
use Rattle.ibx_isa.specs.declared.bus.Rsp.{Rsp}
use Rattle.ibx_isa.specs.declared.insn.MulKind.{MulKind}
use Rattle.ibx_isa.specs.declared.insn.MulKind.TheVariants.{Single, Fast, Slow}
use Rattle.ibx_bus.specs.Port.{PortState, answer_wires, answers}
use Rattle.ibx_icache.specs.declared.lookup.Look.{Look}
use Rattle.ibx_icache.specs.WordPort.{looked}
use Rattle.ibx_core.specs.declared.state.State.{State}
use Rattle.ibx_core.specs.Core.{reads_of}
use Rattle.ibx_core.specs.Inputs.{inputs_of, mul_of}
use Rattle.ibx_core.specs.Sights.{ra_of, rb_of, row_of}
use Rattle.ibx_core.specs.Wires.{InWires}
use Rattle.ibx_time.specs.Settings.{Setup}
use Rattle.ibx_time_machine.specs.System.{in_of}
use Rattle.ibx_time_machine.specs.Words.{line_place, set_slot}
use Rattle.ibx_system.specs.Core.{core_parts}
use Rattle.ibx_system.specs.System.{Settings, Whole, changed, half_of, line_index, look, set_of, shown, tag_index}
use Rattle.ibx_soc.specs.First.{mul_number}
use Rattle.ibx_time_system.specs.Projection.{settings_in}
use Rattle.ibx_time_machine.specs.Words.{look_at}
use Rattle.ibx_time_system.proofs.Systems.{machine_system}

-- the answer of a port
abbrev shown_rsp : Bool → Bool → ℕ → Rsp
shown_rsp valid err word = record { valid = valid; err = valid && err; word = if valid then word else 0 }

-- by whether it answers
rsp_by : (b err : Bool) (word : ℕ)
    → (if b then record { valid = true; err = err; word = word } else record { valid = false; err = false; word = 0 })
    ≡ shown_rsp b err word
rsp_by true err word = refl
rsp_by false err word = refl

-- of a port
rsp_is : (p : PortState) → answer_wires p ≡ shown_rsp (answers p) p.err p.word
unfolding answer_wires
rsp_is p = rsp_by (answers p) p.err p.word

-- the same by set, way and half
abbrev core_look : List ℕ → List ℕ → ℕ → Look
core_look tags lines addr = record {
  tag0 = slice_index tags (tag_index (set_of addr) 0);
  tag1 = slice_index tags (tag_index (set_of addr) 1);
  data0 = slice_index lines (line_index (set_of addr) 0 (half_of addr));
  data1 = slice_index lines (line_index (set_of addr) 1 (half_of addr));
}

-- they are the same
looked_at : (tags lines : List ℕ) (addr : ℕ) → look_at tags lines addr ≡ core_look tags lines addr
looked_at tags lines addr =
    let low : set_slot addr ≡ tag_index (set_of addr) 0 = omega arith in
    let word : line_place (set_slot addr) addr ≡ line_index (set_of addr) 0 (half_of addr) = omega arith in
    λ t. record {
      tag0 = slice_index tags (low t);
      tag1 = slice_index tags (set_slot addr + 1);
      data0 = slice_index lines (word t);
      data1 = slice_index lines (line_place (set_slot addr + 1) addr);
    }

-- the multiplier
mul_is : (k : MulKind) → k ≡ mul_of (mul_number k)
mul_is Single = refl
mul_is Fast = refl
mul_is Slow = refl

-- with the setup's settings
shown_is : (s : Setup) (w : Whole State) → w.place.settings ≡ settings_in s
    → in_of s (machine_system w) ≡ inputs_of (shown w.place (reads_of w.main))
unfolding in_of shown reads_of row_of ra_of rb_of
shown_is s w e =
    let irsp = rsp_is w.place.iport in
    let drsp = rsp_is w.place.dport in
    let words = looked_at w.place.tags w.place.lines (looked w.main.words) in
    let with : Settings → InWires = λ (k : Settings). shown (record w.place { settings = k }) (reads_of w.main) in
    let lines = ap (λ (k : Settings). (with k).lines) (sym e) in
    let mul = mul_is s.mul ∙ ap (λ (k : Settings). mul_of (with k).mul) (sym e) in
    λ t. record {
      irsp = irsp t;
      drsp = drsp t;
      igrant = false;
      dgrant = false;
      rega = slice_index w.place.registers (ra_of w.main.id);
      regb = slice_index w.place.registers (rb_of w.main.id);
      look = words t;
      lines = lines t;
      mul = mul t;
    }

-- without a flip of a word that is shown
pub input_is : (s : Setup) (w : Whole State) → w.place.settings ≡ settings_in s → w.place.pending ≡ None
    → in_of s (machine_system w) ≡ inputs_of (look core_parts w.place w.main)
unfolding core_parts changed
input_is s w e none =
    let i : InWires = shown w.place (reads_of w.main) in
    shown_is s w e ∙ subst (λ p. inputs_of i ≡ inputs_of (changed p i)) (sym none) refl
