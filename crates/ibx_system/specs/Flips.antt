-- A flip: one bit of the system changed.
use Rattle.std.specs.Prelude.{◌≡◌, ℕ, zero, suc, ◌+◌, ◌-◌, ◌<◌, ◌≤◌, ◌^◌, Bool, true, false, not, ◌&&◌, ◌||◌, nat_le}
use Rattle.std.specs.Prelude.{◌==◌, if◌then◌else◌, List, [], ◌∷◌, All, length, slice_index, slice_set, Option, Some}
use Rattle.std.specs.Prelude.{None, bit_xor}
use Rattle.ibx_isa.specs.declared.bus.Req.{Req}
use Rattle.ibx_plan.specs.declared.site.Site.{Site}
use Rattle.ibx_plan.specs.declared.site.Site.TheVariants as site
use Rattle.ibx_plan.specs.declared.site.Flip.{Flip}
use Rattle.ibx_bus.specs.Memory.{MemoryState, memory_flip, is_store, memory_has, index_of}
use Rattle.ibx_bus.specs.Port.{answers, port_flip}
use Rattle.ibx_core.specs.Wires.{InWires as In, OutWires as Out}
use Rattle.ibx_icache.specs.WordPort.{is_bad_tag, is_bad_word}
use Rattle.ibx_system.specs.Core.{Parts, takes0, takes1}
use Rattle.ibx_system.specs.System.{Place, Whole, tag_index, line_index, set_of, half_of, look, writes_register}
use Rattle.ibx_system.specs.System.{writes_way, igrant_of, dgrant_of, fetch_of, load_store_of, next, output_of}
use Rattle.ibx_system.specs.System.{same_bus, alarm}

-- whether there is such a bit
abbrev pub Fits : Site → Place → Type 0
Fits (site.Reg n bit) e = (0 < n) × (n < length e.registers) × (bit < 39)
Fits (site.Tag set way bit) e = (tag_index set way < length e.tags) × (bit < 28)
Fits (site.Line set way half bit) e = (line_index set way half < length e.lines) × (bit < 39)
Fits (site.Output wire bit) e = (wire < 6) × (bit < (if (wire == 2) || (wire == 3) then 28 else 39))
Fits (site.Answer port bit) e = (port < 2) × (bit < 39)
Fits (site.Mem word bit) e = (word < length e.memory.words) × (bit < 39)
Fits _ e = Unit {0}

-- the words with one bit changed
abbrev pub with_flip : List ℕ → ℕ → ℕ → List ℕ
with_flip words n bit = slice_set words n (bit_xor (slice_index words n) (2 ^ bit))

-- the words after a flip in them
unfoldable pub place_flip : Site → Place → Place
place_flip (site.Reg n bit) e = record e { registers = with_flip e.registers n bit }
place_flip (site.Tag set way bit) e = record e { tags = with_flip e.tags (tag_index set way) bit }
place_flip (site.Line set way half bit) e = record e { lines = with_flip e.lines (line_index set way half) bit }
place_flip (site.Output wire bit) e = record e { pending = Some (wire, bit) }
place_flip (site.Answer port bit) e =
    if port == 0 then record e { iport = port_flip e.iport bit } else record e { dport = port_flip e.dport bit }
place_flip (site.Mem word bit) e = record e { memory = memory_flip e.memory word bit }
place_flip _ e = e

-- a list with its n-th entry changed, counted from 0
abbrev pub changed_at : {A : Type 0} → ℕ → (A → A) → List A → List A
changed_at n change [] = []
changed_at zero change (x ∷ xs) = change x ∷ xs
changed_at (suc n) change (x ∷ xs) = x ∷ changed_at n change xs

module _ {S : Type 0} (p : Parts S) where
  -- of the delay's side: by whether the wire is the age, whether it is the kept finding, and the slot
  abbrev pub delay_flip : Bool → Bool → ℕ → ℕ → ℕ → Whole S → Whole S
  delay_flip true told slot wire bit w = record w { age = bit_xor w.age (2 ^ bit) }
  delay_flip false true slot wire bit w = record w { told = not w.told }
  delay_flip false false slot wire bit w = record w { delayed = changed_at slot (p.flip_pair wire bit) w.delayed }

  -- the system after a flip
  unfoldable pub flip : Site → Whole S → Whole S
  flip (site.Main field bit) w = record w { main = p.flip_field field bit w.main }
  flip (site.Shadow field bit) w = record w { shadow = p.flip_field field bit w.shadow }
  flip (site.Delay slot wire bit) w = delay_flip (wire == 36) (wire == 37) slot wire bit w
  flip x w = record w { place = place_flip x w.place }
