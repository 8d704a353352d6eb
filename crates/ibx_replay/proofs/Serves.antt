-- One request: the places, the fill in flight and the other way against the fills that the requests leave.
use Rattle.std.proofs.Common.{◌≡◌, ℕ, ◌+◌, ◌*◌, ◌≤◌, Bool, true, false, not, ◌&&◌, ◌==◌, List, [], ◌∷◌}
use Rattle.std.proofs.Common.{refl, sym, ap, ap₂, ◌∙◌, arith, nat_le, Option, Some, None, if◌then◌else◌}
use Rattle.ibx_arch.specs.Memory.{is_mapped}
use Rattle.ibx_time.specs.Settings.{Settings}
use Rattle.ibx_time.specs.Requests.{Past, Fill, Switch, line_of, slot_of, last_fill, found_slot, victim, is_kept}
use Rattle.ibx_time.specs.Requests.{is_present, is_cached, enabled_at, other_way, request_by, after_request}
use Rattle.ibx_time.specs.Requests.{fill_of, second_answer}
use Rattle.ibx_replay.proofs.Slots.{IsLog, starts, ended_is, between_old}

-- a fill in front, where there is one
abbrev pub front : Option Fill → List Fill → List Fill
front None fills = fills
front (Some x) fills = x ∷ fills

-- the places hold the last fills of all but the one in flight, and the other way is theirs
pub record IsCache (fills : List Fill) (place : ℕ → Option Fill) (other : Bool) (filling : Option Fill) : Type 0 where
  pub stored : List Fill
  pub split : fills ≡ front filling stored
  pub places : (n : ℕ) → last_fill stored n ≡ place n
  pub other_is : other ≡ other_way stored

-- ---- the fill in flight goes to its place

-- the places with one fill more
abbrev pub place_with : Option Fill → (ℕ → Option Fill) → ℕ → Option Fill
place_with None place n = place n
place_with (Some x) place n = if slot_of x.line x.way == n then Some x else place n

-- the other way with one fill more
abbrev pub other_with : Option Fill → Bool → Bool
other_with None other = other
other_with (Some x) other = not x.way

-- the fill in flight is the last one of its place
settled_place : (o : Option Fill) (stored : List Fill) (place : ℕ → Option Fill) (n : ℕ) → last_fill stored n ≡ place n
    → last_fill (front o stored) n ≡ place_with o place n
unfolding last_fill
settled_place None stored place n e = e
settled_place (Some x) stored place n e = ap (λ u. if slot_of x.line x.way == n then Some x else u) e

-- and the other way is that of all fills
settled_other : (o : Option Fill) (stored : List Fill) (other : Bool) → other ≡ other_way stored
    → other_with o other ≡ other_way (front o stored)
settled_other None stored other e = e
settled_other (Some x) stored other e = refl

-- then nothing is in flight
pub settles : (fills : List Fill) (place : ℕ → Option Fill) (other : Bool) (o : Option Fill)
    → IsCache fills place other o
    → IsCache fills (place_with o place) (other_with o other) None
settles fills place other o h =
    record {
      stored = fills;
      split = refl;
      places = λ n. ap (λ fs. last_fill fs n) h.split ∙ settled_place o h.stored place n (h.places n);
      other_is = settled_other o h.stored other h.other_is ∙ ap other_way (sym h.split);
    }

-- ---- what the code decides is what the equations ask

-- a request is cached where the bit is set and the walk has ended
pub cached_by : (ss : List Switch) (fs : List ℕ) (t : ℕ) (on : Bool) → enabled_at ss t ≡ on → IsLog fs (t + 1)
    → is_cached ss fs t ≡ (on && nat_le (starts fs + 256) t)
unfolding is_cached
cached_by ss fs t on e l = ap₂ (λ a b. a && b) e (ended_is fs t l)

-- its fill is kept where memory answers for both words, since the last FENCE.I is long past
pub kept_by : (k : Settings) (fs : List ℕ) (y : Past) (t a : ℕ) → IsLog fs (t + 1) → starts fs + 256 ≤ t
    → is_kept k fs y t a ≡ (is_mapped k.ram (8 * line_of a) && is_mapped k.ram (8 * line_of a + 4))
kept_by k fs y t a l late =
    ap (λ b. b && (is_mapped k.ram (8 * line_of a) && is_mapped k.ram (8 * line_of a + 4)))
    (between_old fs t (second_answer k y t + 1) (earlier fs t l late))
  where
    earlier : (fs : List ℕ) (t : ℕ) → IsLog fs (t + 1) → starts fs + 256 ≤ t → IsLog fs t
    earlier [] t l late = tt
    earlier (f ∷ fs) t l late = (omega (arith, late), l.1)

-- ---- the fill in flight after a request, by its decisions

-- the fill that a request leaves in flight, by its decisions
abbrev pub filling_by : Bool → Bool → Bool → Fill → Option Fill
filling_by true false true x = Some x
filling_by cached present keeps x = None

-- a request adds just that fill
pub fills_by : (b p n : Bool) (slot : ℕ) (way : Bool) (k : Settings) (y : Past) (t a : ℕ)
    → (request_by b p n slot way k y t a).fills ≡ front (filling_by b p n (fill_of k y t a way)) y.fills
unfolding request_by
fills_by false p n slot way k y t a = refl
fills_by true true n slot way k y t a = refl
fills_by true false true slot way k y t a = refl
fills_by true false false slot way k y t a = refl

-- So a request keeps the cache: the fill in flight is stored, and the request's own is in flight, where it has one.
pub serves : (k : Settings) (ss : List Switch) (fs : List ℕ) (y : Past) (t a : ℕ) (place : ℕ
    → Option Fill) (other : Bool)
    → IsCache y.fills place other None
    → IsCache (after_request k ss fs y t a).fills place other
    (filling_by (is_cached ss fs t) (is_present fs y.fills (line_of a) t) (is_kept k fs y t a)
    (fill_of k y t a (victim fs y.fills (line_of a) t)))
serves k ss fs y t a place other h =
    record {
      stored = y.fills;
      split = fills_by (is_cached ss fs t) (is_present fs y.fills (line_of a) t) (is_kept k fs y t a)
          (found_slot fs y.fills (line_of a) t) (victim fs y.fills (line_of a) t) k y t a;
      places = λ n. ap (λ fs. last_fill fs n) h.split ∙ h.places n;
      other_is = h.other_is ∙ ap other_way (sym h.split);
    }
