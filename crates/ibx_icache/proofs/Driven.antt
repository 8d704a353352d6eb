-- The rules of what a cycle drives, for a value that is known to be it.
use Rattle.std.proofs.Common.{◌≡◌, ◌≢◌, ◌==◌, ◌/◌, ◌%◌, ◌<◌, ◌≤◌, Bool, true, false, ap, sym, ◌∙◌, subst}
use Rattle.std.specs.Bool.{Decides}
use Rattle.ibx_secded.specs.Code.{syndrome_of}
use Rattle.ibx_icache.specs.declared.port.WordPort.{WordPort}
use Rattle.ibx_icache.specs.declared.wires.CacheIn.{CacheIn}
use Rattle.ibx_icache.specs.declared.wires.CacheOut.{CacheOut}
use Rattle.ibx_icache.specs.WordPort.{look_of, out_of, word_in}
use Rattle.ibx_icache.specs.Rules.{Empties, IsBad, IsFetch, IsStored, StoresLine}
use Rattle.ibx_icache.proofs.Written.{aligned_by, bus, empties, fetches, keeps, minor, no_internal, stored, stores}

-- the bus: no request or a fetch, at a word's address
pub out_fetches : (w : WordPort) (i : CacheIn) (o : CacheOut) → o ≡ out_of w (word_in i) → IsFetch o.bus
out_fetches w i o e = subst (λ (x : CacheOut). IsFetch x.bus) (sym e) (fetches w (word_in i))

-- its address is a multiple of 4, also in a cycle without a request
pub out_aligned : (w : WordPort) (i : CacheIn) (o : CacheOut) → o ≡ out_of w (word_in i) → o.bus.addr % 4 ≡ 0
out_aligned w i o e = aligned_by o.bus (out_fetches w i o e)

-- the words that are written: a line only where one is stored, and then that line; the walk's set while it lasts, and
-- none after it
pub out_stored : (w : WordPort) (i : CacheIn) (o : CacheOut) → o ≡ out_of w (word_in i) → o.ways ≢ 0
    → IsStored w (word_in i)
out_stored w i o e n = stored w (word_in i) (λ z. n (ap (λ (x : CacheOut). x.ways) e ∙ z))

-- a line that may be stored is stored, into the way that its miss fills
pub out_stores : (w : WordPort) (i : CacheIn) (o : CacheOut) → o ≡ out_of w (word_in i) → IsStored w (word_in i)
    → StoresLine w (word_in i) o
out_stores w i o e s = subst (λ (x : CacheOut). StoresLine w (word_in i) x) (sym e) (stores w (word_in i) s)

-- while the walk lasts each cycle empties its set, and writes no way
pub out_empties : (w : WordPort) (i : CacheIn) (o : CacheOut) → o ≡ out_of w (word_in i) → w.c_walk < 256
    → Empties w.c_walk o
out_empties w i o e low = subst (λ (x : CacheOut). Empties w.c_walk x) (sym e) (empties w (word_in i) low)

-- once all 256 sets were walked through, none is emptied
pub out_keeps : (w : WordPort) (i : CacheIn) (o : CacheOut) → o ≡ out_of w (word_in i) → 256 ≤ w.c_walk
    → o.clear ≡ false
out_keeps w i o e high = ap (λ (x : CacheOut). x.clear) e ∙ keeps w (word_in i) high

-- the alerts: MINOR at a bad way, BUS at a flipped word of the bus, and never INTERNAL
pub out_minor : (w : WordPort) (i : CacheIn) (o : CacheOut) → o ≡ out_of w (word_in i)
    → Decides (o.alerts.0 % 2 == 1) ((w.c_state ≡ 1) × ((way : Bool) × IsBad (look_of i.tags i.lanes) w.c_addr way))
out_minor w i o e =
    subst (λ (x : CacheOut). Decides (x.alerts.0 % 2 == 1)
    ((w.c_state ≡ 1) × ((way : Bool) × IsBad (look_of i.tags i.lanes) w.c_addr way))) (sym e)
    (minor w (word_in i))

-- BUS tells of every word that the bus answers with a flipped bit, and of nothing else
pub out_bus : (w : WordPort) (i : CacheIn) (o : CacheOut) → o ≡ out_of w (word_in i)
    → Decides (o.alerts.0 / 4 == 1) ((i.rsp.valid ≡ true) × (syndrome_of 32 7 i.rsp.word ≢ 0))
out_bus w i o e = subst (λ (x : CacheOut). Decides (x.alerts.0 / 4 == 1)
    ((i.rsp.valid ≡ true) × (syndrome_of 32 7 i.rsp.word ≢ 0))) (sym e) (bus w (word_in i))

-- INTERNAL, bit 1 of the alerts, stays low in every cycle
pub out_internal : (w : WordPort) (i : CacheIn) (o : CacheOut) → o ≡ out_of w (word_in i) → o.alerts.0 / 2 % 2 ≡ 0
out_internal w i o e = ap (λ (x : CacheOut). x.alerts.0 / 2 % 2) e ∙ no_internal w (word_in i)

-- all of these, for automatic proofs
pub ruleset out_rules =
    (out_fetches, out_aligned, out_stored, out_stores, out_empties, out_keeps, out_minor, out_bus, out_internal)
