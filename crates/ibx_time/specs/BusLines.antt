-- The wires of each cycle: those of the transaction that is issued and not granted before it. Our own rule.
use Rattle.std.specs.Prelude.{ℕ, ◌+◌, ◌&&◌, nat_le, if◌then◌else◌, List, [], ◌∷◌}
use Rattle.ibx_isa.specs.declared.bus.Req.{Req}
use Rattle.ibx_isa.specs.Wires.{no_request}
use Rattle.ibx_time.specs.Settings.{Setup, settings_of}
use Rattle.ibx_time.specs.Requests.{Transaction}
use Rattle.ibx_time.specs.Streams.{past, requested}
use Rattle.ibx_time.specs.History.{Story, told_below, open_item, with_item}

-- a port's wires in a cycle: those of the transaction that is being driven, if one is
unfoldable pub wires_at : List Transaction → ℕ → Req
wires_at [] c = no_request
wires_at (x ∷ sent) c = if nat_le x.issue c && nat_le c x.grant then x.wires else wires_at sent c

-- the transactions of the fetch port that are issued before t
abbrev pub fetches : Setup → Story → ℕ → List Transaction
fetches s h t = (past (settings_of s) h.times.stream (requested (settings_of s) h.times.stream t)).sent

-- the wires of both ports
pub record BusLine : Type 0 where
  pub fetch : Req
  pub load_store : Req

-- the wires of cycle c, by the story below the next cycle with the item in the stage
unfoldable pub bus_line : Setup → ℕ → BusLine
bus_line s c =
    let h = (told_below s (c + 1)).story in
    let y = with_item s h (open_item s (c + 1) h) in
    record { fetch = wires_at (fetches s y (c + 1)) c; load_store = wires_at y.sent c }
