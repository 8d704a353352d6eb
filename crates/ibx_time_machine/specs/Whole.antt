-- What a run of the system comes to, against the history.
use Rattle.std.specs.Prelude.{◌≡◌, ℕ, zero, suc, false}
use Rattle.ibx_time.specs.Settings.{Setup}
use Rattle.ibx_time.specs.History.{history}
use Rattle.ibx_time.specs.BusLines.{BusLine, bus_line}
use Rattle.ibx_time.specs.Shown.{shown}
use Rattle.ibx_time_machine.specs.System.{System, first_system, system_next, shown_of, run}
use Rattle.ibx_time.specs.Runs.{HoldsRam, HoldsRegisters}
use Rattle.ibx_time_machine.specs.Shown.{shown_in}

-- the system after n steps
unfoldable pub steps : Setup → ℕ → System → System
steps s zero x = x
steps s (suc n) x = steps s n (system_next s x)

-- the system before the step of cycle c
abbrev pub system_at : Setup → ℕ → System
system_at s c = steps s c (first_system s)

-- the requests on both ports in cycle c
abbrev pub wires_in : Setup → ℕ → BusLine
wires_in s c =
    record { fetch = (shown_of s (system_at s c)).fetch; load_store = (shown_of s (system_at s c)).load_store }

-- ---- the theorem; what is said of cycles alone stands in ibx_time's `Cycles`

-- the events of n steps are the history
abbrev pub HasEvents : Setup → Type 0
HasEvents s = (n : ℕ) → run s n (first_system s) ≡ history s n

-- in every cycle both ports carry the requests that the history tells
abbrev pub HasWires : Setup → Type 0
HasWires s = (c : ℕ) → wires_in s c ≡ bus_line s c

-- no cycle raises an alert
abbrev pub IsQuiet : Setup → Type 0
IsQuiet s = (c : ℕ) → (shown_of s (system_at s c)).alerts ≡ false

-- before every cycle the core's stage, addresses, CSRs and dummies are those of the history
abbrev pub ShowsHistory : Setup → Type 0
ShowsHistory s = (c : ℕ) → shown_in (system_at s c).main ≡ shown s c

-- before every cycle registers and RAM hold what the history left
abbrev pub HoldsValues : Setup → Type 0
HoldsValues s = (c : ℕ) → HoldsRegisters s c (system_at s c).regs × HoldsRam s c (system_at s c).mem.words
