-- A cycle of the load-store unit: what it drives, what the access comes to, and its fields after the cycle.
-- The order of the portions is this core's own rule; the wires of an access are its portions' words (Unprivileged ISA,
-- 2.6).
use Rattle.std.specs.Prelude.{ℕ, Bool, true, false, not, ◌||◌, ◌==◌, if◌then◌else◌}
use Rattle.ibx_isa.specs.Portions.{parts_of}
use Rattle.ibx_isa.specs.Wires.{no_request, request_of}
use Rattle.ibx_isa.specs.declared.event.Access.{Access}
use Rattle.ibx_isa.specs.declared.bus.Req.{Req}
use Rattle.ibx_isa.specs.declared.bus.Rsp.{Rsp}
use Rattle.ibx_secded.specs.Code.{encode_of, syndrome_of, payload_of}
use Rattle.ibx_lsu.specs.declared.unit.Lsu.{Lsu}
use Rattle.ibx_lsu.specs.declared.unit.LsTurn.{LsTurn}
use Rattle.ibx_lsu.specs.declared.unit.Stage.{Stage}
use Rattle.ibx_lsu.specs.declared.unit.Stage.TheVariants.{AskFirst, AwaitFirst, AskSecond, AwaitSecond}
use Rattle.ibx_lsu.specs.declared.unit.Reply.{Reply}
use Rattle.ibx_lsu.specs.declared.unit.Reply.TheVariants.{Silent, Good, Bad}

-- what a state is about: 0 and 1 ask for the first portion, 2 awaits its answer, 3 and 4 ask for the second portion,
-- and 5 awaits its answer. Another state acts as 0
abbrev pub stage_of : ℕ → Stage
stage_of state = if state == 2 then AwaitFirst else if (state == 3) || (state == 4) then AskSecond else if state == 5
    then AwaitSecond else AskFirst

-- an answer is bad where it is a bus error, or where a bit of its word was flipped
abbrev pub reply_of : Rsp → Reply
reply_of rsp = if rsp.valid then (if rsp.err || not (syndrome_of 32 7 rsp.word == 0) then Bad else Good) else Silent

-- whether the access has a second portion
abbrev pub crosses : Access → Bool
crosses want = parts_of want.addr want.size == 2

-- a cycle that asks for a portion, one that waits, one that ends the access with a fault of a portion, and one that
-- ends it with words
abbrev pub asks : Req → LsTurn
asks req = record { req = req; done = false; fault = 0; first = 0; second = 0 }

-- drives nothing, and the access goes on
abbrev pub awaits : LsTurn
awaits = record { req = no_request; done = false; fault = 0; first = 0; second = 0 }

-- ends the access with the fault of its first (1) or second (2) portion
abbrev pub faults : ℕ → LsTurn
faults part = record { req = no_request; done = true; fault = part; first = 0; second = 0 }

-- ends the access without a fault; a load has the words of its portions
abbrev pub gives : Bool → ℕ → ℕ → LsTurn
gives true first second = record { req = no_request; done = true; fault = 0; first = 0; second = 0 }
gives false first second = record { req = no_request; done = true; fault = 0; first = first; second = second }

-- the answer of the first portion, by whether there is a second one and whether it is a store
abbrev pub first_answer : Reply → Bool → Bool → ℕ → LsTurn
first_answer Silent two store word = awaits
first_answer Bad two store word = faults 1
first_answer Good true store word = awaits
first_answer Good false store word = gives store word 0

-- the same of the second portion, with the word that the first one gave
abbrev pub second_answer : Reply → Bool → ℕ → ℕ → LsTurn
second_answer Silent store first word = awaits
second_answer Bad store first word = faults 2
second_answer Good store first word = gives store first word

-- a cycle by its stage: one that asks drives the portion's wires, and one that awaits goes by the answer
abbrev pub turn_at : Stage → ℕ → Access → Rsp → LsTurn
turn_at AskFirst first want rsp = asks (request_of (encode_of 32 7) want false)
turn_at AwaitFirst first want rsp = first_answer (reply_of rsp) (crosses want) want.store (payload_of 32 rsp.word)
turn_at AskSecond first want rsp = asks (request_of (encode_of 32 7) want true)
turn_at AwaitSecond first want rsp = second_answer (reply_of rsp) want.store first (payload_of 32 rsp.word)

-- the cycle of an access for this answer
unfoldable pub turn_of : Lsu → Access → Rsp → LsTurn
turn_of u want rsp = turn_at (stage_of u.ls_state) u.ls_first want rsp

-- the fields with no access, and while a portion is asked for or awaited; the first word is kept for a second portion
-- alone
abbrev pub idle_of : Lsu
idle_of = record { ls_state = 0; ls_first = 0 }

-- the first portion was asked for, and granted or not
abbrev pub asked_first : Bool → Lsu
asked_first true = record { ls_state = 2; ls_first = 0 }
asked_first false = record { ls_state = 1; ls_first = 0 }

-- the same of the second, with the first portion's word kept
abbrev pub asked_second : Bool → ℕ → Lsu
asked_second true first = record { ls_state = 5; ls_first = first }
asked_second false first = record { ls_state = 4; ls_first = first }

-- the fields after a cycle in which the first portion's answer was awaited, by that answer and whether there is a
-- second portion
abbrev pub after_first : Reply → Bool → ℕ → Lsu
after_first Silent two word = record { ls_state = 2; ls_first = 0 }
after_first Bad two word = idle_of
after_first Good true word = record { ls_state = 3; ls_first = word }
after_first Good false word = idle_of

-- the same of the second portion: the unit is idle once it is answered
abbrev pub after_second : Reply → ℕ → Lsu
after_second Silent first = record { ls_state = 5; ls_first = first }
after_second Bad first = idle_of
after_second Good first = idle_of

-- the fields after a cycle, by its stage
abbrev pub next_at : Stage → ℕ → Access → Rsp → Bool → Lsu
next_at AskFirst first want rsp granted = asked_first granted
next_at AwaitFirst first want rsp granted = after_first (reply_of rsp) (crosses want) (payload_of 32 rsp.word)
next_at AskSecond first want rsp granted = asked_second granted first
next_at AwaitSecond first want rsp granted = after_second (reply_of rsp) first

-- the fields after the cycle
unfoldable pub next_of : Lsu → Access → Rsp → Bool → Lsu
next_of u want rsp granted = next_at (stage_of u.ls_state) u.ls_first want rsp granted

-- the fields once the request that was driven in the cycle before is granted after all
abbrev pub granted_of : Lsu → Lsu
granted_of u = record u { ls_state = if u.ls_state == 1 then 2 else if u.ls_state == 4 then 5 else u.ls_state }
