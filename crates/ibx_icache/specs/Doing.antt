-- What the word port does with the outstanding request, and what follows from that alone. Our own rule.
use Rattle.std.specs.Prelude.{ℕ, ◌+◌, ◌*◌, ◌/◌, Bool, true, false, ◌&&◌, ◌==◌, if◌then◌else◌}
use Rattle.ibx_isa.specs.declared.bus.Req.{Req}
use Rattle.ibx_icache.specs.declared.doing.Doing.{Doing}
use Rattle.ibx_icache.specs.declared.doing.Doing.TheVariants.{Rests, Looks, AsksFirst, AwaitsFirst, AsksSecond}
use Rattle.ibx_icache.specs.declared.doing.Doing.TheVariants.{AwaitsSecond, Answers, AsksBare, AwaitsBare}
use Rattle.ibx_isa.specs.Wires.{no_request, fetch_wires}

-- what a state is; another state acts as 0
unfoldable pub doing_of : ℕ → Doing
doing_of state =
    if state == 1 then Looks else
    if state == 2 then AsksFirst else
    if state == 3 then AwaitsFirst else
    if state == 4 then AsksSecond else
    if state == 5 then AwaitsSecond else
    if state == 6 then Answers else
    if state == 7 then AsksBare else
    if state == 8 then AwaitsBare else
    Rests

-- the number of a state, by which the field holds it
abbrev pub state_of : Doing → ℕ
state_of Rests = 0
state_of Looks = 1
state_of AsksFirst = 2
state_of AwaitsFirst = 3
state_of AsksSecond = 4
state_of AwaitsSecond = 5
state_of Answers = 6
state_of AsksBare = 7
state_of AwaitsBare = 8

-- no request is outstanding
abbrev pub is_rest : Doing → Bool
is_rest Rests = true
is_rest _ = false

-- a cached request is looked up in this cycle
abbrev pub is_look : Doing → Bool
is_look Looks = true
is_look _ = false

-- whether the port answers, by whether the bus answers and whether the line is there
unfoldable pub answers_by : Doing → Bool → Bool → Bool
answers_by Looks came hit = hit
answers_by Answers came hit = true
answers_by AwaitsBare came hit = came
answers_by _ came hit = false

-- a line is stored in the cycle of its second answer
abbrev pub stores_by : Doing → Bool → Bool → Bool → Bool
stores_by AwaitsSecond true good ended = good && ended
stores_by g came good ended = false

-- the wires: a miss asks for the first word of its line and then for the second, an uncached request for its own
unfoldable pub wires_by : Doing → ℕ → Req
wires_by AsksFirst addr = fetch_wires (addr / 8 * 8)
wires_by AsksSecond addr = fetch_wires (addr / 8 * 8 + 4)
wires_by AsksBare addr = fetch_wires (addr / 4 * 4)
wires_by _ addr = no_request

-- what it does after the cycle, by whether its request is granted
unfoldable pub granted_by : Bool → Doing → Doing
granted_by true AsksFirst = AwaitsFirst
granted_by true AsksSecond = AwaitsSecond
granted_by true AsksBare = AwaitsBare
granted_by _ g = g
