-- A grant after the cycle leaves what a grant in it would have left.
use Rattle.std.proofs.Common.{◌≡◌, ℕ, Bool, true, false, refl}
use Rattle.ibx_isa.specs.declared.event.Access.{Access}
use Rattle.ibx_isa.specs.declared.bus.Rsp.{Rsp}
use Rattle.ibx_isa.specs.Wires.{request_of}
use Rattle.ibx_secded.specs.Code.{payload_of}
use Rattle.ibx_lsu.specs.declared.unit.Lsu.{Lsu}
use Rattle.ibx_lsu.specs.declared.unit.Stage.{Stage}
use Rattle.ibx_lsu.specs.declared.unit.Stage.TheVariants.{AskFirst, AwaitFirst, AskSecond, AwaitSecond}
use Rattle.ibx_lsu.specs.declared.unit.Reply.{Reply}
use Rattle.ibx_lsu.specs.declared.unit.Reply.TheVariants.{Silent, Good, Bad}
use Rattle.ibx_lsu.specs.Turns.{crosses, first_answer, gives, granted_of, next_at, next_of, reply_of, second_answer}
use Rattle.ibx_lsu.specs.Turns.{stage_of, turn_at, turn_of}

-- words are given without a request
gives_silent : (store : Bool) (first second : ℕ) → (gives store first second).req.valid ≡ false
gives_silent true first second = refl
gives_silent false first second = refl

-- so an answer of the first portion drives none
first_silent : (reply : Reply) (two store : Bool) (word : ℕ) → (first_answer reply two store word).req.valid ≡ false
first_silent Silent two store word = refl
first_silent Bad two store word = refl
first_silent Good true store word = refl
first_silent Good false store word = gives_silent store word 0

-- nor does one of the second
second_silent : (reply : Reply) (store : Bool) (first word : ℕ)
    → (second_answer reply store first word).req.valid ≡ false
second_silent Silent store first word = refl
second_silent Bad store first word = refl
second_silent Good store first word = gives_silent store first word

-- where a request is driven, a grant after the cycle is one in it
after_at : (s : Stage) (f : ℕ) (want : Access) (rsp : Rsp) → (turn_at s f want rsp).req.valid ≡ true
    → granted_of (next_at s f want rsp false) ≡ next_at s f want rsp true
after_at AskFirst f want rsp e = refl
after_at AwaitFirst f want rsp e =
    let no = first_silent (reply_of rsp) (crosses want) want.store (payload_of 32 rsp.word) in absurd (cc)
after_at AskSecond f want rsp e = refl
after_at AwaitSecond f want rsp e =
    let no = second_silent (reply_of rsp) want.store f (payload_of 32 rsp.word) in absurd (cc)

-- where none is driven, a grant changes nothing
silent_at : (s : Stage) (f : ℕ) (want : Access) (rsp : Rsp) → (turn_at s f want rsp).req.valid ≡ false
    → next_at s f want rsp true ≡ next_at s f want rsp false
unfolding request_of
silent_at AskFirst f want rsp e = absurd (cc)
silent_at AwaitFirst f want rsp e = refl
silent_at AskSecond f want rsp e = absurd (cc)
silent_at AwaitSecond f want rsp e = refl

-- the first of both of any fields
pub granted_after : (u : Lsu) (want : Access) (rsp : Rsp) → (turn_of u want rsp).req.valid ≡ true
    → granted_of (next_of u want rsp false) ≡ next_of u want rsp true
unfolding turn_of next_of
granted_after u want rsp e = after_at (stage_of u.ls_state) u.ls_first want rsp e

-- and the second
pub granted_silent : (u : Lsu) (want : Access) (rsp : Rsp) → (turn_of u want rsp).req.valid ≡ false
    → next_of u want rsp true ≡ next_of u want rsp false
unfolding turn_of next_of
granted_silent u want rsp e = silent_at (stage_of u.ls_state) u.ls_first want rsp e
