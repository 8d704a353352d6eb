-- Each grant has one answer, in order, whatever the requests.
use Rattle.std.proofs.Common.{◌≡◌, ℕ, Bool, true, false, not, List, [], ◌∷◌, ◌++◌, refl, sym, ap, ◌∙◌}
use Rattle.std.specs.Prelude.{◌&&◌, ◌==◌}
use Rattle.ibx_isa.specs.declared.bus.Rsp.{Rsp}
use Rattle.ibx_plan.specs.declared.site.Wait.{Wait}
use Rattle.ibx_bus.specs.Memory.{error_of, answered_word}
use Rattle.ibx_bus.specs.Port.{PortState, answers, is_wait_over, new_port, port_moves, port_next}
use Rattle.ibx_bus.specs.PortTimes.{Call, AnswersInOrder, answers_shown, granted_answers, in_front_if, port_after}
use Rattle.ibx_bus.specs.PortTimes.{unanswered}

-- an answer that is there
abbrev answer_with : Bool → ℕ → Rsp
answer_with err word = record { valid = true; err = err; word = word }

-- One call: what was open and what is granted in it is what is shown in it and what is open then. By whether the port
-- is
-- busy, whether its answer is due, whether there is a request and whether its wait is over.
call : (busy due request over : Bool) (p : PortState) (err : Bool) (word : ℕ) (more : List Rsp) → p.busy ≡ busy →
    in_front_if busy (answer_with p.err p.word) (in_front_if (not (busy && not due) && (request && over))
    (answer_with err word) more)
    ≡ in_front_if (busy && due) (answer_with p.err p.word) (unanswered (port_moves (busy && not due) request over p err
    word) ++ more)
unfolding port_moves
call true false request over p err word more e = rw e refl
call true true false over p err word more e = refl
call true true true false p err word more e = refl
call true true true true p err word more e = refl
call false due false over p err word more e = refl
call false due true false p err word more e = refl
call false due true true p err word more e = refl

-- an answer in front of the first of two lists is in front of both
in_front_moves : (b : Bool) (a : Rsp) (xs ys : List Rsp) → in_front_if b a (xs ++ ys) ≡ in_front_if b a xs ++ ys
in_front_moves true a xs ys = refl
in_front_moves false a xs ys = refl

-- the open transaction's answer, if there is one, comes before all later ones
opened : (p : PortState) (xs : List Rsp) → unanswered p ++ xs ≡ in_front_if p.busy (answer_with p.err p.word) xs
opened p xs = sym (in_front_moves p.busy (answer_with p.err p.word) [] xs)

-- from any port on, the open answer and those of the grants are those shown and the one that is open then
in_order : (calls : List Call) (p : PortState) → unanswered p ++ granted_answers calls p ≡ answers_shown calls p ++
    unanswered (port_after calls p)
unfolding granted_answers answers_shown port_after
in_order [] p = opened p []
in_order (c ∷ cs) p =
    let next : PortState = port_next p c.memory c.request in
    opened p (granted_answers (c ∷ cs) p)
    ∙ call p.busy (p.left == 0) c.request.valid (is_wait_over p) p (error_of c.memory c.request)
    (answered_word c.memory c.request) (granted_answers cs next) refl
    ∙ ap (λ (xs : List Rsp). in_front_if (answers p) (answer_with p.err p.word) xs) (in_order cs next)
    ∙ in_front_moves (answers p) (answer_with p.err p.word) (answers_shown cs next) (unanswered (port_after cs next))

-- from a new port on, the grants' answers are those shown and the one still open
pub answers_in_order : (waits : List Wait) (calls : List Call) → AnswersInOrder waits calls
answers_in_order waits calls = in_order calls (new_port waits)
