-- What the function of this folder owes, proved.
use Rattle.nz_node.proofs.Turns.{on_err, next_of, took_one, began_none, began_one}
use Rattle.nz_node.proofs.node.turn.Goals as goal

pub returns-in_err-next_event-clause-began : goal.returns-in_err-next_event-clause-began
returns-in_err-next_event-clause-began g c = on_err c.from_residual.result _ (began_none _ _ _ _)

pub returns-in_err-answer-in-Some-clause-began : goal.returns-in_err-answer-in-Some-clause-began
returns-in_err-answer-in-Some-clause-began g c =
    let next = next_of _ _ c.in_ok-next_event.field-0 c.in-Some.event c.in-Some.is c.in_ok-next_event.ensures.next in
    on_err c.from_residual-in_err-answer-in-Some.result _ (began_one _ _ c.in-Some.event _ _ _ _ next c.in_err-answer-in-Some.ensures.began)

pub returns-in_ok-answer-in-Some-clause-took : goal.returns-in_ok-answer-in-Some-clause-took
returns-in_ok-answer-in-Some-clause-took g c = λ is.
    let next = next_of _ _ c.in_ok-next_event.field-0 c.in-Some.event c.in-Some.is c.in_ok-next_event.ensures.next in
    (next.item, took_one _ _ _ c.in-Some.event _ _ _ _ next c.in_ok-answer-in-Some.ensures.node c.in_ok-answer-in-Some.ensures.output)
