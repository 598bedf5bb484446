-- What the function of this folder owes, proved.
use Rattle.std.proofs.Common.{◌≡◌, ℕ, List, Ok, subst}
use Rattle.nz_msg.specs.Messages.{body_at}
use Rattle.nz_msg.specs.Reading.{Fails}
use Rattle.nz_msg.proofs.Envelopes.{decoded_by, fault_placed, frame_small, fault_refused, refused_by, rest_is_body}
use Rattle.nz_msg.proofs.coding.read.Goals as goal

pub returns-in-Err-clause-refused : goal.returns-in-Err-clause-refused
returns-in-Err-clause-refused c = refused_by c.args.frame.now c.in-Err.refusal c.in-Err.ensures.refused

pub returns-in-Ok-message_in-clause-decoded : goal.returns-in-Ok-message_in-clause-decoded
returns-in-Ok-message_in-clause-decoded c =
    let v = c.in-Ok.view in
    let whole = rest_is_body c.args.frame.now v.kind v.from v.to v.body.now c.body.result.now c.in-Ok.ensures.frame c.body.ensures.body in
    decoded_by c.args.frame.now v.kind v.from v.to v.body.now c.actor_of-from.result c.actor_of-to.result
    (Ok c.in-Ok-message_in.message) c.in-Ok.ensures.accepted c.in-Ok.ensures.frame c.actor_of-from.ensures c.actor_of-to.ensures
    (subst (λ (xs : List ℕ). body_at v.kind xs ≡ Ok c.in-Ok-message_in.message) whole c.in-Ok-message_in.ensures)

pub placed-requires-clause-fault : goal.placed-requires-clause-fault
placed-requires-clause-fault c =
    let v = c.in-Ok.view in
    let whole = rest_is_body c.args.frame.now v.kind v.from v.to v.body.now c.body.result.now c.in-Ok.ensures.frame c.body.ensures.body in
    rw c.len.ensures (fault_placed c.args.frame.now v.kind v.from v.to v.body.now c.in-Err-message_in.fault c.in-Ok.ensures.frame
    (subst (λ (xs : List ℕ). Fails c.in-Err-message_in.fault (body_at v.kind xs)) whole c.in-Err-message_in.ensures))

pub placed-requires-clause-size : goal.placed-requires-clause-size
placed-requires-clause-size c =
    let v = c.in-Ok.view in
    rw c.len.ensures (frame_small c.args.frame.now v.kind v.from v.to v.body.now c.in-Ok.ensures.frame)

pub returns-in-Err-message_in-clause-refused : goal.returns-in-Err-message_in-clause-refused
returns-in-Err-message_in-clause-refused c =
    let v = c.in-Ok.view in
    let whole = rest_is_body c.args.frame.now v.kind v.from v.to v.body.now c.body.result.now c.in-Ok.ensures.frame c.body.ensures.body in
    rw (c.placed.ensures, c.len.ensures) (fault_refused c.args.frame.now v.kind v.from v.to v.body.now c.actor_of-from.result c.actor_of-to.result
    c.in-Err-message_in.fault c.in-Ok.ensures.accepted c.in-Ok.ensures.frame c.actor_of-from.ensures c.actor_of-to.ensures
    (subst (λ (xs : List ℕ). Fails c.in-Err-message_in.fault (body_at v.kind xs)) whole c.in-Err-message_in.ensures))
