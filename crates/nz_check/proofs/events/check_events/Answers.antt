-- What the function of this folder owes, proved.
use Rattle.std.proofs.Common.{◌+◌, [], List, take, sym, ap, subst, ◌∙◌, arith}
use Rattle.std.proofs.lemmas.List.{take_all}
use Rattle.nz_machine.specs.declared.client_event.ClientEvent.{ClientEvent}
use Rattle.nz_check.specs.Checked.{first_line, whys, event_why}
use Rattle.nz_check.specs.Noting.{AreNoted}
use Rattle.nz_check.proofs.Passes.{next_line, wrong_line, no_line, take_one, taken}
use Rattle.nz_check.proofs.events.check_events.Goals as goal

pub loop-event-preserved : goal.loop-event-preserved
loop-event-preserved c =
    let p = c.args.printed.now in
    let E = c.as_slice-events.result.now in
    let i = c.loop-event.event-index in
    let e = c.event-item.result in
    let lt = c.loop-event-test.true in
    let inv = c.loop-event.invariant in
    let same = inv.place in
    let t = c.in_ok-why.ensures (take i E) inv.noted (taken E i lt ∙ sym same) in
    record {
      place = omega (arith, same);
      noted = subst (λ (l : List ClientEvent). AreNoted p.history l c.take.new.self) (sym (take_one E i e lt c.event-item.is)) (t.noted c.in_default.is);
      first = next_line (event_why p) E i (c.loop-event.place + 1) e _ lt c.event-item.is (sym t.found ∙ c.in_default.is) inv.first;
    }

pub returns-in-Some : goal.returns-in-Some
returns-in-Some c =
    let p = c.args.printed.now in
    let E = c.as_slice-events.result.now in
    let i = c.loop-event.event-index in
    let inv = c.loop-event.invariant in
    let t = c.in_ok-why.ensures (take i E) inv.noted (taken E i c.loop-event-test.true ∙ sym inv.place) in
    record {
      verdict =
          wrong_line (event_why p) E i (c.loop-event.place + 1) c.event-item.result c.in-Some.why _ c.loop-event-test.true c.event-item.is
          (sym t.found ∙ c.in-Some.is) inv.first
          ∙ ap (λ (l : List ClientEvent). first_line 1 (whys (event_why p) [] l)) c.as_slice-events.ensures;
      noted = λ e. absurd cc;
    }

pub returns : goal.returns
returns c =
    let p = c.args.printed.now in
    let E = c.as_slice-events.result.now in
    let i = c.loop-event.event-index in
    let inv = c.loop-event.invariant in
    record {
      verdict =
          no_line (event_why p) E i (c.loop-event.place + 1) _ c.loop-event-test.false inv.first
          ∙ ap (λ (l : List ClientEvent). first_line 1 (whys (event_why p) [] l)) c.as_slice-events.ensures;
      noted = λ e. subst (λ (l : List ClientEvent). AreNoted p.history l c.loop-event.noted) (take_all i E c.loop-event-test.false ∙ c.as_slice-events.ensures) inv.noted;
    }
