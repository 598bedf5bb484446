-- What the function of this folder owes, proved.
use Rattle.std.proofs.Common.{sym, ◌∙◌}
use Rattle.nz_check.proofs.Judging.{events_stop, opens_stop, entries_stop, events_pass, opens_pass, entries_pass}
use Rattle.nz_check.proofs.checking.judge.Goals as goal

pub check_events-requires-clause-none : goal.check_events-requires-clause-none
check_events-requires-clause-none c = c.new-noted.ensures c.args.printed.now

pub returns-then-not-is_yes : goal.returns-then-not-is_yes
returns-then-not-is_yes c =
    events_stop c.args.printed.now c.in_ok-events.events (sym c.is_yes.ensures ∙ c.if-not-is_yes.true) c.in_ok-events.ensures.verdict

pub returns-then-not-is_yes-2 : goal.returns-then-not-is_yes-2
returns-then-not-is_yes-2 c =
    let p = c.args.printed.now in
    opens_stop p c.check_opens-opens.result (sym c.is_yes-2.ensures ∙ c.if-not-is_yes-2.true) c.check_opens-opens.ensures
    ∙ sym (events_pass p c.in_ok-events.events (sym c.is_yes.ensures ∙ c.if-not-is_yes.false) c.in_ok-events.ensures.verdict)

pub returns-then-not-is_yes-3 : goal.returns-then-not-is_yes-3
returns-then-not-is_yes-3 c =
    let p = c.args.printed.now in
    entries_stop p c.in_ok-entries.entries (sym c.is_yes-3.ensures ∙ c.if-not-is_yes-3.true) c.in_ok-entries.ensures
    ∙ sym (opens_pass p c.check_opens-opens.result (sym c.is_yes-2.ensures ∙ c.if-not-is_yes-2.false) c.check_opens-opens.ensures)
    ∙ sym (events_pass p c.in_ok-events.events (sym c.is_yes.ensures ∙ c.if-not-is_yes.false) c.in_ok-events.ensures.verdict)

pub returns : goal.returns
returns c =
    let p = c.args.printed.now in
    c.check_end.ensures
    ∙ sym (entries_pass p c.in_ok-entries.entries (sym c.is_yes-3.ensures ∙ c.if-not-is_yes-3.false) c.in_ok-entries.ensures)
    ∙ sym (opens_pass p c.check_opens-opens.result (sym c.is_yes-2.ensures ∙ c.if-not-is_yes-2.false) c.check_opens-opens.ensures)
    ∙ sym (events_pass p c.in_ok-events.events (sym c.is_yes.ensures ∙ c.if-not-is_yes.false) c.in_ok-events.ensures.verdict)
