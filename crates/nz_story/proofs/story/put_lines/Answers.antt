-- What the function of this folder owes, proved.
use Rattle.std.proofs.Common.{List, ◌++◌, ap, ◌∙◌}
use Rattle.nz_machine.specs.declared.client_event.ClientEvent.{ClientEvent}
use Rattle.nz_machine.specs.declared.event.Parcel.{Parcel}
use Rattle.nz_replay.specs.Runs.{run_up_to}
use Rattle.nz_story.specs.Fates.{sends_lines, sent_by_run}
use Rattle.nz_story.specs.Passes.{counts_of}
use Rattle.nz_story.specs.Story.{events_text}
use Rattle.nz_story.proofs.Following.{world_at, followed_next, number_within, in_turn}
use Rattle.nz_story.proofs.story.put_lines.Goals as goal

pub put_replica-requires-clause-number : goal.put_replica-requires-clause-number
put_replica-requires-clause-number c = λ m by.
    number_within c.args.journal.now c.args.place c.args.next.now c.args.course.now.replicas.items m
    c.requires.world c.requires.at c.requires.followed.count by

pub returns-clause-followed : goal.returns-clause-followed
returns-clause-followed c =
    let journal = c.args.journal.now in
    let J = run_up_to journal c.args.place in
    let f = c.requires.followed in
    let w = world_at journal c.args.place c.args.next.now c.requires.world c.requires.at in
    followed_next journal c.args.place c.args.next.now _ c.requires.at
    (c.in_ok-events.ensures.after J w f.clients)
    (c.put_replica.ensures.count ∙ f.count)
    c.in_ok-put_replica.ensures.watched
    (c.in_ok-put_sends.ensures.counted (sent_by_run J) f.sent
    ∙ ap (λ (ps : List Parcel). counts_of journal.scenario.faults (sent_by_run J ++ ps)) c.as_slice-sends.ensures)

pub returns-clause-written : goal.returns-clause-written
returns-clause-written c =
    let journal = c.args.journal.now in
    let J = run_up_to journal c.args.place in
    let f = c.requires.followed in
    let w = world_at journal c.args.place c.args.next.now c.requires.world c.requires.at in
    in_turn c.args.out.now.items _ _ _ _ _ _
    (c.in_ok-put_events.ensures ∙ ap (λ (E : List ClientEvent). c.args.out.now.items ++ events_text E)
    (c.as_slice.ensures ∙ c.in_ok-events.ensures.events J w f.clients))
    c.in_ok-put_replica.ensures.written
    (c.in_ok-put_sends.ensures.written (sent_by_run J) f.sent
    ∙ ap (λ (ps : List Parcel). c.put_replica.new.out.items ++ sends_lines journal.scenario c.args.next.now.tick (sent_by_run J) ps) c.as_slice-sends.ensures)
