-- What the function of this folder owes, proved.
use Rattle.std.proofs.Common.{◌<◌, ◌++◌, length, List, set, refl, sym, subst, ap, ◌∙◌}
use Rattle.std.proofs.lemmas.Result.{on_ok_weaker}
use Rattle.nz_base.specs.declared.actor.Actor.{Actor}
use Rattle.nz_machine.specs.journals.Journals.{group_in}
use Rattle.nz_machine.specs.declared.event.Record.{Record}
use Rattle.nz_replay.specs.Runs.{run_up_to}
use Rattle.nz_replay.proofs.Replays.{run_then}
use Rattle.nz_story.specs.Courses.{IsWatched, AreWatched}
use Rattle.nz_story.specs.States.{now_text}
use Rattle.nz_story.proofs.Following.{one_acts, all_stay, no_replica, nothing_became}
use Rattle.nz_story.proofs.story.put_replica.Goals as goal

pub returns-in-Replica-clause-watched : goal.returns-in-Replica-clause-watched
returns-in-Replica-clause-watched c =
    let journal = c.args.journal.now in
    let next = c.args.next.now in
    let g = group_in journal in
    let J = run_up_to journal c.args.place in
    let m = c.in-Replica.number in
    let ws = c.args.replicas.now.items in
    let w = c.index_mut.result.now in
    let lt : m < length ws = c.requires.number m c.in-Replica.is in
    let own : IsWatched g J m w = subst (IsWatched g J m) (sym c.index_mut.ensures.value) (c.requires.watched m w lt) in
    on_ok_weaker c.put_now.result (λ is.
    subst (λ (K : List Record). AreWatched g K (set ws m c.put_now.new.self)) (sym (run_then journal c.args.place next c.requires.at))
    (one_acts g next J ws m c.put_now.new.self c.in-Replica.is lt (is g J own) c.requires.watched)) c.put_now.ensures.watched

pub returns-in-Replica-clause-written : goal.returns-in-Replica-clause-written
returns-in-Replica-clause-written c =
    let journal = c.args.journal.now in
    let next = c.args.next.now in
    let g = group_in journal in
    let J = run_up_to journal c.args.place in
    let m = c.in-Replica.number in
    let ws = c.args.replicas.now.items in
    let w = c.index_mut.result.now in
    let lt : m < length ws = c.requires.number m c.in-Replica.is in
    let own : IsWatched g J m w = subst (IsWatched g J m) (sym c.index_mut.ensures.value) (c.requires.watched m w lt) in
    on_ok_weaker c.put_now.result (λ is.
    is g J own ∙ ap (λ (a : Actor). c.args.out.now.items ++ now_text g a next J) (sym c.in-Replica.is)) c.put_now.ensures.written

pub returns-in-Proxy : goal.returns-in-Proxy
returns-in-Proxy c =
    let journal = c.args.journal.now in
    let next = c.args.next.now in
    let g = group_in journal in
    let J = run_up_to journal c.args.place in
    let ws = c.args.replicas.now.items in
    record {
      count = refl;
      watched =
          subst (λ (K : List Record). AreWatched g K ws) (sym (run_then journal c.args.place next c.requires.at))
          (all_stay g next J ws (λ m. no_replica next.actor m c.in-Proxy.is) c.requires.watched);
      written = nothing_became g next.actor next J c.args.out.now.items c.in-Proxy.is;
    }
