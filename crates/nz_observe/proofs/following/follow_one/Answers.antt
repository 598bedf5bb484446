-- What the function of this folder owes, proved.
use Rattle.std.proofs.Common.{◌≡◌, false, List, Some, sym, ap, subst, ◌∙◌}
use Rattle.std.specs.Prelude.{slice_get}
use Rattle.nz_base.specs.Actor.{actor_eq}
use Rattle.nz_base.specs.declared.actor.Actor.{Actor}
use Rattle.nz_base.specs.declared.actor.Actor.TheVariants.{Replica}
use Rattle.nz_machine.specs.declared.event.Record.{Record}
use Rattle.nz_machine.specs.journals.Journals.{group_in}
use Rattle.nz_replay.specs.Runs.{run_up_to}
use Rattle.nz_replay.proofs.Replays.{core_stays, run_then}
use Rattle.nz_replica.specs.Models.{IsCore}
use Rattle.nz_observe.proofs.Places.{item_at}
use Rattle.nz_observe.proofs.following.follow_one.Goals as goal

pub returns-then-not-is : goal.returns-then-not-is
returns-then-not-is c =
    let j = c.args.journal.now in
    let m = c.args.number in
    let (r, at) = item_at j.records c.args.place c.requires.within in
    let other : actor_eq r.actor (Replica m) ≡ false =
    ap (λ (a : Actor). actor_eq a (Replica m)) (c.requires.actor r at) ∙ sym c.is.ensures.value ∙ c.if-not-is.true in
    subst (λ (K : List Record). IsCore (group_in j) K m c.args.replica.now) (sym (run_then j c.args.place r at))
    (core_stays (group_in j) m r (run_up_to j c.args.place) c.args.replica.now other c.requires.core)

pub returns : goal.returns
returns c =
    let j = c.args.journal.now in
    let m = c.args.number in
    let K = run_up_to j c.args.place in
    let r = c.as_record-step.result.now in
    let at : slice_get j.records c.args.place ≡ Some r = c.get-next.ensures ∙ ap Some (sym c.as_record-step.ensures) in
    subst (λ (J : List Record). IsCore (group_in j) J m c.replay_one.new.core) (sym (run_then j c.args.place r at))
    (c.in_ok-replay_one.ensures.core (group_in j) K c.requires.core)
