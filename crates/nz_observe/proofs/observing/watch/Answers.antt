-- What the function of this folder owes, proved.
use Rattle.std.proofs.Common.{◌≡◌, ℕ, ◌+◌, List, refl, sym, subst, arith}
use Rattle.nz_machine.specs.declared.event.Record.{Record}
use Rattle.nz_machine.specs.journals.Journals.{group_in, run_in}
use Rattle.nz_machine.specs.runs.World.{World}
use Rattle.nz_machine.proofs.runs.Moments.{at_world}
use Rattle.nz_replay.specs.Runs.{run_up_to}
use Rattle.nz_replica.specs.Models.{IsCore}
use Rattle.nz_observe.specs.Following.{IsEndOf}
use Rattle.nz_observe.specs.Observing.{IsObserving}
use Rattle.nz_observe.proofs.Follows.{first_core}
use Rattle.nz_observe.proofs.Rising.{IsNextTick, up_to_later, at_count, ends_first, next_tick, whole_run}
use Rattle.nz_observe.proofs.observing.watch.Goals as goal

pub loop-before-init : goal.loop-before-init
loop-before-init c = record {
  end = ends_first c.args.journal.now c.requires.scheduled;
  core = first_core (group_in c.args.journal.now) c.args.number c.in_ok-replica.replica c.in_ok-replica.ensures;
  observing = c.new-observer.ensures (group_in c.args.journal.now) c.args.number c.args.key.now;
}

pub follow_to-requires-clause-earlier : goal.follow_to-requires-clause-earlier
follow_to-requires-clause-earlier c =
    up_to_later c.loop-before.before (c.loop-before.before + 1) (run_up_to c.args.journal.now c.loop-before.count) (omega arith) c.loop-before.invariant.end.past

pub loop-before-preserved : goal.loop-before-preserved
loop-before-preserved c =
    let j = c.args.journal.now in
    let g = group_in j in
    let m = c.args.number in
    let key = c.args.key.now in
    let before = c.loop-before.before in
    let old = run_up_to j c.loop-before.count in
    let new = run_up_to j c.in_ok-count.count in
    let followed = c.in_ok-count.ensures in
    let tick : IsNextTick before old new =
    next_tick j before c.loop-before.count c.in_ok-count.count c.requires.scheduled c.loop-before.invariant.end followed.end in
    record {
      end = followed.end;
      core = followed.core;
      observing =
          subst (λ (J : List Record). IsObserving g m key (before + 1) J c.look.new.self) (sym tick.whole)
          (c.in_ok-look.ensures g old tick.now m before refl
          (subst (World g) tick.whole (at_world g (run_in j) new c.requires.world (at_count j c.in_ok-count.count)))
          c.loop-before.invariant.end.past tick.here
          (c.requires.member, subst (λ (J : List Record). IsCore g J m c.follow_to.new.replica) tick.whole followed.core)
          c.loop-before.invariant.observing);
    }

pub returns : goal.returns
returns c =
    let j = c.args.journal.now in
    let last : c.loop-before.before ≡ j.scenario.ticks = omega arith in
    subst (λ (J : List Record). IsObserving (group_in j) c.args.number c.args.key.now j.scenario.ticks J c.loop-before.observer)
    (whole_run j c.loop-before.count c.requires.scheduled (subst (λ (t : ℕ). IsEndOf j t c.loop-before.count) last c.loop-before.invariant.end))
    (subst (λ (t : ℕ). IsObserving (group_in j) c.args.number c.args.key.now t (run_up_to j c.loop-before.count) c.loop-before.observer) last
    c.loop-before.invariant.observing)
