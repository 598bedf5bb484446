-- What the function of this folder owes, proved.
use Rattle.std.proofs.Common.{◌∙◌, ap}
use Rattle.nz_fabric.specs.alone.States.{State}
use Rattle.nz_run.proofs.TickByTick.{records_up_to}
use Rattle.nz_run.proofs.playing.Playing.play_tick.Goals as goal

pub returns : goal.returns
returns c =
    let begun = rw c.if-not-branch.false at c.in_ok-next_tick.ensures in
    let played = c.in_ok-play_rest.ensures in
    record {
      at_end = record { done = played.done; under_way = played.under_way };
      scenario = played.scenario ∙ ap (λ (f : State). f.scenario) begun.0;
      within = begun.1;
      tick = played.tick ∙ ap (λ (f : State). f.tick) begun.0;
      earlier = played.earlier ∙ ap (λ (f : State). f.finished) begun.0;
      ticks_before = records_up_to c.args.self.now.alone c.show_invariant.ensures;
      tick_now = c.show_invariant-2.ensures.here;
    }
