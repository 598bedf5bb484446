-- What the function of this folder owes, proved.
use Rattle.nz_top.proofs.Watches.{watched_first}
use Rattle.nz_top.proofs.watching.watch_all.Goals as goal

pub ticks-init : goal.ticks-init
ticks-init c =
    let p = c.in_ok-new.ensures in
    record {
      watched =
          watched_first c.args.report.now c.args.scenario.now _ p.at_end p.scenario p.tick p.run c.in_ok-new-2.ensures
          c.new-3.ensures;
      scenario = p.scenario;
    }
