-- What the function of this folder owes, proved.
use Rattle.std.proofs.Common.{List, ℕ, sym, subst}
use Rattle.std.proofs.lemmas.Result.{on_ok_weaker}
use Rattle.nz_machine.specs.runs.Schedule.{group_of}
use Rattle.nz_observe.specs.Observing.{IsObserving}
use Rattle.nz_run.specs.Playing.{scenario_of, tick_of, run_of}
use Rattle.nz_top.specs.declared.reports.Report.{Report}
use Rattle.nz_top.specs.Watching.{HasObserved}
use Rattle.nz_top.proofs.Watches.{observed_next}
use Rattle.nz_top.proofs.watching.look.Goals as goal

pub returns-in-Peek : goal.returns-in-Peek
returns-in-Peek c = on_ok_weaker c.look.result (λ looks before next observed.
    let p = c.args.playing.now in
    let g = group_of (scenario_of p) in
    let old = c.args.observer.now in
    let new = c.look.new.self in
    subst (λ (report : Report). HasObserved report g (tick_of p) (run_of p) new) (sym c.in-Peek.is)
    (subst (λ (key : List ℕ). IsObserving g c.in-Peek.replica key (tick_of p) (run_of p) new) c.as_slice.ensures
    (observed_next c.in-Peek.replica c.as_slice.result.now before p old new c.tick.result c.replica.result next c.tick.ensures
    c.replica.ensures looks
    (subst (λ (key : List ℕ). IsObserving (group_of (scenario_of before)) c.in-Peek.replica key (tick_of before) (run_of before) old) (sym c.as_slice.ensures)
    (subst (λ (report : Report). HasObserved report (group_of (scenario_of before)) (tick_of before) (run_of before) old) c.in-Peek.is observed))))) c.look.ensures
