-- What the function of this folder owes, proved.
use Rattle.std.proofs.Common.{◌<◌, ◌≤◌, ◌++◌}
use Rattle.std.proofs.lemmas.Result.{on_ok_weaker}
use Rattle.nz_base.specs.Cluster.{replica_count}
use Rattle.nz_replica.specs.Models.{IsCore}
use Rattle.nz_observe.proofs.Observes.{after_one, after_none}
use Rattle.nz_observe.proofs.observer.Observer.look.Goals as goal

pub returns-in-Some : goal.returns-in-Some
returns-in-Some c =
    on_ok_weaker c.look_at.result (λ look g J H m before next w past here there h.
    let own : (m < replica_count g.f) × IsCore g (H ++ J) m c.in-Some.replica.now = rw c.in-Some.is at there in
    after_one g J H m c.args.tick before c.args.key.now c.args.self.now next here h
    c.in-Some.replica.now c.look_at.new.self w past own.0 own.1 look) c.look_at.ensures

pub returns-in-None : goal.returns-in-None
returns-in-None c = λ g J H m before next w past here there h.
    let other : replica_count g.f ≤ m = rw c.in-None.is at there in
    after_none g J H m c.args.tick before c.args.key.now c.args.self.now next here h other
