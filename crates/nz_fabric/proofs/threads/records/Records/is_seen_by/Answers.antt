-- What the function of this folder owes, proved.
use Rattle.std.proofs.Common.{◌≡◌, List, ap, subst}
use Rattle.std.specs.Prelude.{reverse, IsTrue, ◌↔◌, ◌==◌}
use mathlib.Core.List.{IsPrefix}
use Rattle.nz_machine.specs.declared.event.Record.{Record}
use Rattle.nz_fabric.specs.threads.Records.{steps_of}
use Rattle.nz_fabric.proofs.several_threads.Counting.{count_is, all_seen_if}
use Rattle.nz_fabric.proofs.threads.records.Records.is_seen_by.Goals as goal

pub returns : goal.returns
returns g c =
    let f = c.self.inside in
    let lane = c.lane.inside in
    let inv = c.self.invariant in
    let records : List Record = f.records.records in
    let J : List Record = reverse records in
    let count = c.index.result.now in
    let read = count_is J f.counts.items lane.actor c.place_of.result count inv.1 c.place_of.ensures.number c.place_of.ensures.within c.index.ensures in
    let same : records ≡ c.args.self.now.records = ap (λ (x : _). x.records) c.self.view_is in
    let prefix : IsPrefix records c.both-known.result = subst (λ (rs : List Record). IsPrefix rs c.both-known.result) inv.0 c.both-known.ensures.this in
    subst (λ (rs : List Record). IsTrue (lane.count == count) ↔ (c.args.lane.now ≡ steps_of c.args.lane.now.actor (reverse rs))) same
    (all_seen_if records lane.seen c.both-known.result lane.actor c.args.lane.now lane.count count prefix c.both-known.ensures.that
    c.lane.view_is c.lane.invariant read)
