-- What the loops of the function of this folder keep.
use Rattle.std.proofs.Common.{◌≡◌, ◌≤◌, length}
use Rattle.nz_lane.specs.Streams.{ahead}
use Rattle.nz_lane.proofs.lane_reader.LaneReader.fill.Given as goal

-- nothing is lost, and each turn took a byte
abbrev pub invariant-loop : goal.invariant-loop
invariant-loop g l = record {
  same : ahead l.initial.self (g.S.Source.left l.initial.source) ≡ ahead l.self (g.S.Source.left l.source);
  place : l.self.place ≡ l.initial.self.place;
  many : l.counter ≤ length l.self.bytes;
  counts : g.S.Source.faults l.initial.source ≤ g.S.Source.faults l.source;
}
