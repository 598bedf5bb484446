-- What the function of this folder owes, proved.
use Rattle.std.proofs.Common.{arith, inl}
use Rattle.nz_lane.proofs.Sizes.{size_known}
use Rattle.nz_lane.proofs.lane_reader.LaneReader.fill.Goals as goal

pub returns-clause-whole : goal.returns-clause-whole
returns-clause-whole g c = inl (omega (arith, c.loop.invariant.many, c.loop-test.false, (size_known c.loop.self.bytes).most))
