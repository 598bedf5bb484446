-- What the loops of the function of this folder keep.
use Rattle.std.proofs.Common.{◌≤◌, ◌-◌, length, take}
use Rattle.nz_edge.specs.Exposed.{Gains}
use Rattle.nz_node.proofs.writing.write_all.Given as goal

-- the sink took the bytes so far
abbrev pub invariant-loop-at : goal.invariant-loop-at
invariant-loop-at g l =
    (l.at ≤ length l.bytes)
    × Gains (g.K.Sink.taken l.initial.sink) (g.K.Sink.taken l.sink) (take l.at l.bytes)
    × (g.K.Sink.faults l.initial.sink ≤ g.K.Sink.faults l.sink)

abbrev pub decreases-loop-at : goal.decreases-loop-at
decreases-loop-at g l = length l.bytes - l.at
