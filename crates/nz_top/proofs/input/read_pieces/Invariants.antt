-- What the loops of the function of this folder keep.
use Rattle.std.proofs.Common.{◌≤◌, ◌-◌, vec_len, length}
use Rattle.nz_edge.specs.Exposed.{Loses}
use Rattle.nz_top.proofs.input.read_pieces.Given as goal

-- what was read is what the source has lost so far
abbrev pub invariant-loop-bytes : goal.invariant-loop-bytes
invariant-loop-bytes g l = record {
  lost : Loses (g.S.Source.left l.initial.source) (g.S.Source.left l.source) l.bytes.items;
  most : length l.bytes.items ≤ l.most;
  counts : g.S.Source.faults l.initial.source ≤ g.S.Source.faults l.source;
}

abbrev pub decreases-loop-bytes : goal.decreases-loop-bytes
decreases-loop-bytes g l = l.most - vec_len l.bytes
