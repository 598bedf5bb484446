-- What the loops of the function of this folder keep.
use Rattle.std.proofs.Common.{◌≡◌, take}
use Rattle.nz_node.specs.Nodes.{frames_of}
use Rattle.nz_node.proofs.writing.frames_of.Given as goal

abbrev pub invariant-loop-shared : goal.invariant-loop-shared
invariant-loop-shared l = l.bytes.items ≡ frames_of (take l.shared-index l.shared-items)
