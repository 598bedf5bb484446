-- What the loops of the function of this folder keep.
use Rattle.std.proofs.Common.{[], take}
use Rattle.nz_msg.specs.Codec.{ItemsFit}
use Rattle.nz_msg.specs.Fields.{next_key}
use Rattle.nz_msg.proofs.validity.are_all_keys.Given as goal

-- the items so far fit
abbrev pub invariant-loop-place : goal.invariant-loop-place
invariant-loop-place l = ItemsFit next_key [] (take l.place l.list)
