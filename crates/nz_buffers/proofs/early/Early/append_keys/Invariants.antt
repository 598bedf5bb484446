-- What the loop keeps.
use Rattle.std.specs.Prelude.{◌≡◌, ◌++◌}
use Rattle.std.specs.Map.{values_of}
use Rattle.nz_base.specs.Log.{keys_of}
use Rattle.nz_buffers.proofs.early.Early.append_keys.Given as goal

-- the keys so far and those to come are all
abbrev pub invariant-loop-entry : goal.invariant-loop-entry
invariant-loop-entry l = l.keys.items ++ keys_of (values_of l.entry-iterator) ≡ l.fn.keys.items ++ keys_of l.fn.self
