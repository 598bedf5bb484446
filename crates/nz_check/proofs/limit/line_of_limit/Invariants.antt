-- What the loops of the function of this folder keep.
use Rattle.std.proofs.Common.{◌≡◌, suc, take}
use Rattle.std.specs.Prelude.{◌==◌, count_by}
use Rattle.nz_script.specs.Bytes.{newline}
use Rattle.nz_check.proofs.limit.line_of_limit.Given as goal

-- one more than the newlines so far
abbrev pub invariant-loop-byte : goal.invariant-loop-byte
invariant-loop-byte l = l.line ≡ suc (count_by (λ byte. byte == newline) (take l.byte-index l.within))
