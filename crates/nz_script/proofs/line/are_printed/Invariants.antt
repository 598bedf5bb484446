-- What the loop of the function of this folder keeps.
use Rattle.std.proofs.Common.{◌≡◌, take}
use Rattle.std.specs.List.{list_all}
use Rattle.nz_script.specs.Bytes.{is_printed}
use Rattle.nz_script.proofs.line.are_printed.Given as goal

-- the bytes so far are printed, or not
abbrev pub invariant-loop-byte : goal.invariant-loop-byte
invariant-loop-byte l = l.all ≡ list_all is_printed (take l.byte-index l.line)
