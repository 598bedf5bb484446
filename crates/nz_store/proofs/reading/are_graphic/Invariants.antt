-- What the loop of the function of this folder keeps.
use Rattle.std.proofs.Common.{◌≡◌, take}
use Rattle.std.specs.List.{list_all}
use Rattle.nz_store.specs.Grammar.{is_graphic}
use Rattle.nz_store.proofs.reading.are_graphic.Given as goal

-- the bytes so far are graphic, or not
abbrev pub invariant-loop-byte : goal.invariant-loop-byte
invariant-loop-byte l = l.all ≡ list_all is_graphic (take l.byte-index l.bytes)
