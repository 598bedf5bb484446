-- What the loops of the function of this folder keep.
use Rattle.std.proofs.Common.{◌≡◌, length, drop, map}
use Rattle.nz_script.specs.Texts.{text_of_lines, skew_line}
use Rattle.nz_script.specs.Sizes.{room_after}
use Rattle.nz_script.proofs.sizes.skews_room.Given as goal

-- what the lines that are left leave of the room that is left
abbrev pub invariant-loop-skew : goal.invariant-loop-skew
invariant-loop-skew l =
    room_after l.room (length (text_of_lines (map skew_line (drop l.skew-index l.skews))))
    ≡ room_after l.fn.room (length (text_of_lines (map skew_line l.skews)))
