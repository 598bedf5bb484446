-- What the loops of the function of this folder keep.
use Rattle.std.proofs.Common.{◌≡◌, length, drop}
use Rattle.nz_script.specs.Texts.{text_of_lines, script_lines}
use Rattle.nz_script.specs.Sizes.{room_after}
use Rattle.nz_script.proofs.sizes.script_room.Given as goal

-- what the lines that are left leave of the room that is left
abbrev pub invariant-loop-request : goal.invariant-loop-request
invariant-loop-request l =
    room_after l.room (length (text_of_lines (script_lines (drop l.request-index l.script))))
    ≡ room_after l.fn.room (length (text_of_lines (script_lines l.script)))
