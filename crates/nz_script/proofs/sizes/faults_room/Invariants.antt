-- What the loops of the function of this folder keep.
use Rattle.std.proofs.Common.{◌≡◌, length, drop, map}
use Rattle.nz_script.specs.Texts.{text_of_lines, fault_line}
use Rattle.nz_script.specs.Sizes.{room_after}
use Rattle.nz_script.proofs.sizes.faults_room.Given as goal

-- what the lines that are left leave of the room that is left
abbrev pub invariant-loop-fault : goal.invariant-loop-fault
invariant-loop-fault l =
    room_after l.room (length (text_of_lines (map fault_line (drop l.fault-index l.faults))))
    ≡ room_after l.fn.room (length (text_of_lines (map fault_line l.faults)))
