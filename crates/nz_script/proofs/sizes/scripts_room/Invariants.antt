-- What the loops of the function of this folder keep.
use Rattle.std.proofs.Common.{◌≡◌, length, drop}
use Rattle.nz_script.specs.Texts.{text_of_lines, scripts_lines}
use Rattle.nz_script.specs.Sizes.{room_after}
use Rattle.nz_script.proofs.sizes.scripts_room.Given as goal

-- what the lines that are left leave of the room that is left
abbrev pub invariant-loop-script : goal.invariant-loop-script
invariant-loop-script l = record {
  left : room_after l.room (length (text_of_lines (scripts_lines l.client (drop l.script-index l.scripts))))
      ≡ room_after l.fn.room (length (text_of_lines (scripts_lines 0 l.scripts)));
  counted : l.client ≡ l.script-index;
}
