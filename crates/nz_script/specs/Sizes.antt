-- Whether a text has at most this many bytes, part by part.
use Rattle.std.specs.Prelude.{ℕ, ◌-◌, nat_le, if◌then◌else◌, List, length, Option, Some, None}
use Rattle.std.specs.Option.{option_map}
use Rattle.nz_store.specs.declared.command.Command.{Command}
use Rattle.nz_store.specs.Reading.{command_of}
use Rattle.nz_script.specs.Texts.{word_text, line_text, choice_of, command_line}

-- What is left of a room when this many bytes are taken.
abbrev pub room_after : ℕ → ℕ → Option ℕ
room_after room n = if nat_le n room then Some (room - n) else None

-- The length of a choice as a word.
abbrev pub choice_len : Option (List ℕ) → ℕ
choice_len choice = length (word_text (choice_of choice))

-- The length of a command's line, without its newline.
abbrev pub command_len : Command → ℕ
command_len c = length (line_text (command_line c))

-- That of the command which the bytes spell.
abbrev pub spelled_len : List ℕ → Option ℕ
spelled_len bytes = option_map command_len (command_of bytes)
