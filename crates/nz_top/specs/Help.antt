-- What the program says of its commands.
use Rattle.std.specs.Prelude.{ℕ, List, [], ◌∷◌, codes}
use Rattle.std.specs.List.{concat}

-- A line for each command.
abbrev pub command_lines : List (List ℕ)
command_lines =
    codes "nezha run [--workers N] < SCENARIO      plays it; prints what the clients saw, and the history\n" ∷
    codes "nezha trace [--workers N] < SCENARIO    the same, after a line for each step\n" ∷
    codes "nezha story [--workers N] < SCENARIO    the same, after what each step changed and sent\n" ∷
    codes "nezha locks [--workers N] < SCENARIO    the same, after who held which lock\n" ∷
    codes "nezha peek ACTOR KEY < SCENARIO         the same, after what a replica knew of the key\n" ∷
    codes "nezha pace < SCENARIO                   plays it; prints how many ticks requests took\n" ∷
    codes "nezha gen SEED COUNT                    plays a drawn scenario; prints counts\n" ∷
    codes "nezha scenario SEED COUNT               prints the drawn scenario\n" ∷
    codes "nezha check < TEXT                      judges what `run` printed\n" ∷
    codes "nezha help                              prints this\n" ∷ []

-- All of them.
unfoldable pub help_lines : List ℕ
help_lines = concat command_lines
