-- Helper definitions of known.rt and story.rt: what is known of replicas after some records.
use Rattle.std.specs.Prelude.{ℕ, List, [], ◌++◌, if◌then◌else◌, codes}
use Rattle.nz_base.specs.Log.{keys_of}
use Rattle.nz_base.specs.declared.key.Key.{Key}
use Rattle.nz_machine.specs.rules.State.{ReplicaData}
use Rattle.nz_story.specs.States.{state_text, came, came_text, is_same}

-- What is shown of a state but for its lists, and the keys of these.
pub record Known : Type 0 where
  pub state : List ℕ
  pub log : List Key
  pub early : List Key
  pub late : List Key

-- The same of a state.
abbrev pub known_of : ReplicaData → Known
known_of s =
    record { state = state_text s; log = keys_of s.log.entries; early = keys_of s.early; late = keys_of s.late }

-- The keys that came to the lists.
abbrev pub lists_between : Known → Known → List ℕ
lists_between before after =
    came_text (codes " log") (came before.log after.log)
    ++ (came_text (codes " early") (came before.early after.early) ++ came_text (codes " late") (came before.late after.late))

-- The line of a step, if it has one.
abbrev pub line_of : List ℕ → List ℕ → List ℕ → List ℕ
line_of before after lists = if is_same before after lists then [] else codes "  now " ++ (after ++ (lists ++ codes "\n"))

-- The same, of what is known before the step and after it.
abbrev pub line_between : Known → Known → List ℕ
line_between before after = line_of before.state after.state (lists_between before after)
