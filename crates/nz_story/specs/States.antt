-- What is shown of a replica's state, and of what became of it.
use Rattle.std.specs.Prelude.{ℕ, List, [], ◌∷◌, ◌++◌, length, filter, not, ◌&&◌, Bool, if◌then◌else◌, codes}
use Rattle.std.specs.Fmt.{decimal}
use Rattle.std.specs.List.{flat_map}
use Rattle.std.specs.Str.{bytes_eq}
use Rattle.nz_base.specs.declared.actor.Actor.{Actor}
use Rattle.nz_base.specs.declared.actor.Actor.TheVariants.{Replica, Proxy, Client}
use Rattle.nz_base.specs.declared.key.Key.{Key}
use Rattle.nz_base.specs.Log.{keys_of, has_key}
use Rattle.nz_machine.specs.declared.data.Status.{Status}
use Rattle.nz_machine.specs.declared.data.Status.TheVariants.{Normal, ViewChange, Rejoining, Down}
use Rattle.nz_machine.specs.declared.data.Phase.{Phase}
use Rattle.nz_machine.specs.declared.data.Phase.TheVariants as phases
use Rattle.nz_machine.specs.declared.data.Rejoin.{Rejoin}
use Rattle.nz_machine.specs.declared.event.Record.{Record}
use Rattle.nz_machine.specs.rules.State.{Group, ReplicaData}
use Rattle.nz_machine.specs.runs.World.{state_after}
use Rattle.nz_story.specs.Fields.{number_field, view_field, vector_field, key_word}

-- ---- what is shown of a state beside its lists

-- How far a rejoin is.
abbrev pub phase_text : Phase → Rejoin → List ℕ
phase_text phases.Vectors r = codes "vectors collected " ++ decimal (length r.tellers)
phase_text phases.Views r = codes "views collected " ++ decimal (length r.tells)
phase_text phases.Log r = codes "log"

-- Its view, crash vector, sync point and commit point.
abbrev pub points_text : ReplicaData → List ℕ
points_text s =
    view_field s.view ++ (vector_field s.vector
    ++ (number_field (codes "synced") s.log.synced ++ number_field (codes "commit") s.commit))

-- The same after its mode. Of one that is down nothing else is shown.
abbrev pub state_in : Status → ReplicaData → List ℕ
state_in Normal s = codes "normal" ++ points_text s
state_in ViewChange s = codes "view-change collected " ++ (decimal (length s.reports) ++ points_text s)
state_in Rejoining s = codes "rejoining " ++ (phase_text s.rejoin.phase s.rejoin ++ points_text s)
state_in Down s = codes "down"

-- What is shown of a state, but for its lists.
abbrev pub state_text : ReplicaData → List ℕ
state_text s = state_in s.status s

-- ---- keys that came

-- The keys of a list that it had not before.
abbrev pub came : List Key → List Key → List Key
came before after = filter (λ key. not (has_key before key)) after

-- A key that came.
abbrev pub came_word : Key → List ℕ
came_word key = codes " +" ++ key_word key

-- A list's name and the keys that came to it, if any did.
abbrev pub came_text : List ℕ → List Key → List ℕ
came_text name [] = []
came_text name (key ∷ keys) = name ++ flat_map came_word (key ∷ keys)

-- The keys that came to the log, to early and to late.
abbrev pub lists_text : ReplicaData → ReplicaData → List ℕ
lists_text before after =
    came_text (codes " log") (came (keys_of before.log.entries) (keys_of after.log.entries))
    ++ (came_text (codes " early") (came (keys_of before.early) (keys_of after.early))
    ++ came_text (codes " late") (came (keys_of before.late) (keys_of after.late)))

-- ---- the line

-- Whether there is nothing to show: the same is shown of both states, and no key came.
abbrev pub is_same : List ℕ → List ℕ → List ℕ → Bool
is_same before after lists = bytes_eq before after && bytes_eq lists []

-- The line of a step, if it has one.
abbrev pub now_line : ReplicaData → ReplicaData → List ℕ
now_line before after =
    if is_same (state_text before) (state_text after) (lists_text before after) then []
    else codes "  now " ++ (state_text after ++ (lists_text before after ++ codes "\n"))

-- What became of the actor of a record, if it is a replica.
abbrev pub now_text : Group → Actor → Record → List Record → List ℕ
now_text g (Replica m) r J = now_line (state_after g (Replica m) J) (state_after g (Replica m) (r ∷ J))
now_text g (Proxy p) r J = []
now_text g (Client c) r J = []
