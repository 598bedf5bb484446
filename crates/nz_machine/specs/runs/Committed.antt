-- What accepted prefixes have to do with each other and with the logs that views start with.
use Rattle.std.specs.Prelude.{◌≡◌, ℕ, ◌<◌, ◌⊎◌, List, [], ◌∷◌, Option, Some, None}
use Rattle.std.specs.Option.{option_map, option_and_then}
use Rattle.nz_base.specs.Prefixes.{IsPrefix}
use Rattle.nz_base.specs.declared.actor.Actor.{Actor}
use Rattle.nz_base.specs.declared.actor.Actor.TheVariants.{Proxy}
use Rattle.nz_base.specs.declared.key.Id.{Id}
use Rattle.nz_base.specs.declared.key.Entry.{Entry}
use Rattle.nz_machine.specs.declared.event.Parcel.{Parcel}
use Rattle.nz_machine.specs.declared.event.Record.{Record}
use Rattle.nz_machine.specs.rules.State.{Group}
use Rattle.nz_machine.specs.rules.Quorums.{view_of}
use Rattle.nz_machine.specs.runs.History.{source, decision_moment, deciding_reply}
use Rattle.nz_machine.specs.runs.OneHistory.{Accepts, ArePaired}
use Rattle.nz_machine.specs.runs.Begun.{start}

-- ---- accepted in a view

-- The view of the reply that a proxy's decision names.
abbrev pub view_at_decision : Group → ℕ → Id → List Record → Option ℕ
view_at_decision g p id K = option_map view_of (deciding_reply g p id K)

-- The same, from the record that first sent the answer, which is of a proxy.
abbrev pub view_of_sender : Group → Id → Actor → List Record → Option ℕ
view_of_sender g id (Proxy p) K = option_and_then (view_at_decision g p id) (decision_moment g p id K)
view_of_sender g id _ K = None

-- The view in which an answer that was accepted was decided.
abbrev pub accepted_view : Group → Id → Parcel → List Record → Option ℕ
accepted_view g id p J = option_and_then (view_of_sender g id p.from) (source p J)

-- The record, after the records J, accepts an answer decided in the view, and P is its accepted prefix.
pub record AcceptsIn (g : Group) (v : ℕ) (P : List Entry) (r : Record) (J : List Record) : Type 0 where
  pub accepts : Accepts g P r J
  pub view : accepted_view g accepts.id accepts.brought J ≡ Some v

-- P is an accepted prefix of the run, accepted in the view.
abbrev pub IsAcceptedIn : Group → ℕ → List Entry → List Record → Type 0
IsAcceptedIn g v P [] = ⊥
IsAcceptedIn g v P (r ∷ J) = AcceptsIn g v P r J ⊎ IsAcceptedIn g v P J

-- ---- the prefixes of a run

-- What holds of the accepted prefixes of a run.
pub record Prefixes (g : Group) (J : List Record) : Type 0 where
  -- Each later view starts with what was accepted.
  pub started : (v w : ℕ) (P S : List Entry) → IsAcceptedIn g v P J → v < w → start g w J ≡ Some S → IsPrefix P S
  -- Of two accepted prefixes one begins with the other.
  pub paired : ArePaired g J
