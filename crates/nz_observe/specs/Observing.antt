-- An observer, from tick to tick.
use Rattle.std.specs.Prelude.{◌≡◌, ℕ, List, take, if◌then◌else◌, IsTrue}
use Rattle.std.specs.Option.{option_map}
use Rattle.nz_machine.specs.declared.event.Record.{Record}
use Rattle.nz_machine.specs.rules.Replicas.{is_up}
use Rattle.nz_machine.specs.rules.State.{ReplicaData, Group}
use Rattle.nz_laws_commit.specs.Stable.{committed_of}
use Rattle.nz_observe.specs.declared.known.Known.{Known}
use Rattle.nz_observe.specs.declared.observer.Observer.{Observer}
use Rattle.nz_observe.specs.Following.{executed, HasExecuted, IsKnown}
use Rattle.nz_observe.specs.Observed.{sight, after_tick, printed_to}

-- What holds of an observer of the replica after its looks at the ends of the ticks up to this one. J is the run so far.
pub record IsObserving (g : Group) (m : ℕ) (key : List ℕ) (tick : ℕ) (J : List Record) (o : Observer) : Type 0 where
  -- The lines are those of these ticks.
  pub lines : o.lines ≡ printed_to g m key J tick
  -- What is executed was known to be committed.
  pub known : IsKnown g m J o.known

-- What a replica that is up knows to be committed begins with what was executed, unless that is more.
abbrev pub CanExecute : ReplicaData → Known → Type 0
CanExecute s k = IsTrue (is_up s.status) → HasExecuted (take s.commit s.log.entries) k

-- After a look at a replica that is up all that it knows to be committed is executed. What is seen is noted.
abbrev pub after_look : ℕ → List ℕ → ReplicaData → Observer → Observer
after_look tick key s o = record {
  known = if is_up s.status then executed (take s.commit s.log.entries) else o.known;
  lines = after_tick tick (option_map (sight key) (committed_of s)) o.lines;
}
