-- A run that is watched while it goes on, for a report of it.
use Rattle.std.specs.Prelude.{◌≡◌, ℕ, List}
use Rattle.nz_base.specs.declared.scenario.Scenario.{Scenario}
use Rattle.nz_machine.specs.declared.event.Record.{Record}
use Rattle.nz_machine.specs.declared.journal.Journal.{Journal}
use Rattle.nz_machine.specs.journals.Journals.{run_in}
use Rattle.nz_machine.specs.runs.Schedule.{group_of, InOrder}
use Rattle.nz_machine.specs.rules.State.{Group}
use Rattle.nz_machine.specs.journals.EventNotes.{AreNoted}
use Rattle.nz_observe.specs.Observing.{IsObserving}
use Rattle.nz_observe.specs.declared.observer.Observer.{Observer}
use Rattle.nz_run.specs.Playing.{IsAtEnd, scenario_of, tick_of, run_of}
use Rattle.nz_top.specs.Calls.{IsRun, HasPace}
use Rattle.nz_top.specs.Reports.{printed_by}
use Rattle.nz_top.specs.declared.reports.Report.{Report}
use Rattle.nz_top.specs.declared.reports.Report.TheVariants.{Peek}
use Rattle.nz_top.specs.declared.watching.Watched.{Watched}
use Rattle.nz_top.specs.declared.words.Play.{Play}

-- Where the report is what is observed of a replica, this was observed of it at the ends of the ticks up to this one.
abbrev pub HasObserved : Report → Group → ℕ → List Record → Observer → Type 0
HasObserved (Peek replica key) g tick J o = IsObserving g replica key tick J o
HasObserved _ g tick J o = Unit {0}

-- The ticks were watched up to the one that was played last.
pub record IsWatched (report : Report) (w : Watched) : Type 0 where
  pub at_end : IsAtEnd w.playing
  pub noted : AreNoted (group_of (scenario_of w.playing)) (run_of w.playing) w.notes
  pub observed : HasObserved report (group_of (scenario_of w.playing)) (tick_of w.playing) (run_of w.playing) w.observer

-- The bytes are what is printed of the run, a run of the scenario in order.
pub record IsPrinted (report : Report) (s : Scenario) (j : Journal) (bytes : List ℕ) : Type 0 where
  pub scenario : j.scenario ≡ s
  pub is_run : IsRun j
  pub in_order : InOrder j.scenario (run_in j)
  pub text : bytes ≡ printed_by report j

-- The bytes are what is printed of the run that is kept, a run of the scenario: one worker plays in order.
pub record IsAnswered (play : Play) (s : Scenario) (j : Journal) (bytes : List ℕ) : Type 0 where
  pub scenario : j.scenario ≡ s
  pub is_run : IsRun j
  pub in_order : play.workers ≡ 1 → InOrder j.scenario (run_in j)
  pub pace : play.workers ≡ 1 → HasPace j
  pub text : bytes ≡ printed_by play.report j
