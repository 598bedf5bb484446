-- What is reported of a run.
use Rattle.std.specs.Prelude.{ℕ, List, ◌++◌, codes}
use Rattle.nz_base.specs.declared.scenario.Scenario.{Scenario}
use Rattle.nz_machine.specs.declared.journal.Journal.{Journal}
use Rattle.nz_machine.specs.journals.Journals.{group_in, run_in, history_in}
use Rattle.nz_text.specs.Text.{text, summary}
use Rattle.nz_text.specs.Trace.{trace}
use Rattle.nz_story.specs.Story.{story}
use Rattle.nz_locks.specs.Clean.{IsCleanScenario}
use Rattle.nz_locks.specs.Tenures.{hold_lines}
use Rattle.nz_observe.specs.Observed.{observed}
use Rattle.nz_quiet.specs.Pace.{pace_text}
use Rattle.nz_top.specs.declared.reports.Report.{Report}
use Rattle.nz_top.specs.declared.reports.Report.TheVariants.{Text, Trace, Story, Summary, Locks, Peek, Pace}

-- A report that the text of the run follows, after a line of its own.
abbrev pub headed : List ℕ → Journal → List ℕ
headed head j = head ++ (codes "text\n" ++ text (group_in j) (run_in j))

-- What is printed of the run.
abbrev pub printed_by : Report → Journal → List ℕ
printed_by Text j = text (group_in j) (run_in j)
printed_by Trace j = headed (trace (run_in j)) j
printed_by Story j = headed (story j.scenario (run_in j)) j
printed_by Summary j = summary (group_in j) (run_in j)
printed_by Locks j = headed (hold_lines (history_in j)) j
printed_by (Peek replica key) j = headed (observed (group_in j) replica key (run_in j) j.scenario.ticks) j
printed_by Pace j = pace_text (group_in j) (run_in j)

-- What the report asks of the scenario: that of locks, that no command is foul.
abbrev pub Admits : Report → Scenario → Type 0
Admits Text s = Unit {0}
Admits Trace s = Unit {0}
Admits Story s = Unit {0}
Admits Summary s = Unit {0}
Admits Locks s = IsCleanScenario s
Admits (Peek replica key) s = Unit {0}
Admits Pace s = Unit {0}
