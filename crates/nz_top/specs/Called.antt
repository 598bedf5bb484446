-- What contracts see of a call.
use Rattle.std.specs.Prelude.{Option}
use Rattle.nz_machine.specs.declared.journal.Journal.{Journal}
use Rattle.nz_top.specs.declared.keeping.Unkept.{Unkept}
use Rattle.nz_top.specs.declared.status.Status.{Status}

-- How it ended, and the journal of its run.
pub record Called : Type 0 where
  pub status : Status
  pub journal : Option Journal

-- The journal of a run whose records went.
abbrev pub journal_of : Unkept → Journal
journal_of u = record { scenario = u.scenario; records = u.records }
