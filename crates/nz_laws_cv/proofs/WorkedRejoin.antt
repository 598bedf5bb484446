-- The worked run in which a replica crashes and rejoins has knowledge and views, by the laws.
use Rattle.nz_machine.specs.runs.Begun.{Views}
use Rattle.nz_machine.specs.runs.Knowledge.{Knowledge}
use Rattle.nz_machine.proofs.worked.WorkedRuns.{group}
use Rattle.nz_machine.proofs.worked.RejoinRun.{strayed, is_run}
use Rattle.nz_laws_cv.proofs.Showing.{shows}
use Rattle.nz_laws_cv.proofs.Known.{knowledge_at, views_of}

pub is_known : Knowledge group strayed
is_known = knowledge_at group strayed is_run (shows group strayed is_run)

pub has_views : Views group strayed
has_views = views_of group strayed is_run (shows group strayed is_run)
