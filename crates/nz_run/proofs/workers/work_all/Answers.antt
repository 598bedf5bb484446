-- What the function of this folder owes, proved.
use denote.Param.Send.{sendable}
use Rattle.nz_run.proofs.Crossing.{fabric_sync}
use Rattle.nz_run.proofs.stage.Stage.TheSendSync.{the_sync as stage_sync}
use Rattle.nz_run.proofs.workers.work_all.Goals as goal

pub for_each_mut-requires-sync-F : goal.for_each_mut-requires-sync-F
for_each_mut-requires-sync-F g c κs within = search (sendable, fabric_sync, stage_sync) depth 40 fits 20000
