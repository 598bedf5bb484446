-- What the loops of the function of this folder keep.
use Rattle.std.proofs.Common.{take}
use Rattle.nz_machine.proofs.journals.NewRequests.{AreRead}
use Rattle.nz_machine.proofs.client_progress.Progress.note_sends.Given as goal

abbrev pub invariant-loop-parcel : goal.invariant-loop-parcel
invariant-loop-parcel l = AreRead l.client l.script l.initial.self (take l.parcel-index l.sends) l.self l.initial.events l.events
