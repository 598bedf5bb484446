-- What the loops of the function of this folder keep.
use Rattle.std.proofs.Common.{◌≡◌, replicate}
use Rattle.nz_machine.specs.journals.ClientProgress.{first_progress}
use Rattle.nz_machine.proofs.client_progress.Clients.new.Given as goal

abbrev pub invariant-loop : goal.invariant-loop
invariant-loop l = l.progress.items ≡ replicate l.counter first_progress
