-- What the loops of the function of this folder keep.
use Rattle.std.proofs.Common.{◌≡◌}
use Rattle.nz_machine.specs.rules.Clients.{attempt_after_wait}
use Rattle.nz_client.proofs.Windows.{done_to}
use Rattle.nz_client.proofs.state.wait_each.Given as goal

abbrev pub invariant-loop-attempt : goal.invariant-loop-attempt
invariant-loop-attempt l = l.attempts ≡ done_to (attempt_after_wait l.proxies) l.attempt-index l.initial.attempts
