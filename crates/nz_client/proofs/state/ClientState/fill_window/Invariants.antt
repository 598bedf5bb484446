-- What the loops of the function of this folder keep.
use Rattle.nz_client.proofs.Windows.{IsFilling}
use Rattle.nz_client.proofs.state.ClientState.fill_window.Given as goal

abbrev pub invariant-loop : goal.invariant-loop
invariant-loop l = IsFilling l.initial.self l.self l.end l.counter l.initial.sends l.sends
