-- What the loops of the function of this folder keep.
use Rattle.std.proofs.Common.{◌≡◌, take}
use Rattle.nz_log.specs.Calls.{answers_to, after_calls}
use Rattle.nz_log.proofs.calls.run_calls.Given as goal

abbrev pub invariant-loop-call : goal.invariant-loop-call
invariant-loop-call g l = record {
  answers : l.answers ≡ answers_to (g.L.LogRep.log l.fn.log) (take l.call-index l.fn.calls);
  log : g.L.LogRep.log l.log ≡ after_calls (g.L.LogRep.log l.fn.log) (take l.call-index l.fn.calls);
}
