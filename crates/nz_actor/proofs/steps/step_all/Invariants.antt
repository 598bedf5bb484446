-- What the loops of the function of this folder keep.
use Rattle.std.specs.Prelude.{◌≡◌, ◌≤◌, true, take, length, vec_len, vec_capacity}
use Rattle.nz_machine.specs.rules.State.{Group}
use Rattle.nz_fabric.specs.threads.Steps.{node_from, sends_from}
use Rattle.nz_actor.proofs.steps.step_all.Given as goal

abbrev pub invariant-loop-event : goal.invariant-loop-event
invariant-loop-event g l = record {
  len : vec_len l.all ≡ l.event-index;
  room : length l.events ≤ vec_capacity l.all;
  live : g.C.Core.live l.core ≡ true;
  fits : (h : Group) → g.C.Core.fits l.initial.core h → g.C.Core.fits l.core h;
  node : (h : Group) → g.C.Core.fits l.initial.core h → g.C.Core.meaning l.core ≡ node_from h (g.C.Core.meaning l.initial.core) (take l.event-index l.events);
  sends : (h : Group) → g.C.Core.fits l.initial.core h → l.all.items ≡ sends_from h (g.C.Core.meaning l.initial.core) (take l.event-index l.events);
}
