-- What the loops of the function of this folder keep.
use Rattle.std.proofs.Common.{◌≡◌, true, List}
use Rattle.nz_lane.specs.declared.item.Item.{Item}
use Rattle.nz_lane.specs.Streams.{ahead}
use Rattle.nz_machine.specs.rules.State.{Group}
use Rattle.nz_node.specs.Nodes.{Took}
use Rattle.nz_node.proofs.node.serve.Given as goal

-- the items taken so far
abbrev pub invariant-loop : goal.invariant-loop
invariant-loop g l = record {
  live : g.C.Core.live l.core ≡ true;
  fits : (h : Group) → g.C.Core.fits l.initial.core h → g.C.Core.fits l.core h;
  took : (taken : List Item) × Took (g.C.Core.fits l.initial.core) (g.C.Core.meaning l.initial.core) (g.C.Core.meaning l.core)
      (g.S.Source.left l.initial.source) (ahead l.reader (g.S.Source.left l.source)) (g.K.Sink.taken l.initial.sink) (g.K.Sink.taken l.sink) taken;
}
