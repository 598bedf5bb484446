-- What the function of this folder owes, proved.
use Rattle.std.proofs.Common.{Ok, [], ◌∷◌, ◌++◌, sym, ap, subst}
use Rattle.nz_lane.specs.Streams.{Held, ahead}
use Rattle.nz_node.specs.Nodes.{Took}
use Rattle.nz_node.proofs.Turns.{on_err, begun, took_then, began_then, began_all}
use Rattle.nz_node.proofs.node.serve.Goals as goal

pub loop-init : goal.loop-init
loop-init g c =
    let fits = g.C.Core.fits c.args.core.now in
    let node = g.C.Core.meaning c.args.core.now in
    let left = g.S.Source.left c.args.source.now in
    let written = g.K.Sink.taken c.args.sink.now in
    record {
      live = c.requires;
      fits = λ h f. f;
      took =
          ([], subst (λ (held : Held). Took fits node node left (ahead held left) written written []) (sym c.new-reader.ensures) (begun fits node left written));
    }

pub returns-in_err-turn-clause-began : goal.returns-in_err-turn-clause-began
returns-in_err-turn-clause-began g c =
    let so_far = c.loop.invariant in
    on_err c.from_residual.result _ (began_then _ _ _ _ _ _ _ _ _ so_far.took.0 so_far.fits so_far.took.1 c.in_err-turn.ensures.began)

pub loop-preserved : goal.loop-preserved
loop-preserved g c =
    let so_far = c.loop.invariant in
    let more = c.in_ok-turn.ensures.took (ap Ok c.if-not-branch.false) in
    record {
      live = c.in_ok-turn.ensures.live;
      fits = λ h f. c.in_ok-turn.ensures.fits h (so_far.fits h f);
      took = (so_far.took.0 ++ more.0 ∷ [], took_then _ _ _ _ _ _ _ _ _ _ _ so_far.took.0 (more.0 ∷ []) so_far.fits so_far.took.1 more.1);
    }

pub returns-clause-began : goal.returns-clause-began
returns-clause-began g c = began_all _ _ _ _ _ _ _ c.loop.invariant.took.0 c.loop.invariant.took.1
