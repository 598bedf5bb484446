-- What the function of this folder owes, proved.
use Rattle.nz_client.proofs.Windows.{filling_none, filling_more}
use Rattle.nz_client.proofs.state.ClientState.fill_window.Goals as goal

pub loop-init : goal.loop-init
loop-init c = filling_none c.args.self.now c.free_places-end.result c.args.sends.now c.free_places-end.ensures.free c.free_places-end.ensures.few

pub loop-preserved : goal.loop-preserved
loop-preserved c =
    filling_more c.args.self.now c.loop.self c.open_next.new.self c.free_places-end.result c.loop.counter c.args.sends.now c.loop.sends c.open_next.new.sends
    c.loop-test.true c.loop.invariant c.in_ok-open_next.ensures.rule.state c.in_ok-open_next.ensures.rule.sends
