-- What the function of this folder owes, proved.
use Rattle.std.proofs.Common.{replicate, ap, ◌∙◌}
use Rattle.nz_machine.specs.declared.data.Status.TheVariants.{Normal}
use Rattle.nz_machine.proofs.facts.StateInvariant.{kept_first}
use Rattle.nz_machine.proofs.state.ReplicaState.new.Goals as goal

pub invariant_of-result : goal.invariant_of-result
invariant_of-result c =
    kept_first c.args.cluster c.args.me _ _ c.requires
    (λ i. record {
      status = Normal;
      clock = 0;
      view = 0;
      last = 0;
      log = (c.new.ensures i).log;
      commit = 0;
      results = c.new-2.ensures.items i;
      vector = (c.zero.ensures ∙ ap (λ n. replicate n 0) c.n-2.ensures) i;
      early = (c.new.ensures i).early;
      late = (c.new.ensures i).late;
      origin = c.new-4.ensures.empty i;
      quiet = 0;
      since = 0;
      reports = c.new-5.ensures.items i;
      rejoin = c.first_rejoin.ensures i;
      ack = (c.in_ok-ack.ensures.items_if_clones_equal (λ y h. h) ∙ ap (λ n. replicate n 0) c.n.ensures) i;
    })
    c.new-3.ensures
