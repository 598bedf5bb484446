-- What the function of this folder owes, proved.
use Rattle.std.proofs.Common.{◌≡◌, true, ◌∙◌, sym, [], length, refl, arith}
use Rattle.nz_msg.specs.Fields.{is_cluster_size}
use Rattle.nz_msg.proofs.Valid.{counters_fit, size_small}
use Rattle.nz_msg.proofs.validity.are_counters.Goals as goal

pub returns : goal.returns
returns c = (
  λ h.
      let test : is_cluster_size (length c.args.counters.now) ≡ true = sym c.is_cluster_size.ensures ∙ h in
      ((size_small (length c.args.counters.now) test, test), (refl, counters_fit [] c.args.counters.now (λ i. omega (arith, c.type_inv.counters i)))),
  λ h. c.is_cluster_size.ensures ∙ h.0.1,
)
