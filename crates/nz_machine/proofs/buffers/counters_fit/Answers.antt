-- What the function of this folder owes, proved.
use Rattle.std.proofs.Common.{[], length, refl, arith}
use Rattle.nz_msg.proofs.Valid.{counters_fit, size_small}
use Rattle.nz_machine.proofs.lists.Sizes.{size_passes}
use Rattle.nz_machine.proofs.buffers.counters_fit.Goals as goal

pub returns : goal.returns
returns c =
    let test = size_passes (length c.args.counters.now) c.requires in
    ((size_small (length c.args.counters.now) test, test), (refl, counters_fit [] c.args.counters.now (λ i. omega (arith, c.type_inv.counters i))))
