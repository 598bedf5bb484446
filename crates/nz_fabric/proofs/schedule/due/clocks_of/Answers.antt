-- What the function of this folder owes, proved.
use Rattle.std.proofs.Common.{◌^◌, arith}
use Rattle.std.proofs.lemmas.Nat.{mul-le}
use Rattle.nz_fabric.proofs.schedule.due.clocks_of.Goals as goal

pub overflow_mul-result : goal.overflow_mul-result
overflow_mul-result c =
    let few = c.actor_count.ensures.few in
    let product = mul-le c.actor_count.result c.args.scenario.now.ticks 768 (2 ^ 32) (omega (arith, few)) (omega arith) in
    omega (arith, product)
