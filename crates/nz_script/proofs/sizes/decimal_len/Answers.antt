-- What the function of this folder owes, proved.
use Rattle.std.proofs.Common.{◌≡◌, ◌<◌, ◌^◌, ◌+◌, arith, rules, length, ap}
use Rattle.std.specs.Fmt.{decimal}
use Rattle.std.proofs.lemmas.Fmt.{decimal_digit}
use Rattle.nz_script.proofs.Drawing.{decimal_short}
use Rattle.nz_script.proofs.RoomLeft.{length-decimal_step}
use Rattle.nz_script.proofs.sizes.decimal_len.Goals as goal

pub overflow_add-len : goal.overflow_add-len
overflow_add-len c =
    let small : c.args.number < 2 ^ 64 = omega (arith, c.ranges.number) in
    let h : c.loop-left.len + 1 < 2 ^ 32 = omega (arith, c.loop-left.invariant.counted, decimal_short c.args.number small) in search (rules, h)

pub loop-left-preserved : goal.loop-left-preserved
loop-left-preserved c =
    let small : c.args.number < 2 ^ 64 = omega (arith, c.ranges.number) in
    let step = length-decimal_step c.loop-left.left c.loop-left-test.true (omega (arith, c.loop-left.invariant.below, small)) in
    record { counted = omega (arith, c.loop-left.invariant.counted, step); below = omega (arith, c.loop-left.invariant.below) }

pub returns-clause-value : goal.returns-clause-value
returns-clause-value c =
    let one : length (decimal c.loop-left.left) ≡ 1 = ap length (decimal_digit c.loop-left.left c.loop-left-test.false) in
    omega (arith, one, c.loop-left.invariant.counted)

pub returns-clause-short : goal.returns-clause-short
returns-clause-short c =
    let small : c.args.number < 2 ^ 64 = omega (arith, c.ranges.number) in
    let one : length (decimal c.loop-left.left) ≡ 1 = ap length (decimal_digit c.loop-left.left c.loop-left-test.false) in
    omega (arith, one, c.loop-left.invariant.counted, decimal_short c.args.number small)
