-- What the function of this folder owes, proved.
use Rattle.std.proofs.Common.{◌≡◌, ◌-◌, ◌<◌, ◌≤◌, length, take, sym, ap, ◌∙◌, arith}
use Rattle.std.proofs.lemmas.List.{take_all, take-take, length-take-le}
use Rattle.nz_log.proofs.pages.Pages.truncate.Goals as goal

pub loop-self-smaller : goal.loop-self-smaller
loop-self-smaller c =
    let old = c.loop-self.self in
    let count : c.len.result ≡ length old = c.len.ensures in
    let more : c.args.len < c.len.result = c.loop-self-test.true in
    let long : length c.pop.new.self ≡ length old - 1 = ap length c.pop.ensures ∙ length-take-le (length old - 1) old (omega arith) in
    omega (arith, count, more, long)

pub loop-self-preserved : goal.loop-self-preserved
loop-self-preserved c =
    let old = c.loop-self.self in
    let count : c.len.result ≡ length old = c.len.ensures in
    let more : c.args.len < c.len.result = c.loop-self-test.true in
    ap (take c.args.len) c.pop.ensures ∙ take-take c.args.len (length old - 1) old (omega (arith, count, more)) ∙ c.loop-self.invariant

pub returns : goal.returns
returns c =
    let old = c.loop-self.self in
    let count : c.len.result ≡ length old = c.len.ensures in
    let less : c.len.result ≤ c.args.len = c.loop-self-test.false in
    sym (take_all c.args.len old (omega (arith, count, less))) ∙ c.loop-self.invariant
