-- What the function of this folder owes, proved.
use Rattle.std.proofs.Common.{◌≡◌, arith, sym, ◌∙◌, refl}
use Rattle.nz_math.specs.Count.{count_below, is_in}
use Rattle.nz_math.proofs.Counting.{count-le, count_yes, count_no, count_choice}
use Rattle.nz_math.proofs.replica_set.ReplicaSet.count.Goals as goal
use Rattle.nz_math.proofs.replica_set.ReplicaSet.count.Goals.{then-contains, else-contains}

pub loop-r-init : goal.loop-r-init
unfolding count_below
loop-r-init c = (refl, λ h. absurd (omega arith))

pub overflow_add-count : goal.overflow_add-count
overflow_add-count c = omega (arith, c.loop-r.invariant.0, count-le c.loop-r.r (is_in c.args.self.now), c.loop-r-test.true)

pub loop-r-preserved : goal.loop-r-preserved
loop-r-preserved c =
    elim c.if-contains.branch [
      | then-contains w ↦ (
        w.count-is ∙ (let one = count_yes c.loop-r.r (is_in c.args.self.now) (sym w.if-contains.ensures.member) in
            omega (arith, one, c.loop-r.invariant.0)),
        λ h. c.contains.ensures.numbers,
      )
      | else-contains w ↦ (
        w.count-is ∙ (let same = count_no c.loop-r.r (is_in c.args.self.now) (sym w.if-contains.ensures.member) in
            omega (arith, same, c.loop-r.invariant.0)),
        λ h. c.contains.ensures.numbers,
      )
    ]

pub returns : goal.returns
returns c =
    let all : c.loop-r.r ≡ 9 = omega arith in
    let choice = c.loop-r.invariant.1 (omega arith) in
    record { size = c.loop-r.invariant.0 ∙ (rw all (count_choice 9 c.args.self.now choice)); numbers = choice }
