-- What the function of this folder owes, proved.
use Rattle.nz_fabric.proofs.several_threads.Counting.{counts_none}
use Rattle.nz_fabric.proofs.threads.records.Records.new.Goals as goal

pub invariant_of-result : goal.invariant_of-result
invariant_of-result g c =
    rw c.in_ok-new.ensures
    (c.named-chronicle.ensures, counts_none c.in_ok-counts.counts.items (c.in_ok-counts.ensures.items_if_clones_equal (λ y e. e)), tt)
