-- What the function of this folder owes, proved.
use Rattle.std.proofs.Common.{◌≡◌, ◌+◌, ◌<◌, ◌≤◌, ℕ, length, take, sym, subst, arith}
use Rattle.nz_log.specs.Keeping.{IsSummed}
use Rattle.nz_log.proofs.Replacing.{summed_at}
use Rattle.nz_log.proofs.sums.put_digests.Goals as goal

pub loop-place-preserved : goal.loop-place-preserved
loop-place-preserved c =
    let es = c.args.entries.now in
    let ds = c.loop-place.digests.items in
    let place = c.loop-place.place in
    let x = c.get.result.now in
    let sum = c.digest_after-digest.result in
    let below : place < c.len-place-end.result = c.loop-place-test.true in
    let end : c.len-place-end.result ≡ length es = c.len-place-end.ensures in
    let old = c.loop-place.invariant.summed in
    let new = c.digest_after-digest.ensures (take place es) (subst (IsSummed (take place es)) (sym c.deref.ensures.value) old) in
    record {
      room = subst (λ (n : ℕ). length es ≤ n) (sym c.push_reserved.ensures.capacity) c.loop-place.invariant.room;
      summed = subst (IsSummed (take (place + 1) es)) (sym c.push_reserved.ensures.items)
          (summed_at es ds place x sum (omega (arith, below, end)) c.get.ensures old new);
    }
