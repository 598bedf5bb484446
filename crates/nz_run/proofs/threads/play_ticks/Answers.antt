-- What the function of this folder owes, proved.
use Rattle.std.proofs.Common.{◌≡◌, ◌∙◌, ap, arith, length, get_or}
use Rattle.nz_run.proofs.DealtShares.{written, all_idle, same_sum}
use Rattle.nz_run.proofs.threads.play_ticks.Goals as goal

pub gather-share-requires-clause-idle : goal.gather-share-requires-clause-idle
gather-share-requires-clause-idle g c =
    let xs = c.deal.new.workers.items in
    let ys = c.work_all.new.workers in
    let is = c.as_mut_slice.ensures.value in
    let len : length ys ≡ length xs = c.work_all.auto.workers ∙ ap length is in
    let e = written xs ys c.deal.new.workers.len (omega arith) len in
    rw e (all_idle (λ w. w.share.amount) xs ys len (λ k d lt. (c.work_all.ensures k d (omega (arith, ap length is))).0))

pub gather-share-requires-clause-parts : goal.gather-share-requires-clause-parts
gather-share-requires-clause-parts g c =
    let xs = c.deal.new.workers.items in
    let ys = c.work_all.new.workers in
    let is = c.as_mut_slice.ensures.value in
    let len : length ys ≡ length xs = c.work_all.auto.workers ∙ ap length is in
    let e = written xs ys c.deal.new.workers.len (omega arith) len in
    rw e (same_sum (λ w. w.share.parts) xs ys len
    (λ k d lt. (c.work_all.ensures k d (omega (arith, ap length is))).1 ∙ ap (λ l. (get_or l k d).share.parts) is) ∙ c.deal.ensures.parts)
