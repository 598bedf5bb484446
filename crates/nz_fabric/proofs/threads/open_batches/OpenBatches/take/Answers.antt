-- What the function of this folder owes, proved.
use Rattle.std.proofs.Common.{◌≡◌, ◌+◌, ◌∙◌, List, [], ◌∷◌, length, map, ap, arith, length-append}
use Rattle.nz_fabric.specs.declared.threads.batch.Batch.{Batch}
use Rattle.nz_fabric.specs.threads.Takes.{Batches, batch_in, batch_of, batches_with, with_one}
use Rattle.nz_fabric.proofs.several_threads.Taking.{opened_now, takes_opened}
use Rattle.nz_fabric.proofs.threads.open_batches.OpenBatches.take.Goals as goal

pub invariant_of-self-2 : goal.invariant_of-self-2
invariant_of-self-2 g c =
    let f = c.self.inside in
    let b = batch_of (f.taken + 1) c.args.actor c.args.events in
    let next : f.taken + 1 ≡ length f.seen + 1 = ap (λ n. n + 1) c.self.invariant.0 in
    rw (
      c.if-not-append.ensures.0,
      c.push_reserved.ensures.items,
      c.reserve.ensures.items,
      opened_now f.seen f.numbers.items b c.self.invariant.1 next,
    )
    (omega (arith, next, length-append f.seen (b ∷ [])), takes_opened f.seen (map (batch_in f.seen) f.numbers.items) b c.self.invariant.1 next)

pub returns : goal.returns
returns g c =
    let f = c.self.inside in
    let b = batch_of (f.taken + 1) c.args.actor c.args.events in
    let next : f.taken + 1 ≡ length f.seen + 1 = ap (λ n. n + 1) c.self.invariant.0 in (
      ap (λ (t : Batches). batch_of (t.taken + 1) c.args.actor c.args.events) c.self.view_is,
      rw (c.if-not-append.ensures.0, c.push_reserved.ensures.items, c.reserve.ensures.items)
          (ap (λ (running : List Batch). batches_with running (f.taken + 1))
          (opened_now f.seen f.numbers.items b c.self.invariant.1 next)
          ∙ ap (with_one b) c.self.view_is),
    )
