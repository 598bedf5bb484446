-- What the function of this folder owes, proved.
use Rattle.std.proofs.Common.{◌≡◌, ◌<◌, ◌∙◌, ℕ, List, length, map, ap, subst, sym, arith, eqb-true, eq-eqb}
use Rattle.std.proofs.lemmas.List.{length-map}
use Rattle.nz_fabric.specs.declared.threads.batch.Batch.{Batch}
use Rattle.nz_fabric.specs.threads.Shared.{batch_for, place_of_batch, without_batch}
use Rattle.nz_fabric.specs.threads.Takes.{Batches, AreTakes, batch_in, batches_with, no_batch}
use Rattle.nz_fabric.proofs.several_threads.Taking.{closed_at, number_at, place_found, takes_closed}
use Rattle.nz_fabric.proofs.threads.open_batches.OpenBatches.close.Goals as goal

pub invariant_of-self : goal.invariant_of-self
invariant_of-self g c =
    let f = c.self.inside in
    let n = c.batch.inside.batch.number in
    let running = map (batch_in f.seen) f.numbers.items in
    let place = place_found f.seen n f.numbers.items c.as_slice.result.now c.place_of-place.result c.place_of-place.ensures.place
    c.as_slice.ensures.value in (
      c.self.invariant.0,
      subst (AreTakes f.seen) (sym (closed_at f.seen f.numbers.items c.remove.new.self.items c.place_of-place.result
          (place_of_batch n running) c.remove.ensures.items place))
          (takes_closed f.seen running (place_of_batch n running) c.self.invariant.1),
    )

pub returns-clause-closed : goal.returns-clause-closed
returns-clause-closed g c =
    let f = c.self.inside in
    let n = c.batch.inside.batch.number in
    let running = map (batch_in f.seen) f.numbers.items in
    let place = place_found f.seen n f.numbers.items c.as_slice.result.now c.place_of-place.result c.place_of-place.ensures.place
    c.as_slice.ensures.value in
    ap (λ (rest : List Batch). batches_with rest f.taken)
    (closed_at f.seen f.numbers.items c.remove.new.self.items c.place_of-place.result (place_of_batch n running) c.remove.ensures.items place)
    ∙ ap (λ (t : Batches). batches_with (without_batch n t.running) t.taken) c.self.view_is
    ∙ ap (λ (b : Batch). batches_with (without_batch b.number c.args.self.now.running) c.args.self.now.taken) c.batch.view_is

pub returns-clause-same : goal.returns-clause-same
returns-clause-same g c =
    let f = c.self.inside in
    let n = c.batch.inside.batch.number in
    let running = map (batch_in f.seen) f.numbers.items in
    let place = place_found f.seen n f.numbers.items c.as_slice.result.now c.place_of-place.result c.place_of-place.ensures.place
    c.as_slice.ensures.value in
    let within = subst (λ (numbers : List ℕ). c.place_of-place.result < length numbers) c.as_slice.ensures.value c.place_of-place.ensures.within in
    let named : c.remove.result ≡ (batch_for c.args.batch.now.number c.args.self.now.running).number =
    number_at f.seen f.numbers.items c.place_of-place.result (place_of_batch n running) c.remove.result no_batch c.remove.ensures.value place within
    ∙ ap (λ (t : Batches). (batch_for n t.running).number) c.self.view_is
    ∙ ap (λ (b : Batch). (batch_for b.number c.args.self.now.running).number) c.batch.view_is in
    let own : n ≡ c.args.batch.now.number = ap (λ (b : Batch). b.number) c.batch.view_is in (
      λ e. c.agree.ensures (place_of_batch c.args.batch.now.number c.args.self.now.running) no_batch
          (subst (λ (b : Batch). place_of_batch b.number c.args.self.now.running < length c.args.self.now.running) c.batch.view_is
          (subst (λ (t : Batches). place_of_batch n t.running < length t.running) c.self.view_is
          (omega (arith, within, place, length-map f.numbers.items (batch_in f.seen)))))
          (sym named ∙ eqb-true c.remove.result n e ∙ own),
      λ same. eq-eqb c.remove.result n (named ∙ ap (λ (b : Batch). b.number) same ∙ sym own),
    )
