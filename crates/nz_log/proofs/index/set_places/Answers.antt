-- What the function of this folder owes, proved.
use Rattle.std.proofs.Common.{◌≡◌, ◌≤◌, ◌<◌, List, length, Some, if◌then◌else◌, ap, ◌∙◌, arith}
use Rattle.std.proofs.lemmas.List.{take_all}
use Rattle.indexmap.specs.IndexMap.{get}
use Rattle.nz_base.specs.declared.key.Id.{Id}
use Rattle.nz_base.specs.declared.key.Entry.{Entry}
use Rattle.nz_base.specs.Key.{id_eq}
use Rattle.nz_log.specs.Places.{place_of}
use Rattle.nz_log.proofs.Replacing.{noted_at}
use Rattle.nz_log.proofs.index.set_places.Goals as goal

pub loop-place-preserved : goal.loop-place-preserved
loop-place-preserved c =
    let es = c.args.entries.now in
    let place = c.loop-place.place in
    let below : place < c.len-place-end.result = c.loop-place-test.true in
    let end : c.len-place-end.result ≡ length es = c.len-place-end.ensures in
    record {
      known = noted_at es place c.get.result.now c.requires.log (omega (arith, below, end)) c.get.ensures
          (get id_eq c.loop-place.places) (get id_eq c.set_place.new.places) c.loop-place.invariant.known
          (λ i. c.set_place.ensures.value i ∙ ap (λ (j : Id). if id_eq j i then Some place else get id_eq c.loop-place.places i) c.id.ensures);
      room = let before = c.loop-place.invariant.room in let now = c.set_place.ensures.room in omega (arith, before, now);
    }

pub returns : goal.returns
returns c i =
    let es = c.args.entries.now in
    let done : c.len-place-end.result ≤ c.loop-place.place = c.loop-place-test.false in
    let end : c.len-place-end.result ≡ length es = c.len-place-end.ensures in
    c.loop-place.invariant.known i ∙ ap (λ (xs : List Entry). place_of xs i) (take_all c.loop-place.place es (omega (arith, done, end)))
