-- What the function of this folder owes, proved.
use Rattle.std.proofs.Common.{◌≡◌, ◌+◌, ◌-◌, ◌≤◌, ◌<◌, ℕ, length, take, None, if◌then◌else◌, ap, ◌∙◌, arith}
use Rattle.indexmap.specs.IndexMap.{get}
use Rattle.nz_base.specs.declared.key.Id.{Id}
use Rattle.nz_base.specs.Key.{id_eq}
use Rattle.nz_log.specs.Places.{place_of}
use Rattle.nz_log.proofs.Replacing.{forgotten_at}
use Rattle.nz_log.proofs.index.drop_places.Goals as goal

pub loop-place-preserved : goal.loop-place-preserved
loop-place-preserved c =
    let es = c.args.entries.now in
    let place = c.loop-place.place - 1 in
    let more : c.args.from < c.loop-place.place = c.loop-place-test.true in
    let most : c.loop-place.place ≤ c.len-place.result = c.loop-place.auto.place in
    let end : c.len-place.result ≡ length es = c.len-place.ensures in
    let next : c.loop-place.place ≡ place + 1 = omega (arith, more) in
    record {
      above = omega (arith, more);
      known = forgotten_at es place c.get.result.now c.requires.log (omega (arith, more, most, end)) c.get.ensures
          (get id_eq c.loop-place.places) (get id_eq c.drop_place.new.places)
          (λ i. c.loop-place.invariant.known i ∙ ap (λ (n : ℕ). place_of (take n es) i) next)
          (λ i. c.drop_place.ensures.value i ∙ ap (λ (j : Id). if id_eq j i then None else get id_eq c.loop-place.places i) c.id.ensures);
      room = let before = c.loop-place.invariant.room in let now = c.drop_place.ensures.room in omega (arith, before, now);
    }

pub returns-clause-places : goal.returns-clause-places
returns-clause-places c i =
    let done : c.loop-place.place ≤ c.args.from = c.loop-place-test.false in
    let above : c.args.from ≤ c.loop-place.place = c.loop-place.invariant.above in
    let last : c.loop-place.place ≡ c.args.from = omega (arith, done, above) in
    c.loop-place.invariant.known i ∙ ap (λ (n : ℕ). place_of (take n c.args.entries.now) i) last
