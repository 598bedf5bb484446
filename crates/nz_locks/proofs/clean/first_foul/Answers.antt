-- What the function of this folder owes, proved.
use Rattle.std.proofs.Common.{List, [], refl, sym, ap, subst, ◌∙◌, below_more}
use Rattle.std.specs.List.{list_any}
use Rattle.std.proofs.lemmas.Option.{get_or_from_slice_get}
use Rattle.nz_base.specs.declared.scenario.Request.{Request}
use Rattle.nz_locks.specs.Clean.{is_foul_request, IsFirstFoulPlace}
use Rattle.nz_locks.proofs.clean.first_foul.Goals as goal

pub returns-in-Some-clause-found : goal.returns-in-Some-clause-found
returns-in-Some-clause-found c = record {
  place = c.in-Some.place;
  num = refl;
  first =
      subst (λ (script : List Request). IsFirstFoulPlace c.loop-client.client script c.in-Some.place)
      (sym (get_or_from_slice_get c.args.scenario.now.scripts c.loop-client.client c.get.result.now [] c.get.ensures)) c.in-Some.ensures.found;
  least = c.loop-client.invariant;
}

pub loop-client-preserved : goal.loop-client-preserved
loop-client-preserved c =
    below_more _ _ c.loop-client.invariant
    (ap (list_any (is_foul_request c.loop-client.client))
    (get_or_from_slice_get c.args.scenario.now.scripts c.loop-client.client c.get.result.now [] c.get.ensures)
    ∙ c.in_default.ensures.none refl)
