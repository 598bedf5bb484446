-- What the function of this folder owes, proved.
use Rattle.std.proofs.Common.{◌≡◌, false, List, refl, sym, ap, subst, ◌∙◌}
use Rattle.nz_base.specs.declared.key.Entry.{Entry}
use Rattle.nz_base.specs.Log.{keys_of, has_id, IsFirstPlace}
use Rattle.nz_log.specs.Synced.{Log}
use Rattle.nz_log.proofs.Placing.{first_is_place, first_place, held_at, place_none}
use Rattle.nz_log.proofs.list_log.ListLogLogRep.place_of.Goals as goal

-- the place that is found is one in the log
at : (c : goal.In-Some) → IsFirstPlace c.args.self.now.entries c.args.id c.in-Some.place
at c =
    subst (λ (xs : List Entry). IsFirstPlace xs c.args.id c.in-Some.place)
    (c.deref.ensures.value ∙ ap (λ (l : Log). l.entries) c.self.view_is) c.in-Some.ensures.found

pub returns-in-Some-clause-value : goal.returns-in-Some-clause-value
returns-in-Some-clause-value c = sym (first_place c.args.self.now.entries c.args.id c.in-Some.place (at c))

pub returns-in-Some-clause-held : goal.returns-in-Some-clause-held
returns-in-Some-clause-held c = (
  λ _. held_at c.args.self.now.entries c.args.id c.in-Some.place (first_is_place c.args.self.now.entries c.args.id c.in-Some.place (at c)),
  λ _. refl,
)

pub returns-in-None-clause-value : goal.returns-in-None-clause-value
returns-in-None-clause-value c =
    let away =
    subst (λ (xs : List Entry). has_id (keys_of xs) c.args.id ≡ false)
    (c.deref.ensures.value ∙ ap (λ (l : Log). l.entries) c.self.view_is) c.in-None.ensures.none in
    sym (place_none c.args.self.now.entries c.args.id away)
