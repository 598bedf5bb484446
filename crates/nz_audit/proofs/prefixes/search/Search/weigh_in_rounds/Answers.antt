-- What the function of this folder owes, proved.
use Rattle.std.proofs.Common.{◌∙◌, [], List, ap, subst, sym}
use Rattle.std.specs.Prelude.{drop}
use Rattle.std.specs.List.{AllByRecursion}
use Rattle.std.proofs.lemmas.Result.{on_ok_weaker}
use Rattle.nz_audit.specs.declared.accepted.answers.AcceptedAt.{AcceptedAt}
use Rattle.nz_audit.specs.Prefixes.{all_traced, IsWithin}
use Rattle.nz_audit.proofs.SearchRounds.{parts_within, found_in_turn}
use Rattle.nz_audit.proofs.prefixes.search.Search.weigh_in_rounds.Goals as goal

pub weigh_all-requires-clause-within : goal.weigh_all-requires-clause-within
weigh_all-requires-clause-within c =
    subst (λ (l : List AcceptedAt). AllByRecursion (IsWithin c.args.journal.now) (all_traced c.args.journal.now l))
    (sym (c.split_at.ensures.back ∙ ap (drop c.first_late-place.result) c.as_slice-2.ensures.value))
    (parts_within c.args.journal.now c.first_late-place.result c.args.answers.items c.requires.within).0

pub weigh_others-requires-clause-replays : goal.weigh_others-requires-clause-replays
weigh_others-requires-clause-replays c = c.in_ok-weigh_all.ensures.replays

pub weigh_others-requires-clause-within : goal.weigh_others-requires-clause-within
weigh_others-requires-clause-within c =
    subst (λ (l : List AcceptedAt). AllByRecursion (IsWithin c.args.journal.now) (all_traced c.args.journal.now l)) (sym c.truncate.ensures.items)
    (parts_within c.args.journal.now c.first_late-place.result c.args.answers.items c.requires.within).1

pub returns : goal.returns
returns c = on_ok_weaker c.weigh_others.result (λ found.
    let j = c.args.journal.now in
    let late = c.split_at.result.1.now in
    found_in_turn j c.first_late-place.result c.args.answers.items late c.truncate.new.self.items c.weigh_others.new.self
    (c.split_at.ensures.back ∙ ap (drop c.first_late-place.result) c.as_slice-2.ensures.value) c.truncate.ensures.items
    (found (all_traced j late) (c.in_ok-weigh_all.ensures.found [] c.requires.first))) c.weigh_others.ensures
