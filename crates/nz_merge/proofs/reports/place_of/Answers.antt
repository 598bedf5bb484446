-- What the function of this folder owes, proved.
use Rattle.std.proofs.Common.{rules}
use Rattle.std.proofs.lemmas.List.Sorted.{answers_always}
use Rattle.nz_merge.proofs.Search.{search_found, search_shows}
use Rattle.nz_merge.proofs.reports.place_of.Goals as goal

pub returns-clause-found : goal.returns-clause-found
returns-clause-found c =
    let facts = c.binary_search_by_key.ensures in
    let by_key = facts.position (λ e. e.key) (answers_always _ _ _ (λ f a r g called. search rules)) in
    rw c.ok.ensures.value (search_found c.args.log.now c.args.key c.binary_search_by_key.result facts.bound by_key)

pub returns-clause-is_there : goal.returns-clause-is_there
returns-clause-is_there c =
    let facts = c.binary_search_by_key.ensures in
    let by_key = facts.position (λ e. e.key) (answers_always _ _ _ (λ f a r g called. search rules)) in
    rw c.ok.ensures.value (search_shows c.args.log.now c.args.key c.binary_search_by_key.result facts.bound by_key)
