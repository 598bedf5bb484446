-- What the function of this folder owes, proved.
use Rattle.std.proofs.Common.{ℕ, List, take, sym, subst, ◌∙◌}
use Rattle.nz_log.specs.Synced.{Log}
use Rattle.nz_log.specs.Keeping.{HaveCommonPrefix, IsSummed}
use Rattle.nz_log.proofs.Next.{place_by_keys}
use Rattle.nz_log.proofs.Replacing.{summed_first}
use Rattle.nz_log.proofs.log.HashedLog.take_over.Goals as goal

pub put_digests-requires-clause-first : goal.put_digests-requires-clause-first
put_digests-requires-clause-first c =
    let es = c.self.inside.entries in
    let pages = c.args.pages in
    let count = c.args.common in
    let common = subst (λ (l : Log). HaveCommonPrefix l.entries pages count) (sym c.self.view_is) c.requires.common in
    subst (λ (ds : List (List ℕ)). IsSummed (take count pages) (take count ds)) (sym c.reserve.ensures.items)
    (summed_first es pages c.self.inside.digests.items count common c.self.invariant.summed)

pub set_places-requires-clause-first : goal.set_places-requires-clause-first
set_places-requires-clause-first c i =
    let es = c.self.inside.entries in
    let pages = c.args.pages in
    let count = c.args.common in
    let common = subst (λ (l : Log). HaveCommonPrefix l.entries pages count) (sym c.self.view_is) c.requires.common in
    c.drop_places.ensures.places i ∙ place_by_keys (take count es) (take count pages) i common.same
