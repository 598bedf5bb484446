-- What the function of this folder owes, proved.
use Rattle.nz_base.specs.declared.limits.TheConstants.{MAX_ENTRIES}
use Rattle.std.proofs.Common.{◌≡◌, ◌<◌, ◌++◌, ◌∷◌, [], true, false, List, ℕ, length, sym, ap, subst, ◌∙◌, Some, if◌then◌else◌}
use Rattle.std.specs.Map.{lookup}
use Rattle.nz_base.specs.declared.key.Id.{Id}
use Rattle.nz_base.specs.declared.key.Entry.{Entry}
use Rattle.nz_base.specs.Key.{id_of, id_eq}
use Rattle.nz_base.specs.Log.{keys_of, has_id, is_above_last}
use Rattle.nz_log.specs.Synced.{Log}
use Rattle.nz_log.specs.Keeping.{IsKeptLog, IsSummed}
use Rattle.nz_log.proofs.Keeping.{kept_push}
use Rattle.nz_log.proofs.log.HashedLog.append.Goals as goal

pub invariant_of-self-2 : goal.invariant_of-self-2
invariant_of-self-2 c =
    let key = c.args.entry.key in
    let es = c.self.inside.entries in
    let log : Log = record { entries = es; synced = c.self.inside.synced } in
    let sum = c.digest_after-digest.result in
    let above = subst (λ (l : Log). is_above_last (keys_of l.entries) key ≡ true) (sym c.self.view_is) c.requires.above in
    let fresh = subst (λ (l : Log). has_id (keys_of l.entries) (id_of key) ≡ false) (sym c.self.view_is) c.requires.fresh in
    let room = subst (λ (l : Log). length l.entries < MAX_ENTRIES) (sym c.self.view_is) c.requires.room in
    let is = c.digest_after-digest.ensures es (subst (IsSummed es) (sym c.deref.ensures.value) c.self.invariant.summed) in
    let place : c.len-place.result ≡ length es = c.len-place.ensures ∙ ap (λ (l : Log). length l.entries) (sym c.self.view_is) in
    let kept =
    kept_push log c.self.inside.digests.items c.self.inside.places.entries c.set_place.new.places.entries c.args.entry
    sum c.self.invariant above fresh room is
    (λ i. c.set_place.ensures.value i
    ∙ ap (λ (j : Id). if id_eq j i then Some c.len-place.result else lookup (id_eq i) c.reserve-2.new.self.entries) c.id-id.ensures
    ∙ ap (λ (n : ℕ). if id_eq (id_of key) i then Some n else lookup (id_eq i) c.reserve-2.new.self.entries) place
    ∙ ap (λ (m : List (Id × ℕ)). if id_eq (id_of key) i then Some (length es) else lookup (id_eq i) m) c.reserve-2.ensures.entries) in
    let sums = c.push_reserved.ensures.items ∙ ap (λ (ds : List (List ℕ)). ds ++ sum ∷ []) c.reserve.ensures.items in
    subst (λ (xs : List Entry). IsKeptLog
    (record { entries = xs; synced = c.self.inside.synced }) c.push_reserved.new.self.items
    c.set_place.new.places.entries) (sym c.in_ok-push.ensures.ok)
    (subst (λ (ds : List (List ℕ)). IsKeptLog (record log { entries = es ++ c.args.entry ∷ [] }) ds c.set_place.new.places.entries) (sym sums) kept)
