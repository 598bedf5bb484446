-- What the function of this folder owes, proved.
use Rattle.std.proofs.Common.{◌≡◌, List, [], ◌∷◌, Option, Some, cond, refl, sym, ap, ◌&&◌, ◌∙◌}
use Rattle.std.specs.Map.{lookup}
use Rattle.std.specs.Str.{bytes_eq}
use Rattle.nz_base.specs.Actor.{actor_eq}
use Rattle.nz_base.specs.declared.actor.Actor.{Actor}
use Rattle.nz_base.specs.declared.actor.Actor.TheVariants.{Replica, Proxy, Client}
use Rattle.nz_base.specs.contracts.actor.ActorPartialEq
use Rattle.nz_audit.specs.declared.sources.sendings.ParcelKey.{ParcelKey}
use Rattle.nz_audit.specs.contracts.sources.sendings.ParcelKeyPartialEq
use Rattle.nz_audit.specs.declared.accepted.answers.Source.{Source}
use Rattle.nz_audit.specs.Sources.{parcel_key_of, same_key, kept_of}
use Rattle.nz_audit.proofs.sources.sendings.Sendings.keep.Goals as goal

-- the derived comparisons
same_actors : (a b : Actor) → ActorPartialEq.TheImpl.eq-value.it a b ≡ actor_eq a b
same_actors (Replica a) (Replica b) = refl
same_actors (Proxy a) (Proxy b) = refl
same_actors (Client a) (Client b) = refl
same_actors (Replica a) (Proxy b) = refl
same_actors (Replica a) (Client b) = refl
same_actors (Proxy a) (Replica b) = refl
same_actors (Proxy a) (Client b) = refl
same_actors (Client a) (Replica b) = refl
same_actors (Client a) (Proxy b) = refl

same_keys : (a b : ParcelKey) → ParcelKeyPartialEq.TheImpl.eq-value.it a b ≡ same_key a b
same_keys a b = λ i. same_actors a.from b.from i && (same_actors a.to b.to i && bytes_eq a.frame b.frame)

found_same : (k : ParcelKey) (es : List (ParcelKey × Option Source)) → lookup (ParcelKeyPartialEq.TheImpl.eq-value.it k) es ≡ lookup (same_key k) es
found_same k [] = refl
found_same k (e ∷ es) = λ i. cond (same_keys k e.0 i) (Some e.1) (found_same k es i)

pub returns : goal.returns
returns c = λ p.
    let old = c.args.self.now.kept.entries in
    sym (found_same (parcel_key_of p) c.insert.new.self.entries) ∙ (c.in_ok-insert.ensures.updates).0 (parcel_key_of p)
    ∙ (λ i. cond (same_keys c.in_ok-new.field-0 (parcel_key_of p) i) (Some c.args.source) (found_same (parcel_key_of p) old i))
    ∙ ap (λ (k : ParcelKey). cond (same_key k (parcel_key_of p)) (Some c.args.source) (kept_of old p)) c.in_ok-new.ensures
