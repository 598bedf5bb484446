-- What the function of this folder owes, proved.
use Rattle.std.proofs.Common.{◌≡◌, ◌<◌, ℕ, length, Option, IfSome, is_some, sym, ap, subst, ◌∙◌}
use Rattle.nz_log.specs.Places.{place_of}
use Rattle.nz_log.specs.Synced.{Log}
use Rattle.nz_log.proofs.Placing.{place_held}
use Rattle.nz_log.proofs.Keeping.{place_within}
use Rattle.nz_log.proofs.log.HashedLog.place_of.Goals as goal

is : (c : goal.After-copied) → c.copied.result ≡ place_of c.args.self.now.entries c.args.id
is c = c.copied.ensures ∙ c.get.ensures.value ∙ c.self.invariant.found c.args.id ∙ ap (λ (l : Log). place_of l.entries c.args.id) c.self.view_is

pub returns-clause-held : goal.returns-clause-held
returns-clause-held c = (
  λ some. sym (place_held c.args.self.now.entries c.args.id) ∙ ap is_some (sym (is c)) ∙ some,
  λ held. ap is_some (is c) ∙ place_held c.args.self.now.entries c.args.id ∙ held,
)

pub returns-clause-within : goal.returns-clause-within
returns-clause-within c =
    subst (λ (o : Option ℕ). IfSome o (λ place. place < length c.args.self.now.entries)) (sym (is c)) (place_within c.args.self.now.entries c.args.id)
