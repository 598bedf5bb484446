-- In every run the replicas follow the rules, so what is accepted in a view is in each later start, and what is
-- accepted is paired.
use Rattle.std.proofs.Common.{ℕ, List, ◌++◌, [], ◌∷◌, inr, true, ◌≡◌}
use Rattle.nz_base.specs.declared.actor.Actor.TheVariants.{Replica}
use Rattle.nz_base.specs.Moments.{At}
use Rattle.nz_base.specs.Prefixes.{IsPrefix}
use Rattle.nz_base.proofs.Moments.{at_self}
use Rattle.nz_log.specs.Synced.{synced_part}
use Rattle.nz_machine.specs.declared.event.Record.{Record}
use Rattle.nz_machine.specs.rules.State.{Group}
use Rattle.nz_machine.specs.runs.World.{state_after, World}
use Rattle.nz_machine.specs.runs.OneHistory.{NoCollision}
use Rattle.nz_machine.specs.runs.Leading.{is_normal_in, lead}
use Rattle.nz_machine.specs.runs.Committed.{Prefixes}
use Rattle.nz_laws_commit.specs.Does.{FollowsRules}
use Rattle.nz_laws_commit.specs.Instance.{states_of}
use Rattle.nz_laws_commit.proofs.OutcomeDoes.{record_does}
use Rattle.nz_laws_commit.proofs.Begun.{begins_of}
use Rattle.nz_laws_commit.proofs.Following.{follows_by}
use Rattle.nz_laws_commit.proofs.Committing as committing

-- every run follows the rules of the laws on logs
pub follows : (g : Group) (J : List Record) → World g J → FollowsRules (states_of g) J
follows g J w = follows_by g J w (begins_of g J w) (record_does g J w)

-- accepted prefixes are paired where no digests collide
pub prefixes : (g : Group) (J : List Record) → World g J → NoCollision g J → Prefixes g J
prefixes g J w apart = committing.prefixes_of g J w (follows g J w) apart

pub after_newer : (newer J : List Record) → At (newer ++ J) J
after_newer [] J = at_self J
after_newer (r ∷ newer) J = inr (after_newer newer J)

pub lead_only_grows : (g : Group) (newer J : List Record) (v : ℕ) → World g (newer ++ J) → IsPrefix (lead g v J) (lead g v (newer ++ J))
lead_only_grows g newer J v w = committing.lead_grown g (newer ++ J) w (follows g (newer ++ J) w) v J (after_newer newer J)

pub synced_is_leads : (g : Group) (J : List Record) (m v : ℕ) → World g J → is_normal_in v (state_after g (Replica m) J) ≡ true
    → IsPrefix (synced_part (state_after g (Replica m) J).log) (lead g v J)
synced_is_leads g J m v w normal = committing.synced_is_leads g J w (follows g J w) m v normal
