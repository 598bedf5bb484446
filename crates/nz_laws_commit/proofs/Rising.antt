-- The views in which a replica is in normal operation rise. So where all replicas are up, no answer was given in a view
-- above all of theirs.
use Rattle.std.proofs.Common.{◌≡◌, ℕ, ◌<◌, ◌≤◌, true, List, arith, inl, inr}
use Rattle.std.proofs.lemmas.Bool.{cases_lt}
use Rattle.nz_base.specs.Cluster.{leader_of}
use Rattle.nz_base.specs.declared.key.Id.{Id}
use Rattle.nz_base.specs.declared.key.Entry.{Entry}
use Rattle.nz_base.specs.Moments.{At}
use Rattle.nz_base.proofs.Moments.{at_self}
use Rattle.nz_store.specs.declared.command.Answer.{Answer}
use Rattle.nz_machine.specs.declared.event.Record.{Record}
use Rattle.nz_machine.specs.rules.State.{Group}
use Rattle.nz_machine.specs.rules.Replicas.{is_up}
use Rattle.nz_machine.specs.runs.World.{World}
use Rattle.nz_machine.specs.runs.Incarnations.{replica_at}
use Rattle.nz_machine.specs.runs.Leading.{is_normal_in}
use Rattle.nz_machine.specs.runs.Committed.{IsAcceptedIn}
use Rattle.nz_machine.proofs.shows.Shows.{leader_below}
use Rattle.nz_laws_cv.proofs.Beginnings.{normal_in_is}
use Rattle.nz_laws_commit.specs.States.{IsUp}
use Rattle.nz_laws_commit.specs.Supports.{IsNormal}
use Rattle.nz_laws_commit.specs.Instance.{status_of, states_of, logs_of}
use Rattle.nz_laws_commit.specs.Present.{AreUpWithin}
use Rattle.nz_laws_commit.proofs.RunLaws.{RunLaws}
use Rattle.nz_laws_commit.proofs.OneView.{run_laws}
use Rattle.nz_laws_commit.proofs.Instance.{up_status, normal_up_status, is_normal_at}
use Rattle.nz_laws_commit.proofs.Answering.{IsGiven}
use Rattle.nz_laws_commit.proofs.Accepted.{decided_in}
use Rattle.nz_laws_commit.proofs.Whole.{follows}

module _ (g : Group) (J : List Record) (w : World g J) where
  abbrev laws : RunLaws (logs_of g) J
  laws = run_laws (states_of g) J (follows g J w)

  -- a rejoin ends in no lower view than those of the earlier incarnations
  earlier_incarnation : (x v : ℕ) (K : List Record) → At J K → IsUp (status_of (replica_at g x J).status) → IsNormal (logs_of g) x v K
      → (logs_of g).inc x K < (logs_of g).inc x J → v ≤ (replica_at g x J).view
  earlier_incarnation x v K at up was less =
      let c = laws.completed x J (at_self J) up (omega (arith, less)) in
      let same = c.same in
      let low = laws.was_normal x v K c.C at c.moment was c.completes (omega (arith, less, same)) in
      let risen = c.view in
      omega (arith, low, risen)

  -- within an incarnation views rise
  same_incarnation : (x v : ℕ) (K : List Record) → At J K → IsUp (status_of (replica_at g x J).status) → IsUp (status_of (replica_at g x K).status)
      → (replica_at g x K).view ≡ v → (logs_of g).inc x J ≤ (logs_of g).inc x K → v ≤ (replica_at g x J).view
  same_incarnation x v K at up was view from =
      let grown = laws.inc_grows x K J (at_self J) at in
      let risen = (laws.monotone x K J (at_self J) at (omega (arith, from, grown)) was up).view in
      omega (arith, view, risen)

  pub views_rise : (x v : ℕ) (K : List Record) → At J K → is_up (replica_at g x J).status ≡ true → is_normal_in v (replica_at g x K) ≡ true
      → v ≤ (replica_at g x J).view
  views_rise x v K at up normal =
      let s = replica_at g x K in
      let was = normal_in_is v s normal in
      let now = up_status (replica_at g x J).status up in
      elim (cases_lt ((logs_of g).inc x K) ((logs_of g).inc x J)) [
        | inl less ↦ earlier_incarnation x v K at now (is_normal_at g x v K was.0 was.1) less
        | inr from ↦ same_incarnation x v K at now (normal_up_status s.status was.0) was.1 from
      ]

-- who gave an answer led the answer's view
pub given_within : (g : Group) (J : List Record) (top v : ℕ) (id : Id) (a : Answer) (P : List Entry) → World g J → AreUpWithin top g J
    → IsGiven g J v id a P → v ≤ top
given_within g J top v id a P w up h =
    let l = leader_of g.f v in
    let now = up l (leader_below g.f v) in
    let risen = views_rise g J w l v h.moment h.at now.up h.led in
    let low = now.view in
    omega (arith, risen, low)

pub accepted_within : (g : Group) (J : List Record) (top v : ℕ) (P : List Entry) → World g J → AreUpWithin top g J → IsAcceptedIn g v P J → v ≤ top
accepted_within g J top v P w up h = let d = decided_in g J w v P h in given_within g J top v d.id d.answer P w up d.given
