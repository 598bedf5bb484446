-- What a replica hears comes from another replica of the cluster, and counts.
use Rattle.std.proofs.Common.{◌≡◌, ℕ, ◌<◌, true, false, eqb, Some, sym, ap, ◌∙◌, arith, eq-eqb}
use Rattle.std.specs.Prelude.{nat_lt}
use Rattle.std.proofs.lemmas.Bool.Decides.{nat_tests}
use Rattle.nz_base.specs.Actor.{actor_eq}
use Rattle.nz_base.specs.Cluster.{replica_count}
use Rattle.nz_base.specs.declared.actor.Actor.{Actor}
use Rattle.nz_base.specs.declared.actor.Actor.TheVariants.{Replica}
use Rattle.nz_msg.specs.declared.message.Message.{Message}
use Rattle.nz_machine.specs.declared.event.Event.{Event}
use Rattle.nz_machine.specs.rules.State.{Group}
use Rattle.nz_machine.specs.runs.Hearing.{Heard}
use Rattle.nz_machine.specs.rules.Step.{is_in_cluster, is_sized, message_vector}
use Rattle.nz_machine.proofs.shows.ReadShows.{delivers}
use Rattle.nz_laws_cv.proofs.OutcomeRules.{heard_by}

-- the message comes from another replica of the cluster, with a vector of its size if it has one
pub record Hears (f me sender : ℕ) (m : Message) : Type 0 where
  pub other : ¬ (sender ≡ me)
  pub below : sender < replica_count f
  pub sized : is_sized f (message_vector m) ≡ true

pub record HearsFit (f me : ℕ) (heard : Heard) : Type 0 where
  pub hears : (sender : ℕ) (m : Message) → heard ≡ Some (Replica sender, m) → Hears f me sender m

hears_by : (g : Group) (me : ℕ) (e : Event) (sender : ℕ) (m : Message) → heard_by g me e ≡ Some (Replica sender, m) → Hears g.f me sender m
hears_by g me e sender m h =
    let d = delivers g (Replica me) e (Replica sender) m h in
    let away : eqb sender me ≡ false = ap (λ (a : Actor). actor_eq a (Replica me)) (sym d.from_is) ∙ d.counts.other in
    let member : nat_lt sender (replica_count g.f) ≡ true = ap (λ (a : Actor). is_in_cluster g.f a) (sym d.from_is) ∙ d.counts.member in
    record {
      other = λ same. let one = eq-eqb sender me same in cc;
      below = grind (arith, nat_tests, member);
      sized = ap (λ (x : Message). is_sized g.f (message_vector x)) (sym d.message_is) ∙ d.counts.sized;
    }

pub hears_fit : (g : Group) (me : ℕ) (e : Event) → HearsFit g.f me (heard_by g me e)
hears_fit g me e = record { hears = hears_by g me e }
