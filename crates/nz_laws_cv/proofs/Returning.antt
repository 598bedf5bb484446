-- A completion adopts the log that the leader of its view told at a moment of the same incarnation, with its own
-- counter.
use Rattle.std.proofs.Common.{◌≡◌, ℕ, ◌≤◌, ◌<◌, true, List, ◌∷◌, length, sym, ap, subst, ◌∙◌, inr, arith}
use Rattle.std.proofs.lemmas.Bool.{and_parts}
use Rattle.std.specs.Prelude.{slice_index}
use Rattle.nz_base.specs.Cluster.{leader_of}
use Rattle.nz_base.specs.declared.actor.Actor.TheVariants.{Replica}
use Rattle.nz_msg.specs.declared.message.Message.TheVariants as messages
use Rattle.nz_machine.specs.declared.event.Record.{Record}
use Rattle.nz_machine.specs.rules.State.{ReplicaData, Group}
use Rattle.nz_machine.specs.rules.Replicas.{is_normal}
use Rattle.nz_machine.specs.runs.World.{World}
use Rattle.nz_machine.specs.runs.Incarnations.{replica_at, incarnation, completes}
use Rattle.nz_base.specs.Moments.{At}
use Rattle.nz_machine.proofs.facts.Guards.{normal_up}
use Rattle.nz_laws_cv.proofs.OutcomeRules.{heard_by}
use Rattle.nz_laws_cv.proofs.Steps.{law_state_at, Acts, Rests, steps}
use Rattle.nz_base.proofs.Moments.{at_self, at_then, at_shorter}
use Rattle.nz_laws_cv.proofs.Modes.{normal_no_rejoin, up_not_down}
use Rattle.nz_laws_cv.proofs.WithinIncarnation.{inc_grows, goes_far, nonce_at}
use Rattle.nz_laws_cv.proofs.SentShows.{Shows, shows_before, sent_at, was_sent}
use Rattle.nz_laws_cv.proofs.Tellers.{log_settled}
use Rattle.nz_laws_cv.proofs.Collected.{IsReturn, returns, rejoining_at, rejoins_later}
use Rattle.nz_laws_cv.proofs.Grounds.{inside}

-- where the log of a completion comes from
pub record IsTakenFrom (g : Group) (m : ℕ) (C T : List Record) : Type 0 where
  pub at : At C T
  pub before : length T < length C
  pub normal : is_normal (replica_at g (leader_of g.f (replica_at g m C).view) T).status ≡ true
  pub view : (replica_at g (leader_of g.f (replica_at g m C).view) T).view ≡ (replica_at g m C).view
  pub entries : (replica_at g m C).log.entries ≡ (replica_at g (leader_of g.f (replica_at g m C).view) T).log.entries
  pub synced : (replica_at g m C).log.synced ≡ length (replica_at g m C).log.entries
  pub commit : (replica_at g m C).commit ≡ (replica_at g (leader_of g.f (replica_at g m C).view) T).commit
  pub inside : incarnation g m T ≡ incarnation g m C
  pub counter : slice_index (replica_at g m C).vector m ≤ slice_index (replica_at g (leader_of g.f (replica_at g m C).view) T).vector m

returned : (g : Group) (m : ℕ) (r : Record) (K : List Record) → World g (r ∷ K) → Shows g (r ∷ K) → rejoining_at g m K ≡ true
    → is_normal (replica_at g m (r ∷ K)).status ≡ true → r.actor ≡ Replica m
    → IsReturn g.f m r.event (heard_by g m r.event) (law_state_at g m K) (law_state_at g m (r ∷ K)) → (T : List Record) × IsTakenFrom g m (r ∷ K) T
returned g m r K w h rejoins normal a d =
    let C = r ∷ K in
    let before = shows_before g r K h in
    let sent = was_sent g m r K w a d.sender (messages.StateTell d.body) d.new.is in
    let s = sent_at d.sender m (messages.StateTell d.body) K sent in
    let T = s.record_of ∷ s.older in
    let tells = before.state_tell d.sender m d.body s.record_of s.older s.at s.sends in
    let q = sent_at m d.sender (messages.StateAsk tells.ask) s.older tells.asked in
    let Q = q.record_of ∷ q.older in
    let asks = before.state_ask m d.sender tells.ask q.record_of q.older (at_then K T Q s.at (inr q.at)) q.sends in
    let not_down = up_not_down (replica_at g m C).status (normal_up (replica_at g m C).status normal) in
    let first = rejoins_later g m K w.1 rejoins in
    let more = inc_grows g m C K w (inr (at_self K)) in
    let nonce : nonce_at g m Q ≡ nonce_at g m C = asks.nonce ∙ tells.nonce ∙ d.ours.same ∙ sym (ap (λ (x : ReplicaData). x.rejoin.nonce) d.is) in
    let in_here = inside g m C T Q w (inr s.at) (inr q.at) not_down (omega (arith, first, more)) asks.rejoining nonce in
    let own = (goes_far g m C Q w (at_then C T Q (inr s.at) (inr q.at)) in_here.asked not_down).own (log_settled (law_state_at g m Q) asks.in_phase) in
    let asked = ap (λ (v : List ℕ). slice_index v m) asks.vector in
    let merged_own = tells.merged.places m tells.other in
    let entries : (replica_at g m C).log.entries ≡ d.body.entries = ap (λ (x : ReplicaData). x.log.entries) d.is in
    let synced : (replica_at g m C).log.synced ≡ length d.body.entries = ap (λ (x : ReplicaData). x.log.synced) d.is in
    let commit : (replica_at g m C).commit ≡ d.body.commit = ap (λ (x : ReplicaData). x.commit) d.is in
    let view : (replica_at g m C).view ≡ d.body.view = ap (λ (x : ReplicaData). x.view) d.is in
    let leads : d.sender ≡ leader_of g.f (replica_at g m C).view = d.leader ∙ ap (leader_of g.f) (sym view) in
    let short = at_shorter K T s.at in (
      T,
      record {
        at = inr s.at;
        before = omega (arith, short);
        normal = subst (λ (z : ℕ). is_normal (replica_at g z T).status ≡ true) leads tells.normal;
        view = subst (λ (z : ℕ). (replica_at g z T).view ≡ (replica_at g m C).view) leads (tells.view ∙ sym view);
        entries = subst (λ (z : ℕ). (replica_at g m C).log.entries ≡ (replica_at g z T).log.entries) leads (entries ∙ sym tells.entries);
        synced = synced ∙ sym (ap length entries);
        commit = subst (λ (z : ℕ). (replica_at g m C).commit ≡ (replica_at g z T).commit) leads (commit ∙ sym tells.commit);
        inside = in_here.told;
        counter = subst (λ (z : ℕ). slice_index (replica_at g m C).vector m ≤ slice_index (replica_at g z T).vector m) leads
            (omega (arith, own, asked, merged_own));
      },
    )

pub taken_from : (g : Group) (m : ℕ) (r : Record) (K : List Record) → World g (r ∷ K) → Shows g (r ∷ K) → completes g m (r ∷ K) ≡ true
    → (T : List Record) × IsTakenFrom g m (r ∷ K) T
taken_from g m r K w h c =
    let rejoins = (and_parts (rejoining_at g m K) (is_normal (replica_at g m (r ∷ K)).status) c).0 in
    let normal = (and_parts (rejoining_at g m K) (is_normal (replica_at g m (r ∷ K)).status) c).1 in
    elim (steps g m r K) [
      | Acts a outcome ↦ returned g m r K w h rejoins normal a
          (returns g.f m r.event (heard_by g m r.event) (law_state_at g m K) (law_state_at g m (r ∷ K)) outcome rejoins normal)
      | Rests e same ↦ normal_no_rejoin (replica_at g m K).status (sym (ap (λ (s : ReplicaData). is_normal s.status) same) ∙ normal) rejoins
    ]
