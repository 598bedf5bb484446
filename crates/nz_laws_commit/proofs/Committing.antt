-- Of a run that follows the rules: accepted prefixes are in each later start and paired, and synced parts are the
-- leaders'.
use Rattle.std.proofs.Common.{◌≡◌, ℕ, zero, suc, true, List, [], ◌∷◌, take, sym, ap, subst, ◌∙◌, inl, inr}
use Rattle.std.specs.Option.{option_map}
use Rattle.std.proofs.lemmas.List.{take-map}
use Rattle.nz_base.specs.declared.key.Key.{Key}
use Rattle.nz_base.specs.declared.key.Entry.{Entry}
use Rattle.nz_base.specs.Cluster.{leader_of}
use Rattle.nz_base.specs.Key.{id_of}
use Rattle.nz_base.specs.Log.{keys_of}
use Rattle.nz_base.specs.Moments.{At}
use Rattle.nz_base.specs.Prefixes.{IsPrefix}
use Rattle.nz_base.proofs.Moments.{at_self}
use Rattle.nz_store.specs.Sequence.{replies}
use Rattle.nz_log.specs.Synced.{synced_part}
use Rattle.nz_machine.specs.declared.event.Record.{Record}
use Rattle.nz_machine.specs.rules.State.{Group}
use Rattle.nz_machine.specs.rules.Replicas.{commands}
use Rattle.nz_machine.specs.runs.World.{Has, World}
use Rattle.nz_machine.specs.declared.client_event.ClientEvent.TheVariants.{Sent}
use Rattle.nz_machine.specs.runs.OneHistory.{NoCollision}
use Rattle.nz_machine.specs.runs.Leading.{is_normal_in, leader_at, is_led, lead}
use Rattle.nz_machine.specs.runs.Committed.{Prefixes}
use Rattle.nz_machine.specs.runs.Incarnations.{replica_at}
use Rattle.nz_machine.proofs.runs.Moments.{at_world}
use Rattle.nz_laws_cv.proofs.Beginnings.{normal_in_is}
use Rattle.nz_laws_commit.specs.Does.{FollowsRules}
use Rattle.nz_laws_commit.specs.Instance.{states_of, logs_of}
use Rattle.nz_laws_commit.proofs.RunLaws.{RunLaws}
use Rattle.nz_laws_commit.proofs.OneView.{run_laws}
use Rattle.nz_laws_commit.proofs.LaterStarts.{in_later_starts, pairs}
use Rattle.nz_laws_commit.proofs.FactsStay.{facts_stay}
use Rattle.nz_laws_commit.proofs.Instance.{normal_status, normal_up_status, led_log, led_leads, lead_is, start_is}
use Rattle.nz_laws_commit.proofs.Keyed.{WereSent, keyed_prefix, keyed_comparable, start_sent, lead_sent}
use Rattle.nz_laws_commit.proofs.OwnCommands.{own_command}
use Rattle.nz_laws_commit.proofs.Accepted.{events_later, given_sent, IsDecidedIn, decided_in, accepted_somewhere}
use Rattle.nz_laws_commit.proofs.Supporting.{accepted_supported}

-- the answers of a leader are those of one store that executes its log
pub led_results : (g : Group) (J : List Record) (v : ℕ) → World g J → is_led g v J ≡ true
    → (leader_at g v J).results ≡ replies (commands (lead g v J))
led_results g J v w led =
    let facts = facts_stay g J (leader_of g.f v) w in
    let now = normal_in_is v (leader_at g v J) led in
    (facts.executed.led now.0 (led_leads g v J led)).results ∙ ap (λ (l : List Entry). replies (commands l)) (sym (led_log g v J led))

pub taken_has : (n : ℕ) (es : List Entry) (e : Entry) → Has (take n es) e → Has es e
taken_has zero es e h = absurd h
taken_has (suc n) [] e h = absurd h
taken_has (suc n) (x ∷ es) e (inl h) = inl h
taken_has (suc n) (x ∷ es) e (inr h) = inr (taken_has n es e h)

decided_sent : (g : Group) (J : List Record) (v : ℕ) (P : List Entry) → World g J → IsDecidedIn g J v P → WereSent g J P
decided_sent g J v P w d e h = given_sent g J w v d.id d.answer P d.given e h

module _ (g : Group) (J : List Record) (w : World g J) (rules : FollowsRules (states_of g) J) where
  abbrev laws : RunLaws (logs_of g) J
  laws = run_laws (states_of g) J rules

  -- ---- accepted prefixes

  pub prefixes_of : NoCollision g J → Prefixes g J
  prefixes_of apart = record {
    started = λ v n P S accepted later begun.
        let d = decided_in g J w v P accepted in
        let support = accepted_supported g J w laws apart v P d in
        let keys = in_later_starts (logs_of g) J laws v (keys_of P) support n (keys_of S) later (start_is g n J ∙ ap (option_map keys_of) begun) in
        keyed_prefix g J P S (decided_sent g J v P w d) (start_sent g J w n S begun) keys;
    paired = record {
      each = λ P Q p q.
          let x = accepted_somewhere g J w P p in
          let y = accepted_somewhere g J w Q q in
          let a = decided_in g J w x.0 P x.1 in
          let b = decided_in g J w y.0 Q y.1 in
          let either = pairs (logs_of g) J laws x.0 y.0 (keys_of P) (keys_of Q) (accepted_supported g J w laws apart x.0 P a)
          (accepted_supported g J w laws apart y.0 Q b) in
          keyed_comparable g J P Q (decided_sent g J x.0 P w a) (decided_sent g J y.0 Q w b) either;
    };
  }

  -- ---- one view

  -- the log that a view's leader leads with only grows
  pub lead_grown : (v : ℕ) (K : List Record) → At J K → IsPrefix (lead g v K) (lead g v J)
  lead_grown v K at =
      let keys = laws.lead_grows v K J (at_self J) at in
      let own = subst (λ (ks : List Key). IsPrefix ks (keys_of (lead g v J))) (lead_is g v K)
      (subst (λ (ks : List Key). IsPrefix ((logs_of g).lead v K) ks) (lead_is g v J) keys) in
      keyed_prefix g J (lead g v K) (lead g v J)
      (λ e h. events_later g J K at (Sent (id_of e.key) e.command) (lead_sent g K (at_world g J K w at) v e h)) (lead_sent g J w v) own

  -- the synced part of a replica's log is a prefix of what its view's leader leads with
  pub synced_is_leads : (m v : ℕ) → is_normal_in v (replica_at g m J) ≡ true → IsPrefix (synced_part (replica_at g m J).log) (lead g v J)
  synced_is_leads m v normal =
      let s = replica_at g m J in
      let now = normal_in_is v s normal in
      let last = laws.modes m J (at_self J) (normal_status s.status now.0) ∙ now.1 in
      let keys = laws.synced_lead m v J (at_self J) (record { up = normal_up_status s.status now.0; last = last }) in
      let part : IsPrefix (take s.log.synced (keys_of s.log.entries)) (keys_of (lead g v J)) =
      subst (λ (ks : List Key). IsPrefix (take s.log.synced (keys_of s.log.entries)) ks) (lead_is g v J) keys in
      let own : IsPrefix (keys_of (take s.log.synced s.log.entries)) (keys_of (lead g v J)) =
      subst (λ (ks : List Key). IsPrefix ks (keys_of (lead g v J))) (take-map (λ (x : Entry). x.key) s.log.synced s.log.entries) part in
      keyed_prefix g J (take s.log.synced s.log.entries) (lead g v J)
      (λ e h. own_command g J m e w (taken_has s.log.synced s.log.entries e h)) (lead_sent g J w v) own
