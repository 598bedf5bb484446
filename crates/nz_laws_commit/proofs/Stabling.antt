-- What replicas know to be committed stays: it is in each later start, the same incarnation's extends it, and any two
-- are comparable; and it is comparable with what is accepted.
use Rattle.std.proofs.Common.{◌≡◌, ℕ, Bool, true, false, cond, List, [], ◌∷◌, take, Some, None, refl, sym, ap, subst, ◌∙◌, inl, inr}
use Rattle.std.specs.Option.{option_map}
use Rattle.std.proofs.lemmas.List.{take-map}
use Rattle.std.proofs.lemmas.Option.{none-some, same_Some}
use Rattle.nz_base.specs.Key.{id_of}
use Rattle.nz_base.specs.Log.{keys_of}
use Rattle.nz_base.specs.Moments.{At}
use Rattle.nz_base.specs.Prefixes.{IsPrefix}
use Rattle.nz_base.specs.declared.key.Entry.{Entry}
use Rattle.nz_base.proofs.Moments.{at_then, at_tail}
use Rattle.nz_base.proofs.Prefixes.{prefix_self, prefix_then, comparable_back, comparable_prefix}
use Rattle.nz_machine.specs.declared.event.Record.{Record}
use Rattle.nz_machine.specs.declared.client_event.ClientEvent.TheVariants.{Sent}
use Rattle.nz_machine.specs.rules.State.{ReplicaData, Group}
use Rattle.nz_machine.specs.rules.Replicas.{is_up}
use Rattle.nz_machine.specs.runs.World.{Has, World}
use Rattle.nz_machine.specs.runs.OneHistory.{NoCollision, IsAccepted}
use Rattle.nz_machine.specs.runs.Incarnations.{replica_at, incarnation}
use Rattle.nz_machine.proofs.runs.Moments.{at_world}
use Rattle.nz_laws_cv.proofs.Modes.{up_no_rejoin, rejoin_not_down}
use Rattle.nz_laws_cv.proofs.Steps.{law_state_at}
use Rattle.nz_laws_cv.proofs.WithinIncarnation.{goes_far}
use Rattle.nz_laws_cv.proofs.Collected.{StayedUp, Rejoined, was_up}
use Rattle.nz_laws_commit.specs.Instance.{states_of, logs_of}
use Rattle.nz_laws_commit.specs.Stable.{committed_of, Stable, IsComparableWith}
use Rattle.nz_laws_commit.proofs.RunLaws.{RunLaws}
use Rattle.nz_laws_commit.proofs.OneView.{run_laws}
use Rattle.nz_laws_commit.proofs.LaterStarts.{pairs}
use Rattle.nz_laws_commit.proofs.Instance.{start_is}
use Rattle.nz_laws_commit.proofs.Keyed.{WereSent, keyed_prefix, keyed_comparable, start_sent}
use Rattle.nz_laws_commit.proofs.OwnCommands.{own_command}
use Rattle.nz_laws_commit.proofs.Accepted.{events_later, given_sent, decided_in, accepted_somewhere}
use Rattle.nz_laws_commit.proofs.Supporting.{accepted_supported}
use Rattle.nz_laws_commit.proofs.Committing.{taken_has}
use Rattle.nz_laws_commit.proofs.Whole.{follows}
use Rattle.nz_laws_commit.proofs.Backing.{HasSupport, support_starts, support_pairs}
use Rattle.nz_laws_commit.proofs.Committed.{committed_keys, committed_support, committed_extends}

-- who has committed entries is up, and they are the first of its log
record IsCommitted (s : ReplicaData) (P : List Entry) : Type 0 where
  up : is_up s.status ≡ true
  is : take s.commit s.log.entries ≡ P

is_committed : (s : ReplicaData) (P : List Entry) → committed_of s ≡ Some P → IsCommitted s P
is_committed s P e = by_up (is_up s.status) refl e
  where
    by_up : (b : Bool) → is_up s.status ≡ b → cond b (Some (take s.commit s.log.entries)) None ≡ Some P → IsCommitted s P
    by_up true up same = record { up = up; is = same_Some (take s.commit s.log.entries) P same }
    by_up false up same = absurd (none-some P same)

module _ (g : Group) (J : List Record) (w : World g J) where
  abbrev laws : RunLaws (logs_of g) J
  laws = run_laws (states_of g) J (follows g J w)

  keys_are : (m : ℕ) (K : List Record) (P : List Entry) → IsCommitted (replica_at g m K) P → committed_keys (law_state_at g m K) ≡ keys_of P
  keys_are m K P c =
      let s = replica_at g m K in
      take-map (λ (e : Entry). e.key) s.commit s.log.entries ∙ ap keys_of c.is

  support_of : (m : ℕ) (K : List Record) (P : List Entry) → At J K → IsCommitted (replica_at g m K) P → HasSupport g (replica_at g m K).last (keys_of P) J
  support_of m K P at c =
      subst (λ ks. HasSupport g (replica_at g m K).last ks J) (keys_are m K P c) (committed_support g J w m K at c.up)

  committed_sent : (m : ℕ) (K : List Record) (P : List Entry) → At J K → IsCommitted (replica_at g m K) P → WereSent g J P
  committed_sent m K P at c e h =
      let s = replica_at g m K in
      let there = taken_has s.commit s.log.entries e (subst (λ (l : List Entry). Has l e) (sym c.is) h) in
      events_later g J K at (Sent (id_of e.key) e.command) (own_command g K m e (at_world g J K w at) there)

  -- ---- within an incarnation

  extends_far : (m : ℕ) (K L : List Record) → At J L → At L K → incarnation g m K ≡ incarnation g m L → is_up (replica_at g m K).status ≡ true
      → is_up (replica_at g m L).status ≡ true → IsPrefix (committed_keys (law_state_at g m K)) (committed_keys (law_state_at g m L))
  extends_far m K [] at there same was up =
      subst (λ (x : List Record). IsPrefix (committed_keys (law_state_at g m K)) (committed_keys (law_state_at g m x))) there
      (prefix_self (committed_keys (law_state_at g m K)))
  extends_far m K (r ∷ L) at (inl here) same was up =
      subst (λ (x : List Record). IsPrefix (committed_keys (law_state_at g m K)) (committed_keys (law_state_at g m x))) here
      (prefix_self (committed_keys (law_state_at g m K)))
  extends_far m K (r ∷ L) at (inr older) same was up =
      let now = at_world g J (r ∷ L) w at in
      let before = at_tail J r L at in
      elim (was_up g m r L now up) [
        | StayedUp still inc goes ↦
            prefix_then (committed_keys (law_state_at g m K)) (committed_keys (law_state_at g m L)) (committed_keys (law_state_at g m (r ∷ L)))
            (extends_far m K L before older (same ∙ inc) was still) (committed_extends g J w m r L at still up)
        | Rejoined rejoining normal inc goes ↦
            let gone = goes_far g m L K now.1 older (same ∙ inc) (rejoin_not_down (replica_at g m L).status rejoining) in
            up_no_rejoin (replica_at g m L).status (gone.stays_up was) rejoining
      ]

  -- ---- the law

  -- committed prefixes are stable in every run
  pub stable : Stable g J
  stable = record {
    started = λ m v K P S at holds later begun.
        let c = is_committed (replica_at g m K) P holds in
        keyed_prefix g J P S (committed_sent m K P at c) (start_sent g J w v S begun)
        (support_starts g J laws (replica_at g m K).last v (keys_of P) (keys_of S) (support_of m K P at c) later
        (start_is g v J ∙ ap (option_map keys_of) begun));
    extended = λ m K L P Q at there same holds_p holds_q.
        let p = is_committed (replica_at g m K) P holds_p in
        let q = is_committed (replica_at g m L) Q holds_q in
        let at_k = at_then J L K at there in
        let keys = extends_far m K L at there same p.up q.up in
        let one = subst (λ ks. IsPrefix ks (committed_keys (law_state_at g m L))) (keys_are m K P p) keys in
        keyed_prefix g J P Q (committed_sent m K P at_k p) (committed_sent m L Q at q) (subst (IsPrefix (keys_of P)) (keys_are m L Q q) one);
    paired = λ m n K L P Q at_k at_l holds_p holds_q.
        let p = is_committed (replica_at g m K) P holds_p in
        let q = is_committed (replica_at g n L) Q holds_q in
        keyed_comparable g J P Q (committed_sent m K P at_k p) (committed_sent n L Q at_l q)
        (support_pairs g J laws (replica_at g m K).last (replica_at g n L).last (keys_of P) (keys_of Q) (support_of m K P at_k p) (support_of n L Q at_l q));
  }

  -- the one place where digests matter
  pub comparable_with_accepted : NoCollision g J → (A : List Entry) → IsAccepted g A J → IsComparableWith g J A
  comparable_with_accepted apart A accepted m K P at holds =
      let c = is_committed (replica_at g m K) P holds in
      let x = accepted_somewhere g J w A accepted in
      let d = decided_in g J w x.0 A x.1 in
      let h = support_of m K P at c in
      let either = pairs (logs_of g) J laws h.view x.0 h.list (keys_of A) h.support (accepted_supported g J w laws apart x.0 A d) in
      keyed_comparable g J P A (committed_sent m K P at c) (λ e there. given_sent g J w x.0 d.id d.answer A d.given e there)
      (comparable_back (keys_of A) (keys_of P) (comparable_prefix (keys_of A) (keys_of P) h.list (comparable_back h.list (keys_of A) either) h.part))
