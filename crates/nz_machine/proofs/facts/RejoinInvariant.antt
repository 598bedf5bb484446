-- What the code keeps of a replica, at the calls by which it collects what others told.
use Rattle.nz_base.specs.declared.limits.TheConstants.{MAX_VIEW}
use Rattle.std.proofs.Common.{◌≡◌, ℕ, ◌<◌, max, subst, List, [], ◌∷◌, ◌++◌, length, refl, sym, eq-eqb}
use Rattle.std.specs.Prelude.{◌==◌, if◌then◌else◌, slice_index}
use Rattle.std.specs.List.{list_any}
use Rattle.nz_base.specs.Cluster.{replica_count}
use Rattle.nz_store.specs.Entries.{Entries}
use Rattle.nz_msg.specs.Messages.{rejoin_tell}
use Rattle.nz_msg.specs.declared.message.RejoinTellBody.{RejoinTellBody}
use Rattle.nz_msg.proofs.Fields.{within_most}
use Rattle.nz_machine.specs.declared.data.ToldView.{ToldView}
use Rattle.nz_machine.specs.rules.State.{ReplicaData}
use Rattle.nz_machine.specs.rules.Facts.{AreCounters, HasFacts, IsKeptReplica}
use Rattle.nz_machine.specs.rules.Rejoining.{with_tell}
use Rattle.nz_machine.proofs.facts.ViewInvariant.{kept_facts}
use Rattle.nz_machine.proofs.facts.SentFields.{vector_counts}
use Rattle.nz_machine.proofs.facts.WordsKeepFacts.{teller_keeps, tell_keeps}

pub kept_teller : (f me : ℕ) (s : ReplicaData) (store : Entries) (sender : ℕ) (vector : List ℕ) (claim : ℕ) (tellers : List ℕ) → IsKeptReplica f me s store
    → sender < replica_count f → AreCounters f vector → claim ≡ max s.rejoin.claim (slice_index vector me)
    → tellers ≡ (if list_any (λ t. t == sender) s.rejoin.tellers then s.rejoin.tellers else s.rejoin.tellers ++ sender ∷ [])
    → IsKeptReplica f me (record s { rejoin = record s.rejoin { claim = claim; tellers = tellers } }) store
kept_teller f me s store sender vector claim tellers k member counters claim-is tellers-is =
    let t : ReplicaData = record s { rejoin = record s.rejoin { claim = claim; tellers = tellers } } in
    let facts : HasFacts f me t =
    subst (HasFacts f me) (λ i. record s {
      rejoin = record s.rejoin {
        claim = sym claim-is i;
        tellers = sym tellers-is i;
      };
    }) (teller_keeps f me s sender vector k.facts member counters) in
    kept_facts f me s t store k facts refl refl refl

pub kept_tell : (f me : ℕ) (s : ReplicaData) (store : Entries) (sender : ℕ) (b : RejoinTellBody) (tells : List ToldView) → IsKeptReplica f me s store
    → sender < replica_count f → rejoin_tell.fits b → length b.vector ≡ replica_count f → tells ≡ (with_tell s sender b).rejoin.tells
    → IsKeptReplica f me (record s { rejoin = record s.rejoin { tells = tells } }) store
kept_tell f me s store sender b tells k member fits long is =
    let t : ReplicaData = record s { rejoin = record s.rejoin { tells = tells } } in
    let counters = vector_counts f b.vector fits.1.1 (eq-eqb (length b.vector) (replica_count f) long) in
    let low = within_most 8 0 MAX_VIEW b.view fits.1.0 in
    let facts : HasFacts f me t =
    subst (HasFacts f me) (λ i. record s { rejoin = record s.rejoin { tells = sym is i } })
    (tell_keeps f me s sender b k.facts member low counters) in
    kept_facts f me s t store k facts refl refl refl
