-- What the code keeps of a replica, when one part of it changes.
use Rattle.std.proofs.Common.{◌≡◌, ℕ, ◌<◌, ◌≤◌, true, false, List, [], ◌∷◌, ◌++◌, length, IsTrue, IsFalse, IfSome, refl, sym, ap, subst, ◌∙◌, inl, inr, cond}
use Rattle.std.proofs.lemmas.Bool.{ltb-true, cases_Bool, and_parts}
use Rattle.std.specs.List.{AllByRecursion}
use Rattle.std.specs.Map.{lookup}
use Rattle.indexmap.specs.IndexMap.{insert_entry}
use Rattle.nz_base.specs.Cluster.{replica_count}
use Rattle.nz_base.specs.declared.key.Id.{Id}
use Rattle.nz_base.specs.declared.key.Entry.{Entry}
use Rattle.nz_base.specs.Key.{id_eq, id_of}
use Rattle.nz_base.specs.Log.{keys_of, has_id, is_above_last}
use Rattle.nz_base.specs.declared.limits.TheConstants.{MAX_ENTRIES}
use Rattle.nz_store.specs.Entries.{Entries, empty}
use Rattle.nz_store.specs.Sequence.{store_after}
use Rattle.nz_store.specs.declared.command.Answer.{Answer}
use Rattle.nz_log.specs.Synced.{Log}
use Rattle.nz_buffers.specs.Buffers.{insert_by_key, without, is_due}
use Rattle.nz_machine.specs.declared.data.Origin.{Origin}
use Rattle.nz_machine.specs.rules.State.{ReplicaData}
use Rattle.nz_machine.specs.rules.Facts.{AreArranged, FitsEntry, IsKnown, HasFacts, ReplicaModel, IsKeptReplica}
use Rattle.nz_machine.specs.rules.Replicas.{leads, is_normal, commands, first_replica, crashed_replica}
use Rattle.nz_machine.specs.rules.Releases.{log_with_entry, results_with_entry, log_has_room, may_release, first_may}
use Rattle.nz_machine.proofs.facts.ArrangedEntries.{arranged_late, first_above, first_fresh}
use Rattle.nz_machine.proofs.facts.Stores.{no_store}
use Rattle.nz_machine.proofs.facts.RulesKeepFacts.{arranged, first_has_facts, crashed_has_facts, origin_keeps, waiting_keeps, early_keeps, released_keeps}

pub kept_first : (f me : ℕ) (s : ReplicaData) (store : Entries) → me < replica_count f → s ≡ first_replica f → store ≡ empty → IsKeptReplica f me s store
kept_first f me s store member is none =
    record {
      member = member;
      facts = subst (λ (t : ReplicaData). HasFacts f me t) (sym is) (first_has_facts f me);
      store = λ normal lead. none ∙ sym no_store ∙ sym (ap (λ (t : ReplicaData). store_after (commands t.log.entries)) is);
    }

-- where a request came from, if that is known
pub is_known : (es : List (Id × Origin)) (id : Id) → AllByRecursion IsKnown es → IfSome (lookup (id_eq id) es) (λ o. o.proxy ≤ 7)
is_known [] id all = tt
is_known (e ∷ es) id all =
    elim (cases_Bool (id_eq id e.0)) [
      | inl here ↦ rw here all.0.proxy
      | inr away ↦ rw away (is_known es id all.1)
    ]

pub kept_origin : (f me : ℕ) (s : ReplicaData) (store : Entries) (id : Id) (origin : Origin) (all : List (Id × Origin))
    → IsKeptReplica f me s store → IsKnown (id, origin)
    → all ≡ insert_entry id_eq s.origin id origin → IsKeptReplica f me (record s { origin = all }) store
kept_origin f me s store id origin all k known is =
    record {
      member = k.member;
      facts = subst (λ (xs : List (Id × Origin)). HasFacts f me (record s { origin = xs })) (sym is) (origin_keeps f me s id origin k.facts known);
      store = λ normal lead. k.store normal lead;
    }

pub kept_early : (f me : ℕ) (s : ReplicaData) (store : Entries) (e : Entry) (early late : List Entry) → IsKeptReplica f me s store → FitsEntry e
    → is_above_last (keys_of s.log.entries) e.key ≡ true → IsFalse (has_id (keys_of s.log.entries) (id_of e.key))
    → IsFalse (has_id (keys_of s.early) (id_of e.key))
    → early ≡ insert_by_key s.early e → late ≡ without s.late (id_of e.key) → IsKeptReplica f me (record s { early = early; late = late }) store
kept_early f me s store e early late k fits above logged held early-is late-is =
    let done = early_keeps f me s e k.facts fits above logged held in
    record {
      member = k.member;
      facts = subst (λ (xs : List Entry). HasFacts f me (record s { early = xs; late = late })) (sym early-is)
          (subst (λ (xs : List Entry). HasFacts f me (record s { early = insert_by_key s.early e; late = xs })) (sym late-is) done);
      store = λ normal lead. k.store normal lead;
    }

pub kept_late : (f me : ℕ) (s : ReplicaData) (store : Entries) (e : Entry) (late : List Entry) → IsKeptReplica f me s store → FitsEntry e
    → IsFalse (has_id (keys_of s.log.entries) (id_of e.key)) → IsFalse (has_id (keys_of s.early) (id_of e.key))
    → late ≡ cond (has_id (keys_of s.late) (id_of e.key)) s.late (s.late ++ e ∷ []) → IsKeptReplica f me (record s { late = late }) store
kept_late f me s store e late k fits logged held is =
    elim (cases_Bool (has_id (keys_of s.late) (id_of e.key))) [
      | inl there ↦
          let same : late ≡ s.late = is ∙ (rw there refl) in
          subst (λ (xs : List Entry). IsKeptReplica f me (record s { late = xs }) store) (sym same) k
      | inr none ↦
          let more : late ≡ s.late ++ e ∷ [] = is ∙ (rw none refl) in
          record {
            member = k.member;
            facts =
                subst (λ (xs : List Entry). HasFacts f me (record s { late = xs })) (sym more)
                (waiting_keeps f me s s.early (s.late ++ e ∷ []) k.facts
                (arranged_late s.log.entries s.early s.late e (arranged f me s k.facts) fits logged held none));
            store = λ normal lead. k.store normal lead;
          }
    ]

-- the first early entry may be last in the log
pub record MayStand (log : List Entry) (e : Entry) : Type 0 where
  pub above : is_above_last (keys_of log) e.key ≡ true
  pub fresh : has_id (keys_of log) (id_of e.key) ≡ false

pub first_may_stand : (f me : ℕ) (s : ReplicaData) (store : Entries) (e : Entry) (es : List Entry)
    → IsKeptReplica f me s store → s.early ≡ e ∷ es → MayStand s.log.entries e
first_may_stand f me s store e es k is =
    let a = subst (λ (xs : List Entry). AreArranged s.log.entries xs s.late) is (arranged f me s k.facts) in
    record { above = first_above s.log.entries e es s.late a; fresh = first_fresh s.log.entries e es s.late a }

pub kept_release : (f me : ℕ) (s : ReplicaData) (store : Entries) (e : Entry) (es : List Entry) (log : Log)
    (results : List Answer) (next : Entries) → IsKeptReplica f me s store → is_normal s.status ≡ true
    → s.early ≡ e ∷ es → length s.log.entries < MAX_ENTRIES → log ≡ log_with_entry (leads f me s) s.log e
    → results ≡ results_with_entry (leads f me s) s.results s.log.entries e
    → (IsTrue (is_normal s.status) → IsTrue (leads f me s) → next ≡ store_after (commands log.entries))
    → IsKeptReplica f me (record s { log = log; results = results; early = es }) next
kept_release f me s store e es log results next k normal is room log-is results-is next-is =
    record {
      member = k.member;
      facts = subst (λ (l : Log). HasFacts f me (record s { log = l; results = results; early = es })) (sym log-is)
          (subst (λ (xs : List Answer). HasFacts f me
          (record s { log = log_with_entry (leads f me s) s.log e; results = xs; early = es })) (sym results-is)
          (released_keeps f me s e es k.facts normal is room));
      store = next-is;
    }

pub room_left : (f me : ℕ) (s : ReplicaData) (store : Entries) (e : Entry) (es : List Entry)
    → IsKeptReplica f me s store → s.early ≡ e ∷ es → first_may s s.early ≡ true → length s.log.entries < MAX_ENTRIES
room_left f me s store e es k is first =
    let may : may_release s e ≡ true = sym (ap (first_may s) is) ∙ first in
    ltb-true _ _ (and_parts (is_due s.clock e) (log_has_room s) may).1

-- what ran out of memory has forgotten all
pub kept_crashed : (f me : ℕ) (m : ReplicaModel) (store : Entries) → me < replica_count f
    → m ≡ record { f = f; me = me; state = crashed_replica f } → IsKeptReplica m.f m.me m.state store
kept_crashed f me m store member is =
    subst (λ (n : ReplicaModel). IsKeptReplica n.f n.me n.state store) (sym is)
    (record { member = member; facts = crashed_has_facts f me; store = λ normal lead. absurd cc })
