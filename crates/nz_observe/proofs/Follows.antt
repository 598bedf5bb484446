-- What was executed is the beginning of what is committed, unless it is more.
use Rattle.std.proofs.Common.{◌≡◌, ℕ, ◌≤◌, ◌<◌, Bool, true, false, cond, List, [], ◌++◌, length, take, Some, None, refl, sym, ap, subst, ◌∙◌}
use Rattle.std.proofs.Common.{◌⊎◌, arith, inl, inr, length-take}
use Rattle.std.proofs.lemmas.Bool.{cases_lt, lt-ltb, le-ltb}
use Rattle.std.specs.Prelude.{nat_lt}
use Rattle.std.proofs.Math.Seq.{take-length}
use Rattle.nz_base.specs.Cluster.{replica_count}
use Rattle.nz_base.specs.Prefixes.{IsPrefix, Comparable}
use Rattle.nz_base.specs.declared.key.Entry.{Entry}
use Rattle.nz_base.proofs.Moments.{at_self, at_then}
use Rattle.nz_base.proofs.Prefixes.{prefix_none, prefix_take, take_of_prefix, shorter_comparable}
use Rattle.nz_store.specs.Sequence.{store_after}
use Rattle.nz_machine.specs.declared.event.Record.{Record}
use Rattle.nz_machine.specs.declared.journal.Journal.{Journal}
use Rattle.nz_machine.specs.runs.Incarnations.{replica_at}
use Rattle.nz_machine.specs.journals.Journals.{group_in, run_in}
use Rattle.nz_machine.specs.rules.Replicas.{commands, first_replica, is_up}
use Rattle.nz_machine.specs.rules.State.{ReplicaData, Group}
use Rattle.nz_replica.specs.Models.{ReplicaCore, IsCore}
use Rattle.nz_replay.specs.Runs.{run_up_to}
use Rattle.nz_replay.proofs.Replays.{core_first}
use Rattle.nz_laws_commit.specs.Stable.{committed_of, Stable}
use Rattle.nz_observe.specs.declared.known.Known.{Known}
use Rattle.nz_observe.specs.Following.{IsEndOf, executed, HasExecuted, WasCommitted, IsKnown}
use Rattle.nz_observe.specs.Observing.{CanExecute}
use Rattle.nz_observe.specs.Ticks.{run_to, committed}
use Rattle.nz_observe.proofs.Rising.{at_append}

-- ---- from record to record

-- before the first record
pub first_core : (g : Group) (m : ℕ) (core : ReplicaCore)
    → core ≡ record { f = g.f; model = record { f = g.f; me = m; state = first_replica g.f }; live = true } → IsCore g [] m core
first_core g m core new = subst (IsCore g [] m) (sym new) (core_first g m)

-- ---- from moment to moment

-- what is known to be executed once more records are there
pub known_then : (g : Group) (m : ℕ) (H J : List Record) (k : Known) → IsKnown g m J k → IsKnown g m (H ++ J) k
known_then g m H J k h = record {
  entries = h.entries;
  is = h.is;
  known = elim h.known [
    | inl none ↦ inl none
    | inr was ↦ inr (record { moment = was.moment; at = at_then (H ++ J) J was.moment (at_append H J) was.at; committed = was.committed })
  ];
}

-- ---- at the end of a tick

committed_up : (s : ReplicaData) → is_up s.status ≡ true → committed_of s ≡ Some (take s.commit s.log.entries)
committed_up s up = ap (λ (b : Bool). cond b (Some (take s.commit s.log.entries)) None) up

-- what the replica knew and what it knows now: the shorter is the beginning of the longer
pair : (g : Group) (K : List Record) (m : ℕ) (P Q : List Entry) → Stable g K → P ≡ [] ⊎ WasCommitted g m K P
    → committed_of (replica_at g m K) ≡ Some Q → Comparable P Q
pair g K m P Q law (inl none) now = inl (subst (λ (X : List Entry). IsPrefix X Q) (sym none) (prefix_none Q))
pair g K m P Q law (inr was) now = law.paired m m was.moment K P Q was.at (at_self K) was.committed now

pub can_execute : (g : Group) (K : List Record) (m : ℕ) (core : ReplicaCore) (k : Known) → Stable g K → IsCore g K m core → IsKnown g m K k
    → CanExecute core.model.state k
can_execute g K m core k law is h up le =
    let s = core.model.state in
    let P = h.entries in
    let Q = take s.commit s.log.entries in
    let count : k.count ≡ length P = ap (λ (x : Known). x.count) h.is in
    let p : IsPrefix P Q =
    shorter_comparable P Q (pair g K m P Q law h.known (ap committed_of (sym is.state) ∙ committed_up s up))
    (subst (λ (n : ℕ). n ≤ length Q) count le) in
    let first : P ≡ take (length P) Q = sym (take-length P) ∙ take_of_prefix (length P) P Q p (omega arith) in
    ap (λ (x : Known). x.store) h.is ∙ ap (λ (es : List Entry). store_after (commands es)) first
    ∙ ap (λ (n : ℕ). store_after (commands (take n Q))) (sym count)

-- ---- the store

-- what is ahead is forgotten
pub forgot_more : (entries : List Entry) (commit : ℕ) (old k : Known) → commit ≤ length entries
    → k ≡ cond (nat_lt commit old.count) (executed []) old → HasExecuted (take commit entries) old
    → (k.count ≤ commit) × (k.store ≡ store_after (commands (take k.count entries)))
forgot_more entries commit old k le left h = elim (cases_lt commit old.count) [
  | inl lt ↦
      subst (λ (x : Known). (x.count ≤ commit) × (x.store ≡ store_after (commands (take x.count entries))))
      (sym (left ∙ ap (λ (b : Bool). cond b (executed []) old) (lt-ltb commit old.count lt))) (omega arith, refl)
  | inr few ↦
      let long = length-take commit entries in
      let within : old.count ≤ length (take commit entries) = omega (arith, few, long, le) in
      subst (λ (x : Known). (x.count ≤ commit) × (x.store ≡ store_after (commands (take x.count entries))))
      (sym (left ∙ ap (λ (b : Bool). cond b (executed []) old) (le-ltb commit old.count few)))
      (few, h within ∙ ap (λ (es : List Entry). store_after (commands es)) (take_of_prefix old.count (take commit entries) entries (prefix_take commit entries) within))
]

-- once all that the replica knows is executed
pub all_known : (g : Group) (K : List Record) (m : ℕ) (core : ReplicaCore) (k : Known) → IsCore g K m core → IsKnown g m K k
    → IsKnown g m K (cond (is_up core.model.state.status) (executed (take core.model.state.commit core.model.state.log.entries)) k)
all_known g K m core k is h = by_up (is_up core.model.state.status) refl
  where
    by_up : (b : Bool) → is_up core.model.state.status ≡ b → IsKnown g m K (cond b (executed (take core.model.state.commit core.model.state.log.entries)) k)
    by_up true up = record {
      entries = take core.model.state.commit core.model.state.log.entries;
      is = refl;
      known = inr (record {
        moment = K;
        at = at_self K;
        committed = ap committed_of (sym is.state) ∙ committed_up core.model.state up;
      });
    }
    by_up false down = h

-- what is committed at the end of the tick
pub committed_at : (g : Group) (m tick : ℕ) (J K : List Record) (core : ReplicaCore) → m < replica_count g.f → run_to tick J ≡ K
    → IsCore g K m core → committed g m tick J ≡ committed_of core.model.state
committed_at g m tick J K core member run is =
    ap (λ (b : Bool). cond b (committed_of (replica_at g m (run_to tick J))) None) (lt-ltb m (replica_count g.f) member)
    ∙ ap (λ (L : List Record). committed_of (replica_at g m L)) run ∙ ap committed_of (sym is.state)

pub committed_then : (j : Journal) (m tick count : ℕ) (core : ReplicaCore) → m < replica_count (group_in j).f → IsEndOf j tick count
    → IsCore (group_in j) (run_up_to j count) m core → committed (group_in j) m tick (run_in j) ≡ committed_of core.model.state
committed_then j m tick count core member end is = committed_at (group_in j) m tick (run_in j) (run_up_to j count) core member (sym end.run) is
