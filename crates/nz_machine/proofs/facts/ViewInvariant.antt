-- What the code keeps of a replica, at the calls for views and rejoining.
use Rattle.std.proofs.Common.{◌≡◌, ℕ, ◌+◌, ◌<◌, ◌≤◌, ◌^◌, true, false, List, [], length, map, min, replicate, IsTrue, IsFalse, refl, sym, ap, subst, ◌∙◌, arith}
use Rattle.std.specs.Prelude.{◌==◌, nat_lt, if◌then◌else◌}
use Rattle.nz_base.specs.Cluster.{replica_count, leader_of}
use Rattle.nz_base.specs.declared.key.Entry.{Entry}
use Rattle.nz_base.proofs.Booleans.{true_and_false}
use Rattle.nz_base.specs.declared.limits.TheConstants.{MAX_ENTRIES, MAX_VIEW, VIEW_TIMEOUT_TICKS, REJOIN_ASK_TICKS}
use Rattle.nz_store.specs.Entries.{Entries}
use Rattle.nz_store.specs.Sequence.{store_after, replies}
use Rattle.nz_store.specs.declared.command.Answer.{Answer}
use Rattle.nz_log.specs.Synced.{Log}
use Rattle.nz_msg.specs.declared.message.ViewChangeBody.{ViewChangeBody}
use Rattle.nz_merge.specs.Merged.{greatest, merged}
use Rattle.nz_machine.specs.declared.data.Status.{Status}
use Rattle.nz_machine.specs.declared.data.Status.TheVariants.{Normal, ViewChange, Rejoining}
use Rattle.nz_machine.specs.declared.data.CollectedReport.{CollectedReport}
use Rattle.nz_machine.specs.rules.State.{ReplicaData}
use Rattle.nz_machine.specs.rules.Facts.{IsCarried, FitsReport, HasFacts, IsKeptReplica}
use Rattle.nz_machine.specs.rules.Replicas.{commands, is_normal, is_changing, is_rejoining}
use Rattle.nz_machine.specs.rules.Taking.{with_parts}
use Rattle.nz_machine.specs.rules.Adopting.{with_log, normal_in}
use Rattle.nz_machine.specs.rules.Begins.{report_of, with_report, without_strays, with_own_report, after_begin, begin}
use Rattle.nz_machine.specs.rules.Rejoining.{restarted_replica}
use Rattle.nz_machine.proofs.facts.RulesKeepFacts.{restarted_has_facts}
use Rattle.nz_machine.proofs.facts.Guards.{changing_no_rejoin}
use Rattle.nz_machine.proofs.facts.WordsKeepFacts.{clocks_keep, counted_low, enter_keeps, start_keeps, begin_keeps, collect_keeps, strays_keep}

-- a state with the same mode, view and log
pub kept_facts : (f me : ℕ) (s t : ReplicaData) (store : Entries) → IsKeptReplica f me s store → HasFacts f me t
    → t.status ≡ s.status → t.view ≡ s.view → t.log ≡ s.log → IsKeptReplica f me t store
kept_facts f me s t store k facts status view log = record {
  member = k.member;
  facts = facts;
  store = λ n l. k.store (subst (λ (m : Status). IsTrue (is_normal m)) status n) (subst (λ (v : ℕ). IsTrue (leader_of f v == me)) view l)
      ∙ sym (ap (λ (x : Log). store_after (commands x.entries)) log);
}

-- ---- counts

pub kept_quiet : (f me : ℕ) (s : ReplicaData) (store : Entries) (n : ℕ) → IsKeptReplica f me s store → n ≤ VIEW_TIMEOUT_TICKS
    → IsKeptReplica f me (record s { quiet = n }) store
kept_quiet f me s store n k low =
    let c = k.facts.clocks in
    kept_facts f me s (record s { quiet = n }) store k (clocks_keep f me s s.clock n s.since k.facts (grind (arith, c, low))) refl refl refl

pub kept_since : (f me : ℕ) (s : ReplicaData) (store : Entries) (n : ℕ) → IsKeptReplica f me s store → n < VIEW_TIMEOUT_TICKS
    → (IsTrue (is_rejoining s.status) → n < REJOIN_ASK_TICKS)
    → IsKeptReplica f me (record s { since = n }) store
kept_since f me s store n k low rejoins =
    let c = k.facts.clocks in
    kept_facts f me s (record s { since = n }) store k (clocks_keep f me s s.clock s.quiet n k.facts (grind (arith, c, low, rejoins))) refl refl refl

pub kept_changing : (f me : ℕ) (s : ReplicaData) (store : Entries) (n : ℕ) → IsKeptReplica f me s store
    → is_changing s.status ≡ true → n ≡ (if s.since + 1 == VIEW_TIMEOUT_TICKS then 0 else s.since + 1)
    → IsKeptReplica f me (record s { since = n }) store
kept_changing f me s store n k changing is =
    kept_since f me s store n k (subst (λ (m : ℕ). m < VIEW_TIMEOUT_TICKS) (sym is)
    (counted_low VIEW_TIMEOUT_TICKS s.since k.facts.clocks.since))
    (λ rejoins. true_and_false (is_rejoining s.status) rejoins (changing_no_rejoin s.status changing))

-- a rejoin's period is shorter
period_low : (n : ℕ) → n < REJOIN_ASK_TICKS → n < VIEW_TIMEOUT_TICKS
period_low n low = omega (arith, low)

pub kept_rejoining : (f me : ℕ) (s : ReplicaData) (store : Entries) (n : ℕ) → IsKeptReplica f me s store
    → is_rejoining s.status ≡ true → n ≡ (if s.since + 1 == REJOIN_ASK_TICKS then 0 else s.since + 1)
    → IsKeptReplica f me (record s { since = n }) store
kept_rejoining f me s store n k rejoins is =
    let counted = counted_low REJOIN_ASK_TICKS s.since (k.facts.clocks.rejoining rejoins) in
    let low : n < REJOIN_ASK_TICKS = subst (λ (m : ℕ). m < REJOIN_ASK_TICKS) (sym is) counted in
    kept_since f me s store n k (period_low n low) (λ _. low)

-- ---- views

pub kept_enter : (f me : ℕ) (s : ReplicaData) (store : Entries) (view : ℕ) (collected : List CollectedReport)
    → IsKeptReplica f me s store → s.view ≤ view → view ≤ MAX_VIEW → collected ≡ []
    → IsKeptReplica f me (record s { status = ViewChange; view = view; reports = collected; since = 0; quiet = 0 }) store
kept_enter f me s store view collected k later low none = record {
  member = k.member;
  facts =
      subst (λ (cs : List CollectedReport). HasFacts f me
      (record s { status = ViewChange; view = view; reports = cs; since = 0; quiet = 0 })) (sym none) (enter_keeps f me s view k.facts later low);
  store = λ n l. absurd cc;
}

-- the state in normal operation, with the parts that were made of the list
pub started : (s : ReplicaData) (log : Log) (early late list : List Entry) (view commit : ℕ)
    → with_log (with_parts s s.log s.early s.late) list ≡ with_parts s log early late
    → normal_in s view list commit ≡ record s { status = Normal; view = view; last = view; log = log; commit = commit; early = early; late = late; quiet = 0 }
started s log early late list view commit is = ap (λ (t : ReplicaData). record t { status = Normal; view = view; last = view; commit = commit; quiet = 0 }) is

pub kept_start : (f me : ℕ) (s : ReplicaData) (store : Entries) (log : Log) (early late list : List Entry) (view commit : ℕ)
    → IsKeptReplica f me s store → view ≤ MAX_VIEW → IsFalse (leader_of f view == me)
    → IsCarried list → commit ≤ length list → with_log (with_parts s s.log s.early s.late) list ≡ with_parts s log early late
    → IsKeptReplica f me (record s { status = Normal; view = view; last = view; log = log; commit = commit; early = early; late = late; quiet = 0 }) store
kept_start f me s store log early late list view commit k low away c committed is = record {
  member = k.member;
  facts = subst (HasFacts f me) (started s log early late list view commit is) (start_keeps f me s view list commit k.facts low away c committed);
  store = λ n l. true_and_false (leader_of f view == me) l away;
}

-- ---- the begin of a view

pub begin_none : (f me : ℕ) (s : ReplicaData) → nat_lt MAX_ENTRIES (length (merged f (with_own_report me s))) ≡ true → (begin f me s).0 ≡ s
unfolding begin
begin_none f me s full = rw full refl

pub begun_state : (f me : ℕ) (s : ReplicaData) → nat_lt MAX_ENTRIES (length (merged f (with_own_report me s))) ≡ false
    → (begin f me s).0 ≡ after_begin f s (merged f (with_own_report me s)) (greatest (map (λ c. c.commit) (with_own_report me s)))
unfolding begin
begun_state f me s room = rw room refl

-- the state when the view has begun, with the parts that were made of the list
pub begun : (f : ℕ) (s : ReplicaData) (log : Log) (early late list : List Entry) (known commit : ℕ) (results : List Answer) (ack : List ℕ)
    → with_log (with_parts s s.log s.early s.late) list ≡ with_parts s log early late
    → commit ≡ min (length list) known → results ≡ replies (commands list) → ack ≡ replicate (replica_count f) 0
    → after_begin f s list known ≡ record s {
      status = Normal;
      last = s.view;
      log = log;
      commit = commit;
      results = results;
      early = early;
      late = late;
      ack = ack;
      quiet = 0;
    }
begun f s log early late list known commit results ack is commit-is results-is ack-is =
    λ i. record (is i) { status = Normal; view = s.view; last = s.view; commit = sym commit-is i; quiet = 0; ack = sym ack-is i; results = sym results-is i }

pub kept_begin : (f me : ℕ) (s : ReplicaData) (store new : Entries) (log : Log) (early late list : List Entry)
    (known commit : ℕ) (results : List Answer) (ack : List ℕ) → IsKeptReplica f me s store → IsCarried list
    → with_log (with_parts s s.log s.early s.late) list ≡ with_parts s log early late
    → commit ≡ min (length list) known → results ≡ replies (commands list) → ack ≡ replicate (replica_count f) 0
    → new ≡ store_after (commands list)
    → IsKeptReplica f me (record s {
      status = Normal;
      last = s.view;
      log = log;
      commit = commit;
      results = results;
      early = early;
      late = late;
      ack = ack;
      quiet = 0;
    }) new
kept_begin f me s store new log early late list known commit results ack k c is commit-is results-is ack-is new-is = record {
  member = k.member;
  facts =
      subst (HasFacts f me) (begun f s log early late list known commit results ack is commit-is results-is ack-is)
      (begin_keeps f me s list known k.facts c);
  store = λ n l. new-is ∙ ap (λ (t : ReplicaData). store_after (commands t.log.entries)) is;
}

-- ---- restarts

pub kept_restarted : (f me nonce : ℕ) (s : ReplicaData) (store : Entries) → me < replica_count f → nonce < 2 ^ 64
    → s ≡ restarted_replica f nonce → IsKeptReplica f me s store
kept_restarted f me nonce s store member small is = record {
  member = member;
  facts = subst (HasFacts f me) (sym is) (restarted_has_facts f me nonce small);
  store =
      λ n l. subst (λ (t : ReplicaData). IsTrue (is_normal t.status) → store ≡ store_after (commands s.log.entries))
      (sym is) (λ (h : IsTrue (is_normal Rejoining)). absurd cc) n;
}

-- ---- reports

pub kept_strays : (f me : ℕ) (s : ReplicaData) (store : Entries) (collected : List CollectedReport)
    → IsKeptReplica f me s store → collected ≡ (without_strays s).reports → IsKeptReplica f me (record s { reports = collected }) store
kept_strays f me s store collected k is =
    kept_facts f me s (record s { reports = collected }) store k
    (subst (λ (cs : List CollectedReport). HasFacts f me (record s { reports = cs })) (sym is) (strays_keep f me s k.facts)) refl refl refl

pub kept_collect : (f me : ℕ) (s : ReplicaData) (store : Entries) (sender : ℕ) (b : ViewChangeBody) (collected : List CollectedReport)
    → IsKeptReplica f me s store → FitsReport f me (report_of sender b)
    → collected ≡ (with_report s sender b).reports → IsKeptReplica f me (record s { reports = collected }) store
kept_collect f me s store sender b collected k fit is =
    kept_facts f me s (record s { reports = collected }) store k
    (subst (λ (cs : List CollectedReport). HasFacts f me (record s { reports = cs })) (sym is) (collect_keeps f me s sender b k.facts fit)) refl refl refl
