-- What a replica that is up has committed has support in its last view, and no record takes any of it back.
use Rattle.std.proofs.Common.{◌≡◌, ℕ, ◌<◌, ◌≤◌, true, false, eqb, nat_le, ◌||◌, List, [], ◌∷◌, length, take, map, max, Some, None, refl, sym, ap, subst, ◌∙◌}
use Rattle.std.proofs.Common.{arith, inl, inr, ◌⊎◌, eqb-true, length-take}
use Rattle.std.specs.Prelude.{slice_index, min}
use Rattle.std.specs.List.{Contains}
use Rattle.std.proofs.lemmas.Bool.{cases_Bool, cases_lt, leb-true, or_cases}
use Rattle.std.proofs.lemmas.List.{length-map, length-take-le, take-take}
use Rattle.std.proofs.lemmas.List.Elements.{All-contains, All-from_recursion}
use Rattle.nz_base.specs.Actor.{actor_eq}
use Rattle.nz_base.specs.Cluster.{leader_of}
use Rattle.nz_base.specs.Log.{keys_of}
use Rattle.nz_base.specs.Moments.{At}
use Rattle.nz_base.specs.Prefixes.{IsPrefix}
use Rattle.nz_base.specs.declared.actor.Actor.TheVariants.{Replica}
use Rattle.nz_base.specs.declared.key.Key.{Key}
use Rattle.nz_base.specs.declared.key.Entry.{Entry}
use Rattle.nz_base.proofs.Booleans.{true_and_false}
use Rattle.nz_base.proofs.Moments.{at_self, at_then, at_tail}
use Rattle.nz_base.proofs.Names.{same_actor}
use Rattle.nz_base.proofs.Prefixes.{prefix_same, prefix_then, prefix_take, prefix_map, prefix_length, shorter_prefix, take_of_prefix}
use Rattle.nz_log.specs.Synced.{Log}
use Rattle.nz_merge.specs.declared.report.Report.{Report}
use Rattle.nz_merge.proofs.Bases.{is_greatest, within_greatest}
use Rattle.nz_merge.proofs.Senders.{contains_first}
use Rattle.nz_msg.specs.declared.message.LogModBody.{LogModBody}
use Rattle.nz_machine.specs.declared.data.CollectedReport.{CollectedReport}
use Rattle.nz_machine.specs.declared.event.Record.{Record}
use Rattle.nz_machine.specs.rules.Facts.{HasFacts}
use Rattle.nz_machine.specs.rules.State.{ReplicaData, Group}
use Rattle.nz_machine.specs.rules.Replicas.{is_normal, is_changing, is_up}
use Rattle.nz_machine.specs.rules.Begins.{own_report}
use Rattle.nz_machine.specs.rules.LogMods.{commit_point, with_ack, with_commit}
use Rattle.nz_machine.specs.rules.Vectors.{with_vector}
use Rattle.nz_machine.specs.runs.World.{Has, World}
use Rattle.nz_machine.specs.runs.Incarnations.{replica_at}
use Rattle.nz_machine.specs.runs.Leading.{is_normal_in, leader_at, is_led}
use Rattle.nz_machine.proofs.facts.Guards.{normal_up, HearsLeader}
use Rattle.nz_machine.proofs.runs.Moments.{at_world}
use Rattle.nz_machine.proofs.runs.Runs.{stays}
use Rattle.nz_laws_cv.proofs.Outcomes.{law_state, Taken, Modifies, Grown, Same, More, Base, Outcome, Stays, Release, Merge, Sync, Tally}
use Rattle.nz_laws_cv.proofs.Outcomes.{Enter, Follow, Answer, Collect, Begin, Start, Fall, Wake, HearVector, Count, HearView, Forget, AskLog, Return, Back}
use Rattle.nz_laws_cv.proofs.OutcomeRules.{changing_up, heard_by}
use Rattle.nz_laws_cv.proofs.Hearing.{hears_fit}
use Rattle.nz_laws_cv.proofs.Modes.{IsSound, up_no_rejoin, normal_no_change, collects_low, starts_low}
use Rattle.nz_laws_cv.proofs.Steps.{law_state_at, Acts, Rests, steps}
use Rattle.nz_laws_cv.proofs.WithinIncarnation.{sound_at, first_state, in_group}
use Rattle.nz_laws_cv.proofs.Showing.{shows, same_replica}
use Rattle.nz_laws_cv.proofs.Beginnings.{normal_in_is, is_in_view}
use Rattle.nz_laws_cv.specs.Members.{begun_reports}
use Rattle.nz_laws_cv.proofs.BegunLogs.{begun_log_is, report_is_read}
use Rattle.nz_laws_commit.specs.Supports.{IsNormal, IsLedAt, HadSynced}
use Rattle.nz_laws_commit.specs.Machines.{start_of}
use Rattle.nz_laws_commit.specs.Does.{FollowsRules}
use Rattle.nz_laws_commit.specs.Instance.{states_of, logs_of}
use Rattle.nz_laws_commit.proofs.RunLaws.{RunLaws}
use Rattle.nz_laws_commit.proofs.OneView.{run_laws}
use Rattle.nz_laws_commit.proofs.Deciding.{slowly}
use Rattle.nz_laws_commit.proofs.FactsStay.{facts_stay}
use Rattle.nz_laws_commit.proofs.Instance.{up_status, is_normal_at, normal_at_is, led_by, start_now}
use Rattle.nz_laws_commit.proofs.OutcomeDoes.{ModSource, LogSource, mod_source, start_source, state_source, knows_log}
use Rattle.nz_laws_commit.proofs.Begun.{all_reports}
use Rattle.nz_laws_commit.proofs.Whole.{follows}
use Rattle.nz_laws_commit.proofs.CommitPoints.{commit_counts}
use Rattle.nz_laws_commit.proofs.Acks.{had_fewer, max_cases, AreCounts, counts_at}
use Rattle.nz_laws_commit.proofs.Backing.{HasSupport, support_higher, support_shorter, support_starts, none_has_support}

-- ---- the first items of lists

take_within : {X : Type 0} (m n : ℕ) (xs : List X) → m ≤ n → IsPrefix (take m xs) (take n xs)
take_within {X} m n xs le = subst (λ (l : List X). IsPrefix l (take n xs)) (take-take m n xs le) (prefix_take m (take n xs))

take_long : {X : Type 0} (n : ℕ) (xs : List X) → n ≤ length xs → length (take n xs) ≡ n
take_long n xs le = length-take-le n xs le

-- ---- the committed keys of a replica

abbrev pub committed_keys : ReplicaData → List Key
committed_keys s = take s.commit (keys_of s.log.entries)

-- what is committed after a record has support, and begins with what was committed before it
pub record KeepsCommitted (g : Group) (J : List Record) (s t : ReplicaData) : Type 0 where
  pub supported : is_up t.status ≡ true → HasSupport g t.last (committed_keys t) J
  pub extends : is_up s.status ≡ true → is_up t.status ≡ true → IsPrefix (committed_keys s) (committed_keys t)

module _ (g : Group) (J : List Record) (w : World g J) where
  abbrev laws : RunLaws (logs_of g) J
  laws = run_laws (states_of g) J (follows g J w)

  -- what each replica had committed at each moment so far has support
  abbrev AreSupportedIn : List Record → Type 0
  AreSupportedIn K = (z : ℕ) (L : List Record) → At K L → is_up (replica_at g z L).status ≡ true
      → HasSupport g (replica_at g z L).last (committed_keys (law_state_at g z L)) J

  facts_at : (y : ℕ) (K : List Record) → At J K → HasFacts g.f y (replica_at g y K)
  facts_at y K at = facts_stay g K y (at_world g J K w at)

  -- no more is committed than the log has
  commit_within : (y : ℕ) (K : List Record) → At J K → (replica_at g y K).commit ≤ length (keys_of (replica_at g y K).log.entries)
  commit_within y K at =
      let facts = facts_at y K at in
      let low = facts.commit in
      let few = facts.entries.within in
      let keys = length-map (replica_at g y K).log.entries (λ (e : Entry). e.key) in
      omega (arith, low, few, keys)

  committed_long : (y : ℕ) (K : List Record) → At J K → length (committed_keys (law_state_at g y K)) ≡ (replica_at g y K).commit
  committed_long y K at = take_long (replica_at g y K).commit (keys_of (replica_at g y K).log.entries) (commit_within y K at)

  -- ---- a leader's log, as it was sent

  module _ (L v : ℕ) (sent_at : List Record) (at : At J sent_at) (leads : L ≡ leader_of g.f v) (normal : is_normal (replica_at g L sent_at).status ≡ true)
      (view : (replica_at g L sent_at).view ≡ v)
    where
      leader_normal : IsNormal (logs_of g) (leader_of g.f v) v sent_at
      leader_normal = subst (λ (z : ℕ). IsNormal (logs_of g) z v sent_at) leads (is_normal_at g L v sent_at normal view)

      sent_is : keys_of (replica_at g L sent_at).log.entries ≡ (logs_of g).lead v sent_at
      sent_is = subst (λ (z : ℕ). keys_of (replica_at g z sent_at).log.entries ≡ (logs_of g).lead v sent_at) (sym leads)
          (laws.lead_is v sent_at at leader_normal)

      sent_led : IsPrefix (keys_of (replica_at g L sent_at).log.entries) ((logs_of g).lead v J)
      sent_led = subst (λ (ks : List Key). IsPrefix ks ((logs_of g).lead v J)) (sym sent_is) (laws.lead_grows v sent_at J (at_self J) at)

      -- the view's start is in it
      sent_started : 0 < v → (S : List Key) × ((logs_of g).start v J ≡ Some S) × IsPrefix S (keys_of (replica_at g L sent_at).log.entries)
      sent_started some =
          let up = up_status (replica_at g (leader_of g.f v) sent_at).status
          (subst (λ (z : ℕ). is_up (replica_at g z sent_at).status ≡ true) leads (normal_up (replica_at g L sent_at).status normal)) in
          let last = laws.modes (leader_of g.f v) sent_at at leader_normal.status ∙ leader_normal.view in
          let began = laws.begun (leader_of g.f v) v sent_at at some (record { up = up; last = last }) in
          let still = laws.start_stays v began.0 sent_at J (at_self J) at began.1 in
          (began.0, still, subst (IsPrefix began.0) (sym sent_is) (laws.starts v began.0 sent_at at began.1))

  -- ---- the begin of a view

  module _ (v : ℕ) (r : Record) (K : List Record) (at : At J (r ∷ K)) (earlier : AreSupportedIn K) (led : is_led g v (r ∷ K) ≡ true)
      (not_led : is_led g v K ≡ false)
    where
      abbrev l : ℕ
      l = leader_of g.f v

      abbrev B : List Record
      B = r ∷ K

      abbrev start_keys : List Key
      start_keys = keys_of (leader_at g v B).log.entries

      here : World g B
      here = at_world g J B w at

      started : (logs_of g).start v J ≡ Some start_keys
      started =
          let rules : FollowsRules (states_of g) J = follows g J w in
          let now = normal_in_is v (leader_at g v B) led in
          let none : start_of (states_of g) v K ≡ None =
          elim (rules.begins_once v r K at (led_by g v r K led not_led) (is_normal_at g l v B now.0 now.1)) [
            | inl none ↦ none
            | inr was ↦ true_and_false (is_led g v K) (normal_at_is g l v K was) not_led
          ] in
          laws.start_stays v start_keys B J (at_self J) at (start_now g v r K none led not_led)

      -- what is merged of a member is its state before the record
      record IsReportRead (c : Report) : Type 0 where
        moment : List Record
        before : At K moment
        up : is_up (replica_at g c.sender moment).status ≡ true
        last : (replica_at g c.sender moment).last < v
        commit : (replica_at g c.sender moment).commit ≡ c.commit
        entries : (replica_at g c.sender moment).log.entries ≡ c.log

      own_read : IsReportRead (own_report l (leader_at g v K))
      own_read =
          let log = begun_log_is g v r K here.1 led not_led in
          record { moment = K; before = at_self K; up = log.up; last = log.last; commit = refl; entries = refl }

      -- who changes views after the record did so before it: the leader, whose record it is, is in normal operation
      changed_before : (z : ℕ) (Q : List Record) → At B Q → is_changing (replica_at g z Q).status ≡ true
          → (L : List Record) × At K L × (replica_at g z Q ≡ replica_at g z L)
      changed_before z Q (inr older) changing = (Q, older, refl)
      changed_before z Q (inl newest) changing = (
        K,
        at_self K,
        ap (replica_at g z) newest ∙ elim (cases_Bool (actor_eq r.actor (Replica z))) [
          | inr other ↦ stays g (Replica z) r K other
          | inl acts ↦
              let lead = same_actor r.actor (Replica l) (led_by g v r K led not_led) in
              let same : z ≡ l = same_replica z l (sym (same_actor r.actor (Replica z) acts) ∙ lead) in
              let now = subst (λ (y : ℕ). is_normal (replica_at g y B).status ≡ true) (sym same) (normal_in_is v (leader_at g v B) led).0 in
              normal_no_change (replica_at g z B).status now (subst (λ (L : List Record). is_changing (replica_at g z L).status ≡ true) newest changing)
        ],
      )

      other_read : (x : CollectedReport) → Has (leader_at g v B).reports x → IsReportRead x.report
      other_read x has =
          let z = x.report.sender in
          let read = report_is_read g v r K here (shows g B here) led not_led x has in
          let e = changed_before z read.moment read.at read.changing in
          let same : replica_at g z e.0 ≡ replica_at g z read.moment = sym e.2 in
          let changing = ap (λ (t : ReplicaData). is_changing t.status) same ∙ read.changing in
          let low = (sound_at g e.0 (at_world g J e.0 w (at_then J K e.0 (at_tail J r K at) e.1)) z).changing changing in
          let view = ap (λ (t : ReplicaData). t.view) same ∙ read.view in
          record {
            moment = e.0;
            before = e.1;
            up = changing_up (replica_at g z e.0).status changing;
            last = omega (arith, low, view);
            commit = ap (λ (t : ReplicaData). t.commit) same ∙ read.commit;
            entries = ap (λ (t : ReplicaData). t.log.entries) same ∙ read.entries;
          }

      abbrev reports : List Report
      reports = begun_reports g v r K

      report_read : (c : Report) → Contains reports c → IsReportRead c
      report_read c among =
          All-contains IsReportRead reports c
          (All-from_recursion IsReportRead reports (own_read, all_reports IsReportRead (leader_at g v B).reports other_read)) among

      -- what a member reports to be committed
      abbrev reported : Report → List Key
      reported c = take c.commit (keys_of c.log)

      reported_is : (c : Report) (i : IsReportRead c) → committed_keys (law_state_at g c.sender i.moment) ≡ reported c
      reported_is c i = λ k. take (i.commit k) (keys_of (i.entries k))

      reported_support : (c : Report) (i : IsReportRead c) → HasSupport g (replica_at g c.sender i.moment).last (reported c) J
      reported_support c i =
          subst (λ (ks : List Key). HasSupport g (replica_at g c.sender i.moment).last ks J) (reported_is c i) (earlier c.sender i.moment i.before i.up)

      reported_long : (c : Report) (i : IsReportRead c) → length (reported c) ≡ c.commit
      reported_long c i =
          sym (ap length (reported_is c i)) ∙ committed_long c.sender i.moment (at_then J K i.moment (at_tail J r K at) i.before) ∙ i.commit

      -- the view starts with it
      reported_starts : (c : Report) (i : IsReportRead c) → IsPrefix (reported c) start_keys
      reported_starts c i = support_starts g J laws (replica_at g c.sender i.moment).last v (reported c) start_keys (reported_support c i) i.last started

      -- the commit is the greatest that is reported, as far as the log goes
      begins : KeepsCommitted g J (law_state_at g l K) (law_state_at g l B)
      begins =
          let own = own_report l (leader_at g v K) in
          let top = is_greatest (λ (c : Report). c.commit) own (map (λ (x : CollectedReport). x.report) (leader_at g v B).reports) in
          let i = report_read top.0 top.1 in
          let commit = (begun_log_is g v r K here.1 led not_led).commit in
          let count = (leader_at g v B).commit in
          let now = normal_in_is v (leader_at g v B) led in
          let last : (leader_at g v B).last ≡ v = (sound_at g B here l).normal now.0 ∙ now.1 in
          let few = commit_within l B at in
          let keys = length-map (leader_at g v B).log.entries (λ (e : Entry). e.key) in
          let short = take_long count start_keys few in
          let most = top.2 in
          let long = reported_long top.0 i in
          let part : IsPrefix (take count start_keys) (reported top.0) =
          shorter_prefix (take count start_keys) (reported top.0) start_keys (prefix_take count start_keys) (reported_starts top.0 i)
          (omega (arith, short, long, commit, most)) in
          let earlier_last = i.last in
          let own_starts = reported_starts own own_read in
          let own_long = reported_long own own_read in
          let own_most = within_greatest (λ (c : Report). c.commit) reports own
          (contains_first own (map (λ (x : CollectedReport). x.report) (leader_at g v B).reports)) in
          let own_few = prefix_length (reported own) start_keys own_starts in
          record {
            supported = λ up. subst (λ (u : ℕ). HasSupport g u (take count start_keys) J) (sym last)
                (support_higher g J laws (replica_at g top.0.sender i.moment).last v (take count start_keys) (omega (arith, earlier_last))
                (support_shorter g J laws (replica_at g top.0.sender i.moment).last (take count start_keys) (reported top.0) part
                (reported_support top.0 i)));
            extends = λ was up. shorter_prefix (reported own) (take count start_keys) start_keys own_starts (prefix_take count start_keys)
                (omega (arith, own_long, own_most, own_few, commit, short, keys));
          }

  -- ---- a record of a replica

  module _ (y : ℕ) (r : Record) (K : List Record) (at : At J (r ∷ K)) (earlier : AreSupportedIn K) (a : r.actor ≡ Replica y) where
    abbrev s : ReplicaData
    s = law_state_at g y K

    before : At J K
    before = at_tail J r K at

    world : World g (r ∷ K)
    world = at_world g J (r ∷ K) w at

    sound : IsSound g.f s
    sound = sound_at g K world.1 y

    old : is_up s.status ≡ true → HasSupport g s.last (committed_keys s) J
    old up = earlier y K (at_self K) up

    few : s.commit ≤ length (keys_of s.log.entries)
    few = commit_within y K before

    abbrev Keeps : ReplicaData → Type 0
    Keeps t = KeepsCommitted g J s t

    -- it is not up after the record
    away : (t : ReplicaData) → (is_up t.status ≡ true → ⊥) → Keeps t
    away t gone = record { supported = λ up. absurd (gone up); extends = λ was up. absurd (gone up) }

    same_log : IsPrefix s.log.entries s.log.entries
    same_log = prefix_same s.log.entries s.log.entries refl

    -- the commit and the last view are as they were, and the log only grows
    grown : (t : ReplicaData) → t.commit ≡ s.commit → t.last ≡ s.last → (is_up t.status ≡ true → is_up s.status ≡ true)
        → IsPrefix s.log.entries t.log.entries → Keeps t
    grown t commit last up more =
        let keys = prefix_map (λ (e : Entry). e.key) s.log.entries t.log.entries more in
        let same : committed_keys t ≡ committed_keys s = ap (λ (n : ℕ). take n (keys_of t.log.entries)) commit
        ∙ sym (take_of_prefix s.commit (keys_of s.log.entries) (keys_of t.log.entries) keys few) in
        record {
          supported = λ now. subst (λ (v : ℕ). HasSupport g v (committed_keys t) J) (sym last)
              (subst (λ (ks : List Key). HasSupport g s.last ks J) (sym same) (old (up now)));
          extends = λ was now. prefix_same (committed_keys s) (committed_keys t) (same);
        }

    grown_entries : (log : Log) → Grown g.f y s log → IsPrefix s.log.entries log.entries
    grown_entries _ Same = same_log
    grown_entries _ (More log normal others more) = more.entries

    -- what a leader had committed when it sent its log
    sent_supported : (L v : ℕ) (sent_at : List Record) → At K sent_at → is_normal (replica_at g L sent_at).status ≡ true → (replica_at g L sent_at).view ≡ v
        → HasSupport g v (committed_keys (law_state_at g L sent_at)) J
    sent_supported L v sent_at there normal view =
        let last = (sound_at g sent_at (at_world g J sent_at w (at_then J K sent_at before there)) L).normal normal ∙ view in
        subst (λ (u : ℕ). HasSupport g u (committed_keys (law_state_at g L sent_at)) J) last
        (earlier L sent_at there (normal_up (replica_at g L sent_at).status normal))

    -- ---- a log modification is taken

    module _ (sender : ℕ) (b : LogModBody) (leads : sender ≡ leader_of g.f s.view) (same : b.view ≡ s.view) (normal : is_normal s.status ≡ true)
        (sent : ModSource g K sender b) (log : Log) (changed : Taken (keys_of (replica_at g sender sent.sent_at).log.entries) s.log log)
      where
        there : At J sent.sent_at
        there = at_then J K sent.sent_at before sent.moment

        abbrev lead : List Key
        lead = (logs_of g).lead s.view J

        abbrev sent_keys : List Key
        sent_keys = keys_of (replica_at g sender sent.sent_at).log.entries

        in_lead : IsPrefix sent_keys lead
        in_lead = sent_led sender s.view sent.sent_at there leads sent.normal (sent.view ∙ same)

        -- what is synced then is the leader's
        part : IsPrefix (take log.synced (keys_of log.entries)) lead
        part =
            let up = up_status s.status (normal_up s.status normal) in
            let own = laws.synced_lead y s.view K before (record { up = up; last = sound.normal normal }) in
            let grows = laws.lead_grows s.view K J (at_self J) before in
            changed.part lead (prefix_then (take s.log.synced (keys_of s.log.entries)) ((logs_of g).lead s.view K) lead own grows) in_lead

        -- what it had committed stays
        kept : take s.commit (keys_of log.entries) ≡ committed_keys s
        kept =
            let low = (facts_at y K before).commit in
            sym (take-take s.commit s.log.synced (keys_of log.entries) low) ∙ ap (take s.commit) (sym changed.entries)
            ∙ take-take s.commit s.log.synced (keys_of s.log.entries) low

        -- what the leader had committed, as far as it is synced
        taken : (n : ℕ) → n ≤ b.commit → n ≤ log.synced → HasSupport g s.last (take n (keys_of log.entries)) J
        taken n sent_low low =
            let theirs = sent_supported sender s.view sent.sent_at sent.moment sent.normal (sent.view ∙ same) in
            let Q = take n (keys_of log.entries) in
            let in_part = take_within n log.synced (keys_of log.entries) low in
            let long = committed_long sender sent.sent_at there in
            let short = length-take n (keys_of log.entries) in
            let commit = sent.commit in
            let first = shorter_prefix Q (committed_keys (law_state_at g sender sent.sent_at)) lead
            (prefix_then Q (take log.synced (keys_of log.entries)) lead in_part part)
            (prefix_then (committed_keys (law_state_at g sender sent.sent_at)) sent_keys lead (prefix_take _ sent_keys) in_lead)
            (omega (arith, long, short, commit, sent_low)) in
            subst (λ (v : ℕ). HasSupport g v Q J) (sym (sound.normal normal))
            (support_shorter g J laws s.view Q (committed_keys (law_state_at g sender sent.sent_at)) first theirs)

        abbrev count : ℕ
        count = max s.commit (min b.commit log.synced)

        counted_support : HasSupport g s.last (take count (keys_of log.entries)) J
        counted_support = elim (max_cases s.commit (min b.commit log.synced)) [
          | inl own ↦ subst (λ (ks : List Key). HasSupport g s.last ks J) (sym (ap (λ (n : ℕ). take n (keys_of log.entries)) own ∙ kept))
              (old (normal_up s.status normal))
          | inr new ↦ subst (λ (n : ℕ). HasSupport g s.last (take n (keys_of log.entries)) J) (sym new)
              (taken (min b.commit log.synced) (omega arith) (omega arith))
        ]

        modified : (t : ReplicaData) → t.last ≡ s.last → committed_keys t ≡ take count (keys_of log.entries) → Keeps t
        modified t last is = record {
          supported = λ up. subst (λ (v : ℕ). HasSupport g v (committed_keys t) J) (sym last)
              (subst (λ (ks : List Key). HasSupport g s.last ks J) (sym is) counted_support);
          extends = λ was up. subst (IsPrefix (committed_keys s)) (sym is)
              (subst (λ (ks : List Key). IsPrefix ks (take count (keys_of log.entries))) kept (take_within s.commit count (keys_of log.entries) (omega arith)));
        }

    -- ---- a sync report is counted

    module _ (sender reports : ℕ) (normal : is_normal s.status ≡ true) (led : eqb (leader_of g.f s.view) y ≡ true)
        (counts : AreCounts g J y (law_state (with_commit g.f y (with_ack s sender reports))))
      where
        abbrev after : ReplicaData
        after = law_state (with_commit g.f y (with_ack s sender reports))

        abbrev point : ℕ
        point = commit_point g.f y after.ack

        abbrev keys : List Key
        keys = keys_of s.log.entries

        leads : y ≡ leader_of g.f s.view
        leads = sym (eqb-true (leader_of g.f s.view) y led)

        own_led : IsLedAt (logs_of g) s.view (take point keys) K J
        own_led = record {
          moment = before;
          normal = subst (λ (z : ℕ). IsNormal (logs_of g) z s.view K) leads (is_normal_at g y s.view K normal refl);
          holds = subst (λ (z : ℕ). IsPrefix (take point keys) (keys_of (replica_at g z K).log.entries)) leads (prefix_take point keys);
        }

        -- the leader, or one that reported as much
        member_had : s.commit < point → (z : ℕ) → (eqb y z || nat_le point (slice_index after.ack z)) ≡ true
            → (z ≡ leader_of g.f s.view) ⊎ HadSynced (logs_of g) s.view z (length (take point keys)) J
        member_had more z test = elim (or_cases (eqb y z) (nat_le point (slice_index after.ack z)) test) [
          | inl mine ↦ inl (sym (eqb-true y z mine) ∙ leads)
          | inr has_acked ↦
              let enough = leb-true point (slice_index after.ack z) has_acked in
              let short = length-take point keys in
              inr (had_fewer g J s.view z (length (take point keys)) (slice_index after.ack z) (omega (arith, short, enough))
              (counts normal led z (omega (arith, more, enough))))
        ]

        point_support : s.commit < point → HasSupport g s.last (take point keys) J
        point_support more =
            let member = in_group g y r.actor a world.0.member in
            let enough = commit_counts g.f y point after.ack member (omega (arith, more)) (omega arith) in
            let same = sound.normal normal in
            record {
              view = s.view;
              low = omega (arith, same);
              list = take point keys;
              support = slowly (logs_of g) J laws s.view (take point keys) K own_led (λ z. eqb y z || nat_le point (slice_index after.ack z)) enough
                  (member_had more);
              part = prefix_same (take point keys) (take point keys) refl;
            }

        tallies : Keeps after
        tallies = record {
          supported = λ up. elim (cases_lt s.commit point) [
            | inl more ↦ subst (λ (n : ℕ). HasSupport g s.last (take n keys) J)
                (let is : point ≡ max s.commit point = omega (arith, more) in is) (point_support more)
            | inr less ↦ subst (λ (n : ℕ). HasSupport g s.last (take n keys) J)
                (let is : s.commit ≡ max s.commit point = omega (arith, less) in is) (old up)
          ];
          extends = λ was up. take_within s.commit (max s.commit point) keys (omega arith);
        }

    -- ---- a leader's log is taken

    module _ (L v : ℕ) (list : List Entry) (count : ℕ) (leads : L ≡ leader_of g.f v) (sent : LogSource g K L v list count) where
      moment_at : At J sent.sent_at
      moment_at = at_then J K sent.sent_at before sent.moment

      -- what the leader had committed
      theirs : HasSupport g v (take count (keys_of list)) J
      theirs =
          let is : committed_keys (law_state_at g L sent.sent_at) ≡ take count (keys_of list) = λ i. take (sent.commit i) (keys_of (sent.entries i)) in
          subst (λ (ks : List Key). HasSupport g v ks J) is (sent_supported L v sent.sent_at sent.moment sent.normal sent.view)

      module _ (up : is_up s.status ≡ true) (later : s.last < v) where
        -- what was committed in an earlier view is in the start of this one
        own_in : IsPrefix (committed_keys s) (keys_of list)
        own_in =
            let began = sent_started L v sent.sent_at moment_at leads sent.normal sent.view (omega (arith, later)) in
            let S = began.0 in
            let in_log : IsPrefix S (keys_of list) = subst (λ (l : List Entry). IsPrefix S (keys_of l)) sent.entries began.2 in
            prefix_then (committed_keys s) S (keys_of list) (support_starts g J laws s.last v (committed_keys s) S (old up) later began.1) in_log

        own_long : length (committed_keys s) ≡ s.commit
        own_long = committed_long y K before

        abbrev most : ℕ
        most = min (length list) (max s.commit count)

        -- the greater of the two commits, as far as the log goes
        most_support : HasSupport g v (take most (keys_of list)) J
        most_support =
            let short = length-take most (keys_of list) in
            let long = own_long in
            elim (max_cases s.commit count) [
              | inl own ↦
                  let first = shorter_prefix (take most (keys_of list)) (committed_keys s) (keys_of list) (prefix_take most (keys_of list)) own_in
                  (omega (arith, short, long, own)) in
                  support_higher g J laws s.last v (take most (keys_of list)) (omega (arith, later))
                  (support_shorter g J laws s.last (take most (keys_of list)) (committed_keys s) first (old up))
              | inr new ↦
                  support_shorter g J laws v (take most (keys_of list)) (take count (keys_of list)) (take_within most count (keys_of list) (omega (arith, new)))
                  theirs
            ]

        adopts : (t : ReplicaData) → t.last ≡ v → committed_keys t ≡ take most (keys_of list) → Keeps t
        adopts t last is =
            let long = own_long in
            let low = prefix_length (committed_keys s) (keys_of list) own_in in
            let keys = length-map list (λ (e : Entry). e.key) in
            let short = take_long most (keys_of list) (omega (arith, keys)) in
            record {
              supported = λ now. subst (λ (u : ℕ). HasSupport g u (committed_keys t) J) (sym last)
                  (subst (λ (ks : List Key). HasSupport g v ks J) (sym is) most_support);
              extends = λ was now. subst (IsPrefix (committed_keys s)) (sym is)
                  (shorter_prefix (committed_keys s) (take most (keys_of list)) (keys_of list) own_in (prefix_take most (keys_of list))
                  (omega (arith, long, low, keys, short)));
            }

    -- ---- each outcome

    mod_taken : (sender : ℕ) (b : LogModBody) (log : Log) → HearsLeader g.f y s.status s.view sender b.view → Modifies b s.log log
        → ModSource g K sender b → (t : ReplicaData) → t.last ≡ s.last
        → committed_keys t ≡ take (max s.commit (min b.commit log.synced)) (keys_of log.entries) → Keeps t
    mod_taken sender b log hears changed sent t last is =
        let taken = changed.taken (knows_log g y K world.1).sound (keys_of (replica_at g sender sent.sent_at).log.entries) sent.keys in
        modified sender b (hears.leader ∙ ap (leader_of g.f) hears.same) hears.same hears.normal sent log taken t last is

    -- the view begins with this record
    begins_here : (v : ℕ) (base : List CollectedReport) (u : List ℕ) → leader_of g.f v ≡ y → is_up s.status ≡ true → Base (with_vector y s u) v base
        → is_normal (replica_at g y (r ∷ K)).status ≡ true → (replica_at g y (r ∷ K)).view ≡ v → Keeps (law_state_at g y (r ∷ K))
    begins_here v base u leads up on normal view =
        let low = collects_low g.f y r.event (heard_by g y r.event) (hears_fit g y r.event) s v u base sound up on in
        let led : is_led g v (r ∷ K) ≡ true = subst (λ (z : ℕ). is_normal_in v (replica_at g z (r ∷ K)) ≡ true) (sym leads)
        (is_in_view v (replica_at g y (r ∷ K)) normal view) in
        let not_led : is_led g v K ≡ false = elim (cases_Bool (is_led g v K)) [
          | inr away ↦ away
          | inl was ↦
              let now = normal_in_is v (replica_at g y K) (subst (λ (z : ℕ). is_normal_in v (replica_at g z K) ≡ true) leads was) in
              let same = sound.normal now.0 in
              let its = now.1 in
              absurd (omega (arith, low, same, its))
        ] in
        subst (λ (z : ℕ). KeepsCommitted g J (law_state_at g z K) (law_state_at g z (r ∷ K))) leads (begins v r K at earlier led not_led)

    outcome_keeps : (t : ReplicaData) → Outcome g.f y r.event (heard_by g y r.event) s t → law_state_at g y (r ∷ K) ≡ t → Keeps t
    outcome_keeps _ Stays is = grown _ refl refl (λ up. up) same_log
    outcome_keeps _ (Release log normal more) is = grown _ refl refl (λ up. up) more.entries
    outcome_keeps _ (Merge sender m u new normal) is = grown _ refl refl (λ up. up) same_log
    outcome_keeps _ (Sync sender b new hears le log changed) is = mod_taken sender b log hears changed (mod_source g y r K world a sender b new.is) _ refl refl
    outcome_keeps _ (Tally sender b heard normal led same low) is =
        tallies sender b.synced normal led (subst (AreCounts g J y) is (counts_at g J w y (r ∷ K) at))
    outcome_keeps _ (Enter v up later log more) is = grown _ refl refl (λ _. up) (grown_entries log more)
    outcome_keeps _ (Follow sender m u new v up later) is = grown _ refl refl (λ _. up) same_log
    outcome_keeps _ (Answer sender b new normal same) is = grown _ refl refl (λ up. up) same_log
    outcome_keeps _ (Collect sender b new may base on) is = grown _ refl refl (λ _. may.up) same_log
    outcome_keeps _ (Begin sender b new may base on full) is =
        subst Keeps is (begins_here b.view base b.vector may.leads may.up on (ap (λ (x : ReplicaData). is_normal x.status) is)
        (ap (λ (x : ReplicaData). x.view) is))
    outcome_keeps _ (Start sender b new may) is =
        adopts sender b.view b.entries b.commit may.leader (start_source g y r K world a sender b new.is) may.up
        (starts_low g.f s sender b.view sound may) _ refl refl
    outcome_keeps _ (Fall e) is = away _ (λ up. cc)
    outcome_keeps _ (Wake nonce e down) is = away _ (λ up. cc)
    outcome_keeps _ (HearVector sender b new ours) is = away _ (λ up. up_no_rejoin s.status up ours.rejoining)
    outcome_keeps _ (Count sender b new ours many) is = away _ (λ up. up_no_rejoin s.status up ours.rejoining)
    outcome_keeps _ (HearView sender b new ours) is = away _ (λ up. up_no_rejoin s.status up ours.rejoining)
    outcome_keeps _ (Forget sender b new ours) is = away _ (λ up. up_no_rejoin s.status up ours.rejoining)
    outcome_keeps _ (AskLog sender b new ours many) is = away _ (λ up. up_no_rejoin s.status up ours.rejoining)
    outcome_keeps _ (Return sender b new ours late leader) is = record {
      supported = λ up. theirs sender b.view b.entries b.commit leader (state_source g y r K world a sender b new.is);
      extends = λ was up. up_no_rejoin s.status was ours.rejoining;
    }
    outcome_keeps _ (Back rejoining phase) is = away _ (λ up. up_no_rejoin s.status up rejoining)

  -- ---- every record, and every moment

  record_keeps : (y : ℕ) (r : Record) (K : List Record) → At J (r ∷ K) → AreSupportedIn K
      → KeepsCommitted g J (law_state_at g y K) (law_state_at g y (r ∷ K))
  record_keeps y r K at earlier = elim (steps g y r K) [
    | Acts a outcome ↦ outcome_keeps y r K at earlier a (law_state_at g y (r ∷ K)) outcome refl
    | Rests other same ↦ subst (KeepsCommitted g J (law_state_at g y K)) (sym same) (record {
      supported = λ up. earlier y K (at_self K) up;
      extends = λ was up. prefix_same (committed_keys (law_state_at g y K)) (committed_keys (law_state_at g y K)) refl;
    })
  ]

  first_supported : (z : ℕ) → HasSupport g (replica_at g z []).last (committed_keys (law_state_at g z [])) J
  first_supported z =
      subst (λ (s : ReplicaData). HasSupport g s.last (committed_keys s) J) (sym (first_state g z)) (none_has_support g J laws 0)

  all_supported : (K : List Record) → At J K → AreSupportedIn K
  all_supported [] at z L here up =
      subst (λ (x : List Record). HasSupport g (replica_at g z x).last (committed_keys (law_state_at g z x)) J) (sym here) (first_supported z)
  all_supported (r ∷ K) at z L (inl newest) up =
      let rest = all_supported K (at_tail J r K at) in
      subst (λ (x : List Record). is_up (replica_at g z x).status ≡ true → HasSupport g (replica_at g z x).last (committed_keys (law_state_at g z x)) J)
      (sym newest) (record_keeps z r K at rest).supported up
  all_supported (r ∷ K) at z L (inr older) up = all_supported K (at_tail J r K at) z L older up

  -- what is committed has support in the last view
  pub committed_support : (y : ℕ) (K : List Record) → At J K → is_up (replica_at g y K).status ≡ true
      → HasSupport g (replica_at g y K).last (committed_keys (law_state_at g y K)) J
  committed_support y K at up = all_supported K at y K (at_self K) up

  -- by one record nothing of it is taken back
  pub committed_extends : (y : ℕ) (r : Record) (K : List Record) → At J (r ∷ K) → is_up (replica_at g y K).status ≡ true
      → is_up (replica_at g y (r ∷ K)).status ≡ true
      → IsPrefix (committed_keys (law_state_at g y K)) (committed_keys (law_state_at g y (r ∷ K)))
  committed_extends y r K at was up = (record_keeps y r K at (all_supported K (at_tail J r K at))).extends was up
