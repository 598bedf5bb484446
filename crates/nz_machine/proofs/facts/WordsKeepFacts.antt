-- The words of views, of adopting a log, and of a rejoin keep what a replica's state always has.
use Rattle.std.proofs.Common.{ℕ, ◌+◌, ◌<◌, ◌≤◌, ◌^◌, not, eqb, Bool, List, [], ◌∷◌, ◌++◌, length, map}
use Rattle.std.proofs.Common.{IsFalse, refl, sym, subst, ◌∙◌, arith, append_assoc, append-nil}
use Rattle.std.specs.Prelude.{◌==◌, if◌then◌else◌, slice_index, slice_set}
use Rattle.std.specs.List.{AllByRecursion, filter, list_any}
use Rattle.std.proofs.lemmas.Bool.Decides.{nat_tests}
use Rattle.std.proofs.lemmas.List.{length-set, length-replicate}
use Rattle.std.proofs.lemmas.Bool.{cond_both}
use Rattle.nz_base.specs.Cluster.{replica_count, leader_of}
use Rattle.nz_base.specs.declared.key.Entry.{Entry}
use Rattle.nz_base.specs.declared.limits.TheConstants.{MAX_ENTRIES, MAX_VIEW}
use Rattle.nz_cv.specs.Vectors.{is_stray}
use Rattle.nz_math.specs.Count.{AreDistinct}
use Rattle.nz_merge.specs.Merged.{AreFit, greatest, merged}
use Rattle.nz_merge.specs.Sender.{HaveOwnSenders}
use Rattle.nz_merge.specs.declared.report.Report.{Report}
use Rattle.nz_merge.proofs.Merging as merging
use Rattle.nz_store.specs.Sequence.{replies, replies_from}
use Rattle.nz_log.specs.Synced.{Log, left_out}
use Rattle.nz_msg.specs.Fields.{answer}
use Rattle.nz_msg.specs.declared.message.ViewChangeBody.{ViewChangeBody}
use Rattle.nz_msg.specs.declared.message.RejoinTellBody.{RejoinTellBody}
use Rattle.nz_machine.specs.declared.data.CollectedReport.{CollectedReport}
use Rattle.nz_machine.specs.declared.data.Rejoin.{Rejoin}
use Rattle.nz_machine.specs.declared.data.ToldView.{ToldView}
use Rattle.nz_machine.specs.rules.State.{ReplicaData}
use Rattle.nz_machine.specs.rules.Facts.{FitsEntry, AreCounters, IsCarried, FitsReport, FitsTold, AreClocks, AreHeld, AreReports, IsRejoin, HasFacts}
use Rattle.nz_machine.specs.rules.Replicas.{commands}
use Rattle.nz_machine.specs.rules.Views.{in_view_change}
use Rattle.nz_machine.specs.rules.Adopting.{with_log, normal_in}
use Rattle.nz_machine.specs.rules.Begins.{report_of, with_report, without_strays, with_own_report, after_begin}
use Rattle.nz_machine.specs.rules.Rejoining.{last_counter, with_teller, with_new_counter, ask_views, with_tells, with_tell, latest_view, ask_log}
use Rattle.nz_machine.proofs.lists.EachItem.{all_append, all_of_prefix, all_filter, all_replicate}
use Rattle.nz_machine.proofs.lists.ListParts.{all_index}
use Rattle.nz_machine.proofs.lists.Tables.{set_all}
use Rattle.nz_machine.proofs.facts.Stores.{answer_fits, replies_pushed}
use Rattle.nz_machine.proofs.facts.KeysKeepFacts.{apart_held, arranged_overtaken}
use Rattle.nz_machine.proofs.facts.Adopting.{apart_adopted}
use Rattle.nz_math.proofs.Counting.{distinct-append}
use Rattle.nz_machine.proofs.lists.Distinct.{distinct_filter, distinct_replace, any_in, sender_of, reports_in, distinct_senders, own_senders}

-- ---- the counts of ticks

pub clocks_keep : (f me : ℕ) (s : ReplicaData) (clock quiet since : ℕ) → HasFacts f me s → AreClocks s.status clock quiet since
    → HasFacts f me (record s { clock = clock; quiet = quiet; since = since })
clocks_keep f me s clock quiet since h clocks = grind (arith, h, clocks)

-- a count that begins anew at the end of its period
pub counted_low : (period n : ℕ) → n < period → (if n + 1 == period then 0 else n + 1) < period
counted_low period n low = cond_both (eqb (n + 1) period) 0 (n + 1) (λ m. m < period) (λ _. omega (arith, low)) (λ more. grind (arith, nat_tests, low, more))

-- ---- a view is entered

pub enter_keeps : (f me : ℕ) (s : ReplicaData) (view : ℕ) → HasFacts f me s → s.view ≤ view → view ≤ MAX_VIEW → HasFacts f me (in_view_change s view)
enter_keeps f me s view h later low =
    let none : AreReports f me [] = record { each = tt; own_senders = tt } in
    grind (arith, h, later, low, none)

-- ---- a list is adopted

-- log, early and late with the list as the log
pub adopted_held : (s : ReplicaData) (list : List Entry) → AreHeld s.log s.early s.late → IsCarried list
    → AreHeld (with_log s list).log (with_log s list).early (with_log s list).late
adopted_held s list h c =
    let whole : Log = record { entries = list; synced = length list } in
    let apart = apart_adopted s.log s.early s.late list (apart_held s.log s.early s.late h) c.log c.few c.fit in
    record { arranged = arranged_overtaken whole (left_out s.early list) (left_out (s.late ++ s.log.entries) list) apart; few = c.few; within = omega arith }

pub start_keeps : (f me : ℕ) (s : ReplicaData) (view : ℕ) (list : List Entry) (commit : ℕ) → HasFacts f me s → view ≤ MAX_VIEW
    → IsFalse (leader_of f view == me)
    → IsCarried list → commit ≤ length list → HasFacts f me (normal_in s view list commit)
start_keeps f me s view list commit h low away c committed = let held = adopted_held s list h.entries c in grind (arith, h, low, away, held, committed)

replies_grow : (prefix rest : List Entry) → AllByRecursion answer.fits (replies (commands prefix))
    → AllByRecursion answer.fits (replies (commands (prefix ++ rest)))
replies_grow prefix [] all = subst (λ (l : List Entry). AllByRecursion answer.fits (replies (commands l))) (sym (append-nil prefix)) all
replies_grow prefix (e ∷ rest) all =
    let more =
    subst (AllByRecursion answer.fits) (sym (replies_pushed prefix e))
    (all_append answer.fits (replies (commands prefix)) _ all (answer_fits (commands prefix) e.command, tt)) in
    subst (λ (l : List Entry). AllByRecursion answer.fits (replies (commands l))) (append_assoc prefix (e ∷ []) rest)
    (replies_grow (prefix ++ e ∷ []) rest more)

pub replies_fit : (log : List Entry) → AllByRecursion answer.fits (replies (commands log))
unfolding replies_from
replies_fit log = replies_grow [] log tt

pub begin_keeps : (f me : ℕ) (s : ReplicaData) (list : List Entry) (commit : ℕ) → HasFacts f me s → IsCarried list → HasFacts f me (after_begin f s list commit)
begin_keeps f me s list commit h c =
    let held = adopted_held s list h.entries c in
    let acks = length-replicate {A = ℕ} (replica_count f) 0 in
    let few = all_replicate (λ n. n ≤ MAX_ENTRIES) (replica_count f) 0 (omega arith) in
    let synced = all_replicate (λ n. n ≤ length list) (replica_count f) 0 (omega arith) in
    let answers = replies_fit list in
    grind (arith, h, held, acks, few, synced, answers)

-- ---- reports

pub collect_keeps : (f me : ℕ) (s : ReplicaData) (sender : ℕ) (b : ViewChangeBody) → HasFacts f me s → FitsReport f me (report_of sender b)
    → HasFacts f me (with_report s sender b)
collect_keeps f me s sender b h fit =
    let report = report_of sender b in
    let others = filter (λ (r : CollectedReport). not (eqb r.report.sender sender)) s.reports in
    let reports : AreReports f me (others ++ report ∷ []) = record {
      each = all_append (FitsReport f me) others (report ∷ []) (all_filter (FitsReport f me) _ s.reports h.reports.each) (fit, tt);
      own_senders = own_senders (others ++ report ∷ []) (distinct_replace sender_of s.reports report (distinct_senders s.reports h.reports.own_senders));
    } in
    grind (arith, h, reports)

pub strays_keep : (f me : ℕ) (s : ReplicaData) → HasFacts f me s → HasFacts f me (without_strays s)
strays_keep f me s h =
    let new : CollectedReport → Bool = λ r. not (is_stray r.vector r.report.sender s.vector) in
    let reports : AreReports f me (filter new s.reports) = record {
      each = all_filter (FitsReport f me) new s.reports h.reports.each;
      own_senders = own_senders (filter new s.reports) (distinct_filter sender_of new s.reports (distinct_senders s.reports h.reports.own_senders));
    } in
    grind (arith, h, reports)

-- ---- the merged log

pub own_carried : (f me : ℕ) (s : ReplicaData) → HasFacts f me s → IsCarried s.log.entries
own_carried f me s h = record {
  log = (apart_held s.log s.early s.late h.entries).sound.ordered;
  fit = all_of_prefix FitsEntry s.log.entries (s.early ++ s.late) h.entries.arranged.fit;
  few = h.entries.few;
}

each_fit : (f me : ℕ) (rs : List CollectedReport) → AllByRecursion (FitsReport f me) rs → AreFit (reports_in rs)
each_fit f me [] all = tt
each_fit f me (r ∷ rs) all = (record { log = all.0.entries.log; synced = all.0.synced }, each_fit f me rs all.1)

each_entries : (f me : ℕ) (rs : List CollectedReport) → AllByRecursion (FitsReport f me) rs
    → AllByRecursion (λ (c : Report). AllByRecursion FitsEntry c.log) (reports_in rs)
each_entries f me [] all = tt
each_entries f me (r ∷ rs) all = (all.0.entries.fit, each_entries f me rs all.1)

-- the reports that a view begins from may be merged, and are of different replicas
pub reports_fit : (f me : ℕ) (s : ReplicaData) → HasFacts f me s → AreFit (with_own_report me s)
reports_fit f me s h = (record { log = (own_carried f me s h).log; synced = h.entries.within }, each_fit f me s.reports h.reports.each)

not_mine : (f me : ℕ) (rs : List CollectedReport) → AllByRecursion (FitsReport f me) rs → IsFalse (list_any (λ (c : Report). c.sender == me) (reports_in rs))
not_mine f me [] all = refl
not_mine f me (r ∷ rs) all = let own = all.0.other in let rest = not_mine f me rs all.1 in rw own rest

pub reports_own : (f me : ℕ) (s : ReplicaData) → HasFacts f me s → HaveOwnSenders (with_own_report me s)
reports_own f me s h = (not_mine f me s.reports h.reports.each, h.reports.own_senders)

pub merged_carried : (f me : ℕ) (s : ReplicaData) → HasFacts f me s → length (merged f (with_own_report me s)) ≤ MAX_ENTRIES
    → IsCarried (merged f (with_own_report me s))
merged_carried f me s h few = record {
  log = merging.is_log f (with_own_report me s) (reports_fit f me s h);
  fit = merging.entries FitsEntry f (with_own_report me s) ((own_carried f me s h).fit, each_entries f me s.reports h.reports.each);
  few = few;
}

-- ---- a rejoin

-- the rejoin is another, and the wait goes on or begins anew
rejoin_keeps : (f me : ℕ) (s : ReplicaData) (r : Rejoin) (ticks : ℕ) → HasFacts f me s → ticks ≤ s.since → IsRejoin f r
    → HasFacts f me (record s { since = ticks; rejoin = r })
rejoin_keeps f me s r ticks h low own = grind (arith, h, low, own)

pub teller_keeps : (f me : ℕ) (s : ReplicaData) (sender : ℕ) (vector : List ℕ) → HasFacts f me s → sender < replica_count f → AreCounters f vector
    → HasFacts f me (with_teller me s sender vector)
teller_keeps f me s sender vector h member counters =
    let r = s.rejoin in
    let k = h.rejoin in
    let claim = k.claim in
    let told : slice_index vector me < 2 ^ 32 = all_index (λ n. n < 2 ^ 32) vector me 0 counters.small (omega arith) in
    let known = list_any (λ t. eqb t sender) r.tellers in
    rejoin_keeps f me s (with_teller me s sender vector).rejoin s.since h (omega arith) (record {
      nonce = k.nonce;
      claim = omega (arith, claim, told);
      wanted = k.wanted;
      tellers =
          cond_both known r.tellers (r.tellers ++ sender ∷ []) (AllByRecursion (λ n. n < replica_count f)) (λ _. k.tellers)
          (λ _. all_append (λ n. n < replica_count f) r.tellers (sender ∷ []) k.tellers (member, tt));
      own_tellers =
          cond_both known r.tellers (r.tellers ++ sender ∷ []) AreDistinct (λ _. k.own_tellers)
          (λ new. distinct-append r.tellers sender k.own_tellers (sym (any_in r.tellers sender) ∙ new));
      tells = k.tells;
      own_tells = k.own_tells;
    })

pub counter_keeps : (f me : ℕ) (s : ReplicaData) → HasFacts f me s → IsFalse (s.rejoin.claim == last_counter) → HasFacts f me (with_new_counter me s)
counter_keeps f me s h below =
    let claim = h.rejoin.claim in
    let v = h.tables.vector in
    let next : s.rejoin.claim + 1 < 2 ^ 32 = grind (arith, nat_tests, claim, below) in
    let vector : AreCounters f (slice_set s.vector me (s.rejoin.claim + 1)) =
    record { size = length-set s.vector me _ ∙ v.size; small = set_all (λ n. n < 2 ^ 32) s.vector me (s.rejoin.claim + 1) v.small next } in
    grind (arith, h, vector)

-- other views were told
pub tells_keep : (f me : ℕ) (s : ReplicaData) (tells : List ToldView) → HasFacts f me s → AllByRecursion (FitsTold f) tells
    → AreDistinct (map (λ (t : ToldView). t.sender) tells) → HasFacts f me (with_tells s tells)
tells_keep f me s tells h each own =
    let k = h.rejoin in
    rejoin_keeps f me s (with_tells s tells).rejoin s.since h (omega arith)
    (record { nonce = k.nonce; claim = k.claim; wanted = k.wanted; tellers = k.tellers; own_tellers = k.own_tellers; tells = each; own_tells = own })

pub forget_keeps : (f me : ℕ) (s : ReplicaData) → HasFacts f me s → HasFacts f me (with_tells s [])
forget_keeps f me s h = tells_keep f me s [] h tt tt

pub tell_keeps : (f me : ℕ) (s : ReplicaData) (sender : ℕ) (b : RejoinTellBody) → HasFacts f me s → sender < replica_count f → b.view ≤ MAX_VIEW
    → AreCounters f b.vector
    → HasFacts f me (with_tell s sender b)
tell_keeps f me s sender b h member low counters =
    let told : ToldView = record { sender = sender; view = b.view; vector = b.vector } in
    let own : FitsTold f told = record { member = member; view = low; vector = counters } in
    let others = filter (λ (t : ToldView). not (eqb t.sender sender)) s.rejoin.tells in
    let new : ToldView → Bool = λ t. not (is_stray t.vector t.sender s.vector) in
    let key : ToldView → ℕ = λ t. t.sender in
    tells_keep f me s (filter new (others ++ told ∷ [])) h
    (all_filter (FitsTold f) new (others ++ told ∷ [])
    (all_append (FitsTold f) others (told ∷ []) (all_filter (FitsTold f) _ s.rejoin.tells h.rejoin.tells) (own, tt)))
    (distinct_filter key new (others ++ told ∷ []) (distinct_replace key s.rejoin.tells told h.rejoin.own_tells))

-- the others are asked for their views
pub ask_views_keeps : (f me : ℕ) (s : ReplicaData) → HasFacts f me s → HasFacts f me (ask_views f me s).0
ask_views_keeps f me s h =
    let k = h.rejoin in
    rejoin_keeps f me s (ask_views f me s).0.rejoin 0 h (omega arith)
    (record { nonce = k.nonce; claim = k.claim; wanted = k.wanted; tellers = k.tellers; own_tellers = k.own_tellers; tells = tt; own_tells = tt })

-- the leader of the view is asked for its log
pub ask_log_keeps : (f me : ℕ) (s : ReplicaData) (view : ℕ) → HasFacts f me s → view ≤ MAX_VIEW → HasFacts f me (ask_log f s view).0
ask_log_keeps f me s view h low =
    let k = h.rejoin in
    rejoin_keeps f me s (ask_log f s view).0.rejoin 0 h (omega arith)
    (record { nonce = k.nonce; claim = k.claim; wanted = low; tellers = k.tellers; own_tellers = k.own_tellers; tells = k.tells; own_tells = k.own_tells })

greatest_low : (f : ℕ) (ts : List ToldView) → AllByRecursion (FitsTold f) ts → greatest (map (λ t. t.view) ts) ≤ MAX_VIEW
greatest_low f [] all = omega arith
greatest_low f (t ∷ ts) all =
    let rest = greatest_low f ts all.1 in
    let own = all.0.view in
    omega (arith, rest, own)

pub latest_low : (f me : ℕ) (s : ReplicaData) → HasFacts f me s → latest_view s ≤ MAX_VIEW
latest_low f me s h = greatest_low f s.rejoin.tells h.rejoin.tells
