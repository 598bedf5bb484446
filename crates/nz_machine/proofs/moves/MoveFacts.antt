-- Each move keeps what a replica's state always has.
use Rattle.std.proofs.Common.{◌≡◌, ℕ, ◌-◌, ◌<◌, ◌≤◌, ◌^◌, eqb, true, List, [], ◌∷◌, ◌++◌, length}
use Rattle.std.proofs.Common.{map, Some, refl, sym, ap, subst, ◌∙◌, arith, eq-eqb, None, inl, inr, IsFalse}
use Rattle.std.specs.Prelude.{IfSome, ◌==◌, max, min}
use Rattle.std.specs.List.{AllByRecursion}
use Rattle.std.proofs.lemmas.Bool.{ltb-true, not-true, and_parts, cond_both}
use Rattle.nz_base.specs.Cluster.{replica_count}
use Rattle.nz_base.specs.Actor.{HasAddress}
use Rattle.nz_base.specs.declared.actor.Actor.{Actor}
use Rattle.nz_base.specs.declared.actor.Actor.TheVariants.{Replica, Proxy}
use Rattle.nz_base.specs.declared.key.Entry.{Entry}
use Rattle.nz_base.specs.Key.{id_of}
use Rattle.nz_base.specs.declared.limits.TheConstants.{MAX_ENTRIES, MAX_VIEW}
use Rattle.nz_merge.specs.Merged.{greatest, merged}
use Rattle.nz_msg.specs.Fields as fields
use Rattle.nz_msg.specs.Fields.{vector}
use Rattle.nz_msg.proofs.Fields.{within_most}
use Rattle.nz_msg.specs.declared.message.TimedBody.{TimedBody}
use Rattle.nz_msg.specs.declared.message.LogModBody.{LogModBody}
use Rattle.nz_msg.specs.declared.message.FetchBody.{FetchBody}
use Rattle.nz_msg.specs.declared.message.FetchReplyBody.{FetchReplyBody}
use Rattle.nz_msg.specs.declared.message.SyncReportBody.{SyncReportBody}
use Rattle.nz_msg.specs.declared.message.ViewAskBody.{ViewAskBody}
use Rattle.nz_msg.specs.declared.message.ViewChangeBody.{ViewChangeBody}
use Rattle.nz_msg.specs.declared.message.StartViewBody.{StartViewBody}
use Rattle.nz_msg.specs.declared.message.VectorAskBody.{VectorAskBody}
use Rattle.nz_msg.specs.declared.message.VectorTellBody.{VectorTellBody}
use Rattle.nz_msg.specs.declared.message.RejoinAskBody.{RejoinAskBody}
use Rattle.nz_msg.specs.declared.message.RejoinTellBody.{RejoinTellBody}
use Rattle.nz_msg.specs.declared.message.StateAskBody.{StateAskBody}
use Rattle.nz_msg.specs.declared.message.StateTellBody.{StateTellBody}
use Rattle.nz_msg.specs.declared.message.Message.{Message}
use Rattle.nz_msg.specs.declared.message.Message.TheVariants as messages
use Rattle.nz_msg.specs.Messages.{Fits, timed, log_mod, fetch_reply, view_ask, view_change, start_view}
use Rattle.nz_msg.specs.Messages.{vector_tell, rejoin_ask, rejoin_tell, state_ask, state_tell}
use Rattle.nz_machine.specs.declared.data.Status.TheVariants.{ViewChange}
use Rattle.nz_machine.specs.rules.State.{ReplicaData, Out}
use Rattle.nz_machine.specs.rules.Facts.{FitsEntry, AreCounters, IsCarried, FitsReport, AreClocks, HasMode}
use Rattle.nz_machine.specs.rules.Facts.{AreApart, AreTables, AreExecuted, AreReports, IsRejoin, HasFacts}
use Rattle.nz_machine.specs.rules.Replicas.{is_down}
use Rattle.nz_machine.specs.rules.Requests.{with_origin, origin_of, request_rule}
use Rattle.nz_machine.specs.rules.Releases.{release_rule}
use Rattle.nz_machine.specs.rules.LogMods.{synced_with, overtaken_to_late, with_commit, log_mod_rule, fetch_rule, fetch_reply_rule, sync_report_rule}
use Rattle.nz_machine.specs.rules.Views.{alarm_rule, view_ask_rule}
use Rattle.nz_machine.specs.rules.Adopting.{normal_in, start_view_rule}
use Rattle.nz_machine.specs.rules.Begins.{report_of, with_own_report, view_change_rule}
use Rattle.nz_machine.specs.rules.Rejoining.{latest_view, crash_rule, restart_rule, vector_ask_rule, vector_tell_rule}
use Rattle.nz_machine.specs.rules.Rejoining.{rejoin_ask_rule, rejoin_tell_rule, state_ask_rule, state_tell_rule}
use Rattle.nz_machine.specs.runs.Hearing.{Heard}
use Rattle.nz_machine.specs.rules.Step.{message_vector, is_sized, is_in_cluster, tick_rule, replica_message}
use Rattle.nz_machine.proofs.runs.Runs.{all_has, Hears}
use Rattle.nz_machine.proofs.lists.ListParts.{all_get}
use Rattle.nz_machine.proofs.facts.ArrangedEntries.{arranged_late}
use Rattle.nz_machine.proofs.facts.KeysKeepFacts.{apart_held, apart_synced, found_fits, arranged_overtaken, may_sync_true}
use Rattle.nz_machine.proofs.facts.SyncKeepsFacts.{keys_fit, entries_fit}
use Rattle.nz_machine.proofs.facts.Carried.{carried_of_fit, at_least_of_fit}
use Rattle.nz_machine.proofs.facts.SentFields.{vector_counts}
use Rattle.nz_machine.proofs.facts.Guards.{normal_up}
use Rattle.nz_machine.proofs.facts.SyncKeepsFacts.{commit_keeps, tallied_low, ack_keeps}
use Rattle.nz_machine.proofs.facts.RulesKeepFacts.{entry_fits, has_place_left, crashed_has_facts, restarted_has_facts}
use Rattle.nz_machine.proofs.facts.RulesKeepFacts.{origin_keeps, vector_keeps, waiting_keeps, early_keeps, released_keeps}
use Rattle.nz_machine.proofs.facts.WordsKeepFacts.{clocks_keep, enter_keeps, start_keeps, begin_keeps, collect_keeps, strays_keep}
use Rattle.nz_machine.proofs.facts.WordsKeepFacts.{merged_carried, teller_keeps, counter_keeps, tell_keeps, forget_keeps, ask_views_keeps, ask_log_keeps}
use Rattle.nz_machine.proofs.facts.WordsKeepFacts.{latest_low}
use Rattle.nz_machine.proofs.moves.Moves.{Brings, Names, BringsLog, MaySync, MayEnter, MayStart, Interval, Whole, Taking, Move, Count, NoteOrigin, ToEarly}
use Rattle.nz_machine.proofs.moves.Moves.{ToLate, Release, Merge, Take, Sync, Overtake, Commit, NoteAck, Tally}
use Rattle.nz_machine.proofs.moves.Moves.{Enter, Drop, Collect, Begin, Start, NoteTeller, TakeCounter, AskViews, NoteTell, Forget, AskLog, Closed}
use Rattle.nz_machine.proofs.moves.MoveRules.{message_moves, release_moves, tick_moves, alarm_moves, sync_report_moves, fetch_same, vector_ask_same}

-- another replica of the cluster
pub record IsPeer (f me sender : ℕ) : Type 0 where
  pub member : sender < replica_count f
  pub other : IsFalse (sender == me)

-- a log that a message brings, of a view, with so much of it committed
pub record FitsLog (me sender named : ℕ) (list : List Entry) (count : ℕ) : Type 0 where
  pub other : IsFalse (sender == me)
  pub view : named ≤ MAX_VIEW
  pub entries : IsCarried list
  pub commit : count ≤ length list

-- what is heard is in the ranges of frames
pub record HearsFit (f me : ℕ) (heard : Heard) : Type 0 where
  pub brought : (e : Entry) → Brings heard e → FitsEntry e
  pub proxy : (proxy : ℕ) (b : TimedBody) → heard ≡ Some (Proxy proxy, messages.Timed b) → proxy ≤ 7
  pub keys : (sender : ℕ) (b : LogModBody) → heard ≡ Some (Replica sender, messages.LogMod b) → AllByRecursion fields.key.fits b.keys
  pub vector : (sender : ℕ) (m : Message) (v : List ℕ) → heard ≡ Some (Replica sender, m) → message_vector m ≡ Some v → AreCounters f v
  pub teller : (sender : ℕ) (b : VectorTellBody) → heard ≡ Some (Replica sender, messages.VectorTell b) → sender < replica_count f
  pub named : (view : ℕ) → Names heard view → view ≤ MAX_VIEW
  pub report : (sender : ℕ) (b : ViewChangeBody) → heard ≡ Some (Replica sender, messages.ViewChange b) → FitsReport f me (report_of sender b)
  pub log : (sender view : ℕ) (list : List Entry) (commit : ℕ) → BringsLog heard sender view list commit → FitsLog me sender view list commit
  pub told : (sender : ℕ) (b : RejoinTellBody) → heard ≡ Some (Replica sender, messages.RejoinTell b) → (sender < replica_count f) × (b.view ≤ MAX_VIEW)

-- the facts while keys are taken
pub record IsTaking (f me : ℕ) (s : ReplicaData) : Type 0 where
  pub clocks : AreClocks s.status s.clock s.quiet s.since
  pub mode : HasMode s.status s.view s.last
  pub entries : AreApart s.log s.early s.late
  pub commit : s.commit ≤ s.log.synced
  pub tables : AreTables f s.vector s.ack s.origin
  pub executed : AreExecuted f me s.status s.view s.log s.results s.ack
  pub reports : AreReports f me s.reports
  pub rejoin : IsRejoin f s.rejoin

-- the facts in a phase
abbrev pub FactsIn : ℕ → ℕ → Interval → ReplicaData → Type 0
FactsIn f me Whole s = HasFacts f me s
FactsIn f me Taking s = IsTaking f me s

-- ---- while keys are taken

take_kept : (f me : ℕ) (s : ReplicaData) → HasFacts f me s → IsTaking f me s
take_kept f me s h = let apart = apart_held s.log s.early s.late h.entries in grind (arith, h, apart)

synced_apart : (f me : ℕ) (heard : Heard) → HearsFit f me heard → (s : ReplicaData) (e : Entry) → MaySync f me heard s e
    → AreApart s.log s.early s.late → AreApart (synced_with s e).log (synced_with s e).early (synced_with s e).late
synced_apart f me heard fit s e m h =
    let may = may_sync_true s.log e.key m.may in
    let keys = fit.keys m.heard_mod.sender m.heard_mod.body m.heard_mod.is in
    let key = subst (λ o. IfSome o fields.key.fits) m.key (all_get fields.key.fits m.heard_mod.body.keys (s.log.synced - m.heard_mod.body.start) keys) in
    let command = (found_fits s.log s.early s.late (id_of e.key) m.old h m.found).command in
    apart_synced s.log s.early s.late e h (record { key = key; command = subst fields.command.fits (sym m.same) command }) may.above may.fresh may.room

sync_kept : (f me : ℕ) (heard : Heard) → HearsFit f me heard → (s : ReplicaData) (e : Entry) → MaySync f me heard s e → IsTaking f me s
    → IsTaking f me (synced_with s e)
sync_kept f me heard fit s e m h =
    let apart = synced_apart f me heard fit s e m h.entries in
    let leader = m.heard_mod.leader in
    let up = normal_up s.status leader.normal in
    grind (arith, h, apart, leader, up)

overtake_kept : (f me : ℕ) (s : ReplicaData) → IsTaking f me s → HasFacts f me (overtaken_to_late s)
overtake_kept f me s h = let held = arranged_overtaken s.log s.early s.late h.entries in grind (arith, h, held)

-- ---- each move

origin_kept : (f me : ℕ) (heard : Heard) → HearsFit f me heard → (s : ReplicaData) (proxy : ℕ) (b : TimedBody)
    → heard ≡ Some (Proxy proxy, messages.Timed b) → HasFacts f me s → HasFacts f me (with_origin s proxy b)
origin_kept f me heard fit s proxy b is h = origin_keeps f me s b.id (origin_of s proxy b) h (record { proxy = fit.proxy proxy b is; delay = omega arith })

start_kept : (f me : ℕ) (heard : Heard) → HearsFit f me heard → (s : ReplicaData) (view : ℕ) (list : List Entry) (commit : ℕ)
    → MayStart f heard s view list commit → HasFacts f me s → HasFacts f me (normal_in s view list commit)
start_kept f me heard fit s view list commit m h =
    let k = fit.log m.sender view list commit m.brought in
    start_keeps f me s view list commit h k.view (ap (λ n. eqb n me) (sym m.leader) ∙ k.other) k.entries k.commit

entered_low : (f me : ℕ) (heard : Heard) → HearsFit f me heard → (s : ReplicaData) (view : ℕ) → MayEnter heard s view → view ≤ MAX_VIEW
entered_low f me heard fit s view m = elim m.named [
  | inl next ↦ let is = next.0 in let low = next.1 in omega (arith, is, low)
  | inr named ↦ fit.named view named
]

pub facts_kept : (f me : ℕ) (heard : Heard) → HearsFit f me heard → (s t : ReplicaData) (p q : Interval) → Move f me heard s p q t → FactsIn f me p s
    → FactsIn f me q t
facts_kept f me heard fit s _ _ _ (Count clock quiet since keeps) h = clocks_keep f me s clock quiet since h (keeps h.clocks)
facts_kept f me heard fit s _ _ _ (NoteOrigin proxy b is) h = origin_kept f me heard fit s proxy b is h
facts_kept f me heard fit s _ _ _ (ToEarly e m above) h = early_keeps f me s e h (fit.brought e m.brought) above m.logged m.held
facts_kept f me heard fit s _ _ _ (ToLate e m none) h =
    waiting_keeps f me s s.early (s.late ++ e ∷ []) h
    (arranged_late s.log.entries s.early s.late e h.entries.arranged (fit.brought e m.brought) m.logged m.held none)
facts_kept f me heard fit s _ _ _ (Release e es m) h = released_keeps f me s e es h m.normal m.first (has_place_left s e m.may)
facts_kept f me heard fit s _ _ _ (Merge r m v new) h = vector_keeps f me s v h (fit.vector r m v new.is new.carries)
facts_kept f me heard fit s _ _ _ (Take heard_mod) h = take_kept f me s h
facts_kept f me heard fit s _ _ _ (Sync e m) h = sync_kept f me heard fit s e m h
facts_kept f me heard fit s _ _ _ (Overtake heard_mod) h = overtake_kept f me s h
facts_kept f me heard fit s _ _ _ (Commit heard_mod) h = let so_far = h.commit in
    commit_keeps f me s (max s.commit (min heard_mod.body.commit s.log.synced)) h (omega (arith, so_far))
facts_kept f me heard fit s _ _ _ (NoteAck sender count m) h = let low = m.low in let same = m.same in
    ack_keeps f me s sender count h (omega (arith, low, same))
facts_kept f me heard fit s _ _ _ (Tally named m) h = commit_keeps f me s (with_commit f me s).commit h (tallied_low f me named s m h)
facts_kept f me heard fit s _ _ _ (Enter view m) h =
    enter_keeps f me s view h (let later = m.later in omega (arith, later)) (entered_low f me heard fit s view m)
facts_kept f me heard fit s _ _ _ Drop h = strays_keep f me s h
facts_kept f me heard fit s _ _ _ (Collect sender b m) h = collect_keeps f me s sender b h (fit.report sender b m.is)
facts_kept f me heard fit s _ _ _ (Begin m) h =
    begin_keeps f me s (merged f (with_own_report me s)) (greatest (map (λ c. c.commit) (with_own_report me s))) h (merged_carried f me s h m.few)
facts_kept f me heard fit s _ _ _ (Start view list commit m) h = start_kept f me heard fit s view list commit m h
facts_kept f me heard fit s _ _ _ (NoteTeller sender vector m) h =
    let counters = fit.vector sender (messages.VectorTell m.body) m.body.vector m.is refl in
    teller_keeps f me s sender vector h (fit.teller sender m.body m.is) (subst (AreCounters f) (sym m.same) counters)
facts_kept f me heard fit s _ _ _ (TakeCounter below rejoins) h = counter_keeps f me s h below
facts_kept f me heard fit s _ _ _ (AskViews rejoins) h = ask_views_keeps f me s h
facts_kept f me heard fit s _ _ _ (NoteTell sender b m) h =
    tell_keeps f me s sender b h (fit.told sender b m.is).0 (fit.told sender b m.is).1 (fit.vector sender (messages.RejoinTell b) b.vector m.is refl)
facts_kept f me heard fit s _ _ _ (Forget rejoins) h = forget_keeps f me s h
facts_kept f me heard fit s _ _ _ (AskLog rejoins) h = ask_log_keeps f me s (latest_view s) h (latest_low f me s h)

-- ---- what is heard fits

-- the vector of a message that fits
vector_part : (m : Message) → Fits m → IfSome (message_vector m) vector.fits
vector_part (messages.FastReply b) fits = fits.1.1.1.0
vector_part (messages.LogMod b) fits = fits.1.0
vector_part (messages.ViewChange b) fits = fits.1.1.0
vector_part (messages.StartView b) fits = fits.1.0
vector_part (messages.VectorTell b) fits = fits.1
vector_part (messages.RejoinAsk b) fits = fits.1
vector_part (messages.RejoinTell b) fits = fits.1.1
vector_part (messages.StateAsk b) fits = fits.1.1
vector_part (messages.StateTell b) fits = fits.1.1.0
vector_part _ fits = tt

-- what each kind of message asks of its sender
abbrev pub IsSender : ℕ → ℕ → Actor → Message → Type 0
IsSender f me (Proxy p) m = p ≤ 7
IsSender f me (Replica r) (messages.ViewChange b) = IsPeer f me r
IsSender f me (Replica r) (messages.StartView b) = IsFalse (r == me)
IsSender f me (Replica r) (messages.StateTell b) = IsFalse (r == me)
IsSender f me (Replica r) (messages.VectorTell b) = r < replica_count f
IsSender f me (Replica r) (messages.RejoinTell b) = r < replica_count f
IsSender f me _ m = Unit {0}

is_peer : (f me r : ℕ) (m : Message) → Hears f (Replica me) (Replica r) m → IsPeer f me r
is_peer f me r m hears = record {
  member = ltb-true r (replica_count f) (and_parts (is_in_cluster f (Replica r)) (is_sized f (message_vector m)) hears.counts).0;
  other = not-true (eqb r me) hears.other;
}

pub is_sender : (f me : ℕ) (from : Actor) (m : Message) → HasAddress from → Hears f (Replica me) from m → IsSender f me from m
is_sender f me (Proxy p) m h hears = h
is_sender f me (Replica r) (messages.ViewChange b) h hears = is_peer f me r (messages.ViewChange b) hears
is_sender f me (Replica r) (messages.StartView b) h hears = (is_peer f me r (messages.StartView b) hears).other
is_sender f me (Replica r) (messages.StateTell b) h hears = (is_peer f me r (messages.StateTell b) hears).other
is_sender f me (Replica r) (messages.VectorTell b) h hears = (is_peer f me r (messages.VectorTell b) hears).member
is_sender f me (Replica r) (messages.RejoinTell b) h hears = (is_peer f me r (messages.RejoinTell b) hears).member
is_sender f me _ _ h hears = tt

abbrev pub IsFit : ℕ → ℕ → Heard → Type 0
IsFit f me None = Unit {0}
IsFit f me (Some (from, m)) = IsSender f me from m × Fits m × (is_sized f (message_vector m) ≡ true)

brought_fit : (f me : ℕ) (from : Actor) (m : Message) → Fits m → (e : Entry) → Brings (Some (from, m)) e → FitsEntry e
brought_fit f me (Proxy p) (messages.Timed b) fits e own =
    subst FitsEntry (sym own.is) (elim own.low [
      | inl same ↦ subst
          (λ (n : ℕ). FitsEntry (Rattle.nz_machine.specs.rules.Requests.entry_at n b)) (sym same)
          (record { key = (fits.1.0, fits.1.1.0); command = fits.1.1.1 })
      | inr low ↦ entry_fits own.deadline b fits low
    ])
brought_fit f me (Replica r) (messages.FetchReply b) fits e has = all_has FitsEntry b.entries e (entries_fit b fits) has
brought_fit f me (Replica r) (messages.ViewChange b) fits e has =
    all_has FitsEntry b.entries e (carried_of_fit (max b.synced b.commit) b.entries fits.1.1.1.1).fit has
brought_fit f me (Replica r) (messages.StartView b) fits e has = all_has FitsEntry b.entries e (carried_of_fit b.commit b.entries fits.1.1.1).fit has
brought_fit f me (Replica r) (messages.StateTell b) fits e has = all_has FitsEntry b.entries e (carried_of_fit b.commit b.entries fits.1.1.1.1).fit has
brought_fit f me _ _ fits e none = absurd none

view_low : (n : ℕ) → fields.view.fits n → n ≤ MAX_VIEW
view_low n fits = within_most 8 0 MAX_VIEW n fits

named_low : (from : Actor) (m : Message) → Fits m → (view : ℕ) → Names (Some (from, m)) view → view ≤ MAX_VIEW
named_low (Replica r) (messages.LogMod b) fits view is = let low = view_low b.view fits.0 in omega (arith, low, is)
named_low (Replica r) (messages.ViewAsk b) fits view is = let low = view_low b.view fits in omega (arith, low, is)
named_low (Replica r) (messages.ViewChange b) fits view is = let low = view_low b.view fits.0 in omega (arith, low, is)
named_low (Replica r) (messages.StartView b) fits view is = let low = view_low b.view fits.0 in omega (arith, low, is)
named_low (Replica r) (messages.StateTell b) fits view is = let low = view_low b.view fits.1.0 in omega (arith, low, is)
named_low _ _ fits view none = absurd none

-- a report that comes in a frame, of another replica
pub report_fits : (f me sender : ℕ) (b : ViewChangeBody) → sender < replica_count f → IsFalse (sender == me) → view_change.fits b
    → AreCounters f b.vector → FitsReport f me (report_of sender b)
report_fits f me sender b member other fits counters =
    let most = at_least_of_fit (max b.synced b.commit) MAX_ENTRIES b.entries fits.1.1.1.1 in
    record {
      member = member;
      other = other;
      vector = counters;
      last = view_low b.last fits.1.0;
      entries = carried_of_fit (max b.synced b.commit) b.entries fits.1.1.1.1;
      synced = omega (arith, most);
      commit = omega (arith, most);
    }

log_fits : (f me : ℕ) (from : Actor) (m : Message) → IsFit f me (Some (from, m)) → (sender view : ℕ) (list : List Entry) (commit : ℕ)
    → BringsLog (Some (from, m)) sender view list commit → FitsLog me sender view list commit
log_fits f me (Replica r) (messages.StartView b) fit sender view list commit b4 =
    let low = view_low b.view fit.1.0 in
    let is = b4.1 in
    record {
      other = subst (λ n. IsFalse (n == me)) (sym b4.0) fit.0;
      view = omega (arith, low, is);
      entries = subst IsCarried (sym b4.2) (carried_of_fit b.commit b.entries fit.1.1.1.1);
      commit = subst (λ (es : List Entry). commit ≤ length es) (sym b4.2) b4.3;
    }
log_fits f me (Replica r) (messages.StateTell b) fit sender view list commit b4 =
    let low = view_low b.view fit.1.1.0 in
    let is = b4.1 in
    let most = at_least_of_fit b.commit MAX_ENTRIES b.entries fit.1.1.1.1.1 in
    let own = b4.3 in
    record {
      other = subst (λ n. IsFalse (n == me)) (sym b4.0) fit.0;
      view = omega (arith, low, is);
      entries = subst IsCarried (sym b4.2) (carried_of_fit b.commit b.entries fit.1.1.1.1.1);
      commit = subst (λ (es : List Entry). commit ≤ length es) (sym b4.2) (omega (arith, most, own));
    }
log_fits f me _ _ fit sender view list commit none = absurd none

counters_of : (f me : ℕ) (from : Actor) (m : Message) → IsFit f me (Some (from, m)) → (v : List ℕ) → message_vector m ≡ Some v → AreCounters f v
counters_of f me from m fit v carries =
    vector_counts f v (subst (λ o. IfSome o vector.fits) carries (vector_part m fit.1)) (subst (λ o. is_sized f o ≡ true) carries fit.2)

hears_fit : (f me : ℕ) (from : Actor) (m : Message) → IsFit f me (Some (from, m)) → HearsFit f me (Some (from, m))
hears_fit f me from m fit = record {
  brought = λ e b. brought_fit f me from m fit.1 e b;
  proxy = λ p b is. (subst (IsFit f me) is fit).0;
  keys = λ r b is. keys_fit b (subst (IsFit f me) is fit).1;
  vector = λ r n v is carries. counters_of f me (Replica r) n (subst (IsFit f me) is fit) v carries;
  teller = λ r b is. (subst (IsFit f me) is fit).0;
  named = λ view is. named_low from m fit.1 view is;
  report = λ r b is. let own = subst (IsFit f me) is fit in
      report_fits f me r b own.0.member own.0.other own.1 (counters_of f me (Replica r) (messages.ViewChange b) own b.vector refl);
  log = λ sender view list commit is. log_fits f me from m fit sender view list commit is;
  told = λ r b is. let own = subst (IsFit f me) is fit in (own.0, view_low b.view own.1.1.0);
}

nothing_fits : (f me : ℕ) → HearsFit f me None
nothing_fits f me = record {
  brought = λ e b. absurd b;
  proxy = λ p b is. absurd cc;
  keys = λ r b is. absurd cc;
  vector = λ r m v is. absurd cc;
  teller = λ r b is. absurd cc;
  named = λ view is. absurd is;
  report = λ r b is. absurd cc;
  log = λ sender view list commit is. absurd is;
  told = λ r b is. absurd cc;
}

-- ---- the rules

-- the facts are kept by each move
pub closed : (f me : ℕ) (heard : Heard) → HearsFit f me heard → Closed f me heard (FactsIn f me)
closed f me heard fit = record { kept = facts_kept f me heard fit }

pub message_keeps : (f me : ℕ) (s : ReplicaData) (from : Actor) (m : Message) → IsFit f me (Some (from, m)) → HasFacts f me s
    → HasFacts f me (replica_message f me s from m).0
message_keeps f me s from m fit h = message_moves (FactsIn f me) f me s from m (closed f me (Some (from, m)) (hears_fit f me from m fit)) h

pub release_keeps : (f me : ℕ) (s : ReplicaData) (clock : ℕ) → HasFacts f me s → HasFacts f me (release_rule f me s clock).0
release_keeps f me s clock h = release_moves (FactsIn f me) f me None (closed f me None (nothing_fits f me)) s clock h

pub tick_keeps : (f me : ℕ) (s : ReplicaData) (clock : ℕ) → HasFacts f me s → HasFacts f me (tick_rule f me s clock).0
tick_keeps f me s clock h = tick_moves (FactsIn f me) f me None (closed f me None (nothing_fits f me)) s clock h

pub alarm_keeps : (f me : ℕ) (s : ReplicaData) → HasFacts f me s → HasFacts f me (alarm_rule f me s).0
alarm_keeps f me s h = alarm_moves (FactsIn f me) f me None (closed f me None (nothing_fits f me)) s h

pub crash_keeps : (f me : ℕ) (s : ReplicaData) → HasFacts f me (crash_rule f s).0
unfolding crash_rule
crash_keeps f me s = crashed_has_facts f me

pub restart_keeps : (f me : ℕ) (s : ReplicaData) (nonce : ℕ) → nonce < 2 ^ 64 → HasFacts f me s → HasFacts f me (restart_rule f me s nonce).0
unfolding restart_rule
restart_keeps f me s nonce low h =
    cond_both (is_down s.status) _ (s, []) (λ (t : ReplicaData × List Out). HasFacts f me t.0) (λ _. restarted_has_facts f me nonce low) (λ _. h)

-- ---- each rule alone

pub request_keeps : (f me : ℕ) (s : ReplicaData) (proxy : ℕ) (b : TimedBody) → HasFacts f me s → proxy ≤ 7 → timed.fits b
    → HasFacts f me (request_rule f me s proxy b).0
request_keeps f me s proxy b h known fits = message_keeps f me s (Proxy proxy) (messages.Timed b) (known, fits, refl) h

pub log_mod_keeps : (f me : ℕ) (s : ReplicaData) (sender : ℕ) (b : LogModBody) → HasFacts f me s → log_mod.fits b → length b.vector ≡ replica_count f
    → HasFacts f me (log_mod_rule f me s sender b).0
log_mod_keeps f me s sender b h fits long =
    message_keeps f me s (Replica sender) (messages.LogMod b) (tt, fits, eq-eqb (length b.vector) (replica_count f) long) h

pub fetch_keeps : (f me : ℕ) (s : ReplicaData) (sender : ℕ) (b : FetchBody) → HasFacts f me s → HasFacts f me (fetch_rule f me s sender b).0
fetch_keeps f me s sender b h = subst (HasFacts f me) (sym (fetch_same f me s sender b)) h

pub fetch_reply_keeps : (f me : ℕ) (s : ReplicaData) (sender : ℕ) (b : FetchReplyBody) → HasFacts f me s → fetch_reply.fits b
    → HasFacts f me (fetch_reply_rule f me s sender b).0
fetch_reply_keeps f me s sender b h fits = message_keeps f me s (Replica sender) (messages.FetchReply b) (tt, fits, refl) h

-- a report of a sync point brings nothing that is kept
abbrev IsReport : Heard → Type 0
IsReport (Some (Replica r, messages.SyncReport b)) = Unit {0}
IsReport _ = ⊥

no_vector : (r : ℕ) (m : Message) (v : List ℕ) → IsReport (Some (Replica r, m)) → message_vector m ≡ Some v → ⊥
no_vector r (messages.SyncReport b) v own carries = grind arith
no_vector r _ v none carries = none

nothing_brought : (f me sender : ℕ) (b : SyncReportBody) → HearsFit f me (Some (Replica sender, messages.SyncReport b))
nothing_brought f me sender b = record {
  brought = λ e none. absurd none;
  proxy = λ p other is. absurd (subst IsReport is tt);
  keys = λ r other is. absurd (subst IsReport is tt);
  vector = λ r m v is carries. absurd (no_vector r m v (subst IsReport is tt) carries);
  teller = λ r other is. absurd (subst IsReport is tt);
  named = λ view none. absurd none;
  report = λ r other is. absurd (subst IsReport is tt);
  log = λ r view list commit none. absurd none;
  told = λ r other is. absurd (subst IsReport is tt);
}

pub sync_report_keeps : (f me : ℕ) (s : ReplicaData) (sender : ℕ) (b : SyncReportBody) → HasFacts f me s → HasFacts f me (sync_report_rule f me s sender b).0
sync_report_keeps f me s sender b h =
    sync_report_moves (FactsIn f me) f me sender b (closed f me (Some (Replica sender, messages.SyncReport b)) (nothing_brought f me sender b)) s h

pub view_ask_keeps : (f me : ℕ) (s : ReplicaData) (b : ViewAskBody) → HasFacts f me s → view_ask.fits b → HasFacts f me (view_ask_rule f me s b).0
view_ask_keeps f me s b h fits = message_keeps f me s (Replica 0) (messages.ViewAsk b) (tt, fits, refl) h

module _ (f me : ℕ) (s : ReplicaData) (sender : ℕ) (h : HasFacts f me s) where
  pub view_change_keeps : (b : ViewChangeBody) → sender < replica_count f → IsFalse (sender == me) → view_change.fits b
      → length b.vector ≡ replica_count f → HasFacts f me (view_change_rule f me s sender b).0
  view_change_keeps b member other fits long =
      message_keeps f me s (Replica sender) (messages.ViewChange b)
      (record { member = member; other = other }, fits, eq-eqb (length b.vector) (replica_count f) long) h

  pub start_view_keeps : (b : StartViewBody) → IsFalse (sender == me) → start_view.fits b → length b.vector ≡ replica_count f
      → HasFacts f me (start_view_rule f me s sender b).0
  start_view_keeps b other fits long =
      message_keeps f me s (Replica sender) (messages.StartView b) (other, fits, eq-eqb (length b.vector) (replica_count f) long) h

  pub vector_ask_keeps : (b : VectorAskBody) → HasFacts f me (vector_ask_rule s sender b).0
  vector_ask_keeps b = subst (HasFacts f me) (sym (vector_ask_same s sender b)) h

  pub vector_tell_keeps : (b : VectorTellBody) → sender < replica_count f → vector_tell.fits b → length b.vector ≡ replica_count f
      → HasFacts f me (vector_tell_rule f me s sender b).0
  vector_tell_keeps b member fits long =
      message_keeps f me s (Replica sender) (messages.VectorTell b) (member, fits, eq-eqb (length b.vector) (replica_count f) long) h

  pub rejoin_ask_keeps : (b : RejoinAskBody) → rejoin_ask.fits b → length b.vector ≡ replica_count f → HasFacts f me (rejoin_ask_rule me s sender b).0
  rejoin_ask_keeps b fits long = message_keeps f me s (Replica sender) (messages.RejoinAsk b) (tt, fits, eq-eqb (length b.vector) (replica_count f) long) h

  pub rejoin_tell_keeps : (b : RejoinTellBody) → sender < replica_count f → rejoin_tell.fits b → length b.vector ≡ replica_count f
      → HasFacts f me (rejoin_tell_rule f me s sender b).0
  rejoin_tell_keeps b member fits long =
      message_keeps f me s (Replica sender) (messages.RejoinTell b) (member, fits, eq-eqb (length b.vector) (replica_count f) long) h

  pub state_ask_keeps : (b : StateAskBody) → state_ask.fits b → length b.vector ≡ replica_count f → HasFacts f me (state_ask_rule f me s sender b).0
  state_ask_keeps b fits long = message_keeps f me s (Replica sender) (messages.StateAsk b) (tt, fits, eq-eqb (length b.vector) (replica_count f) long) h

  pub state_tell_keeps : (b : StateTellBody) → IsFalse (sender == me) → state_tell.fits b → length b.vector ≡ replica_count f
      → HasFacts f me (state_tell_rule f me s sender b).0
  state_tell_keeps b other fits long =
      message_keeps f me s (Replica sender) (messages.StateTell b) (other, fits, eq-eqb (length b.vector) (replica_count f) long) h
