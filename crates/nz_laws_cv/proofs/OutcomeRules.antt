-- Each rule of a replica ends in one of the outcomes.
use Rattle.std.proofs.Common.{◌≡◌, cond, ℕ, ◌+◌, ◌≤◌, ◌<◌, Bool, ◌&&◌, eqb, true, false, List, [], ◌∷◌, length}
use Rattle.std.proofs.Common.{Option, Some, None, refl, sym, ap, subst, ◌∙◌, inl, inr, ◌⊎◌, arith, eqb-true}
use Rattle.std.proofs.lemmas.Bool.{and_parts, cond_both, leb-true}
use Rattle.std.specs.Prelude.{nat_lt, nat_le, min, drop, ◌-◌}
use Rattle.std.proofs.lemmas.Bool.Decides.{nat_tests}
use Rattle.nz_base.specs.Cluster.{leader_of, slow_size}
use Rattle.nz_base.specs.declared.actor.Actor.{Actor}
use Rattle.nz_base.specs.declared.actor.Actor.TheVariants.{Replica, Proxy}
use Rattle.nz_base.specs.declared.key.Entry.{Entry}
use Rattle.nz_base.specs.declared.limits.TheConstants.{MAX_ENTRIES, VIEW_TIMEOUT_TICKS}
use Rattle.nz_cv.specs.Vectors.{is_stray}
use Rattle.nz_merge.specs.Merged.{merged}
use Rattle.nz_msg.specs.declared.envelope.Envelope.{Envelope}
use Rattle.nz_msg.specs.declared.message.TimedBody.{TimedBody}
use Rattle.nz_msg.specs.declared.message.LogModBody.{LogModBody}
use Rattle.nz_msg.specs.declared.message.FetchBody.{FetchBody}
use Rattle.nz_msg.specs.declared.message.FetchReplyBody.{FetchReplyBody}
use Rattle.nz_msg.specs.declared.message.SyncReportBody.{SyncReportBody}
use Rattle.nz_msg.specs.declared.message.ViewAskBody.{ViewAskBody}
use Rattle.nz_msg.specs.declared.message.ViewChangeBody.{ViewChangeBody}
use Rattle.nz_msg.specs.declared.message.StartViewBody.{StartViewBody}
use Rattle.nz_msg.specs.declared.message.VectorAskBody.{VectorAskBody}
use Rattle.nz_msg.specs.declared.message.VectorTellBody.{VectorTellBody}
use Rattle.nz_msg.specs.declared.message.RejoinAskBody.{RejoinAskBody}
use Rattle.nz_msg.specs.declared.message.RejoinTellBody.{RejoinTellBody}
use Rattle.nz_msg.specs.declared.message.StateAskBody.{StateAskBody}
use Rattle.nz_msg.specs.declared.message.StateTellBody.{StateTellBody}
use Rattle.nz_msg.specs.declared.message.Message.{Message}
use Rattle.nz_msg.specs.declared.message.Message.TheVariants as messages
use Rattle.nz_machine.specs.declared.event.Event.{Event}
use Rattle.nz_machine.specs.declared.event.Event.TheVariants.{Deliver, Cut, Tick, Alarm, Crash, Restart}
use Rattle.nz_machine.specs.declared.data.Status.{Status}
use Rattle.nz_machine.specs.declared.data.Status.TheVariants.{Normal, ViewChange, Rejoining, Down}
use Rattle.nz_machine.specs.declared.data.Phase.{Phase}
use Rattle.nz_machine.specs.declared.data.Phase.TheVariants as phases
use Rattle.nz_machine.specs.declared.data.CollectedReport.{CollectedReport}
use Rattle.nz_machine.specs.rules.State.{ReplicaData, Out, Group}
use Rattle.nz_machine.specs.runs.Hearing.{Heard, heard_as, heard_at}
use Rattle.nz_machine.specs.rules.Replicas.{is_normal, is_changing, is_up, is_rejoining, is_down, leads, leads_view, hears_leader}
use Rattle.nz_machine.specs.rules.Requests.{request_rule}
use Rattle.nz_machine.specs.rules.Releases.{release_rule}
use Rattle.nz_machine.specs.rules.LogMods.{committed_to, after_hearing, hears_later_leader, sync_keys, after_log_mod, log_mod_rule, fetch_rule}
use Rattle.nz_machine.specs.rules.LogMods.{with_late_entries, with_late_entry, fetch_reply_rule, sync_report_rule}
use Rattle.nz_machine.specs.rules.Vectors.{with_vector, unless_stray}
use Rattle.nz_machine.specs.rules.Views.{in_view_change, enter_view, alarm_rule, view_ask_rule, quiet_timer, change_timer}
use Rattle.nz_machine.specs.rules.Adopting.{normal_in, after_start, start_view_rule}
use Rattle.nz_machine.specs.rules.Begins.{with_own_report, with_report, without_strays, collect, begin, view_change_rule}
use Rattle.nz_machine.specs.rules.Rejoining.{crash_rule, restart_rule, restarted_replica, with_teller, ask_views, with_new_counter, with_tells}
use Rattle.nz_machine.specs.rules.Rejoining.{ask_log, ask_again, with_tell, latest_view, vector_ask_rule, vector_tell_rule, rejoin_ask_rule}
use Rattle.nz_machine.specs.rules.Rejoining.{rejoin_tell_rule, state_ask_rule, state_tell_rule, rejoin_timer, is_phase}
use Rattle.nz_machine.specs.rules.Step.{replica_message, tick_rule, mode_timer, accepted_envelope, envelope_step, event_step}
use Rattle.nz_machine.proofs.runs.Runs.{unless_down}
use Rattle.nz_machine.proofs.facts.Guards.{normal_up, HearsLeader, hears_leader_parts, hears_later_parts, IsFresh, MayLead, HearsStart, Awaits}
use Rattle.nz_laws_cv.proofs.Outcomes.{law_state, beginning, Appends, Same, More, Base, Anew, Going, Outcome, Stays, Release, Merge, Sync}
use Rattle.nz_laws_cv.proofs.Outcomes.{Tally, Enter, Follow, Answer, Collect, Begin, Start, Fall}
use Rattle.nz_laws_cv.proofs.Outcomes.{Wake, HearVector, Count, HearView, Forget, AskLog, Return, Back}
use Rattle.nz_laws_cv.proofs.Appending.{IsRelease, release_is, no_release}
use Rattle.nz_laws_cv.proofs.TakenKeys.{sync_state, modifies}

-- ---- rules that touch none of it

pub request_state : (f me : ℕ) (s : ReplicaData) (proxy : ℕ) (b : TimedBody) → law_state (request_rule f me s proxy b).0 ≡ law_state s
unfolding request_rule
request_state f me s proxy b = grind arith

pub fetch_state : (f me : ℕ) (s : ReplicaData) (sender : ℕ) (b : FetchBody) → law_state (fetch_rule f me s sender b).0 ≡ law_state s
unfolding fetch_rule
fetch_state f me s sender b = grind arith

kept_late_state : (s : ReplicaData) (e : Entry) → law_state (with_late_entry s e) ≡ law_state s
kept_late_state s e = grind arith

kept_state : (s : ReplicaData) (es : List Entry) → law_state (with_late_entries s es) ≡ law_state s
unfolding with_late_entries
kept_state s [] = refl
kept_state s (e ∷ es) = kept_state (with_late_entry s e) es ∙ kept_late_state s e

pub fetch_reply_state : (f me : ℕ) (s : ReplicaData) (sender : ℕ) (b : FetchReplyBody) → law_state (fetch_reply_rule f me s sender b).0 ≡ law_state s
unfolding fetch_reply_rule
fetch_reply_state f me s sender b = grind (arith, kept_state)

pub vector_ask_state : (s : ReplicaData) (sender : ℕ) (b : VectorAskBody) → law_state (vector_ask_rule s sender b).0 ≡ law_state s
unfolding vector_ask_rule
vector_ask_state s sender b = grind arith

-- ---- modes

pub up_kinds : (a : Status) → is_up a ≡ true → (is_normal a ≡ true) ⊎ (is_changing a ≡ true)
up_kinds Normal up = inl refl
up_kinds ViewChange up = inr refl
up_kinds Rejoining up = absurd cc
up_kinds Down up = absurd cc

pub changing_up : (a : Status) → is_changing a ≡ true → is_up a ≡ true
changing_up Normal h = absurd cc
changing_up ViewChange h = refl
changing_up Rejoining h = absurd cc
changing_up Down h = absurd cc

pub changing_is : (a : Status) → is_changing a ≡ true → a ≡ ViewChange
changing_is Normal h = absurd cc
changing_is ViewChange h = refl
changing_is Rejoining h = absurd cc
changing_is Down h = absurd cc

-- ---- rules that touch it

same_changing : (me : ℕ) (s : ReplicaData) (u : List ℕ) (view : ℕ) → s.view ≡ view → is_changing s.status ≡ true
    → law_state (without_strays (with_vector me s u))
    ≡ law_state (record (in_view_change (with_vector me s u) view) { reports = (without_strays (with_vector me s u)).reports })
same_changing me s u view same changing =
    let is = changing_is s.status changing in
    λ i. law_state (record (without_strays (with_vector me s u)) { status = is i; view = same i })

same_outcome : (f me : ℕ) (e : Event) (heard : Heard) (s t : ReplicaData) → t ≡ s → Outcome f me e heard s t
same_outcome f me e heard s t is = subst (λ (u : ReplicaData). Outcome f me e heard s u) (sym is) Stays

module _ (f me : ℕ) (e : Event) where
  abbrev Ends : Heard → ReplicaData → ReplicaData → Type 0
  Ends heard s t = Outcome f me e heard (law_state s) (law_state t)

  -- a log modification of the own view
  own_outcome : (s : ReplicaData) (sender : ℕ) (b : LogModBody) → is_stray b.vector sender s.vector ≡ false → HearsLeader f me s.status s.view sender b.view
      → Ends (Some (Replica sender, messages.LogMod b)) s (after_log_mod sender b (after_hearing (with_vector me s b.vector))).0
  own_outcome s sender b new hears =
      let heard : Heard = Some (Replica sender, messages.LogMod b) in
      let is : IsFresh heard (law_state s) sender (messages.LogMod b) b.vector = record { is = refl; carries = refl; new = new } in
      let t = after_hearing (with_vector me s b.vector) in
      let u = (sync_keys t (drop (t.log.synced - b.start) b.keys)).0 in
      cond_both (nat_lt s.log.synced b.start) _ _ (λ (x : ReplicaData × List Out). Ends heard s x.0)
      (λ _. Merge sender (messages.LogMod b) b.vector is hears.normal)
      (λ within.
      subst (λ (x : ReplicaData). Outcome f me e heard (law_state s) (law_state (committed_to x b.commit)))
      (sym (sync_state t (drop (t.log.synced - b.start) b.keys)))
      (Sync sender b is hears (grind (arith, nat_tests, within)) u.log (modifies t b (grind (arith, nat_tests, within)))))

  pub log_mod_outcome : (s : ReplicaData) (sender : ℕ) (b : LogModBody) → Ends (Some (Replica sender, messages.LogMod b)) s (log_mod_rule f me s sender b).0
  unfolding log_mod_rule enter_view
  log_mod_outcome s sender b =
      let heard : Heard = Some (Replica sender, messages.LogMod b) in
      cond_both (hears_later_leader f s b.view sender)
      (unless_stray me s sender b.vector (enter_view f me b.view))
      (cond (hears_leader f me s b.view sender)
      (unless_stray me s sender b.vector (λ (t : ReplicaData). after_log_mod sender b (after_hearing t))) (s, []))
      (λ (x : ReplicaData × List Out). Ends heard s x.0)
      (λ later.
      let parts = hears_later_parts f s b.view sender later in
      cond_both (is_stray b.vector sender s.vector)
      (s, []) (enter_view f me b.view (with_vector me s b.vector)) (λ (x : ReplicaData × List Out). Ends heard s x.0) (λ _. Stays)
      (λ new. Follow sender (messages.LogMod b) b.vector (record { is = refl; carries = refl; new = new }) b.view parts.up parts.later))
      (λ _.
      cond_both (hears_leader f me s b.view sender)
      (unless_stray me s sender b.vector (λ (t : ReplicaData). after_log_mod sender b (after_hearing t))) (s, [])
      (λ (x : ReplicaData × List Out). Ends heard s x.0)
      (λ hears.
      cond_both (is_stray b.vector sender s.vector)
      (s, []) (after_log_mod sender b (after_hearing (with_vector me s b.vector))) (λ (x : ReplicaData × List Out). Ends heard s x.0) (λ _. Stays)
      (λ new. own_outcome s sender b new (hears_leader_parts f me s b.view sender hears)))
      (λ _. Stays))

  pub sync_report_outcome : (s : ReplicaData) (sender : ℕ) (b : SyncReportBody)
      → Ends (Some (Replica sender, messages.SyncReport b)) s (sync_report_rule f me s sender b).0
  unfolding sync_report_rule
  sync_report_outcome s sender b =
      cond_both (leads_view f me s && (eqb b.view s.view && nat_le b.synced (length s.log.entries))) _ (s, [])
      (λ (x : ReplicaData × List Out). Ends (Some (Replica sender, messages.SyncReport b)) s x.0)
      (λ tested.
      let led = (and_parts (leads_view f me s) _ tested).0 in
      let fits = (and_parts (leads_view f me s) _ tested).1 in
      let view = eqb-true b.view s.view (and_parts (eqb b.view s.view) _ fits).0 in
      let few = leb-true b.synced (length s.log.entries) (and_parts (eqb b.view s.view) _ fits).1 in
      Tally sender b refl (and_parts (is_normal s.status) (leads f me s) led).0 (and_parts (is_normal s.status) (leads f me s) led).1 view few)
      (λ _. Stays)

  pub view_ask_outcome : (heard : Heard) (s : ReplicaData) (b : ViewAskBody) → Ends heard s (view_ask_rule f me s b).0
  unfolding view_ask_rule enter_view
  view_ask_outcome heard s b =
      let stay : Ends heard s s = Stays in
      let enter : is_up s.status ≡ true → s.view < b.view → Ends heard s (enter_view f me b.view s).0 = λ up later. Enter b.view up later s.log Same in
      grind (arith, nat_tests, stay, enter)

  pub alarm_outcome : (heard : Heard) (s : ReplicaData) → Ends heard s (alarm_rule f me s).0
  unfolding alarm_rule enter_view
  alarm_outcome heard s =
      let stay : Ends heard s s = Stays in
      let enter : is_up s.status ≡ true → Ends heard s (enter_view f me (s.view + 1) s).0 = λ up. Enter (s.view + 1) up (omega arith) s.log Same in
      grind (arith, nat_tests, stay, enter)

  pub start_view_outcome : (s : ReplicaData) (sender : ℕ) (b : StartViewBody)
      → Ends (Some (Replica sender, messages.StartView b)) s (start_view_rule f me s sender b).0
  unfolding start_view_rule
  start_view_outcome s sender b =
      let stay : Ends (Some (Replica sender, messages.StartView b)) s s = Stays in
      let start : is_stray b.vector sender s.vector ≡ false → HearsStart f (law_state s) sender b.view
      → Ends (Some (Replica sender, messages.StartView b)) s (after_start (with_vector me s b.vector) b)
      = λ new may. Start sender b (record { is = refl; carries = refl; new = new }) may in
      grind (arith, nat_tests, stay, start)

  -- the reports of a view that is entered or going on, with one more: it goes on, or begins
  begin_outcome : (s t : ReplicaData) (sender : ℕ) (b : ViewChangeBody) (base : List CollectedReport)
      → IsFresh (Some (Replica sender, messages.ViewChange b)) (law_state s) sender (messages.ViewChange b) b.vector
      → MayLead f me s.status s.view b.view → Base (with_vector me (law_state s) b.vector) b.view base
      → law_state t ≡ law_state (record (in_view_change (with_vector me s b.vector) b.view) { reports = base })
      → Ends (Some (Replica sender, messages.ViewChange b)) s (collect f me sender b t).0
  unfolding begin
  begin_outcome s t sender b base new may on is =
      let heard : Heard = Some (Replica sender, messages.ViewChange b) in
      let going : Ends heard s (with_report t sender b) =
      subst (λ (u : ReplicaData). Outcome f me e heard (law_state s) (law_state (with_report u sender b))) (sym is) (Collect sender b new may base on) in
      let begun : length (with_report t sender b).reports ≡ f → Ends heard s (beginning f me (with_report t sender b)) =
      subst (λ (u : ReplicaData). length (with_report u sender b).reports ≡ f
      → Outcome f me e heard (law_state s) (law_state (beginning f me (with_report u sender b))))
      (sym is) (λ full. Begin sender b new may base on full) in
      let merged_log = merged f (with_own_report me (with_report t sender b)) in
      cond_both (eqb (length (with_report t sender b).reports) f) (begin f me (with_report t sender b))
      (with_report t sender b, []) (λ (x : ReplicaData × List Out). Ends heard s x.0)
      (λ full. cond_both (nat_lt MAX_ENTRIES (length merged_log)) (with_report t sender b, []) _ (λ (x : ReplicaData × List Out). Ends heard s x.0)
      (λ _. going) (λ _. begun (eqb-true _ _ full)))
      (λ _. going)

  pub view_change_outcome : (s : ReplicaData) (sender : ℕ) (b : ViewChangeBody)
      → Ends (Some (Replica sender, messages.ViewChange b)) s (view_change_rule f me s sender b).0
  unfolding view_change_rule enter_view
  view_change_outcome s sender b =
      let stay : Ends (Some (Replica sender, messages.ViewChange b)) s s = Stays in
      let anew : is_stray b.vector sender s.vector ≡ false → MayLead f me s.status s.view b.view → s.view < b.view
      → Ends (Some (Replica sender, messages.ViewChange b)) s
      (collect f me sender b (enter_view f me b.view (without_strays (with_vector me s b.vector))).0).0
      = λ new may later. begin_outcome s (enter_view f me b.view (without_strays (with_vector me s b.vector))).0 sender b []
      (record { is = refl; carries = refl; new = new }) may (Anew later) refl in
      let going : is_stray b.vector sender s.vector ≡ false → MayLead f me s.status s.view b.view → s.view ≡ b.view → is_changing s.status ≡ true
      → Ends (Some (Replica sender, messages.ViewChange b)) s (collect f me sender b (without_strays (with_vector me s b.vector))).0
      =
      λ new may same changing. begin_outcome s (without_strays (with_vector me s b.vector)) sender b
      (without_strays (with_vector me s b.vector)).reports
      (record { is = refl; carries = refl; new = new }) may (Going same changing) (same_changing me s b.vector b.view same changing) in
      let answer : is_stray b.vector sender s.vector ≡ false → is_normal s.status ≡ true → s.view ≡ b.view
      → Ends (Some (Replica sender, messages.ViewChange b)) s (without_strays (with_vector me s b.vector))
      = λ new normal same. Answer sender b (record { is = refl; carries = refl; new = new }) normal same in
      grind (arith, nat_tests, stay, anew, going, answer, up_kinds)

  pub vector_tell_outcome : (s : ReplicaData) (sender : ℕ) (b : VectorTellBody)
      → Ends (Some (Replica sender, messages.VectorTell b)) s (vector_tell_rule f me s sender b).0
  unfolding vector_tell_rule
  vector_tell_outcome s sender b =
      let stay : Ends (Some (Replica sender, messages.VectorTell b)) s s = Stays in
      let hear : is_stray b.vector sender s.vector ≡ false → Awaits phases.Vectors (law_state s) b.nonce
      → Ends (Some (Replica sender, messages.VectorTell b)) s (with_teller me (with_vector me s b.vector) sender b.vector)
      = λ new ours. HearVector sender b (record { is = refl; carries = refl; new = new }) ours in
      let count : is_stray b.vector sender s.vector ≡ false → Awaits phases.Vectors (law_state s) b.nonce
      → slow_size f ≤ length (with_teller me s sender b.vector).rejoin.tellers
      → Ends (Some (Replica sender, messages.VectorTell b)) s
      (ask_views f me (with_new_counter me (with_teller me (with_vector me s b.vector) sender b.vector))).0
      = λ new ours enough. Count sender b (record { is = refl; carries = refl; new = new }) ours enough in
      grind (arith, nat_tests, stay, hear, count)

  pub rejoin_ask_outcome : (s : ReplicaData) (sender : ℕ) (b : RejoinAskBody)
      → Ends (Some (Replica sender, messages.RejoinAsk b)) s (rejoin_ask_rule me s sender b).0
  unfolding rejoin_ask_rule
  rejoin_ask_outcome s sender b =
      let stay : Ends (Some (Replica sender, messages.RejoinAsk b)) s s = Stays in
      let merge : is_stray b.vector sender s.vector ≡ false → is_normal s.status ≡ true
      → Ends (Some (Replica sender, messages.RejoinAsk b)) s (with_vector me s b.vector)
      = λ new normal. Merge sender (messages.RejoinAsk b) b.vector (record { is = refl; carries = refl; new = new }) normal in
      grind (arith, nat_tests, stay, merge)

  pub state_ask_outcome : (s : ReplicaData) (sender : ℕ) (b : StateAskBody)
      → Ends (Some (Replica sender, messages.StateAsk b)) s (state_ask_rule f me s sender b).0
  unfolding state_ask_rule
  state_ask_outcome s sender b =
      let stay : Ends (Some (Replica sender, messages.StateAsk b)) s s = Stays in
      let merge : is_stray b.vector sender s.vector ≡ false → is_normal s.status ≡ true
      → Ends (Some (Replica sender, messages.StateAsk b)) s (with_vector me s b.vector)
      = λ new normal. Merge sender (messages.StateAsk b) b.vector (record { is = refl; carries = refl; new = new }) normal in
      grind (arith, nat_tests, stay, merge)

  pub rejoin_tell_outcome : (s : ReplicaData) (sender : ℕ) (b : RejoinTellBody)
      → Ends (Some (Replica sender, messages.RejoinTell b)) s (rejoin_tell_rule f me s sender b).0
  unfolding rejoin_tell_rule
  rejoin_tell_outcome s sender b =
      let stay : Ends (Some (Replica sender, messages.RejoinTell b)) s s = Stays in
      let t = with_tell (with_vector me s b.vector) sender b in
      let hear : is_stray b.vector sender s.vector ≡ false → Awaits phases.Views (law_state s) b.nonce
      → Ends (Some (Replica sender, messages.RejoinTell b)) s t
      = λ new ours. HearView sender b (record { is = refl; carries = refl; new = new }) ours in
      let forget : is_stray b.vector sender s.vector ≡ false → Awaits phases.Views (law_state s) b.nonce
      → Ends (Some (Replica sender, messages.RejoinTell b)) s (with_tells t [])
      = λ new ours. Forget sender b (record { is = refl; carries = refl; new = new }) ours in
      let ask : is_stray b.vector sender s.vector ≡ false → Awaits phases.Views (law_state s) b.nonce → slow_size f ≤ length t.rejoin.tells
      → Ends (Some (Replica sender, messages.RejoinTell b)) s (ask_log f t (latest_view t)).0
      = λ new ours enough. AskLog sender b (record { is = refl; carries = refl; new = new }) ours enough in
      grind (arith, nat_tests, stay, hear, forget, ask)

  pub state_tell_outcome : (s : ReplicaData) (sender : ℕ) (b : StateTellBody)
      → Ends (Some (Replica sender, messages.StateTell b)) s (state_tell_rule f me s sender b).0
  unfolding state_tell_rule
  state_tell_outcome s sender b =
      let stay : Ends (Some (Replica sender, messages.StateTell b)) s s = Stays in
      let return : is_stray b.vector sender s.vector ≡ false → Awaits phases.Log (law_state s) b.nonce → s.rejoin.wanted ≤ b.view → sender ≡ leader_of f b.view
      → Ends (Some (Replica sender, messages.StateTell b)) s (normal_in (with_vector me s b.vector) b.view b.entries b.commit)
      = λ new ours late leader. Return sender b (record { is = refl; carries = refl; new = new }) ours late leader in
      grind (arith, nat_tests, stay, return)

  pub message_outcome : (s : ReplicaData) (from : Actor) (m : Message) → Ends (Some (from, m)) s (replica_message f me s from m).0
  message_outcome s (Proxy p) (messages.Timed b) = same_outcome f me e _ _ _ (request_state f me s p b)
  message_outcome s (Replica r) (messages.LogMod b) = log_mod_outcome s r b
  message_outcome s (Replica r) (messages.Fetch b) = same_outcome f me e _ _ _ (fetch_state f me s r b)
  message_outcome s (Replica r) (messages.FetchReply b) = same_outcome f me e _ _ _ (fetch_reply_state f me s r b)
  message_outcome s (Replica r) (messages.SyncReport b) = sync_report_outcome s r b
  message_outcome s (Replica r) (messages.ViewAsk b) = view_ask_outcome _ s b
  message_outcome s (Replica r) (messages.ViewChange b) = view_change_outcome s r b
  message_outcome s (Replica r) (messages.StartView b) = start_view_outcome s r b
  message_outcome s (Replica r) (messages.VectorAsk b) = same_outcome f me e _ _ _ (vector_ask_state s r b)
  message_outcome s (Replica r) (messages.VectorTell b) = vector_tell_outcome s r b
  message_outcome s (Replica r) (messages.RejoinAsk b) = rejoin_ask_outcome s r b
  message_outcome s (Replica r) (messages.RejoinTell b) = rejoin_tell_outcome s r b
  message_outcome s (Replica r) (messages.StateAsk b) = state_ask_outcome s r b
  message_outcome s (Replica r) (messages.StateTell b) = state_tell_outcome s r b
  message_outcome s _ _ = Stays

  -- ---- ticks, after what was released

  -- a follower in normal operation
  quiet_outcome : (heard : Heard) (s : ReplicaData) (t : ReplicaData) → law_state t ≡ law_state (record s { log = t.log }) → is_normal s.status ≡ true
      → eqb (leader_of f s.view) me ≡ false → Appends false s.log t.log
      → Outcome f me e heard s (law_state (quiet_timer f me t).0)
  unfolding enter_view
  quiet_outcome heard s t is normal follows log =
      let quiet = min (t.quiet + 1) VIEW_TIMEOUT_TICKS in
      let released : Outcome f me e heard s (law_state (record s { log = t.log })) =
      Release t.log normal (subst (λ (led : Bool). Appends led s.log t.log) (sym follows) log) in
      let stay : Outcome f me e heard s (law_state (record t { quiet = quiet })) = subst (λ (u : ReplicaData). Outcome f me e heard s u) (sym is) released in
      let enter : Outcome f me e heard s (law_state (enter_view f me (t.view + 1) (record t { quiet = quiet })).0) =
      subst (λ (u : ReplicaData). Outcome f me e heard s (law_state (in_view_change u (u.view + 1)))) (sym is)
      (Enter (s.view + 1) (normal_up s.status normal) (omega arith) t.log (More t.log normal follows log)) in
      grind (arith, nat_tests, stay, enter)

  normal_outcome : (heard : Heard) (s t : ReplicaData) → IsRelease f me s t → is_normal s.status ≡ true → Ends heard s (mode_timer Normal f me t).0
  normal_outcome heard s t is normal =
      let view : t.view ≡ s.view = ap (λ (x : ReplicaData). x.view) is.state in
      let leads_as : leads f me t ≡ leads f me s = ap (λ (v : ℕ). eqb (leader_of f v) me) view in
      cond_both (leads f me t) _ (quiet_timer f me t) (λ (x : ReplicaData × List Out). Ends heard s x.0)
      (λ _. subst (λ (u : ReplicaData). Outcome f me e heard (law_state s) u) (sym is.state) (Release t.log normal is.log))
      (λ follows.
      let others = sym leads_as ∙ follows in
      quiet_outcome heard (law_state s) t is.state normal others (subst (λ (led : Bool). Appends led s.log t.log) others is.log))

  change_outcome : (heard : Heard) (s : ReplicaData) → is_changing s.status ≡ true → Ends heard s (change_timer f me s).0
  unfolding enter_view
  change_outcome heard s changing =
      let later : Ends heard s (record s { since = s.since + 1 }) = Stays in
      let anew : Ends heard s (record s { since = 0 }) = Stays in
      let enter : Ends heard s (enter_view f me (s.view + 1) (record s { since = 0 })).0 =
      Enter (s.view + 1) (changing_up s.status changing) (omega arith) s.log Same in
      grind (arith, nat_tests, later, anew, enter)

  again_outcome : (heard : Heard) (s : ReplicaData) (p : Phase) → is_rejoining s.status ≡ true → s.rejoin.phase ≡ p → Ends heard s (ask_again p f me s).0
  again_outcome heard s phases.Vectors rejoining is = Stays
  again_outcome heard s phases.Views rejoining is = Stays
  again_outcome heard s phases.Log rejoining is = Back rejoining (ap (λ (p : Phase). is_phase p phases.Log) is)

  rejoin_outcome : (heard : Heard) (s : ReplicaData) → is_rejoining s.status ≡ true → Ends heard s (rejoin_timer f me s).0
  rejoin_outcome heard s rejoining =
      let stay : Ends heard s (record s { since = s.since + 1 }) = Stays in
      let again : Ends heard s (ask_again s.rejoin.phase f me (record s { since = 0 })).0 =
      again_outcome heard (record s { since = 0 }) s.rejoin.phase rejoining refl in
      grind (arith, nat_tests, stay, again)

  -- the timer of a mode: in normal operation after a release
  mode_outcome : (heard : Heard) (s t : ReplicaData) → IsRelease f me s t → (is_normal s.status ≡ false → law_state t ≡ law_state s)
      → (a : Status) → t.status ≡ a → Ends heard s (mode_timer a f me t).0
  mode_outcome heard s t is calm Normal kind = normal_outcome heard s t is (sym (ap (λ (x : ReplicaData). is_normal x.status) is.state) ∙ ap is_normal kind)
  mode_outcome heard s t is calm ViewChange kind =
      subst (λ (u : ReplicaData). Outcome f me e heard u (law_state (change_timer f me t).0))
      (calm (sym (ap (λ (x : ReplicaData). is_normal x.status) is.state) ∙ ap is_normal kind))
      (change_outcome heard t (ap is_changing kind))
  mode_outcome heard s t is calm Rejoining kind =
      subst (λ (u : ReplicaData). Outcome f me e heard u (law_state (rejoin_timer f me t).0))
      (calm (sym (ap (λ (x : ReplicaData). is_normal x.status) is.state) ∙ ap is_normal kind))
      (rejoin_outcome heard t (ap is_rejoining kind))
  mode_outcome heard s t is calm Down kind =
      same_outcome f me e heard (law_state s) (law_state t) (calm (sym (ap (λ (x : ReplicaData). is_normal x.status) is.state) ∙ ap is_normal kind))

  pub tick_outcome : (heard : Heard) (s : ReplicaData) (clock : ℕ) → Ends heard s (tick_rule f me s clock).0
  tick_outcome heard s clock =
      let t = (release_rule f me s clock).0 in
      mode_outcome heard s t (release_is f me s clock) (λ calm. no_release f me s clock calm) t.status refl

-- ---- any event

crash_outcome : (f me : ℕ) (s : ReplicaData) → Outcome f me Crash None (law_state s) (law_state (crash_rule f s).0)
unfolding crash_rule
crash_outcome f me s = Fall refl

restart_outcome : (f me nonce : ℕ) (s : ReplicaData) → Outcome f me (Restart nonce) None (law_state s) (law_state (restart_rule f me s nonce).0)
unfolding restart_rule
restart_outcome f me nonce s =
    let stay : Outcome f me (Restart nonce) None (law_state s) (law_state s) = Stays in
    let wake : is_down s.status ≡ true → Outcome f me (Restart nonce) None (law_state s) (law_state (restarted_replica f nonce)) =
    λ down. Wake nonce refl down in
    grind (arith, stay, wake)

envelope_outcome : (g : Group) (me : ℕ) (e : Event) (s : ReplicaData) (x : Option Envelope)
    → Outcome g.f me e (heard_as x) (law_state s) (law_state (envelope_step g (Replica me) s x).0)
envelope_outcome g me e s None = Stays
envelope_outcome g me e s (Some x) =
    unless_down (λ (t : ReplicaData × List Out). Outcome g.f me e (Some (x.from, x.message)) (law_state s) (law_state t.0)) s
    (replica_message g.f me s x.from x.message)
    Stays (message_outcome g.f me e s x.from x.message)

-- what a replica hears in an event
abbrev pub heard_by : Group → ℕ → Event → Heard
heard_by g me e = heard_at g (Replica me) e

pub event_outcome : (g : Group) (me : ℕ) (s : ReplicaData) (e : Event)
    → Outcome g.f me e (heard_by g me e) (law_state s) (law_state (event_step g (Replica me) s e).0)
event_outcome g me s (Deliver p) = envelope_outcome g me (Deliver p) s (accepted_envelope g.f (Replica me) p)
event_outcome g me s (Cut kept p) = Stays
event_outcome g me s (Tick clock) =
    unless_down (λ (t : ReplicaData × List Out). Outcome g.f me (Tick clock) None (law_state s) (law_state t.0)) s (tick_rule g.f me s clock)
    Stays (tick_outcome g.f me (Tick clock) None s clock)
event_outcome g me s Alarm = alarm_outcome g.f me Alarm None s
event_outcome g me s Crash = crash_outcome g.f me s
event_outcome g me s (Restart nonce) = restart_outcome g.f me nonce s
