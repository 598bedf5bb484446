-- Each rule of a replica reaches its state by moves.
use Rattle.std.proofs.Common.{◌≡◌, ℕ, zero, suc, ◌⊎◌, ◌+◌, ◌-◌, ◌%◌, ◌≤◌, ◌||◌, ◌&&◌, not, eqb, true, false, List, []}
use Rattle.std.proofs.Common.{◌∷◌, ◌++◌, drop, length, is_some, Option, Some, None, refl, sym, ap, subst, ◌∙◌, inl, inr, arith}
use Rattle.std.specs.Prelude.{slice_get, nat_lt, nat_le, min, max}
use Rattle.std.proofs.lemmas.Bool.{ltb-true, not-true, and_parts, cond_both}
use Rattle.std.proofs.lemmas.Bool.Decides.{nat_tests}
use Rattle.nz_base.specs.Cluster.{leader_of}
use Rattle.nz_base.specs.declared.actor.Actor.{Actor}
use Rattle.nz_base.specs.declared.actor.Actor.TheVariants.{Replica, Proxy}
use Rattle.nz_base.specs.declared.key.Key.{Key}
use Rattle.nz_base.specs.declared.key.Entry.{Entry}
use Rattle.nz_base.specs.Key.{id_of}
use Rattle.nz_base.specs.Log.{keys_of, has_id, is_above_last}
use Rattle.nz_base.specs.declared.limits.TheConstants.{MAX_CLOCK, MAX_DEADLINE, MAX_ENTRIES, MAX_VIEW, VIEW_TIMEOUT_TICKS, VIEW_ASK_TICKS, REJOIN_ASK_TICKS}
use Rattle.nz_cv.specs.Vectors.{is_stray}
use Rattle.nz_merge.specs.Merged.{merged}
use Rattle.nz_log.specs.Places.{place_of}
use Rattle.nz_log.proofs.Placing.{place_held}
use Rattle.nz_msg.specs.declared.message.TimedBody.{TimedBody}
use Rattle.nz_msg.specs.declared.message.LogModBody.{LogModBody}
use Rattle.nz_msg.specs.declared.message.FetchBody.{FetchBody}
use Rattle.nz_msg.specs.declared.message.FetchReplyBody.{FetchReplyBody}
use Rattle.nz_msg.specs.declared.message.SyncReportBody.{SyncReportBody}
use Rattle.nz_msg.specs.declared.message.ViewAskBody.{ViewAskBody}
use Rattle.nz_msg.specs.declared.message.ViewChangeBody.{ViewChangeBody}
use Rattle.nz_msg.specs.declared.message.StartViewBody.{StartViewBody}
use Rattle.nz_msg.specs.declared.message.VectorAskBody.{VectorAskBody}
use Rattle.nz_msg.specs.declared.message.VectorTellBody.{VectorTellBody}
use Rattle.nz_msg.specs.declared.message.RejoinAskBody.{RejoinAskBody}
use Rattle.nz_msg.specs.declared.message.RejoinTellBody.{RejoinTellBody}
use Rattle.nz_msg.specs.declared.message.StateAskBody.{StateAskBody}
use Rattle.nz_msg.specs.declared.message.StateTellBody.{StateTellBody}
use Rattle.nz_msg.specs.declared.message.Message.{Message}
use Rattle.nz_msg.specs.declared.message.Message.TheVariants as messages
use Rattle.nz_machine.specs.declared.data.Status.{Status}
use Rattle.nz_machine.specs.declared.data.Status.TheVariants.{Normal, ViewChange, Rejoining, Down}
use Rattle.nz_machine.specs.declared.data.Phase.{Phase}
use Rattle.nz_machine.specs.declared.data.Phase.TheVariants as phases
use Rattle.nz_machine.specs.rules.State.{ReplicaData, Out}
use Rattle.nz_machine.specs.rules.Replicas.{is_normal, is_changing, is_up, is_rejoining, leads, leads_view, hears_leader}
use Rattle.nz_machine.specs.rules.Replicas.{key_with_deadline, to_replica, ◌and_then◌}
use Rattle.nz_machine.specs.rules.Requests.{with_origin, to_early, entry_at, after_restamp, after_placing, is_full, after_timed, request_rule}
use Rattle.nz_machine.specs.rules.Releases.{after_release, may_release, releases, at_clock, release_rule}
use Rattle.nz_machine.specs.rules.LogMods.{entry_of_id, if_found, may_sync, synced_with, sync_keys, overtaken_to_late, committed_to, after_log_mod}
use Rattle.nz_machine.specs.rules.LogMods.{after_hearing, hears_later_leader, log_mods_to_others, log_mod_rule, fetch_rule, is_held, with_late_entries}
use Rattle.nz_machine.specs.rules.LogMods.{fetch_reply_rule, with_ack, with_commit, sync_report_rule}
use Rattle.nz_machine.specs.rules.Vectors.{with_vector, unless_stray}
use Rattle.nz_machine.specs.rules.Views.{view_calls, enter_view, enter_next, enter_later}
use Rattle.nz_machine.specs.rules.Views.{quiet_timer, change_timer, alarm_rule, view_ask_rule}
use Rattle.nz_machine.specs.rules.Adopting.{normal_in, may_start, after_start, start_view_message, start_view_rule}
use Rattle.nz_machine.specs.rules.Begins.{with_own_report, with_report, without_strays, begin, collect, hear_report, may_lead, view_change_rule}
use Rattle.nz_machine.specs.rules.Rejoining.{last_counter, awaits, is_enough, rejoin_tell_message, state_tell_message, with_teller}
use Rattle.nz_machine.specs.rules.Rejoining.{with_new_counter, with_tells, with_tell, latest_view, ask_views, ask_log, after_vectors, after_views, ask_again}
use Rattle.nz_machine.specs.rules.Rejoining.{rejoin_timer, vector_ask_rule, rejoin_ask_rule, state_ask_rule, vector_tell_rule, rejoin_tell_rule}
use Rattle.nz_machine.specs.rules.Rejoining.{state_tell_rule}
use Rattle.nz_machine.specs.rules.Step.{message_vector, mode_timer, tick_rule, replica_message}
use Rattle.nz_machine.specs.runs.World.{Has}
use Rattle.nz_machine.proofs.facts.RulesKeepFacts.{above_next}
use Rattle.nz_machine.specs.runs.Hearing.{Heard}
use Rattle.nz_machine.proofs.facts.Guards.{HearsLeader, IsLeader, hears_leader_parts, is_leader, hears_later_parts}
use Rattle.nz_machine.proofs.facts.Guards.{changing_no_rejoin, may_lead_parts, hears_start_parts, awaits_parts, hears_log_parts}
use Rattle.nz_machine.proofs.moves.Moves.{HearsLogMod, MaySync, Interval, Whole, Taking, NoteOrigin, ToEarly, ToLate, Release, Merge}
use Rattle.nz_machine.proofs.moves.Moves.{Take, Sync, Overtake, Commit, NoteAck, Tally, Enter, Drop}
use Rattle.nz_machine.proofs.moves.Moves.{Collect, Begin, Start, NoteTeller, Count, TakeCounter, AskViews, NoteTell, Forget, AskLog, Names, Closed}

-- what a rule ends in has P
abbrev Ends : (Interval → ReplicaData → Type 0) → ReplicaData × List Out → Type 0
Ends P t = P Whole t.0

-- ---- the request rule

module _ (P : Interval → ReplicaData → Type 0) (f me proxy : ℕ) (b : TimedBody) (c : Closed f me (Some (Proxy proxy, messages.Timed b)) P) where
  -- the request's id is in neither log nor early
  record IsUnknown (s : ReplicaData) : Type 0 where
    pub normal : is_normal s.status ≡ true
    pub logged : has_id (keys_of s.log.entries) b.id ≡ false
    pub held : has_id (keys_of s.early) b.id ≡ false

  early_moves : (s : ReplicaData) → IsUnknown s → (deadline : ℕ) → (deadline ≡ b.deadline) ⊎ (deadline ≤ MAX_DEADLINE)
      → is_above_last (keys_of s.log.entries) (key_with_deadline deadline b.id) ≡ true → P Whole s → P Whole (to_early s (entry_at deadline b))
  early_moves s new deadline low above h =
      c.kept _ _ _ _ (ToEarly (entry_at deadline b)
      (record {
        brought = record { deadline = deadline; is = refl; low = low };
        normal = new.normal;
        logged = new.logged;
        held = new.held;
      }) above) h

  late_moves : (s : ReplicaData) → IsUnknown s → has_id (keys_of s.late) b.id ≡ false → P Whole s
      → P Whole (record s { late = s.late ++ entry_at b.deadline b ∷ [] })
  late_moves s new none h =
      c.kept _ _ _ _ (ToLate (entry_at b.deadline b)
      (record {
        brought = record { deadline = b.deadline; is = refl; low = inl refl };
        normal = new.normal;
        logged = new.logged;
        held = new.held;
      }) none) h

  restamped_moves : (s : ReplicaData) → IsUnknown s → P Whole s → P Whole (after_restamp s b)
  restamped_moves s new h = grind (arith, nat_tests, early_moves, above_next)

  placed_moves : (s : ReplicaData) → IsUnknown s → P Whole s → P Whole (after_placing f me s b)
  placed_moves s new h = grind (arith, early_moves, late_moves, restamped_moves)

  requested_moves : (s : ReplicaData) → is_normal s.status ≡ true → (o : Option ℕ) → place_of s.log.entries b.id ≡ o → P Whole s
      → P Whole (after_timed f me s b o).0
  requested_moves s normal (Some place) is h = h
  requested_moves s normal None is h =
      let logged : has_id (keys_of s.log.entries) b.id ≡ false = sym (place_held s.log.entries b.id) ∙ ap is_some is in
      grind (arith, placed_moves, logged)

  pub request_moves : (s : ReplicaData) → P Whole s → P Whole (request_rule f me s proxy b).0
  unfolding request_rule
  request_moves s h =
      let now : P Whole (with_origin s proxy b) = c.kept _ _ _ _ (NoteOrigin proxy b refl) h in
      grind (arith, now, requested_moves)

-- ---- the release rule

module _ (P : Interval → ReplicaData → Type 0) (f me : ℕ) (heard : Heard) (c : Closed f me heard P) where
  pub releases_moves : (s : ReplicaData) (es : List Entry) → is_normal s.status ≡ true → s.early ≡ es → P Whole s → P Whole (releases f me s es).0
  unfolding releases
  releases_moves s [] normal is h = h
  releases_moves s (e ∷ es) normal is h =
      let rest : may_release s e ≡ true → P Whole (releases f me (after_release f me s e es) es).0 =
      λ may. releases_moves (after_release f me s e es) es normal refl (c.kept _ _ _ _ (Release e es (record { normal = normal; first = is; may = may })) h) in
      grind (arith, rest)

  pub release_moves : (s : ReplicaData) (clock : ℕ) → P Whole s → P Whole (release_rule f me s clock).0
  unfolding release_rule
  release_moves s clock h =
      let now : P Whole (at_clock s clock) = c.kept _ _ _ _ (Count (min clock MAX_CLOCK) s.quiet s.since (λ k. grind (arith, k))) h in
      grind (arith, now, releases_moves)

no_more : (most n : ℕ) → min most n ≤ most
no_more most n = omega arith

-- ---- the vector rule

module _ (P : Interval → ReplicaData → Type 0) (f me : ℕ) (heard : Heard) (c : Closed f me heard P) where
  stray_moves : (sender : ℕ) (m : Message) (vector : List ℕ) → heard ≡ Some (Replica sender, m) → message_vector m ≡ Some vector → (s : ReplicaData) → P Whole s
      → (rule : ReplicaData → ReplicaData × List Out) → (P Whole (with_vector me s vector) → P Whole (rule (with_vector me s vector)).0)
      → P Whole (unless_stray me s sender vector rule).0
  stray_moves sender m vector is carries s h rule next =
      cond_both (is_stray vector sender s.vector) (s, []) (rule (with_vector me s vector)) (Ends P) (λ _. h)
      (λ new. next (c.kept _ _ _ _ (Merge sender m vector (record { is = is; carries = carries; new = new })) h))

-- ---- the log modification rule

-- the first of what is left of a list from a place on, and what is left after it
first_left : {X : Type 0} (xs : List X) (n : ℕ) (y : X) (ys : List X) → y ∷ ys ≡ drop n xs → slice_get xs n ≡ Some y
first_left [] zero y ys is = absurd cc
first_left [] (suc n) y ys is = absurd cc
first_left (x ∷ xs) zero y ys is = cc
first_left (x ∷ xs) (suc n) y ys is = first_left xs n y ys is

rest_left : {X : Type 0} (xs : List X) (n : ℕ) (y : X) (ys : List X) → y ∷ ys ≡ drop n xs → ys ≡ drop (suc n) xs
rest_left [] zero y ys is = absurd cc
rest_left [] (suc n) y ys is = absurd cc
rest_left (x ∷ xs) zero y ys is = cc
rest_left (x ∷ xs) (suc n) y ys is = rest_left xs n y ys is

module _ (P : Interval → ReplicaData → Type 0) (f me sender : ℕ) (b : LogModBody) (c : Closed f me (Some (Replica sender, messages.LogMod b)) P) where
  abbrev heard_mod_by : (s : ReplicaData) → HearsLeader f me s.status s.view sender b.view → HearsLogMod f me (Some (Replica sender, messages.LogMod b)) s
  heard_mod_by s leader = record { sender = sender; body = b; is = refl; leader = leader }

  record HasTaken (s : ReplicaData) : Type 0 where
    pub leader : HearsLeader f me s.status s.view sender b.view
    pub has : P Taking s

  -- these keys are the message's from the first place on that is not synced
  record AreNext (s : ReplicaData) (keys : List Key) : Type 0 where
    pub start : b.start ≤ s.log.synced
    pub left : keys ≡ drop (s.log.synced - b.start) b.keys

  next_left : (s : ReplicaData) (k : Key) (keys : List Key) (e : Entry) → AreNext s (k ∷ keys) → AreNext (synced_with s e) keys
  next_left s k keys e next =
      let start = next.start in
      let more : suc (s.log.synced - b.start) ≡ s.log.synced + 1 - b.start = omega (arith, start) in
      record { start = omega (arith, start); left = rest_left b.keys (s.log.synced - b.start) k keys next.left ∙ ap (λ n. drop n b.keys) more }

  found_moves : (s : ReplicaData) (k : Key) (keys : List Key) → AreNext s (k ∷ keys) → may_sync s k ≡ true → HasTaken s
      → ((t : ReplicaData) → AreNext t keys → HasTaken t → HasTaken (sync_keys t keys).0)
      → (o : Option Entry) → entry_of_id s (id_of k) ≡ o
      → HasTaken (if_found o (s, k ∷ keys) (λ e. sync_keys (synced_with s (record { key = k; command = e.command })) keys)).0
  found_moves s k keys next may h rest None is = h
  found_moves s k keys next may h rest (Some old) is =
      let e : Entry = record { key = k; command = old.command } in
      let m : MaySync f me (Some (Replica sender, messages.LogMod b)) s e =
      record {
        heard_mod = heard_mod_by s h.leader;
        start = next.start;
        key = first_left b.keys (s.log.synced - b.start) k keys next.left;
        may = may;
        old = old;
        found = is;
        same = refl;
      } in
      rest (synced_with s e) (next_left s k keys e next) (record { leader = h.leader; has = c.kept _ _ _ _ (Sync e m) h.has })

  sync_moves : (s : ReplicaData) (keys : List Key) → AreNext s keys → HasTaken s → HasTaken (sync_keys s keys).0
  unfolding sync_keys
  sync_moves s [] next h = h
  sync_moves s (k ∷ keys) next h =
      cond_both (may_sync s k) _ (s, []) (λ (t : ReplicaData × List Key). HasTaken t.0)
      (λ may. found_moves s k keys next may h (λ t. sync_moves t keys) (entry_of_id s (id_of k)) refl) (λ _. h)

  taken_moves : (s : ReplicaData) → HearsLeader f me s.status s.view sender b.view → P Whole s → P Whole (after_log_mod sender b s).0
  taken_moves s leader h =
      let keys = drop (s.log.synced - b.start) b.keys in
      let u = (sync_keys s keys).0 in
      let after : b.start ≤ s.log.synced → P Whole (committed_to (overtaken_to_late u) b.commit) =
      λ start.
      let t = sync_moves s keys (record { start = start; left = refl }) (record { leader = leader; has = c.kept _ _ _ _ (Take (heard_mod_by s leader)) h }) in
      c.kept _ _ _ _ (Commit (heard_mod_by (overtaken_to_late u) t.leader)) (c.kept _ _ _ _ (Overtake (heard_mod_by u t.leader)) t.has) in
      grind (arith, nat_tests, after)

  pub log_mod_moves : (s : ReplicaData) → P Whole s → P Whole (log_mod_rule f me s sender b).0
  unfolding log_mod_rule enter_view
  log_mod_moves s h =
      let heard = Some (Replica sender, messages.LogMod b) in
      let own = with_vector me s b.vector in
      let merges = stray_moves P f me heard c sender (messages.LogMod b) b.vector refl refl s h in
      cond_both (hears_later_leader f s b.view sender) (unless_stray me s sender b.vector (enter_view f me b.view)) _ (Ends P)
      (λ late.
      let g = hears_later_parts f s b.view sender late in
      merges (enter_view f me b.view) (λ k. c.kept _ _ _ _ (Enter b.view (record { up = g.up; later = g.later; named = inr refl })) k))
      (λ _. cond_both (hears_leader f me s b.view sender) (unless_stray me s sender b.vector (λ t. after_log_mod sender b (after_hearing t))) (s, []) (Ends P)
      (λ hears. merges (λ t. after_log_mod sender b (after_hearing t))
      (λ k. taken_moves (after_hearing own) (hears_leader_parts f me s b.view sender hears)
      (c.kept _ _ _ _ (Count s.clock 0 s.since (λ a. record { clock = a.clock; quiet = omega arith; since = a.since; rejoining = a.rejoining })) k)))
      (λ _. h))

-- ---- fetches

module _ (P : Interval → ReplicaData → Type 0) (f me sender : ℕ) (b : FetchReplyBody) (c : Closed f me (Some (Replica sender, messages.FetchReply b)) P) where
  late_one : (s : ReplicaData) (e : Entry) → is_normal s.status ≡ true → Has b.entries e → (is_held s (id_of e.key) || is_full s) ≡ false → P Whole s
      → P Whole (record s { late = s.late ++ e ∷ [] })
  late_one s e normal has goes h =
      let i = id_of e.key in
      let logged : has_id (keys_of s.log.entries) i ≡ false = grind (arith, goes) in
      let held : has_id (keys_of s.early) i ≡ false = grind (arith, goes) in
      let none : has_id (keys_of s.late) i ≡ false = grind (arith, goes) in
      c.kept _ _ _ _ (ToLate e (record { brought = has; normal = normal; logged = logged; held = held }) none) h

  kept_moves : (s : ReplicaData) (es : List Entry) → is_normal s.status ≡ true → ((e : Entry) → Has es e → Has b.entries e) → P Whole s
      → P Whole (with_late_entries s es)
  unfolding with_late_entries
  kept_moves s [] normal has h = h
  kept_moves s (e ∷ es) normal has h =
      cond_both (is_held s (id_of e.key) || is_full s) s (record s { late = s.late ++ e ∷ [] }) (λ (t : ReplicaData). P Whole (with_late_entries t es))
      (λ _. kept_moves s es normal (λ x there. has x (inr there)) h)
      (λ goes. kept_moves (record s { late = s.late ++ e ∷ [] }) es normal (λ x there. has x (inr there)) (late_one s e normal (has e (inl refl)) goes h))

  pub fetch_reply_moves : (s : ReplicaData) → P Whole s → P Whole (fetch_reply_rule f me s sender b).0
  unfolding fetch_reply_rule
  fetch_reply_moves s h =
      let kept : is_normal s.status ≡ true → P Whole (with_late_entries s b.entries) = λ normal. kept_moves s b.entries normal (λ e there. there) h in
      grind (arith, kept)

pub fetch_same : (f me : ℕ) (s : ReplicaData) (sender : ℕ) (b : FetchBody) → (fetch_rule f me s sender b).0 ≡ s
unfolding fetch_rule
fetch_same f me s sender b = grind arith

-- ---- sync reports

module _ (P : Interval → ReplicaData → Type 0) (f me sender : ℕ) (b : SyncReportBody) (c : Closed f me (Some (Replica sender, messages.SyncReport b)) P) where
  pub sync_report_moves : (s : ReplicaData) → P Whole s → P Whole (sync_report_rule f me s sender b).0
  unfolding sync_report_rule
  sync_report_moves s h =
      let noted : IsLeader f me s.status s.view b.view → b.synced ≤ length s.log.entries → P Whole (with_commit f me (with_ack s sender b.synced)) =
      λ leader low. c.kept _ _ _ _ (Tally b.view leader)
      (c.kept _ _ _ _ (NoteAck sender b.synced (record { body = b; is = refl; same = refl; leader = leader; low = low })) h) in
      grind (arith, nat_tests, noted, is_leader)

-- ---- views

module _ (P : Interval → ReplicaData → Type 0) (f me : ℕ) (heard : Heard) (c : Closed f me heard P) where
  next_moves : (s : ReplicaData) → is_up s.status ≡ true → P Whole s → P Whole (enter_next f me s).0
  unfolding enter_view
  next_moves s up h =
      cond_both (nat_lt s.view MAX_VIEW) (enter_view f me (s.view + 1) s) (s, []) (Ends P)
      (λ low. c.kept _ _ _ _ (Enter (s.view + 1) (record { up = up; later = omega arith; named = inl (refl, ltb-true s.view MAX_VIEW low) })) h) (λ _. h)

  later_moves : (s : ReplicaData) (view : ℕ) → is_up s.status ≡ true → Names heard view → P Whole s → P Whole (enter_later f me view s).0
  unfolding enter_view
  later_moves s view up named h =
      cond_both (nat_lt s.view view) (enter_view f me view s) (s, []) (Ends P)
      (λ later. c.kept _ _ _ _ (Enter view (record { up = up; later = ltb-true s.view view later; named = inr named })) h) (λ _. h)

  pub alarm_moves : (s : ReplicaData) → P Whole s → P Whole (alarm_rule f me s).0
  unfolding alarm_rule
  alarm_moves s h = cond_both (is_up s.status) (enter_next f me s) (s, []) (Ends P) (λ up. next_moves s up h) (λ _. h)

  quiet_moves : (s : ReplicaData) → is_up s.status ≡ true → P Whole s → P Whole (quiet_timer f me s).0
  quiet_moves s up h =
      let later : ReplicaData = record s { quiet = min (s.quiet + 1) VIEW_TIMEOUT_TICKS } in
      let k : P Whole later = c.kept _ _ _ _ (Count s.clock (min (s.quiet + 1) VIEW_TIMEOUT_TICKS) s.since (λ a. grind (arith, a))) h in
      cond_both (eqb later.quiet VIEW_TIMEOUT_TICKS) (enter_next f me later) (later, []) (Ends P) (λ _. next_moves later up k) (λ _. k)

  change_moves : (s : ReplicaData) → is_changing s.status ≡ true → is_up s.status ≡ true → P Whole s → P Whole (change_timer f me s).0
  change_moves s changing up h =
      let later : ReplicaData = record s { since = s.since + 1 } in
      let anew : ReplicaData = record s { since = 0 } in
      let k : P Whole anew = c.kept _ _ _ _ (Count s.clock s.quiet 0 (λ a. grind (arith, a))) h in
      cond_both (eqb later.since VIEW_TIMEOUT_TICKS) (enter_next f me anew) _ (Ends P) (λ _. next_moves anew up k)
      (λ more.
      let calm = changing_no_rejoin s.status changing in
      let counts : P Whole later = c.kept _ _ _ _ (Count s.clock s.quiet (s.since + 1) (λ a. grind (arith, nat_tests, a, more, calm))) h in
      cond_both (eqb (later.since % VIEW_ASK_TICKS) 0) (later, view_calls f me later) (later, []) (Ends P) (λ _. counts) (λ _. counts))

  again_moves : (phase : Phase) (s : ReplicaData) → is_rejoining s.status ≡ true → P Whole s → P Whole (ask_again phase f me s).0
  again_moves phases.Vectors s rejoins h = h
  again_moves phases.Views s rejoins h = h
  again_moves phases.Log s rejoins h = c.kept _ _ _ _ (AskViews rejoins) h

  rejoin_moves : (s : ReplicaData) → is_rejoining s.status ≡ true → P Whole s → P Whole (rejoin_timer f me s).0
  rejoin_moves s rejoins h =
      let later : ReplicaData = record s { since = s.since + 1 } in
      let anew : ReplicaData = record s { since = 0 } in
      cond_both (eqb later.since REJOIN_ASK_TICKS) (ask_again s.rejoin.phase f me anew) (later, []) (Ends P)
      (λ _. again_moves s.rejoin.phase anew rejoins (c.kept _ _ _ _ (Count s.clock s.quiet 0 (λ a. grind (arith, a))) h))
      (λ more. c.kept _ _ _ _ (Count s.clock s.quiet (s.since + 1) (λ a. let low = a.rejoining rejoins in grind (arith, nat_tests, a, more, low))) h)

  mode_moves : (s : ReplicaData) (mode : Status) → s.status ≡ mode → P Whole s → P Whole (mode_timer mode f me s).0
  mode_moves s Normal is h = cond_both (leads f me s) (s, log_mods_to_others f me s) (quiet_timer f me s) (Ends P) (λ _. h) (λ _. quiet_moves s (ap is_up is) h)
  mode_moves s ViewChange is h = change_moves s (ap is_changing is) (ap is_up is) h
  mode_moves s Rejoining is h = rejoin_moves s (ap is_rejoining is) h
  mode_moves s Down is h = h

  pub tick_moves : (s : ReplicaData) (clock : ℕ) → P Whole s → P Whole (tick_rule f me s clock).0
  tick_moves s clock h =
      let t = (release_rule f me s clock).0 in
      mode_moves t t.status refl (release_moves P f me heard c s clock h)

module _ (P : Interval → ReplicaData → Type 0) (f me sender : ℕ) (b : ViewAskBody) (c : Closed f me (Some (Replica sender, messages.ViewAsk b)) P) where
  view_ask_moves : (s : ReplicaData) → P Whole s → P Whole (view_ask_rule f me s b).0
  unfolding view_ask_rule
  view_ask_moves s h =
      cond_both (is_up s.status) (enter_later f me b.view s) (s, []) (Ends P)
      (λ up. later_moves P f me (Some (Replica sender, messages.ViewAsk b)) c s b.view up refl h) (λ _. h)

module _ (P : Interval → ReplicaData → Type 0) (f me sender : ℕ) (b : StartViewBody) (c : Closed f me (Some (Replica sender, messages.StartView b)) P) where
  start_view_moves : (s : ReplicaData) → P Whole s → P Whole (start_view_rule f me s sender b).0
  unfolding start_view_rule
  start_view_moves s h =
      let heard = Some (Replica sender, messages.StartView b) in
      let rule : ReplicaData → ReplicaData × List Out = λ t. (after_start t b, []) in
      cond_both (may_start s b.view && eqb sender (leader_of f b.view)) (unless_stray me s sender b.vector rule) (s, []) (Ends P)
      (λ hears.
      let g = hears_start_parts f s sender b.view hears in
      stray_moves P f me heard c sender (messages.StartView b) b.vector refl refl s h rule
      (λ k. c.kept _ _ _ _ (Start b.view b.entries (min (length b.entries) (max s.commit b.commit))
      (record { sender = sender; brought = (refl, refl, refl, no_more (length b.entries) (max s.commit b.commit)); leader = g.leader })) k))
      (λ _. h)

module _ (P : Interval → ReplicaData → Type 0) (f me sender : ℕ) (b : ViewChangeBody) (c : Closed f me (Some (Replica sender, messages.ViewChange b)) P) where
  begin_moves : (s : ReplicaData) → is_changing s.status ≡ true → P Whole s → P Whole (begin f me s).0
  unfolding begin
  begin_moves s changing h =
      let log = merged f (with_own_report me s) in
      cond_both (nat_lt MAX_ENTRIES (length log)) (s, []) _ (Ends P) (λ _. h)
      (λ room. c.kept _ _ _ _ (Begin (record { changing = changing; few = grind (arith, nat_tests, room) })) h)

  collect_moves : (s : ReplicaData) → is_changing s.status ≡ true → P Whole s → P Whole (collect f me sender b s).0
  collect_moves s changing h =
      let more = with_report s sender b in
      let k : P Whole more = c.kept _ _ _ _ (Collect sender b (record { is = refl; changing = changing })) h in
      cond_both (eqb (length more.reports) f) (begin f me more) (more, []) (Ends P) (λ _. begin_moves more changing k) (λ _. k)

  report_moves : (s : ReplicaData) → P Whole s → P Whole (hear_report f me sender b s).0
  report_moves s h =
      cond_both (is_changing s.status) (collect f me sender b s) (s, to_replica sender (start_view_message s)) (Ends P)
      (λ changing. collect_moves s changing h) (λ _. h)

  view_change_moves : (s : ReplicaData) → P Whole s → P Whole (view_change_rule f me s sender b).0
  unfolding view_change_rule
  view_change_moves s h =
      let heard = Some (Replica sender, messages.ViewChange b) in
      let rule : ReplicaData → ReplicaData × List Out = λ t. enter_later f me b.view (without_strays t) and_then hear_report f me sender b in
      cond_both (may_lead f me s b.view) (unless_stray me s sender b.vector rule) (s, []) (Ends P)
      (λ led.
      let g = may_lead_parts f me s b.view led in
      let kept = without_strays (with_vector me s b.vector) in
      stray_moves P f me heard c sender (messages.ViewChange b) b.vector refl refl s h rule
      (λ k. report_moves (enter_later f me b.view kept).0 (later_moves P f me heard c kept b.view g.up refl (c.kept _ _ _ _ Drop k))))
      (λ _. h)

-- ---- rejoining

module _ (P : Interval → ReplicaData → Type 0) (f me sender : ℕ) (b : VectorTellBody) (c : Closed f me (Some (Replica sender, messages.VectorTell b)) P) where
  vectors_moves : (s : ReplicaData) → is_rejoining s.status ≡ true → P Whole s → P Whole (after_vectors f me s).0
  vectors_moves s rejoins h =
      cond_both (is_enough f (length s.rejoin.tellers) && not (eqb s.rejoin.claim last_counter)) (ask_views f me (with_new_counter me s)) (s, []) (Ends P)
      (λ goes.
      let below =
      not-true (eqb s.rejoin.claim last_counter)
      (and_parts (is_enough f (length s.rejoin.tellers)) (not (eqb s.rejoin.claim last_counter)) goes).1 in
      c.kept _ _ _ _ (AskViews rejoins) (c.kept _ _ _ _ (TakeCounter below rejoins) h))
      (λ _. h)

  vector_tell_moves : (s : ReplicaData) → P Whole s → P Whole (vector_tell_rule f me s sender b).0
  unfolding vector_tell_rule
  vector_tell_moves s h =
      let heard = Some (Replica sender, messages.VectorTell b) in
      let rule : ReplicaData → ReplicaData × List Out = λ t. after_vectors f me (with_teller me t sender b.vector) in
      cond_both (awaits phases.Vectors s b.nonce) (unless_stray me s sender b.vector rule) (s, []) (Ends P)
      (λ waits.
      let rejoins = (awaits_parts phases.Vectors s b.nonce waits).rejoining in
      let own = with_vector me s b.vector in
      stray_moves P f me heard c sender (messages.VectorTell b) b.vector refl refl s h rule
      (λ k. vectors_moves (with_teller me own sender b.vector) rejoins
      (c.kept _ _ _ _ (NoteTeller sender b.vector (record { body = b; is = refl; same = refl; rejoining = rejoins })) k)))
      (λ _. h)

module _ (P : Interval → ReplicaData → Type 0) (f me sender : ℕ) (b : RejoinTellBody) (c : Closed f me (Some (Replica sender, messages.RejoinTell b)) P) where
  views_moves : (s : ReplicaData) → is_rejoining s.status ≡ true → P Whole s → P Whole (after_views f me s).0
  views_moves s rejoins h =
      cond_both (is_enough f (length s.rejoin.tells)) _ (s, []) (Ends P)
      (λ _. cond_both (eqb (leader_of f (latest_view s)) me) (with_tells s [], [])
      (ask_log f s (latest_view s)) (Ends P) (λ _. c.kept _ _ _ _ (Forget rejoins) h) (λ _. c.kept _ _ _ _ (AskLog rejoins) h))
      (λ _. h)

  rejoin_tell_moves : (s : ReplicaData) → P Whole s → P Whole (rejoin_tell_rule f me s sender b).0
  unfolding rejoin_tell_rule
  rejoin_tell_moves s h =
      let heard = Some (Replica sender, messages.RejoinTell b) in
      let rule : ReplicaData → ReplicaData × List Out = λ t. after_views f me (with_tell t sender b) in
      cond_both (awaits phases.Views s b.nonce) (unless_stray me s sender b.vector rule) (s, []) (Ends P)
      (λ waits.
      let rejoins = (awaits_parts phases.Views s b.nonce waits).rejoining in
      let own = with_vector me s b.vector in
      stray_moves P f me heard c sender (messages.RejoinTell b) b.vector refl refl s h rule
      (λ k. views_moves (with_tell own sender b) rejoins (c.kept _ _ _ _ (NoteTell sender b (record { is = refl; rejoining = rejoins })) k)))
      (λ _. h)

module _ (P : Interval → ReplicaData → Type 0) (f me sender : ℕ) (b : StateTellBody) (c : Closed f me (Some (Replica sender, messages.StateTell b)) P) where
  state_tell_moves : (s : ReplicaData) → P Whole s → P Whole (state_tell_rule f me s sender b).0
  unfolding state_tell_rule
  state_tell_moves s h =
      let heard = Some (Replica sender, messages.StateTell b) in
      let rule : ReplicaData → ReplicaData × List Out = λ t. (normal_in t b.view b.entries b.commit, []) in
      cond_both (awaits phases.Log s b.nonce
      && (nat_le s.rejoin.wanted b.view && eqb sender (leader_of f b.view))) (unless_stray me s sender b.vector rule) (s, []) (Ends P)
      (λ hears.
      let g = hears_log_parts f s sender b.view b.nonce hears in
      stray_moves P f me heard c sender (messages.StateTell b) b.vector refl refl s h rule
      (λ k. c.kept _ _ _ _ (Start b.view b.entries b.commit (record { sender = sender; brought = (refl, refl, refl, refl); leader = g.leader })) k))
      (λ _. h)

-- ---- the answers to one that rejoins

pub vector_ask_same : (s : ReplicaData) (sender : ℕ) (b : VectorAskBody) → (vector_ask_rule s sender b).0 ≡ s
unfolding vector_ask_rule
vector_ask_same s sender b = grind arith

module _ (P : Interval → ReplicaData → Type 0) (f me sender : ℕ) (b : RejoinAskBody) (c : Closed f me (Some (Replica sender, messages.RejoinAsk b)) P) where
  rejoin_ask_moves : (s : ReplicaData) → P Whole s → P Whole (rejoin_ask_rule me s sender b).0
  unfolding rejoin_ask_rule
  rejoin_ask_moves s h =
      let rule : ReplicaData → ReplicaData × List Out = λ t. (t, to_replica sender (rejoin_tell_message t b.nonce)) in
      cond_both (is_normal s.status) (unless_stray me s sender b.vector rule) (s, []) (Ends P)
      (λ _. stray_moves P f me (Some (Replica sender, messages.RejoinAsk b)) c sender (messages.RejoinAsk b) b.vector refl refl s h rule (λ k. k)) (λ _. h)

module _ (P : Interval → ReplicaData → Type 0) (f me sender : ℕ) (b : StateAskBody) (c : Closed f me (Some (Replica sender, messages.StateAsk b)) P) where
  state_ask_moves : (s : ReplicaData) → P Whole s → P Whole (state_ask_rule f me s sender b).0
  unfolding state_ask_rule
  state_ask_moves s h =
      let rule : ReplicaData → ReplicaData × List Out = λ t. (t, to_replica sender (state_tell_message t b.nonce)) in
      cond_both (leads_view f me s && nat_le b.view s.view) (unless_stray me s sender b.vector rule) (s, []) (Ends P)
      (λ _. stray_moves P f me (Some (Replica sender, messages.StateAsk b)) c sender (messages.StateAsk b) b.vector refl refl s h rule (λ k. k)) (λ _. h)

-- ---- any message

pub message_moves : (P : Interval → ReplicaData → Type 0) (f me : ℕ) (s : ReplicaData) (from : Actor) (m : Message) → Closed f me (Some (from, m)) P
    → P Whole s → P Whole (replica_message f me s from m).0
message_moves P f me s (Proxy p) (messages.Timed b) c h = request_moves P f me p b c s h
message_moves P f me s (Replica r) (messages.LogMod b) c h = log_mod_moves P f me r b c s h
message_moves P f me s (Replica r) (messages.Fetch b) c h = subst (P Whole) (sym (fetch_same f me s r b)) h
message_moves P f me s (Replica r) (messages.FetchReply b) c h = fetch_reply_moves P f me r b c s h
message_moves P f me s (Replica r) (messages.SyncReport b) c h = sync_report_moves P f me r b c s h
message_moves P f me s (Replica r) (messages.ViewAsk b) c h = view_ask_moves P f me r b c s h
message_moves P f me s (Replica r) (messages.ViewChange b) c h = view_change_moves P f me r b c s h
message_moves P f me s (Replica r) (messages.StartView b) c h = start_view_moves P f me r b c s h
message_moves P f me s (Replica r) (messages.VectorAsk b) c h = subst (P Whole) (sym (vector_ask_same s r b)) h
message_moves P f me s (Replica r) (messages.VectorTell b) c h = vector_tell_moves P f me r b c s h
message_moves P f me s (Replica r) (messages.RejoinAsk b) c h = rejoin_ask_moves P f me r b c s h
message_moves P f me s (Replica r) (messages.RejoinTell b) c h = rejoin_tell_moves P f me r b c s h
message_moves P f me s (Replica r) (messages.StateAsk b) c h = state_ask_moves P f me r b c s h
message_moves P f me s (Replica r) (messages.StateTell b) c h = state_tell_moves P f me r b c s h
message_moves P f me s _ _ c h = h
