-- The rules by which followers make their logs agree with the leader's: what the leader sends at a tick, how a
-- follower takes it, and how missing entries are fetched and sync points reported.
use Rattle.std.specs.Prelude.{ℕ, ◌-◌, Bool, not, ◌&&◌, ◌||◌, ◌==◌, nat_lt, nat_le, max, min, List, [], ◌∷◌, ◌++◌, length}
use Rattle.std.specs.Prelude.{map, take, drop, filter, Option, Some, None, if◌then◌else◌, slice_index, slice_set}
use Rattle.std.specs.List.{list_any, flat_map}
use Rattle.std.specs.Option.{option_or}
use Rattle.std.specs.Map.{lookup}
use Rattle.nz_base.specs.Cluster.{leader_of}
use Rattle.nz_base.specs.Key.{id_eq, id_of}
use Rattle.nz_base.specs.Log.{keys_of, has_id, is_above_last}
use Rattle.nz_base.specs.declared.actor.Actor.TheVariants.{Replica}
use Rattle.nz_base.specs.declared.key.Id.{Id}
use Rattle.nz_base.specs.declared.key.Key.{Key}
use Rattle.nz_base.specs.declared.key.Entry.{Entry}
use Rattle.nz_base.specs.declared.limits.TheConstants.{MAX_ENTRIES, MAX_KEYS}
use Rattle.nz_window.specs.Samples.{numbers_in_order}
use Rattle.nz_log.specs.Synced.{synced_part, unsynced_part, log_with_synced, displaced_entries}
use Rattle.nz_buffers.specs.Buffers.{find_id, without}
use Rattle.nz_msg.specs.declared.message.LogModBody.{LogModBody}
use Rattle.nz_msg.specs.declared.message.FetchBody.{FetchBody}
use Rattle.nz_msg.specs.declared.message.FetchReplyBody.{FetchReplyBody}
use Rattle.nz_msg.specs.declared.message.SyncReportBody.{SyncReportBody}
use Rattle.nz_msg.specs.declared.message.Message.TheVariants.{LogMod, Fetch, FetchReply, SyncReport}
use Rattle.nz_machine.specs.rules.State.{ReplicaData, Out}
use Rattle.nz_machine.specs.rules.Replicas.{is_up, leads_view, hears_leader, others, slow_replies}
use Rattle.nz_machine.specs.rules.Requests.{is_full}
use Rattle.nz_machine.specs.rules.Vectors.{unless_stray}
use Rattle.nz_machine.specs.rules.Views.{enter_view}

-- ---- what the leader sends

-- The keys of the leader's log from a place on.
abbrev pub log_mod_from : ReplicaData → ℕ → LogModBody
log_mod_from s start = record { view = s.view; vector = s.vector; commit = s.commit; start = start; keys = take MAX_KEYS (drop start (keys_of s.log.entries)) }

-- Those from where the replica's log agrees with the leader's.
abbrev pub log_mod_to : ReplicaData → ℕ → Out
log_mod_to s r = (Replica r, LogMod (log_mod_from s (slice_index s.ack r)))

-- At a tick the leader in normal operation sends one to each of the others.
abbrev pub log_mods_to_others : ℕ → ℕ → ReplicaData → List Out
log_mods_to_others f me s = map (log_mod_to s) (others f me)

-- ---- how a follower takes it

-- How many entries are synced, for the leader.
abbrev pub sync_report_to : ℕ → ReplicaData → Out
sync_report_to leader s = (Replica leader, SyncReport (record { view = s.view; synced = s.log.synced }))

-- The entry with the id beyond the synced ones, in early or in late.
abbrev pub entry_of_id : ReplicaData → Id → Option Entry
entry_of_id s id = option_or (find_id (unsynced_part s.log) id) (option_or (find_id s.early id) (find_id s.late id))

-- Whether the id is in log, early or late.
abbrev pub is_held : ReplicaData → Id → Bool
is_held s id = has_id (keys_of s.log.entries) id || (has_id (keys_of s.early) id || has_id (keys_of s.late) id)

-- Whether the key may be the next that is synced: it is above the last synced one, its id is not among the
-- synced ones, and the log has room.
abbrev pub may_sync : ReplicaData → Key → Bool
may_sync s key =
    is_above_last (keys_of (synced_part s.log)) key
    && (not (has_id (keys_of (synced_part s.log)) (id_of key)) && nat_lt (length s.log.entries) MAX_ENTRIES)

-- The entry is put at the end of the synced part. What loses its place to it goes to late, and its id leaves
-- the rest of the log, early and late.
abbrev pub synced_with : ReplicaData → Entry → ReplicaData
synced_with s e =
    record s {
      log = log_with_synced s.log e;
      early = without s.early (id_of e.key);
      late = without (s.late ++ displaced_entries s.log e) (id_of e.key);
    }

-- What follows where the entry was found, and what is answered where it was not.
abbrev pub if_found : Option Entry → ReplicaData × List Key → (Entry → ReplicaData × List Key) → ReplicaData × List Key
if_found None missing next = missing
if_found (Some e) missing next = next e

-- The keys in turn, each with the command that is found for its id: the state, and the keys from the first on
-- whose id is found nowhere. The taking stops at a key that may not be synced.
unfoldable pub sync_keys : ReplicaData → List Key → ReplicaData × List Key
sync_keys s [] = (s, [])
sync_keys s (key ∷ keys) =
    if may_sync s key
    then if_found (entry_of_id s (id_of key)) (s, key ∷ keys) (λ e. sync_keys (synced_with s (record { key = key; command = e.command })) keys)
    else (s, [])

-- Early entries whose key is not above the last of the log go to late.
abbrev pub is_still_early : ReplicaData → Entry → Bool
is_still_early s e = is_above_last (keys_of s.log.entries) e.key

-- Early entries that are not above the log's last go to late.
abbrev pub overtaken_to_late : ReplicaData → ReplicaData
overtaken_to_late s =
    record s {
      early = filter (is_still_early s) s.early;
      late = s.late ++ filter (λ e. not (is_still_early s e)) s.early;
    }

-- What the leader committed is committed, as far as it is synced here.
abbrev pub committed_to : ReplicaData → ℕ → ReplicaData
committed_to s commit = record s { commit = max s.commit (min commit s.log.synced) }

-- The slow replies for the entries that are synced since a count, in their order.
abbrev pub replies_since : ReplicaData → ℕ → List Out
replies_since s count =
    flat_map (λ e. slow_replies s (id_of e.key) (lookup (id_eq (id_of e.key)) s.origin)) (drop count (synced_part s.log))

-- The ids of some keys that are found nowhere.
abbrev pub missing_ids : ReplicaData → List Key → List Id
missing_ids s keys = filter (λ id. not (is_held s id)) (map id_of keys)

-- A fetch of the ids from the leader, if there are any.
abbrev pub fetch_from : ℕ → ReplicaData → List Id → List Out
fetch_from leader s [] = []
fetch_from leader s (id ∷ ids) = (Replica leader, Fetch (record { view = s.view; ids = id ∷ ids })) ∷ []

-- The end of the rule, after `sync_keys`. Its arguments are the state before, the leader, its commit, and the result
-- of `sync_keys`.
abbrev pub after_taking_keys : ReplicaData → ℕ → ℕ → ReplicaData × List Key → ReplicaData × List Out
after_taking_keys before leader commit (s, missing) =
    let after = committed_to (overtaken_to_late s) commit in
    (after, replies_since after before.log.synced ++ (fetch_from leader after (missing_ids after missing) ++ sync_report_to leader after ∷ []))

-- The follower has heard from its leader.
abbrev pub after_hearing : ReplicaData → ReplicaData
after_hearing s = record s { quiet = 0 }

-- The first key belongs to the place start: the keys before the first place that is not synced are passed over.
-- Where a place between is missing, the follower only reports its sync point.
abbrev pub after_log_mod : ℕ → LogModBody → ReplicaData → ReplicaData × List Out
after_log_mod leader b s =
    if nat_lt s.log.synced b.start then (s, sync_report_to leader s ∷ [])
    else after_taking_keys s leader b.commit (sync_keys s (drop (s.log.synced - b.start) b.keys))

-- Whether the leader of a later view is heard.
abbrev pub hears_later_leader : ℕ → ReplicaData → ℕ → ℕ → Bool
hears_later_leader f s view sender = is_up s.status && (nat_lt s.view view && (sender == leader_of f view))

-- One of a later view is a reason to enter it. One of the own view is taken.
unfoldable pub log_mod_rule : ℕ → ℕ → ReplicaData → ℕ → LogModBody → ReplicaData × List Out
log_mod_rule f me s sender b =
    if hears_later_leader f s b.view sender then unless_stray me s sender b.vector (enter_view f me b.view)
    else (if hears_leader f me s b.view sender then unless_stray me s sender b.vector (λ t. after_log_mod sender b (after_hearing t))
    else (s, []))

-- ---- fetches

-- Whether a fetch asks for the entry.
abbrev pub is_asked : List Id → Entry → Bool
is_asked ids e = list_any (λ id. id_eq id (id_of e.key)) ids

-- The leader replies with the asked entries that its log has, in their order.
unfoldable pub fetch_rule : ℕ → ℕ → ReplicaData → ℕ → FetchBody → ReplicaData × List Out
fetch_rule f me s sender b =
    if leads_view f me s && (b.view == s.view)
    then (s, (Replica sender, FetchReply (record { view = s.view; entries = filter (is_asked b.ids) s.log.entries })) ∷ [])
    else (s, [])

-- An entry goes to late where its id is held nowhere and there is room.
abbrev pub with_late_entry : ReplicaData → Entry → ReplicaData
with_late_entry s e = if is_held s (id_of e.key) || is_full s then s else record s { late = s.late ++ e ∷ [] }

-- The entries in turn, each kept in late where it may be.
unfoldable pub with_late_entries : ReplicaData → List Entry → ReplicaData
with_late_entries s [] = s
with_late_entries s (e ∷ es) = with_late_entries (with_late_entry s e) es

-- A follower keeps in late what its leader sends.
unfoldable pub fetch_reply_rule : ℕ → ℕ → ReplicaData → ℕ → FetchReplyBody → ReplicaData × List Out
fetch_reply_rule f me s sender b =
    if hears_leader f me s b.view sender
    then (with_late_entries s b.entries, [])
    else (s, [])

-- ---- sync reports

-- The replica's report is noted, where it is greater than the one before.
abbrev pub with_ack : ReplicaData → ℕ → ℕ → ReplicaData
with_ack s sender synced = record s { ack = slice_set s.ack sender (max (slice_index s.ack sender) synced) }

-- The f-th greatest of what the 2f others report: with the least at place 0, that at place f.
abbrev pub commit_point : ℕ → ℕ → List ℕ → ℕ
commit_point f me ack = slice_index (numbers_in_order (map (slice_index ack) (others f me))) f

-- The commit rises to what f others report.
abbrev pub with_commit : ℕ → ℕ → ReplicaData → ReplicaData
with_commit f me s = record s { commit = max s.commit (commit_point f me s.ack) }

-- The leader notes how far a replica's log agrees, and commits what f others report.
unfoldable pub sync_report_rule : ℕ → ℕ → ReplicaData → ℕ → SyncReportBody → ReplicaData × List Out
sync_report_rule f me s sender b =
    if leads_view f me s && ((b.view == s.view) && nat_le b.synced (length s.log.entries))
    then (with_commit f me (with_ack s sender b.synced), [])
    else (s, [])
