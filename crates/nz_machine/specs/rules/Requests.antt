-- The request rule: what a replica in normal operation does with a timed message.
use Rattle.std.specs.Prelude.{ℕ, ◌+◌, ◌-◌, Bool, ◌&&◌, not, List, [], ◌∷◌, ◌++◌, length, Option, Some, None, nat_lt, nat_le, min, if◌then◌else◌}
use Rattle.std.specs.Map.{lookup}
use Rattle.indexmap.specs.IndexMap.{insert_entry}
use Rattle.nz_base.specs.declared.key.Id.{Id}
use Rattle.nz_base.specs.declared.key.Entry.{Entry}
use Rattle.nz_base.specs.Key.{id_eq, id_of}
use Rattle.nz_base.specs.Log.{keys_of, has_id, is_above_last}
use Rattle.nz_base.specs.declared.limits.TheConstants.{MAX_DEADLINE, MAX_DELAY, MAX_ENTRIES}
use Rattle.nz_log.specs.Places.{place_of, last_entry}
use Rattle.nz_buffers.specs.Buffers.{insert_by_key, without}
use Rattle.nz_msg.specs.declared.message.TimedBody.{TimedBody}
use Rattle.nz_machine.specs.declared.data.Origin.{Origin}
use Rattle.nz_machine.specs.rules.State.{ReplicaData, Out}
use Rattle.nz_machine.specs.rules.Replicas.{leads, is_normal, key_with_deadline, fast_replies, slow_replies}

-- ---- where the request came from

-- Where a request came from: the proxy, and how long it was on its way.
abbrev pub origin_of : ReplicaData → ℕ → TimedBody → Origin
origin_of s proxy b = record { proxy = proxy; delay = min (s.clock - b.sent) MAX_DELAY }

-- The request's origin is noted, in place of an earlier one.
abbrev pub with_origin : ReplicaData → ℕ → TimedBody → ReplicaData
with_origin s proxy b = record s { origin = insert_entry id_eq s.origin b.id (origin_of s proxy b) }

-- ---- a request that is in the log

-- A follower replies slowly where the entry is synced. Else the reply is fast.
abbrev pub replies_at : ℕ → ℕ → ReplicaData → Id → ℕ → List Out
replies_at f me s id place =
    let origin = lookup (id_eq id) s.origin in
    if not (leads f me s) && nat_lt place s.log.synced then slow_replies s id origin else fast_replies f me s id place origin

-- ---- a request that is not

-- The entry goes to early, and one of its id leaves late.
abbrev pub to_early : ReplicaData → Entry → ReplicaData
to_early s e = record s { early = insert_by_key s.early e; late = without s.late (id_of e.key) }

-- The entry goes to late, unless late holds its id.
abbrev pub to_late : ReplicaData → Entry → ReplicaData
to_late s e = if has_id (keys_of s.late) (id_of e.key) then s else record s { late = s.late ++ e ∷ [] }

-- The request as an entry with this deadline.
abbrev pub entry_at : ℕ → TimedBody → Entry
entry_at deadline b = record { key = key_with_deadline deadline b.id; command = b.command }

-- The deadline after the last entry's.
abbrev pub next_deadline : Option Entry → ℕ
next_deadline None = 1
next_deadline (Some e) = e.key.deadline + 1

-- The leader gives the request the deadline after the log's last, where that is not above MAX_DEADLINE.
abbrev pub after_restamp : ReplicaData → TimedBody → ReplicaData
after_restamp s b =
    let deadline = next_deadline (last_entry s.log.entries) in
    if nat_le deadline MAX_DEADLINE then to_early s (entry_at deadline b) else s

-- A key above the log's last is early. Another request is late, and the leader stamps it anew.
abbrev pub after_placing : ℕ → ℕ → ReplicaData → TimedBody → ReplicaData
after_placing f me s b =
    if is_above_last (keys_of s.log.entries) (key_with_deadline b.deadline b.id) then to_early s (entry_at b.deadline b)
    else (if leads f me s then after_restamp s b else to_late s (entry_at b.deadline b))

-- Whether log, early and late together hold as many entries as a log may.
abbrev pub is_full : ReplicaData → Bool
is_full s = nat_le MAX_ENTRIES (length s.log.entries + length s.early + length s.late)

-- A request that is early already, or finds no room, changes nothing. Any other is placed.
abbrev pub after_new_request : ℕ → ℕ → ReplicaData → TimedBody → ReplicaData
after_new_request f me s b = if has_id (keys_of s.early) b.id then s else (if is_full s then s else after_placing f me s b)

-- ---- the rule

-- A request that the log has, at this place, is replied to. Any other goes to a buffer.
abbrev pub after_timed : ℕ → ℕ → ReplicaData → TimedBody → Option ℕ → ReplicaData × List Out
after_timed f me s b (Some place) = (s, replies_at f me s b.id place)
after_timed f me s b None = (after_new_request f me s b, [])

-- In normal operation the origin is noted, and the request is replied to or goes to a buffer.
unfoldable pub request_rule : ℕ → ℕ → ReplicaData → ℕ → TimedBody → ReplicaData × List Out
request_rule f me s proxy b =
    if is_normal s.status then after_timed f me (with_origin s proxy b) b (place_of s.log.entries b.id)
    else (s, [])
