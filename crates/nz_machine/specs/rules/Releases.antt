-- The release rule: a replica's clock goes on, and what is due goes from early to the log.
use Rattle.std.specs.Prelude.{ℕ, ◌-◌, Bool, false, ◌&&◌, List, [], ◌∷◌, ◌++◌, length, min, nat_lt, if◌then◌else◌}
use Rattle.std.specs.Map.{lookup}
use Rattle.nz_base.specs.declared.key.Entry.{Entry}
use Rattle.nz_base.specs.Key.{id_eq, id_of}
use Rattle.nz_base.specs.declared.limits.TheConstants.{MAX_ENTRIES, MAX_CLOCK}
use Rattle.nz_store.specs.Sequence.{answer_after}
use Rattle.nz_store.specs.declared.command.Answer.{Answer}
use Rattle.nz_log.specs.Synced.{Log}
use Rattle.nz_buffers.specs.Buffers.{is_due}
use Rattle.nz_machine.specs.rules.State.{ReplicaData, Out}
use Rattle.nz_machine.specs.rules.Replicas.{is_normal, leads, commands, fast_replies}

-- The log with one more entry. The leader's log agrees with itself.
abbrev pub log_with_entry : Bool → Log → Entry → Log
log_with_entry is_leader log e =
    let grown = record log { entries = log.entries ++ e ∷ [] } in
    if is_leader then record grown { synced = length grown.entries } else grown

-- The leader executes the entry after the others, and keeps its answer.
abbrev pub results_with_entry : Bool → List Answer → List Entry → Entry → List Answer
results_with_entry is_leader results entries e = if is_leader then results ++ answer_after (commands entries) e.command ∷ [] else results

-- The entry is released; these are the early entries after it.
abbrev pub after_release : ℕ → ℕ → ReplicaData → Entry → List Entry → ReplicaData
after_release f me s e rest =
    record s {
      log = log_with_entry (leads f me s) s.log e;
      results = results_with_entry (leads f me s) s.results s.log.entries e;
      early = rest;
    }

-- Whether the log may have one more entry.
abbrev pub log_has_room : ReplicaData → Bool
log_has_room s = nat_lt (length s.log.entries) MAX_ENTRIES

-- What is sent when the entry was released as the log's last.
abbrev pub release_replies : ℕ → ℕ → ReplicaData → Entry → List Out
release_replies f me s e = fast_replies f me s (id_of e.key) (length s.log.entries - 1) (lookup (id_eq (id_of e.key)) s.origin)

-- An entry is released when its deadline is at most the clock and the log has room.
abbrev pub may_release : ReplicaData → Entry → Bool
may_release s e = is_due s.clock e && log_has_room s

-- Whether the first of the early entries may be released.
abbrev pub first_may : ReplicaData → List Entry → Bool
first_may s [] = false
first_may s (e ∷ es) = may_release s e

-- The early entries in turn, up to the first that may not: each is released, and a fast reply sent.
unfoldable pub releases : ℕ → ℕ → ReplicaData → List Entry → ReplicaData × List Out
releases f me s [] = (s, [])
releases f me s (e ∷ es) =
    if may_release s e then (let next = after_release f me s e es in
    let rest = releases f me next es in
    (rest.0, release_replies f me next e ++ rest.1))
    else (s, [])

-- The clock becomes the reading, and stops at its limit.
abbrev pub at_clock : ReplicaData → ℕ → ReplicaData
at_clock s clock = record s { clock = min clock MAX_CLOCK }

-- The clock is set, and in normal operation what is due is released.
unfoldable pub release_rule : ℕ → ℕ → ReplicaData → ℕ → ReplicaData × List Out
release_rule f me s clock =
    let now = at_clock s clock in
    if is_normal now.status then releases f me now now.early else (now, [])
