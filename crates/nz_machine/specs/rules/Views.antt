-- The rules by which a replica leaves its view for a later one, and its timers for that.
use Rattle.std.specs.Prelude.{ℕ, ◌+◌, ◌%◌, ◌==◌, nat_lt, min, List, [], ◌++◌, if◌then◌else◌}
use Rattle.nz_base.specs.declared.limits.TheConstants.{MAX_VIEW, VIEW_TIMEOUT_TICKS, VIEW_ASK_TICKS}
use Rattle.nz_msg.specs.declared.message.Message.{Message}
use Rattle.nz_msg.specs.declared.message.Message.TheVariants as messages
use Rattle.nz_msg.specs.declared.message.ViewAskBody.{ViewAskBody}
use Rattle.nz_machine.specs.declared.data.Status.TheVariants.{ViewChange}
use Rattle.nz_machine.specs.rules.State.{ReplicaData, Out}
use Rattle.nz_machine.specs.rules.Replicas.{is_up, leader, leads, to_others, to_replica}

-- ---- entering a view

-- The state in a view change: nothing is collected yet, and both timers start anew.
abbrev pub in_view_change : ReplicaData → ℕ → ReplicaData
in_view_change s view = record s { status = ViewChange; view = view; reports = []; since = 0; quiet = 0 }

-- The others are asked to enter the view.
abbrev pub view_ask_message : ReplicaData → Message
view_ask_message s = messages.ViewAsk (record { view = s.view })

-- What the replica reports to the leader of its view.
abbrev pub view_change_message : ReplicaData → Message
view_change_message s =
    let log = s.log in
    messages.ViewChange (record { view = s.view; last = s.last; vector = s.vector; synced = log.synced; commit = s.commit; entries = log.entries })

-- The leader of the view hears it, unless it is the replica itself.
abbrev pub to_leader : ℕ → ℕ → ReplicaData → Message → List Out
to_leader f me s m = if leads f me s then [] else to_replica (leader f s) m

-- What is sent for a view: the others are asked, and then its leader gets the report.
abbrev pub view_calls : ℕ → ℕ → ReplicaData → List Out
view_calls f me s = to_others f me (view_ask_message s) ++ to_leader f me s (view_change_message s)

-- A view is entered, and everybody hears of it.
unfoldable pub enter_view : ℕ → ℕ → ℕ → ReplicaData → ReplicaData × List Out
enter_view f me view s = let entered = in_view_change s view in (entered, view_calls f me entered)

-- The next view is entered, where there is one.
abbrev pub enter_next : ℕ → ℕ → ReplicaData → ReplicaData × List Out
enter_next f me s = if nat_lt s.view MAX_VIEW then enter_view f me (s.view + 1) s else (s, [])

-- The view is entered where it is later than the replica's own.
abbrev pub enter_later : ℕ → ℕ → ℕ → ReplicaData → ReplicaData × List Out
enter_later f me view s = if nat_lt s.view view then enter_view f me view s else (s, [])

-- ---- timers

-- A follower in normal operation counts the ticks since it heard from its leader.
abbrev pub quiet_timer : ℕ → ℕ → ReplicaData → ReplicaData × List Out
quiet_timer f me s =
    let later = record s { quiet = min (s.quiet + 1) VIEW_TIMEOUT_TICKS } in
    if later.quiet == VIEW_TIMEOUT_TICKS then enter_next f me later else (later, [])

-- In a view change: at the end of the count it begins anew, and the next view is entered, where there is one. On
-- the way the replica asks again now and then.
abbrev pub change_timer : ℕ → ℕ → ReplicaData → ReplicaData × List Out
change_timer f me s =
    let later = record s { since = s.since + 1 } in
    if later.since == VIEW_TIMEOUT_TICKS then enter_next f me (record later { since = 0 })
    else (if later.since % VIEW_ASK_TICKS == 0 then (later, view_calls f me later) else (later, []))

-- ---- the rules

-- The replica learns that the leader is lost.
unfoldable pub alarm_rule : ℕ → ℕ → ReplicaData → ReplicaData × List Out
alarm_rule f me s = if is_up s.status then enter_next f me s else (s, [])

-- Another replica is in a view: it is entered where it is later.
unfoldable pub view_ask_rule : ℕ → ℕ → ReplicaData → ViewAskBody → ReplicaData × List Out
view_ask_rule f me s b = if is_up s.status then enter_later f me b.view s else (s, [])
