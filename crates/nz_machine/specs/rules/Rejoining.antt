-- The rules by which a replica that has forgotten all rejoins (Michael et al., DISC 2017): it asks for vectors,
-- then for views, and then the leader of the latest view for its log.
use Rattle.std.specs.Prelude.{ℕ, ◌+◌, ◌-◌, ◌^◌, Bool, true, false, not, ◌&&◌, ◌==◌, nat_le, max, List, []}
use Rattle.std.specs.Prelude.{◌∷◌, ◌++◌, length, map, filter, if◌then◌else◌, slice_index, slice_set}
use Rattle.std.specs.List.{list_any}
use Rattle.nz_base.specs.Cluster.{leader_of, slow_size}
use Rattle.nz_base.specs.declared.limits.TheConstants.{REJOIN_ASK_TICKS}
use Rattle.nz_cv.specs.Vectors.{is_stray}
use Rattle.nz_merge.specs.Merged.{greatest}
use Rattle.nz_msg.specs.declared.message.Message.{Message}
use Rattle.nz_msg.specs.declared.message.Message.TheVariants as messages
use Rattle.nz_msg.specs.declared.message.VectorAskBody.{VectorAskBody}
use Rattle.nz_msg.specs.declared.message.VectorTellBody.{VectorTellBody}
use Rattle.nz_msg.specs.declared.message.RejoinAskBody.{RejoinAskBody}
use Rattle.nz_msg.specs.declared.message.RejoinTellBody.{RejoinTellBody}
use Rattle.nz_msg.specs.declared.message.StateAskBody.{StateAskBody}
use Rattle.nz_msg.specs.declared.message.StateTellBody.{StateTellBody}
use Rattle.nz_machine.specs.declared.data.Status.TheVariants.{Rejoining}
use Rattle.nz_machine.specs.rules.State.{ReplicaData, Out}
use Rattle.nz_machine.specs.declared.data.Phase.{Phase}
use Rattle.nz_machine.specs.declared.data.Phase.TheVariants.{Vectors, Views, Log}
use Rattle.nz_machine.specs.declared.data.ToldView.{ToldView}
use Rattle.nz_machine.specs.rules.Replicas.{is_normal, is_rejoining, is_down, leads_view, first_replica, crashed_replica, to_others, to_replica}
use Rattle.nz_machine.specs.rules.Vectors.{unless_stray}
use Rattle.nz_machine.specs.rules.Adopting.{normal_in}

-- Counters of a crash vector stop here.
abbrev pub last_counter : ℕ
last_counter = 2 ^ 32 - 1

-- ---- crash and restart

-- A replica that crashes forgets all. It is the end of an incarnation, in whatever mode.
unfoldable pub crash_rule : ℕ → ReplicaData → ReplicaData × List Out
crash_rule f s = (crashed_replica f, [])

-- It comes back as it was at first, but has to rejoin.
abbrev pub restarted_replica : ℕ → ℕ → ReplicaData
restarted_replica f nonce = let s = first_replica f in record s { status = Rejoining; rejoin = record s.rejoin { nonce = nonce } }

-- In the first phase the others are asked for their vectors.
abbrev pub vector_ask_message : ReplicaData → Message
vector_ask_message s = messages.VectorAsk (record { nonce = s.rejoin.nonce })

-- A restart begins the next incarnation. Only a replica that is down restarts.
unfoldable pub restart_rule : ℕ → ℕ → ReplicaData → ℕ → ReplicaData × List Out
restart_rule f me s nonce =
    if is_down s.status then (let t = restarted_replica f nonce in (t, to_others f me (vector_ask_message t))) else (s, [])

-- ---- the answers of a replica in normal operation

-- A replica in normal operation tells its vector.
unfoldable pub vector_ask_rule : ReplicaData → ℕ → VectorAskBody → ReplicaData × List Out
vector_ask_rule s sender b =
    if is_normal s.status then (s, to_replica sender (messages.VectorTell (record { nonce = b.nonce; vector = s.vector }))) else (s, [])

-- The answer to a rejoin-ask, with its nonce.
abbrev pub rejoin_tell_message : ReplicaData → ℕ → Message
rejoin_tell_message s nonce = messages.RejoinTell (record { nonce = nonce; view = s.view; vector = s.vector })

-- It merges the vector of who rejoins, and tells its view with its own.
unfoldable pub rejoin_ask_rule : ℕ → ReplicaData → ℕ → RejoinAskBody → ReplicaData × List Out
rejoin_ask_rule me s sender b =
    if is_normal s.status then unless_stray me s sender b.vector (λ t. (t, to_replica sender (rejoin_tell_message t b.nonce))) else (s, [])

-- The answer to a state-ask, with its nonce.
abbrev pub state_tell_message : ReplicaData → ℕ → Message
state_tell_message s nonce = messages.StateTell (record { nonce = nonce; view = s.view; vector = s.vector; commit = s.commit; entries = s.log.entries })

-- The leader answers, in the view that is asked for or a later one.
unfoldable pub state_ask_rule : ℕ → ℕ → ReplicaData → ℕ → StateAskBody → ReplicaData × List Out
state_ask_rule f me s sender b =
    if leads_view f me s && nat_le b.view s.view
    then unless_stray me s sender b.vector (λ t. (t, to_replica sender (state_tell_message t b.nonce)))
    else (s, [])

-- ---- how far a rejoin is

-- Whether two phases are the same.
abbrev pub is_phase : Phase → Phase → Bool
is_phase Vectors Vectors = true
is_phase Views Views = true
is_phase Log Log = true
is_phase _ _ = false

-- Whether the replica rejoins, is in this phase, and gave this nonce.
abbrev pub awaits : Phase → ReplicaData → ℕ → Bool
awaits phase s nonce = is_rejoining s.status && (is_phase s.rejoin.phase phase && (nonce == s.rejoin.nonce))

-- Whether this many make a quorum: f + 1 at least.
abbrev pub is_enough : ℕ → ℕ → Bool
is_enough f count = nat_le (slow_size f) count

-- ---- the first phase: vectors

-- The sender has told its vector, and so what it knows of the replica's own counter.
abbrev pub with_teller : ℕ → ReplicaData → ℕ → List ℕ → ReplicaData
with_teller me s sender vector =
    let r = s.rejoin in
    record s {
      rejoin = record r {
        claim = max r.claim (slice_index vector me);
        tellers = if list_any (λ t. t == sender) r.tellers then r.tellers else r.tellers ++ sender ∷ [];
      };
    }

-- In the second phase the others are asked for their views. They get the new counter with it.
abbrev pub rejoin_ask_message : ReplicaData → Message
rejoin_ask_message s = messages.RejoinAsk (record { nonce = s.rejoin.nonce; vector = s.vector })

-- The second phase starts with nothing collected: the others are asked for their views.
abbrev pub ask_views : ℕ → ℕ → ReplicaData → ReplicaData × List Out
ask_views f me s =
    let asking = record s { since = 0; rejoin = record s.rejoin { phase = Views; tells = [] } } in
    (asking, to_others f me (rejoin_ask_message asking))

-- The own counter becomes one more than any teller knew.
abbrev pub with_new_counter : ℕ → ReplicaData → ReplicaData
with_new_counter me s = record s { vector = slice_set s.vector me (s.rejoin.claim + 1) }

-- With enough tellers the second phase starts, unless there is no greater counter.
abbrev pub after_vectors : ℕ → ℕ → ReplicaData → ReplicaData × List Out
after_vectors f me s =
    if is_enough f (length s.rejoin.tellers) && not (s.rejoin.claim == last_counter) then ask_views f me (with_new_counter me s) else (s, [])

-- A vector is taken in the first phase, for this restart.
unfoldable pub vector_tell_rule : ℕ → ℕ → ReplicaData → ℕ → VectorTellBody → ReplicaData × List Out
vector_tell_rule f me s sender b =
    if awaits Vectors s b.nonce
    then unless_stray me s sender b.vector (λ t. after_vectors f me (with_teller me t sender b.vector))
    else (s, [])

-- ---- the second phase: views

-- With these views collected.
abbrev pub with_tells : ReplicaData → List ToldView → ReplicaData
with_tells s tells = record s { rejoin = record s.rejoin { tells = tells } }

-- The view is collected in place of an earlier one of its sender, and those that are now stray go.
abbrev pub with_tell : ReplicaData → ℕ → RejoinTellBody → ReplicaData
with_tell s sender b =
    let others = filter (λ t. not (t.sender == sender)) s.rejoin.tells in
    let tells = others ++ record { sender = sender; view = b.view; vector = b.vector } ∷ [] in
    with_tells s (filter (λ t. not (is_stray t.vector t.sender s.vector)) tells)

-- The latest view that was told.
abbrev pub latest_view : ReplicaData → ℕ
latest_view s = greatest (map (λ t. t.view) s.rejoin.tells)

-- In the third phase the leader of the wanted view is asked.
abbrev pub state_ask_message : ReplicaData → Message
state_ask_message s = messages.StateAsk (record { nonce = s.rejoin.nonce; view = s.rejoin.wanted; vector = s.vector })

-- The third phase: the leader of the view is asked for its log.
abbrev pub ask_log : ℕ → ReplicaData → ℕ → ReplicaData × List Out
ask_log f s view =
    let asking = record s { since = 0; rejoin = record s.rejoin { phase = Log; wanted = view } } in
    (asking, to_replica (leader_of f view) (state_ask_message asking))

-- With enough views the third phase starts. A replica that led the latest one itself waits until there is a later.
abbrev pub after_views : ℕ → ℕ → ReplicaData → ReplicaData × List Out
after_views f me s =
    if is_enough f (length s.rejoin.tells)
    then (if leader_of f (latest_view s) == me then (with_tells s [], []) else ask_log f s (latest_view s))
    else (s, [])

-- A view is taken in the second phase, for this restart.
unfoldable pub rejoin_tell_rule : ℕ → ℕ → ReplicaData → ℕ → RejoinTellBody → ReplicaData × List Out
rejoin_tell_rule f me s sender b =
    if awaits Views s b.nonce then unless_stray me s sender b.vector (λ t. after_views f me (with_tell t sender b)) else (s, [])

-- ---- the third phase: the log

-- The leader of the wanted view or a later one tells its log, and the replica is in normal operation again.
unfoldable pub state_tell_rule : ℕ → ℕ → ReplicaData → ℕ → StateTellBody → ReplicaData × List Out
state_tell_rule f me s sender b =
    if awaits Log s b.nonce && (nat_le s.rejoin.wanted b.view && (sender == leader_of f b.view))
    then unless_stray me s sender b.vector (λ t. (normal_in t b.view b.entries b.commit, []))
    else (s, [])

-- ---- the timer

-- In each phase what was asked is asked again; from the third the replica goes back to the second.
abbrev pub ask_again : Phase → ℕ → ℕ → ReplicaData → ReplicaData × List Out
ask_again Vectors f me s = (s, to_others f me (vector_ask_message s))
ask_again Views f me s = (s, to_others f me (rejoin_ask_message s))
ask_again Log f me s = ask_views f me s

-- After each period the replica asks again.
abbrev pub rejoin_timer : ℕ → ℕ → ReplicaData → ReplicaData × List Out
rejoin_timer f me s =
    let later = record s { since = s.since + 1 } in
    if later.since == REJOIN_ASK_TICKS then ask_again s.rejoin.phase f me (record later { since = 0 }) else (later, [])
