-- The rules of a proxy.
use Rattle.std.specs.Prelude.{ℕ, ◌+◌, true, false, List, [], ◌∷◌, map, replicate, Option, Some, None, min, if◌then◌else◌}
use Rattle.std.specs.Map.{lookup}
use Rattle.indexmap.specs.IndexMap.{insert_entry}
use Rattle.nz_base.specs.Cluster.{replica_count}
use Rattle.nz_base.specs.Key.{id_eq}
use Rattle.nz_base.specs.declared.actor.Actor.TheVariants.{Replica, Client}
use Rattle.nz_base.specs.declared.key.Id.{Id}
use Rattle.nz_base.specs.declared.limits.TheConstants.{MAX_CLOCK, MARGIN}
use Rattle.nz_store.specs.declared.command.Answer.{Answer}
use Rattle.nz_window.specs.Samples.{with_sample, bound_of}
use Rattle.nz_msg.specs.declared.message.Path.{Path}
use Rattle.nz_msg.specs.declared.message.RequestBody.{RequestBody}
use Rattle.nz_msg.specs.declared.message.FastReplyBody.{FastReplyBody}
use Rattle.nz_msg.specs.declared.message.SlowReplyBody.{SlowReplyBody}
use Rattle.nz_msg.specs.declared.message.Message.TheVariants as messages
use Rattle.nz_msg.specs.declared.message.Message.TheVariants.{Timed}
use Rattle.nz_machine.specs.declared.reply.Reply.{Reply}
use Rattle.nz_machine.specs.declared.reply.Reply.TheVariants.{Fast, Slow}
use Rattle.nz_machine.specs.rules.State.{ProxyData, Standing, Open, Decided, Out}
use Rattle.nz_machine.specs.rules.Replicas.{numbers_below}
use Rattle.nz_machine.specs.rules.Quorums.{Chosen, decision, answer_in, with_note}

-- What is known of the request is this.
abbrev pub with_standing : ProxyData → Id → Standing → ProxyData
with_standing s id standing = record s { standings = insert_entry id_eq s.standings id standing }

-- What is known of a request.
abbrev pub standing_of : ProxyData → Id → Option Standing
standing_of s id = lookup (id_eq id) s.standings

-- The answer to a request, for its client.
abbrev pub answer_to_client : Id → Answer → Path → Out
answer_to_client id answer path = (Client id.client, messages.Answer (record { num = id.num; answer = answer; path = path }))

-- ---- a request of a client

-- A request is stamped with the clock, the bound on the delay and the margin.
abbrev pub timed_to : ProxyData → Id → List ℕ → ℕ → Out
timed_to s id command replica =
    (Replica replica, Timed (record { sent = s.clock; deadline = s.clock + bound_of s.samples + MARGIN; id = id; command = command }))

-- The stamped request, to each replica.
abbrev pub timed_to_all : ℕ → ProxyData → Id → List ℕ → List Out
timed_to_all f s id command = map (timed_to s id command) (numbers_below (replica_count f))

-- An unknown request is opened and stamped, and an open one is stamped again. A decided one is answered again.
abbrev pub after_stamp : ℕ → ProxyData → Id → List ℕ → Option Standing → ProxyData × List Out
after_stamp f s id command None = (with_standing s id (Open []), timed_to_all f s id command)
after_stamp f s id command (Some (Open replies)) = (s, timed_to_all f s id command)
after_stamp f s id command (Some (Decided answer path)) = (s, answer_to_client id answer path ∷ [])

-- A client asks: its request is stamped, or answered again.
unfoldable pub stamp_rule : ℕ → ProxyData → ℕ → RequestBody → ProxyData × List Out
stamp_rule f s client b = let id : Id = record { client = client; num = b.num } in after_stamp f s id b.command (standing_of s id)

-- ---- a reply of a replica

-- What was decided is kept, and the client is answered.
abbrev pub after_chosen_answer : ProxyData → Id → List Reply → Path → Option Answer → ProxyData × List Out
after_chosen_answer s id replies path None = (with_standing s id (Open replies), [])
after_chosen_answer s id replies path (Some answer) = (with_standing s id (Decided answer path), answer_to_client id answer path ∷ [])

-- The replies are kept, or the decision that they give.
abbrev pub after_choice : ProxyData → Id → List Reply → Option Chosen → ProxyData × List Out
after_choice s id replies None = (with_standing s id (Open replies), [])
after_choice s id replies (Some chosen) = after_chosen_answer s id replies chosen.path (answer_in chosen.reply)

-- A reply to a request that is open is noted. Another one changes nothing.
abbrev pub after_replica_reply : ℕ → ProxyData → Id → Reply → Option Standing → ProxyData × List Out
after_replica_reply f s id reply (Some (Open replies)) = let noted = with_note replies reply in after_choice s id noted (decision f noted)
after_replica_reply f s id reply _ = (s, [])

-- Each reply's delay is a sample of its replica.
unfoldable pub reply_rule : ℕ → ProxyData → ℕ → Id → ℕ → Reply → ProxyData × List Out
reply_rule f s replica id delay reply = after_replica_reply f (record s { samples = with_sample s.samples replica delay }) id reply (standing_of s id)

-- A fast reply as it is noted.
abbrev pub of_fast : ℕ → FastReplyBody → Reply
of_fast replica b = Fast replica b.view b.digest b.vector b.answer

-- A slow reply as it is noted.
abbrev pub of_slow : ℕ → SlowReplyBody → Reply
of_slow replica b = Slow replica b.view

-- ---- ticks, crashes and restarts

-- The clock becomes the reading.
unfoldable pub clock_rule : ProxyData → ℕ → ProxyData
clock_rule s clock = record s { clock = min clock MAX_CLOCK }

-- The state at the start.
abbrev pub first_proxy : ℕ → ProxyData
first_proxy f = record { is_down = false; clock = 0; samples = replicate (replica_count f) []; standings = [] }

-- A proxy that crashes forgets all.
abbrev pub crashed_proxy : ℕ → ProxyData
crashed_proxy f = record (first_proxy f) { is_down = true }

-- A proxy that is down comes back as it was at the start. Any other stays as it is.
abbrev pub restarted_proxy : ℕ → ProxyData → ProxyData
restarted_proxy f s = if s.is_down then first_proxy f else s
