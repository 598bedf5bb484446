-- What a proxy of a quiet run hears in a tick, what it knows after it, and what it sends.
use Rattle.std.specs.Prelude.{◌≡◌, ◌⊎◌, ℕ, ◌+◌, ◌<◌, false, List, [], length, Option, Some, None, replicate, slice_index_or, unwrap_or}
use Rattle.std.specs.List.{AllByRecursion}
use Rattle.nz_base.specs.Cluster.{replica_count}
use Rattle.nz_base.specs.declared.actor.Actor.TheVariants.{Replica, Client}
use Rattle.nz_base.specs.declared.key.Id.{Id}
use Rattle.nz_base.specs.declared.limits.TheConstants.{UNITS_PER_TICK, MARGIN}
use Rattle.nz_base.specs.declared.key.Entry.{Entry}
use Rattle.nz_store.specs.declared.command.Answer.{Answer}
use Rattle.nz_store.specs.declared.command.Answer.TheVariants.{Done}
use Rattle.nz_store.specs.Sequence.{replies}
use Rattle.nz_log.specs.Places.{place_of, digest_at}
use Rattle.nz_msg.specs.declared.message.Path.TheVariants as paths
use Rattle.nz_msg.specs.declared.message.RequestBody.{RequestBody}
use Rattle.nz_msg.specs.declared.message.FastReplyBody.{FastReplyBody}
use Rattle.nz_msg.specs.declared.message.SlowReplyBody.{SlowReplyBody}
use Rattle.nz_msg.specs.declared.message.Message.TheVariants as messages
use Rattle.nz_machine.specs.declared.reply.Reply.{Reply}
use Rattle.nz_machine.specs.rules.State.{ProxyData, Standing, Open, Decided, Group, Out}
use Rattle.nz_machine.specs.runs.Events.{id_at}
use Rattle.nz_machine.specs.rules.Replicas.{commands}
use Rattle.nz_machine.specs.rules.Proxies.{standing_of, answer_to_client, of_fast}
use Rattle.nz_machine.specs.rules.Quorums.{decision}
use Rattle.nz_machine.specs.runs.World.{Has}
use Rattle.nz_quiet.specs.Words.{Word}
use Rattle.nz_quiet.specs.Replies.{reply_of, IsReply}

-- Each delay was one tick.
abbrev pub AreTicks : List ℕ → Type 0
AreTicks delays = AllByRecursion (λ delay. delay ≡ UNITS_PER_TICK) delays

-- The bounds on the delay that there are where each delay was one tick: that tick, and the one without samples.
abbrev pub IsBound : ℕ → Type 0
IsBound bound = (bound ≡ UNITS_PER_TICK) ⊎ (bound ≡ 10000)

-- ---- what is heard

-- What the replicas say in a tick, all the same: their crash vector, and of each request the digest and the answer.
pub record Said : Type 0 where
  pub vector : List ℕ
  pub digest : Id → List ℕ
  pub answer : Id → Answer

-- The fast reply of a replica to a request.
abbrev pub reply_to : Said → Id → ℕ → Reply
reply_to said id r = reply_of (said.digest id) said.vector (said.answer id) r

-- What replicas with this log say, none of which has crashed.
abbrev pub said_of : Group → List Entry → Said
said_of g L = record {
  vector = replicate (replica_count g.f) 0;
  digest = λ id. digest_at L (unwrap_or (place_of L id) 0);
  answer = λ id. slice_index_or (replies (commands L)) (unwrap_or (place_of L id) 0) Done;
}

-- What a proxy may hear in a tick: requests that it does not know, fast replies to requests that are open and of which
-- it has heard no reply, and slow replies to requests that are decided.
pub data MayCome (said : Said) (s : ProxyData) : Word → Type 0 where
  ComesRequest : (c : ℕ) (b : RequestBody) → standing_of s (id_at c b.num) ≡ None → MayCome said s (Client c, messages.Request b)
  ComesFast : (r : ℕ) (b : FastReplyBody) → standing_of s b.id ≡ Some (Open []) → of_fast r b ≡ reply_to said b.id r → b.delay ≡ UNITS_PER_TICK
      → MayCome said s (Replica r, messages.FastReply b)
  ComesSlow : (r : ℕ) (b : SlowReplyBody) (a : Answer) → standing_of s b.id ≡ Some (Decided a paths.Fast) → b.delay ≡ UNITS_PER_TICK
      → MayCome said s (Replica r, messages.SlowReply b)

-- The request was heard.
pub record IsAskedIn (heard : List Word) (id : Id) : Type 0 where
  pub body : RequestBody
  pub among : Has heard (Client id.client, messages.Request body)
  pub of_it : body.num ≡ id.num

-- A fast reply to the request was heard.
pub record IsRepliedIn (heard : List Word) (id : Id) : Type 0 where
  pub replica : ℕ
  pub body : FastReplyBody
  pub among : Has heard (Replica replica, messages.FastReply body)
  pub of_it : body.id ≡ id

-- ---- what is known after it

-- Replies that are noted to an open request: they decide nothing yet, and what was heard is among them.
pub record AreNoted (f : ℕ) (said : Said) (heard : List Word) (id : Id) (rs : List Reply) : Type 0 where
  pub good : AllByRecursion (IsReply (said.digest id) said.vector (said.answer id)) rs
  pub undecided : decision f rs ≡ None
  pub noted : (r : ℕ) (b : FastReplyBody) → Has heard (Replica r, messages.FastReply b) → b.id ≡ id → Has rs (reply_to said id r)

-- What is known of a request after a tick, by what was known before: the same, where nothing of it was heard or it
-- was decided; an unknown one is opened; an open one waits for more replies, or is decided fast and answered.
pub data Stands (f : ℕ) (said : Said) (heard : List Word) (outs : List Out) (id : Id) (before after : Option Standing) : Type 0 where
  Stays : after ≡ before → ¬ IsAskedIn heard id → ¬ IsRepliedIn heard id → Stands f said heard outs id before after
  Opens : before ≡ None → after ≡ Some (Open []) → IsAskedIn heard id → Stands f said heard outs id before after
  Waits : (rs : List Reply) → before ≡ Some (Open []) → after ≡ Some (Open rs) → IsRepliedIn heard id → AreNoted f said heard id rs
      → Stands f said heard outs id before after
  Decides : before ≡ Some (Open []) → after ≡ Some (Decided (said.answer id) paths.Fast) → IsRepliedIn heard id
      → Has outs (answer_to_client id (said.answer id) paths.Fast) → Stands f said heard outs id before after

-- ---- what is sent

-- The request of a client, stamped with a clock and a bound.
abbrev pub stamped : ℕ → ℕ → ℕ → RequestBody → ℕ → Out
stamped clock bound c b r =
    (Replica r, messages.Timed (record { sent = clock; deadline = clock + bound + MARGIN; id = id_at c b.num; command = b.command }))

-- What a proxy sends in a tick: requests that it heard, stamped, to replicas, and answers to open requests of which it
-- heard replies.
pub data MaySend (f : ℕ) (said : Said) (s : ProxyData) (clock : ℕ) (heard : List Word) : Out → Type 0 where
  Stamps : (c : ℕ) (b : RequestBody) (bound r : ℕ) → Has heard (Client c, messages.Request b) → IsBound bound → r < replica_count f
      → MaySend f said s clock heard (stamped clock bound c b r)
  Answers : (id : Id) → standing_of s id ≡ Some (Open []) → IsRepliedIn heard id
      → MaySend f said s clock heard (answer_to_client id (said.answer id) paths.Fast)

-- The request was stamped with one bound, for each replica.
pub record IsStampedIn (f clock : ℕ) (outs : List Out) (c : ℕ) (b : RequestBody) : Type 0 where
  pub bound : ℕ
  pub is_bound : IsBound bound
  pub each : (r : ℕ) → r < replica_count f → Has outs (stamped clock bound c b r)

-- A proxy after its clock and some messages of a tick, by its state before the tick.
pub record IsProxyAfter (f : ℕ) (said : Said) (s : ProxyData) (clock : ℕ) (heard : List Word) (t : ProxyData) (outs : List Out) : Type 0 where
  pub up : t.is_down ≡ false
  pub reads : t.clock ≡ clock
  pub count : length t.samples ≡ replica_count f
  pub samples : AllByRecursion AreTicks t.samples
  pub standings : (id : Id) → Stands f said heard outs id (standing_of s id) (standing_of t id)
  pub sends : AllByRecursion (MaySend f said s clock heard) outs
  pub requests : (c : ℕ) (b : RequestBody) → Has heard (Client c, messages.Request b) → IsStampedIn f clock outs c b

-- The request is decided fast, and its client is answered.
pub record IsAnsweredFast (said : Said) (id : Id) (t : ProxyData) (outs : List Out) : Type 0 where
  pub standing : standing_of t id ≡ Some (Decided (said.answer id) paths.Fast)
  pub sends_answer : Has outs (answer_to_client id (said.answer id) paths.Fast)
