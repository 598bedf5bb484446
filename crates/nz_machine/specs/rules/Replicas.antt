-- Definitions that several rules of a replica use.
use Rattle.std.specs.Prelude.{ℕ, zero, suc, Bool, true, false, not, ◌&&◌, List, [], ◌∷◌, ◌++◌, replicate}
use Rattle.std.specs.Prelude.{map, filter, Option, Some, None, ◌==◌, if◌then◌else◌, slice_get}
use Rattle.nz_base.specs.Cluster.{replica_count, leader_of}
use Rattle.nz_base.specs.declared.actor.Actor.TheVariants.{Replica, Proxy}
use Rattle.nz_base.specs.declared.key.Id.{Id}
use Rattle.nz_base.specs.declared.key.Key.{Key}
use Rattle.nz_base.specs.declared.key.Entry.{Entry}
use Rattle.nz_store.specs.declared.command.Answer.{Answer}
use Rattle.nz_log.specs.Places.{digest_at}
use Rattle.nz_msg.specs.declared.message.Message.{Message}
use Rattle.nz_msg.specs.declared.message.Message.TheVariants.{FastReply, SlowReply}
use Rattle.nz_machine.specs.declared.data.Status.{Status}
use Rattle.nz_machine.specs.declared.data.Status.TheVariants.{Normal, ViewChange, Rejoining, Down}
use Rattle.nz_machine.specs.declared.data.Origin.{Origin}
use Rattle.nz_machine.specs.declared.data.Phase.TheVariants as phases
use Rattle.nz_machine.specs.rules.State.{ReplicaData, Out}

-- The numbers below n.
abbrev pub numbers_below : ℕ → List ℕ
numbers_below zero = []
numbers_below (suc n) = numbers_below n ++ n ∷ []

-- ---- modes

-- In normal operation.
abbrev pub is_normal : Status → Bool
is_normal Normal = true
is_normal _ = false

-- In a view change.
abbrev pub is_changing : Status → Bool
is_changing ViewChange = true
is_changing _ = false

-- In normal operation or in a view change, so neither down nor rejoining.
abbrev pub is_up : Status → Bool
is_up Rejoining = false
is_up Down = false
is_up _ = true

-- On the way back after a crash.
abbrev pub is_rejoining : Status → Bool
is_rejoining Rejoining = true
is_rejoining _ = false

-- Out of service: it has crashed or run out of memory, and is not back.
abbrev pub is_down : Status → Bool
is_down Down = true
is_down _ = false

-- The leader of the view that the replica is in, in whatever mode.
abbrev pub leader : ℕ → ReplicaData → ℕ
leader f s = leader_of f s.view

-- Whether the replica with this number leads the view that it is in, in whatever mode.
abbrev pub leads : ℕ → ℕ → ReplicaData → Bool
leads f me s = leader f s == me

-- Whether it leads its view in normal operation.
abbrev pub leads_view : ℕ → ℕ → ReplicaData → Bool
leads_view f me s = is_normal s.status && leads f me s

-- Whether a follower in normal operation hears the leader of its view: the view that is named is its own, and
-- the sender leads it.
abbrev pub hears_leader : ℕ → ℕ → ReplicaData → ℕ → ℕ → Bool
hears_leader f me s view sender = is_normal s.status && ((view == s.view) && ((sender == leader_of f view) && not (leads f me s)))

-- ---- stages of a rule

-- One stage of a rule after another: the second goes on from the state that the first leaves, and what it
-- sends follows what the first sends.
infixl 10 ◌and_then◌
abbrev pub ◌and_then◌ : ReplicaData × List Out → (ReplicaData → ReplicaData × List Out) → ReplicaData × List Out
t and_then next = let u = next t.0 in (u.0, t.1 ++ u.1)

-- ---- receivers

-- The other replicas, in rising number.
abbrev pub others : ℕ → ℕ → List ℕ
others f me = filter (λ r. not (r == me)) (numbers_below (replica_count f))

-- A message to each of the others.
abbrev pub to_others : ℕ → ℕ → Message → List Out
to_others f me m = map (λ r. (Replica r, m)) (others f me)

-- A message to one replica.
abbrev pub to_replica : ℕ → Message → List Out
to_replica r m = (Replica r, m) ∷ []

-- ---- replies

-- The commands of some entries, in order.
abbrev pub commands : List Entry → List (List ℕ)
commands entries = map (λ e. e.command) entries

-- The key of a request with this deadline.
abbrev pub key_with_deadline : ℕ → Id → Key
key_with_deadline deadline id = record { deadline = deadline; client = id.client; num = id.num }

-- The leader has an answer to the entry at a place.
abbrev pub answer_at : ℕ → ℕ → ReplicaData → ℕ → Option Answer
answer_at f me s place = if leads f me s then slice_get s.results place else None

-- A fast reply for the entry at a place: the digest of the log up to there, and at the leader the answer.
abbrev pub fast_reply_to : ℕ → ℕ → ReplicaData → Id → ℕ → Origin → Out
fast_reply_to f me s id place origin = (
  Proxy origin.proxy,
  FastReply (record {
    view = s.view;
    id = id;
    digest = digest_at s.log.entries place;
    vector = s.vector;
    delay = origin.delay;
    answer = answer_at f me s place;
  }),
)

-- A slow reply to a request.
abbrev pub slow_reply_to : ReplicaData → Id → Origin → Out
slow_reply_to s id origin = (Proxy origin.proxy, SlowReply (record { view = s.view; id = id; delay = origin.delay }))

-- A fast reply for the entry at a place, to where its request came from, if that is known.
abbrev pub fast_replies : ℕ → ℕ → ReplicaData → Id → ℕ → Option Origin → List Out
fast_replies f me s id place None = []
fast_replies f me s id place (Some origin) = fast_reply_to f me s id place origin ∷ []

-- A slow reply to where the request came from, if that is known.
abbrev pub slow_replies : ReplicaData → Id → Option Origin → List Out
slow_replies s id None = []
slow_replies s id (Some origin) = slow_reply_to s id origin ∷ []

-- The state at the start.
abbrev pub first_replica : ℕ → ReplicaData
first_replica f = record {
  status = Normal;
  clock = 0;
  view = 0;
  last = 0;
  log = record { entries = []; synced = 0 };
  commit = 0;
  results = [];
  vector = replicate (replica_count f) 0;
  early = [];
  late = [];
  origin = [];
  ack = replicate (replica_count f) 0;
  quiet = 0;
  since = 0;
  reports = [];
  rejoin = record { nonce = 0; phase = phases.Vectors; claim = 0; wanted = 0; tellers = []; tells = [] };
}

-- The state of one that has forgotten all.
abbrev pub crashed_replica : ℕ → ReplicaData
crashed_replica f = record (first_replica f) { status = Down }
