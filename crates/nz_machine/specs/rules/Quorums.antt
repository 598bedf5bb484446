-- The two quorums (Geng et al., PVLDB 16(4)), over the replies that a proxy noted of one request.
use Rattle.std.specs.Prelude.{ℕ, Bool, true, false, ◌&&◌, ◌||◌, ◌==◌, is_some, nat_le, nat_lt, List, [], ◌∷◌, ◌++◌, Option, Some, None, filter, if◌then◌else◌}
use Rattle.std.specs.List.{list_any}
use Rattle.std.specs.Option.{option_eq}
use Rattle.std.specs.Str.{bytes_eq}
use Rattle.nz_base.specs.Cluster.{replica_count, fast_size, slow_size, leader_of}
use Rattle.nz_math.specs.Count.{count_below}
use Rattle.nz_store.specs.declared.command.Answer.{Answer}
use Rattle.nz_store.specs.declared.command.Answer.TheVariants.{Done, Value, Absent, Differs}
use Rattle.nz_msg.specs.declared.message.Path.{Path}
use Rattle.nz_msg.specs.declared.message.Path.TheVariants as paths
use Rattle.nz_machine.specs.declared.reply.Reply.{Reply}
use Rattle.nz_machine.specs.declared.reply.Reply.TheVariants.{Fast, Slow}

-- The view of a reply.
abbrev pub view_of : Reply → ℕ
view_of (Fast replica view digest vector answer) = view
view_of (Slow replica view) = view

-- A fast reply of the leader of its view, with an answer.
abbrev pub is_of_leader : ℕ → Reply → Bool
is_of_leader f (Fast replica view digest vector answer) = (replica == leader_of f view) && is_some answer
is_of_leader f (Slow replica view) = false

-- The replica replied slowly in the view.
abbrev pub is_slow_of : ℕ → ℕ → Reply → Bool
is_slow_of view replica (Fast r v digest vector answer) = false
is_slow_of view replica (Slow r v) = (r == replica) && (v == view)

-- The replica replied in the view: slowly, or with this digest and this vector.
abbrev pub agrees_of : ℕ → List ℕ → List ℕ → ℕ → Reply → Bool
agrees_of view digest vector replica (Fast r v d u answer) = (r == replica) && ((v == view) && (bytes_eq d digest && bytes_eq u vector))
agrees_of view digest vector replica (Slow r v) = (r == replica) && (v == view)

-- Whether a replica supports this reply of a leader in a slow quorum: it is the leader, or replied slowly.
abbrev pub supports_slowly : ℕ → List Reply → Reply → ℕ → Bool
supports_slowly f replies (Fast r view digest vector answer) replica = (replica == leader_of f view) || list_any (is_slow_of view replica) replies
supports_slowly f replies (Slow r view) replica = false

-- Whether a replica supports it in a fast quorum: it is the leader, or agrees.
abbrev pub supports_fast : ℕ → List Reply → Reply → ℕ → Bool
supports_fast f replies (Fast r view digest vector answer) replica = (replica == leader_of f view) || list_any (agrees_of view digest vector replica) replies
supports_fast f replies (Slow r view) replica = false

-- The leader's reply has a slow quorum: the leader, and f other replicas that replied slowly.
abbrev pub has_slow_quorum : ℕ → List Reply → Reply → Bool
has_slow_quorum f replies lead = is_of_leader f lead && nat_le (slow_size f) (count_below (replica_count f) (supports_slowly f replies lead))

-- The leader's reply has a fast quorum, the leader in it.
abbrev pub has_fast_quorum : ℕ → List Reply → Reply → Bool
has_fast_quorum f replies lead = is_of_leader f lead && nat_le (fast_size f) (count_below (replica_count f) (supports_fast f replies lead))

-- ---- the decision

-- Of two replies that one of the lesser view, else the first.
abbrev pub of_lesser_view : Reply → Option Reply → Reply
of_lesser_view reply None = reply
of_lesser_view reply (Some next) = if nat_lt (view_of next) (view_of reply) then next else reply

-- Of some replies the first of the least view.
abbrev pub first_of_least_view : List Reply → Option Reply
first_of_least_view [] = None
first_of_least_view (reply ∷ replies) = Some (of_lesser_view reply (first_of_least_view replies))

-- The leader's reply that decides fast: the first of the least view that has a fast quorum.
abbrev pub fast_lead : ℕ → List Reply → Option Reply
fast_lead f replies = first_of_least_view (filter (has_fast_quorum f replies) replies)

-- The same of slow quorums.
abbrev pub slow_lead : ℕ → List Reply → Option Reply
slow_lead f replies = first_of_least_view (filter (has_slow_quorum f replies) replies)

-- How a request was decided, and by which reply of a leader.
pub record Chosen : Type 0 where
  pub path : Path
  pub reply : Reply

-- The slow decision by this reply, if there is one.
abbrev pub slow_or_none : Option Reply → Option Chosen
slow_or_none None = None
slow_or_none (Some reply) = Some (record { path = paths.Slow; reply = reply })

-- The fast decision by the first reply, if there is one, else the other decision.
abbrev pub fast_or : Option Reply → Option Chosen → Option Chosen
fast_or None slow = slow
fast_or (Some reply) slow = Some (record { path = paths.Fast; reply = reply })

-- A fast quorum decides where there is one, else a slow one.
unfoldable pub decision : ℕ → List Reply → Option Chosen
decision f replies = fast_or (fast_lead f replies) (slow_or_none (slow_lead f replies))

-- The answer that a reply has.
abbrev pub answer_in : Reply → Option Answer
answer_in (Fast replica view digest vector answer) = answer
answer_in (Slow replica view) = None

-- ---- noting

-- Whether two answers are equal.
abbrev pub answer_eq : Answer → Answer → Bool
answer_eq Done Done = true
answer_eq (Value x) (Value y) = bytes_eq x y
answer_eq Absent Absent = true
answer_eq Differs Differs = true
answer_eq _ _ = false

-- Whether two replies are equal, in all their fields.
abbrev pub reply_eq : Reply → Reply → Bool
reply_eq (Fast r v d u a) (Fast s w e x b) = (r == s) && ((v == w) && (bytes_eq d e && (bytes_eq u x && option_eq answer_eq a b)))
reply_eq (Slow r v) (Slow s w) = (r == s) && (v == w)
reply_eq _ _ = false

-- A reply is noted once.
abbrev pub with_note : List Reply → Reply → List Reply
with_note replies reply = if list_any (reply_eq reply) replies then replies else replies ++ reply ∷ []
