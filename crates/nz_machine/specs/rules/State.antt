-- The state of each kind of actor as plain data, and what a run begins with.
use Rattle.std.specs.Prelude.{ℕ, Bool, List}
use Rattle.nz_base.specs.declared.actor.Actor.{Actor}
use Rattle.nz_base.specs.declared.actor.Actor.TheVariants.{Replica, Proxy, Client}
use Rattle.nz_base.specs.declared.key.Id.{Id}
use Rattle.nz_base.specs.declared.key.Entry.{Entry}
use Rattle.nz_base.specs.declared.scenario.Request.{Request}
use Rattle.nz_store.specs.declared.command.Answer.{Answer}
use Rattle.nz_msg.specs.declared.message.Path.{Path}
use Rattle.nz_msg.specs.declared.message.Message.{Message}
use Rattle.nz_log.specs.Synced.{Log}
use Rattle.nz_machine.specs.declared.data.Status.{Status}
use Rattle.nz_machine.specs.declared.data.Origin.{Origin}
use Rattle.nz_machine.specs.declared.data.Attempt.{Attempt}
use Rattle.nz_machine.specs.declared.data.CollectedReport.{CollectedReport}
use Rattle.nz_machine.specs.declared.data.Rejoin.{Rejoin}
use Rattle.nz_machine.specs.declared.reply.Reply.{Reply}

-- A replica: its view, and the last view in which it was in normal operation; its log with the sync point, how
-- many entries are committed, and the answers of the entries (at the leader); its crash vector; the entries that
-- wait, and where each request came from; how far each replica's log agrees, as its reports say; the ticks since
-- it heard from its leader, and those since it last began to wait for others; and what it collects to begin a
-- view, and to rejoin.
pub record ReplicaData : Type 0 where
  pub status : Status
  pub clock : ℕ
  pub view : ℕ
  pub last : ℕ
  pub log : Log
  pub commit : ℕ
  pub results : List Answer
  pub vector : List ℕ
  pub early : List Entry
  pub late : List Entry
  pub origin : List (Id × Origin)
  pub ack : List ℕ
  pub quiet : ℕ
  pub since : ℕ
  pub reports : List CollectedReport
  pub rejoin : Rejoin

-- What a proxy knows of a request: the replies so far, or what it decided, and how.
pub data Standing : Type 0 where
  Open : (replies : List Reply) → Standing
  Decided : (answer : Answer) (path : Path) → Standing

-- A proxy: the delays that it saw of each replica, the newest last, and what it knows of each request.
pub record ProxyData : Type 0 where
  pub is_down : Bool
  pub clock : ℕ
  pub samples : List (List ℕ)
  pub standings : List (Id × Standing)

-- A client: its ticks, how many requests it sent and how many were accepted, and its open requests, in rising number.
pub record ClientData : Type 0 where
  pub ticks : ℕ
  pub sent : ℕ
  pub accepted : ℕ
  pub attempts : List Attempt

-- An actor's state, by its kind.
abbrev pub State : Actor → Type 0
State (Replica r) = ReplicaData
State (Proxy p) = ProxyData
State (Client c) = ClientData

-- What a run begins with: how many replicas may be out of order, how many proxies there are, how many requests
-- a client may have open at once, and each client's requests.
pub record Group : Type 0 where
  pub f : ℕ
  pub proxies : ℕ
  pub window : ℕ
  pub scripts : List (List Request)

-- What a rule sends: who gets it, and the message.
abbrev pub Out : Type 0
Out = Actor × Message
