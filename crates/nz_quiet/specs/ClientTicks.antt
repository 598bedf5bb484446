-- What a client of a quiet run hears in a tick, which of its requests are open after it, and what it sends.
use Rattle.std.specs.Prelude.{◌≡◌, ◌⊎◌, ℕ, ◌+◌, ◌%◌, ◌<◌, ◌≤◌, List, [], ◌∷◌, ◌++◌, length}
use Rattle.std.specs.List.{AllByRecursion}
use Rattle.nz_base.specs.declared.actor.Actor.TheVariants.{Proxy, Client}
use Rattle.nz_base.specs.declared.key.Id.{Id}
use Rattle.nz_msg.specs.declared.message.AnswerBody.{AnswerBody}
use Rattle.nz_msg.specs.declared.message.Path.TheVariants as paths
use Rattle.nz_msg.specs.declared.message.Message.TheVariants as messages
use Rattle.nz_machine.specs.declared.data.Attempt.{Attempt}
use Rattle.nz_machine.specs.rules.State.{ClientData, Group, Out}
use Rattle.nz_machine.specs.declared.client_event.ClientEvent.{ClientEvent}
use Rattle.nz_machine.specs.declared.client_event.ClientEvent.TheVariants.{Sent, Accepted}
use Rattle.nz_machine.specs.runs.Events.{id_at, script_command, accepted_in, sent_by}
use Rattle.nz_machine.specs.rules.Step.{script_of, message_step}
use Rattle.nz_machine.specs.runs.World.{Has}
use Rattle.nz_quiet.specs.Words.{Word}

-- ---- what is heard

-- What a client may hear in a tick: answers of the fast path, to requests that it sent in earlier ticks.
pub data MayAnswer (s : ClientData) : Word → Type 0 where
  ComesAnswer : (p : ℕ) (b : AnswerBody) → b.path ≡ paths.Fast → b.num ≤ s.sent → MayAnswer s (Proxy p, messages.Answer b)

-- An answer to the request of this number was heard.
pub record IsAnsweredIn (heard : List Word) (num : ℕ) : Type 0 where
  pub proxy : ℕ
  pub body : AnswerBody
  pub among : Has heard (Proxy proxy, messages.Answer body)
  pub of_it : body.num ≡ num

-- What a client sees on hearing some messages, the oldest first.
unfoldable pub seen_heard : Group → ℕ → ClientData → List Word → List ClientEvent
seen_heard g c s [] = []
seen_heard g c s (w ∷ ws) =
    let t = (message_step g (Client c) s w.0 w.1).0 in
    (accepted_in c s t w.1 ++ sent_by c (script_of g c) s t) ++ seen_heard g c t ws

-- ---- open requests

-- No open request has waited longer than 13 ticks.
abbrev pub AreYoung : ClientData → Type 0
AreYoung s = AllByRecursion (λ a. a.since ≤ 13) s.attempts

-- An open request after one tick more.
abbrev pub one_older : Attempt → Attempt
one_older a = record { num = a.num; proxy = a.proxy; since = a.since + 1 }

-- A client's request of this number, sent to its own proxy in this tick.
abbrev pub new_attempt : Group → ℕ → ℕ → Attempt
new_attempt g c num = record { num = num; proxy = c % g.proxies; since = 0 }

-- The request of this number, to the client's own proxy.
abbrev pub asking : Group → ℕ → ℕ → Out
asking g c num = (Proxy (c % g.proxies), messages.Request (record { num = num; command = script_command (script_of g c) num }))

-- A request that is open after a tick: it was open before, and no answer to it was heard; or it is new, and was sent.
pub data IsOpenAfter (g : Group) (c : ℕ) (s : ClientData) (heard : List Word) (t : ClientData) (outs : List Out) : Attempt → Type 0 where
  OpenBefore : (a : Attempt) → Has s.attempts a → ¬ IsAnsweredIn heard a.num → IsOpenAfter g c s heard t outs (one_older a)
  OpenNow : (num : ℕ) → s.sent < num → num ≤ t.sent → Has outs (asking g c num) → IsOpenAfter g c s heard t outs (new_attempt g c num)

-- A request was answered in the tick, and the client accepted the answer.
pub record IsAcceptedIn (c : ℕ) (heard : List Word) (seen : List ClientEvent) (num : ℕ) : Type 0 where
  pub proxy : ℕ
  pub body : AnswerBody
  pub among : Has heard (Proxy proxy, messages.Answer body)
  pub of_it : body.num ≡ num
  pub accepted : Has seen (Accepted (id_at c num) body.answer paths.Fast)

-- What a client sends in a tick: requests of its script that are new and open.
pub data IsNewRequest (g : Group) (c : ℕ) (s t : ClientData) : Out → Type 0 where
  Asks : (num : ℕ) → s.sent < num → num ≤ t.sent → Has t.attempts (new_attempt g c num) → IsNewRequest g c s t (asking g c num)

-- What a client sees of new requests: those after the first number, up to the second.
abbrev pub AreSentWithin : ℕ → ℕ → ℕ → List ClientEvent → Type 0
AreSentWithin c low high seen = (id : Id) (command : List ℕ) → Has seen (Sent id command) → (id ≡ id_at c id.num) × (low < id.num) × (id.num ≤ high)

-- A client after its clock and some answers of a tick, by its state before the tick.
pub record IsClientAfter (g : Group) (c : ℕ) (s : ClientData) (heard : List Word) (t : ClientData) (outs : List Out) (seen : List ClientEvent) : Type 0 where
  pub ticks : t.ticks ≡ s.ticks + 1
  pub more : s.sent ≤ t.sent
  pub few : t.sent ≤ length (script_of g c)
  pub open_after : AllByRecursion (IsOpenAfter g c s heard t outs) t.attempts
  pub each : (a : Attempt) → Has s.attempts a → Has t.attempts (one_older a) ⊎ IsAcceptedIn c heard seen a.num
  pub new : (num : ℕ) → s.sent < num → num ≤ t.sent → Has t.attempts (new_attempt g c num)
  pub sends : AllByRecursion (IsNewRequest g c s t) outs
  pub sent : AreSentWithin c s.sent t.sent seen
