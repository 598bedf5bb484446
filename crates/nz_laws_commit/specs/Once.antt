-- Each request is sent once, and accepted at most once and after that; and a client has at most as many open as its
-- window.
use Rattle.std.specs.Prelude.{◌≡◌, ℕ, suc, ◌+◌, ◌≤◌, ◌==◌, if◌then◌else◌, List, [], ◌∷◌, ◌++◌}
use Rattle.nz_base.specs.declared.key.Id.{Id}
use Rattle.nz_store.specs.declared.command.Answer.{Answer}
use Rattle.nz_msg.specs.declared.message.Path.{Path}
use Rattle.nz_machine.specs.runs.World.{Has}
use Rattle.nz_machine.specs.declared.client_event.ClientEvent.{ClientEvent}
use Rattle.nz_machine.specs.declared.client_event.ClientEvent.TheVariants.{Sent, Accepted}
use Rattle.nz_machine.specs.runs.OneHistory.{Precedes}

-- How many requests of the client were sent.
abbrev pub count_sent : ℕ → List ClientEvent → ℕ
count_sent c [] = 0
count_sent c (Sent id command ∷ E) = if id.client == c then suc (count_sent c E) else count_sent c E
count_sent c (Accepted id answer path ∷ E) = count_sent c E

-- How many of them were accepted.
abbrev pub count_accepted : ℕ → List ClientEvent → ℕ
count_accepted c [] = 0
count_accepted c (Sent id command ∷ E) = count_accepted c E
count_accepted c (Accepted id answer path ∷ E) = if id.client == c then suc (count_accepted c E) else count_accepted c E

-- In these events each request is sent once and accepted at most once, after its sending, and windows are kept.
pub record AreOnce (window : ℕ) (E : List ClientEvent) : Type 0 where
  pub sent : (id : Id) (x y : List ℕ) → ¬ Precedes E (Sent id x) (Sent id y)
  pub accepted : (id : Id) (a b : Answer) (p q : Path) → ¬ Precedes E (Accepted id a p) (Accepted id b q)
  pub in_order : (id : Id) (a : Answer) (p : Path) → Has E (Accepted id a p) → (command : List ℕ) × Precedes E (Sent id command) (Accepted id a p)
  -- At each moment at most as many requests of a client are sent and not accepted as the window has places.
  pub few_open : (c : ℕ) (before after : List ClientEvent) → E ≡ before ++ after → count_sent c before ≤ count_accepted c before + window
