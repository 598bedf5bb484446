-- The history of a scenario without a foul command has none.
use Rattle.std.proofs.Common.{◌≡◌, ◌<◌, ◌+◌, ◌-◌, ◌^◌, ℕ, zero, suc, Bool, true, false, List, [], ◌∷◌, Option, Some, None, refl, inl, inr, arith}
use Rattle.std.specs.Prelude.{◌||◌, nat_lt, slice_get}
use Rattle.std.specs.List.{AllByRecursion, list_any}
use Rattle.std.proofs.lemmas.Bool.{cond_both}
use Rattle.nz_base.specs.Key.{id_of}
use Rattle.nz_base.specs.declared.actor.Actor.{Actor}
use Rattle.nz_base.specs.declared.actor.Actor.TheVariants.{Replica, Proxy, Client}
use Rattle.nz_base.specs.declared.key.Entry.{Entry}
use Rattle.nz_base.specs.declared.scenario.Request.{Request}
use Rattle.nz_store.specs.Reading.{command_at, command_of}
use Rattle.nz_msg.specs.declared.envelope.Envelope.{Envelope}
use Rattle.nz_msg.specs.declared.message.Message.{Message}
use Rattle.nz_msg.specs.declared.message.Message.TheVariants as messages
use Rattle.nz_machine.specs.declared.event.Record.{Record}
use Rattle.nz_machine.specs.rules.State.{ClientData, Group}
use Rattle.nz_machine.specs.rules.Step.{script_of}
use Rattle.nz_machine.specs.runs.World.{state_after, Has, IsGroup, IsMember, World}
use Rattle.nz_machine.specs.declared.client_event.ClientEvent.{ClientEvent}
use Rattle.nz_machine.specs.declared.client_event.ClientEvent.TheVariants.{Sent, Accepted}
use Rattle.nz_machine.specs.runs.Events.{id_at, command_of_request, read_in, accepted_in}
use Rattle.nz_machine.specs.runs.Events.{accepted_by, sent_after, sent_by, client_events, events}
use Rattle.nz_machine.specs.runs.History.{history}
use Rattle.nz_machine.proofs.runs.Runs.{all_has, group_of}
use Rattle.nz_machine.proofs.lists.EachItem.{all_append}
use Rattle.nz_lin.proofs.Histories.{history_sent}
use Rattle.nz_locks.specs.Uses.{is_foul}
use Rattle.nz_locks.specs.Clean.{is_foul_request, AreClean, IsCleanEntry, IsClean}

no_command : command_of [] ≡ None
unfolding command_of command_at
no_command = refl

nothing_is_clean : (c : ℕ) → is_foul c [] ≡ false
nothing_is_clean c = rw no_command refl

neither : (a b : Bool) → (a || b) ≡ false → (a ≡ false) × (b ≡ false)
neither true b e = absurd cc
neither false b e = (refl, e)

clean_at : (c : ℕ) (script : List Request) (i : ℕ) → list_any (is_foul_request c) script ≡ false
    → is_foul c (command_of_request (slice_get script i)) ≡ false
clean_at c [] i h = nothing_is_clean c
clean_at c (r ∷ script) zero h = (neither (is_foul_request c r) (list_any (is_foul_request c) script) h).0
clean_at c (r ∷ script) (suc i) h = clean_at c script i (neither (is_foul_request c r) (list_any (is_foul_request c) script) h).1

-- what was sent is of a client that a scenario may have, and not foul
abbrev IsCleanEvent : ClientEvent → Type 0
IsCleanEvent (Sent id command) = (id.client < 2 ^ 32) × (is_foul id.client command ≡ false)
IsCleanEvent (Accepted id answer path) = Unit {0}

accepted_clean : (c : ℕ) (before after : ClientData) (m : Message) → AllByRecursion IsCleanEvent (accepted_in c before after m)
accepted_clean c before after (messages.Answer b) =
    cond_both (nat_lt before.accepted after.accepted)
    (Accepted (id_at c b.num) b.answer b.path ∷ []) [] (AllByRecursion IsCleanEvent) (λ _. (tt, tt)) (λ _. tt)
accepted_clean c before after _ = tt

read_clean : (c : ℕ) (before after : ClientData) (o : Option Envelope) → AllByRecursion IsCleanEvent (accepted_by c before after o)
read_clean c before after None = tt
read_clean c before after (Some e) = accepted_clean c before after e.message

sent_clean : (c : ℕ) (script : List Request) (num more : ℕ) → c < 2 ^ 32 → list_any (is_foul_request c) script ≡ false
    → AllByRecursion IsCleanEvent (sent_after c script num more)
sent_clean c script num zero small h = tt
sent_clean c script num (suc more) small h =
    ((small, clean_at c script (num + 1 - 1) h), sent_clean c script (num + 1) more small h)

client_events_clean : (g : Group) (a : Actor) (r : Record) (J : List Record) → IsGroup g → IsMember g a → AreClean g.scripts
    → AllByRecursion IsCleanEvent (client_events g a r J)
client_events_clean g (Replica m) r J group member clean = tt
client_events_clean g (Proxy p) r J group member clean = tt
client_events_clean g (Client c) r J group member clean =
    let before = state_after g (Client c) J in
    let after = state_after g (Client c) (r ∷ J) in
    let most = group.most_clients in
    all_append IsCleanEvent (accepted_by c before after (read_in g (Client c) r.event)) (sent_by c (script_of g c) before after)
    (read_clean c before after (read_in g (Client c) r.event))
    (sent_clean c (script_of g c) before.sent (after.sent - before.sent) (omega (arith, most, member)) (clean.each c))

events_clean : (g : Group) (J : List Record) → World g J → AreClean g.scripts → AllByRecursion IsCleanEvent (events g J)
events_clean g [] w clean = tt
events_clean g (r ∷ J) w clean =
    all_append IsCleanEvent (events g J) (client_events g r.actor r J) (events_clean g J w.1 clean)
    (client_events_clean g r.actor r J (group_of g J w.1) w.0.member clean)

all_by : (H : List Entry) → ((e : Entry) → Has H e → IsCleanEntry e) → IsClean H
all_by [] h = tt
all_by (e ∷ H) h = (h e (inl refl), all_by H (λ x k. h x (inr k)))

pub history_clean : (g : Group) (J : List Record) → World g J → AreClean g.scripts → IsClean (history g J)
history_clean g J w clean =
    all_by (history g J) (λ e h.
    let sent = all_has IsCleanEvent (events g J) (Sent (id_of e.key) e.command) (events_clean g J w clean) (history_sent g J w e h) in
    record { client = sent.0; command = sent.1 })
