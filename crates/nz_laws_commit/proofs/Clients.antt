-- The rules of a client: what it asks for.
use Rattle.std.proofs.Common.{◌≡◌, ℕ, zero, suc, ◌+◌, ◌-◌, ◌%◌, ◌<◌, ◌≤◌, List, [], ◌∷◌, length, Option, Some, None, refl, arith}
use Rattle.std.specs.Prelude.{slice_get}
use Rattle.std.specs.List.{AllByRecursion}
use Rattle.std.proofs.lemmas.Bool.{cond_both}
use Rattle.nz_base.specs.declared.actor.Actor.{Actor}
use Rattle.nz_base.specs.declared.actor.Actor.TheVariants.{Proxy}
use Rattle.nz_base.specs.declared.scenario.Request.{Request}
use Rattle.nz_msg.specs.declared.message.AnswerBody.{AnswerBody}
use Rattle.nz_msg.specs.declared.message.Message.{Message}
use Rattle.nz_msg.specs.declared.message.Message.TheVariants as messages
use Rattle.nz_msg.specs.declared.message.Message.TheVariants.{Answer}
use Rattle.nz_machine.specs.declared.data.Attempt.{Attempt}
use Rattle.nz_machine.specs.rules.State.{ClientData, Out}
use Rattle.nz_machine.specs.rules.Clients.{if_due, after_opening, open_next, fill_places, fill_window, is_overdue, after_wait}
use Rattle.nz_machine.specs.rules.Clients.{request_again, retry, retries, wait_rule, is_open, after_acceptance, accept_rule}
use Rattle.nz_machine.specs.rules.Step.{client_message}
use Rattle.nz_machine.specs.runs.Events.{script_command}
use Rattle.nz_machine.proofs.lists.EachItem.{all_append, all_imply}
use Rattle.nz_machine.proofs.journals.InTurn.{Rises, rises_most, InTurn, if_due_is}
use Rattle.nz_machine.proofs.journals.EventsAreRead.{own_command}

-- a request that is sent has a number of the client, and the script's command
pub record IsScripted (script : List Request) (sent num : ℕ) (command : List ℕ) : Type 0 where
  pub some : 0 < num
  pub sent_before : num ≤ sent
  pub own : command ≡ script_command script num

abbrev pub AskedFrom : List Request → ℕ → Message → Type 0
AskedFrom script sent (messages.Request b) = IsScripted script sent b.num b.command
AskedFrom script sent _ = ⊥

abbrev pub AllAsked : List Request → ℕ → List Out → Type 0
AllAsked script sent outs = AllByRecursion (λ (o : Out). AskedFrom script sent o.1) outs

asked_later : (script : List Request) (sent more : ℕ) (m : Message) → sent ≤ more → AskedFrom script sent m → AskedFrom script more m
asked_later script sent more (messages.Request b) le h = let before = h.sent_before in
    record { some = h.some; sent_before = omega (arith, before, le); own = h.own }
asked_later script sent more _ le h = absurd h

all_asked_later : (script : List Request) (sent more : ℕ) (outs : List Out) → sent ≤ more → AllAsked script sent outs → AllAsked script more outs
all_asked_later script sent more outs le h =
    all_imply (λ (o : Out). AskedFrom script sent o.1) (λ (o : Out). AskedFrom script more o.1) (λ o q. asked_later script sent more o.1 le q) outs h

-- ---- new requests

opened_more : (proxies me : ℕ) (s : ClientData) (o : Option Request) → s.sent ≤ (after_opening proxies me s o).0.sent
opened_more proxies me s None = omega arith
opened_more proxies me s (Some r) = omega arith

places_more : (free proxies me : ℕ) (script : List Request) (s : ClientData) → s.sent ≤ (fill_places free proxies me script s).0.sent
places_more zero proxies me script s = omega arith
places_more (suc free) proxies me script s =
    let first = opened_more proxies me s (if_due s.ticks (slice_get script s.sent)) in
    let rest = places_more free proxies me script (open_next proxies me script s).0 in
    omega (arith, first, rest)

opened_asked : (proxies me : ℕ) (script : List Request) (s : ClientData) (o : Option Request) → if_due s.ticks (slice_get script s.sent) ≡ o
    → AllAsked script (after_opening proxies me s o).0.sent (after_opening proxies me s o).1
opened_asked proxies me script s None e = tt
opened_asked proxies me script s (Some r) e = (
  record {
    some = omega arith;
    sent_before = omega arith;
    own = own_command script (s.sent + 1) s.sent r (omega arith) (if_due_is s.ticks (slice_get script s.sent) r e);
  },
  tt,
)

places_asked : (free proxies me : ℕ) (script : List Request) (s : ClientData)
    → AllAsked script (fill_places free proxies me script s).0.sent (fill_places free proxies me script s).1
places_asked zero proxies me script s = tt
places_asked (suc free) proxies me script s =
    let t = open_next proxies me script s in
    let u = fill_places free proxies me script t.0 in
    all_append (λ (o : Out). AskedFrom script u.0.sent o.1) t.1 u.1
    (all_asked_later script t.0.sent u.0.sent t.1 (places_more free proxies me script t.0)
    (opened_asked proxies me script s (if_due s.ticks (slice_get script s.sent)) refl))
    (places_asked free proxies me script t.0)

-- ---- retries

again_asked : (proxy num sent : ℕ) (script : List Request) (o : Option Request) → 0 < num → num ≤ sent → slice_get script (num - 1) ≡ o
    → AllAsked script sent (request_again proxy num o)
again_asked proxy num sent script None some le e = tt
again_asked proxy num sent script (Some r) some le e = (record { some = some; sent_before = le; own = own_command script num (num - 1) r refl e }, tt)

retries_asked : (proxies low : ℕ) (script : List Request) (xs : List Attempt) (high sent : ℕ) → Rises low xs high
    → high ≤ sent → AllAsked script sent (retries proxies script xs)
retries_asked proxies low script [] high sent h le = tt
retries_asked proxies low script (a ∷ xs) high sent h le =
    let above = h.0 in
    let most = rises_most a.num xs high h.1 in
    all_append (λ (o : Out). AskedFrom script sent o.1) (retry proxies script a) (retries proxies script xs)
    (cond_both (is_overdue a) _ [] (AllAsked script sent)
    (λ _. again_asked ((a.proxy + 1) % proxies) a.num sent script (slice_get script (a.num - 1))
    (omega (arith, above)) (omega (arith, most, le)) refl) (λ _. tt))
    (retries_asked proxies a.num script xs high sent h.1 le)

-- ---- the rules

pub tick_asked : (window proxies me : ℕ) (script : List Request) (s : ClientData) → InTurn window script s
    → AllAsked script (wait_rule window proxies me script s).0.sent (wait_rule window proxies me script s).1
unfolding wait_rule
tick_asked window proxies me script s h =
    let now = after_wait proxies s in
    let free = window - length now.attempts in
    let t = fill_window window proxies me script now in
    all_append (λ (o : Out). AskedFrom script t.0.sent o.1) (retries proxies script s.attempts) t.1
    (retries_asked proxies 0 script s.attempts s.sent t.0.sent h.rising (places_more free proxies me script now)) (places_asked free proxies me script now)

accept_asked : (window proxies me : ℕ) (script : List Request) (s : ClientData) (b : AnswerBody)
    → AllAsked script (accept_rule window proxies me script s b).0.sent (accept_rule window proxies me script s b).1
unfolding accept_rule
accept_asked window proxies me script s b =
    let now = after_acceptance b.num s in
    cond_both (is_open b.num s.attempts) (fill_window window proxies me script now) (s, []) (λ (t : ClientData × List Out). AllAsked script t.0.sent t.1)
    (λ _. places_asked (window - length now.attempts) proxies me script now) (λ _. tt)

pub message_asked : (window proxies me : ℕ) (script : List Request) (s : ClientData) (from : Actor) (m : Message)
    → AllAsked script (client_message window proxies me script s from m).0.sent (client_message window proxies me script s from m).1
message_asked window proxies me script s (Proxy p) (Answer b) = accept_asked window proxies me script s b
message_asked window proxies me script s _ _ = tt
