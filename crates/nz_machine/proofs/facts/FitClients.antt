-- A client sends only messages that frames can carry.
use Rattle.std.proofs.Common.{◌≡◌, ℕ, zero, suc, ◌+◌, ◌-◌, ◌%◌, ◌<◌, ◌≤◌, List, [], ◌∷◌, length, map, Option, Some, None, refl, subst, arith}
use Rattle.std.specs.Prelude.{IfSome, slice_get, slice_index_or, fold}
use Rattle.std.specs.List.{AllByRecursion}
use Rattle.std.proofs.lemmas.Bool.{cond_both}
use Rattle.nz_base.specs.declared.actor.Actor.{Actor}
use Rattle.nz_base.specs.declared.actor.Actor.TheVariants.{Proxy, Client}
use Rattle.nz_base.specs.declared.scenario.Request.{Request}
use Rattle.nz_msg.specs.declared.message.AnswerBody.{AnswerBody}
use Rattle.nz_msg.specs.declared.message.Message.{Message}
use Rattle.nz_msg.specs.declared.message.Message.TheVariants as messages
use Rattle.nz_machine.specs.declared.data.Attempt.{Attempt}
use Rattle.nz_machine.specs.rules.State.{ClientData, Group, Out}
use Rattle.nz_machine.specs.rules.Clients.{ask, if_due, after_opening, open_next, fill_places, fill_window, is_overdue, after_wait}
use Rattle.nz_machine.specs.rules.Clients.{request_again, retry, retries, wait_rule, is_open, after_acceptance, accept_rule}
use Rattle.nz_machine.specs.rules.Step.{script_of, client_message}
use Rattle.nz_machine.specs.runs.World.{HasCommand, IsGroup}
use Rattle.nz_machine.proofs.runs.Runs.{FitsOut, AllFit}
use Rattle.nz_machine.proofs.lists.EachItem.{all_append}
use Rattle.nz_machine.proofs.lists.ListParts.{all_get, all_index}
use Rattle.nz_machine.proofs.facts.SentFields.{command_fits}
use Rattle.nz_machine.proofs.journals.InTurn.{Rises, rises_most, InTurn, if_due_is, due_within, tick_fills, message_turns}

-- a client that frames can name, with a script that is not too long, and the proxies
pub record IsClient (proxies me : ℕ) (script : List Request) : Type 0 where
  pub some : 1 ≤ proxies
  pub few : proxies ≤ 8
  pub address : me ≤ 63
  pub short : length script ≤ 2000
  pub commands : AllByRecursion HasCommand script

pub record ClientStep (window : ℕ) (script : List Request) (me : ℕ) (t : ClientData × List Out) : Type 0 where
  pub state : InTurn window script t.0
  pub sends : AllFit (Client me) t.1

ask_fits : (proxies me : ℕ) (script : List Request) (proxy num : ℕ) (r : Request) → IsClient proxies me script
    → proxy < proxies → num ≤ 2000 → HasCommand r → FitsOut (Client me) (ask proxy num r)
ask_fits proxies me script proxy num r c below few asked =
    let most = c.few in
    record { sender = c.address; receiver = omega (arith, below, most); message = (omega (arith, few), command_fits r.command asked.command) }

get_asked : (script : List Request) (i : ℕ) (r : Request) → AllByRecursion HasCommand script → slice_get script i ≡ Some r → HasCommand r
get_asked script i r all e = subst (λ (o : Option Request). IfSome o HasCommand) e (all_get HasCommand script i all)

pub own_proxy : (proxies n : ℕ) → 1 ≤ proxies → n % proxies < proxies
own_proxy proxies n some = omega (arith, some)

-- ---- new requests

opened_fit : (proxies me : ℕ) (script : List Request) (s : ClientData) (o : Option Request)
    → IsClient proxies me script → if_due s.ticks (slice_get script s.sent) ≡ o
    → AllFit (Client me) (after_opening proxies me s o).1
opened_fit proxies me script s None c e = tt
opened_fit proxies me script s (Some r) c e =
    let within = due_within s.ticks script s.sent r e in
    let short = c.short in (
      ask_fits proxies me script (me % proxies) (s.sent + 1) r c (own_proxy proxies me c.some) (omega (arith, within, short))
          (get_asked script s.sent r c.commands (if_due_is s.ticks (slice_get script s.sent) r e)),
      tt,
    )

places_fit : (free proxies me : ℕ) (script : List Request) (s : ClientData) → IsClient proxies me script
    → AllFit (Client me) (fill_places free proxies me script s).1
places_fit zero proxies me script s c = tt
places_fit (suc free) proxies me script s c =
    let t = open_next proxies me script s in
    all_append (FitsOut (Client me)) t.1 (fill_places free proxies me script t.0).1
    (opened_fit proxies me script s (if_due s.ticks (slice_get script s.sent)) c refl)
    (places_fit free proxies me script t.0 c)

-- ---- retries

again_fits : (proxies me : ℕ) (script : List Request) (proxy num i : ℕ) (o : Option Request)
    → IsClient proxies me script → proxy < proxies → num ≤ length script → slice_get script i ≡ o → AllFit (Client me) (request_again proxy num o)
again_fits proxies me script proxy num i None c below few e = tt
again_fits proxies me script proxy num i (Some r) c below few e = let short = c.short in
    (ask_fits proxies me script proxy num r c below (omega (arith, few, short)) (get_asked script i r c.commands e), tt)

retry_fits : (proxies me : ℕ) (script : List Request) (a : Attempt) → IsClient proxies me script
    → a.num ≤ length script → AllFit (Client me) (retry proxies script a)
retry_fits proxies me script a c few =
    cond_both (is_overdue a) _ [] (AllFit (Client me))
    (λ _. again_fits proxies me script ((a.proxy + 1) % proxies) a.num (a.num - 1) (slice_get script (a.num - 1)) c
    (own_proxy proxies (a.proxy + 1) c.some) few refl)
    (λ _. tt)

retries_fit : (proxies me : ℕ) (script : List Request) (low : ℕ) (xs : List Attempt) (high : ℕ)
    → IsClient proxies me script → Rises low xs high → high ≤ length script
    → AllFit (Client me) (retries proxies script xs)
retries_fit proxies me script low [] high c h few = tt
retries_fit proxies me script low (a ∷ xs) high c h few =
    let most = rises_most a.num xs high h.1 in
    all_append (FitsOut (Client me)) (retry proxies script a) (retries proxies script xs) (retry_fits proxies me script a c (omega (arith, most, few)))
    (retries_fit proxies me script a.num xs high c h.1 few)

-- ---- the rules

tick_sends : (window proxies me : ℕ) (script : List Request) (s : ClientData) → IsClient proxies me script → InTurn window script s
    → AllFit (Client me) (wait_rule window proxies me script s).1
unfolding wait_rule
tick_sends window proxies me script s c h =
    let now = after_wait proxies s in
    all_append (FitsOut (Client me)) (retries proxies script s.attempts) (fill_window window proxies me script now).1
    (retries_fit proxies me script 0 s.attempts s.sent c h.rising h.sent) (places_fit (window - length now.attempts) proxies me script now c)

pub client_tick_fits : (window proxies me : ℕ) (script : List Request) (s : ClientData) → IsClient proxies me script → InTurn window script s
    → ClientStep window script me (wait_rule window proxies me script s)
client_tick_fits window proxies me script s c h =
    record { state = (tick_fills window proxies me script s h).in_turn; sends = tick_sends window proxies me script s c h }

accept_sends : (window proxies me : ℕ) (script : List Request) (s : ClientData) (b : AnswerBody) → IsClient proxies me script
    → AllFit (Client me) (accept_rule window proxies me script s b).1
unfolding accept_rule
accept_sends window proxies me script s b c =
    let now = after_acceptance b.num s in
    cond_both (is_open b.num s.attempts) (fill_window window proxies me script now) (s, []) (λ (t : ClientData × List Out). AllFit (Client me) t.1)
    (λ _. places_fit (window - length now.attempts) proxies me script now c) (λ _. tt)

message_sends : (window proxies me : ℕ) (script : List Request) (s : ClientData) (from : Actor) (m : Message) → IsClient proxies me script
    → AllFit (Client me) (client_message window proxies me script s from m).1
message_sends window proxies me script s (Proxy p) (messages.Answer b) c = accept_sends window proxies me script s b c
message_sends window proxies me script s _ _ c = tt

pub client_message_fits : (window proxies me : ℕ) (script : List Request) (s : ClientData) (from : Actor) (m : Message)
    → IsClient proxies me script → InTurn window script s
    → ClientStep window script me (client_message window proxies me script s from m)
client_message_fits window proxies me script s from m c h =
    record { state = (message_turns window proxies me script s from m h).in_turn; sends = message_sends window proxies me script s from m c }

-- ---- the scripts of a group

fold_more : (n : ℕ) (xs : List ℕ) → n ≤ fold (λ n m. n + m) n xs
fold_more n [] = omega arith
fold_more n (x ∷ xs) = let ih = fold_more (n + x) xs in omega (arith, ih)

-- a script has at most as many requests as all together
script_few : (n : ℕ) (scripts : List (List Request)) (c : ℕ) → length (slice_index_or scripts c []) ≤ fold (λ n m. n + m) n (map length scripts)
script_few n [] c = omega arith
script_few n (x ∷ scripts) zero = let all = fold_more (n + length x) (map length scripts) in omega (arith, all)
script_few n (x ∷ scripts) (suc c) = script_few (n + length x) scripts c

pub client_of : (g : Group) (c : ℕ) → IsGroup g → c < length g.scripts → IsClient g.proxies c (script_of g c)
client_of g c h member =
    let most = h.most_clients in
    let few = h.few_requests in
    let own = script_few 0 g.scripts c in
    record {
      some = h.least_proxies;
      few = h.most_proxies;
      address = omega (arith, member, most);
      short = omega (arith, own, few);
      commands = all_index (λ script. AllByRecursion HasCommand script) g.scripts c [] h.commands tt;
    }
