-- What a proxy and a client send is what the states after show.
use Rattle.std.proofs.Common.{◌≡◌, ℕ, zero, suc, ◌+◌, ◌-◌, ◌%◌, ◌<◌, ◌≤◌, Bool, false, cond, List, [], ◌∷◌}
use Rattle.std.proofs.Common.{length, map, Option, Some, None, refl, ap, subst, ◌∙◌, inl, inr, arith}
use Rattle.std.specs.Prelude.{slice_get}
use Rattle.std.specs.List.{AllByRecursion}
use Rattle.std.specs.Map.{lookup}
use Rattle.std.proofs.lemmas.Bool.{cond_both}
use Rattle.indexmap.specs.IndexMap.{insert_entry}
use Rattle.nz_base.specs.Cluster.{replica_count}
use Rattle.nz_base.specs.Key.{id_eq}
use Rattle.nz_base.specs.declared.actor.Actor.{Actor}
use Rattle.nz_base.specs.declared.actor.Actor.TheVariants.{Replica, Proxy, Client}
use Rattle.nz_base.specs.declared.key.Id.{Id}
use Rattle.nz_base.specs.declared.scenario.Request.{Request}
use Rattle.nz_store.specs.declared.command.Answer.{Answer}
use Rattle.nz_window.specs.Samples.{with_sample}
use Rattle.nz_msg.specs.declared.message.Path.{Path}
use Rattle.nz_msg.specs.declared.message.RequestBody.{RequestBody}
use Rattle.nz_msg.specs.declared.message.AnswerBody.{AnswerBody}
use Rattle.nz_msg.specs.declared.message.Message.{Message}
use Rattle.nz_msg.specs.declared.message.Message.TheVariants as messages
use Rattle.nz_machine.specs.declared.data.Attempt.{Attempt}
use Rattle.nz_machine.specs.declared.reply.Reply.{Reply}
use Rattle.nz_machine.specs.rules.State.{ProxyData, ClientData, Standing, Open, Decided, Out}
use Rattle.nz_machine.specs.rules.Quorums.{Chosen, decision, answer_in, with_note}
use Rattle.nz_machine.specs.rules.Proxies.{standing_of, with_standing, timed_to, timed_to_all, after_stamp, stamp_rule, after_chosen_answer}
use Rattle.nz_machine.specs.rules.Proxies.{after_choice, after_replica_reply, reply_rule, of_fast, of_slow}
use Rattle.nz_machine.specs.rules.Clients.{if_due, after_opening, open_next, fill_places, fill_window, is_overdue, attempt_after_wait, after_wait}
use Rattle.nz_machine.specs.rules.Clients.{request_again, retry, retries, wait_rule, is_open, after_acceptance, accept_rule}
use Rattle.nz_machine.specs.rules.Step.{proxy_message, client_message}
use Rattle.nz_machine.specs.runs.Hearing.{Heard}
use Rattle.nz_machine.specs.runs.Shows.{ProxyShows, ClientShows}
use Rattle.nz_machine.specs.runs.World.{Has}
use Rattle.nz_machine.proofs.runs.Runs.{has_left, has_right}
use Rattle.nz_machine.proofs.lists.EachItem.{all_append, all_imply}
use Rattle.nz_machine.proofs.lists.Lookups.{lookup_inserted}
use Rattle.nz_machine.proofs.lists.ListParts.{all_map}
use Rattle.nz_machine.proofs.shows.Shows.{all_below}
use Rattle.nz_machine.proofs.journals.InTurn.{if_due_is}
use Rattle.nz_machine.proofs.facts.FitClients.{own_proxy}

-- ---- proxies

pub record ProxyShown (f : ℕ) (heard : Heard) (t : ProxyData × List Out) : Type 0 where
  pub shows : AllByRecursion (λ (o : Out). ProxyShows f heard t.0 o.0 o.1) t.1

pub proxy_silent : (f : ℕ) (heard : Heard) (s : ProxyData) → ProxyShown f heard (s, [])
proxy_silent f heard s = record { shows = tt }

-- what is heard is the request of this id
abbrev asks : Id → List ℕ → Heard
asks id command = Some (Client id.client, messages.Request (record { num = id.num; command = command }))

timed_shows : (f : ℕ) (s : ProxyData) (standings : List (Id × Standing)) (id : Id) (command : List ℕ) (replies : List Reply) → s.is_down ≡ false
    → lookup (id_eq id) standings ≡ Some (Open replies)
    → ProxyShown f (asks id command) (record s { standings = standings }, timed_to_all f s id command)
timed_shows f s standings id command replies up at =
    let t = record s { standings = standings } in
    record {
      shows = all_map (λ (o : Out). ProxyShows f (asks id command) t o.0 o.1) (timed_to s id command) _
          (all_below (λ r. ProxyShows f (asks id command) t (timed_to s id command r).0 (timed_to s id command r).1) (replica_count f)
          (λ r lt. record {
            up = up;
            hears = refl;
            replies = replies;
            standing = at;
            replica = r;
            member = lt;
            receiver = refl;
            sent = refl;
            deadline = refl;
          }));
    }

stamped_shows : (f : ℕ) (s : ProxyData) (id : Id) (command : List ℕ) (o : Option Standing) → s.is_down ≡ false → standing_of s id ≡ o
    → ProxyShown f (asks id command) (after_stamp f s id command o)
stamped_shows f s id command None up e =
    timed_shows f s (insert_entry id_eq s.standings id (Open [])) id command [] up (lookup_inserted s.standings id (Open []))
stamped_shows f s id command (Some (Open replies)) up e = timed_shows f s s.standings id command replies up e
stamped_shows f s id command (Some (Decided a p)) up e = record { shows = (record { up = up; client = id.client; decided = e; to_client = refl }, tt) }

answered_shows : (f : ℕ) (heard : Heard) (s : ProxyData) (id : Id) (replies : List Reply) (p : Path) (o : Option Answer) → s.is_down ≡ false
    → ProxyShown f heard (after_chosen_answer s id replies p o)
answered_shows f heard s id replies p None up = proxy_silent f heard (with_standing s id (Open replies))
answered_shows f heard s id replies p (Some a) up =
    record { shows = (record { up = up; client = id.client; decided = lookup_inserted s.standings id (Decided a p); to_client = refl }, tt) }

decided_shows : (f : ℕ) (heard : Heard) (s : ProxyData) (id : Id) (replies : List Reply) (o : Option Chosen) → s.is_down ≡ false
    → ProxyShown f heard (after_choice s id replies o)
decided_shows f heard s id replies None up = proxy_silent f heard (with_standing s id (Open replies))
decided_shows f heard s id replies (Some chosen) up = answered_shows f heard s id replies chosen.path (answer_in chosen.reply) up

noted_shows : (f : ℕ) (heard : Heard) (s : ProxyData) (id : Id) (r : Reply) (o : Option Standing) → s.is_down ≡ false
    → ProxyShown f heard (after_replica_reply f s id r o)
noted_shows f heard s id r None up = proxy_silent f heard s
noted_shows f heard s id r (Some (Decided a p)) up = proxy_silent f heard s
noted_shows f heard s id r (Some (Open replies)) up = decided_shows f heard s id (with_note replies r) (decision f (with_note replies r)) up

stamp_shows : (f : ℕ) (s : ProxyData) (c : ℕ) (b : RequestBody) → s.is_down ≡ false → ProxyShown f (Some (Client c, messages.Request b)) (stamp_rule f s c b)
unfolding stamp_rule
stamp_shows f s c b up = let id : Id = record { client = c; num = b.num } in stamped_shows f s id b.command (standing_of s id) up refl

reply_shows : (f : ℕ) (heard : Heard) (s : ProxyData) (replica : ℕ) (id : Id) (delay : ℕ) (r : Reply) → s.is_down ≡ false
    → ProxyShown f heard (reply_rule f s replica id delay r)
unfolding reply_rule
reply_shows f heard s replica id delay r up = noted_shows f heard (record s { samples = with_sample s.samples replica delay }) id r (standing_of s id) up

pub proxy_message_shows : (f : ℕ) (s : ProxyData) (from : Actor) (m : Message) → s.is_down ≡ false → ProxyShown f (Some (from, m)) (proxy_message f s from m)
proxy_message_shows f s (Client c) (messages.Request b) up = stamp_shows f s c b up
proxy_message_shows f s (Replica r) (messages.FastReply b) up = reply_shows f (Some (Replica r, messages.FastReply b)) s r b.id b.delay (of_fast r b) up
proxy_message_shows f s (Replica r) (messages.SlowReply b) up = reply_shows f (Some (Replica r, messages.SlowReply b)) s r b.id b.delay (of_slow r b) up
proxy_message_shows f s from m up = proxy_silent f (Some (from, m)) s

-- ---- clients

pub record ClientShown (proxies : ℕ) (script : List Request) (t : ClientData × List Out) : Type 0 where
  pub shows : AllByRecursion (λ (o : Out). ClientShows proxies script t.0 o.0 o.1) t.1

abbrev AllShow : ℕ → List Request → ClientData → List Out → Type 0
AllShow proxies script t outs = AllByRecursion (λ (o : Out). ClientShows proxies script t o.0 o.1) outs

-- each open request of the one state is one of the other
abbrev Keeps : ClientData → ClientData → Type 0
Keeps s t = (a : Attempt) → Has s.attempts a → Has t.attempts a

shows_later : (proxies : ℕ) (script : List Request) (s t : ClientData) → Keeps s t → (o : Out)
    → ClientShows proxies script s o.0 o.1 → ClientShows proxies script t o.0 o.1
shows_later proxies script s t keeps (to, messages.Request b) w =
    record { proxy = w.proxy; member = w.member; receiver = w.receiver; attempt = keeps _ w.attempt; request = w.request; own = w.own; command = w.command }
shows_later proxies script s t keeps (to, _) w = absurd w

all_later : (proxies : ℕ) (script : List Request) (s t : ClientData) (outs : List Out) → Keeps s t
    → AllShow proxies script s outs → AllShow proxies script t outs
all_later proxies script s t outs keeps all =
    all_imply (λ (o : Out). ClientShows proxies script s o.0 o.1) (λ (o : Out). ClientShows proxies script t o.0 o.1)
    (shows_later proxies script s t keeps) outs all

opened_keeps : (proxies me : ℕ) (s : ClientData) (o : Option Request) → Keeps s (after_opening proxies me s o).0
opened_keeps proxies me s None a h = h
opened_keeps proxies me s (Some r) a h = has_left s.attempts (record { num = s.sent + 1; proxy = me % proxies; since = 0 } ∷ []) a h

places_keep : (free proxies me : ℕ) (script : List Request) (s : ClientData) → Keeps s (fill_places free proxies me script s).0
places_keep zero proxies me script s a h = h
places_keep (suc free) proxies me script s a h =
    places_keep free proxies me script (open_next proxies me script s).0 a (opened_keeps proxies me s (if_due s.ticks (slice_get script s.sent)) a h)

opened_shows : (proxies me : ℕ) (script : List Request) (s : ClientData) (o : Option Request) → 1 ≤ proxies → if_due s.ticks (slice_get script s.sent) ≡ o
    → AllShow proxies script (after_opening proxies me s o).0 (after_opening proxies me s o).1
opened_shows proxies me script s None any e = tt
opened_shows proxies me script s (Some r) any e =
    let at : s.sent + 1 - 1 ≡ s.sent = omega arith in
    let own = ap (slice_get script) at ∙ if_due_is s.ticks (slice_get script s.sent) r e in
    let a : Attempt = record { num = s.sent + 1; proxy = me % proxies; since = 0 } in (
      record {
        proxy = me % proxies;
        member = own_proxy proxies me any;
        receiver = refl;
        attempt = has_right s.attempts (a ∷ []) a (inl refl);
        request = r;
        own = own;
        command = refl;
      },
      tt,
    )

places_show : (free proxies me : ℕ) (script : List Request) (s : ClientData) → 1 ≤ proxies
    → AllShow proxies script (fill_places free proxies me script s).0 (fill_places free proxies me script s).1
places_show zero proxies me script s any = tt
places_show (suc free) proxies me script s any =
    let t = open_next proxies me script s in
    let u = fill_places free proxies me script t.0 in
    all_append (λ (o : Out). ClientShows proxies script u.0 o.0 o.1) t.1 u.1
    (all_later proxies script t.0 u.0 t.1 (places_keep free proxies me script t.0)
    (opened_shows proxies me script s (if_due s.ticks (slice_get script s.sent)) any refl))
    (places_show free proxies me script t.0 any)

again_shows : (proxies : ℕ) (script : List Request) (t : ClientData) (proxy num : ℕ) (o : Option Request) → proxy < proxies → slice_get script (num - 1) ≡ o
    → Has t.attempts (record { num = num; proxy = proxy; since = 0 }) → AllShow proxies script t (request_again proxy num o)
again_shows proxies script t proxy num None member e h = tt
again_shows proxies script t proxy num (Some r) member e h =
    (record { proxy = proxy; member = member; receiver = refl; attempt = h; request = r; own = e; command = refl }, tt)

retry_shows : (proxies : ℕ) (script : List Request) (t : ClientData) (a : Attempt) → 1 ≤ proxies
    → Has t.attempts (attempt_after_wait proxies a) → AllShow proxies script t (retry proxies script a)
retry_shows proxies script t a any h =
    cond_both (is_overdue a) _ [] (AllShow proxies script t)
    (λ late. again_shows proxies script t ((a.proxy + 1) % proxies) a.num (slice_get script (a.num - 1)) (own_proxy proxies (a.proxy + 1) any) refl
    (subst (λ (b : Bool). Has t.attempts
    (cond b (record { num = a.num; proxy = (a.proxy + 1) % proxies; since = 0 })
    (record { num = a.num; proxy = a.proxy; since = a.since + 1 }))) late h))
    (λ _. tt)

retries_show : (proxies : ℕ) (script : List Request) (t : ClientData) (xs : List Attempt) → 1 ≤ proxies
    → ((a : Attempt) → Has (map (attempt_after_wait proxies) xs) a → Has t.attempts a) → AllShow proxies script t (retries proxies script xs)
retries_show proxies script t [] any keeps = tt
retries_show proxies script t (a ∷ xs) any keeps =
    all_append (λ (o : Out). ClientShows proxies script t o.0 o.1) (retry proxies script a) (retries proxies script xs)
    (retry_shows proxies script t a any (keeps (attempt_after_wait proxies a) (inl refl)))
    (retries_show proxies script t xs any (λ b h. keeps b (inr h)))

pub wait_shows : (window proxies me : ℕ) (script : List Request) (s : ClientData) → 1 ≤ proxies
    → ClientShown proxies script (wait_rule window proxies me script s)
unfolding wait_rule
wait_shows window proxies me script s any =
    let now = after_wait proxies s in
    let t = fill_window window proxies me script now in
    let free = window - length now.attempts in
    record {
      shows = all_append (λ (o : Out). ClientShows proxies script t.0 o.0 o.1) (retries proxies script s.attempts) t.1
          (retries_show proxies script t.0 s.attempts any (places_keep free proxies me script now)) (places_show free proxies me script now any);
    }

accept_shows : (window proxies me : ℕ) (script : List Request) (s : ClientData) (b : AnswerBody) → 1 ≤ proxies
    → ClientShown proxies script (accept_rule window proxies me script s b)
unfolding accept_rule
accept_shows window proxies me script s b any =
    let now = after_acceptance b.num s in
    cond_both (is_open b.num s.attempts) (fill_window window proxies me script now) (s, []) (ClientShown proxies script)
    (λ _. record { shows = places_show (window - length now.attempts) proxies me script now any }) (λ _. record { shows = tt })

pub client_message_shows : (window proxies me : ℕ) (script : List Request) (s : ClientData) (from : Actor) (m : Message) → 1 ≤ proxies
    → ClientShown proxies script (client_message window proxies me script s from m)
client_message_shows window proxies me script s (Proxy p) (messages.Answer b) any = accept_shows window proxies me script s b any
client_message_shows window proxies me script s _ _ any = record { shows = tt }
