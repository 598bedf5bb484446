-- In a quiet scenario each request is accepted on the fast path after 5 or 14 ticks.
use Rattle.std.proofs.Common.{◌≡◌, ℕ, zero, suc, ◌+◌, ◌*◌, ◌<◌, ◌≤◌, ◌⊎◌, true, List, [], ◌∷◌, ◌++◌, length, map, refl, sym, ap, subst, ◌∙◌, inl, inr, arith}
use Rattle.nz_base.specs.declared.actor.Actor.{Actor}
use Rattle.nz_base.specs.declared.actor.Actor.TheVariants.{Proxy, Client}
use Rattle.nz_base.specs.declared.key.Id.{Id}
use Rattle.nz_base.specs.declared.key.Entry.{Entry}
use Rattle.nz_base.specs.declared.limits.TheConstants.{UNITS_PER_TICK, MAX_TICKS}
use Rattle.nz_base.specs.declared.scenario.Scenario.{Scenario}
use Rattle.nz_base.specs.Key.{id_of}
use Rattle.nz_base.specs.Log.{keys_of, has_id, HaveOwnIds}
use Rattle.nz_base.proofs.Logs.{keys_append, own_in_prefix}
use Rattle.nz_store.specs.declared.command.Answer.{Answer}
use Rattle.nz_store.specs.declared.command.Answer.TheVariants.{Done}
use Rattle.nz_msg.specs.declared.message.AnswerBody.{AnswerBody}
use Rattle.nz_msg.specs.declared.message.Message.TheVariants as messages
use Rattle.nz_msg.specs.declared.message.Path.TheVariants.{Fast}
use Rattle.nz_machine.specs.declared.data.Attempt.{Attempt}
use Rattle.nz_machine.specs.declared.event.Record.{Record}
use Rattle.nz_machine.specs.declared.client_event.ClientEvent.{ClientEvent}
use Rattle.nz_machine.specs.declared.client_event.ClientEvent.TheVariants.{Sent, Accepted}
use Rattle.nz_machine.specs.runs.Events.{id_at}
use Rattle.nz_machine.specs.runs.Schedule.{group_of, InOrderTo, InOrder, IsTick, IsPlayable}
use Rattle.nz_machine.specs.rules.State.{Group, Out}
use Rattle.nz_machine.specs.runs.Steps.{AreSteps}
use Rattle.nz_machine.specs.runs.World.{state_after, Has}
use Rattle.nz_machine.proofs.runs.Runs.{has_left, has_right, has_split, all_has}
use Rattle.nz_quiet.specs.Quiet.{IsQuiet, timed_events, IsPrompt}
use Rattle.nz_quiet.specs.Requests.{IsDeadline}
use Rattle.nz_quiet.specs.Folds.{heard_by, outs_of, flight_of, flight_in}
use Rattle.nz_quiet.specs.ClientTicks.{IsClientAfter, one_older, new_attempt}
use Rattle.nz_quiet.specs.Invariant.{HasPlace, Asked, Stamped, Entered, MayFly, FliesAnswer, IsQuietAt, IsQuietRun}
use Rattle.nz_quiet.proofs.ClientsFlight.{are_young}
use Rattle.nz_quiet.proofs.Elements.{has_mapped, is_mapped}
use Rattle.nz_quiet.proofs.InFlight.{of_heard, holds_id}
use Rattle.nz_quiet.proofs.NextTick.{seen_of}
use Rattle.nz_quiet.proofs.QuietRuns.{steps_back, due_now, world_before, world_after, readable, step_is, stays_quiet}
use Rattle.nz_quiet.proofs.QuietStep.{apart_from, timed_is}
use Rattle.nz_quiet.proofs.QuietTicks.{own_ids}
use Rattle.nz_quiet.proofs.Reading.{tick_events}
use Rattle.nz_quiet.proofs.Seen.{seen_in, tick_seen, seen_has, seen_is, timed_tick, seen_tick}

-- ---- when an answer comes

-- entries of one log with one id are the same
same_entry : (es : List Entry) (d e : Entry) → HaveOwnIds (keys_of es) → Has es d → Has es e → id_of d.key ≡ id_of e.key → d ≡ e
same_entry [] d e own h k is = absurd h
same_entry (x ∷ es) d e own (inl a) (inl b) is = sym a ∙ b
same_entry (x ∷ es) d e own (inl a) (inr k) is =
    let yes : has_id (keys_of es) (id_of x.key) ≡ true =
    subst (λ (i : Id). has_id (keys_of es) i ≡ true) (sym is ∙ sym (ap (λ (y : Entry). id_of y.key) a)) (holds_id es e k) in
    let no = own.0 in
    absurd cc
same_entry (x ∷ es) d e own (inr h) (inl b) is =
    let yes : has_id (keys_of es) (id_of x.key) ≡ true =
    subst (λ (i : Id). has_id (keys_of es) i ≡ true) (is ∙ sym (ap (λ (y : Entry). id_of y.key) b)) (holds_id es d h) in
    let no = own.0 in
    absurd cc
same_entry (x ∷ es) d e own (inr h) (inr k) is = same_entry es d e own.1 h k is

-- what an answer in flight is of
record IsAnswerOf (t : ℕ) (L : List Entry) (c : ℕ) (b : AnswerBody) : Type 0 where
  entry : Entry
  among : Has L entry
  is : id_of entry.key ≡ id_at c b.num
  past : entry.key.deadline + UNITS_PER_TICK ≤ UNITS_PER_TICK * t
  now : UNITS_PER_TICK * t < entry.key.deadline + 2 * UNITS_PER_TICK

answer_is : (g : Group) (t : ℕ) (L E : List Entry) (J : List Record) (p c : ℕ) (b : AnswerBody) → MayFly g t L E J (Proxy p) (Client c, messages.Answer b)
    → IsAnswerOf t L c b
answer_is g t L E J p c b (FliesAnswer _ _ _ e fast among is past now) = record { entry = e; among = among; is = is; past = past; now = now }

module _ (g : Group) (t : ℕ) (L E : List Entry) (flight : List (Actor × Out)) (J : List Record) (now : IsQuietAt g t L E flight J)
    (own : HaveOwnIds (keys_of (L ++ E))) where
  -- the waits of a request by its deadline
  waits_are : (k deadline : ℕ) → IsDeadline t k deadline → deadline + UNITS_PER_TICK ≤ UNITS_PER_TICK * t → UNITS_PER_TICK * t < deadline + 2 * UNITS_PER_TICK
      → (k ≡ 4) ⊎ (k ≡ 13)
  waits_are k deadline (inl soon) past recent = inl (omega (arith, soon, past, recent))
  waits_are k deadline (inr late) past recent = inr (omega (arith, late, past, recent))

  own_log : HaveOwnIds (keys_of L)
  own_log = own_in_prefix (keys_of L) (keys_of E) (subst HaveOwnIds (keys_append L E) own)

  -- where an answer to an open request comes, it has waited 4 or 13 ticks
  answer_comes : (c : ℕ) (a : Attempt) (x : IsAnswerOf t L c (record { num = a.num; answer = Done; path = Fast }))
      → HasPlace g t L E flight J c a → (a.since ≡ 4) ⊎ (a.since ≡ 13)
  answer_comes c a x (Asked since command among standing log early) =
      let yes : has_id (keys_of L) (id_at c a.num) ≡ true = subst (λ (i : Id). has_id (keys_of L) i ≡ true) x.is (holds_id L x.entry x.among) in
      let no = log in
      absurd cc
  answer_comes c a x (Stamped since among) =
      let y = among 0 (omega arith) in
      let timed = (timed_is g t L E J _ 0 y.0 (all_has (λ (z : Actor × Out). MayFly g t L E J z.0 z.1) flight _ now.flies y.1.0)).1 in
      let yes : has_id (keys_of L) y.0.id ≡ true = subst (λ (i : Id). has_id (keys_of L) i ≡ true) (x.is ∙ sym y.1.1) (holds_id L x.entry x.among) in
      let no = timed.fresh.not_in_log in
      absurd cc
  answer_comes c a x (Entered since e among is deadline recent) =
      let same : id_of x.entry.key ≡ id_of e.key = x.is ∙ sym is in
      elim among [
        | inl early ↦
            let yes : has_id (keys_of L) (id_of e.key) ≡ true = subst (λ (i : Id). has_id (keys_of L) i ≡ true) same (holds_id L x.entry x.among) in
            let no = apart_from L E e own early in
            absurd cc
        | inr log ↦
            let one = ap (λ (z : Entry). z.key.deadline) (same_entry L x.entry e own_log x.among log same) in
            let past = x.past in
            let last = x.now in
            waits_are a.since e.key.deadline deadline (omega (arith, one, past)) (omega (arith, one, last))
      ]

  accepted_when : (c : ℕ) (a : Attempt) → c < length g.scripts → Has (state_after g (Client c) J).attempts a → (p : ℕ) (b : AnswerBody)
      → Has (heard_by (Client c) flight) (Proxy p, messages.Answer b) → b.num ≡ a.num → (a.since ≡ 4) ⊎ (a.since ≡ 13)
  accepted_when c a lt among p b heard of_it =
      let it = answer_is g t L E J p c b
      (all_has (λ (z : Actor × Out). MayFly g t L E J z.0 z.1) flight (Proxy p, (Client c, messages.Answer b)) now.flies
      (of_heard (Client c) flight (Proxy p) (messages.Answer b) heard)) in
      answer_comes c a (record { entry = it.entry; among = it.among; is = it.is ∙ ap (id_at c) of_it; past = it.past; now = it.now })
      (all_has (HasPlace g t L E flight J c) (state_after g (Client c) J).attempts a (now.attempts c lt) among)

-- ---- a request that was sent

-- it was accepted 5 or 14 ticks later
abbrev WasAccepted : List (ℕ × ClientEvent) → ℕ → Id → Type 0
WasAccepted E u id = (a : Answer) × (Has E (u + 5, Accepted id a Fast) ⊎ Has E (u + 14, Accepted id a Fast))

-- it is open, and has waited since
record IsOpenSince (g : Group) (t : ℕ) (J : List Record) (u : ℕ) (id : Id) : Type 0 where
  member : id.client < length g.scripts
  attempt : Attempt
  among : Has (state_after g (Client id.client) J).attempts attempt
  own : attempt.num ≡ id.num
  since : u + attempt.since ≡ t

abbrev IsServed : Group → ℕ → List Record → ℕ → Id → Type 0
IsServed g t J u id = WasAccepted (timed_events g J) u id ⊎ IsOpenSince g t J u id

accepted_later : (E F : List (ℕ × ClientEvent)) (u : ℕ) (id : Id) → WasAccepted E u id → WasAccepted (E ++ F) u id
accepted_later E F u id (a, inl soon) = (a, inl (has_left E F (u + 5, Accepted id a Fast) soon))
accepted_later E F u id (a, inr late) = (a, inr (has_left E F (u + 14, Accepted id a Fast) late))

module _ (s : Scenario) (quiet : IsQuiet s) (play : IsPlayable s) (t : ℕ) (few : suc t ≤ MAX_TICKS) (now older : List Record) (order : InOrderTo s t older)
    (K : List Record) (tick : IsTick s (suc t) now older K) (steps : AreSteps (group_of s) (now ++ older)) where
  abbrev group : Group
  group = group_of s

  abbrev flight : List (Actor × Out)
  flight = flight_in s t older order

  abbrev clock : ℕ
  clock = UNITS_PER_TICK * suc t

  run : IsQuietRun s t older order
  run = stays_quiet s quiet play t (omega (arith, few)) older order (steps_back group now older steps)

  client_is : (c : ℕ) → c < length group.scripts
      → IsClientAfter group c (state_after group (Client c) older) (heard_by (Client c) flight) (state_after group (Client c) K)
      (outs_of (Client c) (flight_of group now older)) (seen_of group c older clock flight)
  client_is c lt = (step_is s quiet play t few now older order K tick steps run.log run.early run.quiet).clients c lt

  -- what a client sees in the tick
  seen_now : (c : ℕ) → c < length group.scripts → seen_in group c now older ≡ seen_of group c older clock flight
  seen_now c lt =
      let may = readable s quiet play t few now older order K tick steps run.log run.early run.quiet (Client c) in
      seen_tick group c clock flight now older may
      (tick_events s (Client c) (suc t) flight now older K quiet play lt few tick (due_now s t older order quiet (steps_back group now older steps)))

  -- an event with the number of the tick
  abbrev in_tick : ClientEvent → ℕ × ClientEvent
  in_tick e = (suc t, e)

  -- the events of the tick come last
  events_are : timed_events group K ≡ timed_events group older ++ map in_tick (tick_seen group now older)
  events_are = ap (timed_events group) tick.whole ∙ timed_tick group (suc t) now older tick.here

  seen_last : (c : ℕ) (e : ClientEvent) → c < length group.scripts → Has (seen_of group c older clock flight) e → Has (timed_events group K) (suc t, e)
  seen_last c e lt among =
      subst (λ (es : List (ℕ × ClientEvent)). Has es (suc t, e)) (sym events_are)
      (has_right (timed_events group older) (map in_tick (tick_seen group now older)) (suc t, e)
      (has_mapped in_tick (tick_seen group now older) e
      (seen_has group c now older e (subst (λ (es : List ClientEvent). Has es e) (sym (seen_now c lt)) among))))

  own : HaveOwnIds (keys_of (run.log ++ run.early))
  own = own_ids group t run.log run.early flight older run.quiet (world_before s quiet play t few now older order K tick steps run.log run.early run.quiet) few

  -- an open request is accepted, or waits one tick more
  open_on : (u : ℕ) (id : Id) → IsOpenSince group t older u id → IsServed group (suc t) K u id
  open_on u id o =
      let c = id.client in
      let after = client_is c o.member in
      let since = o.since in
      elim (after.each o.attempt o.among) [
        | inl older_now ↦ inr (record { member = o.member; attempt = one_older o.attempt; among = older_now; own = o.own; since = omega (arith, since) })
        | inr done ↦
            let when = accepted_when group t run.log run.early flight older run.quiet own c o.attempt o.member o.among done.proxy done.body
            done.among done.of_it in
            let seen : Has (timed_events group K) (suc t, Accepted id done.body.answer Fast) =
            seen_last c (Accepted id done.body.answer Fast) o.member
            (subst (λ (n : ℕ). Has (seen_of group c older clock flight) (Accepted (id_at c n) done.body.answer Fast)) o.own done.accepted) in
            inl (
              done.body.answer,
              elim when [
                | inl soon ↦ inl (subst (λ (k : ℕ). Has (timed_events group K) (k, Accepted id done.body.answer Fast)) (omega (arith, since, soon)) seen)
                | inr late ↦ inr (subst (λ (k : ℕ). Has (timed_events group K) (k, Accepted id done.body.answer Fast)) (omega (arith, since, late)) seen)
              ],
            )
      ]

  served_on : (u : ℕ) (id : Id) → IsServed group t older u id → IsServed group (suc t) K u id
  served_on u id (inl done) =
      inl (subst (λ (es : List (ℕ × ClientEvent)). WasAccepted es u id) (sym events_are)
      (accepted_later (timed_events group older) (map in_tick (tick_seen group now older)) u id done))
  served_on u id (inr waits) = open_on u id waits

  -- a new request is open
  new_on : (u : ℕ) (id : Id) (command : List ℕ) → Has {X = ℕ × ClientEvent} (map in_tick (tick_seen group now older)) (u, Sent id command)
      → IsServed group (suc t) K u id
  new_on u id command among =
      let it = is_mapped in_tick (tick_seen group now older) (u, Sent id command) among in
      let at : u ≡ suc t = ap (λ (x : ℕ × ClientEvent). x.0) it.is in
      let what : Sent id command ≡ it.one = ap (λ (x : ℕ × ClientEvent). x.1) it.is in
      let w = world_after s quiet play t few now older order K tick steps run.log run.early run.quiet in
      let by = seen_is group now older (Sent id command) w (subst (λ (e : ClientEvent). Has (tick_seen group now older) e) (sym what) it.among) in
      let c = by.client in
      let after = client_is c by.member in
      let seen = subst (λ (es : List ClientEvent). Has es (Sent id command)) (seen_now c by.member) by.among in
      let fresh = after.sent id command seen in
      let client : c ≡ id.client = sym (ap (λ (i : Id). i.client) fresh.0) in
      let new = after.new id.num fresh.1 fresh.2 in
      let a = new_attempt group c id.num in
      inr (record {
        member = subst (λ (k : ℕ). k < length group.scripts) client by.member;
        attempt = a;
        among = subst (λ (k : ℕ). Has (state_after group (Client k) K).attempts a) client new;
        own = refl;
        since = omega (arith, at);
      })

  all_on : ((u : ℕ) (id : Id) (command : List ℕ) → Has (timed_events group older) (u, Sent id command) → IsServed group t older u id)
      → (u : ℕ) (id : Id) (command : List ℕ) → Has (timed_events group K) (u, Sent id command) → IsServed group (suc t) K u id
  all_on before u id command among =
      elim (has_split (timed_events group older) (map in_tick (tick_seen group now older)) (u, Sent id command)
      (subst (λ (es : List (ℕ × ClientEvent)). Has es (u, Sent id command)) events_are among)) [
        | inl old ↦ served_on u id (before u id command old)
        | inr new ↦ new_on u id command new
      ]

-- ---- all ticks

all_served : (s : Scenario) → IsQuiet s → IsPlayable s → (t : ℕ) → t ≤ MAX_TICKS → (J : List Record) → InOrderTo s t J → AreSteps (group_of s) J
    → (u : ℕ) (id : Id) (command : List ℕ) → Has (timed_events (group_of s) J) (u, Sent id command) → IsServed (group_of s) t J u id
all_served s quiet play zero few J none steps u id command among =
    absurd (subst (λ (K : List Record). Has (timed_events (group_of s) K) (u, Sent id command)) none among)
all_served s quiet play (suc t) few K (now, (older, (tick, before))) steps u id command among =
    let g = group_of s in
    let all = subst (AreSteps g) tick.whole steps in
    all_on s quiet play t few now older before K tick all
    (λ v i c h. all_served s quiet play t (omega (arith, few)) older before (steps_back g now older all) v i c h) u id command among

pub is_prompt : (s : Scenario) (J : List Record) → IsPlayable s → IsQuiet s → InOrder s J → AreSteps (group_of s) J
    → IsPrompt s.ticks (timed_events (group_of s) J)
is_prompt s J play quiet order steps = record { accepted = each }
  where
    each : (t : ℕ) (id : Id) (command : List ℕ) → Has (timed_events (group_of s) J) (t, Sent id command) → t + 14 ≤ s.ticks
        → WasAccepted (timed_events (group_of s) J) t id
    each t id command among early = elim (all_served s quiet play s.ticks play.ticks J order steps t id command among) [
      | inl done ↦ done
      | inr waits ↦
          let g = group_of s in
          let run = stays_quiet s quiet play s.ticks play.ticks J order steps in
          let young = all_has (λ (a : Attempt). a.since ≤ 13) (state_after g (Client id.client) J).attempts waits.attempt
          (are_young g s.ticks run.log run.early (flight_in s s.ticks J order) J run.quiet id.client waits.member) waits.among in
          let since = waits.since in
          absurd (omega (arith, early, young, since))
    ]
