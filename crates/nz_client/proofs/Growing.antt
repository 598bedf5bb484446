-- A request that is not due changes no step of a client.
use Rattle.std.proofs.Common.{◌≡◌, ℕ, zero, suc, ◌+◌, ◌-◌, ◌%◌, ◌<◌, ◌≤◌, Bool, true, false, List, [], ◌∷◌, ◌++◌, length, map, Option, Some, None, refl, sym, ap, ◌∙◌, arith}
use Rattle.std.specs.Prelude.{slice_get, if◌then◌else◌}
use Rattle.std.specs.List.{AllByRecursion}
use Rattle.std.proofs.lemmas.Bool.{lt-leb, cond_both}
use Rattle.nz_base.proofs.Names.{actor_eq_self}
use Rattle.nz_base.specs.Actor.{actor_eq}
use Rattle.nz_base.specs.declared.actor.Actor.{Actor}
use Rattle.nz_base.specs.declared.actor.Actor.TheVariants.{Replica, Proxy, Client}
use Rattle.nz_base.specs.declared.scenario.Request.{Request as RequestModel}
use Rattle.nz_msg.specs.declared.envelope.Envelope.{Envelope}
use Rattle.nz_msg.specs.declared.message.AnswerBody.{AnswerBody}
use Rattle.nz_msg.specs.declared.message.Message.{Message}
use Rattle.nz_msg.specs.declared.message.Message.TheVariants.{Request, Timed, FastReply, SlowReply, Answer, LogMod, Fetch, FetchReply}
use Rattle.nz_msg.specs.declared.message.Message.TheVariants.{SyncReport, ViewAsk, ViewChange, StartView, VectorAsk, VectorTell}
use Rattle.nz_msg.specs.declared.message.Message.TheVariants.{RejoinAsk, RejoinTell, StateAsk, StateTell}
use Rattle.nz_machine.specs.declared.data.Attempt.{Attempt}
use Rattle.nz_machine.specs.declared.event.Event.{Event}
use Rattle.nz_machine.specs.declared.event.Event.TheVariants.{Deliver, Cut, Tick, Alarm, Crash, Restart}
use Rattle.nz_machine.specs.declared.event.Record.{Record}
use Rattle.nz_machine.specs.rules.State.{ClientData, Group, Out}
use Rattle.nz_machine.specs.rules.Clients.{last_tick, if_due, after_opening, open_next, fill_places, fill_window, is_overdue, attempt_after_wait}
use Rattle.nz_machine.specs.rules.Clients.{request_again, retry, retries, after_wait, wait_rule, is_open, after_acceptance, accept_rule}
use Rattle.nz_machine.specs.rules.Step.{script_of, accepted_envelope, client_message, envelope_step, event_step, parcel}
use Rattle.nz_machine.specs.runs.World.{state_after}
use Rattle.nz_machine.specs.runs.Deployments.{IsLane}
use Rattle.nz_client.specs.Growing.{HasOneMore}
use Rattle.nz_client.proofs.Windows.{all_without}

-- ---- what is always true of a client

record IsAsked (script : List RequestModel) (a : Attempt) : Type 0 where
  least : 1 ≤ a.num
  most : a.num ≤ length script

record Known (script : List RequestModel) (s : ClientData) : Type 0 where
  sent : s.sent ≤ length script
  asked : AllByRecursion (IsAsked script) s.attempts
  ticks : s.ticks ≤ last_tick

-- what a rule over a script does to this, and that it does not see a request that is not due afterwards
record Keeps (script : List RequestModel) (s : ClientData) (rule : List RequestModel → ClientData × List Out) : Type 0 where
  known : Known script (rule script).0
  rises : s.ticks ≤ (rule script).0.ticks
  same : (request : RequestModel) → (rule script).0.ticks < request.wait → rule (script ++ request ∷ []) ≡ rule script

idle : (script : List RequestModel) (s : ClientData) → Known script s → Keeps script s (λ sc. (s, []))
idle script s k = record { known = k; rises = omega arith; same = λ request late. refl }

-- ---- requests of a script

due_same : (ticks : ℕ) (script : List RequestModel) (n : ℕ) (r : RequestModel) → ticks < r.wait
    → if_due ticks (slice_get (script ++ r ∷ []) n) ≡ if_due ticks (slice_get script n)
due_same ticks [] zero r late = rw (lt-leb r.wait ticks late) refl
due_same ticks [] (suc n) r late = refl
due_same ticks (x ∷ script) zero r late = refl
due_same ticks (x ∷ script) (suc n) r late = due_same ticks script n r late

place_same : (script : List RequestModel) (r : RequestModel) (n : ℕ) → n < length script → slice_get (script ++ r ∷ []) n ≡ slice_get script n
place_same [] r n lt = absurd (omega (arith, lt))
place_same (x ∷ script) r zero lt = refl
place_same (x ∷ script) r (suc n) lt = place_same script r n (omega (arith, lt))

place_there : (script : List RequestModel) (n : ℕ) (x : RequestModel) → slice_get script n ≡ Some x → n < length script
place_there [] n x e = absurd cc
place_there (y ∷ script) zero x e = omega arith
place_there (y ∷ script) (suc n) x e = let h = place_there script n x e in omega (arith, h)

due_there : (ticks : ℕ) (script : List RequestModel) (n : ℕ) (o : Option RequestModel) (x : RequestModel) → slice_get script n ≡ o
    → if_due ticks o ≡ Some x → n < length script
due_there ticks script n None x is e = absurd cc
due_there ticks script n (Some y) x is e = place_there script n y is

-- ---- a new request

all_append : (P : Attempt → Type 0) (xs ys : List Attempt) → AllByRecursion P xs → AllByRecursion P ys → AllByRecursion P (xs ++ ys)
all_append P [] ys h k = k
all_append P (x ∷ xs) ys h k = (h.0, all_append P xs ys h.1 k)

opened : (proxies me : ℕ) (script : List RequestModel) (s : ClientData) (o : Option RequestModel)
    → ((x : RequestModel) → o ≡ Some x → s.sent < length script) → Known script s → Known script (after_opening proxies me s o).0
opened proxies me script s None there k = k
opened proxies me script s (Some request) there k =
    let lt = there request refl in
    record {
      sent = omega (arith, lt);
      asked = all_append (IsAsked script) s.attempts _ k.asked (record { least = omega arith; most = omega (arith, lt) }, tt);
      ticks = k.ticks;
    }

opened_ticks : (proxies me : ℕ) (s : ClientData) (o : Option RequestModel) → (after_opening proxies me s o).0.ticks ≡ s.ticks
opened_ticks proxies me s None = refl
opened_ticks proxies me s (Some request) = refl

next_keeps : (proxies me : ℕ) (script : List RequestModel) (s : ClientData) → Known script s → Keeps script s (λ sc. open_next proxies me sc s)
next_keeps proxies me script s k =
    let o = if_due s.ticks (slice_get script s.sent) in
    let still = opened_ticks proxies me s o in
    record {
      known = opened proxies me script s o (λ x e. due_there s.ticks script s.sent (slice_get script s.sent) x refl e) k;
      rises = omega (arith, still);
      same = λ request late. ap (after_opening proxies me s) (due_same s.ticks script s.sent request (omega (arith, late, still)));
    }

fill_keeps : (n proxies me : ℕ) (script : List RequestModel) (s : ClientData) → Known script s → Keeps script s (λ sc. fill_places n proxies me sc s)
fill_keeps zero proxies me script s k = idle script s k
fill_keeps (suc n) proxies me script s k =
    let t = open_next proxies me script s in
    let first = next_keeps proxies me script s k in
    let others = fill_keeps n proxies me script t.0 first.known in
    record {
      known = others.known;
      rises = omega (arith, first.rises, others.rises);
      same = λ request late.
          ap (λ (t : ClientData × List Out). let u = fill_places n proxies me (script ++ request ∷ []) t.0 in (u.0, t.1 ++ u.1))
          (first.same request (omega (arith, late, others.rises)))
          ∙ ap (λ (u : ClientData × List Out). (u.0, t.1 ++ u.1)) (others.same request late);
    }

-- ---- a tick

waited : (proxies : ℕ) (script : List RequestModel) (a : Attempt) → IsAsked script a → IsAsked script (attempt_after_wait proxies a)
waited proxies script a h =
    cond_both (is_overdue a) (record { num = a.num; proxy = (a.proxy + 1) % proxies; since = 0 })
    (record { num = a.num; proxy = a.proxy; since = a.since + 1 }) (IsAsked script)
    (λ _. record { least = h.least; most = h.most }) (λ _. record { least = h.least; most = h.most })

all_waited : (proxies : ℕ) (script : List RequestModel) (xs : List Attempt) → AllByRecursion (IsAsked script) xs
    → AllByRecursion (IsAsked script) (map (attempt_after_wait proxies) xs)
all_waited proxies script [] h = tt
all_waited proxies script (a ∷ xs) h = (waited proxies script a h.0, all_waited proxies script xs h.1)

retry_same : (proxies : ℕ) (script : List RequestModel) (r : RequestModel) (a : Attempt) → IsAsked script a
    → retry proxies (script ++ r ∷ []) a ≡ retry proxies script a
retry_same proxies script r a h =
    ap (λ (o : Option RequestModel). if is_overdue a then request_again ((a.proxy + 1) % proxies) a.num o else [])
    (place_same script r (a.num - 1) (omega (arith, h.least, h.most)))

retries_same : (proxies : ℕ) (script : List RequestModel) (r : RequestModel) (xs : List Attempt) → AllByRecursion (IsAsked script) xs
    → retries proxies (script ++ r ∷ []) xs ≡ retries proxies script xs
retries_same proxies script r [] h = refl
retries_same proxies script r (a ∷ xs) h = λ i. retry_same proxies script r a h.0 i ++ retries_same proxies script r xs h.1 i

wait_keeps : (window proxies me : ℕ) (script : List RequestModel) (s : ClientData) → Known script s
    → Keeps script s (λ sc. wait_rule window proxies me sc s)
unfolding wait_rule
wait_keeps window proxies me script s k =
    let w = after_wait proxies s in
    let known : Known script w = record { sent = k.sent; asked = all_waited proxies script s.attempts k.asked; ticks = omega arith } in
    let fill = fill_keeps (window - length w.attempts) proxies me script w known in
    record {
      known = fill.known;
      rises = omega (arith, fill.rises, k.ticks);
      same = λ request late. λ i. let t = fill.same request late i in (t.0, retries_same proxies script request s.attempts k.asked i ++ t.1);
    }

-- ---- an answer

chosen : (b : Bool) (script : List RequestModel) (s : ClientData) (rule : List RequestModel → ClientData × List Out) → Keeps script s rule
    → Known script s → Keeps script s (λ sc. if b then rule sc else (s, []))
chosen true script s rule h k = h
chosen false script s rule h k = idle script s k

accept_keeps : (window proxies me : ℕ) (script : List RequestModel) (s : ClientData) (b : AnswerBody) → Known script s
    → Keeps script s (λ sc. accept_rule window proxies me sc s b)
unfolding accept_rule
accept_keeps window proxies me script s b k =
    let t = after_acceptance b.num s in
    let known : Known script t = record { sent = k.sent; asked = all_without (IsAsked script) b.num s.attempts k.asked; ticks = k.ticks } in
    let fill = fill_keeps (window - length t.attempts) proxies me script t known in
    chosen (is_open b.num s.attempts) script s (λ sc. fill_window window proxies me sc t) (record { known = fill.known; rises = fill.rises; same = fill.same }) k

message_keeps : (window proxies me : ℕ) (script : List RequestModel) (s : ClientData) (from : Actor) (m : Message) → Known script s
    → Keeps script s (λ sc. client_message window proxies me sc s from m)
message_keeps window proxies me script s (Replica r) m k = idle script s k
message_keeps window proxies me script s (Client c) m k = idle script s k
message_keeps window proxies me script s (Proxy p) (Answer b) k = accept_keeps window proxies me script s b k
message_keeps window proxies me script s (Proxy p) (Request b) k = idle script s k
message_keeps window proxies me script s (Proxy p) (Timed b) k = idle script s k
message_keeps window proxies me script s (Proxy p) (FastReply b) k = idle script s k
message_keeps window proxies me script s (Proxy p) (SlowReply b) k = idle script s k
message_keeps window proxies me script s (Proxy p) (LogMod b) k = idle script s k
message_keeps window proxies me script s (Proxy p) (Fetch b) k = idle script s k
message_keeps window proxies me script s (Proxy p) (FetchReply b) k = idle script s k
message_keeps window proxies me script s (Proxy p) (SyncReport b) k = idle script s k
message_keeps window proxies me script s (Proxy p) (ViewAsk b) k = idle script s k
message_keeps window proxies me script s (Proxy p) (ViewChange b) k = idle script s k
message_keeps window proxies me script s (Proxy p) (StartView b) k = idle script s k
message_keeps window proxies me script s (Proxy p) (VectorAsk b) k = idle script s k
message_keeps window proxies me script s (Proxy p) (VectorTell b) k = idle script s k
message_keeps window proxies me script s (Proxy p) (RejoinAsk b) k = idle script s k
message_keeps window proxies me script s (Proxy p) (RejoinTell b) k = idle script s k
message_keeps window proxies me script s (Proxy p) (StateAsk b) k = idle script s k
message_keeps window proxies me script s (Proxy p) (StateTell b) k = idle script s k

-- ---- a step, and a run

record StepKeeps (g : Group) (c : ℕ) (s : ClientData) (step : Group → ClientData × List Out) : Type 0 where
  known : Known (script_of g c) (step g).0
  rises : s.ticks ≤ (step g).0.ticks
  same : (later : Group) (request : RequestModel) → HasOneMore g later c request → (step g).0.ticks < request.wait → step later ≡ step g

idle_step : (g : Group) (c : ℕ) (s : ClientData) → Known (script_of g c) s → StepKeeps g c s (λ h. (s, []))
idle_step g c s k = record { known = k; rises = omega arith; same = λ later request more late. refl }

envelope_keeps : (g : Group) (c : ℕ) (s : ClientData) (o : Option Envelope) → Known (script_of g c) s
    → StepKeeps g c s (λ h. envelope_step h (Client c) s o)
envelope_keeps g c s None k = idle_step g c s k
envelope_keeps g c s (Some e) k =
    let h = message_keeps g.window g.proxies c (script_of g c) s e.from e.message k in
    record {
      known = h.known;
      rises = h.rises;
      same = λ later request more late.
          (λ i. client_message (more.window i) (more.proxies i) c (more.script i) s e.from e.message) ∙ h.same request late;
    }

step_keeps : (g : Group) (c : ℕ) (s : ClientData) (e : Event) → Known (script_of g c) s → StepKeeps g c s (λ h. event_step h (Client c) s e)
step_keeps g c s (Deliver p) k =
    let h = envelope_keeps g c s (accepted_envelope g.f (Client c) p) k in
    record {
      known = h.known;
      rises = h.rises;
      same = λ later request more late. (λ i. envelope_step later (Client c) s (accepted_envelope (more.f i) (Client c) p)) ∙ h.same later request more late;
    }
step_keeps g c s (Cut kept p) k = idle_step g c s k
step_keeps g c s (Tick clock) k =
    let h = wait_keeps g.window g.proxies c (script_of g c) s k in
    record {
      known = h.known;
      rises = h.rises;
      same = λ later request more late. (λ i. wait_rule (more.window i) (more.proxies i) c (more.script i) s) ∙ h.same request late;
    }
step_keeps g c s Alarm k = idle_step g c s k
step_keeps g c s Crash k = idle_step g c s k
step_keeps g c s (Restart nonce) k = idle_step g c s k

-- what is true of a client after records
pub record RunKeeps (g : Group) (c : ℕ) (J : List Record) : Type 0 where
  known : Known (script_of g c) (state_after g (Client c) J)
  pub same : (later : Group) (request : RequestModel) → HasOneMore g later c request → (state_after g (Client c) J).ticks < request.wait
      → state_after later (Client c) J ≡ state_after g (Client c) J

-- the state after one record more, be it the client's or not
after_record : (b : Bool) (g : Group) (c : ℕ) (J : List Record) (e : Event) → RunKeeps g c J
    → StepKeeps g c (state_after g (Client c) J) (λ h. (if b then (event_step h (Client c) (state_after h (Client c) J) e).0 else state_after h (Client c) J, []))
after_record true g c J e k =
    let h = step_keeps g c (state_after g (Client c) J) e k.known in
    record {
      known = h.known;
      rises = h.rises;
      same = λ later request more late.
          let before = k.same later request more (omega (arith, late, h.rises)) in
          ap (λ (s : ClientData). ((event_step later (Client c) s e).0, [])) before
          ∙ ap (λ (t : ClientData × List Out). (t.0, [])) (h.same later request more late);
    }
after_record false g c J e k = record {
  known = k.known;
  rises = omega arith;
  same = λ later request more late. ap (λ (s : ClientData). (s, [])) (k.same later request more late);
}

pub run_keeps : (g : Group) (c : ℕ) (J : List Record) → RunKeeps g c J
unfolding state_after
run_keeps g c [] = record {
  known = record { sent = omega arith; asked = tt; ticks = omega arith };
  same = λ later request more late. refl;
}
run_keeps g c (r ∷ J) =
    let h = after_record (actor_eq r.actor (Client c)) g c J r.event (run_keeps g c J) in
    record {
      known = h.known;
      same = λ later request more late. ap (λ (t : ClientData × List Out). t.0) (h.same later request more late);
    }

-- the state after a record of the client's own
own_state : (g : Group) (c : ℕ) (J : List Record) (r : Record) → r.actor ≡ Client c
    → state_after g (Client c) (r ∷ J) ≡ (event_step g (Client c) (state_after g (Client c) J) r.event).0
unfolding state_after
own_state g c J r own =
    ap (λ (a : Actor). if actor_eq a (Client c) then (event_step g (Client c) (state_after g (Client c) J) r.event).0 else state_after g (Client c) J) own
    ∙ ap (λ (b : Bool). if b then (event_step g (Client c) (state_after g (Client c) J) r.event).0 else state_after g (Client c) J) (actor_eq_self (Client c))

pub lane_same : (g later : Group) (c : ℕ) (request : RequestModel) (J : List Record) → HasOneMore g later c request
    → (state_after g (Client c) J).ticks < request.wait → AllByRecursion (λ r. r.actor ≡ Client c) J
    → IsLane g (Client c) J → IsLane later (Client c) J
lane_same g later c request [] more late own lane = tt
lane_same g later c request (r ∷ J) more late own lane =
    let k = run_keeps g c J in
    let h = step_keeps g c (state_after g (Client c) J) r.event k.known in
    let ticks = ap (λ (s : ClientData). s.ticks) (own_state g c J r own.0) in
    let not_due : (event_step g (Client c) (state_after g (Client c) J) r.event).0.ticks < request.wait = omega (arith, late, ticks) in
    let earlier : (state_after g (Client c) J).ticks < request.wait = omega (arith, not_due, h.rises) in
    let before = k.same later request more earlier in
    let sent = ap (λ (s : ClientData). event_step later (Client c) s r.event) before ∙ h.same later request more not_due in (
      record { item = lane.0.item; sends = lane.0.sends ∙ sym (ap (λ (t : ClientData × List Out). map (parcel (Client c)) t.1) sent) },
      lane_same g later c request J more earlier own.1 lane.1,
    )
