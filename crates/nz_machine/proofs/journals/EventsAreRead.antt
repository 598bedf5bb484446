-- What is read off a client's record is its events.
use Rattle.std.proofs.Common.{◌≡◌, ℕ, zero, suc, ◌+◌, ◌-◌, ◌%◌, ◌<◌, ◌≤◌, ◌≢◌, Bool, true, false, cond, eqb, eqb-true, nat_lt, ◌&&◌, ◌||◌, not}
use Rattle.std.proofs.Common.{List, [], ◌∷◌, ◌++◌, length, map, set, replicate, Option, Some, None, refl, sym, ap, subst, ◌∙◌, arith, lt-ltb}
use Rattle.std.specs.Prelude.{slice_get, get_or, filter}
use Rattle.std.specs.List.{AllByRecursion, list_any}
use Rattle.std.proofs.lemmas.Bool.{le-ltb, eq-eqb, false≢true, cond_both}
use Rattle.std.proofs.lemmas.List.{length-set, length-replicate, map-append, set-get_or}
use Rattle.std.proofs.lemmas.Option.{same_Some, slice_get-get_or}
use Rattle.nz_base.specs.Actor.{actor_eq}
use Rattle.nz_base.specs.declared.actor.Actor.{Actor}
use Rattle.nz_base.specs.declared.actor.Actor.TheVariants.{Replica, Proxy, Client}
use Rattle.nz_base.specs.declared.scenario.Request.{Request}
use Rattle.nz_msg.specs.declared.envelope.Envelope.{Envelope}
use Rattle.nz_msg.specs.declared.message.AnswerBody.{AnswerBody}
use Rattle.nz_msg.specs.declared.message.Message.{Message}
use Rattle.nz_msg.specs.declared.message.Message.TheVariants.{Answer}
use Rattle.nz_msg.proofs.Envelopes.{decode-encode}
use Rattle.nz_machine.specs.declared.data.Attempt.{Attempt}
use Rattle.nz_machine.specs.declared.event.Event.{Event}
use Rattle.nz_machine.specs.declared.event.Event.TheVariants.{Deliver, Tick}
use Rattle.nz_machine.specs.declared.event.Parcel.{Parcel}
use Rattle.nz_machine.specs.declared.event.Record.{Record}
use Rattle.nz_machine.specs.rules.State.{ClientData, Group, Out}
use Rattle.nz_machine.specs.rules.Clients.{if_due, after_opening, fill_places, fill_window, is_overdue, attempt_after_wait, after_wait, request_again}
use Rattle.nz_machine.specs.rules.Clients.{retry, retries, wait_rule, is_open, without_attempt, after_acceptance, accept_rule}
use Rattle.nz_machine.specs.rules.Step.{script_of, envelope_for, if_from_cluster, is_in_cluster, is_sized, message_vector}
use Rattle.nz_machine.specs.rules.Step.{client_message, envelope_step, event_step, node_step, parcel}
use Rattle.nz_machine.specs.declared.client_event.ClientEvent.{ClientEvent}
use Rattle.nz_machine.specs.declared.client_event.ClientEvent.TheVariants.{Sent, Accepted}
use Rattle.nz_machine.specs.runs.Events.{id_at, command_of_request, script_command}
use Rattle.nz_machine.specs.runs.Events.{read_in, accepted_in, accepted_by, sent_after, sent_by, client_events}
use Rattle.nz_machine.specs.journals.ClientProgress.{Progress, first_progress}
use Rattle.nz_machine.specs.journals.ClientProgress.{progress_of, answer_in, answer_read, answer_of, with_answer, acceptance, num_in, num_read, num_of}
use Rattle.nz_machine.specs.journals.ClientProgress.{new_in, with_num, new_among, with_all, after_client_record, AreAfter, IsNoneOf}
use Rattle.nz_machine.specs.journals.Records.{IsSilentClock}
use Rattle.nz_machine.specs.runs.World.{state_after, IsMember, World}
use Rattle.nz_machine.proofs.runs.Runs.{FitsOut, AllFit, acts_itself, stays, sends_have}
use Rattle.nz_machine.proofs.lists.EachItem.{all_append}
use Rattle.nz_machine.proofs.journals.InTurn.{Rises, rises_most, InTurn, waited_num}
use Rattle.nz_machine.proofs.runs.FitRuns.{Fitted, FittedState, fits_keep, all_fit}

abbrev pub own_parcels : ℕ → List Out → List Parcel
own_parcels c outs = map (parcel (Client c)) outs

-- the request of this number has the script's command
pub own_command : (script : List Request) (num place : ℕ) (r : Request) → place ≡ num - 1
    → slice_get script place ≡ Some r → r.command ≡ script_command script num
own_command script num place r e at = sym (ap (λ (k : ℕ). command_of_request (slice_get script k)) (sym e) ∙ ap command_of_request at)

-- a count that stays gives no event
same_count : (n : ℕ) (x : List ClientEvent) → [] ≡ cond (nat_lt n n) x []
same_count n x = sym (ap (λ (b : Bool). cond b x []) (le-ltb n n (omega arith)))

-- ---- the numbers of what is sent

abbrev nums : List Out → List (Option ℕ)
nums outs = map (λ (o : Out). num_in o.1) outs

own_num : (c : ℕ) (o : Out) → FitsOut (Client c) o → num_of (parcel (Client c) o) ≡ num_in o.1
unfolding num_of
own_num c o fit = ap num_read (decode-encode (Client c) o.0 o.1 fit.sender fit.receiver fit.message)

own_nums : (c : ℕ) (outs : List Out) → AllFit (Client c) outs → map num_of (own_parcels c outs) ≡ nums outs
own_nums c [] h = refl
own_nums c (o ∷ outs) h =
    ap (λ (n : Option ℕ). n ∷ map num_of (own_parcels c outs)) (own_num c o h.0) ∙ ap (λ (l : List (Option ℕ)). num_in o.1 ∷ l) (own_nums c outs h.1)

-- ---- the events of a client's steps

-- what is seen of new requests is what was opened
record Opens (g : Group) (c : ℕ) (s : ClientData) (t : ClientData × List Out) : Type 0 where
  sent : new_among c (script_of g c) (progress_of s) (nums t.1) ≡ sent_by c (script_of g c) s t.0
  after : with_all (progress_of s) (nums t.1) ≡ progress_of t.0
  more : s.sent ≤ t.0.sent
  same : t.0.accepted ≡ s.accepted

none_after : (c : ℕ) (script : List Request) (n : ℕ) → [] ≡ sent_after c script n (n - n)
none_after c script n = let none : 0 ≡ n - n = omega arith in ap (sent_after c script n) none

nothing_opens : (g : Group) (c : ℕ) (s : ClientData) → Opens g c s (s, [])
nothing_opens g c s = record { sent = none_after c (script_of g c) s.sent; after = refl; more = omega arith; same = refl }

one_more : (c : ℕ) (script : List Request) (n most : ℕ) → n + 1 ≤ most
    → Sent (id_at c (n + 1)) (script_command script (n + 1)) ∷ sent_after c script (n + 1) (most - (n + 1)) ≡ sent_after c script n (most - n)
one_more c script n most le = let count : suc (most - (n + 1)) ≡ most - n = omega (arith, le) in ap (sent_after c script n) count

-- the request after the last one is new
next_is_new : (c : ℕ) (script : List Request) (proxy : ℕ) (s t : ClientData) → t.sent ≡ s.sent + 1
    → t.attempts ≡ s.attempts ++ record { num = s.sent + 1; proxy = proxy; since = 0 } ∷ []
    → (new_in c script (progress_of s) (Some (s.sent + 1)) ≡ Sent (id_at c (s.sent + 1)) (script_command script (s.sent + 1)) ∷ [])
    × (with_num (progress_of s) (Some (s.sent + 1)) ≡ progress_of t)
next_is_new c script proxy s t sent attempts =
    let more = lt-ltb s.sent (s.sent + 1) (omega arith) in
    let p = progress_of s in
    let n = s.sent + 1 in
    let a : Attempt = record { num = n; proxy = proxy; since = 0 } in
    let num_in_attempt = λ (x : Attempt). x.num in (
      ap (λ (b : Bool). cond b (Sent (id_at c n) (script_command script n) ∷ []) []) more,
      ap (λ (b : Bool). cond b (record { sent = n; waiting = p.waiting ++ n ∷ [] }) p) more
          ∙ (λ i. record { sent = sym sent i; waiting = sym (map-append num_in_attempt s.attempts (a ∷ [])) i })
          ∙ ap (λ (l : List Attempt). record { sent = t.sent; waiting = map num_in_attempt l }) (sym attempts),
    )

next_opens : (g : Group) (c free : ℕ) (s : ClientData) (o : Option Request)
    → ((t : ClientData) → Opens g c t (fill_places free g.proxies c (script_of g c) t))
    → let t = after_opening g.proxies c s o in let u = fill_places free g.proxies c (script_of g c) t.0 in Opens g c s (u.0, t.1 ++ u.1)
next_opens g c free s None rest = rest s
next_opens g c free s (Some r) rest =
    let t = after_opening g.proxies c s (Some r) in
    let u = fill_places free g.proxies c (script_of g c) t.0 in
    let k = rest t.0 in
    let n = s.sent + 1 in
    let script = script_of g c in
    let new = next_is_new c script (c % g.proxies) s t.0 refl refl in
    let more = k.more in
    record {
      sent = ap (λ (l : List ClientEvent). l ++ new_among c script (with_num (progress_of s) (Some n)) (nums u.1)) new.0
          ∙ ap (λ (p : Progress). Sent (id_at c n) (script_command script n) ∷ new_among c script p (nums u.1)) new.1
          ∙ ap (λ (l : List ClientEvent). Sent (id_at c n) (script_command script n) ∷ l) k.sent ∙ one_more c script s.sent u.0.sent more;
      after = ap (λ (p : Progress). with_all p (nums u.1)) new.1 ∙ k.after;
      more = omega (arith, more);
      same = k.same;
    }

places_open : (g : Group) (c free : ℕ) (s : ClientData) → Opens g c s (fill_places free g.proxies c (script_of g c) s)
places_open g c zero s = nothing_opens g c s
places_open g c (suc free) s = next_opens g c free s (if_due s.ticks (slice_get (script_of g c) s.sent)) (places_open g c free)

window_opens : (g : Group) (c : ℕ) (s : ClientData) → Opens g c s (fill_window g.window g.proxies c (script_of g c) s)
window_opens g c s = places_open g c (g.window - length s.attempts) s

-- ---- retries

-- a number is of no new request
abbrev IsOld : ℕ → Option ℕ → Type 0
IsOld sent None = Unit {0}
IsOld sent (Some num) = num ≤ sent

abbrev AreOld : ℕ → List Out → Type 0
AreOld sent outs = AllByRecursion (λ (o : Out). IsOld sent (num_in o.1)) outs

old_num : (c : ℕ) (script : List Request) (p : Progress) (o : Option ℕ) → IsOld p.sent o → (new_in c script p o ≡ []) × (with_num p o ≡ p)
old_num c script p None h = (refl, refl)
old_num c script p (Some num) h =
    let old = le-ltb p.sent num h in
    (ap (λ (b : Bool). cond b (Sent (id_at c num) (script_command script num) ∷ []) []) old, ap (λ (b : Bool). cond b (record { sent = num; waiting = p.waiting ++ num ∷ [] }) p) old)

old_shows_nothing : (c : ℕ) (script : List Request) (p : Progress) (outs : List Out) (rest : List (Option ℕ)) → AreOld p.sent outs
    → (new_among c script p (nums outs ++ rest) ≡ new_among c script p rest) × (with_all p (nums outs ++ rest) ≡ with_all p rest)
old_shows_nothing c script p [] rest h = (refl, refl)
old_shows_nothing c script p (o ∷ outs) rest h =
    let first = old_num c script p (num_in o.1) h.0 in
    let ih = old_shows_nothing c script p outs rest h.1 in (
      ap (λ (l : List ClientEvent). l ++ new_among c script (with_num p (num_in o.1)) (nums outs ++ rest)) first.0
          ∙ ap (λ (q : Progress). new_among c script q (nums outs ++ rest)) first.1 ∙ ih.0,
      ap (λ (q : Progress). with_all q (nums outs ++ rest)) first.1 ∙ ih.1,
    )

again_old : (sent proxy num : ℕ) (o : Option Request) → num ≤ sent → AreOld sent (request_again proxy num o)
again_old sent proxy num None le = tt
again_old sent proxy num (Some r) le = (le, tt)

retries_old : (proxies : ℕ) (script : List Request) (low : ℕ) (xs : List Attempt) (high : ℕ) → Rises low xs high → AreOld high (retries proxies script xs)
retries_old proxies script low [] high h = tt
retries_old proxies script low (a ∷ xs) high h =
    all_append (λ (o : Out). IsOld high (num_in o.1)) (retry proxies script a) (retries proxies script xs)
    (cond_both (is_overdue a) _ [] (AreOld high)
    (λ _. again_old high ((a.proxy + 1) % proxies) a.num (slice_get script (a.num - 1)) (rises_most a.num xs high h.1)) (λ _. tt))
    (retries_old proxies script a.num xs high h.1)

nums_waited : (proxies : ℕ) (xs : List Attempt) → map (λ (a : Attempt). a.num) (map (attempt_after_wait proxies) xs) ≡ map (λ (a : Attempt). a.num) xs
nums_waited proxies [] = refl
nums_waited proxies (a ∷ xs) =
    ap (λ (n : ℕ). n ∷ map (λ (x : Attempt). x.num) (map (attempt_after_wait proxies) xs)) (waited_num proxies a)
    ∙ ap (λ (l : List ℕ). a.num ∷ l) (nums_waited proxies xs)

-- ---- a tick

-- what is seen of a step, with the answer that it is of, is what the step did
record IsSeen (g : Group) (c : ℕ) (s : ClientData) (answer : Option AnswerBody) (accepts : List ClientEvent) (t : ClientData × List Out) : Type 0 where
  accepts_it : acceptance c answer ≡ accepts
  sent : new_among c (script_of g c) (with_answer (progress_of s) answer) (nums t.1) ≡ sent_by c (script_of g c) s t.0
  after : with_all (with_answer (progress_of s) answer) (nums t.1) ≡ progress_of t.0

nothing_seen : (g : Group) (c : ℕ) (s : ClientData) → IsSeen g c s None [] (s, [])
nothing_seen g c s = record { accepts_it = refl; sent = none_after c (script_of g c) s.sent; after = refl }

tick_seen : (g : Group) (c : ℕ) (s : ClientData) → InTurn g.window (script_of g c) s → IsSeen g c s None [] (wait_rule g.window g.proxies c (script_of g c) s)
unfolding wait_rule
tick_seen g c s h =
    let now = after_wait g.proxies s in
    let again = retries g.proxies (script_of g c) s.attempts in
    let u = fill_window g.window g.proxies c (script_of g c) now in
    let k = window_opens g c now in
    let p = progress_of s in
    let is : progress_of now ≡ p = ap (λ (l : List ℕ). record { sent = s.sent; waiting = l }) (nums_waited g.proxies s.attempts) in
    let parts : nums (again ++ u.1) ≡ nums again ++ nums u.1 = map-append (λ (o : Out). num_in o.1) again u.1 in
    let script = script_of g c in
    let old = old_shows_nothing c script p again (nums u.1) (retries_old g.proxies (script_of g c) 0 s.attempts s.sent h.rising) in
    record {
      accepts_it = refl;
      sent = ap (new_among c script p) parts ∙ old.0 ∙ ap (λ (q : Progress). new_among c script q (nums u.1)) (sym is) ∙ k.sent;
      after = ap (with_all p) parts ∙ old.1 ∙ ap (λ (q : Progress). with_all q (nums u.1)) (sym is) ∙ k.after;
    }

-- ---- a delivery

any_nums : (num : ℕ) (xs : List Attempt) → list_any (λ n. eqb n num) (map (λ (a : Attempt). a.num) xs) ≡ is_open num xs
any_nums num [] = refl
any_nums num (a ∷ xs) = ap (λ (b : Bool). eqb a.num num || b) (any_nums num xs)

nums_without : (num : ℕ) (xs : List Attempt)
    → filter (λ n. not (eqb n num)) (map (λ (a : Attempt). a.num) xs) ≡ map (λ (a : Attempt). a.num) (without_attempt num xs)
nums_without num [] = refl
nums_without num (a ∷ xs) = nums_kept num a xs (not (eqb a.num num)) (nums_without num xs)
  where
    nums_kept : (n : ℕ) (x : Attempt) (ys : List Attempt) (b : Bool)
        → filter (λ m. not (eqb m n)) (map (λ (y : Attempt). y.num) ys) ≡ map (λ (y : Attempt). y.num) (without_attempt n ys)
        → cond b (x.num ∷ filter (λ m. not (eqb m n)) (map (λ (y : Attempt). y.num) ys)) (filter (λ m. not (eqb m n)) (map (λ (y : Attempt). y.num) ys))
        ≡ map (λ (y : Attempt). y.num) (cond b (x ∷ without_attempt n ys) (without_attempt n ys))
    nums_kept n x ys true rest = ap (λ (l : List ℕ). x.num ∷ l) rest
    nums_kept n x ys false rest = rest

-- the answer is to an open request, or not
awaited_seen : (g : Group) (c : ℕ) (s : ClientData) (b : AnswerBody) (is : Bool)
    → let t = cond is (fill_window g.window g.proxies c (script_of g c) (after_acceptance b.num s)) (s, []) in
    IsSeen g c s (cond is (Some b) None) (accepted_in c s t.0 (Answer b)) t
awaited_seen g c s b true =
    let now = after_acceptance b.num s in
    let t = fill_window g.window g.proxies c (script_of g c) now in
    let k = window_opens g c now in
    let same = k.same in
    let p : with_answer (progress_of s) (Some b) ≡ progress_of now =
    ap (λ (l : List ℕ). record { sent = s.sent; waiting = l }) (nums_without b.num s.attempts) in
    record {
      accepts_it = sym (ap (λ (x : Bool). cond x (Accepted (id_at c b.num) b.answer b.path ∷ []) []) (lt-ltb s.accepted t.0.accepted (omega (arith, same))));
      sent = ap (λ (q : Progress). new_among c (script_of g c) q (nums t.1)) p ∙ k.sent;
      after = ap (λ (q : Progress). with_all q (nums t.1)) p ∙ k.after;
    }
awaited_seen g c s b false = record {
  accepts_it = same_count s.accepted (Accepted (id_at c b.num) b.answer b.path ∷ []);
  sent = none_after c (script_of g c) s.sent;
  after = refl;
}

accept_seen : (g : Group) (c : ℕ) (s : ClientData) (q : ℕ) (b : AnswerBody)
    → let t = accept_rule g.window g.proxies c (script_of g c) s b in
    IsSeen g c s (answer_in (progress_of s) (Proxy q) (Answer b)) (accepted_in c s t.0 (Answer b)) t
unfolding accept_rule
accept_seen g c s q b =
    let t = cond (is_open b.num s.attempts) (fill_window g.window g.proxies c (script_of g c) (after_acceptance b.num s)) (s, []) in
    subst (λ (x : Bool). IsSeen g c s (cond x (Some b) None) (accepted_in c s t.0 (Answer b)) t) (sym (any_nums b.num s.attempts))
    (awaited_seen g c s b (is_open b.num s.attempts))

-- a message that changes nothing is not accepted
none_accepted : (c : ℕ) (s : ClientData) (m : Message) → [] ≡ accepted_in c s s m
none_accepted c s (Answer b) = same_count s.accepted (Accepted (id_at c b.num) b.answer b.path ∷ [])
none_accepted c s _ = refl

ignored_seen : (g : Group) (c : ℕ) (s : ClientData) (m : Message) → IsSeen g c s None (accepted_in c s s m) (s, [])
ignored_seen g c s m = let h = nothing_seen g c s in record { accepts_it = none_accepted c s m; sent = h.sent; after = h.after }

message_seen : (g : Group) (c : ℕ) (s : ClientData) (from : Actor) (m : Message)
    → let t = client_message g.window g.proxies c (script_of g c) s from m in IsSeen g c s (answer_in (progress_of s) from m) (accepted_in c s t.0 m) t
message_seen g c s (Proxy q) (Answer b) = accept_seen g c s q b
message_seen g c s from m = ignored_seen g c s m

-- a message that is not counted is no answer of a proxy
stray_seen : (g : Group) (c : ℕ) (s : ClientData) (from : Actor) (m : Message) → (is_in_cluster g.f from && is_sized g.f (message_vector m)) ≡ false
    → IsSeen g c s (answer_in (progress_of s) from m) [] (s, [])
stray_seen g c s (Proxy q) (Answer b) e = absurd cc
stray_seen g c s from m e = nothing_seen g c s

counted_seen : (g : Group) (c : ℕ) (s : ClientData) (e : Envelope) (b : Bool) → (is_in_cluster g.f e.from && is_sized g.f (message_vector e.message)) ≡ b
    → let o = cond b (Some e) None in let t = envelope_step g (Client c) s o in
    IsSeen g c s (answer_in (progress_of s) e.from e.message) (accepted_by c s t.0 o) t
counted_seen g c s e true is = message_seen g c s e.from e.message
counted_seen g c s e false is = stray_seen g c s e.from e.message is

envelope_seen : (g : Group) (c : ℕ) (s : ClientData) (o : Option Envelope)
    → let t = envelope_step g (Client c) s (if_from_cluster g.f o) in
    IsSeen g c s (answer_read (progress_of s) o) (accepted_by c s t.0 (if_from_cluster g.f o)) t
envelope_seen g c s None = nothing_seen g c s
envelope_seen g c s (Some e) = counted_seen g c s e (is_in_cluster g.f e.from && is_sized g.f (message_vector e.message)) refl

-- ---- records

event_seen : (g : Group) (c : ℕ) (s : ClientData) (e : Event) → InTurn g.window (script_of g c) s
    → let t = event_step g (Client c) s e in IsSeen g c s (answer_of c (progress_of s) e) (accepted_by c s t.0 (read_in g (Client c) e)) t
event_seen g c s (Deliver p) h = envelope_seen g c s (envelope_for (Client c) p)
event_seen g c s (Tick clock) h = tick_seen g c s h
event_seen g c s _ h = nothing_seen g c s

-- what a record of the client shows
pub record ShowsAll (g : Group) (c : ℕ) (r : Record) (J : List Record) (p : Progress) : Type 0 where
  pub events : (after_client_record c (script_of g c) p r.event r.sends).0 ≡ client_events g r.actor r J
  pub after : (after_client_record c (script_of g c) p r.event r.sends).1 ≡ progress_of (state_after g (Client c) (r ∷ J))

-- all that the client sends fits
own_fit : (g : Group) (c : ℕ) (r : Record) (J : List Record) → World g (r ∷ J) → r.actor ≡ Client c
    → AllFit (Client c) (event_step g (Client c) (state_after g (Client c) J) r.event).1
own_fit g c r J w by =
    subst (λ (a : Actor). AllFit a (event_step g a (state_after g a J) r.event).1) by (sends_have g (Fitted g) (FittedState g) (fits_keep g) J r w)

pub record_shows : (g : Group) (c : ℕ) (r : Record) (J : List Record) → World g (r ∷ J) → r.actor ≡ Client c
    → ShowsAll g c r J (progress_of (state_after g (Client c) J))
record_shows g c r J w by =
    let s = state_after g (Client c) J in
    let p = progress_of s in
    let script = script_of g c in
    let q = with_answer p (answer_of c p r.event) in
    let t = event_step g (Client c) s r.event in
    let h = event_seen g c s r.event ((all_fit g J w.1).states (Client c)) in
    let sends : r.sends ≡ own_parcels c t.1 = w.0.sends ∙ ap (λ (a : Actor). (node_step g a (state_after g a J) r.event).1) by in
    let numbers : map num_of r.sends ≡ nums t.1 = ap (map num_of) sends ∙ own_nums c t.1 (own_fit g c r J w by) in
    let now : state_after g (Client c) (r ∷ J) ≡ t.0 = acts_itself g (Client c) r J by in
    let read = read_in g (Client c) r.event in
    let seen = λ (x : ClientData). accepted_by c s x read ++ sent_by c script s x in
    record {
      events = ap (λ (l : List (Option ℕ)). acceptance c (answer_of c p r.event) ++ new_among c script q l) numbers
          ∙ ap (λ (l : List ClientEvent). l ++ new_among c script q (nums t.1)) h.accepts_it
          ∙ ap (λ (l : List ClientEvent). accepted_by c s t.0 read ++ l) h.sent ∙ sym (ap seen now) ∙ sym (ap (λ (a : Actor). client_events g a r J) by);
      after = ap (with_all q) numbers ∙ h.after ∙ sym (ap progress_of now);
    }

-- ---- all clients

first_progresses : (scripts : List (List Request)) (c : ℕ) (p : Progress) → c < length scripts → slice_get (replicate (length scripts) p) c ≡ Some p
first_progresses [] c p lt = absurd (omega (arith, lt))
first_progresses (x ∷ scripts) zero p lt = refl
first_progresses (x ∷ scripts) (suc c) p lt = first_progresses scripts c p (omega (arith, lt))

pub first_after : (g : Group) → AreAfter g [] (replicate (length g.scripts) first_progress)
unfolding state_after
first_after g = record { count = length-replicate (length g.scripts) first_progress; each = λ c lt. first_progresses g.scripts c first_progress lt }

-- a client's progress is the one that is kept
kept_progress : (g : Group) (J : List Record) (clients : List Progress) (c : ℕ) (p : Progress) → AreAfter g J clients
    → c < length clients → slice_get clients c ≡ Some p → p ≡ progress_of (state_after g (Client c) J)
kept_progress g J clients c p h lt is = same_Some p (progress_of (state_after g (Client c) J)) (sym is ∙ h.each c (omega (arith, h.count, lt)))

pub own_events : (g : Group) (c : ℕ) (r : Record) (J : List Record) (clients : List Progress) (p : Progress) → World g (r ∷ J)
    → r.actor ≡ Client c → AreAfter g J clients → c < length clients → slice_get clients c ≡ Some p
    → (after_client_record c (script_of g c) p r.event r.sends).0 ≡ client_events g r.actor r J
own_events g c r J clients p w by h lt is =
    ap (λ (x : Progress). (after_client_record c (script_of g c) x r.event r.sends).0) (kept_progress g J clients c p h lt is)
    ∙ (record_shows g c r J w by).events

set_other : {X : Type 0} (xs : List X) (i k : ℕ) (x : X) → k ≢ i → slice_get (set xs i x) k ≡ slice_get xs k
set_other [] i k x ne = refl
set_other (y ∷ xs) zero zero x ne = absurd (ne refl)
set_other (y ∷ xs) zero (suc k) x ne = refl
set_other (y ∷ xs) (suc i) zero x ne = refl
set_other (y ∷ xs) (suc i) (suc k) x ne = set_other xs i k x (λ e. ne (ap suc e))

set_same : {X : Type 0} (xs : List X) (i : ℕ) (x : X) → i < length xs → slice_get (set xs i x) i ≡ Some x
set_same [] i x lt = absurd (omega (arith, lt))
set_same (y ∷ xs) zero x lt = refl
set_same (y ∷ xs) (suc i) x lt = set_same xs i x (omega (arith, lt))

own_each : (g : Group) (c : ℕ) (r : Record) (J : List Record) (clients : List Progress) (p : Progress)
    → World g (r ∷ J) → r.actor ≡ Client c → AreAfter g J clients → c < length clients → slice_get clients c ≡ Some p
    → (k : ℕ) → k < length g.scripts → (b : Bool) → eqb c k ≡ b
    → slice_get (set clients c (after_client_record c (script_of g c) p r.event r.sends).1) k ≡ Some (progress_of (state_after g (Client k) (r ∷ J)))
own_each g c r J clients p w by h lt is k member true e =
    let same : c ≡ k = eqb-true c k e in
    let q = (after_client_record c (script_of g c) p r.event r.sends).1 in
    subst (λ (i : ℕ). slice_get (set clients c q) i ≡ Some (progress_of (state_after g (Client i) (r ∷ J)))) same
    (set_same clients c q lt ∙ ap Some
    (ap (λ (x : Progress). (after_client_record c (script_of g c) x r.event r.sends).1) (kept_progress g J clients c p h lt is)
    ∙ (record_shows g c r J w by).after))
own_each g c r J clients p w by h lt is k member false e =
    let other : actor_eq r.actor (Client k) ≡ false = ap (λ (a : Actor). actor_eq a (Client k)) by ∙ e in
    set_other clients c k (after_client_record c (script_of g c) p r.event r.sends).1
    (λ same. false≢true (sym e ∙ eq-eqb c k (sym same))) ∙ h.each k member
    ∙ ap (λ (s : ClientData). Some (progress_of s)) (sym (stays g (Client k) r J other))

pub own_after : (g : Group) (c : ℕ) (r : Record) (J : List Record) (clients : List Progress) (p : Progress)
    → World g (r ∷ J) → r.actor ≡ Client c → AreAfter g J clients → c < length clients → slice_get clients c ≡ Some p
    → AreAfter g (r ∷ J) (set clients c (after_client_record c (script_of g c) p r.event r.sends).1)
own_after g c r J clients p w by h lt is = record {
  count = length-set clients c (after_client_record c (script_of g c) p r.event r.sends).1 ∙ h.count;
  each = λ k member. own_each g c r J clients p w by h lt is k member (eqb c k) refl;
}

no_events : (g : Group) (a : Actor) (r : Record) (J : List Record) → IsMember g a → IsNoneOf (length g.scripts) a → [] ≡ client_events g a r J
no_events g (Client c) r J member other = absurd (omega (arith, member, other))
no_events g (Replica m) r J member other = refl
no_events g (Proxy p) r J member other = refl

other_client : (g : Group) (J : List Record) (clients : List Progress) (a : Actor) → AreAfter g J clients
    → IsNoneOf (length clients) a → IsNoneOf (length g.scripts) a
other_client g J clients a h other = subst (λ (n : ℕ). IsNoneOf n a) h.count other

pub other_events : (g : Group) (r : Record) (J : List Record) (clients : List Progress) → World g (r ∷ J)
    → IsNoneOf (length clients) r.actor → AreAfter g J clients → [] ≡ client_events g r.actor r J
other_events g r J clients w other h = no_events g r.actor r J w.0.member (other_client g J clients r.actor h other)

not_client : (g : Group) (a : Actor) (c : ℕ) → IsMember g a → IsNoneOf (length g.scripts) a → actor_eq a (Client c) ≡ false
not_client g (Client k) c member other = absurd (omega (arith, member, other))
not_client g (Replica m) c member other = refl
not_client g (Proxy p) c member other = refl

pub other_after : (g : Group) (r : Record) (J : List Record) (clients : List Progress) → World g (r ∷ J)
    → IsNoneOf (length clients) r.actor → AreAfter g J clients → AreAfter g (r ∷ J) clients
other_after g r J clients w other h = record {
  count = h.count;
  each =
      λ c lt. h.each c lt ∙ ap (λ (s : ClientData). Some (progress_of s))
      (sym (stays g (Client c) r J (not_client g r.actor c w.0.member (other_client g J clients r.actor h other))));
}

-- ---- a silent tick has no event

-- the clients are as far after the record as before, and it has no event
abbrev ShowsNothing : Group → Record → List Record → List Progress → Type 0
ShowsNothing g r J clients = (client_events g r.actor r J ≡ []) × AreAfter g (r ∷ J) clients

clock_of_client : (g : Group) (c : ℕ) (r : Record) (J : List Record) (clients : List Progress) → World g (r ∷ J) → r.actor ≡ Client c
    → c < length clients → IsSilentClock r → AreAfter g J clients → ShowsNothing g r J clients
clock_of_client g c r J clients w by lt s h =
    let p = get_or clients c first_progress in
    let there : slice_get clients c ≡ Some p = slice_get-get_or clients c first_progress lt in
    let is : after_client_record c (script_of g c) p r.event r.sends ≡ ([], p) =
    ap (λ (e : Event). after_client_record c (script_of g c) p e r.sends) s.read
    ∙ ap (after_client_record c (script_of g c) p (Tick s.reading)) s.silent in (
      sym (own_events g c r J clients p w by h lt there) ∙ ap (λ (x : List ClientEvent × Progress). x.0) is,
      subst (AreAfter g (r ∷ J)) (ap (λ (x : List ClientEvent × Progress). set clients c x.1) is ∙ set-get_or clients c first_progress)
          (own_after g c r J clients p w by h lt there),
    )

clock_of_other : (g : Group) (r : Record) (J : List Record) (clients : List Progress) → IsNoneOf (length clients) r.actor
    → World g (r ∷ J) → AreAfter g J clients → ShowsNothing g r J clients
clock_of_other g r J clients other w h = (sym (other_events g r J clients w other h), other_after g r J clients w other h)

clock_of : (g : Group) (a : Actor) (r : Record) (J : List Record) (clients : List Progress) → r.actor ≡ a → IsMember g a → IsSilentClock r
    → World g (r ∷ J) → AreAfter g J clients → ShowsNothing g r J clients
clock_of g (Client c) r J clients by member s w h =
    let count = h.count in
    clock_of_client g c r J clients w by (omega (arith, member, count)) s h
clock_of g (Replica m) r J clients by member s w h = clock_of_other g r J clients (subst (IsNoneOf (length clients)) (sym by) tt) w h
clock_of g (Proxy p) r J clients by member s w h = clock_of_other g r J clients (subst (IsNoneOf (length clients)) (sym by) tt) w h

pub silent_clock_shows : (g : Group) (r : Record) (J : List Record) (clients : List Progress) → IsSilentClock r → World g (r ∷ J)
    → AreAfter g J clients → (client_events g r.actor r J ≡ []) × AreAfter g (r ∷ J) clients
silent_clock_shows g r J clients s w h = clock_of g r.actor r J clients refl w.0.member s w h
