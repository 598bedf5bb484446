-- A client's open requests have rising numbers of those that it sent, and with the accepted ones they are all of them.
use Rattle.std.proofs.Common.{◌≡◌, ℕ, zero, suc, ◌+◌, ◌-◌, ◌%◌, ◌<◌, ◌≤◌, eqb, eqb-true, Bool, true, false, not, cond, ◌||◌, List}
use Rattle.std.proofs.Common.{[], ◌∷◌, ◌++◌, length, map, Option, Some, None, refl, sym, ap, subst, ◌∙◌, inl, inr, arith}
use Rattle.std.proofs.lemmas.Bool.{cases_Bool, or_parts, cond_both}
use Rattle.std.specs.Prelude.{slice_get, nat_le}
use Rattle.std.proofs.lemmas.List.{length-append, length-map}
use Rattle.std.proofs.lemmas.Option.{none-some, same_Some}
use Rattle.nz_base.specs.declared.actor.Actor.{Actor}
use Rattle.nz_base.specs.declared.actor.Actor.TheVariants.{Proxy, Client}
use Rattle.nz_base.specs.declared.scenario.Request.{Request}
use Rattle.nz_msg.specs.declared.message.AnswerBody.{AnswerBody}
use Rattle.nz_msg.specs.declared.envelope.Envelope.{Envelope}
use Rattle.nz_msg.specs.declared.message.Message.{Message}
use Rattle.nz_msg.specs.declared.message.Message.TheVariants.{Answer}
use Rattle.nz_machine.specs.declared.data.Attempt.{Attempt}
use Rattle.nz_machine.specs.declared.event.Event.{Event}
use Rattle.nz_machine.specs.declared.event.Event.TheVariants.{Deliver, Tick}
use Rattle.nz_machine.specs.rules.State.{ClientData, Group, Out}
use Rattle.nz_machine.specs.rules.Clients.{if_due, after_opening, open_next, fill_places, fill_window, is_overdue, attempt_after_wait, after_wait}
use Rattle.nz_machine.specs.rules.Clients.{wait_rule, is_open, without_attempt, after_acceptance, accept_rule, first_client}
use Rattle.nz_machine.specs.rules.Step.{script_of, client_message, accepted_envelope, envelope_step, event_step}

-- ---- rising numbers

-- the numbers rise, above the one and up to the other
abbrev pub Rises : ℕ → List Attempt → ℕ → Type 0
Rises low [] high = low ≤ high
Rises low (a ∷ xs) high = (low < a.num) × Rises a.num xs high

pub rises_most : (low : ℕ) (xs : List Attempt) (high : ℕ) → Rises low xs high → low ≤ high
rises_most low [] high h = h
rises_most low (a ∷ xs) high h = let below = h.0 in let rest = rises_most a.num xs high h.1 in omega (arith, below, rest)

rises_lower : (low below : ℕ) (xs : List Attempt) (high : ℕ) → below ≤ low → Rises low xs high → Rises below xs high
rises_lower low below [] high le h = omega (arith, le, h)
rises_lower low below (a ∷ xs) high le h = let lt = h.0 in (omega (arith, le, lt), h.1)

rises_push : (low : ℕ) (xs : List Attempt) (high : ℕ) (a : Attempt) → Rises low xs high → high < a.num → Rises low (xs ++ a ∷ []) a.num
rises_push low [] high a h lt = (omega (arith, h, lt), omega arith)
rises_push low (b ∷ xs) high a h lt = (h.0, rises_push b.num xs high a h.1 lt)

pub waited_num : (proxies : ℕ) (a : Attempt) → (attempt_after_wait proxies a).num ≡ a.num
waited_num proxies a = cond_both (is_overdue a) _ _ (λ (x : Attempt). x.num ≡ a.num) (λ _. refl) (λ _. refl)

rises_waited : (proxies low : ℕ) (xs : List Attempt) (high : ℕ) → Rises low xs high → Rises low (map (attempt_after_wait proxies) xs) high
rises_waited proxies low [] high h = h
rises_waited proxies low (a ∷ xs) high h =
    let same = sym (waited_num proxies a) in
    (subst (λ (n : ℕ). low < n) same h.0, subst (λ (n : ℕ). Rises n (map (attempt_after_wait proxies) xs) high) same (rises_waited proxies a.num xs high h.1))

rises_without : (num low : ℕ) (xs : List Attempt) (high : ℕ) → Rises low xs high → Rises low (without_attempt num xs) high
rises_without num low [] high h = h
rises_without num low (a ∷ xs) high h =
    let rest = rises_without num a.num xs high h.1 in
    let below = h.0 in
    cond_both (not (eqb a.num num)) (a ∷ without_attempt num xs) (without_attempt num xs) (λ (l : List Attempt). Rises low l high) (λ _. (h.0, rest))
    (λ _. rises_lower a.num low (without_attempt num xs) high (omega (arith, below)) rest)

-- ---- which are open

any_head : (num : ℕ) (a : Attempt) (xs : List Attempt) (b : Bool) → eqb a.num num ≡ b → is_open num (a ∷ xs) ≡ b || is_open num xs
any_head num a xs b e = ap (λ (x : Bool). x || is_open num xs) e

-- an open request is one of those that were sent
pub open_within : (num low : ℕ) (xs : List Attempt) (high : ℕ) → Rises low xs high → is_open num xs ≡ true → (low < num) × (num ≤ high)
open_within num low [] high h held = absurd cc
open_within num low (a ∷ xs) high h held = elim (cases_Bool (eqb a.num num)) [
  | inl t ↦ let same = eqb-true a.num num t in let below = h.0 in let rest = rises_most a.num xs high h.1 in
      (omega (arith, same, below), omega (arith, same, rest))
  | inr f ↦ let k = open_within num a.num xs high h.1 (sym (any_head num a xs false f) ∙ held) in let below = h.0 in let least = k.0 in
      (omega (arith, below, least), k.1)
]

-- a number above all is of none
pub none_above : (num low : ℕ) (xs : List Attempt) (high : ℕ) → Rises low xs high → high < num → is_open num xs ≡ false
none_above num low xs high h lt = elim (cases_Bool (is_open num xs)) [
  | inl t ↦ let k = open_within num low xs high h t in let most = k.1 in absurd (omega (arith, lt, most))
  | inr f ↦ f
]

-- nor is one below all
none_below : (num low : ℕ) (xs : List Attempt) (high : ℕ) → Rises low xs high → num ≤ low → is_open num xs ≡ false
none_below num low xs high h le = elim (cases_Bool (is_open num xs)) [
  | inl t ↦ let k = open_within num low xs high h t in let least = k.0 in absurd (omega (arith, le, least))
  | inr f ↦ f
]

closed_waited : (proxies num : ℕ) (xs : List Attempt) → is_open num (map (attempt_after_wait proxies) xs) ≡ is_open num xs
closed_waited proxies num [] = refl
closed_waited proxies num (a ∷ xs) =
    ap (λ (n : ℕ). eqb n num || is_open num (map (attempt_after_wait proxies) xs)) (waited_num proxies a)
    ∙ ap (λ (b : Bool). eqb a.num num || b) (closed_waited proxies num xs)

closed_push : (num : ℕ) (xs : List Attempt) (a : Attempt) → num < a.num → is_open num xs ≡ false → is_open num (xs ++ a ∷ []) ≡ false
closed_push num [] a lt h = elim (cases_Bool (eqb a.num num)) [
  | inl t ↦ let same = eqb-true a.num num t in absurd (omega (arith, lt, same))
  | inr f ↦ any_head num a [] false f
]
closed_push num (b ∷ xs) a lt h =
    let k = or_parts (eqb b.num num) (is_open num xs) h in any_head num b (xs ++ a ∷ []) false k.0 ∙ closed_push num xs a lt k.1

-- what is closed stays closed without another, and that one is closed
closed_by : (num other : ℕ) (xs : List Attempt) → is_open num xs ≡ false → is_open num (without_attempt other xs) ≡ false
closed_by num other [] h = refl
closed_by num other (a ∷ xs) h =
    let k = or_parts (eqb a.num num) (is_open num xs) h in
    cond_both (not (eqb a.num other)) (a ∷ without_attempt other xs) (without_attempt other xs) (λ (l : List Attempt). is_open num l ≡ false)
    (λ _. any_head num a (without_attempt other xs) false k.0 ∙ closed_by num other xs k.1) (λ _. closed_by num other xs k.1)

closed_now : (num : ℕ) (xs : List Attempt) → is_open num (without_attempt num xs) ≡ false
closed_now num [] = refl
closed_now num (a ∷ xs) = elim (cases_Bool (eqb a.num num)) [
  | inl t ↦ ap (λ (b : Bool). is_open num (cond (not b) (a ∷ without_attempt num xs) (without_attempt num xs))) t ∙ closed_now num xs
  | inr f ↦
      ap (λ (b : Bool). is_open num (cond (not b) (a ∷ without_attempt num xs) (without_attempt num xs))) f
      ∙ any_head num a (without_attempt num xs) false f ∙ closed_now num xs
]

-- ---- without an open one there is one less

pub none_without : (num : ℕ) (xs : List Attempt) → is_open num xs ≡ false → without_attempt num xs ≡ xs
none_without num [] h = refl
none_without num (a ∷ xs) h =
    let k = or_parts (eqb a.num num) (is_open num xs) h in
    ap (λ (b : Bool). cond (not b) (a ∷ without_attempt num xs) (without_attempt num xs)) k.0 ∙ ap (λ (l : List Attempt). a ∷ l) (none_without num xs k.1)

one_less : (num low : ℕ) (xs : List Attempt) (high : ℕ) → Rises low xs high → is_open num xs ≡ true → length (without_attempt num xs) + 1 ≡ length xs
one_less num low [] high h held = absurd cc
one_less num low (a ∷ xs) high h held = elim (cases_Bool (eqb a.num num)) [
  | inl t ↦
      let same = eqb-true a.num num t in
      let rest = none_without num xs (none_below num a.num xs high h.1 (omega (arith, same))) in
      let is = ap (λ (b : Bool). length (cond (not b) (a ∷ without_attempt num xs) (without_attempt num xs))) t ∙ ap length rest in
      omega (arith, is)
  | inr f ↦
      let ih = one_less num a.num xs high h.1 (sym (any_head num a xs false f) ∙ held) in
      let is = ap (λ (b : Bool). length (cond (not b) (a ∷ without_attempt num xs) (without_attempt num xs))) f in
      omega (arith, is, ih)
]

-- ---- a client's state

pub record InTurn (window : ℕ) (script : List Request) (s : ClientData) : Type 0 where
  pub rising : Rises 0 s.attempts s.sent
  pub counted : s.accepted + length s.attempts ≡ s.sent
  pub few : length s.attempts ≤ window
  pub sent : s.sent ≤ length script

pub first_in_turn : (window : ℕ) (script : List Request) → InTurn window script first_client
first_in_turn window script = record { rising = omega arith; counted = refl; few = omega arith; sent = omega arith }

-- ---- new requests

-- no count falls, nothing is accepted, and what was closed stays closed
pub record Fills (window : ℕ) (script : List Request) (s t : ClientData) : Type 0 where
  pub in_turn : InTurn window script t
  pub more : s.sent ≤ t.sent
  pub same : t.accepted ≡ s.accepted
  pub closed : (num : ℕ) → num ≤ s.sent → is_open num s.attempts ≡ false → is_open num t.attempts ≡ false

-- the same, and at most one more is open
record Opens (window : ℕ) (script : List Request) (s t : ClientData) : Type 0 where
  fills : Fills window script s t
  one : length t.attempts ≤ length s.attempts + 1

stays_in_turn : (window : ℕ) (script : List Request) (s : ClientData) → InTurn window script s → Fills window script s s
stays_in_turn window script s h = record { in_turn = h; more = omega arith; same = refl; closed = λ num le c. c }

get_within : {X : Type 0} (xs : List X) (i : ℕ) (x : X) → slice_get xs i ≡ Some x → i < length xs
get_within [] i x e = absurd (none-some x e)
get_within (y ∷ xs) zero x e = omega arith
get_within (y ∷ xs) (suc i) x e = let ih = get_within xs i x e in omega (arith, ih)

due_is : (b : Bool) (request r : Request) → cond b (Some request) None ≡ Some r → request ≡ r
due_is true request r e = same_Some request r e
due_is false request r e = absurd (none-some r e)

pub if_due_is : (ticks : ℕ) (o : Option Request) (r : Request) → if_due ticks o ≡ Some r → o ≡ Some r
if_due_is ticks None r e = absurd (none-some r e)
if_due_is ticks (Some request) r e = ap Some (due_is (nat_le request.wait ticks) request r e)

-- a request that is due is one of the script
pub due_within : (ticks : ℕ) (script : List Request) (i : ℕ) (r : Request) → if_due ticks (slice_get script i) ≡ Some r → i < length script
due_within ticks script i r e = get_within script i r (if_due_is ticks (slice_get script i) r e)

opened_opens : (window proxies me : ℕ) (script : List Request) (s : ClientData) (o : Option Request) → if_due s.ticks (slice_get script s.sent) ≡ o
    → length s.attempts < window → InTurn window script s → Opens window script s (after_opening proxies me s o).0
opened_opens window proxies me script s None e room h = record { fills = stays_in_turn window script s h; one = omega arith }
opened_opens window proxies me script s (Some r) e room h =
    let a : Attempt = record { num = s.sent + 1; proxy = me % proxies; since = 0 } in
    let long = length-append s.attempts (a ∷ []) in
    let counted = h.counted in
    let within = due_within s.ticks script s.sent r e in
    record {
      fills = record {
        in_turn = record {
          rising = rises_push 0 s.attempts s.sent a h.rising (omega arith);
          counted = omega (arith, long, counted);
          few = omega (arith, long, room);
          sent = omega (arith, within);
        };
        more = omega arith;
        same = refl;
        closed = λ num le c. closed_push num s.attempts a (omega (arith, le)) c;
      };
      one = omega (arith, long);
    }

pub fills_then : (window : ℕ) (script : List Request) (s t u : ClientData) → Fills window script s t → Fills window script t u → Fills window script s u
fills_then window script s t u h k =
    let first = h.more in
    let then = k.more in
    record {
      in_turn = k.in_turn;
      more = omega (arith, first, then);
      same = k.same ∙ h.same;
      closed = λ num le c. k.closed num (omega (arith, le, first)) (h.closed num le c);
    }

pub places_filled : (free window proxies me : ℕ) (script : List Request) (s : ClientData) → length s.attempts + free ≤ window → InTurn window script s
    → Fills window script s (fill_places free proxies me script s).0
places_filled zero window proxies me script s room h = stays_in_turn window script s h
places_filled (suc free) window proxies me script s room h =
    let t = (open_next proxies me script s).0 in
    let k = opened_opens window proxies me script s (if_due s.ticks (slice_get script s.sent)) refl (omega (arith, room)) h in
    let one = k.one in
    fills_then window script s t (fill_places free proxies me script t).0 k.fills
    (places_filled free window proxies me script t (omega (arith, one, room)) k.fills.in_turn)

pub window_filled : (window proxies me : ℕ) (script : List Request) (s : ClientData) → InTurn window script s
    → Fills window script s (fill_window window proxies me script s).0
window_filled window proxies me script s h =
    let few = h.few in places_filled (window - length s.attempts) window proxies me script s (omega (arith, few)) h

-- ---- the rules

-- a step: an open request may be accepted, and then it is closed
pub record Turns (window : ℕ) (script : List Request) (s t : ClientData) : Type 0 where
  pub in_turn : InTurn window script t
  pub more : s.sent ≤ t.sent
  pub rises : s.accepted ≤ t.accepted
  pub one : t.accepted ≤ s.accepted + 1
  pub closed : (num : ℕ) → num ≤ s.sent → is_open num s.attempts ≡ false → is_open num t.attempts ≡ false

pub fills_turns : (window : ℕ) (script : List Request) (s t : ClientData) → Fills window script s t → Turns window script s t
fills_turns window script s t h =
    let same = h.same in record { in_turn = h.in_turn; more = h.more; rises = omega (arith, same); one = omega (arith, same); closed = h.closed }

pub none_turns : (window : ℕ) (script : List Request) (s : ClientData) → InTurn window script s → Turns window script s s
none_turns window script s h = fills_turns window script s s (stays_in_turn window script s h)

pub waited_in_turn : (window proxies : ℕ) (script : List Request) (s : ClientData) → InTurn window script s → InTurn window script (after_wait proxies s)
waited_in_turn window proxies script s h =
    let long = length-map s.attempts (attempt_after_wait proxies) in
    let counted = h.counted in
    let few = h.few in
    record {
      rising = rises_waited proxies 0 s.attempts s.sent h.rising;
      counted = omega (arith, long, counted);
      few = omega (arith, long, few);
      sent = h.sent;
    }

-- at a tick nothing is accepted
pub tick_fills : (window proxies me : ℕ) (script : List Request) (s : ClientData) → InTurn window script s
    → Fills window script s (wait_rule window proxies me script s).0
unfolding wait_rule
tick_fills window proxies me script s h =
    let now = after_wait proxies s in
    let t = window_filled window proxies me script now (waited_in_turn window proxies script s h) in
    record { in_turn = t.in_turn; more = t.more; same = t.same; closed = λ num le c. t.closed num le (closed_waited proxies num s.attempts ∙ c) }

pub accepted_in_turn : (window num : ℕ) (script : List Request) (s : ClientData) → is_open num s.attempts ≡ true → InTurn window script s
    → InTurn window script (after_acceptance num s)
accepted_in_turn window num script s held h =
    let less = one_less num 0 s.attempts s.sent h.rising held in
    let counted = h.counted in
    let few = h.few in
    record {
      rising = rises_without num 0 s.attempts s.sent h.rising;
      counted = omega (arith, less, counted);
      few = omega (arith, less, few);
      sent = h.sent;
    }

-- what an answer does: nothing, or the request of its number was open, and is accepted and closed
pub record Takes (window : ℕ) (script : List Request) (s : ClientData) (b : AnswerBody) (t : ClientData) : Type 0 where
  pub turns : Turns window script s t
  pub held : s.accepted < t.accepted → is_open b.num s.attempts ≡ true
  pub shut : s.accepted < t.accepted → is_open b.num t.attempts ≡ false

pub answer_takes : (window proxies me : ℕ) (script : List Request) (s : ClientData) (b : AnswerBody) → InTurn window script s
    → Takes window script s b (accept_rule window proxies me script s b).0
unfolding accept_rule
answer_takes window proxies me script s b h =
    let now = after_acceptance b.num s in
    cond_both (is_open b.num s.attempts) (fill_window window proxies me script now) (s, []) (λ (t : ClientData × List Out). Takes window script s b t.0)
    (λ held.
    let t = window_filled window proxies me script now (accepted_in_turn window b.num script s held h) in
    let within = (open_within b.num 0 s.attempts s.sent h.rising held).1 in
    let same = t.same in
    record {
      turns = record {
        in_turn = t.in_turn;
        more = t.more;
        rises = omega (arith, same);
        one = omega (arith, same);
        closed = λ num le c. t.closed num le (closed_by num b.num s.attempts c);
      };
      held = λ _. held;
      shut = λ _. t.closed b.num within (closed_now b.num s.attempts);
    })
    (λ _. record { turns = none_turns window script s h; held = λ lt. absurd (omega (arith, lt)); shut = λ lt. absurd (omega (arith, lt)) })

pub message_turns : (window proxies me : ℕ) (script : List Request) (s : ClientData) (from : Actor) (m : Message) → InTurn window script s
    → Turns window script s (client_message window proxies me script s from m).0
message_turns window proxies me script s (Proxy p) (Answer b) h = (answer_takes window proxies me script s b h).turns
message_turns window proxies me script s _ _ h = none_turns window script s h

envelope_turns : (g : Group) (c : ℕ) (s : ClientData) (o : Option Envelope) → InTurn g.window (script_of g c) s
    → Turns g.window (script_of g c) s (envelope_step g (Client c) s o).0
envelope_turns g c s None h = none_turns g.window (script_of g c) s h
envelope_turns g c s (Some e) h = message_turns g.window g.proxies c (script_of g c) s e.from e.message h

pub event_turns : (g : Group) (c : ℕ) (s : ClientData) (e : Event) → InTurn g.window (script_of g c) s
    → Turns g.window (script_of g c) s (event_step g (Client c) s e).0
event_turns g c s (Deliver p) h = envelope_turns g c s (accepted_envelope g.f (Client c) p) h
event_turns g c s (Tick clock) h = fills_turns g.window (script_of g c) s _ (tick_fills g.window g.proxies c (script_of g c) s h)
event_turns g c s _ h = none_turns g.window (script_of g c) s h
