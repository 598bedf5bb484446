-- What the passes note, while events come one after another.
use Rattle.std.proofs.Common.{◌≡◌, ℕ, zero, suc, ◌+◌, ◌<◌, ◌≤◌, max, Bool, true, false, cond, ◌||◌, ◌&&◌, List, [], ◌∷◌, ◌++◌, length, take}
use Rattle.std.proofs.Common.{Option, Some, None, is_some, refl, sym, ap, ◌∙◌, inl, inr, arith}
use Rattle.std.specs.Prelude.{not, nat_lt, nat_eq, slice_get}
use Rattle.std.specs.List.{list_any, list_all}
use Rattle.std.specs.Option.{option_eq, option_map}
use Rattle.std.specs.Str.{bytes_eq}
use Rattle.std.proofs.lemmas.Bool.{cases_Bool, false≢true, or_parts, or_left, or_right}
use Rattle.std.proofs.lemmas.List.Folds.{list_any-append}
use Rattle.std.proofs.lemmas.Option.{none-some, same_Some}
use Rattle.nz_base.specs.Key.{id_eq}
use Rattle.nz_base.specs.declared.key.Id.{Id}
use Rattle.nz_base.proofs.Names.{id_eq_self}
use Rattle.nz_store.specs.declared.command.Answer.{Answer}
use Rattle.nz_msg.specs.declared.message.Path.{Path}
use Rattle.nz_machine.specs.declared.journal.Executed.{Executed}
use Rattle.nz_machine.specs.declared.client_event.ClientEvent.{ClientEvent}
use Rattle.nz_machine.specs.declared.client_event.ClientEvent.TheVariants.{Sent, Accepted}
use Rattle.nz_text.specs.Text.{accepts_it}
use Rattle.nz_check.specs.declared.events.SentRequest.{SentRequest}
use Rattle.nz_check.specs.Checked.{sends_it, command_sent, accepted_before, has_executed, answer_at}
use Rattle.nz_check.specs.Noting.{first_place, reach_of_place, reach_of, sent_place, is_sent_at, asks_where_there, accepted_ids, sent_of}

-- ---- tests

there : (b : Bool) (n : ℕ) (o : Option ℕ) (c : Bool) → is_some o ≡ c → is_some (cond b (Some n) o) ≡ (b || c)
there true n o c h = refl
there false n o c h = h

both : (b c : Bool) → (not b || not c) ≡ not (b && c)
both true c = refl
both false c = refl

max_turn : (a b c : ℕ) → max a (max b c) ≡ max (max a b) c
max_turn a b c = omega arith

lt_max : (k a b : ℕ) → nat_lt k (max a b) ≡ (nat_lt k a || nat_lt k b)
lt_max k a b = grind arith

-- ---- where a request is sent

pub place_there : (n : ℕ) (id : Id) (E : List ClientEvent) → is_some (sent_place n id E) ≡ list_any (sends_it id) E
place_there n id [] = refl
place_there n id (Sent other command ∷ E) = there (id_eq other id) n (sent_place (suc n) id E) (list_any (sends_it id) E) (place_there (suc n) id E)
place_there n id (Accepted other answer path ∷ E) = place_there (suc n) id E

pub none_there : (n : ℕ) (id : Id) (E : List ClientEvent) → list_any (sends_it id) E ≡ false → sent_place n id E ≡ None
none_there n id [] h = refl
none_there n id (Sent other command ∷ E) h =
    let t = or_parts (id_eq other id) (list_any (sends_it id) E) h in
    ap (λ (b : Bool). cond b (Some n) (sent_place (suc n) id E)) t.0 ∙ none_there (suc n) id E t.1
none_there n id (Accepted other answer path ∷ E) h = none_there (suc n) id E h

-- what comes later changes nothing of a request that is sent
place_kept : (n : ℕ) (id : Id) (E F : List ClientEvent) → list_any (sends_it id) E ≡ true → sent_place n id (E ++ F) ≡ sent_place n id E
place_kept n id [] F h = absurd (false≢true h)
place_kept n id (Sent other command ∷ E) F h = elim (cases_Bool (id_eq other id)) [
  | inl here ↦ rw here refl
  | inr away ↦ rw away (place_kept (suc n) id E F (rw away at h))
]
place_kept n id (Accepted other answer path ∷ E) F h = place_kept (suc n) id E F h

before_kept : (id : Id) (E F : List ClientEvent) → list_any (sends_it id) E ≡ true → accepted_before id (E ++ F) ≡ accepted_before id E
before_kept id [] F h = absurd (false≢true h)
before_kept id (Sent other command ∷ E) F h = elim (cases_Bool (id_eq other id)) [
  | inl here ↦ rw here refl
  | inr away ↦ rw away (before_kept id E F (rw away at h))
]
before_kept id (Accepted other answer path ∷ E) F h = ap (λ (l : List Id). other ∷ l) (before_kept id E F h)

-- a request that was not sent before is sent now
place_now : (n : ℕ) (id : Id) (command : List ℕ) (E : List ClientEvent) → list_any (sends_it id) E ≡ false
    → sent_place n id (E ++ Sent id command ∷ []) ≡ Some (n + length E)
place_now n id command [] h = ap (λ (b : Bool). cond b (Some n) None) (id_eq_self id) ∙ ap Some (grind arith)
place_now n id command (Sent other d ∷ E) h =
    let t = or_parts (id_eq other id) (list_any (sends_it id) E) h in
    ap (λ (b : Bool). cond b (Some n) (sent_place (suc n) id (E ++ Sent id command ∷ []))) t.0 ∙ place_now (suc n) id command E t.1 ∙ ap Some (grind arith)
place_now n id command (Accepted other answer path ∷ E) h = place_now (suc n) id command E h ∙ ap Some (grind arith)

before_now : (id : Id) (command : List ℕ) (E : List ClientEvent) → list_any (sends_it id) E ≡ false
    → accepted_before id (E ++ Sent id command ∷ []) ≡ accepted_ids E
before_now id command [] h = ap (λ (b : Bool). cond b [] []) (id_eq_self id)
before_now id command (Sent other d ∷ E) h =
    let t = or_parts (id_eq other id) (list_any (sends_it id) E) h in
    ap (λ (b : Bool). cond b [] (accepted_before id (E ++ Sent id command ∷ []))) t.0 ∙ before_now id command E t.1
before_now id command (Accepted other answer path ∷ E) h = ap (λ (l : List Id). other ∷ l) (before_now id command E h)

pub ids_with_send : (id : Id) (command : List ℕ) (E : List ClientEvent) → accepted_ids (E ++ Sent id command ∷ []) ≡ accepted_ids E
ids_with_send id command [] = refl
ids_with_send id command (Sent other d ∷ E) = ids_with_send id command E
ids_with_send id command (Accepted other answer path ∷ E) = ap (λ (l : List Id). other ∷ l) (ids_with_send id command E)

pub ids_with_accept : (id : Id) (answer : Answer) (path : Path) (E : List ClientEvent) → accepted_ids (E ++ Accepted id answer path ∷ []) ≡ accepted_ids E ++ id ∷ []
ids_with_accept id answer path [] = refl
ids_with_accept id answer path (Sent other d ∷ E) = ids_with_accept id answer path E
ids_with_accept id answer path (Accepted other a p ∷ E) = ap (λ (l : List Id). other ∷ l) (ids_with_accept id answer path E)

-- ---- where a request is in the history

-- the first place of a request holds its answer
pub record IsPlaced (id : Id) (H : List Executed) (n m : ℕ) : Type 0 where
  pub offset : ℕ
  pub is : m ≡ n + offset
  pub within : offset < length H
  pub answer : option_map (λ (x : Executed). x.answer) (slice_get H offset) ≡ answer_at id H

-- Where a search for an id ends, its first execution is there.
pub placed : (id : Id) (H : List Executed) (n m : ℕ) → first_place n id H ≡ Some m → IsPlaced id H n m
placed id [] n m e = absurd (none-some m e)
placed id (x ∷ H) n m e = elim (cases_Bool (id_eq id x.id)) [
  | inl here ↦
      let same : n ≡ m = same_Some n m (sym (ap (λ (b : Bool). cond b (Some n) (first_place (suc n) id H)) here) ∙ e) in
      record {
        offset = 0;
        is = omega (arith, same);
        within = omega arith;
        answer = sym (ap (λ (b : Bool). cond b (Some x.answer) (answer_at id H)) here);
      }
  | inr away ↦
      let t = placed id H (suc n) m (sym (ap (λ (b : Bool). cond b (Some n) (first_place (suc n) id H)) away) ∙ e) in
      let is = t.is in
      let within = t.within in
      record {
        offset = suc t.offset;
        is = omega (arith, is);
        within = omega (arith, within);
        answer = t.answer ∙ sym (ap (λ (b : Bool). cond b (Some x.answer) (answer_at id H)) away);
      }
]

pub not_placed : (id : Id) (H : List Executed) (n : ℕ) → first_place n id H ≡ None → answer_at id H ≡ None
not_placed id [] n e = refl
not_placed id (x ∷ H) n e = elim (cases_Bool (id_eq id x.id)) [
  | inl here ↦ absurd (none-some n (sym e ∙ ap (λ (b : Bool). cond b (Some n) (first_place (suc n) id H)) here))
  | inr away ↦
      ap (λ (b : Bool). cond b (Some x.answer) (answer_at id H)) away
      ∙ not_placed id H (suc n) (sym (ap (λ (b : Bool). cond b (Some n) (first_place (suc n) id H)) away) ∙ e)
]

-- an entry of the request is among the first k exactly where its first place is below k
abbrev pub below : ℕ → Option ℕ → Bool
below k None = false
below k (Some m) = nat_lt m k

nothing : (n : ℕ) (o : Option ℕ) → ((m : ℕ) → o ≡ Some m → n ≤ m) → false ≡ below (n + 0) o
nothing n None h = refl
nothing n (Some m) h = let low = h m refl in grind (arith, low)

low_place : (n m : ℕ) (id : Id) (H : List Executed) → first_place n id H ≡ Some m → n ≤ m
low_place n m id H e = let t = placed id H n m e in let is = t.is in omega (arith, is)

-- An id is among the first k executions if and only if its first place is below k.
pub among : (n k : ℕ) (id : Id) (H : List Executed) → has_executed id (take k H) ≡ below (n + k) (first_place n id H)
among n zero id [] = refl
among n zero id (x ∷ H) = nothing n (first_place n id (x ∷ H)) (λ m e. low_place n m id (x ∷ H) e)
among n (suc k) id [] = refl
among n (suc k) id (x ∷ H) = elim (cases_Bool (id_eq id x.id)) [
  | inl here ↦ rw here (grind arith)
  | inr away ↦ rw away (among (suc n) k id H ∙ ap (λ (m : ℕ). below m (first_place (suc n) id H)) (grind arith))
]

-- ---- how far what was accepted reaches

pub reach_push : (H : List Executed) (ids : List Id) (id : Id)
    → reach_of H (ids ++ id ∷ []) ≡ max (reach_of H ids) (reach_of_place (length H) (first_place 0 id H))
reach_push H [] id = grind arith
reach_push H (i ∷ ids) id =
    ap (max (reach_of_place (length H) (first_place 0 i H))) (reach_push H ids id)
    ∙ max_turn (reach_of_place (length H) (first_place 0 i H)) (reach_of H ids) (reach_of_place (length H) (first_place 0 id H))

one_reach : (k n : ℕ) (o : Option ℕ) → k < n → nat_lt k (reach_of_place n o) ≡ not (below k o)
one_reach k n None lt = grind (arith, lt)
one_reach k n (Some m) lt = grind arith

among_first : (k : ℕ) (id : Id) (H : List Executed) → has_executed id (take k H) ≡ below k (first_place 0 id H)
among_first k id H = among 0 k id H ∙ ap (λ (m : ℕ). below m (first_place 0 id H)) (grind arith)

-- A place is below the reach of some ids if and only if not all of them are executed before it.
pub reaches : (H : List Executed) (k : ℕ) (ids : List Id) → k < length H
    → nat_lt k (reach_of H ids) ≡ not (list_all (λ id. has_executed id (take k H)) ids)
reaches H k [] lt = grind arith
reaches H k (i ∷ ids) lt =
    lt_max k (reach_of_place (length H) (first_place 0 i H)) (reach_of H ids)
    ∙ ap (λ (b : Bool). b || nat_lt k (reach_of H ids)) (one_reach k (length H) (first_place 0 i H) lt)
    ∙ ap (λ (b : Bool). not (below k (first_place 0 i H)) || b) (reaches H k ids lt)
    ∙ ap (λ (b : Bool). not b || not (list_all (λ id. has_executed id (take k H)) ids)) (sym (among_first k i H))
    ∙ both (has_executed i (take k H)) (list_all (λ id. has_executed id (take k H)) ids)

-- an entry is the first of its request exactly where none above it is of the request
first_is : (o : Option ℕ) (k : ℕ) (b : Bool) → b ≡ below k o → ((m : ℕ) → o ≡ Some m → m ≤ k) → is_some o ≡ true → option_eq nat_eq o (Some k) ≡ not b
first_is None k b e most some = absurd (false≢true some)
first_is (Some m) k b e most some = let high = most m refl in grind (arith, high, e)

at_most : (n k m : ℕ) (H : List Executed) (x : Executed) → slice_get H k ≡ Some x → first_place n x.id H ≡ Some m → m ≤ n + k
at_most n k m [] x at e = absurd (none-some x at)
at_most n zero m (y ∷ H) x at e =
    let own : id_eq x.id y.id ≡ true = ap (λ (z : Executed). id_eq x.id z.id) (same_Some y x at) ∙ id_eq_self x.id in
    let same : n ≡ m = same_Some n m (sym (ap (λ (b : Bool). cond b (Some n) (first_place (suc n) x.id H)) own) ∙ e) in
    omega (arith, same)
at_most n (suc k) m (y ∷ H) x at e = elim (cases_Bool (id_eq x.id y.id)) [
  | inl here ↦
      let same : n ≡ m = same_Some n m (sym (ap (λ (b : Bool). cond b (Some n) (first_place (suc n) x.id H)) here) ∙ e) in
      omega (arith, same)
  | inr away ↦
      let t = at_most (suc n) k m H x at (sym (ap (λ (b : Bool). cond b (Some n) (first_place (suc n) x.id H)) away) ∙ e) in
      omega (arith, t)
]

is_there : (n k : ℕ) (H : List Executed) (x : Executed) → slice_get H k ≡ Some x → is_some (first_place n x.id H) ≡ true
is_there n k [] x at = absurd (none-some x at)
is_there n zero (y ∷ H) x at =
    let own : id_eq x.id y.id ≡ true = ap (λ (z : Executed). id_eq x.id z.id) (same_Some y x at) ∙ id_eq_self x.id in
    ap (λ (b : Bool). is_some (cond b (Some n) (first_place (suc n) x.id H))) own
is_there n (suc k) (y ∷ H) x at = elim (cases_Bool (id_eq x.id y.id)) [
  | inl here ↦ ap (λ (b : Bool). is_some (cond b (Some n) (first_place (suc n) x.id H))) here
  | inr away ↦ ap (λ (b : Bool). is_some (cond b (Some n) (first_place (suc n) x.id H))) away ∙ is_there (suc n) k H x at
]

pub is_first_entry : (H : List Executed) (k : ℕ) (x : Executed) → slice_get H k ≡ Some x
    → option_eq nat_eq (first_place 0 x.id H) (Some k) ≡ not (has_executed x.id (take k H))
is_first_entry H k x at =
    first_is (first_place 0 x.id H) k (has_executed x.id (take k H)) (among_first k x.id H)
    (λ m e. let most = at_most 0 k m H x at e in omega (arith, most)) (is_there 0 k H x at)

-- ---- the command of a request

command_found : (n m : ℕ) (id : Id) (E : List ClientEvent) (command : List ℕ) → sent_place n id E ≡ Some m
    → (k : ℕ) × ((m ≡ n + k) × (asks_where_there command (slice_get E k) ≡ option_eq bytes_eq (command_sent id E) (Some command)))
command_found n m id [] command e = absurd (none-some m e)
command_found n m id (Sent other d ∷ E) command e = elim (cases_Bool (id_eq other id)) [
  | inl here ↦
      let same : n ≡ m = same_Some n m (sym (ap (λ (b : Bool). cond b (Some n) (sent_place (suc n) id E)) here) ∙ e) in
      (0, (omega (arith, same), ap (λ (b : Bool). option_eq bytes_eq (cond b (Some d) (command_sent id E)) (Some command)) (sym here)))
  | inr away ↦
      let t = command_found (suc n) m id E command (sym (ap (λ (b : Bool). cond b (Some n) (sent_place (suc n) id E)) away) ∙ e) in
      let is = t.1.0 in
      (suc t.0, (omega (arith, is), t.1.1 ∙ ap (λ (b : Bool). option_eq bytes_eq (cond b (Some d) (command_sent id E)) (Some command)) (sym away)))
]
command_found n m id (Accepted other answer path ∷ E) command e =
    let t = command_found (suc n) m id E command e in
    let is = t.1.0 in
    (suc t.0, (omega (arith, is), t.1.1))

pub command_is : (m : ℕ) (id : Id) (E : List ClientEvent) (command : List ℕ) → sent_place 0 id E ≡ Some m
    → is_sent_at E m command ≡ option_eq bytes_eq (command_sent id E) (Some command)
command_is m id E command e =
    let t = command_found 0 m id E command e in
    let is : m ≡ t.0 = let sum = t.1.0 in omega (arith, sum) in
    ap (λ (k : ℕ). asks_where_there command (slice_get E k)) is ∙ t.1.1

pub no_command : (n : ℕ) (id : Id) (E : List ClientEvent) → sent_place n id E ≡ None → command_sent id E ≡ None
no_command n id [] e = refl
no_command n id (Sent other d ∷ E) e = elim (cases_Bool (id_eq other id)) [
  | inl here ↦ absurd (none-some n (sym e ∙ ap (λ (b : Bool). cond b (Some n) (sent_place (suc n) id E)) here))
  | inr away ↦
      ap (λ (b : Bool). cond b (Some d) (command_sent id E)) away
      ∙ no_command (suc n) id E (sym (ap (λ (b : Bool). cond b (Some n) (sent_place (suc n) id E)) away) ∙ e)
]
no_command n id (Accepted other answer path ∷ E) e = no_command (suc n) id E e

-- ---- what is noted of a request

sent_from : List Executed → List Id → Bool → Option ℕ → Option SentRequest
sent_from H ids accepted place = option_map (λ place. record { place = place; reach = reach_of H ids; accepted = accepted }) place

or_nothing : (b c : Bool) → c ≡ false → (b || (c || false)) ≡ b
or_nothing true c h = refl
or_nothing false c h = rw h refl

pub sent_kept : (H : List Executed) (E : List ClientEvent) (e : ClientEvent) (i : Id) → sends_it i e ≡ false → accepts_it i e ≡ false
    → sent_of H (E ++ e ∷ []) i ≡ sent_of H E i
unfolding sent_from
sent_kept H E e i send accept = elim (cases_Bool (list_any (sends_it i) E)) [
  | inl sent ↦
      ap (sent_from H (accepted_before i (E ++ e ∷ [])) (list_any (accepts_it i) (E ++ e ∷ []))) (place_kept 0 i E (e ∷ []) sent)
      ∙ ap (λ (l : List Id). sent_from H l (list_any (accepts_it i) (E ++ e ∷ [])) (sent_place 0 i E)) (before_kept i E (e ∷ []) sent)
      ∙ ap (λ (b : Bool). sent_from H (accepted_before i E) b (sent_place 0 i E))
      (list_any-append (accepts_it i) E (e ∷ []) ∙ or_nothing (list_any (accepts_it i) E) (accepts_it i e) accept)
  | inr unsent ↦
      ap (sent_from H (accepted_before i (E ++ e ∷ [])) (list_any (accepts_it i) (E ++ e ∷ [])))
      (none_there 0 i (E ++ e ∷ []) (list_any-append (sends_it i) E (e ∷ []) ∙ or_nothing (list_any (sends_it i) E) (sends_it i e) send ∙ unsent))
      ∙ sym (ap (sent_from H (accepted_before i E) (list_any (accepts_it i) E)) (none_there 0 i E unsent))
]

pub sent_now : (H : List Executed) (E : List ClientEvent) (id : Id) (command : List ℕ) → list_any (sends_it id) E ≡ false → list_any (accepts_it id) E ≡ false
    → sent_of H (E ++ Sent id command ∷ []) id ≡ Some (record { place = length E; reach = reach_of H (accepted_ids E); accepted = false })
unfolding sent_from
sent_now H E id command send accept =
    ap (sent_from H (accepted_before id (E ++ Sent id command ∷ [])) (list_any (accepts_it id) (E ++ Sent id command ∷ [])))
    (place_now 0 id command E send ∙ ap Some (grind arith))
    ∙ ap (λ (l : List Id). sent_from H l (list_any (accepts_it id) (E ++ Sent id command ∷ [])) (Some (length E))) (before_now id command E send)
    ∙ ap (λ (b : Bool). sent_from H (accepted_ids E) b (Some (length E)))
    (list_any-append (accepts_it id) E (Sent id command ∷ []) ∙ or_nothing (list_any (accepts_it id) E) false refl ∙ accept)

place_some : (n : ℕ) (id : Id) (E : List ClientEvent) (m : ℕ) → sent_place n id E ≡ Some m → list_any (sends_it id) E ≡ true
place_some n id E m e = sym (place_there n id E) ∙ ap is_some e

-- what is noted comes from a place
pub record IsSentFrom (H : List Executed) (E : List ClientEvent) (id : Id) (s : SentRequest) : Type 0 where
  pub at : sent_place 0 id E ≡ Some s.place
  pub reach : s.reach ≡ reach_of H (accepted_before id E)
  pub accepted : s.accepted ≡ list_any (accepts_it id) E
  pub sent : list_any (sends_it id) E ≡ true

from_place : (H : List Executed) (E : List ClientEvent) (id : Id) (s : SentRequest) (o : Option ℕ) → sent_place 0 id E ≡ o
    → sent_from H (accepted_before id E) (list_any (accepts_it id) E) o ≡ Some s → IsSentFrom H E id s
unfolding sent_from
from_place H E id s None at e = absurd (none-some s e)
from_place H E id s (Some m) at e =
    let same = same_Some _ s e in
    record {
      at = at ∙ ap (λ (s : SentRequest). Some s.place) same;
      reach = sym (ap (λ (s : SentRequest). s.reach) same);
      accepted = sym (ap (λ (s : SentRequest). s.accepted) same);
      sent = place_some 0 id E m at;
    }

pub sent_is : (H : List Executed) (E : List ClientEvent) (id : Id) (s : SentRequest) → sent_of H E id ≡ Some s → IsSentFrom H E id s
unfolding sent_from
sent_is H E id s e = from_place H E id s (sent_place 0 id E) refl e

nowhere : (H : List Executed) (ids : List Id) (accepted : Bool) (o : Option ℕ) → sent_from H ids accepted o ≡ None → is_some o ≡ false
unfolding sent_from
nowhere H ids accepted None e = refl
nowhere H ids accepted (Some m) e = absurd (none-some (record { place = m; reach = reach_of H ids; accepted = accepted }) (sym e))

pub unsent_is : (H : List Executed) (E : List ClientEvent) (id : Id) → sent_of H E id ≡ None → list_any (sends_it id) E ≡ false
unfolding sent_from
unsent_is H E id e = sym (place_there 0 id E) ∙ nowhere H (accepted_before id E) (list_any (accepts_it id) E) (sent_place 0 id E) e

pub sent_accepted : (H : List Executed) (E : List ClientEvent) (id : Id) (answer : Answer) (path : Path) (s : SentRequest) → sent_of H E id ≡ Some s
    → sent_of H (E ++ Accepted id answer path ∷ []) id ≡ Some (record { place = s.place; reach = s.reach; accepted = true })
unfolding sent_from
sent_accepted H E id answer path s e =
    let t = sent_is H E id s e in
    let own = Accepted id answer path ∷ [] in
    ap (sent_from H (accepted_before id (E ++ own)) (list_any (accepts_it id) (E ++ own))) (place_kept 0 id E own t.sent ∙ t.at)
    ∙ ap (λ (l : List Id). sent_from H l (list_any (accepts_it id) (E ++ own)) (Some s.place)) (before_kept id E own t.sent)
    ∙ ap (λ (b : Bool). sent_from H (accepted_before id E) b (Some s.place))
    (list_any-append (accepts_it id) E own ∙ or_right (list_any (accepts_it id) E) (id_eq id id || false) (or_left (id_eq id id) false (id_eq_self id)))
    ∙ ap (λ (n : ℕ). Some (record { place = s.place; reach = n; accepted = true })) (sym t.reach)

pub sent_test : (H : List Executed) (E : List ClientEvent) (id : Id) (o : Option SentRequest) → sent_of H E id ≡ o → is_some o ≡ true → list_any (sends_it id) E ≡ true
sent_test H E id None e h = absurd (false≢true h)
sent_test H E id (Some s) e h = (sent_is H E id s e).sent

pub unsent_test : (H : List Executed) (E : List ClientEvent) (id : Id) (o : Option SentRequest) → sent_of H E id ≡ o → is_some o ≡ false → list_any (sends_it id) E ≡ false
unsent_test H E id None e h = unsent_is H E id e
unsent_test H E id (Some s) e h = absurd (false≢true (sym h))

none_of : (o : Option ℕ) → is_some o ≡ false → o ≡ None
none_of None h = refl
none_of (Some m) h = absurd (false≢true (sym h))

pub unsent_place : (H : List Executed) (E : List ClientEvent) (id : Id) → sent_of H E id ≡ None → sent_place 0 id E ≡ None
unsent_place H E id e = none_of (sent_place 0 id E) (place_there 0 id E ∙ unsent_is H E id e)
