-- The entries' tests are all false exactly where the answers are those of one store, and events and history are one
-- history.
use Rattle.std.proofs.Common.{◌≡◌, ℕ, suc, ◌<◌, Bool, true, false, cond, ◌||◌, List, [], ◌∷◌, ◌++◌, length, map}
use Rattle.std.proofs.Common.{Option, Some, None, refl, sym, ap, subst, ◌∙◌, inl, inr, ◌⊎◌, arith, append_assoc}
use Rattle.std.specs.Prelude.{not, ◌&&◌, ◌==◌, slice_get}
use Rattle.std.specs.List.{list_any, list_all}
use Rattle.std.specs.Option.{option_eq, option_map}
use Rattle.std.specs.Str.{bytes_eq}
use Rattle.std.proofs.lemmas.Bool.{cases_Bool, false≢true, or_parts, or_cases, or_left, or_right}
use Rattle.std.proofs.lemmas.List.{map-append, append-nil}
use Rattle.std.proofs.lemmas.Option.{none-some, same_Some}
use Rattle.nz_base.specs.Key.{id_eq, id_of}
use Rattle.nz_base.specs.Log.{keys_of, has_id, HaveOwnIds}
use Rattle.nz_base.specs.declared.key.Id.{Id}
use Rattle.nz_base.specs.declared.key.Entry.{Entry}
use Rattle.nz_base.proofs.Names.{same_id, id_eq_self, id_turn, id_turn_away}
use Rattle.nz_store.specs.declared.command.Answer.{Answer}
use Rattle.nz_store.specs.Sequence.{apply_bytes, store_from, store_after, answer_after, reply, replies_from, replies}
use Rattle.nz_store.proofs.Turns.{store_after-push, slice_get-replies}
use Rattle.nz_log.specs.Places.{place_of}
use Rattle.nz_msg.specs.declared.message.Path.{Path}
use Rattle.nz_machine.specs.declared.journal.Executed.{Executed}
use Rattle.nz_machine.specs.rules.Quorums.{answer_eq}
use Rattle.nz_machine.specs.rules.Replicas.{commands}
use Rattle.nz_machine.specs.runs.World.{Has}
use Rattle.nz_machine.specs.declared.client_event.ClientEvent.TheVariants.{Sent, Accepted}
use Rattle.nz_machine.specs.runs.OneHistory.{Precedes, ComesBefore, IsAnswered, Lin}
use Rattle.nz_machine.specs.declared.client_event.ClientEvent.{ClientEvent}
use Rattle.nz_text.specs.declared.printed.Printed.{Printed}
use Rattle.nz_check.specs.declared.verdict.Why.TheVariants.{Repeat, Unsent, Open, Order}
use Rattle.nz_check.specs.declared.verdict.Why.TheVariants as why
use Rattle.nz_check.specs.Checked.{sends_it, command_sent, accepted_before, has_executed, answer_at, commands_of, first_why, event_why, at_why, lacks_open}
use Rattle.nz_check.specs.Exact.{entry_of, entries_of, AreInForm}
use Rattle.nz_check.proofs.Meanings.{same_bytes, bytes_eq_self, same_answer, answer_eq_self, same_some, some_same, holds, lets, why_parts, why_none}
use Rattle.nz_check.proofs.Lines.{EachFine}
use Rattle.nz_check.proofs.Splits.{has_cut, cut_of_has, any_of_has, none_of_any, all_at, all_of_each, has_map, image_of_has}
use Rattle.nz_check.proofs.Splits.{cut_after, precedes_cut, get_cut, take_cut}
use Rattle.nz_check.proofs.Forms.{send_of_test, fine_send, fine_answered}

-- ---- what the tests of an entry find

-- what is true of an entry with which nothing is wrong
pub record IsFineEntry (p : Printed) (above : List Executed) (x : Executed) : Type 0 where
  pub fresh : has_executed x.id above ≡ false
  pub sent : command_sent x.id p.events ≡ Some x.command
  pub opens : ((length above == 0) && lacks_open p) ≡ false
  pub order : list_all (λ id. has_executed id above) (accepted_before x.id p.events) ≡ true
  pub answer : answer_after (commands_of above) x.command ≡ x.answer

pub fine_entry : (p : Printed) (above : List Executed) (x : Executed) → at_why p above x ≡ None → IsFineEntry p above x
fine_entry p above x h =
    let sent = option_eq bytes_eq (command_sent x.id p.events) (Some x.command) in
    let opens = (length above == 0) && lacks_open p in
    let order = list_all (λ id. has_executed id above) (accepted_before x.id p.events) in
    let same = answer_eq (answer_after (commands_of above) x.command) x.answer in
    let a = why_parts (has_executed x.id above) Repeat
    (first_why ((not sent, Unsent) ∷ (opens, Open) ∷ (not order, Order) ∷ (not same, why.Answer) ∷ [])) h in
    let b = why_parts (not sent) Unsent (first_why ((opens, Open) ∷ (not order, Order) ∷ (not same, why.Answer) ∷ [])) a.1 in
    let c = why_parts opens Open (first_why ((not order, Order) ∷ (not same, why.Answer) ∷ [])) b.1 in
    let d = why_parts (not order) Order (first_why ((not same, why.Answer) ∷ [])) c.1 in
    let e = why_parts (not same) why.Answer None d.1 in
    record {
      fresh = a.0;
      sent = same_some bytes_eq same_bytes (command_sent x.id p.events) x.command (holds sent b.0);
      opens = c.0;
      order = holds order d.0;
      answer = same_answer (answer_after (commands_of above) x.command) x.answer (holds same e.0);
    }

pub entry_is_fine : (p : Printed) (above : List Executed) (x : Executed) → IsFineEntry p above x → at_why p above x ≡ None
entry_is_fine p above x h =
    let sent = option_eq bytes_eq (command_sent x.id p.events) (Some x.command) in
    let opens = (length above == 0) && lacks_open p in
    let order = list_all (λ id. has_executed id above) (accepted_before x.id p.events) in
    let same = answer_eq (answer_after (commands_of above) x.command) x.answer in
    why_none (has_executed x.id above) Repeat _ h.fresh
    (why_none (not sent) Unsent _ (lets sent (some_same bytes_eq bytes_eq_self (command_sent x.id p.events) x.command h.sent))
    (why_none opens Open _ h.opens
    (why_none (not order) Order _ (lets order h.order)
    (why_none (not same) why.Answer None
    (lets same (ap (λ (a : Answer). answer_eq a x.answer) h.answer ∙ answer_eq_self x.answer)) refl))))

-- ---- sends and acceptances before them

command_cases : (b : Bool) (c d : List ℕ) (o : Option (List ℕ)) → cond b (Some c) o ≡ Some d → ((b ≡ true) × (c ≡ d)) ⊎ ((b ≡ false) × (o ≡ Some d))
command_cases true c d o e = inl (refl, same_Some c d e)
command_cases false c d o e = inr (refl, e)

sent_has : (id : Id) (command : List ℕ) (E : List ClientEvent) → command_sent id E ≡ Some command → Has E (Sent id command)
sent_has id command [] e = absurd (none-some command e)
sent_has id command (Sent other d ∷ E) e = elim (command_cases (id_eq other id) d command (command_sent id E) e) [
  | inl h ↦ inl (ap (λ (i : Id). Sent i d) (same_id other id h.0) ∙ ap (Sent id) h.1)
  | inr h ↦ inr (sent_has id command E h.1)
]
sent_has id command (Accepted other answer path ∷ E) e = inr (sent_has id command E e)

-- where none above sends it, a send is the first one
sent_at : (id : Id) (command : List ℕ) (a b : List ClientEvent) → list_any (sends_it id) a ≡ false → command_sent id (a ++ Sent id command ∷ b) ≡ Some command
sent_at id command [] b h = ap (λ (t : Bool). cond t (Some command) (command_sent id b)) (id_eq_self id)
sent_at id command (Sent other d ∷ a) b h =
    let t = or_parts (id_eq other id) (list_any (sends_it id) a) h in
    ap (λ (t : Bool). cond t (Some d) (command_sent id (a ++ Sent id command ∷ b))) t.0 ∙ sent_at id command a b t.1
sent_at id command (Accepted other answer path ∷ a) b h = sent_at id command a b h

event_id : ClientEvent → Id
event_id (Sent id command) = id
event_id (Accepted id answer path) = id

own_send : (i id : Id) (d command : List ℕ) → Sent i d ≡ Sent id command → id_eq i id ≡ true
unfolding event_id
own_send i id d command e = ap (λ e. id_eq (event_id e) id) e ∙ id_eq_self id

accept_is_no_send : (i id : Id) (x : Answer) (y : Path) (command : List ℕ) → Accepted i x y ≡ Sent id command → ⊥
accept_is_no_send i id x y command e = absurd cc

own_accept : (i j : Id) (x a : Answer) (y q : Path) → Accepted i x y ≡ Accepted j a q → i ≡ j
unfolding event_id
own_accept i j x a y q e = ap event_id e

accepted_there : (id : Id) (a b : List ClientEvent) (other : Id) (answer : Answer) (path : Path) → list_any (sends_it id) a ≡ false
    → Has a (Accepted other answer path) → Has (accepted_before id (a ++ b)) other
accepted_there id [] b other answer path h k = absurd k
accepted_there id (Sent i d ∷ a) b other answer path h (inl e) = absurd cc
accepted_there id (Sent i d ∷ a) b other answer path h (inr k) =
    let t = or_parts (id_eq i id) (list_any (sends_it id) a) h in
    subst (λ (l : List Id). Has l other) (ap (λ (t : Bool). cond t [] (accepted_before id (a ++ b))) (sym t.0)) (accepted_there id a b other answer path t.1 k)
accepted_there id (Accepted i x y ∷ a) b other answer path h (inl e) = inl (own_accept i other x answer y path e)
accepted_there id (Accepted i x y ∷ a) b other answer path h (inr k) = inr (accepted_there id a b other answer path h k)

-- an acceptance that is before the first send
record IsAcceptedBefore (id other : Id) (E : List ClientEvent) : Type 0 where
  answer : Answer
  path : Path
  before : (command : List ℕ) → Has E (Sent id command) → Precedes E (Accepted other answer path) (Sent id command)

before_cases : (b : Bool) (ids : List Id) (other : Id) → Has (cond b [] ids) other → (b ≡ false) × Has ids other
before_cases true ids other h = absurd h
before_cases false ids other h = (refl, h)

accepted_precedes : (id other : Id) (E : List ClientEvent) → Has (accepted_before id E) other → IsAcceptedBefore id other E
accepted_precedes id other [] h = absurd h
accepted_precedes id other (Sent i d ∷ E) h =
    let t = before_cases (id_eq i id) (accepted_before id E) other h in
    let s = accepted_precedes id other E t.1 in
    record {
      answer = s.answer;
      path = s.path;
      before = λ command k. elim k [ inl e ↦ absurd (false≢true (sym t.0 ∙ own_send i id d command e)) | inr more ↦ inr (s.before command more) ];
    }
accepted_precedes id other (Accepted i x y ∷ E) (inl e) = record {
  answer = x;
  path = y;
  before = λ command k. elim k [ inl same ↦ absurd (accept_is_no_send i id x y command same) | inr more ↦ inl (ap (λ (i : Id). Accepted i x y) e, more) ];
}
accepted_precedes id other (Accepted i x y ∷ E) (inr h) =
    let s = accepted_precedes id other E h in
    record {
      answer = s.answer;
      path = s.path;
      before = λ command k. elim k [ inl same ↦ absurd (accept_is_no_send i id x y command same) | inr more ↦ inr (s.before command more) ];
    }

-- ---- places

executed_is : (H : List Executed) (id : Id) → has_id (keys_of (entries_of H)) id ≡ has_executed id H
executed_is [] id = refl
executed_is (x ∷ H) id = ap (λ (b : Bool). id_eq id x.id || b) (executed_is H id)

commands_are : (H : List Executed) → commands (entries_of H) ≡ commands_of H
commands_are [] = refl
commands_are (x ∷ H) = ap (λ (l : List (List ℕ)). x.command ∷ l) (commands_are H)

place_at : (id : Id) (a b : List Executed) (x : Executed) → has_executed id a ≡ false → x.id ≡ id → place_of (entries_of (a ++ x ∷ b)) id ≡ Some (length a)
place_at id [] b x h e = ap (λ (t : Bool). cond t (Some 0) (option_map suc (place_of (entries_of b) id))) (ap (id_eq id) e ∙ id_eq_self id)
place_at id (y ∷ a) b x h e =
    let t = or_parts (id_eq id y.id) (has_executed id a) h in
    ap (λ (t : Bool). cond t (Some 0) (option_map suc (place_of (entries_of (a ++ x ∷ b)) id))) t.0
    ∙ ap (option_map suc) (place_at id a b x t.1 e)

-- the place of a request that is among the first entries
record HasPlace (id : Id) (a b : List Executed) : Type 0 where
  place : ℕ
  is : place_of (entries_of (a ++ b)) id ≡ Some place
  within : place < length a

place_within : (id : Id) (a b : List Executed) → has_executed id a ≡ true → HasPlace id a b
place_within id [] b h = absurd (false≢true h)
place_within id (x ∷ a) b h = elim (cases_Bool (id_eq id x.id)) [
  | inl here ↦ record {
    place = 0;
    is = ap (λ (t : Bool). cond t (Some 0) (option_map suc (place_of (entries_of (a ++ b)) id))) here;
    within = omega arith;
  }
  | inr away ↦
      let t = place_within id a b (elim (or_cases (id_eq id x.id) (has_executed id a) h) [ inl here ↦ absurd (false≢true (sym away ∙ here)) | inr more ↦ more ]) in
      let low = t.within in
      record {
        place = suc t.place;
        is = ap (λ (u : Bool). cond u (Some 0) (option_map suc (place_of (entries_of (a ++ b)) id))) away ∙ ap (option_map suc) t.is;
        within = omega (arith, low);
      }
]

-- the list is cut at the first entry of the request
record IsFirst (id : Id) (H : List Executed) (place : ℕ) : Type 0 where
  before : List Executed
  entry : Executed
  after : List Executed
  whole : H ≡ before ++ entry ∷ after
  away : has_executed id before ≡ false
  own : entry.id ≡ id
  counted : length before ≡ place

place_cases : (b : Bool) (o : Option ℕ) (i : ℕ) → cond b (Some 0) (option_map suc o) ≡ Some i
    → ((b ≡ true) × (0 ≡ i)) ⊎ ((b ≡ false) × ((j : ℕ) × ((o ≡ Some j) × (suc j ≡ i))))
place_cases true o i e = inl (refl, same_Some 0 i e)
place_cases false None i e = absurd (none-some i e)
place_cases false (Some j) i e = inr (refl, (j, (refl, same_Some (suc j) i e)))

first_of_place : (id : Id) (H : List Executed) (i : ℕ) → place_of (entries_of H) id ≡ Some i → IsFirst id H i
first_of_place id [] i e = absurd (none-some i e)
first_of_place id (x ∷ H) i e = elim (place_cases (id_eq id x.id) (place_of (entries_of H) id) i e) [
  | inl h ↦ record { before = []; entry = x; after = H; whole = refl; away = refl; own = sym (same_id id x.id h.0); counted = h.1 }
  | inr h ↦
      let t = first_of_place id H h.1.0 h.1.1.0 in
      record {
        before = x ∷ t.before;
        entry = t.entry;
        after = t.after;
        whole = ap (λ (l : List Executed). x ∷ l) t.whole;
        away = rw h.0 t.away;
        own = t.own;
        counted = ap suc t.counted ∙ h.1.1.1;
      }
]

-- the answer of the first entry, and back
answer_of_first : (id : Id) (a b : List Executed) (x : Executed) → has_executed id a ≡ false → x.id ≡ id → answer_at id (a ++ x ∷ b) ≡ Some x.answer
answer_of_first id [] b x h e = ap (λ (t : Bool). cond t (Some x.answer) (answer_at id b)) (ap (id_eq id) e ∙ id_eq_self id)
answer_of_first id (y ∷ a) b x h e =
    let t = or_parts (id_eq id y.id) (has_executed id a) h in
    ap (λ (u : Bool). cond u (Some y.answer) (answer_at id (a ++ x ∷ b))) t.0 ∙ answer_of_first id a b x t.1 e

-- the first entry has this answer
record IsFirstAnswer (id : Id) (H : List Executed) (answer : Answer) : Type 0 where
  place : ℕ
  first : IsFirst id H place
  same : first.entry.answer ≡ answer

answer_cases : (b : Bool) (c d : Answer) (o : Option Answer) → cond b (Some c) o ≡ Some d → ((b ≡ true) × (c ≡ d)) ⊎ ((b ≡ false) × (o ≡ Some d))
answer_cases true c d o e = inl (refl, same_Some c d e)
answer_cases false c d o e = inr (refl, e)

first_of_answer : (id : Id) (H : List Executed) (answer : Answer) → answer_at id H ≡ Some answer → IsFirstAnswer id H answer
first_of_answer id [] answer e = absurd (none-some answer e)
first_of_answer id (x ∷ H) answer e = elim (answer_cases (id_eq id x.id) x.answer answer (answer_at id H) e) [
  | inl h ↦ record {
    place = 0;
    first = record { before = []; entry = x; after = H; whole = refl; away = refl; own = sym (same_id id x.id h.0); counted = refl };
    same = h.1;
  }
  | inr h ↦
      let t = first_of_answer id H answer h.1 in
      record {
        place = suc t.place;
        first = record {
          before = x ∷ t.first.before;
          entry = t.first.entry;
          after = t.first.after;
          whole = ap (λ (l : List Executed). x ∷ l) t.first.whole;
          away = rw h.0 t.first.away;
          own = t.first.own;
          counted = ap suc t.first.counted;
        };
        same = t.same;
      }
]

has_of_place : (id : Id) (a b : List Executed) (i : ℕ) → place_of (entries_of (a ++ b)) id ≡ Some i → i < length a → has_executed id a ≡ true
has_of_place id [] b i e lt = absurd (omega (arith, lt))
has_of_place id (x ∷ a) b i e lt = elim (place_cases (id_eq id x.id) (place_of (entries_of (a ++ b)) id) i e) [
  | inl h ↦ or_left (id_eq id x.id) (has_executed id a) h.0
  | inr h ↦
      let same = h.1.1.1 in
      or_right (id_eq id x.id) (has_executed id a) (has_of_place id a b h.1.0 h.1.1.0 (omega (arith, lt, same)))
]

-- an id that is in the history once is not above its entry
apart : (x : Executed) (a b : List Executed) → HaveOwnIds (keys_of (entries_of (a ++ x ∷ b))) → has_executed x.id a ≡ false
apart x [] b h = refl
apart x (y ∷ a) b h = elim (cases_Bool (id_eq y.id x.id)) [
  | inl same ↦
      absurd (false≢true (sym h.0 ∙ executed_is (a ++ x ∷ b) y.id
      ∙ any_of_has (λ z. id_eq y.id z.id) (a ++ x ∷ b) x (has_cut a b x) same))
  | inr other ↦ rw (id_turn_away y.id x.id other) (apart x a b h.1)
]

length_commands : (a : List Executed) → length (commands_of a) ≡ length a
length_commands [] = refl
length_commands (x ∷ a) = ap suc (length_commands a)

length_answers : (a : List Executed) → length (map (λ (y : Executed). y.answer) a) ≡ length a
length_answers [] = refl
length_answers (x ∷ a) = ap suc (length_answers a)

and_false : (b : Bool) → (b && false) ≡ false
and_false true = refl
and_false false = refl

-- what the store answers at a cut
reply_at : (a b : List Executed) (x : Executed) → reply (commands_of (a ++ x ∷ b)) (length a) ≡ Some (answer_after (commands_of a) x.command)
reply_at a b x =
    let whole = map-append (λ (y : Executed). y.command) a (x ∷ b) in
    let long : length a ≡ length (commands_of a) = sym (length_commands a) in
    ap (λ (l : List (List ℕ)). reply l (length a)) whole ∙ ap (reply (commands_of a ++ x.command ∷ commands_of b)) long
    ∙ ap (λ (l : List (List ℕ)). option_map (answer_after l) (slice_get (commands_of a ++ x.command ∷ commands_of b) (length (commands_of a))))
    (take_cut (commands_of a) (x.command ∷ commands_of b))
    ∙ ap (option_map (answer_after (commands_of a))) (get_cut (commands_of a) (commands_of b) x.command)

-- ---- one history, where nothing is wrong

answers_from : (above rest : List Executed)
    → ((a b : List Executed) (x : Executed) → rest ≡ a ++ x ∷ b → answer_after (commands_of (above ++ a)) x.command ≡ x.answer)
    → map (λ x. x.answer) rest ≡ replies_from (store_after (commands_of above)) (commands_of rest)
unfolding replies_from
answers_from above [] h = refl
answers_from above (x ∷ rest) h =
    let here : answer_after (commands_of above) x.command ≡ x.answer =
    ap (λ (l : List Executed). answer_after (commands_of l) x.command) (sym (append-nil above)) ∙ h [] rest x refl in
    let next : store_after (commands_of (above ++ x ∷ [])) ≡ (apply_bytes (store_after (commands_of above)) x.command).0 =
    ap store_after (map-append (λ (y : Executed). y.command) above (x ∷ [])) ∙ store_after-push (commands_of above) x.command in
    let more = answers_from (above ++ x ∷ []) rest
    (λ a b y e. ap (λ (l : List Executed). answer_after (commands_of l) y.command) (append_assoc above (x ∷ []) a)
    ∙ h (x ∷ a) b y (ap (λ (l : List Executed). x ∷ l) e)) in
    ap (λ (l : List Answer). x.answer ∷ l) (more ∙ ap (λ s. replies_from s (commands_of rest)) next)
    ∙ ap (λ (y : Answer). y ∷ replies_from (apply_bytes (store_after (commands_of above)) x.command).0 (commands_of rest)) (sym here)

own_ids : (H : List Executed) → ((a b : List Executed) (x : Executed) → H ≡ a ++ x ∷ b → has_executed x.id a ≡ false) → HaveOwnIds (keys_of (entries_of H))
own_ids [] h = tt
own_ids (y ∷ H) h = (
  executed_is H y.id
      ∙ none_of_any (λ x. id_eq y.id x.id) H (λ x there same.
      let t = cut_of_has H x there in
      false≢true (sym (or_parts (id_eq x.id y.id) (has_executed x.id t.before)
      (h (y ∷ t.before) t.after x (ap (λ (l : List Executed). y ∷ l) t.whole))).0 ∙ id_turn y.id x.id same)),
  own_ids H (λ a b x e. (or_parts (id_eq x.id y.id) (has_executed x.id a) (h (y ∷ a) b x (ap (λ (l : List Executed). y ∷ l) e))).1),
)

module _ (p : Printed) (events_fine : EachFine (event_why p) [] p.events) (fine : EachFine (at_why p) [] p.history) where
  entry_at : (a b : List Executed) (x : Executed) → p.history ≡ a ++ x ∷ b → IsFineEntry p a x
  entry_at a b x e = fine_entry p a x (fine a b x e)

  pub fine_answers : map (λ x. x.answer) p.history ≡ replies (commands_of p.history)
  unfolding store_from
  fine_answers = answers_from [] p.history (λ a b x e. (entry_at a b x e).answer)

  asked : (e : Entry) → Has (entries_of p.history) e → Has p.events (Sent (id_of e.key) e.command)
  asked e h =
      let i = image_of_has entry_of p.history e h in
      let t = cut_of_has p.history i.item i.there in
      let sent = sent_has i.item.id i.item.command p.events (entry_at t.before t.after i.item t.whole).sent in
      subst (λ (e : Entry). Has p.events (Sent (id_of e.key) e.command)) i.is sent

  answered : (id : Id) (answer : Answer) (path : Path) → Has p.events (Accepted id answer path) → IsAnswered (entries_of p.history) id answer
  answered id answer path h =
      let f = first_of_answer id p.history answer (fine_answered p events_fine id answer path h) in
      let t = f.first in
      let there : place_of (entries_of p.history) id ≡ Some (length t.before) =
      ap (λ (l : List Executed). place_of (entries_of l) id) t.whole ∙ place_at id t.before t.after t.entry t.away t.own in
      let said : reply (commands_of p.history) (length t.before) ≡ Some t.entry.answer =
      ap (λ (l : List Executed). reply (commands_of l) (length t.before)) t.whole ∙ reply_at t.before t.after t.entry
      ∙ ap Some (entry_at t.before t.after t.entry t.whole).answer in
      record {
        place = length t.before;
        place_is = there;
        answered = ap (λ (l : List (List ℕ)). reply l (length t.before)) (commands_are p.history) ∙ said ∙ ap Some f.same;
      }

  comes_before : (a b : Id) (answer : Answer) (path : Path) (command : List ℕ) → Precedes p.events (Accepted a answer path) (Sent b command)
      → (x : Executed) → Has p.history x → x.id ≡ b → ComesBefore (entries_of p.history) a b
  comes_before a b answer path command h x there is =
      let t = cut_after p.events (Accepted a answer path) (Sent b command) h in
      let none = fine_send p t.before b command (events_fine t.before t.after (Sent b command) t.whole) in
      let before = subst (λ (l : List ClientEvent). Has (accepted_before b l) a) (sym t.whole)
      (accepted_there b t.before (Sent b command ∷ t.after) a answer path none t.first) in
      let u = cut_of_has p.history x there in
      let own = entry_at u.before u.after x u.whole in
      let order = all_at (λ id. has_executed id u.before) (accepted_before x.id p.events) a own.order
      (subst (λ (i : Id). Has (accepted_before i p.events) a) (sym is) before) in
      let w = place_within a u.before (x ∷ u.after) order in
      record {
        first = w.place;
        second = length u.before;
        place_of_first = ap (λ (l : List Executed). place_of (entries_of l) a) u.whole ∙ w.is;
        place_of_second = ap (λ (l : List Executed). place_of (entries_of l) b) u.whole
            ∙ place_at b u.before u.after x (subst (λ (i : Id). has_executed i u.before ≡ false) is own.fresh) is;
        in_order = w.within;
      }

  in_order : (a b : Id) (answer : Answer) (path : Path) (command : List ℕ) → Precedes p.events (Accepted a answer path) (Sent b command)
      → (e : Entry) → Has (entries_of p.history) e → id_of e.key ≡ b → ComesBefore (entries_of p.history) a b
  in_order a b answer path command h e there is =
      let i = image_of_has entry_of p.history e there in
      comes_before a b answer path command h i.item i.there (ap (λ (e : Entry). id_of e.key) i.is ∙ is)

  pub fine_history : Lin p.events (entries_of p.history)
  fine_history = record {
    once = own_ids p.history (λ a b x e. (entry_at a b x e).fresh);
    asked = asked;
    answered = answered;
    in_order = in_order;
  }

-- ---- nothing is wrong, where they are one history

module _ (p : Printed) (lin : Lin p.events (entries_of p.history))
    (answers : map (λ x. x.answer) p.history ≡ replies (commands_of p.history)) where
  answer_is : (a b : List Executed) (x : Executed) → p.history ≡ a ++ x ∷ b → answer_after (commands_of a) x.command ≡ x.answer
  answer_is a b x e =
      let long : length a ≡ length (map (λ (y : Executed). y.answer) a) = sym (length_answers a) in
      let recorded : slice_get (map (λ (y : Executed). y.answer) p.history) (length a) ≡ Some x.answer =
      ap (λ (l : List Executed). slice_get (map (λ (y : Executed). y.answer) l) (length a)) e
      ∙ ap (λ (l : List Answer). slice_get l (length a)) (map-append (λ (y : Executed). y.answer) a (x ∷ b))
      ∙ ap (slice_get (map (λ (y : Executed). y.answer) a ++ x.answer ∷ map (λ (y : Executed). y.answer) b)) long
      ∙ get_cut (map (λ (y : Executed). y.answer) a) (map (λ (y : Executed). y.answer) b) x.answer in
      let said : slice_get (replies (commands_of p.history)) (length a) ≡ Some (answer_after (commands_of a) x.command) =
      slice_get-replies (commands_of p.history) (length a) ∙ ap (λ (l : List Executed). reply (commands_of l) (length a)) e ∙ reply_at a b x in
      same_Some (answer_after (commands_of a) x.command) x.answer
      (sym said ∙ ap (λ (l : List Answer). slice_get l (length a)) (sym answers) ∙ recorded)

  pub answer_recorded : (id : Id) (answer : Answer) (path : Path) → Has p.events (Accepted id answer path) → answer_at id p.history ≡ Some answer
  answer_recorded id answer path h =
      let by = lin.answered id answer path h in
      let t = first_of_place id p.history by.place by.place_is in
      let said : Some (answer_after (commands_of t.before) t.entry.command) ≡ Some answer =
      sym (reply_at t.before t.after t.entry) ∙ ap (λ (l : List Executed). reply (commands_of l) (length t.before)) (sym t.whole)
      ∙ ap (reply (commands_of p.history)) t.counted ∙ ap (λ (l : List (List ℕ)). reply l by.place) (sym (commands_are p.history)) ∙ by.answered in
      ap (answer_at id) t.whole ∙ answer_of_first id t.before t.after t.entry t.away t.own
      ∙ ap Some (sym (answer_is t.before t.after t.entry t.whole)) ∙ said

  fresh_at : (a b : List Executed) (x : Executed) → p.history ≡ a ++ x ∷ b → has_executed x.id a ≡ false
  fresh_at a b x e = apart x a b (subst (λ (l : List Executed). HaveOwnIds (keys_of (entries_of l))) e lin.once)

  module _ (form : AreInForm p.events) (open_lines : lacks_open p ≡ false) where
    sent_is : (x : Executed) → Has p.history x → command_sent x.id p.events ≡ Some x.command
    sent_is x h =
        let sent = lin.asked (entry_of x) (has_map entry_of p.history x h) in
        let t = cut_of_has p.events (Sent x.id x.command) sent in
        let none = none_of_any (sends_it x.id) t.before (λ e there test.
        let is = send_of_test x.id e test in
        let twice = subst (λ (l : List ClientEvent). Precedes l (Sent x.id is.command) (Sent x.id x.command)) (sym t.whole)
        (precedes_cut t.before t.after (Sent x.id is.command) (Sent x.id x.command) (subst (Has t.before) is.is there)) in
        form.sent x.id is.command x.command twice) in
        ap (command_sent x.id) t.whole ∙ sent_at x.id x.command t.before t.after none

    order_is : (a b : List Executed) (x : Executed) → p.history ≡ a ++ x ∷ b
        → list_all (λ id. has_executed id a) (accepted_before x.id p.events) ≡ true
    order_is a b x e = all_of_each (λ id. has_executed id a) (accepted_before x.id p.events) (λ id there.
        let x_there = subst (λ (l : List Executed). Has l x) (sym e) (has_cut a b x) in
        let entry_there = has_map entry_of p.history x x_there in
        let sent = lin.asked (entry_of x) entry_there in
        let t = accepted_precedes x.id id p.events there in
        let first = t.before x.command sent in
        let s = lin.in_order id x.id t.answer t.path x.command first (entry_of x) entry_there refl in
        let own : place_of (entries_of p.history) x.id ≡ Some (length a) =
        ap (λ (l : List Executed). place_of (entries_of l) x.id) e ∙ place_at x.id a b x (fresh_at a b x e) refl in
        let here = same_Some s.second (length a) (sym s.place_of_second ∙ own) in
        let low = s.in_order in
        has_of_place id a (x ∷ b) s.first (ap (λ (l : List Executed). place_of (entries_of l) id) (sym e) ∙ s.place_of_first) (omega (arith, low, here)))

    pub entries_are_fine : EachFine (at_why p) [] p.history
    entries_are_fine a b x e = entry_is_fine p a x (record {
      fresh = fresh_at a b x e;
      sent = sent_is x (subst (λ (l : List Executed). Has l x) (sym e) (has_cut a b x));
      opens = rw open_lines (and_false (length a == 0));
      order = order_is a b x e;
      answer = answer_is a b x e;
    })
