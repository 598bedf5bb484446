-- The events' tests are all false exactly where the events are in form and each answer is that of the history.
use Rattle.std.proofs.Common.{◌≡◌, ℕ, true, false, List, [], ◌∷◌, ◌++◌, Option, Some, None, refl, sym, ap, subst, ◌∙◌, inl, inr}
use Rattle.std.specs.Prelude.{not, is_none}
use Rattle.std.specs.List.{list_any}
use Rattle.std.specs.Option.{option_eq}
use Rattle.std.proofs.lemmas.Bool.{false≢true}
use Rattle.nz_base.specs.declared.key.Id.{Id}
use Rattle.nz_base.proofs.Names.{same_id, id_eq_self}
use Rattle.nz_store.specs.declared.command.Answer.{Answer}
use Rattle.nz_msg.specs.declared.message.Path.{Path}
use Rattle.nz_machine.specs.rules.Quorums.{answer_eq}
use Rattle.nz_machine.specs.runs.World.{Has}
use Rattle.nz_machine.specs.declared.client_event.ClientEvent.{ClientEvent}
use Rattle.nz_machine.specs.declared.client_event.ClientEvent.TheVariants.{Sent, Accepted}
use Rattle.nz_machine.specs.runs.OneHistory.{Precedes}
use Rattle.nz_text.specs.declared.printed.Printed.{Printed}
use Rattle.nz_text.specs.Text.{accepts_it}
use Rattle.nz_check.specs.declared.verdict.Why.TheVariants.{Repeat, Unsent, Missing}
use Rattle.nz_check.specs.declared.verdict.Why.TheVariants as why
use Rattle.nz_check.specs.Checked.{sends_it, answer_at, first_why, event_why}
use Rattle.nz_check.specs.Exact.{AreInForm}
use Rattle.nz_check.proofs.Meanings.{answer_eq_self, same_answer, same_some, some_same, holds, lets, why_parts, why_none}
use Rattle.nz_check.proofs.Lines.{EachFine}
use Rattle.nz_check.proofs.Splits.{has_cut, cut_of_has, found_of_any, any_of_has, none_of_any, cut_after, precedes_cut}
use Rattle.nz_check.proofs.Splits.{before_cut}

-- ---- what the tests of an event find

-- an event that sends the request
pub record IsSend (id : Id) (e : ClientEvent) : Type 0 where
  pub command : List ℕ
  pub is : e ≡ Sent id command

pub send_of_test : (id : Id) (e : ClientEvent) → sends_it id e ≡ true → IsSend id e
send_of_test id (Sent other command) h = record { command = command; is = ap (λ (i : Id). Sent i command) (same_id other id h) }
send_of_test id (Accepted other answer path) h = absurd (false≢true h)

-- an event that accepts an answer to the request
pub record IsAccept (id : Id) (e : ClientEvent) : Type 0 where
  pub answer : Answer
  pub path : Path
  pub is : e ≡ Accepted id answer path

pub accept_of_test : (id : Id) (e : ClientEvent) → accepts_it id e ≡ true → IsAccept id e
accept_of_test id (Sent other command) h = absurd (false≢true h)
accept_of_test id (Accepted other answer path) h =
    record { answer = answer; path = path; is = ap (λ (i : Id). Accepted i answer path) (same_id other id h) }

-- what is true of an acceptance with which nothing is wrong
pub record IsFineAccept (p : Printed) (above : List ClientEvent) (id : Id) (answer : Answer) : Type 0 where
  pub fresh : list_any (accepts_it id) above ≡ false
  pub sent : list_any (sends_it id) above ≡ true
  pub answered : answer_at id p.history ≡ Some answer

pub fine_send : (p : Printed) (above : List ClientEvent) (id : Id) (command : List ℕ) → event_why p above (Sent id command) ≡ None → list_any (sends_it id) above ≡ false
fine_send p above id command h = (why_parts (list_any (sends_it id) above) Repeat None h).0

pub fine_accept : (p : Printed) (above : List ClientEvent) (id : Id) (answer : Answer) (path : Path)
    → event_why p above (Accepted id answer path) ≡ None → IsFineAccept p above id answer
fine_accept p above id answer path h =
    let found = answer_at id p.history in
    let last = first_why ((not (option_eq answer_eq found (Some answer)), why.Answer) ∷ []) in
    let third = first_why ((is_none found, Missing) ∷ (not (option_eq answer_eq found (Some answer)), why.Answer) ∷ []) in
    let second = first_why ((not (list_any (sends_it id) above), Unsent) ∷ (is_none found, Missing) ∷ (not (option_eq answer_eq found (Some answer)), why.Answer) ∷ []) in
    let a = why_parts (list_any (accepts_it id) above) Repeat second h in
    let b = why_parts (not (list_any (sends_it id) above)) Unsent third a.1 in
    let c = why_parts (is_none found) Missing last b.1 in
    let d = why_parts (not (option_eq answer_eq found (Some answer))) why.Answer None c.1 in
    record {
      fresh = a.0;
      sent = holds (list_any (sends_it id) above) b.0;
      answered = same_some answer_eq same_answer found answer (holds (option_eq answer_eq found (Some answer)) d.0);
    }

accept_is_fine : (p : Printed) (above : List ClientEvent) (id : Id) (answer : Answer) (path : Path)
    → IsFineAccept p above id answer → event_why p above (Accepted id answer path) ≡ None
accept_is_fine p above id answer path h =
    let found = answer_at id p.history in
    why_none (list_any (accepts_it id) above) Repeat _ h.fresh
    (why_none (not (list_any (sends_it id) above)) Unsent _ (lets (list_any (sends_it id) above) h.sent)
    (why_none (is_none found) Missing _ (ap (λ (o : Option Answer). is_none o) h.answered)
    (why_none (not (option_eq answer_eq found (Some answer))) why.Answer None
    (lets (option_eq answer_eq found (Some answer)) (some_same answer_eq answer_eq_self found answer h.answered)) refl)))

-- ---- in form, where nothing is wrong

module _ (p : Printed) (fine : EachFine (event_why p) [] p.events) where
  no_second : (id : Id) (x y : List ℕ) → ¬ Precedes p.events (Sent id x) (Sent id y)
  no_second id x y h =
      let t = cut_after p.events (Sent id x) (Sent id y) h in
      false≢true (sym (fine_send p t.before id y (fine t.before t.after (Sent id y) t.whole))
      ∙ any_of_has (sends_it id) t.before (Sent id x) t.first (id_eq_self id))

  no_second_accept : (id : Id) (a b : Answer) (q r : Path) → ¬ Precedes p.events (Accepted id a q) (Accepted id b r)
  no_second_accept id a b q r h =
      let t = cut_after p.events (Accepted id a q) (Accepted id b r) h in
      false≢true (sym (fine_accept p t.before id b r (fine t.before t.after (Accepted id b r) t.whole)).fresh
      ∙ any_of_has (accepts_it id) t.before (Accepted id a q) t.first (id_eq_self id))

  sent_first : (id : Id) (a : Answer) (q : Path) → Has p.events (Accepted id a q)
      → (command : List ℕ) × Precedes p.events (Sent id command) (Accepted id a q)
  sent_first id a q h =
      let t = cut_of_has p.events (Accepted id a q) h in
      let sent = (fine_accept p t.before id a q (fine t.before t.after (Accepted id a q) t.whole)).sent in
      let s = found_of_any (sends_it id) t.before sent in
      let is = send_of_test id s.item s.passes in
      let there = subst (Has t.before) is.is s.there in
      let here = subst (λ (l : List ClientEvent). Precedes l (Sent id is.command) (Accepted id a q)) (sym t.whole)
      (precedes_cut t.before t.after (Sent id is.command) (Accepted id a q) there) in
      (is.command, here)

  pub fine_in_form : AreInForm p.events
  fine_in_form = record { sent = no_second; accepted = no_second_accept; in_order = sent_first }

  pub fine_answered : (id : Id) (a : Answer) (q : Path) → Has p.events (Accepted id a q) → answer_at id p.history ≡ Some a
  fine_answered id a q h =
      let t = cut_of_has p.events (Accepted id a q) h in
      (fine_accept p t.before id a q (fine t.before t.after (Accepted id a q) t.whole)).answered

-- ---- nothing is wrong, where they are in form

module _ (p : Printed) (form : AreInForm p.events)
    (answered : (id : Id) (a : Answer) (q : Path) → Has p.events (Accepted id a q) → answer_at id p.history ≡ Some a) where
  -- none before a cut sends what the cut sends
  pub no_send_above : (a b : List ClientEvent) (id : Id) (command : List ℕ) → p.events ≡ a ++ Sent id command ∷ b → list_any (sends_it id) a ≡ false
  no_send_above a b id command e = none_of_any (sends_it id) a (λ x there h.
      let is = send_of_test id x h in
      let twice = subst (λ (l : List ClientEvent). Precedes l (Sent id is.command) (Sent id command)) (sym e)
      (precedes_cut a b (Sent id is.command) (Sent id command) (subst (Has a) is.is there)) in
      form.sent id is.command command twice)

  no_accept_above : (a b : List ClientEvent) (id : Id) (answer : Answer) (path : Path) → p.events ≡ a ++ Accepted id answer path ∷ b → list_any (accepts_it id) a ≡ false
  no_accept_above a b id answer path e = none_of_any (accepts_it id) a (λ x there h.
      let is = accept_of_test id x h in
      let twice = subst (λ (l : List ClientEvent). Precedes l (Accepted id is.answer is.path) (Accepted id answer path)) (sym e)
      (precedes_cut a b (Accepted id is.answer is.path) (Accepted id answer path) (subst (Has a) is.is there)) in
      form.accepted id is.answer answer is.path path twice)

  send_above : (a b : List ClientEvent) (id : Id) (answer : Answer) (path : Path) → p.events ≡ a ++ Accepted id answer path ∷ b → list_any (sends_it id) a ≡ true
  send_above a b id answer path e =
      let own = Accepted id answer path in
      let has = subst (λ (l : List ClientEvent). Has l own) (sym e) (has_cut a b own) in
      let s = form.in_order id answer path has in
      elim (before_cut a b (Sent id s.0) own (subst (λ (l : List ClientEvent). Precedes l (Sent id s.0) own) e s.1)) [
        | inl before ↦ any_of_has (sends_it id) a (Sent id s.0) before (id_eq_self id)
        | inr twice ↦
            absurd (form.accepted id answer answer path path
            (subst (λ (l : List ClientEvent). Precedes l own own) (sym e) twice))
      ]

  event_is_fine : (a b : List ClientEvent) (x : ClientEvent) → p.events ≡ a ++ x ∷ b → event_why p a x ≡ None
  event_is_fine a b (Sent id command) e = why_none (list_any (sends_it id) a) Repeat None (no_send_above a b id command e) refl
  event_is_fine a b (Accepted id answer path) e = accept_is_fine p a id answer path (record {
    fresh = no_accept_above a b id answer path e;
    sent = send_above a b id answer path e;
    answered = answered id answer path (subst (λ (l : List ClientEvent). Has l (Accepted id answer path)) (sym e) (has_cut a b (Accepted id answer path)));
  })

  pub events_are_fine : EachFine (event_why p) [] p.events
  events_are_fine = event_is_fine
