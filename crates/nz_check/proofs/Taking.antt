-- What is noted after one event more.
use Rattle.std.proofs.Common.{◌≡◌, ℕ, zero, suc, ◌<◌, max, is_some, Bool, true, false, cond, ◌||◌, List, [], ◌∷◌, ◌++◌, length, Option, Some, None}
use Rattle.std.proofs.Common.{refl, sym, ap, subst, ◌∙◌, inl, inr, arith}
use Rattle.std.specs.Prelude.{not, is_none, slice_get}
use Rattle.std.specs.List.{list_any}
use Rattle.std.specs.Option.{option_eq, option_map}
use Rattle.nz_machine.specs.rules.Quorums.{answer_eq}
use Rattle.std.proofs.lemmas.Option.{none-some}
use Rattle.std.proofs.lemmas.Bool.{cases_Bool, false≢true, or_cases, or_left}
use Rattle.std.proofs.lemmas.List.Folds.{list_any-append}
use Rattle.indexmap.specs.IndexMap.{get}
use Rattle.nz_base.specs.Key.{id_eq}
use Rattle.nz_base.specs.declared.key.Id.{Id}
use Rattle.nz_base.proofs.Names.{same_id}
use Rattle.nz_store.specs.declared.command.Answer.{Answer}
use Rattle.nz_msg.specs.declared.message.Path.{Path}
use Rattle.nz_machine.specs.declared.journal.Executed.{Executed}
use Rattle.nz_machine.specs.declared.client_event.ClientEvent.{ClientEvent}
use Rattle.nz_machine.specs.declared.client_event.ClientEvent.TheVariants.{Sent, Accepted}
use Rattle.nz_text.specs.Text.{accepts_it}
use Rattle.nz_text.specs.declared.printed.Printed.{Printed}
use Rattle.nz_check.specs.declared.verdict.Why.{Why}
use Rattle.nz_check.specs.declared.verdict.Why.TheVariants.{Repeat, Unsent, Missing}
use Rattle.nz_check.specs.declared.verdict.Why.TheVariants as why
use Rattle.nz_check.specs.declared.events.SentRequest.{SentRequest}
use Rattle.nz_check.specs.declared.events.Noted.{Noted}
use Rattle.nz_check.specs.Checked.{sends_it, answer_at, event_why}
use Rattle.nz_check.specs.Noting.{first_place, reach_of_place, reach_of, accepted_ids, sent_of, AreNoted, IsTaken}
use Rattle.nz_check.proofs.Meanings.{why_skips, why_is, fails, lets}
use Rattle.nz_check.proofs.Notes.{sent_test, unsent_test, unsent_is, placed, not_placed, ids_with_send, ids_with_accept, reach_push, sent_kept}
use Rattle.nz_check.proofs.Notes.{sent_now, sent_accepted, sent_is}

-- none accepts what none sends
pub not_accepted : (H : List Executed) (E : List ClientEvent) (old : Noted) (id : Id) → AreNoted H E old → list_any (sends_it id) E ≡ false → list_any (accepts_it id) E ≡ false
not_accepted H E old id h unsent = elim (cases_Bool (list_any (accepts_it id) E)) [
  | inl accepted ↦ absurd (false≢true (sym unsent ∙ h.asked id accepted))
  | inr away ↦ away
]

more_sent : (E : List ClientEvent) (e : ClientEvent) (i : Id) → list_any (sends_it i) E ≡ true → list_any (sends_it i) (E ++ e ∷ []) ≡ true
more_sent E e i h = list_any-append (sends_it i) E (e ∷ []) ∙ or_left (list_any (sends_it i) E) (sends_it i e || false) h

pub noted_send : (H : List Executed) (E : List ClientEvent) (id : Id) (command : List ℕ) (old now : Noted) → AreNoted H E old → list_any (sends_it id) E ≡ false
    → ((i : Id) → get id_eq now.sent i ≡ cond (id_eq id i) (Some (record { place = length E; reach = old.reach; accepted = false })) (get id_eq old.sent i))
    → now.reach ≡ old.reach → AreNoted H (E ++ Sent id command ∷ []) now
noted_send H E id command old now h unsent put same = record {
  each = λ i. put i ∙ elim (cases_Bool (id_eq id i)) [
    | inl here ↦
        ap (λ (b : Bool). cond b (Some (record { place = length E; reach = old.reach; accepted = false })) (get id_eq old.sent i)) here
        ∙ ap (λ (n : ℕ). Some (record { place = length E; reach = n; accepted = false })) h.reach
        ∙ sym (sent_now H E id command unsent (not_accepted H E old id h unsent))
        ∙ ap (sent_of H (E ++ Sent id command ∷ [])) (same_id id i here)
    | inr away ↦
        ap (λ (b : Bool). cond b (Some (record { place = length E; reach = old.reach; accepted = false })) (get id_eq old.sent i)) away
        ∙ h.each i ∙ sym (sent_kept H E (Sent id command) i away refl)
  ];
  reach = same ∙ h.reach ∙ ap (reach_of H) (sym (ids_with_send id command E));
  asked = λ i accepted. more_sent E (Sent id command) i (h.asked i
      (elim (or_cases (list_any (accepts_it i) E) false (sym (list_any-append (accepts_it i) E (Sent id command ∷ [])) ∙ accepted))
      [ inl before ↦ before | inr none ↦ absurd (false≢true none) ]));
}

pub noted_accept : (H : List Executed) (E : List ClientEvent) (id : Id) (answer : Answer) (path : Path) (s : SentRequest) (place : ℕ) (old now : Noted) → AreNoted H E old
    → get id_eq old.sent id ≡ Some s → first_place 0 id H ≡ Some place
    → ((i : Id) → get id_eq now.sent i ≡ cond (id_eq id i) (Some (record { place = s.place; reach = s.reach; accepted = true })) (get id_eq old.sent i))
    → now.reach ≡ max old.reach (suc place) → AreNoted H (E ++ Accepted id answer path ∷ []) now
noted_accept H E id answer path s place old now h held at put reach =
    let known : sent_of H E id ≡ Some s = sym (h.each id) ∙ held in
    record {
      each = λ i. put i ∙ elim (cases_Bool (id_eq id i)) [
        | inl here ↦
            ap (λ (b : Bool). cond b (Some (record { place = s.place; reach = s.reach; accepted = true })) (get id_eq old.sent i)) here
            ∙ sym (sent_accepted H E id answer path s known) ∙ ap (sent_of H (E ++ Accepted id answer path ∷ [])) (same_id id i here)
        | inr away ↦
            ap (λ (b : Bool). cond b (Some (record { place = s.place; reach = s.reach; accepted = true })) (get id_eq old.sent i)) away
            ∙ h.each i ∙ sym (sent_kept H E (Accepted id answer path) i refl away)
      ];
      reach =
          reach ∙ ap (λ (n : ℕ). max n (suc place)) h.reach
          ∙ ap (λ (o : Option ℕ). max (reach_of H (accepted_ids E)) (reach_of_place (length H) o)) (sym at)
          ∙ sym (reach_push H (accepted_ids E) id) ∙ ap (reach_of H) (sym (ids_with_accept id answer path E));
      asked = λ i accepted.
          elim (or_cases (list_any (accepts_it i) E) (id_eq id i || false) (sym (list_any-append (accepts_it i) E (Accepted id answer path ∷ [])) ∙ accepted)) [
            | inl before ↦ more_sent E (Accepted id answer path) i (h.asked i before)
            | inr own ↦
                elim (or_cases (id_eq id i) false own) [
                  | inl here ↦
                      more_sent E (Accepted id answer path) i
                      (subst (λ (j : Id). list_any (sends_it j) E ≡ true) (same_id id i here) (sent_is H E id s known).sent)
                  | inr none ↦ absurd (false≢true none)
                ]
          ];
    }

-- ---- a send

pub send_repeats : (p : Printed) (above : List ClientEvent) (id : Id) (command : List ℕ) (old now : Noted) → AreNoted p.history above old
    → is_some (get id_eq old.sent id) ≡ true → IsTaken p above (Sent id command) (Some Repeat) now
send_repeats p above id command old now h some =
    let sent = sent_test p.history above id (get id_eq old.sent id) (sym (h.each id)) some in
    record { found = sym (why_is (list_any (sends_it id) above) Repeat None sent); noted = λ e. absurd (none-some Repeat (sym e)) }

pub send_is_new : (p : Printed) (above : List ClientEvent) (id : Id) (command : List ℕ) (place : ℕ) (old now : Noted) → AreNoted p.history above old
    → length above ≡ place → is_some (get id_eq old.sent id) ≡ false
    → ((i : Id) → get id_eq now.sent i ≡ cond (id_eq id i) (Some (record { place = place; reach = old.reach; accepted = false })) (get id_eq old.sent i))
    → now.reach ≡ old.reach → IsTaken p above (Sent id command) None now
send_is_new p above id command place old now h long none put same =
    let unsent = unsent_test p.history above id (get id_eq old.sent id) (sym (h.each id)) none in
    record {
      found = sym (why_skips (list_any (sends_it id) above) Repeat None None unsent refl);
      noted = λ e. noted_send p.history above id command old now h unsent
          (λ i. put i ∙ ap (λ (n : ℕ). cond (id_eq id i) (Some (record { place = n; reach = old.reach; accepted = false })) (get id_eq old.sent i)) (sym long)) same;
    }

-- ---- an acceptance

last_tests : Printed → Id → Answer → Option Why
last_tests p id answer =
    cond (is_none (answer_at id p.history)) (Some Missing)
    (cond (not (option_eq answer_eq (answer_at id p.history) (Some answer))) (Some why.Answer) None)

pub accept_unsent : (p : Printed) (above : List ClientEvent) (id : Id) (answer : Answer) (path : Path) (old now : Noted) → AreNoted p.history above old
    → None ≡ get id_eq old.sent id → IsTaken p above (Accepted id answer path) (Some Unsent) now
accept_unsent p above id answer path old now h none =
    let unsent = unsent_is p.history above id (sym (h.each id) ∙ sym none) in
    record {
      found = sym (why_skips (list_any (accepts_it id) above) Repeat _ (Some Unsent) (not_accepted p.history above old id h unsent)
          (why_is (not (list_any (sends_it id) above)) Unsent _ (fails (list_any (sends_it id) above) unsent)));
      noted = λ e. absurd (none-some Unsent (sym e));
    }

pub accept_repeats : (p : Printed) (above : List ClientEvent) (id : Id) (answer : Answer) (path : Path) (s : SentRequest) (old now : Noted) → AreNoted p.history above old
    → Some s ≡ get id_eq old.sent id → s.accepted ≡ true → IsTaken p above (Accepted id answer path) (Some Repeat) now
accept_repeats p above id answer path s old now h held twice =
    let t = sent_is p.history above id s (sym (h.each id) ∙ sym held) in
    record {
      found = sym (why_is (list_any (accepts_it id) above) Repeat _ (sym t.accepted ∙ twice));
      noted = λ e. absurd (none-some Repeat (sym e));
    }

-- the first two tests are false
passed : (p : Printed) (above : List ClientEvent) (id : Id) (answer : Answer) (path : Path) (s : SentRequest) (old : Noted) (r : Option Why) → AreNoted p.history above old
    → Some s ≡ get id_eq old.sent id → s.accepted ≡ false → last_tests p id answer ≡ r → event_why p above (Accepted id answer path) ≡ r
unfolding last_tests
passed p above id answer path s old r h held once rest =
    let t = sent_is p.history above id s (sym (h.each id) ∙ sym held) in
    why_skips (list_any (accepts_it id) above) Repeat _ r (sym t.accepted ∙ once)
    (why_skips (not (list_any (sends_it id) above)) Unsent _ r (lets (list_any (sends_it id) above) t.sent) rest)

pub accept_missing : (p : Printed) (above : List ClientEvent) (id : Id) (answer : Answer) (path : Path) (s : SentRequest) (old now : Noted) → AreNoted p.history above old
    → Some s ≡ get id_eq old.sent id → s.accepted ≡ false → first_place 0 id p.history ≡ None → IsTaken p above (Accepted id answer path) (Some Missing) now
unfolding last_tests
accept_missing p above id answer path s old now h held once away =
    record {
      found = sym (passed p above id answer path s old (Some Missing) h held once
          (why_is (is_none (answer_at id p.history)) Missing _ (ap (λ (o : Option Answer). is_none o) (not_placed id p.history 0 away))));
      noted = λ e. absurd (none-some Missing (sym e));
    }

-- what the test of an answer at the first place says
at_first : (p : Printed) (id : Id) (place : ℕ) → first_place 0 id p.history ≡ Some place
    → option_map (λ (x : Executed). x.answer) (slice_get p.history place) ≡ answer_at id p.history
at_first p id place at =
    let t = placed id p.history 0 place at in
    let same : place ≡ t.offset = let is = t.is in omega (arith, is) in
    ap (λ (n : ℕ). option_map (λ (x : Executed). x.answer) (slice_get p.history n)) same ∙ t.answer

some_there : (H : List Executed) (k : ℕ) → k < length H → is_none (option_map (λ (x : Executed). x.answer) (slice_get H k)) ≡ false
some_there [] k lt = absurd (omega (arith, lt))
some_there (x ∷ H) zero lt = refl
some_there (x ∷ H) (suc k) lt = some_there H k (omega (arith, lt))

is_answered : (p : Printed) (id : Id) (place : ℕ) → first_place 0 id p.history ≡ Some place → is_none (answer_at id p.history) ≡ false
is_answered p id place at =
    let t = placed id p.history 0 place at in
    ap (λ (o : Option Answer). is_none o) (sym t.answer) ∙ some_there p.history t.offset t.within

pub accept_differs : (p : Printed) (above : List ClientEvent) (id : Id) (answer : Answer) (path : Path) (s : SentRequest) (place : ℕ) (old now : Noted) → AreNoted p.history above old
    → Some s ≡ get id_eq old.sent id → s.accepted ≡ false → first_place 0 id p.history ≡ Some place
    → option_eq answer_eq (option_map (λ (x : Executed). x.answer) (slice_get p.history place)) (Some answer) ≡ false
    → IsTaken p above (Accepted id answer path) (Some why.Answer) now
unfolding last_tests
accept_differs p above id answer path s place old now h held once at differs =
    let test = option_eq answer_eq (answer_at id p.history) (Some answer) in
    record {
      found = sym (passed p above id answer path s old (Some why.Answer) h held once
          (why_skips (is_none (answer_at id p.history)) Missing _ (Some why.Answer) (is_answered p id place at)
          (why_is (not test) why.Answer None
          (fails test (ap (λ (o : Option Answer). option_eq answer_eq o (Some answer)) (sym (at_first p id place at)) ∙ differs)))));
      noted = λ e. absurd (none-some why.Answer (sym e));
    }

pub accept_fits : (p : Printed) (above : List ClientEvent) (id : Id) (answer : Answer) (path : Path) (s : SentRequest) (place : ℕ) (old now : Noted) → AreNoted p.history above old
    → Some s ≡ get id_eq old.sent id → s.accepted ≡ false → first_place 0 id p.history ≡ Some place
    → option_eq answer_eq (option_map (λ (x : Executed). x.answer) (slice_get p.history place)) (Some answer) ≡ true
    → ((i : Id) → get id_eq now.sent i ≡ cond (id_eq id i) (Some (record { place = s.place; reach = s.reach; accepted = true })) (get id_eq old.sent i))
    → now.reach ≡ max old.reach (suc place) → IsTaken p above (Accepted id answer path) None now
unfolding last_tests
accept_fits p above id answer path s place old now h held once at same put reach =
    let test = option_eq answer_eq (answer_at id p.history) (Some answer) in
    record {
      found = sym (passed p above id answer path s old None h held once
          (why_skips (is_none (answer_at id p.history)) Missing _ None (is_answered p id place at)
          (why_skips (not test) why.Answer None None
          (lets test (ap (λ (o : Option Answer). option_eq answer_eq o (Some answer)) (sym (at_first p id place at)) ∙ same)) refl)));
      noted = λ e. noted_accept p.history above id answer path s place old now h (sym held) at put reach;
    }

pub place_is_within : (p : Printed) (id : Id) (place : ℕ) → first_place 0 id p.history ≡ Some place → place < length p.history
place_is_within p id place at =
    let t = placed id p.history 0 place at in
    let is = t.is in
    let low = t.within in
    omega (arith, is, low)
