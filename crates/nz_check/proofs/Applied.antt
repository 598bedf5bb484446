-- The pass over the history.
use Rattle.std.proofs.Common.{◌≡◌, ℕ, ◌+◌, ◌<◌, ◌≤◌, Bool, true, false, List, [], ◌∷◌, length, take, Option, Some, None}
use Rattle.std.proofs.Common.{refl, sym, ap, ◌∙◌, arith, add-one}
use Rattle.std.specs.Prelude.{not, ◌&&◌, ◌==◌, nat_lt, nat_eq, slice_get}
use Rattle.std.specs.List.{list_all}
use Rattle.std.specs.Option.{option_eq}
use Rattle.std.specs.Str.{bytes_eq}
use Rattle.std.proofs.lemmas.Bool.{false≢true}
use Rattle.std.proofs.lemmas.List.{map-append}
use Rattle.std.proofs.lemmas.Option.{none-some}
use Rattle.indexmap.specs.IndexMap.{get}
use Rattle.nz_base.specs.Key.{id_eq}
use Rattle.nz_base.specs.declared.key.Id.{Id}
use Rattle.nz_store.specs.Entries.{Entries}
use Rattle.nz_store.specs.Sequence.{apply_bytes, store_after, answer_after}
use Rattle.nz_store.proofs.Turns.{store_after-push}
use Rattle.nz_machine.specs.declared.journal.Executed.{Executed}
use Rattle.nz_machine.specs.rules.Quorums.{answer_eq}
use Rattle.nz_machine.proofs.lists.ListParts.{take_next}
use Rattle.nz_text.specs.declared.printed.Printed.{Printed}
use Rattle.nz_check.specs.declared.events.Noted.{Noted}
use Rattle.nz_check.specs.declared.events.SentRequest.{SentRequest}
use Rattle.nz_check.specs.declared.verdict.Why.{Why}
use Rattle.nz_check.specs.declared.verdict.Why.TheVariants.{Repeat, Unsent, Open, Order}
use Rattle.nz_check.specs.declared.verdict.Why.TheVariants as why
use Rattle.nz_check.specs.Checked.{command_sent, accepted_before, has_executed, commands_of, at_why, lacks_open}
use Rattle.nz_check.specs.Noting.{is_sent_at, AreFirstPlaces, AreNoted}
use Rattle.nz_check.specs.Applying.{IsApplied}
use Rattle.nz_check.proofs.Meanings.{holds, lets, fails, why_skips, why_is}
use Rattle.nz_check.proofs.Notes.{is_first_entry, reaches, command_is, no_command, sent_is, unsent_place}
use Rattle.nz_check.proofs.Passes.{taken, get_within}

unfails : (b : Bool) → not b ≡ true → b ≡ false
unfails true h = absurd (false≢true h)
unfails false h = refl

pub below_is : (a b : ℕ) → a < b → nat_lt a b ≡ true
below_is a b h = grind (arith, h)

pub above_is : (a b : ℕ) → b ≤ a → nat_lt a b ≡ false
above_is a b h = grind (arith, h)

module _ (p : Printed) (place : ℕ) (x : Executed) (there : slice_get p.history place ≡ Some x) where
  -- ---- what the tests are

  pub first_test : (place_in : Id → Option ℕ) (b : Bool) → AreFirstPlaces p.history place_in → option_eq nat_eq (place_in x.id) (Some place) ≡ b
      → not (has_executed x.id (take place p.history)) ≡ b
  first_test place_in b h test =
      sym (is_first_entry p.history place x there) ∙ ap (λ (o : Option ℕ). option_eq nat_eq o (Some place)) (sym (h x.id)) ∙ test

  pub sent_test : (noted : Noted) (s : SentRequest) → AreNoted p.history p.events noted → Some s ≡ get id_eq noted.sent x.id
      → is_sent_at p.events s.place x.command ≡ option_eq bytes_eq (command_sent x.id p.events) (Some x.command)
  sent_test noted s h held = command_is s.place x.id p.events x.command (sent_is p.history p.events x.id s (sym (h.each x.id) ∙ sym held)).at

  pub unsent_test : (noted : Noted) → AreNoted p.history p.events noted → None ≡ get id_eq noted.sent x.id
      → option_eq bytes_eq (command_sent x.id p.events) (Some x.command) ≡ false
  unsent_test noted h none =
      ap (λ (o : Option (List ℕ)). option_eq bytes_eq o (Some x.command))
      (no_command 0 x.id p.events (unsent_place p.history p.events x.id (sym (h.each x.id) ∙ sym none)))

  pub reach_test : (noted : Noted) (s : SentRequest) → AreNoted p.history p.events noted → Some s ≡ get id_eq noted.sent x.id
      → nat_lt place s.reach ≡ not (list_all (λ id. has_executed id (take place p.history)) (accepted_before x.id p.events))
  reach_test noted s h held =
      ap (nat_lt place) (sent_is p.history p.events x.id s (sym (h.each x.id) ∙ sym held)).reach
      ∙ reaches p.history place (accepted_before x.id p.events) (get_within p.history place x there)

  pub open_test : (lacks : Bool) → lacks ≡ lacks_open p → ((place == 0) && lacks) ≡ ((length (take place p.history) == 0) && lacks_open p)
  open_test lacks is =
      ap (λ (b : Bool). (place == 0) && b) is
      ∙ ap (λ (n : ℕ). (n == 0) && lacks_open p) (sym (taken p.history place (get_within p.history place x there)))

  -- ---- the reasons

  -- An id that was executed before is the fault *repeat*.
  pub repeats : (store : Entries) → not (has_executed x.id (take place p.history)) ≡ false → IsApplied p place x (Some Repeat) store
  repeats store twice = record {
    found = sym (why_is (has_executed x.id (take place p.history)) Repeat _ (holds (has_executed x.id (take place p.history)) twice));
    applied = λ e. absurd (none-some Repeat (sym e));
  }

  pub is_unsent : (store : Entries) → not (has_executed x.id (take place p.history)) ≡ true
      → option_eq bytes_eq (command_sent x.id p.events) (Some x.command) ≡ false → IsApplied p place x (Some Unsent) store
  is_unsent store fresh unsent = record {
    found = sym (why_skips (has_executed x.id (take place p.history)) Repeat _ (Some Unsent) (unfails (has_executed x.id (take place p.history)) fresh)
        (why_is (not (option_eq bytes_eq (command_sent x.id p.events) (Some x.command))) Unsent _
        (fails (option_eq bytes_eq (command_sent x.id p.events) (Some x.command)) unsent)));
    applied = λ e. absurd (none-some Unsent (sym e));
  }

  pub lacks_lines : (store : Entries) → not (has_executed x.id (take place p.history)) ≡ true
      → option_eq bytes_eq (command_sent x.id p.events) (Some x.command) ≡ true
      → ((length (take place p.history) == 0) && lacks_open p) ≡ true → IsApplied p place x (Some Open) store
  lacks_lines store fresh same lacks = record {
    found = sym (why_skips (has_executed x.id (take place p.history)) Repeat _ (Some Open) (unfails (has_executed x.id (take place p.history)) fresh)
        (why_skips (not (option_eq bytes_eq (command_sent x.id p.events) (Some x.command))) Unsent _ (Some Open)
        (lets (option_eq bytes_eq (command_sent x.id p.events) (Some x.command)) same)
        (why_is ((length (take place p.history) == 0) && lacks_open p) Open _ lacks)));
    applied = λ e. absurd (none-some Open (sym e));
  }

  pub is_early : (store : Entries) → not (has_executed x.id (take place p.history)) ≡ true
      → option_eq bytes_eq (command_sent x.id p.events) (Some x.command) ≡ true
      → ((length (take place p.history) == 0) && lacks_open p) ≡ false
      → not (list_all (λ id. has_executed id (take place p.history)) (accepted_before x.id p.events)) ≡ true
      → IsApplied p place x (Some Order) store
  is_early store fresh same opens early = record {
    found = sym (why_skips (has_executed x.id (take place p.history)) Repeat _ (Some Order) (unfails (has_executed x.id (take place p.history)) fresh)
        (why_skips (not (option_eq bytes_eq (command_sent x.id p.events) (Some x.command))) Unsent _ (Some Order)
        (lets (option_eq bytes_eq (command_sent x.id p.events) (Some x.command)) same)
        (why_skips ((length (take place p.history) == 0) && lacks_open p) Open _ (Some Order) opens
        (why_is (not (list_all (λ id. has_executed id (take place p.history)) (accepted_before x.id p.events))) Order _ early))));
    applied = λ e. absurd (none-some Order (sym e));
  }

  -- An answer that the one store does not give is the fault *answer*.
  pub differs : (store : Entries) → not (has_executed x.id (take place p.history)) ≡ true
      → option_eq bytes_eq (command_sent x.id p.events) (Some x.command) ≡ true
      → ((length (take place p.history) == 0) && lacks_open p) ≡ false
      → not (list_all (λ id. has_executed id (take place p.history)) (accepted_before x.id p.events)) ≡ false
      → answer_eq (answer_after (commands_of (take place p.history)) x.command) x.answer ≡ false
      → IsApplied p place x (Some why.Answer) store
  differs store fresh same opens order other = record {
    found = sym (why_skips (has_executed x.id (take place p.history)) Repeat _ (Some why.Answer) (unfails (has_executed x.id (take place p.history)) fresh)
        (why_skips (not (option_eq bytes_eq (command_sent x.id p.events) (Some x.command))) Unsent _ (Some why.Answer)
        (lets (option_eq bytes_eq (command_sent x.id p.events) (Some x.command)) same)
        (why_skips ((length (take place p.history) == 0) && lacks_open p) Open _ (Some why.Answer) opens
        (why_skips (not (list_all (λ id. has_executed id (take place p.history)) (accepted_before x.id p.events))) Order _ (Some why.Answer) order
        (why_is (not (answer_eq (answer_after (commands_of (take place p.history)) x.command) x.answer)) why.Answer None
        (fails (answer_eq (answer_after (commands_of (take place p.history)) x.command) x.answer) other))))));
    applied = λ e. absurd (none-some why.Answer (sym e));
  }

  -- An execution with no fault is applied to the store.
  pub fits : (store : Entries) → not (has_executed x.id (take place p.history)) ≡ true
      → option_eq bytes_eq (command_sent x.id p.events) (Some x.command) ≡ true
      → ((length (take place p.history) == 0) && lacks_open p) ≡ false
      → not (list_all (λ id. has_executed id (take place p.history)) (accepted_before x.id p.events)) ≡ false
      → answer_eq (answer_after (commands_of (take place p.history)) x.command) x.answer ≡ true
      → store ≡ (apply_bytes (store_after (commands_of (take place p.history))) x.command).0
      → IsApplied p place x None store
  fits store fresh same opens order equal left = record {
    found = sym (why_skips (has_executed x.id (take place p.history)) Repeat _ None (unfails (has_executed x.id (take place p.history)) fresh)
        (why_skips (not (option_eq bytes_eq (command_sent x.id p.events) (Some x.command))) Unsent _ None
        (lets (option_eq bytes_eq (command_sent x.id p.events) (Some x.command)) same)
        (why_skips ((length (take place p.history) == 0) && lacks_open p) Open _ None opens
        (why_skips (not (list_all (λ id. has_executed id (take place p.history)) (accepted_before x.id p.events))) Order _ None order
        (why_skips (not (answer_eq (answer_after (commands_of (take place p.history)) x.command) x.answer)) why.Answer None None
        (lets (answer_eq (answer_after (commands_of (take place p.history)) x.command) x.answer) equal) refl)))));
    applied = λ e. left ∙ sym (ap (λ (n : ℕ). store_after (commands_of (take n p.history))) (sym (add-one place))
        ∙ ap (λ (l : List Executed). store_after (commands_of l)) (take_next p.history place x there)
        ∙ ap store_after (map-append (λ (y : Executed). y.command) (take place p.history) (x ∷ []))
        ∙ store_after-push (commands_of (take place p.history)) x.command);
  }

-- ---- in the loop, which counts along a list that is the history

pub found_in : (p : Printed) (H : List Executed) (place i : ℕ) (x : Executed) (reason : Option Why) (store : Entries) → H ≡ p.history → place ≡ i
    → IsApplied p place x reason store → at_why p (take i H) x ≡ reason
found_in p H place i x reason store is same t =
    ap (λ (l : List Executed). at_why p (take i l) x) is ∙ ap (λ (n : ℕ). at_why p (take n p.history) x) (sym same) ∙ sym t.found

pub applied_in : (p : Printed) (H : List Executed) (place i : ℕ) (x : Executed) (reason : Option Why) (store : Entries) → H ≡ p.history → place ≡ i
    → IsApplied p place x reason store → reason ≡ None → store ≡ store_after (commands_of (take (i + 1) H))
applied_in p H place i x reason store is same t none =
    t.applied none
    ∙ ap (λ (n : ℕ). store_after (commands_of (take n p.history))) (sym (add-one place) ∙ ap (λ (n : ℕ). n + 1) same)
    ∙ ap (λ (l : List Executed). store_after (commands_of (take (i + 1) l))) (sym is)
