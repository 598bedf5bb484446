-- What the function of this folder owes, proved.
use Rattle.std.proofs.Common.{◌≡◌, ℕ, true, false, List, Option, Some, sym, ap, ◌∙◌}
use Rattle.std.specs.Prelude.{nat_eq}
use Rattle.std.specs.Option.{option_eq}
use Rattle.indexmap.specs.IndexMap.{get}
use Rattle.nz_base.specs.Key.{id_eq}
use Rattle.nz_store.specs.Entries.{Entries}
use Rattle.nz_store.specs.Sequence.{apply_bytes}
use Rattle.nz_machine.specs.rules.Quorums.{answer_eq}
use Rattle.nz_machine.specs.declared.client_event.ClientEvent.{ClientEvent}
use Rattle.nz_check.specs.Noting.{is_sent_at}
use Rattle.nz_check.proofs.Applied.{first_test, sent_test, unsent_test, reach_test, open_test, below_is, above_is}
use Rattle.nz_check.proofs.Applied.{repeats, is_unsent, lacks_lines, is_early, differs, fits}
use Rattle.nz_check.proofs.entries.take.Goals as goal

sent_is_same : (E F : List ClientEvent) (command bytes : List ℕ) (place : ℕ) → F ≡ E → bytes ≡ command
    → is_sent_at E place command ≡ is_sent_at F place bytes
sent_is_same E F command bytes place same spelled =
    ap (λ (l : List ClientEvent). is_sent_at l place command) (sym same) ∙ ap (is_sent_at F place) (sym spelled)

pub returns-then-not-is_first : goal.returns-then-not-is_first
returns-then-not-is_first c = repeats c.args.printed.now c.args.place c.args.entry.now c.requires.entry c.args.store.now
    (first_test c.args.printed.now c.args.place c.args.entry.now c.requires.entry (get id_eq c.args.places.now) false c.requires.places
    (ap (λ (o : Option ℕ). option_eq nat_eq o (Some c.args.place)) (sym c.place_of.ensures) ∙ sym c.eq-is_first.ensures ∙ c.if-not-is_first.true))

pub returns-in_default : goal.returns-in_default
returns-in_default c = is_unsent c.args.printed.now c.args.place c.args.entry.now c.requires.entry c.args.store.now
    (first_test c.args.printed.now c.args.place c.args.entry.now c.requires.entry (get id_eq c.args.places.now) true c.requires.places
    (ap (λ (o : Option ℕ). option_eq nat_eq o (Some c.args.place)) (sym c.place_of.ensures) ∙ sym c.eq-is_first.ensures ∙ c.if-not-is_first.false))
    (unsent_test c.args.printed.now c.args.place c.args.entry.now c.requires.entry c.args.noted.now c.requires.noted c.in_default.ensures)

pub returns-then-not-sends_command : goal.returns-then-not-sends_command
returns-then-not-sends_command c = is_unsent c.args.printed.now c.args.place c.args.entry.now c.requires.entry c.args.store.now
    (first_test c.args.printed.now c.args.place c.args.entry.now c.requires.entry (get id_eq c.args.places.now) true c.requires.places
    (ap (λ (o : Option ℕ). option_eq nat_eq o (Some c.args.place)) (sym c.place_of.ensures) ∙ sym c.eq-is_first.ensures ∙ c.if-not-is_first.false))
    (sym (sent_test c.args.printed.now c.args.place c.args.entry.now c.requires.entry c.args.noted.now c.in-Some.sent c.requires.noted c.in-Some.ensures)
    ∙ sent_is_same c.args.printed.now.events c.as_slice.result.now c.args.entry.now.command c.as_slice-2.result.now c.in-Some.sent.place
    c.as_slice.ensures c.as_slice-2.ensures
    ∙ sym c.sends_command.ensures ∙ c.if-not-sends_command.true)

pub returns-then-lacks_above : goal.returns-then-lacks_above
returns-then-lacks_above c = lacks_lines c.args.printed.now c.args.place c.args.entry.now c.requires.entry c.args.store.now
    (first_test c.args.printed.now c.args.place c.args.entry.now c.requires.entry (get id_eq c.args.places.now) true c.requires.places
    (ap (λ (o : Option ℕ). option_eq nat_eq o (Some c.args.place)) (sym c.place_of.ensures) ∙ sym c.eq-is_first.ensures ∙ c.if-not-is_first.false))
    (sym (sent_test c.args.printed.now c.args.place c.args.entry.now c.requires.entry c.args.noted.now c.in-Some.sent c.requires.noted c.in-Some.ensures)
    ∙ sent_is_same c.args.printed.now.events c.as_slice.result.now c.args.entry.now.command c.as_slice-2.result.now c.in-Some.sent.place
    c.as_slice.ensures c.as_slice-2.ensures
    ∙ sym c.sends_command.ensures ∙ c.if-not-sends_command.false)
    (sym (open_test c.args.printed.now c.args.place c.args.entry.now c.requires.entry c.args.lacks c.requires.lacks) ∙ sym c.lacks_above.ensures ∙ c.if-lacks_above.true)

pub returns-then-place-sent : goal.returns-then-place-sent
returns-then-place-sent c = is_early c.args.printed.now c.args.place c.args.entry.now c.requires.entry c.args.store.now
    (first_test c.args.printed.now c.args.place c.args.entry.now c.requires.entry (get id_eq c.args.places.now) true c.requires.places
    (ap (λ (o : Option ℕ). option_eq nat_eq o (Some c.args.place)) (sym c.place_of.ensures) ∙ sym c.eq-is_first.ensures ∙ c.if-not-is_first.false))
    (sym (sent_test c.args.printed.now c.args.place c.args.entry.now c.requires.entry c.args.noted.now c.in-Some.sent c.requires.noted c.in-Some.ensures)
    ∙ sent_is_same c.args.printed.now.events c.as_slice.result.now c.args.entry.now.command c.as_slice-2.result.now c.in-Some.sent.place
    c.as_slice.ensures c.as_slice-2.ensures
    ∙ sym c.sends_command.ensures ∙ c.if-not-sends_command.false)
    (sym (open_test c.args.printed.now c.args.place c.args.entry.now c.requires.entry c.args.lacks c.requires.lacks) ∙ sym c.lacks_above.ensures ∙ c.if-lacks_above.false)
    (sym (reach_test c.args.printed.now c.args.place c.args.entry.now c.requires.entry c.args.noted.now c.in-Some.sent c.requires.noted c.in-Some.ensures) ∙ below_is c.args.place c.in-Some.sent.reach c.if-place-sent.true)

pub returns-then-not-same : goal.returns-then-not-same
returns-then-not-same c = differs c.args.printed.now c.args.place c.args.entry.now c.requires.entry c.answers.new.store
    (first_test c.args.printed.now c.args.place c.args.entry.now c.requires.entry (get id_eq c.args.places.now) true c.requires.places
    (ap (λ (o : Option ℕ). option_eq nat_eq o (Some c.args.place)) (sym c.place_of.ensures) ∙ sym c.eq-is_first.ensures ∙ c.if-not-is_first.false))
    (sym (sent_test c.args.printed.now c.args.place c.args.entry.now c.requires.entry c.args.noted.now c.in-Some.sent c.requires.noted c.in-Some.ensures)
    ∙ sent_is_same c.args.printed.now.events c.as_slice.result.now c.args.entry.now.command c.as_slice-2.result.now c.in-Some.sent.place
    c.as_slice.ensures c.as_slice-2.ensures
    ∙ sym c.sends_command.ensures ∙ c.if-not-sends_command.false)
    (sym (open_test c.args.printed.now c.args.place c.args.entry.now c.requires.entry c.args.lacks c.requires.lacks) ∙ sym c.lacks_above.ensures ∙ c.if-lacks_above.false)
    (sym (reach_test c.args.printed.now c.args.place c.args.entry.now c.requires.entry c.args.noted.now c.in-Some.sent c.requires.noted c.in-Some.ensures) ∙ above_is c.args.place c.in-Some.sent.reach c.if-place-sent.false)
    (ap (λ (s : Entries). answer_eq (apply_bytes s c.args.entry.now.command).1 c.args.entry.now.answer) (sym c.requires.store)
    ∙ sym c.in_ok-same.ensures.same ∙ c.if-not-same.true)

pub returns : goal.returns
returns c = fits c.args.printed.now c.args.place c.args.entry.now c.requires.entry c.answers.new.store
    (first_test c.args.printed.now c.args.place c.args.entry.now c.requires.entry (get id_eq c.args.places.now) true c.requires.places
    (ap (λ (o : Option ℕ). option_eq nat_eq o (Some c.args.place)) (sym c.place_of.ensures) ∙ sym c.eq-is_first.ensures ∙ c.if-not-is_first.false))
    (sym (sent_test c.args.printed.now c.args.place c.args.entry.now c.requires.entry c.args.noted.now c.in-Some.sent c.requires.noted c.in-Some.ensures)
    ∙ sent_is_same c.args.printed.now.events c.as_slice.result.now c.args.entry.now.command c.as_slice-2.result.now c.in-Some.sent.place
    c.as_slice.ensures c.as_slice-2.ensures
    ∙ sym c.sends_command.ensures ∙ c.if-not-sends_command.false)
    (sym (open_test c.args.printed.now c.args.place c.args.entry.now c.requires.entry c.args.lacks c.requires.lacks) ∙ sym c.lacks_above.ensures ∙ c.if-lacks_above.false)
    (sym (reach_test c.args.printed.now c.args.place c.args.entry.now c.requires.entry c.args.noted.now c.in-Some.sent c.requires.noted c.in-Some.ensures) ∙ above_is c.args.place c.in-Some.sent.reach c.if-place-sent.false)
    (ap (λ (s : Entries). answer_eq (apply_bytes s c.args.entry.now.command).1 c.args.entry.now.answer) (sym c.requires.store)
    ∙ sym c.in_ok-same.ensures.same ∙ c.if-not-same.false)
    (c.in_ok-same.ensures.store ∙ ap (λ (s : Entries). (apply_bytes s c.args.entry.now.command).0) c.requires.store)
