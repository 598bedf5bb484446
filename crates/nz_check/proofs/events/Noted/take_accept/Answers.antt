-- What the function of this folder owes, proved.
use Rattle.std.proofs.Common.{ℕ, ◌+◌, max, List, Some, sym, ap, ◌∙◌, arith, add-one}
use Rattle.std.specs.Prelude.{slice_get}
use Rattle.std.specs.Option.{option_eq, option_map}
use Rattle.nz_machine.specs.declared.journal.Executed.{Executed}
use Rattle.nz_machine.specs.rules.Quorums.{answer_eq}
use Rattle.nz_check.proofs.Taking.{accept_unsent, accept_repeats, accept_missing, accept_differs, accept_fits, place_is_within}
use Rattle.nz_check.proofs.events.Noted.take_accept.Goals as goal

pub returns-in_default : goal.returns-in_default
returns-in_default c = λ above path h. accept_unsent c.args.printed.now above c.args.id c.args.answer.now path c.args.self.now c.args.self.now h c.in_default.ensures

pub returns-then-sent : goal.returns-then-sent
returns-then-sent c = λ above path h.
    accept_repeats c.args.printed.now above c.args.id c.args.answer.now path c.in-Some.sent c.args.self.now c.args.self.now h c.in-Some.ensures c.if-sent.true

pub returns-in_default-place_of : goal.returns-in_default-place_of
returns-in_default-place_of c = λ above path h.
    accept_missing c.args.printed.now above c.args.id c.args.answer.now path c.in-Some.sent c.args.self.now c.args.self.now h c.in-Some.ensures c.if-sent.false
    (sym (c.requires.places c.args.id) ∙ sym c.in_default-place_of.ensures)

pub returns-then-not-has_answer : goal.returns-then-not-has_answer
returns-then-not-has_answer c = λ above path h.
    accept_differs c.args.printed.now above c.args.id c.args.answer.now path c.in-Some.sent c.in-Some-place_of.place c.args.self.now c.args.self.now h c.in-Some.ensures c.if-sent.false
    (sym (c.requires.places c.args.id) ∙ sym c.in-Some-place_of.ensures)
    (ap (λ (H : List Executed). option_eq answer_eq (option_map (λ (x : Executed). x.answer) (slice_get H c.in-Some-place_of.place)) (Some c.args.answer.now))
    (sym c.as_slice.ensures) ∙ sym c.has_answer.ensures ∙ c.if-not-has_answer.true)

pub overflow_add-place : goal.overflow_add-place
overflow_add-place c =
    let low = place_is_within c.args.printed.now c.args.id c.in-Some-place_of.place (sym (c.requires.places c.args.id) ∙ sym c.in-Some-place_of.ensures) in
    let few = c.requires.few in
    omega (arith, low, few)

pub returns : goal.returns
returns c = λ above path h.
    accept_fits c.args.printed.now above c.args.id c.args.answer.now path c.in-Some.sent c.in-Some-place_of.place c.args.self.now
    (record { sent = c.note.new.self.sent; reach = c.max-self.result }) h c.in-Some.ensures c.if-sent.false
    (sym (c.requires.places c.args.id) ∙ sym c.in-Some-place_of.ensures)
    (ap (λ (H : List Executed). option_eq answer_eq (option_map (λ (x : Executed). x.answer) (slice_get H c.in-Some-place_of.place)) (Some c.args.answer.now))
    (sym c.as_slice.ensures) ∙ sym c.has_answer.ensures ∙ c.if-not-has_answer.false)
    c.in_ok-note.ensures.each
    (c.max-self.ensures ∙ ap (λ (n : ℕ). max n (c.in-Some-place_of.place + 1)) c.note.ensures.reach
    ∙ ap (max c.args.self.now.reach) (add-one c.in-Some-place_of.place))
