-- What the function of this folder owes, proved.
use Rattle.std.proofs.Common.{◌≡◌, List, length, IfOk, sym, ap, subst, ◌∙◌}
use Rattle.nz_base.specs.declared.key.Entry.{Entry}
use Rattle.nz_machine.specs.journals.Journals.{run_in, executed_entries}
use Rattle.nz_machine.proofs.runs.Runs.{all_has}
use Rattle.nz_audit.specs.Prefixes.{IsBest, IsBestIfAny, IsWithin, all_traced}
use Rattle.nz_audit.proofs.LongestPrefixes.{first_of_all}
use Rattle.nz_audit.proofs.SearchFinds.{nothing_accepted}
use Rattle.nz_audit.proofs.history.longest_history.Goals as goal

pub returns-in-None : goal.returns-in-None
returns-in-None c =
    let j = c.args.journal.now in
    let all = all_traced j c.args.accepted.items in
    let none = subst (IsBestIfAny j all) c.in-None.is c.in_ok-weigh_in_rounds.ensures.best in
    c.new.ensures ∙ sym (ap executed_entries (nothing_accepted j (run_in j) all c.requires.accepted.history none))

pub execute_prefix-requires-clause-within : goal.execute_prefix-requires-clause-within
execute_prefix-requires-clause-within c =
    let j = c.args.journal.now in
    let all = all_traced j c.args.accepted.items in
    let h : IsBest j all c.in-Some.best = subst (IsBestIfAny j all) c.in-Some.is c.in_ok-weigh_in_rounds.ensures.best in
    all_has (IsWithin j) all c.in-Some.best.answer c.requires.accepted.history.within h.among

pub execute_prefix-requires-clause-counted : goal.execute_prefix-requires-clause-counted
execute_prefix-requires-clause-counted c =
    let j = c.args.journal.now in
    let all = all_traced j c.args.accepted.items in
    let h : IsBest j all c.in-Some.best = subst (IsBestIfAny j all) c.in-Some.is c.in_ok-weigh_in_rounds.ensures.best in
    h.counted

pub returns-in-Some : goal.returns-in-Some
returns-in-Some c =
    let j = c.args.journal.now in
    let b = c.in-Some.best in
    let all = all_traced j c.args.accepted.items in
    let known = c.requires.accepted.history in
    let h : IsBest j all b = subst (IsBestIfAny j all) c.in-Some.is c.in_ok-weigh_in_rounds.ensures.best in
    let whole = known.longest ∙ first_of_all j b (length (run_in j)) all known.places h in
    subst (λ (es : List Entry). IfOk c.execute_prefix.result (λ x. x ≡ executed_entries es)) (sym whole) c.execute_prefix.ensures
