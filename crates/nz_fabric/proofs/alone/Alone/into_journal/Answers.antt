-- What the function of this folder owes, proved.
use Rattle.std.proofs.Common.{◌≡◌, ◌∙◌, ℕ, List, drop, sym, ap, subst, arith}
use Rattle.std.specs.Prelude.{reverse}
use Rattle.nz_machine.specs.runs.Schedule.{InOrder}
use Rattle.nz_machine.specs.declared.event.Record.{Record}
use Rattle.nz_fabric.specs.alone.States.{IsKeptRun, records_of}
use Rattle.nz_fabric.proofs.one_thread.Held.{all_records, in_order_over}
use Rattle.nz_fabric.proofs.alone.Alone.into_journal.Goals as goal

pub returns-clause-records : goal.returns-clause-records
returns-clause-records c =
    let f = c.self.inside in
    let none : f.gone ≡ 0 = (let le = c.if-gone-gt0.false in omega (arith, le)) in
    ap reverse (c.into_list.ensures ∙ c.self.invariant.1.rest ∙ ap (λ (n : ℕ). drop n f.run) none)
    ∙ sym (all_records f.before f.run) ∙ ap records_of c.self.view_is

pub returns-clause-in_order : goal.returns-clause-in_order
returns-clause-in_order c =
    let f = c.args.self in
    subst (λ (J : List Record). InOrder f.scenario J) (sym (returns-clause-records c))
    (in_order_over f (subst IsKeptRun c.self.view_is c.self.invariant.0.kept) c.requires.done c.requires.last)
