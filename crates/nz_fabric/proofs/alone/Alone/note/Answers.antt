-- What the function of this folder owes, proved.
use Rattle.std.proofs.Common.{◌≡◌, ◌+◌, ◌-◌, ◌∙◌, ℕ, List, take, ap, sym, subst, arith}
use Rattle.std.specs.Prelude.{reverse}
use Rattle.std.proofs.lemmas.Result.{on_ok_weaker}
use Rattle.nz_base.specs.declared.scenario.Scenario.{Scenario}
use Rattle.nz_machine.specs.runs.Schedule.{group_of}
use Rattle.nz_machine.specs.runs.World.{World}
use Rattle.nz_machine.specs.journals.EventNotes.{AreNoted}
use Rattle.nz_machine.specs.declared.event.Record.{Record}
use Rattle.nz_fabric.specs.alone.States.{State, records_of}
use Rattle.nz_fabric.proofs.one_thread.Held.{all_records}
use Rattle.nz_fabric.proofs.alone.Alone.note.Goals as goal

pub returns : goal.returns
returns c =
    let f = c.self.inside in
    let s = c.args.self.now in
    let rest = c.self.invariant.1 in
    let all : reverse f.run ≡ records_of s = sym (all_records f.before f.run) ∙ ap records_of c.self.view_is in
    let place : f.gone + (f.before - f.gone) ≡ f.before = (let le = rest.finished in omega (arith, le)) in
    let finished : reverse (take (f.gone + (f.before - f.gone)) f.run) ≡ s.finished =
    ap (λ (n : ℕ). reverse (take n f.run)) place ∙ ap (λ (s : State). s.finished) c.self.view_is in
    let own : f.ticks.scenario ≡ s.scenario = ap (λ (s : State). s.scenario) c.self.view_is in
    let g = group_of f.ticks.scenario in
    on_ok_weaker c.read.result (λ e world noted.
    subst (λ (t : Scenario). AreNoted (group_of t) (records_of s) c.read.new.self) own
    (subst (λ (J : List Record). AreNoted g J c.read.new.self) all
    (e f.run (subst (World g) (sym all) (subst (λ (t : Scenario). World (group_of t) (records_of s)) (sym own) world)) rest.rest
    (subst (λ (J : List Record). AreNoted g J c.args.notes.now) (sym finished)
    (subst (λ (t : Scenario). AreNoted (group_of t) s.finished c.args.notes.now) (sym own) noted)))))
    c.read.ensures
