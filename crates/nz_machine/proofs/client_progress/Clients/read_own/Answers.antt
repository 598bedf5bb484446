-- What the function of this folder owes, proved.
use Rattle.std.proofs.Common.{◌≡◌, ◌<◌, length, ap, ◌∙◌, sym, subst, List, ◌∷◌, set, Some}
use Rattle.std.specs.Prelude.{slice_get}
use Rattle.std.proofs.lemmas.Option.{slice_get-get_or}
use Rattle.std.proofs.lemmas.Result.{IfOk-weaker, on_ok_weaker}
use Rattle.nz_base.specs.declared.scenario.Request.{Request}
use Rattle.nz_machine.specs.runs.Schedule.{group_of}
use Rattle.nz_machine.specs.journals.ClientProgress.{Progress, AreAfter, after_client_record}
use Rattle.nz_machine.proofs.journals.EventsAreRead.{own_events, own_after}
use Rattle.nz_machine.proofs.client_progress.Clients.read_own.Goals as goal

pub returns-clause-events : goal.returns-clause-events
returns-clause-events c =
    let g = group_of c.args.scenario.now in
    let next = c.args.next.now in
    let xs : List Progress = c.self.inside.progress.items in
    let p : Progress = c.index_mut.result.now in
    let there : c.args.client < length xs = subst (λ (x : List Progress). c.args.client < length x) (sym c.self.view_is) c.requires.there in
    let at : slice_get xs c.args.client ≡ Some p = slice_get-get_or xs c.args.client p there ∙ ap Some (sym c.index_mut.ensures.value) in
    IfOk-weaker c.read.result _ _ (λ events is J w h.
    is ∙ ap (λ (script : List Request). (after_client_record c.args.client script p next.event next.sends).0) c.script_at-script.ensures
    ∙ own_events g c.args.client next J xs p w c.requires.actor (subst (λ (x : List Progress). AreAfter g J x) (sym c.self.view_is) h) there at)
    c.read.ensures.events

pub returns-clause-after : goal.returns-clause-after
returns-clause-after c =
    let g = group_of c.args.scenario.now in
    let next = c.args.next.now in
    let xs : List Progress = c.self.inside.progress.items in
    let p : Progress = c.index_mut.result.now in
    let there : c.args.client < length xs = subst (λ (x : List Progress). c.args.client < length x) (sym c.self.view_is) c.requires.there in
    let at : slice_get xs c.args.client ≡ Some p = slice_get-get_or xs c.args.client p there ∙ ap Some (sym c.index_mut.ensures.value) in
    on_ok_weaker c.read.result (λ is J w h.
    subst (λ (x : Progress). AreAfter g (next ∷ J) (set xs c.args.client x))
    (sym (is ∙ ap (λ (script : List Request). (after_client_record c.args.client script p next.event next.sends).1) c.script_at-script.ensures))
    (own_after g c.args.client next J xs p w c.requires.actor (subst (λ (x : List Progress). AreAfter g J x) (sym c.self.view_is) h) there at))
    c.read.ensures.after
