-- The state that an actor's own records lead it to.
use Rattle.std.proofs.Common.{◌≡◌, List, [], ◌∷◌, refl, sym, ap, ◌∙◌}
use Rattle.std.proofs.lemmas.Bool.{cond_both}
use Rattle.nz_base.specs.Actor.{actor_eq}
use Rattle.nz_base.specs.declared.actor.Actor.{Actor}
use Rattle.nz_machine.specs.declared.event.Record.{Record}
use Rattle.nz_machine.specs.rules.State.{Group}
use Rattle.nz_machine.specs.rules.Step.{event_step}
use Rattle.nz_machine.specs.runs.Steps.{of_actor}
use Rattle.nz_machine.specs.runs.World.{state_after}
use Rattle.nz_machine.proofs.runs.Runs.{acts, stays}

-- an actor has the state that its own records lead it to
pub own_state : (g : Group) (a : Actor) (J : List Record) → state_after g a (of_actor a J) ≡ state_after g a J
own_state g a [] = refl
own_state g a (r ∷ J) =
    let own = of_actor a J in
    let ih = own_state g a J in
    cond_both (actor_eq r.actor a) (r ∷ own) own (λ (L : List Record). state_after g a L ≡ state_after g a (r ∷ J))
    (λ e. acts g a r own e ∙ ap (λ (s : _). (event_step g a s r.event).0) ih ∙ sym (acts g a r J e))
    (λ e. ih ∙ sym (stays g a r J e))
