-- In every run what a record sends shows its sender before and after.
use Rattle.std.proofs.Common.{List, ◌∷◌, refl, sym, subst}
use Rattle.nz_base.specs.declared.actor.Actor.{Actor}
use Rattle.nz_base.specs.declared.actor.Actor.TheVariants.{Replica, Proxy, Client}
use Rattle.nz_machine.specs.declared.event.Record.{Record}
use Rattle.nz_machine.specs.rules.State.{State, Group, Out}
use Rattle.nz_machine.specs.rules.Step.{event_step}
use Rattle.nz_machine.specs.runs.World.{state_after, Has, IsGroup, World}
use Rattle.nz_machine.specs.runs.Hearing.{heard_at}
use Rattle.nz_machine.specs.runs.Shows.{Shows}
use Rattle.nz_machine.proofs.runs.Runs.{acts_itself, all_has, group_of}
use Rattle.nz_machine.proofs.shows.Snapshots.{MayShow, has_answers, event_shows}
use Rattle.nz_machine.proofs.runs.FitRuns.{FitsState, all_fit}

pub may_show : (g : Group) (a : Actor) (s : State a) → IsGroup g → FitsState g a s → MayShow g a s
may_show g (Replica r) s group h = has_answers g.f r s h
may_show g (Proxy p) s group h = tt
may_show g (Client c) s group h = group.least_proxies

-- each message that a record sends shows the states before and after
pub shown : (g : Group) (r : Record) (J : List Record) (o : Out) → World g (r ∷ J) → Has (event_step g r.actor (state_after g r.actor J) r.event).1 o
    → Shows g r.actor (heard_at g r.actor r.event) (state_after g r.actor J) (state_after g r.actor (r ∷ J)) o.0 o.1
shown g r J o w among =
    let before = state_after g r.actor J in
    let step = event_step g r.actor before r.event in
    let heard = heard_at g r.actor r.event in
    let may = may_show g r.actor before (group_of g J w.1) ((all_fit g J w.1).states r.actor) in
    subst (λ (s : State r.actor). Shows g r.actor heard before s o.0 o.1) (sym (acts_itself g r.actor r J refl))
    (all_has (λ (x : Out). Shows g r.actor heard before step.0 x.0 x.1) step.1 o (event_shows g r.actor before r.event may).shows among)
