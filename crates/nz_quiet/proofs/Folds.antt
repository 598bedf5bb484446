-- One tick of a run, as a fold over each actor's own events.
use Rattle.std.proofs.Common.{◌≡◌, ℕ, Bool, cond, List, [], ◌∷◌, ◌++◌, map, refl, sym, ap, ◌∙◌}
use Rattle.std.specs.Prelude.{reverse}
use Rattle.std.proofs.lemmas.Bool.{cond_both}
use Rattle.std.proofs.lemmas.List.{reverse-append, map-append}
use Rattle.nz_base.specs.Actor.{actor_eq}
use Rattle.nz_base.specs.declared.actor.Actor.{Actor}
use Rattle.nz_base.specs.declared.scenario.Scenario.{Scenario}
use Rattle.nz_machine.specs.declared.event.Event.{Event}
use Rattle.nz_machine.specs.declared.event.Record.{Record}
use Rattle.nz_machine.specs.declared.journal.Item.{Item}
use Rattle.nz_machine.specs.rules.State.{State, Group}
use Rattle.nz_machine.specs.rules.Step.{event_step}
use Rattle.nz_machine.specs.runs.World.{state_after}
use Rattle.nz_machine.specs.runs.Schedule.{item_of, due, IsTick}
use Rattle.nz_machine.proofs.runs.Runs.{acts, stays}
use Rattle.nz_quiet.specs.Folds.{events_for, state_from}

pub events_append : (a : Actor) (xs ys : List Item) → events_for a (xs ++ ys) ≡ events_for a xs ++ events_for a ys
events_append a [] ys = refl
events_append a (i ∷ xs) ys =
    let rest = events_append a xs ys in
    cond_both (actor_eq i.actor a) (i.event ∷ events_for a (xs ++ ys)) (events_for a (xs ++ ys))
    (λ (es : List Event). es ≡ cond (actor_eq i.actor a) (i.event ∷ events_for a xs) (events_for a xs) ++ events_for a ys)
    (λ e. ap (λ (es : List Event). i.event ∷ es) rest ∙ ap (λ (b : Bool). cond b (i.event ∷ events_for a xs) (events_for a xs) ++ events_for a ys) (sym e))
    (λ e. rest ∙ ap (λ (b : Bool). cond b (i.event ∷ events_for a xs) (events_for a xs) ++ events_for a ys) (sym e))

pub state_append : (g : Group) (a : Actor) (s : State a) (xs ys : List Event) → state_from g a s (xs ++ ys) ≡ state_from g a (state_from g a s xs) ys
unfolding state_from
state_append g a s [] ys = refl
state_append g a s (e ∷ xs) ys = state_append g a (event_step g a s e).0 xs ys

pub items_of : (r : Record) (now : List Record) → map item_of (reverse (r ∷ now)) ≡ map item_of (reverse now) ++ item_of r ∷ []
items_of r now = ap (map item_of) (reverse-append (r ∷ []) now) ∙ map-append item_of (reverse now) (r ∷ [])

-- the state after some records more
pub after_now : (g : Group) (a : Actor) (now older : List Record)
    → state_after g a (now ++ older) ≡ state_from g a (state_after g a older) (events_for a (map item_of (reverse now)))
unfolding state_from
after_now g a [] older = refl
after_now g a (r ∷ now) older =
    let s = state_after g a older in
    let es = events_for a (map item_of (reverse now)) in
    let ih = after_now g a now older in
    let split : events_for a (map item_of (reverse (r ∷ now))) ≡ es ++ events_for a (item_of r ∷ []) =
    ap (events_for a) (items_of r now) ∙ events_append a (map item_of (reverse now)) (item_of r ∷ []) in
    let whole : state_from g a s (events_for a (map item_of (reverse (r ∷ now)))) ≡ state_from g a (state_from g a s es) (events_for a (item_of r ∷ [])) =
    ap (state_from g a s) split ∙ state_append g a s es (events_for a (item_of r ∷ [])) in
    cond_both (actor_eq r.actor a) (r.event ∷ []) []
    (λ (last : List Event). events_for a (item_of r ∷ []) ≡ last
    → state_after g a (r ∷ (now ++ older)) ≡ state_from g a s (events_for a (map item_of (reverse (r ∷ now)))))
    (λ own is. acts g a r (now ++ older) own ∙ ap (λ (t : State a). (event_step g a t r.event).0) ih
    ∙ sym (whole ∙ ap (state_from g a (state_from g a s es)) is))
    (λ other is. stays g a r (now ++ older) other ∙ ih ∙ sym (whole ∙ ap (state_from g a (state_from g a s es)) is))
    refl

pub tick_state : (s : Scenario) (g : Group) (a : Actor) (t : ℕ) (now older J : List Record) → IsTick s t now older J
    → state_after g a J ≡ state_from g a (state_after g a older) (events_for a (due s t older))
tick_state s g a t now older J tick =
    ap (state_after g a) tick.whole ∙ after_now g a now older ∙ ap (λ (is : List Item). state_from g a (state_after g a older) (events_for a is)) tick.items
