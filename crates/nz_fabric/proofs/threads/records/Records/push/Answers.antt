-- What the function of this folder owes, proved.
use Rattle.std.proofs.Common.{◌≡◌, ◌+◌, ◌∷◌, ◌++◌, [], ◌∙◌, List, length, sym, ap, subst, arith}
use Rattle.std.specs.Prelude.{reverse, slice_set, MatchBool}
use Rattle.std.proofs.lemmas.List.{length-reverse, reverse-append}
use Rattle.nz_base.proofs.Booleans.{length-filter_le}
use mathlib.Core.List.{IsPrefix}
use Rattle.nz_base.specs.Actor.{actor_eq}
use Rattle.nz_machine.specs.declared.event.Record.{Record}
use Rattle.nz_machine.specs.runs.Schedule.{group_of}
use Rattle.nz_machine.specs.runs.Steps.{AreSteps, of_actor}
use Rattle.nz_fabric.specs.threads.Records.{steps_of, with_step, ActorSteps, AreCounts}
use Rattle.nz_fabric.specs.threads.Steps.{sends_after}
use Rattle.nz_fabric.proofs.several_threads.Counting.{count_is, all_seen, own_pushed, counts_pushed, steps_pushed}
use Rattle.nz_fabric.proofs.threads.records.Records.push.Goals as goal

pub overflow_add-more : goal.overflow_add-more
overflow_add-more g c =
    let f = c.self.inside in
    let J : List Record = reverse f.records.records in
    let a = c.args.step.actor in
    let read = count_is J f.counts.items a c.place_of-place.result c.index-count.result.now c.self.invariant.1 c.place_of-place.ensures.number
    c.place_of-place.ensures.within c.index-count.ensures in
    let most = length-filter_le (λ (r : Record). actor_eq r.actor a) J in
    omega (arith, read, most, length-reverse f.records.records, c.requires.few, ap (λ (x : _). length x.records) c.self.view_is)

pub invariant_of-self-2 : goal.invariant_of-self-2
invariant_of-self-2 g c =
    let f = c.self.inside in
    let step = c.args.step in
    let inv = c.self.invariant in
    let J : List Record = reverse f.records.records in
    let grown =
    subst (λ b. MatchBool b ((c.append.new.seen ≡ f.seen ++ step ∷ []) × IsPrefix c.lane.inside.seen f.seen) (c.append.new.seen ≡ f.seen))
    c.if-not-append.false c.append.ensures in
    let read = count_is J f.counts.items step.actor c.place_of-place.result c.index-count.result.now inv.1 c.place_of-place.ensures.number
    c.place_of-place.ensures.within c.index-count.ensures in
    let seen = all_seen f.records.records c.lane.inside.seen c.lane.inside.actor step.actor (subst (IsPrefix c.lane.inside.seen) inv.0 grown.1)
    (c.requires.own ∙ sym (ap (λ (own : ActorSteps). own.actor) c.lane.view_is)) (sym c.lane.invariant ∙ c.if-lane-count.false ∙ read) in
    let own : c.args.lane.now ≡ steps_of step.actor J = sym c.lane.view_is ∙ seen in
    let turned : reverse (f.records.records ++ step ∷ []) ≡ step ∷ J = reverse-append f.records.records (step ∷ []) in
    let G = group_of g.N.RunName.scenario in
    rw (c.push_reserved.ensures.records) (
      grown.0 ∙ ap (λ (rs : List Record). rs ++ step ∷ []) inv.0,
      subst (λ (K : List Record). AreCounts K (slice_set f.counts.items c.place_of-place.result (c.index-count.result.now + 1))) (sym turned)
          (counts_pushed J f.counts.items c.place_of-place.result (c.index-count.result.now + 1) step inv.1 c.place_of-place.ensures.number
          c.place_of-place.ensures.within (omega (arith, read))),
      subst (AreSteps G) (sym turned) (steps_pushed G J step inv.2 (c.requires.sent ∙ ap (λ (x : ActorSteps). sends_after G x step.event) own)),
    )

pub invariant_of-lane : goal.invariant_of-lane
invariant_of-lane g c =
    let f = c.self.inside in
    let step = c.args.step in
    let inv = c.self.invariant in
    let J : List Record = reverse f.records.records in
    let a = c.lane.inside.actor in
    let grown =
    subst (λ b. MatchBool b ((c.append.new.seen ≡ f.seen ++ step ∷ []) × IsPrefix c.lane.inside.seen f.seen) (c.append.new.seen ≡ f.seen))
    c.if-not-append.false c.append.ensures in
    let read = count_is J f.counts.items step.actor c.place_of-place.result c.index-count.result.now inv.1 c.place_of-place.ensures.number
    c.place_of-place.ensures.within c.index-count.ensures in
    let same : step.actor ≡ a = c.requires.own ∙ sym (ap (λ (own : ActorSteps). own.actor) c.lane.view_is) in
    let now : of_actor a (reverse c.again.result) ≡ step ∷ of_actor a J =
    ap (λ (rs : List Record). of_actor a (reverse rs)) (c.again.ensures ∙ grown.0 ∙ ap (λ (rs : List Record). rs ++ step ∷ []) inv.0)
    ∙ own_pushed f.records.records step a same in
    omega (arith, ap length now, read, ap (λ (x : _). length (of_actor x J)) same)

pub returns-clause-pushed : goal.returns-clause-pushed
returns-clause-pushed g c =
    let f = c.self.inside in
    let step = c.args.step in
    let inv = c.self.invariant in
    let J : List Record = reverse f.records.records in
    let a = c.lane.inside.actor in
    let grown =
    subst (λ b. MatchBool b ((c.append.new.seen ≡ f.seen ++ step ∷ []) × IsPrefix c.lane.inside.seen f.seen) (c.append.new.seen ≡ f.seen))
    c.if-not-append.false c.append.ensures in
    let read = count_is J f.counts.items step.actor c.place_of-place.result c.index-count.result.now inv.1 c.place_of-place.ensures.number
    c.place_of-place.ensures.within c.index-count.ensures in
    let same : step.actor ≡ a = c.requires.own ∙ sym (ap (λ (own : ActorSteps). own.actor) c.lane.view_is) in
    let seen = all_seen f.records.records c.lane.inside.seen a step.actor (subst (IsPrefix c.lane.inside.seen) inv.0 grown.1) same
    (sym c.lane.invariant ∙ c.if-lane-count.false ∙ read) in
    let now : of_actor a (reverse c.again.result) ≡ step ∷ of_actor a J =
    ap (λ (rs : List Record). of_actor a (reverse rs)) (c.again.ensures ∙ grown.0 ∙ ap (λ (rs : List Record). rs ++ step ∷ []) inv.0)
    ∙ own_pushed f.records.records step a same in
    let records : f.records.records ≡ c.args.self.now.records = ap (λ (x : _). x.records) c.self.view_is in
    let all : of_actor a (reverse c.lane.inside.seen) ≡ of_actor a J =
    ap (λ (x : ActorSteps). x.steps) seen ∙ ap (λ (x : _). of_actor x J) same in (
      c.push_reserved.ensures.records ∙ ap (λ (rs : List Record). rs ++ step ∷ []) records,
      (
        sym c.lane.view_is ∙ seen ∙ ap (λ (rs : List Record). steps_of step.actor (reverse rs)) records,
        ap (λ (own : List Record). let s : ActorSteps = record { actor = a; steps = own } in s)
            (now ∙ ap (λ (own : List Record). step ∷ own) (sym all)) ∙ ap (with_step step) c.lane.view_is,
      ),
    )
