-- What the function of this folder owes, proved.
use Rattle.std.proofs.Common.{◌≡◌, ◌+◌, ◌<◌, ◌∙◌, length, refl, sym, ap, subst, arith}
use Rattle.std.proofs.lemmas.Option.{slice_get_within}
use Rattle.nz_machine.specs.runs.Schedule.{group_of}
use Rattle.nz_fabric.specs.alone.States.{State, HasNoOpenItem, IsNextItem, records_of, with_taken, with_recorded}
use Rattle.nz_run.specs.Casts.{IsUnderWay}
use Rattle.nz_run.proofs.NextItem.{next_may_happen, under_way_now, none_open_now}
use Rattle.nz_run.proofs.playing.play_next.Goals as goal

pub step-requires : goal.step-requires
step-requires c =
    let f = c.args.alone.now in
    let t = rw c.in-Some.is at c.in_ok-opened.ensures in
    (group_of f.scenario, (records_of f, (c.requires.under_way.is_cast, (next_may_happen f c.in-Some.opened c.show_invariant.ensures c.requires.under_way.world t.2).member)))

pub returns-in-Ok : goal.returns-in-Ok
returns-in-Ok c =
    let f = c.args.alone.now in
    let opened = c.in-Some.opened in
    let sends = c.in-Ok.sends in
    let t = rw c.in-Some.is at c.in_ok-opened.ensures in
    let n : IsNextItem f opened = t.2 in
    let within = slice_get_within f.items (length f.here) _ n.item in
    let closed = c.requires.none_open.closed in
    let same : c.record.new.self ≡ with_recorded opened sends (with_taken f) = c.record.ensures ∙ ap (with_recorded opened sends) t.0 in
    subst (λ (s : State). HasNoOpenItem s
    × (IsUnderWay s c.step.new.self × ((s ≡ record f { here = s.here; next = f.next + 1 }) × (f.next < length f.items)))) (sym same) (
      none_open_now f opened sends c.requires.none_open,
      (
        under_way_now f c.args.cast.now c.step.new.self opened sends c.show_invariant.ensures c.requires.under_way n c.in-Ok.ensures,
        (refl, omega (arith, within, closed)),
      ),
    )
