-- What the function of this folder owes, proved.
use Rattle.std.proofs.Common.{◌++◌, ◌∙◌, ◌∷◌, [], ℕ, List, length, refl, sym, ap, subst, arith, append-nil, append_assoc, length-append}
use Rattle.nz_fabric.specs.declared.schedule.calendar.Arrival.{Arrival}
use Rattle.nz_fabric.specs.schedule.Calendars.{items_in}
use Rattle.nz_fabric.specs.schedule.Posting.{days_of, items_arriving, HasRooms}
use Rattle.nz_fabric.proofs.calendars.Dating.{next_room, next_within, left_over, placed_one, rooms_set, set_short, whole_yielded}
use Rattle.nz_fabric.proofs.schedule.calendar.place_all.Goals as goal

pub loop-arrival-init : goal.loop-arrival-init
loop-arrival-init c =
    record {
      whole = c.into_iter-arrival-iterator.ensures.into_iter_gives.0;
      short = c.requires.short;
      rooms = subst (λ (n : ℕ). HasRooms n c.args.days.now.items c.args.arrivals.items) (omega arith) c.requires.room;
      placed = λ t. sym (append-nil (items_in (days_of c.args.days.now.items) t));
    }

pub index_mut-requires : goal.index_mut-requires
index_mut-requires c =
    let i = c.loop-arrival.invariant in
    let whole = ap (λ (rest : List Arrival). c.loop-arrival.yielded ++ rest) (sym c.in-Some.ensures.steps) ∙ i.whole in
    let lt = next_within c.loop-arrival.days.items c.args.arrivals.items c.loop-arrival.yielded c.next.new.self c.in-Some.arrival whole i.rooms in
    omega (arith, lt)

pub push_reserved-requires : goal.push_reserved-requires
push_reserved-requires c =
    let i = c.loop-arrival.invariant in
    let whole = ap (λ (rest : List Arrival). c.loop-arrival.yielded ++ rest) (sym c.in-Some.ensures.steps) ∙ i.whole in
    let r =
    next_room c.loop-arrival.days.items c.args.arrivals.items c.loop-arrival.yielded c.next.new.self
    c.in-Some.arrival c.index_mut.result.now whole i.rooms c.index_mut.ensures.value in
    let lt = r.reserved in
    omega (arith, lt)

pub loop-arrival-preserved : goal.loop-arrival-preserved
loop-arrival-preserved c =
    let i = c.loop-arrival.invariant in
    let a = c.in-Some.arrival in
    let all = c.args.arrivals.items in
    let days = c.loop-arrival.days.items in
    let yielded = c.loop-arrival.yielded in
    let rest = c.next.new.self in
    let old = c.index_mut.result.now in
    let new = c.push_reserved.new.self in
    let whole = ap (λ (rest : List Arrival). yielded ++ rest) (sym c.in-Some.ensures.steps) ∙ i.whole in
    let r = next_room days all yielded rest a old whole i.rooms c.index_mut.ensures.value in
    let long = ap length c.push_reserved.ensures.items in
    let more = length-append old.items (a.item ∷ []) in
    let short = r.short in
    let left = left_over all yielded rest a whole in
    record {
      whole = append_assoc yielded (a ∷ []) rest ∙ whole;
      short = set_short days a.tick new r.within (omega (arith, long, more, short)) i.short;
      rooms =
          rooms_set _ _ days a.tick old new all r.within c.index_mut.ensures.value (omega (arith, left))
          (omega (arith, left, long, more)) (omega (arith, c.push_reserved.ensures.capacity)) i.rooms;
      placed =
          λ t. placed_one days (days_of c.args.days.now.items) yielded a.tick t old new a r.within
          c.index_mut.ensures.value refl c.push_reserved.ensures.items (i.placed t);
    }

pub returns-clause-short : goal.returns-clause-short
returns-clause-short c = c.loop-arrival.invariant.short

pub returns-clause-placed : goal.returns-clause-placed
returns-clause-placed c = λ t.
    let i = c.loop-arrival.invariant in
    i.placed t ∙ ap (λ (xs : List Arrival). items_in (days_of c.args.days.now.items) t ++ items_arriving t xs)
    (whole_yielded c.args.arrivals.items c.loop-arrival.yielded c.loop-arrival.arrival-iterator
    c.in-None.ensures.steps.0 i.whole)
