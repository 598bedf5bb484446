-- What the function of this folder owes, proved.
use Rattle.std.proofs.Common.{◌≡◌, ◌+◌, ◌≤◌, ◌<◌, ◌++◌, ◌∷◌, [], false, length, take, drop, filter, Some, None, if◌then◌else◌, sym, ap, ◌∙◌, arith}
use Rattle.indexmap.specs.IndexMap.{get}
use Rattle.nz_base.specs.declared.key.Id.{Id}
use Rattle.nz_base.specs.declared.key.Entry.{Entry}
use Rattle.nz_base.specs.Key.{id_eq, id_of}
use Rattle.nz_log.specs.Synced.{stays_after}
use Rattle.nz_log.proofs.Indexing.{IsAlong, along_stays, along_gone}
use Rattle.nz_log.proofs.index.keep_above.Goals as goal
use Rattle.nz_log.proofs.index.keep_above.Goals.{then-is_below, else-is_below}

pub loop-place-preserved : goal.loop-place-preserved
loop-place-preserved c =
    let es = c.loop-place.entries in
    let kept = c.loop-place.kept in
    let place = c.loop-place.place in
    let x = c.get.result.now in
    let key = c.args.key in
    let whole = take c.args.from c.args.entries.now ++ filter (stays_after key) (drop c.args.from c.args.entries.now) in
    let long : length es ≡ length c.args.entries.now = c.loop-place.invariant.long in
    let end : c.len-place-end.result ≡ length c.args.entries.now = c.len-place-end.ensures in
    let below : place < c.len-place-end.result = c.loop-place-test.true in
    let down : kept ≤ place = c.loop-place.invariant.down in
    let within : place < length es = omega (arith, long, end, below) in
    let other : id_eq (id_of key) (id_of x.key) ≡ false =
    ap (λ (i : Id). id_eq i (id_of x.key)) (sym c.id.ensures)
    ∙ ap (id_eq c.id.result) (sym c.id-in-loop-place.ensures) ∙ sym c.eq.ensures ∙ c.if-eq.false in
    let along : IsAlong key es kept place (get id_eq c.loop-place.places) whole =
    record { same = c.loop-place.invariant.same; midway = c.loop-place.invariant.midway } in
    elim c.if-is_below.branch [
      | then-is_below w ↦
          let now =
          along_stays key es kept place (get id_eq c.loop-place.places) whole x within c.get.ensures along
          w.move_down.new.self (get id_eq w.set_place.new.places) (omega (arith, down, within)) other
          (sym w.if-is_below.ensures.value)
          (w.move_down.ensures.moved x ∙ ap (λ (y : Entry). take kept es ++ y ∷ []) (sym c.get.ensures)) w.move_down.ensures.above
          (λ i. w.set_place.ensures.value i ∙ ap (λ (j : Id). if id_eq j i then Some kept else get id_eq c.loop-place.places i) w.id-then-is_below.ensures) in
          let all : IsAlong key c.if-is_below.entries c.if-is_below.kept (place + 1) (get id_eq c.if-is_below.places) whole =
          rw (w.entries-is, w.kept-is, w.places-is) now in
          record {
            down = let k = w.kept-is in omega (arith, k, down);
            long = ap length w.entries-is ∙ w.move_down.ensures.len ∙ long;
            same = all.same;
            midway = all.midway;
          }
      | else-is_below w ↦
          let now =
          along_gone key es kept place (get id_eq c.loop-place.places) whole x within c.get.ensures along
          (get id_eq w.drop_place.new.places) other (sym w.if-is_below.ensures.value)
          (λ i. w.drop_place.ensures.value i ∙ ap (λ (j : Id). if id_eq j i then None else get id_eq c.loop-place.places i) w.id-else-is_below.ensures) in
          let all : IsAlong key c.if-is_below.entries c.if-is_below.kept (place + 1) (get id_eq c.if-is_below.places) whole =
          rw (w.entries-is, w.kept-is, w.places-is) now in
          record { down = let k = w.kept-is in omega (arith, k, down); long = ap length w.entries-is ∙ long; same = all.same; midway = all.midway }
    ]
