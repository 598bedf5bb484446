-- What the function of this folder owes, proved.
use Rattle.std.proofs.Common.{◌≡◌, ◌<◌, ℕ, List, length, sym, ap, subst, ◌∙◌, arith, Option}
use Rattle.std.specs.Prelude.{IfSome}
use Rattle.std.proofs.lemmas.Bool.{eqb-true, eqb-false}
use Rattle.nz_lane.specs.declared.item.ItemRefusal.TheVariants.{Cut}
use Rattle.nz_lane.specs.Reading.{wanted}
use Rattle.nz_lane.specs.Streams.{Held, ahead}
use Rattle.nz_lane.specs.Stops.{IsSettledBy}
use Rattle.nz_lane.proofs.Held.{Refuses, taken_by, at_end, cut_ahead, taken_wanted, taken_item, taken_size, taken_ahead, taken_refusal}
use Rattle.nz_lane.proofs.lane_reader.LaneReader.next.Goals as goal

pub returns-then-is_empty-clause-end : goal.returns-then-is_empty-clause-end
returns-then-is_empty-clause-end g c = λ none.
    let left = g.S.Source.left c.fill.new.source in
    let none_held = eqb-true (length c.self.inside.held.items) 0 (sym c.is_empty.ensures ∙ c.if-is_empty.true) in
    at_end c.fill.new.self left (ap (λ (h : Held). length h.bytes) (sym c.self.view_is) ∙ none_held) c.in_ok-fill.ensures.whole

pub returns-then-len-size-clause-refused : goal.returns-then-len-size-clause-refused
returns-then-len-size-clause-refused g c =
    let left = g.S.Source.left c.fill.new.source in
    let bytes = c.self.inside.held.items in
    let size : c.wanted-size.result ≡ wanted bytes = c.wanted-size.ensures.value ∙ ap wanted c.as_slice.ensures in
    let settled = subst (λ (h : Held). IsSettledBy h left) (sym c.self.view_is) c.in_ok-fill.ensures.whole in
    let some : 0 < length bytes = omega (arith, eqb-false (length bytes) 0 (sym c.is_empty.ensures ∙ c.if-is_empty.false)) in
    let few : length bytes < wanted bytes = omega (arith, c.if-len-size.true, c.len.ensures.value, size) in (
      ap (λ (h : Held). h.place) c.self.view_is ∙ c.in_ok-fill.ensures.place,
      subst (λ (o : Option (List ℕ)). IfSome o (Refuses Cut)) (sym (c.in_ok-fill.ensures.ahead ∙ ap (λ (h : Held). ahead h left) (sym c.self.view_is)))
          (cut_ahead (record { bytes = bytes; place = c.self.inside.place }) left some few settled),
    )

pub item_of-requires : goal.item_of-requires
item_of-requires g c =
    let bytes = c.self.inside.held.items in
    let taken = taken_by bytes c.in_ok-own.own _ c.wanted-size.result _ c.as_slice.ensures c.wanted-size.ensures.value c.wanted-size.ensures.bytes
    c.len.ensures.value c.if-len-size.false c.in_ok-own.ensures.front in
    omega (arith, taken_wanted bytes c.in_ok-own.own c.wanted-size.result taken)

pub returns-in-Ok-clause-valid : goal.returns-in-Ok-clause-valid
returns-in-Ok-clause-valid g c =
    let bytes = c.self.inside.held.items in
    let taken = taken_by bytes c.in_ok-own.own _ c.wanted-size.result _ c.as_slice.ensures c.wanted-size.ensures.value c.wanted-size.ensures.bytes
    c.len.ensures.value c.if-len-size.false c.in_ok-own.ensures.front in
    (taken_item bytes c.in_ok-own.own c.wanted-size.result c.in-Ok.item taken (sym c.in-Ok.ensures)).valid

pub returns-in-Ok-clause-taken : goal.returns-in-Ok-clause-taken
returns-in-Ok-clause-taken g c =
    let left = g.S.Source.left c.fill.new.source in
    let bytes = c.self.inside.held.items in
    let taken = taken_by bytes c.in_ok-own.own _ c.wanted-size.result _ c.as_slice.ensures c.wanted-size.ensures.value c.wanted-size.ensures.bytes
    c.len.ensures.value c.if-len-size.false c.in_ok-own.ensures.front in
    c.in_ok-fill.ensures.ahead ∙ ap (λ (h : Held). ahead h left) (sym c.self.view_is)
    ∙ taken_ahead bytes c.in_ok-own.own c.freeze_to.new.self.items c.wanted-size.result c.in-Ok.item c.self.inside.place c.saturating_add-self-inside.result left
    taken (sym c.in-Ok.ensures) c.in_ok-own.ensures.rest.0

pub returns-in-Ok-clause-place : goal.returns-in-Ok-clause-place
returns-in-Ok-clause-place g c =
    let bytes = c.self.inside.held.items in
    let taken = taken_by bytes c.in_ok-own.own _ c.wanted-size.result _ c.as_slice.ensures c.wanted-size.ensures.value c.wanted-size.ensures.bytes
    c.len.ensures.value c.if-len-size.false c.in_ok-own.ensures.front in
    let size = taken_size bytes c.in_ok-own.own c.wanted-size.result c.in-Ok.item taken (sym c.in-Ok.ensures) in
    let place = ap (λ (h : Held). h.place) c.self.view_is ∙ c.in_ok-fill.ensures.place in
    omega (arith, c.saturating_add-self-inside.ensures, size, place)

pub returns-in-Err-clause-refused : goal.returns-in-Err-clause-refused
returns-in-Err-clause-refused g c =
    let left = g.S.Source.left c.fill.new.source in
    let bytes = c.self.inside.held.items in
    let taken = taken_by bytes c.in_ok-own.own _ c.wanted-size.result _ c.as_slice.ensures c.wanted-size.ensures.value c.wanted-size.ensures.bytes
    c.len.ensures.value c.if-len-size.false c.in_ok-own.ensures.front in (
      ap (λ (h : Held). h.place) c.self.view_is ∙ c.in_ok-fill.ensures.place,
      subst (λ (o : Option (List ℕ)). IfSome o (Refuses c.in-Err.why)) (sym (c.in_ok-fill.ensures.ahead ∙ ap (λ (h : Held). ahead h left) (sym c.self.view_is)))
          (taken_refusal bytes c.in_ok-own.own c.wanted-size.result c.self.inside.place c.in-Err.why left taken (sym c.in-Err.ensures)),
    )
