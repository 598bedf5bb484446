-- What the function of this folder owes, proved.
use Rattle.std.proofs.Common.{◌++◌, ◌∙◌, List, ℕ, take, sym, ap}
use Rattle.std.specs.Prelude.{Some}
use Rattle.std.specs.List.{flat_map}
use Rattle.std.proofs.lemmas.List.{flat_map_more}
use Rattle.nz_machine.specs.declared.event.Record.{Record}
use Rattle.nz_machine.proofs.lists.ListParts.{take_next}
use Rattle.nz_text.specs.Trace.{record_line}
use Rattle.nz_text.proofs.traces.put_records.Goals as goal

pub loop-place-preserved : goal.loop-place-preserved
loop-place-preserved c =
    let rs = c.args.records.now in
    let k = c.loop-place.place in
    let step = c.as_record-in-loop-place.result.now in
    let before = c.args.out.now.items in
    let at = c.get.ensures ∙ ap Some (sym c.as_record-in-loop-place.ensures) in
    c.in_ok-put_record.ensures
    ∙ ap (λ (bytes : List ℕ). bytes ++ record_line step) c.loop-place.invariant
    ∙ flat_map_more record_line before (take k rs) step
    ∙ ap (λ (rs : List Record). before ++ flat_map record_line rs) (sym (take_next rs k step at))
