-- What the function of this folder owes, proved.
use Rattle.std.proofs.Common.{◌≡◌, ◌∙◌, List, ◌++◌, sym, ap, append-nil, take, take_all, get_or}
use Rattle.nz_machine.specs.declared.event.Parcel.{Parcel}
use Rattle.nz_story.specs.Fates.{sends_lines}
use Rattle.nz_story.specs.Passes.{counts_of}
use Rattle.nz_story.proofs.Sending.{sent_more, lines_more, lines_done}
use Rattle.nz_story.proofs.fates.put_parcels.Goals as goal

pub loop-parcel-init : goal.loop-parcel-init
loop-parcel-init c = λ earlier is.
    let none = append-nil earlier in
    record {
      counts = is ∙ ap (counts_of c.args.scenario.now.faults) (sym none);
      written = ap (λ (ps : List Parcel). c.args.out.now.items ++ sends_lines c.args.scenario.now c.args.tick ps c.args.sends.now) none;
    }

pub loop-parcel-preserved : goal.loop-parcel-preserved
loop-parcel-preserved c = λ earlier is.
    let h = c.loop-parcel.invariant earlier is in
    let sends = c.args.sends.now in
    let i = c.loop-parcel.parcel-index in
    let p = c.get.result.now in
    let lt = c.loop-parcel-test.true in
    let at : p ≡ get_or sends i p = c.get.ensures ∙ c.parcel-item.is ∙ ap (get_or sends i) (sym c.get.ensures) in
    let before = earlier ++ take i sends in
    record {
      counts = c.in_ok-put_parcel.ensures.counted before h.counts ∙ ap (counts_of c.args.scenario.now.faults) (sent_more earlier sends i p lt at);
      written =
          lines_more c.args.scenario.now c.args.tick earlier sends i p c.loop-parcel.out.items c.put_parcel.new.out.items _ lt at
          (c.in_ok-put_parcel.ensures.written before h.counts) h.written;
    }

pub returns-clause-counted : goal.returns-clause-counted
returns-clause-counted c = λ earlier is.
    (c.loop-parcel.invariant earlier is).counts
    ∙ ap (λ (ps : List Parcel). counts_of c.args.scenario.now.faults (earlier ++ ps)) (take_all c.loop-parcel.parcel-index c.args.sends.now c.loop-parcel-test.false)

pub returns-clause-written : goal.returns-clause-written
returns-clause-written c = λ earlier is.
    lines_done c.args.scenario.now c.args.tick earlier c.args.sends.now c.loop-parcel.parcel-index c.loop-parcel.out.items _
    c.loop-parcel-test.false (c.loop-parcel.invariant earlier is).written
