-- What the function of this folder owes, proved.
use Rattle.std.proofs.Common.{[], sym, ap, ◌∙◌, arith}
use Rattle.std.proofs.lemmas.Bool.{le-ltb}
use Rattle.nz_base.specs.Cluster.{replica_count}
use Rattle.nz_machine.specs.journals.Journals.{group_in, run_in}
use Rattle.nz_observe.specs.Observed.{Printed}
use Rattle.nz_observe.proofs.Printing.{nothing_of_others}
use Rattle.nz_observe.proofs.observing.observe.Goals as goal

pub returns-then-number-n : goal.returns-then-number-n
returns-then-number-n c =
    let j = c.args.journal.now in
    let g = group_in j in
    let m = c.args.number in
    let key = c.args.key.now in
    c.into_blob.ensures g m key 0 [] (c.new.ensures g m key)
    ∙ ap (λ (p : Printed). p.bytes)
    (sym (nothing_of_others g m key (run_in j) j.scenario.ticks (le-ltb m (replica_count g.f) (omega arith))))
