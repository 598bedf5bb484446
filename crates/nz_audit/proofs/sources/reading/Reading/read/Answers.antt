-- What the function of this folder owes, proved.
use Rattle.std.proofs.Common.{List, ◌∷◌, refl, sym, subst}
use Rattle.std.specs.Prelude.{nat_eq}
use Rattle.std.specs.HashSet.{contains}
use Rattle.std.proofs.lemmas.Result.{on_ok_weaker}
use Rattle.indexmap.specs.IndexMap.{get}
use Rattle.nz_base.specs.Key.{id_eq}
use Rattle.nz_machine.specs.journals.Journals.{group_in}
use Rattle.nz_machine.specs.declared.event.Record.{Record}
use Rattle.nz_replay.specs.Runs.{run_up_to}
use Rattle.nz_audit.specs.Readings.{IsProxy}
use Rattle.nz_audit.proofs.ReadingTakes.{is_read}
use Rattle.nz_audit.proofs.sources.reading.Reading.read.Goals as goal

pub act-requires : goal.act-requires
act-requires c = λ q id. (c.requires.run.2.proxies q).sized id

pub keep_sendings-requires-clause-proxies : goal.keep_sendings-requires-clause-proxies
keep_sendings-requires-clause-proxies c =
    let g = group_in c.args.journal.now in
    let w = contains id_eq c.args.wanted.now in
    let run = c.requires.run in
    λ q. subst (λ (l : List Record). IsProxy g w l q (get nat_eq c.act.new.proxies q)) (sym run.1.run)
    (c.in_ok-act.ensures g run.0 run.1.world refl run.2.table run.2.proxies q)

pub returns : goal.returns
returns c =
    let g = group_in c.args.journal.now in
    let w = contains id_eq c.args.wanted.now in
    let run = c.requires.run in
    on_ok_weaker c.keep_sendings.result (λ kept.
    is_read c.args.journal.now w (run_up_to c.args.journal.now c.args.records) (c.args.next.now ∷ run.0) _ run.1.run
    (c.in_ok-act.ensures g run.0 run.1.world refl run.2.table run.2.proxies) (kept run.0 run.1.run run.2.table)) c.keep_sendings.ensures
