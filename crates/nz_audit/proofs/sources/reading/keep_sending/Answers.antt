-- What the function of this folder owes, proved.
use Rattle.std.proofs.Common.{◌∙◌, sym}
use Rattle.std.specs.HashSet.{contains}
use Rattle.std.proofs.lemmas.Result.{on_ok_weaker}
use Rattle.nz_base.specs.Key.{id_eq}
use Rattle.nz_machine.specs.journals.Journals.{group_in}
use Rattle.nz_audit.specs.Sources as sources
use Rattle.nz_audit.proofs.SendingTables.{table_passes, wanted_is}
use Rattle.nz_audit.proofs.sources.reading.keep_sending.Goals as goal

pub returns-in-None : goal.returns-in-None
returns-in-None c = λ done r J run h.
    table_passes (group_in c.args.journal.now) (contains id_eq c.args.wanted.now) c.args.parcel.now done r J _ (sym c.in_ok-about.ensures ∙ c.in-None.is) h

pub keep_about-requires-clause-about : goal.keep_about-requires-clause-about
keep_about-requires-clause-about c =
    (wanted_is (contains id_eq c.args.wanted.now) (sources.about c.args.parcel.now) c.in-Some.id (sym c.in_ok-about.ensures ∙ c.in-Some.is)).0

pub keep_about-requires-clause-known : goal.keep_about-requires-clause-known
keep_about-requires-clause-known c = λ q.
    (c.requires.proxies q).known c.in-Some.id
    (wanted_is (contains id_eq c.args.wanted.now) (sources.about c.args.parcel.now) c.in-Some.id (sym c.in_ok-about.ensures ∙ c.in-Some.is)).1

pub returns-in-Some : goal.returns-in-Some
returns-in-Some c = on_ok_weaker c.keep_about.result (λ kept done r J run h.
    kept (contains id_eq c.args.wanted.now) done r J
    (wanted_is (contains id_eq c.args.wanted.now) (sources.about c.args.parcel.now) c.in-Some.id (sym c.in_ok-about.ensures ∙ c.in-Some.is)).1 run h)
    c.keep_about.ensures
