-- What the function of this folder owes, proved.
use Rattle.std.proofs.Common.{◌∙◌, sym, ap, subst}
use Rattle.std.proofs.lemmas.Result.{on_ok_weaker}
use Rattle.nz_machine.specs.journals.Journals.{group_in}
use Rattle.nz_audit.specs.Sources.{IsNoOther, source_sent}
use Rattle.nz_audit.proofs.SendingTables.{table_has, table_keeps}
use Rattle.nz_audit.proofs.sources.reading.keep_about.Goals as goal

pub returns-then-branch : goal.returns-then-branch
returns-then-branch c = λ w done r J wanted run h.
    table_has (group_in c.args.journal.now) w c.args.parcel.now done r J c.args.sendings.now.kept.entries
    (subst (IsNoOther w) (sym c.requires.about) wanted) (sym c.in_ok-has.ensures ∙ c.if-branch.true) h

pub returns : goal.returns
returns c = on_ok_weaker c.keep.result (λ kept w done r J wanted run h.
    let g = group_in c.args.journal.now in
    table_keeps g w c.args.parcel.now c.args.id done r J c.args.sendings.now.kept.entries c.keep.new.self.kept.entries
    c.source_for-source.result c.requires.about wanted (sym c.in_ok-has.ensures ∙ c.if-branch.false)
    (c.source_for-source.ensures ∙ ap (source_sent g c.args.id c.args.parcel.now.from) run) kept h) c.keep.ensures
