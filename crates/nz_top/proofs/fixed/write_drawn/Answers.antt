-- What the function of this folder owes, proved.
use Rattle.std.proofs.Common.{ℕ, List, sym, ap, subst, ◌∙◌}
use Rattle.nz_script.specs.Texts.{text_of}
use Rattle.nz_script.specs.Valid.{IsValid}
use Rattle.nz_script.proofs.Generated.{drawn_valid}
use Rattle.nz_top.specs.Calls.{IsWritten}
use Rattle.nz_top.proofs.fixed.write_drawn.Goals as goal

pub print-requires : goal.print-requires
print-requires g c = subst IsValid (sym c.in-Ok.ensures) (drawn_valid c.args.seed c.args.count c.requires.few)

pub returns-clause-written : goal.returns-clause-written
returns-clause-written g c =
    let text = c.as_slice.ensures ∙ c.in-Ok-print.ensures.text ∙ ap text_of c.in-Ok.ensures in
    let out = c.args.out.now in
    let new = c.write_fixed.new.out in
    subst (λ (bytes : List ℕ). IsWritten bytes c.write_fixed.result (g.O.Sink.taken out) (g.O.Sink.taken new) (g.O.Sink.faults out) (g.O.Sink.faults new)) text
    c.write_fixed.ensures.written
