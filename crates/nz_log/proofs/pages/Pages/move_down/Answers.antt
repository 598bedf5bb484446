-- What the function of this folder owes, proved.
use Rattle.std.proofs.Common.{◌+◌, ap, ◌∙◌, List, take, set}
use Rattle.nz_base.specs.declared.key.Entry.{Entry}
use Rattle.nz_log.proofs.Moving.{down_step}
use Rattle.nz_log.proofs.pages.Pages.move_down.Goals as goal

pub returns-clause-moved : goal.returns-clause-moved
returns-clause-moved c d =
    ap (take (c.args.to + 1)) (c.replace.ensures.rest ∙ ap (λ (xs : List Entry). set xs c.args.to c.replace-entry.result) c.replace-entry.ensures.rest)
    ∙ down_step c.args.self.now c.args.from c.args.to c.no_request.result c.replace-entry.result c.requires.down
    c.requires.within c.replace-entry.ensures.value d
