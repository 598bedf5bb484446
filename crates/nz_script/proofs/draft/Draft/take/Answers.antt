-- What the function of this folder owes, proved.
use Rattle.std.proofs.Common.{◌≡◌, true, subst, sym}
use Rattle.nz_store.specs.Grammar.{IsValidCommand}
use Rattle.nz_script.specs.declared.line_forms.Verb.{Verb}
use Rattle.nz_script.specs.Shapes.{forms_of, ask_shape_of}
use Rattle.nz_script.specs.Drafts.{all_within}
use Rattle.nz_script.proofs.LineTests.{command_is_valid}
use Rattle.nz_script.proofs.draft.Draft.take.Goals as goal

pub take_request-requires-clause-valid : goal.take_request-requires-clause-valid
take_request-requires-clause-valid c =
    let within : all_within (ask_shape_of c.in-Ask.ask).forms c.args.words ≡ true =
    subst (λ (v : Verb). all_within (forms_of v) c.args.words ≡ true) c.in-Ask.is c.requires.within in
    subst IsValidCommand (sym c.in_ok-command-in-Ask.ensures) (command_is_valid c.in-Ask.ask c.args.words within)
