-- What the function of this folder owes, proved.
use Rattle.nz_script.specs.Bytes.{words_in}
use Rattle.nz_script.proofs.Fitting.{word_lacking}
use Rattle.nz_script.proofs.line.words_of.Goals as goal

pub returns-in_default : goal.returns-in_default
returns-in_default c =
    word_lacking c.args.forms.now c.loop-form.form-index (words_in c.loop-form.rest.now)
    (words_in c.args.line.now) c.loop-form.words c.loop-form-test.true c.in_default.ensures c.loop-form.invariant
