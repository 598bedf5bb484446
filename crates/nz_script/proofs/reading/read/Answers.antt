-- What the function of this folder owes, proved.
use Rattle.std.proofs.Common.{◌∙◌, ap, List, ℕ, length, nat_lt}
use Rattle.nz_script.specs.Bytes.{lines_in, tail_in}
use Rattle.nz_script.specs.Drafts.{first_draft}
use Rattle.nz_script.specs.Reading.{scenario_from, scenario}
use Rattle.nz_script.proofs.LinesLeft.{answered_ok, answered_err}
use Rattle.nz_script.proofs.reading.read.Goals as goal

pub returns-in-Ok-clause-ok : goal.returns-in-Ok-clause-ok
unfolding scenario
returns-in-Ok-clause-ok c = answered_ok c.in-Ok.answer (scenario c.args.bytes.now)
    (c.in-Ok.ensures ∙ ap (λ (t : List ℕ). scenario_from (nat_lt 1048576 (length c.args.bytes.now))
    (tail_in t) 1 first_draft (lines_in t)) c.first_bytes.ensures.value)

pub returns-in-Ok-clause-refused : goal.returns-in-Ok-clause-refused
unfolding scenario
returns-in-Ok-clause-refused c = answered_err c.in-Ok.answer (scenario c.args.bytes.now)
    (c.in-Ok.ensures ∙ ap (λ (t : List ℕ). scenario_from (nat_lt 1048576 (length c.args.bytes.now))
    (tail_in t) 1 first_draft (lines_in t)) c.first_bytes.ensures.value)
