-- What the function of this folder owes, proved.
use Rattle.std.proofs.Common.{◌++◌, ◌∙◌}
use Rattle.std.proofs.lemmas.List.{take-append-drop}
use Rattle.nz_frame.proofs.Readings.{every_frame, none_refused}
use Rattle.nz_frame.proofs.frame.Frame.read.Goals as goal

pub returns-clause-every_frame : goal.returns-clause-every_frame
returns-clause-every_frame c =
    every_frame _ _ c.read_parts.result ((λ i. c.split_at.ensures.front i ++ c.split_at.ensures.back i) ∙ take-append-drop c.min.result c.args.bytes.now)
    c.read_parts.ensures.frame c.read_parts.ensures.refused

pub returns-clause-accepted : goal.returns-clause-accepted
returns-clause-accepted c = none_refused _ _ c.read_parts.result ((λ i. c.split_at.ensures.front i ++ c.split_at.ensures.back i) ∙ take-append-drop c.min.result c.args.bytes.now) c.read_parts.ensures.frame
