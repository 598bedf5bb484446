-- What the function of this folder owes, proved.
use Rattle.std.proofs.Common.{◌++◌, take, ◌∙◌}
use Rattle.nz_frame.proofs.Readings.{one_reading, every_frame, none_refused}
use Rattle.nz_frame.proofs.frame.Frame.parts.Goals as goal

pub returns-clause-every_frame : goal.returns-clause-every_frame
returns-clause-every_frame c =
    every_frame _ _ c.read_parts.result ((λ i. take (c.from.ensures i) c.self.inside.header ++ c.as_slice.ensures i) ∙ c.self.view_is)
    c.read_parts.ensures.frame c.read_parts.ensures.refused

pub returns-clause-accepted : goal.returns-clause-accepted
returns-clause-accepted c = none_refused _ _ c.read_parts.result ((λ i. take (c.from.ensures i) c.self.inside.header ++ c.as_slice.ensures i) ∙ c.self.view_is) c.read_parts.ensures.frame

pub returns-then-self-clause-every_frame : goal.returns-then-self-clause-every_frame
returns-then-self-clause-every_frame c kind from to body f =
    let v = c.known_parts.result in
    one_reading c.args.self.now v.kind v.from v.to v.body.now kind from to body c.known_parts.ensures f
