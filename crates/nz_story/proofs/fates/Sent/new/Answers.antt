-- What the function of this folder owes, proved.
use Rattle.std.proofs.Common.{rules, ◌≡◌, ◌∙◌, length}
use Rattle.std.specs.Prelude.{replicate}
use Rattle.nz_story.proofs.Passing.{none_named}
use Rattle.nz_story.proofs.fates.Sent.new.Goals as goal

pub returns : goal.returns
returns c =
    let lines = c.args.scenario.now.faults in
    let zeros : c.in_ok-vec.field-0.items ≡ replicate (length lines) 0 = search rules in
    zeros ∙ none_named lines
