-- What the function of this folder owes, proved.
use Rattle.std.proofs.Common.{◌∙◌, sym}
use Rattle.nz_script.proofs.LineTests.{passed_forms, passed_room}
use Rattle.nz_script.proofs.reading.step.Goals as goal

pub take-requires-clause-within : goal.take-requires-clause-within
take-requires-clause-within c = passed_forms c.args.draft.now c.in-Some.line (sym c.fault_of.ensures ∙ c.in-None.is)

pub take-requires-clause-room : goal.take-requires-clause-room
take-requires-clause-room c = passed_room c.args.draft.now c.in-Some.line (sym c.fault_of.ensures ∙ c.in-None.is)
