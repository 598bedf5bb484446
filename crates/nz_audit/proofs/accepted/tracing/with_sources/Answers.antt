-- What the function of this folder owes, proved.
use Rattle.nz_audit.specs.Prefixes.{IsAccepted}
use Rattle.nz_audit.specs.Readings.{IsKnown}
use Rattle.nz_audit.proofs.TracedSources.{all_at, traced_next}
use Rattle.nz_audit.proofs.accepted.tracing.with_sources.Goals as goal

pub add_traced-requires-clause-accepted : goal.add_traced-requires-clause-accepted
add_traced-requires-clause-accepted c =
    all_at (IsAccepted c.args.journal.now) c.args.answers.now c.loop-answer.answer-index _ c.requires.accepted c.loop-answer-test.true

pub add_traced-requires-clause-source : goal.add_traced-requires-clause-source
add_traced-requires-clause-source c =
    all_at (IsKnown c.args.journal.now c.args.sendings.now.kept.entries) c.args.answers.now c.loop-answer.answer-index _
    c.requires.sources c.loop-answer-test.true

pub loop-answer-preserved : goal.loop-answer-preserved
loop-answer-preserved c =
    traced_next c.args.journal.now c.args.answers.now c.loop-answer.answer-index _ c.loop-answer.found.items c.add_traced.new.found.items
    c.loop-answer-test.true c.loop-answer.invariant c.in_ok-add_traced.ensures
