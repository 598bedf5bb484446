-- What the function of this folder owes, proved.
use Rattle.std.proofs.Common.{ℕ, List, ◌++◌, ◌∙◌, ap}
use Rattle.nz_replay.specs.Runs.{run_up_to}
use Rattle.nz_story.specs.Story.{lines_under, part_of, record_part}
use Rattle.nz_story.proofs.story.put_record.Goals as goal

pub returns-clause-written : goal.returns-clause-written
unfolding record_part
returns-clause-written c =
    let J = run_up_to c.args.journal.now c.args.place in
    c.in_ok-put_part.ensures
    ∙ ap (λ (lines : List ℕ). c.args.out.now.items ++ part_of c.args.next.now lines)
    (c.as_slice.ensures.value ∙ c.in_ok-put_lines.ensures.written
    ∙ ap (λ (bytes : List ℕ). bytes ++ lines_under c.args.journal.now.scenario c.args.next.now J) c.clear.ensures.items)
