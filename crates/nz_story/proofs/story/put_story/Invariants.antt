-- What the loops of the function of this folder keep.
use Rattle.std.proofs.Common.{◌≡◌, ◌++◌}
use Rattle.nz_replay.specs.Runs.{run_up_to}
use Rattle.nz_story.specs.Courses.{IsFollowed}
use Rattle.nz_story.specs.Story.{story}
use Rattle.nz_story.proofs.story.put_story.Given as goal

-- the parts of the records so far were written
abbrev pub invariant-loop-place : goal.invariant-loop-place
invariant-loop-place l = record {
  followed : IsFollowed l.journal.scenario (run_up_to l.journal l.place) l.course;
  written : l.out.items ≡ l.fn.out.items ++ story l.journal.scenario (run_up_to l.journal l.place);
}
