-- What the function of this folder owes, proved.
use Rattle.std.proofs.Common.{rules, [], ℕ, sym, subst}
use Rattle.nz_story.specs.Courses.{IsWatched}
use Rattle.nz_story.proofs.Following.{watched_more}
use Rattle.nz_story.proofs.story.first_replicas.Goals as goal

pub loop-number-preserved : goal.loop-number-preserved
loop-number-preserved c = record {
  count = search rules;
  first = λ g same.
      watched_more g [] c.loop-number.replicas.items _ c.in_ok-new.field-0 (c.loop-number.invariant.first g same)
      (subst (λ (n : ℕ). IsWatched g [] n c.in_ok-new.field-0) (sym c.loop-number.invariant.count) (c.in_ok-new.ensures g same)) c.in_ok-push.ensures.items;
}
