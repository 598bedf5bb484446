-- What the function of this folder owes, proved.
use Rattle.std.proofs.Common.{◌∙◌, Some, sym, ap, append-nil, arith}
use Rattle.nz_story.proofs.Following.{story_more, story_all}
use Rattle.nz_story.proofs.story.put_story.Goals as goal

pub loop-place-init : goal.loop-place-init
loop-place-init c = record { followed = c.in_ok-course.ensures; written = sym (append-nil c.args.out.now.items) }

pub loop-place-preserved : goal.loop-place-preserved
loop-place-preserved c = record {
  followed = c.in_ok-put_record.ensures.followed;
  written =
      story_more c.args.journal.now c.loop-place.place _ c.args.out.now.items c.loop-place.out.items _
      (c.get-next.ensures ∙ ap Some (sym c.as_record-next.ensures)) c.loop-place.invariant.written c.in_ok-put_record.ensures.written;
}

pub returns : goal.returns
returns c = story_all c.args.journal.now c.loop-place.place c.args.out.now.items c.loop-place.out.items
    (omega (arith, c.len-place-end.ensures, c.loop-place-test.false)) c.loop-place.invariant.written
