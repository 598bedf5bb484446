-- What the function of this folder owes, proved.
use Rattle.std.proofs.Common.{codes, sym, ◌∙◌}
use Rattle.nz_base.specs.Log.{keys_of}
use Rattle.nz_story.proofs.Coming.{none_new}
use Rattle.nz_story.proofs.known.put_log.Goals as goal

pub returns-then-are_of-clause-written : goal.returns-then-are_of-clause-written
returns-then-are_of-clause-written c =
    none_new (codes " log") c.args.keys.now.items (keys_of c.args.log.now.entries) c.args.out.now.items
    (sym c.as_slice.ensures.value ∙ c.are_of.ensures c.if-are_of.true)
