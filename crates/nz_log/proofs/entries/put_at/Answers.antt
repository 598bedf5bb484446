-- What the function of this folder owes, proved.
use Rattle.std.proofs.Common.{List, ◌+◌, ◌≤◌, ◌++◌, length, take, drop, arith, ap, ◌∙◌}
use Rattle.std.specs.List.{filter}
use Rattle.nz_base.specs.declared.key.Entry.{Entry}
use Rattle.nz_log.specs.Synced.{stays_after}
use Rattle.nz_log.proofs.Modifying.{put_parts}
use Rattle.nz_log.proofs.entries.put_at.Goals as goal

pub returns-clause-ok : goal.returns-clause-ok
returns-clause-ok c =
    let within : c.args.place ≤ length c.args.entries.now.items = omega arith in
    let keeps = stays_after c.args.entry.key in
    c.keep_after.ensures
    ∙ ap (λ (xs : List Entry). take (c.args.place + 1) xs ++ filter keeps (drop (c.args.place + 1) xs)) c.in_ok-insert.ensures.items
    ∙ put_parts c.args.entries.now.items c.args.place c.args.entry keeps within
