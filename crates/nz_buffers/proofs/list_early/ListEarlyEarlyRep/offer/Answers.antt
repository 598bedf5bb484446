-- What the function of this folder owes, proved.
use Rattle.std.proofs.Common.{◌≡◌, false, List, sym, subst}
use Rattle.nz_base.specs.declared.key.Entry.{Entry}
use Rattle.nz_base.specs.Key.{id_of}
use Rattle.nz_base.specs.Log.{keys_of, has_id, IsLog}
use Rattle.nz_buffers.proofs.Inserting.{log_insert}
use Rattle.nz_buffers.proofs.list_early.ListEarlyEarlyRep.offer.Goals as goal

pub invariant_of-self-2 : goal.invariant_of-self-2
invariant_of-self-2 c =
    subst IsLog (sym c.in_ok-put_by_key.ensures.ok)
    (log_insert c.self.inside.entries.items c.args.entry c.self.invariant
    (subst (λ (xs : List Entry). has_id (keys_of xs) (id_of c.args.entry.key) ≡ false) (sym c.self.view_is) c.requires.fresh))
