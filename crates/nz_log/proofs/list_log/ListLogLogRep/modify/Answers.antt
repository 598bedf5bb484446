-- What the function of this folder owes, proved.
use Rattle.nz_base.specs.declared.limits.TheConstants.{MAX_ENTRIES}
use Rattle.std.proofs.Common.{◌≡◌, ◌+◌, ◌<◌, true, false, List, length, sym, subst}
use Rattle.nz_base.specs.declared.key.Entry.{Entry}
use Rattle.nz_base.specs.Key.{id_of}
use Rattle.nz_base.specs.Log.{keys_of, has_id, is_above_last}
use Rattle.nz_log.specs.Synced.{IsSound, Log, synced_part}
use Rattle.nz_log.proofs.Modifying.{modified_sound}
use Rattle.nz_log.proofs.list_log.ListLogLogRep.modify.Goals as goal

pub invariant_of-self-2 : goal.invariant_of-self-2
invariant_of-self-2 c =
    let key = c.args.entry.key in
    let log : Log = record { entries = c.self.inside.entries.items; synced = c.self.inside.synced } in
    let above = subst (λ (l : Log). is_above_last (keys_of (synced_part l)) key ≡ true) (sym c.self.view_is) c.requires.above in
    let fresh = subst (λ (l : Log). has_id (keys_of (synced_part l)) (id_of key) ≡ false) (sym c.self.view_is) c.requires.fresh in
    let room = subst (λ (l : Log). length l.entries < MAX_ENTRIES) (sym c.self.view_is) c.requires.room in
    subst (λ (xs : List Entry). IsSound (record { entries = xs; synced = c.self.inside.synced + 1 }))
    (sym c.in_ok-put_at.ensures.ok) (modified_sound log c.args.entry c.self.invariant above fresh room)
