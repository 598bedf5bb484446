-- What the function of this folder owes, proved.
use Rattle.std.proofs.Common.{◌≡◌, true, false, refl, sym, ap, ◌∙◌, rules}
use Rattle.nz_base.specs.Key.{id_of}
use Rattle.nz_base.specs.Log.{keys_of, has_id, is_above_last}
use Rattle.nz_msg.proofs.Follows.{follows_last_entry, is_noted}
use Rattle.nz_msg.proofs.RisingIds.{above_entries}
use Rattle.nz_msg.proofs.lists.may_be_next.Goals as goal

pub returns-then-is_above : goal.returns-then-is_above
returns-then-is_above c =
    let before = c.args.before.now in
    let key = c.args.key.now in
    let above : is_above_last (keys_of before) key ≡ true =
    sym (c.is_above.ensures ∙ above_entries before c.map.result key (search rules)) ∙ c.if-is_above.true in
    let held : c.contains.result ≡ has_id (keys_of before) (id_of key) =
    c.contains.ensures ∙ is_noted before c.args.ids.now.keys c.id.result c.requires ∙ ap (has_id (keys_of before)) c.id.ensures in
    rw (held, follows_last_entry before key c.requires.rising, above) refl

pub returns-else-is_above : goal.returns-else-is_above
returns-else-is_above c =
    let before = c.args.before.now in
    let key = c.args.key.now in
    let under : is_above_last (keys_of before) key ≡ false =
    sym (c.is_above.ensures ∙ above_entries before c.map.result key (search rules)) ∙ c.if-is_above.false in
    rw (c.if-is_above.false, follows_last_entry before key c.requires.rising, under) refl
