-- What the function of this folder owes, proved.
use Rattle.std.proofs.Common.{ℕ, ap, ◌∙◌}
use Rattle.std.specs.List.{insert}
use Rattle.nz_buffers.specs.Places.{key_place_from}
use Rattle.nz_buffers.proofs.Inserting.{insert_by_key_at}
use Rattle.nz_buffers.proofs.places.put_by_key.Goals as goal

pub returns-clause-ok : goal.returns-clause-ok
returns-clause-ok c =
    let es = c.args.entries.now.items in
    c.in_ok-insert.ensures.items ∙ ap (λ (k : ℕ). insert es k c.args.entry)
    (c.key_place-place.ensures.place ∙ ap (λ xs. key_place_from 0 xs c.args.entry.key) c.deref.ensures.value) ∙ insert_by_key_at es c.args.entry
