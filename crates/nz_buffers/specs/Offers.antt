-- What becomes of an entry that is offered.
use Rattle.std.specs.Prelude.{List, Option, if◌then◌else◌}
use Rattle.nz_base.specs.declared.key.Key.{Key}
use Rattle.nz_base.specs.declared.key.Entry.{Entry}
use Rattle.nz_buffers.specs.declared.early.Offer.{Offer}
use Rattle.nz_buffers.specs.declared.early.Offer.TheVariants.{Taken, Late}
use Rattle.nz_buffers.specs.Buffers.{is_past, insert_by_key}

-- The answer: the entry comes back where its key is not above the last one.
abbrev pub offer_answer : Option Key → Entry → Offer
offer_answer last e = if is_past last e.key then Taken else Late e

-- The early entries afterwards.
abbrev pub after_offer : List Entry → Option Key → Entry → List Entry
after_offer early last e = if is_past last e.key then insert_by_key early e else early
