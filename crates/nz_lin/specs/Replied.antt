-- The lists of keys that the fast replies of a run are over, as its parcels say.
use Rattle.std.specs.Prelude.{◌≡◌, List, [], ◌∷◌, ◌++◌, map, Result, Ok, Err}
use Rattle.std.specs.List.{flat_map}
use Rattle.nz_base.specs.declared.key.Entry.{Entry}
use Rattle.nz_digest.specs.Digests.{EntryKey, digest}
use Rattle.nz_log.specs.Places.{entry_key}
use Rattle.nz_msg.specs.declared.envelope.Envelope.{Envelope}
use Rattle.nz_msg.specs.declared.message.Message.{Message}
use Rattle.nz_msg.specs.declared.message.Message.TheVariants.{FastReply}
use Rattle.nz_msg.specs.declared.refusal.DecodeRefusal.{DecodeRefusal}
use Rattle.nz_msg.specs.Envelope.{decode_of}
use Rattle.nz_machine.specs.declared.event.Record.{Record}
use Rattle.nz_machine.specs.rules.State.{Group}
use Rattle.nz_machine.specs.runs.World.{Has}
use Rattle.nz_machine.specs.runs.History.{log_at, cut_after}

-- The list that a message is over, where it is a fast reply of a sender with this log.
abbrev pub list_over : List Entry → Message → List (List EntryKey)
list_over log (FastReply b) = map entry_key (cut_after b.id log) ∷ []
list_over log _ = []

-- The list of keys that a decoded frame replies over, if it is a fast reply.
abbrev pub list_read : List Entry → Result Envelope DecodeRefusal → List (List EntryKey)
list_read log (Ok e) = list_over log e.message
list_read log (Err refusal) = []

-- The lists of all fast replies, those of the newest record first.
abbrev pub replied_lists : Group → List Record → List (List EntryKey)
replied_lists g [] = []
replied_lists g (r ∷ J) = flat_map (λ p. list_read (log_at g r.actor (r ∷ J)) (decode_of p.frame)) r.sends ++ replied_lists g J

-- No two different ones of the lists have one digest.
abbrev pub HaveOwnDigests : List (List EntryKey) → Type 0
HaveOwnDigests lists = (keys others : List EntryKey) → Has lists keys → Has lists others → digest keys ≡ digest others → keys ≡ others
