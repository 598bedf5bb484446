-- The kinds of messages, by number and by name.
use Rattle.std.specs.Prelude.{ℕ, ◌==◌, if◌then◌else◌, List, [], ◌∷◌, Option, Some, None, codes}
use Rattle.std.specs.Str.{bytes_eq}
use Rattle.nz_script.specs.declared.message.Message.{Message}
use Rattle.nz_script.specs.declared.message.Message.TheVariants.{Request, Timed, FastReply, SlowReply, Answer, LogMod, Fetch, FetchReply}
use Rattle.nz_script.specs.declared.message.Message.TheVariants.{SyncReport, ViewAsk, ViewChange, StartView, VectorAsk, VectorTell}
use Rattle.nz_script.specs.declared.message.Message.TheVariants.{RejoinAsk, RejoinTell, StateAsk, StateTell}

-- The number and the name of each.
abbrev pub row_of : Message → ℕ × List ℕ
row_of Request = (1, codes "request")
row_of Timed = (2, codes "timed")
row_of FastReply = (3, codes "fast-reply")
row_of SlowReply = (4, codes "slow-reply")
row_of Answer = (5, codes "answer")
row_of LogMod = (6, codes "log-mod")
row_of Fetch = (7, codes "fetch")
row_of FetchReply = (8, codes "fetch-reply")
row_of SyncReport = (9, codes "sync-report")
row_of ViewAsk = (10, codes "view-ask")
row_of ViewChange = (11, codes "view-change")
row_of StartView = (12, codes "start-view")
row_of VectorAsk = (13, codes "vector-ask")
row_of VectorTell = (14, codes "vector-tell")
row_of RejoinAsk = (15, codes "rejoin-ask")
row_of RejoinTell = (16, codes "rejoin-tell")
row_of StateAsk = (17, codes "state-ask")
row_of StateTell = (18, codes "state-tell")

-- All kinds of messages, by number.
abbrev pub messages : List Message
messages =
    Request ∷ Timed ∷ FastReply ∷ SlowReply ∷ Answer ∷ LogMod ∷ Fetch ∷ FetchReply ∷ SyncReport ∷ ViewAsk ∷ ViewChange
    ∷ StartView ∷ VectorAsk ∷ VectorTell ∷ RejoinAsk ∷ RejoinTell ∷ StateAsk ∷ StateTell ∷ []

-- The number of the kind with this name, among some kinds.
abbrev pub kind_of_message : List Message → List ℕ → Option ℕ
kind_of_message [] name = None
kind_of_message (message ∷ others) name = if bytes_eq (row_of message).1 name then Some (row_of message).0 else kind_of_message others name

-- The name of the kind with this number, among some kinds.
abbrev pub name_in : List Message → ℕ → List ℕ
name_in [] kind = []
name_in (message ∷ others) kind = if (row_of message).0 == kind then (row_of message).1 else name_in others kind

-- The number of the kind with this name.
unfoldable pub kind_named : List ℕ → Option ℕ
kind_named name = kind_of_message messages name

-- The name of the kind with this number.
unfoldable pub name_of : ℕ → List ℕ
name_of kind = name_in messages kind
