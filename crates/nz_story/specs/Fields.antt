-- What a message says, field by field: each name with its value after it.
use Rattle.std.specs.Prelude.{ℕ, List, [], ◌∷◌, ◌++◌, length, Option, Some, None, Result, Ok, Err, codes}
use Rattle.std.specs.Fmt.{decimal}
use Rattle.std.specs.List.{flat_map}
use Rattle.hex.specs.Hex.{encode_lower}
use Rattle.nz_base.specs.Key.{id_of}
use Rattle.nz_base.specs.declared.key.Id.{Id}
use Rattle.nz_base.specs.declared.key.Key.{Key}
use Rattle.nz_store.specs.declared.command.Answer.{Answer as AnswerModel}
use Rattle.nz_store.specs.Reading.{command_of}
use Rattle.nz_msg.specs.declared.message.AnswerBody.{AnswerBody}
use Rattle.nz_msg.specs.declared.message.FastReplyBody.{FastReplyBody}
use Rattle.nz_msg.specs.declared.message.FetchBody.{FetchBody}
use Rattle.nz_msg.specs.declared.message.FetchReplyBody.{FetchReplyBody}
use Rattle.nz_msg.specs.declared.message.LogModBody.{LogModBody}
use Rattle.nz_msg.specs.declared.message.RequestBody.{RequestBody}
use Rattle.nz_msg.specs.declared.message.SlowReplyBody.{SlowReplyBody}
use Rattle.nz_msg.specs.declared.message.StartViewBody.{StartViewBody}
use Rattle.nz_msg.specs.declared.message.StateTellBody.{StateTellBody}
use Rattle.nz_msg.specs.declared.message.SyncReportBody.{SyncReportBody}
use Rattle.nz_msg.specs.declared.message.TimedBody.{TimedBody}
use Rattle.nz_msg.specs.declared.message.ViewChangeBody.{ViewChangeBody}
use Rattle.nz_msg.specs.declared.message.Message.{Message}
use Rattle.nz_msg.specs.declared.message.Message.TheVariants as messages
use Rattle.nz_msg.specs.declared.envelope.Envelope.{Envelope}
use Rattle.nz_msg.specs.declared.refusal.DecodeRefusal.{DecodeRefusal}
use Rattle.nz_text.specs.Text.{answer_text, path_text, found_text}

-- ---- values

-- A field's name, with a space before it and after it.
abbrev pub name_text : List ℕ → List ℕ
name_text name = codes " " ++ (name ++ codes " ")

-- A field that is a number.
abbrev pub number_field : List ℕ → ℕ → List ℕ
number_field name n = name_text name ++ decimal n

-- An id is `cK/NUM`.
abbrev pub id_word : Id → List ℕ
id_word id = codes "c" ++ (decimal id.client ++ (codes "/" ++ decimal id.num))

-- A key is `DEADLINE/cK/NUM`.
abbrev pub key_word : Key → List ℕ
key_word key = decimal key.deadline ++ (codes "/" ++ id_word (id_of key))

-- A number after a comma.
abbrev pub after_comma : ℕ → List ℕ
after_comma n = codes "," ++ decimal n

-- A crash vector is its counters, with a comma between each two.
abbrev pub vector_word : List ℕ → List ℕ
vector_word [] = []
vector_word (n ∷ ns) = decimal n ++ flat_map after_comma ns

-- An id after a space.
abbrev pub after_space : Id → List ℕ
after_space id = codes " " ++ id_word id

-- A key after a space.
abbrev pub key_after_space : Key → List ℕ
key_after_space key = codes " " ++ key_word key

-- ---- fields that are no number

-- The request.
abbrev pub id_field : Id → List ℕ
id_field id = codes " id " ++ id_word id

-- The digest of a log, in forty hexadecimal digits.
abbrev pub digest_field : List ℕ → List ℕ
digest_field digest = codes " digest " ++ encode_lower digest

-- A crash vector.
abbrev pub vector_field : List ℕ → List ℕ
vector_field vector = codes " vector " ++ vector_word vector

-- The answer of a leader. No other replica has one.
abbrev pub answer_field : Option AnswerModel → List ℕ
answer_field None = []
answer_field (Some answer) = codes " answer" ++ answer_text answer

-- The command, as a line of a scenario has it.
abbrev pub command_field : List ℕ → List ℕ
command_field bytes = codes " command" ++ found_text (command_of bytes)

-- All ids.
abbrev pub ids_field : List Id → List ℕ
ids_field ids = codes " ids" ++ flat_map after_space ids

-- All keys.
abbrev pub keys_field : List Key → List ℕ
keys_field keys = codes " keys" ++ flat_map key_after_space keys

-- Of entries, how many there are.
abbrev pub entries_field : {X : Type 0} → List X → List ℕ
entries_field entries = number_field (codes "entries") (length entries)

-- ---- the fields of each kind, in the order of its body

-- A view.
abbrev pub view_field : ℕ → List ℕ
view_field view = number_field (codes "view") view

-- The number of a restart.
abbrev pub nonce_field : ℕ → List ℕ
nonce_field nonce = number_field (codes "nonce") nonce

-- A number and a vector.
abbrev pub nonce_fields : ℕ → List ℕ → List ℕ
nonce_fields nonce vector = nonce_field nonce ++ vector_field vector

-- The number of a restart, a view and a vector.
abbrev pub rejoin_fields : ℕ → ℕ → List ℕ → List ℕ
rejoin_fields nonce view vector = nonce_field nonce ++ (view_field view ++ vector_field vector)

-- The number of the request, and its command.
abbrev pub request_fields : RequestBody → List ℕ
request_fields b = number_field (codes "num") b.num ++ command_field b.command

-- The command of a timed request is shown where its client sends it.
abbrev pub timed_fields : TimedBody → List ℕ
timed_fields b = number_field (codes "sent") b.sent ++ (number_field (codes "deadline") b.deadline ++ id_field b.id)

-- How much of a fast reply comes before the delay.
abbrev pub place_fields : FastReplyBody → List ℕ
place_fields b = view_field b.view ++ (id_field b.id ++ (digest_field b.digest ++ vector_field b.vector))

-- A fast reply.
abbrev pub fast_reply_fields : FastReplyBody → List ℕ
fast_reply_fields b = place_fields b ++ (number_field (codes "delay") b.delay ++ answer_field b.answer)

-- A slow reply.
abbrev pub slow_reply_fields : SlowReplyBody → List ℕ
slow_reply_fields b = view_field b.view ++ (id_field b.id ++ number_field (codes "delay") b.delay)

-- An answer.
abbrev pub answer_fields : AnswerBody → List ℕ
answer_fields b = number_field (codes "num") b.num ++ (codes " answer" ++ (answer_text b.answer ++ (codes " path" ++ path_text b.path)))

-- A log modification, with all its keys.
abbrev pub log_mod_fields : LogModBody → List ℕ
log_mod_fields b =
    view_field b.view ++ (vector_field b.vector
    ++ (number_field (codes "commit") b.commit ++ (number_field (codes "start") b.start ++ keys_field b.keys)))

-- A fetch.
abbrev pub fetch_fields : FetchBody → List ℕ
fetch_fields b = view_field b.view ++ ids_field b.ids

-- A fetch reply.
abbrev pub fetch_reply_fields : FetchReplyBody → List ℕ
fetch_reply_fields b = view_field b.view ++ entries_field b.entries

-- A sync report.
abbrev pub sync_report_fields : SyncReportBody → List ℕ
sync_report_fields b = view_field b.view ++ number_field (codes "synced") b.synced

-- How much of a view change comes before its sync point.
abbrev pub report_fields : ViewChangeBody → List ℕ
report_fields b = view_field b.view ++ (number_field (codes "last") b.last ++ vector_field b.vector)

-- A view change.
abbrev pub view_change_fields : ViewChangeBody → List ℕ
view_change_fields b =
    report_fields b ++ (number_field (codes "synced") b.synced ++ (number_field (codes "commit") b.commit ++ entries_field b.entries))

-- A start of a view.
abbrev pub start_view_fields : StartViewBody → List ℕ
start_view_fields b =
    view_field b.view ++ (vector_field b.vector ++ (number_field (codes "commit") b.commit ++ entries_field b.entries))

-- The log of a leader.
abbrev pub state_tell_fields : StateTellBody → List ℕ
state_tell_fields b = rejoin_fields b.nonce b.view b.vector ++ (number_field (codes "commit") b.commit ++ entries_field b.entries)

-- The fields of a message.
unfoldable pub fields_of : Message → List ℕ
fields_of (messages.Request b) = request_fields b
fields_of (messages.Timed b) = timed_fields b
fields_of (messages.FastReply b) = fast_reply_fields b
fields_of (messages.SlowReply b) = slow_reply_fields b
fields_of (messages.Answer b) = answer_fields b
fields_of (messages.LogMod b) = log_mod_fields b
fields_of (messages.Fetch b) = fetch_fields b
fields_of (messages.FetchReply b) = fetch_reply_fields b
fields_of (messages.SyncReport b) = sync_report_fields b
fields_of (messages.ViewAsk b) = view_field b.view
fields_of (messages.ViewChange b) = view_change_fields b
fields_of (messages.StartView b) = start_view_fields b
fields_of (messages.VectorAsk b) = nonce_field b.nonce
fields_of (messages.VectorTell b) = nonce_fields b.nonce b.vector
fields_of (messages.RejoinAsk b) = nonce_fields b.nonce b.vector
fields_of (messages.RejoinTell b) = rejoin_fields b.nonce b.view b.vector
fields_of (messages.StateAsk b) = rejoin_fields b.nonce b.view b.vector
fields_of (messages.StateTell b) = state_tell_fields b

-- What was decoded, after a colon. Of a frame that is refused nothing is shown.
abbrev pub contents_text : Result Envelope DecodeRefusal → List ℕ
contents_text (Err refusal) = []
contents_text (Ok e) = codes ":" ++ fields_of e.message
