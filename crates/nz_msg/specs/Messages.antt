-- Messages as the bodies of frames: the kinds, and the one spelling of each.
use Rattle.std.specs.Prelude.{◌≡◌, ℕ, max, ◌==◌, if◌then◌else◌, List, [], length, Result, Ok, Err}
use Rattle.nz_base.specs.declared.limits.TheConstants.{MAX_ENTRIES, MAX_KEYS}
use Rattle.nz_msg.specs.declared.message.RequestBody.{RequestBody}
use Rattle.nz_msg.specs.declared.message.TimedBody.{TimedBody}
use Rattle.nz_msg.specs.declared.message.FastReplyBody.{FastReplyBody}
use Rattle.nz_msg.specs.declared.message.SlowReplyBody.{SlowReplyBody}
use Rattle.nz_msg.specs.declared.message.AnswerBody.{AnswerBody}
use Rattle.nz_msg.specs.declared.message.LogModBody.{LogModBody}
use Rattle.nz_msg.specs.declared.message.FetchBody.{FetchBody}
use Rattle.nz_msg.specs.declared.message.FetchReplyBody.{FetchReplyBody}
use Rattle.nz_msg.specs.declared.message.SyncReportBody.{SyncReportBody}
use Rattle.nz_msg.specs.declared.message.ViewAskBody.{ViewAskBody}
use Rattle.nz_msg.specs.declared.message.ViewChangeBody.{ViewChangeBody}
use Rattle.nz_msg.specs.declared.message.StartViewBody.{StartViewBody}
use Rattle.nz_msg.specs.declared.message.VectorAskBody.{VectorAskBody}
use Rattle.nz_msg.specs.declared.message.VectorTellBody.{VectorTellBody}
use Rattle.nz_msg.specs.declared.message.RejoinAskBody.{RejoinAskBody}
use Rattle.nz_msg.specs.declared.message.RejoinTellBody.{RejoinTellBody}
use Rattle.nz_msg.specs.declared.message.StateAskBody.{StateAskBody}
use Rattle.nz_msg.specs.declared.message.StateTellBody.{StateTellBody}
use Rattle.nz_msg.specs.declared.message.Message.{Message}
use Rattle.nz_msg.specs.declared.message.Message.TheVariants.{Request, Timed, FastReply, SlowReply, Answer, LogMod, Fetch, FetchReply}
use Rattle.nz_msg.specs.declared.message.Message.TheVariants.{SyncReport, ViewAsk, ViewChange, StartView, VectorAsk, VectorTell}
use Rattle.nz_msg.specs.declared.message.Message.TheVariants.{RejoinAsk, RejoinTell, StateAsk, StateTell}
use Rattle.nz_msg.specs.Codec.{Codec, ◌>>=◌, optional, ◌leading◌, ◌then◌, as_made}
use Rattle.nz_msg.specs.Fields.{u32, u64, view, deadline, id, command, digest, vector, answer, path, ids, keys, entries}

-- ---- the bodies

-- The body of a request: its number and its command.
abbrev pub request : Codec RequestBody
request = as_made (λ p. record { num = p.0; command = p.1 }) (λ b. (b.num, b.command)) (u32 then command)

-- The body of a timed message: when it was sent, the deadline, the id and the command.
abbrev pub timed : Codec TimedBody
timed =
    as_made (λ p. record { sent = p.0; deadline = p.1.0; id = p.1.1.0; command = p.1.1.1 }) (λ b. (b.sent, (b.deadline, (b.id, b.command))))
    (u64 then deadline then id then command)

-- The body of a fast-reply: the view, the id, the digest, the vector, the delay, and an answer or none.
abbrev pub fast_reply : Codec FastReplyBody
fast_reply =
    as_made (λ p. record { view = p.0; id = p.1.0; digest = p.1.1.0; vector = p.1.1.1.0; delay = p.1.1.1.1.0; answer = p.1.1.1.1.1 })
    (λ b. (b.view, (b.id, (b.digest, (b.vector, (b.delay, b.answer))))))
    (view then id then digest then vector then u32 then optional answer)

-- The body of a slow-reply: the view, the id and the delay.
abbrev pub slow_reply : Codec SlowReplyBody
slow_reply = as_made (λ p. record { view = p.0; id = p.1.0; delay = p.1.1 }) (λ b. (b.view, (b.id, b.delay))) (view then id then u32)

-- The body of an answer: the number of the request, the answer and the path.
abbrev pub client_answer : Codec AnswerBody
client_answer = as_made (λ p. record { num = p.0; answer = p.1.0; path = p.1.1 }) (λ b. (b.num, (b.answer, b.path))) (u32 then answer then path)

-- The body of a log-mod: the view, the vector, the commit, the place of the first key, and the keys.
abbrev pub log_mod : Codec LogModBody
log_mod =
    as_made (λ p. record { view = p.0; vector = p.1.0; commit = p.1.1.0; start = p.1.1.1.0; keys = p.1.1.1.1 })
    (λ b. (b.view, (b.vector, (b.commit, (b.start, b.keys)))))
    (view then vector then u32 then u32 then keys)

-- The body of a fetch: the view and the ids.
abbrev pub fetch : Codec FetchBody
fetch = as_made (λ p. record { view = p.0; ids = p.1 }) (λ b. (b.view, b.ids)) (view then ids)

-- The body of a fetch-reply: the view, and at most 64 entries.
abbrev pub fetch_reply : Codec FetchReplyBody
fetch_reply = as_made (λ p. record { view = p.0; entries = p.1 }) (λ b. (b.view, b.entries)) (view then entries 0 MAX_KEYS)

-- The body of a sync-report: the view, and how many entries are synced.
abbrev pub sync_report : Codec SyncReportBody
sync_report = as_made (λ p. record { view = p.0; synced = p.1 }) (λ b. (b.view, b.synced)) (view then u32)

-- The body of a view-ask: the view.
abbrev pub view_ask : Codec ViewAskBody
view_ask = as_made (λ p. record { view = p }) (λ b. b.view) view

-- There are at least as many entries as are synced or committed.
abbrev pub view_change : Codec ViewChangeBody
view_change =
    as_made (λ p. record { view = p.0; last = p.1.0; vector = p.1.1.0; synced = p.1.1.1.0.0; commit = p.1.1.1.0.1; entries = p.1.1.1.1 })
    (λ b. (b.view, (b.last, (b.vector, ((b.synced, b.commit), b.entries)))))
    (view then view then vector then (u32 then u32) leading λ p. entries (max p.0 p.1) MAX_ENTRIES)

-- The body of a start-view: the view, the vector, the commit, and no fewer entries than that, no more than a log has.
abbrev pub start_view : Codec StartViewBody
start_view =
    as_made (λ p. record { view = p.0; vector = p.1.0; commit = p.1.1.0; entries = p.1.1.1 }) (λ b. (b.view, (b.vector, (b.commit, b.entries))))
    (view then vector then u32 leading λ commit. entries commit MAX_ENTRIES)

-- The body of a vector-ask: the nonce.
abbrev pub vector_ask : Codec VectorAskBody
vector_ask = as_made (λ p. record { nonce = p }) (λ b. b.nonce) u64

-- The body of a vector-tell: the nonce and the vector.
abbrev pub vector_tell : Codec VectorTellBody
vector_tell = as_made (λ p. record { nonce = p.0; vector = p.1 }) (λ b. (b.nonce, b.vector)) (u64 then vector)

-- The body of a rejoin-ask: the nonce and the vector.
abbrev pub rejoin_ask : Codec RejoinAskBody
rejoin_ask = as_made (λ p. record { nonce = p.0; vector = p.1 }) (λ b. (b.nonce, b.vector)) (u64 then vector)

-- The body of a rejoin-tell: the nonce, the view and the vector.
abbrev pub rejoin_tell : Codec RejoinTellBody
rejoin_tell = as_made (λ p. record { nonce = p.0; view = p.1.0; vector = p.1.1 }) (λ b. (b.nonce, (b.view, b.vector))) (u64 then view then vector)

-- The body of a state-ask: the nonce, the view and the vector.
abbrev pub state_ask : Codec StateAskBody
state_ask = as_made (λ p. record { nonce = p.0; view = p.1.0; vector = p.1.1 }) (λ b. (b.nonce, (b.view, b.vector))) (u64 then view then vector)

-- The body of a state-tell: the nonce, the view, the vector, the commit, and no fewer entries than that.
abbrev pub state_tell : Codec StateTellBody
state_tell =
    as_made (λ p. record { nonce = p.0; view = p.1.0; vector = p.1.1.0; commit = p.1.1.1.0; entries = p.1.1.1.1 })
    (λ b. (b.nonce, (b.view, (b.vector, (b.commit, b.entries)))))
    (u64 then view then vector then u32 leading λ commit. entries commit MAX_ENTRIES)

-- ---- the grammar

-- The kind of a message, 1 to 18.
abbrev pub kind_of : Message → ℕ
kind_of (Request b) = 1
kind_of (Timed b) = 2
kind_of (FastReply b) = 3
kind_of (SlowReply b) = 4
kind_of (Answer b) = 5
kind_of (LogMod b) = 6
kind_of (Fetch b) = 7
kind_of (FetchReply b) = 8
kind_of (SyncReport b) = 9
kind_of (ViewAsk b) = 10
kind_of (ViewChange b) = 11
kind_of (StartView b) = 12
kind_of (VectorAsk b) = 13
kind_of (VectorTell b) = 14
kind_of (RejoinAsk b) = 15
kind_of (RejoinTell b) = 16
kind_of (StateAsk b) = 17
kind_of (StateTell b) = 18

-- Each field is in its range.
abbrev pub Fits : Message → Type 0
Fits (Request b) = request.fits b
Fits (Timed b) = timed.fits b
Fits (FastReply b) = fast_reply.fits b
Fits (SlowReply b) = slow_reply.fits b
Fits (Answer b) = client_answer.fits b
Fits (LogMod b) = log_mod.fits b
Fits (Fetch b) = fetch.fits b
Fits (FetchReply b) = fetch_reply.fits b
Fits (SyncReport b) = sync_report.fits b
Fits (ViewAsk b) = view_ask.fits b
Fits (ViewChange b) = view_change.fits b
Fits (StartView b) = start_view.fits b
Fits (VectorAsk b) = vector_ask.fits b
Fits (VectorTell b) = vector_tell.fits b
Fits (RejoinAsk b) = rejoin_ask.fits b
Fits (RejoinTell b) = rejoin_tell.fits b
Fits (StateAsk b) = state_ask.fits b
Fits (StateTell b) = state_tell.fits b

-- The one spelling of a message's body.
abbrev pub body_of : Message → List ℕ
body_of (Request b) = request.put b []
body_of (Timed b) = timed.put b []
body_of (FastReply b) = fast_reply.put b []
body_of (SlowReply b) = slow_reply.put b []
body_of (Answer b) = client_answer.put b []
body_of (LogMod b) = log_mod.put b []
body_of (Fetch b) = fetch.put b []
body_of (FetchReply b) = fetch_reply.put b []
body_of (SyncReport b) = sync_report.put b []
body_of (ViewAsk b) = view_ask.put b []
body_of (ViewChange b) = view_change.put b []
body_of (StartView b) = start_view.put b []
body_of (VectorAsk b) = vector_ask.put b []
body_of (VectorTell b) = vector_tell.put b []
body_of (RejoinAsk b) = rejoin_ask.put b []
body_of (RejoinTell b) = rejoin_tell.put b []
body_of (StateAsk b) = state_ask.put b []
body_of (StateTell b) = state_tell.put b []

-- The bytes are the body of this message of the kind.
pub record IsBody (kind : ℕ) (bytes : List ℕ) (message : Message) : Type 0 where
  pub same_kind : kind_of message ≡ kind
  pub fit : Fits message
  pub spelled : bytes ≡ body_of message

-- ---- reading

-- A body, and nothing after it.
abbrev pub whole : {A : Type 0} → Codec A → (A → Message) → List ℕ → Result Message ℕ
whole c make bytes = c.get bytes >>= λ x. if length x.1 == 0 then Ok (make x.0) else Err (length x.1)

-- The message of a kind that some bytes spell, or how many bytes are left at the fault.
unfoldable pub body_at : ℕ → List ℕ → Result Message ℕ
body_at kind bytes =
    if kind == 1 then whole request Request bytes
    else (if kind == 2 then whole timed Timed bytes
    else (if kind == 3 then whole fast_reply FastReply bytes
    else (if kind == 4 then whole slow_reply SlowReply bytes
    else (if kind == 5 then whole client_answer Answer bytes
    else (if kind == 6 then whole log_mod LogMod bytes
    else (if kind == 7 then whole fetch Fetch bytes
    else (if kind == 8 then whole fetch_reply FetchReply bytes
    else (if kind == 9 then whole sync_report SyncReport bytes
    else (if kind == 10 then whole view_ask ViewAsk bytes
    else (if kind == 11 then whole view_change ViewChange bytes
    else (if kind == 12 then whole start_view StartView bytes
    else (if kind == 13 then whole vector_ask VectorAsk bytes
    else (if kind == 14 then whole vector_tell VectorTell bytes
    else (if kind == 15 then whole rejoin_ask RejoinAsk bytes
    else (if kind == 16 then whole rejoin_tell RejoinTell bytes
    else (if kind == 17 then whole state_ask StateAsk bytes
    else (if kind == 18 then whole state_tell StateTell bytes
    else Err (length bytes))))))))))))))))))
