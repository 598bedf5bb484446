-- The rules of a client.
use Rattle.std.specs.Prelude.{ℕ, zero, suc, ◌+◌, ◌-◌, ◌%◌, ◌^◌, Bool, not, List, [], ◌∷◌, ◌++◌, length, map, filter}
use Rattle.std.specs.Prelude.{flat_map, Option, Some, None, nat_le, min, ◌==◌, if◌then◌else◌, slice_get}
use Rattle.std.specs.List.{list_any}
use Rattle.nz_base.specs.declared.actor.Actor.TheVariants.{Proxy}
use Rattle.nz_base.specs.declared.scenario.Request.{Request}
use Rattle.nz_base.specs.declared.limits.TheConstants.{RETRY_TICKS}
use Rattle.nz_msg.specs.declared.message.AnswerBody.{AnswerBody}
use Rattle.nz_msg.specs.declared.message.Message.TheVariants as messages
use Rattle.nz_machine.specs.declared.data.Attempt.{Attempt}
use Rattle.nz_machine.specs.rules.State.{ClientData, Out}

-- The count of ticks stops here.
abbrev pub last_tick : ℕ
last_tick = 2 ^ 32 - 1

-- The request of this number, counted from 1, to a proxy.
abbrev pub ask : ℕ → ℕ → Request → Out
ask proxy num request = (Proxy proxy, messages.Request (record { num = num; command = request.command }))

-- ---- a new request

-- The request, if it may be sent at this count of ticks.
abbrev pub if_due : ℕ → Option Request → Option Request
if_due ticks None = None
if_due ticks (Some request) = if nat_le request.wait ticks then Some request else None

-- A request is opened after all open ones, and goes to the client's own proxy.
abbrev pub after_opening : ℕ → ℕ → ClientData → Option Request → ClientData × List Out
after_opening proxies me s None = (s, [])
after_opening proxies me s (Some request) = (
  record s {
    sent = s.sent + 1;
    attempts = s.attempts ++ record { num = s.sent + 1; proxy = me % proxies; since = 0 } ∷ [];
  },
  ask (me % proxies) (s.sent + 1) request ∷ [],
)

-- The next request is opened if it is due.
abbrev pub open_next : ℕ → ℕ → List Request → ClientData → ClientData × List Out
open_next proxies me script s = after_opening proxies me s (if_due s.ticks (slice_get script s.sent))

-- Each free place takes the next request, if it is due.
abbrev pub fill_places : ℕ → ℕ → ℕ → List Request → ClientData → ClientData × List Out
fill_places zero proxies me script s = (s, [])
fill_places (suc free) proxies me script s =
    let t = open_next proxies me script s in
    let u = fill_places free proxies me script t.0 in
    (u.0, t.1 ++ u.1)

-- The window has a place for each open request, and the others are free.
abbrev pub fill_window : ℕ → ℕ → ℕ → List Request → ClientData → ClientData × List Out
fill_window window proxies me script s = fill_places (window - length s.attempts) proxies me script s

-- ---- an open request

-- The open request has waited long enough at the next tick.
abbrev pub is_overdue : Attempt → Bool
is_overdue a = a.since + 1 == RETRY_TICKS

-- It waits one tick more, or is sent again: the first attempt went to the client's own proxy, each further one goes
-- to the next.
abbrev pub attempt_after_wait : ℕ → Attempt → Attempt
attempt_after_wait proxies a =
    if is_overdue a then record { num = a.num; proxy = (a.proxy + 1) % proxies; since = 0 }
    else record { num = a.num; proxy = a.proxy; since = a.since + 1 }

-- The request of this number again, to the proxy, if the script has it.
abbrev pub request_again : ℕ → ℕ → Option Request → List Out
request_again proxy num None = []
request_again proxy num (Some request) = ask proxy num request ∷ []

-- What is sent again of an open request: nothing until it is overdue, and then the request to the next proxy.
abbrev pub retry : ℕ → List Request → Attempt → List Out
retry proxies script a = if is_overdue a then request_again ((a.proxy + 1) % proxies) a.num (slice_get script (a.num - 1)) else []

-- What is sent again of the open requests, in rising number.
abbrev pub retries : ℕ → List Request → List Attempt → List Out
retries proxies script attempts = flat_map (retry proxies script) attempts

-- The state after a tick: the count of ticks rises, and each open request waits one tick more or begins anew.
abbrev pub after_wait : ℕ → ClientData → ClientData
after_wait proxies s = record s { ticks = min (s.ticks + 1) last_tick; attempts = map (attempt_after_wait proxies) s.attempts }

-- At a tick each open request waits, and some are sent again. Then the free places of the window are filled.
unfoldable pub wait_rule : ℕ → ℕ → ℕ → List Request → ClientData → ClientData × List Out
wait_rule window proxies me script s =
    let t = fill_window window proxies me script (after_wait proxies s) in
    (t.0, retries proxies script s.attempts ++ t.1)

-- ---- an answer

-- The request of this number is open.
abbrev pub is_open : ℕ → List Attempt → Bool
is_open num attempts = list_any (λ (a : Attempt). a.num == num) attempts

-- The open requests without that of this number.
abbrev pub without_attempt : ℕ → List Attempt → List Attempt
without_attempt num attempts = filter (λ (a : Attempt). not (a.num == num)) attempts

-- The request is accepted, and no longer open.
abbrev pub after_acceptance : ℕ → ClientData → ClientData
after_acceptance num s = record s { accepted = s.accepted + 1; attempts = without_attempt num s.attempts }

-- An answer to an open request is accepted, and the free places of the window are filled.
unfoldable pub accept_rule : ℕ → ℕ → ℕ → List Request → ClientData → AnswerBody → ClientData × List Out
accept_rule window proxies me script s b = if is_open b.num s.attempts then fill_window window proxies me script (after_acceptance b.num s) else (s, [])

-- The state at the start.
abbrev pub first_client : ClientData
first_client = record { ticks = 0; sent = 0; accepted = 0; attempts = [] }
