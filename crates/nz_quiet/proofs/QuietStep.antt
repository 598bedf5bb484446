-- A tick keeps a quiet run quiet: each request moves to its next place.
use Rattle.std.proofs.Common.{◌≡◌, ℕ, zero, suc, ◌+◌, ◌*◌, ◌<◌, ◌≤◌, ◌⊎◌, true, false, not, min, List, [], ◌∷◌, ◌++◌, length, Option, Some, None}
use Rattle.std.proofs.Common.{refl, sym, ap, subst, ◌∙◌, inl, inr, arith}
use Rattle.std.specs.Prelude.{slice_index_or}
use Rattle.std.specs.List.{AllByRecursion}
use Rattle.std.proofs.lemmas.Bool.{cases_Bool, not-true}
use Rattle.std.proofs.lemmas.Bool.Decides.{nat_tests}
use Rattle.nz_base.specs.Cluster.{replica_count}
use Rattle.nz_base.specs.declared.actor.Actor.{Actor}
use Rattle.nz_base.specs.declared.actor.Actor.TheVariants.{Replica, Proxy, Client}
use Rattle.nz_base.specs.declared.key.Id.{Id}
use Rattle.nz_base.specs.declared.key.Entry.{Entry}
use Rattle.nz_base.specs.declared.scenario.Request.{Request}
use Rattle.nz_base.specs.declared.limits.TheConstants.{UNITS_PER_TICK, MARGIN}
use Rattle.nz_base.specs.Key.{id_eq, id_of}
use Rattle.nz_base.specs.Log.{keys_of, has_id, HaveOwnIds}
use Rattle.nz_base.proofs.Names.{same_id}
use Rattle.nz_store.specs.declared.command.Answer.{Answer}
use Rattle.nz_buffers.specs.Buffers.{is_due, released, held_back}
use Rattle.nz_msg.specs.declared.message.Path.{Path}
use Rattle.nz_msg.specs.declared.message.Path.TheVariants as paths
use Rattle.nz_msg.specs.declared.message.RequestBody.{RequestBody}
use Rattle.nz_msg.specs.declared.message.TimedBody.{TimedBody}
use Rattle.nz_msg.specs.declared.message.FastReplyBody.{FastReplyBody}
use Rattle.nz_msg.specs.declared.message.AnswerBody.{AnswerBody}
use Rattle.nz_msg.specs.declared.message.Message.{Message}
use Rattle.nz_msg.specs.declared.message.Message.TheVariants as messages
use Rattle.nz_machine.specs.declared.data.Attempt.{Attempt}
use Rattle.nz_machine.specs.declared.event.Record.{Record}
use Rattle.nz_machine.specs.runs.Events.{id_at, script_command}
use Rattle.nz_machine.specs.rules.State.{Standing, Open, Decided, Group, Out}
use Rattle.nz_machine.specs.rules.Step.{script_of}
use Rattle.nz_machine.specs.runs.World.{state_after, Has, IsMember}
use Rattle.nz_machine.proofs.facts.FitClients as fits
use Rattle.nz_machine.proofs.journals.InTurn.{Rises, rises_most}
use Rattle.nz_machine.proofs.runs.Runs.{has_left, has_right, has_split, all_has}
use Rattle.nz_machine.proofs.lists.EachItem.{all_imply}
use Rattle.nz_quiet.specs.Requests.{own_proxy, HasRequest, IsDeadline}
use Rattle.nz_quiet.specs.Folds.{outs_of, heard_by}
use Rattle.nz_quiet.specs.Replicas.{IsQuietReplica, IsFreshBody, IsGoodReply, bodies_of, with_bodies, TickSends, SendsFast, SendsLogMod}
use Rattle.nz_quiet.specs.Replicas.{HearingSends, SendsSlow, SendsReport}
use Rattle.nz_quiet.specs.ProxyTicks.{said_of, stamped, Said, IsAskedIn, IsRepliedIn, Stands, Stays, Opens, Waits, Decides, MaySend, Stamps, Answers, IsBound}
use Rattle.nz_quiet.specs.ClientTicks.{asking, new_attempt, IsAnsweredIn, IsOpenAfter, OpenBefore, OpenNow, IsNewRequest, Asks}
use Rattle.nz_quiet.specs.Invariant.{standing_in, IsReleased, IsDecided, IsWaiting, HasPlace, Asked, Stamped, Entered, MayFly, IsQuietAt}
use Rattle.nz_quiet.specs.Invariant.{FliesRequest, FliesTimed, FliesFast, FliesSlow, FliesAnswer, FliesLogMod, FliesReport}
use Rattle.nz_quiet.proofs.Elements.{all_of_each, of_filter, has_filtered}
use Rattle.nz_quiet.proofs.Flight.{out_flies, flies_out}
use Rattle.nz_quiet.proofs.InFlight.{heard_has, of_heard, body_has, body_from, holds_id, id_held, kept_early, in_early, of_early}
use Rattle.nz_quiet.proofs.NextTick.{IsReplicaAfter, IsNextTick}

-- ---- what a kind of message in flight says

fast_is : (g : Group) (t : ℕ) (L E : List Entry) (J : List Record) (r : ℕ) (to : Actor) (b : FastReplyBody)
    → MayFly g t L E J (Replica r) (to, messages.FastReply b) → IsGoodReply g t L r to b
fast_is g t L E J r to b (FliesFast _ _ _ good) = good

-- what is known of a timed message in flight
pub record IsTimed (g : Group) (t : ℕ) (L E : List Entry) (J : List Record) (p : ℕ) (b : TimedBody) : Type 0 where
  pub fresh : IsFreshBody g t L E p b
  pub deadline : IsDeadline t 1 b.deadline
  pub standing : standing_in g J b.id ≡ Some (Open [])

pub timed_is : (g : Group) (t : ℕ) (L E : List Entry) (J : List Record) (from : Actor) (r : ℕ) (b : TimedBody)
    → MayFly g t L E J from (Replica r, messages.Timed b) → (p : ℕ) × IsTimed g t L E J p b
timed_is g t L E J _ r b (FliesTimed p _ _ fresh deadline standing) = (p, record { fresh = fresh; deadline = deadline; standing = standing })

-- what is known of a request in flight
record IsNewIn (g : Group) (J : List Record) (c p : ℕ) (b : RequestBody) : Type 0 where
  client : c < length g.scripts
  proxy : p ≡ own_proxy g c
  attempt : Has (state_after g (Client c) J).attempts (record { num = b.num; proxy = own_proxy g c; since = 0 })

request_is : (g : Group) (t : ℕ) (L E : List Entry) (J : List Record) (c p : ℕ) (b : RequestBody)
    → MayFly g t L E J (Client c) (Proxy p, messages.Request b) → IsNewIn g J c p b
request_is g t L E J c _ b (FliesRequest _ _ lt attempt) = record { client = lt; proxy = refl; attempt = attempt }

-- ---- what becomes of a standing

module _ (f : ℕ) (said : Said) (heard : List (Actor × Message)) (outs : List Out) (id : Id) where
  open_stays : (o q : Option Standing) → Stands f said heard outs id o q → o ≡ Some (Open []) → (IsRepliedIn heard id → ⊥) → q ≡ Some (Open [])
  open_stays o q (Stays same unasked unheard) is none = same ∙ is
  open_stays o q (Opens before after asked) is none = absurd (let both = sym before ∙ is in cc)
  open_stays o q (Waits rs before after replied noted) is none = absurd (none replied)
  open_stays o q (Decides before after replied sends_answer) is none = absurd (none replied)

  decided_stays : (o q : Option Standing) (a : Answer) (path : Path) → Stands f said heard outs id o q → o ≡ Some (Decided a path) → q ≡ Some (Decided a path)
  decided_stays o q a path (Stays same unasked unheard) is = same ∙ is
  decided_stays o q a path (Opens before after asked) is = absurd (let both = sym before ∙ is in cc)
  decided_stays o q a path (Waits rs before after replied noted) is = absurd (let both = sym before ∙ is in cc)
  decided_stays o q a path (Decides before after replied sends_answer) is = absurd (let both = sym before ∙ is in cc)

  unknown_stays : (o q : Option Standing) → Stands f said heard outs id o q → o ≡ None → (IsAskedIn heard id → ⊥) → q ≡ None
  unknown_stays o q (Stays same unasked unheard) is none = same ∙ is
  unknown_stays o q (Opens before after asked) is none = absurd (none asked)
  unknown_stays o q (Waits rs before after replied noted) is none = absurd (let both = sym before ∙ is in cc)
  unknown_stays o q (Decides before after replied sends_answer) is none = absurd (let both = sym before ∙ is in cc)

  unknown_opens : (o q : Option Standing) → Stands f said heard outs id o q → o ≡ None → IsAskedIn heard id → q ≡ Some (Open [])
  unknown_opens o q (Stays same unasked unheard) is asked = absurd (unasked asked)
  unknown_opens o q (Opens before after _) is asked = after
  unknown_opens o q (Waits rs before after replied noted) is asked = absurd (let both = sym before ∙ is in cc)
  unknown_opens o q (Decides before after replied sends_answer) is asked = absurd (let both = sym before ∙ is in cc)

-- ---- lists

-- ids of the early entries are not in the log
pub apart_from : (L E : List Entry) (e : Entry) → HaveOwnIds (keys_of (L ++ E)) → Has E e → has_id (keys_of L) (id_of e.key) ≡ false
apart_from [] E e own among = refl
apart_from (x ∷ L) E e own among =
    let rest = apart_from L E e own.1 among in
    elim (cases_Bool (id_eq (id_of e.key) (id_of x.key))) [
      | inr away ↦ rw away rest
      | inl here ↦
          let held = holds_id (L ++ E) e (has_right L E e among) in
          let same = same_id (id_of e.key) (id_of x.key) here in
          let yes : has_id (keys_of (L ++ E)) (id_of x.key) ≡ true = subst (λ (i : Id). has_id (keys_of (L ++ E)) i ≡ true) same held in
          let no = own.0 in
          absurd cc
    ]

-- an id that no entry has is not held
not_held : (es : List Entry) (id : Id) → ((e : Entry) → Has es e → id_of e.key ≡ id → ⊥) → has_id (keys_of es) id ≡ false
not_held es id none = elim (cases_Bool (has_id (keys_of es) id)) [
  | inr away ↦ away
  | inl held ↦ let t = id_held es id held in absurd (none t.0 t.1.0 t.1.1)
]

-- an open request has one of the numbers that were sent
rises_has : (low : ℕ) (xs : List Attempt) (high : ℕ) (a : Attempt) → Rises low xs high → Has xs a → (low < a.num) × (a.num ≤ high)
rises_has low [] high a h among = absurd among
rises_has low (x ∷ xs) high a h (inl same) =
    let is = ap (λ (y : Attempt). y.num) same in
    let below = h.0 in
    let most = rises_most x.num xs high h.1 in
    (omega (arith, is, below), omega (arith, is, most))
rises_has low (x ∷ xs) high a h (inr later) =
    let t = rises_has x.num xs high a h.1 later in
    let below = h.0 in
    let above = t.0 in
    (omega (arith, below, above), t.1)

-- the script of a client has the requests up to its length
in_script : (scripts : List (List Request)) (g : Group) (c num : ℕ) → g.scripts ≡ scripts → c < length scripts → 1 ≤ num → num ≤ length (script_of g c)
    → HasRequest scripts c num
in_script scripts g c num is lt least most = has scripts c lt (subst (λ (ss : List (List Request)). num ≤ length (slice_index_or ss c [])) is most)
  where
    has : (ss : List (List Request)) (k : ℕ) → k < length ss → num ≤ length (slice_index_or ss k []) → HasRequest ss k num
    has [] k lt most = absurd (omega (arith, lt))
    has (x ∷ ss) zero lt most = (least, most)
    has (x ∷ ss) (suc k) lt most = has ss k (omega (arith, lt)) most

-- ---- a tick

module _ (g : Group) (t : ℕ) (L E : List Entry) (flight : List (Actor × Out)) (J K : List Record) (next : List (Actor × Out))
    (now : IsQuietAt g t L E flight J) (step : IsNextTick g t L E flight J K next) where
  abbrev clock : ℕ
  clock = UNITS_PER_TICK * suc t

  abbrev pub log_now : List Entry
  log_now = L ++ released E clock

  abbrev pub early_now : List Entry
  early_now = with_bodies (held_back E clock) (bodies_of (heard_by (Replica 0) flight))

  abbrev proxy_of : Id → ℕ
  proxy_of id = own_proxy g id.client

  -- what is in flight is of its kind
  flies : (a : Actor) (o : Out) → Has flight (a, o) → MayFly g t L E J a o
  flies a o among = all_has (λ (x : Actor × Out). MayFly g t L E J x.0 x.1) flight (a, o) now.flies among

  below : (id : Id) → proxy_of id < g.proxies
  below id = fits.own_proxy g.proxies id.client step.group.least_proxies

  stands : (id : Id)
      → Stands g.f (said_of g L) (heard_by (Proxy (proxy_of id)) flight) (outs_of (Proxy (proxy_of id)) next) id (standing_in g J id) (standing_in g K id)
  stands id = (step.proxies (proxy_of id) (below id)).standings id

  -- a request that was replied to fast is in the log
  replied_in_log : (p : ℕ) (id : Id) → IsRepliedIn (heard_by (Proxy p) flight) id → has_id (keys_of L) id ≡ true
  replied_in_log p id replied =
      let good = fast_is g t L E J replied.replica (Proxy p) replied.body
      (flies (Replica replied.replica) (Proxy p, messages.FastReply replied.body)
      (of_heard (Proxy p) flight (Replica replied.replica) (messages.FastReply replied.body) replied.among)) in
      subst (λ (i : Id). has_id (keys_of L) i ≡ true) (sym good.id ∙ replied.of_it) (holds_id L good.entry good.among)

  -- an open request that is not in the log stays open
  stays_open : (id : Id) → standing_in g J id ≡ Some (Open []) → has_id (keys_of L) id ≡ false → standing_in g K id ≡ Some (Open [])
  stays_open id is none =
      open_stays g.f (said_of g L) (heard_by (Proxy (proxy_of id)) flight) (outs_of (Proxy (proxy_of id)) next) id (standing_in g J id) (standing_in g K id)
      (stands id) is (λ replied. let yes = replied_in_log (proxy_of id) id replied in let no = none in cc)

  early_apart : (e : Entry) → Has E e → has_id (keys_of L) (id_of e.key) ≡ false
  early_apart e among = apart_from L E e step.own_ids among

  -- ---- requests that are known, and others

  log_known : (e : Entry) → Has L e → standing_in g J (id_of e.key) ≡ None → ⊥
  log_known e among none = elim (all_has (λ (x : Entry). IsReleased g t L flight J x ⊎ IsDecided g t flight J x) L e now.log among) [
    | inl waits ↦ let both = sym waits.standing ∙ none in cc
    | inr done ↦ let both = sym done.standing ∙ none in cc
  ]

  early_known : (e : Entry) → Has E e → standing_in g J (id_of e.key) ≡ None → ⊥
  early_known e among none = let both = sym (all_has (IsWaiting g t J) E e now.early among).standing ∙ none in cc

  -- a request that goes to the replicas
  body_is : (r : ℕ) (b : TimedBody) → Has (bodies_of (heard_by (Replica r) flight)) b → (p : ℕ) × IsTimed g t L E J p b
  body_is r b among =
      let from = body_from (heard_by (Replica r) flight) b among in
      timed_is g t L E J from.0 r b (flies from.0 (Replica r, messages.Timed b) (of_heard (Replica r) flight from.0 (messages.Timed b) from.1))

  not_in_log : (id : Id) → standing_in g J id ≡ None → has_id (keys_of log_now) id ≡ false
  not_in_log id none = not_held log_now id (λ e among is. elim (has_split L (released E clock) e among) [
    | inl old ↦ log_known e old (ap (standing_in g J) is ∙ none)
    | inr due ↦ early_known e (of_filter (is_due clock) E e due).0 (ap (standing_in g J) is ∙ none)
  ])

  not_early : (id : Id) → standing_in g J id ≡ None → has_id (keys_of early_now) id ≡ false
  not_early id none = not_held early_now id (λ e among is. elim (of_early (held_back E clock) (bodies_of (heard_by (Replica 0) flight)) e among) [
    | inl held ↦ early_known e (of_filter (λ (x : Entry). not (is_due clock x)) E e held).0 (ap (standing_in g J) is ∙ none)
    | inr put ↦
        let body = (body_is 0 put.body put.among).1 in
        let same : put.body.id ≡ id = ap (λ (x : Entry). id_of x.key) put.is ∙ is in
        let both = sym body.standing ∙ ap (standing_in g J) same ∙ none in
        cc
  ])

  -- what is known of a request in flight to a proxy
  record IsUnknown (c p : ℕ) (b : RequestBody) : Type 0 where
    client : c < length g.scripts
    proxy : p ≡ own_proxy g c
    standing : standing_in g J (id_at c b.num) ≡ None
    least : 1 ≤ b.num
    sent : b.num ≤ (state_after g (Client c) J).sent
    script : b.num ≤ length (script_of g c)

  fresh_place : (c : ℕ) (a : Attempt) → a.since ≡ 0 → HasPlace g t L E flight J c a → standing_in g J (id_at c a.num) ≡ None
  fresh_place c a zero_is (Asked since command among standing log early) = standing
  fresh_place c a zero_is (Stamped since among) = absurd (omega (arith, zero_is, since))
  fresh_place c a zero_is (Entered since e among is deadline recent) = absurd (omega (arith, zero_is, since))

  asked_is : (c p : ℕ) (b : RequestBody) → Has flight (Client c, (Proxy p, messages.Request b)) → IsUnknown c p b
  asked_is c p b among =
      let new = request_is g t L E J c p b (flies (Client c) (Proxy p, messages.Request b) among) in
      let a : Attempt = record { num = b.num; proxy = own_proxy g c; since = 0 } in
      let turn = step.turns c new.client in
      let within = rises_has 0 (state_after g (Client c) J).attempts (state_after g (Client c) J).sent a turn.rising new.attempt in
      let least = within.0 in
      let most = within.1 in
      let few = turn.sent in
      record {
        client = new.client;
        proxy = new.proxy;
        standing = fresh_place c a refl (all_has (HasPlace g t L E flight J c) (state_after g (Client c) J).attempts a
            (now.attempts c new.client) new.attempt);
        least = omega (arith, least);
        sent = most;
        script = omega (arith, most, few);
      }

  -- ---- the log

  decides : (e : Entry) → Has L e → IsReleased g t L flight J e → IsDecided g (suc t) next K e
  decides e among waits =
      let id = id_of e.key in
      let p = proxy_of id in
      let done = step.answered id waits.standing (λ r lt.
      let x = waits.replied r lt in
      let b = x.1.0 in
      let good = fast_is g t L E J r x.0 b (flies (Replica r) (x.0, messages.FastReply b) x.1.1.0) in
      let to : x.0 ≡ Proxy p = good.to_proxy ∙ ap (λ (i : Id). Proxy (own_proxy g i.client)) x.1.1.1 in (
        b,
        (
          heard_has (Proxy p) flight (Replica r) (messages.FastReply b)
              (subst (λ (a : Actor). Has flight (Replica r, (a, messages.FastReply b))) to x.1.1.0),
          x.1.1.1,
        ),
      )) in
      let low = all_has (λ (y : Entry). y.key.deadline ≤ UNITS_PER_TICK * t) L e now.past among in
      record {
        past = omega (arith, low);
        answer = (said_of g L).answer id;
        standing = done.standing;
        on_its_way = λ _. out_flies (Proxy p) next
            (Client id.client, messages.Answer (record { num = id.num; answer = (said_of g L).answer id; path = paths.Fast })) done.sends_answer;
      }

  decided_still : (e : Entry) → IsDecided g t flight J e → IsDecided g (suc t) next K e
  decided_still e done =
      let id = id_of e.key in
      let past = done.past in
      record {
        past = omega (arith, past);
        answer = done.answer;
        standing =
            decided_stays g.f (said_of g L) (heard_by (Proxy (proxy_of id)) flight) (outs_of (Proxy (proxy_of id)) next) id (standing_in g J id)
            (standing_in g K id)
            done.answer paths.Fast (stands id) done.standing;
        on_its_way = λ recent. absurd (omega (arith, past, recent));
      }

  -- an entry of the log of the tick before is decided
  old_decided : (e : Entry) → Has L e → IsDecided g (suc t) next K e
  old_decided e among = elim (all_has (λ (x : Entry). IsReleased g t L flight J x ⊎ IsDecided g t flight J x) L e now.log among) [
    | inl waits ↦ decides e among waits
    | inr done ↦ decided_still e done
  ]

  releases_now : (e : Entry) → Has (released E clock) e → IsReleased g (suc t) log_now next K e
  releases_now e due =
      let d = of_filter (is_due clock) E e due in
      let waits = all_has (IsWaiting g t J) E e now.early d.0 in
      let later = waits.later in
      let p = own_proxy g e.key.client in
      record {
        now = omega (arith, later);
        standing = stays_open (id_of e.key) waits.standing (early_apart e d.0);
        replied = λ r lt.
            let part = step.replicas r lt in
            let x = part.ticked.replies e d.0 d.1 in (
              Proxy p,
              (
                x.body,
                (
                  out_flies (Replica r) next (Proxy p, messages.FastReply x.body)
                      (subst (λ (os : List Out). Has os (Proxy p, messages.FastReply x.body)) (sym part.sends) (has_left part.first part.second _ x.among)),
                  x.is,
                ),
              ),
            );
      }

  next_log : AllByRecursion (λ (e : Entry). IsReleased g (suc t) log_now next K e ⊎ IsDecided g (suc t) next K e) log_now
  next_log = all_of_each _ log_now (λ e among. elim (has_split L (released E clock) e among) [
    | inl old ↦ inr (old_decided e old)
    | inr due ↦ inl (releases_now e due)
  ])

  -- ---- early entries

  next_early : AllByRecursion (IsWaiting g (suc t) K) early_now
  next_early = all_of_each (IsWaiting g (suc t) K) early_now each
    where
      each : (e : Entry) → Has early_now e → IsWaiting g (suc t) K e
      each e among = elim (of_early (held_back E clock) (bodies_of (heard_by (Replica 0) flight)) e among) [
        | inl held ↦
            let d = of_filter (λ (x : Entry). not (is_due clock x)) E e held in
            let waits = all_has (IsWaiting g t J) E e now.early d.0 in
            let still = not-true (is_due clock e) d.1 in
            record { later = grind (arith, nat_tests, still); standing = stays_open (id_of e.key) waits.standing (early_apart e d.0) }
        | inr put ↦
            let body = (body_is 0 put.body put.among).1 in
            let later = body.fresh.later in
            subst (IsWaiting g (suc t) K) put.is
            (record { later = omega (arith, later); standing = stays_open put.body.id body.standing body.fresh.not_in_log })
      ]

  -- ---- what is known of a client's requests

  -- a request of a number that was not sent is not in flight
  not_asked : (c num p : ℕ) → (state_after g (Client c) J).sent < num → IsAskedIn (heard_by (Proxy p) flight) (id_at c num) → ⊥
  not_asked c num p above asked =
      let it = asked_is c p asked.body (of_heard (Proxy p) flight (Client c) (messages.Request asked.body) asked.among) in
      let most = it.sent in
      let same = asked.of_it in
      omega (arith, above, most, same)

  next_known : (c num : ℕ) → c < length g.scripts → (state_after g (Client c) K).sent < num → standing_in g K (id_at c num) ≡ None
  next_known c num lt above =
      let id = id_at c num in
      let more = (step.clients c lt).more in
      let before : (state_after g (Client c) J).sent < num = omega (arith, more, above) in
      unknown_stays g.f (said_of g L) (heard_by (Proxy (proxy_of id)) flight) (outs_of (Proxy (proxy_of id)) next) id (standing_in g J id) (standing_in g K id)
      (stands id) (now.known c num lt before) (not_asked c num (proxy_of id) before)

  -- ---- the places of open requests

  -- an answer in flight to the client is heard
  answered : (c p num : ℕ) (b : AnswerBody) → Has flight (Proxy p, (Client c, messages.Answer b)) → b.num ≡ num → IsAnsweredIn (heard_by (Client c) flight) num
  answered c p num b among is = record { proxy = p; body = b; among = heard_has (Client c) flight (Proxy p) (messages.Answer b) among; of_it = is }

  -- an entry of the log of an open request is not yet answered
  entered_log : (c num : ℕ) (e : Entry) → Has L e → id_of e.key ≡ id_at c num → UNITS_PER_TICK * t < e.key.deadline + 2 * UNITS_PER_TICK
      → (IsAnsweredIn (heard_by (Client c) flight) num → ⊥) → UNITS_PER_TICK * suc t < e.key.deadline + 2 * UNITS_PER_TICK
  entered_log c num e among is recent none = elim (all_has (λ (x : Entry). IsReleased g t L flight J x ⊎ IsDecided g t flight J x) L e now.log among) [
    | inl waits ↦ let late = waits.now in omega (arith, late)
    | inr done ↦
        let client : e.key.client ≡ c = ap (λ (i : Id). i.client) is in
        let body : AnswerBody = record { num = e.key.num; answer = done.answer; path = paths.Fast } in
        absurd (none (answered c (own_proxy g e.key.client) num body
        (subst (λ (x : ℕ). Has flight (Proxy (own_proxy g e.key.client), (Client x, messages.Answer body))) client (done.on_its_way recent))
        (ap (λ (i : Id). i.num) is)))
  ]

  -- an early entry is in the log or early after the tick
  early_goes : (e : Entry) → Has E e → Has early_now e ⊎ Has log_now e
  early_goes e among = elim (cases_Bool (is_due clock e)) [
    | inl due ↦ inr (has_right L (released E clock) e (has_filtered (is_due clock) E e among due))
    | inr still ↦
        inl (kept_early (held_back E clock) (bodies_of (heard_by (Replica 0) flight)) e
        (has_filtered (λ (x : Entry). not (is_due clock x)) E e among (ap not still)))
  ]

  -- a request that was stamped is early after the tick
  stamped_goes : (c : ℕ) (a : Attempt) → a.since ≡ 1 → (b : TimedBody) → Has flight (Proxy (own_proxy g c), (Replica 0, messages.Timed b))
      → b.id ≡ id_at c a.num
      → HasPlace g (suc t) log_now early_now next K c (record { num = a.num; proxy = a.proxy; since = a.since + 1 })
  stamped_goes c a since b among of_it =
      let bodies = bodies_of (heard_by (Replica 0) flight) in
      let held = body_has (heard_by (Replica 0) flight) (Proxy (own_proxy g c)) b
      (heard_has (Replica 0) flight (Proxy (own_proxy g c)) (messages.Timed b) among) in
      let it = in_early (held_back E clock) bodies b held in
      let timed = (body_is 0 b held).1 in
      elim (of_early (held_back E clock) bodies it.0 it.1.0) [
        | inl old ↦
            let early = (of_filter (λ (x : Entry). not (is_due clock x)) E it.0 old).0 in
            let yes : has_id (keys_of E) b.id ≡ true = subst (λ (i : Id). has_id (keys_of E) i ≡ true) it.1.1 (holds_id E it.0 early) in
            let no = timed.fresh.not_early in
            absurd cc
        | inr put ↦
            let body = (body_is 0 put.body put.among).1 in
            let later = body.fresh.later in
            let is : put.body.deadline ≡ it.0.key.deadline = ap (λ (x : Entry). x.key.deadline) put.is in
            let deadline : IsDeadline (suc t) (a.since + 1) it.0.key.deadline = elim body.deadline [
              | inl low ↦ inl (omega (arith, low, is, since))
              | inr high ↦ inr (omega (arith, high, is, since))
            ] in
            Entered (omega (arith, since)) it.0 (inl it.1.0) (it.1.1 ∙ of_it) deadline (omega (arith, later, is))
      ]

  older_place : (c : ℕ) (a : Attempt) → c < length g.scripts → HasPlace g t L E flight J c a → (IsAnsweredIn (heard_by (Client c) flight) a.num → ⊥)
      → HasPlace g (suc t) log_now early_now next K c (record { num = a.num; proxy = a.proxy; since = a.since + 1 })
  older_place c a lt (Asked since command among standing log early) none =
      let p = own_proxy g c in
      let b : RequestBody = record { num = a.num; command = command } in
      let stamp = (step.proxies p (below (id_at c a.num))).requests c b (heard_has (Proxy p) flight (Client c) (messages.Request b) among) in
      Stamped (omega (arith, since)) (λ r member. (_, (out_flies (Proxy p) next _ (stamp.each r member), refl)))
  older_place c a lt (Stamped since among) none = let x = among 0 (omega arith) in stamped_goes c a since x.0 x.1.0 x.1.1
  older_place c a lt (Entered since e among is deadline recent) none =
      let older : IsDeadline (suc t) (a.since + 1) e.key.deadline = elim deadline [
        | inl low ↦ inl (omega (arith, low))
        | inr high ↦ inr (omega (arith, high))
      ] in
      elim among [
        | inl early ↦
            let later = (all_has (IsWaiting g t J) E e now.early early).later in
            Entered (omega (arith, since)) e (early_goes e early) is older (omega (arith, later))
        | inr log ↦ Entered (omega (arith, since)) e (inr (has_left L (released E clock) e log)) is older (entered_log c a.num e log is recent none)
      ]

  new_place : (c num : ℕ) (outs : List Out) → c < length g.scripts → outs ≡ outs_of (Client c) next → (state_after g (Client c) J).sent < num
      → Has outs (asking g c num) → HasPlace g (suc t) log_now early_now next K c (new_attempt g c num)
  new_place c num outs lt is above sent =
      let id = id_at c num in
      let none = now.known c num lt above in
      Asked refl (script_command (script_of g c) num) (out_flies (Client c) next (asking g c num) (subst (λ (os : List Out). Has os (asking g c num)) is sent))
      (unknown_stays g.f (said_of g L) (heard_by (Proxy (proxy_of id)) flight) (outs_of (Proxy (proxy_of id)) next) id (standing_in g J id)
      (standing_in g K id)
      (stands id) none (not_asked c num (proxy_of id) above))
      (not_in_log id none) (not_early id none)

  open_place : (c : ℕ) → c < length g.scripts → (a : Attempt)
      → IsOpenAfter g c (state_after g (Client c) J) (heard_by (Client c) flight) (state_after g (Client c) K) (outs_of (Client c) next) a
      → HasPlace g (suc t) log_now early_now next K c a
  open_place c lt _ (OpenBefore a among none) =
      older_place c a lt (all_has (HasPlace g t L E flight J c) (state_after g (Client c) J).attempts a (now.attempts c lt) among) none
  open_place c lt _ (OpenNow num above most sent) = new_place c num (outs_of (Client c) next) lt refl above sent

  next_attempts : (c : ℕ) → c < length g.scripts → AllByRecursion (HasPlace g (suc t) log_now early_now next K c) (state_after g (Client c) K).attempts
  next_attempts c lt =
      all_imply (IsOpenAfter g c (state_after g (Client c) J) (heard_by (Client c) flight) (state_after g (Client c) K) (outs_of (Client c) next))
      (HasPlace g (suc t) log_now early_now next K c) (open_place c lt) (state_after g (Client c) K).attempts (step.clients c lt).open_after

  -- ---- what is in flight

  -- a replica's messages at its clock
  tick_flies : (r : ℕ) (to : Actor) (m : Message) → TickSends g (suc t) r log_now to m → MayFly g (suc t) log_now early_now K (Replica r) (to, m)
  tick_flies r to _ (SendsFast _ b good) = FliesFast r to b good
  tick_flies r _ _ (SendsLogMod q b first least own) =
      subst (λ (k : ℕ). MayFly g (suc t) log_now early_now K (Replica k) (Replica q, messages.LogMod b)) (sym first) (FliesLogMod q b least own)

  -- those on what it hears
  heard_flies : (r : ℕ) (to : Actor) (m : Message) → HearingSends g r L to m → MayFly g (suc t) log_now early_now K (Replica r) (to, m)
  heard_flies r _ _ (SendsSlow b view delay held) =
      let e = id_held L b.id held in
      let done = old_decided e.0 e.1.0 in
      FliesSlow r (own_proxy g b.id.client) b done.answer delay
      (subst (λ (i : Id). standing_in g K i ≡ Some (Decided done.answer paths.Fast)) e.1.1 done.standing)
  heard_flies r _ _ (SendsReport b least) = FliesReport r b least

  replica_flies : (r : ℕ) (o : Out) → r < replica_count g.f → Has (outs_of (Replica r) next) o → MayFly g (suc t) log_now early_now K (Replica r) o
  replica_flies r o lt among =
      let part = step.replicas r lt in
      elim (has_split part.first part.second o (subst (λ (os : List Out). Has os o) part.sends among)) [
        | inl first ↦ tick_flies r o.0 o.1 (all_has (λ (x : Out). TickSends g (suc t) r log_now x.0 x.1) part.first o part.ticked.sends first)
        | inr second ↦ heard_flies r o.0 o.1 (all_has (λ (x : Out). HearingSends g r L x.0 x.1) part.second o part.heard.sends second)
      ]

  -- a stamped request
  stamp_flies : (p c : ℕ) (b : RequestBody) (bound r : ℕ) → Has (heard_by (Proxy p) flight) (Client c, messages.Request b) → IsBound bound
      → MayFly g (suc t) log_now early_now K (Proxy p) (stamped clock bound c b r)
  stamp_flies p c b bound r among bounds =
      let it = asked_is c p b (of_heard (Proxy p) flight (Client c) (messages.Request b) among) in
      let id = id_at c b.num in
      let deadline : IsDeadline (suc t) 1 (clock + bound + MARGIN) = elim bounds [
        | inl low ↦ inl (omega (arith, low))
        | inr high ↦ inr (omega (arith, high))
      ] in
      let later : UNITS_PER_TICK * (suc t + 1) < clock + bound + MARGIN = elim bounds [ inl low ↦ omega (arith, low) | inr high ↦ omega (arith, high) ] in
      let heard = subst (λ (q : ℕ). Has (heard_by (Proxy q) flight) (Client c, messages.Request b)) it.proxy among in
      let opened = unknown_opens g.f (said_of g L) (heard_by (Proxy (proxy_of id)) flight) (outs_of (Proxy (proxy_of id)) next) id
      (standing_in g J id) (standing_in g K id)
      (stands id) it.standing (record { body = b; among = heard; of_it = refl }) in
      FliesTimed p r _ (record {
        proxy = it.proxy;
        sent = refl;
        later = later;
        asked = in_script g.scripts g c b.num refl it.client it.least it.script;
        not_in_log = not_in_log id it.standing;
        not_early = not_early id it.standing;
      }) deadline opened

  proxy_flies : (p : ℕ) (o : Out) → MaySend g.f (said_of g L) (state_after g (Proxy p) J) clock (heard_by (Proxy p) flight) o
      → MayFly g (suc t) log_now early_now K (Proxy p) o
  proxy_flies p _ (Stamps c b bound r among bounds member) = stamp_flies p c b bound r among bounds
  proxy_flies p _ (Answers id standing replied) =
      let good = fast_is g t L E J replied.replica (Proxy p) replied.body
      (flies (Replica replied.replica) (Proxy p, messages.FastReply replied.body)
      (of_heard (Proxy p) flight (Replica replied.replica) (messages.FastReply replied.body) replied.among)) in
      let e = good.entry in
      let low = all_has (λ (y : Entry). y.key.deadline ≤ UNITS_PER_TICK * t) L e now.past good.among in
      let late = good.now in
      FliesAnswer p id.client _ e refl (has_left L (released E clock) e good.among) (sym good.id ∙ replied.of_it) (omega (arith, low)) (omega (arith, late))

  client_flies : (c : ℕ) → c < length g.scripts → (o : Out) → IsNewRequest g c (state_after g (Client c) J) (state_after g (Client c) K) o
      → MayFly g (suc t) log_now early_now K (Client c) o
  client_flies c lt _ (Asks num above most among) = FliesRequest c _ lt among

  next_flies : AllByRecursion (λ (x : Actor × Out). MayFly g (suc t) log_now early_now K x.0 x.1) next
  next_flies = all_of_each (λ (x : Actor × Out). MayFly g (suc t) log_now early_now K x.0 x.1) next
      (λ x among. each x.0 x.1 (step.members x.0 x.1 among) (flies_out x.0 next x.1 among))
    where
      each : (a : Actor) (o : Out) → IsMember g a → Has (outs_of a next) o → MayFly g (suc t) log_now early_now K a o
      each (Replica r) o member among = replica_flies r o member among
      each (Proxy p) o member among =
          proxy_flies p o (all_has (MaySend g.f (said_of g L) (state_after g (Proxy p) J) clock (heard_by (Proxy p) flight)) (outs_of (Proxy p) next) o
          (step.proxies p member).sends among)
      each (Client c) o member among =
          client_flies c member o (all_has (IsNewRequest g c (state_after g (Client c) J) (state_after g (Client c) K)) (outs_of (Client c) next) o
          (step.clients c member).sends among)

  -- ---- all of it

  next_quiet_timer : (r : ℕ) → r < replica_count g.f → (state_after g (Replica r) K).quiet ≤ min (suc t) 1
  next_quiet_timer r lt = by_number r refl
    where
      part : IsReplicaAfter g t r L E flight (state_after g (Replica r) J) (state_after g (Replica r) K) (outs_of (Replica r) next)
      part = step.replicas r lt

      by_tick : (k : ℕ) → t ≡ k → 1 ≤ r → (state_after g (Replica r) K).quiet ≤ min (suc t) 1
      by_tick zero is least =
          let few = now.quiet r lt in
          let more = part.ticked.quiet in
          let kept = part.heard.quiet in
          omega (arith, is, few, more, kept)
      by_tick (suc k) is least =
          let sent = now.log_mods (omega (arith, is)) r least lt in
          let calm = part.heard.calm sent.0 (heard_has (Replica r) flight (Replica 0) (messages.LogMod sent.0) sent.1) in
          omega (arith, calm)

      by_number : (k : ℕ) → r ≡ k → (state_after g (Replica r) K).quiet ≤ min (suc t) 1
      by_number zero is =
          let few = now.quiet r lt in
          let more = part.ticked.calm is in
          let kept = part.heard.quiet in
          omega (arith, few, more, kept)
      by_number (suc k) is = by_tick t refl (omega (arith, is))

  first_after : IsReplicaAfter g t 0 L E flight (state_after g (Replica 0) J) (state_after g (Replica 0) K) (outs_of (Replica 0) next)
  first_after = step.replicas 0 (omega arith)

  pub next_quiet : IsQuietAt g (suc t) log_now early_now next K
  next_quiet = record {
    replicas = λ r lt.
        subst (λ (bs : List TimedBody). IsQuietReplica g (suc t) log_now (with_bodies (held_back E clock) bs) (state_after g (Replica r) K))
        (now.same_bodies r 0 lt (omega arith)) (step.replicas r lt).heard.state.replica;
    quiet = next_quiet_timer;
    proxies = λ p lt. let x = step.proxies p lt in record { up = x.up; clock = x.reads; count = x.count; samples = x.samples };
    ticks = λ c lt. let more = (step.clients c lt).ticks in let before = now.ticks c lt in omega (arith, more, before);
    log = next_log;
    past = first_after.heard.state.past;
    early = next_early;
    ours = first_after.heard.state.ours;
    attempts = next_attempts;
    flies = next_flies;
    log_mods = λ some r least lt.
        let part = first_after in
        let x = part.ticked.log_mods refl r least lt in (
          x.0,
          out_flies (Replica 0) next (Replica r, messages.LogMod x.0)
              (subst (λ (os : List Out). Has os (Replica r, messages.LogMod x.0)) (sym part.sends) (has_left part.first part.second _ x.1)),
        );
    same_bodies = step.same;
    known = next_known;
  }
