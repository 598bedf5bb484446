-- A replica of a quiet run at its clock.
use Rattle.std.proofs.Common.{◌≡◌, ℕ, zero, suc, ◌+◌, ◌*◌, ◌<◌, ◌≤◌, Bool, true, false, cond, not, min, eqb, List, [], ◌∷◌, ◌++◌, length, Option, Some, None}
use Rattle.std.proofs.Common.{refl, sym, ap, subst, ◌∙◌, inl, inr, arith}
use Rattle.std.specs.Prelude.{slice_get, slice_index, take, drop}
use Rattle.std.specs.List.{AllByRecursion}
use Rattle.std.specs.Map.{lookup}
use Rattle.std.specs.Option.{IfSome}
use Rattle.std.proofs.lemmas.Bool.{cond_both, cases_Bool, not-true, eqb-true}
use Rattle.std.proofs.lemmas.Bool.Decides.{nat_tests}
use Rattle.nz_base.specs.Cluster.{replica_count, leader_of}
use Rattle.nz_base.specs.declared.actor.Actor.{Actor}
use Rattle.nz_base.specs.declared.actor.Actor.TheVariants.{Replica, Proxy}
use Rattle.nz_base.specs.declared.key.Entry.{Entry}
use Rattle.nz_base.specs.declared.key.Id.{Id}
use Rattle.nz_base.specs.declared.limits.TheConstants.{UNITS_PER_TICK, MAX_CLOCK, MAX_ENTRIES, VIEW_TIMEOUT_TICKS, MAX_KEYS}
use Rattle.nz_base.specs.Key.{id_eq, id_of}
use Rattle.nz_base.specs.Log.{keys_of, AreRising}
use Rattle.nz_base.proofs.Booleans.{length-filter_le}
use Rattle.nz_base.proofs.Logs.{keys_append, rising_back}
use Rattle.nz_store.specs.declared.command.Answer.{Answer}
use Rattle.nz_store.specs.Sequence.{replies}
use Rattle.nz_msg.specs.declared.message.FastReplyBody.{FastReplyBody}
use Rattle.nz_msg.specs.declared.message.LogModBody.{LogModBody}
use Rattle.nz_msg.specs.declared.message.Message.{Message}
use Rattle.nz_msg.specs.declared.message.Message.TheVariants as messages
use Rattle.nz_buffers.specs.Buffers.{is_due, released, held_back}
use Rattle.nz_log.specs.Places.{place_of, digest_at}
use Rattle.nz_machine.specs.declared.data.Origin.{Origin}
use Rattle.nz_machine.specs.declared.data.Status.{Status}
use Rattle.nz_machine.specs.declared.data.Status.TheVariants.{Normal, ViewChange, Rejoining, Down}
use Rattle.nz_machine.specs.rules.State.{ReplicaData, Group, Out}
use Rattle.nz_machine.specs.rules.Replicas.{is_normal, is_down, leads, numbers_below, others, commands}
use Rattle.nz_machine.specs.rules.Releases.{log_with_entry, after_release, may_release, release_replies, releases, at_clock, release_rule}
use Rattle.nz_machine.specs.rules.LogMods.{log_mod_to, log_mods_to_others}
use Rattle.nz_machine.specs.runs.Shows.{ReplicaShows, ShowsFast}
use Rattle.nz_machine.specs.rules.Step.{mode_timer, tick_rule, tick_step}
use Rattle.nz_machine.specs.runs.World.{Has}
use Rattle.nz_machine.specs.rules.Views.{quiet_timer, enter_next}
use Rattle.nz_machine.proofs.runs.Runs.{has_left, has_right, has_split, all_has}
use Rattle.nz_machine.proofs.lists.EachItem.{all_filter, all_imply}
use Rattle.nz_machine.proofs.runs.Due.{HasReleased, release_due}
use Rattle.nz_machine.proofs.moves.MoveFacts.{tick_keeps}
use Rattle.nz_machine.proofs.lists.ListParts.{lookup_each}
use Rattle.nz_machine.proofs.shows.Replies.{tick_shows}
use Rattle.nz_machine.proofs.shows.Snapshots.{has_answers}
use Rattle.nz_quiet.specs.Requests.{own_proxy}
use Rattle.nz_quiet.specs.Replicas.{IsOwnOrigin, IsKnown, IsQuietReplica, IsGoodReply, TickSends, SendsFast, SendsLogMod, IsRepliedTo, MayTick, IsTicked}
use Rattle.nz_quiet.proofs.ReleaseReplies.{each_released, only_released}
use Rattle.nz_quiet.proofs.Elements.{all_of_each, is_mapped, has_mapped, of_filter, has_filtered, has_number}

-- ---- who leads

pub leads_is : (f r : ℕ) (s : ReplicaData) → s.view ≡ 0 → leads f r s ≡ eqb 0 r
leads_is f r s view =
    let first : leader_of f 0 ≡ 0 = omega arith in
    ap (λ (v : ℕ). eqb (leader_of f v) r) view ∙ ap (λ (k : ℕ). eqb k r) first

pub not_down : (m : Status) → is_normal m ≡ true → is_down m ≡ false
not_down Normal h = refl
not_down ViewChange h = absurd cc
not_down Rejoining h = absurd cc
not_down Down h = absurd cc

-- ---- what releases leave

record IsLeft (s t : ReplicaData) : Type 0 where
  status : t.status ≡ s.status
  view : t.view ≡ s.view
  vector : t.vector ≡ s.vector
  clock : t.clock ≡ s.clock
  late : t.late ≡ s.late
  origin : t.origin ≡ s.origin
  quiet : t.quiet ≡ s.quiet

releases_leave : (f me : ℕ) (s : ReplicaData) (es : List Entry) → IsLeft s (releases f me s es).0
unfolding releases
releases_leave f me s [] = record { status = refl; view = refl; vector = refl; clock = refl; late = refl; origin = refl; quiet = refl }
releases_leave f me s (e ∷ es) =
    let next = after_release f me s e es in
    let rest = releases f me next es in
    let ih = releases_leave f me next es in
    cond_both (may_release s e) (rest.0, release_replies f me next e ++ rest.1) (s, []) (λ (t : ReplicaData × List Out). IsLeft s t.0)
    (λ _. record { status = ih.status; view = ih.view; vector = ih.vector; clock = ih.clock; late = ih.late; origin = ih.origin; quiet = ih.quiet })
    (λ _. record { status = refl; view = refl; vector = refl; clock = refl; late = refl; origin = refl; quiet = refl })

-- a follower's sync point stays
releases_synced : (f me : ℕ) (s : ReplicaData) (es : List Entry) → leads f me s ≡ false → (releases f me s es).0.log.synced ≡ s.log.synced
unfolding releases
releases_synced f me s [] follows = refl
releases_synced f me s (e ∷ es) follows =
    let next = after_release f me s e es in
    let rest = releases f me next es in
    let same : next.log.synced ≡ s.log.synced = ap (λ (b : Bool). (log_with_entry b s.log e).synced) follows in
    cond_both (may_release s e) (rest.0, release_replies f me next e ++ rest.1) (s, []) (λ (t : ReplicaData × List Out). t.0.log.synced ≡ s.log.synced)
    (λ _. releases_synced f me next es follows ∙ same)
    (λ _. refl)

-- ---- the timer

-- nothing changes but the count of quiet ticks, and the leader sends log modifications
record IsCounted (f me : ℕ) (t : ReplicaData) (v : ReplicaData × List Out) : Type 0 where
  count : ℕ
  few : count ≤ t.quiet + 1
  calm : leads f me t ≡ true → count ≤ t.quiet
  state : v.0 ≡ record t { quiet = count }
  sends : v.1 ≡ cond (leads f me t) (log_mods_to_others f me t) []

timer_counts : (f me : ℕ) (t : ReplicaData) → t.quiet ≤ 1 → IsCounted f me t (cond (leads f me t) (t, log_mods_to_others f me t) (quiet_timer f me t))
timer_counts f me t few = elim (cases_Bool (leads f me t)) [
  | inl led ↦ rw led (record {
    count = t.quiet;
    few = omega arith;
    calm = λ _. omega arith;
    state = refl;
    sends = sym
        (ap (λ (b : Bool). cond b (log_mods_to_others f me t) []) led);
  })
  | inr follows ↦
      let later = record t { quiet = min (t.quiet + 1) VIEW_TIMEOUT_TICKS } in
      let short : eqb (min (t.quiet + 1) VIEW_TIMEOUT_TICKS) VIEW_TIMEOUT_TICKS ≡ false = grind (arith, nat_tests, few) in
      let timed : quiet_timer f me t ≡ (later, []) = ap (λ (b : Bool). cond b (enter_next f me later) (later, [])) short in
      rw follows (subst (λ (v : ReplicaData × List Out). IsCounted f me t v) (sym timed)
      (record {
        count = min (t.quiet + 1) VIEW_TIMEOUT_TICKS;
        few = omega arith;
        calm = λ led. absurd (let no = follows in cc);
        state = refl;
        sends = sym
            (ap (λ (b : Bool). cond b (log_mods_to_others f me t) []) follows);
      }))
]

mode_counts : (m : Status) (f me : ℕ) (t : ReplicaData) → is_normal m ≡ true → t.quiet ≤ 1 → IsCounted f me t (mode_timer m f me t)
mode_counts Normal f me t normal few = timer_counts f me t few
mode_counts ViewChange f me t normal few = absurd cc
mode_counts Rejoining f me t normal few = absurd cc
mode_counts Down f me t normal few = absurd cc

-- ---- origins

-- an origin that a replica knows is the client's own proxy
pub own_origin : (g : Group) (table : List (Id × Origin)) (id : Id) (origin : Origin) → AllByRecursion (IsOwnOrigin g) table
    → lookup (id_eq id) table ≡ Some origin → IsOwnOrigin g (id, origin)
own_origin g table id origin all known =
    subst (λ (o : Option Origin). IfSome o (λ v. IsOwnOrigin g (id, v))) known (lookup_each (IsOwnOrigin g) table id all)

-- ---- the whole tick

module _ (g : Group) (t r : ℕ) (L E : List Entry) (s : ReplicaData) where
  abbrev clock : ℕ
  clock = UNITS_PER_TICK * suc t

  -- the log and the early entries after it
  abbrev log_now : List Entry
  log_now = L ++ released E clock

  abbrev early_now : List Entry
  early_now = held_back E clock

  abbrev after_due : ReplicaData × List Out
  after_due = release_rule g.f r s clock

  within : MayTick g t r L E s → min clock MAX_CLOCK ≡ clock
  within h = let few = h.ticks in omega (arith, few)

  -- the releases are of the state at the clock
  is_releases : MayTick g t r L E s → after_due ≡ releases g.f r (at_clock s clock) s.early
  unfolding release_rule
  is_releases h = ap (λ (b : Bool). cond b (releases g.f r (at_clock s clock) s.early) (at_clock s clock, [])) h.replica.normal

  room : MayTick g t r L E s → length s.log.entries + length (released s.early clock) ≤ MAX_ENTRIES
  room h =
      let log = ap length h.replica.log in
      let early = ap length h.replica.early in
      let some = length-filter_le (is_due clock) s.early in
      let few = h.few in
      omega (arith, log, early, some, few)

  left : MayTick g t r L E s → IsLeft (at_clock s clock) after_due.0
  left h = subst (λ (u : ReplicaData × List Out). IsLeft (at_clock s clock) u.0) (sym (is_releases h)) (releases_leave g.f r (at_clock s clock) s.early)

  due_done : MayTick g t r L E s → HasReleased s s.early clock after_due.0
  due_done h =
      let some = room h in
      subst (λ (c : ℕ). HasReleased s s.early c after_due.0) (within h)
      (release_due g.f r s clock h.facts h.replica.normal
      (subst (λ (c : ℕ). length s.log.entries + length (released s.early c) ≤ MAX_ENTRIES) (sym (within h)) some))

  released_state : MayTick g t r L E s → IsQuietReplica g (suc t) log_now early_now after_due.0
  released_state h =
      let k = left h in
      let d = due_done h in
      let q = h.replica in
      record {
        normal = ap is_normal k.status ∙ q.normal;
        view = k.view ∙ q.view;
        vector = k.vector ∙ q.vector;
        clock = k.clock ∙ within h;
        log = d.log ∙ (λ i. q.log i ++ released (q.early i) clock);
        early = d.early ∙ ap (λ (es : List Entry). held_back es clock) q.early;
        none_late = k.late ∙ q.none_late;
        origins = subst (AllByRecursion (IsOwnOrigin g)) (sym k.origin) q.origins;
        known =
            all_imply (IsKnown s) (IsKnown after_due.0)
            (λ e known. record { origin = known.origin; known = ap (lookup (id_eq (id_of e.key))) k.origin ∙ known.known }) early_now
            (all_filter (IsKnown s) (λ (e : Entry). not (is_due clock e)) E q.known);
      }

  counted : MayTick g t r L E s → IsCounted g.f r after_due.0 (mode_timer after_due.0.status g.f r after_due.0)
  counted h =
      let k = left h in
      let same = k.quiet in
      let few = h.quiet in
      mode_counts after_due.0.status g.f r after_due.0 (released_state h).normal (omega (arith, same, few))

  abbrev ticked : ReplicaData × List Out
  ticked = tick_rule g.f r s clock

  ticked_state : MayTick g t r L E s → IsQuietReplica g (suc t) log_now early_now ticked.0
  ticked_state h =
      let q = released_state h in
      subst (IsQuietReplica g (suc t) log_now early_now) (sym (counted h).state) (record {
        normal = q.normal;
        view = q.view;
        vector = q.vector;
        clock = q.clock;
        log = q.log;
        early = q.early;
        none_late = q.none_late;
        origins = q.origins;
        known = all_imply (IsKnown after_due.0) (IsKnown (record after_due.0 { quiet = (counted h).count }))
            (λ e known. record { origin = known.origin; known = known.known }) early_now q.known;
      })

  ticked_quiet : MayTick g t r L E s → ticked.0.quiet ≤ s.quiet + 1
  ticked_quiet h =
      let c = counted h in
      let few = c.few in
      let is = ap (λ (u : ReplicaData). u.quiet) c.state in
      let same = (left h).quiet in
      omega (arith, few, is, same)

  ticked_calm : MayTick g t r L E s → r ≡ 0 → ticked.0.quiet ≤ s.quiet
  ticked_calm h first =
      let led : leads g.f r after_due.0 ≡ true = leads_is g.f r after_due.0 (released_state h).view ∙ ap (eqb 0) first in
      let few = (counted h).calm led in
      let is = ap (λ (u : ReplicaData). u.quiet) (counted h).state in
      let same = (left h).quiet in
      omega (arith, few, is, same)

  ticked_synced : MayTick g t r L E s → 1 ≤ r → ticked.0.log.synced ≡ s.log.synced
  ticked_synced h least =
      let follows : leads g.f r (at_clock s clock) ≡ false = leads_is g.f r s h.replica.view ∙ grind (arith, nat_tests, least) in
      ap (λ (u : ReplicaData). u.log.synced) (counted h).state
      ∙ ap (λ (u : ReplicaData × List Out). u.0.log.synced) (is_releases h)
      ∙ releases_synced g.f r (at_clock s clock) s.early follows

  -- ---- replies

  -- the leader's answer is that of its log
  answer_is : MayTick g t r L E s → (place : ℕ)
      → cond (leads g.f r s) (slice_get ticked.0.results place) None ≡ cond (eqb r 0) (slice_get (replies (commands log_now)) place) None
  answer_is h place = by_number r refl
    where
      by_number : (k : ℕ) → r ≡ k
          → cond (leads g.f r s) (slice_get ticked.0.results place) None ≡ cond (eqb r 0) (slice_get (replies (commands log_now)) place) None
      by_number zero is =
          let now = ticked_state h in
          let led : leads g.f r ticked.0 ≡ true = leads_is g.f r ticked.0 now.view ∙ ap (eqb 0) is in
          let results = (tick_keeps g.f r s clock h.facts).executed.led now.normal led in
          let before : leads g.f r s ≡ true = leads_is g.f r s h.replica.view ∙ ap (eqb 0) is in
          let first : eqb r 0 ≡ true = ap (λ (n : ℕ). eqb n 0) is in
          ap (λ (b : Bool). cond b (slice_get ticked.0.results place) None) before
          ∙ ap (λ (answers : List Answer). slice_get answers place) (results.results ∙ ap (λ (es : List Entry). replies (commands es)) now.log)
          ∙ sym (ap (λ (b : Bool). cond b (slice_get (replies (commands log_now)) place) None) first)
      by_number (suc k) is =
          let before : leads g.f r s ≡ false = leads_is g.f r s h.replica.view ∙ grind (arith, nat_tests, is) in
          let other : eqb r 0 ≡ false = grind (arith, nat_tests, is) in
          ap (λ (b : Bool). cond b (slice_get ticked.0.results place) None) before
          ∙ sym (ap (λ (b : Bool). cond b (slice_get (replies (commands log_now)) place) None) other)

  good_reply : MayTick g t r L E s → (to : Actor) (b : FastReplyBody) (e : Entry) → Has E e → is_due clock e ≡ true → b.id ≡ id_of e.key
      → ShowsFast g.f r s ticked.0 to b → IsGoodReply g (suc t) log_now r to b
  good_reply h to b e among due of_it shows =
      let now = ticked_state h in
      let own = own_origin g ticked.0.origin b.id shows.origin now.origins shows.known in
      let late = all_has (λ (x : Entry). UNITS_PER_TICK * t < x.key.deadline) E e h.later among in
      record {
        entry = e;
        among = has_right L (released E clock) e (has_filtered (is_due clock) E e among due);
        id = of_it;
        now = omega (arith, late);
        to_proxy = shows.receiver ∙ ap Proxy own.proxy;
        view = shows.view ∙ h.replica.view;
        vector = shows.vector ∙ now.vector;
        delay = shows.delay ∙ own.delay;
        place = shows.place;
        place_is = sym (ap (λ (es : List Entry). place_of es b.id) now.log) ∙ shows.place_is;
        digest = shows.digest ∙ ap (λ (es : List Entry). digest_at es shows.place) now.log;
        answer = shows.answer ∙ answer_is h shows.place;
      }

  -- ---- log modifications

  log_mod_is : MayTick g t r L E s → (o : Out) → r ≡ 0 → Has (log_mods_to_others g.f r after_due.0) o → TickSends g (suc t) r log_now o.0 o.1
  log_mod_is h o first among =
      let q = released_state h in
      let to = is_mapped (log_mod_to after_due.0) (others g.f r) o among in
      let other = (of_filter (λ (k : ℕ). not (eqb k r)) (numbers_below (replica_count g.f)) to.one to.among).1 in
      let apart : eqb to.one r ≡ false = not-true (eqb to.one r) other in
      subst (λ (x : Out). TickSends g (suc t) r log_now x.0 x.1) (sym to.is)
      (SendsLogMod to.one _ first (grind (arith, nat_tests, apart, first))
      (record {
        view = q.view;
        vector = q.vector;
        keys = ap
            (λ (es : List Entry). take MAX_KEYS (drop (slice_index after_due.0.ack to.one) (keys_of es))) q.log;
      }))

  timer_sends : MayTick g t r L E s → (o : Out) → Has (mode_timer after_due.0.status g.f r after_due.0).1 o → TickSends g (suc t) r log_now o.0 o.1
  timer_sends h o among =
      let leads_now = leads_is g.f r after_due.0 (released_state h).view in
      let sent = subst (λ (os : List Out). Has os o) ((counted h).sends ∙ ap
      (λ (b : Bool). cond b (log_mods_to_others g.f r after_due.0) []) leads_now) among in
      elim (cases_Bool (eqb 0 r)) [
        | inl first ↦
            log_mod_is h o (sym (eqb-true 0 r first)) (subst (λ (b : Bool). Has (cond b (log_mods_to_others g.f r after_due.0) []) o) first sent)
        | inr other ↦ absurd (subst (λ (b : Bool). Has (cond b (log_mods_to_others g.f r after_due.0) []) o) other sent)
      ]

  each_log_mod : MayTick g t r L E s → r ≡ 0 → (q : ℕ) → 1 ≤ q → q < replica_count g.f
      → (b : LogModBody) × Has (mode_timer after_due.0.status g.f r after_due.0).1 (Replica q, messages.LogMod b)
  each_log_mod h first q least below =
      let leads_now : leads g.f r after_due.0 ≡ true = leads_is g.f r after_due.0 (released_state h).view ∙ ap (eqb 0) first in
      let sends : (mode_timer after_due.0.status g.f r after_due.0).1 ≡ log_mods_to_others g.f r after_due.0 =
      (counted h).sends ∙ ap (λ (b : Bool). cond b (log_mods_to_others g.f r after_due.0) []) leads_now in
      let apart : not (eqb q r) ≡ true = grind (arith, nat_tests, least, first) in (
        _,
        subst (λ (os : List Out). Has os (log_mod_to after_due.0 q)) (sym sends)
            (has_mapped (log_mod_to after_due.0) (others g.f r) q
            (has_filtered (λ (k : ℕ). not (eqb k r)) (numbers_below (replica_count g.f)) q (has_number (replica_count g.f) q below) apart)),
      )

  -- ---- all of it

  reply_sends : MayTick g t r L E s → (o : Out) → Has after_due.1 o → TickSends g (suc t) r log_now o.0 o.1
  reply_sends h o among =
      let now : Has (releases g.f r (at_clock s clock) s.early).1 o = subst (λ (u : ReplicaData × List Out). Has u.1 o) (is_releases h) among in
      let of_due = only_released g.f r (at_clock s clock) s.early o now in
      let shown = (tick_shows g.f r None s clock (has_answers g.f r s h.facts)).shows in
      let shows = all_has (λ (x : Out). ReplicaShows g.f r None s ticked.0 x.0 x.1) ticked.1 o shown
      (has_left after_due.1 (mode_timer after_due.0.status g.f r after_due.0).1 o among) in
      let fast : ShowsFast g.f r s ticked.0 o.0 of_due.body = subst (λ (m : Message). ReplicaShows g.f r None s ticked.0 o.0 m) of_due.is shows in
      let early = subst (λ (es : List Entry). Has es of_due.entry) h.replica.early of_due.among in
      let due : is_due clock of_due.entry ≡ true = subst (λ (c : ℕ). is_due c of_due.entry ≡ true) (within h) of_due.due in
      subst (λ (m : Message). TickSends g (suc t) r log_now o.0 m) (sym of_due.is)
      (SendsFast o.0 of_due.body (good_reply h o.0 of_due.body of_due.entry early due of_due.of_it fast))

  each_reply : MayTick g t r L E s → (e : Entry) → Has E e → is_due clock e ≡ true → IsRepliedTo after_due.1 (own_proxy g e.key.client) (id_of e.key)
  each_reply h e among due =
      let q = h.replica in
      let known = all_has (IsKnown s) E e q.known among in
      let own = own_origin g s.origin (id_of e.key) known.origin q.origins known.known in
      let rising = rising_back (keys_of s.log.entries) (keys_of s.early)
      (subst AreRising (keys_append s.log.entries s.early) h.facts.entries.arranged.rising) in
      let some = room h in
      let c = within h in
      let replied : IsRepliedTo (releases g.f r (at_clock s clock) s.early).1 known.origin.proxy (id_of e.key) =
      each_released g.f r (at_clock s clock) s.early e known.origin rising
      (subst (λ (k : ℕ). length s.log.entries + length (released s.early k) ≤ MAX_ENTRIES) (sym c) some)
      (subst (λ (es : List Entry). Has es e) (sym q.early) among)
      (subst (λ (k : ℕ). is_due k e ≡ true) (sym c) due) known.known in
      subst (λ (p : ℕ). IsRepliedTo after_due.1 p (id_of e.key)) own.proxy
      (subst (λ (u : ReplicaData × List Out). IsRepliedTo u.1 known.origin.proxy (id_of e.key)) (sym (is_releases h)) replied)

  rule_ticks : MayTick g t r L E s → IsTicked g t r L E s ticked.0 ticked.1
  rule_ticks h =
      let timer = (mode_timer after_due.0.status g.f r after_due.0).1 in
      record {
        state = ticked_state h;
        quiet = ticked_quiet h;
        calm = ticked_calm h;
        synced = ticked_synced h;
        sends =
            all_of_each (λ (o : Out). TickSends g (suc t) r log_now o.0 o.1) ticked.1
            (λ o among. elim (has_split after_due.1 timer o among) [ inl reply ↦ reply_sends h o reply | inr timed ↦ timer_sends h o timed ]);
        replies = λ e among due. let x = each_reply h e among due in
            record { body = x.body; among = has_left after_due.1 timer _ x.among; is = x.is };
        log_mods = λ first q least below. let x = each_log_mod h first q least below in (x.0, has_right after_due.1 timer _ x.1);
      }

  -- A replica whose clock is read in a quiet run is as the tick says.
  pub ticks : MayTick g t r L E s → IsTicked g t r L E s (tick_step g (Replica r) s clock).0 (tick_step g (Replica r) s clock).1
  ticks h =
      subst (λ (u : ReplicaData × List Out). IsTicked g t r L E s u.0 u.1)
      (sym (ap (λ (b : Bool). cond b (s, []) ticked) (not_down s.status h.replica.normal))) (rule_ticks h)
