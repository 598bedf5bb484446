-- What a replica of a quiet run does with what it hears in a tick.
use Rattle.std.proofs.Common.{◌≡◌, ℕ, zero, suc, ◌+◌, ◌-◌, ◌*◌, ◌<◌, ◌≤◌, Bool, true, false, cond, not, ◌&&◌, eqb, List, [], ◌∷◌, ◌++◌, length}
use Rattle.std.proofs.Common.{append_assoc, length-append, ◌||◌, is_some, take, drop, Option, Some, None, refl, sym, ap, subst, ◌∙◌, inl, inr, arith}
use Rattle.std.specs.Prelude.{nat_le}
use Rattle.std.specs.List.{AllByRecursion, flat_map}
use Rattle.std.specs.Map.{lookup}
use Rattle.std.proofs.lemmas.Bool.{cond_both, cases_Bool}
use Rattle.std.proofs.lemmas.Bool.Decides.{nat_tests}
use Rattle.std.proofs.lemmas.List.{take-append-drop, take-append-le, drop-append-le, drop-drop, drop-map, length-map, length-drop, length-take}
use Rattle.indexmap.specs.IndexMap.{insert_entry}
use Rattle.nz_base.specs.Cluster.{replica_count}
use Rattle.nz_base.specs.Prefixes.{IsPrefix}
use Rattle.nz_base.specs.declared.actor.Actor.{Actor}
use Rattle.nz_base.specs.declared.actor.Actor.TheVariants.{Replica, Proxy}
use Rattle.nz_base.specs.declared.key.Entry.{Entry}
use Rattle.nz_base.specs.declared.key.Id.{Id}
use Rattle.nz_base.specs.declared.key.Key.{Key}
use Rattle.nz_base.specs.declared.limits.TheConstants.{UNITS_PER_TICK, MAX_KEYS}
use Rattle.nz_base.specs.Key.{key_below, key_eq, id_eq, id_of}
use Rattle.nz_base.specs.Log.{keys_of, has_id, has_key, is_above_last, HaveOwnIds}
use Rattle.nz_base.proofs.Keys.{KeyBelow-test}
use Rattle.nz_base.proofs.Names.{same_id, same_key}
use Rattle.nz_base.proofs.Logs.{above_last, keys_append, has_id-append, has_id_filter, own_in_prefix}
use Rattle.nz_log.specs.Places.{place_of}
use Rattle.nz_log.specs.Synced.{synced_part, unsynced_part}
use Rattle.nz_log.proofs.Placing.{place_none, place_held}
use Rattle.nz_buffers.specs.Buffers.{is_due, released, insert_by_key}
use Rattle.nz_msg.specs.declared.message.TimedBody.{TimedBody}
use Rattle.nz_msg.specs.declared.message.LogModBody.{LogModBody}
use Rattle.nz_msg.specs.declared.message.SyncReportBody.{SyncReportBody}
use Rattle.nz_msg.specs.declared.message.Message.{Message}
use Rattle.nz_msg.specs.declared.message.Message.TheVariants as messages
use Rattle.nz_machine.specs.declared.data.Origin.{Origin}
use Rattle.nz_machine.specs.rules.State.{ReplicaData, Group, Out}
use Rattle.nz_machine.specs.rules.Facts.{HasFacts}
use Rattle.nz_machine.specs.rules.Replicas.{leads, leads_view, key_with_deadline, slow_replies}
use Rattle.nz_machine.specs.rules.Requests.{origin_of, with_origin, entry_at, is_full, after_placing, after_timed, request_rule}
use Rattle.nz_machine.specs.rules.LogMods.{log_mod_rule, replies_since, sync_report_to, with_ack, with_commit, sync_report_rule}
use Rattle.nz_machine.specs.rules.Step.{replica_message, message_step}
use Rattle.nz_machine.specs.runs.World.{IsGroup}
use Rattle.nz_machine.proofs.lists.EachItem.{all_append, all_of_prefix, all_back, all_imply, all_insert}
use Rattle.nz_machine.proofs.facts.FitReplicas.{IsReplica}
use Rattle.nz_machine.proofs.facts.FitSteps.{message_fits}
use Rattle.nz_machine.proofs.lists.ListParts.{insert_each}
use Rattle.nz_machine.proofs.lists.LogPlaces.{has_place}
use Rattle.nz_machine.proofs.lists.Lookups.{lookup_inserted, lookup_other}
use Rattle.nz_quiet.specs.Requests.{OfScript}
use Rattle.nz_quiet.specs.Folds.{IsReadable, state_heard, outs_heard}
use Rattle.nz_quiet.specs.Replicas.{IsOwnOrigin, IsKnown, IsFreshBody, IsLogModOf, HearsTimed, HearsLogMod, HearsReport}
use Rattle.nz_quiet.specs.Replicas.{bodies_of, with_body, with_bodies, HearingSends, SendsSlow, SendsReport, MayHear, AreHeard, HasHeard}
use Rattle.nz_quiet.specs.Replicas.{with_synced, IsQuietFollower}
use Rattle.nz_quiet.proofs.Few.{few_entries}
use Rattle.nz_quiet.proofs.QuietRequests.{goes_early}
use Rattle.nz_quiet.proofs.QuietLogMods.{taken_calmly}
use Rattle.nz_quiet.proofs.ReplicaTicks.{leads_is, not_down, own_origin}
use Rattle.nz_quiet.proofs.Elements.{all_of_each}

-- ---- lists

-- keys of a list are a prefix of what follows in a longer one
keys_left : (ks : List Key) (start more most : ℕ) → IsPrefix (drop more (take most (drop start ks))) (drop (start + more) ks)
keys_left ks start more most =
    let cut : drop start ks ≡ take most (drop start ks) ++ drop most (drop start ks) = sym (take-append-drop most (drop start ks)) in
    subst (λ (xs : List Key). IsPrefix (drop more (take most (drop start ks))) xs) (drop-drop more start ks)
    (subst (λ (xs : List Key). IsPrefix (drop more (take most (drop start ks))) (drop more xs)) (sym cut)
    (dropped more (take most (drop start ks)) (drop most (drop start ks))))
  where
    dropped : (n : ℕ) (xs ys : List Key) → IsPrefix (drop n xs) (drop n (xs ++ ys))
    dropped zero xs ys = record { rest = ys; whole = refl }
    dropped (suc n) [] ys = record { rest = drop (suc n) ys; whole = refl }
    dropped (suc n) (x ∷ xs) ys = dropped n xs ys

longer_prefix : (xs ys zs : List Key) → IsPrefix xs ys → IsPrefix xs (ys ++ zs)
longer_prefix xs ys zs p =
    record { rest = p.rest ++ zs; whole = ap (λ (ks : List Key). ks ++ zs) p.whole ∙ append_assoc xs p.rest zs }

-- ---- one message

module _ (g : Group) (t r : ℕ) (L E now : List Entry) (s : ReplicaData) (group : IsGroup g) (member : r < replica_count g.f)
    (h : MayHear g t r L E now s) where
  abbrev clock : ℕ
  clock = UNITS_PER_TICK * suc t

  abbrev log_now : List Entry
  log_now = L ++ released E clock

  -- the state after a message keeps the facts
  facts_after : (from : Actor) (m : Message) → IsReadable g.f (Replica r) (from, (Replica r, m)) → HasFacts g.f r (replica_message g.f r s from m).0
  facts_after from m may =
      let number : IsReplica g.f r = record { least = group.least_f; most = group.most_f; member = member } in
      (message_fits g.f r s from m number (record { other = ap not may.other; counts = may.counts })
      (record { sender = may.sender; receiver = may.receiver; message = may.message }) h.facts).state

  -- a step on a message is that of its rule
  rule_is : (from : Actor) (m : Message) → message_step g (Replica r) s from m ≡ replica_message g.f r s from m
  rule_is from m = ap (λ (b : Bool). cond b (s, []) (replica_message g.f r s from m)) (not_down s.status h.replica.normal)

  -- ---- a request

  -- there is room
  not_full : is_full s ≡ false
  not_full =
      let q = h.replica in
      let apart : HaveOwnIds (keys_of (log_now ++ now)) =
      own_in_prefix (keys_of (log_now ++ now)) (keys_of s.late)
      (subst HaveOwnIds (keys_append (log_now ++ now) s.late)
      (subst (λ (es : List Entry). HaveOwnIds (keys_of es)) (sym (append_assoc log_now now s.late))
      (subst (λ (es : List Entry). HaveOwnIds (keys_of (log_now ++ (es ++ s.late)))) q.early
      (subst (λ (es : List Entry). HaveOwnIds (keys_of (es ++ (s.early ++ s.late)))) q.log h.facts.entries.arranged.own_ids)))) in
      let few = few_entries g.scripts (log_now ++ now) h.ours apart in
      let most = group.few_requests in
      let long = length-append log_now now in
      let log = ap length q.log in
      let early = ap length q.early in
      let late = ap length q.none_late in
      grind (arith, nat_tests, few, most, long, log, early, late)

  -- its key is above those of the log
  above_log : (b : TimedBody) → clock < b.deadline → is_above_last (keys_of s.log.entries) (key_with_deadline b.deadline b.id) ≡ true
  above_log b later =
      subst (λ (es : List Entry). is_above_last (keys_of es) (key_with_deadline b.deadline b.id) ≡ true) (sym h.replica.log)
      (above_last (keys_of log_now) (key_with_deadline b.deadline b.id) (λ x held. below log_now h.past x held))
    where
      below : (es : List Entry) → AllByRecursion (λ (e : Entry). e.key.deadline ≤ clock) es → (x : Key) → has_key (keys_of es) x ≡ true
          → key_below x (key_with_deadline b.deadline b.id) ≡ true
      below [] past x held = absurd cc
      below (e ∷ es) past x held = elim (cases_Bool (key_eq x e.key)) [
        | inl here ↦
            let low = past.0 in
            let under : key_below e.key (key_with_deadline b.deadline b.id) ≡ true = KeyBelow-test e.key (key_with_deadline b.deadline b.id)
            (inl (omega (arith, low, later))) in
            subst (λ (y : Key). key_below y (key_with_deadline b.deadline b.id) ≡ true) (sym (same_key x e.key here)) under
        | inr away ↦ below es past.1 x (rw away at held)
      ]

  abbrev with_request : ℕ → TimedBody → ReplicaData
  with_request p b = record s { origin = insert_entry id_eq s.origin b.id (origin_of s p b); early = with_body s.early b }

  request_is : (p : ℕ) (b : TimedBody) → IsFreshBody g t L E p b → request_rule g.f r s p b ≡ (with_request p b, [])
  unfolding request_rule
  request_is p b fresh =
      let q = h.replica in
      let not_due : has_id (keys_of (released E clock)) b.id ≡ false = has_id_filter (is_due clock) E b.id fresh.not_early in
      let not_there : has_id (keys_of log_now) b.id ≡ false =
      ap (λ (ks : List Key). has_id ks b.id) (keys_append L (released E clock)) ∙ has_id-append (keys_of L) (keys_of (released E clock)) b.id
      ∙ ap (λ (x : Bool). x || has_id (keys_of (released E clock)) b.id) fresh.not_in_log ∙ not_due in
      let unplaced : place_of s.log.entries b.id ≡ None = ap (λ (es : List Entry). place_of es b.id) q.log ∙ place_none log_now b.id not_there in
      let later = fresh.later in
      elim (cases_Bool (has_id (keys_of s.early) b.id)) [
        | inl held ↦
            let o = with_origin s p b in
            let same : with_body s.early b ≡ s.early = ap (λ (x : Bool). cond x s.early (insert_by_key s.early (entry_at b.deadline b))) held in
            ap (λ (x : Bool). cond x (after_timed g.f r o b (place_of s.log.entries b.id)) (s, [])) q.normal
            ∙ ap (after_timed g.f r o b) unplaced
            ∙ ap (λ (x : Bool). (cond x o (cond (is_full o) o (after_placing g.f r o b)), [])) held
            ∙ (λ i. (record o { early = sym same i }, []))
        | inr new ↦
            let put : with_body s.early b ≡ insert_by_key s.early (entry_at b.deadline b) =
            ap (λ (x : Bool). cond x s.early (insert_by_key s.early (entry_at b.deadline b))) new in
            goes_early g.f r s p b q.normal unplaced new not_full (above_log b (omega (arith, later))) q.none_late
            ∙ (λ i. (record s { origin = insert_entry id_eq s.origin b.id (origin_of s p b); early = sym put i }, []))
      ]

  -- what was known still is
  still_known : (p : ℕ) (b : TimedBody) (e : Entry) → IsKnown s e → IsKnown (with_request p b) e
  still_known p b e known = elim (cases_Bool (id_eq (id_of e.key) b.id)) [
    | inl same ↦
        record {
          origin = origin_of s p b;
          known = subst (λ (i : Id). lookup (id_eq i) (with_request p b).origin ≡ Some (origin_of s p b)) (sym (same_id (id_of e.key) b.id same))
              (lookup_inserted s.origin b.id (origin_of s p b));
        }
    | inr other ↦ record { origin = known.origin; known = lookup_other s.origin (id_of e.key) b.id (origin_of s p b) other ∙ known.known }
  ]

  all_with_body : (P : Entry → Type 0) (b : TimedBody) → AllByRecursion P now → P (entry_at b.deadline b) → AllByRecursion P (with_body now b)
  all_with_body P b all own =
      cond_both (has_id (keys_of now) b.id) now (insert_by_key now (entry_at b.deadline b)) (AllByRecursion P) (λ _. all)
      (λ _. all_insert P now (entry_at b.deadline b) all own)

  hears_request : (p : ℕ) (b : TimedBody) → IsFreshBody g t L E p b → IsReadable g.f (Replica r) (Proxy p, (Replica r, messages.Timed b))
      → HasHeard g t r L E now s ((Proxy p, messages.Timed b) ∷ []) (request_rule g.f r s p b).0 (request_rule g.f r s p b).1
  hears_request p b fresh may =
      let q = h.replica in
      let u = with_request p b in
      let is = request_is p b fresh in
      let facts : HasFacts g.f r u = subst (λ (v : ReplicaData × List Out). HasFacts g.f r v.0) is (facts_after (Proxy p) (messages.Timed b) may) in
      let at_clock = q.clock in
      let sent = fresh.sent in
      let own : IsOwnOrigin g (b.id, origin_of s p b) = record { proxy = fresh.proxy; delay = omega (arith, at_clock, sent) } in
      subst (λ (v : ReplicaData × List Out). HasHeard g t r L E now s ((Proxy p, messages.Timed b) ∷ []) v.0 v.1) (sym is)
      (record {
        state = record {
          replica = record {
            normal = q.normal;
            view = q.view;
            vector = q.vector;
            clock = q.clock;
            log = q.log;
            early = ap (λ (es : List Entry). with_body es b) q.early;
            none_late = q.none_late;
            origins = insert_each (IsOwnOrigin g) s.origin b.id (origin_of s p b) q.origins own;
            known =
                all_with_body (IsKnown u) b (all_imply (IsKnown s) (IsKnown u) (λ e known. still_known p b e known) now q.known)
                (record { origin = origin_of s p b; known = lookup_inserted s.origin b.id (origin_of s p b) });
          };
          facts = facts;
          ours =
              all_append (OfScript g.scripts) log_now (with_body now b) (all_of_prefix (OfScript g.scripts) log_now now h.ours)
              (all_with_body (OfScript g.scripts) b (all_back (OfScript g.scripts) log_now now h.ours) fresh.asked);
          past = h.past;
          synced = h.synced;
        };
        quiet = omega arith;
        calm = λ c among. elim among [
          | inl same ↦ absurd (let sender : Proxy p ≡ Replica 0 = ap (λ (x : Actor × Message). x.0) same in cc)
          | inr none ↦ absurd none
        ];
        sends = tt;
      })

  -- ---- a log modification

  -- it has keys of the follower's own log
  own_keys : (b : LogModBody) → IsLogModOf g L b → b.start ≤ s.log.synced → 1 ≤ r
      → IsPrefix (drop (s.log.synced - b.start) b.keys) (keys_of (unsynced_part s.log))
  own_keys b own reached least =
      let n = s.log.synced in
      let rest = released E clock in
      let sum : b.start + (n - b.start) ≡ n = omega (arith, reached) in
      let few = h.synced least in
      let long = length-map L (λ (e : Entry). e.key) in
      let whole : keys_of (unsynced_part s.log) ≡ drop n (keys_of L) ++ keys_of rest =
      sym (drop-map (λ (e : Entry). e.key) n s.log.entries) ∙ ap (λ (es : List Entry). drop n (keys_of es)) h.replica.log
      ∙ ap (drop n) (keys_append L rest) ∙ drop-append-le n (keys_of L) (keys_of rest) (omega (arith, few, long)) in
      let first : IsPrefix (drop (n - b.start) (take MAX_KEYS (drop b.start (keys_of L)))) (drop n (keys_of L)) =
      subst (λ (k : ℕ). IsPrefix (drop (n - b.start) (take MAX_KEYS (drop b.start (keys_of L)))) (drop k (keys_of L))) sum
      (keys_left (keys_of L) b.start (n - b.start) MAX_KEYS) in
      subst (IsPrefix (drop (n - b.start) b.keys)) (sym whole)
      (longer_prefix (drop (n - b.start) b.keys) (drop n (keys_of L)) (keys_of rest)
      (subst (λ (ks : List Key). IsPrefix (drop (n - b.start) ks) (drop n (keys_of L))) (sym own.keys) first))

  -- slow replies are for entries of the log of the tick before
  slow_sends : (u : ReplicaData) → u.view ≡ 0 → AllByRecursion (IsOwnOrigin g) u.origin → (es : List Entry)
      → AllByRecursion (λ (e : Entry). has_id (keys_of L) (id_of e.key) ≡ true) es
      → AllByRecursion (λ (o : Out). HearingSends g r L o.0 o.1)
      (flat_map (λ (e : Entry). slow_replies u (id_of e.key) (lookup (id_eq (id_of e.key)) u.origin)) es)
  slow_sends u view origins [] held = tt
  slow_sends u view origins (e ∷ es) held =
      all_append (λ (o : Out). HearingSends g r L o.0 o.1) (slow_replies u (id_of e.key) (lookup (id_eq (id_of e.key)) u.origin)) _
      (one (lookup (id_eq (id_of e.key)) u.origin) refl) (slow_sends u view origins es held.1)
    where
      one : (o : Option Origin) → lookup (id_eq (id_of e.key)) u.origin ≡ o
          → AllByRecursion (λ (x : Out). HearingSends g r L x.0 x.1) (slow_replies u (id_of e.key) o)
      one None is = tt
      one (Some origin) is =
          let own = own_origin g u.origin (id_of e.key) origin origins is in (
            subst (λ (p : ℕ). HearingSends g r L (Proxy p) (messages.SlowReply (record { view = u.view; id = id_of e.key; delay = origin.delay })))
                (sym own.proxy)
                (SendsSlow (record { view = u.view; id = id_of e.key; delay = origin.delay }) view own.delay held.0),
            tt,
          )

  -- the first entries of the log are of that log
  held_part : (n count : ℕ) → count ≤ length L → AllByRecursion (λ (e : Entry). has_id (keys_of L) (id_of e.key) ≡ true) (drop n (take count s.log.entries))
  held_part n count few =
      let P = λ (e : Entry). has_id (keys_of L) (id_of e.key) ≡ true in
      let all : AllByRecursion P L =
      all_of_each P L (λ e among. let t = has_place L e among in sym (place_held L (id_of e.key)) ∙ ap is_some t.1) in
      let same : take count s.log.entries ≡ take count L =
      ap (take count) h.replica.log ∙ take-append-le count L (released E clock) few in
      let taken : AllByRecursion P (take count L) =
      all_of_prefix P (take count L) (drop count L) (subst (AllByRecursion P) (sym (take-append-drop count L)) all) in
      subst (λ (es : List Entry). AllByRecursion P (drop n es)) (sym same)
      (all_back P (take n (take count L)) (drop n (take count L)) (subst (AllByRecursion P) (sym (take-append-drop n (take count L))) taken))

  hears_log_mod : (b : LogModBody) → 1 ≤ r → IsLogModOf g L b → IsReadable g.f (Replica r) (Replica 0, (Replica r, messages.LogMod b))
      → HasHeard g t r L E now s ((Replica 0, messages.LogMod b) ∷ []) (log_mod_rule g.f r s 0 b).0 (log_mod_rule g.f r s 0 b).1
  hears_log_mod b least own may =
      let q = h.replica in
      let follows : leads g.f r s ≡ false = leads_is g.f r s q.view ∙ grind (arith, nat_tests, least) in
      let follower : IsQuietFollower g.f r s =
      record { facts = h.facts; normal = q.normal; view = q.view; vector = q.vector; none_late = q.none_late; follows = follows } in
      let taken = taken_calmly g.f r s b follower (record { view = own.view; vector = own.vector; keys = λ reached. own_keys b own reached least }) in
      let u = record s { log = with_synced s.log taken.count; quiet = 0; commit = taken.commit } in
      let w = log_mod_rule g.f r s 0 b in
      let synced = h.synced least in
      let long = ap length own.keys ∙ length-take MAX_KEYS (drop b.start (keys_of L)) in
      let left = length-drop b.start (keys_of L) in
      let many = length-map L (λ (e : Entry). e.key) in
      let count_few : taken.count ≤ length L = elim taken.most [
        | inl few ↦ omega (arith, few, synced)
        | inr reach ↦ let start = reach.0 in let most = reach.1 in omega (arith, start, most, synced, long, left, many)
      ] in
      let facts : HasFacts g.f r u = subst (HasFacts g.f r) taken.state (facts_after (Replica 0) (messages.LogMod b) may) in
      let P = λ (o : Out). HearingSends g r L o.0 o.1 in
      let report : P (sync_report_to 0 w.0) = SendsReport _ least in
      let slow : AllByRecursion P (replies_since w.0 s.log.synced) =
      subst (λ (v : ReplicaData). AllByRecursion P (replies_since v s.log.synced)) (sym taken.state)
      (slow_sends u q.view q.origins (drop s.log.synced (synced_part u.log)) (held_part s.log.synced taken.count count_few)) in
      let quiet_now : w.0.quiet ≡ 0 = ap (λ (v : ReplicaData). v.quiet) taken.state in
      record {
        state = subst (MayHear g t r L E now) (sym taken.state) (record {
          replica = record {
            normal = q.normal;
            view = q.view;
            vector = q.vector;
            clock = q.clock;
            log = q.log;
            early = q.early;
            none_late = q.none_late;
            origins = q.origins;
            known = all_imply (IsKnown s) (IsKnown u) (λ e known. record { origin = known.origin; known = known.known }) now q.known;
          };
          facts = facts;
          ours = h.ours;
          past = h.past;
          synced = λ _. count_few;
        });
        quiet = omega (arith, quiet_now);
        calm = λ c among. quiet_now;
        sends = elim taken.sends [
          | inl one ↦ subst (AllByRecursion P) (sym one) (report, tt)
          | inr more ↦ subst (AllByRecursion P) (sym more) (all_append P (replies_since w.0 s.log.synced) (sync_report_to 0 w.0 ∷ []) slow (report, tt))
        ];
      }

  -- ---- a sync report

  -- a report changes what is acknowledged and committed alone
  hears_report : (q : ℕ) (b : SyncReportBody) → IsReadable g.f (Replica r) (Replica q, (Replica r, messages.SyncReport b))
      → HasHeard g t r L E now s ((Replica q, messages.SyncReport b) ∷ []) (sync_report_rule g.f r s q b).0 (sync_report_rule g.f r s q b).1
  unfolding sync_report_rule
  hears_report sender b may =
      let acked = with_ack s sender b.synced in
      let counted = with_commit g.f r acked in
      cond_both (leads_view g.f r s && (eqb b.view s.view && nat_le b.synced (length s.log.entries))) (counted, []) (s, [])
      (λ (v : ReplicaData × List Out). HasFacts g.f r v.0 → HasHeard g t r L E now s ((Replica sender, messages.SyncReport b) ∷ []) v.0 v.1)
      (λ _ facts. noted acked.ack counted.commit facts) (λ _ facts. noted s.ack s.commit facts)
      (facts_after (Replica sender) (messages.SyncReport b) may)
    where
      noted : (ack : List ℕ) (commit : ℕ) → HasFacts g.f r (record s { ack = ack; commit = commit })
          → HasHeard g t r L E now s ((Replica sender, messages.SyncReport b) ∷ []) (record s { ack = ack; commit = commit }) []
      noted ack commit facts =
          let q = h.replica in
          let u = record s { ack = ack; commit = commit } in
          record {
            state = record {
              replica = record {
                normal = q.normal;
                view = q.view;
                vector = q.vector;
                clock = q.clock;
                log = q.log;
                early = q.early;
                none_late = q.none_late;
                origins = q.origins;
                known = all_imply (IsKnown s) (IsKnown u) (λ e known. record { origin = known.origin; known = known.known }) now q.known;
              };
              facts = facts;
              ours = h.ours;
              past = h.past;
              synced = h.synced;
            };
            quiet = omega arith;
            calm = λ c among. elim among [
              | inl is ↦ absurd (let same : messages.SyncReport b ≡ messages.LogMod c = ap (λ (x : Actor × Message). x.1) is in cc)
              | inr none ↦ absurd none
            ];
            sends = tt;
          }

-- ---- all messages of a tick

-- what was heard first, and then the rest
heard_more : (g : Group) (t r : ℕ) (L E now : List Entry) (s : ReplicaData) (from : Actor) (m : Message) (hs : List (Actor × Message))
    (w : ReplicaData × List Out) (bs : List TimedBody) → bodies_of ((from, m) ∷ hs) ≡ bs ++ bodies_of hs → bodies_of ((from, m) ∷ []) ≡ bs
    → HasHeard g t r L E now s ((from, m) ∷ []) w.0 w.1
    → HasHeard g t r L E (with_bodies now bs) w.0 hs (state_heard g (Replica r) w.0 hs) (outs_heard g (Replica r) w.0 hs)
    → HasHeard g t r L E now s ((from, m) ∷ hs) (state_heard g (Replica r) w.0 hs) (w.1 ++ outs_heard g (Replica r) w.0 hs)
heard_more g t r L E now s from m hs w bs all first one rest =
    let few = one.quiet in
    let fewer = rest.quiet in
    record {
      state =
          subst (λ (es : List Entry). MayHear g t r L E es (state_heard g (Replica r) w.0 hs))
          (sym (with_join now bs (bodies_of hs)) ∙ ap (with_bodies now) (sym all)) rest.state;
      quiet = omega (arith, few, fewer);
      calm = λ b among. elim among [
        | inl here ↦ let none = one.calm b (inl here) in omega (arith, fewer, none)
        | inr later ↦ rest.calm b later
      ];
      sends = all_append (λ (o : Out). HearingSends g r L o.0 o.1) w.1 (outs_heard g (Replica r) w.0 hs) one.sends rest.sends;
    }
  where
    with_join : (es : List Entry) (xs ys : List TimedBody) → with_bodies es (xs ++ ys) ≡ with_bodies (with_bodies es xs) ys
    with_join es [] ys = refl
    with_join es (x ∷ xs) ys = with_join (with_body es x) xs ys

-- A replica that hears all messages of a quiet tick is as the tick says.
pub hears : (g : Group) (t r : ℕ) (L E now : List Entry) (s : ReplicaData) (hs : List (Actor × Message)) → IsGroup g → r < replica_count g.f
    → MayHear g t r L E now s → AreHeard g t r L E hs
    → HasHeard g t r L E now s hs (state_heard g (Replica r) s hs) (outs_heard g (Replica r) s hs)
unfolding state_heard outs_heard
hears g t r L E now s [] group member h all = record { state = h; quiet = omega arith; calm = λ b none. absurd none; sends = tt }
hears g t r L E now s ((_, _) ∷ hs) group member h ((HearsTimed p b fresh, may), all) =
    let w = message_step g (Replica r) s (Proxy p) (messages.Timed b) in
    let one : HasHeard g t r L E now s ((Proxy p, messages.Timed b) ∷ []) w.0 w.1 =
    subst (λ (v : ReplicaData × List Out). HasHeard g t r L E now s ((Proxy p, messages.Timed b) ∷ []) v.0 v.1)
    (sym (rule_is g t r L E now s group member h (Proxy p) (messages.Timed b))) (hears_request g t r L E now s group member h p b fresh may) in
    heard_more g t r L E now s (Proxy p) (messages.Timed b) hs w (b ∷ []) refl refl one
    (hears g t r L E (with_body now b) w.0 hs group member one.state all)
hears g t r L E now s ((_, _) ∷ hs) group member h ((HearsLogMod b least own, may), all) =
    let w = message_step g (Replica r) s (Replica 0) (messages.LogMod b) in
    let one : HasHeard g t r L E now s ((Replica 0, messages.LogMod b) ∷ []) w.0 w.1 =
    subst (λ (v : ReplicaData × List Out). HasHeard g t r L E now s ((Replica 0, messages.LogMod b) ∷ []) v.0 v.1)
    (sym (rule_is g t r L E now s group member h (Replica 0) (messages.LogMod b))) (hears_log_mod g t r L E now s group member h b least own may) in
    heard_more g t r L E now s (Replica 0) (messages.LogMod b) hs w [] refl refl one (hears g t r L E now w.0 hs group member one.state all)
hears g t r L E now s ((_, _) ∷ hs) group member h ((HearsReport q b, may), all) =
    let w = message_step g (Replica r) s (Replica q) (messages.SyncReport b) in
    let one : HasHeard g t r L E now s ((Replica q, messages.SyncReport b) ∷ []) w.0 w.1 =
    subst (λ (v : ReplicaData × List Out). HasHeard g t r L E now s ((Replica q, messages.SyncReport b) ∷ []) v.0 v.1)
    (sym (rule_is g t r L E now s group member h (Replica q) (messages.SyncReport b))) (hears_report g t r L E now s group member h q b may) in
    heard_more g t r L E now s (Replica q) (messages.SyncReport b) hs w [] refl refl one (hears g t r L E now w.0 hs group member one.state all)
