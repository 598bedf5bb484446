-- Each kind of message of a replica is one that frames can carry.
use Rattle.std.proofs.Common.{◌≡◌, ℕ, zero, suc, ◌<◌, ◌≤◌, ◌^◌, max, not, cond, true, List, [], ◌∷◌, ◌++◌, length, take, drop, map, Some}
use Rattle.std.proofs.Common.{None, is_some, refl, sym, ap, subst, ◌∙◌, inl, inr, arith, length-append, length-take, take-append-drop}
use Rattle.std.proofs.lemmas.Bool.{or_cases, cond_both}
use Rattle.std.specs.Prelude.{IfSome, slice_index, slice_get}
use Rattle.std.specs.List.{AllByRecursion, filter}
use Rattle.std.specs.Map.{lookup}
use Rattle.nz_base.specs.Actor.{HasAddress}
use Rattle.nz_base.specs.Cluster.{replica_count}
use Rattle.nz_base.specs.declared.actor.Actor.{Actor}
use Rattle.nz_base.specs.declared.actor.Actor.TheVariants.{Replica}
use Rattle.nz_base.specs.declared.key.Id.{Id}
use Rattle.nz_base.specs.declared.key.Key.{Key}
use Rattle.nz_base.specs.declared.key.Entry.{Entry}
use Rattle.nz_base.specs.Key.{id_eq, id_of}
use Rattle.nz_base.specs.Log.{keys_of, has_id, AreRising, HaveOwnIds}
use Rattle.nz_base.proofs.Booleans.{length-filter_le}
use Rattle.nz_base.proofs.Logs.{rising_prefix, rising_back, own_in_prefix, rising_filter, own_filter, keys_append}
use Rattle.nz_base.proofs.Names.{same_id}
use Rattle.nz_base.specs.declared.limits.TheConstants.{MAX_ENTRIES, MAX_VIEW, MAX_KEYS}
use Rattle.nz_digest.proofs.Keys.{length-digest}
use Rattle.nz_log.specs.Places.{place_of, entry_key}
use Rattle.nz_log.proofs.Placing.{place_held}
use Rattle.nz_msg.specs.Messages.{Fits}
use Rattle.nz_msg.specs.Fields.{id, key, keys, entries, answer, view, vector}
use Rattle.nz_msg.specs.declared.message.FastReplyBody.{FastReplyBody}
use Rattle.nz_msg.specs.declared.message.SlowReplyBody.{SlowReplyBody}
use Rattle.nz_msg.specs.declared.message.LogModBody.{LogModBody}
use Rattle.nz_msg.specs.declared.message.FetchBody.{FetchBody}
use Rattle.nz_msg.specs.declared.message.FetchReplyBody.{FetchReplyBody}
use Rattle.nz_msg.specs.declared.message.SyncReportBody.{SyncReportBody}
use Rattle.nz_msg.specs.declared.message.ViewAskBody.{ViewAskBody}
use Rattle.nz_msg.specs.declared.message.ViewChangeBody.{ViewChangeBody}
use Rattle.nz_msg.specs.declared.message.StartViewBody.{StartViewBody}
use Rattle.nz_msg.specs.declared.message.VectorAskBody.{VectorAskBody}
use Rattle.nz_msg.specs.declared.message.VectorTellBody.{VectorTellBody}
use Rattle.nz_msg.specs.declared.message.RejoinAskBody.{RejoinAskBody}
use Rattle.nz_msg.specs.declared.message.RejoinTellBody.{RejoinTellBody}
use Rattle.nz_msg.specs.declared.message.StateAskBody.{StateAskBody}
use Rattle.nz_msg.specs.declared.message.StateTellBody.{StateTellBody}
use Rattle.nz_msg.specs.declared.message.Message.{Message}
use Rattle.nz_msg.specs.declared.message.Message.TheVariants as messages
use Rattle.nz_machine.specs.declared.data.Origin.{Origin}
use Rattle.nz_machine.specs.rules.State.{ReplicaData}
use Rattle.nz_machine.specs.rules.Facts.{FitsEntry, IsKnown, HasFacts}
use Rattle.nz_machine.specs.rules.Replicas.{numbers_below, leads}
use Rattle.nz_machine.specs.rules.LogMods.{log_mod_from, sync_keys, missing_ids, is_asked, is_held}
use Rattle.nz_machine.specs.rules.Views.{view_change_message}
use Rattle.nz_machine.specs.rules.Adopting.{start_view_message}
use Rattle.nz_machine.specs.rules.Rejoining.{vector_ask_message, rejoin_ask_message, state_ask_message, rejoin_tell_message, state_tell_message}
use Rattle.nz_machine.specs.runs.Hearing.{Heard}
use Rattle.nz_machine.specs.runs.Shows.{IsOther, IsRest, ShowsFast, ShowsSlow, ShowsLogMod, ShowsFetch, ShowsFetchReply}
use Rattle.nz_machine.specs.runs.Shows.{ShowsReport, ShowsViewAsk, ShowsViewChange, ShowsStartView, ShowsVectorAsk, ShowsVectorTell}
use Rattle.nz_machine.specs.runs.Shows.{ShowsRejoinAsk, ShowsRejoinTell, ShowsStateAsk, ShowsStateTell, ReplicaShows}
use Rattle.nz_machine.proofs.runs.Runs.{FitsOut}
use Rattle.nz_machine.proofs.lists.EachItem.{all_append, all_of_prefix, all_filter, all_imply}
use Rattle.nz_machine.proofs.facts.KeysApart.{own_rest}
use Rattle.nz_machine.proofs.lists.ListParts.{all_take, all_drop, all_map, all_get, all_index, lookup_each, few_either, one_of_id}
use Rattle.nz_machine.proofs.facts.SentFields.{view_fits, ids_fit, vector_fits, AreInOrder, keys_fit, entries_fit, log_fits, keys_of_fit, few_keys, few_ids}
use Rattle.nz_machine.proofs.shows.Following.{sync_rest}

-- a cluster that frames can name, and one of its replicas
pub record IsReplica (f me : ℕ) : Type 0 where
  pub least : 1 ≤ f
  pub most : f ≤ 4
  pub member : me < replica_count f

pub numbers_are_below : (n most : ℕ) → n ≤ most → AllByRecursion (λ r. r < most) (numbers_below n)
numbers_are_below zero most le = tt
numbers_are_below (suc n) most le =
    all_append (λ r. r < most) (numbers_below n) (n ∷ []) (numbers_are_below n most (omega (arith, le))) (omega (arith, le), tt)

-- ---- the keys of a log

-- each entry of the log fits
log_each : (f me : ℕ) (s : ReplicaData) → HasFacts f me s → AllByRecursion FitsEntry s.log.entries
log_each f me s h = all_of_prefix FitsEntry s.log.entries (s.early ++ s.late) h.entries.arranged.fit

-- the log of a replica
pub record IsLedLog (s : ReplicaData) : Type 0 where
  pub order : AreInOrder (keys_of s.log.entries)

pub led_log : (f me : ℕ) (s : ReplicaData) → HasFacts f me s → IsLedLog s
led_log f me s h =
    let rising = subst AreRising (keys_append s.log.entries s.early) h.entries.arranged.rising in
    let own = subst HaveOwnIds (keys_append s.log.entries (s.early ++ s.late)) h.entries.arranged.own_ids in
    let order : AreInOrder (keys_of s.log.entries) = record {
      rising = rising_prefix (keys_of s.log.entries) (keys_of s.early) rising;
      own_ids = own_in_prefix (keys_of s.log.entries) (keys_of (s.early ++ s.late)) own;
    } in
    record { order = order }

order_take : (n : ℕ) (keys : List Key) → AreInOrder keys → AreInOrder (take n keys)
order_take n keys h =
    let whole = sym (take-append-drop n keys) in
    record {
      rising = rising_prefix (take n keys) (drop n keys) (subst AreRising whole h.rising);
      own_ids = own_in_prefix (take n keys) (drop n keys) (subst HaveOwnIds whole h.own_ids);
    }

order_drop : (n : ℕ) (keys : List Key) → AreInOrder keys → AreInOrder (drop n keys)
order_drop n keys h =
    let whole = sym (take-append-drop n keys) in
    record {
      rising = rising_back (take n keys) (drop n keys) (subst AreRising whole h.rising);
      own_ids = own_rest (take n keys) (drop n keys) (subst HaveOwnIds whole h.own_ids);
    }

keys_each : (es : List Entry) → AllByRecursion FitsEntry es → AllByRecursion key.fits (keys_of es)
keys_each es all = all_map key.fits (λ (e : Entry). e.key) es (all_imply FitsEntry (λ (e : Entry). key.fits e.key) (λ e h. h.key) es all)

-- the keys of a log from a place on, as many as a log modification has
pub log_mod_keys_fit : (s : ReplicaData) (start : ℕ) → IsLedLog s → AllByRecursion FitsEntry s.log.entries
    → keys.fits (take MAX_KEYS (drop start (keys_of s.log.entries)))
log_mod_keys_fit s start led all =
    let ks = keys_of s.log.entries in
    let few : length (take MAX_KEYS (drop start ks)) ≤ 64 = let long = length-take MAX_KEYS (drop start ks) in omega (arith, long) in
    let fit = all_take key.fits MAX_KEYS (drop start ks) (all_drop key.fits start ks (keys_each s.log.entries all)) in
    keys_fit (take MAX_KEYS (drop start ks)) few (order_take MAX_KEYS (drop start ks) (order_drop start ks led.order)) fit

-- ---- ids that are missing

-- ids that are asked for, not too many
pub record AreFew (xs : List Id) : Type 0 where
  pub few : length xs ≤ 64
  pub all : AllByRecursion id.fits xs

-- keys that are left of those of a message
pub record AreLeft (keys : List Key) (most : ℕ) : Type 0 where
  pub few : length keys ≤ most
  pub all : AllByRecursion key.fits keys

all_rest : (P : Key → Type 0) (earlier rest : List Key) → AllByRecursion P (earlier ++ rest) → AllByRecursion P rest
all_rest P [] rest all = all
all_rest P (k ∷ earlier) rest all = all_rest P earlier rest all.1

rest_left : (rest keys : List Key) (most : ℕ) → IsRest rest keys → AreLeft keys most → AreLeft rest most
rest_left rest keys most r h =
    let few = h.few in
    let part = ap length r.whole ∙ length-append r.earlier rest in
    record { few = omega (arith, few, part); all = all_rest key.fits r.earlier rest (subst (AllByRecursion key.fits) r.whole h.all) }

missing_few : (s : ReplicaData) (keys : List Key) → AreLeft keys 64 → AreFew (missing_ids s keys)
missing_few s keys h =
    let few = h.few in
    let fewer = length-filter_le (λ (i : Id). not (is_held s i)) (map id_of keys) in
    let same = length_ids keys in
    record {
      few = omega (arith, few, fewer, same);
      all =
          all_filter id.fits _ (map id_of keys) (all_map id.fits id_of keys
          (all_imply key.fits (λ (k : Key). id.fits (id_of k)) (λ k fits. fits.1) keys h.all));
    }
  where
    length_ids : (keys : List Key) → length (map id_of keys) ≡ length keys
    length_ids [] = refl
    length_ids (k ∷ keys) = ap suc (length_ids keys)

-- the ids that are missing of those of a message
pub wanted_few : (s after : ReplicaData) (keys : List Key) → AreLeft keys 64 → AreFew (missing_ids after (sync_keys s keys).1)
wanted_few s after keys h = missing_few after (sync_keys s keys).1 (rest_left (sync_keys s keys).1 keys 64 (sync_rest s keys) h)

-- ---- entries that are asked for

asked_few : (xs : List Id) (es : List Entry) → HaveOwnIds (keys_of es) → length (filter (is_asked xs) es) ≤ length xs
asked_few [] es own = none_asked es
  where
    none_asked : (es : List Entry) → length (filter (is_asked []) es) ≤ 0
    none_asked [] = omega arith
    none_asked (e ∷ es) = none_asked es
asked_few (x ∷ xs) es own =
    let one = one_of_id x es own in
    let rest = asked_few xs es own in
    let both = few_either (λ (e : Entry). id_eq x (id_of e.key)) (is_asked xs) es in
    omega (arith, one, rest, both)

-- the entries of a log that are asked for
pub asked_fit : (s : ReplicaData) (xs : List Id) → IsLedLog s → AllByRecursion FitsEntry s.log.entries → length xs ≤ 64
    → (entries 0 64).fits (filter (is_asked xs) s.log.entries)
asked_fit s xs log all few =
    let test = is_asked xs in
    let asked = asked_few xs s.log.entries log.order.own_ids in
    let order : AreInOrder (keys_of (filter test s.log.entries)) = record {
      rising = rising_filter test s.log.entries log.order.rising;
      own_ids = own_filter test s.log.entries log.order.own_ids;
    } in
    entries_fit (filter test s.log.entries) (omega (arith, asked, few)) order
    (all_filter FitsEntry test s.log.entries all)

-- ---- whole states

pub own_log : (f me : ℕ) (least : ℕ) (s : ReplicaData) → HasFacts f me s → least ≤ length s.log.entries → (entries least MAX_ENTRIES).fits s.log.entries
own_log f me least s h low = log_fits least s.log.entries low h.entries.few (led_log f me s h).order (log_each f me s h)

-- what a replica sends of its whole state is in the ranges of frames
pub view_change_fits : (f me : ℕ) (s : ReplicaData) → IsReplica f me → HasFacts f me s → Fits (view_change_message s)
view_change_fits f me s c h =
    let synced = h.entries.within in
    let commit = h.commit in
    let few = h.entries.few in
    let last = h.mode.last in
    let low = h.mode.view in
    let counts = vector_fits f s.vector c.least c.most h.tables.vector in
    let log = own_log f me (max s.log.synced s.commit) s h (omega (arith, synced, commit)) in
    (view_fits s.view low, (view_fits s.last (omega (arith, last, low)), (counts, ((omega (arith, synced, few), omega (arith, commit, synced, few)), log))))

pub start_view_fits : (f me : ℕ) (s : ReplicaData) → IsReplica f me → HasFacts f me s → Fits (start_view_message s)
start_view_fits f me s c h =
    let synced = h.entries.within in
    let commit = h.commit in
    let few = h.entries.few in
    let counts = vector_fits f s.vector c.least c.most h.tables.vector in
    (view_fits s.view h.mode.view, (counts, (omega (arith, commit, synced, few), own_log f me s.commit s h (omega (arith, synced, commit)))))

pub state_tell_fits : (f me : ℕ) (s : ReplicaData) (nonce : ℕ) → IsReplica f me → HasFacts f me s → nonce < 2 ^ 64 → Fits (state_tell_message s nonce)
state_tell_fits f me s nonce c h small =
    let synced = h.entries.within in
    let commit = h.commit in
    let few = h.entries.few in
    let counts = vector_fits f s.vector c.least c.most h.tables.vector in
    (small, (view_fits s.view h.mode.view, (counts, (omega (arith, commit, synced, few), own_log f me s.commit s h (omega (arith, synced, commit))))))

pub rejoin_tell_fits : (f me : ℕ) (s : ReplicaData) (nonce : ℕ) → IsReplica f me → HasFacts f me s → nonce < 2 ^ 64 → Fits (rejoin_tell_message s nonce)
rejoin_tell_fits f me s nonce c h small = (small, (view_fits s.view h.mode.view, vector_fits f s.vector c.least c.most h.tables.vector))

pub vector_ask_fits : (f me : ℕ) (s : ReplicaData) → HasFacts f me s → Fits (vector_ask_message s)
vector_ask_fits f me s h = h.rejoin.nonce

pub rejoin_ask_fits : (f me : ℕ) (s : ReplicaData) → IsReplica f me → HasFacts f me s → Fits (rejoin_ask_message s)
rejoin_ask_fits f me s c h = (h.rejoin.nonce, vector_fits f s.vector c.least c.most h.tables.vector)

pub state_ask_fits : (f me : ℕ) (s : ReplicaData) → IsReplica f me → HasFacts f me s → Fits (state_ask_message s)
state_ask_fits f me s c h = (h.rejoin.nonce, (view_fits s.rejoin.wanted h.rejoin.wanted, vector_fits f s.vector c.least c.most h.tables.vector))

-- ---- one lemma a kind

-- what is heard was in a frame
abbrev pub HeardFits : Heard → Type 0
HeardFits None = Unit {0}
HeardFits (Some (from, m)) = HasAddress from × Fits m

own_address : (f me : ℕ) → IsReplica f me → me ≤ 8
own_address f me c = let most = c.most in let member = c.member in omega (arith, most, member)

other_address : (f me : ℕ) (to : Actor) → IsReplica f me → IsOther f me to → HasAddress to
other_address f me to c other =
    let most = c.most in let member = other.member in let le : other.replica ≤ 8 = omega (arith, most, member) in subst HasAddress (sym other.is) le

held_fits : (es : List Entry) (i : Id) → AllByRecursion FitsEntry es → has_id (keys_of es) i ≡ true → id.fits i
held_fits [] i all h = absurd cc
held_fits (e ∷ es) i all h =
    elim (or_cases (id_eq i (id_of e.key)) (has_id (keys_of es) i) h) [
      | inl here ↦ subst id.fits (sym (same_id i (id_of e.key) here)) all.0.key.1
      | inr rest ↦ held_fits es i all.1 rest
    ]

place_fits : (f me : ℕ) (s : ReplicaData) (i : Id) (place : ℕ) → HasFacts f me s → place_of s.log.entries i ≡ Some place → id.fits i
place_fits f me s i place h at = held_fits s.log.entries i (log_each f me s h) (sym (place_held s.log.entries i) ∙ ap is_some at)

origin_fits : (f me : ℕ) (s : ReplicaData) (i : Id) (origin : Origin) → HasFacts f me s → lookup (id_eq i) s.origin ≡ Some origin → IsKnown (i, origin)
origin_fits f me s i origin h known = subst (λ o. IfSome o (λ v. IsKnown (i, v))) known (lookup_each IsKnown s.origin i h.tables.origins)

fast_fits : (f me : ℕ) (before s : ReplicaData) (to : Actor) (b : FastReplyBody) → IsReplica f me → before.view ≤ MAX_VIEW → HasFacts f me s
    → ShowsFast f me before s to b → FitsOut (Replica me) (to, messages.FastReply b)
fast_fits f me before s to b c low h w =
    let from = origin_fits f me s b.id w.origin h w.known in
    let slow = from.delay in
    let delay = w.delay in
    let answers : IfSome (cond (leads f me before) (slice_get s.results w.place) None) answer.fits =
    cond_both (leads f me before) (slice_get s.results w.place) None (λ o. IfSome o answer.fits) (λ _. all_get answer.fits s.results w.place h.executed.answers)
    (λ _. tt) in
    record {
      sender = own_address f me c;
      receiver = subst HasAddress (sym w.receiver) from.proxy;
      message = (
        subst view.fits (sym w.view) (view_fits before.view low),
        (
          place_fits f me s b.id w.place h w.place_is,
          (
            ap length w.digest ∙ length-digest (map entry_key (take (suc w.place) s.log.entries)),
            (
              subst (λ u. vector.fits u) (sym w.vector) (vector_fits f s.vector c.least c.most h.tables.vector),
              (
                omega (arith, slow, delay),
                subst (λ o. IfSome o answer.fits) (sym w.answer) answers,
              ),
            ),
          ),
        ),
      );
    }

slow_fits : (f me : ℕ) (s : ReplicaData) (to : Actor) (b : SlowReplyBody) → IsReplica f me → HasFacts f me s → ShowsSlow f me s to b
    → FitsOut (Replica me) (to, messages.SlowReply b)
slow_fits f me s to b c h w =
    let from = origin_fits f me s b.id w.origin h w.known in
    let slow = from.delay in
    let fit : Fits (messages.SlowReply (record { view = s.view; id = b.id; delay = w.origin.delay })) =
    (view_fits s.view h.mode.view, (place_fits f me s b.id w.place h w.place_is, omega (arith, slow))) in
    record {
      sender = own_address f me c;
      receiver = subst HasAddress (sym w.receiver) from.proxy;
      message = subst (λ (x : SlowReplyBody). Fits (messages.SlowReply x)) (sym w.read) fit;
    }

log_mod_fits : (f me : ℕ) (s : ReplicaData) (to : Actor) (b : LogModBody) → IsReplica f me → HasFacts f me s → ShowsLogMod f me s to b
    → FitsOut (Replica me) (to, messages.LogMod b)
log_mod_fits f me s to b c h w =
    let start = slice_index s.ack w.receiver.replica in
    let acked : start ≤ MAX_ENTRIES = all_index (λ n. n ≤ MAX_ENTRIES) s.ack w.receiver.replica 0 h.tables.few (omega arith) in
    let commit = h.commit in
    let within = h.entries.within in
    let few = h.entries.few in
    let keys_fit_here = log_mod_keys_fit s start (led_log f me s h) (log_each f me s h) in
    let vector_fits_here = vector_fits f s.vector c.least c.most h.tables.vector in
    let fit : Fits (messages.LogMod (log_mod_from s start)) =
    (view_fits s.view h.mode.view, (vector_fits_here, (omega (arith, commit, within, few), (omega (arith, acked), keys_fit_here)))) in
    record {
      sender = own_address f me c;
      receiver = other_address f me to c w.receiver;
      message = subst (λ (x : LogModBody). Fits (messages.LogMod x)) (sym w.read) fit;
    }

fetch_fits : (f me : ℕ) (heard : Heard) (s : ReplicaData) (to : Actor) (b : FetchBody) → IsReplica f me → HeardFits heard → HasFacts f me s
    → ShowsFetch f me heard s to b → FitsOut (Replica me) (to, messages.Fetch b)
fetch_fits f me heard s to b c k h w =
    let in_range : keys.fits w.log_mod.keys = (subst HeardFits w.hears k).1.1.1.1.1 in
    let left = rest_left w.keys w.log_mod.keys 64 w.rest (record { few = few_keys w.log_mod.keys in_range; all = keys_of_fit w.log_mod.keys in_range }) in
    let asked : AreFew b.ids = subst AreFew (sym w.read) (missing_few s w.keys left) in
    record {
      sender = own_address f me c;
      receiver = other_address f me to c w.receiver;
      message = (subst view.fits (sym w.view) (view_fits s.view h.mode.view), ids_fit b.ids w.some asked.few asked.all);
    }

fetch_reply_fits : (f me : ℕ) (heard : Heard) (s : ReplicaData) (to : Actor) (b : FetchReplyBody) → IsReplica f me → HeardFits heard → HasFacts f me s
    → ShowsFetchReply f me heard s to b → FitsOut (Replica me) (to, messages.FetchReply b)
fetch_reply_fits f me heard s to b c k h w =
    let ask = subst HeardFits w.hears k in
    let asked = asked_fit s w.ask.ids (led_log f me s h) (log_each f me s h) (few_ids w.ask.ids ask.1.1) in
    record {
      sender = own_address f me c;
      receiver = subst HasAddress (sym w.receiver) ask.0;
      message =
          (subst view.fits (sym w.view) (view_fits s.view h.mode.view), subst (entries 0 64).fits (sym w.read) asked);
    }

report_fits : (f me : ℕ) (s : ReplicaData) (to : Actor) (b : SyncReportBody) → IsReplica f me → HasFacts f me s → ShowsReport f me s to b
    → FitsOut (Replica me) (to, messages.SyncReport b)
report_fits f me s to b c h w =
    let within = h.entries.within in
    let few = h.entries.few in
    let fit : Fits (messages.SyncReport (record { view = s.view; synced = s.log.synced })) = (view_fits s.view h.mode.view, omega (arith, within, few)) in
    record {
      sender = own_address f me c;
      receiver = other_address f me to c w.receiver;
      message = subst (λ (x : SyncReportBody). Fits (messages.SyncReport x)) (sym w.read) fit;
    }

-- to another replica
to_other : (f me : ℕ) (to : Actor) (m : Message) → IsReplica f me → IsOther f me to → Fits m → FitsOut (Replica me) (to, m)
to_other f me to m c other fit = record { sender = own_address f me c; receiver = other_address f me to c other; message = fit }

-- to who is heard
to_asker : (f me asker : ℕ) (heard : Heard) (to : Actor) (ask m : Message) → IsReplica f me → HeardFits heard → heard ≡ Some (Replica asker, ask)
    → to ≡ Replica asker → (Fits ask → Fits m) → FitsOut (Replica me) (to, m)
to_asker f me asker heard to ask m c k hears receiver fit =
    let known = subst HeardFits hears k in
    record { sender = own_address f me c; receiver = subst HasAddress (sym receiver) known.0; message = fit known.1 }

view_ask_shown : (f me : ℕ) (s : ReplicaData) (to : Actor) (b : ViewAskBody) → IsReplica f me → HasFacts f me s → ShowsViewAsk f me s to b
    → FitsOut (Replica me) (to, messages.ViewAsk b)
view_ask_shown f me s to b c h w = to_other f me to (messages.ViewAsk b) c w.receiver (subst view.fits (sym w.view) (view_fits s.view h.mode.view))

view_change_shown : (f me : ℕ) (s : ReplicaData) (to : Actor) (b : ViewChangeBody) → IsReplica f me → HasFacts f me s → ShowsViewChange f me s to b
    → FitsOut (Replica me) (to, messages.ViewChange b)
view_change_shown f me s to b c h w =
    to_other f me to (messages.ViewChange b) c w.receiver (subst (λ (x : ViewChangeBody). Fits (messages.ViewChange x)) (sym w.read)
    (view_change_fits f me s c h))

start_view_shown : (f me : ℕ) (s : ReplicaData) (to : Actor) (b : StartViewBody) → IsReplica f me → HasFacts f me s → ShowsStartView f me s to b
    → FitsOut (Replica me) (to, messages.StartView b)
start_view_shown f me s to b c h w =
    to_other f me to (messages.StartView b) c w.receiver (subst (λ (x : StartViewBody). Fits (messages.StartView x)) (sym w.read) (start_view_fits f me s c h))

vector_ask_shown : (f me : ℕ) (s : ReplicaData) (to : Actor) (b : VectorAskBody) → IsReplica f me → HasFacts f me s → ShowsVectorAsk f me s to b
    → FitsOut (Replica me) (to, messages.VectorAsk b)
vector_ask_shown f me s to b c h w =
    to_other f me to (messages.VectorAsk b) c w.receiver (subst (λ (x : VectorAskBody). Fits (messages.VectorAsk x)) (sym w.read) (vector_ask_fits f me s h))

rejoin_ask_shown : (f me : ℕ) (s : ReplicaData) (to : Actor) (b : RejoinAskBody) → IsReplica f me → HasFacts f me s → ShowsRejoinAsk f me s to b
    → FitsOut (Replica me) (to, messages.RejoinAsk b)
rejoin_ask_shown f me s to b c h w =
    to_other f me to (messages.RejoinAsk b) c w.receiver (subst (λ (x : RejoinAskBody). Fits (messages.RejoinAsk x)) (sym w.read) (rejoin_ask_fits f me s c h))

state_ask_shown : (f me : ℕ) (s : ReplicaData) (to : Actor) (b : StateAskBody) → IsReplica f me → HasFacts f me s → ShowsStateAsk f me s to b
    → FitsOut (Replica me) (to, messages.StateAsk b)
state_ask_shown f me s to b c h w =
    to_other f me to (messages.StateAsk b) c w.receiver (subst (λ (x : StateAskBody). Fits (messages.StateAsk x)) (sym w.read) (state_ask_fits f me s c h))

vector_tell_shown : (f me : ℕ) (heard : Heard) (s : ReplicaData) (to : Actor) (b : VectorTellBody) → IsReplica f me → HeardFits heard → HasFacts f me s
    → ShowsVectorTell f me heard s to b → FitsOut (Replica me) (to, messages.VectorTell b)
vector_tell_shown f me heard s to b c k h w =
    to_asker f me w.asker heard to (messages.VectorAsk w.ask) (messages.VectorTell b) c k w.hears w.receiver
    (λ asked.
    let fit : Fits (messages.VectorTell (record { nonce = w.ask.nonce; vector = s.vector })) = (asked, vector_fits f s.vector c.least c.most h.tables.vector) in
    subst (λ (x : VectorTellBody). Fits (messages.VectorTell x)) (sym w.read) fit)

rejoin_tell_shown : (f me : ℕ) (heard : Heard) (before s : ReplicaData) (to : Actor) (b : RejoinTellBody) → IsReplica f me → HeardFits heard
    → HasFacts f me s → ShowsRejoinTell f me heard before s to b → FitsOut (Replica me) (to, messages.RejoinTell b)
rejoin_tell_shown f me heard before s to b c k h w =
    to_asker f me w.asker heard to (messages.RejoinAsk w.ask) (messages.RejoinTell b) c k w.hears w.receiver
    (λ asked. subst (λ (x : RejoinTellBody). Fits (messages.RejoinTell x)) (sym w.read) (rejoin_tell_fits f me s w.ask.nonce c h asked.0))

state_tell_shown : (f me : ℕ) (heard : Heard) (before s : ReplicaData) (to : Actor) (b : StateTellBody) → IsReplica f me → HeardFits heard
    → HasFacts f me s → ShowsStateTell f me heard before s to b → FitsOut (Replica me) (to, messages.StateTell b)
state_tell_shown f me heard before s to b c k h w =
    to_asker f me w.asker heard to (messages.StateAsk w.ask) (messages.StateTell b) c k w.hears w.receiver
    (λ asked. subst (λ (x : StateTellBody). Fits (messages.StateTell x)) (sym w.read) (state_tell_fits f me s w.ask.nonce c h asked.0))

-- what a replica shows fits
pub shows_fit : (f me : ℕ) (heard : Heard) (before s : ReplicaData) (to : Actor) (m : Message) → IsReplica f me → HeardFits heard → HasFacts f me before
    → HasFacts f me s → ReplicaShows f me heard before s to m → FitsOut (Replica me) (to, m)
shows_fit f me heard before s to (messages.FastReply b) c k was h w = fast_fits f me before s to b c was.mode.view h w
shows_fit f me heard before s to (messages.SlowReply b) c k was h w = slow_fits f me s to b c h w
shows_fit f me heard before s to (messages.LogMod b) c k was h w = log_mod_fits f me s to b c h w
shows_fit f me heard before s to (messages.Fetch b) c k was h w = fetch_fits f me heard s to b c k h w
shows_fit f me heard before s to (messages.FetchReply b) c k was h w = fetch_reply_fits f me heard s to b c k h w
shows_fit f me heard before s to (messages.SyncReport b) c k was h w = report_fits f me s to b c h w
shows_fit f me heard before s to (messages.ViewAsk b) c k was h w = view_ask_shown f me s to b c h w
shows_fit f me heard before s to (messages.ViewChange b) c k was h w = view_change_shown f me s to b c h w
shows_fit f me heard before s to (messages.StartView b) c k was h w = start_view_shown f me s to b c h w
shows_fit f me heard before s to (messages.VectorAsk b) c k was h w = vector_ask_shown f me s to b c h w
shows_fit f me heard before s to (messages.VectorTell b) c k was h w = vector_tell_shown f me heard s to b c k h w
shows_fit f me heard before s to (messages.RejoinAsk b) c k was h w = rejoin_ask_shown f me s to b c h w
shows_fit f me heard before s to (messages.RejoinTell b) c k was h w = rejoin_tell_shown f me heard before s to b c k h w
shows_fit f me heard before s to (messages.StateAsk b) c k was h w = state_ask_shown f me s to b c h w
shows_fit f me heard before s to (messages.StateTell b) c k was h w = state_tell_shown f me heard before s to b c k h w
shows_fit f me heard before s to _ c k was h w = absurd w
