-- What the rules by which logs agree send is what the states before and after show.
use Rattle.std.proofs.Common.{◌≡◌, ℕ, zero, suc, ◌-◌, ◌<◌, ◌≤◌, not, eqb, true, false, List, [], ◌∷◌, ◌++◌, length, take, drop}
use Rattle.std.proofs.Common.{Option, Some, None, refl, sym, ap, subst, ◌∙◌, inl, inr, arith, append_assoc, take-append-drop}
use Rattle.std.specs.Prelude.{nat_lt}
use Rattle.std.specs.List.{AllByRecursion, filter, flat_map}
use Rattle.std.specs.Map.{lookup}
use Rattle.std.proofs.lemmas.Bool.{not-true, cond_both}
use Rattle.std.proofs.lemmas.Bool.Decides.{nat_tests}
use Rattle.nz_base.specs.Cluster.{leader_of}
use Rattle.nz_base.specs.declared.actor.Actor.TheVariants.{Replica}
use Rattle.nz_base.specs.declared.key.Id.{Id}
use Rattle.nz_base.specs.declared.key.Key.{Key}
use Rattle.nz_base.specs.declared.key.Entry.{Entry}
use Rattle.nz_base.specs.Key.{id_eq, id_of}
use Rattle.nz_base.proofs.Prefixes.{prefix_take}
use Rattle.nz_log.specs.Places.{place_of}
use Rattle.nz_log.specs.Synced.{synced_part}
use Rattle.nz_msg.specs.declared.message.LogModBody.{LogModBody}
use Rattle.nz_msg.specs.declared.message.FetchBody.{FetchBody}
use Rattle.nz_msg.specs.declared.message.FetchReplyBody.{FetchReplyBody}
use Rattle.nz_msg.specs.declared.message.SyncReportBody.{SyncReportBody}
use Rattle.nz_msg.specs.declared.message.Message.TheVariants as messages
use Rattle.nz_machine.specs.rules.State.{ReplicaData, Out}
use Rattle.nz_machine.specs.rules.Replicas.{is_normal, leads, slow_replies}
use Rattle.nz_machine.specs.rules.LogMods.{sync_report_to, entry_of_id, if_found, synced_with, sync_keys, overtaken_to_late, committed_to, replies_since}
use Rattle.nz_machine.specs.rules.LogMods.{is_held, missing_ids, fetch_from, after_taking_keys, after_log_mod, after_hearing, log_mod_rule, fetch_rule}
use Rattle.nz_machine.specs.rules.LogMods.{is_asked, with_late_entries, fetch_reply_rule, with_ack, with_commit, sync_report_rule}
use Rattle.nz_machine.specs.rules.Vectors.{with_vector}
use Rattle.nz_machine.specs.runs.World.{Has}
use Rattle.nz_machine.specs.runs.Hearing.{Heard}
use Rattle.nz_machine.specs.runs.Shows.{IsOther, IsRest, ReplicaShows}
use Rattle.nz_machine.proofs.lists.EachItem.{all_append}
use Rattle.nz_machine.proofs.lists.LogPlaces.{place_kept, place_within, has_place}
use Rattle.nz_machine.proofs.shows.Shows.{AllShow, Shown, silent, other_is, leader_below}
use Rattle.nz_machine.proofs.shows.ViewsShow.{enter_shows}
use Rattle.nz_machine.proofs.shows.Replies.{Mode, mode, slow_shows}

-- ---- the state after

found_mode : (s : ReplicaData) (k : Key) (keys : List Key) → ((t : ReplicaData) → mode (sync_keys t keys).0 ≡ mode t) → (o : Option Entry)
    → mode (if_found o (s, k ∷ keys) (λ e. sync_keys (synced_with s (record { key = k; command = e.command })) keys)).0 ≡ mode s
found_mode s k keys rest None = refl
found_mode s k keys rest (Some e) = rest _

sync_mode : (s : ReplicaData) (keys : List Key) → mode (sync_keys s keys).0 ≡ mode s
unfolding sync_keys
sync_mode s [] = refl
sync_mode s (k ∷ keys) = let hit = found_mode s k keys (λ t. sync_mode t keys) (entry_of_id s (id_of k)) in grind (arith, hit)

-- a follower of the leader
record Follows (f me leader : ℕ) (s : ReplicaData) : Type 0 where
  normal : is_normal s.status ≡ true
  follows : leads f me s ≡ false
  is : leader ≡ leader_of f s.view

still_follows : (f me leader : ℕ) (s t : ReplicaData) → mode t ≡ mode s → Follows f me leader s → Follows f me leader t
still_follows f me leader s t same w = record {
  normal = ap (λ (x : Mode). is_normal x.0) same ∙ w.normal;
  follows = ap (λ (x : Mode). eqb (leader_of f x.1.0) me) same ∙ w.follows;
  is = w.is ∙ ap (λ (x : Mode). leader_of f x.1.0) (sym same);
}

-- ---- the keys that are left

rest_self : (keys : List Key) → IsRest keys keys
rest_self keys = record { earlier = []; whole = refl }

rest_then : (a b c : List Key) → IsRest a b → IsRest b c → IsRest a c
rest_then a b c p q = record { earlier = q.earlier ++ p.earlier; whole = q.whole ∙ ap (λ l. q.earlier ++ l) p.whole ∙ sym (append_assoc q.earlier p.earlier a) }

rest_more : (k : Key) (a b : List Key) → IsRest a b → IsRest a (k ∷ b)
rest_more k a b p = record { earlier = k ∷ p.earlier; whole = ap (λ l. k ∷ l) p.whole }

rest_none : (keys : List Key) → IsRest [] keys
rest_none [] = rest_self []
rest_none (k ∷ keys) = rest_more k [] keys (rest_none keys)

pub rest_drop : (n : ℕ) (keys : List Key) → IsRest (drop n keys) keys
rest_drop n keys = record { earlier = take n keys; whole = sym (take-append-drop n keys) }

found_rest : (s : ReplicaData) (k : Key) (keys : List Key) → ((t : ReplicaData) → IsRest (sync_keys t keys).1 keys) → (o : Option Entry)
    → IsRest (if_found o (s, k ∷ keys) (λ e. sync_keys (synced_with s (record { key = k; command = e.command })) keys)).1 (k ∷ keys)
found_rest s k keys rest None = rest_self (k ∷ keys)
found_rest s k keys rest (Some e) = rest_more k _ keys (rest _)

-- the keys that are found nowhere are the last ones
pub sync_rest : (s : ReplicaData) (keys : List Key) → IsRest (sync_keys s keys).1 keys
unfolding sync_keys
sync_rest s [] = rest_self []
sync_rest s (k ∷ keys) =
    let hit = found_rest s k keys (λ t. sync_rest t keys) (entry_of_id s (id_of k)) in
    let none = rest_none (k ∷ keys) in
    grind (arith, hit, none)

-- ---- slow replies

has_dropped : {X : Type 0} (n : ℕ) (xs : List X) (x : X) → Has (drop n xs) x → Has xs x
has_dropped zero xs x h = h
has_dropped (suc n) [] x h = absurd h
has_dropped (suc n) (y ∷ xs) x h = inr (has_dropped n xs x h)

length_taken : {X : Type 0} (n : ℕ) (xs : List X) → length (take n xs) ≤ n
length_taken zero xs = omega arith
length_taken (suc n) [] = omega arith
length_taken (suc n) (x ∷ xs) = let ih = length_taken n xs in omega (arith, ih)

-- an entry of the synced part is at a synced place
record IsSynced (s : ReplicaData) (id : Id) : Type 0 where
  place : ℕ
  place_is : place_of s.log.entries id ≡ Some place
  synced : place < s.log.synced

synced_stands : (s : ReplicaData) (e : Entry) → Has (synced_part s.log) e → IsSynced s (id_of e.key)
synced_stands s e h =
    let at = has_place (synced_part s.log) e h in
    let within = place_within (synced_part s.log) (id_of e.key) at.0 at.1 in
    let few = length_taken s.log.synced s.log.entries in
    record {
      place = at.0;
      place_is = place_kept (synced_part s.log) s.log.entries (id_of e.key) at.0 (prefix_take s.log.synced s.log.entries) at.1;
      synced = omega (arith, within, few);
    }

since_shows : (f me leader : ℕ) (heard : Heard) (before s : ReplicaData) → Follows f me leader s → (es : List Entry)
    → ((e : Entry) → Has es e → Has (synced_part s.log) e)
    → AllShow f me heard before s (flat_map (λ (e : Entry). slow_replies s (id_of e.key) (lookup (id_eq (id_of e.key)) s.origin)) es)
since_shows f me leader heard before s w [] all = tt
since_shows f me leader heard before s w (e ∷ es) all =
    let at = synced_stands s e (all e (inl refl)) in
    let origin = lookup (id_eq (id_of e.key)) s.origin in
    all_append (λ (o : Out). ReplicaShows f me heard before s o.0 o.1) (slow_replies s (id_of e.key) origin)
    (flat_map (λ (x : Entry). slow_replies s (id_of x.key) (lookup (id_eq (id_of x.key)) s.origin)) es)
    (slow_shows f me heard before s (id_of e.key) at.place origin w.normal w.follows at.place_is at.synced refl)
    (since_shows f me leader heard before s w es (λ x h. all x (inr h)))

-- ---- fetches and reports

leader_other : (f me leader : ℕ) (s : ReplicaData) → Follows f me leader s → IsOther f me (Replica leader)
leader_other f me leader s w = subst (λ n. IsOther f me (Replica n)) (sym w.is) (other_is f me (leader_of f s.view) (leader_below f s.view) w.follows)

fetch_by : (f me leader : ℕ) (before s : ReplicaData) (b : LogModBody) (keys : List Key) (ids : List Id) → missing_ids s keys ≡ ids → Follows f me leader s
    → IsRest keys b.keys
    → AllShow f me (Some (Replica leader, messages.LogMod b)) before s (fetch_from leader s ids)
fetch_by f me leader before s b keys [] is w rest = tt
fetch_by f me leader before s b keys (id ∷ ids) is w rest = (
  record {
    normal = w.normal;
    follows = w.follows;
    receiver = leader_other f me leader s w;
    to_leader = ap Replica w.is;
    view = refl;
    log_mod = b;
    hears = ap (λ n. Some (Replica n, messages.LogMod b)) w.is;
    keys = keys;
    rest = rest;
    read = sym is;
    some = omega arith;
  },
  tt,
)

report_shows : (f me leader : ℕ) (heard : Heard) (before s : ReplicaData) → Follows f me leader s → AllShow f me heard before s (sync_report_to leader s ∷ [])
report_shows f me leader heard before s w =
    (record { normal = w.normal; follows = w.follows; receiver = leader_other f me leader s w; to_leader = ap Replica w.is; read = refl }, tt)

after_shows : (f me leader : ℕ) (before s : ReplicaData) (b : LogModBody) (count : ℕ) (keys : List Key) → Follows f me leader s → IsRest keys b.keys
    → AllShow f me (Some (Replica leader, messages.LogMod b)) before s
    (replies_since s count ++ (fetch_from leader s (missing_ids s keys) ++ sync_report_to leader s ∷ []))
after_shows f me leader before s b count keys w rest =
    let heard : Heard = Some (Replica leader, messages.LogMod b) in
    let Shows = λ (o : Out). ReplicaShows f me heard before s o.0 o.1 in
    all_append Shows (replies_since s count) (fetch_from leader s (missing_ids s keys) ++ sync_report_to leader s ∷ [])
    (since_shows f me leader heard before s w (drop count (synced_part s.log)) (has_dropped count (synced_part s.log)))
    (all_append Shows (fetch_from leader s (missing_ids s keys)) (sync_report_to leader s ∷ [])
    (fetch_by f me leader before s b keys (missing_ids s keys) refl w rest) (report_shows f me leader heard before s w))

taken_shows : (f me leader : ℕ) (before s : ReplicaData) (b : LogModBody) → Follows f me leader s
    → Shown f me (Some (Replica leader, messages.LogMod b)) before (after_log_mod leader b s)
taken_shows f me leader before s b w =
    let heard : Heard = Some (Replica leader, messages.LogMod b) in
    let keys = drop (s.log.synced - b.start) b.keys in
    let t = sync_keys s keys in
    let after = committed_to (overtaken_to_late t.0) b.commit in
    cond_both (nat_lt s.log.synced b.start) (s, sync_report_to leader s ∷ []) (after_taking_keys s leader b.commit t) (Shown f me heard before)
    (λ _. record { shows = report_shows f me leader heard before s w })
    (λ _.
    let follows = still_follows f me leader s after (sync_mode s keys) w in
    let rest = rest_then t.1 keys b.keys (sync_rest s keys) (rest_drop (s.log.synced - b.start) b.keys) in
    record { shows = after_shows f me leader before after b s.log.synced t.1 follows rest })

pub log_mod_shows : (f me : ℕ) (s : ReplicaData) (sender : ℕ) (b : LogModBody)
    → Shown f me (Some (Replica sender, messages.LogMod b)) s (log_mod_rule f me s sender b)
unfolding log_mod_rule
log_mod_shows f me s sender b =
    let heard : Heard = Some (Replica sender, messages.LogMod b) in
    let own = with_vector me s b.vector in
    let stay = silent f me heard s s in
    let enter = enter_shows f me heard s b.view own in
    let take : is_normal s.status ≡ true → leads f me s ≡ false → b.view ≡ s.view → sender ≡ leader_of f b.view
    → Shown f me heard s (after_log_mod sender b (after_hearing own)) =
    λ normal follows view is.
    taken_shows f me sender s (after_hearing own) b (record { normal = normal; follows = follows; is = is ∙ ap (leader_of f) view }) in
    grind (arith, nat_tests, stay, enter, take)

-- ---- what the leader answers, and what is not answered

pub fetch_shows : (f me : ℕ) (s : ReplicaData) (sender : ℕ) (b : FetchBody)
    → Shown f me (Some (Replica sender, messages.Fetch b)) s (fetch_rule f me s sender b)
unfolding fetch_rule
fetch_shows f me s sender b =
    let heard : Heard = Some (Replica sender, messages.Fetch b) in
    let stay = silent f me heard s s in
    let body : FetchReplyBody = record { view = s.view; entries = filter (is_asked b.ids) s.log.entries } in
    let reply : is_normal s.status ≡ true → leads f me s ≡ true → Shown f me heard s (s, (Replica sender, messages.FetchReply body) ∷ []) =
    λ normal lead.
    record { shows = (record { normal = normal; led = lead; view = refl; asker = sender; ask = b; hears = refl; receiver = refl; read = refl }, tt) } in
    grind (arith, stay, reply)

pub fetch_reply_silent : (f me : ℕ) (heard : Heard) (s : ReplicaData) (sender : ℕ) (b : FetchReplyBody)
    → Shown f me heard s (fetch_reply_rule f me s sender b)
unfolding fetch_reply_rule
fetch_reply_silent f me heard s sender b =
    let stay = silent f me heard s s in let keep = silent f me heard s (with_late_entries s b.entries) in grind (arith, stay, keep)

pub report_silent : (f me : ℕ) (heard : Heard) (s : ReplicaData) (sender : ℕ) (b : SyncReportBody) → Shown f me heard s (sync_report_rule f me s sender b)
unfolding sync_report_rule
report_silent f me heard s sender b =
    let stay = silent f me heard s s in let note = silent f me heard s (with_commit f me (with_ack s sender b.synced)) in grind (arith, stay, note)

-- what a fetch asks for is not held
pub kept_missing : (s : ReplicaData) (ids : List Id) → AllByRecursion (λ (id : Id). is_held s id ≡ false) (filter (λ id. not (is_held s id)) ids)
kept_missing s [] = tt
kept_missing s (id ∷ ids) =
    let rest = kept_missing s ids in
    cond_both (not (is_held s id)) (id ∷ filter (λ x. not (is_held s x)) ids)
    (filter (λ x. not (is_held s x)) ids) (AllByRecursion (λ (x : Id). is_held s x ≡ false))
    (λ t. (not-true (is_held s id) t, rest)) (λ _. rest)
