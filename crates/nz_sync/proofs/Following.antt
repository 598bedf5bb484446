-- What a follower sends once it took the keys of a log modification.
use Rattle.std.proofs.Common.{◌↔◌, IsTrue, length-drop, ◌≡◌, ℕ, ◌+◌, ◌-◌, ◌<◌, ◌≤◌, Bool, false, cond, min, List, [], ◌∷◌, ◌++◌, length, map}
use Rattle.std.proofs.Common.{drop, get_or, drop-cons, add-one, Option, Some, refl, sym, ap, subst, ◌∙◌, inl, inr, arith, append_assoc}
use Rattle.std.specs.Prelude.{nat_lt, slice_get}
use Rattle.std.specs.Map.{lookup}
use Rattle.std.specs.List.{flat_map}
use Rattle.std.proofs.Math.ListN.{drop_of_length-le}
use Rattle.std.proofs.lemmas.Bool.{cases_lt}
use Rattle.std.proofs.lemmas.Option.{slice_get_within, unwrap_or-slice_get}
use Rattle.std.specs.Option.{unwrap_or}
use Rattle.std.proofs.lemmas.List.{map-append, length-take, get_or-take}
use Rattle.nz_base.proofs.Booleans.{true_and_false}
use Rattle.nz_base.specs.declared.actor.Actor.TheVariants.{Replica}
use Rattle.nz_base.specs.declared.key.Id.{Id}
use Rattle.nz_base.specs.declared.key.Key.{Key}
use Rattle.nz_base.specs.declared.key.Entry.{Entry}
use Rattle.nz_base.specs.Key.{id_eq, id_of}
use Rattle.nz_log.specs.Synced.{synced_part}
use Rattle.nz_msg.specs.Fields as fields
use Rattle.nz_msg.specs.Fields.{key}
use Rattle.nz_msg.specs.declared.message.LogModBody.{LogModBody}
use Rattle.nz_machine.specs.declared.event.Parcel.{Parcel}
use Rattle.nz_machine.specs.rules.State.{ReplicaData, Out}
use Rattle.nz_machine.specs.rules.Replicas.{slow_replies}
use Rattle.nz_machine.specs.rules.Facts.{ReplicaModel}
use Rattle.nz_machine.specs.rules.LogMods.{with_late_entry, with_late_entries, sync_keys, replies_since, missing_ids}
use Rattle.nz_machine.specs.rules.LogMods.{fetch_from, sync_report_to, after_taking_keys, after_log_mod}
use Rattle.nz_machine.specs.rules.Step.{parcel}
use Rattle.nz_machine.proofs.lists.ListParts.{all_drop}
use Rattle.nz_machine.proofs.facts.SentFields.{keys_of_fit, few_keys}
use Rattle.nz_machine.proofs.facts.FitReplicas.{AreLeft}

-- ---- the slow replies, one after the other

synced_at : (s : ReplicaData) (place : ℕ) (e : Entry) → place < s.log.synced → slice_get s.log.entries place ≡ Some e
    → drop place (synced_part s.log) ≡ e ∷ drop (place + 1) (synced_part s.log)
synced_at s place e low at =
    let within : place < length s.log.entries = slice_get_within s.log.entries place e at in
    let long = length-take s.log.synced s.log.entries in
    let here : get_or (synced_part s.log) place e ≡ e =
    get_or-take s.log.synced s.log.entries place e low ∙ sym (unwrap_or-slice_get s.log.entries place e)
    ∙ ap (λ (o : Option Entry). unwrap_or o e) at in
    drop-cons (synced_part s.log) place e (omega (arith, within, long))
    ∙ (λ i. here i ∷ drop (sym (add-one place) i) (synced_part s.log))

pub one_replied : (s : ReplicaData) (me : ℕ) (sends after : List Parcel) (place : ℕ) (e : Entry) → place < s.log.synced → slice_get s.log.entries place ≡ Some e
    → after ≡ sends ++ map (parcel (Replica me)) (slow_replies s (id_of e.key) (lookup (id_eq (id_of e.key)) s.origin))
    → after ++ map (parcel (Replica me)) (replies_since s (place + 1)) ≡ sends ++ map (parcel (Replica me)) (replies_since s place)
one_replied s me sends after place e low at is =
    let own = slow_replies s (id_of e.key) (lookup (id_eq (id_of e.key)) s.origin) in
    let rest = replies_since s (place + 1) in
    let all : replies_since s place ≡ own ++ rest =
    ap (flat_map (λ (x : Entry). slow_replies s (id_of x.key) (lookup (id_eq (id_of x.key)) s.origin))) (synced_at s place e low at) in
    ap (λ (xs : List Parcel). xs ++ map (parcel (Replica me)) rest) is
    ∙ append_assoc sends (map (parcel (Replica me)) own) (map (parcel (Replica me)) rest)
    ∙ ap (λ (xs : List Parcel). sends ++ xs) (sym (map-append (parcel (Replica me)) own rest))
    ∙ ap (λ (xs : List Out). sends ++ map (parcel (Replica me)) xs) (sym all)

-- ---- the keys that are taken

drop_min : (xs : List Key) (m : ℕ) → drop (min m (length xs)) xs ≡ drop m xs
drop_min xs m =
    elim (cases_lt m (length xs)) [
      | inl below ↦ let same : min m (length xs) ≡ m = omega (arith, below) in ap (λ (n : ℕ). drop n xs) same
      | inr past ↦
          let same : min m (length xs) ≡ length xs = omega (arith, past) in
          ap (λ (n : ℕ). drop n xs) same ∙ drop_of_length-le xs (omega arith) ∙ sym (drop_of_length-le xs past)
    ]

pub taken_is : (leader : ℕ) (b : LogModBody) (s : ReplicaData) (keys : List Key) (n : ℕ)
    → nat_lt s.log.synced b.start ≡ false → keys ≡ drop n b.keys → n ≡ min (s.log.synced - b.start) (length b.keys)
    → after_log_mod leader b s ≡ after_taking_keys s leader b.commit (sync_keys s keys)
taken_is leader b s keys n within left is =
    ap (λ (t : Bool). cond t (s, sync_report_to leader s ∷ [])
    (after_taking_keys s leader b.commit (sync_keys s (drop (s.log.synced - b.start) b.keys)))) within
    ∙ ap (λ (ks : List Key). after_taking_keys s leader b.commit (sync_keys s ks))
    (sym (left ∙ ap (λ (k : ℕ). drop k b.keys) is ∙ drop_min b.keys (s.log.synced - b.start)))

pub keys_left : (n : ℕ) (keys left : List Key) → left ≡ drop n keys → fields.keys.fits keys → AreLeft left 64
keys_left n keys left is fits =
    let few = few_keys keys fits in
    let fewer = length-drop n keys in
    subst (λ (ks : List Key). AreLeft ks 64) (sym is) (record { few = omega (arith, few, fewer); all = all_drop key.fits n keys (keys_of_fit keys fits) })

all_sent : (f : Out → Parcel) (sends first second third : List Parcel) (a b c : List Out) → first ≡ sends ++ map f a
    → second ≡ first ++ map f b → third ≡ second ++ map f c
    → third ≡ sends ++ map f (a ++ (b ++ c))
all_sent f sends first second third a b c one two three =
    three ∙ ap (λ (xs : List Parcel). xs ++ map f c) (two ∙ ap (λ (xs : List Parcel). xs ++ map f b) one)
    ∙ append_assoc (sends ++ map f a) (map f b) (map f c)
    ∙ append_assoc sends (map f a) (map f b ++ map f c)
    ∙ ap (λ (xs : List Parcel). sends ++ xs) (sym (map-append f a (b ++ c) ∙ ap (λ (xs : List Parcel). map f a ++ xs) (map-append f b c)))

-- what is sent after the taking of keys: replies, a fetch and a report
pub taken_sends : (f me leader : ℕ) (b : LogModBody) (s : ReplicaData) (keys : List Key) (model : ReplicaModel)
    (ids : List Id) (synced : ℕ) (sends first second third : List Parcel)
    → after_log_mod leader b s ≡ after_taking_keys s leader b.commit (sync_keys s keys)
    → model ≡ record { f = f; me = me; state = (after_taking_keys s leader b.commit (sync_keys s keys)).0 }
    → ids ≡ missing_ids model.state (sync_keys s keys).1 → synced ≡ s.log.synced
    → first ≡ sends ++ map (parcel (Replica model.me)) (replies_since model.state synced)
    → second ≡ first ++ map (parcel (Replica model.me)) (fetch_from leader model.state ids)
    → third ≡ second ++ map (parcel (Replica model.me)) (sync_report_to leader model.state ∷ [])
    → third ≡ sends ++ map (parcel (Replica me)) (after_log_mod leader b s).1
taken_sends f me leader b s keys model ids synced sends first second third whole is missing count one two three =
    let left = (sync_keys s keys).1 in
    all_sent (parcel (Replica model.me)) sends first second third (replies_since model.state synced)
    (fetch_from leader model.state ids) (sync_report_to leader model.state ∷ []) one two three
    ∙ (λ i. sends ++ map (parcel (Replica model.me))
    (replies_since model.state (count i) ++ (fetch_from leader model.state (missing i) ++ sync_report_to leader model.state ∷ [])))
    ∙ (λ i.
    let now : ReplicaModel = is i in
    sends ++ map (parcel (Replica now.me))
    (replies_since now.state s.log.synced ++ (fetch_from leader now.state (missing_ids now.state left) ++ sync_report_to leader now.state ∷ [])))
    ∙ ap (λ (t : ReplicaData × List Out). sends ++ map (parcel (Replica me)) t.1) (sym whole)

pub some_left : (ids : List Id) (b : Bool) → (IsTrue b ↔ (ids ≡ [])) → b ≡ false → 1 ≤ length ids
some_left [] b h some = true_and_false b (h.1 refl) some
some_left (i ∷ ids) b h some = omega arith

-- ---- entries that were fetched

pub next_kept : (s : ReplicaData) (es : List Entry) (i : ℕ) (e : Entry) → i < length es → e ≡ get_or es i e
    → with_late_entries s (drop i es) ≡ with_late_entries (with_late_entry s e) (drop (i + 1) es)
unfolding with_late_entries
next_kept s es i e within is =
    ap (with_late_entries s) (drop-cons es i e within ∙ (λ j. sym is j ∷ drop (sym (add-one i) j) es))

pub all_kept : (model first : ReplicaModel) (es : List Entry) (i : ℕ) → length es ≤ i → model.f ≡ first.f
    → model.me ≡ first.me → with_late_entries model.state (drop i es) ≡ with_late_entries first.state es
    → model ≡ record first { state = with_late_entries first.state es }
unfolding with_late_entries
all_kept model first es i past size number is =
    let last : model.state ≡ with_late_entries first.state es = sym (ap (with_late_entries model.state) (drop_of_length-le es past)) ∙ is in
    λ j. record { f = size j; me = number j; state = last j }
