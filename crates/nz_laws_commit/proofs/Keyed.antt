-- Lists of entries, by their keys: in one run equal keys are of equal entries, and an id has one place among a
-- leader's.
use Rattle.std.proofs.Common.{◌≡◌, ℕ, zero, suc, ◌<◌, eqb, Bool, true, false, cond, List, [], ◌∷◌, ◌++◌}
use Rattle.std.proofs.Common.{take, Option, Some, None, refl, sym, ap, subst, ◌∙◌, arith, inl, inr, ◌⊎◌}
use Rattle.std.proofs.lemmas.Bool.{cases_Bool, or_left, or_right}
use Rattle.std.specs.Prelude.{slice_get}
use Rattle.std.proofs.lemmas.Option.{none-some, same_Some}
use Rattle.nz_base.specs.Cluster.{leader_of}
use Rattle.nz_base.specs.declared.key.Id.{Id}
use Rattle.nz_base.specs.declared.key.Key.{Key}
use Rattle.nz_base.specs.declared.key.Entry.{Entry}
use Rattle.nz_base.specs.Key.{id_eq, id_of}
use Rattle.nz_base.specs.Log.{keys_of, has_id, HaveOwnIds}
use Rattle.nz_base.specs.Prefixes.{IsPrefix, Comparable}
use Rattle.nz_base.proofs.Booleans.{true_and_false}
use Rattle.nz_base.proofs.Logs.{own_in_prefix, keys_append}
use Rattle.nz_base.proofs.Names.{same_id, id_eq_self}
use Rattle.nz_base.proofs.Prefixes.{prefix_none}
use Rattle.nz_log.specs.Places.{place_of}
use Rattle.nz_machine.specs.declared.event.Record.{Record}
use Rattle.nz_machine.specs.rules.State.{Group}
use Rattle.nz_machine.specs.runs.World.{Has, World}
use Rattle.nz_machine.specs.declared.client_event.ClientEvent.TheVariants.{Sent}
use Rattle.nz_machine.specs.runs.Events.{client_events, events}
use Rattle.nz_machine.specs.runs.OneHistory.{Precedes}
use Rattle.nz_machine.specs.runs.Leading.{leader_at, is_led, lead}
use Rattle.nz_machine.specs.runs.Begun.{begins, earlier_or, start}
use Rattle.nz_machine.proofs.runs.Runs.{has_left}
use Rattle.nz_laws_commit.proofs.FactsStay.{facts_stay}
use Rattle.nz_laws_commit.proofs.Places.{place_cases}
use Rattle.nz_laws_commit.proofs.OwnCommands.{WasSent, own_command}
use Rattle.nz_laws_commit.proofs.Counts.{are_once}
use Rattle.nz_laws_commit.proofs.Instance.{led_log, not_led}

-- ---- a request has one command

has_two : {X : Type 0} (xs : List X) (x y : X) → Has xs x → Has xs y → (x ≡ y) ⊎ (Precedes xs x y ⊎ Precedes xs y x)
has_two [] x y h k = absurd h
has_two (z ∷ xs) x y (inl h) (inl k) = inl (sym h ∙ k)
has_two (z ∷ xs) x y (inl h) (inr k) = inr (inl (inl (h, k)))
has_two (z ∷ xs) x y (inr h) (inl k) = inr (inr (inl (k, h)))
has_two (z ∷ xs) x y (inr h) (inr k) = elim (has_two xs x y h k) [
  | inl same ↦ inl same
  | inr (inl before) ↦ inr (inl (inr before))
  | inr (inr after) ↦ inr (inr (inr after))
]

same_sent : (id : Id) (x y : List ℕ) → Sent id x ≡ Sent id y → x ≡ y
same_sent id x y e = cc

one_command : (g : Group) (J : List Record) (id : Id) (x y : List ℕ) → Has (events g J) (Sent id x) → Has (events g J) (Sent id y) → x ≡ y
one_command g J id x y h k = elim (has_two (events g J) (Sent id x) (Sent id y) h k) [
  | inl same ↦ same_sent id x y same
  | inr (inl before) ↦ absurd ((are_once g J).sent id x y before)
  | inr (inr after) ↦ absurd ((are_once g J).sent id y x after)
]

same_entry : (e x : Entry) → e.key ≡ x.key → e.command ≡ x.command → e ≡ x
same_entry e x key command = λ i. record { key = key i; command = command i }

-- all entries of the list were sent
abbrev pub WereSent : Group → List Record → List Entry → Type 0
WereSent g J es = (e : Entry) → Has es e → WasSent (events g J) e

sent_same : (g : Group) (J : List Record) (e x : Entry) → WasSent (events g J) e → WasSent (events g J) x → e.key ≡ x.key → e ≡ x
sent_same g J e x mine its same =
    let ids : id_of x.key ≡ id_of e.key = ap id_of (sym same) in
    same_entry e x same (one_command g J (id_of e.key) e.command x.command mine (subst (λ (id : Id). Has (events g J) (Sent id x.command)) ids its))

pub keyed_prefix : (g : Group) (J : List Record) (xs ys : List Entry) → WereSent g J xs → WereSent g J ys → IsPrefix (keys_of xs) (keys_of ys) → IsPrefix xs ys
keyed_prefix g J [] ys mine its p = prefix_none ys
keyed_prefix g J (e ∷ xs) [] mine its p = let no = p.whole in absurd cc
keyed_prefix g J (e ∷ xs) (x ∷ ys) mine its p =
    let whole = p.whole in
    let head : x.key ≡ e.key = cc in
    let tail : keys_of ys ≡ keys_of xs ++ p.rest = cc in
    let rest = keyed_prefix g J xs ys (λ a h. mine a (inr h)) (λ a h. its a (inr h)) (record { rest = p.rest; whole = tail }) in
    let first : e ≡ x = sent_same g J e x (mine e (inl refl)) (its x (inl refl)) (sym head) in
    record { rest = rest.rest; whole = ap (λ (z : Entry). z ∷ ys) (sym first) ∙ ap (λ (l : List Entry). e ∷ l) rest.whole }

pub keyed_comparable : (g : Group) (J : List Record) (xs ys : List Entry) → WereSent g J xs → WereSent g J ys → Comparable (keys_of xs) (keys_of ys)
    → Comparable xs ys
keyed_comparable g J xs ys mine its (inl p) = inl (keyed_prefix g J xs ys mine its p)
keyed_comparable g J xs ys mine its (inr p) = inr (keyed_prefix g J ys xs its mine p)

-- ---- what a view began with, and what its leader leads with

later_sent : (g : Group) (r : Record) (J : List Record) (e : Entry) → WasSent (events g J) e → WasSent (events g (r ∷ J)) e
later_sent g r J e h = has_left (events g J) (client_events g r.actor r J) (Sent (id_of e.key) e.command) h

leader_sent : (g : Group) (J : List Record) → World g J → (v : ℕ) → WereSent g J (leader_at g v J).log.entries
leader_sent g J w v e h = own_command g J (leader_of g.f v) e w h

pub start_sent : (g : Group) (J : List Record) → World g J → (v : ℕ) (S : List Entry) → start g v J ≡ Some S → WereSent g J S
unfolding start
start_sent g [] w v S is e h = by_zero (eqb v 0) is
  where
    by_zero : (b : Bool) → cond b (Some []) None ≡ Some S → WasSent (events g []) e
    by_zero true same = absurd (subst (λ (l : List Entry). Has l e) (sym (same_Some [] S same)) h)
    by_zero false same = absurd (none-some S same)
start_sent g (r ∷ J) w v S is e h = by_start (start g v J) refl (begins g v (r ∷ J)) is (λ T was. start_sent g J w.1 v T was)
  where
    by_start : (o : Option (List Entry)) → start g v J ≡ o → (b : Bool) → earlier_or o (cond b (Some (leader_at g v (r ∷ J)).log.entries) None) ≡ Some S
        → ((T : List Entry) → start g v J ≡ Some T → WereSent g J T) → WasSent (events g (r ∷ J)) e
    by_start (Some T) was b same old = later_sent g r J e (old T was e (subst (λ (l : List Entry). Has l e) (sym (same_Some T S same)) h))
    by_start None was true same old = leader_sent g (r ∷ J) w v e (subst (λ (l : List Entry). Has l e) (sym (same_Some _ S same)) h)
    by_start None was false same old = absurd (none-some S same)

pub lead_sent : (g : Group) (J : List Record) → World g J → (v : ℕ) → WereSent g J (lead g v J)
unfolding lead
lead_sent g [] w v e h = absurd h
lead_sent g (r ∷ J) w v e h =
    elim (cases_Bool (is_led g v (r ∷ J))) [
      | inl led ↦ leader_sent g (r ∷ J) w v e (subst (λ (l : List Entry). Has l e) (led_log g v (r ∷ J) led) h)
      | inr away ↦ later_sent g r J e (lead_sent g J w.1 v e (subst (λ (l : List Entry). Has l e) (not_led g v r J away) h))
    ]

-- ---- each id has one place

leader_own : (g : Group) (J : List Record) → World g J → (v : ℕ) → HaveOwnIds (keys_of (leader_at g v J).log.entries)
leader_own g J w v =
    let s = leader_at g v J in
    let facts = facts_stay g J (leader_of g.f v) w in
    own_in_prefix (keys_of s.log.entries) (keys_of (s.early ++ s.late))
    (subst HaveOwnIds (keys_append s.log.entries (s.early ++ s.late)) facts.entries.arranged.own_ids)

pub lead_own : (g : Group) (J : List Record) → World g J → (v : ℕ) → HaveOwnIds (keys_of (lead g v J))
unfolding lead
lead_own g [] w v = tt
lead_own g (r ∷ J) w v =
    elim (cases_Bool (is_led g v (r ∷ J))) [
      | inl led ↦ subst (λ (l : List Entry). HaveOwnIds (keys_of l)) (sym (led_log g v (r ∷ J) led)) (leader_own g (r ∷ J) w v)
      | inr away ↦ subst (λ (l : List Entry). HaveOwnIds (keys_of l)) (sym (not_led g v r J away)) (lead_own g J w.1 v)
    ]

-- the key at a place, of the id
pub record IsAt (ks : List Key) (id : Id) (i : ℕ) : Type 0 where
  pub key : Key
  pub at : slice_get ks i ≡ Some key
  pub own : id_of key ≡ id

pub place_key : (es : List Entry) (id : Id) (i : ℕ) → place_of es id ≡ Some i → IsAt (keys_of es) id i
place_key [] id i e = absurd (none-some i e)
place_key (x ∷ es) id i e = elim (place_cases (id_eq id (id_of x.key)) (place_of es id) i e) [
  | inl h ↦ subst (IsAt (keys_of (x ∷ es)) id) h.1 (record { key = x.key; at = refl; own = sym (same_id id (id_of x.key) h.0) })
  | inr h ↦ let rest = place_key es id h.1.0 h.1.1.0 in subst (IsAt (keys_of (x ∷ es)) id) h.1.1.1 (record { key = rest.key; at = rest.at; own = rest.own })
]

none_there : (i : ℕ) → let none : List Key = [] in slice_get none i ≡ None
none_there zero = refl
none_there (suc i) = refl

get_longer : (xs rest : List Key) (i : ℕ) (k : Key) → slice_get xs i ≡ Some k → slice_get (xs ++ rest) i ≡ Some k
get_longer [] rest i k e = absurd (none-some k (sym (none_there i) ∙ e))
get_longer (x ∷ xs) rest zero k e = e
get_longer (x ∷ xs) rest (suc i) k e = get_longer xs rest i k e

get_taken : (n i : ℕ) (ks : List Key) (k : Key) → i < n → slice_get ks i ≡ Some k → slice_get (take n ks) i ≡ Some k
get_taken zero i ks k low e = absurd (omega (arith, low))
get_taken (suc n) i [] k low e = e
get_taken (suc n) zero (x ∷ ks) k low e = e
get_taken (suc n) (suc i) (x ∷ ks) k low e = get_taken n i ks k (omega (arith, low)) e

pub at_longer : (xs ys : List Key) (id : Id) (i : ℕ) → IsPrefix xs ys → IsAt xs id i → IsAt ys id i
at_longer xs ys id i p h =
    record { key = h.key; at = ap (λ (l : List Key). slice_get l i) p.whole ∙ get_longer xs p.rest i h.key h.at; own = h.own }

pub at_taken : (n : ℕ) (ks : List Key) (id : Id) (i : ℕ) → i < n → IsAt ks id i → IsAt (take n ks) id i
at_taken n ks id i low h = record { key = h.key; at = get_taken n i ks h.key low h.at; own = h.own }

at_has : (ks : List Key) (id : Id) (i : ℕ) (k : Key) → slice_get ks i ≡ Some k → id_of k ≡ id → has_id ks id ≡ true
at_has [] id i k e own = absurd (none-some k (sym (none_there i) ∙ e))
at_has (x ∷ ks) id zero k e own = or_left (id_eq id (id_of x)) (has_id ks id) (ap (id_eq id) (ap id_of (same_Some x k e) ∙ own) ∙ id_eq_self id)
at_has (x ∷ ks) id (suc i) k e own = or_right (id_eq id (id_of x)) (has_id ks id) (at_has ks id i k e own)

pub one_place : (ks : List Key) (id : Id) (i j : ℕ) → HaveOwnIds ks → IsAt ks id i → IsAt ks id j → i ≡ j
one_place [] id i j own a b = absurd (none-some a.key (sym (none_there i) ∙ a.at))
one_place (x ∷ ks) id zero zero own a b = refl
one_place (x ∷ ks) id zero (suc j) own a b =
    true_and_false (has_id ks (id_of x)) (at_has ks (id_of x) j b.key b.at (b.own ∙ sym a.own ∙ ap id_of (sym (same_Some x a.key a.at)))) own.0
one_place (x ∷ ks) id (suc i) zero own a b =
    true_and_false (has_id ks (id_of x)) (at_has ks (id_of x) i a.key a.at (a.own ∙ sym b.own ∙ ap id_of (sym (same_Some x b.key b.at)))) own.0
one_place (x ∷ ks) id (suc i) (suc j) own a b =
    ap suc (one_place ks id i j own.1 (record { key = a.key; at = a.at; own = a.own }) (record { key = b.key; at = b.at; own = b.own }))
