-- What the laws on logs read of the machine, in the machine's own words: statuses, incarnations, leaders' logs and
-- begins.
use Rattle.std.proofs.Common.{◌≡◌, ℕ, suc, Bool, true, false, not, ◌&&◌, cond, eqb, List, [], ◌∷◌, Option, Some, None, refl, sym, ap, ◌∙◌, inl, inr, eq-eqb}
use Rattle.std.proofs.lemmas.Bool.{cases_Bool, and_from}
use Rattle.std.specs.Option.{option_or, option_map}
use Rattle.std.proofs.lemmas.Option.{none-some}
use Rattle.nz_base.specs.Actor.{actor_eq}
use Rattle.nz_base.specs.Cluster.{leader_of}
use Rattle.nz_base.specs.Log.{keys_of}
use Rattle.nz_base.specs.declared.actor.Actor.TheVariants.{Replica}
use Rattle.nz_base.specs.declared.key.Key.{Key}
use Rattle.nz_base.specs.declared.key.Entry.{Entry}
use Rattle.nz_base.proofs.Booleans.{true_and_false}
use Rattle.nz_machine.specs.declared.data.Status.{Status}
use Rattle.nz_machine.specs.declared.data.Status.TheVariants as statuses
use Rattle.nz_machine.specs.declared.event.Record.{Record}
use Rattle.nz_machine.specs.rules.State.{ReplicaData, Group}
use Rattle.nz_machine.specs.rules.Replicas.{is_normal, is_up, is_rejoining, is_down, leads}
use Rattle.nz_machine.specs.runs.World.{state_after}
use Rattle.nz_machine.specs.runs.Incarnations.{replica_at, is_restart, comes_back, incarnation}
use Rattle.nz_machine.specs.runs.Leading.{is_normal_in, leader_at, is_led, lead}
use Rattle.nz_machine.specs.runs.Begun.{begins, earlier_or, start}
use Rattle.nz_machine.proofs.runs.Runs.{stays}
use Rattle.nz_laws_cv.proofs.Beginnings.{normal_in_is, is_in_view}
use Rattle.nz_laws_commit.specs.States.{Normal, Rejoining, Down, IsUp}
use Rattle.nz_laws_commit.specs.Machines.{leads_by, inc_of, lead_of, start_of}
use Rattle.nz_laws_commit.specs.Machines as machines
use Rattle.nz_laws_commit.specs.Supports.{IsNormal}
use Rattle.nz_laws_commit.specs.Instance.{status_of, states_of, logs_of}

-- ---- statuses

pub normal_status : (s : Status) → is_normal s ≡ true → status_of s ≡ Normal
normal_status statuses.Normal h = refl
normal_status statuses.ViewChange h = absurd cc
normal_status statuses.Rejoining h = absurd cc
normal_status statuses.Down h = absurd cc

pub status_normal : (s : Status) → status_of s ≡ Normal → is_normal s ≡ true
status_normal statuses.Normal h = refl
status_normal statuses.ViewChange h = absurd cc
status_normal statuses.Rejoining h = absurd cc
status_normal statuses.Down h = absurd cc

pub up_status : (s : Status) → is_up s ≡ true → IsUp (status_of s)
up_status statuses.Normal h = tt
up_status statuses.ViewChange h = tt
up_status statuses.Rejoining h = absurd cc
up_status statuses.Down h = absurd cc

pub normal_up_status : (s : Status) → is_normal s ≡ true → IsUp (status_of s)
normal_up_status statuses.Normal h = tt
normal_up_status statuses.ViewChange h = absurd cc
normal_up_status statuses.Rejoining h = absurd cc
normal_up_status statuses.Down h = absurd cc

pub status_up : (s : Status) → IsUp (status_of s) → is_up s ≡ true
status_up statuses.Normal h = refl
status_up statuses.ViewChange h = refl
status_up statuses.Rejoining h = absurd h
status_up statuses.Down h = absurd h

pub rejoining_status : (s : Status) → is_rejoining s ≡ true → status_of s ≡ Rejoining
rejoining_status statuses.Normal h = absurd cc
rejoining_status statuses.ViewChange h = absurd cc
rejoining_status statuses.Rejoining h = refl
rejoining_status statuses.Down h = absurd cc

pub status_rejoining : (s : Status) → status_of s ≡ Rejoining → is_rejoining s ≡ true
status_rejoining statuses.Normal h = absurd cc
status_rejoining statuses.ViewChange h = absurd cc
status_rejoining statuses.Rejoining h = refl
status_rejoining statuses.Down h = absurd cc

pub down_status : (s : Status) → is_down s ≡ true → status_of s ≡ Down
down_status statuses.Normal h = absurd cc
down_status statuses.ViewChange h = absurd cc
down_status statuses.Rejoining h = absurd cc
down_status statuses.Down h = refl

-- the tests are those of the laws
normal_test : (s : Status) → machines.is_normal (status_of s) ≡ is_normal s
normal_test statuses.Normal = refl
normal_test statuses.ViewChange = refl
normal_test statuses.Rejoining = refl
normal_test statuses.Down = refl

down_test : (s : Status) → machines.is_down (status_of s) ≡ is_down s
down_test statuses.Normal = refl
down_test statuses.ViewChange = refl
down_test statuses.Rejoining = refl
down_test statuses.Down = refl

-- ---- in normal operation in a view

pub is_normal_at : (g : Group) (y v : ℕ) (K : List Record) → is_normal (replica_at g y K).status ≡ true → (replica_at g y K).view ≡ v
    → IsNormal (logs_of g) y v K
is_normal_at g y v K normal view = record { status = normal_status (replica_at g y K).status normal; view = view }

pub normal_at_is : (g : Group) (y v : ℕ) (K : List Record) → IsNormal (logs_of g) y v K → is_normal_in v (replica_at g y K) ≡ true
normal_at_is g y v K n = is_in_view v (replica_at g y K) (status_normal (replica_at g y K).status n.status) n.view

-- who leads now and did not before is the record's actor
pub led_by : (g : Group) (v : ℕ) (r : Record) (K : List Record) → is_led g v (r ∷ K) ≡ true → is_led g v K ≡ false
    → actor_eq r.actor (Replica (leader_of g.f v)) ≡ true
led_by g v r K led not_led = elim (cases_Bool (actor_eq r.actor (Replica (leader_of g.f v)))) [
  | inl acts ↦ acts
  | inr other ↦ true_and_false (is_led g v K) (sym (ap (is_normal_in v) (stays g (Replica (leader_of g.f v)) r K other)) ∙ led) not_led
]

-- ---- incarnations

pub inc_is : (g : Group) (m : ℕ) (K : List Record) → inc_of (states_of g) m K ≡ incarnation g m K
unfolding inc_of incarnation
inc_is g m [] = refl
inc_is g m (r ∷ K) =
    let acts = actor_eq r.actor (Replica m) in
    let test : (acts && (is_restart r.event && machines.is_down (status_of (replica_at g m K).status))) ≡ comes_back g m r K =
    ap (λ (b : Bool). acts && (is_restart r.event && b)) (down_test (replica_at g m K).status) in
    let n = inc_of (states_of g) m K in
    ap (λ (b : Bool). cond b (suc n) n) test ∙ ap (λ (k : ℕ). cond (comes_back g m r K) (suc k) k) (inc_is g m K)

-- ---- the test on who leads by a record

leads_is : (g : Group) (v : ℕ) (r : Record) (K : List Record)
    → leads_by (states_of g) v r K ≡ (actor_eq r.actor (Replica (leader_of g.f v)) && is_led g v (r ∷ K))
leads_is g v r K =
    let s = leader_at g v (r ∷ K) in
    ap (λ (b : Bool). actor_eq r.actor (Replica (leader_of g.f v)) && (b && eqb s.view v)) (normal_test s.status)

-- what the leader has of the view by a record of another
other_keys : (g : Group) (v : ℕ) (r : Record) (K : List Record) → actor_eq r.actor (Replica (leader_of g.f v)) ≡ false
    → leader_at g v (r ∷ K) ≡ leader_at g v K
other_keys g v r K other = stays g (Replica (leader_of g.f v)) r K other

-- ---- what a leader leads with

-- what it leads with is its log
pub led_log : (g : Group) (v : ℕ) (J : List Record) → is_led g v J ≡ true → lead g v J ≡ (leader_at g v J).log.entries
unfolding lead state_after
led_log g v [] h = refl
led_log g v (r ∷ J) h = ap (λ b. cond b (leader_at g v (r ∷ J)).log.entries (lead g v J)) h

pub led_leads : (g : Group) (v : ℕ) (J : List Record) → is_led g v J ≡ true → leads g.f (leader_of g.f v) (leader_at g v J) ≡ true
led_leads g v J h = eq-eqb (leader_of g.f (leader_at g v J).view) (leader_of g.f v) (ap (leader_of g.f) (normal_in_is v (leader_at g v J) h).1)

pub not_led : (g : Group) (v : ℕ) (r : Record) (J : List Record) → is_led g v (r ∷ J) ≡ false → lead g v (r ∷ J) ≡ lead g v J
unfolding lead
not_led g v r J h = ap (λ b. cond b (leader_at g v (r ∷ J)).log.entries (lead g v J)) h

-- by another's record it stays
lead_stays : (g : Group) (v : ℕ) (r : Record) (K : List Record) → actor_eq r.actor (Replica (leader_of g.f v)) ≡ false → lead g v (r ∷ K) ≡ lead g v K
lead_stays g v r K other = elim (cases_Bool (is_led g v (r ∷ K))) [
  | inl led ↦
      let same = other_keys g v r K other in
      let before : is_led g v K ≡ true = sym (ap (is_normal_in v) same) ∙ led in
      led_log g v (r ∷ K) led ∙ ap (λ (s : ReplicaData). s.log.entries) same ∙ sym (led_log g v K before)
  | inr away ↦ not_led g v r K away
]

pub lead_is : (g : Group) (v : ℕ) (K : List Record) → lead_of (states_of g) v K ≡ keys_of (lead g v K)
unfolding lead_of lead
lead_is g v [] = refl
lead_is g v (r ∷ K) = elim (cases_Bool (actor_eq r.actor (Replica (leader_of g.f v)))) [
  | inl acts ↦
      let now = keys_of (leader_at g v (r ∷ K)).log.entries in
      let test : leads_by (states_of g) v r K ≡ is_led g v (r ∷ K) = leads_is g v r K ∙ ap (λ (b : Bool). b && is_led g v (r ∷ K)) acts in
      ap (λ (b : Bool). cond b now (lead_of (states_of g) v K)) test
      ∙ ap (λ (ks : List Key). cond (is_led g v (r ∷ K)) now ks) (lead_is g v K)
      ∙ keys_choice (is_led g v (r ∷ K)) (leader_at g v (r ∷ K)).log.entries (lead g v K)
  | inr other ↦
      let now = keys_of (leader_at g v (r ∷ K)).log.entries in
      let test : leads_by (states_of g) v r K ≡ false = leads_is g v r K ∙ ap (λ (b : Bool). b && is_led g v (r ∷ K)) other in
      ap (λ (b : Bool). cond b now (lead_of (states_of g) v K)) test ∙ lead_is g v K ∙ ap keys_of (sym (lead_stays g v r K other))
]
  where
    keys_choice : (b : Bool) (xs ys : List Entry) → cond b (keys_of xs) (keys_of ys) ≡ keys_of (cond b xs ys)
    keys_choice true xs ys = refl
    keys_choice false xs ys = refl

-- ---- begins

-- a view that is led has begun
pub led_begun : (g : Group) (v : ℕ) (K : List Record) → is_led g v K ≡ true → (S : List Entry) × (start g v K ≡ Some S)
unfolding start state_after
led_begun g v [] led = (
  [],
  let zero_view : eqb v 0 ≡ true = eq-eqb v 0 (sym (normal_in_is v (leader_at g v []) led).1) in ap
      (λ (b : Bool). cond b (Some []) None) zero_view,
)
led_begun g v (r ∷ K) led = elim (cases_Bool (is_led g v K)) [
  | inl before ↦
      let old = led_begun g v K before in
      (old.0, ap (λ (o : Option (List Entry)). earlier_or o (cond (begins g v (r ∷ K)) (Some (leader_at g v (r ∷ K)).log.entries) None)) old.1)
  | inr away ↦
      let now : begins g v (r ∷ K) ≡ true = and_from (not (is_led g v K)) (is_led g v (r ∷ K)) (ap not away) led in
      first_of (start g v K) (leader_at g v (r ∷ K)).log.entries (begins g v (r ∷ K)) now
]
  where
    first_of : (o : Option (List Entry)) (log : List Entry) (b : Bool) → b ≡ true → (S : List Entry) × (earlier_or o (cond b (Some log) None) ≡ Some S)
    first_of (Some S) log b e = (S, refl)
    first_of None log b e = (log, ap (λ (c : Bool). cond c (Some log) None) e)

-- the leader acts where it leads now and did not before
led_test : (g : Group) (v : ℕ) (r : Record) (K : List Record) (a b : Bool) → actor_eq r.actor (Replica (leader_of g.f v)) ≡ a → is_led g v (r ∷ K) ≡ b
    → is_led g v K ≡ false → (a && b) ≡ b
led_test g v r K true b acts led before = refl
led_test g v r K false false acts led before = refl
led_test g v r K false true acts led before = true_and_false (actor_eq r.actor (Replica (leader_of g.f v))) (led_by g v r K led before) acts

some_keys : (b : Bool) (xs : List Entry) → (let none : Option (List Key) = None in cond b (Some (keys_of xs)) none) ≡ option_map keys_of (cond b (Some xs) None)
some_keys true xs = refl
some_keys false xs = refl

pub start_is : (g : Group) (v : ℕ) (K : List Record) → start_of (states_of g) v K ≡ option_map keys_of (start g v K)
unfolding start_of start
start_is g v [] = first_choice (eqb v 0)
  where
    first_choice : (b : Bool) → (let none : Option (List Key) = None in cond b (Some []) none) ≡ option_map keys_of (cond b (Some []) None)
    first_choice true = refl
    first_choice false = refl
start_is g v (r ∷ K) =
    ap (λ (o : Option (List Key)). option_or o (cond (leads_by (states_of g) v r K) (Some (keys_of (leader_at g v (r ∷ K)).log.entries)) None)) (start_is g v K)
    ∙ by_start (start g v K) refl (is_led g v K) refl
  where
    by_start : (o : Option (List Entry)) → start g v K ≡ o → (b : Bool) → is_led g v K ≡ b
        → option_or (option_map keys_of o) (cond (leads_by (states_of g) v r K) (Some (keys_of (leader_at g v (r ∷ K)).log.entries)) None)
        ≡ option_map keys_of (earlier_or o (cond (not b && is_led g v (r ∷ K)) (Some (leader_at g v (r ∷ K)).log.entries) None))
    by_start (Some S) is b led = refl
    by_start None is true led = let begun = led_begun g v K led in absurd (none-some begun.0 (sym is ∙ begun.1))
    by_start None is false led =
        let acts = actor_eq r.actor (Replica (leader_of g.f v)) in
        ap (λ (b : Bool). cond b (Some (keys_of (leader_at g v (r ∷ K)).log.entries)) None)
        (leads_is g v r K ∙ led_test g v r K acts (is_led g v (r ∷ K)) refl refl led)
        ∙ some_keys (is_led g v (r ∷ K)) (leader_at g v (r ∷ K)).log.entries

-- a view that had not begun starts with the log of the leader that begins it
pub start_now : (g : Group) (v : ℕ) (r : Record) (K : List Record) → start_of (states_of g) v K ≡ None → is_led g v (r ∷ K) ≡ true → is_led g v K ≡ false
    → start_of (states_of g) v (r ∷ K) ≡ Some (keys_of (leader_at g v (r ∷ K)).log.entries)
unfolding start_of
start_now g v r K none led not_led =
    let log = keys_of (leader_at g v (r ∷ K)).log.entries in
    let test = leads_is g v r K ∙ and_from (actor_eq r.actor (Replica (leader_of g.f v))) (is_led g v (r ∷ K)) (led_by g v r K led not_led) led in
    ap (λ (o : Option (List Key)). option_or o (cond (leads_by (states_of g) v r K) (Some log) None)) none
    ∙ ap (λ (b : Bool). cond b (Some log) None) test
