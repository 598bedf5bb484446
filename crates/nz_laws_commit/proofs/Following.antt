-- In every run the states of the replicas have what the laws on logs ask of them, but for what each record does and
-- what each begin merges.
use Rattle.std.proofs.Common.{◌≡◌, ℕ, ◌<◌, Bool, true, false, cond, eqb, ◌&&◌, List, [], ◌∷◌, length, Option}
use Rattle.std.proofs.Common.{Some, None, refl, sym, ap, subst, ◌∙◌, arith, inl, inr, ◌⊎◌, eq-eqb, eqb-true}
use Rattle.std.proofs.lemmas.Bool.{cases_Bool, and_from}
use Rattle.std.specs.Option.{option_map}
use Rattle.std.proofs.lemmas.Option.{none-some, same_Some}
use Rattle.nz_base.specs.Actor.{actor_eq}
use Rattle.nz_base.specs.Cluster.{leader_of}
use Rattle.nz_base.specs.Log.{keys_of}
use Rattle.nz_base.specs.Moments.{At}
use Rattle.nz_base.specs.declared.actor.Actor.TheVariants.{Replica}
use Rattle.nz_base.specs.declared.key.Key.{Key}
use Rattle.nz_base.specs.declared.key.Entry.{Entry}
use Rattle.nz_base.proofs.Moments.{at_self, at_then, at_tail, at_shorter}
use Rattle.nz_machine.specs.declared.event.Record.{Record}
use Rattle.nz_machine.specs.rules.State.{ReplicaData, Group}
use Rattle.nz_machine.specs.rules.Facts.{HasFacts}
use Rattle.nz_machine.specs.rules.Replicas.{is_normal, is_rejoining, is_down}
use Rattle.nz_machine.specs.runs.World.{state_after, World}
use Rattle.nz_machine.specs.runs.Incarnations.{replica_at, is_restart, incarnation, completes}
use Rattle.nz_machine.specs.runs.Leading.{leader_at}
use Rattle.nz_machine.specs.runs.Begun.{begins, earlier_or, start}
use Rattle.nz_machine.proofs.runs.Moments.{at_world}
use Rattle.nz_machine.proofs.runs.Runs.{stays}
use Rattle.nz_machine.proofs.facts.WordsKeepFacts.{own_carried}
use Rattle.nz_laws_cv.specs.Views.{HasViews, ComesFrom}
use Rattle.nz_laws_cv.proofs.Modes.{up_not_down, normal_no_rejoin}
use Rattle.nz_laws_cv.proofs.WithinIncarnation.{inc_same}
use Rattle.nz_laws_cv.proofs.ViewNotions.{Begins, notions}
use Rattle.nz_laws_cv.proofs.Grounds.{later_at, completing_is}
use Rattle.nz_laws_cv.proofs.Showing.{shows}
use Rattle.nz_laws_cv.proofs.Known.{has_views}
use Rattle.nz_laws_cv.proofs.Returning.{IsTakenFrom, taken_from}
use Rattle.nz_laws_commit.specs.States.{Normal, IsUp}
use Rattle.nz_laws_commit.specs.Supports.{IsNormal}
use Rattle.nz_laws_commit.specs.Machines.{start_of}
use Rattle.nz_laws_commit.specs.Premises.{CompletesRejoin, IsLogOfLeader, Rejoined, IsMergeOfReports, ViewPremises}
use Rattle.nz_laws_commit.specs.Does.{VectorGrows, Does, FollowsRules}
use Rattle.nz_laws_commit.specs.Instance.{status_of, log_state, states_of, logs_of}
use Rattle.nz_laws_commit.proofs.FactsStay.{facts_stay}
use Rattle.nz_laws_commit.proofs.Instance.{normal_status, status_normal, status_up, rejoining_status, status_rejoining, is_normal_at, inc_is, start_is}

-- ---- where a view began

pub record IsBegunAs (g : Group) (v : ℕ) (S : List Entry) (K : List Record) : Type 0 where
  pub moment : List Record
  pub at : At K moment
  pub is : begins g v moment ≡ true
  pub log : (leader_at g v moment).log.entries ≡ S

pub start_began : (g : Group) (v : ℕ) (S : List Entry) (K : List Record) → 0 < v → start g v K ≡ Some S → IsBegunAs g v S K
unfolding start
start_began g v S [] some e = by_zero (eqb v 0) refl e
  where
    by_zero : (b : Bool) → eqb v 0 ≡ b → cond b (Some []) None ≡ Some S → IsBegunAs g v S []
    by_zero true zero_view same = absurd (let none = eqb-true v 0 zero_view in omega (arith, none, some))
    by_zero false zero_view same = absurd (none-some S same)
start_began g v S (r ∷ K) some e = by_start (start g v K) refl (begins g v (r ∷ K)) refl e (λ was. start_began g v S K some was)
  where
    by_start : (o : Option (List Entry)) → start g v K ≡ o → (b : Bool) → begins g v (r ∷ K) ≡ b
        → earlier_or o (cond b (Some (leader_at g v (r ∷ K)).log.entries) None) ≡ Some S → (start g v K ≡ Some S → IsBegunAs g v S K) → IsBegunAs g v S (r ∷ K)
    by_start (Some T) was b now same old = let h = old (was ∙ same) in record { moment = h.moment; at = inr h.at; is = h.is; log = h.log }
    by_start None was true now same old =
        record { moment = r ∷ K; at = at_self (r ∷ K); is = now; log = same_Some (leader_at g v (r ∷ K)).log.entries S same }
    by_start None was false now same old = absurd (none-some S same)

pub never_all : (a b c : Bool) → c ≡ false → (a && (b && c)) ≡ false
never_all true true c e = e
never_all true false c e = refl
never_all false b c e = refl

before_by : {X : Type 0} (r : X) (K T : List X) → At (r ∷ K) T → length T < length (r ∷ K) → At K T
before_by r K T (inl same) short = absurd (let long = ap length same in omega (arith, long, short))
before_by r K T (inr older) short = older

module _ (g : Group) (J : List Record) (w : World g J) where
  abbrev v : HasViews (notions g J) J
  v = has_views g J w

  facts_at : (y : ℕ) (K : List Record) → At J K → HasFacts g.f y (replica_at g y K)
  facts_at y K at = facts_stay g K y (at_world g J K w at)

  -- ---- rejoins

  -- who turns from rejoining to normal operation acts
  turned_by : (x : ℕ) (r : Record) (K : List Record) → is_rejoining (replica_at g x K).status ≡ true → is_normal (replica_at g x (r ∷ K)).status ≡ true
      → actor_eq r.actor (Replica x) ≡ true
  turned_by x r K before after = elim (cases_Bool (actor_eq r.actor (Replica x))) [
    | inl acts ↦ acts
    | inr other ↦
        let same = ap (λ (s : ReplicaData). is_normal s.status) (stays g (Replica x) r K other) in
        normal_no_rejoin (replica_at g x K).status (sym same ∙ after) before
  ]

  log_told : (x : ℕ) (r : Record) (L T : List Record) → IsTakenFrom g x (r ∷ L) T → IsLogOfLeader (logs_of g) x (r ∷ L) T
  log_told x r L T t = record {
    moment = before_by r L T t.at t.before;
    restarted = inc_is g x T ∙ t.inside ∙ sym (inc_is g x (r ∷ L));
    leader = is_normal_at g (leader_of g.f (replica_at g x (r ∷ L)).view) (replica_at g x (r ∷ L)).view T t.normal t.view;
    log = ap keys_of t.entries;
    synced = t.synced;
    counter = t.counter;
  }

  rejoined_by : (x : ℕ) (K : List Record) (r : Record) (L : List Record) → At J K → is_rejoining (replica_at g x L).status ≡ true
      → is_normal (replica_at g x (r ∷ L)).status ≡ true → ComesFrom (notions g J) J x K (r ∷ L) → Rejoined (logs_of g) x K
  rejoined_by x K r L at before after c =
      let there = at_then J K (r ∷ L) at c.at in
      let now = at_world g J (r ∷ L) w there in
      let told = taken_from g x r L now (shows g (r ∷ L) now) c.completes.is in
      record {
        C = r ∷ L;
        moment = c.at;
        completes = record {
          r = r;
          before = L;
          is = refl;
          actor = turned_by x r L before after;
          rejoining = rejoining_status (replica_at g x L).status before;
          normal = normal_status (replica_at g x (r ∷ L)).status after;
        };
        same = inc_is g x (r ∷ L) ∙ c.inc ∙ sym (inc_is g x K);
        own = c.own;
        positive = c.counter;
        view = c.view;
        last = c.last;
        t = told.0;
        told = log_told x r L told.0 told.1;
      }

  rejoined : (x : ℕ) (K C : List Record) → At J K → ComesFrom (notions g J) J x K C → Rejoined (logs_of g) x K
  rejoined x K C at c =
      let i = completing_is g x C c.completes.is in
      rejoined_by x K i.newest i.older at i.before i.after (subst (λ (L : List Record). ComesFrom (notions g J) J x K L) i.is c)

  pub completes_by : (x : ℕ) (C : List Record) → CompletesRejoin (logs_of g) x C → completes g x C ≡ true
  completes_by x C c =
      let now : is_normal (replica_at g x (c.r ∷ c.before)).status ≡ true =
      status_normal (replica_at g x (c.r ∷ c.before)).status (subst (λ (L : List Record). status_of (replica_at g x L).status ≡ Normal) c.is c.normal) in
      subst (λ (L : List Record). completes g x L ≡ true) (sym c.is)
      (and_from (is_rejoining (replica_at g x c.before).status) (is_normal (replica_at g x (c.r ∷ c.before)).status)
      (status_rejoining (replica_at g x c.before).status c.rejoining) now)

  -- ---- begins

  -- no view begins twice
  pub not_begun : (n : ℕ) (r : Record) (K : List Record) → At J (r ∷ K) → Begins g J n (r ∷ K) → start g n K ≡ None
  not_begun n r K at b = by_start (start g n K) refl
    where
      by_start : (o : Option (List Entry)) → start g n K ≡ o → o ≡ None
      by_start None is = refl
      by_start (Some S) is =
          let h = start_began g n S K b.later is in
          let same = v.once n h.moment (r ∷ K) (record { at = at_then J K h.moment (at_tail J r K at) h.at; later = b.later; is = h.is }) b in
          absurd (let short = at_shorter K h.moment h.at in let long = ap length same in omega (arith, short, long))

  unbegun : (n : ℕ) (r : Record) (K : List Record) → At J (r ∷ K) → Begins g J n (r ∷ K) → start_of (states_of g) n K ≡ None
  unbegun n r K at b = start_is g n K ∙ ap (λ (o : Option (List Entry)). option_map keys_of o) (not_begun n r K at b)

  begun_once : (n : ℕ) (r : Record) (K : List Record) → At J (r ∷ K) → IsNormal (logs_of g) (leader_of g.f n) n (r ∷ K)
      → (start_of (states_of g) n K ≡ None) ⊎ IsNormal (logs_of g) (leader_of g.f n) n K
  begun_once n r K at now =
      elim (v.begins_once n r K at (record { normal = status_normal (replica_at g (leader_of g.f n) (r ∷ K)).status now.status; view = now.view })) [
        | inl b ↦ inl (unbegun n r K at b)
        | inr was ↦ inr (is_normal_at g (leader_of g.f n) n K was.0.normal was.0.view)
      ]

  -- ---- vectors

  grown_vector : (y : ℕ) (r : Record) (K : List Record) → At J (r ∷ K) → IsUp (status_of (replica_at g y K).status)
      → IsUp (status_of (replica_at g y (r ∷ K)).status) → VectorGrows y (log_state (replica_at g y K)) (log_state (replica_at g y (r ∷ K)))
  grown_vector y r K at up after =
      let before = status_up (replica_at g y K).status up in
      let still = never_all (actor_eq r.actor (Replica y)) (is_restart r.event) (is_down (replica_at g y K).status)
      (up_not_down (replica_at g y K).status before) in
      let same : incarnation g y K ≡ incarnation g y (r ∷ K) = sym (inc_same g y r K still) in
      let h = later_at g J w y K (r ∷ K) at (inr (at_self K)) same before (status_up (replica_at g y (r ∷ K)).status after) in
      record { vector = h.places; own = h.own }

  -- ---- all but what records do and begins merge

  inc_less : (x : ℕ) (K C : List Record) → (logs_of g).inc x K < (logs_of g).inc x C → incarnation g x K < incarnation g x C
  inc_less x K C less = let a = inc_is g x K in let b = inc_is g x C in omega (arith, a, b, less)

  pub view_premises : ((n : ℕ) (S : List Key) → 0 < n → (logs_of g).start n J ≡ Some S → IsMergeOfReports (logs_of g) n S J) → ViewPremises (logs_of g) J
  view_premises merges = record {
    facts = λ y K at up. let f = facts_at y K at in record { log = (own_carried g.f y (replica_at g y K) f).log; synced = f.entries.within };
    leads_synced = λ n K at led.
        let l = leader_of g.f n in
        let s = replica_at g l K in
        ((facts_at l K at).executed.led (status_normal s.status led.status) (eq-eqb (leader_of g.f s.view) l (ap (leader_of g.f) led.view))).synced;
    begins = merges;
    completed = λ x K at up later.
        let some : 0 < incarnation g x K = (let same = inc_is g x K in omega (arith, same, later)) in
        let c = v.completed x K at (status_up (replica_at g x K).status up) some in
        rejoined x K c.0 at c.1;
    rise = λ x S K a b up now less. v.rise x S K a b (status_up (replica_at g x S).status up) (status_up (replica_at g x K).status now) (inc_less x S K less);
    was_normal = λ x n K C a b normal c less.
        v.was_normal x n K C a (record { normal = status_normal (replica_at g x K).status normal.status; view = normal.view })
        (record { at = b; is = completes_by x C c }) (inc_less x K C less);
    leader_is_one = λ n K L a b led now.
        let l = leader_of g.f n in
        inc_is g l K
        ∙ v.one_leader n K L a b (record { normal = status_normal (replica_at g l K).status led.status; view = led.view })
        (record { normal = status_normal (replica_at g l L).status now.status; view = now.view })
        ∙ sym (inc_is g l L);
  }

  pub follows_by : ((n : ℕ) (S : List Key) → 0 < n → (logs_of g).start n J ≡ Some S → IsMergeOfReports (logs_of g) n S J)
      → ((y : ℕ) (r : Record) (K : List Record) → At J (r ∷ K) → actor_eq r.actor (Replica y) ≡ true → Does (states_of g) y r K)
      → FollowsRules (states_of g) J
  unfolding state_after
  follows_by merges does = record {
    first = λ y. refl;
    first_view = λ y. refl;
    first_last = λ y. refl;
    stays = λ y r K at other. ap log_state (stays g (Replica y) r K other);
    does = does;
    vectors = λ y r K at acts up after. grown_vector y r K at up after;
    begins_once = λ n r K at acts now. begun_once n r K at now;
    base = view_premises merges;
  }
