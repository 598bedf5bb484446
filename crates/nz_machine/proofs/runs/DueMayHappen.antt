-- What is due may happen: it is of one who takes part, clocks are in range, and parcels that come were sent.
use Rattle.std.proofs.Common.{◌≡◌, ℕ, ◌+◌, ◌<◌, ◌≤◌, eqb, cond, List, [], ◌∷◌, ◌++◌, length, map, Option, Some, None, refl, ap, ◌∙◌, arith, inl, inr}
use Rattle.std.specs.Prelude.{◌^◌, filter}
use Rattle.std.specs.List.{AllByRecursion}
use Rattle.std.proofs.lemmas.Bool.{eqb-true, cond_both}
use Rattle.std.proofs.lemmas.Bool.Decides.{nat_tests}
use Rattle.std.proofs.lemmas.Option.{none-some}
use Rattle.nz_base.specs.Cluster.{replica_count}
use Rattle.nz_base.specs.declared.actor.Actor.{Actor}
use Rattle.nz_base.specs.declared.actor.Actor.TheVariants as actors
use Rattle.nz_base.specs.declared.scenario.Fault.{Fault}
use Rattle.nz_base.specs.declared.scenario.Fault.TheVariants as faults
use Rattle.nz_base.specs.declared.scenario.Scenario.{Scenario}
use Rattle.nz_base.specs.declared.limits.TheConstants.{MAX_CLOCK}
use Rattle.nz_machine.specs.declared.event.Event.{Event}
use Rattle.nz_machine.specs.declared.event.Event.TheVariants.{Deliver, Cut, Tick, Alarm, Crash, Restart}
use Rattle.nz_machine.specs.declared.event.Parcel.{Parcel}
use Rattle.nz_machine.specs.declared.event.Record.{Record}
use Rattle.nz_machine.specs.declared.journal.Item.{Item}
use Rattle.nz_machine.specs.rules.Replicas.{numbers_below}
use Rattle.nz_machine.specs.runs.World.{sent_in, Has, IsMember}
use Rattle.nz_machine.specs.runs.Schedule.{group_of, item, if_in, calls, actors_of, tick_item, Delivery, delivery_item, deliveries}
use Rattle.nz_machine.specs.runs.Schedule.{Posted, posted_in, posted_by_run, arrivals, due, NamesMember, IsPlayable}
use Rattle.nz_machine.proofs.lists.EachItem.{all_append, all_imply}
use Rattle.nz_machine.proofs.lists.ListParts.{all_map}
use Rattle.nz_machine.proofs.facts.FitReplicas.{numbers_are_below}
use Rattle.nz_machine.proofs.runs.Runs.{has_left, has_right}

-- the tick of the restart line with a nonce, after this many others
abbrev pub restart_tick : ℕ → List Fault → ℕ → Option ℕ
restart_tick before [] nonce = None
restart_tick before (faults.Restart a t ∷ lines) nonce = cond (eqb nonce (before + 1)) (Some t) (restart_tick (before + 1) lines nonce)
restart_tick before (_ ∷ lines) nonce = restart_tick before lines nonce

-- a line asks this of an actor in the tick: restarts have the nonces of their lines
abbrev pub IsCalled : ℕ → ℕ → List Fault → Event → Type 0
IsCalled tick before lines (Deliver p) = ⊥
IsCalled tick before lines (Cut kept p) = ⊥
IsCalled tick before lines (Tick clock) = ⊥
IsCalled tick before lines Alarm = Unit {0}
IsCalled tick before lines Crash = Unit {0}
IsCalled tick before lines (Restart nonce) = (before < nonce) × (restart_tick before lines nonce ≡ Some tick)

-- the event may happen to the actor in the tick, after these records
abbrev pub IsFine : Scenario → ℕ → List Record → Actor → Event → Type 0
IsFine s tick J a (Deliver p) = (p.to ≡ a) × Has (sent_in J) p
IsFine s tick J a (Cut kept p) = (p.to ≡ a) × Has (sent_in J) p
IsFine s tick J a (Tick clock) = IsMember (group_of s) a × (clock ≤ MAX_CLOCK)
IsFine s tick J a Alarm = IsMember (group_of s) a
IsFine s tick J a Crash = IsMember (group_of s) a
IsFine s tick J a (Restart nonce) = IsMember (group_of s) a × (restart_tick 0 s.faults nonce ≡ Some tick)

-- the nonces of restart lines are 1, 2, 3 and so on
restart_most : (before : ℕ) (lines : List Fault) (nonce t : ℕ) → restart_tick before lines nonce ≡ Some t → nonce ≤ before + length lines
restart_most before [] nonce t e = absurd (none-some t e)
restart_most before (faults.Drop from to kind count ∷ lines) nonce t e = let ih = restart_most before lines nonce t e in omega (arith, ih)
restart_most before (faults.Hold from to kind count by ∷ lines) nonce t e = let ih = restart_most before lines nonce t e in omega (arith, ih)
restart_most before (faults.Twice from to kind count by ∷ lines) nonce t e = let ih = restart_most before lines nonce t e in omega (arith, ih)
restart_most before (faults.Cut from to kind count keep ∷ lines) nonce t e = let ih = restart_most before lines nonce t e in omega (arith, ih)
restart_most before (faults.Block from to first last ∷ lines) nonce t e = let ih = restart_most before lines nonce t e in omega (arith, ih)
restart_most before (faults.Crash a at ∷ lines) nonce t e = let ih = restart_most before lines nonce t e in omega (arith, ih)
restart_most before (faults.Alarm a at ∷ lines) nonce t e = let ih = restart_most before lines nonce t e in omega (arith, ih)
restart_most before (faults.Restart a at ∷ lines) nonce t e =
    cond_both (eqb nonce (before + 1)) (Some at) (restart_tick (before + 1) lines nonce)
    (λ (o : Option ℕ). o ≡ Some t → nonce ≤ before + length (faults.Restart a at ∷ lines))
    (λ own _. let same = eqb-true nonce (before + 1) own in omega (arith, same))
    (λ _ later. let ih = restart_most (before + 1) lines nonce t later in omega (arith, ih)) e

pub few_restarts : (s : Scenario) (nonce t : ℕ) → IsPlayable s → restart_tick 0 s.faults nonce ≡ Some t → nonce < 2 ^ 64
few_restarts s nonce t play e = let most = restart_most 0 s.faults nonce t e in let few = play.faults in omega (arith, most, few)

-- ---- calls

all_if : (P : Item → Type 0) (tick t : ℕ) (i : Item) → (t ≡ tick → P i) → AllByRecursion P (if_in tick t i)
all_if P tick t i h = cond_both (eqb t tick) (i ∷ []) [] (AllByRecursion P) (λ e. (h (eqb-true t tick e), tt)) (λ _. tt)

later_tick : (nonce n : ℕ) (t : ℕ) (rest : Option ℕ) → n + 1 < nonce → cond (eqb nonce (n + 1)) (Some t) rest ≡ rest
later_tick nonce n t rest lt =
    cond_both (eqb nonce (n + 1)) (Some t) rest (λ (o : Option ℕ). o ≡ rest)
    (λ e. absurd (let same = eqb-true nonce (n + 1) e in omega (arith, same, lt))) (λ _. refl)

own_tick : (n : ℕ) (t : ℕ) (rest : Option ℕ) → cond (eqb (n + 1) (n + 1)) (Some t) rest ≡ Some t
own_tick n t rest = cond_both (eqb (n + 1) (n + 1)) (Some t) rest (λ (o : Option ℕ). o ≡ Some t) (λ _. refl) (λ e. absurd (grind (arith, nat_tests)))

past_restart : (tick before : ℕ) (a : Actor) (t : ℕ) (lines : List Fault) (e : Event)
    → IsCalled tick (before + 1) lines e → IsCalled tick before (faults.Restart a t ∷ lines) e
past_restart tick before a t lines (Deliver p) h = h
past_restart tick before a t lines (Cut kept p) h = h
past_restart tick before a t lines (Tick clock) h = h
past_restart tick before a t lines Alarm h = tt
past_restart tick before a t lines Crash h = tt
past_restart tick before a t lines (Restart nonce) h = let lt = h.0 in
    (omega (arith, lt), later_tick nonce before t (restart_tick (before + 1) lines nonce) lt ∙ h.1)

pub calls_called : (tick before : ℕ) (lines : List Fault) → AllByRecursion (λ (i : Item). IsCalled tick before lines i.event) (calls tick before lines)
calls_called tick before [] = tt
calls_called tick before (faults.Drop from to kind count ∷ lines) = calls_called tick before lines
calls_called tick before (faults.Hold from to kind count by ∷ lines) = calls_called tick before lines
calls_called tick before (faults.Twice from to kind count by ∷ lines) = calls_called tick before lines
calls_called tick before (faults.Cut from to kind count keep ∷ lines) = calls_called tick before lines
calls_called tick before (faults.Block from to first last ∷ lines) = calls_called tick before lines
calls_called tick before (faults.Crash a t ∷ lines) =
    let P : Item → Type 0 = λ i. IsCalled tick before lines i.event in
    all_append P (if_in tick t (item a Crash)) (calls tick before lines) (all_if P tick t (item a Crash) (λ _. tt)) (calls_called tick before lines)
calls_called tick before (faults.Restart a t ∷ lines) =
    let P : Item → Type 0 = λ i. IsCalled tick before (faults.Restart a t ∷ lines) i.event in
    let own = item a (Restart (before + 1)) in
    all_append P (if_in tick t own) (calls tick (before + 1) lines)
    (all_if P tick t own (λ e. (omega arith, own_tick before t (restart_tick (before + 1) lines (before + 1)) ∙ ap Some e)))
    (all_imply (λ (i : Item). IsCalled tick (before + 1) lines i.event) P
    (λ i h. past_restart tick before a t lines i.event h) (calls tick (before + 1) lines) (calls_called tick (before + 1) lines))
calls_called tick before (faults.Alarm a t ∷ lines) =
    let P : Item → Type 0 = λ i. IsCalled tick before lines i.event in
    all_append P (if_in tick t (item a Alarm)) (calls tick before lines) (all_if P tick t (item a Alarm) (λ _. tt)) (calls_called tick before lines)

calls_members : (s : Scenario) (tick before : ℕ) (lines : List Fault) → AllByRecursion (NamesMember s) lines
    → AllByRecursion (λ (i : Item). IsMember (group_of s) i.actor) (calls tick before lines)
calls_members s tick before [] all = tt
calls_members s tick before (faults.Drop from to kind count ∷ lines) all = calls_members s tick before lines all.1
calls_members s tick before (faults.Hold from to kind count by ∷ lines) all = calls_members s tick before lines all.1
calls_members s tick before (faults.Twice from to kind count by ∷ lines) all = calls_members s tick before lines all.1
calls_members s tick before (faults.Cut from to kind count keep ∷ lines) all = calls_members s tick before lines all.1
calls_members s tick before (faults.Block from to first last ∷ lines) all = calls_members s tick before lines all.1
calls_members s tick before (faults.Crash a t ∷ lines) all =
    let P : Item → Type 0 = λ i. IsMember (group_of s) i.actor in
    all_append P (if_in tick t (item a Crash)) (calls tick before lines) (all_if P tick t (item a Crash) (λ _. all.0)) (calls_members s tick before lines all.1)
calls_members s tick before (faults.Restart a t ∷ lines) all =
    let P : Item → Type 0 = λ i. IsMember (group_of s) i.actor in
    let own = item a (Restart (before + 1)) in
    all_append P (if_in tick t own) (calls tick (before + 1) lines) (all_if P tick t own (λ _. all.0)) (calls_members s tick (before + 1) lines all.1)
calls_members s tick before (faults.Alarm a t ∷ lines) all =
    let P : Item → Type 0 = λ i. IsMember (group_of s) i.actor in
    all_append P (if_in tick t (item a Alarm)) (calls tick before lines) (all_if P tick t (item a Alarm) (λ _. all.0)) (calls_members s tick before lines all.1)

called_fine : (s : Scenario) (tick : ℕ) (J : List Record) (a : Actor) (e : Event) → IsMember (group_of s) a → IsCalled tick 0 s.faults e → IsFine s tick J a e
called_fine s tick J a (Deliver p) member h = absurd h
called_fine s tick J a (Cut kept p) member h = absurd h
called_fine s tick J a (Tick clock) member h = absurd h
called_fine s tick J a Alarm member h = member
called_fine s tick J a Crash member h = member
called_fine s tick J a (Restart nonce) member h = (member, h.1)

pub all_two : {X : Type 0} (P Q R : X → Type 0) → ((x : X) → P x → Q x → R x) → (xs : List X) → AllByRecursion P xs → AllByRecursion Q xs → AllByRecursion R xs
all_two P Q R f [] p q = tt
all_two P Q R f (x ∷ xs) p q = (f x p.0 q.0, all_two P Q R f xs p.1 q.1)

-- ---- clocks

all_members : (s : Scenario) → IsPlayable s → AllByRecursion (IsMember (group_of s)) (actors_of s)
all_members s play =
    let n = replica_count s.cluster in
    let scripts = play.scripts in
    all_append (IsMember (group_of s)) (map actors.Replica (numbers_below n)) _
    (all_map (IsMember (group_of s)) actors.Replica (numbers_below n) (numbers_are_below n n (omega arith)))
    (all_append (IsMember (group_of s)) (map actors.Proxy (numbers_below s.proxies)) _
    (all_map (IsMember (group_of s)) actors.Proxy (numbers_below s.proxies) (numbers_are_below s.proxies s.proxies (omega arith)))
    (all_map (IsMember (group_of s)) actors.Client (numbers_below s.clients) (numbers_are_below s.clients (length s.scripts) (omega (arith, scripts)))))

-- ---- deliveries

abbrev pub ItemIsFine : Scenario → ℕ → List Record → Item → Type 0
ItemIsFine s tick J i = IsFine s tick J i.actor i.event

one_delivery : (s : Scenario) (tick : ℕ) (J : List Record) (p : Parcel) (o : Option ℕ) (at : ℕ) → Has (sent_in J) p
    → ItemIsFine s tick J (delivery_item p (record { tick = at; kept = o }))
one_delivery s tick J p None at h = (refl, h)
one_delivery s tick J p (Some kept) at h = (refl, h)

all_due : (s : Scenario) (tick : ℕ) (J : List Record) (p : Parcel) (ds : List Delivery) → Has (sent_in J) p
    → AllByRecursion (ItemIsFine s tick J) (map (delivery_item p) ds)
all_due s tick J p [] h = tt
all_due s tick J p (d ∷ ds) h = (one_delivery s tick J p d.kept d.tick h, all_due s tick J p ds h)

all_arrive : (s : Scenario) (tick : ℕ) (J : List Record) (earlier : List Parcel) (L : List Posted)
    → AllByRecursion (λ (x : Posted). Has (sent_in J) x.parcel) L → AllByRecursion (ItemIsFine s tick J) (arrivals s tick earlier L)
all_arrive s tick J earlier [] h = tt
all_arrive s tick J earlier (x ∷ L) h =
    let ds = filter (λ (d : Delivery). eqb d.tick tick) (deliveries s x.tick earlier x.parcel) in
    all_append (ItemIsFine s tick J) (map (delivery_item x.parcel) ds) (arrivals s tick (earlier ++ x.parcel ∷ []) L)
    (all_due s tick J x.parcel ds h.0) (all_arrive s tick J (earlier ++ x.parcel ∷ []) L h.1)

all_among : {X : Type 0} (xs : List X) → AllByRecursion (Has xs) xs
all_among [] = tt
all_among (x ∷ xs) = (inl refl, all_imply (Has xs) (Has (x ∷ xs)) (λ y h. inr h) xs (all_among xs))

all_posted : (J : List Record) → AllByRecursion (λ (x : Posted). Has (sent_in J) x.parcel) (posted_by_run J)
all_posted [] = tt
all_posted (r ∷ J) =
    let P : Posted → Type 0 = λ x. Has (r.sends ++ sent_in J) x.parcel in
    all_append P (posted_by_run J) (map (posted_in r.tick) r.sends)
    (all_imply (λ (x : Posted). Has (sent_in J) x.parcel) P (λ x h. has_right r.sends (sent_in J) x.parcel h) (posted_by_run J) (all_posted J))
    (all_map P (posted_in r.tick) r.sends
    (all_imply (Has r.sends) (Has (r.sends ++ sent_in J)) (λ p h. has_left r.sends (sent_in J) p h) r.sends (all_among r.sends)))

-- ---- the whole tick

pub due_is_fine : (s : Scenario) (tick : ℕ) (J : List Record) → IsPlayable s → AllByRecursion (ItemIsFine s tick J) (due s tick J)
due_is_fine s tick J play =
    let P = ItemIsFine s tick J in
    all_append P (calls tick 0 s.faults) _
    (all_two (λ (i : Item). IsMember (group_of s) i.actor) (λ (i : Item). IsCalled tick 0 s.faults i.event) P
    (λ i member h. called_fine s tick J i.actor i.event member h) (calls tick 0 s.faults)
    (calls_members s tick 0 s.faults play.members) (calls_called tick 0 s.faults))
    (all_append P (map (tick_item s tick) (actors_of s)) _
    (all_map P (tick_item s tick) (actors_of s)
    (all_imply (IsMember (group_of s)) (λ (a : Actor). P (tick_item s tick a)) (λ a member. (member, omega arith))
    (actors_of s) (all_members s play)))
    (all_arrive s tick J [] (posted_by_run J) (all_posted J)))
