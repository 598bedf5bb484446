-- A run in order is a function of its scenario.
use Rattle.std.proofs.Common.{◌≡◌, ◌∙◌, ℕ, zero, suc, List, [], ◌∷◌, ◌++◌, map, refl, sym, ap, subst}
use Rattle.std.specs.Prelude.{reverse}
use Rattle.std.specs.List.{AllByRecursion}
use Rattle.std.proofs.lemmas.List.{reverse-reverse}
use Rattle.indexmap.proofs.ReorderLemmas.{map-reverse}
use Rattle.nz_base.specs.declared.actor.Actor.{Actor}
use Rattle.nz_base.specs.declared.scenario.Scenario.{Scenario}
use Rattle.nz_machine.specs.declared.event.Event.{Event}
use Rattle.nz_machine.specs.declared.event.Parcel.{Parcel}
use Rattle.nz_machine.specs.declared.event.Record.{Record}
use Rattle.nz_machine.specs.declared.journal.Item.{Item}
use Rattle.nz_machine.specs.runs.Schedule.{item_of, due, InOrder, InOrderTo}
use Rattle.nz_machine.specs.rules.State.{Group}
use Rattle.nz_machine.specs.rules.Step.{node_step}
use Rattle.nz_machine.specs.runs.World.{state_after, Follows, World}

-- what an actor sends on an item after these records
abbrev sends_on : Group → List Record → Item → List Parcel
sends_on g J i = (node_step g i.actor (state_after g i.actor J) i.event).1

-- records of one tick and one item that follow the same records are the same
same_record : (g : Group) (t : ℕ) (J : List Record) (r q : Record) → r.tick ≡ t → q.tick ≡ t → item_of r ≡ item_of q → Follows g J r → Follows g J q → r ≡ q
same_record g t J r q in_tick at_tick same follows after =
    let tick : r.tick ≡ q.tick = in_tick ∙ sym at_tick in
    let actor : r.actor ≡ q.actor = ap (λ (i : Item). i.actor) same in
    let event : r.event ≡ q.event = ap (λ (i : Item). i.event) same in
    let sends : r.sends ≡ q.sends = follows.sends ∙ ap (sends_on g J) same ∙ sym after.sends in
    ap (λ (x : ℕ). record { tick = x; actor = r.actor; event = r.event; sends = r.sends }) tick
    ∙ ap (λ (x : Actor). record { tick = q.tick; actor = x; event = r.event; sends = r.sends }) actor
    ∙ ap (λ (x : Event). record { tick = q.tick; actor = q.actor; event = x; sends = r.sends }) event
    ∙ ap (λ (x : List Parcel). record { tick = q.tick; actor = q.actor; event = q.event; sends = x }) sends

first_is : {X : Type 0} (x y : X) (xs ys : List X) → x ∷ xs ≡ y ∷ ys → x ≡ y
first_is x y xs ys e = cc

rest_is : {X : Type 0} (x y : X) (xs ys : List X) → x ∷ xs ≡ y ∷ ys → xs ≡ ys
rest_is x y xs ys e = cc

-- the records of a tick with the same items, after the same records, are the same
same_records : (g : Group) (t : ℕ) (J rs qs : List Record) → AllByRecursion (λ r. r.tick ≡ t) rs → AllByRecursion (λ r. r.tick ≡ t) qs
    → map item_of rs ≡ map item_of qs → World g (rs ++ J) → World g (qs ++ J) → rs ≡ qs
same_records g t J [] [] here there same w v = refl
same_records g t J [] (q ∷ qs) here there same w v = cc
same_records g t J (r ∷ rs) [] here there same w v = cc
same_records g t J (r ∷ rs) (q ∷ qs) here there same w v =
    let rest = same_records g t J rs qs here.1 there.1 (rest_is (item_of r) (item_of q) (map item_of rs) (map item_of qs) same) w.1 v.1 in
    let after : Follows g (rs ++ J) q = subst (λ (xs : List Record). Follows g (xs ++ J) q) (sym rest) v.0 in
    let first = same_record g t (rs ++ J) r q here.0 there.0 (first_is (item_of r) (item_of q) (map item_of rs) (map item_of qs) same) w.0 after in
    ap (λ (x : Record). x ∷ rs) first ∙ ap (λ (xs : List Record). q ∷ xs) rest

-- reversed lists that are the same are of lists that are the same
items_back : (rs qs : List Record) → map item_of (reverse rs) ≡ map item_of (reverse qs) → map item_of rs ≡ map item_of qs
items_back rs qs same =
    let turned : reverse (map item_of rs) ≡ reverse (map item_of qs) = sym (map-reverse item_of rs) ∙ same ∙ map-reverse item_of qs in
    sym (reverse-reverse (map item_of rs)) ∙ ap reverse turned ∙ reverse-reverse (map item_of qs)

world_after : (g : Group) (now older : List Record) → World g (now ++ older) → World g older
world_after g [] older w = w
world_after g (r ∷ now) older w = world_after g now older w.1

one_run_to : (g : Group) (s : Scenario) (t : ℕ) (J K : List Record) → World g J → World g K → InOrderTo s t J → InOrderTo s t K → J ≡ K
one_run_to g s zero J K w v j k = j ∙ sym k
one_run_to g s (suc t) J K w v (now, (older, (h, before))) (others, (earlier, (k, sooner))) =
    let w = subst (World g) h.whole w in
    let v = subst (World g) k.whole v in
    let same = one_run_to g s t older earlier (world_after g now older w) (world_after g others earlier v) before sooner in
    let v : World g (others ++ older) = subst (λ (xs : List Record). World g (others ++ xs)) (sym same) v in
    let items = items_back now others (h.items ∙ ap (due s (suc t)) same ∙ sym k.items) in
    let here = same_records g (suc t) older now others h.here k.here items w v in
    h.whole ∙ ap (λ (xs : List Record). xs ++ older) here ∙ ap (λ (xs : List Record). others ++ xs) same ∙ sym k.whole

-- two runs in order of one scenario are the same
pub one_run : (g : Group) (s : Scenario) (J K : List Record) → World g J → World g K → InOrder s J → InOrder s K → J ≡ K
one_run g s J K = one_run_to g s s.ticks J K
