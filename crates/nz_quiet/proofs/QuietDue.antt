-- What is due in a tick of a quiet scenario.
use Rattle.std.proofs.Common.{◌≡◌, ℕ, zero, suc, ◌+◌, ◌<◌, eqb, Bool, true, false, cond, List, [], ◌∷◌, ◌++◌, map}
use Rattle.std.proofs.Common.{refl, sym, ap, subst, ◌∙◌, arith, append_assoc, inl, inr}
use Rattle.std.specs.List.{AllByRecursion}
use Rattle.std.proofs.lemmas.Bool.{cond_both, cases_Bool, eqb-true}
use Rattle.std.proofs.lemmas.Bool.Decides.{nat_tests}
use Rattle.std.proofs.lemmas.List.{append-nil, map-append}
use Rattle.nz_base.specs.declared.scenario.Fault.{Fault}
use Rattle.nz_base.specs.declared.scenario.Scenario.{Scenario}
use Rattle.nz_machine.specs.declared.event.Parcel.{Parcel}
use Rattle.nz_machine.specs.declared.event.Record.{Record}
use Rattle.nz_machine.specs.declared.journal.Item.{Item}
use Rattle.nz_machine.specs.runs.Schedule.{calls, actors_of, tick_item, whole_in, delivery_item, after_faults, deliveries, due_of, Posted, posted_in}
use Rattle.nz_machine.specs.runs.Schedule.{posted_by_run, arrivals, due}
use Rattle.nz_machine.specs.runs.Schedule.{IsTick, InOrderTo}
use Rattle.nz_machine.proofs.lists.EachItem.{all_append, all_imply}
use Rattle.nz_quiet.specs.Quiet.{IsQuiet}
use Rattle.nz_quiet.specs.Folds.{delivery, sent_by}

-- ---- what comes of the parcels of a tick

abbrev parcels_in : ℕ → List Posted → List Parcel
parcels_in tick [] = []
parcels_in tick (x ∷ xs) = cond (eqb x.tick tick) (x.parcel ∷ []) [] ++ parcels_in tick xs

next_test : (at tick : ℕ) → eqb (at + 1) (suc tick) ≡ eqb at tick
next_test at tick = elim (cases_Bool (eqb at tick)) [
  | inl t ↦ let same = eqb-true at tick t in let yes : eqb (at + 1) (suc tick) ≡ true = grind (arith, nat_tests, same) in yes ∙ sym t
  | inr f ↦ let no : eqb (at + 1) (suc tick) ≡ false = grind (arith, nat_tests, f) in no ∙ sym f
]

-- a parcel comes in the tick after its own
one_comes : (tick at : ℕ) (p : Parcel) → due_of (suc tick) p (whole_in (at + 1) ∷ []) ≡ map delivery (cond (eqb at tick) (p ∷ []) [])
one_comes tick at p =
    ap (λ (b : Bool). map (delivery_item p) (cond b (whole_in (at + 1) ∷ []) [])) (next_test at tick)
    ∙ cond_both (eqb at tick) (p ∷ []) [] (λ (ps : List Parcel). map (delivery_item p) (cond (eqb at tick) (whole_in (at + 1) ∷ []) []) ≡ map delivery ps)
    (λ e. ap (λ (b : Bool). map (delivery_item p) (cond b (whole_in (at + 1) ∷ []) [])) e)
    (λ e. ap (λ (b : Bool). map (delivery_item p) (cond b (whole_in (at + 1) ∷ []) [])) e)

arrive : (s : Scenario) (tick : ℕ) (earlier : List Parcel) (xs : List Posted) → s.faults ≡ []
    → arrivals s (suc tick) earlier xs ≡ map delivery (parcels_in tick xs)
arrive s tick earlier [] none = refl
arrive s tick earlier (x ∷ xs) none =
    let first : due_of (suc tick) x.parcel (deliveries s x.tick earlier x.parcel) ≡ map delivery (cond (eqb x.tick tick) (x.parcel ∷ []) []) =
    ap (λ (lines : List Fault). due_of (suc tick) x.parcel (after_faults x.tick earlier x.parcel lines (whole_in (x.tick + 1) ∷ []))) none
    ∙ one_comes tick x.tick x.parcel in
    let rest = arrive s tick (earlier ++ x.parcel ∷ []) xs none in
    ap (λ (is : List Item). is ++ arrivals s (suc tick) (earlier ++ x.parcel ∷ []) xs) first
    ∙ ap (λ (is : List Item). map delivery (cond (eqb x.tick tick) (x.parcel ∷ []) []) ++ is) rest
    ∙ sym (map-append delivery (cond (eqb x.tick tick) (x.parcel ∷ []) []) (parcels_in tick xs))

-- ---- the parcels of a tick are those of its records

parcels_append : (tick : ℕ) (xs ys : List Posted) → parcels_in tick (xs ++ ys) ≡ parcels_in tick xs ++ parcels_in tick ys
parcels_append tick [] ys = refl
parcels_append tick (x ∷ xs) ys =
    ap (λ (ps : List Parcel). cond (eqb x.tick tick) (x.parcel ∷ []) [] ++ ps) (parcels_append tick xs ys)
    ∙ sym (append_assoc (cond (eqb x.tick tick) (x.parcel ∷ []) []) (parcels_in tick xs) (parcels_in tick ys))

own_parcels : (tick at : ℕ) (ps : List Parcel) → at ≡ tick → parcels_in tick (map (posted_in at) ps) ≡ ps
own_parcels tick at [] same = refl
own_parcels tick at (p ∷ ps) same =
    let test : eqb at tick ≡ true = grind (arith, nat_tests, same) in
    ap (λ (b : Bool). cond b (p ∷ []) [] ++ parcels_in tick (map (posted_in at) ps)) test ∙ ap (λ (qs : List Parcel). p ∷ qs) (own_parcels tick at ps same)

other_parcels : (tick at : ℕ) (ps : List Parcel) → at < tick → parcels_in tick (map (posted_in at) ps) ≡ []
other_parcels tick at [] lt = refl
other_parcels tick at (p ∷ ps) lt =
    let test : eqb at tick ≡ false = grind (arith, nat_tests, lt) in
    ap (λ (b : Bool). cond b (p ∷ []) [] ++ parcels_in tick (map (posted_in at) ps)) test ∙ other_parcels tick at ps lt

none_older : (tick : ℕ) (J : List Record) → AllByRecursion (λ (r : Record). r.tick < tick) J → parcels_in tick (posted_by_run J) ≡ []
none_older tick [] h = refl
none_older tick (r ∷ J) h =
    parcels_append tick (posted_by_run J) (map (posted_in r.tick) r.sends)
    ∙ ap (λ (ps : List Parcel). ps ++ parcels_in tick (map (posted_in r.tick) r.sends)) (none_older tick J h.1)
    ∙ other_parcels tick r.tick r.sends h.0

now_sent : (tick : ℕ) (now older : List Record) → AllByRecursion (λ (r : Record). r.tick ≡ tick) now
    → AllByRecursion (λ (r : Record). r.tick < tick) older → parcels_in tick (posted_by_run (now ++ older)) ≡ sent_by now
now_sent tick [] older here before = none_older tick older before
now_sent tick (r ∷ now) older here before =
    parcels_append tick (posted_by_run (now ++ older)) (map (posted_in r.tick) r.sends)
    ∙ ap (λ (ps : List Parcel). ps ++ parcels_in tick (map (posted_in r.tick) r.sends)) (now_sent tick now older here.1 before)
    ∙ ap (λ (ps : List Parcel). sent_by now ++ ps) (own_parcels tick r.tick r.sends here.0)

-- ---- the ticks of a run

ticks_within : (s : Scenario) (tick : ℕ) (J : List Record) → InOrderTo s tick J → AllByRecursion (λ (r : Record). r.tick < suc tick) J
ticks_within s zero J none = subst (AllByRecursion (λ (r : Record). r.tick < 1)) (sym none) tt
ticks_within s (suc tick) J (now, (older, (t, before))) =
    subst (AllByRecursion (λ (r : Record). r.tick < suc (suc tick))) (sym t.whole)
    (all_append (λ (r : Record). r.tick < suc (suc tick)) now older
    (all_imply (λ (r : Record). r.tick ≡ suc tick) (λ (r : Record). r.tick < suc (suc tick)) (λ r e. omega (arith, e)) now t.here)
    (all_imply (λ (r : Record). r.tick < suc tick) (λ (r : Record). r.tick < suc (suc tick)) (λ r lt. omega (arith, lt)) older
    (ticks_within s tick older before)))

pub due_quiet : (s : Scenario) (t : ℕ) (now older J : List Record) → IsQuiet s → IsTick s (suc t) now older J → InOrderTo s t older
    → due s (suc (suc t)) J ≡ map (tick_item s (suc (suc t))) (actors_of s) ++ map delivery (sent_by now)
due_quiet s t now older J quiet tick before =
    let clocks = map (tick_item s (suc (suc t))) (actors_of s) in
    let come : arrivals s (suc (suc t)) [] (posted_by_run J) ≡ map delivery (sent_by now) =
    arrive s (suc t) [] (posted_by_run J) quiet.faults
    ∙ ap (λ (K : List Record). map delivery (parcels_in (suc t) (posted_by_run K))) tick.whole
    ∙ ap (map delivery) (now_sent (suc t) now older tick.here (ticks_within s t older before)) in
    ap (λ (lines : List Fault). calls (suc (suc t)) 0 lines ++ (clocks ++ arrivals s (suc (suc t)) [] (posted_by_run J))) quiet.faults
    ∙ ap (λ (is : List Item). clocks ++ is) come

pub due_first : (s : Scenario) → IsQuiet s → due s 1 [] ≡ map (tick_item s 1) (actors_of s)
due_first s quiet =
    let clocks = map (tick_item s 1) (actors_of s) in
    ap (λ (lines : List Fault). calls 1 0 lines ++ (clocks ++ [])) quiet.faults ∙ append-nil clocks
