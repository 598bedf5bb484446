-- The number of a parcel among those of its sender, receiver and kind, and what fault lines make of its deliveries.
use Rattle.std.proofs.Common.{◌≡◌, ℕ, ◌+◌, ◌-◌, ◌<◌, ◌≤◌, eqb, min, Bool, true, false, cond, Option, Some, None, List, [], ◌∷◌}
use Rattle.std.proofs.Common.{◌++◌, length, map, refl, sym, ap, ◌∙◌, subst, arith, length-append, append-nil, take_all}
use Rattle.std.proofs.Math.Bool.{and-true, and-false}
use Rattle.std.specs.Prelude.{◌^◌, ◌&&◌, filter, take, drop, get_or}
use Rattle.std.proofs.lemmas.Bool.{cond_both, eqb-true}
use Rattle.std.proofs.lemmas.Bool.Decides.{nat_tests}
use Rattle.std.proofs.lemmas.List.{drop_all, take_more, map-append}
use Rattle.std.proofs.lemmas.List.Elements.{filter-append}
use Rattle.nz_base.proofs.Booleans.{length-filter_le}
use Rattle.nz_base.proofs.Names.{same_actor}
use Rattle.nz_base.specs.Actor.{actor_eq}
use Rattle.nz_base.specs.declared.actor.Actor.{Actor}
use Rattle.nz_base.specs.declared.actor.Actor.TheVariants.{Replica, Proxy, Client}
use Rattle.nz_base.specs.declared.scenario.Fault.{Fault}
use Rattle.nz_base.specs.declared.scenario.Fault.TheVariants as faults
use Rattle.nz_machine.specs.declared.event.Parcel.{Parcel}
use Rattle.nz_machine.specs.runs.Schedule.{Delivery as DeliveryModel, Posted, posted_in, delivery_later, deliveries_later, with_copy}
use Rattle.nz_machine.specs.runs.Schedule.{cut_short, is_parcel_of, is_nth, has_kind, kind_in_frame, after_fault, after_faults}
use Rattle.nz_fabric.specs.declared.schedule.deliveries.Delivery.{Delivery}
use Rattle.nz_fabric.specs.declared.schedule.course.Course.{Course}
use Rattle.nz_fabric.specs.declared.schedule.course.Traffic.{Traffic}
use Rattle.nz_fabric.specs.schedule.Calendars.{course, course_eq, traffic_on, traffic_of, count_in, count_of, next_number}
use Rattle.nz_fabric.specs.schedule.Calendars.{parcels_of, number_in_all, is_watched, counted_kind, IsCounted}
use Rattle.nz_fabric.specs.schedule.Posting.{delivery_as_stored, put_off, HasNumber, HasNumberIfWatched, strikes, after_strike}

-- ---- what was held

put_off_is : (by : ℕ) (d : DeliveryModel) → put_off by (delivery_as_stored d) ≡ delivery_as_stored (delivery_later by d)
put_off_is by d = ap (λ (t : ℕ). let x : Delivery = record { tick = t; kept = d.kept } in x) (omega arith)

pub held_is : (by : ℕ) (ds : List DeliveryModel) → map (put_off by) (map delivery_as_stored ds) ≡ map delivery_as_stored (deliveries_later by ds)
held_is by [] = refl
held_is by (d ∷ ds) = let ih = held_is by ds in let this = put_off_is by d in cc

-- ---- the parcel that a line strikes

same_test : (b : Bool) (n m count : ℕ) → (b ≡ true → n ≡ m) → (eqb n count && b) ≡ (b && eqb m count)
same_test true n m count h = rw (h refl) (and-true (eqb m count))
same_test false n m count h = and-false (eqb n count)

pub struck_by_number : (from to : Actor) (kind count number : ℕ) (earlier : List Parcel) (p : Parcel) → HasNumber earlier p number
    → (eqb number count && is_parcel_of from to kind p) ≡ is_nth from to kind count earlier p
struck_by_number from to kind count number earlier p h =
    same_test (is_parcel_of from to kind p) number (length (filter (is_parcel_of from to kind) earlier) + 1) count (h from to kind)

-- ---- the number of a parcel

pub both_true : (a b : Bool) → (a && b) ≡ true → (a ≡ true) × (b ≡ true)
both_true true b h = (refl, h)
both_true false b h = absurd (false_is_not_true h)
  where
    false_is_not_true : ¬ (false ≡ true)
    false_is_not_true h = cc

kind_is : (kind : ℕ) (k : Option ℕ) → has_kind kind k ≡ true → k ≡ Some kind
kind_is kind None h = cc
kind_is kind (Some k) h = ap Some (eqb-true k kind h)

number_for : (earlier : List Parcel) (p : Parcel) (k : Option ℕ) (courses : List (Course × Traffic)) (kind : ℕ)
    → k ≡ Some kind → count_of courses (course p.from p.to kind) ≡ length (filter (is_parcel_of p.from p.to kind) earlier) → length earlier < 2 ^ 64 - 1
    → next_number (traffic_of courses p k) ≡ length (filter (is_parcel_of p.from p.to kind) earlier) + 1
number_for earlier p k courses kind e count few =
    let now : next_number (traffic_of courses p k) ≡ min (count_of courses (course p.from p.to kind) + 1) (2 ^ 64 - 1) =
    ap (λ (k : Option ℕ). next_number (traffic_of courses p k)) e in
    let le = length-filter_le (is_parcel_of p.from p.to kind) earlier in
    omega (arith, now, count, le, few)

-- of a kind that is watched the next parcel has this number
pub numbered : (lines : List Fault) (earlier : List Parcel) (p : Parcel) (courses : List (Course × Traffic))
    → ((from to : Actor) (kind : ℕ) → is_watched lines kind ≡ true
    → count_of courses (course from to kind) ≡ length (filter (is_parcel_of from to kind) earlier))
    → length earlier < 2 ^ 64 - 1
    → HasNumberIfWatched lines earlier p (next_number (traffic_of courses p (counted_kind lines (kind_in_frame p.frame))))
numbered lines earlier p courses known few = λ from to kind watched yes.
    let k = counted_kind lines (kind_in_frame p.frame) in
    let number = next_number (traffic_of courses p k) in
    let a = both_true (actor_eq p.from from) _ yes in
    let b = both_true (actor_eq p.to to) _ a.1 in
    let is : k ≡ Some kind =
    ap (counted_kind lines) (kind_is kind (kind_in_frame p.frame) b.1)
    ∙ ap (λ (b : Bool). let o : Option ℕ = cond b (Some kind) None in o) watched in
    subst (λ (x : Actor). number ≡ length (filter (is_parcel_of x to kind) earlier) + 1) (same_actor p.from from a.0)
    (subst (λ (x : Actor). number ≡ length (filter (is_parcel_of p.from x kind) earlier) + 1) (same_actor p.to to b.0)
    (number_for earlier p k courses kind is (known p.from p.to kind watched) few))

-- a parcel whose kind is watched has its number
pub number_if : (lines : List Fault) (earlier : List Parcel) (p : Parcel) (n own : ℕ) → Some own ≡ kind_in_frame p.frame
    → is_watched lines own ≡ true → HasNumberIfWatched lines earlier p n → HasNumber earlier p n
number_if lines earlier p n own is watched h = λ from to kind yes.
    let b = both_true (actor_eq p.to to) _ (both_true (actor_eq p.from from) _ yes).1 in
    let same : own ≡ kind = eqb-true own kind (ap (has_kind kind) is ∙ b.1) in
    h from to kind (sym (ap (is_watched lines) same) ∙ watched) yes

-- a parcel is counted by its kind if that is watched
pub kind_counted : (lines : List Fault) (own : ℕ) (p : Parcel) (b : Bool) → Some own ≡ kind_in_frame p.frame → is_watched lines own ≡ b
    → cond b (Some own) None ≡ counted_kind lines (kind_in_frame p.frame)
kind_counted lines own p b is e =
    ap (λ (b : Bool). let o : Option ℕ = cond b (Some own) None in o) (sym e) ∙ ap (counted_kind lines) is

-- a parcel of no kind may have any
pub number_of_none : (earlier : List Parcel) (p : Parcel) (n : ℕ) → None ≡ kind_in_frame p.frame → HasNumber earlier p n
number_of_none earlier p n is = λ from to kind yes.
    let b = both_true (actor_eq p.to to) _ (both_true (actor_eq p.from from) _ yes).1 in
    let none : false ≡ true = ap (has_kind kind) is ∙ b.1 in
    cc

-- ---- one parcel more

one_if : (from to : Actor) (kind : ℕ) (earlier : List Parcel) (p : Parcel) (b : Bool) → is_parcel_of from to kind p ≡ b
    → length (filter (is_parcel_of from to kind) (earlier ++ p ∷ [])) ≡ length (filter (is_parcel_of from to kind) earlier) + cond b 1 0
one_if from to kind earlier p b e =
    let f = is_parcel_of from to kind in
    ap length (filter-append f earlier (p ∷ [])) ∙ length-append (filter f earlier) (filter f (p ∷ []))
    ∙ ap (λ (xs : List Parcel). length (filter f earlier) + length xs) (ap (λ (c : Bool). cond c (p ∷ []) []) e) ∙ lone b p (length (filter f earlier))
  where
    lone : (b : Bool) (p : Parcel) (n : ℕ) → n + length (cond b (p ∷ []) []) ≡ n + cond b 1 0
    lone true p n = refl
    lone false p n = refl

counted_by : (from to : Actor) (kind number now then : ℕ) (earlier : List Parcel) (p : Parcel) (b : Bool)
    → is_parcel_of from to kind p ≡ b
    → (is_parcel_of from to kind p ≡ true → number ≡ length (filter (is_parcel_of from to kind) earlier) + 1)
    → now ≡ length (filter (is_parcel_of from to kind) earlier)
    → then ≡ cond b number now → then ≡ length (filter (is_parcel_of from to kind) (earlier ++ p ∷ []))
counted_by from to kind number now then earlier p true e h count step = step ∙ h e ∙ sym (one_if from to kind earlier p true e)
counted_by from to kind number now then earlier p false e h count step = let one = one_if from to kind earlier p false e in omega (arith, one, step, count)

-- each actor has a number of its own
same_number : (a b : Actor) → eqb (number_in_all a) (number_in_all b) ≡ actor_eq a b
same_number (Replica n) (Replica m) = grind (arith, nat_tests)
same_number (Replica n) (Proxy m) = grind (arith, nat_tests)
same_number (Replica n) (Client m) = grind (arith, nat_tests)
same_number (Proxy n) (Replica m) = grind (arith, nat_tests)
same_number (Proxy n) (Proxy m) = grind (arith, nat_tests)
same_number (Proxy n) (Client m) = grind (arith, nat_tests)
same_number (Client n) (Replica m) = grind (arith, nat_tests)
same_number (Client n) (Proxy m) = grind (arith, nat_tests)
same_number (Client n) (Client m) = grind (arith, nat_tests)

-- a parcel's course is that of its sender, its receiver and its kind alone
pub same_course : (p : Parcel) (from to : Actor) (k kind : ℕ)
    → course_eq (course p.from p.to k) (course from to kind) ≡ (actor_eq p.from from && (actor_eq p.to to && eqb k kind))
same_course p from to k kind =
    ap (λ (b : Bool). b && (eqb (number_in_all p.to) (number_in_all to) && eqb k kind)) (same_number p.from from)
    ∙ ap (λ (b : Bool). actor_eq p.from from && (b && eqb k kind)) (same_number p.to to)

-- two kinds, of which one is watched
differ : (lines : List Fault) (k kind : ℕ) (b : Bool) → is_watched lines k ≡ false → is_watched lines kind ≡ true → eqb k kind ≡ b → false ≡ b
differ lines k kind true e watched same = sym e ∙ ap (is_watched lines) (eqb-true k kind same) ∙ watched
differ lines k kind false e watched same = refl

-- parcels of a kind that is watched are counted by it
same_kind : (lines : List Fault) (o : Option ℕ) (kind : ℕ) → is_watched lines kind ≡ true → has_kind kind (counted_kind lines o) ≡ has_kind kind o
same_kind lines None kind watched = refl
same_kind lines (Some k) kind watched =
    cond_both (is_watched lines k) (Some k) None (λ (o : Option ℕ). has_kind kind o ≡ eqb k kind) (λ e. refl)
    (λ e. differ lines k kind (eqb k kind) e watched refl)

-- the number that a parcel's course has then, and every other course its count
counted_one : (lines : List Fault) (before after : List (Course × Traffic)) (p : Parcel) (k : Option ℕ) (from to : Actor) (kind : ℕ)
    → has_kind kind k ≡ has_kind kind (kind_in_frame p.frame) → IsCounted lines before after p k → count_of after (course from to kind)
    ≡ cond (is_parcel_of from to kind p) (next_number (traffic_of before p k)) (count_of before (course from to kind))
counted_one lines before after p None from to kind own h =
    ap (λ (courses : List (Course × Traffic)). count_of courses (course from to kind)) h
    ∙ ap (λ (b : Bool). cond b (next_number None) (count_of before (course from to kind)))
    (sym (none_of (actor_eq p.from from) (actor_eq p.to to) (has_kind kind (kind_in_frame p.frame)) (sym own)))
  where
    none_of : (a b c : Bool) → c ≡ false → (a && (b && c)) ≡ false
    none_of true true c h = h
    none_of true false c h = refl
    none_of false b c h = refl
counted_one lines before after p (Some k) from to kind own h =
    let number = next_number (traffic_of before p (Some k)) in
    ap count_in (h.courses (course from to kind))
    ∙ count_if (course_eq (course p.from p.to k) (course from to kind)) h.traffic (traffic_on before (course from to kind))
    ∙ ap (λ (n : ℕ). cond (course_eq (course p.from p.to k) (course from to kind)) n (count_of before (course from to kind))) h.count
    ∙ ap (λ (b : Bool). cond b number (count_of before (course from to kind))) (same_course p from to k kind)
    ∙ ap (λ (b : Bool). cond (actor_eq p.from from && (actor_eq p.to to && b)) number (count_of before (course from to kind))) own
  where
    count_if : (b : Bool) (t : Traffic) (o : Option Traffic) → count_in (cond b (Some t) o) ≡ cond b t.count (count_in o)
    count_if true t o = refl
    count_if false t o = refl

-- with one parcel more the counts are those of all parcels
pub counted : (lines : List Fault) (before after : List (Course × Traffic)) (L : List Posted) (tick : ℕ) (p : Parcel)
    → IsCounted lines before after p (counted_kind lines (kind_in_frame p.frame))
    → HasNumberIfWatched lines (parcels_of L) p (next_number (traffic_of before p (counted_kind lines (kind_in_frame p.frame))))
    → ((from to : Actor) (kind : ℕ) → is_watched lines kind ≡ true
    → count_of before (course from to kind) ≡ length (filter (is_parcel_of from to kind) (parcels_of L)))
    → (from to : Actor) (kind : ℕ) → is_watched lines kind ≡ true
    → count_of after (course from to kind) ≡ length (filter (is_parcel_of from to kind) (parcels_of (L ++ posted_in tick p ∷ [])))
counted lines before after L tick p h is known from to kind watched =
    let k = counted_kind lines (kind_in_frame p.frame) in
    counted_by from to kind (next_number (traffic_of before p k)) (count_of before (course from to kind)) (count_of after (course from to kind))
    (parcels_of L) p (is_parcel_of from to kind p) refl (is from to kind watched) (known from to kind watched)
    (counted_one lines before after p k from to kind (same_kind lines (kind_in_frame p.frame) kind watched) h)
    ∙ ap (λ (ps : List Parcel). length (filter (is_parcel_of from to kind) ps)) (sym (map-append (λ (x : Posted). x.parcel) L (posted_in tick p ∷ [])))

-- ---- one fault line more

-- a line leaves the deliveries of a parcel that it does not strike
pub faulted_is : (tick : ℕ) (earlier : List Parcel) (p : Parcel) (line : Fault) (ds : List DeliveryModel) (b : Bool)
    → strikes tick earlier p line ≡ b → after_fault tick earlier p line ds ≡ cond b (after_strike p line ds) ds
faulted_is tick earlier p (faults.Drop from to kind count) ds b e = ap (λ (b : Bool). cond b [] ds) e
faulted_is tick earlier p (faults.Hold from to kind count by) ds b e = ap (λ (b : Bool). cond b (deliveries_later by ds) ds) e
faulted_is tick earlier p (faults.Twice from to kind count by) ds b e = ap (λ (b : Bool). cond b (with_copy by ds) ds) e
faulted_is tick earlier p (faults.Cut from to kind count keep) ds b e = ap (λ (b : Bool). cond b (cut_short keep (length p.frame) ds) ds) e
faulted_is tick earlier p (faults.Block from to first last) ds b e = ap (λ (b : Bool). cond b [] ds) e
faulted_is tick earlier p (faults.Crash a t) ds b e = ap (λ (b : Bool). cond b ds ds) e
faulted_is tick earlier p (faults.Restart a t) ds b e = ap (λ (b : Bool). cond b ds ds) e
faulted_is tick earlier p (faults.Alarm a t) ds b e = ap (λ (b : Bool). cond b ds ds) e

pub faulted_by_both : (tick : ℕ) (earlier : List Parcel) (p : Parcel) (first then : List Fault) (ds : List DeliveryModel)
    → after_faults tick earlier p (first ++ then) ds ≡ after_faults tick earlier p then (after_faults tick earlier p first ds)
faulted_by_both tick earlier p [] then ds = refl
faulted_by_both tick earlier p (x ∷ first) then ds = faulted_by_both tick earlier p first then (after_fault tick earlier p x ds)

pub one_line : (tick : ℕ) (earlier : List Parcel) (p : Parcel) (faults : List Fault) (first : List DeliveryModel)
    (i : ℕ) (line : Fault) (now next : List Delivery)
    → i < length faults → line ≡ get_or faults i line → now ≡ map delivery_as_stored (after_faults tick earlier p (take i faults) first)
    → ((ds : List DeliveryModel) → now ≡ map delivery_as_stored ds → next ≡ map delivery_as_stored (after_fault tick earlier p line ds))
    → next ≡ map delivery_as_stored (after_faults tick earlier p (take (i + 1) faults) first)
one_line tick earlier p faults first i line now next lt at so_far step =
    let more : take (i + 1) faults ≡ take i faults ++ line ∷ [] = take_more faults i line lt ∙ ap (λ (x : Fault). take i faults ++ x ∷ []) (sym at) in
    step (after_faults tick earlier p (take i faults) first) so_far
    ∙ ap (map delivery_as_stored) (sym (faulted_by_both tick earlier p (take i faults) (line ∷ []) first)
    ∙ ap (λ (xs : List Fault). after_faults tick earlier p xs first) (sym more))

-- ---- loops

-- when all places of a list are done
pub over_all : {X : Type 0} (f : X → X) (xs ys : List X) (i : ℕ) → ys ≡ map f (take i xs) ++ drop i xs → length xs ≤ i → ys ≡ map f xs
over_all f xs ys i e le = e ∙ ap (λ zs. map f zs ++ drop i xs) (take_all i xs le) ∙ ap (λ zs. map f xs ++ zs) (drop_all i xs le) ∙ append-nil (map f xs)
