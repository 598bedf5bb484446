-- What a parcel leaves of the counts of fault lines, and what they leave of its deliveries.
use Rattle.std.proofs.Common.{◌≡◌, ℕ, ◌+◌, ◌<◌, ◌≤◌, Bool, true, false, cond, List, [], ◌∷◌, ◌++◌, length, map, refl, sym, ap, ◌∙◌, arith}
use Rattle.std.proofs.Common.{length-append, append-nil, take_all, add-one}
use Rattle.std.specs.Prelude.{filter, take, drop, get_or, replicate, zero, suc, slice_set}
use Rattle.std.proofs.Math.Bool.{or-false}
use Rattle.std.proofs.lemmas.List.{drop_all, take_more}
use Rattle.std.proofs.lemmas.List.Elements.{filter-append}
use Rattle.nz_base.specs.declared.scenario.Fault.{Fault}
use Rattle.nz_base.specs.declared.scenario.Fault.TheVariants as faults
use Rattle.nz_machine.specs.declared.event.Parcel.{Parcel}
use Rattle.nz_machine.specs.runs.Schedule.{Delivery as DeliveryModel, is_nth, deliveries_later}
use Rattle.nz_machine.specs.runs.Schedule.{with_copy, cut_short, after_fault, after_faults}
use Rattle.nz_story.specs.declared.deliveries.Delivery.{Delivery}
use Rattle.nz_story.specs.Passes.{delivery_of, deliveries_in, put_off, names, count_of, counts_of, strikes, after_strike}

-- ---- deliveries

-- what was put off
pub held_is : (by : ℕ) (ds : List Delivery) → deliveries_in (map (put_off by) ds) ≡ deliveries_later by (deliveries_in ds)
held_is by [] = refl
held_is by (d ∷ ds) = ap (λ (xs : List DeliveryModel). delivery_of (put_off by d) ∷ xs) (held_is by ds)

-- when all places of a list are done
pub over_all : {X : Type 0} (f : X → X) (xs ys : List X) (i : ℕ) → ys ≡ map f (take i xs) ++ drop i xs → length xs ≤ i → ys ≡ map f xs
over_all f xs ys i e le = e ∙ ap (λ zs. map f zs ++ drop i xs) (take_all i xs le) ∙ ap (λ zs. map f xs ++ zs) (drop_all i xs le) ∙ append-nil (map f xs)

-- ---- one line

-- no line has named a parcel yet
pub none_named : (lines : List Fault) → replicate (length lines) 0 ≡ counts_of lines []
none_named [] = refl
none_named (line ∷ lines) = ap (λ (ns : List ℕ). 0 ∷ ns) (none_named lines)

one_if : (b : Bool) (p : Parcel) (n : ℕ) → n + length (cond b (p ∷ []) []) ≡ cond b (n + 1) n
one_if true p n = refl
one_if false p n = omega arith

-- one more parcel
pub one_more : (line : Fault) (earlier : List Parcel) (p : Parcel) (count then : ℕ) → count ≡ count_of earlier line
    → then ≡ cond (names line p) (count + 1) count → then ≡ count_of (earlier ++ p ∷ []) line
one_more line earlier p count then is step =
    step ∙ sym (one_if (names line p) p count)
    ∙ ap (λ (n : ℕ). n + length (filter (names line) (p ∷ []))) is
    ∙ sym (length-append (filter (names line) earlier) (filter (names line) (p ∷ [])))
    ∙ ap length (sym (filter-append (names line) earlier (p ∷ [])))

-- a line leaves the deliveries of a parcel that it does not strike
pub struck_is : (tick : ℕ) (earlier : List Parcel) (p : Parcel) (line : Fault) (ds : List DeliveryModel) (b : Bool)
    → strikes tick p line (count_of earlier line) ≡ b → after_fault tick earlier p line ds ≡ cond b (after_strike p line ds) ds
struck_is tick earlier p (faults.Drop from to kind count) ds b e = ap (λ (b : Bool). cond b [] ds) (sym (or-false (is_nth from to kind count earlier p)) ∙ e)
struck_is tick earlier p (faults.Hold from to kind count by) ds b e =
    ap (λ (b : Bool). cond b (deliveries_later by ds) ds) (sym (or-false (is_nth from to kind count earlier p)) ∙ e)
struck_is tick earlier p (faults.Twice from to kind count by) ds b e =
    ap (λ (b : Bool). cond b (with_copy by ds) ds) (sym (or-false (is_nth from to kind count earlier p)) ∙ e)
struck_is tick earlier p (faults.Cut from to kind count keep) ds b e =
    ap (λ (b : Bool). cond b (cut_short keep (length p.frame) ds) ds) (sym (or-false (is_nth from to kind count earlier p)) ∙ e)
struck_is tick earlier p (faults.Block from to first last) ds b e = ap (λ (b : Bool). cond b [] ds) e
struck_is tick earlier p (faults.Crash a t) ds b e = ap (λ (b : Bool). cond b ds ds) e
struck_is tick earlier p (faults.Restart a t) ds b e = ap (λ (b : Bool). cond b ds ds) e
struck_is tick earlier p (faults.Alarm a t) ds b e = ap (λ (b : Bool). cond b ds ds) e

-- ---- all lines

pub faulted_by_both : (tick : ℕ) (earlier : List Parcel) (p : Parcel) (first then : List Fault) (ds : List DeliveryModel)
    → after_faults tick earlier p (first ++ then) ds ≡ after_faults tick earlier p then (after_faults tick earlier p first ds)
faulted_by_both tick earlier p [] then ds = refl
faulted_by_both tick earlier p (x ∷ first) then ds = faulted_by_both tick earlier p first then (after_fault tick earlier p x ds)

-- the counts of the first lines are renewed, and that of the next line is old
next_count : {X : Type 0} (f g : X → ℕ) (xs : List X) (i : ℕ) (x : X) (d : ℕ) → i < length xs → x ≡ get_or xs i x
    → get_or (map f (take i xs) ++ map g (drop i xs)) i d ≡ g x
next_count f g [] i x d lt at = absurd (omega arith)
next_count f g (y ∷ ys) zero x d lt at = ap g (sym at)
next_count f g (y ∷ ys) (suc i) x d lt at = next_count f g ys i x d (omega arith) at

renewed : {X : Type 0} (f g : X → ℕ) (xs : List X) (i : ℕ) (x : X) → i < length xs → x ≡ get_or xs i x
    → slice_set (map f (take i xs) ++ map g (drop i xs)) i (f x) ≡ map f (take (suc i) xs) ++ map g (drop (suc i) xs)
renewed f g [] i x lt at = absurd (omega arith)
renewed f g (y ∷ ys) zero x lt at = ap (λ (n : ℕ). n ∷ map g ys) (ap f at)
renewed f g (y ∷ ys) (suc i) x lt at = ap (λ (ns : List ℕ). f y ∷ ns) (renewed f g ys i x (omega arith) at)

-- one line more
pub one_line_more : (tick : ℕ) (earlier : List Parcel) (p : Parcel) (lines : List Fault) (i : ℕ) (line : Fault) (xs : List ℕ) (n : ℕ)
    (first ds next : List DeliveryModel) → i < length lines → line ≡ get_or lines i line
    → xs ≡ counts_of (take i lines) (earlier ++ p ∷ []) ++ counts_of (drop i lines) earlier
    → ds ≡ after_faults tick earlier p (take i lines) first
    → (get_or xs i 0 ≡ count_of earlier line → n ≡ count_of (earlier ++ p ∷ []) line)
    → (get_or xs i 0 ≡ count_of earlier line → next ≡ after_fault tick earlier p line ds)
    → (slice_set xs i n ≡ counts_of (take (i + 1) lines) (earlier ++ p ∷ []) ++ counts_of (drop (i + 1) lines) earlier)
    × (next ≡ after_faults tick earlier p (take (i + 1) lines) first)
one_line_more tick earlier p lines i line xs n first ds next lt at counts passed counted struck =
    let new = count_of (earlier ++ p ∷ []) in
    let old = count_of earlier in
    let now : get_or xs i 0 ≡ old line = ap (λ (ns : List ℕ). get_or ns i 0) counts ∙ next_count new old lines i line 0 lt at in
    let more : take (i + 1) lines ≡ take i lines ++ line ∷ [] = take_more lines i line lt ∙ ap (λ (x : Fault). take i lines ++ x ∷ []) (sym at) in (
      ap (λ (ns : List ℕ). slice_set ns i n) counts
          ∙ ap (λ (m : ℕ). slice_set (map new (take i lines) ++ map old (drop i lines)) i m) (counted now)
          ∙ renewed new old lines i line lt at
          ∙ ap (λ (k : ℕ). counts_of (take k lines) (earlier ++ p ∷ []) ++ counts_of (drop k lines) earlier) (sym (add-one i)),
      struck now ∙ ap (after_fault tick earlier p line) passed
          ∙ sym (faulted_by_both tick earlier p (take i lines) (line ∷ []) first)
          ∙ ap (λ (xs : List Fault). after_faults tick earlier p xs first) (sym more),
    )

-- all lines
pub all_counted : (lines : List Fault) (i : ℕ) (xs : List ℕ) (before after : List Parcel)
    → xs ≡ counts_of (take i lines) after ++ counts_of (drop i lines) before → length lines ≤ i → xs ≡ counts_of lines after
all_counted lines i xs before after e le =
    e ∙ ap (λ (zs : List Fault). counts_of zs after ++ counts_of (drop i lines) before) (take_all i lines le)
    ∙ ap (λ (zs : List Fault). counts_of lines after ++ counts_of zs before) (drop_all i lines le) ∙ append-nil (counts_of lines after)
