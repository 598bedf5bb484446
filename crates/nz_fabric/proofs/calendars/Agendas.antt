-- Lists that are the same from a place on.
use Rattle.std.proofs.Common.{◌≡◌, ℕ, ◌+◌, ◌<◌, ◌≤◌, Bool, true, false, not, cond, nat_lt, Some, None, List, [], ◌∷◌, ◌++◌, map, drop, get_or, length}
use Rattle.std.proofs.Common.{refl, sym, ap, subst, inl, inr, ◌∙◌, arith, length-drop}
use Rattle.std.specs.Prelude.{take, slice_get, slice_set, unwrap_or}
use Rattle.std.specs.List.{position, position_or_len, prefix_len}
use Rattle.std.proofs.lemmas.Bool.{cases_lt, lt-ltb}
use Rattle.std.proofs.lemmas.List.Sums.{take_while-cons, prefix_len-le-length}
use Rattle.std.proofs.lemmas.Grind.{drop_more_same}
use Rattle.std.proofs.lemmas.List.{drop-set-lt, get_or-drop, map-append}
use Rattle.std.proofs.lemmas.Option.{get_or_from_slice_get, slice_get_read}
use Rattle.nz_machine.proofs.lists.ListParts.{take_next}
use Rattle.nz_base.specs.Actor.{actor_eq}
use Rattle.nz_base.specs.declared.actor.Actor.{Actor}
use Rattle.nz_base.proofs.Names.{same_actor}
use Rattle.nz_machine.specs.runs.Schedule.{item}
use Rattle.nz_fabric.specs.threads.Shared.{run_of}
use Rattle.nz_machine.specs.declared.event.Event.{Event}
use Rattle.nz_machine.specs.declared.journal.Item.{Item}

-- what is read there is the same
pub left_read : {A : Type 0} (xs ys : List A) (n : ℕ) (x : A) → drop n xs ≡ drop n ys → n < length ys → x ≡ get_or xs n x → slice_get ys n ≡ Some x
left_read xs ys n x same lt at =
    let here : n + 0 ≡ n = omega arith in
    slice_get_read ys (length ys) n x refl lt
    (at ∙ ap (λ k. get_or xs k x) (sym here) ∙ sym (get_or-drop n xs 0 x) ∙ ap (λ zs. get_or zs 0 x) same ∙ get_or-drop n ys 0 x
    ∙ ap (λ k. get_or ys k x) here)

-- after the place they are the same where another item was put into it
pub left_taken : {A : Type 0} (xs ys : List A) (n : ℕ) (y : A) → drop n xs ≡ drop n ys → drop (n + 1) (slice_set xs n y) ≡ drop (n + 1) ys
left_taken xs ys n y same = drop-set-lt (n + 1) xs n y (omega arith) ∙ drop_more_same xs ys n same

-- one event more was moved out
pub moved_next : (events : List Event) (e : Event) (xs ys : List Item) (from k : ℕ) (i : Item)
    → events ≡ map (λ (i : Item). i.event) (take k (drop from ys)) → drop (from + k) xs ≡ drop (from + k) ys → from + k < length ys
    → i ≡ get_or xs (from + k) i → e ≡ i.event → events ++ e ∷ [] ≡ map (λ (i : Item). i.event) (take (k + 1) (drop from ys))
moved_next events e xs ys from k i before same lt at own =
    let left = drop from ys in
    let there = sym (get_or_from_slice_get ys (from + k) i i (left_read xs ys (from + k) i same lt at)) ∙ sym (get_or-drop from ys k i) in
    let next = slice_get_read left (length left) k i refl (omega (arith, lt, length-drop from ys)) there in
    ap (λ (es : List Event). es ++ e ∷ []) before
    ∙ ap (λ (e : Event). map (λ (i : Item). i.event) (take k left) ++ e ∷ []) own
    ∙ sym (map-append (λ (i : Item). i.event) (take k left) (i ∷ []))
    ∙ ap (map (λ (i : Item). i.event)) (sym (take_next left k i next))

-- ---- the next run of an actor

twice : (yes : Bool) → not (not yes) ≡ yes
twice true = refl
twice false = refl

same_len : (a : Actor) (is : List Item) → position_or_len (λ (i : Item). not (actor_eq i.actor a)) is ≡ prefix_len (λ (i : Item). actor_eq i.actor a) is
same_len a [] = refl
same_len a (x ∷ is) =
    ap (λ (yes : Bool). cond yes (1 + position_or_len (λ (i : Item). not (actor_eq i.actor a)) is) 0) (twice (actor_eq x.actor a))
    ∙ ap (λ (n : ℕ). cond (actor_eq x.actor a) (1 + n) 0) (same_len a is)

found_or_all : (found : Bool) (n all : ℕ) → n ≡ all → unwrap_or (cond found (Some n) None) all ≡ n
found_or_all true n all same = refl
found_or_all false n all same = sym same

found_or_len : (n all : ℕ) → n ≤ all → unwrap_or (cond (nat_lt n all) (Some n) None) all ≡ n
found_or_len n all le =
    elim (cases_lt n all) [
      | inl lt ↦ ap (λ (yes : Bool). unwrap_or (cond yes (Some n) None) all) (lt-ltb n all lt)
      | inr ge ↦ (let same : n ≡ all = omega (arith, le, ge) in found_or_all (nat_lt n all) n all same)
    ]

-- how many items stand before the first that is not of an actor
pub run_len : (a : Actor) (is : List Item)
    → unwrap_or (position (λ (i : Item). not (actor_eq i.actor a)) is) (length is) ≡ prefix_len (λ (i : Item). actor_eq i.actor a) is
run_len a is =
    found_or_len (position_or_len (λ (i : Item). not (actor_eq i.actor a)) is) (length is) (prefix_len-le-length _ is) ∙ same_len a is

own_more : (a : Actor) (x : Item) (rest : List Item) (yes : Bool) → actor_eq x.actor a ≡ yes
    → map (item a) (map (λ (i : Item). i.event) rest) ≡ rest
    → map (item a) (map (λ (i : Item). i.event) (cond yes (x ∷ rest) [])) ≡ cond yes (x ∷ rest) []
own_more a x rest true own h =
    ap (λ (is : List Item). item a x.event ∷ is) h ∙ ap (λ (b : Actor). item b x.event ∷ rest) (sym (same_actor x.actor a own))
own_more a x rest false own h = refl

-- they are its events
pub own_events : (a : Actor) (is : List Item) → map (item a) (map (λ (i : Item). i.event) (run_of a is)) ≡ run_of a is
own_events a [] = refl
own_events a (x ∷ is) =
    subst (λ (own : List Item). map (item a) (map (λ (i : Item). i.event) own) ≡ own) (sym (take_while-cons (λ (i : Item). actor_eq i.actor a) x is))
    (own_more a x (run_of a is) (actor_eq x.actor a) refl (own_events a is))
