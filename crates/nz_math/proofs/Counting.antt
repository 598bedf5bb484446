-- Counting the members of sets below a limit.
use Rattle.std.proofs.Common.{◌≡◌, ℕ, zero, suc, ◌+◌, ◌<◌, ◌≤◌, Bool, true, false, not, ◌&&◌, ◌||◌, cond, eqb}
use Rattle.std.proofs.Common.{ltb, List, [], ◌∷◌, ◌++◌, length, refl, sym, ap, subst, ◌∙◌, arith, inl, inr}
use Rattle.std.proofs.Math.Bool.{and-true, and-false, or-false, or_assoc, or-not_self}
use Rattle.std.proofs.lemmas.Bool.{cases_lt, cases_eq, eq-eqb, eqb-false, ne_eqb, lt-ltb, le-ltb, ltb-true}
use Rattle.std.proofs.lemmas.Bool.{cases_Bool, and_parts, not-true, or_right, or_parts}
use Rattle.std.proofs.lemmas.List.{append-nil}
use Rattle.nz_math.specs.Count.{one_if, count_below, both, everyone, all_but, IsWithin, is_in, AreDistinct, IsChoice, members_below}

one_at_most : (a : Bool) → one_if a ≤ 1
one_at_most true = omega arith
one_at_most false = omega arith

later : (y : ℕ) (ys : List ℕ) (x : ℕ) → is_in ys x ≡ true → is_in (y ∷ ys) x ≡ true
later y ys x h = or_right (eqb y x) (is_in ys x) h

first : (y : ℕ) (ys : List ℕ) → is_in (y ∷ ys) y ≡ true
first y ys = let same : eqb y y ≡ true = eq-eqb y y refl in rw same refl

one_more : (n x : ℕ) → (n ≡ x → ⊥) → ltb x (suc n) ≡ ltb x n
one_more n x other =
    elim (cases_lt x n) [
      | inl lt ↦ lt-ltb x (suc n) (omega arith) ∙ sym (lt-ltb x n lt)
      | inr le ↦ le-ltb x (suc n) (omega arith) ∙ sym (le-ltb x n le)
    ]

-- one number, in each of the sets or not
one_place : (a b c : Bool) → (a ≡ true → c ≡ true) → (b ≡ true → c ≡ true) → one_if a + one_if b ≤ one_if c + one_if (a && b)
one_place true true c h k = let e = h refl in rw e (omega arith)
one_place true false c h k = let e = h refl in rw e (omega arith)
one_place false true c h k = let e = k refl in rw e (omega arith)
one_place false false c h k = omega arith

narrow : (n : ℕ) (p q : ℕ → Bool) → IsWithin (suc n) p q → IsWithin n p q
narrow n p q h x lt = h x (omega arith)

-- Two sets within a third have at most its members and those that they share.
pub counting : (n : ℕ) (p q among : ℕ → Bool) → IsWithin n p among → IsWithin n q among
    → count_below n p + count_below n q ≤ count_below n among + count_below n (both p q)
unfolding count_below
counting zero p q among hp hq = omega arith
counting (suc n) p q among hp hq =
    let rest = counting n p q among (narrow n p among hp) (narrow n q among hq) in
    let last = one_place (p n) (q n) (among n) (hp n (omega arith)) (hq n (omega arith)) in
    omega (arith, rest, last)

pub count_same : (n : ℕ) (p q : ℕ → Bool) → ((x : ℕ) → x < n → p x ≡ q x) → count_below n p ≡ count_below n q
unfolding count_below
count_same zero p q h = refl
count_same (suc n) p q h =
    let rest = count_same n p q (λ x lt. h x (omega arith)) in
    let last : p n ≡ q n = h n (omega arith) in
    rw (rest, last) refl

pub count_everyone : (n : ℕ) → count_below n everyone ≡ n
unfolding count_below
count_everyone zero = refl
count_everyone (suc n) = let rest = count_everyone n in omega (arith, rest)

-- one more member
pub count_add : (n y : ℕ) (p : ℕ → Bool) → y < n → p y ≡ false → count_below n (λ x. eqb y x || p x) ≡ count_below n p + 1
unfolding count_below
count_add zero y p lt new = absurd (omega arith)
count_add (suc n) y p lt new =
    elim (cases_eq y n) [
      | inl same ↦
          let last : eqb y n ≡ true = eq-eqb y n same in
          let absent : p n ≡ false = subst (λ (m : ℕ). p m ≡ false) same new in
          let rest =
          count_same n (λ x. eqb y x || p x) p
          (λ x below. let differs : eqb y x ≡ false = ne_eqb y x (λ e. absurd (omega arith)) in rw differs refl) in
          rw (last, absent, rest) (omega arith)
      | inr other ↦
          let last : eqb y n ≡ false = ne_eqb y n other in
          let rest = count_add n y p (omega arith) new in
          rw (last, rest) (omega arith)
    ]

pub count_none : (n : ℕ) (p : ℕ → Bool) → ((x : ℕ) → x < n → p x ≡ false) → count_below n p ≡ 0
unfolding count_below
count_none zero p h = refl
count_none (suc n) p h =
    let rest = count_none n p (λ x lt. h x (omega arith)) in
    let last : p n ≡ false = h n (omega arith) in
    rw (rest, last) refl

-- a list of different numbers, and its membership test
pub count_of_list : (n : ℕ) (xs : List ℕ) → AreDistinct xs → ((x : ℕ) → is_in xs x ≡ true → x < n) → count_below n (is_in xs) ≡ length xs
count_of_list n [] d h = count_none n (is_in []) (λ x lt. refl)
count_of_list n (y ∷ ys) d h =
    let rest = count_of_list n ys d.1 (λ x e. h x (later y ys x e)) in
    let more = count_add n y (is_in ys) (h y (first y ys)) d.0 in
    omega (arith, rest, more)

-- ---- members that are found

-- a number is one fewer than the set has
count_drop : (n m : ℕ) (p : ℕ → Bool) → count_below n p ≤ count_below n (λ x. p x && not (eqb m x)) + 1
unfolding count_below
count_drop zero m p = omega arith
count_drop (suc n) m p =
    elim (cases_eq m n) [
      | inl same ↦
          let rest : count_below n p ≡ count_below n (λ x. p x && not (eqb m x)) =
          count_same n p (λ x. p x && not (eqb m x))
          (λ x below. let differs : eqb m x ≡ false = ne_eqb m x (λ e. absurd (omega arith)) in rw differs (sym (and-true (p x)))) in
          let last = one_at_most (p n) in
          omega (arith, rest, last)
      | inr other ↦
          let differs : eqb m n ≡ false = ne_eqb m n other in
          let rest = count_drop n m p in
          let last : one_if (p n && not (eqb m n)) ≡ one_if (p n) = rw differs (ap one_if (and-true (p n))) in
          omega (arith, rest, last)
    ]

-- a set with a member has one
pub some_member : (n : ℕ) (p : ℕ → Bool) → 0 < count_below n p → (x : ℕ) × (x < n) × (p x ≡ true)
unfolding count_below
some_member zero p h = absurd (omega arith)
some_member (suc n) p h =
    elim (cases_Bool (p n)) [
      | inl yes_p ↦ (n, omega arith, yes_p)
      | inr no_p ↦
          let fewer : 0 < count_below n p = (let last : one_if (p n) ≡ 0 = ap one_if no_p in omega (arith, last)) in
          let found = some_member n p fewer in
          (found.0, omega (arith, found.1), found.2)
    ]

-- a set of more members than a list has one that is not in the list
pub member_outside : (n : ℕ) (p : ℕ → Bool) (left : List ℕ) → length left < count_below n p → (x : ℕ) × (x < n) × (p x ≡ true) × (is_in left x ≡ false)
member_outside n p [] h = let found = some_member n p (omega arith) in (found.0, found.1, found.2, refl)
member_outside n p (m ∷ left) h =
    let fewer = count_drop n m p in
    let found = member_outside n (λ x. p x && not (eqb m x)) left (omega (arith, fewer)) in
    let x = found.0 in
    let apart : eqb m x ≡ false = not-true (eqb m x) (and_parts (p x) (not (eqb m x)) found.2).1 in
    (x, found.1, (and_parts (p x) (not (eqb m x)) found.2).0, rw apart found.3)

-- ---- the list of a set's members

-- Whether a number is in a list made of two.
pub is_in-append : (xs ys : List ℕ) (x : ℕ) → is_in (xs ++ ys) x ≡ (is_in xs x || is_in ys x)
is_in-append [] ys x = refl
is_in-append (y ∷ xs) ys x = ap (λ (b : Bool). eqb y x || b) (is_in-append xs ys x) ∙ sym (or_assoc (eqb y x) (is_in xs x) (is_in ys x))

-- whether the last number is the one that is looked for
last_is : (n x : ℕ) (b : Bool) → is_in (cond b (n ∷ []) []) x ≡ (eqb n x && b)
last_is n x true = or-false (eqb n x) ∙ sym (and-true (eqb n x))
last_is n x false = sym (and-false (eqb n x))

pub is_in-members : (n : ℕ) (p : ℕ → Bool) (x : ℕ) → is_in (members_below n p) x ≡ (ltb x n && p x)
unfolding members_below
is_in-members zero p x = let past : ltb x 0 ≡ false = le-ltb x 0 (omega arith) in rw past refl
is_in-members (suc n) p x =
    let split = is_in-append (members_below n p) (cond (p n) (n ∷ []) []) x in
    let prefix = is_in-members n p x in
    let last = last_is n x (p n) in
    elim (cases_eq n x) [
      | inl same ↦
          let here : eqb n x ≡ true = eq-eqb n x same in
          let below : ltb x n ≡ false = le-ltb x n (omega arith) in
          let within : ltb x (suc n) ≡ true = lt-ltb x (suc n) (omega arith) in
          let mark : p n ≡ p x = ap p same in
          rw (split, prefix, last, here, below, within, mark) refl
      | inr other ↦
          let apart : eqb n x ≡ false = ne_eqb n x other in
          let limit : ltb x (suc n) ≡ ltb x n = one_more n x other in
          rw (split, prefix, last, apart, limit) (or-false (ltb x n && p x))
    ]

-- A list of distinct numbers with one more that is not in it.
pub distinct-append : (xs : List ℕ) (n : ℕ) → AreDistinct xs → is_in xs n ≡ false → AreDistinct (xs ++ n ∷ [])
distinct-append [] n d h = (refl, tt)
distinct-append (y ∷ xs) n d h =
    let parts = or_parts (eqb y n) (is_in xs n) h in
    let own : is_in (xs ++ n ∷ []) y ≡ false =
    rw (is_in-append xs (n ∷ []) y, d.0) (let apart : eqb n y ≡ false = ne_eqb n y (λ e. eqb-false y n parts.0 (sym e)) in rw apart refl) in
    (own, distinct-append xs n d.1 parts.1)

distinct-last : (xs : List ℕ) (n : ℕ) (b : Bool) → AreDistinct xs → is_in xs n ≡ false → AreDistinct (xs ++ cond b (n ∷ []) [])
distinct-last xs n true d h = distinct-append xs n d h
distinct-last xs n false d h = subst AreDistinct (sym (append-nil xs)) d

pub distinct-members : (n : ℕ) (p : ℕ → Bool) → AreDistinct (members_below n p)
unfolding members_below
distinct-members zero p = tt
distinct-members (suc n) p =
    let new : is_in (members_below n p) n ≡ false = is_in-members n p n ∙ (let past : ltb n n ≡ false = le-ltb n n (omega arith) in rw past refl) in
    distinct-last (members_below n p) n (p n) (distinct-members n p) new

pub members_choice : (n : ℕ) (p : ℕ → Bool) → IsChoice n (members_below n p)
members_choice n p = record {
  distinct = distinct-members n p;
  below = λ x h. ltb-true x n (and_parts (ltb x n) (p x) (sym (is_in-members n p x) ∙ h)).0;
}

pub count-le : (n : ℕ) (p : ℕ → Bool) → count_below n p ≤ n
unfolding count_below
count-le zero p = omega arith
count-le (suc n) p = let rest = count-le n p in let last = one_at_most (p n) in omega (arith, rest, last)

pub count_yes : (n : ℕ) (p : ℕ → Bool) → p n ≡ true → count_below (n + 1) p ≡ count_below n p + 1
unfolding count_below
count_yes n p h = let e : n + 1 ≡ suc n = omega arith in rw (e, h) refl

pub count_no : (n : ℕ) (p : ℕ → Bool) → p n ≡ false → count_below (n + 1) p ≡ count_below n p
unfolding count_below
count_no n p h = let e : n + 1 ≡ suc n = omega arith in rw (e, h) (omega arith)

pub count_choice : (n : ℕ) (xs : List ℕ) → IsChoice n xs → count_below n (is_in xs) ≡ length xs
count_choice n xs h = count_of_list n xs h.distinct h.below

-- ---- all but one

pub within_all_but : (n m : ℕ) (p : ℕ → Bool) → p m ≡ false → IsWithin n p (all_but m)
within_all_but n m p apart x lt h =
    let differs : eqb m x ≡ false = ne_eqb m x (λ e. absurd (let clash : true ≡ false = sym h ∙ ap p (sym e) ∙ apart in cc)) in
    rw differs refl

pub count_all_but : (n m : ℕ) → m < n → count_below n (all_but m) + 1 ≡ n
count_all_but n m lt =
    let one = count_add n m (all_but m) lt (let same : eqb m m ≡ true = eq-eqb m m refl in rw same refl) in
    let whole = count_same n (λ x. eqb m x || all_but m x) everyone (λ x below. or-not_self (eqb m x)) in
    omega (arith, one, whole, count_everyone n)
