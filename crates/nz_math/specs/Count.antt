-- Sets of numbers below a limit, each by its membership test, and how many members they have.
use Rattle.std.specs.Prelude.{ℕ, zero, suc, ◌+◌, ◌<◌, ◌≤◌, Bool, true, false, not, ◌&&◌, ◌||◌, ◌==◌, List, [], ◌∷◌, ◌++◌, IsTrue, IsFalse, if◌then◌else◌}

-- 1 for true, 0 for false.
abbrev pub one_if : Bool → ℕ
one_if b = if b then 1 else 0

-- How many numbers below n pass the test.
unfoldable pub count_below : ℕ → (ℕ → Bool) → ℕ
count_below zero test = 0
count_below (suc n) test = count_below n test + one_if (test n)

-- The members of both sets.
abbrev pub both : (ℕ → Bool) → (ℕ → Bool) → ℕ → Bool
both p q x = p x && q x

-- Every number, and every number but one.
abbrev pub everyone : ℕ → Bool
everyone x = true

-- Every number but one.
abbrev pub all_but : ℕ → ℕ → Bool
all_but m x = not (m == x)

-- Below n, the members of the first set are members of the second.
abbrev pub IsWithin : ℕ → (ℕ → Bool) → (ℕ → Bool) → Type 0
IsWithin n p among = (x : ℕ) → x < n → IsTrue (p x) → IsTrue (among x)

-- Whether a number is in a list.
abbrev pub is_in : List ℕ → ℕ → Bool
is_in [] x = false
is_in (y ∷ ys) x = (y == x) || is_in ys x

-- No number is in the list twice.
abbrev pub AreDistinct : List ℕ → Type 0
AreDistinct [] = Unit {0}
AreDistinct (x ∷ xs) = IsFalse (is_in xs x) × AreDistinct xs

-- Different numbers below n.
pub record IsChoice (n : ℕ) (members : List ℕ) : Type 0 where
  pub distinct : AreDistinct members
  pub below : (x : ℕ) → IsTrue (is_in members x) → x < n

-- The numbers below n that pass the test, from the least on.
unfoldable pub members_below : ℕ → (ℕ → Bool) → List ℕ
members_below zero test = []
members_below (suc n) test = members_below n test ++ (if test n then n ∷ [] else [])

-- Two sets within a third, which has at most this many members.
pub record AreTwoAmong (size n : ℕ) (p q : ℕ → Bool) : Type 0 where
  pub among : ℕ → Bool
  pub first : IsWithin n p among
  pub second : IsWithin n q among
  pub few : count_below n among ≤ size

-- A number that is in both lists, and not in the third.
pub record IsShared (xs ys left : List ℕ) (x : ℕ) : Type 0 where
  pub in_first : IsTrue (is_in xs x)
  pub in_second : IsTrue (is_in ys x)
  pub apart : IsFalse (is_in left x)
