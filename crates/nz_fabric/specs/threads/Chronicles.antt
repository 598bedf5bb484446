-- The rule of a run's chronicles.
use Rattle.std.specs.Prelude.{◌≡◌, ℕ, ◌==◌, true, List, [], ◌∷◌, ◌++◌, length, MatchBool}
use Rattle.logbook.specs.Pages.{Cell, Step, View, Book, Named}

-- The books of a run: that of its records, and that of its takes.
pub record Chronicles : Type 0 where
  pub records : Book
  pub takes : Book

-- Those of no run.
abbrev pub no_chronicles : Chronicles
no_chronicles = let none : Book = record { number = 0; log_name = 0; cells_name = 0 } in record { records = none; takes = none }

-- The first word is the length of the chronicle. The book has a second word, which nobody uses.
pub record IsKept {E : Type 0} (cells : List Cell) (log : List E) : Type 0 where
  pub words : cells ≡ (length log, true) ∷ (0, true) ∷ []

-- The first word of the book.
abbrev pub head_of : Book → Named
head_of b = record { tracked = true; key = 0; book = b }

-- Where the number found is the one that was expected, what had been seen was this long, and the entry was added to it.
abbrev pub Adds : {E : Type 0} → Step E → View E ℕ → ℕ → View E ℕ → Type 0
Adds s v found w = MatchBool (found == s.old) ((w.0 ≡ v.0 ++ s.ask ∷ []) × (length v.0 ≡ s.old)) (Unit {0})
