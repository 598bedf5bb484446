-- The notions by tests, as a contract can name them: it quantifies over no family of types.
use Rattle.std.specs.Prelude.{ℕ, Bool, List, IsTrue}
use Rattle.nz_laws_cv.specs.Notions.{Notions}

-- What is read of a run, as in Notions, with each property a test.
pub record Tests (R : Type 0) : Type 0 where
  pub f : ℕ
  pub leader : ℕ → ℕ
  pub inc : ℕ → List R → ℕ
  pub place : ℕ → List R → ℕ → ℕ
  pub view : ℕ → List R → ℕ
  pub last : ℕ → List R → ℕ
  pub is_up : ℕ → List R → Bool
  pub is_normal : ℕ → List R → Bool
  pub completes : ℕ → List R → Bool
  pub uses : ℕ → List R → ℕ → List R → Bool
  pub begins : ℕ → List R → Bool
  pub reports : ℕ → List R → ℕ → List R → Bool

-- The notions whose properties hold where the tests pass.
abbrev pub notions : {R : Type 0} → Tests R → Notions R
notions t = record {
  f = t.f;
  leader = t.leader;
  inc = t.inc;
  place = t.place;
  view = t.view;
  last = t.last;
  IsUp = λ x K. IsTrue (t.is_up x K);
  IsNormal = λ x K. IsTrue (t.is_normal x K);
  Completes = λ x K. IsTrue (t.completes x K);
  Uses = λ m C y T. IsTrue (t.uses m C y T);
  Begins = λ w B. IsTrue (t.begins w B);
  Reports = λ w B y Q. IsTrue (t.reports w B y Q);
}
