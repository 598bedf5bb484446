-- A run that has the ground: replica 1 of three crashes, rejoins, and then begins view 1. The records are numbered from
-- 0 on: 0 crash of replica 1; 1 its restart; 2, 3 replicas 0 and 2 tell it their vectors; 4 the last of these arrives;
-- 5, 6 replicas 0 and 2 answer; 7 the last answer arrives; 8 replica 1 takes the log of view 0, which completes its
-- rejoin; 9 nothing; 10 replica 2 changes to view 1; 11 replica 1 begins it.
use Rattle.std.specs.Prelude.{ℕ, zero, suc, ◌-◌, Bool, true, false, ◌&&◌, ◌||◌, ◌==◌, nat_le, nat_lt, List, [], ◌∷◌, length}
use Rattle.nz_laws_cv.specs.Tests.{Tests}

-- The first records, this many of them, the newest first.
abbrev pub first_records : ℕ → List ℕ
first_records zero = []
first_records (suc n) = n ∷ first_records n

-- The run of all twelve.
abbrev pub run : List ℕ
run = first_records 12

-- Whether a replica is up after this many records: replica 1 is down or rejoins from its crash to its completion.
abbrev pub is_up_after : ℕ → ℕ → Bool
is_up_after zero n = true
is_up_after (suc zero) n = (n == 0) || nat_le 9 n
is_up_after (suc (suc x)) n = true

-- Whether it is Normal: replica 2 is no longer once it has changed to view 1.
abbrev pub is_normal_after : ℕ → ℕ → Bool
is_normal_after zero n = true
is_normal_after (suc zero) n = (n == 0) || nat_le 9 n
is_normal_after (suc (suc zero)) n = nat_lt n 11
is_normal_after (suc (suc (suc x))) n = true

-- A number that is 0 before this many records, and 1 from then on.
abbrev pub one_from : ℕ → ℕ → ℕ
one_from start n = (suc n - start) - (n - start)

-- A replica's incarnation: that of replica 1 rises with its restart.
abbrev pub inc_after : ℕ → ℕ → ℕ
inc_after zero n = 0
inc_after (suc zero) n = one_from 2 n
inc_after (suc (suc x)) n = 0

-- Its view: replica 2 changes to view 1, and then replica 1 begins it.
abbrev pub view_after : ℕ → ℕ → ℕ
view_after zero n = 0
view_after (suc zero) n = one_from 12 n
view_after (suc (suc zero)) n = one_from 11 n
view_after (suc (suc (suc x))) n = 0

-- The last view in which it was Normal.
abbrev pub last_after : ℕ → ℕ → ℕ
last_after zero n = 0
last_after (suc zero) n = one_from 12 n
last_after (suc (suc x)) n = 0

-- From how many records on it knows the counter of replica 1, which claims it after 5.
abbrev pub knows_from : ℕ → ℕ
knows_from zero = 6
knows_from (suc zero) = 5
knows_from (suc (suc zero)) = 7
knows_from (suc (suc (suc x))) = 100

-- A place of its crash vector: the counter of replica 1 is 1 from then on, and the others stay 0.
abbrev pub place_after : ℕ → ℕ → ℕ → ℕ
place_after x zero n = 0
place_after x (suc zero) n = one_from (knows_from x) n
place_after x (suc (suc k)) n = 0

-- Whether these are the first records, this many of them.
abbrev pub are_first : ℕ → List ℕ → Bool
are_first zero [] = true
are_first zero (r ∷ K) = false
are_first (suc n) [] = false
are_first (suc n) (r ∷ K) = (n == r) && are_first n K

-- Replica 1 completes by record 8.
abbrev pub completes_at : ℕ → List ℕ → Bool
completes_at m C = (m == 1) && are_first 9 C

-- It used the answers that replicas 0 and 2 sent by records 5 and 6.
abbrev pub answers_at : ℕ → List ℕ → ℕ → List ℕ → Bool
answers_at m C y T = completes_at m C && (((y == 0) && are_first 6 T) || ((y == 2) && are_first 7 T))

-- View 1 begins by record 11.
abbrev pub begins_at : ℕ → List ℕ → Bool
begins_at w B = (w == 1) && are_first 12 B

-- Its members are replica 1, by the begin, and replica 2, which reported by record 10.
abbrev pub reports_at : ℕ → List ℕ → ℕ → List ℕ → Bool
reports_at w B y Q = begins_at w B && (((y == 1) && are_first 12 Q) || ((y == 2) && are_first 11 Q))

-- What is read of this run.
abbrev pub tests : Tests ℕ
tests = record {
  f = 1;
  leader = λ v. v;
  inc = λ x K. inc_after x (length K);
  place = λ x K k. place_after x k (length K);
  view = λ x K. view_after x (length K);
  last = λ x K. last_after x (length K);
  is_up = λ x K. is_up_after x (length K);
  is_normal = λ x K. is_normal_after x (length K);
  completes = completes_at;
  uses = answers_at;
  begins = begins_at;
  reports = reports_at;
}
