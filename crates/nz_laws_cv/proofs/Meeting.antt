-- Two properties, each of many replicas, meet at one.
use Rattle.std.proofs.Common.{ℕ, List, [], arith}
use Rattle.nz_math.specs.Quorum.{group_size}
use Rattle.nz_math.proofs.Sharing.{lists_share}
use Rattle.nz_laws_cv.specs.Notions.{IsHeldByMany}

-- one replica has both, each at a moment
pub record Meets {R : Type 0} (First Second : ℕ → List R → Type 0) : Type 0 where
  pub who : ℕ
  pub early : List R
  pub one : First who early
  pub late : List R
  pub other : Second who late

-- two quorums share a replica
pub meet : {R : Type 0} (f : ℕ) (First Second : ℕ → List R → Type 0) → IsHeldByMany f First → IsHeldByMany f Second → Meets First Second
meet f First Second a b =
    let many = a.enough in
    let more = b.enough in
    let found = lists_share (group_size f) a.members b.members [] a.choice b.choice (omega (arith, many, more)) in
    let one = a.each found.0 found.1.in_first in
    let other = b.each found.0 found.1.in_second in
    record { who = found.0; early = one.0; one = one.1; late = other.0; other = other.1 }
