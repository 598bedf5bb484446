-- What is left to read of a body.
use Rattle.std.specs.Prelude.{◌≡◌, ℕ, ◌-◌, ◌≤◌, List, length, drop}

-- The bytes are the last ones of the body.
pub record IsEndOf (bytes body : List ℕ) : Type 0 where
  pub short : length bytes ≤ length body
  pub last : bytes ≡ drop (length body - length bytes) body
