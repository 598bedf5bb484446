-- What clauses see of a source and a sink in memory.
use Rattle.std.specs.Prelude.{ℕ, List}

-- The bytes left, the most that one call gives, the numbers of the calls that fail, and how many
-- calls were made and faults counted.
pub record SourceState : Type 0 where
  pub rest : List ℕ
  pub piece : ℕ
  pub fail : List ℕ
  pub made : ℕ
  pub faulted : ℕ

-- The bytes taken, how many there is room for in all, the most that one write takes, the numbers of
-- the calls that fail, and how many calls were made and faults counted.
pub record SinkState : Type 0 where
  pub bytes : List ℕ
  pub room : ℕ
  pub piece : ℕ
  pub fail : List ℕ
  pub made : ℕ
  pub faulted : ℕ
