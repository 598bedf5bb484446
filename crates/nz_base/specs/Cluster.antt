-- The sizes of a cluster, by the number f of replicas that may be out of order.
use Rattle.std.specs.Prelude.{ℕ, ◌+◌, ◌*◌, ◌/◌, ◌%◌}

-- How many replicas there are: 2f + 1.
abbrev pub replica_count : ℕ → ℕ
replica_count f = 2 * f + 1

-- Half of f, rounded up.
abbrev pub half_up : ℕ → ℕ
half_up f = (f + 1) / 2

-- A fast quorum: f, half of f rounded up, and one.
abbrev pub fast_size : ℕ → ℕ
fast_size f = f + half_up f + 1

-- A slow quorum: f and one.
abbrev pub slow_size : ℕ → ℕ
slow_size f = f + 1

-- The replica that leads in a view: they take turns.
abbrev pub leader_of : ℕ → ℕ → ℕ
leader_of f view = view % replica_count f
