-- What the loops of the function of this folder keep.
use Rattle.std.proofs.Common.{◌≡◌, ◌++◌, get_or}
use Rattle.std.specs.List.{flat_map, range_with_len}
use Rattle.nz_quiet.specs.Pace.{ticks_line}
use Rattle.nz_quiet.proofs.pace_lines.put_counts.Given as goal

-- the lines of the numbers so far were written
abbrev pub invariant-loop-ticks : goal.invariant-loop-ticks
invariant-loop-ticks l = l.out.items ≡ l.fn.out.items ++ flat_map (λ n. ticks_line n (get_or l.counts n 0)) (range_with_len 0 l.ticks)
