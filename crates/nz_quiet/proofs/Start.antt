-- A quiet run before its first tick.
use Rattle.std.proofs.Common.{◌≡◌, ℕ, [], refl, arith}
use Rattle.std.specs.List.{AllByRecursion}
use Rattle.std.proofs.lemmas.List.{length-replicate}
use Rattle.nz_base.specs.Cluster.{replica_count}
use Rattle.nz_base.specs.declared.limits.TheConstants.{UNITS_PER_TICK}
use Rattle.nz_machine.specs.rules.State.{Group}
use Rattle.nz_machine.specs.runs.World.{state_after}
use Rattle.nz_machine.proofs.lists.EachItem.{all_replicate}
use Rattle.nz_quiet.specs.Invariant.{IsQuietAt}

pub start_quiet : (g : Group) → IsQuietAt g 0 [] [] [] []
unfolding state_after
start_quiet g = record {
  replicas = λ r lt. record {
    normal = refl;
    view = refl;
    vector = refl;
    clock = omega arith;
    log = refl;
    early = refl;
    none_late = refl;
    origins = tt;
    known = tt;
  };
  quiet = λ r lt. omega arith;
  proxies = λ p lt. record {
    up = refl;
    clock = omega arith;
    count = length-replicate (replica_count g.f) [];
    samples = all_replicate (AllByRecursion (λ (delay : ℕ). delay ≡ UNITS_PER_TICK)) (replica_count g.f) [] tt;
  };
  ticks = λ c lt. refl;
  log = tt;
  past = tt;
  early = tt;
  ours = tt;
  attempts = λ c lt. tt;
  flies = tt;
  log_mods = λ some r first lt. absurd (omega (arith, some));
  same_bodies = λ r q first second. refl;
  known = λ c num lt above. refl;
}
