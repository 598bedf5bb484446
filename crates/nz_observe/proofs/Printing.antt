-- What is printed of a replica, tick by tick.
use Rattle.std.proofs.Common.{◌≡◌, ℕ, zero, suc, ◌+◌, ◌<◌, Bool, false, cond, nat_lt, List, ◌++◌, None, refl, sym, ap, subst, ◌∙◌, add-one, arith}
use Rattle.std.specs.List.{AllByRecursion}
use Rattle.std.specs.Option.{option_map}
use Rattle.nz_base.specs.Cluster.{replica_count}
use Rattle.nz_machine.specs.declared.event.Record.{Record}
use Rattle.nz_machine.specs.runs.Incarnations.{replica_at}
use Rattle.nz_machine.specs.rules.State.{Group}
use Rattle.nz_laws_commit.specs.Stable.{committed_of}
use Rattle.nz_machine.proofs.lists.EachItem.{all_imply}
use Rattle.nz_observe.specs.Observed.{Printed, nothing_printed, sight, seen, after_tick, printed_to}
use Rattle.nz_observe.specs.Ticks.{run_to}
use Rattle.nz_observe.proofs.Rising.{run_earlier}

-- of a replica that the cluster does not have nothing is printed
pub nothing_of_others : (g : Group) (m : ℕ) (key : List ℕ) (J : List Record) (tick : ℕ)
    → nat_lt m (replica_count g.f) ≡ false → printed_to g m key J tick ≡ nothing_printed
nothing_of_others g m key J zero other = refl
nothing_of_others g m key J (suc tick) other =
    ap (λ (b : Bool). after_tick (suc tick) (option_map (sight key) (cond b (committed_of (replica_at g m (run_to (suc tick) J))) None)) (printed_to g m key J tick)) other
    ∙ nothing_of_others g m key J tick other

-- what was printed of earlier ticks stays
pub printed_earlier : (g : Group) (m : ℕ) (key : List ℕ) (H J : List Record) (tick : ℕ)
    → AllByRecursion (λ r. tick < r.tick) H → printed_to g m key (H ++ J) tick ≡ printed_to g m key J tick
printed_earlier g m key H J zero later = refl
printed_earlier g m key H J (suc tick) later =
    let earlier = all_imply (λ (r : Record). suc tick < r.tick) (λ (r : Record). tick < r.tick) (λ r lt. omega (arith, lt)) H later in
    ap (λ (K : List Record). after_tick (suc tick) (option_map (sight key) (cond (nat_lt m (replica_count g.f)) (committed_of (replica_at g m K)) None))
    (printed_to g m key (H ++ J) tick)) (run_earlier (suc tick) H J later)
    ∙ ap (λ (p : Printed). after_tick (suc tick) (seen g m key (suc tick) J) p) (printed_earlier g m key H J tick earlier)

-- one tick more
pub printed_next : (g : Group) (m : ℕ) (key : List ℕ) (J : List Record) (tick : ℕ)
    → after_tick (tick + 1) (seen g m key (tick + 1) J) (printed_to g m key J tick) ≡ printed_to g m key J (tick + 1)
printed_next g m key J tick =
    subst (λ (n : ℕ). after_tick n (seen g m key n J) (printed_to g m key J tick) ≡ printed_to g m key J n) (sym (add-one tick)) refl
