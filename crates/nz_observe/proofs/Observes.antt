-- An observer is observing, from tick to tick.
use Rattle.std.proofs.Common.{◌≡◌, ℕ, ◌+◌, ◌<◌, ◌≤◌, List, ◌++◌, Option, sym, ap, subst, ◌∙◌, arith}
use Rattle.std.proofs.lemmas.Bool.{le-ltb}
use Rattle.std.specs.List.{AllByRecursion}
use Rattle.std.specs.Option.{option_map}
use Rattle.nz_base.specs.Cluster.{replica_count}
use Rattle.nz_base.specs.declared.key.Entry.{Entry}
use Rattle.nz_machine.specs.declared.event.Record.{Record}
use Rattle.nz_machine.specs.rules.State.{Group}
use Rattle.nz_machine.specs.runs.World.{World}
use Rattle.nz_machine.proofs.lists.EachItem.{all_append, all_imply}
use Rattle.nz_replica.specs.Models.{ReplicaCore, IsCore}
use Rattle.nz_laws_commit.specs.Stable.{committed_of}
use Rattle.nz_laws_commit.proofs.Stabling as law
use Rattle.nz_observe.specs.declared.observer.Observer.{Observer}
use Rattle.nz_observe.specs.Following.{AreUpTo}
use Rattle.nz_observe.specs.Observed.{Printed, sight, after_tick, printed_to}
use Rattle.nz_observe.specs.Observing.{IsObserving, CanExecute, after_look}
use Rattle.nz_observe.proofs.Follows.{known_then, can_execute, all_known, committed_at}
use Rattle.nz_observe.proofs.Printing.{nothing_of_others, printed_earlier, printed_next}
use Rattle.nz_observe.proofs.Rising.{run_all, up_to_later, up_to_same}

module _ (g : Group) (m before : ℕ) (key : List ℕ) where
  -- the records of the next tick are there
  observes_more : (H J : List Record) (o : Observer) → AllByRecursion (λ r. r.tick ≡ before + 1) H
      → IsObserving g m key before J o → IsObserving g m key before (H ++ J) o
  observes_more H J o here h = record {
    lines =
        h.lines
        ∙ sym (printed_earlier g m key H J before
        (all_imply (λ (r : Record). r.tick ≡ before + 1) (λ (r : Record). before < r.tick) (λ r own. omega (arith, own)) H here));
    known = known_then g m H J o.known h.known;
  }

  -- the replica can be looked at
  can_look : (K : List Record) (core : ReplicaCore) (o : Observer) → World g K → IsCore g K m core → IsObserving g m key before K o
      → CanExecute core.model.state o.known
  can_look K core o w is h = can_execute g K m core o.known (law.stable g K w) is h.known

  -- and was looked at
  observes_one : (K : List Record) (core : ReplicaCore) (o : Observer) → AreUpTo (before + 1) K → m < replica_count g.f → IsCore g K m core
      → IsObserving g m key before K o → IsObserving g m key (before + 1) K (after_look (before + 1) key core.model.state o)
  observes_one K core o past member is h = record {
    lines =
        ap (λ (p : Printed). after_tick (before + 1) (option_map (sight key) (committed_of core.model.state)) p) h.lines
        ∙ ap (λ (es : Option (List Entry)). after_tick (before + 1) (option_map (sight key) es) (printed_to g m key K before))
        (sym (committed_at g m (before + 1) K K core member (run_all (before + 1) K past) is))
        ∙ printed_next g m key K before;
    known = all_known g K m core o.known is h.known;
  }

  -- there is none
  observes_none : (K : List Record) (o : Observer) → replica_count g.f ≤ m → IsObserving g m key before K o → IsObserving g m key (before + 1) K o
  observes_none K o other h =
      let none = le-ltb m (replica_count g.f) other in
      record {
        lines = h.lines ∙ nothing_of_others g m key K before none ∙ sym (nothing_of_others g m key K (before + 1) none);
        known = h.known;
      }

-- the records up to the end of the next tick
up_to_next : (before : ℕ) (H J : List Record) → AreUpTo before J → AllByRecursion (λ r. r.tick ≡ before + 1) H → AreUpTo (before + 1) (H ++ J)
up_to_next before H J past here =
    all_append (λ (r : Record). r.tick ≤ before + 1) H J (up_to_same (before + 1) H here) (up_to_later before (before + 1) J (omega arith) past)

module _ (g : Group) (J H : List Record) (m tick before : ℕ) (key : List ℕ) (o : Observer)
    (next : tick ≡ before + 1) (here : AllByRecursion (λ r. r.tick ≡ tick) H) (h : IsObserving g m key before J o) where
  here_next : AllByRecursion (λ r. r.tick ≡ before + 1) H
  here_next = subst (λ (t : ℕ). AllByRecursion (λ r. r.tick ≡ t) H) next here

  more : IsObserving g m key before (H ++ J) o
  more = observes_more g m before key H J o here_next h

  -- after a look at the replica
  pub after_one : (core : ReplicaCore) (new : Observer) → World g (H ++ J) → AreUpTo before J → m < replica_count g.f → IsCore g (H ++ J) m core
      → (CanExecute core.model.state o.known → new ≡ after_look tick key core.model.state o) → IsObserving g m key tick (H ++ J) new
  after_one core new w past member is look =
      subst (IsObserving g m key tick (H ++ J)) (sym (look (can_look g m before key (H ++ J) core o w is more)))
      (subst (λ (t : ℕ). IsObserving g m key t (H ++ J) (after_look t key core.model.state o)) (sym next)
      (observes_one g m before key (H ++ J) core o (up_to_next before H J past here_next) member is more))

  -- where there is none
  pub after_none : replica_count g.f ≤ m → IsObserving g m key tick (H ++ J) o
  after_none other = subst (λ (t : ℕ). IsObserving g m key t (H ++ J) o) (sym next) (observes_none g m before key (H ++ J) o other more)
