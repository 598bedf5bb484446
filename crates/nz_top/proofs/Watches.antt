-- A run that is watched, from its beginning to its end.
use Rattle.std.proofs.Common.{◌≡◌, ℕ, ◌+◌, ◌<◌, ◌≤◌, List, [], ◌++◌, Option, Bor, reverse, sym, ap, subst, ◌∙◌}
use Rattle.std.specs.Prelude.{MatchOption}
use Rattle.std.specs.List.{AllByRecursion}
use Rattle.nz_base.specs.Cluster.{replica_count}
use Rattle.nz_base.specs.declared.scenario.Scenario.{Scenario}
use Rattle.nz_machine.specs.declared.event.Record.{Record}
use Rattle.nz_machine.specs.declared.journal.Journal.{Journal}
use Rattle.nz_machine.specs.declared.client_event.EventAt.{EventAt}
use Rattle.nz_machine.specs.journals.Journals.{group_in, run_in}
use Rattle.nz_machine.specs.runs.Schedule.{group_of, InOrder}
use Rattle.nz_machine.specs.rules.State.{Group}
use Rattle.nz_machine.specs.journals.EventNotes.{AreNoted, events_at}
use Rattle.nz_machine.specs.runs.World.{World}
use Rattle.nz_observe.specs.Following.{AreUpTo}
use Rattle.nz_observe.specs.Observing.{IsObserving}
use Rattle.nz_observe.specs.declared.observer.Observer.{Observer}
use Rattle.nz_machine.proofs.runs.Scheduling.{scheduled_in_order}
use Rattle.nz_replica.specs.Models.{ReplicaCore, IsCore, AreCores}
use Rattle.nz_run.specs.Playing.{IsAtEnd, IsNextTick, scenario_of, tick_of, run_of, last_of, earlier_of}
use Rattle.nz_run.specs.declared.playing.Playing.{Playing}
use Rattle.nz_top.specs.declared.reports.Report.{Report}
use Rattle.nz_top.specs.declared.reports.Report.TheVariants.{Text, Trace, Story, Summary, Locks, Peek, Pace}
use Rattle.nz_top.specs.declared.watching.Watched.{Watched}
use Rattle.nz_top.specs.Reports.{printed_by}
use Rattle.nz_top.specs.Watching.{HasObserved, IsWatched, IsPrinted}

-- ---- before the first tick

observed_first : (report : Report) (g : Group) (o : Observer) → ((h : Group) (m : ℕ) (key : List ℕ) → IsObserving h m key 0 [] o) → HasObserved report g 0 [] o
observed_first Text g o first = tt
observed_first Trace g o first = tt
observed_first Story g o first = tt
observed_first Summary g o first = tt
observed_first Locks g o first = tt
observed_first (Peek replica key) g o first = first g replica key
observed_first Pace g o first = tt

pub watched_first : (report : Report) (s : Scenario) (w : Watched) → IsAtEnd w.playing → scenario_of w.playing ≡ s → tick_of w.playing ≡ 0
    → run_of w.playing ≡ [] → AreNoted (group_of s) [] w.notes → ((h : Group) (m : ℕ) (key : List ℕ) → IsObserving h m key 0 [] w.observer)
    → IsWatched report w
watched_first report s w at_end is tick none noted first =
    let p = w.playing in
    let g = group_of (scenario_of p) in
    record {
      at_end = at_end;
      noted =
          subst (λ (J : List Record). AreNoted g J w.notes) (sym none)
          (subst (λ (t : Scenario). AreNoted (group_of t) [] w.notes) (sym is) noted);
      observed =
          subst (λ (t : ℕ). HasObserved report g t (run_of p) w.observer) (sym tick)
          (subst (λ (J : List Record). HasObserved report g 0 J w.observer) (sym none) (observed_first report g w.observer first));
    }

-- ---- one tick more

pub observed_next : (replica : ℕ) (key : List ℕ) (before p : Playing) (old new : Observer) (tick : ℕ) (found : Option (Bor ReplicaCore))
    → IsNextTick before p → tick ≡ tick_of p
    → MatchOption found (replica_count (group_of (scenario_of p)).f ≤ replica)
    (λ r. (replica < replica_count (group_of (scenario_of p)).f) × IsCore (group_of (scenario_of p)) (run_of p) replica r.now)
    → ((g : Group) (J H : List Record) (m last : ℕ) → tick ≡ last + 1 → World g (H ++ J) → AreUpTo last J → AllByRecursion (λ r. r.tick ≡ tick) H
    → MatchOption found (replica_count g.f ≤ m) (λ r. (m < replica_count g.f) × IsCore g (H ++ J) m r.now)
    → IsObserving g m key last J old → IsObserving g m key tick (H ++ J) new)
    → IsObserving (group_of (scenario_of before)) replica key (tick_of before) (run_of before) old
    → IsObserving (group_of (scenario_of p)) replica key (tick_of p) (run_of p) new
observed_next replica key before p old new tick found next now core looks observed =
    let g = group_of (scenario_of p) in
    subst (λ (t : ℕ). IsObserving g replica key t (run_of p) new) now
    (looks g (earlier_of p) (last_of p) replica (tick_of before) (now ∙ next.tick) next.at_end.under_way.world
    (subst (AreUpTo (tick_of before)) (sym next.earlier) next.ticks_before)
    (subst (λ (t : ℕ). AllByRecursion (λ (r : Record). r.tick ≡ t) (last_of p)) (sym now) next.tick_now) core
    (subst (λ (J : List Record). IsObserving g replica key (tick_of before) J old) (sym next.earlier)
    (subst (λ (s : Scenario). IsObserving (group_of s) replica key (tick_of before) (run_of before) old) (sym next.scenario) observed)))

-- ---- after the last tick

pub unkept_is_printed : (report : Report) (s : Scenario) (w : Watched) (t : Scenario) (records : List Record) (E : List EventAt)
    (cores : List ReplicaCore) (bytes : List ℕ) → IsWatched report w → scenario_of w.playing ≡ s → tick_of w.playing ≡ s.ticks
    → t ≡ scenario_of w.playing → reverse records ≡ run_of w.playing → InOrder (scenario_of w.playing) (reverse records)
    → World (group_of (scenario_of w.playing)) (reverse records)
    → ((g : Group) (J : List Record) → AreNoted g J w.notes → E ≡ events_at g J)
    → AreCores (group_of (scenario_of w.playing)) (run_of w.playing) cores
    → ((j : Journal) → j.scenario ≡ s → World (group_in j) (run_in j) → E ≡ events_at (group_in j) (run_in j)
    → AreCores (group_in j) (run_in j) cores → HasObserved report (group_in j) j.scenario.ticks (run_in j) w.observer
    → bytes ≡ printed_by report j)
    → IsPrinted report s (record { scenario = t; records = records }) bytes
unkept_is_printed report s w t records E cores bytes h is last same run order world reads are_cores prints =
    let p = w.playing in
    let j : Journal = record { scenario = t; records = records } in
    let here : (P : Scenario → List Record → Type 0) → P (scenario_of p) (run_of p) → P t (reverse records) =
    λ P x. subst (λ (u : Scenario). P u (reverse records)) (sym same) (subst (P (scenario_of p)) (sym run) x) in
    let is_world = subst (λ (u : Scenario). World (group_of u) (reverse records)) (sym same) world in
    let in_order = subst (λ (u : Scenario). InOrder u (reverse records)) (sym same) order in
    let seen =
    subst (λ (n : ℕ). HasObserved report (group_of (scenario_of p)) n (run_of p) w.observer) (last ∙ ap (λ (u : Scenario). u.ticks) (sym is)) h.observed in
    record {
      scenario = same ∙ is;
      is_run = record { world = is_world; scheduled = scheduled_in_order t t.ticks (reverse records) in_order };
      in_order = in_order;
      text =
          prints j (same ∙ is) is_world (reads (group_in j) (run_in j) (here (λ u J. AreNoted (group_of u) J w.notes) h.noted))
          (here (λ u J. AreCores (group_of u) J cores) are_cores)
          (here (λ u J. HasObserved report (group_of u) u.ticks J w.observer) seen);
    }
