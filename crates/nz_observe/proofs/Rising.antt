-- In a scheduled run ticks rise, so the first record of a later tick is after all records up to the end of a tick.
use Rattle.std.proofs.Common.{◌≡◌, ℕ, zero, suc, ◌+◌, ◌≤◌, ◌<◌, List, [], ◌∷◌, ◌++◌, length, take, drop, reverse, Some, refl, sym, ap, subst, ◌∙◌}
use Rattle.std.proofs.Common.{nat_le, arith, inl, inr}
use Rattle.std.specs.Prelude.{slice_get}
use Rattle.std.specs.List.{AllByRecursion}
use Rattle.std.proofs.lemmas.Bool.{cases_Bool, leb-true}
use Rattle.std.proofs.lemmas.List.{reverse-append, take-append-drop, take_all}
use Rattle.std.proofs.lemmas.Option.{slice_get_within}
use Rattle.nz_base.specs.Moments.{At}
use Rattle.nz_base.specs.declared.scenario.Scenario.{Scenario}
use Rattle.nz_base.proofs.Moments.{at_self}
use Rattle.nz_machine.specs.declared.event.Record.{Record}
use Rattle.nz_machine.specs.declared.journal.Journal.{Journal}
use Rattle.nz_machine.specs.journals.Journals.{run_in}
use Rattle.nz_machine.specs.runs.Schedule.{Scheduled, ScheduledTo}
use Rattle.nz_machine.proofs.lists.EachItem.{all_append, all_imply}
use Rattle.nz_replay.specs.Runs.{run_up_to}
use Rattle.nz_replay.proofs.Replays.{run_then}
use Rattle.nz_observe.specs.Following.{AreUpTo, IsEndOf}
use Rattle.nz_observe.specs.Ticks.{run_to}
use Rattle.nz_observe.proofs.Ticks.{not_le, run_has, run_leaves}

-- ---- rising ticks

-- no record is of an earlier tick than those before it
abbrev Rises : List Record → Type 0
Rises [] = Unit {0}
Rises (r ∷ J) = AreUpTo r.tick J × Rises J

pub up_to_later : (t u : ℕ) (J : List Record) → t ≤ u → AreUpTo t J → AreUpTo u J
up_to_later t u J le past = all_imply (λ (r : Record). r.tick ≤ t) (λ (r : Record). r.tick ≤ u) (λ r own. omega (arith, own, le)) J past

pub up_to_same : (t : ℕ) (J : List Record) → AllByRecursion (λ (r : Record). r.tick ≡ t) J → AreUpTo t J
up_to_same t J here = all_imply (λ (r : Record). r.tick ≡ t) (λ (r : Record). r.tick ≤ t) (λ r own. omega (arith, own)) J here

rises_with : (t : ℕ) (now older : List Record) → AllByRecursion (λ (r : Record). r.tick ≡ t) now → AreUpTo t older → Rises older → Rises (now ++ older)
rises_with t [] older here past rises = rises
rises_with t (r ∷ now) older here past rises = (
  subst (λ (u : ℕ). AreUpTo u (now ++ older)) (sym here.0) (all_append (λ (q : Record). q.tick ≤ t) now older (up_to_same t now here.1) past),
  rises_with t now older here.1 past rises,
)

-- a run of the ticks up to this one
record IsRisingTo (t : ℕ) (J : List Record) : Type 0 where
  past : AreUpTo t J
  rises : Rises J

rises_to : (s : Scenario) (t : ℕ) (J : List Record) → ScheduledTo s t J → IsRisingTo t J
rises_to s zero J none = subst (IsRisingTo zero) (sym none) (record { past = tt; rises = tt })
rises_to s (suc t) J (now, (older, (own, before))) =
    let h : IsRisingTo t older = rises_to s t older before in
    let past : AreUpTo (suc t) older = up_to_later t (suc t) older (omega arith) h.past in
    subst (IsRisingTo (suc t)) (sym own.whole) (record {
      past = all_append (λ (q : Record). q.tick ≤ suc t) now older (up_to_same (suc t) now own.here) past;
      rises = rises_with (suc t) now older own.here past h.rises;
    })

-- ---- moments of a journal

pub at_append : (newer K : List Record) → At (newer ++ K) K
at_append [] K = at_self K
at_append (r ∷ newer) K = inr (at_append newer K)

pub at_count : (j : Journal) (k : ℕ) → At (run_in j) (run_up_to j k)
at_count j k =
    let R = j.records in
    subst (λ (J : List Record). At J (run_up_to j k)) (sym (ap reverse (sym (take-append-drop k R)) ∙ reverse-append (take k R) (drop k R)))
    (at_append (reverse (drop k R)) (reverse (take k R)))

newest_of_all : (P : Record → Type 0) (J : List Record) (r : Record) (K : List Record) → AllByRecursion P J → At J (r ∷ K) → P r
newest_of_all P [] r K all at = absurd (cc)
newest_of_all P (x ∷ J) r K all (inl same) = let own : x ≡ r = cc in subst P own all.0
newest_of_all P (x ∷ J) r K all (inr older) = newest_of_all P J r K all.1 older

-- ---- the run up to a tick

pub run_all : (t : ℕ) (K : List Record) → AreUpTo t K → run_to t K ≡ K
unfolding run_to
run_all t [] past = refl
run_all t (r ∷ K) past = run_has t r K past.0

-- records of later ticks change nothing of it
pub run_earlier : (t : ℕ) (H J : List Record) → AllByRecursion (λ r. t < r.tick) H → run_to t (H ++ J) ≡ run_to t J
run_earlier t [] J later = refl
run_earlier t (r ∷ H) J later = run_leaves t r (H ++ J) later.0 ∙ run_earlier t H J later.1

-- of no tick there are no records
run_zero : (s : Scenario) (t : ℕ) (J : List Record) → ScheduledTo s t J → run_to 0 J ≡ []
unfolding run_to
run_zero s zero J none = ap (run_to 0) none
run_zero s (suc t) J (now, (older, (own, before))) =
    ap (run_to 0) own.whole
    ∙ run_earlier 0 now older (all_imply (λ (r : Record). r.tick ≡ suc t) (λ (r : Record). 0 < r.tick) (λ r here. omega (arith, here)) now own.here)
    ∙ run_zero s t older before

-- the records of the next tick come before those up to a tick
pub record IsNextTick (t : ℕ) (older newer : List Record) : Type 0 where
  pub now : List Record
  pub whole : newer ≡ now ++ older
  pub here : AllByRecursion (λ r. r.tick ≡ t + 1) now

run_next : (t : ℕ) (J : List Record) → Rises J → IsNextTick t (run_to t J) (run_to (t + 1) J)
unfolding run_to
run_next t [] rises = record { now = []; whole = refl; here = tt }
run_next t (r ∷ J) rises = elim (cases_Bool (nat_le r.tick t)) [
  | inl old ↦
      let le = leb-true r.tick t old in
      record {
        now = [];
        whole = run_has (t + 1) r J (omega (arith, le)) ∙ sym (run_has t r J le);
        here = tt;
      }
  | inr new ↦
      let lt = not_le r.tick t new in
      elim (cases_Bool (nat_le r.tick (t + 1))) [
        | inl now ↦
            let le = leb-true r.tick (t + 1) now in
            let own : r.tick ≡ t + 1 = omega (arith, lt, le) in
            let before : IsNextTick t (run_to t J) (run_to (t + 1) J) = run_next t J rises.1 in
            let all : run_to (t + 1) J ≡ J = run_all (t + 1) J (subst (λ (u : ℕ). AreUpTo u J) own rises.0) in
            record {
              now = r ∷ before.now;
              whole =
                  run_has (t + 1) r J le ∙ ap (λ (K : List Record). r ∷ K) (sym all ∙ before.whole)
                  ∙ ap (λ (K : List Record). r ∷ (before.now ++ K)) (sym (run_leaves t r J lt));
              here = (own, before.here);
            }
        | inr later ↦
            let after = not_le r.tick (t + 1) later in
            let before : IsNextTick t (run_to t J) (run_to (t + 1) J) = run_next t J rises.1 in
            record {
              now = before.now;
              whole = run_leaves (t + 1) r J after ∙ before.whole ∙ ap (λ (K : List Record). before.now ++ K) (sym (run_leaves t r J lt));
              here = before.here;
            }
      ]
]

-- ---- the end of a tick

run_before : (t : ℕ) (r : Record) (K J : List Record) → Rises J → At J (r ∷ K) → t < r.tick → run_to t J ≡ run_to t K
run_before t r K [] rises at later = absurd (cc)
run_before t r K (x ∷ J) rises (inl same) later =
    let own : r ≡ x = cc in
    let rest : J ≡ K = cc in
    run_leaves t x J (subst (λ (q : Record). t < q.tick) own later) ∙ ap (run_to t) rest
run_before t r K (x ∷ J) rises (inr older) later =
    let le : r.tick ≤ x.tick = newest_of_all (λ (q : Record). q.tick ≤ x.tick) J r K rises.0 older in
    run_leaves t x J (omega (arith, le, later)) ∙ run_before t r K J rises.1 older later

-- before a record of a later tick
pub ends_before : (j : Journal) (t k : ℕ) (r : Record) → Scheduled j.scenario (run_in j) → slice_get j.records k ≡ Some r → t < r.tick
    → AreUpTo t (run_up_to j k) → IsEndOf j t k
ends_before j t k r order at later past =
    let h : IsRisingTo j.scenario.ticks (run_in j) = rises_to j.scenario j.scenario.ticks (run_in j) order in
    let there : At (run_in j) (r ∷ run_up_to j k) = subst (At (run_in j)) (run_then j k r at) (at_count j (k + 1)) in
    let lt : k < length j.records = slice_get_within j.records k r at in
    record {
      within = omega (arith, lt);
      past = past;
      run = sym (run_before t r (run_up_to j k) (run_in j) h.rises there later ∙ run_all t (run_up_to j k) past);
    }

-- and after the last record
pub ends_last : (j : Journal) (t k : ℕ) → k ≡ length j.records → AreUpTo t (run_up_to j k) → IsEndOf j t k
ends_last j t k all past =
    let whole : run_up_to j k ≡ run_in j = ap reverse (take_all k j.records (omega (arith, all))) in
    record {
      within = omega (arith, all);
      past = past;
      run = sym (ap (run_to t) (sym whole) ∙ run_all t (run_up_to j k) past);
    }

-- before the first tick
pub ends_first : (j : Journal) → Scheduled j.scenario (run_in j) → IsEndOf j 0 0
ends_first j order = record { within = omega arith; past = tt; run = sym (run_zero j.scenario j.scenario.ticks (run_in j) order) }

-- from the end of a tick to that of the next
pub next_tick : (j : Journal) (t from to : ℕ) → Scheduled j.scenario (run_in j) → IsEndOf j t from → IsEndOf j (t + 1) to
    → IsNextTick t (run_up_to j from) (run_up_to j to)
next_tick j t from to order old new =
    let h : IsRisingTo j.scenario.ticks (run_in j) = rises_to j.scenario j.scenario.ticks (run_in j) order in
    subst (λ (K : List Record). IsNextTick t K (run_up_to j to)) (sym old.run)
    (subst (IsNextTick t (run_to t (run_in j))) (sym new.run) (run_next t (run_in j) h.rises))

-- after the last tick
pub whole_run : (j : Journal) (count : ℕ) → Scheduled j.scenario (run_in j) → IsEndOf j j.scenario.ticks count → run_up_to j count ≡ run_in j
whole_run j count order end = end.run ∙ run_all j.scenario.ticks (run_in j) (rises_to j.scenario j.scenario.ticks (run_in j) order).past
