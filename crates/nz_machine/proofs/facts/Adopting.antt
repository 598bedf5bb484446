-- A log that is put in the place of the own one leaves log, early and late apart.
use Rattle.std.proofs.Common.{◌≡◌, ◌≤◌, Bool, true, false, not, List, ◌++◌, length, ap, ◌∙◌, inl, inr, arith}
use Rattle.std.specs.List.{AllByRecursion}
use Rattle.std.proofs.lemmas.Bool.{not-true, cases_Bool}
use Rattle.nz_base.specs.declared.key.Id.{Id}
use Rattle.nz_base.specs.declared.key.Entry.{Entry}
use Rattle.nz_base.specs.Key.{id_eq, id_of}
use Rattle.nz_base.specs.Log.{keys_of, has_id, IsLog}
use Rattle.nz_base.proofs.Booleans.{true_and_false}
use Rattle.nz_base.proofs.Names.{same_id}
use Rattle.nz_base.proofs.Logs.{rising_filter}
use Rattle.nz_base.specs.declared.limits.TheConstants.{MAX_ENTRIES}
use Rattle.nz_log.specs.Synced.{Log, left_out}
use Rattle.nz_machine.specs.rules.Facts.{FitsEntry, AreApart}
use Rattle.nz_machine.proofs.lists.EachItem.{all_append, all_of_prefix, all_back, all_filter}
use Rattle.nz_machine.proofs.facts.IdCounts.{times, times_all, times_append, times_filter, times_never, times_none, own_times, times_own}

-- an entry that is left out is of another id than one of the list
other_id : (list : List Entry) (i : Id) (e : Entry) → has_id (keys_of list) i ≡ true → not (has_id (keys_of list) (id_of e.key)) ≡ true
    → id_eq i (id_of e.key) ≡ false
other_id list i e there out =
    elim (cases_Bool (id_eq i (id_of e.key))) [
      | inl same ↦
          true_and_false (has_id (keys_of list) i) there
          (ap (has_id (keys_of list)) (same_id i (id_of e.key) same) ∙ not-true (has_id (keys_of list) (id_of e.key)) out)
      | inr apart ↦ apart
    ]

own_adopted : (l : Log) (es fs list : List Entry) → AreApart l es fs → IsLog list → (i : Id)
    → times i (list ++ (left_out es list ++ left_out (fs ++ l.entries) list)) ≤ 1
own_adopted l es fs list a log i =
    let out : Entry → Bool = λ e. not (has_id (keys_of list) (id_of e.key)) in
    let sum = times_all i list (left_out es list) (left_out (fs ++ l.entries) list) in
    let own = own_times i list log.own_ids in
    let old = own_times i (l.entries ++ (es ++ fs)) a.own_ids in
    let old_sum = times_all i l.entries es fs in
    let rest = times_append i fs l.entries in
    elim (cases_Bool (has_id (keys_of list) i)) [
      | inl there ↦
          let n1 = times_never i out (λ e p. other_id list i e there p) es in
          let n2 = times_never i out (λ e p. other_id list i e there p) (fs ++ l.entries) in
          omega (arith, sum, own, n1, n2)
      | inr none ↦
          let n0 = times_none i list none in
          let n1 = times_filter i out es in
          let n2 = times_filter i out (fs ++ l.entries) in
          omega (arith, sum, n0, n1, n2, old, old_sum, rest)
    ]

pub apart_adopted : (l : Log) (es fs list : List Entry) → AreApart l es fs → IsLog list → length list ≤ MAX_ENTRIES → AllByRecursion FitsEntry list
    → AreApart (record { entries = list; synced = length list }) (left_out es list) (left_out (fs ++ l.entries) list)
apart_adopted l es fs list a log few fit =
    let rest = all_back FitsEntry l.entries (es ++ fs) a.fit in
    record {
      sound = record { ordered = log; within = omega arith; few = few };
      waiting = rising_filter _ es a.waiting;
      own_ids = times_own _ (own_adopted l es fs list a log);
      fit = all_append FitsEntry list _ fit (all_append FitsEntry (left_out es list) _ (all_filter FitsEntry _ es (all_of_prefix FitsEntry es fs rest))
          (all_filter FitsEntry _ (fs ++ l.entries)
          (all_append FitsEntry fs l.entries (all_back FitsEntry es fs rest) (all_of_prefix FitsEntry l.entries (es ++ fs) a.fit))));
    }
