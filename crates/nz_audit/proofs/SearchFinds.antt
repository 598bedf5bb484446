-- What a reading has found after a record, and what it says of the journal's history.
use Rattle.std.proofs.Common.{◌≡◌, ℕ, zero, suc, ◌+◌, ◌<◌, ◌≤◌, List, [], ◌∷◌, ◌++◌, length, map, take, drop, reverse}
use Rattle.std.proofs.Common.{Option, None, Some, refl, sym, ap, subst, ◌∙◌, inl, inr, arith, length-take}
use Rattle.std.specs.Prelude.{slice_get, IsPermutation}
use Rattle.std.specs.List.{AllByRecursion}
use Rattle.std.proofs.lemmas.List.Sorted.{IsPermutation-sym}
use Rattle.std.proofs.lemmas.List.{reverse-append, take-append-drop}
use Rattle.std.proofs.lemmas.Option.{get_or_from_slice_get, slice_get_within}
use Rattle.nz_base.specs.declared.actor.Actor.TheVariants.{Replica}
use Rattle.nz_base.specs.declared.key.Id.{Id}
use Rattle.nz_base.specs.declared.key.Entry.{Entry}
use Rattle.nz_log.specs.Places.{place_of}
use Rattle.nz_log.specs.Synced.{Log}
use Rattle.nz_machine.specs.declared.event.Record.{Record}
use Rattle.nz_machine.specs.declared.journal.Journal.{Journal}
use Rattle.nz_machine.specs.journals.Journals.{group_in, run_in}
use Rattle.nz_machine.specs.rules.State.{ReplicaData}
use Rattle.nz_machine.specs.runs.World.{World, Has}
use Rattle.nz_machine.specs.runs.History.{log_at, cut_at, cut_after, history}
use Rattle.nz_machine.proofs.lists.EachItem.{all_imply, all_permuted}
use Rattle.nz_machine.proofs.runs.Runs.{all_has, all_if_has, has_left, has_right, has_split}
use Rattle.nz_machine.proofs.journals.JournalPrefixes.{world_with}
use Rattle.nz_audit.specs.declared.accepted.answers.AcceptedAt.{AcceptedAt}
use Rattle.nz_audit.specs.declared.accepted.answers.Traced.{Traced}
use Rattle.nz_audit.specs.declared.accepted.answers.Counted.{Counted}
use Rattle.nz_audit.specs.declared.prefixes.search.Search.{Search}
use Rattle.nz_audit.specs.declared.prefixes.replays.Replayed.{Replayed}
use Rattle.nz_replay.specs.Runs.{run_up_to}
use Rattle.nz_audit.specs.Cores.{IsReplayed, AreReplayed}
use Rattle.nz_audit.specs.Prefixes.{prefix_for, longest_from, GiveHistory, AreAccepted, IsNoLonger, IsBestIfAny, IsFound}
use Rattle.nz_audit.specs.Readings.{IsNextRecord}
use Rattle.nz_replay.proofs.Replays.{run_then}
use Rattle.nz_audit.proofs.AcceptedPrefixes.{IsAt}

pub accepted_first : (journal : Journal) (answers : List AcceptedAt) → answers ≡ [] → AreAccepted journal [] answers
accepted_first journal answers none =
    subst (AreAccepted journal []) (sym none)
    (record { each = tt; history = record { longest = refl; places = omega arith; within = tt }; one_log = λ up. refl })

-- a journal's run is some later records, and the run up to a record
newer_records : (journal : Journal) (n : ℕ) → run_in journal ≡ reverse (drop n journal.records) ++ run_up_to journal n
newer_records journal n =
    ap reverse (sym (take-append-drop n journal.records)) ∙ reverse-append (take n journal.records) (drop n journal.records)

pub is_next : (journal : Journal) (k : ℕ) (r : Record) → World (group_in journal) (run_in journal)
    → k < length journal.records → slice_get journal.records k ≡ Some r → IsNextRecord journal (k + 1) r (run_up_to journal k)
is_next journal k r w lt at = record {
  run = run_then journal k r at;
  world = world_with (group_in journal) journal.records k r w lt (sym (get_or_from_slice_get journal.records k r r at));
  newer = reverse (drop (k + 1) journal.records);
  whole =
      newer_records journal (k + 1)
      ∙ ap (λ (l : List Record). reverse (drop (k + 1) journal.records) ++ l) (run_then journal k r at);
}

-- the record at a place, and the earlier ones
pub is_at : (journal : Journal) (k : ℕ) (r : Record) → World (group_in journal) (run_in journal) → slice_get journal.records k ≡ Some r → IsAt journal k r
is_at journal k r w at =
    let lt = slice_get_within journal.records k r at in
    let next = is_next journal k r w lt at in
    record {
      there = lt;
      at = at;
      run = w;
      world = next.world;
      newer = next.newer;
      whole = next.whole;
    }

-- ---- permutations

has_itself : {X : Type 0} (xs : List X) → AllByRecursion (Has xs) xs
has_itself [] = tt
has_itself (x ∷ xs) = (inl refl, all_imply (Has xs) (Has (x ∷ xs)) (λ y h. inr h) xs (has_itself xs))

-- ---- the log of the replica that is replayed

cut_is : (log : List Entry) (o : Option ℕ) → take (length (cut_at o log)) log ≡ cut_at o log
cut_is log None = refl
cut_is log (Some place) = cut_so (suc place) log
  where
    cut_so : (n : ℕ) (es : List Entry) → take (length (take n es)) es ≡ take n es
    cut_so zero es = refl
    cut_so (suc n) [] = refl
    cut_so (suc n) (e ∷ es) = ap (λ (l : List Entry). e ∷ l) (cut_so n es)

-- the log has the prefix that is cut from it
pub log_replayed : (journal : Journal) (a : Traced) (at : Replayed) (log : Log) → at.source ≡ a.source
    → IsReplayed journal at → log ≡ at.core.model.state.log
    → cut_after a.accepted.id log.entries ≡ prefix_for journal a
log_replayed journal a at log same is read =
    let g = group_in journal in
    ap (λ (l : Log). cut_after a.accepted.id l.entries) read ∙ ap (λ (t : ReplicaData). cut_after a.accepted.id t.log.entries) is.state
    ∙ (λ i. cut_after a.accepted.id (log_at g (Replica ((same i).replica)) (run_up_to journal ((same i).records))))

pub log_taken : (id : Id) (log P : List Entry) (n : ℕ) → cut_after id log ≡ P → n ≡ length P → take n log ≡ P
log_taken id log P n is count =
    ap (λ k. take k log) (count ∙ ap length (sym is)) ∙ cut_is log (place_of log id) ∙ is

pub within_log : (n : ℕ) (log P : List Entry) → n ≡ length P → take n log ≡ P → n ≤ length log
within_log n log P count is = let a : n ≡ length (take n log) = count ∙ ap length (sym is) in let b = length-take n log in omega (arith, a, b)

pub nothing_accepted : (journal : Journal) (J : List Record) (accepted : List Traced) → GiveHistory journal J accepted → accepted ≡ []
    → history (group_in journal) J ≡ []
nothing_accepted journal J accepted h none = h.longest ∙ ap (λ (xs : List Traced). longest_from [] (map (prefix_for journal) xs)) none

-- ---- the search

-- nothing was counted
pub found_first : (journal : Journal) (s : Search) → AreReplayed journal s.replays → s.best ≡ None → IsFound journal [] s
found_first journal s replays best = record {
  replays = replays;
  best = subst (IsBestIfAny journal []) (sym best) refl;
}

none_without : {X : Type 0} (xs : List X) → ((x : X) → Has xs x → ⊥) → xs ≡ []
none_without [] h = refl
none_without (x ∷ xs) h = absurd (h x (inl refl))

-- the order does not matter
pub found_among : (journal : Journal) (xs ys : List Traced) (s : Search) → ((a : Traced) → Has xs a → Has ys a)
    → ((a : Traced) → Has ys a → Has xs a) → IsFound journal xs s → IsFound journal ys s
found_among journal xs ys s there back h = record { replays = h.replays; best = by_best s.best h.best }
  where
    by_best : (o : Option Counted) → IsBestIfAny journal xs o → IsBestIfAny journal ys o
    by_best None none = none_without ys (λ a k. subst (λ (l : List Traced). Has l a) none (back a k))
    by_best (Some b) best = record {
      counted = best.counted;
      among = there b.answer best.among;
      beats = all_if_has (IsNoLonger journal b) ys (λ a k. all_has (IsNoLonger journal b) xs a best.beats (back a k));
    }

has_permuted : {X : Type 0} (xs ys : List X) (x : X) → IsPermutation xs ys → Has xs x → Has ys x
has_permuted xs ys x same h = all_has (Has ys) xs x (all_permuted (Has ys) ys xs (IsPermutation-sym xs ys same) (has_itself ys)) h

-- what follows may be in any order
pub found_permuted : (journal : Journal) (done xs ys : List Traced) (s : Search) → IsPermutation xs ys → IsFound journal (done ++ ys) s
    → IsFound journal (done ++ xs) s
found_permuted journal done xs ys s same =
    found_among journal (done ++ ys) (done ++ xs) s (moved xs ys (IsPermutation-sym xs ys same)) (moved ys xs same)
  where
    moved : (us vs : List Traced) → IsPermutation vs us → (a : Traced) → Has (done ++ vs) a → Has (done ++ us) a
    moved us vs back a h = elim (has_split done vs a h) [
      | inl earlier ↦ has_left done us a earlier
      | inr own ↦ has_right done us a (has_permuted vs us a back own)
    ]
