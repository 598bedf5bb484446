-- A run whose replicas are all up in view 0 in the end, and the longest prefix in its one log.
use Rattle.std.proofs.Common.{◌≡◌, ℕ, ◌<◌, ◌≤◌, eqb, eqb-true, Bool, true, List, [], ◌∷◌, ◌++◌, length, take, get_or, max, reverse}
use Rattle.std.proofs.Common.{refl, sym, ap, subst, ◌∙◌, inl, inr, arith, ltb-true, ltb-false}
use Rattle.std.specs.Prelude.{nat_lt}
use Rattle.std.specs.List.{list_all}
use Rattle.std.proofs.lemmas.Bool.{and_parts, cases_Bool, cond_both}
use Rattle.std.proofs.lemmas.List.{map-append, reverse-reverse}
use Rattle.std.proofs.lemmas.List.Folds.{list_all_at}
use Rattle.nz_base.specs.Cluster.{replica_count}
use Rattle.nz_base.specs.declared.actor.Actor.TheVariants.{Replica}
use Rattle.nz_base.specs.declared.key.Entry.{Entry}
use Rattle.nz_base.proofs.Booleans.{true_and_false}
use Rattle.nz_machine.specs.declared.event.Record.{Record}
use Rattle.nz_machine.specs.declared.journal.Journal.{Journal}
use Rattle.nz_machine.specs.journals.Journals.{group_in, run_in}
use Rattle.nz_machine.specs.rules.State.{Group}
use Rattle.nz_machine.specs.rules.Replicas.{is_up}
use Rattle.nz_machine.specs.runs.World.{state_after}
use Rattle.nz_machine.specs.runs.History.{cut_after, longer}
use Rattle.nz_laws_commit.specs.Present.{IsUpWithin, AreUpWithin}
use Rattle.nz_replica.specs.Models.{ReplicaCore, IsCore, AreCores}
use Rattle.nz_audit.specs.declared.accepted.answers.AcceptedAt.{AcceptedAt}
use Rattle.nz_audit.specs.Leading.{is_up_in_first_view, IsOnlyLog}
use Rattle.nz_audit.specs.Prefixes.{longest_from, prefixes_in, IsHistoryIn, AreAccepted}
use Rattle.nz_audit.proofs.SearchFinds.{log_taken}
use Rattle.nz_audit.proofs.LongestPrefixes.{longest_append}

-- ---- the replicas

passes_at : {X : Type 0} (test : X → Bool) (xs : List X) (k : ℕ) (d : X) → list_all test xs ≡ true → k < length xs → test (get_or xs k d) ≡ true
passes_at test xs k d all lt = elim (cases_Bool (test (get_or xs k d))) [
  | inl passes ↦ passes
  | inr fails ↦ true_and_false (list_all test xs) all (list_all_at test xs k d lt fails)
]

up_at : (g : Group) (J : List Record) (k : ℕ) (core : ReplicaCore) → IsCore g J k core → is_up_in_first_view core.model.state ≡ true
    → IsUpWithin 0 (state_after g (Replica k) J)
up_at g J k core h up =
    let s = core.model.state in
    let both = and_parts (is_up s.status) (eqb s.view 0) up in
    let view = eqb-true s.view 0 both.1 in
    subst (IsUpWithin 0) h.state (record { up = both.0; view = omega (arith, view) })

pub all_up : (g : Group) (J : List Record) (cores : List ReplicaCore) → AreCores g J cores → replica_count g.f ≤ length cores
    → list_all (λ (core : ReplicaCore). is_up_in_first_view core.model.state) cores ≡ true → AreUpWithin 0 g J
all_up g J [] all enough up m lt = absurd (omega (arith, enough, lt))
all_up g J (core ∷ cores) all enough up m lt =
    let there : m < length (core ∷ cores) = omega (arith, enough, lt) in
    up_at g J m (get_or (core ∷ cores) m core) (all m core there)
    (passes_at (λ (c : ReplicaCore). is_up_in_first_view c.model.state) (core ∷ cores) m core up there)

-- ---- the longest prefix

longer_length : (old new : List Entry) → length (longer old new) ≡ max (length old) (length new)
longer_length old new =
    cond_both (nat_lt (length old) (length new)) new old (λ (x : List Entry). length x ≡ max (length old) (length new))
    (λ t. let lt = ltb-true (length old) (length new) t in omega (arith, lt)) (λ f. let le = ltb-false (length old) (length new) f in omega (arith, le))

-- with one answer more
pub longest_then : (log : List Entry) (answers : List AcceptedAt) (next : AcceptedAt)
    → length (longest_from [] (prefixes_in log (answers ++ next ∷ [])))
    ≡ max (length (longest_from [] (prefixes_in log answers))) (length (cut_after next.id log))
longest_then log answers next =
    let prefixes = prefixes_in log answers in
    let P = cut_after next.id log in
    ap (λ (Ps : List (List Entry)). length (longest_from [] Ps)) (map-append (λ (a : AcceptedAt). cut_after a.id log) answers (next ∷ []))
    ∙ ap length (longest_append [] prefixes P) ∙ longer_length (longest_from [] prefixes) P

-- it is a beginning of the log
longer_taken : (log old new : List Entry) → take (length old) log ≡ old → take (length new) log ≡ new → take (length (longer old new)) log ≡ longer old new
longer_taken log old new a b =
    cond_both (nat_lt (length old) (length new)) new old (λ (x : List Entry). take (length x) log ≡ x) (λ _. b) (λ _. a)

longest_taken : (log best : List Entry) (answers : List AcceptedAt) → take (length best) log ≡ best
    → take (length (longest_from best (prefixes_in log answers))) log ≡ longest_from best (prefixes_in log answers)
longest_taken log best [] is = is
longest_taken log best (a ∷ answers) is =
    let P = cut_after a.id log in
    longest_taken log (longer best P) answers (longer_taken log best P is (log_taken a.id log P (length P) refl refl))

pub longest_of_log : (log : List Entry) (answers : List AcceptedAt) (n : ℕ) → n ≡ length (longest_from [] (prefixes_in log answers))
    → take n log ≡ longest_from [] (prefixes_in log answers)
longest_of_log log answers n count = ap (λ k. take k log) count ∙ longest_taken log [] answers refl

-- it is the history
pub history_in_log : (journal : Journal) (answers : List AcceptedAt) (log : List Entry) → AreAccepted journal (run_in journal) answers
    → IsOnlyLog (group_in journal) (run_in journal) log → IsHistoryIn journal (run_in journal) answers log
history_in_log journal answers log are_accepted only = subst (IsHistoryIn journal (run_in journal) answers) (sym only.log) (are_accepted.one_log only.up)

-- ---- a run without a journal

-- a journal of the group and the run
abbrev journal_with : Group → List Record → Journal
journal_with g J = record {
  scenario = record {
    cluster = g.f;
    proxies = g.proxies;
    clients = 0;
    window = g.window;
    ticks = 0;
    skews = [];
    scripts = g.scripts;
    faults = [];
  };
  records = reverse J;
}

-- what is so of each journal is so of each group and run
pub with_journal : (P : Group → List Record → Type 0) → ((journal : Journal) → P (group_in journal) (run_in journal)) → (g : Group) (J : List Record) → P g J
with_journal P each g J = subst (P g) (reverse-reverse J) (each (journal_with g J))
