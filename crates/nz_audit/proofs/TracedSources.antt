-- The sources of accepted answers are known after a reading for their requests.
use Rattle.std.proofs.Common.{◌≡◌, ℕ, zero, suc, ◌+◌, ◌<◌, Bool, true, List, [], ◌∷◌, length, take, get_or, Option, refl, sym, ap, ◌∙◌, inl, inr, arith}
use Rattle.std.specs.List.{AllByRecursion, list_any}
use Rattle.std.proofs.lemmas.Bool.{or_left, or_right}
use Rattle.std.proofs.lemmas.List.{take_more}
use Rattle.nz_base.specs.declared.key.Id.{Id}
use Rattle.nz_base.specs.Key.{id_eq}
use Rattle.nz_base.proofs.Names.{id_eq_self}
use Rattle.nz_machine.specs.declared.journal.Journal.{Journal}
use Rattle.nz_machine.specs.journals.Journals.{group_in, run_in}
use Rattle.nz_machine.specs.runs.World.{World, Has}
use Rattle.nz_machine.proofs.runs.Runs.{all_if_has, all_has}
use Rattle.nz_audit.specs.declared.accepted.answers.Source.{Source}
use Rattle.nz_audit.specs.declared.accepted.answers.AcceptedAt.{AcceptedAt}
use Rattle.nz_audit.specs.declared.accepted.answers.Traced.{Traced}
use Rattle.nz_audit.specs.declared.sources.sendings.ParcelKey.{ParcelKey}
use Rattle.nz_replay.specs.Runs.{run_up_to}
use Rattle.nz_audit.specs.Prefixes.{is_to, traced, all_traced, with_accepted, IsAccepted}
use Rattle.nz_audit.specs.Readings.{IsTable, IsKnown}
use Rattle.nz_audit.proofs.AcceptedPrefixes.{traced_more}
use Rattle.nz_audit.proofs.SearchFinds.{is_at}
use Rattle.nz_audit.proofs.SendingTables.{source_at_end}

pub all_at : {X : Type 0} (P : X → Type 0) (xs : List X) (i : ℕ) (d : X) → AllByRecursion P xs → i < length xs → P (get_or xs i d)
all_at P [] i d all lt = absurd (omega (arith, lt))
all_at P (x ∷ xs) zero d all lt = all.0
all_at P (x ∷ xs) (suc i) d all lt = all_at P xs i d all.1 (omega (arith, lt))

is_wanted : (answers : List AcceptedAt) (a : AcceptedAt) → Has answers a → list_any (is_to a.id) answers ≡ true
is_wanted [] a h = absurd h
is_wanted (x ∷ answers) a (inl same) =
    or_left (is_to a.id x) (list_any (is_to a.id) answers) (ap (λ (y : AcceptedAt). id_eq y.id a.id) same ∙ id_eq_self a.id)
is_wanted (x ∷ answers) a (inr h) = or_right (is_to a.id x) (list_any (is_to a.id) answers) (is_wanted answers a h)

is_known : (journal : Journal) (w : Id → Bool) (a : AcceptedAt) (table : List (ParcelKey × Option Source)) → World (group_in journal) (run_in journal)
    → IsAccepted journal a → w a.id ≡ true → IsTable (group_in journal) w (run_in journal) table → IsKnown journal table a
is_known journal w a table world accepted wanted h = record {
  source = λ r at.
      let is = is_at journal a.place r world at in
      source_at_end (group_in journal) w a.id r is.newer (run_up_to journal a.place) (run_in journal) table r.event is.world is.whole refl
      (accepted.brings r at) wanted h;
}

pub all_known : (journal : Journal) (w : Id → Bool) (answers : List AcceptedAt) (table : List (ParcelKey × Option Source))
    → World (group_in journal) (run_in journal) → AllByRecursion (IsAccepted journal) answers → ((id : Id) → w id ≡ list_any (is_to id) answers)
    → IsTable (group_in journal) w (run_in journal) table → AllByRecursion (IsKnown journal table) answers
all_known journal w answers table world accepted wanted h = all_if_has (IsKnown journal table) answers (λ a k.
    is_known journal w a table world (all_has (IsAccepted journal) answers a accepted k) (wanted a.id ∙ is_wanted answers a k) h)

pub traced_next : (journal : Journal) (answers : List AcceptedAt) (i : ℕ) (d : AcceptedAt) (old new : List Traced) → i < length answers
    → old ≡ all_traced journal (take i answers) → new ≡ with_accepted old (traced journal (get_or answers i d))
    → new ≡ all_traced journal (take (i + 1) answers)
traced_next journal answers i d old new lt before after =
    after ∙ ap (λ (l : List Traced). with_accepted l (traced journal (get_or answers i d))) before
    ∙ sym (traced_more journal (take i answers) (get_or answers i d)) ∙ ap (all_traced journal) (sym (take_more answers i d lt))
