-- The run that a source names.
use Rattle.std.proofs.Common.{◌≡◌, ℕ, ◌≤◌, List, [], ◌∷◌, ◌++◌, length, take, reverse, refl, sym, ap, ◌∙◌, arith, length-take}
use Rattle.std.proofs.lemmas.List.{reverse-append, reverse-reverse, length-reverse, length-append}
use Rattle.nz_machine.specs.declared.event.Record.{Record}
use Rattle.nz_machine.specs.declared.journal.Journal.{Journal}
use Rattle.nz_machine.specs.journals.Journals.{run_in}
use Rattle.nz_replay.specs.Runs.{run_up_to}

take_some : {X : Type 0} (xs ys : List X) → take (length xs) (xs ++ ys) ≡ xs
take_some [] [] = refl
take_some [] (y ∷ ys) = refl
take_some (x ∷ xs) ys = ap (λ (l : List _). x ∷ l) (take_some xs ys)

pub run_named : (journal : Journal) (later run : List Record) (n : ℕ) → run_in journal ≡ later ++ run → n ≡ length run → run ≡ run_up_to journal n
run_named journal later run n at is =
    let R = journal.records in
    let split : R ≡ reverse run ++ reverse later = sym (reverse-reverse R) ∙ ap reverse at ∙ reverse-append later run in
    let count : n ≡ length (reverse run) = is ∙ sym (length-reverse run) in
    sym (reverse-reverse run) ∙ ap reverse (sym ((λ i. take (count i) (split i)) ∙ take_some (reverse run) (reverse later)))

pub run_within : (journal : Journal) (later run : List Record) (n : ℕ) → run_in journal ≡ later ++ run → n ≡ length run → n ≤ length journal.records
run_within journal later run n at is =
    let a = length-reverse journal.records in
    let b : length (run_in journal) ≡ length (later ++ run) = ap length at in
    let d = length-append later run in
    omega (arith, a, b, d, is)

pub run_length : (journal : Journal) (n : ℕ) → n ≤ length journal.records → length (run_up_to journal n) ≡ n
run_length journal n le = let a = length-reverse (take n journal.records) in let b = length-take n journal.records in omega (arith, a, b, le)
