-- Reports of different replicas, and one more.
use Rattle.std.proofs.Common.{ℕ, ◌≡◌, false, ◌==◌, List, [], ◌∷◌, ◌++◌, refl, sym, ◌∙◌, inl, inr}
use Rattle.std.proofs.lemmas.Bool.{eqb-true, eq-eqb, cases_Bool, or_parts}
use Rattle.std.proofs.lemmas.List.Folds.{list_any-append}
use Rattle.nz_base.proofs.Booleans.{true_and_false}
use Rattle.nz_merge.specs.Sender.{has_sender, HaveOwnSenders}
use Rattle.nz_merge.specs.declared.report.Report.{Report}

turned : (a b : ℕ) → (a == b) ≡ false → (b == a) ≡ false
turned a b h =
    elim (cases_Bool (b == a)) [
      | inl same ↦ true_and_false (a == b) (eq-eqb a b (sym (eqb-true b a same))) h
      | inr apart ↦ apart
    ]

pub own_senders_push : (reports : List Report) (c : Report) → HaveOwnSenders reports → has_sender reports c.sender ≡ false → HaveOwnSenders (reports ++ c ∷ [])
own_senders_push [] c own fresh = (refl, tt)
own_senders_push (d ∷ reports) c own fresh =
    let apart : (c.sender == d.sender) ≡ false = turned d.sender c.sender (or_parts (d.sender == c.sender) (has_sender reports c.sender) fresh).0 in
    let rest : has_sender (reports ++ c ∷ []) d.sender ≡ false = list_any-append (λ x. x.sender == d.sender) reports (c ∷ []) ∙ rw own.0 (rw apart refl) in
    (rest, own_senders_push reports c own.1 (or_parts (d.sender == c.sender) (has_sender reports c.sender) fresh).1)
