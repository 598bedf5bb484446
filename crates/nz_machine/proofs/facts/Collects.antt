-- What is collected, one after the other as the code does.
use Rattle.std.proofs.Common.{◌≡◌, ℕ, zero, suc, ◌+◌, ◌<◌, ◌≤◌, true, false, not, ◌==◌, append_assoc, List, []}
use Rattle.std.proofs.Common.{◌∷◌, ◌++◌, length, map, take, get_or, refl, sym, ap, subst, ◌∙◌, inl, inr, arith}
use Rattle.std.specs.Prelude.{Result, Ok, Err, OnOk}
use Rattle.std.specs.List.{filter}
use Rattle.std.proofs.lemmas.Bool.{eqb-true, eq-eqb, cases_Bool, or_parts}
use Rattle.std.proofs.lemmas.List.{append-nil, map-append, take_more, take_all}
use Rattle.std.proofs.lemmas.List.Elements.{filter-append}
use Rattle.nz_base.specs.declared.key.Entry.{Entry}
use Rattle.nz_base.proofs.Booleans.{true_and_false}
use Rattle.nz_cv.specs.Vectors.{is_stray}
use Rattle.nz_merge.specs.declared.report.Report.{Report}
use Rattle.nz_merge.specs.Sender.{has_sender, HaveOwnSenders}
use Rattle.nz_store.specs.Sequence.{apply_bytes, store_after, replies_from, replies}
use Rattle.nz_machine.specs.declared.data.CollectedReport.{CollectedReport}
use Rattle.nz_machine.specs.declared.data.ToldView.{ToldView}
use Rattle.nz_machine.specs.rules.Replicas.{commands}
use Rattle.nz_machine.proofs.facts.Stores.{store_pushed, replies_pushed}

-- ---- views that were told

abbrev pub tells_kept : List ℕ → ℕ → List ToldView → List ToldView
tells_kept known sender tells = filter (λ t. not (is_stray t.vector t.sender known)) (filter (λ t. not (t.sender == sender)) tells)

tells_next : (known : List ℕ) (sender : ℕ) (tells : List ToldView) (t : ToldView)
    → tells_kept known sender (tells ++ t ∷ []) ≡ tells_kept known sender tells ++ tells_kept known sender (t ∷ [])
tells_next known sender tells t =
    ap (filter (λ (u : ToldView). not (is_stray u.vector u.sender known))) (filter-append (λ (u : ToldView). not (u.sender == sender)) tells (t ∷ []))
    ∙ filter-append (λ (u : ToldView). not (is_stray u.vector u.sender known))
    (filter (λ (u : ToldView). not (u.sender == sender)) tells) (filter (λ (u : ToldView). not (u.sender == sender)) (t ∷ []))

pub tells_replaced : (known : List ℕ) (sender : ℕ) (tells : List ToldView) (i : ℕ) (d : ToldView) → i < length tells
    → ((get_or tells i d).sender == sender) ≡ true
    → tells_kept known sender (take (i + 1) tells) ≡ tells_kept known sender (take i tells)
tells_replaced known sender tells i d within same =
    ap (tells_kept known sender) (take_more tells i d within) ∙ tells_next known sender (take i tells) (get_or tells i d)
    ∙ (rw same (append-nil (tells_kept known sender (take i tells))))

pub tells_stray : (known : List ℕ) (sender : ℕ) (tells : List ToldView) (i : ℕ) (d : ToldView) → i < length tells
    → is_stray (get_or tells i d).vector (get_or tells i d).sender known ≡ true
    → tells_kept known sender (take (i + 1) tells) ≡ tells_kept known sender (take i tells)
tells_stray known sender tells i d within stray =
    elim (cases_Bool ((get_or tells i d).sender == sender)) [
      | inl same ↦ tells_replaced known sender tells i d within same
      | inr other ↦
          ap (tells_kept known sender) (take_more tells i d within) ∙ tells_next known sender (take i tells) (get_or tells i d)
          ∙ (rw (other, stray) (append-nil (tells_kept known sender (take i tells))))
    ]

pub tells_more : (known : List ℕ) (sender : ℕ) (tells : List ToldView) (i : ℕ) (d : ToldView) → i < length tells → ((get_or tells i d).sender == sender) ≡ false
    → is_stray (get_or tells i d).vector (get_or tells i d).sender known ≡ false
    → tells_kept known sender (take (i + 1) tells) ≡ tells_kept known sender (take i tells) ++ get_or tells i d ∷ []
tells_more known sender tells i d within other fresh =
    ap (tells_kept known sender) (take_more tells i d within) ∙ tells_next known sender (take i tells) (get_or tells i d)
    ∙ (rw (other, fresh) refl)

-- all of them, and the new one
pub told_stray : (known : List ℕ) (tells : List ToldView) (told : ToldView) (place : ℕ) → length tells ≤ place → is_stray told.vector told.sender known ≡ true
    → tells_kept known told.sender (take place tells)
    ≡ filter (λ (t : ToldView). not (is_stray t.vector t.sender known))
    (filter (λ (t : ToldView). not (t.sender == told.sender)) tells ++ told ∷ [])
told_stray known tells told place past stray =
    ap (tells_kept known told.sender) (take_all place tells past)
    ∙ sym (append-nil (tells_kept known told.sender tells))
    ∙ sym (filter-append (λ (t : ToldView). not (is_stray t.vector t.sender known))
    (filter (λ (t : ToldView). not (t.sender == told.sender)) tells) (told ∷ []) ∙ (rw stray refl))

pub told_more : (known : List ℕ) (tells : List ToldView) (told : ToldView) (place : ℕ) → length tells ≤ place → is_stray told.vector told.sender known ≡ false
    → tells_kept known told.sender (take place tells) ++ told ∷ []
    ≡ filter (λ (t : ToldView). not (is_stray t.vector t.sender known))
    (filter (λ (t : ToldView). not (t.sender == told.sender)) tells ++ told ∷ [])
told_more known tells told place past fresh =
    ap (λ (ts : List ToldView). tells_kept known told.sender ts ++ told ∷ []) (take_all place tells past)
    ∙ sym (filter-append (λ (t : ToldView). not (is_stray t.vector t.sender known))
    (filter (λ (t : ToldView). not (t.sender == told.sender)) tells) (told ∷ []) ∙ (rw fresh refl))

-- ---- reports of different replicas

sender_turned : (a b : ℕ) → (a == b) ≡ false → (b == a) ≡ false
sender_turned a b h =
    elim (cases_Bool (b == a)) [
      | inl same ↦ true_and_false (a == b) (eq-eqb a b (sym (eqb-true b a same))) h
      | inr apart ↦ apart
    ]

own_sender : (xs : List Report) (c : Report) (ys : List Report) → HaveOwnSenders (xs ++ c ∷ ys) → has_sender xs c.sender ≡ false
own_sender [] c ys own = refl
own_sender (x ∷ xs) c ys own =
    let away = sender_away x xs c ys own.0 in
    rw (away, own_sender xs c ys own.1) refl
  where
    sender_away : (x : Report) (xs : List Report) (c : Report) (ys : List Report) → has_sender (xs ++ c ∷ ys) x.sender ≡ false → (x.sender == c.sender) ≡ false
    sender_away x [] c ys none = sender_turned c.sender x.sender (or_parts (c.sender == x.sender) (has_sender ys x.sender) none).0
    sender_away x (z ∷ xs) c ys none = sender_away x xs c ys (or_parts (z.sender == x.sender) (has_sender (xs ++ c ∷ ys) x.sender) none).1

pub own_reported : (own : Report) (reports : List CollectedReport) (i : ℕ) (d : CollectedReport) → i < length reports
    → HaveOwnSenders (own ∷ map (λ r. r.report) reports)
    → has_sender (own ∷ map (λ (r : CollectedReport). r.report) (take i reports)) (get_or reports i d).report.sender ≡ false
own_reported own reports i d within h = go reports i within (own ∷ []) h
  where
    go : (rs : List CollectedReport) (i : ℕ) → i < length rs → (before : List Report) → HaveOwnSenders (before ++ map (λ (r : CollectedReport). r.report) rs)
        → has_sender (before ++ map (λ (r : CollectedReport). r.report) (take i rs)) (get_or rs i d).report.sender ≡ false
    go [] i within before own = absurd (omega (arith, within))
    go (r ∷ rs) zero within before own =
        subst (λ (xs : List Report). has_sender xs r.report.sender ≡ false) (sym (append-nil before))
        (own_sender before r.report (map (λ (r : CollectedReport). r.report) rs) own)
    go (r ∷ rs) (suc i) within before own =
        subst (λ (xs : List Report). has_sender xs (get_or rs i d).report.sender ≡ false)
        (append_assoc before (r.report ∷ []) (map (λ (r : CollectedReport). r.report) (take i rs)))
        (go rs i (omega (arith, within)) (before ++ r.report ∷ [])
        (subst HaveOwnSenders (sym (append_assoc before (r.report ∷ []) (map (λ (r : CollectedReport). r.report) rs))) own))

pub reports_more : (own : Report) (reports : List CollectedReport) (i : ℕ) (d : CollectedReport) → i < length reports
    → own ∷ map (λ r. r.report) (take (i + 1) reports) ≡ (own ∷ map (λ (r : CollectedReport). r.report) (take i reports)) ++ (get_or reports i d).report ∷ []
reports_more own reports i d within =
    ap (λ (rs : List CollectedReport). own ∷ map (λ (r : CollectedReport). r.report) rs) (take_more reports i d within)
    ∙ ap (λ (cs : List Report). own ∷ cs) (map-append (λ (r : CollectedReport). r.report) (take i reports) (get_or reports i d ∷ []))

-- ---- a list is executed

pub executed_more : (list : List Entry) (i : ℕ) (d : Entry) → i < length list
    → store_after (commands (take (i + 1) list)) ≡ (apply_bytes (store_after (commands (take i list))) (get_or list i d).command).0
executed_more list i d within = ap (λ (xs : List Entry). store_after (commands xs)) (take_more list i d within) ∙ store_pushed (take i list) (get_or list i d)

pub answered_more : (list : List Entry) (i : ℕ) (d : Entry) → i < length list
    → replies (commands (take (i + 1) list))
    ≡ replies (commands (take i list)) ++ (apply_bytes (store_after (commands (take i list))) (get_or list i d).command).1 ∷ []
answered_more list i d within = ap (λ (xs : List Entry). replies (commands xs)) (take_more list i d within) ∙ replies_pushed (take i list) (get_or list i d)

-- ---- answers other than Ok

pub both_ok : {X E : Type 0} (P Q R : Type 0) (r : Result X E) → OnOk r P → OnOk r Q → (P → Q → R) → OnOk r R
both_ok P Q R (Ok x) p q both = both p q
both_ok P Q R (Err e) p q both = tt

pub no_replies : replies [] ≡ []
unfolding replies_from
no_replies = refl
