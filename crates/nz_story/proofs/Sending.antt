-- The lines of parcels, one after the other.
use Rattle.std.proofs.Common.{◌≡◌, ℕ, ◌+◌, ◌<◌, ◌≤◌, List, [], ◌∷◌, ◌++◌, length, suc, sym, ap, ◌∙◌, append_assoc, append-nil, add-one}
use Rattle.std.specs.Prelude.{take, drop, get_or}
use Rattle.std.proofs.lemmas.List.{take_more, drop_all}
use Rattle.std.proofs.Math.Seq.{drop-cons}
use Rattle.nz_base.specs.declared.scenario.Scenario.{Scenario}
use Rattle.nz_machine.specs.declared.event.Parcel.{Parcel}
use Rattle.nz_story.specs.Fates.{sends_line, sends_lines}

-- one parcel more was sent
pub sent_more : (earlier sends : List Parcel) (i : ℕ) (p : Parcel) → i < length sends → p ≡ get_or sends i p
    → (earlier ++ take i sends) ++ p ∷ [] ≡ earlier ++ take (i + 1) sends
sent_more earlier sends i p lt at =
    append_assoc earlier (take i sends) (p ∷ [])
    ∙ ap (λ (xs : List Parcel). earlier ++ xs) (ap (λ (x : Parcel). take i sends ++ x ∷ []) at ∙ sym (take_more sends i p lt))

-- what is left from a place on
left : (sends : List Parcel) (i : ℕ) (p : Parcel) → i < length sends → p ≡ get_or sends i p → drop i sends ≡ p ∷ drop (i + 1) sends
left sends i p lt at =
    drop-cons sends i p lt ∙ ap (λ (x : Parcel). x ∷ drop (suc i) sends) (sym at) ∙ ap (λ (k : ℕ). p ∷ drop k sends) (sym (add-one i))

-- one line more was written
pub lines_more : (s : Scenario) (tick : ℕ) (earlier sends : List Parcel) (i : ℕ) (p : Parcel) (out next all : List ℕ)
    → i < length sends → p ≡ get_or sends i p → next ≡ out ++ sends_line s tick (earlier ++ take i sends) p
    → out ++ sends_lines s tick (earlier ++ take i sends) (drop i sends) ≡ all
    → next ++ sends_lines s tick (earlier ++ take (i + 1) sends) (drop (i + 1) sends) ≡ all
lines_more s tick earlier sends i p out next all lt at step h =
    let line = sends_line s tick (earlier ++ take i sends) p in
    let rest = sends_lines s tick (earlier ++ take (i + 1) sends) (drop (i + 1) sends) in
    ap (λ (bytes : List ℕ). bytes ++ rest) step ∙ append_assoc out line rest
    ∙ ap (λ (bytes : List ℕ). out ++ bytes)
    (ap (λ (ps : List Parcel). line ++ sends_lines s tick ps (drop (i + 1) sends)) (sym (sent_more earlier sends i p lt at))
    ∙ ap (sends_lines s tick (earlier ++ take i sends)) (sym (left sends i p lt at)))
    ∙ h

-- all lines were written
pub lines_done : (s : Scenario) (tick : ℕ) (earlier sends : List Parcel) (i : ℕ) (out all : List ℕ) → length sends ≤ i
    → out ++ sends_lines s tick (earlier ++ take i sends) (drop i sends) ≡ all → out ≡ all
lines_done s tick earlier sends i out all le h =
    sym (append-nil out) ∙ ap (λ (xs : List Parcel). out ++ sends_lines s tick (earlier ++ take i sends) xs) (sym (drop_all i sends le)) ∙ h
