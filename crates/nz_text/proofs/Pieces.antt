-- The words of a line, by its first space.
use Rattle.std.proofs.Common.{◌≡◌, ℕ, List, [], ◌∷◌, ◌++◌, map, Some, None, refl, sym, ap, ◌∙◌, append_assoc}
use Rattle.std.proofs.lemmas.List.{map-append}
use Rattle.nz_script.specs.Bytes.{space, Lacks, cut, onto_first}
use Rattle.nz_script.proofs.Cuts.{cut-takes, cut-lacks, none-lacks, other}
use Rattle.nz_text.specs.Reading.{pieces_in}

pub pieces-word : (w r : List ℕ) → Lacks space w → pieces_in (w ++ space ∷ r) ≡ w ∷ pieces_in r
pieces-word [] r h = refl
pieces-word (c ∷ cs) r h = rw (other c space h.0) (ap (onto_first c) (pieces-word cs r h.1))

pub pieces-last : (w : List ℕ) → Lacks space w → pieces_in w ≡ w ∷ []
pieces-last [] h = refl
pieces-last (c ∷ cs) h = rw (other c space h.0) (ap (onto_first c) (pieces-last cs h.1))

pieces-cut : (l w r : List ℕ) → cut space l ≡ Some (w, r) → pieces_in l ≡ w ∷ pieces_in r
pieces-cut l w r e = ap pieces_in (cut-takes space l (w, r) e) ∙ pieces-word w r (cut-lacks space l (w, r) e)

-- one word more, after a space
pub next_piece : {R : Type 0} (now : R → List ℕ) (ps new : List R) (p : R) (rest later : List ℕ) (whole : List (List ℕ))
    → cut space rest ≡ Some (now p, later) → new ≡ ps ++ p ∷ []
    → map now ps ++ pieces_in rest ≡ whole → map now new ++ pieces_in later ≡ whole
next_piece now ps new p rest later whole e is inv =
    ap (λ xs. map now xs ++ pieces_in later) is ∙ ap (λ (xs : List (List ℕ)). xs ++ pieces_in later) (map-append now ps (p ∷ []))
    ∙ append_assoc (map now ps) (now p ∷ []) (pieces_in later) ∙ ap (λ (xs : List (List ℕ)). map now ps ++ xs) (sym (pieces-cut rest (now p) later e)) ∙ inv

-- the last word
pub last_piece : {R : Type 0} (now : R → List ℕ) (ps new : List R) (p : R) (rest : List ℕ) (all : List (List ℕ))
    → cut space rest ≡ None → now p ≡ rest → new ≡ ps ++ p ∷ []
    → map now ps ++ pieces_in rest ≡ all → map now new ≡ all
last_piece now ps new p rest all e same is inv =
    ap (map now) is ∙ map-append now ps (p ∷ []) ∙ ap (λ (w : List ℕ). map now ps ++ w ∷ []) same
    ∙ ap (λ (xs : List (List ℕ)). map now ps ++ xs) (sym (pieces-last rest (none-lacks space rest e))) ∙ inv
