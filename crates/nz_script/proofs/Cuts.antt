-- Lines and words, by the first newline or space.
use Rattle.std.proofs.Common.{◌≡◌, ◌≢◌, ℕ, Bool, true, false, cond, List, [], ◌∷◌, ◌++◌, Option, Some, None, refl, sym, ap, subst, ◌∙◌, arith}
use Rattle.std.proofs.Common.{length, take, drop, zero, suc, ◌<◌, take_all, length-drop, length-append, add-one, ◌+◌, ◌-◌}
use Rattle.std.specs.Prelude.{◌==◌, ◌||◌}
use Rattle.std.specs.List.{list_any}
use Rattle.std.proofs.lemmas.Option.{none-some, same_Some}
use Rattle.std.proofs.lemmas.Bool.{eqb-false}
use Rattle.std.proofs.lemmas.List.{append-nil}
use Rattle.memchr.specs.Find.{is_byte, Passes, Nowhere}
use Rattle.nz_script.specs.Bytes.{space, newline, Lacks, cut, with_byte_before, onto_first, lines_in, tail_in, is_word_end, words_in}

pub cut-takes : (b : ℕ) (l : List ℕ) (p : List ℕ × List ℕ) → cut b l ≡ Some p → l ≡ p.0 ++ b ∷ p.1
cut-takes b [] p e = absurd cc
cut-takes b (x ∷ xs) p e = let ih = cut-takes b xs in grind (arith, ih)

-- what is before and after the first place that has the byte
pub cut-at_place : (b : ℕ) (l : List ℕ) (k : ℕ) → k < length l → Nowhere (Passes (is_byte b) l) 0 k → Passes (is_byte b) l k
    → cut b l ≡ Some (take k l, drop (suc k) l)
cut-at_place b [] k within passed here = absurd (omega (arith, within))
cut-at_place b (x ∷ xs) zero within passed here = grind (arith, here)
cut-at_place b (x ∷ xs) (suc k) within passed here =
    let ih = cut-at_place b xs k (omega (arith, within)) (λ i low below. passed (suc i) (omega arith) (omega (arith, below))) here in
    let other = passed 0 (omega arith) (omega arith) in grind (arith, ih, other)

-- without the byte there is no cut
pub cut-nowhere : (b : ℕ) (l : List ℕ) → Nowhere (Passes (is_byte b) l) 0 (length l) → cut b l ≡ None
cut-nowhere b [] passed = refl
cut-nowhere b (x ∷ xs) passed =
    let ih = cut-nowhere b xs (λ i low below. passed (suc i) (omega arith) (omega (arith, below))) in
    let other = passed 0 (omega arith) (omega arith) in grind (arith, ih, other)

pub rest_is : (l : List ℕ) (k : ℕ) → take (length l - (k + 1)) (drop (k + 1) l) ≡ drop (suc k) l
rest_is l k = take_all (length l - (k + 1)) (drop (k + 1) l) (omega (arith, length-drop (k + 1) l)) ∙ ap (λ (n : ℕ). drop n l) (add-one k)

-- What follows a word is shorter than what the word was cut from.
pub shorter : (at : ℕ) (rest word later : List ℕ) → cut at rest ≡ Some (word, later) → length later < length rest
shorter at rest word later parts = omega (arith, ap length (cut-takes at rest (word, later) parts), length-append word (at ∷ later))

lacks_step : (b x : ℕ) (xs : List ℕ) (t : Bool) (o : Option (List ℕ × List ℕ)) (p : List ℕ × List ℕ) → (x == b) ≡ t
    → ((q : List ℕ × List ℕ) → o ≡ Some q → Lacks b q.0) → cond t (Some ([], xs)) (with_byte_before x o) ≡ Some p → Lacks b p.0
lacks_step b x xs true o p t ih e = subst (λ (q : List ℕ × List ℕ). Lacks b q.0) (same_Some _ _ e) tt
lacks_step b x xs false None p t ih e = absurd (none-some _ e)
lacks_step b x xs false (Some q) p t ih e = subst (λ (q : List ℕ × List ℕ). Lacks b q.0) (same_Some _ _ e) (eqb-false x b t, ih q refl)

-- the byte is not in what is before it
pub cut-lacks : (b : ℕ) (l : List ℕ) (p : List ℕ × List ℕ) → cut b l ≡ Some p → Lacks b p.0
cut-lacks b [] p e = absurd cc
cut-lacks b (x ∷ xs) p e = lacks_step b x xs (x == b) (cut b xs) p refl (cut-lacks b xs) e

none_step : (b x : ℕ) (xs : List ℕ) (t : Bool) (o : Option (List ℕ × List ℕ)) → (x == b) ≡ t → (o ≡ None → Lacks b xs)
    → cond t (Some ([], xs)) (with_byte_before x o) ≡ None → Lacks b (x ∷ xs)
none_step b x xs true o t ih e = absurd (none-some _ (sym e))
none_step b x xs false (Some q) t ih e = absurd (none-some _ (sym e))
none_step b x xs false None t ih e = (eqb-false x b t, ih refl)

-- without a cut the byte is nowhere
pub none-lacks : (b : ℕ) (l : List ℕ) → cut b l ≡ None → Lacks b l
none-lacks b [] e = tt
none-lacks b (x ∷ xs) e = none_step b x xs (x == b) (cut b xs) refl (none-lacks b xs) e

-- Numbers that are not equal fail the test of equality.
pub other : (x b : ℕ) → x ≢ b → (x == b) ≡ false
other x b h = grind (arith, h)

-- ---- words

-- a word that ends where the rest begins
pub words-word : (x : ℕ) (xs t : List ℕ) → Lacks space (x ∷ xs) → is_word_end t ≡ true → words_in ((x ∷ xs) ++ t) ≡ (x ∷ xs) ∷ words_in t
words-word x [] t h ends = rw (other x space h.0, ends) refl
words-word x (y ∷ ys) t h ends =
    rw (other x space h.0, other y space h.1.0) (ap (onto_first x) (sym (rw (other y space h.1.0) refl) ∙ words-word y ys t h.1 ends))

-- no word comes before a space that is first
pub words-skip : (l w r : List ℕ) → (length w == 0) ≡ true → cut space l ≡ Some (w, r) → words_in l ≡ words_in r
words-skip l [] r h e = ap words_in (cut-takes space l ([], r) e)
words-skip l (x ∷ w) r h e = absurd (grind (arith, h))

-- the word before the first space, and the words after it
pub words-cut : (l w r : List ℕ) → (length w == 0) ≡ false → cut space l ≡ Some (w, r) → words_in l ≡ w ∷ words_in r
words-cut l [] r h e = absurd (grind (arith, h))
words-cut l (x ∷ w) r h e = ap words_in (cut-takes space l (x ∷ w, r) e) ∙ words-word x w (space ∷ r) (cut-lacks space l (x ∷ w, r) e) refl

-- without a space all is one word
pub words-one : (l : List ℕ) → (length l == 0) ≡ false → cut space l ≡ None → words_in l ≡ l ∷ []
words-one [] h e = absurd (grind (arith, h))
words-one (x ∷ xs) h e = ap words_in (sym (append-nil (x ∷ xs))) ∙ words-word x xs [] (none-lacks space (x ∷ xs) e) refl

-- ---- lines

pub lines-line : (w r : List ℕ) → Lacks newline w → lines_in (w ++ newline ∷ r) ≡ w ∷ lines_in r
lines-line [] r h = refl
lines-line (c ∷ cs) r h = rw (other c newline h.0) (ap (onto_first c) (lines-line cs r h.1))

pub lines-cut : (l w r : List ℕ) → cut newline l ≡ Some (w, r) → lines_in l ≡ w ∷ lines_in r
lines-cut l w r e = ap lines_in (cut-takes newline l (w, r) e) ∙ lines-line w r (cut-lacks newline l (w, r) e)

lines-lacking : (l : List ℕ) → Lacks newline l → lines_in l ≡ []
lines-lacking [] h = refl
lines-lacking (c ∷ cs) h = rw (other c newline h.0) (ap (onto_first c) (lines-lacking cs h.1))

pub lines-none : (l : List ℕ) → cut newline l ≡ None → lines_in l ≡ []
lines-none l e = lines-lacking l (none-lacks newline l e)

any-line : (w r : List ℕ) → list_any (λ b. b == newline) (w ++ newline ∷ r) ≡ true
any-line [] r = refl
any-line (c ∷ cs) r = let ih = any-line cs r in
    elim (c == newline) as (λ (t : Bool). (t || list_any (λ b. b == newline) (cs ++ newline ∷ r)) ≡ true) [ true ↦ refl | false ↦ ih ]

any-lacking : (l : List ℕ) → Lacks newline l → list_any (λ b. b == newline) l ≡ false
any-lacking [] h = refl
any-lacking (c ∷ cs) h = rw (other c newline h.0) (any-lacking cs h.1)

pub tail-line : (w r : List ℕ) → tail_in (w ++ newline ∷ r) ≡ tail_in r
tail-line [] r = refl
tail-line (c ∷ cs) r = rw (any-line (c ∷ cs) r) (tail-line cs r)

pub tail-cut : (l w r : List ℕ) → cut newline l ≡ Some (w, r) → tail_in l ≡ tail_in r
tail-cut l w r e = ap tail_in (cut-takes newline l (w, r) e) ∙ tail-line w r

tail-lacking : (l : List ℕ) → Lacks newline l → tail_in l ≡ l
tail-lacking [] h = refl
tail-lacking (c ∷ cs) h = rw (any-lacking (c ∷ cs) h) refl

pub tail-none : (l : List ℕ) → cut newline l ≡ None → tail_in l ≡ l
tail-none l e = tail-lacking l (none-lacks newline l e)
