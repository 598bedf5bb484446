-- Each line that is written is read again, and so is a text of such lines.
use Rattle.std.proofs.Common.{◌≡◌, ℕ, ◌+◌, true, false, List, [], ◌∷◌, ◌++◌, Option, Some, None, Ok, refl, sym, ap, ◌∙◌, arith, map}
use Rattle.std.specs.List.{list_all}
use Rattle.std.proofs.lemmas.Bool.{false≢true, and_from, and_parts}
use Rattle.std.proofs.lemmas.List.Folds.{list_all-append}
use Rattle.nz_store.specs.Grammar.{is_graphic}
use Rattle.nz_script.specs.declared.line_forms.Head.TheVariants as head
use Rattle.nz_script.specs.declared.line_forms.Ask.TheVariants as ask
use Rattle.nz_script.specs.declared.line_forms.Mishap.TheVariants as mishap
use Rattle.nz_script.specs.declared.line_forms.Verb.{Verb}
use Rattle.nz_script.specs.declared.line_forms.Verb.TheVariants as verb
use Rattle.nz_script.specs.declared.line_forms.Form.{Form}
use Rattle.nz_script.specs.declared.word.Word.{Word}
use Rattle.nz_script.specs.declared.line.Line.{Line}
use Rattle.nz_script.specs.declared.draft.Draft.{Draft}
use Rattle.nz_script.specs.Bytes.{space, newline, Lacks, lines_in, tail_in, words_in, is_printed}
use Rattle.nz_script.specs.Shapes.{place_rank, verb_word, forms_of, verb_of}
use Rattle.nz_script.specs.Forms.{◌>>=◌}
use Rattle.nz_script.specs.Lines.{fits, a_line, line_from, line_of}
use Rattle.nz_script.specs.Drafts.{with_words, scenario_of}
use Rattle.nz_script.specs.Reading.{is_passed_over, fault_of, draft_if_sound, taken_if_shaped, draft_after_line, if_taken, scenario_at_end, scenario_from}
use Rattle.nz_script.specs.Texts.{word_text, words_text, line_text, text_of_lines}
use Rattle.nz_script.proofs.Cuts.{words-word, lines-line, tail-line}
use Rattle.nz_script.proofs.Readable.{IsWord, IsReadAs}

-- each word is read again by its form, and there are as many
abbrev pub AreReadAs : List Form → List Word → Type 0
AreReadAs [] [] = Unit {0}
AreReadAs [] (w ∷ words) = ⊥
AreReadAs (f ∷ forms) [] = ⊥
AreReadAs (f ∷ forms) (w ∷ words) = IsReadAs f w × AreReadAs forms words

graphic_is_not_space : (c : ℕ) → is_graphic c ≡ true → c ≡ space → ⊥
graphic_is_not_space c g e = let h : is_graphic 32 ≡ true = ap is_graphic (sym e) ∙ g in false≢true h

pub graphic_lacks_space : (l : List ℕ) → list_all is_graphic l ≡ true → Lacks space l
graphic_lacks_space [] e = tt
graphic_lacks_space (c ∷ cs) e = let p = and_parts (is_graphic c) (list_all is_graphic cs) e in (graphic_is_not_space c p.0, graphic_lacks_space cs p.1)

graphic_is_printed : (c : ℕ) → is_graphic c ≡ true → is_printed c ≡ true
graphic_is_printed c e = grind (arith, e)

pub graphic_are_printed : (l : List ℕ) → list_all is_graphic l ≡ true → list_all is_printed l ≡ true
graphic_are_printed [] e = refl
graphic_are_printed (c ∷ cs) e = let p = and_parts (is_graphic c) (list_all is_graphic cs) e in
    and_from _ _ (graphic_is_printed c p.0) (graphic_are_printed cs p.1)

printed_is_not_newline : (c : ℕ) → is_printed c ≡ true → c ≡ newline → ⊥
printed_is_not_newline c g e = let h : is_printed 10 ≡ true = ap is_printed (sym e) ∙ g in false≢true h

pub printed_lacks_newline : (l : List ℕ) → list_all is_printed l ≡ true → Lacks newline l
printed_lacks_newline [] e = tt
printed_lacks_newline (c ∷ cs) e = let p = and_parts (is_printed c) (list_all is_printed cs) e in (printed_is_not_newline c p.0, printed_lacks_newline cs p.1)

words_again : (first : List ℕ) (forms : List Form) (words : List Word) → IsWord first → AreReadAs forms words
    → words_in (first ++ words_text words) ≡ first ∷ map word_text words
words_again [] forms words w r = absurd (omega (arith, w.some))
words_again (x ∷ xs) [] [] w r = words-word x xs [] (graphic_lacks_space (x ∷ xs) w.graphic) refl
words_again (x ∷ xs) [] (v ∷ vs) w r = absurd r
words_again (x ∷ xs) (f ∷ fs) [] w r = absurd r
words_again (x ∷ xs) (f ∷ fs) (v ∷ vs) w r =
    words-word x xs (space ∷ (word_text v ++ words_text vs)) (graphic_lacks_space (x ∷ xs) w.graphic) refl
    ∙ ap (λ (l : List (List ℕ)). (x ∷ xs) ∷ l) (words_again (word_text v) fs vs r.0.word r.1)

words_are_printed : (first : List ℕ) (forms : List Form) (words : List Word) → IsWord first → AreReadAs forms words
    → list_all is_printed (first ++ words_text words) ≡ true
words_are_printed first [] [] w r = list_all-append is_printed first [] ∙ and_from _ _ (graphic_are_printed first w.graphic) refl
words_are_printed first [] (v ∷ vs) w r = absurd r
words_are_printed first (f ∷ fs) [] w r = absurd r
words_are_printed first (f ∷ fs) (v ∷ vs) w r =
    list_all-append is_printed first (space ∷ (word_text v ++ words_text vs))
    ∙ and_from _ _ (graphic_are_printed first w.graphic) (words_are_printed (word_text v) fs vs r.0.word r.1)

fits_again : (forms : List Form) (words : List Word) → AreReadAs forms words → fits forms (map word_text words) ≡ Some words
fits_again [] [] r = refl
fits_again [] (v ∷ vs) r = absurd r
fits_again (f ∷ fs) [] r = absurd r
fits_again (f ∷ fs) (v ∷ vs) r =
    ap (λ (o : Option Word). o >>= λ w. fits fs (map word_text vs) >>= λ ws. Some (w ∷ ws)) r.0.read
    ∙ ap (λ (o : Option (List Word)). o >>= λ ws. Some (v ∷ ws)) (fits_again fs vs r.1)

-- ---- first words

pub record IsFirst (v : Verb) : Type 0 where
  pub word : IsWord (verb_word v)
  pub again : verb_of (verb_word v) ≡ Some v
  pub begins : (t : List ℕ) → is_passed_over (verb_word v ++ t) ≡ false

pub first_word : (v : Verb) → IsFirst v
unfolding verb_of
first_word (verb.Head head.Version) = record { word = record { some = omega arith; graphic = refl }; again = refl; begins = λ t. refl }
first_word (verb.Head head.Faulty) = record { word = record { some = omega arith; graphic = refl }; again = refl; begins = λ t. refl }
first_word (verb.Head head.Proxies) = record { word = record { some = omega arith; graphic = refl }; again = refl; begins = λ t. refl }
first_word (verb.Head head.Clients) = record { word = record { some = omega arith; graphic = refl }; again = refl; begins = λ t. refl }
first_word (verb.Head head.Ticks) = record { word = record { some = omega arith; graphic = refl }; again = refl; begins = λ t. refl }
first_word (verb.Head head.Window) = record { word = record { some = omega arith; graphic = refl }; again = refl; begins = λ t. refl }
first_word verb.Skew = record { word = record { some = omega arith; graphic = refl }; again = refl; begins = λ t. refl }
first_word verb.Client = record { word = record { some = omega arith; graphic = refl }; again = refl; begins = λ t. refl }
first_word (verb.Ask ask.Put) = record { word = record { some = omega arith; graphic = refl }; again = refl; begins = λ t. refl }
first_word (verb.Ask ask.Get) = record { word = record { some = omega arith; graphic = refl }; again = refl; begins = λ t. refl }
first_word (verb.Ask ask.Del) = record { word = record { some = omega arith; graphic = refl }; again = refl; begins = λ t. refl }
first_word (verb.Ask ask.Cas) = record { word = record { some = omega arith; graphic = refl }; again = refl; begins = λ t. refl }
first_word verb.Wait = record { word = record { some = omega arith; graphic = refl }; again = refl; begins = λ t. refl }
first_word verb.End = record { word = record { some = omega arith; graphic = refl }; again = refl; begins = λ t. refl }
first_word (verb.Mishap mishap.Drop) = record { word = record { some = omega arith; graphic = refl }; again = refl; begins = λ t. refl }
first_word (verb.Mishap mishap.Hold) = record { word = record { some = omega arith; graphic = refl }; again = refl; begins = λ t. refl }
first_word (verb.Mishap mishap.Twice) = record { word = record { some = omega arith; graphic = refl }; again = refl; begins = λ t. refl }
first_word (verb.Mishap mishap.Cut) = record { word = record { some = omega arith; graphic = refl }; again = refl; begins = λ t. refl }
first_word (verb.Mishap mishap.Block) = record { word = record { some = omega arith; graphic = refl }; again = refl; begins = λ t. refl }
first_word (verb.Mishap mishap.Crash) = record { word = record { some = omega arith; graphic = refl }; again = refl; begins = λ t. refl }
first_word (verb.Mishap mishap.Restart) = record { word = record { some = omega arith; graphic = refl }; again = refl; begins = λ t. refl }
first_word (verb.Mishap mishap.Alarm) = record { word = record { some = omega arith; graphic = refl }; again = refl; begins = λ t. refl }
first_word verb.Done = record { word = record { some = omega arith; graphic = refl }; again = refl; begins = λ t. refl }

-- ---- lines

pub line_again : (v : Verb) (words : List Word) → AreReadAs (forms_of v) words → line_of (line_text (a_line v words)) ≡ Some (a_line v words)
unfolding line_of
line_again v words r =
    let first = first_word v in
    rw (words_are_printed (verb_word v) (forms_of v) words first.word r) (
    ap line_from (words_again (verb_word v) (forms_of v) words first.word r)
    ∙ ap (λ (o : Option Verb). o >>= λ u. fits (forms_of u) (map word_text words) >>= λ ws. Some (a_line u ws)) first.again
    ∙ ap (λ (o : Option (List Word)). o >>= λ ws. Some (a_line v ws)) (fits_again (forms_of v) words r))

pub line_lacks_newline : (v : Verb) (words : List Word) → AreReadAs (forms_of v) words → Lacks newline (line_text (a_line v words))
line_lacks_newline v words r = printed_lacks_newline _ (words_are_printed (verb_word v) (forms_of v) words (first_word v).word r)

-- a line that is read again and passes its tests is taken in
pub step_again : (d : Draft) (v : Verb) (words : List Word) → AreReadAs (forms_of v) words
    → fault_of d (a_line v words) ≡ None → draft_after_line d (line_text (a_line v words)) ≡ Ok (with_words d v words)
unfolding draft_after_line
step_again d v words r e =
    rw ((first_word v).begins (words_text words)) (ap (taken_if_shaped d) (line_again v words r) ∙ ap (draft_if_sound d (a_line v words)) e)

-- ---- texts

-- each line is read again and taken in, one after the other
abbrev pub AreTaken : Draft → List Line → Type 0
AreTaken d [] = Unit {0}
AreTaken d (l ∷ lines) = AreReadAs (forms_of l.verb) l.words × (fault_of d l ≡ None) × AreTaken (with_words d l.verb l.words) lines

abbrev pub after_lines : Draft → List Line → Draft
after_lines d [] = d
after_lines d (l ∷ lines) = after_lines (with_words d l.verb l.words) lines

pub taken-append : (d : Draft) (a b : List Line) → AreTaken d a → AreTaken (after_lines d a) b → AreTaken d (a ++ b)
taken-append d [] b h k = k
taken-append d (l ∷ ls) b h k = (h.0, h.1, taken-append (with_words d l.verb l.words) ls b h.2 k)

pub after-append : (d : Draft) (a b : List Line) → after_lines d (a ++ b) ≡ after_lines (after_lines d a) b
after-append d [] b = refl
after-append d (l ∷ ls) b = after-append (with_words d l.verb l.words) ls b

pub lines_again : (d : Draft) (ls : List Line) → AreTaken d ls → lines_in (text_of_lines ls) ≡ map line_text ls
lines_again d [] h = refl
lines_again d (l ∷ ls) h =
    lines-line (line_text l) (text_of_lines ls) (line_lacks_newline l.verb l.words h.0)
    ∙ ap (λ (t : List (List ℕ)). line_text l ∷ t) (lines_again (with_words d l.verb l.words) ls h.2)

pub tail_again : (ls : List Line) → tail_in (text_of_lines ls) ≡ []
tail_again [] = refl
tail_again (l ∷ ls) = tail-line (line_text l) (text_of_lines ls) ∙ tail_again ls

ended : (n : ℕ) (d : Draft) → place_rank d.place ≡ 9 → scenario_at_end false [] n d ≡ Ok (scenario_of d)
ended n d e = rw e refl

pub reading_again : (n : ℕ) (d : Draft) (ls : List Line) → AreTaken d ls → place_rank (after_lines d ls).place ≡ 9
    → scenario_from false [] n d (map line_text ls) ≡ Ok (scenario_of (after_lines d ls))
reading_again n d [] h e = ended n d e
reading_again n d (l ∷ ls) h e =
    ap (if_taken n (λ next. scenario_from false [] (n + 1) next (map line_text ls))) (step_again d l.verb l.words h.0 h.1)
    ∙ reading_again (n + 1) (with_words d l.verb l.words) ls h.2 e
