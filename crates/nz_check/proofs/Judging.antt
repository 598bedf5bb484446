-- The passes, one after another.
use Rattle.std.proofs.Common.{◌≡◌, ℕ, ◌+◌, true, false, List, [], ◌∷◌, ◌++◌, length, Option, refl, sym, ap, ◌∙◌, arith}
use Rattle.std.proofs.lemmas.Bool.{false≢true}
use Rattle.nz_text.specs.declared.printed.Printed.{Printed}
use Rattle.nz_check.specs.declared.verdict.Why.{Why}
use Rattle.nz_check.specs.declared.verdict.Verdict.{Verdict}
use Rattle.nz_check.specs.declared.verdict.Verdict.TheVariants.{Yes, No}
use Rattle.nz_check.specs.Verdicts.{is_yes}
use Rattle.nz_check.specs.Checked.{first_line, whys, event_why, open_why, at_why, end_why, verdict_of}
use Rattle.nz_check.proofs.Lines.{first_goes_on, first_stays, length-whys}

pub yes_is : (v : Verdict) → is_yes v ≡ true → v ≡ Yes
yes_is Yes h = refl
yes_is (No line why) h = absurd (false≢true h)

stays : (v : Verdict) (n : ℕ) (os ps : List (Option Why)) → is_yes v ≡ false → v ≡ first_line n os → v ≡ first_line n (os ++ ps)
stays Yes n os ps h e = absurd (false≢true (sym h))
stays (No m w) n os ps h e = sym (first_stays n m w os ps (sym e))

goes_on : (v : Verdict) (n k m : ℕ) (os ps : List (Option Why)) → is_yes v ≡ true → v ≡ first_line n os → length os ≡ k → n + k ≡ m
    → first_line n (os ++ ps) ≡ first_line m ps
goes_on v n k m os ps h e long sum =
    first_goes_on n os ps (sym e ∙ yes_is v h) ∙ ap (λ (j : ℕ). first_line (n + j) ps) long ∙ ap (λ (j : ℕ). first_line j ps) sum

abbrev pub lines_of_end : Printed → List (Option Why)
lines_of_end p = end_why p ∷ []

abbrev pub lines_of_entries : Printed → List (Option Why)
lines_of_entries p = whys (at_why p) [] p.history ++ lines_of_end p

abbrev pub lines_of_opens : Printed → List (Option Why)
lines_of_opens p = whys (open_why p) [] p.unanswered ++ lines_of_entries p

pub events_pass : (p : Printed) (v : Verdict) → is_yes v ≡ true → v ≡ first_line 1 (whys (event_why p) [] p.events)
    → verdict_of p ≡ first_line (length p.events + 1) (lines_of_opens p)
events_pass p v h e =
    goes_on v 1 (length p.events) (length p.events + 1) (whys (event_why p) [] p.events) (lines_of_opens p) h e (length-whys (event_why p) [] p.events) (omega arith)

pub opens_pass : (p : Printed) (v : Verdict) → is_yes v ≡ true → v ≡ first_line (length p.events + 1) (whys (open_why p) [] p.unanswered)
    → first_line (length p.events + 1) (lines_of_opens p) ≡ first_line (length p.events + length p.unanswered + 1) (lines_of_entries p)
opens_pass p v h e =
    goes_on v (length p.events + 1) (length p.unanswered) (length p.events + length p.unanswered + 1) (whys (open_why p) [] p.unanswered) (lines_of_entries p) h e
    (length-whys (open_why p) [] p.unanswered) (omega arith)

pub entries_pass : (p : Printed) (v : Verdict) → is_yes v ≡ true → v ≡ first_line (length p.events + length p.unanswered + 1) (whys (at_why p) [] p.history)
    → first_line (length p.events + length p.unanswered + 1) (lines_of_entries p)
    ≡ first_line (length p.events + length p.unanswered + length p.history + 1) (lines_of_end p)
entries_pass p v h e =
    goes_on v (length p.events + length p.unanswered + 1) (length p.history) (length p.events + length p.unanswered + length p.history + 1)
    (whys (at_why p) [] p.history) (lines_of_end p) h e (length-whys (at_why p) [] p.history) (omega arith)

pub events_stop : (p : Printed) (v : Verdict) → is_yes v ≡ false → v ≡ first_line 1 (whys (event_why p) [] p.events) → v ≡ verdict_of p
events_stop p v h e = stays v 1 (whys (event_why p) [] p.events) (lines_of_opens p) h e

pub opens_stop : (p : Printed) (v : Verdict) → is_yes v ≡ false → v ≡ first_line (length p.events + 1) (whys (open_why p) [] p.unanswered)
    → v ≡ first_line (length p.events + 1) (lines_of_opens p)
opens_stop p v h e = stays v (length p.events + 1) (whys (open_why p) [] p.unanswered) (lines_of_entries p) h e

pub entries_stop : (p : Printed) (v : Verdict) → is_yes v ≡ false → v ≡ first_line (length p.events + length p.unanswered + 1) (whys (at_why p) [] p.history)
    → v ≡ first_line (length p.events + length p.unanswered + 1) (lines_of_entries p)
entries_stop p v h e = stays v (length p.events + length p.unanswered + 1) (whys (at_why p) [] p.history) (lines_of_end p) h e
