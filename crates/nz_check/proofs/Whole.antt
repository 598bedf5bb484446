-- A text is checked exactly where its events are in form, its open lines and answers are right, and it has one history.
use Rattle.std.proofs.Common.{◌≡◌, ℕ, ◌+◌, ◌≤◌, ◌<◌, Bool, true, false, cond, List, [], ◌∷◌, ◌++◌, length, Option, None}
use Rattle.std.proofs.Common.{refl, sym, ap, subst, ◌∙◌, arith}
use Rattle.std.specs.Prelude.{◌&&◌, ◌==◌, ◌↔◌, nat_lt, Result, Ok, Err, IfOk, ◌≢◌}
use Rattle.nz_base.specs.declared.memory.NoMemory as nomemory
use Rattle.nz_machine.specs.declared.journal.Executed.{Executed}
use Rattle.nz_text.specs.declared.fault.TextFault.{TextFault}
use Rattle.nz_text.specs.declared.fault.TextFault.TheVariants.{Bad, NoMemory}
use Rattle.nz_text.specs.declared.printed.Printed.{Printed}
use Rattle.nz_text.specs.Reading.{printed_in}
use Rattle.nz_check.specs.declared.limit.TheConstants.{MAX_PRINTED}
use Rattle.nz_check.specs.declared.verdict.Why.{Why}
use Rattle.nz_check.specs.declared.verdict.Why.TheVariants.{Open, Limit}
use Rattle.nz_check.specs.declared.verdict.Verdict.{Verdict}
use Rattle.nz_check.specs.declared.verdict.Verdict.TheVariants.{Yes, No}
use Rattle.nz_check.specs.Checked.{whys, event_why, open_why, at_why, end_why, lacks_open, verdict_of, judged, line_of_limit, checked}
use Rattle.nz_check.specs.Exact.{IsChecked, IsCheckedText}
use Rattle.nz_check.proofs.Meanings.{why_parts, why_none}
use Rattle.nz_check.proofs.Lines.{AreFine, EachFine, fine_of_yes, yes_of_fine, fine_parts, fine_both, each_of_fine, fine_of_each}
use Rattle.nz_check.proofs.Forms.{fine_in_form, events_are_fine}
use Rattle.nz_check.proofs.OpenLines.{open_lines_are, open_lines_are_fine, open_lines_do_not_lack}
use Rattle.nz_check.proofs.Sizes.{few_lines}
use Rattle.nz_check.proofs.Histories.{fine_entry, fine_answers, fine_history, answer_recorded, entries_are_fine}

each : {X : Type 0} (why_of : List X → X → Option Why) (xs : List X) → AreFine (whys why_of [] xs) → EachFine why_of [] xs
each {X = X} why_of xs h a b x e = each_of_fine why_of [] a b x (subst (λ (l : List X). AreFine (whys why_of [] l)) e h)

-- no open line lacks where nothing is wrong with the line after them
none_lacks : (p : Printed) (H : List Executed) → p.history ≡ H → AreFine (whys (at_why p) [] p.history) → end_why p ≡ None → lacks_open p ≡ false
none_lacks p [] e h k =
    let tested : ((length p.history == 0) && lacks_open p) ≡ false = (why_parts ((length p.history == 0) && lacks_open p) Open None k).0 in
    subst (λ (l : List Executed). ((length l == 0) && lacks_open p) ≡ false) e tested
none_lacks p (x ∷ H) e h k = (fine_entry p [] x (each (at_why p) p.history h [] H x e)).opens

pub checked_of_yes : (p : Printed) → verdict_of p ≡ Yes → IsChecked p
checked_of_yes p e =
    let events = whys (event_why p) [] p.events in
    let opens = whys (open_why p) [] p.unanswered in
    let ats = whys (at_why p) [] p.history in
    let all = fine_of_yes 1 (events ++ (opens ++ (ats ++ end_why p ∷ []))) e in
    let a = fine_parts events (opens ++ (ats ++ end_why p ∷ [])) all in
    let b = fine_parts opens (ats ++ end_why p ∷ []) a.1 in
    let c = fine_parts ats (end_why p ∷ []) b.1 in
    let events_fine = each (event_why p) p.events a.0 in
    let entries_fine = each (at_why p) p.history c.0 in
    record {
      in_form = fine_in_form p events_fine;
      open_lines = open_lines_are p b.0 (none_lacks p p.history refl c.0 c.1.0);
      answers = fine_answers p events_fine entries_fine;
      one_history = fine_history p events_fine entries_fine;
    }

and_false : (b c : Bool) → c ≡ false → (b && c) ≡ false
and_false true c e = e
and_false false c e = refl

pub yes_of_checked : (p : Printed) → IsChecked p → verdict_of p ≡ Yes
yes_of_checked p h =
    let events = whys (event_why p) [] p.events in
    let opens = whys (open_why p) [] p.unanswered in
    let ats = whys (at_why p) [] p.history in
    let lack = open_lines_do_not_lack p h.open_lines in
    let last : AreFine (end_why p ∷ []) =
    (why_none ((length p.history == 0) && lacks_open p) Open None (and_false (length p.history == 0) (lacks_open p) lack) refl, tt) in
    yes_of_fine 1 (events ++ (opens ++ (ats ++ end_why p ∷ [])))
    (fine_both events (opens ++ (ats ++ end_why p ∷ []))
    (fine_of_each (event_why p) [] p.events (events_are_fine p h.in_form (answer_recorded p h.one_history h.answers)))
    (fine_both opens (ats ++ end_why p ∷ []) (fine_of_each (open_why p) [] p.unanswered (open_lines_are_fine p h.open_lines))
    (fine_both ats (end_why p ∷ []) (fine_of_each (at_why p) [] p.history (entries_are_fine p h.one_history h.answers h.in_form lack)) last)))

-- ---- texts

judged_yes : (bytes : List ℕ) (r : Result Printed TextFault) → printed_in bytes ≡ r → length bytes ≤ MAX_PRINTED → judged r ≡ Yes → IsCheckedText bytes
judged_yes bytes (Ok p) said within e = record { within = within; printed = p; said = said; checked = checked_of_yes p e }
judged_yes bytes (Err (Bad line)) said within e = absurd cc
judged_yes bytes (Err NoMemory) said within e = absurd cc

text_cases : (bytes : List ℕ) (b : Bool) → nat_lt MAX_PRINTED (length bytes) ≡ b
    → cond b (No (line_of_limit bytes) Limit) (judged (printed_in bytes)) ≡ Yes → IsCheckedText bytes
text_cases bytes true long e = absurd cc
text_cases bytes false short e = judged_yes bytes (printed_in bytes) refl (grind (arith, short)) e

pub text_of_yes : (bytes : List ℕ) → checked bytes ≡ Yes → IsCheckedText bytes
unfolding checked
text_of_yes bytes e = text_cases bytes (nat_lt MAX_PRINTED (length bytes)) refl e

short_is : (bytes : List ℕ) → length bytes ≤ MAX_PRINTED → nat_lt MAX_PRINTED (length bytes) ≡ false
short_is bytes h = grind (arith, h)

pub judged_of_short : (bytes : List ℕ) → length bytes ≤ MAX_PRINTED → checked bytes ≡ judged (printed_in bytes)
unfolding checked
judged_of_short bytes h = ap (λ (b : Bool). cond b (No (line_of_limit bytes) Limit) (judged (printed_in bytes))) (short_is bytes h)

pub yes_of_text : (bytes : List ℕ) → IsCheckedText bytes → checked bytes ≡ Yes
yes_of_text bytes h = judged_of_short bytes h.within ∙ ap judged h.said ∙ yes_of_checked h.printed h.checked

pub exact_texts : (bytes : List ℕ) → (checked bytes ≡ Yes) ↔ IsCheckedText bytes
exact_texts bytes = (text_of_yes bytes, yes_of_text bytes)

pub exact_printed : (p : Printed) → (verdict_of p ≡ Yes) ↔ IsChecked p
exact_printed p = (checked_of_yes p, yes_of_checked p)

-- ---- the answers of the program

pub long_is : (bytes : List ℕ) (line : ℕ) → nat_lt MAX_PRINTED (length bytes) ≡ true → line ≡ line_of_limit bytes → No line Limit ≡ checked bytes
unfolding checked
long_is bytes line long is =
    ap (λ (n : ℕ). No n Limit) is ∙ sym (ap (λ (b : Bool). cond b (No (line_of_limit bytes) Limit) (judged (printed_in bytes))) long)

pub short_of : (bytes : List ℕ) → nat_lt MAX_PRINTED (length bytes) ≡ false → length bytes ≤ MAX_PRINTED
short_of bytes h = grind (arith, h)

pub said_is : (bytes : List ℕ) (p : Printed) → nat_lt MAX_PRINTED (length bytes) ≡ false → printed_in bytes ≡ Ok p → checked bytes ≡ verdict_of p
said_is bytes p short said = judged_of_short bytes (short_of bytes short) ∙ ap judged said

pub refused_is : (bytes : List ℕ) (fault : TextFault) (r : Result Verdict nomemory.NoMemory) → nat_lt MAX_PRINTED (length bytes) ≡ false
    → (fault ≢ NoMemory → printed_in bytes ≡ Err fault) → IfOk r (λ v. (fault ≢ NoMemory) × (v ≡ judged (Err fault))) → IfOk r (λ v. v ≡ checked bytes)
refused_is bytes fault (Ok v) short read h = h.1 ∙ sym (judged_of_short bytes (short_of bytes short) ∙ ap judged (read h.0))
refused_is bytes fault (Err e) short read h = tt

pub is_over : (bytes : List ℕ) → nat_lt MAX_PRINTED (length bytes) ≡ true → MAX_PRINTED < length bytes
is_over bytes h = grind (arith, h)

pub is_read : (bytes : List ℕ) → nat_lt MAX_PRINTED (length bytes) ≡ false → length bytes < 4294967295
is_read bytes h = let short = short_of bytes h in omega (arith, short)

pub is_judged : (bytes : List ℕ) (p : Printed) → nat_lt MAX_PRINTED (length bytes) ≡ false → printed_in bytes ≡ Ok p
    → length p.events + length p.unanswered + length p.history + 1 < 4294967296
is_judged bytes p h said =
    let short = short_of bytes h in
    let few = few_lines bytes p said in
    omega (arith, short, few)
