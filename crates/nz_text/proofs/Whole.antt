-- The text of what can be printed is read back.
use Rattle.std.proofs.Common.{◌≡◌, ℕ, suc, ◌+◌, ◌<◌, ◌^◌, Bool, true, cond, List, [], ◌∷◌, ◌++◌, length, Option}
use Rattle.std.proofs.Common.{Some, None, Ok, refl, sym, ap, ◌∙◌, arith, append_assoc, length-append}
use Rattle.std.specs.Prelude.{◌==◌, nat_le, codes, IsSome}
use Rattle.std.specs.List.{AllByRecursion, flat_map}
use Rattle.std.proofs.lemmas.Bool.{eq-eqb, false≢true, and_from}
use Rattle.std.proofs.lemmas.List.{append-nil}
use Rattle.nz_base.specs.declared.key.Id.{Id}
use Rattle.nz_store.specs.declared.command.Command.{Command}
use Rattle.nz_store.specs.Reading.{command_of}
use Rattle.nz_store.proofs.Spellings.{spells_from_reading}
use Rattle.nz_store.proofs.Texts.{validity_is}
use Rattle.nz_script.specs.Bytes.{lines_in, tail_in}
use Rattle.nz_machine.specs.declared.journal.Executed.{Executed}
use Rattle.nz_text.specs.declared.draft.Draft.{Draft}
use Rattle.nz_text.specs.declared.draft.Stage.{Stage}
use Rattle.nz_text.specs.declared.draft.Stage.TheVariants as stage
use Rattle.nz_text.specs.declared.line.Line.TheVariants as line
use Rattle.nz_machine.specs.declared.client_event.ClientEvent.{ClientEvent}
use Rattle.nz_machine.specs.declared.client_event.ClientEvent.TheVariants.{Sent, Accepted}
use Rattle.nz_text.specs.declared.printed.Printed.{Printed}
use Rattle.nz_text.specs.Fit.{FitsId, FitsEvent, FitsExecuted, FitsPrinted}
use Rattle.nz_text.specs.Text.{event_line, open_line, at_line, at_lines, text_of_printed}
use Rattle.nz_text.specs.Reading.{stage_rank, printed_from, printed_in}
use Rattle.nz_text.proofs.ReadBack.{IsLine, IsCommand, line_read, send_line, accept_line, open_line_is, at_line_is, end_line_is}

abbrev at : Stage → List ClientEvent → List Id → List Executed → Draft
at s E U H = record { stage = s; printed = record { events = E; unanswered = U; history = H } }

-- what is left of a text is read on from what was read
record Reaches (n : ℕ) (d : Draft) (text rest : List ℕ) (next : Draft) : Type 0 where
  line : ℕ
  same : printed_from (tail_in text) n d (lines_in text) ≡ printed_from (tail_in rest) line next (lines_in rest)

first_line : (n : ℕ) (d e f : Draft) (bytes a rest : List ℕ)
    → printed_from (tail_in (bytes ++ (a ++ rest))) n d (lines_in (bytes ++ (a ++ rest)))
    ≡ printed_from (tail_in (a ++ rest)) (n + 1) e (lines_in (a ++ rest))
    → Reaches (n + 1) e (a ++ rest) rest f → Reaches n d ((bytes ++ a) ++ rest) rest f
first_line n d e f bytes a rest now h =
    record { line = h.line; same = ap (λ (l : List ℕ). printed_from (tail_in l) n d (lines_in l)) (append_assoc bytes a rest) ∙ now ∙ h.same }

no_line : (n : ℕ) (d e : Draft) (rest : List ℕ) → d ≡ e → Reaches n d rest rest e
no_line n d e rest is = record { line = n; same = ap (λ (x : Draft). printed_from (tail_in rest) n x (lines_in rest)) is }

reaches_to : (n : ℕ) (d e f : Draft) (a b : List ℕ) → Reaches n d a b e → e ≡ f → Reaches n d a b f
reaches_to n d e f a b h is = record { line = h.line; same = h.same ∙ ap (λ (x : Draft). printed_from (tail_in b) h.line x (lines_in b)) is }

-- ---- events

command_is : (bytes : List ℕ) (o : Option Command) → command_of bytes ≡ o → IsSome o → IsCommand bytes
command_is bytes None e h = absurd (false≢true h)
command_is bytes (Some c) e h = let s = spells_from_reading bytes c e in record { command = c; found = e; whole = s.whole; spelled = (validity_is c).1 s.valid }

event_is : (e : ClientEvent) → FitsEvent e → IsLine (event_line e) (line.Event e)
event_is (Sent id command) h = send_line id command (command_is command (command_of command) refl h.1) h.0
event_is (Accepted id answer path) h = accept_line id answer path h.0 h.1

events_read : (n : ℕ) (E0 E : List ClientEvent) (rest : List ℕ) → AllByRecursion FitsEvent E
    → Reaches n (at stage.Events E0 [] []) (flat_map event_line E ++ rest) rest (at stage.Events (E0 ++ E) [] [])
events_read n E0 [] rest h =
    no_line n (at stage.Events E0 [] []) (at stage.Events (E0 ++ []) [] []) rest
    (ap (λ (E : List ClientEvent). at stage.Events E [] []) (sym (append-nil E0)))
events_read n E0 (e ∷ E) rest h =
    let next = at stage.Events (E0 ++ e ∷ []) [] [] in
    reaches_to n (at stage.Events E0 [] []) (at stage.Events ((E0 ++ e ∷ []) ++ E) [] [])
    (at stage.Events (E0 ++ e ∷ E) [] []) (flat_map event_line (e ∷ E) ++ rest) rest
    (first_line n (at stage.Events E0 [] []) next (at stage.Events ((E0 ++ e ∷ []) ++ E) [] []) (event_line e) (flat_map event_line E) rest
    (line_read (event_line e) (flat_map event_line E ++ rest) n (at stage.Events E0 [] []) next (line.Event e)
    (event_is e h.0) refl) (events_read (n + 1) (E0 ++ e ∷ []) E rest h.1))
    (ap (λ (X : List ClientEvent). at stage.Events X [] []) (append_assoc E0 (e ∷ []) E))

-- ---- open requests

-- the stage after some lines of a sort
stage_after : {X : Type 0} → Stage → List X → Stage → Stage
stage_after s [] t = s
stage_after s (x ∷ xs) t = stage_after t xs t

stays_low : {X : Type 0} (most : ℕ) (s t : Stage) (xs : List X) → nat_le (stage_rank s) most ≡ true
    → nat_le (stage_rank t) most ≡ true → nat_le (stage_rank (stage_after s xs t)) most ≡ true
unfolding stage_after
stays_low most s t [] h k = h
stays_low most s t (x ∷ xs) h k = stays_low most t t xs k k

opens_read : (n : ℕ) (s : Stage) (E : List ClientEvent) (U0 U : List Id) (rest : List ℕ) → nat_le (stage_rank s) 1 ≡ true → AllByRecursion FitsId U
    → Reaches n (at s E U0 []) (flat_map open_line U ++ rest) rest (at (stage_after s U stage.Opens) E (U0 ++ U) [])
unfolding stage_after
opens_read n s E U0 [] rest low h = no_line n (at s E U0 []) (at s E (U0 ++ []) []) rest (ap (λ (U : List Id). at s E U []) (sym (append-nil U0)))
opens_read n s E U0 (id ∷ U) rest low h =
    let next = at stage.Opens E (U0 ++ id ∷ []) [] in
    let last = stage_after stage.Opens U stage.Opens in
    reaches_to n (at s E U0 []) (at last E ((U0 ++ id ∷ []) ++ U) []) (at last E (U0 ++ id ∷ U) []) (flat_map open_line (id ∷ U) ++ rest) rest
    (first_line n (at s E U0 []) next (at last E ((U0 ++ id ∷ []) ++ U) []) (open_line id) (flat_map open_line U) rest
    (line_read (open_line id) (flat_map open_line U ++ rest) n (at s E U0 []) next (line.Open id)
    (open_line_is id h.0) (ap (λ (b : Bool). cond b (Some next) None) low)) (opens_read (n + 1) stage.Opens E (U0 ++ id ∷ []) U rest refl h.1))
    (ap (λ (X : List Id). at last E X []) (append_assoc U0 (id ∷ []) U))

-- ---- the history

history_read : (n : ℕ) (s : Stage) (E : List ClientEvent) (U : List Id) (H0 H : List Executed) (place : ℕ) (rest : List ℕ)
    → nat_le (stage_rank s) 2 ≡ true → place ≡ length H0 + 1 → length H0 + length H < 2 ^ 32 → AllByRecursion FitsExecuted H
    → Reaches n (at s E U H0) (at_lines place H ++ rest) rest (at (stage_after s H stage.History) E U (H0 ++ H))
unfolding stage_after
history_read n s E U H0 [] place rest low is few h =
    no_line n (at s E U H0) (at s E U (H0 ++ [])) rest (ap (λ (H : List Executed). at s E U H) (sym (append-nil H0)))
history_read n s E U H0 (e ∷ H) place rest low is few h =
    let next = at stage.History E U (H0 ++ e ∷ []) in
    let last = stage_after stage.History H stage.History in
    let longer : length (H0 ++ e ∷ []) ≡ length H0 + 1 = length-append H0 (e ∷ []) in
    let here : place < 2 ^ 63 = omega (arith, is, few) in
    reaches_to n (at s E U H0) (at last E U ((H0 ++ e ∷ []) ++ H)) (at last E U (H0 ++ e ∷ H)) (at_lines place (e ∷ H) ++ rest) rest
    (first_line n (at s E U H0) next (at last E U ((H0 ++ e ∷ []) ++ H)) (at_line place e) (at_lines (suc place) H) rest
    (line_read (at_line place e) (at_lines (suc place) H ++ rest) n (at s E U H0) next (line.At place e)
    (at_line_is place e (command_is e.command (command_of e.command) refl h.0.command) here h.0.id h.0.answer)
    (ap (λ (b : Bool). cond b (Some next) None) (and_from (nat_le (stage_rank s) 2) (place == length H0 + 1) low (eq-eqb place (length H0 + 1) is))))
    (history_read (n + 1) stage.History E U (H0 ++ e ∷ []) H (suc place) rest refl (omega (arith, is, longer)) (omega (arith, longer, few)) h.1))
    (ap (λ (X : List Executed). at last E U X) (append_assoc H0 (e ∷ []) H))

-- ---- the end

end_read : (n : ℕ) (s : Stage) (E : List ClientEvent) (U : List Id) (H : List Executed) → nat_le (stage_rank s) 2 ≡ true
    → printed_from (tail_in (codes "end\n")) n (at s E U H) (lines_in (codes "end\n")) ≡ Ok (record { events = E; unanswered = U; history = H })
end_read n s E U H low =
    line_read (codes "end\n") [] n (at s E U H) (at stage.Ended E U H) line.End end_line_is
    (ap (λ (b : Bool). cond b (Some (at stage.Ended E U H)) None) low)

pub read_back : (p : Printed) → FitsPrinted p → printed_in (text_of_printed p) ≡ Ok p
unfolding printed_in
read_back p h =
    let U = stage_after stage.Events p.unanswered stage.Opens in
    let low_opens : nat_le (stage_rank U) 2 ≡ true = stays_low 2 stage.Events stage.Opens p.unanswered refl refl in
    let H = stage_after U p.history stage.History in
    let low : nat_le (stage_rank H) 2 ≡ true = stays_low 2 U stage.History p.history low_opens refl in
    let end = codes "end\n" in
    let events = events_read 1 [] p.events (flat_map open_line p.unanswered ++ (at_lines 1 p.history ++ end)) h.events in
    let opens = opens_read events.line stage.Events p.events [] p.unanswered (at_lines 1 p.history ++ end) refl h.unanswered in
    let history = history_read opens.line U p.events p.unanswered [] p.history 1 end low_opens refl (omega (arith, h.few)) h.history in
    events.same ∙ opens.same ∙ history.same ∙ end_read history.line H p.events p.unanswered p.history low
