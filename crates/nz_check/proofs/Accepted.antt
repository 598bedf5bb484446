-- The text of a run with one history is checked.
use Rattle.std.proofs.Common.{◌≡◌, ℕ, suc, ◌≤◌, Bool, cond, ◌||◌, List, [], ◌∷◌, ◌++◌, length, map, Option, Some}
use Rattle.std.proofs.Common.{refl, sym, ap, subst, ◌∙◌, arith, append_assoc, length-append}
use Rattle.std.specs.Prelude.{slice_get}
use Rattle.std.specs.Option.{option_map}
use Rattle.std.proofs.lemmas.List.{map-append}
use Rattle.nz_base.specs.Key.{id_eq, id_of}
use Rattle.nz_base.specs.Log.{keys_of, has_id, HaveOwnIds}
use Rattle.nz_base.specs.declared.key.Id.{Id}
use Rattle.nz_base.specs.declared.key.Entry.{Entry}
use Rattle.nz_store.specs.declared.command.Answer.{Answer}
use Rattle.nz_store.specs.Sequence.{apply_bytes, store_from, store_after, answer_after, reply, replies_from, replies}
use Rattle.nz_store.proofs.Turns.{store_after-push}
use Rattle.nz_log.specs.Places.{place_of}
use Rattle.nz_machine.specs.declared.event.Record.{Record}
use Rattle.nz_machine.specs.declared.journal.Executed.{Executed}
use Rattle.nz_machine.specs.rules.State.{Group}
use Rattle.nz_machine.specs.rules.Replicas.{commands}
use Rattle.nz_machine.specs.runs.World.{Has, World}
use Rattle.nz_machine.specs.declared.client_event.ClientEvent.{ClientEvent}
use Rattle.nz_machine.specs.declared.client_event.ClientEvent.TheVariants.{Sent}
use Rattle.nz_machine.specs.runs.Events.{events}
use Rattle.nz_machine.specs.runs.History.{history}
use Rattle.nz_machine.specs.runs.OneHistory.{Lin}
use Rattle.nz_machine.specs.journals.Journals.{executed_if_answered, executed_from, executed_entries}
use Rattle.nz_laws_commit.proofs.Counts.{are_once}
use Rattle.nz_text.specs.Text.{printed_of_run, text}
use Rattle.nz_check.specs.declared.limit.TheConstants.{MAX_PRINTED}
use Rattle.nz_check.specs.declared.verdict.Verdict.TheVariants.{Yes}
use Rattle.nz_check.specs.Checked.{commands_of, judged, checked}
use Rattle.nz_check.specs.Exact.{entries_of, AreInForm, IsChecked}
use Rattle.nz_check.proofs.Splits.{image_of_has, get_cut, take_cut}
use Rattle.nz_check.proofs.Whole.{judged_of_short, yes_of_checked}
use Rattle.nz_check.proofs.TextsOfRuns.{texts_are_read}

-- ---- one history reads ids and commands, and no deadlines

plain : Entry → Entry
plain e = record { key = record { deadline = 0; client = e.key.client; num = e.key.num }; command = e.command }

plain_has : (H : List Entry) (id : Id) → has_id (keys_of (map plain H)) id ≡ has_id (keys_of H) id
unfolding plain
plain_has [] id = refl
plain_has (e ∷ H) id = ap (λ (b : Bool). id_eq id (id_of e.key) || b) (plain_has H id)

plain_own : (H : List Entry) → HaveOwnIds (keys_of H) → HaveOwnIds (keys_of (map plain H))
unfolding plain
plain_own [] h = tt
plain_own (e ∷ H) h = (plain_has H (id_of e.key) ∙ h.0, plain_own H h.1)

plain_place : (H : List Entry) (id : Id) → place_of (map plain H) id ≡ place_of H id
unfolding plain
plain_place [] id = refl
plain_place (e ∷ H) id = ap (λ (o : Option ℕ). cond (id_eq id (id_of e.key)) (Some 0) (option_map suc o)) (plain_place H id)

plain_commands : (H : List Entry) → commands (map plain H) ≡ commands H
unfolding plain
plain_commands [] = refl
plain_commands (e ∷ H) = ap (λ (l : List (List ℕ)). e.command ∷ l) (plain_commands H)

plain_lin : (E : List ClientEvent) (H : List Entry) → Lin E H → Lin E (map plain H)
unfolding plain
plain_lin E H lin = record {
  once = plain_own H lin.once;
  asked = λ e h.
      let i = image_of_has plain H e h in
      subst (λ (e : Entry). Has E (Sent (id_of e.key) e.command)) i.is (lin.asked i.item i.there);
  answered = λ id answer path h.
      let t = lin.answered id answer path h in
      record {
        place = t.place;
        place_is = plain_place H id ∙ t.place_is;
        answered = ap (λ (l : List (List ℕ)). reply l t.place) (plain_commands H) ∙ t.answered;
      };
  in_order = λ a b answer path command h e there is.
      let i = image_of_has plain H e there in
      let t = lin.in_order a b answer path command h i.item i.there (ap (λ (e : Entry). id_of e.key) i.is ∙ is) in
      record {
        first = t.first;
        second = t.second;
        place_of_first = plain_place H a ∙ t.place_of_first;
        place_of_second = plain_place H b ∙ t.place_of_second;
        in_order = t.in_order;
      };
}

-- ---- the entries of a history with the answers of one store

-- the entries that are left, after those before
executions : List Entry → List Entry → List Executed
executions before [] = []
executions before (e ∷ rest) =
    record { id = id_of e.key; command = e.command; answer = answer_after (commands before) e.command } ∷ executions (before ++ e ∷ []) rest

length_commands : (H : List Entry) → length (commands H) ≡ length H
length_commands [] = refl
length_commands (e ∷ H) = ap suc (length_commands H)

reply_now : (a b : List Entry) (e : Entry) → reply (commands (a ++ e ∷ b)) (length a) ≡ Some (answer_after (commands a) e.command)
reply_now a b e =
    let whole = map-append (λ (x : Entry). x.command) a (e ∷ b) in
    let long : length a ≡ length (commands a) = sym (length_commands a) in
    ap (λ (l : List (List ℕ)). reply l (length a)) whole ∙ ap (reply (commands a ++ e.command ∷ commands b)) long
    ∙ ap (λ (l : List (List ℕ)). option_map (answer_after l) (slice_get (commands a ++ e.command ∷ commands b) (length (commands a))))
    (take_cut (commands a) (e.command ∷ commands b))
    ∙ ap (option_map (answer_after (commands a))) (get_cut (commands a) (commands b) e.command)

all_executions : (H before rest : List Entry) → H ≡ before ++ rest → executed_from H (length before) rest ≡ executions before rest
unfolding executions
all_executions H before [] is = refl
all_executions H before (e ∷ rest) is =
    let here : reply (commands H) (length before) ≡ Some (answer_after (commands before) e.command) =
    ap (λ (l : List Entry). reply (commands l) (length before)) is ∙ reply_now before rest e in
    let long : suc (length before) ≡ length (before ++ e ∷ []) = let all = length-append before (e ∷ []) in omega (arith, all) in
    ap (λ (o : Option Answer). executed_if_answered e o ++ executed_from H (suc (length before)) rest) here
    ∙ ap (λ (n : ℕ). record { id = id_of e.key; command = e.command; answer = answer_after (commands before) e.command } ∷ executed_from H n rest) long
    ∙ ap (λ (l : List Executed). record { id = id_of e.key; command = e.command; answer = answer_after (commands before) e.command } ∷ l)
    (all_executions H (before ++ e ∷ []) rest (is ∙ sym (append_assoc before (e ∷ []) rest)))

execution_commands : (before rest : List Entry) → commands_of (executions before rest) ≡ commands rest
unfolding executions
execution_commands before [] = refl
execution_commands before (e ∷ rest) = ap (λ (l : List (List ℕ)). e.command ∷ l) (execution_commands (before ++ e ∷ []) rest)

execution_entries : (before rest : List Entry) → entries_of (executions before rest) ≡ map plain rest
unfolding executions plain
execution_entries before [] = refl
execution_entries before (e ∷ rest) = ap (λ (l : List Entry). plain e ∷ l) (execution_entries (before ++ e ∷ []) rest)

execution_answers : (before rest : List Entry) → map (λ x. x.answer) (executions before rest) ≡ replies_from (store_after (commands before)) (commands rest)
unfolding executions replies_from
execution_answers before [] = refl
execution_answers before (e ∷ rest) =
    let next : store_after (commands (before ++ e ∷ [])) ≡ (apply_bytes (store_after (commands before)) e.command).0 =
    ap store_after (map-append (λ (x : Entry). x.command) before (e ∷ [])) ∙ store_after-push (commands before) e.command in
    ap (λ (l : List Answer). answer_after (commands before) e.command ∷ l)
    (execution_answers (before ++ e ∷ []) rest ∙ ap (λ s. replies_from s (commands rest)) next)

-- ---- runs

run_in_form : (g : Group) (J : List Record) → AreInForm (events g J)
run_in_form g J = let t = are_once g J in record { sent = t.sent; accepted = t.accepted; in_order = t.in_order }

run_is_checked : (g : Group) (J : List Record) → Lin (events g J) (history g J) → IsChecked (printed_of_run g J)
unfolding store_from
run_is_checked g J lin =
    let H = history g J in
    let same : executed_entries H ≡ executions [] H = all_executions H [] H refl in
    record {
      in_form = run_in_form g J;
      open_lines = refl;
      answers =
          ap (map (λ (x : Executed). x.answer)) same ∙ execution_answers [] H
          ∙ ap replies (sym (execution_commands [] H) ∙ ap commands_of (sym same));
      one_history =
          subst (Lin (events g J)) (sym (execution_entries [] H) ∙ ap entries_of (sym same)) (plain_lin (events g J) H lin);
    }

pub run_accepted : (g : Group) (J : List Record) → World g J → Lin (events g J) (history g J) → length (text g J) ≤ MAX_PRINTED → checked (text g J) ≡ Yes
run_accepted g J w lin short =
    judged_of_short (text g J) short ∙ ap judged (texts_are_read g J w) ∙ yes_of_checked (printed_of_run g J) (run_is_checked g J lin)
