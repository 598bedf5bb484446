-- The executed entries of a log that grows.
use Rattle.std.proofs.Common.{◌≡◌, ℕ, zero, suc, ◌+◌, ◌≤◌, List, [], ◌∷◌, ◌++◌, length, Option, Some, refl, sym, ap, ◌∙◌, arith, append-nil, append_assoc}
use Rattle.std.proofs.lemmas.List.{map-append, length-map}
use Rattle.std.specs.Prelude.{slice_get}
use Rattle.nz_base.specs.declared.key.Entry.{Entry}
use Rattle.nz_base.specs.Key.{id_of}
use Rattle.nz_store.specs.Sequence.{reply, replies, answer_after}
use Rattle.nz_store.proofs.Turns.{reply-append, replies-push, slice_get-replies, length-replies_from}
use Rattle.nz_store.specs.Entries.{empty}
use Rattle.nz_store.specs.declared.command.Answer.{Answer}
use Rattle.nz_machine.specs.declared.journal.Executed.{Executed}
use Rattle.nz_machine.specs.rules.Replicas.{commands}
use Rattle.nz_machine.specs.journals.Journals.{executed_if_answered, executed_from, executed_entries}

commands_of : (es : List Entry) (e : Entry) → commands (es ++ e ∷ []) ≡ commands es ++ e.command ∷ []
commands_of es e = map-append (λ (x : Entry). x.command) es (e ∷ [])

-- what is answered in a longer list
older_same : (H : List Entry) (e : Entry) (place : ℕ) (es : List Entry) → place + length es ≤ length H
    → executed_from (H ++ e ∷ []) place es ≡ executed_from H place es
older_same H e place [] le = refl
older_same H e place (x ∷ es) le =
    let long : length (commands H) ≡ length H = length-map H (λ (y : Entry). y.command) in
    let same : reply (commands (H ++ e ∷ [])) place ≡ reply (commands H) place =
    ap (λ (l : List (List ℕ)). reply l place) (commands_of H e) ∙ reply-append (commands H) (e.command ∷ []) place (omega (arith, le, long)) in
    ap (λ (l : List Executed). executed_if_answered x (reply (commands (H ++ e ∷ [])) place) ++ l)
    (older_same H e (suc place) es (omega (arith, le)))
    ∙ ap (λ (o : Option Answer). executed_if_answered x o ++ executed_from H (suc place) es) same

split_from : (H : List Entry) (place : ℕ) (es : List Entry) (e : Entry)
    → executed_from H place (es ++ e ∷ []) ≡ executed_from H place es ++ executed_if_answered e (reply (commands H) (place + length es))
split_from H place [] e = let at : place + 0 ≡ place = omega arith in
    append-nil (executed_if_answered e (reply (commands H) place)) ∙ ap (λ k. executed_if_answered e (reply (commands H) k)) (sym at)
split_from H place (x ∷ es) e =
    let at : suc place + length es ≡ place + suc (length es) = omega arith in
    ap (λ (l : List Executed). executed_if_answered x (reply (commands H) place) ++ l)
    (split_from H (suc place) es e ∙ ap (λ k. executed_from H (suc place) es ++ executed_if_answered e (reply (commands H) k)) at)
    ∙ sym (append_assoc (executed_if_answered x (reply (commands H) place)) (executed_from H (suc place) es)
    (executed_if_answered e (reply (commands H) (place + suc (length es)))))

last_reply : (es : List Entry) (e : Entry) → reply (commands (es ++ e ∷ [])) (length es) ≡ Some (answer_after (commands es) e.command)
last_reply es e =
    let long : length (replies (commands es)) ≡ length es = replies_long es in
    sym (slice_get-replies (commands (es ++ e ∷ [])) (length es))
    ∙ ap (λ (l : List Answer). slice_get l (length es)) (ap replies (commands_of es e) ∙ replies-push (commands es) e.command)
    ∙ at_end (replies (commands es)) (answer_after (commands es) e.command) (length es) long
  where
    at_end : {X : Type 0} (xs : List X) (x : X) (n : ℕ) → length xs ≡ n → slice_get (xs ++ x ∷ []) n ≡ Some x
    at_end [] x zero e = refl
    at_end [] x (suc n) e = absurd (omega (arith, e))
    at_end (y ∷ xs) x zero e = absurd (omega (arith, e))
    at_end (y ∷ xs) x (suc n) e = at_end xs x n (omega (arith, e))

    replies_long : (es : List Entry) → length (replies (commands es)) ≡ length es
    replies_long es = length-replies_from empty (commands es) ∙ length-map es (λ (y : Entry). y.command)

-- one more entry is executed
pub executed_then : (es : List Entry) (e : Entry)
    → executed_entries (es ++ e ∷ [])
    ≡ executed_entries es ++ record { id = id_of e.key; command = e.command; answer = answer_after (commands es) e.command } ∷ []
executed_then es e =
    let start : 0 + length es ≡ length es = omega arith in
    split_from (es ++ e ∷ []) 0 es e ∙ ap (λ n. executed_from (es ++ e ∷ []) 0 es ++ executed_if_answered e (reply (commands (es ++ e ∷ [])) n)) start
    ∙ ap (λ (l : List Executed). l ++ executed_if_answered e (reply (commands (es ++ e ∷ [])) (length es))) (older_same es e 0 es (omega arith))
    ∙ ap (λ (o : Option Answer). executed_entries es ++ executed_if_answered e o) (last_reply es e)

-- so is a list that has it
pub executed_more : (es : List Entry) (e : Entry) (done : List Executed) (x : Executed) → done ≡ executed_entries es
    → x.id ≡ id_of e.key → x.command ≡ e.command → x.answer ≡ answer_after (commands es) e.command
    → done ++ x ∷ [] ≡ executed_entries (es ++ e ∷ [])
executed_more es e done x so_far id command answer =
    let one : x ≡ record { id = id_of e.key; command = e.command; answer = answer_after (commands es) e.command } =
    λ i. record { id = id i; command = command i; answer = answer i } in
    ap (λ (l : List Executed). l ++ x ∷ []) so_far ∙ ap (λ (y : Executed). executed_entries es ++ y ∷ []) one ∙ sym (executed_then es e)
