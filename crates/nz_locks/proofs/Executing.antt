-- A history that one store executes command by command.
use Rattle.std.proofs.Common.{◌≡◌, ◌<◌, ℕ, zero, suc, List, [], ◌∷◌, ◌++◌, length, take, Option, Some, refl, sym, ap, ◌∙◌, append_assoc, length-append, arith}
use Rattle.std.specs.Prelude.{slice_get}
use Rattle.std.specs.Option.{option_map}
use Rattle.std.proofs.lemmas.Option.{none-some}
use Rattle.std.proofs.Math.Seq.{take-append_seam}
use Rattle.nz_base.specs.Key.{id_of}
use Rattle.nz_base.specs.declared.key.Entry.{Entry}
use Rattle.nz_store.specs.declared.command.Answer.{Answer}
use Rattle.nz_store.specs.Entries.{Entries, empty}
use Rattle.nz_store.specs.Sequence.{apply_bytes, store_from, store_after, answer_after, reply}
use Rattle.nz_store.proofs.Turns.{store_after-push}
use Rattle.nz_machine.specs.declared.journal.Executed.{Executed}
use Rattle.nz_machine.specs.journals.Journals.{executed_if_answered, executed_from, executed_entries}
use Rattle.nz_machine.specs.rules.Replicas.{commands}

-- an entry that the store executes
abbrev pub executed : Entries → Entry → Executed
executed s e = record { id = id_of e.key; command = e.command; answer = (apply_bytes s e.command).1 }

-- the entries, each executed by the store that those before it left
abbrev pub executed_along : Entries → List Entry → List Executed
executed_along s [] = []
executed_along s (e ∷ es) = executed s e ∷ executed_along (apply_bytes s e.command).0 es

get_seam : {X : Type 0} (xs : List X) (x : X) (ys : List X) → slice_get (xs ++ x ∷ ys) (length xs) ≡ Some x
get_seam [] x ys = refl
get_seam (y ∷ xs) x ys = get_seam xs x ys

commands_append : (P es : List Entry) → commands (P ++ es) ≡ commands P ++ commands es
commands_append [] es = refl
commands_append (e ∷ P) es = ap (λ (l : List (List ℕ)). e.command ∷ l) (commands_append P es)

length-commands : (P : List Entry) → length (commands P) ≡ length P
length-commands [] = refl
length-commands (e ∷ P) = ap suc (length-commands P)

reply_seam : (xs : List (List ℕ)) (x : List ℕ) (ys : List (List ℕ)) → reply (xs ++ x ∷ ys) (length xs) ≡ Some (answer_after xs x)
reply_seam xs x ys =
    ap (λ (l : List (List ℕ)). option_map (answer_after l) (slice_get (xs ++ x ∷ ys) (length xs))) (take-append_seam xs (x ∷ ys))
    ∙ ap (option_map (answer_after xs)) (get_seam xs x ys)

next_reply : (P : List Entry) (e : Entry) (es : List Entry) → reply (commands (P ++ e ∷ es)) (length P) ≡ Some (answer_after (commands P) e.command)
next_reply P e es =
    ap (λ (l : List (List ℕ)). reply l (length P)) (commands_append P (e ∷ es))
    ∙ ap (reply (commands P ++ e.command ∷ commands es)) (sym (length-commands P)) ∙ reply_seam (commands P) e.command (commands es)

next_store : (P : List Entry) (e : Entry) → store_after (commands (P ++ e ∷ [])) ≡ (apply_bytes (store_after (commands P)) e.command).0
next_store P e = ap store_after (commands_append P (e ∷ [])) ∙ store_after-push (commands P) e.command

along : (P es : List Entry) → executed_from (P ++ es) (length P) es ≡ executed_along (store_after (commands P)) es
along P [] = refl
along P (e ∷ es) =
    let more = append_assoc P (e ∷ []) es in
    let count : length (P ++ e ∷ []) ≡ suc (length P) = length-append P (e ∷ []) ∙ omega arith in
    ap (λ (o : Option Answer). executed_if_answered e o ++ executed_from (P ++ e ∷ es) (suc (length P)) es) (next_reply P e es)
    ∙ ap (λ (l : List Executed). executed (store_after (commands P)) e ∷ l)
    (ap (λ (l : List Entry). executed_from l (suc (length P)) es) (sym more)
    ∙ ap (λ (n : ℕ). executed_from ((P ++ e ∷ []) ++ es) n es) (sym count) ∙ along (P ++ e ∷ []) es
    ∙ ap (λ (s : Entries). executed_along s es) (next_store P e))

pub executed_is : (H : List Entry) → executed_entries H ≡ executed_along empty H
unfolding store_from
executed_is H = along [] H

-- ---- places

-- what is executed at a place
pub at_place : (s : Entries) (es : List Entry) (i : ℕ) (e : Entry) → slice_get es i ≡ Some e
    → slice_get (executed_along s es) i ≡ Some (executed (store_from s (commands (take i es))) e)
unfolding store_from
at_place s [] i e is = absurd (none-some e is)
at_place s (x ∷ es) zero e is = ap (option_map (executed s)) is
at_place s (x ∷ es) (suc i) e is = at_place (apply_bytes s x.command).0 es i e is

-- of a prefix
pub record IsAtBefore (X : List Executed) (i most : ℕ) (x : Executed) : Type 0 where
  pub below : i < most
  pub there : slice_get X i ≡ Some x

next_at : (X : List Executed) (y : Executed) (i most : ℕ) (x : Executed) → IsAtBefore X i most x → IsAtBefore (y ∷ X) (suc i) (suc most) x
next_at X y i most x h = let below = h.below in record { below = omega (arith, below); there = h.there }

pub in_prefix : (s : Entries) (es : List Entry) (most i : ℕ) (x : Executed) → slice_get (executed_along s (take most es)) i ≡ Some x
    → IsAtBefore (executed_along s es) i most x
in_prefix s [] zero i x is = absurd (none-some x is)
in_prefix s [] (suc most) i x is = absurd (none-some x is)
in_prefix s (e ∷ es) zero i x is = absurd (none-some x is)
in_prefix s (e ∷ es) (suc most) zero x is = record { below = omega arith; there = is }
in_prefix s (e ∷ es) (suc most) (suc i) x is =
    next_at (executed_along (apply_bytes s e.command).0 es) (executed s e) i most x (in_prefix (apply_bytes s e.command).0 es most i x is)

pub taken_get : {X : Type 0} (xs : List X) (most i : ℕ) (x : X) → slice_get xs i ≡ Some x → i < most → slice_get (take most xs) i ≡ Some x
taken_get [] most i x is lt = absurd (none-some x is)
taken_get (y ∷ xs) zero i x is lt = absurd (omega (arith, lt))
taken_get (y ∷ xs) (suc most) zero x is lt = is
taken_get (y ∷ xs) (suc most) (suc i) x is lt = taken_get xs most i x is (omega (arith, lt))
