-- Frames can carry each answer of a store that commands made.
use Rattle.std.proofs.Common.{◌≡◌, ℕ, List, [], ◌∷◌, ◌++◌, refl, ap, ◌∙◌, arith}
use Rattle.std.proofs.lemmas.Bool.{le-leb, and_from}
use Rattle.std.proofs.lemmas.List.{map-append}
use Rattle.nz_base.specs.declared.key.Entry.{Entry}
use Rattle.nz_store.specs.declared.command.Answer.{Answer}
use Rattle.nz_store.specs.declared.command.Answer.TheVariants.{Done, Value, Absent, Differs}
use Rattle.nz_store.specs.Entries.{empty}
use Rattle.nz_store.specs.Sequence.{apply_bytes, store_from, store_after, answer_after, replies}
use Rattle.nz_store.proofs.Turns.{store_after-push, replies-push}
use Rattle.nz_store.proofs.ValidAnswers.{IsValidAnswer, answer_is_valid}
use Rattle.nz_msg.specs.Fields.{answer}
use Rattle.nz_machine.specs.rules.Replicas.{commands}

-- a frame carries what is valid
valid_fits : (a : Answer) → IsValidAnswer a → answer.fits a
valid_fits Done valid = ((omega arith, refl), refl)
valid_fits (Value v) valid = ((omega arith, refl), ((omega arith, and_from _ _ (le-leb _ _ valid.some) (le-leb _ _ valid.short)), refl))
valid_fits Absent valid = ((omega arith, refl), refl)
valid_fits Differs valid = ((omega arith, refl), refl)

pub answer_fits : (list : List (List ℕ)) (bytes : List ℕ) → answer.fits (answer_after list bytes)
answer_fits list bytes = valid_fits (answer_after list bytes) (answer_is_valid list bytes)

-- ---- a log with one entry more

pub no_store : store_after [] ≡ empty
unfolding store_from
no_store = refl

pub store_pushed : (log : List Entry) (e : Entry) → store_after (commands (log ++ e ∷ [])) ≡ (apply_bytes (store_after (commands log)) e.command).0
store_pushed log e = ap store_after (map-append (λ (x : Entry). x.command) log (e ∷ [])) ∙ store_after-push (commands log) e.command

pub replies_pushed : (log : List Entry) (e : Entry) → replies (commands (log ++ e ∷ [])) ≡ replies (commands log) ++ answer_after (commands log) e.command ∷ []
replies_pushed log e = ap replies (map-append (λ (x : Entry). x.command) log (e ∷ [])) ∙ replies-push (commands log) e.command
