-- Each value that a store answers was put there by a command, so that a text can say it.
use Rattle.std.proofs.Common.{◌≡◌, ℕ, List, Option, Some, None, subst}
use Rattle.std.proofs.lemmas.Option.{none-some, same_Some}
use Rattle.std.specs.Prelude.{take, slice_get}
use Rattle.std.specs.Option.{option_map}
use Rattle.nz_store.specs.declared.command.Answer.{Answer}
use Rattle.nz_store.specs.declared.command.Answer.TheVariants.{Done, Value, Absent, Differs}
use Rattle.nz_store.specs.Sequence.{answer_after, reply}
use Rattle.nz_store.proofs.Texts.{test_from_value}
use Rattle.nz_store.proofs.ValidAnswers.{IsValidAnswer, answer_is_valid}
use Rattle.nz_text.specs.Fit.{FitsAnswer}

valid_fits : (a : Answer) → IsValidAnswer a → FitsAnswer a
valid_fits Done valid = tt
valid_fits (Value value) valid = test_from_value value valid
valid_fits Absent valid = tt
valid_fits Differs valid = tt

reply_of : (list : List (List ℕ)) (o : Option (List ℕ)) (a : Answer) → option_map (answer_after list) o ≡ Some a → FitsAnswer a
reply_of list None a e = absurd (none-some a e)
reply_of list (Some bytes) a e = subst FitsAnswer (same_Some (answer_after list bytes) a e) (valid_fits (answer_after list bytes) (answer_is_valid list bytes))

pub reply_fits : (list : List (List ℕ)) (i : ℕ) (a : Answer) → reply list i ≡ Some a → FitsAnswer a
reply_fits list i a e = reply_of (take i list) (slice_get list i) a e
