-- Tests that are true mean what they say.
use Rattle.std.proofs.Common.{◌≡◌, ℕ, Bool, true, false, cond, List, Option, Some, None, refl, sym, ap, ◌∙◌}
use Rattle.std.specs.Prelude.{not}
use Rattle.std.specs.Option.{option_eq}
use Rattle.std.specs.Str.{bytes_eq}
use Rattle.std.proofs.lemmas.Bool.{false≢true}
use Rattle.std.proofs.lemmas.Option.{none-some}
use Rattle.std.proofs.lemmas.Slice.Eq.{bytes_eq-Decides}
use Rattle.nz_store.specs.declared.command.Answer.{Answer}
use Rattle.nz_store.specs.declared.command.Answer.TheVariants.{Done, Value, Absent, Differs}
use Rattle.nz_machine.specs.rules.Quorums.{answer_eq}
use Rattle.nz_check.specs.declared.verdict.Why.{Why}

pub same_bytes : (xs ys : List ℕ) → bytes_eq xs ys ≡ true → xs ≡ ys
same_bytes xs ys h = (bytes_eq-Decides xs ys).0 h

pub bytes_eq_self : (xs : List ℕ) → bytes_eq xs xs ≡ true
bytes_eq_self xs = (bytes_eq-Decides xs xs).1 refl

pub answer_eq_self : (a : Answer) → answer_eq a a ≡ true
answer_eq_self Done = refl
answer_eq_self (Value x) = bytes_eq_self x
answer_eq_self Absent = refl
answer_eq_self Differs = refl

pub same_answer : (a b : Answer) → answer_eq a b ≡ true → a ≡ b
same_answer Done Done h = refl
same_answer (Value x) (Value y) h = ap Value (same_bytes x y h)
same_answer Absent Absent h = refl
same_answer Differs Differs h = refl
same_answer _ _ h = absurd cc

pub same_some : {X : Type 0} (eq : X → X → Bool) → ((a b : X) → eq a b ≡ true → a ≡ b)
    → (o : Option X) (x : X) → option_eq eq o (Some x) ≡ true → o ≡ Some x
same_some eq same None x h = absurd (false≢true h)
same_some eq same (Some y) x h = ap Some (same y x h)

pub some_same : {X : Type 0} (eq : X → X → Bool) → ((a : X) → eq a a ≡ true) → (o : Option X) (x : X) → o ≡ Some x → option_eq eq o (Some x) ≡ true
some_same {X = X} eq itself o x e = ap (λ (o : Option X). option_eq eq o (Some x)) e ∙ itself x

-- What is not false is true.
pub holds : (b : Bool) → not b ≡ false → b ≡ true
holds true h = refl
holds false h = sym h

-- What is true is not refused.
pub lets : (b : Bool) → b ≡ true → not b ≡ false
lets b h = ap not h

-- a reason is none only where its test is false, and those after it are none
pub why_parts : (b : Bool) (w : Why) (o : Option Why) → cond b (Some w) o ≡ None → (b ≡ false) × (o ≡ None)
why_parts true w o e = absurd (none-some w (sym e))
why_parts false w o e = (refl, e)

pub why_none : (b : Bool) (w : Why) (o : Option Why) → b ≡ false → o ≡ None → cond b (Some w) o ≡ None
why_none b w o h e = ap (λ (b : Bool). cond b (Some w) o) h ∙ e

-- a test that is false gives way to the tests after it, and one that is true is the reason
pub why_skips : (b : Bool) (w : Why) (o r : Option Why) → b ≡ false → o ≡ r → cond b (Some w) o ≡ r
why_skips b w o r h e = ap (λ (b : Bool). cond b (Some w) o) h ∙ e

pub why_is : (b : Bool) (w : Why) (o : Option Why) → b ≡ true → cond b (Some w) o ≡ Some w
why_is b w o h = ap (λ (b : Bool). cond b (Some w) o) h

-- What is false passes the test that it is not so.
pub fails : (b : Bool) → b ≡ false → not b ≡ true
fails b h = ap not h
