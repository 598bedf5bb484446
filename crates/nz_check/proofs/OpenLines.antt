-- The open lines' tests are all false, and no line lacks, exactly where they are the requests without acceptance.
use Rattle.std.proofs.Common.{◌≡◌, ℕ, zero, suc, ◌≤◌, false, List, [], ◌∷◌, ◌++◌, length, Some, None}
use Rattle.std.proofs.Common.{refl, sym, ap, ◌∙◌, arith, append_assoc}
use Rattle.std.specs.Prelude.{not, nat_lt, slice_get}
use Rattle.std.specs.Option.{option_eq}
use Rattle.std.proofs.lemmas.List.{append-nil}
use Rattle.std.proofs.lemmas.Option.{none-some, same_Some}
use Rattle.nz_base.specs.Key.{id_eq}
use Rattle.nz_base.specs.declared.key.Id.{Id}
use Rattle.nz_base.proofs.Names.{same_id, id_eq_self}
use Rattle.nz_text.specs.declared.printed.Printed.{Printed}
use Rattle.nz_text.specs.Text.{unanswered_in}
use Rattle.nz_check.specs.declared.verdict.Why.TheVariants.{Open}
use Rattle.nz_check.specs.Checked.{whys, open_why, lacks_open}
use Rattle.nz_check.proofs.Meanings.{same_some, some_same, holds, lets, why_parts, why_none}
use Rattle.nz_check.proofs.Lines.{AreFine, EachFine}
use Rattle.nz_check.proofs.Splits.{get_cut}

get_none : (a : List Id) (n : ℕ) → length a ≤ n → slice_get a n ≡ None
get_none [] n h = refl
get_none (z ∷ a) zero h = absurd (omega (arith, h))
get_none (z ∷ a) (suc n) h = get_none a n (omega (arith, h))

-- the open line is the one of its place
open_is : (p : Printed) (above : List Id) (id : Id) → open_why p above id ≡ None → slice_get (unanswered_in p.events) (length above) ≡ Some id
open_is p above id h =
    let found = option_eq id_eq (slice_get (unanswered_in p.events) (length above)) (Some id) in
    same_some id_eq same_id (slice_get (unanswered_in p.events) (length above)) id (holds found (why_parts (not found) Open None h).0)

open_none : (p : Printed) (above : List Id) (id : Id) → slice_get (unanswered_in p.events) (length above) ≡ Some id → open_why p above id ≡ None
open_none p above id h =
    let found = option_eq id_eq (slice_get (unanswered_in p.events) (length above)) (Some id) in
    why_none (not found) Open None (lets found (some_same id_eq id_eq_self (slice_get (unanswered_in p.events) (length above)) id h)) refl

-- the lines that are left are the requests that are left
rest_is : (p : Printed) (above lines due : List Id) → unanswered_in p.events ≡ above ++ due → AreFine (whys (open_why p) above lines)
    → length due ≤ length lines → lines ≡ due
rest_is p above [] [] e h k = refl
rest_is p above [] (y ∷ due) e h k = absurd (omega (arith, k))
rest_is p above (x ∷ lines) [] e h k =
    absurd (none-some x (sym (get_none above (length above) (omega arith)) ∙ ap (λ (l : List Id). slice_get l (length above)) (sym (e ∙ append-nil above))
    ∙ open_is p above x h.0))
rest_is p above (x ∷ lines) (y ∷ due) e h k =
    let same : y ≡ x = same_Some y x (sym (get_cut above due y) ∙ ap (λ (l : List Id). slice_get l (length above)) (sym e) ∙ open_is p above x h.0) in
    let more : unanswered_in p.events ≡ (above ++ x ∷ []) ++ due =
    e ∙ ap (λ (z : Id). above ++ z ∷ due) same ∙ sym (append_assoc above (x ∷ []) due) in
    ap (λ (l : List Id). x ∷ l) (rest_is p (above ++ x ∷ []) lines due more h.1 (omega (arith, k))) ∙ ap (λ (z : Id). z ∷ due) (sym same)

enough : (a b : ℕ) → nat_lt a b ≡ false → b ≤ a
enough a b h = grind (arith, h)

none_lack : (a : ℕ) → nat_lt a a ≡ false
none_lack a = grind arith

pub open_lines_are : (p : Printed) → AreFine (whys (open_why p) [] p.unanswered) → lacks_open p ≡ false → p.unanswered ≡ unanswered_in p.events
open_lines_are p h k =
    rest_is p [] p.unanswered (unanswered_in p.events) refl h
    (enough (length p.unanswered) (length (unanswered_in p.events)) k)

pub open_lines_are_fine : (p : Printed) → p.unanswered ≡ unanswered_in p.events → EachFine (open_why p) [] p.unanswered
open_lines_are_fine p e a b x cut =
    open_none p a x (ap (λ (l : List Id). slice_get l (length a)) (sym e ∙ cut) ∙ get_cut a b x)

pub open_lines_do_not_lack : (p : Printed) → p.unanswered ≡ unanswered_in p.events → lacks_open p ≡ false
open_lines_do_not_lack p e = ap (λ (l : List Id). nat_lt (length l) (length (unanswered_in p.events))) e ∙ none_lack (length (unanswered_in p.events))
