-- The tests of keys and values say what they name.
use Rattle.std.proofs.Common.{◌≡◌, ℕ, ◌≤◌, Bool, true, false, ◌&&◌, not, List, length, Option, Some, None, refl, ◌↔◌, IsTrue}
use Rattle.std.specs.Prelude.{nat_le}
use Rattle.std.specs.Bool.{Decides}
use Rattle.std.specs.List.{list_all, AllPass}
use Rattle.std.specs.Str.{bytes_eq}
use Rattle.std.proofs.lemmas.Bool.{leb-true, le-leb, and_parts, and_from}
use Rattle.std.proofs.lemmas.Slice.Eq.{bytes_eq-Decides}
use Rattle.std.proofs.lemmas.List.Sums.{AllPass-from_list_all, list_all-from_AllPass}
use Rattle.nz_store.specs.declared.command.Command.{Command}
use Rattle.nz_store.specs.declared.command.Command.TheVariants.{Put, Get, Del, Cas}
use Rattle.nz_store.specs.Grammar.{is_graphic, dash, IsKey, IsValue, IsOptionalValue, IsValidCommand}
use Rattle.nz_store.specs.Reading.{is_text, is_key_text, is_value_text, is_choice_text, has_spelling}

record IsText (most : ℕ) (bytes : List ℕ) : Type 0 where
  some : 1 ≤ length bytes
  short : length bytes ≤ most
  graphic : AllPass is_graphic bytes

text_from_test : (most : ℕ) (bytes : List ℕ) → is_text most bytes ≡ true → IsText most bytes
text_from_test most bytes e =
    let outer = and_parts (nat_le 1 (length bytes) && nat_le (length bytes) most) (list_all is_graphic bytes) e in
    let inner = and_parts (nat_le 1 (length bytes)) (nat_le (length bytes) most) outer.0 in
    record { some = leb-true _ _ inner.0; short = leb-true _ _ inner.1; graphic = AllPass-from_list_all is_graphic bytes outer.1 }

test_from_text : (most : ℕ) (bytes : List ℕ) → 1 ≤ length bytes → length bytes ≤ most → AllPass is_graphic bytes → is_text most bytes ≡ true
test_from_text most bytes some short graphic =
    and_from (nat_le 1 (length bytes) && nat_le (length bytes) most) (list_all is_graphic bytes)
    (and_from (nat_le 1 (length bytes)) (nat_le (length bytes) most) (le-leb _ _ some) (le-leb _ _ short))
    (list_all-from_AllPass is_graphic bytes graphic)

pub key_from_test : (bytes : List ℕ) → is_key_text bytes ≡ true → IsKey bytes
key_from_test bytes e = let t = text_from_test 32 bytes e in record { some = t.some; short = t.short; graphic = t.graphic }

pub test_from_key : (bytes : List ℕ) → IsKey bytes → is_key_text bytes ≡ true
test_from_key bytes h = test_from_text 32 bytes h.some h.short h.graphic

differs : (b : Bool) (P : Type 0) → Decides b P → not b ≡ true → ¬ P
differs true P d e p = absurd cc
differs false P d e p = let h : false ≡ true = d.1 p in absurd cc

is_not : (b : Bool) (P : Type 0) → Decides b P → ¬ P → not b ≡ true
is_not true P d n = absurd (n (d.0 refl))
is_not false P d n = refl

pub value_from_test : (bytes : List ℕ) → is_value_text bytes ≡ true → IsValue bytes
value_from_test bytes e =
    let parts = and_parts (is_text 256 bytes) (not (bytes_eq bytes dash)) e in
    let t = text_from_test 256 bytes parts.0 in
    record { some = t.some; short = t.short; graphic = t.graphic; other = differs (bytes_eq bytes dash) (bytes ≡ dash) (bytes_eq-Decides bytes dash) parts.1 }

pub test_from_value : (bytes : List ℕ) → IsValue bytes → is_value_text bytes ≡ true
test_from_value bytes h =
    and_from (is_text 256 bytes) (not (bytes_eq bytes dash)) (test_from_text 256 bytes h.some h.short h.graphic)
    (is_not (bytes_eq bytes dash) (bytes ≡ dash) (bytes_eq-Decides bytes dash) h.other)

choice_from_test : (value : Option (List ℕ)) → is_choice_text value ≡ true → IsOptionalValue value
choice_from_test None e = tt
choice_from_test (Some value) e = value_from_test value e

test_from_choice : (value : Option (List ℕ)) → IsOptionalValue value → is_choice_text value ≡ true
test_from_choice None h = refl
test_from_choice (Some value) h = test_from_value value h

-- the test of a command holds exactly for those that have a spelling
pub validity_is : (c : Command) → IsTrue (has_spelling c) ↔ IsValidCommand c
validity_is (Put key value) = (
  (λ e. let p = and_parts (is_key_text key) (is_value_text value) e in (key_from_test key p.0, value_from_test value p.1)),
  (λ h. and_from (is_key_text key) (is_value_text value) (test_from_key key h.0) (test_from_value value h.1)),
)
validity_is (Get key) = (key_from_test key, test_from_key key)
validity_is (Del key) = (key_from_test key, test_from_key key)
validity_is (Cas key old new) = (
  (λ e.
      let p = and_parts (is_key_text key && is_choice_text old) (is_choice_text new) e in
      let q = and_parts (is_key_text key) (is_choice_text old) p.0 in
      (key_from_test key q.0, choice_from_test old q.1, choice_from_test new p.1)),
  (λ h.
      and_from (is_key_text key && is_choice_text old) (is_choice_text new)
      (and_from (is_key_text key) (is_choice_text old) (test_from_key key h.0) (test_from_choice old h.1)) (test_from_choice new h.2)),
)
