-- Each word and each line that is written is read again.
use Rattle.std.proofs.Common.{◌≡◌, ℕ, zero, suc, ◌<◌, ◌≤◌, ◌^◌, Bool, true, false, cond, List, []}
use Rattle.std.proofs.Common.{◌∷◌, Option, Some, None, refl, ap, ◌∙◌, arith, length, get_or}
use Rattle.std.specs.Prelude.{◌==◌, ◌&&◌, nat_le, not, codes}
use Rattle.std.specs.List.{list_all}
use Rattle.std.specs.Char.{is_ascii_digit}
use Rattle.std.specs.Str.{bytes_eq}
use Rattle.std.specs.Fmt.{decimal}
use Rattle.std.proofs.lemmas.Bool.{and_from, and_parts, le-leb, not-true}
use Rattle.std.proofs.lemmas.Fmt.{decimal_digit, decimal_nonempty, first_decimal, length-decimal-le, digits_value-decimal}
use Rattle.nz_base.specs.declared.actor.Actor.{Actor}
use Rattle.nz_base.specs.declared.actor.Actor.TheVariants as actor
use Rattle.nz_base.specs.Actor as actor_words
use Rattle.nz_store.specs.Grammar.{is_graphic}
use Rattle.nz_store.specs.Reading.{is_text, is_key_text, is_value_text}
use Rattle.nz_script.specs.declared.message.TheConstants.{KIND_COUNT}
use Rattle.nz_script.specs.declared.line_forms.Form.{Form}
use Rattle.nz_script.specs.declared.line_forms.Form.TheVariants as form
use Rattle.nz_script.specs.declared.word.Word.{Word}
use Rattle.nz_script.specs.declared.word.Word.TheVariants.{Number, Units, Named, Everyone, Kind, Text, Nothing}
use Rattle.nz_script.specs.Bytes.{is_numeral, is_without_leading_zero, number_of}
use Rattle.nz_script.specs.Messages.{kind_named, name_of}
use Rattle.nz_script.specs.Forms.{word_of, number_word, units_word, actor_named, actor_word, actors_word, actor_of_letter, ◌>>=◌}
use Rattle.nz_script.specs.Texts.{word_text, actor_text}
use Rattle.nz_script.proofs.Numerals.{own}
use Rattle.nz_script.proofs.Drawing.{decimal_digits, decimal_graphic}

-- ---- numerals

no_zero_first : (l : List ℕ) → 48 < get_or l 0 0 → is_without_leading_zero l ≡ true
no_zero_first [] h = refl
no_zero_first (d ∷ []) h = refl
no_zero_first (d ∷ e ∷ ds) h = grind (arith, h)

decimal_leads : (n : ℕ) → n < 2 ^ 64 → is_without_leading_zero (decimal n) ≡ true
decimal_leads zero h = ap is_without_leading_zero (decimal_digit 0 (omega arith))
decimal_leads (suc n) h = no_zero_first (decimal (suc n)) (first_decimal (suc n) (omega arith) h)

numeral_decimal : (n : ℕ) → n < 2 ^ 63 → is_numeral (decimal n) ≡ true
numeral_decimal n h =
    let small : n < 2 ^ 64 = omega (arith, h) in
    and_from _ _ (and_from _ _ (le-leb 1 (length (decimal n)) (decimal_nonempty n small))
    (le-leb (length (decimal n)) 19 (length-decimal-le 19 n (omega arith) (omega (arith, h)) small)))
    (and_from _ _ (decimal_digits n small) (decimal_leads n small))

pub number_of-decimal : (n : ℕ) → n < 2 ^ 63 → number_of (decimal n) ≡ Some n
unfolding number_of
number_of-decimal n h = rw (numeral_decimal n h) (ap (λ (m : ℕ). Some m) (digits_value-decimal own n (omega (arith, h))))

-- ---- words

-- some bytes, each of which may be in a word
pub record IsWord (bytes : List ℕ) : Type 0 where
  pub some : 0 < length bytes
  pub graphic : list_all is_graphic bytes ≡ true

-- the word is read again where this form is expected
pub record IsReadAs (f : Form) (w : Word) : Type 0 where
  pub read : word_of f (word_text w) ≡ Some w
  pub word : IsWord (word_text w)

decimal_word : (n : ℕ) → n < 2 ^ 63 → IsWord (decimal n)
decimal_word n h = record { some = decimal_nonempty n (omega (arith, h)); graphic = decimal_graphic n (omega (arith, h)) }

lettered_word : (letter n : ℕ) → is_graphic letter ≡ true → n < 2 ^ 63 → IsWord (letter ∷ decimal n)
lettered_word letter n g h = record { some = omega arith; graphic = and_from _ _ g (decimal_graphic n (omega (arith, h))) }

pub number_read : (least most n : ℕ) → n < 2 ^ 63 → IsReadAs (form.Number least most) (Number n)
unfolding number_word
number_read least most n h = record { read = ap (λ (o : Option ℕ). o >>= λ m. Some (Number m)) (number_of-decimal n h); word = decimal_word n h }

no_minus : (d : ℕ) → is_ascii_digit d ≡ true → (d == 45) ≡ false
no_minus d e = grind (arith, e)

digits_as_units : (l : List ℕ) → 0 < length l → list_all is_ascii_digit l ≡ true → units_word l ≡ (number_of l >>= λ n. Some (Units false n))
unfolding units_word
digits_as_units [] h e = absurd (omega (arith, h))
digits_as_units (d ∷ ds) h e = rw (no_minus d (and_parts (is_ascii_digit d) (list_all is_ascii_digit ds) e).0) refl

pub units_read : (back : Bool) (n : ℕ) → n < 2 ^ 63 → IsReadAs form.Units (Units back n)
unfolding units_word
units_read true n h = record { read = ap (λ (o : Option ℕ). o >>= λ m. Some (Units true m)) (number_of-decimal n h); word = lettered_word 45 n refl h }
units_read false n h = record {
  read =
      digits_as_units (decimal n) (decimal_nonempty n (omega (arith, h))) (decimal_digits n (omega (arith, h)))
      ∙ ap (λ (o : Option ℕ). o >>= λ m. Some (Units false m)) (number_of-decimal n h);
  word = decimal_word n h;
}

actor_is_word : (a : Actor) → actor_words.number_of a ≤ 99 → IsWord (actor_text a)
actor_is_word (actor.Replica n) h = lettered_word 114 n refl (omega (arith, h))
actor_is_word (actor.Proxy n) h = lettered_word 112 n refl (omega (arith, h))
actor_is_word (actor.Client n) h = lettered_word 99 n refl (omega (arith, h))

number_named : (letter n : ℕ) → n ≤ 99 → actor_named (letter ∷ decimal n) ≡ actor_of_letter letter n
unfolding actor_named
number_named letter n h =
    ap (λ (o : Option ℕ). o >>= λ m. cond (nat_le m 99) (actor_of_letter letter m) None)
    (number_of-decimal n (omega (arith, h))) ∙ ap (λ (b : Bool). cond b (actor_of_letter letter n) None) (le-leb n 99 h)

actor_named_again : (a : Actor) → actor_words.number_of a ≤ 99 → actor_named (actor_text a) ≡ Some a
actor_named_again (actor.Replica n) h = number_named 114 n h
actor_named_again (actor.Proxy n) h = number_named 112 n h
actor_named_again (actor.Client n) h = number_named 99 n h

pub actor_read : (a : Actor) → actor_words.number_of a ≤ 99 → actor_word (actor_text a) ≡ Some (Named a)
unfolding actor_word
actor_read a h = ap (λ (o : Option Actor). o >>= λ b. Some (Named b)) (actor_named_again a h)

actors_plain : (a : Actor) → actors_word (actor_text a) ≡ actor_word (actor_text a)
unfolding actors_word
actors_plain (actor.Replica n) = refl
actors_plain (actor.Proxy n) = refl
actors_plain (actor.Client n) = refl

pub actors_read : (a : Actor) → actor_words.number_of a ≤ 99 → IsReadAs form.Actors (Named a)
actors_read a h = record { read = actors_plain a ∙ actor_read a h; word = actor_is_word a h }

pub everyone_read : IsReadAs form.Actors Everyone
unfolding actors_word
everyone_read = record { read = refl; word = record { some = omega arith; graphic = refl } }

pub one_actor_read : (a : Actor) → actor_words.number_of a ≤ 99 → IsReadAs form.Actor (Named a)
one_actor_read a h = record { read = actor_read a h; word = actor_is_word a h }

pub server_read : (a : Actor) → actor_words.number_of a ≤ 99 → IsReadAs form.Server (Named a)
server_read a h = record { read = actor_read a h; word = actor_is_word a h }

pub replica_read : (a : Actor) → actor_words.number_of a ≤ 99 → IsReadAs form.Replica (Named a)
replica_read a h = record { read = actor_read a h; word = actor_is_word a h }

pub client_read : (a : Actor) → actor_words.number_of a ≤ 99 → IsReadAs form.Client (Named a)
client_read a h = record { read = actor_read a h; word = actor_is_word a h }

one_kind : (k : ℕ) → list_all is_graphic (name_of k) ≡ true → 0 < length (name_of k) → kind_named (name_of k) ≡ Some k → IsReadAs form.Kind (Kind (Some k))
one_kind k g some named = record { read = ap (λ (o : Option ℕ). Some (Kind o)) named; word = record { some = some; graphic = g } }

-- kinds are 1 to the last
pub kind_read : (k : ℕ) → 1 ≤ k → k ≤ KIND_COUNT → IsReadAs form.Kind (Kind (Some k))
unfolding name_of kind_named
kind_read zero low high = absurd (omega (arith, low))
kind_read (suc zero) low high = one_kind 1 refl (omega arith) refl
kind_read (suc (suc zero)) low high = one_kind 2 refl (omega arith) refl
kind_read (suc (suc (suc zero))) low high = one_kind 3 refl (omega arith) refl
kind_read (suc (suc (suc (suc zero)))) low high = one_kind 4 refl (omega arith) refl
kind_read (suc (suc (suc (suc (suc zero))))) low high = one_kind 5 refl (omega arith) refl
kind_read (suc (suc (suc (suc (suc (suc zero)))))) low high = one_kind 6 refl (omega arith) refl
kind_read (suc (suc (suc (suc (suc (suc (suc zero))))))) low high = one_kind 7 refl (omega arith) refl
kind_read (suc (suc (suc (suc (suc (suc (suc (suc zero)))))))) low high = one_kind 8 refl (omega arith) refl
kind_read (suc (suc (suc (suc (suc (suc (suc (suc (suc zero))))))))) low high = one_kind 9 refl (omega arith) refl
kind_read (suc (suc (suc (suc (suc (suc (suc (suc (suc (suc zero)))))))))) low high = one_kind 10 refl (omega arith) refl
kind_read (suc (suc (suc (suc (suc (suc (suc (suc (suc (suc (suc zero))))))))))) low high = one_kind 11 refl (omega arith) refl
kind_read (suc (suc (suc (suc (suc (suc (suc (suc (suc (suc (suc (suc zero)))))))))))) low high = one_kind 12 refl (omega arith) refl
kind_read (suc (suc (suc (suc (suc (suc (suc (suc (suc (suc (suc (suc (suc zero))))))))))))) low high = one_kind 13 refl (omega arith) refl
kind_read (suc (suc (suc (suc (suc (suc (suc (suc (suc (suc (suc (suc (suc (suc zero)))))))))))))) low high = one_kind 14 refl (omega arith) refl
kind_read (suc (suc (suc (suc (suc (suc (suc (suc (suc (suc (suc (suc (suc (suc (suc zero))))))))))))))) low high = one_kind 15 refl (omega arith) refl
kind_read (suc (suc (suc (suc (suc (suc (suc (suc (suc (suc (suc (suc (suc (suc (suc (suc zero)))))))))))))))) low high = one_kind 16 refl (omega arith) refl
kind_read (suc (suc (suc (suc (suc (suc (suc (suc (suc (suc (suc (suc (suc (suc (suc (suc (suc zero))))))))))))))))) low high =
    one_kind 17 refl (omega arith) refl
kind_read (suc (suc (suc (suc (suc (suc (suc (suc (suc (suc (suc (suc (suc (suc (suc (suc (suc (suc zero)))))))))))))))))) low high =
    one_kind 18 refl (omega arith) refl
kind_read (suc (suc (suc (suc (suc (suc (suc (suc (suc (suc (suc (suc (suc (suc (suc (suc (suc (suc (suc k))))))))))))))))))) low high =
    absurd (omega (arith, high))

text_is_word : (most : ℕ) (t : List ℕ) → is_text most t ≡ true → IsWord t
text_is_word most t e =
    let p = and_parts (nat_le 1 (length t) && nat_le (length t) most) (list_all is_graphic t) e in
    let q = (and_parts (nat_le 1 (length t)) (nat_le (length t) most) p.0).0 in
    record { some = grind (arith, q); graphic = p.1 }

pub key_read : (t : List ℕ) → is_key_text t ≡ true → IsReadAs form.Key (Text t)
key_read t e = record { read = refl; word = text_is_word 32 t e }

no_dash : (t : List ℕ) → is_value_text t ≡ true → bytes_eq t (codes "-") ≡ false
no_dash t e = not-true (bytes_eq t (codes "-")) (and_parts (is_text 256 t) (not (bytes_eq t (codes "-"))) e).1

pub value_read : (t : List ℕ) → is_value_text t ≡ true → IsReadAs form.Value (Text t)
value_read t e =
    record {
      read = ap (λ (b : Bool). cond b None (Some (Text t))) (no_dash t e);
      word = text_is_word 256 t (and_parts (is_text 256 t) (not (bytes_eq t (codes "-"))) e).0;
    }

pub choice_read : (t : List ℕ) → is_value_text t ≡ true → IsReadAs form.Choice (Text t)
choice_read t e =
    record {
      read = ap (λ (b : Bool). Some (cond b Nothing (Text t))) (no_dash t e);
      word = text_is_word 256 t (and_parts (is_text 256 t) (not (bytes_eq t (codes "-"))) e).0;
    }

pub nothing_read : IsReadAs form.Choice Nothing
nothing_read = record { read = refl; word = record { some = omega arith; graphic = refl } }
