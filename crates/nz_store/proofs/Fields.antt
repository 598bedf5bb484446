-- What is read of one field is its spelling, and what is spelled is read again.
use Rattle.std.proofs.Common.{◌≡◌, ℕ, zero, suc, ◌+◌, ◌*◌, ◌/◌, ◌%◌, ◌<◌, ◌≤◌, Bool, true, false, cond, ltb, List}
use Rattle.std.proofs.Common.{[], ◌∷◌, ◌++◌, length, take, drop, Option, Some, None, refl, sym, ap, subst, arith}
use Rattle.std.proofs.lemmas.Bool.{ltb-true, ltb-false, le-ltb, lt-ltb}
use Rattle.std.proofs.lemmas.List.{take_at, drop_at, take-append-drop, length-append, length-take}
use Rattle.nz_store.specs.Grammar.{IsKey, IsValue, IsOptionalValue, key_spelling, value_spelling, choice_spelling}
use Rattle.nz_store.specs.Reading.{◌>>=◌, is_key_text, is_value_text, text_at, key_at, value_at, choice_at}
use Rattle.nz_store.proofs.Texts.{key_from_test, test_from_key, value_from_test, test_from_value}

-- the parts of a step that found something
pub bind_some : {A B : Type 0} (o : Option A) (f : A → Option B) (y : B) → (o >>= f) ≡ Some y → (x : A) × (o ≡ Some x) × (f x ≡ Some y)
bind_some (Some x) f y e = (x, refl, e)
bind_some None f y e = absurd cc

abbrev found : {A : Type 0} → A → Option A
found x = Some x

pub some_is : {A : Type 0} (x y : A) → found x ≡ found y → x ≡ y
some_is x y e = cc

-- a test that was passed, by which something was found
pub passed : {A : Type 0} (b : Bool) (o : Option A) (y : A) → cond b o None ≡ Some y → (b ≡ true) × (o ≡ Some y)
passed true o y e = (refl, e)
passed false o y e = absurd cc

-- a test that would have found nothing
pub not_refused : {A : Type 0} (b : Bool) (o : Option A) (y : A) → cond b None o ≡ Some y → (b ≡ false) × (o ≡ Some y)
not_refused true o y e = absurd cc
not_refused false o y e = (refl, e)

record IsTextAt (test : List ℕ → Bool) (n : ℕ) (bytes text rest : List ℕ) : Type 0 where
  parts : bytes ≡ text ++ rest
  long : length text ≡ n
  passes : test text ≡ true

text_takes : (test : List ℕ → Bool) (n : ℕ) (bytes : List ℕ) (x : List ℕ × List ℕ) → text_at test n bytes ≡ Some x → IsTextAt test n bytes x.0 x.1
text_takes test n bytes x e =
    let g = not_refused (ltb (length bytes) n) (cond (test (take n bytes)) (Some (take n bytes, drop n bytes)) None) x e in
    let h = passed (test (take n bytes)) (Some (take n bytes, drop n bytes)) x g.1 in
    let enough : n ≤ length bytes = ltb-false _ _ g.0 in
    let made : IsTextAt test n bytes (take n bytes) (drop n bytes) =
    record { parts = sym (take-append-drop n bytes); long = omega (arith, length-take n bytes); passes = h.0 } in
    subst (λ (p : List ℕ × List ℕ). IsTextAt test n bytes p.0 p.1) (some_is (take n bytes, drop n bytes) x h.1) made

text_again : (test : List ℕ → Bool) (n : ℕ) (text rest : List ℕ) → n ≡ length text → test text ≡ true → text_at test n (text ++ rest) ≡ Some (text, rest)
text_again test n text rest len h =
    let long : ltb (length (text ++ rest)) n ≡ false = le-ltb _ _ (omega (arith, length-append text rest)) in
    rw (long, take_at text rest n (sym len), drop_at text rest n (sym len), h) refl

pub key_takes : (bytes : List ℕ) (x : List ℕ × List ℕ) → key_at bytes ≡ Some x → (bytes ≡ key_spelling x.0 ++ x.1) × IsKey x.0
unfolding key_at
key_takes [] x e = absurd cc
key_takes (n ∷ bytes) x e =
    let t = text_takes is_key_text n bytes x e in
    let parts : bytes ≡ x.0 ++ x.1 = t.parts in
    let long : length x.0 ≡ n = t.long in
    (cc, key_from_test x.0 t.passes)

pub key_again : (key rest : List ℕ) → IsKey key → key_at (key_spelling key ++ rest) ≡ Some (key, rest)
unfolding key_at
key_again key rest h = text_again is_key_text (length key) key rest refl (test_from_key key h)

pub value_takes : (bytes : List ℕ) (x : List ℕ × List ℕ) → value_at bytes ≡ Some x → (bytes ≡ value_spelling x.0 ++ x.1) × IsValue x.0
unfolding value_at
value_takes [] x e = absurd cc
value_takes (high ∷ []) x e = absurd cc
value_takes (high ∷ low ∷ bytes) x e =
    let g = passed (ltb low 256) (text_at is_value_text (256 * high + low) bytes) x e in
    let below : low < 256 = ltb-true _ _ g.0 in
    let t = text_takes is_value_text (256 * high + low) bytes x g.1 in
    let parts : bytes ≡ x.0 ++ x.1 = t.parts in
    let long : length x.0 ≡ 256 * high + low = t.long in
    let first : high ≡ length x.0 / 256 = omega arith in
    let second : low ≡ length x.0 % 256 = omega arith in
    (cc, value_from_test x.0 t.passes)

pub value_again : (value rest : List ℕ) → IsValue value → value_at (value_spelling value ++ rest) ≡ Some (value, rest)
unfolding value_at
value_again value rest h =
    let below : ltb (length value % 256) 256 ≡ true = lt-ltb _ _ (omega arith) in
    rw below (text_again is_value_text (256 * (length value / 256) + length value % 256) value rest (omega arith) (test_from_value value h))

pub choice_takes : (bytes : List ℕ) (x : Option (List ℕ) × List ℕ) → choice_at bytes ≡ Some x → (bytes ≡ choice_spelling x.0 ++ x.1) × IsOptionalValue x.0
unfolding choice_at
choice_takes [] x e = absurd cc
choice_takes (zero ∷ bytes) x e =
    subst (λ (p : Option (List ℕ) × List ℕ). (0 ∷ bytes ≡ choice_spelling p.0 ++ p.1) × IsOptionalValue p.0) (some_is (None, bytes) x e) (refl, tt)
choice_takes (suc zero ∷ bytes) x e =
    let b = bind_some (value_at bytes) (λ v. Some (Some v.0, v.1)) x e in
    let t = value_takes bytes b.0 b.1 in
    subst (λ (p : Option (List ℕ) × List ℕ). (1 ∷ bytes ≡ choice_spelling p.0 ++ p.1) × IsOptionalValue p.0)
    (some_is (Some b.0.0, b.0.1) x b.2) (ap (λ (l : List ℕ). 1 ∷ l) t.0, t.1)
choice_takes (suc (suc n) ∷ bytes) x e = absurd cc

pub choice_again : (value : Option (List ℕ)) (rest : List ℕ) → IsOptionalValue value → choice_at (choice_spelling value ++ rest) ≡ Some (value, rest)
unfolding choice_at
choice_again None rest h = refl
choice_again (Some value) rest h = rw (value_again value rest h) refl
