-- What is spelled is read again, and what is read was spelled so.
use Rattle.std.proofs.Common.{◌≡◌, ℕ, zero, suc, ◌+◌, ◌*◌, ◌^◌, ◌<◌, ◌≤◌, Bool, true, false, cond, ltb, eqb, List, [], ◌∷◌, ◌++◌, length, take}
use Rattle.std.proofs.Common.{drop, Option, Some, None, Result, Ok, Err, refl, sym, ap, subst, ◌∙◌, arith, length-drop, length-append}
use Rattle.std.specs.Int.{is_in_range, w64, from_be_bytes}
use Rattle.std.proofs.lemmas.Bool.{ltb-false, le-ltb}
use Rattle.std.proofs.lemmas.List.{take_at, drop_at, take-append-drop, length-take}
use Rattle.byteorder.specs.Endian.{big_bytes, big_number}
use Rattle.std.proofs.lemmas.Nat.{be_bytes_8}
use Rattle.std.proofs.lemmas.Bool.Decides.{nat_tests}
use Rattle.std.proofs.Math.Nat.{add-mul, mul-le-mul_right}
use Rattle.byteorder.specs.Numbers.{big_from-take, big_number-reads_back, big_from-lt, length-bytes_high_first}
use Rattle.nz_frame.specs.Grammar.{AreBytes}
use Rattle.nz_frame.proofs.Bytes.{AreBytes-drop, AreBytes-take, two_bytes, four_bytes}
use Rattle.nz_msg.specs.Codec.{◌>>=◌, Codec, number_bytes, number_at, number, run_at, run, nothing, limited_at, with_limit, ◌leading◌}
use Rattle.nz_msg.specs.Codec.{◌then◌, as_made, optional_at, optional_put, optional, items_put, items_at, ItemsFit, items, with_count}

-- the bytes begin with what was read, spelled so
pub record Takes {A : Type 0} (c : Codec A) (bytes : List ℕ) (a : A) (rest : List ℕ) : Type 0 where
  pub spelled : bytes ≡ c.put a rest
  pub fit : c.fits a
  pub rest_fits : AreBytes rest

-- what is left, after a value or from a fault on, is part of the bytes
abbrev pub IsWithin : {A : Type 0} → ℕ → Result (A × List ℕ) ℕ → Type 0
IsWithin most (Ok x) = length x.1 ≤ most
IsWithin most (Err left) = left ≤ most

pub record IsExact {A : Type 0} (c : Codec A) (size : ℕ) : Type 0 where
  pub again : (a : A) (rest : List ℕ) → c.fits a → c.get (c.put a rest) ≡ Ok (a, rest)
  pub takes : (bytes : List ℕ) (x : A × List ℕ) → AreBytes bytes → c.get bytes ≡ Ok x → Takes c bytes x.0 x.1
  pub within : (bytes : List ℕ) → IsWithin (length bytes) (c.get bytes)
  pub long : (a : A) (rest : List ℕ) → c.fits a → length (c.put a rest) ≤ size + length rest

-- the value of a step that did not fail
pub bind_ok : {A B : Type 0} (r : Result A ℕ) (f : A → Result B ℕ) (y : B) → (r >>= f) ≡ Ok y → (x : A) × (r ≡ Ok x) × (f x ≡ Ok y)
bind_ok (Ok x) f y e = (x, refl, e)
bind_ok (Err d) f y e = absurd cc

-- a test that did not fail
pub guard_ok : {A : Type 0} (b : Bool) (d : ℕ) (x y : A) → cond b (Err d) (Ok x) ≡ Ok y → (b ≡ false) × (x ≡ y)
guard_ok true d x y e = absurd cc
guard_ok false d x y e = (refl, cc)

-- What passes a test passed it, and is what was tested.
pub passed : {A : Type 0} (b : Bool) (d : ℕ) (x y : A) → cond b (Ok x) (Err d) ≡ Ok y → (b ≡ true) × (x ≡ y)
passed true d x y e = (refl, cc)
passed false d x y e = absurd cc

abbrev done : {A : Type 0} → A → Result A ℕ
done x = Ok x

pub ok_is : {A : Type 0} (x y : A) → done x ≡ done y → x ≡ y
ok_is x y e = cc

pub within-trans : {A : Type 0} (most less : ℕ) (r : Result (A × List ℕ) ℕ) → less ≤ most → IsWithin less r → IsWithin most r
within-trans most less (Ok x) h k = omega arith
within-trans most less (Err left) h k = omega arith

pub within-bind : {A B : Type 0} (most : ℕ) (r : Result (A × List ℕ) ℕ) (f : A × List ℕ → Result (B × List ℕ) ℕ)
    → IsWithin most r → ((x : A × List ℕ) → IsWithin (length x.1) (f x)) → IsWithin most (r >>= f)
within-bind most (Ok x) f h k = within-trans most (length x.1) (f x) h (k x)
within-bind most (Err left) f h k = h

-- the same, where what is read next may know what is left
pub within-known : {A B : Type 0} (most : ℕ) (r : Result (A × List ℕ) ℕ) (f : A × List ℕ → Result (B × List ℕ) ℕ)
    → IsWithin most r → ((x : A × List ℕ) → length x.1 ≤ most → IsWithin most (f x)) → IsWithin most (r >>= f)
within-known most (Ok x) f h k = k x h
within-known most (Err left) f h k = h

pub within-test : {A : Type 0} (most : ℕ) (b : Bool) (r s : Result (A × List ℕ) ℕ) → IsWithin most r → IsWithin most s → IsWithin most (cond b r s)
within-test most true r s h k = h
within-test most false r s h k = k

-- ---- numbers

-- the bytes of the number that comes first are the first bytes
pub record IsWide (size : ℕ) : Type 0 where
  pub back : (bytes : List ℕ) → size ≤ length bytes → AreBytes bytes → big_bytes size (big_number size bytes) ++ drop size bytes ≡ bytes

one_byte : (bytes : List ℕ) → 1 ≤ length bytes → AreBytes bytes → big_bytes 1 (big_number 1 bytes) ++ drop 1 bytes ≡ bytes
one_byte [] long fits = absurd (omega arith)
one_byte (b ∷ bytes) long fits = let small : b < 256 = fits 0 in ap (λ (x : ℕ). x ∷ bytes) (omega arith)

eight_bytes : (bytes : List ℕ) → 8 ≤ length bytes → AreBytes bytes → big_bytes 8 (big_number 8 bytes) ++ drop 8 bytes ≡ bytes
eight_bytes bytes long fits =
    let value : big_number 8 bytes ≡ from_be_bytes w64 (take 8 bytes) = omega (arith, big_from-take 0 8 8 bytes (omega arith)) in
    let prefix = be_bytes_8 (take 8 bytes) (big_number 8 bytes) (omega (arith, length-take 8 bytes)) (AreBytes-take 8 bytes fits) value in
    ap (λ (xs : List ℕ). xs ++ drop 8 bytes) prefix ∙ take-append-drop 8 bytes

-- Numbers of one byte are read back.
pub wide1 : IsWide 1
wide1 = record { back = one_byte }

-- Numbers of two bytes are read back.
pub wide2 : IsWide 2
wide2 = record { back = two_bytes }

-- Numbers of four bytes are read back.
pub wide4 : IsWide 4
wide4 = record { back = four_bytes }

-- Numbers of eight bytes are read back.
pub wide8 : IsWide 8
wide8 = record { back = eight_bytes }

number_again : (size n : ℕ) (rest : List ℕ) → n < 256 ^ size → number_at size (number_bytes size n ++ rest) ≡ Ok (n, rest)
unfolding number_at number_bytes
number_again size n rest lt =
    let len : length (big_bytes size n) ≡ size = length-bytes_high_first size n in
    let long : ltb (length (big_bytes size n ++ rest)) size ≡ false = le-ltb _ _ (omega (arith, length-append (big_bytes size n) rest)) in
    rw (long, big_number-reads_back size n rest lt, drop_at (big_bytes size n) rest size len) refl

number_takes : (size : ℕ) → IsWide size → (bytes : List ℕ) (x : ℕ × List ℕ) → AreBytes bytes → number_at size bytes ≡ Ok x → Takes (number size) bytes x.0 x.1
unfolding number_at number_bytes
number_takes size wide bytes x fits e =
    let g = guard_ok (ltb (length bytes) size) (length bytes) (big_number size bytes, drop size bytes) x e in
    let made : Takes (number size) bytes (big_number size bytes) (drop size bytes) = record {
      spelled = sym (wide.back bytes (ltb-false _ _ g.0) fits);
      fit = big_from-lt 0 size bytes fits;
      rest_fits = AreBytes-drop size bytes fits;
    } in
    subst (λ (y : ℕ × List ℕ). Takes (number size) bytes y.0 y.1) g.1 made

number_within_bytes : (size : ℕ) (bytes : List ℕ) → IsWithin (length bytes) (number_at size bytes)
unfolding number_at
number_within_bytes size bytes =
    within-test (length bytes) (ltb (length bytes) size) (Err (length bytes))
    (Ok (big_number size bytes, drop size bytes)) (omega arith) (omega (arith, length-drop size bytes))

number_long : (size n : ℕ) (rest : List ℕ) → length (number_bytes size n ++ rest) ≤ size + length rest
unfolding number_bytes
number_long size n rest = omega (arith, length-append (big_bytes size n) rest, length-bytes_high_first size n)

pub number_exact : (size : ℕ) → IsWide size → IsExact (number size) size
number_exact size wide = record {
  again = number_again size;
  takes = number_takes size wide;
  within = number_within_bytes size;
  long = λ n rest h. number_long size n rest;
}

-- ---- runs of bytes

run_again : (n : ℕ) (bytes rest : List ℕ) → length bytes ≡ n → run_at n (bytes ++ rest) ≡ Ok (bytes, rest)
unfolding run_at
run_again n bytes rest len =
    let long : ltb (length (bytes ++ rest)) n ≡ false = le-ltb _ _ (omega (arith, length-append bytes rest)) in
    rw (long, take_at bytes rest n len, drop_at bytes rest n len) refl

run_takes : (n : ℕ) (bytes : List ℕ) (x : List ℕ × List ℕ) → AreBytes bytes → run_at n bytes ≡ Ok x → Takes (run n) bytes x.0 x.1
unfolding run_at
run_takes n bytes x fits e =
    let g = guard_ok (ltb (length bytes) n) (length bytes) (take n bytes, drop n bytes) x e in
    let enough : n ≤ length bytes = ltb-false _ _ g.0 in
    let made : Takes (run n) bytes (take n bytes) (drop n bytes) = record {
      spelled = sym (take-append-drop n bytes);
      fit = omega (arith, length-take n bytes);
      rest_fits = AreBytes-drop n bytes fits;
    } in
    subst (λ (y : List ℕ × List ℕ). Takes (run n) bytes y.0 y.1) g.1 made

run_within : (n : ℕ) (bytes : List ℕ) → IsWithin (length bytes) (run_at n bytes)
unfolding run_at
run_within n bytes =
    within-test (length bytes) (ltb (length bytes) n) (Err (length bytes)) (Ok (take n bytes, drop n bytes)) (omega arith)
    (omega (arith, length-drop n bytes))

pub run_exact : (n size : ℕ) → n ≤ size → IsExact (run n) size
run_exact n size small = record {
  again = run_again n;
  takes = run_takes n;
  within = run_within n;
  long = λ bytes rest h. omega (arith, length-append bytes rest);
}

nothing_takes : (bytes : List ℕ) (x : List ℕ × List ℕ) → AreBytes bytes → done ([], bytes) ≡ Ok x → Takes nothing bytes x.0 x.1
nothing_takes bytes x fits e =
    let made : Takes nothing bytes [] bytes = record { spelled = refl; fit = refl; rest_fits = fits } in
    subst (λ (y : List ℕ × List ℕ). Takes nothing bytes y.0 y.1) (ok_is ([], bytes) x e) made

pub nothing_exact : (size : ℕ) → IsExact nothing size
nothing_exact size = record {
  again = λ xs rest h. ap (λ (ys : List ℕ). Ok (ys, rest)) (sym h);
  takes = nothing_takes;
  within = λ bytes. omega arith;
  long = λ xs rest h. omega arith;
}

-- ---- fields made of others

limited_again : {A : Type 0} (ok : A → Bool) (c : Codec A) (size : ℕ) → IsExact c size → (a : A) (rest : List ℕ)
    → (with_limit ok c).fits a → limited_at ok c.get (c.put a rest) ≡ Ok (a, rest)
unfolding limited_at
limited_again ok c size p a rest h = rw (p.again a rest h.0, h.1) refl

limited_takes : {A : Type 0} (ok : A → Bool) (c : Codec A) (size : ℕ) → IsExact c size
    → (bytes : List ℕ) (x : A × List ℕ) → AreBytes bytes → limited_at ok c.get bytes ≡ Ok x → Takes (with_limit ok c) bytes x.0 x.1
unfolding limited_at
limited_takes ok c size p bytes x fits e =
    let b = bind_ok (c.get bytes) (λ y. cond (ok y.0) (Ok y) (Err (length bytes))) x e in
    let g = passed (ok b.0.0) (length bytes) b.0 x b.2 in
    let t = p.takes bytes b.0 fits b.1 in
    let made : Takes (with_limit ok c) bytes b.0.0 b.0.1 = record { spelled = t.spelled; fit = (t.fit, g.0); rest_fits = t.rest_fits } in
    subst (λ (y : _ × List ℕ). Takes (with_limit ok c) bytes y.0 y.1) g.1 made

limited_within : {A : Type 0} (ok : A → Bool) (c : Codec A) (size : ℕ) → IsExact c size → (bytes : List ℕ) → IsWithin (length bytes) (limited_at ok c.get bytes)
unfolding limited_at
limited_within ok c size p bytes =
    within-known (length bytes) (c.get bytes) (λ y. cond (ok y.0) (Ok y) (Err (length bytes))) (p.within bytes)
    (λ x h. within-test (length bytes) (ok x.0) (Ok x) (Err (length bytes)) h (omega arith))

pub limited_exact : {A : Type 0} (ok : A → Bool) (c : Codec A) (size : ℕ) → IsExact c size → IsExact (with_limit ok c) size
limited_exact ok c size p = record {
  again = limited_again ok c size p;
  takes = limited_takes ok c size p;
  within = limited_within ok c size p;
  long = λ a rest h. p.long a rest h.0;
}

leading_again : {A B : Type 0} (c : Codec A) (d : A → Codec B) (m n : ℕ) → IsExact c m
    → ((a : A) → c.fits a → IsExact (d a) n) → (x : A × B) (rest : List ℕ) → (c leading d).fits x
    → (c leading d).get ((c leading d).put x rest) ≡ Ok (x, rest)
leading_again c d m n p q x rest h = rw (p.again x.0 ((d x.0).put x.1 rest) h.0, (q x.0 h.0).again x.1 rest h.1) refl

leading_takes : {A B : Type 0} (c : Codec A) (d : A → Codec B) (m n : ℕ) → IsExact c m
    → ((a : A) → c.fits a → IsExact (d a) n) → (bytes : List ℕ) (x : (A × B) × List ℕ) → AreBytes bytes
    → (c leading d).get bytes ≡ Ok x → Takes (c leading d) bytes x.0 x.1
leading_takes {A} {B} c d m n p q bytes x fits e =
    let f = bind_ok (c.get bytes) (λ a. (d a.0).get a.1 >>= λ b. Ok ((a.0, b.0), b.1)) x e in
    let a = f.0 in
    let g = bind_ok ((d a.0).get a.1) (λ b. Ok ((a.0, b.0), b.1)) x f.2 in
    let b = g.0 in
    let t = p.takes bytes a fits f.1 in
    let u = (q a.0 t.fit).takes a.1 b t.rest_fits g.1 in
    let made : Takes (c leading d) bytes (a.0, b.0) b.1 = record {
      spelled = t.spelled ∙ ap (c.put a.0) u.spelled;
      fit = (t.fit, u.fit);
      rest_fits = u.rest_fits;
    } in
    subst (λ (y : (A × B) × List ℕ). Takes (c leading d) bytes y.0 y.1) (ok_is ((a.0, b.0), b.1) x g.2) made

pub leading_exact : {A B : Type 0} (c : Codec A) (d : A → Codec B) (m n : ℕ) → IsExact c m
    → ((a : A) → c.fits a → IsExact (d a) n) → ((a : A) (bytes : List ℕ) → IsWithin (length bytes) ((d a).get bytes)) → IsExact (c leading d) (m + n)
leading_exact c d m n p q w = record {
  again = leading_again c d m n p q;
  takes = leading_takes c d m n p q;
  within =
      λ bytes. within-bind (length bytes) (c.get bytes) _ (p.within bytes)
      (λ a. within-bind (length a.1) ((d a.0).get a.1) _ (w a.0 a.1) (λ b. omega arith));
  long = λ x rest h. omega (arith, p.long x.0 ((d x.0).put x.1 rest) h.0, (q x.0 h.0).long x.1 rest h.1);
}

pub then_exact : {A B : Type 0} (c : Codec A) (d : Codec B) (m n : ℕ) → IsExact c m → IsExact d n → IsExact (c then d) (m + n)
then_exact c d m n p q = leading_exact c (λ _. d) m n p (λ a h. q) (λ a bytes. q.within bytes)

made_takes : {A B : Type 0} (make : A → B) (parts : B → A) (c : Codec A) (size : ℕ)
    → ((a : A) → c.fits a → parts (make a) ≡ a) → IsExact c size → (bytes : List ℕ) (x : B × List ℕ) → AreBytes bytes
    → (as_made make parts c).get bytes ≡ Ok x
    → Takes (as_made make parts c) bytes x.0 x.1
made_takes {A} {B} make parts c size forth p bytes x fits e =
    let f = bind_ok (c.get bytes) (λ a. Ok (make a.0, a.1)) x e in
    let a = f.0 in
    let t = p.takes bytes a fits f.1 in
    let same : parts (make a.0) ≡ a.0 = forth a.0 t.fit in
    let made : Takes (as_made make parts c) bytes (make a.0) a.1 = record {
      spelled = t.spelled ∙ ap (λ (y : A). c.put y a.1) (sym same);
      fit = subst c.fits (sym same) t.fit;
      rest_fits = t.rest_fits;
    } in
    subst (λ (y : B × List ℕ). Takes (as_made make parts c) bytes y.0 y.1) (ok_is (make a.0, a.1) x f.2) made

pub made_exact : {A B : Type 0} (make : A → B) (parts : B → A) (c : Codec A) (size : ℕ)
    → ((b : B) → make (parts b) ≡ b) → ((a : A) → c.fits a → parts (make a) ≡ a) → IsExact c size → IsExact (as_made make parts c) size
made_exact make parts c size back forth p = record {
  again = λ b rest h. rw (p.again (parts b) rest h, back b) refl;
  takes = made_takes make parts c size forth p;
  within = λ bytes. within-bind (length bytes) (c.get bytes) _ (p.within bytes) (λ a. omega arith);
  long = λ b rest h. p.long (parts b) rest h;
}

-- ---- a value after a flag

pub flag_exact : IsExact (with_limit (is_in_range 0 1) (number 1)) 1
flag_exact = limited_exact (is_in_range 0 1) (number 1) 1 (number_exact 1 wide1)

optional_again : {A : Type 0} (c : Codec A) (size : ℕ) → IsExact c size → (o : Option A) (rest : List ℕ)
    → (optional c).fits o → optional_at c.get (optional_put c.put o rest) ≡ Ok (o, rest)
unfolding optional_at
optional_again c size p None rest h = rw (flag_exact.again 0 rest (omega arith, refl)) refl
optional_again c size p (Some a) rest h = rw (flag_exact.again 1 (c.put a rest) (omega arith, refl), p.again a rest h) refl

-- what is after the flag
after_flag : {A : Type 0} → Codec A → ℕ → List ℕ → Result (Option A × List ℕ) ℕ
after_flag c flag bytes = cond (eqb flag 0) (Ok (None, bytes)) (c.get bytes >>= λ a. Ok (Some a.0, a.1))

record IsFlagged {A : Type 0} (c : Codec A) (flag : ℕ) (bytes : List ℕ) (o : Option A) (rest : List ℕ) : Type 0 where
  spelled : number_bytes 1 flag ++ bytes ≡ optional_put c.put o rest
  fit : (optional c).fits o
  rest_fits : AreBytes rest

flagged : {A : Type 0} (c : Codec A) (size : ℕ) → IsExact c size → (flag : ℕ) (bytes : List ℕ) (x : Option A × List ℕ)
    → flag < 2 → AreBytes bytes → after_flag c flag bytes ≡ Ok x → IsFlagged c flag bytes x.0 x.1
unfolding after_flag
flagged {A} c size p zero bytes x small fits e =
    let made : IsFlagged c 0 bytes None bytes = record { spelled = refl; fit = tt; rest_fits = fits } in
    subst (λ (y : Option A × List ℕ). IsFlagged c 0 bytes y.0 y.1) (ok_is (None, bytes) x e) made
flagged {A} c size p (suc zero) bytes x small fits e =
    let f = bind_ok (c.get bytes) (λ a. Ok (Some a.0, a.1)) x e in
    let t = p.takes bytes f.0 fits f.1 in
    let made : IsFlagged c 1 bytes (Some f.0.0) f.0.1 =
    record { spelled = ap (λ (ys : List ℕ). number_bytes 1 1 ++ ys) t.spelled; fit = t.fit; rest_fits = t.rest_fits } in
    subst (λ (y : Option A × List ℕ). IsFlagged c 1 bytes y.0 y.1) (ok_is (Some f.0.0, f.0.1) x f.2) made
flagged c size p (suc (suc n)) bytes x small fits e = absurd (omega arith)

optional_takes : {A : Type 0} (c : Codec A) (size : ℕ) → IsExact c size → (bytes : List ℕ) (x : Option A × List ℕ)
    → AreBytes bytes → optional_at c.get bytes ≡ Ok x → Takes (optional c) bytes x.0 x.1
unfolding optional_at after_flag
optional_takes {A} c size p bytes x fits e =
    let f = bind_ok (limited_at (is_in_range 0 1) (number_at 1) bytes) (λ flag. after_flag c flag.0 flag.1) x e in
    let t = flag_exact.takes bytes f.0 fits f.1 in
    let range = t.fit.1 in
    let small : f.0.0 < 2 = grind (arith, nat_tests, range) in
    let u = flagged c size p f.0.0 f.0.1 x small t.rest_fits f.2 in
    record { spelled = t.spelled ∙ u.spelled; fit = u.fit; rest_fits = u.rest_fits }

optional_within : {A : Type 0} (c : Codec A) (size : ℕ) → IsExact c size → (bytes : List ℕ) → IsWithin (length bytes) (optional_at c.get bytes)
unfolding optional_at
optional_within c size p bytes =
    within-bind (length bytes) (limited_at (is_in_range 0 1) (number_at 1) bytes) _ (flag_exact.within bytes)
    (λ flag. within-test (length flag.1) (eqb flag.0 0) (Ok (None, flag.1)) _ (omega arith)
    (within-bind (length flag.1) (c.get flag.1) _ (p.within flag.1) (λ a. omega arith)))

optional_long : {A : Type 0} (c : Codec A) (size : ℕ) → IsExact c size → (o : Option A) (rest : List ℕ)
    → (optional c).fits o → length (optional_put c.put o rest) ≤ 1 + size + length rest
optional_long c size p None rest h = omega (arith, number_long 1 0 rest)
optional_long c size p (Some a) rest h = omega (arith, number_long 1 1 (c.put a rest), p.long a rest h)

pub optional_exact : {A : Type 0} (c : Codec A) (size : ℕ) → IsExact c size → IsExact (optional c) (1 + size)
optional_exact c size p = record {
  again = optional_again c size p;
  takes = optional_takes c size p;
  within = optional_within c size p;
  long = optional_long c size p;
}

-- ---- lists

items_again : {A : Type 0} (item : List A → Codec A) (size : ℕ) → ((before : List A) → IsExact (item before) size)
    → (before xs : List A) (rest : List ℕ) → ItemsFit item before xs
    → items_at item before (length xs) (items_put item before xs rest) ≡ Ok (xs, rest)
unfolding items_at items_put
items_again item size p before [] rest h = refl
items_again item size p before (x ∷ xs) rest h =
    rw ((p before).again x (items_put item (before ++ x ∷ []) xs rest) h.0, items_again item size p (before ++ x ∷ []) xs rest h.1) refl

pub record TakesItems {A : Type 0} (item : List A → Codec A) (before : List A) (n : ℕ) (bytes : List ℕ) (xs : List A) (rest : List ℕ) : Type 0 where
  pub spelled : bytes ≡ items_put item before xs rest
  pub count : length xs ≡ n
  pub fit : ItemsFit item before xs
  pub rest_fits : AreBytes rest

-- an item, and then the items after it
takes_more : {A : Type 0} (item : List A → Codec A) (before : List A) (n : ℕ) (bytes : List ℕ) (x : A)
    (after : List ℕ) (xs : List A) (rest : List ℕ) → Takes (item before) bytes x after → TakesItems item (before ++ x ∷ []) n after xs rest
    → TakesItems item before (suc n) bytes (x ∷ xs) rest
unfolding items_put
takes_more item before n bytes x after xs rest t u = record {
  spelled = t.spelled ∙ ap ((item before).put x) u.spelled;
  count = ap suc u.count;
  fit = (t.fit, u.fit);
  rest_fits = u.rest_fits;
}

items_take : {A : Type 0} (item : List A → Codec A) (size : ℕ) → ((before : List A) → IsExact (item before) size)
    → (before : List A) (n : ℕ) (bytes : List ℕ) (x : List A × List ℕ) → AreBytes bytes
    → items_at item before n bytes ≡ Ok x → TakesItems item before n bytes x.0 x.1
unfolding items_at items_put
items_take {A} item size p before zero bytes x fits e =
    let made : TakesItems item before 0 bytes [] bytes = record { spelled = refl; count = refl; fit = tt; rest_fits = fits } in
    subst (λ (y : List A × List ℕ). TakesItems item before 0 bytes y.0 y.1) (ok_is ([], bytes) x e) made
items_take {A} item size p before (suc n) bytes x fits e =
    let f = bind_ok ((item before).get bytes) (λ first. items_at item (before ++ first.0 ∷ []) n first.1 >>= λ others. Ok (first.0 ∷ others.0, others.1)) x e in
    let first = f.0 in
    let g = bind_ok (items_at item (before ++ first.0 ∷ []) n first.1) (λ others. Ok (first.0 ∷ others.0, others.1)) x f.2 in
    let others = g.0 in
    let t = (p before).takes bytes first fits f.1 in
    let u = items_take item size p (before ++ first.0 ∷ []) n first.1 others t.rest_fits g.1 in
    let made = takes_more item before n bytes first.0 first.1 others.0 others.1 t u in
    subst (λ (y : List A × List ℕ). TakesItems item before (suc n) bytes y.0 y.1) (ok_is (first.0 ∷ others.0, others.1) x g.2) made

items_within : {A : Type 0} (item : List A → Codec A) (size : ℕ) → ((before : List A) → IsExact (item before) size)
    → (before : List A) (n : ℕ) (bytes : List ℕ) → IsWithin (length bytes) (items_at item before n bytes)
unfolding items_at
items_within item size p before zero bytes = omega arith
items_within item size p before (suc n) bytes =
    within-bind (length bytes) ((item before).get bytes) _ ((p before).within bytes)
    (λ first. within-bind (length first.1) (items_at item (before ++ first.0 ∷ []) n first.1) _
    (items_within item size p (before ++ first.0 ∷ []) n first.1) (λ others. omega arith))

items_long : {A : Type 0} (item : List A → Codec A) (size : ℕ) → ((before : List A) → IsExact (item before) size)
    → (before xs : List A) (rest : List ℕ) → ItemsFit item before xs
    → length (items_put item before xs rest) ≤ length xs * size + length rest
unfolding items_put
items_long item size p before [] rest h = omega arith
items_long item size p before (x ∷ xs) rest h =
    let one = (p before).long x (items_put item (before ++ x ∷ []) xs rest) h.0 in
    let others = items_long item size p (before ++ x ∷ []) xs rest h.1 in
    let product : (length xs + 1) * size ≡ length xs * size + 1 * size = add-mul (length xs) 1 size in
    omega (arith, one, others, product)

pub items_exact : {A : Type 0} (item : List A → Codec A) (size n most : ℕ) → n ≤ most
    → ((before : List A) → IsExact (item before) size) → IsExact (items item n) (most * size)
items_exact {A} item size n most small p = record {
  again = λ xs rest h. subst (λ (k : ℕ). items_at item [] k (items_put item [] xs rest) ≡ Ok (xs, rest)) h.0 (items_again item size p [] xs rest h.1);
  takes = λ bytes x fits e. let t = items_take item size p [] n bytes x fits e in
      record { spelled = t.spelled; fit = (t.count, t.fit); rest_fits = t.rest_fits };
  within = items_within item size p [] n;
  long = λ xs rest h.
      let below : length xs * size ≤ most * size = mul-le-mul_right size (omega arith) in
      omega (arith, items_long item size p [] xs rest h.1);
}

counted_takes : {A : Type 0} (count : Codec ℕ) (list : ℕ → Codec (List A)) (m n : ℕ) → IsExact count m
    → ((k : ℕ) → count.fits k → IsExact (list k) n) → ((k : ℕ) (xs : List A) → (list k).fits xs → length xs ≡ k)
    → (bytes : List ℕ) (x : List A × List ℕ) → AreBytes bytes → (with_count count list).get bytes ≡ Ok x → Takes (with_count count list) bytes x.0 x.1
counted_takes {A} count list m n p q len bytes x fits e =
    let f = bind_ok (count.get bytes) (λ k. (list k.0).get k.1) x e in
    let k = f.0 in
    let t = p.takes bytes k fits f.1 in
    let u = (q k.0 t.fit).takes k.1 x t.rest_fits f.2 in
    let same : k.0 ≡ length x.0 = sym (len k.0 x.0 u.fit) in
    let parts : bytes ≡ count.put k.0 ((list k.0).put x.0 x.1) = t.spelled ∙ ap (count.put k.0) u.spelled in
    record {
      spelled = subst (λ (i : ℕ). bytes ≡ count.put i ((list i).put x.0 x.1)) same parts;
      fit = subst (λ (i : ℕ). count.fits i × (list i).fits x.0) same (t.fit, u.fit);
      rest_fits = u.rest_fits;
    }

pub counted_exact : {A : Type 0} (count : Codec ℕ) (list : ℕ → Codec (List A)) (m n : ℕ) → IsExact count m
    → ((k : ℕ) → count.fits k → IsExact (list k) n) → ((k : ℕ) (xs : List A) → (list k).fits xs → length xs ≡ k)
    → ((k : ℕ) (bytes : List ℕ) → IsWithin (length bytes) ((list k).get bytes)) → IsExact (with_count count list) (m + n)
counted_exact count list m n p q len w = record {
  again = λ xs rest h. rw (p.again (length xs) ((list (length xs)).put xs rest) h.0) ((q (length xs) h.0).again xs rest h.1);
  takes = counted_takes count list m n p q len;
  within = λ bytes. within-bind (length bytes) (count.get bytes) _ (p.within bytes) (λ k. w k.0 k.1);
  long = λ xs rest h. omega (arith, p.long (length xs) ((list (length xs)).put xs rest) h.0, (q (length xs) h.0).long xs rest h.1);
}
