-- Fields: how each is spelled and read, once for all messages.
use Rattle.std.specs.Prelude.{◌≡◌, ℕ, zero, suc, ◌<◌, ◌^◌, Bool, ◌==◌, nat_lt, if◌then◌else◌, List, [], ◌∷◌}
use Rattle.std.specs.Prelude.{◌++◌, length, take, drop, Option, Some, None, IfSome, Result, Ok, Err, IsTrue}
use Rattle.std.specs.Int.{is_in_range}
use Rattle.byteorder.specs.Endian.{big_bytes, big_number}

-- What is read is a value with the bytes after it, or how many bytes there are from the fault to the end.
infixl 10 ◌>>=◌
abbrev pub ◌>>=◌ : {A B : Type 0} → Result A ℕ → (A → Result B ℕ) → Result B ℕ
(Ok x) >>= f = f x
(Err left) >>= f = Err left

-- put a rest: the bytes of a, and then the rest. get bytes: what comes first. fits: what can be spelled.
pub record Codec (A : Type 0) : Type 1 where
  pub put : A → List ℕ → List ℕ
  pub get : List ℕ → Result (A × List ℕ) ℕ
  pub fits : A → Type 0

-- ---- numbers and runs of bytes

-- The bytes of a number, in this many bytes.
unfoldable pub number_bytes : ℕ → ℕ → List ℕ
number_bytes size n = big_bytes size n

-- A number of this many bytes, and the bytes after it.
unfoldable pub number_at : ℕ → List ℕ → Result (ℕ × List ℕ) ℕ
number_at size bytes = if nat_lt (length bytes) size then Err (length bytes) else Ok (big_number size bytes, drop size bytes)

-- A number in this many bytes, the highest first.
abbrev pub number : ℕ → Codec ℕ
number size = record { put = λ n rest. number_bytes size n ++ rest; get = number_at size; fits = λ n. n < 256 ^ size }

-- The first n bytes, and the bytes after them.
unfoldable pub run_at : ℕ → List ℕ → Result (List ℕ × List ℕ) ℕ
run_at n bytes = if nat_lt (length bytes) n then Err (length bytes) else Ok (take n bytes, drop n bytes)

-- This many bytes of any value.
abbrev pub run : ℕ → Codec (List ℕ)
run n = record { put = λ bytes rest. bytes ++ rest; get = run_at n; fits = λ bytes. length bytes ≡ n }

-- No bytes.
abbrev pub nothing : Codec (List ℕ)
nothing = record { put = λ xs rest. rest; get = λ bytes. Ok ([], bytes); fits = λ xs. xs ≡ [] }

-- ---- fields made of others

-- What is read, where it passes the test. Else the fault is at its first byte.
unfoldable pub limited_at : {A : Type 0} → (A → Bool) → (List ℕ → Result (A × List ℕ) ℕ) → List ℕ → Result (A × List ℕ) ℕ
limited_at ok get bytes = do
  x ← get bytes
  if ok x.0 then Ok x else Err (length bytes)

-- Only these values: another one is out of range at its first byte.
abbrev pub with_limit : {A : Type 0} → (A → Bool) → Codec A → Codec A
with_limit ok c = record { put = c.put; get = limited_at ok c.get; fits = λ a. c.fits a × IsTrue (ok a) }

-- A number of this many bytes, from least to most.
abbrev pub number_within : ℕ → ℕ → ℕ → Codec ℕ
number_within size least most = with_limit (is_in_range least most) (number size)

-- One field, and then one that depends on it.
infixr 20 ◌leading◌
abbrev pub ◌leading◌ : {A B : Type 0} → Codec A → (A → Codec B) → Codec (A × B)
c leading d = record {
  put = λ p rest. c.put p.0 ((d p.0).put p.1 rest);
  get = λ bytes. c.get bytes >>= λ a. (d a.0).get a.1 >>= λ b. Ok ((a.0, b.0), b.1);
  fits = λ p. c.fits p.0 × (d p.0).fits p.1;
}

-- One field, and then another.
infixr 20 ◌then◌
abbrev pub ◌then◌ : {A B : Type 0} → Codec A → Codec B → Codec (A × B)
c then d = c leading (λ _. d)

-- The same bytes, for values that represent those of c.
abbrev pub as_made : {A B : Type 0} → (A → B) → (B → A) → Codec A → Codec B
as_made make parts c = record {
  put = λ b. c.put (parts b);
  get = λ bytes. c.get bytes >>= λ a. Ok (make a.0, a.1);
  fits = λ b. c.fits (parts b);
}

-- A flag of one byte, 0 or 1, and a value after 1.
unfoldable pub optional_at : {A : Type 0} → (List ℕ → Result (A × List ℕ) ℕ) → List ℕ → Result (Option A × List ℕ) ℕ
optional_at get bytes = do
  flag ← limited_at (is_in_range 0 1) (number_at 1) bytes
  if flag.0 == 0 then Ok (None, flag.1) else (get flag.1 >>= λ a. Ok (Some a.0, a.1))

-- None as the byte 0, a value after the byte 1.
abbrev pub optional_put : {A : Type 0} → (A → List ℕ → List ℕ) → Option A → List ℕ → List ℕ
optional_put put None rest = number_bytes 1 0 ++ rest
optional_put put (Some a) rest = number_bytes 1 1 ++ put a rest

-- A byte 0, or a byte 1 and a value.
abbrev pub optional : {A : Type 0} → Codec A → Codec (Option A)
optional c = record { put = optional_put c.put; get = optional_at c.get; fits = λ o. IfSome o c.fits }

-- ---- lists

-- The items in turn, each spelled by what came before it, and then the rest.
unfoldable pub items_put : {A : Type 0} → (List A → Codec A) → List A → List A → List ℕ → List ℕ
items_put item before [] rest = rest
items_put item before (x ∷ xs) rest = (item before).put x (items_put item (before ++ x ∷ []) xs rest)

-- This many items in turn, each read by what came before it.
unfoldable pub items_at : {A : Type 0} → (List A → Codec A) → List A → ℕ → List ℕ → Result (List A × List ℕ) ℕ
items_at item before zero bytes = Ok ([], bytes)
items_at item before (suc n) bytes = do
  first ← (item before).get bytes
  others ← items_at item (before ++ first.0 ∷ []) n first.1
  Ok (first.0 ∷ others.0, others.1)

-- Each item can be spelled after those before it.
abbrev pub ItemsFit : {A : Type 0} → (List A → Codec A) → List A → List A → Type 0
ItemsFit item before [] = Unit {0}
ItemsFit item before (x ∷ xs) = (item before).fits x × ItemsFit item (before ++ x ∷ []) xs

-- This many items, each of which may depend on those before it.
abbrev pub items : {A : Type 0} → (List A → Codec A) → ℕ → Codec (List A)
items item n = record { put = items_put item []; get = items_at item [] n; fits = λ xs. (length xs ≡ n) × ItemsFit item [] xs }

-- A list with its length before it.
abbrev pub with_count : {A : Type 0} → Codec ℕ → (ℕ → Codec (List A)) → Codec (List A)
with_count count list = record {
  put = λ xs rest. count.put (length xs) ((list (length xs)).put xs rest);
  get = λ bytes. count.get bytes >>= λ n. (list n.0).get n.1;
  fits = λ xs. count.fits (length xs) × (list (length xs)).fits xs;
}
