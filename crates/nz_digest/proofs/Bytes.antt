-- The exclusive or of lists of bytes.
use Rattle.std.proofs.Common.{◌≡◌, ℕ, ◌<◌, ◌≤◌, List, [], ◌∷◌, length, get_or, arith, refl, sym, ◌∙◌, ap}
use Rattle.std.specs.Prelude.{bit_xor}
use Rattle.std.specs.List.{zip}
use Rattle.std.proofs.lemmas.Nat.{xor_comm}
use Rattle.std.proofs.lemmas.Grind.{common_steps}
use Rattle.std.proofs.lemmas.List.{ext_get_or, get_or-map, length-map}
use Rattle.std.proofs.lemmas.Slice.Zip.{length-zip, get_or-zip}
use Rattle.nz_digest.specs.Digests.{xor_bytes}

-- the first places have the exclusive or, and the others what they had
pub record Flipped (old mask new : List ℕ) (place : ℕ) : Type 0 where
  pub long : length new ≡ length old
  pub below : (k : ℕ) → k < place → get_or new k 0 ≡ bit_xor (get_or old k 0) (get_or mask k 0)
  pub above : (k : ℕ) → place ≤ k → get_or new k 0 ≡ get_or old k 0

pub length-xor_bytes : (xs ys : List ℕ) → length xs ≡ length ys → length (xor_bytes xs ys) ≡ length xs
length-xor_bytes xs ys same = length-map (zip xs ys) (λ pair. bit_xor pair.0 pair.1) ∙ length-zip xs ys ∙ omega arith

pub get_or-xor_bytes : (xs ys : List ℕ) (k : ℕ) → k < length xs → length xs ≡ length ys → get_or (xor_bytes xs ys) k 0 ≡ bit_xor (get_or xs k 0) (get_or ys k 0)
get_or-xor_bytes xs ys k h same =
    get_or-map (λ pair. bit_xor pair.0 pair.1) (zip xs ys) k (0, 0) 0 (let e : length (zip xs ys) ≡ length xs = length-zip xs ys ∙ omega arith in omega arith)
    ∙ ap (λ (pair : ℕ × ℕ). bit_xor pair.0 pair.1) (get_or-zip xs ys k (0, 0) h (omega arith))

pub xor_bytes-flipped : (old mask new : List ℕ) (place : ℕ) → length old ≡ length mask → length old ≤ place
    → Flipped old mask new place → new ≡ xor_bytes old mask
xor_bytes-flipped old mask new place same all flipped =
    ext_get_or 0 new (xor_bytes old mask) (flipped.long ∙ sym (length-xor_bytes old mask same))
    (λ k h. flipped.below k (omega arith) ∙ sym (get_or-xor_bytes old mask k (omega arith) same))

xor-twice : (x y : ℕ) → bit_xor (bit_xor x y) y ≡ x
xor-twice x y = grind (arith, common_steps)

xor-assoc : (x y z : ℕ) → bit_xor (bit_xor x y) z ≡ bit_xor x (bit_xor y z)
xor-assoc x y z = grind (arith, common_steps)

pub xor_bytes-comm : (xs ys : List ℕ) → xor_bytes xs ys ≡ xor_bytes ys xs
xor_bytes-comm [] [] = refl
xor_bytes-comm [] (y ∷ ys) = refl
xor_bytes-comm (x ∷ xs) [] = refl
xor_bytes-comm (x ∷ xs) (y ∷ ys) = λ i. xor_comm x y i ∷ xor_bytes-comm xs ys i

pub xor_bytes-assoc : (xs ys zs : List ℕ) → xor_bytes (xor_bytes xs ys) zs ≡ xor_bytes xs (xor_bytes ys zs)
xor_bytes-assoc [] ys zs = refl
xor_bytes-assoc (x ∷ xs) [] zs = refl
xor_bytes-assoc (x ∷ xs) (y ∷ ys) [] = refl
xor_bytes-assoc (x ∷ xs) (y ∷ ys) (z ∷ zs) = λ i. xor-assoc x y z i ∷ xor_bytes-assoc xs ys zs i

pub xor_bytes-twice : (xs ys : List ℕ) → length xs ≡ length ys → xor_bytes (xor_bytes xs ys) ys ≡ xs
xor_bytes-twice [] ys same = refl
xor_bytes-twice (x ∷ xs) [] same = cc
xor_bytes-twice (x ∷ xs) (y ∷ ys) same = λ i. xor-twice x y i ∷ xor_bytes-twice xs ys (omega arith) i
