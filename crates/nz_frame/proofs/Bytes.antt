-- Numbers of two and of four bytes at the beginning of bytes.
use Rattle.std.proofs.Common.{◌≡◌, ℕ, zero, suc, ◌+◌, ◌/◌, ◌^◌, ◌≤◌, ◌<◌, List, ◌∷◌, ◌++◌, length, take, drop, ap, ◌∙◌, arith, inl, inr}
use Rattle.std.specs.Int.{w16, w32, byte_at, from_be_bytes}
use Rattle.std.proofs.lemmas.Bool.{cases_lt}
use Rattle.std.proofs.lemmas.List.{take-append-drop, length-take, get_or-take, get_or-drop, get_or_past}
use Rattle.std.proofs.lemmas.Nat.{be_bytes_2, be_bytes_4, mod_below}
use Rattle.byteorder.specs.Endian.{big_bytes, big_number}
use Rattle.byteorder.specs.Numbers.{big_from-take}
use Rattle.nz_frame.specs.Grammar.{AreBytes}

pub AreBytes-take : (n : ℕ) (bytes : List ℕ) → AreBytes bytes → AreBytes (take n bytes)
AreBytes-take n bytes h i =
    elim (cases_lt i n) [
      | inl lt ↦ rw (get_or-take n bytes i 0 lt) (h i)
      | inr le ↦ rw (get_or_past (take n bytes) i 0 (omega (arith, length-take n bytes))) (omega arith)
    ]

pub AreBytes-drop : (n : ℕ) (bytes : List ℕ) → AreBytes bytes → AreBytes (drop n bytes)
AreBytes-drop n bytes h i = rw get_or-drop (h (n + i))

pub AreBytes-cons : (byte : ℕ) (bytes : List ℕ) → byte < 256 → AreBytes bytes → AreBytes (byte ∷ bytes)
AreBytes-cons byte bytes small h zero = small
AreBytes-cons byte bytes small h (suc i) = h i

byte_small : (i n : ℕ) → byte_at i n < 256
byte_small zero n = mod_below n 256 (omega arith)
byte_small (suc i) n = mod_below (n / 256 ^ suc i) 256 (omega arith)

pub AreBytes-big : (n x : ℕ) → AreBytes (big_bytes n x)
AreBytes-big zero x = λ i. omega arith
AreBytes-big (suc n) x = AreBytes-cons (byte_at n x) (big_bytes n x) (byte_small n x) (AreBytes-big n x)

-- the bytes of the number that the first bytes make are these bytes
pub four_bytes : (bytes : List ℕ) → 4 ≤ length bytes → AreBytes bytes → big_bytes 4 (big_number 4 bytes) ++ drop 4 bytes ≡ bytes
four_bytes bytes long fits =
    let value : big_number 4 bytes ≡ from_be_bytes w32 (take 4 bytes) = omega (arith, big_from-take 0 4 4 bytes (omega arith)) in
    let prefix = be_bytes_4 (take 4 bytes) (big_number 4 bytes) (omega (arith, length-take 4 bytes)) (AreBytes-take 4 bytes fits) value in
    ap (λ (xs : List ℕ). xs ++ drop 4 bytes) prefix ∙ take-append-drop 4 bytes

pub two_bytes : (bytes : List ℕ) → 2 ≤ length bytes → AreBytes bytes → big_bytes 2 (big_number 2 bytes) ++ drop 2 bytes ≡ bytes
two_bytes bytes long fits =
    let value : big_number 2 bytes ≡ from_be_bytes w16 (take 2 bytes) = omega (arith, big_from-take 0 2 2 bytes (omega arith)) in
    let prefix = be_bytes_2 (take 2 bytes) (big_number 2 bytes) (omega (arith, length-take 2 bytes)) (AreBytes-take 2 bytes fits) value in
    ap (λ (xs : List ℕ). xs ++ drop 2 bytes) prefix ∙ take-append-drop 2 bytes
