-- The parts of a frame, and bytes as the frame of their parts.
use Rattle.std.proofs.Common.{◌≡◌, ℕ, ◌+◌, ◌^◌, ◌<◌, ◌≤◌, List, ◌∷◌, ◌++◌, length, drop, refl, sym, ap, ◌∙◌, arith, drop-cons, length-drop}
use Rattle.std.proofs.lemmas.List.{drop-drop}
use Rattle.std.proofs.lemmas.Grind.{common_steps}
use Rattle.std.specs.Prelude.{slice_index}
use Rattle.byteorder.specs.Endian.{big_bytes}
use Rattle.byteorder.specs.Numbers.{big_number-reads_back}
use Rattle.nz_frame.specs.Address.{IsKind, IsAddress}
use Rattle.nz_frame.specs.Grammar.{frame, IsFrame, AreBytes}
use Rattle.nz_frame.specs.Refusal.{stated_size, end_of, sender, receiver}
use Rattle.nz_frame.proofs.Bytes.{AreBytes-drop, four_bytes, two_bytes}

pub address_fits : (a : ℕ) → IsAddress a → a < 2 ^ 16
address_fits a h = grind (arith, common_steps)

-- what the tests look at, in a frame
pub record IsRead (bytes : List ℕ) (kind from to : ℕ) (body : List ℕ) : Type 0 where
  pub long : length bytes ≡ 10 + length body
  pub len_is : stated_size bytes ≡ 6 + length body
  pub version : slice_index bytes 4 ≡ 1
  pub kind_is : slice_index bytes 5 ≡ kind
  pub from_is : sender bytes ≡ from
  pub to_is : receiver bytes ≡ to
  pub body_is : drop 10 bytes ≡ body

pub frame_read : (kind from to : ℕ) (body : List ℕ) → from < 2 ^ 16 → to < 2 ^ 16 → length body ≤ 16777210 → IsRead (frame kind from to body) kind from to body
unfolding frame
frame_read kind from to body hf ht hb = record {
  long = omega arith;
  len_is = big_number-reads_back 4 (6 + length body) (1 ∷ kind ∷ (big_bytes 2 from ++ big_bytes 2 to ++ body)) (omega arith);
  version = refl;
  kind_is = refl;
  from_is = big_number-reads_back 2 from (big_bytes 2 to ++ body) (omega arith);
  to_is = big_number-reads_back 2 to body (omega arith);
  body_is = refl;
}

-- long enough bytes of version 1 are the frame of their parts
pub spelled_frame : (bytes : List ℕ) → AreBytes bytes → 6 ≤ stated_size bytes → length bytes ≡ end_of bytes → slice_index bytes 4 ≡ 1
    → bytes ≡ frame (slice_index bytes 5) (sender bytes) (receiver bytes) (drop 10 bytes)
unfolding frame
spelled_frame bytes fits low long version =
    let len : stated_size bytes ≡ 6 + length (drop 10 bytes) = omega (arith, length-drop 10 bytes) in
    let to_rest : drop 8 bytes ≡ big_bytes 2 (receiver bytes) ++ drop 10 bytes =
    sym (two_bytes (drop 8 bytes) (omega (arith, length-drop 8 bytes)) (AreBytes-drop 8 bytes fits))
    ∙ ap (λ (xs : List ℕ). big_bytes 2 (receiver bytes) ++ xs) (drop-drop 2 8 bytes) in
    let from_rest : drop 6 bytes ≡ big_bytes 2 (sender bytes) ++ big_bytes 2 (receiver bytes) ++ drop 10 bytes =
    sym (two_bytes (drop 6 bytes) (omega (arith, length-drop 6 bytes)) (AreBytes-drop 6 bytes fits))
    ∙ ap (λ (xs : List ℕ). big_bytes 2 (sender bytes) ++ xs) (drop-drop 2 6 bytes ∙ to_rest) in
    let kind_rest : drop 5 bytes ≡ slice_index bytes 5 ∷ (big_bytes 2 (sender bytes) ++ big_bytes 2 (receiver bytes) ++ drop 10 bytes) =
    drop-cons bytes 5 0 (omega arith) ∙ ap (λ (xs : List ℕ). slice_index bytes 5 ∷ xs) from_rest in
    let version_rest : drop 4 bytes ≡ 1 ∷ slice_index bytes 5 ∷ (big_bytes 2 (sender bytes) ++ big_bytes 2 (receiver bytes) ++ drop 10 bytes) =
    drop-cons bytes 4 0 (omega arith) ∙ ap (λ (x : ℕ). x ∷ drop 5 bytes) version ∙ ap (λ (xs : List ℕ). 1 ∷ xs) kind_rest in
    sym (four_bytes bytes (omega arith) fits) ∙ ap (λ (xs : List ℕ). big_bytes 4 (stated_size bytes) ++ xs) version_rest
    ∙ ap (λ (n : ℕ). big_bytes 4 n ++ (1 ∷ slice_index bytes 5 ∷ (big_bytes 2 (sender bytes) ++ big_bytes 2 (receiver bytes) ++ drop 10 bytes))) len

pub is_frame : (bytes : List ℕ) (from to : ℕ) (body : List ℕ) → AreBytes bytes → 6 ≤ stated_size bytes
    → stated_size bytes ≤ 16777216 → length bytes ≡ end_of bytes → slice_index bytes 4 ≡ 1
    → IsKind (slice_index bytes 5) → IsAddress from → IsAddress to → from ≡ sender bytes → to ≡ receiver bytes
    → body ≡ drop 10 bytes → IsFrame bytes (slice_index bytes 5) from to body
is_frame bytes from to body fits low high long version kind hf ht ef et eb = record {
  known = kind;
  sender = hf;
  receiver = ht;
  fits = omega (arith, ap (λ (xs : List ℕ). length xs) eb, length-drop 10 bytes);
  spelled = rw (ef, et, eb) (spelled_frame bytes fits low long version);
}
