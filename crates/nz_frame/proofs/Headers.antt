-- A header and a body, and the bytes of both.
use Rattle.std.proofs.Common.{◌≡◌, ℕ, ◌+◌, ◌-◌, ◌≤◌, ◌<◌, true, false, List, [], ◌∷◌, ◌++◌, length, take, drop, Some, refl, sym, ap, subst, ◌∙◌}
use Rattle.std.proofs.Common.{arith, inl, inr, leb, append-nil, length-append, length-take, length-drop}
use Rattle.std.proofs.lemmas.Bool.{cases_lt, le-leb}
use Rattle.std.proofs.lemmas.List.{nil_from_length, take-append-drop, drop-append-le}
use Rattle.std.proofs.Math.ListN.{get_or-append}
use Rattle.std.proofs.Math.Seq.{drop-append_seam, get_or-append_right}
use Rattle.std.proofs.lemmas.Grind.{common_steps}
use Rattle.std.specs.Prelude.{min, Bool, None, slice_index}
use Rattle.byteorder.specs.Endian.{big_bytes, big_number}
use Rattle.byteorder.specs.Numbers.{big_from-append}
use Rattle.nz_frame.specs.Address.{IsKind, IsAddress, is_kind, is_address}
use Rattle.nz_frame.specs.Grammar.{frame, IsFrame, AreBytes}
use Rattle.nz_frame.specs.Parts.{IsHeaderSize, AreParts}
use Rattle.nz_frame.specs.Refusal.{stated_size, end_of, sender, receiver, tests, first_failed, refusal}
use Rattle.nz_frame.specs.declared.refusal.FrameRefusal.TheVariants.{BadActor}
use Rattle.nz_frame.proofs.Bytes.{AreBytes-take, AreBytes-cons, AreBytes-big}
use Rattle.nz_frame.proofs.Parts.{is_frame}
use Rattle.nz_frame.proofs.Readings.{read_of, accepted, only_frames}

pub AreBytes-append : (xs ys : List ℕ) → AreBytes xs → AreBytes ys → AreBytes (xs ++ ys)
AreBytes-append xs ys h k i =
    elim (cases_lt i (length xs)) [
      | inl lt ↦ rw (get_or-append xs ys 0 i lt) (h i)
      | inr le ↦ rw (get_or-append_right xs ys i 0 le) (k (i - length xs))
    ]

pub after_ten : (header body : List ℕ) → length header ≡ 10 → drop 10 (header ++ body) ≡ body
after_ten header body ten = ap (λ (n : ℕ). drop n (header ++ body)) (sym ten) ∙ drop-append_seam header body

-- what follows the first ten bytes is the body
pub body_is : (header body : List ℕ) → IsHeaderSize (length header) (length body) → drop 10 (header ++ body) ≡ body
body_is header body size =
    elim (cases_lt (length header) 10) [
      | inl few ↦
          let none = nil_from_length body (omega (arith, size, few)) in
          rw none (nil_from_length (drop 10 (header ++ [])) (omega (arith, few, length-drop 10 (header ++ []), ap (λ (xs : List ℕ). length xs) (append-nil header))))
      | inr many ↦ after_ten header body (omega (arith, size, many))
    ]

-- bytes that are parted after the first ten
pub parted : (size : ℕ) (bytes header body : List ℕ) → size ≡ min (length bytes) 10 → header ≡ take size bytes → body ≡ drop size bytes
    → AreBytes bytes → AreParts false header body
parted size bytes header body ten first rest fits = record {
  first =
      omega (arith, ten, ap (λ (xs : List ℕ). length xs) first, ap (λ (xs : List ℕ). length xs) rest, length-take size bytes, length-drop size bytes);
  bytes =
      subst AreBytes (sym ((λ i. first i ++ rest i) ∙ take-append-drop size bytes)) fits;
  passed = λ set. absurd cc;
}

-- a header that was written, and the body that it was written for
pub written : (kind from to : ℕ) (header body : List ℕ) → IsKind kind → IsAddress from → IsAddress to → length body ≤ 16777210
    → AreBytes body → header ≡ big_bytes 4 (6 + length body) ++ 1 ∷ kind ∷ (big_bytes 2 from ++ big_bytes 2 to)
    → AreParts true (take 10 header) body
unfolding frame
written kind from to header body known sender receiver fits body_bytes spelling =
    let small : kind < 256 = grind (arith, common_steps) in
    let actors : List ℕ = big_bytes 2 from ++ big_bytes 2 to in
    let actors_bytes : AreBytes actors = AreBytes-append (big_bytes 2 from) (big_bytes 2 to) (AreBytes-big 2 from) (AreBytes-big 2 to) in
    let rest_bytes : AreBytes (1 ∷ kind ∷ actors) = AreBytes-cons 1 (kind ∷ actors) (omega arith) (AreBytes-cons kind actors small actors_bytes) in
    let head_bytes : AreBytes (big_bytes 4 (6 + length body) ++ 1 ∷ kind ∷ actors) =
    AreBytes-append (big_bytes 4 (6 + length body)) (1 ∷ kind ∷ actors) (AreBytes-big 4 (6 + length body)) rest_bytes in
    let whole : take 10 header ++ body ≡ frame kind from to body = ap (λ (xs : List ℕ). take 10 xs ++ body) spelling in
    let ten : length (take 10 header) ≡ 10 = ap (λ (xs : List ℕ). length (take 10 xs)) spelling in
    record {
      first = omega (arith, ten);
      bytes = AreBytes-append (take 10 header) body (AreBytes-take 10 header (subst AreBytes (sym spelling) head_bytes)) body_bytes;
      passed =
          λ set. accepted (take 10 header ++ body) kind from to body
          (record { known = known; sender = sender; receiver = receiver; fits = fits; spelled = whole });
    }

-- what the tests look at is in the header
pub record ShowsAll (header bytes : List ℕ) : Type 0 where
  pub size : stated_size bytes ≡ stated_size header
  pub version : slice_index bytes 4 ≡ slice_index header 4
  pub kind : slice_index bytes 5 ≡ slice_index header 5
  pub sender_is : sender bytes ≡ sender header
  pub receiver_is : receiver bytes ≡ receiver header

pub size_shown : (header body : List ℕ) → 4 ≤ length header → stated_size (header ++ body) ≡ stated_size header
size_shown header body long = big_from-append 4 header body long

number_after : (n : ℕ) (header body : List ℕ) → n + 2 ≤ length header → big_number 2 (drop n (header ++ body)) ≡ big_number 2 (drop n header)
number_after n header body long =
    ap (big_number 2) (drop-append-le n header body (omega (arith, long)))
    ∙ big_from-append 2 (drop n header) body (omega (arith, long, length-drop n header))

pub header_shows : (header body : List ℕ) → length header ≡ 10 → ShowsAll header (header ++ body)
header_shows header body ten = record {
  size = size_shown header body (omega (arith, ten));
  version = get_or-append header body 0 4 (omega (arith, ten));
  kind = get_or-append header body 0 5 (omega (arith, ten));
  sender_is = number_after 6 header body (omega (arith, ten));
  receiver_is = number_after 8 header body (omega (arith, ten));
}

-- the header of a frame has ten bytes
pub ten_bytes : (header body : List ℕ) → IsHeaderSize (length header) (length body) → 6 ≤ stated_size (header ++ body)
    → length (header ++ body) ≡ end_of (header ++ body) → length header ≡ 10
ten_bytes header body size low long = omega (arith, size, low, long, length-append header body)

pub is_frame_of : (header body : List ℕ) (from to : ℕ) → AreBytes (header ++ body) → 6 ≤ stated_size (header ++ body)
    → stated_size (header ++ body) ≤ 16777216 → length (header ++ body) ≡ end_of (header ++ body) → length header ≡ 10
    → slice_index header 4 ≡ 1 → IsKind (slice_index header 5) → IsAddress from → IsAddress to → from ≡ sender header → to ≡ receiver header
    → IsFrame (header ++ body) (slice_index header 5) from to body
is_frame_of header body from to fits low high long ten version kind hf ht ef et =
    let s = header_shows header body ten in
    subst (λ (k : ℕ). IsFrame (header ++ body) k from to body) s.kind
    (is_frame (header ++ body) from to body fits low high long (s.version ∙ version) (subst (λ (k : ℕ). IsKind k) (sym s.kind) kind)
    hf ht (ef ∙ sym s.sender_is) (et ∙ sym s.receiver_is) (sym (after_ten header body ten)))

-- bytes that are not refused are the frame of what their header shows
pub shown_frame : (checked : Bool) (size : ℕ) (header body bytes : List ℕ) (from to : ℕ) (rest : List ℕ)
    → AreParts checked (take size header) body → take size header ++ body ≡ bytes → refusal bytes ≡ None
    → from ≡ sender header → to ≡ receiver header → rest ≡ body → IsFrame bytes (slice_index header 5) from to rest
shown_frame checked size header body bytes from to rest parts same none ef et eb =
    let shown = take size header in
    let f = only_frames (shown ++ body) parts.bytes (ap refusal same ∙ none) in
    let long = (read_of (shown ++ body) _ _ _ _ f).long in
    let ten : length shown ≡ 10 = omega (arith, parts.first, long, length-append shown body) in
    let s = header_shows shown body ten in
    let h : ShowsAll shown header = subst (λ (xs : List ℕ). ShowsAll shown xs) (take-append-drop size header) (header_shows shown (drop size header) ten) in
    let kind_is : slice_index (shown ++ body) 5 ≡ slice_index header 5 = s.kind ∙ sym h.kind in
    let from_is : sender (shown ++ body) ≡ from = s.sender_is ∙ sym h.sender_is ∙ sym ef in
    let to_is : receiver (shown ++ body) ≡ to = s.receiver_is ∙ sym h.receiver_is ∙ sym et in
    let rest_is : drop 10 (shown ++ body) ≡ rest = after_ten shown body ten ∙ sym eb in
    record {
      known = subst (λ (k : ℕ). IsKind k) kind_is f.known;
      sender = subst (λ (a : ℕ). IsAddress a) from_is f.sender;
      receiver = subst (λ (a : ℕ). IsAddress a) to_is f.receiver;
      fits = subst (λ (xs : List ℕ). length xs ≤ 16777210) rest_is f.fits;
      spelled = sym same ∙ f.spelled ∙ (λ i. frame (kind_is i) (from_is i) (to_is i) (rest_is i));
    }

-- what is left of the tests once those of the length are passed
pub tests_left : (bytes : List ℕ) → 6 ≤ stated_size bytes → stated_size bytes ≤ 16777216 → length bytes ≡ end_of bytes
    → refusal bytes ≡ first_failed (drop 5 (tests bytes))
unfolding refusal
tests_left bytes low high long =
    let a : leb 4 (length bytes) ≡ true = le-leb _ _ (omega (arith, long)) in
    let b : leb (stated_size bytes) 16777216 ≡ true = le-leb _ _ high in
    let c : leb 6 (stated_size bytes) ≡ true = le-leb _ _ low in
    let d : leb (end_of bytes) (length bytes) ≡ true = le-leb _ _ (omega (arith, long)) in
    let e : leb (length bytes) (end_of bytes) ≡ true = le-leb _ _ (omega (arith, long)) in
    rw (a, b, c, d, e) refl

pub bad_sender : (header body : List ℕ) → 6 ≤ stated_size (header ++ body) → stated_size (header ++ body) ≤ 16777216
    → length (header ++ body) ≡ end_of (header ++ body) → length header ≡ 10 → slice_index header 4 ≡ 1 → is_kind (slice_index header 5) ≡ true
    → is_address (sender header) ≡ false → refusal (header ++ body) ≡ Some (BadActor 6)
bad_sender header body low high long ten version kind other =
    let s = header_shows header body ten in
    tests_left (header ++ body) low high long ∙ rw (s.version, s.kind, s.sender_is, version, kind, other) refl

pub bad_receiver : (header body : List ℕ) → 6 ≤ stated_size (header ++ body) → stated_size (header ++ body) ≤ 16777216
    → length (header ++ body) ≡ end_of (header ++ body) → length header ≡ 10 → slice_index header 4 ≡ 1 → is_kind (slice_index header 5) ≡ true
    → is_address (sender header) ≡ true → is_address (receiver header) ≡ false → refusal (header ++ body) ≡ Some (BadActor 8)
bad_receiver header body low high long ten version kind known other =
    let s = header_shows header body ten in
    tests_left (header ++ body) low high long ∙ rw (s.version, s.kind, s.sender_is, s.receiver_is, version, kind, known, other) refl
