-- The laws of frames and refusals.
use Rattle.std.proofs.Common.{◌≡◌, ℕ, ◌+◌, ◌^◌, ◌<◌, Bool, true, false, List, [], ◌∷◌, ◌++◌, length, drop}
use Rattle.std.proofs.Common.{Some, None, refl, sym, ap, subst, ◌∙◌, arith, inl, inr, length-append, leb}
use Rattle.std.specs.Prelude.{slice_index, Result, Ok, Err, IfOk, IfErr, OnOk, IsOkAnd}
use Rattle.std.proofs.lemmas.Bool.{cases_lt, le-leb, lt-leb, leb-true, eqb-true}
use Rattle.std.proofs.lemmas.List.{nil_from_length}
use Rattle.byteorder.specs.Numbers.{big_from-append}
use Rattle.nz_frame.specs.Address.{is_kind, is_address}
use Rattle.nz_frame.specs.Grammar.{IsFrame, SameParts, AreBytes}
use Rattle.nz_frame.specs.Refusal.{Test, test, first_failed, tests, stated_size, end_of, sender, receiver, refusal}
use Rattle.nz_frame.specs.declared.reading.FrameView.{FrameView}
use Rattle.nz_frame.specs.declared.refusal.FrameRefusal.{FrameRefusal}
use Rattle.nz_frame.specs.declared.refusal.FrameRefusal.TheVariants.{Short, Trailing}
use Rattle.nz_frame.proofs.Parts.{address_fits, IsRead, frame_read, is_frame}

pub read_of : (bytes : List ℕ) (kind from to : ℕ) (body : List ℕ) → IsFrame bytes kind from to body → IsRead bytes kind from to body
read_of bytes kind from to body h =
    subst (λ (xs : List ℕ). IsRead xs kind from to body) (sym h.spelled)
    (frame_read kind from to body (address_fits from h.sender) (address_fits to h.receiver) h.fits)

pub one_reading : (bytes : List ℕ) (kind from to : ℕ) (body : List ℕ) (kind' from' to' : ℕ) (body' : List ℕ)
    → IsFrame bytes kind from to body → IsFrame bytes kind' from' to' body'
    → SameParts kind from to body kind' from' to' body'
one_reading bytes kind from to body kind' from' to' body' h h' =
    let r = read_of bytes kind from to body h in
    let r' = read_of bytes kind' from' to' body' h' in
    record {
      same_kind = sym r.kind_is ∙ r'.kind_is;
      same_sender = sym r.from_is ∙ r'.from_is;
      same_receiver = sym r.to_is ∙ r'.to_is;
      same_body = sym r.body_is ∙ r'.body_is;
    }

-- A frame of the grammar is refused by no test.
pub accepted : (bytes : List ℕ) (kind from to : ℕ) (body : List ℕ) → IsFrame bytes kind from to body → refusal bytes ≡ None
unfolding refusal
accepted bytes kind from to body h =
    let r = read_of bytes kind from to body h in
    let fits = h.fits in
    let a : leb 4 (length bytes) ≡ true = le-leb _ _ (omega (arith, r.long)) in
    let b : leb (stated_size bytes) 16777216 ≡ true = le-leb _ _ (omega (arith, r.len_is)) in
    let c : leb 6 (stated_size bytes) ≡ true = le-leb _ _ (omega (arith, r.len_is)) in
    let d : leb (end_of bytes) (length bytes) ≡ true = le-leb _ _ (omega (arith, r.len_is, r.long)) in
    let e : leb (length bytes) (end_of bytes) ≡ true = le-leb _ _ (omega (arith, r.len_is, r.long)) in
    let known : is_kind (slice_index bytes 5) ≡ true = subst (λ (k : ℕ). is_kind k ≡ true) (sym r.kind_is) h.known in
    let from_known : is_address (sender bytes) ≡ true = subst (λ (k : ℕ). is_address k ≡ true) (sym r.from_is) h.sender in
    let to_known : is_address (receiver bytes) ≡ true = subst (λ (k : ℕ). is_address k ≡ true) (sym r.to_is) h.receiver in
    rw (a, b, c, d, e, r.version, known, from_known, to_known) refl

-- ---- the tests in their order

abbrev EachHolds : List Test → Type 0
EachHolds [] = Unit {0}
EachHolds (t ∷ ts) = (t.holds ≡ true) × EachHolds ts

holds_first : (b : Bool) (r : FrameRefusal) (ts : List Test) → first_failed (test b r ∷ ts) ≡ None → (b ≡ true) × (first_failed ts ≡ None)
holds_first true r ts e = (refl, e)
holds_first false r ts e = absurd cc

each_holds : (ts : List Test) → first_failed ts ≡ None → EachHolds ts
each_holds [] e = tt
each_holds (t ∷ ts) e = let h = holds_first t.holds t.refusal ts e in (h.0, each_holds ts h.1)

-- what every refusal of the tests has, the one that is given has
abbrev EachHas : (FrameRefusal → Type 0) → List Test → Type 0
EachHas P [] = Unit {0}
EachHas P (t ∷ ts) = P t.refusal × EachHas P ts

on_test : (P : FrameRefusal → Type 0) (b : Bool) (own : FrameRefusal) (ts : List Test) (r : FrameRefusal)
    → P own × EachHas P ts → (first_failed ts ≡ Some r → P r) → first_failed (test b own ∷ ts) ≡ Some r → P r
on_test P true own ts r h later e = later e
on_test P false own ts r h later e = let same : own ≡ r = cc in subst P same h.0

given_has : (P : FrameRefusal → Type 0) (ts : List Test) (r : FrameRefusal) → EachHas P ts → first_failed ts ≡ Some r → P r
given_has P [] r h e = absurd cc
given_has P (t ∷ ts) r h e = on_test P t.holds t.refusal ts r h (given_has P ts r h.1) e

-- the place, where the refusal is Short
abbrev IsPlacedAt : ℕ → FrameRefusal → Type 0
IsPlacedAt n (Short place) = place ≡ n
IsPlacedAt n r = Unit {0}

pub short_place : (bytes : List ℕ) (place : ℕ) → length bytes < 2 ^ 32 → refusal bytes ≡ Some (Short place) → place ≡ length bytes
unfolding refusal
short_place bytes place fits e =
    given_has (IsPlacedAt (length bytes)) (tests bytes) (Short place) (refl, (tt, (omega arith, (refl, (tt, (tt, (tt, (tt, (tt, tt))))))))) e

pub only_frames : (bytes : List ℕ) → AreBytes bytes → refusal bytes ≡ None → IsFrame bytes (slice_index bytes 5) (sender bytes) (receiver bytes) (drop 10 bytes)
unfolding refusal
only_frames bytes fits e =
    let h : EachHolds (tests bytes) = each_holds (tests bytes) e in
    let high = leb-true (stated_size bytes) 16777216 h.1.0 in
    let low = leb-true 6 (stated_size bytes) h.1.1.0 in
    let least = leb-true (end_of bytes) (length bytes) h.1.1.1.0 in
    let most = leb-true (length bytes) (end_of bytes) h.1.1.1.1.0 in
    let version = eqb-true (slice_index bytes 4) 1 h.1.1.1.1.1.0 in
    let header = h.1.1.1.1.1.1 in
    is_frame bytes (sender bytes) (receiver bytes) (drop 10 bytes) fits low high
    (omega (arith, least, most)) version header.0 header.1.0 header.1.1.0 refl refl refl

-- ---- too few bytes and too many

pub cut_is_short : (bytes rest : List ℕ) (kind from to : ℕ) (body : List ℕ)
    → IsFrame (bytes ++ rest) kind from to body → 0 < length rest → refusal bytes ≡ Some (Short (length bytes))
unfolding refusal
cut_is_short bytes rest kind from to body h more =
    let r = read_of (bytes ++ rest) kind from to body h in
    let fits = h.fits in
    let parts = length-append bytes rest in
    elim (cases_lt (length bytes) 4) [
      | inl few ↦ rw (lt-leb 4 (length bytes) few) refl
      | inr many ↦
          let same : stated_size bytes ≡ 6 + length body = sym (big_from-append 4 bytes rest many) ∙ r.len_is in
          let a : leb 4 (length bytes) ≡ true = le-leb _ _ many in
          let b : leb (stated_size bytes) 16777216 ≡ true = le-leb _ _ (omega (arith, same)) in
          let c : leb 6 (stated_size bytes) ≡ true = le-leb _ _ (omega (arith, same)) in
          let d : leb (end_of bytes) (length bytes) ≡ false = lt-leb _ _ (omega (arith, same, parts, r.long)) in
          rw (a, b, c, d) refl
    ]

pub more_is_trailing : (bytes rest : List ℕ) (kind from to : ℕ) (body : List ℕ) → IsFrame bytes kind from to body
    → 0 < length rest → refusal (bytes ++ rest) ≡ Some (Trailing (length bytes))
unfolding refusal
more_is_trailing bytes rest kind from to body h more =
    let r = read_of bytes kind from to body h in
    let fits = h.fits in
    let parts = length-append bytes rest in
    let same : stated_size (bytes ++ rest) ≡ 6 + length body = big_from-append 4 bytes rest (omega (arith, r.long)) ∙ r.len_is in
    let a : leb 4 (length (bytes ++ rest)) ≡ true = le-leb _ _ (omega (arith, parts, r.long)) in
    let b : leb (stated_size (bytes ++ rest)) 16777216 ≡ true = le-leb _ _ (omega (arith, same)) in
    let c : leb 6 (stated_size (bytes ++ rest)) ≡ true = le-leb _ _ (omega (arith, same)) in
    let d : leb (end_of (bytes ++ rest)) (length (bytes ++ rest)) ≡ true = le-leb _ _ (omega (arith, same, parts, r.long)) in
    let e : leb (length (bytes ++ rest)) (end_of (bytes ++ rest)) ≡ false = lt-leb _ _ (omega (arith, same, parts, r.long)) in
    let place : end_of (bytes ++ rest) ≡ length bytes = omega (arith, same, r.long) in
    rw (a, b, c, d, e) (ap (λ (n : ℕ). Some (Trailing n)) place)

pub no_prefix : (bytes rest : List ℕ) (kind from to : ℕ) (body : List ℕ) (kind' from' to' : ℕ) (body' : List ℕ)
    → IsFrame bytes kind from to body → IsFrame (bytes ++ rest) kind' from' to' body' → rest ≡ []
no_prefix bytes rest kind from to body kind' from' to' body' h h' =
    let r = read_of bytes kind from to body h in
    let r' = read_of (bytes ++ rest) kind' from' to' body' h' in
    let same : stated_size (bytes ++ rest) ≡ stated_size bytes = big_from-append 4 bytes rest (omega (arith, r.long)) in
    nil_from_length rest (omega (arith, same, length-append bytes rest, r.long, r'.long, r.len_is, r'.len_is))

-- a frame is refused by no test
pub never_refused : (bytes : List ℕ) (kind from to : ℕ) (body : List ℕ) (r : FrameRefusal) → IsFrame bytes kind from to body → refusal bytes ≡ Some r → ⊥
never_refused bytes kind from to body r h e = let none = accepted bytes kind from to body h in cc

-- what is read of the parts of a frame is all of it
pub every_frame : (parts bytes : List ℕ) (r : Result FrameView FrameRefusal) → parts ≡ bytes
    → IfOk r (λ v. IsFrame parts v.kind v.from v.to v.body.now) → IfErr r (λ d. refusal parts ≡ Some d)
    → (kind from to : ℕ) (body : List ℕ) → IsFrame bytes kind from to body → IsOkAnd r (λ v. SameParts v.kind v.from v.to v.body.now kind from to body)
every_frame parts bytes (Ok v) e frame refused kind from to body f =
    one_reading bytes v.kind v.from v.to v.body.now kind from to body
    (subst (λ (xs : List ℕ). IsFrame xs v.kind v.from v.to v.body.now) e frame) f
every_frame parts bytes (Err d) e frame refused kind from to body f =
    absurd (never_refused bytes kind from to body d f (ap refusal (sym e) ∙ refused))

pub none_refused : (parts bytes : List ℕ) (r : Result FrameView FrameRefusal) → parts ≡ bytes
    → IfOk r (λ v. IsFrame parts v.kind v.from v.to v.body.now) → OnOk r (refusal bytes ≡ None)
none_refused parts bytes (Ok v) e frame = ap refusal (sym e) ∙ accepted parts v.kind v.from v.to v.body.now frame
none_refused parts bytes (Err d) e frame = tt
