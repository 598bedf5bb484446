-- What a tick sent is posted, one parcel after the other.
use Rattle.std.proofs.Common.{◌≡◌, ℕ, ◌+◌, ◌<◌, ◌≤◌, List, [], ◌∷◌, ◌++◌, length, map, refl, sym, ap, ◌∙◌, subst, arith, zero, suc, append_assoc}
use Rattle.std.proofs.Common.{Result, Ok, Err}
use Rattle.std.specs.Prelude.{take, drop, get_or, slice_get, Some, OnErr}
use Rattle.std.proofs.lemmas.List.{map-append, map_more, take-append-drop, length-take-le, drop-append-le}
use Rattle.std.proofs.lemmas.Option.{slice_get_within}
use Rattle.nz_base.specs.declared.scenario.Scenario.{Scenario}
use Rattle.nz_machine.specs.declared.event.Parcel.{Parcel}
use Rattle.nz_machine.specs.declared.event.Record.{Record}
use Rattle.nz_machine.specs.runs.Schedule.{Posted, posted_in}
use Rattle.nz_machine.proofs.lists.ListParts.{take_next}
use Rattle.nz_fabric.specs.schedule.Calendars.{Dates, Represents, HasPosted, posted_by}
use Rattle.nz_fabric.proofs.calendars.Dating.{posted_push}

-- ---- the parcels of a record

pub one_sent : (s : Scenario) (L : List Posted) (now : ℕ) (c : Dates) (tick : ℕ) (sends : List Parcel) (i : ℕ) (p : Parcel) → i < length sends
    → p ≡ get_or sends i p
    → Represents s ((L ++ map (posted_in tick) (take i sends)) ++ posted_in tick p ∷ []) now c
    → Represents s (L ++ map (posted_in tick) (take (i + 1) sends)) now c
one_sent s L now c tick sends i p lt at h =
    subst (λ (M : List Posted). Represents s M now c)
    (append_assoc L (map (posted_in tick) (take i sends)) (posted_in tick p ∷ [])
    ∙ ap (λ (M : List Posted). L ++ M)
    (ap (λ (x : Parcel). map (posted_in tick) (take i sends) ++ posted_in tick x ∷ []) at ∙ sym (map_more (posted_in tick) sends i p lt)))
    h

pub some_sent : (s : Scenario) (L : List Posted) (now : ℕ) (c : Dates) (tick : ℕ) (sends : List Parcel) (i : ℕ)
    → Represents s (L ++ map (posted_in tick) (take i sends)) now c → HasPosted s L (map (posted_in tick) sends) now c
some_sent s L now c tick sends i h = record {
  sent = map (posted_in tick) (take i sends);
  rest = map (posted_in tick) (drop i sends);
  prefix = ap (map (posted_in tick)) (sym (take-append-drop i sends)) ∙ map-append (posted_in tick) (take i sends) (drop i sends);
  stands = h;
}

-- ---- records

pub record_at : (rs : List Record) (place : ℕ) → place < length rs → (r : Record) × (slice_get rs place ≡ Some r)
record_at [] place lt = absurd (omega (arith, lt))
record_at (r ∷ rs) zero lt = (r, refl)
record_at (r ∷ rs) (suc place) lt = record_at rs place (omega (arith, lt))

-- the records from one place up to the next
pub next_from : (rs : List Record) (from place : ℕ) (r : Record) → from ≤ place → slice_get rs place ≡ Some r
    → drop from (take (place + 1) rs) ≡ drop from (take place rs) ++ r ∷ []
next_from rs from place r le at =
    let lt = slice_get_within rs place r at in
    let long = length-take-le place rs (omega (arith, lt)) in
    ap (drop from) (take_next rs place r at) ∙ drop-append-le from (take place rs) (r ∷ []) (omega (arith, long, le))

-- and those that follow
pub rest_from : (rs : List Record) (from place : ℕ) (r : Record) → from ≤ place → slice_get rs place ≡ Some r
    → drop from rs ≡ (drop from (take place rs) ++ r ∷ []) ++ drop (place + 1) rs
rest_from rs from place r le at =
    let lt = slice_get_within rs place r at in
    let long = length-take-le (place + 1) rs (omega (arith, lt)) in
    ap (drop from) (sym (take-append-drop (place + 1) rs))
    ∙ drop-append-le from (take (place + 1) rs) (drop (place + 1) rs) (omega (arith, long, le))
    ∙ ap (λ (xs : List Record). xs ++ drop (place + 1) rs) (next_from rs from place r le at)

pub one_record : (s : Scenario) (L : List Posted) (now : ℕ) (c : Dates) (rs : List Record) (from place : ℕ) (r : Record)
    → from ≤ place → slice_get rs place ≡ Some r
    → Represents s ((L ++ posted_by (drop from (take place rs))) ++ map (posted_in r.tick) r.sends) now c
    → Represents s (L ++ posted_by (drop from (take (place + 1) rs))) now c
one_record s L now c rs from place r le at h =
    let before = drop from (take place rs) in
    subst (λ (M : List Posted). Represents s M now c)
    (append_assoc L (posted_by before) (map (posted_in r.tick) r.sends)
    ∙ ap (λ (M : List Posted). L ++ M) (sym (posted_push before r) ∙ ap posted_by (sym (next_from rs from place r le at))))
    h

pub posted_append : (xs ys : List Record) → posted_by (xs ++ ys) ≡ posted_by xs ++ posted_by ys
posted_append [] ys = refl
posted_append (r ∷ xs) ys =
    ap (λ (L : List Posted). map (posted_in r.tick) r.sends ++ L) (posted_append xs ys)
    ∙ sym (append_assoc (map (posted_in r.tick) r.sends) (posted_by xs) (posted_by ys))

pub some_records : (s : Scenario) (L : List Posted) (now : ℕ) (c : Dates) (rs : List Record) (from place : ℕ) (r : Record)
    → from ≤ place → slice_get rs place ≡ Some r
    → HasPosted s (L ++ posted_by (drop from (take place rs))) (map (posted_in r.tick) r.sends) now c
    → HasPosted s L (posted_by (drop from rs)) now c
some_records s L now c rs from place r le at h =
    let first = drop from (take place rs) in
    let before = posted_by first in
    let after = posted_by (drop (place + 1) rs) in
    record {
      sent = before ++ h.sent;
      rest = h.rest ++ after;
      prefix =
          ap posted_by (rest_from rs from place r le at)
          ∙ posted_append (first ++ r ∷ []) (drop (place + 1) rs)
          ∙ ap (λ (M : List Posted). M ++ after)
          (posted_push first r ∙ ap (λ (M : List Posted). before ++ M) h.prefix ∙ sym (append_assoc before h.sent h.rest))
          ∙ append_assoc (before ++ h.sent) h.rest after;
      stands = subst (λ (M : List Posted). Represents s M now c) (append_assoc L before h.sent) h.stands;
    }

-- ---- what holds after a refusal

pub on_err : {T E : Type 0} (r : Result T E) (P : Type 0) → P → OnErr r P
on_err (Ok x) P h = tt
on_err (Err e) P h = h
