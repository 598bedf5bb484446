-- What the leader sends, one key, one replica and one entry after the other.
use Rattle.std.proofs.Common.{◌≡◌, ℕ, zero, suc, ◌+◌, ◌-◌, ◌≤◌, Bool, true, false, not, ◌==◌, min, List, [], ◌∷◌, ◌++◌, length, map}
use Rattle.std.proofs.Common.{take, drop, get_or, Some, refl, sym, ap, ◌∙◌, inl, inr, arith, add-one, append_assoc, length-drop}
use Rattle.std.specs.Prelude.{slice_get}
use Rattle.std.specs.List.{filter}
use Rattle.std.proofs.lemmas.Bool.{cases_lt}
use Rattle.std.specs.Option.{option_map}
use Rattle.std.proofs.lemmas.Option.{slice_get-map, slice_get_within, get_or_from_slice_get}
use Rattle.std.proofs.lemmas.List.{append-nil, map-append, take_more, get_or-drop}
use Rattle.std.proofs.lemmas.List.Elements.{filter-append}
use Rattle.nz_base.specs.declared.actor.Actor.TheVariants.{Replica}
use Rattle.nz_base.specs.declared.key.Key.{Key}
use Rattle.nz_base.specs.declared.key.Entry.{Entry}
use Rattle.nz_base.specs.Log.{keys_of}
use Rattle.nz_machine.specs.declared.event.Parcel.{Parcel}
use Rattle.nz_machine.specs.rules.State.{Out}
use Rattle.nz_machine.specs.rules.Replicas.{numbers_below}
use Rattle.nz_machine.specs.rules.Step.{parcel}
use Rattle.nz_machine.proofs.lists.ListParts.{take_next}

-- ---- items from a place on

next_taken : {X : Type 0} (xs : List X) (start place : ℕ) (x : X) → start ≤ place → slice_get xs place ≡ Some x
    → take (place + 1 - start) (drop start xs) ≡ take (place - start) (drop start xs) ++ x ∷ []
next_taken xs start place x low at =
    let n = place - start in
    let within = slice_get_within xs place x at in
    let long = length-drop start xs in
    let one : place + 1 - start ≡ n + 1 = omega (arith, low) in
    let back : start + n ≡ place = omega (arith, low) in
    let here : get_or (drop start xs) n x ≡ x = get_or-drop start xs n x ∙ ap (λ (i : ℕ). get_or xs i x) back ∙ get_or_from_slice_get xs place x x at in
    ap (λ (k : ℕ). take k (drop start xs)) one ∙ take_more (drop start xs) n x (omega (arith, within, long, low))
    ∙ ap (λ y. take n (drop start xs) ++ y ∷ []) here

pub next_key : (es : List Entry) (start place : ℕ) (e : Entry) → start ≤ place → slice_get es place ≡ Some e
    → take (place + 1 - start) (drop start (keys_of es)) ≡ take (place - start) (drop start (keys_of es)) ++ e.key ∷ []
next_key es start place e low at =
    next_taken (keys_of es) start place e.key low (slice_get-map (λ (e : Entry). e.key) es place ∙ ap (option_map (λ (e : Entry). e.key)) at)

pub take_past : {X : Type 0} (n : ℕ) (xs : List X) → length xs ≤ n → take n xs ≡ xs
take_past zero [] past = refl
take_past (suc n) [] past = refl
take_past zero (x ∷ xs) past = absurd (omega arith)
take_past (suc n) (x ∷ xs) past = ap (λ ys. x ∷ ys) (take_past n xs (omega (arith, past)))

pub all_taken : (ks : List Key) (start place stop : ℕ) → stop ≡ min (length ks) (start + 64) → start ≤ place → stop ≤ place → (start ≤ stop → place ≤ stop)
    → take (place - start) (drop start ks) ≡ take 64 (drop start ks)
all_taken ks start place stop is low past within =
    let long = length-drop start ks in
    elim (cases_lt 64 (length (drop start ks))) [
      | inl more ↦
          let high : place ≤ stop = within (omega (arith, is, long, more)) in
          let same : place - start ≡ 64 = omega (arith, is, past, high, long, more) in
          ap (λ (n : ℕ). take n (drop start ks)) same
      | inr few ↦ take_past (place - start) (drop start ks) (omega (arith, is, past, long, few)) ∙ sym (take_past 64 (drop start ks) few)
    ]

-- ---- one replica after the other

abbrev others_below : ℕ → ℕ → List ℕ
others_below me n = filter (λ r. not (r == me)) (numbers_below n)

others_next : (me n : ℕ) → others_below me (n + 1) ≡ others_below me n ++ filter (λ r. not (r == me)) (n ∷ [])
others_next me n = ap (others_below me) (add-one n) ∙ filter-append (λ r. not (r == me)) (numbers_below n) (n ∷ [])

other_next : (me n : ℕ) → (n == me) ≡ false → others_below me (n + 1) ≡ others_below me n ++ n ∷ []
other_next me n other = others_next me n ∙ (rw other refl)

self_next : (me n : ℕ) → (n == me) ≡ true → others_below me (n + 1) ≡ others_below me n
self_next me n is = others_next me n ∙ (rw is (append-nil (others_below me n)))

pub self_left_out : (me n : ℕ) (log_mod : ℕ → Out) (before sends after : List Parcel) → (n == me) ≡ true
    → sends ≡ before ++ map (parcel (Replica me)) (map log_mod (others_below me n))
    → after ≡ sends → after ≡ before ++ map (parcel (Replica me)) (map log_mod (others_below me (n + 1)))
self_left_out me n log_mod before sends after is sent same =
    same ∙ sent ∙ ap (λ (rs : List ℕ). before ++ map (parcel (Replica me)) (map log_mod rs)) (sym (self_next me n is))

pub other_sent : (me n : ℕ) (log_mod : ℕ → Out) (before sends after : List Parcel) → (n == me) ≡ false
    → sends ≡ before ++ map (parcel (Replica me)) (map log_mod (others_below me n))
    → after ≡ sends ++ map (parcel (Replica me)) (log_mod n ∷ []) → after ≡ before ++ map (parcel (Replica me)) (map log_mod (others_below me (n + 1)))
other_sent me n log_mod before sends after other is next =
    let first = map log_mod (others_below me n) in
    let all : map log_mod (others_below me (n + 1)) ≡ first ++ log_mod n ∷ [] =
    ap (map log_mod) (other_next me n other) ∙ map-append log_mod (others_below me n) (n ∷ []) in
    next ∙ ap (λ (xs : List Parcel). xs ++ map (parcel (Replica me)) (log_mod n ∷ [])) is
    ∙ append_assoc before (map (parcel (Replica me)) first) (map (parcel (Replica me)) (log_mod n ∷ []))
    ∙ ap (λ (xs : List Parcel). before ++ xs) (sym (map-append (parcel (Replica me)) first (log_mod n ∷ [])))
    ∙ ap (λ (xs : List Out). before ++ map (parcel (Replica me)) xs) (sym all)

-- ---- the entries that are asked for

next_asked : (p : Entry → Bool) (es : List Entry) (i : ℕ) (e : Entry) → slice_get es i ≡ Some e
    → filter p (take (i + 1) es) ≡ filter p (take i es) ++ filter p (e ∷ [])
next_asked p es i e at = ap (filter p) (take_next es i e at) ∙ filter-append p (take i es) (e ∷ [])

pub asked_in : (p : Entry → Bool) (es : List Entry) (i : ℕ) (e : Entry) → slice_get es i ≡ Some e → p e ≡ true
    → filter p (take (i + 1) es) ≡ filter p (take i es) ++ e ∷ []
asked_in p es i e at is = next_asked p es i e at ∙ (rw is refl)

pub asked_out : (p : Entry → Bool) (es : List Entry) (i : ℕ) (e : Entry) → slice_get es i ≡ Some e → p e ≡ false
    → filter p (take (i + 1) es) ≡ filter p (take i es)
asked_out p es i e at not-is = next_asked p es i e at ∙ (rw not-is (append-nil (filter p (take i es))))
