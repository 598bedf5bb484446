-- Reading one item after the other, as a loop does.
use Rattle.std.proofs.Common.{◌≡◌, ℕ, suc, ◌-◌, ◌+◌, ◌≤◌, ◌<◌, List, [], ◌∷◌, ◌++◌, Result, Ok, Err, refl, sym, ap, ◌∙◌, append_assoc, arith}
use Rattle.std.proofs.lemmas.List.{append-nil}
use Rattle.nz_msg.specs.declared.fault.Fault.{Fault}
use Rattle.nz_msg.specs.declared.fault.Fault.TheVariants as faults
use Rattle.nz_msg.specs.Codec.{Codec, ◌>>=◌, items_at}
use Rattle.nz_msg.specs.Reading.{Fails}

-- what was read before, and what is still read
abbrev pub with_earlier : {A : Type 0} → List A → Result (List A × List ℕ) ℕ → Result (List A × List ℕ) ℕ
with_earlier prefix read = read >>= λ x. Ok (prefix ++ x.0, x.1)

-- With nothing read before, a reading is as it was.
pub begins : {A : Type 0} (read : Result (List A × List ℕ) ℕ) → with_earlier [] read ≡ read
begins (Ok x) = refl
begins (Err left) = refl

regroup : {A : Type 0} (prefix : List A) (x : A) (read : Result (List A × List ℕ) ℕ)
    → with_earlier prefix (read >>= λ y. Ok (x ∷ y.0, y.1)) ≡ with_earlier (prefix ++ x ∷ []) read
regroup {A} prefix x (Ok y) = ap (λ (xs : List A). Ok (xs, y.1)) (simp append_assoc)
regroup prefix x (Err left) = refl

pub goes_on : {A : Type 0} (item : List A → Codec A) (prefix : List A) (count i : ℕ) (bytes : List ℕ) (x : A)
    (after : List ℕ) (total : Result (List A × List ℕ) ℕ) → i < count → (item prefix).get bytes ≡ Ok (x, after)
    → with_earlier prefix (items_at item prefix (count - i) bytes) ≡ total
    → with_earlier (prefix ++ x ∷ []) (items_at item (prefix ++ x ∷ []) (count - (i + 1)) after) ≡ total
unfolding items_at
goes_on item prefix count i bytes x after total lt h so_far =
    let k : count - i ≡ suc (count - (i + 1)) = omega arith in
    let one : with_earlier prefix (items_at item prefix (count - i) bytes)
    ≡ with_earlier (prefix ++ x ∷ []) (items_at item (prefix ++ x ∷ []) (count - (i + 1)) after) =
    rw (k, h) (regroup prefix x (items_at item (prefix ++ x ∷ []) (count - (i + 1)) after)) in
    sym one ∙ so_far

-- An item that cannot be read ends the reading of the list with its fault.
pub ends : {A : Type 0} (item : List A → Codec A) (fault : Fault) (prefix : List A) (count i : ℕ) (bytes : List ℕ)
    (total : Result (List A × List ℕ) ℕ) → i < count → Fails fault ((item prefix).get bytes)
    → with_earlier prefix (items_at item prefix (count - i) bytes) ≡ total → Fails fault total
unfolding items_at
ends item faults.NoMemory prefix count i bytes total lt h so_far = tt
ends item (faults.Bad left) prefix count i bytes total lt h so_far =
    let k : count - i ≡ suc (count - (i + 1)) = omega arith in
    let one : with_earlier prefix (items_at item prefix (count - i) bytes) ≡ Err left = rw (k, h) refl in
    sym so_far ∙ one

pub is_done : {A : Type 0} (item : List A → Codec A) (prefix : List A) (count i : ℕ) (bytes : List ℕ) (total : Result (List A × List ℕ) ℕ)
    → count ≤ i → with_earlier prefix (items_at item prefix (count - i) bytes) ≡ total → total ≡ Ok (prefix, bytes)
unfolding items_at
is_done {A} item prefix count i bytes total le so_far =
    let k : count - i ≡ 0 = omega arith in
    let one : with_earlier prefix (items_at item prefix (count - i) bytes) ≡ Ok (prefix, bytes) =
    rw k (ap (λ (xs : List A). Ok (xs, bytes)) (append-nil prefix)) in
    sym so_far ∙ one
