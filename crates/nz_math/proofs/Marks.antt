-- A set as nine marks, and as the list of its members.
use Rattle.std.proofs.Common.{◌≡◌, ℕ, ◌<◌, ◌≤◌, Bool, true, false, ◌&&◌, ◌||◌, eqb, ltb, List, length, get_or}
use Rattle.std.proofs.Common.{set, refl, sym, arith, inl, inr, get_or-set_other, get_or-set_same}
use Rattle.std.proofs.lemmas.Bool.{cases_lt, cases_eq, eq-eqb, ne_eqb, lt-ltb, le-ltb}
use Rattle.nz_math.specs.Count.{is_in, members_below}
use Rattle.nz_math.proofs.Counting.{is_in-members}

abbrev pub marked : List Bool → List ℕ
marked xs = members_below 9 (λ x. get_or xs x false)

pub is_in-marked : (xs : List Bool) (x : ℕ) → is_in (marked xs) x ≡ (ltb x 9 && get_or xs x false)
is_in-marked xs x = is_in-members 9 (λ y. get_or xs y false) x

pub mark_is : (xs : List Bool) (x : ℕ) → x < 9 → get_or xs x false ≡ is_in (marked xs) x
mark_is xs x lt = let low : ltb x 9 ≡ true = lt-ltb x 9 lt in rw (is_in-marked xs x, low) refl

pub none_past : (xs : List Bool) (x : ℕ) → 9 ≤ x → is_in (marked xs) x ≡ false
none_past xs x le = let high : ltb x 9 ≡ false = le-ltb x 9 le in rw (is_in-marked xs x, high) refl

-- the mark of one number more
pub is_in-inserted : (xs : List Bool) (r x : ℕ) → r ≤ 8 → length xs ≡ 9 → is_in (marked (set xs r true)) x ≡ (eqb r x || is_in (marked xs) x)
is_in-inserted xs r x low len =
    elim (cases_lt x 9) [
      | inr le ↦
          let apart : eqb r x ≡ false = ne_eqb r x (λ e. absurd (omega arith)) in
          rw (none_past (set xs r true) x le, none_past xs x le, apart) refl
      | inl lt ↦
          rw (← mark_is (set xs r true) x lt, ← mark_is xs x lt)
          (elim (cases_eq r x) [
            | inl same ↦
                let here : eqb r x ≡ true = eq-eqb r x same in
                let within : r < length xs = omega arith in
                rw (here, ← same) (get_or-set_same xs r true false within)
            | inr other ↦
                let apart : eqb r x ≡ false = ne_eqb r x other in
                let differs : x ≡ r → ⊥ = λ e. other (sym e) in
                rw apart (get_or-set_other xs r x true false differs)
          ])
    ]
