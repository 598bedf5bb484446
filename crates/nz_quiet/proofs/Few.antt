-- Entries with ids of their own are at most as many as the scripts have requests.
use Rattle.std.proofs.Common.{◌≡◌, ℕ, zero, suc, ◌+◌, ◌-◌, ◌<◌, ◌≤◌, Bool, true, false, ◌||◌, eqb, List, [], ◌∷◌, length, map, fold}
use Rattle.std.proofs.Common.{refl, sym, ap, subst, ◌∙◌, arith, inl, inr}
use Rattle.std.specs.List.{AllByRecursion}
use Rattle.std.proofs.lemmas.List.{length-map}
use Rattle.std.proofs.lemmas.Bool.{cases_Bool, eqb-true, or_parts}
use Rattle.nz_base.specs.declared.key.Entry.{Entry}
use Rattle.nz_base.specs.declared.scenario.Request.{Request}
use Rattle.nz_base.specs.Key.{id_eq, id_of}
use Rattle.nz_base.specs.Log.{keys_of, has_id, HaveOwnIds}
use Rattle.nz_base.proofs.Names.{id_eq_self}
use Rattle.nz_math.specs.Count.{is_in, AreDistinct}
use Rattle.nz_math.proofs.Counting.{count_of_list, count-le}
use Rattle.nz_quiet.specs.Requests.{HasRequest, OfScript}

abbrev total : List (List Request) → ℕ
total [] = 0
total (s ∷ ss) = length s + total ss

-- the number of a request among those of all clients
abbrev number : List (List Request) → ℕ → ℕ → ℕ
number [] c num = num
number (s ∷ ss) zero num = num - 1
number (s ∷ ss) (suc c) num = length s + number ss c num

number_below : (ss : List (List Request)) (c num : ℕ) → HasRequest ss c num → number ss c num < total ss
number_below [] c num h = absurd h
number_below (s ∷ ss) zero num h = let least = h.0 in let most = h.1 in omega (arith, least, most)
number_below (s ∷ ss) (suc c) num h = let ih = number_below ss c num h in omega (arith, ih)

number_same : (ss : List (List Request)) (c d num other : ℕ) → HasRequest ss c num → HasRequest ss d other → number ss c num ≡ number ss d other
    → (c ≡ d) × (num ≡ other)
number_same [] c d num other h k same = absurd h
number_same (s ∷ ss) zero zero num other h k same = let a = h.0 in let b = k.0 in (refl, omega (arith, a, b, same))
number_same (s ∷ ss) zero (suc d) num other h k same = let a = h.0 in let b = h.1 in absurd (omega (arith, a, b, same))
number_same (s ∷ ss) (suc c) zero num other h k same = let a = k.0 in let b = k.1 in absurd (omega (arith, a, b, same))
number_same (s ∷ ss) (suc c) (suc d) num other h k same =
    let t = number_same ss c d num other h k (omega (arith, same)) in (ap suc t.0, t.1)

numbers : List (List Request) → List Entry → List ℕ
numbers ss es = map (λ (e : Entry). number ss e.key.client e.key.num) es

fresh : (ss : List (List Request)) (es : List Entry) (e : Entry) → AllByRecursion (OfScript ss) es → OfScript ss e
    → has_id (keys_of es) (id_of e.key) ≡ false → is_in (numbers ss es) (number ss e.key.client e.key.num) ≡ false
unfolding numbers
fresh ss [] e all own none = refl
fresh ss (x ∷ es) e all own none =
    let parts = or_parts (id_eq (id_of e.key) (id_of x.key)) (has_id (keys_of es) (id_of e.key)) none in
    let rest = fresh ss es e all.1 own parts.1 in
    elim (cases_Bool (eqb (number ss x.key.client x.key.num) (number ss e.key.client e.key.num))) [
      | inr f ↦ ap (λ (b : Bool). b || is_in (numbers ss es) (number ss e.key.client e.key.num)) f ∙ rest
      | inl t ↦
          let same = number_same ss x.key.client e.key.client x.key.num e.key.num all.0 own (eqb-true _ _ t) in
          let id : id_of x.key ≡ id_of e.key = λ i. record { client = same.0 i; num = same.1 i } in
          let yes : id_eq (id_of e.key) (id_of x.key) ≡ true = ap (id_eq (id_of e.key)) id ∙ id_eq_self (id_of e.key) in
          let no = parts.0 in
          absurd cc
    ]

distinct : (ss : List (List Request)) (es : List Entry) → AllByRecursion (OfScript ss) es → HaveOwnIds (keys_of es) → AreDistinct (numbers ss es)
unfolding numbers
distinct ss [] all own = tt
distinct ss (e ∷ es) all own = (fresh ss es e all.1 all.0 own.0, distinct ss es all.1 own.1)

each_below : (ss : List (List Request)) (es : List Entry) (k : ℕ) → AllByRecursion (OfScript ss) es → is_in (numbers ss es) k ≡ true → k < total ss
unfolding numbers
each_below ss [] k all h = absurd cc
each_below ss (e ∷ es) k all h = elim (cases_Bool (eqb (number ss e.key.client e.key.num) k)) [
  | inl t ↦ subst (λ (n : ℕ). n < total ss) (eqb-true _ k t) (number_below ss e.key.client e.key.num all.0)
  | inr f ↦ each_below ss es k all.1 (sym (ap (λ (b : Bool). b || is_in (numbers ss es) k) f) ∙ h)
]

sum_from : (ss : List (List Request)) (n : ℕ) → fold (λ m k. m + k) n (map length ss) ≡ n + total ss
sum_from [] n = omega arith
sum_from (s ∷ ss) n = let ih = sum_from ss (n + length s) in omega (arith, ih)

pub few_entries : (ss : List (List Request)) (es : List Entry) → AllByRecursion (OfScript ss) es → HaveOwnIds (keys_of es)
    → length es ≤ fold (λ m k. m + k) 0 (map length ss)
unfolding numbers
few_entries ss es all own =
    let n = total ss in
    let counted = count_of_list n (numbers ss es) (distinct ss es all own) (λ k h. each_below ss es k all h) in
    let most = count-le n (is_in (numbers ss es)) in
    let many = length-map es (λ (e : Entry). number ss e.key.client e.key.num) in
    let sum = sum_from ss 0 in
    omega (arith, counted, most, many, sum)
