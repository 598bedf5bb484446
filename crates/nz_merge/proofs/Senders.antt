-- How many reports come from the members of a quorum.
use Rattle.std.proofs.Common.{◌≡◌, ℕ, zero, suc, ◌+◌, ◌<◌, ◌≤◌, Bool, true, false, ◌&&◌, ◌||◌, cond}
use Rattle.std.proofs.Common.{eqb, List, [], ◌∷◌, length, refl, sym, ap, ◌∙◌, arith, inl, inr}
use Rattle.std.specs.List.{filter, Contains}
use Rattle.std.proofs.lemmas.Bool.{cases_eq, eq-eqb, ne_eqb, cases_Bool, or_right}
use Rattle.std.proofs.lemmas.List.{length-map}
use Rattle.nz_math.specs.Count.{count_below, both, everyone, is_in, IsChoice}
use Rattle.nz_math.specs.Quorum.{group_size, slow_quorum, fast_quorum, half_up}
use Rattle.nz_math.proofs.Counting.{counting, count_same, count_everyone, count_add, count_none, count_choice}
use Rattle.nz_math.proofs.Sharing.{lists_share}
use Rattle.nz_merge.specs.declared.report.Report.{Report}
use Rattle.nz_merge.specs.Sender.{senders}

-- ---- items of a list

pub contains_first : {X : Type 0} (x : X) (xs : List X) → Contains (x ∷ xs) x
contains_first x xs = (zero, omega arith, refl)

pub contains_later : {X : Type 0} (x : X) (xs : List X) (y : X) → Contains xs y → Contains (x ∷ xs) y
contains_later x xs y h = let within = h.1 in (suc h.0, omega (arith, within), h.2)

skip : {X : Type 0} (b : Bool) (x : X) (xs : List X) (n : ℕ) → n ≤ length xs → n ≤ length (cond b (x ∷ xs) xs)
skip true x xs n h = omega (arith, h)
skip false x xs n h = h

skip_twice : {X : Type 0} (a : X → Bool) (b : Bool) (x : X) (xs : List X) (n : ℕ) → n ≤ length (filter a xs) → n ≤ length (filter a (cond b (x ∷ xs) xs))
skip_twice a true x xs n h = skip (a x) x (filter a xs) n h
skip_twice a false x xs n h = h

-- two tests that follow from a third are passed by as many
pub pass_twice : {X : Type 0} (p a b : X → Bool) (xs : List X) → ((x : X) → Contains xs x → p x ≡ true → (b x ≡ true) × (a x ≡ true))
    → length (filter p xs) ≤ length (filter a (filter b xs))
pass_twice p a b [] h = omega arith
pass_twice p a b (x ∷ xs) h =
    let rest = pass_twice p a b xs (λ y there. h y (contains_later x xs y there)) in
    elim (cases_Bool (p x)) [
      | inl here ↦ let two = h x (contains_first x xs) here in rw (here, two.0, two.1) (omega (arith, rest))
      | inr away ↦ rw away (skip_twice a (b x) x (filter b xs) (length (filter p xs)) rest)
    ]

-- ---- senders

-- the report of a sender
pub sender_of : (reports : List Report) (y : ℕ) → is_in (senders reports) y ≡ true → (c : Report) × Contains reports c × (c.sender ≡ y)
sender_of [] y h = absurd cc
sender_of (c ∷ reports) y h =
    elim (cases_eq c.sender y) [
      | inl same ↦ (c, contains_first c reports, same)
      | inr other ↦
          let apart : eqb c.sender y ≡ false = ne_eqb c.sender y other in
          let rest = sender_of reports y (rw apart at h) in
          (rest.0, contains_later c reports rest.0 rest.1, rest.2)
    ]

pass_first : (test : ℕ → Bool) (n x : ℕ) (i : Bool) → test n ≡ true → ((eqb n x || i) && test x) ≡ (eqb n x || (i && test x))
pass_first test n x i e =
    elim (cases_eq n x) [
      | inl same ↦ let here : eqb n x ≡ true = eq-eqb n x same in let passes : test x ≡ true = ap test (sym same) ∙ e in rw (here, passes) refl
      | inr other ↦ let apart : eqb n x ≡ false = ne_eqb n x other in rw apart refl
    ]

fail_first : (test : ℕ → Bool) (n x : ℕ) (i : Bool) → test n ≡ false → ((eqb n x || i) && test x) ≡ (i && test x)
fail_first test n x i e =
    elim (cases_eq n x) [
      | inl same ↦ let fails : test x ≡ false = ap test (sym same) ∙ e in rw fails (none (eqb n x || i) ∙ sym (none i))
      | inr other ↦ let apart : eqb n x ≡ false = ne_eqb n x other in rw apart refl
    ]
  where
    none : (a : Bool) → (a && false) ≡ false
    none true = refl
    none false = refl

-- the reports of different senders that pass a test are as many as the senders that do
pub count_senders : (n : ℕ) (test : ℕ → Bool) (reports : List Report) → IsChoice n (senders reports)
    → count_below n (both (is_in (senders reports)) test) ≡ length (filter (λ c. test c.sender) reports)
count_senders n test [] h = count_none n (both (is_in []) test) (λ x lt. refl)
count_senders n test (c ∷ reports) h =
    let later = both (is_in (senders reports)) test in
    let below : (x : ℕ) → is_in (senders reports) x ≡ true → x < n = λ x there. h.below x (or_right (eqb c.sender x) (is_in (senders reports) x) there) in
    let rest = count_senders n test reports (record { distinct = h.distinct.1; below = below }) in
    let own : eqb c.sender c.sender ≡ true = eq-eqb c.sender c.sender refl in
    let low : c.sender < n = h.below c.sender (rw own refl) in
    elim (cases_Bool (test c.sender)) [
      | inl here ↦
          let same = count_same n (both (is_in (senders (c ∷ reports))) test) (λ x. eqb c.sender x || later x)
          (λ x lt. pass_first test c.sender x (is_in (senders reports) x) here) in
          let fresh : later c.sender ≡ false = rw h.distinct.0 refl in
          let more = count_add n c.sender later low fresh in
          rw here (omega (arith, same, more, rest))
      | inr away ↦
          let same = count_same n (both (is_in (senders (c ∷ reports))) test) later (λ x lt. fail_first test c.sender x (is_in (senders reports) x) away) in
          rw away (same ∙ rest)
    ]

-- ---- quorums and the senders of f + 1 reports

-- a fast quorum and the senders share one more than half of f, rounded up
pub fast_members : (f : ℕ) (quorum : List ℕ) (reports : List Report) → IsChoice (group_size f) quorum → fast_quorum f ≤ length quorum
    → IsChoice (group_size f) (senders reports) → length reports ≡ slow_quorum f → half_up f + 1 ≤ length (filter (λ c. is_in quorum c.sender) reports)
fast_members f quorum reports choice enough members size =
    let n = group_size f in
    let sum = counting n (is_in (senders reports)) (is_in quorum) everyone (λ x lt h. refl) (λ x lt h. refl) in
    let among = count_senders n (is_in quorum) reports members in
    let first = count_choice n (senders reports) members in
    let second = count_choice n quorum choice in
    let long = length-map reports (λ (c : Report). c.sender) in
    omega (arith, sum, count_everyone n, among, first, second, long, enough, size)

-- a slow quorum and the senders share one
pub slow_member : (f : ℕ) (quorum : List ℕ) (reports : List Report) → IsChoice (group_size f) quorum → slow_quorum f ≤ length quorum
    → IsChoice (group_size f) (senders reports) → length reports ≡ slow_quorum f → (c : Report) × Contains reports c × (is_in quorum c.sender ≡ true)
slow_member f quorum reports choice enough members size =
    let long = length-map reports (λ (c : Report). c.sender) in
    let y = lists_share (group_size f) quorum (senders reports) [] choice members (omega (arith, enough, size, long)) in
    let c = sender_of reports y.0 y.1.in_second in
    (c.0, c.1, ap (is_in quorum) c.2 ∙ y.1.in_first)
