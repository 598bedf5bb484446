-- The example has the ground: no premise contradicts the others.
use Rattle.std.proofs.Common.{◌≡◌, ℕ, zero, suc, ◌<◌, ◌≤◌, true, false, ◌&&◌, ◌||◌, eqb, leb, List}
use Rattle.std.proofs.Common.{[], ◌∷◌, length, refl, sym, ap, subst, ◌∙◌, inl, inr, ◌⊎◌, arith}
use Rattle.std.proofs.lemmas.Bool.{cases_lt, cases_eq, eqb-true, ltb-true, lt-ltb, leb-true, le-leb, and_from, and_parts, or_cases, or_left, or_right}
use Rattle.nz_base.specs.Moments.{At}
use Rattle.nz_base.proofs.Moments.{at_self, at_shorter, at_order, at_same}
use Rattle.nz_math.proofs.Twos.{of_two, two_choice}
use Rattle.nz_laws_cv.specs.Notions.{Notions, IsHeldByMany}
use Rattle.nz_laws_cv.specs.Ground.{TellsVector, IsUsed, IsCompletion, IsReport, IsBegin, HasModes, Ground}
use Rattle.nz_laws_cv.specs.Tests.{notions}
use Rattle.nz_laws_cv.specs.Example.{tests, first_records, run, is_up_after, is_normal_after, one_from, inc_after, view_after, last_after}
use Rattle.nz_laws_cv.specs.Example.{knows_from, place_after, are_first, completes_at, answers_at, begins_at, reports_at}

-- what is read of the run
abbrev N : Notions ℕ
N = notions tests

-- ---- moments

length_first : (n : ℕ) → length (first_records n) ≡ n
length_first zero = refl
length_first (suc n) = ap suc (length_first n)

short : (K : List ℕ) → At run K → length K ≤ 12
short K at = let le = at_shorter run K at in omega (arith, le)

-- the moment after m records
at_number : (n m : ℕ) → m ≤ n → At (first_records n) (first_records m)
at_number zero m le = let e : m ≡ 0 = omega (arith, le) in ap first_records e
at_number (suc n) m le = elim (cases_eq m (suc n)) [ inl e ↦ inl (ap first_records e) | inr other ↦ inr (at_number n m (omega (arith, other, le))) ]

at_moment : (K : List ℕ) (m : ℕ) → At run K → m ≤ length K → At K (first_records m)
at_moment K m at le =
    let len = length_first m in
    let few = short K at in
    at_order run (first_records m) K (at_number 12 m (omega (arith, few, le))) at (omega (arith, len, le))

first_is : (n : ℕ) (K : List ℕ) → are_first n K ≡ true → K ≡ first_records n
first_is zero [] h = refl
first_is zero (r ∷ K) h = absurd cc
first_is (suc n) [] h = absurd cc
first_is (suc n) (r ∷ K) h =
    let same = eqb-true n r (and_parts (eqb n r) (are_first n K) h).0 in
    let rest = first_is n K (and_parts (eqb n r) (are_first n K) h).1 in
    ap (λ (x : ℕ). x ∷ K) (sym same) ∙ ap (λ (l : List ℕ). n ∷ l) rest

is_first : (K : List ℕ) → At run K → length K ≡ 9 → are_first 9 K ≡ true
is_first K at nine =
    let same = at_same run K (first_records 9) at (at_number 12 9 (omega arith)) nine in
    subst (λ (l : List ℕ). are_first 9 l ≡ true) (sym same) refl

-- ---- status, incarnations and views

normal_up : (x n : ℕ) → is_normal_after x n ≡ true → is_up_after x n ≡ true
normal_up zero n h = refl
normal_up (suc zero) n h = h
normal_up (suc (suc x)) n h = refl

one_up : (n : ℕ) → (eqb n 0 || leb 9 n) ≡ true → (n ≡ 0) ⊎ (9 ≤ n)
one_up n h = elim (or_cases (eqb n 0) (leb 9 n) h) [ inl e ↦ inl (eqb-true n 0 e) | inr e ↦ inr (leb-true 9 n e) ]

one_late : (n : ℕ) → 9 ≤ n → (eqb n 0 || leb 9 n) ≡ true
one_late n le = or_right (eqb n 0) (leb 9 n) (le-leb 9 n le)

no_restart : (x : ℕ) → inc_after x 0 ≡ 0
no_restart zero = refl
no_restart (suc zero) = refl
no_restart (suc (suc x)) = refl

inc_grows : (x n m : ℕ) → n ≤ m → inc_after x n ≤ inc_after x m
inc_grows zero n m le = omega arith
inc_grows (suc zero) n m le = omega (arith, le)
inc_grows (suc (suc x)) n m le = omega arith

view_grows : (x n m : ℕ) → n ≤ m → view_after x n ≤ view_after x m
view_grows zero n m le = omega arith
view_grows (suc zero) n m le = omega (arith, le)
view_grows (suc (suc zero)) n m le = omega (arith, le)
view_grows (suc (suc (suc x))) n m le = omega arith

last_grows : (x n m : ℕ) → n ≤ m → last_after x n ≤ last_after x m
last_grows zero n m le = omega arith
last_grows (suc zero) n m le = omega (arith, le)
last_grows (suc (suc x)) n m le = omega arith

one_grows : (start n m : ℕ) → n ≤ m → one_from start n ≤ one_from start m
one_grows start n m le = omega (arith, le)

place_grows : (x k n m : ℕ) → n ≤ m → place_after x k n ≤ place_after x k m
place_grows x zero n m le = omega arith
place_grows x (suc zero) n m le = one_grows (knows_from x) n m le
place_grows x (suc (suc k)) n m le = omega arith

own_stays : (x n m : ℕ) → inc_after x n ≡ inc_after x m → is_up_after x n ≡ true → is_up_after x m ≡ true → place_after x x n ≡ place_after x x m
own_stays zero n m same up_n up_m = refl
own_stays (suc zero) n m same up_n up_m = let a = one_up n up_n in let b = one_up m up_m in omega (arith, same, a, b)
own_stays (suc (suc x)) n m same up_n up_m = refl

-- who is up after a record was so before, but for the completion
stays : (x n : ℕ) → is_up_after x (suc n) ≡ true → ((is_up_after x n ≡ true) × (inc_after x n ≡ inc_after x (suc n))) ⊎ ((x ≡ 1) × (suc n ≡ 9))
stays zero n up = inl (refl, refl)
stays (suc zero) n up = elim (cases_lt n 9) [
  | inl early ↦ let now = one_up (suc n) up in inr (refl, omega (arith, early, now))
  | inr late ↦ inl (one_late n late, omega (arith, late))
]
stays (suc (suc x)) n up = inl (refl, refl)

mode : (x n : ℕ) → is_normal_after x n ≡ true → last_after x n ≡ view_after x n
mode zero n h = refl
mode (suc zero) n h = refl
mode (suc (suc zero)) n h = let early = ltb-true n 11 h in omega (arith, early)
mode (suc (suc (suc x))) n h = refl

changing : (x n : ℕ) → is_up_after x n ≡ true → (is_normal_after x n ≡ true) ⊎ (last_after x n < view_after x n)
changing zero n up = inl refl
changing (suc zero) n up = inl up
changing (suc (suc zero)) n up = elim (cases_lt n 11) [ inl early ↦ inl (lt-ltb n 11 early) | inr late ↦ inr (omega (arith, late)) ]
changing (suc (suc (suc x))) n up = inl refl

began : (x n v : ℕ) → n ≤ 12 → is_normal_after x n ≡ true → view_after x n ≡ v → 0 < v → (n ≡ 12) × (v ≡ 1)
began zero n v few h is more = absurd (omega (arith, is, more))
began (suc zero) n v few h is more = (omega (arith, few, is, more), omega (arith, few, is, more))
began (suc (suc zero)) n v few h is more = let early = ltb-true n 11 h in absurd (omega (arith, early, is, more))
began (suc (suc (suc x))) n v few h is more = absurd (omega (arith, is, more))

modes : HasModes N run
modes = record {
  normal_up = λ x K h. normal_up x (length K) h;
  first = no_restart;
  grows = λ x K L at older. inc_grows x (length K) (length L) (at_shorter L K older);
  stays = λ x r K at up. elim (stays x (length K) up) [
    | inl s ↦ inl (record { up = s.0; same = s.1 })
    | inr c ↦ inr (and_from (eqb x 1) (are_first 9 (r ∷ K)) (subst (λ (y : ℕ). eqb y 1 ≡ true) (sym c.0) refl) (is_first (r ∷ K) at c.1))
  ];
  mode = λ x K at h. mode x (length K) h;
  changing = λ x K at up. changing x (length K) up;
  later = λ x K L at older same up_k up_l.
      let le = at_shorter L K older in
      record {
        view = view_grows x (length K) (length L) le;
        last = last_grows x (length K) (length L) le;
        places = λ k. place_grows x k (length K) (length L) le;
        own = own_stays x (length K) (length L) same up_k up_l;
      };
  begun = λ x v K at is more.
      let b = began x (length K) v (short K at) is.normal is.view more in
      let whole = at_same run K run at (at_self run) b.0 in
      let all = subst (λ (l : List ℕ). are_first 12 l ≡ true) (sym whole) refl in
      (K, and_from (eqb v 1) (are_first 12 K) (subst (λ (y : ℕ). eqb y 1 ≡ true) (sym b.1) refl) all, at_self K);
}

own_zero : (x n : ℕ) → inc_after x n ≡ 0 → place_after x x n ≡ 0
own_zero zero n none = refl
own_zero (suc zero) n none = omega (arith, none)
own_zero (suc (suc x)) n none = refl

-- ---- two of three

two_hold : {Holds : ℕ → List ℕ → Type 0} → (a b : ℕ) (S T : List ℕ) → a < 3 → b < 3 → (b ≡ a → ⊥) → Holds a S → Holds b T → IsHeldByMany 1 Holds
two_hold {Holds = Holds} a b S T low less apart first second = record {
  members = a ∷ b ∷ [];
  choice = two_choice 3 a b low less apart;
  enough = omega arith;
  each = λ y h. elim (of_two a b y h) [
    | inl e ↦ (S, subst (λ z. Holds z S) e first)
    | inr e ↦ (T, subst (λ z. Holds z T) e second)
  ];
}

-- ---- the vectors that replica 1 was told

claimed : (x : ℕ) (K : List ℕ) → At run K → is_up_after x (length K) ≡ true → 0 < inc_after x (length K)
    → IsHeldByMany 1 (TellsVector N x K)
claimed zero K at up more = absurd (omega (arith, more))
claimed (suc zero) K at up more =
    let late = one_up (length K) up in
    two_hold 0 2 (first_records 3) (first_records 4) (omega arith) (omega arith) (λ e. cc)
    (record { at = at_moment K 3 at (omega (arith, late, more)); up = refl; inside = omega (arith, late, more); below = omega (arith, late, more) })
    (record { at = at_moment K 4 at (omega (arith, late, more)); up = refl; inside = omega (arith, late, more); below = omega (arith, late, more) })
claimed (suc (suc x)) K at up more = absurd (omega (arith, more))

-- ---- the completion

pub record CompletesAt (m : ℕ) (C : List ℕ) : Type 0 where
  pub who : m ≡ 1
  pub at : At run C
  pub count : length C ≡ 9

completes_is : (m : ℕ) (C : List ℕ) → completes_at m C ≡ true → CompletesAt m C
completes_is m C h =
    let is = first_is 9 C (and_parts (eqb m 1) (are_first 9 C) h).1 in
    record { who = eqb-true m 1 (and_parts (eqb m 1) (are_first 9 C) h).0; at = subst (At run) (sym is) (at_number 12 9 (omega arith)); count = ap length is }

pub record AnswersAt (y : ℕ) (T : List ℕ) : Type 0 where
  pub at : At run T
  pub answer : ((y ≡ 0) × (length T ≡ 6)) ⊎ ((y ≡ 2) × (length T ≡ 7))

answers_is : (m : ℕ) (C : List ℕ) (y : ℕ) (T : List ℕ) → answers_at m C y T ≡ true → AnswersAt y T
answers_is m C y T h =
    elim (or_cases (eqb y 0 && are_first 6 T) (eqb y 2 && are_first 7 T) (and_parts (completes_at m C) _ h).1) [
      | inl e ↦
          let is = first_is 6 T (and_parts (eqb y 0) (are_first 6 T) e).1 in
          let who = eqb-true y 0 (and_parts (eqb y 0) (are_first 6 T) e).0 in
          record { at = subst (At run) (sym is) (at_number 12 6 (omega arith)); answer = inl (who, ap length is) }
      | inr e ↦
          let is = first_is 7 T (and_parts (eqb y 2) (are_first 7 T) e).1 in
          let who = eqb-true y 2 (and_parts (eqb y 2) (are_first 7 T) e).0 in
          record { at = subst (At run) (sym is) (at_number 12 7 (omega arith)); answer = inr (who, ap length is) }
    ]

off_one : (y m n u k : ℕ) → ¬ (1 ≡ k) → place_after y k n ≤ place_after m k u
off_one y m n u zero other = omega arith
off_one y m n u (suc zero) other = absurd (other refl)
off_one y m n u (suc (suc k)) other = omega arith

used_zero : (C T : List ℕ) → At run T → length C ≡ 9 → length T ≡ 6 → IsUsed N run 1 C 0 T
used_zero C T at nine six = record {
  at = at;
  before = omega (arith, nine, six);
  up = refl;
  inside = omega (arith, nine, six);
  counter = omega (arith, nine, six);
  view = omega arith;
  merged = λ k other. off_one 0 1 (length T) (length C) k other;
}

used_two : (C T : List ℕ) → At run T → length C ≡ 9 → length T ≡ 7 → IsUsed N run 1 C 2 T
used_two C T at nine seven = record {
  at = at;
  before = omega (arith, nine, seven);
  up = refl;
  inside = omega (arith, nine, seven);
  counter = omega (arith, nine, seven);
  view = omega (arith, seven);
  merged = λ k other. off_one 2 1 (length T) (length C) k other;
}

answered : (C : List ℕ) → length C ≡ 9 → (y : ℕ) (T : List ℕ) → AnswersAt y T → IsUsed N run 1 C y T
answered C nine y T u = elim (u.answer) [
  | inl a ↦ subst (λ z. IsUsed N run 1 C z T) (sym a.0) (used_zero C T u.at nine a.1)
  | inr a ↦ subst (λ z. IsUsed N run 1 C z T) (sym a.0) (used_two C T u.at nine a.1)
]

completed_one : (C : List ℕ) → completes_at 1 C ≡ true → IsCompletion N run 1 C
completed_one C h =
    let c = completes_is 1 C h in
    let nine = c.count in
    record {
      at = c.at;
      normal = one_late (length C) (omega (arith, nine));
      follows = λ e. absurd (omega (arith, nine, e));
      answers = two_hold 0 2 (first_records 6) (first_records 7) (omega arith) (omega arith) (λ e. cc)
          (and_from (completes_at 1 C) true h refl)
          (and_from (completes_at 1 C) true h refl);
      answer = λ y T u. answered C nine y T (answers_is 1 C y T u);
      consistent = λ y x S T s t. elim (answers_is 1 C x T t).answer [
        | inl a ↦ off_one y x (length S) (length T) x (λ e. let z = a.0 in cc)
        | inr a ↦ off_one y x (length S) (length T) x (λ e. let z = a.0 in cc)
      ];
    }

completion : (m : ℕ) (C : List ℕ) → completes_at m C ≡ true → IsCompletion N run m C
completion m C h =
    let who = (completes_is m C h).who in
    subst (λ z. IsCompletion N run z C) (sym who) (completed_one C (subst (λ z. completes_at z C ≡ true) who h))

-- ---- the begin

pub record BeginsAt (w : ℕ) (B : List ℕ) : Type 0 where
  pub view : w ≡ 1
  pub whole : B ≡ run

begins_is : (w : ℕ) (B : List ℕ) → begins_at w B ≡ true → BeginsAt w B
begins_is w B h = record { view = eqb-true w 1 (and_parts (eqb w 1) (are_first 12 B) h).0; whole = first_is 12 B (and_parts (eqb w 1) (are_first 12 B) h).1 }

pub record ReportsAt (B : List ℕ) (y : ℕ) (Q : List ℕ) : Type 0 where
  pub at : At B Q
  pub report : ((y ≡ 1) × (Q ≡ B)) ⊎ ((y ≡ 2) × (length Q ≡ 11))

reports_is : (B : List ℕ) (y : ℕ) (Q : List ℕ) → reports_at 1 B y Q ≡ true → ReportsAt B y Q
reports_is B y Q h =
    let whole = (begins_is 1 B (and_parts (begins_at 1 B) _ h).0).whole in
    elim (or_cases (eqb y 1 && are_first 12 Q) (eqb y 2 && are_first 11 Q) (and_parts (begins_at 1 B) _ h).1) [
      | inl e ↦
          let same = first_is 12 Q (and_parts (eqb y 1) (are_first 12 Q) e).1 ∙ sym whole in
          record { at = subst (At B) (sym same) (at_self B); report = inl (eqb-true y 1 (and_parts (eqb y 1) (are_first 12 Q) e).0, same) }
      | inr e ↦
          let is = first_is 11 Q (and_parts (eqb y 2) (are_first 11 Q) e).1 in
          let at = subst (λ (l : List ℕ). At l Q) (sym whole) (subst (At run) (sym is) (at_number 12 11 (omega arith))) in
          record { at = at; report = inr (eqb-true y 2 (and_parts (eqb y 2) (are_first 11 Q) e).0, ap length is) }
    ]

reported : (B : List ℕ) → length B ≡ 12 → (y : ℕ) (Q : List ℕ) → ReportsAt B y Q → IsReport N run 1 B y Q
reported B twelve y Q r = elim (r.report) [
  | inl a ↦
      let same : length Q ≡ length B = ap length a.1 in
      subst (λ z. IsReport N run 1 B z Q) (sym a.0) (record {
        at = r.at;
        up = one_late (length Q) (omega (arith, twelve, same));
        view = omega (arith, twelve, same);
        fresh = omega (arith, same);
        merged = λ k other. off_one 1 1 (length Q) (length B) k other;
        own = λ e. a.1;
      })
  | inr a ↦
      let eleven = a.1 in
      subst (λ z. IsReport N run 1 B z Q) (sym a.0) (record {
        at = r.at;
        up = refl;
        view = omega (arith, eleven);
        fresh = omega arith;
        merged = λ k other. off_one 2 1 (length Q) (length B) k other;
        own = λ e. cc;
      })
]

begun_one : (B : List ℕ) → begins_at 1 B ≡ true → IsBegin N run 1 B
begun_one B h =
    let whole = (begins_is 1 B h).whole in
    let at = subst (At run) (sym whole) (at_self run) in
    let twelve : length B ≡ 12 = ap length whole in
    record {
      at = at;
      leads = record { normal = one_late (length B) (omega (arith, twelve)); view = omega (arith, twelve) };
      turns = λ r K e is. let longer = ap length e in let view = is.view in omega (arith, longer, twelve, view);
      members = two_hold 1 2 B (first_records 11) (omega arith) (omega arith) (λ e. cc)
          (and_from (begins_at 1 B) (are_first 12 B || false) h (or_left (are_first 12 B) false h))
          (and_from (begins_at 1 B) true h refl);
      report = λ y Q r. reported B twelve y Q (reports_is B y Q r);
    }

begin : (w : ℕ) (B : List ℕ) → begins_at w B ≡ true → IsBegin N run w B
begin w B h =
    let view = (begins_is w B h).view in
    subst (λ v. IsBegin N run v B) (sym view) (begun_one B (subst (λ v. begins_at v B ≡ true) view h))

-- the example has the ground
pub ground : Ground N run
ground = record {
  modes = modes;
  own_zero = λ x K at up none. own_zero x (length K) none;
  claimed = claimed;
  completion = completion;
  begin = begin;
}
