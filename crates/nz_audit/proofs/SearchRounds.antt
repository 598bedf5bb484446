-- The search in two rounds: which answers are not traced, since their prefixes are shorter.
use Rattle.std.proofs.Common.{◌≡◌, ℕ, take-append-drop, Bool, true, false, not, cond, List, [], ◌∷◌, ◌++◌, append-nil, append_assoc}
use Rattle.std.proofs.Common.{Option, None, Some, refl, sym, ap, subst, ◌∙◌, inl, inr}
use Rattle.std.specs.Prelude.{slice_get, take, drop}
use Rattle.std.specs.List.{AllByRecursion, filter, filter_map, cons_option}
use Rattle.std.proofs.lemmas.Bool.{cases_Bool}
use Rattle.std.proofs.lemmas.List.Elements.{filter_map-append}
use Rattle.std.proofs.lemmas.Option.{none-some, same_Some}
use Rattle.nz_machine.specs.declared.journal.Journal.{Journal}
use Rattle.nz_machine.specs.runs.World.{Has}
use Rattle.nz_machine.proofs.lists.EachItem.{all_filter}
use Rattle.nz_machine.proofs.runs.Runs.{all_if_has, all_has, has_left, has_right, has_split}
use Rattle.nz_audit.specs.declared.accepted.answers.Source.{Source}
use Rattle.nz_audit.specs.declared.accepted.answers.AcceptedAt.{AcceptedAt}
use Rattle.nz_audit.specs.declared.accepted.answers.Traced.{Traced}
use Rattle.nz_audit.specs.declared.accepted.answers.Counted.{Counted}
use Rattle.nz_audit.specs.declared.prefixes.search.Search.{Search}
use Rattle.nz_audit.specs.Prefixes.{with_source, source_by, traced, all_traced, is_shorter, IsWithin, IsBestIfAny, IsFound}
use Rattle.nz_audit.proofs.LongestPrefixes.{best_stays}
use Rattle.nz_audit.proofs.SearchFinds.{found_among}

-- ---- items of lists

has_given : {X Y : Type 0} (h : X → Option Y) (xs : List X) (x : X) (y : Y) → Has xs x → h x ≡ Some y → Has (filter_map h xs) y
has_given h [] x y k e = absurd k
has_given h (z ∷ xs) x y (inl same) e =
    subst (λ (o : Option _). Has (cons_option o (filter_map h xs)) y) (sym (ap h same ∙ e)) (inl refl)
has_given h (z ∷ xs) x y (inr k) e = later (h z) (has_given h xs x y k e)
  where
    later : (o : Option _) → Has (filter_map h xs) y → Has (cons_option o (filter_map h xs)) y
    later None m = m
    later (Some w) m = inr m

given_has : {X Y : Type 0} (h : X → Option Y) (xs : List X) (y : Y) → Has (filter_map h xs) y → (x : X) × (Has xs x × (h x ≡ Some y))
given_has h [] y k = absurd k
given_has h (z ∷ xs) y k = by_first (h z) refl (λ m. let t = given_has h xs y m in (t.0, (inr t.1.0, t.1.1))) k
  where
    by_first : (o : Option _) → h z ≡ o → (Has (filter_map h xs) y → (x : _) × (Has (z ∷ xs) x × (h x ≡ Some y)))
        → Has (cons_option o (filter_map h xs)) y → (x : _) × (Has (z ∷ xs) x × (h x ≡ Some y))
    by_first None e later m = later m
    by_first (Some w) e later (inl same) = (z, (inl refl, e ∙ ap Some same))
    by_first (Some w) e later (inr m) = later m

has_filtered : {X : Type 0} (p : X → Bool) (xs : List X) (x : X) → Has xs x → p x ≡ true → Has (filter p xs) x
has_filtered p [] x k t = absurd k
has_filtered p (z ∷ xs) x (inl same) t = let here : p z ≡ true = ap p same ∙ t in rw here (inl same)
has_filtered p (z ∷ xs) x (inr k) t =
    elim (cases_Bool (p z)) [ inl here ↦ rw here (inr (has_filtered p xs x k t)) | inr away ↦ rw away (has_filtered p xs x k t) ]

filtered_has : {X : Type 0} (p : X → Bool) (xs : List X) (x : X) → Has (filter p xs) x → Has xs x × (p x ≡ true)
filtered_has p [] x k = absurd k
filtered_has p (z ∷ xs) x k = by_first (p z) refl (λ m. let t = filtered_has p xs x m in (inr t.0, t.1)) k
  where
    by_first : (b : Bool) → p z ≡ b → (Has (filter p xs) x → Has (z ∷ xs) x × (p x ≡ true)) → Has (cond b (z ∷ filter p xs) (filter p xs)) x
        → Has (z ∷ xs) x × (p x ≡ true)
    by_first true e later (inl same) = (inl same, ap p (sym same) ∙ e)
    by_first true e later (inr m) = later m
    by_first false e later m = later m

-- ---- some of the answers

pub traced_within : (journal : Journal) (some all : List AcceptedAt) → ((a : AcceptedAt) → Has some a → Has all a)
    → AllByRecursion (IsWithin journal) (all_traced journal all) → AllByRecursion (IsWithin journal) (all_traced journal some)
traced_within journal some all among within = all_if_has (IsWithin journal) (all_traced journal some) (λ x k.
    let t = given_has (traced journal) some x k in
    all_has (IsWithin journal) (all_traced journal all) x within (has_given (traced journal) all t.0 x (among t.0 t.1.0) t.1.1))

traced_some : (journal : Journal) (some all : List AcceptedAt) → ((a : AcceptedAt) → Has some a → Has all a) → (x : Traced)
    → Has (all_traced journal some) x → Has (all_traced journal all) x
traced_some journal some all among x k =
    let t = given_has (traced journal) some x k in has_given (traced journal) all t.0 x (among t.0 t.1.0) t.1.1

-- ---- those that are not traced

abbrev pub is_short : Option Counted → AcceptedAt → Bool
is_short o a = is_shorter o a.sent

abbrev pub may_be_longest : Option Counted → AcceptedAt → Bool
may_be_longest o a = not (is_short o a)

as_few_sent : (journal : Journal) (a : AcceptedAt) (x : Traced) → traced journal a ≡ Some x → a.sent ≡ x.accepted.sent
as_few_sent journal a x e = by_source (source_by journal a.place (slice_get journal.records a.place)) e
  where
    by_source : (o : Option Source) → with_source o a ≡ Some x → a.sent ≡ x.accepted.sent
    by_source None k = absurd (none-some x k)
    by_source (Some s) k = ap (λ (y : Traced). y.accepted.sent) (same_Some (record { accepted = a; source = s }) x k)

best_stays_longest : (journal : Journal) (done xs : List Traced) (o : Option Counted) → AllByRecursion (IsWithin journal) xs
    → AllByRecursion (λ x. is_shorter o x.accepted.sent ≡ true) xs → IsBestIfAny journal done o → IsBestIfAny journal (done ++ xs) o
best_stays_longest journal done [] o within short h = subst (λ (l : List Traced). IsBestIfAny journal l o) (sym (append-nil done)) h
best_stays_longest journal done (x ∷ xs) o within short h =
    subst (λ (l : List Traced). IsBestIfAny journal l o) (append_assoc done (x ∷ []) xs)
    (best_stays_longest journal (done ++ x ∷ []) xs o within.1 short.1 (best_stays journal done x o within.0.sent short.0 h))

-- the shorter ones need not be counted
pub found_skips : (journal : Journal) (done : List Traced) (others : List AcceptedAt) (s : Search)
    → AllByRecursion (IsWithin journal) (all_traced journal others) → IsFound journal done s
    → IsFound journal (done ++ all_traced journal (filter (is_short s.best) others)) s
found_skips journal done others s within h =
    let shorts = filter (is_short s.best) others in
    record {
      replays = h.replays;
      best =
          best_stays_longest journal done (all_traced journal shorts) s.best
          (traced_within journal shorts others (λ a k. (filtered_has (is_short s.best) others a k).0) within)
          (all_if_has (λ x. is_shorter s.best x.accepted.sent ≡ true) (all_traced journal shorts) (λ x k.
          let t = given_has (traced journal) shorts x k in
          ap (is_shorter s.best) (sym (as_few_sent journal t.0 x t.1.1)) ∙ (filtered_has (is_short s.best) others t.0 t.1.0).1))
          h.best;
    }

-- the shorter ones and the rest are all of them
pub found_of_all : (journal : Journal) (done : List Traced) (answers : List AcceptedAt) (o : Option Counted) (s : Search)
    → IsFound journal ((done ++ all_traced journal (filter (is_short o) answers)) ++ all_traced journal (filter (may_be_longest o) answers)) s
    → IsFound journal (done ++ all_traced journal answers) s
found_of_all journal done answers o s = found_among journal ((done ++ shorts) ++ rest) (done ++ all_traced journal answers) s there back
  where
    shorts : List Traced
    shorts = all_traced journal (filter (is_short o) answers)

    rest : List Traced
    rest = all_traced journal (filter (may_be_longest o) answers)

    some : (p : AcceptedAt → Bool) (x : Traced) → Has (all_traced journal (filter p answers)) x → Has (done ++ all_traced journal answers) x
    some p x k =
        has_right done (all_traced journal answers) x
        (traced_some journal (filter p answers) answers (λ a n. (filtered_has p answers a n).0) x k)

    there : (x : Traced) → Has ((done ++ shorts) ++ rest) x → Has (done ++ all_traced journal answers) x
    there x k = elim (has_split (done ++ shorts) rest x k) [
      | inl m ↦ elim (has_split done shorts x m) [
        | inl earlier ↦ has_left done (all_traced journal answers) x earlier
        | inr short ↦ some (is_short o) x short
      ]
      | inr may ↦ some (may_be_longest o) x may
    ]

    among : (x : Traced) (a : AcceptedAt) → traced journal a ≡ Some x → Has answers a → Has ((done ++ shorts) ++ rest) x
    among x a e k = elim (cases_Bool (is_short o a)) [
      | inl short ↦ has_left (done ++ shorts) rest x
          (has_right done shorts x (has_given (traced journal) (filter (is_short o) answers) a x (has_filtered (is_short o) answers a k short) e))
      | inr may ↦ has_right (done ++ shorts) rest x
          (has_given (traced journal) (filter (may_be_longest o) answers) a x (has_filtered (may_be_longest o) answers a k (ap not may)) e)
    ]

    back : (x : Traced) → Has (done ++ all_traced journal answers) x → Has ((done ++ shorts) ++ rest) x
    back x k = elim (has_split done (all_traced journal answers) x k) [
      | inl earlier ↦ has_left (done ++ shorts) rest x (has_left done shorts x earlier)
      | inr own ↦ let t = given_has (traced journal) answers x own in among x t.0 t.1.1 t.1.0
    ]

-- those that are kept are traced, and the shorter ones are not
pub found_kept : (journal : Journal) (done : List Traced) (answers kept : List AcceptedAt) (old new : Search)
    → kept ≡ filter (may_be_longest old.best) answers → AllByRecursion (IsWithin journal) (all_traced journal answers)
    → ((earlier : List Traced) → IsFound journal earlier old → IsFound journal (earlier ++ all_traced journal kept) new)
    → IsFound journal done old → IsFound journal (done ++ all_traced journal answers) new
found_kept journal done answers kept old new is within counts h =
    let shorts = all_traced journal (filter (is_short old.best) answers) in
    found_of_all journal done answers old.best new
    (subst (λ (l : List AcceptedAt). IsFound journal ((done ++ shorts) ++ all_traced journal l) new) is
    (counts (done ++ shorts) (found_skips journal done answers old within h)))

pub kept_accepted : (P : AcceptedAt → Type 0) (answers kept : List AcceptedAt) (o : Option Counted) → kept ≡ filter (may_be_longest o) answers
    → AllByRecursion P answers → AllByRecursion P kept
kept_accepted P answers kept o is all = subst (AllByRecursion P) (sym is) (all_filter P (may_be_longest o) answers all)

pub kept_within : (journal : Journal) (answers kept : List AcceptedAt) (o : Option Counted) → kept ≡ filter (may_be_longest o) answers
    → AllByRecursion (IsWithin journal) (all_traced journal answers) → AllByRecursion (IsWithin journal) (all_traced journal kept)
kept_within journal answers kept o is within =
    traced_within journal kept answers
    (λ a k. (filtered_has (may_be_longest o) answers a (subst (λ (l : List AcceptedAt). Has l a) is k)).0) within

-- ---- the late ones and the others

pub parts_within : (journal : Journal) (place : ℕ) (all : List AcceptedAt) → AllByRecursion (IsWithin journal) (all_traced journal all)
    → AllByRecursion (IsWithin journal) (all_traced journal (drop place all)) × AllByRecursion (IsWithin journal) (all_traced journal (take place all))
parts_within journal place all within =
    let whole = take-append-drop place all in
    let both = subst (λ (l : List AcceptedAt). AllByRecursion (IsWithin journal) (all_traced journal l)) (sym whole) within in (
      traced_within journal (drop place all) (take place all ++ drop place all) (λ a k. has_right (take place all) (drop place all) a k) both,
      traced_within journal (take place all) (take place all ++ drop place all) (λ a k. has_left (take place all) (drop place all) a k) both,
    )

pub found_in_turn : (journal : Journal) (place : ℕ) (all late others : List AcceptedAt) (s : Search) → late ≡ drop place all → others ≡ take place all
    → IsFound journal (all_traced journal late ++ all_traced journal others) s → IsFound journal (all_traced journal all) s
found_in_turn journal place all late others s ends begins h =
    subst (λ (l : List Traced). IsFound journal l s)
    (sym (filter_map-append (traced journal) others late) ∙ ap (all_traced journal) whole)
    (found_among journal (own ++ rest) (rest ++ own) s (turned own rest) (turned rest own) h)
  where
    whole : others ++ late ≡ all
    whole = (λ i. begins i ++ ends i) ∙ take-append-drop place all

    own : List Traced
    own = all_traced journal late

    rest : List Traced
    rest = all_traced journal others

    turned : (xs ys : List Traced) (x : Traced) → Has (xs ++ ys) x → Has (ys ++ xs) x
    turned xs ys x k = elim (has_split xs ys x k) [ inl m ↦ has_right ys xs x m | inr n ↦ has_left ys xs x n ]
