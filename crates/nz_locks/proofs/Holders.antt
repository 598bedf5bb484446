-- Who holds a lock is the one whose value the store has at its key.
use Rattle.std.proofs.Common.{◌≡◌, ◌<◌, ◌≤◌, ◌^◌, ℕ, zero, suc, Bool, true, false, not, List, [], ◌∷◌, drop, Option, Some, refl, sym, ap, subst, ◌∙◌}
use Rattle.std.proofs.Common.{inl, inr, ◌⊎◌, arith, eq-eqb}
use Rattle.std.specs.Prelude.{◌&&◌, ◌||◌, ◌==◌, ◌↔◌, slice_get}
use Rattle.std.specs.List.{list_any}
use Rattle.std.proofs.lemmas.Bool.{and_parts, eqb-true}
use Rattle.std.proofs.lemmas.Fmt.{decimal_injective}
use Rattle.std.proofs.lemmas.Option.{none-some, same_Some}
use Rattle.nz_base.specs.declared.key.Entry.{Entry}
use Rattle.nz_store.specs.Entries.{Entries, empty, value_of}
use Rattle.nz_store.specs.Sequence.{apply_bytes, store_from}
use Rattle.nz_machine.specs.declared.journal.Executed.{Executed}
use Rattle.nz_machine.specs.rules.Replicas.{commands}
use Rattle.nz_locks.specs.Clean.{IsClean}
use Rattle.nz_locks.specs.Uses.{lock_key, holder_value, Use}
use Rattle.nz_locks.specs.Tenures.{done_use, is_acquire_of, is_release_of, acquires, releases, holds}
use Rattle.nz_locks.proofs.Effects.{Effect, took, gave, kept, effect}
use Rattle.nz_locks.proofs.Executing.{executed, executed_along}

-- ---- names of clients

pub one_client : (c d : ℕ) → c < 2 ^ 32 → d < 2 ^ 32 → holder_value c ≡ holder_value d → c ≡ d
one_client c d small few same = decimal_injective c d (omega (arith, small)) (omega (arith, few)) (ap (drop 1) same)

-- ---- one more command

-- whether the client holds the lock after the commands, where it did before them or not
abbrev held_after : Bool → ℕ → List ℕ → List Executed → Bool
held_after before client name xs = (before && not (list_any (releases client name) xs)) || holds client name xs

-- whether it does after one command
abbrev held_next : Bool → ℕ → List ℕ → Executed → Bool
held_next before client name x = acquires client name x || (before && not (releases client name x))

regroup : (b a r q h : Bool) → ((b && not (r || q)) || ((a && not q) || h)) ≡ (((a || (b && not r)) && not q) || h)
regroup true true true true h = refl
regroup true true true false h = refl
regroup true true false true h = refl
regroup true true false false h = refl
regroup true false true true h = refl
regroup true false true false h = refl
regroup true false false true h = refl
regroup true false false false h = refl
regroup false true true true h = refl
regroup false true true false h = refl
regroup false true false true h = refl
regroup false true false false h = refl
regroup false false true true h = refl
regroup false false true false h = refl
regroup false false false true h = refl
regroup false false false false h = refl

one_more : (b : Bool) (client : ℕ) (name : List ℕ) (x : Executed) (xs : List Executed)
    → held_after b client name (x ∷ xs) ≡ held_after (held_next b client name x) client name xs
one_more b client name x xs =
    regroup b (acquires client name x) (releases client name x) (list_any (releases client name) xs) (holds client name xs)

-- the test says what the store has
abbrev Agrees : ℕ → Bool → Option (List ℕ) → Type 0
Agrees client b value = (b ≡ true) ↔ (value ≡ Some (holder_value client))

of_taker : (own acquire release b : Bool) → acquire ≡ true → release ≡ false → b ≡ false → ((own && acquire) || (b && not (own && release))) ≡ own
of_taker true true false false a r n = refl
of_taker false true false false a r n = refl
of_taker own false release b a r n = absurd cc
of_taker own true true b a r n = absurd cc
of_taker own true false true a r n = absurd cc

of_giver : (own acquire release b : Bool) → acquire ≡ false → release ≡ true → (b ≡ true → own ≡ true)
    → ((own && acquire) || (b && not (own && release))) ≡ false
of_giver true false true true a r h = refl
of_giver true false true false a r h = refl
of_giver false false true true a r h = let e : false ≡ true = h refl in absurd cc
of_giver false false true false a r h = refl
of_giver own true release b a r h = absurd cc
of_giver own false false b a r h = absurd cc

of_neither : (own acquire release b : Bool) → acquire ≡ false → release ≡ false → ((own && acquire) || (b && not (own && release))) ≡ b
of_neither true false false true a r = refl
of_neither true false false false a r = refl
of_neither false false false true a r = refl
of_neither false false false false a r = refl
of_neither own true release b a r = absurd cc
of_neither own false true b a r = absurd cc

-- a test that is not true is false
not_true : (b : Bool) → (b ≡ true → ⊥) → b ≡ false
not_true true h = absurd (h refl)
not_true false h = refl

agree_next : (client other : ℕ) (name : List ℕ) (u : Use) (b : Bool) (before after : Option (List ℕ)) → client < 2 ^ 32 → other < 2 ^ 32
    → Effect other name u before after → Agrees client b before
    → Agrees client (((other == client) && is_acquire_of name u) || (b && not ((other == client) && is_release_of name u))) after
agree_next client other name u b before after small few (took acquire release from to) h =
    let test = of_taker (other == client) (is_acquire_of name u) (is_release_of name u) b acquire release
    (not_true b (λ e. none-some (holder_value client) (sym from ∙ h.0 e))) in (
      λ e. to ∙ ap (λ c. Some (holder_value c)) (eqb-true other client (sym test ∙ e)),
      λ e. test ∙ eq-eqb other client (one_client other client few small (same_Some (holder_value other) (holder_value client) (sym to ∙ e))),
    )
agree_next client other name u b before after small few (gave acquire release from to) h =
    let test = of_giver (other == client) (is_acquire_of name u) (is_release_of name u) b acquire release
    (λ e. eq-eqb other client (one_client other client few small (same_Some (holder_value other) (holder_value client) (sym from ∙ h.0 e)))) in (
      λ e. let f : false ≡ true = sym test ∙ e in absurd cc,
      λ e. absurd (none-some (holder_value client) (sym to ∙ e)),
    )
agree_next client other name u b before after small few (kept acquire release same) h =
    let test = of_neither (other == client) (is_acquire_of name u) (is_release_of name u) b acquire release in (
      λ e. same ∙ h.0 (sym test ∙ e),
      λ e. test ∙ h.1 (sym same ∙ e),
    )

agree : (client : ℕ) (name : List ℕ) → client < 2 ^ 32 → (s : Entries) (es : List Entry) (b : Bool) → IsClean es
    → Agrees client b (value_of s (lock_key name))
    → Agrees client (held_after b client name (executed_along s es)) (value_of (store_from s (commands es)) (lock_key name))
unfolding store_from
agree client name small s [] true clean h = h
agree client name small s [] false clean h = h
agree client name small s (e ∷ es) b clean h =
    let next = (apply_bytes s e.command).0 in
    let one = agree_next client e.key.client name (done_use (executed s e)) b (value_of s (lock_key name)) (value_of next (lock_key name))
    small clean.0.client (effect e.key.client s name e.command clean.0.command) h in
    let more = agree client name small next es (held_next b client name (executed s e)) clean.1 one in
    subst (λ (x : Bool). Agrees client x (value_of (store_from next (commands es)) (lock_key name)))
    (sym (one_more b client name (executed s e) (executed_along next es))) more

pub holder_is_value : (client : ℕ) (name : List ℕ) → client < 2 ^ 32 → (es : List Entry) → IsClean es
    → Agrees client (holds client name (executed_along empty es)) (value_of (store_from empty (commands es)) (lock_key name))
holder_is_value client name small es clean =
    agree client name small empty es false clean (λ e. absurd cc, λ e. absurd (none-some (holder_value client) e))

-- ---- the holder is a client of the list

or_parts : (a b : Bool) → (a || b) ≡ true → (a ≡ true) ⊎ (b ≡ true)
or_parts true b e = inl refl
or_parts false b e = inr e

pub small_holder : (client : ℕ) (name : List ℕ) (s : Entries) (es : List Entry) → IsClean es
    → holds client name (executed_along s es) ≡ true → client < 2 ^ 32
small_holder client name s [] clean h = absurd cc
small_holder client name s (e ∷ es) clean h =
    let next = (apply_bytes s e.command).0 in
    let x = executed s e in
    let xs = executed_along next es in
    elim (or_parts (acquires client name x && not (list_any (releases client name) xs)) (holds client name xs) h) [
      | inl here ↦
          let own = (and_parts (e.key.client == client) (is_acquire_of name (done_use x))
          (and_parts (acquires client name x) (not (list_any (releases client name) xs)) here).0).0 in
          subst (λ (c : ℕ). c < 2 ^ 32) (eqb-true e.key.client client own) clean.0.client
      | inr there ↦ small_holder client name next es clean.1 there
    ]

-- ---- since an acquire

pub holds_since : (client : ℕ) (name : List ℕ) (X : List Executed) (i : ℕ) (x : Executed) → slice_get X i ≡ Some x → acquires client name x ≡ true
    → list_any (releases client name) (drop (suc i) X) ≡ false → holds client name X ≡ true
holds_since client name [] i x is a none = absurd (none-some x is)
holds_since client name (y ∷ X) zero x is a none =
    ap (λ (b : Bool). (b && not (list_any (releases client name) X)) || holds client name X) (ap (acquires client name) (same_Some y x is) ∙ a)
    ∙ ap (λ (b : Bool). not b || holds client name X) none
holds_since client name (y ∷ X) (suc i) x is a none =
    or_true (acquires client name y && not (list_any (releases client name) X)) (holds client name X) (holds_since client name X i x is a none)
  where
    or_true : (a b : Bool) → b ≡ true → (a || b) ≡ true
    or_true true b e = refl
    or_true false b e = e

-- where some element passes a test
pub record IsPassing (p : Executed → Bool) (X : List Executed) (skipped : ℕ) : Type 0 where
  pub place : ℕ
  pub after : skipped ≤ place
  pub x : Executed
  pub there : slice_get X place ≡ Some x
  pub passes : p x ≡ true

one_further : (p : Executed → Bool) (y : Executed) (X : List Executed) (n : ℕ) → IsPassing p X n → IsPassing p (y ∷ X) (suc n)
one_further p y X n h = let after = h.after in record { place = suc h.place; after = omega (arith, after); x = h.x; there = h.there; passes = h.passes }

from_first : (p : Executed → Bool) (X : List Executed) → list_any p X ≡ true → IsPassing p X 0
from_first p [] h = absurd cc
from_first p (x ∷ X) h = elim (or_parts (p x) (list_any p X) h) [
  | inl here ↦ record { place = 0; after = omega arith; x = x; there = refl; passes = here }
  | inr there ↦
      let k = from_first p X there in
      record { place = suc k.place; after = omega arith; x = k.x; there = k.there; passes = k.passes }
]

-- Where an item after a place passes, there is a first one that does.
pub passing : (p : Executed → Bool) (X : List Executed) (n : ℕ) → list_any p (drop n X) ≡ true → IsPassing p X n
passing p X zero h = from_first p X h
passing p [] (suc n) h = absurd cc
passing p (x ∷ X) (suc n) h = one_further p x X n (passing p X n h)
