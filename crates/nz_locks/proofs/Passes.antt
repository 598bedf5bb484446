-- The pass over a history from its last command to its first.
use Rattle.std.proofs.Common.{◌≡◌, ◌≤◌, ℕ, zero, suc, ◌+◌, Bool, true, false, cond, List, [], ◌∷◌, ◌++◌, length, drop, reverse, Option, Some, refl}
use Rattle.std.proofs.Common.{sym, ap, ◌∙◌, arith, length-append}
use Rattle.std.specs.Prelude.{◌&&◌, ◌==◌, slice_get}
use Rattle.std.specs.Str.{bytes_eq}
use Rattle.std.proofs.lemmas.List.{reverse-append}
use Rattle.std.proofs.lemmas.Option.{none-some, same_Some}
use Rattle.nz_machine.specs.declared.journal.Executed.{Executed}
use Rattle.nz_locks.specs.declared.holding.Holding.{Holding}
use Rattle.nz_locks.specs.declared.holding.Tenure.{Tenure}
use Rattle.nz_locks.specs.Holdings.{same_holding}
use Rattle.nz_locks.specs.Uses.{Use, Acquire, Release}
use Rattle.nz_locks.specs.Tenures.{done_use, is_release_of, releases, next_release, tenure_of, tenures_from}

-- The commands from a place on, counted from 0, are done with.
pub record IsDoneFrom (table : Holding → Option ℕ) (tenures : List Tenure) (H : List Executed) (from : ℕ) : Type 0 where
  pub next : (h : Holding) → table h ≡ next_release h.client h.name.now (suc from) (drop from H)
  pub found : reverse tenures ≡ tenures_from (suc from) (drop from H)
  pub few : length tenures + from ≤ length H

drop_at : {X : Type 0} (xs : List X) (i : ℕ) (x : X) → slice_get xs i ≡ Some x → drop i xs ≡ x ∷ drop (suc i) xs
drop_at [] i x is = absurd (none-some x is)
drop_at (y ∷ ys) zero x is = ap (λ z. z ∷ ys) (same_Some y x is)
drop_at (y ∷ ys) (suc i) x is = drop_at ys i x is

and_false : (b : Bool) → (b && false) ≡ false
and_false true = refl
and_false false = refl

not_released : (c : ℕ) (n : List ℕ) (x : Executed) (u : Use) → done_use x ≡ u → is_release_of n u ≡ false → releases c n x ≡ false
not_released c n x u is e =
    ap (λ (v : Use). (x.id.client == c) && is_release_of n v) is ∙ ap (λ b. (x.id.client == c) && b) e ∙ and_false (x.id.client == c)

passed : (c : ℕ) (n : List ℕ) (place : ℕ) (x : Executed) (rest : List Executed) → releases c n x ≡ false
    → next_release c n place (x ∷ rest) ≡ next_release c n (suc place) rest
passed c n place x rest e = ap (λ (b : Bool). cond b (Some place) (next_release c n (suc place) rest)) e

begun : (place : ℕ) (x : Executed) (rest : List Executed) (u : Use) → done_use x ≡ u
    → tenure_of x.id.client place u rest ++ tenures_from (suc place) rest ≡ tenures_from place (x ∷ rest)
begun place x rest u is = ap (λ (v : Use). tenure_of x.id.client place v rest ++ tenures_from (suc place) rest) (sym is)

-- a command that neither takes nor gives back a lock
pub passed_by : (T : Holding → Option ℕ) (found : List Tenure) (H : List Executed) (i : ℕ) (x : Executed) (u : Use)
    → slice_get H i ≡ Some x → done_use x ≡ u → ((n : List ℕ) → is_release_of n u ≡ false)
    → ((rest : List Executed) → tenure_of x.id.client (suc i) u rest ≡ []) → IsDoneFrom T found H (suc i) → IsDoneFrom T found H i
passed_by T found H i x u there is never none s =
    let rest = drop (suc i) H in
    let split = drop_at H i x there in
    let few = s.few in
    record {
      next = λ h.
          s.next h ∙ sym (passed h.client h.name.now (suc i) x rest (not_released h.client h.name.now x u is (never h.name.now)))
          ∙ ap (next_release h.client h.name.now (suc i)) (sym split);
      found =
          s.found ∙ ap (λ (l : List Tenure). l ++ tenures_from (suc (suc i)) rest) (sym (none rest))
          ∙ begun (suc i) x rest u is ∙ ap (tenures_from (suc i)) (sym split);
      few = omega (arith, few);
    }

-- a release
pub released : (T U : Holding → Option ℕ) (found : List Tenure) (H : List Executed) (i : ℕ) (x : Executed) (k : Holding) (place : ℕ)
    → slice_get H i ≡ Some x → done_use x ≡ Release k.name.now → k.client ≡ x.id.client → place ≡ suc i
    → ((h : Holding) → U h ≡ cond (same_holding k h) (Some place) (T h)) → IsDoneFrom T found H (suc i) → IsDoneFrom U found H i
released T U found H i x k place there is by at noted s =
    let rest = drop (suc i) H in
    let split = drop_at H i x there in
    let few = s.few in
    record {
      next = λ h.
          let same : same_holding k h ≡ releases h.client h.name.now x =
          ap (λ c. (c == h.client) && bytes_eq k.name.now h.name.now) by
          ∙ ap (λ (v : Use). (x.id.client == h.client) && is_release_of h.name.now v) (sym is) in
          noted h ∙ ap (λ (b : Bool). cond b (Some place) (T h)) same
          ∙ ap (λ (n : ℕ). cond (releases h.client h.name.now x) (Some n) (T h)) at
          ∙ ap (λ (o : Option ℕ). cond (releases h.client h.name.now x) (Some (suc i)) o) (s.next h)
          ∙ ap (next_release h.client h.name.now (suc i)) (sym split);
      found = s.found ∙ begun (suc i) x rest (Release k.name.now) is ∙ ap (tenures_from (suc i)) (sym split);
      few = omega (arith, few);
    }

one_tenure : (name other : List ℕ) (client from place : ℕ) (to end : Option ℕ) → name ≡ other → from ≡ place → to ≡ end
    → let t : Tenure = record { name = name; client = client; from = from; to = to } in
    let u : Tenure = record { name = other; client = client; from = place; to = end } in
    t ≡ u
one_tenure name other client from place to end n f t = cc

-- an acquire
pub acquired : (T : Holding → Option ℕ) (found news : List Tenure) (H : List Executed) (i : ℕ) (x : Executed) (k : Holding)
    (name : List ℕ) (from : ℕ) (to : Option ℕ) → slice_get H i ≡ Some x → done_use x ≡ Acquire k.name.now → k.client ≡ x.id.client
    → name ≡ k.name.now → from ≡ suc i → to ≡ T k
    → news ≡ found ++ record { name = name; client = x.id.client; from = from; to = to } ∷ []
    → IsDoneFrom T found H (suc i) → IsDoneFrom T news H i
acquired T found news H i x k name from to there is by same_name at ends more s =
    let rest = drop (suc i) H in
    let split = drop_at H i x there in
    let few = s.few in
    let t : Tenure = record { name = name; client = x.id.client; from = from; to = to } in
    let count = ap length more ∙ length-append found (t ∷ []) in
    let end = ends ∙ s.next k ∙ ap (λ c. next_release c k.name.now (suc (suc i)) rest) by in
    record {
      next = λ h.
          s.next h ∙ sym (passed h.client h.name.now (suc i) x rest (not_released h.client h.name.now x (Acquire k.name.now) is refl))
          ∙ ap (next_release h.client h.name.now (suc i)) (sym split);
      found =
          ap reverse more ∙ reverse-append found (t ∷ []) ∙ ap (λ (l : List Tenure). t ∷ l) s.found
          ∙ ap (λ (u : Tenure). u ∷ tenures_from (suc (suc i)) rest)
          (one_tenure name k.name.now x.id.client from (suc i) to (next_release x.id.client k.name.now (suc (suc i)) rest) same_name at end)
          ∙ begun (suc i) x rest (Acquire k.name.now) is ∙ ap (tenures_from (suc i)) (sym split);
      few = omega (arith, few, count);
    }
