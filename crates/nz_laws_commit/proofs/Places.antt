-- Prefixes of a log: places and answers in them are those of the log.
use Rattle.std.proofs.Common.{◌≡◌, ℕ, zero, suc, ◌<◌, ◌≤◌, Bool, true, false, cond, List, [], ◌∷◌, ◌++◌, length, take}
use Rattle.std.proofs.Common.{Option, Some, None, refl, sym, ap, subst, ◌∙◌, arith, inl, inr, ◌⊎◌}
use Rattle.std.proofs.lemmas.Bool.{cases_Bool, or_parts}
use Rattle.std.specs.Option.{option_map}
use Rattle.std.proofs.lemmas.List.{length-take-le, map-append}
use Rattle.std.proofs.lemmas.Option.{none-some, same_Some}
use Rattle.nz_base.specs.declared.key.Id.{Id}
use Rattle.nz_base.specs.declared.key.Entry.{Entry}
use Rattle.nz_base.specs.Key.{id_eq, id_of}
use Rattle.nz_base.specs.Log.{keys_of, has_id, HaveOwnIds}
use Rattle.nz_base.proofs.Logs.{own_in_prefix, keys_append}
use Rattle.nz_base.proofs.Names.{same_id}
use Rattle.nz_store.specs.declared.command.Answer.{Answer}
use Rattle.nz_store.specs.Sequence.{reply}
use Rattle.nz_store.proofs.Turns.{reply-append}
use Rattle.nz_log.specs.Places.{place_of}
use Rattle.nz_machine.specs.rules.Replicas.{commands}
use Rattle.nz_machine.proofs.lists.LogPlaces.{place_kept}
use Rattle.nz_machine.specs.runs.World.{Has}
use Rattle.nz_machine.specs.runs.History.{cut_at, cut_after}
use Rattle.nz_machine.specs.runs.OneHistory.{IsAnswered}
use Rattle.nz_base.specs.Prefixes.{IsPrefix}
use Rattle.nz_base.proofs.Prefixes.{prefix_take}

-- ---- places

-- a place after the first is one more than that in the rest
later_place : (o : Option ℕ) (i : ℕ) → option_map suc o ≡ Some i → (j : ℕ) × ((o ≡ Some j) × (suc j ≡ i))
later_place None i e = absurd (none-some i e)
later_place (Some j) i e = (j, (refl, same_Some (suc j) i e))

pub place_cases : (b : Bool) (o : Option ℕ) (i : ℕ) → cond b (Some 0) (option_map suc o) ≡ Some i
    → ((b ≡ true) × (0 ≡ i)) ⊎ ((b ≡ false) × ((j : ℕ) × ((o ≡ Some j) × (suc j ≡ i))))
place_cases true o i e = inl (refl, same_Some 0 i e)
place_cases false o i e = inr (refl, later_place o i e)

place_here : (b : Bool) (o : Option ℕ) (i : ℕ) → b ≡ true → 0 ≡ i → cond b (Some 0) (option_map suc o) ≡ Some i
place_here true o i e same = ap Some same
place_here false o i e same = absurd cc

place_there : (b : Bool) (o : Option ℕ) (i j : ℕ) → b ≡ false → o ≡ Some j → suc j ≡ i → cond b (Some 0) (option_map suc o) ≡ Some i
place_there true o i j e found same = absurd cc
place_there false o i j e found same = ap (option_map suc) found ∙ ap Some same

-- a place is within, and so in the prefix up to it
pub record IsIn (id : Id) (xs : List Entry) (i : ℕ) : Type 0 where
  pub within : i < length xs
  pub taken : place_of (take (suc i) xs) id ≡ Some i

place_by : (id : Id) (x : Entry) (xs : List Entry) (i j : ℕ) → id_eq id (id_of x.key) ≡ false → suc j ≡ i → IsIn id xs j → IsIn id (x ∷ xs) i
place_by id x xs i j away same h =
    let within = h.within in
    subst (IsIn id (x ∷ xs)) same (record {
      within = omega (arith, within);
      taken = place_there (id_eq id (id_of x.key)) (place_of (take (suc j) xs) id)
          (suc j) j away h.taken refl;
    })

pub place_in : (id : Id) (xs : List Entry) (i : ℕ) → place_of xs id ≡ Some i → IsIn id xs i
place_in id [] i e = absurd (none-some i e)
place_in id (x ∷ xs) i e = elim (place_cases (id_eq id (id_of x.key)) (place_of xs id) i e) [
  | inl h ↦ subst (IsIn id (x ∷ xs)) h.1 (record { within = omega arith; taken = place_here (id_eq id (id_of x.key)) None 0 h.0 refl })
  | inr h ↦ place_by id x xs i h.1.0 h.0 h.1.1.1 (place_in id xs h.1.0 h.1.1.0)
]

-- ---- ids that a prefix has not

pub absent_by : (id : Id) (es : List Entry) → ((e : Entry) → Has es e → id_of e.key ≡ id → ⊥) → has_id (keys_of es) id ≡ false
absent_by id [] f = refl
absent_by id (e ∷ es) f = elim (cases_Bool (id_eq id (id_of e.key))) [
  | inl here ↦ absurd (f e (inl refl) (sym (same_id id (id_of e.key) here)))
  | inr away ↦ rw away (absent_by id es (λ x h. f x (inr h)))
]

absent_append : (id : Id) (xs rest : List Entry) (i : ℕ) → has_id (keys_of xs) id ≡ false → place_of (xs ++ rest) id ≡ Some i → length xs ≤ i
absent_append id [] rest i h e = omega arith
absent_append id (x ∷ xs) rest i h e = elim (place_cases (id_eq id (id_of x.key)) (place_of (xs ++ rest) id) i e) [
  | inl k ↦ absurd (let away = (or_parts (id_eq id (id_of x.key)) (has_id (keys_of xs) id) h).0 in let both : true ≡ false = sym k.0 ∙ away in cc)
  | inr k ↦ let ih = absent_append id xs rest k.1.0
      (or_parts (id_eq id (id_of x.key)) (has_id (keys_of xs) id) h).1 k.1.1.0 in let same = k.1.1.1 in omega (arith, ih, same)
]

-- it is after the prefix
pub absent_place : (id : Id) (xs es : List Entry) (i : ℕ) → IsPrefix xs es → has_id (keys_of xs) id ≡ false → place_of es id ≡ Some i → length xs ≤ i
absent_place id xs es i p h e = absent_append id xs p.rest i h (ap (λ (l : List Entry). place_of l id) (sym p.whole) ∙ e)

pub own_prefix : (xs ys : List Entry) → IsPrefix xs ys → HaveOwnIds (keys_of ys) → HaveOwnIds (keys_of xs)
own_prefix xs ys p own = own_in_prefix (keys_of xs) (keys_of p.rest) (subst HaveOwnIds (ap keys_of p.whole ∙ keys_append xs p.rest) own)

-- ---- answers

commands_long : (es : List Entry) (i : ℕ) → i < length es → i < length (commands es)
commands_long [] i lt = absurd (omega (arith, lt))
commands_long (e ∷ es) zero lt = omega arith
commands_long (e ∷ es) (suc i) lt = let ih = commands_long es i (omega (arith, lt)) in omega (arith, ih)

pub reply_more : (xs ys : List Entry) (i : ℕ) → i < length xs → IsPrefix xs ys → reply (commands ys) i ≡ reply (commands xs) i
reply_more xs ys i lt p =
    ap (λ (l : List Entry). reply (commands l) i) p.whole
    ∙ ap (λ (l : List (List ℕ)). reply l i) (map-append (λ (e : Entry). e.command) xs p.rest)
    ∙ reply-append (commands xs) (commands p.rest) i (commands_long xs i lt)

pub answered_more : (log more : List Entry) (id : Id) (a : Answer) → IsPrefix log more → IsAnswered log id a → IsAnswered more id a
answered_more log more id a p h = record {
  place = h.place;
  place_is = place_kept log more id h.place p h.place_is;
  answered = reply_more log more h.place (place_in id log h.place h.place_is).within p ∙ h.answered;
}

-- P is the log up to and with the entry of the request, and answers it as the log does
pub record EndsAnswered (log : List Entry) (id : Id) (a : Answer) (P : List Entry) : Type 0 where
  pub answered : IsAnswered P id a
  pub ends : length P ≡ suc answered.place
  pub prefix : IsPrefix P log

pub cut_answered : (log : List Entry) (id : Id) (a : Answer) → IsAnswered log id a → EndsAnswered log id a (cut_after id log)
cut_answered log id a h =
    let here = place_in id log h.place h.place_is in
    let long = length-take-le (suc h.place) log here.within in
    let cut : EndsAnswered log id a (take (suc h.place) log) = record {
      answered = record {
        place = h.place;
        place_is = here.taken;
        answered = sym (reply_more (take (suc h.place) log) log h.place (omega (arith, long)) (prefix_take (suc h.place) log)) ∙ h.answered;
      };
      ends = long;
      prefix = prefix_take (suc h.place) log;
    } in
    subst (λ (o : Option ℕ). EndsAnswered log id a (cut_at o log)) (sym h.place_is) cut
