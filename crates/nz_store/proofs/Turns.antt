-- Lists of bytes that are applied in turn.
use Rattle.std.proofs.Common.{◌≡◌, ℕ, zero, suc, ◌<◌, List, [], ◌∷◌, ◌++◌, length, take, refl, ap, arith}
use Rattle.std.specs.Prelude.{slice_get}
use Rattle.std.proofs.lemmas.List.{take-append-le}
use Rattle.std.specs.Option.{option_map}
use Rattle.nz_store.specs.declared.command.Answer.{Answer}
use Rattle.nz_store.specs.Entries.{Entries, empty}
use Rattle.nz_store.specs.Sequence.{apply_bytes, store_from, store_after, answer_after, reply, replies_from, replies}

pub store_from-append : (s : Entries) (xs ys : List (List ℕ)) → store_from s (xs ++ ys) ≡ store_from (store_from s xs) ys
unfolding store_from
store_from-append s [] ys = refl
store_from-append s (x ∷ xs) ys = store_from-append (apply_bytes s x).0 xs ys

pub store_after-push : (xs : List (List ℕ)) (x : List ℕ) → store_after (xs ++ x ∷ []) ≡ (apply_bytes (store_after xs) x).0
unfolding store_from
store_after-push xs x = store_from-append empty xs (x ∷ [])

pub replies_from-append : (s : Entries) (xs ys : List (List ℕ)) → replies_from s (xs ++ ys) ≡ replies_from s xs ++ replies_from (store_from s xs) ys
unfolding replies_from store_from
replies_from-append s [] ys = refl
replies_from-append s (x ∷ xs) ys = ap (λ (l : List Answer). (apply_bytes s x).1 ∷ l) (replies_from-append (apply_bytes s x).0 xs ys)

pub replies-push : (xs : List (List ℕ)) (x : List ℕ) → replies (xs ++ x ∷ []) ≡ replies xs ++ answer_after xs x ∷ []
unfolding replies_from
replies-push xs x = replies_from-append empty xs (x ∷ [])

pub length-replies_from : (s : Entries) (xs : List (List ℕ)) → length (replies_from s xs) ≡ length xs
unfolding replies_from
length-replies_from s [] = refl
length-replies_from s (x ∷ xs) = ap suc (length-replies_from (apply_bytes s x).0 xs)

slice_get-replies_from : (s : Entries) (xs : List (List ℕ)) (i : ℕ)
    → slice_get (replies_from s xs) i ≡ option_map (λ x. (apply_bytes (store_from s (take i xs)) x).1) (slice_get xs i)
unfolding replies_from store_from
slice_get-replies_from s [] i = refl
slice_get-replies_from s (x ∷ xs) zero = refl
slice_get-replies_from s (x ∷ xs) (suc i) = slice_get-replies_from (apply_bytes s x).0 xs i

pub slice_get-replies : (xs : List (List ℕ)) (i : ℕ) → slice_get (replies xs) i ≡ reply xs i
slice_get-replies xs i = slice_get-replies_from empty xs i

slice_get-append : (xs ys : List (List ℕ)) (i : ℕ) → i < length xs → slice_get (xs ++ ys) i ≡ slice_get xs i
slice_get-append [] ys i lt = absurd (omega arith)
slice_get-append (x ∷ xs) ys zero lt = refl
slice_get-append (x ∷ xs) ys (suc i) lt = slice_get-append xs ys i (omega arith)

pub reply-append : (xs ys : List (List ℕ)) (i : ℕ) → i < length xs → reply (xs ++ ys) i ≡ reply xs i
reply-append xs ys i lt = rw (slice_get-append xs ys i lt, take-append-le i xs ys (omega arith)) refl
