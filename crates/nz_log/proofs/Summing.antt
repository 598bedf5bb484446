-- One digest at each place: one more entry, and the first ones alone.
use Rattle.std.proofs.Common.{◌≡◌, ℕ, zero, suc, ◌+◌, ◌-◌, ◌<◌, ◌≤◌, List, [], ◌∷◌, ◌++◌, length, take, get_or}
use Rattle.std.proofs.Common.{Some, None, refl, sym, ap, subst, ◌∙◌, inl, inr, arith, length-append}
use Rattle.std.specs.Prelude.{slice_get}
use Rattle.std.proofs.lemmas.List.{take-append-le, length-take-le, take_all, get_or-take, get_or_append_left}
use Rattle.std.proofs.Math.Seq.{get_or-append_seam}
use Rattle.std.proofs.lemmas.Option.{get_or_from_slice_get, slice_get-get_or}
use Rattle.std.proofs.lemmas.Bool.{cases_lt}
use Rattle.nz_base.specs.declared.key.Entry.{Entry}
use Rattle.nz_digest.specs.Digests.{digest_of_none}
use Rattle.nz_log.specs.Places.{digest_of_log, digest_at}
use Rattle.nz_log.specs.Keeping.{IsSummed, digest_with}
use Rattle.nz_log.proofs.Digests.{digest_last}

take_less : (m n : ℕ) (es : List Entry) → m ≤ n → take m (take n es) ≡ take m es
take_less zero n es less = refl
take_less (suc m) zero es less = absurd (omega arith)
take_less (suc m) (suc n) [] less = refl
take_less (suc m) (suc n) (e ∷ es) less = ap (λ (xs : List Entry). e ∷ xs) (take_less m n es (omega arith))

pub sums_push : (es : List Entry) (ds : List (List ℕ)) (e : Entry) (sum : List ℕ) → IsSummed es ds
    → sum ≡ digest_with es e.key → IsSummed (es ++ e ∷ []) (ds ++ sum ∷ [])
sums_push es ds e sum old is =
    let long_es : length (es ++ e ∷ []) ≡ length es + 1 = length-append es (e ∷ []) in
    let long_ds : length (ds ++ sum ∷ []) ≡ length ds + 1 = length-append ds (sum ∷ []) in
    let count : length ds ≡ length es = old.count in
    record {
      count = omega (arith, long_es, long_ds, count);
      sums = λ k within d. elim (cases_lt k (length es)) [
        | inl early ↦
            get_or_append_left ds (sum ∷ []) d k (omega (arith, count, early)) ∙ old.sums k early d
            ∙ ap digest_of_log (sym (take-append-le (suc k) es (e ∷ []) early))
        | inr last ↦
            let here : k ≡ length es = omega (arith, long_es, within, last) in
            subst (λ (n : ℕ). get_or (ds ++ sum ∷ []) n d ≡ digest_at (es ++ e ∷ []) n) (sym here)
            (subst (λ (n : ℕ). get_or (ds ++ sum ∷ []) n d ≡ digest_at (es ++ e ∷ []) (length es)) count
            (get_or-append_seam ds sum [] d ∙ is ∙ sym (digest_last es e)))
      ];
    }

pub sums_take : (es : List Entry) (ds : List (List ℕ)) (n : ℕ) → IsSummed es ds → n ≤ length es → IsSummed (take n es) (take n ds)
sums_take es ds n old within =
    let count : length ds ≡ length es = old.count in
    let long : length (take n es) ≡ n = length-take-le n es within in
    record {
      count = length-take-le n ds (omega (arith, count, within)) ∙ sym long;
      sums = λ k early d.
          let below : k < n = subst (λ (m : ℕ). k < m) long early in
          get_or-take n ds k d below ∙ old.sums k (omega (arith, below, within)) d ∙ ap digest_of_log (sym (take_less (suc k) n es below));
    }

-- the last digest is that of all entries
pub sum_some : (es : List Entry) (ds : List (List ℕ)) (sum : List ℕ) → IsSummed es ds → slice_get ds (length ds - 1) ≡ Some sum → sum ≡ digest_of_log es
sum_some [] [] sum old last = absurd cc
sum_some [] (x ∷ ds) sum old last = absurd (let count : length (x ∷ ds) ≡ 0 = old.count in omega (arith, count))
sum_some (e ∷ es) ds sum old last =
    let at : length ds - 1 ≡ length es = let count : length ds ≡ length (e ∷ es) = old.count in omega (arith, count) in
    sym (get_or_from_slice_get ds (length ds - 1) sum sum last)
    ∙ ap (λ (n : ℕ). get_or ds n sum) at
    ∙ old.sums (length es) (omega arith) sum
    ∙ ap digest_of_log (take_all (suc (length es)) (e ∷ es) (omega arith))

pub sum_none : (es : List Entry) (ds : List (List ℕ)) → IsSummed es ds → slice_get ds (length ds - 1) ≡ None → digest_of_none ≡ digest_of_log es
sum_none [] ds old last = refl
sum_none (e ∷ es) [] old last = absurd (let count : 0 ≡ length (e ∷ es) = old.count in omega (arith, count))
sum_none (e ∷ es) (x ∷ ds) old last =
    let there : slice_get (x ∷ ds) (length (x ∷ ds) - 1) ≡ Some (get_or (x ∷ ds) (length (x ∷ ds) - 1) x) =
    slice_get-get_or (x ∷ ds) (length (x ∷ ds) - 1) x (omega arith) in
    absurd cc
