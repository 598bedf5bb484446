-- Counts of requests by the ticks that they took, and the lines of them, one at a time.
use Rattle.std.proofs.Common.{◌≡◌, ℕ, zero, suc, ◌+◌, ◌<◌, max, cond, Option, refl, sym, ap, ◌∙◌, arith}
use Rattle.std.proofs.Common.{List, [], ◌∷◌, ◌++◌, length, take, get_or, append_assoc, append-nil}
use Rattle.std.specs.Prelude.{count_by}
use Rattle.std.specs.List.{flat_map, range_with_len}
use Rattle.std.proofs.lemmas.List.{take_more}
use Rattle.std.proofs.lemmas.List.Concat.{flat_map-append}
use Rattle.std.proofs.lemmas.List.Sums.{sum_by-append}
use Rattle.nz_quiet.specs.Pace.{took, above, above_all, ticks_line}

-- ---- a request more

max_three : (a b c : ℕ) → max a (max b c) ≡ max b (max a c)
max_three a b c = omega arith

above_more : (ps : List (Option ℕ)) (p : Option ℕ) → above_all (ps ++ p ∷ []) ≡ max (above p) (above_all ps)
above_more [] p = refl
above_more (q ∷ ps) p = ap (max (above q)) (above_more ps p) ∙ max_three (above q) (above p) (above_all ps)

-- a number above all, with the next request
pub above_next : (ps : List (Option ℕ)) (i : ℕ) (d : Option ℕ) (was now : ℕ) → i < length ps → was ≡ above_all (take i ps)
    → now ≡ max (above (get_or ps i d)) was → now ≡ above_all (take (i + 1) ps)
above_next ps i d was now lt is more =
    more ∙ ap (max (above (get_or ps i d))) is ∙ sym (above_more (take i ps) (get_or ps i d)) ∙ ap above_all (sym (take_more ps i d lt))

-- and how many took n ticks
pub count_next : (ps : List (Option ℕ)) (i n : ℕ) (d : Option ℕ) (was now : ℕ) → i < length ps → was ≡ count_by (took n) (take i ps)
    → now ≡ was + cond (took n (get_or ps i d)) 1 0 → now ≡ count_by (took n) (take (i + 1) ps)
count_next ps i n d was now lt is more =
    let p = get_or ps i d in
    let own = cond {A = ℕ} (took n p) 1 0 in
    let one : 0 + own ≡ own = omega arith in
    let all : count_by (took n) (take (i + 1) ps) ≡ count_by (took n) (take i ps) + own =
    ap (count_by (took n)) (take_more ps i d lt) ∙ sum_by-append (λ (q : Option ℕ). cond {A = ℕ} (took n q) 1 0) (take i ps) (p ∷ [])
    ∙ ap (λ (k : ℕ). count_by (took n) (take i ps) + k) one in
    more ∙ ap (λ (k : ℕ). k + own) is ∙ sym all

-- ---- lines

range_more : (a n : ℕ) → range_with_len a (suc n) ≡ range_with_len a n ++ (a + n) ∷ []
range_more a zero = ap (λ (k : ℕ). k ∷ []) (let e : a ≡ a + 0 = omega arith in e)
range_more a (suc n) =
    let e : a + 1 + n ≡ a + suc n = omega arith in
    ap (λ (ks : List ℕ). a ∷ ks) (range_more (a + 1) n ∙ ap (λ (k : ℕ). range_with_len (a + 1) n ++ k ∷ []) e)

lines_more : (f : ℕ → List ℕ) (n : ℕ) → flat_map f (range_with_len 0 (n + 1)) ≡ flat_map f (range_with_len 0 n) ++ f n
lines_more f n =
    let e : 0 + n ≡ n = omega arith in
    let s : n + 1 ≡ suc n = omega arith in
    ap (λ (m : ℕ). flat_map f (range_with_len 0 m)) s
    ∙ ap (flat_map f) (range_more 0 n ∙ ap (λ (k : ℕ). range_with_len 0 n ++ k ∷ []) e)
    ∙ flat_map-append f (range_with_len 0 n) (n ∷ []) ∙ ap (λ (ys : List ℕ). flat_map f (range_with_len 0 n) ++ ys) (append-nil (f n))

-- a line more
pub lines_next : (f : ℕ → List ℕ) (n : ℕ) (before was now : List ℕ) → was ≡ before ++ flat_map f (range_with_len 0 n) → now ≡ was ++ f n
    → now ≡ before ++ flat_map f (range_with_len 0 (n + 1))
lines_next f n before was now is more =
    more ∙ ap (λ (bytes : List ℕ). bytes ++ f n) is ∙ append_assoc before (flat_map f (range_with_len 0 n)) (f n)
    ∙ ap (λ (ys : List ℕ). before ++ ys) (sym (lines_more f n))

-- counts that are right for each number make the right lines
pub lines_by : (f g : ℕ → ℕ) (n m : ℕ) → ((k : ℕ) → f k ≡ g k) → n ≡ m
    → flat_map (λ k. ticks_line k (f k)) (range_with_len 0 n) ≡ flat_map (λ k. ticks_line k (g k)) (range_with_len 0 m)
lines_by f g n m same long = λ i. flat_map (λ k. ticks_line k (same k i)) (range_with_len 0 (long i))
