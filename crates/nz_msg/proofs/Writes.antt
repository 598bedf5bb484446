-- Writing one item after the other, as a loop does.
use Rattle.std.proofs.Common.{◌≡◌, ℕ, ◌+◌, ◌*◌, ◌≤◌, ◌<◌, drop, arith, length-append, List, [], ◌∷◌, ◌++◌, length, take, get_or, All, refl, sym, ap}
use Rattle.std.proofs.Common.{◌∙◌, append_assoc}
use Rattle.std.proofs.lemmas.List.{append-nil, take_more, take_at, length-take-le}
use borrow.Rule.Slice.PartMut.{put_mid}
use Rattle.byteorder.specs.Endian.{big_bytes}
use Rattle.std.proofs.lemmas.List.Elements.{All-from_recursion}
use Rattle.std.specs.List.{AllByRecursion}
use Rattle.nz_base.specs.declared.key.Entry.{Entry}
use Rattle.nz_msg.specs.Codec.{Codec, number_bytes, items_put, ItemsFit}
use Rattle.nz_msg.specs.Fields.{u32, command, next_entry}
use Rattle.nz_msg.specs.Writing.{Adds}

items_put-snoc : {A : Type 0} (item : List A → Codec A) (before xs : List A) (x : A) (rest : List ℕ)
    → items_put item before (xs ++ x ∷ []) rest ≡ items_put item before xs ((item (before ++ xs)).put x rest)
unfolding items_put
items_put-snoc {A} item before [] x rest = ap (λ (b : List A). (item b).put x rest) (sym (append-nil before))
items_put-snoc {A} item before (y ∷ ys) x rest =
    ap ((item before).put y) (items_put-snoc item (before ++ y ∷ []) ys x rest
    ∙ ap (λ (b : List A). items_put item (before ++ y ∷ []) ys ((item b).put x rest)) (append_assoc before (y ∷ []) ys))

pub adds_none : {A : Type 0} (item : List A → Codec A) (bytes : List ℕ) → Adds bytes bytes (items_put item [] [])
unfolding items_put
adds_none item bytes rest = refl

-- one more item
pub adds_one : {A : Type 0} (item : List A → Codec A) (old now next : List ℕ) (xs : List A) (x : A)
    → Adds old now (items_put item [] xs) → Adds now next ((item xs).put x) → Adds old next (items_put item [] (xs ++ x ∷ []))
adds_one item old now next xs x h k rest = k rest ∙ h ((item xs).put x rest) ∙ ap (λ (ys : List ℕ). old ++ ys) (sym (items_put-snoc item [] xs x rest))

pub adds_next : {A : Type 0} (item : List A → Codec A) (old now next : List ℕ) (xs : List A) (i : ℕ) (d : A)
    → i < length xs → Adds old now (items_put item [] (take i xs))
    → Adds now next ((item (take i xs)).put (get_or xs i d)) → Adds old next (items_put item [] (take (i + 1) xs))
adds_next item old now next xs i d lt h k = rw (take_more xs i d lt) (adds_one item old now next (take i xs) (get_or xs i d) h k)

commands_after : (before xs : List Entry) → ItemsFit next_entry before xs → AllByRecursion (λ e. command.fits e.command) xs
commands_after before [] h = tt
commands_after before (x ∷ xs) h = (h.0.1, commands_after (before ++ x ∷ []) xs h.1)

-- the commands of a list of entries are in their range
pub commands_fit : (xs : List Entry) → ItemsFit next_entry [] xs → All (λ e. command.fits e.command) xs
commands_fit xs h = All-from_recursion (λ e. command.fits e.command) xs (commands_after [] xs h)

-- ---- numbers in an array

-- a number of 4 bytes, after the first ones of an array
put_number : (a k n : ℕ) (xs ys tail : List ℕ) → a ≤ length xs → ys ≡ big_bytes 4 n ++ tail
    → take (a + 4) (put_mid a k xs ys) ≡ take a xs ++ big_bytes 4 n
put_number a k n xs ys tail le is =
    let long : length (take a xs ++ big_bytes 4 n) ≡ a + 4 = omega (arith, length-append (take a xs) (big_bytes 4 n), length-take-le a xs le) in
    let parted : put_mid a k xs ys ≡ (take a xs ++ big_bytes 4 n) ++ (tail ++ drop k (drop a xs)) = rw is (simp append_assoc) in
    ap (take (a + 4)) parted ∙ take_at (take a xs ++ big_bytes 4 n) (tail ++ drop k (drop a xs)) (a + 4) long

-- one more number of 4 bytes in an array
pub adds_number : (old counters xs ys tail : List ℕ) (i k n : ℕ) → 1 + 4 * i ≤ length xs → i < length counters
    → ys ≡ big_bytes 4 (get_or counters i n) ++ tail → Adds old (take (1 + 4 * i) xs) (items_put (λ _. u32) [] (take i counters))
    → Adds old (take (1 + 4 * (i + 1)) (put_mid (1 + 4 * i) k xs ys)) (items_put (λ _. u32) [] (take (i + 1) counters))
unfolding number_bytes
adds_number old counters xs ys tail i k n le lt is so_far =
    let place : 1 + 4 * (i + 1) ≡ 1 + 4 * i + 4 = omega arith in
    let written : take (1 + 4 * (i + 1)) (put_mid (1 + 4 * i) k xs ys) ≡ take (1 + 4 * i) xs ++ big_bytes 4 (get_or counters i n) =
    rw place (put_number (1 + 4 * i) k (get_or counters i n) xs ys tail le is) in
    adds_next (λ _. u32) old (take (1 + 4 * i) xs) (take (1 + 4 * (i + 1)) (put_mid (1 + 4 * i) k xs ys)) counters i n lt so_far
    (λ rest. ap (λ (bytes : List ℕ). bytes ++ rest) written ∙ append_assoc (take (1 + 4 * i) xs) (big_bytes 4 (get_or counters i n)) rest)
