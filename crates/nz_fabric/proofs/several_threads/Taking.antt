-- The takes of a run, and its open batches.
use Rattle.std.proofs.Common.{◌≡◌, ℕ, ◌+◌, ◌-◌, ◌<◌, ◌==◌, zero, suc, cond, not, nat_lt, map, remove, List, None, [], ◌∷◌, ◌++◌, Some}
use Rattle.std.proofs.Common.{length, refl, ap, sym, ◌∙◌, arith, length-append}
use Rattle.std.specs.Prelude.{slice_get, get_or, unwrap_or}
use Rattle.std.specs.List.{position, position_or_len}
use Rattle.std.proofs.lemmas.List.{get_or_append_left, get_or-append-add, get_or-map, map-append, length-map}
use Rattle.indexmap.proofs.SetLemmas.{map-remove}
use Rattle.std.proofs.lemmas.Option.{slice_get_within, get_or_from_slice_get, slice_get_read}
use Rattle.nz_machine.proofs.lists.EachItem.{all_append, all_imply}
use Rattle.nz_fabric.specs.declared.threads.batch.Batch.{Batch}
use Rattle.nz_fabric.specs.threads.Shared.{place_of_batch}
use Rattle.nz_fabric.specs.threads.Takes.{IsTake, AreTakes, no_batch, batch_in}

-- what is read in a list is also read in a longer one
still_there : {A : Type 0} (xs ys : List A) (k : ℕ) (x : A) → slice_get xs k ≡ Some x → slice_get (xs ++ ys) k ≡ Some x
still_there xs ys k x e =
    let lt = slice_get_within xs k x e in
    let read = get_or_append_left xs ys x k lt ∙ get_or_from_slice_get xs k x x e in
    slice_get_read (xs ++ ys) (length (xs ++ ys)) k x refl (omega (arith, lt, length-append xs ys)) (sym read)

last_one : {A : Type 0} (xs : List A) (k : ℕ) (x : A) → k ≡ length xs + 0 → slice_get (xs ++ x ∷ []) k ≡ Some x
last_one xs k x e =
    let long = length-append xs (x ∷ []) in
    let read = ap (λ (n : ℕ). get_or (xs ++ x ∷ []) n x) e ∙ get_or-append-add xs (x ∷ []) 0 x in
    slice_get_read (xs ++ x ∷ []) (length (xs ++ x ∷ [])) k x refl (omega (arith, long, e)) (sym read)

-- one more was taken, and is open
pub takes_opened : (takes running : List Batch) (b : Batch) → AreTakes takes running
    → b.number ≡ length takes + 1 → AreTakes (takes ++ b ∷ []) (running ++ b ∷ [])
takes_opened takes running b all number =
    let Old : Batch → Type 0 = IsTake takes in
    let New : Batch → Type 0 = IsTake (takes ++ b ∷ []) in
    all_append New running (b ∷ [])
    (all_imply Old New (λ (x : Batch) e. still_there takes (b ∷ []) (x.number - 1) x e) running all)
    (last_one takes (b.number - 1) b (omega (arith, number)), tt)

-- the open batches are the same after further takes
pub same_after : (takes more : List Batch) (numbers : List ℕ) → AreTakes takes (map (batch_in takes) numbers)
    → map (batch_in (takes ++ more)) numbers ≡ map (batch_in takes) numbers
same_after takes more [] all = refl
same_after takes more (n ∷ numbers) all =
    let lt = slice_get_within takes (n - 1) (batch_in takes n) all.0 in
    ap (λ (b : Batch). record b { number = n } ∷ map (batch_in (takes ++ more)) numbers) (get_or_append_left takes more no_batch (n - 1) lt)
    ∙ ap (λ (rest : List Batch). batch_in takes n ∷ rest) (same_after takes more numbers all.1)

-- the open batches after one more take
pub opened_now : (takes : List Batch) (numbers : List ℕ) (b : Batch) → AreTakes takes (map (batch_in takes) numbers)
    → b.number ≡ length takes + 1
    → map (batch_in (takes ++ b ∷ [])) (numbers ++ b.number ∷ []) ≡ map (batch_in takes) numbers ++ b ∷ []
opened_now takes numbers b all e =
    let own = get_or_from_slice_get (takes ++ b ∷ []) (b.number - 1) b no_batch (last_one takes (b.number - 1) b (omega (arith, e))) in
    map-append (batch_in (takes ++ b ∷ [])) numbers (b.number ∷ [])
    ∙ ap (λ (rest : List Batch). rest ++ batch_in (takes ++ b ∷ []) b.number ∷ []) (same_after takes (b ∷ []) numbers all)
    ∙ ap (λ (x : Batch). map (batch_in takes) numbers ++ record x { number = b.number } ∷ []) own

names_from : (takes : List Batch) (number : ℕ) (numbers : List ℕ)
    → position_or_len (λ n. n == number) numbers ≡ position_or_len (λ (o : Batch). o.number == number) (map (batch_in takes) numbers)
names_from takes number [] = refl
names_from takes number (n ∷ numbers) = ap (λ more. cond (not (n == number)) (1 + more) 0) (names_from takes number numbers)

-- a number has the place of the batch that it names
place_among : (takes : List Batch) (number : ℕ) (numbers : List ℕ)
    → unwrap_or (position (λ n. n == number) numbers) 0 ≡ place_of_batch number (map (batch_in takes) numbers)
place_among takes number numbers =
    ap (λ place. unwrap_or (cond (nat_lt place (length numbers)) (Some place) None) 0) (names_from takes number numbers)
    ∙ ap (λ many. unwrap_or (cond (nat_lt (position_or_len (λ (o : Batch). o.number == number) (map (batch_in takes) numbers)) many)
    (Some (position_or_len (λ (o : Batch). o.number == number) (map (batch_in takes) numbers))) None) 0)
    (sym (length-map numbers (batch_in takes)))

-- the same of the place that was found
pub place_found : (takes : List Batch) (number : ℕ) (numbers read : List ℕ) (place : ℕ)
    → place ≡ unwrap_or (position (λ n. n == number) read) 0 → read ≡ numbers → place ≡ place_of_batch number (map (batch_in takes) numbers)
place_found takes number numbers read place found same =
    found ∙ ap (λ (ns : List ℕ). unwrap_or (position (λ n. n == number) ns) 0) same ∙ place_among takes number numbers

-- one number fewer is one batch fewer
pub closed_at : (takes : List Batch) (numbers rest : List ℕ) (i j : ℕ) → rest ≡ remove numbers i → i ≡ j
    → map (batch_in takes) rest ≡ remove (map (batch_in takes) numbers) j
closed_at takes numbers rest i j left same =
    ap (map (batch_in takes)) left ∙ map-remove (batch_in takes) numbers i ∙ ap (remove (map (batch_in takes) numbers)) same

-- its number
pub number_at : (takes : List Batch) (numbers : List ℕ) (i j n : ℕ) (d : Batch) → n ≡ get_or numbers i n → i ≡ j → i < length numbers
    → n ≡ (get_or (map (batch_in takes) numbers) j d).number
number_at takes numbers i j n d at same lt =
    at ∙ sym (ap (λ (o : Batch). o.number) (get_or-map (batch_in takes) numbers i n d lt))
    ∙ ap (λ k. (get_or (map (batch_in takes) numbers) k d).number) same

-- those that are left are of the takes of their numbers
pub takes_closed : (takes running : List Batch) (i : ℕ) → AreTakes takes running → AreTakes takes (remove running i)
takes_closed takes [] zero all = tt
takes_closed takes [] (suc i) all = tt
takes_closed takes (o ∷ running) zero all = all.1
takes_closed takes (o ∷ running) (suc i) all = (all.0, takes_closed takes running i all.1)
