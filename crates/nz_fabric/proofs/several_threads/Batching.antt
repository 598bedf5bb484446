-- Batches: what they have of the items of a tick, and what their records are of.
use Rattle.std.proofs.Common.{◌≡◌, ℕ, zero, suc, ◌+◌, ◌<◌, ◌≤◌, Bool, false, cond, List, [], ◌∷◌, ◌++◌, length, map}
use Rattle.std.proofs.Common.{refl, sym, ap, ◌∙◌, subst, arith, add-one, append_assoc, append-nil, length-drop}
use Rattle.std.specs.Prelude.{take, drop, get_or, IsPermutation}
use Rattle.std.specs.List.{AllByRecursion, flat_map, prefix_len, remove}
use Rattle.std.proofs.Math.Seq.{drop-cons, take-add}
use Rattle.std.proofs.lemmas.List.{length-map, map-append}
use Rattle.std.proofs.lemmas.List.Sums.{take_while-cons, prefix_len-le-length}
use Rattle.std.proofs.lemmas.List.Folds.{length-prefix_len}
use Rattle.std.proofs.lemmas.Grind.{flat_map-append}
use Rattle.std.proofs.lemmas.List.Sorted.{IsPermutation-refl, IsPermutation-append_comm, IsPermutation-append_left}
use Rattle.std.proofs.lemmas.List.Sorted.{IsPermutation-append_right, IsPermutation-trans}
use Rattle.nz_base.proofs.Names.{actor_eq_self}
use Rattle.nz_base.specs.Actor.{actor_eq}
use Rattle.nz_base.specs.declared.actor.Actor.{Actor}
use Rattle.nz_machine.specs.declared.event.Event.{Event}
use Rattle.nz_machine.specs.declared.event.Record.{Record}
use Rattle.nz_machine.specs.declared.journal.Item.{Item}
use Rattle.nz_machine.specs.runs.Schedule.{item, item_of}
use Rattle.nz_machine.specs.rules.State.{Group}
use Rattle.nz_machine.specs.rules.Step.{Node, node_run}
use Rattle.nz_machine.specs.declared.event.Parcel.{Parcel}
use Rattle.nz_fabric.specs.declared.threads.batch.Batch.{Batch}
use Rattle.nz_fabric.specs.threads.Shared.{Shared, IsNextOf, items_of, run_of}
use Rattle.nz_fabric.specs.threads.Steps.{batch_records, sends_from}
use Rattle.nz_fabric.specs.threads.Takes.{batch_of}

-- ---- the next batch

run_next : (a : Actor) (items : List Item) (i : ℕ) (x : Item) → i < length items → x ≡ get_or items i x → x.actor ≡ a
    → run_of a (drop i items) ≡ x ∷ run_of a (drop (i + 1) items)
run_next a items i x lt at own =
    let rest = drop (i + 1) items in
    let apart : drop i items ≡ x ∷ rest =
    drop-cons items i x lt ∙ ap (λ (y : Item). y ∷ drop (suc i) items) (sym at) ∙ ap (λ (n : ℕ). x ∷ drop n items) (sym (add-one i)) in
    ap (run_of a) apart ∙ take_while-cons (λ (i : Item). actor_eq i.actor a) x rest
    ∙ ap (λ (yes : Bool). cond yes (x ∷ run_of a rest) []) (ap (λ (b : Actor). actor_eq b a) own ∙ actor_eq_self a)

-- one event more
pub run_step : (a : Actor) (events : List Event) (e : Event) (items : List Item) (i : ℕ) (x : Item) → i < length items → x ≡ get_or items i x
    → x.actor ≡ a → e ≡ x.event
    → map (item a) (events ++ e ∷ []) ++ run_of a (drop (i + 1) items) ≡ map (item a) events ++ run_of a (drop i items)
run_step a events e items i x lt at own same =
    let rest = run_of a (drop (i + 1) items) in
    let first : x ≡ item a e = ap (λ (b : Actor). item b x.event) own ∙ ap (item a) (sym same) in
    ap (λ (is : List Item). is ++ rest) (map-append (item a) events (e ∷ []))
    ∙ append_assoc (map (item a) events) (item a e ∷ []) rest
    ∙ ap (λ (is : List Item). map (item a) events ++ is) (sym (run_next a items i x lt at own ∙ ap (λ (y : Item). y ∷ rest) first))

-- the next item is of its own actor
pub run_some : (items : List Item) (i : ℕ) (x : Item) → i < length items → x ≡ get_or items i x → 0 < length (run_of x.actor (drop i items))
run_some items i x lt at = let long = ap length (run_next x.actor items i x lt at refl) in omega (arith, long)

run_long : (a : Actor) (items : List Item) (next n : ℕ) (is : List Item) → is ≡ run_of a (drop next items) → n ≡ length is
    → n ≡ prefix_len (λ (i : Item). actor_eq i.actor a) (drop next items)
run_long a items next n is run long =
    long ∙ ap length run ∙ length-prefix_len (λ (i : Item). actor_eq i.actor a) (drop next items)

-- what was taken with the next batch
pub run_taken : (a : Actor) (items : List Item) (next n : ℕ) (is : List Item) → is ≡ run_of a (drop next items) → n ≡ length is
    → take (next + n) items ≡ take next items ++ is
run_taken a items next n is run long =
    take-add next n items
    ∙ ap (λ (k : ℕ). take next items ++ take k (drop next items)) (run_long a items next n is run long)
    ∙ ap (λ (ys : List Item). take next items ++ ys) (sym run)

run_within : (a : Actor) (items : List Item) (next n : ℕ) (is : List Item) → is ≡ run_of a (drop next items) → n ≡ length is
    → next ≤ length items → next + n ≤ length items
run_within a items next n is run long le =
    let most = prefix_len-le-length (λ (i : Item). actor_eq i.actor a) (drop next items) in
    let same = run_long a items next n is run long in
    let left = length-drop next items in
    omega (arith, most, same, left, le)

-- the events of the next run are the next batch
pub next_batch : (f : Shared) (a : Actor) (events : List Event) → f.run.marked ≡ false → f.run.next ≤ length f.run.items → 0 < length events
    → map (item a) events ≡ run_of a (drop f.run.next f.run.items) → IsNextOf f (batch_of (f.taken + 1) a events)
next_batch f a events unmarked le some run = record {
  unmarked = unmarked;
  number = refl;
  some = some;
  items = run;
  within = run_within a f.run.items f.run.next (length events) (map (item a) events) run (sym (length-map events (item a))) le;
}

-- ---- the items of the open batches

to_start : (xs ys zs : List Item) → IsPermutation (xs ++ (ys ++ zs)) (ys ++ (xs ++ zs))
to_start xs ys zs =
    subst (λ (is : List Item). IsPermutation is (ys ++ (xs ++ zs))) (append_assoc xs ys zs)
    (subst (λ (is : List Item). IsPermutation ((xs ++ ys) ++ zs) is) (append_assoc ys xs zs)
    (IsPermutation-append_left zs _ _ (IsPermutation-append_comm xs ys)))

-- one of them apart
pub batch_apart : (running : List Batch) (i : ℕ) (b : Batch) → i < length running → b ≡ get_or running i b
    → IsPermutation (flat_map items_of running) (items_of b ++ flat_map items_of (remove running i))
batch_apart [] i b lt at = absurd (omega arith)
batch_apart (o ∷ running) zero b lt at =
    subst (λ (x : Batch). IsPermutation (items_of o ++ flat_map items_of running) (items_of x ++ flat_map items_of running)) (sym at)
    (IsPermutation-refl (items_of o ++ flat_map items_of running))
batch_apart (o ∷ running) (suc i) b lt at =
    let rest = flat_map items_of (remove running i) in
    IsPermutation-trans _ _ _ (IsPermutation-append_right (items_of o) _ _ (batch_apart running i b (omega arith) at))
    (to_start (items_of o) (items_of b) rest)

-- one more is open
pub one_opened : (given_up : List Item) (running : List Batch) (b : Batch) (here taken : List Item)
    → IsPermutation taken ((given_up ++ flat_map items_of running) ++ here)
    → IsPermutation (taken ++ items_of b) ((given_up ++ flat_map items_of (running ++ b ∷ [])) ++ here)
one_opened given_up running b here taken h =
    let open_items = flat_map items_of running in
    let all : flat_map items_of (running ++ b ∷ []) ≡ open_items ++ items_of b =
    flat_map-append items_of running (b ∷ []) ∙ ap (λ (is : List Item). open_items ++ is) (append-nil (items_of b)) in
    let last = IsPermutation-trans _ _ _ (IsPermutation-append_left (items_of b) _ _ h)
    (subst (λ (is : List Item). IsPermutation is ((given_up ++ open_items) ++ (items_of b ++ here))) (sym (append_assoc (given_up ++ open_items) here (items_of b)))
    (IsPermutation-append_right (given_up ++ open_items) _ _ (IsPermutation-append_comm here (items_of b)))) in
    subst (λ (is : List Item). IsPermutation (taken ++ items_of b) is)
    (sym (append_assoc (given_up ++ open_items) (items_of b) here)
    ∙ ap (λ (is : List Item). is ++ here) (append_assoc given_up open_items (items_of b) ∙ ap (λ (is : List Item). given_up ++ is) (sym all)))
    last

-- or its items are given up
pub one_lost : (given_up open_items here taken items : List Item) → IsPermutation taken ((given_up ++ open_items) ++ here)
    → IsPermutation (taken ++ items) (((items ++ given_up) ++ open_items) ++ here)
one_lost given_up open_items here taken items h =
    IsPermutation-trans _ _ _ (IsPermutation-append_comm taken items)
    (subst (λ (is : List Item). IsPermutation (items ++ taken) (is ++ here)) (sym (append_assoc items given_up open_items))
    (subst (λ (is : List Item). IsPermutation (items ++ taken) is) (sym (append_assoc items (given_up ++ open_items) here))
    (IsPermutation-append_right items _ _ h)))

-- one is closed: some of its items are recorded, and the rest is given up
pub one_closed : (given_up : List Item) (running : List Batch) (here done done' rest : List Item) (i : ℕ) (b : Batch)
    → i < length running → b ≡ get_or running i b → done ++ rest ≡ items_of b → IsPermutation done done'
    → IsPermutation ((given_up ++ flat_map items_of running) ++ here)
    (((rest ++ given_up) ++ flat_map items_of (remove running i)) ++ (done' ++ here))
one_closed given_up running here done done' rest i b lt at whole turned =
    let others = flat_map items_of (remove running i) in
    let left = (rest ++ given_up) ++ others in
    let apart : IsPermutation (flat_map items_of running) ((done ++ rest) ++ others) =
    subst (λ (is : List Item). IsPermutation (flat_map items_of running) (is ++ others)) (sym whole) (batch_apart running i b lt at) in
    let front : IsPermutation (given_up ++ flat_map items_of running) (done ++ left) =
    IsPermutation-trans _ _ _ (IsPermutation-append_right given_up _ _ apart)
    (subst (λ (is : List Item). IsPermutation (given_up ++ ((done ++ rest) ++ others)) is)
    (append_assoc done rest (given_up ++ others) ∙ ap (λ (is : List Item). done ++ is) (sym (append_assoc rest given_up others)))
    (to_start given_up (done ++ rest) others)) in
    let swapped : IsPermutation ((given_up ++ flat_map items_of running) ++ here) (left ++ (done ++ here)) =
    IsPermutation-trans _ _ _ (IsPermutation-append_left here _ _ front)
    (subst (λ (is : List Item). IsPermutation ((done ++ left) ++ here) is) (append_assoc left done here)
    (IsPermutation-append_left here _ _ (IsPermutation-append_comm done left))) in
    IsPermutation-trans _ _ _ swapped (IsPermutation-append_right left _ _ (IsPermutation-append_left here _ _ turned))

-- one more is recorded, of which no batch was open
pub one_recorded : (others here taken : List Item) (i : Item) → IsPermutation taken (others ++ here)
    → IsPermutation (taken ++ i ∷ []) (others ++ (i ∷ here))
one_recorded others here taken i h =
    IsPermutation-trans _ _ _ (IsPermutation-append_left (i ∷ []) _ _ h)
    (subst (λ (is : List Item). IsPermutation is (others ++ (i ∷ here))) (sym (append_assoc others here (i ∷ [])))
    (IsPermutation-append_right others _ _ (IsPermutation-append_comm here (i ∷ []))))

-- ---- the records of a batch

items_by : (g : Group) (n : Node) (tick : ℕ) (a : Actor) (events : List Event)
    → map item_of (batch_records tick a events (sends_from g n events)) ≡ map (item a) events
items_by g n tick a [] = refl
items_by g n tick a (e ∷ events) = ap (λ (is : List Item). item a e ∷ is) (items_by g (node_run g n e).0 tick a events)

-- they are of its items
pub records_items : (g : Group) (n : Node) (tick : ℕ) (a : Actor) (events : List Event) (sends : List (List Parcel)) → sends ≡ sends_from g n events
    → map item_of (batch_records tick a events sends) ≡ map (item a) events
records_items g n tick a events sends sent =
    ap (λ (all : List (List Parcel)). map item_of (batch_records tick a events all)) sent ∙ items_by g n tick a events

-- and of its tick
pub records_tick : (tick : ℕ) (a : Actor) (events : List Event) (sends : List (List Parcel))
    → AllByRecursion (λ (r : Record). r.tick ≡ tick) (batch_records tick a events sends)
records_tick tick a [] sends = tt
records_tick tick a (e ∷ events) [] = tt
records_tick tick a (e ∷ events) (sent ∷ sends) = (refl, records_tick tick a events sends)
