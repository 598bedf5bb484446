-- What the network of several threads keeps.
use Rattle.std.proofs.Common.{◌≡◌, ℕ, zero, suc, ◌+◌, ◌^◌, ◌<◌, ◌≤◌, Bool, true, false, List, [], ◌∷◌, ◌++◌, length, map}
use Rattle.std.proofs.Common.{refl, sym, ap, ◌∙◌, subst, arith, length-append, append-nil, take_all}
use Rattle.std.specs.Prelude.{take, reverse, get_or, IsPermutation}
use Rattle.std.specs.List.{AllByRecursion, flat_map, remove}
use Rattle.std.proofs.lemmas.List.{map-append, length-map, length-take-le, get_or_default}
use Rattle.std.proofs.lemmas.Option.{slice_get-get_or}
use Rattle.std.proofs.lemmas.Grind.{reverse_onto}
use Rattle.std.proofs.lemmas.List.Sorted.{IsPermutation-refl, IsPermutation-map, IsPermutation-trans}
use Rattle.std.proofs.lemmas.List.Sorted.{IsPermutation-reverse, IsPermutation-remove, length_permutation}
use Rattle.nz_base.specs.declared.actor.Actor.{Actor}
use Rattle.nz_base.specs.declared.scenario.Scenario.{Scenario}
use Rattle.nz_machine.specs.declared.event.Event.{Event}
use Rattle.nz_machine.specs.declared.event.Record.{Record}
use Rattle.nz_machine.specs.declared.journal.Item.{Item}
use Rattle.nz_machine.specs.journals.Records.{Recorded}
use Rattle.nz_machine.specs.runs.Schedule.{item, item_of, due, posted_by_run, ScheduledTo, IsPlayable}
use Rattle.nz_machine.specs.rules.State.{Group}
use Rattle.nz_machine.specs.rules.Step.{Node}
use Rattle.nz_machine.specs.declared.event.Parcel.{Parcel}
use Rattle.nz_machine.proofs.lists.EachItem.{all_append, all_of_prefix}
use Rattle.nz_machine.proofs.lists.ListParts.{take_next}
use Rattle.nz_fabric.specs.threads.Records.{AddsSome}
use Rattle.nz_fabric.specs.threads.Steps.{batch_records, sends_from, step_of}
use Rattle.nz_fabric.specs.declared.threads.batch.Batch.{Batch}
use Rattle.nz_fabric.specs.declared.schedule.ticks.Ticks.{Ticks}
use Rattle.nz_fabric.specs.alone.States.{State, records_of, HasNotBegun, IsPosted, with_mark, after_tick, IsBegunInSomeOrder, HasBegunAs}
use Rattle.nz_fabric.specs.schedule.Agendas.{Progress, at_start}
use Rattle.nz_fabric.specs.schedule.Calendars.{Dates}
use Rattle.nz_fabric.specs.threads.Takes.{Batches, batches_with, no_batch, with_one}
use Rattle.nz_fabric.specs.threads.Shared.{Booking, booking_of, shared_of, place_of_batch, batch_for, without_batch}
use Rattle.nz_fabric.specs.threads.Shared.{Shared, shared_with, items_of, IsNextOf, with_opened, after_shared, IsOver, IsAccounted, IsBooked}
use Rattle.nz_fabric.specs.threads.Shared.{HasNext, next_item, next_record, no_item, with_next}
use Rattle.nz_fabric.proofs.several_threads.Batching.{run_taken, batch_apart, one_opened, one_lost, one_closed, one_recorded, records_items, records_tick}
use Rattle.nz_fabric.proofs.one_thread.Held.{no_records, long_here, state_records, next_is, posted_start, posted_more, posted_next}

-- ---- the start

pub booked_start : (s : Scenario) (t : Ticks) (records : Recorded) (agenda : Progress) (batches : Batches) (total : ℕ)
    → IsPlayable s → HasNotBegun s t → records.records ≡ [] → agenda ≡ at_start [] → batches.running ≡ [] → total ≡ 0
    → IsBooked s (booking_of t 0 records agenda batches total)
booked_start s t records agenda batches total play new no_record none_due none_open nothing =
    subst (λ (running : List Batch). IsBooked s (booking_of t 0 records agenda (batches_with running batches.taken) total)) (sym none_open)
    (subst (λ (p : Progress). IsBooked s (booking_of t 0 records p (batches_with [] batches.taken) total)) (sym none_due)
    (subst (λ (rs : List Record). IsBooked s (booking_of t 0 (record records { records = rs }) (at_start []) (batches_with [] batches.taken) total))
    (sym no_record)
    (record {
      accounted = subst (λ (f : State). IsAccounted s (shared_with f [] batches.taken)) (sym new.state) (record {
        scenario = refl;
        playable = play;
        in_run = omega arith;
        begun = (refl, refl);
        here = tt;
        next = omega arith;
        given_up = [];
        each_once = IsPermutation-refl [];
        all_kept = λ _. refl;
      });
      within = omega arith;
      few = omega arith;
      reserved = omega arith;
      is_posted = subst (λ (f : State). IsPosted f t.calendar) (sym new.state) (posted_start s t.calendar new.stands);
      booked = nothing;
    })))

-- ---- how many records there are

-- no more of them than items that were taken
pub booked_long : (s : Scenario) (k : Booking) → IsBooked s k → length k.records.records ≤ k.before + k.agenda.next
booked_long s k h =
    let is = h.accounted in
    let f = shared_of k in
    let others = is.given_up ++ flat_map items_of f.running in
    let all = length_permutation (take f.run.next f.run.items) (others ++ map item_of f.run.here) is.each_once in
    let first = length-take-le f.run.next f.run.items is.next in
    let a = length-append others (map item_of f.run.here) in
    let recorded = length-map f.run.here item_of in
    let long = long_here k.before k.records.records h.within in
    omega (arith, all, first, a, recorded, long)

pub booked_few : (s : Scenario) (k : Booking) → IsBooked s k → length k.records.records < 2 ^ 32
booked_few s k h = let long = booked_long s k h in let few = h.few in omega (arith, long, few)

-- ---- one batch more

accounted_taken : (s : Scenario) (f : Shared) (b : Batch) → IsAccounted s f → IsNextOf f b → IsAccounted s (with_opened b f)
accounted_taken s f b k is =
    let n = length b.events in
    let long = sym (length-map b.events (item b.actor)) in
    record {
      scenario = k.scenario;
      playable = k.playable;
      in_run = k.in_run;
      begun = k.begun;
      here = k.here;
      next = is.within;
      given_up = k.given_up;
      each_once =
          subst (λ (is : List Item). IsPermutation is ((k.given_up ++ flat_map items_of (f.running ++ b ∷ [])) ++ map item_of f.run.here))
          (sym (run_taken b.actor f.run.items f.run.next n (items_of b) is.items long))
          (one_opened k.given_up f.running b (map item_of f.run.here) (take f.run.next f.run.items) k.each_once);
      all_kept = k.all_kept;
    }

pub booked_taken : (s : Scenario) (k : Booking) (b : Batch) (total : ℕ) → IsBooked s k → IsNextOf (shared_of k) b → total ≡ k.total + 1
    → k.before + (k.agenda.next + length b.events) ≤ k.records.room → k.before + (k.agenda.next + length b.events) < 2 ^ 32
    → IsBooked s (record k { agenda = record k.agenda { next = k.agenda.next + length b.events }; batches = with_one b k.batches; total = total })
booked_taken s k b total h is count reserved few =
    let long = length-append k.batches.running (b ∷ []) in
    let booked = h.booked in
    let posted = h.is_posted in
    record {
      accounted = accounted_taken s (shared_of k) b h.accounted is;
      within = h.within;
      few = few;
      reserved = reserved;
      is_posted = record { sent = posted.sent; rest = posted.rest; prefix = posted.prefix; stands = posted.stands; none = posted.none };
      booked = omega (arith, long, booked, count);
    }

accounted_lost : (s : Scenario) (f : Shared) (b : Batch) → IsAccounted s f → IsNextOf f b
    → IsAccounted s (shared_with (with_mark (record f.run { next = f.run.next + length b.events })) f.running f.taken)
accounted_lost s f b k is = record {
  scenario = k.scenario;
  playable = k.playable;
  in_run = k.in_run;
  begun = k.begun;
  here = k.here;
  next = is.within;
  given_up = items_of b ++ k.given_up;
  each_once =
      subst (λ (is : List Item). IsPermutation is (((items_of b ++ k.given_up) ++ flat_map items_of f.running) ++ map item_of f.run.here))
      (sym (run_taken b.actor f.run.items f.run.next (length b.events) (items_of b) is.items (sym (length-map b.events (item b.actor)))))
      (one_lost k.given_up (flat_map items_of f.running) (map item_of f.run.here) (take f.run.next f.run.items) (items_of b) k.each_once);
  all_kept = λ e. cc;
}

-- its items were taken, but it is not open: nobody does them
pub booked_lost : (s : Scenario) (k : Booking) (b : Batch) → IsBooked s k → IsNextOf (shared_of k) b
    → k.before + (k.agenda.next + length b.events) ≤ k.records.room → k.before + (k.agenda.next + length b.events) < 2 ^ 32
    → IsBooked s (record k { marked = true; agenda = record k.agenda { next = k.agenda.next + length b.events } })
booked_lost s k b h is reserved few =
    let posted = h.is_posted in
    record {
      accounted = accounted_lost s (shared_of k) b h.accounted is;
      within = h.within;
      few = few;
      reserved = reserved;
      is_posted = record { sent = posted.sent; rest = posted.rest; prefix = posted.prefix; stands = posted.stands; none = λ e. cc };
      booked = h.booked;
    }

-- the same records have as much room or more
pub booked_room : (s : Scenario) (k : Booking) (now : Recorded) → IsBooked s k → now.records ≡ k.records.records → k.records.room ≤ now.room
    → IsBooked s (record k { records = now })
booked_room s k now h same more =
    let reserved = h.reserved in
    subst (λ (rs : List Record). IsBooked s (record k { records = record now { records = rs } })) (sym same) (record {
      accounted = h.accounted;
      within = h.within;
      few = h.few;
      reserved = omega (arith, reserved, more);
      is_posted = h.is_posted;
      booked = h.booked;
    })

-- ---- one batch fewer

one_fewer : (running : List Batch) (i : ℕ) → i < length running → length (remove running i) + 1 ≡ length running
one_fewer running i lt =
    let b = get_or running i no_batch in
    let e = length_permutation running (b ∷ remove running i) (IsPermutation-remove running i b lt (get_or_default running i no_batch b lt)) in omega (arith, e)

-- the journal has a place for each event of an open batch
pub booked_places : (s : Scenario) (k : Booking) (b : Batch) → IsBooked s k → place_of_batch b.number k.batches.running < length k.batches.running
    → batch_for b.number k.batches.running ≡ b
    → (length k.records.records + length b.events ≤ k.records.room) × (length k.records.records + length b.events < 2 ^ 32)
booked_places s k b h lt same =
    let is = h.accounted in
    let f = shared_of k in
    let i = place_of_batch b.number f.running in
    let here = map item_of f.run.here in
    let open_items = flat_map items_of f.running in
    let others = flat_map items_of (remove f.running i) in
    let all = length_permutation (take f.run.next f.run.items) ((is.given_up ++ open_items) ++ here) is.each_once in
    let first = length-take-le f.run.next f.run.items is.next in
    let apart = length_permutation open_items (items_of b ++ others)
    (batch_apart f.running i b lt (sym same ∙ get_or_default f.running i no_batch b lt)) in
    let a = length-append (is.given_up ++ open_items) here in
    let d = length-append is.given_up open_items in
    let e = length-append (items_of b) others in
    let own = length-map b.events (item b.actor) in
    let recorded = length-map f.run.here item_of in
    let long = long_here k.before k.records.records h.within in
    let reserved = h.reserved in
    let few = h.few in (
      omega (arith, all, first, apart, a, d, e, own, recorded, long, reserved),
      omega (arith, all, first, apart, a, d, e, own, recorded, long, few),
    )

all_reversed : (P : Record → Type 0) (rs : List Record) → AllByRecursion P rs → AllByRecursion P (reverse rs)
all_reversed P [] all = tt
all_reversed P (r ∷ rs) all =
    subst (AllByRecursion P) (sym (reverse_onto rs r [])) (all_append P (reverse rs) (r ∷ []) (all_reversed P rs all.1) (all.0, tt))

-- after it some first of its items are recorded, and the rest is given up
accounted_closed : (s : Scenario) (f : Shared) (number : ℕ) (marked : Bool) (more : List Record) (rest : List Item)
    → IsAccounted s f → place_of_batch number f.running < length f.running
    → AllByRecursion (λ (r : Record). r.tick ≡ f.run.tick) more → map item_of more ++ rest ≡ items_of (batch_for number f.running)
    → (marked ≡ false → (f.run.marked ≡ false) × (rest ≡ []))
    → IsAccounted s (shared_with (record f.run { here = reverse more ++ f.run.here; marked = marked }) (without_batch number f.running) f.taken)
accounted_closed s f number marked more rest k lt ticks whole kept =
    let i = place_of_batch number f.running in
    let b = batch_for number f.running in
    record {
      scenario = k.scenario;
      playable = k.playable;
      in_run = k.in_run;
      begun = k.begun;
      here = all_append (λ (r : Record). r.tick ≡ f.run.tick) (reverse more) f.run.here (all_reversed (λ (r : Record). r.tick ≡ f.run.tick) more ticks) k.here;
      next = k.next;
      given_up = rest ++ k.given_up;
      each_once =
          subst (λ (is : List Item). IsPermutation (take f.run.next f.run.items)
          (((rest ++ k.given_up) ++ flat_map items_of (remove f.running i)) ++ is))
          (sym (map-append item_of (reverse more) f.run.here))
          (IsPermutation-trans _ _ _ k.each_once
          (one_closed k.given_up f.running (map item_of f.run.here) (map item_of more) (map item_of (reverse more)) rest i b lt
          (get_or_default f.running i no_batch b lt) whole
          (IsPermutation-map item_of more (reverse more) (IsPermutation-reverse more))));
      all_kept = λ e. ap (λ (is : List Item). is ++ k.given_up) (kept e).1 ∙ k.all_kept (kept e).0;
    }

-- The open batch of this number is closed, with these records.
abbrev pub closed_booking : Booking → ℕ → ℕ → Recorded → Bool → Booking
closed_booking k number total records marked = record k {
  marked = marked;
  records = records;
  batches = batches_with (without_batch number k.batches.running) k.batches.taken;
  total = total;
}

booked_closed : (s : Scenario) (k : Booking) (number total : ℕ) (more : List Record) (rest : List Item) (marked : Bool)
    → IsBooked s k → place_of_batch number k.batches.running < length k.batches.running → total + 1 ≡ k.total
    → AllByRecursion (λ (r : Record). r.tick ≡ k.tick) more → map item_of more ++ rest ≡ items_of (batch_for number k.batches.running)
    → (marked ≡ false → (k.marked ≡ false) × (rest ≡ []))
    → IsBooked s (closed_booking k number total (record k.records { records = k.records.records ++ more }) marked)
booked_closed s k number total more rest marked h lt count ticks whole kept =
    let f = shared_of k in
    let rs = k.records.records in
    let after = sym (state_records k.scenario k.tick k.before rs more k.agenda.items k.agenda.next marked h.within) in
    let long = length-append rs more in
    let fewer = one_fewer f.running (place_of_batch number f.running) lt in
    let within = h.within in
    let booked = h.booked in
    record {
      accounted =
          subst (λ (run : State). IsAccounted s (shared_with run (without_batch number f.running) f.taken)) after
          (accounted_closed s f number marked more rest h.accounted lt ticks whole kept);
      within = omega (arith, long, within);
      few = h.few;
      reserved = h.reserved;
      is_posted = subst (λ (run : State). IsPosted run k.calendar) after (posted_more f.run more marked k.calendar (λ e. (kept e).0) h.is_posted);
      booked = omega (arith, fewer, booked, count);
    }

recorded_is : (r now : Recorded) → now.records ≡ r.records → now.room ≡ r.room → now ≡ r
recorded_is r now same room =
    ap (λ (rs : List Record). let s : Recorded = record { records = rs; room = now.room } in s) same
    ∙ ap (λ (n : ℕ). let s : Recorded = record { records = r.records; room = n } in s) room

-- all of them are recorded
pub booked_recorded : (g : Group) (n : Node) (s : Scenario) (k : Booking) (b : Batch) (total : ℕ) (records : Recorded) (sends : List (List Parcel))
    → IsBooked s k → place_of_batch b.number k.batches.running < length k.batches.running → batch_for b.number k.batches.running ≡ b
    → total + 1 ≡ k.total → sends ≡ sends_from g n b.events → records.room ≡ k.records.room
    → records.records ≡ k.records.records ++ batch_records k.tick b.actor b.events sends
    → IsBooked s (closed_booking k b.number total records k.marked)
booked_recorded g n s k b total records sends h lt same count sent room added =
    let steps = batch_records k.tick b.actor b.events sends in
    let now : Recorded = record k.records { records = k.records.records ++ steps } in
    subst (λ (r : Recorded). IsBooked s (closed_booking k b.number total r k.marked)) (sym (recorded_is now records added room))
    (booked_closed s k b.number total steps [] k.marked h lt count (records_tick k.tick b.actor b.events sends)
    (append-nil (map item_of steps) ∙ records_items g n k.tick b.actor b.events sends sent ∙ ap items_of (sym same)) (λ e. (e, refl)))

-- some first of them are recorded, and the rest is given up
pub booked_stopped : (g : Group) (n : Node) (s : Scenario) (k : Booking) (b : Batch) (total : ℕ) (records : Recorded) (sends : List (List Parcel))
    → IsBooked s k → place_of_batch b.number k.batches.running < length k.batches.running → batch_for b.number k.batches.running ≡ b
    → total + 1 ≡ k.total → sends ≡ sends_from g n b.events → records.room ≡ k.records.room
    → AddsSome (batch_records k.tick b.actor b.events sends) k.records.records records.records
    → IsBooked s (closed_booking k b.number total records true)
booked_stopped g n s k b total records sends h lt same count sent room some =
    let now : Recorded = record k.records { records = k.records.records ++ some.done } in
    subst (λ (r : Recorded). IsBooked s (closed_booking k b.number total r true)) (sym (recorded_is now records some.added room))
    (booked_closed s k b.number total some.done (map item_of some.rest) true h lt count
    (all_of_prefix (λ (r : Record). r.tick ≡ k.tick) some.done some.rest
    (subst (AllByRecursion (λ (r : Record). r.tick ≡ k.tick)) some.whole (records_tick k.tick b.actor b.events sends)))
    (sym (map-append item_of some.done some.rest) ∙ ap (map item_of) (sym some.whole) ∙ records_items g n k.tick b.actor b.events sends sent
    ∙ ap items_of (sym same)) (λ e. cc))

-- none of them is recorded
pub booked_given_up : (s : Scenario) (k : Booking) (number total : ℕ) → IsBooked s k
    → place_of_batch number k.batches.running < length k.batches.running → total + 1 ≡ k.total
    → IsBooked s (closed_booking k number total k.records true)
booked_given_up s k number total h lt count =
    subst (λ (rs : List Record). IsBooked s (closed_booking k number total (record k.records { records = rs }) true)) (append-nil k.records.records)
    (booked_closed s k number total [] (items_of (batch_for number k.batches.running)) true h lt count tt refl (λ e. cc))

-- ---- the next item is taken, and at once recorded

-- the record of the item that was read
pub next_record_is : (f : Shared) (sends : List Parcel) (a : Actor) (e : Event) (i : Item) → HasNext f → i ≡ get_or f.run.items f.run.next i
    → a ≡ (next_item f).actor → e ≡ i.event → step_of f.run.tick a e sends ≡ next_record sends f
next_record_is f sends a e i has at own same =
    ap (λ (a : Actor). step_of f.run.tick a e sends) own
    ∙ ap (λ (e : Event). step_of f.run.tick (next_item f).actor e sends)
    (same ∙ ap (λ (i : Item). i.event) (at ∙ get_or_default f.run.items f.run.next i no_item has.some))

-- the state has its record first
pub with_next_is : (k : Booking) (sends : List Parcel) (r : Record) (now : Recorded) (agenda : Progress) → k.before ≤ length k.records.records
    → r ≡ next_record sends (shared_of k) → now.records ≡ k.records.records ++ r ∷ [] → agenda.items ≡ k.agenda.items → agenda.next ≡ k.agenda.next + 1
    → shared_of (record k { records = now; agenda = agenda }) ≡ with_next sends (shared_of k)
with_next_is k sends r now agenda le is added items next =
    rw (added, items, next)
    (ap (λ (run : State). shared_with run k.batches.running k.batches.taken)
    (state_records k.scenario k.tick k.before k.records.records (r ∷ []) k.agenda.items (k.agenda.next + 1) k.marked le)
    ∙ ap (λ (r : Record). let f = shared_of k in record f { run = record f.run { next = f.run.next + 1; here = r ∷ f.run.here } }) is)

accounted_next_item : (s : Scenario) (f : Shared) (sends : List Parcel) → IsAccounted s f → HasNext f → IsAccounted s (with_next sends f)
accounted_next_item s f sends k has =
    let some = has.some in
    record {
      scenario = k.scenario;
      playable = k.playable;
      in_run = k.in_run;
      begun = k.begun;
      here = (refl, k.here);
      next = omega (arith, some);
      given_up = k.given_up;
      each_once =
          subst (λ (is : List Item). IsPermutation is ((k.given_up ++ flat_map items_of f.running) ++ (next_item f ∷ map item_of f.run.here)))
          (sym (take_next f.run.items f.run.next (next_item f) (slice_get-get_or f.run.items f.run.next no_item some)))
          (one_recorded (k.given_up ++ flat_map items_of f.running) (map item_of f.run.here) (take f.run.next f.run.items) (next_item f) k.each_once);
      all_kept = k.all_kept;
    }

pub booked_next_item : (s : Scenario) (k : Booking) (sends : List Parcel) (r : Record) (now : Recorded) (agenda : Progress) → IsBooked s k
    → HasNext (shared_of k) → r ≡ next_record sends (shared_of k)
    → now.records ≡ k.records.records ++ r ∷ [] → agenda.items ≡ k.agenda.items → agenda.next ≡ k.agenda.next + 1
    → k.before + agenda.next ≤ now.room → k.before + agenda.next < 2 ^ 32
    → IsBooked s (record k { records = now; agenda = agenda })
booked_next_item s k sends r now agenda h has is added items next reserved few =
    let f = shared_of k in
    let after = sym (with_next_is k sends r now agenda h.within is added items next) in
    let long = ap length added ∙ length-append k.records.records (r ∷ []) in
    let within = h.within in
    let posted = posted_more f.run (next_record sends f ∷ []) k.marked k.calendar (λ e. e) h.is_posted in
    record {
      accounted = subst (IsAccounted s) after (accounted_next_item s f sends h.accounted has);
      within = omega (arith, long, within);
      few = few;
      reserved = reserved;
      is_posted = subst (λ (f : Shared). IsPosted f.run k.calendar) after
          (record { sent = posted.sent; rest = posted.rest; prefix = posted.prefix; stands = posted.stands; none = posted.none });
      booked = h.booked;
    }

-- ---- the next tick

-- what is due is what was recorded
all_recorded : (s : Scenario) (f : Shared) → IsAccounted s f → IsOver f → IsPermutation f.run.items (map item_of f.run.here)
all_recorded s f k over =
    let whole : take f.run.next f.run.items ≡ f.run.items = (let all = over.all in take_all f.run.next f.run.items (omega (arith, all))) in
    subst (λ (is : List Item). IsPermutation is (map item_of f.run.here)) whole
    (subst (λ (rest : List Batch). IsPermutation (take f.run.next f.run.items) (([] ++ flat_map items_of rest) ++ map item_of f.run.here)) over.none
    (subst (λ (given_up : List Item). IsPermutation (take f.run.next f.run.items)
    ((given_up ++ flat_map items_of f.running) ++ map item_of f.run.here)) (k.all_kept over.unmarked) k.each_once))

scheduled_by : (f : State) (tick : ℕ) → f.tick ≡ tick → IsBegunInSomeOrder f.scenario tick f.finished f.items
    → AllByRecursion (λ (r : Record). r.tick ≡ f.tick) f.here → IsPermutation f.items (map item_of f.here)
    → ScheduledTo f.scenario tick (records_of f)
scheduled_by f zero e (none, nothing) in_tick all =
    let here : f.here ≡ [] = no_records f.here (sym (length-map f.here item_of) ∙ length_permutation f.items (map item_of f.here) all ∙ ap length nothing) in
    ap (λ (xs : List Record). xs ++ f.finished) here ∙ none
scheduled_by f (suc tick) e (before, items) in_tick all = (
  f.here,
  (
    f.finished,
    (
      record {
        whole = refl;
        here = subst (λ (t : ℕ). AllByRecursion (λ (r : Record). r.tick ≡ t) f.here) e in_tick;
        items =
            IsPermutation-trans _ _ _ items
            (IsPermutation-trans _ _ _ all (IsPermutation-map item_of f.here (reverse f.here) (IsPermutation-reverse f.here)));
      },
      before,
    ),
  ),
)

-- all that was due was recorded, so the records are scheduled
pub scheduled_now : (s : Scenario) (f : Shared) → IsAccounted s f → IsOver f → ScheduledTo f.run.scenario f.run.tick (records_of f.run)
scheduled_now s f k over = scheduled_by f.run f.run.tick refl k.begun k.here (all_recorded s f k over)

begun_in_some_order : (s : Scenario) (tick next : ℕ) (J : List Record) (items : List Item) → suc tick ≡ next → ScheduledTo s tick J
    → IsPermutation (due s next J) items → IsBegunInSomeOrder s next J items
begun_in_some_order s tick next J items e order are_due =
    subst (λ (n : ℕ). IsPermutation (due s n J) items → IsBegunInSomeOrder s n J items) e (λ d. (order, d)) are_due

accounted_next : (s : Scenario) (f : Shared) (items : List Item) → IsAccounted s f → IsOver f → f.run.tick < f.run.scenario.ticks
    → IsPermutation (after_tick f.run).items items → IsAccounted s (after_shared items f)
accounted_next s f items k over lt are_due = record {
  scenario = k.scenario;
  playable = k.playable;
  in_run = omega (arith, lt);
  begun = begun_in_some_order f.run.scenario f.run.tick (f.run.tick + 1) (records_of f.run) items (omega arith) (scheduled_now s f k over) are_due;
  here = tt;
  next = omega arith;
  given_up = [];
  each_once = IsPermutation-refl [];
  all_kept = λ _. refl;
}

-- the ticks that began, with their items, are the next state
pub shared_next_is : (k : Booking) (n : ℕ) (t : Ticks) (items : List Item) → IsOver (shared_of k)
    → HasBegunAs IsPermutation k.scenario k.tick (posted_by_run (records_of (shared_of k).run)) t items → n ≡ length k.records.records
    → shared_of (booking_of t n k.records (at_start items) k.batches k.total) ≡ after_shared items (shared_of k)
shared_next_is k n t items over b long =
    let f = shared_of k in
    ap (λ (run : State). shared_with run f.running f.taken)
    (next_is IsPermutation k.scenario k.tick k.before n k.records.records k.agenda.items k.agenda.next k.marked t items b long over.unmarked)
    ∙ ap (λ (running : List Batch). shared_with (record (after_tick f.run) { items = items }) running f.taken) over.none

-- none of the new tick is taken
pub booked_next : (s : Scenario) (k : Booking) (n : ℕ) (t : Ticks) (items : List Item) → IsBooked s k → IsOver (shared_of k) → k.tick < k.scenario.ticks
    → HasBegunAs IsPermutation k.scenario k.tick (posted_by_run (records_of (shared_of k).run)) t items → n ≡ length k.records.records
    → IsBooked s (booking_of t n k.records (at_start items) k.batches k.total)
booked_next s k n t items h over lt b long =
    let f = shared_of k in
    let after = sym (shared_next_is k n t items over b long) in
    let recorded = length_permutation f.run.items (map item_of f.run.here) (all_recorded s f h.accounted over) in
    let many = length-map f.run.here item_of in
    let here = long_here k.before k.records.records h.within in
    let all = over.all in
    let reserved = h.reserved in
    let few = h.few in
    record {
      accounted = subst (IsAccounted s) after (accounted_next s f items h.accounted over lt b.are_due);
      within = omega (arith, long);
      few = omega (arith, long, here, many, recorded, all, few);
      reserved = omega (arith, long, here, many, recorded, all, reserved);
      is_posted = subst (λ (f : Shared). IsPosted f.run t.calendar) after (posted_next f.run items t.calendar b.stands);
      booked = h.booked;
    }

-- no further batch is given
pub booked_marked : (s : Scenario) (k : Booking) (c : Dates) → IsBooked s k → IsPosted (with_mark (shared_of k).run) c
    → IsBooked s (record k { marked = true; calendar = c })
booked_marked s k c h posted =
    let is = h.accounted in
    record {
      accounted = record {
        scenario = is.scenario;
        playable = is.playable;
        in_run = is.in_run;
        begun = is.begun;
        here = is.here;
        next = is.next;
        given_up = is.given_up;
        each_once = is.each_once;
        all_kept = λ e. cc;
      };
      within = h.within;
      few = h.few;
      reserved = h.reserved;
      is_posted = posted;
      booked = h.booked;
    }
