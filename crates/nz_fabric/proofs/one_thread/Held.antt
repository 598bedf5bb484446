-- What the network of one thread keeps.
use Rattle.std.proofs.Common.{◌≡◌, ℕ, zero, suc, ◌+◌, ◌<◌, ◌≤◌, Bool, true, false, List, [], ◌∷◌, ◌++◌, length, map, refl, sym, ap}
use Rattle.std.proofs.Common.{◌∙◌, subst, arith, add-one, length-append, length-drop, take_all, take-append-drop, append-nil, append_assoc}
use Rattle.std.specs.Prelude.{take, drop, reverse, IsPermutation}
use Rattle.std.specs.List.{AllByRecursion}
use Rattle.std.proofs.lemmas.List.{map-append, reverse-append, length-reverse, reverse-reverse, drop_all, take-append-le, drop-append-le}
use Rattle.std.proofs.lemmas.Grind.{reverse_onto}
use Rattle.nz_base.specs.declared.scenario.Scenario.{Scenario}
use Rattle.nz_machine.specs.declared.event.Parcel.{Parcel}
use Rattle.nz_machine.specs.declared.event.Record.{Record}
use Rattle.nz_machine.specs.declared.journal.Item.{Item}
use Rattle.nz_machine.specs.runs.Schedule.{Posted, posted_by_run, item_of, due, InOrder, InOrderTo, IsPlayable}
use Rattle.nz_machine.proofs.lists.ListParts.{take_next}
use Rattle.nz_fabric.specs.declared.alone.open_item.OpenItem.{OpenItem}
use Rattle.nz_fabric.specs.declared.schedule.ticks.Ticks.{Ticks}
use Rattle.nz_fabric.specs.schedule.Calendars.{Dates, Represents, HasPosted, posted_by}
use Rattle.nz_fabric.specs.alone.States.{State, records_of, start_state, HasNotBegun, IsOpen, IsDone, item_in, record_of_open, with_recorded}
use Rattle.nz_fabric.specs.alone.States.{after_tick, IsBegun, IsKeptRun, IsPosted, state_of, state_in, IsHeld, AreInOrder, HasBegun, HasBegunAs}
use Rattle.nz_fabric.proofs.calendars.Dating.{posted_reverse}
use Rattle.nz_fabric.proofs.calendars.Sending.{posted_append}

-- ---- the start

pub posted_start : (s : Scenario) (c : Dates) → Represents s [] 0 c → IsPosted (start_state s) c
posted_start s c h = record { sent = []; rest = []; prefix = refl; stands = h; none = λ _. refl }

pub held_start : (s : Scenario) (t : Ticks) (records : List Record) (room : ℕ) → IsPlayable s → HasNotBegun s t
    → records ≡ [] → IsHeld (state_in t 0 records [] 0) 0 room records t.calendar
held_start s t records room play new none =
    subst (λ (rs : List Record). IsHeld (state_in t 0 rs [] 0) 0 room rs t.calendar) (sym none)
    (subst (λ (f : State). IsHeld f 0 room [] t.calendar) (sym new.state)
    (record {
      kept =
          record {
            playable = play;
            in_run = omega arith;
            begun = (refl, refl);
            here = tt;
            in_order = refl;
            next = omega arith;
            least = omega arith;
            most = omega arith;
          };
      within = omega arith;
      few = omega arith;
      has_room = λ _. record { reserved = omega arith; few = omega arith };
      is_posted = posted_start s t.calendar new.stands;
    }))

-- ---- one record more

pub kept_record : (f : State) (opened : OpenItem) (sends : List Parcel) → IsKeptRun f → IsOpen f opened → IsKeptRun (with_recorded opened sends f)
kept_record f opened sends k o =
    let taken = o.taken in
    record {
      playable = k.playable;
      in_run = k.in_run;
      begun = k.begun;
      here = (o.is_next.tick, k.here);
      in_order =
          ap (map item_of) (reverse_onto f.here (record_of_open opened sends) [])
          ∙ map-append item_of (reverse f.here) (record_of_open opened sends ∷ [])
          ∙ ap (λ (is : List Item). is ++ item_in opened ∷ []) k.in_order
          ∙ sym (take_next f.items (length f.here) (item_in opened) o.is_next.item)
          ∙ ap (λ (n : ℕ). take n f.items) (add-one (length f.here));
      next = k.next;
      least = omega (arith, taken);
      most = omega (arith, taken);
    }

pub state_records : (s : Scenario) (tick before : ℕ) (records more : List Record) (items : List Item) (next : ℕ) (marked : Bool) → before ≤ length records
    → state_of s tick before (records ++ more) items next marked
    ≡ record (state_of s tick before records items next marked) { here = reverse more ++ reverse (drop before records) }
state_records s tick before records more items next marked le =
    let first = ap reverse (take-append-le before records more le) in
    let last = ap reverse (drop-append-le before records more le) ∙ reverse-append (drop before records) more in
    ap (λ (xs : List Record). let f : State = record {
      scenario = s;
      tick = tick;
      finished = xs;
      here = reverse (drop before (records ++ more));
      items = items;
      next = next;
      marked = marked;
    } in f) first
    ∙ ap (λ (xs : List Record). let f : State = record {
      scenario = s;
      tick = tick;
      finished = reverse (take before records);
      here = xs;
      items = items;
      next = next;
      marked = marked;
    } in f) last

pub long_here : (before : ℕ) (records : List Record) → before ≤ length records → before + length (reverse (drop before records)) ≡ length records
long_here before records le = let a = length-reverse (drop before records) in let b = length-drop before records in omega (arith, a, b, le)

-- what was sent before goes first
pub posted_more : (f : State) (more : List Record) (marked : Bool) (c : Dates) → (marked ≡ false → f.marked ≡ false)
    → IsPosted f c → IsPosted (record f { here = reverse more ++ f.here; marked = marked }) c
posted_more f more marked c kept h = record {
  sent = h.sent;
  rest = h.rest ++ posted_by more;
  prefix =
      ap posted_by (reverse-append (reverse more) f.here ∙ ap (λ (xs : List Record). reverse f.here ++ xs) (reverse-reverse more))
      ∙ posted_append (reverse f.here) more
      ∙ ap (λ (L : List Posted). L ++ posted_by more) h.prefix
      ∙ append_assoc h.sent h.rest (posted_by more);
  stands = h.stands;
  none = λ e. h.none (kept e);
}

pub held_record : (s : Scenario) (tick before room : ℕ) (records : List Record) (items : List Item) (next : ℕ)
    (marked : Bool) (c : Dates) (opened : OpenItem) (sends : List Parcel)
    → IsHeld (state_of s tick before records items next marked) before room records c → IsOpen (state_of s tick before records items next marked) opened
    → IsHeld (state_of s tick before (records ++ record_of_open opened sends ∷ []) items next marked) before room
    (records ++ record_of_open opened sends ∷ []) c
held_record s tick before room records items next marked c opened sends h o =
    let r = record_of_open opened sends in
    let long = length-append records (r ∷ []) in
    let taken = o.taken in
    let here = long_here before records h.within in
    let own = h.has_room o.unmarked in
    let few = own.few in
    subst (λ (f : State). IsHeld f before room (records ++ r ∷ []) c) (sym (state_records s tick before records (r ∷ []) items next marked h.within))
    (record {
      kept = kept_record (state_of s tick before records items next marked) opened sends h.kept o;
      within = let le = h.within in omega (arith, long, le);
      few = omega (arith, long, here, taken, few);
      has_room = λ e. record { reserved = own.reserved; few = own.few };
      is_posted = posted_more (state_of s tick before records items next marked) (r ∷ []) marked c (λ e. e) h.is_posted;
    })

-- ---- the next tick

pub no_records : (xs : List Record) → length xs ≡ 0 → xs ≡ []
no_records [] e = refl
no_records (x ∷ xs) e = absurd (omega (arith, e))

in_order_by : (f : State) (tick : ℕ) → f.tick ≡ tick → IsBegun f.scenario tick f.finished f.items → IsKeptRun f
    → length f.here ≡ length f.items → InOrderTo f.scenario tick (records_of f)
in_order_by f zero e (none, nothing) k all =
    let here : f.here ≡ [] = no_records f.here (all ∙ ap length nothing) in
    ap (λ (xs : List Record). xs ++ f.finished) here ∙ none
in_order_by f (suc tick) e (before, items) k all = (
  f.here,
  (
    f.finished,
    (
      record {
        whole = refl;
        here = subst (λ (t : ℕ). AllByRecursion (λ (r : Record). r.tick ≡ t) f.here) e k.here;
        items = k.in_order ∙ take_all (length f.here) f.items (omega (arith, all)) ∙ items;
      },
      before,
    ),
  ),
)

-- all that was due was recorded, so the records are in order
pub in_order_now : (f : State) → IsKeptRun f → IsDone f → InOrderTo f.scenario f.tick (records_of f)
in_order_now f k d = in_order_by f f.tick refl k.begun k (sym d.none_open.closed ∙ d.all)

-- so they are once the last tick is over
pub in_order_over : (f : State) → IsKeptRun f → IsDone f → f.tick ≡ f.scenario.ticks → InOrder f.scenario (records_of f)
in_order_over f k d last = subst (λ (n : ℕ). InOrderTo f.scenario n (records_of f)) last (in_order_now f k d)

-- all records, the newest first
pub all_records : (before : ℕ) (records : List Record) → reverse (drop before records) ++ reverse (take before records) ≡ reverse records
all_records before records = sym (reverse-append (take before records) (drop before records)) ∙ ap reverse (take-append-drop before records)

pub long_records : (before : ℕ) (records : List Record) → length (reverse (drop before records) ++ reverse (take before records)) ≡ length records
long_records before records = ap length (all_records before records) ∙ length-reverse records

pub begun_next : (s : Scenario) (tick next : ℕ) (J : List Record) → suc tick ≡ next → InOrderTo s tick J → IsBegun s next J (due s next J)
begun_next s tick next J e order = subst (λ (n : ℕ). IsBegun s n J (due s n J)) e (order, refl)

-- the ticks that began, with their items in some order
pub begun_grouped : (s : Scenario) (last : ℕ) (L : List Posted) (t : Ticks) (items grouped : List Item) → HasBegun s last L t items
    → IsPermutation items grouped → HasBegunAs IsPermutation s last L t grouped
begun_grouped s last L t items grouped b same = record {
  scenario = b.scenario;
  tick = b.tick;
  are_due = subst (λ (is : List Item). IsPermutation is grouped) b.are_due same;
  unmarked = b.unmarked;
  stands = b.stands;
}

-- none of the new tick is recorded
state_next : (s : Scenario) (tick before n : ℕ) (records : List Record) (items items' : List Item) (next : ℕ) (marked : Bool)
    → n ≡ length records → marked ≡ false
    → state_of s (tick + 1) n records items' 0 false ≡ record (after_tick (state_of s tick before records items next marked)) { items = items' }
state_next s tick before n records items items' next marked long unmarked =
    let finished : reverse (take n records) ≡ records_of (state_of s tick before records items next marked) =
    ap reverse (take_all n records (omega (arith, long))) ∙ sym (all_records before records) in
    let here : reverse (drop n records) ≡ [] = ap reverse (drop_all n records (omega (arith, long))) in
    ap (λ (xs : List Record). let f : State = record {
      scenario = s;
      tick = tick + 1;
      finished = xs;
      here = reverse (drop n records);
      items = items';
      next = 0;
      marked = false;
    } in f) finished
    ∙ ap (λ (xs : List Record). let f : State = record {
      scenario = s;
      tick = tick + 1;
      finished = records_of (state_of s tick before records items next marked);
      here = xs;
      items = items';
      next = 0;
      marked = false;
    } in f) here
    ∙ ap (λ (m : Bool). let f : State = record {
      scenario = s;
      tick = tick + 1;
      finished = records_of (state_of s tick before records items next marked);
      here = [];
      items = items';
      next = 0;
      marked = m;
    } in f) (sym unmarked)

-- the ticks that began are the next state
pub next_is : (AreDue : List Item → List Item → Type 0) (s : Scenario) (tick before n : ℕ) (records : List Record)
    (items : List Item) (next : ℕ) (marked : Bool) (new : Ticks) (is : List Item)
    → HasBegunAs AreDue s tick (posted_by_run (records_of (state_of s tick before records items next marked))) new is
    → n ≡ length records → marked ≡ false
    → state_in new n records is 0 ≡ record (after_tick (state_of s tick before records items next marked)) { items = is }
next_is AreDue s tick before n records items next marked new is b long unmarked =
    ap (λ (t : Scenario). state_of t new.tick n records is 0 new.marked) b.scenario
    ∙ ap (λ (t : ℕ). state_of s t n records is 0 new.marked) b.tick
    ∙ ap (λ (m : Bool). state_of s (tick + 1) n records is 0 m) b.unmarked
    ∙ state_next s tick before n records items is next marked long unmarked

-- in the order of the schedule
pub next_in_order : (s : Scenario) (tick before n : ℕ) (records : List Record) (items : List Item) (next : ℕ) (marked : Bool)
    (new : Ticks) (is : List Item) → HasBegun s tick (posted_by_run (records_of (state_of s tick before records items next marked))) new is
    → n ≡ length records → marked ≡ false
    → state_in new n records is 0 ≡ after_tick (state_of s tick before records items next marked)
next_in_order s tick before n records items next marked new is b long unmarked =
    next_is AreInOrder s tick before n records items next marked new is b long unmarked
    ∙ ap (λ (is : List Item). record (after_tick (state_of s tick before records items next marked)) { items = is }) b.are_due

-- ---- what is posted when a tick is over

whole_here : (before : ℕ) (records : List Record) → reverse (reverse (drop before records)) ≡ drop before records
whole_here before records = reverse-reverse (drop before records)

-- before it begins the next tick, the calendar has what the finished ticks sent
posted_started : (f : State) (c : Dates) → f.marked ≡ false → IsPosted f c → Represents f.scenario (posted_by_run f.finished) f.tick c
posted_started f c e h =
    subst (λ (L : List Posted). Represents f.scenario L f.tick c)
    (ap (λ (L : List Posted). posted_by_run f.finished ++ L) (h.none e) ∙ append-nil (posted_by_run f.finished)) h.stands

-- then it has what this tick sent
posted_now : (s : Scenario) (tick before : ℕ) (records : List Record) (c : Dates)
    → Represents s (posted_by_run (reverse (take before records)) ++ posted_by (drop before records)) tick c
    → Represents s (posted_by_run (reverse (drop before records) ++ reverse (take before records))) tick c
posted_now s tick before records c h =
    subst (λ (L : List Posted). Represents s L tick c) (sym (posted_reverse (drop before records) (reverse (take before records)))) h

posted_some : (s : Scenario) (tick before : ℕ) (records : List Record) (items : List Item) (next : ℕ) (c : Dates)
    → HasPosted s (posted_by_run (reverse (take before records))) (posted_by (drop before records)) tick c
    → IsPosted (state_of s tick before records items next true) c
posted_some s tick before records items next c h =
    record { sent = h.sent; rest = h.rest; prefix = ap posted_by (whole_here before records) ∙ h.prefix; stands = h.stands; none = λ e. cc }

posted_whole : (s : Scenario) (tick before : ℕ) (records : List Record) (items : List Item) (next : ℕ) (c : Dates)
    → Represents s (posted_by_run (reverse (take before records)) ++ posted_by (drop before records)) tick c
    → IsPosted (state_of s tick before records items next true) c
posted_whole s tick before records items next c h =
    posted_some s tick before records items next c
    (record { sent = posted_by (drop before records); rest = []; prefix = sym (append-nil (posted_by (drop before records))); stands = h })

-- what posting does: after it the calendar has these too, or a prefix of them
abbrev pub PostsAll : Scenario → Dates → Dates → List Posted → Type 0
PostsAll s old new sent = (L : List Posted) (now : ℕ) → Represents s L now old → Represents s (L ++ sent) now new

abbrev pub PostsSome : Scenario → Dates → Dates → List Posted → Type 0
PostsSome s old new sent = (L : List Posted) (now : ℕ) → Represents s L now old → HasPosted s L sent now new

-- the tick is over, and what it sent was posted in part
pub over_some : (t : Ticks) (before : ℕ) (records sent : List Record) (items : List Item) (next : ℕ) (c : Dates) → t.marked ≡ false
    → IsPosted (state_in t before records items next) t.calendar → sent ≡ drop before records
    → PostsSome t.scenario t.calendar c (posted_by sent) → IsPosted (state_of t.scenario t.tick before records items next true) c
over_some t before records sent items next c unmarked posts e some =
    let L = posted_by_run (reverse (take before records)) in
    posted_some t.scenario t.tick before records items next c
    (subst (λ (rs : List Record). HasPosted t.scenario L (posted_by rs) t.tick c) e
    (some L t.tick (posted_started (state_in t before records items next) t.calendar unmarked posts)))

-- the same, in whole
over_now : (t : Ticks) (before : ℕ) (records sent : List Record) (items : List Item) (next : ℕ) (c : Dates) → t.marked ≡ false
    → IsPosted (state_in t before records items next) t.calendar → sent ≡ drop before records
    → PostsAll t.scenario t.calendar c (posted_by sent)
    → Represents t.scenario (posted_by_run (reverse (take before records)) ++ posted_by (drop before records)) t.tick c
over_now t before records sent items next c unmarked posts e all =
    let L = posted_by_run (reverse (take before records)) in
    subst (λ (rs : List Record). Represents t.scenario (L ++ posted_by rs) t.tick c) e
    (all L t.tick (posted_started (state_in t before records items next) t.calendar unmarked posts))

pub over_whole : (t : Ticks) (before : ℕ) (records sent : List Record) (items : List Item) (next : ℕ) (c : Dates) → t.marked ≡ false
    → IsPosted (state_in t before records items next) t.calendar → sent ≡ drop before records
    → PostsAll t.scenario t.calendar c (posted_by sent) → IsPosted (state_of t.scenario t.tick before records items next true) c
over_whole t before records sent items next c unmarked posts e all =
    posted_whole t.scenario t.tick before records items next c (over_now t before records sent items next c unmarked posts e all)

-- and the next tick began
pub over_begun : (t : Ticks) (before : ℕ) (records sent : List Record) (items : List Item) (next : ℕ) (c : Dates)
    (new : Ticks) (is : List Item) → t.marked ≡ false
    → IsPosted (state_in t before records items next) t.calendar → sent ≡ drop before records
    → PostsAll t.scenario t.calendar c (posted_by sent)
    → ((L : List Posted) → Represents t.scenario L t.tick c → HasBegun t.scenario t.tick L new is)
    → HasBegun t.scenario t.tick (posted_by_run (records_of (state_in t before records items next))) new is
over_begun t before records sent items next c new is unmarked posts e all begins =
    begins (posted_by_run (records_of (state_in t before records items next)))
    (posted_now t.scenario t.tick before records c (over_now t before records sent items next c unmarked posts e all))

pub posted_next : (f : State) (items : List Item) (c : Dates) → Represents f.scenario (posted_by_run (records_of f)) (f.tick + 1) c
    → IsPosted (record (after_tick f) { items = items }) c
posted_next f items c h =
    record {
      sent = [];
      rest = [];
      prefix = refl;
      stands = subst (λ (L : List Posted). Represents f.scenario L (f.tick + 1) c) (sym (append-nil (posted_by_run (records_of f)))) h;
      none = λ _. refl;
    }

-- ---- the next tick of one thread

kept_next : (f : State) → IsKeptRun f → IsDone f → f.tick < f.scenario.ticks → IsKeptRun (after_tick f)
kept_next f k d lt = record {
  playable = k.playable;
  in_run = omega (arith, lt);
  begun = begun_next f.scenario f.tick (f.tick + 1) (records_of f) (omega arith) (in_order_now f k d);
  here = tt;
  in_order = refl;
  next = omega arith;
  least = omega arith;
  most = omega arith;
}

-- once all that is due was recorded, there was room for it
pub room_over : (s : Scenario) (tick before room : ℕ) (records : List Record) (items : List Item) (next : ℕ) (marked : Bool) (c : Dates)
    → IsHeld (state_of s tick before records items next marked) before room records c
    → IsDone (state_of s tick before records items next marked) → length records ≤ room
room_over s tick before room records items next marked c h d =
    let reserved = (h.has_room d.none_open.unmarked).reserved in
    let closed = d.none_open.closed in
    let here = long_here before records h.within in omega (arith, here, closed, reserved)

pub held_next : (s : Scenario) (tick before n room after : ℕ) (records : List Record) (items : List Item) (next : ℕ)
    (marked : Bool) (c : Dates) (new : Ticks) (is : List Item) → IsHeld (state_of s tick before records items next marked) before room records c
    → IsDone (state_of s tick before records items next marked) → tick < s.ticks
    → HasBegun s tick (posted_by_run (records_of (state_of s tick before records items next marked))) new is → n ≡ length records → n ≤ after
    → IsHeld (state_in new n records is 0) n after records new.calendar
held_next s tick before n room after records items next marked c new is h d lt b long enough =
    let f = state_of s tick before records items next marked in
    let few = h.few in
    subst (λ (g : State). IsHeld g n after records new.calendar)
    (sym (next_in_order s tick before n records items next marked new is b long d.none_open.unmarked))
    (record {
      kept = kept_next f h.kept d lt;
      within = omega (arith, long);
      few = h.few;
      has_room = λ _. record { reserved = omega (arith, enough); few = omega (arith, long, few) };
      is_posted = posted_next f (after_tick f).items new.calendar b.stands;
    })

-- no further item is given
pub held_marked : (s : Scenario) (tick before room : ℕ) (records : List Record) (items : List Item) (next : ℕ) (marked : Bool) (c c' : Dates)
    → IsHeld (state_of s tick before records items next marked) before room records c
    → IsPosted (state_of s tick before records items next true) c' → IsHeld (state_of s tick before records items next true) before room records c'
held_marked s tick before room records items next marked c c' h posted = record {
  kept = let k = h.kept in
      record {
        playable = k.playable;
        in_run = k.in_run;
        begun = k.begun;
        here = k.here;
        in_order = k.in_order;
        next = k.next;
        least = k.least;
        most = k.most;
      };
  within = h.within;
  few = h.few;
  has_room = λ e. cc;
  is_posted = posted;
}
