-- Which records of a run are in memory.
use Rattle.std.proofs.Common.{◌≡◌, ℕ, ◌+◌, ◌-◌, ◌≤◌, Bool, true, false, List, [], ◌++◌, length, drop, sym, ap, ◌∙◌, arith}
use Rattle.std.specs.Prelude.{MatchBool}
use Rattle.std.proofs.lemmas.List.{drop-drop, drop-append-le, drop_all}
use Rattle.nz_machine.specs.journals.Records.{Recorded}
use Rattle.nz_machine.specs.declared.event.Record.{Record}
use Rattle.nz_fabric.specs.alone.States.{IsInMemory}

-- those of this tick
pub here_is : (run records : List Record) (gone before : ℕ) (keeps : Bool) → IsInMemory run records gone before keeps
    → drop (before - gone) records ≡ drop before run
here_is run records gone before keeps h =
    let le = h.finished in
    ap (drop (before - gone)) h.rest ∙ drop-drop (before - gone) gone run ∙ ap (λ (n : ℕ). drop n run) (omega (arith, le))

-- further records come last
pub in_memory_more : (run records more : List Record) (gone before : ℕ) (keeps : Bool) → before ≤ length run
    → IsInMemory run records gone before keeps → IsInMemory (run ++ more) (records ++ more) gone before keeps
in_memory_more run records more gone before keeps within h =
    let le = h.finished in
    record {
      rest = ap (λ (xs : List Record). xs ++ more) h.rest ∙ sym (drop-append-le gone run more (omega (arith, within, le)));
      finished = le;
      all = h.all;
    }

-- ---- the next tick

-- what is done with the records of a finished tick
abbrev pub LetsGo : Bool → Recorded → Recorded → ℕ → ℕ → ℕ → Type 0
LetsGo keeps old new gone count gone' = MatchBool keeps ((new ≡ old) × (gone' ≡ gone)) ((new.records ≡ []) × (gone' ≡ count))

-- then too the records in memory are those that should be
pub in_memory_next : (run : List Record) (old new : Recorded) (gone before count gone' : ℕ) (keeps : Bool) → count ≡ length run → before ≤ count
    → IsInMemory run old.records gone before keeps → LetsGo keeps old new gone count gone' → IsInMemory run new.records gone' count keeps
in_memory_next run old new gone before count gone' true all within h went =
    let le = h.finished in
    let same = went.1 in
    record {
      rest = ap (λ (r : Recorded). r.records) went.0 ∙ h.rest ∙ ap (λ (n : ℕ). drop n run) (sym same);
      finished = omega (arith, within, le, same);
      all = λ e. same ∙ h.all e;
    }
in_memory_next run old new gone before count gone' false all within h went =
    let same = went.1 in
    record {
      rest = went.0 ∙ sym (drop_all gone' run (omega (arith, same, all)));
      finished = omega (arith, same);
      all = λ e. cc;
    }

-- and there is room for all that was recorded
pub room_next : (old new : Recorded) (gone count gone' : ℕ) (keeps : Bool) → count ≤ gone + old.room → LetsGo keeps old new gone count gone'
    → count ≤ gone' + new.room
room_next old new gone count gone' true room went =
    let same = ap (λ (r : Recorded). r.room) went.0 in
    let none = went.1 in omega (arith, room, same, none)
room_next old new gone count gone' false room went = let all = went.1 in omega (arith, all)
