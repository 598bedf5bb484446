-- The events of a run are read one record at a time.
use Rattle.std.proofs.Common.{◌≡◌, ℕ, zero, suc, ◌+◌, ◌<◌, List, [], ◌∷◌, ◌++◌, length, take, drop, reverse, Some, refl, sym, ap, subst}
use Rattle.std.proofs.Common.{◌∙◌, arith}
use Rattle.std.proofs.Common.{length-take, length-drop, append-nil}
use Rattle.std.specs.Prelude.{slice_get, get_or}
use Rattle.std.proofs.lemmas.List.{length-reverse, map-append}
use Rattle.std.proofs.lemmas.Option.{slice_get_within, get_or_from_slice_get, slice_get-get_or}
use Rattle.nz_base.specs.declared.actor.Actor.TheVariants.{Replica}
use Rattle.nz_machine.specs.declared.client_event.EventAt.{EventAt}
use Rattle.nz_machine.specs.declared.event.Record.{Record}
use Rattle.nz_machine.specs.declared.event_notes.Notes.{Notes}
use Rattle.nz_machine.specs.rules.State.{Group}
use Rattle.nz_machine.specs.declared.client_event.ClientEvent.{ClientEvent}
use Rattle.nz_machine.specs.runs.Events.{client_events, events}
use Rattle.nz_machine.specs.journals.ClientProgress.{AreAfter}
use Rattle.nz_machine.specs.journals.EventNotes.{all_at, events_at, events_alone, AreNoted}
use Rattle.nz_machine.specs.journals.Records.{IsSilentClock, silent_clock}
use Rattle.nz_machine.specs.runs.World.{World}
use Rattle.nz_machine.proofs.journals.JournalPrefixes.{one_record, world_with}
use Rattle.nz_machine.proofs.journals.EventsAreRead.{silent_clock_shows}

alone_at : (place tick : ℕ) (E : List ClientEvent) → events_alone (all_at place tick E) ≡ E
alone_at place tick [] = refl
alone_at place tick (e ∷ E) = ap (λ (F : List ClientEvent). e ∷ F) (alone_at place tick E)

-- without their places they are the events of the run
pub events_are_read : (g : Group) (J : List Record) → events_alone (events_at g J) ≡ events g J
events_are_read g [] = refl
events_are_read g (r ∷ J) =
    let E = client_events g r.actor r J in
    map-append (λ (x : EventAt). x.event) (events_at g J) (all_at (length J) r.tick E)
    ∙ (λ i. events_are_read g J i ++ alone_at (length J) r.tick E i)

-- ---- one record more

pub noted_next : (g : Group) (r : Record) (J : List Record) (old new : Notes) (place : ℕ) (E : List ClientEvent) → place ≡ length J → AreNoted g J old
    → E ≡ client_events g r.actor r J → AreAfter g (r ∷ J) new.clients → new.events ≡ old.events ++ all_at place r.tick E → AreNoted g (r ∷ J) new
noted_next g r J old new place E at h reads now is = record { after = now; all = is ∙ (λ i. h.all i ++ all_at (at i) r.tick (reads i)) }

nothing_noted : (g : Group) (r : Record) (J : List Record) (n : Notes) → AreNoted g J n → client_events g r.actor r J ≡ []
    → AreAfter g (r ∷ J) n.clients → AreNoted g (r ∷ J) n
nothing_noted g r J n h nothing now = record {
  after = now;
  all = h.all ∙ sym (append-nil (events_at g J)) ∙ ap (λ (E : List ClientEvent). events_at g J ++ all_at (length J) r.tick E) (sym nothing);
}

-- ---- the record at a place

count_before : (rs : List Record) (i : ℕ) → i < length rs → i ≡ length (reverse (take i rs))
count_before rs i lt =
    let a = length-reverse (take i rs) in
    let b = length-take i rs in
    omega (arith, a, b, lt)

-- the next record was read
pub next_noted : (g : Group) (rs : List Record) (i : ℕ) (r : Record) (old new : Notes)
    → World g (reverse rs) → slice_get rs i ≡ Some r → AreNoted g (reverse (take i rs)) old
    → ((J : List Record) → World g (r ∷ J) → i ≡ length J → AreNoted g J old → AreNoted g (r ∷ J) new)
    → AreNoted g (reverse (take (i + 1) rs)) new
next_noted g rs i r old new w at h reads =
    let lt = slice_get_within rs i r at in
    let is = sym (get_or_from_slice_get rs i r r at) in
    subst (λ (K : List Record). AreNoted g K new) (sym (one_record rs i r lt is))
    (reads (reverse (take i rs)) (world_with g rs i r w lt is) (count_before rs i lt) h)

-- a silent tick was passed over
pub silent_noted : (g : Group) (rs : List Record) (i : ℕ) (n : Notes) → World g (reverse rs) → i < length rs
    → ((step : Record) → slice_get rs i ≡ Some step → IsSilentClock step) → AreNoted g (reverse (take i rs)) n → AreNoted g (reverse (take (i + 1) rs)) n
silent_noted g rs i n w lt silent h =
    let none = silent_clock 0 (Replica 0) 0 in
    let r = get_or rs i none in
    let at : slice_get rs i ≡ Some r = slice_get-get_or rs i none lt in
    next_noted g rs i r n n w at h (λ J v count read.
    let shows = silent_clock_shows g r J n.clients (silent r at) v read.after in nothing_noted g r J n read shows.0 shows.1)

-- ---- the records of a run after its first ones

rest_of : (run : List Record) (gone i : ℕ) → slice_get (drop gone run) i ≡ slice_get run (gone + i)
rest_of run zero i = let same : i ≡ 0 + i = omega arith in ap (slice_get run) same
rest_of [] (suc gone) i = refl
rest_of (r ∷ run) (suc gone) i = let next : suc (gone + i) ≡ suc gone + i = omega arith in rest_of run gone i ∙ ap (slice_get (r ∷ run)) next

pub rest_at : (run rest : List Record) (gone i : ℕ) → rest ≡ drop gone run → slice_get rest i ≡ slice_get run (gone + i)
rest_at run rest gone i is = ap (λ (rs : List Record). slice_get rs i) is ∙ rest_of run gone i

pub rest_within : (run rest : List Record) (gone i : ℕ) → rest ≡ drop gone run → i < length rest → gone + i < length run
rest_within run rest gone i is lt =
    let long = ap length is ∙ length-drop gone run in
    omega (arith, long, lt)
