-- A silent tick changes nothing of what a reading has found.
use Rattle.std.proofs.Common.{◌≡◌, ℕ, ◌+◌, ◌<◌, Bool, List, [], ◌∷◌, length, Option, Some, refl, sym, ap, subst}
use Rattle.std.specs.Prelude.{slice_get, get_or, nat_eq}
use Rattle.std.proofs.lemmas.Option.{slice_get-get_or}
use Rattle.indexmap.specs.IndexMap.{get}
use Rattle.nz_base.specs.Actor.{actor_eq}
use Rattle.nz_base.specs.declared.actor.Actor.{Actor}
use Rattle.nz_base.specs.declared.actor.Actor.TheVariants.{Replica, Proxy, Client}
use Rattle.nz_base.specs.declared.key.Id.{Id}
use Rattle.nz_machine.specs.declared.event.Event.{Event}
use Rattle.nz_machine.specs.declared.event.Event.TheVariants.{Tick}
use Rattle.nz_machine.specs.declared.event.Parcel.{Parcel}
use Rattle.nz_machine.specs.declared.event.Record.{Record}
use Rattle.nz_machine.specs.declared.journal.Journal.{Journal}
use Rattle.nz_machine.specs.journals.Journals.{group_in, run_in}
use Rattle.nz_machine.specs.journals.Records.{IsSilentClock, silent_clock}
use Rattle.nz_machine.specs.rules.State.{Group}
use Rattle.nz_machine.specs.runs.World.{World}
use Rattle.nz_audit.specs.declared.accepted.answers.Source.{Source}
use Rattle.nz_audit.specs.declared.sources.notes.Noted.{Noted}
use Rattle.nz_audit.specs.declared.sources.proxy.ProxyNotes.{ProxyNotes}
use Rattle.nz_audit.specs.declared.sources.sendings.ParcelKey.{ParcelKey}
use Rattle.nz_audit.specs.declared.sources.reading.Reading.{Reading}
use Rattle.nz_replay.specs.Runs.{run_up_to}
use Rattle.nz_audit.specs.Noting.{after_event, down_after}
use Rattle.nz_audit.specs.Readings.{IsProxy, IsTable, IsTableWith, IsRead}
use Rattle.nz_audit.proofs.ReadingTakes.{proxy_stays, proxy_ignores, is_read}
use Rattle.nz_audit.proofs.SearchFinds.{is_next}
use Rattle.nz_audit.proofs.SendingTables.{table_starts, table_ends}

-- the record at a place, which is of such a clock
abbrev record_at : Journal → ℕ → Record
record_at journal place = get_or journal.records place (silent_clock 0 (Replica 0) 0)

-- ---- what is known of proxies, and what was sent

clock_down : (e : Event) (reading : ℕ) → e ≡ Tick reading → (down : Bool) → down_after e down ≡ down
clock_down e reading is down = ap (λ (x : Event). down_after x down) is

clock_known : (e : Event) (reading : ℕ) → e ≡ Tick reading → (f me : ℕ) (s : Option Source) (silent down : Bool) (id : Id) (known : Option Noted)
    → after_event f me s silent down id e known ≡ known
clock_known e reading is f me s silent down id known = ap (λ (x : Event). after_event f me s silent down id x known) is

silent_proxy : (g : Group) (w : Id → Bool) (a : Actor) (r : Record) (J : List Record) (table : List (ParcelKey × Option Source))
    (notes : ℕ → Option ProxyNotes) → r.actor ≡ a → IsSilentClock r → World g (r ∷ J) → IsTable g w J table
    → ((q : ℕ) → IsProxy g w J q (notes q)) → (k : ℕ) → IsProxy g w (r ∷ J) k (notes k)
silent_proxy g w (Replica m) r J table notes by is_silent world t h k =
    proxy_stays g w k r J (notes k) (ap (λ (a : Actor). actor_eq a (Proxy k)) by) (h k)
silent_proxy g w (Proxy q) r J table notes by is_silent world t h k =
    proxy_ignores g w k q r J table (notes k) (notes q) world by t (λ same. ap notes (sym same))
    (clock_down r.event is_silent.reading is_silent.read)
    (λ id wanted f me s silent down known. clock_known r.event is_silent.reading is_silent.read f me s silent down id known) (h k)
silent_proxy g w (Client c) r J table notes by is_silent world t h k =
    proxy_stays g w k r J (notes k) (ap (λ (a : Actor). actor_eq a (Proxy k)) by) (h k)

silent_table : (g : Group) (w : Id → Bool) (r : Record) (J : List Record) (table : List (ParcelKey × Option Source)) → r.sends ≡ []
    → IsTable g w J table → IsTable g w (r ∷ J) table
silent_table g w r J table none h =
    table_ends g w r J table (subst (λ (sends : List Parcel). IsTableWith g w sends r J table) (sym none) (table_starts g w r J table h))

pub silent_is_read : (journal : Journal) (w : Id → Bool) (place : ℕ) (reading : Reading) → World (group_in journal) (run_in journal)
    → place < length journal.records → ((step : Record) → slice_get journal.records place ≡ Some step → IsSilentClock step)
    → IsRead journal w (run_up_to journal place) reading → IsRead journal w (run_up_to journal (place + 1)) reading
silent_is_read journal w place reading world lt is_silent h =
    let g = group_in journal in
    let r = record_at journal place in
    let J = run_up_to journal place in
    let at : slice_get journal.records place ≡ Some r = slice_get-get_or journal.records place (silent_clock 0 (Replica 0) 0) lt in
    let next = is_next journal place r world lt at in
    is_read journal w (run_up_to journal (place + 1)) (r ∷ J) reading next.run
    (silent_proxy g w r.actor r J reading.sendings.kept.entries (get nat_eq reading.proxies) refl (is_silent r at) next.world h.table h.proxies)
    (silent_table g w r J reading.sendings.kept.entries (is_silent r at).silent h.table)
