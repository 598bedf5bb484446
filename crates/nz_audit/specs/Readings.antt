-- What a reading of some records of a run has found.
use Rattle.std.specs.Prelude.{◌≡◌, ℕ, Bool, true, false, List, ◌∷◌, ◌++◌, Option, Some, None, nat_eq, slice_get, if◌then◌else◌}
use Rattle.std.specs.List.{list_any}
use Rattle.indexmap.specs.IndexMap.{get}
use Rattle.nz_base.specs.Key.{id_eq}
use Rattle.nz_base.specs.declared.actor.Actor.TheVariants.{Proxy}
use Rattle.nz_base.specs.declared.key.Id.{Id}
use Rattle.nz_machine.specs.declared.event.Parcel.{Parcel}
use Rattle.nz_machine.specs.declared.event.Record.{Record}
use Rattle.nz_machine.specs.declared.journal.Journal.{Journal}
use Rattle.nz_machine.specs.journals.Journals.{group_in, run_in}
use Rattle.nz_machine.specs.rules.State.{Group}
use Rattle.nz_machine.specs.runs.World.{state_after, World}
use Rattle.nz_machine.specs.runs.History.{parcel_eq, older_or, source}
use Rattle.nz_audit.specs.declared.accepted.answers.Source.{Source}
use Rattle.nz_audit.specs.declared.sources.notes.Noted.{Noted}
use Rattle.nz_audit.specs.declared.sources.proxy.ProxyNotes.{ProxyNotes}
use Rattle.nz_audit.specs.declared.sources.sendings.ParcelKey.{ParcelKey}
use Rattle.nz_audit.specs.declared.sources.reading.Reading.{Reading}
use Rattle.nz_audit.specs.Sources.{about, stands_for, kept_of, IsNoOther, source_delivered, delivered_source}
use Rattle.nz_audit.specs.declared.accepted.answers.AcceptedAt.{AcceptedAt}
use Rattle.nz_audit.specs.Noting.{IsSized}
use Rattle.nz_audit.specs.Memories.{memory}
use Rattle.nz_replay.specs.Runs.{run_up_to}

-- What is known of a request: nothing of a proxy that did nothing yet.
abbrev pub known_to : Option ProxyNotes → Id → Option Noted
known_to None id = None
known_to (Some notes) id = get id_eq notes.known id

-- Whether the notes say that the proxy is down.
abbrev pub is_down_in : Option ProxyNotes → Bool
is_down_in None = false
is_down_in (Some notes) = notes.is_down

-- It is what the proxy knows of the wanted requests after the records.
pub record IsProxy (g : Group) (w : Id → Bool) (J : List Record) (q : ℕ) (notes : Option ProxyNotes) : Type 0 where
  pub down : is_down_in notes ≡ (state_after g (Proxy q) J).is_down
  pub known : (id : Id) → w id ≡ true → known_to notes id ≡ memory g q id J
  pub sized : (id : Id) → IsSized g.f (known_to notes id)

-- The table has what each parcel about a wanted request stands for, of those that were sent.
pub record IsTable (g : Group) (w : Id → Bool) (J : List Record) (table : List (ParcelKey × Option Source)) : Type 0 where
  pub exact : (p : Parcel) → IsNoOther w (about p) → kept_of table p ≡ stands_for g p (source p J) (about p)

-- The run up to the first record that sent the parcel, where the last one sent these so far.
abbrev pub source_with : Parcel → List Parcel → Record → List Record → Option (List Record)
source_with p done r J = if list_any (parcel_eq p) done then older_or (source p J) (r ∷ J) else source p J

-- The same table in the course of the last record.
pub record IsTableWith (g : Group) (w : Id → Bool) (done : List Parcel) (r : Record) (J : List Record)
    (table : List (ParcelKey × Option Source)) : Type 0 where
  pub exact : (p : Parcel) → IsNoOther w (about p) → kept_of table p ≡ stands_for g p (source_with p done r J) (about p)

-- The table has the source of an accepted answer.
pub record IsKnown (journal : Journal) (table : List (ParcelKey × Option Source)) (a : AcceptedAt) : Type 0 where
  pub source : (r : Record) → slice_get journal.records a.place ≡ Some r
      → source_delivered table r.event ≡ delivered_source (group_in journal) (run_up_to journal a.place) r.event

-- What a reading knows of the wanted requests after these records of a journal.
pub record IsRead (journal : Journal) (w : Id → Bool) (J : List Record) (reading : Reading) : Type 0 where
  pub proxies : (q : ℕ) → IsProxy (group_in journal) w J q (get nat_eq reading.proxies q)
  pub table : IsTable (group_in journal) w J reading.sendings.kept.entries

-- The record follows these, and is the one of this count in a journal.
pub record IsNextRecord (journal : Journal) (records : ℕ) (r : Record) (J : List Record) : Type 0 where
  pub run : run_up_to journal records ≡ r ∷ J
  pub world : World (group_in journal) (r ∷ J)
  pub newer : List Record
  pub whole : run_in journal ≡ newer ++ (r ∷ J)
