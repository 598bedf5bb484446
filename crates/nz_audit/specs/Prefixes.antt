-- The accepted prefixes of a journal's run, and the longest of them.
use Rattle.std.specs.Prelude.{◌≡◌, ℕ, suc, ◌<◌, ◌≤◌, ◌⊎◌, Bool, ◌||◌, ◌&&◌, ◌==◌, nat_lt, false, if◌then◌else◌}
use Rattle.std.specs.Prelude.{List, [], ◌∷◌, ◌++◌, map, length, slice_get, Option, Some, None}
use Rattle.std.specs.List.{AllByRecursion, filter_map}
use Rattle.nz_base.specs.Cluster.{replica_count}
use Rattle.nz_base.specs.declared.actor.Actor.TheVariants.{Replica}
use Rattle.nz_base.specs.declared.key.Entry.{Entry}
use Rattle.nz_base.specs.declared.key.Id.{Id}
use Rattle.nz_base.specs.Key.{id_eq}
use Rattle.nz_machine.specs.declared.event.Event.{Event}
use Rattle.nz_machine.specs.declared.event.Event.TheVariants.{Deliver, Cut, Tick, Alarm, Crash, Restart}
use Rattle.nz_machine.specs.declared.event.Record.{Record}
use Rattle.nz_machine.specs.declared.journal.Journal.{Journal}
use Rattle.nz_machine.specs.journals.Journals.{group_in, run_in}
use Rattle.nz_machine.specs.runs.Leading.{lead}
use Rattle.nz_machine.specs.declared.client_event.ClientEvent.{ClientEvent}
use Rattle.nz_machine.specs.declared.client_event.ClientEvent.TheVariants.{Sent, Accepted}
use Rattle.nz_machine.specs.runs.History.{log_at, cut_after, longer, history}
use Rattle.nz_machine.specs.runs.World.{Has}
use Rattle.nz_laws_commit.specs.Present.{AreUpWithin}
use Rattle.nz_audit.specs.declared.accepted.answers.Source.{Source}
use Rattle.nz_audit.specs.declared.accepted.answers.AcceptedAt.{AcceptedAt}
use Rattle.nz_audit.specs.declared.accepted.answers.Traced.{Traced}
use Rattle.nz_audit.specs.declared.accepted.answers.Counted.{Counted}
use Rattle.nz_audit.specs.declared.prefixes.search.Search.{Search}
use Rattle.nz_audit.specs.Sources.{about, delivered_source}
use Rattle.nz_replay.specs.Runs.{run_up_to}
use Rattle.nz_audit.specs.Cores.{AreReplayed}
use Rattle.nz_audit.specs.Leading.{RepliesIn}

-- ---- accepted answers, with their sources

-- One more comes last, if there is one.
abbrev pub with_accepted : {X : Type 0} → List X → Option X → List X
with_accepted accepted None = accepted
with_accepted accepted (Some a) = accepted ++ a ∷ []

-- An accepted answer with its source, if it has one.
abbrev pub with_source : Option Source → AcceptedAt → Option Traced
with_source None a = None
with_source (Some source) a = Some (record { accepted = a; source = source })

-- The source of what a record delivers, which is the one at this place.
abbrev pub source_by : Journal → ℕ → Option Record → Option Source
source_by journal place None = None
source_by journal place (Some r) = delivered_source (group_in journal) (run_up_to journal place) r.event

-- The accepted answer with the source of what was delivered.
abbrev pub traced : Journal → AcceptedAt → Option Traced
traced journal a = with_source (source_by journal a.place (slice_get journal.records a.place)) a

-- Those of some accepted answers that have a source.
abbrev pub all_traced : Journal → List AcceptedAt → List Traced
all_traced journal answers = filter_map (traced journal) answers

-- Whether it is an answer to the request.
abbrev pub is_to : Id → AcceptedAt → Bool
is_to id a = id_eq a.id id

-- What the event delivers is about the request.
abbrev pub Brings : Id → Event → Type 0
Brings id (Deliver p) = about p ≡ Some id
Brings id (Cut kept p) = Unit {0}
Brings id (Tick clock) = Unit {0}
Brings id Alarm = Unit {0}
Brings id Crash = Unit {0}
Brings id (Restart nonce) = Unit {0}

-- A record of the journal accepts it.
pub record IsAccepted (journal : Journal) (a : AcceptedAt) : Type 0 where
  pub place : a.place < length journal.records
  pub brings : (r : Record) → slice_get journal.records a.place ≡ Some r → Brings a.id r.event

-- The prefix of an accepted answer: the log at its source, up to and with the entry of its request.
abbrev pub prefix_for : Journal → Traced → List Entry
prefix_for journal a = cut_after a.accepted.id (log_at (group_in journal) (Replica a.source.replica) (run_up_to journal a.source.records))

-- The longest of the first list and these lists, the first of equally long ones.
abbrev pub longest_from : List Entry → List (List Entry) → List Entry
longest_from best [] = best
longest_from best (P ∷ Ps) = longest_from (longer best P) Ps

-- How many requests were sent, by these events.
abbrev pub requests_sent : List ClientEvent → ℕ
requests_sent [] = 0
requests_sent (Sent id command ∷ E) = suc (requests_sent E)
requests_sent (Accepted id answer path ∷ E) = requests_sent E

-- Their places rise, from the first number on, and are below the second.
abbrev pub AreInOrder : ℕ → ℕ → List Traced → Type 0
AreInOrder n end [] = n ≤ end
AreInOrder n end (a ∷ xs) = (n ≤ a.accepted.place) × AreInOrder (suc a.accepted.place) end xs

-- The log has the prefix of the answer, up to and with the entry of its request.
abbrev pub HasPrefix : Journal → Traced → List Entry → Type 0
HasPrefix journal a log = cut_after a.accepted.id log ≡ prefix_for journal a

-- The source is one in the journal. The prefix has at most as many entries as requests were sent. It is the beginning
-- of the log that the leader of the view of the source's replies leads with in the end.
pub record IsWithin (journal : Journal) (a : Traced) : Type 0 where
  pub replica : a.source.replica < replica_count (group_in journal).f
  pub records : a.source.records ≤ length journal.records
  pub sent : length (prefix_for journal a) ≤ a.accepted.sent
  pub led : (v : ℕ) → RepliesIn v (run_up_to journal a.source.records) → HasPrefix journal a (lead (group_in journal) v (run_in journal))

-- The history is the longest of the prefixes of these, which are in the order in which they were accepted.
pub record GiveHistory (journal : Journal) (J : List Record) (accepted : List Traced) : Type 0 where
  pub longest : history (group_in journal) J ≡ longest_from [] (map (prefix_for journal) accepted)
  pub places : AreInOrder 0 (length J) accepted
  pub within : AllByRecursion (IsWithin journal) accepted

-- The prefixes that one log has of some answers.
abbrev pub prefixes_in : List Entry → List AcceptedAt → List (List Entry)
prefixes_in log answers = map (λ (a : AcceptedAt). cut_after a.id log) answers

-- The history is the longest of the prefixes that the log has of these answers.
abbrev pub IsHistoryIn : Journal → List Record → List AcceptedAt → List Entry → Type 0
IsHistoryIn journal J answers log = history (group_in journal) J ≡ longest_from [] (prefixes_in log answers)

-- These are the accepted answers of the run.
pub record AreAccepted (journal : Journal) (J : List Record) (answers : List AcceptedAt) : Type 0 where
  pub each : AllByRecursion (IsAccepted journal) answers
  pub history : GiveHistory journal J (all_traced journal answers)
  -- Where all replicas are up in view 0 in the end, the log of its leader has each prefix.
  pub one_log : AreUpWithin 0 (group_in journal) (run_in journal) → IsHistoryIn journal J answers (lead (group_in journal) 0 (run_in journal))

-- ---- the search for the longest

-- Whether the second comes before the first: it has more entries, or as many and was accepted first.
abbrev pub comes_first : Counted → Counted → Bool
comes_first best next = nat_lt best.entries next.entries || ((best.entries == next.entries) && nat_lt next.answer.accepted.place best.answer.accepted.place)

-- The one with more entries, of equally long ones the one that was accepted first.
abbrev pub first_longest : Option Counted → Counted → Counted
first_longest None next = next
first_longest (Some best) next = if comes_first best next then next else best

-- Whether the prefix of an answer is shorter than the longest so far, since so few requests were sent before.
abbrev pub is_shorter : Option Counted → ℕ → Bool
is_shorter None sent = false
is_shorter (Some b) sent = nat_lt sent b.entries

-- The other prefix is shorter, or as long and accepted no earlier.
abbrev pub IsNoLonger : Journal → Counted → Traced → Type 0
IsNoLonger journal b a = (length (prefix_for journal a) < b.entries) ⊎ ((length (prefix_for journal a) ≡ b.entries) × (b.answer.accepted.place ≤ a.accepted.place))

-- It is the longest of these prefixes, the first of equally long ones.
pub record IsBest (journal : Journal) (done : List Traced) (b : Counted) : Type 0 where
  pub counted : b.entries ≡ length (prefix_for journal b.answer)
  pub among : Has done b.answer
  pub beats : AllByRecursion (IsNoLonger journal b) done

-- The same, where there is one: without one there are no prefixes.
abbrev pub IsBestIfAny : Journal → List Traced → Option Counted → Type 0
IsBestIfAny journal done None = done ≡ []
IsBestIfAny journal done (Some b) = IsBest journal done b

-- What a search has found among these.
pub record IsFound (journal : Journal) (done : List Traced) (s : Search) : Type 0 where
  pub replays : AreReplayed journal s.replays
  pub best : IsBestIfAny journal done s.best
