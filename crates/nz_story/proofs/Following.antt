-- What is known of a run goes on with each record.
use Rattle.std.proofs.Common.{◌≡◌, ◌≢◌, ℕ, ◌+◌, ◌<◌, ◌≤◌, ◌⊎◌, inl, inr, true, false, List, [], ◌∷◌, ◌++◌, length, get_or, sym, ap, ◌∙◌, subst}
use Rattle.std.proofs.Common.{arith, length-append, append-nil, append_assoc, reverse, Some, take_all}
use Rattle.std.specs.Prelude.{slice_get, slice_set}
use Rattle.std.proofs.lemmas.Bool.{cases_lt, cases_eq}
use Rattle.std.proofs.lemmas.Bool.Decides.{nat_tests}
use Rattle.std.proofs.lemmas.List.{get_or_append_left, get_or_push, get_or-set_same, get_or-set_other, length-set}
use Rattle.std.proofs.lemmas.Option.{slice_get_within, get_or_from_slice_get}
use Rattle.nz_base.specs.Actor.{actor_eq}
use Rattle.nz_base.specs.Cluster.{replica_count}
use Rattle.nz_base.specs.declared.actor.Actor.{Actor}
use Rattle.nz_base.specs.declared.actor.Actor.TheVariants.{Replica, Proxy, Client}
use Rattle.nz_machine.specs.journals.ClientProgress.{AreAfter}
use Rattle.nz_machine.specs.journals.Journals.{group_in, run_in}
use Rattle.nz_machine.specs.rules.State.{Group, ReplicaData}
use Rattle.nz_machine.specs.rules.Replicas.{first_replica}
use Rattle.nz_machine.specs.runs.World.{World, IsMember, state_after}
use Rattle.nz_machine.specs.declared.event.Record.{Record}
use Rattle.nz_machine.specs.declared.journal.Journal.{Journal}
use Rattle.nz_machine.proofs.journals.JournalPrefixes.{world_with}
use Rattle.nz_replica.specs.Models.{ReplicaCore, IsCore}
use Rattle.nz_replay.specs.Runs.{run_up_to}
use Rattle.nz_replay.proofs.Replays.{core_first, core_stays, run_then}
use Rattle.nz_story.specs.Courses.{IsWatched, AreWatched, IsFollowed}
use Rattle.nz_story.specs.Fates.{sent_by_run}
use Rattle.nz_story.specs.Known.{Known, known_of, line_between}
use Rattle.nz_story.specs.States.{now_text}
use Rattle.nz_story.specs.Passes.{counts_of}
use Rattle.nz_story.specs.Story.{record_part, story}
use Rattle.nz_story.specs.declared.story.Course.{Course}
use Rattle.nz_story.specs.declared.story.Watched.{Watched}

-- ---- one replica

pub first_core : (g : Group) (f m : ℕ) (core : ReplicaCore) → g.f ≡ f
    → core ≡ record { f = f; model = record { f = f; me = m; state = first_replica f }; live = true } → IsCore g [] m core
first_core g f m core same is =
    let first : ℕ → ReplicaCore = λ (f : ℕ). record { f = f; model = record { f = f; me = m; state = first_replica f }; live = true } in
    subst (IsCore g [] m) (ap first same ∙ sym is) (core_first g m)

-- what became of a replica
pub now_is : (g : Group) (m : ℕ) (r : Record) (J : List Record) (before : Known) (core core' : ReplicaCore) (s : ReplicaData) (old new : List ℕ)
    → IsCore g J m core → IsCore g (r ∷ J) m core' → before ≡ known_of core.model.state → s ≡ core'.model.state
    → new ≡ old ++ line_between before (known_of s) → new ≡ old ++ now_text g (Replica m) r J
now_is g m r J before core core' s old new h h' known is e =
    let start : before ≡ known_of (state_after g (Replica m) J) = known ∙ ap known_of h.state in
    let end : known_of s ≡ known_of (state_after g (Replica m) (r ∷ J)) = ap known_of (is ∙ h'.state) in
    e ∙ (λ i. old ++ line_between (start i) (end i))

-- ---- all replicas

more_by : (g : Group) (J : List Record) (ws : List Watched) (w d : Watched) (k : ℕ) → AreWatched g J ws
    → IsWatched g J (length ws) w → k < length ws + 1 → (k < length ws) ⊎ (length ws ≤ k) → IsWatched g J k (get_or (ws ++ w ∷ []) k d)
more_by g J ws w d k h last lt (inl below) =
    subst (IsWatched g J k) (sym (get_or_append_left ws (w ∷ []) d k (omega (arith, below)))) (h k d below)
more_by g J ws w d k h last lt (inr le) =
    let same : length ws ≡ k = omega (arith, lt, le) in
    subst (IsWatched g J k) (sym (get_or_push ws w d k same)) (subst (λ (n : ℕ). IsWatched g J n w) same last)

-- one replica more
pub watched_more : (g : Group) (J : List Record) (ws ws' : List Watched) (w : Watched) → AreWatched g J ws
    → IsWatched g J (length ws) w → ws' ≡ ws ++ w ∷ [] → AreWatched g J ws'
watched_more g J ws ws' w h last e =
    subst (AreWatched g J) (sym e)
    (λ k d lt. let long = length-append ws (w ∷ []) in more_by g J ws w d k h last (omega (arith, long, lt)) (cases_lt k (length ws)))

watched_stays : (g : Group) (m : ℕ) (r : Record) (J : List Record) (w : Watched) → actor_eq r.actor (Replica m) ≡ false
    → IsWatched g J m w → IsWatched g (r ∷ J) m w
watched_stays g m r J w other h = record { core = core_stays g m r J w.core other h.core; known = h.known }

-- a record of no replica leaves all
pub all_stay : (g : Group) (r : Record) (J : List Record) (ws : List Watched) → ((m : ℕ) → actor_eq r.actor (Replica m) ≡ false)
    → AreWatched g J ws → AreWatched g (r ∷ J) ws
all_stay g r J ws other h = λ k d lt. watched_stays g k r J (get_or ws k d) (other k) (h k d lt)

other_replica : (a : Actor) (m k : ℕ) → a ≡ Replica m → k ≢ m → actor_eq a (Replica k) ≡ false
other_replica a m k is apart = ap (λ (a : Actor). actor_eq a (Replica k)) is ∙ grind (arith, nat_tests)

-- a record of one leaves the others
pub one_acts : (g : Group) (r : Record) (J : List Record) (ws : List Watched) (m : ℕ) (w : Watched) → r.actor ≡ Replica m → m < length ws
    → IsWatched g (r ∷ J) m w → AreWatched g J ws → AreWatched g (r ∷ J) (slice_set ws m w)
one_acts g r J ws m w by lt own h = λ k d below. elim (cases_eq k m) [
  | inl same ↦
      subst (λ (n : ℕ). IsWatched g (r ∷ J) n (get_or (slice_set ws m w) n d)) (sym same)
      (subst (IsWatched g (r ∷ J) m) (sym (get_or-set_same ws m w d lt)) own)
  | inr apart ↦
      let long = length-set ws m w in
      subst (IsWatched g (r ∷ J) k) (sym (get_or-set_other ws m k w d apart))
      (watched_stays g k r J (get_or ws k d) (other_replica r.actor m k by apart) (h k d (omega (arith, long, below))))
]

-- an actor that is no replica
pub no_replica : (a : Actor) (m : ℕ) → ((x : ℕ) × (a ≡ Proxy x)) ⊎ ((x : ℕ) × (a ≡ Client x)) → actor_eq a (Replica m) ≡ false
no_replica a m (inl is) = ap (λ (b : Actor). actor_eq b (Replica m)) is.1
no_replica a m (inr is) = ap (λ (b : Actor). actor_eq b (Replica m)) is.1

pub nothing_became : (g : Group) (a : Actor) (r : Record) (J : List Record) (out : List ℕ) → ((x : ℕ) × (a ≡ Proxy x)) ⊎ ((x : ℕ) × (a ≡ Client x))
    → out ≡ out ++ now_text g a r J
nothing_became g a r J out (inl is) = sym (append-nil out) ∙ ap (λ (b : Actor). out ++ now_text g b r J) (sym is.1)
nothing_became g a r J out (inr is) = sym (append-nil out) ∙ ap (λ (b : Actor). out ++ now_text g b r J) (sym is.1)

-- ---- the record at a place

-- the records up to and with it are a run
pub world_at : (journal : Journal) (place : ℕ) (r : Record) → World (group_in journal) (run_in journal) → slice_get journal.records place ≡ Some r
    → World (group_in journal) (r ∷ run_up_to journal place)
world_at journal place r w at =
    world_with (group_in journal) journal.records place r w (slice_get_within journal.records place r at)
    (sym (get_or_from_slice_get journal.records place r r at))

-- all actors took it, and what it sent was counted
pub followed_next : (journal : Journal) (place : ℕ) (r : Record) (c : Course) → slice_get journal.records place ≡ Some r
    → AreAfter (group_in journal) (r ∷ run_up_to journal place) c.clients
    → length c.replicas.items ≡ replica_count journal.scenario.cluster
    → AreWatched (group_in journal) (run_up_to journal (place + 1)) c.replicas.items
    → c.sent ≡ counts_of journal.scenario.faults (sent_by_run (r ∷ run_up_to journal place))
    → IsFollowed journal.scenario (run_up_to journal (place + 1)) c
followed_next journal place r c at clients count replicas sent =
    let next = run_then journal place r at in
    record {
      clients = subst (λ (J : List Record). AreAfter (group_in journal) J c.clients) (sym next) clients;
      count = count;
      replicas = replicas;
      sent = sent ∙ ap (λ (J : List Record). counts_of journal.scenario.faults (sent_by_run J)) (sym next);
    }

-- the number of its replica is one of the cluster
pub number_within : (journal : Journal) (place : ℕ) (r : Record) (ws : List Watched) (m : ℕ) → World (group_in journal) (run_in journal)
    → slice_get journal.records place ≡ Some r → length ws ≡ replica_count journal.scenario.cluster → r.actor ≡ Replica m → m < length ws
number_within journal place r ws m w at count by =
    let member : IsMember (group_in journal) (Replica m) = subst (IsMember (group_in journal)) by (world_at journal place r w at).0.member in
    omega (arith, member, count)

-- ---- bytes

-- three pieces in turn
pub in_turn : (out a b d one two three : List ℕ) → one ≡ out ++ a → two ≡ one ++ b → three ≡ two ++ d → three ≡ out ++ (a ++ (b ++ d))
in_turn out a b d one two three p q r =
    r ∙ ap (λ (bytes : List ℕ). bytes ++ d) (q ∙ ap (λ (bytes : List ℕ). bytes ++ b) p)
    ∙ append_assoc (out ++ a) b d ∙ append_assoc out a (b ++ d)

-- the part of the next record was written
pub story_more : (journal : Journal) (place : ℕ) (r : Record) (out before next : List ℕ) → slice_get journal.records place ≡ Some r
    → before ≡ out ++ story journal.scenario (run_up_to journal place)
    → next ≡ before ++ record_part journal.scenario r (run_up_to journal place)
    → next ≡ out ++ story journal.scenario (run_up_to journal (place + 1))
story_more journal place r out before next at is step =
    let part = record_part journal.scenario r (run_up_to journal place) in
    step ∙ ap (λ (bytes : List ℕ). bytes ++ part) is ∙ append_assoc out (story journal.scenario (run_up_to journal place)) part
    ∙ ap (λ (J : List Record). out ++ story journal.scenario J) (sym (run_then journal place r at))

-- the parts of all records were written
pub story_all : (journal : Journal) (place : ℕ) (out now : List ℕ) → length journal.records ≤ place
    → now ≡ out ++ story journal.scenario (run_up_to journal place) → now ≡ out ++ story journal.scenario (run_in journal)
story_all journal place out now le is =
    is ∙ ap (λ (rs : List Record). out ++ story journal.scenario (reverse rs)) (take_all place journal.records le)
