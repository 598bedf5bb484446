-- Each outcome of a rule is one of the ways in which a record changes what the laws on logs read of its state.
use Rattle.std.proofs.Common.{◌≡◌, ℕ, eqb, true, false, List, ◌∷◌, length, take, drop, Some, refl, sym, ap, subst, ◌∙◌, inl, inr, eqb-true, eq-eqb}
use Rattle.std.proofs.lemmas.Bool.{cases_Bool}
use Rattle.nz_base.specs.Actor.{actor_eq}
use Rattle.nz_base.specs.Cluster.{leader_of}
use Rattle.nz_base.specs.Log.{keys_of}
use Rattle.nz_base.specs.Moments.{At}
use Rattle.nz_base.specs.Prefixes.{IsPrefix}
use Rattle.nz_base.specs.declared.actor.Actor.TheVariants.{Replica}
use Rattle.nz_base.specs.declared.key.Entry.{Entry}
use Rattle.nz_base.proofs.Booleans.{true_and_false}
use Rattle.nz_base.proofs.Prefixes.{prefix_self, prefix_map}
use Rattle.nz_base.specs.declared.limits.TheConstants.{MAX_KEYS}
use Rattle.nz_log.specs.Synced.{Log}
use Rattle.nz_log.specs.Synced as logs
use Rattle.nz_msg.specs.declared.message.LogModBody.{LogModBody}
use Rattle.nz_msg.specs.declared.message.StartViewBody.{StartViewBody}
use Rattle.nz_msg.specs.declared.message.StateTellBody.{StateTellBody}
use Rattle.nz_msg.specs.declared.message.Message.TheVariants as messages
use Rattle.nz_machine.specs.declared.data.Status.{Status}
use Rattle.nz_machine.specs.declared.data.Status.TheVariants as statuses
use Rattle.nz_machine.specs.declared.event.Record.{Record}
use Rattle.nz_machine.specs.rules.State.{ReplicaData, Group}
use Rattle.nz_machine.specs.rules.Facts.{HasFacts}
use Rattle.nz_machine.specs.rules.Replicas.{is_normal, is_up, is_rejoining}
use Rattle.nz_machine.specs.runs.Shows.{ShowsLogMod}
use Rattle.nz_machine.specs.runs.World.{World}
use Rattle.nz_machine.specs.runs.Incarnations.{replica_at, is_restart}
use Rattle.nz_machine.proofs.runs.FitRuns.{all_fit}
use Rattle.nz_machine.proofs.runs.Moments.{at_world}
use Rattle.nz_machine.proofs.runs.Sources.{has_source, source_is}
use Rattle.nz_machine.proofs.shows.ReadShows.{was_sent, shown_by}
use Rattle.nz_machine.proofs.facts.WordsKeepFacts.{own_carried}
use Rattle.nz_laws_cv.proofs.Outcomes.{Grown, Same, More, Anew, Going, Outcome, Stays, Release, Merge, Sync, Tally, Enter, Follow}
use Rattle.nz_laws_cv.proofs.Outcomes.{Answer, Collect, Begin, Start, Fall, Wake, HearVector, Count, HearView, Forget, AskLog, Return, Back}
use Rattle.nz_laws_cv.proofs.OutcomeRules.{changing_is, heard_by}
use Rattle.nz_laws_cv.proofs.Hearing.{hears_fit}
use Rattle.nz_laws_cv.proofs.Steps.{law_state_at, Acts, Rests, steps}
use Rattle.nz_laws_cv.proofs.Modes.{IsSound, collects_low, starts_low, up_no_rejoin}
use Rattle.nz_laws_cv.proofs.WithinIncarnation.{sound_at}
use Rattle.nz_laws_cv.proofs.SentShows as letters
use Rattle.nz_laws_cv.proofs.Showing.{shows}
use Rattle.nz_laws_commit.specs.States.{Down}
use Rattle.nz_laws_commit.specs.Does.{IsUnchanged, Releases, Enters, Syncs, BeginsView, AdoptsLog, Restarts, Does}
use Rattle.nz_laws_commit.specs.Does as ways
use Rattle.nz_laws_commit.specs.Instance.{status_of, log_state, states_of}
use Rattle.nz_laws_commit.proofs.Instance.{normal_status, up_status, status_up, down_status, is_normal_at}

-- ---- what the laws read of a status

up_not_down : (a : Status) → is_up a ≡ true → status_of a ≡ Down → ⊥
up_not_down statuses.Normal up is = cc
up_not_down statuses.ViewChange up is = cc
up_not_down statuses.Rejoining up is = cc
up_not_down statuses.Down up is = cc

rejoining_not_down : (a : Status) → is_rejoining a ≡ true → status_of a ≡ Down → ⊥
rejoining_not_down statuses.Normal e is = cc
rejoining_not_down statuses.ViewChange e is = cc
rejoining_not_down statuses.Rejoining e is = cc
rejoining_not_down statuses.Down e is = cc

differ : (a b : ℕ) → (a ≡ b → ⊥) → eqb a b ≡ false
differ a b apart = elim (cases_Bool (eqb a b)) [ inl e ↦ absurd (apart (eqb-true a b e)) | inr e ↦ e ]

-- ---- what is known before the record

-- the log is sound, and a leader has all of it synced
pub record KnowsLog (f y : ℕ) (s : ReplicaData) : Type 0 where
  pub sound : logs.IsSound s.log
  pub led : is_normal s.status ≡ true → eqb (leader_of f s.view) y ≡ true → s.log.synced ≡ length s.log.entries

-- a log modification has the keys of its sender's log and its commit, in whose view it was in normal operation
pub record ModSource (g : Group) (K : List Record) (sender : ℕ) (b : LogModBody) : Type 0 where
  pub sent_at : List Record
  pub moment : At K sent_at
  pub normal : is_normal (replica_at g sender sent_at).status ≡ true
  pub view : (replica_at g sender sent_at).view ≡ b.view
  pub commit : (replica_at g sender sent_at).commit ≡ b.commit
  pub keys : b.keys ≡ take MAX_KEYS (drop b.start (keys_of (replica_at g sender sent_at).log.entries))

-- a whole log is its sender's, with its commit
pub record LogSource (g : Group) (K : List Record) (sender named : ℕ) (list : List Entry) (count : ℕ) : Type 0 where
  pub sent_at : List Record
  pub moment : At K sent_at
  pub normal : is_normal (replica_at g sender sent_at).status ≡ true
  pub view : (replica_at g sender sent_at).view ≡ named
  pub entries : (replica_at g sender sent_at).log.entries ≡ list
  pub commit : (replica_at g sender sent_at).commit ≡ count

-- ---- released entries

grown_keys : (f y : ℕ) (s : ReplicaData) (log : Log) → Grown f y s log → IsPrefix (keys_of s.log.entries) (keys_of log.entries)
grown_keys f y s _ Same = prefix_self (keys_of s.log.entries)
grown_keys f y s _ (More log normal follows more) = prefix_map (λ (e : Entry). e.key) s.log.entries log.entries more.entries

grown_synced : (f y : ℕ) (s : ReplicaData) (log : Log) → Grown f y s log → log.synced ≡ s.log.synced
grown_synced f y s _ Same = refl
grown_synced f y s _ (More log normal follows more) = more.follows refl

-- ---- each outcome

module _ (g : Group) (y : ℕ) (r : Record) (K : List Record) (knows : KnowsLog g.f y (law_state_at g y K)) (sound : IsSound g.f (law_state_at g y K))
    (mods : (sender : ℕ) (b : LogModBody) → heard_by g y r.event ≡ Some (Replica sender, messages.LogMod b) → ModSource g K sender b)
    (starts : (sender : ℕ) (b : StartViewBody) → heard_by g y r.event ≡ Some (Replica sender, messages.StartView b)
    → LogSource g K sender b.view b.entries b.commit)
    (tells : (sender : ℕ) (b : StateTellBody) → heard_by g y r.event ≡ Some (Replica sender, messages.StateTell b)
    → LogSource g K sender b.view b.entries b.commit)
  where
    abbrev s : ReplicaData
    s = law_state_at g y K

    abbrev DoesHere : Type 0
    DoesHere = Does (states_of g) y r K

    unchanged : (t : ReplicaData) → law_state_at g y (r ∷ K) ≡ t → IsUnchanged (log_state s) (log_state t) → DoesHere
    unchanged t is h = ways.Stays (subst (λ (u : ReplicaData). IsUnchanged (log_state s) (log_state u)) (sym is) h)

    entered : (t : ReplicaData) → law_state_at g y (r ∷ K) ≡ t → Enters (log_state s) (log_state t) → DoesHere
    entered t is h = ways.Entered (subst (λ (u : ReplicaData). Enters (log_state s) (log_state u)) (sym is) h)

    synced : (t : ReplicaData) → law_state_at g y (r ∷ K) ≡ t → Syncs (states_of g) y K (log_state s) (log_state t) → DoesHere
    synced t is h = ways.Synced (subst (λ (u : ReplicaData). Syncs (states_of g) y K (log_state s) (log_state u)) (sym is) h)

    adopted : (t : ReplicaData) → law_state_at g y (r ∷ K) ≡ t → AdoptsLog (states_of g) y K (log_state s) (log_state t) → DoesHere
    adopted t is h = ways.Adopted (subst (λ (u : ReplicaData). AdoptsLog (states_of g) y K (log_state s) (log_state u)) (sym is) h)

    mod_source_of : (sender leader : ℕ) (b : LogModBody) → sender ≡ leader → ModSource g K sender b → ModSource g K leader b
    mod_source_of sender leader b is h = subst (λ (z : ℕ). ModSource g K z b) is h

    pub outcome_is : (t : ReplicaData) → Outcome g.f y r.event (heard_by g y r.event) s t → law_state_at g y (r ∷ K) ≡ t → DoesHere
    outcome_is _ Stays is = unchanged _ is (record { status = refl; view = refl; last = refl; synced = refl; log = refl })
    outcome_is _ (Release log normal more) is =
        ways.Released (subst (λ (u : ReplicaData). Releases g.f y (log_state s) (log_state u)) (sym is) (record {
          before = normal_status s.status normal;
          after = normal_status s.status normal;
          view = refl;
          last = refl;
          log = prefix_map (λ (e : Entry). e.key) s.log.entries log.entries more.entries;
          leads = λ leads. let led = eq-eqb (leader_of g.f s.view) y leads in more.leads led (knows.led normal led);
          follows = λ apart. more.follows (differ (leader_of g.f s.view) y apart);
        }))
    outcome_is _ (Merge sender m u new normal) is = unchanged _ is (record { status = refl; view = refl; last = refl; synced = refl; log = refl })
    outcome_is _ (Sync sender b new hears le log changed) is =
        let L = leader_of g.f s.view in
        let leads : sender ≡ L = hears.leader ∙ ap (leader_of g.f) hears.same in
        let sent = mod_source_of sender L b leads (mods sender b new.is) in
        let early = keys_of (replica_at g L sent.sent_at).log.entries in
        let taken = changed.taken knows.sound early sent.keys in
        synced _ is (record {
          before = normal_status s.status hears.normal;
          after = normal_status s.status hears.normal;
          view = refl;
          last = refl;
          follows = λ leads. absurd (true_and_false (eqb L y) (eq-eqb L y leads) hears.follows);
          sent_at = sent.sent_at;
          moment = sent.moment;
          leader = is_normal_at g L s.view sent.sent_at sent.normal (sent.view ∙ hears.same);
          synced = taken.synced;
          entries = taken.entries;
          modified = λ lead part prefix. record { part = taken.part lead part prefix; prefixes = λ P p either. taken.prefixes lead part prefix P p either };
        })
    outcome_is _ (Tally sender b heard normal led same few) is = unchanged _ is (record { status = refl; view = refl; last = refl; synced = refl; log = refl })
    outcome_is _ (Enter w up later log grown) is =
        entered _ is (record {
          before = up_status s.status up;
          after = refl;
          view = later;
          last = refl;
          log = grown_keys g.f y s log grown;
          synced =
              grown_synced g.f y s log grown;
        })
    outcome_is _ (Follow sender m u new w up later) is =
        entered _ is (record {
          before = up_status s.status up;
          after = refl;
          view = later;
          last = refl;
          log = prefix_self (keys_of s.log.entries);
          synced =
              refl;
        })
    outcome_is _ (Answer sender b new normal same) is = unchanged _ is (record { status = refl; view = refl; last = refl; synced = refl; log = refl })
    outcome_is _ (Collect sender b new may _ (Anew later)) is =
        entered _ is (record {
          before = up_status s.status may.up;
          after = refl;
          view = later;
          last = refl;
          log =
              prefix_self (keys_of s.log.entries);
          synced = refl;
        })
    outcome_is _ (Collect sender b new may _ (Going same changing)) is =
        unchanged _ is (record { status = sym (ap status_of (changing_is s.status changing)); view = sym same; last = refl; synced = refl; log = refl })
    outcome_is _ (Begin sender b new may base on full) is =
        ways.Began (subst (λ (u : ReplicaData). BeginsView (states_of g) y (log_state s) (log_state u)) (sym is) (record {
          before = up_status s.status may.up;
          after = refl;
          leads = may.leads;
          view = may.later;
          last = refl;
          higher = collects_low g.f y r.event (heard_by g y r.event) (hears_fit g y r.event) s b.view b.vector base sound may.up on;
          synced = refl;
        }))
    outcome_is _ (Start sender b new may) is =
        let sent = subst (λ (z : ℕ). LogSource g K z b.view b.entries b.commit) may.leader (starts sender b new.is) in
        adopted _ is (record {
          before = λ down. up_not_down s.status may.up down;
          after = refl;
          last = refl;
          view = λ _. may.later;
          higher = λ _. starts_low g.f s sender b.view sound may;
          synced = refl;
          sent_at = sent.sent_at;
          moment = sent.moment;
          leader = is_normal_at g (leader_of g.f b.view) b.view sent.sent_at sent.normal sent.view;
          log = ap keys_of (sym sent.entries);
        })
    outcome_is _ (Fall e) is = ways.Fell (ap (λ (u : ReplicaData). status_of u.status) is)
    outcome_is _ (Wake nonce e down) is =
        ways.Rose (subst (λ (u : ReplicaData). Restarts (states_of g) r (log_state s) (log_state u)) (sym is)
        (record { before = down_status s.status down; after = refl; event = ap is_restart e }))
    outcome_is _ (HearVector sender b new ours) is = unchanged _ is (record { status = refl; view = refl; last = refl; synced = refl; log = refl })
    outcome_is _ (Count sender b new ours enough) is = unchanged _ is (record { status = refl; view = refl; last = refl; synced = refl; log = refl })
    outcome_is _ (HearView sender b new ours) is = unchanged _ is (record { status = refl; view = refl; last = refl; synced = refl; log = refl })
    outcome_is _ (Forget sender b new ours) is = unchanged _ is (record { status = refl; view = refl; last = refl; synced = refl; log = refl })
    outcome_is _ (AskLog sender b new ours enough) is =
        unchanged _ is (record { status = refl; view = refl; last = refl; synced = refl; log = refl })
    outcome_is _ (Return sender b new ours late leader) is =
        let sent = subst (λ (z : ℕ). LogSource g K z b.view b.entries b.commit) leader (tells sender b new.is) in
        adopted _ is (record {
          before = λ down. rejoining_not_down s.status ours.rejoining down;
          after = refl;
          last = refl;
          view = λ up. up_no_rejoin s.status (status_up s.status up) ours.rejoining;
          higher = λ up. up_no_rejoin s.status (status_up s.status up) ours.rejoining;
          synced = refl;
          sent_at = sent.sent_at;
          moment = sent.moment;
          leader = is_normal_at g (leader_of g.f b.view) b.view sent.sent_at sent.normal sent.view;
          log = ap keys_of (sym sent.entries);
        })
    outcome_is _ (Back rejoining phase) is = unchanged _ is (record { status = refl; view = refl; last = refl; synced = refl; log = refl })

-- ---- what is known in every run

pub knows_log : (g : Group) (y : ℕ) (K : List Record) → World g K → KnowsLog g.f y (law_state_at g y K)
knows_log g y K w =
    let facts : HasFacts g.f y (replica_at g y K) = (all_fit g K w).states (Replica y) in
    let carried = own_carried g.f y (replica_at g y K) facts in
    record {
      sound = record { ordered = carried.log; within = facts.entries.within; few = carried.few };
      led = λ normal led. (facts.executed.led normal led).synced;
    }

pub mod_source : (g : Group) (y : ℕ) (r : Record) (K : List Record) → World g (r ∷ K) → r.actor ≡ Replica y → (sender : ℕ) (b : LogModBody)
    → heard_by g y r.event ≡ Some (Replica sender, messages.LogMod b) → ModSource g K sender b
mod_source g y r K w a sender b heard =
    let was = was_sent g r K w (Replica y) (Replica sender) (messages.LogMod b) a heard in
    let k = has_source (letters.letter sender y (messages.LogMod b)) K was.sent in
    let s = source_is (letters.letter sender y (messages.LogMod b)) K k.0 k.1 in
    let now = shown_by g K w.1 (Replica sender) s.newest s.older (Replica y) (messages.LogMod b) s.at was.fits s.sends in
    let shows : ShowsLogMod g.f sender (replica_at g sender (s.newest ∷ s.older)) (Replica y) b = now.shows in
    let same = sym shows.read in
    let start = ap (λ (x : LogModBody). x.start) same in
    record {
      sent_at = s.newest ∷ s.older;
      moment = s.at;
      normal = shows.normal;
      view = ap (λ (x : LogModBody). x.view) same;
      commit = ap (λ (x : LogModBody). x.commit) same;
      keys = sym (ap (λ (x : LogModBody). x.keys) same)
          ∙ ap (λ (n : ℕ). take MAX_KEYS (drop n (keys_of (replica_at g sender (s.newest ∷ s.older)).log.entries))) start;
    }

pub start_source : (g : Group) (y : ℕ) (r : Record) (K : List Record) → World g (r ∷ K) → r.actor ≡ Replica y → (sender : ℕ) (b : StartViewBody)
    → heard_by g y r.event ≡ Some (Replica sender, messages.StartView b) → LogSource g K sender b.view b.entries b.commit
start_source g y r K w a sender b heard =
    let h = shows g K w.1 in
    let s = letters.sent_at sender y (messages.StartView b) K (letters.was_sent g y r K w a sender (messages.StartView b) heard) in
    let sent = h.start_view sender y b s.record_of s.older s.at s.sends in
    record { sent_at = s.record_of ∷ s.older; moment = s.at; normal = sent.normal; view = sent.view; entries = sent.entries; commit = sent.commit }

pub state_source : (g : Group) (y : ℕ) (r : Record) (K : List Record) → World g (r ∷ K) → r.actor ≡ Replica y → (sender : ℕ) (b : StateTellBody)
    → heard_by g y r.event ≡ Some (Replica sender, messages.StateTell b) → LogSource g K sender b.view b.entries b.commit
state_source g y r K w a sender b heard =
    let h = shows g K w.1 in
    let s = letters.sent_at sender y (messages.StateTell b) K (letters.was_sent g y r K w a sender (messages.StateTell b) heard) in
    let sent = h.state_tell sender y b s.record_of s.older s.at s.sends in
    record { sent_at = s.record_of ∷ s.older; moment = s.at; normal = sent.normal; view = sent.view; entries = sent.entries; commit = sent.commit }

-- ---- the premises on the rules

outcome_does : (g : Group) (y : ℕ) (r : Record) (K : List Record) → World g (r ∷ K) → r.actor ≡ Replica y
    → Outcome g.f y r.event (heard_by g y r.event) (law_state_at g y K) (law_state_at g y (r ∷ K)) → Does (states_of g) y r K
outcome_does g y r K w a outcome =
    outcome_is g y r K (knows_log g y K w.1) (sound_at g K w.1 y) (mod_source g y r K w a) (start_source g y r K w a) (state_source g y r K w a)
    (law_state_at g y (r ∷ K)) outcome refl

-- each record of a replica
pub record_does : (g : Group) (J : List Record) → World g J → (y : ℕ) (r : Record) (K : List Record) → At J (r ∷ K) → actor_eq r.actor (Replica y) ≡ true
    → Does (states_of g) y r K
record_does g J w y r K at by =
    let now = at_world g J (r ∷ K) w at in
    elim (steps g y r K) [
      | Acts a outcome ↦ outcome_does g y r K now a outcome
      | Rests other same ↦ true_and_false (actor_eq r.actor (Replica y)) by other
    ]
