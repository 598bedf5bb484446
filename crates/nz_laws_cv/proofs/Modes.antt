-- Modes, and what an outcome does to view, last, vector and nonce within an incarnation.
use Rattle.std.proofs.Common.{◌≡◌, ℕ, ◌+◌, ◌≤◌, ◌<◌, true, false, not, List, [], length, max, Option}
use Rattle.std.proofs.Common.{Some, None, refl, sym, ap, subst, ◌∙◌, inl, inr, arith, eqb-true}
use Rattle.std.specs.Prelude.{slice_index}
use Rattle.std.proofs.lemmas.Bool.Decides.{nat_tests}
use Rattle.std.proofs.lemmas.Option.{same_Some}
use Rattle.std.proofs.lemmas.List.{length-set, length-replicate, get_or-set_other}
use Rattle.nz_base.specs.Cluster.{replica_count}
use Rattle.nz_cv.specs.Vectors.{is_stray, merged_vector}
use Rattle.nz_cv.proofs.Merging.{length-merged, merged-own}
use Rattle.nz_cv.proofs.Collecting.{never_falls, takes_in}
use Rattle.nz_msg.specs.declared.message.Message.{Message}
use Rattle.nz_machine.specs.rules.State.{ReplicaData}
use Rattle.nz_machine.specs.declared.event.Event.{Event}
use Rattle.nz_machine.specs.declared.event.Event.TheVariants.{Restart}
use Rattle.nz_machine.specs.declared.data.Status.{Status}
use Rattle.nz_machine.specs.declared.data.Status.TheVariants.{Normal, ViewChange, Rejoining, Down}
use Rattle.nz_machine.specs.declared.data.Phase.{Phase}
use Rattle.nz_machine.specs.declared.data.Phase.TheVariants as phases
use Rattle.nz_machine.specs.declared.data.Rejoin.{Rejoin}
use Rattle.nz_machine.specs.declared.data.CollectedReport.{CollectedReport}
use Rattle.nz_log.specs.Synced.{Log}
use Rattle.nz_machine.specs.rules.Replicas.{first_replica, is_normal, is_changing, is_up, is_rejoining, is_down, crashed_replica}
use Rattle.nz_machine.specs.rules.Rejoining.{restarted_replica, is_phase}
use Rattle.nz_machine.specs.rules.Step.{message_vector, is_sized}
use Rattle.nz_machine.specs.runs.Hearing.{Heard}
use Rattle.nz_laws_cv.proofs.Outcomes.{law_state, Base, Anew, Going, Outcome, Stays, Release, Merge, Sync, Tally, Enter, Follow}
use Rattle.nz_laws_cv.proofs.Outcomes.{Answer, Collect, Begin, Start, Fall, Wake, HearVector, Count, HearView, Forget, AskLog, Return, Back}
use Rattle.nz_machine.proofs.facts.Guards.{normal_up, IsFresh, HearsStart, Awaits}
use Rattle.nz_machine.specs.rules.Vectors.{with_vector}
use Rattle.nz_laws_cv.proofs.OutcomeRules.{up_kinds}
use Rattle.nz_laws_cv.proofs.Hearing.{HearsFit}

-- ---- modes apart

pub up_no_rejoin : {X : Type 0} (a : Status) → is_up a ≡ true → is_rejoining a ≡ true → X
up_no_rejoin Normal h k = absurd cc
up_no_rejoin ViewChange h k = absurd cc
up_no_rejoin Rejoining h k = absurd cc
up_no_rejoin Down h k = absurd cc

pub up_no_down : {X : Type 0} (a : Status) → is_up a ≡ true → is_down a ≡ true → X
up_no_down Normal h k = absurd cc
up_no_down ViewChange h k = absurd cc
up_no_down Rejoining h k = absurd cc
up_no_down Down h k = absurd cc

pub up_not_down : (a : Status) → is_up a ≡ true → is_down a ≡ false
up_not_down Normal h = refl
up_not_down ViewChange h = refl
up_not_down Rejoining h = absurd cc
up_not_down Down h = absurd cc

pub rejoin_not_down : (a : Status) → is_rejoining a ≡ true → is_down a ≡ false
rejoin_not_down Normal h = absurd cc
rejoin_not_down ViewChange h = absurd cc
rejoin_not_down Rejoining h = refl
rejoin_not_down Down h = absurd cc

pub normal_no_rejoin : {X : Type 0} (a : Status) → is_normal a ≡ true → is_rejoining a ≡ true → X
normal_no_rejoin a h k = up_no_rejoin a (normal_up a h) k

pub normal_no_change : {X : Type 0} (a : Status) → is_normal a ≡ true → is_changing a ≡ true → X
normal_no_change Normal h k = absurd cc
normal_no_change ViewChange h k = absurd cc
normal_no_change Rejoining h k = absurd cc
normal_no_change Down h k = absurd cc

-- up, rejoining or down
pub data Standing (a : Status) : Type 0 where
  IsUp : is_up a ≡ true → Standing a
  IsRejoining : is_rejoining a ≡ true → Standing a
  IsDown : is_down a ≡ true → Standing a

-- each status is one of the three
pub standing : (a : Status) → Standing a
standing Normal = IsUp refl
standing ViewChange = IsUp refl
standing Rejoining = IsRejoining refl
standing Down = IsDown refl

pub is_phase_is : (p q : Phase) → is_phase p q ≡ true → p ≡ q
is_phase_is phases.Vectors phases.Vectors h = refl
is_phase_is phases.Views phases.Views h = refl
is_phase_is phases.Log phases.Log h = refl
is_phase_is _ _ h = absurd cc

-- ---- strays

-- a vector that is not stray has its sender's counter
pub not_stray : (u v : List ℕ) (y : ℕ) → not (is_stray u y v) ≡ true → slice_index v y ≤ slice_index u y
not_stray u v y h = grind (arith, nat_tests, h)

-- ---- last view by mode, and the vector's size

pub record IsSound (f : ℕ) (s : ReplicaData) : Type 0 where
  pub sized : length s.vector ≡ replica_count f
  pub normal : is_normal s.status ≡ true → s.last ≡ s.view
  pub changing : is_changing s.status ≡ true → s.last < s.view
  pub rejoining : is_rejoining s.status ≡ true → s.view ≡ 0
  pub rejoining_last : is_rejoining s.status ≡ true → s.last ≡ 0

pub first_sound : (f : ℕ) → IsSound f (law_state (first_replica f))
first_sound f = record { sized = length-replicate _ _; normal = λ _. refl; changing = λ h. absurd cc; rejoining = λ _. refl; rejoining_last = λ _. refl }

pub crashed_sound : (f : ℕ) → IsSound f (law_state (crashed_replica f))
crashed_sound f = record { sized = length-replicate _ _; normal = λ _. refl; changing = λ h. absurd cc; rejoining = λ _. refl; rejoining_last = λ _. refl }

pub restarted_sound : (f nonce : ℕ) → IsSound f (law_state (restarted_replica f nonce))
restarted_sound f nonce =
    record { sized = length-replicate _ _; normal = λ _. refl; changing = λ h. absurd cc; rejoining = λ _. refl; rejoining_last = λ _. refl }

pub last_low : (f : ℕ) (s : ReplicaData) → IsSound f s → is_up s.status ≡ true → s.last ≤ s.view
last_low f s h up = elim (up_kinds s.status up) [
  | inl normal ↦ let e = h.normal normal in omega (arith, e)
  | inr changing ↦ let lt = h.changing changing in omega (arith, lt)
]

-- a view that may start is after the last one
pub starts_low : (f : ℕ) (s : ReplicaData) (sender view : ℕ) → IsSound f s → HearsStart f s sender view → s.last < view
starts_low f s sender view h may = elim (up_kinds s.status may.up) [
  | inl normal ↦ let low = may.turns normal in let same = h.normal normal in omega (arith, low, same)
  | inr changing ↦ let low = h.changing changing in let later = may.later in omega (arith, low, later)
]

size_is : (f : ℕ) (u : List ℕ) (o : Option (List ℕ)) → o ≡ Some u → is_sized f o ≡ true → length u ≡ replica_count f
size_is f u None e h = absurd cc
size_is f u (Some v) e h = ap length (sym (same_Some v u e)) ∙ eqb-true _ _ h

pub new_size : (f me : ℕ) (heard : Heard) (s : ReplicaData) (sender : ℕ) (m : Message) (u : List ℕ) → HearsFit f me heard → IsFresh heard s sender m u
    → length u ≡ replica_count f
new_size f me heard s sender m u fit new = size_is f u (message_vector m) new.carries (fit.hears sender m new.is).sized

-- ---- within an incarnation

-- the own counter is settled: from the second phase on
abbrev pub Settled : ReplicaData → Type 0
Settled s = is_phase s.rejoin.phase phases.Vectors ≡ false

-- neither lost nor woken: from one state of a replica to a later one of the same incarnation
pub record Goes (me : ℕ) (s t : ReplicaData) : Type 0 where
  pub down : is_down t.status ≡ is_down s.status
  pub view : s.view ≤ t.view
  pub last : s.last ≤ t.last
  pub places : (k : ℕ) → ¬ (k ≡ me) → slice_index s.vector k ≤ slice_index t.vector k
  pub nonce : t.rejoin.nonce ≡ s.rejoin.nonce
  pub settled : Settled s → Settled t
  pub own : Settled s → slice_index s.vector me ≡ slice_index t.vector me
  pub own_up : is_up s.status ≡ true → slice_index s.vector me ≡ slice_index t.vector me
  pub stays_up : is_up s.status ≡ true → is_up t.status ≡ true

pub goes_same : (me : ℕ) (s t : ReplicaData) → t ≡ s → Goes me s t
goes_same me s t is =
    subst (λ (u : ReplicaData). Goes me s u) (sym is)
    (record {
      down = refl;
      view =
          omega arith;
      last = omega arith;
      places = λ k _. omega arith;
      nonce = refl;
      settled = λ h. h;
      own = λ _. refl;
      own_up = λ _. refl;
      stays_up = λ h. h;
    })

pub goes_then : (me : ℕ) (s t u : ReplicaData) → Goes me s t → Goes me t u → Goes me s u
goes_then me s t u a b = record {
  down = b.down ∙ a.down;
  view = let p = a.view in let q = b.view in omega (arith, p, q);
  last = let p = a.last in let q = b.last in omega (arith, p, q);
  places = λ k other. let p = a.places k other in let q = b.places k other in omega (arith, p, q);
  nonce = b.nonce ∙ a.nonce;
  settled = λ h. b.settled (a.settled h);
  own = λ h. a.own h ∙ b.own (a.settled h);
  own_up = λ h. a.own_up h ∙ b.own_up (a.stays_up h);
  stays_up = λ h. b.stays_up (a.stays_up h);
}

-- who rejoins becomes Normal, where it is up at all
abbrev pub RejoinsNormal : ReplicaData → ReplicaData → Type 0
RejoinsNormal s t = is_rejoining s.status ≡ true → is_up t.status ≡ true → is_normal t.status ≡ true

pub data Course (f me : ℕ) (e : Event) (s t : ReplicaData) : Type 0 where
  Falls : t ≡ law_state (crashed_replica f) → Course f me e s t
  Wakes : (nonce : ℕ) → e ≡ Restart nonce → is_down s.status ≡ true → Course f me e s t
  GoesOn : Goes me s t → RejoinsNormal s t → Course f me e s t

module _ (f me : ℕ) (e : Event) (heard : Heard) (fit : HearsFit f me heard) where
  merged_size : (s : ReplicaData) (sender : ℕ) (m : Message) (u : List ℕ) → IsSound f s → IsFresh heard s sender m u
      → length (merged_vector s.vector u me) ≡ replica_count f
  merged_size s sender m u h new =
      let size = new_size f me heard s sender m u fit new in
      let own = h.sized in
      length-merged s.vector u me (omega (arith, size, own)) ∙ own

  rejoins_on : (s : ReplicaData) (p : Phase) (n : ℕ) (v : List ℕ) (r : _) → IsSound f s → Awaits p s n → length v ≡ replica_count f
      → IsSound f (law_state (record s { vector = v; rejoin = r }))
  rejoins_on s p n v r h ours size =
      record { sized = size; normal = h.normal; changing = h.changing; rejoining = h.rejoining; rejoining_last = h.rejoining_last }

  starts : (s : ReplicaData) (v : List ℕ) (w : ℕ) (log : Log) (commit : ℕ) (ack : List ℕ) (reports : List CollectedReport) → length v ≡ replica_count f
      → IsSound f (law_state (record s { status = Normal; view = w; last = w; log = log; commit = commit; ack = ack; vector = v; reports = reports }))
  starts s v w log commit ack reports size =
      record { sized = size; normal = λ _. refl; changing = λ h. absurd cc; rejoining = λ h. absurd cc; rejoining_last = λ h. absurd cc }

  enters : (s : ReplicaData) (v : List ℕ) (w : ℕ) (log : Log) (reports : List CollectedReport) → s.last < w → length v ≡ replica_count f
      → IsSound f (law_state (record s { status = ViewChange; view = w; log = log; vector = v; reports = reports }))
  enters s v w log reports low size =
      record { sized = size; normal = λ h. absurd cc; changing = λ _. low; rejoining = λ h. absurd cc; rejoining_last = λ h. absurd cc }

  pub collects_low : (s : ReplicaData) (w : ℕ) (u : List ℕ) (base : _) → IsSound f s → is_up s.status ≡ true → Base (with_vector me s u) w base → s.last < w
  collects_low s w u _ h up (Anew later) = let low = last_low f s h up in omega (arith, low, later)
  collects_low s w u _ h up (Going same changing) = let low = h.changing changing in omega (arith, low, same)

  pub sound_kept : (s t : ReplicaData) → Outcome f me e heard s t → IsSound f s → IsSound f t
  sound_kept s _ Stays h = h
  sound_kept s _ (Release log normal more) h =
      record { sized = h.sized; normal = h.normal; changing = h.changing; rejoining = h.rejoining; rejoining_last = h.rejoining_last }
  sound_kept s _ (Sync sender b new hears le log changed) h =
      record {
        sized = merged_size s sender _ b.vector h new;
        normal =
            h.normal;
        changing = h.changing;
        rejoining = h.rejoining;
        rejoining_last = h.rejoining_last;
      }
  sound_kept s _ (Tally sender b is normal led same few) h =
      record { sized = h.sized; normal = h.normal; changing = h.changing; rejoining = h.rejoining; rejoining_last = h.rejoining_last }
  sound_kept s _ (Merge sender m u new normal) h =
      record { sized = merged_size s sender m u h new; normal = h.normal; changing = h.changing; rejoining = h.rejoining; rejoining_last = h.rejoining_last }
  sound_kept s _ (Enter w up later log grown) h = enters s s.vector w log [] (let low = last_low f s h up in omega (arith, low, later)) h.sized
  sound_kept s _ (Follow sender m u new w up later) h =
      enters s (merged_vector s.vector u me) w s.log [] (let low = last_low f s h up in omega (arith, low, later)) (merged_size s sender m u h new)
  sound_kept s _ (Answer sender b new normal same) h =
      record {
        sized = merged_size s sender _ b.vector h new;
        normal =
            h.normal;
        changing = h.changing;
        rejoining = h.rejoining;
        rejoining_last = h.rejoining_last;
      }
  sound_kept s _ (Collect sender b new may base on) h =
      enters s _ b.view s.log _ (collects_low s b.view b.vector base h may.up on) (merged_size s sender _ b.vector h new)
  sound_kept s _ (Begin sender b new may base on full) h = starts s _ b.view _ _ _ _ (merged_size s sender _ b.vector h new)
  sound_kept s _ (Start sender b new may) h = starts s _ b.view _ _ s.ack s.reports (merged_size s sender _ b.vector h new)
  sound_kept s _ (Fall is) h = crashed_sound f
  sound_kept s _ (Wake nonce is down) h = restarted_sound f nonce
  sound_kept s _ (HearVector sender b new ours) h = rejoins_on s _ _ _ _ h ours (merged_size s sender _ b.vector h new)
  sound_kept s _ (Count sender b new ours enough) h =
      rejoins_on s _ _ _ _ h ours (length-set (merged_vector s.vector b.vector me) me _ ∙ merged_size s sender _ b.vector h new)
  sound_kept s _ (HearView sender b new ours) h = rejoins_on s _ _ _ _ h ours (merged_size s sender _ b.vector h new)
  sound_kept s _ (Forget sender b new ours) h = rejoins_on s _ _ _ _ h ours (merged_size s sender _ b.vector h new)
  sound_kept s _ (AskLog sender b new ours enough) h = rejoins_on s _ _ _ _ h ours (merged_size s sender _ b.vector h new)
  sound_kept s _ (Return sender b new ours late leader) h = starts s _ b.view _ _ s.ack s.reports (merged_size s sender _ b.vector h new)
  sound_kept s _ (Back rejoining is) h =
      record { sized = h.sized; normal = h.normal; changing = h.changing; rejoining = h.rejoining; rejoining_last = h.rejoining_last }

  -- ---- within an incarnation

  -- no counter falls when a vector is merged
  pub merges : (s : ReplicaData) (sender : ℕ) (m : Message) (u : List ℕ) → me < replica_count f → IsSound f s → IsFresh heard s sender m u → (k : ℕ)
      → slice_index s.vector k ≤ slice_index (merged_vector s.vector u me) k
  merges s sender m u in_group h new k =
      let size = new_size f me heard s sender m u fit new in
      let own = h.sized in
      never_falls s.vector u me k (omega (arith, size, own)) (omega (arith, in_group, own))

  pub merges_own : (s : ReplicaData) (sender : ℕ) (m : Message) (u : List ℕ) → me < replica_count f → IsSound f s → IsFresh heard s sender m u
      → slice_index s.vector me ≡ slice_index (merged_vector s.vector u me) me
  merges_own s sender m u in_group h new =
      let size = new_size f me heard s sender m u fit new in
      let own = h.sized in
      sym (merged-own s.vector u me (omega (arith, size, own)) (omega (arith, in_group, own)))

  pub merges_in : (s : ReplicaData) (sender : ℕ) (m : Message) (u : List ℕ) → me < replica_count f → IsSound f s → IsFresh heard s sender m u
      → (k : ℕ) → ¬ (k ≡ me)
      → slice_index u k ≤ slice_index (merged_vector s.vector u me) k
  merges_in s sender m u in_group h new k other =
      let size = new_size f me heard s sender m u fit new in
      let own = h.sized in
      takes_in s.vector u me k (omega (arith, size, own)) (omega (arith, in_group, own)) other

  -- up before and after, with this vector
  goes_up : (s : ReplicaData) (a : Status) (w l : ℕ) (log : Log) (commit : ℕ) (ack v : List ℕ) (reports : List CollectedReport) → is_up s.status ≡ true
      → is_up a ≡ true
      → s.view ≤ w → s.last ≤ l
      → ((k : ℕ) → slice_index s.vector k ≤ slice_index v k) → slice_index s.vector me ≡ slice_index v me
      → Goes me s (law_state (record s { status = a; view = w; last = l; log = log; commit = commit; ack = ack; vector = v; reports = reports }))
  goes_up s a w l log commit ack v reports up after view last places own = record {
    down = up_not_down a after ∙ sym (up_not_down s.status up);
    view = view;
    last = last;
    places = λ k _. places k;
    nonce = refl;
    settled = λ h. h;
    own = λ _. own;
    own_up = λ _. own;
    stays_up = λ _. after;
  }

  -- rejoining before and after
  goes_back : (s : ReplicaData) (v : List ℕ) (r : Rejoin) → is_rejoining s.status ≡ true → ((k : ℕ) → ¬ (k ≡ me) → slice_index s.vector k ≤ slice_index v k)
      → r.nonce ≡ s.rejoin.nonce
      → (is_phase s.rejoin.phase phases.Vectors ≡ false → is_phase r.phase phases.Vectors ≡ false)
      → (is_phase s.rejoin.phase phases.Vectors ≡ false → slice_index s.vector me ≡ slice_index v me)
      → Goes me s (law_state (record s { vector = v; rejoin = r }))
  goes_back s v r rejoining places nonce settled own = record {
    down = refl;
    view = omega arith;
    last = omega arith;
    places = places;
    nonce = nonce;
    settled = settled;
    own = own;
    own_up = λ up. up_no_rejoin s.status up rejoining;
    stays_up = λ up. up;
  }

  unsettled : {X : Type 0} (s : ReplicaData) (n : ℕ) → Awaits phases.Vectors s n → Settled s → X
  unsettled s n ours settled = absurd (let a = ours.in_phase in cc)

  -- each outcome is a crash, a restart, or goes on within the incarnation
  pub course : (s t : ReplicaData) → me < replica_count f → IsSound f s → Outcome f me e heard s t → Course f me e s t
  course s _ in_group h Stays = GoesOn (goes_same me s s refl) (λ x y. up_no_rejoin s.status y x)
  course s _ in_group h (Release log normal more) =
      GoesOn (goes_up s s.status s.view s.last log s.commit s.ack s.vector s.reports (normal_up s.status normal) (normal_up s.status normal) (omega arith)
      (omega arith) (λ k. omega arith) refl) (λ x y. up_no_rejoin s.status y x)
  course s _ in_group h (Sync sender b new hears le log changed) =
      GoesOn (goes_up s s.status s.view s.last log _ s.ack _ s.reports (normal_up s.status hears.normal) (normal_up s.status hears.normal) (omega arith)
      (omega arith) (merges s sender _ b.vector in_group h new) (merges_own s sender _ b.vector in_group h new)) (λ x y. up_no_rejoin s.status y x)
  course s _ in_group h (Tally sender b is normal led same few) =
      GoesOn (goes_up s s.status s.view s.last s.log _ _ s.vector s.reports (normal_up s.status normal) (normal_up s.status normal) (omega arith)
      (omega arith) (λ k. omega arith) refl) (λ x y. up_no_rejoin s.status y x)
  course s _ in_group h (Merge sender m u new normal) =
      GoesOn (goes_up s s.status s.view s.last s.log s.commit s.ack _ s.reports (normal_up s.status normal) (normal_up s.status normal) (omega arith)
      (omega arith) (merges s sender m u in_group h new) (merges_own s sender m u in_group h new)) (λ x y. up_no_rejoin s.status y x)
  course s _ in_group h (Enter w up later log grown) =
      GoesOn (goes_up s ViewChange w s.last log s.commit s.ack s.vector [] up refl (omega (arith, later)) (omega arith) (λ k. omega arith) refl)
      (λ x y. up_no_rejoin s.status up x)
  course s _ in_group h (Follow sender m u new w up later) =
      GoesOn (goes_up s ViewChange w s.last s.log s.commit s.ack _ [] up refl (omega (arith, later)) (omega arith) (merges s sender m u in_group h new)
      (merges_own s sender m u in_group h new)) (λ x y. up_no_rejoin s.status up x)
  course s _ in_group h (Answer sender b new normal same) =
      GoesOn (goes_up s s.status s.view s.last s.log s.commit s.ack _ _ (normal_up s.status normal) (normal_up s.status normal) (omega arith) (omega arith)
      (merges s sender _ b.vector in_group h new) (merges_own s sender _ b.vector in_group h new)) (λ x y. up_no_rejoin s.status y x)
  course s _ in_group h (Collect sender b new may base on) =
      GoesOn (goes_up s ViewChange b.view s.last s.log s.commit s.ack _ _ may.up refl may.later (omega arith) (merges s sender _ b.vector in_group h new)
      (merges_own s sender _ b.vector in_group h new)) (λ x y. up_no_rejoin s.status may.up x)
  course s _ in_group h (Begin sender b new may base on full) =
      GoesOn (goes_up s Normal b.view b.view _ _ _ _ _ may.up refl may.later
      (let low = last_low f s h may.up in let later = may.later in omega (arith, low, later)) (merges s sender _ b.vector in_group h new)
      (merges_own s sender _ b.vector in_group h new)) (λ x y. up_no_rejoin s.status may.up x)
  course s _ in_group h (Start sender b new may) =
      GoesOn (goes_up s Normal b.view b.view _ _ _ _ _ may.up refl may.later
      (let low = last_low f s h may.up in let later = may.later in omega (arith, low, later)) (merges s sender _ b.vector in_group h new)
      (merges_own s sender _ b.vector in_group h new)) (λ x y. up_no_rejoin s.status may.up x)
  course s _ in_group h (Fall is) = Falls refl
  course s _ in_group h (Wake nonce is down) = Wakes nonce is down
  course s _ in_group h (HearVector sender b new ours) =
      GoesOn (goes_back s _ _ ours.rejoining (λ k _. merges s sender _ b.vector in_group h new k) refl (λ x. x)
      (λ _. merges_own s sender _ b.vector in_group h new)) (λ x y. up_no_rejoin s.status y x)
  course s _ in_group h (Count sender b new ours enough) =
      GoesOn (goes_back s _ _ ours.rejoining
      (λ k other. let up =
      merges s sender _ b.vector in_group h new k in let same =
      get_or-set_other (merged_vector s.vector b.vector me) me k (max s.rejoin.claim (slice_index b.vector me) + 1) 0 other in omega (arith, up, same))
      refl (λ _. refl) (λ x. unsettled s b.nonce ours x)) (λ x y. up_no_rejoin s.status y x)
  course s _ in_group h (HearView sender b new ours) =
      GoesOn (goes_back s _ _ ours.rejoining (λ k _. merges s sender _ b.vector in_group h new k) refl (λ x. x)
      (λ _. merges_own s sender _ b.vector in_group h new)) (λ x y. up_no_rejoin s.status y x)
  course s _ in_group h (Forget sender b new ours) =
      GoesOn (goes_back s _ _ ours.rejoining (λ k _. merges s sender _ b.vector in_group h new k) refl (λ x. x)
      (λ _. merges_own s sender _ b.vector in_group h new)) (λ x y. up_no_rejoin s.status y x)
  course s _ in_group h (AskLog sender b new ours enough) =
      GoesOn (goes_back s _ _ ours.rejoining (λ k _. merges s sender _ b.vector in_group h new k) refl (λ _. refl)
      (λ _. merges_own s sender _ b.vector in_group h new)) (λ x y. up_no_rejoin s.status y x)
  course s _ in_group h (Return sender b new ours late leader) = GoesOn (record {
    down = sym (rejoin_not_down s.status ours.rejoining);
    view = let zero_view = h.rejoining ours.rejoining in omega (arith, zero_view);
    last = let zero_last = h.rejoining_last ours.rejoining in omega (arith, zero_last);
    places = λ k _. merges s sender _ b.vector in_group h new k;
    nonce = refl;
    settled = λ x. x;
    own = λ _. merges_own s sender _ b.vector in_group h new;
    own_up = λ up. up_no_rejoin s.status up ours.rejoining;
    stays_up = λ _. refl;
  }) (λ _ _. refl)
  course s _ in_group h (Back rejoining is) =
      GoesOn (goes_back s s.vector _ rejoining (λ k _. omega arith) refl (λ _. refl) (λ _. refl)) (λ x y. up_no_rejoin s.status y x)
