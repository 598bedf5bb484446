-- The views that were told to a replica that rejoins.
use Rattle.std.proofs.Common.{◌≡◌, ℕ, ◌++◌, ◌≤◌, ◌<◌, Bool, true, not, eqb, List, [], ◌∷◌, map, length, refl, sym, subst, ◌∙◌, inl, inr, arith}
use Rattle.std.specs.Prelude.{slice_index}
use Rattle.std.specs.List.{filter}
use Rattle.nz_base.specs.Cluster.{replica_count, slow_size}
use Rattle.nz_cv.specs.Vectors.{is_stray, merged_vector}
use Rattle.nz_msg.specs.declared.message.RejoinTellBody.{RejoinTellBody}
use Rattle.nz_msg.specs.declared.message.Message.{Message}
use Rattle.nz_msg.specs.declared.message.Message.TheVariants as messages
use Rattle.nz_machine.specs.rules.State.{ReplicaData}
use Rattle.nz_machine.specs.declared.event.Event.{Event}
use Rattle.nz_machine.specs.declared.data.Status.{Status}
use Rattle.nz_machine.specs.declared.data.Phase.TheVariants as phases
use Rattle.nz_machine.specs.declared.data.Rejoin.{Rejoin}
use Rattle.nz_machine.specs.declared.data.CollectedReport.{CollectedReport}
use Rattle.nz_log.specs.Synced.{Log}
use Rattle.nz_machine.specs.declared.data.ToldView.{ToldView}
use Rattle.nz_machine.specs.rules.Replicas.{first_replica, is_rejoining, crashed_replica}
use Rattle.nz_machine.specs.rules.Rejoining.{restarted_replica, is_phase, with_tell}
use Rattle.nz_machine.specs.rules.Vectors.{with_vector}
use Rattle.nz_machine.proofs.facts.Guards.{IsFresh, Awaits}
use Rattle.nz_machine.specs.runs.World.{Has}
use Rattle.nz_machine.specs.runs.Hearing.{Heard}
use Rattle.nz_math.specs.Count.{AreDistinct}
use Rattle.nz_laws_cv.proofs.Outcomes.{law_state, Outcome, Stays, Release, Merge, Sync, Tally, Enter}
use Rattle.nz_laws_cv.proofs.Outcomes.{Follow, Answer, Collect, Begin, Start, Fall, Wake, HearVector, Count, HearView, Forget, AskLog, Return, Back}
use Rattle.nz_laws_cv.proofs.Hearing.{HearsFit}
use Rattle.nz_machine.proofs.runs.Runs.{has_split}
use Rattle.nz_laws_cv.proofs.Modes.{IsSound, not_stray, is_phase_is, merges, merges_in, normal_no_rejoin}
use Rattle.nz_machine.proofs.lists.Distinct.{distinct_filter, distinct_replace}
use Rattle.nz_laws_cv.proofs.Lists.{filter_has, above_each}
use Rattle.nz_laws_cv.proofs.Tellers.{HearsSent}

-- what a replica told, with its number
abbrev pub sender_of : ToldView → ℕ
sender_of t = t.sender

abbrev told_view : ℕ → RejoinTellBody → ToldView
told_view sender b = record { sender = sender; view = b.view; vector = b.vector }

abbrev pub tell_of : ℕ → ToldView → Message
tell_of nonce t = messages.RejoinTell (record { nonce = nonce; view = t.view; vector = t.vector })

-- phases apart
log_not_vectors : {X : Type 0} (r : Rejoin) → is_phase r.phase phases.Log ≡ true → is_phase r.phase phases.Vectors ≡ true → X
log_not_vectors r h k = absurd (let e = is_phase_is r.phase phases.Log h in let d = is_phase_is r.phase phases.Vectors k in let c = sym e ∙ d in cc)

views_not_log : {X : Type 0} (r : Rejoin) → is_phase r.phase phases.Views ≡ true → is_phase r.phase phases.Log ≡ true → X
views_not_log r h k = absurd (let e = is_phase_is r.phase phases.Views h in let d = is_phase_is r.phase phases.Log k in let c = sym e ∙ d in cc)

views_not_vectors : {X : Type 0} (r : Rejoin) → is_phase r.phase phases.Views ≡ true → is_phase r.phase phases.Vectors ≡ true → X
views_not_vectors r h k = absurd (let e = is_phase_is r.phase phases.Views h in let d = is_phase_is r.phase phases.Vectors k in let c = sym e ∙ d in cc)

module _ (f me : ℕ) (Sent : ℕ → Message → Type 0) where
  pub record IsToldView (nonce : ℕ) (v : List ℕ) (t : ToldView) : Type 0 where
    pub below : t.sender < replica_count f
    pub other : ¬ (t.sender ≡ me)
    pub sent : Sent t.sender (tell_of nonce t)
    pub merged_in : (k : ℕ) → ¬ (k ≡ me) → slice_index t.vector k ≤ slice_index v k

  pub record HasTells (s : ReplicaData) : Type 0 where
    pub distinct : AreDistinct (map sender_of s.rejoin.tells)
    pub each : (t : ToldView) → Has s.rejoin.tells t → IsToldView s.rejoin.nonce s.vector t
    pub fresh : is_rejoining s.status ≡ true → (t : ToldView) → Has s.rejoin.tells t → slice_index s.vector t.sender ≤ slice_index t.vector t.sender
    pub consistent : (t u : ToldView) → Has s.rejoin.tells t → Has s.rejoin.tells u → slice_index t.vector u.sender ≤ slice_index u.vector u.sender
    pub enough : is_phase s.rejoin.phase phases.Log ≡ true → slow_size f ≤ length s.rejoin.tells
    pub wanted : is_phase s.rejoin.phase phases.Log ≡ true → (t : ToldView) → Has s.rejoin.tells t → t.view ≤ s.rejoin.wanted
    pub none_yet : is_phase s.rejoin.phase phases.Vectors ≡ true → s.rejoin.tells ≡ []

  -- nothing is collected
  nothing : (s : ReplicaData) → s.rejoin.tells ≡ [] → (is_phase s.rejoin.phase phases.Log ≡ true → ⊥) → HasTells s
  nothing s none not_log =
      let empty : (t : ToldView) → Has s.rejoin.tells t → ⊥ = λ t has. subst (λ (ts : List ToldView). Has ts t) none has in
      record {
        distinct = subst (λ (ts : List ToldView). AreDistinct (map sender_of ts)) (sym none) tt;
        each = λ t has. absurd (empty t has);
        fresh = λ _ t has. absurd (empty t has);
        consistent = λ t u has _. absurd (empty t has);
        enough = λ log. absurd (not_log log);
        wanted = λ log. absurd (not_log log);
        none_yet = λ _. none;
      }

  pub first_tells : HasTells (law_state (first_replica f))
  first_tells = nothing (law_state (first_replica f)) refl (λ h. cc)

  -- a rule of a replica that is up, or comes up
  up_tells : (s : ReplicaData) (a : Status) (w l : ℕ) (log : Log) (commit : ℕ) (ack v : List ℕ) (reports : List CollectedReport) → (is_rejoining a ≡ true → ⊥)
      → ((k : ℕ) → slice_index s.vector k ≤ slice_index v k) → HasTells s
      → HasTells (law_state (record s { status = a; view = w; last = l; log = log; commit = commit; ack = ack; vector = v; reports = reports }))
  up_tells s a w l log commit ack v reports up grows h = record {
    distinct = h.distinct;
    each = λ t has. let k =
        h.each t has in record {
          below =
              k.below;
          other = k.other;
          sent = k.sent;
          merged_in = λ i other. let p = k.merged_in i other in let q = grows i in omega (arith, p, q);
        };
    fresh = λ rejoins. absurd (up rejoins);
    consistent = h.consistent;
    enough = h.enough;
    wanted = h.wanted;
    none_yet = h.none_yet;
  }

  module _ (e : Event) (heard : Heard) (fit : HearsFit f me heard) (sent : HearsSent Sent me heard) (in_group : me < replica_count f) where
    grows : (s : ReplicaData) (sender : ℕ) (m : Message) (u : List ℕ) → IsSound f s → IsFresh heard s sender m u → (k : ℕ)
        → slice_index s.vector k ≤ slice_index (merged_vector s.vector u me) k
    grows s sender m u sound new k = merges f me e heard fit s sender m u in_group sound new k

    -- the views after one more was told
    pub record Heard_views (nonce : ℕ) (v : List ℕ) (tells : List ToldView) : Type 0 where
      pub distinct : AreDistinct (map sender_of tells)
      pub each : (t : ToldView) → Has tells t → IsToldView nonce v t
      pub fresh : (t : ToldView) → Has tells t → slice_index v t.sender ≤ slice_index t.vector t.sender

    one_of : (s : ReplicaData) (sender : ℕ) (b : RejoinTellBody) → IsSound f s → HasTells s → IsFresh heard s sender (messages.RejoinTell b) b.vector
        → Awaits phases.Views s b.nonce
        → (t : ToldView) → Has (filter (λ x. not (eqb x.sender sender)) s.rejoin.tells ++ told_view sender b ∷ []) t
        → IsToldView s.rejoin.nonce (merged_vector s.vector b.vector me) t
    one_of s sender b sound h new ours t has = elim (has_split (filter (λ x. not (eqb x.sender sender)) s.rejoin.tells) (told_view sender b ∷ []) t has) [
      | inl old ↦
          let k = h.each t (filter_has (λ (x : ToldView). not (eqb x.sender sender)) s.rejoin.tells t old).among in
          record {
            below = k.below;
            other =
                k.other;
            sent = k.sent;
            merged_in =
                λ i other. let p = k.merged_in i other in let q = grows s sender _ b.vector sound new i in omega (arith, p, q);
          }
      | inr (inl is) ↦ subst (IsToldView s.rejoin.nonce (merged_vector s.vector b.vector me)) is (record {
        below = (fit.hears sender _ new.is).below;
        other = (fit.hears sender _ new.is).other;
        sent = subst (λ (n : ℕ). Sent sender (messages.RejoinTell (record { nonce = n; view = b.view; vector = b.vector }))) ours.same
            (sent.sent sender _ new.is);
        merged_in = λ i other. merges_in f me e heard fit s sender _ b.vector in_group sound new i other;
      })
      | inr (inr none) ↦ absurd none
    ]

    heard_views : (s : ReplicaData) (sender : ℕ) (b : RejoinTellBody) → IsSound f s → HasTells s → IsFresh heard s sender (messages.RejoinTell b) b.vector
        → Awaits phases.Views s b.nonce
        → Heard_views s.rejoin.nonce (merged_vector s.vector b.vector me) (with_tell (with_vector me s b.vector) sender b).rejoin.tells
    heard_views s sender b sound h new ours =
        let v = merged_vector s.vector b.vector me in
        let test : ToldView → Bool = λ t. not (is_stray t.vector t.sender v) in
        record {
          distinct = distinct_filter sender_of test _ (distinct_replace sender_of s.rejoin.tells (told_view sender b) h.distinct);
          each = λ t has. one_of s sender b sound h new ours t (filter_has test _ t has).among;
          fresh = λ t has. not_stray t.vector v t.sender (filter_has test _ t has).passes;
        }

    -- they are crash-consistent
    consistent_views : (nonce : ℕ) (v : List ℕ) (tells : List ToldView) → Heard_views nonce v tells → (t u : ToldView) → Has tells t → Has tells u
        → slice_index t.vector u.sender ≤ slice_index u.vector u.sender
    consistent_views nonce v tells h t u has_t has_u =
        let low = (h.each t has_t).merged_in u.sender (h.each u has_u).other in
        let high = h.fresh u has_u in
        omega (arith, low, high)

    pub tells_kept : (s t : ReplicaData) → IsSound f s → Outcome f me e heard s t → HasTells s → HasTells t
    tells_kept s _ sound Stays h = h
    tells_kept s _ sound (Release log normal more) h =
        up_tells s s.status s.view s.last log s.commit s.ack s.vector s.reports (λ r. normal_no_rejoin s.status normal r) (λ k. omega arith) h
    tells_kept s _ sound (Sync sender b new hears le log changed) h =
        up_tells s s.status s.view s.last log _ s.ack _ s.reports (λ r. normal_no_rejoin s.status hears.normal r) (grows s sender _ b.vector sound new) h
    tells_kept s _ sound (Tally sender b is normal led same few) h =
        up_tells s s.status s.view s.last s.log _ _ s.vector s.reports (λ r. normal_no_rejoin s.status normal r) (λ k. omega arith) h
    tells_kept s _ sound (Merge sender m u new normal) h =
        up_tells s s.status s.view s.last s.log s.commit s.ack _ s.reports (λ r. normal_no_rejoin s.status normal r) (grows s sender m u sound new) h
    tells_kept s _ sound (Enter w up later log grown) h = up_tells s _ w s.last log s.commit s.ack s.vector _ (λ r. cc) (λ k. omega arith) h
    tells_kept s _ sound (Follow sender m u new w up later) h = up_tells s _ w s.last s.log s.commit s.ack _ _ (λ r. cc) (grows s sender m u sound new) h
    tells_kept s _ sound (Answer sender b new normal same) h =
        up_tells s s.status s.view s.last s.log s.commit s.ack _ _ (λ r. normal_no_rejoin s.status normal r) (grows s sender _ b.vector sound new) h
    tells_kept s _ sound (Collect sender b new may base on) h = up_tells s _ b.view s.last s.log s.commit s.ack _ _ (λ r. cc)
        (grows s sender _ b.vector sound new) h
    tells_kept s _ sound (Begin sender b new may base on full) h = up_tells s _ b.view b.view _ _ _ _ _ (λ r. cc) (grows s sender _ b.vector sound new) h
    tells_kept s _ sound (Start sender b new may) h = up_tells s _ b.view b.view _ _ _ _ _ (λ r. cc) (grows s sender _ b.vector sound new) h
    tells_kept s _ sound (Fall is) h = nothing (law_state (crashed_replica f)) refl (λ x. cc)
    tells_kept s _ sound (Wake nonce is down) h = nothing (law_state (restarted_replica f nonce)) refl (λ x. cc)
    tells_kept s _ sound (HearVector sender b new ours) h = nothing _ (h.none_yet ours.in_phase) (λ log. log_not_vectors s.rejoin log ours.in_phase)
    tells_kept s _ sound (Count sender b new ours many) h = nothing _ refl (λ x. cc)
    tells_kept s _ sound (HearView sender b new ours) h =
        let views = heard_views s sender b sound h new ours in
        record {
          distinct = views.distinct;
          each = views.each;
          fresh = λ _. views.fresh;
          consistent = consistent_views s.rejoin.nonce _ _ views;
          enough = λ log. views_not_log s.rejoin ours.in_phase log;
          wanted = λ log. views_not_log s.rejoin ours.in_phase log;
          none_yet = λ first. views_not_vectors s.rejoin ours.in_phase first;
        }
    tells_kept s _ sound (Forget sender b new ours) h = nothing _ refl (λ log. views_not_log s.rejoin ours.in_phase log)
    tells_kept s _ sound (AskLog sender b new ours many) h =
        let views = heard_views s sender b sound h new ours in
        record {
          distinct = views.distinct;
          each = views.each;
          fresh = λ _. views.fresh;
          consistent = consistent_views s.rejoin.nonce _ _ views;
          enough = λ _. many;
          wanted = λ _ t has. above_each (λ (x : ToldView). x.view) _ t has;
          none_yet = λ first. absurd cc;
        }
    tells_kept s _ sound (Return sender b new ours late leader) h = up_tells s _ b.view b.view _ _ _ _ _ (λ r. cc) (grows s sender _ b.vector sound new) h
    tells_kept s _ sound (Back rejoining is) h = nothing _ refl (λ x. cc)

-- what was sent stays sent
pub tells_stay : (f me : ℕ) (P Q : ℕ → Message → Type 0) → ((y : ℕ) (m : Message) → P y m → Q y m) → (s : ReplicaData)
    → HasTells f me P s → HasTells f me Q s
tells_stay f me P Q more s h = record {
  distinct = h.distinct;
  each = λ t has. let k = h.each t has in record { below = k.below; other = k.other; sent = more _ _ k.sent; merged_in = k.merged_in };
  fresh = h.fresh;
  consistent = h.consistent;
  enough = h.enough;
  wanted = h.wanted;
  none_yet = h.none_yet;
}
