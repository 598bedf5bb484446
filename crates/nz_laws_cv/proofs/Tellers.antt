-- Who told its vector in the first phase of a rejoin, and the own counter from the second phase on.
use Rattle.std.proofs.Common.{◌≡◌, ℕ, ◌+◌, ◌≤◌, ◌<◌, Bool, true, false, cond, eqb, List, [], ◌∷◌, ◌++◌, length}
use Rattle.std.proofs.Common.{max, Some, refl, sym, ap, subst, ◌∙◌, inl, inr, ◌⊎◌, arith, eqb-true}
use Rattle.std.proofs.lemmas.Bool.{or_cases}
use Rattle.std.specs.Prelude.{slice_index}
use Rattle.std.specs.List.{list_any}
use Rattle.std.proofs.lemmas.List.{get_or-set_same}
use Rattle.nz_base.specs.Cluster.{replica_count, slow_size}
use Rattle.nz_base.specs.declared.actor.Actor.TheVariants.{Replica}
use Rattle.nz_base.proofs.Booleans.{true_and_false}
use Rattle.nz_cv.specs.Vectors.{merged_vector}
use Rattle.nz_msg.specs.declared.message.VectorTellBody.{VectorTellBody}
use Rattle.nz_msg.specs.declared.message.Message.{Message}
use Rattle.nz_msg.specs.declared.message.Message.TheVariants as messages
use Rattle.nz_machine.specs.rules.State.{ReplicaData}
use Rattle.nz_machine.specs.declared.event.Event.{Event}
use Rattle.nz_machine.specs.declared.data.Phase.TheVariants as phases
use Rattle.nz_machine.specs.rules.Replicas.{first_replica, crashed_replica}
use Rattle.nz_machine.specs.rules.Rejoining.{restarted_replica, is_phase, with_teller}
use Rattle.nz_machine.proofs.facts.Guards.{IsFresh, Awaits}
use Rattle.nz_machine.specs.runs.Hearing.{Heard}
use Rattle.nz_math.specs.Count.{is_in, AreDistinct}
use Rattle.nz_laws_cv.proofs.Outcomes.{law_state, Outcome, Stays, Release, Merge, Sync, Tally, Enter, Follow, Answer}
use Rattle.nz_laws_cv.proofs.Outcomes.{Collect, Begin, Start, Fall, Wake, HearVector, Count, HearView, Forget, AskLog, Return, Back}
use Rattle.nz_laws_cv.proofs.Hearing.{HearsFit}
use Rattle.nz_laws_cv.proofs.Modes.{IsSound, Settled, is_phase_is, merges_own, sound_kept}
use Rattle.nz_machine.proofs.lists.Distinct.{any_in}
use Rattle.nz_math.proofs.Counting.{is_in-append, distinct-append}

-- what is heard was sent
pub record HearsSent (Sent : ℕ → Message → Type 0) (me : ℕ) (heard : Heard) : Type 0 where
  pub sent : (y : ℕ) (m : Message) → heard ≡ Some (Replica y, m) → Sent y m

-- phases apart
pub log_settled : (s : ReplicaData) → is_phase s.rejoin.phase phases.Log ≡ true → Settled s
log_settled s h = let e = is_phase_is s.rejoin.phase phases.Log h in ap (λ p. is_phase p phases.Vectors) e

pub views_settled : (s : ReplicaData) → is_phase s.rejoin.phase phases.Views ≡ true → Settled s
views_settled s h = let e = is_phase_is s.rejoin.phase phases.Views h in ap (λ p. is_phase p phases.Vectors) e

module _ (f me : ℕ) (Sent : ℕ → Message → Type 0) where
  -- this replica told its vector, to the nonce
  pub record IsTeller (nonce claim y : ℕ) : Type 0 where
    pub below : y < replica_count f
    pub other : ¬ (y ≡ me)
    pub vector : List ℕ
    pub sent : Sent y (messages.VectorTell (record { nonce = nonce; vector = vector }))
    pub low : slice_index vector me ≤ claim

  pub record HasTellers (s : ReplicaData) : Type 0 where
    pub distinct : AreDistinct s.rejoin.tellers
    pub told : (y : ℕ) → is_in s.rejoin.tellers y ≡ true → IsTeller s.rejoin.nonce s.rejoin.claim y
    pub counted : Settled s → slow_size f ≤ length s.rejoin.tellers
    pub counter : Settled s → slice_index s.vector me ≡ s.rejoin.claim + 1

  pub first_tellers : HasTellers (law_state (first_replica f))
  first_tellers = record { distinct = tt; told = λ y h. absurd cc; counted = λ h. absurd cc; counter = λ h. absurd cc }

  crashed_tellers : HasTellers (law_state (crashed_replica f))
  crashed_tellers = record { distinct = tt; told = λ y h. absurd cc; counted = λ h. absurd cc; counter = λ h. absurd cc }

  restarted_tellers : (nonce : ℕ) → HasTellers (law_state (restarted_replica f nonce))
  restarted_tellers nonce = record { distinct = tt; told = λ y h. absurd cc; counted = λ h. absurd cc; counter = λ h. absurd cc }

  -- a rule that leaves tellers, claim and nonce
  pub record LeavesTellers (s t : ReplicaData) : Type 0 where
    pub tellers : t.rejoin.tellers ≡ s.rejoin.tellers
    pub claim : t.rejoin.claim ≡ s.rejoin.claim
    pub nonce : t.rejoin.nonce ≡ s.rejoin.nonce
    pub settled : Settled t → Settled s
    pub own : slice_index s.vector me ≡ slice_index t.vector me

  leaves : (s t : ReplicaData) → LeavesTellers s t → HasTellers s → HasTellers t
  leaves s t l h = record {
    distinct = subst AreDistinct (sym l.tellers) h.distinct;
    told = λ y has. let k = h.told y (sym (ap (λ xs. is_in xs y) l.tellers) ∙ has) in record {
      below = k.below;
      other = k.other;
      vector = k.vector;
      sent = subst (λ (n : ℕ). Sent y (messages.VectorTell (record { nonce = n; vector = k.vector }))) (sym l.nonce) k.sent;
      low = let low = k.low in let same = l.claim in omega (arith, low, same);
    };
    counted = λ set. let most = h.counted (l.settled set) in let same = ap length l.tellers in omega (arith, most, same);
    counter = λ set. let is = h.counter (l.settled set) in let same = l.claim in let own = l.own in omega (arith, is, same, own);
  }

  -- one more teller
  more_by : (xs : List ℕ) (y : ℕ) (b : Bool) → is_in xs y ≡ b → AreDistinct xs → AreDistinct (cond b xs (xs ++ y ∷ []))
  more_by xs y true e d = d
  more_by xs y false e d = distinct-append xs y d e

  more_distinct : (s : ReplicaData) (y : ℕ) (u : List ℕ) → AreDistinct s.rejoin.tellers → AreDistinct (with_teller me s y u).rejoin.tellers
  more_distinct s y u d =
      let xs = s.rejoin.tellers in
      subst (λ (b : Bool). AreDistinct (cond b xs (xs ++ y ∷ []))) (sym (any_in xs y)) (more_by xs y (is_in xs y) refl d)

  more_in_by : (xs : List ℕ) (y x : ℕ) (b : Bool) → is_in (cond b xs (xs ++ y ∷ [])) x ≡ true → (is_in xs x ≡ true) ⊎ (y ≡ x)
  more_in_by xs y x true h = inl h
  more_in_by xs y x false h = elim (or_cases (is_in xs x) (is_in (y ∷ []) x) (sym (is_in-append xs (y ∷ []) x) ∙ h)) [
    | inl a ↦ inl a
    | inr b ↦ elim (or_cases (eqb y x) false b) [ inl c ↦ inr (eqb-true y x c) | inr d ↦ absurd cc ]
  ]

  more_in : (s : ReplicaData) (y : ℕ) (u : List ℕ) (x : ℕ) → is_in (with_teller me s y u).rejoin.tellers x ≡ true → (is_in s.rejoin.tellers x ≡ true) ⊎ (y ≡ x)
  more_in s y u x h = more_in_by s.rejoin.tellers y x (list_any (λ t. eqb t y) s.rejoin.tellers) h

  -- the teller that is heard
  hears_teller : (heard : Heard) (s : ReplicaData) (sender : ℕ) (b : VectorTellBody) → HearsFit f me heard → HearsSent Sent me heard
      → IsFresh heard s sender (messages.VectorTell b) b.vector → Awaits phases.Vectors s b.nonce
      → IsTeller s.rejoin.nonce (max s.rejoin.claim (slice_index b.vector me)) sender
  hears_teller heard s sender b fit sent new ours = record {
    below = (fit.hears sender _ new.is).below;
    other = (fit.hears sender _ new.is).other;
    vector = b.vector;
    sent = subst (λ (n : ℕ). Sent sender (messages.VectorTell (record { nonce = n; vector = b.vector }))) ours.same (sent.sent sender _ new.is);
    low = omega arith;
  }

  more_told : (s : ReplicaData) (sender : ℕ) (u : List ℕ) → HasTellers s → IsTeller s.rejoin.nonce (max s.rejoin.claim (slice_index u me)) sender
      → (y : ℕ) → is_in (with_teller me s sender u).rejoin.tellers y ≡ true → IsTeller s.rejoin.nonce (max s.rejoin.claim (slice_index u me)) y
  more_told s sender u h one y has = elim (more_in s sender u y has) [
    | inl old ↦ let k = h.told y old in record {
      below =
          k.below;
      other = k.other;
      vector = k.vector;
      sent = k.sent;
      low = let low = k.low in omega (arith, low);
    }
    | inr is ↦ subst (IsTeller s.rejoin.nonce (max s.rejoin.claim (slice_index u me))) is one
  ]

  module _ (e : Event) (heard : Heard) (fit : HearsFit f me heard) (sent : HearsSent Sent me heard) (in_group : me < replica_count f) where
    own : (s : ReplicaData) (sender : ℕ) (m : Message) (u : List ℕ) → IsSound f s → IsFresh heard s sender m u
        → slice_index s.vector me ≡ slice_index (merged_vector s.vector u me) me
    own s sender m u sound new = merges_own f me e heard fit s sender m u in_group sound new

    pub tellers_kept : (s t : ReplicaData) → IsSound f s → Outcome f me e heard s t → HasTellers s → HasTellers t
    tellers_kept s _ sound Stays h = h
    tellers_kept s _ sound (Release log normal more) h = leaves s _ (record { tellers = refl; claim = refl; nonce = refl; settled = λ x. x; own = refl }) h
    tellers_kept s _ sound (Sync sender b new hears le log changed) h =
        leaves s _ (record { tellers = refl; claim = refl; nonce = refl; settled = λ x. x; own = own s sender _ b.vector sound new }) h
    tellers_kept s _ sound (Tally sender b is normal led same few) h = leaves s _
        (record { tellers = refl; claim = refl; nonce = refl; settled = λ x. x; own = refl }) h
    tellers_kept s _ sound (Merge sender m u new normal) h =
        leaves s _ (record { tellers = refl; claim = refl; nonce = refl; settled = λ x. x; own = own s sender m u sound new }) h
    tellers_kept s _ sound (Enter w up later log grown) h = leaves s _ (record { tellers = refl; claim = refl; nonce = refl; settled = λ x. x; own = refl }) h
    tellers_kept s _ sound (Follow sender m u new w up later) h =
        leaves s _ (record { tellers = refl; claim = refl; nonce = refl; settled = λ x. x; own = own s sender m u sound new }) h
    tellers_kept s _ sound (Answer sender b new normal same) h =
        leaves s _ (record { tellers = refl; claim = refl; nonce = refl; settled = λ x. x; own = own s sender _ b.vector sound new }) h
    tellers_kept s _ sound (Collect sender b new may base on) h =
        leaves s _ (record { tellers = refl; claim = refl; nonce = refl; settled = λ x. x; own = own s sender _ b.vector sound new }) h
    tellers_kept s _ sound (Begin sender b new may base on full) h =
        leaves s _ (record { tellers = refl; claim = refl; nonce = refl; settled = λ x. x; own = own s sender _ b.vector sound new }) h
    tellers_kept s _ sound (Start sender b new may) h =
        leaves s _ (record { tellers = refl; claim = refl; nonce = refl; settled = λ x. x; own = own s sender _ b.vector sound new }) h
    tellers_kept s _ sound (Fall is) h = crashed_tellers
    tellers_kept s _ sound (Wake nonce is down) h = restarted_tellers nonce
    tellers_kept s _ sound (HearVector sender b new ours) h = record {
      distinct = more_distinct s sender b.vector h.distinct;
      told = more_told s sender b.vector h (hears_teller heard s sender b fit sent new ours);
      counted = λ set. true_and_false _ ours.in_phase set;
      counter = λ set. true_and_false _ ours.in_phase set;
    }
    tellers_kept s t sound (Count sender b new ours enough) h = record {
      distinct = more_distinct s sender b.vector h.distinct;
      told = more_told s sender b.vector h (hears_teller heard s sender b fit sent new ours);
      counted = λ _. enough;
      counter = λ _. get_or-set_same (merged_vector s.vector b.vector me) me (max s.rejoin.claim (slice_index b.vector me) + 1) 0
          (let size = (sound_kept f me e heard fit s _ (HearVector sender b new ours) sound).sized in omega (arith, size, in_group));
    }
    tellers_kept s _ sound (HearView sender b new ours) h =
        leaves s _ (record { tellers = refl; claim = refl; nonce = refl; settled = λ x. x; own = own s sender _ b.vector sound new }) h
    tellers_kept s _ sound (Forget sender b new ours) h =
        leaves s _ (record { tellers = refl; claim = refl; nonce = refl; settled = λ x. x; own = own s sender _ b.vector sound new }) h
    tellers_kept s _ sound (AskLog sender b new ours enough) h =
        leaves s _ (record {
          tellers =
              refl;
          claim = refl;
          nonce = refl;
          settled = λ _. views_settled s ours.in_phase;
          own = own s sender _ b.vector sound new;
        }) h
    tellers_kept s _ sound (Return sender b new ours late leader) h =
        leaves s _ (record { tellers = refl; claim = refl; nonce = refl; settled = λ x. x; own = own s sender _ b.vector sound new }) h
    tellers_kept s _ sound (Back rejoining is) h =
        leaves s _ (record { tellers = refl; claim = refl; nonce = refl; settled = λ _. log_settled s is; own = refl }) h

-- what was sent stays sent
pub tellers_stay : (f me : ℕ) (P Q : ℕ → Message → Type 0) → ((y : ℕ) (m : Message) → P y m → Q y m) → (s : ReplicaData)
    → HasTellers f me P s → HasTellers f me Q s
tellers_stay f me P Q more s h = record {
  distinct = h.distinct;
  told = λ y has. let k = h.told y has in record { below = k.below; other = k.other; vector = k.vector; sent = more _ _ k.sent; low = k.low };
  counted = h.counted;
  counter = h.counter;
}
