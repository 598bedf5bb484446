-- The ground of knowledge and views, for every run of the machine whose messages show their senders' states.
use Rattle.std.proofs.Common.{◌≡◌, ℕ, ◌≤◌, ◌<◌, true, false, List, [], ◌∷◌, length, map, Some, refl, sym, ap, subst, ◌∙◌, inl, inr, ◌⊎◌, arith}
use Rattle.std.specs.Prelude.{slice_index}
use Rattle.std.proofs.lemmas.List.{length-map}
use Rattle.std.proofs.lemmas.Bool.{cases_Bool, cases_eq, and_parts, and_from}
use Rattle.nz_base.specs.Cluster.{replica_count, leader_of}
use Rattle.nz_base.specs.declared.actor.Actor.TheVariants.{Replica}
use Rattle.nz_msg.specs.declared.message.Message.TheVariants as messages
use Rattle.nz_machine.specs.declared.event.Parcel.{Parcel}
use Rattle.nz_machine.specs.declared.event.Record.{Record}
use Rattle.nz_machine.specs.rules.State.{ReplicaData, Group}
use Rattle.nz_machine.specs.declared.data.Phase.TheVariants as phases
use Rattle.nz_machine.specs.declared.data.Rejoin.{Rejoin}
use Rattle.nz_machine.specs.declared.data.ToldView.{ToldView}
use Rattle.nz_machine.specs.rules.Replicas.{is_normal}
use Rattle.nz_machine.specs.rules.Rejoining.{is_phase}
use Rattle.nz_machine.specs.runs.World.{Has, sent_in, World}
use Rattle.nz_machine.specs.runs.History.{source}
use Rattle.nz_machine.specs.runs.Incarnations.{replica_at, incarnation, completes}
use Rattle.nz_base.specs.Moments.{At}
use Rattle.nz_math.specs.Count.{is_in}
use Rattle.nz_laws_cv.specs.Notions.{IsHeldByMany}
use Rattle.nz_laws_cv.specs.Ground.{IsLater, StaysUp, IsUsed, IsCompletion}
use Rattle.nz_laws_cv.specs.Ground.{TellsVector}
use Rattle.nz_laws_cv.specs.Members.{IsAnswered}
use Rattle.nz_machine.proofs.facts.Guards.{normal_up}
use Rattle.nz_laws_cv.proofs.OutcomeRules.{heard_by}
use Rattle.nz_machine.proofs.runs.Runs.{FitsOut}
use Rattle.nz_laws_cv.proofs.Hearing.{hears_fit}
use Rattle.nz_laws_cv.proofs.Steps.{law_state_at}
use Rattle.nz_base.proofs.Moments.{at_self, at_then, at_shorter}
use Rattle.nz_machine.proofs.runs.Moments.{at_world}
use Rattle.nz_laws_cv.proofs.Modes.{up_not_down, rejoin_not_down}
use Rattle.nz_laws_cv.proofs.WithinIncarnation.{inc_grows, goes_far, same_nonce, nonce_at, down_at}
use Rattle.nz_laws_cv.proofs.SentShows.{letter, Shows, shows_at, IsSent, sent_at}
use Rattle.nz_machine.proofs.runs.Sources.{source_is, has_source, source_stays}
use Rattle.nz_laws_cv.proofs.Lists.{in_map}
use Rattle.nz_laws_cv.proofs.Tellers.{views_settled}
use Rattle.nz_laws_cv.proofs.ToldViews.{HasTells, sender_of, tell_of}
use Rattle.nz_laws_cv.proofs.Collected.{Sent, collected_at, IsReturn, completing, up_at, rejoining_at, rejoins_later, StayedUp, Rejoined, was_up, settled_later}
use Rattle.nz_laws_cv.proofs.ViewNotions.{Completes, Uses, notions}

-- ---- two moments of one incarnation

pub later_at : (g : Group) (J : List Record) → World g J → (x : ℕ) (K L : List Record) → At J L → At L K → incarnation g x K ≡ incarnation g x L
    → up_at g x K ≡ true → up_at g x L ≡ true → IsLater (notions g J) x K L
later_at g J w x K L at then same up_k up_l =
    let goes = goes_far g x L K (at_world g J L w at) then same (up_not_down (replica_at g x L).status up_l) in
    let own = goes.own_up up_k in
    record {
      view = goes.view;
      last = goes.last;
      places = λ k. elim (cases_eq k x) [
        | inl is ↦ subst (λ (p : ℕ). slice_index (replica_at g x K).vector p ≤ slice_index (replica_at g x L).vector p) (sym is) (omega (arith, own))
        | inr other ↦ goes.places k other
      ];
      own = own;
    }

completes_is : (g : Group) (x : ℕ) (r : Record) (K : List Record) → rejoining_at g x K ≡ true → is_normal (replica_at g x (r ∷ K)).status ≡ true
    → completes g x (r ∷ K) ≡ true
completes_is g x r K before normal = and_from (rejoining_at g x K) (is_normal (replica_at g x (r ∷ K)).status) before normal

pub stays_at : (g : Group) (J : List Record) → World g J → (x : ℕ) (r : Record) (K : List Record) → At J (r ∷ K) → up_at g x (r ∷ K) ≡ true
    → StaysUp (notions g J) x K (r ∷ K) ⊎ Completes g J x (r ∷ K)
stays_at g J w x r K at up = elim (was_up g x r K (at_world g J (r ∷ K) w at) up) [
  | StayedUp before inc goes ↦ inl (record { up = before; same = sym inc })
  | Rejoined before normal inc goes ↦ inr (record { at = at; is = completes_is g x r K before normal })
]

-- ---- answers are given within the incarnation that asked

-- what was asked with the nonce of an incarnation, and answered, was asked and answered in that incarnation
pub record IsInside (g : Group) (m : ℕ) (Q T K : List Record) : Type 0 where
  pub asked : incarnation g m Q ≡ incarnation g m K
  pub told : incarnation g m T ≡ incarnation g m K

-- asked and told with the same nonce, they are in the same incarnation
pub inside : (g : Group) (m : ℕ) (K T Q : List Record) → World g K → At K T → At T Q → down_at g m K ≡ false → 0 < incarnation g m K
    → rejoining_at g m Q ≡ true → nonce_at g m Q ≡ nonce_at g m K → IsInside g m Q T K
inside g m K T Q w at_t at_q up some rejoins nonce =
    let later = rejoins_later g m Q (at_world g T Q (at_world g K T w at_t) at_q) rejoins in
    let same = same_nonce g m K Q w (at_then K T Q at_t at_q) up (rejoin_not_down (replica_at g m Q).status rejoins) some later nonce in
    let low = inc_grows g m T Q (at_world g K T w at_t) at_q in
    let high = inc_grows g m K T w at_t in
    record { asked = same; told = omega (arith, same, low, high) }

-- a vector-tell
pub record ToldVector (g : Group) (y m : ℕ) (v : List ℕ) (K T : List Record) : Type 0 where
  pub at : At K T
  pub normal : is_normal (replica_at g y T).status ≡ true
  pub vector : (replica_at g y T).vector ≡ v
  pub inside : incarnation g m T ≡ incarnation g m K

pub told_vector : (g : Group) (y m : ℕ) (v : List ℕ) (K T : List Record) → World g K → Shows g K → down_at g m K ≡ false → 0 < incarnation g m K
    → FitsOut (Replica y) (Replica m, messages.VectorTell (record { nonce = nonce_at g m K; vector = v }))
    → source (letter y m (messages.VectorTell (record { nonce = nonce_at g m K; vector = v }))) K ≡ Some T → ToldVector g y m v K T
told_vector g y m v K T w h up some fits from =
    let s = source_is (letter y m (messages.VectorTell (record { nonce = nonce_at g m K; vector = v }))) K T from in
    let tells = h.vector_tell y m _ s.newest s.older s.at (record { has = s.sends; fits = fits }) in
    let q = sent_at m y (messages.VectorAsk (record { nonce = nonce_at g m K })) s.older tells.asked in
    let asks = h.vector_ask m y (record { nonce = nonce_at g m K }) q.record_of q.older
    (at_then K (s.newest ∷ s.older) (q.record_of ∷ q.older) s.at (inr q.at)) q.sends in
    let in_here = inside g m K (s.newest ∷ s.older) (q.record_of ∷ q.older) w s.at (inr q.at) up some asks.rejoining asks.nonce in
    subst (λ (x : List Record). ToldVector g y m v K x) (sym s.is) (record { at = s.at; normal = tells.normal; vector = tells.vector; inside = in_here.told })

-- a rejoin-tell, of a replica that knows the counter
pub record ToldViewOf (g : Group) (m : ℕ) (t : ToldView) (K T : List Record) : Type 0 where
  pub at : At K T
  pub normal : is_normal (replica_at g t.sender T).status ≡ true
  pub view : (replica_at g t.sender T).view ≡ t.view
  pub vector : (replica_at g t.sender T).vector ≡ t.vector
  pub inside : incarnation g m T ≡ incarnation g m K
  -- the own counter of who rejoins is known
  pub counter : slice_index (replica_at g m K).vector m ≤ slice_index (replica_at g t.sender T).vector m

pub told_view_of : (g : Group) (m : ℕ) (t : ToldView) (K T : List Record) → World g K → Shows g K → down_at g m K ≡ false → 0 < incarnation g m K
    → FitsOut (Replica t.sender) (Replica m, tell_of (nonce_at g m K) t)
    → source (letter t.sender m (tell_of (nonce_at g m K) t)) K ≡ Some T → ToldViewOf g m t K T
told_view_of g m t K T w h up some fits from =
    let s = source_is (letter t.sender m (tell_of (nonce_at g m K) t)) K T from in
    let tells = h.rejoin_tell t.sender m _ s.newest s.older s.at (record { has = s.sends; fits = fits }) in
    let q = sent_at m t.sender (messages.RejoinAsk (record { nonce = nonce_at g m K; vector = tells.ask })) s.older tells.asked in
    let Q = q.record_of ∷ q.older in
    let asks = h.rejoin_ask m t.sender (record { nonce = nonce_at g m K; vector = tells.ask }) q.record_of q.older
    (at_then K (s.newest ∷ s.older) Q s.at (inr q.at)) q.sends in
    let in_here = inside g m K (s.newest ∷ s.older) Q w s.at (inr q.at) up some asks.rejoining asks.nonce in
    let goes = goes_far g m K Q w (at_then K (s.newest ∷ s.older) Q s.at (inr q.at)) in_here.asked up in
    let own = goes.own (views_settled (law_state_at g m Q) asks.in_phase) in
    let asked = ap (λ (v : List ℕ). slice_index v m) asks.vector in
    let merged_own = tells.merged.places m tells.other in
    subst (λ (x : List Record). ToldViewOf g m t K x) (sym s.is) (record {
      at = s.at;
      normal = tells.normal;
      view = tells.view;
      vector = tells.vector;
      inside = in_here.told;
      counter = omega (arith, own, asked, merged_own);
    })

-- ---- the own counter was claimed

pub claimed_at : (g : Group) (J : List Record) → World g J → Shows g J → (x : ℕ) (K : List Record) → At J K → up_at g x K ≡ true → 0 < incarnation g x K
    → IsHeldByMany g.f (TellsVector (notions g J) x K)
claimed_at g J w h x K at up some =
    let world = at_world g J K w at in
    let shows = shows_at g J K h at in
    let c = (collected_at g x K world shows).tellers in
    let settled = settled_later g x K world up some in
    let counter = c.counter settled in
    record {
      members = (replica_at g x K).rejoin.tellers;
      choice = record { distinct = c.distinct; below = λ y has. (c.told y has).below };
      enough = c.counted settled;
      each = λ y has.
          let teller = c.told y has in
          let T = has_source (letter y x (messages.VectorTell (record { nonce = nonce_at g x K; vector = teller.vector }))) K teller.sent.has in
          let told = told_vector g y x teller.vector K T.0 world shows (up_not_down (replica_at g x K).status up) some teller.sent.fits T.1 in
          let same = ap (λ (v : List ℕ). slice_index v x) told.vector in
          let low = teller.low in (
            T.0,
            record {
              at = told.at;
              up = normal_up (replica_at g y T.0).status told.normal;
              inside = told.inside;
              below = omega (arith, same, low, counter);
            },
          );
    }

-- ---- a completion

-- what a completing record finds
pub record IsCompleting (g : Group) (m : ℕ) (C : List Record) : Type 0 where
  pub newest : Record
  pub older : List Record
  pub is : C ≡ newest ∷ older
  pub before : rejoining_at g m older ≡ true
  pub after : is_normal (replica_at g m (newest ∷ older)).status ≡ true

pub completing_is : (g : Group) (m : ℕ) (C : List Record) → completes g m C ≡ true → IsCompleting g m C
completing_is g m [] h = absurd cc
completing_is g m (r ∷ K) h = record {
  newest = r;
  older = K;
  is = refl;
  before = (and_parts (rejoining_at g m K) (is_normal (replica_at g m (r ∷ K)).status) h).0;
  after = (and_parts (rejoining_at g m K) (is_normal (replica_at g m (r ∷ K)).status) h).1;
}

-- a moment is a source in the run so far
source_before : (p : Parcel) (r : Record) (K T : List Record) → Has (sent_in K) p → source p (r ∷ K) ≡ Some T → source p K ≡ Some T
source_before p r K T has from =
    let k = has_source p K has in
    k.1 ∙ sym (source_stays p r K k.0 k.1) ∙ from

module _ (g : Group) (J : List Record) (m : ℕ) (r : Record) (K : List Record) (world : World g (r ∷ K)) (shows : Shows g (r ∷ K))
    (before : rejoining_at g m K ≡ true) (after : is_normal (replica_at g m (r ∷ K)).status ≡ true) where
  abbrev C : List Record
  C = r ∷ K

  up : up_at g m C ≡ true
  up = normal_up (replica_at g m C).status after

  not_down : down_at g m C ≡ false
  not_down = up_not_down (replica_at g m C).status up

  some : 0 < incarnation g m C
  some =
      let first = rejoins_later g m K world.1 before in
      let more = inc_grows g m C K world (inr (at_self K)) in
      omega (arith, first, more)

  done : IsReturn g.f m r.event (heard_by g m r.event) (law_state_at g m K) (law_state_at g m C)
  done = completing g m r K before after

  same_rejoin : (replica_at g m C).rejoin ≡ (replica_at g m K).rejoin
  same_rejoin = ap (λ (s : ReplicaData). s.rejoin) done.is

  in_log : is_phase (replica_at g m C).rejoin.phase phases.Log ≡ true
  in_log = ap (λ (x : Rejoin). is_phase x.phase phases.Log) same_rejoin ∙ done.ours.in_phase

  tells : HasTells g.f m (Sent C m) (law_state_at g m C)
  tells = (collected_at g m C world shows).tells

  -- it was sent before the completing record
  told_before : (t : ToldView) → Has (replica_at g m C).rejoin.tells t → IsSent K t.sender m (tell_of (nonce_at g m C) t)
  told_before t has =
      let old = (collected_at g m K world.1 (shows_at g C K shows (inr (at_self K)))).tells in
      let among = subst (λ (x : Rejoin). Has x.tells t) same_rejoin has in
      subst (λ (x : Rejoin). IsSent K t.sender m (tell_of x.nonce t)) (sym same_rejoin) ((old.each t among).sent)

  told_at : (t : ToldView) (T : List Record) → Has (replica_at g m C).rejoin.tells t → source (letter t.sender m (tell_of (nonce_at g m C) t)) C ≡ Some T
      → ToldViewOf g m t C T
  told_at t T has from = told_view_of g m t C T world shows not_down some (tells.each t has).sent.fits from

  pub used_is : At J C → (y : ℕ) (T : List Record) → Uses g m C y T → IsUsed (notions g J) J m C y T
  used_is at y T u =
      let told = told_at u.told T u.used u.from in
      let s = source_is (letter u.told.sender m (tell_of (nonce_at g m C) u.told)) K T (source_before _ r K T (told_before u.told u.used).has u.from) in
      let short = at_shorter K (s.newest ∷ s.older) s.at in
      let long = ap length s.is in
      let k = tells.each u.told u.used in
      let wanted = tells.wanted in_log u.told u.used in
      let late = done.late in
      let same_wanted = ap (λ (x : Rejoin). x.wanted) same_rejoin in
      let new_view : (replica_at g m C).view ≡ done.body.view = ap (λ (x : ReplicaData). x.view) done.is in
      let view = told.view in
      let counter = told.counter in
      subst (λ (z : ℕ). IsUsed (notions g J) J m C z T) u.sender (record {
        at = at_then J C T at told.at;
        before = omega (arith, short, long);
        up = normal_up (replica_at g u.told.sender T).status told.normal;
        inside = told.inside;
        counter = counter;
        view = omega (arith, view, wanted, late, same_wanted, new_view);
        merged = λ i other. let low =
            k.merged_in i (λ e. other (sym e)) in let same = ap (λ (v : List ℕ). slice_index v i) told.vector in omega (arith, low, same);
      })

  pub consistent_is : (y x : ℕ) (S T : List Record) → Uses g m C y S → Uses g m C x T
      → slice_index (replica_at g y S).vector x ≤ slice_index (replica_at g x T).vector x
  consistent_is y x S T a b =
      let low : slice_index a.told.vector x ≤ slice_index b.told.vector x =
      subst (λ (z : ℕ). slice_index a.told.vector z ≤ slice_index b.told.vector z) b.sender (tells.consistent a.told b.told a.used b.used) in
      let left : slice_index (replica_at g y S).vector x ≡ slice_index a.told.vector x =
      ap (λ (z : ℕ). slice_index (replica_at g z S).vector x) (sym a.sender)
      ∙ ap (λ (v : List ℕ). slice_index v x) (told_at a.told S a.used a.from).vector in
      let right : slice_index (replica_at g x T).vector x ≡ slice_index b.told.vector x =
      ap (λ (z : ℕ). slice_index (replica_at g z T).vector x) (sym b.sender)
      ∙ ap (λ (v : List ℕ). slice_index v x) (told_at b.told T b.used b.from).vector in
      omega (arith, low, left, right)

  -- the sender of an answer is another replica of the group
  sender_is : (y : ℕ) → is_in (map sender_of (replica_at g m C).rejoin.tells) y ≡ true → (y < replica_count g.f) × (¬ (y ≡ m))
  sender_is y has =
      let t = in_map sender_of (replica_at g m C).rejoin.tells y has in
      let k = tells.each t.item t.has in
      (subst (λ (z : ℕ). z < replica_count g.f) t.is k.below, subst (λ (z : ℕ). ¬ (z ≡ m)) t.is k.other)

  pub is_answered : IsAnswered g m C
  is_answered = record {
    enough = tells.enough in_log;
    senders = record {
      choice = record { distinct = tells.distinct; below = λ y has. (sender_is y has).0 };
      others = elim (cases_Bool (is_in (map sender_of (replica_at g m C).rejoin.tells) m)) [
        | inl among ↦ absurd ((sender_is m among).1 refl)
        | inr out ↦ out
      ];
    };
    sent = λ t has. has_source (letter t.sender m (tell_of (nonce_at g m C) t)) C (tells.each t has).sent.has;
  }

  pub answers_are : IsHeldByMany g.f (Uses g m C)
  answers_are = record {
    members = map sender_of (replica_at g m C).rejoin.tells;
    choice = is_answered.senders.choice;
    enough = let long = length-map (replica_at g m C).rejoin.tells sender_of in let many = is_answered.enough in omega (arith, long, many);
    each = λ y has.
        let t = in_map sender_of (replica_at g m C).rejoin.tells y has in
        let T = is_answered.sent t.item t.has in
        (T.0, record { told = t.item; used = t.has; sender = t.is; from = T.1 });
  }

  pub follows_is : ¬ (leader_of g.f (replica_at g m C).view ≡ m)
  follows_is = λ leads.
      let new_view : (replica_at g m C).view ≡ done.body.view = ap (λ (x : ReplicaData). x.view) done.is in
      ((hears_fit g m r.event).hears done.sender (messages.StateTell done.body) done.new.is).other (done.leader ∙ sym (ap (leader_of g.f) new_view) ∙ leads)

pub completion_at : (g : Group) (J : List Record) → World g J → Shows g J → (m : ℕ) (C : List Record) → Completes g J m C → IsCompletion (notions g J) J m C
completion_at g J w h m C c =
    let i = completing_is g m C c.is in
    let at : At J (i.newest ∷ i.older) = subst (At J) i.is c.at in
    let world = at_world g J (i.newest ∷ i.older) w at in
    let shows = shows_at g J (i.newest ∷ i.older) h at in
    subst (λ (x : List Record). IsCompletion (notions g J) J m x) (sym i.is) (record {
      at = at;
      normal = i.after;
      follows = follows_is g J m i.newest i.older world shows i.before i.after;
      answers = answers_are g J m i.newest i.older world shows i.before i.after;
      answer = used_is g J m i.newest i.older world shows i.before i.after at;
      consistent = consistent_is g J m i.newest i.older world shows i.before i.after;
    })
