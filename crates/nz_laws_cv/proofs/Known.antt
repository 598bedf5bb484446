-- Knowledge and views of the machine, in its own words.
use Rattle.std.proofs.Common.{◌≡◌, ℕ, zero, suc, ◌≤◌, ◌<◌, true, not, List, [], ◌∷◌, length, refl, sym, ap, subst, ◌∙◌, inl, inr, ◌⊎◌, arith}
use Rattle.std.proofs.lemmas.Bool.{cases_lt, and_parts, not-true}
use Rattle.nz_base.specs.Cluster.{leader_of}
use Rattle.nz_base.proofs.Booleans.{true_and_false}
use Rattle.nz_machine.specs.declared.event.Record.{Record}
use Rattle.nz_machine.specs.rules.State.{Group}
use Rattle.nz_machine.specs.rules.Replicas.{is_normal, is_up}
use Rattle.nz_machine.specs.runs.World.{World}
use Rattle.nz_machine.specs.runs.Incarnations.{replica_at, incarnation, completes}
use Rattle.nz_machine.specs.runs.Leading.{is_led}
use Rattle.nz_machine.specs.runs.Begun.{begins, Views}
use Rattle.nz_machine.specs.runs.Knowledge.{Knowledge}
use Rattle.nz_base.specs.Moments.{At}
use Rattle.nz_laws_cv.specs.Views.{HasViews}
use Rattle.nz_laws_cv.specs.Members.{IsAnswered, KnownSince, IsReportedTo}
use Rattle.nz_base.proofs.Moments.{at_order, at_shorter, at_tail, at_self}
use Rattle.nz_machine.proofs.facts.Guards.{normal_up}
use Rattle.nz_machine.proofs.runs.Moments.{at_world}
use Rattle.nz_laws_cv.proofs.Modes.{up_no_rejoin, rejoin_not_down}
use Rattle.nz_laws_cv.proofs.WithinIncarnation.{inc_grows, goes_far}
use Rattle.nz_laws_cv.proofs.SentShows.{Shows}
use Rattle.nz_laws_cv.proofs.Showing.{shows}
use Rattle.nz_laws_cv.proofs.ViewNotions.{Completes, Uses, notions}
use Rattle.nz_laws_cv.proofs.Knowing.{has_counter}
use Rattle.nz_laws_cv.proofs.Grounds.{completing_is, is_answered}
use Rattle.nz_laws_cv.proofs.Beginnings.{normal_in_is, is_in_view, turning_is, is_reported, ground, views_at}

lower_by : (a b : ℕ) → a ≤ b → (a ≡ b → ⊥) → (a < b) ⊎ (a ≡ b) → a < b
lower_by a b le apart (inl lt) = lt
lower_by a b le apart (inr same) = absurd (apart same)

lower : (a b c : ℕ) → a ≤ b → b ≤ c → (a ≡ b → ⊥) → a < c
lower a b c low high apart =
    let lt = lower_by a b low apart (elim (cases_lt a b) [ inl lt ↦ inl lt | inr ge ↦ inr (omega (arith, low, ge)) ]) in
    omega (arith, lt, high)

-- a later completion is of a later incarnation
completes_later : (g : Group) (J : List Record) → World g J → (m : ℕ) (C D : List Record) → At J C → At J D → completes g m C ≡ true
    → completes g m D ≡ true → length C < length D → incarnation g m C < incarnation g m D
completes_later g J w m C D at_c at_d c d shorter =
    let i = completing_is g m C c in
    let j = completing_is g m D d in
    let at_j : At J (j.newest ∷ j.older) = subst (At J) j.is at_d in
    let long = ap length j.is in
    let before : At j.older C = at_order J C j.older at_c (at_tail J j.newest j.older at_j) (omega (arith, shorter, long)) in
    let world = at_world g J (j.newest ∷ j.older) w at_j in
    let up : is_up (replica_at g m C).status ≡ true =
    normal_up (replica_at g m C).status (subst (λ (x : List Record). is_normal (replica_at g m x).status ≡ true) (sym i.is) i.after) in
    let low = inc_grows g m j.older C world.1 before in
    let high = inc_grows g m (j.newest ∷ j.older) j.older world (inr (at_self j.older)) in
    let top = ap (incarnation g m) j.is in
    let apart : incarnation g m C ≡ incarnation g m j.older → ⊥ = λ same.
    up_no_rejoin (replica_at g m j.older).status
    ((goes_far g m j.older C world.1 before same (rejoin_not_down (replica_at g m j.older).status j.before)).stays_up up) j.before in
    lower (incarnation g m C) (incarnation g m j.older) (incarnation g m D) low (omega (arith, high, top)) apart

pub knowledge_at : (g : Group) (J : List Record) → World g J → Shows g J → Knowledge g J
knowledge_at g J w h =
    let v = views_at g J w h in
    let up_at : (m : ℕ) (C : List Record) → completes g m C ≡ true → is_up (replica_at g m C).status ≡ true =
    λ m C c. let i = completing_is g m C c in normal_up (replica_at g m C).status
    (subst (λ (x : List Record). is_normal (replica_at g m x).status ≡ true) (sym i.is) i.after) in
    record {
      rise = λ m C D at_c at_d c d shorter. v.rise m C D at_c at_d (up_at m C c) (up_at m D d) (completes_later g J w m C D at_c at_d c d shorter);
      known = λ m C S K t at_c at_k c has from up later. v.know m t.sender C S K (record { at = at_c; is = c })
          (record { told = t; used = has; sender = refl; from = from }) at_k up later;
    }

-- no record begins view 0
zero_once : (g : Group) (J : List Record) → HasViews (notions g J) J → (B : List Record) → At J B → begins g 0 B ≡ true → B ≡ []
zero_once g J v [] at h = refl
zero_once g J v (r ∷ K) at h =
    let led = (and_parts (not (is_led g 0 K)) (is_led g 0 (r ∷ K)) h).1 in
    let not_led = not-true (is_led g 0 K) (and_parts (not (is_led g 0 K)) (is_led g 0 (r ∷ K)) h).0 in
    let now = normal_in_is 0 (replica_at g (leader_of g.f 0) (r ∷ K)) led in
    elim (v.begins_once 0 r K at (record { normal = now.0; view = now.1 })) [
      | inl b ↦ absurd (let none = b.later in omega (arith, none))
      | inr was ↦ true_and_false (is_led g 0 K) (is_in_view 0 (replica_at g (leader_of g.f 0) K) was.0.normal was.0.view) not_led
    ]

module _ (g : Group) (J : List Record) (w : World g J) (v : HasViews (notions g J) J) where
  once_at : (n : ℕ) (B C : List Record) → At J B → At J C → begins g n B ≡ true → begins g n C ≡ true → B ≡ C
  once_at zero B C at_b at_c b c = zero_once g J v B at_b b ∙ sym (zero_once g J v C at_c c)
  once_at (suc n) B C at_b at_c b c = v.once (suc n) B C (record { at = at_b; later = omega arith; is = b }) (record { at = at_c; later = omega arith; is = c })

  reported_at : (n m : ℕ) (B S C : List Record) → At J B → At J C → begins g n B ≡ true → (notions g J).Reports n B m S → completes g m C ≡ true
      → incarnation g m S < incarnation g m C → n ≤ (replica_at g m C).view
  reported_at zero m B S C at_b at_c b r c later = omega arith
  reported_at (suc n) m B S C at_b at_c b r c later =
      v.member m (suc n) C B S (record { at = at_c; is = c }) (record { at = at_b; later = omega arith; is = b }) r later

  leader_at_once : (n : ℕ) (B K : List Record) → At J B → At J K → begins g n B ≡ true → is_led g n K ≡ true
      → incarnation g (leader_of g.f n) K ≤ incarnation g (leader_of g.f n) B
  leader_at_once zero B K at_b at_k b led =
      let now = normal_in_is 0 (replica_at g (leader_of g.f 0) K) led in
      let none = v.leader_of_zero K at_k (record { normal = now.0; view = now.1 }) in
      omega (arith, none)
  leader_at_once (suc n) B K at_b at_k b led =
      let now = normal_in_is (suc n) (replica_at g (leader_of g.f (suc n)) K) led in
      let same = v.leader_is_one (suc n) B K (record { at = at_b; later = omega arith; is = b }) at_k (record { normal = now.0; view = now.1 }) in
      omega (arith, same)

pub views_of : (g : Group) (J : List Record) → World g J → Shows g J → Views g J
views_of g J w h =
    let v = views_at g J w h in
    record {
      once = λ n B C at_b at_c b c. once_at g J w v n B C at_b at_c b c;
      reported = λ n m B S C at_b at_c b r c later. reported_at g J w v n m B S C at_b at_c b r c later;
      was_normal = λ n m K C at_k at_c normal c later.
          let now = normal_in_is n (replica_at g m K) normal in
          v.was_normal m n K C at_k (record { normal = now.0; view = now.1 }) (record { at = at_c; is = c }) later;
      leader_is_one = λ n B K at_b at_k b led. leader_at_once g J w v n B K at_b at_k b led;
    }

-- ---- of every run

pub has_views : (g : Group) (J : List Record) → World g J → HasViews (notions g J) J
has_views g J w = views_at g J w (shows g J w)

-- in the incarnation that answered the counter stays, and later ones know it
pub known_since : (g : Group) (J : List Record) → World g J → KnownSince g J
known_since g J w m C S K t at_c at_k c has from later up =
    let done : Completes g J m C = record { at = at_c; is = c } in
    let used : Uses g m C t.sender S = record { told = t; used = has; sender = refl; from = from } in
    has_counter (notions g J) J (ground g J w (shows g J w)) m t.sender C S K done used at_k up (at_shorter K S later)
    (λ more. (has_views g J w).know m t.sender C S K done used at_k up more)

pub answered_at : (g : Group) (J C : List Record) (m : ℕ) → World g J → At J C → completes g m C ≡ true → IsAnswered g m C
answered_at g J C m w at c =
    let i = completing_is g m C c in
    let world = at_world g J (i.newest ∷ i.older) w (subst (At J) i.is at) in
    subst (IsAnswered g m) (sym i.is) (is_answered g J m i.newest i.older world (shows g (i.newest ∷ i.older) world) i.before i.after)

pub reported_to : (g : Group) (J B : List Record) (v : ℕ) → World g J → At J B → 0 < v → begins g v B ≡ true → IsReportedTo g v B
reported_to g J B v w at later b =
    let i = turning_is g v B later b in
    let world = at_world g J (i.newest ∷ i.older) w (subst (At J) i.is at) in
    subst (IsReportedTo g v) (sym i.is) (is_reported g J v i.newest i.older world (shows g (i.newest ∷ i.older) world) i.led i.not_led)
