-- Begins: from whose reports, and that who is Normal in a view above 0 finds it begun.
use Rattle.std.proofs.Common.{◌≡◌, ℕ, ◌<◌, Bool, true, false, ◌&&◌, not, eqb, List, [], ◌∷◌, length}
use Rattle.std.proofs.Common.{map, refl, sym, ap, subst, ◌∙◌, inl, inr, arith, eqb-true, eq-eqb}
use Rattle.std.proofs.lemmas.Bool.{and_parts, and_from, cases_Bool, or_cases, not-true}
use Rattle.std.specs.Prelude.{slice_index}
use Rattle.std.proofs.lemmas.List.{length-map}
use Rattle.nz_base.specs.Cluster.{replica_count, leader_of}
use Rattle.nz_base.specs.declared.actor.Actor.TheVariants.{Replica}
use Rattle.nz_base.proofs.Booleans.{true_and_false}
use Rattle.nz_msg.specs.declared.message.Message.TheVariants as messages
use Rattle.nz_machine.specs.declared.event.Record.{Record}
use Rattle.nz_machine.specs.rules.State.{Group, ReplicaData}
use Rattle.nz_machine.specs.rules.Replicas.{is_normal}
use Rattle.nz_machine.specs.runs.World.{World}
use Rattle.nz_machine.specs.runs.Incarnations.{replica_at}
use Rattle.nz_machine.specs.runs.Leading.{is_normal_in, is_led}
use Rattle.nz_machine.specs.runs.Begun.{begins, report_parcel, IsReported, IsMemberOf}
use Rattle.nz_math.specs.Count.{is_in, IsChoice}
use Rattle.nz_math.specs.Quorum.{group_size, slow_quorum}
use Rattle.nz_base.specs.Moments.{At}
use Rattle.nz_laws_cv.specs.Notions.{IsHeldByMany}
use Rattle.nz_laws_cv.specs.Ground.{IsReport, IsBegin, HasModes, Ground}
use Rattle.nz_laws_cv.specs.Views.{HasViews}
use Rattle.nz_laws_cv.specs.Members.{IsReportedTo}
use Rattle.nz_laws_cv.proofs.Whole.{views}
use Rattle.nz_machine.proofs.facts.Guards.{normal_up}
use Rattle.nz_laws_cv.proofs.OutcomeRules.{up_kinds, changing_up, heard_by}
use Rattle.nz_laws_cv.proofs.Hearing.{hears_fit}
use Rattle.nz_laws_cv.proofs.Steps.{law_state_at, Acts, Rests, steps}
use Rattle.nz_base.proofs.Moments.{at_self, at_then}
use Rattle.nz_machine.proofs.runs.Moments.{at_world}
use Rattle.nz_laws_cv.proofs.WithinIncarnation.{sound_at, in_group, inc_grows, inc_first, first_state}
use Rattle.nz_laws_cv.proofs.SentShows.{letter, Shows, shows_at, shows_before, sent_at, was_sent}
use Rattle.nz_machine.proofs.runs.Sources.{source_is, has_source}
use Rattle.nz_laws_cv.proofs.Lists.{in_map}
use Rattle.nz_laws_cv.proofs.Reports.{AreReports, collected, reporter, report_message}
use Rattle.nz_laws_cv.proofs.Collected.{Sent, collected_later, collected_at, hears_sent, IsBegun}
use Rattle.nz_laws_cv.proofs.Collected.{Arrives, Was, Starts, Returns, arrives, own_zero}
use Rattle.nz_laws_cv.proofs.Collected as arrivals
use Rattle.nz_laws_cv.proofs.ViewNotions.{Begins, notions}
use Rattle.nz_laws_cv.proofs.Grounds.{later_at, stays_at, claimed_at, completion_at}

pub normal_in_is : (v : ℕ) (s : ReplicaData) → is_normal_in v s ≡ true → (is_normal s.status ≡ true) × (s.view ≡ v)
normal_in_is v s h = ((and_parts (is_normal s.status) (eqb s.view v) h).0, eqb-true s.view v (and_parts (is_normal s.status) (eqb s.view v) h).1)

pub is_in_view : (v : ℕ) (s : ReplicaData) → is_normal s.status ≡ true → s.view ≡ v → is_normal_in v s ≡ true
is_in_view v s normal view = and_from (is_normal s.status) (eqb s.view v) normal (eq-eqb s.view v view)

-- ---- the begin

-- what a record that begins a view finds
pub record IsTurning (g : Group) (w : ℕ) (B : List Record) : Type 0 where
  pub newest : Record
  pub older : List Record
  pub is : B ≡ newest ∷ older
  pub led : is_led g w (newest ∷ older) ≡ true
  pub not_led : is_led g w older ≡ false

pub turning_is : (g : Group) (w : ℕ) (B : List Record) → 0 < w → begins g w B ≡ true → IsTurning g w B
turning_is g w [] some h = absurd (let e = eqb-true w 0 h in omega (arith, e, some))
turning_is g w (r ∷ K) some h = record {
  newest = r;
  older = K;
  is = refl;
  led = (and_parts (not (is_led g w K)) (is_led g w (r ∷ K)) h).1;
  not_led = not-true (is_led g w K) (and_parts (not (is_led g w K)) (is_led g w (r ∷ K)) h).0;
}

-- the record is a begin: who follows another one does not lead
begun_by : (g : Group) (w : ℕ) (r : Record) (K : List Record) → is_led g w (r ∷ K) ≡ true → is_led g w K ≡ false
    → Arrives g.f (leader_of g.f w) r.event (heard_by g (leader_of g.f w) r.event)
    (law_state_at g (leader_of g.f w) K) (law_state_at g (leader_of g.f w) (r ∷ K))
    → IsBegun g.f (leader_of g.f w) r.event (heard_by g (leader_of g.f w) r.event)
    (law_state_at g (leader_of g.f w) K) (law_state_at g (leader_of g.f w) (r ∷ K))
begun_by g w r K led not_led (Was normal same) =
    let now = normal_in_is w (replica_at g (leader_of g.f w) (r ∷ K)) led in
    true_and_false (is_led g w K) (is_in_view w (replica_at g (leader_of g.f w) K) normal (same ∙ now.1)) not_led
begun_by g w r K led not_led (arrivals.Begins b) = b
begun_by g w r K led not_led (Starts sender b is leader view) =
    let now = normal_in_is w (replica_at g (leader_of g.f w) (r ∷ K)) led in
    absurd (((hears_fit g (leader_of g.f w) r.event).hears sender (messages.StartView b) is).other (leader ∙ ap (leader_of g.f) (sym view ∙ now.1)))
begun_by g w r K led not_led (Returns sender b is leader view) =
    let now = normal_in_is w (replica_at g (leader_of g.f w) (r ∷ K)) led in
    absurd (((hears_fit g (leader_of g.f w) r.event).hears sender (messages.StateTell b) is).other (leader ∙ ap (leader_of g.f) (sym view ∙ now.1)))

-- with the reports that it has collected then
pub record IsBeginOf (g : Group) (w : ℕ) (r : Record) (K : List Record) : Type 0 where
  pub reports : AreReports g.f (leader_of g.f w) (Sent (r ∷ K) (leader_of g.f w)) w (replica_at g (leader_of g.f w) (r ∷ K)).vector
      (replica_at g (leader_of g.f w) (r ∷ K)).reports
  pub full : length (replica_at g (leader_of g.f w) (r ∷ K)).reports ≡ g.f

begin_acts : (g : Group) (w : ℕ) (r : Record) (K : List Record) → World g (r ∷ K) → Shows g (r ∷ K) → is_led g w (r ∷ K) ≡ true → is_led g w K ≡ false
    → r.actor ≡ Replica (leader_of g.f w)
    → IsBegun g.f (leader_of g.f w) r.event (heard_by g (leader_of g.f w) r.event)
    (law_state_at g (leader_of g.f w) K) (law_state_at g (leader_of g.f w) (r ∷ K))
    → IsBeginOf g w r K
begin_acts g w r K world h led not_led a b =
    let l = leader_of g.f w in
    let before = shows_before g r K h in
    let old = (collected_later g l r K (law_state_at g l K) (collected_at g l K world.1 before)).reports in
    let now = normal_in_is w (replica_at g l (r ∷ K)) led in
    let view : b.body.view ≡ w = sym (ap (λ (s : ReplicaData). s.view) b.is) ∙ now.1 in
    let all = collected g.f l (Sent (r ∷ K) l) r.event (heard_by g l r.event) (hears_fit g l r.event) (hears_sent g l r K world a)
    (in_group g l r.actor a world.0.member)
    (law_state_at g l K) b.sender b.body b.base (sound_at g K world.1 l) old b.new b.on in
    record {
      reports = subst (λ (v : ℕ). AreReports g.f l (Sent (r ∷ K) l) v (replica_at g l (r ∷ K)).vector (replica_at g l (r ∷ K)).reports) view
          (subst (λ (s : ReplicaData). AreReports g.f l (Sent (r ∷ K) l) b.body.view s.vector s.reports) (sym b.is) all);
      full = ap (λ (s : ReplicaData). length s.reports) b.is ∙ b.full;
    }

-- who leads now and did not before begins the view
pub begun_outcome : (g : Group) (w : ℕ) (r : Record) (K : List Record) → is_led g w (r ∷ K) ≡ true → is_led g w K ≡ false
    → IsBegun g.f (leader_of g.f w) r.event (heard_by g (leader_of g.f w) r.event)
    (law_state_at g (leader_of g.f w) K) (law_state_at g (leader_of g.f w) (r ∷ K))
begun_outcome g w r K led not_led =
    let l = leader_of g.f w in
    elim (steps g l r K) [
      | Acts a outcome ↦
          let now = normal_in_is w (replica_at g l (r ∷ K)) led in
          begun_by g w r K led not_led (arrives g.f l r.event (heard_by g l r.event) (law_state_at g l K) (law_state_at g l (r ∷ K)) outcome now.0)
      | Rests e same ↦ true_and_false (is_led g w K) (sym (ap (λ (s : ReplicaData). is_normal s.status && eqb s.view w) same) ∙ led) not_led
    ]

pub begin_of : (g : Group) (w : ℕ) (r : Record) (K : List Record) → World g (r ∷ K) → Shows g (r ∷ K) → is_led g w (r ∷ K) ≡ true → is_led g w K ≡ false
    → IsBeginOf g w r K
begin_of g w r K world h led not_led = elim (steps g (leader_of g.f w) r K) [
  | Acts a outcome ↦ begin_acts g w r K world h led not_led a (begun_outcome g w r K led not_led)
  | Rests e same ↦ true_and_false (is_led g w K) (sym (ap (λ (s : ReplicaData). is_normal s.status && eqb s.view w) same) ∙ led) not_led
]

module _ (g : Group) (J : List Record) (w : ℕ) (r : Record) (K : List Record) (world : World g (r ∷ K)) (shows : Shows g (r ∷ K))
    (led : is_led g w (r ∷ K) ≡ true) (not_led : is_led g w K ≡ false) where
  abbrev B : List Record
  B = r ∷ K

  abbrev l : ℕ
  l = leader_of g.f w

  of : IsBeginOf g w r K
  of = begin_of g w r K world shows led not_led

  now : (is_normal (replica_at g l B).status ≡ true) × ((replica_at g l B).view ≡ w)
  now = normal_in_is w (replica_at g l B) led

  others_below : (y : ℕ) → is_in (map reporter (replica_at g l B).reports) y ≡ true → (y < replica_count g.f) × (¬ (y ≡ l))
  others_below y has =
      let t = in_map reporter (replica_at g l B).reports y has in
      let k = of.reports.each t.item t.has in
      (subst (λ (z : ℕ). z < replica_count g.f) t.is k.below, subst (λ (z : ℕ). ¬ (z ≡ l)) t.is k.other)

  leader_out : is_in (map reporter (replica_at g l B).reports) l ≡ false
  leader_out = elim (cases_Bool (is_in (map reporter (replica_at g l B).reports) l)) [
    | inl among ↦ absurd ((others_below l among).1 refl)
    | inr out ↦ out
  ]

  leader_low : l < replica_count g.f
  leader_low = omega arith

  pub is_reported : IsReportedTo g w B
  is_reported = record {
    exact = of.full;
    senders = record { choice = record { distinct = of.reports.distinct; below = λ y has. (others_below y has).0 }; others = leader_out };
    sent = λ x has. has_source (letter x.report.sender l (report_message w x)) B (of.reports.each x has).sent.has;
  }

  member : (y : ℕ) → is_in (map reporter (replica_at g l B).reports) y ≡ true → (Q : List Record) × IsMemberOf g w B y Q
  member y has =
      let t = in_map reporter (replica_at g l B).reports y has in
      let from = is_reported.sent t.item t.has in
      (from.0, inr (record { report = t.item; used = t.has; sender = t.is; source = from.1 }))

  -- the members are different replicas
  pub choice_is : IsChoice (group_size g.f) (l ∷ map reporter (replica_at g l B).reports)
  choice_is = record {
    distinct = (leader_out, of.reports.distinct);
    below = λ y has. elim (or_cases (eqb l y) (is_in (map reporter (replica_at g l B).reports) y) has) [
      | inl is ↦ let e = eqb-true l y is in let low = leader_low in omega (arith, e, low)
      | inr among ↦ (others_below y among).0
    ];
  }

  pub full_is : length (l ∷ map reporter (replica_at g l B).reports) ≡ slow_quorum g.f
  full_is = let long = length-map (replica_at g l B).reports reporter in let full = of.full in omega (arith, long, full)

  pub members_are : IsHeldByMany g.f (IsMemberOf g w B)
  members_are = record {
    members = l ∷ map reporter (replica_at g l B).reports;
    choice = choice_is;
    enough = let full = full_is in omega (arith, full);
    each = λ y has. elim (or_cases (eqb l y) (is_in (map reporter (replica_at g l B).reports) y) has) [
      | inl is ↦ (B, inl (sym (eqb-true l y is), refl))
      | inr among ↦ member y among
    ];
  }

  reported_is : At J B → (y : ℕ) (Q : List Record) → IsReported g w B y Q → IsReport (notions g J) J w B y Q
  reported_is at y Q m =
      let k = of.reports.each m.report m.used in
      let s = source_is (report_parcel g w m.report) B Q m.source in
      let shown = shows.view_change m.report.report.sender l _ s.newest s.older s.at (record { has = s.sends; fits = k.sent.fits }) in
      let low = k.fresh in
      subst (λ (z : ℕ). IsReport (notions g J) J w B z Q) m.sender
      (subst (λ (x : List Record). IsReport (notions g J) J w B m.report.report.sender x) (sym s.is) (record {
        at = s.at;
        up = changing_up (replica_at g m.report.report.sender (s.newest ∷ s.older)).status shown.changing;
        view = shown.view;
        fresh = let same = ap (λ (v : List ℕ). slice_index v m.report.report.sender) shown.vector in omega (arith, low, same);
        merged = λ i other. let up =
            k.merged_in i (λ e. other (sym e)) in let same = ap (λ (v : List ℕ). slice_index v i) shown.vector in omega (arith, up, same);
        own = λ e. absurd (k.other (sym e));
      }))

  own_is : (y : ℕ) (Q : List Record) → y ≡ l → Q ≡ B → IsReport (notions g J) J w B y Q
  own_is y Q is_y is_q =
      subst (λ (z : ℕ). IsReport (notions g J) J w B z Q) (sym is_y) (subst (λ (x : List Record). IsReport (notions g J) J w B l x) (sym is_q) (record {
        at = at_self B;
        up = normal_up (replica_at g l B).status now.0;
        view = now.1;
        fresh = omega arith;
        merged = λ i other. omega arith;
        own = λ _. refl;
      }))

  report_is : At J B → (y : ℕ) (Q : List Record) → IsMemberOf g w B y Q → IsReport (notions g J) J w B y Q
  report_is at y Q (inl own) = own_is y Q own.0 own.1
  report_is at y Q (inr m) = reported_is at y Q m

  tail_is : (s : Record) (L : List Record) → r ∷ K ≡ s ∷ L → K ≡ L
  tail_is s L e = cc

  pub begin_is : At J B → IsBegin (notions g J) J w B
  begin_is at = record {
    at = at;
    leads = record { normal = now.0; view = now.1 };
    turns = λ s L e i.
        let back = sym (tail_is s L e) in
        true_and_false (is_led g w K) (subst (λ (x : List Record). is_led g w x ≡ true) back (is_in_view w (replica_at g l L) i.normal i.view)) not_led;
    members = members_are;
    report = report_is at;
  }

pub begin_at : (g : Group) (J : List Record) → World g J → Shows g J → (w : ℕ) (B : List Record) → Begins g J w B → IsBegin (notions g J) J w B
begin_at g J w h v B b =
    let i = turning_is g v B b.later b.is in
    let at : At J (i.newest ∷ i.older) = subst (At J) i.is b.at in
    subst (λ (x : List Record). IsBegin (notions g J) J v x) (sym i.is)
    (begin_is g J v i.newest i.older (at_world g J (i.newest ∷ i.older) w at) (shows_at g J (i.newest ∷ i.older) h at) i.led i.not_led at)

-- ---- views have begun

pub record IsBegunBefore (g : Group) (v : ℕ) (K : List Record) : Type 0 where
  pub moment : List Record
  pub at : At K moment
  pub is : begins g v moment ≡ true

begun_later : (g : Group) (v : ℕ) (J K : List Record) → At J K → IsBegunBefore g v K → IsBegunBefore g v J
begun_later g v J K at b = record { moment = b.moment; at = at_then J K b.moment at b.at; is = b.is }

-- who is Normal in a later view at some moment so far
abbrev AreBegun : Group → List Record → Type 0
AreBegun g J = (K : List Record) → At J K → (x v : ℕ) → is_normal (replica_at g x K).status ≡ true → (replica_at g x K).view ≡ v → 0 < v → IsBegunBefore g v K

module _ (g : Group) (r : Record) (J : List Record) (world : World g (r ∷ J)) (shows : Shows g (r ∷ J)) (old : AreBegun g J) where
  older_one : (x v : ℕ) → is_normal (replica_at g x J).status ≡ true → (replica_at g x J).view ≡ v → 0 < v → IsBegunBefore g v (r ∷ J)
  older_one x v normal view some = begun_later g v (r ∷ J) J (inr (at_self J)) (old J (at_self J) x v normal view some)

  at_source : (y v : ℕ) (s : Record) (L : List Record) → At J (s ∷ L) → is_normal (replica_at g y (s ∷ L)).status ≡ true → (replica_at g y (s ∷ L)).view ≡ v
      → 0 < v → IsBegunBefore g v (r ∷ J)
  at_source y v s L at normal view some = begun_later g v (r ∷ J) (s ∷ L) (inr at) (old (s ∷ L) at y v normal view some)

  begins_now : (x v : ℕ) → leader_of g.f v ≡ x → is_normal (replica_at g x (r ∷ J)).status ≡ true → (replica_at g x (r ∷ J)).view ≡ v → 0 < v → (b : Bool)
      → is_led g v J ≡ b → IsBegunBefore g v (r ∷ J)
  begins_now x v leads normal view some true was =
      let before = normal_in_is v (replica_at g (leader_of g.f v) J) was in older_one (leader_of g.f v) v before.0 before.1 some
  begins_now x v leads normal view some false was =
      let led : is_led g v (r ∷ J) ≡ true =
      subst (λ (z : ℕ). is_normal_in v (replica_at g z (r ∷ J)) ≡ true) (sym leads) (is_in_view v (replica_at g x (r ∷ J)) normal view) in
      record { moment = r ∷ J; at = at_self (r ∷ J); is = and_from (not (is_led g v J)) (is_led g v (r ∷ J)) (ap not was) led }

  arrived : (x v : ℕ) → r.actor ≡ Replica x → is_normal (replica_at g x (r ∷ J)).status ≡ true → (replica_at g x (r ∷ J)).view ≡ v → 0 < v
      → Arrives g.f x r.event (heard_by g x r.event) (law_state_at g x J) (law_state_at g x (r ∷ J)) → IsBegunBefore g v (r ∷ J)
  arrived x v a normal view some (Was before same) = older_one x v before (same ∙ view) some
  arrived x v a normal view some (arrivals.Begins b) =
      let is : b.body.view ≡ v = sym (ap (λ (s : ReplicaData). s.view) b.is) ∙ view in
      begins_now x v (sym (ap (leader_of g.f) is) ∙ b.may.leads) normal view some (is_led g v J) refl
  arrived x v a normal view some (Starts sender b is leader same) =
      let sent = was_sent g x r J world a sender (messages.StartView b) is in
      let s = sent_at sender x (messages.StartView b) J sent in
      let shown = (shows_before g r J shows).start_view sender x b s.record_of s.older s.at s.sends in
      at_source sender v s.record_of s.older s.at shown.normal (shown.view ∙ sym same ∙ view) some
  arrived x v a normal view some (Returns sender b is leader same) =
      let sent = was_sent g x r J world a sender (messages.StateTell b) is in
      let s = sent_at sender x (messages.StateTell b) J sent in
      let shown = (shows_before g r J shows).state_tell sender x b s.record_of s.older s.at s.sends in
      at_source sender v s.record_of s.older s.at shown.normal (shown.view ∙ sym same ∙ view) some

  newest_begun : (x v : ℕ) → is_normal (replica_at g x (r ∷ J)).status ≡ true → (replica_at g x (r ∷ J)).view ≡ v → 0 < v → IsBegunBefore g v (r ∷ J)
  newest_begun x v normal view some = elim (steps g x r J) [
    | Acts a outcome ↦ arrived x v a normal view some
        (arrives g.f x r.event (heard_by g x r.event) (law_state_at g x J) (law_state_at g x (r ∷ J)) outcome normal)
    | Rests e same ↦ older_one x v (sym (ap (λ (s : ReplicaData). is_normal s.status) same) ∙ normal) (sym (ap (λ (s : ReplicaData). s.view) same) ∙ view) some
  ]

  all_begun : AreBegun g (r ∷ J)
  all_begun K (inl is) x v normal view some =
      subst (IsBegunBefore g v) (sym is)
      (newest_begun x v (sym (ap (λ (L : List Record). is_normal (replica_at g x L).status) is) ∙ normal)
      (sym (ap (λ (L : List Record). (replica_at g x L).view) is) ∙ view) some)
  all_begun K (inr at) x v normal view some = old K at x v normal view some

pub are_begun : (g : Group) (J : List Record) → World g J → Shows g J → AreBegun g J
are_begun g [] w h = λ K at x v normal view some.
    absurd (let zero_view : (replica_at g x K).view ≡ 0 =
    ap (λ (L : List Record). (replica_at g x L).view) at ∙ ap (λ (s : ReplicaData). s.view) (first_state g x) in omega (arith, zero_view, view, some))
are_begun g (r ∷ J) w h = all_begun g r J w h (are_begun g J w.1 (shows_before g r J h))

-- ---- the ground

pub modes_at : (g : Group) (J : List Record) → World g J → Shows g J → HasModes (notions g J) J
modes_at g J w h = record {
  normal_up = λ x K normal. normal_up (replica_at g x K).status normal;
  first = λ x. inc_first g x;
  grows = λ x K L at then. inc_grows g x L K (at_world g J L w at) then;
  stays = stays_at g J w;
  mode = λ x K at normal. (sound_at g K (at_world g J K w at) x).normal normal;
  changing = λ x K at up. elim (up_kinds (replica_at g x K).status up)
      [ inl normal ↦ inl normal | inr changing ↦ inr ((sound_at g K (at_world g J K w at) x).changing changing) ];
  later = later_at g J w;
  begun = λ x v K at i some. let b =
      are_begun g J w h K at x v i.normal i.view some in (b.moment, record { at = at_then J K b.moment at b.at; later = some; is = b.is }, b.at);
}

-- every run has the ground of the laws on views
pub ground : (g : Group) (J : List Record) → World g J → Shows g J → Ground (notions g J) J
ground g J w h = record {
  modes = modes_at g J w h;
  own_zero = λ x K at up none. own_zero g x K (at_world g J K w at) up none;
  claimed = claimed_at g J w h;
  completion = completion_at g J w h;
  begin = begin_at g J w h;
}

-- knowledge and views, of every run
pub views_at : (g : Group) (J : List Record) → World g J → Shows g J → HasViews (notions g J) J
views_at g J w h = views (notions g J) J (ground g J w h)
