-- One view: from what each record does, what is synced is the leader's, and what a record leaves of a prefix.
use Rattle.std.proofs.Common.{◌≡◌, ℕ, ◌<◌, ◌≤◌, Bool, true, false, cond, eqb, List, [], ◌∷◌, length, take}
use Rattle.std.proofs.Common.{Option, Some, None, refl, sym, ap, subst, ◌∙◌, arith, inl, inr, ◌⊎◌}
use Rattle.std.proofs.lemmas.Bool.{cases_eq, eq-eqb, cases_Bool}
use Rattle.std.proofs.lemmas.Option.{same_Some}
use Rattle.std.proofs.lemmas.List.{length-map}
use Rattle.std.specs.Option.{option_or}
use Rattle.nz_base.specs.declared.key.Key.{Key}
use Rattle.nz_base.specs.declared.key.Entry.{Entry}
use Rattle.nz_base.specs.Log.{keys_of}
use Rattle.nz_base.specs.Cluster.{leader_of}
use Rattle.nz_base.specs.Moments.{At}
use Rattle.nz_base.specs.Prefixes.{IsPrefix, Comparable}
use Rattle.nz_base.proofs.Moments.{at_self, at_then, at_tail}
use Rattle.nz_base.proofs.Prefixes.{prefix_same, prefix_then, prefix_take, prefix_length, take_of_prefix}
use Rattle.nz_laws_commit.specs.States.{Status, Normal, ViewChange, Rejoining, Down, IsUp, LogState, Machine}
use Rattle.nz_laws_commit.specs.Supports.{IsNormal, IsUpIn, keys_at}
use Rattle.nz_laws_commit.specs.Machines.{GroupStates, leads_by, lead_of, start_of, machine_of}
use Rattle.nz_laws_commit.specs.Does.{IsUnchanged, IsModified, Syncs, Does, Stays, Released, Entered}
use Rattle.nz_laws_commit.specs.Does.{Synced, Began, Adopted, Fell, Rose, VectorGrows, FollowsRules}
use Rattle.nz_laws_commit.proofs.RunLaws.{HasGrown, RecordLaws, RunLaws, StepLaws}
use Rattle.nz_laws_commit.proofs.Closing.{never_up, run_laws_of, start_step, start_stays, leads_test, lead_is, lead_step, lead_grows, starts}

up_of : (s : Status) → s ≡ Normal → IsUp s
up_of s e = subst IsUp (sym e) tt

up_change : (s : Status) → s ≡ ViewChange → IsUp s
up_change s e = subst IsUp (sym e) tt

unchanged : (s t : LogState) → t ≡ s → IsUnchanged s t
unchanged s t e = record {
  status = ap (λ (z : LogState). z.status) e;
  view = ap (λ (z : LogState). z.view) e;
  last = ap (λ (z : LogState). z.last) e;
  synced = ap (λ (z : LogState). z.synced) e;
  log = ap (λ (z : LogState). z.log) e;
}

module _ {R : Type 0} (g : GroupStates R) (J : List R) (m : FollowsRules g J) where
  abbrev M : Machine R
  M = machine_of g

  abbrev keys : ℕ → List R → List Key
  keys y K = keys_at M y K

  -- the keys that are synced
  abbrev part_of : ℕ → List R → List Key
  part_of y K = take (g.state y K).synced (keys y K)

  -- ---- who is Normal has its view as last view

  modes_step : (y : ℕ) (r : R) (K : List R) → Does g y r K → ((g.state y K).status ≡ Normal → (g.state y K).last ≡ (g.state y K).view)
      → (g.state y (r ∷ K)).status ≡ Normal → (g.state y (r ∷ K)).last ≡ (g.state y (r ∷ K)).view
  modes_step y r K (Stays d) rest n = d.last ∙ rest (sym d.status ∙ n) ∙ sym d.view
  modes_step y r K (Released d) rest n = d.last ∙ rest d.before ∙ sym d.view
  modes_step y r K (Entered d) rest n = absurd (let e : ViewChange ≡ Normal = sym d.after ∙ n in cc)
  modes_step y r K (Synced d) rest n = d.last ∙ rest d.before ∙ sym d.view
  modes_step y r K (Began d) rest n = d.last
  modes_step y r K (Adopted d) rest n = d.last
  modes_step y r K (Fell down) rest n = absurd (let e : Down ≡ Normal = sym down ∙ n in cc)
  modes_step y r K (Rose d) rest n = absurd (let e : Rejoining ≡ Normal = sym d.after ∙ n in cc)

  modes : (y : ℕ) (K : List R) → At J K → (g.state y K).status ≡ Normal → (g.state y K).last ≡ (g.state y K).view
  modes y [] at n = m.first_last y ∙ sym (m.first_view y)
  modes y (r ∷ K) at n = by_actor (cases_Bool (g.by r y)) (modes y K (at_tail J r K at))
    where
      by_actor : (g.by r y ≡ true) ⊎ (g.by r y ≡ false) → ((g.state y K).status ≡ Normal → (g.state y K).last ≡ (g.state y K).view)
          → (g.state y (r ∷ K)).last ≡ (g.state y (r ∷ K)).view
      by_actor (inl acts) rest = modes_step y r K (m.does y r K at acts) rest n
      by_actor (inr other) rest = modes_step y r K (Stays (unchanged (g.state y K) (g.state y (r ∷ K)) (m.stays y r K at other))) rest n

  -- ---- what the records do

  falls_step : (y : ℕ) (r : R) (K : List R) → Does g y r K → IsUp (g.state y K).status → IsUp (g.state y (r ∷ K)).status ⊎ ((g.state y (r ∷ K)).status ≡ Down)
  falls_step y r K (Stays d) up = inl (subst IsUp (sym d.status) up)
  falls_step y r K (Released d) up = inl (up_of (g.state y (r ∷ K)).status d.after)
  falls_step y r K (Entered d) up = inl (up_change (g.state y (r ∷ K)).status d.after)
  falls_step y r K (Synced d) up = inl (up_of (g.state y (r ∷ K)).status d.after)
  falls_step y r K (Began d) up = inl (up_of (g.state y (r ∷ K)).status d.after)
  falls_step y r K (Adopted d) up = inl (up_of (g.state y (r ∷ K)).status d.after)
  falls_step y r K (Fell down) up = inr down
  falls_step y r K (Rose d) up = never_up (g.state y K).status up d.before

  rests_step : (y : ℕ) (r : R) (K : List R) → Does g y r K → (g.state y K).status ≡ Down → ((g.state y (r ∷ K)).status ≡ Down) ⊎ (g.restarts r ≡ true)
  rests_step y r K (Stays d) down = inl (d.status ∙ down)
  rests_step y r K (Released d) down = absurd (let e : Normal ≡ Down = sym d.before ∙ down in cc)
  rests_step y r K (Entered d) down = never_up (g.state y K).status d.before down
  rests_step y r K (Synced d) down = absurd (let e : Normal ≡ Down = sym d.before ∙ down in cc)
  rests_step y r K (Began d) down = never_up (g.state y K).status d.before down
  rests_step y r K (Adopted d) down = absurd (d.before down)
  rests_step y r K (Fell now) down = inl now
  rests_step y r K (Rose d) down = inr d.event

  -- the log of who is up is at least as long as its synced part
  within : (y : ℕ) (K : List R) → At J K → IsUp (g.state y K).status → (g.state y K).synced ≤ length (keys y K)
  within y K at up =
      let sound = (m.base.facts y K at up).synced in
      let count = length-map (g.state y K).log (λ (x : Entry). x.key) in
      omega (arith, sound, count)

  grown : (y : ℕ) (r : R) (K : List R) → VectorGrows y (g.state y K) (g.state y (r ∷ K)) → (g.state y K).view ≤ (g.state y (r ∷ K)).view
      → (g.state y K).last ≤ (g.state y (r ∷ K)).last
      → ((g.state y K).last ≡ (g.state y (r ∷ K)).last → (g.state y K).synced ≤ (g.state y (r ∷ K)).synced)
      → ((g.state y K).last ≡ (g.state y (r ∷ K)).last → part_of y K ≡ take (g.state y K).synced (keys y (r ∷ K))) → HasGrown M y K (r ∷ K)
  grown y r K v view last synced entries = record { view = view; last = last; vector = v.vector; own = v.own; synced = synced; entries = entries }

  -- with a greater last view nothing is said of the log
  risen : (y : ℕ) (r : R) (K : List R) → VectorGrows y (g.state y K) (g.state y (r ∷ K)) → (g.state y K).view ≤ (g.state y (r ∷ K)).view
      → (g.state y K).last < (g.state y (r ∷ K)).last → HasGrown M y K (r ∷ K)
  risen y r K v view higher = grown y r K v view (omega (arith, higher)) (λ e. absurd (omega (arith, higher, e))) (λ e. absurd (omega (arith, higher, e)))

  -- nothing falls by a record
  grows_step : (y : ℕ) (r : R) (K : List R) → At J (r ∷ K) → Does g y r K → VectorGrows y (g.state y K) (g.state y (r ∷ K)) → IsUp (g.state y K).status
      → IsUp (g.state y (r ∷ K)).status → HasGrown M y K (r ∷ K)
  grows_step y r K at (Stays d) v up now =
      let view = d.view in
      let last = d.last in
      let synced = d.synced in
      let same = ap (λ (l : List Entry). take (g.state y K).synced (keys_of l)) (sym d.log) in
      grown y r K v (omega (arith, view)) (omega (arith, last)) (λ e. omega (arith, synced)) (λ e. same)
  grows_step y r K at (Released d) v up now =
      let view = d.view in
      let last = d.last in
      let room = within y K (at_tail J r K at) up in
      let more = prefix_length (keys y K) (keys y (r ∷ K)) d.log in
      let count = length-map (g.state y (r ∷ K)).log (λ (x : Entry). x.key) in
      let synced : (g.state y K).synced ≤ (g.state y (r ∷ K)).synced = elim (cases_eq (leader_of g.f (g.state y K).view) y) [
        | inl leads ↦ let all = d.leads leads in omega (arith, all, room, more, count)
        | inr follows ↦ let same = d.follows follows in omega (arith, same)
      ] in
      grown y r K v (omega (arith, view)) (omega (arith, last)) (λ e. synced) (λ e. take_of_prefix (g.state y K).synced (keys y K) (keys y (r ∷ K)) d.log room)
  grows_step y r K at (Entered d) v up now =
      let view = d.view in
      let last = d.last in
      let synced = d.synced in
      let same = take_of_prefix (g.state y K).synced (keys y K) (keys y (r ∷ K)) d.log (within y K (at_tail J r K at) up) in
      grown y r K v (omega (arith, view)) (omega (arith, last)) (λ e. omega (arith, synced)) (λ e. same)
  grows_step y r K at (Synced d) v up now =
      let view = d.view in
      let last = d.last in
      grown y r K v (omega (arith, view)) (omega (arith, last)) (λ e. d.synced) (λ e. d.entries)
  grows_step y r K at (Began d) v up now = risen y r K v d.view d.higher
  grows_step y r K at (Adopted d) v up now = risen y r K v (d.view up) (d.higher up)
  grows_step y r K at (Fell down) v up now = never_up (g.state y (r ∷ K)).status now down
  grows_step y r K at (Rose d) v up now = never_up (g.state y K).status up d.before

  -- a Normal leader's log grows by a record
  releases_step : (v y : ℕ) (r : R) (K : List R) → At J (r ∷ K) → y ≡ leader_of g.f v → Does g y r K → IsNormal M y v K → IsNormal M y v (r ∷ K)
      → IsPrefix (keys y K) (keys y (r ∷ K))
  releases_step v y r K at l (Stays d) a b = prefix_same (keys y K) (keys y (r ∷ K)) (ap keys_of d.log)
  releases_step v y r K at l (Released d) a b = d.log
  releases_step v y r K at l (Entered d) a b = d.log
  releases_step v y r K at l (Synced d) a b = absurd (d.follows (ap (λ (x : ℕ). leader_of g.f x) a.view ∙ sym l))
  releases_step v y r K at l (Began d) a b =
      let mode = modes y K (at_tail J r K at) a.status in
      let higher = d.higher in
      let last = d.last in
      let before = a.view in
      let after = b.view in
      absurd (omega (arith, mode, higher, last, before, after))
  releases_step v y r K at l (Adopted d) a b =
      let mode = modes y K (at_tail J r K at) a.status in
      let higher = d.higher (up_of (g.state y K).status a.status) in
      let last = d.last in
      let before = a.view in
      let after = b.view in
      absurd (omega (arith, mode, higher, last, before, after))
  releases_step v y r K at l (Fell down) a b = absurd (let e : Down ≡ Normal = sym down ∙ b.status in cc)
  releases_step v y r K at l (Rose d) a b = absurd (let e : Down ≡ Normal = sym d.before ∙ a.status in cc)

  records : RecordLaws g J
  records = record {
    first = m.first;
    stays = m.stays;
    falls = λ y r K at acts up. falls_step y r K (m.does y r K at acts) up;
    rests = λ y r K at acts down. rests_step y r K (m.does y r K at acts) down;
    grows = λ y r K at acts up now. grows_step y r K at (m.does y r K at acts) (m.vectors y r K at acts up now) up now;
    begins_once = m.begins_once;
    releases = λ v r K at acts a b. releases_step v (leader_of g.f v) r K at refl (m.does (leader_of g.f v) r K at acts) a b;
  }

  -- ---- what is synced is the leader's, from the start of the view on

  -- the view has begun, what is synced is the leader's, and what the view began with is synced
  pub record HoldsStart (y v : ℕ) (K : List R) : Type 0 where
    pub start : List Key
    pub began : start_of g v K ≡ Some start
    pub part : IsPrefix (part_of y K) (lead_of g v K)
    pub long : length start ≤ (g.state y K).synced

  in_view : (y v : ℕ) (K : List R) → At J K → IsNormal M y v K → IsUpIn M y v K
  in_view y v K at n = record { up = up_of (g.state y K).status n.status; last = modes y K at n.status ∙ n.view }

  leads_at : (y v : ℕ) (K : List R) → At J K → leader_of g.f v ≡ y → IsNormal M y v K → keys y K ≡ lead_of g v K
  leads_at y v K at l = subst (λ (x : ℕ). IsNormal M x v K → keys x K ≡ lead_of g v K) l (lead_is g J records v K at)

  -- what was synced is still the leader's after a record
  still_led : (y v : ℕ) (r : R) (K : List R) → At J (r ∷ K) → HoldsStart y v K → IsPrefix (part_of y K) (lead_of g v (r ∷ K))
  still_led y v r K at s = prefix_then (part_of y K) (lead_of g v K) (lead_of g v (r ∷ K)) s.part (lead_step g J records v r K at)

  -- more is synced, and it is the leader's
  carried : (y v : ℕ) (r : R) (K : List R) → HoldsStart y v K → (g.state y K).synced ≤ (g.state y (r ∷ K)).synced
      → IsPrefix (part_of y (r ∷ K)) (lead_of g v (r ∷ K)) → HoldsStart y v (r ∷ K)
  carried y v r K s more part =
      let long = s.long in
      record { start = s.start; began = start_step g v s.start r K s.began; part = part; long = omega (arith, long, more) }

  -- the synced keys are as before
  kept : (y v : ℕ) (r : R) (K : List R) → At J (r ∷ K) → HoldsStart y v K → (g.state y (r ∷ K)).synced ≡ (g.state y K).synced
      → IsPrefix (keys y K) (keys y (r ∷ K)) → (g.state y K).synced ≤ length (keys y K) → HoldsStart y v (r ∷ K)
  kept y v r K at s synced log room =
      let same : part_of y K ≡ part_of y (r ∷ K) =
      take_of_prefix (g.state y K).synced (keys y K) (keys y (r ∷ K)) log room ∙ ap (λ (n : ℕ). take n (keys y (r ∷ K))) (sym synced) in
      carried y v r K s (omega (arith, synced)) (subst (λ (l : List Key). IsPrefix l (lead_of g v (r ∷ K))) same (still_led y v r K at s))

  -- all is synced, and it is the leader's log at a moment T after the view began
  whole : (y v : ℕ) (L T : List R) (S : List Key) → At J L → At L T → start_of g v T ≡ Some S → keys y L ≡ lead_of g v T
      → (g.state y L).synced ≡ length (g.state y L).log → HoldsStart y v L
  whole y v L T S at then began is synced =
      let count = length-map (g.state y L).log (λ (x : Entry). x.key) in
      let long = prefix_length S (lead_of g v T) (starts g J records v S T (at_then J L T at then) began) in
      let same = ap length is in
      let led = subst (λ (l : List Key). IsPrefix l (lead_of g v L)) (sym is) (lead_grows g J records v T L at then) in
      record {
        start = S;
        began = start_stays g v S T L then began;
        part = prefix_then (part_of y L) (keys y L) (lead_of g v L) (prefix_take (g.state y L).synced (keys y L)) led;
        long = omega (arith, count, long, same, synced);
      }

  -- a view has begun where its leader is Normal in it
  start_here : (v : ℕ) (r : R) (K : List R) → leads_by g v r K ≡ true → (S : List Key) × (start_of g v (r ∷ K) ≡ Some S)
  unfolding start_of
  start_here v r K e = go (start_of g v K)
    where
      go : (o : Option (List Key)) → (S : List Key) × (option_or o (cond (leads_by g v r K) (Some (keys (leader_of g.f v) (r ∷ K))) None) ≡ Some S)
      go (Some S) = (S, refl)
      go None = (keys (leader_of g.f v) (r ∷ K), ap (λ (b : Bool). cond b (Some (keys (leader_of g.f v) (r ∷ K))) None) e)

  -- a log modification that the leader of the view sent
  modified_at : (y v : ℕ) (r : R) (K : List R) → At J (r ∷ K) → (d : Syncs g y K (g.state y K) (g.state y (r ∷ K))) → IsUpIn M y v K → HoldsStart y v K
      → IsModified (lead_of g v (r ∷ K)) (g.state y K) (g.state y (r ∷ K))
  modified_at y v r K at d up s =
      let view : (g.state y K).view ≡ v = sym (modes y K (at_tail J r K at) d.before) ∙ up.last in
      let sent_there = at_then J K d.sent_at (at_tail J r K at) d.moment in
      let led : keys (leader_of g.f (g.state y K).view) d.sent_at ≡ lead_of g v d.sent_at =
      lead_is g J records (g.state y K).view d.sent_at sent_there d.leader ∙ ap (λ (x : ℕ). lead_of g x d.sent_at) view in
      let ahead = subst (λ (l : List Key). IsPrefix l (lead_of g v (r ∷ K))) (sym led) (lead_grows g J records v d.sent_at (r ∷ K) at (inr d.moment)) in
      d.modified (lead_of g v (r ∷ K)) (still_led y v r K at s) ahead

  -- at all moments up to K
  abbrev HoldUpTo : ℕ → List R → Type 0
  HoldUpTo v K = (L : List R) → At K L → (y : ℕ) → IsUpIn M y v L → HoldsStart y v L

  holds_same : (y v : ℕ) (r : R) (K : List R) → At J (r ∷ K) → IsUnchanged (g.state y K) (g.state y (r ∷ K)) → HoldUpTo v K → IsUpIn M y v (r ∷ K)
      → HoldsStart y v (r ∷ K)
  holds_same y v r K at d rest up =
      let before : IsUpIn M y v K = record { up = subst IsUp d.status up.up; last = sym d.last ∙ up.last } in
      let same = prefix_same (keys y K) (keys y (r ∷ K)) (ap keys_of d.log) in
      kept y v r K at (rest K (at_self K) y before) d.synced same (within y K (at_tail J r K at) before.up)

  holds_step : (y v : ℕ) (r : R) (K : List R) → At J (r ∷ K) → g.by r y ≡ true → Does g y r K → HoldUpTo v K → IsUpIn M y v (r ∷ K) → HoldsStart y v (r ∷ K)
  holds_step y v r K at acts (Stays d) rest up = holds_same y v r K at d rest up
  holds_step y v r K at acts (Released d) rest up =
      let before : IsUpIn M y v K = record { up = up_of (g.state y K).status d.before; last = sym d.last ∙ up.last } in
      let s = rest K (at_self K) y before in
      elim (cases_eq (leader_of g.f (g.state y K).view) y) [
        | inr follows ↦ kept y v r K at s (d.follows follows) d.log (within y K (at_tail J r K at) before.up)
        | inl leads ↦
            let view : (g.state y (r ∷ K)).view ≡ v = sym (modes y (r ∷ K) at d.after) ∙ up.last in
            let l : leader_of g.f v ≡ y = ap (λ (x : ℕ). leader_of g.f x) (sym (sym d.view ∙ view)) ∙ leads in
            let is = leads_at y v (r ∷ K) at l (record { status = d.after; view = view }) in
            whole y v (r ∷ K) (r ∷ K) s.start at (at_self (r ∷ K)) (start_step g v s.start r K s.began) is (d.leads leads)
      ]
  holds_step y v r K at acts (Entered d) rest up =
      let before : IsUpIn M y v K = record { up = d.before; last = sym d.last ∙ up.last } in
      kept y v r K at (rest K (at_self K) y before) d.synced d.log (within y K (at_tail J r K at) before.up)
  holds_step y v r K at acts (Synced d) rest up =
      let before : IsUpIn M y v K = record { up = up_of (g.state y K).status d.before; last = sym d.last ∙ up.last } in
      let s = rest K (at_self K) y before in
      carried y v r K s d.synced (modified_at y v r K at d before s).part
  holds_step y v r K at acts (Began d) rest up =
      let view : (g.state y (r ∷ K)).view ≡ v = sym d.last ∙ up.last in
      let l : leader_of g.f v ≡ y = ap (λ (x : ℕ). leader_of g.f x) (sym view) ∙ d.leads in
      let n : IsNormal M y v (r ∷ K) = record { status = d.after; view = view } in
      let by_leader : g.by r (leader_of g.f v) ≡ true = subst (λ (x : ℕ). g.by r x ≡ true) (sym l) acts in
      let began = start_here v r K (leads_test g J records v r K by_leader (subst (λ (x : ℕ). IsNormal M x v (r ∷ K)) (sym l) n)) in
      whole y v (r ∷ K) (r ∷ K) began.0 at (at_self (r ∷ K)) began.1 (leads_at y v (r ∷ K) at l n) d.synced
  holds_step y v r K at acts (Adopted d) rest up =
      let view : (g.state y (r ∷ K)).view ≡ v = sym d.last ∙ up.last in
      let sent_there = at_then J K d.sent_at (at_tail J r K at) d.moment in
      let n : IsNormal M (leader_of g.f v) v d.sent_at = subst (λ (x : ℕ). IsNormal M (leader_of g.f x) x d.sent_at) view d.leader in
      let s = rest d.sent_at d.moment (leader_of g.f v) (in_view (leader_of g.f v) v d.sent_at sent_there n) in
      let is : keys y (r ∷ K) ≡ lead_of g v d.sent_at =
      d.log ∙ ap (λ (x : ℕ). keys (leader_of g.f x) d.sent_at) view ∙ lead_is g J records v d.sent_at sent_there n in
      whole y v (r ∷ K) d.sent_at s.start at (inr d.moment) s.began is d.synced
  holds_step y v r K at acts (Fell down) rest up = never_up (g.state y (r ∷ K)).status up.up down
  holds_step y v r K at acts (Rose d) rest up = absurd (subst IsUp d.after up.up)

  holds_first : (y v : ℕ) → IsUpIn M y v [] → HoldsStart y v []
  unfolding start_of lead_of
  holds_first y v up =
      let zero_view : 0 ≡ v = sym (m.first_last y) ∙ up.last in
      let none : keys y [] ≡ [] = ap keys_of (m.first y) in
      let here : eqb v 0 ≡ true = eq-eqb v 0 (sym zero_view) in
      record {
        start = [];
        began = ap (λ (b : Bool). cond b (Some []) None) here;
        part = subst (λ (l : List Key). IsPrefix (take (g.state y []).synced l) []) (sym none) (prefix_take (g.state y []).synced []);
        long = omega arith;
      }

  holds_start : (v : ℕ) (K : List R) → At J K → HoldUpTo v K
  holds_start v [] at L here y up = subst (λ (x : List R). IsUpIn M y v x → HoldsStart y v x) (sym here) (holds_first y v) up
  holds_start v (r ∷ K) at L (inr older) y up = holds_start v K (at_tail J r K at) L older y up
  holds_start v (r ∷ K) at L (inl here) y up = subst (HoldsStart y v) (sym here) (by_actor (cases_Bool (g.by r y)) (holds_start v K (at_tail J r K at)))
    where
      by_actor : (g.by r y ≡ true) ⊎ (g.by r y ≡ false) → HoldUpTo v K → HoldsStart y v (r ∷ K)
      by_actor (inl acts) rest = holds_step y v r K at acts (m.does y r K at acts) rest (subst (IsUpIn M y v) here up)
      by_actor (inr other) rest =
          let same = unchanged (g.state y K) (g.state y (r ∷ K)) (m.stays y r K at other) in
          holds_same y v r K at same rest (subst (IsUpIn M y v) here up)

  holds_at : (y v : ℕ) (K : List R) → At J K → IsUpIn M y v K → HoldsStart y v K
  holds_at y v K at up = holds_start v K at K (at_self K) y up

  -- ---- what a record leaves of a prefix that is comparable with the leader's log

  keeps_step : (y v : ℕ) (P : List Key) (r : R) (K : List R) → At J (r ∷ K) → Does g y r K → IsUpIn M y v K → IsUpIn M y v (r ∷ K)
      → IsPrefix P (keys y K) → Comparable P (lead_of g v (r ∷ K)) → IsPrefix P (keys y (r ∷ K))
  keeps_step y v P r K at (Stays d) up now prefix either = subst (λ l. IsPrefix P (keys_of l)) (sym d.log) prefix
  keeps_step y v P r K at (Released d) up now prefix either = prefix_then P (keys y K) (keys y (r ∷ K)) prefix d.log
  keeps_step y v P r K at (Entered d) up now prefix either = prefix_then P (keys y K) (keys y (r ∷ K)) prefix d.log
  keeps_step y v P r K at (Synced d) up now prefix either = (modified_at y v r K at d up (holds_at y v K (at_tail J r K at) up)).prefixes P prefix either
  keeps_step y v P r K at (Began d) up now prefix either =
      let higher = d.higher in
      let before = up.last in
      let after = now.last in
      absurd (omega (arith, higher, before, after))
  keeps_step y v P r K at (Adopted d) up now prefix either =
      let higher = d.higher up.up in
      let before = up.last in
      let after = now.last in
      absurd (omega (arith, higher, before, after))
  keeps_step y v P r K at (Fell down) up now prefix either = never_up (g.state y (r ∷ K)).status now.up down
  keeps_step y v P r K at (Rose d) up now prefix either = never_up (g.state y K).status up.up d.before

  -- what a single record does within a view
  pub steps : StepLaws g J
  steps = record {
    records = records;
    keeps = λ y v P r K at acts up now prefix either. keeps_step y v P r K at (m.does y r K at acts) up now prefix either;
    laws = record {
      base = m.base;
      modes = modes;
      begun = λ y v K at some up. let s = holds_at y v K at up in (s.start, s.began);
      synced_lead = λ y v K at up. (holds_at y v K at up).part;
      start_synced = λ y v S K at up began.
          let s = holds_at y v K at up in
          let long = s.long in
          let same = ap length (same_Some S s.start (sym began ∙ s.began)) in
          omega (arith, long, same);
    };
  }

  pub run_laws : RunLaws M J
  run_laws = run_laws_of g J steps
