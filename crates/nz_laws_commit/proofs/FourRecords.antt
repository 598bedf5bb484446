-- The example follows the rules, with a key that is supported in view 0: no premise contradicts the others.
use Rattle.std.proofs.Common.{◌≡◌, ℕ, zero, suc, ◌<◌, ◌≤◌, Bool, true, false, cond, eqb, List, [], ◌∷◌, length}
use Rattle.std.proofs.Common.{Option, Some, None, refl, sym, ap, subst, ◌∙◌, arith, inl, inr, ◌⊎◌}
use Rattle.std.specs.List.{All}
use Rattle.std.specs.Option.{option_or}
use Rattle.std.proofs.lemmas.Bool.{ne_eqb}
use Rattle.std.proofs.lemmas.List.Elements.{All-from_recursion}
use Rattle.std.proofs.lemmas.Option.{none-some, same_Some}
use mathlib.Core.Bool.{and-false}
use Rattle.nz_base.specs.declared.key.Key.{Key}
use Rattle.nz_base.specs.Log.{keys_of, IsLog}
use Rattle.nz_base.specs.Cluster.{leader_of}
use Rattle.nz_base.specs.Moments.{At}
use Rattle.nz_base.specs.Prefixes.{IsPrefix}
use Rattle.nz_base.proofs.Prefixes.{prefix_self, prefix_none, prefix_then}
use Rattle.nz_math.proofs.Twos.{of_two, two_choice}
use Rattle.nz_merge.specs.declared.report.Report.{Report}
use Rattle.nz_merge.specs.Merged.{merged, later_keys}
use Rattle.nz_laws_commit.specs.States.{Normal, ViewChange, LogState, place}
use Rattle.nz_laws_commit.specs.Supports.{IsNormal, HadSynced, Support}
use Rattle.nz_laws_commit.specs.Premises.{ViewPremises, IsMemberReport, IsMergeOfReports}
use Rattle.nz_laws_commit.specs.Machines.{is_normal, inc_of, lead_of, start_of, leads_by, machine_of}
use Rattle.nz_laws_commit.specs.Does.{Does, Released, Entered, Synced, Began, FollowsRules}
use Rattle.nz_laws_commit.specs.Example.{Step, First, Second, Third, Fourth, key, entry, by, zeros, new_state, full_state}
use Rattle.nz_laws_commit.specs.Example.{changing_state, begun_state, after, state, early, run, group}
use Rattle.nz_laws_commit.proofs.Following.{never_all}

-- ---- all moments

abbrev Each : (List Step → Type 0) → List Step → Type 0
Each Q [] = Q []
Each Q (r ∷ J) = Q (r ∷ J) × Each Q J

at_each : (Q : List Step → Type 0) (J L : List Step) → Each Q J → At J L → Q L
at_each Q [] L each at = subst Q (sym at) each
at_each Q (r ∷ J) L each (inl e) = subst Q (sym e) each.0
at_each Q (r ∷ J) L each (inr h) = at_each Q J L each.1 h

-- ---- each state

pub record Fine (s : LogState) : Type 0 where
  pub log : IsLog s.log
  pub synced : s.synced ≡ length s.log
  pub view : s.view ≤ 1
  pub vector : s.vector ≡ zeros

none_log : IsLog []
none_log = record { rising = tt; own_ids = tt }

one_log : IsLog (entry ∷ [])
one_log = record { rising = (λ x h. absurd cc, tt); own_ids = (refl, tt) }

fine_new : Fine new_state
fine_new = record { log = none_log; synced = refl; view = omega arith; vector = refl }

fine_full : Fine full_state
fine_full = record { log = one_log; synced = refl; view = omega arith; vector = refl }

fine_changing : Fine changing_state
fine_changing = record { log = none_log; synced = refl; view = omega arith; vector = refl }

fine_begun : Fine begun_state
fine_begun = record { log = one_log; synced = refl; view = omega arith; vector = refl }

fine_after : (r : Step) (y : ℕ) (s : LogState) → Fine s → Fine (after r y s)
fine_after First zero s h = fine_full
fine_after First (suc y) s h = h
fine_after Second zero s h = h
fine_after Second (suc zero) s h = fine_full
fine_after Second (suc (suc y)) s h = h
fine_after Third zero s h = h
fine_after Third (suc zero) s h = h
fine_after Third (suc (suc zero)) s h = fine_changing
fine_after Third (suc (suc (suc y))) s h = h
fine_after Fourth zero s h = h
fine_after Fourth (suc zero) s h = fine_begun
fine_after Fourth (suc (suc y)) s h = h

fine : (y : ℕ) (K : List Step) → Fine (state y K)
fine y [] = fine_new
fine y (r ∷ K) = fine_after r y (state y K) (fine y K)

others : (r : Step) (y : ℕ) (s : LogState) → by r y ≡ false → after r y s ≡ s
others First zero s h = absurd cc
others First (suc y) s h = refl
others Second zero s h = refl
others Second (suc zero) s h = absurd cc
others Second (suc (suc y)) s h = refl
others Third zero s h = refl
others Third (suc zero) s h = refl
others Third (suc (suc zero)) s h = absurd cc
others Third (suc (suc (suc y))) s h = refl
others Fourth zero s h = refl
others Fourth (suc zero) s h = absurd cc
others Fourth (suc (suc y)) s h = refl

-- ---- the four records

does_first : (y : ℕ) → by First y ≡ true → Does group y First []
does_first zero h = Released (record {
  before = refl;
  after = refl;
  view = refl;
  last = refl;
  log = prefix_none (key ∷ []);
  leads = λ e. refl;
  follows = λ other. absurd (other refl);
})
does_first (suc y) h = absurd cc

does_second : (y : ℕ) → by Second y ≡ true → Does group y Second (First ∷ [])
does_second zero h = absurd cc
does_second (suc zero) h = Synced (record {
  before = refl;
  after = refl;
  view = refl;
  last = refl;
  follows = λ e. absurd (omega (arith, e));
  sent_at = First ∷ [];
  moment = inl refl;
  leader = record { status = refl; view = refl };
  synced = omega arith;
  entries = refl;
  modified = λ lead prefix led. record { part = led; prefixes = λ P p either. prefix_then P [] (key ∷ []) p (prefix_none (key ∷ [])) };
})
does_second (suc (suc y)) h = absurd cc

does_third : (y : ℕ) → by Third y ≡ true → Does group y Third (Second ∷ First ∷ [])
does_third zero h = absurd cc
does_third (suc zero) h = absurd cc
does_third (suc (suc zero)) h = Entered (record { before = tt; after = refl; view = omega arith; last = refl; log = prefix_self []; synced = refl })
does_third (suc (suc (suc y))) h = absurd cc

does_fourth : (y : ℕ) → by Fourth y ≡ true → Does group y Fourth early
does_fourth zero h = absurd cc
does_fourth (suc zero) h = Began (record { before = tt; after = refl; leads = refl; view = omega arith; last = refl; higher = omega arith; synced = refl })
does_fourth (suc (suc y)) h = absurd cc

abbrev DoesAt : List Step → Type 0
DoesAt [] = Unit {0}
DoesAt (r ∷ K) = (y : ℕ) → by r y ≡ true → Does group y r K

-- ---- begins

start_early : start_of group 1 early ≡ None
unfolding start_of
start_early = refl

-- view 1 starts with the one entry
pub started : start_of group 1 run ≡ Some (key ∷ [])
unfolding start_of
started = refl

abbrev OnceAt : List Step → Type 0
OnceAt [] = Unit {0}
OnceAt (r ∷ K) = (v y : ℕ) → by r y ≡ true → IsNormal (machine_of group) y v (r ∷ K) → (start_of group v K ≡ None) ⊎ IsNormal (machine_of group) y v K

once_first : OnceAt (First ∷ [])
once_first v zero h n = inr (record { status = refl; view = n.view })
once_first v (suc y) h n = absurd cc

once_second : OnceAt (Second ∷ First ∷ [])
once_second v zero h n = absurd cc
once_second v (suc zero) h n = inr (record { status = refl; view = n.view })
once_second v (suc (suc y)) h n = absurd cc

once_third : OnceAt early
once_third v zero h n = absurd cc
once_third v (suc zero) h n = absurd cc
once_third v (suc (suc zero)) h n = absurd (let e : ViewChange ≡ Normal = n.status in cc)
once_third v (suc (suc (suc y))) h n = absurd cc

once_fourth : OnceAt run
once_fourth v zero h n = absurd cc
once_fourth v (suc zero) h n = inl (subst (λ (x : ℕ). start_of group x early ≡ None) n.view start_early)
once_fourth v (suc (suc y)) h n = absurd cc

inc_zero : (m : ℕ) (K : List Step) → inc_of group m K ≡ 0
unfolding inc_of
inc_zero m [] = refl
inc_zero m (r ∷ K) = let n = inc_of group m K in ap (λ (b : Bool). cond b (suc n) n) (and-false (by r m)) ∙ inc_zero m K

no_start : (v : ℕ) (K : List Step) → 1 < v → start_of group v K ≡ None
unfolding start_of
no_start v [] high = let e : eqb v 0 ≡ false = ne_eqb v 0 (λ z. absurd (omega (arith, high, z))) in ap (λ (b : Bool). cond b (Some []) None) e
no_start v (r ∷ K) high =
    let l = leader_of 1 v in
    let low = (fine l (r ∷ K)).view in
    let other : eqb (state l (r ∷ K)).view v ≡ false = ne_eqb (state l (r ∷ K)).view v (λ z. absurd (omega (arith, high, z, low))) in
    let test : leads_by group v r K ≡ false = never_all (by r l) (is_normal (state l (r ∷ K)).status) (eqb (state l (r ∷ K)).view v) other in
    let log = keys_of (state l (r ∷ K)).log in
    ap (λ (o : Option (List Key)). option_or o (cond (leads_by group v r K) (Some log) None)) (no_start v K high)
    ∙ ap (λ (b : Bool). cond b (Some log) None) test

-- ---- what was merged

abbrev first_report : Report
first_report = record { sender = 1; last = 0; synced = 1; commit = 0; log = entry ∷ [] }

abbrev second_report : Report
second_report = record { sender = 2; last = 0; synced = 0; commit = 0; log = [] }

report_first : IsMemberReport (machine_of group) 1 first_report run
report_first = record {
  q = run;
  moment = inl refl;
  up = tt;
  view = refl;
  read = early;
  is = inr (Fourth, refl, refl);
  read_up = tt;
  last = refl;
  synced = refl;
  log = refl;
  low = omega arith;
  later = λ C at completes less. absurd (let z = inc_zero 1 C in omega (arith, less, z));
}

report_second : IsMemberReport (machine_of group) 1 second_report run
report_second = record {
  q = early;
  moment = inr (inl refl);
  up = tt;
  view = refl;
  read = early;
  is = inl refl;
  read_up = tt;
  last = refl;
  synced = refl;
  log = refl;
  low = omega arith;
  later = λ C at completes less. absurd (let z = inc_zero 2 C in omega (arith, less, z));
}

members : All (λ (c : Report). IsMemberReport (machine_of group) 1 c run) (first_report ∷ second_report ∷ [])
members =
    All-from_recursion (λ (c : Report). IsMemberReport (machine_of group) 1 c run) (first_report ∷ second_report ∷ []) (report_first, (report_second, tt))

merged_is : key ∷ [] ≡ keys_of (merged 1 (first_report ∷ second_report ∷ []))
unfolding merged later_keys
merged_is = refl

begun_one : IsMergeOfReports (machine_of group) 1 (key ∷ []) run
begun_one = record {
  reports = first_report ∷ second_report ∷ [];
  merged = merged_is;
  choice = two_choice 3 1 2 (omega arith) (omega arith) (λ e. cc);
  size = omega arith;
  members = members;
}

begins : (w : ℕ) (S : List Key) → 0 < w → start_of group w run ≡ Some S → IsMergeOfReports (machine_of group) w S run
begins zero S some e = absurd (omega (arith, some))
begins (suc zero) S some e = subst (λ (T : List Key). IsMergeOfReports (machine_of group) 1 T run) (same_Some (key ∷ []) S (sym started ∙ e)) begun_one
begins (suc (suc w)) S some e = absurd (none-some S (sym (no_start (suc (suc w)) run (omega arith)) ∙ e))

base : ViewPremises (machine_of group) run
base = record {
  facts = λ y K at up. let f = fine y K in let synced = f.synced in record { log = f.log; synced = omega (arith, synced) };
  leads_synced = λ v K at n. (fine (leader_of 1 v) K).synced;
  begins = begins;
  completed = λ x K at up some. absurd (let z = inc_zero x K in omega (arith, some, z));
  rise = λ x S K at there up now less. absurd (let z = inc_zero x K in omega (arith, less, z));
  was_normal = λ x v K C at there n completes less. absurd (let z = inc_zero x C in omega (arith, less, z));
  leader_is_one = λ v K L at there n m. inc_zero (leader_of 1 v) K ∙ sym (inc_zero (leader_of 1 v) L);
}

-- the example follows the rules
pub rules : FollowsRules group run
rules = record {
  first = λ y. refl;
  first_view = λ y. refl;
  first_last = λ y. refl;
  stays = λ y r K at other. others r y (state y K) other;
  does = λ y r K at acts. at_each DoesAt run (r ∷ K) (does_fourth, (does_third, (does_second, (does_first, tt)))) at y acts;
  vectors = λ y r K at acts up now.
      let same = (fine y K).vector ∙ sym (fine y (r ∷ K)).vector in
      record { vector = λ m. omega (arith, ap (λ (u : List ℕ). place u m) same); own = ap (λ (u : List ℕ). place u y) same };
  begins_once = λ v r K at acts n. at_each OnceAt run (r ∷ K) (once_fourth, (once_third, (once_second, (once_first, tt)))) at v (leader_of 1 v) acts n;
  base = base;
}

-- ---- support

lead_is : key ∷ [] ≡ lead_of group 0 run
unfolding lead_of
lead_is = refl

had_first : HadSynced (machine_of group) 0 0 1 run
had_first = record { K = First ∷ []; moment = inr (inr (inr (inl refl))); normal = record { status = refl; view = refl }; enough = omega arith }

had_second : HadSynced (machine_of group) 0 1 1 run
had_second = record { K = Second ∷ First ∷ []; moment = inr (inr (inl refl)); normal = record { status = refl; view = refl }; enough = omega arith }

-- its entry has support in view 0
pub support : Support (machine_of group) 0 (key ∷ []) run
support = record {
  lead = subst (IsPrefix (key ∷ [])) lead_is (prefix_self (key ∷ []));
  quorum = inl (record {
    members = 0 ∷ 1 ∷ [];
    choice = two_choice 3 0 1 (omega arith) (omega arith) (λ e. cc);
    enough = omega arith;
    each = λ y h. elim (of_two 0 1 y h) [
      | inl e ↦ subst (λ (x : ℕ). HadSynced (machine_of group) 0 x 1 run) e had_first
      | inr e ↦ subst (λ (x : ℕ). HadSynced (machine_of group) 0 x 1 run) e had_second
    ];
  });
}
