-- What is in flight to a client of a quiet run is what a client may hear, and none of its requests waits too long.
use Rattle.std.proofs.Common.{◌≡◌, ℕ, ◌<◌, ◌≤◌, ◌⊎◌, true, List, [], ◌∷◌, length, None}
use Rattle.std.proofs.Common.{sym, ap, subst, ◌∙◌, inl, inr, arith}
use Rattle.std.specs.List.{AllByRecursion}
use Rattle.std.proofs.lemmas.Bool.{cases_Bool, cases_lt}
use Rattle.nz_base.specs.Actor.{actor_eq}
use Rattle.nz_base.specs.Key.{id_of}
use Rattle.nz_base.specs.declared.actor.Actor.{Actor}
use Rattle.nz_base.specs.declared.actor.Actor.TheVariants.{Proxy, Client}
use Rattle.nz_base.specs.declared.key.Id.{Id}
use Rattle.nz_base.specs.declared.key.Entry.{Entry}
use Rattle.nz_base.proofs.Names.{same_actor}
use Rattle.nz_machine.specs.declared.data.Attempt.{Attempt}
use Rattle.nz_machine.specs.declared.event.Record.{Record}
use Rattle.nz_machine.specs.rules.State.{Group, Out}
use Rattle.nz_machine.specs.runs.Events.{id_at}
use Rattle.nz_machine.specs.runs.World.{state_after, Has}
use Rattle.nz_machine.proofs.runs.Runs.{all_has}
use Rattle.nz_machine.proofs.lists.EachItem.{all_imply}
use Rattle.nz_quiet.specs.Requests.{own_proxy}
use Rattle.nz_quiet.specs.Folds.{heard_by}
use Rattle.nz_quiet.specs.ClientTicks.{MayAnswer, ComesAnswer, AreYoung}
use Rattle.nz_quiet.specs.Invariant.{standing_in, IsReleased, IsDecided, HasPlace, Asked, Stamped, Entered, IsQuietAt}
use Rattle.nz_quiet.specs.Invariant.{MayFly, FliesRequest, FliesTimed, FliesFast, FliesSlow, FliesAnswer, FliesLogMod, FliesReport}

module _ (g : Group) (t : ℕ) (L E : List Entry) (flight : List (Actor × Out)) (J : List Record) (q : IsQuietAt g t L E flight J) where
  -- an entry of the log is known to its proxy
  logged_known : (e : Entry) → Has L e → standing_in g J (id_of e.key) ≡ None → ⊥
  logged_known e among none = elim (all_has (λ (x : Entry). IsReleased g t L flight J x ⊎ IsDecided g t flight J x) L e q.log among) [
    | inl released ↦ let some = released.standing in cc
    | inr decided ↦ let some = decided.standing in cc
  ]

  -- so its request was sent
  logged_sent : (c num : ℕ) (e : Entry) → c < length g.scripts → Has L e → id_of e.key ≡ id_at c num → num ≤ (state_after g (Client c) J).sent
  logged_sent c num e member among is = elim (cases_lt (state_after g (Client c) J).sent num) [
    | inl above ↦
        let none = q.known c num member above in
        absurd (logged_known e among (subst (λ (i : Id). standing_in g J i ≡ None) (sym is) none))
    | inr le ↦ le
  ]

  at_client : (c : ℕ) (from : Actor) (o : Out) → c < length g.scripts → MayFly g t L E J from o → actor_eq o.0 (Client c) ≡ true
      → MayAnswer (state_after g (Client c) J) (from, o.1)
  at_client c _ _ member (FliesRequest other b at has) to = absurd cc
  at_client c _ _ member (FliesTimed p r b fresh deadline standing) to = absurd cc
  at_client c _ _ member (FliesFast r receiver b good) to =
      absurd (let kind : Proxy (own_proxy g b.id.client) ≡ Client c = sym good.to_proxy ∙ same_actor receiver (Client c) to in cc)
  at_client c _ _ member (FliesSlow r p b a delay decided) to = absurd cc
  at_client c _ _ member (FliesAnswer p other b e fast among is past now) to =
      let same : Client other ≡ Client c = same_actor (Client other) (Client c) to in
      let own : other ≡ c = cc in
      ComesAnswer p b fast (logged_sent c b.num e member among (is ∙ ap (λ (k : ℕ). id_at k b.num) own))
  at_client c _ _ member (FliesLogMod r b later keys) to = absurd cc
  at_client c _ _ member (FliesReport r b least) to = absurd cc

  all_come : (c : ℕ) (xs : List (Actor × Out)) → c < length g.scripts → AllByRecursion (λ (x : Actor × Out). MayFly g t L E J x.0 x.1) xs
      → AllByRecursion (MayAnswer (state_after g (Client c) J)) (heard_by (Client c) xs)
  all_come c [] member all = tt
  all_come c (x ∷ xs) member all = elim (cases_Bool (actor_eq x.1.0 (Client c))) [
    | inl mine ↦ rw mine (at_client c x.0 x.1 member all.0 mine, all_come c xs member all.1)
    | inr other ↦ rw other (all_come c xs member all.1)
  ]

  pub client_may_hear : (c : ℕ) → c < length g.scripts → AllByRecursion (MayAnswer (state_after g (Client c) J)) (heard_by (Client c) flight)
  client_may_hear c member = all_come c flight member q.flies

  -- no request waits longer than 13 ticks
  waits_little : (c : ℕ) (a : Attempt) → HasPlace g t L E flight J c a → a.since ≤ 13
  waits_little c a (Asked since command has unknown not_logged not_early) = omega (arith, since)
  waits_little c a (Stamped since each) = omega (arith, since)
  waits_little c a (Entered since e among own (inl soon) later) = omega (arith, soon, later)
  waits_little c a (Entered since e among own (inr late) later) = omega (arith, late, later)

  pub are_young : (c : ℕ) → c < length g.scripts → AreYoung (state_after g (Client c) J)
  are_young c member =
      all_imply (HasPlace g t L E flight J c) (λ (a : Attempt). a.since ≤ 13) (waits_little c) (state_after g (Client c) J).attempts (q.attempts c member)
