-- What is in flight to a proxy of a quiet run is what a proxy may hear.
use Rattle.std.proofs.Common.{◌≡◌, ℕ, ◌+◌, ◌*◌, ◌<◌, ◌⊎◌, true, cond, eqb, List, [], ◌∷◌, length, Option, Some, None}
use Rattle.std.proofs.Common.{refl, sym, ap, subst, ◌∙◌, inl, inr, arith}
use Rattle.std.specs.Prelude.{slice_get, slice_index_or, unwrap_or}
use Rattle.std.specs.List.{AllByRecursion}
use Rattle.std.proofs.lemmas.Bool.{cases_Bool}
use Rattle.std.proofs.lemmas.List.{length-map}
use Rattle.std.proofs.lemmas.Option.{slice_get-get_or}
use Rattle.nz_base.specs.Actor.{actor_eq}
use Rattle.nz_base.specs.Key.{id_of}
use Rattle.nz_base.specs.declared.actor.Actor.{Actor}
use Rattle.nz_base.specs.declared.actor.Actor.TheVariants.{Replica, Proxy, Client}
use Rattle.nz_base.specs.declared.key.Id.{Id}
use Rattle.nz_base.specs.declared.key.Entry.{Entry}
use Rattle.nz_base.specs.declared.limits.TheConstants.{UNITS_PER_TICK}
use Rattle.nz_base.proofs.Names.{same_actor}
use Rattle.nz_store.specs.declared.command.Answer.{Answer}
use Rattle.nz_store.specs.declared.command.Answer.TheVariants.{Done}
use Rattle.nz_store.specs.Entries.{empty}
use Rattle.nz_store.specs.Sequence.{replies}
use Rattle.nz_store.proofs.Turns.{length-replies_from}
use Rattle.nz_log.specs.Places.{place_of, digest_at}
use Rattle.nz_msg.specs.declared.message.FastReplyBody.{FastReplyBody}
use Rattle.nz_msg.specs.declared.message.Message.TheVariants as messages
use Rattle.nz_machine.specs.declared.data.Attempt.{Attempt}
use Rattle.nz_machine.specs.declared.event.Record.{Record}
use Rattle.nz_machine.specs.declared.reply.Reply.TheVariants.{Fast}
use Rattle.nz_machine.specs.rules.State.{Open, Group, Out}
use Rattle.nz_machine.specs.runs.Events.{id_at}
use Rattle.nz_machine.specs.rules.Proxies.{standing_of, of_fast}
use Rattle.nz_machine.specs.rules.Replicas.{commands}
use Rattle.nz_machine.specs.runs.World.{state_after, Has}
use Rattle.nz_machine.proofs.lists.LogPlaces.{place_within}
use Rattle.nz_machine.proofs.runs.Runs.{all_has}
use Rattle.nz_quiet.specs.Requests.{own_proxy}
use Rattle.nz_quiet.specs.Folds.{heard_by}
use Rattle.nz_quiet.specs.Replicas.{IsGoodReply}
use Rattle.nz_quiet.specs.ProxyTicks.{reply_to, said_of, MayCome, ComesRequest, ComesFast, ComesSlow}
use Rattle.nz_quiet.specs.Invariant.{standing_in, IsReleased, IsDecided, HasPlace, Asked, Stamped, Entered, IsQuietAt}
use Rattle.nz_quiet.specs.Invariant.{MayFly, FliesRequest, FliesTimed, FliesFast, FliesSlow, FliesAnswer, FliesLogMod, FliesReport}

-- a good reply is what the replicas say
good_said : (g : Group) (t : ℕ) (L : List Entry) (r : ℕ) (to : Actor) (b : FastReplyBody) → IsGoodReply g t L r to b
    → of_fast r b ≡ reply_to (said_of g L) b.id r
good_said g t L r to b good =
    let all = replies (commands L) in
    let at : unwrap_or (place_of L b.id) 0 ≡ good.place = ap (λ (o : Option ℕ). unwrap_or o 0) good.place_is in
    let within = place_within L b.id good.place good.place_is in
    let long : length all ≡ length L = length-replies_from empty (commands L) ∙ length-map L (λ (e : Entry). e.command) in
    let read : slice_get all good.place ≡ Some (slice_index_or all good.place Done) = slice_get-get_or all good.place Done (omega (arith, within, long)) in
    let own : slice_get all good.place ≡ Some ((said_of g L).answer b.id) = read ∙ ap (λ (k : ℕ). Some (slice_index_or all k Done)) (sym at) in
    let answer : b.answer ≡ cond (eqb r 0) (Some ((said_of g L).answer b.id)) None =
    good.answer ∙ ap (λ (o : Option Answer). cond (eqb r 0) o None) own in
    let digest : b.digest ≡ (said_of g L).digest b.id = good.digest ∙ ap (digest_at L) (sym at) in
    let view = good.view in
    let vector = good.vector in
    λ i. Fast r (view i) (digest i) (vector i) (answer i)

module _ (g : Group) (t : ℕ) (L E : List Entry) (flight : List (Actor × Out)) (J : List Record) (q : IsQuietAt g t L E flight J) where
  -- an entry of the log that is released now is open
  released_open : (e : Entry) → Has L e → UNITS_PER_TICK * t < e.key.deadline + UNITS_PER_TICK → standing_in g J (id_of e.key) ≡ Some (Open [])
  released_open e among now = elim (all_has (λ (x : Entry). IsReleased g t L flight J x ⊎ IsDecided g t flight J x) L e q.log among) [
    | inl released ↦ released.standing
    | inr decided ↦ let past = decided.past in absurd (omega (arith, now, past))
  ]

  -- a request that was sent now is unknown
  asked_unknown : (c num : ℕ) (a : Attempt) → a.num ≡ num → a.since ≡ 0 → HasPlace g t L E flight J c a → standing_in g J (id_at c num) ≡ None
  asked_unknown c num a is now (Asked since command has unknown not_logged not_early) =
      subst (λ (n : ℕ). standing_in g J (id_at c n) ≡ None) is unknown
  asked_unknown c num a is now (Stamped since each) = absurd (omega (arith, now, since))
  asked_unknown c num a is now (Entered since e among own deadline later) = absurd (omega (arith, now, since))

  abbrev Comes : ℕ → Actor × Out → Type 0
  Comes p x = MayCome (said_of g L) (state_after g (Proxy p) J) (x.0, x.1.1)

  at_proxy : (p : ℕ) (from : Actor) (o : Out) → MayFly g t L E J from o → actor_eq o.0 (Proxy p) ≡ true → Comes p (from, o)
  at_proxy p _ _ (FliesRequest c b member has) to =
      let a : Attempt = record { num = b.num; proxy = own_proxy g c; since = 0 } in
      let place = all_has (HasPlace g t L E flight J c) (state_after g (Client c) J).attempts a (q.attempts c member) has in
      let unknown = asked_unknown c b.num a refl refl place in
      let same : Proxy (own_proxy g c) ≡ Proxy p = same_actor (Proxy (own_proxy g c)) (Proxy p) to in
      let own : own_proxy g c ≡ p = cc in
      ComesRequest c b (subst (λ (k : ℕ). standing_of (state_after g (Proxy k) J) (id_at c b.num) ≡ None) own unknown)
  at_proxy p _ _ (FliesTimed other r b fresh deadline standing) to = absurd cc
  at_proxy p _ _ (FliesFast r receiver b good) to =
      let same : Proxy (own_proxy g b.id.client) ≡ Proxy p = sym good.to_proxy ∙ same_actor receiver (Proxy p) to in
      let own : own_proxy g b.id.client ≡ p = cc in
      let opened = released_open good.entry good.among good.now in
      let here : standing_in g J b.id ≡ Some (Open []) = subst (λ (i : Id). standing_in g J i ≡ Some (Open [])) (sym good.id) opened in
      ComesFast r b (subst (λ (k : ℕ). standing_of (state_after g (Proxy k) J) b.id ≡ Some (Open [])) own here) (good_said g t L r receiver b good) good.delay
  at_proxy p _ _ (FliesSlow r other b a delay decided) to =
      let same : Proxy other ≡ Proxy p = same_actor (Proxy other) (Proxy p) to in
      let own : other ≡ p = cc in
      subst (λ (k : ℕ). MayCome (said_of g L) (state_after g (Proxy k) J) (Replica r, messages.SlowReply b)) own (ComesSlow r b a decided delay)
  at_proxy p _ _ (FliesAnswer other c b e fast among own past now) to = absurd cc
  at_proxy p _ _ (FliesLogMod r b later keys) to = absurd cc
  at_proxy p _ _ (FliesReport r b least) to = absurd cc

  all_come : (p : ℕ) (xs : List (Actor × Out)) → AllByRecursion (λ (x : Actor × Out). MayFly g t L E J x.0 x.1) xs
      → AllByRecursion (MayCome (said_of g L) (state_after g (Proxy p) J)) (heard_by (Proxy p) xs)
  all_come p [] all = tt
  all_come p (x ∷ xs) all = elim (cases_Bool (actor_eq x.1.0 (Proxy p))) [
    | inl mine ↦ rw mine (at_proxy p x.0 x.1 all.0 mine, all_come p xs all.1)
    | inr other ↦ rw other (all_come p xs all.1)
  ]

  pub proxy_may_hear : (p : ℕ) → AllByRecursion (MayCome (said_of g L) (state_after g (Proxy p) J)) (heard_by (Proxy p) flight)
  proxy_may_hear p = all_come p flight q.flies
