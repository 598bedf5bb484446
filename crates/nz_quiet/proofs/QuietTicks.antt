-- What each actor of a quiet run does in a tick: its premises are in the invariant.
use Rattle.std.proofs.Common.{◌≡◌, ℕ, suc, ◌*◌, ◌<◌, ◌≤◌, Bool, true, false, cond, not, List, [], ◌∷◌, ◌++◌, length, map}
use Rattle.std.proofs.Common.{length-append, refl, sym, ap, subst, ◌∙◌, inl, inr, arith}
use Rattle.std.specs.List.{AllByRecursion}
use Rattle.std.proofs.lemmas.Bool.{and_from, lt-ltb, eq-eqb}
use Rattle.std.proofs.lemmas.Bool.Decides.{nat_tests}
use Rattle.std.proofs.lemmas.List.{append-nil, length-replicate}
use Rattle.nz_base.specs.Actor.{actor_eq}
use Rattle.nz_base.specs.Cluster.{replica_count}
use Rattle.nz_base.specs.declared.actor.Actor.{Actor}
use Rattle.nz_base.specs.declared.actor.Actor.TheVariants.{Replica, Proxy, Client}
use Rattle.nz_base.specs.declared.key.Entry.{Entry}
use Rattle.nz_base.specs.declared.limits.TheConstants.{UNITS_PER_TICK, MAX_TICKS}
use Rattle.nz_base.specs.Log.{keys_of, HaveOwnIds}
use Rattle.nz_base.proofs.Names.{actor_eq_self, same_actor}
use Rattle.nz_buffers.specs.Buffers.{is_due, released, held_back}
use Rattle.nz_msg.specs.declared.message.Message.{Message}
use Rattle.nz_machine.specs.declared.event.Record.{Record}
use Rattle.nz_machine.specs.rules.Facts.{HasFacts}
use Rattle.nz_machine.specs.rules.State.{ReplicaData, State, Group, Out}
use Rattle.nz_machine.specs.rules.Step.{is_in_cluster, is_sized, message_vector, tick_rule, tick_step, event_step}
use Rattle.nz_machine.specs.runs.World.{state_after, Has, IsMember, World}
use Rattle.nz_machine.proofs.runs.Runs.{FitsOut, group_of, has_split, all_has}
use Rattle.nz_machine.proofs.lists.EachItem.{all_append, all_of_prefix, all_back, all_filter, all_imply}
use Rattle.nz_machine.proofs.facts.FitClients as clients
use Rattle.nz_machine.proofs.runs.FitRuns.{all_fit}
use Rattle.nz_machine.proofs.moves.MoveFacts.{tick_keeps}
use Rattle.nz_quiet.specs.Requests.{own_proxy, OfScript}
use Rattle.nz_quiet.specs.Folds.{flight_of, outs_of, heard_by, outs_heard, IsReadable, AreReadable, IsHeardTick}
use Rattle.nz_quiet.specs.Replicas.{bodies_of, ReplicaHears, HearsTimed, HearsLogMod, HearsReport, MayTick, IsTicked, MayHear, AreHeard, HasHeard}
use Rattle.nz_quiet.specs.ProxyTicks.{said_of, IsProxyAfter}
use Rattle.nz_quiet.specs.ClientTicks.{IsClientAfter}
use Rattle.nz_quiet.specs.Invariant.{IsWaiting, IsQuietAt}
use Rattle.nz_quiet.specs.Invariant.{MayFly, FliesRequest, FliesTimed, FliesFast, FliesSlow, FliesAnswer, FliesLogMod, FliesReport}
use Rattle.nz_quiet.proofs.ClientsFlight.{client_may_hear, are_young}
use Rattle.nz_quiet.proofs.ClientsHear.{client_tick}
use Rattle.nz_quiet.proofs.Elements.{all_of_each, is_mapped, of_filter}
use Rattle.nz_quiet.proofs.Few.{few_entries}
use Rattle.nz_quiet.proofs.InFlight.{of_heard}
use Rattle.nz_quiet.proofs.NextTick.{seen_of, IsReplicaAfter, IsNextTick}
use Rattle.nz_quiet.proofs.ProxiesFlight.{proxy_may_hear}
use Rattle.nz_quiet.proofs.ProxiesHear.{proxy_tick, all_answered}
use Rattle.nz_quiet.proofs.ReplicaHears.{hears}
use Rattle.nz_quiet.proofs.ReplicaTicks.{ticks, not_down}

-- ---- who sends

pub members_of : (g : Group) (now older : List Record) → World g (now ++ older) → (a : Actor) (o : Out) → Has (flight_of g now older) (a, o) → IsMember g a
members_of g [] older w a o h = absurd h
members_of g (r ∷ now) older w a o h =
    let outs = (event_step g r.actor (state_after g r.actor (now ++ older)) r.event).1 in
    elim (has_split (flight_of g now older) (map (λ (x : Out). (r.actor, x)) outs) (a, o) h) [
      | inl before ↦ members_of g now older w.1 a o before
      | inr here ↦
          let it = is_mapped (λ (x : Out). (r.actor, x)) outs (a, o) here in
          subst (IsMember g) (sym (ap (λ (y : Actor × Out). y.0) it.is)) w.0.member
    ]

in_cluster : (g : Group) (a : Actor) → IsMember g a → is_in_cluster g.f a ≡ true
in_cluster g (Replica r) member = lt-ltb r (replica_count g.f) member
in_cluster g (Proxy p) member = refl
in_cluster g (Client c) member = refl

-- ---- the premises

module _ (g : Group) (t : ℕ) (L E : List Entry) (flight : List (Actor × Out)) (J : List Record) (now : IsQuietAt g t L E flight J) (w : World g J)
    (short : suc t ≤ MAX_TICKS) where
  abbrev clock : ℕ
  clock = UNITS_PER_TICK * suc t

  -- no one sends to itself
  to_other : (from : Actor) (o : Out) → MayFly g t L E J from o → actor_eq from o.0 ≡ false
  to_other _ _ (FliesRequest c b member has) = refl
  to_other _ _ (FliesTimed p r b fresh deadline standing) = refl
  to_other _ _ (FliesFast r to b good) = subst (λ (a : Actor). actor_eq (Replica r) a ≡ false) (sym good.to_proxy) refl
  to_other _ _ (FliesSlow r p b a delay decided) = refl
  to_other _ _ (FliesAnswer p c b e fast among is past recent) = refl
  to_other _ _ (FliesLogMod r b least own) = grind (arith, nat_tests, least)
  to_other _ _ (FliesReport r b least) = grind (arith, nat_tests, least)

  -- vectors have a counter for each replica
  is_wide : (from : Actor) (o : Out) → MayFly g t L E J from o → is_sized g.f (message_vector o.1) ≡ true
  is_wide _ _ (FliesRequest c b member has) = refl
  is_wide _ _ (FliesTimed p r b fresh deadline standing) = refl
  is_wide _ _ (FliesFast r to b good) = eq-eqb (length b.vector) (replica_count g.f) (ap length good.vector ∙ length-replicate (replica_count g.f) 0)
  is_wide _ _ (FliesSlow r p b a delay decided) = refl
  is_wide _ _ (FliesAnswer p c b e fast among is past recent) = refl
  is_wide _ _ (FliesLogMod r b least own) = eq-eqb (length b.vector) (replica_count g.f) (ap length own.vector ∙ length-replicate (replica_count g.f) 0)
  is_wide _ _ (FliesReport r b least) = refl

  -- what is in flight is read
  pub all_read : ((a : Actor) (o : Out) → Has flight (a, o) → IsMember g a) → AllByRecursion (λ (x : Actor × Out). FitsOut x.0 x.1) flight
      → (a : Actor) → AreReadable g.f a flight
  all_read members fit a = all_of_each (λ (x : Actor × Out). actor_eq x.1.0 a ≡ true → IsReadable g.f a x) flight each
    where
      each : (x : Actor × Out) → Has flight x → actor_eq x.1.0 a ≡ true → IsReadable g.f a x
      each x among mine =
          let fits = all_has (λ (y : Actor × Out). FitsOut y.0 y.1) flight x fit among in
          let may = all_has (λ (y : Actor × Out). MayFly g t L E J y.0 y.1) flight x now.flies among in
          record {
            sender = fits.sender;
            receiver = fits.receiver;
            message = fits.message;
            other = subst (λ (b : Actor). actor_eq x.0 b ≡ false) (same_actor x.1.0 a mine) (to_other x.0 x.1 may);
            counts = and_from _ _ (in_cluster g x.0 (members x.0 x.1 among)) (is_wide x.0 x.1 may);
          }

  -- ---- a replica

  facts : (r : ℕ) → HasFacts g.f r (state_after g (Replica r) J)
  facts r = (all_fit g J w).states (Replica r)

  pub own_ids : HaveOwnIds (keys_of (L ++ E))
  own_ids =
      let s = state_after g (Replica 0) J in
      let q = now.replicas 0 (omega arith) in
      let all = (facts 0).entries.arranged.own_ids in
      let same : s.log.entries ++ (s.early ++ s.late) ≡ L ++ E =
      ap (λ (es : List Entry). s.log.entries ++ (s.early ++ es)) q.none_late ∙ ap (λ (es : List Entry). s.log.entries ++ es) (append-nil s.early)
      ∙ (λ i. q.log i ++ q.early i) in
      subst (λ (es : List Entry). HaveOwnIds (keys_of es)) same all

  may_tick : (r : ℕ) → r < replica_count g.f → MayTick g t r L E (state_after g (Replica r) J)
  may_tick r lt =
      let group = group_of g J w in
      let timer = now.quiet r lt in
      let many = few_entries g.scripts (L ++ E) now.ours own_ids in
      let most = group.few_requests in
      let long = length-append L E in
      record {
        replica = now.replicas r lt;
        facts = facts r;
        quiet = omega (arith, timer);
        later = all_imply (IsWaiting g t J) (λ (e : Entry). UNITS_PER_TICK * t < e.key.deadline) (λ e waits. waits.later) E now.early;
        few = omega (arith, many, most, long);
        ticks = short;
      }

  may_hear : (r : ℕ) (u : ReplicaData) (outs : List Out) → r < replica_count g.f → IsTicked g t r L E (state_after g (Replica r) J) u outs → HasFacts g.f r u
      → MayHear g t r L E (held_back E clock) u
  may_hear r u outs lt ticked kept =
      let Own = OfScript g.scripts in
      let log = all_of_prefix Own L E now.ours in
      let early = all_back Own L E now.ours in
      let due = released E clock in
      record {
        replica = ticked.state;
        facts = kept;
        ours =
            all_append Own (L ++ due) (held_back E clock) (all_append Own L due log (all_filter Own (is_due clock) E early))
            (all_filter Own (λ (e : Entry). not (is_due clock e)) E early);
        past =
            all_append (λ (e : Entry). e.key.deadline ≤ clock) L due
            (all_imply (λ (e : Entry). e.key.deadline ≤ UNITS_PER_TICK * t) (λ (e : Entry). e.key.deadline ≤ clock) (λ e low. omega (arith, low)) L now.past)
            (all_of_each (λ (e : Entry). e.key.deadline ≤ clock) due
            (λ e among. let is = (of_filter (is_due clock) E e among).1 in grind (arith, nat_tests, is)));
        synced = λ least.
            let same = ticked.synced least in
            let within = (facts r).entries.within in
            let long = ap length (now.replicas r lt).log in
            omega (arith, same, within, long);
      }

  replica_hears : (r : ℕ) (from : Actor) (m : Message) → MayFly g t L E J from (Replica r, m) → ReplicaHears g t r L E from m
  replica_hears r _ _ (FliesTimed p _ b fresh deadline standing) = HearsTimed p b fresh
  replica_hears r _ _ (FliesFast q _ b good) = absurd (let wrong = good.to_proxy in cc)
  replica_hears r _ _ (FliesLogMod _ b least own) = HearsLogMod b least own
  replica_hears r _ _ (FliesReport q b least) = HearsReport q b

  are_heard : (r : ℕ) → AreReadable g.f (Replica r) flight → AreHeard g t r L E (heard_by (Replica r) flight)
  are_heard r read =
      all_of_each (λ (x : Actor × Message). ReplicaHears g t r L E x.0 x.1 × IsReadable g.f (Replica r) (x.0, (Replica r, x.1))) (heard_by (Replica r) flight)
      (λ x among.
      let flies = of_heard (Replica r) flight x.0 x.1 among in (
        replica_hears r x.0 x.1 (all_has (λ (y : Actor × Out). MayFly g t L E J y.0 y.1) flight (x.0, (Replica r, x.1)) now.flies flies),
        all_has (λ (y : Actor × Out). actor_eq y.1.0 (Replica r) ≡ true → IsReadable g.f (Replica r) y) flight (x.0, (Replica r, x.1)) read flies
            (actor_eq_self (Replica r)),
      ))

  replica_after : (r : ℕ) (s : ReplicaData) (outs : List Out) → r < replica_count g.f → AreReadable g.f (Replica r) flight
      → IsHeardTick g (Replica r) clock flight (state_after g (Replica r) J) s outs → IsReplicaAfter g t r L E flight (state_after g (Replica r) J) s outs
  replica_after r s outs lt read tick =
      let before = state_after g (Replica r) J in
      let u = tick_step g (Replica r) before clock in
      let ticked = ticks g t r L E before (may_tick r lt) in
      let up = not_down before.status (now.replicas r lt).normal in
      let kept : HasFacts g.f r u.0 =
      subst (λ (v : ReplicaData × List Out). HasFacts g.f r v.0)
      (sym (ap (λ (b : Bool). cond b (before, []) (tick_rule g.f r before clock)) up)) (tick_keeps g.f r before clock (facts r)) in
      let heard = hears g t r L E (held_back E clock) u.0 (heard_by (Replica r) flight) (group_of g J w) lt (may_hear r u.0 u.1 lt ticked kept)
      (are_heard r read) in
      record {
        middle = u.0;
        first = u.1;
        second = outs_heard g (Replica r) u.0 (heard_by (Replica r) flight);
        ticked = ticked;
        heard =
            subst (λ (v : ReplicaData). HasHeard g t r L E (held_back E clock) u.0 (heard_by (Replica r) flight) v
            (outs_heard g (Replica r) u.0 (heard_by (Replica r) flight)))
            (sym tick.state) heard;
        sends = tick.sends;
      }

  -- ---- the others

  proxy_after : (p : ℕ) (s : State (Proxy p)) (outs : List Out) → p < g.proxies → IsHeardTick g (Proxy p) clock flight (state_after g (Proxy p) J) s outs
      → IsProxyAfter g.f (said_of g L) (state_after g (Proxy p) J) clock (heard_by (Proxy p) flight) s outs
  proxy_after p s outs lt tick =
      let q = now.proxies p lt in
      let done = proxy_tick g p (said_of g L) (state_after g (Proxy p) J) clock (heard_by (Proxy p) flight) (group_of g J w).least_f q.up
      (omega (arith, short)) q.count q.samples (proxy_may_hear g t L E flight J now p) in
      subst (λ (os : List Out). IsProxyAfter g.f (said_of g L) (state_after g (Proxy p) J) clock (heard_by (Proxy p) flight) s os) (sym tick.sends)
      (subst (λ (v : State (Proxy p)). IsProxyAfter g.f (said_of g L) (state_after g (Proxy p) J) clock (heard_by (Proxy p) flight) v
      ((tick_step g (Proxy p) (state_after g (Proxy p) J) clock).1
      ++ outs_heard g (Proxy p) (tick_step g (Proxy p) (state_after g (Proxy p) J) clock).0 (heard_by (Proxy p) flight))) (sym tick.state) done)

  client_after : (c : ℕ) (s : State (Client c)) (outs : List Out) → c < length g.scripts
      → IsHeardTick g (Client c) clock flight (state_after g (Client c) J) s outs
      → IsClientAfter g c (state_after g (Client c) J) (heard_by (Client c) flight) s outs (seen_of g c J clock flight)
  client_after c s outs lt tick =
      let at_tick = now.ticks c lt in
      let turn = (all_fit g J w).states (Client c) in
      let done = client_tick g c (state_after g (Client c) J) clock (heard_by (Client c) flight) (omega (arith, at_tick, short))
      (are_young g t L E flight J now c lt)
      turn.sent (client_may_hear g t L E flight J now c lt) in
      subst (λ (os : List Out). IsClientAfter g c (state_after g (Client c) J) (heard_by (Client c) flight) s os (seen_of g c J clock flight)) (sym tick.sends)
      (subst (λ (v : State (Client c)). IsClientAfter g c (state_after g (Client c) J) (heard_by (Client c) flight) v
      ((tick_step g (Client c) (state_after g (Client c) J) clock).1
      ++ outs_heard g (Client c) (tick_step g (Client c) (state_after g (Client c) J) clock).0 (heard_by (Client c) flight))
      (seen_of g c J clock flight)) (sym tick.state) done)

  -- ---- all of them

  pub next_tick : (K : List Record) (next : List (Actor × Out)) → ((a : Actor) → AreReadable g.f a flight)
      → ((a : Actor) → IsMember g a → IsHeardTick g a clock flight (state_after g a J) (state_after g a K) (outs_of a next))
      → ((a : Actor) (o : Out) → Has next (a, o) → IsMember g a)
      → ((r q : ℕ) → r < replica_count g.f → q < replica_count g.f → bodies_of (heard_by (Replica r) next) ≡ bodies_of (heard_by (Replica q) next))
      → IsNextTick g t L E flight J K next
  next_tick K next read tick members same = record {
    group = group_of g J w;
    own_ids = own_ids;
    turns = λ c lt. (all_fit g J w).states (Client c);
    members = members;
    same = same;
    replicas = λ r lt. replica_after r (state_after g (Replica r) K) (outs_of (Replica r) next) lt (read (Replica r)) (tick (Replica r) lt);
    proxies = λ p lt. proxy_after p (state_after g (Proxy p) K) (outs_of (Proxy p) next) lt (tick (Proxy p) lt);
    answered = λ id standing replied.
        let p = own_proxy g id.client in
        let lt = clients.own_proxy g.proxies id.client (group_of g J w).least_proxies in
        all_answered g.f (said_of g L) (state_after g (Proxy p) J) (state_after g (Proxy p) K) clock (heard_by (Proxy p) flight) (outs_of (Proxy p) next) id
        (group_of g J w).least_f (proxy_after p (state_after g (Proxy p) K) (outs_of (Proxy p) next) lt (tick (Proxy p) lt)) standing replied;
    clients = λ c lt. client_after c (state_after g (Client c) K) (outs_of (Client c) next) lt (tick (Client c) lt);
  }
