-- What a decision rests on supports the prefix that was accepted. The premise on digests is used here, and nowhere
-- else.
use Rattle.std.proofs.Common.{◌≡◌, ℕ, suc, Bool, eqb, eqb-true, eq-eqb, true, ◌&&◌, is_some, List, [], ◌∷◌, length}
use Rattle.std.proofs.Common.{take, map, Option, Some, None, refl, sym, ap, subst, ◌∙◌, arith, inl, inr, ◌⊎◌}
use Rattle.std.specs.List.{list_any}
use Rattle.std.specs.Str.{bytes_eq}
use Rattle.std.proofs.lemmas.Bool.{leb-true, and_parts, or_cases}
use Rattle.std.proofs.lemmas.List.{length-map}
use Rattle.std.proofs.lemmas.Slice.Eq.{bytes_eq-Decides}
use Rattle.nz_base.specs.Actor.{actor_eq}
use Rattle.nz_base.specs.Cluster.{replica_count, leader_of, slow_size, fast_size}
use Rattle.nz_base.specs.Log.{keys_of, HaveOwnIds}
use Rattle.nz_base.specs.Prefixes.{IsPrefix}
use Rattle.nz_base.specs.declared.actor.Actor.{Actor}
use Rattle.nz_base.specs.declared.actor.Actor.TheVariants.{Replica}
use Rattle.nz_base.specs.declared.key.Id.{Id}
use Rattle.nz_base.specs.declared.key.Key.{Key}
use Rattle.nz_base.specs.declared.key.Entry.{Entry}
use Rattle.nz_base.proofs.Moments.{at_self}
use Rattle.nz_base.proofs.Names.{actor_eq_self}
use Rattle.nz_base.proofs.Prefixes.{prefix_then, prefix_take, prefix_map, prefix_none}
use Rattle.nz_math.specs.Count.{count_below}
use Rattle.nz_store.specs.declared.command.Answer.{Answer}
use Rattle.nz_digest.specs.Digests.{EntryKey, digest}
use Rattle.nz_log.specs.Places.{place_of, entry_key}
use Rattle.nz_machine.specs.declared.event.Record.{Record}
use Rattle.nz_machine.specs.declared.reply.Reply.{Reply}
use Rattle.nz_machine.specs.declared.reply.Reply.TheVariants.{Fast, Slow}
use Rattle.nz_machine.specs.rules.State.{Group}
use Rattle.nz_machine.specs.rules.Replicas.{is_normal, leads}
use Rattle.nz_machine.specs.rules.Quorums.{view_of, is_of_leader, is_slow_of, agrees_of, supports_slowly, supports_fast}
use Rattle.nz_machine.specs.runs.World.{World, Has}
use Rattle.nz_machine.proofs.facts.Choices.{HasQuorum, BySlow, ByFast, quorum_leads}
use Rattle.nz_machine.specs.runs.History.{log_at, cut_at, cut_after, ReplySource, prefix_at_source}
use Rattle.nz_machine.specs.runs.OneHistory.{HasReplyOver, NoCollision}
use Rattle.nz_machine.specs.runs.Incarnations.{replica_at}
use Rattle.nz_laws_commit.specs.Supports.{IsNormal, IsUpIn, HadSynced, FastReplied, IsLedAt, Support, keys_at}
use Rattle.nz_laws_commit.specs.Instance.{logs_of}
use Rattle.nz_laws_commit.proofs.RunLaws.{RunLaws}
use Rattle.nz_laws_commit.proofs.Deciding.{slowly, quickly}
use Rattle.nz_laws_commit.proofs.Instance.{is_normal_at, up_status, normal_up_status, lead_is}
use Rattle.nz_laws_commit.proofs.Keyed.{IsAt, place_key, at_longer, at_taken, one_place, lead_own}
use Rattle.nz_laws_commit.proofs.NotedWereSent.{SaysFast, SaysSlow, IsSaid, Fastly, Slowly, WasSaid, IsBacked}
use Rattle.nz_laws_commit.proofs.Accepted.{IsDecidedIn}

-- ---- replies

-- a reply that passes a test is among some where the test finds one
any_reply : (p : Reply → Bool) (replies : List Reply) → list_any p replies ≡ true → (x : Reply) × (Has replies x × (p x ≡ true))
any_reply p [] h = absurd cc
any_reply p (x ∷ replies) h = elim (or_cases (p x) (list_any p replies) h) [
  | inl here ↦ (x, (inl refl, here))
  | inr there ↦ let t = any_reply p replies there in (t.0, (inr t.1.0, t.1.1))
]

record SameFast (r v : ℕ) (d u : List ℕ) (m w : ℕ) (e x : List ℕ) : Type 0 where
  replica : r ≡ m
  view : v ≡ w
  digest : d ≡ e
  vector : u ≡ x

same_fast : (r v : ℕ) (d u : List ℕ) (a : Option Answer) (m w : ℕ) (e x : List ℕ) (b : Option Answer) → Fast r v d u a ≡ Fast m w e x b
    → SameFast r v d u m w e x
same_fast r v d u a m w e x b is = record { replica = cc; view = cc; digest = cc; vector = cc }

same_slow : (r v m w : ℕ) → Slow r v ≡ Slow m w → (r ≡ m) × (v ≡ w)
same_slow r v m w is = (cc, cc)

not_slow : {A : Type 0} (r v : ℕ) (d u : List ℕ) (a : Option Answer) (m w : ℕ) → Fast r v d u a ≡ Slow m w → A
not_slow r v d u a m w is = absurd cc

not_fast : {A : Type 0} (r v : ℕ) (d u : List ℕ) (a : Option Answer) (m w : ℕ) → Slow m w ≡ Fast r v d u a → A
not_fast r v d u a m w is = absurd cc

same_bytes : (xs ys : List ℕ) → bytes_eq xs ys ≡ true → xs ≡ ys
same_bytes xs ys h = (bytes_eq-Decides xs ys).0 h

same_replica : (m n : ℕ) → Replica m ≡ Replica n → m ≡ n
same_replica m n e = cc

-- ---- keys of digests

abbrev key_of : EntryKey → Key
key_of k = record { deadline = k.deadline; client = k.client; num = k.num }

digest_keys : (es : List Entry) → keys_of es ≡ map key_of (map entry_key es)
digest_keys [] = refl
digest_keys (e ∷ es) = ap (λ (ks : List Key). e.key ∷ ks) (digest_keys es)

cut_prefix : (id : Id) (log : List Entry) → IsPrefix (cut_after id log) log
cut_prefix id log = by_place (place_of log id)
  where
    by_place : (o : Option ℕ) → IsPrefix (cut_at o log) log
    by_place None = prefix_none log
    by_place (Some place) = prefix_take (suc place) log

cut_keys : (id : Id) (log : List Entry) → IsPrefix (keys_of (cut_after id log)) (keys_of log)
cut_keys id log = prefix_map (λ (e : Entry). e.key) (cut_after id log) log (cut_prefix id log)

-- the digest of a fast reply is over what it cuts of its log
said_digest : (g : Group) (J : List Record) (id : Id) (m : ℕ) (reply : Reply) (K : List Record) (s : SaysFast g J id m reply K)
    → s.body.digest ≡ digest (map entry_key (cut_after id (replica_at g m (s.newest ∷ s.older)).log.entries))
said_digest g J id m reply K s =
    let log = (replica_at g m (s.newest ∷ s.older)).log.entries in
    let place_is : place_of log id ≡ Some s.shows.place = ap (place_of log) (sym s.same) ∙ s.shows.place_is in
    s.shows.digest ∙ ap (λ (o : Option ℕ). digest (map entry_key (cut_at o log))) (sym place_is)

-- ---- replies that count

slow_of : (view y : ℕ) (x : Reply) → is_slow_of view y x ≡ true → x ≡ Slow y view
slow_of view y (Fast r v d u a) h = absurd cc
slow_of view y (Slow r v) h = λ i. Slow (eqb-true r y (and_parts (eqb r y) (eqb v view) h).0 i) (eqb-true v view (and_parts (eqb r y) (eqb v view) h).1 i)

-- a reply that agrees: a slow one, or a fast one with the digest and the vector
abbrev Agrees : ℕ → List ℕ → List ℕ → ℕ → Reply → Type 0
Agrees view digest vector y x = (x ≡ Slow y view) ⊎ ((a : Option Answer) × (x ≡ Fast y view digest vector a))

agrees : (view : ℕ) (digest vector : List ℕ) (y : ℕ) (x : Reply) → agrees_of view digest vector y x ≡ true → Agrees view digest vector y x
agrees view digest vector y (Fast r v d u a) h =
    let rest = (and_parts (eqb r y) (eqb v view && (bytes_eq d digest && bytes_eq u vector)) h).1 in
    let more = (and_parts (eqb v view) (bytes_eq d digest && bytes_eq u vector) rest).1 in
    let replica = eqb-true r y (and_parts (eqb r y) (eqb v view && (bytes_eq d digest && bytes_eq u vector)) h).0 in
    let views = eqb-true v view (and_parts (eqb v view) (bytes_eq d digest && bytes_eq u vector) rest).0 in
    let digests = same_bytes d digest (and_parts (bytes_eq d digest) (bytes_eq u vector) more).0 in
    let vectors = same_bytes u vector (and_parts (bytes_eq d digest) (bytes_eq u vector) more).1 in
    inr (a, λ i. Fast (replica i) (views i) (digests i) (vectors i) a)
agrees view digest vector y (Slow r v) h = inl
    (λ i. Slow (eqb-true r y (and_parts (eqb r y) (eqb v view) h).0 i) (eqb-true v view (and_parts (eqb r y) (eqb v view) h).1 i))

-- ---- the support

module _ (g : Group) (J : List Record) (w : World g J) (h : RunLaws (logs_of g) J) (apart : NoCollision g J) where
  -- who replied slowly had as many entries synced
  had_slow : (v : ℕ) (P : List Entry) (id : Id) (place : ℕ) → place_of P id ≡ Some place → length P ≡ suc place → IsPrefix (keys_of P) ((logs_of g).lead v J)
      → (y m : ℕ) (reply : Reply) (K : List Record) → SaysSlow g J id m reply K → reply ≡ Slow y v → HadSynced (logs_of g) v y (length (keys_of P)) J
  had_slow v P id place place_is ends part y m reply K s is =
      let moment = s.newest ∷ s.older in
      let t = replica_at g m moment in
      let same = same_slow y v m s.body.view (sym is ∙ s.reply_is) in
      let view : t.view ≡ v = sym (same.1 ∙ ap (λ b. b.view) s.shows.read) in
      let normal = is_normal_at g m v moment s.shows.normal view in
      let up : IsUpIn (logs_of g) m v moment = record { up = normal_up_status t.status s.shows.normal; last = h.modes m moment s.at normal.status ∙ view } in
      let synced = h.synced_lead m v moment s.at up in
      let whole = prefix_then (take t.log.synced (keys_of t.log.entries)) ((logs_of g).lead v moment) ((logs_of g).lead v J) synced
      (h.lead_grows v moment J (at_self J) s.at) in
      let there : IsAt (keys_of t.log.entries) id s.shows.place = place_key t.log.entries id s.shows.place
      (ap (place_of t.log.entries) (sym s.same) ∙ s.shows.place_is) in
      let in_lead = at_longer (take t.log.synced (keys_of t.log.entries)) ((logs_of g).lead v J) id s.shows.place whole
      (at_taken t.log.synced (keys_of t.log.entries) id s.shows.place s.shows.synced there) in
      let mine = at_longer (keys_of P) ((logs_of g).lead v J) id place part (place_key P id place place_is) in
      let one = one_place ((logs_of g).lead v J) id place s.shows.place (subst HaveOwnIds (sym (lead_is g v J)) (lead_own g J w v)) mine in_lead in
      let long : length (keys_of P) ≡ length P = length-map P (λ (e : Entry). e.key) in
      let within = s.shows.synced in
      subst (λ (z : ℕ). HadSynced (logs_of g) v z (length (keys_of P)) J) (sym same.0)
      (record { K = moment; moment = s.at; normal = normal; enough = omega (arith, long, ends, one, within) })

  -- who replied with the digest and the vector could reply for the same keys
  over_fast : (v : ℕ) (P : List Entry) (id : Id) (u : List ℕ) (d : List ℕ) → HasReplyOver g J (map entry_key P) → d ≡ digest (map entry_key P)
      → (y m : ℕ) (a : Option Answer) (reply : Reply) (K : List Record) → SaysFast g J id m reply K → reply ≡ Fast y v d u a
      → FastReplied (logs_of g) v y (keys_of P) u J
  over_fast v P id u d over is_digest y m a reply K s is =
      let moment = s.newest ∷ s.older in
      let before = replica_at g m s.older in
      let t = replica_at g m moment in
      let same = same_fast y v d u a m s.body.view s.body.digest s.body.vector s.body.answer (sym is ∙ s.reply_is) in
      let view : before.view ≡ v = sym (same.view ∙ s.shows.view) in
      let cut = cut_after id t.log.entries in
      let digests : digest (map entry_key cut) ≡ digest (map entry_key P) = sym (said_digest g J id m reply K s) ∙ sym same.digest ∙ is_digest in
      let keys : map entry_key cut ≡ map entry_key P = apart (map entry_key cut) (map entry_key P) s.over over digests in
      let own : keys_of cut ≡ keys_of P = digest_keys cut ∙ ap (map key_of) keys ∙ sym (digest_keys P) in
      subst (λ (z : ℕ). FastReplied (logs_of g) v z (keys_of P) u J) (sym same.replica)
      (record {
        r = s.newest;
        K = s.older;
        moment = s.at;
        actor = ap (λ (x : Actor). actor_eq x (Replica m)) s.actor ∙ actor_eq_self (Replica m);
        normal = is_normal_at g m v s.older s.shows.normal view;
        after = record { up = up_status t.status s.shows.up; last = s.shows.last ∙ view };
        vector = sym s.shows.vector ∙ sym same.vector;
        holds = subst (λ (ks : List Key). IsPrefix ks (keys_of t.log.entries)) own (cut_keys id t.log.entries);
      })

  said_slow : (v : ℕ) (P : List Entry) (id : Id) (place : ℕ) → place_of P id ≡ Some place → length P ≡ suc place → IsPrefix (keys_of P) ((logs_of g).lead v J)
      → (y : ℕ) (x : Reply) → WasSaid g J id x → x ≡ Slow y v → HadSynced (logs_of g) v y (length (keys_of P)) J
  said_slow v P id place place_is ends part y x said is = by_said said.said
    where
      by_said : IsSaid g J id x said.from said.moment → HadSynced (logs_of g) v y (length (keys_of P)) J
      by_said (Fastly m by s) = not_fast m s.body.view s.body.digest s.body.vector s.body.answer y v (sym is ∙ s.reply_is)
      by_said (Slowly m by s) = had_slow v P id place place_is ends part y m x said.moment s is

  said_fast : (v : ℕ) (P : List Entry) (id : Id) (u : List ℕ) (d : List ℕ) → HasReplyOver g J (map entry_key P) → d ≡ digest (map entry_key P)
      → (y : ℕ) (a : Option Answer) (x : Reply) → WasSaid g J id x → x ≡ Fast y v d u a → FastReplied (logs_of g) v y (keys_of P) u J
  said_fast v P id u d over is_digest y a x said is = by_said said.said
    where
      by_said : IsSaid g J id x said.from said.moment → FastReplied (logs_of g) v y (keys_of P) u J
      by_said (Fastly m by s) = over_fast v P id u d over is_digest y m a x said.moment s is
      by_said (Slowly m by s) = not_slow y v d u a m s.body.view (sym is ∙ s.reply_is)

  -- the chosen reply, of the leader m of its view v, at the moment at which it was said
  module _ (v : ℕ) (P : List Entry) (id : Id) (place : ℕ) (place_is : place_of P id ≡ Some place) (ends : length P ≡ suc place)
      (d u : List ℕ) (a : Option Answer) (source : ReplySource) (at_source : P ≡ prefix_at_source g id source)
      (backed : IsBacked g J id (Fast (leader_of g.f v) v d u a) source) (m : ℕ) (by : source.sender ≡ Replica m)
      (s : SaysFast g J id m (Fast (leader_of g.f v) v d u a) source.run) where
    abbrev moment : List Record
    moment = s.newest ∷ s.older

    same : SameFast (leader_of g.f v) v d u m s.body.view s.body.digest s.body.vector
    same = same_fast (leader_of g.f v) v d u a m s.body.view s.body.digest s.body.vector s.body.answer s.reply_is

    before_view : (replica_at g m s.older).view ≡ v
    before_view = sym (same.view ∙ s.shows.view)

    led_now : (is_normal (replica_at g m moment).status ≡ true) × ((replica_at g m moment).view ≡ (replica_at g m s.older).view)
    led_now = s.shows.led (eq-eqb (leader_of g.f (replica_at g m s.older).view) m (ap (leader_of g.f) before_view ∙ same.replica))

    prefix_is : P ≡ cut_after id (replica_at g m moment).log.entries
    prefix_is = at_source ∙ ap (λ (x : Actor). cut_after id (log_at g x source.run)) by ∙ ap (λ (L : List Record). cut_after id (log_at g (Replica m) L)) s.is

    own_holds : IsPrefix (keys_of P) (keys_of (replica_at g m moment).log.entries)
    own_holds = subst (λ (l : List Entry). IsPrefix (keys_of l) (keys_of (replica_at g m moment).log.entries)) (sym prefix_is)
        (cut_keys id (replica_at g m moment).log.entries)

    led : IsLedAt (logs_of g) v (keys_of P) moment J
    led = record {
      moment = s.at;
      normal = subst (λ (z : ℕ). IsNormal (logs_of g) z v moment) (sym same.replica) (is_normal_at g m v moment led_now.0 (led_now.1 ∙ before_view));
      holds = subst (λ (z : ℕ). IsPrefix (keys_of P) (keys_of (replica_at g z moment).log.entries)) (sym same.replica) own_holds;
    }

    part : IsPrefix (keys_of P) ((logs_of g).lead v J)
    part =
        let is = h.lead_is v moment s.at led.normal in
        let grows = subst (λ (l : List Key). IsPrefix l ((logs_of g).lead v J)) (sym is) (h.lead_grows v moment J (at_self J) s.at) in
        prefix_then (keys_of P) (keys_at (logs_of g) (leader_of g.f v) moment) ((logs_of g).lead v J) led.holds grows

    over : HasReplyOver g J (map entry_key P)
    over = subst (λ (l : List Entry). HasReplyOver g J (map entry_key l)) (sym prefix_is) s.over

    digest_is : d ≡ digest (map entry_key P)
    digest_is = same.digest ∙ said_digest g J id m (Fast (leader_of g.f v) v d u a) source.run s
        ∙ ap (λ (l : List Entry). digest (map entry_key l)) (sym prefix_is)

    vector_is : u ≡ (replica_at g (leader_of g.f v) moment).vector
    vector_is = subst (λ (z : ℕ). u ≡ (replica_at g z moment).vector) (sym same.replica) (same.vector ∙ s.shows.vector)

    each_slow : (y : ℕ) → supports_slowly g.f backed.replies (Fast (leader_of g.f v) v d u a) y ≡ true
        → (y ≡ leader_of g.f v) ⊎ HadSynced (logs_of g) v y (length (keys_of P)) J
    each_slow y test = elim (or_cases (eqb y (leader_of g.f v)) (list_any (is_slow_of v y) backed.replies) test) [
      | inl leads ↦ inl (eqb-true y (leader_of g.f v) leads)
      | inr replied ↦
          let x = any_reply (is_slow_of v y) backed.replies replied in
          inr (said_slow v P id place place_is ends part y x.0 (backed.said x.0 x.1.0) (slow_of v y x.0 x.1.1))
    ]

    each_fast : (y : ℕ) → supports_fast g.f backed.replies (Fast (leader_of g.f v) v d u a) y ≡ true
        → (y ≡ leader_of g.f v) ⊎ (HadSynced (logs_of g) v y (length (keys_of P)) J ⊎ FastReplied (logs_of g) v y (keys_of P) u J)
    each_fast y test = elim (or_cases (eqb y (leader_of g.f v)) (list_any (agrees_of v d u y) backed.replies) test) [
      | inl leads ↦ inl (eqb-true y (leader_of g.f v) leads)
      | inr replied ↦
          let x = any_reply (agrees_of v d u y) backed.replies replied in
          elim (agrees v d u y x.0 x.1.1) [
            | inl slow ↦ inr (inl (said_slow v P id place place_is ends part y x.0 (backed.said x.0 x.1.0) slow))
            | inr fast ↦ inr (inr (said_fast v P id u d over digest_is y fast.0 x.0 (backed.said x.0 x.1.0) fast.1))
          ]
    ]

    by_quorum : HasQuorum g.f backed.replies (Fast (leader_of g.f v) v d u a) → Support (logs_of g) v (keys_of P) J
    by_quorum (BySlow q) =
        let leads = is_of_leader g.f (Fast (leader_of g.f v) v d u a) in
        let many = count_below (replica_count g.f) (supports_slowly g.f backed.replies (Fast (leader_of g.f v) v d u a)) in
        slowly (logs_of g) J h v (keys_of P) moment led (supports_slowly g.f backed.replies (Fast (leader_of g.f v) v d u a))
        (leb-true (slow_size g.f) many (and_parts leads _ q).1) each_slow
    by_quorum (ByFast q) =
        let leads = is_of_leader g.f (Fast (leader_of g.f v) v d u a) in
        let many = count_below (replica_count g.f) (supports_fast g.f backed.replies (Fast (leader_of g.f v) v d u a)) in
        quickly (logs_of g) J h v (keys_of P) moment led (supports_fast g.f backed.replies (Fast (leader_of g.f v) v d u a))
        (leb-true (fast_size g.f) many (and_parts leads _ q).1)
        (λ y test. subst (λ (x : List ℕ). (y ≡ leader_of g.f v) ⊎
        (HadSynced (logs_of g) v y (length (keys_of P)) J ⊎ FastReplied (logs_of g) v y (keys_of P) x J)) vector_is (each_fast y test))

    supported : Support (logs_of g) v (keys_of P) J
    supported = by_quorum backed.quorum

  by_source : (v : ℕ) (P : List Entry) (id : Id) (place : ℕ) → place_of P id ≡ Some place → length P ≡ suc place
      → (d u : List ℕ) (a : Option Answer) (source : ReplySource)
      → P ≡ prefix_at_source g id source → (backed : IsBacked g J id (Fast (leader_of g.f v) v d u a) source) → Support (logs_of g) v (keys_of P) J
  by_source v P id place place_is ends d u a source at_source backed = by_said backed.own
    where
      by_said : IsSaid g J id (Fast (leader_of g.f v) v d u a) source.sender source.run → Support (logs_of g) v (keys_of P) J
      by_said (Fastly m by s) = supported v P id place place_is ends d u a source at_source backed m by s
      by_said (Slowly m by s) = not_slow (leader_of g.f v) v d u a m s.body.view s.reply_is

  by_reply : (v : ℕ) (P : List Entry) (id : Id) (place : ℕ) → place_of P id ≡ Some place → length P ≡ suc place → (reply : Reply) (source : ReplySource)
      → view_of reply ≡ v → P ≡ prefix_at_source g id source → IsBacked g J id reply source → is_of_leader g.f reply ≡ true
      → Support (logs_of g) v (keys_of P) J
  by_reply v P id place place_is ends (Slow r n) source view at_source backed leads = absurd cc
  by_reply v P id place place_is ends (Fast r n d u a) source view at_source backed leads =
      let leader : r ≡ leader_of g.f v = eqb-true r (leader_of g.f n) (and_parts (eqb r (leader_of g.f n)) (is_some a) leads).0 ∙ ap (leader_of g.f) view in
      let same : Fast r n d u a ≡ Fast (leader_of g.f v) v d u a = λ i. Fast (leader i) (view i) d u a in
      by_source v P id place place_is ends d u a source at_source (subst (λ (x : Reply). IsBacked g J id x source) same backed)

  -- what was accepted in a view is supported in it
  pub accepted_supported : (v : ℕ) (P : List Entry) → IsDecidedIn g J v P → Support (logs_of g) v (keys_of P) J
  accepted_supported v P d =
      let answered = d.given.from.answered in
      by_reply v P d.id answered.place answered.place_is d.given.from.ends d.reply d.source d.view d.at_source d.backed
      (quorum_leads g.f d.backed.replies d.reply d.backed.quorum)
