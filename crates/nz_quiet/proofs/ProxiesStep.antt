-- What a proxy of a quiet run does with one message.
use Rattle.std.proofs.Common.{◌≡◌, ℕ, ◌≤◌, ◌⊎◌, true, false, eqb, List, [], ◌∷◌, ◌++◌, length, Option, Some, None}
use Rattle.std.proofs.Common.{refl, sym, ap, subst, ◌∙◌, inl, inr, arith}
use Rattle.std.specs.List.{AllByRecursion, list_any}
use Rattle.std.proofs.lemmas.Bool.{cases_Bool, cond_both, and_parts, eqb-true}
use Rattle.nz_base.specs.Cluster.{replica_count}
use Rattle.nz_base.specs.declared.actor.Actor.TheVariants.{Replica, Client}
use Rattle.nz_base.specs.declared.key.Id.{Id}
use Rattle.nz_base.specs.declared.limits.TheConstants.{UNITS_PER_TICK}
use Rattle.nz_base.specs.Key.{id_eq}
use Rattle.nz_base.proofs.Names.{same_id}
use Rattle.nz_store.specs.declared.command.Answer.{Answer}
use Rattle.nz_window.specs.Samples.{with_sample, bound_of}
use Rattle.nz_msg.specs.declared.message.Path.{Path}
use Rattle.nz_msg.specs.declared.message.Path.TheVariants as paths
use Rattle.nz_msg.specs.declared.message.RequestBody.{RequestBody}
use Rattle.nz_msg.specs.declared.message.FastReplyBody.{FastReplyBody}
use Rattle.nz_msg.specs.declared.message.SlowReplyBody.{SlowReplyBody}
use Rattle.nz_msg.specs.declared.message.Message.{Message}
use Rattle.nz_msg.specs.declared.message.Message.TheVariants as messages
use Rattle.nz_machine.specs.declared.reply.Reply.{Reply}
use Rattle.nz_machine.specs.rules.State.{ProxyData, Standing, Open, Decided, Out}
use Rattle.nz_machine.specs.runs.Events.{id_at}
use Rattle.nz_machine.specs.rules.Replicas.{numbers_below}
use Rattle.nz_machine.specs.rules.Quorums.{Chosen, decision, answer_in, reply_eq, with_note}
use Rattle.nz_machine.specs.rules.Proxies.{with_standing, standing_of, answer_to_client, timed_to, timed_to_all, after_stamp, stamp_rule, after_chosen_answer}
use Rattle.nz_machine.specs.rules.Proxies.{after_choice, after_replica_reply, reply_rule, of_fast, of_slow}
use Rattle.nz_machine.specs.rules.Step.{proxy_message}
use Rattle.nz_machine.specs.runs.World.{Has}
use Rattle.nz_machine.proofs.runs.Runs.{has_left, has_right, has_split}
use Rattle.nz_machine.proofs.lists.EachItem.{all_append, all_imply}
use Rattle.nz_machine.proofs.lists.ListParts.{all_map}
use Rattle.nz_machine.proofs.lists.Lookups.{lookup_inserted, lookup_other}
use Rattle.nz_machine.proofs.shows.Shows.{all_below}
use Rattle.nz_quiet.specs.Words.{Word}
use Rattle.nz_quiet.specs.Replies.{IsReply}
use Rattle.nz_quiet.specs.ProxyTicks.{AreTicks, IsBound, Said, reply_to, MayCome, ComesRequest, ComesFast, ComesSlow, IsAskedIn, IsRepliedIn, AreNoted}
use Rattle.nz_quiet.specs.ProxyTicks.{Stands, Stays, Opens, Waits, Decides, stamped, MaySend, Stamps, Answers, IsStampedIn, IsProxyAfter}
use Rattle.nz_quiet.proofs.Elements.{has_mapped, has_number}
use Rattle.nz_quiet.proofs.ProxiesBounds.{two_bounds, sampled}
use Rattle.nz_quiet.proofs.ProxiesTally.{good_decide}
use Rattle.nz_quiet.proofs.ProxiesWords.{same_request, same_reply, replied_more, IsSilentOn, stands_more, request_silent, reply_silent, slow_silent}

module _ (f : ℕ) (said : Said) (s : ProxyData) (time : ℕ) where
  -- what a message changes: what is known of one id alone
  record OwnStep (ws : List Word) (w : Word) (outs : List Out) (u : ProxyData) (id : Id) (t : ProxyData × List Out) : Type 0 where
    up : t.0.is_down ≡ u.is_down
    clock : t.0.clock ≡ u.clock
    samples : t.0.samples ≡ u.samples
    others : (x : Id) → id_eq x id ≡ false → standing_of t.0 x ≡ standing_of u x
    own : Stands f said (ws ++ w ∷ []) (outs ++ t.1) id (standing_of s id) (standing_of t.0 id)
    sends : AllByRecursion (MaySend f said s time (ws ++ w ∷ [])) t.1
    requests : (c : ℕ) (b : RequestBody) → Has (w ∷ []) (Client c, messages.Request b) → IsStampedIn f time t.1 c b

  sends_more : (ws vs : List Word) (o : Out) → MaySend f said s time ws o → MaySend f said s time (ws ++ vs) o
  sends_more ws vs _ (Stamps c b bound r has is lt) = Stamps c b bound r (has_left ws vs (Client c, messages.Request b) has) is lt
  sends_more ws vs _ (Answers id is replied) = Answers id is (replied_more ws vs id replied)

  after_step : (ws : List Word) (w : Word) (outs : List Out) (u : ProxyData) (id : Id) (t : ProxyData × List Out)
      → ((x : Id) → id_eq x id ≡ false → IsSilentOn w x) → IsProxyAfter f said s time ws u outs → OwnStep ws w outs u id t
      → IsProxyAfter f said s time (ws ++ w ∷ []) t.0 (outs ++ t.1)
  after_step ws w outs u id t silent h k = record {
    up = k.up ∙ h.up;
    reads = k.clock ∙ h.reads;
    count = ap length k.samples ∙ h.count;
    samples = subst (AllByRecursion AreTicks) (sym k.samples) h.samples;
    standings = λ x. elim (cases_Bool (id_eq x id)) [
      | inl same ↦
          subst (λ (y : Id). Stands f said (ws ++ w ∷ []) (outs ++ t.1) y (standing_of s y) (standing_of t.0 y)) (sym (same_id x id same)) k.own
      | inr other ↦
          subst (Stands f said (ws ++ w ∷ []) (outs ++ t.1) x (standing_of s x)) (sym (k.others x other))
          (stands_more f said ws w outs t.1 x (standing_of s x) (standing_of u x) (silent x other) (h.standings x))
    ];
    sends = all_append (MaySend f said s time (ws ++ w ∷ [])) outs t.1
        (all_imply (MaySend f said s time ws) (MaySend f said s time (ws ++ w ∷ [])) (sends_more ws (w ∷ [])) outs h.sends) k.sends;
    requests = λ c b has. elim (has_split ws (w ∷ []) (Client c, messages.Request b) has) [
      | inl old ↦
          let past = h.requests c b old in
          record { bound = past.bound; is_bound = past.is_bound; each = λ r lt. has_left outs t.1 (stamped time past.bound c b r) (past.each r lt) }
      | inr new ↦
          let now = k.requests c b new in
          record { bound = now.bound; is_bound = now.is_bound; each = λ r lt. has_right outs t.1 (stamped time now.bound c b r) (now.each r lt) }
    ];
  }

  -- ---- a request

  stamped_now : (u : ProxyData) (c : ℕ) (b : RequestBody) → u.clock ≡ time → IsBound (bound_of u.samples)
      → IsStampedIn f time (timed_to_all f u (id_at c b.num) b.command) c b
  stamped_now u c b clock is_bound =
      let outs = timed_to_all f u (id_at c b.num) b.command in
      record {
        bound = bound_of u.samples;
        is_bound = is_bound;
        each = λ r lt. subst (λ (k : ℕ). Has outs (stamped k (bound_of u.samples) c b r)) clock
            (has_mapped (timed_to u (id_at c b.num) b.command) (numbers_below (replica_count f)) r (has_number (replica_count f) r lt));
      }

  stamps_sent : (ws : List Word) (u : ProxyData) (c : ℕ) (b : RequestBody) → u.clock ≡ time → IsBound (bound_of u.samples)
      → Has ws (Client c, messages.Request b) → AllByRecursion (MaySend f said s time ws) (timed_to_all f u (id_at c b.num) b.command)
  stamps_sent ws u c b clock is_bound has =
      let bound = bound_of u.samples in
      all_map (MaySend f said s time ws) (timed_to u (id_at c b.num) b.command) (numbers_below (replica_count f))
      (all_below (λ (r : ℕ). MaySend f said s time ws (stamped u.clock bound c b r)) (replica_count f)
      (λ r lt. subst (λ (k : ℕ). MaySend f said s time ws (stamped k bound c b r)) (sym clock) (Stamps c b bound r has is_bound lt)))

  -- an unknown request is unknown still, or was opened in this tick
  asked_is : (ws : List Word) (outs : List Out) (id : Id) (before after : Option Standing) → before ≡ None → Stands f said ws outs id before after
      → (after ≡ None) ⊎ (after ≡ Some (Open []))
  asked_is ws outs id before after none (Stays is not_asked not_replied) = inl (is ∙ none)
  asked_is ws outs id before after none (Opens first is asked) = inr is
  asked_is ws outs id before after none (Waits rs first is replied h) = absurd cc
  asked_is ws outs id before after none (Decides first is replied sends_answer) = absurd cc

  request_step : (ws : List Word) (outs : List Out) (u : ProxyData) (c : ℕ) (b : RequestBody) → IsProxyAfter f said s time ws u outs
      → standing_of s (id_at c b.num) ≡ None → OwnStep ws (Client c, messages.Request b) outs u (id_at c b.num) (stamp_rule f u c b)
  unfolding stamp_rule
  request_step ws outs u c b h none =
      let id = id_at c b.num in
      let w : Word = (Client c, messages.Request b) in
      let count = h.count in
      let is_bound = two_bounds u.samples h.samples (omega (arith, count)) in
      let here : Has (ws ++ w ∷ []) w = has_right ws (w ∷ []) w (inl refl) in
      let asked : IsAskedIn (ws ++ w ∷ []) id = record { body = b; among = here; of_it = refl } in
      let sent = stamps_sent (ws ++ w ∷ []) u c b h.reads is_bound here in
      let requests : (d : ℕ) (k : RequestBody) → Has (w ∷ []) (Client d, messages.Request k)
      → IsStampedIn f time (timed_to_all f u id b.command) d k = λ d k has. elim has [
        | inl same ↦
            let parts = same_request c d b k same in
            subst (λ (x : ℕ). IsStampedIn f time (timed_to_all f u id b.command) x k) parts.0
            (subst (λ (x : RequestBody). IsStampedIn f time (timed_to_all f u id b.command) c x) parts.1 (stamped_now u c b h.reads is_bound))
        | inr never ↦ absurd never
      ] in
      elim (asked_is ws outs id (standing_of s id) (standing_of u id) none (h.standings id)) [
        | inl unknown ↦ subst (OwnStep ws w outs u id) (sym (ap (after_stamp f u id b.command) unknown)) (record {
          up = refl;
          clock = refl;
          samples = refl;
          others = λ x other. lookup_other u.standings x id (Open []) other;
          own = Opens none (lookup_inserted u.standings id (Open [])) asked;
          sends = sent;
          requests = requests;
        })
        | inr opened ↦ subst (OwnStep ws w outs u id) (sym (ap (after_stamp f u id b.command) opened)) (record {
          up = refl;
          clock = refl;
          samples = refl;
          others = λ x other. refl;
          own = Opens none opened asked;
          sends = sent;
          requests = requests;
        })
      ]

  -- ---- a fast reply

  abbrev Good : Id → List Reply → Type 0
  Good id rs = AllByRecursion (IsReply (said.digest id) said.vector (said.answer id)) rs

  -- an equal one among good ones is the same
  same_noted : (id : Id) (rs : List Reply) (r : ℕ) → Good id rs → list_any (reply_eq (reply_to said id r)) rs ≡ true → Has rs (reply_to said id r)
  same_noted id [] r good h = absurd cc
  same_noted id (y ∷ rs) r good h = elim (cases_Bool (reply_eq (reply_to said id r) y)) [
    | inl here ↦
        let q = good.0.replica in
        let now : reply_eq (reply_to said id r) (reply_to said id q) ≡ true =
        subst (λ (z : Reply). reply_eq (reply_to said id r) z ≡ true) good.0.is here in
        let own : eqb r q ≡ true = (and_parts _ _ now).0 in
        inl (good.0.is ∙ ap (reply_to said id) (sym (eqb-true r q own)))
    | inr away ↦
        let later : list_any (reply_eq (reply_to said id r)) rs ≡ true = rw away at h in
        inr (same_noted id rs r good.1 later)
  ]

  -- the good replies with one more
  record IsNoted (id : Id) (rs : List Reply) (r : ℕ) (noted : List Reply) : Type 0 where
    good : Good id noted
    has : Has noted (reply_to said id r)
    kept : (y : Reply) → Has rs y → Has noted y

  noted_is : (id : Id) (rs : List Reply) (r : ℕ) → Good id rs → IsNoted id rs r (with_note rs (reply_to said id r))
  noted_is id rs r good =
      let y = reply_to said id r in
      cond_both (list_any (reply_eq y) rs) rs (rs ++ y ∷ []) (IsNoted id rs r)
      (λ t. record { good = good; has = same_noted id rs r good t; kept = λ z h. h })
      (λ _. record {
        good = all_append (IsReply (said.digest id) said.vector (said.answer id)) rs (y ∷ []) good (record { replica = r; is = refl }, tt);
        has = has_right rs (y ∷ []) y (inl refl);
        kept = λ z h. has_left rs (y ∷ []) z h;
      })

  no_request : (r : ℕ) (m : Message) (outs : List Out) (c : ℕ) (b : RequestBody) → Has {X = Word} ((Replica r, m) ∷ []) (Client c, messages.Request b)
      → IsStampedIn f time outs c b
  no_request r m outs c b (inl same) = absurd (let kind : Replica r ≡ Client c = ap (λ (w : Word). w.0) same in cc)
  no_request r m outs c b (inr never) = absurd never

  -- with one reply more, and what was decided by it
  noted_step : (ws : List Word) (outs : List Out) (u : ProxyData) (r : ℕ) (b : FastReplyBody) (rs : List Reply) (o : Option Chosen) → 1 ≤ f
      → standing_of s b.id ≡ Some (Open []) → AreNoted f said ws b.id rs → decision f (with_note rs (reply_to said b.id r)) ≡ o
      → OwnStep ws (Replica r, messages.FastReply b) outs u b.id (after_choice u b.id (with_note rs (reply_to said b.id r)) o)
  noted_step ws outs u r b rs None least opened h is =
      let id = b.id in
      let w : Word = (Replica r, messages.FastReply b) in
      let noted = with_note rs (reply_to said id r) in
      let n = noted_is id rs r h.good in
      let replied : IsRepliedIn (ws ++ w ∷ []) id = record { replica = r; body = b; among = has_right ws (w ∷ []) w (inl refl); of_it = refl } in
      record {
        up = refl;
        clock = refl;
        samples = refl;
        others = λ x other. lookup_other u.standings x id (Open noted) other;
        own = Waits noted opened (lookup_inserted u.standings id (Open noted)) replied (record {
          good = n.good;
          undecided = is;
          noted = λ q k has of_it. elim (has_split ws (w ∷ []) (Replica q, messages.FastReply k) has) [
            | inl old ↦ n.kept (reply_to said id q) (h.noted q k old of_it)
            | inr new ↦ elim new [
              | inl same ↦ subst (λ (j : ℕ). Has noted (reply_to said id j)) (same_reply r q b k same).0 n.has
              | inr never ↦ absurd never
            ]
          ];
        });
        sends = tt;
        requests = no_request r (messages.FastReply b) [];
      }
  noted_step ws outs u r b rs (Some chosen) least opened h is =
      let id = b.id in
      let a = said.answer id in
      let w : Word = (Replica r, messages.FastReply b) in
      let noted = with_note rs (reply_to said id r) in
      let n = noted_is id rs r h.good in
      let replied : IsRepliedIn (ws ++ w ∷ []) id = record { replica = r; body = b; among = has_right ws (w ∷ []) w (inl refl); of_it = refl } in
      let fast = good_decide f (said.digest id) said.vector a noted chosen least n.good is in
      let answers = answer_to_client id a paths.Fast ∷ [] in
      let same : after_chosen_answer u id noted chosen.path (answer_in chosen.reply) ≡ (with_standing u id (Decided a paths.Fast), answers) =
      ap (λ (p : Path). after_chosen_answer u id noted p (answer_in chosen.reply)) fast.0 ∙ ap (after_chosen_answer u id noted paths.Fast) fast.1 in
      subst (OwnStep ws w outs u id) (sym same) (record {
        up = refl;
        clock = refl;
        samples = refl;
        others = λ x other. lookup_other u.standings x id (Decided a paths.Fast) other;
        own = Decides opened (lookup_inserted u.standings id (Decided a paths.Fast)) replied
            (has_right outs answers (answer_to_client id a paths.Fast) (inl refl));
        sends = (Answers id opened replied, tt);
        requests = no_request r (messages.FastReply b) answers;
      })

  -- an open request waits still, or was decided in this tick
  data OpenStill (ws : List Word) (outs : List Out) (id : Id) (after : Option Standing) : Type 0 where
    NotYet : (rs : List Reply) → after ≡ Some (Open rs) → AreNoted f said ws id rs → OpenStill ws outs id after
    Already : after ≡ Some (Decided (said.answer id) paths.Fast) → IsRepliedIn ws id → Has outs (answer_to_client id (said.answer id) paths.Fast)
        → OpenStill ws outs id after

  open_is : (ws : List Word) (outs : List Out) (id : Id) (before after : Option Standing) → before ≡ Some (Open []) → Stands f said ws outs id before after
      → OpenStill ws outs id after
  unfolding decision
  open_is ws outs id before after opened (Stays is not_asked not_replied) = NotYet [] (is ∙ opened) (record {
    good = tt;
    undecided = refl;
    noted = λ r b has of_it. absurd (not_replied (record { replica = r; body = b; among = has; of_it = of_it }));
  })
  open_is ws outs id before after opened (Opens none is asked) = absurd cc
  open_is ws outs id before after opened (Waits rs first is replied h) = NotYet rs is h
  open_is ws outs id before after opened (Decides first is replied sends_answer) = Already is replied sends_answer

  reply_step : (ws : List Word) (outs : List Out) (u : ProxyData) (r : ℕ) (b : FastReplyBody) → 1 ≤ f → standing_of s b.id ≡ Some (Open [])
      → OpenStill ws outs b.id (standing_of u b.id)
      → OwnStep ws (Replica r, messages.FastReply b) outs u b.id (after_replica_reply f u b.id (reply_to said b.id r) (standing_of u b.id))
  reply_step ws outs u r b least opened (NotYet rs is h) =
      let y = reply_to said b.id r in
      subst (OwnStep ws (Replica r, messages.FastReply b) outs u b.id) (sym (ap (after_replica_reply f u b.id y) is))
      (noted_step ws outs u r b rs (decision f (with_note rs y)) least opened h refl)
  reply_step ws outs u r b least opened (Already is replied sends_answer) =
      let id = b.id in
      let w : Word = (Replica r, messages.FastReply b) in
      subst (OwnStep ws w outs u id) (sym (ap (after_replica_reply f u id (reply_to said id r)) is)) (record {
        up = refl;
        clock = refl;
        samples = refl;
        others = λ x other. refl;
        own = Decides opened is (replied_more ws (w ∷ []) id replied) (has_left outs [] (answer_to_client id (said.answer id) paths.Fast) sends_answer);
        sends = tt;
        requests = no_request r (messages.FastReply b) [];
      })

  -- ---- a slow reply

  decided_is : (ws : List Word) (outs : List Out) (id : Id) (before after : Option Standing) (a : Answer) (p : Path) → before ≡ Some (Decided a p)
      → Stands f said ws outs id before after → after ≡ Some (Decided a p)
  decided_is ws outs id before after a p decided (Stays is not_asked not_replied) = is ∙ decided
  decided_is ws outs id before after a p decided (Opens none is asked) = absurd cc
  decided_is ws outs id before after a p decided (Waits rs first is replied h) = absurd cc
  decided_is ws outs id before after a p decided (Decides first is replied sends_answer) = absurd cc

  slow_step : (ws : List Word) (outs : List Out) (u : ProxyData) (r : ℕ) (b : SlowReplyBody) (a : Answer) (p : Path) (y : Reply)
      → IsProxyAfter f said s time ws u outs → standing_of s b.id ≡ Some (Decided a p)
      → OwnStep ws (Replica r, messages.SlowReply b) outs u b.id (after_replica_reply f u b.id y (standing_of u b.id))
  slow_step ws outs u r b a p y h decided =
      let id = b.id in
      let w : Word = (Replica r, messages.SlowReply b) in
      let now = decided_is ws outs id (standing_of s id) (standing_of u id) a p decided (h.standings id) in
      subst (OwnStep ws w outs u id) (sym (ap (after_replica_reply f u id y) now)) (record {
        up = refl;
        clock = refl;
        samples = refl;
        others = λ x other. refl;
        own = stands_more f said ws w outs [] id (standing_of s id) (standing_of u id) (slow_silent r b id) (h.standings id);
        sends = tt;
        requests = no_request r (messages.SlowReply b) [];
      })

  -- ---- any message

  sampled_after : (ws : List Word) (outs : List Out) (u : ProxyData) (r delay : ℕ) → delay ≡ UNITS_PER_TICK → IsProxyAfter f said s time ws u outs
      → IsProxyAfter f said s time ws (record u { samples = with_sample u.samples r delay }) outs
  sampled_after ws outs u r delay is h =
      let t = sampled u.samples r delay is h.samples in
      record {
        up = h.up;
        reads = h.reads;
        count = t.1 ∙ h.count;
        samples = t.0;
        standings = h.standings;
        sends = h.sends;
        requests = h.requests;
      }

  pub word_step : (ws : List Word) (outs : List Out) (u : ProxyData) (w : Word) → 1 ≤ f → IsProxyAfter f said s time ws u outs → MayCome said s w
      → IsProxyAfter f said s time (ws ++ w ∷ []) (proxy_message f u w.0 w.1).0 (outs ++ (proxy_message f u w.0 w.1).1)
  unfolding reply_rule
  word_step ws outs u _ least h (ComesRequest c b none) =
      after_step ws (Client c, messages.Request b) outs u (id_at c b.num) (stamp_rule f u c b) (request_silent c b) h (request_step ws outs u c b h none)
  word_step ws outs u _ least h (ComesFast r b opened good delay) =
      let w : Word = (Replica r, messages.FastReply b) in
      let v = record u { samples = with_sample u.samples r b.delay } in
      let k = sampled_after ws outs u r b.delay delay h in
      let still = open_is ws outs b.id (standing_of s b.id) (standing_of v b.id) opened (k.standings b.id) in
      let own = subst (λ (y : Reply). OwnStep ws w outs v b.id (after_replica_reply f v b.id y (standing_of v b.id))) (sym good)
      (reply_step ws outs v r b least opened still) in
      after_step ws w outs v b.id (after_replica_reply f v b.id (of_fast r b) (standing_of v b.id)) (reply_silent r b) k own
  word_step ws outs u _ least h (ComesSlow r b a decided delay) =
      let w : Word = (Replica r, messages.SlowReply b) in
      let v = record u { samples = with_sample u.samples r b.delay } in
      let k = sampled_after ws outs u r b.delay delay h in
      after_step ws w outs v b.id (after_replica_reply f v b.id (of_slow r b) (standing_of v b.id)) (λ x other. slow_silent r b x) k
      (slow_step ws outs v r b a paths.Fast (of_slow r b) k decided)
