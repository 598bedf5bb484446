-- A proxy of a quiet run after all messages of a tick: what it knows of each request, and what it sent.
use Rattle.std.proofs.Common.{◌≡◌, ℕ, ◌<◌, ◌≤◌, Bool, false, cond, min, List, [], ◌∷◌, ◌++◌, length, Option, Some}
use Rattle.std.proofs.Common.{refl, sym, ap, subst, ◌∙◌, arith, append_assoc}
use Rattle.std.specs.List.{AllByRecursion}
use Rattle.std.proofs.lemmas.List.{append-nil}
use Rattle.nz_base.specs.Cluster.{replica_count}
use Rattle.nz_base.specs.declared.actor.Actor.TheVariants.{Replica, Proxy}
use Rattle.nz_base.specs.declared.key.Id.{Id}
use Rattle.nz_base.specs.declared.limits.TheConstants.{MAX_CLOCK}
use Rattle.nz_msg.specs.declared.message.FastReplyBody.{FastReplyBody}
use Rattle.nz_msg.specs.declared.message.Message.TheVariants as messages
use Rattle.nz_machine.specs.rules.State.{ProxyData, Standing, Open, Group, Out}
use Rattle.nz_machine.specs.rules.Proxies.{standing_of, clock_rule}
use Rattle.nz_machine.specs.rules.Step.{proxy_message, message_step, tick_step}
use Rattle.nz_machine.specs.runs.World.{Has}
use Rattle.nz_quiet.specs.Words.{Word}
use Rattle.nz_quiet.specs.Folds.{state_heard, outs_heard}
use Rattle.nz_quiet.specs.ProxyTicks.{AreTicks, Said, MayCome, IsRepliedIn, Stands, Stays, Opens, Waits, Decides, IsProxyAfter, IsAnsweredFast}
use Rattle.nz_quiet.proofs.ProxiesStep.{word_step}
use Rattle.nz_quiet.proofs.ProxiesTally.{all_decide}

-- ---- all messages

-- a proxy that is up takes the message
taken : (g : Group) (p : ℕ) (u : ProxyData) (w : Word) → u.is_down ≡ false → message_step g (Proxy p) u w.0 w.1 ≡ proxy_message g.f u w.0 w.1
taken g p u w up = ap (λ (b : Bool). cond b (u, []) (proxy_message g.f u w.0 w.1)) up

all_heard : (g : Group) (p : ℕ) (said : Said) (s : ProxyData) (time : ℕ) (ws vs : List Word) (outs : List Out) (u : ProxyData) → 1 ≤ g.f
    → IsProxyAfter g.f said s time ws u outs → AllByRecursion (MayCome said s) vs
    → IsProxyAfter g.f said s time (ws ++ vs) (state_heard g (Proxy p) u vs) (outs ++ outs_heard g (Proxy p) u vs)
unfolding state_heard outs_heard
all_heard g p said s time ws [] outs u least h may =
    subst (λ (xs : List Word). IsProxyAfter g.f said s time xs u (outs ++ [])) (sym (append-nil ws))
    (subst (IsProxyAfter g.f said s time ws u) (sym (append-nil outs)) h)
all_heard g p said s time ws (w ∷ vs) outs u least h may =
    let t = message_step g (Proxy p) u w.0 w.1 in
    let Now = λ (x : ProxyData × List Out). IsProxyAfter g.f said s time (ws ++ w ∷ []) x.0 (outs ++ x.1) in
    let now = subst Now (sym (taken g p u w h.up)) (word_step g.f said s time ws outs u w least h may.0) in
    let rest = all_heard g p said s time (ws ++ w ∷ []) vs (outs ++ t.1) t.0 least now may.1 in
    let last = state_heard g (Proxy p) t.0 vs in
    let more = outs_heard g (Proxy p) t.0 vs in
    subst (λ (xs : List Word). IsProxyAfter g.f said s time xs last (outs ++ (t.1 ++ more))) (append_assoc ws (w ∷ []) vs)
    (subst (IsProxyAfter g.f said s time ((ws ++ w ∷ []) ++ vs) last) (append_assoc outs t.1 more) rest)

-- the clock of the tick, before the messages
ticks_first : (g : Group) (p : ℕ) (s : ProxyData) (time : ℕ) → s.is_down ≡ false → time ≤ MAX_CLOCK
    → tick_step g (Proxy p) s time ≡ (record s { clock = time }, [])
unfolding clock_rule
ticks_first g p s time up low =
    let least : min time MAX_CLOCK ≡ time = omega (arith, low) in
    ap (λ (b : Bool). cond b (s, []) (clock_rule s time, [])) up ∙ ap (λ (k : ℕ). (record s { clock = k }, [])) least

pub proxy_tick : (g : Group) (p : ℕ) (said : Said) (s : ProxyData) (time : ℕ) (ws : List Word) → 1 ≤ g.f → s.is_down ≡ false → time ≤ MAX_CLOCK
    → length s.samples ≡ replica_count g.f → AllByRecursion AreTicks s.samples → AllByRecursion (MayCome said s) ws
    → let t = tick_step g (Proxy p) s time in
    IsProxyAfter g.f said s time ws (state_heard g (Proxy p) t.0 ws) (t.1 ++ outs_heard g (Proxy p) t.0 ws)
proxy_tick g p said s time ws least up low count samples may =
    let first = record s { clock = time } in
    let Ends = λ (t : ProxyData × List Out). IsProxyAfter g.f said s time ws (state_heard g (Proxy p) t.0 ws) (t.1 ++ outs_heard g (Proxy p) t.0 ws) in
    subst Ends (sym (ticks_first g p s time up low)) (all_heard g p said s time [] ws [] first least (record {
      up = up;
      reads = refl;
      count = count;
      samples = samples;
      standings = λ id. Stays refl (λ h. h.among) (λ h. h.among);
      sends = tt;
      requests = λ c b has. absurd has;
    }) may)

-- ---- one request

-- where every replica's fast reply to an open request was heard, it is decided fast and the answer is sent
pub all_answered : (f : ℕ) (said : Said) (s t : ProxyData) (time : ℕ) (ws : List Word) (outs : List Out) (id : Id) → 1 ≤ f
    → IsProxyAfter f said s time ws t outs → standing_of s id ≡ Some (Open [])
    → ((r : ℕ) → r < replica_count f → (b : FastReplyBody) × (Has ws (Replica r, messages.FastReply b) × (b.id ≡ id)))
    → IsAnsweredFast said id t outs
all_answered f said s t time ws outs id least h opened each = answered (standing_of s id) (standing_of t id) opened refl (h.standings id)
  where
    first : IsRepliedIn ws id
    first = let one = each 0 (omega arith) in record { replica = 0; body = one.0; among = one.1.0; of_it = one.1.1 }

    answered : (before after : Option Standing) → before ≡ Some (Open []) → standing_of t id ≡ after → Stands f said ws outs id before after
        → IsAnsweredFast said id t outs
    answered before after open_before is (Stays same not_asked not_replied) = absurd (not_replied first)
    answered before after open_before is (Opens none now asked) = absurd cc
    answered before after open_before is (Waits rs was now replied k) =
        let fast = all_decide f (said.digest id) said.vector (said.answer id) rs least k.good
        (λ r lt. let one = each r lt in k.noted r one.0 one.1.0 one.1.1) in
        let none = k.undecided in
        let some = fast.is in
        absurd cc
    answered before after open_before is (Decides was now replied sends_answer) = record { standing = is ∙ now; sends_answer = sends_answer }
