-- A proxy sends only messages that frames can carry.
use Rattle.std.proofs.Common.{◌≡◌, ℕ, ◌-◌, ◌<◌, ◌≤◌, ◌^◌, List, [], ◌∷◌, ◌++◌, Option, Some, None, refl, arith}
use Rattle.std.specs.Prelude.{IfSome, nat_lt, nat_le}
use Rattle.std.specs.List.{AllByRecursion, list_any}
use Rattle.std.proofs.lemmas.Bool.{ltb-true, le-leb, and_parts, and_from, cond_both}
use Rattle.nz_base.specs.Cluster.{replica_count}
use Rattle.nz_base.specs.declared.actor.Actor.{Actor}
use Rattle.nz_base.specs.declared.actor.Actor.TheVariants.{Replica, Proxy, Client}
use Rattle.nz_base.specs.declared.key.Id.{Id}
use Rattle.nz_base.specs.declared.limits.TheConstants.{MAX_CLOCK}
use Rattle.nz_store.specs.declared.command.Answer.{Answer}
use Rattle.nz_window.specs.Samples.{with_sample, IsWindow}
use Rattle.nz_window.proofs.Bounds.{windows_start, windows_stay, bound_is_bounded}
use Rattle.nz_msg.specs.declared.message.Path.{Path}
use Rattle.nz_msg.specs.declared.message.Path.TheVariants as paths
use Rattle.nz_msg.specs.declared.message.RequestBody.{RequestBody}
use Rattle.nz_msg.specs.declared.message.Message.{Message}
use Rattle.nz_msg.specs.declared.message.Message.TheVariants as messages
use Rattle.nz_msg.specs.Messages.{request}
use Rattle.nz_msg.specs.Fields.{id, u32, command, deadline, answer, path}
use Rattle.nz_machine.specs.declared.reply.Reply.{Reply}
use Rattle.nz_machine.specs.rules.State.{ProxyData, Standing, Open, Decided, Out}
use Rattle.nz_machine.specs.rules.Replicas.{numbers_below}
use Rattle.nz_machine.specs.rules.Quorums.{Chosen, decision, answer_in, reply_eq, with_note}
use Rattle.nz_machine.specs.rules.Proxies.{with_standing, standing_of, answer_to_client, timed_to, timed_to_all, after_stamp, stamp_rule, after_chosen_answer}
use Rattle.nz_machine.specs.rules.Proxies.{after_choice, after_replica_reply, reply_rule, of_fast, of_slow, clock_rule, first_proxy, crashed_proxy}
use Rattle.nz_machine.specs.rules.Step.{proxy_message, is_sized, message_vector}
use Rattle.nz_machine.proofs.runs.Runs.{FitsOut, AllFit, Hears, all_has}
use Rattle.nz_machine.proofs.lists.EachItem.{all_append, all_imply}
use Rattle.nz_machine.proofs.lists.ListParts.{all_map, lookup_each, insert_each}
use Rattle.nz_machine.proofs.facts.FitReplicas.{numbers_are_below}
use Rattle.nz_machine.proofs.facts.Choices.{decision_is}

pub record IsProxy (f me : ℕ) : Type 0 where
  pub least : 1 ≤ f
  pub most : f ≤ 4
  pub address : me ≤ 7

-- the answer of a reply fits
pub record FitsReply (r : Reply) : Type 0 where
  pub answer : IfSome (answer_in r) answer.fits

abbrev pub FitsAnswers : Standing → Type 0
FitsAnswers (Open replies) = AllByRecursion FitsReply replies
FitsAnswers (Decided a p) = answer.fits a

-- a request that a client may have sent, and what is known of it
pub record FitsStanding (e : Id × Standing) : Type 0 where
  pub client : e.0.client ≤ 63
  pub num : u32.fits e.0.num
  pub answers : FitsAnswers e.1

pub record FitsProxy (f : ℕ) (s : ProxyData) : Type 0 where
  pub clock : s.clock ≤ MAX_CLOCK
  pub window : IsWindow s.samples (replica_count f)
  pub standings : AllByRecursion FitsStanding s.standings

pub record ProxyStep (f me : ℕ) (t : ProxyData × List Out) : Type 0 where
  pub state : FitsProxy f t.0
  pub sends : AllFit (Proxy me) t.1

nothing : (f me : ℕ) (s : ProxyData) → FitsProxy f s → ProxyStep f me (s, [])
nothing f me s h = record { state = h; sends = tt }

pub first_proxy_fits : (f : ℕ) → FitsProxy f (first_proxy f)
first_proxy_fits f = record { clock = omega arith; window = windows_start (replica_count f); standings = tt }

pub crashed_fits : (f : ℕ) → FitsProxy f (crashed_proxy f)
crashed_fits f = record { clock = omega arith; window = windows_start (replica_count f); standings = tt }

standing_fits : (f : ℕ) (s : ProxyData) (i : Id) (v : Standing) → FitsStanding (i, v) → FitsProxy f s → FitsProxy f (with_standing s i v)
standing_fits f s i v own h = record { clock = h.clock; window = h.window; standings = insert_each FitsStanding s.standings i v h.standings own }

path_fits : (p : Path) → path.fits p
path_fits paths.Fast = (omega arith, refl)
path_fits paths.Slow = (omega arith, refl)

answer_to_fits : (f me : ℕ) (i : Id) (a : Answer) (p : Path) → IsProxy f me → i.client ≤ 63 → u32.fits i.num
    → answer.fits a → FitsOut (Proxy me) (answer_to_client i a p)
answer_to_fits f me i a p c client num fits = record { sender = c.address; receiver = client; message = (num, (fits, path_fits p)) }

-- ---- requests

deadline_fits : (n : ℕ) → n < 2 ^ 63 → deadline.fits n
deadline_fits n low =
    (omega (arith, low), and_from (nat_le 0 n) (nat_le n (2 ^ 63 - 1)) (le-leb 0 n (omega arith)) (le-leb n (2 ^ 63 - 1) (omega (arith, low))))

timed_fits : (f me : ℕ) (s : ProxyData) (i : Id) (bytes : List ℕ) (r : ℕ) → IsProxy f me → FitsProxy f s → id.fits i
    → command.fits bytes → r < replica_count f → FitsOut (Proxy me) (timed_to s i bytes r)
timed_fits f me s i bytes r c h fits carried below =
    let most = c.most in
    let clock = h.clock in
    let bound = bound_is_bounded s.samples (replica_count f) h.window in
    record {
      sender = c.address;
      receiver = omega (arith, below, most);
      message = (omega (arith, clock), (deadline_fits _ (omega (arith, clock, bound)), (fits, carried)));
    }

all_timed : (f me : ℕ) (s : ProxyData) (i : Id) (bytes : List ℕ) → IsProxy f me → FitsProxy f s → id.fits i
    → command.fits bytes → AllFit (Proxy me) (timed_to_all f s i bytes)
all_timed f me s i bytes c h fits carried =
    all_map (FitsOut (Proxy me)) (timed_to s i bytes) (numbers_below (replica_count f))
    (all_imply (λ r. r < replica_count f) (λ r. FitsOut (Proxy me) (timed_to s i bytes r))
    (λ r below. timed_fits f me s i bytes r c h fits carried below) (numbers_below (replica_count f))
    (numbers_are_below (replica_count f) (replica_count f) (omega arith)))

stamped_step : (f me : ℕ) (s : ProxyData) (i : Id) (bytes : List ℕ) (o : Option Standing) → IsProxy f me
    → FitsProxy f s → i.client ≤ 63 → u32.fits i.num → command.fits bytes → IfSome o (λ v. FitsStanding (i, v))
    → ProxyStep f me (after_stamp f s i bytes o)
stamped_step f me s i bytes None c h client num carried own = record {
  state = standing_fits f s i (Open []) (record { client = client; num = num; answers = tt }) h;
  sends = all_timed f me s i bytes c h (omega (arith, client), num) carried;
}
stamped_step f me s i bytes (Some (Open replies)) c h client num carried own =
    record { state = h; sends = all_timed f me s i bytes c h (omega (arith, client), num) carried }
stamped_step f me s i bytes (Some (Decided a p)) c h client num carried own =
    record { state = h; sends = (answer_to_fits f me i a p c client num own.answers, tt) }

stamp_step : (f me : ℕ) (s : ProxyData) (client : ℕ) (b : RequestBody) → IsProxy f me → FitsProxy f s → client ≤ 63
    → request.fits b → ProxyStep f me (stamp_rule f s client b)
unfolding stamp_rule
stamp_step f me s client b c h known fits =
    let i : Id = record { client = client; num = b.num } in
    stamped_step f me s i b.command (standing_of s i) c h known fits.0 fits.1 (lookup_each FitsStanding s.standings i h.standings)

-- ---- replies

noted_all : (replies : List Reply) (r : Reply) → AllByRecursion FitsReply replies → FitsReply r → AllByRecursion FitsReply (with_note replies r)
noted_all replies r all own =
    cond_both (list_any (reply_eq r) replies) replies (replies ++ r ∷ []) (AllByRecursion FitsReply) (λ _. all)
    (λ _. all_append FitsReply replies (r ∷ []) all (own, tt))

answered_step : (f me : ℕ) (s : ProxyData) (i : Id) (replies : List Reply) (p : Path) (o : Option Answer)
    → IsProxy f me → FitsProxy f s → i.client ≤ 63 → u32.fits i.num → AllByRecursion FitsReply replies
    → IfSome o answer.fits → ProxyStep f me (after_chosen_answer s i replies p o)
answered_step f me s i replies p None c h client num all fits =
    record { state = standing_fits f s i (Open replies) (record { client = client; num = num; answers = all }) h; sends = tt }
answered_step f me s i replies p (Some a) c h client num all fits = record {
  state = standing_fits f s i (Decided a p) (record { client = client; num = num; answers = fits }) h;
  sends = (answer_to_fits f me i a p c client num fits, tt);
}

decided_step : (f me : ℕ) (s : ProxyData) (i : Id) (replies : List Reply) (o : Option Chosen) → IsProxy f me
    → FitsProxy f s → i.client ≤ 63 → u32.fits i.num → AllByRecursion FitsReply replies → decision f replies ≡ o
    → ProxyStep f me (after_choice s i replies o)
decided_step f me s i replies None c h client num all is =
    record { state = standing_fits f s i (Open replies) (record { client = client; num = num; answers = all }) h; sends = tt }
decided_step f me s i replies (Some chosen) c h client num all is =
    let own : FitsReply chosen.reply = all_has FitsReply replies chosen.reply all (decision_is f replies chosen is).among in
    answered_step f me s i replies chosen.path (answer_in chosen.reply) c h client num all own.answer

noted_step : (f me : ℕ) (s : ProxyData) (i : Id) (r : Reply) (o : Option Standing) → IsProxy f me → FitsProxy f s
    → FitsReply r → IfSome o (λ v. FitsStanding (i, v)) → ProxyStep f me (after_replica_reply f s i r o)
noted_step f me s i r None c h fits own = nothing f me s h
noted_step f me s i r (Some (Decided a p)) c h fits own = nothing f me s h
noted_step f me s i r (Some (Open replies)) c h fits own =
    decided_step f me s i (with_note replies r) (decision f (with_note replies r)) c h own.client own.num (noted_all replies r own.answers fits) refl

reply_step : (f me : ℕ) (s : ProxyData) (replica : ℕ) (i : Id) (delay : ℕ) (r : Reply) → IsProxy f me → FitsProxy f s
    → replica < replica_count f → FitsReply r → ProxyStep f me (reply_rule f s replica i delay r)
unfolding reply_rule
reply_step f me s replica i delay r c h below fits =
    let now : FitsProxy f (record s { samples = with_sample s.samples replica delay }) =
    record { clock = h.clock; window = windows_stay s.samples (replica_count f) replica delay h.window below; standings = h.standings } in
    noted_step f me (record s { samples = with_sample s.samples replica delay }) i r (standing_of s i) c now fits
    (lookup_each FitsStanding s.standings i h.standings)

-- ---- steps

pub proxy_message_fits : (f me : ℕ) (s : ProxyData) (from : Actor) (m : Message) → IsProxy f me
    → Hears f (Proxy me) from m → FitsOut from (Proxy me, m) → FitsProxy f s → ProxyStep f me (proxy_message f s from m)
proxy_message_fits f me s (Client k) (messages.Request b) c hears fit h = stamp_step f me s k b c h fit.sender fit.message
proxy_message_fits f me s (Replica r) (messages.FastReply b) c hears fit h =
    reply_step f me s r b.id b.delay (of_fast r b) c h
    (ltb-true r (replica_count f) (and_parts (nat_lt r (replica_count f))
    (is_sized f (message_vector (messages.FastReply b))) hears.counts).0) (record { answer = fit.message.1.1.1.1.1 })
proxy_message_fits f me s (Replica r) (messages.SlowReply b) c hears fit h =
    reply_step f me s r b.id b.delay (of_slow r b) c h
    (ltb-true r (replica_count f) (and_parts (nat_lt r (replica_count f))
    (is_sized f (message_vector (messages.SlowReply b))) hears.counts).0) (record { answer = tt })
proxy_message_fits f me s _ _ c hears fit h = nothing f me s h

pub proxy_tick_fits : (f : ℕ) (s : ProxyData) (clock : ℕ) → FitsProxy f s → FitsProxy f (clock_rule s clock)
unfolding clock_rule
proxy_tick_fits f s clock h = record { clock = omega arith; window = h.window; standings = h.standings }
