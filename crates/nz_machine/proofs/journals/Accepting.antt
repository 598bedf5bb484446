-- A client accepts only a proxy's answer to an open request.
use Rattle.std.proofs.Common.{◌≡◌, ℕ, ◌<◌, true, List, [], Some, refl, arith}
use Rattle.std.proofs.lemmas.Bool.{cond_both}
use Rattle.nz_base.specs.declared.actor.Actor.{Actor}
use Rattle.nz_base.specs.declared.actor.Actor.TheVariants.{Proxy, Client}
use Rattle.nz_base.specs.declared.scenario.Request.{Request}
use Rattle.nz_msg.specs.declared.message.AnswerBody.{AnswerBody}
use Rattle.nz_msg.specs.declared.message.Message.{Message}
use Rattle.nz_msg.specs.declared.message.Message.TheVariants.{Answer}
use Rattle.nz_msg.specs.declared.envelope.Envelope.{Envelope}
use Rattle.nz_machine.specs.rules.State.{ClientData, Group, Out}
use Rattle.nz_machine.specs.rules.Clients.{fill_window, is_open, after_acceptance, accept_rule}
use Rattle.nz_machine.specs.rules.Step.{script_of, client_message, envelope_step}

-- the message is a proxy's answer to an open request
pub record IsAnswerTo (s : ClientData) (from : Actor) (m : Message) : Type 0 where
  pub proxy : ℕ
  pub body : AnswerBody
  pub sender : from ≡ Proxy proxy
  pub message : m ≡ Answer body
  pub held : is_open body.num s.attempts ≡ true

accept_is : (window proxies me p : ℕ) (script : List Request) (s : ClientData) (b : AnswerBody)
    → s.accepted < (accept_rule window proxies me script s b).0.accepted
    → IsAnswerTo s (Proxy p) (Answer b)
unfolding accept_rule
accept_is window proxies me p script s b =
    cond_both (is_open b.num s.attempts)
    (fill_window window proxies me script (after_acceptance b.num s)) (s, [])
    (λ (t : ClientData × List Out). s.accepted < t.0.accepted → IsAnswerTo s (Proxy p) (Answer b))
    (λ t _. record { proxy = p; body = b; sender = refl; message = refl; held = t }) (λ _ lt. absurd (omega (arith, lt)))

message_accepts : (window proxies me : ℕ) (script : List Request) (s : ClientData) (from : Actor) (m : Message)
    → s.accepted < (client_message window proxies me script s from m).0.accepted → IsAnswerTo s from m
message_accepts window proxies me script s (Proxy p) (Answer b) lt = accept_is window proxies me p script s b lt
message_accepts window proxies me script s _ _ lt = absurd (omega (arith, lt))

pub client_accepts : (g : Group) (c : ℕ) (s : ClientData) (e : Envelope) → s.accepted < (envelope_step g (Client c) s (Some e)).0.accepted
    → IsAnswerTo s e.from e.message
client_accepts g c s e lt = message_accepts g.window g.proxies c (script_of g c) s e.from e.message lt
