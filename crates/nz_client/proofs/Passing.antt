-- A client hears answers of proxies alone, which every cluster lets pass.
use Rattle.std.proofs.Common.{◌≡◌, ℕ, Bool, true, false, List, [], Option, Some, None, refl, sym, ap, ◌∙◌, if◌then◌else◌}
use Rattle.nz_base.specs.declared.actor.Actor.{Actor}
use Rattle.nz_base.specs.declared.actor.Actor.TheVariants.{Replica, Proxy, Client}
use Rattle.nz_msg.specs.declared.envelope.Envelope.{Envelope}
use Rattle.nz_msg.specs.declared.message.Message.{Message}
use Rattle.nz_msg.specs.declared.message.Message.TheVariants.{Request, Timed, FastReply, SlowReply, Answer, LogMod, Fetch, FetchReply}
use Rattle.nz_msg.specs.declared.message.Message.TheVariants.{SyncReport, ViewAsk, ViewChange, StartView, VectorAsk, VectorTell}
use Rattle.nz_msg.specs.declared.message.Message.TheVariants.{RejoinAsk, RejoinTell, StateAsk, StateTell}
use Rattle.nz_base.specs.declared.scenario.Request.{Request as RequestModel}
use Rattle.nz_machine.specs.declared.event.Parcel.{Parcel}
use Rattle.nz_machine.specs.rules.State.{ClientData, Group}
use Rattle.nz_machine.specs.rules.Step.{envelope_for, accepted_envelope}
use Rattle.nz_machine.specs.rules.Step.{if_from_cluster, envelope_step, client_message, script_of}
use Rattle.nz_client.specs.Models.{ClientModel, IsClientInGroup}

-- what is passed over changes nothing
pub idle : (g : Group) (me : ℕ) (s : ClientData) (e : Envelope) (b : Bool) → client_message g.window g.proxies me (script_of g me) s e.from e.message ≡ (s, [])
    → envelope_step g (Client me) s (if b then Some e else None) ≡ client_message g.window g.proxies me (script_of g me) s e.from e.message
idle g me s e true same = refl
idle g me s e false same = sym same

-- a client takes what it hears as if it were of the cluster's size
pub takes_all : (g : Group) (me : ℕ) (s : ClientData) (from to : Actor) (m : Message)
    → envelope_step g (Client me) s (if_from_cluster g.f (Some (record { from = from; to = to; message = m })))
    ≡ client_message g.window g.proxies me (script_of g me) s from m
takes_all g me s (Replica r) to m = idle g me s _ _ refl
takes_all g me s (Client c) to m = idle g me s _ _ refl
takes_all g me s (Proxy p) to (Answer b) = refl
takes_all g me s (Proxy p) to (Request b) = refl
takes_all g me s (Proxy p) to (Timed b) = refl
takes_all g me s (Proxy p) to (FastReply b) = idle g me s _ _ refl
takes_all g me s (Proxy p) to (SlowReply b) = refl
takes_all g me s (Proxy p) to (LogMod b) = idle g me s _ _ refl
takes_all g me s (Proxy p) to (Fetch b) = refl
takes_all g me s (Proxy p) to (FetchReply b) = refl
takes_all g me s (Proxy p) to (SyncReport b) = refl
takes_all g me s (Proxy p) to (ViewAsk b) = refl
takes_all g me s (Proxy p) to (ViewChange b) = idle g me s _ _ refl
takes_all g me s (Proxy p) to (StartView b) = idle g me s _ _ refl
takes_all g me s (Proxy p) to (VectorAsk b) = refl
takes_all g me s (Proxy p) to (VectorTell b) = idle g me s _ _ refl
takes_all g me s (Proxy p) to (RejoinAsk b) = idle g me s _ _ refl
takes_all g me s (Proxy p) to (RejoinTell b) = idle g me s _ _ refl
takes_all g me s (Proxy p) to (StateAsk b) = idle g me s _ _ refl
takes_all g me s (Proxy p) to (StateTell b) = idle g me s _ _ refl

-- what a client does with a parcel that it hears
pub delivered : (g : Group) (model : ClientModel) (p : Parcel) (e : Envelope) → IsClientInGroup g model → envelope_for (Client model.me) p ≡ Some e
    → envelope_step g (Client model.me) model.state (accepted_envelope g.f (Client model.me) p)
    ≡ client_message model.window model.proxies model.me model.script model.state e.from e.message
delivered g model p e is h =
    ap (λ (o : Option Envelope). envelope_step g (Client model.me) model.state (if_from_cluster g.f o)) h
    ∙ takes_all g model.me model.state e.from e.to e.message
    ∙ ap (λ (n : ℕ). client_message n g.proxies model.me (script_of g model.me) model.state e.from e.message) (sym is.window)
    ∙ ap (λ (n : ℕ). client_message model.window n model.me (script_of g model.me) model.state e.from e.message) (sym is.proxies)
    ∙ ap (λ (script : List RequestModel). client_message model.window model.proxies model.me script model.state e.from e.message) (sym is.script)
