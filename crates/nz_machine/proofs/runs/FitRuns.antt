-- In every run each parcel is of a message that a frame can carry, and each state fits.
use Rattle.std.proofs.Common.{ℕ, ◌<◌, ◌^◌, Bool, true, false, List, [], arith}
use Rattle.std.proofs.lemmas.Bool.{cond_both}
use Rattle.nz_base.specs.Cluster.{replica_count}
use Rattle.nz_base.specs.declared.actor.Actor.{Actor}
use Rattle.nz_base.specs.declared.actor.Actor.TheVariants.{Replica, Proxy, Client}
use Rattle.nz_msg.specs.declared.message.Message.{Message}
use Rattle.nz_machine.specs.declared.event.Record.{Record}
use Rattle.nz_machine.specs.rules.State.{ProxyData, State, Group, Out}
use Rattle.nz_machine.specs.rules.Proxies.{first_proxy, clock_rule}
use Rattle.nz_machine.specs.rules.Step.{first, script_of, proxy_message, replica_message, tick_rule, message_step, tick_step, alarm_step, crash_step}
use Rattle.nz_machine.specs.rules.Step.{restart_step}
use Rattle.nz_machine.specs.rules.Facts.{HasFacts}
use Rattle.nz_machine.specs.runs.World.{state_after, IsGroup, IsMember, World}
use Rattle.nz_machine.proofs.runs.Runs.{FitsOut, AllFit, Hears, Holds, Keeps, holds, unless_down, group_of}
use Rattle.nz_machine.proofs.facts.FitReplicas.{IsReplica}
use Rattle.nz_machine.proofs.facts.FitSteps.{ReplicaStep, message_fits, tick_fits, alarm_fits, crash_fits, restart_fits}
use Rattle.nz_machine.proofs.facts.RulesKeepFacts.{first_has_facts}
use Rattle.nz_machine.proofs.facts.FitProxies.{IsProxy, FitsProxy, ProxyStep, first_proxy_fits, crashed_fits, proxy_message_fits, proxy_tick_fits}
use Rattle.nz_machine.proofs.journals.InTurn.{InTurn, first_in_turn}
use Rattle.nz_machine.proofs.facts.FitClients.{client_of, client_message_fits, client_tick_fits}

-- an actor's state fits
abbrev pub FitsState : Group → (a : Actor) → State a → Type 0
FitsState g (Replica r) s = HasFacts g.f r s
FitsState g (Proxy p) s = FitsProxy g.f s
FitsState g (Client c) s = InTurn g.window (script_of g c) s

abbrev pub Fitted : Group → List Record → Actor → Out → Type 0
Fitted g J a o = FitsOut a o

abbrev pub FittedState : Group → List Record → (a : Actor) → State a → Type 0
FittedState g J a s = FitsState g a s

replica_of : (g : Group) (r : ℕ) → IsGroup g → r < replica_count g.f → IsReplica g.f r
replica_of g r h member = record { least = h.least_f; most = h.most_f; member = member }

proxy_of : (g : Group) (p : ℕ) → IsGroup g → p < g.proxies → IsProxy g.f p
proxy_of g p h member = let most = h.most_proxies in record { least = h.least_f; most = h.most_f; address = omega (arith, member, most) }

start_fits : (g : Group) (a : Actor) → FitsState g a (first g a)
start_fits g (Replica r) = first_has_facts g.f r
start_fits g (Proxy p) = first_proxy_fits g.f
start_fits g (Client c) = first_in_turn g.window (script_of g c)

-- a step of an actor fits
record StepFits (g : Group) (a : Actor) (t : State a × List Out) : Type 0 where
  state : FitsState g a t.0
  sends : AllFit a t.1

up_or_down : (g : Group) (p : ℕ) (s : ProxyData) (down : Bool) (t : ProxyData × List Out) → FitsProxy g.f s → ProxyStep g.f p t
    → ProxyStep g.f p (Rattle.std.proofs.Common.cond down (s, []) t)
up_or_down g p s true t h step = record { state = h; sends = tt }
up_or_down g p s false t h step = step

message_step_fits : (g : Group) (a : Actor) (s : State a) (from : Actor) (m : Message) → IsGroup g → IsMember g a → Hears g.f a from m
    → FitsOut from (a, m) → FitsState g a s → StepFits g a (message_step g a s from m)
message_step_fits g (Replica r) s from m group member hears fit h =
    let t = unless_down (ReplicaStep g.f r) s (replica_message g.f r s from m) (record { state = h; sends = tt })
    (message_fits g.f r s from m (replica_of g r group member) hears fit h) in
    record { state = t.state; sends = t.sends }
message_step_fits g (Proxy p) s from m group member hears fit h =
    let t = up_or_down g p s s.is_down (proxy_message g.f s from m) h (proxy_message_fits g.f p s from m (proxy_of g p group member) hears fit h) in
    record { state = t.state; sends = t.sends }
message_step_fits g (Client c) s from m group member hears fit h =
    let t = client_message_fits g.window g.proxies c (script_of g c) s from m (client_of g c group member) h in record { state = t.state; sends = t.sends }

tick_step_fits : (g : Group) (a : Actor) (s : State a) (clock : ℕ) → IsGroup g → IsMember g a → FitsState g a s → StepFits g a (tick_step g a s clock)
tick_step_fits g (Replica r) s clock group member h =
    let t = unless_down (ReplicaStep g.f r) s (tick_rule g.f r s clock) (record { state = h; sends = tt })
    (tick_fits g.f r s clock (replica_of g r group member) h) in
    record { state = t.state; sends = t.sends }
tick_step_fits g (Proxy p) s clock group member h =
    let t = up_or_down g p s s.is_down (clock_rule s clock, []) h (record { state = proxy_tick_fits g.f s clock h; sends = tt }) in
    record { state = t.state; sends = t.sends }
tick_step_fits g (Client c) s clock group member h =
    let t = client_tick_fits g.window g.proxies c (script_of g c) s (client_of g c group member) h in record { state = t.state; sends = t.sends }

alarm_step_fits : (g : Group) (a : Actor) (s : State a) → IsGroup g → IsMember g a → FitsState g a s → StepFits g a (alarm_step g a s)
alarm_step_fits g (Replica r) s group member h = let t = alarm_fits g.f r s (replica_of g r group member) h in record { state = t.state; sends = t.sends }
alarm_step_fits g (Proxy p) s group member h = record { state = h; sends = tt }
alarm_step_fits g (Client c) s group member h = record { state = h; sends = tt }

crash_step_fits : (g : Group) (a : Actor) (s : State a) → IsGroup g → IsMember g a → FitsState g a s → StepFits g a (crash_step g a s)
crash_step_fits g (Replica r) s group member h = let t = crash_fits g.f r s (replica_of g r group member) h in record { state = t.state; sends = t.sends }
crash_step_fits g (Proxy p) s group member h = record { state = crashed_fits g.f; sends = tt }
crash_step_fits g (Client c) s group member h = record { state = h; sends = tt }

restart_step_fits : (g : Group) (a : Actor) (s : State a) (nonce : ℕ) → IsGroup g → IsMember g a → nonce < 2 ^ 64 → FitsState g a s
    → StepFits g a (restart_step g a s nonce)
restart_step_fits g (Replica r) s nonce group member small h =
    let t = restart_fits g.f r s nonce (replica_of g r group member) small h in record { state = t.state; sends = t.sends }
restart_step_fits g (Proxy p) s nonce group member small h =
    record { state = cond_both s.is_down (first_proxy g.f) s (FitsProxy g.f) (λ _. first_proxy_fits g.f) (λ _. h); sends = tt }
restart_step_fits g (Client c) s nonce group member small h = record { state = h; sends = tt }

pub fits_keep : (g : Group) → Keeps g (Fitted g) (FittedState g)
fits_keep g = record {
  fits = λ J a o p. p;
  start = λ a. start_fits g a;
  sent_stays = λ J r w a o p. p;
  state_stays = λ J r w a s q. q;
  message = λ J r w from m hears p q now. let t = message_step_fits g r.actor (state_after g r.actor J) from m
      (group_of g J w.1) w.0.member hears p q in (t.state, t.sends);
  tick = λ J r w c le q now. let t = tick_step_fits g r.actor (state_after g r.actor J) c (group_of g J w.1) w.0.member q in (t.state, t.sends);
  alarm = λ J r w q now. let t = alarm_step_fits g r.actor (state_after g r.actor J) (group_of g J w.1) w.0.member q in (t.state, t.sends);
  crash = λ J r w q now. let t = crash_step_fits g r.actor (state_after g r.actor J) (group_of g J w.1) w.0.member q in (t.state, t.sends);
  restart = λ J r w nonce small q now.
      let t = restart_step_fits g r.actor (state_after g r.actor J) nonce (group_of g J w.1) w.0.member small q in (t.state, t.sends);
}

pub all_fit : (g : Group) (J : List Record) → World g J → Holds g (Fitted g) (FittedState g) J
all_fit g J w = holds g (Fitted g) (FittedState g) (fits_keep g) J w
