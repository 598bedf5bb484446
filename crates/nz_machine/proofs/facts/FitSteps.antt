-- Each step of a replica keeps its facts, and sends what fits into frames.
use Rattle.std.proofs.Common.{ℕ, ◌<◌, ◌^◌, Some, None, List}
use Rattle.std.proofs.lemmas.Bool.{and_parts}
use Rattle.nz_base.specs.declared.actor.Actor.{Actor}
use Rattle.nz_base.specs.declared.actor.Actor.TheVariants.{Replica}
use Rattle.nz_msg.specs.declared.message.Message.{Message}
use Rattle.nz_machine.specs.rules.State.{ReplicaData, Out}
use Rattle.nz_machine.specs.rules.Facts.{HasFacts}
use Rattle.nz_machine.specs.runs.Hearing.{Heard}
use Rattle.nz_machine.specs.runs.Shows.{ReplicaShows}
use Rattle.nz_machine.specs.rules.Views.{alarm_rule}
use Rattle.nz_machine.specs.rules.Rejoining.{crash_rule, restart_rule}
use Rattle.nz_machine.specs.rules.Step.{replica_message, tick_rule, is_in_cluster, is_sized, message_vector}
use Rattle.nz_machine.proofs.runs.Runs.{FitsOut, AllFit, Hears}
use Rattle.nz_machine.proofs.lists.EachItem.{all_imply}
use Rattle.nz_machine.proofs.moves.MoveFacts.{IsFit, is_sender, message_keeps, tick_keeps, alarm_keeps, crash_keeps, restart_keeps}
use Rattle.nz_machine.proofs.shows.Shows.{Shown}
use Rattle.nz_machine.proofs.shows.Replies.{tick_shows}
use Rattle.nz_machine.proofs.shows.ViewsShow.{alarm_shows}
use Rattle.nz_machine.proofs.shows.RejoinsShow.{crash_silent, restart_shows}
use Rattle.nz_machine.proofs.shows.Snapshots.{has_answers, fair_hears, message_shows}
use Rattle.nz_machine.proofs.facts.FitReplicas.{IsReplica, HeardFits, shows_fit}

pub record ReplicaStep (f me : ℕ) (t : ReplicaData × List Out) : Type 0 where
  pub state : HasFacts f me t.0
  pub sends : AllFit (Replica me) t.1

shown_fit : (f me : ℕ) (heard : Heard) (s : ReplicaData) (t : ReplicaData × List Out) → IsReplica f me → HeardFits heard → HasFacts f me s → HasFacts f me t.0
    → Shown f me heard s t → ReplicaStep f me t
shown_fit f me heard s t c k was h w =
    let fit : (o : Out) → ReplicaShows f me heard s t.0 o.0 o.1 → FitsOut (Replica me) o = λ o shows. shows_fit f me heard s t.0 o.0 o.1 c k was h shows in
    record { state = h; sends = all_imply (λ (o : Out). ReplicaShows f me heard s t.0 o.0 o.1) (FitsOut (Replica me)) fit t.1 w.shows }

pub message_fits : (f me : ℕ) (s : ReplicaData) (from : Actor) (m : Message) → IsReplica f me → Hears f (Replica me) from m → FitsOut from (Replica me, m)
    → HasFacts f me s → ReplicaStep f me (replica_message f me s from m)
message_fits f me s from m c hears fit h =
    let sized = (and_parts (is_in_cluster f from) (is_sized f (message_vector m)) hears.counts).1 in
    let own : IsFit f me (Some (from, m)) = (is_sender f me from m fit.sender hears, fit.message, sized) in
    let facts = message_keeps f me s from m own h in
    let shows = message_shows f me s from m (fair_hears f me from m hears) (has_answers f me s h) in
    shown_fit f me (Some (from, m)) s (replica_message f me s from m) c (fit.sender, fit.message) h facts shows

pub tick_fits : (f me : ℕ) (s : ReplicaData) (clock : ℕ) → IsReplica f me → HasFacts f me s → ReplicaStep f me (tick_rule f me s clock)
tick_fits f me s clock c h =
    shown_fit f me None s (tick_rule f me s clock) c tt h (tick_keeps f me s clock h) (tick_shows f me None s clock (has_answers f me s h))

pub alarm_fits : (f me : ℕ) (s : ReplicaData) → IsReplica f me → HasFacts f me s → ReplicaStep f me (alarm_rule f me s)
alarm_fits f me s c h = shown_fit f me None s (alarm_rule f me s) c tt h (alarm_keeps f me s h) (alarm_shows f me None s)

pub crash_fits : (f me : ℕ) (s : ReplicaData) → IsReplica f me → HasFacts f me s → ReplicaStep f me (crash_rule f s)
crash_fits f me s c h = shown_fit f me None s (crash_rule f s) c tt h (crash_keeps f me s) (crash_silent f me None s)

pub restart_fits : (f me : ℕ) (s : ReplicaData) (nonce : ℕ) → IsReplica f me → nonce < 2 ^ 64 → HasFacts f me s → ReplicaStep f me (restart_rule f me s nonce)
restart_fits f me s nonce c small h =
    shown_fit f me None s (restart_rule f me s nonce) c tt h (restart_keeps f me s nonce small h) (restart_shows f me None s nonce)
