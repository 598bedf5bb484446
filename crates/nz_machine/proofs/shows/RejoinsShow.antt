-- What the rules of rejoins send is what the states before and after show.
use Rattle.std.proofs.Common.{◌≡◌, ℕ, ◌+◌, ◌≤◌, eqb, true, false, [], Some, refl, ap, arith}
use Rattle.std.proofs.lemmas.Bool.Decides.{nat_tests}
use Rattle.std.proofs.lemmas.Bool.{cond_both}
use Rattle.nz_base.specs.Cluster.{leader_of}
use Rattle.nz_base.specs.declared.actor.Actor.TheVariants.{Replica}
use Rattle.nz_msg.specs.declared.message.VectorAskBody.{VectorAskBody}
use Rattle.nz_msg.specs.declared.message.VectorTellBody.{VectorTellBody}
use Rattle.nz_msg.specs.declared.message.RejoinAskBody.{RejoinAskBody}
use Rattle.nz_msg.specs.declared.message.RejoinTellBody.{RejoinTellBody}
use Rattle.nz_msg.specs.declared.message.StateAskBody.{StateAskBody}
use Rattle.nz_msg.specs.declared.message.StateTellBody.{StateTellBody}
use Rattle.nz_msg.specs.declared.message.Message.TheVariants as messages
use Rattle.nz_machine.specs.declared.data.Phase.{Phase}
use Rattle.nz_machine.specs.declared.data.Phase.TheVariants as phases
use Rattle.nz_machine.specs.rules.State.{ReplicaData, Out}
use Rattle.nz_machine.specs.rules.Replicas.{is_normal, is_rejoining, is_down, leads, crashed_replica, to_others, to_replica}
use Rattle.nz_machine.specs.rules.Vectors.{with_vector}
use Rattle.nz_machine.specs.rules.Adopting.{normal_in}
use Rattle.nz_machine.specs.rules.Rejoining.{crash_rule, restart_rule, restarted_replica, vector_ask_message, rejoin_ask_message, rejoin_tell_message}
use Rattle.nz_machine.specs.rules.Rejoining.{state_tell_message, vector_ask_rule, rejoin_ask_rule, state_ask_rule, is_phase, ask_again}
use Rattle.nz_machine.specs.rules.Rejoining.{ask_views, rejoin_timer, with_teller, with_new_counter, with_tells, with_tell, ask_log}
use Rattle.nz_machine.specs.rules.Rejoining.{latest_view, vector_tell_rule, rejoin_tell_rule, state_tell_rule}
use Rattle.nz_machine.specs.runs.Hearing.{Heard}
use Rattle.nz_machine.specs.runs.Shows.{ReplicaShows}
use Rattle.nz_machine.proofs.shows.Shows.{Shown, silent, other_is, leader_below, to_each}

-- ---- crashes

pub crash_silent : (f me : ℕ) (heard : Heard) (s : ReplicaData) → Shown f me heard s (crash_rule f s)
unfolding crash_rule
crash_silent f me heard s = silent f me heard s (crashed_replica f)

-- ---- rejoins

pub restart_shows : (f me : ℕ) (heard : Heard) (s : ReplicaData) (nonce : ℕ) → Shown f me heard s (restart_rule f me s nonce)
unfolding restart_rule
restart_shows f me heard s nonce =
    let back = restarted_replica f nonce in
    cond_both (is_down s.status) (back, to_others f me (vector_ask_message back)) (s, []) (Shown f me heard s)
    (λ _. record {
      shows = to_each f me (λ (o : Out). ReplicaShows f me heard s back o.0 o.1) (λ r. (Replica r, vector_ask_message back))
          (λ r other. record { rejoining = refl; in_phase = refl; receiver = other; read = refl });
    })
    (λ _. silent f me heard s s)

ask_views_shows : (f me : ℕ) (heard : Heard) (before s : ReplicaData) → is_rejoining s.status ≡ true → Shown f me heard before (ask_views f me s)
ask_views_shows f me heard before s rejoining =
    let t = (ask_views f me s).0 in
    record {
      shows = to_each f me (λ (o : Out). ReplicaShows f me heard before t o.0 o.1) (λ r. (Replica r, rejoin_ask_message t))
          (λ r other. record { rejoining = rejoining; in_phase = refl; receiver = other; read = refl });
    }

again_shows : (f me : ℕ) (heard : Heard) (before s : ReplicaData) (p : Phase) → is_rejoining s.status ≡ true → s.rejoin.phase ≡ p
    → Shown f me heard before (ask_again p f me s)
again_shows f me heard before s phases.Vectors rejoining is =
    record {
      shows = to_each f me (λ (o : Out). ReplicaShows f me heard before s o.0 o.1) (λ r. (Replica r, vector_ask_message s))
          (λ r other. record { rejoining = rejoining; in_phase = ap (λ (p : Phase). is_phase p phases.Vectors) is; receiver = other; read = refl });
    }
again_shows f me heard before s phases.Views rejoining is =
    record {
      shows = to_each f me (λ (o : Out). ReplicaShows f me heard before s o.0 o.1) (λ r. (Replica r, rejoin_ask_message s))
          (λ r other. record { rejoining = rejoining; in_phase = ap (λ (p : Phase). is_phase p phases.Views) is; receiver = other; read = refl });
    }
again_shows f me heard before s phases.Log rejoining is = ask_views_shows f me heard before s rejoining

pub vector_ask_shows : (f me : ℕ) (s : ReplicaData) (sender : ℕ) (b : VectorAskBody)
    → Shown f me (Some (Replica sender, messages.VectorAsk b)) s (vector_ask_rule s sender b)
unfolding vector_ask_rule
vector_ask_shows f me s sender b =
    let heard : Heard = Some (Replica sender, messages.VectorAsk b) in
    cond_both (is_normal s.status) _ (s, []) (Shown f me heard s)
    (λ normal. record { shows = (record { normal = normal; asker = sender; ask = b; hears = refl; receiver = refl; read = refl }, tt) })
    (λ _. silent f me heard s s)

pub rejoin_ask_shows : (f me : ℕ) (s : ReplicaData) (sender : ℕ) (b : RejoinAskBody)
    → Shown f me (Some (Replica sender, messages.RejoinAsk b)) s (rejoin_ask_rule me s sender b)
unfolding rejoin_ask_rule
rejoin_ask_shows f me s sender b =
    let heard : Heard = Some (Replica sender, messages.RejoinAsk b) in
    let own = with_vector me s b.vector in
    let stay = silent f me heard s s in
    let tell : is_normal s.status ≡ true → Shown f me heard s (own, to_replica sender (rejoin_tell_message own b.nonce))
    = λ normal. record { shows = (record { normal = normal; asker = sender; ask = b; hears = refl; receiver = refl; taken = refl; read = refl }, tt) } in
    grind (arith, stay, tell)

pub state_ask_shows : (f me : ℕ) (s : ReplicaData) (sender : ℕ) (b : StateAskBody)
    → Shown f me (Some (Replica sender, messages.StateAsk b)) s (state_ask_rule f me s sender b)
unfolding state_ask_rule
state_ask_shows f me s sender b =
    let heard : Heard = Some (Replica sender, messages.StateAsk b) in
    let own = with_vector me s b.vector in
    let stay = silent f me heard s s in
    let tell : is_normal s.status ≡ true → leads f me s ≡ true → b.view ≤ s.view → Shown f me heard s (own, to_replica sender (state_tell_message own b.nonce))
    =
    λ normal lead later. record {
      shows = (
        record {
          normal = normal;
          led = lead;
          asker = sender;
          ask = b;
          hears = refl;
          receiver = refl;
          later = later;
          taken = refl;
          read = refl;
        },
        tt,
      );
    } in
    grind (arith, nat_tests, stay, tell)

pub vector_tell_shows : (f me : ℕ) (heard : Heard) (s : ReplicaData) (sender : ℕ) (b : VectorTellBody) → Shown f me heard s (vector_tell_rule f me s sender b)
unfolding vector_tell_rule
vector_tell_shows f me heard s sender b =
    let told = with_teller me (with_vector me s b.vector) sender b.vector in
    let stay = silent f me heard s s in
    let hear = silent f me heard s told in
    let ask : is_rejoining s.status ≡ true → Shown f me heard s
    (ask_views f me (with_new_counter me told)) = λ rejoining. ask_views_shows f me heard s (with_new_counter me told) rejoining in
    grind (arith, stay, hear, ask)

ask_log_shows : (f me : ℕ) (heard : Heard) (before s : ReplicaData) (view : ℕ) → is_rejoining s.status ≡ true → eqb (leader_of f view) me ≡ false
    → Shown f me heard before (ask_log f s view)
ask_log_shows f me heard before s view rejoining away =
    record {
      shows = (
        record {
          rejoining = rejoining;
          in_phase = refl;
          receiver = other_is f me (leader_of f view)
              (leader_below f view) away;
          to_leader = refl;
          read = refl;
        },
        tt,
      );
    }

pub rejoin_tell_shows : (f me : ℕ) (heard : Heard) (s : ReplicaData) (sender : ℕ) (b : RejoinTellBody) → Shown f me heard s (rejoin_tell_rule f me s sender b)
unfolding rejoin_tell_rule
rejoin_tell_shows f me heard s sender b =
    let told = with_tell (with_vector me s b.vector) sender b in
    let stay = silent f me heard s s in
    let hear = silent f me heard s told in
    let forget = silent f me heard s (with_tells told []) in
    let ask : is_rejoining s.status ≡ true → eqb (leader_of f (latest_view told)) me ≡ false
    → Shown f me heard s (ask_log f told (latest_view told)) = λ rejoining away. ask_log_shows f me heard s told (latest_view told) rejoining away in
    grind (arith, stay, hear, forget, ask)

pub state_tell_silent : (f me : ℕ) (heard : Heard) (s : ReplicaData) (sender : ℕ) (b : StateTellBody) → Shown f me heard s (state_tell_rule f me s sender b)
unfolding state_tell_rule
state_tell_silent f me heard s sender b =
    let stay = silent f me heard s s in
    let return = silent f me heard s (normal_in (with_vector me s b.vector) b.view b.entries b.commit) in
    grind (arith, stay, return)

-- ---- the timer

pub rejoin_shows : (f me : ℕ) (heard : Heard) (before s : ReplicaData) → is_rejoining s.status ≡ true → Shown f me heard before (rejoin_timer f me s)
rejoin_shows f me heard before s rejoining =
    let stay = silent f me heard before (record s { since = s.since + 1 }) in
    let again = again_shows f me heard before (record s { since = 0 }) s.rejoin.phase rejoining refl in
    grind (arith, stay, again)
