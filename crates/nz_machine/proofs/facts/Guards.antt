-- What the guards of a replica's rules say of its state.
use Rattle.std.proofs.Common.{◌≡◌, ℕ, ◌<◌, ◌≤◌, ◌&&◌, eqb, true, false, List, Some, refl, arith}
use Rattle.std.specs.Prelude.{nat_le}
use Rattle.std.proofs.lemmas.Bool.Decides.{nat_tests}
use Rattle.nz_base.specs.Cluster.{leader_of}
use Rattle.nz_base.specs.declared.actor.Actor.TheVariants.{Replica}
use Rattle.nz_cv.specs.Vectors.{is_stray}
use Rattle.nz_msg.specs.declared.message.Message.{Message}
use Rattle.nz_machine.specs.declared.data.Status.{Status}
use Rattle.nz_machine.specs.declared.data.Status.TheVariants.{Normal, ViewChange, Rejoining, Down}
use Rattle.nz_machine.specs.rules.State.{ReplicaData}
use Rattle.nz_machine.specs.declared.data.Phase.{Phase}
use Rattle.nz_machine.specs.declared.data.Phase.TheVariants.{Log}
use Rattle.nz_machine.specs.rules.Replicas.{is_normal, is_changing, is_up, is_rejoining, leads, leads_view, hears_leader}
use Rattle.nz_machine.specs.rules.LogMods.{hears_later_leader}
use Rattle.nz_machine.specs.rules.Adopting.{may_start}
use Rattle.nz_machine.specs.rules.Begins.{may_lead}
use Rattle.nz_machine.specs.rules.Rejoining.{awaits, is_phase}
use Rattle.nz_machine.specs.rules.Step.{message_vector}
use Rattle.nz_machine.specs.runs.Hearing.{Heard}

-- a message of a replica with a crash vector that is not stray
pub record IsFresh (heard : Heard) (s : ReplicaData) (sender : ℕ) (m : Message) (vector : List ℕ) : Type 0 where
  pub is : heard ≡ Some (Replica sender, m)
  pub carries : message_vector m ≡ Some vector
  pub new : is_stray vector sender s.vector ≡ false

-- a replica in normal operation is up
pub normal_up : (a : Status) → is_normal a ≡ true → is_up a ≡ true
normal_up Normal h = refl
normal_up ViewChange h = absurd cc
normal_up Rejoining h = absurd cc
normal_up Down h = absurd cc

-- one in a view change does not rejoin
pub changing_no_rejoin : (a : Status) → is_changing a ≡ true → is_rejoining a ≡ false
changing_no_rejoin Normal h = absurd cc
changing_no_rejoin ViewChange h = refl
changing_no_rejoin Rejoining h = absurd cc
changing_no_rejoin Down h = absurd cc

-- the replica follows the sender, in the view that it names
pub record HearsLeader (f me : ℕ) (status : Status) (view sender named : ℕ) : Type 0 where
  pub normal : is_normal status ≡ true
  pub same : named ≡ view
  pub leader : sender ≡ leader_of f named
  pub follows : eqb (leader_of f view) me ≡ false

-- it leads, in the view that is named
pub record IsLeader (f me : ℕ) (status : Status) (view named : ℕ) : Type 0 where
  pub normal : is_normal status ≡ true
  pub same : named ≡ view
  pub leads : eqb (leader_of f view) me ≡ true

pub hears_leader_parts : (f me : ℕ) (s : ReplicaData) (named sender : ℕ) → hears_leader f me s named sender ≡ true
    → HearsLeader f me s.status s.view sender named
hears_leader_parts f me s named sender hears = grind (arith, nat_tests)

pub is_leader : (f me : ℕ) (s : ReplicaData) (named : ℕ) → leads_view f me s ≡ true → eqb named s.view ≡ true → IsLeader f me s.status s.view named
is_leader f me s named led same = grind (arith, nat_tests)

-- the leader of a later view is heard
pub record HearsLater (f : ℕ) (status : Status) (view sender named : ℕ) : Type 0 where
  pub up : is_up status ≡ true
  pub later : view < named
  pub leader : sender ≡ leader_of f named

pub hears_later_parts : (f : ℕ) (s : ReplicaData) (named sender : ℕ) → hears_later_leader f s named sender ≡ true → HearsLater f s.status s.view sender named
hears_later_parts f s named sender hears = grind (arith, nat_tests)

-- it leads the view that is named, its own or a later one
pub record MayLead (f me : ℕ) (status : Status) (view named : ℕ) : Type 0 where
  pub up : is_up status ≡ true
  pub leads : leader_of f named ≡ me
  pub later : view ≤ named

pub may_lead_parts : (f me : ℕ) (s : ReplicaData) (named : ℕ) → may_lead f me s named ≡ true → MayLead f me s.status s.view named
may_lead_parts f me s named led = grind (arith, nat_tests)

-- the leader of a view that may start here is heard
pub record HearsStart (f : ℕ) (s : ReplicaData) (sender named : ℕ) : Type 0 where
  pub up : is_up s.status ≡ true
  pub leader : sender ≡ leader_of f named
  pub later : s.view ≤ named
  pub turns : is_normal s.status ≡ true → s.view < named

pub hears_start_parts : (f : ℕ) (s : ReplicaData) (sender named : ℕ) → (may_start s named && eqb sender (leader_of f named)) ≡ true
    → HearsStart f s sender named
hears_start_parts f s sender named hears = grind (arith, nat_tests)

-- the replica rejoins, and waits in this phase for answers with this nonce
pub record Awaits (phase : Phase) (s : ReplicaData) (nonce : ℕ) : Type 0 where
  pub rejoining : is_rejoining s.status ≡ true
  pub in_phase : is_phase s.rejoin.phase phase ≡ true
  pub same : nonce ≡ s.rejoin.nonce

pub awaits_parts : (phase : Phase) (s : ReplicaData) (nonce : ℕ) → awaits phase s nonce ≡ true → Awaits phase s nonce
awaits_parts phase s nonce waits = grind (arith, nat_tests)

-- the leader of the view that was asked for, or of a later one, tells its log
pub record HearsLog (f : ℕ) (s : ReplicaData) (sender named nonce : ℕ) : Type 0 where
  pub waits : awaits Log s nonce ≡ true
  pub later : s.rejoin.wanted ≤ named
  pub leader : sender ≡ leader_of f named

pub hears_log_parts : (f : ℕ) (s : ReplicaData) (sender named nonce : ℕ)
    → (awaits Log s nonce && (nat_le s.rejoin.wanted named && eqb sender (leader_of f named))) ≡ true → HearsLog f s sender named nonce
hears_log_parts f s sender named nonce hears = grind (arith, nat_tests)
