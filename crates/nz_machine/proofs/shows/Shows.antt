-- What is sent shows the states of its sender; to all others the same is sent.
use Rattle.std.proofs.Common.{◌≡◌, ℕ, zero, suc, ◌<◌, not, eqb, Bool, true, false, List, [], ◌∷◌, map, refl, ap, arith}
use Rattle.std.specs.Prelude.{slice_index}
use Rattle.std.specs.List.{AllByRecursion, filter}
use Rattle.std.proofs.lemmas.Bool.{not-true, cond_both}
use Rattle.nz_base.specs.Cluster.{replica_count, leader_of}
use Rattle.nz_base.specs.declared.actor.Actor.TheVariants.{Replica}
use Rattle.nz_machine.specs.rules.State.{ReplicaData, Out}
use Rattle.nz_machine.specs.rules.Replicas.{is_normal, leads, numbers_below, others}
use Rattle.nz_machine.specs.rules.LogMods.{log_mod_from, log_mod_to, log_mods_to_others}
use Rattle.nz_machine.specs.runs.Hearing.{Heard}
use Rattle.nz_machine.specs.runs.Shows.{IsOther, ReplicaShows}
use Rattle.nz_machine.proofs.lists.EachItem.{all_append}
use Rattle.nz_machine.proofs.lists.ListParts.{all_map}

module _ (f me : ℕ) where
  abbrev pub AllShow : Heard → ReplicaData → ReplicaData → List Out → Type 0
  AllShow heard before s os = AllByRecursion (λ (o : Out). ReplicaShows f me heard before s o.0 o.1) os

-- what is sent shows the states before and after
pub record Shown (f me : ℕ) (heard : Heard) (before : ReplicaData) (t : ReplicaData × List Out) : Type 0 where
  pub shows : AllShow f me heard before t.0 t.1

-- where nothing is sent there is nothing to show
pub silent : (f me : ℕ) (heard : Heard) (before s : ReplicaData) → Shown f me heard before (s, [])
silent f me heard before s = record { shows = tt }

-- ---- other replicas

pub leader_below : (f view : ℕ) → leader_of f view < replica_count f
leader_below f view = omega arith

pub other_is : (f me r : ℕ) → r < replica_count f → eqb r me ≡ false → IsOther f me (Replica r)
other_is f me r member other = record { replica = r; is = refl; member = member; other = other }

pub all_below : (P : ℕ → Type 0) (n : ℕ) → ((r : ℕ) → r < n → P r) → AllByRecursion P (numbers_below n)
all_below P zero each = tt
all_below P (suc n) each = all_append P (numbers_below n) (n ∷ []) (all_below P n (λ r lt. each r (omega (arith, lt)))) (each n (omega arith), tt)

all_kept : (P Q : ℕ → Type 0) (test : ℕ → Bool) (ns : List ℕ) → AllByRecursion P ns → ((n : ℕ) → P n → test n ≡ true → Q n)
    → AllByRecursion Q (filter test ns)
all_kept P Q test [] all each = tt
all_kept P Q test (n ∷ ns) all each =
    let rest = all_kept P Q test ns all.1 each in
    cond_both (test n) (n ∷ filter test ns) (filter test ns) (AllByRecursion Q) (λ t. (each n all.0 t, rest)) (λ _. rest)

-- what holds of what is sent to any other holds of what is sent to all
pub to_each : (f me : ℕ) (P : Out → Type 0) (make : ℕ → Out) → ((r : ℕ) → IsOther f me (Replica r) → P (make r)) → AllByRecursion P (map make (others f me))
to_each f me P make each =
    all_map P make (others f me)
    (all_kept (λ r. r < replica_count f) (λ r. P (make r)) (λ r. not (eqb r me)) (numbers_below (replica_count f))
    (all_below (λ r. r < replica_count f) (replica_count f) (λ r lt. lt))
    (λ r lt t. each r (other_is f me r lt (not-true (eqb r me) t))))

-- ---- what the leader sends of its log

same_replica : (r q : ℕ) → Replica r ≡ Replica q → r ≡ q
same_replica r q e = cc

pub log_mods_show : (f me : ℕ) (heard : Heard) (before s : ReplicaData) → is_normal s.status ≡ true → leads f me s ≡ true
    → Shown f me heard before (s, log_mods_to_others f me s)
log_mods_show f me heard before s normal lead =
    record {
      shows = to_each f me (λ (o : Out). ReplicaShows f me heard before s o.0 o.1) (log_mod_to s)
          (λ r other.
          let read = ap (λ n. log_mod_from s (slice_index s.ack n)) (same_replica r other.replica other.is) in
          record { normal = normal; led = lead; receiver = other; read = read });
    }
