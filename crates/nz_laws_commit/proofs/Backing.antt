-- Lists of keys that are the beginning of what is supported in a view or an earlier one: each later start has them, and
-- any two are comparable.
use Rattle.std.proofs.Common.{◌≡◌, ℕ, ◌<◌, ◌≤◌, List, [], ◌∷◌, Some, refl, inr, arith}
use Rattle.nz_base.specs.Cluster.{leader_of}
use Rattle.nz_base.specs.Moments.{At}
use Rattle.nz_base.specs.Prefixes.{IsPrefix, Comparable}
use Rattle.nz_base.specs.declared.key.Key.{Key}
use Rattle.nz_base.proofs.Prefixes.{prefix_none, prefix_then, comparable_back, comparable_prefix}
use Rattle.nz_math.specs.Count.{everyone}
use Rattle.nz_math.specs.Quorum.{group_size}
use Rattle.nz_math.proofs.Counting.{count_everyone}
use Rattle.nz_machine.specs.declared.event.Record.{Record}
use Rattle.nz_machine.specs.rules.State.{Group}
use Rattle.nz_machine.specs.runs.World.{state_after}
use Rattle.nz_laws_commit.specs.Supports.{IsLedAt, IsNormal, Support}
use Rattle.nz_laws_commit.specs.Instance.{logs_of}
use Rattle.nz_laws_commit.proofs.RunLaws.{RunLaws}
use Rattle.nz_laws_commit.proofs.LaterStarts.{in_later_starts, pairs}
use Rattle.nz_laws_commit.proofs.Deciding.{slowly}

-- the keys are the beginning of a list with support in this view or an earlier one
pub record HasSupport (g : Group) (v : ℕ) (P : List Key) (J : List Record) : Type 0 where
  pub view : ℕ
  pub low : view ≤ v
  pub list : List Key
  pub support : Support (logs_of g) view list J
  pub part : IsPrefix P list

before_all : {X : Type 0} (J : List X) → At J []
before_all [] = refl
before_all (r ∷ J) = inr (before_all J)

first_normal : (g : Group) (m : ℕ) → IsNormal (logs_of g) m 0 []
unfolding state_after
first_normal g m = record { status = refl; view = refl }

comparable_both : {X : Type 0} (P Q A B : List X) → IsPrefix P A → IsPrefix Q B → Comparable A B → Comparable P Q
comparable_both P Q A B p q c =
    let one = comparable_prefix A Q B c q in
    comparable_back Q P (comparable_prefix Q P A (comparable_back A Q one) p)

module _ (g : Group) (J : List Record) (laws : RunLaws (logs_of g) J) where
  pub support_higher : (v n : ℕ) (P : List Key) → v ≤ n → HasSupport g v P J → HasSupport g n P J
  support_higher v n P le h = let low = h.low in record { view = h.view; low = omega (arith, low, le); list = h.list; support = h.support; part = h.part }

  pub support_shorter : (v : ℕ) (P Q : List Key) → IsPrefix P Q → HasSupport g v Q J → HasSupport g v P J
  support_shorter v P Q p h = record { view = h.view; low = h.low; list = h.list; support = h.support; part = prefix_then P Q h.list p h.part }

  pub support_starts : (v n : ℕ) (P S : List Key) → HasSupport g v P J → v < n → (logs_of g).start n J ≡ Some S → IsPrefix P S
  support_starts v n P S h later begun =
      let low = h.low in
      prefix_then P h.list S h.part (in_later_starts (logs_of g) J laws h.view h.list h.support n S (omega (arith, low, later)) begun)

  pub support_pairs : (v n : ℕ) (P Q : List Key) → HasSupport g v P J → HasSupport g n Q J → Comparable P Q
  support_pairs v n P Q a b =
      comparable_both P Q a.list b.list a.part b.part (pairs (logs_of g) J laws a.view b.view a.list b.list a.support b.support)

  -- the empty list has support before all records
  pub none_has_support : (v : ℕ) → HasSupport g v [] J
  none_has_support v =
      let many = count_everyone (group_size g.f) in
      let led : IsLedAt (logs_of g) 0 [] [] J = record { moment = before_all J; normal = first_normal g (leader_of g.f 0); holds = prefix_none _ } in
      record {
        view = 0;
        low = omega arith;
        list = [];
        support = slowly (logs_of g) J laws 0 [] [] led everyone (omega (arith, many))
            (λ y h. inr (record { K = []; moment = before_all J; normal = first_normal g y; enough = omega arith }));
        part = prefix_none [];
      }
