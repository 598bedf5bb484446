-- What the function of this folder owes, proved.
use Rattle.std.proofs.Common.{◌≡◌, ℕ, List, ◌||◌, true, eqb, set, subst}
use Rattle.nz_math.specs.Count.{is_in}
use Rattle.nz_math.proofs.Marks.{marked, is_in-inserted}
use Rattle.nz_math.proofs.replica_set.ReplicaSet.insert.Goals as goal

pub returns : goal.returns
returns c = λ x. subst (λ (s : List ℕ). is_in (marked (set c.self.inside.members c.args.r true)) x ≡ (eqb c.args.r x || is_in s x)) c.self.view_is
    (is_in-inserted c.self.inside.members c.args.r x c.requires c.self.told)
