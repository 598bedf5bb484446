-- What the function of this folder owes, proved.
use Rattle.std.proofs.Common.{◌≡◌, ℕ, List, false, get_or, subst, sym}
use Rattle.std.proofs.lemmas.Bool.{le-ltb}
use Rattle.nz_math.specs.Count.{is_in, IsChoice}
use Rattle.nz_math.proofs.Counting.{members_choice}
use Rattle.nz_math.proofs.Marks.{mark_is, none_past}
use Rattle.nz_math.proofs.replica_set.ReplicaSet.contains.Goals as goal

pub returns-then-r-lt9 : goal.returns-then-r-lt9
returns-then-r-lt9 c = record {
  member =
      subst (λ (s : List ℕ). get_or c.self.inside.members c.args.r false ≡ is_in s c.args.r) c.self.view_is
      (mark_is c.self.inside.members c.args.r c.if-r-lt9.true);
  numbers = subst (IsChoice 9) c.self.view_is (members_choice 9 _);
}

pub returns-else-r-lt9 : goal.returns-else-r-lt9
returns-else-r-lt9 c = record {
  member =
      rw (le-ltb c.args.r 9 c.if-r-lt9.false)
      (subst (λ (s : List ℕ). false ≡ is_in s c.args.r) c.self.view_is (sym (none_past c.self.inside.members c.args.r c.if-r-lt9.false)));
  numbers = subst (IsChoice 9) c.self.view_is (members_choice 9 _);
}
