-- What the loops of the function of this folder keep.
use Rattle.std.proofs.Common.{List, ◌++◌, take}
use Rattle.nz_audit.specs.declared.accepted.answers.Traced.{Traced}
use Rattle.nz_audit.specs.Cores.{AreReplayed}
use Rattle.nz_audit.specs.Prefixes.{IsFound}
use Rattle.nz_audit.proofs.prefixes.search.Search.weigh_each.Given as goal

abbrev pub invariant-loop-next : goal.invariant-loop-next
invariant-loop-next l = record {
  replays : AreReplayed l.journal l.self.replays;
  found : (done : List Traced) → IsFound l.journal done l.fn.self → IsFound l.journal (done ++ take l.next-index l.accepted) l.self;
}
