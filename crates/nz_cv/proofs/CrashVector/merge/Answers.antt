-- What the function of this folder owes, proved.
use Rattle.nz_cv.proofs.Merging.{Merges, merges}
use Rattle.nz_cv.proofs.CrashVector.merge.Goals as goal

pub invariant_of-self : goal.invariant_of-self
invariant_of-self c =
    let m : Merges c.self.inside.counters c.other.inside.counters c.args.self.now c.args.other.now c.self.inside.size c.args.own =
    merges _ _ _ _ _ c.other.inside.size _ c.self.view_is c.other.view_is c.self.invariant c.other.invariant c.requires.one_size c.requires.own in
    rw c.raise.ensures m.laid_out

pub returns : goal.returns
returns c =
    let m : Merges c.self.inside.counters c.other.inside.counters c.args.self.now c.args.other.now c.self.inside.size c.args.own =
    merges _ _ _ _ _ c.other.inside.size _ c.self.view_is c.other.view_is c.self.invariant c.other.invariant c.requires.one_size c.requires.own in
    rw c.raise.ensures m.view
