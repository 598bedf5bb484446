-- What the function of this folder owes, proved.
use Rattle.std.proofs.Common.{◌∙◌, sym, ap, subst, take, drop}
use Rattle.nz_frame.specs.Grammar.{AreBytes}
use Rattle.nz_frame.proofs.Headers.{body_is}
use Rattle.nz_frame.proofs.frame.Frame.body.Goals as goal

pub returns-clause-body : goal.returns-clause-body
returns-clause-body c =
    let f = c.self.inside in
    sym (body_is (take f.size f.header) f.body c.self.invariant.1.first) ∙ ap (drop 10) c.self.view_is

pub returns-clause-bytes : goal.returns-clause-bytes
returns-clause-bytes c = subst AreBytes c.self.view_is c.self.invariant.1.bytes
