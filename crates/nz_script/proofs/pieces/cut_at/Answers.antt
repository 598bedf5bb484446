-- What the function of this folder owes, proved.
use Rattle.std.proofs.Common.{List, ℕ, take, sym, ap, ◌∙◌}
use Rattle.std.specs.Prelude.{Some}
use Rattle.nz_script.proofs.Cuts.{cut-at_place, cut-nowhere, rest_is}
use Rattle.nz_script.proofs.pieces.cut_at.Goals as goal

pub returns-in_err-place : goal.returns-in_err-place
returns-in_err-place c = rw c.from_residual.ensures (sym (cut-nowhere c.args.at c.args.bytes.now c.in_err-place.ensures))

pub returns : goal.returns
returns c =
    ap (λ (rest : List ℕ). Some (take c.in_ok-place.place c.args.bytes.now, rest)) (rest_is c.args.bytes.now c.in_ok-place.place)
    ∙ sym (cut-at_place c.args.at c.args.bytes.now c.in_ok-place.place c.in_ok-place.ensures.0.high c.in_ok-place.ensures.0.before c.in_ok-place.ensures.1)
