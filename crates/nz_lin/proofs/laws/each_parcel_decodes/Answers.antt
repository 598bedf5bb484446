-- What the function of this folder owes, proved.
use Rattle.nz_lin.proofs.Decoded.{each_decodes}
use Rattle.nz_lin.proofs.laws.each_parcel_decodes.Goals as goal

pub returns : goal.returns
returns c = each_decodes
