-- What the function of this folder owes, proved.
use Rattle.std.proofs.Common.{◌∙◌}
use Rattle.nz_log.proofs.Placing.{search_shows}
use Rattle.nz_log.proofs.entries.contains.Goals as goal

pub returns : goal.returns
returns c = c.is_some.ensures ∙ search_shows c.first_place.result c.args.entries.now c.args.id c.first_place.ensures.found c.first_place.ensures.none
