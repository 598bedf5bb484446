-- What the function of this folder owes, proved.
use Rattle.std.proofs.Common.{Option, sym, subst}
use Rattle.nz_audit.specs.declared.sources.proxy.ProxyNotes.{ProxyNotes}
use Rattle.nz_audit.specs.Noting.{IsSized}
use Rattle.nz_audit.specs.Readings.{known_to}
use Rattle.nz_audit.proofs.sources.reading.proxy_takes.Goals as goal

pub take-requires : goal.take-requires
take-requires c = λ id. subst (λ (o : Option ProxyNotes). IsSized c.args.cluster (known_to o id)) (sym c.in-Some.ensures.value) (c.requires id)
