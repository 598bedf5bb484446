-- What the function of this folder owes, proved.
use Rattle.std.proofs.Common.{[], sym, ap, subst}
use Rattle.std.specs.Prelude.{nat_eq}
use Rattle.std.specs.Map.{lookup}
use Rattle.nz_machine.specs.journals.Journals.{group_in}
use Rattle.nz_audit.specs.Readings.{IsProxy, IsTable}
use Rattle.nz_audit.proofs.ReadingTakes.{proxy_first, table_first}
use Rattle.nz_audit.proofs.sources.reading.Reading.new.Goals as goal

pub returns : goal.returns
returns c = λ journal w. let g = group_in journal in record {
  proxies = λ q. subst (IsProxy g w [] q) (sym (ap (lookup (nat_eq q)) c.new.ensures.empty)) (proxy_first g w q);
  table = subst (IsTable g w []) (sym c.new-2.ensures) (table_first g w);
}
