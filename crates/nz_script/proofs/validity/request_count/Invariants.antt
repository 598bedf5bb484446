-- What the loops of the function of this folder keep.
use Rattle.std.proofs.Common.{◌≡◌, ◌+◌, ◌*◌, ◌≤◌, drop}
use Rattle.nz_script.specs.Valid.{requests_in_all}
use Rattle.nz_script.proofs.validity.request_count.Given as goal

abbrev pub invariant-loop-script : goal.invariant-loop-script
invariant-loop-script l = record {
  counted : l.count + requests_in_all (drop l.script-index l.scripts) ≡ requests_in_all l.scripts;
  bounded : l.count ≤ l.script-index * 4294967295;
}
