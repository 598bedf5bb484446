-- What the function of this folder owes, proved.
use Rattle.nz_base.specs.declared.limits.TheConstants.{MAX_ENTRIES}
use Rattle.std.proofs.Common.{length, nat_le, sym, subst, ◌∙◌}
use Rattle.std.proofs.lemmas.Bool.{and_parts}
use Rattle.nz_base.specs.Log.{IsLog}
use Rattle.nz_log.specs.Calls.{may_be_log}
use Rattle.nz_log.proofs.Calling.{passes_log}
use Rattle.nz_log.proofs.calls.make_call.Goals as goal

pub replace_all-requires-clause-log : goal.replace_all-requires-clause-log
replace_all-requires-clause-log g c =
    let list = c.as_slice.result.now in
    subst IsLog (c.as_slice.ensures ∙ sym c.in_ok-copy-in-ReplaceAll.ensures)
    (passes_log list (and_parts (may_be_log list) (nat_le (length list) MAX_ENTRIES) (sym c.may_replace.ensures ∙ c.if-not-may_replace.false)).0)
