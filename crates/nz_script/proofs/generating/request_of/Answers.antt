-- What the function of this folder owes, proved.
use Rattle.std.proofs.Common.{◌%◌, sym, subst, arith}
use Rattle.nz_store.specs.Grammar.{IsValidCommand}
use Rattle.nz_script.proofs.Drawing.{command_for_is_valid}
use Rattle.nz_script.proofs.generating.request_of.Goals as goal

pub new_request-requires : goal.new_request-requires
new_request-requires c =
    subst IsValidCommand (sym c.in_ok-command.ensures)
    (command_for_is_valid (c.next-a.result % 4) (c.next-b.result % 16) c.args.i (omega arith) (omega (arith, c.requires)))
