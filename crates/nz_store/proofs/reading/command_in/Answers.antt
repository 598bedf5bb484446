-- What the function of this folder owes, proved.
use Rattle.std.proofs.Common.{◌≡◌, List, ℕ, Option, Some, None, sym}
use Rattle.std.specs.Prelude.{IfSome}
use Rattle.std.specs.Option.{option_map}
use Rattle.nz_store.specs.declared.command.CommandRef.{CommandRef}
use Rattle.nz_store.specs.Grammar.{IsValidCommand}
use Rattle.nz_store.specs.Reading.{command_of, command_owned}
use Rattle.nz_store.proofs.Spellings.{spells_from_reading}
use Rattle.nz_store.proofs.reading.command_in.Goals as goal

valid_of : (o : Option CommandRef) (bytes : List ℕ) → option_map command_owned o ≡ command_of bytes
    → IfSome o (λ c. IsValidCommand (command_owned c))
valid_of None bytes e = tt
valid_of (Some c) bytes e = (spells_from_reading bytes (command_owned c) (sym e)).valid

pub returns-clause-valid : goal.returns-clause-valid
returns-clause-valid c = valid_of c.lent.result c.args.bytes.now c.lent.ensures
