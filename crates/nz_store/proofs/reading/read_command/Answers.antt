-- What the function of this folder owes, proved.
use Rattle.std.proofs.Common.{Result, Ok, Err, ◌≡◌, ◌↔◌, List, ℕ, Option, Some, IfOk, IsNone}
use Rattle.nz_store.specs.declared.command.Command.{Command}
use Rattle.nz_store.specs.declared.error.NoMemory.{NoMemory}
use Rattle.nz_store.specs.Grammar.{Spells}
use Rattle.nz_store.specs.Reading.{command_of}
use Rattle.nz_store.proofs.Spellings.{some_from, none_is}
use Rattle.nz_store.proofs.reading.read_command.Goals as goal

some_of : (r : Result (Option Command) NoMemory) (bytes : List ℕ) → IfOk r (λ o. o ≡ command_of bytes)
    → IfOk r (λ o. (c : Command) → (o ≡ Some c) ↔ Spells c bytes)
some_of (Ok o) bytes h = some_from o bytes h
some_of (Err e) bytes h = tt

none_of : (r : Result (Option Command) NoMemory) (bytes : List ℕ) → IfOk r (λ o. o ≡ command_of bytes)
    → IfOk r (λ o. IsNone o ↔ ((c : Command) → ¬ Spells c bytes))
none_of (Ok o) bytes h = none_is o bytes h
none_of (Err e) bytes h = tt

pub returns-clause-some : goal.returns-clause-some
returns-clause-some c = some_of c.command_if_any.result c.args.bytes.now c.command_if_any.ensures

pub returns-clause-none : goal.returns-clause-none
returns-clause-none c = none_of c.command_if_any.result c.args.bytes.now c.command_if_any.ensures
