-- What the pass over the history leaves.
use Rattle.std.specs.Prelude.{◌≡◌, ℕ, suc, Option, None, take}
use Rattle.nz_machine.specs.declared.journal.Executed.{Executed}
use Rattle.nz_store.specs.Entries.{Entries}
use Rattle.nz_store.specs.Sequence.{store_after}
use Rattle.nz_text.specs.declared.printed.Printed.{Printed}
use Rattle.nz_check.specs.declared.verdict.Why.{Why}
use Rattle.nz_check.specs.Checked.{at_why, commands_of}

-- What is wrong with the entry at the place was found, and where nothing is, its command is applied after those above it.
pub record IsApplied (p : Printed) (place : ℕ) (x : Executed) (reason : Option Why) (store : Entries) : Type 0 where
  pub found : reason ≡ at_why p (take place p.history) x
  pub applied : reason ≡ None → store ≡ store_after (commands_of (take (suc place) p.history))
