-- What the function of this folder owes, proved.
use Rattle.std.proofs.Common.{List, ap, sym, ◌∙◌}
use Rattle.nz_base.specs.declared.key.Key.{Key}
use Rattle.nz_machine.specs.rules.State.{ReplicaData}
use Rattle.nz_machine.specs.rules.LogMods.{overtaken_to_late}
use Rattle.nz_machine.specs.rules.Taking.{with_held}
use Rattle.nz_machine.proofs.held.Held.sync.Goals as goal

pub returns-clause-held : goal.returns-clause-held
returns-clause-held c =
    λ s. ap (λ (x : ReplicaData × List Key). overtaken_to_late x.0) (c.in_ok-place.ensures.taken s) ∙ ap (with_held s) (sym c.in_ok-pass_over.ensures)

pub returns-clause-missing : goal.returns-clause-missing
returns-clause-missing c = λ s. ap (λ (x : ReplicaData × List Key). x.1) (c.in_ok-place.ensures.taken s)
