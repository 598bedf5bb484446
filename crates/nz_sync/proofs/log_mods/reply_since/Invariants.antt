-- What the loops of the function of this folder keep.
use Rattle.std.proofs.Common.{◌≡◌, ◌++◌, map}
use Rattle.nz_base.specs.declared.actor.Actor.TheVariants.{Replica}
use Rattle.nz_machine.specs.rules.LogMods.{replies_since}
use Rattle.nz_machine.specs.rules.Step.{parcel}
use Rattle.nz_sync.proofs.log_mods.reply_since.Given as goal

-- what was sent, and the replies that are left, are all
abbrev pub invariant-loop-place : goal.invariant-loop-place
invariant-loop-place l =
    l.sends ++ map (parcel (Replica l.state.me)) (replies_since l.state.state l.place)
    ≡ l.initial.sends ++ map (parcel (Replica l.state.me)) (replies_since l.state.state l.count)
