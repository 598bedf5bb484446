-- What the function of this folder owes, proved.
use Rattle.std.proofs.Common.{◌≡◌, sym, ap, ◌∙◌, nat_lt, ℕ, ◌≤◌, length, arith}
use Rattle.nz_log.specs.Synced.{Log}
use Rattle.nz_log.proofs.Keeping.{held_before, none_before}
use Rattle.nz_log.proofs.calls.has_synced.Goals as goal

pub returns-in-Some : goal.returns-in-Some
returns-in-Some g c =
    ap (nat_lt c.in-Some.place) c.synced.ensures.value
    ∙ held_before (g.L.LogRep.log c.args.log.now).entries
    (g.L.LogRep.log c.args.log.now).synced c.args.id c.in-Some.place
    (within (g.L.LogRep.log c.args.log.now) c.synced.result c.synced.ensures.value c.synced.ensures.within) (sym c.in-Some.ensures.value)
  where
    within : (log : Log) (n : ℕ) → n ≡ log.synced → n ≤ length log.entries → log.synced ≤ length log.entries
    within log n is few = omega (arith, is, few)

pub returns-in-None : goal.returns-in-None
returns-in-None g c = none_before (g.L.LogRep.log c.args.log.now).entries (g.L.LogRep.log c.args.log.now).synced c.args.id (sym c.in-None.ensures.value)
