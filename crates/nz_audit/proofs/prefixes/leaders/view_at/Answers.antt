-- What the function of this folder owes, proved.
use Rattle.std.proofs.Common.{◌≡◌, ℕ, List, ◌∷◌, Option, IfOk, sym, ap, subst, ◌∙◌, arith}
use Rattle.std.specs.Prelude.{IfSome}
use Rattle.std.proofs.lemmas.Result.{IfOk-weaker}
use Rattle.nz_machine.specs.declared.event.Record.{Record}
use Rattle.nz_replay.specs.Runs.{run_up_to}
use Rattle.nz_audit.specs.Leading.{first_view_brought, BringsReplyOf, RepliesIn}
use Rattle.nz_audit.proofs.LedPrefixes.{first_brings}
use Rattle.nz_replay.proofs.Replays.{run_then}
use Rattle.nz_audit.proofs.prefixes.leaders.view_at.Goals as goal

pub returns-in-Some-get_whole : goal.returns-in-Some-get_whole
returns-in-Some-get_whole c =
    let j = c.args.journal.now in
    let r = c.in-Some-get_whole.replying.now in
    let k = c.in-Some.place in
    let count = c.in-Some.ensures in
    let run : run_up_to j c.args.source.records ≡ r ∷ run_up_to j k = ap (run_up_to j) (omega (arith, count)) ∙ run_then j k r c.in-Some-get_whole.ensures in
    subst (λ (K : List Record). IfOk c.view_of_first.result (λ view. IfSome view (λ v. RepliesIn v K))) (sym run)
    (IfOk-weaker c.view_of_first.result _ (λ view. IfSome view (λ v. BringsReplyOf v r.sends)) (λ view is.
    subst (λ (o : Option ℕ). IfSome o (λ v. BringsReplyOf v r.sends)) (ap first_view_brought (sym c.as_slice.ensures) ∙ sym is) (first_brings r.sends))
    c.view_of_first.ensures)
