-- What the function of this folder owes, proved.
use Rattle.std.proofs.Common.{◌≡◌, ℕ, [], List, length, take, max, sym, ap, ◌∙◌, arith}
use Rattle.std.proofs.lemmas.List.{take_more}
use Rattle.nz_audit.specs.declared.accepted.answers.AcceptedAt.{AcceptedAt}
use Rattle.nz_audit.specs.Prefixes.{longest_from, prefixes_in}
use Rattle.nz_audit.proofs.FirstView.{longest_then}
use Rattle.nz_audit.proofs.prefixes.first_view.longest_in.Goals as goal

pub loop-next-preserved : goal.loop-next-preserved
loop-next-preserved c =
    let i = c.loop-next.next-index in
    let log = c.args.log.now.entries in
    let before = take i c.args.answers.now in
    let larger : c.max-longest.result ≡ max c.loop-next.longest c.entries_up_to.result = grind arith in
    larger ∙ ap (λ (n : ℕ). max n c.entries_up_to.result) c.loop-next.invariant
    ∙ ap (max (length (longest_from [] (prefixes_in log before)))) c.entries_up_to.ensures ∙ sym (longest_then log before _)
    ∙ ap (λ (l : List AcceptedAt). length (longest_from [] (prefixes_in log l))) (sym (take_more c.args.answers.now i _ c.loop-next-test.true))
