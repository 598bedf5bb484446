-- What the function of this folder owes, proved.
use Rattle.std.proofs.Common.{List, set, get_or, sym, ap, subst, ◌∙◌}
use Rattle.std.specs.List.{AllByRecursion}
use Rattle.nz_machine.specs.declared.data.Attempt.{Attempt}
use Rattle.nz_machine.specs.rules.Clients.{attempt_after_wait}
use Rattle.nz_client.specs.Models.{IsOfProxies}
use Rattle.nz_client.proofs.Windows.{all_at, done_to, done_next, done_more, done_all, all_waited_fit}
use Rattle.nz_client.proofs.state.wait_each.Goals as goal

pub attempt_after_wait-requires-clause-of_proxies : goal.attempt_after_wait-requires-clause-of_proxies
attempt_after_wait-requires-clause-of_proxies c =
    let xs = c.args.attempts.now in
    let i = c.loop-attempt.attempt-index in
    subst (IsOfProxies c.args.proxies)
    (sym (ap (λ (l : List Attempt). get_or l i _) c.loop-attempt.invariant ∙ done_next (attempt_after_wait c.args.proxies) i xs _))
    (all_at (IsOfProxies c.args.proxies) xs i _ c.loop-attempt-test.true c.requires.of_proxies)

pub loop-attempt-preserved : goal.loop-attempt-preserved
loop-attempt-preserved c =
    let xs = c.args.attempts.now in
    let i = c.loop-attempt.attempt-index in
    let f = attempt_after_wait c.args.proxies in
    ap (λ (a : Attempt). set c.loop-attempt.attempts i a) c.attempt_after_wait.ensures.waited
    ∙ ap (λ (l : List Attempt). set l i (f (get_or l i _))) c.loop-attempt.invariant
    ∙ ap (λ (a : Attempt). set (done_to f i xs) i (f a)) (done_next f i xs _)
    ∙ done_more f i xs _ c.loop-attempt-test.true

pub returns-clause-waited : goal.returns-clause-waited
returns-clause-waited c =
    c.loop-attempt.invariant ∙ done_all (attempt_after_wait c.args.proxies) c.loop-attempt.attempt-index c.args.attempts.now c.loop-attempt-test.false

pub returns-clause-of_proxies : goal.returns-clause-of_proxies
returns-clause-of_proxies c =
    let xs = c.args.attempts.now in
    let all = c.loop-attempt.invariant ∙ done_all (attempt_after_wait c.args.proxies) c.loop-attempt.attempt-index xs c.loop-attempt-test.false in
    subst (AllByRecursion (IsOfProxies c.args.proxies)) (sym all) (all_waited_fit c.args.proxies xs c.requires.of_proxies)
