-- What the function of this folder owes, proved.
use Rattle.std.proofs.Common.{◌∷◌, ◌++◌, [], sym, ◌∙◌, subst}
use Rattle.nz_audit.specs.declared.accepted.answers.Counted.{Counted}
use Rattle.nz_audit.specs.Prefixes.{IsBest, IsBestIfAny}
use Rattle.nz_audit.proofs.LongestPrefixes.{best_stays, best_then}
use Rattle.nz_audit.proofs.prefixes.search.Search.weigh.Goals as goal

pub returns-then-is_shorter-clause-found : goal.returns-then-is_shorter-clause-found
returns-then-is_shorter-clause-found c = λ done h. record {
  replays = h.replays;
  best =
      best_stays c.args.journal.now done c.args.next.now c.args.self.now.best c.requires.within.sent (sym c.is_shorter.ensures ∙ c.if-is_shorter.true) h.best;
}

pub returns-clause-found : goal.returns-clause-found
returns-clause-found c = λ done h.
    let j = c.args.journal.now in
    let a = c.args.next.now in
    let next : Counted = record { answer = a; entries = c.in_ok-entries.entries } in
    let before : IsBestIfAny j done c.count.new.self.best = subst (IsBestIfAny j done) (sym c.in_ok-entries.ensures.best) h.best in
    record {
      replays = c.in_ok-entries.ensures.replays;
      best = subst (IsBest j (done ++ a ∷ [])) (sym c.longer.ensures) (best_then j done next c.count.new.self.best c.in_ok-entries.ensures.entries before);
    }
