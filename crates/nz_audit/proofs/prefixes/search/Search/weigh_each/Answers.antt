-- What the function of this folder owes, proved.
use Rattle.std.proofs.Common.{List, ◌++◌, take, append-nil, append_assoc, sym, ap, subst, ◌∙◌}
use Rattle.std.proofs.lemmas.List.{take_all, take_more}
use Rattle.nz_audit.specs.declared.accepted.answers.Traced.{Traced}
use Rattle.nz_audit.specs.Prefixes.{IsFound}
use Rattle.nz_audit.proofs.prefixes.search.Search.weigh_each.Goals as goal

pub loop-next-init : goal.loop-next-init
loop-next-init c = record {
  replays = c.requires.replays;
  found = λ done h. subst (λ (l : List Traced). IsFound c.args.journal.now l c.args.self.now) (sym (append-nil done)) h;
}

pub returns-clause-found : goal.returns-clause-found
returns-clause-found c = λ done h.
    subst (λ (l : List Traced). IsFound c.args.journal.now (done ++ l) c.loop-next.self)
    (take_all c.loop-next.next-index c.args.accepted.now c.loop-next-test.false) (c.loop-next.invariant.found done h)

pub loop-next-preserved : goal.loop-next-preserved
loop-next-preserved c = record {
  replays = c.in_ok-weigh.ensures.replays;
  found = λ done h.
      let i = c.loop-next.next-index in
      let xs = c.args.accepted.now in
      subst (λ (l : List Traced). IsFound c.args.journal.now l c.weigh.new.self)
      (append_assoc done (take i xs) _ ∙ ap (λ (l : List Traced). done ++ l) (sym (take_more xs i _ c.loop-next-test.true)))
      (c.in_ok-weigh.ensures.found (done ++ take i xs) (c.loop-next.invariant.found done h));
}
