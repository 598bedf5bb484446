-- What the function of this folder owes, proved.
use Rattle.std.proofs.Common.{◌∙◌, rules}
use Rattle.std.proofs.lemmas.Fn.{filter_same}
use Rattle.std.proofs.lemmas.Result.{on_ok_weaker}
use Rattle.nz_audit.specs.Prefixes.{IsAccepted}
use Rattle.nz_audit.proofs.SearchRounds.{may_be_longest, found_kept, kept_accepted, kept_within}
use Rattle.nz_audit.proofs.prefixes.search.Search.weigh_others.Goals as goal

pub weigh_all-requires-clause-accepted : goal.weigh_all-requires-clause-accepted
weigh_all-requires-clause-accepted c =
    kept_accepted (IsAccepted c.args.journal.now) c.args.answers.items c.as_slice.result.now c.args.self.now.best (c.as_slice.ensures.value
    ∙ filter_same _ (may_be_longest c.args.self.now.best) _ (λ x b f' k. search rules) _ _ c.retain.ensures.filtered)
    c.requires.accepted

pub weigh_all-requires-clause-within : goal.weigh_all-requires-clause-within
weigh_all-requires-clause-within c =
    kept_within c.args.journal.now c.args.answers.items c.as_slice.result.now c.args.self.now.best (c.as_slice.ensures.value
    ∙ filter_same _ (may_be_longest c.args.self.now.best) _ (λ x b f' k. search rules) _ _ c.retain.ensures.filtered)
    c.requires.within

pub returns : goal.returns
returns c = on_ok_weaker c.weigh_all.result (λ found done h.
    found_kept c.args.journal.now done c.args.answers.items c.as_slice.result.now c.args.self.now c.weigh_all.new.self (c.as_slice.ensures.value
    ∙ filter_same _ (may_be_longest c.args.self.now.best) _ (λ x b f' k. search rules) _ _ c.retain.ensures.filtered)
    c.requires.within found h) c.weigh_all.ensures.found
