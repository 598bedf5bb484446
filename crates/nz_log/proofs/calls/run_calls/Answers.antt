-- What the function of this folder owes, proved.
use Rattle.std.proofs.Common.{◌≡◌, ◌+◌, List, [], ◌∷◌, ◌++◌, take, sym, ap, subst, ◌∙◌}
use Rattle.std.proofs.lemmas.List.{take_more}
use Rattle.nz_log.specs.declared.calls.LogCall.{LogCall}
use Rattle.nz_log.specs.declared.calls.LogAnswer.{LogAnswer}
use Rattle.nz_log.specs.Synced.{Log}
use Rattle.nz_log.specs.Calls.{answer_to, after_call, answers_to, after_calls}
use Rattle.nz_log.proofs.Calling.{answers_more, after_more}
use Rattle.nz_log.proofs.calls.run_calls.Goals as goal

pub loop-call-preserved : goal.loop-call-preserved
loop-call-preserved g c =
    let start = g.L.LogRep.log c.args.log.now in
    let calls = c.args.calls.now in
    let n = c.loop-call.call-index in
    let call = c.call-item.result in
    let items : c.as_slice-call-items.result.now ≡ calls = c.as_slice-call-items.ensures in
    let xs = c.as_slice-call-items.result.now in
    let more : take (n + 1) calls ≡ take n calls ++ call ∷ [] =
    subst (λ (ys : List LogCall). take (n + 1) ys ≡ take n ys ++ call ∷ []) items
    (take_more xs n call c.loop-call-test.true ∙ ap (λ (x : LogCall). take n xs ++ x ∷ []) (sym c.call-item.is)) in
    record {
      answers = c.in_ok-push.ensures.ok
          ∙ ap (λ (answer : LogAnswer). c.loop-call.answers ++ answer ∷ []) c.in_ok-make_call.ensures.answer
          ∙ ap (λ (log : Log). c.loop-call.answers ++ answer_to log call ∷ []) c.loop-call.invariant.log
          ∙ ap (λ (answers : List LogAnswer). answers ++ answer_to (after_calls start (take n calls)) call ∷ []) c.loop-call.invariant.answers
          ∙ sym (answers_more start (take n calls) call)
          ∙ ap (answers_to start) (sym more);
      log = c.in_ok-make_call.ensures.log
          ∙ ap (λ (log : Log). after_call log call) c.loop-call.invariant.log
          ∙ sym (after_more start (take n calls) call)
          ∙ ap (after_calls start) (sym more);
    }
