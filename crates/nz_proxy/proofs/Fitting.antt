-- What is kept stays of the cluster, with answers that frames can carry.
use Rattle.std.proofs.Common.{◌≡◌, ℕ, List, [], ◌∷◌, ◌++◌, Option, Some, None, refl, sym, subst, inl, inr}
use Rattle.std.proofs.lemmas.Bool.{cases_Bool}
use Rattle.std.specs.Prelude.{IfSome}
use Rattle.std.specs.List.{AllByRecursion, list_any}
use Rattle.nz_store.specs.declared.command.Answer.{Answer}
use Rattle.nz_msg.specs.declared.message.Path.{Path}
use Rattle.nz_msg.specs.Fields.{answer}
use Rattle.nz_machine.specs.declared.reply.Reply.{Reply}
use Rattle.nz_machine.specs.rules.Quorums.{Chosen, decision, answer_in, reply_eq, with_note}
use Rattle.nz_quorum.specs.Tallies.{IsOfCluster}
use Rattle.nz_quorum.proofs.Choosing.{chosen_is_first}
use Rattle.nz_proxy.specs.declared.standing.Standing.{Standing}
use Rattle.nz_proxy.specs.declared.standing.Standing.TheVariants.{Open, Decided}
use Rattle.nz_proxy.specs.Standings.{IsFitStanding, IsNotable, HasFitAnswer, tally_with_reply, answer_on_path, answer_of_choice, answer_after_reply}

each_more : (replies : List Reply) (reply : Reply) → AllByRecursion HasFitAnswer replies → HasFitAnswer reply
    → AllByRecursion HasFitAnswer (replies ++ reply ∷ [])
each_more [] reply all fit = (fit, tt)
each_more (r ∷ replies) reply all fit = (all.0, each_more replies reply all.1 fit)

pub fit_note : (replies : List Reply) (reply : Reply) → AllByRecursion HasFitAnswer replies → HasFitAnswer reply
    → AllByRecursion HasFitAnswer (with_note replies reply)
fit_note replies reply all fit =
    elim (cases_Bool (list_any (reply_eq reply) replies)) [
      | inl there ↦ rw there all
      | inr new ↦ rw new (each_more replies reply all fit)
    ]

middle : (before : List Reply) (reply : Reply) (rest_after : List Reply) → AllByRecursion HasFitAnswer (before ++ reply ∷ rest_after) → HasFitAnswer reply
middle [] reply rest_after all = all.0
middle (r ∷ before) reply rest_after all = middle before reply rest_after all.1

chosen_fits : (f : ℕ) (replies : List Reply) (chosen : Chosen) → AllByRecursion HasFitAnswer replies
    → decision f replies ≡ Some chosen → HasFitAnswer chosen.reply
chosen_fits f replies chosen all e =
    let first = chosen_is_first f replies chosen e in
    middle first.before chosen.reply first.rest_after (subst (λ (rs : List Reply). AllByRecursion HasFitAnswer rs) first.noted all)

pub decided_fits : (f : ℕ) (replies : List Reply) (chosen : Chosen) (a : Answer) → AllByRecursion HasFitAnswer replies
    → decision f replies ≡ Some chosen → answer_in chosen.reply ≡ Some a → answer.fits a
decided_fits f replies chosen a all e is =
    let fit = chosen_fits f replies chosen all e in
    subst (λ (o : Option Answer). IfSome o answer.fits) is fit.answer

answer_on_path_fits : (path : Path) (a : Option Answer) → IfSome a answer.fits → IfSome (answer_on_path path a) (λ t. answer.fits t.0)
answer_on_path_fits path None fit = tt
answer_on_path_fits path (Some a) fit = fit

answer_of_choice_fits : (f : ℕ) (replies : List Reply) (o : Option Chosen) → AllByRecursion HasFitAnswer replies
    → decision f replies ≡ o → IfSome (answer_of_choice o) (λ t. answer.fits t.0)
answer_of_choice_fits f replies None all e = tt
answer_of_choice_fits f replies (Some chosen) all e =
    let fit = chosen_fits f replies chosen all e in
    answer_on_path_fits chosen.path (answer_in chosen.reply) fit.answer

pub answer_after_reply_fits : (f : ℕ) (s : Standing) (reply : Reply) → HasFitAnswer reply → IsFitStanding f s
    → IfSome (answer_after_reply s reply) (λ t. answer.fits t.0)
answer_after_reply_fits f (Decided a path) reply fit all = tt
answer_after_reply_fits f (Open tally) reply fit all =
    let t = tally_with_reply tally reply in
    answer_of_choice_fits t.f t.replies (decision t.f t.replies) (fit_note tally.replies reply all.1 fit) refl

-- A reply of the cluster may be noted in each fit standing.
pub notable : (f : ℕ) (s : Standing) (reply : Reply) → IsFitStanding f s → IsOfCluster f reply → IsNotable s reply
notable f (Decided a path) reply fit of_cluster = tt
notable f (Open tally) reply fit of_cluster = subst (λ (n : ℕ). IsOfCluster n reply) (sym fit.0) of_cluster
