-- What is printed of a run is the answer of a call.
use Rattle.std.proofs.Common.{◌≡◌, ℕ, List, sym, subst}
use Rattle.nz_base.specs.declared.scenario.Scenario.{Scenario}
use Rattle.nz_machine.specs.declared.journal.Journal.{Journal}
use Rattle.nz_machine.specs.journals.Journals.{group_in, run_in}
use Rattle.nz_machine.specs.runs.Schedule.{InOrder, IsPlayable, Scheduled}
use Rattle.nz_machine.specs.runs.World.{World}
use Rattle.nz_top.specs.declared.words.Play.{Play}
use Rattle.nz_top.specs.Reports.{printed_by}
use Rattle.nz_top.specs.Watching.{IsAnswered, IsPrinted}
use Rattle.nz_top.proofs.Pace.{has_pace}

pub kept_is_answered : (play : Play) (s : Scenario) (j kept : Journal) (bytes : List ℕ) → IsPlayable s → kept ≡ j → j.scenario ≡ s
    → Scheduled s (run_in j) → (play.workers ≡ 1 → InOrder s (run_in j)) → World (group_in j) (run_in j) → bytes ≡ printed_by play.report j
    → IsAnswered play s kept bytes
kept_is_answered play s j kept bytes playable same is scheduled order world text =
    subst (λ (k : Journal). IsAnswered play s k bytes) (sym same)
    (record {
      scenario = is;
      is_run = record { world = world; scheduled = subst (λ (t : Scenario). Scheduled t (run_in j)) (sym is) scheduled };
      in_order = λ one. subst (λ (t : Scenario). InOrder t (run_in j)) (sym is) (order one);
      pace = λ one. has_pace s j is playable world (order one);
      text = text;
    })

pub watched_is_answered : (play : Play) (s : Scenario) (j kept : Journal) (bytes : List ℕ) → IsPlayable s → kept ≡ j
    → IsPrinted play.report s j bytes → IsAnswered play s kept bytes
watched_is_answered play s j kept bytes playable same printed =
    subst (λ (k : Journal). IsAnswered play s k bytes) (sym same)
    (record {
      scenario = printed.scenario;
      is_run = printed.is_run;
      in_order = λ one. printed.in_order;
      pace = λ one. has_pace s j printed.scenario playable printed.is_run.world (subst (λ (t : Scenario). InOrder t (run_in j)) printed.scenario printed.in_order);
      text = printed.text;
    })
