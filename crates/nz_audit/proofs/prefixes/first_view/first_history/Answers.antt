-- What the function of this folder owes, proved.
use Rattle.std.proofs.Common.{◌≡◌, List, sym, subst}
use Rattle.std.proofs.lemmas.Option.{IfSome_then}
use Rattle.std.proofs.lemmas.Result.{IfOk-weaker}
use Rattle.nz_machine.specs.declared.event.Record.{Record}
use Rattle.nz_machine.specs.rules.State.{Group}
use Rattle.nz_machine.specs.runs.History.{history}
use Rattle.nz_machine.specs.journals.Journals.{run_in, executed_entries}
use Rattle.nz_machine.specs.journals.EventNotes.{events_at}
use Rattle.nz_machine.specs.runs.World.{World}
use Rattle.nz_replica.specs.Models.{AreCores}
use Rattle.nz_audit.specs.Prefixes.{AreAccepted}
use Rattle.nz_audit.proofs.FirstView.{with_journal}
use Rattle.nz_audit.proofs.prefixes.first_view.first_history.Goals as goal

pub returns : goal.returns
returns c =
    let cluster = c.args.cluster in
    let events = c.args.events.now in
    let cores = c.args.replicas.now in
    IfOk-weaker c.history_by_accepted.result _ _ (λ o known. IfSome_then o known (λ found is.
    with_journal (λ (g : Group) (J : List Record).
    g.f ≡ cluster → World g J → events ≡ events_at g J → AreCores g J cores → found ≡ executed_entries (history g J))
    (λ journal same w are_same given. is journal same given
    (subst (AreAccepted journal (run_in journal)) (sym c.as_slice.ensures.value) (c.in_ok-accepted.ensures journal w are_same))))) c.history_by_accepted.ensures
