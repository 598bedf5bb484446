-- In every run each message shows its sender before and after the record that first sent it.
use Rattle.std.proofs.Common.{◌≡◌, List, ◌∷◌, Some, refl, sym, ap, subst, ◌∙◌}
use Rattle.nz_msg.proofs.Envelopes.{decode-encode}
use Rattle.nz_machine.specs.declared.event.Parcel.{Parcel}
use Rattle.nz_machine.specs.declared.event.Record.{Record}
use Rattle.nz_machine.specs.rules.State.{Group}
use Rattle.nz_machine.specs.rules.Step.{event_step}
use Rattle.nz_machine.specs.runs.World.{state_after, sent_in, Has, World}
use Rattle.nz_machine.specs.runs.History.{source}
use Rattle.nz_machine.proofs.runs.Runs.{FitsOut, SentBy, sent_by, sends_have, all_has}
use Rattle.nz_machine.proofs.runs.Moments.{at_world}
use Rattle.nz_machine.proofs.runs.Sources.{has_source, source_is}
use Rattle.nz_machine.proofs.runs.FitRuns.{Fitted, FittedState, fits_keep}
use Rattle.nz_machine.proofs.shows.SentMessages.{shown}
use Rattle.nz_lin.specs.Snapshots.{IsSnapshot}

snapshot : (g : Group) (J : List Record) (p : Parcel) (r : Record) (older : List Record) → source p J ≡ Some (r ∷ older) → World g (r ∷ older)
    → SentBy g r older p → IsSnapshot g J p
snapshot g J p r older first w b =
    let outs = (event_step g r.actor (state_after g r.actor older) r.event).1 in
    let fit : FitsOut r.actor b.out = all_has (FitsOut r.actor) outs b.out (sends_have g (Fitted g) (FittedState g) (fits_keep g) older r w) b.among in
    subst (IsSnapshot g J) (sym b.is) (record {
      newest = r;
      older = older;
      first = ap (λ (q : Parcel). source q J) (sym b.is) ∙ first;
      sender = refl;
      message = b.out.1;
      decoded = decode-encode r.actor b.out.0 b.out.1 fit.sender fit.receiver fit.message;
      shows = shown g r older b.out w b.among;
    })

pub are_snapshots : (g : Group) (J : List Record) (p : Parcel) → World g J → Has (sent_in J) p → IsSnapshot g J p
are_snapshots g J p w h =
    let k = has_source p J h in
    let s = source_is p J k.0 k.1 in
    let now = at_world g J (s.newest ∷ s.older) w s.at in
    snapshot g J p s.newest s.older (k.1 ∙ ap Some s.is) now (sent_by g s.newest s.older p now s.sends)
