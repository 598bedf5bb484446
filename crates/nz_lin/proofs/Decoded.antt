-- Each parcel that was sent is decoded as one message.
use Rattle.std.proofs.Common.{List, sym, subst}
use Rattle.nz_base.specs.declared.actor.Actor.{Actor}
use Rattle.nz_msg.proofs.Envelopes.{decode-encode}
use Rattle.nz_machine.specs.declared.event.Parcel.{Parcel}
use Rattle.nz_machine.specs.declared.event.Record.{Record}
use Rattle.nz_machine.specs.rules.State.{Group, Out}
use Rattle.nz_machine.specs.rules.Step.{parcel}
use Rattle.nz_machine.specs.runs.World.{sent_in, Has, World}
use Rattle.nz_machine.proofs.runs.Runs.{FitsOut, sent_from}
use Rattle.nz_machine.proofs.runs.FitRuns.{Fitted, all_fit}
use Rattle.nz_lin.specs.Laws.{IsDecoded}

parcel_decodes : (by : Actor) (o : Out) → FitsOut by o → IsDecoded (parcel by o)
parcel_decodes by o fit =
    record {
      message = o.1;
      sender = fit.sender;
      receiver = fit.receiver;
      fit = fit.message;
      decoded = decode-encode by o.0 o.1 fit.sender fit.receiver fit.message;
    }

pub each_decodes : (g : Group) (J : List Record) (p : Parcel) → World g J → Has (sent_in J) p → IsDecoded p
each_decodes g J p w h =
    let s = sent_from (Fitted g J) J p (all_fit g J w).sends h in
    subst IsDecoded (sym s.is) (parcel_decodes s.by s.out s.has)
