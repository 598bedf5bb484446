-- What is due may happen, and who acts takes part.
use Rattle.std.proofs.Common.{◌≡◌, ℕ, List, [], ◌∷◌, ◌++◌, refl, subst}
use Rattle.std.specs.List.{AllByRecursion}
use Rattle.nz_base.specs.declared.actor.Actor.{Actor}
use Rattle.nz_base.specs.declared.scenario.Scenario.{Scenario}
use Rattle.nz_machine.specs.declared.event.Event.{Event}
use Rattle.nz_machine.specs.declared.event.Event.TheVariants.{Deliver, Cut, Tick, Alarm, Crash, Restart}
use Rattle.nz_machine.specs.declared.event.Parcel.{Parcel}
use Rattle.nz_machine.specs.declared.event.Record.{Record}
use Rattle.nz_machine.specs.runs.World.{sent_in, Has, IsMember, MayHappen, Restarts, World}
use Rattle.nz_machine.specs.runs.Schedule.{group_of, IsPlayable}
use Rattle.nz_machine.proofs.lists.EachItem.{all_imply}
use Rattle.nz_machine.proofs.runs.Runs.{has_right}
use Rattle.nz_machine.proofs.runs.ParcelMembers.{receiver_is_member}
use Rattle.nz_machine.proofs.runs.DueMayHappen.{IsFine, few_restarts}

sent_before : (now older : List Record) (p : Parcel) → Has (sent_in older) p → Has (sent_in (now ++ older)) p
sent_before [] older p h = h
sent_before (r ∷ now) older p h = has_right r.sends (sent_in (now ++ older)) p (sent_before now older p h)

abbrev pub IsNot : ℕ → Record → Type 0
IsNot nonce r = ¬ (r.event ≡ Restart nonce)

-- who acts takes part, and the event may happen
pub record MayTurn (s : Scenario) (J : List Record) (a : Actor) (e : Event) : Type 0 where
  pub member : IsMember (group_of s) a
  pub event : MayHappen J a e

pub may_turn : (s : Scenario) (tick : ℕ) (finished here : List Record) (a : Actor) (e : Event) → IsPlayable s
    → World (group_of s) (here ++ finished) → IsFine s tick finished a e
    → ((nonce : ℕ) → e ≡ Restart nonce → AllByRecursion (IsNot nonce) (here ++ finished)) → MayTurn s (here ++ finished) a e
may_turn s tick finished here a (Deliver p) play w fine fresh =
    let sent = sent_before here finished p fine.1 in
    record { member = subst (IsMember (group_of s)) fine.0 (receiver_is_member (group_of s) (here ++ finished) p w sent); event = (fine.0, sent) }
may_turn s tick finished here a (Cut kept p) play w fine fresh =
    let sent = sent_before here finished p fine.1 in
    record { member = subst (IsMember (group_of s)) fine.0 (receiver_is_member (group_of s) (here ++ finished) p w sent); event = (fine.0, sent) }
may_turn s tick finished here a (Tick clock) play w fine fresh = record { member = fine.0; event = fine.1 }
may_turn s tick finished here a Alarm play w fine fresh = record { member = fine; event = tt }
may_turn s tick finished here a Crash play w fine fresh = record { member = fine; event = tt }
may_turn s tick finished here a (Restart nonce) play w fine fresh = record {
  member = fine.0;
  event = (
    few_restarts s nonce tick play fine.1,
    all_imply (IsNot nonce) (λ (r : Record). ¬ Restarts a nonce r) (λ r h both. h both.1) (here ++ finished) (fresh nonce refl),
  );
}
