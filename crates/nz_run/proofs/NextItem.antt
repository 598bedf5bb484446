-- The next item of a tick may happen, and its record goes on with the run.
use Rattle.std.proofs.Common.{◌≡◌, ℕ, zero, suc, List, [], ◌∷◌, ◌++◌, length, map, Some, sym, ap, ◌∙◌, subst, arith}
use Rattle.std.specs.Prelude.{take, reverse, slice_get}
use Rattle.std.specs.List.{AllByRecursion}
use Rattle.std.proofs.lemmas.Option.{none-some}
use Rattle.nz_base.specs.declared.scenario.Scenario.{Scenario}
use Rattle.nz_machine.specs.declared.event.Event.TheVariants.{Restart}
use Rattle.nz_machine.specs.declared.event.Parcel.{Parcel}
use Rattle.nz_machine.specs.declared.event.Record.{Record}
use Rattle.nz_machine.specs.declared.journal.Item.{Item}
use Rattle.nz_machine.specs.rules.State.{Group}
use Rattle.nz_machine.specs.runs.World.{IsMember, World}
use Rattle.nz_machine.specs.runs.Schedule.{group_of, item_of, due, IsPlayable}
use Rattle.nz_machine.proofs.lists.EachItem.{all_append}
use Rattle.nz_fabric.specs.declared.alone.open_item.OpenItem.{OpenItem}
use Rattle.nz_fabric.specs.alone.States.{State, records_of, IsBegun, IsKeptRun, IsNextItem, HasNoOpenItem, item_in, with_taken, with_recorded}
use Rattle.nz_run.specs.declared.cast.Cast.{Cast}
use Rattle.nz_run.specs.Casts.{record_of, sends_of, IsCast, IsUnderWay}
use Rattle.nz_machine.proofs.runs.Scheduling.{scheduled_in_order}
use Rattle.nz_machine.proofs.runs.DueMayHappen.{IsFine, ItemIsFine, due_is_fine}
use Rattle.nz_machine.proofs.runs.FreshNonces.{got, here_not, finished_not}
use Rattle.nz_machine.proofs.runs.MayTurn.{IsNot, MayTurn, may_turn}

-- the item may happen in its tick, and no record has its nonce
record MayHappen (s : Scenario) (tick : ℕ) (finished here : List Record) (i : Item) : Type 0 where
  fine : ItemIsFine s tick finished i
  fresh : (nonce : ℕ) → i.event ≡ Restart nonce → AllByRecursion (IsNot nonce) (here ++ finished)

may_happen : (s : Scenario) (tick : ℕ) (finished here : List Record) (items : List Item) (i : Item) → IsPlayable s
    → IsBegun s tick finished items → map item_of (reverse here) ≡ take (length here) items
    → slice_get items (length here) ≡ Some i → MayHappen s tick finished here i
may_happen s zero finished here items i play (none, nothing) so_far at =
    absurd (none-some i (sym (ap (λ (is : List Item). slice_get is (length here)) nothing) ∙ at))
may_happen s (suc tick) finished here items i play (order, are_due) so_far at =
    let now : slice_get (due s (suc tick) finished) (length here) ≡ Some i = sym (ap (λ (is : List Item). slice_get is (length here)) are_due) ∙ at in
    let fine = got (ItemIsFine s (suc tick) finished) (due s (suc tick) finished) (length here) i (due_is_fine s (suc tick) finished play) now in
    record {
      fine = fine;
      fresh = λ nonce is.
          all_append (IsNot nonce) here finished (here_not s (suc tick) finished here i nonce (so_far ∙ ap (take (length here)) are_due) now is)
          (finished_not s tick nonce finished play (scheduled_in_order s tick finished order) (subst (IsFine s (suc tick) finished i.actor) is fine).1);
    }

pub next_may_happen : (f : State) (opened : OpenItem) → IsKeptRun f → World (group_of f.scenario) (records_of f)
    → IsNextItem f opened → MayTurn f.scenario (records_of f) opened.actor opened.event
next_may_happen f opened k w n =
    let t = may_happen f.scenario f.tick f.finished f.here f.items (item_in opened) k.playable k.begun k.in_order n.item in
    may_turn f.scenario f.tick f.finished f.here opened.actor opened.event k.playable w t.fine t.fresh

-- its record goes on with the run
pub under_way_now : (f : State) (cast cast' : Cast) (opened : OpenItem) (sends : List Parcel) → IsKeptRun f → IsUnderWay f cast → IsNextItem f opened
    → ((g : Group) (J : List Record) (tick : ℕ) → IsCast g J cast → IsMember g opened.actor
    → (sends ≡ sends_of g J opened.actor opened.event) × IsCast g (record_of tick opened.actor opened.event sends ∷ J) cast')
    → IsUnderWay (with_recorded opened sends (with_taken f)) cast'
under_way_now f cast cast' opened sends k u n step =
    let may = next_may_happen f opened k u.world n in
    let now = step (group_of f.scenario) (records_of f) opened.tick u.is_cast may.member in
    record { world = (record { member = may.member; event = may.event; sends = now.0 }, u.world); is_cast = now.1 }

pub none_open_now : (f : State) (opened : OpenItem) (sends : List Parcel) → HasNoOpenItem f → HasNoOpenItem (with_recorded opened sends (with_taken f))
none_open_now f opened sends q = let closed = q.closed in record { unmarked = q.unmarked; closed = omega (arith, closed) }
