-- What the function of this folder owes, proved.
use Rattle.std.proofs.Common.{◌+◌, [], ◌∷◌, subst, sym}
use Rattle.nz_fabric.specs.alone.States.{State, IsOpen, record_of_open}
use Rattle.nz_fabric.proofs.one_thread.Held.{held_record}
use Rattle.nz_fabric.proofs.one_thread.Remembering.{in_memory_more}
use Rattle.nz_fabric.proofs.alone.Alone.record.Goals as goal

pub invariant_of-self : goal.invariant_of-self
invariant_of-self c =
    let f = c.self.inside in
    let t = f.ticks in
    let inv = c.self.invariant in
    let step = record_of_open c.args.opened c.args.sends in
    rw (c.push.ensures, c.push_reserved.ensures.records, c.push_reserved.ensures.room) (
      held_record t.scenario t.tick f.before
          (f.gone + f.records.room) f.run f.agenda.items f.agenda.next t.marked t.calendar c.args.opened c.args.sends inv.0
          (subst (λ (s : State). IsOpen s c.args.opened) (sym c.self.view_is) c.requires),
      in_memory_more f.run f.records.records (step ∷ []) f.gone f.before f.keeps inv.0.within inv.1,
    )
