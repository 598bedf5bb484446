-- What the function of this folder owes, proved.
use Rattle.std.proofs.Common.{◌≡◌, false, List, Some, is_some, sym, ap, subst, ◌∙◌, refl}
use Rattle.nz_base.specs.declared.key.Entry.{Entry}
use Rattle.nz_base.specs.Log.{keys_of, has_id, IsFirstPlace}
use Rattle.nz_buffers.proofs.Removing.{taken_at, find_none, find_held, without_none}
use Rattle.nz_buffers.proofs.places.take_out.Goals as goal

-- the place is one of the vector's entries
at : (c : goal.After-remove) → IsFirstPlace c.args.entries.now.items c.args.id c.in-Some.place
at c = subst (λ (xs : List Entry). IsFirstPlace xs c.args.id c.in-Some.place) c.deref.ensures.value c.in-Some.ensures.found

away : (c : goal.In-None) → has_id (keys_of c.args.entries.now.items) c.args.id ≡ false
away c = subst (λ (xs : List Entry). has_id (keys_of xs) c.args.id ≡ false) c.deref.ensures.value c.in-None.ensures.none

pub returns-in-Some-clause-value : goal.returns-in-Some-clause-value
returns-in-Some-clause-value c =
    ap Some c.remove.ensures.value ∙ sym (taken_at c.args.entries.now.items c.args.id c.in-Some.place c.remove.result c.requires (at c)).0

pub returns-in-Some-clause-held : goal.returns-in-Some-clause-held
returns-in-Some-clause-held c = (
  λ _. sym (find_held c.args.entries.now.items c.args.id)
      ∙ ap is_some (taken_at c.args.entries.now.items c.args.id c.in-Some.place c.remove.result c.requires (at c)).0,
  λ _. refl,
)

pub returns-in-Some-clause-rest : goal.returns-in-Some-clause-rest
returns-in-Some-clause-rest c =
    c.remove.ensures.items ∙ sym (taken_at c.args.entries.now.items c.args.id c.in-Some.place c.remove.result c.requires (at c)).1

pub returns-in-None-clause-value : goal.returns-in-None-clause-value
returns-in-None-clause-value c = sym (find_none c.args.entries.now.items c.args.id (away c))

pub returns-in-None-clause-rest : goal.returns-in-None-clause-rest
returns-in-None-clause-rest c = sym (without_none c.args.entries.now.items c.args.id (away c))
