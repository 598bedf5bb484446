-- What the function of this folder owes, proved.
use Rattle.std.proofs.Common.{not, ◌++◌, sym, ap, ◌∙◌}
use Rattle.std.specs.List.{filter}
use Rattle.std.proofs.lemmas.List.{append-nil}
use Rattle.nz_base.specs.declared.key.Entry.{Entry}
use Rattle.nz_base.specs.Log.{keys_of, is_above_last}
use Rattle.nz_machine.specs.declared.held.Held.{Held}
use Rattle.nz_machine.proofs.facts.Collects.{both_ok}
use Rattle.nz_machine.proofs.facts.Takes.{all_stay, own_waiting}
use Rattle.nz_machine.proofs.held.Held.pass_over.Goals as goal

pub move_below-requires-clause-own : goal.move_below-requires-clause-own
move_below-requires-clause-own c = own_waiting c.args.self.now.log c.args.self.now.early c.args.self.now.late c.requires

pub returns-in-None : goal.returns-in-None
returns-in-None c =
    let h : Held = c.args.self.now in
    let stays = all_stay (is_above_last (keys_of h.log.entries)) h.early (λ k. sym (c.in-None.ensures k)) in
    λ i. record h { early = sym stays.0 i; late = (sym (append-nil h.late) ∙ ap (λ xs. h.late ++ xs) (sym stays.1)) i }

pub returns-in-Some : goal.returns-in-Some
returns-in-Some c =
    let h : Held = c.args.self.now in
    both_ok _ _ _ c.move_below.result c.move_below.ensures.early c.move_below.ensures.late
    (λ early late i. record h {
      early = (early ∙ (λ j. filter (λ (e : Entry). c.in-Some.ensures e.key j) h.early)) i;
      late = (late ∙ (λ j. h.late ++ filter (λ (e : Entry). not (c.in-Some.ensures e.key j)) h.early)) i;
    })
