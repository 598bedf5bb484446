-- What the function of this folder owes, proved.
use Rattle.std.proofs.Common.{◌≡◌, ◌∙◌, ◌-◌, ℕ, ap, sym, arith, drop, length, length-drop, map, get_or}
use Rattle.std.specs.Prelude.{Option, take, unwrap_or}
use Rattle.std.specs.List.{prefix_len}
use Rattle.std.proofs.lemmas.List.{drop-drop, take_rest}
use Rattle.std.proofs.lemmas.List.Sums.{prefix_len-le-length}
use Rattle.nz_base.specs.Actor.{actor_eq}
use Rattle.nz_machine.specs.declared.journal.Item.{Item}
use Rattle.nz_machine.specs.runs.Schedule.{item}
use Rattle.nz_fabric.specs.schedule.Agendas.{Progress}
use Rattle.nz_fabric.specs.threads.Shared.{run_of}
use Rattle.nz_fabric.proofs.calendars.Agendas.{run_len, own_events}
use Rattle.nz_fabric.proofs.schedule.agenda.Agenda.take_run.Goals as goal

pub invariant_of-self-2 : goal.invariant_of-self-2
invariant_of-self-2 c =
    let f = c.self.inside in
    let items = f.items.items in
    let whole = f.whole.value.items in
    let k = c.unwrap_or-count.result in
    let left = take (length c.deref.result.now - f.next) (drop f.next c.deref.result.now) in
    let a = (get_or left 0 c.index-left-0.result).actor in
    let same : left ≡ drop f.next items = take_rest c.deref.result.now f.next ∙ ap (drop f.next) c.deref.ensures.value in
    let many : k ≡ prefix_len (λ (i : Item). actor_eq i.actor a) left =
    c.unwrap_or-count.ensures ∙ ap (λ (o : Option ℕ). unwrap_or o (length left)) c.run_end.ensures ∙ run_len a left in
    let most = prefix_len-le-length (λ (i : Item). actor_eq i.actor a) left in
    let long = ap length same ∙ length-drop f.next items in (
      c.in_ok-events.ensures.left ∙ sym (drop-drop k f.next items) ∙ ap (drop k) c.self.invariant.0 ∙ drop-drop k f.next whole,
      omega (arith, c.in_ok-events.ensures.len, c.self.invariant.1),
      c.self.invariant.2,
      omega (arith, many, most, long, c.in_ok-events.ensures.len, c.self.invariant.1, c.self.invariant.2, c.self.invariant.3),
    )

pub returns-clause-run : goal.returns-clause-run
returns-clause-run c =
    let f = c.self.inside in
    let items = f.items.items in
    let left = take (length c.deref.result.now - f.next) (drop f.next c.deref.result.now) in
    let a = (get_or left 0 c.index-left-0.result).actor in
    let same : left ≡ drop f.next items = take_rest c.deref.result.now f.next ∙ ap (drop f.next) c.deref.ensures.value in
    let many : c.unwrap_or-count.result ≡ prefix_len (λ (i : Item). actor_eq i.actor a) (drop f.next items) =
    c.unwrap_or-count.ensures ∙ ap (λ (o : Option ℕ). unwrap_or o (length left)) c.run_end.ensures ∙ run_len a left
    ∙ ap (prefix_len (λ (i : Item). actor_eq i.actor a)) same in
    ap (map (item a)) c.in_ok-events.ensures.events
    ∙ ap (λ (n : ℕ). map (item a) (map (λ (i : Item). i.event) (take n (drop f.next items)))) many
    ∙ own_events a (drop f.next items) ∙ ap (run_of a) c.self.invariant.0 ∙ ap (λ (p : Progress). run_of a (drop p.next p.items)) c.self.view_is
