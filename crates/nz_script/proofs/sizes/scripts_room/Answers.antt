-- What the function of this folder owes, proved.
use Rattle.std.proofs.Common.{◌≡◌, ◌∙◌, sym, ap, arith, rules, None, List}
use Rattle.nz_base.specs.declared.scenario.Request.{Request}
use Rattle.nz_script.specs.Texts.{script_lines}
use Rattle.nz_script.proofs.RoomLeft.{left, script_left, no_script_left}
use Rattle.nz_script.proofs.sizes.scripts_room.Goals as goal

pub returns-in_err-room-2 : goal.returns-in_err-room-2
returns-in_err-room-2 c =
    let none : c.from_residual-in_err-room-2.result ≡ None = first_of (search rules, grind arith) in
    none ∙ no_script_left c.loop-script.room c.in_ok-room.room c.loop-script.client c.loop-script.script-index
    c.args.scripts.now c.script-item.result _ c.loop-script-test.true c.script-item.is
    (sym c.line_room.ensures ∙ c.in_ok-room.was)
    (ap (λ (x : List Request). left c.in_ok-room.room (script_lines x)) (sym c.as_slice.ensures)
    ∙ sym c.script_room.ensures ∙ c.in_err-room-2.was) c.loop-script.invariant.left

pub loop-script-preserved : goal.loop-script-preserved
loop-script-preserved c = record {
  left =
      script_left c.loop-script.room c.in_ok-room.room c.in_ok-room-2.room c.loop-script.client c.loop-script.script-index
      c.args.scripts.now c.script-item.result _ c.loop-script-test.true c.script-item.is
      (sym c.line_room.ensures ∙ c.in_ok-room.was)
      (ap (λ (x : List Request). left c.in_ok-room.room (script_lines x)) (sym c.as_slice.ensures)
      ∙ sym c.script_room.ensures ∙ c.in_ok-room-2.was) c.loop-script.invariant.left;
  counted = omega (arith, c.loop-script.invariant.counted);
}
