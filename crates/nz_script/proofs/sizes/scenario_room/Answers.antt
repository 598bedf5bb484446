-- What the function of this folder owes, proved.
use Rattle.std.proofs.Common.{◌≡◌, ◌∙◌, sym, ap, arith, rules, None, List, map}
use Rattle.nz_base.specs.declared.scenario.Request.{Request}
use Rattle.nz_base.specs.declared.scenario.Skew.{Skew}
use Rattle.nz_base.specs.declared.scenario.Fault.{Fault}
use Rattle.nz_script.specs.Texts.{text_of, head_lines, skew_line, scripts_lines, fault_line}
use Rattle.nz_script.proofs.RoomLeft.{left, some_left, none_left}
use Rattle.nz_script.proofs.sizes.scenario_room.Goals as goal

pub returns-in_err-room-2 : goal.returns-in_err-room-2
unfolding text_of
returns-in_err-room-2 c =
    let s = c.args.scenario.now in
    let none : c.from_residual-in_err-room-2.result ≡ None = first_of (search rules, grind arith) in
    none ∙ none_left c.in_ok-room.room (map skew_line s.skews) _
    (ap (λ (x : List Skew). left c.in_ok-room.room (map skew_line x)) (sym c.as_slice.ensures) ∙ sym c.skews_room.ensures ∙ c.in_err-room-2.was)
    ∙ some_left c.args.room c.in_ok-room.room (head_lines s) _ (sym c.head_room.ensures ∙ c.in_ok-room.was)

pub returns-in_err-room-3 : goal.returns-in_err-room-3
unfolding text_of
returns-in_err-room-3 c =
    let s = c.args.scenario.now in
    let none : c.from_residual-in_err-room-3.result ≡ None = first_of (search rules, grind arith) in
    none ∙ none_left c.in_ok-room-2.room (scripts_lines 0 s.scripts) _
    (ap (λ (x : List (List Request)). left c.in_ok-room-2.room (scripts_lines 0 x)) (sym c.as_slice-2.ensures)
    ∙ sym c.scripts_room.ensures ∙ c.in_err-room-3.was)
    ∙ some_left c.in_ok-room.room c.in_ok-room-2.room (map skew_line s.skews) _
    (ap (λ (x : List Skew). left c.in_ok-room.room (map skew_line x)) (sym c.as_slice.ensures) ∙ sym c.skews_room.ensures ∙ c.in_ok-room-2.was)
    ∙ some_left c.args.room c.in_ok-room.room (head_lines s) _ (sym c.head_room.ensures ∙ c.in_ok-room.was)

pub returns-in_err-room-4 : goal.returns-in_err-room-4
unfolding text_of
returns-in_err-room-4 c =
    let s = c.args.scenario.now in
    let none : c.from_residual-in_err-room-4.result ≡ None = first_of (search rules, grind arith) in
    none ∙ none_left c.in_ok-room-3.room (map fault_line s.faults) _
    (ap (λ (x : List Fault). left c.in_ok-room-3.room (map fault_line x)) (sym c.as_slice-3.ensures)
    ∙ sym c.faults_room.ensures ∙ c.in_err-room-4.was)
    ∙ some_left c.in_ok-room-2.room c.in_ok-room-3.room (scripts_lines 0 s.scripts) _
    (ap (λ (x : List (List Request)). left c.in_ok-room-2.room (scripts_lines 0 x)) (sym c.as_slice-2.ensures)
    ∙ sym c.scripts_room.ensures ∙ c.in_ok-room-3.was)
    ∙ some_left c.in_ok-room.room c.in_ok-room-2.room (map skew_line s.skews) _
    (ap (λ (x : List Skew). left c.in_ok-room.room (map skew_line x)) (sym c.as_slice.ensures) ∙ sym c.skews_room.ensures ∙ c.in_ok-room-2.was)
    ∙ some_left c.args.room c.in_ok-room.room (head_lines s) _ (sym c.head_room.ensures ∙ c.in_ok-room.was)

pub returns : goal.returns
unfolding text_of
returns c =
    let s = c.args.scenario.now in
    c.line_room.ensures
    ∙ some_left c.in_ok-room-3.room c.in_ok-room-4.room (map fault_line s.faults) _
    (ap (λ (x : List Fault). left c.in_ok-room-3.room (map fault_line x)) (sym c.as_slice-3.ensures)
    ∙ sym c.faults_room.ensures ∙ c.in_ok-room-4.was)
    ∙ some_left c.in_ok-room-2.room c.in_ok-room-3.room (scripts_lines 0 s.scripts) _
    (ap (λ (x : List (List Request)). left c.in_ok-room-2.room (scripts_lines 0 x)) (sym c.as_slice-2.ensures)
    ∙ sym c.scripts_room.ensures ∙ c.in_ok-room-3.was)
    ∙ some_left c.in_ok-room.room c.in_ok-room-2.room (map skew_line s.skews) _
    (ap (λ (x : List Skew). left c.in_ok-room.room (map skew_line x)) (sym c.as_slice.ensures) ∙ sym c.skews_room.ensures ∙ c.in_ok-room-2.was)
    ∙ some_left c.args.room c.in_ok-room.room (head_lines s) _ (sym c.head_room.ensures ∙ c.in_ok-room.was)
