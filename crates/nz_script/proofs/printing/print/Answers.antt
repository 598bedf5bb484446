-- What the function of this folder owes, proved.
use Rattle.std.proofs.Common.{◌++◌, ◌∙◌, ap, map, List}
use Rattle.nz_base.specs.declared.scenario.Request.{Request}
use Rattle.nz_base.specs.declared.scenario.Skew.{Skew}
use Rattle.nz_base.specs.declared.scenario.Fault.{Fault}
use Rattle.nz_script.specs.Texts.{text_of, text_of_lines, head_lines, skew_line, scripts_lines, fault_line}
use Rattle.nz_script.specs.Reading.{scenario}
use Rattle.nz_script.proofs.Written.{all_written}
use Rattle.nz_script.proofs.RoundTrip.{read_back}
use Rattle.nz_script.proofs.printing.print.Goals as goal

pub returns-clause-text : goal.returns-clause-text
unfolding text_of
returns-clause-text c =
    let s = c.args.scenario.now in
    c.from_vec.ensures ∙ all_written c.new-out.result.items c.put_head.new.out.items c.put_skews.new.out.items
    c.put_scripts.new.out.items c.put_faults.new.out.items c.put_line.new.out.items
    (head_lines s) (map skew_line s.skews) (scripts_lines 0 s.scripts) (map fault_line s.faults) _
    c.new-out.ensures.items c.in_ok-put_head.ensures
    (c.in_ok-put_skews.ensures ∙ ap (λ (x : List Skew). c.put_head.new.out.items ++ text_of_lines (map skew_line x)) c.as_slice.ensures)
    (c.in_ok-put_scripts.ensures ∙ ap (λ (x : List (List Request)). c.put_skews.new.out.items ++ text_of_lines (scripts_lines 0 x)) c.as_slice-2.ensures)
    (c.in_ok-put_faults.ensures ∙ ap (λ (x : List Fault). c.put_scripts.new.out.items ++ text_of_lines (map fault_line x)) c.as_slice-3.ensures)
    c.in_ok-put_line.ensures

pub returns-clause-read_back : goal.returns-clause-read_back
returns-clause-read_back c = ap scenario (returns-clause-text c) ∙ read_back c.args.scenario.now c.requires
