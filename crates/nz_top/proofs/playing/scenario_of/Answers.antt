-- What the function of this folder owes, proved.
use Rattle.std.proofs.Common.{sym, ap, ◌∙◌, arith, length}
use Rattle.nz_script.proofs.ReadIsPlayable.{read_short}
use Rattle.nz_script.specs.Reading.{scenario}
use Rattle.nz_top.proofs.Inputs.{read_is_input, found_is_input, refused_is_input}
use Rattle.nz_top.proofs.Playable.{read_playable}
use Rattle.nz_top.proofs.playing.scenario_of.Goals as goal

pub returns-in-Ok-read-clause-found : goal.returns-in-Ok-read-clause-found
returns-in-Ok-read-clause-found g c =
    let whole = read_is_input _ (g.S.Source.left c.args.source.now) _ c.in-Ok.bytes.items c.in-Ok.ensures.lost c.in-Ok.ensures.most c.in-Ok.ensures.end in
    found_is_input (g.S.Source.left c.args.source.now) c.in-Ok.bytes.items c.in-Ok-read.scenario whole
    (ap scenario (sym c.deref.ensures.value) ∙ c.in-Ok-read.ensures.ok)

pub returns-in-Ok-read-clause-playable : goal.returns-in-Ok-read-clause-playable
returns-in-Ok-read-clause-playable g c = read_playable _ c.in-Ok-read.scenario c.in-Ok-read.ensures.ok

pub returns-in-Ok-read-clause-end : goal.returns-in-Ok-read-clause-end
returns-in-Ok-read-clause-end g c =
    let short = read_short _ c.in-Ok-read.scenario c.in-Ok-read.ensures.ok in
    let same = ap length c.deref.ensures.value in
    c.in-Ok.ensures.end (omega (arith, short, same))

pub returns-in-Err-Refusal-clause-none : goal.returns-in-Err-Refusal-clause-none
returns-in-Err-Refusal-clause-none g c =
    let whole = read_is_input _ (g.S.Source.left c.args.source.now) _ c.in-Ok.bytes.items c.in-Ok.ensures.lost c.in-Ok.ensures.most c.in-Ok.ensures.end in
    λ play is_reading. (
      is_reading,
      refused_is_input (g.S.Source.left c.args.source.now) c.in-Ok.bytes.items _ c.in-Err-Refusal.field-0
          c.in-Err-Refusal.line c.in-Err-Refusal.kind whole c.deref.ensures.value c.in-Err-Refusal.field-0-is c.in-Err-Refusal.ensures.refused,
    )
