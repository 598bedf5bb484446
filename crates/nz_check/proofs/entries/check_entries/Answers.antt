-- What the function of this folder owes, proved.
use Rattle.std.proofs.Common.{◌≡◌, ◌+◌, ℕ, [], List, length, take, drop, refl, sym, ap, ◌∙◌, arith}
use Rattle.std.specs.Prelude.{slice_get}
use Rattle.nz_store.specs.Sequence.{store_from, store_after}
use Rattle.nz_machine.specs.declared.journal.Executed.{Executed}
use Rattle.nz_check.specs.declared.verdict.Verdict.TheVariants.{No}
use Rattle.nz_check.specs.Checked.{first_line, whys, at_why, commands_of}
use Rattle.nz_check.proofs.Passes.{next_line, wrong_line, no_line, get_item}
use Rattle.nz_check.proofs.Applied.{found_in, applied_in}
use Rattle.nz_check.proofs.entries.check_entries.Goals as goal

pub loop-entry-init : goal.loop-entry-init
unfolding store_from
loop-entry-init c =
    let p = c.args.printed.now in
    let n = length p.events + length p.unanswered + 1 in
    let start : n + 0 ≡ n = omega arith in
    record {
      place = refl;
      store = c.new-store.ensures;
      first = ap (λ (m : ℕ). first_line m (whys (at_why p) [] c.as_slice-history.result.now)) start;
    }

pub take-requires-clause-entry : goal.take-requires-clause-entry
take-requires-clause-entry c =
    let H = c.as_slice-history.result.now in
    ap (λ (l : List Executed). slice_get l c.loop-entry.place) (sym c.as_slice-history.ensures)
    ∙ ap (slice_get H) c.loop-entry.invariant.place
    ∙ get_item H c.loop-entry.entry-index c.entry-item.result c.loop-entry-test.true c.entry-item.is

pub take-requires-clause-store : goal.take-requires-clause-store
take-requires-clause-store c =
    c.loop-entry.invariant.store
    ∙ ap (λ (n : ℕ). store_after (commands_of (take n c.as_slice-history.result.now))) (sym c.loop-entry.invariant.place)
    ∙ ap (λ (l : List Executed). store_after (commands_of (take c.loop-entry.place l))) c.as_slice-history.ensures

pub loop-entry-preserved : goal.loop-entry-preserved
loop-entry-preserved c =
    let p = c.args.printed.now in
    let H = c.as_slice-history.result.now in
    let i = c.loop-entry.entry-index in
    let x = c.entry-item.result in
    let n = length p.events + length p.unanswered + 1 + c.loop-entry.place in
    let same = c.loop-entry.invariant.place in
    let t = c.in_ok-why.ensures in
    let next : n + 1 ≡ length p.events + length p.unanswered + 1 + (c.loop-entry.place + 1) = omega arith in
    record {
      place = omega (arith, same);
      store = applied_in p H c.loop-entry.place i x c.in_ok-why.field-0 c.take.new.store c.as_slice-history.ensures same t c.in_default.is;
      first = ap (λ (m : ℕ). first_line m (whys (at_why p) (take (i + 1) H) (drop (i + 1) H))) (sym next)
          ∙ next_line (at_why p) H i n x _ c.loop-entry-test.true c.entry-item.is
          (found_in p H c.loop-entry.place i x c.in_ok-why.field-0 c.take.new.store c.as_slice-history.ensures same t ∙ c.in_default.is)
          c.loop-entry.invariant.first;
    }

pub returns-in-Some : goal.returns-in-Some
returns-in-Some c =
    let p = c.args.printed.now in
    let H = c.as_slice-history.result.now in
    let i = c.loop-entry.entry-index in
    let x = c.entry-item.result in
    let n = length p.events + length p.unanswered + 1 + c.loop-entry.place in
    let events : c.len.result ≡ length p.events = c.len.ensures in
    let opens : c.len-2.result ≡ length p.unanswered = c.len-2.ensures in
    let line : c.len.result + c.len-2.result + c.loop-entry.place + 1 ≡ n = omega (arith, events, opens) in
    ap (λ (m : ℕ). No m c.in-Some.why) line
    ∙ wrong_line (at_why p) H i n x c.in-Some.why _ c.loop-entry-test.true c.entry-item.is
    (found_in p H c.loop-entry.place i x c.in_ok-why.field-0 c.take.new.store c.as_slice-history.ensures c.loop-entry.invariant.place c.in_ok-why.ensures
    ∙ c.in-Some.is) c.loop-entry.invariant.first
    ∙ ap (λ (l : List Executed). first_line (length p.events + length p.unanswered + 1) (whys (at_why p) [] l)) c.as_slice-history.ensures

pub returns : goal.returns
returns c =
    let p = c.args.printed.now in
    no_line (at_why p) c.as_slice-history.result.now c.loop-entry.entry-index (length p.events + length p.unanswered + 1 + c.loop-entry.place) _
    c.loop-entry-test.false c.loop-entry.invariant.first
    ∙ ap (λ (l : List Executed). first_line (length p.events + length p.unanswered + 1) (whys (at_why p) [] l)) c.as_slice-history.ensures
