-- What the function of this folder owes, proved.
use Rattle.std.proofs.Common.{◌≡◌, ℕ, [], ◌∷◌, ◌++◌, take, ◌+◌, add-one, Ok, subst, arith, length}
use Rattle.std.proofs.Math.ListN.{length-set}
use Rattle.std.specs.Prelude.{slice_set}
use Rattle.std.proofs.Math.Seq.{take-suc-set}
use Rattle.std.proofs.lemmas.Result.{err_from_is_err_and}
use Rattle.nz_msg.specs.Codec.{items_at}
use Rattle.nz_msg.specs.Fields.{u32}
use Rattle.nz_msg.proofs.Loops.{goes_on, ends, is_done}
use Rattle.nz_msg.proofs.lists.counters_at.Goals as goal

pub returns-in_err-counter : goal.returns-in_err-counter
returns-in_err-counter c =
    let p = err_from_is_err_and c.from_residual.result c.from_residual.ensures.1 in
    rw (p.1, p.2) (ends (λ _. u32) c.in_err-counter.field-0.0
    (take c.loop-place.place c.loop-place.counters) c.args.size c.loop-place.place c.loop-place.rest
    (items_at (λ _. u32) [] c.args.size c.args.bytes) c.loop-place-test.true c.in_err-counter.ensures c.loop-place.invariant.whole)

pub loop-place-preserved : goal.loop-place-preserved
loop-place-preserved c =
    let l = c.loop-place in
    let e : take (l.place + 1) (slice_set l.counters l.place c.in_ok-counter.counter) ≡ take l.place l.counters ++ c.in_ok-counter.counter ∷ [] =
    rw add-one (take-suc-set l.counters l.place c.in_ok-counter.counter (omega arith)) in
    let nine : length (slice_set l.counters l.place c.in_ok-counter.counter) ≡ 9 = omega (arith, length-set {A = ℕ}, l.invariant.nine) in
    record {
      nine = nine;
      whole = rw e (goes_on (λ _. u32)
          (take l.place l.counters) c.args.size l.place l.rest c.in_ok-counter.counter c.in_ok-counter.after
          (items_at (λ _. u32) [] c.args.size c.args.bytes) c.loop-place-test.true c.in_ok-counter.ensures l.invariant.whole);
    }

pub returns : goal.returns
returns c =
    let l = c.loop-place in
    let same : l.place ≡ c.args.size = omega arith in
    subst (λ (n : ℕ). items_at (λ _. u32) [] c.args.size c.args.bytes ≡ Ok (take n l.counters, l.rest)) same
    (is_done (λ _. u32) (take l.place l.counters) c.args.size l.place l.rest
    (items_at (λ _. u32) [] c.args.size c.args.bytes) c.loop-place-test.false l.invariant.whole)
