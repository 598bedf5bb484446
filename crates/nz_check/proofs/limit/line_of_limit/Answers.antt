-- What the function of this folder owes, proved.
use Rattle.std.proofs.Common.{◌≡◌, ℕ, suc, ◌+◌, ◌<◌, List, length, take, sym, ap, ◌∙◌, arith}
use Rattle.std.specs.Prelude.{◌==◌, count_by}
use Rattle.std.proofs.lemmas.List.{take_all}
use Rattle.std.proofs.lemmas.List.Sums.{count_by_more_yes, count_by_more_no, count_by-le-length}
use Rattle.nz_script.specs.Bytes.{newline}
use Rattle.nz_check.proofs.Passes.{taken}
use Rattle.nz_check.proofs.limit.line_of_limit.Goals as goal
use Rattle.nz_check.proofs.limit.line_of_limit.Goals.{then-ends_line, else-ends_line}

pub loop-byte-preserved : goal.loop-byte-preserved
loop-byte-preserved c =
    let xs = c.split_at.result.0.now in
    let i = c.loop-byte.byte-index in
    let p = λ (b : ℕ). b == newline in
    let inv : c.loop-byte.line ≡ suc (count_by p (take i xs)) = c.loop-byte.invariant in
    let kept : c.if-ends_line.line ≡ suc (count_by p (take (i + 1) xs)) = elim c.if-ends_line.branch [
      | then-ends_line w ↦
          let more = count_by_more_yes p xs i 0 c.loop-byte-test.true (sym c.ends_line.ensures ∙ w.if-ends_line.true) in
          let is = w.line-is in
          omega (arith, is, inv, more)
      | else-ends_line w ↦
          let same = count_by_more_no p xs i 0 c.loop-byte-test.true (sym c.ends_line.ensures ∙ w.if-ends_line.false) in
          let is = w.line-is in
          omega (arith, is, inv, same)
    ] in
    kept

pub overflow_add-line : goal.overflow_add-line
overflow_add-line c =
    let xs = c.split_at.result.0.now in
    let i = c.loop-byte.byte-index in
    let p = λ (b : ℕ). b == newline in
    let inv : c.loop-byte.line ≡ suc (count_by p (take i xs)) = c.loop-byte.invariant in
    let lt : i < length xs = c.loop-byte-test.true in
    let low = count_by-le-length p (take i xs) in
    let few = taken xs i lt in
    let long : length xs ≡ 8388608 = c.split_at.ensures.front_len in
    omega (arith, inv, lt, low, few, long)

pub returns : goal.returns
returns c =
    let p = λ (b : ℕ). b == newline in
    c.loop-byte.invariant
    ∙ ap (λ (l : List ℕ). suc (count_by p l))
    (take_all c.loop-byte.byte-index c.split_at.result.0.now c.loop-byte-test.false ∙ c.split_at.ensures.front)
