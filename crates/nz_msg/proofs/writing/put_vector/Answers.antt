-- What the function of this folder owes, proved.
use Rattle.std.proofs.Common.{◌≡◌, ◌∷◌, ◌+◌, ◌*◌, ◌≤◌, ℕ, List, [], length, sym, ap, ◌∙◌, arith}
use Rattle.nz_msg.specs.Codec.{items_put}
use Rattle.nz_msg.proofs.Writes.{adds_number}
use Rattle.nz_msg.proofs.writing.put_vector.Goals as goal

pub loop-place-init : goal.loop-place-init
unfolding items_put
loop-place-init g c rest =
    ap (λ (n : ℕ). n ∷ rest) (c.size.ensures.size ∙ ap (λ (ns : List ℕ). length ns) (sym c.as_slice-counters.ensures))

pub loop-place-preserved : goal.loop-place-preserved
loop-place-preserved g c =
    let l = c.loop-place in
    let size : c.size.result ≡ length c.as_slice-counters.result.now = c.size.ensures.size ∙ ap (λ (ns : List ℕ). length ns) (sym c.as_slice-counters.ensures) in
    let few = c.size.ensures.cluster in
    let within : 1 + 4 * l.place ≤ length l.bytes = omega arith in
    adds_number (length c.as_slice-counters.result.now ∷ []) c.as_slice-counters.result.now l.bytes c.write_u32.new.buf _ l.place _ _
    within c.loop-place-test.true c.write_u32.ensures l.invariant
