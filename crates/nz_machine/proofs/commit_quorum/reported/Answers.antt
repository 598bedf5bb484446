-- What the function of this folder owes, proved.
use Rattle.std.proofs.Common.{ℕ, ◌==◌, not, length, ap, ◌∙◌, arith}
use Rattle.std.specs.Prelude.{slice_index, slice_index_or}
use Rattle.std.specs.List.{filter}
use Rattle.std.proofs.lemmas.List.{length-map}
use Rattle.nz_base.specs.Cluster.{replica_count}
use Rattle.nz_machine.specs.rules.Replicas.{numbers_below}
use Rattle.nz_machine.proofs.lists.Reports.{gathered, others_count, reported-from_sort}
use Rattle.nz_machine.proofs.commit_quorum.reported.Goals as goal

pub bounds-ordered-f : goal.bounds-ordered-f
bounds-ordered-f c =
    let all = c.gather-count.ensures.reports ∙ ap (λ (n : ℕ). gathered c.args.me c.args.ack.now n) c.requires.acks in
    let long = ap length all in
    let same = length-map (filter (λ r. not (r == c.args.me)) (numbers_below (replica_count c.args.cluster))) (slice_index c.args.ack.now) in
    let count = others_count c.args.me (replica_count c.args.cluster) c.requires.member in
    let kept = c.sort_unstable.ensures.len in
    let least = c.f-f.ensures.least in
    let value = c.f-f.ensures.value in
    omega (arith, long, same, count, kept, least, value)

pub returns : goal.returns
returns c =
    let all = c.gather-count.ensures.reports ∙ ap (λ (n : ℕ). gathered c.args.me c.args.ack.now n) c.requires.acks in
    ap (λ (n : ℕ). slice_index_or c.sort_unstable.new.self n 0) c.f-f.ensures.value
    ∙ reported-from_sort c.args.cluster c.args.me c.args.ack.now _ c.sort_unstable.new.self all
    c.sort_unstable.ensures.permutation c.sort_unstable.ensures.sorted
