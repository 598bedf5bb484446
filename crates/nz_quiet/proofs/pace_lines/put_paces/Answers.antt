-- What the function of this folder owes, proved.
use Rattle.std.proofs.Common.{◌≡◌, ◌++◌, ℕ, List, length, get_or, OnOk, subst, ap, ◌∙◌}
use Rattle.std.specs.Prelude.{count_by}
use Rattle.nz_quiet.specs.Pace.{took, above_all}
use Rattle.nz_quiet.proofs.PaceParts.{lines_by}
use Rattle.nz_quiet.proofs.pace_lines.put_paces.Goals as goal

pub returns : goal.returns
returns c =
    let ps = c.args.paces.now in
    let counts = c.deref.result.now in
    subst (λ (bytes : List ℕ). OnOk c.put_counts.result (c.put_counts.new.out.items ≡ c.args.out.now.items ++ bytes))
    (lines_by (λ n. get_or counts n 0) (λ n. count_by (took n) ps) (length counts) (above_all ps)
    (λ n. ap (λ (xs : List ℕ). get_or xs n 0) c.deref.ensures.value ∙ c.in_ok-counts.ensures.counts n)
    (ap length c.deref.ensures.value ∙ c.in_ok-counts.ensures.len))
    c.put_counts.ensures
