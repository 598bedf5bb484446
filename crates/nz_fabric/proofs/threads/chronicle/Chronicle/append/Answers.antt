-- What the function of this folder owes, proved.
use Rattle.std.proofs.Common.{◌≤◌, sym, ◌∙◌, ap, subst, arith, length, List}
use mathlib.Core.List.{IsPrefix}
use Rattle.nz_fabric.proofs.several_threads.Adding.{adds_moves}
use Rattle.nz_base.proofs.Prefixes.{prefix_length}
use Rattle.nz_fabric.proofs.threads.chronicle.Chronicle.append.Goals as goal

pub compare_exchange-found-requires : goal.compare_exchange-found-requires
compare_exchange-found-requires g c =
    let h = c.self.invariant in
    let offer = c.plain-offer.ensures in
    let pen = c.no_pen-pen.ensures in
    let known = c.learn.ensures in
    let book = known.0 ∙ ap (λ s. s.book) c.again-both.ensures ∙ c.seen.invariant in
    let old : List _ = c.seen.inside.seen.log in
    let both : List _ = c.learn.new.self.log in
    let prefix : IsPrefix old both = subst (λ (l : List _). IsPrefix l both) (ap (λ s. s.log) c.again-both.ensures) known.2 in
    let no_longer = prefix_length old both (record { rest = prefix.0; whole = sym prefix.1 }) in
    let long : c.args.number ≤ length both = omega (arith, no_longer, c.requires.number, ap length c.seen.view_is) in (
      ap (λ w. w.tracked) h,
      book ∙ sym (ap (λ w. w.book) h),
      pen.0 ∙ (book ∙ sym (ap (λ w. w.book) h)),
      offer.0,
      rw (ap (λ w. w.key) h, pen.1, offer.1, offer.3) (adds_moves both c.args.step.now c.args.number long),
    )
