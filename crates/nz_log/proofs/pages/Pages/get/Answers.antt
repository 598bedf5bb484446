-- What the function of this folder owes, proved.
use Rattle.std.proofs.Common.{◌≡◌, ◌<◌, ◌≤◌, ◌/◌, ◌%◌, List, length, get_or, sym, ap, subst, ◌∙◌, arith}
use Rattle.nz_base.specs.declared.key.Entry.{Entry}
use Rattle.nz_log.proofs.Paging.{in_full, in_last, last_within}
use Rattle.nz_log.proofs.pages.Pages.get.Goals as goal

pub index-requires-else-page-len : goal.index-requires-else-page-len
index-requires-else-page-len c =
    let size : c.self.inside.full.len ≡ length c.self.inside.full.items = c.self.inside.full.ok.0 in
    let last_size : c.self.inside.last.len ≡ length c.self.inside.last.items = c.self.inside.last.ok.0 in
    let count : c.len.result ≡ c.self.inside.full.len = c.len.ensures in
    let low : c.len.result ≤ c.args.place / 256 = c.if-page-len.false in
    let within = subst (λ (xs : List Entry). c.args.place < length xs) (sym c.self.view_is) c.requires in
    let inside : c.args.place % 256 < length c.self.inside.last.items =
    last_within _ c.self.inside.full.items c.self.inside.last.items c.args.place c.self.inside.len c.self.invariant (omega (arith, size, count, low)) within in
    omega (arith, inside, last_size)

pub returns-then-page-len : goal.returns-then-page-len
returns-then-page-len c =
    let x = c.index-then-page-len.result.now in
    let place = c.args.place in
    let size : c.self.inside.full.len ≡ length c.self.inside.full.items = c.self.inside.full.ok.0 in
    let count : c.len.result ≡ c.self.inside.full.len = c.len.ensures in
    let high : place / 256 < c.len.result = c.if-page-len.true in
    c.index-then-page-len.ensures
    ∙ ap (λ page. get_or page.items (place % 256) x) c.index.ensures
    ∙ sym (in_full (λ page. page.items) c.self.inside.full.items c.self.inside.last.items place c.index.result.now x c.self.invariant.each
    (omega (arith, size, count, high)))
    ∙ ap (λ (xs : List Entry). get_or xs place x) c.self.view_is

pub returns-else-page-len : goal.returns-else-page-len
returns-else-page-len c =
    let x = c.index-else-page-len.result.now in
    let place = c.args.place in
    let size : c.self.inside.full.len ≡ length c.self.inside.full.items = c.self.inside.full.ok.0 in
    let count : c.len.result ≡ c.self.inside.full.len = c.len.ensures in
    let low : c.len.result ≤ place / 256 = c.if-page-len.false in
    let within = subst (λ (xs : List Entry). place < length xs) (sym c.self.view_is) c.requires in
    c.index-else-page-len.ensures
    ∙ sym (in_last _ c.self.inside.full.items c.self.inside.last.items place c.self.inside.len x c.self.invariant (omega (arith, size, count, low)) within)
    ∙ ap (λ (xs : List Entry). get_or xs place x) c.self.view_is
