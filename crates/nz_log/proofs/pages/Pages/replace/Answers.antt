-- What the function of this folder owes, proved.
use Rattle.std.proofs.Common.{◌≡◌, ◌<◌, ◌≤◌, ◌/◌, ◌%◌, List, ◌++◌, length, get_or, set, sym, ap, subst, ◌∙◌, arith}
use Rattle.std.specs.List.{flat_map}
use Rattle.std.specs.Vec.{with_item}
use Rattle.nz_base.specs.declared.key.Entry.{Entry}
use Rattle.nz_log.proofs.Paging.{in_full, in_last, last_within, set_in_full, set_in_last}
use Rattle.nz_log.proofs.pages.Pages.replace.Goals as goal

pub index_mut-requires-else-page-len : goal.index_mut-requires-else-page-len
index_mut-requires-else-page-len c =
    let size : c.self.inside.full.len ≡ length c.self.inside.full.items = c.self.inside.full.ok.0 in
    let last_size : c.self.inside.last.len ≡ length c.self.inside.last.items = c.self.inside.last.ok.0 in
    let count : c.len.result ≡ c.self.inside.full.len = c.len.ensures in
    let low : c.len.result ≤ c.args.place / 256 = c.if-page-len.false in
    let within = subst (λ (xs : List Entry). c.args.place < length xs) (sym c.self.view_is) c.requires in
    let inside : c.args.place % 256 < length c.self.inside.last.items =
    last_within _ c.self.inside.full.items c.self.inside.last.items c.args.place c.self.inside.len c.self.invariant (omega (arith, size, count, low)) within in
    omega (arith, inside, last_size)

pub returns-then-page-len-clause-value : goal.returns-then-page-len-clause-value
returns-then-page-len-clause-value c =
    let x = c.index_mut-then-page-len.result.now in
    let place = c.args.place in
    let size : c.self.inside.full.len ≡ length c.self.inside.full.items = c.self.inside.full.ok.0 in
    let count : c.len.result ≡ c.self.inside.full.len = c.len.ensures in
    let high : place / 256 < c.len.result = c.if-page-len.true in
    let there : x ≡ get_or c.args.self.now place x =
    c.index_mut-then-page-len.ensures.value
    ∙ ap (λ page. get_or page.items (place % 256) x) c.index_mut.ensures.value
    ∙ sym (in_full (λ page. page.items) c.self.inside.full.items c.self.inside.last.items place c.index_mut.result.now x c.self.invariant.each
    (omega (arith, size, count, high)))
    ∙ ap (λ (xs : List Entry). get_or xs place x) c.self.view_is in
    subst (λ (y : Entry). y ≡ get_or c.args.self.now place y) (sym c.replace.ensures.value) there

pub returns-then-page-len-clause-rest : goal.returns-then-page-len-clause-rest
returns-then-page-len-clause-rest c =
    let place = c.args.place in
    let page = c.index_mut.result.now in
    let size : c.self.inside.full.len ≡ length c.self.inside.full.items = c.self.inside.full.ok.0 in
    let count : c.len.result ≡ c.self.inside.full.len = c.len.ensures in
    let high : place / 256 < c.len.result = c.if-page-len.true in
    set_in_full (λ page. page.items) c.self.inside.full.items c.self.inside.last.items place
    (with_item page (place % 256) c.replace.new.dest) page c.args.entry c.self.invariant.each (omega (arith, size, count, high))
    (ap (λ p. set p.items (place % 256) c.replace.new.dest) c.index_mut.ensures.value
    ∙ ap (set (get_or c.self.inside.full.items (place / 256) page).items (place % 256)) c.replace.ensures.after)
    ∙ ap (λ (xs : List Entry). set xs place c.args.entry) c.self.view_is

pub returns-else-page-len-clause-value : goal.returns-else-page-len-clause-value
returns-else-page-len-clause-value c =
    let x = c.index_mut-else-page-len.result.now in
    let place = c.args.place in
    let size : c.self.inside.full.len ≡ length c.self.inside.full.items = c.self.inside.full.ok.0 in
    let count : c.len.result ≡ c.self.inside.full.len = c.len.ensures in
    let low : c.len.result ≤ place / 256 = c.if-page-len.false in
    let within = subst (λ (xs : List Entry). place < length xs) (sym c.self.view_is) c.requires in
    let there : x ≡ get_or c.args.self.now place x =
    c.index_mut-else-page-len.ensures.value
    ∙ sym (in_last _ c.self.inside.full.items c.self.inside.last.items place c.self.inside.len x c.self.invariant (omega (arith, size, count, low)) within)
    ∙ ap (λ (xs : List Entry). get_or xs place x) c.self.view_is in
    subst (λ (y : Entry). y ≡ get_or c.args.self.now place y) (sym c.replace-else-page-len.ensures.value) there

pub returns-else-page-len-clause-rest : goal.returns-else-page-len-clause-rest
returns-else-page-len-clause-rest c =
    let place = c.args.place in
    let size : c.self.inside.full.len ≡ length c.self.inside.full.items = c.self.inside.full.ok.0 in
    let count : c.len.result ≡ c.self.inside.full.len = c.len.ensures in
    let low : c.len.result ≤ place / 256 = c.if-page-len.false in
    let within = subst (λ (xs : List Entry). place < length xs) (sym c.self.view_is) c.requires in
    let full = c.self.inside.full.items in
    let last = c.self.inside.last.items in
    ap (λ (x : Entry). flat_map (λ page. page.items) full ++ set last (place % 256) x) c.replace-else-page-len.ensures.after
    ∙ set_in_last _ full last place c.self.inside.len c.args.entry c.self.invariant (omega (arith, size, count, low)) within
    ∙ ap (λ (xs : List Entry). set xs place c.args.entry) c.self.view_is
