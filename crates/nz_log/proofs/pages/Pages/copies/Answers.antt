-- What the function of this folder owes, proved.
use Rattle.std.proofs.Common.{◌≡◌, ◌≤◌, ◌<◌, List, Vec, Global, length, get_or, ap, subst, ◌∙◌, arith}
use Rattle.nz_base.specs.declared.key.Entry.{Entry}
use Rattle.std.specs.Vec.{vec_capacity, vec_len}
use Rattle.nz_log.proofs.Paging.{whole_length, page_fits}
use Rattle.nz_log.proofs.pages.Pages.copies.Goals as goal

pub loop-page-init : goal.loop-page-init
loop-page-init c =
    let whole : c.self.inside.len ≡ length c.args.self.now =
    whole_length _ c.self.inside.full.items c.self.inside.last.items c.self.inside.len c.self.invariant ∙ ap length c.self.view_is in
    let count : c.len-2.result ≡ length c.args.self.now = c.len-2.ensures in
    let room : c.len-2.result ≤ vec_capacity c.in_ok-copies.copies = c.in_ok-copies.ensures.capacity in
    record { items = c.in_ok-copies.ensures.items; room = omega (arith, whole, count, room) }

pub put_copies-requires : goal.put_copies-requires
put_copies-requires c =
    let pages = c.self.inside.full.items in
    let at = c.loop-page.page-index in
    let page = c.page-item.result in
    let each = c.deref-page-items.ensures.value in
    let fits =
    page_fits _ pages c.self.inside.last.items at c.self.inside.len page c.self.invariant
    (subst (λ (ps : List (Vec Entry Global)). at < length ps) each c.loop-page-test.true)
    (subst (λ (ps : List (Vec Entry Global)). page ≡ get_or ps at page) each c.page-item.is) in
    let room = c.loop-page.invariant.room in
    let long : vec_len c.loop-page.copies ≡ length c.loop-page.copies.items = c.loop-page.copies.ok.0 in
    let items = ap length c.loop-page.invariant.items in
    let here : length c.deref.result.now ≡ length page.items = ap length c.deref.ensures.value in
    omega (arith, fits, room, long, items, here)
