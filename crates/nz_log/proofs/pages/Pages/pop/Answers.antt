-- What the function of this folder owes, proved.
use Rattle.std.proofs.Common.{◌≡◌, ℕ, ◌-◌, ◌<◌, ◌≤◌, List, ◌++◌, length, take, ap, ◌∙◌, arith}
use Rattle.std.specs.List.{flat_map}
use Rattle.nz_base.specs.declared.key.Entry.{Entry}
use Rattle.nz_log.proofs.Paging.{last_out, page_out}
use Rattle.nz_log.proofs.pages.Pages.pop.Goals as goal

pub returns-then-end-gt0 : goal.returns-then-end-gt0
returns-then-end-gt0 c =
    let full = c.self.inside.full.items in
    let last = c.self.inside.last.items in
    let size : c.self.inside.last.len ≡ length last = c.self.inside.last.ok.0 in
    let count : c.len-end.result ≡ c.self.inside.last.len = c.len-end.ensures in
    let some : 0 < c.len-end.result = c.if-end-gt0.true in
    let end : c.len-end.result - 1 ≡ length last - 1 = omega (arith, size, count) in
    ap (λ (xs : List Entry). flat_map (λ page. page.items) full ++ xs) (c.truncate.ensures.items ∙ ap (λ (n : ℕ). take n last) end)
    ∙ last_out (flat_map (λ page. page.items) full) last (omega (arith, size, count, some))
    ∙ ap (λ (xs : List Entry). take (length xs - 1) xs) c.self.view_is

pub returns-in-Some : goal.returns-in-Some
returns-in-Some c =
    let full = c.self.inside.full.items in
    let last = c.self.inside.last.items in
    let size : c.self.inside.last.len ≡ length last = c.self.inside.last.ok.0 in
    let count : c.len-end.result ≡ c.self.inside.last.len = c.len-end.ensures in
    let none : c.len-end.result ≤ 0 = c.if-end-gt0.false in
    ap (λ (xs : List Entry). flat_map (λ page. page.items) c.pop.new.self.items ++ xs) c.truncate-in-Some.ensures.items
    ∙ page_out (λ page. page.items) c.pop.new.self.items full c.in-Some.page last c.in-Some.ensures.items c.self.invariant.each
    (omega (arith, size, count, none))
    ∙ ap (λ (xs : List Entry). take (length xs - 1) xs) c.self.view_is
