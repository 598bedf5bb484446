-- What the function of this folder owes, proved.
use Rattle.std.proofs.Common.{◌≡◌, ◌-◌, ◌<◌, ℕ, length, ap, sym, ◌∙◌, arith, refl}
use Rattle.std.specs.Prelude.{slice_get}
use Rattle.std.proofs.lemmas.Option.{slice_get_read}
use Rattle.nz_log.proofs.pages.Pages.last.Goals as goal

pub returns-in-Some : goal.returns-in-Some
returns-in-Some c =
    let es = c.args.self.now in
    let place = c.in-Some.place in
    let count : c.len.result ≡ length es = c.len.ensures in
    let checked = c.in-Some.ensures in
    let within : place < length es = omega (arith, checked.0, checked.1, count) in
    let is : place ≡ length es - 1 = omega (arith, checked.0, checked.1, count) in
    sym (slice_get_read es (length es) place c.get.result.now refl within c.get.ensures) ∙ ap (λ (n : ℕ). slice_get es n) is
