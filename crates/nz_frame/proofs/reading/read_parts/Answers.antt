-- What the function of this folder owes, proved.
use Rattle.std.proofs.Common.{ℕ, subst, arith}
use Rattle.std.proofs.lemmas.Result.{err_from_is_err_and}
use Rattle.nz_frame.specs.Address.{IsAddress}
use Rattle.nz_frame.proofs.Headers.{AreBytes-append, ten_bytes, is_frame_of, bad_sender, bad_receiver}
use Rattle.nz_frame.proofs.reading.read_parts.Goals as goal

pub returns-clause-frame : goal.returns-clause-frame
returns-clause-frame c =
    let header = c.args.header.now in
    let body = c.args.body.now in
    let sizes = c.in_ok-check_length.ensures.ok in
    is_frame_of header body _ _ (AreBytes-append header body (λ i. omega (arith, c.type_inv.header i)) (λ i. omega (arith, c.type_inv.body i)))
    sizes.0 sizes.1 sizes.2 (ten_bytes header body c.requires sizes.0 sizes.2) c.if-header-ne-VERSION.false (c.is_kind.ensures.0 c.if-not-is_kind.false)
    c.in_ok-from.ensures.known c.in_ok-to.ensures.known c.in_ok-from.ensures.address c.in_ok-to.ensures.address

pub returns-in_err-from-clause-refused : goal.returns-in_err-from-clause-refused
returns-in_err-from-clause-refused c =
    let header = c.args.header.now in
    let body = c.args.body.now in
    let sizes = c.in_ok-check_length.ensures.ok in
    let p = err_from_is_err_and c.from_residual-in_err-from.result c.from_residual-in_err-from.ensures.1 in
    rw (p.1, p.2, c.in_err-from.ensures.refusal) (bad_sender header body sizes.0 sizes.1 sizes.2 (ten_bytes header body c.requires sizes.0 sizes.2)
    c.if-header-ne-VERSION.false (c.is_kind.ensures.0 c.if-not-is_kind.false) c.in_err-from.ensures.unknown)

pub returns-in_err-to-clause-refused : goal.returns-in_err-to-clause-refused
returns-in_err-to-clause-refused c =
    let header = c.args.header.now in
    let body = c.args.body.now in
    let sizes = c.in_ok-check_length.ensures.ok in
    let p = err_from_is_err_and c.from_residual-in_err-to.result c.from_residual-in_err-to.ensures.1 in
    rw (p.1, p.2, c.in_err-to.ensures.refusal) (bad_receiver header body sizes.0 sizes.1 sizes.2 (ten_bytes header body c.requires sizes.0 sizes.2)
    c.if-header-ne-VERSION.false (c.is_kind.ensures.0 c.if-not-is_kind.false)
    (subst (λ (a : ℕ). IsAddress a) c.in_ok-from.ensures.address c.in_ok-from.ensures.known) c.in_err-to.ensures.unknown)
