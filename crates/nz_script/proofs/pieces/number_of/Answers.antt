-- What the function of this folder owes, proved.
use Rattle.std.proofs.Common.{◌≡◌, true, rules, arith, subst, List, ℕ}
use Rattle.std.specs.Str.Parse.{ParsesUnsigned}
use Rattle.nz_script.specs.Bytes.{is_numeral, number_of}
use Rattle.nz_script.proofs.Numerals.{numeral_is_utf8, parsed}
use Rattle.nz_script.proofs.pieces.number_of.Goals as goal

pub returns-in_default : goal.returns-in_default
returns-in_default c = let e : is_numeral c.args.word.now ≡ true = first_of (cc, search rules) in
    absurd (c.in_default.ensures.cases.0 (numeral_is_utf8 c.args.word.now e))

pub returns : goal.returns
unfolding number_of
returns c = let e : is_numeral c.args.word.now ≡ true = first_of (cc, search rules) in
    let p =
    parsed c.args.word.now c.parse.result e
    (subst (λ (w : List ℕ). ParsesUnsigned 64 10 w c.parse.result) c.in-Ok.ensures.cases.0 c.parse.ensures.value.0) in
    let v = c.ok.ensures.value in grind (arith, e, p, v)
