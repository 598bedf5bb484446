-- Keys are in one line.
use Rattle.std.proofs.Common.{◌≡◌, true, false, arith}
use Rattle.std.proofs.lemmas.Bool.Decides.{nat_tests}
use Rattle.nz_base.specs.declared.key.Key.{Key}
use Rattle.nz_base.specs.Key.{KeyBelow, key_below}
use Rattle.nz_base.proofs.Booleans.{true_and_false}

pub KeyBelow-test : (a b : Key) → KeyBelow a b → key_below a b ≡ true
KeyBelow-test a b h = grind (arith, nat_tests)

pub key_below-self : (a : Key) → key_below a a ≡ false
key_below-self a = grind (arith, nat_tests)

pub key_below-trans : (a b c : Key) → key_below a b ≡ true → key_below b c ≡ true → key_below a c ≡ true
key_below-trans a b c h k = grind (arith, nat_tests)

pub key_below-total : (a b : Key) → key_below a b ≡ false → key_below b a ≡ false → a ≡ b
key_below-total a b h k = grind (arith, nat_tests)

-- no key is below itself, nor are two below each other
pub never_self : {A : Type 0} (a : Key) → key_below a a ≡ true → A
never_self a h = true_and_false (key_below a a) h (key_below-self a)

pub never_both : {A : Type 0} (a b : Key) → key_below a b ≡ true → key_below b a ≡ true → A
never_both a b h k = never_self a (key_below-trans a b a h k)
