-- Verdicts.
use Rattle.std.specs.Prelude.{Bool, true, false}
use Rattle.nz_check.specs.declared.verdict.Verdict.{Verdict}
use Rattle.nz_check.specs.declared.verdict.Verdict.TheVariants.{Yes, No}

-- The verdict is Yes.
abbrev pub is_yes : Verdict → Bool
is_yes Yes = true
is_yes (No line why) = false
