-- How a check ends.
use Rattle.std.proofs.Common.{◌≡◌, ◌⊎◌, inl, inr, ℕ, List, Option, Some, None, sym, ap, ◌∙◌}
use Rattle.std.specs.Prelude.{IfSome}
use Rattle.nz_check.specs.Checked.{checked}
use Rattle.nz_check.specs.declared.verdict.Verdict.{Verdict}
use Rattle.nz_check.specs.declared.verdict.Verdict.TheVariants.{Yes, No}
use Rattle.nz_edge.specs.Faults.{Rose}
use Rattle.nz_top.specs.declared.status.Status.{Status}
use Rattle.nz_top.specs.declared.status.Status.TheVariants.{Done, ReadFault, WriteFault, NoMemory, Rejected}
use Rattle.nz_top.specs.Checking.{IsVerdictOn, EndsWith}
use Rattle.nz_top.specs.Bytes.{text_input}

-- what was read is what is looked at of the input, and so the verdict is on that
pub judged_is_input : (before : Option (List ℕ)) (bytes : List ℕ) (verdict : Verdict) → IfSome before (λ all. bytes ≡ text_input all)
    → verdict ≡ checked bytes → IsVerdictOn before verdict
judged_is_input None bytes verdict h e = tt
judged_is_input (Some all) bytes verdict h e = e ∙ ap checked h

-- where the verdict was written, the call ends with it
pub verdict_written : (verdict : Verdict) (status : Status) (counted counts : ℕ) → EndsWith verdict status → (status ≡ WriteFault → Rose counted counts)
    → ¬ Rose counted counts → ((status ≡ Done) ⊎ (status ≡ Rejected)) ⊎ (status ≡ NoMemory)
verdict_written Yes status counted counts (inl done) fault not = inl (inl done)
verdict_written Yes status counted counts (inr failed) fault not = absurd (not (fault failed))
verdict_written (No line why) status counted counts rejected fault not = inl (inr rejected)

-- where there is a verdict, neither reading nor memory failed
pub nothing_failed : (verdict : Verdict) (status : Status) → EndsWith verdict status → (status ≡ ReadFault) ⊎ (status ≡ NoMemory) → ⊥
nothing_failed Yes status (inl done) (inl e) = let h : Done ≡ ReadFault = sym done ∙ e in absurd cc
nothing_failed Yes status (inl done) (inr e) = let h : Done ≡ NoMemory = sym done ∙ e in absurd cc
nothing_failed Yes status (inr failed) (inl e) = let h : WriteFault ≡ ReadFault = sym failed ∙ e in absurd cc
nothing_failed Yes status (inr failed) (inr e) = let h : WriteFault ≡ NoMemory = sym failed ∙ e in absurd cc
nothing_failed (No line why) status rejected (inl e) = let h : Rejected ≡ ReadFault = sym rejected ∙ e in absurd cc
nothing_failed (No line why) status rejected (inr e) = let h : Rejected ≡ NoMemory = sym rejected ∙ e in absurd cc
