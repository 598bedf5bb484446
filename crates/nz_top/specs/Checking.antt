-- What a check of a text is answered.
use Rattle.std.specs.Prelude.{ℕ, ◌≡◌, ◌⊎◌, List, ◌++◌, Option, IfSome, codes}
use Rattle.std.specs.Fmt.{decimal}
use Rattle.nz_check.specs.declared.verdict.Verdict.{Verdict}
use Rattle.nz_check.specs.declared.verdict.Verdict.TheVariants.{Yes, No}
use Rattle.nz_check.specs.declared.verdict.Why.{Why}
use Rattle.nz_check.specs.declared.verdict.Why.TheVariants as why
use Rattle.nz_check.specs.Checked.{checked}
use Rattle.nz_edge.specs.Exposed.{Gains}
use Rattle.nz_top.specs.declared.status.Status.{Status}
use Rattle.nz_top.specs.declared.status.Status.TheVariants.{Done, WriteFault, Rejected}
use Rattle.nz_top.specs.Calls.{WritesLine}
use Rattle.nz_top.specs.Bytes.{text_input}

-- The name of a reason.
abbrev pub why_name : Why → List ℕ
why_name why.Form = codes "form"
why_name why.Repeat = codes "repeat"
why_name why.Unsent = codes "unsent"
why_name why.Missing = codes "missing"
why_name why.Open = codes "open"
why_name why.Order = codes "order"
why_name why.Answer = codes "answer"
why_name why.Limit = codes "limit"

-- The line that says which line of a text is wrong, and why.
unfoldable pub no_line : ℕ → Why → List ℕ
no_line line reason = codes "no line " ++ (decimal line ++ (codes ": " ++ (why_name reason ++ codes "\n")))

-- The line that is written of a verdict.
abbrev pub verdict_line : Verdict → List ℕ
verdict_line Yes = codes "yes\n"
verdict_line (No line reason) = no_line line reason

-- Where the source exposes its bytes, this is the verdict on those that are looked at.
abbrev pub IsVerdictOn : Option (List ℕ) → Verdict → Type 0
IsVerdictOn left verdict = IfSome left (λ bytes. verdict ≡ checked (text_input bytes))

-- How a check ends with this verdict: a wrong text is rejected, and with a right one all is done, if that can be written.
abbrev pub EndsWith : Verdict → Status → Type 0
EndsWith Yes status = (status ≡ Done) ⊎ (status ≡ WriteFault)
EndsWith (No line reason) status = status ≡ Rejected

-- The verdict is written, and the status says which it is.
pub record WritesVerdict (verdict : Verdict) (before after : Option (List ℕ)) (counted counts : ℕ) (status : Status) : Type 0 where
  pub ends : EndsWith verdict status
  pub line : WritesLine (verdict_line verdict) before after counted counts
  pub done : status ≡ Done → Gains before after (verdict_line verdict)

-- The text of the input was judged, and the verdict is written.
pub record IsJudged (left before after : Option (List ℕ)) (counted counts : ℕ) (status : Status) : Type 0 where
  pub verdict : Verdict
  pub right : IsVerdictOn left verdict
  pub written : WritesVerdict verdict before after counted counts status
