-- The input is what was read.
use Rattle.std.proofs.Common.{◌≡◌, ◌≢◌, ◌<◌, ◌≤◌, ◌⊎◌, inl, inr, ℕ, List, [], ◌++◌, length, Option, Some, Result, refl}
use Rattle.std.proofs.Common.{None, Ok, Err, sym, ap, subst, ◌∙◌, arith, append-nil, take_all}
use Rattle.std.specs.Prelude.{IfSome, take}
use Rattle.std.proofs.lemmas.List.{take_at}
use Rattle.std.proofs.lemmas.Bool.{cases_lt}
use Rattle.std.proofs.lemmas.Option.{none-some, same_Some}
use Rattle.nz_edge.specs.Exposed.{Loses}
use Rattle.nz_edge.specs.Faults.{Rose}
use Rattle.nz_base.specs.declared.key.Id.{Id}
use Rattle.nz_base.specs.declared.scenario.Scenario.{Scenario}
use Rattle.nz_locks.proofs.Fouls.{not_clean}
use Rattle.nz_locks.specs.Clean.{IsFirstFoul}
use Rattle.nz_script.specs.declared.faults.Kind.{Kind}
use Rattle.nz_script.specs.declared.faults.ScriptFault.{ScriptFault}
use Rattle.nz_script.specs.declared.faults.ScriptFault.TheVariants.{Refusal, NoMemory}
use Rattle.nz_script.specs.Reading.{scenario}
use Rattle.nz_top.specs.Bytes.{input}
use Rattle.nz_top.specs.declared.reports.Report.{Report}
use Rattle.nz_top.specs.declared.reports.Report.TheVariants.{Summary, Locks}
use Rattle.nz_top.specs.declared.words.Command.{Command}
use Rattle.nz_top.specs.declared.words.Command.TheVariants as commands
use Rattle.nz_top.specs.declared.words.Origin.{Origin}
use Rattle.nz_top.specs.declared.words.Origin.TheVariants.{Input, Seed}
use Rattle.nz_top.specs.declared.words.Play.{Play}
use Rattle.nz_top.specs.declared.playing.NoScenario.{NoScenario}
use Rattle.nz_top.specs.declared.playing.NoScenario.TheVariants as no_scenario
use Rattle.nz_top.specs.Reports.{Admits}
use Rattle.nz_top.specs.Words.{IsInRange, IsReportOf, play_of}
use Rattle.nz_top.specs.Calls.{CanPlay, Explains, Gives, HasFoul, HasScenario, IsInput, ReadsAs, RefusedAt, WritesBadLine, WritesWhy, WritesLine, refusal_line}

at_end : (most : ℕ) (bytes rest : List ℕ) → length bytes ≤ most → (length bytes < most → rest ≡ []) → bytes ≡ take most (bytes ++ rest)
at_end most bytes rest few end = go (cases_lt (length bytes) most)
  where
    go : (length bytes < most) ⊎ (most ≤ length bytes) → bytes ≡ take most (bytes ++ rest)
    go (inl less) = sym (ap (λ (r : List ℕ). take most (bytes ++ r)) (end less) ∙ ap (take most) (append-nil bytes) ∙ take_all most bytes few)
    go (inr more) = sym (take_at bytes rest most (omega (arith, few, more)))

pub read_is_input : (most : ℕ) (before after : Option (List ℕ)) (bytes : List ℕ) → Loses before after bytes → length bytes ≤ most
    → (length bytes < most → IfSome after (λ rest. rest ≡ [])) → IfSome before (λ all. bytes ≡ take most all)
read_is_input most None after bytes lost few end = tt
read_is_input most (Some all) None bytes lost few end = absurd (none-some all (sym lost))
read_is_input most (Some all) (Some rest) bytes lost few end =
    at_end most bytes rest few end ∙ ap (take most) (sym (same_Some _ _ lost))

pub found_is_input : (before : Option (List ℕ)) (bytes : List ℕ) (s : Scenario)
    → IfSome before (λ all. bytes ≡ input all) → scenario bytes ≡ Ok s → ReadsAs before s
found_is_input None bytes s h f = tt
found_is_input (Some all) bytes s h f = ap scenario (sym h) ∙ f

refused_as : (before : Option (List ℕ)) (bytes : List ℕ) (line : ℕ) (kind : Kind)
    → IfSome before (λ all. bytes ≡ input all) → scenario bytes ≡ Err (Refusal line kind) → RefusedAt before line kind
refused_as None bytes line kind h f = tt
refused_as (Some all) bytes line kind h f = ap scenario (sym h) ∙ f

no_want : (line : ℕ) (kind : Kind) → Refusal line kind ≡ NoMemory → ⊥
no_want line kind e = absurd cc

pub refused_is_input : (before : Option (List ℕ)) (bytes read : List ℕ) (fault : ScriptFault) (line : ℕ) (kind : Kind)
    → IfSome before (λ all. bytes ≡ input all) → read ≡ bytes → fault ≡ Refusal line kind
    → (fault ≢ NoMemory → scenario read ≡ Err fault) → RefusedAt before line kind
refused_is_input before bytes read fault line kind h same is f =
    refused_as before bytes line kind h (ap scenario (sym same) ∙ f (λ e. no_want line kind (sym is ∙ e)) ∙ ap Err is)

pub line_written : (play : Play) (left before after : Option (List ℕ)) (counted counts a b line said_line : ℕ) (kind said : Kind) (why : NoScenario)
    → why ≡ no_scenario.Refused line kind → said_line ≡ line → said ≡ kind → Explains play left a b why
    → WritesLine (refusal_line said_line said) before after counted counts → WritesBadLine left before after counted counts
line_written play left before after counted counts a b line said_line kind said why is same_line same_kind first written = record {
  line = line;
  kind = kind;
  first = (subst (Explains play left a b) is first).1;
  written =
      subst (λ (n : ℕ). WritesLine (refusal_line n kind) before after counted counts) same_line
      (subst (λ (k : Kind). WritesLine (refusal_line said_line k) before after counted counts) same_kind written);
}

-- what is read is one scenario
same_read : (r : Result Scenario ScriptFault) (s t : Scenario) → r ≡ Ok s → r ≡ Ok t → s ≡ t
same_read r s t a b = cc

-- a scenario with a foul command is not to be played
foul_not : (origin : Origin) (report : Report) (left : Option (List ℕ)) (s : Scenario) (id : Id) (a b : ℕ) → IsInput origin → ReadsAs left s
    → report ≡ Locks → IsFirstFoul s id → HasScenario origin report left a b → ⊥
foul_not Input report None s id a b read given locks foul has = has.1
foul_not Input report (Some bytes) s id a b read given locks foul has =
    not_clean s id foul
    (subst (λ (r : Report). Admits r s) locks
    (subst (Admits report) (same_read (scenario (input bytes)) has.1.0 s has.1.1.0 given) has.1.1.1))
foul_not (Seed seed count) report left s id a b read given locks foul has = read

-- nor is a text with a bad line
refused_not : (origin : Origin) (report : Report) (left : Option (List ℕ)) (line : ℕ) (kind : Kind) (a b : ℕ) → IsInput origin
    → RefusedAt left line kind → HasScenario origin report left a b → ⊥
refused_not Input report None line kind a b read refused has = has.1
refused_not Input report (Some bytes) line kind a b read refused has = let read_as = has.1.1.0 in absurd cc
refused_not (Seed seed count) report left line kind a b read refused has = read

fault_not : (origin : Origin) (report : Report) (left : Option (List ℕ)) (a b : ℕ) → IsInput origin → Rose a b → HasScenario origin report left a b → ⊥
fault_not Input report left a b read rose has = has.0 rose
fault_not (Seed seed count) report left a b read rose has = read

-- where there is a scenario to play, memory alone can be missing
pub only_memory : (play : Play) (left : Option (List ℕ)) (a b : ℕ) (why : NoScenario) → Explains play left a b why
    → CanPlay (Some play) left a b → why ≡ no_scenario.NoMemory
only_memory play left a b (no_scenario.Refused line kind) h has = absurd (refused_not play.origin play.report left line kind a b h.0 h.1 has)
only_memory play left a b (no_scenario.Foul id) h has = absurd (foul_not play.origin play.report left h.scenario id a b h.read h.given h.report h.first has)
only_memory play left a b no_scenario.Fault h has = absurd (fault_not play.origin play.report left a b h.0 h.1 has)
only_memory play left a b no_scenario.NoMemory h has = refl

-- a foul command is one of the input, since a scenario that is drawn has another report
read_for_locks : (origin : Origin) (report : Report) (left : Option (List ℕ)) (s : Scenario) → IsReportOf origin report → report ≡ Locks
    → Gives origin left s → IsInput origin × ReadsAs left s
read_for_locks Input report left s of locks given = (tt, given)
read_for_locks (Seed seed count) report left s of locks given = let other : Summary ≡ Locks = sym of ∙ locks in absurd cc

pub found_foul : (play : Play) (left : Option (List ℕ)) (s : Scenario) (id : Id) → IsInRange play → Gives play.origin left s
    → (play.report ≡ Locks) × IsFirstFoul s id → HasFoul play left id
found_foul play left s id range given foul =
    let read = read_for_locks play.origin play.report left s range.report foul.0 given in
    record { read = read.0; scenario = s; given = read.1; report = foul.0; first = foul.1 }

-- ---- what is reported

pub bad_line_why : (o : Option Command) (play : Play) (left before after : Option (List ℕ)) (counted counts : ℕ) → Some (commands.Play play) ≡ o
    → WritesBadLine left before after counted counts → WritesWhy (play_of o) left before after counted counts
bad_line_why o play left before after counted counts is h =
    subst (λ (p : Option Command). WritesWhy (play_of p) left before after counted counts) is (inl h)
