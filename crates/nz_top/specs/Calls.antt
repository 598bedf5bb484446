-- What a call of the program is answered.
use Rattle.std.specs.Prelude.{ℕ, ◌≡◌, ◌⊎◌, List, [], ◌++◌, Option, Some, None, Ok, Err, IsSome, IsNone, IfSome, codes}
use Rattle.std.specs.Fmt.{decimal}
use Rattle.nz_edge.specs.Faults.{Rose}
use Rattle.nz_edge.specs.Exposed.{Gains}
use Rattle.nz_base.specs.declared.key.Id.{Id}
use Rattle.nz_base.specs.declared.scenario.Scenario.{Scenario}
use Rattle.nz_script.specs.declared.faults.Kind.{Kind}
use Rattle.nz_script.specs.declared.faults.Kind.TheVariants.{Syntax, Order, Name, Limit}
use Rattle.nz_script.specs.declared.faults.ScriptFault.TheVariants.{Refusal}
use Rattle.nz_script.specs.Draws.{scenario_of_seed}
use Rattle.nz_script.specs.Reading.{scenario}
use Rattle.nz_script.specs.Texts.{text_of}
use Rattle.nz_machine.specs.declared.journal.Journal.{Journal}
use Rattle.nz_locks.specs.Clean.{IsClean, IsFirstFoul}
use Rattle.nz_locks.specs.Exclusive.{HasOneHolder, AreInTurn}
use Rattle.nz_machine.specs.runs.Events.{events}
use Rattle.nz_machine.specs.runs.History.{history}
use Rattle.nz_machine.specs.runs.OneHistory.{NoCollision}
use Rattle.nz_machine.specs.journals.Journals.{group_in, run_in}
use Rattle.nz_machine.specs.runs.Schedule.{Scheduled}
use Rattle.nz_machine.specs.runs.World.{World}
use Rattle.nz_quiet.specs.Quiet.{IsQuiet, IsPrompt, timed_events}
use Rattle.nz_top.specs.declared.status.Status.{Status}
use Rattle.nz_top.specs.declared.status.Status.TheVariants.{Done, Usage, BadScenario, ReadFault, WriteFault, NoMemory, Rejected}
use Rattle.nz_top.specs.declared.playing.NoScenario.{NoScenario}
use Rattle.nz_top.specs.declared.playing.NoScenario.TheVariants as no_scenario
use Rattle.nz_top.specs.declared.words.Origin.{Origin}
use Rattle.nz_top.specs.declared.words.Origin.TheVariants.{Input, Seed}
use Rattle.nz_top.specs.declared.words.Command.{Command}
use Rattle.nz_top.specs.declared.words.Command.TheVariants as commands
use Rattle.nz_top.specs.declared.words.Play.{Play}
use Rattle.nz_top.specs.Help.{help_lines}
use Rattle.nz_top.specs.Bytes.{input, TakesPrefix}
use Rattle.nz_top.specs.declared.reports.Report.{Report}
use Rattle.nz_top.specs.declared.reports.Report.TheVariants.{Locks}
use Rattle.nz_top.specs.Reports.{printed_by, Admits}
use Rattle.nz_top.specs.Words.{play_of}

-- The source exposes its bytes, and those that are looked at are the text of this scenario.
abbrev pub ReadsAs : Option (List ℕ) → Scenario → Type 0
ReadsAs left s = IfSome left (λ bytes. scenario (input bytes) ≡ Ok s)

-- The source exposes its bytes, and of those looked at this line is the first bad one, with what is wrong in it.
abbrev pub RefusedAt : Option (List ℕ) → ℕ → Kind → Type 0
RefusedAt left line kind = IfSome left (λ bytes. scenario (input bytes) ≡ Err (Refusal line kind))

-- The source exposes its bytes, and those that are looked at are the text of some scenario that the report admits.
abbrev pub IsReadable : Report → Option (List ℕ) → Type 0
IsReadable report None = ⊥
IsReadable report (Some bytes) = (s : Scenario) × ((scenario (input bytes) ≡ Ok s) × Admits report s)

-- The source exposes its bytes, and those that are looked at have a bad line.
abbrev pub IsRefused : Option (List ℕ) → Type 0
IsRefused None = ⊥
IsRefused (Some bytes) = (line : ℕ) × ((kind : Kind) × (scenario (input bytes) ≡ Err (Refusal line kind)))

-- The scenario that is played: that of the input, or one that is drawn.
abbrev pub Gives : Origin → Option (List ℕ) → Scenario → Type 0
Gives Input left s = ReadsAs left s
Gives (Seed seed count) left s = s ≡ scenario_of_seed seed count

-- The source exposes its bytes, and those that are looked at are the text of some scenario that the report does not admit.
abbrev pub IsInadmissible : Report → Option (List ℕ) → Type 0
IsInadmissible report None = ⊥
IsInadmissible report (Some bytes) = (s : Scenario) × ((scenario (input bytes) ≡ Ok s) × (Admits report s → ⊥))

-- What is left of the input then: nothing, or all of it where it is not read.
abbrev pub HasRead : Origin → Option (List ℕ) → Option (List ℕ) → Type 0
HasRead Input before after = IfSome after (λ rest. rest ≡ [])
HasRead (Seed seed count) before after = after ≡ before

-- The scenario is read from the source.
abbrev pub IsInput : Origin → Type 0
IsInput Input = Unit {0}
IsInput (Seed seed count) = ⊥

-- What is played is read from the source.
abbrev pub Reads : Option Play → Type 0
Reads None = ⊥
Reads (Some play) = IsInput play.origin

-- The call reads the source.
abbrev pub ReadsSource : Option Command → Type 0
ReadsSource (Some commands.Check) = Unit {0}
ReadsSource command = Reads (play_of command)

-- There is a scenario that the report admits, and nothing keeps it from being read. The summary admits each that is drawn.
abbrev pub HasScenario : Origin → Report → Option (List ℕ) → ℕ → ℕ → Type 0
HasScenario Input report left counted counts = ¬ Rose counted counts × IsReadable report left
HasScenario (Seed seed count) report left counted counts = Unit {0}

-- There is a scenario to play.
abbrev pub CanPlay : Option Play → Option (List ℕ) → ℕ → ℕ → Type 0
CanPlay None left counted counts = ⊥
CanPlay (Some play) left counted counts = HasScenario play.origin play.report left counted counts

-- What is read is a scenario that the report does not admit.
abbrev pub ReadsInadmissible : Option Play → Option (List ℕ) → Type 0
ReadsInadmissible None left = ⊥
ReadsInadmissible (Some play) left = IsInput play.origin × IsInadmissible play.report left

-- The report admits the scenario.
abbrev pub IsAdmitted : Option Play → Scenario → Type 0
IsAdmitted None s = Unit {0}
IsAdmitted (Some play) s = Admits play.report s

-- The report is that of locks, and the scenario of the input has a foul command: this is its first.
pub record HasFoul (play : Play) (left : Option (List ℕ)) (id : Id) : Type 0 where
  pub read : IsInput play.origin
  pub scenario : Scenario
  pub given : ReadsAs left scenario
  pub report : play.report ≡ Locks
  pub first : IsFirstFoul scenario id

-- Why there is no scenario.
abbrev pub Explains : Play → Option (List ℕ) → ℕ → ℕ → NoScenario → Type 0
Explains play left counted counts (no_scenario.Refused line kind) = IsInput play.origin × RefusedAt left line kind
Explains play left counted counts (no_scenario.Foul id) = HasFoul play left id
Explains play left counted counts no_scenario.Fault = IsInput play.origin × Rose counted counts
Explains play left counted counts no_scenario.NoMemory = Unit {0}

-- The line is written whole, or a prefix of it where the sink counted a fault.
pub record WritesLine (line : List ℕ) (before after : Option (List ℕ)) (counted counts : ℕ) : Type 0 where
  pub prefix : TakesPrefix before after line
  pub whole : Rose counted counts ⊎ Gains before after line

-- The name of a refusal's kind.
abbrev pub kind_name : Kind → List ℕ
kind_name Syntax = codes "syntax"
kind_name Order = codes "order"
kind_name Name = codes "name"
kind_name Limit = codes "limit"

-- The line that reports a bad line of the input.
unfoldable pub refusal_line : ℕ → Kind → List ℕ
refusal_line line kind = codes "refused line " ++ (decimal line ++ (codes ": " ++ (kind_name kind ++ codes "\n")))

-- The first bad line of the input is reported.
pub record WritesBadLine (left before after : Option (List ℕ)) (counted counts : ℕ) : Type 0 where
  pub line : ℕ
  pub kind : Kind
  pub first : RefusedAt left line kind
  pub written : WritesLine (refusal_line line kind) before after counted counts

-- The line that reports the first foul command.
unfoldable pub foul_line : Id → List ℕ
foul_line id = codes "refused lock c" ++ (decimal id.client ++ (codes " " ++ (decimal id.num ++ codes "\n")))

-- The first foul command of the scenario is reported.
pub record WritesFoul (play : Play) (left before after : Option (List ℕ)) (counted counts : ℕ) : Type 0 where
  pub id : Id
  pub foul : HasFoul play left id
  pub written : WritesLine (foul_line id) before after counted counts

-- What is wrong with the scenario is reported: its first bad line, or its first foul command.
abbrev pub WritesWhy : Option Play → Option (List ℕ) → Option (List ℕ) → Option (List ℕ) → ℕ → ℕ → Type 0
WritesWhy None left before after counted counts = ⊥
WritesWhy (Some play) left before after counted counts =
    WritesBadLine left before after counted counts ⊎ WritesFoul play left before after counted counts

-- What is printed of the journal, nothing where nothing is played.
abbrev pub output_of : Option Play → Journal → List ℕ
output_of None j = []
output_of (Some play) j = printed_by play.report j

-- What a command prints whose words alone decide it: it reads nothing and plays nothing.
abbrev pub fixed_output : Option Command → Option (List ℕ)
fixed_output (Some (commands.Scenario seed count)) = Some (text_of (scenario_of_seed seed count))
fixed_output (Some commands.Help) = Some help_lines
fixed_output _ = None

-- The bytes are written whole, or a prefix of them where the sink counted a fault, or nothing for want of memory.
abbrev pub IsWritten : List ℕ → Status → Option (List ℕ) → Option (List ℕ) → ℕ → ℕ → Type 0
IsWritten bytes Done before after counted counts = Gains before after bytes
IsWritten bytes WriteFault before after counted counts = Rose counted counts × TakesPrefix before after bytes
IsWritten bytes NoMemory before after counted counts = after ≡ before
IsWritten bytes _ before after counted counts = ⊥

-- The command takes memory: each does but `help`.
abbrev pub TakesMemory : Option Command → Type 0
TakesMemory None = ⊥
TakesMemory (Some commands.Help) = ⊥
TakesMemory (Some _) = Unit {0}

-- The codes that the program ends with.
abbrev pub code_of : Status → ℕ
code_of Done = 0
code_of Usage = 1
code_of BadScenario = 2
code_of ReadFault = 3
code_of WriteFault = 4
code_of NoMemory = 6
code_of Rejected = 7

-- A run that was played comes back, also where it could not be written.
abbrev pub HasRun : Status → Option Journal → Type 0
HasRun Done journal = IsSome journal
HasRun WriteFault journal = IsSome journal
HasRun Usage journal = IsNone journal
HasRun BadScenario journal = IsNone journal
HasRun ReadFault journal = IsNone journal
HasRun NoMemory journal = Unit {0}
HasRun Rejected journal = IsNone journal

-- The run of a call: there is none where nothing is played.
abbrev pub HasRunOf : Option Play → Status → Option Journal → Type 0
HasRunOf None status journal = IsNone journal
HasRunOf (Some play) status journal = HasRun status journal

-- How a call ends once its scenario is read.
abbrev pub IsPlayed : Status → Type 0
IsPlayed Done = Unit {0}
IsPlayed WriteFault = Unit {0}
IsPlayed NoMemory = Unit {0}
IsPlayed _ = ⊥

-- The records are a run of the machine, which keeps to the schedule.
pub record IsRun (j : Journal) : Type 0 where
  pub world : World (group_in j) (run_in j)
  pub scheduled : Scheduled j.scenario (run_in j)

-- Where the scenario is quiet, each request that is sent 14 ticks before the last or earlier is accepted on the fast path
-- after 5 or 14 ticks.
abbrev pub HasPace : Journal → Type 0
HasPace j = IsQuiet j.scenario → IsPrompt j.scenario.ticks (timed_events (group_in j) (run_in j))

-- The run's history has no foul command, at each place at most one client holds a lock, and an acquire that was accepted
-- is over before a later one takes the lock.
pub record Excludes (j : Journal) : Type 0 where
  pub clean : IsClean (history (group_in j) (run_in j))
  pub one_holder : HasOneHolder (history (group_in j) (run_in j))
  pub in_turn : NoCollision (group_in j) (run_in j) → AreInTurn (events (group_in j) (run_in j)) (history (group_in j) (run_in j))
